-- The pages of the range are those of its span.
use Rattle.paging.proofs.TwoLevelMeaning.{two_level_released}
use Rattle.paging.proofs.two_level.TwoLevelTablePageTable.release.Goals as goal

pub returns : goal.returns
returns c = two_level_released _ _ _ c.args.self.now.levels _ c.new.ensures c.release.new.self _ _ c.from.ensures.0 c.from.ensures.1 c.release.ensures
