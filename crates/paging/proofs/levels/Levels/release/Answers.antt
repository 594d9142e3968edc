-- The pages of one block more are unready.
use Rattle.std.proofs.Common.{rules}
use Rattle.paging.proofs.Spans.{changes_more}
use Rattle.paging.proofs.levels.Levels.release.Goals as goal

pub loop-number-preserved : goal.loop-number-preserved
loop-number-preserved c = search (rules, changes_more)
