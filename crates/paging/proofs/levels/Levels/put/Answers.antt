-- An entry that is put in the block's leaf is put in the table.
use Rattle.std.proofs.Common.{arith}
use Rattle.paging.proofs.LevelSteps.{put_changes, put_used}
use Rattle.paging.proofs.levels.Levels.put.Goals as goal

pub invariant_of-self-clause-used : goal.invariant_of-self-clause-used
invariant_of-self-clause-used c =
    put_used c.args.self.now c.args.place.index c.from.result _ (omega arith) (cc) c.page.ensures c.index-leaves-from.result c.put.new.self _ _ c.put.ensures.answer c.put.ensures.after

pub returns-in-Some-clause-states : goal.returns-in-Some-clause-states
returns-in-Some-clause-states c =
    put_changes c.args.self.now c.args.place.index c.from.result _ (omega arith) (cc) c.page.ensures c.index-leaves-from.result c.put.new.self _ _ c.put.ensures.answer c.put.ensures.after
