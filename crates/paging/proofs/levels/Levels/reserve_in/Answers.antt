-- The block's leaf is rewritten, or made anew where it gets one: a page of it is ready in the end.
use Rattle.std.proofs.Common.{refl, arith}
use Rattle.paging.specs.States.{made_ready}
use Rattle.paging.specs.Window.{readied}
use Rattle.paging.proofs.LevelSteps.{lent_changes, lent_used, some_ready, taken_changes, taken_used}
use Rattle.paging.proofs.Windows.{readied_means}
use Rattle.paging.proofs.levels.Levels.reserve_in.Goals as goal

pub invariant_of-self-clause-used : goal.invariant_of-self-clause-used
invariant_of-self-clause-used c =
    lent_used c.args.self.now c.from.result (omega arith) c.reserve.new.self
    (some_ready _ _ _ _ _ c.requires.some c.pages_in-pages.ensures _ _ c.reserve.new.self.sized c.reserve.ensures)

pub returns-in-Some-clause-states : goal.returns-in-Some-clause-states
returns-in-Some-clause-states c =
    lent_changes c.args.self.now c.from.result (omega arith) c.reserve.new.self c.args.block.number (cc)
    readied made_ready readied_means _ _ _ _ c.pages_in-pages.ensures c.index-leaves-from.result c.reserve.ensures

pub invariant_of-self-in-None-clause-used : goal.invariant_of-self-in-None-clause-used
invariant_of-self-in-None-clause-used c =
    taken_used c.args.self.now c.from-in-None.result (omega arith) c.renew.new.self c.args.block.number c.attach.new.self.slots (cc)
    c.args.block.inside (rw (← c.from-in-None.ensures) at c.attach.ensures.was) (rw (← c.from-in-None.ensures) at c.attach.ensures.now)
    (some_ready _ _ _ _ _ c.requires.some c.pages_in-pages.ensures _ _ c.renew.new.self.sized c.renew.ensures)

pub returns-in-None-clause-states : goal.returns-in-None-clause-states
returns-in-None-clause-states c =
    taken_changes c.args.self.now c.from-in-None.result (omega arith) c.renew.new.self c.args.block.number c.attach.new.self.slots (cc)
    c.args.block.inside (rw (← c.from-in-None.ensures) at c.attach.ensures.was) (rw (← c.from-in-None.ensures) at c.attach.ensures.now)
    readied made_ready readied_means _ _ _ _ c.pages_in-pages.ensures _ refl c.renew.ensures
