-- The block's leaf is rewritten, and given back where no page of it is ready any more.
use Rattle.std.proofs.Common.{refl, arith}
use Rattle.std.proofs.lemmas.Bool.Decides.{nat_tests}
use Rattle.paging.specs.States.{made_unready}
use Rattle.paging.specs.Window.{unreadied}
use Rattle.paging.proofs.LevelSteps.{lent_changes, lent_used, lost_changes, lost_used}
use Rattle.paging.proofs.levels.Levels.release_in.Goals as goal

pub invariant_of-self-clause-used : goal.invariant_of-self-clause-used
invariant_of-self-clause-used c = lost_used c.args.self.now c.from.result (omega arith) c.release.new.self c.args.block.number (cc) c.detach.new.self.slots c.detach.ensures

pub invariant_of-self-else-release-clause-used : goal.invariant_of-self-else-release-clause-used
invariant_of-self-else-release-clause-used c = lent_used c.args.self.now c.from.result (omega arith) c.release.new.self (grind (arith, nat_tests, c.if-release.ensures.empty))

pub returns-then-release : goal.returns-then-release
returns-then-release c =
    lost_changes c.args.self.now c.from.result (omega arith) c.release.new.self c.args.block.number (cc) _ c.detach.ensures c.if-release.ensures.empty
    _ _ _ _ c.pages_in-pages.ensures c.index-leaves-from.result c.release.ensures.words

pub returns-else-release : goal.returns-else-release
returns-else-release c =
    lent_changes c.args.self.now c.from.result (omega arith) c.release.new.self c.args.block.number (cc)
    unreadied made_unready (λ w. refl) _ _ _ _ c.pages_in-pages.ensures c.index-leaves-from.result c.release.ensures.words
