-- The pages of the blocks so far are unready.
use Rattle.paging.specs.States.{made_unready}
use Rattle.paging.specs.TwoLevel.{Changed}
use Rattle.paging.proofs.Spans.{below_block}
use Rattle.paging.proofs.levels.Levels.release.Given as goal

abbrev pub invariant-loop-number : goal.invariant-loop-number
invariant-loop-number l = Changed made_unready (below_block l.number l.span.start l.span.end) l.initial.self l.self
