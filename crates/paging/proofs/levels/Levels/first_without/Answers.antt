-- The leaves that are left are the free ones without those that the blocks so far lack.
use Rattle.std.proofs.Common.{rules, arith}
use Rattle.paging.proofs.Spans.{first_without_found, first_without_more, first_without_none, lacking_start}
use Rattle.paging.proofs.levels.Levels.first_without.Goals as goal

pub loop-number-init : goal.loop-number-init
loop-number-init c = search (rules, lacking_start)

pub returns-then-lacked-left : goal.returns-then-lacked-left
returns-then-lacked-left c = first_without_found _ _ _ _ _ _ c.first_block-number.ensures c.loop-number.invariant _ c.lacking-lacked.ensures (omega arith) (omega arith) (omega arith)

pub loop-number-preserved : goal.loop-number-preserved
loop-number-preserved c = search (rules, first_without_more)

pub returns : goal.returns
returns c = first_without_none _ _ _ _ _ _ c.first_block-number.ensures c.loop-number.invariant (omega arith) (omega arith)
