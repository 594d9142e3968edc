-- Each leaf is listed once.
use Rattle.std.proofs.Common.{arith, rules}
use Rattle.paging.proofs.Directories.{listed_once}
use Rattle.paging.proofs.directory.Directory.new.Goals as goal

pub invariant_of-result-clause-once : goal.invariant_of-result-clause-once
invariant_of-result-clause-once c = λ l low.
    omega (arith, listed_once c.from.result.items (λ i inside. let h = c.from_fn.ensures.items.at i 0 (omega arith) in rw c.from.ensures.0 (search rules)) l (omega arith))
