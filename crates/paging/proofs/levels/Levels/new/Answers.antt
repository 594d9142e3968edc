-- No leaf is held, so none lacks a ready page.
use Rattle.std.proofs.Common.{rules}
use Rattle.paging.proofs.TwoLevelMeaning.{none_used}
use Rattle.paging.proofs.levels.Levels.new.Goals as goal

pub invariant_of-result-clause-used : goal.invariant_of-result-clause-used
invariant_of-result-clause-used c = search (rules, none_used)
