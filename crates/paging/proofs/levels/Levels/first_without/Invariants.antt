-- The leaves that are left and those that the blocks so far lack are together what was free.
use Rattle.std.proofs.Common.{◌≡◌, ◌+◌, ◌-◌}
use Rattle.paging.specs.Directory.{holds}
use Rattle.paging.specs.Lacking.{free_leaves, lacking}
use Rattle.paging.specs.TwoLevel.{slots_of}
use Rattle.paging.proofs.levels.Levels.first_without.Given as goal

abbrev pub invariant-loop-number : goal.invariant-loop-number
invariant-loop-number l = l.left + lacking (holds (slots_of l.self)) l.initial.number (l.number - l.initial.number) ≡ free_leaves (holds (slots_of l.self))
