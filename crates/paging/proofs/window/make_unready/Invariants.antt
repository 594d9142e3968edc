-- The words so far are unready and were counted where they had been ready, and the others are as they were.
use Rattle.std.proofs.Common.{◌≡◌, ℕ, ◌≤◌, get_or, map, take}
use Rattle.paging.specs.Window.{ready_in, unreadied}
use Rattle.paging.proofs.window.make_unready.Given as goal

abbrev pub invariant-loop-word : goal.invariant-loop-word
invariant-loop-word l =
    (take l.word-index l.words ≡ map unreadied (take l.word-index l.initial.words))
    × ((k : ℕ) → l.word-index ≤ k → get_or l.words k 0 ≡ get_or l.initial.words k 0)
    × (l.lost ≡ ready_in (take l.word-index l.initial.words))
    × (l.lost ≤ l.word-index)
