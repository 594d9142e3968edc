-- The words so far are ready and were counted where they had not been, and the others are as they were.
use Rattle.std.proofs.Common.{◌≡◌, ℕ, ◌+◌, ◌≤◌, get_or, map, take}
use Rattle.paging.specs.Window.{readied, ready_in}
use Rattle.paging.proofs.window.make_ready.Given as goal

abbrev pub invariant-loop-word : goal.invariant-loop-word
invariant-loop-word l =
    (take l.word-index l.words ≡ map readied (take l.word-index l.initial.words))
    × ((k : ℕ) → l.word-index ≤ k → get_or l.words k 0 ≡ get_or l.initial.words k 0)
    × (l.gained + ready_in (take l.word-index l.initial.words) ≡ l.word-index)
