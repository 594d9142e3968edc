-- The two-level table: what its directory and its leaves mean.
use Rattle.std.specs.Prelude.{ℕ, ◌*◌, ◌/◌, ◌%◌, Bool, List, is_some, Option}
use Rattle.paging.specs.declared.levels.Levels.{Levels}
use Rattle.paging.specs.declared.page.PageState.{PageState}
use Rattle.paging.specs.Blocks.{block_pages, process_blocks}
use Rattle.paging.specs.Lacking.{first_of, two_level_fault}
use Rattle.paging.specs.Leaves.{Changes, page_state, state_at, words_in}
use Rattle.paging.specs.Meaning.{Meaning}
use Rattle.paging.specs.States.{by_states, is_ready}

-- the leaf of each block
abbrev pub slots_of : Levels → List (Option ℕ)
slots_of t = t.directory.slots

-- the words of each leaf
abbrev pub words_of : Levels → List (List ℕ)
words_of t = words_in t.leaves

-- the state of the page at place x
abbrev pub place_state : Levels → ℕ → PageState
place_state t x = state_at (slots_of t) (words_of t) x

-- the state of page q of process p
abbrev pub two_level_state : Levels → ℕ → ℕ → PageState
two_level_state t p q = page_state (slots_of t) (words_of t) p q

-- whether the page is ready
abbrev pub two_level_ready : Levels → ℕ → ℕ → Bool
two_level_ready t p q = is_ready (two_level_state t p q)

-- whether one of the pages of block b is ready
abbrev pub block_ready : (ℕ → ℕ → Bool) → ℕ → Bool
block_ready ready b = is_some (first_of (ready (b / process_blocks)) (b % process_blocks * block_pages) block_pages)

-- what the table means: which ranges fit follows from which pages are ready, since a block holds a leaf exactly while one of its pages is
abbrev pub two_level : Levels → Meaning
two_level t = by_states (two_level_state t) (two_level_fault (block_ready (two_level_ready t)))

-- the pages whose places pass the test have the state that f makes of the one they had, and no other page's state changed
abbrev pub Changed : (PageState → PageState) → (ℕ → Bool) → Levels → Levels → Type 0
Changed f test t u = Changes f test (slots_of t) (words_of t) (slots_of u) (words_of u)
