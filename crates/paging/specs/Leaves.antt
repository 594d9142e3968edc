-- The leaves: what the leaf of each block and the words of each leaf mean.
use Rattle.std.specs.Prelude.{◌≡◌, ℕ, ◌/◌, ◌%◌, ◌≤◌, Bool, cond, List, [], map, Some, None, Option, slice_index_or}
use Rattle.paging.specs.declared.leaf.Leaf.{Leaf}
use Rattle.paging.specs.declared.page.PageState.{PageState}
use Rattle.paging.specs.declared.page.PageState.TheVariants.{Unready}
use Rattle.paging.specs.Blocks.{block_pages, known, place}
use Rattle.paging.specs.Directory.{leaf_of}
use Rattle.paging.specs.States.{is_ready}
use Rattle.paging.specs.Window.{ready_in, window_state}

-- the words of each leaf
abbrev pub words_in : List Leaf → List (List ℕ)
words_in leaves = map (λ l. l.words) leaves

-- the state of page i of a block, by the leaf that the block holds: without a leaf it is unready
abbrev pub leaf_state : List (List ℕ) → Option ℕ → ℕ → PageState
leaf_state words None i = Unready
leaf_state words (Some l) i = window_state (slice_index_or words l []) i

-- the state of the page at place x
abbrev pub state_at : List (Option ℕ) → List (List ℕ) → ℕ → PageState
state_at slots words x = leaf_state words (leaf_of slots (x / block_pages)) (x % block_pages)

-- the state of page q of process p
abbrev pub page_state : List (Option ℕ) → List (List ℕ) → ℕ → ℕ → PageState
page_state slots words p q = cond (known p q) (state_at slots words (place p q)) Unready

-- whether the page is ready
abbrev pub page_ready : List (Option ℕ) → List (List ℕ) → ℕ → ℕ → Bool
page_ready slots words p q = is_ready (page_state slots words p q)

-- a leaf that a block holds has a ready page
abbrev pub Used : List (Option ℕ) → List (List ℕ) → Type 0
Used slots words = (b l : ℕ) → leaf_of slots b ≡ Some l → 1 ≤ ready_in (slice_index_or words l [])

-- the pages whose places pass the test have the state that f makes of the one they had, and no other page's state changed
abbrev pub Changes : (PageState → PageState) → (ℕ → Bool) → List (Option ℕ) → List (List ℕ) → List (Option ℕ) → List (List ℕ) → Type 0
Changes f test slots words slots' words' =
    (x : ℕ) → state_at slots' words' x ≡ cond (test x) (f (state_at slots words x)) (state_at slots words x)
