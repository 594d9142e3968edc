-- A window: the stored words of some pages, one after the other. A page past its end counts as unready, as a word 0 does.
use Rattle.std.specs.Prelude.{◌≡◌, ℕ, ◌<◌, cond, List, length, Result, Ok, Err, count_by, slice_index}
use Rattle.paging.specs.declared.page.Entry.{Entry}
use Rattle.paging.specs.declared.page.PageState.{PageState}
use Rattle.paging.specs.declared.page.PageState.TheVariants.{Unready, Ready}
use Rattle.paging.specs.declared.window.PutError.{PutError}
use Rattle.paging.specs.declared.window.PutError.TheVariants as error
use Rattle.paging.specs.Ranges.{within}
use Rattle.paging.specs.States.{is_ready}
use Rattle.paging.specs.Word.{absent_word, entry_word, state_of, storable, unready_word}

-- the state of page q
abbrev pub window_state : List ℕ → ℕ → PageState
window_state ws q = state_of (slice_index ws q)

-- how many pages are ready
abbrev pub ready_in : List ℕ → ℕ
ready_in ws = count_by (λ w. is_ready (state_of w)) ws

-- what reserve stores for a word: the word itself where it is ready, else ready and absent
abbrev pub readied : ℕ → ℕ
readied w = cond (is_ready (state_of w)) w absent_word

-- what release stores for any word
abbrev pub unreadied : ℕ → ℕ
unreadied w = unready_word

-- what put stores for any word
abbrev pub replaced : Entry → ℕ → ℕ
replaced e w = entry_word e

-- the words of the n pages from a, as far as there are any, became f of what they were, and no other changed
pub record Rewrites (f : ℕ → ℕ) (a n : ℕ) (ws vs : List ℕ) : Type 0 where
  pub long : length vs ≡ length ws
  pub words : (k : ℕ) → k < length ws → slice_index vs k ≡ cond (within a n k) (f (slice_index ws k)) (slice_index ws k)

-- what put answers at a page in a state
abbrev pub put_answer : PageState → Entry → Result (Unit {0}) PutError
put_answer Unready e = Err error.Unready
put_answer (Ready f) e = cond (storable e) (Ok tt) (Err error.FrameTooLarge)
