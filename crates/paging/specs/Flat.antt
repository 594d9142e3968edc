-- The flat table: what the words of its memory mean.
use Rattle.std.specs.Prelude.{◌≡◌, ℕ, ◌+◌, ◌*◌, ◌<◌, ◌≤◌, Bool, cond, not, ◌&&◌, List, length, Some, None, Option, Result, MatchResult, nat_le, nat_lt, slice_index}
use Rattle.paging.specs.declared.page.Fault.{Fault}
use Rattle.paging.specs.declared.page.PageState.{PageState}
use Rattle.paging.specs.declared.page.PageState.TheVariants.{Unready}
use Rattle.paging.specs.Meaning.{Meaning}
use Rattle.paging.specs.Ranges.{processes, in_range, ruled_out}
use Rattle.paging.specs.States.{by_states}
use Rattle.paging.specs.Word.{state_of}

-- the most pages of a process
abbrev pub flat_pages : ℕ
flat_pages = 1024

-- how many words the table takes
abbrev pub flat_words : ℕ
flat_words = processes * flat_pages

-- whether the memory is long enough for the table: in shorter memory nothing is ready, and nothing fits
abbrev pub whole : List ℕ → Bool
whole ws = nat_le flat_words (length ws)

-- where page q of process p has its word: each process has a window, one after the other
abbrev pub place : ℕ → ℕ → ℕ
place p q = p * flat_pages + q

-- where the window of process p begins, or none where it has none
abbrev pub window_start : List ℕ → ℕ → Option ℕ
window_start ws p = cond (whole ws && nat_lt p processes) (Some (place p 0)) None

-- whether page q of process p has a word
abbrev pub has_word : List ℕ → ℕ → ℕ → Bool
has_word ws p q = whole ws && (nat_lt p processes && nat_lt q flat_pages)

-- the state of page q of process p: a page without a word is unready
abbrev pub flat_state : List ℕ → ℕ → ℕ → PageState
flat_state ws p q = cond (has_word ws p q) (state_of (slice_index ws (place p q))) Unready

-- whether a range fits: every range does that is not ruled out
abbrev pub flat_fits : List ℕ → ℕ → ℕ → ℕ → Bool
flat_fits ws p a n = whole ws && not (ruled_out flat_pages p a n)

-- the fault names the range's process and first page
abbrev pub flat_fault : List ℕ → ℕ → ℕ → ℕ → Option Fault
flat_fault ws p a n = cond (flat_fits ws p a n) None (Some (record { process = p; page = a }))

-- what the table means
abbrev pub flat : List ℕ → Meaning
flat ws = by_states (flat_state ws) (flat_fault ws)

-- in memory that is long enough the words of a range's pages became f of what they were; no other word changed
pub record Wrote (f : ℕ → ℕ) (p a n : ℕ) (ws vs : List ℕ) : Type 0 where
  pub long : length vs ≡ length ws
  pub table : (r q : ℕ) → r < processes → q < flat_pages
      → slice_index vs (place r q) ≡ cond (whole ws && in_range p a n r q) (f (slice_index ws (place r q))) (slice_index ws (place r q))
  pub rest : (k : ℕ) → flat_words ≤ k → slice_index vs k ≡ slice_index ws k

-- the same where the table did it, and nothing was written where it refused
abbrev pub WroteIf : Result (Unit {0}) Fault → (ℕ → ℕ) → ℕ → ℕ → ℕ → List ℕ → List ℕ → Type 0
WroteIf r f p a n ws vs = MatchResult r (λ _. Wrote f p a n ws vs) (λ _. vs ≡ ws)
