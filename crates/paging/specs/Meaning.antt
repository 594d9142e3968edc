-- What a page table means, and what every page table owes.
use Rattle.std.specs.Prelude.{◌≡◌, ℕ, ◌≤◌, Bool, true, false, is_some, Option}
use Rattle.paging.specs.declared.page.Entry.{Entry}
use Rattle.paging.specs.declared.page.Entry.TheVariants.{Absent}
use Rattle.paging.specs.declared.page.Fault.{Fault}
use Rattle.paging.specs.Ranges.{processes, within, ruled_out}

-- what a table means
pub record Meaning : Type 0 where
  -- the entry of page q of process p
  pub entries : ℕ → ℕ → Entry
  -- whether page q of process p is ready
  pub ready : ℕ → ℕ → Bool
  -- the fault of the n pages from page a of process p, or none where they fit
  pub faults : ℕ → ℕ → ℕ → Option Fault

-- the laws, where a process has at most so many pages
pub record Lawful (pages : ℕ) (m : Meaning) : Type 0 where
  -- a page that is not ready is absent
  pub absent : (p q : ℕ) → m.ready p q ≡ false → m.entries p q ≡ Absent
  -- a range of one page or more, all of them ready, fits
  pub fits : (p a n : ℕ) → 1 ≤ n → ((q : ℕ) → within a n q ≡ true → m.ready p q ≡ true) → is_some (m.faults p a n) ≡ false
  -- past the last process nothing is ready
  pub past_processes : (p q : ℕ) → processes ≤ p → m.ready p q ≡ false
  -- past the last page nothing is ready
  pub past_pages : (p q : ℕ) → pages ≤ q → m.ready p q ≡ false
  -- a range that is ruled out never fits
  pub refuses : (p a n : ℕ) → ruled_out pages p a n ≡ true → is_some (m.faults p a n) ≡ true
