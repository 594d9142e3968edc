-- A page table by the state of each of its pages.
use Rattle.std.specs.Prelude.{◌≡◌, ℕ, Bool, true, false, Option}
use Rattle.std.proofs.Common.{arith}
use Rattle.paging.specs.declared.page.Entry.{Entry}
use Rattle.paging.specs.declared.page.Entry.TheVariants.{Absent}
use Rattle.paging.specs.declared.page.Fault.{Fault}
use Rattle.paging.specs.declared.page.PageState.{PageState}
use Rattle.paging.specs.declared.page.PageState.TheVariants.{Unready, Ready}
use Rattle.paging.specs.Meaning.{Meaning}

-- a page that is not ready is absent
abbrev pub entry_of : PageState → Entry
entry_of Unready = Absent
entry_of (Ready e) = e

-- whether the page is ready
abbrev pub is_ready : PageState → Bool
is_ready Unready = false
is_ready (Ready e) = true

-- the state of a page once it is ready: it keeps its entry
abbrev pub made_ready : PageState → PageState
made_ready s = Ready (entry_of s)

-- the state of a page once it is not ready any more
abbrev pub made_unready : PageState → PageState
made_unready s = Unready

-- the table whose pages have these states and whose ranges have these faults
abbrev pub by_states : (ℕ → ℕ → PageState) → (ℕ → ℕ → ℕ → Option Fault) → Meaning
by_states states faults =
    record { entries = λ p q. entry_of (states p q); ready = λ p q. is_ready (states p q); faults = faults }

-- so it keeps the law that a page that is not ready is absent
pub unready_absent : (s : PageState) → is_ready s ≡ false → entry_of s ≡ Absent
unready_absent s h = grind arith
