-- What each operation of a page table does to its meaning, from t before to u after.
--     Reserves t p a n r u      reserve, at the answer r
--     Releases t p a n u        release
--     Puts t p q e r u          put, at the answer r
use Rattle.std.specs.Prelude.{◌≡◌, ℕ, Bool, true, false, cond, not, ◌&&◌, ◌||◌, Some, None, Result, MatchResult, ◌==◌}
use Rattle.paging.specs.declared.page.Entry.{Entry}
use Rattle.paging.specs.declared.page.Entry.TheVariants.{Absent}
use Rattle.paging.specs.declared.page.Fault.{Fault}
use Rattle.paging.specs.Ranges.{in_range}
use Rattle.paging.specs.Meaning.{Meaning}
use Rattle.paging.specs.Word.{storable}

-- the range is ready too
abbrev pub with_ready : (ℕ → ℕ → Bool) → ℕ → ℕ → ℕ → ℕ → ℕ → Bool
with_ready ready p a n = λ r q. in_range p a n r q || ready r q

-- the range is ready no more
abbrev pub without_ready : (ℕ → ℕ → Bool) → ℕ → ℕ → ℕ → ℕ → ℕ → Bool
without_ready ready p a n = λ r q. not (in_range p a n r q) && ready r q

-- the range is absent
abbrev pub cleared : (ℕ → ℕ → Entry) → ℕ → ℕ → ℕ → ℕ → ℕ → Entry
cleared entries p a n = λ r q. cond (in_range p a n r q) Absent (entries r q)

-- page q of process p has the entry e
abbrev pub with_entry : (ℕ → ℕ → Entry) → ℕ → ℕ → Entry → ℕ → ℕ → Entry
with_entry entries p q e = λ r s. cond (r == p && s == q) e (entries r s)

-- a range was made ready, and every entry is kept
pub record Reserved (t : Meaning) (p a n : ℕ) (u : Meaning) : Type 0 where
  pub fits : t.faults p a n ≡ None
  pub ready : u.ready ≡ with_ready t.ready p a n
  pub entries : u.entries ≡ t.entries

-- a range did not fit, and nothing changed
pub record Unfit (t : Meaning) (p a n : ℕ) (f : Fault) (u : Meaning) : Type 0 where
  pub fault : t.faults p a n ≡ Some f
  pub same : u ≡ t

-- a range was made unready and absent, and nothing else was
pub record Releases (t : Meaning) (p a n : ℕ) (u : Meaning) : Type 0 where
  pub ready : u.ready ≡ without_ready t.ready p a n
  pub entries : u.entries ≡ cleared t.entries p a n

-- whether an entry can be put: the page is ready, and the frame is not too large
abbrev pub can_put : Meaning → ℕ → ℕ → Entry → Bool
can_put t p q e = t.ready p q && storable e

-- a page's entry was replaced, and nothing else was
pub record Replaced (t : Meaning) (p q : ℕ) (e : Entry) (u : Meaning) : Type 0 where
  pub can : can_put t p q e ≡ true
  pub entries : u.entries ≡ with_entry t.entries p q e
  pub ready : u.ready ≡ t.ready
  pub faults : u.faults ≡ t.faults

-- an entry could not be put: the fault names the page, and nothing changed
pub record Unput (t : Meaning) (p q : ℕ) (e : Entry) (f : Fault) (u : Meaning) : Type 0 where
  pub cannot : can_put t p q e ≡ false
  pub fault : f ≡ record { process = p; page = q }
  pub same : u ≡ t

-- reserve: one or the other, by its answer
abbrev pub Reserves : Meaning → ℕ → ℕ → ℕ → Result (Unit {0}) Fault → Meaning → Type 0
Reserves t p a n r u = MatchResult r (λ _. Reserved t p a n u) (λ f. Unfit t p a n f u)

-- put: one or the other, by its answer
abbrev pub Puts : Meaning → ℕ → ℕ → Entry → Result (Unit {0}) Fault → Meaning → Type 0
Puts t p q e r u = MatchResult r (λ _. Replaced t p q e u) (λ f. Unput t p q e f u)
