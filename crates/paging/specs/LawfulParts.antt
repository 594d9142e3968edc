-- What the proofs of the laws share.
use Rattle.std.specs.Prelude.{◌≡◌, ℕ, ◌+◌, ◌<◌, ◌≤◌, Bool, true, false, cond}
use Rattle.std.proofs.Common.{arith}
use Rattle.std.proofs.lemmas.Bool.Decides.{nat_tests}
use Rattle.paging.specs.declared.page.PageState.{PageState}
use Rattle.paging.specs.declared.page.PageState.TheVariants.{Unready}
use Rattle.paging.specs.Ranges.{processes, ruled_out, within}
use Rattle.paging.specs.States.{is_ready}

-- a page that is ready passes the test that all others are unready by
pub ready_test : (b : Bool) (s : PageState) → is_ready (cond b s Unready) ≡ true → b ≡ true
ready_test b s h = grind arith

pub unready_test : (b : Bool) (s : PageState) → b ≡ false → is_ready (cond b s Unready) ≡ false
unready_test b s h = grind arith

-- a page of a range
pub in_part : (a n q : ℕ) → a ≤ q → q < a + n → within a n q ≡ true
in_part a n q low high = grind (arith, nat_tests)

-- a range inside the table is not ruled out
pub inside_range : (pages p a n : ℕ) → 1 ≤ n → p < processes → a + n ≤ pages → ruled_out pages p a n ≡ false
inside_range pages p a n some low high = grind (arith, nat_tests)
