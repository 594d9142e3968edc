-- A range fits the two-level table exactly when the leaves that its blocks lack are free.
use Rattle.std.proofs.Common.{◌≡◌, ℕ, zero, suc, ◌+◌, ◌-◌, ◌<◌, ◌≤◌, Bool, false, not, leb, is_some, Some, None, Ok, Err, Result, arith}
use Rattle.std.specs.Result.{is_ok}
use Rattle.std.proofs.lemmas.Bool.Decides.{nat_tests}
use Rattle.paging.specs.declared.page.Fault.{Fault}
use Rattle.paging.specs.Blocks.{first_block, past_block, span_end, span_start, two_level_pages}
use Rattle.paging.specs.Ranges.{ruled_out}
use Rattle.paging.specs.Lacking.{checked, first_of, free_leaves, gets_none, lacking, lacks, span_lacks, two_level_fault, two_level_fits}
use Rattle.paging.specs.TwoLevelLawful.{none_found, some_found}
use Rattle.paging.proofs.Spans.{count_more, count_none, gets_one}

module _ (holds : ℕ → Bool) (b : ℕ) where
  -- where every block gets a leaf, no more lack one than are free
  enough : (n : ℕ) → ((j : ℕ) → b ≤ j → j < b + n → gets_none holds b j ≡ false) → lacking holds b n ≤ free_leaves holds
  enough zero all = omega (arith, count_none (lacks holds) b)
  enough (suc n) all = grind (arith, nat_tests, all (b + n), enough n (λ j low high. all j low (omega arith)), count_more (lacks holds) b n)

  -- and the other way round
  without_exactly : (n : ℕ) → is_some (first_of (gets_none holds b) b n) ≡ not (leb (lacking holds b n) (free_leaves holds))
  without_exactly n =
      let none : lacking holds b n ≤ free_leaves holds → first_of (gets_none holds b) b n ≡ None = λ fits. none_found (gets_none holds b) n b (λ j low high. gets_one holds b j n low high fits) in
      let all : is_some (first_of (gets_none holds b) b n) ≡ false → lacking holds b n ≤ free_leaves holds = λ e. enough n (λ j low high. grind (arith, some_found (gets_none holds b) n b j)) in
      grind (arith, nat_tests)

-- what the answer of a check tells
module _ (holds : ℕ → Bool) (p a n : ℕ) where
  -- whether the range fits, by the rule
  pub checked_exactly : (r : Result (Unit {0}) Fault) → r ≡ checked (two_level_fault holds p a n) → is_ok r ≡ two_level_fits holds p a n
  checked_exactly r e =
      let rule = without_exactly holds (first_block (span_start p a)) (past_block (span_end p a n) - first_block (span_start p a)) in
      grind arith

  -- the fault of a range that does not fit
  pub checked_fault : (f : Fault) → Err f ≡ checked (two_level_fault holds p a n) → two_level_fault holds p a n ≡ Some f
  checked_fault f e = grind arith

  -- that the range fits
  module _ (v : Unit {0}) (fits : Ok v ≡ checked (two_level_fault holds p a n)) where
    -- so it has no fault
    pub checked_fits : two_level_fault holds p a n ≡ None
    checked_fits = grind arith

    -- it is not ruled out
    pub fits_inside : ruled_out two_level_pages p a n ≡ false
    fits_inside = grind arith

    module _ (start end : ℕ) (starts : start ≡ span_start p a) (ends : end ≡ span_end p a n) where
      -- the leaves that it lacks are free
      pub fits_room : span_lacks holds start end ≤ free_leaves holds
      fits_room = rw (starts, ends) (grind (arith, nat_tests, checked_exactly (Ok v) fits))
