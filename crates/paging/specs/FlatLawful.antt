-- The flat table keeps the laws of a page table, whatever its memory holds.
use Rattle.std.specs.Prelude.{◌≡◌, ℕ, ◌+◌, ◌-◌, ◌<◌, ◌≤◌, true, false, List, is_some}
use Rattle.std.proofs.Common.{arith}
use Rattle.std.proofs.lemmas.Bool.Decides.{nat_tests}
use Rattle.paging.specs.Flat.{flat, flat_fault, flat_pages, flat_state, has_word, whole}
use Rattle.paging.specs.LawfulParts.{inside_range, ready_test, unready_test}
use Rattle.paging.specs.Meaning.{Lawful}
use Rattle.paging.specs.Ranges.{processes, within}
use Rattle.paging.specs.States.{is_ready, unready_absent}

module _ (ws : List ℕ) where
  -- a ready page has a word
  pub ready_word : (p q : ℕ) → is_ready (flat_state ws p q) ≡ true → has_word ws p q ≡ true
  ready_word p q h = ready_test (has_word ws p q) _ h

  ready_inside : (p q : ℕ) → is_ready (flat_state ws p q) ≡ true → (whole ws ≡ true) × (p < processes) × (q < flat_pages)
  ready_inside p q h = let has = ready_word p q h in (grind (arith, nat_tests), grind (arith, nat_tests), grind (arith, nat_tests))

  ready_fits : (p a n : ℕ) → 1 ≤ n → ((q : ℕ) → within a n q ≡ true → is_ready (flat_state ws p q) ≡ true) → is_some (flat_fault ws p a n) ≡ false
  ready_fits p a n some ready =
      let low = ready_inside p a (ready a (grind (arith, nat_tests))) in
      let high = ready_inside p (a + n - 1) (ready (a + n - 1) (grind (arith, nat_tests))) in
      let inside = inside_range flat_pages p a n some low.1 (omega (arith, high.2)) in
      let long = low.0 in
      grind arith

  pub flat_lawful : Lawful flat_pages (flat ws)
  flat_lawful = record {
    absent = λ p q. unready_absent (flat_state ws p q);
    fits = ready_fits;
    past_processes = λ p q h. unready_test (has_word ws p q) _ (grind (arith, nat_tests));
    past_pages = λ p q h. unready_test (has_word ws p q) _ (grind (arith, nat_tests));
    refuses = λ p a n h. grind arith;
  }
