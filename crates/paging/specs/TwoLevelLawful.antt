-- The two-level table keeps the laws of a page table, whatever its directory and its leaves hold.
use Rattle.std.specs.Prelude.{List, Option, ◌≡◌, ℕ, zero, suc, ◌+◌, ◌-◌, ◌*◌, ◌/◌, ◌%◌, ◌<◌, ◌≤◌, max, Bool, true, false, is_some, None, refl}
use Rattle.std.proofs.Common.{arith}
use Rattle.std.proofs.lemmas.Bool.Decides.{nat_tests}
use Rattle.paging.specs.declared.levels.Levels.{Levels}
use Rattle.paging.specs.Blocks.{block_pages, first_block, known, past_block, place, process_blocks, span_end, span_start, two_level_pages}
use Rattle.paging.specs.Lacking.{first_of, first_without, gets_none, lacks, two_level_fault}
use Rattle.paging.specs.LawfulParts.{in_part, inside_range, ready_test, unready_test}
use Rattle.paging.specs.Meaning.{Lawful}
use Rattle.paging.specs.Ranges.{processes, ruled_out, within}
use Rattle.paging.specs.States.{by_states, unready_absent}
use Rattle.paging.specs.Leaves.{page_ready, page_state}
use Rattle.paging.specs.TwoLevel.{block_ready, slots_of, two_level, words_of}

-- no number passes the test
pub none_found : (test : ℕ → Bool) (n b : ℕ) → ((j : ℕ) → b ≤ j → j < b + n → test j ≡ false) → first_of test b n ≡ None
unfolding first_of
none_found test zero b fails = refl
none_found test (suc n) b fails = grind (arith, fails, none_found test n (b + 1))

-- one does
pub some_found : (test : ℕ → Bool) (n b k : ℕ) → b ≤ k → k < b + n → test k ≡ true → is_some (first_of test b n) ≡ true
unfolding first_of
some_found test zero b k low high passes = absurd (omega arith)
some_found test (suc n) b k low high passes = grind (arith, some_found test n (b + 1) k)

-- the places of a range inside the table
pub span_starts : (p a : ℕ) → p < processes → a ≤ two_level_pages → span_start p a ≡ place p a
span_starts p a low high = grind (arith, nat_tests)

pub span_ends : (p a n : ℕ) → p < processes → a + n ≤ two_level_pages → span_end p a n ≡ place p (a + n)
span_ends p a n low high = grind (arith, nat_tests)

-- whatever leaf each block holds, and whatever words each leaf has
module _ (slots : List (Option ℕ)) (words : List (List ℕ)) where
  ready_known : (p q : ℕ) → page_ready slots words p q ≡ true → (p < processes) × (q < two_level_pages)
  ready_known p q h = let inside = ready_test (known p q) _ h in (grind (arith, nat_tests), grind (arith, nat_tests))

  -- a block with a ready page lacks no leaf
  ready_holds : (p q b : ℕ) → page_ready slots words p q ≡ true → q < two_level_pages → place p q / block_pages ≡ b → lacks (block_ready (page_ready slots words)) b ≡ false
  ready_holds p q b h high here =
      let whose : b / process_blocks ≡ p = omega arith in
      grind (arith, some_found (page_ready slots words (b / process_blocks)) block_pages (b % process_blocks * block_pages) q)

  -- so each block of a range of ready pages gets a leaf: one of its pages, the first in the range, is ready
  ready_gets : (p a n j : ℕ) → 1 ≤ n → p < processes → a + n ≤ two_level_pages → ((q : ℕ) → within a n q ≡ true → page_ready slots words p q ≡ true)
      → first_block (place p a) ≤ j → j < past_block (place p (a + n)) → (q : ℕ) → q + place p 0 ≡ max (place p a) (j * block_pages)
      → gets_none (block_ready (page_ready slots words)) (first_block (place p a)) j ≡ false
  ready_gets p a n j some low high ready above below q here =
      let held = ready_holds p q j (ready q (in_part a n q (omega arith) (omega arith))) (omega arith) (omega arith) in
      grind arith

  ready_fits : (p a n : ℕ) → 1 ≤ n → ((q : ℕ) → within a n q ≡ true → page_ready slots words p q ≡ true)
      → is_some (two_level_fault (block_ready (page_ready slots words)) p a n) ≡ false
  ready_fits p a n some ready =
      let first = ready_known p a (ready a (in_part a n a (omega arith) (omega arith))) in
      let last = ready_known p (a + n - 1) (ready (a + n - 1) (in_part a n (a + n - 1) (omega arith) (omega arith))) in
      let low : p < processes = first.0 in
      let high : a + n ≤ two_level_pages = omega (arith, last.1) in
      let inside : ruled_out two_level_pages p a n ≡ false = inside_range two_level_pages p a n some low high in
      let s : span_start p a ≡ place p a = span_starts p a low (omega arith) in
      let e : span_end p a n ≡ place p (a + n) = span_ends p a n low high in
      let all : first_without (block_ready (page_ready slots words)) (place p a) (place p (a + n)) ≡ None =
      none_found (gets_none (block_ready (page_ready slots words)) (first_block (place p a))) (past_block (place p (a + n)) - first_block (place p a)) (first_block (place p a))
      (λ j above below. ready_gets p a n j some low high ready above (omega arith) (max (place p a) (j * block_pages) - place p 0) (omega arith)) in
      rw (inside, s, e, all) refl

  pub leaves_lawful : Lawful two_level_pages (by_states (page_state slots words) (two_level_fault (block_ready (page_ready slots words))))
  leaves_lawful = record {
    absent = λ p q. unready_absent (page_state slots words p q);
    fits = ready_fits;
    past_processes = λ p q h. unready_test (known p q) _ (grind (arith, nat_tests));
    past_pages = λ p q h. unready_test (known p q) _ (grind (arith, nat_tests));
    refuses = λ p a n h. rw h refl;
  }

-- so of the two levels
pub two_level_lawful : (t : Levels) → Lawful two_level_pages (two_level t)
two_level_lawful t = leaves_lawful (slots_of t) (words_of t)
