-- The blocks of a span, one after the other: the states that change, the leaves that they lack, and the first that gets none.
use Rattle.std.proofs.Common.{take, ◌≤◌, List, length, Option, is_some, None, cond, arith, zero, ◌≡◌, ℕ, suc, ◌+◌, Bool, refl, ◌-◌, ◌/◌, ◌<◌, true, false, ◌&&◌, ltb, Some, sym}
use Rattle.std.proofs.lemmas.List.{take_all}
use Rattle.std.proofs.lemmas.List.Sums.{sum_by_more}
use Rattle.std.proofs.lemmas.Bool.Decides.{nat_tests}
use Rattle.paging.specs.declared.levels.Levels.{Levels}
use Rattle.paging.specs.declared.page.PageState.{PageState}
use Rattle.paging.specs.Blocks.{blocks, between, block_pages, first_block, in_block, leaf_count, past_block}
use Rattle.paging.specs.Directory.{held, holds, leaf_of}
use Rattle.paging.specs.Lacking.{count_of, first_of, first_without, free_leaves, gets_none, lacking, lacks}
use Rattle.paging.specs.TwoLevel.{Changed}
use Rattle.paging.specs.TwoLevelLawful.{none_found}

-- how many numbers in a row pass a test: of none
pub count_none : (test : ℕ → Bool) (b : ℕ) → count_of test b 0 ≡ 0
unfolding count_of
count_none test b = refl

-- and of one more
pub count_more : (test : ℕ → Bool) (b n : ℕ) → count_of test b (suc n) ≡ count_of test b n + cond (test (b + n)) 1 0
unfolding count_of
count_more test b n = refl

-- the blocks that hold a leaf, counted by their numbers
held_upto : (slots : List (Option ℕ)) (n : ℕ) → n ≤ length slots → count_of (holds slots) 0 n ≡ held (take n slots)
held_upto slots zero inside = count_none (holds slots) 0
held_upto slots (suc n) inside =
    grind (arith, count_more (holds slots) 0 n, held_upto slots n, sum_by_more (λ (x : Option ℕ). cond {A = ℕ} (is_some x) 1 0) slots n None)

-- so all of them
pub held_count : (slots : List (Option ℕ)) → length slots ≡ blocks → count_of (holds slots) 0 blocks ≡ held slots
held_count slots long = rw (held_upto slots blocks (omega arith), take_all blocks slots (omega arith))

-- whether place x is one of those from the start up to the end, in a block below b
abbrev pub below_block : ℕ → ℕ → ℕ → ℕ → Bool
below_block b start end x = ltb (x / block_pages) b && between start end x

-- the change goes on by one block
pub changes_more : (f : PageState → PageState) (b start end : ℕ) (t u v : Levels)
    → Changed f (below_block b start end) t u → Changed f (in_block b start end) u v → Changed f (below_block (b + 1) start end) t v
changes_more f b start end t u v so_far here x = grind (arith, nat_tests, so_far x, here x)

-- at first it has not begun
pub changes_none : (f : PageState → PageState) (b start end : ℕ) (t : Levels) → b ≡ first_block start → Changed f (below_block b start end) t t
changes_none f b start end t begins x = grind (arith, nat_tests)

-- how many leaves the blocks lack
module _ (holds : ℕ → Bool) (b : ℕ) where
  -- one block more
  lacking_next : (k : ℕ) → b ≤ k → lacking holds b (k + 1 - b) ≡ lacking holds b (k - b) + cond (lacks holds k) 1 0
  lacking_next k low = grind (arith, count_more (lacks holds) b (k - b))

  -- none, of no block
  pub lacking_start : (k : ℕ) → k ≡ b → lacking holds b (k - b) ≡ 0
  lacking_start k e = grind (arith, count_none (lacks holds) b)

  -- more blocks lack no less
  grows : (j n : ℕ) → b ≤ j → j < b + n → lacking holds b (j - b) + cond (lacks holds j) 1 0 ≤ lacking holds b n
  grows j zero low high = absurd (omega arith)
  grows j (suc n) low high = grind (arith, grows j n low, count_more (lacks holds) b n)

-- the blocks from b up to k have got the leaves that they lacked
module _ (slots slots' : List (Option ℕ)) (b k : ℕ) (above : (c : ℕ) → k ≤ c → leaf_of slots' c ≡ leaf_of slots c)
    (given : held slots' ≡ held slots + lacking (holds slots) b (k - b)) where
  -- one is free for block k, if it lacks one
  pub one_left : (m : ℕ) → length slots ≡ blocks → lacking (holds slots) b (m - b) ≤ free_leaves (holds slots) → b ≤ k → k < m → leaf_of slots' k ≡ None
      → held slots' < leaf_count
  one_left m long enough low below lacked =
      grind (arith, above k, grows (holds slots) b k (m - b), held_count slots long)

  -- and then block k has got its own
  pub one_more : (slots'' : List (Option ℕ)) → held slots'' ≡ held slots' + cond (lacks (holds slots') k) 1 0 → b ≤ k
      → held slots'' ≡ held slots + lacking (holds slots) b (k + 1 - b)
  one_more slots'' e low = grind (arith, above k, lacking_next (holds slots) b k)

-- the first that passes a test
first_found : (test : ℕ → Bool) (n b k : ℕ) → b ≤ k → k < b + n → test k ≡ true → ((j : ℕ) → b ≤ j → j < k → test j ≡ false)
    → first_of test b n ≡ Some k
unfolding first_of
first_found test zero b k low high passes fails = absurd (omega arith)
first_found test (suc n) b k low high passes fails = grind (arith, fails b, first_found test n (b + 1) k)

-- blocks get leaves as long as no more lack one than are free
pub gets_one : (holds : ℕ → Bool) (b j n : ℕ) → b ≤ j → j < b + n → lacking holds b n ≤ free_leaves holds → gets_none holds b j ≡ false
gets_one holds b j n low high enough = grind (arith, nat_tests, grows holds b j n)

-- the loop over the blocks of a span, which counts off the free leaves
module _ (holds : ℕ → Bool) (start end b k left : ℕ) (begins : b ≡ first_block start) (counted : left + lacking holds b (k - b) ≡ free_leaves holds) where
  -- it goes on by one block
  pub first_without_more : (lacked : ℕ) → lacked ≡ cond (lacks holds k) 1 0 → b ≤ k → lacked ≤ left → left - lacked + lacking holds b (k + 1 - b) ≡ free_leaves holds
  first_without_more lacked e low enough = omega (arith, lacking_next holds b k low)

  -- it comes to one that gets none
  pub first_without_found : (lacked : ℕ) → lacked ≡ cond (lacks holds k) 1 0 → b ≤ k → k < past_block end → left < lacked → Some k ≡ first_without holds start end
  first_without_found lacked e low high short =
      sym (rw (← begins) (first_found (gets_none holds b) (past_block end - b) b k low (omega arith) (grind (arith, nat_tests))
      (λ j above below. gets_one holds b j (k - b) above (omega arith) (omega arith))))

  -- it comes to the end
  pub first_without_none : b ≤ k → k ≡ past_block end → None ≡ first_without holds start end
  first_without_none low done =
      sym (rw (← begins) (none_found (gets_none holds b) (past_block end - b) b (λ j above below. gets_one holds b j (k - b) above (omega arith) (omega arith))))
