-- Each leaf is held by one block or is free, as blocks are given leaves and lose them.
use Rattle.std.proofs.Common.{◌≡◌, ℕ, zero, suc, ◌+◌, ◌<◌, ◌≤◌, cond, eqb, ltb, List, [], ◌∷◌, ◌++◌, length, get_or, take, arith, set, is_some, Some, None, Option}
use Rattle.std.proofs.lemmas.List.{take_all, take_more, get_or_past, get_or-set_other, length-set}
use Rattle.std.proofs.lemmas.List.Sums.{sum_by_push, get_or-le-sum_by, sum_by-set}
use Rattle.std.proofs.lemmas.Bool.Decides.{nat_tests}
use Rattle.std.specs.Option.{option_to_list}
use Rattle.paging.specs.Directory.{times, held, holders, holds, is_leaf, leaf_of}
use Rattle.paging.specs.Blocks.{blocks}

-- one leaf more
times_push : (m l : ℕ) (xs : List ℕ) → times m (xs ++ (l ∷ [])) ≡ times m xs + cond (eqb l m) 1 0
times_push m l xs = sum_by_push (λ (x : ℕ). cond (eqb x m) 1 0) xs l

-- where each number stands at its own place, the first n are the numbers below n, once each
first_once : (xs : List ℕ) → ((i : ℕ) → i < length xs → get_or xs i 0 ≡ i) → (n : ℕ) → n ≤ length xs → (m : ℕ) → times m (take n xs) ≡ cond (ltb m n) 1 0
first_once xs at zero inside m = grind (arith, nat_tests)
first_once xs at (suc n) inside m = grind (arith, nat_tests, at n, take_more xs n 0, times_push m (get_or xs n 0) (take n xs), first_once xs at n (omega arith) m)

-- so each number below the length is listed once
pub listed_once : (xs : List ℕ) → ((i : ℕ) → i < length xs → get_or xs i 0 ≡ i) → (m : ℕ) → m < length xs → times m xs ≡ 1
listed_once xs at m low = grind (arith, nat_tests, take_all (length xs) xs, first_once xs at (length xs) (omega arith) m)

-- a block that holds a leaf is one of the directory's
pub holds_inside : (slots : List (Option ℕ)) (b l : ℕ) → leaf_of slots b ≡ Some l → b < length slots
holds_inside slots b l h = grind (arith, get_or_past {X = Option ℕ})

-- what block b holds counts where it is changed
module _ (slots : List (Option ℕ)) (b : ℕ) (inside : b < length slots) where
  -- among the blocks that hold leaf m
  holders_set : (o : Option ℕ) (m : ℕ) → holders (set slots b o) m + cond (is_leaf m (leaf_of slots b)) 1 0 ≡ holders slots m + cond (is_leaf m o) 1 0
  holders_set o m = sum_by-set (λ (x : Option ℕ). cond (is_leaf m x) 1 0) slots b o None inside

  -- and among those that hold one
  pub held_set : (o : Option ℕ) → held (set slots b o) + cond (is_some (leaf_of slots b)) 1 0 ≡ held slots + cond (is_some o) 1 0
  held_set o = sum_by-set (λ (x : Option ℕ). cond (is_some x) 1 0) slots b o None inside

-- how often a leaf is held and listed, as block b gets leaf l or loses it
module _ (slots : List (Option ℕ)) (free left : List ℕ) (b l : ℕ) (sized : length slots ≡ blocks) (inside : b < blocks) where
  -- b lacks a leaf, and gets the one that was listed last
  pub attached_once : (o : Option ℕ) (m : ℕ) → leaf_of slots b ≡ None → free ≡ left ++ option_to_list o → o ≡ Some l → holders slots m + times m free ≡ 1
      → holders (set slots b (Some l)) m + times m left ≡ 1
  attached_once o m lacked last is once = grind (arith, nat_tests, holders_set slots b (omega arith) (Some l) m, times_push m l left)

  -- which no block held
  pub attached_new : (o : Option ℕ) → leaf_of slots b ≡ None → free ≡ left ++ option_to_list o → o ≡ Some l → holders slots l + times l free ≡ 1 → holders slots l ≡ 0
  attached_new o lacked last is once = grind (arith, nat_tests, times_push l l left)

  -- b loses its leaf, which is listed
  pub detached_once : (m : ℕ) → Some l ≡ leaf_of slots b → left ≡ free ++ (l ∷ []) → holders slots m + times m free ≡ 1
      → holders (set slots b None) m + times m left ≡ 1
  detached_once m holds listed once = grind (arith, nat_tests, holders_set slots b (omega arith) None m, times_push m l free)

-- distinct blocks hold distinct leaves
pub held_once : (slots : List (Option ℕ)) (b c l : ℕ) → holders slots l ≤ 1 → leaf_of slots b ≡ Some l → leaf_of slots c ≡ Some l → b ≡ c
held_once slots b c l most here there =
    let both = get_or-le-sum_by (λ (x : Option ℕ). cond (is_leaf l x) 1 0) (set slots b None) c None in
    let left = holders_set slots b (holds_inside slots b l here) None l in
    grind (arith, nat_tests, holds_inside slots c l there, get_or-set_other {A = Option ℕ}, length-set {A = Option ℕ})

-- a leaf that no block holds
pub held_never : (slots : List (Option ℕ)) (b l : ℕ) → holders slots l ≡ 0 → leaf_of slots b ≡ Some l → ⊥
held_never slots b l none holds =
    grind (arith, nat_tests, holds_inside slots b l holds, get_or-le-sum_by (λ (x : Option ℕ). cond (is_leaf l x) 1 0) slots b None)
