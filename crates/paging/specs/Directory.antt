-- The directory: which leaf each block holds, and which leaves are free.
use Rattle.std.specs.Prelude.{◌≡◌, ℕ, ◌+◌, Bool, false, cond, ◌≢◌, List, is_some, Some, None, count_by, Option, ◌==◌, nat_eq, slice_index_or}
use Rattle.paging.specs.Lacking.{lacks}

-- the leaf that block b holds
abbrev pub leaf_of : List (Option ℕ) → ℕ → Option ℕ
leaf_of slots b = slice_index_or slots b None

-- whether it is leaf l
abbrev pub is_leaf : ℕ → Option ℕ → Bool
is_leaf l None = false
is_leaf l (Some m) = m == l

-- how many blocks hold leaf l
abbrev pub holders : List (Option ℕ) → ℕ → ℕ
holders slots l = count_by (is_leaf l) slots

-- how often leaf l is listed
abbrev pub times : ℕ → List ℕ → ℕ
times l xs = count_by (λ x. nat_eq x l) xs

-- how many blocks hold a leaf
abbrev pub held : List (Option ℕ) → ℕ
held slots = count_by is_some slots

-- whether block b holds one
abbrev pub holds : List (Option ℕ) → ℕ → Bool
holds slots b = is_some (leaf_of slots b)

-- block b has got a leaf, if it lacked one
pub record Attached (b : ℕ) (slots slots' : List (Option ℕ)) : Type 0 where
  -- each other block holds what it held
  pub others : (c : ℕ) → c ≢ b → leaf_of slots' c ≡ leaf_of slots c
  -- and one more holds a leaf where b lacked one
  pub one : held slots' ≡ held slots + cond (lacks (holds slots) b) 1 0
