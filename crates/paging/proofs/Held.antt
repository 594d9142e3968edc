-- A block of the two-level table holds a leaf exactly while one of its pages is ready.
use Rattle.std.proofs.Common.{◌≡◌, ℕ, zero, suc, ◌+◌, ◌-◌, ◌*◌, ◌/◌, ◌%◌, ◌<◌, ◌≤◌, false, cond, List, [], ◌∷◌, length, get_or, is_some, Some, None, Option, refl, arith}
use mathlib.Core.Path.{fun_ext}
use Rattle.std.proofs.lemmas.Bool.Decides.{nat_tests}
use Rattle.std.proofs.lemmas.List.Elements.{All-from_get_or}
use Rattle.std.proofs.lemmas.List.Sums.{sum_by-le}
use Rattle.paging.specs.Lacking.{first_of}
use Rattle.paging.specs.declared.leaf.Leaf.{Leaf}
use Rattle.paging.specs.declared.levels.Levels.{Levels}
use Rattle.paging.specs.Blocks.{block_pages, place, process_blocks}
use Rattle.paging.specs.Directory.{holds, leaf_of}
use Rattle.paging.specs.States.{is_ready}
use Rattle.paging.specs.Leaves.{leaf_state, page_ready, state_at, Used, words_in}
use Rattle.paging.specs.declared.directory.Directory.{Directory}
use Rattle.paging.specs.TwoLevel.{block_ready, slots_of, two_level_ready}
use Rattle.paging.specs.TwoLevelLawful.{none_found, some_found}
use Rattle.paging.specs.Window.{ready_in}
use Rattle.paging.specs.Word.{state_of}
use Rattle.paging.proofs.Directories.{holds_inside}

-- a leaf with a ready page is one of the table's, and has a word for each page of a block
words_long : (leaves : List Leaf) (l : ℕ) → 1 ≤ ready_in (get_or (words_in leaves) l []) → length (get_or (words_in leaves) l []) ≡ block_pages
words_long [] l some = absurd (omega arith)
words_long (f ∷ fs) zero some = f.sized
words_long (f ∷ fs) (suc l) some = words_long fs l some

module _ (d : Directory) (leaves : List Leaf) (used : Used d.slots (words_in leaves)) (b p start : ℕ) (whose : p ≡ b / process_blocks) (begins : start ≡ b % process_blocks * block_pages) where
  -- page i of block b
  page_of : (q i : ℕ) → i < block_pages → q ≡ start + i → state_at d.slots (words_in leaves) (place p q) ≡ leaf_state (words_in leaves) (leaf_of d.slots b) i
  page_of q i low e =
      let block : place p q / block_pages ≡ b = omega arith in
      let page : place p q % block_pages ≡ i = omega arith in
      rw (block, page)

  by_leaf : (o : Option ℕ) → leaf_of d.slots b ≡ o → is_some o ≡ is_some (first_of (page_ready d.slots (words_in leaves) p) start block_pages)
  by_leaf None lacked = rw (none_found (page_ready d.slots (words_in leaves) p) block_pages start (λ q above below. grind (arith, page_of q (q - start))))
  by_leaf (Some l) here =
      let ws : List ℕ = get_or (words_in leaves) l [] in
      let long = words_long leaves l (used b l here) in
      let low = holds_inside d.slots b l here in
      let none : is_some (first_of (page_ready d.slots (words_in leaves) p) start block_pages) ≡ false → ready_in ws ≤ length ws * 0 =
      λ e. sum_by-le (λ (w : ℕ). cond {A = ℕ} (is_ready (state_of w)) 1 0) 0 ws
      (All-from_get_or (λ (w : ℕ). cond {A = ℕ} (is_ready (state_of w)) 1 0 ≤ 0) ws 0
      (λ i inside. grind (arith, nat_tests, d.sized, page_of (start + i) i, some_found (page_ready d.slots (words_in leaves) p) block_pages start (start + i)))) in
      grind (arith, used b l here)

-- whatever the directory and the leaves are, where each leaf that is held has a ready page
pub held_by_ready : (d : Directory) (leaves : List Leaf) → Used d.slots (words_in leaves) → holds d.slots ≡ block_ready (page_ready d.slots (words_in leaves))
held_by_ready d leaves used = fun_ext (λ b. by_leaf d leaves used b _ _ refl refl (leaf_of d.slots b) refl)

-- a block holds a leaf exactly while one of its pages is ready
pub held_ready : (t : Levels) → holds (slots_of t) ≡ block_ready (two_level_ready t)
held_ready t = held_by_ready t.directory t.leaves t.used
