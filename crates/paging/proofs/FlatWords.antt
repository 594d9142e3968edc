-- A change of one process's window, seen in the flat table's whole memory.
use Rattle.std.proofs.Common.{◌≡◌, ℕ, ◌+◌, ◌≤◌, true, false, List, length, take, drop, Some, arith}
use borrow.Rule.Slice.PartMut.{put_mid, same_len_mid}
use Rattle.std.proofs.lemmas.List.{places}
use Rattle.std.proofs.lemmas.Bool.Decides.{nat_tests}
use Rattle.std.proofs.lemmas.Grind.{common_steps}
use Rattle.paging.specs.Flat.{flat_fits, flat_pages, flat_state, window_start, Wrote}
use Rattle.paging.specs.Ranges.{ruled_out}
use Rattle.paging.specs.Window.{Rewrites, window_state}

-- a range fits where there is a window, unless it is ruled out
pub fits_window : (p a n s : ℕ) (ws : List ℕ) → false ≡ ruled_out flat_pages p a n → Some s ≡ window_start ws p → flat_fits ws p a n ≡ true
fits_window p a n s ws h e = grind (arith, nat_tests)

-- the window of process p begins at s and has k words
module _ (p s k : ℕ) (ws : List ℕ) (start : Some s ≡ window_start ws p) (size : k ≡ flat_pages) where
  -- a page's state in the window
  pub window_looks : (q : ℕ) → window_state (take k (drop s ws)) q ≡ flat_state ws p q
  window_looks q = grind (arith, common_steps)

  -- what is written in the window is written in the memory
  pub window_wrote : (f : ℕ → ℕ) (a n : ℕ) (vs : List ℕ) → Rewrites f a n (take k (drop s ws)) vs → Wrote f p a n ws (put_mid s k ws vs)
  window_wrote f a n vs w =
      let fits : s + k ≤ length ws = grind (arith, nat_tests) in
      record {
        long = same_len_mid s k ws vs w.long;
        table = λ r q x y. grind (arith, nat_tests, places, w.words q);
        rest = λ i x. grind (arith, nat_tests, places);
      }
