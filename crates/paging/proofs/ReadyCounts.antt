-- How many pages of a window are ready, as its words are rewritten.
use Rattle.std.proofs.Common.{◌≡◌, ℕ, ◌+◌, cond, List, [], ◌∷◌, map, replicate, length, take, drop, sum, Result, MatchResult, Ok, Err, sym, refl, ap, ◌∙◌, arith}
use borrow.Rule.Slice.PartMut.{put_mid}
use Rattle.std.proofs.lemmas.List.{get_or-map, length-map, length-replicate, same_lists}
use Rattle.std.proofs.lemmas.List.Sums.{sum-map, sum_by-append, sum_by-cons, sum_by-take-drop}
use Rattle.std.proofs.lemmas.List.Folds.{sum_by-replicate}
use Rattle.std.proofs.lemmas.Bool.Decides.{nat_tests}
use Rattle.paging.specs.declared.page.Entry.{Entry}
use Rattle.paging.specs.declared.window.PutError.{PutError}
use Rattle.paging.specs.States.{is_ready}
use Rattle.paging.specs.Window.{put_answer, readied, ready_in, replaced, Rewrites, unreadied, window_state}
use Rattle.paging.specs.Word.{absent_word, entry_word, state_of, unready_word}

-- one for the word of a ready page
abbrev one : ℕ → ℕ
one w = cond (is_ready (state_of w)) 1 0

-- all pages are ready that reserve made ready
all_ready : (ws : List ℕ) → ready_in (map readied ws) ≡ length ws
all_ready [] = refl
all_ready (w ∷ ws) = grind (arith, sum_by-cons one (readied w) (map readied ws), all_ready ws)

-- none is ready that release made unready
none_ready : (ws : List ℕ) → ready_in (map unreadied ws) ≡ 0
none_ready [] = refl
none_ready (w ∷ ws) = grind (arith, sum_by-cons one (unreadied w) (map unreadied ws), none_ready ws)

-- part of a window is given back
module _ (s k : ℕ) (ws vs : List ℕ) where
  -- its ready pages are counted in place of those that it had
  counted : ready_in (put_mid s k ws vs) + ready_in (take k (drop s ws)) ≡ ready_in ws + ready_in vs
  counted = omega (arith, sum_by-append one, sum_by-take-drop one ws s, sum_by-take-drop one (drop s ws) k)

  -- all of them are
  pub part_gained : vs ≡ map readied (take k (drop s ws)) → ready_in (put_mid s k ws vs) + ready_in (take k (drop s ws)) ≡ ready_in ws + length (take k (drop s ws))
  part_gained is = omega (arith, counted, all_ready (take k (drop s ws)), ap ready_in is)

  -- none of them is
  pub part_lost : vs ≡ map unreadied (take k (drop s ws)) → ready_in (put_mid s k ws vs) + ready_in (take k (drop s ws)) ≡ ready_in ws
  part_lost is = omega (arith, counted, none_ready (take k (drop s ws)), ap ready_in is)

-- all pages of a part became ready and absent in a window of which none was ready
pub all_filled : (s k m : ℕ) (ws vs : List ℕ) → ws ≡ replicate m unready_word → vs ≡ replicate (length (take k (drop s ws))) absent_word
    → ready_in (put_mid s k ws vs) ≡ length vs
all_filled s k m ws vs empty is =
    let n : ℕ = length (take k (drop s ws)) in
    omega (
      arith,
      counted s k ws vs,
      sum_by-take-drop one ws s,
      sum_by-take-drop one (drop s ws) k,
      ap ready_in empty,
      ap ready_in is,
      sum_by-replicate one m unready_word,
      sum_by-replicate one n absent_word,
      ap length is,
      length-replicate {A = ℕ} n absent_word,
    )

-- an entry that replaces another leaves the count
pub put_alike : (e : Entry) (q : ℕ) (ws vs : List ℕ) (r : Result (Unit {0}) PutError) → r ≡ put_answer (window_state ws q) e
    → MatchResult r (λ _. Rewrites (replaced e) q 1 ws vs) (λ _. vs ≡ ws) → ready_in vs ≡ ready_in ws
put_alike e q ws vs (Err x) is same = ap ready_in same
put_alike e q ws vs (Ok u) is w =
    let means : is_ready (window_state ws q) ≡ is_ready (state_of (entry_word e)) = grind (arith, nat_tests) in
    let alike : map one vs ≡ map one ws =
    same_lists _ _ (length-map vs one ∙ w.long ∙ sym (length-map ws one))
    (λ k d h. grind (arith, nat_tests, w.words k, length-map vs one, get_or-map one vs k 0 d, get_or-map one ws k 0 d)) in
    sym (sum-map one vs) ∙ ap (λ (xs : List ℕ). sum xs) alike ∙ sum-map one ws
