-- Words of a window: what they mean, and that a range of them is rewritten where the part that it names is lent.
use Rattle.std.proofs.Common.{◌≡◌, ℕ, ◌+◌, ◌-◌, ◌<◌, Bool, true, cond, List, map, length, get_or, take, drop, min, replicate, refl, ap, ◌∙◌, arith}
use borrow.Rule.Slice.PartMut.{mid_len, put_mid, same_len_mid}
use Rattle.std.proofs.lemmas.List.{places, get_or-map, get_or-replicate, length-map, length-replicate}
use Rattle.std.proofs.lemmas.Bool.Decides.{nat_tests}
use Rattle.std.proofs.lemmas.Simd.{splat_is_map}
use Rattle.paging.specs.declared.page.Entry.{Entry}
use Rattle.paging.specs.declared.page.PageState.TheVariants.{Ready}
use Rattle.paging.specs.States.{made_ready}
use Rattle.paging.specs.Window.{readied, Rewrites}
use Rattle.paging.specs.Word.{absent_word, entry_word, state_of, storable, unready_word}

-- the word that put stores means its entry
pub stored : (e : Entry) → storable e ≡ true → state_of (entry_word e) ≡ Ready e
stored e h = grind (arith, nat_tests)

-- the word that reserve stores means the state made ready
pub readied_means : (w : ℕ) → state_of (readied w) ≡ made_ready (state_of w)
readied_means w = grind arith

-- a test inside a word is a test outside its state
pub state_of_cond : (b : Bool) (v w : ℕ) → state_of (cond b v w) ≡ cond b (state_of v) (state_of w)
state_of_cond b v w = grind arith

-- all words of the part that a range names became f of what they were
pub part_rewritten : (f : ℕ → ℕ) (a n s e : ℕ) (ws vs : List ℕ) → s ≡ min a (length ws) → e ≡ min (a + n) (length ws)
    → vs ≡ map f (take (e - s) (drop s ws)) → Rewrites f a n ws (put_mid s (e - s) ws vs)
part_rewritten f a n s e ws vs starts ends is =
    let part : List ℕ = take (e - s) (drop s ws) in
    let full : length part ≡ e - s = mid_len s e ws (omega arith) in
    let long : length vs ≡ length part = ap length is ∙ length-map part f in
    record {
      long = same_len_mid s (e - s) ws vs long;
      words = λ i h.
          let became : i - s < e - s → get_or vs (i - s) 0 ≡ f (get_or part (i - s) 0) = λ low. rw is (get_or-map f part (i - s) 0 0 (omega arith)) in
          grind (arith, nat_tests, places, became);
    }

-- all pages of a range became ready and absent in a window of which none was ready
pub part_filled : (a n s e m : ℕ) (ws vs : List ℕ) → s ≡ min a (length ws) → e ≡ min (a + n) (length ws) → ws ≡ replicate m unready_word
    → vs ≡ replicate (length (take (e - s) (drop s ws))) absent_word → Rewrites readied a n (replicate m unready_word) (put_mid s (e - s) ws vs)
part_filled a n s e m ws vs starts ends empty is =
    let r = part_rewritten (λ w. absent_word) a n s e ws vs starts ends (is ∙ splat_is_map (take (e - s) (drop s ws)) _ absent_word refl) in
    record {
      long = r.long ∙ ap length empty;
      words = λ k h.
          let low : k < m = omega (arith, length-replicate {A = ℕ} m 0) in
          let zero : get_or (replicate m 0) k 0 ≡ 0 = get_or-replicate {A = ℕ} m k 0 0 low in
          let same : get_or ws k 0 ≡ 0 = rw empty zero in
          rw zero (rw same at (r.words k (omega (arith, ap length empty))));
    }
