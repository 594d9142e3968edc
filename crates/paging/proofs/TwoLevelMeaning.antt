-- What the two-level table does to the states of places is the effect on its meaning.
use Rattle.std.proofs.Common.{rules, ◌≡◌, ℕ, Bool, true, false, cond, ◌&&◌, eqb, List, replicate, Some, None, Ok, Err, MatchResult, Option, Result, refl, ap, arith}
use mathlib.Core.Path.{fun_ext}
use Rattle.std.specs.Result.{is_ok, IsErrAnd}
use Rattle.std.proofs.lemmas.List.{get_or_past, get_or-replicate, length-replicate}
use Rattle.std.proofs.lemmas.Bool.Decides.{nat_tests}
use Rattle.paging.specs.declared.levels.Levels.{Levels}
use Rattle.paging.specs.declared.page.Entry.{Entry}
use Rattle.paging.specs.declared.page.Fault.{Fault}
use Rattle.paging.specs.declared.page.PageState.{PageState}
use Rattle.paging.specs.declared.page.PageState.TheVariants.{Unready, Ready}
use Rattle.paging.specs.declared.range.PageRange.{PageRange}
use Rattle.paging.specs.declared.window.PutError.{PutError}
use Rattle.paging.specs.Blocks.{between, known, known_place, place, span_end, span_start}
use Rattle.paging.specs.Directory.{holds, leaf_of}
use Rattle.paging.specs.Effects.{can_put, Puts, Releases, Replaced, Reserved, Unfit}
use Rattle.paging.specs.Lacking.{checked, two_level_fault, two_level_fits}
use Rattle.paging.specs.Ranges.{in_range}
use Rattle.paging.specs.States.{by_states, is_ready, made_ready, made_unready}
use Rattle.paging.specs.Leaves.{Used}
use Rattle.paging.specs.TwoLevel.{block_ready, Changed, place_state, slots_of, two_level, two_level_ready, two_level_state, words_of}
use Rattle.paging.specs.Window.{put_answer}
use Rattle.paging.specs.Word.{storable}
use Rattle.paging.proofs.Fits.{checked_exactly, checked_fault, checked_fits, fits_inside}
use Rattle.paging.proofs.Held.{held_ready}

-- no block of an empty directory holds a leaf
none_held : (n b : ℕ) → leaf_of (replicate n None) b ≡ None
none_held n b = grind (arith, get_or-replicate {A = Option ℕ} n b None None, get_or_past {X = Option ℕ} (replicate n None) b None, length-replicate {A = Option ℕ} n None)

-- so that none is held, with or without a ready page
pub none_used : (n : ℕ) (slots : List (Option ℕ)) (words : List (List ℕ)) → slots ≡ replicate n None → Used slots words
none_used n slots words e b l holds = grind (arith, none_held n b)

-- a change at places is one at the pages that the table knows
pages_change : (f : PageState → PageState) (test : ℕ → Bool) (t u : Levels) → Changed f test t u → (r q : ℕ) (here : Bool) → (known r q ≡ true → test (place r q) ≡ here)
    → (known r q ≡ false → cond here (f Unready) Unready ≡ Unready)
    → two_level_state u r q ≡ cond here (f (two_level_state t r q)) (two_level_state t r q)
pages_change f test t u changed r q here inside outside = grind (arith, changed (place r q))

-- a change of the states of the pages is the effect on the meaning
module _ (s t : ℕ → ℕ → PageState) (f g : ℕ → ℕ → ℕ → Option Fault) (p a : ℕ) where
  pub lift_reserve : (n : ℕ) → f p a n ≡ None → ((r q : ℕ) → t r q ≡ cond (in_range p a n r q) (made_ready (s r q)) (s r q))
      → Reserved (by_states s f) p a n (by_states t g)
  lift_reserve n fits h = search rules

  pub lift_release : (n : ℕ) → ((r q : ℕ) → t r q ≡ cond (in_range p a n r q) Unready (s r q)) → Releases (by_states s f) p a n (by_states t g)
  lift_release n h = search rules

  pub lift_put : (e : Entry) → (is_ready (s p a) && storable e) ≡ true → g ≡ f → ((r q : ℕ) → t r q ≡ cond (eqb r p && eqb q a) (Ready e) (s r q))
      → Replaced (by_states s f) p a e (by_states t g)
  lift_put e can same h = search rules

-- reserve, by the answer of the check
module _ (p a n : ℕ) (t : Levels) (range : PageRange) (is : range ≡ record { process = p; pages = record { first = a; count = n } }) where
  -- it is the rule
  pub two_level_exactly : (r : Result (Unit {0}) Fault) → r ≡ checked (two_level_fault (holds (slots_of t)) range.process range.pages.first range.pages.count)
      → is_ok r ≡ two_level_fits (block_ready (two_level_ready t)) p a n
  two_level_exactly r e = checked_exactly (block_ready (two_level_ready t)) p a n r (rw (is, held_ready t) at e)

  -- a range that does not fit
  pub two_level_unfit : (f : Fault) → Err f ≡ checked (two_level_fault (holds (slots_of t)) range.process range.pages.first range.pages.count)
      → Unfit (two_level t) p a n f (two_level t)
  two_level_unfit f e = record { fault = checked_fault (block_ready (two_level_ready t)) p a n f (rw (is, held_ready t) at e); same = refl }

  -- a range is reserved or released by its span
  module _ (u : Levels) (start end : ℕ) (starts : start ≡ span_start range.process range.pages.first) (ends : end ≡ span_end range.process range.pages.first range.pages.count) where
    span_test : (r q : ℕ) → known r q ≡ true → between start end (place r q) ≡ in_range p a n r q
    span_test r q known_it = rw (starts, ends, is) (grind (arith, nat_tests))

    pub two_level_reserved : (v : Unit {0}) → Ok v ≡ checked (two_level_fault (holds (slots_of t)) range.process range.pages.first range.pages.count)
        → Changed made_ready (between start end) t u → Reserved (two_level t) p a n (two_level u)
    two_level_reserved v fits changed =
        let e = rw (is, held_ready t) at fits in
        let inside = fits_inside (block_ready (two_level_ready t)) p a n v e in
        lift_reserve _ _ _ _ p a n (checked_fits (block_ready (two_level_ready t)) p a n v e)
        (λ r q. pages_change made_ready (between start end) t u changed r q _ (span_test r q) (λ unknown. grind (arith, nat_tests)))

    pub two_level_released : Changed made_unready (between start end) t u → Releases (two_level t) p a n (two_level u)
    two_level_released changed = lift_release _ _ _ _ p a n (λ r q. pages_change made_unready (between start end) t u changed r q _ (span_test r q) (λ unknown. grind arith))

-- the same leaves with the same words mean the same
same_meaning : (t u : Levels) → slots_of u ≡ slots_of t → words_of u ≡ words_of t → two_level u ≡ two_level t
same_meaning t u slots words =
    ap (λ (s : ℕ → ℕ → PageState). by_states s (two_level_fault (block_ready (λ p q. is_ready (s p q))))) (fun_ext (λ p. fun_ext (λ q. rw (slots, words))))

-- an entry is put at place x, where page q of process p lies: the table's answer r and effect, from those of the levels
module _ (p q : ℕ) (e : Entry) (t u : Levels) (x : ℕ) (spot : Some x ≡ known_place p q) {Says : PutError → Fault → Type 0}
    (names : (d : PutError) (f : Fault) → Says d f → f ≡ record { process = p; page = q }) where
  pub two_level_puts : (done : Result (Unit {0}) PutError) (r : Result (Unit {0}) Fault) → done ≡ put_answer (place_state t x) e → slots_of u ≡ slots_of t
      → MatchResult done (λ _. Changed (λ _. Ready e) (λ y. eqb y x) t u) (λ _. words_of u ≡ words_of t)
      → MatchResult done (λ v. r ≡ Ok v) (λ d. IsErrAnd r (Says d))
      → Puts (two_level t) p q e r (two_level u)
  two_level_puts (Ok v) r answer slots changed told =
      let can : can_put (two_level t) p q e ≡ true = grind arith in
      rw told
      (lift_put _ _ _ _ p q e can (rw (← held_ready u, ← held_ready t, slots))
      (λ r s. pages_change (λ _. Ready e) (λ y. eqb y x) t u changed r s (eqb r p && eqb s q) (λ known. grind (arith, nat_tests)) (λ unknown. grind (arith, nat_tests))))
  two_level_puts (Err d) (Ok y) answer slots words told = absurd told
  two_level_puts (Err d) (Err f) answer slots words told =
      record { cannot = grind arith; fault = names d f told; same = same_meaning t u slots words }
