-- What the flat table writes into its memory is the effect on its meaning.
use Rattle.std.proofs.Common.{◌≡◌, ℕ, true, ◌&&◌, eqb, List, take, drop, Some, Result, Ok, Err, MatchResult, ap, arith, rules}
use borrow.Rule.Slice.PartMut.{put_mid, put_same}
use mathlib.Core.Path.{fun_ext}
use Rattle.std.specs.Result.{is_ok, IsErrAnd}
use Rattle.std.proofs.lemmas.Bool.{and_parts}
use Rattle.std.proofs.lemmas.Bool.Decides.{nat_tests}
use Rattle.paging.specs.declared.page.Entry.{Entry}
use Rattle.paging.specs.declared.page.Fault.{Fault}
use Rattle.paging.specs.declared.window.PutError.{PutError}
use Rattle.paging.specs.Effects.{Puts, Reserved, Replaced}
use Rattle.paging.specs.Flat.{flat, flat_fits, flat_pages, flat_state, window_start, Wrote, WroteIf}
use Rattle.paging.specs.Ranges.{in_range}
use Rattle.paging.specs.States.{is_ready}
use Rattle.paging.specs.Window.{put_answer, readied, replaced, Rewrites, window_state}
use Rattle.paging.specs.Word.{storable}
use Rattle.paging.proofs.FlatWords.{window_looks, window_wrote}
use Rattle.paging.proofs.Windows.{stored}

-- the words of a range that fits were made ready
pub flat_reserved : (p a n : ℕ) (ws vs : List ℕ) → flat_fits ws p a n ≡ true → Wrote readied p a n ws vs → Reserved (flat ws) p a n (flat vs)
flat_reserved p a n ws vs fits w = search rules

-- the word that was written means the entry, and no other page changed
flat_replaced : (e : Entry) (p q : ℕ) (ws vs : List ℕ) → (is_ready (flat_state ws p q) && storable e) ≡ true → Wrote (replaced e) p q 1 ws vs
    → Replaced (flat ws) p q e (flat vs)
flat_replaced e p q ws vs can w =
    let parts = and_parts (is_ready (flat_state ws p q)) (storable e) can in
    let means = stored e parts.1 in
    record {
      can = can;
      entries = fun_ext (λ r. fun_ext (λ s.
          let one : in_range p q 1 r s ≡ (eqb r p && eqb s q) = grind (arith, nat_tests) in
          grind (arith, nat_tests, w.table r s)));
      ready = search rules;
      faults = search rules;
    }

-- put, where the process's window begins at s and has k words
module _ (e : Entry) (p q s k : ℕ) (ws vs : List ℕ) (start : Some s ≡ window_start ws p) (size : k ≡ flat_pages) {Says : PutError → Fault → Type 0}
    (names : (d : PutError) (f : Fault) → Says d f → f ≡ record { process = p; page = q }) where
  can : (done : Result (Unit {0}) PutError) → done ≡ put_answer (window_state (take k (drop s ws)) q) e
      → (is_ready (flat_state ws p q) && storable e) ≡ is_ok done
  can done is = let looks = window_looks p s k ws start size q in grind arith

  -- the table's answer r and effect, from those of the window
  pub flat_put : (done : Result (Unit {0}) PutError) (r : Result (Unit {0}) Fault) → done ≡ put_answer (window_state (take k (drop s ws)) q) e
      → MatchResult done (λ _. Rewrites (replaced e) q 1 (take k (drop s ws)) vs) (λ _. vs ≡ take k (drop s ws))
      → MatchResult done (λ x. r ≡ Ok x) (λ d. IsErrAnd r (Says d))
      → Puts (flat ws) p q e r (flat (put_mid s k ws vs)) × WroteIf r (replaced e) p q 1 ws (put_mid s k ws vs)
  flat_put (Ok x) r is w told =
      let wrote = window_wrote p s k ws start size (replaced e) q 1 vs w in rw told (flat_replaced e p q ws (put_mid s k ws vs) (can (Ok x) is) wrote, wrote)
  flat_put (Err d) (Ok y) is same told = absurd told
  flat_put (Err d) (Err f) is same told =
      let kept : put_mid s k ws vs ≡ ws = rw same (put_same s k ws) in (record { cannot = can (Err d) is; fault = names d f told; same = ap flat kept }, kept)
