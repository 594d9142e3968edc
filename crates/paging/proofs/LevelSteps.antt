-- One leaf of the two-level table is changed, taken or given back: the states of the pages, and that a held leaf has a ready page.
use Rattle.std.proofs.Common.{◌≡◌, ℕ, eqb, ◌+◌, ◌*◌, ◌/◌, ◌%◌, ◌<◌, cond, ◌≢◌, List, [], length, get_or, set, Some, None, Option, arith, refl, ◌-◌, ◌≤◌, true, replicate, sym, Ok, Err, MatchResult, Result}
use Rattle.std.proofs.lemmas.Grind.{get_or-set_at}
use Rattle.std.proofs.lemmas.List.{get_or-set_other, get_or-map, get_or-replicate, length-map, length-replicate, map-set, set-get_or}
use Rattle.std.proofs.lemmas.List.Sums.{get_or-le-sum_by}
use Rattle.std.proofs.lemmas.Bool.Decides.{eqb_tells, nat_tests}
use Rattle.paging.specs.declared.page.PageState.{PageState}
use Rattle.paging.specs.declared.leaf.Leaf.{Leaf}
use Rattle.paging.specs.declared.levels.Levels.{Levels}
use Rattle.paging.specs.declared.page.Entry.{Entry}
use Rattle.paging.specs.declared.page.PageState.TheVariants.{Ready}
use Rattle.paging.specs.declared.window.PutError.{PutError}
use Rattle.paging.specs.Blocks.{block_pages, blocks, in_block, IsPart, leaf_count, Meets}
use Rattle.paging.specs.Directory.{leaf_of, holders}
use Rattle.paging.specs.Ranges.{within}
use Rattle.paging.specs.States.{is_ready, made_unready}
use Rattle.paging.specs.Leaves.{Changes, leaf_state, Used, words_in}
use Rattle.paging.specs.Window.{ready_in, Rewrites, window_state, readied, unreadied, put_answer, replaced}
use Rattle.paging.specs.Word.{state_of, storable}
use Rattle.paging.specs.TwoLevel.{slots_of, words_of}
use Rattle.paging.proofs.Directories.{holds_inside, held_never, held_once}
use Rattle.paging.proofs.ReadyCounts.{put_alike}
use Rattle.paging.proofs.Windows.{state_of_cond, stored}

-- some of a leaf's words are rewritten by g, which means f for the states of their pages: they are those in a part of block b
module _ (g : ℕ → ℕ) (f : PageState → PageState) (means : (w : ℕ) → state_of (g w) ≡ f (state_of w)) (b start end first n : ℕ) (part : IsPart b start end first n) where
  states_rewritten : (ws vs : List ℕ) → Rewrites g first n ws vs → (i : ℕ) → i < length ws
      → window_state vs i ≡ cond (within first n i) (f (window_state ws i)) (window_state ws i)
  states_rewritten ws vs r i inside =
      rw (r.words i inside, ← means (get_or ws i 0)) (state_of_cond (within first n i) (g (get_or ws i 0)) (get_or ws i 0))

  -- leaf l, which block b holds in the end, has the words vs: the states of the block's pages change, and no others
  leaf_changes : (slots slots' : List (Option ℕ)) (words words' : List (List ℕ)) (l : ℕ) (ws vs : List ℕ)
      → leaf_of slots' b ≡ Some l → ((m : ℕ) → get_or words' m [] ≡ cond (eqb m l) vs (get_or words m []))
      → ((c : ℕ) → c ≢ b → leaf_of slots' c ≡ leaf_of slots c) → ((c : ℕ) → c ≢ b → leaf_of slots c ≡ Some l → ⊥)
      → ((i : ℕ) → i < block_pages → leaf_state words (leaf_of slots b) i ≡ window_state ws i)
      → length ws ≡ block_pages → Rewrites g first n ws vs
      → Changes f (in_block b start end) slots words slots' words'
  leaf_changes slots slots' words words' l ws vs holds reads others alone was long rewrites x =
      let rest : (m : ℕ) → m ≢ l → get_or words' m [] ≡ get_or words m [] = λ m other. grind (arith, nat_tests, reads m) in
      let spot : x / block_pages ≡ b → b * block_pages + x % block_pages ≡ x = λ e. omega arith in
      let was = was (x % block_pages) in
      let now = states_rewritten ws vs rewrites (x % block_pages) in
      grind (arith, eqb_tells (x / block_pages) b, eqb_tells l l, reads l, rest, part (x % block_pages), others (x / block_pages), alone (x / block_pages))

-- a reserve of some of a block's pages leaves one ready
pub some_ready : (b start end first n : ℕ) → Meets b start end → IsPart b start end first n → (ws vs : List ℕ) → length vs ≡ block_pages
    → Rewrites readied first n ws vs → 1 ≤ ready_in vs
some_ready b start end first n meets part ws vs long r =
    let i : ℕ = start - b * block_pages in
    let in_it : within first n i ≡ true = grind (arith, nat_tests, part i) in
    let counted = get_or-le-sum_by (λ (w : ℕ). cond {A = ℕ} (is_ready (state_of w)) 1 0) vs i 0 (omega arith) in
    grind (arith, r.words i)

-- leaf l of the levels t is another one now
module _ (t : Levels) (l : ℕ) (small : l < leaf_count) where
  -- the words of the leaf that was read
  lent_words : (old : Leaf) → (get_or t.leaves l old).words ≡ get_or (words_of t) l []
  lent_words old = sym (get_or-map (λ (f : Leaf). f.words) t.leaves l old [] (omega (arith, t.sized)))

  module _ (new : Leaf) where
    -- the words of each leaf
    words_now : (m : ℕ) → get_or (words_in (set t.leaves l new)) m [] ≡ cond (eqb m l) new.words (get_or (words_of t) m [])
    words_now m =
        rw (map-set (λ (f : Leaf). f.words) t.leaves l new)
        (grind (arith, eqb_tells m l, t.sized, length-map t.leaves (λ (f : Leaf). f.words), get_or-set_at {X = List ℕ}, get_or-set_other {A = List ℕ}))

    -- it has a ready page
    pub lent_used : 1 ≤ ready_in new.words → Used (slots_of t) (words_in (set t.leaves l new))
    lent_used some c m holds = rw (words_now m) (grind (arith, nat_tests, t.used c m holds))

    -- its words are what they were
    lent_same : (old : Leaf) → new.words ≡ (get_or t.leaves l old).words → words_in (set t.leaves l new) ≡ words_of t
    lent_same old e = rw (map-set (λ (f : Leaf). f.words) t.leaves l new, e, lent_words old, set-get_or (words_of t) l [])

    module _ (b : ℕ) where
      -- block b held it
      module _ (holds : leaf_of (slots_of t) b ≡ Some l) where
        alone : (c : ℕ) → leaf_of (slots_of t) c ≡ Some l → c ≡ b
        alone c also = held_once (slots_of t) c b l (omega (arith, t.directory.once l small)) also holds

        -- its words were rewritten
        pub lent_changes : (g : ℕ → ℕ) (f : PageState → PageState) → ((w : ℕ) → state_of (g w) ≡ f (state_of w))
            → (start end first n : ℕ) → IsPart b start end first n
            → (old : Leaf) → Rewrites g first n (get_or t.leaves l old).words new.words
            → Changes f (in_block b start end) (slots_of t) (words_of t) (slots_of t) (words_in (set t.leaves l new))
        lent_changes g f means start end first n part old =
            leaf_changes g f means b start end first n part (slots_of t) (slots_of t) (words_of t) (words_in (set t.leaves l new)) l _ new.words holds words_now
            (λ c apart. refl) (λ c apart also. apart (alone c also)) (λ i low. rw (holds, lent_words old)) (get_or t.leaves l old).sized

        -- it has no ready page, and the block loses it
        module _ (slots' : List (Option ℕ)) (detached : slots' ≡ set (slots_of t) b None) where
          pub lost_changes : true ≡ eqb (ready_in new.words) 0 → (start end first n : ℕ) → IsPart b start end first n
              → (old : Leaf) → Rewrites unreadied first n (get_or t.leaves l old).words new.words
              → Changes made_unready (in_block b start end) (slots_of t) (words_of t) slots' (words_in (set t.leaves l new))
          lost_changes none start end first n part old rewrites x =
              let step = lent_changes unreadied made_unready (λ w. refl) start end first n part old rewrites x in
              let here : get_or (words_in (set t.leaves l new)) l [] ≡ new.words = grind (arith, nat_tests, words_now l) in
              let all = get_or-le-sum_by (λ (w : ℕ). cond {A = ℕ} (is_ready (state_of w)) 1 0) new.words (x % block_pages) 0 in
              grind (arith, eqb_tells (ready_in new.words) 0, new.sized, get_or-set_at {X = Option ℕ}, get_or-set_other {A = Option ℕ}, holds_inside (slots_of t) b l holds)

          pub lost_used : Used slots' (words_in (set t.leaves l new))
          lost_used c m is =
              rw (words_now m)
              (grind (arith, nat_tests, t.used c m, holds_inside (slots_of t) b l holds, get_or-set_at {X = Option ℕ}, get_or-set_other {A = Option ℕ}, alone c))

      -- block b lacked a leaf, and gets it: empty until its words are rewritten
      module _ (slots' : List (Option ℕ)) (lacked : leaf_of (slots_of t) b ≡ None) (inside : b < blocks) (none : holders (slots_of t) l ≡ 0)
          (attached : slots' ≡ set (slots_of t) b (Some l)) where
        pub taken_used : 1 ≤ ready_in new.words → Used slots' (words_in (set t.leaves l new))
        taken_used some c m is =
            rw (words_now m) (grind (arith, nat_tests, t.used c m, get_or-set_at {X = Option ℕ}, get_or-set_other {A = Option ℕ}, held_never (slots_of t) c l none, t.directory.sized))

        pub taken_changes : (g : ℕ → ℕ) (f : PageState → PageState) → ((w : ℕ) → state_of (g w) ≡ f (state_of w))
            → (start end first n : ℕ) → IsPart b start end first n
            → (empty : List ℕ) → empty ≡ replicate block_pages 0 → Rewrites g first n empty new.words
            → Changes f (in_block b start end) (slots_of t) (words_of t) slots' (words_in (set t.leaves l new))
        taken_changes g f means start end first n part empty zeros =
            leaf_changes g f means b start end first n part (slots_of t) slots' (words_of t) (words_in (set t.leaves l new)) l empty new.words
            (grind (arith, t.directory.sized, get_or-set_at {X = Option ℕ})) words_now (λ c apart. grind (arith, get_or-set_other {A = Option ℕ})) (λ c apart. held_never (slots_of t) c l none)
            (λ i low. rw (lacked, zeros, get_or-replicate {A = ℕ} block_pages i 0 0 low)) (rw (zeros, length-replicate {A = ℕ} block_pages 0))

-- the leaf l holds the page at place x, its page i
module _ (t : Levels) (x l i : ℕ) (small : l < leaf_count) (holds : leaf_of (slots_of t) (x / block_pages) ≡ Some l) (page : i ≡ x % block_pages) (old : Leaf) where
  -- an entry was put at the page, and the leaf is another one now
  module _ (new : Leaf) (e : Entry) where
    -- the leaf has as many ready pages as it had
    pub put_used : (r : Result (Unit {0}) PutError) → r ≡ put_answer (window_state (get_or t.leaves l old).words i) e
        → MatchResult r (λ _. Rewrites (replaced e) i 1 (get_or t.leaves l old).words new.words) (λ _. new.words ≡ (get_or t.leaves l old).words)
        → Used (slots_of t) (words_in (set t.leaves l new))
    put_used r answer after =
        lent_used t l small new
        (rw (put_alike e i (get_or t.leaves l old).words new.words r answer after, lent_words t l small old) (t.used (x / block_pages) l holds))

    -- the page has the entry, and no other page changed
    pub put_changes : (r : Result (Unit {0}) PutError) → r ≡ put_answer (window_state (get_or t.leaves l old).words i) e
        → MatchResult r (λ _. Rewrites (replaced e) i 1 (get_or t.leaves l old).words new.words) (λ _. new.words ≡ (get_or t.leaves l old).words)
        → MatchResult r (λ _. Changes (λ _. Ready e) (λ y. eqb y x) (slots_of t) (words_of t) (slots_of t) (words_in (set t.leaves l new)))
        (λ _. words_in (set t.leaves l new) ≡ words_of t)
    put_changes (Err f) answer after = lent_same t l small new old after
    put_changes (Ok u) answer after = λ y.
        let fits : storable e ≡ true = grind arith in
        let one : in_block (x / block_pages) x (x + 1) y ≡ eqb y x = grind (arith, nat_tests) in
        let step = lent_changes t l small new (x / block_pages) holds (replaced e) (λ _. Ready e) (λ w. stored e fits) x (x + 1) i 1 (λ k low. grind (arith, nat_tests)) old after y in
        cc
