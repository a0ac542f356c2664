-- Each step of labelling, on a store of places and on the two lists of labels. What is counted settles which labels
-- there are; which label a place has, the numbers settle. Assumes nothing.
use Rattle.std.proofs.Common.{◌≡◌, ℕ, zero, suc, ◌+◌, ◌<◌, ◌≤◌, Bool, true, false, cond, not, ◌&&◌, ◌||◌, eqb, ltb, leb, List, [], ◌∷◌, ◌++◌, map, length, get_or, set, sum_by, count_by, filter, sym, refl, ap, ◌∙◌, subst, inl, inr, ⊎_elim, arith}
use Rattle.std.proofs.lemmas.List.{length-map, length-set, get_or-map, get_or-set_same, get_or-set_other}
use Rattle.std.proofs.lemmas.List.Sums.{sum_by_push, sum_by-set}
use Rattle.std.proofs.lemmas.Bool.{lt-ltb, eq-eqb, eqb-true, ne_eqb, false≢true, true≢false, cases_eq, cases_Bool, or_parts, or_from, not_from_false, both_ways}
use Rattle.labelling.specs.Members.{In}
use Rattle.labelling.specs.Labelling.{Label, any, first_of}
use Rattle.labelling.proofs.Members.{Rising, in_left, in_push, in_kept, first_is, first_or_other, others_apart, first_before}
use Rattle.store.specs.Places.{Reading, is_live, weigh, Stored, Precedes, First}
use Rattle.store.proofs.Weights.{sum_map, sum_same, sum_ones, any_count, sum_in, sum_none, sum_at, sum_found, sum_kept, sum_first, sum_ones_at, sum_less}

ltb_sum : (a b : ℕ) → ltb 0 (a + b) ≡ (ltb 0 a || ltb 0 b)
ltb_sum zero b = ap (ltb 0) (omega arith)
ltb_sum (suc a) b = lt-ltb 0 (suc a + b) (omega arith) ∙ sym (ap (λ t. t || ltb 0 b) (lt-ltb 0 (suc a) (omega arith)))

-- of one number there is only one
rising_one : {X : Type 0} (f : X → ℕ) (y z : X) (xs : List X) → Rising f xs → In y xs → In z xs → f y ≡ f z → y ≡ z
rising_one f y z [] h i j e = absurd i
rising_one f y z (x ∷ xs) h (inl p) (inl q) e = sym p ∙ q
rising_one f y z (x ∷ xs) h (inl p) (inr j) e = absurd (let a = h.0 z j in let b = ap f p in omega arith)
rising_one f y z (x ∷ xs) h (inr i) (inl q) e = absurd (let a = h.0 y i in let b = ap f q in omega arith)
rising_one f y z (x ∷ xs) h (inr i) (inr j) e = rising_one f y z xs h.1 i j e

-- each of two comes before the other: they have one number
same_number : {S : Type 0} (rank : Label S → ℕ) (a b : Label S) → Precedes rank a b → Precedes rank b a → b.number ≡ a.number
same_number rank a b (inl p) (inl q) = absurd (omega arith)
same_number rank a b (inl p) (inr q) = let z = q.0 in absurd (omega arith)
same_number rank a b (inr p) (inl q) = let z = p.0 in absurd (omega arith)
same_number rank a b (inr p) (inr q) = let y = p.1 in let z = q.1 in omega arith

-- counts the labels with this number
abbrev pub named : {S : Type 0} → ℕ → Label S → ℕ
named n k = cond (eqb k.number n) 1 0

pub named_own : {S : Type 0} (l : Label S) → named l.number l ≡ 1
named_own l = ap (λ b. cond b 1 0) (eq-eqb l.number l.number refl)

module _ {C S : Type 0} (r : Reading C S) where
  abbrev pub cell_at : List C → ℕ → C
  cell_at xs i = get_or xs i r.blank

  -- ONE PLACE

  pub treated_not_waiting : (c : C) → r.is_treated c ≡ true → r.is_waiting c ≡ false
  treated_not_waiting c e = ⊎_elim (λ w. absurd (both_ways (r.is_treated c) (r.one_kind c w) e)) (λ w. w) (cases_Bool (r.is_waiting c))

  pub treated_live : (c : C) → r.is_treated c ≡ true → is_live r c ≡ true
  treated_live c e = ap (λ b. b || r.is_waiting c) e

  pub blank_free : is_live r r.blank ≡ false
  blank_free = or_from (r.is_treated r.blank) (r.is_waiting r.blank) r.blank_treated r.blank_waits

  -- a place weighs as it is read
  pub weigh_treated : (f g : Label S → ℕ) (c : C) → r.is_treated c ≡ true → weigh r f g c ≡ f (r.view c)
  weigh_treated f g c e = rw e

  weigh_waiting : (f g : Label S → ℕ) (c : C) → r.is_waiting c ≡ true → weigh r f g c ≡ g (r.view c)
  weigh_waiting f g c e = rw (r.one_kind c e, e)

  pub weigh_blank : (f g : Label S → ℕ) (c : C) → is_live r c ≡ false → weigh r f g c ≡ 0
  weigh_blank f g c e = let p = or_parts (r.is_treated c) (r.is_waiting c) e in rw (p.0, p.1)

  test_live : (p : Label S → Bool) (c : C) → ◌≡◌ {A = ℕ} (cond (is_live r c && p (r.view c)) 1 0) (weigh r (λ k. cond (p k) 1 0) (λ k. cond (p k) 1 0) c)
  test_live p c = by (r.is_treated c) (r.is_waiting c)
    where
      by : (t w : Bool) → ◌≡◌ {A = ℕ} (cond ((t || w) && p (r.view c)) 1 0) (cond t (cond (p (r.view c)) 1 0) (cond w (cond (p (r.view c)) 1 0) 0))
      by true true = refl
      by true false = refl
      by false true = refl
      by false false = refl

  test_waiting : (p : Label S → Bool) (c : C) → ◌≡◌ {A = ℕ} (cond (r.is_waiting c && p (r.view c)) 1 0) (weigh r (λ _. 0) (λ k. cond (p k) 1 0) c)
  test_waiting p c = by (r.is_treated c) (r.is_waiting c) refl refl
    where
      by : (t w : Bool) → r.is_treated c ≡ t → r.is_waiting c ≡ w → ◌≡◌ {A = ℕ} (cond (w && p (r.view c)) 1 0) (cond t 0 (cond w (cond (p (r.view c)) 1 0) 0))
      by true true e q = absurd (true≢false (sym e ∙ r.one_kind c q))
      by true false e q = refl
      by false true e q = refl
      by false false e q = refl

  strike_weight : (f g : Label S → ℕ) (p : Label S → Bool) (c : C) → weigh r f g (cond (r.is_waiting c && p (r.view c)) r.blank c) ≡ weigh r f (λ k. cond (p k) 0 (g k)) c
  strike_weight f g p c = by (r.is_waiting c) refl (p (r.view c)) refl
    where
      by : (w : Bool) → r.is_waiting c ≡ w → (b : Bool) → p (r.view c) ≡ b → weigh r f g (cond (w && b) r.blank c) ≡ weigh r f (λ k. cond (p k) 0 (g k)) c
      by true e true q = weigh_blank f g r.blank blank_free ∙ sym (weigh_waiting f (λ k. cond (p k) 0 (g k)) c e ∙ ap (λ b. cond b 0 (g (r.view c))) q)
      by true e false q = weigh_waiting f g c e ∙ sym (weigh_waiting f (λ k. cond (p k) 0 (g k)) c e ∙ ap (λ b. cond b 0 (g (r.view c))) q)
      by false e b q = ap (λ w. cond (r.is_treated c) (f (r.view c)) (cond w (g (r.view c)) 0)) e ∙ sym (ap (λ w. cond (r.is_treated c) (f (r.view c)) (cond w (cond (p (r.view c)) 0 (g (r.view c))) 0)) e)

  one_each : (c : C) → weigh r (λ _. 1) (λ _. 1) c ≤ 1
  one_each c = by (r.is_treated c) (r.is_waiting c)
    where
      by : (t w : Bool) → cond t 1 (cond w 1 0) ≤ 1
      by true w = omega arith
      by false true = omega arith
      by false false = omega arith

  one_live : (c : C) → is_live r c ≡ true → weigh r (λ _. 1) (λ _. 1) c ≡ 1
  one_live c e = by (r.is_treated c) (r.is_waiting c) e
    where
      by : (t w : Bool) → (t || w) ≡ true → ◌≡◌ {A = ℕ} (cond t 1 (cond w 1 0)) 1
      by true w e = refl
      by false true e = refl
      by false false e = absurd (false≢true e)

  -- a place that weighs among the waiting ones waits, and passes
  waiting_weighs : (p : Label S → Bool) (c : C) → 0 < weigh r (λ _. 0) (λ k. cond (p k) 1 0) c → (r.is_waiting c ≡ true) × (p (r.view c) ≡ true)
  waiting_weighs p c l = by (r.is_treated c) (r.is_waiting c) refl (p (r.view c)) refl l
    where
      by : (t w : Bool) → r.is_waiting c ≡ w → (b : Bool) → p (r.view c) ≡ b → 0 < cond t 0 (cond w (cond b 1 0) 0) → (r.is_waiting c ≡ true) × (p (r.view c) ≡ true)
      by true w e b q l = absurd (omega arith)
      by false true e true q l = (e, q)
      by false true e false q l = absurd (omega arith)
      by false false e b q l = absurd (omega arith)

  -- and likewise among the treated ones
  pub treated_weighs : (p : Label S → Bool) (c : C) → 0 < weigh r (λ k. cond (p k) 1 0) (λ _. 0) c → (r.is_treated c ≡ true) × (p (r.view c) ≡ true)
  treated_weighs p c l = by (r.is_treated c) refl (r.is_waiting c) (p (r.view c)) refl l
    where
      by : (u : Bool) → r.is_treated c ≡ u → (w b : Bool) → p (r.view c) ≡ b → 0 < cond u (cond b 1 0) (cond w 0 0) → (r.is_treated c ≡ true) × (p (r.view c) ≡ true)
      by true e w true q l = (e, q)
      by true e w false q l = absurd (omega arith)
      by false e true b q l = absurd (omega arith)
      by false e false b q l = absurd (omega arith)

  -- A PLACE IS WRITTEN

  module _ (cells : List C) (i : ℕ) (c : C) (l : i < length cells) where
    -- what holds of the new place, and of each other as it was, holds of all
    pub written : (P : C → Type 0) (j : ℕ) → (j ≡ i → P c) → ((j ≡ i → ⊥) → P (cell_at cells j)) → P (cell_at (set cells i c) j)
    written P j a b = ⊎_elim
        (λ e. subst P (sym (ap (cell_at (set cells i c)) e ∙ get_or-set_same cells i c r.blank l)) (a e))
        (λ n. subst P (sym (get_or-set_other cells i j c r.blank n)) (b n))
        (cases_eq j i)

    pub was_inside : (j : ℕ) → j < length (set cells i c) → j < length cells
    was_inside j h = let e = length-set cells i c in omega arith

  -- THE STEPS

  -- the place of a label that waits
  record WaitsAt (cells : List C) (l : Label S) : Type 0 where
    pub place : ℕ
    pub within : place < length cells
    pub here : r.is_waiting (cell_at cells place) ≡ true
    pub is : r.view (cell_at cells place) ≡ l

  module _ (cells : List C) (ts ws : List (Label S)) (st : Stored r cells ts ws) where
    pub any_live : (p : Label S → Bool) → any (λ c. is_live r c && p (r.view c)) cells ≡ (any p ts || any p ws)
    any_live p =
        any_count (λ c. is_live r c && p (r.view c)) cells
        ∙ ap (ltb 0) (sum_same (λ c. cond (is_live r c && p (r.view c)) 1 0) (weigh r (λ k. cond (p k) 1 0) (λ k. cond (p k) 1 0)) cells (test_live p) ∙ st.same (λ k. cond (p k) 1 0) (λ k. cond (p k) 1 0))
        ∙ ltb_sum (count_by p ts) (count_by p ws)
        ∙ sym (ap (λ b. b || any p ws) (any_count p ts) ∙ ap (λ b. ltb 0 (count_by p ts) || b) (any_count p ws))

    pub count_waiting : (p : Label S → Bool) → count_by (λ c. r.is_waiting c && p (r.view c)) cells ≡ count_by p ws
    count_waiting p =
        let a = sum_same (λ c. cond (r.is_waiting c && p (r.view c)) 1 0) (weigh r (λ _. 0) (λ k. cond (p k) 1 0)) cells (test_waiting p) in
        let b = st.same (λ _. 0) (λ k. cond (p k) 1 0) in
        let c = sum_none (λ _. 0) ts (λ y i. refl) in
        omega arith

    -- waiting labels that pass are struck
    pub struck : (p : Label S → Bool) → Stored r (map (λ c. cond (r.is_waiting c && p (r.view c)) r.blank c) cells) ts (filter (λ k. not (p k)) ws)
    struck p = record {
      same = λ f g. sum_map (weigh r f g) h cells ∙ sum_same (λ c. weigh r f g (h c)) (weigh r f (λ k. cond (p k) 0 (g k))) cells (strike_weight f g p) ∙ st.same f (λ k. cond (p k) 0 (g k)) ∙ ap (λ n. sum_by f ts + n) (sum_kept g p ws);
      treats = λ i l e. let k = short i l in subst (λ z. r.is_treated z ≡ true → In (r.view z) ts) (sym (at i k)) (treated i k (r.is_waiting (cell_at cells i) && p (r.view (cell_at cells i)))) e;
      waits = λ i l e. let k = short i l in subst (λ z. r.is_waiting z ≡ true → In (r.view z) (filter (λ k. not (p k)) ws)) (sym (at i k)) (waiting i k (r.is_waiting (cell_at cells i) && p (r.view (cell_at cells i))) refl) e;
    }
      where
        h : C → C
        h c = cond (r.is_waiting c && p (r.view c)) r.blank c

        short : (i : ℕ) → i < length (map h cells) → i < length cells
        short i l = let e = length-map cells h in omega arith

        at : (i : ℕ) → i < length cells → cell_at (map h cells) i ≡ h (cell_at cells i)
        at i l = get_or-map h cells i r.blank r.blank l

        treated : (i : ℕ) → i < length cells → (b : Bool) → r.is_treated (cond b r.blank (cell_at cells i)) ≡ true → In (r.view (cond b r.blank (cell_at cells i))) ts
        treated i l true e = absurd (both_ways (r.is_treated r.blank) r.blank_treated e)
        treated i l false e = st.treats i l e

        waiting : (i : ℕ) → i < length cells → (b : Bool) → (r.is_waiting (cell_at cells i) && p (r.view (cell_at cells i))) ≡ b → r.is_waiting (cond b r.blank (cell_at cells i)) ≡ true → In (r.view (cond b r.blank (cell_at cells i))) (filter (λ k. not (p k)) ws)
        waiting i l true q e = absurd (both_ways (r.is_waiting r.blank) r.blank_waits e)
        waiting i l false q e = in_kept (λ k. not (p k)) (r.view (cell_at cells i)) ws (st.waits i l e) (not_from_false (p (r.view (cell_at cells i))) (ap (λ w. w && p (r.view (cell_at cells i))) (sym e) ∙ q))

    live_ones : sum_by (weigh r (λ _. 1) (λ _. 1)) cells ≡ length ts + length ws
    live_ones = let a = st.same (λ _. 1) (λ _. 1) in let b = sum_ones ts in let c = sum_ones ws in omega arith

    -- a place is blank: the labels do not fill the store
    pub roomy : (i : ℕ) → i < length cells → is_live r (cell_at cells i) ≡ false → length ts + length ws < length cells
    roomy i l e = let a = sum_less (weigh r (λ _. 1) (λ _. 1)) cells i r.blank one_each l (weigh_blank (λ _. 1) (λ _. 1) (cell_at cells i) e) in let b = live_ones in omega arith

    -- no place is blank: they fill it
    pub full : ((i : ℕ) → i < length cells → is_live r (cell_at cells i) ≡ true) → length ts + length ws ≡ length cells
    full h = sym live_ones ∙ sum_ones_at (weigh r (λ _. 1) (λ _. 1)) cells r.blank (λ i l. one_live (cell_at cells i) (h i l))

    -- a blank place gets a waiting label
    pub kept : (i : ℕ) (c : C) → i < length cells → is_live r (cell_at cells i) ≡ false → r.is_waiting c ≡ true → Stored r (set cells i c) ts (ws ++ r.view c ∷ [])
    kept i c l e w = record {
      same = λ f g. let a = sum_by-set (weigh r f g) cells i c r.blank l in let b = weigh_blank f g (cell_at cells i) e in let d = weigh_waiting f g c w in let q = st.same f g in let p = sum_by_push g ws (r.view c) in omega arith;
      treats = λ k n. written cells i c l (λ z. r.is_treated z ≡ true → In (r.view z) ts) k (λ _ q. absurd (both_ways (r.is_treated c) (r.one_kind c w) q)) (λ _. st.treats k (was_inside cells i c l k n));
      waits = λ k n. written cells i c l (λ z. r.is_waiting z ≡ true → In (r.view z) (ws ++ r.view c ∷ [])) k (λ _ _. in_push (r.view c) ws) (λ _ q. in_left (r.view (cell_at cells k)) ws (r.view c ∷ []) (st.waits k (was_inside cells i c l k n) q));
    }

    module _ (ri : Rising (λ l. l.number) ws) where
      place_of : (l : Label S) → In l ws → WaitsAt cells l
      place_of l i =
          let own = named_own l in
          let a = sum_in (named l.number) l ws i in
          let b = st.same (λ _. 0) (named l.number) in
          let some : 0 < sum_by (weigh r (λ _. 0) (named l.number)) cells = omega arith in
          let k = sum_found (weigh r (λ _. 0) (named l.number)) cells r.blank some in
          let w = waiting_weighs (λ a. eqb a.number l.number) (cell_at cells k.0) k.2 in
          record {
            place = k.0;
            within = k.1;
            here = w.0;
            is = rising_one (λ l. l.number) (r.view (cell_at cells k.0)) l ws ri (st.waits k.0 k.1 w.0) i (eqb-true (r.view (cell_at cells k.0)).number l.number w.1);
          }

      pub none_waits : ((i : ℕ) → i < length cells → r.is_waiting (cell_at cells i) ≡ false) → ws ≡ []
      none_waits h = by ws refl
        where
          by : (us : List (Label S)) → ws ≡ us → ws ≡ []
          by [] e = e
          by (x ∷ us) e = let p = place_of x (subst (In x) (sym e) (inl refl)) in absurd (both_ways (r.is_waiting (cell_at cells p.place)) (h p.place p.within) p.here)

      module _ (rank : Label S → ℕ) (x : Label S) (xs : List (Label S)) (i : ℕ) (e : ws ≡ x ∷ xs) (fi : First r rank cells i) where
        abbrev before : Label S → Label S → Bool
        before a b = leb (rank a) (rank b)

        abbrev one : Label S
        one = (first_of before x xs).0

        abbrev others : List (Label S)
        others = (first_of before x xs).1

        rises : Rising (λ l. l.number) (x ∷ xs)
        rises = subst (Rising (λ l. l.number)) e ri

        -- the first place has the label that is chosen
        pub chosen_here : r.view (cell_at cells i) ≡ (first_of (λ a b. leb (rank a) (rank b)) x xs).0
        chosen_here =
            let v = r.view (cell_at cells i) in
            let iv = st.waits i fi.within fi.here in
            let io = subst (In one) (sym e) (first_is before x xs) in
            let p = place_of one io in
            let b1 = first_before rank (λ l. l.number) x xs rises v (subst (In v) e iv) in
            let b2 = subst (Precedes rank v) p.is (fi.before p.place p.within p.here) in
            rising_one (λ l. l.number) v one ws ri iv io (same_number rank one v b1 b2)

        -- the first place gets its label as a treated one
        pub taken_up : (c : C) → r.is_treated c ≡ true → r.view c ≡ r.view (cell_at cells i) → Stored r (set cells i c) (ts ++ (first_of (λ a b. leb (rank a) (rank b)) x xs).0 ∷ []) (first_of (λ a b. leb (rank a) (rank b)) x xs).1
        taken_up c t vc = record {
          same = sums;
          treats = λ k n. written cells i c fi.within (λ z. r.is_treated z ≡ true → In (r.view z) (ts ++ one ∷ [])) k (λ _ _. subst (λ z. In z (ts ++ one ∷ [])) (sym (vc ∙ chosen_here)) (in_push one ts)) (λ _ q. in_left (r.view (cell_at cells k)) ts (one ∷ []) (st.treats k (was_inside cells i c fi.within k n) q));
          waits = λ k n q. ⊎_elim (λ d. absurd (twice k n q (sym d))) (λ j. j) (first_or_other before x xs (r.view (cell_at (set cells i c) k)) (subst (In (r.view (cell_at (set cells i c) k))) e (was k n q)));
        }
          where
            sums : (f g : Label S → ℕ) → sum_by (weigh r f g) (set cells i c) ≡ sum_by f (ts ++ one ∷ []) + sum_by g others
            sums f g =
                let a = sum_by-set (weigh r f g) cells i c r.blank fi.within in
                let b = weigh_waiting f g (cell_at cells i) fi.here in
                let d = weigh_treated f g c t in
                let q = st.same f g in
                let p = sum_by_push f ts one in
                let s = sum_first g before x xs in
                let u = ap (sum_by g) e in
                let v = ap g chosen_here in
                let w = ap f (vc ∙ chosen_here) in
                omega arith

            was : (k : ℕ) → k < length (set cells i c) → r.is_waiting (cell_at (set cells i c) k) ≡ true → In (r.view (cell_at (set cells i c) k)) ws
            was k n = written cells i c fi.within (λ z. r.is_waiting z ≡ true → In (r.view z) ws) k (λ _ q. absurd (both_ways (r.is_treated c) (r.one_kind c q) t)) (λ _. st.waits k (was_inside cells i c fi.within k n))

            twice : (k : ℕ) → k < length (set cells i c) → r.is_waiting (cell_at (set cells i c) k) ≡ true → r.view (cell_at (set cells i c) k) ≡ one → ⊥
            twice k n q d =
                let g = named one.number in
                let own = named_own one in
                let a = sum_at (weigh r (λ _. 0) g) (set cells i c) k r.blank n in
                let b = weigh_waiting (λ _. 0) g (cell_at (set cells i c) k) q in
                let u = ap g d in
                let s = sums (λ _. 0) g in
                let z = sum_none (λ _. 0) (ts ++ one ∷ []) (λ y i. refl) in
                let w = sum_none g others (λ y j. ap (λ b. cond b 1 0) (ne_eqb y.number one.number (λ m. others_apart before (λ l. l.number) x xs rises y j (sym m)))) in
                omega arith
