-- What holds of the labels and the best total between any two steps, whatever the answers. Assumes nothing.
use Rattle.std.proofs.Common.{◌≡◌, ℕ, zero, suc, ◌+◌, ◌<◌, ◌≤◌, Bool, true, false, cond, not, eqb, ltb, ◌⊎◌, List, [], ◌∷◌, ◌++◌, length, ℤ, ◌+ℤ◌, ◌≤ℤ◌, Some, None, filter, Option, sym, refl, ap, ◌∙◌, subst, inl, inr, ⊎_elim, arith}
use lib.Signed.{lt_z}
use Rattle.std.specs.List.{range_with_len}
use Rattle.std.proofs.lemmas.Int.{ints}
use Rattle.std.proofs.lemmas.Bool.{eqb-true, eqb-false, ne_eqb, and_left, not_from_false, ltb-true}
use Rattle.stops.specs.Stops.{Stop}
use Rattle.tier.specs.Answers.{Answers}
use Rattle.tier.proofs.Options.{none_some, some_same, and_then_some}
use Rattle.labelling.specs.Members.{In}
use Rattle.labelling.specs.Labelling.{Label, Finished, Table, covers, is_covered, turn_away, strike, add, keep, offer, child, offer_reached, go_on, go_on_to, lower, finish_for, try_finish, take_up, treat_label, choose, treat_of, treat, root, begin, find}
use Rattle.labelling.specs.Moments.{Passed, at_first, one_turn, BestAtMost}
use Rattle.labelling.proofs.Members.{Rising, in_left, in_push, in_push_cases, in_kept, kept_in, rising_kept, rising_push, first_is, others_in, first_or_other, rising_others, others_apart}
use Rattle.labelling.proofs.Traces.{Traced, at_root, further, traced_more, find_more, find_last, find_still, find_none}

-- THE BEST TOTAL

module _ {S : Type 0} where
  pub best_le : (best : Option (Finished S)) (y z : ℤ) → y ≤ℤ z → BestAtMost best y → BestAtMost best z
  best_le None y z l h = h
  best_le (Some b) y z l h = omega (arith, ints)

  lower_before : (f : Finished S) (best : Option (Finished S)) (z : ℤ) → BestAtMost best z → BestAtMost (lower f best) z
  lower_before f None z h = absurd h
  lower_before f (Some b) z h = by (lt_z f.total b.total) refl
    where
      by : (t : Bool) → lt_z f.total b.total ≡ t → BestAtMost (cond t (Some f) (Some b)) z
      by true e = omega (arith, ints)
      by false e = h

  lower_here : (f : Finished S) (best : Option (Finished S)) → BestAtMost (lower f best) f.total
  lower_here f None = omega (arith, ints)
  lower_here f (Some b) = by (lt_z f.total b.total) refl
    where
      by : (t : Bool) → lt_z f.total b.total ≡ t → BestAtMost (cond t (Some f) (Some b)) f.total
      by true e = omega (arith, ints)
      by false e = omega (arith, ints)

  lower_is : (f b : Finished S) (best : Option (Finished S)) → lower f best ≡ Some b → (best ≡ Some b) ⊎ (f ≡ b)
  lower_is f b None e = inr (some_same e)
  lower_is f b (Some a) e = by (lt_z f.total a.total) e
    where
      by : (t : Bool) → cond t (Some f) (Some a) ≡ Some b → (◌≡◌ {A = Option (Finished S)} (Some a) (Some b)) ⊎ (f ≡ b)
      by true e = inr (some_same e)
      by false e = inl e

module _ {S : Type 0} (m : Answers S) where
  -- the best total is the cost of a label away from the depot and its way home
  pub record Sound (ts : List (Label S)) (b : Finished S) : Type 0 where
    pub traced : Traced m ts b.last
    pub away : 0 < b.last.stop
    pub charge : ℤ
    pub home : m.finish b.last.state b.last.stop ≡ Some charge
    pub sum : b.total ≡ b.last.cost +ℤ charge

  -- for the treated labels ts, the waiting ones ws, the best total and the number of labels kept
  pub record Held (ts ws : List (Label S)) (best : Option (Finished S)) (kept : ℕ) : Type 0 where
    pub traced : (l : Label S) → In l ts ⊎ In l ws → Traced m ts l
    pub numbered : (l : Label S) → In l ts ⊎ In l ws → l.number < kept
    pub fresh : (l : Label S) → In l ws → find l.number ts ≡ None
    pub known : (l : Label S) → In l ts → find l.number ts ≡ Some l
    pub rising : Rising (λ l. l.number) ws
    pub rooted : In (root m) ts ⊎ In (root m) ws
    pub finished : (l : Label S) → In l ts → 0 < l.stop → (y : ℤ) → m.finish l.state l.stop ≡ Some y → BestAtMost best (l.cost +ℤ y)
    pub sound : (b : Finished S) → best ≡ Some b → Sound ts b

  abbrev pub HeldIn : Table S → Type 0
  HeldIn t = Held t.treated t.waiting t.best t.kept

  -- AN OFFER

  -- what waits after l has struck what it covers and is kept
  abbrev pub struck_by : Label S → List (Label S) → List (Label S)
  struck_by l ws = filter (λ k. not (covers m l k)) ws ++ l ∷ []

  pub not_struck : (l k : Label S) (ws : List (Label S)) → In k ws → covers m l k ≡ false → In k (struck_by l ws)
  not_struck l k ws i e = in_left k (filter (λ k. not (covers m l k)) ws) (l ∷ []) (in_kept (λ k. not (covers m l k)) k ws i (not_from_false (covers m l k) e))

  was_waiting : (l k : Label S) (ws : List (Label S)) → In k (struck_by l ws) → In k ws ⊎ (l ≡ k)
  was_waiting l k ws i = ⊎_elim (λ j. inl (kept_in (λ k. not (covers m l k)) k ws j)) (λ e. inr e) (in_push_cases k l (filter (λ k. not (covers m l k)) ws) i)

  was_live : (l k : Label S) (ts ws : List (Label S)) → In k ts ⊎ In k (struck_by l ws) → (In k ts ⊎ In k ws) ⊎ (l ≡ k)
  was_live l k ts ws (inl i) = inl (inl i)
  was_live l k ts ws (inr i) = ⊎_elim (λ j. inl (inr j)) (λ e. inr e) (was_waiting l k ws i)

  held_kept : (ts ws : List (Label S)) (best : Option (Finished S)) (kept : ℕ) (l : Label S) → Held ts ws best kept → Traced m ts l → 0 < l.stop → l.number ≡ kept → Held ts (struck_by l ws) best (kept + 1)
  held_kept ts ws best kept l h traced away n = record {
    traced = λ k i. ⊎_elim (λ j. h.traced k j) (λ e. subst (Traced m ts) e traced) (was_live l k ts ws i);
    numbered = λ k i. ⊎_elim (λ j. let a = h.numbered k j in omega arith) (λ e. let a = ap (λ k. k.number) e in omega arith) (was_live l k ts ws i);
    fresh = λ k i. ⊎_elim (λ j. h.fresh k j) (λ e. find_none k.number ts (λ q j z. let a = h.numbered q (inl j) in let b = ap (λ k. k.number) e in omega arith)) (was_waiting l k ws i);
    known = h.known;
    rising = rising_push (λ k. k.number) l (filter (λ k. not (covers m l k)) ws) (λ k i. let a = h.numbered k (inr (kept_in (λ k. not (covers m l k)) k ws i)) in omega arith) (rising_kept (λ k. k.number) (λ k. not (covers m l k)) ws h.rising);
    rooted = ⊎_elim (λ i. inl i) (λ i. inr (not_struck l (root m) ws i (and_left (eqb l.stop 0) _ (ne_eqb l.stop 0 (λ e. omega arith))))) h.rooted;
    finished = h.finished;
    sound = h.sound;
  }

  -- the two ways out of an offer that the places suffice for
  pub data Offered (places : ℕ) (t : Table S) (l : Label S) : Table S → Type 0 where
    turned_away : is_covered m l t ≡ true → Offered places t l (turn_away t)
    joined : is_covered m l t ≡ false → length t.treated + length (filter (λ k. not (covers m l k)) t.waiting) < places → Offered places t l (add l (strike m l t))

  pub offered : (places : ℕ) (t u : Table S) (l : Label S) → offer m places l t ≡ Some u → Offered places t l u
  offered places t u l e = by (is_covered m l t) refl e
    where
      room : (b : Bool) → ltb (length t.treated + length (filter (λ k. not (covers m l k)) t.waiting)) places ≡ b → is_covered m l t ≡ false → cond b (Some (add l (strike m l t))) None ≡ Some u → Offered places t l u
      room true r q z = subst (Offered places t l) (some_same z) (joined q (ltb-true _ places r))
      room false r q z = absurd (none_some z)

      by : (b : Bool) → is_covered m l t ≡ b → cond b (Some (turn_away t)) (keep places l (strike m l t)) ≡ Some u → Offered places t l u
      by true q z = subst (Offered places t l) (some_same z) (turned_away q)
      by false q z = room (ltb (length t.treated + length (filter (λ k. not (covers m l k)) t.waiting)) places) refl q z

  held_offered : (places : ℕ) (t : Table S) (l : Label S) (u : Table S) → HeldIn t → Traced m t.treated l → 0 < l.stop → l.number ≡ t.kept → Offered places t l u → HeldIn u
  held_offered places t l _ h tr a n (turned_away q) = h
  held_offered places t l _ h tr a n (joined q r) = held_kept t.treated t.waiting t.best t.kept l h tr a n

  -- what an offer leaves as it was
  pub same_treated : (places : ℕ) (t : Table S) (l : Label S) (u : Table S) → Offered places t l u → u.treated ≡ t.treated
  same_treated places t l _ (turned_away q) = refl
  same_treated places t l _ (joined q r) = refl

  -- GOING ON

  -- p went on to j: barred, or its child was offered
  pub data WentOn (places : ℕ) (t : Table S) (p : Label S) (j : ℕ) : Table S → Type 0 where
    barred : m.reach p.state p.stop j ≡ None → WentOn places t p j t
    came : (y : S × ℤ) (u : Table S) → m.reach p.state p.stop j ≡ Some y → Offered places t (child t.kept p j y) u → WentOn places t p j u

  pub went_on : (places : ℕ) (t u : Table S) (p : Label S) (j : ℕ) → go_on m places p j t ≡ Some u → WentOn places t p j u
  went_on places t u p j e = by (m.reach p.state p.stop j) refl e
    where
      by : (o : Option (S × ℤ)) → m.reach p.state p.stop j ≡ o → offer_reached m places p j t o ≡ Some u → WentOn places t p j u
      by None q z = subst (WentOn places t p j) (some_same z) (barred q)
      by (Some y) q z = came y u q (offered places t u (child t.kept p j y) z)

  -- p stands among the treated labels, and can be found there
  pub record Treated (t : Table S) (p : Label S) : Type 0 where
    pub is : In p t.treated
    pub found : find p.number t.treated ≡ Some p
    pub traced : Traced m t.treated p
    pub numbered : p.number < t.kept

  pub child_traced : (t : Table S) (p : Label S) (j : ℕ) (y : S × ℤ) → Stop m.stops j → Treated t p → m.reach p.state p.stop j ≡ Some y → Traced m t.treated (child t.kept p j y)
  child_traced t p j y a h e = further (child t.kept p j y) p y.1 refl h.found h.numbered a e refl h.traced

  pub record Step (t u : Table S) : Type 0 where
    pub held : HeldIn u
    pub same : u.treated ≡ t.treated

  pub step : (places : ℕ) (t : Table S) (p : Label S) (j : ℕ) (u : Table S) → HeldIn t → Stop m.stops j → Treated t p → WentOn places t p j u → Step t u
  step places t p j _ h a k (barred q) = record { held = h; same = refl }
  step places t p j _ h a k (came y u q o) = record { held = held_offered places t (child t.kept p j y) u h (child_traced t p j y a k q) a.0 refl o; same = same_treated places t (child t.kept p j y) u o }

  pub treated_in : (t : Table S) (p : Label S) → HeldIn t → In p t.treated → Treated t p
  treated_in t p h i = record { is = i; found = h.known p i; traced = h.traced p (inl i); numbered = h.numbered p (inl i) }

  pub went_on_to : (places : ℕ) (t u : Table S) (p : Label S) (n k : ℕ) → HeldIn t → 0 < k → k + n ≤ m.stops + 1 → In p t.treated → go_on_to m places p (range_with_len k n) t ≡ Some u → Step t u
  went_on_to places t u p zero k h first top i e = subst (Step t) (some_same e) (record { held = h; same = refl })
  went_on_to places t u p (suc n) k h first top i e =
      let b = and_then_some (go_on m places p k t) (go_on_to m places p (range_with_len (k + 1) n)) u e in
      let s = step places t p k b.first h (first, omega arith) (treated_in t p h i) (went_on places t b.first p k b.is) in
      let q = went_on_to places b.first u p n (k + 1) s.held (omega arith) (omega arith) (rw s.same i) b.then in
      record { held = q.held; same = q.same ∙ s.same }

  -- A TURN

  module _ (l : Label S) (best : Option (Finished S)) where
    finish_before : (z : ℤ) → BestAtMost best z → BestAtMost (try_finish m l best) z
    finish_before z h = by (eqb l.stop 0) (m.finish l.state l.stop)
      where
        by : (t : Bool) (o : Option ℤ) → BestAtMost (cond t best (finish_for l best o)) z
        by true None = h
        by true (Some y) = h
        by false None = h
        by false (Some y) = lower_before (record { total = l.cost +ℤ y; last = l }) best z h

    finish_here : 0 < l.stop → (y : ℤ) → m.finish l.state l.stop ≡ Some y → BestAtMost (try_finish m l best) (l.cost +ℤ y)
    finish_here a y e = subst (λ o. BestAtMost (cond (eqb l.stop 0) best (finish_for l best o)) (l.cost +ℤ y)) (sym e) (by (eqb l.stop 0) refl)
      where
        by : (t : Bool) → eqb l.stop 0 ≡ t → BestAtMost (cond t best (finish_for l best (Some y))) (l.cost +ℤ y)
        by true q = absurd (let z = eqb-true l.stop 0 q in omega arith)
        by false q = lower_here (record { total = l.cost +ℤ y; last = l }) best

    finish_sound : (ts : List (Label S)) (b : Finished S) → Traced m ts l → ((b : Finished S) → best ≡ Some b → Sound ts b) → try_finish m l best ≡ Some b → Sound ts b
    finish_sound ts b tr old e = by (eqb l.stop 0) refl (m.finish l.state l.stop) refl e
      where
        by : (t : Bool) → eqb l.stop 0 ≡ t → (o : Option ℤ) → m.finish l.state l.stop ≡ o → cond t best (finish_for l best o) ≡ Some b → Sound ts b
        by true q o r z = old b z
        by false q None r z = old b z
        by false q (Some y) r z = ⊎_elim
            (λ f. old b f)
            (λ f. subst (Sound ts) f (record { traced = tr; away = let g = eqb-false l.stop 0 q in omega arith; charge = y; home = r; sum = refl }))
            (lower_is (record { total = l.cost +ℤ y; last = l }) b best z)

  sound_more : (ts : List (Label S)) (l : Label S) (b : Finished S) → Sound ts b → Sound (ts ++ l ∷ []) b
  sound_more ts l b s = record { traced = traced_more m ts l b.last s.traced; away = s.away; charge = s.charge; home = s.home; sum = s.sum }

  -- one of the waiting labels is taken up
  module _ (earlier : S → S → Bool) (ts : List (Label S)) (x : Label S) (xs : List (Label S)) where
    abbrev before : Label S → Label S → Bool
    before a b = earlier a.state b.state

    abbrev one : Label S
    one = (choose earlier x xs).0

    abbrev others : List (Label S)
    others = (choose earlier x xs).1

    pub live_before : (k : Label S) → In k (ts ++ one ∷ []) ⊎ In k others → In k ts ⊎ In k (x ∷ xs)
    live_before k (inl i) = ⊎_elim (λ j. inl j) (λ e. inr (subst (λ z. In z (x ∷ xs)) e (first_is before x xs))) (in_push_cases k one ts i)
    live_before k (inr i) = inr (others_in before x xs k i)

    pub live_still : (k : Label S) → In k ts ⊎ In k (x ∷ xs) → In k (ts ++ one ∷ []) ⊎ In k others
    live_still k (inl i) = inl (in_left k ts (one ∷ []) i)
    live_still k (inr i) = ⊎_elim (λ e. inl (subst (λ z. In z (ts ++ one ∷ [])) e (in_push one ts))) (λ j. inr j) (first_or_other before x xs k i)

    pub taken_up : (best : Option (Finished S)) (kept : ℕ) → Held ts (x ∷ xs) best kept → Held (ts ++ one ∷ []) others (try_finish m one best) kept
    taken_up best kept h = record {
      traced = λ k i. traced_more m ts one k (h.traced k (live_before k i));
      numbered = λ k i. h.numbered k (live_before k i);
      fresh = λ k i. find_still k.number ts one (h.fresh k (others_in before x xs k i)) (λ e. others_apart before (λ l. l.number) x xs h.rising k i e);
      known = λ k i. ⊎_elim (λ j. find_more k.number ts one k (h.known k j)) (λ e. subst (λ k. find k.number (ts ++ one ∷ []) ≡ Some k) e (find_last one.number ts one (h.fresh one (first_is before x xs)) refl)) (in_push_cases k one ts i);
      rising = rising_others before (λ l. l.number) x xs h.rising;
      rooted = live_still (root m) h.rooted;
      finished = λ k i a y e. ⊎_elim
          (λ j. finish_before one best (k.cost +ℤ y) (h.finished k j a y e))
          (λ q. subst (λ k. 0 < k.stop → m.finish k.state k.stop ≡ Some y → BestAtMost (try_finish m one best) (k.cost +ℤ y)) q (λ a e. finish_here one best a y e) a e)
          (in_push_cases k one ts i);
      sound = λ b e. finish_sound one best (ts ++ one ∷ []) b (traced_more m ts one one (h.traced one (inr (first_is before x xs)))) (λ b e. sound_more ts one b (h.sound b e)) e;
    }

  pub begins : HeldIn (begin m)
  begins = record {
    traced = λ l i. only l i;
    numbered = λ l i. ⊎_elim absurd (λ j. ⊎_elim (λ e. let z = ap (λ l. l.number) e in omega arith) absurd j) i;
    fresh = λ l i. refl;
    known = λ l i. absurd i;
    rising = (λ y i. absurd i, tt);
    rooted = inr (inl refl);
    finished = λ l i. absurd i;
    sound = λ b e. absurd (none_some e);
  }
    where
      only : (l : Label S) → In l [] ⊎ In l (root m ∷ []) → Traced m [] l
      only l (inl i) = absurd i
      only l (inr (inl e)) = at_root l (sym e)
      only l (inr (inr i)) = absurd i

  module _ (earlier : S → S → Bool) (places : ℕ) where
    -- a turn: nothing waited, or the label chosen was treated
    pub data Turned (t : Table S) : Table S → Type 0 where
      none_waits : t.waiting ≡ [] → Turned t t
      treats : (x : Label S) (xs : List (Label S)) (u : Table S) → t.waiting ≡ x ∷ xs → treat_label m places (choose earlier x xs).0 (choose earlier x xs).1 t ≡ Some u → Turned t u

    pub turned : (t u : Table S) → treat m earlier places t ≡ Some u → Turned t u
    turned t u e = by t.waiting refl e
      where
        by : (ws : List (Label S)) → t.waiting ≡ ws → treat_of m earlier places t ws ≡ Some u → Turned t u
        by [] w z = subst (Turned t) (some_same z) (none_waits w)
        by (x ∷ xs) w z = treats x xs u w z

    -- the table when the label chosen is taken up, before it goes on
    pub held_up : (t : Table S) (x : Label S) (xs : List (Label S)) → HeldIn t → t.waiting ≡ x ∷ xs → HeldIn (take_up m (choose earlier x xs).0 (choose earlier x xs).1 t)
    held_up t x xs h w = taken_up earlier t.treated x xs t.best t.kept (subst (λ ws. Held t.treated ws t.best t.kept) w h)

    pub held_turn : (t u : Table S) → HeldIn t → Turned t u → HeldIn u
    held_turn t _ h (none_waits w) = h
    held_turn t _ h (treats x xs u w e) =
        let one = (choose earlier x xs).0 in
        let others = (choose earlier x xs).1 in
        (went_on_to places (take_up m one others t) u one m.stops 1 (held_up t x xs h w) (omega arith) (omega arith) (in_push one t.treated) e).held

    pub held_passed : (t : Table S) → Passed m earlier places t → HeldIn t
    held_passed _ at_first = begins
    held_passed _ (one_turn {t} u p e) = held_turn t u (held_passed t p) (turned t u e)
