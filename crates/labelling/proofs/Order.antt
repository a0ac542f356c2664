-- In the order of keys: no waiting label has a lesser key than a treated one, so no label that is offered covers a
-- treated one. Assumes nothing.
use Rattle.std.proofs.Common.{◌≡◌, ℕ, zero, suc, ◌+◌, ◌<◌, ◌≤◌, Bool, true, false, not, List, [], ◌∷◌, ◌++◌, ℤ, Some, filter, sym, refl, ap, subst, inl, inr, ⊎_elim, arith}
use Rattle.std.specs.List.{range_with_len}
use Rattle.stops.specs.Stops.{Stop}
use Rattle.tier.specs.Answers.{Answers, Standing, reached}
use Rattle.tier.specs.Laws.{KeyLaws}
use Rattle.tier.proofs.Options.{some_same, and_then_some}
use Rattle.labelling.specs.Members.{In}
use Rattle.labelling.specs.Labelling.{Label, Table, covers, child, go_on, go_on_to, take_up, by_key, choose}
use Rattle.labelling.specs.Moments.{Passed, at_first, one_turn}
use Rattle.labelling.proofs.Members.{Rising, Before, in_push, in_push_cases, kept_in, first_is, others_in, first_before}
use Rattle.labelling.proofs.Traces.{traced_standing}
use Rattle.labelling.proofs.Holds.{HeldIn, Offered, turned_away, joined, WentOn, barred, came, went_on, treated_in, step, Turned, none_waits, treats, turned, held_up, held_passed}
use Rattle.labelling.proofs.Covers.{covers_true}

-- the label that is chosen has the least key, and of these the least number
pub chosen_first : {S : Type 0} (m : Answers S) (x : Label S) (xs : List (Label S)) → Rising (λ l. l.number) (x ∷ xs) → (z : Label S) → In z (x ∷ xs) → Before (λ l. m.key l.state) (λ l. l.number) (choose (by_key m) x xs).0 z
chosen_first m x xs h z i = first_before (λ l. m.key l.state) (λ l. l.number) x xs h z i

before_le : {X : Type 0} (rank f : X → ℕ) (a b : X) → Before rank f a b → rank a ≤ rank b
before_le rank f a b (inl l) = omega arith
before_le rank f a b (inr e) = let z = e.0 in omega arith

module _ {S : Type 0} (m : Answers S) (keys : KeyLaws m) where
  abbrev key : Label S → ℕ
  key l = m.key l.state

  -- no waiting label has a lesser key than a treated one
  abbrev Sorted : List (Label S) → List (Label S) → Type 0
  Sorted ts ws = (k l : Label S) → In k ts → In l ws → key k ≤ key l

  -- no treated label has a greater key than p
  abbrev Under : List (Label S) → Label S → Type 0
  Under ts p = (k : Label S) → In k ts → key k ≤ key p

  sorted_offer : (places : ℕ) (t : Table S) (l : Label S) (u : Table S) → Under t.treated l → Sorted t.treated t.waiting → Offered m places t l u → Sorted u.treated u.waiting
  sorted_offer places t l _ top h (turned_away q) = h
  sorted_offer places t l _ top h (joined q r) = λ k z i j. ⊎_elim
      (λ n. h k z i (kept_in (λ k. not (covers m l k)) z t.waiting n))
      (λ e. let a = top k i in let b = ap key e in omega arith)
      (in_push_cases z l (filter (λ k. not (covers m l k)) t.waiting) j)

  sorted_go_on : (places : ℕ) (t : Table S) (p : Label S) (j : ℕ) (u : Table S) → Standing m p.stop p.state → Under t.treated p → Sorted t.treated t.waiting → WentOn m places t p j u → Sorted u.treated u.waiting
  sorted_go_on places t p j _ st top h (barred q) = h
  sorted_go_on places t p j _ st top h (came y u q o) = sorted_offer places t (child t.kept p j y) u (λ k i. let a = top k i in let b = keys.reach_raises_key p.stop j p.state y.0 y.1 st q in omega arith) h o

  sorted_going_on : (places : ℕ) (t u : Table S) (p : Label S) (n k : ℕ) → HeldIn m t → 0 < k → k + n ≤ m.stops + 1 → In p t.treated → Under t.treated p → Sorted t.treated t.waiting → go_on_to m places p (range_with_len k n) t ≡ Some u → Sorted u.treated u.waiting
  sorted_going_on places t u p zero k h first last i top s e = subst (λ u. Sorted u.treated u.waiting) (some_same e) s
  sorted_going_on places t u p (suc n) k h first last i top s e =
      let b = and_then_some (go_on m places p k t) (go_on_to m places p (range_with_len (k + 1) n)) u e in
      let went = went_on m places t b.first p k b.is in
      let next = step m places t p k b.first h (first, omega arith) (treated_in m t p h i) went in
      let more = sorted_go_on places t p k b.first (traced_standing m t.treated p (h.traced p (inl i))) top s went in
      sorted_going_on places b.first u p n (k + 1) next.held (omega arith) (omega arith) (rw next.same i) (subst (λ ts. Under ts p) (sym next.same) top) more b.then

  module _ (places : ℕ) where
    -- when the label chosen is taken up
    module _ (t : Table S) (x : Label S) (xs : List (Label S)) (held : HeldIn m t) (sorted : Sorted t.treated t.waiting) (w : t.waiting ≡ x ∷ xs) where
      least : (z : Label S) → In z (x ∷ xs) → key (choose (by_key m) x xs).0 ≤ key z
      least z i = before_le key (λ l. l.number) (choose (by_key m) x xs).0 z (chosen_first m x xs (subst (Rising (λ l. l.number)) w held.rising) z i)

      waits : (z : Label S) → In z (x ∷ xs) → In z t.waiting
      waits z i = subst (In z) (sym w) i

      pub under_chosen : Under (t.treated ++ (choose (by_key m) x xs).0 ∷ []) (choose (by_key m) x xs).0
      under_chosen k i = ⊎_elim
          (λ j. sorted k (choose (by_key m) x xs).0 j (waits (choose (by_key m) x xs).0 (first_is (λ a b. by_key m a.state b.state) x xs)))
          (λ e. let a = ap key e in omega arith)
          (in_push_cases k (choose (by_key m) x xs).0 t.treated i)

      sorted_up : Sorted (t.treated ++ (choose (by_key m) x xs).0 ∷ []) (choose (by_key m) x xs).1
      sorted_up k z i j =
          let a = under_chosen k i in
          let b = least z (others_in (λ a b. by_key m a.state b.state) x xs z j) in
          omega arith

    sorted_turn : (t u : Table S) → HeldIn m t → Sorted t.treated t.waiting → Turned m (by_key m) places t u → Sorted u.treated u.waiting
    sorted_turn t _ h s (none_waits w) = s
    sorted_turn t _ h s (treats x xs u w e) =
        let one = (choose (by_key m) x xs).0 in
        let others = (choose (by_key m) x xs).1 in
        sorted_going_on places (take_up m one others t) u one m.stops 1 (held_up m (by_key m) places t x xs h w) (omega arith) (omega arith) (in_push one t.treated) (under_chosen t x xs h s w) (sorted_up t x xs h s w) e

    pub sorted_passed : (t : Table S) → Passed m (by_key m) places t → Sorted t.treated t.waiting
    sorted_passed _ at_first = λ k l i. absurd i
    sorted_passed _ (one_turn {t} u p e) = sorted_turn t u (held_passed m (by_key m) places t p) (sorted_passed t p) (turned m (by_key m) places t u e)

pub covers_no_treated : {S : Type 0} (m : Answers S) (places : ℕ) (t : Table S) (x : Label S) (xs : List (Label S)) → KeyLaws m → Passed m (by_key m) places t → t.waiting ≡ x ∷ xs → (k : Label S) → In k (t.treated ++ (choose (by_key m) x xs).0 ∷ []) → (number j : ℕ) (a : S × ℤ) → Stop m.stops j → m.reach (choose (by_key m) x xs).0.state (choose (by_key m) x xs).0.stop j ≡ Some a → covers m (child number (choose (by_key m) x xs).0 j a) k ≡ false
covers_no_treated {S} m places t x xs keys p w k i number j a at e = by (covers m (child number (choose (by_key m) x xs).0 j a) k) refl
  where
    held : HeldIn m t
    held = held_passed m (by_key m) places t p

    up : HeldIn m (take_up m (choose (by_key m) x xs).0 (choose (by_key m) x xs).1 t)
    up = held_up m (by_key m) places t x xs held w

    stands : (l : Label S) → In l (t.treated ++ (choose (by_key m) x xs).0 ∷ []) → Standing m l.stop l.state
    stands l n = traced_standing m (t.treated ++ (choose (by_key m) x xs).0 ∷ []) l (up.traced l (inl n))

    by : (b : Bool) → covers m (child number (choose (by_key m) x xs).0 j a) k ≡ b → b ≡ false
    by false q = refl
    by true q =
        let c = covers_true m (child number (choose (by_key m) x xs).0 j a) k q in
        let first = stands (choose (by_key m) x xs).0 (in_push (choose (by_key m) x xs).0 t.treated) in
        let o = keys.gap_orders_keys j a.0 k.state c.width at (reached j a.0 a.1 first e) (subst (λ i. Standing m i k.state) (sym c.there) (stands k i)) c.present in
        let r = keys.reach_raises_key (choose (by_key m) x xs).0.stop j (choose (by_key m) x xs).0.state a.0 a.1 first e in
        let l = under_chosen m keys places t x xs held (sorted_passed m keys places t p) w k i in
        absurd (omega arith)
