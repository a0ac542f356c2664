-- What covers what: a label that is offered is covered from then on, and so is all that was covered before. Assumes
-- nothing.
use Rattle.std.proofs.Common.{◌≡◌, ℕ, zero, suc, ◌+◌, ◌<◌, ◌≤◌, Bool, true, false, not, eqb, ◌⊎◌, [], ◌∷◌, ◌++◌, ℤ, ◌+ℤ◌, Some, None, filter, Option, sym, refl, ◌∙◌, subst, inl, inr, ⊎_elim, arith}
use Rattle.std.specs.List.{range_with_len}
use Rattle.std.proofs.lemmas.Int.{ints}
use Rattle.std.proofs.lemmas.Bool.{eqb-true, and_parts, or_cases, false≢true, cases_eq}
use Rattle.stops.specs.Stops.{Stop}
use Rattle.tier.specs.Answers.{Answers, Standing, reached}
use Rattle.tier.specs.Laws.{GapLaws}
use Rattle.tier.proofs.Options.{none_some, some_same, and_then_some}
use Rattle.labelling.specs.Members.{In}
use Rattle.labelling.specs.Labelling.{Label, Table, within_gap, covers, any, child, go_on, go_on_to, take_up, choose}
use Rattle.labelling.specs.Moments.{Passed, at_first, one_turn, Van, van, CoversVan, Live}
use Rattle.labelling.proofs.Members.{in_push, in_push_cases, any_in}
use Rattle.labelling.proofs.Traces.{Traced, traced_standing}
use Rattle.labelling.proofs.Ends.{treated_more}
use Rattle.labelling.proofs.Holds.{HeldIn, not_struck, live_still, Offered, turned_away, joined, WentOn, barred, came, went_on, Treated, child_traced, treated_in, step, Turned, none_waits, treats, turned, held_up, held_passed}

module _ {S : Type 0} (m : Answers S) where
  -- what the test says
  pub covers_true : (k l : Label S) → covers m k l ≡ true → CoversVan m k (van l.state l.stop l.cost)
  covers_true k l e =
      let p = and_parts (eqb k.stop l.stop) (within_gap (m.gap k.state l.state) k.cost l.cost) e in
      by (m.gap k.state l.state) refl (eqb-true k.stop l.stop p.0) p.1
    where
      by : (o : Option ℕ) → m.gap k.state l.state ≡ o → k.stop ≡ l.stop → within_gap o k.cost l.cost ≡ true → CoversVan m k (van l.state l.stop l.cost)
      by None q t z = absurd (false≢true z)
      by (Some g) q t z = record { there = t; width = g; present = q; small = omega (arith, ints) }

  -- some live label is no worse than the van
  pub record Covered (t : Table S) (v : Van S) : Type 0 where
    pub label : Label S
    pub live : Live t label
    pub covers : CoversVan m label v

  -- where p reaches j, some live label is no worse than what would go on from p
  abbrev pub Closed : Table S → Label S → ℕ → Type 0
  Closed t p j = (s : S) (x : ℤ) → m.reach p.state p.stop j ≡ Some (s, x) → Covered t (van s j (p.cost +ℤ x))

  -- every van that was covered at a stop is covered still
  abbrev pub HandsOn : Table S → Table S → Type 0
  HandsOn t u = (v : Van S) → Stop m.stops v.place → Standing m v.place v.state → Covered t v → Covered u v

module _ {S : Type 0} (m : Answers S) (laws : GapLaws m) where
  -- a label that covers one that covers the van covers the van: gaps add up at most
  pub covers_through : (k l : Label S) (v : Van S) → Stop m.stops v.place → Standing m v.place v.state → Standing m k.stop k.state → Standing m l.stop l.state → CoversVan m k (van l.state l.stop l.cost) → CoversVan m l v → CoversVan m k v
  covers_through k l v a st ks ls b c =
      let at : k.stop ≡ v.place = b.there ∙ c.there in
      let w = laws.gap_through v.place k.state l.state v.state b.width c.width a (subst (λ i. Standing m i k.state) at ks) (subst (λ i. Standing m i l.state) c.there ls) st b.present c.present in
      let x = b.small in
      let y = c.small in
      let z = w.small in
      record { there = at; width = w.width; present = w.present; small = omega (arith, ints) }

  -- a label covers itself
  covers_itself : (l : Label S) → Stop m.stops l.stop → Standing m l.stop l.state → CoversVan m l (van l.state l.stop l.cost)
  covers_itself l a st = record { there = refl; width = 0; present = laws.gap_to_itself l.stop l.state a st; small = omega (arith, ints) }

  -- an offer: the label offered is covered, and where a label is struck the one that strikes it takes over
  pub record Takes (t u : Table S) (l : Label S) : Type 0 where
    pub hands_on : HandsOn m t u
    pub covered : Covered m u (van l.state l.stop l.cost)

  pub offer_takes : (places : ℕ) (t : Table S) (l : Label S) (u : Table S) → HeldIn m t → Traced m t.treated l → Stop m.stops l.stop → Offered m places t l u → Takes t u l
  offer_takes places t l _ h tr a (turned_away q) = record {
    hands_on = λ v b st c. record { label = c.label; live = c.live; covers = c.covers };
    covered = ⊎_elim
        (λ i. let k = any_in (λ k. covers m k l) t.treated i in record { label = k.0; live = inl k.1; covers = covers_true m k.0 l k.2 })
        (λ i. let k = any_in (λ k. covers m k l) t.waiting i in record { label = k.0; live = inr k.1; covers = covers_true m k.0 l k.2 })
        (or_cases (any (λ k. covers m k l) t.treated) (any (λ k. covers m k l) t.waiting) q);
  }
  offer_takes places t l u h tr a (joined q r) = record {
    hands_on = λ v b st c. by v b st c c.live;
    covered = record { label = l; live = inr last; covers = covers_itself l a stands };
  }
    where
      stands : Standing m l.stop l.state
      stands = traced_standing m t.treated l tr

      last : In l (filter (λ k. not (covers m l k)) t.waiting ++ l ∷ [])
      last = in_push l (filter (λ k. not (covers m l k)) t.waiting)

      to : (v : Van S) → Stop m.stops v.place → Standing m v.place v.state → (c : Covered m t v) → In c.label t.waiting → (b : Bool) → covers m l c.label ≡ b → Covered m u v
      to v b st c i true e = record { label = l; live = inr last; covers = covers_through l c.label v b st stands (traced_standing m t.treated c.label (h.traced c.label c.live)) (covers_true m l c.label e) c.covers }
      to v b st c i false e = record { label = c.label; live = inr (not_struck m l c.label t.waiting i e); covers = c.covers }

      by : (v : Van S) → Stop m.stops v.place → Standing m v.place v.state → (c : Covered m t v) → Live t c.label → Covered m u v
      by v b st c (inl i) = record { label = c.label; live = inl i; covers = c.covers }
      by v b st c (inr i) = to v b st c i (covers m l c.label) refl

  -- p goes on to j
  pub record Goes (t u : Table S) (p : Label S) (j : ℕ) : Type 0 where
    pub hands_on : HandsOn m t u
    pub closed : Closed m u p j

  pub go_on_closes : (places : ℕ) (t : Table S) (p : Label S) (j : ℕ) (u : Table S) → HeldIn m t → Stop m.stops j → Treated m t p → WentOn m places t p j u → Goes t u p j
  go_on_closes places t p j _ h a k (barred q) = record { hands_on = λ v b st c. c; closed = λ s x f. absurd (none_some (sym q ∙ f)) }
  go_on_closes places t p j _ h a k (came y u q o) =
      let l = child t.kept p j y in
      let w = offer_takes places t l u h (child_traced m t p j y a k q) a o in
      record {
        hands_on = w.hands_on;
        closed = λ s x f. subst (λ z. Covered m u (van z.0 j (p.cost +ℤ z.1))) (some_same (sym q ∙ f)) w.covered;
      }

  closed_on : (t u : Table S) (p : Label S) (j : ℕ) → HandsOn m t u → Stop m.stops j → Standing m p.stop p.state → Closed m t p j → Closed m u p j
  closed_on t u p j on a st c s x e = on (van s j (p.cost +ℤ x)) a (reached j s x st e) (c s x e)

  -- p goes on to n stops from k on
  pub record GoesTo (t u : Table S) (p : Label S) (k n : ℕ) : Type 0 where
    pub hands_on : HandsOn m t u
    pub closed : (j : ℕ) → k ≤ j → j < k + n → Closed m u p j

  pub going_on_closes : (places : ℕ) (t u : Table S) (p : Label S) (n k : ℕ) → HeldIn m t → 0 < k → k + n ≤ m.stops + 1 → In p t.treated → go_on_to m places p (range_with_len k n) t ≡ Some u → GoesTo t u p k n
  going_on_closes places t u p zero k h first top i e = subst (λ u. GoesTo t u p k zero) (some_same e) (record { hands_on = λ v b st c. c; closed = λ j l g. absurd (omega arith) })
  going_on_closes places t u p (suc n) k h first top i e =
      let b = and_then_some (go_on m places p k t) (go_on_to m places p (range_with_len (k + 1) n)) u e in
      let at : Stop m.stops k = (first, omega arith) in
      let known = treated_in m t p h i in
      let went = went_on m places t b.first p k b.is in
      let r = go_on_closes places t p k b.first h at known went in
      let s = step m places t p k b.first h at known went in
      let q = going_on_closes places b.first u p n (k + 1) s.held (omega arith) (omega arith) (rw s.same i) b.then in
      record {
        hands_on = λ v a st c. q.hands_on v a st (r.hands_on v a st c);
        closed = λ j l g. ⊎_elim
            (λ e. subst (Closed m u p) e (closed_on b.first u p k q.hands_on at (traced_standing m t.treated p known.traced) r.closed))
            (λ f. q.closed j (omega arith) (omega arith))
            (cases_eq k j);
      }

  -- EVERY TREATED LABEL IS CLOSED, BETWEEN ANY TWO TURNS

  abbrev pub AllClosed : Table S → Type 0
  AllClosed t = (p : Label S) → In p t.treated → (j : ℕ) → Stop m.stops j → Closed m t p j

  module _ (earlier : S → S → Bool) (places : ℕ) where
    closed_turn : (t u : Table S) → HeldIn m t → AllClosed t → Turned m earlier places t u → AllClosed u
    closed_turn t _ h c (none_waits w) = c
    closed_turn t _ h c (treats x xs u w e) = λ p i j a. old_or_new p j a (in_push_cases p one t.treated (subst (In p) same i))
      where
        one : Label S
        one = (choose earlier x xs).0

        up : Table S
        up = take_up m (choose earlier x xs).0 (choose earlier x xs).1 t

        held : HeldIn m (take_up m (choose earlier x xs).0 (choose earlier x xs).1 t)
        held = held_up m earlier places t x xs h w

        goes : GoesTo (take_up m (choose earlier x xs).0 (choose earlier x xs).1 t) u (choose earlier x xs).0 1 m.stops
        goes = going_on_closes places (take_up m (choose earlier x xs).0 (choose earlier x xs).1 t) u (choose earlier x xs).0 m.stops 1 held (omega arith) (omega arith) (in_push (choose earlier x xs).0 t.treated) e

        same : u.treated ≡ t.treated ++ (choose earlier x xs).0 ∷ []
        same = treated_more m places (choose earlier x xs).0 (choose earlier x xs).1 t u e

        old_or_new : (p : Label S) (j : ℕ) → Stop m.stops j → In p t.treated ⊎ ((choose earlier x xs).0 ≡ p) → Closed m u p j
        old_or_new p j a (inl i) = λ s y f.
            let k = c p i j a s y f in
            goes.hands_on (van s j (p.cost +ℤ y)) a (reached j s y (traced_standing m t.treated p (h.traced p (inl i))) f)
            (record { label = k.label; live = live_still m earlier t.treated x xs k.label (subst (λ ws. In k.label t.treated ⊎ In k.label ws) w k.live); covers = k.covers })
        old_or_new p j a (inr q) = subst (λ p. Closed m u p j) q (goes.closed j a.0 (omega arith))

    pub closed_passed : (t : Table S) → Passed m earlier places t → AllClosed t
    closed_passed _ at_first = λ p i. absurd i
    closed_passed _ (one_turn {t} u p e) = closed_turn t u (held_passed m earlier places t p) (closed_passed t p) (turned m earlier places t u e)
