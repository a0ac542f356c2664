-- The chain of parents behind a label, and the way that it makes. Assumes nothing.
use Rattle.std.proofs.Common.{◌≡◌, ℕ, zero, suc, ◌<◌, ◌≤◌, Bool, true, false, cond, eqb, List, [], ◌∷◌, ◌++◌, length, ℤ, pos, ◌+ℤ◌, Some, None, sym, refl, ap, ◌∙◌, subst, inl, inr, arith}
use Rattle.std.specs.List.{AllByRecursion}
use Rattle.std.proofs.lemmas.Bool.{eq-eqb, ne_eqb, cond-false}
use Rattle.std.proofs.ByRecursion.{All-push}
use Rattle.stops.specs.Stops.{Stop}
use Rattle.tier.specs.Answers.{Answers, Standing, at_depot, reached}
use Rattle.tier.specs.Routes.{and_then, plus, replay_from, reduced_cost}
use Rattle.tier.proofs.Options.{none_some, some_same, and_then_some, plus_zero, plus_plus}
use Rattle.labelling.specs.Members.{In}
use Rattle.labelling.specs.Labelling.{Label, root, find, after_parent, way_to}
use Rattle.labelling.specs.Moments.{Van, van, drive, van_after}

-- VANS

module _ {S : Type 0} (m : Answers S) where
  -- one stop further
  pub drive_on : (gone : List ℕ) (j : ℕ) (v w : Van S) (s : S) (x : ℤ) → drive m v gone ≡ Some w → m.reach w.state w.place j ≡ Some (s, x) → drive m v (gone ++ j ∷ []) ≡ Some (van s j (w.paid +ℤ x))
  drive_on [] j v w s x e r =
      let q = some_same e in
      subst (λ w. m.reach w.state w.place j ≡ Some (s, x) → drive m v (j ∷ []) ≡ Some (van s j (w.paid +ℤ x))) q
      (λ r. ap (λ o. and_then o (λ p. drive m (van p.0 j (v.paid +ℤ p.1)) [])) r) r
  drive_on (i ∷ gone) j v w s x e r =
      let b = and_then_some (m.reach v.state v.place i) (λ p. drive m (van p.0 i (v.paid +ℤ p.1)) gone) w e in
      ap (λ o. and_then o (λ p. drive m (van p.0 i (v.paid +ℤ p.1)) (gone ++ j ∷ []))) b.is ∙ drive_on gone j (van b.first.0 i (v.paid +ℤ b.first.1)) w s x b.then r

  -- the whole costs what was paid, and what is left
  drive_replay : (gone left : List ℕ) (v w : Van S) → drive m v gone ≡ Some w → plus v.paid (replay_from m v.state v.place (gone ++ left)) ≡ plus w.paid (replay_from m w.state w.place left)
  drive_replay [] left v w e = ap (λ w. plus w.paid (replay_from m w.state w.place left)) (some_same e)
  drive_replay (j ∷ gone) left v w e =
      let b = and_then_some (m.reach v.state v.place j) (λ p. drive m (van p.0 j (v.paid +ℤ p.1)) gone) w e in
      let s = b.first.0 in
      let x = b.first.1 in
      ap (λ o. plus v.paid (and_then o (λ p. plus p.1 (replay_from m p.0 j (gone ++ left))))) b.is
      ∙ plus_plus v.paid x (replay_from m s j (gone ++ left))
      ∙ drive_replay gone left (van s j (v.paid +ℤ x)) w b.then

  pub replay_through : (gone left : List ℕ) (w : Van S) → van_after m gone ≡ Some w → reduced_cost m (gone ++ left) ≡ plus w.paid (replay_from m w.state w.place left)
  replay_through gone left w e = plus_zero (reduced_cost m (gone ++ left)) ∙ drive_replay gone left (van m.start 0 (pos 0)) w e

-- FINDING BY NUMBER

module _ {S : Type 0} where
  pub find_more : (n : ℕ) (ks : List (Label S)) (k q : Label S) → find n ks ≡ Some q → find n (ks ++ k ∷ []) ≡ Some q
  find_more n [] k q e = absurd (none_some e)
  find_more n (l ∷ ks) k q e = by (find_more n ks k q) (eqb l.number n) e
    where
      by : (find n ks ≡ Some q → find n (ks ++ k ∷ []) ≡ Some q) → (b : Bool) → cond b (Some l) (find n ks) ≡ Some q → cond b (Some l) (find n (ks ++ k ∷ [])) ≡ Some q
      by more true z = z
      by more false z = more z

  pub find_last : (n : ℕ) (ks : List (Label S)) (k : Label S) → find n ks ≡ None → k.number ≡ n → find n (ks ++ k ∷ []) ≡ Some k
  find_last n [] k e h = rw (eq-eqb k.number n h)
  find_last n (l ∷ ks) k e h = by (λ z. find_last n ks k z h) (eqb l.number n) e
    where
      by : (find n ks ≡ None → find n (ks ++ k ∷ []) ≡ Some k) → (b : Bool) → cond b (Some l) (find n ks) ≡ None → cond b (Some l) (find n (ks ++ k ∷ [])) ≡ Some k
      by more true z = absurd (none_some (sym z))
      by more false z = more z

  pub find_still : (n : ℕ) (ks : List (Label S)) (k : Label S) → find n ks ≡ None → (k.number ≡ n → ⊥) → find n (ks ++ k ∷ []) ≡ None
  find_still n [] k e h = cond-false (eqb k.number n) (Some k) None (ne_eqb k.number n h)
  find_still n (l ∷ ks) k e h = by (λ z. find_still n ks k z h) (eqb l.number n) e
    where
      by : (find n ks ≡ None → find n (ks ++ k ∷ []) ≡ None) → (b : Bool) → cond b (Some l) (find n ks) ≡ None → cond b (Some l) (find n (ks ++ k ∷ [])) ≡ None
      by more true z = absurd (none_some (sym z))
      by more false z = more z

  pub find_none : (n : ℕ) (ks : List (Label S)) → ((k : Label S) → In k ks → k.number ≡ n → ⊥) → find n ks ≡ None
  find_none n [] h = refl
  find_none n (k ∷ ks) h = cond-false (eqb k.number n) (Some k) (find n ks) (ne_eqb k.number n (h k (inl refl))) ∙ find_none n ks (λ l i. h l (inr i))

-- CHAINS OF PARENTS

module _ {S : Type 0} (m : Answers S) where
  -- l is the root, or one step further than its parent, which stands in ks
  pub data Traced (ks : List (Label S)) : Label S → Type 0 where
    at_root : (l : Label S) → l ≡ root m → Traced ks l
    further : (l q : Label S) (x : ℤ) → l.parent ≡ Some q.number → find q.number ks ≡ Some q → q.number < l.number → Stop m.stops l.stop → m.reach q.state q.stop l.stop ≡ Some (l.state, x) → l.cost ≡ q.cost +ℤ x → Traced ks q → Traced ks l

  pub traced_more : (ks : List (Label S)) (k l : Label S) → Traced ks l → Traced (ks ++ k ∷ []) l
  traced_more ks k _ (at_root l e) = at_root l e
  traced_more ks k _ (further l q x p s n a r c h) = further l q x p (find_more q.number ks k q s) n a r c (traced_more ks k q h)

  pub traced_standing : (ks : List (Label S)) (l : Label S) → Traced ks l → Standing m l.stop l.state
  traced_standing ks _ (at_root l e) = rw e at_depot
  traced_standing ks _ (further l q x p s n a r c h) = reached l.stop l.state x (traced_standing ks q h) r

  -- the stop of a label away from the depot
  pub traced_stop : (ks : List (Label S)) (l : Label S) → Traced ks l → 0 < l.stop → Stop m.stops l.stop
  traced_stop ks _ (at_root l e) h = absurd (let z = ap (λ l. l.stop) e in omega arith)
  traced_stop ks _ (further l q x p s n a r c t) h = a

  -- the label is the van after these stops
  pub record Leads (r : List ℕ) (l : Label S) : Type 0 where
    pub stops : AllByRecursion (Stop m.stops) r
    pub drives : van_after m r ≡ Some (van l.state l.stop l.cost)
    pub some : 0 < l.stop → 0 < length r

  leads_root : (f : ℕ) (ks : List (Label S)) → Leads (way_to f ks (root m)) (root m)
  leads_root zero ks = record { stops = tt; drives = refl; some = λ h. h }
  leads_root (suc f) ks = record { stops = tt; drives = refl; some = λ h. h }

  leads_more : (r : List ℕ) (q l : Label S) (x : ℤ) → Stop m.stops l.stop → m.reach q.state q.stop l.stop ≡ Some (l.state, x) → l.cost ≡ q.cost +ℤ x → Leads r q → Leads (r ++ l.stop ∷ []) l
  leads_more r q l x a e c h = record {
    stops = All-push (Stop m.stops) r l.stop h.stops a;
    drives = drive_on m r l.stop (van m.start 0 (pos 0)) (van q.state q.stop q.cost) l.state x h.drives e ∙ ap (λ c. Some (van l.state l.stop c)) (sym c);
    some = λ _. long r;
  }
    where
      long : (r : List ℕ) → 0 < length (r ++ l.stop ∷ [])
      long [] = omega arith
      long (j ∷ r) = omega arith

  pub traced_leads : (ks : List (Label S)) (l : Label S) → Traced ks l → (f : ℕ) → l.number ≤ f → Leads (way_to f ks l) l
  traced_leads ks _ (at_root l e) f h = rw e (leads_root f ks)
  traced_leads ks _ (further l q x p s n a r c t) zero h = absurd (omega arith)
  traced_leads ks _ (further l q x p s n a r c t) (suc f) h =
      let found : and_then l.parent (λ n. find n ks) ≡ Some q = ap (λ o. and_then o (λ n. find n ks)) p ∙ s in
      subst (λ o. Leads (after_parent (way_to f ks) l o) l) (sym found) (leads_more (way_to f ks q) q l x a r c (traced_leads ks q t f (omega arith)))
