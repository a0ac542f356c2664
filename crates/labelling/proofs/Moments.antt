-- At every moment an admitted route is in view: followed stop by stop, some label is no worse than its van, treated
-- up to where one waits. Assumes nothing.
use Rattle.std.proofs.Common.{◌≡◌, ℕ, ◌<◌, Bool, ◌⊎◌, List, [], ◌∷◌, ◌++◌, ℤ, pos, ◌+ℤ◌, Some, sym, refl, ap, ◌∙◌, subst, inl, inr, ⊎_elim, arith}
use Rattle.std.specs.List.{AllByRecursion}
use Rattle.std.proofs.lemmas.List.{append-nil, append_assoc}
use Rattle.std.proofs.lemmas.Int.{ints}
use Rattle.stops.specs.Stops.{Stop}
use Rattle.tier.specs.Answers.{Answers, Standing, at_depot, reached}
use Rattle.tier.specs.Routes.{Route, plus, replay_from, reduced_cost}
use Rattle.tier.specs.Laws.{GapLaws}
use Rattle.tier.proofs.Options.{and_then_some, plus_some}
use Rattle.labelling.specs.Members.{In}
use Rattle.labelling.specs.Labelling.{Label, Finished, Table, child, root, route_to}
use Rattle.labelling.specs.Moments.{Passed, Van, van, van_after, CoversVan, InView, to_its_end, on_its_way, not_begun, Exact, Moment}
use Rattle.labelling.proofs.Traces.{drive_on, replay_through, traced_standing, traced_leads}
use Rattle.labelling.proofs.Holds.{best_le, HeldIn, held_passed}
use Rattle.labelling.proofs.Covers.{Covered, covers_through, AllClosed, closed_passed}

module _ {S : Type 0} (m : Answers S) (laws : GapLaws m) (t : Table S) (held : HeldIn m t) (closed : AllClosed m laws t) where
  live_stands : (l : Label S) → In l t.treated ⊎ In l t.waiting → Standing m l.stop l.state
  live_stands l i = traced_standing m t.treated l (held.traced l i)

  -- the van after some stops of the route r, whose reduced cost is z, with more to go for y
  record UnderWay (r : List ℕ) (z : ℤ) (gone left : List ℕ) (v : Van S) (y : ℤ) : Type 0 where
    went : van_after m gone ≡ Some v
    all : gone ++ left ≡ r
    at : Stop m.stops v.place
    stands : Standing m v.place v.state
    stops : AllByRecursion (Stop m.stops) left
    costs : replay_from m v.state v.place left ≡ Some y
    sum : z ≡ v.paid +ℤ y

  -- one stop further: the next van, and what is then left
  record Further (r : List ℕ) (z : ℤ) (gone js : List ℕ) (j : ℕ) (v : Van S) : Type 0 where
    state : S
    charge : ℤ
    reaches : m.reach v.state v.place j ≡ Some (state, charge)
    more : ℤ
    next : UnderWay r z (gone ++ j ∷ []) js (van state j (v.paid +ℤ charge)) more

  further_on : (r : List ℕ) (z : ℤ) (gone js : List ℕ) (j : ℕ) (v : Van S) (y : ℤ) → van_after m gone ≡ Some v → gone ++ (j ∷ js) ≡ r → Standing m v.place v.state → AllByRecursion (Stop m.stops) (j ∷ js) → replay_from m v.state v.place (j ∷ js) ≡ Some y → z ≡ v.paid +ℤ y → Further r z gone js j v
  further_on r z gone js j v y went all st stops e sum =
      let b = and_then_some (m.reach v.state v.place j) (λ p. plus p.1 (replay_from m p.0 j js)) y e in
      let s = b.first.0 in
      let x = b.first.1 in
      let q = plus_some x y (replay_from m s j js) b.then in
      let l = q.sum in
      record {
        state = s;
        charge = x;
        reaches = b.is;
        more = q.rest;
        next = record {
          went = drive_on m gone j (van m.start 0 (pos 0)) v s x went b.is;
          all = append_assoc gone (j ∷ []) js ∙ all;
          at = stops.0;
          stands = reached j s x st b.is;
          stops = stops.1;
          costs = q.is;
          sum = omega (arith, ints);
        };
      }

  -- the treated label k is no worse than the van
  descend : (r : List ℕ) (z : ℤ) (left gone : List ℕ) (v : Van S) (y : ℤ) (k : Label S) → In k t.treated → CoversVan m k v → UnderWay r z gone left v y → InView m t r z
  descend r z [] gone v y k i c u =
      let ks = subst (λ i. Standing m i k.state) c.there (live_stands k (inl i)) in
      let f = laws.finish_follows v.place k.state v.state c.width y u.at ks u.stands c.present u.costs in
      let a = f.small in
      let b = c.small in
      let s = u.sum in
      let away : 0 < k.stop = subst (λ i. 0 < i) (sym c.there) u.at.0 in
      let home = subst (λ i. m.finish k.state i ≡ Some f.charge) (sym c.there) f.finishes in
      to_its_end k v i (ap (van_after m) (sym u.all ∙ append-nil gone) ∙ u.went) c (best_le t.best (k.cost +ℤ f.charge) z (omega (arith, ints)) (held.finished k i away f.charge home))
  descend r z (j ∷ js) gone v y k i c u =
      let w = further_on r z gone js j v y u.went u.all u.stands u.stops u.costs u.sum in
      let next = van w.state j (v.paid +ℤ w.charge) in
      let here = live_stands k (inl i) in
      let ks = subst (λ i. Standing m i k.state) c.there here in
      let f = laws.reach_follows v.place j k.state v.state w.state c.width w.charge u.at ks u.stands c.present w.reaches in
      let reach = subst (λ i. m.reach k.state i j ≡ Some (f.next, f.charge)) (sym c.there) f.reaches in
      let a = f.small in
      let b = c.small in
      let would : Label S = child 0 k j (f.next, f.charge) in
      let cv = closed k i j u.stops.0 f.next f.charge reach in
      let covers = covers_through m laws cv.label would next w.next.at w.next.stands (live_stands cv.label cv.live) (reached j f.next f.charge here reach) cv.covers (record { there = refl; width = f.width; present = f.present; small = omega (arith, ints) }) in
      ⊎_elim
      (λ n. descend r z js (gone ++ j ∷ []) next w.more cv.label n covers w.next)
      (λ n. on_its_way cv.label next (gone ++ j ∷ []) js n w.next.all w.next.went covers)
      cv.live

  pub in_view : (r : List ℕ) (z : ℤ) → Route m.stops r → reduced_cost m r ≡ Some z → InView m t r z
  in_view [] z p e = absurd (omega arith)
  in_view (j ∷ js) z p e = ⊎_elim from_root not_begun held.rooted
    where
      from : (w : Further (j ∷ js) z [] js j (van m.start 0 (pos 0))) (c : Covered m t (van w.state j (pos 0 +ℤ w.charge))) → In c.label t.treated ⊎ In c.label t.waiting → InView m t (j ∷ js) z
      from w c (inl n) = descend (j ∷ js) z js (j ∷ []) (van w.state j (pos 0 +ℤ w.charge)) w.more c.label n c.covers w.next
      from w c (inr n) = on_its_way c.label (van w.state j (pos 0 +ℤ w.charge)) (j ∷ []) js n w.next.all w.next.went c.covers

      from_root : In (root m) t.treated → InView m t (j ∷ js) z
      from_root i =
          let w = further_on (j ∷ js) z [] js j (van m.start 0 (pos 0)) z refl refl at_depot p.1 e (omega (arith, ints)) in
          let c = closed (root m) i j p.1.0 w.state w.charge w.reaches in
          from w c c.live

module _ {S : Type 0} (m : Answers S) (t : Table S) (held : HeldIn m t) where
  pub best_true : (b : Finished S) → t.best ≡ Some b → Exact m (route_to t b.last) b.total
  best_true b e =
      let s = held.sound b e in
      let r = route_to t b.last in
      let f = traced_leads m t.treated b.last s.traced b.last.number (omega arith) in
      record {
        route = (f.some s.away, f.stops);
        admitted = ap (reduced_cost m) (sym (append-nil r)) ∙ replay_through m r [] (van b.last.state b.last.stop b.last.cost) f.drives ∙ ap (plus b.last.cost) s.home ∙ ap Some (sym s.sum);
      }

pub every_moment : {S : Type 0} (m : Answers S) (earlier : S → S → Bool) (places : ℕ) (t : Table S) → GapLaws m → Passed m earlier places t → Moment m t
every_moment m earlier places t laws p =
    let held = held_passed m earlier places t p in
    record {
      labels_true = λ l i. (traced_leads m t.treated l (held.traced l i) l.number (omega arith)).drives;
      best_true = best_true m t held;
      in_view = in_view m laws t held (closed_passed m laws earlier places t p);
    }
