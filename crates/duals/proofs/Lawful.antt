-- A bottom keeps the nine laws, whatever its duals, if what it is apart from them keeps those that know no duals.
use Rattle.std.proofs.Common.{◌≡◌, ℕ, ◌≤◌, Bool, true, false, cond, ◌&&◌, eqb, leb, List, set, ℤ, pos, ◌-ℤ◌, nat_abs, sym, refl, subst, arith}
use Rattle.std.proofs.lemmas.Int.{ints}
use Rattle.std.proofs.lemmas.Bool.{leb-true}
use Rattle.stops.proofs.Lists.{each_set}
use Rattle.tier.specs.Answers.{Answers, Standing, at_depot, reached}
use Rattle.tier.specs.Meaning.{Outcome, taken, refused, Comes, here, by_set, by_tighten}
use Rattle.tier.specs.Laws.{Interface, GapLaws, SizeLaws, KeyLaws, Laws, Lawful, Kept}
use Rattle.tier.proofs.Outcomes.{taken_same, refused_taken, lifted_taken}
use Rattle.duals.specs.Duals.{dual_of, DualsInRange, most_dual, set_dual}
use Rattle.duals.specs.Bottoms.{Base, with_duals, plain, BottomValue, bottom_at, bottom, BaseLaws}
use Rattle.duals.proofs.Credits.{sum_small}
use Rattle.duals.proofs.Plans.{lessened, lessen, plain_was, plain_is, plans_pay}

-- ONE VALUE

module _ {S : Type 0} (b : Base S) (l : BaseLaws b) (duals : List ℤ) (ranged : DualsInRange duals) where
  abbrev m : Answers S
  m = with_duals b (dual_of duals)

  -- duals move no state
  plain_standing : {i : ℕ} {s : S} → Standing m i s → Standing (plain b) i s
  plain_standing at_depot = at_depot
  plain_standing (reached {i} {s} j t x r e) =
      let c = lessened (dual_of duals j) (b.reach s i j) t x e in
      reached j t c.cost (plain_standing r) (plain_is (b.reach s i j) t c.cost c.was)

  interface : Interface m
  interface = record {
    reach_is_leg = λ s t i j x e.
        let c = lessened (dual_of duals j) (b.reach s i j) t x e in
        l.interface.reach_is_leg s t i j c.cost (plain_is (b.reach s i j) t c.cost c.was);
    finish_from_stop = l.interface.finish_from_stop;
    shut_over_four = λ deep. absurd (omega arith);
  }

  gaps : GapLaws m
  gaps = record {
    gap_to_itself = λ i a st r. l.gaps.gap_to_itself i a st (plain_standing r);
    gap_through = λ i a c d g h st p q r e f.
        let w = l.gaps.gap_through i a c d g h st (plain_standing p) (plain_standing q) (plain_standing r) e f in
        record { width = w.width; present = w.present; small = w.small };
    reach_follows = λ i j a c t g y st p q e f.
        let k = lessened (dual_of duals j) (b.reach c i j) t y f in
        let w = l.gaps.reach_follows i j a c t g k.cost st (plain_standing p) (plain_standing q) e (plain_is (b.reach c i j) t k.cost k.was) in
        let was = plain_was (b.reach a i j) w.next w.charge w.reaches in
        let small = w.small in
        let charged = k.charged in
        record {
          next = w.next;
          charge = w.charge -ℤ dual_of duals j;
          reaches = lessen (dual_of duals j) (b.reach a i j) w.next w.charge (w.charge -ℤ dual_of duals j) was refl;
          width = w.width;
          present = w.present;
          small = omega (arith, ints);
        };
    finish_follows = λ i a c g y st p q e f.
        let w = l.gaps.finish_follows i a c g y st (plain_standing p) (plain_standing q) e f in
        record { charge = w.charge; finishes = w.finishes; small = w.small };
  }

  sizes : SizeLaws m
  sizes = record {
    few_stops = l.few_stops;
    reach_small = λ few i j s t x st e.
        let c = lessened (dual_of duals j) (b.reach s i j) t x e in
        let z = l.reach_small i j s t c.cost (plain_standing st) c.was in
        let r = ranged j in
        let y = c.charged in
        omega (arith, ints);
    finish_small = λ few i s x st e. let z = l.finish_small i s x (plain_standing st) e in omega arith;
    gap_small = λ few i a c g st p q e. let z = l.gap_small i a c g st (plain_standing p) (plain_standing q) e in omega arith;
    credit_small = λ few. let z = sum_small duals b.stops ranged in let n = l.few_stops in omega arith;
  }

  keys : KeyLaws m
  keys = record {
    start_at_zero = l.keys.start_at_zero;
    key_in_range = λ i s r. l.keys.key_in_range i s (plain_standing r);
    reach_raises_key = λ i j s t x r e.
        let c = lessened (dual_of duals j) (b.reach s i j) t x e in
        l.keys.reach_raises_key i j s t c.cost (plain_standing r) (plain_is (b.reach s i j) t c.cost c.was);
    gap_orders_keys = λ i a c g st p q e. l.keys.gap_orders_keys i a c g st (plain_standing p) (plain_standing q) e;
  }

-- CALLS

-- what it says that a set is taken
record SetTaken (duals : List ℤ) (index : ℕ) (amount : ℤ) (after : List ℤ) : Type 0 where
  is : set duals index amount ≡ after
  small : nat_abs amount ≤ most_dual

set_taken : (n : ℕ) (duals : List ℤ) (tier index : ℕ) (amount : ℤ) (after : List ℤ) → set_dual n duals tier index amount ≡ taken after → SetTaken duals index amount after
set_taken n duals tier index amount after e = by (eqb tier 1) (leb 1 index && leb index n) (leb (nat_abs amount) most_dual) refl e
  where
    by : (a b c : Bool) → leb (nat_abs amount) most_dual ≡ c → cond {A = Outcome (List ℤ)} a (cond b (cond c (taken (set duals index amount)) (refused 9)) (refused 8)) (refused 6) ≡ taken after → SetTaken duals index amount after
    by false b c f e = absurd (refused_taken e)
    by true false c f e = absurd (refused_taken e)
    by true true false f e = absurd (refused_taken e)
    by true true true f e = record { is = taken_same e; small = leb-true _ _ f }

module _ {D S : Type 0} (base : D → Base S) (x : D) (l : BaseLaws (base x)) where
  -- what holds of every value that a bottom comes to
  record Held (v : BottomValue D) : Type 0 where
    origin : v.origin ≡ x
    ranged : DualsInRange v.duals

  set_held : (v w : BottomValue D) (tier index : ℕ) (amount : ℤ) → Held v → (bottom base).sets v tier index amount ≡ taken w → Held w
  set_held v w tier index amount h e =
      let i = lifted_taken (bottom_at v.origin) (set_dual (base v.origin).stops v.duals tier index amount) w e in
      let s = set_taken (base v.origin).stops v.duals tier index amount i.value i.is in
      subst Held i.same (record {
        origin = h.origin;
        ranged = subst DualsInRange s.is (each_set (λ z. nat_abs z ≤ most_dual) (pos 0) v.duals index amount h.ranged s.small);
      })

  comes_held : (v w : BottomValue D) → Held v → Comes (bottom base) v w → Held w
  comes_held v w h here = h
  comes_held v w h (by_set {w = u} y tier index amount c e) = set_held u w tier index amount (comes_held v u h c) e
  comes_held v w h (by_tighten y tier index set amount c e) = absurd (refused_taken e)

  set_keeps : (v w : BottomValue D) (tier index : ℕ) (amount : ℤ) → (bottom base).sets v tier index amount ≡ taken w → Kept (bottom base) v w
  set_keeps v w tier index amount e =
      let i = lifted_taken (bottom_at v.origin) (set_dual (base v.origin).stops v.duals tier index amount) w e in
      subst (Kept (bottom base) v) i.same (record { stops = refl; tiers = refl; ground_of = refl })

  one_value : (v : BottomValue D) → Held v → Laws (bottom base) v
  one_value v h =
      let b = base v.origin in
      let ok = subst (λ y. BaseLaws (base y)) (sym h.origin) l in
      record {
        interface = interface b ok v.duals h.ranged;
        gaps = gaps b ok v.duals h.ranged;
        sizes = sizes b ok v.duals h.ranged;
        keys = keys b ok v.duals h.ranged;
        plans = plans_pay b (dual_of v.duals);
        tighten_no_cheaper = λ w tier index set amount e. absurd (refused_taken e);
        set_keeps = set_keeps v;
        tighten_keeps = λ w tier index set amount e. absurd (refused_taken e);
      }

  pub bottom_lawful : (duals : List ℤ) → DualsInRange duals → Lawful (bottom base) (bottom_at x duals)
  bottom_lawful duals ranged w c = one_value w (comes_held (bottom_at x duals) w (record { origin = refl; ranged = ranged }) c)
