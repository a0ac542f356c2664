-- A bottom keeps the laws that know no duals, if the driving of its vans keeps these.
use Rattle.std.specs.Prelude.{◌≡◌, ℕ, ◌+◌, ◌<◌, ◌≤◌, Bool, true, false, cond, ℤ, pos, ◌+ℤ◌, Some, Ok, Err, Result, refl}
use Rattle.std.proofs.Common.{sym, ap, ◌∙◌, arith}
use Rattle.std.proofs.lemmas.Int.{ints}
use Rattle.std.proofs.lemmas.Bool.Decides.{nat_tests}
use Rattle.stops.specs.Stops.{Stop}
use Rattle.tier.specs.Answers.{Standing, at_depot, reached}
use Rattle.tier.specs.Laws.{greatest_key, IsLeg, Interface, GapLaws, GapWithin, KeyLaws, ReachesWithin, FinishesWithin}
use Rattle.tier.proofs.Options.{none_some, some_same}
use Rattle.book.specs.Books.{Contents, is_stop, can_go, visit_at, leg_at}
use Rattle.book.specs.declared.parts.Leg.{Leg}
use Rattle.book.proofs.Kept.{InRanges, stops_kept, leg_kept}
use Rattle.duals.specs.Bottoms.{Base, plain, BaseLaws, most_plain_size}
use Rattle.duals.proofs.Plans.{plain_was, plain_is}
use Rattle.duals.proofs.Legs.{leg_of, of_leg, err_ok, costs}
use Rattle.bottom.specs.Driving.{Driving, driven, gone_home, home_cost, base_of}

-- on the leg from i to j a drives too, and the gap from where it comes to t is at most this
pub record DrivesWithin {S E : Type 0} (d : Driving S E) (p : Contents) (i j : ℕ) (a t : S) (most : ℕ) : Type 0 where
  pub next : S
  pub drives : d.drive p.fleet (leg_at p i j) (visit_at p j) a ≡ Ok next
  pub width : ℕ
  pub present : d.gap next t ≡ Some width
  pub small : width ≤ most

-- over one book
pub record DrivingLaws {S E : Type 0} (d : Driving S E) (p : Contents) : Type 0 where
  -- gaps: none from a state to itself, they add up at most, and are small
  pub gap_to_itself : (a : S) → d.gap a a ≡ Some 0
  pub gap_through : (a c e : S) (g h : ℕ) → d.gap a c ≡ Some g → d.gap c e ≡ Some h → GapWithin (plain (base_of d p)) a e (g + h)
  pub gap_small : (a c : S) (g : ℕ) → d.gap a c ≡ Some g → g ≤ most_plain_size
  -- where c goes, a goes too
  pub drive_follows : (i j : ℕ) (a c t : S) (g : ℕ) → d.gap a c ≡ Some g → d.drive p.fleet (leg_at p i j) (visit_at p j) c ≡ Ok t → DrivesWithin d p i j a t g
  pub home_follows : (l m : Leg) (a c : S) (g : ℕ) → d.gap a c ≡ Some g → d.go_home l c ≡ Ok m → d.go_home l a ≡ Ok m
  pub home_is_leg : (l m : Leg) (s : S) → d.go_home l s ≡ Ok m → m ≡ l
  -- keys
  pub start_at_zero : d.key (d.start p.fleet) ≡ 0
  pub drive_in_range : (i j : ℕ) (s t : S) → d.drive p.fleet (leg_at p i j) (visit_at p j) s ≡ Ok t → d.key t ≤ greatest_key
  pub drive_raises_key : (i j : ℕ) (s t : S) → IsLeg p.stops i j → d.drive p.fleet (leg_at p i j) (visit_at p j) s ≡ Ok t → d.key s < d.key t
  pub gap_orders_keys : (a c : S) (g : ℕ) → d.gap a c ≡ Some g → d.key a ≤ d.key c

-- WHAT IT SAYS THAT A LEG IS DRIVEN

-- there is such a leg, and by the rules the van may drive it
pub record Driven {S E : Type 0} (d : Driving S E) (p : Contents) (s : S) (i j : ℕ) (t : S) : Type 0 where
  pub leg : IsLeg p.stops i j
  pub drives : d.drive p.fleet (leg_at p i j) (visit_at p j) s ≡ Ok t

pub driven_was : {S E : Type 0} (d : Driving S E) (p : Contents) (s : S) (i j : ℕ) (t : S) → driven d p s i j ≡ Ok t → Driven d p s i j t
driven_was {S} {E} d p s i j t e = by (can_go p i j) refl e
  where
    by : (b : Bool) → can_go p i j ≡ b → cond {A = Result S E} b (d.drive p.fleet (leg_at p i j) (visit_at p j) s) (Err d.no_leg) ≡ Ok t → Driven d p s i j t
    by true f g = record { leg = leg_of p i j f; drives = g }
    by false f g = absurd (err_ok g)

-- the other way
pub driven_is : {S E : Type 0} (d : Driving S E) (p : Contents) (s : S) (i j : ℕ) (t : S) → IsLeg p.stops i j → d.drive p.fleet (leg_at p i j) (visit_at p j) s ≡ Ok t → driven d p s i j ≡ Ok t
driven_is d p s i j t l e = let x = of_leg p i j l in rw (x, e)

module _ {S E : Type 0} (d : Driving S E) (p : Contents) (ok : InRanges p) (homes : (s : S) (i : ℕ) → d.finish p s i ≡ home_cost (gone_home d p s i)) (laws : DrivingLaws d p) where
  abbrev base : Base S
  base = base_of d p

  -- WHAT IT SAYS THAT A STOP IS REACHED, AND THAT IT HAS A WAY HOME

  record Reached (s : S) (i j : ℕ) (t : S) (x : ℤ) : Type 0 where
    leg : IsLeg p.stops i j
    drives : d.drive p.fleet (leg_at p i j) (visit_at p j) s ≡ Ok t
    cost : x ≡ pos (leg_at p i j).cost

  reach : (s t : S) (i j : ℕ) (x : ℤ) → base.reach s i j ≡ Some (t, x) → Reached s i j t x
  reach s t i j x e =
      let k = costs (leg_at p i j).cost (driven d p s i j) t x e in
      let v = driven_was d p s i j t k.was in
      record { leg = v.leg; drives = v.drives; cost = k.cost }

  reach_plain : (s t : S) (i j : ℕ) (x : ℤ) → (plain base).reach s i j ≡ Some (t, x) → Reached s i j t x
  reach_plain s t i j x e = reach s t i j x (plain_was (base.reach s i j) t x e)

  record Home (s : S) (i : ℕ) (x : ℤ) : Type 0 where
    stop : Stop p.stops i
    leg : Leg
    goes : d.go_home (leg_at p i 0) s ≡ Ok leg
    cost : pos leg.cost ≡ x

  home : (s : S) (i : ℕ) (x : ℤ) → d.finish p s i ≡ Some x → Home s i x
  home s i x e = by (is_stop p i) (d.go_home (leg_at p i 0) s) refl refl (sym (homes s i) ∙ e)
    where
      by : (b : Bool) (r : Result Leg E) → is_stop p i ≡ b → d.go_home (leg_at p i 0) s ≡ r → home_cost (cond b r (Err d.no_leg)) ≡ Some x → Home s i x
      by true (Ok m) f g h = record { stop = (grind (arith, nat_tests), grind (arith, nat_tests)); leg = m; goes = g; cost = some_same h }
      by true (Err z) f g h = absurd (none_some h)
      by false r f g h = absurd (none_some h)

  -- the other way
  home_on : (s : S) (i : ℕ) (m : Leg) → is_stop p i ≡ true → d.go_home (leg_at p i 0) s ≡ Ok m → d.finish p s i ≡ Some (pos m.cost)
  home_on s i m f g = homes s i ∙ ap (λ b. home_cost (cond b (d.go_home (leg_at p i 0) s) (Err d.no_leg))) f ∙ ap home_cost g

  stop_of : (i : ℕ) → Stop p.stops i → is_stop p i ≡ true
  stop_of i st = let a = st.0 in let b = st.1 in grind (arith, nat_tests)

  -- THE LAWS

  interface : Interface (plain base)
  interface = record {
    reach_is_leg = λ s t i j x e. (reach_plain s t i j x e).leg;
    finish_from_stop = λ s i x e. (home s i x e).stop;
    shut_over_four = λ deep. absurd (omega arith);
  }

  pub follows : (i j : ℕ) (a c t : S) (g : ℕ) (y : ℤ) → d.gap a c ≡ Some g → (plain base).reach c i j ≡ Some (t, y) → ReachesWithin (plain base) i j a t (y +ℤ pos g)
  follows i j a c t g y e f =
      let r = reach_plain c t i j y f in
      let w = laws.drive_follows i j a c t g e r.drives in
      let cost = r.cost in
      let small = w.small in
      record {
        next = w.next;
        charge = y;
        reaches = plain_is (base.reach a i j) w.next y (goes r w);
        width = w.width;
        present = w.present;
        small = omega (arith, ints);
      }
    where
      goes : (r : Reached c i j t y) (w : DrivesWithin d p i j a t g) → base.reach a i j ≡ Some (w.next, y)
      goes r w =
          let x = driven_is d p a i j w.next r.leg w.drives in
          let cost = r.cost in
          rw (x, cost)

  pub follows_home : (i : ℕ) (a c : S) (g : ℕ) (y : ℤ) → d.gap a c ≡ Some g → d.finish p c i ≡ Some y → FinishesWithin (plain base) i a (y +ℤ pos g)
  follows_home i a c g y e f =
      let w = home c i y f in
      record {
        charge = y;
        finishes = home_on a i w.leg (stop_of i w.stop) (laws.home_follows (leg_at p i 0) w.leg a c g e w.goes) ∙ ap Some w.cost;
        small = omega (arith, ints);
      }

  gaps : GapLaws (plain base)
  gaps = record {
    gap_to_itself = λ i a st r. laws.gap_to_itself a;
    gap_through = λ i a c e g h st x y z u v. laws.gap_through a c e g h u v;
    reach_follows = λ i j a c t g y st x z e f. follows i j a c t g y e f;
    finish_follows = λ i a c g y st x z e f. follows_home i a c g y e f;
  }

  in_range : (i : ℕ) (s : S) → Standing (plain base) i s → d.key s ≤ greatest_key
  in_range i s at_depot = let z = laws.start_at_zero in omega arith
  in_range i s (reached {i = h} {s = r} j t x st e) = laws.drive_in_range h j r t (reach_plain r t h j x e).drives

  keys : KeyLaws (plain base)
  keys = record {
    start_at_zero = laws.start_at_zero;
    key_in_range = in_range;
    reach_raises_key = λ i j s t x st e. let r = reach_plain s t i j x e in laws.drive_raises_key i j s t r.leg r.drives;
    gap_orders_keys = λ i a c g st x y e. laws.gap_orders_keys a c g e;
  }

  pub base_laws : BaseLaws base
  base_laws = record {
    interface = interface;
    gaps = gaps;
    keys = keys;
    few_stops = stops_kept p ok;
    reach_small = λ i j s t x st e.
        let r = reach s t i j x e in
        let c = (leg_kept p ok i j r.leg.to.1 r.leg.apart).cost in
        let y = r.cost in
        omega (arith, ints);
    finish_small = λ i s x st e.
        let h = home s i x e in
        let from = h.stop.0 in
        let same = ap (λ (m : Leg). m.cost) (laws.home_is_leg (leg_at p i 0) h.leg s h.goes) in
        let c = (leg_kept p ok i 0 (omega arith) (λ z. omega arith)).cost in
        let y = h.cost in
        omega (arith, ints);
    gap_small = λ i a c g st x y e. laws.gap_small a c g e;
  }
