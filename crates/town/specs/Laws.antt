-- Town keeps the laws over every book.
use Rattle.std.specs.Prelude.{◌≡◌, ℕ, ◌+◌, ◌-◌, ◌≤◌, Bool, true, false, cond, ◌&&◌, ℤ, pos, ◌+ℤ◌, Some, None, Ok, Err, Option, Result, nat_le, refl}
use Rattle.std.proofs.Common.{sym, ap, ◌∙◌, arith}
use Rattle.std.proofs.lemmas.Bool.{leb-true, le-leb}
use Rattle.std.proofs.lemmas.Bool.Decides.{nat_tests}
use Rattle.stops.specs.Stops.{Stop}
use Rattle.tier.specs.Laws.{IsLeg, ReachesWithin, FinishesWithin}
use Rattle.tier.proofs.Options.{none_some, some_same}
use Rattle.book.specs.Books.{Contents, is_stop, visit_at, leg_at}
use Rattle.book.specs.declared.parts.Leg.{Leg}
use Rattle.book.proofs.Kept.{InRanges, most_kept}
use Rattle.duals.specs.Bottoms.{plain, BaseLaws}
use Rattle.duals.proofs.Plans.{plain_was}
use Rattle.duals.proofs.Legs.{ok_same, err_ok, costs}
use Rattle.bottom.specs.Driving.{home_cost}
use Rattle.bottom.specs.Laws.{DrivesWithin, DrivingLaws, driven_was, driven_is, follows as base_follows, follows_home as base_follows_home, base_laws}
use Rattle.town.specs.declared.state.TownState.{TownState}
use Rattle.town.specs.declared.barred.Barred.{Barred}
use Rattle.town.specs.declared.barred.Barred.TheVariants.{NoLeg, TooFar, TooMany}
use Rattle.town.specs.Town.{charge_at, state, drive, drives, go_home, goes_home, town_gap, town_driving, town_base}

-- WHAT IT SAYS THAT A LEG IS DRIVEN

-- by the rules alone; there may be no such leg
record LegDriven (p : Contents) (s : TownState) (i j : ℕ) (t : TownState) : Type 0 where
  covered : (leg_at p i j).minutes ≤ s.charge
  few : s.made + 1 ≤ p.fleet.most
  charge : t.charge ≡ charge_at p i j s.charge
  made : t.made ≡ s.made + 1

leg_driven : (p : Contents) (s : TownState) (i j : ℕ) (t : TownState) → drive p.fleet (leg_at p i j) (visit_at p j) s ≡ Ok t → LegDriven p s i j t
leg_driven p s i j t e = by (nat_le (leg_at p i j).minutes s.charge) (nat_le (s.made + 1) p.fleet.most) refl refl e
  where
    by : (b c : Bool) → nat_le (leg_at p i j).minutes s.charge ≡ b → nat_le (s.made + 1) p.fleet.most ≡ c → cond {A = Result TownState Barred} b (cond c (Ok (state (charge_at p i j s.charge) (s.made + 1))) (Err (TooMany (s.made + 1) p.fleet.most))) (Err (TooFar (leg_at p i j).minutes s.charge)) ≡ Ok t → LegDriven p s i j t
    by false c g h e = absurd (err_ok e)
    by true false g h e = absurd (err_ok e)
    by true true g h e =
        let q = ok_same e in
        record {
          covered = leb-true _ _ g;
          few = leb-true _ _ h;
          charge = sym (ap (λ (r : TownState). r.charge) q);
          made = sym (ap (λ (r : TownState). r.made) q);
        }

-- the other way
leg_drive_on : (p : Contents) (s : TownState) (i j : ℕ) → (leg_at p i j).minutes ≤ s.charge → s.made + 1 ≤ p.fleet.most → drive p.fleet (leg_at p i j) (visit_at p j) s ≡ Ok (state (charge_at p i j s.charge) (s.made + 1))
leg_drive_on p s i j h r =
    let y = le-leb _ _ h in
    let z = le-leb _ _ r in
    rw (y, z)

-- over a book
pub record Driven (p : Contents) (s : TownState) (i j : ℕ) (t : TownState) : Type 0 where
  pub leg : IsLeg p.stops i j
  pub covered : (leg_at p i j).minutes ≤ s.charge
  pub few : s.made + 1 ≤ p.fleet.most
  pub charge : t.charge ≡ charge_at p i j s.charge
  pub made : t.made ≡ s.made + 1

pub driven : (p : Contents) (s : TownState) (i j : ℕ) (t : TownState) → drives p s i j ≡ Ok t → Driven p s i j t
driven p s i j t e =
    let w = driven_was town_driving p s i j t e in
    let v = leg_driven p s i j t w.drives in
    record { leg = w.leg; covered = v.covered; few = v.few; charge = v.charge; made = v.made }

-- the other way
pub drive_on : (p : Contents) (s : TownState) (i j : ℕ) → IsLeg p.stops i j → (leg_at p i j).minutes ≤ s.charge → s.made + 1 ≤ p.fleet.most → drives p s i j ≡ Ok (state (charge_at p i j s.charge) (s.made + 1))
drive_on p s i j l h r = driven_is town_driving p s i j (state (charge_at p i j s.charge) (s.made + 1)) l (leg_drive_on p s i j h r)

-- more charge at the departure is no less charge on arrival
no_draining : (p : Contents) (i j c d : ℕ) → c ≤ d → charge_at p i j c ≤ charge_at p i j d
no_draining p i j c d h = by (visit_at p j).charger
  where
    by : (full : Bool) → cond full p.fleet.battery (c - (leg_at p i j).minutes) ≤ cond full p.fleet.battery (d - (leg_at p i j).minutes)
    by true = omega arith
    by false = omega arith

-- WHAT IT SAYS THAT A VAN GETS HOME

-- by the rules alone; it may be no stop that the van leaves
record LegHome (l m : Leg) (s : TownState) : Type 0 where
  covered : l.minutes ≤ s.charge
  leg : l ≡ m

leg_home : (l m : Leg) (s : TownState) → go_home l s ≡ Ok m → LegHome l m s
leg_home l m s e = by (nat_le l.minutes s.charge) refl e
  where
    by : (b : Bool) → nat_le l.minutes s.charge ≡ b → cond {A = Result Leg Barred} b (Ok l) (Err (TooFar l.minutes s.charge)) ≡ Ok m → LegHome l m s
    by true f e = record { covered = leb-true _ _ f; leg = ok_same e }
    by false f e = absurd (err_ok e)

-- the other way
leg_home_on : (l : Leg) (s : TownState) → l.minutes ≤ s.charge → go_home l s ≡ Ok l
leg_home_on l s h = let y = le-leb _ _ h in rw y

-- over a book
pub record Home (p : Contents) (s : TownState) (i : ℕ) (x : ℤ) : Type 0 where
  pub stop : Stop p.stops i
  pub covered : (leg_at p i 0).minutes ≤ s.charge
  pub cost : x ≡ pos (leg_at p i 0).cost

pub home : (p : Contents) (s : TownState) (i : ℕ) (x : ℤ) → home_cost (goes_home p s i) ≡ Some x → Home p s i x
home p s i x e = by (is_stop p i) (nat_le (leg_at p i 0).minutes s.charge) refl refl e
  where
    by : (a b : Bool) → is_stop p i ≡ a → nat_le (leg_at p i 0).minutes s.charge ≡ b → home_cost (cond {A = Result Leg Barred} a (cond b (Ok (leg_at p i 0)) (Err (TooFar (leg_at p i 0).minutes s.charge))) (Err NoLeg)) ≡ Some x → Home p s i x
    by false b f g e = absurd (none_some e)
    by true false f g e = absurd (none_some e)
    by true true f g e = record { stop = (grind (arith, nat_tests), grind (arith, nat_tests)); covered = leb-true _ _ g; cost = sym (some_same e) }

-- the other way
pub home_on : (p : Contents) (s : TownState) (i : ℕ) → Stop p.stops i → (leg_at p i 0).minutes ≤ s.charge → home_cost (goes_home p s i) ≡ Some (pos (leg_at p i 0).cost)
home_on p s i st h =
    let first = le-leb _ _ st.0 in
    let last = le-leb _ _ st.1 in
    let covered = le-leb _ _ h in
    rw (first, last, covered)

-- WHAT IT SAYS THAT THERE IS A GAP

record Ahead (a b : TownState) (g : ℕ) : Type 0 where
  none : g ≡ 0
  charge : b.charge ≤ a.charge
  made : a.made ≤ b.made

ahead : (a b : TownState) (g : ℕ) → town_gap a b ≡ Some g → Ahead a b g
ahead a b g e = by (nat_le b.charge a.charge && nat_le a.made b.made) refl e
  where
    by : (t : Bool) → (nat_le b.charge a.charge && nat_le a.made b.made) ≡ t → cond {A = Option ℕ} t (Some 0) None ≡ Some g → Ahead a b g
    by true f e = record { none = sym (some_same e); charge = grind (arith, nat_tests); made = grind (arith, nat_tests) }
    by false f e = absurd (none_some e)

no_gap : (a b : TownState) → b.charge ≤ a.charge → a.made ≤ b.made → town_gap a b ≡ Some 0
no_gap a b c m = grind (arith, nat_tests)

-- THE LAWS

-- where c goes, a goes too: it arrives with no less charge and has made no more stops
leg_follows : (p : Contents) (i j : ℕ) (a c t : TownState) (g : ℕ) → town_gap a c ≡ Some g → drive p.fleet (leg_at p i j) (visit_at p j) c ≡ Ok t → DrivesWithin town_driving p i j a t g
leg_follows p i j a c t g e f =
    let h = ahead a c g e in
    let v = leg_driven p c i j t f in
    let next = state (charge_at p i j a.charge) (a.made + 1) in
    let fuller = no_draining p i j c.charge a.charge h.charge in
    let more = h.charge in
    let fewer = h.made in
    let covered = v.covered in
    let few = v.few in
    let charge = v.charge in
    let made = v.made in
    record {
      next = next;
      drives = leg_drive_on p a i j (omega arith) (omega arith);
      width = 0;
      present = no_gap next t (omega arith) (omega arith);
      small = omega arith;
    }

-- where c gets home, a does too
leg_follows_home : (l m : Leg) (a c : TownState) (g : ℕ) → town_gap a c ≡ Some g → go_home l c ≡ Ok m → go_home l a ≡ Ok m
leg_follows_home l m a c g e f =
    let w = leg_home l m c f in
    let more = (ahead a c g e).charge in
    let covered = w.covered in
    leg_home_on l a (omega arith) ∙ ap Ok w.leg

module _ (p : Contents) (ok : InRanges p) where
  driving_laws : DrivingLaws town_driving p
  driving_laws = record {
    gap_to_itself = λ a. no_gap a a (omega arith) (omega arith);
    gap_through = λ a c e g h u v.
        let x = ahead a c g u in
        let y = ahead c e h v in
        record { width = 0; present = no_gap a e (omega arith) (omega arith); small = omega arith };
    gap_small = λ a c g e. let h = (ahead a c g e).none in omega arith;
    drive_follows = leg_follows p;
    home_follows = leg_follows_home;
    home_is_leg = λ l m s e. sym (leg_home l m s e).leg;
    start_at_zero = refl;
    drive_in_range = λ i j s t e.
        let v = leg_driven p s i j t e in
        let most = most_kept p ok in
        let few = v.few in
        let made = v.made in
        omega arith;
    drive_raises_key = λ i j s t leg e. let made = (leg_driven p s i j t e).made in omega arith;
    gap_orders_keys = λ a c g e. (ahead a c g e).made;
  }

  pub town_base_laws : BaseLaws (town_base p)
  town_base_laws = base_laws town_driving p ok (λ s i. refl) driving_laws

  -- one reach, as the answers with duals 0 have it
  reach_driven : (s t : TownState) (i j : ℕ) (x : ℤ) → (plain (town_base p)).reach s i j ≡ Some (t, x) → Driven p s i j t
  reach_driven s t i j x e = driven p s i j t (costs (leg_at p i j).cost (drives p s i j) t x (plain_was ((town_base p).reach s i j) t x e)).was

  -- where b goes, a goes too
  follows : (i j : ℕ) (a b t : TownState) (g : ℕ) (y : ℤ) → town_gap a b ≡ Some g → (plain (town_base p)).reach b i j ≡ Some (t, y) → ReachesWithin (plain (town_base p)) i j a t (y +ℤ pos g)
  follows = base_follows town_driving p ok (λ s i. refl) driving_laws

  -- where b gets home, a does too
  follows_home : (i : ℕ) (a b : TownState) (g : ℕ) (y : ℤ) → town_gap a b ≡ Some g → (town_base p).finish b i ≡ Some y → FinishesWithin (plain (town_base p)) i a (y +ℤ pos g)
  follows_home = base_follows_home town_driving p ok (λ s i. refl) driving_laws
