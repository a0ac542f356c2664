-- Round keeps the laws over every book.
use Rattle.std.specs.Prelude.{◌≡◌, ℕ, ◌≤◌, Bool, true, false, cond, ◌&&◌, ℤ, pos, ◌+ℤ◌, Some, None, Ok, Err, Option, Result, nat_le, refl}
use Rattle.std.proofs.Common.{sym, ap, arith}
use Rattle.std.proofs.lemmas.Bool.{leb-true, le-leb}
use Rattle.std.proofs.lemmas.Bool.Decides.{nat_tests}
use Rattle.stops.specs.Stops.{Stop}
use Rattle.tier.specs.Laws.{IsLeg, ReachesWithin}
use Rattle.tier.proofs.Options.{none_some, some_same}
use Rattle.book.specs.Books.{Contents, is_stop, visit_at, leg_at}
use Rattle.book.specs.declared.parts.Leg.{Leg}
use Rattle.book.proofs.Kept.{InRanges, close_kept}
use Rattle.duals.specs.Bottoms.{plain, BaseLaws}
use Rattle.duals.proofs.Plans.{plain_was}
use Rattle.duals.proofs.Legs.{ok_same, err_ok, costs}
use Rattle.bottom.specs.Driving.{home_cost, gone_home}
use Rattle.bottom.specs.Laws.{DrivesWithin, DrivingLaws, driven_was, driven_is, follows as base_follows, base_laws}
use Rattle.round.specs.declared.state.RoundState.{RoundState}
use Rattle.round.specs.declared.state.Barred.{Barred}
use Rattle.round.specs.declared.state.Barred.TheVariants.{NoLeg, TooLate, TooHeavy}
use Rattle.round.specs.Round.{arrival, loaded, state, drive, drives, goes_home, round_gap, round_driving, round_base}
use Rattle.round.specs.Arrivals.{no_overtaking, arrives_later}

-- WHAT IT SAYS THAT A LEG IS DRIVEN

-- by the rules alone; there may be no such leg
record LegDriven (p : Contents) (s : RoundState) (i j : ℕ) (t : RoundState) : Type 0 where
  arrives_in_time : arrival p i j s.minute ≤ (visit_at p j).closes
  room : loaded p j s.load ≤ p.fleet.capacity
  minute : t.minute ≡ arrival p i j s.minute
  load : t.load ≡ loaded p j s.load

leg_driven : (p : Contents) (s : RoundState) (i j : ℕ) (t : RoundState) → drive p.fleet (leg_at p i j) (visit_at p j) s ≡ Ok t → LegDriven p s i j t
leg_driven p s i j t e = by (nat_le (arrival p i j s.minute) (visit_at p j).closes) (nat_le (loaded p j s.load) p.fleet.capacity) refl refl e
  where
    by : (b c : Bool) → nat_le (arrival p i j s.minute) (visit_at p j).closes ≡ b → nat_le (loaded p j s.load) p.fleet.capacity ≡ c → cond {A = Result RoundState Barred} b (cond c (Ok (state (arrival p i j s.minute) (loaded p j s.load))) (Err (TooHeavy (loaded p j s.load) p.fleet.capacity))) (Err (TooLate (arrival p i j s.minute) (visit_at p j).closes)) ≡ Ok t → LegDriven p s i j t
    by false c g h e = absurd (err_ok e)
    by true false g h e = absurd (err_ok e)
    by true true g h e =
        let q = ok_same e in
        record {
          arrives_in_time = leb-true _ _ g;
          room = leb-true _ _ h;
          minute = sym (ap (λ (r : RoundState). r.minute) q);
          load = sym (ap (λ (r : RoundState). r.load) q);
        }

-- the other way
leg_drive_on : (p : Contents) (s : RoundState) (i j : ℕ) → arrival p i j s.minute ≤ (visit_at p j).closes → loaded p j s.load ≤ p.fleet.capacity → drive p.fleet (leg_at p i j) (visit_at p j) s ≡ Ok (state (arrival p i j s.minute) (loaded p j s.load))
leg_drive_on p s i j h r =
    let y = le-leb _ _ h in
    let z = le-leb _ _ r in
    rw (y, z)

-- over a book
pub record Driven (p : Contents) (s : RoundState) (i j : ℕ) (t : RoundState) : Type 0 where
  pub leg : IsLeg p.stops i j
  pub arrives_in_time : arrival p i j s.minute ≤ (visit_at p j).closes
  pub room : loaded p j s.load ≤ p.fleet.capacity
  pub minute : t.minute ≡ arrival p i j s.minute
  pub load : t.load ≡ loaded p j s.load

pub driven : (p : Contents) (s : RoundState) (i j : ℕ) (t : RoundState) → drives p s i j ≡ Ok t → Driven p s i j t
driven p s i j t e =
    let w = driven_was round_driving p s i j t e in
    let v = leg_driven p s i j t w.drives in
    record { leg = w.leg; arrives_in_time = v.arrives_in_time; room = v.room; minute = v.minute; load = v.load }

-- the other way
pub drive_on : (p : Contents) (s : RoundState) (i j : ℕ) → IsLeg p.stops i j → arrival p i j s.minute ≤ (visit_at p j).closes → loaded p j s.load ≤ p.fleet.capacity → drives p s i j ≡ Ok (state (arrival p i j s.minute) (loaded p j s.load))
drive_on p s i j l h r = driven_is round_driving p s i j (state (arrival p i j s.minute) (loaded p j s.load)) l (leg_drive_on p s i j h r)

-- what it says that a stop has a way home
pub home : (p : Contents) (i : ℕ) (x : ℤ) → goes_home p i ≡ Some x → Stop p.stops i × (x ≡ pos (leg_at p i 0).cost)
home p i x e = by (is_stop p i) refl e
  where
    by : (b : Bool) → is_stop p i ≡ b → cond {A = Option ℤ} b (Some (pos (leg_at p i 0).cost)) None ≡ Some x → Stop p.stops i × (x ≡ pos (leg_at p i 0).cost)
    by true f e = ((grind (arith, nat_tests), grind (arith, nat_tests)), sym (some_same e))
    by false f e = absurd (none_some e)

-- the way home costs what its leg does
pub home_costs : (p : Contents) (s : RoundState) (i : ℕ) → goes_home p i ≡ home_cost (gone_home round_driving p s i)
home_costs p s i = by (is_stop p i)
  where
    by : (b : Bool) → cond {A = Option ℤ} b (Some (pos (leg_at p i 0).cost)) None ≡ home_cost (cond {A = Result Leg Barred} b (Ok (leg_at p i 0)) (Err NoLeg))
    by true = refl
    by false = refl

-- WHAT IT SAYS THAT THERE IS A GAP

record Ahead (a b : RoundState) (g : ℕ) : Type 0 where
  none : g ≡ 0
  minute : a.minute ≤ b.minute
  load : a.load ≤ b.load

ahead : (a b : RoundState) (g : ℕ) → round_gap a b ≡ Some g → Ahead a b g
ahead a b g e = by (nat_le a.minute b.minute && nat_le a.load b.load) refl e
  where
    by : (t : Bool) → (nat_le a.minute b.minute && nat_le a.load b.load) ≡ t → cond {A = Option ℕ} t (Some 0) None ≡ Some g → Ahead a b g
    by true f e = record { none = sym (some_same e); minute = grind (arith, nat_tests); load = grind (arith, nat_tests) }
    by false f e = absurd (none_some e)

no_gap : (a b : RoundState) → a.minute ≤ b.minute → a.load ≤ b.load → round_gap a b ≡ Some 0
no_gap a b m l = grind (arith, nat_tests)

-- THE LAWS

-- where c goes, a goes too: it arrives no later and carries no more
leg_follows : (p : Contents) (i j : ℕ) (a c t : RoundState) (g : ℕ) → round_gap a c ≡ Some g → drive p.fleet (leg_at p i j) (visit_at p j) c ≡ Ok t → DrivesWithin round_driving p i j a t g
leg_follows p i j a c t g e f =
    let h = ahead a c g e in
    let v = leg_driven p c i j t f in
    let next = state (arrival p i j a.minute) (loaded p j a.load) in
    let sooner = no_overtaking p i j a.minute c.minute h.minute in
    let lighter = h.load in
    let arrives_in_time = v.arrives_in_time in
    let room = v.room in
    let minute = v.minute in
    let load = v.load in
    record {
      next = next;
      drives = leg_drive_on p a i j (omega arith) (omega arith);
      width = 0;
      present = no_gap next t (omega arith) (omega arith);
      small = omega arith;
    }

module _ (p : Contents) (ok : InRanges p) where
  driving_laws : DrivingLaws round_driving p
  driving_laws = record {
    gap_to_itself = λ a. no_gap a a (omega arith) (omega arith);
    gap_through = λ a c e g h u v.
        let x = ahead a c g u in
        let y = ahead c e h v in
        record { width = 0; present = no_gap a e (omega arith) (omega arith); small = omega arith };
    gap_small = λ a c g e. let h = (ahead a c g e).none in omega arith;
    drive_follows = leg_follows p;
    home_follows = λ l m a c g e f. f;
    home_is_leg = λ l m s e. sym (ok_same e);
    start_at_zero = refl;
    drive_in_range = λ i j s t e.
        let v = leg_driven p s i j t e in
        let c = close_kept p ok j in
        let a = v.arrives_in_time in
        let b = v.minute in
        omega arith;
    drive_raises_key = λ i j s t leg e.
        let v = leg_driven p s i j t e in
        let l = arrives_later p ok i j s.minute leg.to.1 leg.apart in
        let m = v.minute in
        omega arith;
    gap_orders_keys = λ a c g e. (ahead a c g e).minute;
  }

  pub round_base_laws : BaseLaws (round_base p)
  round_base_laws = base_laws round_driving p ok (home_costs p) driving_laws

  -- one reach, as the answers with duals 0 have it
  reach_driven : (s t : RoundState) (i j : ℕ) (x : ℤ) → (plain (round_base p)).reach s i j ≡ Some (t, x) → Driven p s i j t
  reach_driven s t i j x e = driven p s i j t (costs (leg_at p i j).cost (drives p s i j) t x (plain_was ((round_base p).reach s i j) t x e)).was

  -- where b goes, a goes too
  follows : (i j : ℕ) (a b t : RoundState) (g : ℕ) (y : ℤ) → round_gap a b ≡ Some g → (plain (round_base p)).reach b i j ≡ Some (t, y) → ReachesWithin (plain (round_base p)) i j a t (y +ℤ pos g)
  follows = base_follows round_driving p ok (home_costs p) driving_laws
