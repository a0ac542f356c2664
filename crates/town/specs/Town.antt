-- The Town bottom: a van drives on a battery, which chargers fill, and makes a limited number of stops. It passes
-- over windows and loads.
use Rattle.std.specs.Prelude.{ℕ, ◌+◌, ◌-◌, Bool, cond, ◌&&◌, Some, None, Ok, Err, Option, Result, nat_le}
use Rattle.tier.specs.Meaning.{Meaning}
use Rattle.book.specs.Books.{Contents, is_stop, visit_at, leg_at}
use Rattle.book.specs.declared.parts.Fleet.{Fleet}
use Rattle.book.specs.declared.parts.Visit.{Visit}
use Rattle.book.specs.declared.parts.Leg.{Leg}
use Rattle.duals.specs.Bottoms.{Base, bottom}
use Rattle.bottom.specs.Driving.{Driving, driven, home_cost, base_of}
use Rattle.town.specs.declared.state.TownState.{TownState}
use Rattle.town.specs.declared.barred.Barred.{Barred}
use Rattle.town.specs.declared.barred.Barred.TheVariants.{NoLeg, TooFar, TooMany}

-- the charge is enough for a leg, which uses a unit for each minute
abbrev pub covered : Leg → ℕ → Bool
covered l charge = nat_le l.minutes charge

-- the charge on arrival, after a leg that was covered: a charger fills the battery
abbrev pub left_after : Visit → Leg → ℕ → ℕ → ℕ
left_after v l battery charge = cond v.charger battery (charge - l.minutes)

-- the charge on arrival at j, of a van that leaves i with `charge`
abbrev pub charge_at : Contents → ℕ → ℕ → ℕ → ℕ
charge_at b i j charge = left_after (visit_at b j) (leg_at b i j) b.fleet.battery charge

abbrev pub state : ℕ → ℕ → TownState
state charge made = record { charge = charge; made = made }

-- the state after a leg to a visit, or why the leg is barred: fewer units of charge than the leg has minutes, then
-- more stops made than the fleet allows
abbrev pub drive : Fleet → Leg → Visit → TownState → Result TownState Barred
drive f l v s =
    cond (covered l s.charge)
    (cond (nat_le (s.made + 1) f.most)
    (Ok (state (left_after v l f.battery s.charge) (s.made + 1)))
    (Err (TooMany (s.made + 1) f.most)))
    (Err (TooFar l.minutes s.charge))

-- the leg home, or why it is barred: fewer units of charge than it has minutes
abbrev pub go_home : Leg → TownState → Result Leg Barred
go_home l s = cond (covered l s.charge) (Ok l) (Err (TooFar l.minutes s.charge))

-- the leg home from i, or why it is barred: `i` is no stop, or as above
abbrev pub goes_home : Contents → TownState → ℕ → Result Leg Barred
goes_home b s i = cond (is_stop b i) (go_home (leg_at b i 0) s) (Err NoLeg)

-- 0 if a has at least the charge of b and has made at most its stops, else absent
abbrev pub town_gap : TownState → TownState → Option ℕ
town_gap a b = cond (nat_le b.charge a.charge && nat_le a.made b.made) (Some 0) None

abbrev pub town_driving : Driving TownState Barred
town_driving = record {
  start = λ f. state f.battery 0;
  key = λ s. s.made;
  no_leg = NoLeg;
  drive = drive;
  go_home = go_home;
  finish = λ b s i. home_cost (goes_home b s i);
  gap = town_gap;
}

-- the state at j, or why the leg is barred: no such leg, or as above
abbrev pub drives : Contents → TownState → ℕ → ℕ → Result TownState Barred
drives = driven town_driving

-- Town apart from its duals.
abbrev pub town_base : Contents → Base TownState
town_base = base_of town_driving

abbrev pub town : Meaning TownState
town = bottom town_base
