-- The Round bottom: a van arrives in time windows and carries loads.
use Rattle.std.specs.Prelude.{ℕ, ◌+◌, max, cond, ◌&&◌, ℤ, pos, Some, None, Ok, Err, Option, Result, nat_le}
use Rattle.tier.specs.Meaning.{Meaning}
use Rattle.book.specs.Books.{Contents, is_stop, visit_at, leg_at}
use Rattle.book.specs.declared.parts.Fleet.{Fleet}
use Rattle.book.specs.declared.parts.Visit.{Visit}
use Rattle.book.specs.declared.parts.Leg.{Leg}
use Rattle.duals.specs.Bottoms.{Base, bottom}
use Rattle.bottom.specs.Driving.{Driving, driven, base_of}
use Rattle.round.specs.declared.state.RoundState.{RoundState}
use Rattle.round.specs.declared.state.Barred.{Barred}
use Rattle.round.specs.declared.state.Barred.TheVariants.{NoLeg, TooLate, TooHeavy}

-- The minute of arrival, for a departure at `minute`: the leg is driven, and the van waits for the window to open.
abbrev pub arrive : Visit → Leg → ℕ → ℕ
arrive v l minute = max v.opens (minute + l.minutes)

-- the minute of arrival at j, of a van that leaves i at `minute`
abbrev pub arrival : Contents → ℕ → ℕ → ℕ → ℕ
arrival b i j minute = arrive (visit_at b j) (leg_at b i j) minute

-- the load with that of j
abbrev pub loaded : Contents → ℕ → ℕ → ℕ
loaded b j load = load + (visit_at b j).load

abbrev pub state : ℕ → ℕ → RoundState
state minute load = record { minute = minute; load = load }

-- the state after a leg to a visit, or why the leg is barred: an arrival after the window's close, then a load over
-- the capacity
abbrev pub drive : Fleet → Leg → Visit → RoundState → Result RoundState Barred
drive f l v s =
    cond (nat_le (arrive v l s.minute) v.closes)
    (cond (nat_le (s.load + v.load) f.capacity)
    (Ok (state (arrive v l s.minute) (s.load + v.load)))
    (Err (TooHeavy (s.load + v.load) f.capacity)))
    (Err (TooLate (arrive v l s.minute) v.closes))

-- the way home is not timed
abbrev pub goes_home : Contents → ℕ → Option ℤ
goes_home b i = cond (is_stop b i) (Some (pos (leg_at b i 0).cost)) None

abbrev pub round_gap : RoundState → RoundState → Option ℕ
round_gap a b = cond (nat_le a.minute b.minute && nat_le a.load b.load) (Some 0) None

abbrev pub round_driving : Driving RoundState Barred
round_driving = record {
  start = λ f. state 0 0;
  key = λ s. s.minute;
  no_leg = NoLeg;
  drive = drive;
  go_home = λ l s. Ok l;
  finish = λ b s i. goes_home b i;
  gap = round_gap;
}

-- the state at j, or why the leg is barred: no such leg, or as above
abbrev pub drives : Contents → RoundState → ℕ → ℕ → Result RoundState Barred
drives = driven round_driving

-- Round apart from its duals.
abbrev pub round_base : Contents → Base RoundState
round_base = base_of round_driving

abbrev pub round : Meaning RoundState
round = bottom round_base
