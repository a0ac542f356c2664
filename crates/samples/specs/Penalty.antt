-- A tier with a penalty, where the gap decides. Stop 1 is a detour on the way to stop 2: cheaper and earlier, but who
-- made it pays a penalty of 5 on reaching stop 3. Only from stop 3 the way home is open.
use Rattle.std.specs.Prelude.{ℕ, ◌+◌, Bool, true, false, cond, not, ◌&&◌, ℤ, pos, Some, None, Option, ◌==◌, nat_le}
use Rattle.tier.specs.Answers.{Answers}
use Rattle.labelling.specs.Labelling.{by_key}
use Rattle.calls.specs.Calls.{Answer, priced}

-- the minute, and whether the penalty is due at stop 3
pub record Trip : Type 0 where
  pub minute : ℕ
  pub owes : Bool

abbrev trip : ℕ → Bool → Trip
trip minute owes = record { minute = minute; owes = owes }

abbrev penalty : ℕ
penalty = 5

abbrev leg_is : ℕ → ℕ → ℕ → ℕ → Bool
leg_is i j from to = i == from && j == to

abbrev goes : Trip → ℕ → ℕ → Option (Trip × ℤ)
goes s i j =
    cond (leg_is i j 0 1) (Some (trip (s.minute + 1) true, pos 1))
    (cond (leg_is i j 0 2) (Some (trip (s.minute + 5) s.owes, pos 4))
    (cond (leg_is i j 1 2) (Some (trip (s.minute + 2) s.owes, pos 2))
    (cond (leg_is i j 2 3) (Some (trip (s.minute + 1) false, pos (1 + cond s.owes penalty 0)))
    None)))

-- who is no later may do worse by the penalty, if only he owes it
abbrev behind : Trip → Trip → Option ℕ
behind a b = cond (nat_le a.minute b.minute) (Some (cond (a.owes && not b.owes) penalty 0)) None

-- with gaps as they should be, or all 0 where there is one
abbrev answers : Bool → Answers Trip
answers gaps = record {
  stops = 3;
  tiers = 1;
  start = trip 0 false;
  key = λ s. s.minute;
  reach = goes;
  finish = λ s i. cond (i == 3) (Some (pos 0)) None;
  gap = λ a b. cond gaps (behind a b) (cond (nat_le a.minute b.minute) (Some 0) None);
  credit = pos 0;
}

-- a price for one van
abbrev pub price_trip : Bool → Answer
price_trip gaps = priced (answers gaps) (by_key (answers gaps)) 1 6 1440
