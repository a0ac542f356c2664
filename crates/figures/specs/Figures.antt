-- The worked figures: what the definitions give on small examples that a planner can check by hand.
use Rattle.std.specs.Prelude.{◌≡◌, ℕ, Bool, true, false, List, [], ◌∷◌, ◌++◌, replicate, Some, None, Ok, Err}
use Rattle.stops.specs.Stops.{just, joined, empty_set}
use Rattle.book.specs.Books.{Contents}
use Rattle.book.specs.Ranges.{blank_visit, blank_leg}
use Rattle.book.specs.declared.parts.Visit.{Visit}
use Rattle.round.specs.declared.state.Barred.TheVariants.{TooLate, TooHeavy}
use Rattle.round.specs.Round as round
use Rattle.town.specs.declared.barred.Barred.TheVariants.{TooFar}
use Rattle.town.specs.Town as town
use Rattle.stops.specs.declared.StopSet.{StopSet}
use Rattle.ng.specs.Ng.{ng_own, set_of}
use Rattle.cuts.specs.declared.cut.Cut.{Cut}
use Rattle.cuts.specs.declared.bits.Bits.{Bits}
use Rattle.cuts.specs.Bits.{no_bits, with_bit}
use Rattle.cuts.specs.Cuts.{bits_after, charge_at, gap_between}
use Rattle.figures.specs.declared.worked.WorkedFigures.{WorkedFigures}

-- THE EXAMPLES

-- two stops, a capacity of 10 and a battery of 40; from stop 1 to stop 2, which is `v`, it takes so many minutes
abbrev pub road : Visit → ℕ → Contents
road v minutes = record {
  stops = 2;
  fleet = record { vans = 1; capacity = 10; battery = 40; most = 4 };
  visits = blank_visit ∷ blank_visit ∷ v ∷ [];
  legs = replicate 63 blank_leg ++ record { cost = 0; minutes = minutes } ∷ [];
}

abbrev pub window : ℕ → ℕ → Visit
window opens closes = record { opens = opens; closes = closes; load = 0; charger = false }

abbrev pub heavy : ℕ → Visit
heavy load = record { opens = 0; closes = 20; load = load; charger = false }

abbrev pub charging : Bool → Visit
charging charger = record { opens = 0; closes = 20; load = 0; charger = charger }

-- stop 1 has this neighbourhood, stop 2 itself
abbrev pub near : ℕ → List StopSet
near first = set_of empty_set ∷ set_of first ∷ set_of (just 2) ∷ []

-- the set of 1 and 2
abbrev pub both : ℕ
both = joined (just 1) (just 2)

-- the stops 1, 2 and 3, this memory, and a penalty of 5
abbrev pub cut : ℕ → List Cut
cut memory = record { stops = record { word = joined both (just 3) }; memory = record { word = memory }; penalty = 5 } ∷ []

-- remembered at 1, 2 and 3, and perhaps at 4
abbrev pub three : ℕ
three = joined both (just 3)

abbrev pub four : ℕ
four = joined three (just 4)

-- what cuts add at each stop of a route
abbrev pub adds_from : List Cut → Bits → List ℕ → List ℕ
adds_from cs bits [] = []
adds_from cs bits (j ∷ js) = charge_at cs j bits ∷ adds_from cs (bits_after cs j bits) js

abbrev pub adds : List Cut → List ℕ → List ℕ
adds cs r = adds_from cs no_bits r

-- the bit of cut 0
abbrev pub bit : Bits
bit = with_bit no_bits 0

-- THE FIGURES

abbrev pub figures : WorkedFigures
figures = record {
  arrives = 8;
  waits = 9;
  in_time = 10;
  late = 11;
  full = 10;
  over = 11;
  forgets = just 1;
  remembers = both;
  penalty = 5;
  used_up = 0;
  filled = 40;
  too_far = 4;
}

-- the definitions give them

pub record Worked (f : WorkedFigures) : Type 0 where
  -- Round, at minute 5, with a leg of 3: an arrival in the window from 0, and a wait for the one from 9
  pub arrives : round.drives (road (window 0 20) 3) (round.state 5 0) 1 2 ≡ Ok (round.state f.arrives 0)
  pub waits : round.drives (road (window 9 20) 3) (round.state 5 0) 1 2 ≡ Ok (round.state f.waits 0)
  -- at minute 8, with a window to 10: a leg of 2 arrives, one of 3 is barred
  pub arrives_in_time : round.drives (road (window 0 10) 2) (round.state 8 0) 1 2 ≡ Ok (round.state f.in_time 0)
  pub late : round.drives (road (window 0 10) 3) (round.state 8 0) 1 2 ≡ Err (TooLate f.late 10)
  -- with a load of 8 of 10: 2 more pass, 3 are barred
  pub full : round.drives (road (heavy 2) 3) (round.state 5 8) 1 2 ≡ Ok (round.state 8 f.full)
  pub over : round.drives (road (heavy 3) 3) (round.state 5 8) 1 2 ≡ Err (TooHeavy f.over 10)
  -- ng, remembering 2 and reaching 1: 2 is forgotten, unless it is a neighbour of 1
  pub forgets : (ng_own (near (just 1))).step 1 (just 2) ≡ Some (f.forgets, 0)
  pub remembers : (ng_own (near both)).step 1 (just 2) ≡ Some (f.remembers, 0)
  -- what is remembered cannot be reached
  pub barred : (ng_own (near both)).step 2 both ≡ None
  -- a cut at 1, 2 and 3 is charged at each second visit to one of them; 4 in between clears its bit, unless 4 is in its
  -- memory
  pub second_visit : adds (cut three) (1 ∷ 2 ∷ 3 ∷ []) ≡ 0 ∷ f.penalty ∷ 0 ∷ []
  pub cleared : adds (cut three) (1 ∷ 4 ∷ 2 ∷ []) ≡ 0 ∷ 0 ∷ 0 ∷ []
  pub kept : adds (cut four) (1 ∷ 4 ∷ 2 ∷ []) ≡ 0 ∷ 0 ∷ f.penalty ∷ []
  -- from bit 1 to bit 0 the gap is the penalty, the other way it is 0
  pub behind : gap_between (cut three) bit no_bits ≡ f.penalty
  pub ahead : gap_between (cut three) no_bits bit ≡ 0
  -- Town, with 3 units of 40: a leg of 3 leaves none, or a full battery at a charger; a leg of 4 is barred
  pub is_used_up : town.drives (road (charging false) 3) (town.state 3 0) 1 2 ≡ Ok (town.state f.used_up 1)
  pub filled : town.drives (road (charging true) 3) (town.state 3 0) 1 2 ≡ Ok (town.state f.filled 1)
  pub is_too_far : town.drives (road (charging false) 4) (town.state 3 0) 1 2 ≡ Err (TooFar f.too_far 3)
  pub is_too_far_to_fill : town.drives (road (charging true) 4) (town.state 3 0) 1 2 ≡ Err (TooFar f.too_far 3)
