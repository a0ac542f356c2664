-- The calls on a sitting, what each of them answers, and what each leaves. A sitting is the value of a pile, with a
-- number of vans.
use Rattle.std.specs.Prelude.{ℕ, ◌^◌, Bool, cond, ◌||◌, List, [], ◌∷◌, ℤ, pos, ◌+ℤ◌, ◌*ℤ◌, Some, None, Option, ◌==◌, nat_lt}
use Rattle.std.specs.Int.{int_min}
use Rattle.tier.specs.Answers.{Answers}
use Rattle.tier.specs.Meaning.{Meaning, Outcome, taken, refused}
use Rattle.tier.specs.Laws.{most_tiers, greatest_key}
use Rattle.labelling.specs.Labelling.{Finished, Table, by_key, labelling, route_to}

pub data Call : Type 0 where
  -- tier, index and amount
  set : ℕ → ℕ → ℤ → Call
  -- tier, index, set of stops and amount
  tighten : ℕ → ℕ → ℕ → ℤ → Call
  -- the number of places for labels, and the length of the row for the route
  price : ℕ → ℕ → Call

-- how many labels were kept, the root too, how many of them were struck, and how many offers were turned away
pub record Counts : Type 0 where
  pub kept : ℕ
  pub struck : ℕ
  pub turned : ℕ

pub data Answer : Type 0 where
  -- a set or tighten was taken
  call_taken : Answer
  -- by this number
  call_refused : ℕ → Answer
  -- the lowest reduced cost, its route, the floor and the counts
  lowest : ℤ → List ℕ → ℤ → Counts → Answer
  -- no route finishes
  no_route : Counts → Answer

-- SET AND TIGHTEN GO TO THE PILE

abbrev pub told : {V : Type 0} → Outcome V → Answer
told (taken w) = call_taken
told (refused n) = call_refused n

-- a refused call leaves the value
abbrev pub left_by : {V : Type 0} → V → Outcome V → V
left_by v (taken w) = w
left_by v (refused n) = v

-- PRICE

-- there are this many vans at most
abbrev pub most_vans : ℕ
most_vans = 60

-- and this many places for labels
abbrev pub most_labels : ℕ
most_labels = 2 ^ 18

-- The refusals of a price before a label is made, in this order: over four tiers; vans outside 1 to 60; no stops, or
-- places 0 or over 262,144; a row under 1,440 numbers.
abbrev pub early_refusal : {S : Type 0} → Answers S → ℕ → ℕ → ℕ → Option ℕ
early_refusal m vans places row =
    cond (nat_lt most_tiers m.tiers) (Some 1)
    (cond (vans == 0 || nat_lt most_vans vans) (Some 2)
    (cond (m.stops == 0 || (places == 0 || nat_lt most_labels places)) (Some 3)
    (cond (nat_lt row greatest_key) (Some 4) None)))

abbrev pub counts : {S : Type 0} → Table S → Counts
counts t = record { kept = t.kept; struck = t.struck; turned = t.turned }

-- the credit, and for each van the lowest reduced cost if it is below 0
abbrev pub floor : {S : Type 0} → Answers S → ℕ → ℤ → ℤ
floor m vans cost = m.credit +ℤ (pos vans *ℤ int_min (pos 0) cost)

-- what a table says in which none waits
abbrev pub found : {S : Type 0} → Answers S → ℕ → Table S → Option (Finished S) → Answer
found m vans t None = no_route (counts t)
found m vans t (Some b) = lowest b.total (route_to t b.last) (floor m vans b.total) (counts t)

-- 5: the places did not suffice
abbrev pub labelled : {S : Type 0} → Answers S → ℕ → Option (Table S) → Answer
labelled m vans None = call_refused 5
labelled m vans (Some t) = found m vans t t.best

abbrev pub unless_refused : Option ℕ → Answer → Answer
unless_refused None a = a
unless_refused (Some n) a = call_refused n

-- with any order among the keys
abbrev pub priced : {S : Type 0} → Answers S → (S → S → Bool) → ℕ → ℕ → ℕ → Answer
priced m earlier vans places row = unless_refused (early_refusal m vans places row) (labelled m vans (labelling m earlier places))

-- RUNS

-- a call, the value at which it was made, and what it answered
pub record Entry (V : Type 0) : Type 0 where
  pub call : Call
  pub value : V
  pub answer : Answer

module _ {S : Type 0} (d : Meaning S) (vans : ℕ) where
  -- one call: its answer, and the value after it. Price and refused calls leave the value.
  abbrev pub step : d.Value → Call → Answer × d.Value
  step v (set tier index amount) = (told (d.sets v tier index amount), left_by v (d.sets v tier index amount))
  step v (tighten tier index members amount) = (told (d.tightens v tier index members amount), left_by v (d.tightens v tier index members amount))
  step v (price places row) = (priced (d.answers v) (by_key (d.answers v)) vans places row, v)

  -- the calls in order, each at the value that those before it left
  abbrev pub run : d.Value → List Call → List (Entry d.Value)
  run v [] = []
  run v (c ∷ cs) = record { call = c; value = v; answer = (step v c).0 } ∷ run (step v c).1 cs

  -- the value that the calls leave
  abbrev pub left : d.Value → List Call → d.Value
  left v [] = v
  left v (c ∷ cs) = left (step v c).1 cs
