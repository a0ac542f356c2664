-- How the vans of one kind of bottom drive over a book.
use Rattle.std.specs.Prelude.{ℕ, cond, ℤ, pos, Some, None, Ok, Err, Option, Result}
use Rattle.book.specs.Books.{Contents, is_stop, can_go, visit_at, leg_at}
use Rattle.book.specs.declared.parts.Fleet.{Fleet}
use Rattle.book.specs.declared.parts.Visit.{Visit}
use Rattle.book.specs.declared.parts.Leg.{Leg}
use Rattle.duals.specs.Bottoms.{Base, costing}

-- Of states S, and of reasons E why a leg is barred.
pub record Driving (S E : Type 0) : Type 0 where
  -- the state at the depot
  pub start : Fleet → S
  pub key : S → ℕ
  -- that there is no such leg
  pub no_leg : E
  -- of a leg, the visit that it leads to and the state before: the state on arrival, or why the leg is barred
  pub drive : Fleet → Leg → Visit → S → Result S E
  -- of the leg home and the state before: that leg, or why it is barred
  pub go_home : Leg → S → Result Leg E
  -- of a state, from: the cost of the leg home, None where it is barred
  pub finish : Contents → S → ℕ → Option ℤ
  pub gap : S → S → Option ℕ

-- the state at j, or why the leg from i is barred
abbrev pub driven : {S E : Type 0} → Driving S E → Contents → S → ℕ → ℕ → Result S E
driven d b s i j = cond (can_go b i j) (d.drive b.fleet (leg_at b i j) (visit_at b j) s) (Err d.no_leg)

-- with what the leg is charged
abbrev pub charged : {S E : Type 0} → ℤ → Result S E → Result (S × ℤ) E
charged x (Ok s) = Ok (s, x)
charged x (Err e) = Err e

-- the leg home from i, or why it is barred
abbrev pub gone_home : {S E : Type 0} → Driving S E → Contents → S → ℕ → Result Leg E
gone_home d b s i = cond (is_stop b i) (d.go_home (leg_at b i 0) s) (Err d.no_leg)

-- the cost of the leg home
abbrev pub home_cost : {E : Type 0} → Result Leg E → Option ℤ
home_cost (Ok l) = Some (pos l.cost)
home_cost (Err e) = None

-- A bottom apart from its duals: each leg costs what the book says.
abbrev pub base_of : {S E : Type 0} → Driving S E → Contents → Base S
base_of d b = record {
  stops = b.stops;
  start = d.start b.fleet;
  key = d.key;
  reach = λ s i j. costing (leg_at b i j).cost (driven d b s i j);
  finish = λ s i. d.finish b s i;
  gap = d.gap;
}
