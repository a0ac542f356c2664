-- A bottom, by what it answers apart from its duals.
use Rattle.std.specs.Prelude.{◌≡◌, ℕ, ◌^◌, ◌≤◌, List, ℤ, pos, ◌-ℤ◌, Some, None, Ok, Err, Option, Result, unsigned_abs}
use Rattle.stops.specs.Stops.{Stop, most_stops}
use Rattle.tier.specs.Answers.{Answers, Standing}
use Rattle.tier.specs.Routes.{reduced_cost}
use Rattle.tier.specs.Sums.{sum_to}
use Rattle.tier.specs.Meaning.{Meaning, refused, lifted}
use Rattle.tier.specs.Laws.{Interface, GapLaws, KeyLaws}
use Rattle.duals.specs.Duals.{dual_of, set_dual, tighten_refusal}

-- What a bottom answers apart from its duals: reach gives the new state and the cost of the leg.
pub record Base (S : Type 0) : Type 0 where
  pub stops : ℕ
  pub start : S
  pub key : S → ℕ
  pub reach : S → ℕ → ℕ → Option (S × ℤ)
  pub finish : S → ℕ → Option ℤ
  pub gap : S → S → Option ℕ

-- a leg that is driven costs this
abbrev pub costing : {E S : Type 0} → ℕ → Result S E → Option (S × ℤ)
costing c (Ok s) = Some (s, pos c)
costing c (Err e) = None

-- the dual of the stop reached is taken off the cost of the leg
abbrev pub less_dual : {S : Type 0} → ℤ → Option (S × ℤ) → Option (S × ℤ)
less_dual dual None = None
less_dual dual (Some p) = Some (p.0, p.1 -ℤ dual)

abbrev pub with_duals : {S : Type 0} → Base S → (ℕ → ℤ) → Answers S
with_duals b dual = record {
  stops = b.stops;
  tiers = 1;
  start = b.start;
  key = b.key;
  reach = λ s i j. less_dual (dual j) (b.reach s i j);
  finish = b.finish;
  gap = b.gap;
  credit = sum_to dual b.stops;
}

-- the answers with all duals 0
abbrev pub plain : {S : Type 0} → Base S → Answers S
plain b = with_duals b (λ j. pos 0)

-- where a bottom stands: its answers are made from `origin`, which no call changes, and the duals
pub record BottomValue (D : Type 0) : Type 0 where
  pub origin : D
  pub duals : List ℤ

abbrev pub bottom_at : {D : Type 0} → D → List ℤ → BottomValue D
bottom_at x duals = record { origin = x; duals = duals }

-- The ground is the replay with all duals 0.
abbrev pub bottom : {D S : Type 0} → (D → Base S) → Meaning S
bottom {D} base = record {
  Value = BottomValue D;
  answers = λ v. with_duals (base v.origin) (dual_of v.duals);
  ground_of = λ v. reduced_cost (plain (base v.origin));
  sets = λ v tier index amount. lifted (bottom_at v.origin) (set_dual (base v.origin).stops v.duals tier index amount);
  tightens = λ v tier index set amount. refused (tighten_refusal tier);
}

-- WHAT THE LAWS OF A BOTTOM REST ON

-- Charges and gaps apart from duals are at most this in size; a dual taken off still leaves them within 2 ^ 36.
abbrev pub most_plain_size : ℕ
most_plain_size = 2 ^ 35

-- what a bottom shows apart from its duals; the nine laws follow, whatever the duals
pub record BaseLaws {S : Type 0} (b : Base S) : Type 0 where
  pub interface : Interface (plain b)
  pub gaps : GapLaws (plain b)
  pub keys : KeyLaws (plain b)
  pub few_stops : b.stops ≤ most_stops
  pub reach_small : (i j : ℕ) (s t : S) (x : ℤ) → Standing (plain b) i s → b.reach s i j ≡ Some (t, x) → unsigned_abs x ≤ most_plain_size
  pub finish_small : (i : ℕ) (s : S) (x : ℤ) → Standing (plain b) i s → b.finish s i ≡ Some x → unsigned_abs x ≤ most_plain_size
  pub gap_small : (i : ℕ) (a c : S) (g : ℕ) → Stop b.stops i → Standing (plain b) i a → Standing (plain b) i c → b.gap a c ≡ Some g → g ≤ most_plain_size
