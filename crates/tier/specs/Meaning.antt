-- The meaning of a tier: a kind of value that fixes every answer, the ground, and what each call gives.
use Rattle.std.specs.Prelude.{◌≡◌, ℕ, List, ℤ, Option}
use Rattle.tier.specs.Answers.{Answers}

-- What a call gives: taken, with the value that the tier then has, or refused by a number, and the value stays.
pub data Outcome (V : Type 0) : Type 0 where
  taken : V → Outcome V
  refused : ℕ → Outcome V

-- the same outcome, of a value that stands inside a larger one
abbrev pub lifted : {V W : Type 0} → (V → W) → Outcome V → Outcome W
lifted f (taken v) = taken (f v)
lifted f (refused n) = refused n

pub record Meaning (S : Type 0) : Type 1 where
  -- what a tier of this kind can stand at
  pub Value : Type 0
  -- the answers to the questions
  pub answers : Value → Answers S
  -- the leg costs of a route that can be driven, None of one that cannot: for a bottom its replay with all
  -- duals 0, for a layer the ground below; each tier's own definition fixes it
  pub ground_of : Value → List ℕ → Option ℤ
  -- of a value, tier, index and amount. (Numbers are not bounded here; the code's calls have words.)
  pub sets : Value → ℕ → ℕ → ℤ → Outcome Value
  -- of a value, tier, index, set of stops and amount
  pub tightens : Value → ℕ → ℕ → ℕ → ℤ → Outcome Value

-- The values that a tier at v can come to, by taken sets and tightens.
pub data Comes {S : Type 0} (d : Meaning S) (v : d.Value) : d.Value → Type 0 where
  here : Comes d v v
  by_set : {w : d.Value} (x : d.Value) (tier index : ℕ) (amount : ℤ) → Comes d v w → d.sets w tier index amount ≡ taken x → Comes d v x
  by_tighten : {w : d.Value} (x : d.Value) (tier index set : ℕ) (amount : ℤ) → Comes d v w → d.tightens w tier index set amount ≡ taken x → Comes d v x
