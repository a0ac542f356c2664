-- What one value of a tier answers to every question, and the states that stand at a place.
use Rattle.std.specs.Prelude.{◌≡◌, ℕ, ℤ, Some, Option}

-- Money is a whole number of mils. None is barred of reach and finish, and absent of gap.
pub record Answers (S : Type 0) : Type 0 where
  -- n: the stops are 1 to n, and place 0 is the depot
  pub stops : ℕ
  -- how many tiers stand here, one on the other: 1 for a bottom, one more than below for a layer, held at 5
  pub tiers : ℕ
  -- the state at the depot
  pub start : S
  pub key : S → ℕ
  -- of a state, from, to: the new state and the charge
  pub reach : S → ℕ → ℕ → Option (S × ℤ)
  -- of a state, from: the charge for going home
  pub finish : S → ℕ → Option ℤ
  -- of two states that stand at one stop: by how much the first may do worse than the second
  pub gap : S → S → Option ℕ
  -- the sum of the duals less the penalties
  pub credit : ℤ

-- The states that come from start and reach, each at the place where it stands.
pub data Standing {S : Type 0} (m : Answers S) : ℕ → S → Type 0 where
  at_depot : Standing m 0 m.start
  reached : {i : ℕ} {s : S} (j : ℕ) (t : S) (x : ℤ) → Standing m i s → m.reach s i j ≡ Some (t, x) → Standing m j t
