-- How far a replay has come.
use Rattle.std.specs.Prelude.{◌≡◌, ℕ, ◌^◌, ◌≤◌, List, ℤ, Some, None, Option, unsigned_abs}
use Rattle.tier.specs.Answers.{Answers, Standing}
use Rattle.tier.specs.Routes.{plus, reduced_cost}

-- the stops of a route were reached: a state stands at the last of them, and only the way home is left
pub record Arrived {S : Type 0} (m : Answers S) (r : List ℕ) (s : S) (i : ℕ) (cost : ℤ) : Type 0 where
  pub stands : Standing m i s
  pub small : unsigned_abs cost ≤ 2 ^ 50
  pub left : reduced_cost m r ≡ plus cost (m.finish s i)

-- or one of them is barred
abbrev pub Went : {S : Type 0} → Answers S → List ℕ → Option (S × ℕ × ℤ) → Type 0
Went m r None = reduced_cost m r ≡ None
Went m r (Some p) = Arrived m r p.0 p.1 p.2
