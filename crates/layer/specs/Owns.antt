-- The own part of a layer: what it adds to a state, to charges and to gaps, whatever tier it stands on.
use Rattle.std.specs.Prelude.{◌≡◌, ℕ, ◌+◌, ◌^◌, ◌≤◌, List, [], ◌∷◌, Some, None, Option}
use Rattle.std.specs.List.{AllByRecursion}
use Rattle.stops.specs.Stops.{Stop}
use Rattle.tier.specs.Routes.{Route, and_then}
use Rattle.tier.specs.Plans.{visits}

-- M is what the layer adds to a state: a memory, or bits
pub record Own (M : Type 0) : Type 0 where
  -- at the depot
  pub first : M
  -- on reaching a stop: barred, or what is then added and the own charge
  pub step : ℕ → M → Option (M × ℕ)
  -- the own gap, or absent
  pub behind : M → M → Option ℕ
  -- what the credit loses
  pub penalties : ℕ

-- x more, if there is a sum
abbrev pub add : ℕ → Option ℕ → Option ℕ
add x None = None
add x (Some y) = Some (x + y)

-- the own charges along a route; None if a step is barred
abbrev pub walk : {M : Type 0} → Own M → M → List ℕ → Option ℕ
walk o m [] = Some 0
walk o m (j ∷ js) = and_then (o.step j m) (λ p. add p.1 (walk o p.0 js))

-- of several routes together, each from the depot
abbrev pub walks : {M : Type 0} → Own M → List (List ℕ) → Option ℕ
walks o [] = Some 0
walks o (r ∷ rs) = and_then (walk o o.first r) (λ x. add x (walks o rs))

-- WHAT AN OWN PART OWES

-- the own charges, gaps and penalties are at most this
abbrev pub most_own : ℕ
most_own = 2 ^ 35

pub record BehindWithin {M : Type 0} (o : Own M) (a b : M) (most : ℕ) : Type 0 where
  pub width : ℕ
  pub present : o.behind a b ≡ Some width
  pub small : width ≤ most

pub record StepsWithin {M : Type 0} (o : Own M) (j : ℕ) (a t : M) (most : ℕ) : Type 0 where
  pub next : M
  pub charge : ℕ
  pub steps : o.step j a ≡ Some (next, charge)
  pub width : ℕ
  pub present : o.behind next t ≡ Some width
  pub small : charge + width ≤ most

pub record WalksWithin {M : Type 0} (o : Own M) (rs : List (List ℕ)) (most : ℕ) : Type 0 where
  pub charges : ℕ
  pub walked : walks o rs ≡ Some charges
  pub small : charges ≤ most

pub record OwnLaws {M : Type 0} (n : ℕ) (o : Own M) : Type 0 where
  pub behind_itself : (m : M) → o.behind m m ≡ Some 0
  pub behind_through : (a b c : M) (g h : ℕ) → o.behind a b ≡ Some g → o.behind b c ≡ Some h → BehindWithin o a c (g + h)
  pub step_follows : (j : ℕ) (a b t : M) (g y : ℕ) → o.behind a b ≡ Some g → o.step j b ≡ Some (t, y) → StepsWithin o j a t (y + g)
  pub step_small : (j : ℕ) (m t : M) (x : ℕ) → o.step j m ≡ Some (t, x) → x ≤ most_own
  pub behind_small : (a b : M) (g : ℕ) → o.behind a b ≡ Some g → g ≤ most_own
  pub penalties_small : o.penalties ≤ most_own
  -- routes that together visit each stop once are never barred, and pay no more than the penalties
  pub plan_walks : (rs : List (List ℕ)) → AllByRecursion (Route n) rs → ((j : ℕ) → Stop n j → visits j rs ≡ 1) → WalksWithin o rs o.penalties

-- every route that `after` walks is walked before, for no greater own charges
abbrev pub WalksNoCheaper : {M : Type 0} → Own M → Own M → Type 0
WalksNoCheaper before after = (r : List ℕ) (f : ℕ) → walk after after.first r ≡ Some f → (g : ℕ) × (walk before before.first r ≡ Some g) × (g ≤ f)
