-- One cut over a plan: it is charged at most once. Assumes nothing.
use Rattle.std.specs.Prelude.{◌≡◌, ℕ, zero, suc, ◌+◌, ◌*◌, ◌≤◌, Bool, false, List, [], ◌∷◌, ℤ, pos, ◌+ℤ◌, refl}
use Rattle.std.proofs.Common.{ap, arith, mul-add, mul-le-mul_left}
use Rattle.std.specs.List.{AllByRecursion}
use Rattle.std.proofs.lemmas.Int.{ints}
use Rattle.stops.specs.Stops.{Stop, member, count_to}
use Rattle.tier.specs.Routes.{Route}
use Rattle.tier.specs.Plans.{visits}
use Rattle.tier.specs.Sums.{sum_over, sum_routes, sum_to}
use Rattle.tier.proofs.Counts.{sum_once}
use Rattle.cuts.specs.declared.cut.Cut.{Cut}
use Rattle.cuts.specs.Walks.{worth, charges, pays, visits_in, halves, pays_charges}

-- over routes, each from bit 0
abbrev charges_over : Cut → List (List ℕ) → ℕ
charges_over c [] = 0
charges_over c (r ∷ rs) = charges c false r + charges_over c rs

abbrev pub pays_over : Cut → List (List ℕ) → ℕ
pays_over c [] = 0
pays_over c (r ∷ rs) = pays c false r + pays_over c rs

abbrev visits_over : (ℕ → Bool) → List (List ℕ) → ℕ
visits_over p [] = 0
visits_over p (r ∷ rs) = visits_in p r + visits_over p rs

halves_over : (c : Cut) (rs : List (List ℕ)) → 2 * charges_over c rs ≤ visits_over (member c.stops.word) rs
halves_over c [] = omega arith
halves_over c (r ∷ rs) = let h = halves_over c rs in let v = halves c false r in omega arith

pays_charges_over : (c : Cut) (rs : List (List ℕ)) → pays_over c rs ≡ c.penalty * charges_over c rs
pays_charges_over c [] = omega arith
pays_charges_over c (r ∷ rs) =
    let h = pays_charges_over c rs in
    let e = pays_charges c false r in
    let m = mul-add c.penalty (charges c false r) (charges_over c rs) in
    omega arith

module _ (p : ℕ → Bool) where
  abbrev each : ℕ → ℤ
  each j = pos (worth (p j))

  visits_sum : (r : List ℕ) → sum_over each r ≡ pos (visits_in p r)
  visits_sum [] = refl
  visits_sum (j ∷ js) = ap (λ z. each j +ℤ z) (visits_sum js)

  visits_over_sum : (rs : List (List ℕ)) → sum_routes (sum_over each) rs ≡ pos (visits_over p rs)
  visits_over_sum [] = refl
  visits_over_sum (r ∷ rs) = let h = visits_over_sum rs in let e = visits_sum r in omega (arith, ints)

  count_sum : (n : ℕ) → sum_to each n ≡ pos (count_to p n)
  count_sum zero = refl
  count_sum (suc n) = ap (λ z. z +ℤ each (suc n)) (count_sum n)

  -- each stop once
  counted : (n : ℕ) (rs : List (List ℕ)) → AllByRecursion (Route n) rs → ((j : ℕ) → Stop n j → visits j rs ≡ 1) → visits_over p rs ≡ count_to p n
  counted n rs a once =
      let s = sum_once n each rs a once in
      let v = visits_over_sum rs in
      let c = count_sum n in
      omega (arith, ints)

-- a plan pays a cut at most once
pub plan_pays : (c : Cut) (n : ℕ) (rs : List (List ℕ)) → count_to (member c.stops.word) n ≤ 3 → AllByRecursion (Route n) rs → ((j : ℕ) → Stop n j → visits j rs ≡ 1) → pays_over c rs ≤ c.penalty
plan_pays c n rs few a once =
    let h = halves_over c rs in
    let v = counted (member c.stops.word) n rs a once in
    let e = pays_charges_over c rs in
    let one : charges_over c rs ≤ 1 = omega arith in
    let m = mul-le-mul_left c.penalty one in
    omega arith
