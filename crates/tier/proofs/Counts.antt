-- A sum over the routes of a plan is a sum over the stops. Assumes nothing.
use Rattle.std.proofs.Common.{◌≡◌, ℕ, zero, suc, ◌+◌, ◌<◌, ◌≤◌, cond, eqb, List, [], ◌∷◌, ℤ, pos, ◌+ℤ◌, count_by, refl, ap, ◌∙◌, ⊎_elim, arith}
use Rattle.std.specs.List.{AllByRecursion}
use Rattle.std.proofs.lemmas.List.Sums.{sum_by-cons}
use Rattle.std.proofs.lemmas.Bool.{eq-eqb, ne_eqb, cases_eq}
use Rattle.std.proofs.lemmas.Int.{ints}
use Rattle.stops.specs.Stops.{Stop}
use Rattle.tier.specs.Routes.{Route}
use Rattle.tier.specs.Plans.{visits}
use Rattle.tier.specs.Sums.{sum_over, sum_routes, sum_to}

-- n times z
abbrev times : ℕ → ℤ → ℤ
times zero z = pos 0
times (suc n) z = z +ℤ times n z

pub one : ℕ → ℕ → ℕ
one j k = cond (eqb j k) 1 0

pub one_same : (j k : ℕ) → j ≡ k → one j k ≡ 1
unfolding one
one_same j k e = ap (λ b. cond b 1 0) (eq-eqb j k e)

pub one_other : (j k : ℕ) → (j ≡ k → ⊥) → one j k ≡ 0
unfolding one
one_other j k n = ap (λ b. cond b 1 0) (ne_eqb j k n)

pub count_cons : (j k : ℕ) (r : List ℕ) → count_by (eqb j) (k ∷ r) ≡ one j k + count_by (eqb j) r
unfolding one
count_cons j k r = sum_by-cons (λ x. cond (eqb j x) 1 0) k r

pub sum_to_same : (f g : ℕ → ℤ) (n : ℕ) → ((j : ℕ) → 0 < j → j ≤ n → f j ≡ g j) → sum_to f n ≡ sum_to g n
sum_to_same f g zero h = refl
sum_to_same f g (suc n) h =
    let e = sum_to_same f g n (λ j a b. h j a (omega arith)) in
    let l = h (suc n) (omega arith) (omega arith) in
    omega (arith, ints)

-- once more at k
more_at : (f : ℕ → ℤ) (c d : ℕ → ℕ) (k n : ℕ) → 0 < k → k ≤ n → ((j : ℕ) → d j ≡ one j k + c j) → sum_to (λ j. times (d j) (f j)) n ≡ f k +ℤ sum_to (λ j. times (c j) (f j)) n
more_at f c d k zero a b h = absurd (omega arith)
more_at f c d k (suc n) a b h = ⊎_elim last (before (λ l. more_at f c d k n a l h)) (cases_eq (suc n) k)
  where
    other : (j : ℕ) → (j ≡ k → ⊥) → times (d j) (f j) ≡ times (c j) (f j)
    other j p = ap (λ x. times x (f j)) (let e = h j in let o = one_other j k p in omega arith)

    last : suc n ≡ k → sum_to (λ j. times (d j) (f j)) (suc n) ≡ f k +ℤ sum_to (λ j. times (c j) (f j)) (suc n)
    last e =
        let s = sum_to_same (λ j. times (d j) (f j)) (λ j. times (c j) (f j)) n (λ j p q. other j (λ u. omega arith)) in
        let o = one_same (suc n) k e in
        let i = h (suc n) in
        let t : times (d (suc n)) (f (suc n)) ≡ f (suc n) +ℤ times (c (suc n)) (f (suc n)) = ap (λ x. times x (f (suc n))) (let z : d (suc n) ≡ suc (c (suc n)) = omega arith in z) in
        let u = ap f e in
        omega (arith, ints)

    before : (k ≤ n → sum_to (λ j. times (d j) (f j)) n ≡ f k +ℤ sum_to (λ j. times (c j) (f j)) n) → (suc n ≡ k → ⊥) → sum_to (λ j. times (d j) (f j)) (suc n) ≡ f k +ℤ sum_to (λ j. times (c j) (f j)) (suc n)
    before more p =
        let s = more (omega arith) in
        let t = other (suc n) p in
        omega (arith, ints)

-- the stops of a list, on top of others
add_list : (f : ℕ → ℤ) (n : ℕ) (r : List ℕ) (v : ℕ → ℕ) → AllByRecursion (λ j. (0 < j) × (j ≤ n)) r → sum_to (λ j. times (count_by (eqb j) r + v j) (f j)) n ≡ sum_over f r +ℤ sum_to (λ j. times (v j) (f j)) n
add_list f n [] v a =
    let e = sum_to_same (λ j. times (count_by (eqb j) [] + v j) (f j)) (λ j. times (v j) (f j)) n (λ j p q. ap (λ x. times x (f j)) (omega arith)) in
    omega (arith, ints)
add_list f n (k ∷ r) v a =
    let e = more_at f (λ j. count_by (eqb j) r + v j) (λ j. count_by (eqb j) (k ∷ r) + v j) k n a.0.0 a.0.1 (λ j. ap (λ x. x + v j) (count_cons j k r) ∙ omega arith) in
    let h = add_list f n r v a.1 in
    omega (arith, ints)

-- over routes: each stop as often as it is visited
pub sum_visits : (f : ℕ → ℤ) (n : ℕ) (rs : List (List ℕ)) → AllByRecursion (AllByRecursion (λ j. (0 < j) × (j ≤ n))) rs → sum_routes (sum_over f) rs ≡ sum_to (λ j. times (visits j rs) (f j)) n
sum_visits f n [] a = none n
  where
    none : (n : ℕ) → pos 0 ≡ sum_to (λ j. times 0 (f j)) n
    none zero = refl
    none (suc n) = let h = none n in omega (arith, ints)
sum_visits f n (r ∷ rs) a =
    let e = add_list f n r (λ j. visits j rs) a.0 in
    let h = sum_visits f n rs a.1 in
    omega (arith, ints)

stops_of : (n : ℕ) (rs : List (List ℕ)) → AllByRecursion (Route n) rs → AllByRecursion (AllByRecursion (Stop n)) rs
stops_of n [] a = tt
stops_of n (r ∷ rs) a = (a.0.1, stops_of n rs a.1)

-- exactly once each
pub sum_once : (n : ℕ) (f : ℕ → ℤ) (rs : List (List ℕ)) → AllByRecursion (Route n) rs → ((j : ℕ) → Stop n j → visits j rs ≡ 1) → sum_routes (sum_over f) rs ≡ sum_to f n
sum_once n f rs a once =
    sum_visits f n rs (stops_of n rs a) ∙ sum_to_same (λ j. times (visits j rs) (f j)) f n (λ j p q. ap (λ x. times x (f j)) (once j (p, q)) ∙ omega (arith, ints))
