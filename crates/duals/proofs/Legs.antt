-- The legs of a bottom: which there are, and what it says that one is driven at a cost. Assumes nothing.
use Rattle.std.proofs.Common.{◌≡◌, ℕ, true, ℤ, pos, Some, Ok, Err, Result, sym, ap, arith}
use Rattle.std.proofs.lemmas.Bool.Decides.{nat_tests}
use Rattle.tier.specs.Laws.{IsLeg}
use Rattle.tier.proofs.Options.{none_some, some_same}
use Rattle.book.specs.Books.{Contents, can_go}
use Rattle.duals.specs.Bottoms.{costing}

pub leg_of : (b : Contents) (i j : ℕ) → can_go b i j ≡ true → IsLeg b.stops i j
leg_of b i j e = record { apart = grind (arith, nat_tests); to = (grind (arith, nat_tests), grind (arith, nat_tests)); from = grind (arith, nat_tests) }

-- the other way
pub of_leg : (b : Contents) (i j : ℕ) → IsLeg b.stops i j → can_go b i j ≡ true
of_leg b i j l =
    let apart = l.apart in
    let first = l.to.0 in
    let last = l.to.1 in
    let from = l.from in
    grind (arith, nat_tests)

pub ok_same : {E S : Type 0} {s t : S} → ◌≡◌ {A = Result S E} (Ok s) (Ok t) → s ≡ t
ok_same e = cc

pub err_ok : {E S : Type 0} {x : E} {t : S} → ◌≡◌ {A = Result S E} (Err x) (Ok t) → ⊥
err_ok e = let z : ◌≡◌ {A = ℕ} 0 1 = cc in omega arith

pub record Costs {E S : Type 0} (c : ℕ) (o : Result S E) (t : S) (x : ℤ) : Type 0 where
  pub was : o ≡ Ok t
  pub cost : x ≡ pos c

pub costs : {E S : Type 0} (c : ℕ) (o : Result S E) (t : S) (x : ℤ) → costing c o ≡ Some (t, x) → Costs c o t x
costs {E} {S} c (Ok s) t x e =
    let q = some_same e in
    record { was = ap Ok (ap (λ (r : S × ℤ). r.0) q); cost = sym (ap (λ (r : S × ℤ). r.1) q) }
costs c (Err f) t x e = absurd (none_some e)
