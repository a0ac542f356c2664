-- What a call gives, and what it did. Assumes nothing.
use Rattle.std.proofs.Common.{◌≡◌, ℕ, Ok, Err, Result, refl, ap}
use Rattle.tier.specs.Meaning.{Outcome, taken, refused, lifted}
use Rattle.tier.specs.Refusals.{Did}
use Rattle.tier.specs.declared.refusal.Refusal.{Refusal}

pub taken_same : {V : Type 0} {v w : V} → taken v ≡ taken w → v ≡ w
taken_same e = cc

pub refused_taken : {V : Type 0} {n : ℕ} {w : V} → refused n ≡ taken w → ⊥
refused_taken e = cc

-- what was taken inside
pub record TakenInside {V W : Type 0} (f : V → W) (o : Outcome V) (w : W) : Type 0 where
  pub value : V
  pub is : o ≡ taken value
  pub same : f value ≡ w

pub lifted_taken : {V W : Type 0} (f : V → W) (o : Outcome V) (w : W) → lifted f o ≡ taken w → TakenInside f o w
lifted_taken f (taken v) w e = record { value = v; is = refl; same = taken_same e }
lifted_taken f (refused n) w e = absurd (refused_taken e)

-- what a call did to a value that stands inside a larger one, it did to the larger
pub did_lifted : {V W : Type 0} (f : V → W) (o : Outcome V) (before : V) (r : Result (Unit {0}) Refusal) (after : V) → Did o before r after → Did (lifted f o) (f before) r (f after)
did_lifted f (taken v) before (Ok u) after d = ap f d
did_lifted f (taken v) before (Err e) after d = d
did_lifted f (refused n) before (Ok u) after d = d
did_lifted f (refused n) before (Err e) after d = (d.0, ap f d.1)
