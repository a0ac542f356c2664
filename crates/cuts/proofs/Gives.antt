-- What set and tighten give in each case. Assumes nothing.
use Rattle.std.proofs.Common.{◌≡◌, ℕ, ◌<◌, true, false, eqb, ltb, List, length, set, ℤ, Ok, Err, Result, sym, refl, ◌∙◌, subst}
use Rattle.std.proofs.lemmas.Bool.{lt-ltb, eq-eqb, cond-true, cond-false}
use Rattle.tier.specs.Meaning.{Outcome, taken, refused, lifted}
use Rattle.tier.specs.Layers.{own_or_below}
use Rattle.tier.specs.Refusals.{number, Did}
use Rattle.tier.specs.declared.refusal.Refusal.{Refusal}
use Rattle.tier.proofs.Outcomes.{did_lifted}
use Rattle.layer.specs.Layers.{layer_at}
use Rattle.cuts.specs.declared.cut.Cut.{Cut}
use Rattle.cuts.specs.Cuts.{cut_at}
use Rattle.cuts.specs.Tables.{in_range, reprice, set_penalty}

-- a call that is refused
pub did_refused : {V : Type 0} (o : Outcome V) (v : V) (e : Refusal) → o ≡ refused (number e) → Did o v (Err e) v
did_refused o v e q = subst (λ o. Did o v (Err e) v) (sym q) (refl, refl)

-- a call that is taken
pub did_taken : {V : Type 0} (o : Outcome V) (v w after : V) → o ≡ taken w → after ≡ w → Did o v (Ok tt) after
did_taken o v w after q e = subst (λ o. Did o v (Ok tt) after) (sym q) e

-- a call that is the layer's own, made on its table
pub did_own : {V Table : Type 0} (v : V) (t : Table) (o : Outcome Table) (down : Outcome V) (tiers tier : ℕ) (r : Result (Unit {0}) Refusal) (after : Table) → tier ≡ tiers → Did o t r after → Did (own_or_below tiers tier (lifted (layer_at v) o) (lifted (λ w. layer_at w t) down)) (layer_at v t) r (layer_at v after)
did_own v t o down tiers tier r after e d =
    subst (λ p. Did p (layer_at v t) r (layer_at v after)) (sym (cond-true (eqb tier tiers) (lifted (layer_at v) o) (lifted (λ w. layer_at w t) down) (eq-eqb _ _ e)))
    (did_lifted (layer_at v) o t r after d)

module _ (cs : List Cut) (index : ℕ) (amount : ℤ) where
  pub set_bad_amount : index < length cs → in_range amount ≡ false → set_penalty cs index amount ≡ refused 9
  set_bad_amount l e = cond-true (ltb index (length cs)) _ _ (lt-ltb _ _ l) ∙ cond-false (in_range amount) _ _ e

  pub set_taken : index < length cs → in_range amount ≡ true → set_penalty cs index amount ≡ taken (set cs index (reprice (cut_at cs index) amount))
  set_taken l e = cond-true (ltb index (length cs)) _ _ (lt-ltb _ _ l) ∙ cond-true (in_range amount) _ _ e
