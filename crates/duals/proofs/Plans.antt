-- The plans of a bottom: the duals that a plan is spared are those of all stops, each once.
use Rattle.std.proofs.Common.{◌≡◌, ℕ, List, [], ◌∷◌, ℤ, pos, ◌+ℤ◌, ◌-ℤ◌, neg_ℤ, Some, None, Option, sym, refl, ap, ◌∙◌, subst, arith}
use Rattle.std.proofs.lemmas.Int.{ints}
use Rattle.tier.specs.Routes.{Route, reduced_cost}
use Rattle.tier.specs.Sums.{sum_over, sum_routes}
use Rattle.tier.specs.Laws.{PlansPay}
use Rattle.tier.proofs.Options.{none_some, some_same}
use Rattle.tier.proofs.InStep.{IsInStep, replay_in_step, total_in_step, all_map}
use Rattle.tier.proofs.Counts.{sum_once}
use Rattle.duals.specs.Bottoms.{Base, less_dual, with_duals, plain}

-- WHAT IT SAYS THAT A LEG IS CHARGED LESS ITS DUAL

pub record Lessened {S : Type 0} (dual : ℤ) (o : Option (S × ℤ)) (t : S) (y : ℤ) : Type 0 where
  pub cost : ℤ
  pub was : o ≡ Some (t, cost)
  pub charged : y ≡ cost -ℤ dual

pub lessened : {S : Type 0} (dual : ℤ) (o : Option (S × ℤ)) (t : S) (y : ℤ) → less_dual dual o ≡ Some (t, y) → Lessened dual o t y
lessened dual None t y e = absurd (none_some e)
lessened {S} dual (Some p) t y e =
    let q = some_same e in
    record {
      cost = p.1;
      was = ap (λ s. Some (s, p.1)) (ap (λ (r : S × ℤ). r.0) q);
      charged = sym (ap (λ (r : S × ℤ). r.1) q);
    }

pub lessen : {S : Type 0} (dual : ℤ) (o : Option (S × ℤ)) (t : S) (x y : ℤ) → o ≡ Some (t, x) → y ≡ x -ℤ dual → less_dual dual o ≡ Some (t, y)
lessen dual o t x y e f = ap (less_dual dual) e ∙ ap (λ z. Some (t, z)) (sym f)

-- with all duals 0 it is the cost
pub plain_was : {S : Type 0} (o : Option (S × ℤ)) (t : S) (y : ℤ) → less_dual (pos 0) o ≡ Some (t, y) → o ≡ Some (t, y)
plain_was o t y e =
    let l = lessened (pos 0) o t y e in
    let c = l.charged in
    l.was ∙ ap (λ z. Some (t, z)) (omega (arith, ints))

pub plain_is : {S : Type 0} (o : Option (S × ℤ)) (t : S) (y : ℤ) → o ≡ Some (t, y) → less_dual (pos 0) o ≡ Some (t, y)
plain_is o t y e = lessen (pos 0) o t y y e (omega (arith, ints))

-- PLANS

negated : (f : List ℕ → ℤ) (rs : List (List ℕ)) → sum_routes (λ r. neg_ℤ (f r)) rs ≡ neg_ℤ (sum_routes f rs)
negated f [] = refl
negated f (r ∷ rs) = let h = negated f rs in omega (arith, ints)

module _ {S : Type 0} (b : Base S) (dual : ℕ → ℤ) where
  -- the same state, whatever is still to go
  abbrev Alike : List ℕ → ℕ → S → S → Type 0
  Alike js i s t = s ≡ t

  -- what is still to go costs the duals of its stops less
  abbrev spared : List ℕ → S → S → ℤ
  spared js s t = neg_ℤ (sum_over dual js)

  in_step : IsInStep (with_duals b dual) Alike spared (plain b)
  in_step = record {
    reaches = λ js i j s u t x p e.
        record {
          next = u;
          charge = x -ℤ dual j;
          reaches = subst (λ s. (with_duals b dual).reach s i j ≡ Some (u, x -ℤ dual j)) p (lessen (dual j) (b.reach s i j) u x (x -ℤ dual j) (plain_was (b.reach s i j) u x e) refl);
          weighs = omega (arith, ints);
          beside = refl;
        };
    finishes = λ i s t y p e. subst (λ s. b.finish s i ≡ Some y) p e ∙ ap Some (omega (arith, ints));
  }

  route_spared : (r : List ℕ) (c : ℤ) → reduced_cost (plain b) r ≡ Some c → reduced_cost (with_duals b dual) r ≡ Some (c +ℤ neg_ℤ (sum_over dual r))
  route_spared r c e = replay_in_step (plain b) (with_duals b dual) Alike spared in_step r 0 b.start b.start c refl e

  -- every plan is admitted, and its reduced costs are its leg costs less the credit
  pub plans_pay : PlansPay (with_duals b dual) (reduced_cost (plain b))
  plans_pay few vans rs cost p =
      let e = total_in_step (reduced_cost (plain b)) (reduced_cost (with_duals b dual)) (λ r. neg_ℤ (sum_over dual r)) rs cost (all_map (Route b.stops) _ rs (λ r a. route_spared r) p.routes) p.costs in
      let n = negated (sum_over dual) rs in
      let s = sum_once b.stops dual rs p.routes p.once in
      record {
        sum = cost +ℤ sum_routes (λ r. neg_ℤ (sum_over dual r)) rs;
        admitted = e;
        at_most = omega (arith, ints);
      }
