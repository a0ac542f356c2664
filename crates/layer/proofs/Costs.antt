-- What a layer adds to the cost of plans and of routes. Assumes nothing.
use Rattle.std.proofs.Common.{◌≡◌, ℕ, ◌+◌, ◌≤◌, List, [], ◌∷◌, ℤ, pos, ◌+ℤ◌, Some, None, Option, sym, refl, ap, ◌∙◌, arith}
use Rattle.std.proofs.lemmas.Int.{ints}
use Rattle.tier.specs.Answers.{Answers}
use Rattle.tier.specs.Routes.{and_then, plus, reduced_cost}
use Rattle.tier.specs.Plans.{total}
use Rattle.tier.specs.Laws.{SizeLaws, PlansPay, NoCheaper, most_tiers}
use Rattle.tier.specs.Layers.{higher}
use Rattle.tier.proofs.Options.{none_some, some_same, and_then_some, plus_some}
use Rattle.tier.proofs.Layers.{fewer_below}
use Rattle.layer.specs.Owns.{Own, OwnLaws, WalksNoCheaper, add, walk, walks}
use Rattle.layer.specs.Layers.{Pairing, over}
use Rattle.layer.proofs.Replays.{cost_splits, cost_joins}

-- a sum of x and something that is there
record Added (x : ℕ) (w : Option ℕ) (z : ℕ) : Type 0 where
  rest : ℕ
  is : w ≡ Some rest
  sum : z ≡ x + rest

add_some : (x z : ℕ) (w : Option ℕ) → add x w ≡ Some z → Added x w z
add_some x z None e = absurd (none_some e)
add_some x z (Some y) e = record { rest = y; is = refl; sum = sym (some_same e) }

module _ {S M T : Type 0} (pair : Pairing S M T) (m : Answers S) (o : Own M) (few : higher m.tiers ≤ most_tiers) (sizes : SizeLaws m) (own : OwnLaws m.stops o) where
  -- routes that are walked, and admitted below, the layer admits for the sum
  total_joins : (rs : List (List ℕ)) (f : ℕ) (c : ℤ) → walks o rs ≡ Some f → total (reduced_cost m) rs ≡ Some c → total (reduced_cost (over pair m o)) rs ≡ Some (pos f +ℤ c)
  total_joins [] f c walked admitted = ap Some (let p = some_same walked in let q = some_same admitted in omega (arith, ints))
  total_joins (r ∷ rs) f c walked admitted =
      let w = and_then_some (walk o o.first r) (λ x. add x (walks o rs)) f walked in
      let more_charges = add_some w.first f (walks o rs) w.then in
      let a = and_then_some (reduced_cost m r) (λ x. plus x (total (reduced_cost m) rs)) c admitted in
      let more_cost = plus_some a.first c (total (reduced_cost m) rs) a.then in
      let here = cost_joins pair m o few sizes own r w.first a.first w.is a.is in
      let rest = total_joins rs more_charges.rest more_cost.rest more_charges.is more_cost.is in
      let p = more_charges.sum in
      let q = more_cost.sum in
      ap (λ x. and_then x (λ y. plus y (total (reduced_cost (over pair m o)) rs))) here ∙ ap (plus (pos w.first +ℤ a.first)) rest ∙ ap Some (omega (arith, ints))

  -- plans pay on the layer: the own charges of a plan are at most the penalties
  pub over_plans : (ground_of : List ℕ → Option ℤ) → PlansPay m ground_of → PlansPay (over pair m o) ground_of
  over_plans ground_of l _ vans rs cost plan =
      let p = l (fewer_below m.tiers few) vans rs cost plan in
      let w = own.plan_walks rs plan.routes plan.once in
      let small = w.small in
      let at_most = p.at_most in
      record {
        sum = pos w.charges +ℤ p.sum;
        admitted = total_joins rs w.charges p.sum w.walked p.admitted;
        at_most = omega (arith, ints);
      }

  -- where neither the own walk nor the tier below gets cheaper, the layer does not
  pub over_no_cheaper : (n : Answers S) (p : Own M) → WalksNoCheaper o p → NoCheaper m n → NoCheaper (over pair m o) (over pair n p)
  over_no_cheaper n p WalksMore costs_more r c route e =
      let k = cost_splits pair n p r c e in
      let w = WalksMore r k.charges k.walked in
      let b = costs_more r k.cost route k.replayed in
      let less = w.2 in
      let cheaper = b.2 in
      let sum = k.sum in
      (pos w.0 +ℤ b.0, cost_joins pair m o few sizes own r w.0 b.0 w.1 b.1, omega (arith, ints))

-- nothing changed, nothing cheaper
pub same_walks : {M : Type 0} (o : Own M) → WalksNoCheaper o o
same_walks o r f e = (f, e, omega arith)

pub same_costs : {S : Type 0} (m : Answers S) → NoCheaper m m
same_costs m r c route e = (c, e, omega (arith, ints))
