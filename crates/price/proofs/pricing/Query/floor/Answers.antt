use Rattle.std.proofs.Common.{◌≡◌, ◌*◌, ◌^◌, ◌≤◌, ℤ, pos, ◌+ℤ◌, ◌*ℤ◌, nat_abs, ap, ◌∙◌, arith, w64, to_z, of_z}
use Rattle.std.specs.Int.{int_min}
use Rattle.std.proofs.lemmas.Int.{ints}
use Rattle.tier.specs.Meaning.{here}
use Rattle.price.proofs.Sizes.{times_small, lesser_small}
use Rattle.price.proofs.pricing.Query.floor.Given as given
use Rattle.price.proofs.pricing.Query.floor.Goals as goal
use Rattle.price.proofs.pricing.Query.floor.Goals.{After-lesser}

-- the vans times the lesser of 0 and the lowest
abbrev part : (g : given.Over) (c : After-lesser g) → ℤ
part g c = pos c.args.self.now.vans *ℤ int_min (pos 0) c.args.cost

record Parts (g : given.Over) (c : After-lesser g) : Type 0 where
  small : nat_abs (part g c) ≤ 60 * 2 ^ 50
  is : to_z w64 c.args.self.now.vans *ℤ to_z w64 (of_z w64 c.lesser.result) ≡ part g c
  credit : nat_abs c.credit.result ≤ 2 ^ 38

parts : (g : given.Over) (c : After-lesser g) → Parts g c
parts g c =
    let m = g.T.Tier.meaning.answers (g.T.Tier.value c.args.self.now.pile.now) in
    let l = g.met.T.Tier.lawful c.args.self.now.pile.now (g.T.Tier.value c.args.self.now.pile.now) here in
    let v = c.args.self.now.fleet in
    let s = c.requires in
    let a = c.lesser.ensures in
    let u : to_z w64 c.args.self.now.vans ≡ pos c.args.self.now.vans = omega (arith, ints) in
    let e : to_z w64 (of_z w64 c.args.cost) ≡ c.args.cost = omega (arith, ints) in
    let r : c.lesser.result ≡ int_min (pos 0) c.args.cost = a ∙ ap (int_min (pos 0)) e in
    let n = lesser_small c.args.cost (2 ^ 50) s in
    let w : to_z w64 (of_z w64 (int_min (pos 0) c.args.cost)) ≡ int_min (pos 0) c.args.cost = omega (arith, ints) in
    let few = c.args.self.now.few in
    let d = l.sizes.credit_small few in
    let k = c.credit.ensures in
    record {
      small = times_small c.args.self.now.vans (int_min (pos 0) c.args.cost) v n;
      is = ap (λ x. x *ℤ to_z w64 (of_z w64 c.lesser.result)) u ∙ ap (λ x. pos c.args.self.now.vans *ℤ x) (ap (λ z. to_z w64 (of_z w64 z)) r ∙ w);
      credit = rw k (omega arith);
    }

pub overflow_add-result : goal.overflow_add-result
overflow_add-result g c = let p = parts g c in let s = p.small in let d = p.credit in rw p.is (omega (arith, ints))

pub returns : goal.returns
returns g c =
    let p = parts g c in
    let s = p.small in
    let d = p.credit in
    let z : to_z w64 (of_z w64 (to_z w64 (of_z w64 c.credit.result) +ℤ to_z w64 (of_z w64 (part g c)))) ≡ c.credit.result +ℤ part g c = omega (arith, ints) in
    ap (λ x. to_z w64 (of_z w64 (to_z w64 (of_z w64 c.credit.result) +ℤ to_z w64 (of_z w64 x)))) p.is ∙ z ∙ ap (λ x. x +ℤ part g c) c.credit.ensures
