-- What the gap says in the end: a state can go on as another does, along all that is left, for no more than the gap
-- above. Assumes nothing.
use Rattle.std.proofs.Common.{◌≡◌, ℕ, List, [], ◌∷◌, ℤ, pos, ◌+ℤ◌, ◌≤ℤ◌, Some, ap, ◌∙◌, arith}
use Rattle.std.specs.List.{AllByRecursion}
use Rattle.std.proofs.lemmas.Int.{ints}
use Rattle.stops.specs.Stops.{Stop}
use Rattle.tier.specs.Answers.{Answers, Standing, reached}
use Rattle.tier.specs.Routes.{and_then, plus, replay_from}
use Rattle.tier.specs.Laws.{GapLaws}
use Rattle.tier.proofs.Options.{and_then_some, plus_some}

module _ {S : Type 0} (m : Answers S) (laws : GapLaws m) where
  pub follows_home : (left : List ℕ) (i : ℕ) (a b : S) (g : ℕ) (y : ℤ) → Stop m.stops i → Standing m i a → Standing m i b → m.gap a b ≡ Some g → AllByRecursion (Stop m.stops) left → replay_from m b i left ≡ Some y → (x : ℤ) × (replay_from m a i left ≡ Some x) × (x ≤ℤ (y +ℤ pos g))
  follows_home [] i a b g y at sa sb h stops e = let f = laws.finish_follows i a b g y at sa sb h e in (f.charge, f.finishes, f.small)
  follows_home (j ∷ js) i a b g y at sa sb h stops e =
      let o = and_then_some (m.reach b i j) (λ p. plus p.1 (replay_from m p.0 j js)) y e in
      let t = o.first.0 in
      let c = o.first.1 in
      let q = plus_some c y (replay_from m t j js) o.then in
      let f = laws.reach_follows i j a b t g c at sa sb h o.is in
      let r = follows_home js j f.next t f.width q.rest stops.0 (reached j f.next f.charge sa f.reaches) (reached j t c sb o.is) f.present stops.1 q.is in
      let l1 = f.small in
      let l2 = r.2 in
      let l3 = q.sum in
      (f.charge +ℤ r.0, ap (λ o. and_then o (λ p. plus p.1 (replay_from m p.0 j js))) f.reaches ∙ ap (plus f.charge) r.1, omega (arith, ints))
