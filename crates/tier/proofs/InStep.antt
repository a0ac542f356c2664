-- Two tiers replayed in step: what the one admits the other admits too, and costs more by a weight.
-- Assumes nothing.
use Rattle.std.proofs.Common.{◌≡◌, ℕ, List, [], ◌∷◌, ℤ, ◌+ℤ◌, Some, Option, ap, ◌∙◌, arith}
use Rattle.std.specs.List.{AllByRecursion}
use Rattle.std.proofs.lemmas.Int.{ints}
use Rattle.tier.specs.Answers.{Answers}
use Rattle.tier.specs.Routes.{and_then, plus, replay_from}
use Rattle.tier.specs.Plans.{total}
use Rattle.tier.specs.Sums.{sum_routes}
use Rattle.tier.proofs.Options.{some_same, and_then_some, plus_some}

-- R says which states stand beside each other with these stops still to go; `weight` is what the other then
-- costs more
module _ {S T : Type 0} (b : Answers T) (R : List ℕ → ℕ → S → T → Type 0) (weight : List ℕ → S → T → ℤ) where
  -- from t at i the other goes on to j too, beside u
  pub record Moves (js : List ℕ) (i j : ℕ) (u : S) (t : T) (due : ℤ) : Type 0 where
    pub next : T
    pub charge : ℤ
    pub reaches : b.reach t i j ≡ Some (next, charge)
    pub weighs : charge +ℤ weight js u next ≡ due
    pub beside : R js j u next

  pub record IsInStep (a : Answers S) : Type 0 where
    pub reaches : (js : List ℕ) (i j : ℕ) (s u : S) (t : T) (x : ℤ) → R (j ∷ js) i s t → a.reach s i j ≡ Some (u, x) → Moves js i j u t (x +ℤ weight (j ∷ js) s t)
    pub finishes : (i : ℕ) (s : S) (t : T) (y : ℤ) → R [] i s t → a.finish s i ≡ Some y → b.finish t i ≡ Some (y +ℤ weight [] s t)

module _ {S T : Type 0} (a : Answers S) (b : Answers T) (R : List ℕ → ℕ → S → T → Type 0) (weight : List ℕ → S → T → ℤ) (h : IsInStep b R weight a) where
  pub replay_in_step : (js : List ℕ) (i : ℕ) (s : S) (t : T) (c : ℤ) → R js i s t → replay_from a s i js ≡ Some c → replay_from b t i js ≡ Some (c +ℤ weight js s t)
  replay_in_step [] i s t c p e = h.finishes i s t c p e
  replay_in_step (j ∷ js) i s t c p e =
      let o = and_then_some (a.reach s i j) (λ q. plus q.1 (replay_from a q.0 j js)) c e in
      let u = o.first.0 in
      let x = o.first.1 in
      let q = plus_some x c (replay_from a u j js) o.then in
      let v = h.reaches js i j s u t x p o.is in
      let l = replay_in_step js j u v.next q.rest v.beside q.is in
      let w = v.weighs in
      let z = q.sum in
      ap (λ r. and_then r (λ q. plus q.1 (replay_from b q.0 j js))) v.reaches ∙ ap (plus v.charge) l ∙ ap Some (omega (arith, ints))

-- a cost that differs by a weight on each route differs by their sum
pub total_in_step : (f g : List ℕ → Option ℤ) (w : List ℕ → ℤ) (rs : List (List ℕ)) (c : ℤ) → AllByRecursion (λ r. (x : ℤ) → f r ≡ Some x → g r ≡ Some (x +ℤ w r)) rs → total f rs ≡ Some c → total g rs ≡ Some (c +ℤ sum_routes w rs)
total_in_step f g w [] c a e = ap Some (let s = some_same e in omega (arith, ints))
total_in_step f g w (r ∷ rs) c a e =
    let o = and_then_some (f r) (λ x. plus x (total f rs)) c e in
    let x = o.first in
    let q = plus_some x c (total f rs) o.then in
    let l = total_in_step f g w rs q.rest a.1 q.is in
    let z = q.sum in
    ap (λ r. and_then r (λ x. plus x (total g rs))) (a.0 x o.is) ∙ ap (plus (x +ℤ w r)) l ∙ ap Some (omega (arith, ints))

pub all_map : {X : Type 0} (P Q : X → Type 0) (xs : List X) → ((x : X) → P x → Q x) → AllByRecursion P xs → AllByRecursion Q xs
all_map P Q [] f a = tt
all_map P Q (x ∷ xs) f a = (f x a.0, all_map P Q xs f a.1)
