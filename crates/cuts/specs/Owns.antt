-- What a layer of cuts adds keeps the laws of an own part. Assumes nothing.
use Rattle.std.specs.Prelude.{◌≡◌, ℕ, ◌+◌, ◌^◌, ◌<◌, ◌≤◌, Bool, true, false, cond, not, ◌&&◌, List, [], ◌∷◌, length, Some, refl}
use Rattle.std.proofs.Common.{sym, ap, subst, ◌∙◌, arith}
use Rattle.std.specs.List.{AllByRecursion}
use Rattle.stops.specs.Stops.{Stop, member}
use Rattle.stops.proofs.Members.{none_in_empty}
use Rattle.tier.specs.Routes.{Route, and_then}
use Rattle.tier.specs.Plans.{visits}
use Rattle.tier.proofs.Options.{some_same}
use Rattle.layer.specs.Owns.{OwnLaws, WalksNoCheaper, walk, walks, add}
use Rattle.cuts.specs.declared.bits.Bits.{Bits}
use Rattle.cuts.specs.declared.cut.Cut.{Cut}
use Rattle.cuts.specs.Bits.{stands, no_bits, sum_below}
use Rattle.cuts.specs.Cuts.{next_bit, fee, lag, cut_at, bits_after, charge_at, gap_between, penalties_of, cuts_own}
use Rattle.cuts.specs.Tables.{Good}
use Rattle.cuts.specs.Sums.{sum_le, sum_same, sum_plus, sum_zero, sum_most, sum_longer}
use Rattle.cuts.specs.Marks.{stands_where}
use Rattle.cuts.specs.Walks.{pays, Wider, wider_pays}
use Rattle.cuts.specs.Plans.{pays_over, plan_pays}

-- ONE CUT

lag_itself : (c : Cut) (a : Bool) → lag c a a ≡ 0
lag_itself c true = refl
lag_itself c false = refl

lag_through : (c : Cut) (x y z : Bool) → lag c x z ≤ lag c x y + lag c y z
lag_through c true true z = omega arith
lag_through c true false true = omega arith
lag_through c true false false = omega arith
lag_through c false y z = omega arith

-- the fee with the lag after it is no more behind than the lag before it
follows : (p : ℕ) (inside own a b : Bool) → cond (own && (inside && a)) p 0 + cond (cond own (not (inside && a)) (inside && a) && not (cond own (not (inside && b)) (inside && b))) p 0 ≤ cond (own && (inside && b)) p 0 + cond (a && not b) p 0
follows p true true true true = omega arith
follows p true true true false = omega arith
follows p true true false true = omega arith
follows p true true false false = omega arith
follows p true false true true = omega arith
follows p true false true false = omega arith
follows p true false false true = omega arith
follows p true false false false = omega arith
follows p false true a b = omega arith
follows p false false a b = omega arith

lag_follows : (c : Cut) (j : ℕ) (a b : Bool) → fee c j a + lag c (next_bit c j a) (next_bit c j b) ≤ fee c j b + lag c a b
lag_follows c j a b = follows c.penalty (member c.memory.word j) (member c.stops.word j) a b

some_penalty : (b : Bool) (p : ℕ) → cond b p 0 ≤ p
some_penalty true p = omega arith
some_penalty false p = omega arith

module _ (cs : List Cut) where
  -- the bit of a cut after a step
  after_bit : (j : ℕ) (bits : Bits) (k : ℕ) → k < length cs → stands (bits_after cs j bits) k ≡ next_bit (cut_at cs k) j (stands bits k)
  after_bit j bits k l = stands_where (λ k. next_bit (cut_at cs k) j (stands bits k)) (length cs) k l

  -- GAPS

  gap_itself : (a : Bits) → gap_between cs a a ≡ 0
  gap_itself a = sum_zero (λ k. lag (cut_at cs k) (stands a k) (stands a k)) (length cs) (λ k l. lag_itself (cut_at cs k) (stands a k))

  gap_through : (a b c : Bits) → gap_between cs a c ≤ gap_between cs a b + gap_between cs b c
  gap_through a b c =
      let f : ℕ → ℕ = λ k. lag (cut_at cs k) (stands a k) (stands b k) in
      let g : ℕ → ℕ = λ k. lag (cut_at cs k) (stands b k) (stands c k) in
      let s = sum_plus f g (length cs) in
      let l = sum_le (λ k. lag (cut_at cs k) (stands a k) (stands c k)) (λ k. f k + g k) (length cs) (λ k l. lag_through (cut_at cs k) (stands a k) (stands b k) (stands c k)) in
      omega arith

  gap_follows : (j : ℕ) (a b : Bits) → charge_at cs j a + gap_between cs (bits_after cs j a) (bits_after cs j b) ≤ charge_at cs j b + gap_between cs a b
  gap_follows j a b =
      let fa : ℕ → ℕ = λ k. fee (cut_at cs k) j (stands a k) in
      let fb : ℕ → ℕ = λ k. fee (cut_at cs k) j (stands b k) in
      let before : ℕ → ℕ = λ k. lag (cut_at cs k) (stands a k) (stands b k) in
      let after : ℕ → ℕ = λ k. lag (cut_at cs k) (next_bit (cut_at cs k) j (stands a k)) (next_bit (cut_at cs k) j (stands b k)) in
      let s = sum_plus fa after (length cs) in
      let t = sum_plus fb before (length cs) in
      let l = sum_le (λ k. fa k + after k) (λ k. fb k + before k) (length cs) (λ k l. lag_follows (cut_at cs k) j (stands a k) (stands b k)) in
      let e : gap_between cs (bits_after cs j a) (bits_after cs j b) ≡ sum_below after (length cs) = sum_same (λ k. lag (cut_at cs k) (stands (bits_after cs j a) k) (stands (bits_after cs j b) k)) after (length cs) (λ k l. ap (λ x. lag (cut_at cs k) x (stands (bits_after cs j b) k)) (after_bit j a k l) ∙ ap (λ y. lag (cut_at cs k) (next_bit (cut_at cs k) j (stands a k)) y) (after_bit j b k l)) in
      omega arith

  -- SIZES

  pub gap_small : (a b : Bits) → gap_between cs a b ≤ penalties_of cs
  gap_small a b = sum_le (λ k. lag (cut_at cs k) (stands a k) (stands b k)) (λ k. (cut_at cs k).penalty) (length cs) (λ k l. some_penalty (stands a k && not (stands b k)) (cut_at cs k).penalty)

  pub charge_small : (j : ℕ) (bits : Bits) → charge_at cs j bits ≤ penalties_of cs
  charge_small j bits = sum_le (λ k. fee (cut_at cs k) j (stands bits k)) (λ k. (cut_at cs k).penalty) (length cs) (λ k l. some_penalty _ (cut_at cs k).penalty)

  pub penalties_small : {n : ℕ} → Good n cs → penalties_of cs ≤ 2 ^ 35
  penalties_small g = let s = sum_most (λ k. (cut_at cs k).penalty) (2 ^ 30) (length cs) g.cheap in let f = g.few in omega arith

  -- WALKS

  abbrev fare : Bits → List ℕ → ℕ
  fare bits [] = 0
  fare bits (j ∷ js) = charge_at cs j bits + fare (bits_after cs j bits) js

  walk_is : (bits : Bits) (r : List ℕ) → walk (cuts_own cs) bits r ≡ Some (fare bits r)
  walk_is bits [] = refl
  walk_is bits (j ∷ js) = ap (add (charge_at cs j bits)) (walk_is (bits_after cs j bits) js)

  -- cut by cut
  fare_sum : (bits : Bits) (r : List ℕ) → fare bits r ≡ sum_below (λ k. pays (cut_at cs k) (stands bits k) r) (length cs)
  fare_sum bits [] = sym (sum_zero (λ k. 0) (length cs) (λ k l. refl))
  fare_sum bits (j ∷ js) =
      let first : ℕ → ℕ = λ k. fee (cut_at cs k) j (stands bits k) in
      let rest : ℕ → ℕ = λ k. pays (cut_at cs k) (next_bit (cut_at cs k) j (stands bits k)) js in
      let h = fare_sum (bits_after cs j bits) js in
      let s = sum_plus first rest (length cs) in
      let e = sum_same (λ k. pays (cut_at cs k) (stands (bits_after cs j bits) k) js) rest (length cs) (λ k l. ap (λ b. pays (cut_at cs k) b js) (after_bit j bits k l)) in
      omega arith

  -- from the depot
  pub first_fare : (r : List ℕ) → fare no_bits r ≡ sum_below (λ k. pays (cut_at cs k) false r) (length cs)
  first_fare r = fare_sum no_bits r ∙ sum_same (λ k. pays (cut_at cs k) (stands no_bits k) r) (λ k. pays (cut_at cs k) false r) (length cs) (λ k l. ap (λ b. pays (cut_at cs k) b r) (none_in_empty k))

  abbrev fares : List (List ℕ) → ℕ
  fares [] = 0
  fares (r ∷ rs) = fare no_bits r + fares rs

  walks_is : (rs : List (List ℕ)) → walks (cuts_own cs) rs ≡ Some (fares rs)
  walks_is [] = refl
  walks_is (r ∷ rs) = ap (λ o. and_then o (λ x. add x (walks (cuts_own cs) rs))) (walk_is no_bits r) ∙ ap (add (fare no_bits r)) (walks_is rs)

  fares_sum : (rs : List (List ℕ)) → fares rs ≡ sum_below (λ k. pays_over (cut_at cs k) rs) (length cs)
  fares_sum [] = sym (sum_zero (λ k. 0) (length cs) (λ k l. refl))
  fares_sum (r ∷ rs) =
      let h = fares_sum rs in
      let f = first_fare r in
      let s = sum_plus (λ k. pays (cut_at cs k) false r) (λ k. pays_over (cut_at cs k) rs) (length cs) in
      omega arith

  plan_small : (n : ℕ) (rs : List (List ℕ)) → Good n cs → AllByRecursion (Route n) rs → ((j : ℕ) → Stop n j → visits j rs ≡ 1) → fares rs ≤ penalties_of cs
  plan_small n rs g a once =
      let e = fares_sum rs in
      let l = sum_le (λ k. pays_over (cut_at cs k) rs) (λ k. (cut_at cs k).penalty) (length cs) (λ k l. plan_pays (cut_at cs k) n rs (g.sparse k n) a once) in
      omega arith

  pub own_laws : (n : ℕ) → Good n cs → OwnLaws n (cuts_own cs)
  own_laws n g = record {
    behind_itself = λ m. ap Some (gap_itself m);
    behind_through = λ a b c u v e f.
        record {
          width = gap_between cs a c;
          present = refl;
          small = let t = gap_through a b c in let p = some_same e in let q = some_same f in omega arith;
        };
    step_follows = λ j a b t u y e f.
        record {
          next = bits_after cs j a;
          charge = charge_at cs j a;
          steps = refl;
          width = gap_between cs (bits_after cs j a) t;
          present = refl;
          small =
              let l = gap_follows j a b in
              let p = some_same e in
              let q = some_same f in
              let s = ap (λ (z : Bits × ℕ). gap_between cs (bits_after cs j a) z.0) q in
              let c = ap (λ (z : Bits × ℕ). z.1) q in
              omega arith;
        };
    step_small = λ j m t x e.
        let s = charge_small j m in
        let c = ap (λ (z : Bits × ℕ). z.1) (some_same e) in
        let p = penalties_small g in
        omega arith;
    behind_small = λ a b u e. let s = gap_small a b in let q = some_same e in let p = penalties_small g in omega arith;
    penalties_small = penalties_small g;
    plan_walks = λ rs a once. record { charges = fares rs; walked = walks_is rs; small = plan_small n rs g a once };
  }

-- MORE CUTS, AND LARGER MEMORIES

-- every cut in its place, grown or as it was; others may follow
pub record Grown (cs ds : List Cut) : Type 0 where
  pub longer : length cs ≤ length ds
  pub wider : (k : ℕ) → k < length cs → Wider (cut_at cs k) (cut_at ds k)

fare_grown : (cs ds : List Cut) (r : List ℕ) → Grown cs ds → fare cs no_bits r ≤ fare ds no_bits r
fare_grown cs ds r g =
    let e = first_fare cs r in
    let f = first_fare ds r in
    let l = sum_le (λ k. pays (cut_at cs k) false r) (λ k. pays (cut_at ds k) false r) (length cs) (λ k l. wider_pays (cut_at cs k) (cut_at ds k) (g.wider k l) r) in
    let m = sum_longer (λ k. pays (cut_at ds k) false r) (length cs) (length ds) g.longer in
    omega arith

pub grown_no_cheaper : (cs ds : List Cut) → Grown cs ds → WalksNoCheaper (cuts_own cs) (cuts_own ds)
grown_no_cheaper cs ds g r f e = (fare cs no_bits r, walk_is cs no_bits r, subst (λ (z : ℕ). fare cs no_bits r ≤ z) (some_same (sym (walk_is ds no_bits r) ∙ e)) (fare_grown cs ds r g))
