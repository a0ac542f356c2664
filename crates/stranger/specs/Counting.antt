-- The counting bottom keeps the laws. Assumes nothing.
use Rattle.std.specs.Prelude.{◌≡◌, ℕ, ◌+◌, ◌<◌, ◌≤◌, Bool, true, false, cond, ◌||◌, ℤ, pos, Some, None, Option, ◌==◌, nat_le, nat_lt, refl}
use Rattle.std.proofs.Common.{sym, ap, arith}
use Rattle.std.proofs.lemmas.Int.{ints}
use Rattle.std.proofs.lemmas.Bool.Decides.{nat_tests}
use Rattle.stops.specs.Stops.{Stop, most_stops}
use Rattle.tier.specs.Answers.{Standing, at_depot, reached}
use Rattle.tier.specs.Meaning.{here, by_set, by_tighten, taken, refused}
use Rattle.tier.specs.Laws.{IsLeg, Interface, GapLaws, SizeLaws, KeyLaws, Laws, Lawful}
use Rattle.tier.proofs.Options.{none_some, some_same}
use Rattle.tier.proofs.Outcomes.{refused_taken}
use Rattle.stranger.specs.declared.counts.Count.{Count}
use Rattle.stranger.specs.Counter.{Limits, no_leg, full, one_more, fare, count_reach, count_finish, count_gap, count_answers, never, counter}

-- what it says that s reaches t
record Reached (v : Limits) (s : Count) (i j : ℕ) (t : Count) (x : ℤ) : Type 0 where
  leg : IsLeg v.stops i j
  room : s.made < v.most
  next : t.made ≡ s.made + 1
  charge : x ≡ fare j

reach_says : (v : Limits) (s t : Count) (i j : ℕ) (x : ℤ) → count_reach v s i j ≡ Some (t, x) → Reached v s i j t x
reach_says v s t i j x e = by (no_leg v.stops i j || full v s) refl e
  where
    by : (b : Bool) → (no_leg v.stops i j || full v s) ≡ b → cond {A = Option (Count × ℤ)} b None (Some (one_more s, fare j)) ≡ Some (t, x) → Reached v s i j t x
    by true f e = absurd (none_some e)
    by false f e =
        let q = some_same e in
        record {
          leg = record { apart = grind (arith, nat_tests); to = (grind (arith, nat_tests), grind (arith, nat_tests)); from = grind (arith, nat_tests) };
          room = grind (arith, nat_tests);
          next = sym (ap (λ (r : Count × ℤ). r.0.made) q);
          charge = sym (ap (λ (r : Count × ℤ). r.1) q);
        }

reaches : (v : Limits) (s : Count) (i j : ℕ) → IsLeg v.stops i j → s.made < v.most → count_reach v s i j ≡ Some (one_more s, fare j)
reaches v s i j leg room =
    let a = leg.apart in
    let b = leg.to in
    let c = leg.from in
    let e : (no_leg v.stops i j || full v s) ≡ false = grind (arith, nat_tests) in
    rw e

-- what it says that the way home is there
record Finished (v : Limits) (i : ℕ) (x : ℤ) : Type 0 where
  stop : Stop v.stops i
  charge : x ≡ pos 5

finish_says : (v : Limits) (i : ℕ) (x : ℤ) → count_finish v i ≡ Some x → Finished v i x
finish_says v i x e = by (i == 0 || nat_lt v.stops i) refl e
  where
    by : (b : Bool) → (i == 0 || nat_lt v.stops i) ≡ b → cond {A = Option ℤ} b None (Some (pos 5)) ≡ Some x → Finished v i x
    by true f e = absurd (none_some e)
    by false f e = record { stop = (grind (arith, nat_tests), grind (arith, nat_tests)); charge = sym (some_same e) }

record Ahead (a b : Count) (g : ℕ) : Type 0 where
  none : g ≡ 0
  fewer : a.made ≤ b.made

gap_says : (a b : Count) (g : ℕ) → count_gap a b ≡ Some g → Ahead a b g
gap_says a b g e = by (nat_le a.made b.made) refl e
  where
    by : (t : Bool) → nat_le a.made b.made ≡ t → cond {A = Option ℕ} t (Some 0) None ≡ Some g → Ahead a b g
    by true f e = record { none = sym (some_same e); fewer = grind (arith, nat_tests) }
    by false f e = absurd (none_some e)

gap_is : (a b : Count) → a.made ≤ b.made → count_gap a b ≡ Some 0
gap_is a b h = grind (arith, nat_tests)

module _ (v : Limits) (few : v.stops ≤ most_stops) (short : v.most ≤ 255) where
  made_at_most : (i : ℕ) (s : Count) → Standing (count_answers v) i s → s.made ≤ v.most
  made_at_most i s at_depot = omega arith
  made_at_most i s (reached {i = h} {s = b} j t x st e) = let r = reach_says v b t h j x e in omega arith

  interface : Interface (count_answers v)
  interface = record {
    reach_is_leg = λ s t i j x e. (reach_says v s t i j x e).leg;
    finish_from_stop = λ s i x e. (finish_says v i x e).stop;
    shut_over_four = λ deep. absurd (omega arith);
  }

  gaps : GapLaws (count_answers v)
  gaps = record {
    gap_to_itself = λ i a stop p. gap_is a a (omega arith);
    gap_through = λ i a b c g h stop p q r e f.
        let u = gap_says a b g e in
        let w = gap_says b c h f in
        record { width = 0; present = gap_is a c (omega arith); small = omega arith };
    reach_follows = λ i j a b t g y stop p q e f.
        let u = gap_says a b g e in
        let w = reach_says v b t i j y f in
        let x = w.charge in
        record {
          next = one_more a;
          charge = fare j;
          reaches = reaches v a i j w.leg (omega arith);
          width = 0;
          present = gap_is (one_more a) t (omega arith);
          small = omega (arith, ints);
        };
    finish_follows = λ i a b g y stop p q e f.
        record { charge = y; finishes = f; small = omega (arith, ints) };
  }

  sizes : SizeLaws (count_answers v)
  sizes = record {
    few_stops = few;
    reach_small = λ _ i j s t x p e.
        let r = reach_says v s t i j x e in
        let to = r.leg.to in
        let c = r.charge in
        omega (arith, ints);
    finish_small = λ _ i s x p e. let c = (finish_says v i x e).charge in omega (arith, ints);
    gap_small = λ _ i a b g stop p q e. let n = (gap_says a b g e).none in omega (arith, ints);
    credit_small = λ _. omega (arith, ints);
  }

  keys : KeyLaws (count_answers v)
  keys = record {
    start_at_zero = refl;
    key_in_range = λ i s p. let h = made_at_most i s p in omega arith;
    reach_raises_key = λ i j s t x p e. let r = reach_says v s t i j x e in omega arith;
    gap_orders_keys = λ i a b g stop p q e. (gap_says a b g e).fewer;
  }

  never_taken : {P : Type 0} (tier : ℕ) (w : Limits) → never tier ≡ taken w → P
  never_taken tier w e = by (tier == 1) e
    where
      by : {P : Type 0} (b : Bool) → cond b (refused 7) (refused 6) ≡ taken w → P
      by true e = absurd (refused_taken e)
      by false e = absurd (refused_taken e)

  laws : Laws counter v
  laws = record {
    interface = interface;
    gaps = gaps;
    sizes = sizes;
    keys = keys;
    plans = λ _ vans rs cost plan. record { sum = cost; admitted = plan.costs; at_most = omega (arith, ints) };
    tighten_no_cheaper = λ w tier index set amount e. never_taken tier w e;
    set_keeps = λ w tier index amount e. never_taken tier w e;
    tighten_keeps = λ w tier index set amount e. never_taken tier w e;
  }

  -- it stays as it is
  pub counter_lawful : Lawful counter v
  counter_lawful w here = laws
  counter_lawful w (by_set x tier index amount c e) = never_taken tier x e
  counter_lawful w (by_tighten x tier index set amount c e) = never_taken tier x e
