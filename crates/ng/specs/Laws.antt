-- The ng layer owes nothing of its tables, and keeps what its kind owes. Assumes nothing.
use Rattle.std.specs.Prelude.{◌≡◌, ℕ, ◌+◌, ◌≤◌, Bool, true, false, cond, ◌&&◌, List, [], ◌∷◌, ℤ, Some, None, count_by, Option, ◌==◌, nat_eq, nat_le, unsigned_abs, refl}
use Rattle.std.proofs.Common.{sym, ap, ◌∙◌, ⊎_elim, arith}
use Rattle.std.specs.List.{AllByRecursion}
use Rattle.stops.specs.Stops.{Stop, member, empty_set, within, all_stops}
use Rattle.stops.specs.declared.StopSet.{StopSet}
use Rattle.stops.proofs.Members.{not_member, no_member, none_in_empty, within_members, members_within, within_itself, within_through}
use Rattle.tier.specs.Routes.{Route, and_then}
use Rattle.tier.specs.Plans.{visits}
use Rattle.tier.specs.Meaning.{taken, refused}
use Rattle.tier.proofs.Options.{none_some, some_same, and_then_some}
use Rattle.tier.proofs.Outcomes.{taken_same, refused_taken}
use Rattle.tier.proofs.Counts.{one_same, count_cons}
use Rattle.layer.specs.Owns.{OwnLaws, add, walk, walks, WalksNoCheaper}
use Rattle.layer.specs.Layers.{KindLaws}
use Rattle.ng.specs.Ng.{near_of, recall, ng_own, wider_at, ng_tighten, ng_kind}
use Rattle.ng.specs.Memories.{Part, freer, learnt, recall_more, Wider, wider_here}

-- STEPS AND GAPS

-- what it says that j is reached
record Stepped (near j memory t x : ℕ) : Type 0 where
  free : member memory j ≡ false
  becomes : recall near j memory ≡ t
  charge : x ≡ 0

step_says : (near : List StopSet) (j memory t x : ℕ) → (ng_own near).step j memory ≡ Some (t, x) → Stepped (near_of near j) j memory t x
step_says near j memory t x e = by (member memory j) refl e
  where
    by : (b : Bool) → member memory j ≡ b → cond {A = Option (ℕ × ℕ)} b None (Some (recall (near_of near j) j memory, 0)) ≡ Some (t, x) → Stepped (near_of near j) j memory t x
    by true f e = absurd (none_some e)
    by false f e =
        let q = some_same e in
        record { free = f; becomes = ap (λ (p : ℕ × ℕ). p.0) q; charge = sym (ap (λ (p : ℕ × ℕ). p.1) q) }

steps : (near : List StopSet) (j memory : ℕ) → member memory j ≡ false → (ng_own near).step j memory ≡ Some (recall (near_of near j) j memory, 0)
steps near j memory free = ap (λ b. cond {A = Option (ℕ × ℕ)} b None (Some (recall (near_of near j) j memory, 0))) free

-- what it says that there is a gap
record Ahead (a b g : ℕ) : Type 0 where
  part : within a b ≡ true
  none : g ≡ 0

behind_says : (near : List StopSet) (a b g : ℕ) → (ng_own near).behind a b ≡ Some g → Ahead a b g
behind_says near a b g e = by (within a b) refl e
  where
    by : (t : Bool) → within a b ≡ t → cond {A = Option ℕ} t (Some 0) None ≡ Some g → Ahead a b g
    by true f e = record { part = f; none = sym (some_same e) }
    by false f e = absurd (none_some e)

ahead : (near : List StopSet) (a b : ℕ) → within a b ≡ true → (ng_own near).behind a b ≡ Some 0
ahead near a b part = ap (λ t. cond {A = Option ℕ} t (Some 0) None) part

-- ROUTES

-- nothing that is remembered is still to come
abbrev New : ℕ → List ℕ → Type 0
New memory r = (k : ℕ) → member memory k ≡ true → count_by (nat_eq k) r ≡ 0

-- the stop at hand counts
count_here : (j : ℕ) (js : List ℕ) → count_by (nat_eq j) (j ∷ js) ≡ 1 + count_by (nat_eq j) js
count_here j js = let c = count_cons j j js in let o = one_same j j refl in omega arith

still_new : (near j memory : ℕ) (js : List ℕ) → count_by (nat_eq j) (j ∷ js) ≤ 1 → New memory (j ∷ js) → New (recall near j memory) js
still_new near j memory js once new k h =
    let here = count_here j js in
    let none : count_by (nat_eq j) js ≡ 0 = omega arith in
    ⊎_elim (λ l. let z = new k l in let c = count_cons k j js in omega arith) (λ same. ap (λ i. count_by (nat_eq i) js) same ∙ none) (learnt near j memory k h)

-- a route that repeats no stop, and comes to none that is remembered, is never barred
walk_free : (near : List StopSet) (n memory : ℕ) (r : List ℕ) → AllByRecursion (Stop n) r → ((k : ℕ) → Stop n k → count_by (nat_eq k) r ≤ 1) → New memory r → walk (ng_own near) memory r ≡ Some 0
walk_free near n memory [] stops once new = refl
walk_free near n memory (j ∷ js) stops once new =
    let here = count_here j js in
    let free = not_member memory j (λ h. let z = new j h in omega arith) in
    let next = recall (near_of near j) j memory in
    let fewer : (k : ℕ) → Stop n k → count_by (nat_eq k) js ≤ 1 = λ k s. let o = once k s in let c = count_cons k j js in omega arith in
    let rest = walk_free near n next js stops.1 fewer (still_new (near_of near j) j memory js (once j stops.0) new) in
    ap (λ o. and_then o (λ p. add p.1 (walk (ng_own near) p.0 js))) (steps near j memory free) ∙ ap (add 0) rest

walks_free : (near : List StopSet) (n : ℕ) (rs : List (List ℕ)) → AllByRecursion (Route n) rs → ((k : ℕ) → Stop n k → visits k rs ≤ 1) → walks (ng_own near) rs ≡ Some 0
walks_free near n [] routes once = refl
walks_free near n (r ∷ rs) routes once =
    let first = walk_free near n empty_set r routes.0.1 (λ k s. let o = once k s in omega arith) (λ k h. absurd (no_member empty_set k (none_in_empty k) h)) in
    let rest = walks_free near n rs routes.1 (λ k s. let o = once k s in omega arith) in
    ap (λ o. and_then o (λ x. add x (walks (ng_own near) rs))) first ∙ ap (add 0) rest

-- WIDER NEIGHBOURHOODS

-- a sum is there only if its rest is
add_some : (x z : ℕ) (o : Option ℕ) → add x o ≡ Some z → (y : ℕ) × (o ≡ Some y)
add_some x z None e = absurd (none_some e)
add_some x z (Some y) e = (y, refl)

-- what is walked with more remembered is walked with less
walk_less : (near far : List StopSet) → Wider near far → (a b : ℕ) → Part a b → (r : List ℕ) (f : ℕ) → walk (ng_own far) b r ≡ Some f → walk (ng_own near) a r ≡ Some 0
walk_less near far wider a b part [] f e = refl
walk_less near far wider a b part (j ∷ js) f e =
    let both = and_then_some ((ng_own far).step j b) (λ p. add p.1 (walk (ng_own far) p.0 js)) f e in
    let next = both.first in
    let s = step_says far j b next.0 next.1 both.is in
    let more = add_some next.1 f (walk (ng_own far) next.0 js) both.then in
    let onward : walk (ng_own far) (recall (near_of far j) j b) js ≡ Some more.0 = ap (λ t. walk (ng_own far) t js) s.becomes ∙ more.1 in
    let rest = walk_less near far wider (recall (near_of near j) j a) (recall (near_of far j) j b) (recall_more (near_of near j) (near_of far j) j a b (wider j) part) js more.0 onward in
    ap (λ o. and_then o (λ p. add p.1 (walk (ng_own near) p.0 js))) (steps near j a (freer a b j part s.free)) ∙ ap (add 0) rest

wider_no_cheaper : (near far : List StopSet) → Wider near far → WalksNoCheaper (ng_own near) (ng_own far)
wider_no_cheaper near far wider r f e = (0, walk_less near far wider empty_set empty_set (λ k h. h) r f e, omega arith)

tighten_says : (n : ℕ) (near far : List StopSet) (index stops : ℕ) (amount : ℤ) → ng_tighten n near index stops amount ≡ taken far → wider_at near index stops ≡ far
tighten_says n near far index stops amount e = by (nat_le 1 index && nat_le index n) (all_stops n stops) (unsigned_abs amount == 0) e
  where
    by : (a b c : Bool) → cond a (cond b (cond c (taken (wider_at near index stops)) (refused 9)) (refused 10)) (refused 8) ≡ taken far → wider_at near index stops ≡ far
    by true true true e = taken_same e
    by true true false e = absurd (refused_taken e)
    by true false c e = absurd (refused_taken e)
    by false b c e = absurd (refused_taken e)

-- WHAT THE KIND OWES

own_laws : (near : List StopSet) (n : ℕ) → OwnLaws n (ng_own near)
own_laws near n = record {
  behind_itself = λ m. ahead near m m (within_itself m);
  behind_through = λ a b c g h e f.
      let u = behind_says near a b g e in
      let w = behind_says near b c h f in
      record { width = 0; present = ahead near a c (within_through a b c u.part w.part); small = omega arith };
  step_follows = λ j a b t g y e f.
      let u = behind_says near a b g e in
      let s = step_says near j b t y f in
      let part = within_members a b u.part in
      let next = recall (near_of near j) j a in
      let kept = recall_more (near_of near j) (near_of near j) j a b (λ k h. h) part in
      record {
        next = next;
        charge = 0;
        steps = steps near j a (freer a b j part s.free);
        width = 0;
        present = ap ((ng_own near).behind next) (sym s.becomes) ∙ ahead near next (recall (near_of near j) j b) (members_within next (recall (near_of near j) j b) kept);
        small = omega arith;
      };
  step_small = λ j m t x e. let s = step_says near j m t x e in let c = s.charge in omega arith;
  behind_small = λ a b g e. let u = behind_says near a b g e in let z = u.none in omega arith;
  penalties_small = omega arith;
  plan_walks = λ rs routes once.
      record {
        charges = 0;
        walked = walks_free near n rs routes (λ k s. let o = once k s in omega arith);
        small = omega arith;
      };
}

-- every table will do
abbrev pub AnyTable : ℕ → List StopSet → Type 0
AnyTable n near = Unit {0}

pub ng_kind_laws : KindLaws ng_kind AnyTable
ng_kind_laws = record {
  own_laws = λ n near _. own_laws near n;
  set_good = λ n near far index amount _ e. tt;
  tighten_good = λ n near far index stops amount _ e. tt;
  tighten_no_cheaper = λ n near far index stops amount _ e.
      rw (tighten_says n near far index stops amount e) at (wider_no_cheaper near (wider_at near index stops) (wider_here near index stops));
}
