-- No two treated labels have one number, whatever the answers. Assumes nothing.
use Rattle.std.proofs.Common.{◌≡◌, ℕ, ◌≤◌, Bool, true, false, cond, eqb, List, [], ◌∷◌, ◌++◌, Some, None, sum_by, sym, refl, ap, ◌∙◌, subst, arith}
use Rattle.std.proofs.lemmas.List.Sums.{sum_by-cons, sum_by_push}
use Rattle.std.proofs.lemmas.Bool.{eqb-true}
use Rattle.tier.specs.Answers.{Answers}
use Rattle.tier.proofs.Options.{none_some}
use Rattle.labelling.specs.Members.{In}
use Rattle.labelling.specs.Labelling.{Label, Table, take_up, choose, find}
use Rattle.labelling.specs.Moments.{Passed, at_first, one_turn}
use Rattle.labelling.proofs.Members.{in_push, first_is}
use Rattle.labelling.proofs.Holds.{HeldIn, went_on_to, Turned, none_waits, treats, turned, held_up, held_passed}
use Rattle.store.proofs.Places.{named}

module _ {S : Type 0} where
  -- of each number there is at most one label
  abbrev pub Once : List (Label S) → Type 0
  Once ks = (n : ℕ) → sum_by (named n) ks ≤ 1

  -- a number that is not found is that of none
  none_named : (n : ℕ) (ks : List (Label S)) → find n ks ≡ None → sum_by (named n) ks ≡ 0
  none_named n [] e = refl
  none_named n (k ∷ ks) e = by (none_named n ks) (eqb k.number n) refl e
    where
      by : (find n ks ≡ None → sum_by (named n) ks ≡ 0) → (b : Bool) → eqb k.number n ≡ b → cond b (Some k) (find n ks) ≡ None → sum_by (named n) (k ∷ ks) ≡ 0
      by more true q z = absurd (none_some (sym z))
      by more false q z = let a = sum_by-cons (named n) k ks in let c : named n k ≡ 0 = ap (λ b. cond b 1 0) q in let d = more z in omega arith

  once_more : (ks : List (Label S)) (l : Label S) → find l.number ks ≡ None → Once ks → Once (ks ++ l ∷ [])
  once_more ks l e h n = by (eqb l.number n) refl
    where
      by : (b : Bool) → eqb l.number n ≡ b → sum_by (named n) (ks ++ l ∷ []) ≤ 1
      by true q =
          let a = sum_by_push (named n) ks l in
          let c : named n l ≡ 1 = ap (λ b. cond b 1 0) q in
          let d = none_named n ks (ap (λ n. find n ks) (sym (eqb-true l.number n q)) ∙ e) in
          omega arith
      by false q =
          let a = sum_by_push (named n) ks l in
          let c : named n l ≡ 0 = ap (λ b. cond b 1 0) q in
          let d = h n in
          omega arith

module _ {S : Type 0} (m : Answers S) (earlier : S → S → Bool) (places : ℕ) where
  once_turn : (t u : Table S) → HeldIn m t → Once t.treated → Turned m earlier places t u → Once u.treated
  once_turn t _ h o (none_waits w) = o
  once_turn t _ h o (treats x xs u w e) =
      let one = (choose earlier x xs).0 in
      let others = (choose earlier x xs).1 in
      let went = went_on_to m places (take_up m one others t) u one m.stops 1 (held_up m earlier places t x xs h w) (omega arith) (omega arith) (in_push one t.treated) e in
      subst Once (sym went.same) (once_more t.treated one (h.fresh one (subst (In one) (sym w) (first_is (λ a b. earlier a.state b.state) x xs))) o)

  pub once_passed : (t : Table S) → Passed m earlier places t → Once t.treated
  once_passed _ at_first = λ n. omega arith
  once_passed _ (one_turn {t} u p e) = once_turn t u (held_passed m earlier places t p) (once_passed t p) (turned m earlier places t u e)
