-- The first of the waiting labels by key and number. Assumes nothing.
use Rattle.std.proofs.Common.{◌≡◌, ℕ, zero, suc, ◌+◌, ◌-◌, ◌<◌, ◌≤◌, Bool, true, false, cond, ◌⊎◌, List, [], ◌∷◌, ◌++◌, map, filter, length, get_or, take, drop, Some, None, IfSome, Option, option_map, Bor, sym, refl, ap, ◌∙◌, subst, inl, inr, ⊎_elim, arith}
use denote.Param.Members.{Mut}
use Rattle.std.specs.Fn.{CalledAt}
use Rattle.std.specs.Iterator.{KeyTurn, PicksMinByKey, Drains}
use Rattle.std.specs.List.{FoldsTo, enumerate_from}
use Rattle.std.specs.declared.cmp.Ordering.{Ordering}
use Rattle.std.specs.declared.cmp.Ordering.TheVariants.{Less, Equal, Greater}
use Rattle.std.specs.Ordering.{ordering_then, nat_cmp, min_by_ordering}
use Rattle.std.proofs.ByRecursion.{All-get_or}
use Rattle.std.proofs.lemmas.Bool.{both_ways, cases_lt, cases_Bool}
use Rattle.std.proofs.lemmas.Cmp.{ranked}
use Rattle.std.proofs.lemmas.Iterator.{YieldsList}
use Rattle.std.proofs.lemmas.Iterator.Consumers.{YieldsList-end}
use Rattle.std.proofs.lemmas.List.{get_or-drop, get_or-take, length-drop, length-take-le, append_assoc, append-nil}
use Rattle.tier.specs.Answers.{Answers}
use Rattle.labelling.specs.Members.{In}
use Rattle.labelling.proofs.Members.{in_left, in_push, in_push_cases, in_kept, kept_in}
use Rattle.store.specs.Places.{Picks}
use Rattle.price.specs.declared.label.Label.{Label as Cell}
use Rattle.price.specs.Labels.{blank, is_waiting, reading}
use Rattle.price.specs.Places.{Unused}

-- PAIRS IN ORDER

abbrev pub pair_cmp : ℕ × ℕ → ℕ × ℕ → Ordering
pair_cmp a b = ordering_then (nat_cmp a.0 b.0) (nat_cmp a.1 b.1)

-- a comes no later than b
abbrev pub NoLater : ℕ × ℕ → ℕ × ℕ → Type 0
NoLater a b = (a.0 < b.0) ⊎ ((a.0 ≡ b.0) × (a.1 ≤ b.1))

chain : (a b c : ℕ × ℕ) → NoLater a b → NoLater b c → NoLater a c
chain a b c (inl p) (inl q) = inl (omega arith)
chain a b c (inl p) (inr q) = let z = q.0 in inl (omega arith)
chain a b c (inr p) (inl q) = let z = p.0 in inl (omega arith)
chain a b c (inr p) (inr q) = let y = p.0 in let z = q.0 in let u = p.1 in let v = q.1 in inr (omega arith, omega arith)

-- the one that `min_by_key` keeps
abbrev Kept : Ordering → ℕ × ℕ → ℕ × ℕ → Type 0
Kept Less a b = NoLater a b
Kept Equal a b = NoLater a b
Kept Greater a b = NoLater b a

kept : (a b : ℕ × ℕ) → Kept (pair_cmp a b) a b
kept a b = by (nat_cmp a.0 b.0) refl (nat_cmp a.1 b.1) refl
  where
    by : (o : Ordering) → o ≡ nat_cmp a.0 b.0 → (p : Ordering) → p ≡ nat_cmp a.1 b.1 → Kept (ordering_then o p) a b
    by Less e p f = inl (ranked a.0 b.0 Less e)
    by Greater e p f = inl (ranked a.0 b.0 Greater e)
    by Equal e Less f = let k = ranked a.1 b.1 Less f in inr (ranked a.0 b.0 Equal e, omega arith)
    by Equal e Equal f = let k = ranked a.1 b.1 Equal f in inr (ranked a.0 b.0 Equal e, omega arith)
    by Equal e Greater f = let k = ranked a.1 b.1 Greater f in inr (sym (ranked a.0 b.0 Equal e), omega arith)

-- THE FIRST OF A LIST

module _ {A B F : Type 0} (v : A → B) (g : Mut F (Bor A × Unit {0}) (ℕ × ℕ)) (key : B → ℕ × ℕ) (f : F) (calls : (x : A) (k : ℕ × ℕ) (q : F) → CalledAt g f x k q → (q ≡ f) × (k ≡ key (v x))) where
  -- b is one of those seen, and none of them comes before it
  record Leads (b : B) (seen : List B) : Type 0 where
    among : In b seen
    first : (z : B) → In z seen → NoLater (key b) (key z)

  leads_more : (b z c : B) (seen : List B) → Leads b seen → NoLater (key c) (key b) → NoLater (key c) (key z) → (c ≡ b) ⊎ (z ≡ c) → Leads c (seen ++ z ∷ [])
  leads_more b z c seen l p q is = record {
    among = ⊎_elim (λ e. in_left c seen (z ∷ []) (subst (λ b. In b seen) (sym e) l.among)) (λ e. subst (λ c. In c (seen ++ z ∷ [])) e (in_push z seen)) is;
    first = λ y i. ⊎_elim (λ j. chain (key c) (key b) (key y) p (l.first y j)) (λ e. subst (λ y. NoLater (key c) (key y)) e q) (in_push_cases y z seen i);
  }

  turn : (p : A) (x : A) (seen : List B) (o : Ordering) → pair_cmp (key (v p)) (key (v x)) ≡ o → Leads (v p) seen → Leads (v (min_by_ordering o p x)) (seen ++ v x ∷ []) × (min_by_ordering o (key (v p)) (key (v x)) ≡ key (v (min_by_ordering o p x)))
  turn p x seen Less e l = (leads_more (v p) (v x) (v p) seen l (inr (refl, omega arith)) (subst (λ o. Kept o (key (v p)) (key (v x))) e (kept (key (v p)) (key (v x)))) (inl refl), refl)
  turn p x seen Equal e l = (leads_more (v p) (v x) (v p) seen l (inr (refl, omega arith)) (subst (λ o. Kept o (key (v p)) (key (v x))) e (kept (key (v p)) (key (v x)))) (inl refl), refl)
  turn p x seen Greater e l = (leads_more (v p) (v x) (v x) seen l (subst (λ o. Kept o (key (v p)) (key (v x))) e (kept (key (v p)) (key (v x)))) (inr (refl, omega arith)) (inr refl), refl)

  leads : (xs : List A) (p q : (F × (ℕ × ℕ)) × A) (seen : List B) → p.0.0 ≡ f → p.0.1 ≡ key (v p.1) → Leads (v p.1) seen → FoldsTo {P = (F × (ℕ × ℕ)) × A} (KeyTurn min_by_ordering min_by_ordering g pair_cmp) p xs q → Leads (v q.1) (seen ++ map v xs)
  leads [] p q seen a k l t = subst (Leads (v q.1)) (sym (append-nil seen)) (subst (λ (w : (F × (ℕ × ℕ)) × A). Leads (v w.1) seen) t l)
  leads (x ∷ xs) p q seen a k l t =
      let j = t.0 in
      let c = t.1 in
      let m = calls x c.0 j.0.0 (subst (λ w. CalledAt g w x c.0 j.0.0) a c.2) in
      let e : pair_cmp (key (v p.1)) (key (v x)) ≡ c.1 = ap (λ y. pair_cmp y (key (v x))) (sym k) ∙ ap (pair_cmp p.0.1) (sym m.1) ∙ c.3 in
      let n = turn p.1 x seen c.1 e l in
      subst (Leads (v q.1)) (append_assoc seen (v x ∷ []) (map v xs))
      (leads xs j q (seen ++ v x ∷ []) m.0
      (c.4 ∙ ap (λ y. min_by_ordering c.1 y c.0) k ∙ ap (min_by_ordering c.1 (key (v p.1))) m.1 ∙ n.1 ∙ ap (λ y. key (v y)) (sym c.5))
      (subst (λ y. Leads (v y) (seen ++ v x ∷ [])) (sym c.5) n.0)
      t.2)

  -- what `min_by_key` gave of a list
  abbrev pub First_of : List B → Option A → Type 0
  First_of all None = all ≡ []
  First_of all (Some y) = In (v y) all × ((z : B) → In z all → NoLater (key (v y)) (key z))

  pub first_of : {S : Type 0} (steps : S → Option A → S → Type 0) (s : S) (all : List B) (r : Option A) → PicksMinByKey steps g pair_cmp s f r → YieldsList steps v s all → First_of all r
  first_of steps s all None h e = sym (whole [] h)
    where
      whole : (xs : List A) → Drains steps s xs → map v xs ≡ all
      whole xs (u, (t, y, n)) = (YieldsList-end e xs t y None u refl n).0
  first_of steps s all (Some y) (x, xs, k, q, w, d, c, t) e =
      let m = calls x k q c in
      let l = leads xs ((q, k), x) (w, y) (v x ∷ []) m.0 m.1 (record { among = inl refl; first = λ z i. ⊎_elim (λ e. subst (λ z. NoLater (key (v x)) (key z)) e (inr (refl, omega arith))) (λ i. absurd i) i }) t in
      let same : map v (x ∷ xs) ≡ all = (YieldsList-end e (x ∷ xs) d.1.0 d.1.1 None d.0 refl d.1.2).0 in
      (subst (In (v y)) same l.among, λ z i. l.first z (subst (In z) (sym same) i))

-- THE PLACES IN ORDER

numbered : {X : Type 0} (n : ℕ) (xs : List X) (z : ℕ × X) → In z (enumerate_from n xs) → (n ≤ z.0) × (z.0 < n + length xs) × ((d : X) → z.1 ≡ get_or xs (z.0 - n) d)
numbered n [] z i = absurd i
numbered n (x ∷ xs) z (inl e) =
    let a = ap (λ (z : ℕ × _). z.0) e in
    let o : 0 ≡ z.0 - n = omega arith in
    (omega arith, omega arith, λ d. sym (ap (λ (z : ℕ × _). z.1) e) ∙ ap (λ k. get_or (x ∷ xs) k d) o)
numbered n (x ∷ xs) z (inr i) =
    let h = numbered (n + 1) xs z i in
    let a = h.0 in
    let b = h.1 in
    let o : suc (z.0 - (n + 1)) ≡ z.0 - n = omega arith in
    (omega arith, omega arith, λ d. h.2 d ∙ ap (λ k. get_or (x ∷ xs) k d) o)

in_numbered : {X : Type 0} (n : ℕ) (xs : List X) (k : ℕ) (d : X) → k < length xs → In (n + k, get_or xs k d) (enumerate_from n xs)
in_numbered n [] k d h = absurd (omega arith)
in_numbered n (x ∷ xs) zero d h = let e : n ≡ n + 0 = omega arith in inl (ap (λ k. (k, x)) e)
in_numbered n (x ∷ xs) (suc k) d h = let e : n + 1 + k ≡ n + suc k = omega arith in inr (subst (λ j. In (j, get_or xs k d) (enumerate_from (n + 1) xs)) e (in_numbered (n + 1) xs k d (omega arith)))

-- THE LABEL THAT IS NEXT

-- a place from `used` on is blank
pub unused_at : {S : Type 0} (start : S) (used : ℕ) (cells : List (Cell S)) → Unused start used cells → (j : ℕ) → used ≤ j → j < length cells → get_or cells j (blank start) ≡ blank start
unused_at {S} start used cells u j h l =
    let z = length-drop used cells in
    let a = All-get_or (λ (c : Cell S). c ≡ blank start) (drop used cells) (j - used) (blank start) (omega arith) u.rest in
    ap (λ i. get_or cells i (blank start)) (omega arith) ∙ sym (get_or-drop used cells (j - used) (blank start)) ∙ a

abbrev pub waits : {S : Type 0} → ℕ × Cell S → Bool
waits p = is_waiting p.1.status

kept_waits : {S : Type 0} (z : ℕ × Cell S) (xs : List (ℕ × Cell S)) → In z (filter waits xs) → waits z ≡ true
kept_waits z [] i = absurd i
kept_waits {S} z (x ∷ xs) i = by (kept_waits z xs) (waits x) refl i
  where
    by : (In z (filter waits xs) → waits z ≡ true) → (b : Bool) → waits x ≡ b → In z (cond b (x ∷ filter waits xs) (filter waits xs)) → waits z ≡ true
    by rest true e (inl q) = ap waits (sym q) ∙ e
    by rest true e (inr i) = rest i
    by rest false e i = rest i

abbrev pub rank : {S : Type 0} → Answers S → ℕ × Cell S → ℕ × ℕ
rank m p = (m.key p.1.state, p.1.number)

module _ {S : Type 0} (m : Answers S) (cells : List (Cell S)) (used : ℕ) (u : Unused m.start used cells) where
  abbrev at : ℕ → Cell S
  at j = get_or cells j (blank m.start)

  abbrev pub ranked_places : List (ℕ × Cell S)
  ranked_places = filter waits (enumerate_from 0 (take used cells))

  read : (j : ℕ) → j < used → get_or (take used cells) j (blank m.start) ≡ at j
  read j h = get_or-take used cells j (blank m.start) h

  -- a waiting label stands among those that can be next
  there : (j : ℕ) → j < length cells → is_waiting (at j).status ≡ true → In (j, at j) ranked_places
  there j l e = ⊎_elim
      (λ k. in_kept waits (j, at j) (enumerate_from 0 (take used cells)) (let n = length-take-le used cells u.within in subst (λ c. In (j, c) (enumerate_from 0 (take used cells))) (read j k) (subst (λ i. In (i, get_or (take used cells) j (blank m.start)) (enumerate_from 0 (take used cells))) (omega arith) (in_numbered 0 (take used cells) j (blank m.start) (omega arith)))) e)
      (λ k. absurd (both_ways (is_waiting (at j).status) (ap (λ (c : Cell S). is_waiting c.status) (unused_at m.start used cells u j k l)) e))
      (cases_lt j used)

  module _ {A F : Type 0} (v : A → ℕ × Cell S) (g : Mut F (Bor A × Unit {0}) (ℕ × ℕ)) (f : F) (calls : (x : A) (k : ℕ × ℕ) (q : F) → CalledAt g f x k q → (q ≡ f) × (k ≡ rank m (v x))) where
    picks : (r : Option A) → First_of v g (rank m) f calls ranked_places r → Picks (reading m.start) (λ l. m.key l.state) cells (option_map (λ x. (v x).0) r) × IfSome (option_map (λ x. (v x).0) r) (λ i. i < used)
    picks None h = (λ j l. ⊎_elim (λ e. absurd (subst (In (j, at j)) h (there j l e))) (λ e. e) (cases_Bool (is_waiting (at j).status)), tt)
    picks (Some y) (i, h) =
        let z = v y in
        let n = numbered 0 (take used cells) z (kept_in waits z (enumerate_from 0 (take used cells)) i) in
        let w = u.within in
        let k = length-take-le used cells u.within in
        let a = n.1 in
        let o : z.0 - 0 ≡ z.0 = omega arith in
        let inside : z.0 < used = omega arith in
        let is : z.1 ≡ at z.0 = n.2 (blank m.start) ∙ ap (λ j. get_or (take used cells) j (blank m.start)) o ∙ read z.0 inside in (
          record {
            within = omega arith;
            here = ap (λ (c : Cell S). is_waiting c.status) (sym is) ∙ kept_waits z (enumerate_from 0 (take used cells)) i;
            before = λ j l e. subst (λ (c : Cell S). NoLater (m.key c.state, c.number) (rank m (j, at j))) is (h (j, at j) (there j l e));
          },
          inside,
        )

  -- where `min_by_key` gave r of the waiting labels with their places, and o is the place
  pub next_label : {T A F : Type 0} {steps : T → Option A → T → Type 0} {s : T} {g : Mut F (Bor A × Unit {0}) (ℕ × ℕ)} {f : F} (v : A → ℕ × Cell S) (r : Option A) → PicksMinByKey steps g pair_cmp s f r → YieldsList steps v s ranked_places → ((x : A) (k : ℕ × ℕ) (q : F) → CalledAt g f x k q → (q ≡ f) × (k ≡ rank m (v x))) → (o : Option ℕ) → o ≡ option_map (λ x. (v x).0) r → Picks (reading m.start) (λ l. m.key l.state) cells o × IfSome o (λ i. i < used)
  next_label {steps = steps} {s} {g} {f} v r h e calls o q = subst (λ o. Picks (reading m.start) (λ l. m.key l.state) cells o × IfSome o (λ i. i < used)) (sym q) (picks v g f calls r (first_of v g (rank m) f calls steps s ranked_places r h e))
