-- A list of calls, one step at a time. Assumes nothing.
use Rattle.std.proofs.Common.{◌≡◌, ℕ, ◌+◌, ◌<◌, ◌≤◌, List, [], ◌∷◌, ◌++◌, map, length, get_or, take, drop, sym, refl, ap, ◌∙◌, subst, arith}
use Rattle.std.proofs.lemmas.List.{append_assoc, append-nil, drop_all, drop_more, take_more, take-map, map-append, length-map}
use Rattle.tier.specs.Meaning.{Meaning}
use Rattle.tier.specs.Laws.{Lawful, Kept}
use Rattle.calls.specs.Calls.{Call, Answer, step, run, left}
use Rattle.calls.specs.Promises.{Carried, CutShort}
use Rattle.calls.proofs.Runs.{keeps_promise, keeps_after}

module _ {S C : Type 0} (d : Meaning S) (vans : ℕ) (called : C → Call) where
  abbrev answers : d.Value → List C → List Answer
  answers v cs = map (λ e. e.answer) (run d vans v (map called cs))

  module _ (cs : List C) (i : ℕ) (c : C) (h : i < length cs) (num : ℕ) (n : num ≡ vans) (v w : d.Value) (r : w ≡ (step d num v (called (get_or cs i c))).1) where
    next : w ≡ (step d vans v (called (get_or cs i c))).1
    next = r ∙ ap (λ k. (step d k v (called (get_or cs i c))).1) n

    -- one answer more
    pub answered_more : (xs ys all : List Answer) (a : Answer) → ys ≡ xs ++ a ∷ [] → a ≡ (step d num v (called (get_or cs i c))).0 → xs ++ answers v (drop i cs) ≡ all → ys ++ answers w (drop (i + 1) cs) ≡ all
    answered_more xs ys all a p q t =
        let here : a ≡ (step d vans v (called (get_or cs i c))).0 = q ∙ ap (λ k. (step d k v (called (get_or cs i c))).0) n in
        ap (λ l. l ++ answers w (drop (i + 1) cs)) p
        ∙ append_assoc xs (a ∷ []) (answers w (drop (i + 1) cs))
        ∙ ap (λ x. xs ++ x ∷ answers w (drop (i + 1) cs)) here
        ∙ ap (λ u. xs ++ (step d vans v (called (get_or cs i c))).0 ∷ answers u (drop (i + 1) cs)) next
        ∙ sym (ap (λ l. xs ++ answers v l) (drop_more cs i c h))
        ∙ t

    pub left_more : (z : d.Value) → left d vans v (map called (drop i cs)) ≡ z → left d vans w (map called (drop (i + 1) cs)) ≡ z
    left_more z t = ap (λ u. left d vans u (map called (drop (i + 1) cs))) next ∙ sym (ap (λ l. left d vans v (map called l)) (drop_more cs i c h)) ∙ t

    pub left_so_far : (u : d.Value) → v ≡ left d vans u (map called (take i cs)) → w ≡ left d vans u (map called (take (i + 1) cs))
    left_so_far u t =
        next ∙ ap (λ x. (step d vans x (called (get_or cs i c))).1) t
        ∙ sym (left_append u (map called (take i cs)) (called (get_or cs i c) ∷ []))
        ∙ ap (left d vans u) (sym (map-append called (take i cs) (get_or cs i c ∷ [])))
        ∙ sym (ap (λ l. left d vans u (map called l)) (take_more cs i c h))
      where
        left_append : (v : d.Value) (xs ys : List Call) → left d vans v (xs ++ ys) ≡ left d vans (left d vans v xs) ys
        left_append v [] ys = refl
        left_append v (x ∷ xs) ys = left_append (step d vans v x).1 xs ys

    -- the calls up to this one were made
    pub cut_short : (u : d.Value) → Lawful d u → v ≡ left d vans u (map called (take i cs)) → CutShort d vans u (map called cs) w
    cut_short u lawful t =
        let l = length-map cs called in
        let e = left_so_far u t ∙ ap (left d vans u) (sym (take-map called (i + 1) cs)) in
        record { made = i + 1; within = omega arith; after_is = e; kept = subst (Kept d u) (sym e) (keeps_after d vans u lawful (take (i + 1) (map called cs))) }

  -- all calls were made
  pub carried : (first here : d.Value) (cs : List C) (i : ℕ) (xs : List Answer) → Lawful d first → length cs ≤ i → xs ++ answers here (drop i cs) ≡ answers first cs → left d vans here (map called (drop i cs)) ≡ left d vans first (map called cs) → Carried d vans first (map called cs) xs here
  carried first here cs i xs lawful h a b =
      let none = drop_all i cs h in
      let e = sym (ap (λ l. left d vans here (map called l)) none) ∙ b in
      record {
        answers_are = sym (append-nil xs) ∙ sym (ap (λ l. xs ++ answers here l) none) ∙ a;
        after_is = e;
        kept = subst (Kept d first) (sym e) (keeps_after d vans first lawful (map called cs));
        promise = keeps_promise d vans first lawful (map called cs);
      }
