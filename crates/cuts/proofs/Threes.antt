-- Every cut of a table has three different stops, whatever is done to it. Assumes nothing.
use Rattle.std.proofs.Common.{◌≡◌, ℕ, ◌+◌, ◌%◌, ◌^◌, ◌<◌, true, ◌&&◌, eqb, ltb, List, [], ◌∷◌, ◌++◌, length, set, sym, ap, ◌∙◌, subst, ⊎_elim, arith}
use Rattle.std.proofs.lemmas.List.{length-set, length_push, get_or-set_other, get_or_append_left, get_or_push}
use Rattle.std.proofs.lemmas.Bool.{and_parts, eqb-true, eq-eqb, lt-ltb, cases_lt, cases_eq}
use Rattle.stops.specs.Stops.{most_member, member, all_stops, count_to}
use Rattle.stops.proofs.Lists.{get_or_set_at}
use Rattle.stops.proofs.Members.{none_past, not_member, all_stops_member, count_past}
use Rattle.cuts.specs.declared.cut.Cut.{Cut}
use Rattle.cuts.specs.Cuts.{blank_cut, cut_at}
use Rattle.cuts.specs.Tables.{three_stops, ThreeStops}

-- one cut
abbrev Three : Cut → Type 0
Three c = three_stops most_member c.stops.word ≡ true

pub three_none : (cs : List Cut) → ThreeStops 0 cs
three_none cs k h = absurd (omega arith)

-- a cut in the place of one with the same stops
pub three_put : (cs : List Cut) (i : ℕ) (c : Cut) → c.stops.word ≡ (cut_at cs i).stops.word → ThreeStops (length cs) cs → ThreeStops (length (set cs i c)) (set cs i c)
three_put cs i c e h k l =
    let inside : k < length cs = let same = length-set cs i c in omega arith in
    ⊎_elim
    (λ q. let at : Three (cut_at cs k) = h k inside in subst (λ n. Three (cut_at (set cs n c) k)) q (get_or_set_at Three cs k c blank_cut (subst (λ w. three_stops most_member w ≡ true) (sym (e ∙ ap (λ n. (cut_at cs n).stops.word) (sym q))) at) at))
    (λ n. subst Three (sym (get_or-set_other cs i k c blank_cut n)) (h k inside))
    (cases_eq k i)

-- a new cut after the others
pub three_add : (cs : List Cut) (c : Cut) → Three c → ThreeStops (length cs) cs → ThreeStops (length (cs ++ c ∷ [])) (cs ++ c ∷ [])
three_add cs c t h k l =
    ⊎_elim
    (λ inside. subst Three (sym (get_or_append_left cs (c ∷ []) blank_cut k inside)) (h k inside))
    (λ last. subst Three (sym (get_or_push cs c blank_cut k (let n = length_push cs c in omega arith))) t)
    (cases_lt k (length cs))

-- three of the stops 1 to n, counted to the greatest member that there can be
pub three_counted : (n members : ℕ) → members < 2 ^ 64 → three_stops n members ≡ true → three_stops most_member members ≡ true
three_counted n members wide e =
    let p = and_parts (all_stops n members) (eqb (count_to (member members) n) 3) e in
    let q = and_parts (eqb (members % 2) 0) (ltb members (2 ^ (n + 1))) p.0 in
    let three = eqb-true _ _ p.1 in
    let all : all_stops most_member members ≡ true = ap (λ b. b && ltb members (2 ^ 64)) q.0 ∙ lt-ltb members (2 ^ 64) wide in
    let counted : count_to (member members) most_member ≡ 3 = same three p.0 in
    ap (λ b. b && eqb (count_to (member members) most_member) 3) all ∙ eq-eqb _ _ counted
  where
    same : count_to (member members) n ≡ 3 → all_stops n members ≡ true → count_to (member members) most_member ≡ 3
    same three all =
        ⊎_elim
        (λ l. sym (count_past (member members) most_member n (λ j m. none_past 64 members j wide m) (omega arith)) ∙ three)
        (λ l. count_past (member members) n most_member (λ j m. not_member members j (λ i. let s = (all_stops_member n members j all i).1 in omega arith)) l ∙ three)
        (cases_lt most_member n)
