-- A label goes on stop by stop. Assumes nothing.
use Rattle.std.proofs.Common.{◌≡◌, ℕ, suc, ◌+◌, ◌-◌, ◌*◌, ◌^◌, ◌<◌, ◌≤◌, Bool, true, false, cond, ◌∷◌, length, is_ok, is_err, Some, None, Ok, Err, Option, Result, ℤ, sym, refl, ap, ◌∙◌, subst, arith}
use Rattle.std.specs.List.{range_with_len}
use Rattle.std.proofs.lemmas.List.Sums.{count_by-le-length}
use Rattle.tier.specs.declared.Tier.{Ghosts}
use Rattle.tier.specs.Answers.{Answers}
use Rattle.tier.specs.Routes.{and_then}
use Rattle.tier.proofs.Options.{none_some, some_same}
use Rattle.labelling.specs.Labelling.{Label, child}
use Rattle.store.specs.Works.{Work, first_blank, covered_at, falls, strike_at, turn_away_at, keep_at, offer_reached_at, go_on_at, go_on_to_at}
use Rattle.price.specs.declared.label.Label.{Label as Cell}
use Rattle.price.specs.declared.desk.Desk.{Desk}
use Rattle.price.specs.Labels.{view, writing}
use Rattle.price.specs.Progress.{outcome, Few}
use Rattle.price.specs.Desks.{answers, hand, so_far, Comes}

pub not_ok : {T E : Type 0} (r : Result T E) → is_err r ≡ true → is_ok r ≡ false
not_ok (Ok x) e = sym e
not_ok (Err y) e = refl

-- no count rises by more than the places
pub record Rises {S : Type 0} (w v : Work (Cell S)) : Type 0 where
  pub kept : v.kept ≤ w.kept + 2 ^ 18
  pub struck : v.struck ≤ w.struck + 2 ^ 18
  pub turned : v.turned ≤ w.turned + 2 ^ 18

module _ {S : Type 0} (m : Answers S) (place : ℕ) (p : Label S) (w : Work (Cell S)) where
  -- A STEP

  module _ (short : length w.cells ≤ 2 ^ 18) (v : Work (Cell S)) where
    keeps : (c : Cell S) (o : Option ℕ) → Some v ≡ keep_at (writing m.start) m c w o → Rises w v
    keeps c None e = absurd (none_some (sym e))
    keeps c (Some i) e =
        let is = some_same e in
        let n = count_by-le-length (falls (writing m.start) m c) w.cells in
        let a = ap (λ (v : Work (Cell S)). v.kept) is in
        let b = ap (λ (v : Work (Cell S)). v.struck) is in
        let d = ap (λ (v : Work (Cell S)). v.turned) is in
        record { kept = omega arith; struck = omega arith; turned = omega arith }

    offers : (c : Cell S) (b : Bool) → Some v ≡ cond b (Some (turn_away_at (writing m.start) m w)) (keep_at (writing m.start) m c w (first_blank (writing m.start) m 0 (strike_at (writing m.start) m c w.cells))) → Rises w v
    offers c true e =
        let is = some_same e in
        let a = ap (λ (v : Work (Cell S)). v.kept) is in
        let b = ap (λ (v : Work (Cell S)). v.struck) is in
        let d = ap (λ (v : Work (Cell S)). v.turned) is in
        record { kept = omega arith; struck = omega arith; turned = omega arith }
    offers c false e = keeps c (first_blank (writing m.start) m 0 (strike_at (writing m.start) m c w.cells)) e

    reached : (j : ℕ) (o : Option (S × ℤ)) → Some v ≡ offer_reached_at (writing m.start) m place p j w o → Rises w v
    reached j None e =
        let is = some_same e in
        let a = ap (λ (v : Work (Cell S)). v.kept) is in
        let b = ap (λ (v : Work (Cell S)). v.struck) is in
        let d = ap (λ (v : Work (Cell S)). v.turned) is in
        record { kept = omega arith; struck = omega arith; turned = omega arith }
    reached j (Some a) e = let c = (writing m.start).fresh place (child w.kept p j a) in offers c (covered_at (writing m.start) m c w.cells) e

    pub rises : (j : ℕ) → Some v ≡ go_on_at (writing m.start) m place p j w → Rises w v
    rises j e = reached j (m.reach p.state p.stop j) e

  -- THE STOPS IN ORDER

  module _ (n j : ℕ) (h : j ≤ n) where
    rest : range_with_len j (n + 1 - j) ≡ j ∷ range_with_len (j + 1) (n + 1 - (j + 1))
    rest = let e : n + 1 - j ≡ suc (n + 1 - (j + 1)) = omega arith in ap (range_with_len j) e

    next : (o : Option (Work (Cell S))) → o ≡ go_on_at (writing m.start) m place p j w → go_on_to_at (writing m.start) m place p (range_with_len j (n + 1 - j)) w ≡ and_then o (go_on_to_at (writing m.start) m place p (range_with_len (j + 1) (n + 1 - (j + 1))))
    next o e = ap (λ js. go_on_to_at (writing m.start) m place p js w) rest ∙ ap (λ o. and_then o (go_on_to_at (writing m.start) m place p (range_with_len (j + 1) (n + 1 - (j + 1))))) (sym e)

    pub goes_further : (v : Work (Cell S)) → Some v ≡ go_on_at (writing m.start) m place p j w → go_on_to_at (writing m.start) m place p (range_with_len (j + 1) (n + 1 - (j + 1))) v ≡ go_on_to_at (writing m.start) m place p (range_with_len j (n + 1 - j)) w
    goes_further v e = sym (next (Some v) e)

    pub stops_here : None ≡ go_on_at (writing m.start) m place p j w → None ≡ go_on_to_at (writing m.start) m place p (range_with_len j (n + 1 - j)) w
    stops_here e = sym (next None e)

-- AT A DESK

module _ {X S : Type 0} {t : Ghosts X S} where
  pub same_answers : (a b : Desk X S t) → a.tier ≡ b.tier → answers a ≡ answers b
  same_answers a b e = ap (λ r. t.meaning.answers (t.value r.now)) e

  module _ (before : Desk X S t) (label : Cell S) (place : ℕ) where
    abbrev m : Answers S
    m = answers before

    -- what comes of the stops from j on
    abbrev from : ℕ → Desk X S t → Option (Work (Cell S))
    from j d = go_on_to_at (hand before) m place (view label) (range_with_len j (m.stops + 1 - j)) (so_far d)

    abbrev whole : Option (Work (Cell S))
    whole = go_on_to_at (hand before) m place (view label) (range_with_len 1 m.stops) (so_far before)

    -- the stops before j are done
    pub record Going (now : Desk X S t) (j : ℕ) : Type 0 where
      pub tier : now.tier ≡ before.tier
      pub store : now.store.ghost_name ≡ before.store.ghost_name
      pub rest_is : from j now ≡ whole
      pub few : Few (2 ^ 32 + j * 2 ^ 18) now.progress

    module _ (now : Desk X S t) (j : ℕ) (g : Going now j) where
      pub few_still : j ≤ 60 → Few (2 ^ 40) now.progress
      few_still h =
          let k = g.few.kept in
          let l = g.few.struck in
          let n = g.few.turned in
          record { kept = omega arith; struck = omega arith; turned = omega arith }

      -- all stops are done
      pub arrives : m.stops < j → Comes before now true whole
      arrives h =
          let z : m.stops + 1 - j ≡ 0 = omega arith in
          record { tier = g.tier; store = g.store; is = sym (ap (λ n. go_on_to_at (hand before) m place (view label) (range_with_len j n) (so_far now)) z) ∙ g.rest_is }

      module _ (after : Desk X S t) (h : j ≤ m.stops) where
        there : (ok : Bool) → Comes now after ok (go_on_at (hand now) (answers now) place (view label) j (so_far now)) → outcome ok after.store.now after.progress ≡ go_on_at (hand before) m place (view label) j (so_far now)
        there ok c = subst (λ (m : Answers S). outcome ok after.store.now after.progress ≡ go_on_at (writing m.start) m place (view label) j (so_far now)) (same_answers now before g.tier) c.is

        -- one stop more
        pub goes_on : Comes now after true (go_on_at (hand now) (answers now) place (view label) j (so_far now)) → Going after (j + 1)
        goes_on c =
            let e = there true c in
            let r = rises m place (view label) (so_far now) now.short (so_far after) j e in
            let k = g.few.kept in
            let l = g.few.struck in
            let n = g.few.turned in
            let a = r.kept in
            let b = r.struck in
            let d = r.turned in
            record {
              tier = c.tier ∙ g.tier;
              store = c.store ∙ g.store;
              rest_is = goes_further m place (view label) (so_far now) m.stops j h (so_far after) e ∙ g.rest_is;
              few = record { kept = omega arith; struck = omega arith; turned = omega arith };
            }

        -- it ends here
        pub breaks_off : (ok : Bool) → ok ≡ false → Comes now after false (go_on_at (hand now) (answers now) place (view label) j (so_far now)) → Comes before after ok whole
        breaks_off ok e c = record {
          tier = c.tier ∙ g.tier;
          store = c.store ∙ g.store;
          is = ap (λ b. outcome b after.store.now after.progress) e ∙ stops_here m place (view label) (so_far now) m.stops j h (there false c) ∙ g.rest_is;
        }
