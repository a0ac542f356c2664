-- Labelling on the store, turn by turn, beside labelling as defined. Assumes nothing.
use Rattle.std.proofs.Common.{◌≡◌, ℕ, zero, suc, ◌+◌, ◌-◌, ◌*◌, ◌^◌, ◌<◌, ◌≤◌, Bool, true, false, cond, List, [], ◌∷◌, length, get_or, nat_abs, Some, None, count_by, Option, sym, refl, ap, ◌∙◌, subst, inr, mul-le-mul_right, mul-le-mul_left, arith}
use Rattle.std.proofs.lemmas.List.{length_push}
use Rattle.std.proofs.lemmas.List.Sums.{count_by-le-length}
use Rattle.tier.specs.declared.Tier.{Ghosts}
use Rattle.tier.specs.Answers.{Answers}
use Rattle.tier.specs.Routes.{and_then}
use Rattle.tier.specs.Laws.{SizeLaws, KeyLaws, most_tiers}
use Rattle.labelling.specs.Members.{In}
use Rattle.labelling.specs.Labelling.{Label, Table, by_key, choose, begin, treat, turns, labelling}
use Rattle.labelling.specs.Moments.{Passed, at_first, one_turn}
use Rattle.labelling.proofs.Traces.{traced_standing}
use Rattle.labelling.proofs.Holds.{held_passed, Turned, none_waits, treats, turned}
use Rattle.labelling.proofs.Ends.{tally_passed, turns_done, treated_more}
use Rattle.labelling.proofs.Small.{stays_small}
use Rattle.store.specs.Places.{Stored, First, Picks}
use Rattle.store.specs.Works.{Beside, Matches, treat_at}
use Rattle.store.proofs.Weights.{sum_same, sum_ones, sum_none}
use Rattle.store.proofs.Alike.{turn_alike, done_alike}
use Rattle.price.specs.declared.desk.Desk.{Desk}
use Rattle.price.specs.declared.label.Label.{Label as Cell}
use Rattle.price.specs.declared.progress.Progress.{Progress}
use Rattle.price.specs.Labels.{blank, view, is_treated, is_waiting, reading, writing}
use Rattle.price.specs.Progress.{work, outcome, Few, Sound}
use Rattle.price.specs.Desks.{answers, hand, so_far, Comes}
use Rattle.price.proofs.Steps.{same_answers}

-- how many places hold treated labels
abbrev pub treated_in : {S : Type 0} → List (Cell S) → ℕ
treated_in cells = count_by (λ c. is_treated c.status) cells

count_treated : {S : Type 0} (start : S) (cells : List (Cell S)) (ts ws : List (Label S)) → Stored (reading start) cells ts ws → treated_in cells ≡ length ts
count_treated start cells ts ws s =
    sum_same (λ c. cond (is_treated c.status) 1 0) (λ c. cond (is_treated c.status) 1 (cond (is_waiting c.status) 0 0)) cells (λ c. by (is_treated c.status) (is_waiting c.status))
    ∙ s.same (λ _. 1) (λ _. 0) ∙ (let a = sum_ones ts in let b = sum_none (λ _. 0) ws (λ y i. refl) in omega arith)
  where
    by : (t w : Bool) → ◌≡◌ {A = ℕ} (cond t 1 0) (cond t 1 (cond w 0 0))
    by true w = refl
    by false true = refl
    by false false = refl

module _ {S : Type 0} (m : Answers S) (places : ℕ) where
  -- the store is at a moment of labelling, from which as many turns as are left come to its end
  pub record Along (cells : List (Cell S)) (p : Progress) : Type 0 where
    pub table : Table S
    pub passed : Passed m (by_key m) places table
    pub beside : Beside (writing m.start) m places None (work cells p) table
    pub left : ℕ
    pub enough : places ≤ left + length table.treated
    pub comes : turns m (by_key m) places left table ≡ labelling m (by_key m) places

  pub begins : (cells : List (Cell S)) (p : Progress) → Beside (writing m.start) m places None (work cells p) (begin m) → Along cells p
  begins cells p b = record { table = begin m; passed = at_first; beside = b; left = places; enough = omega arith; comes = refl }

  module _ (cells : List (Cell S)) (p : Progress) (a : Along cells p) where
    abbrev t : Table S
    t = a.table

    -- none waits: this is the end
    pub done : Picks (reading m.start) (λ l. m.key l.state) cells None → Matches (writing m.start) m places None (Some (work cells p)) (labelling m (by_key m) places)
    done h = subst (Matches (writing m.start) m places None (Some (work cells p))) (sym (turns_done m (by_key m) places a.left t (done_alike (writing m.start) m places (work cells p) t a.passed a.beside h)) ∙ a.comes) a.beside

    pub few : 0 < places → places ≤ 2 ^ 18 → m.stops ≤ 60 → Few (2 ^ 32) p
    few some short stops =
        let c = tally_passed m (by_key m) places some t a.passed in
        let l = c.live_or_struck in
        let f = c.few in
        let r = c.room in
        let k = a.beside.kept in
        let s = a.beside.struck in
        let u = a.beside.turned in
        let many : length t.treated * m.stops ≤ 2 ^ 18 * 60 = product (length t.treated) m.stops (omega arith) stops in
        record { kept = omega arith; struck = omega arith; turned = omega arith }
      where
        product : (x y : ℕ) → x ≤ 2 ^ 18 → y ≤ 60 → x * y ≤ 2 ^ 18 * 60
        product x y h k = let u = mul-le-mul_right y h in let v = mul-le-mul_left (2 ^ 18) k in omega arith

    module _ (i : ℕ) (fi : First (reading m.start) (λ l. m.key l.state) cells i) where
      abbrev here : Cell S
      here = get_or cells i (blank m.start)

      waits : In (view here) t.waiting
      waits = a.beside.stored.waits i fi.within fi.here

      pub sound : m.tiers ≤ most_tiers → SizeLaws m → KeyLaws m → Sound m here
      sound low sizes keys =
          let s = stays_small m keys low sizes (by_key m) places t a.passed in
          let c = s.costs (view here) (inr waits) in
          let k = s.keys (view here) (inr waits) in
          record {
            few_tiers = low;
            stands = traced_standing m t.treated (view here) ((held_passed m (by_key m) places t a.passed).traced (view here) (inr waits));
            small = under (nat_abs here.cost) (m.key here.state) m.tiers c k low;
          }
        where
          under : (x k n : ℕ) → x ≤ k * (n * 2 ^ 36) → k ≤ 1440 → n ≤ 4 → x ≤ 2 ^ 50
          under x k n h l o = let u = mul-le-mul_right (n * 2 ^ 36) l in omega arith

      -- a label waits, so there is a turn left
      one_left : (n : ℕ) → a.left ≡ n → 0 < places → n ≡ 0 → ⊥
      one_left n e some z =
          let c = tally_passed m (by_key m) places some t a.passed in
          let r = c.room in
          let h = a.enough in
          none t.waiting waits (omega arith)
        where
          none : (ws : List (Label S)) → In (view here) ws → length ws ≡ 0 → ⊥
          none [] j q = j
          none (w ∷ ws) j q = omega arith

      next : Matches (writing m.start) m places None (treat_at (writing m.start) m i (work cells p)) (treat m (by_key m) places t)
      next = turn_alike (writing m.start) m places (work cells p) t a.passed a.beside i fi

      -- the turn was not enough for the places
      pub crowded : 0 < places → None ≡ treat_at (writing m.start) m i (work cells p) → Matches (writing m.start) m places None None (labelling m (by_key m) places)
      crowded some e = by a.left refl (treat m (by_key m) places t) refl (subst (λ o. Matches (writing m.start) m places None o (treat m (by_key m) places t)) (sym e) next)
        where
          by : (n : ℕ) → a.left ≡ n → (o : Option (Table S)) → treat m (by_key m) places t ≡ o → Matches (writing m.start) m places None None o → Matches (writing m.start) m places None None (labelling m (by_key m) places)
          by zero l o q h = absurd (one_left zero l some refl)
          by (suc n) l None q h = subst (Matches (writing m.start) m places None None) (sym (ap (λ o. and_then o (turns m (by_key m) places n)) q) ∙ sym (ap (λ n. turns m (by_key m) places n t) l) ∙ a.comes) tt
          by (suc n) l (Some u) q h = absurd h

      -- one turn further
      pub further : (after : List (Cell S)) (q : Progress) → 0 < places → Some (work after q) ≡ treat_at (writing m.start) m i (work cells p) → Along after q × (treated_in cells < treated_in after)
      further after q some e = by a.left refl (treat m (by_key m) places t) refl (subst (λ o. Matches (writing m.start) m places None o (treat m (by_key m) places t)) (sym e) next)
        where
          treated : (u : Table S) → Turned m (by_key m) places t u → length u.treated ≡ length t.treated + 1
          treated u (none_waits w) = absurd (subst (In (view here)) w waits)
          treated u (treats x xs _ w f) = ap length (treated_more m places (choose (by_key m) x xs).0 (choose (by_key m) x xs).1 t u f) ∙ length_push t.treated (choose (by_key m) x xs).0

          by : (n : ℕ) → a.left ≡ n → (o : Option (Table S)) → treat m (by_key m) places t ≡ o → Matches (writing m.start) m places None (Some (work after q)) o → Along after q × (treated_in cells < treated_in after)
          by zero l o r h = absurd (one_left zero l some refl)
          by (suc n) l None r h = absurd h
          by (suc n) l (Some u) r h =
              let more = treated u (turned m (by_key m) places t u r) in
              let enough = a.enough in
              let x = count_treated m.start cells t.treated t.waiting a.beside.stored in
              let y = count_treated m.start after u.treated u.waiting h.stored in (
                record {
                  table = u;
                  passed = one_turn u a.passed r;
                  beside = h;
                  left = n;
                  enough = omega arith;
                  comes = sym (ap (λ o. and_then o (turns m (by_key m) places n)) r) ∙ sym (ap (λ n. turns m (by_key m) places n t) l) ∙ a.comes;
                },
                omega arith,
              )

-- AT A DESK

module _ {X S : Type 0} {t : Ghosts X S} (first : Desk X S t) where
  abbrev places : ℕ
  places = length first.store.now

  -- labelling that began at this desk
  pub record Under_way (now : Desk X S t) : Type 0 where
    pub tier : now.tier ≡ first.tier
    pub store : now.store.ghost_name ≡ first.store.ghost_name
    pub along : Along (answers first) places now.store.now now.progress

  pub starts : Beside (hand first) (answers first) places None (so_far first) (begin (answers first)) → Under_way first
  starts b = record { tier = refl; store = refl; along = begins (answers first) places first.store.now first.progress b }

  module _ (now : Desk X S t) (u : Under_way now) where
    same : answers now ≡ answers first
    same = same_answers now first u.tier

    picked : (r : Option ℕ) → Picks (reading (answers now).start) (λ l. (answers now).key l.state) now.store.now r → Picks (reading (answers first).start) (λ l. (answers first).key l.state) now.store.now r
    picked r = subst (λ (m : Answers S). Picks (reading m.start) (λ l. m.key l.state) now.store.now r) same

    pub ended : Picks (reading (answers now).start) (λ l. (answers now).key l.state) now.store.now None → Matches (hand first) (answers first) places None (Some (so_far now)) (labelling (answers first) (by_key (answers first)) places)
    ended h = done (answers first) places now.store.now now.progress u.along (picked None h)

    pub few_yet : 0 < places → (answers first).stops ≤ 60 → Few (2 ^ 32) now.progress
    few_yet some stops = few (answers first) places now.store.now now.progress u.along some first.short stops

    module _ (i : ℕ) (h : Picks (reading (answers now).start) (λ l. (answers now).key l.state) now.store.now (Some i)) where
      pub sound_yet : (answers first).tiers ≤ most_tiers → SizeLaws (answers first) → KeyLaws (answers first) → Sound (answers now) (get_or now.store.now i (blank (answers now).start))
      sound_yet low sizes keys = subst (λ (m : Answers S). Sound m (get_or now.store.now i (blank m.start))) (sym same) (sound (answers first) places now.store.now now.progress u.along i (picked (Some i) h) low sizes keys)

      module _ (after : Desk X S t) (some : 0 < places) where
        turn : (ok : Bool) → Comes now after ok (treat_at (hand now) (answers now) i (so_far now)) → outcome ok after.store.now after.progress ≡ treat_at (hand first) (answers first) i (so_far now)
        turn ok c = subst (λ (m : Answers S). outcome ok after.store.now after.progress ≡ treat_at (writing m.start) m i (so_far now)) same c.is

        pub overfull : (ok : Bool) → ok ≡ false → Comes now after false (treat_at (hand now) (answers now) i (so_far now)) → Matches (hand first) (answers first) places None (outcome ok after.store.now after.progress) (labelling (answers first) (by_key (answers first)) places)
        overfull ok e c = subst (λ b. Matches (hand first) (answers first) places None (outcome b after.store.now after.progress) (labelling (answers first) (by_key (answers first)) places)) (sym e) (crowded (answers first) places now.store.now now.progress u.along i (picked (Some i) h) some (turn false c))

        -- one turn further, and more labels are treated
        pub goes_along : Comes now after true (treat_at (hand now) (answers now) i (so_far now)) → Under_way after × (length after.store.now - treated_in after.store.now < length now.store.now - treated_in now.store.now)
        goes_along c =
            let f = further (answers first) places now.store.now now.progress u.along i (picked (Some i) h) after.store.now after.progress some (turn true c) in
            let a = f.0.beside.long in
            let b = u.along.beside.long in
            let more = f.1 in
            let n = count_by-le-length (λ c. is_treated c.status) after.store.now in
            (record { tier = c.tier ∙ u.tier; store = c.store ∙ u.store; along = f.0 }, omega arith)
