-- The first waiting place is taken up beside the label that is chosen, and goes on: a turn. Assumes nothing.
use Rattle.std.proofs.Common.{◌≡◌, ℕ, Bool, true, false, cond, eqb, List, [], ◌∷◌, length, set, ℤ, ◌+ℤ◌, Some, None, Option, sym, refl, ap, ◌∙◌, subst, arith}
use lib.Signed.{lt_z}
use Rattle.std.specs.List.{range_with_len}
use Rattle.std.proofs.lemmas.List.{length-set, get_or-set_same, get_or-set_other}
use Rattle.std.proofs.lemmas.Bool.{or_right, both_ways}
use Rattle.tier.specs.Answers.{Answers}
use Rattle.labelling.specs.Members.{In}
use Rattle.labelling.specs.Labelling.{Label, Finished, Table, lower, finish_for, try_finish, take_up, treat_label, by_key, choose, treat_of, treat}
use Rattle.labelling.proofs.Members.{Rising}
use Rattle.store.specs.Places.{Reading, is_live, First}
use Rattle.store.specs.Works.{Writing, Work, lower_at, finish_for_at, try_finish_at, take_up_at, treat_at, go_on_to_at, Holds, BestAt, Linked, Clean, Beside, Matches}
use Rattle.store.proofs.Places.{cell_at, treated_not_waiting, treated_live, written, was_inside, chosen_here, taken_up}
use Rattle.store.proofs.Offers.{Stays, holds_kept, best_kept, go_on_to_matches}

module _ {C S : Type 0} (k : Writing C S) (m : Answers S) (places : ℕ) where
  abbrev r : Reading C S
  r = k.reading

  abbrev at : List C → ℕ → C
  at cells i = cell_at k.reading cells i

  abbrev key : Label S → ℕ
  key l = m.key l.state

  module _ (s : Work C) (t : Table S) (b : Beside k m places None s t) (ri : Rising (λ l. l.number) t.waiting) (i : ℕ) (fi : First k.reading (λ l. m.key l.state) s.cells i) where
    abbrev cell : C
    cell = at s.cells i

    abbrev next : List C
    next = set s.cells i (k.mark cell)

    next_long : length next ≡ length s.cells
    next_long = length-set s.cells i (k.mark cell)

    next_stays : Stays k m s.cells next
    next_stays j h q = get_or-set_other s.cells i j (k.mark cell) r.blank (λ z. both_ways (r.is_waiting (at s.cells j)) (treated_not_waiting r (at s.cells j) q) (ap (λ j. r.is_waiting (at s.cells j)) z ∙ fi.here))

    -- the place that is taken up, and each other as it was
    next_each : (P : C → Type 0) (j : ℕ) → P (k.mark cell) → P (at s.cells j) → P (at next j)
    next_each P j a d = written r s.cells i (k.mark cell) fi.within P j (λ _. a) (λ _. d)

    next_linked : Linked k m next
    next_linked j h = next_each Link j
        (λ _ n e. let a = b.linked i fi.within (or_right (r.is_treated cell) (r.is_waiting cell) fi.here) n (ap (λ l. l.parent) (sym (k.mark_view cell)) ∙ e) in (a.0, subst (λ u. Holds k m next u a.0) (sym (k.mark_up cell)) (holds_kept k m s.cells next next_long next_stays (k.up cell) a.0 a.1), a.2))
        (λ lv n e. let a = b.linked j (was_inside r s.cells i (k.mark cell) fi.within j h) lv n e in (a.0, holds_kept k m s.cells next next_long next_stays (k.up (at s.cells j)) a.0 a.1, a.2))
      where
        Link : C → Type 0
        Link z = is_live r z ≡ true → (n : ℕ) → (r.view z).parent ≡ Some n → (q : Label S) × Holds k m next (k.up z) q × (q.number ≡ n)

    next_clean : Clean k m next
    next_clean j h = next_each (λ z. is_live r z ≡ false → z ≡ r.blank) j
        (λ e. absurd (both_ways (is_live r (k.mark cell)) e (treated_live r (k.mark cell) (k.mark_treated cell))))
        (b.clean j (was_inside r s.cells i (k.mark cell) fi.within j h))

    next_holds : Holds k m next i (r.view cell)
    next_holds =
        let e = next_long in
        let l = fi.within in
        let q = get_or-set_same s.cells i (k.mark cell) r.blank l in
        record { within = omega arith; treated = ap r.is_treated q ∙ k.mark_treated cell; is = ap r.view q ∙ k.mark_view cell }

    old_best : BestAt k m next s.best t.best
    old_best = best_kept k m s.cells next next_long next_stays s.best t.best b.best

    lower_best : (z : ℤ) (sb : Option (ℤ × ℕ)) (tb : Option (Finished S)) → BestAt k m next sb tb → BestAt k m next (lower_at k m z i sb) (lower (record { total = z; last = r.view cell }) tb)
    lower_best z None None h = (refl, next_holds)
    lower_best z None (Some f) h = absurd h
    lower_best z (Some d) None h = absurd h
    lower_best z (Some d) (Some f) h = subst (λ y. BestAt k m next (cond (lt_z z y) (Some (z, i)) (Some d)) (cond (lt_z z f.total) (Some (record { total = z; last = r.view cell })) (Some f))) (sym h.0) (by (lt_z z f.total))
      where
        by : (q : Bool) → BestAt k m next (cond q (Some (z, i)) (Some d)) (cond q (Some (record { total = z; last = r.view cell })) (Some f))
        by true = (refl, next_holds)
        by false = h

    next_best : BestAt k m next (try_finish_at k m i (r.view cell) s.best) (try_finish m (r.view cell) t.best)
    next_best = by (eqb (r.view cell).stop 0) (m.finish (r.view cell).state (r.view cell).stop)
      where
        by : (q : Bool) (o : Option ℤ) → BestAt k m next (cond q s.best (finish_for_at k m i (r.view cell) s.best o)) (cond q t.best (finish_for (r.view cell) t.best o))
        by true o = old_best
        by false None = old_best
        by false (Some y) = lower_best ((r.view cell).cost +ℤ y) s.best t.best old_best

    module _ (x : Label S) (xs : List (Label S)) (w : t.waiting ≡ x ∷ xs) where
      abbrev one : Label S
      one = (choose (by_key m) x xs).0

      abbrev others : List (Label S)
      others = (choose (by_key m) x xs).1

      is_one : r.view cell ≡ one
      is_one = chosen_here r s.cells t.treated t.waiting b.stored ri key x xs i w fi

      pub taken_beside : Beside k m places (Some (i, (choose (by_key m) x xs).0)) (take_up_at k m i s) (take_up m (choose (by_key m) x xs).0 (choose (by_key m) x xs).1 t)
      taken_beside = record {
        long = next_long ∙ b.long;
        stored = taken_up r s.cells t.treated t.waiting b.stored ri key x xs i w fi (k.mark cell) (k.mark_treated cell) (k.mark_view cell);
        best = subst (λ p. BestAt k m next (try_finish_at k m i (r.view cell) s.best) (try_finish m p t.best)) is_one next_best;
        held = subst (Holds k m next i) is_one next_holds;
        linked = next_linked;
        clean = next_clean;
        kept = b.kept;
        struck = b.struck;
        turned = b.turned;
      }

      treat_label_matches : Matches k m places (Some (i, one)) (treat_at k m i s) (treat_label m places one others t)
      treat_label_matches = subst (λ p. Matches k m places (Some (i, one)) (go_on_to_at k m i p (range_with_len 1 m.stops) (take_up_at k m i s)) (treat_label m places one others t)) (sym is_one) (go_on_to_matches k m places i one (range_with_len 1 m.stops) (take_up_at k m i s) (take_up m one others t) taken_beside)

    -- a turn
    pub treat_matches : Matches k m places None (treat_at k m i s) (treat m (by_key m) places t)
    treat_matches = by t.waiting refl
      where
        let_go : (h : Option (ℕ × Label S)) (o : Option (Work C)) (q : Option (Table S)) → Matches k m places h o q → Matches k m places None o q
        let_go h None None p = tt
        let_go h None (Some t) p = p
        let_go h (Some s) None p = p
        let_go h (Some s) (Some t) p = record { long = p.long; stored = p.stored; best = p.best; held = tt; linked = p.linked; clean = p.clean; kept = p.kept; struck = p.struck; turned = p.turned }

        by : (ws : List (Label S)) → t.waiting ≡ ws → Matches k m places None (treat_at k m i s) (treat_of m (by_key m) places t ws)
        by [] w = absurd (subst (In (r.view cell)) w (b.stored.waits i fi.within fi.here))
        by (x ∷ xs) w = let_go (Some (i, one x xs w)) (treat_at k m i s) (treat_label m places (one x xs w) (others x xs w) t) (treat_label_matches x xs w)
