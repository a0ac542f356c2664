-- Counts add up, what is treated stays so, and as many turns as places leave none waiting. Assumes nothing.
use Rattle.std.proofs.Common.{◌≡◌, ℕ, zero, suc, ◌+◌, ◌*◌, ◌<◌, ◌≤◌, Bool, not, List, [], ◌∷◌, ◌++◌, length, Some, None, count_by, filter, Option, sym, refl, ap, ◌∙◌, subst, arith}
use Rattle.std.specs.List.{range_with_len}
use Rattle.std.proofs.lemmas.List.Filters.{length-filter_both}
use Rattle.std.proofs.lemmas.List.{append-nil, append_assoc, length_push, nil_from_length}
use Rattle.std.proofs.lemmas.List.Sums.{length-filter}
use Rattle.tier.specs.Answers.{Answers}
use Rattle.tier.specs.Routes.{and_then}
use Rattle.tier.proofs.Options.{none_some, some_same, and_then_some}
use Rattle.labelling.specs.Labelling.{Label, Table, covers, go_on, go_on_to, child, take_up, treat_label, choose, treat_of, treat, turns, begin, labelling}
use Rattle.labelling.specs.Moments.{Passed, at_first, one_turn}
use Rattle.labelling.specs.Lowest.{Counted, KeepsTreated}
use Rattle.labelling.proofs.Members.{length_others}
use Rattle.labelling.proofs.Holds.{Offered, turned_away, joined, same_treated, WentOn, barred, came, went_on, Turned, none_waits, treats, turned}

module _ {S : Type 0} (m : Answers S) where
  -- WHAT IS TREATED STAYS SO

  gone_on_same : (places : ℕ) (t : Table S) (p : Label S) (j : ℕ) (u : Table S) → WentOn m places t p j u → u.treated ≡ t.treated
  gone_on_same places t p j _ (barred q) = refl
  gone_on_same places t p j _ (came y u q o) = same_treated m places t (child t.kept p j y) u o

  pub going_on_same : (places : ℕ) (p : Label S) (js : List ℕ) (t u : Table S) → go_on_to m places p js t ≡ Some u → u.treated ≡ t.treated
  going_on_same places p [] t u e = ap (λ t. t.treated) (sym (some_same e))
  going_on_same places p (j ∷ js) t u e =
      let b = and_then_some (go_on m places p j t) (go_on_to m places p js) u e in
      going_on_same places p js b.first u b.then ∙ gone_on_same places t p j b.first (went_on m places t b.first p j b.is)

  -- of one turn: the label chosen is added to those treated
  pub treated_more : (places : ℕ) (l : Label S) (others : List (Label S)) (t u : Table S) → treat_label m places l others t ≡ Some u → u.treated ≡ t.treated ++ l ∷ []
  treated_more places l others t u e = going_on_same places l (range_with_len 1 m.stops) (take_up m l others t) u e

  module _ (earlier : S → S → Bool) (places : ℕ) where
    turn_stays : (t u : Table S) → Turned m earlier places t u → KeepsTreated t u
    turn_stays t _ (none_waits w) = ([], sym (append-nil t.treated))
    turn_stays t _ (treats x xs u w e) = ((choose earlier x xs).0 ∷ [], treated_more places (choose earlier x xs).0 (choose earlier x xs).1 t u e)

    pub stays_in_a_turn : (t u : Table S) → treat m earlier places t ≡ Some u → KeepsTreated t u
    stays_in_a_turn t u e = turn_stays t u (turned m earlier places t u e)

    pub stays_treated : (n : ℕ) (t u : Table S) → turns m earlier places n t ≡ Some u → KeepsTreated t u
    stays_treated zero t u e = ([], ap (λ t. t.treated) (sym (some_same e)) ∙ sym (append-nil t.treated))
    stays_treated (suc n) t u e =
        let b = and_then_some (treat m earlier places t) (turns m earlier places n) u e in
        let one = stays_in_a_turn t b.first b.is in
        let rest = stays_treated n b.first u b.then in
        (one.0 ++ rest.0, rest.1 ∙ ap (λ ts. ts ++ rest.0) one.1 ∙ append_assoc t.treated one.0 rest.0)

  -- COUNTS

  -- after so many offers
  pub record Tally (places : ℕ) (t : Table S) (offers : ℕ) : Type 0 where
    pub live_or_struck : t.kept ≡ length t.treated + length t.waiting + t.struck
    pub few : t.kept + t.turned ≤ 1 + offers
    pub room : length t.treated + length t.waiting ≤ places

  tally_more : (places : ℕ) (t : Table S) (k n : ℕ) → k ≤ n → Tally places t k → Tally places t n
  tally_more places t k n l h = let a = h.few in record { live_or_struck = h.live_or_struck; few = omega arith; room = h.room }

  split : (l : Label S) (ws : List (Label S)) → length (filter (λ k. not (covers m l k)) ws) + count_by (covers m l) ws ≡ length ws
  split l ws = let a = length-filter_both (covers m l) (λ k. not (covers m l k)) (λ x. refl) ws in let b = length-filter (covers m l) ws in omega arith

  tally_offer : (places : ℕ) (t : Table S) (l : Label S) (u : Table S) (n : ℕ) → Tally places t n → Offered m places t l u → Tally places u (n + 1)
  tally_offer places t l _ n h (turned_away q) = let a = h.few in record { live_or_struck = h.live_or_struck; few = omega arith; room = h.room }
  tally_offer places t l _ n h (joined q r) =
      let a = h.live_or_struck in
      let c = h.few in
      let d = length_push (filter (λ k. not (covers m l k)) t.waiting) l in
      let f = split l t.waiting in
      record { live_or_struck = omega arith; few = omega arith; room = omega arith }

  pub tally_go_on : (places : ℕ) (t : Table S) (p : Label S) (j : ℕ) (u : Table S) (n : ℕ) → Tally places t n → WentOn m places t p j u → Tally places u (n + 1)
  tally_go_on places t p j _ n h (barred q) = tally_more places t n (n + 1) (omega arith) h
  tally_go_on places t p j _ n h (came y u q o) = tally_offer places t (child t.kept p j y) u n h o

  pub tally_going_on : (places : ℕ) (p : Label S) (k i : ℕ) (t u : Table S) (n : ℕ) → Tally places t n → go_on_to m places p (range_with_len i k) t ≡ Some u → Tally places u (n + k)
  tally_going_on places p zero i t u n h e = subst (λ u. Tally places u (n + zero)) (some_same e) (tally_more places t n (n + zero) (omega arith) h)
  tally_going_on places p (suc k) i t u n h e =
      let b = and_then_some (go_on m places p i t) (go_on_to m places p (range_with_len (i + 1) k)) u e in
      tally_more places u (n + 1 + k) (n + suc k) (omega arith) (tally_going_on places p k (i + 1) b.first u (n + 1) (tally_go_on places t p i b.first n h (went_on m places t b.first p i b.is)) b.then)

  module _ (earlier : S → S → Bool) (places : ℕ) where
    abbrev Counts : Table S → Type 0
    Counts t = Tally places t (length t.treated * m.stops)

    -- the label chosen goes over from the waiting to the treated
    pub tally_up : (t : Table S) (x : Label S) (xs : List (Label S)) (n : ℕ) → t.waiting ≡ x ∷ xs → Tally places t n → Tally places (take_up m (choose earlier x xs).0 (choose earlier x xs).1 t) n
    tally_up t x xs n w h =
        let a = h.live_or_struck in
        let r = h.room in
        let d = length_push t.treated (choose earlier x xs).0 in
        let f = length_others (λ a b. earlier a.state b.state) x xs in
        let g = ap length w in
        record { live_or_struck = omega arith; few = h.few; room = omega arith }

    tally_turn : (t u : Table S) → Counts t → Turned m earlier places t u → Counts u
    tally_turn t _ h (none_waits w) = h
    tally_turn t _ h (treats x xs u w e) =
        let l = (choose earlier x xs).0 in
        let others = (choose earlier x xs).1 in
        let r = tally_going_on places l m.stops 1 (take_up m l others t) u (length t.treated * m.stops) (tally_up t x xs (length t.treated * m.stops) w h) e in
        let d = ap length (treated_more places l others t u e) ∙ length_push t.treated l in
        tally_more places u (length t.treated * m.stops + m.stops) (length u.treated * m.stops) (rw d (omega arith)) r

    pub tally_passed : 0 < places → (t : Table S) → Passed m earlier places t → Counts t
    tally_passed a _ at_first = record { live_or_struck = refl; few = omega arith; room = omega arith }
    tally_passed a _ (one_turn {t} u p e) = tally_turn t u (tally_passed a t p) (turned m earlier places t u e)

    pub counts_add_up : 0 < places → (t : Table S) → Passed m earlier places t → Counted m places t
    counts_add_up a t p = let h = tally_passed a t p in record { live_or_struck = h.live_or_struck; few = h.few; room = h.room }

    -- IT ENDS

    pub turns_passed : (n : ℕ) (t u : Table S) → Passed m earlier places t → turns m earlier places n t ≡ Some u → Passed m earlier places u
    turns_passed zero t u p e = subst (Passed m earlier places) (some_same e) p
    turns_passed (suc n) t u p e =
        let b = and_then_some (treat m earlier places t) (turns m earlier places n) u e in
        turns_passed n b.first u (one_turn b.first p b.is) b.then

    pub labelling_passed : (u : Table S) → labelling m earlier places ≡ Some u → Passed m earlier places u
    labelling_passed u e = turns_passed places (begin m) u at_first e

    -- where none waits, more turns change nothing
    pub turns_done : (n : ℕ) (t : Table S) → t.waiting ≡ [] → turns m earlier places n t ≡ Some t
    turns_done zero t w = refl
    turns_done (suc n) t w = ap (λ ws. and_then (treat_of m earlier places t ws) (turns m earlier places n)) w ∙ turns_done n t w

    -- so turns until none waits are as good as more of them, and places that do not suffice stay too few
    pub turns_enough : (k n : ℕ) (t u : Table S) → k ≤ n → u.waiting ≡ [] → turns m earlier places k t ≡ Some u → turns m earlier places n t ≡ Some u
    turns_enough zero n t u l w e = subst (λ v. turns m earlier places n v ≡ Some u) (sym (some_same e)) (turns_done n u w)
    turns_enough (suc k) zero t u l w e = absurd (omega arith)
    turns_enough (suc k) (suc n) t u l w e =
        let b = and_then_some (treat m earlier places t) (turns m earlier places k) u e in
        ap (λ o. and_then o (turns m earlier places n)) b.is ∙ turns_enough k n b.first u (omega arith) w b.then

    pub turns_too_few : (k n : ℕ) (t : Table S) → k ≤ n → turns m earlier places k t ≡ None → turns m earlier places n t ≡ None
    turns_too_few zero n t l e = absurd (none_some (sym e))
    turns_too_few (suc k) zero t l e = absurd (omega arith)
    turns_too_few (suc k) (suc n) t l e = by (λ v. turns_too_few k n v (omega arith)) (treat m earlier places t) e
      where
        by : ((v : Table S) → turns m earlier places k v ≡ None → turns m earlier places n v ≡ None) → (o : Option (Table S)) → and_then o (turns m earlier places k) ≡ None → and_then o (turns m earlier places n) ≡ None
        by more None z = refl
        by more (Some v) z = more v z

    none_left : (n : ℕ) (t u : Table S) → 0 < places → Passed m earlier places t → places ≤ n + length t.treated → turns m earlier places n t ≡ Some u → u.waiting ≡ []
    none_left zero t u a p l e = subst (λ u. u.waiting ≡ []) (some_same e) (nil_from_length t.waiting (let r = (tally_passed a t p).room in omega arith))
    none_left (suc n) t u a p l e =
        let b = and_then_some (treat m earlier places t) (turns m earlier places n) u e in
        by (none_left n b.first u a (one_turn b.first p b.is)) b.then (turned m earlier places t b.first b.is)
      where
        by : {v : Table S} → (places ≤ n + length v.treated → turns m earlier places n v ≡ Some u → u.waiting ≡ []) → turns m earlier places n v ≡ Some u → Turned m earlier places t v → u.waiting ≡ []
        by more then (none_waits w) = ap (λ u. u.waiting) (sym (some_same (sym (turns_done n t w) ∙ then))) ∙ w
        by more then (treats x xs v w f) = more (let d = ap length (treated_more places (choose earlier x xs).0 (choose earlier x xs).1 t v f) ∙ length_push t.treated (choose earlier x xs).0 in omega arith) then

    pub ends : (u : Table S) → 0 < places → labelling m earlier places ≡ Some u → u.waiting ≡ []
    ends u a e = none_left places (begin m) u a at_first (omega arith) e
