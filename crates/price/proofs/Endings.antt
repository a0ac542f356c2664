-- The ways out of a price that was not refused early. Assumes nothing.
use Rattle.std.proofs.Common.{◌≡◌, ℕ, List, length, Some, None, Ok, Option, sym, refl, ap, ◌∙◌, subst, Bor}
use Rattle.tier.specs.declared.Tier.{Ghosts}
use Rattle.tier.specs.Answers.{Answers}
use Rattle.tier.proofs.Options.{none_some}
use Rattle.labelling.specs.Labelling.{Table, by_key, labelling}
use Rattle.labelling.proofs.Ends.{labelling_passed, ends}
use Rattle.store.specs.Works.{Matches}
use Rattle.calls.specs.Calls.{early_refusal, found, labelled, unless_refused, priced}
use Rattle.calls.proofs.Floors.{Allowed, allowed_or}
use Rattle.price.specs.declared.answer.Priced.{Priced}
use Rattle.price.specs.declared.desk.Desk.{Desk}
use Rattle.price.specs.declared.label.Label.{Label as Cell}
use Rattle.price.specs.declared.progress.Progress.{Progress}
use Rattle.price.specs.Labels.{writing}
use Rattle.price.specs.Desks.{answers, hand, so_far}
use Rattle.price.specs.Prices.{stops_in, row_after, StoreAfter, IsPriced, Labelled, ToldFrom, Tells}
use Rattle.price.proofs.Files.{files}

-- Labelling went well from a desk at the tier r.
module _ {X S : Type 0} (t : Ghosts X S) (r : Bor X) (places : ℕ) where
  abbrev m : Answers S
  m = t.meaning.answers (t.value r.now)

  -- this is the store then
  pub labelled_ok : (first last : Desk X S t) (after : List (Cell S)) → first.tier ≡ r → length first.store.now ≡ places → after ≡ last.store.now → Matches (hand first) (answers first) (length first.store.now) None (Some (so_far last)) (labelling (answers first) (by_key (answers first)) (length first.store.now)) → Labelled m places (labelling m (by_key m) places) (Ok last.progress) after
  labelled_ok first last after same n e h =
      subst (Labelled m places (labelling m (by_key m) places) (Ok last.progress)) (sym e) (by (labelling m (by_key m) places)
      (subst (λ k. Matches (writing m.start) m k None (Some (so_far last)) (labelling m (by_key m) k)) n
      (subst (λ (m : Answers S). Matches (writing m.start) m (length first.store.now) None (Some (so_far last)) (labelling m (by_key m) (length first.store.now))) (ap (λ r. t.meaning.answers (t.value r.now)) same) h)))
    where
      by : (o : Option (Table S)) → Matches (writing m.start) m places None (Some (so_far last)) o → Labelled m places o (Ok last.progress) last.store.now
      by None h = h
      by (Some u) h = h

module _ {S : Type 0} (m : Answers S) (vans : ℕ) (before : List (Cell S)) (held : List ℕ) (e : None ≡ early_refusal m vans (length before) (length held)) where
  abbrev places : ℕ
  places = length before

  pub allowed : Allowed m vans places (length held)
  allowed = allowed_or m vans places (length held) (λ o. None ≡ o → Allowed m vans places (length held)) (λ n q. absurd (none_some q)) (λ a _. a) e

  -- labelling ended
  pub told_from : (cells : List (Cell S)) (q : Progress) → Labelled m places (labelling m (by_key m) places) (Ok q) cells → ToldFrom m places cells q
  told_from cells q h = by (labelling m (by_key m) places) refl h
    where
      by : (o : Option (Table S)) → labelling m (by_key m) places ≡ o → Labelled m places o (Ok q) cells → ToldFrom m places cells q
      by None z h = absurd h
      by (Some t) z h = record { table = t; ends = z; beside = h }

  -- and what is told is what price gives
  pub prices : (cells : List (Cell S)) (q : Progress) → Labelled m places (labelling m (by_key m) places) (Ok q) cells → (p : Priced ℕ) (left : List ℕ) → length cells ≡ places → Tells m vans (length cells) p held left → IsPriced m vans before cells held left (Ok p)
  prices cells q h p left n tells =
      let d = told_from cells q h in
      let s = tells d.table (ap (labelling m (by_key m)) n ∙ d.ends) in
      let is : priced m (by_key m) vans places (length held) ≡ found m vans d.table d.table.best = sym (ap (λ o. unless_refused o (labelled m vans (labelling m (by_key m) places))) e) ∙ ap (labelled m vans) d.ends in
      let f = files m places cells q d.table (labelling_passed m (by_key m) places d.table d.ends) d.beside (ends m (by_key m) places d.table allowed.some_places d.ends) in
      record {
        answer = s.0 ∙ sym is;
        stops = s.1 ∙ sym (ap stops_in is);
        row = s.2 ∙ sym (ap (λ a. row_after a held) is);
        store = subst (λ o. StoreAfter m o (labelling m (by_key m) places) before cells) e (subst (λ o. StoreAfter m None o before cells) (sym d.ends) f);
      }
