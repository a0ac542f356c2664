-- A label that tries to finish, and that goes on. Assumes nothing.
use Rattle.std.proofs.Common.{◌≡◌, ℕ, ◌^◌, ◌≤◌, cond, List, get_or, set, ℤ, ◌+ℤ◌, nat_abs, Some, None, Option, sym, refl, ap, ◌∙◌, arith, w64, to_z, of_z, SFits}
use Rattle.std.specs.List.{range_with_len}
use Rattle.std.proofs.lemmas.Bool.{ne_eqb}
use Rattle.std.proofs.lemmas.Int.{ints}
use Rattle.tier.specs.Answers.{Answers}
use Rattle.tier.specs.Laws.{Interface, SizeLaws}
use Rattle.tier.proofs.Walks.{reach_bound}
use Rattle.labelling.specs.Labelling.{Label}
use Rattle.store.specs.Works.{Work, offer_at, offer_reached_at, go_on_at, go_on_to_at, lower_at, finish_for_at, try_finish_at, treat_at}
use Rattle.price.specs.declared.label.Label.{Label as Cell}
use Rattle.price.specs.declared.label.Status.TheVariants.{Waiting}
use Rattle.price.specs.declared.progress.Progress.{Progress}
use Rattle.price.specs.Labels.{blank, view, marked, writing}
use Rattle.price.specs.Progress.{work, lower, Sound}

module _ {S : Type 0} (m : Answers S) where
  lower_is : (z : ℤ) (i : ℕ) (best : Option (ℤ × ℕ)) → lower z i best ≡ lower_at (writing m.start) m z i best
  lower_is z i None = refl
  lower_is z i (Some b) = refl

  pub finishes : (l : Label S) (place : ℕ) (best : Option (ℤ × ℕ)) (y z : ℤ) → (l.stop ≡ 0 → ⊥) → m.finish l.state l.stop ≡ Some y → z ≡ l.cost +ℤ y → lower z place best ≡ try_finish_at (writing m.start) m place l best
  finishes l place best y z away f e =
      lower_is z place best ∙ ap (λ z. lower_at (writing m.start) m z place best) e
      ∙ sym (ap (λ b. cond b best (finish_for_at (writing m.start) m place l best (m.finish l.state l.stop))) (ne_eqb l.stop 0 away) ∙ ap (finish_for_at (writing m.start) m place l best) f)

  -- a charge fits into a cost
  pub charged : Interface m → SizeLaws m → (c : Cell S) (stop : ℕ) (a : S × ℤ) → Sound m c → Some a ≡ m.reach c.state c.stop stop → SFits w64 (to_z w64 (of_z w64 c.cost) +ℤ to_z w64 (of_z w64 a.1)) × (to_z w64 (of_z w64 (to_z w64 (of_z w64 c.cost) +ℤ to_z w64 (of_z w64 a.1))) ≡ c.cost +ℤ a.1)
  charged f l c stop a s e =
      let h : nat_abs a.1 ≤ 2 ^ 38 = reach_bound m f l _ _ _ _ _ s.stands (sym e) in
      let k = s.small in
      (omega (arith, ints), omega (arith, ints))

  pub goes : (p : Cell S) (place stop kept : ℕ) (w : Work (Cell S)) (a : S × ℤ) (z : ℤ) → m.reach p.state p.stop stop ≡ Some a → z ≡ p.cost +ℤ a.1 → kept ≡ w.kept → offer_at (writing m.start) m (record { stop = stop; state = a.0; cost = z; parent = Some (record { place = place; number = p.number }); number = kept; status = Waiting }) w ≡ go_on_at (writing m.start) m place (view p) stop w
  goes p place stop kept w a z r e n =
      ap (λ z. offer_at (writing m.start) m (record { stop = stop; state = a.0; cost = z; parent = Some (record { place = place; number = p.number }); number = kept; status = Waiting }) w) e
      ∙ ap (λ n. offer_at (writing m.start) m (record { stop = stop; state = a.0; cost = p.cost +ℤ a.1; parent = Some (record { place = place; number = p.number }); number = n; status = Waiting }) w) n
      ∙ ap (offer_reached_at (writing m.start) m place (view p) stop w) (sym r)

  -- the label x at a place is marked, has tried to finish, and goes on
  pub treats : (cells : List (Cell S)) (p : Progress) (place : ℕ) (x : Cell S) (best : Option (ℤ × ℕ)) → x ≡ get_or cells place (blank m.start) → best ≡ try_finish_at (writing m.start) m place (view x) p.best → go_on_to_at (writing m.start) m place (view x) (range_with_len 1 m.stops) (record { cells = set cells place (marked x); best = best; kept = p.counts.kept; struck = p.counts.struck; turned = p.counts.turned }) ≡ treat_at (writing m.start) m place (work cells p)
  treats cells p place x best e f =
      ap (λ b. go_on_to_at (writing m.start) m place (view x) (range_with_len 1 m.stops) (record { cells = set cells place (marked x); best = b; kept = p.counts.kept; struck = p.counts.struck; turned = p.counts.turned })) f
      ∙ ap (λ (x : Cell S). go_on_to_at (writing m.start) m place (view x) (range_with_len 1 m.stops) (record { cells = set cells place (marked x); best = try_finish_at (writing m.start) m place (view x) p.best; kept = p.counts.kept; struck = p.counts.struck; turned = p.counts.turned })) e
