-- The ways out of an offer. Assumes nothing.
use Rattle.std.proofs.Common.{◌≡◌, ℕ, ◌+◌, ◌-◌, ◌≤◌, false, cond, Bool, List, [], ◌∷◌, map, length, drop, set, Some, None, count_by, Option, sym, refl, ap, ◌∙◌, subst, arith}
use Rattle.std.specs.List.{AllByRecursion}
use Rattle.std.proofs.lemmas.List.{length-map, drop-drop}
use Rattle.std.proofs.ByRecursion.{All-drop}
use Rattle.tier.specs.Answers.{Answers}
use Rattle.store.specs.Works.{Work, first_blank, covered_at, falls, strike_at, turn_away_at, keep_at, offer_at}
use Rattle.price.specs.declared.label.Label.{Label as Cell}
use Rattle.price.specs.declared.progress.Progress.{Progress}
use Rattle.price.specs.Labels.{blank, is_live, writing}
use Rattle.price.specs.Places.{Unused, first_free}
use Rattle.price.specs.Progress.{work}
use Rattle.price.proofs.Maps.{blanked, rest_blank}

-- WHICH PLACES ARE USED

module _ {S : Type 0} (start : S) (used : ℕ) (cells : List (Cell S)) (u : Unused start used cells) where
  -- more places count as used
  pub unused_wider : (more : ℕ) → used ≤ more → more ≤ length cells → Unused start more cells
  unused_wider more h k = record {
    within = k;
    rest = subst (AllByRecursion (λ c. c ≡ blank start)) (drop-drop (more - used) used cells ∙ ap (λ i. drop i cells) (omega arith)) (All-drop (λ (c : Cell S). c ≡ blank start) (more - used) (drop used cells) u.rest);
  }

  -- labels are struck
  pub unused_struck : (p : Cell S → Bool) → p (blank start) ≡ false → Unused start used (map (blanked p (blank start)) cells)
  unused_struck p none =
      let n = length-map cells (blanked p (blank start)) in
      let w = u.within in
      record { within = omega arith; rest = rest_blank p (blank start) cells used none u.rest }

-- THE WAYS OUT

module _ {S : Type 0} (m : Answers S) where
  abbrev s : S
  s = m.start

  free_is : (i : ℕ) (cells : List (Cell S)) → first_blank (writing s) m i cells ≡ first_free i cells
  free_is i [] = refl
  free_is i (c ∷ cs) = ap (λ o. cond (is_live c.status) o (Some i)) (free_is (i + 1) cs)

  put : (l : Cell S) (cells after : List (Cell S)) (p : Progress) (o : Option ℕ) → false ≡ covered_at (writing s) m l cells → after ≡ strike_at (writing s) m l cells → o ≡ first_free 0 after → offer_at (writing s) m l (work cells p) ≡ keep_at (writing s) m l (work cells p) o
  put l cells after p o b a f =
      let free : first_blank (writing s) m 0 (strike_at (writing s) m l cells) ≡ o = free_is 0 (strike_at (writing s) m l cells) ∙ ap (first_free 0) (sym a) ∙ sym f in
      ap (λ t. cond t (Some (turn_away_at (writing s) m (work cells p))) (keep_at (writing s) m l (work cells p) (first_blank (writing s) m 0 (strike_at (writing s) m l cells)))) (sym b) ∙ ap (keep_at (writing s) m l (work cells p)) free

  pub crowded : (l : Cell S) (cells after : List (Cell S)) (p : Progress) → false ≡ covered_at (writing s) m l cells → after ≡ strike_at (writing s) m l cells → None ≡ first_free 0 after → None ≡ offer_at (writing s) m l (work cells p)
  crowded l cells after p b a f = sym (put l cells after p None b a f)

  pub keeps : (l : Cell S) (cells after : List (Cell S)) (p : Progress) (i n : ℕ) → false ≡ covered_at (writing s) m l cells → after ≡ strike_at (writing s) m l cells → n ≡ count_by (falls (writing s) m l) cells → Some i ≡ first_free 0 after → ◌≡◌ {A = Option (Work (Cell S))} (Some (record { cells = set after i l; best = p.best; kept = p.counts.kept + 1; struck = p.counts.struck + n; turned = p.counts.turned })) (offer_at (writing s) m l (work cells p))
  keeps l cells after p i n b a d f =
      let r : Some (record { cells = set after i l; best = p.best; kept = p.counts.kept + 1; struck = p.counts.struck + n; turned = p.counts.turned }) ≡ keep_at (writing s) m l (work cells p) (Some i) = λ j. Some (record { cells = set (a j) i l; best = p.best; kept = p.counts.kept + 1; struck = p.counts.struck + d j; turned = p.counts.turned }) in
      r ∙ sym (put l cells after p (Some i) b a f)
