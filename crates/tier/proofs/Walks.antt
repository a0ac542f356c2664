-- A replay, stop by stop: what is left to go, and how much it has cost. Assumes nothing.
use Rattle.std.proofs.Common.{◌≡◌, ℕ, ◌+◌, ◌^◌, ◌<◌, ◌≤◌, List, ◌∷◌, length, get_or, drop, ℤ, ◌+ℤ◌, nat_abs, Some, None, sym, ap, ◌∙◌, ⊎_elim, add-one, arith, drop-cons}
use Rattle.std.proofs.lemmas.List.{drop_all}
use Rattle.std.proofs.lemmas.Bool.{cases_lt}
use Rattle.tier.specs.Answers.{Answers, Standing}
use Rattle.tier.specs.Routes.{and_then, plus, replay_from, reduced_cost}
use Rattle.tier.specs.Laws.{Interface, SizeLaws, most_tiers}
use Rattle.tier.proofs.Options.{none_some, plus_plus}

module _ {S : Type 0} (m : Answers S) where
  -- the whole costs what is left, and the cost so far
  abbrev pub Left : List ℕ → ℕ → S → ℕ → ℤ → Type 0
  Left r k s i cost = reduced_cost m r ≡ plus cost (replay_from m s i (drop k r))

  next_stop : (r : List ℕ) (k : ℕ) (s : S) (i : ℕ) (cost : ℤ) → k < length r → Left r k s i cost → reduced_cost m r ≡ plus cost (and_then (m.reach s i (get_or r k 0)) (λ p. plus p.1 (replay_from m p.0 (get_or r k 0) (drop (k + 1) r))))
  next_stop r k s i cost h e = e ∙ ap (λ js. plus cost (replay_from m s i js)) (drop-cons r k 0 h ∙ ap (λ n. get_or r k 0 ∷ drop n r) (sym (add-one k)))

  pub goes_on : (r : List ℕ) (k : ℕ) (s t : S) (i : ℕ) (cost x sum : ℤ) → k < length r → Left r k s i cost → m.reach s i (get_or r k 0) ≡ Some (t, x) → sum ≡ cost +ℤ x → Left r (k + 1) t (get_or r k 0) sum
  goes_on r k s t i cost x sum h e f z =
      next_stop r k s i cost h e
      ∙ ap (λ o. plus cost (and_then o (λ p. plus p.1 (replay_from m p.0 (get_or r k 0) (drop (k + 1) r))))) f
      ∙ plus_plus cost x (replay_from m t (get_or r k 0) (drop (k + 1) r))
      ∙ ap (λ c. plus c (replay_from m t (get_or r k 0) (drop (k + 1) r))) (sym z)

  pub barred_here : (r : List ℕ) (k : ℕ) (s : S) (i : ℕ) (cost : ℤ) → k < length r → Left r k s i cost → m.reach s i (get_or r k 0) ≡ None → reduced_cost m r ≡ None
  barred_here r k s i cost h e f =
      next_stop r k s i cost h e ∙ ap (λ o. plus cost (and_then o (λ p. plus p.1 (replay_from m p.0 (get_or r k 0) (drop (k + 1) r))))) f

  -- all stops are behind
  pub all_behind : (r : List ℕ) (k : ℕ) (s : S) (i : ℕ) (cost : ℤ) → length r ≤ k → Left r k s i cost → reduced_cost m r ≡ plus cost (m.finish s i)
  all_behind r k s i cost h e = e ∙ ap (λ js. plus cost (replay_from m s i js)) (drop_all k r h)

  -- what is reached or finished stands on at most four tiers, so its charge is small
  pub reach_bound : Interface m → SizeLaws m → (i j : ℕ) (s t : S) (x : ℤ) → Standing m i s → m.reach s i j ≡ Some (t, x) → nat_abs x ≤ 2 ^ 38
  reach_bound f l i j s t x st e =
      ⊎_elim
      (λ deep. absurd (none_some (sym ((f.shut_over_four deep).reach_barred s i j) ∙ e)))
      (λ few. let b = l.reach_small few i j s t x st e in omega arith)
      (cases_lt most_tiers m.tiers)

  pub finish_bound : Interface m → SizeLaws m → (i : ℕ) (s : S) (x : ℤ) → Standing m i s → m.finish s i ≡ Some x → nat_abs x ≤ 2 ^ 38
  finish_bound f l i s x st e =
      ⊎_elim
      (λ deep. absurd (none_some (sym ((f.shut_over_four deep).finish_barred s i) ∙ e)))
      (λ few. let b = l.finish_small few i s x st e in omega arith)
      (cases_lt most_tiers m.tiers)
