-- What the end of labelling tells. Assumes nothing.
use Rattle.std.proofs.Common.{◌≡◌, ℕ, ◌-◌, ◌^◌, ◌≤◌, List, ◌++◌, length, take, replicate, ℤ, nat_abs, Some, None, Option, sym, refl, ap, ◌∙◌, subst, arith}
use Rattle.std.proofs.lemmas.List.{take-append-le, take_all}
use Rattle.tier.specs.Answers.{Answers}
use Rattle.tier.specs.Laws.{SizeLaws, KeyLaws, most_tiers, greatest_key}
use Rattle.tier.proofs.Options.{some_same}
use Rattle.labelling.specs.Labelling.{Finished, Table, by_key, labelling, route_to}
use Rattle.labelling.specs.Moments.{Passed}
use Rattle.labelling.proofs.Ends.{labelling_passed}
use Rattle.labelling.proofs.Small.{stays_small}
use Rattle.store.specs.Works.{BestAt, Holds}
use Rattle.calls.specs.Calls.{lowest, floor, found, counts as table_counts}
use Rattle.price.specs.declared.label.Label.{Label as Cell}
use Rattle.price.specs.declared.progress.Progress.{Progress}
use Rattle.price.specs.Labels.{writing}
use Rattle.price.specs.Prices.{counts, stops_in, row_after, ToldFrom}
use Rattle.price.specs.Routes.{way_back}
use Rattle.price.proofs.Files.{way_is}

module _ {S : Type 0} (m : Answers S) (places : ℕ) (cells : List (Cell S)) (p : Progress) (d : ToldFrom m places cells p) where
  abbrev t : Table S
  t = d.table

  pub passed : Passed m (by_key m) places t
  passed = labelling_passed m (by_key m) places t d.ends

  -- any table that labelling ends with is this one
  pub the_table : (u : Table S) → labelling m (by_key m) places ≡ Some u → t ≡ u
  the_table u e = some_same (sym d.ends ∙ e)

  -- the best total, with the place of its last label
  pub record Best (cost : ℤ) (last : ℕ) : Type 0 where
    pub best : Finished S
    pub is : t.best ≡ Some best
    pub cost_is : cost ≡ best.total
    pub holds : Holds (writing m.start) m cells last best.last

  pub best_of : (cost : ℤ) (last : ℕ) → p.best ≡ Some (cost, last) → Best cost last
  best_of cost last e = by t.best refl (subst (λ o. BestAt (writing m.start) m cells o t.best) e d.beside.best)
    where
      by : (o : Option (Finished S)) → t.best ≡ o → BestAt (writing m.start) m cells (Some (cost, last)) o → Best cost last
      by None q h = absurd h
      by (Some f) q h = record { best = f; is = q; cost_is = h.0; holds = h.1 }

  counted : counts p.counts ≡ table_counts t
  counted = λ j. record { kept = d.beside.kept j; struck = d.beside.struck j; turned = d.beside.turned j }

  module _ (cost : ℤ) (last : ℕ) (b : Best cost last) where
    way : way_back cells last ≡ route_to t b.best.last
    way = way_is m places cells p t passed d.beside last b.best.last b.holds

    module _ (low : m.tiers ≤ most_tiers) (sizes : SizeLaws m) (keys : KeyLaws m) where
      pub short : length (way_back cells last) ≤ greatest_key
      short = let s = (stays_small m keys low sizes (by_key m) places t passed).short b.best b.is in let e = ap length way in omega arith

      pub small : nat_abs cost ≤ 2 ^ 50
      small =
          let s = (stays_small m keys low sizes (by_key m) places t passed).total b.best b.is in
          let e = ap nat_abs b.cost_is in
          omega arith

    -- the answer, and the row
    pub tells : (vans stops : ℕ) (z : ℤ) (before after : List ℕ) → stops ≡ length (way_back cells last) → after ≡ way_back cells last ++ replicate (length before - length (way_back cells last)) 0 → z ≡ floor m vans cost → (lowest cost (take stops after) z (counts p.counts) ≡ found m vans t t.best) × (stops ≡ stops_in (found m vans t t.best)) × (after ≡ row_after (found m vans t t.best) before)
    tells vans stops z before after n r f =
        let whole : take stops after ≡ way_back cells last = ap (take stops) r ∙ ap (λ k. take k (way_back cells last ++ replicate (length before - length (way_back cells last)) 0)) n ∙ take-append-le (length (way_back cells last)) (way_back cells last) (replicate (length before - length (way_back cells last)) 0) (omega arith) ∙ take_all (length (way_back cells last)) (way_back cells last) (omega arith) in
        let said : found m vans t t.best ≡ lowest b.best.total (route_to t b.best.last) (floor m vans b.best.total) (table_counts t) = ap (found m vans t) b.is in (
          (λ j. lowest (b.cost_is j) ((whole ∙ way) j) ((f ∙ ap (floor m vans) b.cost_is) j) (counted j)) ∙ sym said,
          n ∙ ap length way ∙ sym (ap stops_in said),
          r ∙ ap (λ w. w ++ replicate (length before - length w) 0) way ∙ sym (ap (λ a. row_after a before) said),
        )
