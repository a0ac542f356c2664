-- A layer that is made of its own part is lawful over every lawful tier. Assumes nothing.
use Rattle.std.proofs.Common.{◌≡◌, ℕ, ◌≤◌, ℤ, subst, ⊎_elim}
use Rattle.tier.specs.Meaning.{Meaning, taken}
use Rattle.tier.specs.Laws.{NoCheaper, Laws, Lawful, most_tiers}
use Rattle.tier.specs.Layers.{higher}
use Rattle.tier.proofs.Shut.{OwedUpToFour}
use Rattle.tier.proofs.Layers.{layer_lawful}
use Rattle.layer.specs.Layers.{Pairing, Kind, LayerValue, layer_at, open_layer, layer, KindLaws}
use Rattle.layer.proofs.Parts.{step_parts}
use Rattle.layer.proofs.Costs.{over_plans, over_no_cheaper, same_walks, same_costs}
use Rattle.layer.proofs.Gaps.{over_gaps}
use Rattle.layer.proofs.SizesAndKeys.{over_sizes, over_keys}
use Rattle.layer.proofs.Calls.{own_tighten_at, GoodTable, tighten_changed, made_layer}

module _ {S M T Table : Type 0} (pair : Pairing S M T) (kind : Kind Table M) (Good : ℕ → Table → Type 0) (owed : KindLaws kind Good) (d : Meaning S) where
  -- a taken tighten of the layer's own makes no route cheaper
  own_no_cheaper : (v : LayerValue d.Value Table) (u : Table) (index set : ℕ) (amount : ℤ) → Laws d v.under → GoodTable Good d v → higher (d.answers v.under).tiers ≤ most_tiers → own_tighten_at pair kind d v index set amount ≡ taken u → NoCheaper ((open_layer pair kind d).answers v) ((open_layer pair kind d).answers (layer_at v.under u))
  own_no_cheaper v u index set amount l h few e =
      let m = d.answers v.under in
      let less = owed.tighten_no_cheaper m.stops v.table u index set amount h e in
      over_no_cheaper pair m (kind.own_of v.table) few l.sizes (owed.own_laws m.stops v.table h) m (kind.own_of u) less (same_costs m)

  -- nor does one that was taken below
  passed_no_cheaper : (v : LayerValue d.Value Table) (x : d.Value) (tier index set : ℕ) (amount : ℤ) → Laws d v.under → GoodTable Good d v → higher (d.answers v.under).tiers ≤ most_tiers → d.tightens v.under tier index set amount ≡ taken x → NoCheaper ((open_layer pair kind d).answers v) ((open_layer pair kind d).answers (layer_at x v.table))
  passed_no_cheaper v x tier index set amount l h few e =
      let m = d.answers v.under in
      let o = kind.own_of v.table in
      let less = l.tighten_no_cheaper x tier index set amount e in
      over_no_cheaper pair m o few l.sizes (owed.own_laws m.stops v.table h) (d.answers x) o (same_walks o) less

  made_no_cheaper : (v w : LayerValue d.Value Table) (tier index set : ℕ) (amount : ℤ) → Laws d v.under → GoodTable Good d v → higher (d.answers v.under).tiers ≤ most_tiers → (open_layer pair kind d).tightens v tier index set amount ≡ taken w → NoCheaper ((open_layer pair kind d).answers v) ((open_layer pair kind d).answers w)
  made_no_cheaper v w tier index set amount l h few e =
      let To = λ (x : LayerValue d.Value Table). NoCheaper ((open_layer pair kind d).answers v) ((open_layer pair kind d).answers x) in
      ⊎_elim
      (λ k. subst To k.same (own_no_cheaper v k.value index set amount l h few k.is))
      (λ k. subst To k.same (passed_no_cheaper v k.value tier index set amount l h few k.is))
      (tighten_changed pair kind d v w tier index set amount e)

  -- up to four tiers it keeps the laws of one value's answers
  made_laws : (v : LayerValue d.Value Table) → Laws d v.under → GoodTable Good d v → higher (d.answers v.under).tiers ≤ most_tiers → OwedUpToFour (open_layer pair kind d) v
  made_laws v l h few =
      let m = d.answers v.under in
      let o = kind.own_of v.table in
      let own = owed.own_laws m.stops v.table h in
      record {
        reach_is_leg = λ s t i j x e.
            let k = step_parts pair m o s t i j x e in
            l.interface.reach_is_leg (pair.below s) (pair.below t) i j k.charge k.below_reaches;
        finish_from_stop = λ s i x e. l.interface.finish_from_stop (pair.below s) i x e;
        gaps = over_gaps pair m o few l.sizes own l.interface l.gaps;
        sizes = over_sizes pair m o few l.sizes own;
        keys = over_keys pair m o l.keys;
        plans = over_plans pair m o few l.sizes own (d.ground_of v.under) l.plans;
        tighten_no_cheaper = λ w tier index set amount e. made_no_cheaper v w tier index set amount l h few e;
      }

-- A layer whose kind keeps its laws, with a table that is good over the stops below, is lawful over a lawful tier.
pub made_lawful : {S M T Table : Type 0} (pair : Pairing S M T) (kind : Kind Table M) (Good : ℕ → Table → Type 0) → KindLaws kind Good → (d : Meaning S) (v : d.Value) (t : Table) → Lawful d v → Good (d.answers v).stops t → Lawful (layer pair kind d) (layer_at v t)
made_lawful pair kind Good owed d v t lawful good = layer_lawful d (open_layer pair kind d) (λ v. v.under) (GoodTable Good d) (made_layer pair kind Good owed d) (made_laws pair kind Good owed d) (layer_at v t) good lawful
