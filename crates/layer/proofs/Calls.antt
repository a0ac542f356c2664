-- A taken call changed the layer's own table, or was taken below; what the layer keeps still holds. Assumes nothing.
use Rattle.std.proofs.Common.{◌≡◌, ℕ, ◌⊎◌, ℤ, sym, refl, ap, ◌∙◌, subst, inl, inr, ⊎_elim}
use Rattle.tier.specs.Meaning.{Meaning, Outcome, taken, lifted}
use Rattle.tier.specs.Laws.{Laws}
use Rattle.tier.specs.Layers.{higher, own_or_below}
use Rattle.tier.proofs.Outcomes.{TakenInside, lifted_taken}
use Rattle.tier.proofs.Layers.{own_or_below_taken, Layer}
use Rattle.layer.specs.Layers.{Pairing, Kind, LayerValue, layer_at, open_layer, KindLaws}

module _ {V Table : Type 0} (v : V) (t : Table) (own : Outcome Table) (down : Outcome V) (w : LayerValue V Table) where
  -- of a layer at v and t: `own` is what its own call gives, and `down` what the call gives below
  abbrev pub Changed : Type 0
  Changed = TakenInside (layer_at v) own w ⊎ TakenInside (λ x. layer_at x t) down w

  call_changed : (tiers tier : ℕ) → own_or_below tiers tier (lifted (layer_at v) own) (lifted (λ x. layer_at x t) down) ≡ taken w → Changed
  call_changed tiers tier e =
      ⊎_elim
      (λ f. inl (lifted_taken (layer_at v) own w f))
      (λ f. inr (lifted_taken (λ x. layer_at x t) down w f))
      (own_or_below_taken tiers tier (lifted (layer_at v) own) (lifted (λ x. layer_at x t) down) w e)

  changed_below : Changed → (v ≡ w.under) ⊎ (down ≡ taken w.under)
  changed_below =
      ⊎_elim
      (λ k. inl (ap (λ (x : LayerValue V Table). x.under) k.same))
      (λ k. inr (k.is ∙ ap (λ (x : LayerValue V Table). taken x.under) k.same))

module _ {S M T Table : Type 0} (pair : Pairing S M T) (kind : Kind Table M) (d : Meaning S) where
  -- what an own call of the layer at v gives
  abbrev pub own_set_at : LayerValue d.Value Table → ℕ → ℤ → Outcome Table
  own_set_at v index amount = kind.own_set (d.answers v.under).stops v.table index amount

  abbrev pub own_tighten_at : LayerValue d.Value Table → ℕ → ℕ → ℤ → Outcome Table
  own_tighten_at v index set amount = kind.own_tighten (d.answers v.under).stops v.table index set amount

  pub set_changed : (v w : LayerValue d.Value Table) (tier index : ℕ) (amount : ℤ) → (open_layer pair kind d).sets v tier index amount ≡ taken w → Changed v.under v.table (own_set_at v index amount) (d.sets v.under tier index amount) w
  set_changed v w tier index amount e = call_changed v.under v.table (own_set_at v index amount) (d.sets v.under tier index amount) w (higher (d.answers v.under).tiers) tier e

  pub tighten_changed : (v w : LayerValue d.Value Table) (tier index set : ℕ) (amount : ℤ) → (open_layer pair kind d).tightens v tier index set amount ≡ taken w → Changed v.under v.table (own_tighten_at v index set amount) (d.tightens v.under tier index set amount) w
  tighten_changed v w tier index set amount e = call_changed v.under v.table (own_tighten_at v index set amount) (d.tightens v.under tier index set amount) w (higher (d.answers v.under).tiers) tier e

-- the layer's table is good over the stops below
abbrev pub GoodTable : {S Table : Type 0} → (ℕ → Table → Type 0) → (d : Meaning S) → LayerValue d.Value Table → Type 0
GoodTable Good d v = Good (d.answers v.under).stops v.table

module _ {S M T Table : Type 0} (pair : Pairing S M T) (kind : Kind Table M) (Good : ℕ → Table → Type 0) (owed : KindLaws kind Good) (d : Meaning S) where
  set_good : (v w : LayerValue d.Value Table) (tier index : ℕ) (amount : ℤ) → Laws d v.under → GoodTable Good d v → (open_layer pair kind d).sets v tier index amount ≡ taken w → GoodTable Good d w
  set_good v w tier index amount l h e =
      ⊎_elim
      (λ k. subst (GoodTable Good d) k.same (owed.set_good (d.answers v.under).stops v.table k.value index amount h k.is))
      (λ k. subst (GoodTable Good d) k.same (subst (λ n. Good n v.table) (sym (l.set_keeps k.value tier index amount k.is).stops) h))
      (set_changed pair kind d v w tier index amount e)

  tighten_good : (v w : LayerValue d.Value Table) (tier index set : ℕ) (amount : ℤ) → Laws d v.under → GoodTable Good d v → (open_layer pair kind d).tightens v tier index set amount ≡ taken w → GoodTable Good d w
  tighten_good v w tier index set amount l h e =
      ⊎_elim
      (λ k. subst (GoodTable Good d) k.same (owed.tighten_good (d.answers v.under).stops v.table k.value index set amount h k.is))
      (λ k. subst (GoodTable Good d) k.same (subst (λ n. Good n v.table) (sym (l.tighten_keeps k.value tier index set amount k.is).stops) h))
      (tighten_changed pair kind d v w tier index set amount e)

  -- it stands on the tier below as every layer does
  pub made_layer : Layer d (open_layer pair kind d) (λ v. v.under) (GoodTable Good d)
  made_layer = record {
    stops = λ v. refl;
    tiers = λ v. refl;
    start_key = λ v. ap (d.answers v.under).key (pair.below_join (d.answers v.under).start (kind.own_of v.table).first);
    ground_of = λ v. refl;
    set_below = λ v w tier index amount e.
        changed_below v.under v.table (own_set_at pair kind d v index amount) (d.sets v.under tier index amount) w
        (set_changed pair kind d v w tier index amount e);
    tighten_below = λ v w tier index set amount e.
        changed_below v.under v.table (own_tighten_at pair kind d v index set amount) (d.tightens v.under tier index set amount) w
        (tighten_changed pair kind d v w tier index set amount e);
    set_holds = set_good;
    tighten_holds = tighten_good;
  }
