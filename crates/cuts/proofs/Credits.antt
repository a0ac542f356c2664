-- The credit of a layer of cuts stays within a word. Assumes nothing.
use Rattle.std.proofs.Common.{◌≡◌, ℕ, ◌^◌, ◌≤◌, cond, ltb, ℤ, pos, nat_abs, sym, ◌∙◌, arith}
use Rattle.std.proofs.lemmas.Bool.{le-ltb, cond-false}
use Rattle.tier.specs.Meaning.{Meaning, here}
use Rattle.tier.specs.Layers.{higher}
use Rattle.tier.specs.Laws.{Lawful}
use Rattle.cuts.specs.declared.table.CutTable.{CutTable}
use Rattle.cuts.specs.Contents.{cuts_of}
use Rattle.cuts.specs.Cuts.{penalties_of}
use Rattle.cuts.specs.Arrays.{table_good}
use Rattle.cuts.specs.Owns.{penalties_small}

-- below four tiers the credit is small
pub credit_below : {S : Type 0} (d : Meaning S) (v : d.Value) → Lawful d v → higher (d.answers v).tiers ≤ 4 → nat_abs (d.answers v).credit ≤ 2 ^ 38
credit_below d v lawful low =
    let few : (d.answers v).tiers ≤ 3 = omega arith in
    let small = (lawful v here).sizes.credit_small (omega arith) in
    omega arith

pub table_small : (t : CutTable) → penalties_of (cuts_of t) ≤ 2 ^ 35
table_small t = penalties_small (cuts_of t) (table_good 0 t)

pub not_shut : (tiers : ℕ) (credit sum : ℤ) → higher tiers ≤ 4 → sum ≡ credit → sum ≡ cond (ltb 4 (higher tiers)) (pos 0) credit
not_shut tiers credit sum low e = e ∙ sym (cond-false (ltb 4 (higher tiers)) (pos 0) credit (le-ltb _ _ low))
