use Rattle.std.proofs.Common.{ℕ, ◌^◌, ◌≤◌, pos, ◌-ℤ◌, nat_abs, sym, ◌∙◌, subst, arith}
use Rattle.std.proofs.lemmas.Int.{ints}
use Rattle.tier.specs.Layers.{higher}
use Rattle.cuts.specs.Contents.{cuts_of}
use Rattle.cuts.specs.Cuts.{penalties_of}
use Rattle.cuts.proofs.Credits.{credit_below, table_small, not_shut}
use Rattle.cuts.proofs.Loops.{penalties_by}
use Rattle.cuts.proofs.cuts_layer.CutsTier.credit.Given as given
use Rattle.cuts.proofs.cuts_layer.CutsTier.credit.Goals as goal
use Rattle.cuts.proofs.cuts_layer.CutsTier.credit.Goals.{After-penalties}

-- at most four tiers stand, so the credit below and the penalties are small
record Small (g : given.Over) (c : After-penalties g) : Type 0 where
  low : higher (g.B.Tier.meaning.answers (g.B.Tier.value c.args.self.now.below)).tiers ≤ 4
  credit : nat_abs c.credit.result ≤ 2 ^ 38
  penalties : c.penalties.result ≤ 2 ^ 35

small : (g : given.Over) (c : After-penalties g) → Small g c
small g c =
    let d = g.B.Tier.meaning in
    let v = g.B.Tier.value c.args.self.now.below in
    let low : higher (d.answers v).tiers ≤ 4 = subst (λ (n : ℕ). n ≤ 4) c.tiers.ensures c.if-tiers-gt-MOST_TIERS.false in
    let p = table_small c.args.self.now.table in
    let e = c.penalties.ensures ∙ penalties_by (cuts_of c.args.self.now.table) in
    record {
      low = low;
      credit = subst (λ z. nat_abs z ≤ 2 ^ 38) (sym c.credit.ensures) (credit_below d v (g.met.B.Tier.lawful c.args.self.now.below) low);
      penalties = omega arith;
    }

pub overflow_cast-result : goal.overflow_cast-result
overflow_cast-result g c = let s = small g c in omega (arith, ints)

pub overflow_sub-result : goal.overflow_sub-result
overflow_sub-result g c = let s = small g c in omega (arith, ints)

pub returns : goal.returns
returns g c =
    let d = g.B.Tier.meaning in
    let v = g.B.Tier.value c.args.self.now.below in
    let s = small g c in
    let e = c.credit.ensures in
    let p = c.penalties.ensures ∙ penalties_by (cuts_of c.args.self.now.table) in
    not_shut (d.answers v).tiers ((d.answers v).credit -ℤ pos (penalties_of (cuts_of c.args.self.now.table))) _ s.low (omega (arith, ints))
