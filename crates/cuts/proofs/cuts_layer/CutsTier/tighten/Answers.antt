use Rattle.std.proofs.Common.{ℕ, ◌∙◌, subst, w64, SFits}
use Rattle.std.proofs.lemmas.Int.{to_z-of_z}
use Rattle.tier.specs.Refusals.{Did}
use Rattle.cuts.specs.Contents.{cuts_of}
use Rattle.cuts.specs.Tables.{tighten_cut}
use Rattle.cuts.proofs.Gives.{did_own}
use Rattle.cuts.proofs.cuts_layer.CutsTier.tighten.Goals as goal

pub returns-then-tier-tiers : goal.returns-then-tier-tiers
returns-then-tier-tiers g c =
    let d = g.B.Tier.meaning in
    let v = g.B.Tier.value c.args.self.now.below in
    let cs = cuts_of c.args.self.now.table in
    let after = cuts_of c.tighten.new.self in
    let set = c.args.members.word in
    let fits : SFits w64 c.args.amount = c.ranges.amount in
    did_own v cs (tighten_cut (d.answers v).stops cs c.args.index set c.args.amount) (d.tightens v c.args.tier c.args.index set c.args.amount) _ c.args.tier c.tighten.result after (c.if-tier-tiers.true ∙ c.tiers.ensures)
    (subst (λ (n : ℕ). Did (tighten_cut n cs c.args.index set c.args.amount) cs c.tighten.result after) c.stops.ensures (simp to_z-of_z at c.tighten.ensures))
