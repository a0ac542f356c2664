use Rattle.std.proofs.Common.{sym, ◌∙◌, subst, w64, SFits}
use Rattle.std.proofs.lemmas.Int.{to_z-of_z}
use Rattle.tier.specs.Meaning.{lifted}
use Rattle.tier.specs.Layers.{higher, own_or_below}
use Rattle.tier.specs.Refusals.{Did}
use Rattle.layer.specs.Layers.{layer_at}
use Rattle.cuts.specs.Contents.{cuts_of}
use Rattle.cuts.specs.Tables.{set_penalty}
use Rattle.cuts.proofs.Gives.{did_own}
use Rattle.cuts.proofs.cuts_layer.CutsTier.set.Goals as goal

pub returns-then-tier-tiers : goal.returns-then-tier-tiers
returns-then-tier-tiers g c =
    let d = g.B.Tier.meaning in
    let v = g.B.Tier.value c.args.self.now.below in
    let cs = cuts_of c.args.self.now.table in
    let fits : SFits w64 c.args.amount = c.ranges.amount in
    let after = cuts_of c.set_own.new.self.table in
    subst (λ b. Did (own_or_below (higher (d.answers v).tiers) c.args.tier (lifted (layer_at v) (set_penalty cs c.args.index c.args.amount)) (lifted (λ w. layer_at w cs) (d.sets v c.args.tier c.args.index c.args.amount))) (layer_at v cs) c.set_own.result (layer_at (g.B.Tier.value b) after)) (sym c.set_own.ensures.below)
    (did_own v cs (set_penalty cs c.args.index c.args.amount) (d.sets v c.args.tier c.args.index c.args.amount) (higher (d.answers v).tiers) c.args.tier c.set_own.result after (c.if-tier-tiers.true ∙ c.tiers.ensures) (simp to_z-of_z at c.set_own.ensures.did))
