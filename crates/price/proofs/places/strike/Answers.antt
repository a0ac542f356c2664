use Rattle.std.proofs.Common.{set, ap, ◌∙◌, arith}
use Rattle.store.specs.Works.{falls}
use Rattle.price.specs.Labels.{blank, writing}
use Rattle.price.proofs.Maps.{blanking_yes, blanking_no}
use Rattle.price.proofs.places.strike.Goals as goal
use Rattle.price.proofs.places.strike.Goals.{then-falls, else-falls}

pub loop-label-preserved : goal.loop-label-preserved
loop-label-preserved g c =
    let m = g.T.Tier.meaning.answers (g.T.Tier.value c.args.tier.now) in
    let p = falls (writing m.start) m c.args.offered.now in
    let b = blank m.start in
    let xs = c.args.labels.now in
    let t = c.loop-label-test.true in
    elim c.if-falls.branch [
      | then-falls w ↦ blanking_yes p b xs _ _ _ _ _ c.label-item.result (omega arith) c.loop-label.invariant c.label-item.is w.if-falls.ensures (w.label-items-is ∙ ap (set c.loop-label.label-items c.loop-label.label-index) (c.blank-blank.ensures ∙ ap blank c.start.ensures)) w.count-is
      | else-falls w ↦ blanking_no p b xs _ _ _ _ _ c.label-item.result (omega arith) c.loop-label.invariant c.label-item.is w.if-falls.ensures w.label-items-is w.count-is
    ]
