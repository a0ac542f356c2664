use Rattle.std.proofs.Common.{rules, ◌≡◌, ℕ, Bool, true, false, sym, ◌∙◌}
use Rattle.cuts.specs.Bits.{stands}
use Rattle.cuts.specs.Cuts.{next_bit, cut_at}
use Rattle.cuts.specs.Contents.{cuts_of}
use Rattle.cuts.proofs.Loops.{bits_step}
use Rattle.cuts.proofs.table.CutTable.bits_after.Goals as goal
use Rattle.cuts.proofs.table.CutTable.bits_after.Goals.{then-next_bit, else-next_bit}

pub loop-k-preserved : goal.loop-k-preserved
loop-k-preserved c =
    let t = c.args.self.now in
    let k = c.loop-k.k in
    let p : ℕ → Bool = λ k. next_bit (cut_at (cuts_of t) k) c.args.to (stands c.args.bits k) in
    let is : c.next_bit.result ≡ p k = search rules in
    elim c.if-next_bit.branch [
      | then-next_bit w ↦ w.after-is ∙ w.put-after.ensures ∙ bits_step p k c.loop-k.after true c.loop-k.invariant (sym w.if-next_bit.true ∙ is)
      | else-next_bit w ↦ w.after-is ∙ bits_step p k c.loop-k.after false c.loop-k.invariant (sym w.if-next_bit.false ∙ is)
    ]
