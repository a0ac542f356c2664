use Rattle.std.proofs.Common.{◌≡◌}
use Rattle.cuts.specs.Bits.{stands, bits_where}
use Rattle.cuts.specs.Cuts.{next_bit, cut_at}
use Rattle.cuts.specs.Contents.{cuts_of}
use Rattle.cuts.proofs.table.CutTable.bits_after.Given as goal

abbrev pub invariant-loop-k : goal.invariant-loop-k
invariant-loop-k l = l.after ≡ bits_where (λ k. next_bit (cut_at (cuts_of l.self) k) l.to (stands l.bits k)) l.k
