use Rattle.std.proofs.Common.{arith}
use Rattle.price.proofs.Fills.{fill_more}
use Rattle.price.proofs.rows.clear.Goals as goal

pub loop-place-preserved : goal.loop-place-preserved
loop-place-preserved g c = let t = c.loop-place-test.true in fill_more c.blank-blank.result c.args.store.now c.loop-place.place-items c.loop-place.place-index (omega arith) c.loop-place.invariant
