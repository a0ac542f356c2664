use Rattle.std.proofs.Common.{◌≡◌, ℕ, ◌+◌, ◌-◌, ◌<◌, List, get_or, take, drop, ℤ, pos, ap, ◌∙◌, arith, length, length-take, get_or-take, get_or-drop, add_comm}
use Rattle.std.proofs.lemmas.Int.{ints}
use Rattle.duals.specs.Duals.{dual_of}
use Rattle.duals.proofs.Credits.{sum_more, sum_small}
use Rattle.duals.proofs.table.Duals.credit.Goals as goal

-- the duals that the loop goes over
element : (duals : List ℤ) (stops k : ℕ) → k < length (take (stops + 1 - 1) (drop 1 duals)) → get_or (take (stops + 1 - 1) (drop 1 duals)) k (pos 0) ≡ dual_of duals (k + 1)
element duals stops k h =
    let n = length-take (stops + 1 - 1) (drop 1 duals) in
    get_or-take (stops + 1 - 1) (drop 1 duals) k (pos 0) (omega arith) ∙ get_or-drop 1 duals k (pos 0) ∙ ap (dual_of duals) (add_comm 1 k)

pub overflow_add-sum : goal.overflow_add-sum
overflow_add-sum c =
    let t = c.args.self.now in
    let s = sum_small t.amounts c.loop-dual.dual-index t.ranged in
    let d = t.ranged (c.loop-dual.dual-index + 1) in
    let e = element t.amounts t.stops c.loop-dual.dual-index c.loop-dual-test.true in
    let i = c.loop-dual.invariant in
    let few = t.few in
    omega (arith, ints)

pub loop-dual-preserved : goal.loop-dual-preserved
loop-dual-preserved c =
    let t = c.args.self.now in
    let s = sum_small t.amounts c.loop-dual.dual-index t.ranged in
    let d = t.ranged (c.loop-dual.dual-index + 1) in
    let e = element t.amounts t.stops c.loop-dual.dual-index c.loop-dual-test.true in
    let i = c.loop-dual.invariant in
    let few = t.few in
    let m = sum_more (dual_of t.amounts) c.loop-dual.dual-index in
    omega (arith, ints)
