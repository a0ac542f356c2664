use Rattle.std.proofs.Common.{rules, ℕ, ◌^◌, ◌∙◌, arith}
use Rattle.std.specs.List.{enumerate_from}
use Rattle.std.proofs.lemmas.Iterator.{YieldsList-from_slice, YieldsList-from_map}
use Rattle.std.proofs.lemmas.Iterator.Consumers.{YieldsList-at, YieldsList-from_enumerate, sum_by_from_yields_List, fits_by_from_yields_list}
use Rattle.cuts.specs.declared.cut.Cut.{Cut}
use Rattle.cuts.specs.Bits.{stands}
use Rattle.cuts.specs.Cuts.{lag}
use Rattle.cuts.specs.Contents.{cuts_of}
use Rattle.cuts.specs.Owns.{gap_small}
use Rattle.cuts.proofs.Credits.{table_small}
use Rattle.cuts.proofs.Loops.{numbered_sum}
use Rattle.cuts.proofs.table.CutTable.gap.Goals as goal

pub sum-requires-clause-fits : goal.sum-requires-clause-fits
sum-requires-clause-fits c =
    let cs = cuts_of c.args.self.now in
    let term : ℕ → Cut → ℕ = λ k x. lag x (stands c.args.a k) (stands c.args.b k) in
    let total = numbered_sum term cs in
    let small = gap_small cs c.args.a c.args.b in
    let most = table_small c.args.self.now in
    fits_by_from_yields_list (λ (p : ℕ × Cut). term p.0 p.1) (enumerate_from 0 cs) c.map.result (2 ^ 64)
    (YieldsList-from_map _ _ (YieldsList-at c.map.ensures.source (YieldsList-from_enumerate (YieldsList-at c.enumerate.ensures.source (YieldsList-from_slice cs (cc))) (cc))) c.map.ensures.closure (λ x r q k. search rules))
    (omega arith)

pub returns : goal.returns
returns c =
    let cs = cuts_of c.args.self.now in
    let term : ℕ → Cut → ℕ = λ k x. lag x (stands c.args.a k) (stands c.args.b k) in
    sum_by_from_yields_List (λ (p : ℕ × Cut). term p.0 p.1) (enumerate_from 0 cs) c.map.result _ c.sum.ensures.ran
    (YieldsList-from_map _ _ (YieldsList-at c.map.ensures.source (YieldsList-from_enumerate (YieldsList-at c.enumerate.ensures.source (YieldsList-from_slice cs (cc))) (cc))) c.map.ensures.closure (λ x r q k. search rules))
    ∙ numbered_sum term cs
