use Rattle.std.proofs.Common.{◌^◌, ◌<◌, [], ◌∷◌, ◌++◌, length, sym, ap, ◌∙◌, subst, arith, w64, to_z, of_z}
use Rattle.std.proofs.lemmas.Bool.{eqb-false}
use Rattle.cuts.specs.Contents.{cuts_of}
use Rattle.cuts.specs.Tables.{new_cut}
use Rattle.cuts.specs.TablesLemmas.{good_new}
use Rattle.cuts.proofs.Threes.{three_counted}
use Rattle.cuts.proofs.Kept.{KeptTable, kept_push, penalty_taken}
use Rattle.cuts.proofs.table.CutTable.add.Goals as goal

pub invariant_of-self : goal.invariant_of-self
invariant_of-self c =
    let t = c.args.self.now in
    let n = c.args.stops in
    let members = c.args.members.word in
    let amount = to_z w64 (of_z w64 c.args.amount) in
    let p = penalty_taken amount c.in_ok-penalty.penalty (sym c.as_penalty.ensures ∙ c.in_ok-penalty.was) in
    let three = sym c.if-not-are_three.ensures in
    let few = t.few in
    let other = eqb-false (length (cuts_of t)) 32 (sym c.if-is_full.ensures) in
    let room : length (cuts_of t) < 32 = omega arith in
    let wide : members < 2 ^ 64 = omega arith in
    let e = c.push.ensures.items ∙ ap (λ z. cuts_of t ++ record { stops = c.args.members; memory = c.args.members; penalty = z } ∷ []) (sym p.1) in
    let k = subst KeptTable (sym e) (kept_push t (new_cut members amount) room (three_counted n members wide three) (good_new n members amount three p.0)) in
    record { few = k.few; three = k.three; sparse = k.sparse; cheap = k.cheap; kept = k.kept }
