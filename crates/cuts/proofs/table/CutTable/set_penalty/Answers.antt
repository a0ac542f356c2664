use Rattle.std.proofs.Common.{rules, ◌≡◌, ◌<◌, true, false, length, set, Ok, Err, Result, sym, ap, ◌∙◌, subst, w64, SFits, to_z, of_z}
use Rattle.std.proofs.lemmas.Int.{to_z-of_z}
use Rattle.std.proofs.lemmas.List.{set-get_or}
use Rattle.cuts.specs.declared.cut.Cut.{Cut}
use Rattle.tier.specs.Refusals.{Did}
use Rattle.std.specs.Result.{IsErrAnd}
use Rattle.tier.specs.declared.refusal.Refusal.{Refusal}
use Rattle.tier.specs.declared.refusal.Refusal.TheVariants.{BadAmount}
use Rattle.cuts.specs.Cuts.{blank_cut, cut_at}
use Rattle.cuts.specs.Contents.{cuts_of}
use Rattle.cuts.specs.Tables.{in_range, reprice, set_penalty}
use Rattle.cuts.specs.TablesLemmas.{GoodCut, good_reprice}
use Rattle.cuts.specs.Arrays.{table_cut}
use Rattle.cuts.proofs.Gives.{did_refused, did_taken, set_bad_amount, set_taken}
use Rattle.cuts.proofs.Kept.{kept_set, penalty_taken, penalty_refused}
use Rattle.cuts.proofs.table.CutTable.set_penalty.Goals as goal
use Rattle.cuts.proofs.table.CutTable.set_penalty.Goals.{In_ok-cut-2}

is_err : (r : Result (Unit {0}) Refusal) (e : Refusal) → IsErrAnd r (λ x. x ≡ e) → r ≡ Err e
is_err (Ok u) e h = absurd h
is_err (Err x) e h = ap Err h

-- the cut as it is written
same : (c : In_ok-cut-2) → record { stops = c.in_ok-cut.cut.now.stops; memory = c.in_ok-cut.cut.now.memory; penalty = c.in_ok-cut-2.field-0 } ≡ reprice (cut_at (cuts_of c.args.self.now) c.args.index) (to_z w64 (of_z w64 c.args.amount))
same c =
    let cs = cuts_of c.args.self.now in
    let i = c.args.index in
    let p = penalty_taken (to_z w64 (of_z w64 c.args.amount)) c.in_ok-cut-2.field-0 (sym c.as_penalty.ensures ∙ c.in_ok-cut-2.was) in
    let is : c.in_ok-cut.cut.now ≡ cut_at cs i = search rules in
    ap (λ (z : Cut). record { stops = z.stops; memory = z.memory; penalty = c.in_ok-cut-2.field-0 }) is ∙ ap (λ n. record { stops = (cut_at cs i).stops; memory = (cut_at cs i).memory; penalty = n }) (sym p.1)

pub invariant_of-self-2 : goal.invariant_of-self-2
invariant_of-self-2 c =
    let t = c.args.self.now in
    let cs = cuts_of t in
    let i = c.args.index in
    let amount = to_z w64 (of_z w64 c.args.amount) in
    let p = penalty_taken amount c.in_ok-cut-2.field-0 (sym c.as_penalty.ensures ∙ c.in_ok-cut-2.was) in
    let e = same (goal.at.invariant_of-self-2 c).In_ok-cut-2 in
    let k = kept_set t i _ (ap (λ (x : Cut). x.stops.word) e) (subst GoodCut (sym e) (good_reprice (cut_at cs i) amount (table_cut t i) p.0)) in
    record { few = k.few; three = k.three; sparse = k.sparse; cheap = k.cheap; kept = k.kept }

pub returns-in_err-cut-2 : goal.returns-in_err-cut-2
returns-in_err-cut-2 c =
    let cs = cuts_of c.args.self.now in
    let i = c.args.index in
    let is : c.in_ok-cut.cut.now ≡ cut_at cs i = search rules in
    let back = ap (set cs i) is ∙ set-get_or cs i blank_cut in
    let inside : i < length cs = search rules in
    let fits : SFits w64 c.args.amount = c.ranges.amount in
    let p = penalty_refused (to_z w64 (of_z w64 c.args.amount)) c.in_err-cut-2.field-0.0 (sym c.as_penalty.ensures ∙ c.in_err-cut-2.was) in
    let bad : in_range c.args.amount ≡ false = simp to_z-of_z at p.0 in
    let result = is_err c.from_residual-in_err-cut-2.result c.in_err-cut-2.field-0.0 c.from_residual-in_err-cut-2.ensures.1 ∙ ap Err p.1 in
    subst (λ r. Did (set_penalty cs i c.args.amount) cs r (set cs i c.in_ok-cut.cut.now)) (sym result)
    (subst (Did (set_penalty cs i c.args.amount) cs (Err BadAmount)) (sym back) (did_refused (set_penalty cs i c.args.amount) cs BadAmount (set_bad_amount cs i c.args.amount inside bad)))

pub returns : goal.returns
returns c =
    let cs = cuts_of c.args.self.now in
    let i = c.args.index in
    let fits : SFits w64 c.args.amount = c.ranges.amount in
    let p = penalty_taken (to_z w64 (of_z w64 c.args.amount)) c.in_ok-cut-2.field-0 (sym c.as_penalty.ensures ∙ c.in_ok-cut-2.was) in
    let good : in_range c.args.amount ≡ true = simp to_z-of_z at p.0 in
    let inside : i < length cs = search rules in
    did_taken (set_penalty cs i c.args.amount) cs (set cs i (reprice (cut_at cs i) c.args.amount)) _ (set_taken cs i c.args.amount inside good)
    (ap (set cs i) (same (goal.at.returns c).In_ok-cut-2 ∙ ap (reprice (cut_at cs i)) (to_z-of_z w64 c.args.amount fits)))
