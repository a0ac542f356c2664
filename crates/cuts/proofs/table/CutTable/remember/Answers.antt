use Rattle.std.proofs.Common.{sym, ap, ◌∙◌, subst}
use Rattle.cuts.specs.declared.cut.Cut.{Cut}
use Rattle.cuts.specs.Cuts.{cut_at}
use Rattle.cuts.specs.Contents.{cuts_of}
use Rattle.cuts.specs.Tables.{remember}
use Rattle.cuts.specs.TablesLemmas.{GoodCut, good_remember}
use Rattle.cuts.specs.Arrays.{table_cut}
use Rattle.cuts.proofs.Kept.{KeptTable, kept_set, put_back}
use Rattle.cuts.proofs.table.CutTable.remember.Goals as goal

pub invariant_of-self : goal.invariant_of-self
invariant_of-self c =
    let t = c.args.self.now in
    let cs = cuts_of t in
    let i = c.args.index in
    let members = c.args.members.word in
    let same = c.remembering.ensures ∙ ap (λ xs. remember (cut_at xs i) members) c.deref.ensures.0 in
    let good = subst GoodCut (sym same) (good_remember (cut_at cs i) members (table_cut t i)) in
    let e = put_back cs c.deref_mut.result.now i c.remembering.result c.deref_mut.ensures.value in
    let k = subst KeptTable (sym e) (kept_set t i c.remembering.result (ap (λ (x : Cut). x.stops.word) same) good) in
    record { few = k.few; three = k.three; sparse = k.sparse; cheap = k.cheap; kept = k.kept }
