-- What the cuts of a table keep. Assumes nothing.
use Rattle.std.specs.Prelude.{◌≡◌, ℕ, ◌<◌, ◌≤◌, false, List, length, ◌==◌, slice_set}
use Rattle.std.proofs.Common.{⊎_elim, arith}
use Rattle.std.proofs.lemmas.List.{length-set}
use Rattle.std.proofs.lemmas.Bool.{eqb-false, cases_lt}
use Rattle.stops.proofs.Lists.{each_set}
use Rattle.cuts.specs.declared.cut.Cut.{Cut}
use Rattle.cuts.specs.declared.table.CutTable.{CutTable}
use Rattle.cuts.specs.Cuts.{blank_cut, cut_at}
use Rattle.cuts.specs.Contents.{cuts_of}
use Rattle.cuts.specs.Tables.{FewStops, Cheap, KeptAtStops, Good}
use Rattle.cuts.specs.TablesLemmas.{GoodCut}

-- one cut, the blank cut past the last included
pub table_cut : (t : CutTable) (k : ℕ) → GoodCut (cut_at (cuts_of t) k)
table_cut t k = record { sparse = t.sparse k; cheap = t.cheap k; kept = t.kept k }

pub table_good : (n : ℕ) (t : CutTable) → Good n (cuts_of t)
table_good n t = record { few = t.few; sparse = t.sparse; cheap = t.cheap; kept = t.kept }

-- as the table keeps it
pub kept_parts : (cuts : List Cut) → length cuts ≤ 32 → ((k : ℕ) → GoodCut (cut_at cuts k)) → (length cuts ≤ 32) × (FewStops cuts × (Cheap cuts × (KeptAtStops cuts × Unit {0})))
kept_parts cuts few g = (few, (λ k. (g k).sparse, (λ k. (g k).cheap, (λ k. (g k).kept, tt))))

-- a cut is put into the table
pub cut_put : (t : CutTable) (i : ℕ) (c : Cut) → GoodCut c → (length (slice_set (cuts_of t) i c) ≤ 32) × (FewStops (slice_set (cuts_of t) i c) × (Cheap (slice_set (cuts_of t) i c) × (KeptAtStops (slice_set (cuts_of t) i c) × Unit {0})))
cut_put t i c g =
    let few = t.few in
    let long = length-set (cuts_of t) i c in
    kept_parts (slice_set (cuts_of t) i c) (omega arith) (each_set GoodCut blank_cut (cuts_of t) i c (table_cut t) g)

pub has_room : (t : CutTable) → (length (cuts_of t) == 32) ≡ false → length (cuts_of t) < 32
has_room t e = let few = t.few in ⊎_elim (λ l. l) (λ l. absurd (eqb-false (length (cuts_of t)) 32 e (omega arith))) (cases_lt (length (cuts_of t)) 32)
