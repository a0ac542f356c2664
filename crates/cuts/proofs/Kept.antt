-- What a table keeps, of the list of its cuts. Assumes nothing.
use Rattle.std.proofs.Common.{◌≡◌, ℕ, ◌<◌, ◌≤◌, Bool, true, false, cond, List, [], ◌∷◌, ◌++◌, length, set, ℤ, nat_abs, Ok, Err, refl, ap, ◌∙◌, arith}
use Rattle.std.specs.List.{refill}
use Rattle.std.proofs.lemmas.List.{length-set, take-append-le, take_all}
use Rattle.tier.specs.declared.refusal.Refusal.{Refusal}
use Rattle.tier.specs.declared.refusal.Refusal.TheVariants.{BadAmount}
use Rattle.cuts.specs.declared.cut.Cut.{Cut}
use Rattle.cuts.specs.declared.table.CutTable.{CutTable}
use Rattle.cuts.specs.Cuts.{cut_at}
use Rattle.cuts.specs.Contents.{cuts_of}
use Rattle.cuts.specs.Tables.{ThreeStops, FewStops, Cheap, KeptAtStops, Good, in_range, three_stops}
use Rattle.cuts.specs.TablesLemmas.{GoodCut, good_blank, good_each, good_set, good_push}
use Rattle.cuts.specs.Arrays.{table_good}
use Rattle.cuts.proofs.Threes.{three_none, three_put, three_add}

pub record KeptTable (cs : List Cut) : Type 0 where
  pub few : length cs ≤ 32
  pub three : ThreeStops (length cs) cs
  pub sparse : FewStops cs
  pub cheap : Cheap cs
  pub kept : KeptAtStops cs

from_good : (cs : List Cut) → ThreeStops (length cs) cs → Good 0 cs → KeptTable cs
from_good cs h g = record { few = g.few; three = h; sparse = g.sparse; cheap = g.cheap; kept = g.kept }

pub kept_none : KeptTable []
kept_none = from_good [] (three_none []) (good_each 0 [] (omega arith) (λ k. good_blank))

-- a cut in the place of one with the same stops
pub kept_set : (t : CutTable) (i : ℕ) (c : Cut) → c.stops.word ≡ (cut_at (cuts_of t) i).stops.word → GoodCut c → KeptTable (set (cuts_of t) i c)
kept_set t i c e g = from_good (set (cuts_of t) i c) (three_put (cuts_of t) i c e t.three) (good_set 0 (cuts_of t) i c (table_good 0 t) g)

-- a new cut after the others
pub kept_push : (t : CutTable) (c : Cut) → length (cuts_of t) < 32 → three_stops 63 c.stops.word ≡ true → GoodCut c → KeptTable (cuts_of t ++ c ∷ [])
kept_push t c room h g = from_good (cuts_of t ++ c ∷ []) (three_add (cuts_of t) c h t.three) (good_push 0 (cuts_of t) c room (table_good 0 t) g)

-- the slice of a table's cuts, written at one place and laid back
pub put_back : (cs ds : List Cut) (i : ℕ) (c : Cut) → ds ≡ cs → refill (length cs) cs (set ds i c) ≡ set cs i c
put_back cs ds i c e =
    let long : length (set ds i c) ≡ length cs = length-set ds i c ∙ ap length e in
    take-append-le (length cs) (set ds i c) _ (omega arith) ∙ take_all (length cs) (set ds i c) (omega arith) ∙ ap (λ xs. set xs i c) e

-- an amount that is a penalty, and one that is none
pub penalty_taken : (amount : ℤ) (p : ℕ) → cond (in_range amount) (Ok (nat_abs amount)) (Err BadAmount) ≡ Ok p → (in_range amount ≡ true) × (nat_abs amount ≡ p)
penalty_taken amount p = by (in_range amount)
  where
    by : (b : Bool) → cond b (Ok (nat_abs amount)) (Err BadAmount) ≡ Ok p → (b ≡ true) × (nat_abs amount ≡ p)
    by true e = (refl, cc)
    by false e = cc

pub penalty_refused : (amount : ℤ) (e : Refusal) → cond (in_range amount) (Ok (nat_abs amount)) (Err BadAmount) ≡ Err e → (in_range amount ≡ false) × (e ≡ BadAmount)
penalty_refused amount e = by (in_range amount)
  where
    by : (b : Bool) → cond b (Ok (nat_abs amount)) (Err BadAmount) ≡ Err e → (b ≡ false) × (e ≡ BadAmount)
    by true q = cc
    by false q = (refl, cc)
