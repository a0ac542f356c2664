-- The store at first: the root waits at the first place, and the others are blank. Assumes nothing.
use Rattle.std.proofs.Common.{◌≡◌, ℕ, zero, suc, ◌<◌, List, length, drop, set, replicate, None, sym, refl, ap, ◌∙◌, subst, arith}
use Rattle.std.specs.List.{AllByRecursion}
use Rattle.std.proofs.lemmas.List.{length-set, length-replicate, drop-set-lt}
use Rattle.tier.specs.Answers.{Answers}
use Rattle.labelling.specs.Labelling.{begin}
use Rattle.store.specs.Works.{Beside}
use Rattle.store.proofs.Alike.{begins_alike}
use Rattle.price.specs.declared.label.Label.{Label as Cell}
use Rattle.price.specs.Labels.{blank, waiting, root, writing}
use Rattle.price.specs.Places.{Unused}
use Rattle.price.specs.Progress.{work, at_first}

pub record Begun {S : Type 0} (m : Answers S) (cells : List (Cell S)) : Type 0 where
  pub unused : Unused m.start 1 cells
  pub beside : Beside (writing m.start) m (length cells) None (work cells at_first) (begin m)

pub begun : {S : Type 0} (m : Answers S) (places : ℕ) (cells : List (Cell S)) → 0 < places → cells ≡ set (replicate places (blank m.start)) 0 (waiting 0 (root m.start)) → Begun m cells
begun {S} m places cells some e =
    let first : Cell S = waiting 0 (root m.start) in
    let all = replicate places (blank m.start) in
    let a = length-replicate places (blank m.start) in
    let b = length-set all 0 first in
    let n : length cells ≡ places = ap length e ∙ b ∙ a in
    record {
      unused = record { within = omega arith; rest = subst (λ cs. AllByRecursion (λ c. c ≡ blank m.start) (drop 1 cs)) (sym e) (subst (AllByRecursion (λ c. c ≡ blank m.start)) (sym (drop-set-lt 1 all 0 first (omega arith))) (blanks 1 places)) };
      beside = subst (λ cs. Beside (writing m.start) m (length cs) None (work cs at_first) (begin m)) (sym e) (subst (λ n. Beside (writing m.start) m n None (work (set all 0 first) at_first) (begin m)) (sym (b ∙ a)) (begins_alike (writing m.start) m places some));
    }
  where
    blanks : (k n : ℕ) → AllByRecursion (λ c. c ≡ blank m.start) (drop k (replicate n (blank m.start)))
    blanks zero zero = tt
    blanks zero (suc n) = (refl, blanks zero n)
    blanks (suc k) zero = tt
    blanks (suc k) (suc n) = blanks k n
