use Rattle.std.proofs.Common.{◌≡◌, ◌+◌, ◌-◌, ◌*◌, map, length, refl, Some, rules}
use Rattle.std.proofs.lemmas.Fn.{serves_by}
use Rattle.std.proofs.lemmas.List.{map_push}
use Rattle.std.proofs.lemmas.List.Sums.{fold_push}
use Rattle.std.proofs.lemmas.Iterator.{YieldsList-from_slice}
use Rattle.std.proofs.lemmas.Iterator.Consumers.{YieldsList-so_far, YieldsList-turn}
use Rattle.text.specs.Tokens.{value_of}
use Rattle.std.proofs.lemmas.Str.Parse.{digits_value_short}
use Rattle.text.proofs.Fronts.{own, turn_fits, positive}
use Rattle.text.proofs.digits.value.Goals as goal

-- before each turn the number is that of the digits so far
pub fold-requires-clause-callable : goal.fold-requires-clause-callable
fold-requires-clause-callable c =
    serves_by _ (λ xs q. q.1 ≡ value_of (map (λ y. y.now) xs))
    (λ xs q x v h called. let turned : v.1 ≡ q.1 * 10 + (x.now - 48) = search rules in simp (map_push, fold_push) (cc))
    _ _ _ _ refl
    (λ xs t q x u yields next h.
    let road = YieldsList-from_slice c.args.digits.now cc in
    let turn = YieldsList-turn road xs t yields (Some x) u x refl next in
    let fits = turn_fits c.args.digits.now (length xs) x.now q.1 c.requires.digits c.requires.few turn.0 turn.1 (cc (h, YieldsList-so_far road xs t yields)) in
    search rules)

worth : (c : goal.After-fold) → c.fold.result ≡ value_of c.args.digits.now
worth c = search rules

pub returns-clause-small : goal.returns-clause-small
returns-clause-small c = rw (worth c) (digits_value_short own c.args.digits.now 10 c.requires.digits c.requires.few)

pub returns-clause-positive : goal.returns-clause-positive
returns-clause-positive c = rw (worth c) (positive c.args.digits.now c.requires.digits)
