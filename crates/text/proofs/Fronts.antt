-- The longest front of a list that passes a test, and the numbers that digits write.
use Rattle.std.proofs.Common.{◌≡◌, ℕ, ◌+◌, ◌-◌, ◌*◌, ◌^◌, ◌<◌, ◌≤◌, Bool, true, false, cond, List, [], ◌∷◌, length, get_or, take, drop, refl, ap, arith, one-add, rules, length-take-le}
use Rattle.std.specs.List.{prefix_len, list_all}
use Rattle.std.proofs.lemmas.Bool.Decides.{nat_tests}
use Rattle.std.proofs.lemmas.Grind.{common_steps}
use Rattle.std.proofs.lemmas.List.{take-append-drop}
use Rattle.std.proofs.lemmas.List.Folds.{list_all-append}
use Rattle.std.proofs.lemmas.Str.Parse.{IsNumeralModel, numerals_by_fold, digits_value_short}
use Rattle.text.specs.Tokens.{is_digit, front, read_on, value_of, non_zero}

-- each element of a front passes
pub all_front : (p : ℕ → Bool) (xs : List ℕ) → list_all p (front p xs) ≡ true
all_front p [] = refl
all_front p (x ∷ xs) = by (all_front p xs) (p x) refl
  where
    by : list_all p (front p xs) ≡ true → (b : Bool) → p x ≡ b → list_all p (take (cond b (1 + prefix_len p xs) 0) (x ∷ xs)) ≡ true
    by more true e = rw (one-add (prefix_len p xs), e) more
    by more false e = refl

pub own : IsNumeralModel (λ ds. list_all is_digit ds ≡ true) value_of
own = numerals_by_fold _ (search rules) read_on (search rules)

list_all_take : (p : ℕ → Bool) (xs : List ℕ) (i : ℕ) → list_all p xs ≡ true → list_all p (take i xs) ≡ true
list_all_take p xs i h = let e = list_all-append p (take i xs) (drop i xs) in let f = ap (list_all p) (take-append-drop i xs) in grind (arith, nat_tests)

list_all_is : (p : ℕ → Bool) (xs : List ℕ) (i d : ℕ) → list_all p xs ≡ true → i < length xs → p (get_or xs i d) ≡ true
list_all_is p xs i d h l = grind (arith, common_steps)

-- one more digit, behind those so far
pub turn_fits : (ds : List ℕ) (i c n : ℕ) → list_all is_digit ds ≡ true → length ds ≤ 10 → i < length ds → c ≡ get_or ds i c → n ≡ value_of (take i ds) → (48 ≤ c) × (c ≤ 57) × (n < 10 ^ 9)
turn_fits ds i c n h few l is worth =
    let digit : is_digit c ≡ true = rw is (list_all_is is_digit ds i c h l) in
    let short = length-take-le i ds (omega arith) in
    let small = digits_value_short own (take i ds) 9 (list_all_take is_digit ds i h) (omega arith) in
    (grind (arith, nat_tests), grind (arith, nat_tests), rw worth small)

at_least : (n : ℕ) (ds : List ℕ) → n ≤ read_on n ds
at_least n [] = omega arith
at_least n (c ∷ ds) = let more = at_least (n * 10 + (c - 48)) ds in omega arith

-- with no zero in front, more than 0
pub positive : (ds : List ℕ) → list_all is_digit ds ≡ true → non_zero ds ≡ true → 0 < value_of ds
positive [] all fine = grind (arith, nat_tests)
positive (c ∷ ds) all fine =
    let first : 48 < c = grind (arith, nat_tests) in
    let more = at_least (0 * 10 + (c - 48)) ds in
    omega arith
