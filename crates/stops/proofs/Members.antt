-- Sets of stops by their members; nothing here knows how wide a set is. Assumes nothing.
use Rattle.std.proofs.Common.{◌≡◌, ℕ, zero, suc, ◌+◌, ◌*◌, ◌/◌, ◌%◌, ◌^◌, ◌<◌, ◌≤◌, bit_and, min, Bool, true, false, cond, eqb, ltb, ◌⊎◌, sym, refl, ap, ◌∙◌, inl, inr, ⊎_elim, mod-lt, arith, pow_pos}
use native.Mathlib.Nat.{div-eq_of_lt, div-add-mod}
use Rattle.std.proofs.lemmas.Bool.{eqb-true, eqb-false, eq-eqb, ne_eqb, ltb-true, lt-ltb, le-ltb, and_parts, cases_lt, cases_eq, true≢false}
use Rattle.std.specs.List.{count_by, range_with_len}
use Rattle.std.specs.Int.{bit_at}
use Rattle.std.proofs.lemmas.Nat.Bits.{bit_at_and, bit_at_or, bit_at-zero, bit_at-pow_other, bit_at_above, same_from_bits}
use Rattle.std.proofs.lemmas.List.Sums.{sum_by-cons}
use Rattle.stops.specs.Stops.{Stop, member, empty_set, just, common, joined, within, all_stops, count_to}

-- a set below 2 ^ w has no member from w on
pub none_past : (w set j : ℕ) → set < 2 ^ w → w ≤ j → member set j ≡ false
none_past w set j h l = ap (λ n. eqb n 1) (bit_at_above set w j h l)

-- a member has bit 1
has_bit : (set j : ℕ) → member set j ≡ true → bit_at set j ≡ 1
has_bit set j e = eqb-true _ _ e

bit_has : (set j : ℕ) → bit_at set j ≡ 1 → member set j ≡ true
bit_has set j e = eq-eqb _ _ e

-- what is no member is told by saying so
pub not_member : (set j : ℕ) → (member set j ≡ true → ⊥) → member set j ≡ false
not_member set j n = by (member set j) n
  where
    by : (b : Bool) → (b ≡ true → ⊥) → b ≡ false
    by true n = absurd (n refl)
    by false n = refl

pub no_member : (set j : ℕ) → member set j ≡ false → member set j ≡ true → ⊥
no_member set j f t = true≢false (sym t ∙ f)

pub none_in_empty : (j : ℕ) → member empty_set j ≡ false
none_in_empty j = let z = bit_at-zero j in ne_eqb _ _ (λ e. omega arith)

-- of both
pub common_left : (a b j : ℕ) → member (common a b) j ≡ true → member a j ≡ true
common_left a b j e = let f = bit_at_and a b j in let h = has_bit (common a b) j e in bit_has a j (omega arith)

pub common_right : (a b j : ℕ) → member (common a b) j ≡ true → member b j ≡ true
common_right a b j e = let f = bit_at_and a b j in let h = has_bit (common a b) j e in bit_has b j (omega arith)

pub in_common : (a b j : ℕ) → member a j ≡ true → member b j ≡ true → member (common a b) j ≡ true
in_common a b j e f = let g = bit_at_and a b j in let h = has_bit a j e in let k = has_bit b j f in bit_has (common a b) j (omega arith)

-- of either
pub in_left : (a b j : ℕ) → member a j ≡ true → member (joined a b) j ≡ true
in_left a b j e = let g = bit_at_or a b j in let h = has_bit a j e in bit_has (joined a b) j (omega arith)

pub in_right : (a b j : ℕ) → member b j ≡ true → member (joined a b) j ≡ true
in_right a b j e = let g = bit_at_or a b j in let h = has_bit b j e in bit_has (joined a b) j (omega arith)

pub of_either : (a b j : ℕ) → member (joined a b) j ≡ true → (member a j ≡ true) ⊎ (member b j ≡ true)
of_either a b j e = by (member a j) refl
  where
    by : (t : Bool) → member a j ≡ t → (member a j ≡ true) ⊎ (member b j ≡ true)
    by true f = inl f
    by false f = inr (let g = bit_at_or a b j in let h = has_bit (joined a b) j e in let n = eqb-false _ _ f in bit_has b j (omega arith))

-- the stop alone
pub only_just : (j k : ℕ) → member (just j) k ≡ true → k ≡ j
only_just j k e = ⊎_elim (λ h. h) (λ n. let z = bit_at-pow_other j k n in let h = has_bit (just j) k e in absurd (omega arith)) (cases_eq k j)

-- SUBSETS

pub within_members : (a b : ℕ) → within a b ≡ true → (j : ℕ) → member a j ≡ true → member b j ≡ true
within_members a b e j h =
    let f = bit_at_and a b j in
    let g = ap (λ n. bit_at n j) (eqb-true _ _ e) in
    let k = has_bit a j h in
    bit_has b j (omega arith)

pub members_within : (a b : ℕ) → ((j : ℕ) → member a j ≡ true → member b j ≡ true) → within a b ≡ true
members_within a b h = eq-eqb _ _ (same_from_bits (bit_and a b) a (λ j. each j (member a j) refl))
  where
    each : (j : ℕ) (t : Bool) → member a j ≡ t → bit_at (bit_and a b) j ≡ bit_at a j
    each j true e = let s = bit_at_and a b j in let f = has_bit b j (h j e) in let g = has_bit a j e in omega arith
    each j false e = let s = bit_at_and a b j in let n = eqb-false _ _ e in omega arith

pub within_itself : (a : ℕ) → within a a ≡ true
within_itself a = members_within a a (λ j e. e)

pub within_through : (a b c : ℕ) → within a b ≡ true → within b c ≡ true → within a c ≡ true
within_through a b c e f = members_within a c (λ j h. within_members b c f j (within_members a b e j h))

-- ALL STOPS

pub all_stops_member : (n set j : ℕ) → all_stops n set ≡ true → member set j ≡ true → Stop n j
all_stops_member n set j e h =
    let p = and_parts (eqb (set % 2) 0) (ltb set (2 ^ (n + 1))) e in
    let even = eqb-true _ _ p.0 in
    let below = ltb-true _ _ p.1 in
    (⊎_elim (λ l. l) (λ l. absurd (no_depot j even h l)) (cases_lt 0 j), ⊎_elim (λ l. absurd (no_member set j (none_past (n + 1) set j below l) h)) (λ l. omega arith) (cases_le (n + 1) j))
  where
    no_depot : (k : ℕ) → set % 2 ≡ 0 → member set k ≡ true → k ≤ 0 → ⊥
    no_depot zero even h l = let b : set / 1 % 2 ≡ 1 = has_bit set 0 h in omega arith
    no_depot (suc k) even h l = omega arith

    cases_le : (a b : ℕ) → (a ≤ b) ⊎ (b < a)
    cases_le a b = ⊎_elim inr inl (cases_lt b a)

-- nothing is left of a number that is shifted out
pub shifted_out : (w k : ℕ) → eqb (w / 2 ^ k) 0 ≡ ltb w (2 ^ k)
shifted_out w k =
    ⊎_elim
    (λ l. eq-eqb _ _ (div-eq_of_lt l) ∙ sym (lt-ltb _ _ l))
    (λ l. ne_eqb _ _ (λ e. let d = div-add-mod w (2 ^ k) in let z = ap (λ q. 2 ^ k * q) e in let m = mod-lt w (pow_pos k) in omega arith) ∙ sym (le-ltb _ _ l))
    (cases_lt w (2 ^ k))

-- COUNTING

-- past the members there is nothing to count
pub count_past : (p : ℕ → Bool) (w n : ℕ) → ((j : ℕ) → w < j → p j ≡ false) → w ≤ n → count_to p n ≡ count_to p w
count_past p w zero h l = ap (count_to p) (let e : 0 ≡ w = omega arith in e)
count_past p w (suc n) h l =
    ⊎_elim
    (λ m. let e = count_past p w n h (omega arith) in let z : cond {A = ℕ} (p (suc n)) 1 0 ≡ 0 = ap (λ b. cond b 1 0) (h (suc n) m) in omega arith)
    (λ m. ap (count_to p) (let e : suc n ≡ w = omega arith in e))
    (cases_lt w (suc n))

-- counted in a list of the numbers
count_from : (p : ℕ → Bool) (a n : ℕ) → count_to p a + count_by p (range_with_len (a + 1) n) ≡ count_to p (a + n)
count_from p a zero = let all = ap (count_to p) (let e : a ≡ a + 0 = omega arith in e) in omega arith
count_from p a (suc n) =
    let h = count_from p (a + 1) n in
    let first = sum_by-cons (λ k. cond (p k) 1 0) (a + 1) (range_with_len (a + 1 + 1) n) in
    let next = ap (count_to p) (let e : a + 1 ≡ suc a = omega arith in e) in
    let here : cond {A = ℕ} (p (suc a)) 1 0 ≡ cond (p (a + 1)) 1 0 = ap (λ k. cond (p k) 1 0) (let e : suc a ≡ a + 1 = omega arith in e) in
    let all = ap (count_to p) (let e : a + 1 + n ≡ a + suc n = omega arith in e) in
    omega arith

pub count_in_range : (p : ℕ → Bool) (n : ℕ) → count_by p (range_with_len 1 n) ≡ count_to p n
count_in_range p n = let h = count_from p 0 n in let all = ap (count_to p) (let e : 0 + n ≡ n = omega arith in e) in omega arith

-- a word has no member past 63
pub all_counted : (w n : ℕ) → w < 2 ^ 64 → count_to (member w) (min n 63) ≡ count_to (member w) n
all_counted w n h =
    ⊎_elim
    (λ l. ap (count_to (member w)) (let e : min n 63 ≡ n = omega arith in e))
    (λ l. ap (count_to (member w)) (let e : min n 63 ≡ 63 = omega arith in e) ∙ sym (count_past (member w) 63 n (λ j m. none_past 64 w j h m) l))
    (cases_lt n 63)
