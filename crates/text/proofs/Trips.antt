-- What is written is read back, and what is read is what would be written.
use Rattle.std.proofs.Common.{◌≡◌, ℕ, suc, ◌+◌, ◌-◌, ◌^◌, ◌<◌, ◌≤◌, Bool, true, false, eqb, ltb, List, [], ◌∷◌, ◌++◌, length, get_or, drop, Ok, Err, decimal, Result, sym, refl, ap, ◌∙◌, subst, ⊎_elim, append_assoc, add-zero, arith, length-append, length-drop}
use Rattle.std.specs.List.{prefix_len, list_all}
use Rattle.std.proofs.lemmas.List.{get_or-drop, drop-drop, drop_more, take-append-drop, take_at, drop_at}
use Rattle.std.proofs.lemmas.List.Folds.{length-prefix_len}
use Rattle.std.proofs.lemmas.Bool.{cond_both, ltb-true, lt-ltb, eqb-true, cases_lt}
use Rattle.std.proofs.lemmas.Bool.Decides.{nat_tests}
use Rattle.std.proofs.lemmas.Str.Parse.{digits_value_short}
use Rattle.std.proofs.lemmas.Fmt.{digits_decimal, digits_value-decimal, decimal-digits_value, decimal_nonempty, first_decimal, length-decimal-le, decimal_digit}
use Rattle.text.specs.declared.fault.TextFault.{TextFault}
use Rattle.text.specs.Tokens.{Seen, opens, closes, blanks, feeds, word, number, negative, ends, is_letter, is_digit, front, well_formed, word_at, number_at, token, scan}
use Rattle.text.specs.declared.cursor.Cursor.{Cursor}
use Rattle.text.specs.Readers.{Reader, Read, then, and_then, give}
use Rattle.text.proofs.Fronts.{own, all_front}

abbrev pub all_letters : List ℕ → Bool
all_letters w = list_all is_letter w

-- what follows does not lengthen a word, or a number
abbrev pub NoLetter : List ℕ → Type 0
NoLetter rest = is_letter (get_or rest 0 0) ≡ false

abbrev pub NoDigit : List ℕ → Type 0
NoDigit rest = is_digit (get_or rest 0 0) ≡ false

abbrev pub Any : List ℕ → Type 0
Any rest = Unit {0}

-- the run of a class is just w
leading_exact : (k : ℕ → Bool) (w rest : List ℕ) → list_all k w ≡ true → k (get_or rest 0 0) ≡ false → prefix_len k (w ++ rest) ≡ length w
leading_exact k [] [] h l = refl
leading_exact k [] (x ∷ rest) h l = rw l
leading_exact k (x ∷ w) rest h l = let e = leading_exact k w rest in grind arith

-- a byte at a place
pub record Byte (bs : List ℕ) (p c : ℕ) (rest : List ℕ) : Type 0 where
  pub inside : p < length bs
  pub is : get_or bs p 0 ≡ c
  pub next : drop (p + 1) bs ≡ rest

byte : (bs : List ℕ) (p c : ℕ) (rest : List ℕ) → drop p bs ≡ c ∷ rest → Byte bs p c rest
byte bs p c rest e =
    let l : length bs - p ≡ suc (length rest) = sym (length-drop p bs) ∙ ap length e in
    record {
      inside = omega arith;
      is = ap (λ i. get_or bs i 0) (sym (add-zero p)) ∙ sym (get_or-drop p bs 0 0) ∙ ap (λ l. get_or l 0 0) e;
      next = sym (drop-drop 1 p bs) ∙ ap (drop 1) e;
    }

pub scan_is : (bs : List ℕ) (p c : ℕ) (rest : List ℕ) → drop p bs ≡ c ∷ rest → scan bs p ≡ token bs p c
scan_is bs p c rest e = let b = byte bs p c rest e in rw (lt-ltb p (length bs) b.inside, b.is)

front_exact : (k : ℕ → Bool) (w rest : List ℕ) → list_all k w ≡ true → k (get_or rest 0 0) ≡ false → front k (w ++ rest) ≡ w
front_exact k w rest h l = let n = leading_exact k w rest h l in rw n (take_at w rest (length w) refl)

pub scan_word : (bs : List ℕ) (p c : ℕ) (w rest : List ℕ) → drop p bs ≡ (c ∷ w) ++ rest → list_all is_letter (c ∷ w) ≡ true → is_letter (get_or rest 0 0) ≡ false → scan bs p ≡ Ok (word (c ∷ w) p, p + length (c ∷ w))
scan_word bs p c w rest e h l =
    let first : is_letter c ≡ true = grind arith in
    let tok : token bs p c ≡ word_at bs p = grind (arith, nat_tests) in
    scan_is bs p c (w ++ rest) e ∙ tok ∙ rw (e, front_exact is_letter (c ∷ w) rest h l, leading_exact is_letter (c ∷ w) rest h l)

pub scan_spelt : (bs : List ℕ) (p : ℕ) (w rest : List ℕ) → drop p bs ≡ w ++ rest → all_letters w ≡ true → 0 < length w → NoLetter rest → scan bs p ≡ Ok (word w p, p + length w)
scan_spelt bs p [] rest e h some l = absurd (omega arith)
scan_spelt bs p (c ∷ w) rest e h some l = scan_word bs p c w rest e h l

digit_token : (bs : List ℕ) (p c : ℕ) → is_digit c ≡ true → token bs p c ≡ number_at bs p
digit_token bs p c h = grind (arith, nat_tests)

-- a number of at most ten digits
well_formed_decimal : (n : ℕ) → n < 10 ^ 10 → well_formed (decimal n) ≡ true
well_formed_decimal n h =
    let few = length-decimal-le 10 n (omega arith) h (omega arith) in
    ⊎_elim
    (λ z. let one = ap length (decimal_digit n (omega arith)) in grind (arith, nat_tests))
    (λ s. let first = first_decimal n s (omega arith) in grind (arith, nat_tests))
    (cases_lt n 1)

pub scan_number : (bs : List ℕ) (p n : ℕ) (rest : List ℕ) → drop p bs ≡ decimal n ++ rest → n < 10 ^ 10 → NoDigit rest → scan bs p ≡ Ok (number n (decimal n) p, p + length (decimal n))
scan_number bs p n rest e h l =
    let small : n < 2 ^ 64 = omega arith in
    let all = digits_decimal own n small in
    let some = decimal_nonempty n small in
    let fine = well_formed_decimal n h in
    let f = front_exact is_digit (decimal n) rest all l in
    let len = leading_exact is_digit (decimal n) rest all l in
    let worth = digits_value-decimal own n small in
    let num : number_at bs p ≡ Ok (number n (decimal n) p, p + length (decimal n)) = rw (e, f, len, fine, worth) in
    head (decimal n) refl all some e ∙ num
  where
    head : (ds : List ℕ) → ds ≡ decimal n → list_all is_digit ds ≡ true → 0 < length ds → drop p bs ≡ ds ++ rest → scan bs p ≡ number_at bs p
    head [] s a b d = absurd (omega arith)
    head (c ∷ ds) s a b d = let first : is_digit c ≡ true = grind arith in scan_is bs p c (ds ++ rest) d ∙ digit_token bs p c first

-- how a token is written
abbrev pub written : Seen → List ℕ
written (opens p) = 40 ∷ []
written (closes p) = 41 ∷ []
written (blanks p) = 32 ∷ []
written (feeds p) = 10 ∷ []
written (word w p) = w
written (number n ds p) = decimal n
written (negative n ds p) = 45 ∷ decimal n
written (ends p) = []

-- what was read from p on is what xs says, and the rest follows
pub record Spent (bs : List ℕ) (p q : ℕ) (xs : List ℕ) : Type 0 where
  pub spent : drop p bs ≡ xs ++ drop q bs
  pub to : q ≡ p + length xs

abbrev pub SoundAt : {Y E : Type 0} → (Y → List ℕ → Type 0) → List ℕ → ℕ → Result (Y × ℕ) E → Type 0
SoundAt W bs p (Ok x) = (xs : List ℕ) × Spent bs p x.1 xs × W x.0 xs
SoundAt W bs p (Err e) = Unit {0}

abbrev Written : Seen → List ℕ → Type 0
Written t xs = xs ≡ written t

one_byte : (bs : List ℕ) (p c : ℕ) → p < length bs → eqb (get_or bs p 0) c ≡ true → Spent bs p (p + 1) (c ∷ [])
one_byte bs p c h e = record { spent = drop_more bs p 0 h ∙ rw (eqb-true (get_or bs p 0) c e); to = refl }

a_run : (k : ℕ → Bool) (bs : List ℕ) (p : ℕ) → Spent bs p (p + prefix_len k (drop p bs)) (front k (drop p bs))
a_run k bs p = record {
  spent = sym (take-append-drop (prefix_len k (drop p bs)) (drop p bs)) ∙ ap (λ l. front k (drop p bs) ++ l) (drop-drop (prefix_len k (drop p bs)) p bs);
  to = ap (λ n. p + n) (sym (length-prefix_len k (drop p bs)));
}

-- a well-formed run of digits is what is written of its number
number_sound : (bs : List ℕ) (p : ℕ) → p < length bs → is_digit (get_or bs p 0) ≡ true → SoundAt Written bs p (number_at bs p)
number_sound bs p h d =
    let ds = front is_digit (drop p bs) in
    cond_both (well_formed ds) _ _ (SoundAt Written bs p)
    (λ fine.
    let some : 0 < prefix_len is_digit (drop p bs) = rw (drop_more bs p 0 h, d) (omega arith) in
    let long = length-prefix_len is_digit (drop p bs) in
    let few : length ds ≤ 10 = grind (arith, nat_tests) in
    let lead : get_or ds 0 0 ≡ 48 → length ds ≡ 1 = λ z. grind (arith, nat_tests) in
    let all = all_front is_digit (drop p bs) in
    let small = digits_value_short own ds 10 all few in
    (ds, a_run is_digit bs p, sym (decimal-digits_value own ds all (omega arith) lead (omega arith))))
    (λ _. tt)

pub scan_sound : (bs : List ℕ) (p : ℕ) → SoundAt Written bs p (scan bs p)
scan_sound bs p =
    let S : Result (Seen × ℕ) TextFault → Type 0 = SoundAt Written bs p in
    let c = get_or bs p 0 in
    cond_both (ltb p (length bs)) _ _ S
    (λ l. let h = ltb-true p (length bs) l in
    cond_both (eqb c 40) _ _ S (λ e. (40 ∷ [], one_byte bs p 40 h e, refl)) (λ _.
    cond_both (eqb c 41) _ _ S (λ e. (41 ∷ [], one_byte bs p 41 h e, refl)) (λ _.
    cond_both (eqb c 32) _ _ S (λ e. (32 ∷ [], one_byte bs p 32 h e, refl)) (λ _.
    cond_both (eqb c 10) _ _ S (λ e. (10 ∷ [], one_byte bs p 10 h e, refl)) (λ _.
    cond_both (is_letter c) _ _ S (λ _. (front is_letter (drop p bs), a_run is_letter bs p, refl)) (λ _.
    cond_both (is_digit c) _ _ S (λ d. number_sound bs p h d) (λ _.
    cond_both (eqb c 45) _ _ S (λ _. tt) (λ _. tt))))))))
    (λ _. ([], record { spent = refl; to = sym (add-zero p) }, refl))

-- readers: what they read, and that they read what is written

pub record Sounds {Y E : Type 0} (m : Reader Y E) (W : Y → List ℕ → Type 0) : Type 0 where
  pub sound : (bs : List ℕ) (p : ℕ) → SoundAt W bs p (m bs p)

pub record Takes {Y E : Type 0} (m : Reader Y E) (C : List ℕ → Type 0) (xs : List ℕ) (y : Y) : Type 0 where
  pub taken : (bs : List ℕ) (p : ℕ) (rest : List ℕ) → drop p bs ≡ xs ++ rest → C rest → m bs p ≡ Ok (y, p + length xs)

spent_more : (bs : List ℕ) (p q r : ℕ) (xs ys : List ℕ) → Spent bs p q xs → Spent bs q r ys → Spent bs p r (xs ++ ys)
spent_more bs p q r xs ys a b = record {
  spent = a.spent ∙ ap (λ l. xs ++ l) b.spent ∙ sym (append_assoc xs ys (drop r bs));
  to = simp length-append (omega (arith, a.to, b.to));
}

pub sounds_then : {X Y E F : Type 0} (wrap : E → F) (m : Reader X E) (k : X → Reader Y F) (W : X → List ℕ → Type 0) (V : Y → List ℕ → Type 0) → Sounds m W → ((x : X) (xs : List ℕ) → W x xs → Sounds (k x) (λ y ys. V y (xs ++ ys))) → Sounds (and_then wrap m k) V
unfolding and_then
sounds_then {X} {Y} {E} {F} wrap m k W V h l = record { sound = λ bs p. at bs p (m bs p) (h.sound bs p) }
  where
    on : (bs : List ℕ) (p q : ℕ) (xs : List ℕ) (r : Result (Y × ℕ) F) → Spent bs p q xs → SoundAt (λ y ys. V y (xs ++ ys)) bs q r → SoundAt V bs p r
    on bs p q xs (Ok y) s t = (xs ++ t.0, spent_more bs p q y.1 xs t.0 s t.1, t.2)
    on bs p q xs (Err e) s t = tt

    at : (bs : List ℕ) (p : ℕ) (r : Result (X × ℕ) E) → SoundAt W bs p r → SoundAt V bs p (then wrap r (λ x q. k x bs q))
    at bs p (Ok x) s = on bs p x.1 s.0 (k x.0 bs x.1) s.1 ((l x.0 s.0 s.2).sound bs x.1)
    at bs p (Err e) s = tt

pub sounds_give : {Y E : Type 0} (y : Y) (V : Y → List ℕ → Type 0) → V y [] → Sounds {E = E} (give y) V
unfolding give
sounds_give y V h = record { sound = λ bs p. ([], record { spent = refl; to = sym (add-zero p) }, h) }

pub takes_then : {X Y E F : Type 0} (wrap : E → F) (m : Reader X E) (k : X → Reader Y F) (C D : List ℕ → Type 0) (xs ys : List ℕ) (x : X) (y : Y) → Takes m C xs x → Takes (k x) D ys y → ((rest : List ℕ) → D rest → C (ys ++ rest)) → Takes (and_then wrap m k) D (xs ++ ys) y
unfolding and_then
takes_then wrap m k C D xs ys x y h l c = record {
  taken = λ bs p rest e d.
      let e' = e ∙ append_assoc xs ys rest in
      let first = h.taken bs p (ys ++ rest) e' (c rest d) in
      let left : drop (p + length xs) bs ≡ ys ++ rest = sym (drop-drop (length xs) p bs) ∙ ap (drop (length xs)) e' ∙ drop_at xs (ys ++ rest) (length xs) refl in
      let far : p + length xs + length ys ≡ p + length (xs ++ ys) = simp length-append (omega arith) in
      rw first (l.taken bs (p + length xs) rest left d ∙ ap (λ n. Ok (y, n)) far);
}

pub takes_give : {Y E : Type 0} (y : Y) → Takes {E = E} (give y) (λ _. Unit {0}) [] y
unfolding give
takes_give y = record { taken = λ bs p rest e c. ap (λ n. Ok (y, n)) (sym (add-zero p)) }

pub sounds_weaker : {Y E : Type 0} (m : Reader Y E) (W V : Y → List ℕ → Type 0) → Sounds m W → ((y : Y) (xs : List ℕ) → W y xs → V y xs) → Sounds m V
sounds_weaker {Y} {E} m W V h f = record { sound = λ bs p. at bs p (m bs p) (h.sound bs p) }
  where
    at : (bs : List ℕ) (p : ℕ) (r : Result (Y × ℕ) E) → SoundAt W bs p r → SoundAt V bs p r
    at bs p (Ok x) s = (s.0, s.1, f x.0 s.0 s.2)
    at bs p (Err e) s = tt

-- what is known of all that a reader reads is known of what a cursor read
pub read_sound : {X Y E : Type 0} {f : X → Y} {a b : Cursor} {x : X} {m : Reader Y E} (W : Y → List ℕ → Type 0) → Sounds m W → Read f a b (Ok x) m → (xs : List ℕ) × W (f x) xs
read_sound {f} {a} {b} {x} {m} W s h =
    let t = subst (SoundAt W a.text.now a.at) (sym h.read) (s.sound a.text.now a.at) in
    (t.0, t.2)
