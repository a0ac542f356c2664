-- A loop that writes one piece after another.
use Rattle.std.proofs.Common.{◌≡◌, ℕ, zero, suc, ◌+◌, ◌-◌, ◌≤◌, ◌<◌, Bool, true, false, List, [], ◌++◌, length, take, IsErrAnd, Ok, Err, Result, sym, refl, ap, ◌∙◌, append-nil, append_assoc, add-zero, arith}
use Rattle.std.proofs.lemmas.Bool.{leb-true, le-leb}
use Rattle.output.specs.declared.out.Out.{Out}
use Rattle.output.specs.declared.out.Full.{Full}
use Rattle.output.specs.Outputs.{Wrote, done, pieces}
use Rattle.output.proofs.Lent.{writes, stays}

-- no more is filled than there is
abbrev pub Room : Out → Type 0
Room a = a.len ≤ length a.out.now

done_ok : (b : Bool) → Ok tt ≡ done b → b ≡ true
done_ok true e = refl
done_ok false e = cc

pub room_after : {a b : Out} {bs : List ℕ} → Wrote a b (Ok tt) bs → Room b
room_after {a} {b} {bs} w =
    let fits = leb-true (a.len + length bs) (length a.out.now) (done_ok _ w.fits) in
    let at = w.moved refl in
    let long = w.long in
    omega arith

pub nothing : (a : Out) → Room a → Wrote a a (Ok tt) []
nothing a room =
    record {
      held = refl;
      fits = ap done (sym (le-leb (a.len + 0) (length a.out.now) (omega arith)));
      long = refl;
      moved = λ _. sym (add-zero a.len);
      front = λ _. sym (append-nil (take a.len a.out.now));
      back = λ _. refl;
    }

-- some pieces, then the others
pieces_both : (piece : ℕ → List ℕ) (k m j : ℕ) → pieces piece (k + m) j ≡ pieces piece k j ++ pieces piece m (j + k)
pieces_both piece zero m j = let e : 0 + m ≡ m = omega arith in let s : j + 0 ≡ j = omega arith in rw (e, s)
pieces_both piece (suc k) m j =
    let e : suc k + m ≡ suc (k + m) = omega arith in
    let s : j + 1 + k ≡ j + suc k = omega arith in
    rw e (ap (λ l. piece j ++ l) (pieces_both piece k m (j + 1) ∙ ap (λ i. pieces piece k (j + 1) ++ pieces piece m i) s) ∙ sym (append_assoc (piece j) (pieces piece k (j + 1)) (pieces piece m (j + suc k))))

-- one more
pub more : {a b d : Out} (piece : ℕ → List ℕ) (k n j i : ℕ) → i ≡ j + k → n ≡ k + 1 → Wrote a b (Ok tt) (pieces piece k j) → Wrote b d (Ok tt) (piece i) → Wrote a d (Ok tt) (pieces piece n j)
more {a} {b} {d} piece k n j i here up before w =
    let one : pieces piece 1 (j + k) ≡ piece (j + k) = append-nil (piece (j + k)) in
    let v = rw here at w in
    rw (up, pieces_both piece k 1 j, one) (writes before v)

-- the exit of a `?` in the loop
pub cut : {a b d : Out} {e : Full} (piece : ℕ → List ℕ) (k n j i : ℕ) (r : Result (Unit {0}) Full) → i ≡ j + k → k < n → Wrote a b (Ok tt) (pieces piece k j) → Wrote b d (Err e) (piece i) → IsErrAnd r (λ y. y ≡ e) → Wrote a d r (pieces piece n j)
cut {a} {b} {d} piece k n j i r here h before w is =
    let all : n ≡ k + suc (n - (k + 1)) = omega arith in
    let v = rw here at w in
    rw (all, pieces_both piece k (suc (n - (k + 1))) j) (writes before (stays _ r v is))
