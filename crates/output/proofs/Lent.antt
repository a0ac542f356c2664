-- What a slice holds after its rest was lent to a printer.
use Rattle.std.proofs.Common.{◌≡◌, ℕ, ◌+◌, ◌-◌, ◌≤◌, leb, List, [], ◌++◌, length, take, drop, IsErrAnd, Some, Ok, Err, Result, sym, refl, ap, ◌∙◌, append_assoc, arith, length-append, length-drop}
use borrow.Rule.Slice.PartMut.{put_mid}
use Rattle.std.proofs.lemmas.List.{take_rest, drop-drop, drop_all, append-nil, take_at, drop_at, length-take-le, take-append-drop}
use Rattle.std.proofs.lemmas.Bool.{le-leb, false≢true}
use Rattle.std.proofs.lemmas.Result.{err_from_is_err_and}
use Rattle.std.proofs.lemmas.Bool.Decides.{nat_tests}
use Rattle.output.specs.declared.out.Out.{Out}
use Rattle.output.specs.declared.out.Full.{Full}
use Rattle.output.specs.Outputs.{fit, put, done, Printed, Wrote}

-- what fits says
room : (bs : List ℕ) (n k : ℕ) → Some k ≡ fit bs n → (k ≡ length bs) × (length bs ≤ n)
room bs n k e = grind (arith, nat_tests)

rest : (bs part : List ℕ) (before : List ℕ) → length bs ≤ length before → part ≡ put bs before → part ≡ bs ++ drop (length bs) before
rest bs part before h e = let t = le-leb (length bs) (length before) h in e ∙ simp t

module _ (o bs part : List ℕ) (len : ℕ) (inside : len + length bs ≤ length o) (is : part ≡ bs ++ drop (length bs) (drop len o)) where
  -- the whole slice, in three parts
  pub parts : put_mid len (length o - len) o part ≡ (take len o ++ bs) ++ drop (len + length bs) o
  parts =
      let none : drop (length o - len) (drop len o) ≡ [] = drop_all (length o - len) (drop len o) (simp length-drop (omega arith)) in
      rw (none, append-nil, is, drop-drop) (sym (append_assoc (take len o) bs (drop (len + length bs) o)))

  pub front_long : length (take len o ++ bs) ≡ len + length bs
  front_long = simp (length-append) (omega (arith, length-take-le len o (omega arith)))

pub lent : (a b : Out) (bs part : List ℕ) (k : ℕ) → a.len ≤ length a.out.now → Printed (take (length a.out.now - a.len) (drop a.len a.out.now)) part (Some k) bs → b.out.now ≡ put_mid a.len (length a.out.now - a.len) a.out.now part → b.len ≡ a.len + k → b.out.ghost_name ≡ a.out.ghost_name → Wrote a b (Ok tt) bs
lent a b bs part k h p out len held =
    let o = a.out.now in
    let same = take_rest o a.len in
    let left = length-drop a.len o in
    let r = room bs _ k p.count in
    let fitting : length bs ≤ length (drop a.len o) = omega (arith, ap length same) in
    let inside : a.len + length bs ≤ length o = omega arith in
    let is = rest bs part _ fitting (rw same at p.bytes) in
    let whole = out ∙ parts o bs part a.len inside is in
    let long = front_long o bs part a.len inside is in
    let to : b.len ≡ a.len + length bs = omega arith in
    record {
      held = held;
      fits = rw (le-leb _ _ inside);
      long = ap length whole ∙ simp (length-append, length-drop) (omega (arith, length-take-le a.len o h));
      moved = λ _. to;
      front = λ _. rw (whole, take_at (take a.len o ++ bs) (drop (a.len + length bs) o) b.len (long ∙ sym to));
      back = λ _. rw (whole, drop_at (take a.len o ++ bs) (drop (a.len + length bs) o) b.len (long ∙ sym to), to);
    }

-- what the slice of an empty writer then holds
pub all_written : {a b : Out} {bs : List ℕ} → Wrote a b (Ok tt) bs → a.len ≡ 0 → b.out.now ≡ bs ++ drop (length bs) a.out.now
all_written {a} {b} {bs} w none =
    let far : b.len ≡ length bs = omega (arith, w.moved refl) in
    let front : take b.len b.out.now ≡ bs = w.front refl ∙ ap (λ n. take n a.out.now ++ bs) none in
    let back : drop b.len b.out.now ≡ drop (length bs) a.out.now = w.back refl ∙ ap (λ n. drop n a.out.now) far in
    sym (take-append-drop b.len b.out.now) ∙ (λ i. front i ++ back i)

-- one piece after another
pub writes : {a b d : Out} {r : Result (Unit {0}) Full} {xs ys : List ℕ} → Wrote a b (Ok tt) xs → Wrote b d r ys → Wrote a d r (xs ++ ys)
writes {a} {b} {d} {r} {xs} {ys} h l =
    let more = length-append xs ys in
    let at = h.moved refl in
    let same : leb (b.len + length ys) (length b.out.now) ≡ leb (a.len + length (xs ++ ys)) (length a.out.now) = rw (more, h.long, at) (ap (λ n. leb n (length a.out.now)) (omega arith)) in
    record {
      held = l.held ∙ h.held;
      fits = l.fits ∙ ap done same;
      long = l.long ∙ h.long;
      moved = λ ok. omega (arith, l.moved ok);
      front = λ ok. l.front ok ∙ ap (λ x. x ++ ys) (h.front refl) ∙ append_assoc (take a.len a.out.now) xs ys;
      back = λ ok. let on : d.len ≡ b.len + length ys = l.moved ok in
          l.back ok ∙ rw on (sym (drop-drop (length ys) b.len b.out.now) ∙ ap (drop (length ys)) (h.back refl) ∙ drop-drop (length ys) b.len a.out.now);
    }

-- the exit of a `?`
pub stays : {a b : Out} {e : Full} {xs : List ℕ} (ys : List ℕ) (r : Result (Unit {0}) Full) → Wrote a b (Err e) xs → IsErrAnd r (λ y. y ≡ e) → Wrote a b r (xs ++ ys)
stays {a} {b} {e} {xs} ys r h l =
    let p = err_from_is_err_and r l in
    let more = length-append xs ys in
    rw (p.1, p.2) (record {
      held = h.held;
      fits = grind (arith, nat_tests, h.fits);
      long = h.long;
      moved = λ ok. absurd (false≢true ok);
      front = λ ok. absurd (false≢true ok);
      back = λ ok. absurd (false≢true ok);
    })
