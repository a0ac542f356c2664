-- What is written of a visit or a leg that a book answers.
use Rattle.std.proofs.Common.{◌≡◌, ℕ, Bool, true, false, cond, is_some, Some, None, Option, Result, sym, ap, ◌∙◌, subst}
use Rattle.std.proofs.lemmas.Bool.{true≢false}
use Rattle.output.specs.declared.out.Out.{Out}
use Rattle.output.specs.declared.out.Full.{Full}
use Rattle.output.specs.Outputs.{Wrote}
use Rattle.book.specs.declared.parts.Visit.{Visit}
use Rattle.book.specs.declared.parts.Leg.{Leg}
use Rattle.book.specs.Books.{Contents, is_stop, is_place, visit_at, leg_at}
use Rattle.deck.specs.Bytes.{stop_bytes, leg_bytes}

-- what is there behind a test
behind : {A : Type 0} (t : Bool) (x y : A) → Some x ≡ cond t (Some y) None → x ≡ y
behind true x y e = cc
behind false x y e = absurd (true≢false (ap is_some e))

pub visit_written : (b : Contents) (j : ℕ) {v : Visit} {o : Option Visit} {before after : Out} {r : Result (Unit {0}) Full} → o ≡ Some v → o ≡ cond (is_stop b j) (Some (visit_at b j)) None → Wrote before after r (stop_bytes j v) → Wrote before after r (stop_bytes j (visit_at b j))
visit_written b j {v} {o} {before} {after} {r} is e w =
    subst (λ u. Wrote before after r (stop_bytes j u)) (behind (is_stop b j) v (visit_at b j) (sym is ∙ e)) w

pub leg_written : (b : Contents) (i j : ℕ) {x : Leg} {o : Option Leg} {before after : Out} {r : Result (Unit {0}) Full} → o ≡ Some x → o ≡ cond (is_place b i) (cond (is_place b j) (Some (leg_at b i j)) None) None → Wrote before after r (leg_bytes x) → Wrote before after r (leg_bytes (leg_at b i j))
leg_written b i j {x} {o} {before} {after} {r} is e w =
    subst (λ l. Wrote before after r (leg_bytes l)) (by (is_place b i) (sym is ∙ e)) w
  where
    by : (t : Bool) → Some x ≡ cond t (cond (is_place b j) (Some (leg_at b i j)) None) None → x ≡ leg_at b i j
    by true e = behind (is_place b j) x (leg_at b i j) e
    by false e = absurd (true≢false (ap is_some e))
