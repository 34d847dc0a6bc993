-- One text printed after another.
use Rattle.std.proofs.Common.{◌≡◌, ◌∙◌, sym, ap, subst, refl, [], ◌++◌, Option, Some, None, Result, Ok, Err, arith, append_assoc}
use Rattle.std.specs.Io.KnownBytes.{Appends}
use Rattle.outside.specs.Faults.{HasCause}
use Rattle.outside.specs.Stream.{TakesPrefix}
use Rattle.std.specs.Prelude.{OnOk, OnErr, IsErrAnd}
use Rattle.std.proofs.lemmas.List.{append-nil}
use Rattle.text_output.specs.Output.{Bytes, Output, Adds, Breaks, Prints}

-- known bytes grow by one text and then another
appends_then : (a b c : Option Bytes) (x y : Bytes) → Appends a b x → Appends b c y → Appends a c (x ++ y)
appends_then None b c x y first then = tt
appends_then (Some xs) None c x y first then = absurd first
appends_then (Some xs) (Some ys) None x y first then = absurd then
appends_then (Some xs) (Some ys) (Some zs) x y first then = then ∙ ap (λ w. w ++ y) first ∙ append_assoc xs x y

-- they are as they were where nothing is added
appends_none : (a : Option Bytes) → Appends a a []
appends_none None = tt
appends_none (Some xs) = sym (append-nil xs)

-- a text, and then another
pub adds_then : {old mid new : Output} {first then : Bytes} → Adds old mid first → Adds mid new then
    → Adds old new (first ++ then)
adds_then {old = old} {mid = mid} {new = new} {first = first} {then = then} one two = record {
  same = two.same ∙ one.same;
  faults = two.faults ∙ one.faults;
  out = one.out ++ two.out;
  written = appends_then old.held mid.held new.held one.out two.out one.written two.written;
  whole = append_assoc one.out two.out new.waiting ∙ ap (λ w. one.out ++ w) two.whole ∙ sym (append_assoc one.out mid.waiting then)
      ∙ ap (λ w. w ++ then) one.whole ∙ append_assoc old.waiting first then;
}

-- a text, and then a fault within another
pub breaks_then : {old mid new : Output} {first then : Bytes} → Adds old mid first → Breaks mid new then
    → Breaks old new (first ++ then)
breaks_then {old = old} {mid = mid} {new = new} {first = first} {then = then} one two =
    let p = two.prefix in
    record {
      same = two.same ∙ one.same;
      faults = omega (arith, one.faults, two.faults);
      later = omega (arith, one.faults, two.later);
      prefix = (
        one.out ++ p.0,
        p.1,
        sym (append_assoc old.waiting first then) ∙ ap (λ w. w ++ then) (sym one.whole) ∙ append_assoc one.out mid.waiting then
            ∙ ap (λ w. one.out ++ w) p.2 ∙ sym (append_assoc one.out p.0 p.1),
        appends_then old.held mid.held new.held one.out p.0 one.written p.3,
      );
    }

-- a fault within a text is one within what begins with it
pub breaks_within : {old new : Output} {first : Bytes} (then : Bytes) → Breaks old new first
    → Breaks old new (first ++ then)
breaks_within {old = old} {first = first} then one =
    let p = one.prefix in
    record {
      same = one.same;
      faults = one.faults;
      later = one.later;
      prefix = (p.0, p.1 ++ then, sym (append_assoc old.waiting first then) ∙ ap (λ w. w ++ then) p.2 ∙ append_assoc p.0 p.1 then, p.3);
    }

-- a call that prints, after a text
pub prints_then : {T E : Type 0} {old mid : Output} {first : Bytes} (new : Output) (then : Bytes) (r : Result T E)
    → Adds old mid first → Prints mid new then r → Prints old new (first ++ then) r
prints_then new then (Ok x) one two = adds_then one two
prints_then new then (Err e) one two = breaks_then one two

-- a write while nothing waits
pub prints_past : {T E : Type 0} (old new : Output) (text : Bytes) (r : Result T E) → new.sink ≡ old.sink → old.waiting ≡ []
    → new.waiting ≡ [] → OnOk r (Appends old.held new.held text) → OnErr r (TakesPrefix old.held new.held text)
    → HasCause old.faults new.faults r → Prints old new text r
prints_past old new text (Ok x) same empty still ok err cause = record {
  same = same;
  faults = cause.quiet;
  out = text;
  written = ok;
  whole = ap (λ w. text ++ w) still ∙ append-nil text ∙ ap (λ w. w ++ text) (sym empty);
}
prints_past old new text (Err e) same empty still ok err cause = record {
  same = same;
  faults = cause.failed;
  later = cause.later;
  prefix = (err.0, err.1, ap (λ w. w ++ text) empty ∙ err.2, err.3);
}

-- the exit of a call that failed
pub prints_at_stop : {T E : Type 0} {old new : Output} {text : Bytes} (Q : E → Type 0) (r : Result T E) → IsErrAnd r Q
    → Breaks old new text → Prints old new text r
prints_at_stop Q (Ok x) fails one = absurd fails
prints_at_stop Q (Err e) fails one = one

-- nothing printed
pub adds_nothing : (at : Output) → Adds at at []
adds_nothing at = record {
  same = refl;
  faults = refl;
  out = [];
  written = appends_none at.held;
  whole = sym (append-nil at.waiting);
}

-- the same text, spelled otherwise
pub adds_as : {old new : Output} {text other : Bytes} → text ≡ other → Adds old new text → Adds old new other
adds_as {old = old} {new = new} same one = subst (λ t. Adds old new t) same one

-- the same where the sink failed
pub breaks_as : {old new : Output} {text other : Bytes} → text ≡ other → Breaks old new text → Breaks old new other
breaks_as {old = old} {new = new} same one = subst (λ t. Breaks old new t) same one
