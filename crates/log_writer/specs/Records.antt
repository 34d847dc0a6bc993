-- Which ties and cuts were added to those that were recorded.
use Rattle.std.proofs.Common.{◌≡◌, ◌+◌, ◌++◌, ◌∷◌, ℕ, suc, List, [], append_assoc, length, refl, sym, ◌∙◌, ap, subst, arith}
use Rattle.std.specs.Prelude.{map, ⊤}
use Rattle.std.specs.List.{AllByRecursion}
use Rattle.std.proofs.lemmas.List.{append-nil, length-append}
use Rattle.outside.specs.declared.device.Device.{Device}
use Rattle.outside.specs.declared.device.Device.TheVariants.{Bank}
use Rattle.log_writer.specs.declared.records.Cut.{Cut}
use Rattle.log_writer.specs.declared.records.Tie.{Tie}

-- the sequences of ties rise by one behind this one
abbrev pub RiseBehind : ℕ → List Tie → Type 0
RiseBehind sequence [] = ⊤
RiseBehind sequence (tie ∷ ties) = (tie.sequence ≡ sequence + 1) × RiseBehind (sequence + 1) ties

-- So many ties were added, one for each store that was begun: their sequences rise by one behind this one.
pub record AddsTies (sequence count : ℕ) (old new : List Tie) : Type 0 where
  pub added : List Tie
  pub are : new ≡ old ++ added
  pub number : length added ≡ count
  pub rise : RiseBehind sequence added

-- Cuts of these log files were added, one after another, each behind this sequence.
pub record AddsCuts (after : ℕ) (numbers : List ℕ) (old new : List Cut) : Type 0 where
  pub added : List Cut
  pub are : new ≡ old ++ added
  pub devices : map (λ (c : Cut). c.device) added ≡ map (λ n. Bank n) numbers
  pub behind : AllByRecursion (λ (c : Cut). c.after ≡ after) added

-- ---- laws

-- ties behind others rise on
rise_then : (sequence : ℕ) (first more : List Tie) → RiseBehind sequence first
    → RiseBehind (sequence + length first) more → RiseBehind sequence (first ++ more)
rise_then sequence [] more rise next =
    let same : sequence + 0 ≡ sequence = omega arith in subst (λ k. RiseBehind k more) same next
rise_then sequence (tie ∷ ties) more rise next = (
  rise.0,
  rise_then (sequence + 1) ties more rise.1
      (let same : sequence + suc (length ties) ≡ sequence + 1 + length ties = omega arith in
      subst (λ k. RiseBehind k more) same next),
)

-- nothing was added
pub no_ties : (sequence : ℕ) {old new : List Tie} → new ≡ old → AddsTies sequence 0 old new
no_ties sequence {old = old} same = record { added = []; are = same ∙ sym (append-nil old); number = refl; rise = tt }

-- one was
pub one_tie : {sequence : ℕ} {old new : List Tie} (tie : Tie) → new ≡ old ++ tie ∷ [] → tie.sequence ≡ sequence + 1
    → AddsTies sequence 1 old new
one_tie tie are is = record { added = tie ∷ []; are = are; number = refl; rise = (is, tt) }

-- and then more were
pub ties_then : {sequence first more : ℕ} {old mid new : List Tie} → AddsTies sequence first old mid
    → AddsTies (sequence + first) more mid new → AddsTies sequence (first + more) old new
ties_then {sequence = sequence} {first = first} {more = more} {old = old} one two =
    let sum : length one.added + length two.added ≡ first + more = omega (arith, one.number, two.number) in
    record {
      added = one.added ++ two.added;
      are = two.are ∙ ap (λ (l : List Tie). l ++ two.added) one.are ∙ append_assoc old one.added two.added;
      number = length-append one.added two.added ∙ sum;
      rise = rise_then sequence one.added two.added one.rise
          (subst (λ n. RiseBehind (sequence + n) two.added) (sym one.number) two.rise);
    }

-- no cut was added
pub no_cuts : (after : ℕ) {old new : List Cut} → new ≡ old → AddsCuts after [] old new
no_cuts after {old = old} same = record { added = []; are = same ∙ sym (append-nil old); devices = refl; behind = tt }

map_push : {A B : Type 0} (f : A → B) (xs : List A) (x : A) → map f (xs ++ x ∷ []) ≡ map f xs ++ f x ∷ []
map_push f [] x = refl
map_push f (y ∷ ys) x = ap (λ l. f y ∷ l) (map_push f ys x)

all_push : (after : ℕ) (cuts : List Cut) (cut : Cut) → AllByRecursion (λ (c : Cut). c.after ≡ after) cuts
    → cut.after ≡ after → AllByRecursion (λ (c : Cut). c.after ≡ after) (cuts ++ cut ∷ [])
all_push after [] cut all is = (is, tt)
all_push after (c ∷ cuts) cut all is = (all.0, all_push after cuts cut all.1 is)

-- and one more was
pub cuts_then : {after : ℕ} {numbers : List ℕ} {old mid new : List Cut} (n at : ℕ) → AddsCuts after numbers old mid
    → new ≡ mid ++ record { device = Bank n; at = at; after = after } ∷ []
    → AddsCuts after (numbers ++ n ∷ []) old new
cuts_then {after = after} {numbers = numbers} {old = old} n at so_far are =
    let this : Cut = record { device = Bank n; at = at; after = after } in
    record {
      added = so_far.added ++ this ∷ [];
      are = are ∙ ap (λ (l : List Cut). l ++ this ∷ []) so_far.are ∙ append_assoc old so_far.added (this ∷ []);
      devices = map_push (λ (c : Cut). c.device) so_far.added this
          ∙ ap (λ (l : List Device). l ++ Bank n ∷ []) so_far.devices ∙ sym (map_push (λ (m : ℕ). Bank m) numbers n);
      behind = all_push after so_far.added this so_far.behind refl;
    }
