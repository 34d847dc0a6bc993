-- What refused a part of a walk refuses the walk.
use Rattle.std.proofs.Common.{◌≡◌, ◌≢◌, ◌⊎◌, inl, inr, ℕ, ◌+◌, ◌^◌, ◌<◌, ◌≤◌, Bool, true, false, List, refl, ◌∙◌}
use Rattle.std.proofs.Common.{arith, Option, ltb}
use Rattle.std.specs.Prelude.{Result, Ok, Err}
use Rattle.std.proofs.lemmas.Bool.Decides.{nat_tests}
use Rattle.serial_model.specs.declared.key.Key.{Key}
use Rattle.tx_sets.specs.declared.seen.Seen.{Seen}
use Rattle.engine_pages.specs.declared.view.RefusalCause.{RefusalCause}
use Rattle.engine_pages.specs.declared.view.RefusalCause.TheVariants as causes
use Rattle.engine_pages.specs.declared.view.SetName.TheVariants as sets
use Rattle.engine_pages.specs.declared.view.View.{View}
use Rattle.array_pages.specs.Walks.{SawLast}
use Rattle.tree_walks.specs.Steps.{GoesSo, Went}
use Rattle.tree_walks.specs.Walks.{AreLedTo, HasWalked, KeepsMet, OnlyWaysOn}
use Rattle.tree_walks.specs.Ways.{IsHeaderChanged, IsPointerChanged, RefusesWalk}
use Rattle.tree_walks.proofs.KeepLaws.{keeps_then}
use Rattle.tree_walks.proofs.PathLaws.{paths_then}
use Rattle.tree_walks.proofs.StepLaws.{led_then, went_then}

abbrev pub saw_back : (at seen : ℕ) (was : Option ℕ) (v u w : View) → v.steps ≤ u.steps → SawLast at seen was u w
    → SawLast at seen was v w
saw_back at seen was v u w since s = record {
  step = s.step;
  since = let later = s.since in omega (arith, since, later);
  last = s.last;
  kept = s.kept;
  kept_is = s.kept_is;
  stands = s.stands;
}

pointer_back : (b : ℕ) (k : Key) (pointers : List Seen) (slots : List ℕ) (at expected seen : ℕ) (v u w : View)
    → Went b slots v u → IsPointerChanged k pointers at expected seen u w → IsPointerChanged k pointers at expected seen v w
pointer_back b k pointers slots at expected seen v u w went c = record {
  on = c.on;
  was = c.was;
  saw = saw_back at seen c.was v u w went.walked.since c.saw;
  known =
      elim c.known [ inl set ↦ inl (set.0, set.1 ∙ went.words at) | inr before ↦ inr before ];
  cause = c.cause;
}

header_back : (b : ℕ) (k : Key) (headers : List Seen) (slots : List ℕ) (at expected seen : ℕ) (v u w : View)
    → Went b slots v u → IsHeaderChanged k headers at expected seen u w → IsHeaderChanged k headers at expected seen v w
header_back b k headers slots at expected seen v u w went c = record {
  slot = c.slot;
  span = c.span;
  on = c.on;
  leaf = c.leaf;
  word = c.word;
  was = c.was;
  saw = saw_back at seen c.was v u w went.walked.since c.saw;
  kept = c.kept ∙ went.words at;
  known = c.known;
  cause = c.cause;
}

pub refuses_back : (b : ℕ) (k : Key) (pointers headers : List Seen) (slots late : List ℕ) (why : RefusalCause) (v u w : View)
    → Went b slots v u → AreLedTo k v u → HasWalked u w → RefusesWalk k pointers headers late why u w
    → RefusesWalk k pointers headers late why v w
refuses_back b k pointers headers slots late (causes.Conflict at expected seen) v u w went led walk h =
    elim h [
      | inl p ↦ inl (pointer_back b k pointers slots at expected seen v u w went p)
      | inr q ↦ inr (header_back b k headers slots at expected seen v u w went q)
    ]
refuses_back b k pointers headers slots late (causes.Full held) v u w went led walk h = absurd h
refuses_back b k pointers headers slots late (causes.Wide set) v u w went led walk h = (h.0, led_then k v u w walk led h.1)
refuses_back b k pointers headers slots late (causes.NumberLimit clock) v u w went led walk h = absurd h

-- ---- parts in a row

-- a part was refused behind another one
pub goes_refused : {A B : Type 0} (b c most : ℕ) (k : Key) (pointers headers : List Seen) (slots late : List ℕ)
    (comes : A → View → Type 0) (ends : B → View → Type 0) (why : RefusalCause) (v u w : View) → b + c ≤ most
    → Went b slots v u → AreLedTo k v u → OnlyWaysOn k v u → GoesSo c k pointers headers late comes (Err why) u w
    → GoesSo most k pointers headers late ends (Err why) v w
goes_refused b c most k pointers headers slots late comes ends why v u w few went led paths h = record {
  went = went_then b c most slots late v u w few went h.went;
  led = tt;
  keeps = tt;
  paths = paths_then k v u w h.went.walked paths h.paths;
  came = tt;
  cause = refuses_back b k pointers headers slots late why v u w went led h.went.walked h.cause;
}

-- it came to what is told behind another one
pub goes_on : {A B : Type 0} (b c most : ℕ) (k : Key) (pointers headers : List Seen) (slots late : List ℕ)
    (comes : A → View → Type 0) (ends : B → View → Type 0) (a : A) (e : B) (v u w : View) → b + c ≤ most
    → Went b slots v u → AreLedTo k v u → KeepsMet pointers headers v u → OnlyWaysOn k v u
    → GoesSo c k pointers headers late comes (Ok a) u w → ends e w
    → GoesSo most k pointers headers late ends (Ok e) v w
goes_on b c most k pointers headers slots late comes ends a e v u w few went led keeps paths h end = record {
  went = went_then b c most slots late v u w few went h.went;
  led = led_then k v u w h.went.walked led h.led;
  keeps = keeps_then pointers headers v u w went.walked keeps h.keeps;
  paths = paths_then k v u w h.went.walked paths h.paths;
  came = end;
  cause = tt;
}

-- the same of any answer that is handed on
pub goes_behind : {A : Type 0} (b c most : ℕ) (k : Key) (pointers headers : List Seen) (slots late : List ℕ)
    (comes : A → View → Type 0) (r : Result A RefusalCause) (v u w : View) → b + c ≤ most → Went b slots v u
    → AreLedTo k v u → KeepsMet pointers headers v u → OnlyWaysOn k v u → GoesSo c k pointers headers late comes r u w
    → GoesSo most k pointers headers late comes r v w
goes_behind b c most k pointers headers slots late comes (Ok a) v u w few went led keeps paths h =
    goes_on b c most k pointers headers slots late comes comes a a v u w few went led keeps paths h h.came
goes_behind b c most k pointers headers slots late comes (Err why) v u w few went led keeps paths h =
    goes_refused b c most k pointers headers slots late comes comes why v u w few went led paths h

-- ---- words that were loaded again

-- a pointer that was shut is shut still, or another word
pub shut_or_other : (word again : ℕ) → 2 ^ 60 ≤ word → (2 ^ 60 ≤ again) ⊎ (again ≢ word)
shut_or_other word again shut = by_test (ltb again (2 ^ 60)) refl
  where
    by_test : (b : Bool) → ltb again (2 ^ 60) ≡ b → (2 ^ 60 ≤ again) ⊎ (again ≢ word)
    by_test true low = let less : again < 2 ^ 60 = grind (arith, nat_tests) in inr
        (λ e. absurd (omega (arith, less, shut, e)))
    by_test false high = let most : 2 ^ 60 ≤ again = grind (arith, nat_tests) in inl most
