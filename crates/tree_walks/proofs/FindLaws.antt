-- A search as a whole.
use Rattle.std.proofs.Common.{◌≡◌, inl, inr, ℕ, ◌+◌, ◌≤◌, List, ap, ◌∙◌, subst, arith, Some, None}
use Rattle.std.specs.Prelude.{Result, Ok, Err, OnOk, IfOk, IfErr}
use Rattle.serial_model.specs.declared.key.Key.{Key}
use Rattle.homes.specs.declared.places.Content.{Content}
use Rattle.wire_form.specs.Words.{number_in}
use Rattle.commit_core.specs.Keys.{nothing}
use Rattle.commit_core.specs.Parts.{record_part, with_part, Vouches}
use Rattle.commit_core.specs.Serial.{last_write}
use Rattle.tx_sets.specs.declared.seen.Seen.{Seen}
use Rattle.engine_pages.specs.declared.layout.Layout.{Layout}
use Rattle.engine_pages.specs.declared.view.RefusalCause.{RefusalCause}
use Rattle.engine_pages.specs.declared.view.RefusalCause.TheVariants as causes
use Rattle.engine_pages.specs.declared.view.SetName.TheVariants as sets
use Rattle.engine_pages.specs.declared.view.View.{View}
use Rattle.tree_heads.specs.Keeps.{head_part}
use Rattle.tree_records.specs.Reads.{IsThat}
use Rattle.tree_walks.specs.declared.finding.Found.{Found}
use Rattle.tree_walks.specs.declared.finding.Found.TheVariants as places
use Rattle.tree_walks.specs.Finding.{IsAbsentIn, IsFound, IsFoundBelow, IsFoundIn, IsRecordChanged, MeetsOnly, RefusesFind}
use Rattle.tree_walks.specs.declared.ways.End.{End}
use Rattle.tree_walks.specs.Finds.{find_steps, FindsSo, KeepsSo}
use Rattle.tree_walks.specs.Steps.{GoesSo, Went}
use Rattle.tree_walks.specs.Walks.{walk_steps, AreLedTo, HasWalked, KeepsMet, OnlyTrees, OnlyWaysOn}
use Rattle.tree_walks.specs.Ways.{HasCome, RefusesWalk}
use Rattle.tree_walks.proofs.KeepLaws.{keeps_then}
use Rattle.tree_walks.proofs.PathLaws.{paths_then}
use Rattle.tree_walks.proofs.RefusalLaws.{refuses_back, saw_back}
use Rattle.tree_walks.proofs.StepLaws.{layout_stays, led_none, led_then, only_but_then, only_for, only_for_then}
use Rattle.tree_walks.proofs.StepLaws.{only_then, walked_then}

-- ---- what was found behind some steps that kept nothing was found behind them all

module _ (b : ℕ) (k : Key) (pointers headers : List Seen) (slots : List ℕ) (v u w : View) (went : Went b slots v u) where
  opening_same : u.layout ≡ v.layout
  opening_same = layout_stays v u went.walked

  found_in : (at word value : ℕ) → IsFoundIn k at word value u w → IsFoundIn k at word value v w
  found_in at word value f = record {
    slot = f.slot;
    span = f.span;
    on = f.on;
    spot = f.spot;
    stands = f.stands;
    place = f.place;
    content = f.content;
    small = f.small;
    shown = f.shown;
    has = f.has;
    last = subst (λ (y : Layout). IsThat f.content (last_write y.opening w.history w.decided k)) opening_same f.last;
    kept = f.kept ∙ ap (λ q. with_part q (record_part k f.spot f.content)) went.kept;
    met = f.met;
    words = λ a. f.words a ∙ went.words a;
  }

  absent_in : (at word : ℕ) → IsAbsentIn k headers at word u w → IsAbsentIn k headers at word v w
  absent_in at word f = record {
    slot = f.slot;
    span = f.span;
    on = f.on;
    keys = f.keys;
    knows = f.knows;
    none = f.none;
    few = f.few;
    place = f.place;
    is = f.is;
    kept = f.kept ∙ ap (λ q. with_part q (head_part f.slot f.span f.keys)) went.kept;
    word_kept = f.word_kept;
    words = λ a apart. f.words a apart ∙ went.words a;
    met = f.met;
    covered = f.covered;
    last = subst (λ (y : Layout). Vouches (last_write y.opening w.history w.decided) (head_part f.slot f.span f.keys)) opening_same
        f.last;
    absent = subst (λ (y : Layout). (last_write y.opening w.history w.decided k).value ≡ None) opening_same f.absent;
    set = f.set;
  }

  found_below : (c : Content) (p : Seen) → IsFoundBelow k c pointers p u w → IsFoundBelow k c pointers p v w
  found_below c p f = record {
    place = f.place;
    span = f.span;
    on = f.on;
    part = f.part;
    of = f.of;
    kept = f.kept ∙ ap (λ q. with_part q f.part) went.kept;
    word_kept = f.word_kept;
    words = λ a apart. f.words a apart ∙ went.words a;
    inside = f.inside;
    covers_all = f.covers_all;
    says = f.says;
    has = f.has;
    last = subst (λ (y : Layout). c.value ≡ (last_write y.opening w.history w.decided k).value) opening_same f.last;
    room = f.room;
  }

  found_back : (f : Found) → IsFound k pointers headers f u w → IsFound k pointers headers f v w
  found_back (places.Volatile at word value) f = found_in at word value f
  found_back (places.Absent header word) f = absent_in header word f
  found_back (places.Snapshot value number p) f = found_below (record { number = number_in number; value = Some value }) p f
  found_back (places.Zero p) f = found_below nothing p f

  record_back : (at expected seen : ℕ) → IsRecordChanged k at expected seen u w → IsRecordChanged k at expected seen v w
  record_back at expected seen c = record {
    slot = c.slot;
    span = c.span;
    on = c.on;
    spot = c.spot;
    stands = c.stands;
    place = c.place;
    whole = c.whole;
    was = c.was;
    saw = saw_back at seen c.was v u w went.walked.since c.saw;
    kept = c.kept ∙ went.words at;
    known = c.known;
    cause = c.cause;
  }

  find_refuses : AreLedTo k v u → HasWalked u w → (why : RefusalCause) → RefusesFind k pointers headers slots why u w
      → RefusesFind k pointers headers slots why v w
  find_refuses led walk (causes.Conflict at expected seen) h =
      elim h [
        | inl p ↦ inl (refuses_back b k pointers headers slots slots (causes.Conflict at expected seen) v u w went led walk p)
        | inr q ↦ inr (record_back at expected seen q)
      ]
  find_refuses led walk (causes.Full held) h = absurd h
  find_refuses led walk (causes.Wide set) h = (h.0, led_then k v u w walk led h.1)
  find_refuses led walk (causes.NumberLimit clock) h = absurd h

-- what a search met alone, behind a walk
pub meets_then : (f : Found) (v u w : View) → HasWalked u w → OnlyTrees v u → MeetsOnly f u w → MeetsOnly f v w
meets_then (places.Volatile at word value) v u w walk first second = only_but_then at v u w walk first second
meets_then (places.Absent header word) v u w walk first second = only_then v u w walk first second
meets_then (places.Snapshot value number p) v u w walk first second = only_then v u w walk first second
meets_then (places.Zero p) v u w walk first second = only_then v u w walk first second

-- the answers of a search, behind steps that kept nothing
pub finds_behind : (b c most : ℕ) (k : Key) (pointers headers : List Seen) (slots : List ℕ) (r : Result Found RefusalCause)
    (v u w : View) → b + c ≤ most → Went b slots v u → KeepsMet pointers headers v u → OnlyWaysOn k v u
    → u.grip ≡ v.grip
    → KeepsSo c k pointers headers slots r u w → KeepsSo most k pointers headers slots r v w
finds_behind b c most k pointers headers slots (Ok f) v u w few went keeps paths grip h = record {
  can = h.can;
  walked = walked_then v u w went.walked h.walked;
  most = let one = went.most in let two = h.most in omega (arith, few, one, two);
  met = only_for_then k v u w h.walked went.met h.met;
  only = meets_then f v u w h.walked went.met h.only;
  keeps = keeps_then pointers headers v u w went.walked keeps h.keeps;
  paths = paths_then k v u w h.walked paths h.paths;
  grip = h.grip ∙ grip;
  found = found_back b k pointers headers slots v u w went f h.found;
  cause = tt;
}
finds_behind b c most k pointers headers slots (Err why) v u w few went keeps paths grip h = record {
  can = h.can;
  walked = walked_then v u w went.walked h.walked;
  most = let one = went.most in let two = h.most in omega (arith, few, one, two);
  met = only_for_then k v u w h.walked went.met h.met;
  only = tt;
  keeps = tt;
  paths = paths_then k v u w h.walked paths h.paths;
  grip = h.grip ∙ grip;
  found = tt;
  cause = find_refuses b k pointers headers slots v u w went (led_none k v u grip) h.walked why h.cause;
}

-- what refuses a walk refuses a search
pub walk_finds : (k : Key) (pointers headers : List Seen) (slots : List ℕ) (why : RefusalCause) (v w : View)
    → RefusesWalk k pointers headers slots why v w → RefusesFind k pointers headers slots why v w
walk_finds k pointers headers slots (causes.Conflict at expected seen) v w h = inl h
walk_finds k pointers headers slots (causes.Full held) v w h = absurd h
walk_finds k pointers headers slots (causes.Wide sets.Reads) v w h = absurd h.0
walk_finds k pointers headers slots (causes.Wide sets.Writes) v w h = absurd h.0
walk_finds k pointers headers slots (causes.Wide sets.Pointers) v w h = absurd h.0
walk_finds k pointers headers slots (causes.Wide sets.Holds) v w h = h
walk_finds k pointers headers slots (causes.NumberLimit clock) v w h = absurd h

-- what was found is found
pub find_found : (b : ℕ) (k : Key) (pointers headers : List Seen) (slots : List ℕ) (r : Result Found RefusalCause)
    (v u w : View) → Went b slots v u → IfOk r (λ f. IsFound k pointers headers f u w)
    → IfOk r (λ f. IsFound k pointers headers f v w)
find_found b k pointers headers slots (Ok f) v u w went h = found_back b k pointers headers slots v u w went f h
find_found b k pointers headers slots (Err why) v u w went h = tt

pub find_cause : (b : ℕ) (k : Key) (pointers headers : List Seen) (slots : List ℕ) (r : Result Found RefusalCause)
    (v u w : View) → Went b slots v u → AreLedTo k v u → HasWalked u w
    → IfErr r (λ why. RefusesFind k pointers headers slots why u w)
    → IfErr r (λ why. RefusesFind k pointers headers slots why v w)
find_cause b k pointers headers slots (Ok f) v u w went led walk h = tt
find_cause b k pointers headers slots (Err why) v u w went led walk h =
    find_refuses b k pointers headers slots v u w went led walk why h

pub find_only : (r : Result Found RefusalCause) (v u w : View) → HasWalked u w → OnlyTrees v u
    → IfOk r (λ f. MeetsOnly f u w) → IfOk r (λ f. MeetsOnly f v w)
find_only (Ok f) v u w walk first second = meets_then f v u w walk first second
find_only (Err why) v u w walk first second = tt

pub find_keeps : (pointers headers : List Seen) (r : Result Found RefusalCause) (v u w : View) → HasWalked v u
    → KeepsMet pointers headers v u → OnOk r (KeepsMet pointers headers u w) → OnOk r (KeepsMet pointers headers v w)
find_keeps pointers headers (Ok f) v u w walk first second = keeps_then pointers headers v u w walk first second
find_keeps pointers headers (Err why) v u w walk first second = tt

-- the slots that a walk led to are led to behind a search
pub finds_led : (k : Key) (r : Result Found RefusalCause) (v u w : View) → HasWalked u w → w.grip ≡ u.grip → AreLedTo k v u
    → OnOk r (AreLedTo k v w)
finds_led k (Ok f) v u w walk grip led = led_then k v u w walk led (led_none k u w grip)
finds_led k (Err why) v u w walk grip led = tt

-- ---- the whole search

-- what comes behind a walk that came to its end
pub finds_then : (c : ℕ) (k : Key) (pointers headers : List Seen) (slots : List ℕ) (x : End)
    (r : Result Found RefusalCause) (v u w : View) → walk_steps + c ≤ find_steps
    → GoesSo walk_steps k pointers headers slots (HasCome k pointers headers) (Ok x) v u
    → KeepsSo c k pointers headers slots r u w → FindsSo k pointers headers slots r v w
finds_then c k pointers headers slots x r v u w few g h = record {
  can = h.can;
  walked = walked_then v u w g.went.walked h.walked;
  most = let one = g.went.most in let two = h.most in omega (arith, few, one, two);
  met = only_for_then k v u w h.walked g.went.met h.met;
  only = find_only r v u w h.walked g.went.met h.only;
  led = finds_led k r v u w h.walked h.grip g.led;
  keeps = find_keeps pointers headers r v u w g.went.walked g.keeps h.keeps;
  paths = paths_then k v u w h.walked g.paths h.paths;
  found = find_found walk_steps k pointers headers slots r v u w g.went h.found;
  cause = find_cause walk_steps k pointers headers slots r v u w g.went g.led h.walked h.cause;
}

-- a walk that was refused
pub finds_refused : (k : Key) (pointers headers : List Seen) (slots : List ℕ) (why : RefusalCause) (v w : View)
    → GoesSo walk_steps k pointers headers slots (HasCome k pointers headers) (Err why) v w
    → FindsSo k pointers headers slots (Err why) v w
finds_refused k pointers headers slots why v w g = record {
  can = g.went.can;
  walked = g.went.walked;
  most = let one = g.went.most in omega (arith, one);
  met = only_for k v w g.went.met;
  only = tt;
  led = tt;
  keeps = tt;
  paths = g.paths;
  found = tt;
  cause = walk_finds k pointers headers slots why v w g.cause;
}
