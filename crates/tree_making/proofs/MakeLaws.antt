-- Parts of what brings pages into memory, one behind another.
use Rattle.std.proofs.Common.{inl, inr, ℕ, ◌+◌, ◌≤◌, List, sym, ap, ◌∙◌, arith}
use Rattle.std.specs.Prelude.{Result, Ok, Err}
use Rattle.serial_model.specs.declared.key.Key.{Key}
use Rattle.tx_sets.specs.declared.seen.Seen.{Seen}
use Rattle.engine_pages.specs.declared.view.RefusalCause.{RefusalCause}
use Rattle.engine_pages.specs.declared.view.RefusalCause.TheVariants as causes
use Rattle.engine_pages.specs.declared.view.SetName.TheVariants as sets
use Rattle.engine_pages.specs.declared.view.View.{View}
use Rattle.tree_walks.specs.Steps.{GoesSo, Went}
use Rattle.tree_walks.specs.Walks.{AreLedTo, CanWalk, HasWalked, KeepsMet, OnlyWaysOn}
use Rattle.tree_walks.specs.Ways.{RefusesWalk}
use Rattle.tree_walks.proofs.KeepLaws.{keeps_then}
use Rattle.tree_walks.proofs.PathLaws.{paths_then}
use Rattle.tree_walks.proofs.RefusalLaws.{refuses_back}
use Rattle.tree_walks.proofs.StepLaws.{led_then, only_then, role_stays, stage_stays, walked_then}
use Rattle.tree_making.specs.Making.{CanMake, MakesSo, RefusesMake, Worked}

-- ---- the pass

-- the same pass behind a walk
pub make_after : (slots late : List ℕ) (v w : View) → HasWalked v w → CanWalk late w → CanMake slots v → CanMake late w
make_after slots late v w walk can m = record {
  walks = can;
  worker = λ keeper. m.worker (sym (role_stays v w walk) ∙ keeper);
  idle = stage_stays v w walk ∙ m.idle;
  unlocked = ap (λ (z : View). z.seat.locks) walk.is ∙ m.unlocked;
  nothing_made = record {
    made = ap (λ (z : View). z.grip.made) walk.is ∙ m.nothing_made.made;
    taken = ap (λ (z : View). z.grip.taken) walk.is ∙ m.nothing_made.taken;
    drafts = ap (λ (z : View). z.drafts) walk.is ∙ m.nothing_made.drafts;
    copies = ap (λ (z : View). z.copies) walk.is ∙ m.nothing_made.copies;
    blanks = ap (λ (z : View). z.blanks) walk.is ∙ m.nothing_made.blanks;
    leaves = ap (λ (z : View). z.new_leaves) walk.is ∙ m.nothing_made.leaves;
    inners = ap (λ (z : View). z.new_inners) walk.is ∙ m.nothing_made.inners;
  };
  opened = ap (λ (z : View). z.heads) walk.is ∙ m.opened;
}

-- ---- parts in a row

pub worked_then : (b c most : ℕ) (slots late : List ℕ) (v u w : View) → b + c ≤ most → Worked b slots v u
    → Worked c late u w → Worked most late v w
worked_then b c most slots late v u w few x y = record {
  can = y.can;
  walked = walked_then v u w x.walked y.walked;
  most = let one = x.most in let two = y.most in omega (arith, few, one, two);
  kept = y.kept ∙ x.kept;
  words = λ a. y.words a ∙ x.words a;
  met = only_then v u w y.walked x.met y.met;
}

-- a part of a walk, of such a pass
pub worked_walk : (b : ℕ) (slots late : List ℕ) (v w : View) → CanMake slots v → Went b late v w → Worked b late v w
worked_walk b slots late v w can x = record {
  can = make_after slots late v w x.walked x.can can;
  walked = x.walked;
  most = x.most;
  kept = x.kept;
  words = x.words;
  met = x.met;
}

went_of : (b : ℕ) (slots : List ℕ) (v w : View) → Worked b slots v w → Went b slots v w
went_of b slots v w x = record {
  can = x.can.walks;
  walked = x.walked;
  most = x.most;
  kept = x.kept;
  words = x.words;
  met = x.met;
}

-- ---- refusals

-- what refused a walk refuses this
pub walk_refuses : (k : Key) (pointers headers : List Seen) (slots : List ℕ) (why : RefusalCause) (v w : View)
    → RefusesWalk k pointers headers slots why v w → RefusesMake k pointers headers slots why v w
walk_refuses k pointers headers slots (causes.Conflict at expected seen) v w h =
    elim h [ inl p ↦ inl p | inr q ↦ inr (inl q) ]
walk_refuses k pointers headers slots (causes.Full held) v w h = absurd h
walk_refuses k pointers headers slots (causes.Wide sets.Reads) v w h = absurd h.0
walk_refuses k pointers headers slots (causes.Wide sets.Writes) v w h = absurd h.0
walk_refuses k pointers headers slots (causes.Wide sets.Pointers) v w h = absurd h.0
walk_refuses k pointers headers slots (causes.Wide sets.Holds) v w h = (inl h.0, h.1)
walk_refuses k pointers headers slots (causes.NumberLimit clock) v w h = absurd h

-- told behind another part
pub make_back : (b : ℕ) (k : Key) (pointers headers : List Seen) (slots late : List ℕ) (why : RefusalCause) (v u w : View)
    → Worked b slots v u → AreLedTo k v u → HasWalked u w → RefusesMake k pointers headers late why u w
    → RefusesMake k pointers headers late why v w
make_back b k pointers headers slots late (causes.Conflict at expected seen) v u w x led walk h = elim h [
  | inl p ↦
      walk_refuses k pointers headers late (causes.Conflict at expected seen) v w
      (refuses_back b k pointers headers slots late (causes.Conflict at expected seen) v u w (went_of b slots v u x) led walk
      (inl p))
  | inr more ↦ elim more [
    | inl q ↦
        walk_refuses k pointers headers late (causes.Conflict at expected seen) v w
        (refuses_back b k pointers headers slots late (causes.Conflict at expected seen) v u w (went_of b slots v u x) led
        walk (inr q))
    | inr slot ↦ inr (inr (slot.0, walked_then v u slot.0 x.walked slot.1, slot.2))
  ]
]
make_back b k pointers headers slots late (causes.Full held) v u w x led walk h = record {
  before = h.before;
  walked = walked_then v u h.before x.walked h.walked;
  full = h.full;
  led = led_then k v u w walk led h.led;
}
make_back b k pointers headers slots late (causes.Wide set) v u w x led walk h = (h.0, led_then k v u w walk led h.1)
make_back b k pointers headers slots late (causes.NumberLimit clock) v u w x led walk h = absurd h

-- ---- any part

-- a part of a walk is one of this
pub walk_makes : {A : Type 0} (c : ℕ) (k : Key) (pointers headers : List Seen) (slots late : List ℕ)
    (comes : A → View → Type 0) (r : Result A RefusalCause) (u w : View) → CanMake slots u
    → GoesSo c k pointers headers late comes r u w → MakesSo c k pointers headers late comes r u w
walk_makes c k pointers headers slots late comes (Ok a) u w can h = record {
  went = worked_walk c slots late u w can h.went;
  led = h.led;
  keeps = h.keeps;
  paths = h.paths;
  came = h.came;
  cause = tt;
}
walk_makes c k pointers headers slots late comes (Err why) u w can h = record {
  went = worked_walk c slots late u w can h.went;
  led = tt;
  keeps = tt;
  paths = h.paths;
  came = tt;
  cause = walk_refuses k pointers headers late why u w h.cause;
}

-- a part was refused behind another one
pub makes_refused : {A B : Type 0} (b c most : ℕ) (k : Key) (pointers headers : List Seen) (slots late : List ℕ)
    (comes : A → View → Type 0) (ends : B → View → Type 0) (why : RefusalCause) (v u w : View) → b + c ≤ most
    → Worked b slots v u → AreLedTo k v u → OnlyWaysOn k v u → MakesSo c k pointers headers late comes (Err why) u w
    → MakesSo most k pointers headers late ends (Err why) v w
makes_refused b c most k pointers headers slots late comes ends why v u w few x led paths h = record {
  went = worked_then b c most slots late v u w few x h.went;
  led = tt;
  keeps = tt;
  paths = paths_then k v u w h.went.walked paths h.paths;
  came = tt;
  cause = make_back b k pointers headers slots late why v u w x led h.went.walked h.cause;
}

-- it came to what is told behind another one
pub makes_on : {A B : Type 0} (b c most : ℕ) (k : Key) (pointers headers : List Seen) (slots late : List ℕ)
    (comes : A → View → Type 0) (ends : B → View → Type 0) (a : A) (e : B) (v u w : View) → b + c ≤ most
    → Worked b slots v u → AreLedTo k v u → OnlyWaysOn k v u → KeepsMet pointers headers v u
    → MakesSo c k pointers headers late comes (Ok a) u w → ends e w
    → MakesSo most k pointers headers late ends (Ok e) v w
makes_on b c most k pointers headers slots late comes ends a e v u w few x led paths keeps h end = record {
  went = worked_then b c most slots late v u w few x h.went;
  led = led_then k v u w h.went.walked led h.led;
  keeps = keeps_then pointers headers v u w x.walked keeps h.keeps;
  paths = paths_then k v u w h.went.walked paths h.paths;
  came = end;
  cause = tt;
}

-- the same of any answer that is handed on
pub makes_behind : {A : Type 0} (b c most : ℕ) (k : Key) (pointers headers : List Seen) (slots late : List ℕ)
    (comes : A → View → Type 0) (r : Result A RefusalCause) (v u w : View) → b + c ≤ most → Worked b slots v u
    → AreLedTo k v u → OnlyWaysOn k v u → KeepsMet pointers headers v u → MakesSo c k pointers headers late comes r u w
    → MakesSo most k pointers headers late comes r v w
makes_behind b c most k pointers headers slots late comes (Ok a) v u w few x led paths keeps h =
    makes_on b c most k pointers headers slots late comes comes a a v u w few x led paths keeps h h.came
makes_behind b c most k pointers headers slots late comes (Err why) v u w few x led paths keeps h =
    makes_refused b c most k pointers headers slots late comes comes why v u w few x led paths h
