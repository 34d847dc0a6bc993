-- What it comes to that the page below a pointer is brought into memory.
use Rattle.std.proofs.Common.{◌≡◌, ◌≢◌, inl, inr, ℕ, ◌+◌, ◌≤◌, List, ◌∷◌, [], length, refl, sym, ap}
use Rattle.std.proofs.Common.{◌∙◌, subst, arith, Some, None, length-append}
use Rattle.std.specs.Prelude.{Ok, Err}
use Rattle.serial_model.specs.declared.key.Key.{Key}
use Rattle.drop_core.specs.declared.grip.Grip.{Grip}
use Rattle.drop_core.specs.Table.{has_slot}
use Rattle.tx_sets.specs.declared.seen.Seen.{Seen}
use Rattle.tx_sets.specs.Entries.{word_at}
use Rattle.engine_pages.specs.declared.view.RefusalCause.{RefusalCause}
use Rattle.engine_pages.specs.declared.view.RefusalCause.TheVariants as causes
use Rattle.engine_pages.specs.declared.view.SetName.TheVariants.{Holds}
use Rattle.engine_pages.specs.declared.view.View.{View}
use Rattle.engine_pages.specs.Pointers.{HasFollowed, WaysAgree}
use Rattle.engine_pages.specs.Steps.{kept_at, seen_at}
use Rattle.array_pages.specs.Steps.{RefusesGive}
use Rattle.foster_tree.proofs.HalfLaws.{missed_searched}
use Rattle.tree_walks.specs.declared.ways.Bare.{Bare}
use Rattle.tree_walks.specs.declared.ways.Page.{Page}
use Rattle.tree_walks.specs.Walks.{CanWalk, HasWalked, OnlyWaysOn}
use Rattle.tree_walks.specs.Ways.{IsBareOn, IsWayPointer}
use Rattle.tree_walks.proofs.KeepLaws.{keeps_pointer}
use Rattle.tree_walks.proofs.LoadLaws.{IsLoad, follow_load, load_went, trees_by}
use Rattle.tree_walks.proofs.PathLaws.{follow_paths, paths_same, paths_then}
use Rattle.tree_walks.proofs.RefusalLaws.{saw_back}
use Rattle.tree_walks.proofs.StepLaws.{can_after, led_none, led_then, on_stays, only_self, walked_self, word_stays}
use Rattle.tree_walks.proofs.WayLaws.{pointer_stays}
use Rattle.tree_making.specs.Making.{CanMake, IsOn, MakesSo, RefusesMake, Worked}
use Rattle.tree_making.specs.Pages.{CanMakePage, ChecksSo, HoldsMore, PutsSo}
use Rattle.tree_making.proofs.MakeLaws.{make_after, worked_then, worked_walk}
use Rattle.lists.specs.Fronts.{front_refl}

-- ---- what is known of the pointer

-- it is one on the way
way_of : (k : Key) (pointers : List Seen) (bare : Bare) (v : View) → IsBareOn k pointers bare v
    → IsWayPointer k v bare.pointer.at
way_of k pointers bare v on = record {
  place = bare.place;
  span = bare.span;
  is = on.is;
  inside = on.inside;
  within = on.within;
  tree = on.tree;
  over = on.over;
}

-- what the page asks
pub can_page : (k : Key) (pointers : List Seen) (slots : List ℕ) (bare : Bare) (v : View) → CanMake slots v
    → IsBareOn k pointers bare v → CanMakePage v bare.span bare.pointer.word
can_page k pointers slots bare v can on = record {
  look = record { active = can.walks.active; room = on.few; most = on.most };
  nothing_made = can.nothing_made;
  tree = on.tree;
  declared = can.walks.declared;
  there = on.there;
  stands = on.stands;
  lead = on.lead;
}

worked_self : (bound : ℕ) (slots : List ℕ) (v : View) → CanMake slots v → Worked bound slots v v
worked_self bound slots v can = record {
  can = can;
  walked = walked_self v;
  most = omega arith;
  kept = refl;
  words = λ a. refl;
  met = only_self v;
}

pub worked_more : (b most : ℕ) (slots : List ℕ) (v w : View) → b ≤ most → Worked b slots v w → Worked most slots v w
worked_more b most slots v w few x = record {
  can = x.can;
  walked = x.walked;
  most = let one = x.most in omega (arith, few, one);
  kept = x.kept;
  words = x.words;
  met = x.met;
}

-- ---- it isn't brought

-- the holds are full
pub bring_full : (k : Key) (pointers headers : List Seen) (slots : List ℕ) (bare : Bare) (bound : ℕ) (v : View)
    → CanMake slots v → IsBareOn k pointers bare v → length slots ≡ 128
    → MakesSo bound k pointers headers slots (IsOn k) (Err (causes.Wide Holds)) v v
bring_full k pointers headers slots bare bound v can on full = record {
  went = worked_self bound slots v can;
  led = tt;
  keeps = tt;
  paths = paths_same k v v refl;
  came = tt;
  cause = (
    inr (
      full,
      record {
        at = bare.pointer.at;
        word = bare.pointer.word;
        on = way_of k pointers bare v on;
        saw = on.met;
        bare = on.bare;
      },
    ),
    led_none k v v refl,
  );
}

-- the search looks at each slot at most once, and there is at most one compare_exchange
missed_most : (why : RefusalCause) (v w : View) → RefusesGive why v w → w.steps ≤ v.steps + (v.layout.slots + 1)
missed_most (causes.Conflict at expected seen) v w h =
    let steps : w.steps ≡ (h.seen).steps + 1 = ap (λ (z : View). z.steps) h.only in
    let first = h.first in
    let more = first.seen.steps in
    let long = length-append first.before (expected ∷ []) in
    let count = first.count in
    let there = first.there in omega (arith, steps, more, long, count, there)
missed_most (causes.Full held) v w h =
    let more = h.seen.steps in let count = h.count in omega (arith, more, count)
missed_most (causes.Wide set) v w h = absurd h
missed_most (causes.NumberLimit clock) v w h = absurd h

-- no slot was given
pub bring_none : (k : Key) (pointers headers : List Seen) (slots : List ℕ) (why : RefusalCause) (v w : View)
    → CanMake slots v → RefusesGive why v w
    → MakesSo (v.layout.slots + 135) k pointers headers slots (IsOn k) (Err why) v w
bring_none k pointers headers slots why v w can h =
    let s = missed_searched why v w h in
    let is = s.0 in
    let walk : HasWalked v w = subst (HasWalked v) (sym is) record {
      since = s.1;
      drawn = front_refl v.history;
      seen = front_refl v.decided;
      parts = λ part has. inl has;
      held = λ q held. held;
      ways = λ x has. has;
      known = λ x has. has;
      moved = λ x has. has;
      inners = λ x has. has;
      pages = front_refl v.pages;
      leads = λ x has. has;
      is = refl;
    } in
    let grip : w.grip ≡ v.grip = ap (λ (z : View). z.grip) is in
    let late : CanWalk slots w =
    can_after slots v w walk grip (subst (λ (z : View). WaysAgree z.ways) (sym is) can.walks.agree)
    (trees_by v w (ap (λ (z : View). z.layout) is) (ap (λ (z : View). z.known) is) (ap (λ (z : View). z.inners) is)
    (ap (λ (z : View). z.ways) is) can.walks.trees) can.walks in
    record {
      went = record {
        can = make_after slots slots v w walk late can;
        walked = walk;
        most = let most = missed_most why v w h in omega (arith, most);
        kept = ap (λ (z : View). z.seat.kept) is;
        words = λ a. ap (λ (z : View). kept_at z.reads a) is;
        met = λ a. inl (ap (λ (z : View). seen_at z.reads a) is);
      };
      led = tt;
      keeps = tt;
      paths = paths_same k v w (ap (λ (z : View). z.ways) is);
      came = tt;
      cause = by_cause why h grip;
    }
  where
    by_cause : (why : RefusalCause) → RefusesGive why v w → w.grip ≡ v.grip → RefusesMake k pointers headers slots why v w
    by_cause (causes.Conflict at expected seen) h grip = inr (inr (v, walked_self v, h))
    by_cause (causes.Full held) h grip =
        record { before = v; walked = walked_self v; full = h; led = led_none k v w grip }
    by_cause (causes.Wide set) h grip = absurd h
    by_cause (causes.NumberLimit clock) h grip = absurd h

-- it wasn't put in
pub bring_missed : (k : Key) (pointers headers : List Seen) (slots : List ℕ) (bare : Bare) (t : ℕ) (why : RefusalCause)
    (v w : View) → PutsSo k pointers headers bare t slots (Err why) v w
    → MakesSo (v.layout.slots + 135) k pointers headers slots (IsOn k) (Err why) v w
bring_missed k pointers headers slots bare t why v w puts = record {
  went = worked_more (v.layout.slots + 134) (v.layout.slots + 135) slots v w (omega arith) puts.went;
  led = tt;
  keeps = tt;
  paths = puts.paths;
  came = tt;
  cause = puts.cause;
}

-- ---- it was put in

module _ (k : Key) (pointers headers : List Seen) (slots : List ℕ) (bare : Bare) (t : ℕ) (v d : View)
    (on : IsBareOn k pointers bare v) (puts : PutsSo k pointers headers bare t slots (Ok tt) v d) where
  -- the pointer was loaded once more
  module _ (n : ℕ) (w : View) (f : HasFollowed bare.span bare.pointer.at d n w) where
    l : IsLoad bare.pointer.at d n w
    l = follow_load bare.span bare.pointer.at d n w f

    once_more : Worked 1 slots d w
    once_more =
        worked_walk 1 slots slots d w puts.went.can
        (load_went slots bare.pointer.at d n w puts.went.can.walks
        (word_stays d w bare.pointer.at l.walked (word_stays v d bare.pointer.at puts.went.walked on.known)) l)

    went : Worked (v.layout.slots + 135) slots v w
    went =
        worked_then (v.layout.slots + 134) 1 (v.layout.slots + 135) slots slots v d w (omega arith) puts.went once_more

    paths_more : OnlyWaysOn k v w
    paths_more =
        paths_then k v d w l.walked puts.paths (follow_paths k bare.span bare.pointer.at d n w on.over f)

    -- it isn't as the set has it
    pub bring_changed : (expected : ℕ) → word_at bare.pointer.at pointers ≡ Some expected → n ≢ expected
        → MakesSo (v.layout.slots + 135) k pointers headers slots (IsOn k)
        (Err (causes.Conflict bare.pointer.at expected n)) v w
    bring_changed expected set other = record {
      went = went;
      led = tt;
      keeps = tt;
      paths = paths_more;
      came = tt;
      cause = inl record {
        on = pointer_stays k v w bare.pointer.at went.walked (way_of k pointers bare v on);
        was = seen_at d.reads bare.pointer.at;
        saw = saw_back bare.pointer.at n (seen_at d.reads bare.pointer.at) v d w puts.went.walked.since l.saw;
        known = inl (set, l.kept ∙ puts.went.words bare.pointer.at);
        cause = inr other;
      };
    }

    -- it is
    bring_same : (page : Page) → page ≡ record { slot = t; span = bare.span }
        → word_at bare.pointer.at pointers ≡ Some n
        → MakesSo (v.layout.slots + 135) k pointers headers slots (IsOn k) (Ok page) v w × HoldsMore v w
    bring_same page is set = (
      record {
        went = went;
        led = led_then k v d w l.walked puts.led (led_none k d w l.grip);
        keeps = keeps_pointer pointers headers bare.pointer.at n v w on.apart (inr set) l.met
            (λ a apart. l.others a apart ∙ puts.others a apart);
        paths = paths_more;
        came = subst (λ (p : Page). IsOn k p w) (sym is) (on_stays k d w t bare.span l.walked puts.on);
        cause = tt;
      },
      record {
        slot = puts.more.slot;
        there = puts.more.there;
        unheld = puts.more.unheld;
        held = ap (λ (g : Grip). has_slot g.holds puts.more.slot) l.grip ∙ puts.more.held;
      },
    )

  -- it wasn't loaded: the set doesn't have it
  bring_alone : (page : Page) → page ≡ record { slot = t; span = bare.span } → word_at bare.pointer.at pointers ≡ None
      → MakesSo (v.layout.slots + 135) k pointers headers slots (IsOn k) (Ok page) v d × HoldsMore v d
  bring_alone page is none = (
    record {
      went = worked_more (v.layout.slots + 134) (v.layout.slots + 135) slots v d (omega arith) puts.went;
      led = puts.led;
      keeps = keeps_pointer pointers headers bare.pointer.at puts.left.0 v d on.apart (inl none) puts.left.1 puts.others;
      paths = puts.paths;
      came = subst (λ (p : Page). IsOn k p d) (sym is) puts.on;
      cause = tt;
    },
    puts.more,
  )

  pub bring_done : (page : Page) (w : View) → page ≡ record { slot = t; span = bare.span }
      → ChecksSo pointers bare.span bare.pointer.at (Ok tt) d w
      → MakesSo (v.layout.slots + 135) k pointers headers slots (IsOn k) (Ok page) v w × HoldsMore v w
  bring_done page w is check = elim check [
    | inl alone ↦
        subst (λ (z : View). MakesSo (v.layout.slots + 135) k pointers headers slots (IsOn k) (Ok page) v z × HoldsMore v z)
        (sym alone.0) (bring_alone page is alone.1)
    | inr more ↦ bring_same more.0 w more.1 page is more.2
  ]

  pub bring_refused : (why : RefusalCause) (w : View) → ChecksSo pointers bare.span bare.pointer.at (Err why) d w
      → MakesSo (v.layout.slots + 135) k pointers headers slots (IsOn k) (Err why) v w
  bring_refused (causes.Conflict other expected seen) w h =
      subst (λ (a : ℕ). MakesSo (v.layout.slots + 135) k pointers headers slots (IsOn k)
      (Err (causes.Conflict a expected seen)) v w) (sym h.0) (bring_changed seen w h.1 expected h.2 h.3)
  bring_refused (causes.Full held) w h = absurd h
  bring_refused (causes.Wide set) w h = absurd h
  bring_refused (causes.NumberLimit clock) w h = absurd h
