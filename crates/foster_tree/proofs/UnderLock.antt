-- What a split asks of its parts under the header's lock, and what it comes to.
use Rattle.std.proofs.Common.{◌≡◌, ◌≢◌, ℕ, ◌+◌, ◌*◌, ◌<◌, ◌≤◌, List, [], ◌∷◌, length, set, take, refl, sym, ap, ◌∙◌, subst, arith}
use Rattle.std.proofs.Common.{inl, inr, Some}
use Rattle.std.specs.List.{slice_get}
use Rattle.std.proofs.lemmas.List.{get_or-set_other, get_or-set_same, length-set}
use Rattle.lists.specs.Fronts.{front_refl}
use Rattle.serial_model.specs.declared.key.Key.{Key}
use Rattle.homes.specs.declared.places.Span.{Span}
use Rattle.drop_core.specs.Table.{has_slot}
use Rattle.engine_pages.specs.declared.layout.Layout.{Layout}
use Rattle.engine_pages.specs.declared.view.Glance.{Glance}
use Rattle.engine_pages.specs.declared.view.NewLeaf.{NewLeaf}
use Rattle.engine_pages.specs.declared.view.RefusalCause.{RefusalCause}
use Rattle.engine_pages.specs.declared.view.Role.{Role}
use Rattle.engine_pages.specs.declared.view.Role.TheVariants.{Keeper}
use Rattle.engine_pages.specs.declared.view.Took.{Took}
use Rattle.engine_pages.specs.declared.view.View.{View}
use Rattle.foster_tree.specs.declared.entries.Entry.{Entry}
use Rattle.foster_tree.specs.Adding.{new_entry}
use Rattle.foster_tree.specs.Entries.{AreInOrder}
use Rattle.foster_tree.specs.Filling.{no_entry}
use Rattle.foster_tree.specs.Locking.{as_locked, tooks, AreLocked, CanLockRecords, HasLockedSome, HasNotLocked, HasOpenedSome}
use Rattle.foster_tree.specs.Locking.{IsRead, KnowsFull, WorkedIn}
use Rattle.foster_tree.specs.Splitting.{as_halved, as_split_locked, as_tried_locked, as_turned, lower_of, separator_of, upper_of}
use Rattle.foster_tree.specs.Splitting.{AreHalves, AreMoved, CanSplitLocked, CanTurn, HasMadeHalves, HasMadeNoHalves}
use Rattle.foster_tree.specs.Splitting.{HasNotSplitLocked, HasSplitLocked, HasTurned}
use Rattle.foster_tree.proofs.LockLaws.{worked_same, worked_then}
use Rattle.foster_tree.proofs.LockLists.{tooks_set}
use Rattle.foster_tree.proofs.LockOne.{knows_still}
use Rattle.foster_tree.proofs.MoveLaws.{parted}
use Rattle.foster_tree.proofs.PartLaws.{lower_entries, separates, upper_entries, AreParted}

-- the view v with the loads of a search for a slot, as w has it
abbrev searched : View → View → View
searched v w = record v { steps = w.steps; last = w.last; looked = w.looked }

-- the view v with what was looked at as w has it
abbrev relooked : View → View → View
relooked v w = record v { looked = w.looked }

-- the view v with these locks and this look at slots, and what was met as w has it
abbrev tried_at : List Key → List Took → List Glance → View → View → View
tried_at locks took looked v w = record v {
  steps = w.steps;
  last = w.last;
  reads = w.reads;
  loaded = w.loaded;
  seat = record v.seat { locks = locks };
  took = took;
  touched = w.touched;
  versions = w.versions;
  looked = looked;
}

-- the view with these locks, slots that were made, and leaves
abbrev with_lists : List Key → List Took → List ℕ → List NewLeaf → View → View
with_lists locks took made leaves z = record z {
  seat = record z.seat { locks = locks };
  took = took;
  grip = record z.grip { made = made };
  new_leaves = leaves;
}

-- ---- a record wasn't locked

pub no_records : (slots : List ℕ) (t at word : ℕ) (sp : Span) (k : Key) (why : RefusalCause) (v a : View)
    → CanSplitLocked slots v t sp k at word → HasNotLocked t why v a → HasNotSplitLocked t why v a
no_records slots t at word sp k why v a can none =
    let three : a ≡ as_tried_locked v (as_locked [] [] v a) =
    none.is
    ∙ (ap (λ (l : List Key). as_locked l [] v a) (sym can.unlocked)
    ∙ ap (λ (l : List Took). as_locked v.seat.locks l v a) (sym can.took)) in
    record {
      worked = none.worked;
      most = let more = none.most in omega (arith, more);
      is = subst (λ (y : View). y ≡ as_tried_locked v y) (sym three) refl;
      cause = inl none.cause;
    }

-- ---- all are

module _ (slots : List ℕ) (t at word : ℕ) (sp : Span) (k : Key) (was : List Entry) (v a : View)
    (can : CanSplitLocked slots v t sp k at word) (long : length was ≡ 17)
    (some : HasLockedSome t can.keys was 16 v a) where
  whole : take 16 can.keys ≡ can.keys
  whole = ap (λ (n : ℕ). take n can.keys) (sym can.leaf.full) ∙ front_refl can.keys

  -- what was read, and the record of one key more
  pub are_moved : AreMoved a t sp can.keys k (set was 16 (new_entry k))
  are_moved = record {
    many = length-set was 16 (new_entry k) ∙ long;
    full = can.leaf.full;
    once = can.leaf.once;
    inside = can.leaf.inside;
    new = can.new;
    own = can.inside;
    read = λ i q less here.
        subst (λ (e : Entry). IsRead a q e)
        (sym (get_or-set_other was 16 i (new_entry k) no_entry (λ same. absurd (omega (arith, same, less)))))
        (some.read i q less here);
    last = get_or-set_same was 16 (new_entry k) no_entry (omega (arith, long));
    locks = ap (λ (z : View). z.seat.locks) some.is ∙ whole;
    took = ap (λ (z : View). z.took) some.is ∙ sym (tooks_set t can.keys was 16 16 (new_entry k) (omega arith));
  }

  layout_is : a.layout ≡ v.layout
  layout_is = ap (λ (z : View). z.layout) some.is

  parts_of : (sorted : List Entry) → AreInOrder (set was 16 (new_entry k)) sorted → AreParted sp sorted
  parts_of sorted order = parted a t sp can.keys k (set was 16 (new_entry k)) are_moved sorted order

  -- what the halves ask
  pub can_halve : (sorted : List Entry) → AreInOrder (set was 16 (new_entry k)) sorted → AreHalves sp sorted
  can_halve sorted order = record {
    many = (parts_of sorted order).order.many;
    parts = separates sp sorted (parts_of sorted order);
    lower = lower_entries sp sorted (parts_of sorted order);
    upper = upper_entries sp sorted (parts_of sorted order);
  }

  -- ---- both halves are made

  module _ (sorted : List Entry) (minor major : ℕ) (b : View) (order : AreInOrder (set was 16 (new_entry k)) sorted)
      (made : HasMadeHalves minor major sp sorted a b) where
    leaf_known : KnowsFull b t sp can.keys
    leaf_known =
        knows_still t sp can.keys v b can.leaf
        (ap (λ (z : View). z.role) made.is ∙ ap (λ (z : View). z.role) some.is)
        (ap (λ (z : View). z.seat.stage) made.is ∙ ap (λ (z : View). z.seat.stage) some.is)
        (ap (λ (z : View). z.ways) made.is ∙ ap (λ (z : View). z.ways) some.is)
        (ap (λ (z : View). z.layout) made.is ∙ ap (λ (z : View). z.layout) some.is)
        (ap (λ (z : View). z.known) made.is ∙ ap (λ (z : View). z.known) some.is)

    moved_halved : AreMoved (as_halved minor major sp sorted a b) t sp can.keys k (set was 16 (new_entry k))
    moved_halved = record {
      many = are_moved.many;
      full = are_moved.full;
      once = are_moved.once;
      inside = are_moved.inside;
      new = are_moved.new;
      own = are_moved.own;
      read = λ i q less here.
          let r = are_moved.read i q less here in record { key = r.key; entry = r.entry; value = r.value };
      last = are_moved.last;
      locks = are_moved.locks;
      took = are_moved.took;
    }

    -- what the turn asks
    pub can_turn : CanTurn b t sp can.keys k (set was 16 (new_entry k)) sorted minor major
    can_turn = record {
      moved = subst (λ (z : View). AreMoved z t sp can.keys k (set was 16 (new_entry k))) (sym made.is) moved_halved;
      order = order;
      active = leaf_known.active;
      worker = subst (λ (r : Role). r ≡ Keeper → ⊥)
          (sym (ap (λ (z : View). z.role) made.is ∙ ap (λ (z : View). z.role) some.is)) can.worker;
      idle = leaf_known.idle;
      page = leaf_known.page;
      there = leaf_known.there;
      words = can.words;
      one = record {
        only = ap (λ (z : View). z.heads) made.is ∙ (ap (λ (z : View). z.heads) some.is ∙ can.one.only);
        long = can.one.long;
      };
      made = ap (λ (z : View). z.grip.made) made.is;
      leaves = ap (λ (z : View). z.new_leaves) made.is;
      copies = ap (λ (z : View). z.copies) made.is ∙ (ap (λ (z : View). z.copies) some.is ∙ can.nothing_made.copies);
      blanks = ap (λ (z : View). z.blanks) made.is ∙ (ap (λ (z : View). z.blanks) some.is ∙ can.nothing_made.blanks);
      inners = ap (λ (z : View). z.new_inners) made.is
          ∙ (ap (λ (z : View). z.new_inners) some.is ∙ can.nothing_made.inners);
      minor_there = subst (λ (y : Layout). minor < y.slots) (sym (ap (λ (z : View). z.layout) made.is)) made.minor_there;
      major_there = subst (λ (y : Layout). major < y.slots) (sym (ap (λ (z : View). z.layout) made.is)) made.major_there;
      minor_unheld = ap (λ (z : View). has_slot z.grip.holds minor) made.is ∙ made.minor_unheld;
      major_unheld = ap (λ (z : View). has_slot z.grip.holds major) made.is ∙ made.major_unheld;
      apart = made.apart;
    }

    -- what it comes to
    pub has_split : (place : ℕ) (before held : List ℕ) (w : View)
        → HasTurned t sp k sorted minor major place before held b w → HasSplitLocked t sp k place before held v w
    has_split place before held w turned =
        let all : w ≡ with_lists [] [] [] [] (as_turned t (lower_of minor sp sorted) (upper_of major sp sorted) turned.half
        (separator_of sorted)
        (as_halved minor major sp sorted (as_locked (take 16 can.keys) (tooks t can.keys was 16) v a) b) w) =
        turned.is
        ∙ ap (λ (z : View). as_turned t (lower_of minor sp sorted) (upper_of major sp sorted) turned.half
        (separator_of sorted) z w) (made.is ∙ ap (λ (z : View). as_halved minor major sp sorted z b) some.is) in
        let end : View = as_turned t (lower_of minor sp sorted) (upper_of major sp sorted) turned.half
        (separator_of sorted)
        (as_halved minor major sp sorted (as_locked (take 16 can.keys) (tooks t can.keys was 16) v a) b) w in
        let four : w ≡ as_split_locked t (lower_of minor sp sorted) (upper_of major sp sorted) turned.half
        (separator_of sorted) v (with_lists v.seat.locks v.took v.grip.made v.new_leaves end) =
        all
        ∙ (ap (λ (l : List Key). with_lists l [] [] [] end) (sym can.unlocked)
        ∙ (ap (λ (l : List Took). with_lists v.seat.locks l [] [] end) (sym can.took)
        ∙ (ap (λ (l : List ℕ). with_lists v.seat.locks v.took l [] end) (sym can.nothing_made.made)
        ∙ ap (λ (l : List NewLeaf). with_lists v.seat.locks v.took v.grip.made l end) (sym can.nothing_made.leaves)))) in
        record {
          sorted = sorted;
          minor = minor;
          major = major;
          half = turned.half;
          is_half = turned.is_half;
          inside = turned.inside;
          index = turned.index;
          record_at = turned.record_at;
          worked =
              worked_then t v a w layout_is some.worked
              (worked_then t a b w (ap (λ (z : View). z.layout) made.is)
              (worked_same t a b made.since (ap (λ (z : View). z.reads) made.is) (ap (λ (z : View). z.versions) made.is)
              (ap (λ (z : View). z.role) made.is) (ap (λ (z : View). z.touched) made.is))
              turned.worked);
          taken = record {
            keys = can.keys;
            knows = can.leaf.knows;
            full = can.leaf.full;
            is = ap (λ (z : View). z.touched) turned.is ∙ (ap (λ (z : View). z.touched) made.is ∙ some.touched);
          };
          most =
              let one = some.most in
              let two : b.steps ≤ a.steps + (2 * v.layout.slots + 106) =
              subst (λ (y : Layout). b.steps ≤ a.steps + (2 * y.slots + 106)) layout_is made.most in
              let three = turned.steps in omega (arith, one, two, three);
          holds = turned.holds;
          agree = turned.agree;
          trees = turned.trees;
          is = subst (λ (y : View). y ≡ as_split_locked t (lower_of minor sp sorted) (upper_of major sp sorted) turned.half
              (separator_of sorted) v y) (sym four) refl;
        }

  -- ---- no slot was given for one of them

  module _ (why : RefusalCause) (b : View) (none : HasMadeNoHalves why a b) where
    both_are : b ≡ searched (as_locked (take 16 can.keys) (tooks t can.keys was 16) v a) b
    both_are = none.is ∙ ap (λ (z : View). searched z b) some.is

    -- what the opening of the records asks
    pub can_open_all : (q : List Key) × (from : View) × CanLockRecords from t sp q
        × AreLocked t q (set was 16 (new_entry k)) 16 from b
    can_open_all = (
      can.keys,
      relooked v b,
      record {
        leaf = knows_still t sp can.keys v (relooked v b) can.leaf refl refl refl refl refl;
        unlocked = can.unlocked;
        took = can.took;
      },
      record {
        read = λ i q less here. ap (λ (x : Key). x.key) (are_moved.read i q less here).key;
        is = (subst (λ (y : View). y ≡ as_locked (take 16 can.keys) (tooks t can.keys was 16) (relooked v y) y)
            (sym both_are) refl)
            ∙ ap (λ (l : List Took). as_locked (take 16 can.keys) l (relooked v b) b)
            (sym (tooks_set t can.keys was 16 16 (new_entry k) (omega arith)));
      },
    )

    -- and what it comes to
    pub not_split : (w : View) → HasOpenedSome t 16 b w → HasNotSplitLocked t why v w
    not_split w opened =
        let looked : w.looked ≡ b.looked = ap (λ (z : View). z.looked) opened.is in
        let first = some.worked.since in
        let next = none.gave.since in
        record {
          worked =
              worked_then t v a w layout_is some.worked
              (worked_then t a b w (ap (λ (z : View). z.layout) none.is)
              (worked_same t a b none.since (ap (λ (z : View). z.reads) none.is) (ap (λ (z : View). z.versions) none.is)
              (ap (λ (z : View). z.role) none.is) (ap (λ (z : View). z.touched) none.is))
              opened.worked);
          most =
              let one = some.most in
              let two : b.steps ≤ a.steps + (2 * v.layout.slots + 106) =
              subst (λ (y : Layout). b.steps ≤ a.steps + (2 * y.slots + 106)) layout_is none.most in
              let three = opened.steps in omega (arith, one, two, three);
          is = opened.is
              ∙ (ap (λ (z : View). as_locked [] [] z w) both_are
              ∙ (ap (λ (l : List Key). tried_at l [] b.looked v w) (sym can.unlocked)
              ∙ (ap (λ (l : List Took). tried_at v.seat.locks l b.looked v w) (sym can.took)
              ∙ ap (λ (l : List Glance). tried_at v.seat.locks v.took l v w) (sym looked))));
          cause = inr (
            record {
              before = none.gave.before;
              behind = none.gave.behind;
              since = omega (arith, first, next);
              layout = none.gave.layout ∙ layout_is;
              missed = none.gave.missed;
              last = opened.last ∙ none.gave.last;
              looked = looked ∙ none.gave.looked;
            },
            record {
              keys = can.keys;
              knows = can.leaf.knows;
              full = can.leaf.full;
              is = opened.touched ∙ (ap (λ (z : View). z.touched) none.is ∙ some.touched);
            },
          );
        }
