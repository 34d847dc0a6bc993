-- What it comes to that a full leaf is split, or isn't.
use Rattle.std.proofs.Common.{◌≡◌, ◌≢◌, ◌⊎◌, ℕ, ◌+◌, ◌*◌, ◌<◌, ◌≤◌, Bool, true, false, cond, eqb, List, [], ◌∷◌, ◌++◌, length}
use Rattle.std.proofs.Common.{refl, sym, ap, ◌∙◌, subst, arith, inl, inr, Some, eq-eqb}
use Rattle.std.specs.Prelude.{not, nat_lt, ◌||◌}
use Rattle.std.specs.List.{Contains}
use Rattle.lists.specs.Elements.{in_cases, in_head, in_tail}
use Rattle.serial_model.specs.declared.key.Key.{Key}
use Rattle.homes.specs.declared.places.Span.{Span}
use Rattle.homes.specs.Homes.{has_key}
use Rattle.drop_core.specs.Table.{has_slot}
use Rattle.engine_pages.specs.declared.layout.Layout.{Layout}
use Rattle.engine_pages.specs.declared.view.Head.{Head}
use Rattle.engine_pages.specs.declared.view.Inner.{Inner}
use Rattle.engine_pages.specs.declared.view.Known.{Known}
use Rattle.engine_pages.specs.declared.view.NewLeaf.{NewLeaf}
use Rattle.engine_pages.specs.declared.view.RefusalCause.{RefusalCause}
use Rattle.engine_pages.specs.declared.view.RefusalCause.TheVariants as causes
use Rattle.engine_pages.specs.declared.view.Role.{Role}
use Rattle.engine_pages.specs.declared.view.Role.TheVariants.{Keeper}
use Rattle.engine_pages.specs.declared.view.Touch.{Touch}
use Rattle.engine_pages.specs.declared.view.View.{View}
use Rattle.engine_pages.specs.declared.view.Way.{Way}
use Rattle.engine_pages.specs.Agreement.{KnownAgree, TreesAgree}
use Rattle.engine_pages.specs.Layout.{page_at}
use Rattle.engine_pages.specs.Pages.{is_tree}
use Rattle.engine_pages.specs.Slots.{other_heads}
use Rattle.engine_pages.specs.Steps.{kept_at, read_at, seen_at}
use Rattle.engine_pages.specs.Views.{seat_number, IsActive}
use Rattle.tree_heads.specs.Headers.{open_word}
use Rattle.tree_heads.specs.Heads.{head_locked, head_opened, lock_bit, CanOpenHeader, HasHead}
use Rattle.array_pages.specs.Walks.{HoldsAre}
use Rattle.array_pages.proofs.ReadLaws.{seen_same}
use Rattle.foster_tree.specs.declared.entries.Entry.{Entry}
use Rattle.foster_tree.specs.Causes.{IsLeafWordChanged}
use Rattle.foster_tree.specs.Locking.{with_touches, HasTakenFirst, KnowsFull, RefusesOne, WorkedIn}
use Rattle.foster_tree.specs.Splitting.{as_split, as_split_locked, as_tried, as_tried_locked, half_of, lower_of, separator_of}
use Rattle.foster_tree.specs.Splitting.{upper_of, CanSplitLeaf, CanSplitLocked, GaveNone, HasNotSplit, HasNotSplitLocked}
use Rattle.foster_tree.specs.Splitting.{HasSplitLeaf, HasSplitLocked, RefusesHalf, RefusesOpened, RefusesSplit}
use Rattle.foster_tree.proofs.AddLaws.{header_changed, locked_one, same_keys}
use Rattle.foster_tree.proofs.AfterTurn.{half_high, half_low, high_from, low_less}
use Rattle.foster_tree.proofs.LockLaws.{met_first, worked_read, worked_then}
use Rattle.foster_tree.proofs.OpenMany.{noted_still}
use Rattle.foster_tree.proofs.RefuseStill.{leaf_word_still}
use Rattle.foster_tree.proofs.StoreLaws.{head_of}

-- ---- the half that is held

half_side : (k : Key) (sorted : List Entry) (lower upper half : NewLeaf) → half ≡ half_of k sorted lower upper → (b : Bool)
    → nat_lt k.key (separator_of sorted) ≡ b
    → ((half ≡ lower) × (k.key < separator_of sorted)) ⊎ ((half ≡ upper) × (separator_of sorted ≤ k.key))
half_side k sorted lower upper half is true test =
    inl (is ∙ sym (half_low k sorted lower upper test), low_less k.key (separator_of sorted) test)
half_side k sorted lower upper half is false test =
    inr (is ∙ sym (half_high k sorted lower upper test), high_from k.key (separator_of sorted) test)

or_swap : (a b c : Bool) → (b || (a || c)) ≡ (a || (b || c))
or_swap true true c = refl
or_swap true false c = refl
or_swap false b c = refl

-- a slot that is noted at the end counts as one at the front
pushed_has : (slots : List ℕ) (t q : ℕ) → has_slot (slots ++ t ∷ []) q ≡ has_slot (t ∷ slots) q
pushed_has [] t q = refl
pushed_has (x ∷ slots) t q =
    ap (λ (b : Bool). eqb x q || b) (pushed_has slots t q) ∙ or_swap (eqb t q) (eqb x q) (has_slot slots q)

-- what is known of pages agrees where the same is known
trees_as : (v w : View) → w.layout ≡ v.layout → w.known ≡ v.known → w.inners ≡ v.inners → w.ways ≡ v.ways → TreesAgree v
    → TreesAgree w
trees_as v w layout known inners ways trees = record {
  known = subst KnownAgree (sym known) trees.known;
  inners = λ a b x y. trees.inners a b (subst (λ (l : List Inner). Contains l a) inners x)
      (subst (λ (l : List Inner). Contains l b) inners y);
  apart = λ a b x y. trees.apart a b (subst (λ (l : List Known). Contains l a) known x)
      (subst (λ (l : List Inner). Contains l b) inners y);
  spans = λ a b x y same tree. trees.spans a b (subst (λ (l : List Way). Contains l a) ways x)
      (subst (λ (l : List Way). Contains l b) ways y) same
      (subst (λ (z : Layout). is_tree z.decls a.span.storage ≡ true) layout tree);
}

-- ---- the header had changed

pub leaf_changed : (slots : List ℕ) (t at word n : ℕ) (sp : Span) (k : Key) (v u : View) → CanSplitLeaf slots v t sp k word
    → at ≡ page_at v.layout.slots t 0 → u ≡ read_at at n v → n ≢ word → HasNotSplit slots t word (causes.Conflict at word n) v u
leaf_changed slots t at word n sp k v u can header now other =
    let steps : u.steps ≡ v.steps + 1 = ap (λ (z : View). z.steps) now in
    record {
      worked = worked_read t 0 at n v u (met_first 0 (omega arith)) header (omega (arith, steps))
          (ap (λ (z : View). z.reads) now) (λ x has. subst (λ (z : View). Contains z.versions x) (sym now) has)
          (ap (λ (z : View). z.role) now) (ap (λ (z : View). z.touched) now);
      most = omega (arith, steps);
      known = λ x has. subst (λ (z : View). Contains z.known x) (sym now) has;
      trees = trees_as v u (ap (λ (z : View). z.layout) now) (ap (λ (z : View). z.known) now)
          (ap (λ (z : View). z.inners) now) (ap (λ (z : View). z.ways) now);
      is = subst (λ (y : View). y ≡ as_tried v y) (sym now) refl;
      cause = inl (
        refl,
        header_changed t at word n sp k v u can.grows header now other,
        ap (λ (z : View). z.touched) now,
      );
    }

-- ---- why it wasn't split, told behind the opening of the header

-- no slot was given
gave_then : (why : RefusalCause) (v u s w : View) → v.steps ≤ u.steps → u.layout ≡ v.layout → w.last ≡ s.last
    → w.looked ≡ s.looked → GaveNone why u s → GaveNone why v w
gave_then why v u s w since layout last looked gave = record {
  before = gave.before;
  behind = gave.behind;
  since = let more = gave.since in omega (arith, since, more);
  layout = gave.layout ∙ layout;
  missed = gave.missed;
  last = last ∙ gave.last;
  looked = looked ∙ gave.looked;
}

-- a record had changed
changed_opened : (t i at word other expected seen : ℕ) (v u s w : View) → v.steps ≤ u.steps
    → at ≡ page_at s.layout.slots t 0 → w ≡ head_opened t at word s → WorkedIn t s w
    → IsLeafWordChanged t (1 + (16 + 3 * i)) other expected seen u s
    → IsLeafWordChanged t (1 + (16 + 3 * i)) other expected seen v w
changed_opened t i at word other expected seen v u s w since header is worked changed =
    let place = changed.place.word.word in
    record {
      place = leaf_word_still t (1 + (16 + 3 * i)) other s w (ap (λ (z : View). z.layout) is) (ap (λ (z : View). z.ways) is)
          (ap (λ (z : View). z.known) is) changed.place;
      saw = record {
        step = changed.saw.step;
        since = let a = changed.saw.since in omega (arith, a, since);
        last = ap (λ (z : View). z.last) is ∙ changed.saw.last;
        kept = changed.saw.kept;
        kept_is = changed.saw.kept_is ∙ sym (worked.words other);
        stands = subst (λ (z : View). Contains z.reads
            (record { word = other; seen = seen; was = Some expected; kept = changed.saw.kept })) (sym is)
            (noted_still s.reads at word (record { word = other; seen = seen; was = Some expected; kept = changed.saw.kept })
            (λ same.
            let e : page_at s.layout.slots t (1 + (16 + 3 * i)) ≡ page_at s.layout.slots t 0 = sym place ∙ (same ∙ header) in
            absurd (omega (arith, e)))
            changed.saw.stands);
      };
      cause = changed.cause;
    }

refused_opened : (t i at word : ℕ) (why : RefusalCause) (v u s w : View) → v.steps ≤ u.steps
    → at ≡ page_at s.layout.slots t 0 → w ≡ head_opened t at word s → WorkedIn t s w → RefusesOne t i why u s
    → RefusesOne t i why v w
refused_opened t i at word (causes.Conflict other expected seen) v u s w since header is worked h =
    changed_opened t i at word other expected seen v u s w since header is worked h
refused_opened t i at word (causes.Full held) v u s w since header is worked h = absurd h
refused_opened t i at word (causes.Wide set) v u s w since header is worked h = absurd h
refused_opened t i at word (causes.NumberLimit clock) v u s w since header is worked h = absurd h

cause_of : (slots : List ℕ) (t word : ℕ) (why : RefusalCause) (v w : View)
    → RefusesOpened t word why v w ⊎ RefusesHalf t why v w → RefusesSplit slots t word why v w
cause_of slots t word (causes.Conflict at expected seen) v w h = inr h
cause_of slots t word (causes.Full held) v w h = elim h [ inl changed ↦ absurd changed.missed.2 | inr gave ↦ gave ]
cause_of slots t word (causes.Wide set) v w h =
    elim h [ inl changed ↦ absurd changed.missed.2 | inr gave ↦ absurd gave.0.missed ]
cause_of slots t word (causes.NumberLimit clock) v w h =
    elim h [ inl changed ↦ absurd changed.missed.2 | inr gave ↦ absurd gave.0.missed ]

-- no more locks were taken
taken_then : (t m : ℕ) (u s w : View) → HasTakenFirst t m u s → w.touched ≡ s.touched → HasTakenFirst t m u w
taken_then t m u s w taken same =
    record { keys = taken.keys; knows = taken.knows; full = taken.full; is = same ∙ taken.is }

-- ---- the header was locked

-- the view with these headers locked
abbrev headed : List Head → View → View
headed heads z = record z { heads = heads }

module _ (slots : List ℕ) (t at word n : ℕ) (sp : Span) (k : Key) (v u : View) (can : CanSplitLeaf slots v t sp k word)
    (same : n ≡ word) (h : HasHead t sp at v n u) (header : at ≡ page_at v.layout.slots t 0) where
  keys_are : can.grows.leaf.keys ≡ h.keys
  keys_are = same_keys t at word n sp k v u can.grows same h

  full_is : length h.keys ≡ 16
  full_is = ap (λ (l : List Key). length l) (sym keys_are) ∙ can.full

  layout_is : u.layout ≡ v.layout
  layout_is = ap (λ (z : View). z.layout) h.is

  locked_since : v.steps ≤ u.steps
  locked_since = let steps : u.steps ≡ v.steps + 1 = ap (λ (z : View). z.steps) h.is in omega (arith, steps)

  locked_worked : WorkedIn t v u
  locked_worked =
      worked_read t 0 at (n + lock_bit) v u (met_first 0 (omega arith)) header locked_since (ap (λ (z : View). z.reads) h.is)
      (λ x has. subst (λ (z : View). Contains z.versions x) (sym h.is) has) (ap (λ (z : View). z.role) h.is)
      (ap (λ (z : View). z.touched) h.is)

  -- the keys were known before
  leaf_before : Contains v.known (record { slot = t; keys = h.keys })
  leaf_before =
      subst (λ (l : List Key). Contains v.known (record { slot = t; keys = l })) keys_are
      (subst (λ (m : ℕ). Contains v.known (record { slot = m; keys = can.grows.leaf.keys })) can.grows.same
      can.grows.knows)

  -- locks that were taken since the header's lock were taken since before it
  taken_since : (m : ℕ) (w : View) → HasTakenFirst t m u w → HasTakenFirst t m v w
  taken_since m w taken =
      let one : Known = record { slot = t; keys = taken.keys } in
      let own : Known = record { slot = t; keys = h.keys } in record {
        keys = taken.keys;
        knows = elim (in_cases one own v.known
            (subst (λ (l : List Known). Contains l one) (ap (λ (z : View). z.known) h.is) taken.knows)) [
              | inl same ↦ subst (λ (x : Known). Contains v.known x) same leaf_before
              | inr before ↦ before
            ];
        full = taken.full;
        is = taken.is
            ∙ (ap (λ (l : List Touch). with_touches l (seat_number u.role) taken.keys m)
            (ap (λ (z : View). z.touched) h.is)
            ∙ ap (λ (r : Role). with_touches v.touched (seat_number r) taken.keys m) (ap (λ (z : View). z.role) h.is));
      }

  leaf_known : KnowsFull u t sp h.keys
  leaf_known = record {
    active = subst (λ (z : View). IsActive z.role) (sym h.is) can.grows.active;
    idle = ap (λ (z : View). z.seat.stage) h.is ∙ can.grows.idle;
    page = record {
      way = subst (λ (z : View). Contains z.ways (record { slot = t; span = sp })) (sym h.is) can.grows.page.way;
      tree = subst (λ (z : View). is_tree z.layout.decls sp.storage ≡ true) (sym h.is) can.grows.page.tree;
    };
    there = subst (λ (z : View). t < z.layout.slots) (sym h.is) can.grows.there;
    knows = subst (λ (z : View). Contains z.known (record { slot = t; keys = h.keys })) (sym h.is)
        (in_head (record { slot = t; keys = h.keys }) v.known);
    full = full_is;
    once = h.are.once;
    inside = h.are.inside;
  }

  -- what is asked under the lock
  pub can_lock : length slots < 128 → CanSplitLocked slots u t sp k at word
  can_lock room = record {
    keys = h.keys;
    words = h.words;
    leaf = leaf_known;
    worker = subst (λ (z : View). z.role ≡ Keeper → ⊥) (sym h.is) can.grows.worker;
    unlocked = ap (λ (z : View). z.seat.locks) h.is ∙ can.grows.unlocked;
    took = ap (λ (z : View). z.took) h.is ∙ can.took;
    one = locked_one t at word n sp k v u can.grows h;
    inside = can.grows.inside;
    new = subst (λ (l : List Key). has_key l k ≡ false) keys_are can.grows.new;
    header = header ∙ ap (λ (y : Layout). page_at y.slots t 0) (sym layout_is);
    whole = sym same ∙ (h.word ∙ ap (λ (m : ℕ). open_word m) full_is);
    holds = λ q. can.holds q ∙ ap (λ (z : View). has_slot z.grip.holds q) (sym h.is);
    room = room;
    nothing_made = record {
      made = ap (λ (z : View). z.grip.made) h.is ∙ can.nothing_made.made;
      taken = ap (λ (z : View). z.grip.taken) h.is ∙ can.nothing_made.taken;
      drafts = ap (λ (z : View). z.drafts) h.is ∙ can.nothing_made.drafts;
      copies = ap (λ (z : View). z.copies) h.is ∙ can.nothing_made.copies;
      blanks = ap (λ (z : View). z.blanks) h.is ∙ can.nothing_made.blanks;
      leaves = ap (λ (z : View). z.new_leaves) h.is ∙ can.nothing_made.leaves;
      inners = ap (λ (z : View). z.new_inners) h.is ∙ can.nothing_made.inners;
    };
  }

  -- ---- and the leaf split

  module _ (place : ℕ) (held : List ℕ) (w : View) (split : HasSplitLocked t sp k place slots held u w) where
    pub leaf_split : HasSplitLeaf t sp k place v w
    leaf_split =
        let end : View = as_split_locked t (lower_of split.minor sp split.sorted) (upper_of split.major sp split.sorted)
        split.half (separator_of split.sorted) (head_locked t h.keys h.words at n v) w in
        let all : w ≡ headed [] end =
        split.is
        ∙ ap (λ (z : View). as_split_locked t (lower_of split.minor sp split.sorted) (upper_of split.major sp split.sorted)
        split.half (separator_of split.sorted) z w) h.is in
        let four : w ≡ as_split t h.keys (lower_of split.minor sp split.sorted) (upper_of split.major sp split.sorted)
        split.half (separator_of split.sorted) v (headed v.heads end) =
        all ∙ ap (λ (l : List Head). headed l end) (sym can.grows.opened) in
        record {
          keys = h.keys;
          are = h.are;
          full = full_is;
          lower = lower_of split.minor sp split.sorted;
          upper = upper_of split.major sp split.sorted;
          separator = separator_of split.sorted;
          half = split.half;
          is_half = half_side k split.sorted (lower_of split.minor sp split.sorted) (upper_of split.major sp split.sorted)
              split.half split.is_half (nat_lt k.key (separator_of split.sorted)) refl;
          inside = split.inside;
          index = split.index;
          record_at = split.record_at;
          worked = worked_then t v u w layout_is locked_worked split.worked;
          taken = taken_since 16 w split.taken;
          most =
              let one : u.steps ≡ v.steps + 1 = ap (λ (z : View). z.steps) h.is in
              let more : w.steps ≤ u.steps + (2 * v.layout.slots + 200) =
              subst (λ (y : Layout). w.steps ≤ u.steps + (2 * y.slots + 200)) layout_is split.most in
              omega (arith, one, more);
          agree = split.agree;
          trees = split.trees;
          is = subst (λ (y : View). y ≡ as_split t h.keys (lower_of split.minor sp split.sorted)
              (upper_of split.major sp split.sorted) split.half (separator_of split.sorted) v y) (sym four) refl;
        }

    pub holds_half : HoldsAre held w
    holds_half q =
        ap (λ (l : List ℕ). has_slot l q) split.holds
        ∙ (pushed_has slots split.half.slot q
        ∙ (ap (λ (b : Bool). eqb split.half.slot q || b) (can.holds q)
        ∙ (ap (λ (z : View). has_slot (split.half.slot ∷ z.grip.holds) q) (sym h.is)
        ∙ ap (λ (z : View). has_slot z.grip.holds q) (sym split.is))))

  -- ---- or it wasn't

  module _ (why : RefusalCause) (s : View) (none : HasNotSplitLocked t why u s) where
    -- what the header's opening asks
    pub can_open_header : CanOpenHeader s t sp word
    can_open_header = record {
      page = record {
        way = subst (λ (l : List Way). Contains l (record { slot = t; span = sp }))
            (sym (ap (λ (z : View). z.ways) none.is ∙ ap (λ (z : View). z.ways) h.is)) can.grows.page.way;
        tree = subst (λ (y : Layout). is_tree y.decls sp.storage ≡ true)
            (sym (ap (λ (z : View). z.layout) none.is ∙ layout_is)) can.grows.page.tree;
      };
      head = head_of t h.keys h.words;
      has = subst (λ (l : List Head). Contains l (head_of t h.keys h.words))
          (sym (ap (λ (z : View). z.heads) none.is ∙ (locked_one t at word n sp k v u can.grows h).only))
          (in_head (head_of t h.keys h.words) []);
      slot = refl;
      word = sym same ∙ h.word;
    }

    -- and what it comes to
    pub leaf_left : (w : View) → w ≡ head_opened t at word s → HasNotSplit slots t word why v w
    leaf_left w is =
        let layout : s.layout ≡ u.layout = ap (λ (z : View). z.layout) none.is in
        let steps : w.steps ≡ s.steps + 1 = ap (λ (z : View). z.steps) is in
        let here : at ≡ page_at s.layout.slots t 0 =
        header ∙ ap (λ (y : Layout). page_at y.slots t 0) (sym (layout ∙ layout_is)) in
        let worked : WorkedIn t s w =
        worked_read t 0 at word s w (met_first 0 (omega arith)) here (omega (arith, steps)) (ap (λ (z : View). z.reads) is)
        (λ x has. subst (λ (z : View). Contains z.versions x) (sym is) has) (ap (λ (z : View). z.role) is)
        (ap (λ (z : View). z.touched) is) in
        let seen : seen_at w.reads (page_at v.layout.slots t 0) ≡ Some word =
        ap (seen_at w.reads) (sym header)
        ∙ (ap (λ (z : View). seen_at z.reads at) is ∙ seen_same s.reads at word (kept_at s.reads at)) in
        let end : View = head_opened t at word (as_tried_locked (head_locked t h.keys h.words at n v) s) in
        let four : w ≡ as_tried v (headed v.heads end) =
        is
        ∙ (ap (head_opened t at word) (none.is ∙ ap (λ (z : View). as_tried_locked z s) h.is)
        ∙ (ap (λ (l : List Head). headed (other_heads t (head_of t h.keys h.words ∷ l)) end) can.grows.opened
        ∙ (ap (λ (b : Bool). headed (cond (not b) (head_of t h.keys h.words ∷ []) []) end) (eq-eqb t t refl)
        ∙ ap (λ (l : List Head). headed l end) (sym can.grows.opened)))) in
        record {
          worked =
              worked_then t v u w layout_is locked_worked (worked_then t u s w layout none.worked worked);
          most =
              let one : u.steps ≡ v.steps + 1 = ap (λ (z : View). z.steps) h.is in
              let more : s.steps ≤ u.steps + (2 * v.layout.slots + 250) =
              subst (λ (y : Layout). s.steps ≤ u.steps + (2 * y.slots + 250)) layout_is none.most in
              omega (arith, one, more, steps);
          known = λ x has.
              subst (λ (l : List Known). Contains l x)
              (sym (ap (λ (z : View). z.known) is
              ∙ (ap (λ (z : View). z.known) none.is ∙ ap (λ (z : View). z.known) h.is)))
              (in_tail x (record { slot = t; keys = h.keys }) v.known has);
          trees = λ before.
              trees_as u w (ap (λ (z : View). z.layout) is ∙ ap (λ (z : View). z.layout) none.is)
              (ap (λ (z : View). z.known) is ∙ ap (λ (z : View). z.known) none.is)
              (ap (λ (z : View). z.inners) is ∙ ap (λ (z : View). z.inners) none.is)
              (ap (λ (z : View). z.ways) is ∙ ap (λ (z : View). z.ways) none.is) h.trees;
          is = subst (λ (y : View). y ≡ as_tried v y) (sym four) refl;
          cause = cause_of slots t word why v w (elim none.cause [
            | inl changed ↦
                inl record {
                  header = seen;
                  missed = (
                    changed.0,
                    changed.1,
                    refused_opened t changed.0 at word why v u s w locked_since here is worked changed.2,
                    taken_since changed.0 w (taken_then t changed.0 u s w changed.3 (ap (λ (z : View). z.touched) is)),
                  );
                }
            | inr gave ↦ inr (
              gave_then why v u s w locked_since layout_is (ap (λ (z : View). z.last) is)
                  (ap (λ (z : View). z.looked) is) gave.0,
              taken_since 16 w (taken_then t 16 u s w gave.1 (ap (λ (z : View). z.touched) is)),
            )
          ]);
        }
