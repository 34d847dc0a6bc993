-- An interior page whose pointers were gone over is left: it was dropped, or kept.
use Rattle.std.proofs.Common.{◌≡◌, ◌≢◌, inl, inr, ℕ, suc, ◌+◌, ◌*◌, ◌^◌, ◌<◌, ◌≤◌, Bool, true, false, true≢false, eqb, eq-eqb}
use Rattle.std.proofs.Common.{List, [], ◌∷◌, ◌++◌, length, get_or, Option, Some, None, refl, sym, ap, ◌∙◌, subst, arith, append_assoc}
use Rattle.std.proofs.lemmas.List.{append-nil, reverse-append}
use Rattle.std.proofs.lemmas.List.Elements.{Contains-append_left}
use Rattle.std.specs.Prelude.{◌||◌, IfErr, OnOk, Ok, Err, Result, reverse}
use Rattle.std.specs.List.{Contains, flat_map, slice_get}
use Rattle.lists.specs.Elements.{at_below, at_in, in_cases, in_head, in_none, in_push_cases, in_push_new, in_push_old, in_tail}
use Rattle.lists.specs.Fronts.{IsFront, front_length, front_refl}
use Rattle.serial_model.specs.declared.key.Key.{Key}
use Rattle.homes.specs.declared.places.At.{At}
use Rattle.homes.specs.declared.places.At.TheVariants.{Root, In}
use Rattle.homes.specs.declared.places.Span.{Span}
use Rattle.snapshot_store.specs.Places.{page as page_words}
use Rattle.commit_core.specs.declared.part.Part.{Part}
use Rattle.commit_core.specs.declared.seat.Seat.{Seat}
use Rattle.drop_core.specs.declared.grip.Grip.{Grip}
use Rattle.drop_core.specs.Event.{without}
use Rattle.drop_core.specs.Table.{has_slot}
use Rattle.engine_rule.specs.JointState.{keeps_word}
use Rattle.engine_rule.proofs.ReadLists.{in_flat}
use Rattle.engine_pages.specs.declared.layout.Layout.{Layout}
use Rattle.engine_pages.specs.declared.view.KeptPage.{KeptPage}
use Rattle.engine_pages.specs.declared.view.KeptWhy.{KeptWhy}
use Rattle.engine_pages.specs.declared.view.Head.{Head}
use Rattle.engine_pages.specs.declared.view.Read.{Read}
use Rattle.engine_pages.specs.declared.view.Shut.{Shut}
use Rattle.engine_pages.specs.declared.view.Swung.{Swung}
use Rattle.engine_pages.specs.declared.view.Took.{Took}
use Rattle.engine_pages.specs.declared.view.View.{View}
use Rattle.engine_pages.specs.declared.view.Way.{Way}
use Rattle.engine_pages.specs.Layout.{page_at, words_of}
use Rattle.engine_pages.specs.Pages.{is_array, root_span}
use Rattle.engine_pages.specs.Pointers.{IsArrayPointerAt}
use Rattle.engine_pages.specs.Slots.{left, other_copies, other_heads, other_inners, other_leaves}
use Rattle.engine_pages.specs.Steps.{seen_at}
use Rattle.engine_pages.specs.Views.{IsActive}
use Rattle.engine_pages.proofs.Named.{page_longer}
use Rattle.page_drops.specs.declared.calls.Dropped.{Dropped}
use Rattle.page_drops.specs.declared.noting.Kept.{Kept}
use Rattle.page_drops.specs.declared.visits.Held.{Held}
use Rattle.page_drops.specs.Calls.{CanVisit, CanVisitBelow, GoesOver, HasCounted, HasIn, HasVisited, HasVisitedBelow, IsBare}
use Rattle.page_drops.specs.Calls.{HasRoom, IsElsewhere, IsNode, IsNoteOf, IsWayDown}
use Rattle.page_drops.specs.Inner.{AreLaterNotes, AreShutNotes, AtInner, CanDropInner, HasDroppedInner, IsInnerCause, IsInnerCauseBelow}
use Rattle.page_drops.specs.Inner.{KeepsInnerBelow}
use Rattle.page_drops.specs.Visits.{Met, HasCause, IsInnerTree, IsNotedSo, IsNotedUnder, WasSeenSo}
use Rattle.page_drops.specs.Visits.{dropped_here, dropped_of, note_here, notes_of, slots_of, sum_met, swing_here, swings_of}
use Rattle.page_drops.specs.Works.{read_of, IsOutside, KeepsReadsBut, TellsAbove}
use Rattle.page_drops.proofs.Counts.{counted_then, sum_few}
use Rattle.page_drops.proofs.Entries.{seen_of}
use Rattle.page_drops.proofs.Goings.{bare_over}
use Rattle.page_drops.proofs.Heights.{leaf_high}
use Rattle.page_drops.proofs.Holds.{as_held}
use Rattle.page_drops.proofs.Inners.{as_shut}
use Rattle.page_drops.proofs.Laters.{StaysFor, later_stays}
use Rattle.page_drops.proofs.LeafTurns.{cause_left, grip_back, noted_kept}
use Rattle.page_drops.proofs.Notes.{keeper_active}
use Rattle.page_drops.proofs.Sights.{saw_same}
use Rattle.page_drops.proofs.Visited.{CountsKept, HasWorked, IsStayOrTurn, bare_in, out_of}

-- ---- what work on the page leaves

pub inner_worked : (t page at before : ℕ) (k : Kept) (u b : View) → IsBare u → KeepsInnerBelow t page at before k u b → HasWorked u b
inner_worked t page at before k u b bare keeps =
    let z : View = as_shut u b in
    subst (λ (y : View). HasWorked u y) (sym (keeps.went).shut) record {
      over = record {
        went = ap (λ (ss : List Shut). let y : View = record (as_held u z) { shuts = ss } in y) keeps.shuts;
        later = (keeps.went).later;
        front = front_refl u.pages;
        leads = (keeps.went).leads;
        more = saw_same u z refl refl refl;
      };
      grip = refl;
      ways = refl;
      gone = refl;
      shuts = keeps.shuts ∙ bare.shuts;
    }

-- a view behind the drop of the page
abbrev as_dropped : ℕ → ℕ → View → View → View
as_dropped t at u b = record u {
  steps = b.steps;
  last = b.last;
  reads = b.reads;
  leads = b.leads;
  seat = record u.seat { locks = [] };
  took = [];
  loaded = b.loaded;
  grip = record u.grip { made = without u.grip.made t; taken = without (t ∷ u.grip.taken) t };
  copies = other_copies t u.copies;
  blanks = without u.blanks t;
  new_leaves = other_leaves t u.new_leaves;
  new_inners = other_inners t u.new_inners;
  heads = other_heads t u.heads;
  shuts = [];
  swung = u.swung ++ record { word = at; slot = t } ∷ [];
}

pub inner_dropped_worked : (t page at : ℕ) (u b : View) → IsBare u → HasDroppedInner t at page u b → HasWorked u b
inner_dropped_worked t page at u b bare drops =
    let z : View = as_dropped t at u b in
    subst (λ (y : View). HasWorked u y) (sym drops.is) record {
      over = record {
        went = ap (λ (ls : List Key). let s : Seat = record u.seat { locks = ls } in let y : View = record (as_held u z) { seat = s } in y)
            (sym bare.locks)
            ∙ (ap (λ (ts : List Took). let y : View = record (as_held u z) { seat = u.seat; took = ts } in y) (sym bare.took)
            ∙ (ap (λ (ss : List Shut). let y : View = record (as_held u z) { seat = u.seat; took = u.took; shuts = ss } in y)
            (sym bare.shuts)
            ∙ ap (λ (hs : List Head). let y : View = record (as_held u z) { seat = u.seat; took = u.took; shuts = u.shuts; heads = hs } in y)
            (ap (λ (list : List Head). other_heads t list) bare.heads ∙ sym bare.heads)));
        later = drops.later;
        front = front_refl u.pages;
        leads = drops.leads;
        more = saw_same u z refl refl refl;
      };
      grip = grip_back t u bare;
      ways = refl;
      gone = refl;
      shuts = refl;
    }

-- by what the call answers
pub worked_by : (t page at before : ℕ) (r : Result (Unit {0}) Kept) (u b : View) → IsBare u → OnOk r (HasDroppedInner t at page u b)
    → IfErr r (λ k. KeepsInnerBelow t page at before k u b) → HasWorked u b
worked_by t page at before (Ok x) u b bare drops keeps = inner_dropped_worked t page at u b bare drops
worked_by t page at before (Err k) u b bare drops keeps = inner_worked t page at before k u b bare keeps

-- the slot may be left then
pub slot_left : (t : ℕ) (u b : View) → HasWorked u b → t < u.layout.slots → t < b.layout.slots
slot_left t u b worked low = subst (λ (l : Layout). t < l.slots) (sym (ap (λ (z : View). z.layout) (worked.over).went)) low

pub held_left : (t : ℕ) (u b : View) → HasWorked u b → has_slot u.grip.holds t ≡ true → has_slot b.grip.holds t ≡ true
held_left t u b worked held = ap (λ (z : Grip). has_slot z.holds t) worked.grip ∙ held

pub unkept_left : (t : ℕ) (u b : View) → IsBare u → HasWorked u b → keeps_word b.seat.kept t ≡ false
unkept_left t u b bare worked =
    ap (λ (ps : List Part). keeps_word ps t) (ap (λ (z : View). z.seat.kept) (worked.over).went ∙ bare.parts)

pub active_left : (u b : View) → IsBare u → HasWorked u b → IsActive b.role
active_left u b bare worked = keeper_active b.role (ap (λ (z : View). z.role) (worked.over).went ∙ bare.keeper)

-- ---- what is asked of the page that is held

pub inner_in : (height : ℕ) (x : At) (sp : Span) (at page : ℕ) (held : Held) (v a : View) → CanVisit (suc height) x sp at page v
    → HasIn sp at page held v a → AtInner held.slot sp page a
inner_in height x sp at page held v a can inside =
    let went = (inside.over).went in
    let own : Way = record { slot = held.slot; span = sp } in
    let there = can.there in
    let long = front_length v.pages a.pages (inside.over).front in record {
      keeper = ap (λ (z : View). z.role) went ∙ (can.bare).keeper;
      idle = ap (λ (z : View). z.seat.stage) went ∙ (can.bare).idle;
      way = subst (λ (ws : List Way). Contains ws own) (sym inside.ways) (in_head own v.ways);
      slot = subst (λ (l : Layout). held.slot < l.slots) (sym (ap (λ (z : View). z.layout) went)) inside.slot;
      array = ap (λ (z : View). is_array z.layout.decls sp.storage) went ∙ can.array;
      inner = leaf_high sp height can.exact;
      height = suc height;
      exact = can.exact;
      high = can.high;
      there = omega (arith, there, long);
      room = subst (λ (l : Layout). page ≤ l.resident) (sym (ap (λ (z : View). z.layout) went)) can.room;
      lead = λ some. let l = can.lead some in (l.0, (inside.over).leads l.0 l.1, l.2, l.3);
      took = ap (λ (z : View). z.took) went ∙ (can.bare).took;
      heads = ap (λ (z : View). z.heads) went ∙ (can.bare).heads;
    }

pub can_below : (height : ℕ) (x : At) (sp : Span) (at page : ℕ) (held : Held) (v a : View) → CanVisit (suc height) x sp at page v
    → HasIn sp at page held v a → CanVisitBelow height held.slot sp page a
can_below height x sp at page held v a can inside =
    let layout : a.layout ≡ v.layout = ap (λ (z : View). z.layout) (inside.over).went in record {
      inner = inner_in height x sp at page held v a can inside;
      bare = bare_in sp at page held v a can.bare inside;
      down =
          subst (λ (l : Layout). IsWayDown l.decls height a.ways) (sym layout)
          (subst (λ (ws : List Way). IsWayDown v.layout.decls height ws) (sym inside.ways)
          (record { array = can.array; exact = can.exact }, can.down));
      held =
          ap (λ (z : Grip). has_slot z.holds held.slot) inside.grip
          ∙ ap (λ (b : Bool). b || has_slot v.grip.holds held.slot) (eq-eqb held.slot held.slot refl);
      exact = can.exact;
    }

inner_over : (t page : ℕ) (sp : Span) (a u : View) → GoesOver a u → AtInner t sp page a → AtInner t sp page u
inner_over t page sp a u over h =
    let went = over.went in
    let there = h.there in
    let long = front_length a.pages u.pages over.front in record {
      keeper = ap (λ (z : View). z.role) went ∙ h.keeper;
      idle = ap (λ (z : View). z.seat.stage) went ∙ h.idle;
      way = subst (λ (z : View). Contains z.ways (record { slot = t; span = sp })) (sym went) h.way;
      slot = subst (λ (z : View). t < z.layout.slots) (sym went) h.slot;
      array = ap (λ (z : View). is_array z.layout.decls sp.storage) went ∙ h.array;
      inner = h.inner;
      height = h.height;
      exact = h.exact;
      high = h.high;
      there = omega (arith, there, long);
      room = subst (λ (z : View). page ≤ z.layout.resident) (sym went) h.room;
      lead = λ some. let l = h.lead some in (l.0, over.leads l.0 l.1, l.2, l.3);
      took = ap (λ (z : View). z.took) went ∙ h.took;
      heads = ap (λ (z : View). z.heads) went ∙ h.heads;
    }

-- the pointer stands where it stood
pointer_on : (v u : View) (x : At) (sp : Span) (at : ℕ) → u.layout ≡ v.layout → ((z : Way) → Contains v.ways z → Contains u.ways z)
    → IsArrayPointerAt v x sp at → IsArrayPointerAt u x sp at
pointer_on v u (Root r) sp at layout ways is = (
  subst (λ (l : Layout). r < length l.decls) (sym layout) is.0,
  is.1 ∙ ap (λ (l : Layout). root_span l.decls r) (sym layout),
  is.2,
)
pointer_on v u (In y) sp at layout ways is = record {
  way = is.way;
  has = ways is.way is.has;
  slot = is.slot;
  kind = ap (λ (l : Layout). is_array l.decls (is.way).span.storage) layout ∙ is.kind;
  inner = is.inner;
  index = is.index;
  span = is.span;
  word = is.word ∙ ap (λ (l : Layout). page_at l.slots y.slot y.index) (sym layout);
}

-- ---- room in the counts

-- for the page itself, behind what is below it
pub room_after : (B : Type 0) (f : Met B → ℕ) (g : Met B → List KeptPage) (h : Met B → List ℕ) (q : Met B → List Swung)
    (stands : View → Met B → Type 0) (k t page : ℕ) (sp : Span) (old mid : Dropped) (v u : View)
    → ((w : View) (m : Met B) → stands w m → f m + length (g m) ≤ k) → HasRoom (k * 64 + 1) old
    → HasVisitedBelow (Met B) f g h q (IsNode B stands) t sp page 64 old v mid u → HasRoom 1 mid
room_after B f g h q stands k t page sp old mid v u small room so =
    let all = sum_few f g k so.met (λ i m at. small u m (so.each i m at).tree) in
    let some : k * length so.met ≡ k * 64 = ap (λ i. k * i) so.long in
    let dropped = (so.counts).dropped in
    let kept = (so.counts).kept in omega (arith, all, some, dropped, kept, room)

-- ---- an interior page

-- what is not among more slots is not among fewer
other_slot : (x t : ℕ) (holds : List ℕ) → has_slot (x ∷ holds) t ≡ false → has_slot holds t ≡ false
other_slot x t holds none = by_test (eqb x t) none
  where
    by_test : (b : Bool) → (b || has_slot holds t) ≡ false → has_slot holds t ≡ false
    by_test true some = absurd (true≢false some)
    by_test false rest = rest

in_reverse : (x : ℕ) (xs : List ℕ) → Contains xs x → Contains (reverse xs) x
in_reverse x [] has = absurd (in_none x has)
in_reverse x (y ∷ ys) has =
    subst (λ (l : List ℕ). Contains l x) (sym (reverse-append (y ∷ []) ys)) (elim (in_cases x y ys has) [
      | inl same ↦ subst (λ z. Contains (reverse ys ++ y ∷ []) z) same (in_push_new y (reverse ys))
      | inr more ↦ in_push_old x y (reverse ys) (in_reverse x ys more)
    ])

stays_or_turns : (slots t at before word seen : ℕ) (words : List ℕ) (why : KeptWhy)
    → IsInnerCauseBelow slots t words at before why word seen → IsStayOrTurn at before why word seen
stays_or_turns slots t at before word seen words why cause = elim cause [
  | inl low ↦ inl (λ e is. let none : ⊥ = subst (λ (y : KeptWhy). IsInnerCause slots t words y word seen) is low in none)
  | inr turn ↦ inr turn
]

module _ (C : Type 0) (f : Met C → ℕ) (g : Met C → List KeptPage) (h : Met C → List ℕ) (q : Met C → List Swung)
    (tree : View → Met C → Type 0) (stays : (v w : View) (c : Met C) → StaysFor (h c) v w → tree v c → tree w c) (height : ℕ) (x : At) (sp : Span)
    (at page : ℕ) (held : Held) (old mid : Dropped) (v a u : View) (can : CanVisit (suc height) x sp at page v)
    (inside : HasIn sp at page held v a)
    (below : HasVisitedBelow (Met C) f g h q (IsNode C tree) held.slot sp page 64 old a mid u) where
  abbrev t : ℕ
  t = held.slot

  abbrev nodes : List (Met C)
  nodes = below.met

  bare : IsBare u
  bare = bare_over a u (below.over).went (bare_in sp at page held v a can.bare inside)

  pub bare_below : IsBare u
  bare_below = bare

  layout_in : a.layout ≡ v.layout
  layout_in = ap (λ (z : View). z.layout) (inside.over).went

  layout_is : u.layout ≡ v.layout
  layout_is = ap (λ (z : View). z.layout) (below.over).went ∙ layout_in

  pub slot_below : t < u.layout.slots
  slot_below = subst (λ (l : Layout). t < l.slots) (sym layout_is) inside.slot

  pub held_below : has_slot u.grip.holds t ≡ true
  held_below =
      ap (λ (z : View). has_slot z.grip.holds t) (below.over).went
      ∙ (ap (λ (z : Grip). has_slot z.holds t) inside.grip
      ∙ ap (λ (b : Bool). b || has_slot v.grip.holds t) (eq-eqb t t refl))

  -- the slots below are not on the way
  fresh_below : (y : ℕ) → Contains (flat_map h nodes) y → has_slot v.grip.holds y ≡ false
  fresh_below y has =
      other_slot t y v.grip.holds
      (sym (ap (λ (z : Grip). has_slot z.holds y) inside.grip) ∙ below.fresh y has)

  -- the pointer stands in none of them
  outside : (y : ℕ) → Contains (t ∷ flat_map h nodes) y → IsOutside v.layout.slots y at
  outside y has = elim (in_cases y t (flat_map h nodes) has) [
    | inl own ↦ can.apart y (subst (λ z. has_slot v.grip.holds z ≡ false) own inside.fresh)
    | inr more ↦ can.apart y (fresh_below y more)
  ]

  outside_of : (w : View) → w.layout ≡ v.layout → (y : ℕ) → Contains (t ∷ flat_map h nodes) y → IsOutside w.layout.slots y at
  outside_of w layout y has i less is = outside y has i less (is ∙ ap (λ (l : Layout). page_at l.slots y i) layout)

  -- its word is as it was found
  read_below : (r : Read) × (read_of u.reads at ≡ Some r) × (r.seen ≡ held.word)
  read_below =
      let r = inside.read in (r.0, below.others at (outside_of a layout_in) ∙ r.1, r.2)

  pub can_drop : CanDropInner x sp at t page held.word u
  can_drop =
      let r = read_below in record {
        inner = inner_over t page sp a u below.over (inner_in height x sp at page held v a can inside);
        place = pointer_on v u x sp at layout_is
            (λ z has.
            subst (λ (ws : List Way). Contains ws z) (sym (ap (λ (y : View). y.ways) (below.over).went ∙ inside.ways))
            (in_tail z (record { slot = t; span = sp }) v.ways has)) can.place;
        inside = subst (λ (l : Layout). at < words_of l) (sym layout_is) can.inside;
        leads = inside.led;
        met = seen_of u.reads at r.0 r.1 ∙ ap (λ n. let o : Option ℕ = Some n in o) r.2;
        apart = outside_of u layout_is t (in_head t (flat_map h nodes));
        locks = bare.locks;
        shuts = bare.shuts;
      }

  -- ---- behind it

  module _ (new : Dropped) (b d : View) (reads : KeepsReadsBut held.slot at u b) (leave : d ≡ left held.slot b) where
    abbrev Told : Type 0
    Told = HasVisited (Met (Met C)) (dropped_of f) (notes_of g) (slots_of h) (swings_of q)
        (IsNode (Met C) (IsInnerTree C tree) sp page at) at old v new d

    abbrev flat : List ℕ
    flat = flat_map h nodes

    abbrev inner_met : Option KeptPage → Met (Met C)
    inner_met kept = record { at = at; span = sp; page = page; slot = Some t; below = nodes; kept = kept }

    same_reads : (word : ℕ) → read_of d.reads word ≡ read_of b.reads word
    same_reads word = ap (λ (z : View). read_of z.reads word) leave

    turned_in : (y : ℕ) → Contains (t ∷ flat) y → Contains (flat ++ t ∷ []) y
    turned_in y has = elim (in_cases y t flat has) [
      | inl own ↦ subst (λ z. Contains (flat ++ t ∷ []) z) own (in_push_new t flat)
      | inr more ↦ in_push_old y t flat more
    ]

    others : (word : ℕ) → (word ≡ at → ⊥) → IsElsewhere v.layout.slots (flat ++ t ∷ []) word
        → read_of d.reads word ≡ read_of v.reads word
    others word other elsewhere =
        same_reads word
        ∙ (reads word other (λ i less is.
        elsewhere t (in_push_new t flat) i less (is ∙ ap (λ (l : Layout). page_at l.slots t i) layout_is))
        ∙ (below.others word (λ y has i less is.
        elsewhere y (turned_in y has) i less (is ∙ ap (λ (l : Layout). page_at l.slots y i) layout_in))
        ∙ inside.others word other))

    there : page ≤ length u.pages
    there = (can_drop.inner).there

    layout_left : HasWorked u b → d.layout ≡ u.layout
    layout_left worked = ap (λ (z : View). z.layout) leave ∙ ap (λ (z : View). z.layout) (worked.over).went

    front_left : HasWorked u b → IsFront u.pages d.pages
    front_left worked = subst (λ (z : View). IsFront u.pages z.pages) (sym leave) (worked.over).front

    words_left : HasWorked u b → page_words d.pages page ≡ page_words u.pages page
    words_left worked = page_longer u.pages d.pages page (front_left worked) there

    gone_left : HasWorked u b → d.gone ≡ t ∷ u.gone
    gone_left worked = ap (λ (z : View). z.gone) leave ∙ ap (λ (l : List ℕ). t ∷ l) worked.gone

    in_gone : (y : ℕ) → Contains flat y → Contains u.gone y
    in_gone y has =
        subst (λ (l : List ℕ). Contains l y) (sym below.gone) (Contains-append_left (reverse flat) a.gone y (in_reverse y flat has))

    -- what was met below stays told
    child_stays : HasWorked u b → (j : ℕ) (c : Met C) → slice_get nodes j ≡ Some c → tree d c
    child_stays worked j c has =
        stays u d c
        (later_stays (h c) (t ∷ []) at u d (layout_left worked) (front_left worked) (gone_left worked)
        (λ word other elsewhere. same_reads word ∙ reads word other (elsewhere t (in_head t [])))
        (λ y here.
        let all = in_flat h nodes c y (at_in nodes j c has) here in
        (in_gone y all, outside_of u layout_is y (in_tail y t flat all))))
        (below.each j c has).tree

    all_gone : HasWorked u b → d.gone ≡ reverse (flat ++ t ∷ []) ++ v.gone
    all_gone worked =
        gone_left worked
        ∙ (ap (λ (l : List ℕ). t ∷ l) (below.gone ∙ ap (λ (l : List ℕ). reverse flat ++ l) inside.gone)
        ∙ ap (λ (l : List ℕ). l ++ v.gone) (sym (reverse-append flat (t ∷ []))))

    all_kept : (kept : Option KeptPage) → b.kept ≡ u.kept ++ note_here kept
        → d.kept ≡ v.kept ++ (flat_map g nodes ++ note_here kept)
    all_kept kept notes =
        ap (λ (z : View). z.kept) leave
        ∙ (notes
        ∙ (ap (λ (l : List KeptPage). l ++ note_here kept) (below.kept ∙ ap (λ (l : List KeptPage). l ++ flat_map g nodes) inside.kept)
        ∙ append_assoc v.kept (flat_map g nodes) (note_here kept)))

    all_swung : (kept : Option KeptPage) → b.swung ≡ u.swung ++ swing_here at (Some t) kept
        → d.swung ≡ v.swung ++ (flat_map q nodes ++ swing_here at (Some t) kept)
    all_swung kept swings =
        ap (λ (z : View). z.swung) leave
        ∙ (swings
        ∙ (ap (λ (l : List Swung). l ++ swing_here at (Some t) kept)
        (below.swung ∙ ap (λ (l : List Swung). l ++ flat_map q nodes) inside.swung)
        ∙ append_assoc v.swung (flat_map q nodes) (swing_here at (Some t) kept)))

    -- with a worked page, its note if it is kept, and why
    left_so : (kept : Option KeptPage) → HasWorked u b → b.kept ≡ u.kept ++ note_here kept → IsNotedSo d (inner_met kept)
        → HasCause IsInnerCause d (inner_met kept)
        → ((j : ℕ) (c : Met C) → slice_get nodes j ≡ Some c → IsNotedUnder kept d c)
        → HasCounted mid (dropped_here (Some t) kept) (note_here kept) new
        → b.swung ≡ u.swung ++ swing_here at (Some t) kept → Told
    left_so kept worked notes noted cause under counts swings =
        let long = front_length u.pages d.pages (front_left worked) in record {
          met = inner_met kept;
          tree = record {
            at = refl;
            span = refl;
            page = refl;
            noted = noted;
            tree = record {
              there = let low = there in omega (arith, low, long);
              cause = cause;
              children = record {
                all = λ s is. inl below.long;
                each = λ s j c is has.
                    let node = below.each j c has in
                    let same : t ≡ s = cc in (
                      node.at
                          ∙ (ap (λ (l : Layout). page_at l.slots t j) (sym (layout_left worked))
                          ∙ ap (λ z. page_at d.layout.slots z j) same),
                      node.span,
                      node.page ∙ ap (λ (ws : List ℕ). get_or ws j 0) (sym (words_left worked)),
                    );
                end = λ is. absurd (cc);
              };
              each = child_stays worked;
              noted = λ s j c is once has. under j c has;
            };
          };
          over = out_of sp at page held v a u b d can.bare inside below.over worked leave;
          kept = all_kept kept notes;
          gone = all_gone worked;
          swung = all_swung kept swings;
          fresh = λ y has. elim (in_push_cases y t flat has) [
            | inl more ↦ fresh_below y more
            | inr own ↦ subst (λ z. has_slot v.grip.holds z ≡ false) own inside.fresh
          ];
          counts = counted_then old mid new (sum_met f nodes) (dropped_here (Some t) kept) (flat_map g nodes) (note_here kept)
              below.counts counts;
          others = others;
        }

    less_here : (j : ℕ) (c : Met C) → slice_get nodes j ≡ Some c → j < 64
    less_here j c has = subst (λ n. j < n) below.long (at_below nodes j c has)

    -- what a pointer of the page was seen as before
    was_seen : (j : ℕ) (c : Met C) → slice_get nodes j ≡ Some c → (r : Read)
        → r.was ≡ seen_at u.reads (page_at u.layout.slots t j) → WasSeenSo c r
    was_seen j c has r was =
        let node = below.each j c has in (
          ((node.noted).read).seen,
          was
              ∙ (ap (λ n. seen_at u.reads n) (sym node.at) ∙ seen_of u.reads c.at (node.noted).read (node.noted).is),
          (node.noted).sight,
        )

    -- its entry now
    entry_now : (j : ℕ) (c : Met C) → slice_get nodes j ≡ Some c
        → read_of d.reads c.at ≡ read_of b.reads (page_at u.layout.slots t j)
    entry_now j c has = same_reads c.at ∙ ap (λ n. read_of b.reads n) (below.each j c has).at

    under_dropped : AreShutNotes t page 64 u b → (j : ℕ) (c : Met C) → slice_get nodes j ≡ Some c → IsNotedUnder None d c
    under_dropped notes j c has =
        let note = notes j (less_here j c has) in (
          note.0,
          entry_now j c has ∙ note.1,
          note.2 ∙ ap (λ n. n + 2 ^ 60) (sym (below.each j c has).page),
          was_seen j c has note.0 note.3,
        )

    under_kept : (k : Kept) (note : KeptPage) → IsNoteOf k note → AreLaterNotes t page k u b → (j : ℕ) (c : Met C)
        → slice_get nodes j ≡ Some c → IsNotedUnder (Some note) d c
    under_kept k note told later j c has =
        let node = below.each j c has in
        let apart : (k.word ≢ page_at u.layout.slots t j) → note.word ≢ c.at =
        λ other e. other (sym (ap (λ (p : KeptPage). p.word) told) ∙ (e ∙ node.at)) in
        elim (later j (less_here j c has)) [
          | inl same ↦ (
            (node.noted).read,
            entry_now j c has
                ∙ (same.0 ∙ (ap (λ n. read_of u.reads n) (sym node.at) ∙ (node.noted).is)),
            inl ((node.noted).sight, (node.noted).before, apart same.1),
          )
          | inr rest ↦
              elim rest [
                | inl met ↦ (
                  met.0,
                  entry_now j c has ∙ met.1,
                  inr (inl (
                    ap (λ (p : KeptPage). p.word) told ∙ (met.2 ∙ sym node.at),
                    ap (λ (p : KeptPage). p.seen) told ∙ sym met.3,
                    was_seen j c has met.0 met.4,
                  )),
                )
                | inr again ↦ (
                  again.0,
                  entry_now j c has ∙ again.1,
                  inr (inr (
                    again.2 ∙ sym node.page,
                    again.3 ∙ ap (λ n. let o : Option ℕ = Some (n + 2 ^ 60) in o) (sym node.page),
                    apart again.4,
                  )),
                )
              ]
        ]

    inner_left : HasDroppedInner t at page u b → AreShutNotes t page 64 u b → HasCounted mid 1 [] new → Told
    inner_left drops notes counts =
        left_so None (inner_dropped_worked t page at u b bare drops)
        (ap (λ (z : View). z.kept) drops.is ∙ sym (append-nil u.kept))
        record {
          read = (drops.led).0;
          is = same_reads at ∙ (drops.led).1;
          sight = (drops.led).2;
          before = (held.word, (drops.led).3 ∙ can_drop.met, inside.led);
        }
        (λ k is. absurd (cc)) (under_dropped notes) counts (ap (λ (z : View). z.swung) drops.is)

    inner_kept : (k : Kept) → KeepsInnerBelow t page at held.word k u b → TellsAbove k.why at k.seen u b
        → AreLaterNotes t page k u b → CountsKept mid k new → Told
    inner_kept k keeps tells later counts =
        let note = (keeps.kept).page in
        let told = (keeps.kept).told in
        let cause = (keeps.kept).cause-is in
        let worked = inner_worked t page at held.word k u b bare keeps in
        left_so (Some note) worked (keeps.kept).is
        (noted_kept (Met C) (inner_met (Some note)) t page held.word k note u b d refl refl refl told tells read_below inside.led
        inside.names
        (stays_or_turns u.layout.slots t at held.word k.word k.seen (page_words u.pages page) k.why cause)
        (same_reads at))
        (λ other is.
        cause_left IsInnerCause u.layout.slots d.layout.slots t at held.word (page_words u.pages page) (page_words d.pages page) k note
        other (ap (λ (l : Layout). l.slots) (sym (layout_left worked))) (sym (words_left worked)) told inside.led cause is)
        (under_kept k note told later) (counts note told)
        (ap (λ (z : View). z.swung) (keeps.went).shut ∙ sym (append-nil u.swung))

    -- by what the call answers
    pub inner_turned : (r : Result (Unit {0}) Kept) → OnOk r (HasDroppedInner t at page u b) → OnOk r (AreShutNotes t page 64 u b)
        → IfErr r (λ k. KeepsInnerBelow t page at held.word k u b) → IfErr r (λ k. TellsAbove k.why at k.seen u b)
        → IfErr r (λ k. AreLaterNotes t page k u b) → OnOk r (HasCounted mid 1 [] new) → IfErr r (λ k. CountsKept mid k new) → Told
    inner_turned (Ok y) drops notes keeps tells later counts kept = inner_left drops notes counts
    inner_turned (Err k) drops notes keeps tells later counts kept = inner_kept k keeps tells later kept
