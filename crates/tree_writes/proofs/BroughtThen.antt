-- The place of a key's record behind pages that were brought into memory, and what is told where it wasn't found.
use Rattle.std.proofs.Common.{◌≡◌, inl, inr, ℕ, ◌+◌, ◌<◌, ◌≤◌, Bool, true, false, List, ◌∷◌, ◌++◌, [], length}
use Rattle.std.proofs.Common.{refl, sym, ap, ◌∙◌, subst, arith, Option, Some, true≢false, eq-eqb}
use Rattle.std.specs.Prelude.{Contains, Result, Ok, Err, OnOk, IfOk, IfErr, ◌==◌}
use Rattle.lists.specs.Elements.{any_in}
use Rattle.serial_model.specs.declared.key.Key.{Key}
use Rattle.homes.specs.Homes.{in_span}
use Rattle.commit_core.specs.declared.part.Part.{Part}
use Rattle.serial_bridge.specs.Transaction.{Vouched}
use Rattle.drop_core.specs.Table.{has_slot}
use Rattle.tx_sets.specs.declared.reads.ReadEntry.{ReadEntry}
use Rattle.tx_sets.specs.declared.seen.Seen.{Seen}
use Rattle.tx_sets.specs.declared.sets.Sets.{Sets}
use Rattle.tx_sets.specs.declared.writes.Write.{Write}
use Rattle.tx_sets.specs.Entries.{has_read, has_word, has_write, read_of}
use Rattle.engine_pages.specs.declared.layout.Layout.{Layout}
use Rattle.engine_pages.specs.declared.view.RefusalCause.{RefusalCause}
use Rattle.engine_pages.specs.declared.view.RefusalCause.TheVariants as refusals
use Rattle.engine_pages.specs.declared.view.Role.{Role}
use Rattle.engine_pages.specs.declared.view.Touch.{Touch}
use Rattle.engine_pages.specs.declared.view.View.{View}
use Rattle.engine_pages.specs.declared.view.Way.{Way}
use Rattle.engine_pages.specs.Pages.{decl_of, is_tree}
use Rattle.engine_pages.specs.Pointers.{one_kind}
use Rattle.engine_pages.specs.Views.{seat_number}
use Rattle.foster_tree.specs.Locking.{with_touches}
use Rattle.tree_walks.specs.declared.ways.Leaf.{Leaf}
use Rattle.tree_making.specs.declared.making.Made.TheVariants as mades
use Rattle.tree_making.specs.Making.{make_steps, IsMade}
use Rattle.page_commit.specs.Calls.{IsFullOf, IsSlotConflict}
use Rattle.page_commit.specs.Live.{IsLive}
use Rattle.page_commit.specs.Needs.{AddsRecord}
use Rattle.page_commit.specs.Places.{ground, IsAnyKeyIn, IsTreeKeyIn}
use Rattle.page_commit.specs.Refusing.{HasRefused, IsHeaderConflict, IsPointerConflict}
use Rattle.page_commit.specs.Turning.{GoesOn, HoldsWaysTo, IsTwinOn, OnlyWalked, PartsStay}
use Rattle.page_commit.proofs.FoundLaws.{nothing_walked, read_entry}
use Rattle.page_commit.proofs.KnownOver.{pointers_before, ways_before}
use Rattle.page_commit.proofs.PlaceLaws.{key_array}
use Rattle.page_commit.proofs.PointerLaws.{has_pointer}
use Rattle.page_commit.proofs.RefuseLaws.{refused_since}
use Rattle.page_commit.proofs.TurnLaws.{walks_layout, walks_then}
use Rattle.page_commit.proofs.UnsplitLaws.{unsplit_at}
use Rattle.page_commit.proofs.WalkedLaws.{held_same}
use Rattle.tree_calls.specs.Keeping.{OnlyWaysOn}
use Rattle.tree_calls.proofs.SinceLaws.{head_since, hold_since, long_since, pointer_since}
use Rattle.tree_writes.specs.Causes.{write_most, IsGrowConflict, KeepsHeader, LocksLeaf, NeedsMore, RefusesTreeWrite}
use Rattle.tree_writes.specs.Causes.{TouchesTrees}
use Rattle.tree_writes.specs.Writing.{grow_most, GrowsSo, HasBrought, HasMade, HasMadeAt}
use Rattle.tree_writes.proofs.MadeLaws.{place_on, record_slot}
use Rattle.tree_writes.proofs.NamedLaws.{names_same, record_same, unnamed_since, whole_since}

-- no part says more than one did, where they are the same
goes_same : (old new : List Part) → new ≡ old → GoesOn old new
goes_same old new same part has = (
  part,
  subst (λ (l : List Part). Contains l part) same has,
  record { within = λ q over. over; same = λ q over. refl },
)

-- ---- the leaf has the record

pub made_record : (sets new : Sets) (v w : View) (k : Key) (at : ℕ) → HasMadeAt k (mades.Record at) sets new v w
    → HasBrought k at sets new v w
made_record sets new v w k at h =
    let m = h.makes in record {
      live = m.live;
      only = m.only;
      paths = m.paths;
      held = m.held;
      parts = goes_same v.seat.kept w.seat.kept m.kept;
      keeps = λ q value had. subst (λ (l : List Part). Vouched l q value) (sym m.kept) had;
      reads = inl m.reads;
      pointers = m.pointers;
      headers = λ s has. has_pointer sets.headers s (subst (λ (l : List Seen). Contains l s) m.headers has);
      heads = ap (λ (l : List Seen). length l) m.headers;
      writes = m.writes;
      locks = inl m.touched;
      place = place_on k (h.at).0 (h.at).1 at w m.live.trees (h.at).2 (h.at).3;
      whole = inr (inl (unsplit_at ((h.at).0).slot at w (record_slot (h.at).0 at k w (h.at).3) (h.at).4));
    }

-- ---- the transaction has read the record

pub read_record : (sets : Sets) (v : View) (k : Key) (e : ReadEntry) → IsLive sets v
    → is_tree v.layout.decls k.storage ≡ true → read_of k sets.reads ≡ Some e → HasBrought k e.at sets sets v v
read_record sets v k e live tree is = record {
  live = live;
  only = nothing_walked v;
  paths = λ x has. inl has;
  held = held_same k sets.holds sets.holds v refl;
  parts = goes_same v.seat.kept v.seat.kept refl;
  keeps = λ q value had. had;
  reads = inl refl;
  pointers = refl;
  headers = λ s has. has_pointer sets.headers s has;
  heads = refl;
  writes = refl;
  locks = inl refl;
  place = by_kind (subst (λ (q : Key). IsAnyKeyIn (ground v) q e.at) there.1 (live.parts.reads e there.0).2.place);
  whole = inl (any_in (λ (r : ReadEntry). r.at == e.at) sets.reads e there.0 (eq-eqb e.at e.at refl));
}
  where
    there : Contains sets.reads e × (e.key ≡ k)
    there = read_entry k sets.reads e is

    by_kind : IsAnyKeyIn (ground v) k e.at → IsTreeKeyIn (ground v) k e.at
    by_kind (inl a) = absurd (one_kind (decl_of v.layout.decls k.storage) (key_array (ground v) k e.at a) tree)
    by_kind (inr t) = t

-- ---- behind pages that were brought into memory

twin_later : (k : Key) (v w : View) (x : Way) → OnlyWalked v w → IsTwinOn k v x → IsTwinOn k w x
twin_later k v w x only t = record {
  moved = t.moved;
  knows = only.moved t.moved t.knows;
  way = t.way;
  has = only.ways t.way t.has;
  same = t.same;
  over = t.over;
  is = t.is;
}

pub brought_then : (sets mid new : Sets) (u v w : View) (k : Key) (at : ℕ) → HasMade k sets mid u v
    → HasBrought k at mid new v w → HasBrought k at sets new u w
brought_then sets mid new u v w k at m b = record {
  live = b.live;
  only = walks_then u v w m.only b.only;
  paths = paths_both;
  held = held_both;
  parts = subst (λ (l : List Part). GoesOn l w.seat.kept) m.kept b.parts;
  keeps = subst (λ (l : List Part). PartsStay l w.seat.kept) m.kept b.keeps;
  reads = elim b.reads [
    | inl same ↦ inl (same ∙ m.reads)
    | inr more ↦ inr (
      more.0,
      more.1,
      more.2,
      more.3 ∙ ap (λ (l : List ReadEntry). l ++ more.0 ∷ []) m.reads,
    )
  ];
  pointers = b.pointers ∙ m.pointers;
  headers = λ s has. subst (λ (l : List Seen). has_word s.at l ≡ true) m.headers (b.headers s has);
  heads = b.heads ∙ ap (λ (l : List Seen). length l) m.headers;
  writes = b.writes ∙ m.writes;
  locks = unnamed_since sets mid k u v w m.touched (ap (λ (y : View). y.role) m.only.is)
      (λ first none. sym (names_same first sets mid m.reads m.headers m.writes) ∙ none) b.locks;
  place = b.place;
  whole = whole_since sets mid new k at u v w m.touched (ap (λ (y : View). y.role) m.only.is)
      (λ first none. sym (names_same first sets mid m.reads m.headers m.writes) ∙ none) b.whole;
}
  where
    paths_both : OnlyWaysOn k u w
    paths_both x has = elim (b.paths x has) [
      | inl mid ↦ elim (m.paths x mid) [
        | inl old ↦ inl old
        | inr new ↦ inr (elim new [ inl over ↦ inl over | inr twin ↦ inr (twin_later k v w x b.only twin) ])
      ]
      | inr new ↦ inr new
    ]

    held_both : HoldsWaysTo k sets.holds new.holds w
    held_both t has none = by_test (has_slot mid.holds t) refl
      where
        by_test : (c : Bool) → has_slot mid.holds t ≡ c
            → (x : Way) × Contains w.ways x × (x.slot ≡ t) × (in_span x.span k ≡ true)
        by_test true is = let x = m.held t is none in (x.0, b.only.ways x.0 x.1, x.2, x.3)
        by_test false is = b.held t has is

-- ---- and a refusal behind them

module _ (sets mid new : Sets) (k : Key) (u v w : View) (m : HasMade k sets mid u v) where
  layout : v.layout ≡ u.layout
  layout = walks_layout u v m.only

  -- what is told of locks since
  taken_since : (keys : List Key) (n : ℕ) → w.touched ≡ with_touches v.touched (seat_number v.role) keys n
      → w.touched ≡ with_touches u.touched (seat_number u.role) keys n
  taken_since keys n taken =
      taken
      ∙ (ap (λ (l : List Touch). with_touches l (seat_number v.role) keys n) m.touched
      ∙ ap (λ (r : Role). with_touches u.touched (seat_number r) keys n) (ap (λ (y : View). y.role) m.only.is))

  locks_since : LocksLeaf k v w → LocksLeaf k u w
  locks_since (inl none) = inl (none ∙ m.touched)
  locks_since (inr h) = inr record {
    then = h.then;
    walked = walks_then u v h.then m.only h.walked;
    slot = h.slot;
    span = h.span;
    way = h.way;
    over = h.over;
    keys = h.keys;
    knows = h.knows;
    full = h.full;
    once = h.once;
    inside = h.inside;
    count = h.count;
    within = h.within;
    touched = taken_since h.keys h.count h.touched;
  }

  grow_since : (at expected seen : ℕ) → IsGrowConflict mid k at expected seen v w
      → IsGrowConflict sets k at expected seen u w
  grow_since at expected seen c = (
    c.0,
    walks_then u v c.0 m.only c.1,
    elim c.2 [
      | inl p ↦ inl (
        subst (λ (l : List Seen). IsPointerConflict l at expected seen u w) m.pointers
            (pointer_since mid.pointers at expected seen u v w m.only.since p.0),
        p.1,
        pointers_before k at u v m.only p.2,
      )
      | inr more ↦ inr (elim more [
        | inl h ↦ inl (
          subst (λ (l : List Seen). IsHeaderConflict l at expected seen u w) m.headers
              (head_since mid.headers at expected seen u v w m.only.since h.0),
          h.1,
          ways_before k at u v m.only h.2,
        )
        | inr l ↦ inr record {
          step = l.step;
          last = l.last;
          since = let low = l.since in let before = m.only.since in omega (arith, low, before);
          stands = l.stands;
          key = l.key;
          place = l.place;
          over = l.over;
          leaf = l.leaf;
          knows = l.knows;
          same = l.same;
          full = l.full;
          lacks = l.lacks;
          whole = elim l.whole [
            | inl unsplit ↦ inl unsplit
            | inr named ↦ inr (sym (record_same at sets mid m.reads m.writes) ∙ named)
          ];
          known = ways_before k at u v m.only l.known;
          cause = l.cause;
          locks = l.locks;
          count = l.count;
          within = l.within;
          touched = taken_since l.locks l.count l.touched;
          own = elim l.own [
            | inl apart ↦ inl apart
            | inr named ↦ inr (sym (record_same at sets mid m.reads m.writes) ∙ named)
          ];
        }
      ])
    ],
  )

  slot_since : (at expected seen : ℕ) → IsSlotConflict at expected seen v w → IsSlotConflict at expected seen u w
  slot_since at expected seen c = record {
    slot = c.slot;
    within = subst (λ (l : Layout). c.slot < l.slots) layout c.within;
    place = c.place;
    before = c.before;
    first = c.first;
    since = let low = c.since in let before = m.only.since in omega (arith, low, before);
    count = c.count;
    taken = c.taken;
    usable = c.usable;
    looked = c.looked;
    last = c.last;
    other = c.other;
  }

  full_since : (held : Option (ℕ × ℕ)) → IsFullOf held v w → IsFullOf held u w
  full_since held c = record {
    words = c.words;
    count = c.count ∙ ap (λ (l : Layout). l.slots) layout;
    taken = c.taken;
    held = c.held;
    step = c.step;
    since = let low = c.since in let before = m.only.since in omega (arith, low, before);
    looked = c.looked;
  }

  touches_since : TouchesTrees v w → TouchesTrees u w
  touches_since touches t has = elim (touches t has) [
    | inl old ↦ m.only.touches t old
    | inr own ↦ inr (
      subst (λ (r : Role). t.seat ≡ seat_number r) (ap (λ (y : View). y.role) m.only.is) own.0,
      subst (λ (l : Layout). is_tree l.decls t.key.storage ≡ true) layout own.1,
    )
  ]

  header_since : KeepsHeader k mid v w → KeepsHeader k sets u w
  header_since h = record {
    then = h.then;
    walked = walks_then u v h.then m.only h.walked;
    met = h.met;
    adds = subst (λ (l : List Seen). AddsRecord k l h.then) m.headers h.adds;
  }

  more_since : NeedsMore k new.holds v w → NeedsMore k new.holds u w
  more_since n = elim n [
    | inl there ↦ inl (hold_since k new.holds u v w m.only there)
    | inr made ↦ inr record {
      then = made.then;
      walked = walks_then u v made.then m.only made.walked;
      met = made.met;
      makes = made.makes;
    }
  ]

  unwritten_since : has_write k mid.writes ≡ false → has_write k sets.writes ≡ false
  unwritten_since none = subst (λ (l : List Write). has_write k l ≡ false) m.writes none

  room_since : length mid.writes < 16 → length sets.writes < 16
  room_since room = subst (λ (l : List Write). length l < 16) m.writes room

  draws_since : w.draws ≡ v.draws → w.draws ≡ u.draws
  draws_since same = same ∙ ap (λ (y : View). y.draws) m.only.is

  blamed_since : w.blamed ≡ v.blamed → w.blamed ≡ u.blamed
  blamed_since same = same ∙ ap (λ (y : View). y.blamed) m.only.is

  pub write_since : (why : RefusalCause) → RefusesTreeWrite mid new k why v w → RefusesTreeWrite sets new k why u w
  write_since (refusals.Conflict at expected seen) r = (
    unwritten_since r.0,
    room_since r.1,
    draws_since r.2,
    elim r.3 [ inl c ↦ inl (grow_since at expected seen c) | inr c ↦ inr (slot_since at expected seen c) ],
    blamed_since r.4,
    touches_since r.5,
    locks_since r.6,
  )
  write_since (refusals.Full held) r = (
    unwritten_since r.0,
    room_since r.1,
    draws_since r.2,
    full_since held r.3,
    blamed_since r.4,
    touches_since r.5,
    locks_since r.6,
  )
  write_since (refusals.Wide set) r = (
    unwritten_since r.0,
    draws_since r.1,
    elim r.2 [
      | inl full ↦ inl (full.0, subst (λ (l : List Write). length l ≡ 16) m.writes full.1)
      | inr more ↦ inr (
        room_since more.0,
        elim more.1 [
          | inl holds ↦ inl (
            holds.0,
            elim holds.1 [
              | inl full ↦ inl (full.0, more_since full.1)
              | inr long ↦ inr (long_since k u v m.only long)
            ],
          )
          | inr reads ↦ inr (
            reads.0,
            subst (λ (l : List Seen). 256 ≤ length sets.reads + length l) m.headers
                (subst (λ (l : List ReadEntry). 256 ≤ length l + length mid.headers) m.reads reads.1),
            header_since reads.2,
          )
        ],
      )
    ],
    blamed_since r.3,
    r.4 ∙ m.touched,
  )
  write_since (refusals.NumberLimit clock) r = absurd r

-- ---- as they are handed on

pub on_ok : {P : Type 0} (r : Result ℕ RefusalCause) → P → OnOk r P
on_ok (Ok at) p = p
on_ok (Err why) p = tt

-- a key that wasn't read
pub unread_again : (k : Key) (old new : List ReadEntry) (r : Result ℕ RefusalCause) → has_read k old ≡ false
    → OnOk r (has_read k old ≡ true → new ≡ old)
unread_again k old new r none = on_ok r (λ has. absurd (true≢false (sym has ∙ none)))

-- the leaf lacks the key, by the headers that are kept
pub lacking_now : (sets new : Sets) (v w : View) (k : Key) (x : Leaf) → HasMadeAt k (mades.Lacking x) sets new v w
    → IsMade k new.headers (mades.Lacking x) w
lacking_now sets new v w k x h =
    subst (λ (l : List Seen). IsMade k l (mades.Lacking x) w) (sym h.makes.headers) h.at

pub brought_for : (r : Result ℕ RefusalCause) (sets mid new : Sets) (k : Key) (u v w : View) → HasMade k sets mid u v
    → GrowsSo k mid new r v w → IfOk r (λ at. HasBrought k at sets new u w)
brought_for (Ok at) sets mid new k u v w m g = brought_then sets mid new u v w k at m g.came
brought_for (Err why) sets mid new k u v w m g = tt

pub cause_for : (r : Result ℕ RefusalCause) (sets mid new : Sets) (k : Key) (u v w : View) → HasMade k sets mid u v
    → GrowsSo k mid new r v w → IfErr r (λ why. RefusesTreeWrite sets new k why u w)
cause_for (Ok at) sets mid new k u v w m g = tt
cause_for (Err why) sets mid new k u v w m g = write_since sets mid new k u v w m why g.cause

pub refused_for : (r : Result ℕ RefusalCause) (sets mid new : Sets) (k : Key) (u v w : View) → HasMade k sets mid u v
    → GrowsSo k mid new r v w → IfErr r (λ why. HasRefused why u w)
refused_for (Ok at) sets mid new k u v w m g = tt
refused_for (Err why) sets mid new k u v w m g = refused_since why u v w m.only g.refused

pub steps_for : (r : Result ℕ RefusalCause) (sets mid new : Sets) (k : Key) (u v w : View) → HasMade k sets mid u v
    → v.steps ≤ u.steps + make_steps u.layout.slots → GrowsSo k mid new r v w
    → w.steps ≤ u.steps + write_most u.layout.slots
steps_for r sets mid new k u v w m most g =
    let more : w.steps ≤ v.steps + grow_most u.layout.slots =
    subst (λ (l : Layout). w.steps ≤ v.steps + grow_most l.slots) (walks_layout u v m.only) g.most in
    omega (arith, most, more)
