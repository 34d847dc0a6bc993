-- What an operation is refused for: it is due, and is told with its whole cause.
use Rattle.std.proofs.Common.{◌≡◌, ◌≢◌, ◌⊎◌, inl, inr, ℕ, suc, ◌+◌, ◌-◌, ◌/◌, ◌<◌, ◌≤◌, ◌^◌, Bool, true, false, true≢false}
use Rattle.std.proofs.Common.{cond, List, [], ◌∷◌, ◌++◌}
use Rattle.std.proofs.Common.{length, length-append, refl, sym, ap, ◌∙◌, subst, arith, Option, Some, None}
use Rattle.std.proofs.lemmas.List.{append-nil}
use Rattle.std.specs.Prelude.{Contains, unwrap_or, ◌==◌}
use Rattle.std.specs.List.{find}
use Rattle.std.specs.Option.{option_map}
use Rattle.std.proofs.lemmas.Bool.{eqb-true}
use Rattle.lists.specs.Elements.{in_head, in_tail}
use Rattle.serial_model.specs.declared.key.Key.{Key}
use Rattle.drop_core.specs.Table.{has_slot}
use Rattle.tx_sets.specs.declared.seen.Seen.{Seen}
use Rattle.tx_sets.specs.declared.sets.Sets.{Sets}
use Rattle.tx_sets.specs.Entries.{has_read, has_write, word_at}
use Rattle.engine_pages.specs.declared.layout.Layout.{Layout}
use Rattle.engine_pages.specs.declared.view.Read.{Read}
use Rattle.engine_pages.specs.declared.view.RefusalCause.{RefusalCause}
use Rattle.engine_pages.specs.declared.view.RefusalCause.TheVariants as refusals
use Rattle.engine_pages.specs.declared.view.SetName.{SetName}
use Rattle.engine_pages.specs.declared.view.SetName.TheVariants.{Holds, Pointers, Reads, Writes}
use Rattle.engine_pages.specs.declared.view.Took.{Took}
use Rattle.engine_pages.specs.declared.view.Touch.{Touch}
use Rattle.engine_pages.specs.declared.view.View.{View}
use Rattle.engine_pages.specs.Steps.{glance, glanced, kept_at, seen_at}
use Rattle.engine_pages.specs.Touches.{has_took}
use Rattle.page_pool.specs.Pool.{IsChanged}
use Rattle.page_records.specs.Ends.{is_left, IsDue}
use Rattle.array_pages.specs.Finding.{IsFoundIn, IsRecordChanged, RefusesFind}
use Rattle.array_pages.specs.Making.{IsMadeWide, NoneUsable, RefusesMake}
use Rattle.array_pages.specs.Walks.{HasWalked, IsPointerChanged, IsWayPlace, IsWide}
use Rattle.tx_sets.specs.Gathered.{has_read_room}
use Rattle.page_commit.specs.Places.{IsKeyAt}
use Rattle.page_commit.specs.Live.{read_word, IsLive}
use Rattle.page_commit.specs.Refusing.{IsConflictAt, IsPointerConflict, TellsOnly}
use Rattle.page_commit.specs.Calls.{IsFullOf, IsInMemory, IsSlotConflict, IsWordIn, NeedsHold, NeedsPointer}
use Rattle.page_commit.specs.Calls.{RefusesRead, RefusesWrite}
use Rattle.page_commit.specs.Steps.{HasGivenUp, TellsOf}
use Rattle.page_commit.proofs.CheckLaws.{number_small}
use Rattle.page_commit.proofs.CommitLaws.{kept_others, last_same, told_key, told_none, touched_same}
use Rattle.page_commit.proofs.GiveUpLaws.{none_left}
use Rattle.page_commit.proofs.GrowLaws.{branch_apart, branch_grown, key_here, knows_more, met_before, no_entry, none_read, pointer_here}
use Rattle.page_commit.proofs.KeepLaws.{in_pointers}
use Rattle.page_commit.proofs.WalkedLaws.{set_points}
use Rattle.engine_pages.specs.Pointers.{WaysAgree, any_pointer}
use Rattle.serial_model.specs.Decls.{AreDecls}

-- a live transaction has walked
pub record Walked (sets : Sets) (v w : View) : Type 0 where
  pub live : IsLive sets v
  pub walk : HasWalked v w
  pub agree : WaysAgree w.ways
  pub decls : AreDecls w.layout.decls

gone_none : (sets : Sets) (v w : View) → Walked sets v w → w.gone ≡ []
gone_none sets v w h = ap (λ (y : View). y.gone) h.walk.is ∙ h.live.gone

-- ---- a pointer

-- what was expected there was seen before, or is kept as a part
pub pointer_known : (sets : Sets) (k : Key) (at expected seen : ℕ) (v w : View) → Walked sets v w
    → (p : IsPointerChanged k sets.pointers at expected seen v w)
    → (expected ≡ unwrap_or p.was seen) ⊎ (p.saw.kept ≡ Some expected)
pointer_known sets k at expected seen v w h p = by_known p.known
  where
    by_before : kept_at v.reads at ≡ Some expected → (p.was ≡ Some expected) ⊎ (p.saw.kept ≡ kept_at v.reads at)
        → (expected ≡ unwrap_or p.was seen) ⊎ (p.saw.kept ≡ Some expected)
    by_before kept (inl was) = inl (sym (ap (λ (o : Option ℕ). unwrap_or o seen) was))
    by_before kept (inr same) = inr (same ∙ kept)

    by_known : (word_at at sets.pointers ≡ Some expected) ⊎ ((word_at at sets.pointers ≡ None) × (p.was ≡ Some expected))
        → (expected ≡ unwrap_or p.was seen) ⊎ (p.saw.kept ≡ Some expected)
    by_known (inl word) =
        let q : Seen = record { at = at; word = expected } in
        let has : Contains sets.pointers q = in_pointers sets.pointers q word in
        by_before (h.live.kept q has) (elim (set_points sets v q h.live has) [
          | inl here ↦ p.before here word (h.live.points q has)
          | inr b ↦
              absurd (branch_apart w b.0 at h.agree h.decls (branch_grown v w b.0 at (knows_more v w h.walk) b.1)
              (record { place = p.place.place; span = p.place.span; is = p.place.is }))
        ])
    by_known (inr was) = inl (sym (ap (λ (o : Option ℕ). unwrap_or o seen) was.1))

pub pointer_due : (sets : Sets) (k : Key) (at expected seen : ℕ) (v w : View) → Walked sets v w
    → IsPointerChanged k sets.pointers at expected seen v w → IsDue (Some (refusals.Conflict at expected seen)) w
pointer_due sets k at expected seen v w h p =
    inr (inl (
      p.place.place,
      p.place.span,
      record {
        place = any_pointer w p.place.place p.place.span at p.place.is;
        here = ap (λ l. is_left l p.place.place) (gone_none sets v w h) ∙ none_left p.place.place;
        step = p.saw.step;
        last = p.saw.last;
        was = p.was;
        kept = p.saw.kept;
        stands = p.saw.stands;
        known = pointer_known sets k at expected seen v w h p;
        cause = p.cause;
      },
    ))

-- ---- a record

-- of a key that wasn't read nothing was seen, and no entry is of its word
pub nothing_seen : (sets : Sets) (k : Key) (at : ℕ) (v w : View) → Walked sets v w → has_read k sets.reads ≡ false
    → IsKeyAt w k at → (seen_at v.reads at ≡ None) × (read_word at sets.reads ≡ None)
nothing_seen sets k at v w h none place =
    let more = knows_more v w h.walk in
    let empty : read_word at sets.reads ≡ None =
    none_read sets.reads at (no_entry sets v w k at h.live more h.agree place none) in
    (met_before sets v w k at h.live more h.agree place ∙ empty, empty)

record_known : (sets : Sets) (k : Key) (at expected seen : ℕ) (v w : View) → Walked sets v w
    → has_read k sets.reads ≡ false → (r : IsRecordChanged k at expected seen v w) → expected ≡ unwrap_or r.was seen
record_known sets k at expected seen v w h none r = elim r.cause [
  | inl locked ↦ locked.same
      ∙ sym (ap (λ (o : Option ℕ). unwrap_or o seen)
      (locked.before ∙ (nothing_seen sets k at v w h none (key_here w k r.spot at r.place)).0))
  | inr changed ↦ sym (ap (λ (o : Option ℕ). unwrap_or o seen) changed.first)
]

record_cause : (k : Key) (at expected seen : ℕ) (v w : View) → IsRecordChanged k at expected seen v w
    → (2 ^ 60 ≤ seen) ⊎ ((expected < 2 ^ 60) × (seen ≢ expected))
record_cause k at expected seen v w r = elim r.cause [
  | inl locked ↦ inl locked.locked
  | inr changed ↦ inr (changed.open_before, changed.other)
]

pub record_due : (sets : Sets) (k : Key) (at expected seen : ℕ) (v w : View) → Walked sets v w
    → has_read k sets.reads ≡ false → IsRecordChanged k at expected seen v w
    → IsDue (Some (refusals.Conflict at expected seen)) w
record_due sets k at expected seen v w h none r =
    inl (
      k,
      r.spot,
      record {
        place = r.place;
        free = ap (λ (l : List Took). has_took l k r.spot)
            (ap (λ (y : View). y.took) h.walk.is ∙ h.live.took);
        here = ap (λ l. has_slot l r.spot.slot) (gone_none sets v w h);
        step = r.saw.step;
        last = r.saw.last;
        was = r.was;
        kept = r.saw.kept;
        stands = r.saw.stands;
        known = record_known sets k at expected seen v w h none r;
        cause = record_cause k at expected seen v w r;
      },
    )

-- ---- a slot, or all slots

slot_last : (before : List ℕ) (at expected seen : ℕ) (u y w : View) → y.steps ≡ u.steps + length (before ++ expected ∷ [])
    → w ≡ glanced at seen y → w.last ≡ Some (glance (u.steps + suc (length before)) at seen)
slot_last before at expected seen u y w steps is =
    let long = length-append before (expected ∷ []) in
    let count : y.steps ≡ u.steps + suc (length before) = omega (arith, steps, long) in
    ap (λ (z : View). z.last) is ∙ ap (λ (n : ℕ). Some (glance n at seen)) count

pub slot_due : (at expected seen : ℕ) (u w : View) → IsChanged at expected seen u w
    → IsDue (Some (refusals.Conflict at expected seen)) w
slot_due at expected seen u w c =
    let y : View = c.seen in
    let f = c.first in
    let layout : w.layout ≡ u.layout = ap (λ (z : View). z.layout) c.only ∙ ap (λ (z : View). z.layout) f.seen.only in
    inr (inr (inl (
      c.slot,
      record {
        place = c.place;
        within = subst (λ (l : Layout). c.slot < l.slots) (sym layout) f.there;
        before = f.before;
        first = u.steps;
        count = f.count;
        taken = f.taken;
        usable = f.usable;
        looked = ap (λ (z : View). z.looked) c.only ∙ f.seen.looked;
        last = slot_last f.before at expected seen u y w f.seen.steps c.only;
        other = c.other;
      },
    )))

pub full_due : (k : Key) (held : Option (ℕ × ℕ)) (v w : View) → NoneUsable held k v w → IsDue (Some (refusals.Full held)) w
full_due k held v w n =
    let f = n.full in record {
      words = f.words;
      step = n.before.steps;
      count = f.count ∙ ap (λ (l : Layout). l.slots) (sym (ap (λ (z : View). z.layout) f.seen.only));
      taken = f.taken;
      held = f.held;
      looked = f.seen.looked;
      earlier = n.before.last;
      last = f.seen.last;
    }

-- ---- both walks

pub find_due : (why : RefusalCause) (sets : Sets) (slots : List ℕ) (k : Key) (v w : View) → Walked sets v w
    → has_read k sets.reads ≡ false → RefusesFind k sets.pointers slots why v w → IsDue (Some why) w
find_due (refusals.Conflict at expected seen) sets slots k v w h none (inl p) =
    pointer_due sets k at expected seen v w h p
find_due (refusals.Conflict at expected seen) sets slots k v w h none (inr r) =
    record_due sets k at expected seen v w h none r
find_due (refusals.Full held) sets slots k v w h none r = absurd r
find_due (refusals.Wide set) sets slots k v w h none r = tt
find_due (refusals.NumberLimit clock) sets slots k v w h none r = absurd r

pub make_due : (why : RefusalCause) (sets : Sets) (slots : List ℕ) (k : Key) (v w : View) → Walked sets v w
    → RefusesMake k sets.pointers slots why v w → IsDue (Some why) w
make_due (refusals.Conflict at expected seen) sets slots k v w h (inl p) = pointer_due sets k at expected seen v w h p
make_due (refusals.Conflict at expected seen) sets slots k v w h (inr c) = slot_due at expected seen c.0 w c.2
make_due (refusals.Full held) sets slots k v w h r = full_due k held v w r
make_due (refusals.Wide set) sets slots k v w h r = tt
make_due (refusals.NumberLimit clock) sets slots k v w h r = absurd r

-- ---- which key is told

pub find_told : (why : RefusalCause) (sets : Sets) (slots : List ℕ) (k : Key) (v w : View) (met : List Touch)
    → Walked sets v w → RefusesFind k sets.pointers slots why v w → TellsOf why met w → TellsOnly why met
find_told (refusals.Conflict at expected seen) sets slots k v w met h (inl p) t =
    let is = ap (λ (l : List Touch). length l) (t.1 p.place.span (pointer_here w p.place.place p.place.span at h.decls p.place.is))
    in omega (arith, is)
find_told (refusals.Conflict at expected seen) sets slots k v w met h (inr r) t =
    let is = ap (λ (l : List Touch). length l) (t.0 k (key_here w k r.spot at r.place)) in omega (arith, is)
find_told (refusals.Full held) sets slots k v w met h r t = t
find_told (refusals.Wide set) sets slots k v w met h r t = t
find_told (refusals.NumberLimit clock) sets slots k v w met h r t = t

pub make_told : (why : RefusalCause) (sets : Sets) (slots : List ℕ) (k : Key) (v w : View) (met : List Touch)
    → Walked sets v w → RefusesMake k sets.pointers slots why v w → TellsOf why met w → TellsOnly why met
make_told (refusals.Conflict at expected seen) sets slots k v w met h (inl p) t =
    let is = ap (λ (l : List Touch). length l) (t.1 p.place.span (pointer_here w p.place.place p.place.span at h.decls p.place.is))
    in omega (arith, is)
make_told (refusals.Conflict at expected seen) sets slots k v w met h (inr c) t =
    let is = ap (λ (l : List Touch). length l) (t.2 c.2.slot (slot_there at expected seen c.0 w c.2) c.2.place) in
    omega (arith, is)
  where
    slot_there : (at expected seen : ℕ) (u w : View) → (c : IsChanged at expected seen u w) → c.slot < w.layout.slots
    slot_there at expected seen u w c =
        subst (λ (l : Layout). c.slot < l.slots)
        (sym (ap (λ (z : View). z.layout) c.only ∙ ap (λ (z : View). z.layout) c.first.seen.only)) c.first.there
make_told (refusals.Full held) sets slots k v w met h r t = t
make_told (refusals.Wide set) sets slots k v w met h r t = t
make_told (refusals.NumberLimit clock) sets slots k v w met h r t = t

-- ---- the cause, behind the end

-- what is as it was behind a walk and the end
module _ (why : RefusalCause) (sets : Sets) (v w x : View) (h : Walked sets v w) (g : HasGivenUp [] why w x) where
  pub draws_same : x.draws ≡ v.draws
  draws_same =
      ap (λ (y : View). y.draws) g.left.is
      ∙ (ap (λ (y : View). y.draws) g.forgot ∙ ap (λ (y : View). y.draws) h.walk.is)

  pub touches_same : x.touched ≡ v.touched
  touches_same = touched_same [] why w x g ∙ ap (λ (y : View). y.touched) h.walk.is

  pub looked_same : x.looked ≡ w.looked
  looked_same = ap (λ (y : View). y.looked) g.left.is ∙ ap (λ (y : View). y.looked) g.forgot

  blamed_walk : w.blamed ≡ v.blamed
  blamed_walk = ap (λ (y : View). y.blamed) h.walk.is

  layout_walk : w.layout ≡ v.layout
  layout_walk = ap (λ (y : View). y.layout) h.walk.is

  pub slots_same : w.layout.slots ≡ v.layout.slots
  slots_same = ap (λ (y : View). y.layout.slots) h.walk.is

  pub layout_same : x.layout ≡ w.layout
  layout_same = ap (λ (y : View). y.layout) g.left.is ∙ ap (λ (y : View). y.layout) g.forgot

  pub pointer_cause : (k : Key) (at expected seen : ℕ) → why ≡ refusals.Conflict at expected seen
      → IsPointerChanged k sets.pointers at expected seen v w
      → IsPointerConflict sets.pointers at expected seen v x × (x.blamed ≡ v.blamed) × IsWayPlace v.layout k at
  pointer_cause k at expected seen same p = (
    record {
      step = p.saw.step;
      last = last_same [] why w x g ∙ p.saw.last;
      since = p.saw.since;
      was = p.was;
      kept = p.saw.kept;
      stands = kept_others [] why w x g (record { word = at; seen = seen; was = p.was; kept = p.saw.kept }) p.saw.stands refl;
      known = p.known;
      cause = p.cause;
    },
    told_none [] why p.place.span at expected seen v w x blamed_walk same
        (pointer_here w p.place.place p.place.span at h.decls p.place.is) g,
    subst (λ (l : Layout). IsWayPlace l k at) layout_walk p.place.on,
  )

  pub record_conflict : (k : Key) (at expected seen : ℕ) → why ≡ refusals.Conflict at expected seen
      → has_read k sets.reads ≡ false → IsRecordChanged k at expected seen v w
      → IsConflictAt sets.reads k at expected seen v x × IsWordIn v.layout.slots k at
  record_conflict k at expected seen same none r = (
    record {
      conflict = record {
        step = r.saw.step;
        last = last_same [] why w x g ∙ r.saw.last;
        since = r.saw.since;
        was = r.was;
        kept = r.saw.kept;
        stands = kept_others [] why w x g (record { word = at; seen = seen; was = r.was; kept = r.saw.kept }) r.saw.stands
            refl;
        read = λ n is. absurd (none_some n (sym empty ∙ is));
        known = record_known sets k at expected seen v w h none r;
        cause = record_cause k at expected seen v w r;
      };
      blamed = told_key [] why k at expected seen v w x (ap (λ (y : View). y.role) h.walk.is) blamed_walk same
          (key_here w k r.spot at r.place) g;
    },
    subst (λ n. IsWordIn n k at) slots_same
        record { spot = r.spot; within = r.place.there; index = r.index; word = r.place.word },
  )
    where
      empty : read_word at sets.reads ≡ None
      empty = (nothing_seen sets k at v w h none (key_here w k r.spot at r.place)).1

      none_some : (n : ℕ) → None ≡ Some n → ⊥
      none_some n e = absurd cc

  pub slot_cause : (at expected seen : ℕ) (u : View) → why ≡ refusals.Conflict at expected seen → HasWalked v u
      → IsChanged at expected seen u w → IsSlotConflict at expected seen v x × (x.blamed ≡ v.blamed)
  slot_cause at expected seen u same walk c = (
    record {
      slot = c.slot;
      within = subst (λ (l : Layout). c.slot < l.slots) (ap (λ (z : View). z.layout) walk.is) c.first.there;
      place = c.place;
      before = c.first.before;
      first = u.steps;
      since = walk.since;
      count = c.first.count;
      taken = c.first.taken;
      usable = c.first.usable;
      looked = looked_same ∙ (ap (λ (z : View). z.looked) c.only ∙ c.first.seen.looked);
      last = last_same [] why w x g
          ∙ slot_last c.first.before at expected seen u c.seen w c.first.seen.steps c.only;
      other = c.other;
    },
    blamed,
  )
    where
      there : c.slot < w.layout.slots
      there =
          subst (λ (l : Layout). c.slot < l.slots)
          (sym (ap (λ (z : View). z.layout) c.only ∙ ap (λ (z : View). z.layout) c.first.seen.only)) c.first.there

      blamed : x.blamed ≡ v.blamed
      blamed =
          let tells : TellsOf (refusals.Conflict at expected seen) g.met w =
          subst (λ (r : RefusalCause). TellsOf r g.met w) same g.of in
          ap (λ (y : View). y.blamed) g.left.is
          ∙ (ap (λ (y : View). y.blamed) g.forgot
          ∙ (ap (λ l. l ++ g.met) blamed_walk
          ∙ (ap (λ l. v.blamed ++ l) (tells.2 c.slot there c.place) ∙ append-nil v.blamed)))

  pub full_cause : (k : Key) (held : Option (ℕ × ℕ)) → NoneUsable held k v w → IsFullOf held v x
  full_cause k held n = record {
    words = n.full.words;
    count = n.full.count ∙ ap (λ (z : View). z.layout.slots) n.walked.is;
    taken = n.full.taken;
    held = n.full.held;
    step = n.before.steps;
    since = n.walked.since;
    looked = looked_same ∙ n.full.seen.looked;
  }

-- a word that was met is in the list
pub seen_in : (reads : List Read) (at n : ℕ) → seen_at reads at ≡ Some n
    → (r : Read) × Contains reads r × (r.word ≡ at) × (r.seen ≡ n)
seen_in [] at n is = absurd cc
seen_in (f ∷ reads) at n is = by_test (f.word == at) refl is (seen_in reads at n)
  where
    some_is : (a c : ℕ) → Some a ≡ Some c → a ≡ c
    some_is a c same = cc

    by_test : (b : Bool) → (f.word == at) ≡ b → seen_at (f ∷ reads) at ≡ Some n
        → (seen_at reads at ≡ Some n → (r : Read) × Contains reads r × (r.word ≡ at) × (r.seen ≡ n))
        → (r : Read) × Contains (f ∷ reads) r × (r.word ≡ at) × (r.seen ≡ n)
    by_test true hit is rest = (
      f,
      in_head f reads,
      eqb-true f.word at hit,
      some_is f.seen n (sym (ap (λ b. option_map (λ (r : Read). r.seen)
          (cond b (Some f) (find (λ (r : Read). r.word == at) reads))) hit) ∙ is),
    )
    by_test false miss is rest =
        let later = rest (sym (ap (λ b. option_map (λ (r : Read). r.seen)
        (cond b (Some f) (find (λ (r : Read). r.word == at) reads))) miss) ∙ is) in
        (later.0, in_tail later.0 f reads later.1, later.2, later.3)

-- ---- the cause of a read

-- the layout stays behind the end
pub given_layout : (why : RefusalCause) (w x : View) → HasGivenUp [] why w x → x.layout ≡ w.layout
given_layout why w x g = ap (λ (y : View). y.layout) g.left.is ∙ ap (λ (y : View). y.layout) g.forgot

-- and so does where a pointer on the way stands
place_given : (why : RefusalCause) (k : Key) (at word : ℕ) (w x : View) → HasGivenUp [] why w x → word ≡ at
    → IsWayPlace w.layout k at → IsWayPlace x.layout k word
place_given why k at word w x g same on =
    subst (λ (n : ℕ). IsWayPlace x.layout k n) (sym same)
    (subst (λ (l : Layout). IsWayPlace l k at) (sym (given_layout why w x g)) on)

needs_hold : (k : Key) (slots : List ℕ) (makes : Bool) (why : RefusalCause) (at word : ℕ) (w x : View)
    → HasGivenUp [] why w x → IsWayPlace w.layout k at → seen_at w.reads at ≡ Some word → word < 2 ^ 60
    → (makes ≡ false → 2 ^ 32 ≤ word) → (2 ^ 32 ≤ word → has_slot slots (word / 2 ^ 32 - 1) ≡ false)
    → NeedsHold k slots makes x
needs_hold k slots makes why at word w x g on saw unshut leads unheld =
    let r = seen_in w.reads at word saw in record {
      read = r.0;
      met = kept_others [] why w x g r.0 r.1 refl;
      on = place_given why k at r.0.word w x g r.2 on;
      unshut = subst (λ (n : ℕ). n < 2 ^ 60) (sym r.3) unshut;
      leads = λ no. subst (λ (n : ℕ). 2 ^ 32 ≤ n) (sym r.3) (leads no);
      unheld = subst (λ (n : ℕ). 2 ^ 32 ≤ n → has_slot slots (n / 2 ^ 32 - 1) ≡ false) (sym r.3) unheld;
    }

find_wide : (set : SetName) (sets new : Sets) (k : Key) (v w x : View) → HasGivenUp [] (refusals.Wide set) w x
    → IsWide k sets.pointers new.holds set v w
    → ((set ≡ Reads) × (has_read_room sets ≡ false) × IsInMemory k x)
    ⊎ (((set ≡ Holds) × (length new.holds ≡ 128) × NeedsHold k new.holds false x)
    ⊎ ((set ≡ Pointers) × (length sets.pointers ≡ 128) × NeedsPointer k sets.pointers x))
find_wide Reads sets new k v w x g h = absurd h
find_wide Writes sets new k v w x g h = absurd h
find_wide Pointers sets new k v w x g h =
    let n = h.1 in
    let r = seen_in w.reads n.at n.word n.saw in
    inr (inr (
      refl,
      h.0,
      record {
        read = r.0;
        met = kept_others [] (refusals.Wide Pointers) w x g r.0 r.1 refl;
        on = place_given (refusals.Wide Pointers) k n.at r.0.word w x g r.2 n.on.on;
        bare = subst (λ (i : ℕ). i < 2 ^ 32) (sym r.3) n.bare;
        absent = ap (λ (i : ℕ). word_at i sets.pointers) r.2 ∙ n.absent;
      },
    ))
find_wide Holds sets new k v w x g h =
    let n = h.1 in
    inr (inl (
      refl,
      h.0,
      needs_hold k new.holds false (refusals.Wide Holds) n.at n.word w x g n.on.on n.saw n.unshut (λ no. n.led)
          (λ led. n.unheld),
    ))

pub find_cause : (why : RefusalCause) (sets new : Sets) (k : Key) (v w x : View) → Walked sets v w
    → has_read k sets.reads ≡ false → has_write k sets.writes ≡ false
    → RefusesFind k sets.pointers new.holds why v w → HasGivenUp [] why w x → RefusesRead sets new k why v x
find_cause (refusals.Conflict at expected seen) sets new k v w x h none unwritten r g =
    let why : RefusalCause = refusals.Conflict at expected seen in (
      none,
      unwritten,
      draws_same why sets v w x h g,
      elim r [
        | inl p ↦ inr (pointer_cause why sets v w x h g k at expected seen refl p)
        | inr c ↦ inl (record_conflict why sets v w x h g k at expected seen refl none c)
      ],
      touches_same why sets v w x h g,
    )
find_cause (refusals.Full held) sets new k v w x h none unwritten r g = absurd r
find_cause (refusals.Wide set) sets new k v w x h none unwritten r g = (
  none,
  unwritten,
  draws_same (refusals.Wide set) sets v w x h g,
  find_wide set sets new k v w x g r,
  touches_same (refusals.Wide set) sets v w x h g,
)
find_cause (refusals.NumberLimit clock) sets new k v w x h none unwritten r g = absurd r

-- the record was found in a page in memory, and there was no room for its entry
pub entry_cause : (sets new : Sets) (k : Key) (at word value : ℕ) (v w x : View) → Walked sets v w
    → has_read k sets.reads ≡ false → has_write k sets.writes ≡ false → IsFoundIn k at word value v w
    → has_read_room sets ≡ false → HasGivenUp [] (refusals.Wide Reads) w x
    → RefusesRead sets new k (refusals.Wide Reads) v x
entry_cause sets new k at word value v w x h none unwritten f full g =
    let why : RefusalCause = refusals.Wide Reads in
    let r = seen_in w.reads at word f.met in (
      none,
      unwritten,
      draws_same why sets v w x h g,
      inl (
        refl,
        full,
        record {
          read = r.0;
          met = kept_others [] why w x g r.0 r.1 refl;
          place = subst (λ (i : ℕ). IsWordIn x.layout.slots k i) (sym r.2)
              (subst (λ (l : Layout). IsWordIn l.slots k at) (sym (layout_same why sets v w x h g))
              record { spot = f.spot; within = f.place.there; index = f.index; word = f.place.word });
          small = subst (λ (n : ℕ). n < 2 ^ 60) (sym r.3) (number_small f.content word f.shown);
        },
      ),
      touches_same why sets v w x h g,
    )

-- ---- the cause of a write

make_wide : (set : SetName) (sets new : Sets) (k : Key) (v w x : View) → length sets.writes < 16
    → HasGivenUp [] (refusals.Wide set) w x → IsMadeWide k new.holds set v w
    → ((set ≡ Writes) × (length sets.writes ≡ 16))
    ⊎ ((length sets.writes < 16) × (set ≡ Holds) × (length new.holds ≡ 128) × NeedsHold k new.holds true x)
make_wide Reads sets new k v w x room g h = absurd h
make_wide Writes sets new k v w x room g h = absurd h
make_wide Pointers sets new k v w x room g h = absurd h
make_wide Holds sets new k v w x room g h =
    let n = h.1 in
    inr (
      room,
      refl,
      h.0,
      needs_hold k new.holds true (refusals.Wide Holds) n.at n.word w x g n.on.on n.saw n.unshut
          (λ no. absurd (true≢false no)) n.unheld,
    )

pub make_cause : (why : RefusalCause) (sets new : Sets) (k : Key) (v w x : View) → Walked sets v w
    → length sets.writes < 16 → has_write k sets.writes ≡ false → RefusesMake k sets.pointers new.holds why v w
    → HasGivenUp [] why w x → RefusesWrite sets new k why v x
make_cause (refusals.Conflict at expected seen) sets new k v w x h room unwritten (inl p) g =
    let why : RefusalCause = refusals.Conflict at expected seen in
    let c = pointer_cause why sets v w x h g k at expected seen refl p in
    (room, unwritten, draws_same why sets v w x h g, inl (c.0, c.2), c.1, touches_same why sets v w x h g)
make_cause (refusals.Conflict at expected seen) sets new k v w x h room unwritten (inr s) g =
    let why : RefusalCause = refusals.Conflict at expected seen in
    let c = slot_cause why sets v w x h g at expected seen s.0 refl s.1 s.2 in
    (room, unwritten, draws_same why sets v w x h g, inr c.0, c.1, touches_same why sets v w x h g)
make_cause (refusals.Full held) sets new k v w x h room unwritten r g =
    let why : RefusalCause = refusals.Full held in (
      room,
      unwritten,
      draws_same why sets v w x h g,
      full_cause why sets v w x h g k held r,
      touches_same why sets v w x h g,
    )
make_cause (refusals.Wide set) sets new k v w x h room unwritten r g =
    let why : RefusalCause = refusals.Wide set in (
      unwritten,
      draws_same why sets v w x h g,
      make_wide set sets new k v w x room g r,
      touches_same why sets v w x h g,
    )
make_cause (refusals.NumberLimit clock) sets new k v w x h room unwritten r g = absurd r

-- the write set was full
pub writes_cause : (sets new : Sets) (k : Key) (v x : View) → Walked sets v v → has_write k sets.writes ≡ false
    → length sets.writes ≡ 16 → HasGivenUp [] (refusals.Wide Writes) v x
    → RefusesWrite sets new k (refusals.Wide Writes) v x
writes_cause sets new k v x h unwritten full g =
    let why : RefusalCause = refusals.Wide Writes in
    (unwritten, draws_same why sets v v x h g, inl (refl, full), touches_same why sets v v x h g)
