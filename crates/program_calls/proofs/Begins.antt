-- Where a run begins, and which limit keeps it from that, from what was recovered and settled.
use Rattle.std.proofs.Common.{◌≡◌, ◌⊎◌, inl, inr, ◌∙◌, sym, ap, subst, refl, ℕ, ◌+◌, ◌<◌, ◌≤◌, List, [], ◌++◌, Option, Some}
use Rattle.std.proofs.Common.{None, arith}
use Rattle.std.specs.Prelude.{IfSome, filter}
use Rattle.std.specs.Option.{option_map}
use Rattle.std.specs.FinMap.{get}
use Rattle.std.proofs.lemmas.Option.{same_Some}
use Rattle.serial_model.specs.State.{State}
use Rattle.serial_model.specs.declared.decl.Decl.{Decl}
use Rattle.serial_model.specs.declared.key.Key.{Key}
use Rattle.serial_model.specs.declared.number.Commit.{Commit}
use Rattle.wire_form.specs.Pages.{Contents}
use Rattle.wire_form.specs.declared.bucket.Entry.{Entry}
use Rattle.wire_form.specs.declared.savepoint.Savepoint.{Savepoint}
use Rattle.log_writer.specs.Points.{saved_of, sequence_of}
use Rattle.log_writer.specs.declared.saved.Saved.{Saved}
use Rattle.snapshot_store.specs.Content.{CatalogueAt, deepest, words_of}
use Rattle.root_composer.specs.Composition.{IsComposed, IsTooDeep, WouldCompose, level_count, new_count}
use Rattle.recovery_core.specs.Catalogues.{newest_epoch}
use Rattle.joint_crashes.specs.Images.{Images, count_of, epoch_of}
use Rattle.recovery_core.specs.LogEntries.{counts, last_of, logged}
use Rattle.recovery_core.specs.Recoverable.{Reading, ReadsBy}
use Rattle.recovery_core.specs.Recovered.{Recovers}
use Rattle.checkpoints.specs.Settled.{settled_pages, stores_due}
use Rattle.recovery_core.specs.declared.recovered.Recovered.{Recovered}
use Rattle.checkpoints.specs.declared.without_entries.Settled.{Settled}
use Rattle.checkpoints.specs.Due.{ComposesWithin, IsDue, IsOverLimit, IsStoreDue, IsWithin, NoneCount, OfSaved, SomeCount}
use Rattle.checkpoints.specs.Due.{WouldBeDeep, WouldBeMany}
use Rattle.checkpoints.specs.SettlesInto.{Follows, IsComposedInto, StaysAsRead}
use Rattle.tx_script.specs.Causes.{last_sequence}
use Rattle.round_engine.specs.declared.report.LimitName.TheVariants.{Height, Snap, Sequence}
use Rattle.program_calls.specs.Beginning.{FitsIn, HasNoEntries, HasRoom, IsSnapshotDue, MayBegin, Opening, SameDecls}
use Rattle.program_calls.specs.Beginning.{StandsAtLimit, StoresFirst}
use Rattle.program_calls.specs.RanOver.{AreSettled}

-- ---- what is there or not

-- what holds where something is made of it holds where it is there
if_some_of : {A B : Type 0} (C : Type 0) (f : A → B) (o : Option A) → IfSome (option_map f o) (λ _. C)
    → IfSome o (λ _. C)
if_some_of C f None is = is
if_some_of C f (Some x) is = is

-- the savepoint that says this
point_of : (o : Option Savepoint) (p : Saved) → option_map saved_of o ≡ Some p
    → (q : Savepoint) × (o ≡ Some q) × (p ≡ saved_of q)
point_of None p is = absurd cc
point_of (Some q) p is = (q, refl, sym (same_Some (saved_of q) p is))

-- of no log lines there is no entry
no_lines : (epoch saved : ℕ) (lines : List (List Commit)) (key : Key) → lines ≡ []
    → last_of key (filter (counts epoch saved) (logged lines)) ≡ None
no_lines epoch saved lines key none =
    subst (λ l. last_of key (filter (counts epoch saved) (logged l)) ≡ None) (sym none) refl

-- a fresh vault has no entry
fresh_entries : (found : Images) (reading : Reading) (point : Option Savepoint) → point ≡ None
    → ReadsBy found point reading → HasNoEntries reading
fresh_entries found reading None is reads =
    λ key. no_lines (newest_epoch reading.catalogues) (epoch_of reading.point) reading.lines key reads.lines
fresh_entries found reading (Some q) is reads = absurd cc

-- ---- so many savepoints are stored

-- told of what was recovered
abbrev pub StoresOf : Recovered → ℕ → Type 0
StoresOf r stored = (NoneCount r × (stored ≡ stores_due r.saved)) ⊎ (SomeCount r × (stored ≡ 1))

-- what was settled has stored so many
abbrev pub HasStoredFirst : Recovered → Settled → Type 0
HasStoredFirst r s = (stored : ℕ) × StoresOf r stored
    × (sequence_of s.save.newest ≡ sequence_of r.save.newest + stored)

stays_stored : (r : Recovered) (s : Settled) → StaysAsRead r s → HasStoredFirst r s
stays_stored r s stays = (stores_due r.saved, inl (stays.none, refl), stays.sequence)

composed_stored : (r : Recovered) (s : Settled) (p : Saved) → IsComposedInto r s p → HasStoredFirst r s
composed_stored r s p composed = (1, inr (composed.due.some, refl), composed.sequence)

pub settled_stored : (r : Recovered) (s : Settled) (o : Option Saved) → Follows r s o → HasStoredFirst r s
settled_stored r s None follows = stays_stored r s follows
settled_stored r s (Some p) follows = elim follows [
  | inl stays ↦ stays_stored r s stays
  | inr composed ↦ composed_stored r s p composed
]

-- ---- what the devices said

module _ (found : Images) (r : Recovered) (recovers : Recovers found r)
    (says : r.saved ≡ option_map saved_of recovers.reading.point) where
  none_there : NoneCount r → HasNoEntries recovers.reading
  none_there none = λ key. sym (recovers.entries key) ∙ none key

  some_there : SomeCount r → HasNoEntries recovers.reading → ⊥
  some_there some none = some (λ key. recovers.entries key ∙ none key)

  -- the last entries are those of the reading
  due_there : (q : Savepoint) (run : List Entry) (contents : Contents) → recovers.reading.point ≡ Some q
      → IsDue r (saved_of q) run contents → IsSnapshotDue recovers.reading q run contents
  due_there q run contents is due = record {
    point_is = is;
    some = some_there due.some;
    last = record {
      rising = due.run_is.rising;
      each = λ e has. sym (recovers.entries e.key) ∙ due.run_is.each e has;
      all = λ key e last. due.run_is.all key e (recovers.entries key ∙ last);
    };
    here = subst (λ pages. CatalogueAt pages q.catalogue contents) recovers.pages due.here;
  }

  fits_there : (snap : ℕ) (q : Savepoint) → recovers.reading.point ≡ Some q → ComposesWithin r (saved_of q) snap
      → FitsIn snap recovers.reading
  fits_there snap q is within = record {
    point = q;
    run = within.run;
    contents = within.contents;
    due = due_there q within.run within.contents is within.due;
    levels = subst (λ pages. level_count within.run within.contents pages ≤ deepest) recovers.pages within.levels;
    pages = subst (λ pages. q.count + new_count within.run within.contents pages ≤ snap) recovers.pages within.pages;
  }

  room_at : (snap : ℕ) (o : Option Savepoint) → recovers.reading.point ≡ o
      → IfSome (option_map saved_of o) (IsWithin r snap) → HasRoom snap recovers.reading
  room_at snap None is fits = inl (
    fresh_entries found recovers.reading recovers.reading.point is recovers.is.counts,
    subst (λ o. count_of o ≤ snap) (sym is) (omega arith),
  )
  room_at snap (Some q) is fits = elim fits [
    | inl none ↦ inl (none_there none.0, subst (λ o. count_of o ≤ snap) (sym is) none.1)
    | inr within ↦ inr (fits_there snap q is within)
  ]

  -- there is room for the pages
  has_room : (snap : ℕ) → IfSome r.saved (IsWithin r snap) → HasRoom snap recovers.reading
  has_room snap fits = room_at snap recovers.reading.point refl (subst (λ o. IfSome o (IsWithin r snap)) says fits)

  -- a store that is due is one of the reading
  stores_there : (stored : ℕ) → StoresOf r stored → StoresFirst recovers.reading stored
  stores_there stored stores = elim stores [
    | inl none ↦ inl (none_there none.0, none.1 ∙ ap stores_due says)
    | inr some ↦ inr (some_there some.0, some.1)
  ]

  due_back : StoresFirst recovers.reading 1 → IsStoreDue r
  due_back stores = elim stores [
    | inl none ↦ inl ((λ key. recovers.entries key ∙ none.0 key), ap stores_due says ∙ sym none.1)
    | inr some ↦ inr (λ none. some.0 (none_there none))
  ]

  due_first : IsStoreDue r → StoresFirst recovers.reading 1
  due_first due = elim due [
    | inl none ↦ inl (none_there none.0, sym none.1 ∙ ap stores_due says)
    | inr some ↦ inr (some_there some, refl)
  ]

  -- the storages are those that were recovered
  same_there : (decls : List Decl) → IfSome r.saved (λ _. SameDecls decls r.decls)
      → IfSome recovers.reading.point (λ _. SameDecls decls r.decls)
  same_there decls same =
      if_some_of _ saved_of recovers.reading.point (subst (λ o. IfSome o (λ _. SameDecls decls r.decls)) says same)

  -- many pages, or a page too deep
  deep_there : (q : Savepoint) → recovers.reading.point ≡ Some q → (deep : WouldBeDeep r (saved_of q))
      → IsTooDeep deep.run deep.contents recovers.reading.pages deep.made
  deep_there q is deep = subst (λ pages. IsTooDeep deep.run deep.contents pages deep.made) recovers.pages deep.deep

  would_there : (snap new : ℕ) (q : Savepoint) → recovers.reading.point ≡ Some q
      → (many : WouldBeMany r (saved_of q) snap new)
      → WouldCompose many.run q.epoch q.catalogue many.contents recovers.reading.pages new
  would_there snap new q is many =
      subst (λ epoch. WouldCompose many.run epoch q.catalogue many.contents recovers.reading.pages new)
      (recovers.epoch ∙ ap epoch_of is)
      (subst (λ pages. WouldCompose many.run r.epoch q.catalogue many.contents pages new) recovers.pages many.would)

-- ---- a run may begin

-- a vault that was fresh has no entry
fresh_none : (found : Images) (r : Recovered) → Recovers found r → r.saved ≡ option_map saved_of r.save.newest
    → r.saved ≡ None → NoneCount r
fresh_none found r recovers saved fresh = λ key. recovers.entries key
    ∙ fresh_entries found recovers.reading recovers.reading.point
    (no_point recovers.reading.point (sym (saved ∙ ap (option_map saved_of) recovers.point) ∙ fresh)) recovers.is.counts key
  where
    no_point : (o : Option Savepoint) → option_map saved_of o ≡ None → o ≡ None
    no_point None is = refl
    no_point (Some q) is = absurd cc

-- so many savepoints would be stored of what was recovered
pub would_store : (snap : ℕ) (r : Recovered) (o : Option Saved) → r.saved ≡ o → IfSome o (IsWithin r snap)
    → r.saved ≡ option_map saved_of r.save.newest
    → (stored : ℕ) × ((found : Images) → Recovers found r → StoresOf r stored)
would_store snap r None is fits saved =
    (1, λ found recovers. inl (fresh_none found r recovers saved is, sym (ap stores_due is)))
would_store snap r (Some p) is fits saved = elim fits [
  | inl none ↦ (stores_due (Some p), λ found recovers. inl (none.0, sym (ap stores_due is)))
  | inr within ↦ (1, λ found recovers. inr (within.due.some, refl))
]

-- What the devices said lets a run begin, in the state that was recovered.
pub may_begin : (snap : ℕ) (decls : List Decl) (found : Images) (r : Recovered) (opening : Opening) (stored : ℕ)
    → Recovers found r → r.saved ≡ option_map saved_of r.save.newest → IfSome r.saved (λ _. SameDecls decls r.decls)
    → IfSome r.saved (IsWithin r snap) → (IsStoreDue r → sequence_of r.save.newest ≡ last_sequence → ⊥)
    → opening.state ≡ r.state → opening.saved ≡ r.epoch → StoresOf r stored
    → opening.sequence ≡ sequence_of r.save.newest + stored → MayBegin snap decls opening found
may_begin snap decls found r opening stored recovers saved same fits left state epoch stores sequence =
    let says : r.saved ≡ option_map saved_of recovers.reading.point = saved ∙ ap (option_map saved_of) recovers.point in
    let at : sequence_of r.save.newest ≡ sequence_of recovers.reading.point = ap sequence_of recovers.point in
    record {
      has = record {
        reading = recovers.reading;
        is = recovers.is;
        same = subst (λ ds. IfSome recovers.reading.point (λ _. SameDecls decls ds)) recovers.decls
            (same_there found r recovers says decls same);
      };
      clear = record {
        room = has_room found r recovers says snap fits;
        sequence = λ due last. left (due_back found r recovers says due) (at ∙ last);
      };
      state = λ key. ap (λ (s : State). get s key) state ∙ recovers.state key;
      saved = epoch ∙ recovers.epoch;
      sequence = (
        stored,
        stores_there found r recovers says stored stores,
        sequence ∙ ap (λ n. n + stored) at,
      );
    }

-- What settling left of the pages.
pub begins_with : (decls : List Decl) (found : Images) (r : Recovered) (s : Settled) (recovers : Recovers found r)
    → r.saved ≡ option_map saved_of r.save.newest → SameDecls decls s.decls → Follows r s r.saved
    → AreSettled decls recovers.reading (words_of s.store.pages)
begins_with decls found r s recovers saved same follows = by_saved r.saved refl follows
  where
    says : r.saved ≡ option_map saved_of recovers.reading.point
    says = saved ∙ ap (option_map saved_of) recovers.point

    stays : StaysAsRead r s → AreSettled decls recovers.reading (words_of s.store.pages)
    stays is = inl (
      none_there found r recovers says is.none,
      s.decls,
      same,
      is.pages ∙ ap (λ (o : Option Saved). settled_pages o (words_of r.store.pages) s.decls) says
          ∙ ap (λ ps. settled_pages (option_map saved_of recovers.reading.point) ps s.decls) recovers.pages,
    )

    by_saved : (o : Option Saved) → r.saved ≡ o → Follows r s o → AreSettled decls recovers.reading (words_of s.store.pages)
    by_saved None none is = stays is
    by_saved (Some p) some is = elim is [
      | inl as_read ↦ stays as_read
      | inr composed ↦
          let q = point_of recovers.reading.point p (sym says ∙ some) in
          let due = due_there found r recovers says q.0 composed.run composed.contents q.1
          (subst (λ (x : Saved). IsDue r x composed.run composed.contents) q.2 composed.due) in
          inr (
            q.0,
            composed.run,
            composed.contents,
            due,
            composed.made,
            subst (λ ps. IsComposed composed.run q.0.epoch q.0.catalogue composed.contents ps composed.made) recovers.pages
                (subst (λ e. IsComposed composed.run e q.0.catalogue composed.contents (words_of r.store.pages) composed.made)
                (recovers.epoch ∙ ap epoch_of q.1)
                (subst (λ (x : Saved). IsComposed composed.run r.epoch x.catalogue composed.contents (words_of r.store.pages)
                composed.made) q.2 composed.composed)),
            composed.pages ∙ ap (λ ps. ps ++ composed.made) recovers.pages,
          )
    ]

-- ---- a limit is in its way

-- a page of a new snapshot would stand too deep
pub stands_too_deep : (snap : ℕ) (decls : List Decl) (found : Images) (r : Recovered) → Recovers found r
    → r.saved ≡ option_map saved_of r.save.newest → IfSome r.saved (λ _. SameDecls decls r.decls)
    → OfSaved r (WouldBeDeep r) → StandsAtLimit snap decls Height found
stands_too_deep snap decls found r recovers saved same of =
    let says : r.saved ≡ option_map saved_of recovers.reading.point = saved ∙ ap (option_map saved_of) recovers.point in
    let q = point_of recovers.reading.point of.0 (sym says ∙ of.1) in
    let deep : WouldBeDeep r (saved_of q.0) = subst (λ p. WouldBeDeep r p) q.2 of.2 in
    record {
      has = record {
        reading = recovers.reading;
        is = recovers.is;
        same = subst (λ ds. IfSome recovers.reading.point (λ _. SameDecls decls ds)) recovers.decls
            (same_there found r recovers says decls same);
      };
      limit = record {
        point = q.0;
        run = deep.run;
        contents = deep.contents;
        due = due_there found r recovers says q.0 deep.run deep.contents q.1 deep.due;
        made = deep.made;
        deep = deep_there found r recovers says q.0 q.1 deep;
      };
    }

-- there would be more pages than are let in
pub stands_at_pages : (snap : ℕ) (decls : List Decl) (found : Images) (r : Recovered) (have new room : ℕ)
    → Recovers found r → r.saved ≡ option_map saved_of r.save.newest → IfSome r.saved (λ _. SameDecls decls r.decls)
    → OfSaved r (λ p. (have ≡ p.count) × (room ≡ snap) × IsOverLimit r p snap new) → StandsAtLimit snap decls Snap found
stands_at_pages snap decls found r have new room recovers saved same of =
    let says : r.saved ≡ option_map saved_of recovers.reading.point = saved ∙ ap (option_map saved_of) recovers.point in
    let q = point_of recovers.reading.point of.0 (sym says ∙ of.1) in
    let over : IsOverLimit r (saved_of q.0) snap new = subst (λ p. IsOverLimit r p snap new) q.2 of.2.2 in
    record {
      has = record {
        reading = recovers.reading;
        is = recovers.is;
        same = subst (λ ds. IfSome recovers.reading.point (λ _. SameDecls decls ds)) recovers.decls
            (same_there found r recovers says decls same);
      };
      limit = elim over [
        | inl none ↦ inl (none_there found r recovers says none.0, subst (λ o. snap < count_of o) (sym q.1) none.2)
        | inr many ↦ inr (record {
          point = q.0;
          run = many.run;
          contents = many.contents;
          due = due_there found r recovers says q.0 many.run many.contents q.1 many.due;
          new = new;
          would = would_there found r recovers says snap new q.0 q.1 many;
          more = many.more;
        })
      ];
    }

-- a savepoint is due behind the last one
pub stands_at_sequence : (snap : ℕ) (decls : List Decl) (found : Images) (r : Recovered) → Recovers found r
    → r.saved ≡ option_map saved_of r.save.newest → IfSome r.saved (λ _. SameDecls decls r.decls)
    → IfSome r.saved (IsWithin r snap) → IsStoreDue r → sequence_of r.save.newest ≡ last_sequence
    → StandsAtLimit snap decls Sequence found
stands_at_sequence snap decls found r recovers saved same fits due last =
    let says : r.saved ≡ option_map saved_of recovers.reading.point = saved ∙ ap (option_map saved_of) recovers.point in
    record {
      has = record {
        reading = recovers.reading;
        is = recovers.is;
        same = subst (λ ds. IfSome recovers.reading.point (λ _. SameDecls decls ds)) recovers.decls
            (same_there found r recovers says decls same);
      };
      limit = (
        has_room found r recovers says snap fits,
        due_first found r recovers says due,
        sym (ap sequence_of recovers.point) ∙ last,
      );
    }
