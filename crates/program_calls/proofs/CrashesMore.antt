-- One round more carries on what is known of the crashes of all devices.
use Rattle.std.proofs.Common.{◌≡◌, ◌∙◌, ◌≤◌, ◌<◌, ◌+◌, ◌-◌, inl, inr, sym, ap, subst, refl, ℕ, true, arith}
use Rattle.std.proofs.Common.{List, [], ◌∷◌, ◌++◌, Option, Some, None, length}
use Rattle.std.specs.Prelude.{flat_map, is_some, map, option_to_list, slice_get}
use Rattle.std.specs.FinMap.{get}
use Rattle.std.specs.List.{AllByRecursion}
use Rattle.std.proofs.lemmas.Bool.{cases_lt}
use Rattle.std.proofs.lemmas.List.{append-nil, length-append, length-map}
use Rattle.std.proofs.lemmas.Option.{slice_get_past}
use Rattle.lists.specs.Each.{all_append, all_weaker}
use Rattle.log_writer.specs.declared.vault.Vault.{Vault}
use Rattle.serial_model.specs.History.{Entry, EpochsNeverFall, Rises, as_of, state_after_all}
use Rattle.serial_model.specs.State.{State}
use Rattle.serial_model.specs.declared.decl.Decl.{Decl}
use Rattle.serial_model.specs.declared.number.Commit.{Commit}
use Rattle.wire_form.specs.LogFile.{IsLineOf}
use Rattle.wire_form.specs.declared.savepoint.Savepoint.{Savepoint}
use Rattle.log_writer.specs.Points.{sequence_of}
use Rattle.log_writer.specs.declared.saved.Saved.{Saved}
use Rattle.joint_crashes.specs.Images.{Images, epoch_of}
use Rattle.joint_crashes.specs.JointCrash.{Moments}
use Rattle.recovery_core.specs.Recoverable.{Reading}
use Rattle.joint_crashes.specs.Story.{Story}
use Rattle.tx_script.specs.Causes.{AllCaused}
use Rattle.tx_script.specs.Run.{Ran}
use Rattle.round_engine.specs.Changes.{AreLogged}
use Rattle.round_engine.specs.Crashes.{CarriesCrashes, LeavesCrashes}
use Rattle.round_engine.specs.Ends.{comes_to_swap, swaps}
use Rattle.round_engine.specs.RanRound.{LeavesVault}
use Rattle.round_engine.specs.Standing.{RuntimeState, StandsOn, files_of}
use Rattle.round_engine.specs.Swaps.{behind_swap, since_swap}
use Rattle.program_calls.specs.RunKept.{RecordsOf}
use Rattle.program_calls.specs.RoundCauses.{saved_in}
use Rattle.program_calls.proofs.CrashPoints.{FoundAt, PointsKept, StandsThen}
use Rattle.program_calls.proofs.CrashesKept.{CrashesKept, KeptBefore, StoredAt, at_front, either_at, epoch_at, found_before}
use Rattle.program_calls.proofs.CrashesKept.{newest_length, rise_at, saved_push, saved_with}
use Rattle.program_calls.proofs.KeptBegun.{Begun, begun_at, begun_stands, least_begun}
use Rattle.program_calls.proofs.KeptEpochs.{as_of-more}
use Rattle.program_calls.proofs.KeptPages.{each_snapshot}
use Rattle.program_calls.proofs.KeptParts.{KeptParts}
use Rattle.program_calls.proofs.RecordsKept.{records_more}
use Rattle.program_calls.proofs.SnapshotsKept.{each_more}

-- nothing failed where the store is up
none_failed : (down : Option ℕ) (failed : Option Saved) → is_some down ≡ is_some failed → down ≡ None → failed ≡ None
none_failed None None same none = refl
none_failed None (Some saved) same none = absurd cc
none_failed (Some count) failed same none = absurd cc

module _ {D : Type 0} {tells : D → Option (List ℕ)} {clock : D → ℕ} {image_at : D → ℕ → List ℕ → Type 0}
    {faults : D → ℕ} {from : Moments} {reading : Reading} {decls : List Decl} {settled saved : ℕ} {s : State}
    {rans : List Ran} {ordered : List Entry} {since last_saved : ℕ} {older gone commits logged : ℕ → List Commit}
    {other more : ℕ → List ℕ} {old new : RuntimeState} {before now : Vault D} {ran : Ran} (run : List Entry)
    (parts : KeptParts reading decls saved s ordered old.side old.counted since old.closed_at older gone commits other
    more old.store.pages old.save.newest last_saved)
    (stands : StandsOn tells clock image_at old before) (decls_are : old.stands.decls ≡ decls)
    (own_logged : (w : ℕ) → w < 8 → AreLogged decls w (state_after_all decls s ordered) run (logged w))
    (own_lines : (w : ℕ) → w < 8 → AllByRecursion (IsLineOf decls) (logged w))
    (workers : AllByRecursion (λ e. e.worker < 8) run)
    (later : AllByRecursion (λ e. old.stands.clock.epoch ≤ e.number.epoch) run)
    (caused : AllCaused ran) (files_are : ran.beside.files ≡ files_of old)
    (leaves : LeavesVault tells clock image_at faults ran logged old new before now)
    (rises : Rises (ordered ++ run)) (falls : EpochsNeverFall (ordered ++ run))
    (ready : KeptBefore tells clock image_at from reading decls settled saved s rans ordered commits gone old before)
    (carries : CarriesCrashes tells clock image_at logged (leaves.stored ++ option_to_list leaves.failed) ran old new
    before now) where
  abbrev was : CrashesKept clock image_at from reading decls settled saved s rans ordered before
  was = ready.kept

  abbrev points : PointsKept was.story was.low settled was.high reading decls saved s ordered
  points = was.points

  abbrev last : ℕ
  last = sequence_of old.save.newest

  abbrev begun : List Saved
  begun = leaves.stored ++ option_to_list leaves.failed

  abbrev carried : LeavesCrashes tells clock image_at was.story from was.low commits logged gone ready.durable
      ready.closed begun ran old new before now
  carried = carries was.story from was.low commits gone ready.durable ready.closed ready.knows

  abbrev after : Story
  after = carried.after

  settled_least : settled ≤ last
  settled_least = omega (arith, points.reaches, ready.high_is)

  abbrev BegunHere : ℕ → Type 0
  BegunHere = Begun run parts stands decls_are own_logged own_lines workers later caused files_are leaves rises falls
      was.story from was.low ready.knows carried

  here : (k : ℕ) → last < k → k ≤ last + length begun → BegunHere k
  here = begun_at run parts stands decls_are own_logged own_lines workers later caused files_are leaves rises falls
      was.story from was.low ready.knows carried

  -- ---- epochs never fall

  least_here : (k : ℕ) → (x : BegunHere k) → epoch_of old.save.newest ≤ x.said.epoch
  least_here = least_begun run parts stands decls_are own_logged own_lines workers later caused files_are leaves rises
      falls was.story from was.low ready.knows carried

  up_to_newest : (j : ℕ) → settled ≤ j → j ≤ last → epoch_of (after.point j) ≤ epoch_of old.save.newest
  up_to_newest j at_least less =
      omega (
        arith,
        points.rise j last at_least less (omega (arith, ready.high_is)),
        ap epoch_of (carried.same.point j less),
        ap epoch_of ready.knows.newest_is,
      )

  rise_now : (j k : ℕ) → settled ≤ j → j ≤ k → k ≤ last + length begun
      → epoch_of (after.point j) ≤ epoch_of (after.point k)
  rise_now j k at_least less within = elim (cases_lt last k) [
    | inr first ↦ omega (
      arith,
      points.rise j k at_least less (omega (arith, first, ready.high_is)),
      ap epoch_of (carried.same.point j (omega (arith, less, first))),
      ap epoch_of (carried.same.point k first),
    )
    | inl behind ↦ elim (cases_lt last j) [
      | inr first ↦ omega (
        arith,
        up_to_newest j at_least first,
        least_here k (here k behind within),
        ap epoch_of (here k behind within).point,
      )
      | inl past ↦ both j k past less within (here j past (omega (arith, less, within))) (here k behind within)
    ]
  ]
    where
      both : (j k : ℕ) → last < j → j ≤ k → k ≤ last + length begun → (x : BegunHere j) → (y : BegunHere k)
          → epoch_of (after.point j) ≤ epoch_of (after.point k)
      both j k past less within x y =
          let rises_so = rise_at (epoch_of old.save.newest) (map (λ (t : Saved). t.epoch) begun) carried.rise
          (j - (last + 1)) (k - (last + 1)) x.said.epoch y.said.epoch (omega (arith, less))
          (epoch_at begun (j - (last + 1)) x.said x.at) (epoch_at begun (k - (last + 1)) y.said y.at) in
          omega (arith, rises_so, ap epoch_of x.point, ap epoch_of y.point)

  -- ---- what each stands for

  newest_above : epoch_of old.save.newest < old.stands.clock.epoch
  newest_above = stands.above

  above_now : AllByRecursion (λ e. saved < e.number.epoch) (ordered ++ run)
  above_now = all_append (λ (e : Entry). saved < e.number.epoch) ordered run points.above
      (all_weaker (λ (e : Entry). old.stands.clock.epoch ≤ e.number.epoch)
      (λ (e : Entry). saved < e.number.epoch)
      (λ e from_clock. (let up = up_to_newest settled (omega arith) settled_least in
      omega (
        arith,
        from_clock,
        up,
        newest_above,
        points.first_epoch,
        ap epoch_of (carried.same.point settled settled_least),
      ))) run later)

  -- one that was begun in this round
  begun_now : (k : ℕ) (left : Images) → last < k → k ≤ last + length begun → FoundAt after left k
      → StandsThen reading decls saved s (ordered ++ run) left (epoch_of (after.point k))
  begun_now k left behind within found =
      let x = here k behind within in
      let stands = begun_stands run parts stands decls_are own_logged own_lines workers later caused files_are leaves
      rises falls was.story from was.low ready.knows carried k behind within x left found in
      record {
        is = stands.is;
        each = each_snapshot x.over_it.store.at stands.is.reading stands.pages_are stands.catalogues_are above_now
            points.read.chained points.read.epoch points.read.state;
      }

  -- and one that was known before
  known_now : (k : ℕ) (left : Images) → settled < k → k ≤ last → FoundAt after left k
      → StandsThen reading decls saved s (ordered ++ run) left (epoch_of (after.point k))
  known_now k left past first found =
      let point : after.point k ≡ was.story.point k = carried.same.point k first in
      let up = up_to_newest k (omega (arith, past)) first in
      let then = all_weaker (λ (e : Entry). old.stands.clock.epoch ≤ e.number.epoch)
      (λ (e : Entry). epoch_of (after.point k) < e.number.epoch)
      (λ e from_clock. omega (arith, from_clock, up, newest_above)) run later in
      let so = subst (λ (o : Option Savepoint). StandsThen reading decls saved s ordered left (epoch_of o)) (sym point)
      (points.later k left past (omega (arith, first, ready.high_is)) (found_before left k carried.same first found)) in
      record {
        is = record {
          reading = so.is.reading;
          is = so.is.is;
          epoch_is = so.is.epoch_is;
          state_is = λ key. ap (λ (t : State). get t key)
              (as_of-more decls s ordered run (epoch_of (after.point k)) then) ∙ so.is.state_is key;
        };
        each = each_more reading so.is.reading saved s decls ordered run left (epoch_of (after.point k)) so.is.is
            (omega (arith, so.is.epoch_is)) then so.each;
      }

  later_now : (k : ℕ) (left : Images) → settled < k → k ≤ last + length begun → FoundAt after left k
      → StandsThen reading decls saved s (ordered ++ run) left (epoch_of (after.point k))
  later_now k left past within found = elim (cases_lt last k) [
    | inl behind ↦ begun_now k left behind within found
    | inr first ↦ known_now k left past first found
  ]

  points_now : PointsKept after was.low settled (last + length begun) reading decls saved s (ordered ++ run)
  points_now = record {
    read = points.read;
    within = points.within;
    reaches = omega (arith, settled_least);
    first_epoch = ap epoch_of (carried.same.point settled settled_least) ∙ points.first_epoch;
    old = λ k left at_least at_most found. points.old k left at_least at_most
        (found_before left k carried.same (omega (arith, at_most, settled_least)) found);
    later = later_now;
    rise = rise_now;
    above = above_now;
  }

  -- ---- what was saved

  -- an epoch that was saved before
  stored_still : (i epoch : ℕ) → StoredAt was.story before.ties.items settled was.high i epoch
      → StoredAt after now.ties.items settled (last + length begun) i epoch
  stored_still i epoch at = record {
    tie = at.tie;
    end = at.end;
    has = leaves.ties_stay at.tie at.has;
    of_store = at.of_store;
    ended = at.ended;
    within = omega (arith, at.within, ready.high_is);
    least = omega (
      arith,
      at.least,
      ap epoch_of (carried.same.point (settled + 1 + i) (omega (arith, at.within, ready.high_is))),
    );
  }

  -- and one of this round
  stored_here : (j epoch : ℕ) → slice_get (saved_in ran) j ≡ Some epoch
      → StoredAt after now.ties.items settled (last + length begun) (length (flat_map saved_in rans) + j) epoch
  stored_here j epoch at =
      let here : slice_get (map (λ (t : Saved). t.epoch) leaves.stored) j ≡ Some epoch =
      ap (λ l. slice_get l j) leaves.has_stored.epochs ∙ at in
      let said = saved_with leaves.stored j epoch here in
      let tied = leaves.ended j said.0 said.1 in
      let many = ready.many in
      let place : last + 1 + j ≡ settled + 1 + (length (flat_map saved_in rans) + j) = omega (arith, many) in
      let front = at_front leaves.stored (option_to_list leaves.failed) j said.0 said.1 in
      let is = carried.goes_on.point j said.0 front in
      let below = below_length begun j said.0 front in
      record {
        tie = tied.0;
        end = tied.1;
        has = tied.2;
        of_store = tied.3 ∙ place;
        ended = tied.4;
        within = omega (arith, place, below);
        least = subst (λ n. epoch ≤ epoch_of (after.point n)) place (omega (arith, ap epoch_of is, said.2));
      }
    where
      below_length : {X : Type 0} (xs : List X) (i : ℕ) (x : X) → slice_get xs i ≡ Some x → i < length xs
      below_length xs i x at = elim (cases_lt i (length xs)) [
        | inl less ↦ less
        | inr past ↦ absurd (let no = sym at ∙ slice_get_past xs i past in cc)
      ]

  stored_now : (i epoch : ℕ) → slice_get (flat_map saved_in (rans ++ ran ∷ [])) i ≡ Some epoch
      → StoredAt after now.ties.items settled (last + length begun) i epoch
  stored_now i epoch at = elim (either_at (flat_map saved_in rans) (saved_in ran) i epoch
      (ap (λ l. slice_get l i) (sym (saved_push rans ran)) ∙ at)) [
        | inl before ↦ stored_still i epoch (was.stored i epoch before)
        | inr here ↦ subst (λ n. StoredAt after now.ties.items settled (last + length begun) n epoch) (sym here.1)
            (stored_here here.0 epoch here.2)
      ]

  -- ---- one round more

  -- a tie for each store
  recorded_now : (records : RecordsOf settled (rans ++ ran ∷ []) now.ties.items)
      × (leaves.failed ≡ None → records.failed ≡ 0)
  recorded_now = records_more old.save.newest ran leaves.stored leaves.failed was.recorded ready.unfailed ready.many leaves.ties_are
      (sym (length-map leaves.stored (λ (t : Saved). t.epoch)) ∙ ap length leaves.has_stored.epochs)
      leaves.has_stored.fails.0

  -- what is known after a round, whatever ended it
  pub crashes_more : CrashesKept clock image_at from reading decls settled saved s (rans ++ ran ∷ []) (ordered ++ run) now
  crashes_more = record {
    story = after;
    low = was.low;
    high = last + length begun;
    points = points_now;
    told = carried.told;
    stays = carried.stays;
    instant = carried.instant;
    stored = stored_now;
    recorded = recorded_now.0;
  }

  -- and as the next one begins
  pub ready_more : new.save.down ≡ None → new.store.sound ≡ true → (comes_to_swap ran ≡ true → swaps ran ≡ true)
      → KeptBefore tells clock image_at from reading decls settled saved s (rans ++ ran ∷ []) (ordered ++ run)
      (since_swap (swaps ran) (λ w. commits w ++ logged w)) (behind_swap (swaps ran) (λ w. commits w ++ logged w) gone)
      new now
  unfolding crashes_more
  ready_more up sound done =
      let none = none_failed new.save.down leaves.failed leaves.has_stored.down up in
      let all : begun ≡ leaves.stored =
      ap (λ o. leaves.stored ++ option_to_list o) none ∙ append-nil leaves.stored in
      let is_high : sequence_of new.save.newest ≡ last + length begun = omega (
        arith,
        ap length all,
        newest_length old.save.newest leaves.stored,
        ap sequence_of leaves.has_stored.newest,
      ) in
      record {
        kept = crashes_more;
        durable = since_swap (swaps ran) carried.durable;
        closed = behind_swap (swaps ran) carried.durable ready.closed;
        knows = carried.next is_high sound done;
        high_is = sym is_high;
        many =
            let stored_many : length leaves.stored ≡ length (saved_in ran) =
            sym (length-map leaves.stored (λ (t : Saved). t.epoch)) ∙ ap length leaves.has_stored.epochs in
            omega (
              arith,
              ready.many,
              stored_many,
              newest_length old.save.newest leaves.stored,
              ap sequence_of leaves.has_stored.newest,
              ap length (saved_push rans ran),
              length-append (flat_map saved_in rans) (saved_in ran),
            );
        unfailed = recorded_now.1 none;
      }
