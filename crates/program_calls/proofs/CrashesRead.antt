-- What is known of the crashes of all devices stays known while they are only read.
use Rattle.std.proofs.Common.{◌≡◌, ◌∙◌, ◌≤◌, inl, inr, refl, sym, ap, subst, ℕ, List, Option, Some, arith}
use Rattle.std.proofs.lemmas.Bool.{cases_lt}
use Rattle.std.proofs.lemmas.Option.{same_Some}
use Rattle.lists.specs.Fronts.{IsFront, front_same}
use Rattle.outside.specs.Moments.{left_after}
use Rattle.outside.specs.Reads.{OnlyReads}
use Rattle.log_writer.specs.Vault.{IsWhole, disk_in}
use Rattle.outside.specs.declared.device.Device.TheVariants.{Bank, Save, Snaps}
use Rattle.log_writer.specs.declared.records.Tie.{Tie}
use Rattle.log_writer.specs.declared.vault.Vault.{Vault}
use Rattle.serial_model.specs.History.{Entry}
use Rattle.serial_model.specs.State.{State}
use Rattle.serial_model.specs.declared.decl.Decl.{Decl}
use Rattle.wire_form.specs.declared.savepoint.Savepoint.{Savepoint}
use Rattle.log_writer.specs.Save.{Names}
use Rattle.joint_crashes.specs.JointCrash.{CrashesNow, Moments, Parts, parts_of}
use Rattle.recovery_core.specs.Recoverable.{Reading}
use Rattle.joint_crashes.specs.Story.{BankReady, BankTold, IsTold, SaveTold, SnapsTold, Story}
use Rattle.joint_crashes.specs.Crashes.Instants.{now_ready}
use Rattle.joint_crashes.specs.Crashes.ToldSteps.{parts}
use Rattle.joint_crashes.specs.VaultReads.{VaultOnlyReads, whole_read}
use Rattle.tx_script.specs.Run.{Ran}
use Rattle.round_engine.specs.Crashes.{StaysReady}
use Rattle.program_calls.specs.RunKept.{RecordsOf}
use Rattle.program_calls.proofs.CrashesKept.{CrashesKept, StoredAt}
use Rattle.program_calls.proofs.VaultsLater.{there}

-- ---- one device

module _ {D : Type 0} (tells : D → Option (List ℕ)) {clock : D → ℕ} {image_at : D → ℕ → List ℕ → Type 0}
    (faults : D → ℕ) {old new : D} where
  ready_reads : {counted : ℕ → List ℕ} {k : ℕ} {IsCut : ℕ → ℕ → Type 0} → BankReady clock image_at counted k old IsCut
      → OnlyReads tells clock image_at faults old new → BankReady clock image_at counted k new IsCut
  ready_reads {counted = counted} {k = k} ready read = record {
    now = λ c image. elim (left_after c read.moments image) [
      | inl first ↦ ready.now c first
      | inr within ↦ subst (IsFront (counted k)) within.2 (ready.now within.0 within.1)
    ];
    past = λ began after cut less.
        let before = ready.past began after cut less in omega (arith, before, read.moments.later);
  }

module _ {D : Type 0} (tells : D → Option (List ℕ)) {clock : D → ℕ} {image_at : D → ℕ → List ℕ → Type 0}
    (faults : D → ℕ) {from low high : ℕ} {old new : D} where
  save_reads : {point : ℕ → Option Savepoint} {ties : List Tie}
      → SaveTold clock image_at point from low high old ties → OnlyReads tells clock image_at faults old new
      → SaveTold clock image_at point from low high new ties
  save_reads {point = point} told read = record {
    ordered = told.ordered;
    began = omega (arith, told.began, read.moments.later);
    numbered = told.numbered;
    names = λ m c since come image. elim (cases_lt (clock old) m) [
      | inr early ↦ told.names m c since early (read.moments.no_new m c early image)
      | inl late ↦
          let had = read.moments.from m c late come image in
          let named = told.names (clock old) had.0 told.began (omega arith) had.1 in
          (named.0, named.1, named.2, subst (λ d. Names d (point named.0)) had.2 named.3)
    ];
    newest = told.newest;
    ended_time = λ tie end has ended.
        let before = told.ended_time tie end has ended in omega (arith, before, read.moments.later);
    ended = λ tie end m c k has ended since past come image at_least at_most names. elim (cases_lt (clock old) m) [
      | inr early ↦ told.ended tie end m c k has ended since past early (read.moments.no_new m c early image) at_least
          at_most names
      | inl late ↦
          let had = read.moments.from m c late come image in
          told.ended tie end (clock old) had.0 k has ended told.began (told.ended_time tie end has ended) (omega arith)
          had.1 at_least at_most (subst (λ d. Names d (point k)) (sym had.2) names)
    ];
  }

  snaps_reads : {pages : ℕ → List ℕ} {ties : List Tie}
      → SnapsTold clock image_at pages from low high old ties → OnlyReads tells clock image_at faults old new
      → SnapsTold clock image_at pages from low high new ties
  snaps_reads {pages = pages} told read = record {
    began = omega (arith, told.began, read.moments.later);
    times = λ tie has. let before = told.times tie has in omega (arith, before, read.moments.later);
    since = λ k m at_least at_most since come past c image. elim (cases_lt (clock old) m) [
      | inr early ↦ told.since k m at_least at_most since early past c (read.moments.no_new m c early image)
      | inl late ↦
          let had = read.moments.from m c late come image in
          subst (IsFront (pages k)) had.2 (told.since k (clock old) at_least at_most told.began (omega arith)
          (λ tie has is. told.times tie has) had.0 had.1)
    ];
  }

  bank_reads : {counted : ℕ → List ℕ} {IsCut : ℕ → ℕ → Type 0}
      → BankTold clock image_at counted from low high old IsCut
      → ((began after : ℕ) → IsCut began after → began ≤ clock old)
      → ((k : ℕ) → low ≤ k → k ≤ high → ((began after : ℕ) → IsCut began after → after ≤ k)
      → BankReady clock image_at counted k old IsCut)
      → OnlyReads tells clock image_at faults old new → BankTold clock image_at counted from low high new IsCut
  bank_reads {counted = counted} told begun ready read = record {
    began = omega (arith, told.began, read.moments.later);
    kept = λ k m front at_least at_most since come past before c image size all. elim (cases_lt (clock old) m) [
      | inr early ↦ told.kept k m front at_least at_most since early past before c
          (read.moments.no_new m c early image) size (λ d left. all d (read.moments.kept m d early left))
      | inl late ↦
          let had = read.moments.from m c late come image in
          let is = ready k at_least at_most (λ began after cut. elim (cases_lt k after) [
            | inr within ↦ within
            | inl less ↦ absurd (omega (arith, begun began after cut, before began after cut less, late))
          ]) in
          let whole = subst (IsFront (counted k)) had.2 (is.now had.0 had.1) in
          front_same front (counted k) c (all c image) whole size
    ];
  }

-- ---- all of them

-- A stop now is a joint crash where each log file has what each savepoint counts that is as new as its cuts.
now_stays : {D : Type 0} {clock : D → ℕ} {image_at : D → ℕ → List ℕ → Type 0} (story : Story) (from : Moments)
    (low high : ℕ) (all : Parts D) → IsTold clock image_at story from low high all
    → StaysReady clock image_at story low high all → CrashesNow clock image_at all
now_stays {clock = clock} story from low high all told stays =
    now_ready told (λ c k image names at_least at_most n bank is.
    stays.ready n bank is k at_least at_most (λ began after cut. elim (told.allowed n began after cut) [
      | inl first ↦ omega (arith, first, at_least)
      | inr tied ↦
          let ended = told.save.ended tied.0 tied.1 (clock all.save) c k tied.2 tied.4 told.save.began
          (told.save.ended_time tied.0 tied.1 tied.2 tied.4) (omega arith) image at_least at_most names in
          omega (arith, tied.3, ended)
    ]))

module _ {D : Type 0} {tells : D → Option (List ℕ)} {clock : D → ℕ} {image_at : D → ℕ → List ℕ → Type 0}
    {faults : D → ℕ} {old new : Vault D} (whole : IsWhole old)
    (reads : VaultOnlyReads tells clock image_at faults old new) where
  -- the devices, with what was recorded of them
  abbrev read_parts : Parts D
  read_parts = parts new.save new.snaps (λ n. disk_in new (Bank n)) old.ties.items old.cuts.items

  parts_are : read_parts ≡ parts_of new
  parts_are =
      ap (λ (t : _). parts new.save new.snaps (λ n. disk_in new (Bank n)) t.items old.cuts.items) (sym reads.ties)
      ∙ ap (λ (c : _). parts new.save new.snaps (λ n. disk_in new (Bank n)) new.ties.items c.items) (sym reads.cuts)

  save_is : OnlyReads tells clock image_at faults old.save new.save
  save_is =
      let read = reads.each Save old.save refl in
      subst (OnlyReads tells clock image_at faults old.save) (sym (same_Some new.save read.0 read.1)) read.2

  snaps_is : OnlyReads tells clock image_at faults old.snaps new.snaps
  snaps_is =
      let read = reads.each Snaps old.snaps refl in
      subst (OnlyReads tells clock image_at faults old.snaps) (sym (same_Some new.snaps read.0 read.1)) read.2

  bank_is : (n : ℕ) (bank : D) → disk_in new (Bank n) ≡ Some bank
      → (was : D) × (disk_in old (Bank n) ≡ Some was) × OnlyReads tells clock image_at faults was bank
  bank_is n bank is =
      let was = there whole (whole_read reads whole) (Bank n) bank is in
      let read = reads.each (Bank n) was.0 was.1 in (
        was.0,
        was.1,
        subst (OnlyReads tells clock image_at faults was.0) (same_Some read.0 bank (sym read.1 ∙ is)) read.2,
      )

  module _ {story : Story} {from : Moments} {low high : ℕ} (told : IsTold clock image_at story from low high (parts_of old))
      (stays : StaysReady clock image_at story low high (parts_of old)) where
    told_reads : IsTold clock image_at story from low high read_parts
    told_reads = record {
      save = save_reads tells faults told.save save_is;
      snaps = snaps_reads tells faults told.snaps snaps_is;
      bank = λ n bank is.
          let was = bank_is n bank is in
          bank_reads tells faults (told.bank n was.0 was.1) (stays.come n was.0 was.1) (stays.ready n was.0 was.1) was.2;
      sized = λ n k bank is at_least at_most. let was = bank_is n bank is in told.sized n k was.0 was.1 at_least at_most;
      older = told.older;
      allowed = told.allowed;
    }

    stays_reads : StaysReady clock image_at story low high read_parts
    stays_reads = record {
      come = λ n bank is began after cut.
          let was = bank_is n bank is in
          let before = stays.come n was.0 was.1 began after cut in
          omega (arith, before, was.2.moments.later);
      ready = λ n bank is k at_least at_most older.
          let was = bank_is n bank is in
          ready_reads tells faults (stays.ready n was.0 was.1 k at_least at_most older) was.2;
    }

  -- what was known before is known
  pub crashes_read : {from : Moments} {was : Reading} {decls : List Decl} {settled saved : ℕ} {s : State}
      {rans : List Ran} {ordered : List Entry}
      → CrashesKept clock image_at from was decls settled saved s rans ordered old
      → CrashesKept clock image_at from was decls settled saved s rans ordered new
  crashes_read {from = from} {settled = settled} {rans = rans} kept =
      let told = told_reads kept.told kept.stays in
      let stays = stays_reads kept.told kept.stays in
      record {
        story = kept.story;
        low = kept.low;
        high = kept.high;
        points = kept.points;
        told = subst (IsTold clock image_at kept.story from kept.low kept.high) parts_are told;
        stays = subst (StaysReady clock image_at kept.story kept.low kept.high) parts_are stays;
        instant = subst (CrashesNow clock image_at) parts_are
            (now_stays kept.story from kept.low kept.high read_parts told stays);
        stored = λ i epoch at. subst (λ (t : _). StoredAt kept.story t.items settled kept.high i epoch) (sym reads.ties)
            (kept.stored i epoch at);
        recorded = subst (λ (t : _). RecordsOf settled rans t.items) (sym reads.ties) kept.recorded;
      }
