-- Devices that have rested since some moments: what is read of them meanwhile changes nothing.
use Rattle.std.specs.Prelude.{◌≡◌, ◌≤◌, ℕ, List, Option, Some, None}
use Rattle.std.specs.Prelude.{◌⊎◌}
use Rattle.std.proofs.Common.{inl, inr, refl, sym, ap, ◌∙◌, subst, arith}
use Rattle.std.specs.List.{Contains}
use Rattle.std.proofs.lemmas.Bool.{cases_lt}
use Rattle.outside.specs.Fronts.{AllBegin}
use Rattle.lists.specs.Fronts.{IsFront}
use Rattle.log_writer.specs.Cuts.{whole_bank, whole_ends}
use Rattle.outside.specs.Reads.{OnlyReads}
use Rattle.outside.specs.declared.device.Device.{Device}
use Rattle.outside.specs.declared.device.Device.TheVariants.{Save, Snaps, Bank}
use Rattle.log_writer.specs.Vault.{disk_in, IsWhole}
use Rattle.log_writer.specs.declared.vault.Vault.{Vault}
use Rattle.log_writer.specs.declared.records.Cut.{Cut}
use Rattle.log_writer.specs.declared.records.Tie.{Tie}
use Rattle.outside.specs.Moments.{left_after}
use Rattle.std.proofs.lemmas.Option.{same_Some}
use Rattle.wire_form.specs.declared.savepoint.Savepoint.{Savepoint}
use Rattle.log_writer.specs.Save.{Names}
use Rattle.joint_crashes.specs.Images.{Images}
use Rattle.joint_crashes.specs.JointCrash.{AreImages, CrashesNow, HasCut, Parts, Moments, IsNow, parts_of}
use Rattle.joint_crashes.specs.Resting.{IsResting, StopsNow}
use Rattle.joint_crashes.specs.VaultReads.{some_of}
use Rattle.joint_crashes.specs.VaultReads.{VaultOnlyReads, whole_read}

-- At each moment since these, up to now, each image of the save names this savepoint, each image of the snapshots
-- begins with these pages, and each image of a log file with these bytes.
pub record RestsSince {D : Type 0} (clock : D → ℕ) (image_at : D → ℕ → List ℕ → Type 0) (from : Moments)
    (point : Option Savepoint) (pages : List ℕ) (counted : ℕ → List ℕ) (parts : Parts D) : Type 0 where
  pub save_came : from.save ≤ clock parts.save
  pub snaps_came : from.snaps ≤ clock parts.snaps
  pub bank_came : (n : ℕ) (bank : D) → parts.banks n ≡ Some bank → from.bank n ≤ clock bank
  pub save : (m : ℕ) (c : List ℕ) → from.save ≤ m → m ≤ clock parts.save → image_at parts.save m c → Names c point
  pub snaps : (m : ℕ) → from.snaps ≤ m → m ≤ clock parts.snaps → AllBegin (image_at parts.snaps m) pages
  pub bank : (n : ℕ) (bank : D) → parts.banks n ≡ Some bank → (m : ℕ) → from.bank n ≤ m → m ≤ clock bank
      → AllBegin (image_at bank m) (counted n)

module _ {D : Type 0} {clock : D → ℕ} {image_at : D → ℕ → List ℕ → Type 0} where
  -- a vault at rest rests since now
  pub rests_now : {parts : Parts D} {from : Moments} → (rest : IsResting clock image_at parts)
      → IsNow clock image_at parts from
      → RestsSince clock image_at from rest.point rest.pages rest.counted parts
  rests_now {parts = parts} {from = from} rest now = record {
    save_came = omega (arith, now.save);
    snaps_came = omega (arith, now.snaps);
    bank_came = λ n bank there. omega (arith, now.bank n bank there);
    save = λ m c since come image.
        let here : m ≡ clock parts.save = omega (arith, now.save) in
        subst (λ l. Names l rest.point) (sym (rest.save c
        (subst (λ j. image_at parts.save j c) here image))) rest.names;
    snaps = λ m since come.
        let here : m ≡ clock parts.snaps = omega (arith, now.snaps) in
        subst (λ j. AllBegin (image_at parts.snaps j) rest.pages) (sym here) rest.snaps;
    bank = λ n bank there m since come.
        let here : m ≡ clock bank = omega (arith, now.bank n bank there) in
        subst (λ j. AllBegin (image_at bank j) (rest.counted n)) (sym here) (rest.bank n bank there);
  }

-- a bank of a whole vault is one of each other whole vault
bank_before : {D : Type 0} {old new : Vault D} → IsWhole old → IsWhole new → (n : ℕ) (bank : D)
    → disk_in new (Bank n) ≡ Some bank
    → (was : D) × (disk_in old (Bank n) ≡ Some was)
bank_before {old = old} whole still n bank there = elim (cases_lt n 16) [
  | inl below ↦ some_of (disk_in old (Bank n)) (whole_bank whole n below)
  | inr past ↦ absurd (cc (there, whole_ends still n past))
]

module _ {D : Type 0} {tells : D → Option (List ℕ)} {clock : D → ℕ} {image_at : D → ℕ → List ℕ → Type 0}
    {faults : D → ℕ} where
  -- a later image of a device that was only read is one that it had
  had_image : {was now : D} → OnlyReads tells clock image_at faults was now → (m : ℕ) (c : List ℕ) → m ≤ clock now
      → image_at now m c
      → (image_at was m c × (m ≤ clock was)) ⊎ image_at was (clock was) c
  had_image {was = was} reads m c come image = elim (cases_lt (clock was) m) [
    | inr early ↦ inl (reads.moments.no_new m c early image, early)
    | inl late ↦
        let had = reads.moments.from m c late come image in
        inr (subst (image_at was (clock was)) had.2 had.1)
  ]

  -- what all images since a moment are, they still are after reads
  still_all : {was now : D} → OnlyReads tells clock image_at faults was now → (P : List ℕ → Type 0) (from : ℕ)
      → from ≤ clock was
      → ((m : ℕ) (c : List ℕ) → from ≤ m → m ≤ clock was → image_at was m c → P c)
      → (m : ℕ) (c : List ℕ) → from ≤ m → m ≤ clock now → image_at now m c → P c
  still_all {was = was} reads P from came all m c since come image = elim (had_image reads m c come image) [
    | inl early ↦ all m c since early.1 early.0
    | inr late ↦ all (clock was) c came (omega arith) late
  ]

  -- one device of a vault that was only read
  disk_read : {old new : Vault D} → VaultOnlyReads tells clock image_at faults old new
      → (device : Device) (was now : D)
      → disk_in old device ≡ Some was → disk_in new device ≡ Some now → OnlyReads tells clock image_at faults was now
  disk_read reads device was now before after =
      let read = reads.each device was before in
      subst (OnlyReads tells clock image_at faults was) (same_Some _ _ (sym read.1 ∙ after)) read.2

  -- a vault that was only read rests on
  pub rests_read : {old new : Vault D} {from : Moments} {point : Option Savepoint} {pages : List ℕ}
      {counted : ℕ → List ℕ} → IsWhole old
      → VaultOnlyReads tells clock image_at faults old new
      → RestsSince clock image_at from point pages counted (parts_of old)
      → RestsSince clock image_at from point pages counted (parts_of new)
  rests_read {old = old} {new = new} {from = from} {point = point} {pages = pages}
      {counted = counted} whole reads rests =
      let save = disk_read reads Save old.save new.save refl refl in
      let snaps = disk_read reads Snaps old.snaps new.snaps refl refl in
      record {
        save_came = omega (arith, rests.save_came, save.moments.later);
        snaps_came = omega (arith, rests.snaps_came, snaps.moments.later);
        bank_came = λ n bank there.
            let was = bank_before whole (whole_read reads whole) n bank there in
            let read = disk_read reads (Bank n) was.0 bank was.1 there in
            omega (arith, rests.bank_came n was.0 was.1, read.moments.later);
        save = still_all save (λ c. Names c point) from.save rests.save_came rests.save;
        snaps = λ m since come c image.
            still_all snaps (IsFront pages) from.snaps rests.snaps_came
            (λ k d after before. rests.snaps k after before d) m c since come image;
        bank = λ n bank there m since come c image.
            let was = bank_before whole (whole_read reads whole) n bank there in
            let read = disk_read reads (Bank n) was.0 bank was.1 there in
            still_all read (IsFront (counted n)) (from.bank n) (rests.bank_came n was.0 was.1)
            (λ k d after before. rests.bank n was.0 was.1 k after before d) m c since come image;
      }

-- ---- a stop now

-- the clock of a device that is there
abbrev clock_in : {D : Type 0} → (D → ℕ) → Option D → ℕ
clock_in clock None = 0
clock_in clock (Some disk) = clock disk

module _ {D : Type 0} {tells : D → Option (List ℕ)} {clock : D → ℕ} {image_at : D → ℕ → List ℕ → Type 0}
    {faults : D → ℕ} where
  -- what a stop now leaves of a device that was only read, it left before
  left_before : {was now : D} → OnlyReads tells clock image_at faults was now → (c : List ℕ)
      → image_at now (clock now) c → image_at was (clock was) c
  left_before {was = was} reads c image = elim (left_after c reads.moments image) [
    | inl before ↦ before
    | inr within ↦ subst (image_at was (clock was)) within.2 within.1
  ]

module _ {D : Type 0} {tells : D → Option (List ℕ)} {clock : D → ℕ} {image_at : D → ℕ → List ℕ → Type 0}
    {faults : D → ℕ} {old new : Vault D} (whole : IsWhole old) (reads : VaultOnlyReads tells clock image_at faults old new)
    (stops : StopsNow clock image_at (parts_of old)) where
  had_tie : (tie : Tie) → Contains new.ties.items tie → Contains old.ties.items tie
  had_tie tie has = subst (λ t. Contains t.items tie) reads.ties has

  had_cut : (n began after : ℕ) → HasCut new.cuts.items (Bank n) began after
      → HasCut old.cuts.items (Bank n) began after
  had_cut n began after has =
      let cut : Cut = record { device = Bank n; at = began; after = after } in
      subst (λ t. Contains t.items cut) reads.cuts has

  -- the moments before them
  abbrev before : Moments
  before = record {
    save = clock old.save;
    snaps = clock old.snaps;
    bank = λ n. clock_in clock (disk_in old (Bank n));
  }

  abbrev save_read : OnlyReads tells clock image_at faults old.save new.save
  save_read = disk_read reads Save old.save new.save refl refl

  abbrev snaps_read : OnlyReads tells clock image_at faults old.snaps new.snaps
  snaps_read = disk_read reads Snaps old.snaps new.snaps refl refl

  -- a log file as it was, and as it is
  record WasRead (n : ℕ) (bank : D) : Type 0 where
    was : D
    there : disk_in old (Bank n) ≡ Some was
    read : OnlyReads tells clock image_at faults was bank
    moment : clock_in clock (disk_in old (Bank n)) ≡ clock was

  was_read : (n : ℕ) (bank : D) → disk_in new (Bank n) ≡ Some bank → WasRead n bank
  was_read n bank here =
      let was = bank_before whole (whole_read reads whole) n bank here in
      record {
        was = was.0;
        there = was.1;
        read = disk_read reads (Bank n) was.0 bank was.1 here;
        moment = ap (clock_in clock) was.1;
      }

  -- what a stop leaves now, it left then
  images_before : (at : Moments) (found : Images) → IsNow clock image_at (parts_of new) at
      → AreImages clock image_at (parts_of new) at found → AreImages clock image_at (parts_of old) before found
  images_before at found now images = record {
    save_come = omega arith;
    save = left_before save_read found.save (subst (λ m. image_at new.save m found.save) now.save images.save);
    snaps_come = omega arith;
    snaps = left_before snaps_read found.snaps (subst (λ m. image_at new.snaps m found.snaps) now.snaps images.snaps);
    bank_come = λ n bank there. omega (arith, ap (clock_in clock) there);
    bank = λ n bank there.
        let is = reads.each (Bank n) bank there in
        subst (λ m. image_at bank m (found.bank n)) (sym (ap (clock_in clock) there))
        (left_before is.2 (found.bank n) (subst (λ m. image_at is.0 m (found.bank n)) (now.bank n is.0 is.1)
        (images.bank n is.0 is.1)));
  }

  now_after : CrashesNow clock image_at (parts_of new)
  now_after at found now images =
      let crash = stops.crashes before found (record {
        save = refl;
        snaps = refl;
        bank = λ n bank there. ap (clock_in clock) there;
      }) (images_before at found now images) in
      record {
        images = images;
        alike = λ point names n bank there.
            let w = was_read n bank there in
            let one = crash.alike point names n w.was w.there in
            record {
              front = one.front;
              size = one.size;
              same = λ c image. one.same c (subst (λ m. image_at w.was m c) (sym w.moment)
                  (left_before w.read c (subst (λ m. image_at bank m c) (now.bank n bank there) image)));
            };
        past = λ point names n bank there began after cut less.
            let w = was_read n bank there in
            let past = crash.past point names n w.was w.there began after (had_cut n began after cut) less in
            omega (arith, past, w.moment, w.read.moments.later, now.bank n bank there);
        stored = λ point names tie has same.
            let first = crash.stored point names tie (had_tie tie has) same in
            omega (arith, first, snaps_read.moments.later, now.snaps);
        ended = λ n bank there began after cut less tie end has same is.
            let first = stops.ended tie end (had_tie tie has) is in
            omega (arith, first, save_read.moments.later, now.save);
      }

  -- A stop is a joint crash behind reads where it was one before them.
  pub stops_after_reads : StopsNow clock image_at (parts_of new)
  stops_after_reads = record {
    crashes = now_after;
    ended = λ tie end has is.
        let first = stops.ended tie end (had_tie tie has) is in omega (arith, first, save_read.moments.later);
  }
