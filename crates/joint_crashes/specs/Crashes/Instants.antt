-- The present instant as a joint crash, and joint crashes that stay.
use Rattle.std.proofs.Common.{◌≡◌, ◌≤◌, ◌<◌, ◌⊎◌, inl, inr, ℕ, List, Option, Some, sym, ◌∙◌, ap, subst, arith}
use Rattle.std.specs.List.{Contains}
use Rattle.outside.specs.declared.device.Device.TheVariants.{Bank}
use Rattle.log_writer.specs.declared.records.Tie.{Tie}
use Rattle.outside.specs.Disk.{Goes, Runs}
use Rattle.wire_form.specs.declared.savepoint.Savepoint.{Savepoint}
use Rattle.log_writer.specs.Points.{sequence_of}
use Rattle.log_writer.specs.Newest.{names_one}
use Rattle.log_writer.specs.Save.{Names}
use Rattle.outside.specs.Fronts.{AllBegin}
use Rattle.outside.specs.Growth.{Grows}
use Rattle.joint_crashes.specs.Story.{Lasts}
use Rattle.joint_crashes.specs.Images.{counted_of}
use Rattle.joint_crashes.specs.JointCrash.{Parts, Moments, HasCut, CrashesNow, KeepsCrashes}
use Rattle.joint_crashes.specs.Story.{Story, BankOpen, BankReady, IsTold}
use Rattle.outside.specs.Fronts.{begins_less}

module _ {D : Type 0} {clock : D → ℕ} {image_at : D → ℕ → List ℕ → Type 0} where
  pub lasts_none : {disk : D} → Lasts clock image_at disk disk
  lasts_none = record { later = omega arith; kept = λ m c within left. left; no_new = λ m c within left. left }

  pub lasts_then : {a b c : D} → Lasts clock image_at a b → Lasts clock image_at b c → Lasts clock image_at a c
  lasts_then first next = record {
    later = omega (arith, first.later, next.later);
    kept = λ m c within left. next.kept m c (omega (arith, first.later)) (first.kept m c within left);
    no_new = λ m c within left. first.no_new m c within (next.no_new m c (omega (arith, first.later)) left);
  }

  pub lasts_runs : {old new : D} {P : List ℕ → Type 0} → Runs clock image_at old new P → Lasts clock image_at old new
  lasts_runs runs = record { later = runs.later; kept = runs.kept; no_new = runs.no_new }

  pub lasts_goes : {old new : D} {step : List ℕ → List ℕ → Type 0} → Goes clock image_at step old new
      → Lasts clock image_at old new
  lasts_goes goes = record { later = goes.later; kept = goes.kept; no_new = goes.no_new }

  pub lasts_grows : {old new : D} {was now : List ℕ} → Grows clock image_at old new was now
      → Lasts clock image_at old new
  lasts_grows grown = record { later = grown.later; kept = grown.kept; no_new = grown.no_new }

  -- a log file that nobody cut since a savepoint is ready for it
  pub open_ready : {counted : ℕ → List ℕ} {from low high k : ℕ} {bank : D} {IsCut : ℕ → ℕ → Type 0}
      {made : List ℕ} → BankOpen clock image_at counted from low high bank IsCut made
      → low ≤ k → k ≤ high → ((began after : ℕ) → IsCut began after → after ≤ k)
      → BankReady clock image_at counted k bank IsCut
  open_ready {counted = counted} {k = k} {bank = bank} {made = made} opened at_least at_most last = record {
    now = begins_less (image_at bank (clock bank)) (counted k) made opened.now (opened.counts k at_least at_most last);
    past = λ began after cut less. opened.past began after cut;
  }

  module _ {story : Story} {from : Moments} {low : ℕ} where
    -- what a present image of the save names is one of the sequences
    named_one : {high : ℕ} {parts : Parts D} {m : ℕ} → IsTold clock image_at story from low high parts
        → from.save ≤ m → m ≤ clock parts.save
        → (c : List ℕ) (point : Option Savepoint) → image_at parts.save m c → Names c point
        → (k : ℕ) × (low ≤ k) × (k ≤ high) × (point ≡ story.point k) × (sequence_of point ≡ k)
    named_one {m = m} told since come c point image names =
        let named = told.save.names m c since come image in
        let same = names_one c point (story.point named.0) names named.3 in
        (named.0, named.1, named.2, same, ap sequence_of same ∙ told.save.numbered named.0 named.1 named.2)

    pub now_ready : {high : ℕ} {parts : Parts D} → IsTold clock image_at story from low high parts
        → ((c : List ℕ) (k : ℕ) → image_at parts.save (clock parts.save) c → Names c (story.point k) → low ≤ k
        → k ≤ high
        → (n : ℕ) (bank : D) → parts.banks n ≡ Some bank
        → BankReady clock image_at (λ j. story.counted j n) k bank (HasCut parts.cuts (Bank n)))
        → CrashesNow clock image_at parts
    now_ready {parts = parts} told ready at found now images =
        let named : (point : Option Savepoint) → Names found.save point
        → (k : ℕ) × (low ≤ k) × _ × (point ≡ story.point k) × (sequence_of point ≡ k)
        = λ point names. named_one told (omega (
          arith,
          told.save.began,
          now.save,
        )) images.save_come found.save point images.save names in
        let is_ready = λ (point : Option Savepoint) (names : Names found.save point) (n : ℕ) (bank : D)
        (there : parts.banks n ≡ Some bank).
        let k = named point names in
        ready found.save k.0 (subst (λ m. image_at parts.save m found.save) now.save images.save)
        (subst (λ p. Names found.save p) k.3 names) k.1 k.2 n bank there in
        record {
          images = images;
          alike = λ point names n bank there.
              let k = named point names in
              let here = now.bank n bank there in
              record {
                front = story.counted k.0 n;
                size = told.sized n k.0 bank there k.1 k.2 ∙ ap (λ p. counted_of p n) (sym k.3);
                same = subst (λ m. AllBegin (image_at bank m) (story.counted k.0 n)) (sym here)
                    ((is_ready point names n bank there).now);
              };
          past = λ point names n bank there began after cut less.
              let k = named point names in
              omega (
                arith,
                (is_ready point names n bank there).past began after cut (omega (arith, less, k.4)),
                now.bank n bank there,
              );
          stored = λ point names tie has is. omega (arith, told.snaps.times tie has, now.snaps);
          ended = λ n bank there began after cut past tie end has is ended.
              omega (arith, told.save.ended_time tie end has ended, now.save);
        }

    -- calls after which what was a joint crash is one
    pub keeps_by : {s : ℕ} {old new : Parts D} → IsTold clock image_at story from low s old
        → Lasts clock image_at old.save new.save → Lasts clock image_at old.snaps new.snaps
        → ((n : ℕ) (bank : D) → new.banks n ≡ Some bank
        → (was : D) × (old.banks n ≡ Some was) × Lasts clock image_at was bank)
        → ((tie : Tie) → Contains new.ties tie → Contains old.ties tie ⊎ (s < tie.sequence))
        → ((n : ℕ) (bank : D) → old.banks n ≡ Some bank → (began after : ℕ) → HasCut new.cuts (Bank n) began after
        → HasCut old.cuts (Bank n) began after ⊎ ((s ≤ after) × (clock bank ≤ began)))
        → KeepsCrashes clock image_at from old new
    keeps_by {old = old} {new = new} told save snaps banks ties cuts at found since crash =
        let named : (point : Option Savepoint) → Names found.save point
        → (k : ℕ) × (low ≤ k) × _ × (point ≡ story.point k) × (sequence_of point ≡ k)
        = λ point names. named_one told since.save crash.images.save_come found.save point crash.images.save names in
        record {
          images = record {
            save_come = omega (arith, crash.images.save_come, save.later);
            save = save.kept at.save found.save crash.images.save_come crash.images.save;
            snaps_come = omega (arith, crash.images.snaps_come, snaps.later);
            snaps = snaps.kept at.snaps found.snaps crash.images.snaps_come crash.images.snaps;
            bank_come = λ n bank there. let was = banks n bank there in omega
                (arith, crash.images.bank_come n was.0 was.1, was.2.later);
            bank = λ n bank there. let was = banks n bank there in was.2.kept (at.bank n) (found.bank n)
                (crash.images.bank_come n was.0 was.1) (crash.images.bank n was.0 was.1);
          };
          alike = λ point names n bank there.
              let was = banks n bank there in
              let alike = crash.alike point names n was.0 was.1 in
              record {
                front = alike.front;
                size = alike.size;
                same = λ c left. alike.same c (was.2.no_new (at.bank n) c (crash.images.bank_come n was.0 was.1) left);
              };
          past = λ point names n bank there began after cut less.
              let was = banks n bank there in
              elim (cuts n was.0 was.1 began after cut) [
                | inl older ↦ crash.past point names n was.0 was.1 began after older less
                | inr this ↦ let k = named point names in absurd (omega (arith, this.0, less, k.2, k.4))
              ];
          stored = λ point names tie has is. elim (ties tie has) [
            | inl older ↦ crash.stored point names tie older is
            | inr later ↦ let k = named point names in absurd (omega (arith, later, is, k.2, k.4))
          ];
          ended = λ n bank there began after cut past tie end has is ended.
              let was = banks n bank there in
              elim (cuts n was.0 was.1 began after cut) [
                | inr this ↦ absurd (omega (arith, this.1, past, crash.images.bank_come n was.0 was.1))
                | inl older ↦ elim (ties tie has) [
                  | inl first ↦ crash.ended n was.0 was.1 began after older past tie end first is ended
                  | inr later ↦ absurd (omega (arith, later, is, told.older n began after older))
                ]
              ];
        }

-- where nothing is done no joint crash is lost
pub keeps_none : {D : Type 0} {clock : D → ℕ} {image_at : D → ℕ → List ℕ → Type 0} {from : Moments}
    {parts : Parts D} → KeepsCrashes clock image_at from parts parts
keeps_none at found since crash = crash

-- nor is one in two calls that each lose none
pub keeps_then : {D : Type 0} {clock : D → ℕ} {image_at : D → ℕ → List ℕ → Type 0} {from : Moments}
    {a b c : Parts D} → KeepsCrashes clock image_at from a b → KeepsCrashes clock image_at from b c
    → KeepsCrashes clock image_at from a c
keeps_then first next at found since crash = next at found since (first at found since crash)
