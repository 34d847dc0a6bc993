-- What a settling leaves of a vault at rest where it stored nothing.
use Rattle.std.specs.Prelude.{◌≡◌, ℕ, ◌^◌, ◌<◌, zero, suc, List, [], ◌∷◌, Option, Some}
use Rattle.std.specs.Prelude.{None, true, cond, filter, Result, Ok, Err, MatchResult, replicate, length, get_or}
use Rattle.std.specs.Option.{option_map}
use Rattle.std.proofs.Common.{refl, sym, ap, ◌∙◌, subst, arith, lit<}
use Rattle.std.specs.List.{AllByRecursion}
use Rattle.std.proofs.lemmas.Bool.Decides.{nat_tests}
use Rattle.lists.specs.Each.{all_replicate}
use Rattle.lists.specs.Fronts.{IsFront}
use Rattle.log_writer.specs.Points.{sequence_of, point_of, saved_of, IsSaved}
use Rattle.log_writer.specs.Save.{Names}
use Rattle.log_writer.specs.declared.saved.Saved.{Saved}
use Rattle.serial_model.specs.State.{State}
use Rattle.serial_model.specs.declared.key.Key.{Key}
use Rattle.wire_form.specs.declared.bucket.Entry.{Entry}
use Rattle.wire_form.specs.declared.savepoint.Savepoint.{Savepoint}
use Rattle.joint_crashes.specs.Images.{Images, counted_of}
use Rattle.recovery_core.specs.LogEntries.{is_of, greatest, last_of}
use Rattle.recovery_core.specs.Recoverable.{IsRecoverable}
use Rattle.joint_crashes.specs.JointCrash.{Parts, Moments}
use Rattle.joint_crashes.specs.Resting.{IsResting, HasNoRecords, AreTold}
use Rattle.joint_crashes.specs.Story.{Story}
use Rattle.joint_crashes.specs.Cutting.{AreCut, CutsLeave}
use Rattle.joint_crashes.specs.Settling.{story_of}
use Rattle.checkpoints.specs.SettledLaws.{SaysSame}
use Rattle.joint_crashes.specs.SettleRests.{RestsSince}
use Rattle.checkpoints.specs.CrashesRecover.{LeavesSame, HasFiles, old_recovers}
use Rattle.checkpoints.specs.FreshLaws.{zero_at}
use Rattle.joint_crashes.specs.Crashes.Rested.{told_begun, ready_begun, rests_on}
use Rattle.joint_crashes.specs.Crashes.Rested.{point_old, pages_old, counted_old}
use Rattle.joint_crashes.specs.Crashes.Standing.{crash_stands}
use Rattle.joint_crashes.specs.Crashes.StoreSteps.{now_one}

-- without a last entry of any key there is none
pub no_last : (entries : List Entry) → ((key : Key) → last_of key entries ≡ None) → entries ≡ []
no_last [] none = refl
no_last (e ∷ es) none =
    let here : is_of e.key e ≡ true = grind (arith, nat_tests) in
    let some = ap (λ b. greatest (cond b (e ∷ filter (is_of e.key) es) (filter (is_of e.key) es))) here in
    absurd (cc (some, none e.key))

-- fields of a savepoint, with nothing counted of the log files
abbrev pub without_files : Saved → Saved
without_files s = record s { lengths = replicate 16 0 }

-- they are in their ranges
pub is_without_files : (s : Saved) → IsSaved s → IsSaved (without_files s)
is_without_files s is = record {
  first = is.first;
  last = is.last;
  epoch = is.epoch;
  catalogue = is.catalogue;
  newest = is.newest;
  count = is.count;
  banks = refl;
  lengths = all_replicate (λ n. n < 2 ^ 40) 16 0 (lit< tt);
}

-- the next savepoint says what the newest one says, and counts nothing of the log files
pub says_without_files : (sequence : ℕ) (p : Savepoint) (s : Saved) → s ≡ saved_of p
    → SaysSame p (point_of sequence (without_files s))
says_without_files sequence p s is = record {
  epoch = ap (λ (x : Saved). x.epoch) is;
  catalogue = ap (λ (x : Saved). x.catalogue) is;
  count = ap (λ (x : Saved). x.count) is;
  nothing = λ n. zero_at n 16;
}

module _ {D : Type 0} {tells : D → Option (List ℕ)} {clock : D → ℕ} {image_at : D → ℕ → List ℕ → Type 0}
    (reads : (disk : D) (file : List ℕ) → tells disk ≡ Some file → image_at disk (clock disk) file) where
  -- nothing was done: each crash since the devices rest leaves what they stand for
  pub untouched_leaves : {parts : Parts D} {found : Images} {epoch : ℕ} {state : State} {from : Moments}
      → HasFiles parts
      → (rest : IsResting clock image_at parts) → HasNoRecords parts → AreTold tells parts found
      → RestsSince clock image_at from rest.point rest.pages rest.counted parts → (is : IsRecoverable found epoch state)
      → LeavesSame clock image_at from is.reading epoch state parts parts
  untouched_leaves {parts = parts} files rest none told since is =
      let on = rests_on rest none told in
      let s = sequence_of rest.point in
      let next : Savepoint = record { sequence = 0; epoch = 0; catalogue = 0; count = 0; lengths = [] } in
      let story = story_of rest.point next rest.pages rest.pages rest.counted in
      let began = told_begun reads next rest.pages on since in
      record {
        keeps = λ at other after crash. crash;
        now = now_one began (ready_begun rest.point next rest.pages rest.pages rest.counted parts on.bank none.cuts)
            (λ b image. subst (λ x. Names b x) (sym (point_old rest.point next rest.pages rest.pages rest.counted))
            (subst (λ l. Names l rest.point) (sym (rest.save b image)) rest.names));
        ended = began.save.ended_time;
        recovers = λ at other after crash.
            let k = crash_stands began after crash in
            let same : k.0 ≡ s = omega (arith, k.1, k.2) in
            old_recovers reads parts files files rest told is
            (subst (λ x. Names other.save x) (ap story.point same
            ∙ point_old rest.point next rest.pages rest.pages rest.counted) k.3.names)
            (subst (λ l. IsFront l other.snaps) (ap story.pages same
            ∙ pages_old rest.point next rest.pages rest.pages rest.counted) k.3.pages)
            (λ n bank there. subst (λ l. IsFront l (other.bank n))
            (ap (λ j. story.counted j n) same ∙ counted_old rest.point next rest.pages rest.pages rest.counted n)
            (k.3.counted n bank there));
      }

-- whatever cuts answered, what they left is known
pub cuts_left : {D T E : Type 0} {clock : D → ℕ} {image_at : D → ℕ → List ℕ → Type 0} {story : Story}
    {from : Moments} {low high : ℕ}
    {old new : Parts D} (numbers : List ℕ) (r : Result T E)
    → MatchResult r (λ _. AreCut clock image_at story from low high numbers old new)
    (λ _. CutsLeave clock image_at story from low high old new)
    → CutsLeave clock image_at story from low high old new
cuts_left numbers (Ok x) cut = cut.left
cuts_left numbers (Err e) left = left

-- what a savepoint says is told of one
pub point_says : (newest : Option Savepoint) (s : Saved) → Some s ≡ option_map saved_of newest
    → (p : Savepoint) × (newest ≡ Some p) × (s ≡ saved_of p)
point_says None s says = absurd (cc)
point_says (Some p) s says = (p, refl, cc)

-- lengths that are 0
zeros : (ns : List ℕ) → AllByRecursion (λ n. n ≡ 0) ns → (n : ℕ) → get_or ns n 0 ≡ 0
zeros [] all n = refl
zeros (x ∷ xs) all zero = all.0
zeros (x ∷ xs) all (suc n) = zeros xs all.1 n

-- a savepoint with these lengths counts nothing of any log file
pub all_zero : (p : Savepoint) (s : Saved) → s ≡ saved_of p → AllByRecursion (λ n. n ≡ 0) s.lengths → (n : ℕ)
    → counted_of (Some p) n ≡ 0
all_zero p s is all n = ap (λ (x : Saved). get_or x.lengths n 0) (sym is) ∙ zeros s.lengths all n

-- are as many zeros
replicated : (ns : List ℕ) → AllByRecursion (λ n. n ≡ 0) ns → ns ≡ replicate (length ns) 0
replicated [] all = refl
replicated (x ∷ xs) all = ap (λ n. n ∷ xs) all.0 ∙ ap (λ l. 0 ∷ l) (replicated xs all.1)

-- and what counts nothing of the log files stays without them
pub stays_without : (s : Saved) → IsSaved s → AllByRecursion (λ n. n ≡ 0) s.lengths → s ≡ without_files s
stays_without s is all = ap (λ l. record s { lengths = l })
    (replicated s.lengths all ∙ ap (λ n. replicate n 0) is.banks)

-- what comes of a vault at rest comes of an equal one
pub carry_rest : {D : Type 0} {tells : D → Option (List ℕ)} {clock : D → ℕ} {image_at : D → ℕ → List ℕ → Type 0}
    {found : Images} {from : Moments} (P : Parts D → Type 0) (old mid : Parts D) → mid ≡ old
    → ((rest : IsResting clock image_at mid) → HasNoRecords mid → AreTold tells mid found
    → RestsSince clock image_at from rest.point rest.pages rest.counted mid → P mid)
    → (rest : IsResting clock image_at old) → HasNoRecords old → AreTold tells old found
    → RestsSince clock image_at from rest.point rest.pages rest.counted old → P old
carry_rest {tells = tells} {clock = clock} {image_at = image_at} {found = found} {from = from} P old mid same comes =
    subst (λ p. (rest : IsResting clock image_at p) → HasNoRecords p → AreTold tells p found
    → RestsSince clock image_at from rest.point rest.pages rest.counted p → P p) same comes
