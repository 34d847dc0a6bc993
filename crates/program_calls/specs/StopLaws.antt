-- What follows from the main theorem of stops, over a vault on which nothing that counts was pending. From the end of
-- its store on each epoch whose line was printed is covered, with all its commits. Each snapshot is right as the call
-- returns. And what the run itself leaves, where no device failed, the next run may begin on.
use Rattle.std.specs.Prelude.{◌≡◌, ◌⊎◌, ◌≤◌, ◌<◌, ◌++◌, ◌∷◌, ℕ, List, [], Option, Some, None, filter, flat_map}
use Rattle.std.specs.Prelude.{nat_le, option_to_list, slice_get}
use Rattle.std.specs.List.{Contains}
use Rattle.std.proofs.Common.{zero, suc, inl, inr, ap, subst, sym, arith}
use Rattle.std.proofs.lemmas.Bool.{cases_lt}
use Rattle.std.proofs.lemmas.Bool.Decides.{nat_tests}
use Rattle.lists.specs.Elements.{in_cases, in_filtered, in_head, in_none, in_tail}
use Rattle.log_writer.specs.Cuts.{whole_ends}
use Rattle.outside.specs.Disk.{IfTold, Only}
use Rattle.log_writer.specs.Vault.{disk_in, IsWhole}
use Rattle.outside.specs.declared.device.Device.TheVariants.{Bank}
use Rattle.log_writer.specs.declared.records.Tie.{Tie}
use Rattle.log_writer.specs.declared.vault.Vault.{Vault}
use Rattle.serial_model.specs.History.{Entry, as_of}
use Rattle.serial_model.specs.State.{State}
use Rattle.serial_model.specs.declared.decl.Decl.{Decl}
use Rattle.script_grammar.specs.Script.{Bytes}
use Rattle.joint_crashes.specs.Images.{Images}
use Rattle.checkpoints.specs.RestsLaws.{settled_rests}
use Rattle.joint_crashes.specs.JointCrash.{AreImages, IsJointCrash, IsNow, IsSince, Moments, Parts, parts_of}
use Rattle.recovery_core.specs.Recoverable.{IsReading, IsRecoverable, Reading}
use Rattle.joint_crashes.specs.Resting.{AreSettled, AreTold, IsResting, StopsNow}
use Rattle.tx_script.specs.Run.{Ran}
use Rattle.tx_script.specs.declared.answer.Answer.{Answer}
use Rattle.tx_script.specs.declared.answer.Answer.TheVariants as answers
use Rattle.round_engine.specs.Saves.{saves_told}
use Rattle.command_line.specs.declared.command.Command.{Command}
use Rattle.program_calls.specs.declared.ending.Ending.{Ending}
use Rattle.program_calls.specs.Causes.{RestsAgain}
use Rattle.program_calls.specs.Main.{Came, decls_in}
use Rattle.program_calls.specs.RoundCauses.{saved_in}
use Rattle.program_calls.specs.RunKept.{AtRest, IsRunThrough, MayLeave}
use Rattle.program_calls.specs.Snapshots.{EachSnapshot}
use Rattle.program_calls.specs.Vaults.{NoneFailed, Vaults}

-- ---- the lines that tell an epoch saved

-- One of the rounds printed `durable E`, or a line `k.I save E`.
pub record TellsSaved (rans : List Ran) (epoch : ℕ) : Type 0 where
  pub ran : Ran
  pub has : Contains rans ran
  pub tells : (ran.printed.durable ≡ Some epoch) ⊎ Contains ran.printed.answers (answers.Save epoch)

-- an item of a list stands somewhere in it
place_of : {X : Type 0} (xs : List X) (x : X) → Contains xs x → (i : ℕ) × (slice_get xs i ≡ Some x)
place_of [] x has = absurd (in_none x has)
place_of (y ∷ xs) x has = elim (in_cases x y xs has) [
  | inl here ↦ (zero, ap Some here)
  | inr later ↦ let at = place_of xs x later in (suc at.0, at.1)
]

-- and in each list that has it in front, or behind
in_front : {X : Type 0} (xs ys : List X) (x : X) → Contains xs x → Contains (xs ++ ys) x
in_front [] ys x has = absurd (in_none x has)
in_front (y ∷ xs) ys x has = elim (in_cases x y xs has) [
  | inl here ↦ subst (λ z. Contains (y ∷ (xs ++ ys)) z) here (in_head y (xs ++ ys))
  | inr later ↦ in_tail x y (xs ++ ys) (in_front xs ys x later)
]

behind : {X : Type 0} (xs ys : List X) (x : X) → Contains ys x → Contains (xs ++ ys) x
behind [] ys x has = has
behind (y ∷ xs) ys x has = in_tail x y (xs ++ ys) (behind xs ys x has)

-- A save that is answered is one of those that are told.
is_told : (told : List Answer) (epoch : ℕ) → Contains told (answers.Save epoch) → Contains (saves_told told) epoch
is_told [] epoch has = absurd (in_none (answers.Save epoch) has)
is_told (answers.Save other ∷ more) epoch has = elim (in_cases (answers.Save epoch) (answers.Save other) more has) [
  | inl here ↦ let same : other ≡ epoch = cc in subst (λ e. Contains (other ∷ saves_told more) e) same
      (in_head other (saves_told more))
  | inr later ↦ in_tail epoch other (saves_told more) (is_told more epoch later)
]
is_told (answers.Epoch other ∷ more) epoch has = elim (in_cases (answers.Save epoch) (answers.Epoch other) more has) [
  | inl here ↦ absurd cc
  | inr later ↦ is_told more epoch later
]
is_told (answers.Snap other new ∷ more) epoch has =
    elim (in_cases (answers.Save epoch) (answers.Snap other new) more has) [
      | inl here ↦ absurd cc
      | inr later ↦ is_told more epoch later
    ]
is_told (answers.Empty ∷ more) epoch has = elim (in_cases (answers.Save epoch) answers.Empty more has) [
  | inl here ↦ absurd cc
  | inr later ↦ is_told more epoch later
]
is_told (answers.SnapFull ∷ more) epoch has = elim (in_cases (answers.Save epoch) answers.SnapFull more has) [
  | inl here ↦ absurd cc
  | inr later ↦ is_told more epoch later
]
is_told (answers.Deep ∷ more) epoch has = elim (in_cases (answers.Save epoch) answers.Deep more has) [
  | inl here ↦ absurd cc
  | inr later ↦ is_told more epoch later
]
is_told (answers.Drop dropped kept ∷ more) epoch has =
    elim (in_cases (answers.Save epoch) (answers.Drop dropped kept) more has) [
      | inl here ↦ absurd cc
      | inr later ↦ is_told more epoch later
    ]
is_told (answers.Limit ∷ more) epoch has = elim (in_cases (answers.Save epoch) answers.Limit more has) [
  | inl here ↦ absurd cc
  | inr later ↦ is_told more epoch later
]
is_told (answers.Device ∷ more) epoch has = elim (in_cases (answers.Save epoch) answers.Device more has) [
  | inl here ↦ absurd cc
  | inr later ↦ is_told more epoch later
]
is_told (answers.Damaged ∷ more) epoch has = elim (in_cases (answers.Save epoch) answers.Damaged more has) [
  | inl here ↦ absurd cc
  | inr later ↦ is_told more epoch later
]
is_told (answers.Memory ∷ more) epoch has = elim (in_cases (answers.Save epoch) answers.Memory more has) [
  | inl here ↦ absurd cc
  | inr later ↦ is_told more epoch later
]
is_told (answers.Unrun ∷ more) epoch has = elim (in_cases (answers.Save epoch) answers.Unrun more has) [
  | inl here ↦ absurd cc
  | inr later ↦ is_told more epoch later
]

-- The join's epoch is one of those that a round saved.
joined_in : (durable : Option ℕ) (epoch : ℕ) → durable ≡ Some epoch → Contains (option_to_list durable) epoch
joined_in None epoch is = absurd cc
joined_in (Some other) epoch is =
    let same : other ≡ epoch = cc in subst (λ e. Contains (other ∷ []) e) same (in_head other [])

saved_by : (ran : Ran) (epoch : ℕ)
    → (ran.printed.durable ≡ Some epoch) ⊎ Contains ran.printed.answers (answers.Save epoch)
    → Contains (saved_in ran) epoch
saved_by ran epoch (inl joined) =
    behind (saves_told ran.printed.answers) (option_to_list ran.printed.durable) epoch
    (joined_in ran.printed.durable epoch joined)
saved_by ran epoch (inr line) =
    in_front (saves_told ran.printed.answers) (option_to_list ran.printed.durable) epoch
    (is_told ran.printed.answers epoch line)

saved_of_all : (rans : List Ran) (ran : Ran) (epoch : ℕ) → Contains rans ran → Contains (saved_in ran) epoch
    → Contains (flat_map saved_in rans) epoch
saved_of_all [] ran epoch has is = absurd (in_none ran has)
saved_of_all (first ∷ rans) ran epoch has is = elim (in_cases ran first rans has) [
  | inl here ↦ in_front (saved_in first) (flat_map saved_in rans) epoch
      (subst (λ r. Contains (saved_in r) epoch) (sym here) is)
  | inr later ↦ behind (saved_in first) (flat_map saved_in rans) epoch (saved_of_all rans ran epoch later is)
]

-- So an epoch whose line was printed stands among those that were saved.
pub told_saved : (rans : List Ran) (epoch : ℕ) → TellsSaved rans epoch
    → (i : ℕ) × (slice_get (flat_map saved_in rans) i ≡ Some epoch)
told_saved rans epoch told = place_of (flat_map saved_in rans) epoch
    (saved_of_all rans told.ran epoch told.has (saved_by told.ran epoch told.tells))

-- A commit up to an epoch is among those of which the state as of a later one is.
pub commit_kept : (commits : List Entry) (commit : Entry) (epoch later : ℕ) → Contains commits commit
    → commit.number.epoch ≤ epoch → epoch ≤ later
    → Contains (filter (λ (e : Entry). nat_le e.number.epoch later) commits) commit
commit_kept commits commit epoch later has up_to then =
    let less : commit.number.epoch ≤ later = omega (arith, up_to, then) in
    in_filtered (λ (e : Entry). nat_le e.number.epoch later) commit commits has (grind (arith, nat_tests, less))

-- ---- a run over a vault on which nothing that counts is pending

-- a whole vault has the log files below 16 alone
within : {D : Type 0} {vault : Vault D} → IsWhole vault → (n : ℕ) (bank : D) → disk_in vault (Bank n) ≡ Some bank
    → n < 16
within whole n bank there = elim (cases_lt n 16) [
  | inl below ↦ below
  | inr past ↦ absurd (cc (there, whole_ends whole n past))
]

-- What devices tell is what a stop now may leave of them.
images_told : {D : Type 0} {tells : D → Option Bytes} {clock : D → ℕ} {image_at : D → ℕ → Bytes → Type 0}
    {parts : Parts D}
    → ((disk : D) (file : Bytes) → tells disk ≡ Some file → image_at disk (clock disk) file) → (at : Moments)
    (left : Images) → IsNow clock image_at parts at → AreTold tells parts left → AreImages clock image_at parts at left
images_told {image_at = image_at} {parts = parts} reads at left here told = record {
  save_come = omega (arith, here.save);
  save = subst (λ m. image_at parts.save m left.save) (sym here.save) (reads parts.save left.save told.save);
  snaps_come = omega (arith, here.snaps);
  snaps = subst (λ m. image_at parts.snaps m left.snaps) (sym here.snaps) (reads parts.snaps left.snaps told.snaps);
  bank_come = λ n bank there. omega (arith, here.bank n bank there);
  bank = λ n bank there. subst (λ m. image_at bank m (left.bank n)) (sym (here.bank n bank there))
      (reads bank (left.bank n) (told.bank n bank there));
}

-- Nothing that counts is pending where each device has one image.
pub settled_begins : {D : Type 0} (v : Vaults D) (found : Images) (from : Moments) (epoch : ℕ) (state : State)
    → IsWhole v.was → AreSettled v.tells v.clock v.image_at (parts_of v.was) found → IsRecoverable found epoch state
    → IsNow v.clock v.image_at (parts_of v.was) from → AtRest v
settled_begins v found from epoch state whole settled kept now = record {
  found = found;
  from = from;
  epoch = epoch;
  state = state;
  told = settled.told;
  rests = settled_rests (within whole) settled kept;
  kept = kept;
  now = now;
}

module _ {D : Type 0} (v : Vaults D) (command : Command) (had left : Option Bytes) (Shows : List Ran → Ending → Type 0)
    (came : Came v command had left Shows) (rested : AtRest v) where
  -- the storages that the run declares
  abbrev decls : List Decl
  decls = decls_in came.course.script

  -- Of each epoch that a line tells durable, or saved, the store has ended; from that moment of the save on each stop
  -- leaves the run through that epoch or a later one, with all commits up to it.
  pub each_cover : (saved : ℕ) → TellsSaved came.course.rans saved
      → (tie : Tie) × (end : ℕ) × Contains v.is.ties.items tie × (tie.ended ≡ Some end)
      × ((at : Moments) (images : Images) → MayLeave v rested.from at images
      → end ≤ at.save → (later : ℕ) × (saved ≤ later) × IsRunThrough images decls rested.state came.course.commits later
      × ((commit : Entry) → Contains came.course.commits commit → commit.number.epoch ≤ saved
      → Contains (filter (λ (e : Entry). nat_le e.number.epoch later) came.course.commits) commit))
  each_cover saved told =
      let place = told_saved came.course.rans saved told in
      let covered = came.covers.covers rested place.0 saved place.1 in (
        covered.tie,
        covered.end,
        covered.has,
        covered.ended,
        λ at images may past.
            let it = came.stops rested at images may in
            let least = covered.covers at images it.0 (as_of decls rested.state came.course.commits it.0) may.since
            may.crash past it.2.is in (
              it.0,
              least,
              it.2,
              λ commit has up_to. commit_kept came.course.commits commit saved it.0 has up_to least,
            ),
      )

  -- So each snapshot that devices tell as the call returns is as it has to be, also where some of them failed: a stop
  -- then is one of those since the call began.
  pub return_snapshots : StopsNow v.clock v.image_at (parts_of v.was) ⊎ (came.course.rans ≡ [] → ⊥)
      → ((disk : D) (file : Bytes) → v.tells disk ≡ Some file → v.image_at disk (v.clock disk) file)
      → (at : Moments) → IsSince rested.from at → IsNow v.clock v.image_at (parts_of v.is) at
      → (left : Images) (now : Reading) → AreTold v.tells (parts_of v.is) left → IsReading left now
      → EachSnapshot rested.kept.reading now rested.epoch rested.state decls came.course.commits
  return_snapshots before reads at since here left now told is =
      let crash = (came.behind.instant rested before).crashes at left here (images_told reads at left here told) in
      came.snapshots.stopped rested at left now (record { since = since; crash = crash }) is

  -- The next run may begin where neither a device nor the sink failed, and the devices tell their bytes: nothing that
  -- counts is pending.
  pub next_begins : (status : ℕ) → RestsAgain v.tells v.clock v.image_at status v.was v.is → (status ≡ 4 → ⊥)
      → (status ≡ 5 → ⊥) → NoneFailed v
      → ((disk : D) (file : Bytes) → v.tells disk ≡ Some file → v.image_at disk (v.clock disk) file)
      → (file : Bytes) → v.tells v.is.save ≡ Some file → IsResting v.clock v.image_at (parts_of v.is)
  next_begins status again not_4 not_5 none reads file told =
      came.behind.rests rested none file (reads v.is.save file told) (again.again not_4 not_5 one file told)
    where
      one : IfTold (v.tells v.was.save) (Only v.clock v.image_at v.was.save)
      one bytes is =
          let here : rested.rests.file ≡ bytes =
          sym (rested.rests.save bytes (reads v.was.save bytes is)) in
          subst (Only v.clock v.image_at v.was.save) here rested.rests.save
