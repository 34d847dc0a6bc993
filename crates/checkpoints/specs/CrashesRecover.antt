-- Whatever a crash since a settling began leaves, the same epoch and state are recovered from it.
use Rattle.std.specs.Prelude.{◌≡◌, ℕ, ◌*◌, ◌^◌, ◌<◌}
use Rattle.std.specs.Prelude.{List, [], ◌∷◌, Option, Some, None, length, take}
use Rattle.std.proofs.Common.{inl, inr, refl, sym, ap, ◌∙◌, subst, arith}
use Rattle.std.specs.FinMap.{get}
use Rattle.std.specs.List.{AllByRecursion, Contains}
use Rattle.std.proofs.lemmas.List.{take_all}
use Rattle.lists.specs.Elements.{in_none}
use Rattle.lists.specs.Fronts.{IsFront}
use Rattle.serial_model.specs.State.{State}
use Rattle.serial_model.specs.declared.key.Key.{Key}
use Rattle.wire_form.specs.Bytes.{bytes_of}
use Rattle.wire_form.specs.ByteLaws.{length-bytes_of}
use Rattle.wire_form.specs.Device.{HasWords}
use Rattle.wire_form.specs.Pages.{Contents, IsCatalogue, catalogue_words}
use Rattle.wire_form.specs.declared.savepoint.Savepoint.{Savepoint}
use Rattle.log_writer.specs.Newest.{names_one}
use Rattle.log_writer.specs.Save.{Names}
use Rattle.snapshot_store.specs.Places.{page}
use Rattle.joint_crashes.specs.Images.{Images, count_of, counted_of}
use Rattle.recovery_core.specs.Catalogues.{HasPages, IsFirst}
use Rattle.recovery_core.specs.Recoverable.{counting, IsRecoverable, Reading}
use Rattle.recovery_core.specs.RecoverableLaws.{page_in_front, CountsSame}
use Rattle.recovery_core.specs.SnapshotsKept.{StandsAsRead, stands_same}
use Rattle.checkpoints.specs.SettledLaws.{SaysSame, settled_same, IsFirstPoint, first_recoverable}
use Rattle.joint_crashes.specs.JointCrash.{Parts, Moments, IsSince, IsJointCrash, CrashesNow, KeepsCrashes}
use Rattle.joint_crashes.specs.Resting.{IsResting, AreTold, HaveEnded}
use Rattle.joint_crashes.specs.Settling.{FoundOldOrNew, IsSafe}

-- bytes that begin with so many others, which are the front
front_is : (front bytes : List ℕ) (count : ℕ) → length front ≡ count → IsFront front bytes → take count bytes ≡ front
front_is front bytes count size is = ap (λ k. take k bytes) (sym size) ∙ is

-- What a settling leaves of a vault: what was a joint crash is one still, a stop now is one, and each of them since
-- these moments stands for this epoch and this state, with the snapshots of what was read; and stores that are told to
-- have ended had ended by now.
pub record LeavesSame {D : Type 0} (clock : D → ℕ) (image_at : D → ℕ → List ℕ → Type 0) (from : Moments)
    (was : Reading) (epoch : ℕ) (state : State) (old new : Parts D) : Type 0 where
  pub keeps : KeepsCrashes clock image_at from old new
  pub now : CrashesNow clock image_at new
  pub ended : HaveEnded clock new
  pub recovers : (at : Moments) (found : Images) → IsSince from at → IsJointCrash clock image_at new at found
      → StandsAsRead was found epoch state

-- all 16 log files are there
abbrev pub HasFiles : {D : Type 0} → Parts D → Type 0
HasFiles {D} parts = (n : ℕ) → n < 16 → (bank : D) × (parts.banks n ≡ Some bank)

module _ {D : Type 0} {tells : D → Option (List ℕ)} {clock : D → ℕ} {image_at : D → ℕ → List ℕ → Type 0}
    (reads : (disk : D) (file : List ℕ) → tells disk ≡ Some file → image_at disk (clock disk) file) where
  -- what a resting vault reads begins with what counts
  pages_read : {parts : Parts D} {found : Images} → (rest : IsResting clock image_at parts) → AreTold tells parts found
      → take (512 * count_of rest.point) found.snaps ≡ rest.pages
  pages_read {parts = parts} {found = found} rest told =
      front_is rest.pages found.snaps (512 * count_of rest.point) rest.pages_sized
      (rest.snaps found.snaps (reads parts.snaps found.snaps told.snaps))

  bytes_read : {parts : Parts D} {found : Images} → (rest : IsResting clock image_at parts) → AreTold tells parts found
      → (n : ℕ) (bank : D) → parts.banks n ≡ Some bank → take (counted_of rest.point n) (found.bank n) ≡ rest.counted n
  bytes_read {found = found} rest told n bank there =
      front_is (rest.counted n) (found.bank n) (counted_of rest.point n) (rest.bank_sized n bank there)
      (rest.bank n bank there (found.bank n) (reads bank (found.bank n) (told.bank n bank there)))

  -- and names what counts
  pub point_read : {parts : Parts D} {found : Images} (point : Option Savepoint)
      → (rest : IsResting clock image_at parts) → AreTold tells parts found
      → Names found.save point → point ≡ rest.point
  point_read {parts = parts} {found = found} point rest told names =
      names_one found.save point rest.point names
      (subst (λ l. Names l rest.point) (sym (rest.save found.save (reads parts.save found.save told.save))) rest.names)

  -- images that name the old savepoint have all that it counts
  old_counts : {parts : Parts D} {found other : Images} (after : Parts D) → HasFiles parts → HasFiles after
      → (rest : IsResting clock image_at parts) → AreTold tells parts found
      → Names other.save rest.point → IsFront rest.pages other.snaps
      → ((n : ℕ) (bank : D) → after.banks n ≡ Some bank → IsFront (rest.counted n) (other.bank n))
      → CountsSame rest.point found other
  old_counts {found = found} {other = other} after files still rest told names snaps banks = record {
    names = names;
    snaps = subst (λ l. IsFront l other.snaps) (sym (pages_read rest told)) snaps;
    bank = λ n below.
        let bank = files n below in
        let now = still n below in
        subst (λ l. IsFront l (other.bank n)) (sym (bytes_read rest told n bank.0 bank.1)) (banks n now.0 now.1);
  }

  -- and stand for what they stood for
  pub old_recovers : {parts : Parts D} {found other : Images} {epoch : ℕ} {state : State} (after : Parts D)
      → HasFiles parts → HasFiles after → (rest : IsResting clock image_at parts) → AreTold tells parts found
      → (is : IsRecoverable found epoch state) → Names other.save rest.point → IsFront rest.pages other.snaps
      → ((n : ℕ) (bank : D) → after.banks n ≡ Some bank → IsFront (rest.counted n) (other.bank n))
      → StandsAsRead is.reading other epoch state
  old_recovers {found = found} {other = other} {epoch = epoch}
      {state = state} after files still rest told is names snaps banks =
      let read : is.reading.point ≡ rest.point = point_read is.reading.point rest told is.is.names in
      stands_same found other epoch state is (subst (λ x. CountsSame x found other) (sym read)
      (old_counts after files still rest told names snaps banks))

  -- A vault with a savepoint is settled: the next savepoint says the same, and no entry counted.
  pub settled_recovers : {parts : Parts D} {found other : Images} {epoch : ℕ}
      {state : State} (p q : Savepoint) (after : Parts D) → HasFiles parts → HasFiles after
      → (rest : IsResting clock image_at parts) → AreTold tells parts found
      → (is : IsRecoverable found epoch state) → rest.point ≡ Some p → counting is.reading ≡ [] → SaysSame p q
      → FoundOldOrNew rest.point q rest.pages rest.pages rest.counted after other
      → StandsAsRead is.reading other epoch state
  settled_recovers {found = found} {other = other} {epoch = epoch}
      {state = state} p q after files still rest told is point none same (inl old) =
      old_recovers after files still rest told is old.0 old.1 old.2
  settled_recovers {found = found} {other = other} {epoch = epoch}
      {state = state} p q after files still rest told is point none same (inr new) =
      let read : is.reading.point ≡ rest.point = point_read is.reading.point rest told is.is.names in
      let pages : take (512 * p.count) found.snaps ≡ rest.pages = ap (λ x. take (512 * count_of x) found.snaps)
      (sym point) ∙ pages_read rest told in
      settled_same found other p q epoch state is (read ∙ point) none same new.0
      (subst (λ l. IsFront l other.snaps) (sym pages) new.1)

  -- and so each crash since it began leaves that epoch and state
  pub settled_leaves : {parts after : Parts D} {found : Images} {epoch : ℕ} {state : State}
      {from : Moments} (p q : Savepoint) → HasFiles parts → HasFiles after → (rest : IsResting clock image_at parts)
      → AreTold tells parts found → (is : IsRecoverable found epoch state) → rest.point ≡ Some p
      → counting is.reading ≡ [] → SaysSame p q
      → IsSafe clock image_at from rest.point q rest.pages rest.pages rest.counted parts after
      → LeavesSame clock image_at from is.reading epoch state parts after
  settled_leaves {after = after} p q files still rest told is point none same safe = record {
    keeps = safe.stays;
    now = safe.instant;
    ended = safe.ended;
    recovers = λ at other since crash. settled_recovers p q after files still rest told is point none same
        (safe.stops at other since crash);
  }

-- a device that begins with the bytes of one page has that page
pub first_page : (device words : List ℕ) → length words ≡ 64 → AllByRecursion (λ w. w < 2 ^ 64) words
    → IsFront (bytes_of words) device → HasPages device 1 (words ∷ [])
first_page device words count fit front = record {
  count_is = refl;
  each = λ number first last.
      let is : number ≡ 1 = omega arith in
      let size : length (bytes_of words) ≡ 512 = omega (arith, length-bytes_of words, count) in
      let here : HasWords (bytes_of words) 1 words = record {
        first = omega arith;
        inside = omega (arith, size);
        fit = fit;
        spelled = take_all 512 (bytes_of words) (omega (arith, size));
      } in
      subst (λ n. HasWords device n (page (words ∷ []) n)) (sym is)
      (page_in_front (bytes_of words) device 1 words front here);
}

-- A fresh vault is settled: the first savepoint counts the first catalogue.
pub fresh_recovers : {D : Type 0} (parts : Parts D) (other : Images) (q : Savepoint) (c : Contents) (pages : List ℕ)
    (counted : ℕ → List ℕ) (was : Reading) (state : State) → was.catalogues ≡ [] → IsFirstPoint q
    → IsCatalogue 1 c → c.previous ≡ 0 → IsFirst c → length (catalogue_words c) ≡ 64
    → AllByRecursion (λ w. w < 2 ^ 64) (catalogue_words c) → ((key : Key) → get state key ≡ None)
    → FoundOldOrNew None q pages (bytes_of (catalogue_words c)) counted parts other → StandsAsRead was other 0 state
fresh_recovers parts other q c pages counted was state none first is previous begins size fit empty (inl old) = record {
  is = record {
    reading = record { point = None; pages = []; catalogues = []; lines = [] };
    is = record { names = old.0; counts = record { pages = refl; catalogues = refl; lines = refl } };
    epoch_is = refl;
    state_is = empty;
  };
  keeps = record {
    each = λ d has. absurd (in_none d has);
    stays = λ d has. absurd (in_none d (subst (λ cs. Contains cs d) none has));
    content = λ d s has stands content. absurd (in_none d (subst (λ cs. Contains cs d) none has));
  };
}
fresh_recovers parts other q c pages counted was state none first is previous begins size fit empty (inr new) =
    first_recoverable other q c was state none first new.0 is previous begins
    (first_page other.snaps (catalogue_words c) size fit new.1) empty
