-- What the saves of a round count, by the marks that its logs had.
use Rattle.std.proofs.Common.{◌≡◌, ◌∙◌, ◌≤◌, ◌<◌, ◌+◌, ◌⊎◌, ◌++◌, ◌∷◌, inl, inr, sym, ap, subst, refl, ℕ, zero, suc}
use Rattle.std.proofs.Common.{List, [], get_or, length, map, false, Option, Some, arith}
use Rattle.std.specs.Prelude.{nat_lt, replicate, slice_get}
use Rattle.std.specs.List.{AllByRecursion, Contains}
use Rattle.std.proofs.lemmas.Bool.Decides.{nat_tests}
use Rattle.std.proofs.lemmas.List.{length-map}
use Rattle.std.proofs.lemmas.Option.{same_Some}
use Rattle.lists.specs.Each.{all_append, all_weaker}
use Rattle.serial_model.specs.declared.number.Commit.{Commit}
use Rattle.wire_form.specs.LogFile.{lines_bytes}
use Rattle.wire_form.specs.declared.clock.Mark.{Mark}
use Rattle.wire_form.specs.declared.savepoint.Savepoint.{Savepoint}
use Rattle.log_writer.specs.Points.{point_of, sequence_of}
use Rattle.log_writer.specs.declared.saved.Saved.{Saved}
use Rattle.joint_crashes.specs.Crashes.Marking.{mark_set}
use Rattle.joint_crashes.specs.Images.{counted_of, epoch_of}
use Rattle.joint_crashes.specs.Marks.{IsAbove, Marks}
use Rattle.tx_script.specs.Causes.{some_counted}
use Rattle.tx_script.specs.declared.answer.Answer.{Answer}
use Rattle.tx_script.specs.declared.answer.Answer.TheVariants as answers
use Rattle.worker_logs.specs.Logs.{IsMarkOf, LogState}
use Rattle.worker_logs.specs.Saves.{closed_number, CountsOf, growing_number, IsCounted, logs_marks, SavesBy}
use Rattle.worker_logs.specs.SavesLaws.{closed_length, counts_saved}
use Rattle.worker_logs.specs.declared.savepoints.Beside.{Beside}
use Rattle.worker_logs.specs.declared.savepoints.Side.{Side}
use Rattle.round_engine.specs.Keeping.{IsSavedBySeen}
use Rattle.round_engine.specs.Saves.{AreSaved, AreSavedIn, AreSeen, beside_after, beside_at_end, beside_at_save, IsSavedBy}
use Rattle.round_engine.specs.Saves.{newest_after}
use Rattle.round_engine.proofs.LogsLeft.{marks_more}
use Rattle.round_engine.proofs.Places.{or_parts}
use Rattle.round_engine.proofs.Places.{item_at, map_at, within_of}

-- ---- each of the saves that are told, with what counted beside

-- what is stored so is stored in another way, too
pub lines_weaker : {By More : Beside → Saved → Type 0} → ((b : Beside) (saved : Saved) → By b saved → More b saved)
    → (said : List Answer) (b : Beside) (stored : List Saved) → AreSavedIn By b said stored → AreSavedIn More b said stored
lines_weaker weaker [] b stored are = are
lines_weaker weaker (answers.Save epoch ∷ said) b stored are =
    (are.0, are.1, are.2, weaker b are.0 are.3, lines_weaker weaker said b are.1 are.4)
lines_weaker weaker ((answers.Epoch epoch) ∷ said) b stored are =
    lines_weaker weaker said (beside_after b (answers.Epoch epoch)) stored are
lines_weaker weaker ((answers.Snap epoch new) ∷ said) b stored are =
    lines_weaker weaker said (beside_after b (answers.Snap epoch new)) stored are
lines_weaker weaker (answers.Empty ∷ said) b stored are =
    lines_weaker weaker said (beside_after b answers.Empty) stored are
lines_weaker weaker (answers.SnapFull ∷ said) b stored are =
    lines_weaker weaker said (beside_after b answers.SnapFull) stored are
lines_weaker weaker (answers.Deep ∷ said) b stored are =
    lines_weaker weaker said (beside_after b answers.Deep) stored are
lines_weaker weaker ((answers.Drop dropped kept) ∷ said) b stored are =
    lines_weaker weaker said (beside_after b (answers.Drop dropped kept)) stored are
lines_weaker weaker (answers.Limit ∷ said) b stored are =
    lines_weaker weaker said (beside_after b answers.Limit) stored are
lines_weaker weaker (answers.Unrun ∷ said) b stored are =
    lines_weaker weaker said (beside_after b answers.Unrun) stored are
lines_weaker weaker (answers.Device ∷ said) b stored are =
    lines_weaker weaker said (beside_after b answers.Device) stored are
lines_weaker weaker (answers.Damaged ∷ said) b stored are =
    lines_weaker weaker said (beside_after b answers.Damaged) stored are
lines_weaker weaker (answers.Memory ∷ said) b stored are =
    lines_weaker weaker said (beside_after b answers.Memory) stored are

-- What counts beside, of a round: of each closed log file as much as at its begin, or nothing.
pub record IsOver (side : Side) (counted : List ℕ) (b : Beside) : Type 0 where
  pub growing : b.growing ≡ side
  pub workers : length b.closed ≡ 8
  pub each : (w n : ℕ) → slice_get b.closed w ≡ Some n → (n ≡ 0) ⊎ (slice_get counted w ≡ Some n)

pub zero_at : (many w n : ℕ) → slice_get (replicate many 0) w ≡ Some n → n ≡ 0
zero_at zero w n at = absurd cc
zero_at (suc many) zero n at = sym (same_Some 0 n at)
zero_at (suc many) (suc w) n at = zero_at many w n at

pub over_begin : (side : Side) (counted : List ℕ) (count : ℕ) → length counted ≡ 8
    → IsOver side counted (record { growing = side; closed = counted; count = count })
over_begin side counted count many = record { growing = refl; workers = many; each = λ w n at. inr at }

pub over_after : {side : Side} {counted : List ℕ} {b : Beside} (answer : Answer) → IsOver side counted b
    → IsOver side counted (beside_after b answer)
over_after (answers.Save epoch) over = over
over_after (answers.Snap epoch new) over = record { growing = over.growing; workers = refl; each = λ w n at. inl (zero_at 8 w n at) }
over_after (answers.Epoch epoch) over = over
over_after answers.Empty over = over
over_after answers.SnapFull over = over
over_after answers.Deep over = over
over_after (answers.Drop dropped kept) over = over
over_after answers.Limit over = over
over_after answers.Unrun over = over
over_after answers.Device over = over
over_after answers.Damaged over = over
over_after answers.Memory over = over

pub over_end : {side : Side} {counted : List ℕ} (said : List Answer) (b : Beside) → IsOver side counted b
    → IsOver side counted (beside_at_end b said)
over_end [] b over = over
over_end (answer ∷ said) b over = over_end said (beside_after b answer) (over_after answer over)

pub over_save : {side : Side} {counted : List ℕ} (said : List Answer) (b : Beside) (k : ℕ) → IsOver side counted b
    → IsOver side counted (beside_at_save b said k)
over_save [] b k over = over
over_save (answers.Save epoch ∷ said) b zero over = over
over_save (answers.Save epoch ∷ said) b (suc k) over = over_save said b k over
over_save (answer ∷ said) b k over = over_save said (beside_after b answer) k (over_after answer over)

-- each save was over such
pub over_lines : {side : Side} {counted : List ℕ} (By : Beside → Saved → Type 0) (said : List Answer) (b : Beside) (stored : List Saved)
    → IsOver side counted b → AreSavedIn By b said stored
    → AllByRecursion (λ s. (c : Beside) × IsOver side counted c × By c s) stored
over_lines {side} {counted} By [] b stored over are =
    subst (AllByRecursion (λ s. (c : Beside) × IsOver side counted c × By c s)) (sym are) tt
over_lines {side} {counted} By (answers.Save epoch ∷ said) b stored over are =
    subst (AllByRecursion (λ s. (c : Beside) × IsOver side counted c × By c s)) (sym are.2)
    ((b, over, are.3), over_lines By said b are.1 over are.4)
over_lines By ((answers.Epoch epoch) ∷ said) b stored over are =
    over_lines By said (beside_after b (answers.Epoch epoch)) stored (over_after (answers.Epoch epoch) over) are
over_lines By ((answers.Snap epoch new) ∷ said) b stored over are =
    over_lines By said (beside_after b (answers.Snap epoch new)) stored (over_after (answers.Snap epoch new) over) are
over_lines By (answers.Empty ∷ said) b stored over are =
    over_lines By said (beside_after b answers.Empty) stored (over_after answers.Empty over) are
over_lines By (answers.SnapFull ∷ said) b stored over are =
    over_lines By said (beside_after b answers.SnapFull) stored (over_after answers.SnapFull over) are
over_lines By (answers.Deep ∷ said) b stored over are =
    over_lines By said (beside_after b answers.Deep) stored (over_after answers.Deep over) are
over_lines By ((answers.Drop dropped kept) ∷ said) b stored over are =
    over_lines By said (beside_after b (answers.Drop dropped kept)) stored (over_after (answers.Drop dropped kept) over) are
over_lines By (answers.Limit ∷ said) b stored over are =
    over_lines By said (beside_after b answers.Limit) stored (over_after answers.Limit over) are
over_lines By (answers.Unrun ∷ said) b stored over are =
    over_lines By said (beside_after b answers.Unrun) stored (over_after answers.Unrun over) are
over_lines By (answers.Device ∷ said) b stored over are =
    over_lines By said (beside_after b answers.Device) stored (over_after answers.Device over) are
over_lines By (answers.Damaged ∷ said) b stored over are =
    over_lines By said (beside_after b answers.Damaged) stored (over_after answers.Damaged over) are
over_lines By (answers.Memory ∷ said) b stored over are =
    over_lines By said (beside_after b answers.Memory) stored (over_after answers.Memory over) are

-- and so was each of all that was begun
pub over_all : {side : Side} {counted : List ℕ} (By : Beside → Saved → Type 0) (said : List Answer) (b : Beside) (begun : List Saved)
    → IsOver side counted b → AreSaved By b said begun
    → AllByRecursion (λ s. (c : Beside) × IsOver side counted c × By c s) begun
over_all {side} {counted} By said b begun over are =
    let Over : Saved → Type 0 = λ s. (c : Beside) × IsOver side counted c × By c s in
    subst (AllByRecursion Over) (sym are.all)
    (all_append Over are.lines are.rest (over_lines By said b are.lines over are.told)
    (all_weaker (By (beside_at_end b said)) Over (λ s is. (beside_at_end b said, over_end said b over, is)) are.rest are.behind))

-- marks that were seen are marks that the workers had
pub saved_by_had : (first last : ℕ) (marks : ℕ → List Mark) (Seen : ℕ → List Mark → Type 0) (b : Beside)
    → ((clock : ℕ) (seen : List Mark) → Seen clock seen → (first ≤ clock) × (clock ≤ last) × AreSeen marks seen)
    → (said : List Answer) (begun : List Saved) → AreSaved (IsSavedBySeen Seen) b said begun
    → AreSaved (IsSavedBy first last marks) b said begun
saved_by_had first last marks Seen b had said begun are =
    let Had : (c : Beside) (saved : Saved) → IsSavedBySeen Seen c saved → IsSavedBy first last marks c saved = λ c saved is.
    let seen = had is.0 is.1 is.2 in (is.0, seen.0, seen.1, is.1, seen.2, is.3) in
    record {
      lines = are.lines;
      rest = are.rest;
      all = are.all;
      told = lines_weaker Had said b are.lines are.told;
      behind = all_weaker (IsSavedBySeen Seen (beside_at_end b said)) (IsSavedBy first last marks (beside_at_end b said))
          (Had (beside_at_end b said)) are.rest are.behind;
    }

-- the marks of eight logs
pub logs_seen : (marks : ℕ → List Mark) (logs : List LogState) → length logs ≡ 8
    → ((w : ℕ) (log : LogState) → slice_get logs w ≡ Some log → Contains (marks w) log.mark)
    → AreSeen marks (logs_marks logs)
logs_seen marks logs many each = record {
  workers = length-map logs (λ (log : LogState). log.mark) ∙ many;
  each = λ w mark at.
      let log = map_at (λ (log : LogState). log.mark) logs w mark at in
      subst (Contains (marks w)) log.2 (each w log.0 log.1);
}

-- the newest of some savepoints is the last
pub newest_push : (newest : Option Savepoint) (stored : List Saved) (saved : Saved)
    → newest_after newest (stored ++ saved ∷ [])
    ≡ Some (point_of (sequence_of (newest_after newest stored) + 1) saved)
newest_push newest [] saved = refl
newest_push newest (first ∷ stored) saved = newest_push (Some (point_of (sequence_of newest + 1) first)) stored saved

-- a list is empty, or has a last
pub last_of : {X : Type 0} (xs : List X) → (xs ≡ []) ⊎ ((before : List X) × (last : X) × (xs ≡ before ++ last ∷ []))
last_of [] = inl refl
last_of (x ∷ xs) = elim (last_of xs) [
  | inl none ↦ inr ([], x, ap (λ l. x ∷ l) none)
  | inr some ↦ inr (x ∷ some.0, some.1, ap (λ l. x ∷ l) some.2)
]

pub all_last : {X : Type 0} (P : X → Type 0) (before : List X) (last : X) → AllByRecursion P (before ++ last ∷ []) → P last
all_last P [] last all = all.0
all_last P (x ∷ before) last all = all_last P before last all.1

-- ---- what the newest counts

-- what lines have is covered up to any epoch
pub covers_all : (commits : List Commit) (bytes : List ℕ) (n : ℕ) → lines_bytes commits ≡ bytes
    → ((n ≡ 0) ⊎ (n ≡ length bytes)) → (n ≡ 0) ⊎ ((epoch : ℕ) → IsCounted commits bytes epoch n)
covers_all commits bytes n lines is = elim is [
  | inl none ↦ inl none
  | inr all ↦ inr (λ epoch. (
    subst (λ k. Marks commits epoch k) (ap length lines ∙ sym all) (mark_set commits epoch),
    omega (arith, all),
  ))
]

-- What the newest savepoint counts stays within what is durable: it is the one before the round, or one that was saved
-- by marks that say what they count.
pub counts_after : (side : Side) (counted : List ℕ) (first last_clock : ℕ) (commits logged gone : ℕ → List Commit)
    (was durable closed : ℕ → List ℕ) (marks : ℕ → List Mark) (old : Option Savepoint) (stored : List Saved)
    → AllByRecursion (λ s. (c : Beside) × IsOver side counted c × IsSavedBy first last_clock marks c s) stored
    → ((w : ℕ) → w < 8 → AllByRecursion (IsAbove (epoch_of old)) (logged w))
    → ((w : ℕ) → w < 8 → length (was w) ≤ length (durable w))
    → ((w : ℕ) (m : Mark) → w < 8 → Contains (marks w) m → IsMarkOf (commits w ++ logged w) (durable w) m)
    → ((w n : ℕ) → slice_get counted w ≡ Some n → (n ≡ 0) ⊎ ((epoch : ℕ) → IsCounted (gone w) (closed w) epoch n))
    → CountsOf side commits gone was closed old
    → CountsOf side (λ w. commits w ++ logged w) gone durable closed (newest_after old stored)
counts_after side counted first last_clock commits logged gone was durable closed marks old stored by above grown says
    beside counts = elim (last_of stored) [
      | inl none ↦ subst (λ l. CountsOf side (λ w. commits w ++ logged w) gone durable closed (newest_after old l)) (sym none) (record {
        growing = λ w below.
            let is = counts.growing w below in (
              marks_more (commits w) (logged w) (epoch_of old) (counted_of old (growing_number side w)) is.0 (above w below),
              omega (arith, is.1, grown w below),
            );
        before = counts.before;
      })
      | inr some ↦
          let Over : Saved → Type 0 = λ s. (c : Beside) × IsOver side counted c × IsSavedBy first last_clock marks c s in
          let is : Over some.1 = all_last Over some.0 some.1 (subst (AllByRecursion Over) some.2 by) in
          let over = is.1 in
          let saves = is.2 in
          subst (CountsOf side (λ w. commits w ++ logged w) gone durable closed) (sym (ap (newest_after old) some.2 ∙ newest_push old some.0 some.1))
          (subst (λ g. CountsOf g (λ w. commits w ++ logged w) gone durable closed (Some (point_of (sequence_of (newest_after old some.0) + 1) some.1)))
          over.growing
          (counts_saved (λ w. commits w ++ logged w) gone durable closed saves.4.workers over.workers saves.5
          (λ w m at. says w m (omega (arith, saves.4.workers, within_of saves.3 w m at)) (saves.4.each w m at))
          (λ w n at. elim (over.each w n at) [
            | inl none ↦ inl none
            | inr was_so ↦ beside w n was_so
          ])))
    ]

-- ---- a save that counts nothing of the closed log files

pub not_above : (m : ℕ) → nat_lt 0 m ≡ false → m ≡ 0
not_above m is = grind (arith, nat_tests, is)

pub zero_of : (counted : List ℕ) (w n : ℕ) → some_counted counted ≡ false → slice_get counted w ≡ Some n → n ≡ 0
zero_of [] w n none at = absurd cc
zero_of (m ∷ counted) zero n none at =
    sym (same_Some m n at) ∙ not_above m (or_parts (nat_lt 0 m) (some_counted counted) none).0
zero_of (m ∷ counted) (suc w) n none at =
    zero_of counted w n (or_parts (nat_lt 0 m) (some_counted counted) none).1 at

pub nothing_saved : {clock : ℕ} {seen : List Mark} {beside : Beside} {saved : Saved} (w : ℕ) → w < 8 → length seen ≡ 8
    → length beside.closed ≡ 8 → some_counted beside.closed ≡ false → SavesBy clock seen beside saved
    → get_or saved.lengths (closed_number beside.growing w) 0 ≡ 0
nothing_saved {seen = seen} {beside = beside} w below eight many none saves =
    let n = item_at beside.closed w (omega (arith, below, many)) in
    ap (λ l. get_or l (closed_number beside.growing w) 0) saves.lengths
    ∙ closed_length beside.growing (map (λ (m : Mark). m.length) seen) beside.closed w n.0 n.1
    (length-map seen (λ (m : Mark). m.length) ∙ eight ∙ sym many)
    ∙ zero_of beside.closed w n.0 none n.1
