-- A join with the swap behind it: which logs are down, which devices failed, and where the runtime stands.
use Rattle.std.proofs.Common.{◌≡◌, ◌≢◌, ◌∙◌, ◌≤◌, ◌<◌, ◌+◌, ◌++◌, ◌∷◌, inl, inr, sym, ap, subst, refl, ℕ, List, []}
use Rattle.std.proofs.Common.{length, map, Bool, true, false, cond, not, Option, Some, None, arith}
use Rattle.std.specs.Prelude.{◌&&◌, ◌^◌, get_or, is_some, option_to_list, slice_get, Result, Ok, Err}
use Rattle.std.specs.List.{AllByRecursion, Contains}
use Rattle.std.proofs.lemmas.Bool.{cases_Bool, cases_lt}
use Rattle.std.proofs.lemmas.List.{length-map}
use Rattle.std.proofs.lemmas.Option.{same_Some}
use Rattle.lists.specs.Each.{all_at}
use Rattle.lists.specs.Elements.{in_cases, in_head, in_none}
use Rattle.log_writer.specs.Counted.{AlwaysTells}
use Rattle.log_writer.specs.Vault.{IsWhole, disk_in}
use Rattle.outside.specs.declared.device.Device.{Device}
use Rattle.outside.specs.declared.device.Device.TheVariants as devices
use Rattle.log_writer.specs.declared.vault.Vault.{Vault}
use Rattle.serial_model.specs.Numbers.{last_epoch}
use Rattle.wire_form.specs.declared.clock.Mark.{Mark}
use Rattle.log_writer.specs.Points.{point_of, sequence_of}
use Rattle.log_writer.specs.declared.saved.Saved.{Saved}
use Rattle.snapshot_store.specs.Content.{SnapshotStands, words_of}
use Rattle.snapshot_store.specs.Store.{HoldsPages}
use Rattle.joint_crashes.specs.Images.{counted_of, epoch_of}
use Rattle.joint_crashes.specs.VaultReads.{RoseIn}
use Rattle.tx_script.specs.Causes.{last_sequence, some_counted}
use Rattle.worker_logs.specs.Logs.{IsJoined, LogState, log_limit}
use Rattle.worker_logs.specs.Saves.{closed_number, growing_number}
use Rattle.worker_logs.specs.declared.savepoints.Side.{Side}
use Rattle.worker_logs.specs.Rows.{KeepsMark}
use Rattle.round_engine.specs.Ends.{epoch_after}
use Rattle.round_engine.specs.Keeping.{IsSavedBySeen, JoinAnswers, JoinsLog, MarksOf, RunsJoin, device_told}
use Rattle.round_engine.specs.Phases.{ended_as, fails_device, made, refused_by}
use Rattle.round_engine.specs.RanRound.{IsQuietIn}
use Rattle.round_engine.specs.Saves.{newest_after}
use Rattle.round_engine.specs.Sides.{closed_in, closed_numbers, growing_in}
use Rattle.round_engine.specs.Standing.{AreClosed, beside_of, HasSnapshot, IsMarkBefore, LogsStand, RuntimeState, Standing}
use Rattle.round_engine.specs.Standing.{StandsOn}
use Rattle.round_engine.specs.Swaps.{turned}
use Rattle.round_engine.specs.declared.report.End.{End}
use Rattle.round_engine.specs.declared.report.End.TheVariants as ends
use Rattle.round_engine.specs.declared.report.LimitName.TheVariants.{Bank, Draw, Epoch, Height, Sequence, Snap}
use Rattle.round_engine.proofs.BanksCut.{banks_quiet, banks_rose, closed_below, numbers_closed}
use Rattle.round_engine.proofs.Devices.{are_down, down_at}
use Rattle.round_engine.proofs.Ended.{first_down}
use Rattle.round_engine.proofs.JoinedAs.{bank_told, below_test, none_is_down, one_is_down}
use Rattle.round_engine.proofs.LogsStanding.{stand_cut, stand_join, stand_turned}
use Rattle.round_engine.proofs.Numbered.{closed_many, growing_at, growing_many, same_growing, whole_of}
use Rattle.round_engine.proofs.Places.{all_from, not_save, nothing_there, other_bank}
use Rattle.round_engine.proofs.Saved.{nothing_saved}
use Rattle.round_engine.proofs.Turned.{SwapLeaves, TurnsBehind, stands_cut, stands_turned, swap_leaves, turned_if, turned_ended}
use Rattle.round_engine.proofs.Whole.{IsAtRest, below_8}
use Rattle.round_engine.proofs.Places.{item_at, map_at}
use Rattle.round_engine.proofs.Published.{published_then}

-- ---- marks and epochs

-- a mark before an epoch is before a later one
pub before_later : (mark : Option ℕ) (epoch later : ℕ) → epoch ≤ later → IsMarkBefore epoch mark → IsMarkBefore later mark
before_later None epoch later le is = tt
before_later (Some e) epoch later le is = omega (arith, is, le)

pub mark_joined : (lines log : LogState) (epoch last clock : ℕ) → KeepsMark (last + 1) lines log
    → IsMarkBefore epoch lines.mark.epoch → epoch ≤ last → last < clock → IsMarkBefore clock log.mark.epoch
mark_joined lines log epoch last clock (inl same) was le below =
    subst (λ (m : Mark). IsMarkBefore clock m.epoch) (sym same)
    (before_later lines.mark.epoch epoch clock (omega (arith, le, below)) was)
mark_joined lines log epoch last clock (inr set) was le below =
    subst (IsMarkBefore clock) (sym set) (omega (arith, below))

pub no_device_told : (result : Result ℕ End) → fails_device (refused_by result) ≡ false → (device : Device)
    → Contains (device_told result) device → ⊥
no_device_told (Ok epoch) up device has = in_none device has
no_device_told (Err (ends.Device failed)) up device has = absurd cc
no_device_told (Err (ends.Damaged failed at)) up device has = in_none device has
no_device_told (Err (ends.Limit name number)) up device has = in_none device has
no_device_told (Err ends.Memory) up device has = in_none device has

pub told_bank : (result : Result ℕ End) (number : ℕ) → Contains (device_told result) (devices.Bank number)
    → result ≡ Err (ends.Device (devices.Bank number))
told_bank (Ok epoch) number has = absurd (in_none (devices.Bank number) has)
told_bank (Err (ends.Limit name limit)) number has = absurd (in_none (devices.Bank number) has)
told_bank (Err (ends.Damaged device at)) number has = absurd (in_none (devices.Bank number) has)
told_bank (Err ends.Memory) number has = absurd (in_none (devices.Bank number) has)
told_bank (Err (ends.Device device)) number has = elim (in_cases (devices.Bank number) device [] has) [
  | inl same ↦ ap (λ d. Err (ends.Device d)) same
  | inr none ↦ absurd (in_none (devices.Bank number) none)
]

pub and_parts : (a b : Bool) → (a && b) ≡ true → (a ≡ true) × (b ≡ true)
and_parts true true is = (refl, refl)
and_parts true false is = absurd cc
and_parts false b is = absurd cc

pub made_some : (result : Result ℕ End) → is_some (made result) ≡ true → (epoch : ℕ) × (result ≡ Ok epoch)
made_some (Ok epoch) is = (epoch, refl)
made_some (Err end) is = absurd cc

pub not_true : (b : Bool) → not b ≡ true → b ≡ false
not_true true is = absurd cc
not_true false is = refl

-- a list of one number is of one element
pub one_stored : (stored : List Saved) (epoch : ℕ) → map (λ (s : Saved). s.epoch) stored ≡ epoch ∷ []
    → (saved : Saved) × (stored ≡ saved ∷ [])
one_stored [] epoch is = absurd cc
one_stored (saved ∷ []) epoch is = (saved, refl)
one_stored (saved ∷ s ∷ more) epoch is = absurd cc

-- What is known of a join over logs and stores that are up, with the swap behind it: the runtime as its lines left it, as
-- the join did, and as the swap did; and the vault as these three left it. The growing files are those of this side.
pub record JoinFacts {D : Type 0} (tells : D → Option (List ℕ)) (clock : D → ℕ) (image_at : D → ℕ → List ℕ → Type 0)
    (faults : D → ℕ) (side : Side) (r joined turned_r : RuntimeState) (after pre now : Vault D) (result : Result ℕ End)
    (cut_told : Option End) : Type 0 where
  pub side_is : r.side ≡ side
  pub whole : IsWhole after
  pub many : length r.logs ≡ 8
  pub limits : (w : ℕ) (log : LogState) → slice_get r.logs w ≡ Some log → log.journal.limit ≡ log_limit
  pub marked : (w : ℕ) (log : LogState) → slice_get r.logs w ≡ Some log → IsMarkBefore r.stands.clock.epoch log.mark.epoch
  pub above : epoch_of r.save.newest < r.stands.clock.epoch
  pub closed : AreClosed r
  pub room : r.room ≤ 65536
  pub sound : r.store.sound ≡ true
  pub snapshot : HasSnapshot tells r after.snaps
  pub runs : RunsJoin tells clock image_at faults r joined after pre result
  pub turns : TurnsBehind tells clock image_at faults r.stands.clock.epoch result joined turned_r pre now cut_told
  pub few : AllByRecursion (λ n. n < 2 ^ 40) turned_r.counted
  pub durable : AlwaysTells tells → LogsStand tells clock image_at r.side r.logs r.counted after

module _ {D : Type 0} {tells : D → Option (List ℕ)} {clock : D → ℕ} {image_at : D → ℕ → List ℕ → Type 0}
    {faults : D → ℕ} {side : Side} {r joined turned_r : RuntimeState} {after pre now : Vault D} {result : Result ℕ End}
    {cut_told : Option End}
    (facts : JoinFacts tells clock image_at faults side r joined turned_r after pre now result cut_told) where
  pub joined_side : joined.side ≡ side
  joined_side = ap (λ (x : RuntimeState). x.side) facts.runs.alone ∙ facts.side_is

  pub joined_many : length joined.logs ≡ 8
  joined_many = facts.runs.logs_length ∙ facts.many

  pub after_many : length (growing_in side after) ≡ 8
  after_many = growing_many side after facts.whole

  growing_length : length (growing_in side pre) ≡ length (growing_in side after)
  growing_length = subst (λ s. length (growing_in s pre) ≡ length (growing_in s after)) facts.side_is facts.runs.growing_length

  pub closed_same : closed_in side pre ≡ closed_in side after
  closed_same = subst (λ s. closed_in s pre ≡ closed_in s after) facts.side_is facts.runs.closed

  pub pre_many : length (growing_in side pre) ≡ 8
  pre_many = growing_length ∙ after_many

  pub pre_whole : IsWhole pre
  pre_whole = whole_of side pre pre_many (ap length closed_same ∙ closed_many side after facts.whole)

  pub leaves : SwapLeaves joined.side pre now
  leaves = swap_leaves tells clock image_at faults r.stands.clock.epoch result joined turned_r pre now cut_told facts.turns pre_whole

  pub growing_now : growing_in side now ≡ growing_in side pre
  growing_now = subst (λ s. growing_in s now ≡ growing_in s pre) joined_side leaves.growing

  pub now_many : length (growing_in side now) ≡ 8
  now_many = ap length growing_now ∙ pre_many

  -- the clock behind the join
  pub clock_is : joined.stands.clock.epoch ≡ epoch_after r.stands.clock.epoch
  clock_is = ap (λ (x : Standing). x.clock.epoch) facts.runs.stands

  pub clock_next : r.stands.clock.epoch < last_epoch → joined.stands.clock.epoch ≡ r.stands.clock.epoch + 1
  clock_next less = clock_is ∙ ap (λ b. cond b (r.stands.clock.epoch + 1) r.stands.clock.epoch)
      (below_test r.stands.clock.epoch last_epoch less)

  -- what the join made of a log
  pub step : (w : ℕ) (was log : LogState) (bank_was bank : D) → slice_get r.logs w ≡ Some was
      → slice_get joined.logs w ≡ Some log → slice_get (growing_in side after) w ≡ Some bank_was
      → slice_get (growing_in side now) w ≡ Some bank
      → JoinsLog tells clock image_at faults r.stands.clock.epoch was log bank_was bank
  step w was log bank_was bank at there bank_at bank_there = facts.runs.each w was log bank_was bank at there
      (ap (λ s. slice_get (growing_in s after) w) facts.side_is ∙ bank_at)
      (ap (λ s. slice_get (growing_in s pre) w) facts.side_is ∙ ap (λ l. slice_get l w) (sym growing_now) ∙ bank_there)

  -- ---- which logs are down

  pub up_there : (w : ℕ) (log : LogState) → slice_get joined.logs w ≡ Some log
      → (Contains (device_told result) (devices.Bank (growing_number side w)) → ⊥) → log.journal.down ≡ None
  up_there w log at not = facts.runs.up w log at (λ has. not
      (subst (λ s. Contains (device_told result) (devices.Bank (growing_number s w))) facts.side_is has))

  up_at : (i : ℕ) (b : Bool) → slice_get (are_down joined.logs) i ≡ Some b
      → (Contains (device_told result) (devices.Bank (growing_number side i)) → ⊥) → b ≡ false
  up_at i b at not =
      let log = map_at (λ (l : LogState). is_some l.journal.down) joined.logs i b at in
      sym log.2 ∙ ap is_some (up_there i log.0 log.1 not)

  all_up : ((number : ℕ) → Contains (device_told result) (devices.Bank number) → ⊥)
      → first_down side 0 (are_down joined.logs) ≡ None
  all_up not = none_is_down side 0 (are_down joined.logs) (λ i b at. up_at i b at (not (growing_number side i)))

  one_down : (number worker : ℕ) → worker < 8 → number ≡ growing_number side worker
      → device_told result ≡ devices.Bank number ∷ []
      → first_down side 0 (are_down joined.logs) ≡ Some (devices.Bank number)
  one_down number worker below is told =
      let log = item_at joined.logs worker (omega (arith, below, joined_many)) in
      let has : Contains (device_told result) (devices.Bank (growing_number r.side worker)) =
      subst (λ l. Contains l (devices.Bank (growing_number r.side worker))) (sym told)
      (subst (λ n. Contains (devices.Bank n ∷ []) (devices.Bank (growing_number r.side worker)))
      (ap (λ s. growing_number s worker) facts.side_is ∙ sym is) (in_head (devices.Bank (growing_number r.side worker)) [])) in
      one_is_down side 0 worker worker (are_down joined.logs) (omega arith)
      (down_at joined.logs worker log.0 log.1 (facts.runs.fell worker log.0 log.1 has))
      (λ i b differs at. up_at i b at (λ other. other_bank (growing_number side i) number
      (λ same. differs (sym (same_growing side worker i (sym is ∙ same))))
      (subst (λ l. Contains l (devices.Bank (growing_number side i))) told other)))
      ∙ ap (λ n. Some (devices.Bank n)) (sym is)

  none_told : (l : List Device) → device_told result ≡ l → l ≡ [] → (number : ℕ) → Contains (device_told result) (devices.Bank number) → ⊥
  none_told l told none number has = in_none (devices.Bank number) (subst (λ x. Contains x (devices.Bank number)) (told ∙ none) has)

  banks_of : (x : Result ℕ End) → result ≡ x → JoinAnswers r joined facts.runs.stored facts.runs.failed x
      → first_down side 0 (are_down joined.logs) ≡ bank_told x
  banks_of (Ok epoch) at is = all_up (none_told [] (ap device_told at) refl)
  banks_of (Err (ends.Limit name number)) at is = all_up (none_told [] (ap device_told at) refl)
  banks_of (Err (ends.Damaged device place)) at is = all_up (none_told [] (ap device_told at) refl)
  banks_of (Err ends.Memory) at is = all_up (none_told [] (ap device_told at) refl)
  banks_of (Err (ends.Device devices.Save)) at is =
      all_up (λ number has. not_save number (subst (λ x. Contains (device_told x) (devices.Bank number)) at has))
  banks_of (Err (ends.Device devices.Snaps)) at is = absurd is
  banks_of (Err (ends.Device (devices.Bank number))) at is =
      one_down number is.1 is.2 (is.3 ∙ ap (λ s. growing_number s is.1) facts.side_is) (ap device_told at)

  pub banks_told : first_down side 0 (are_down joined.logs) ≡ bank_told result
  banks_told = banks_of result refl facts.runs.answer

  -- ---- by its answer

  told_by : (x : Result ℕ End) → JoinAnswers r joined facts.runs.stored facts.runs.failed x
      → map (λ (s : Saved). s.epoch) facts.runs.stored ≡ option_to_list (made x)
  told_by (Ok epoch) is = is.3
  told_by (Err (ends.Limit Epoch number)) is = ap (map (λ (s : Saved). s.epoch)) is.2
  told_by (Err (ends.Limit Sequence number)) is = ap (map (λ (s : Saved). s.epoch)) is.3
  told_by (Err (ends.Device devices.Save)) is = ap (map (λ (s : Saved). s.epoch)) is.2
  told_by (Err (ends.Device (devices.Bank number))) is = ap (map (λ (s : Saved). s.epoch)) is.4
  told_by (Err (ends.Device devices.Snaps)) is = absurd is
  told_by (Err (ends.Damaged device at)) is = absurd is
  told_by (Err (ends.Limit Draw number)) is = absurd is
  told_by (Err (ends.Limit Bank number)) is = absurd is
  told_by (Err (ends.Limit Snap number)) is = absurd is
  told_by (Err (ends.Limit Height number)) is = absurd is
  told_by (Err ends.Memory) is = absurd is

  pub stored_told : map (λ (s : Saved). s.epoch) facts.runs.stored ≡ option_to_list (made result)
  stored_told = told_by result facts.runs.answer

  -- a store failed only where the join came to it
  asked_of : (x : Result ℕ End) → JoinAnswers r joined facts.runs.stored facts.runs.failed x → is_some facts.runs.failed ≡ true
      → (r.stands.clock.epoch < last_epoch) × (sequence_of r.save.newest < last_sequence)
  asked_of (Ok epoch) is some = absurd (let no = sym some ∙ ap is_some is.4 in cc)
  asked_of (Err (ends.Limit Epoch number)) is some = absurd (let no = sym some ∙ ap is_some is.3 in cc)
  asked_of (Err (ends.Limit Sequence number)) is some = absurd (let no = sym some ∙ ap is_some is.4 in cc)
  asked_of (Err (ends.Device devices.Save)) is some = (is.0, is.1)
  asked_of (Err (ends.Device (devices.Bank number))) is some = absurd (let no = sym some ∙ ap is_some is.5 in cc)
  asked_of (Err (ends.Device devices.Snaps)) is some = absurd is
  asked_of (Err (ends.Damaged device at)) is some = absurd is
  asked_of (Err (ends.Limit Draw number)) is some = absurd is
  asked_of (Err (ends.Limit Bank number)) is some = absurd is
  asked_of (Err (ends.Limit Snap number)) is some = absurd is
  asked_of (Err (ends.Limit Height number)) is some = absurd is
  asked_of (Err ends.Memory) is some = absurd is

  pub asked_by : is_some facts.runs.failed ≡ true → (r.stands.clock.epoch < last_epoch) × (sequence_of r.save.newest < last_sequence)
  asked_by some = asked_of result facts.runs.answer some

  none_begun : (stored : List Saved) (failed : Option Saved) (k : ℕ) (s : Saved) → stored ≡ [] → failed ≡ None
      → slice_get (stored ++ option_to_list failed) k ≡ Some s → ⊥
  none_begun [] None k s none lacks at = let bad = at in cc
  none_begun [] (Some saved) k s none lacks at = let bad = lacks in cc
  none_begun (x ∷ stored) failed k s none lacks at = let bad = none in cc

  below_of : (x : Result ℕ End) → JoinAnswers r joined facts.runs.stored facts.runs.failed x → (k : ℕ) (s : Saved)
      → slice_get (facts.runs.stored ++ option_to_list facts.runs.failed) k ≡ Some s
      → sequence_of r.save.newest < last_sequence
  below_of (Ok epoch) is k s at = is.1
  below_of (Err (ends.Limit Epoch number)) is k s at =
      absurd (none_begun facts.runs.stored facts.runs.failed k s is.2 is.3 at)
  below_of (Err (ends.Limit Sequence number)) is k s at =
      absurd (none_begun facts.runs.stored facts.runs.failed k s is.3 is.4 at)
  below_of (Err (ends.Device devices.Save)) is k s at = is.1
  below_of (Err (ends.Device devices.Snaps)) is k s at = absurd is
  below_of (Err (ends.Device (devices.Bank number))) is k s at =
      absurd (none_begun facts.runs.stored facts.runs.failed k s is.4 is.5 at)
  below_of (Err (ends.Damaged device place)) is k s at = absurd is
  below_of (Err (ends.Limit Draw number)) is k s at = absurd is
  below_of (Err (ends.Limit Bank number)) is k s at = absurd is
  below_of (Err (ends.Limit Snap number)) is k s at = absurd is
  below_of (Err (ends.Limit Height number)) is k s at = absurd is
  below_of (Err ends.Memory) is k s at = absurd is

  -- where a join begins to store something the last sequence wasn't met
  pub join_below : (k : ℕ) (s : Saved) → slice_get (facts.runs.stored ++ option_to_list facts.runs.failed) k ≡ Some s
      → sequence_of r.save.newest < last_sequence
  join_below k s at = below_of result facts.runs.answer k s at

  no_failure_of : (x : Result ℕ End) → JoinAnswers r joined facts.runs.stored facts.runs.failed x → fails_device (refused_by x) ≡ false
      → is_some facts.runs.failed ≡ false
  no_failure_of (Ok epoch) is up = ap is_some is.4
  no_failure_of (Err (ends.Limit Epoch number)) is up = ap is_some is.3
  no_failure_of (Err (ends.Limit Sequence number)) is up = ap is_some is.4
  no_failure_of (Err (ends.Device device)) is up = absurd cc
  no_failure_of (Err (ends.Damaged device at)) is up = absurd is
  no_failure_of (Err (ends.Limit Draw number)) is up = absurd is
  no_failure_of (Err (ends.Limit Bank number)) is up = absurd is
  no_failure_of (Err (ends.Limit Snap number)) is up = absurd is
  no_failure_of (Err (ends.Limit Height number)) is up = absurd is
  no_failure_of (Err ends.Memory) is up = absurd is

  pub no_failure_told : fails_device (refused_by result) ≡ false → is_some facts.runs.failed ≡ false
  no_failure_told up = no_failure_of result facts.runs.answer up

  -- a join that was done
  pub record IsDone (epoch : ℕ) : Type 0 where
    pub less : r.stands.clock.epoch < last_epoch
    pub epoch_is : epoch ≡ r.stands.clock.epoch
    pub stored : map (λ (s : Saved). s.epoch) facts.runs.stored ≡ epoch ∷ []
    pub none : facts.runs.failed ≡ None
    pub joined_logs : AllByRecursion (IsJoined (epoch + 1)) joined.logs
    pub clock_now : joined.stands.clock.epoch ≡ epoch + 1

  pub done_at : (epoch : ℕ) → result ≡ Ok epoch → IsDone epoch
  done_at epoch at =
      let is : JoinAnswers r joined facts.runs.stored facts.runs.failed (Ok epoch) =
      subst (JoinAnswers r joined facts.runs.stored facts.runs.failed) at facts.runs.answer in
      record {
        less = is.0;
        epoch_is = is.2;
        stored = is.3;
        none = is.4;
        joined_logs = is.5;
        clock_now = clock_next is.0 ∙ ap (λ n. n + 1) (sym is.2);
      }

  -- ---- the swap

  -- a swap was tried only behind a join that was done
  pub tried_done : facts.turns.tried ≡ true → (epoch : ℕ) × (result ≡ Ok epoch) × (some_counted r.counted ≡ false)
  tried_done tried =
      let both = and_parts (is_some (made result)) (not (some_counted joined.counted)) (sym facts.turns.tried_is ∙ tried) in
      let done = made_some result both.0 in
      (done.0, done.1, ap some_counted (sym (ap (λ (x : RuntimeState). x.counted) facts.runs.alone)) ∙ not_true (some_counted joined.counted) both.1)

  pub cut_uncut : made result ≡ None → facts.turns.cut ≡ None
  cut_uncut none = elim (cases_Bool facts.turns.tried) [
    | inl tried ↦ let done = tried_done tried in absurd (let no = sym none ∙ ap made done.1 in cc)
    | inr not ↦ (facts.turns.left not).0
  ]

  cut_tried : (n : ℕ) → facts.turns.cut ≡ Some n → facts.turns.tried ≡ true
  cut_tried n is = elim (cases_Bool facts.turns.tried) [
    | inl tried ↦ tried
    | inr not ↦ absurd (let no = sym is ∙ (facts.turns.left not).0 in cc)
  ]

  -- the cut that failed was one of a closed log file, and its count rose
  pub cut_rose : (n : ℕ) → facts.turns.cut ≡ Some n
      → ((w : ℕ) × (w < 8) × (n ≡ closed_number side w)) × RoseIn faults (devices.Bank n) pre now
  cut_rose n is =
      let rose = banks_rose tells clock image_at faults (sequence_of joined.save.newest) (closed_numbers joined.side) facts.turns.cut pre now
      pre_whole (closed_below joined.side) (facts.turns.cuts (cut_tried n is)) n is in
      let at = numbers_closed joined.side n rose.0 in
      ((at.0, at.1, at.2 ∙ ap (λ s. closed_number s at.0) joined_side), rose.1)

  -- no other count did
  pub cut_quiet : (n : ℕ) → facts.turns.cut ≢ Some n → IsQuietIn faults (devices.Bank n) pre now
  cut_quiet n other = elim (cases_Bool facts.turns.tried) [
    | inl tried ↦ banks_quiet tells clock image_at faults (sequence_of joined.save.newest) (closed_numbers joined.side) facts.turns.cut pre now
        pre_whole (closed_below joined.side) (facts.turns.cuts tried) n other
    | inr not ↦ λ was is there now_there. ap faults (same_Some is was
        (sym now_there ∙ ap (λ v. disk_in v (devices.Bank n)) (facts.turns.left not).1 ∙ there))
  ]

  -- a swap that is tried cuts files of which nothing counts
  pub nothing : facts.turns.tried ≡ true → (w : ℕ) → w < 8 → counted_of joined.save.newest (closed_number side w) ≡ 0
  nothing tried w below =
      let done = tried_done tried in
      let is = done_at done.0 done.1 in
      let one = one_stored facts.runs.stored done.0 is.stored in
      let By : Saved → Type 0 = IsSavedBySeen (MarksOf joined joined.stands.clock.epoch joined.stands.clock.epoch) (beside_of r) in
      let all : AllByRecursion By (one.0 ∷ option_to_list facts.runs.failed) =
      subst (λ l. AllByRecursion By (l ++ option_to_list facts.runs.failed)) one.1 facts.runs.by_marks in
      let saved = all.0 in
      let seen_many : length saved.1 ≡ 8 = ap length saved.2.2 ∙ length-map joined.logs (λ (l : LogState). l.mark) ∙ joined_many in
      let zero : get_or one.0.lengths (closed_number r.side w) 0 ≡ 0 = nothing_saved w below seen_many facts.closed.workers done.2 saved.3 in
      let newest : joined.save.newest ≡ Some (point_of (sequence_of r.save.newest + 1) one.0) =
      facts.runs.keeps.newest ∙ ap (newest_after r.save.newest) one.1 in
      ap (λ p. counted_of p (closed_number side w)) newest
      ∙ ap (λ s. get_or one.0.lengths (closed_number s w) 0) (sym facts.side_is) ∙ zero

  -- and all logs are at rest
  pub rests : facts.turns.tried ≡ true → (w : ℕ) (log : LogState) → slice_get joined.logs w ≡ Some log → IsAtRest log
  rests tried w log at =
      let done = tried_done tried in
      let is = done_at done.0 done.1 in
      let joined_so = all_at (IsJoined (done.0 + 1)) joined.logs w log is.joined_logs at in
      record {
        flushed = joined_so.flushed;
        marked = ap (λ (m : Mark). m.length) joined_so.marked;
        up = up_there w log at (λ has. in_none (devices.Bank (growing_number side w))
            (subst (λ x. Contains (device_told x) (devices.Bank (growing_number side w))) done.1 has));
      }

  -- ---- where the runtime stands

  mark_new : (w : ℕ) (log : LogState) → slice_get joined.logs w ≡ Some log
      → (log.journal.limit ≡ log_limit) × IsMarkBefore joined.stands.clock.epoch log.mark.epoch
  mark_new w log at =
      let below = below_8 joined.logs w log at joined_many in
      let was = item_at r.logs w (omega (arith, below, facts.many)) in
      let bank_was = item_at (growing_in side after) w (omega (arith, below, after_many)) in
      let bank = item_at (growing_in side now) w (omega (arith, below, now_many)) in
      let made = step w was.0 log bank_was.0 bank.0 was.1 at bank_was.1 bank.1 in
      let before = facts.marked w was.0 was.1 in (
        made.limit ∙ facts.limits w was.0 was.1,
        elim (cases_lt r.stands.clock.epoch last_epoch) [
          | inr last ↦
              let same = facts.runs.not_advanced last in
              let is : was.0 ≡ log = same_Some was.0 log (sym was.1 ∙ ap (λ (x : RuntimeState). slice_get x.logs w) (sym same.1) ∙ at) in
              subst (λ (x : LogState). IsMarkBefore joined.stands.clock.epoch x.mark.epoch) is
              (before_later was.0.mark.epoch r.stands.clock.epoch joined.stands.clock.epoch
              (omega (arith, ap (λ (x : RuntimeState). x.stands.clock.epoch) same.1)) before)
          | inl less ↦
              mark_joined was.0 log r.stands.clock.epoch r.stands.clock.epoch joined.stands.clock.epoch made.mark before
              (omega arith) (omega (arith, clock_next less))
        ],
      )

  clock_later : r.stands.clock.epoch ≤ joined.stands.clock.epoch
  clock_later = elim (cases_lt r.stands.clock.epoch last_epoch) [
    | inl less ↦ omega (arith, clock_next less)
    | inr last ↦ omega (arith, ap (λ (x : RuntimeState). x.stands.clock.epoch) (facts.runs.not_advanced last).1)
  ]

  -- before the swap
  pub stands_pre : (ended down : Bool) → (down ≡ false → fails_device (refused_by result) ≡ false)
      → (ended ≡ false → (down ≡ false) × (epoch : ℕ) × (result ≡ Ok epoch))
      → StandsOn tells clock image_at (ended_as joined ended down) pre
  stands_pre ended down up_so on_so = record {
    whole = pre_whole;
    workers = joined_many;
    limits = all_from (λ (l : LogState). l.journal.limit ≡ log_limit) joined.logs (λ w log at. (mark_new w log at).0);
    above = facts.runs.above facts.above;
    marked = all_from (λ (l : LogState). IsMarkBefore joined.stands.clock.epoch l.mark.epoch) joined.logs
        (λ w log at. (mark_new w log at).1);
    closed = record {
      workers = ap (λ (x : RuntimeState). length x.counted) facts.runs.alone ∙ facts.closed.workers;
      counted = subst (λ (x : RuntimeState). AllByRecursion (λ n. n < 2 ^ 40) x.counted) (sym facts.runs.alone) facts.closed.counted;
      before = omega (arith, ap (λ (x : RuntimeState). x.closed_at) facts.runs.alone, facts.closed.before, clock_later);
    };
    most_pages = omega (arith, ap (λ (x : RuntimeState). x.room) facts.runs.alone, facts.room);
    up = λ is. record {
      save = nothing_there joined.save.down (facts.runs.keeps.down ∙ no_failure_told (up_so is));
      store = ap (λ (x : RuntimeState). x.store.sound) facts.runs.alone ∙ facts.sound;
      logs = all_from (λ (l : LogState). l.journal.down ≡ None) joined.logs (λ w log at.
          up_there w log at (no_device_told result (up_so is) (devices.Bank (growing_number side w))));
    };
    goes_on = λ on.
        let done = on_so on in
        let is = done_at done.1 done.2 in
        record {
          up = done.0;
          logs = subst (λ e. AllByRecursion (IsJoined e) joined.logs) (sym is.clock_now) is.joined_logs;
        };
    stored = facts.runs.keeps.stands;
    snapshot = λ up. record {
      holds = subst (λ d. HoldsPages tells d joined.store.pages) (sym facts.runs.snaps)
          (subst (λ (x : RuntimeState). HoldsPages tells after.snaps x.store.pages) (sym facts.runs.alone) facts.snapshot.holds);
      contents = facts.snapshot.contents;
      stands = subst (λ (x : RuntimeState). SnapshotStands (words_of x.store.pages) (length x.store.pages) facts.snapshot.contents)
          (sym facts.runs.alone) facts.snapshot.stands;
      decls = ap (λ (x : Standing). x.decls) facts.runs.stands ∙ facts.snapshot.decls;
      up_to = omega (arith, ap (λ (x : RuntimeState). x.closed_at) facts.runs.alone, facts.snapshot.up_to);
      earlier = λ some. omega (
        arith,
        ap (λ (x : RuntimeState). x.closed_at) facts.runs.alone,
        facts.snapshot.earlier (ap some_counted (sym (ap (λ (x : RuntimeState). x.counted) facts.runs.alone)) ∙ some),
      );
      let_in = omega (arith, ap (λ (x : RuntimeState). length x.store.pages) facts.runs.alone, ap (λ (x : RuntimeState). x.room) facts.runs.alone, facts.snapshot.let_in);
      published = published_then r.stands joined.stands r.store.pages joined.store.pages r.room joined.room (record {
        pages = ap (λ (x : Standing). x.pages) facts.runs.stands;
        resident = ap (λ (x : Standing). x.resident) facts.runs.stands;
      }) (ap (λ (x : RuntimeState). x.room) facts.runs.alone) (ap (λ (x : RuntimeState). x.store.pages) facts.runs.alone)
          facts.snapshot.published;
    };
    reaches = λ w log bank at there.
        let below = below_8 joined.logs w log at joined_many in
        let was = item_at r.logs w (omega (arith, below, facts.many)) in
        let bank_was = item_at (growing_in side after) w (omega (arith, below, after_many)) in
        let bank_there : slice_get (growing_in side now) w ≡ Some bank =
        ap (λ l. slice_get l w) growing_now ∙ sym (growing_at side pre w)
        ∙ ap (λ s. disk_in pre (devices.Bank (growing_number s w))) (sym joined_side) ∙ there in
        (step w was.0 log bank_was.0 bank was.1 at bank_was.1 bank_there).reaches;
    durable = λ always. stand_join facts.runs facts.many (growing_many r.side after facts.whole) (facts.durable always);
  }

  -- and behind it
  pub stands_new : (new : RuntimeState) (ended down : Bool) → new ≡ ended_as turned_r ended down
      → (down ≡ false → fails_device (refused_by result) ≡ false)
      → (ended ≡ false → (down ≡ false) × (epoch : ℕ) × (result ≡ Ok epoch))
      → StandsOn tells clock image_at new now
  stands_new new ended down new_is up_so on_so =
      subst (λ x. StandsOn tells clock image_at x now)
      (sym (new_is ∙ ap (λ x. ended_as x ended down) facts.turns.new_is
      ∙ turned_ended (facts.turns.tried && not (is_some facts.turns.cut)) r.stands.clock.epoch joined ended down))
      (by_turn (facts.turns.tried && not (is_some facts.turns.cut)) refl)
    where
      still : AlwaysTells tells → LogsStand tells clock image_at joined.side joined.logs joined.counted now
      still always = stand_cut facts.turns pre_whole
          (λ tried. ap some_counted (ap (λ (x : RuntimeState). x.counted) facts.runs.alone) ∙ (tried_done tried).2)
          (stand_join facts.runs facts.many (growing_many r.side after facts.whole) (facts.durable always))

      here : StandsOn tells clock image_at (ended_as joined ended down) now
      here = stands_cut leaves.whole leaves.saves.save leaves.saves.snaps leaves.growing still (stands_pre ended down up_so on_so)

      by_turn : (b : Bool) → (facts.turns.tried && not (is_some facts.turns.cut)) ≡ b
          → StandsOn tells clock image_at (turned_if b r.stands.clock.epoch (ended_as joined ended down)) now
      by_turn false is = here
      by_turn true is =
          let parts = and_parts facts.turns.tried (not (is_some facts.turns.cut)) is in
          let done = tried_done parts.0 in
          let at = done_at done.0 done.1 in
          let turned_is : turned_r ≡ turned r.stands.clock.epoch joined =
          facts.turns.new_is ∙ ap (λ b. turned_if b r.stands.clock.epoch joined) is in
          stands_turned r.stands.clock.epoch
          (omega (arith, ap (λ (x : RuntimeState). x.closed_at) facts.runs.alone, facts.closed.before))
          (omega (arith, at.clock_now, at.epoch_is))
          (subst (λ (x : RuntimeState). AllByRecursion (λ n. n < 2 ^ 40) x.counted) turned_is facts.few)
          (λ always. stand_turned facts.turns pre_whole always joined_many parts.0
          (nothing_there facts.turns.cut (not_true (is_some facts.turns.cut) parts.1)) (still always))
          here
