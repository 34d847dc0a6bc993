-- A join by itself: a round without lines.
use Rattle.std.proofs.Common.{◌≡◌, ◌∙◌, ◌<◌, ◌⊎◌, ◌++◌, ◌∷◌, inl, inr, sym, ap, subst, refl, ℕ, zero, suc, List, []}
use Rattle.std.proofs.Common.{length, map, Bool, true, false, cond, not, Option, Some, None, arith}
use Rattle.std.specs.Prelude.{◌||◌, ◌&&◌, flat_map, is_some, nat_lt, option_to_list, replicate, slice_get}
use Rattle.std.specs.Prelude.{Result, Ok, Err}
use Rattle.std.specs.List.{AllByRecursion, Contains}
use Rattle.std.proofs.lemmas.Bool.{cases_Bool, cases_eq}
use Rattle.std.proofs.lemmas.List.{append-nil}
use Rattle.std.proofs.lemmas.List.Elements.{Contains-push}
use Rattle.std.proofs.lemmas.Option.{same_Some}
use Rattle.lists.specs.Each.{all_at, all_weaker}
use Rattle.lists.specs.Elements.{in_cases, in_none}
use Rattle.lists.specs.Fronts.{IsFront, front_none}
use Rattle.outside.specs.Faults.{Rose}
use Rattle.outside.specs.Reads.{OnlyReads}
use Rattle.log_writer.specs.Vault.{disk_in}
use Rattle.outside.specs.declared.device.Device.{Device}
use Rattle.outside.specs.declared.device.Device.TheVariants as devices
use Rattle.log_writer.specs.declared.vault.Vault.{Vault}
use Rattle.serial_model.specs.Numbers.{last_epoch}
use Rattle.serial_model.specs.declared.number.Commit.{Commit}
use Rattle.wire_form.specs.declared.clock.Mark.{Mark}
use Rattle.log_writer.specs.Points.{SaveState, sequence_of}
use Rattle.snapshot_store.specs.Store.{StoreState}
use Rattle.joint_crashes.specs.Images.{counted_of, epoch_of}
use Rattle.joint_crashes.specs.VaultReads.{RoseIn, reads_none}
use Rattle.tx_script.specs.Causes.{some_counted}
use Rattle.tx_script.specs.Run.{Ran}
use Rattle.tx_script.specs.declared.answer.Answer.TheVariants as answers
use Rattle.worker_logs.specs.LogLaws.{log_begins}
use Rattle.worker_logs.specs.Logs.{IsLog, LogGoesOn, LogRan, LogState, log_limit, reset_log}
use Rattle.worker_logs.specs.Saves.{closed_number, growing_number, logs_marks}
use Rattle.worker_logs.specs.Rows.{NeverFall}
use Rattle.round_engine.specs.Crashes.{CarriesCrashes}
use Rattle.round_engine.specs.Ends.{closed_failed, comes_to_swap, durable_of, end_of}
use Rattle.round_engine.specs.Ends.{epoch_joined, first_of}
use Rattle.round_engine.specs.Ends.{swaps}
use Rattle.round_engine.specs.Gleans.{RoundGleans}
use Rattle.round_engine.specs.Joins.{Joins, without_lines}
use Rattle.round_engine.specs.Keeping.{IsSavedBySeen, JoinAnswers, KeepsSaves, MarksOf, device_told}
use Rattle.round_engine.specs.Phases.{JoinsAndSwaps, ended_as, fails_device, made, refused_by}
use Rattle.round_engine.specs.RanRound.{LeavesVault, SwapsFiles}
use Rattle.round_engine.specs.Refusals.{end_told}
use Rattle.round_engine.specs.Saves.{AreSaved}
use Rattle.round_engine.specs.Sides.{closed_in, closed_numbers, growing_in, other_side}
use Rattle.round_engine.specs.Standing.{beside_of, IsMarkBefore, RuntimeState, Standing, StandsOn}
use Rattle.round_engine.specs.Swaps.{CutsBanks}
use Rattle.round_engine.specs.declared.report.End.{End}
use Rattle.round_engine.specs.declared.report.End.TheVariants as ends
use Rattle.round_engine.specs.declared.report.LimitName.TheVariants.{Bank, Draw, Epoch, Height, Sequence, Snap}
use Rattle.round_engine.specs.declared.rounds.LineRefusals.{LineRefusals}
use Rattle.round_engine.proofs.CrashesLeft.{with_crashes}
use Rattle.round_engine.proofs.Devices.{IsBeside, are_down, bank_down, beside_not_growing}
use Rattle.round_engine.proofs.Ended.{devices_down, down_just, first_down}
use Rattle.round_engine.proofs.EndTold.{IsJoinedAs, IsRefusedAs, end_done, end_refused}
use Rattle.round_engine.proofs.JoinEnds.{JoinFacts, and_parts, asked_by, banks_told, clock_is, closed_same, cut_quiet, cut_rose}
use Rattle.round_engine.proofs.JoinEnds.{cut_uncut, done_at, joined_many, joined_side, leaves, now_many, pre_whole, rests, stands_new}
use Rattle.round_engine.proofs.JoinEnds.{step, stored_told, tried_done, up_there, nothing as join_nothing}
use Rattle.round_engine.proofs.JoinedAs.{bank_told, below_test, closed_is_cut, cut_device, cut_end, durable_by, joined_as}
use Rattle.round_engine.proofs.LogsLeft.{Leaves, rise_then}
use Rattle.round_engine.proofs.Numbered.{closed_at, closed_many, growing_many}
use Rattle.round_engine.proofs.Places.{not_save, other_bank}
use Rattle.round_engine.proofs.RoundJoined.{cut_in, device_just, done_first, in_cut, not_not, up_first}
use Rattle.round_engine.proofs.RoundKept.{after_up}
use Rattle.round_engine.proofs.RoundKept.{rise_on}
use Rattle.round_engine.proofs.Turned.{TurnsBehind, keeps_onto, turned_files, turned_if, turned_parts, turns_behind}
use Rattle.round_engine.proofs.Whole.{LogsTotal, SeenIn, leaves_vault}
use Rattle.round_engine.proofs.Places.{item_at, map_at, within_of}

-- nothing was refused in lines
abbrev pub none_refused : LineRefusals
none_refused = record { device = None; keeper = None; draw = None; full = None; sequence = None }

-- what the join was refused by is told
pub told_alone : (end : End) → end_told none_refused (Some end) ≡ Some end
told_alone (ends.Device device) = refl
told_alone (ends.Damaged device at) = refl
told_alone (ends.Limit Epoch number) = refl
told_alone (ends.Limit Draw number) = refl
told_alone (ends.Limit Bank number) = refl
told_alone (ends.Limit Snap number) = refl
told_alone (ends.Limit Height number) = refl
told_alone (ends.Limit Sequence number) = refl
told_alone ends.Memory = refl

-- a mark before an epoch, and then marks of it
pub mark_rises : (mark : Option ℕ) (epoch : ℕ) (set : List Mark) → IsMarkBefore epoch mark
    → AllByRecursion (λ (m : Mark). m.epoch ≡ Some epoch) set
    → NeverFall 0 (option_to_list mark ++ flat_map (λ (m : Mark). option_to_list m.epoch) set)
mark_rises None epoch set before of = rise_then 0 0 epoch [] set (omega arith) (omega arith) tt of
mark_rises (Some e) epoch set before of = (omega arith, rise_then e e epoch [] set (omega arith) (omega (arith, before)) tt of)

pub empty_at : (n w : ℕ) (epochs : List (Option ℕ)) → slice_get (replicate n []) w ≡ Some epochs → epochs ≡ []
empty_at zero w epochs at = absurd cc
empty_at (suc n) zero epochs at = sym (same_Some [] epochs at)
empty_at (suc n) (suc w) epochs at = empty_at n w epochs at

-- the join answers that this log file failed, or it doesn't
pub told_or : (result : Result ℕ End) (number : ℕ) → (result ≡ Err (ends.Device (devices.Bank number)))
    ⊎ (Contains (device_told result) (devices.Bank number) → ⊥)
told_or (Ok epoch) number = inr (λ has. in_none (devices.Bank number) has)
told_or (Err (ends.Limit name limit)) number = inr (λ has. in_none (devices.Bank number) has)
told_or (Err (ends.Damaged device at)) number = inr (λ has. in_none (devices.Bank number) has)
told_or (Err ends.Memory) number = inr (λ has. in_none (devices.Bank number) has)
told_or (Err (ends.Device devices.Save)) number = inr (λ has. not_save number has)
told_or (Err (ends.Device devices.Snaps)) number = inr (λ has. elim (in_cases (devices.Bank number) devices.Snaps [] has) [
  | inl same ↦ absurd (let no = same in cc)
  | inr none ↦ in_none (devices.Bank number) none
])
told_or (Err (ends.Device (devices.Bank n))) number = elim (cases_eq n number) [
  | inl same ↦ inl (ap (λ m. Err (ends.Device (devices.Bank m))) same)
  | inr other ↦ inr (λ has. other_bank number n other has)
]

pub or_false_parts : (a : Bool) (end : Option End) → (a || is_some end) ≡ false → (a ≡ false) × (end ≡ None)
or_false_parts false None is = (refl, refl)
or_false_parts false (Some end) is = absurd cc
or_false_parts true end is = absurd cc

module _ {D : Type 0} {tells : D → Option (List ℕ)} {clock : D → ℕ} {image_at : D → ℕ → List ℕ → Type 0} where
  -- what a join makes of a log, for whoever knows what it had before
  pub join_leaves : {epoch : ℕ} {old new : LogState} {before now : D} → IsMarkBefore epoch old.mark.epoch
      → LogGoesOn tells clock image_at epoch old new before now → (commits : List Commit) (was : List ℕ)
      → IsLog tells clock image_at commits was old before
      → Leaves tells clock image_at commits [] was [] new before now
  join_leaves {old = old} {new = new} {before = before} {now = now} marked goes commits was is =
      let begins = log_begins is in
      let went = goes commits was was (old.mark ∷ []) before begins in
      record {
        durable = went.durable;
        marks = old.mark ∷ went.set;
        ran = subst (λ c. LogRan tells clock image_at c was went.durable (old.mark ∷ went.set) before now new)
            (sym (append-nil commits)) went.ran;
        since = tt;
        rise = mark_rises old.mark.epoch _ went.set marked went.of_epoch;
        behind_join = subst (λ l. Contains l new.mark) (sym went.ran.last.1) (Contains-push went.ran.last.0 new.mark);
      }

-- neither the join nor the swap ends a run
pub ended_still : {D : Type 0} {tells : D → Option (List ℕ)} {clock : D → ℕ} {image_at : D → ℕ → List ℕ → Type 0}
    {faults : D → ℕ} {old swapped : RuntimeState} {before now : Vault D} {durable : Option ℕ} {end : Option End}
    → JoinsAndSwaps tells clock image_at faults old swapped before now durable end → swapped.stands.ended ≡ old.stands.ended
ended_still {tells = tells} {clock = clock} {image_at = image_at} {faults = faults} {old = old} {swapped = swapped} {now = now} js =
    let turns = turns_behind tells clock image_at faults old.stands.clock.epoch js.result js.joined swapped js.between now js.cut_end
    (λ e is. (subst (JoinAnswers old js.joined js.joins.stored js.joins.failed) is js.joins.answer).2) js.swaps in
    ap (λ (r : RuntimeState). r.stands.ended) turns.new_is
    ∙ ap (λ (s : Standing). s.ended) (turned_parts (turns.tried && not (is_some turns.cut)) old.stands.clock.epoch js.joined).0
    ∙ ap (λ (s : Standing). s.ended) js.joins.stands

module _ {D : Type 0} {tells : D → Option (List ℕ)} {clock : D → ℕ} {image_at : D → ℕ → List ℕ → Type 0}
    {faults : D → ℕ} {old new : RuntimeState} {before now : Vault D}
    (stands : StandsOn tells clock image_at old before) (up : old.down ≡ false)
    (durable : Option ℕ) (end : Option End) (swapped : RuntimeState)
    (js : JoinsAndSwaps tells clock image_at faults old swapped before now durable end)
    (new_is : new ≡ ended_as swapped (old.stands.ended || is_some end) (fails_device end)) where
  turns : TurnsBehind tells clock image_at faults old.stands.clock.epoch js.result js.joined swapped js.between now js.cut_end
  turns = turns_behind tells clock image_at faults old.stands.clock.epoch js.result js.joined swapped js.between now js.cut_end
      (λ e is. (subst (JoinAnswers old js.joined js.joins.stored js.joins.failed) is js.joins.answer).2) js.swaps

  store_up : old.store.sound ≡ true
  store_up = (stands.up up).store

  facts : JoinFacts tells clock image_at faults old.side old js.joined swapped before js.between now js.result js.cut_end
  facts = record {
    side_is = refl;
    whole = stands.whole;
    many = stands.workers;
    limits = λ w log at. all_at (λ (l : LogState). l.journal.limit ≡ log_limit) old.logs w log stands.limits at;
    marked = λ w log at. all_at (λ (l : LogState). IsMarkBefore old.stands.clock.epoch l.mark.epoch) old.logs w log stands.marked at;
    above = stands.above;
    closed = stands.closed;
    room = stands.most_pages;
    sound = store_up;
    snapshot = stands.snapshot store_up;
    runs = js.joins;
    turns = turns;
    few = js.counted;
    durable = stands.durable;
  }

  abbrev logs : List LogState
  logs = js.joined.logs

  abbrev others : List Device
  others = cut_device turns.cut

  abbrev failed : List Device
  failed = devices_down old.side (are_down logs) (is_some js.joins.failed) others

  abbrev ran : Ran
  ran = without_lines old failed durable

  abbrev turned_b : Bool
  turned_b = turns.tried && not (is_some turns.cut)

  -- ---- the runtime in the end, by its parts

  parts_are : (swapped.stands ≡ js.joined.stands) × (swapped.save ≡ js.joined.save) × (swapped.store ≡ js.joined.store)
      × (swapped.room ≡ js.joined.room)
  parts_are =
      let parts = turned_parts turned_b old.stands.clock.epoch js.joined in (
        ap (λ (r : RuntimeState). r.stands) turns.new_is ∙ parts.0,
        ap (λ (r : RuntimeState). r.save) turns.new_is ∙ parts.1,
        ap (λ (r : RuntimeState). r.store) turns.new_is ∙ parts.2,
        ap (λ (r : RuntimeState). r.room) turns.new_is ∙ parts.3,
      )

  new_stands : new.stands ≡ record js.joined.stands { ended = old.stands.ended || is_some end }
  new_stands = ap (λ (r : RuntimeState). r.stands) new_is
      ∙ ap (λ (s : Standing). record s { ended = old.stands.ended || is_some end }) parts_are.0

  new_save : new.save ≡ js.joined.save
  new_save = ap (λ (r : RuntimeState). r.save) new_is ∙ parts_are.1

  new_store : new.store ≡ old.store
  new_store = ap (λ (r : RuntimeState). r.store) new_is ∙ parts_are.2 ∙ ap (λ (r : RuntimeState). r.store) js.joins.alone

  new_room : new.room ≡ old.room
  new_room = ap (λ (r : RuntimeState). r.room) new_is ∙ parts_are.3 ∙ ap (λ (r : RuntimeState). r.room) js.joins.alone

  joined_counted : js.joined.counted ≡ old.counted
  joined_counted = ap (λ (r : RuntimeState). r.counted) js.joins.alone

  now_snaps : now.snaps ≡ before.snaps
  now_snaps = (leaves facts).saves.snaps ∙ js.joins.snaps

  -- ---- the swap, as the run tells it

  comes_is : comes_to_swap ran ≡ turns.tried
  comes_is = ap (λ d. is_some d && not (some_counted old.counted)) js.durable_is
      ∙ ap (λ c. is_some (made js.result) && not (some_counted c)) (sym joined_counted)
      ∙ sym turns.tried_is

  done_none : turns.tried ≡ true → (js.joins.failed ≡ None) × (first_down old.side 0 (are_down logs) ≡ None)
  unfolding facts turns
  done_none tried =
      let done = tried_done facts tried in
      ((done_at facts done.0 done.1).none, banks_told facts ∙ ap bank_told done.1)

  cut_closed : (n : ℕ) → turns.cut ≡ Some n → (w : ℕ) × (n ≡ closed_number old.side w)
  unfolding facts turns
  cut_closed n is = let at = (cut_rose facts n is).0 in (at.0, at.2)

  joined_so : IsJoinedAs ran (first_of (refused_by js.result) (cut_end turns.cut))
  unfolding facts turns
  joined_so = joined_as ran old js.joined js.joins.stored js.joins.failed old.side (are_down logs) turns.cut refl refl cut_closed refl
      refl (λ is. absurd (let no = is in cc)) js.result (cut_uncut facts) (banks_told facts) js.joins.answer

  end_is : end ≡ first_of (refused_by js.result) (cut_end turns.cut)
  end_is = js.end_is ∙ ap (first_of (refused_by js.result)) turns.end_is

  refused_by_so : IsJoinedAs ran end
  refused_by_so = subst (IsJoinedAs ran) (sym end_is) joined_so

  refused_none : IsRefusedAs ran none_refused
  refused_none = record {
    draw = refl;
    full = λ none. refl;
    damage = λ none. refl;
    memory = λ none undamaged. refl;
    sequence = refl;
    leaves = refl;
  }

  end_so : (x : Option End) → IsJoinedAs ran x → x ≡ end_of ran
  end_so None is = end_done ran none_refused refused_none refl is
  end_so (Some e) is = sym (told_alone e) ∙ end_refused ran none_refused refused_none refl e is

  durable_so : durable ≡ durable_of ran
  unfolding facts turns
  durable_so = js.durable_is ∙ durable_by ran old js.joined js.joins.stored js.joins.failed old.side (are_down logs) turns.cut
      refl refl cut_closed refl refl (λ is. absurd (let no = is in cc)) js.result (cut_uncut facts) (banks_told facts) js.joins.answer refl

  swaps_is : swaps ran ≡ turned_b
  swaps_is = ap (λ b. b && not (closed_failed ran)) comes_is ∙ elim (cases_Bool turns.tried) [
    | inl tried ↦
        let no = done_none tried in
        ap (λ b. turns.tried && not b) (closed_is_cut ran old js.joined js.joins.stored js.joins.failed old.side (are_down logs)
        turns.cut refl refl cut_closed refl refl (λ is. absurd (let bad = is in cc)) no.0 no.1)
    | inr not_tried ↦ ap (λ b. b && not (closed_failed ran)) not_tried ∙ sym (ap (λ b. b && not (is_some turns.cut)) not_tried)
  ]

  stands_made : StandsOn tells clock image_at new now
  stands_made = stands_new facts new (old.stands.ended || is_some end) (fails_device end) new_is
      (λ quiet. up_first (refused_by js.result) (cut_end turns.cut) (ap fails_device (sym end_is) ∙ quiet))
      (λ on.
      let none = (or_false_parts old.stands.ended end on).1 in
      let done = done_first js.result (cut_end turns.cut) (sym end_is ∙ none) in
      (ap fails_device none, done.0, done.1))

  -- ---- what was kept

  keeps_made : KeepsSaves tells clock image_at faults js.joins.stored js.joins.failed old new before now
  keeps_made = keeps_onto (leaves facts).saves new_save (ap (λ (r : RuntimeState). r.store) new_is ∙ parts_are.2) js.joins.keeps

  joined_epoch : js.joined.stands.clock.epoch ≡ epoch_joined ran
  joined_epoch = clock_is facts

  abbrev Seen : ℕ → List Mark → Type 0
  Seen = SeenIn old.stands.clock.epoch (epoch_joined ran) (λ w. []) logs

  saves_made : AreSaved (IsSavedBySeen Seen) (beside_of old) [] (js.joins.stored ++ option_to_list js.joins.failed)
  saves_made = record {
    lines = [];
    rest = js.joins.stored ++ option_to_list js.joins.failed;
    all = refl;
    told = refl;
    behind = all_weaker (IsSavedBySeen (MarksOf js.joined js.joined.stands.clock.epoch js.joined.stands.clock.epoch) (beside_of old))
        (IsSavedBySeen Seen (beside_of old))
        (λ saved is. (
          is.0,
          is.1,
          (
            omega (arith, is.2.0, joined_epoch, after_up (nat_lt old.stands.clock.epoch last_epoch) old.stands.clock.epoch),
            omega (arith, is.2.1, joined_epoch),
            inr is.2.2,
          ),
          is.3,
        ))
        (js.joins.stored ++ option_to_list js.joins.failed) js.joins.by_marks;
  }

  total : LogsTotal tells clock image_at faults (λ w. []) (λ w. []) old.logs logs (growing_in old.side before)
      (growing_in old.side now)
  total = record {
    old_many = stands.workers;
    new_many = joined_many facts;
    before_many = growing_many old.side before stands.whole;
    now_many = now_many facts;
    each = λ w was log bank_was bank at_was at_log at_bank_was at_bank.
        let made = step facts w was log bank_was bank at_was at_log at_bank_was at_bank in
        let marked = all_at (λ (l : LogState). IsMarkBefore old.stands.clock.epoch l.mark.epoch) old.logs w was stands.marked at_was in
        record {
          leaves = λ commits durable is. join_leaves marked made.goes commits durable is;
          longer = omega (arith, made.end);
          first = tt;
          blames = made.blames;
          reaches = made.reaches;
        };
  }

  -- ---- the closed log files

  files_made : SwapsFiles tells clock image_at faults ran logs old new before now
  unfolding facts turns
  files_made =
      let files = turned_files turned_b old.stands.clock.epoch js.joined in
      let told = new_is ∙ ap (λ r. ended_as r (old.stands.ended || is_some end) (fails_device end)) turns.new_is in
      record {
        between = js.between;
        reads = λ w was is at there.
            let same : is ≡ was = same_Some is was (sym there ∙ closed_at old.side js.between w ∙ ap (λ l. slice_get l w) (closed_same facts)
            ∙ sym (closed_at old.side before w) ∙ at) in
            subst (λ d. OnlyReads tells clock image_at faults was d) (sym same) (reads_none was);
        uncut = ap (λ c. c.items) js.joins.cuts;
        left = λ no. (turns.left (sym comes_is ∙ no)).1;
        cut = λ is.
            let tried = sym comes_is ∙ is in (
              turns.cut,
              not_not (is_some turns.cut) ∙ sym (ap not (swaps_is ∙ ap (λ b. b && not (is_some turns.cut)) tried)),
              subst (λ (s : SaveState). CutsBanks tells clock image_at faults (sequence_of s.newest) (closed_numbers old.side) turns.cut
                  js.between now) (sym new_save)
                  (subst (λ s. CutsBanks tells clock image_at faults (sequence_of js.joined.save.newest) (closed_numbers s) turns.cut
                  js.between now) (joined_side facts) (turns.cuts tried)),
            );
        nothing = λ is w below. ap (λ (s : SaveState). counted_of s.newest (closed_number old.side w)) new_save
            ∙ join_nothing facts (sym comes_is ∙ is) w below;
        side = ap (λ (r : RuntimeState). r.side) told ∙ files.0 ∙ ap (λ s. cond turned_b (other_side s) s) (joined_side facts)
            ∙ sym (ap (λ b. cond b (other_side old.side) old.side) swaps_is);
        counted = ap (λ (r : RuntimeState). r.counted) told ∙ files.1
            ∙ ap (cond turned_b (map (λ (m : Mark). m.length) (logs_marks logs))) joined_counted
            ∙ sym (ap (λ b. cond b (map (λ (m : Mark). m.length) (logs_marks logs)) old.counted) swaps_is);
        closed_at = ap (λ (r : RuntimeState). r.closed_at) told ∙ files.2
            ∙ ap (cond turned_b old.stands.clock.epoch) (ap (λ (r : RuntimeState). r.closed_at) js.joins.alone)
            ∙ sym (ap (λ b. cond b old.stands.clock.epoch old.closed_at) swaps_is);
        logs_are = ap (λ (r : RuntimeState). r.logs) told ∙ files.3 ∙ sym (ap (λ b. cond b (map reset_log logs) logs) swaps_is);
      }

  closed_still : (w : ℕ) (was is : D) → slice_get (closed_in old.side before) w ≡ Some was
      → slice_get (closed_in old.side js.between) w ≡ Some is → is ≡ was
  closed_still w was is at there = same_Some is was (sym there ∙ ap (λ l. slice_get l w) (closed_same facts) ∙ at)

  rose_made : (device : Device) → Contains others device → IsBeside old.side device × RoseIn faults device before now
  unfolding facts turns
  rose_made device has =
      let at = in_cut turns.cut device has in
      let cut = cut_rose facts at.0 at.1 in
      let w = cut.0.0 in
      let number = cut.0.2 in
      let rose = cut.1 in
      let was = item_at (closed_in old.side before) w (omega (arith, cut.0.1, closed_many old.side before stands.whole)) in
      let mid_there : slice_get (closed_in old.side js.between) w ≡ Some rose.0 =
      sym (closed_at old.side js.between w) ∙ ap (λ n. disk_in js.between (devices.Bank n)) (sym number) ∙ rose.2 in
      let same = closed_still w was.0 rose.0 was.1 mid_there in
      subst (λ d. IsBeside old.side d × RoseIn faults d before now) at.2 (
        (w, number),
        (
          was.0,
          rose.1,
          ap (λ n. disk_in before (devices.Bank n)) number ∙ closed_at old.side before w ∙ was.1,
          rose.3,
          subst (λ d. Rose (faults d) (faults rose.1)) same rose.4,
        ),
      )

  quiet_made : (w : ℕ) (was is : D) → slice_get (closed_in old.side before) w ≡ Some was
      → slice_get (closed_in old.side now) w ≡ Some is → (Contains others (devices.Bank (closed_number old.side w)) → ⊥)
      → faults is ≡ faults was
  unfolding facts turns
  quiet_made w was is at there not =
      let below : w < 8 = omega (arith, within_of (closed_in old.side before) w was at, closed_many old.side before stands.whole) in
      let mid_bank = item_at (closed_in old.side js.between) w (omega (arith, below, closed_many old.side js.between (pre_whole facts))) in
      cut_quiet facts (closed_number old.side w) (λ is. not (cut_in turns.cut (closed_number old.side w) is)) mid_bank.0 is
      (closed_at old.side js.between w ∙ mid_bank.1) (closed_at old.side now w ∙ there)
      ∙ ap faults (closed_still w was mid_bank.0 at mid_bank.1)

  -- nothing was gleaned
  gleans_none : RoundGleans tells [] [] None old new before now
  gleans_none = record {
    told = ap (λ d. is_some (tells d)) now_snaps;
    found = λ what has. absurd (in_none what has);
    made = λ epoch count has. absurd (in_none (answers.Snap epoch count) has);
    kept = λ not sound. (new_store, now_snaps);
    damage = λ device at is. absurd cc;
    undamaged = λ not. refl;
    many = λ sound. ap (λ (s : StoreState). length s.pages) new_store;
  }

  -- a log file that failed is the one that the join answered
  bank_result : (w : ℕ) → w < 8 → Contains failed (devices.Bank (growing_number old.side w))
      → js.result ≡ Err (ends.Device (devices.Bank (growing_number old.side w)))
  unfolding facts
  bank_result w below has =
      let here = bank_down old.side (are_down logs) (is_some js.joins.failed) others w
      (beside_not_growing old.side others w (λ device there. (rose_made device there).0)) has in
      let log = map_at (λ (l : LogState). is_some l.journal.down) logs w true here in
      elim (told_or js.result (growing_number old.side w)) [
        | inl told ↦ told
        | inr not ↦ absurd (let no = sym log.2 ∙ ap is_some (up_there facts w log.0 log.1 not) in cc)
      ]

  -- what it leaves of the vault, and of the crashes
  left : ((disk : D) (file : List ℕ) → tells disk ≡ Some file → image_at disk (clock disk) file)
      → (v : LeavesVault tells clock image_at faults ran (λ w. []) old new before now)
      × CarriesCrashes tells clock image_at (λ w. []) (v.stored ++ option_to_list v.failed) ran old new before now
  unfolding files_made facts turns
  left reads = with_crashes reads stands refl (λ epoch is. sym durable_so ∙ is)
      (leaves_vault ran (λ w. []) (λ w. []) logs old new before now js.joins.stored js.joins.failed total saves_made
      keeps_made.newest (λ k saved places at told. absurd (let no = told in cc))
      (λ w epochs are. sym (empty_at 8 w epochs are))
      (λ w below. tt) stands.whole stands.closed.workers files_made (pre_whole facts)
      (λ is. rests facts (sym comes_is ∙ (and_parts (comes_to_swap ran) (not (closed_failed ran)) is).0))
      others keeps_made stands_made refl (λ device has. (rose_made device has).0) (λ device has. (rose_made device has).1)
      (λ not. ap faults now_snaps) quiet_made gleans_none (λ what has. absurd (in_none what has)) (λ not. ap (λ (s : StoreState). s.sound) new_store ∙ store_up) new_room
      (stored_told facts ∙ ap option_to_list (sym js.durable_is))
      (λ w log refusal at has. absurd (let no = has in cc))
      (λ w below has. inr refl)
      (rise_on (epoch_of old.save.newest) old.stands.clock.epoch [] (js.joins.stored ++ option_to_list js.joins.failed) tt
      (omega (arith, stands.above)) js.joins.at_clock)
      (λ is. let by = asked_by facts is in inr (below_test old.stands.clock.epoch last_epoch by.0, by.1)))

  -- What the join comes to.
  pub join_alone : ((disk : D) (file : List ℕ) → tells disk ≡ Some file → image_at disk (clock disk) file)
      → Joins tells clock image_at faults old new before now durable end
  unfolding files_made facts turns
  join_alone reads = record {
    failed = failed;
    end_is = end_so end refused_by_so;
    durable_is = durable_so;
    stands = new_stands ∙ ap (λ (s : Standing). record s { ended = old.stands.ended || is_some end }) js.joins.stands;
    down = down_just failed new.down (ap (λ (r : RuntimeState). r.down) new_is ∙ device_just ran end refused_by_so);
    leaves = (left reads).0;
    crashes = (left reads).1;
    not_advanced = λ last.
        let same = js.joins.not_advanced last in
        let untried : turns.tried ≡ false = elim (cases_Bool turns.tried) [
          | inl tried ↦
              let done = tried_done facts tried in
              absurd (omega (arith, (done_at facts done.0 done.1).less, last))
          | inr not ↦ not
        ] in
        let unturned : swapped ≡ js.joined = turns.new_is
        ∙ ap (λ b. turned_if (b && not (is_some turns.cut)) old.stands.clock.epoch js.joined) untried in (
          (turns.left untried).1 ∙ same.0,
          ap (λ (r : RuntimeState). r.logs) (new_is ∙ ap (λ r. ended_as r (old.stands.ended || is_some end) (fails_device end)) unturned)
              ∙ ap (λ (r : RuntimeState). r.logs) same.1,
          new_save ∙ ap (λ (r : RuntimeState). r.save) same.1,
        );
    not_flushed = λ w below has.
        let same = js.joins.not_flushed (growing_number old.side w) (bank_result w below has) in
        ((leaves facts).saves.save ∙ same.0, new_save ∙ same.2);
  }
