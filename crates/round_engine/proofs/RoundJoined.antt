-- A round that was joined, with the swap behind the join.
use Rattle.std.proofs.Common.{◌≡◌, ◌∙◌, ◌≤◌, ◌<◌, ◌++◌, ◌∷◌, inl, inr, sym, ap, subst, refl, ℕ, List, []}
use Rattle.std.proofs.Common.{append_assoc, length, map, Bool, true, false, cond, not, Option, Some, None, arith}
use Rattle.std.specs.Prelude.{◌&&◌, is_some, nat_lt, option_to_list, slice_get}
use Rattle.std.specs.Prelude.{Result, Ok, Err}
use Rattle.std.specs.List.{AllByRecursion, Contains, list_any}
use Rattle.std.proofs.lemmas.Bool.{cases_Bool}
use Rattle.std.proofs.lemmas.List.{append-nil, map-append}
use Rattle.std.proofs.lemmas.Option.{same_Some}
use Rattle.lists.specs.Each.{all_weaker}
use Rattle.lists.specs.Elements.{at_below, in_cases, in_head, in_none}
use Rattle.outside.specs.Faults.{Rose}
use Rattle.log_writer.specs.Vault.{disk_in}
use Rattle.outside.specs.declared.device.Device.{Device}
use Rattle.outside.specs.declared.device.Device.TheVariants as devices
use Rattle.log_writer.specs.declared.vault.Vault.{Vault}
use Rattle.serial_model.specs.Numbers.{last_epoch}
use Rattle.script_grammar.specs.Script.{Round, keeper_lines, lines_of_worker}
use Rattle.wire_form.specs.declared.clock.Mark.{Mark}
use Rattle.log_writer.specs.Points.{SaveState, sequence_of}
use Rattle.log_writer.specs.declared.saved.Saved.{Saved}
use Rattle.snapshot_store.specs.Store.{StoreState}
use Rattle.joint_crashes.specs.Images.{counted_of, epoch_of}
use Rattle.joint_crashes.specs.VaultReads.{RoseIn}
use Rattle.tx_script.specs.Causes.{KeeperAt, keeper_at_end, keeper_before, last_sequence}
use Rattle.tx_script.specs.Causes.{leaves_join_out, some_counted}
use Rattle.tx_script.specs.Run.{Ran}
use Rattle.worker_logs.specs.Logs.{LogState, reset_log}
use Rattle.worker_logs.specs.Saves.{closed_number, growing_number, logs_marks}
use Rattle.worker_logs.specs.SavesLaws.{saved_epoch_less}
use Rattle.worker_logs.specs.Rows.{NeverFall}
use Rattle.round_engine.specs.Ends.{closed_failed, comes_to_advance, comes_to_swap, durable_of, end_of}
use Rattle.round_engine.specs.Ends.{epoch_after, epoch_joined, first_device, first_of}
use Rattle.round_engine.specs.Ends.{save_limited, swaps}
use Rattle.round_engine.specs.Keeping.{AreByPlace, IsSavedBySeen, JoinAnswers, KeepsSaves, MarksOf, device_told}
use Rattle.round_engine.specs.Keeping.{epoch_by, epochs_in}
use Rattle.round_engine.specs.Keeping.{is_refusal, keeper_on, last_seen}
use Rattle.round_engine.specs.Keeping.{last_epoch_of}
use Rattle.round_engine.specs.Logs.{IsRefusedBy}
use Rattle.round_engine.specs.Phases.{JoinsAndSwaps, RunsAll, ended_as, fails_device, made, refused_by}
use Rattle.round_engine.specs.RanRound.{Rounds, SwapsFiles}
use Rattle.round_engine.specs.Refusals.{end_told, leaves_out}
use Rattle.round_engine.specs.Saves.{AreSaved, beside_at_end, beside_at_save, GoesBy, saves_told}
use Rattle.round_engine.proofs.Placed.{at_early, at_either}
use Rattle.round_engine.proofs.RoundMarks.{stood_long}
use Rattle.round_engine.specs.Sides.{closed_in, closed_numbers, growing_in, other_side}
use Rattle.round_engine.specs.Standing.{beside_of, IsReady, RuntimeState, Standing, StandsOn}
use Rattle.round_engine.specs.Swaps.{CutsBanks}
use Rattle.round_engine.specs.Workers.{idled}
use Rattle.round_engine.specs.declared.report.End.{End}
use Rattle.round_engine.specs.declared.report.End.TheVariants as ends
use Rattle.round_engine.specs.declared.report.Report.{Report}
use Rattle.round_engine.proofs.Devices.{IsBeside, are_down}
use Rattle.round_engine.proofs.Ended.{down_just, first_down, limited_last}
use Rattle.round_engine.proofs.EndTold.{IsJoinedAs, IsRefusedAs, NoneRefused, end_done, end_refused}
use Rattle.round_engine.proofs.EndTold.{nothing, told_some}
use Rattle.round_engine.proofs.JoinEnds.{JoinFacts, and_parts, asked_by, join_below, banks_told, before_later}
use Rattle.round_engine.proofs.JoinEnds.{clock_is, closed_same, cut_quiet, cut_rose}
use Rattle.round_engine.proofs.JoinEnds.{cut_uncut, done_at, joined_many, joined_side, leaves, now_many, pre_whole, rests, stands_new}
use Rattle.round_engine.proofs.JoinEnds.{step, stored_told, told_bank, tried_done, nothing as join_nothing}
use Rattle.round_engine.proofs.JoinedAs.{bank_told, below_test, closed_is_cut, cut_device, cut_end, durable_by, joined_as, none_down_at}
use Rattle.round_engine.proofs.Keeping.{keeps_then}
use Rattle.round_engine.proofs.LinesLeft.{LastStep, shown_in}
use Rattle.round_engine.proofs.Numbered.{closed_at, closed_many}
use Rattle.round_engine.proofs.Places.{none_refused, nothing_there, map_there, or_parts}
use Rattle.round_engine.proofs.RoundDone.{answers_caused, cuts_mid, done}
use Rattle.round_engine.proofs.RoundDone.{ran_with}
use Rattle.round_engine.proofs.RoundKept.{NothingTold, first_told_none, after_whole, at_end, by_lines, device_is, first_is}
use Rattle.round_engine.proofs.RoundKept.{gleans_told, growing_kept, joined_up, keeps_lines, kept_above, kept_closed}
use Rattle.round_engine.proofs.RoundKept.{kept_closed_at, kept_counted, kept_durable, kept_first, kept_room, kept_side, kept_snapshot, kept_sound, lines_limit, mid_save}
use Rattle.round_engine.proofs.GleanDevices.{nothing_in}
use Rattle.round_engine.proofs.RoundKept.{mark_at, mid_beside, none_told, over_kept, quiet_kept}
use Rattle.round_engine.proofs.RoundKept.{placed_lines, quiet_snaps_kept, reads_kept, refused_as}
use Rattle.round_engine.proofs.RoundKept.{go_on, rise_on, saves_up}
use Rattle.round_engine.proofs.RoundMarks.{firsts}
use Rattle.round_engine.proofs.Turned.{TurnsBehind, keeps_onto, turned_files, turned_if, turned_parts, turns_behind}
use Rattle.round_engine.proofs.Whole.{SeenIn, below_8}
use Rattle.round_engine.proofs.Places.{item_at, within_of}

-- a refusal of the join stands in front of a cut's
pub up_first : (x y : Option End) → fails_device (first_of x y) ≡ false → fails_device x ≡ false
up_first None y up = refl
up_first (Some end) y up = up

-- without either the join was done
pub done_first : (result : Result ℕ End) (y : Option End) → first_of (refused_by result) y ≡ None → (epoch : ℕ) × (result ≡ Ok epoch)
done_first (Ok epoch) y none = (epoch, refl)
done_first (Err end) y none = absurd cc

-- nothing was told as failed, or the device that ended it
pub device_up : (ran : Ran) (refusal : Option End) → IsJoinedAs ran refusal → first_device ran.beside.devices ≡ None
    → fails_device refusal ≡ false
device_up ran None is none = refl
device_up ran (Some (ends.Device device)) is none = elim is.device [
  | inl up ↦ elim (is.limit up (ends.Device device) refl) [
    | inl epoch ↦ absurd (let no = epoch.0 in cc)
    | inr sequence ↦ absurd (let no = sequence.0 in cc)
  ]
  | inr failed ↦ absurd (let no = sym none ∙ failed.2 in cc)
]
device_up ran (Some (ends.Damaged device at)) is none = refl
device_up ran (Some (ends.Limit name number)) is none = refl
device_up ran (Some ends.Memory) is none = refl

-- the join was refused by a device just where one failed
pub device_just : (ran : Ran) (refusal : Option End) → IsJoinedAs ran refusal
    → fails_device refusal ≡ is_some (first_device ran.beside.devices)
device_just ran refusal is = elim is.device [
  | inl up ↦ device_up ran refusal is up ∙ ap is_some (sym up)
  | inr failed ↦ ap fails_device failed.1 ∙ ap is_some (sym failed.2)
]

-- the device of the cut that failed
pub in_cut : (cut : Option ℕ) (device : Device) → Contains (cut_device cut) device
    → (n : ℕ) × (cut ≡ Some n) × (devices.Bank n ≡ device)
in_cut None device has = absurd (in_none device has)
in_cut (Some n) device has = elim (in_cases device (devices.Bank n) [] has) [
  | inl same ↦ (n, refl, same)
  | inr none ↦ absurd (in_none device none)
]

pub cut_in : (cut : Option ℕ) (n : ℕ) → cut ≡ Some n → Contains (cut_device cut) (devices.Bank n)
cut_in None n is = absurd cc
cut_in (Some m) n is =
    subst (λ k. Contains (devices.Bank m ∷ []) (devices.Bank k)) (same_Some m n is) (in_head (devices.Bank m) [])

pub not_not : (b : Bool) → b ≡ not (not b)
not_not true = refl
not_not false = refl

pub comes_so : (leaves below : Bool) → leaves ≡ false → below ≡ true → (not leaves && below) ≡ true
comes_so leaves below out low = rw (out, low) refl

module _ {D : Type 0} {tells : D → Option (List ℕ)} {clock : D → ℕ} {image_at : D → ℕ → List ℕ → Type 0}
    {faults : D → ℕ} {tries : ℕ} {round : Round} {old : RuntimeState} {start : List LogState} {new : RuntimeState}
    {before now : Vault D} {report : Report}
    (stands : StandsOn tells clock image_at old before) (ready : IsReady old) (some : 1 ≤ old.stands.clock.epoch)
    (start_many : length start ≡ 8)
    (idle : (w : ℕ) (log : LogState) → slice_get old.logs w ≡ Some log
    → slice_get start w ≡ Some (idled (lines_of_worker round w) log))
    (all : RunsAll tells clock image_at faults tries round (record old { logs = start }) new before now report)
    (out : leaves_out all.refused ≡ false) (swapped : RuntimeState) (refusal : Option End)
    (js : JoinsAndSwaps tells clock image_at faults all.kept swapped all.after now report.durable refusal)
    (end_is : report.end ≡ end_told all.refused refusal)
    (new_is : new ≡ ended_as swapped (is_some report.end) (fails_device refusal)) where
  -- nothing was refused in the lines
  none : NoneRefused all.refused
  none = nothing all.refused out

  told : NothingTold all.keeper.failed all.keeper.broken all.keeper.damaged
  told = none_told all.keeper.failed all.keeper.broken all.keeper.damaged report.keeper (sym all.keeper.refusal_is ∙ none.keeper)

  not_snaps : Contains all.keeper.broken devices.Snaps → ⊥
  not_snaps has = nothing_in all.keeper.broken told.broken_none devices.Snaps has

  mid_up : (w : ℕ) (log : LogState) → slice_get all.mid.logs w ≡ Some log → log.journal.down ≡ None
  mid_up w log at =
      let no = first_told_none _ _ (sym (device_is stands ready some start_many idle all) ∙ none.device) in
      nothing_there log.journal.down (none_down_at old.side 0 (are_down all.mid.logs) w (is_some log.journal.down)
      (sym (first_is stands ready some start_many idle all) ∙ no.1)
      (map_there (λ (l : LogState). is_some l.journal.down) all.mid.logs w log at))

  turns : TurnsBehind tells clock image_at faults all.kept.stands.clock.epoch js.result js.joined swapped js.between now js.cut_end
  turns = turns_behind tells clock image_at faults all.kept.stands.clock.epoch js.result js.joined swapped js.between now js.cut_end
      (λ e is. (subst (JoinAnswers all.kept js.joined js.joins.stored js.joins.failed) is js.joins.answer).2) js.swaps

  facts : JoinFacts tells clock image_at faults old.side all.kept js.joined swapped all.after js.between now js.result js.cut_end
  facts = record {
    side_is = kept_side stands ready some start_many idle all;
    whole = after_whole stands ready some start_many idle all;
    many = ap length all.keeper.logs ∙ all.lines.over.logs_length ∙ start_many;
    limits = λ w log at. lines_limit stands ready some start_many idle all w log (ap (λ l. slice_get l w) (sym all.keeper.logs) ∙ at);
    marked = λ w log at. before_later log.mark.epoch all.worked.clock.epoch all.kept.stands.clock.epoch all.later
        (mark_at stands ready some start_many idle all w log (ap (λ l. slice_get l w) (sym all.keeper.logs) ∙ at));
    above = kept_above stands ready some start_many idle all;
    closed = kept_closed stands ready some start_many idle all;
    room = omega (arith, kept_room stands ready some start_many idle all, stands.most_pages);
    sound = kept_sound stands ready some start_many idle all not_snaps;
    snapshot = kept_snapshot stands ready some start_many idle all (kept_sound stands ready some start_many idle all not_snaps);
    runs = js.joins;
    turns = turns;
    few = js.counted;
    durable = kept_durable stands ready some start_many idle all;
  }

  abbrev logs : List LogState
  logs = js.joined.logs

  abbrev others : List Device
  others = cut_device turns.cut

  abbrev ran : Ran
  ran = ran_with tells clock image_at faults tries round old start new before now report all logs js.joins.failed others

  abbrev turned_b : Bool
  turned_b = turns.tried && not (is_some turns.cut)

  at_end_is : keeper_at_end ran
      ≡ record (keeper_on all.kept (list_any is_refusal report.keeper)) { pages = (beside_at_end (beside_of all.mid) report.keeper).count }
  at_end_is = at_end stands ready some start_many idle all logs js.joins.failed others

  refused_so : IsRefusedAs ran all.refused
  refused_so = refused_as stands ready some start_many idle all logs js.joins.failed others

  out_is : leaves_join_out ran ≡ false
  out_is = refused_so.leaves ∙ out

  keeper_up : all.keeper.failed ≡ None
  keeper_up = told.failed_none

  -- ---- the runtime in the end, by its parts

  ended_parts : (b : Bool) → (swapped ≡ turned_if b all.kept.stands.clock.epoch js.joined)
      → (swapped.stands ≡ js.joined.stands) × (swapped.save ≡ js.joined.save) × (swapped.store ≡ js.joined.store)
      × (swapped.room ≡ js.joined.room)
  ended_parts b is =
      let parts = turned_parts b all.kept.stands.clock.epoch js.joined in (
        ap (λ (r : RuntimeState). r.stands) is ∙ parts.0,
        ap (λ (r : RuntimeState). r.save) is ∙ parts.1,
        ap (λ (r : RuntimeState). r.store) is ∙ parts.2,
        ap (λ (r : RuntimeState). r.room) is ∙ parts.3,
      )

  parts_are : (swapped.stands ≡ js.joined.stands) × (swapped.save ≡ js.joined.save) × (swapped.store ≡ js.joined.store)
      × (swapped.room ≡ js.joined.room)
  parts_are = ended_parts turned_b turns.new_is

  new_stands : new.stands ≡ record js.joined.stands { ended = is_some report.end }
  new_stands = ap (λ (r : RuntimeState). r.stands) new_is ∙ ap (λ (s : Standing). record s { ended = is_some report.end }) parts_are.0

  new_save : new.save ≡ js.joined.save
  new_save = ap (λ (r : RuntimeState). r.save) new_is ∙ parts_are.1

  new_store : new.store ≡ all.kept.store
  new_store = ap (λ (r : RuntimeState). r.store) new_is ∙ parts_are.2 ∙ ap (λ (r : RuntimeState). r.store) js.joins.alone

  new_room : new.room ≡ old.room
  new_room = ap (λ (r : RuntimeState). r.room) new_is ∙ parts_are.3 ∙ ap (λ (r : RuntimeState). r.room) js.joins.alone
      ∙ kept_room stands ready some start_many idle all

  joined_counted : js.joined.counted ≡ all.kept.counted
  joined_counted = ap (λ (r : RuntimeState). r.counted) js.joins.alone

  now_snaps : now.snaps ≡ all.after.snaps
  now_snaps = (leaves facts).saves.snaps ∙ js.joins.snaps

  -- ---- the swap, as the run tells it

  comes_is : comes_to_swap ran ≡ turns.tried
  comes_is =
      ap (λ d. is_some d && not (keeper_at_end ran).counted) js.durable_is
      ∙ ap (λ (k : KeeperAt). is_some (made js.result) && not k.counted) at_end_is
      ∙ ap (λ c. is_some (made js.result) && not (some_counted c)) (sym joined_counted)
      ∙ sym turns.tried_is

  done_none : turns.tried ≡ true → (js.joins.failed ≡ None) × (first_down old.side 0 (are_down logs) ≡ None)
  unfolding facts turns
  done_none tried =
      let done = tried_done facts tried in
      ((done_at facts done.0 done.1).none, banks_told facts ∙ ap bank_told done.1)

  cut_closed : (n : ℕ) → turns.cut ≡ Some n → (w : ℕ) × (n ≡ closed_number old.side w)
  unfolding facts turns
  cut_closed n is = let at = (cut_rose facts n is).0 in (at.0, at.2)

  -- at the last sequence lines are refused
  limited_so : save_limited (keeper_lines round) report.keeper ≡ true → (keeper_at_end ran).sequence ≡ last_sequence
  limited_so = limited_last ran (keeper_lines round) report.keeper (keeper_before ran)
      (answers_caused stands ready some start_many idle all logs js.joins.failed others
      (λ is. absurd (let no = sym is ∙ ap is_some keeper_up in cc))
      (λ device has. absurd (nothing_in all.keeper.broken told.broken_none device has)))

  sequence_is : (keeper_at_end ran).sequence ≡ sequence_of all.kept.save.newest
  sequence_is = ap (λ (k : KeeperAt). k.sequence) at_end_is

  joined_so : IsJoinedAs ran (first_of (refused_by js.result) (cut_end turns.cut))
  unfolding facts turns
  joined_so = joined_as ran all.kept js.joined js.joins.stored js.joins.failed old.side (are_down logs) turns.cut refl refl cut_closed refl
      sequence_is limited_so js.result (cut_uncut facts) (banks_told facts) js.joins.answer

  refusal_is : refusal ≡ first_of (refused_by js.result) (cut_end turns.cut)
  refusal_is = js.end_is ∙ ap (first_of (refused_by js.result)) turns.end_is

  refused_by_so : IsJoinedAs ran refusal
  refused_by_so = subst (IsJoinedAs ran) (sym refusal_is) joined_so

  durable_so : report.durable ≡ durable_of ran
  unfolding facts turns
  durable_so = js.durable_is ∙ durable_by ran all.kept js.joined js.joins.stored js.joins.failed old.side (are_down logs) turns.cut
      refl refl cut_closed refl sequence_is limited_so js.result (cut_uncut facts) (banks_told facts) js.joins.answer out_is

  swaps_is : swaps ran ≡ turned_b
  swaps_is = ap (λ b. b && not (closed_failed ran)) comes_is ∙ elim (cases_Bool turns.tried) [
    | inl tried ↦
        let no = done_none tried in
        ap (λ b. turns.tried && not b) (closed_is_cut ran all.kept js.joined js.joins.stored js.joins.failed old.side (are_down logs)
        turns.cut refl refl cut_closed refl sequence_is limited_so no.0 no.1)
    | inr not_tried ↦ ap (λ b. b && not (closed_failed ran)) not_tried ∙ sym (ap (λ b. b && not (is_some turns.cut)) not_tried)
  ]

  end_so : (x : Option End) → refusal ≡ x → report.end ≡ end_of ran
  end_so None at = end_is ∙ ap (end_told all.refused) at ∙ end_done ran all.refused refused_so out (subst (IsJoinedAs ran) at refused_by_so)
  end_so (Some end) at = end_is ∙ ap (end_told all.refused) at
      ∙ end_refused ran all.refused refused_so out end (subst (IsJoinedAs ran) at refused_by_so)

  -- where the run goes on nothing was refused
  went_on : is_some report.end ≡ false → (x : Option End) → refusal ≡ x
      → (fails_device refusal ≡ false) × (epoch : ℕ) × (js.result ≡ Ok epoch)
  went_on on None at =
      let done = done_first js.result (cut_end turns.cut) (sym refusal_is ∙ at) in
      (ap fails_device at, done.0, done.1)
  went_on on (Some end) at = absurd (let no = sym on ∙ ap is_some (end_is ∙ ap (end_told all.refused) at) ∙ told_some all.refused end in cc)

  stands_made : StandsOn tells clock image_at new now
  stands_made = stands_new facts new (is_some report.end) (fails_device refusal) new_is
      (λ up. up_first (refused_by js.result) (cut_end turns.cut) (ap fails_device (sym refusal_is) ∙ up))
      (λ on. went_on on refusal refl)

  -- ---- what was kept

  keeps_made : KeepsSaves tells clock image_at faults (all.keeper.stored ++ js.joins.stored) js.joins.failed old new before now
  keeps_made = keeps_onto (leaves facts).saves new_save
      (ap (λ (r : RuntimeState). r.store) new_is ∙ parts_are.2)
      (keeps_then (kept_sound stands ready some start_many idle all not_snaps)
      (subst (λ f. KeepsSaves tells clock image_at faults all.keeper.stored f old all.kept before all.after) keeper_up
      (keeps_lines stands ready some start_many idle all)) js.joins.keeps)

  joined_epoch : js.joined.stands.clock.epoch ≡ epoch_joined ran
  joined_epoch = clock_is facts
      ∙ ap (λ b. cond (not b) (epoch_after all.kept.stands.clock.epoch) all.kept.stands.clock.epoch) (sym out_is)

  abbrev Seen : ℕ → List Mark → Type 0
  Seen = SeenIn old.stands.clock.epoch (epoch_joined ran) (shown_in all.lines.shares) logs

  beside_kept : beside_of all.kept ≡ beside_at_end (beside_of old) report.keeper
  beside_kept =
      let b = beside_at_end (beside_of old) report.keeper in
      ap (λ s. record { growing = s; closed = all.kept.counted; count = length all.kept.store.pages })
      (kept_side stands ready some start_many idle all ∙ sym (over_kept stands ready some start_many idle all).growing)
      ∙ ap (λ c. record { growing = b.growing; closed = c; count = length all.kept.store.pages })
      (kept_counted stands ready some start_many idle all)
      ∙ ap (λ n. record { growing = b.growing; closed = b.closed; count = n })
      (all.keeper.gleaned.many (kept_sound stands ready some start_many idle all not_snaps)
      ∙ ap (λ x. (beside_at_end x report.keeper).count) (mid_beside stands ready some start_many idle all))

  saves_made : AreSaved (IsSavedBySeen Seen) (beside_of old) report.keeper
      ((all.keeper.stored ++ js.joins.stored) ++ option_to_list js.joins.failed)
  saves_made = record {
    lines = all.keeper.stored;
    rest = js.joins.stored ++ option_to_list js.joins.failed;
    all = append_assoc all.keeper.stored js.joins.stored (option_to_list js.joins.failed);
    told = by_lines stands ready some start_many idle all Seen (λ at seen low high is. (
      low,
      omega (arith, high, joined_up (comes_to_advance ran) all.kept.stands.clock.epoch),
      inl is,
    ));
    behind = subst (λ b. AllByRecursion (IsSavedBySeen Seen b) (js.joins.stored ++ option_to_list js.joins.failed)) beside_kept
        (all_weaker (IsSavedBySeen (MarksOf js.joined js.joined.stands.clock.epoch js.joined.stands.clock.epoch) (beside_of all.kept))
        (IsSavedBySeen Seen (beside_of all.kept))
        (λ saved is. (
          is.0,
          is.1,
          (
            omega (
              arith,
              is.2.0,
              joined_epoch,
              kept_first stands ready some start_many idle all,
              joined_up (comes_to_advance ran) all.kept.stands.clock.epoch,
            ),
            omega (arith, is.2.1, joined_epoch),
            inr is.2.2,
          ),
          is.3,
        ))
        (js.joins.stored ++ option_to_list js.joins.failed) js.joins.by_marks);
  }

  -- what the lines stored went by what they saw, and the join stores something only below the last sequence
  placed_made : (k : ℕ) (saved : Saved) (places : List ℕ)
      → slice_get ((all.keeper.stored ++ js.joins.stored) ++ option_to_list js.joins.failed) k ≡ Some saved
      → slice_get all.places k ≡ Some places
      → (seen : List Mark) × (slice_get all.seen k ≡ Some seen)
      × GoesBy old.stands.clock.epoch (epoch_joined ran) (beside_at_save (beside_of old) report.keeper k) seen saved
  unfolding facts
  placed_made k saved places at told =
      let whole : slice_get (all.keeper.stored ++ (js.joins.stored ++ option_to_list js.joins.failed)) k ≡ Some saved =
      ap (λ l. slice_get l k) (sym (append_assoc all.keeper.stored js.joins.stored
      (option_to_list js.joins.failed))) ∙ at in
      let by = subst (λ l. AreByPlace all.mid.stands.clock.epoch all.kept.stands.clock.epoch
      (beside_at_save (beside_of all.mid) report.keeper) all.seen l (sequence_of all.mid.save.newest)
      (sequence_of all.kept.save.newest))
      (ap (λ f. all.keeper.stored ++ option_to_list f) keeper_up ∙ append-nil all.keeper.stored) all.keeper.by_place in
      elim (at_either all.keeper.stored (js.joins.stored ++ option_to_list js.joins.failed) k saved whole) [
        | inl early ↦ placed_lines stands ready some start_many idle all (epoch_joined ran)
            (omega (arith, joined_up (comes_to_advance ran) all.kept.stands.clock.epoch)) k saved
            (at_early all.keeper.stored (option_to_list all.keeper.failed) k saved early)
        | inr late ↦ absurd (omega (
          arith,
          at_below all.places k places told,
          stood_long all.marks all.places all.seen all.sees,
          late.1,
          by.all (join_below facts late.0 saved late.2),
        ))
      ]

  rise_made : NeverFall (epoch_of old.save.newest)
      (map (λ (s : Saved). s.epoch) ((all.keeper.stored ++ js.joins.stored) ++ option_to_list js.joins.failed))
  rise_made =
      let lines = subst (λ f. NeverFall (epoch_of all.mid.save.newest) (map (λ (s : Saved). s.epoch) (all.keeper.stored ++ option_to_list f))
      × (last_epoch_of (epoch_of all.mid.save.newest) (map (λ (s : Saved). s.epoch)
      (all.keeper.stored ++ option_to_list f))
      ≤ epoch_by all.kept.stands.clock.epoch (last_seen (firsts all.marks) all.seen)))
      keeper_up (all.keeper.rise (firsts all.marks) (go_on stands ready some start_many idle all)
      (saves_up stands ready some start_many idle all)) in
      let less = saved_epoch_less all.kept.stands.clock.epoch (epochs_in (last_seen (firsts all.marks) all.seen)) in
      subst (λ (x : SaveState). NeverFall (epoch_of x.newest)
      (map (λ (s : Saved). s.epoch) ((all.keeper.stored ++ js.joins.stored) ++ option_to_list js.joins.failed)))
      (mid_save stands ready some start_many idle all)
      (subst (λ l. NeverFall (epoch_of all.mid.save.newest) (map (λ (s : Saved). s.epoch) l))
      (ap (λ l. l ++ (js.joins.stored ++ option_to_list js.joins.failed)) (append-nil all.keeper.stored)
      ∙ sym (append_assoc all.keeper.stored js.joins.stored (option_to_list js.joins.failed)))
      (rise_on (epoch_of all.mid.save.newest) all.kept.stands.clock.epoch (all.keeper.stored ++ [])
      (js.joins.stored ++ option_to_list js.joins.failed) lines.0 (omega (arith, lines.1, less)) js.joins.at_clock))

  told_made : map (λ (s : Saved). s.epoch) (all.keeper.stored ++ js.joins.stored)
      ≡ saves_told report.keeper ++ option_to_list report.durable
  unfolding facts
  told_made = map-append (λ (s : Saved). s.epoch) all.keeper.stored js.joins.stored
      ∙ ap (λ l. l ++ map (λ (s : Saved). s.epoch) js.joins.stored) all.keeper.told
      ∙ ap (λ l. saves_told report.keeper ++ l) (stored_told facts ∙ ap option_to_list (sym js.durable_is))

  lasts_by : report.end ≡ None → report.durable ≡ Some all.kept.stands.clock.epoch
  lasts_by at =
      let on = went_on (ap is_some at) refusal refl in
      js.durable_is ∙ ap made on.2 ∙ ap Some (done_at facts on.1 on.2).epoch_is

  -- ---- the closed log files

  files_made : SwapsFiles tells clock image_at faults ran logs old new before now
  unfolding facts turns
  files_made =
      let files = turned_files turned_b all.kept.stands.clock.epoch js.joined in
      record {
        between = js.between;
        reads = λ w was is at there. reads_kept stands ready some start_many idle all w was is
            (sym (closed_at old.side before w) ∙ at)
            (ap (λ l. slice_get l w) (sym (closed_same facts)) ∙ sym (closed_at old.side js.between w) ∙ there);
        uncut = ap (λ c. c.items) js.joins.cuts ∙ ap (λ c. c.items) all.keeper.cut_room ∙ cuts_mid stands ready some start_many idle all;
        left = λ no. (turns.left (sym comes_is ∙ no)).1;
        cut = λ is.
            let tried = sym comes_is ∙ is in (
              turns.cut,
              not_not (is_some turns.cut) ∙ sym (ap not (swaps_is ∙ ap (λ b. b && not (is_some turns.cut)) tried)),
              subst (λ (s : SaveState). CutsBanks tells clock image_at faults (sequence_of s.newest) (closed_numbers old.side) turns.cut
                  js.between now) (sym new_save)
                  (subst (λ s. CutsBanks tells clock image_at faults (sequence_of js.joined.save.newest) (closed_numbers s) turns.cut
                  js.between now) (joined_side facts) (turns.cuts tried)),
            );
        nothing = λ is w below. ap (λ (s : SaveState). counted_of s.newest (closed_number old.side w)) new_save
            ∙ join_nothing facts (sym comes_is ∙ is) w below;
        side = ap (λ (r : RuntimeState). r.side) (new_is ∙ ap (λ r. ended_as r (is_some report.end) (fails_device refusal)) turns.new_is)
            ∙ files.0 ∙ ap (λ s. cond turned_b (other_side s) s) (joined_side facts)
            ∙ sym (ap (λ b. cond b (other_side old.side) old.side) swaps_is);
        counted = ap (λ (r : RuntimeState). r.counted) (new_is ∙ ap (λ r. ended_as r (is_some report.end) (fails_device refusal)) turns.new_is)
            ∙ files.1
            ∙ ap (cond turned_b (map (λ (m : Mark). m.length) (logs_marks logs)))
            (joined_counted ∙ kept_counted stands ready some start_many idle all)
            ∙ sym (ap (λ b. cond b (map (λ (m : Mark). m.length) (logs_marks logs)) (beside_at_end (beside_of old) report.keeper).closed) swaps_is);
        closed_at = ap (λ (r : RuntimeState). r.closed_at) (new_is ∙ ap (λ r. ended_as r (is_some report.end) (fails_device refusal)) turns.new_is)
            ∙ files.2
            ∙ ap (cond turned_b all.kept.stands.clock.epoch)
            (ap (λ (r : RuntimeState). r.closed_at) js.joins.alone ∙ kept_closed_at stands ready some start_many idle all)
            ∙ sym (ap (λ b. cond b all.kept.stands.clock.epoch old.closed_at) swaps_is);
        logs_are = ap (λ (r : RuntimeState). r.logs) (new_is ∙ ap (λ r. ended_as r (is_some report.end) (fails_device refusal)) turns.new_is)
            ∙ files.3 ∙ sym (ap (λ b. cond b (map reset_log logs) logs) swaps_is);
      }

  -- a closed log file before the swap, and its count as it was
  closed_quiet : (w : ℕ) (was is : D) → slice_get (closed_in old.side before) w ≡ Some was
      → slice_get (closed_in old.side js.between) w ≡ Some is → faults is ≡ faults was
  closed_quiet w was is at there = quiet_kept stands ready some start_many idle all w was is at
      (ap (λ l. slice_get l w) (sym (closed_same facts)) ∙ there)
      (λ has. nothing_in all.keeper.broken told.broken_none (devices.Bank (closed_number old.side w)) has)

  rose_made : (device : Device) → Contains others device → IsBeside old.side device × RoseIn faults device before now
  unfolding facts turns
  rose_made device has =
      let at = in_cut turns.cut device has in
      let cut = cut_rose facts at.0 at.1 in
      let w = cut.0.0 in
      let number = cut.0.2 in
      let rose = cut.1 in
      let was = item_at (closed_in old.side before) w (omega (arith, cut.0.1, closed_many old.side before stands.whole)) in
      let mid_there : slice_get (closed_in old.side js.between) w ≡ Some rose.0 =
      sym (closed_at old.side js.between w) ∙ ap (λ n. disk_in js.between (devices.Bank n)) (sym number) ∙ rose.2 in
      let quiet = closed_quiet w was.0 rose.0 was.1 mid_there in
      subst (λ d. IsBeside old.side d × RoseIn faults d before now) at.2 (
        (w, number),
        (
          was.0,
          rose.1,
          ap (λ n. disk_in before (devices.Bank n)) number ∙ closed_at old.side before w ∙ was.1,
          rose.3,
          subst (λ k. Rose k (faults rose.1)) quiet rose.4,
        ),
      )

  quiet_made : (w : ℕ) (was is : D) → slice_get (closed_in old.side before) w ≡ Some was
      → slice_get (closed_in old.side now) w ≡ Some is → (Contains others (devices.Bank (closed_number old.side w)) → ⊥)
      → faults is ≡ faults was
  unfolding facts turns
  quiet_made w was is at there not =
      let below : w < 8 = omega (arith, within_of (closed_in old.side before) w was at, closed_many old.side before stands.whole) in
      let mid_bank = item_at (closed_in old.side js.between) w (omega (arith, below, closed_many old.side js.between (pre_whole facts))) in
      cut_quiet facts (closed_number old.side w) (λ is. not (cut_in turns.cut (closed_number old.side w) is)) mid_bank.0 is
      (closed_at old.side js.between w ∙ mid_bank.1) (closed_at old.side now w ∙ there)
      ∙ closed_quiet w was mid_bank.0 at mid_bank.1

  last_made : (w : ℕ) (lines log : LogState) (was is : D) → slice_get all.mid.logs w ≡ Some lines
      → slice_get logs w ≡ Some log → slice_get (growing_in old.side all.between) w ≡ Some was
      → slice_get (growing_in old.side now) w ≡ Some is
      → LastStep tells clock image_at faults old.stands.clock.epoch all.worked.clock.epoch lines log was is
  last_made w lines log was is at there bank bank_now =
      let made = step facts w lines log was is (ap (λ l. slice_get l w) all.keeper.logs ∙ at) there
      (ap (λ l. slice_get l w) (growing_kept stands ready some start_many idle all) ∙ bank) bank_now in
      record {
        epoch = all.kept.stands.clock.epoch;
        later = omega (arith, kept_first stands ready some start_many idle all);
        most = omega (arith, all.later);
        goes = made.goes;
        stays = made.end;
        blames = λ first blames. record {
          later = omega (arith, blames.later, made.blames.later);
          quiet = λ up. made.blames.quiet up ∙ blames.quiet (mid_up w lines at);
          rose = λ count down. omega (arith, made.blames.rose count down, blames.later);
        };
        reaches = λ reaches. made.reaches;
      }

  -- no line waited, so no flush failed
  no_bank : (w : ℕ) → w < 8 → (x : Result ℕ End) → js.result ≡ x
      → Contains (device_told x) (devices.Bank (growing_number all.kept.side w)) → ⊥
  no_bank w below x at has =
      let log = item_at all.mid.logs w (omega (arith, below, all.lines.over.logs_length, start_many)) in
      js.joins.waited w log.0 (at ∙ told_bank x (growing_number all.kept.side w) has) (ap (λ l. slice_get l w) all.keeper.logs ∙ log.1)
      (all.lines.flushed w log.0 below log.1 (mid_up w log.0 log.1))

  pub joined_round : ((disk : D) (file : List ℕ) → tells disk ≡ Some file → image_at disk (clock disk) file)
      → Rounds tells clock image_at faults tries round old new before now (Ok report)
  unfolding files_made facts turns
  joined_round reads = done stands ready some start_many idle all logs (all.keeper.stored ++ js.joins.stored) js.joins.failed others (record {
    logs_many = joined_many facts;
    now_many = now_many facts;
    keeps = keeps_made;
    saves = saves_made;
    placed = placed_made;
    last = last_made;
    fails = λ is. absurd (let no = sym is ∙ ap is_some keeper_up in cc);
    told_others = λ device has. absurd (nothing_in all.keeper.broken told.broken_none device has);
    beside = λ device has. (rose_made device has).0;
    rose_others = λ device has. (rose_made device has).1;
    quiet_snaps = λ not. ap faults now_snaps ∙ quiet_snaps_kept stands ready some start_many idle all not_snaps;
    quiet_closed = quiet_made;
    stays = λ w lines log at there down. absurd (let no = sym down ∙ ap is_some (mid_up w lines at) in cc);
    files = files_made;
    between_whole = pre_whole facts;
    rests = λ is. rests facts (sym comes_is ∙ (and_parts (comes_to_swap ran) (not (closed_failed ran)) is).0);
    refusals = ap (λ (s : Standing). s.refused) (new_stands
        ∙ ap (λ (s : Standing). record s { ended = is_some report.end }) js.joins.stands);
    met = ap (λ (s : Standing). s.met) (new_stands
        ∙ ap (λ (s : Standing). record s { ended = is_some report.end }) js.joins.stands);
    slots = ap (λ (s : Standing). s.slots) (new_stands
        ∙ ap (λ (s : Standing). record s { ended = is_some report.end }) js.joins.stands);
    mine = ap (λ (s : Standing). s.mine) (new_stands
        ∙ ap (λ (s : Standing). record s { ended = is_some report.end }) js.joins.stands);
    drops = ap (λ (s : Standing). s.drops) (new_stands
        ∙ ap (λ (s : Standing). record s { ended = is_some report.end }) js.joins.stands);
    decls = ap (λ (s : Standing). s.decls) (new_stands ∙ ap (λ (s : Standing). record s { ended = is_some report.end }) js.joins.stands);
    state = ap (λ (s : Standing). s.state) (new_stands ∙ ap (λ (s : Standing). record s { ended = is_some report.end }) js.joins.stands);
    durable = durable_so;
    lasts = lasts_by;
    end_is = end_so refusal refl;
    clock_is = ap (λ (s : Standing). s.clock) (new_stands ∙ ap (λ (s : Standing). record s { ended = is_some report.end }) js.joins.stands)
        ∙ ap (λ b. record { epoch = cond (not b) (epoch_after all.kept.stands.clock.epoch) all.kept.stands.clock.epoch; draw = all.kept.stands.clock.draw })
        (sym out_is);
    ended = ap (λ (s : Standing). s.ended) new_stands;
    down = down_just ran.beside.devices new.down (ap (λ (r : RuntimeState). r.down) new_is ∙ device_just ran refusal refused_by_so);
    stands = stands_made;
    gleans = gleans_told stands ready some start_many idle all new_store now_snaps;
    sound = λ not. ap (λ (s : StoreState). s.sound) new_store ∙ kept_sound stands ready some start_many idle all not_snaps;
    room = new_room;
    told = told_made;
    refused = λ w log refusal at has.
        let below = below_8 logs w log at (joined_many facts) in
        subst (λ r. IsRefusedBy r log.journal)
        (sym (none_refused ran.beside.logs (or_parts (list_any is_some ran.beside.logs) (keeper_at_end ran).refused out_is).0 w refusal has))
        (js.joins.up w log at (λ told. no_bank w below js.result refl told));
    log_failed = λ w below has. inr (ap not out_is);
    rise = rise_made;
    asked = λ is.
        let by = asked_by facts is in
        inr (
          comes_so (leaves_join_out ran) (nat_lt all.kept.stands.clock.epoch last_epoch) out_is
              (below_test all.kept.stands.clock.epoch last_epoch by.0),
          omega (arith, sequence_is, by.1),
        );
  }) reads
