-- A round whose join was left out.
use Rattle.std.proofs.Common.{◌≡◌, ◌∙◌, ◌≤◌, ◌<◌, ◌++◌, inl, sym, ap, subst, refl, ℕ, List}
use Rattle.std.proofs.Common.{length, map, Bool, true, false, cond, not, Option, Some, None, arith}
use Rattle.std.specs.Prelude.{◌&&◌, ◌^◌, is_some, option_to_list, slice_get}
use Rattle.std.specs.Prelude.{Ok}
use Rattle.std.specs.List.{AllByRecursion, Contains}
use Rattle.std.proofs.lemmas.List.{append-nil}
use Rattle.std.proofs.lemmas.Option.{same_Some}
use Rattle.lists.specs.Each.{all_weaker}
use Rattle.log_writer.specs.Vault.{IsWhole, disk_in}
use Rattle.outside.specs.declared.device.Device.{Device}
use Rattle.outside.specs.declared.device.Device.TheVariants as devices
use Rattle.log_writer.specs.declared.vault.Vault.{Vault}
use Rattle.script_grammar.specs.Script.{Round, lines_of_worker}
use Rattle.wire_form.specs.declared.clock.Mark.{Mark}
use Rattle.snapshot_store.specs.Store.{StoreState}
use Rattle.joint_crashes.specs.Images.{epoch_of}
use Rattle.joint_crashes.specs.VaultReads.{RoseIn}
use Rattle.tx_script.specs.Causes.{KeeperAt, keeper_at_end}
use Rattle.tx_script.specs.Causes.{leaves_join_out}
use Rattle.tx_script.specs.Run.{Ran}
use Rattle.worker_logs.specs.Logs.{LogState, log_limit, reset_log}
use Rattle.worker_logs.specs.Saves.{growing_number, logs_marks}
use Rattle.round_engine.specs.Ends.{closed_failed, comes_to_advance, comes_to_swap, end_of}
use Rattle.round_engine.specs.Ends.{epoch_after, epoch_joined, first_device}
use Rattle.round_engine.specs.Ends.{swaps, where_true}
use Rattle.round_engine.specs.Keeping.{IsSavedBySeen, KeepsSaves, SeenAmong}
use Rattle.round_engine.specs.Logs.{IsRefusedBy}
use Rattle.round_engine.specs.Phases.{RunsAll, ended_as}
use Rattle.round_engine.specs.RanRound.{Rounds, SwapsFiles}
use Rattle.round_engine.specs.Refusals.{first_failed, first_told, leaves_out}
use Rattle.round_engine.specs.Refusals.{lines_refused}
use Rattle.round_engine.specs.Saves.{AreSaved, beside_at_end, saves_told}
use Rattle.round_engine.specs.Shares.{Share}
use Rattle.round_engine.specs.Sides.{closed_in, growing_in, other_side}
use Rattle.round_engine.specs.Standing.{files_of, AreUp, beside_of, HasSnapshot, IsMarkBefore, IsReady, LogsStand, RuntimeState}
use Rattle.round_engine.specs.Standing.{StandsOn}
use Rattle.round_engine.specs.Workers.{idled}
use Rattle.round_engine.specs.declared.report.Report.{Report}
use Rattle.round_engine.proofs.Devices.{are_down, bank_down, beside_not_growing, others_in}
use Rattle.round_engine.proofs.Ended.{down_just, first_of_down, keeper_device}
use Rattle.round_engine.proofs.EndTold.{end_left_out}
use Rattle.round_engine.proofs.EndTold.{left_out_some}
use Rattle.round_engine.proofs.GleanDevices.{nothing_in}
use Rattle.round_engine.proofs.JoinEnds.{before_later}
use Rattle.round_engine.proofs.JoinedAs.{none_down_at}
use Rattle.round_engine.proofs.LinesLeft.{LastStep, last_none, lines_at, shown_in}
use Rattle.round_engine.proofs.Numbered.{closed_at, growing_at, log_of_is}
use Rattle.round_engine.proofs.Places.{all_from, nothing_there, map_there}
use Rattle.round_engine.proofs.RoundDone.{before_many, between_many, cuts_mid, done}
use Rattle.round_engine.proofs.RoundDone.{ran_with, seen_shown, worked_up}
use Rattle.round_engine.proofs.RoundKept.{first_told_none, nothing_kept, store_told, after_whole, at_end, by_lines, device_is, ends_so, first_is}
use Rattle.round_engine.proofs.RoundKept.{gleans_told, growing_kept, joined_up, keeper_told, keeps_lines, kept_above, kept_closed}
use Rattle.round_engine.proofs.RoundKept.{kept_closed_at, kept_counted, kept_durable, kept_room, kept_side}
use Rattle.round_engine.proofs.RoundKept.{kept_snapshot, kept_sound, lines_limit, mid_first}
use Rattle.round_engine.proofs.RoundKept.{mark_at, mid_beside, quiet_kept, quiet_snaps_kept, reads_kept}
use Rattle.round_engine.proofs.RoundKept.{placed_lines, refused_as, rise_lines}
use Rattle.round_engine.proofs.RoundKept.{rose_kept}
use Rattle.round_engine.proofs.Turned.{keeps_onto}
use Rattle.round_engine.proofs.Whole.{AreShown, SeenIn, below_8}
use Rattle.round_engine.proofs.Places.{item_at, map_at}

-- nothing is durable where the join was left out
pub none_made : (leaves below rest : Bool) (epoch : ℕ) → leaves ≡ true → where_true ((not leaves && below) && rest) epoch ≡ None
none_made leaves below rest epoch is = rw is refl

module _ {D : Type 0} {tells : D → Option (List ℕ)} {clock : D → ℕ} {image_at : D → ℕ → List ℕ → Type 0}
    {faults : D → ℕ} {tries : ℕ} {round : Round} {old : RuntimeState} {start : List LogState} {new : RuntimeState}
    {before now : Vault D} {report : Report}
    (stands : StandsOn tells clock image_at old before) (ready : IsReady old) (some : 1 ≤ old.stands.clock.epoch)
    (start_many : length start ≡ 8)
    (idle : (w : ℕ) (log : LogState) → slice_get old.logs w ≡ Some log
    → slice_get start w ≡ Some (idled (lines_of_worker round w) log))
    (all : RunsAll tells clock image_at faults tries round (record old { logs = start }) new before now report)
    (out : leaves_out all.refused ≡ true) (now_is : now ≡ all.after) (durable_is : report.durable ≡ None)
    (end_is : report.end ≡ lines_refused all.refused)
    (new_is : new ≡ ended_as all.kept (is_some report.end) (is_some all.refused.device)) where
  abbrev others : List Device
  others = all.keeper.broken

  abbrev ran : Ran
  ran = ran_with tells clock image_at faults tries round old start new before now report all all.mid.logs all.keeper.failed others

  logs_are : new.logs ≡ all.mid.logs
  logs_are = ap (λ (r : RuntimeState). r.logs) new_is ∙ all.keeper.logs

  growing_is : growing_in old.side now ≡ growing_in old.side all.between
  growing_is = ap (λ (v : Vault D). growing_in old.side v) now_is ∙ growing_kept stands ready some start_many idle all

  new_side : new.side ≡ old.side
  new_side = ap (λ (r : RuntimeState). r.side) new_is ∙ kept_side stands ready some start_many idle all

  no_swap : comes_to_swap ran ≡ false
  no_swap = ap (λ d. is_some d && not (keeper_at_end ran).counted) durable_is

  not_swapped : swaps ran ≡ false
  not_swapped = ap (λ b. b && not (closed_failed ran)) no_swap

  store_is : new.store ≡ all.kept.store
  store_is = ap (λ (r : RuntimeState). r.store) new_is

  snaps_is : now.snaps ≡ all.after.snaps
  snaps_is = ap (λ (v : Vault D). v.snaps) now_is

  keeps_out : KeepsSaves tells clock image_at faults all.keeper.stored all.keeper.failed old new before now
  keeps_out = keeps_onto (record {
    save = ap (λ (v : Vault D). v.save) now_is;
    snaps = snaps_is;
    ties = ap (λ (v : Vault D). v.ties.items) now_is;
  }) (ap (λ (r : RuntimeState). r.save) new_is) store_is (keeps_lines stands ready some start_many idle all)

  abbrev Seen : ℕ → List Mark → Type 0
  Seen = SeenIn old.stands.clock.epoch (epoch_joined ran) (shown_in all.lines.shares) all.mid.logs

  seen_so : (at : ℕ) (seen : List Mark) → (old.stands.clock.epoch ≤ at) → (at ≤ all.kept.stands.clock.epoch)
      → AreShown (shown_in all.lines.shares) seen → Seen at seen
  seen_so at seen low high is = (low, omega (arith, high, joined_up (comes_to_advance ran) all.kept.stands.clock.epoch), inl is)

  saves_out : AreSaved (IsSavedBySeen Seen) (beside_of old) report.keeper (all.keeper.stored ++ option_to_list all.keeper.failed)
  saves_out =
      let same : beside_at_end (beside_of all.mid) report.keeper ≡ beside_at_end (beside_of old) report.keeper =
      ap (λ b. beside_at_end b report.keeper) (mid_beside stands ready some start_many idle all) in
      record {
        lines = all.keeper.stored;
        rest = option_to_list all.keeper.failed;
        all = refl;
        told = by_lines stands ready some start_many idle all Seen seen_so;
        behind = subst (λ b. AllByRecursion (IsSavedBySeen Seen b) (option_to_list all.keeper.failed)) same
            (all_weaker (IsSavedBySeen (SeenAmong all.seen all.mid.stands.clock.epoch all.kept.stands.clock.epoch)
            (beside_at_end (beside_of all.mid) report.keeper)) (IsSavedBySeen Seen (beside_at_end (beside_of all.mid) report.keeper))
            (λ saved is. (
              is.0,
              is.1,
              seen_so is.0 is.1 (omega (arith, is.2.0, mid_first stands ready some start_many idle all)) is.2.1
                  (seen_shown stands ready some start_many idle all is.1 is.2.2),
              is.3,
            ))
            (option_to_list all.keeper.failed) all.keeper.by_failed);
      }

  device_first : first_device ran.beside.devices ≡ all.refused.device
  device_first = first_of_down old.side (are_down all.mid.logs) (is_some all.keeper.failed) others
      ∙ ap (first_told (keeper_device (is_some all.keeper.failed) others)) (sym (first_is stands ready some start_many idle all))
      ∙ ap (λ d. first_told d (first_failed old.side 0 all.ends))
      (keeper_told all.keeper.failed all.keeper.broken all.keeper.damaged report.keeper)
      ∙ sym (device_is stands ready some start_many idle all)

  end_out : report.end ≡ end_of ran
  end_out = end_is ∙ end_left_out ran all.refused (refused_as stands ready some start_many idle all all.mid.logs all.keeper.failed others)
      device_first out

  some_end : is_some report.end ≡ true
  some_end = ap is_some end_is ∙ left_out_some all.refused (ends_so stands ready some start_many idle all) out

  leaves_so : leaves_join_out ran ≡ true
  leaves_so = (refused_as stands ready some start_many idle all all.mid.logs all.keeper.failed others).leaves ∙ out

  -- where no device was told all is up
  up_out : is_some all.refused.device ≡ false → AreUp new
  up_out none =
      let no = first_told_none _ _ (sym (device_is stands ready some start_many idle all) ∙ nothing_there all.refused.device none) in
      let told = nothing_kept all.keeper.failed all.keeper.broken all.keeper.damaged report.keeper no.0 in
      record {
        save = nothing_there new.save.down (keeps_out.down ∙ ap is_some told.0);
        store = ap (λ (s : StoreState). s.sound) store_is
            ∙ kept_sound stands ready some start_many idle all (nothing_in all.keeper.broken told.1 devices.Snaps);
        logs = all_from (λ (l : LogState). l.journal.down ≡ None) new.logs (λ w log at.
            nothing_there log.journal.down (none_down_at old.side 0 (are_down all.mid.logs) w (is_some log.journal.down)
            (sym (first_is stands ready some start_many idle all) ∙ no.1)
            (map_there (λ (l : LogState). is_some l.journal.down) all.mid.logs w log
            (ap (λ l. slice_get l w) (sym logs_are) ∙ at))));
      }

  stands_out : StandsOn tells clock image_at new now
  stands_out = record {
    whole = subst IsWhole (sym now_is) (after_whole stands ready some start_many idle all);
    workers = ap length logs_are ∙ all.lines.over.logs_length ∙ start_many;
    limits = all_from (λ (l : LogState). l.journal.limit ≡ log_limit) new.logs
        (λ w log at. lines_limit stands ready some start_many idle all w log (ap (λ l. slice_get l w) (sym logs_are) ∙ at));
    above = subst (λ (r : RuntimeState). epoch_of r.save.newest < r.stands.clock.epoch) (sym new_is)
        (kept_above stands ready some start_many idle all);
    marked = all_from (λ (l : LogState). IsMarkBefore new.stands.clock.epoch l.mark.epoch) new.logs (λ w log at.
        before_later log.mark.epoch all.worked.clock.epoch new.stands.clock.epoch
        (omega (arith, ap (λ (r : RuntimeState). r.stands.clock.epoch) new_is, all.later))
        (mark_at stands ready some start_many idle all w log (ap (λ l. slice_get l w) (sym logs_are) ∙ at)));
    closed =
        let was = kept_closed stands ready some start_many idle all in
        record {
          workers = ap (λ (r : RuntimeState). length r.counted) new_is ∙ was.workers;
          counted = subst (λ (r : RuntimeState). AllByRecursion (λ n. n < 2 ^ 40) r.counted) (sym new_is) was.counted;
          before = subst (λ (r : RuntimeState). r.closed_at < r.stands.clock.epoch) (sym new_is) was.before;
        };
    most_pages = omega (
      arith,
      ap (λ (r : RuntimeState). r.room) new_is,
      kept_room stands ready some start_many idle all,
      stands.most_pages,
    );
    up = λ up. up_out (sym (ap (λ (r : RuntimeState). r.down) new_is) ∙ up);
    goes_on = λ on. absurd (let no = sym some_end ∙ sym (ap (λ (r : RuntimeState). r.stands.ended) new_is) ∙ on in cc);
    stored = keeps_out.stands;
    snapshot = λ sound.
        let has = kept_snapshot stands ready some start_many idle all (ap (λ (s : StoreState). s.sound) (sym store_is) ∙ sound) in
        subst (λ r. HasSnapshot tells r now.snaps) (sym new_is)
        (subst (HasSnapshot tells (ended_as all.kept (is_some report.end) (is_some all.refused.device))) (sym snaps_is) (record {
          holds = has.holds;
          contents = has.contents;
          stands = has.stands;
          decls = has.decls;
          up_to = has.up_to;
          earlier = has.earlier;
          let_in = has.let_in;
          published = has.published;
        }));
    reaches = λ w log bank at there.
        let log_at = ap (λ l. slice_get l w) (sym logs_are) ∙ at in
        let below = below_8 all.mid.logs w log log_at (all.lines.over.logs_length ∙ start_many) in
        let begins = item_at start w (omega (arith, below, start_many)) in
        let was = item_at (growing_in old.side before) w (omega (arith, below, before_many stands ready some start_many idle all)) in
        (lines_at w all.lines.over start_many begins.1 log_at was.1
        (ap (λ l. slice_get l w) (sym growing_is) ∙ sym (growing_at old.side now w)
        ∙ ap (λ s. disk_in now (devices.Bank (growing_number s w))) (sym new_side) ∙ there)).reaches;
    durable = λ always.
        subst (λ (r : RuntimeState). LogsStand tells clock image_at r.side r.logs r.counted now) (sym new_is)
        (subst (LogsStand tells clock image_at all.kept.side all.kept.logs all.kept.counted) (sym now_is)
        (kept_durable stands ready some start_many idle all always));
  }

  down_same : (w : ℕ) (lines log : LogState) → slice_get all.mid.logs w ≡ Some lines → slice_get all.mid.logs w ≡ Some log
      → lines ≡ log
  down_same w lines log at there = same_Some lines log (sym at ∙ there)

  files_out : SwapsFiles tells clock image_at faults ran all.mid.logs old new before now
  files_out = record {
    between = now;
    reads = λ w was is at there. reads_kept stands ready some start_many idle all w was is
        (sym (closed_at old.side before w) ∙ at)
        (ap (λ (v : Vault D). slice_get (closed_in old.side v) w) (sym now_is) ∙ sym (closed_at old.side now w) ∙ there);
    uncut = ap (λ (v : Vault D). v.cuts.items) now_is ∙ ap (λ c. c.items) all.keeper.cut_room
        ∙ cuts_mid stands ready some start_many idle all;
    left = λ no. refl;
    cut = λ is. absurd (let no = sym is ∙ no_swap in cc);
    nothing = λ is w below. absurd (let no = sym is ∙ no_swap in cc);
    side = new_side ∙ sym (ap (λ b. cond b (other_side old.side) old.side) not_swapped);
    counted = ap (λ (r : RuntimeState). r.counted) new_is ∙ kept_counted stands ready some start_many idle all
        ∙ sym (ap (λ b. cond b (map (λ (m : Mark). m.length) (logs_marks all.mid.logs)) (beside_at_end (beside_of old) report.keeper).closed) not_swapped);
    closed_at = ap (λ (r : RuntimeState). r.closed_at) new_is ∙ kept_closed_at stands ready some start_many idle all
        ∙ sym (ap (λ b. cond b all.kept.stands.clock.epoch old.closed_at) not_swapped);
    logs_are = logs_are ∙ sym (ap (λ b. cond b (map reset_log all.mid.logs) all.mid.logs) not_swapped);
  }

  pub left_out : ((disk : D) (file : List ℕ) → tells disk ≡ Some file → image_at disk (clock disk) file)
      → Rounds tells clock image_at faults tries round old new before now (Ok report)
  unfolding files_out
  left_out reads = done stands ready some start_many idle all all.mid.logs all.keeper.stored all.keeper.failed others (record {
    logs_many = all.lines.over.logs_length ∙ start_many;
    now_many = ap length growing_is ∙ between_many stands ready some start_many idle all;
    keeps = keeps_out;
    saves = saves_out;
    placed = λ k saved places at told. placed_lines stands ready some start_many idle all (epoch_joined ran)
        (omega (arith, joined_up (comes_to_advance ran) all.kept.stands.clock.epoch)) k saved at;
    last = λ w lines log was is at there bank bank_now.
        subst (λ x. LastStep tells clock image_at faults old.stands.clock.epoch all.worked.clock.epoch lines x was is)
        (down_same w lines log at there)
        (subst (λ x. LastStep tells clock image_at faults old.stands.clock.epoch all.worked.clock.epoch lines lines
        was x)
        (same_Some was is (sym bank ∙ ap (λ l. slice_get l w) (sym growing_is) ∙ bank_now))
        (last_none old.stands.clock.epoch all.worked.clock.epoch lines was
        (worked_up stands ready some start_many idle all)));
    fails = λ is. is;
    told_others = λ device has. has;
    beside = λ device has. (rose_kept stands ready some start_many idle all device has).0;
    rose_others = λ device has. subst (RoseIn faults device before) (sym now_is)
        (rose_kept stands ready some start_many idle all device has).1;
    quiet_snaps = λ not. ap faults snaps_is ∙ quiet_snaps_kept stands ready some start_many idle all not;
    quiet_closed = λ w was is at there not. quiet_kept stands ready some start_many idle all w was is at
        (ap (λ (v : Vault D). slice_get (closed_in old.side v) w) (sym now_is) ∙ there)
        not;
    stays = λ w lines log at there down. subst (λ (x : LogState). is_some x.journal.down ≡ true) (down_same w lines log at there) down;
    files = files_out;
    between_whole = subst IsWhole (sym now_is) (after_whole stands ready some start_many idle all);
    rests = λ is. absurd (let no = sym is ∙ not_swapped in cc);
    refusals = ap (λ (r : RuntimeState). r.stands.refused) new_is;
    met = ap (λ (r : RuntimeState). r.stands.met) new_is;
    slots = ap (λ (r : RuntimeState). r.stands.slots) new_is;
    mine = ap (λ (r : RuntimeState). r.stands.mine) new_is;
    drops = ap (λ (r : RuntimeState). r.stands.drops) new_is;
    decls = ap (λ (r : RuntimeState). r.stands.decls) new_is;
    state = ap (λ (r : RuntimeState). r.stands.state) new_is;
    durable = durable_is ∙ sym (none_made (leaves_join_out ran) _ _ _ leaves_so);
    lasts = λ none. absurd (let no = sym some_end ∙ ap is_some none in cc);
    end_is = end_out;
    clock_is = ap (λ (r : RuntimeState). r.stands.clock) new_is
        ∙ ap (λ b. record { epoch = cond (not b) (epoch_after all.kept.stands.clock.epoch) all.kept.stands.clock.epoch; draw = all.kept.stands.clock.draw })
        (sym leaves_so);
    ended = ap (λ (r : RuntimeState). r.stands.ended) new_is;
    down = down_just ran.beside.devices new.down (ap (λ (r : RuntimeState). r.down) new_is ∙ ap is_some (sym device_first));
    stands = stands_out;
    gleans = gleans_told stands ready some start_many idle all store_is snaps_is;
    sound = λ not. ap (λ (s : StoreState). s.sound) store_is ∙ kept_sound stands ready some start_many idle all
        (λ has. not (others_in old.side (are_down all.mid.logs) (is_some all.keeper.failed) others devices.Snaps has));
    room = ap (λ (r : RuntimeState). r.room) new_is ∙ kept_room stands ready some start_many idle all;
    told = all.keeper.told ∙ sym (append-nil (saves_told report.keeper))
        ∙ ap (λ d. saves_told report.keeper ++ option_to_list d) (sym durable_is);
    refused = λ w log refusal at has.
        let p = map_at (λ (p : Share). p.refusal) all.lines.shares w refusal has in
        let below = below_8 all.mid.logs w log at (all.lines.over.logs_length ∙ start_many) in
        let begins = item_at start w (omega (arith, below, start_many)) in
        let bank = item_at (growing_in old.side before) w (omega (arith, below, before_many stands ready some start_many idle all)) in
        let mid_bank = item_at (growing_in old.side all.between) w (omega (arith, below, between_many stands ready some start_many idle all)) in
        subst (λ r. IsRefusedBy r log.journal) p.2
        (all.lines.over.each w p.0 begins.0 log bank.0 mid_bank.0 p.1 begins.1 at bank.1 mid_bank.1).refused;
    log_failed = λ w below has.
        let here = bank_down old.side (are_down all.mid.logs) (is_some all.keeper.failed) others w
        (beside_not_growing old.side others w (λ device there.
        (rose_kept stands ready some start_many idle all device there).0))
        (subst (Contains ran.beside.devices) (log_of_is old.side (files_of old) w refl) has) in
        let at = map_at (λ (l : LogState). is_some l.journal.down) all.mid.logs w true here in
        let p = item_at all.lines.shares w (omega (arith, below, all.lines.over.runs.workers)) in
        let begins = item_at start w (omega (arith, below, start_many)) in
        let bank = item_at (growing_in old.side before) w (omega (arith, below, before_many stands ready some start_many idle all)) in
        let mid_bank = item_at (growing_in old.side all.between) w (omega (arith, below, between_many stands ready some start_many idle all)) in
        let left = all.lines.over.each w p.0 begins.0 at.0 bank.0 mid_bank.0 p.1 begins.1 at.1 bank.1 mid_bank.1 in
        inl (map_there (λ (p : Share). p.refusal) all.lines.shares w p.0 p.1 ∙ ap Some (left.failed at.2));
    rise = rise_lines stands ready some start_many idle all;
    asked = λ is. inl (ap (λ (k : KeeperAt). k.refused) (at_end stands ready some start_many idle all all.mid.logs all.keeper.failed others)
        ∙ sym all.keeper.refused ∙ ap is_some all.keeper.refusal_is
        ∙ store_told all.keeper.failed (first_device all.keeper.broken) all.keeper.damaged report.keeper is);
  }) reads
