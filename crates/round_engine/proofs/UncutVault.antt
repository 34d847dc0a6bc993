-- The vault of a round before its join cuts a log file: what the cuts leave alone.
use Rattle.std.proofs.Common.{◌≡◌, ◌∙◌, sym, ap, subst, refl, ℕ}
use Rattle.std.proofs.Common.{List, length, Bool, true, false, cond, Option}
use Rattle.std.specs.Prelude.{map, is_some, not}
use Rattle.std.proofs.lemmas.List.{length-map}
use Rattle.log_writer.specs.Vault.{IsWhole, disk_in}
use Rattle.log_writer.specs.declared.records.Cut.{Cut}
use Rattle.outside.specs.declared.device.Device.TheVariants.{Bank}
use Rattle.log_writer.specs.declared.vault.Vault.{Vault}
use Rattle.serial_model.specs.declared.number.Commit.{Commit}
use Rattle.log_writer.specs.Points.{sequence_of}
use Rattle.worker_logs.specs.Logs.{reset_log}
use Rattle.worker_logs.specs.Saves.{growing_number}
use Rattle.joint_crashes.specs.JointCrash.{Parts}
use Rattle.joint_crashes.specs.JointCrash.{parts_of}
use Rattle.joint_crashes.specs.Crashes.ToldSteps.{parts}
use Rattle.tx_script.specs.Run.{Ran}
use Rattle.round_engine.specs.Ends.{comes_to_swap}
use Rattle.round_engine.specs.Ends.{swaps}
use Rattle.round_engine.specs.RanRound.{LeavesVault}
use Rattle.round_engine.specs.Sides.{closed_numbers}
use Rattle.round_engine.specs.Standing.{RuntimeState}
use Rattle.round_engine.specs.Swaps.{CutsBanks}
use Rattle.round_engine.proofs.BanksCut.{numbers_closed}
use Rattle.round_engine.proofs.Numbered.{grows_not_closed}
use Rattle.round_engine.proofs.Swapping.{cuts_others, cuts_save, cuts_whole}

module _ {D : Type 0} {tells : D → Option (List ℕ)} {clock : D → ℕ} {image_at : D → ℕ → List ℕ → Type 0}
    {faults : D → ℕ} {ran : Ran} {logged : ℕ → List Commit} {old new : RuntimeState} {before now : Vault D}
    (leaves : LeavesVault tells clock image_at faults ran logged old new before now) where
  abbrev between : Vault D
  between = leaves.files.between

  abbrev pub CutsDone : Type 0
  CutsDone = (failed : Option ℕ) × (is_some failed ≡ not (swaps ran))
      × CutsBanks tells clock image_at faults (sequence_of new.save.newest) (closed_numbers old.side) failed between now

  -- what the cuts left as it was
  pub record Before : Type 0 where
    pub whole : IsWhole between
    pub save : now.save ≡ between.save
    pub snaps : now.snaps ≡ between.snaps
    pub ties : now.ties ≡ between.ties
    pub grows : (w : ℕ) → disk_in now (Bank (growing_number old.side w))
        ≡ disk_in between (Bank (growing_number old.side w))

  before_cuts_by : (b : Bool) → comes_to_swap ran ≡ b → Before
  before_cuts_by false is =
      let same : now ≡ between = leaves.files.left is in
      record {
        whole = subst IsWhole same leaves.stands.whole;
        save = ap (λ (v : Vault D). v.save) same;
        snaps = ap (λ (v : Vault D). v.snaps) same;
        ties = ap (λ (v : Vault D). v.ties) same;
        grows = λ w. ap (λ (v : Vault D). disk_in v (Bank (growing_number old.side w))) same;
      }
  before_cuts_by true is =
      let cuts : CutsDone = leaves.files.cut is in
      let save = cuts_save tells clock image_at faults (sequence_of new.save.newest) (closed_numbers old.side) cuts.0 between
      now cuts.2 in
      record {
        whole = cuts_whole tells clock image_at faults (sequence_of new.save.newest) (closed_numbers old.side) cuts.0 between
            now cuts.2 leaves.stands.whole;
        save = save.0;
        snaps = save.1;
        ties = save.2;
        grows = λ w. cuts_others tells clock image_at faults (sequence_of new.save.newest) (closed_numbers old.side) cuts.0
            between now cuts.2 (growing_number old.side w) (λ has.
            let at = numbers_closed old.side (growing_number old.side w) has in
            grows_not_closed old.side w at.0 at.2);
      }

  pub before_cuts : Before
  before_cuts = before_cuts_by (comes_to_swap ran) refl

  pub logs_many : length leaves.logs ≡ 8
  logs_many = many_by (swaps ran) refl
    where
      logs_are : (b : Bool) → swaps ran ≡ b → new.logs ≡ cond b (map reset_log leaves.logs) leaves.logs
      logs_are b is = leaves.files.logs_are ∙ ap (λ c. cond c (map reset_log leaves.logs) leaves.logs) is

      many_by : (b : Bool) → swaps ran ≡ b → length leaves.logs ≡ 8
      many_by false is = ap length (sym (logs_are false is)) ∙ leaves.stands.workers
      many_by true is = sym (length-map leaves.logs reset_log) ∙ ap length (sym (logs_are true is)) ∙ leaves.stands.workers

  -- the devices before the cuts
  abbrev pub mid : Parts D
  mid = parts now.save now.snaps (λ n. disk_in between (Bank n)) now.ties.items before.cuts.items

  pub mid_is : mid ≡ parts_of between
  mid_is =
      ap (λ d. parts d now.snaps (λ n. disk_in between (Bank n)) now.ties.items before.cuts.items) before_cuts.save
      ∙ ap (λ d. parts between.save d (λ n. disk_in between (Bank n)) now.ties.items before.cuts.items) before_cuts.snaps
      ∙ ap (λ (t : _). parts between.save between.snaps (λ n. disk_in between (Bank n)) t.items before.cuts.items)
      before_cuts.ties
      ∙ ap (λ (c : List Cut). parts between.save between.snaps (λ n. disk_in between (Bank n)) between.ties.items c)
      (sym leaves.files.uncut)
