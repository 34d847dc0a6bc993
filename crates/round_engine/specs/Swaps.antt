-- The swap of a join: the closed log files are emptied and grow from then on, and those that grew are closed.
use Rattle.std.specs.Prelude.{◌≡◌, ◌⊎◌, ◌++◌, ℕ, Bool, List, [], ◌∷◌, map, Option, Some, None, true, false}
use Rattle.std.specs.Prelude.{if◌then◌else◌}
use Rattle.std.specs.Prelude.{Result, Ok, Err, ⊤}
use Rattle.std.specs.Option.{option_map}
use Rattle.log_writer.specs.Vault.{CutsIn, disk_in}
use Rattle.outside.specs.declared.fault.Failed.{Failed}
use Rattle.outside.specs.declared.device.Device.TheVariants.{Bank}
use Rattle.log_writer.specs.declared.vault.Vault.{Vault}
use Rattle.log_writer.specs.Points.{sequence_of}
use Rattle.tx_script.specs.Causes.{some_counted}
use Rattle.wire_form.specs.declared.clock.Mark.{Mark}
use Rattle.worker_logs.specs.Logs.{reset_log}
use Rattle.worker_logs.specs.Saves.{logs_marks}
use Rattle.round_engine.specs.Sides.{closed_numbers, other_side}
use Rattle.round_engine.specs.Standing.{RuntimeState}
use Rattle.round_engine.specs.declared.report.End.{End}
use Rattle.round_engine.specs.declared.report.End.TheVariants as ends

module _ {D : Type 0} (tells : D → Option (List ℕ)) (clock : D → ℕ) (image_at : D → ℕ → List ℕ → Type 0)
    (faults : D → ℕ) where
  -- A log file was cut to nothing, or failed in that; that it was begun is recorded, behind this sequence.
  pub record CutsBank (after number : ℕ) (result : Result ⊤ Failed) (old new : Vault D) : Type 0 where
    pub cut : CutsIn tells clock image_at faults (Bank number) old new result
    pub recorded : (was : D) → disk_in old (Bank number) ≡ Some was → new.cuts.items
        ≡ old.cuts.items ++ record { device = Bank number; at = clock was; after = after } ∷ []
    pub save : new.save ≡ old.save
    pub ties : new.ties ≡ old.ties

  -- so were those of these numbers, one after another, up to the first that failed
  abbrev pub CutsBanks : ℕ → List ℕ → Option ℕ → Vault D → Vault D → Type 0
  CutsBanks after [] failed old new = (failed ≡ None) × (new ≡ old)
  CutsBanks after (n ∷ more) failed old new =
      ((mid : Vault D) × CutsBank after n (Ok tt) old mid × CutsBanks after more failed mid new)
      ⊎ ((fault : Failed) × (failed ≡ Some n) × CutsBank after n (Err fault) old new)

-- which cut failed
abbrev pub cut_failed : Result ⊤ ℕ → Option ℕ
cut_failed (Ok done) = None
cut_failed (Err number) = Some number

-- The sides turn: of each log file that grew the length counts that its log's mark has, and they are closed at this
-- epoch; the logs are those of empty files.
abbrev pub turned : ℕ → RuntimeState → RuntimeState
turned epoch r = record r {
  side = other_side r.side;
  counted = map (λ (m : Mark). m.length) (logs_marks r.logs);
  closed_at = epoch;
  logs = map reset_log r.logs;
}

-- the sides turn where nothing failed
abbrev pub turned_unless : Option ℕ → ℕ → RuntimeState → RuntimeState
turned_unless None epoch r = turned epoch r
turned_unless (Some number) epoch r = r

-- The swap behind the save of an epoch: it is made where nothing of the closed log files counts, and else left out. It
-- ends the run where a cut fails.
abbrev pub SwapsAt : {D : Type 0} → (D → Option (List ℕ)) → (D → ℕ) → (D → ℕ → List ℕ → Type 0) → (D → ℕ) → ℕ
    → RuntimeState → RuntimeState → Vault D → Vault D → Option End → Type 0
SwapsAt tells clock image_at faults epoch old new before now end =
    ((some_counted old.counted ≡ true) × (new ≡ old) × (now ≡ before) × (end ≡ None))
    ⊎ ((some_counted old.counted ≡ false) × (failed : Option ℕ)
    × CutsBanks tells clock image_at faults (sequence_of old.save.newest) (closed_numbers old.side) failed before now
    × (new ≡ turned_unless failed epoch old) × (end ≡ option_map (λ n. ends.Device (Bank n)) failed))

-- Of what was logged up to a round's end, what was logged since the last swap: nothing, where the round swapped.
abbrev pub since_swap : {X : Type 0} → Bool → (ℕ → List X) → ℕ → List X
since_swap swapped these worker = if swapped then [] else these worker

-- And what the closed log files have: what was logged up to there, where the round swapped, and else what they had.
abbrev pub behind_swap : {X : Type 0} → Bool → (ℕ → List X) → (ℕ → List X) → ℕ → List X
behind_swap swapped these closed worker = if swapped then these worker else closed worker
