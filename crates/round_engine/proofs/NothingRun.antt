-- Where room is made first: a vault with more room for records is the same vault, and a round over it one over that.
use Rattle.std.proofs.Common.{◌≡◌, ◌∙◌, ap, refl, sym, subst, ℕ, List, length}
use Rattle.std.specs.Prelude.{◌/◌, ◌%◌, ◌==◌, if◌then◌else◌, Option, slice_get}
use Rattle.log_writer.specs.Vault.{IsWhole, disk_in}
use Rattle.outside.specs.declared.device.Device.TheVariants.{Bank}
use Rattle.log_writer.specs.declared.vault.Vault.{Vault}
use Rattle.script_grammar.specs.Script.{Round}
use Rattle.log_writer.specs.Save.{IsStored}
use Rattle.worker_logs.specs.Saves.{closed_number, growing_number}
use Rattle.round_engine.specs.Phases.{RunsAll}
use Rattle.round_engine.specs.Sides.{growing_in}
use Rattle.round_engine.specs.Standing.{HasSnapshot, RuntimeState, StandsOn}
use Rattle.round_engine.specs.Unbegun.{RoomAlone}
use Rattle.round_engine.specs.Workers.{RunsWorkers}
use Rattle.round_engine.specs.declared.report.Report.{Report}
use Rattle.round_engine.proofs.RunRound.{same_growing_in}

pub room_none : {D : Type 0} (vault : Vault D) → RoomAlone vault vault
room_none vault = record { save = refl; snaps = refl; even = refl; odd = refl; ties = refl; cuts = refl }

pub room_then : {D : Type 0} {a b c : Vault D} → RoomAlone a b → RoomAlone b c → RoomAlone a c
room_then one two = record {
  save = two.save ∙ one.save;
  snaps = two.snaps ∙ one.snaps;
  even = two.even ∙ one.even;
  odd = two.odd ∙ one.odd;
  ties = two.ties ∙ one.ties;
  cuts = two.cuts ∙ one.cuts;
}

module _ {D : Type 0} {before lent : Vault D} (room : RoomAlone before lent) where
  -- each log file is the same
  disk_room : (n : ℕ) → disk_in lent (Bank n) ≡ disk_in before (Bank n)
  disk_room n =
      ap (λ v. slice_get (if n % 2 == 0 then v.items else lent.odd.items) (n / 2)) room.even
      ∙ ap (λ v. slice_get (if n % 2 == 0 then before.even.items else v.items) (n / 2)) room.odd

  -- the vault is whole as before
  pub whole_room : IsWhole before → IsWhole lent
  whole_room whole = record {
    even = ap (λ v. length v.items) room.even ∙ whole.even;
    odd = ap (λ v. length v.items) room.odd ∙ whole.odd;
  }

  module _ {tells : D → Option (List ℕ)} {clock : D → ℕ} {image_at : D → ℕ → List ℕ → Type 0} where
    -- a runtime stands on it as before
    pub stands_in_room : {r : RuntimeState} → StandsOn tells clock image_at r before → StandsOn tells clock image_at r lent
    stands_in_room {r = r} stands = record {
      whole = whole_room stands.whole;
      workers = stands.workers;
      limits = stands.limits;
      above = stands.above;
      marked = stands.marked;
      closed = stands.closed;
      most_pages = stands.most_pages;
      up = stands.up;
      goes_on = stands.goes_on;
      stored = λ up. subst (λ d. IsStored tells clock image_at d r.save.newest) (sym room.save) (stands.stored up);
      snapshot = λ sound. subst (HasSnapshot tells r) (sym room.snaps) (stands.snapshot sound);
      reaches = λ worker log bank at bank_at.
          stands.reaches worker log bank at (sym (disk_room (growing_number r.side worker)) ∙ bank_at);
      durable = λ always.
          let stand = stands.durable always in
          record {
            growing = λ worker log bank at there.
                stand.growing worker log bank at (sym (disk_room (growing_number r.side worker)) ∙ there);
            closed = λ worker count bank at there.
                stand.closed worker count bank at (sym (disk_room (closed_number r.side worker)) ∙ there);
          };
    }

  module _ {tells : D → Option (List ℕ)} {clock : D → ℕ} {image_at : D → ℕ → List ℕ → Type 0} {faults : D → ℕ} where
    -- a round that was run over it is one over the vault before
    pub all_in_room : {tries : ℕ} {round : Round} {old new : RuntimeState} {now : Vault D} {report : Report}
        → RunsAll tells clock image_at faults tries round old new lent now report
        → RunsAll tells clock image_at faults tries round old new before now report
    all_in_room {tries = tries} {round = round} {old = old} {report = report} all = record {
      worked = all.worked;
      mid = all.mid;
      lent = all.lent;
      between = all.between;
      kept = all.kept;
      after = all.after;
      ends = all.ends;
      refused = all.refused;
      marks = all.marks;
      readied = all.readied;
      lines = subst (λ b. RunsWorkers tells clock image_at faults tries round old.stands all.worked report.outcomes
          all.ends all.marks all.readied old.logs all.mid.logs b (growing_in old.side all.between))
          (same_growing_in old.side before lent room) all.lines;
      history = all.history;
      alone = all.alone;
      later = all.later;
      drops = all.drops;
      room = room_then room all.room;
      beside = all.beside;
      seen = all.seen;
      places = all.places;
      met = all.met;
      sees = all.sees;
      back = all.back;
      keeper = all.keeper;
      device_is = all.device_is;
      sequence_is = all.sequence_is;
      draw_is = all.draw_is;
      full_is = all.full_is;
      join = all.join;
    }
