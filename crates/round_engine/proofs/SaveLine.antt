-- A line of the maintenance thread that asks for a save.
use Rattle.std.proofs.Common.{◌≤◌, ◌≡◌, ◌∙◌, ◌<◌, ◌-◌, ◌∷◌, inl, inr, sym, ap, subst, refl, ℕ, List, []}
use Rattle.std.proofs.Common.{true, false, Option, Some, None, arith}
use Rattle.std.specs.Prelude.{◌^◌, Result, Ok, Err}
use Rattle.std.proofs.lemmas.Bool.{cases_eq}
use Rattle.lists.specs.Elements.{in_head}
use Rattle.log_writer.specs.declared.vault.Vault.{Vault}
use Rattle.script_grammar.specs.declared.lines.KeeperLine.TheVariants as asks
use Rattle.wire_form.specs.declared.clock.Mark.{Mark}
use Rattle.log_writer.specs.Points.{SaveState, sequence_of}
use Rattle.log_writer.specs.declared.save.SaveFault.{SaveFault}
use Rattle.log_writer.specs.declared.save.SaveFault.TheVariants.{Device, Down, Limit}
use Rattle.joint_crashes.specs.Images.{epoch_of}
use Rattle.tx_script.specs.Causes.{last_sequence}
use Rattle.tx_script.specs.SeenLaws.{saved_no_less}
use Rattle.tx_script.specs.declared.answer.Answer.{Answer}
use Rattle.tx_script.specs.declared.answer.Answer.TheVariants as answers
use Rattle.worker_logs.specs.Saves.{SavesMarks}
use Rattle.worker_logs.specs.SavesLaws.{saved_epoch_less}
use Rattle.worker_logs.specs.declared.savepoints.Side.{Side}
use Rattle.worker_logs.specs.declared.savepoints.Side.TheVariants.{Even, Odd}
use Rattle.round_engine.specs.Keeping.{CanKeep, epoch_by, epochs_in, GoOn, IsSavedBySeen, keeper_on, RunsKeeper, save_answer}
use Rattle.round_engine.specs.Keeping.{save_refusal, SeenAmong, StepsSave}
use Rattle.round_engine.specs.Sides.{closed_in, growing_in}
use Rattle.round_engine.specs.Standing.{beside_of, RuntimeState}
use Rattle.round_engine.proofs.KeepingSaves.{keeps_saves, with_save}
use Rattle.round_engine.specs.Saves.{beside_at_save, GoesBy}
use Rattle.round_engine.proofs.Dropped.{nothing_dropped}
use Rattle.round_engine.proofs.Placed.{place_limit, place_one}
use Rattle.round_engine.proofs.PlainLine.{gleans_none, IsPlain, leaves_none, needs_none, plain_line, TellsNone, Ungleaned}

-- both sides are as they were
pub growing_same : {D : Type 0} (side : Side) (was is : Vault D) → is.even ≡ was.even → is.odd ≡ was.odd
    → growing_in side is ≡ growing_in side was
growing_same Even was is even odd = ap (λ v. v.items) even
growing_same Odd was is even odd = ap (λ v. v.items) odd

pub closed_same : {D : Type 0} (side : Side) (was is : Vault D) → is.even ≡ was.even → is.odd ≡ was.odd
    → closed_in side is ≡ closed_in side was
closed_same Even was is even odd = ap (λ v. v.items) odd
closed_same Odd was is even odd = ap (λ v. v.items) even

-- the sequence of a store that was not refused for it
pub sequence_left : (n : ℕ) → n < 2 ^ 63 → (n ≡ 2 ^ 63 - 1 → ⊥) → n < last_sequence
sequence_left n counted differs = elim (cases_eq n (2 ^ 63 - 1)) [
  | inl same ↦ absurd (differs same)
  | inr other ↦ omega (arith, counted, other)
]

tells_save : (epoch : ℕ) → TellsNone (answers.Save epoch)
tells_save epoch = record { none = refl; beside = λ b. refl }

tells_device : TellsNone answers.Device
tells_device = record { none = refl; beside = λ b. refl }

limit_plain : IsPlain answers.Limit
limit_plain = record {
  tells = record { none = refl; beside = λ b. refl };
  unsaved = refl;
  none_in = λ By b. refl;
  goes_on = refl;
  remembers = refl;
}

module _ {D : Type 0} {tells : D → Option (List ℕ)} {clock : D → ℕ} {image_at : D → ℕ → List ℕ → Type 0} (faults : D → ℕ)
    (r : RuntimeState) (vault : Vault D) (ready : CanKeep tells clock image_at r vault) (marks : List Mark) where
  module _ (save : SaveState) (now : Vault D) where
    abbrev Saves : Result ℕ SaveFault → Type 0
    Saves result = SavesMarks tells clock image_at faults r.stands.clock.epoch marks (beside_of r) r.save save vault now
        result

    -- the last sequence was not met where nothing else says so
    below_last : (result : Result ℕ SaveFault) (saves : Saves result)
        → ((sequence : ℕ) → result ≡ Err (Limit sequence) → ⊥) → sequence_of r.save.newest < last_sequence
    below_last result saves not_limit = sequence_left (sequence_of r.save.newest) saves.counted
        (λ last. not_limit (sequence_of r.save.newest) ((saves.stores.limit (sequence_of r.save.newest)).1 (ready.up, refl, last)))

    ungleaned : (result : Result ℕ SaveFault) (saves : Saves result) → Ungleaned r (with_save r save) vault now
    ungleaned result saves = record {
      store = refl;
      decls = refl;
      pages = record { pages = refl; resident = refl };
      room = refl;
      side = refl;
      counted = refl;
      closed_at = refl;
      snaps = saves.snaps;
      growing = growing_same r.side vault now saves.even saves.odd;
      closed = closed_same r.side vault now saves.even saves.odd;
      cuts = ap (λ c. c.items) saves.cuts;
    }

    -- it was saved by these marks
    goes_with : (result : Result ℕ SaveFault) (saves : Saves result) → GoesBy r.stands.clock.epoch r.stands.clock.epoch
        (beside_of r) marks saves.saved
    goes_with result saves = record {
      clock = r.stands.clock.epoch;
      from = omega arith;
      to = omega arith;
      saves = saves.by_marks;
    }

    -- which are the ones that were seen
    by_marks : (result : Result ℕ SaveFault) (saves : Saves result)
        → IsSavedBySeen (SeenAmong (marks ∷ []) r.stands.clock.epoch r.stands.clock.epoch) (beside_of r) saves.saved
    by_marks result saves =
        (r.stands.clock.epoch, marks, (omega arith, omega arith, in_head marks []), saves.by_marks)

    -- its epoch is none before that of marks that these go on from
    no_less : (result : Result ℕ SaveFault) (saves : Saves result) (from : List Mark) → GoOn from (marks ∷ [])
        → epoch_of r.save.newest ≤ epoch_by r.stands.clock.epoch from → epoch_of r.save.newest ≤ saves.saved.epoch
    no_less result saves from going low =
        let rises = saved_no_less r.stands.clock.epoch r.stands.clock.epoch (epochs_in from) (epochs_in marks) (omega arith)
        going.0 in
        omega (arith, low, rises, saves.by_marks.epoch)

    saved_line : (epoch : ℕ) (saves : Saves (Ok epoch))
        → RunsKeeper tells clock image_at faults (marks ∷ []) (asks.Save ∷ []) (answers.Save epoch ∷ []) None r
        (with_save r save) vault now
    saved_line epoch saves =
        record {
          stored = saves.saved ∷ [];
          failed = None;
          gleans = [];
          broken = [];
          damaged = None;
          keeps = keeps_saves r (Ok epoch) saves ready.up ready.stored;
          by_lines = (saves.saved, [], refl, by_marks (Ok epoch) saves, refl);
          by_failed = tt;
          by_place = place_one r.stands.clock.epoch r.stands.clock.epoch
              (beside_at_save (beside_of r) (answers.Save epoch ∷ [])) marks saves.saved (sequence_of r.save.newest) (sequence_of save.newest)
              (below_last (Ok epoch) saves (λ sequence is. absurd (let no = is in cc)))
              (goes_with (Ok epoch) saves);
          gleaned = gleans_none tells clock image_at faults (answers.Save epoch) (tells_save epoch) (ungleaned (Ok epoch) saves);
          leaves = leaves_none tells clock image_at faults (answers.Save epoch) (tells_save epoch) (ungleaned (Ok epoch) saves);
          needs = needs_none tells clock image_at faults (answers.Save epoch) (tells_save epoch) (ungleaned (Ok epoch) saves);
          rise = λ from going low. (
            (no_less (Ok epoch) saves from going low, tt),
            omega (arith, saves.by_marks.epoch),
          );
          later = omega arith;
          stands = refl;
          dropped = nothing_dropped (answers.Save epoch ∷ []) r.stands.drops r.stands.drops refl refl;
          logs = refl;
          is_down = refl;
          count = refl;
          advances = refl;
          at_end = ap (λ q. record (keeper_on r false) { sequence = q }) (sym (ap sequence_of saves.stores.newest));
          refused = refl;
          refusal_is = refl;
          told = ap (λ e. e ∷ []) (sym saves.told);
          caused = λ ran rests. (
            (
              below_last (Ok epoch) saves (λ sequence is. absurd (let no = is in cc)),
              epochs_in marks,
              rests.marks.0,
              saves.told ∙ saves.by_marks.epoch,
            ),
            tt,
          );
          saw = λ ran index are. (
            record {
              places = are.0.places;
              marks = epochs_in marks;
              told = are.0.told;
              stood = are.0.stood;
              least = saves.told ∙ saves.by_marks.epoch;
            },
            refl,
          );
          above = λ low. omega (
            arith,
            low,
            ap epoch_of saves.stores.newest,
            saves.by_marks.epoch,
            saved_epoch_less r.stands.clock.epoch (epochs_in marks),
          );
          tie_room = saves.room;
          cut_room = saves.cuts;
        }

    failed_line : (saves : Saves (Err Device))
        → RunsKeeper tells clock image_at faults (marks ∷ []) (asks.Save ∷ []) (answers.Device ∷ [])
        (save_refusal answers.Device) r (with_save r save) vault now
    failed_line saves =
        record {
          stored = [];
          failed = Some saves.saved;
          gleans = [];
          broken = [];
          damaged = None;
          keeps = keeps_saves r (Err Device) saves ready.up ready.stored;
          by_lines = refl;
          by_failed = (by_marks (Err Device) saves, tt);
          by_place = place_one r.stands.clock.epoch r.stands.clock.epoch
              (beside_at_save (beside_of r) (answers.Device ∷ [])) marks saves.saved (sequence_of r.save.newest) (sequence_of save.newest)
              (below_last (Err Device) saves (λ sequence is. absurd (let no = is in cc)))
              (goes_with (Err Device) saves);
          gleaned = gleans_none tells clock image_at faults answers.Device tells_device (ungleaned (Err Device) saves);
          leaves = leaves_none tells clock image_at faults answers.Device tells_device (ungleaned (Err Device) saves);
          needs = needs_none tells clock image_at faults answers.Device tells_device (ungleaned (Err Device) saves);
          rise = λ from going low. (
            (no_less (Err Device) saves from going low, tt),
            omega (arith, saves.by_marks.epoch),
          );
          later = omega arith;
          stands = refl;
          dropped = nothing_dropped (answers.Device ∷ []) r.stands.drops r.stands.drops refl refl;
          logs = refl;
          is_down = refl;
          count = refl;
          advances = refl;
          at_end = ap (λ n. record (keeper_on r true) { sequence = sequence_of n }) (sym saves.stores.kept);
          refused = refl;
          refusal_is = refl;
          told = refl;
          caused = λ ran rests. (
            (below_last (Err Device) saves (λ sequence is. absurd (let no = is in cc)), rests.store refl),
            tt,
          );
          saw = λ ran index are. refl;
          above = λ low. omega (arith, low, ap epoch_of saves.stores.kept);
          tie_room = saves.room;
          cut_room = saves.cuts;
        }

  by_result : (save : SaveState) (now : Vault D) (result : Result ℕ SaveFault) (saves : Saves save now result)
      → RunsKeeper tells clock image_at faults (marks ∷ []) (asks.Save ∷ []) (save_answer result ∷ [])
      (save_refusal (save_answer result)) r (with_save r save) vault now
  by_result save now (Ok epoch) saves = saved_line save now epoch saves
  by_result save now (Err Device) saves = failed_line save now saves
  by_result save now (Err (Down count)) saves = absurd (let no = sym ready.up ∙ (saves.stores.down count).0 refl in cc)
  by_result save now (Err (Limit sequence)) saves =
      let met = (saves.stores.limit sequence).0 refl in
      subst (λ s. RunsKeeper tells clock image_at faults (marks ∷ []) (asks.Save ∷ []) (answers.Limit ∷ []) None r
      (with_save r s) vault now)
      (sym (saves.stores.untouched (λ is. cc)).0)
      (subst (λ v. RunsKeeper tells clock image_at faults (marks ∷ []) (asks.Save ∷ []) (answers.Limit ∷ []) None r r vault v)
      (sym (saves.untied (λ is. cc)))
      (plain_line r vault ready asks.Save answers.Limit r.stands.clock.epoch r.stands.drops limit_plain (omega arith) refl
      (nothing_dropped (answers.Limit ∷ []) r.stands.drops r.stands.drops refl refl) refl
      (λ ran. sym met.1 ∙ met.2) (marks ∷ []) (λ ran index. refl)
      (place_limit r.stands.clock.epoch r.stands.clock.epoch (beside_at_save (beside_of r) (answers.Limit ∷ [])) marks
      (sequence_of r.save.newest) (sym met.1 ∙ met.2))))

  -- A save is answered.
  pub save_line : (answer : Answer) {new : RuntimeState} {now : Vault D}
      → StepsSave tells clock image_at faults marks answer r new vault now
      → RunsKeeper tells clock image_at faults (marks ∷ []) (asks.Save ∷ []) (answer ∷ []) (save_refusal answer) r new vault
      now
  save_line answer {new} {now} step =
      subst (λ a. RunsKeeper tells clock image_at faults (marks ∷ []) (asks.Save ∷ []) (a ∷ []) (save_refusal a) r new vault
      now) (sym step.answer_is)
      (subst (λ s. RunsKeeper tells clock image_at faults (marks ∷ []) (asks.Save ∷ []) (save_answer step.result ∷ [])
      (save_refusal (save_answer step.result)) r s vault now) (sym step.alone)
      (by_result new.save now step.result step.saves))
