-- What is lent of a runtime by its parts.
use Rattle.std.proofs.Common.{◌≡◌, ◌∙◌, ap, subst, sym, ℕ, List, Option}
use Rattle.log_writer.specs.Points.{SaveState}
use Rattle.log_writer.specs.declared.vault.Vault.{Vault}
use Rattle.serial_model.specs.declared.decl.Decl.{Decl}
use Rattle.snapshot_store.specs.Store.{StoreState}
use Rattle.engine_pages.specs.declared.view.View.{View}
use Rattle.script_grammar.specs.Script.{Round}
use Rattle.tx_script.specs.declared.answer.Answer.{Answer}
use Rattle.worker_logs.specs.Logs.{LogState}
use Rattle.worker_logs.specs.declared.savepoints.Side.{Side}
use Rattle.shared_rounds.specs.declared.ends.WorkersRan.{WorkersRan}
use Rattle.round_engine.specs.SideLines.{HasRunBeside, IsLent, lent_at}
use Rattle.round_engine.specs.Standing.{RuntimeState, Standing}
use Rattle.round_engine.specs.Together.{RunsTogether}
use Rattle.round_engine.specs.declared.keeper.KeeperEnd.{KeeperEnd}
use Rattle.round_engine.specs.declared.keeper_side.Lent.{Lent}
use Rattle.round_engine.proofs.Together.{bare, did_less}

-- a runtime with these parts, of which nothing else is known
abbrev with_lent : RuntimeState → List Decl → View → SaveState → StoreState → List ℕ → ℕ → Side → ℕ → RuntimeState
with_lent r decls v save store counted room side closed_at = record (bare r decls v) {
  save = save;
  store = store;
  counted = counted;
  room = room;
  side = side;
  closed_at = closed_at;
}

-- what is lent is a runtime's, whose values it has
pub lent_bare : (r : RuntimeState) (lent : Lent) → IsLent lent r.save r.store r.counted r.room r.side r.closed_at
    → (decls : List Decl) (v : View) → lent_at decls lent v ≡ bare r decls v
lent_bare r lent is decls v =
    ap (λ x. with_lent r decls v x lent.store.now lent.counted.now lent.room lent.side lent.closed_at) is.saves
    ∙ ap (λ x. with_lent r decls v r.save x lent.counted.now lent.room lent.side lent.closed_at) is.stores
    ∙ ap (λ x. with_lent r decls v r.save r.store x lent.room lent.side lent.closed_at) is.counts
    ∙ ap (λ x. with_lent r decls v r.save r.store r.counted x lent.side lent.closed_at) is.most
    ∙ ap (λ x. with_lent r decls v r.save r.store r.counted r.room x lent.closed_at) is.grows
    ∙ ap (λ x. with_lent r decls v r.save r.store r.counted r.room r.side x) is.shut_at

-- What was done beside the lines, on what was lent with these values and came back with those.
pub lent_told : {D : Type 0} {tells : D → Option (List ℕ)} {clock : D → ℕ} {image_at : D → ℕ → List ℕ → Type 0}
    {faults : D → ℕ} {tries : ℕ} {round : Round} {s t : Standing} {logs_was logs : List LogState}
    {banks_was banks : List D} {ran : WorkersRan} {lent left : Lent} {before behind final : Vault D}
    {said answers : List Answer} {end : KeeperEnd} {save_was save : SaveState} {store_was store : StoreState}
    {counted_was counted : List ℕ} {room : ℕ} {side : Side} {closed_at : ℕ} (did : View → View → Type 0)
    → RunsTogether tells clock image_at faults did tries round s t logs_was logs banks_was banks ran
    → ((v w : View) → did v w → HasRunBeside tells clock image_at faults round lent left before behind said end v w)
    → IsLent lent save_was store_was counted_was room side closed_at → IsLent left save store counted room side closed_at
    → behind ≡ final → said ≡ answers
    → (other : Lent) × (last : Lent) × IsLent other save_was store_was counted_was room side closed_at
    × IsLent last save store counted room side closed_at × RunsTogether tells clock image_at faults
    (λ v w. HasRunBeside tells clock image_at faults round other last before final answers end v w) tries round s t
    logs_was logs banks_was banks ran
lent_told {D} {tells} {clock} {image_at} {faults} {round = round} {lent = lent} {left = left} {before = before}
    {behind = behind} {final = final} {said = said} {answers = answers} {end = end} did told so was is vault_is said_is = (
      lent,
      left,
      was,
      is,
      did_less did (λ v w. HasRunBeside tells clock image_at faults round lent left before final answers end v w)
          (λ v w d. subst (λ (a : List Answer). HasRunBeside tells clock image_at faults round lent left before final a end
          v w) said_is (subst (λ (x : Vault D). HasRunBeside tells clock image_at faults round lent left before x said end
          v w) vault_is (so v w d))) told,
    )

-- the growing log files as they were lent and came back
pub over_banks : {D : Type 0} {tells : D → Option (List ℕ)} {clock : D → ℕ} {image_at : D → ℕ → List ℕ → Type 0}
    {faults : D → ℕ} {did : View → View → Type 0} {tries : ℕ} {round : Round} {s t : Standing}
    {logs_was logs : List LogState} {banks_was banks was now : List D} {ran : WorkersRan} → banks_was ≡ was → now ≡ banks
    → RunsTogether tells clock image_at faults did tries round s t logs_was logs banks_was banks ran
    → RunsTogether tells clock image_at faults did tries round s t logs_was logs was now ran
over_banks {D} {tells} {clock} {image_at} {faults} {did} {tries} {round} {s} {t} {logs_was} {logs} {banks_was} {banks} {was}
    {now} {ran} was_is now_is told =
    subst (λ (l : List D). RunsTogether tells clock image_at faults did tries round s t logs_was logs l now ran) was_is
    (subst (λ (l : List D). RunsTogether tells clock image_at faults did tries round s t logs_was logs banks_was l ran)
    (sym now_is) told)
