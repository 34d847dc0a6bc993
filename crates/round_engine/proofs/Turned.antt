-- The swap behind a join: the sides turn, or a cut failed, or nothing was to be done.
use Rattle.std.proofs.Common.{◌≡◌, ◌∙◌, ◌≤◌, ◌<◌, ◌++◌, ◌∷◌, inl, inr, sym, ap, subst, refl, ℕ, suc, List, []}
use Rattle.std.proofs.Common.{length, map, Bool, true, false, cond, not, Option, Some, None, arith}
use Rattle.std.specs.Prelude.{◌&&◌, ◌^◌, is_some, option_to_list, slice_get, Result, Ok, Err}
use Rattle.std.specs.List.{AllByRecursion, Contains}
use Rattle.std.proofs.lemmas.Bool.{cases_Bool}
use Rattle.std.proofs.lemmas.List.{length-map}
use Rattle.std.proofs.lemmas.Option.{same_Some}
use Rattle.outside.specs.Faults.{Rose}
use Rattle.log_writer.specs.Vault.{IsWhole}
use Rattle.log_writer.specs.declared.vault.Vault.{Vault}
use Rattle.wire_form.specs.declared.clock.Mark.{Mark}
use Rattle.log_writer.specs.Counted.{AlwaysTells}
use Rattle.log_writer.specs.Journal.{Reaches}
use Rattle.log_writer.specs.Points.{SaveState, sequence_of}
use Rattle.log_writer.specs.Save.{IsStored}
use Rattle.log_writer.specs.declared.saved.Saved.{Saved}
use Rattle.snapshot_store.specs.Store.{StoreState}
use Rattle.tx_script.specs.Causes.{some_counted}
use Rattle.worker_logs.specs.Logs.{IsJoined, LogState, log_limit, reset_log}
use Rattle.worker_logs.specs.Saves.{logs_marks}
use Rattle.worker_logs.specs.declared.savepoints.Side.{Side}
use Rattle.round_engine.specs.Keeping.{KeepsSaves}
use Rattle.round_engine.specs.Phases.{SwapsBehind, ended_as, made}
use Rattle.round_engine.specs.Saves.{AreTied, HaveEnded}
use Rattle.round_engine.specs.Sides.{closed_numbers, growing_in, other_side}
use Rattle.round_engine.specs.Standing.{HasSnapshot, IsMarkBefore, LogsStand, RuntimeState, StandsOn}
use Rattle.round_engine.specs.Swaps.{CutsBanks, turned, turned_unless}
use Rattle.round_engine.specs.declared.report.End.{End}
use Rattle.round_engine.proofs.BanksCut.{banks_growing, banks_save, banks_snaps, banks_whole}
use Rattle.round_engine.proofs.Beside.{SameSaves, StoredOver}
use Rattle.round_engine.proofs.JoinedAs.{cut_end}
use Rattle.round_engine.proofs.Numbered.{growing_at}
use Rattle.round_engine.proofs.Places.{map_at}

-- the sides turned, if they did
abbrev pub turned_if : Bool → ℕ → RuntimeState → RuntimeState
turned_if true epoch r = turned epoch r
turned_if false epoch r = r

module _ {D : Type 0} (tells : D → Option (List ℕ)) (clock : D → ℕ) (image_at : D → ℕ → List ℕ → Type 0)
    (faults : D → ℕ) where
  -- The swap was tried, or not, and a cut of it failed, or none: the sides turned just where it was done.
  pub record TurnsBehind (epoch : ℕ) (result : Result ℕ End) (joined new : RuntimeState) (between now : Vault D)
      (end : Option End) : Type 0 where
    pub tried : Bool
    pub cut : Option ℕ
    pub tried_is : tried ≡ (is_some (made result) && not (some_counted joined.counted))
    pub left : tried ≡ false → (cut ≡ None) × (now ≡ between)
    pub cuts : tried ≡ true → CutsBanks tells clock image_at faults (sequence_of joined.save.newest)
        (closed_numbers joined.side) cut between now
    pub new_is : new ≡ turned_if (tried && not (is_some cut)) epoch joined
    pub end_is : end ≡ cut_end cut

  pub turns_behind : (epoch : ℕ) (result : Result ℕ End) (joined new : RuntimeState) (between now : Vault D) (end : Option End)
      → ((e : ℕ) → result ≡ Ok e → e ≡ epoch) → SwapsBehind tells clock image_at faults result joined new between now end
      → TurnsBehind epoch result joined new between now end
  turns_behind epoch (Err refusal) joined new between now end same swaps = record {
    tried = false;
    cut = None;
    tried_is = refl;
    left = λ no. (refl, swaps.1);
    cuts = λ is. absurd cc;
    new_is = swaps.0;
    end_is = swaps.2;
  }
  turns_behind epoch (Ok e) joined new between now end same swaps = elim swaps [
    | inl some ↦ record {
      tried = false;
      cut = None;
      tried_is = sym (ap not some.0);
      left = λ no. (refl, some.2);
      cuts = λ is. absurd cc;
      new_is = some.1;
      end_is = some.3;
    }
    | inr tried ↦ record {
      tried = true;
      cut = tried.1;
      tried_is = sym (ap not tried.0);
      left = λ no. absurd cc;
      cuts = λ is. tried.2;
      new_is = tried.3 ∙ by_cut tried.1;
      end_is = tried.4;
    }
  ]
    where
      by_cut : (cut : Option ℕ) → turned_unless cut e joined ≡ turned_if (not (is_some cut)) epoch joined
      by_cut None = ap (λ n. turned n joined) (same e refl)
      by_cut (Some n) = refl

-- ---- what the turn leaves as it was

pub turned_parts : (b : Bool) (epoch : ℕ) (r : RuntimeState) → ((turned_if b epoch r).stands ≡ r.stands)
    × ((turned_if b epoch r).save ≡ r.save) × ((turned_if b epoch r).store ≡ r.store) × ((turned_if b epoch r).room ≡ r.room)
    × ((turned_if b epoch r).down ≡ r.down)
turned_parts true epoch r = (refl, refl, refl, refl, refl)
turned_parts false epoch r = (refl, refl, refl, refl, refl)

pub turned_files : (b : Bool) (epoch : ℕ) (r : RuntimeState) → ((turned_if b epoch r).side ≡ cond b (other_side r.side) r.side)
    × ((turned_if b epoch r).counted ≡ cond b (map (λ (m : Mark). m.length) (logs_marks r.logs)) r.counted)
    × ((turned_if b epoch r).closed_at ≡ cond b epoch r.closed_at)
    × ((turned_if b epoch r).logs ≡ cond b (map reset_log r.logs) r.logs)
turned_files true epoch r = (refl, refl, refl, refl)
turned_files false epoch r = (refl, refl, refl, refl)

-- the end of a run is told of the turned runtime as of the other
pub turned_ended : (b : Bool) (epoch : ℕ) (r : RuntimeState) (ended down : Bool)
    → ended_as (turned_if b epoch r) ended down ≡ turned_if b epoch (ended_as r ended down)
turned_ended true epoch r ended down = refl
turned_ended false epoch r ended down = refl

-- ---- logs that are reset

pub reset_all : (P Q : LogState → Type 0) → ((log : LogState) → P log → Q (reset_log log)) → (logs : List LogState)
    → AllByRecursion P logs → AllByRecursion Q (map reset_log logs)
reset_all P Q so [] all = tt
reset_all P Q so (log ∷ logs) all = (so log all.0, reset_all P Q so logs all.1)

-- logs that were reset one by one
pub reset_each : (logs new : List LogState) → length new ≡ length logs
    → ((i : ℕ) (log : LogState) → slice_get logs i ≡ Some log → slice_get new i ≡ Some (reset_log log))
    → new ≡ map reset_log logs
reset_each [] [] many each = refl
reset_each [] (log ∷ new) many each = absurd cc
reset_each (log ∷ logs) [] many each = absurd cc
reset_each (log ∷ logs) (n ∷ new) many each =
    ap (λ l. l ∷ new) (same_Some n (reset_log log) (each 0 log refl))
    ∙ ap (λ l. reset_log log ∷ l) (reset_each logs new (omega (arith, many)) (λ i x at. each (suc i) x at))

module _ {D : Type 0} {tells : D → Option (List ℕ)} {clock : D → ℕ} {image_at : D → ℕ → List ℕ → Type 0} where
  -- where only the closed log files were cut a runtime stands as it did
  pub stands_cut : {r : RuntimeState} {between now : Vault D} → IsWhole now → now.save ≡ between.save → now.snaps ≡ between.snaps
      → growing_in r.side now ≡ growing_in r.side between
      → (AlwaysTells tells → LogsStand tells clock image_at r.side r.logs r.counted now)
      → StandsOn tells clock image_at r between → StandsOn tells clock image_at r now
  stands_cut {r = r} {between = between} {now = now} whole save snaps growing durable stands = record {
    whole = whole;
    workers = stands.workers;
    limits = stands.limits;
    above = stands.above;
    marked = stands.marked;
    closed = stands.closed;
    most_pages = stands.most_pages;
    up = stands.up;
    goes_on = stands.goes_on;
    stored = λ up. subst (λ d. IsStored tells clock image_at d r.save.newest) (sym save) (stands.stored up);
    snapshot = λ sound. subst (HasSnapshot tells r) (sym snaps) (stands.snapshot sound);
    reaches = λ w log bank at there. stands.reaches w log bank at
        (growing_at r.side between w ∙ ap (λ l. slice_get l w) (sym growing) ∙ sym (growing_at r.side now w) ∙ there);
    durable = durable;
  }

  -- And where the sides turned it stands on the other ones: nothing is in its growing log files, and of the closed ones
  -- what their logs' marks count.
  pub stands_turned : {r : RuntimeState} {vault : Vault D} (epoch : ℕ) → r.closed_at < epoch → epoch < r.stands.clock.epoch
      → AllByRecursion (λ n. n < 2 ^ 40) (turned epoch r).counted
      → (AlwaysTells tells → LogsStand tells clock image_at (other_side r.side) (map reset_log r.logs)
      (map (λ (m : Mark). m.length) (logs_marks r.logs)) vault)
      → StandsOn tells clock image_at r vault → StandsOn tells clock image_at (turned epoch r) vault
  stands_turned {r = r} {vault = vault} epoch since below few durable stands = record {
    whole = stands.whole;
    workers = length-map r.logs reset_log ∙ stands.workers;
    limits = reset_all (λ (l : LogState). l.journal.limit ≡ log_limit) (λ (l : LogState). l.journal.limit ≡ log_limit)
        (λ log is. is) r.logs stands.limits;
    above = stands.above;
    marked = reset_all (λ (l : LogState). IsMarkBefore r.stands.clock.epoch l.mark.epoch)
        (λ (l : LogState). IsMarkBefore r.stands.clock.epoch l.mark.epoch) (λ log is. is) r.logs stands.marked;
    closed = record {
      workers = length-map (logs_marks r.logs) (λ (m : Mark). m.length) ∙ length-map r.logs (λ (l : LogState). l.mark) ∙ stands.workers;
      counted = few;
      before = below;
    };
    most_pages = stands.most_pages;
    up = λ down. let ups = stands.up down in record {
      save = ups.save;
      store = ups.store;
      logs = reset_all (λ (l : LogState). l.journal.down ≡ None) (λ (l : LogState). l.journal.down ≡ None) (λ log is. is) r.logs ups.logs;
    };
    goes_on = λ on. let ready = stands.goes_on on in record {
      up = ready.up;
      logs = reset_all (IsJoined r.stands.clock.epoch) (IsJoined r.stands.clock.epoch)
          (λ log is. record { flushed = refl; marked = ap (λ (m : Mark). record { length = 0; epoch = m.epoch }) is.marked })
          r.logs ready.logs;
    };
    stored = stands.stored;
    snapshot = λ sound. let has = stands.snapshot sound in record {
      holds = has.holds;
      contents = has.contents;
      stands = has.stands;
      decls = has.decls;
      up_to = omega (arith, has.up_to, since);
      earlier = λ some. omega (arith, has.up_to, since);
      let_in = has.let_in;
      published = has.published;
    };
    reaches = λ w log bank at there.
        let l = map_at reset_log r.logs w log at in
        subst (λ (x : LogState). Reaches tells bank x.journal) l.2 (λ file told. omega arith);
    durable = durable;
  }

  -- what is kept is kept over the same savepoints and pages
  pub keeps_onto : {faults : D → ℕ} {stored : List Saved} {failed : Option Saved} {old joined new : RuntimeState}
      {before between now : Vault D} → SameSaves between now → new.save ≡ joined.save → new.store ≡ joined.store
      → KeepsSaves tells clock image_at faults stored failed old joined before between
      → KeepsSaves tells clock image_at faults stored failed old new before now
  keeps_onto {faults = faults} {stored} {failed} {old = old} {joined = joined} {new = new} {before = before} {between = between} {now = now} same save store k =
      let begun = stored ++ option_to_list failed in
      let one : StoredOver tells clock image_at begun old.save.newest old.store new.store before.save between.save before.snaps
      between.snaps before.ties.items between.ties.items =
      subst (λ (s : StoreState). StoredOver tells clock image_at begun old.save.newest old.store s before.save between.save
      before.snaps between.snaps before.ties.items between.ties.items) (sym store) k.keeper in
      let two : StoredOver tells clock image_at begun old.save.newest old.store new.store before.save now.save before.snaps
      between.snaps before.ties.items between.ties.items =
      subst (λ d. StoredOver tells clock image_at begun old.save.newest old.store new.store before.save d
      before.snaps between.snaps before.ties.items between.ties.items) (sym same.save) one in
      let three : StoredOver tells clock image_at begun old.save.newest old.store new.store before.save now.save before.snaps
      now.snaps before.ties.items between.ties.items =
      subst (λ d. StoredOver tells clock image_at begun old.save.newest old.store new.store before.save now.save
      before.snaps d before.ties.items between.ties.items) (sym same.snaps) two in
      record {
        newest = ap (λ (s : SaveState). s.newest) save ∙ k.newest;
        down = ap (λ (s : SaveState). is_some s.down) save ∙ k.down;
        stands = λ up. subst (λ d. IsStored tells clock image_at d new.save.newest) (sym same.save)
            (subst (λ (s : SaveState). IsStored tells clock image_at between.save s.newest) (sym save)
            (k.stands (ap (λ (s : SaveState). s.down) (sym save) ∙ up)));
        told = ap (λ d. is_some (tells d)) same.save ∙ k.told;
        snaps_told = ap (λ d. is_some (tells d)) same.snaps ∙ k.snaps_told;
        later = subst (λ d. faults before.save ≤ faults d) (sym same.save) k.later;
        quiet = λ none. ap faults same.save ∙ k.quiet none;
        rose = λ is. subst (λ d. Rose (faults before.save) (faults d)) (sym same.save) (k.rose is);
        ties_are = subst (λ t. AreTied old.save.newest stored failed before.ties.items t) (sym same.ties) k.ties_are;
        ended = subst (λ t. HaveEnded old.save.newest stored t) (sym same.ties) k.ended;
        ties_stay = λ tie has. subst (λ t. Contains t tie) (sym same.ties) (k.ties_stay tie has);
        grows = (k.grows.0, ap (λ (s : StoreState). s.pages) store ∙ k.grows.1);
        counts = subst (λ (s : StoreState). AllByRecursion (λ (x : Saved). x.count ≤ length s.pages) begun) (sym store) k.counts;
        keeper = subst (λ t. StoredOver tells clock image_at begun old.save.newest old.store new.store before.save now.save
            before.snaps now.snaps before.ties.items t) (sym same.ties) three;
      }

-- ---- all of a swap

-- what a swap leaves beside the closed log files
pub record SwapLeaves {D : Type 0} (side : Side) (between now : Vault D) : Type 0 where
  pub whole : IsWhole now
  pub saves : SameSaves between now
  pub growing : growing_in side now ≡ growing_in side between

module _ {D : Type 0} (tells : D → Option (List ℕ)) (clock : D → ℕ) (image_at : D → ℕ → List ℕ → Type 0)
    (faults : D → ℕ) (epoch : ℕ) (result : Result ℕ End) (joined new : RuntimeState) (between now : Vault D) (end : Option End)
    (turns : TurnsBehind tells clock image_at faults epoch result joined new between now end) where
  pub swap_leaves : IsWhole between → SwapLeaves joined.side between now
  swap_leaves whole = elim (cases_Bool turns.tried) [
    | inl tried ↦
        let cuts = turns.cuts tried in
        let at = sequence_of joined.save.newest in
        let numbers = closed_numbers joined.side in
        let saves = banks_save tells clock image_at faults at numbers turns.cut between now cuts in
        record {
          whole = banks_whole tells clock image_at faults at numbers turns.cut between now cuts whole;
          saves = record {
            save = saves.0;
            snaps = banks_snaps tells clock image_at faults at numbers turns.cut between now cuts;
            ties = ap (λ v. v.items) saves.1;
          };
          growing = banks_growing tells clock image_at faults at turns.cut joined.side between now cuts;
        }
    | inr not ↦
        let same = (turns.left not).1 in
        record {
          whole = subst IsWhole (sym same) whole;
          saves = record {
            save = ap (λ (v : Vault D). v.save) same;
            snaps = ap (λ (v : Vault D). v.snaps) same;
            ties = ap (λ (v : Vault D). v.ties.items) same;
          };
          growing = ap (λ (v : Vault D). growing_in joined.side v) same;
        }
  ]
