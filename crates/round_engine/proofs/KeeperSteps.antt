-- A line of the maintenance thread more.
use Rattle.std.proofs.Common.{◌≡◌, ◌∙◌, ◌≤◌, ◌<◌, ◌+◌, ◌++◌, ◌∷◌, inl, inr, sym, ap, subst, refl, ℕ, List, [], length}
use Rattle.std.proofs.Common.{Bool, true, false, Option, Some, None, arith, length-append, map}
use Rattle.std.specs.Prelude.{◌||◌, ◌^◌, is_some, option_to_list}
use Rattle.std.specs.List.{AllByRecursion, Contains, list_any}
use Rattle.std.proofs.lemmas.Bool.{cases_Bool}
use Rattle.std.proofs.lemmas.List.{append-nil}
use Rattle.std.proofs.lemmas.List.Elements.{Contains-append_cases, Contains-append_left}
use Rattle.std.proofs.lemmas.List.Sums.{fold-append}
use Rattle.std.proofs.lemmas.Option.{same_Some}
use Rattle.lists.specs.Each.{all_replicate}
use Rattle.lists.specs.Elements.{in_none}
use Rattle.lists.specs.Fronts.{IsFront}
use Rattle.outside.specs.Moments.{runs_none}
use Rattle.outside.specs.Reads.{OnlyReads}
use Rattle.log_writer.specs.Vault.{IsWhole}
use Rattle.outside.specs.declared.device.Device.{Device}
use Rattle.outside.specs.declared.device.Device.TheVariants as devices
use Rattle.log_writer.specs.Points.{sequence_of}
use Rattle.log_writer.specs.declared.vault.Vault.{Vault}
use Rattle.script_grammar.specs.declared.lines.KeeperLine.{KeeperLine}
use Rattle.script_grammar.specs.declared.lines.KeeperLine.TheVariants as asks
use Rattle.wire_form.specs.declared.clock.Mark.{Mark}
use Rattle.log_writer.specs.declared.saved.Saved.{Saved}
use Rattle.tx_script.specs.CausedBeside.{SavesSee, drops_told}
use Rattle.tx_script.specs.Causes.{AnswersCaused, KeeperAt, keeper_after}
use Rattle.tx_script.specs.Run.{Ran}
use Rattle.tx_script.specs.declared.answer.Answer.{Answer}
use Rattle.tx_script.specs.declared.answer.Answer.TheVariants as answers
use Rattle.worker_logs.specs.declared.savepoints.Beside.{Beside}
use Rattle.worker_logs.specs.declared.savepoints.Side.{Side}
use Rattle.worker_logs.specs.declared.savepoints.Side.TheVariants.{Even, Odd}
use Rattle.round_engine.specs.Ends.{first_device, wants_memory, save_limited}
use Rattle.round_engine.specs.Keeping.{answers_end, CanKeep, IsSavedBySeen, is_limited, is_refusal, keeper_on, refusal_told}
use Rattle.round_engine.specs.Keeping.{RunsKeeper, seen_by, seen_unless, SeenAmong, StepsEpoch, StepsKeeper}
use Rattle.round_engine.specs.Drops.{counts_of}
use Rattle.round_engine.specs.Keeping.{StepsDrop, StepsLine}
use Rattle.round_engine.specs.Saves.{AreSavedIn, beside_after, beside_at_end, beside_at_save, GoesBy}
use Rattle.round_engine.specs.Sides.{closed_in, growing_in}
use Rattle.round_engine.specs.Standing.{AreClosed, beside_of, RuntimeState}
use Rattle.round_engine.specs.declared.report.End.{End}
use Rattle.round_engine.proofs.Beside.{keeps_none}
use Rattle.round_engine.proofs.Dropped.{dropped_then, nothing_dropped}
use Rattle.round_engine.proofs.GleansThen.{beside_kept, beside_zeros, no_snap, snap_in}
use Rattle.round_engine.proofs.GleanLine.{glean_line}
use Rattle.round_engine.proofs.KeeperThen.{advances_on, any_append, caused_then, keeper_then, refused_nothing, saved_in_then, saves_on}
use Rattle.round_engine.proofs.KeeperThen.{sees_then, where_memory}
use Rattle.round_engine.proofs.LogsStanding.{stand_keeper}
use Rattle.round_engine.proofs.Places.{nothing_there}
use Rattle.round_engine.proofs.Placed.{place_none, save_unrun}
use Rattle.round_engine.proofs.PlainLine.{IsPlain, plain_line, reads_none}
use Rattle.round_engine.proofs.SaveLine.{save_line}

or_none : (b : Bool) → (b || false) ≡ b
or_none true = refl
or_none false = refl

-- ---- what a line finds

pub whole_of : {D : Type 0} (side : Side) (was is : Vault D) → IsWhole was
    → length (growing_in side is) ≡ length (growing_in side was) → length (closed_in side is) ≡ length (closed_in side was)
    → IsWhole is
whole_of Even was is whole growing closed = record { even = growing ∙ whole.even; odd = closed ∙ whole.odd }
whole_of Odd was is whole growing closed = record { even = closed ∙ whole.even; odd = growing ∙ whole.odd }

-- what counts of the closed log files stays what may
pub closed_still : (r mid : RuntimeState) (said : List Answer) → AreClosed r
    → mid.counted ≡ (beside_at_end (beside_of r) said).closed → mid.closed_at ≡ r.closed_at
    → r.stands.clock.epoch ≤ mid.stands.clock.epoch → AreClosed mid
closed_still r mid said is counted at later = elim (cases_Bool (snap_in said)) [
  | inl some ↦
      let zeros = counted ∙ beside_zeros (beside_of r) said some in
      record {
        workers = ap length zeros;
        counted = subst (AllByRecursion (λ (n : ℕ). n < 2 ^ 40)) (sym zeros)
            (all_replicate (λ (n : ℕ). n < 2 ^ 40) 8 0 (omega arith));
        before = omega (arith, is.before, at, later);
      }
  | inr none ↦
      let same = counted ∙ ap (λ (b : Beside). b.closed) (beside_kept (beside_of r) said none) in
      record {
        workers = ap length same ∙ is.workers;
        counted = subst (AllByRecursion (λ (n : ℕ). n < 2 ^ 40)) (sym same) is.counted;
        before = omega (arith, is.before, at, later);
      }
]

module _ {D : Type 0} {tells : D → Option (List ℕ)} {clock : D → ℕ} {image_at : D → ℕ → List ℕ → Type 0} {faults : D → ℕ}
    {seen : List (List Mark)} {lines : List KeeperLine} {said : List Answer} {old mid : RuntimeState}
    {before between : Vault D} (ready : CanKeep tells clock image_at old before) where
  -- Lines that were not refused leave what the next one needs.
  pub can_keep : RunsKeeper tells clock image_at faults seen lines said None old mid before between
      → CanKeep tells clock image_at mid between
  can_keep runs =
      let nothing = refused_nothing runs.failed runs.broken runs.damaged said runs.refusal_is in
      let up : mid.save.down ≡ None = nothing_there mid.save.down (runs.keeps.down ∙ ap is_some nothing.failed_is) in
      let sound : mid.store.sound ≡ true = runs.leaves.sound
      (λ has. in_none devices.Snaps (subst (λ l. Contains l devices.Snaps) nothing.broken_is has)) ready.sound in
      record {
        files = subst (λ s. length (closed_in s between) ≡ 8) (sym runs.leaves.side) (runs.leaves.over.many ∙ ready.files);
        workers = ap length runs.logs ∙ ready.workers;
        up = up;
        stored = runs.keeps.stands up;
        closed = closed_still old mid said ready.closed runs.leaves.counted runs.leaves.closed_at runs.later;
        most_pages = omega (arith, ready.most_pages, runs.leaves.room);
        sound = sound;
        snapshot = runs.leaves.snapshot (λ is. ready.snapshot) sound;
        durable = λ always. stand_keeper runs ready.closed.workers (ready.durable always);
      }

-- ---- behind a refusal

module _ {D : Type 0} {tells : D → Option (List ℕ)} {clock : D → ℕ} {image_at : D → ℕ → List ℕ → Type 0} {faults : D → ℕ}
    {seen : List (List Mark)} {lines : List KeeperLine} {said : List Answer} {end : End} {old mid : RuntimeState}
    {before between : Vault D}
    (runs : RunsKeeper tells clock image_at faults seen lines said (Some end) old mid before between)
    (line : KeeperLine) where
  beside_same : beside_at_end (beside_of old) (said ++ answers.Unrun ∷ []) ≡ beside_at_end (beside_of old) said
  beside_same = fold-append beside_after (beside_of old) said (answers.Unrun ∷ [])

  refused_same : list_any is_refusal (said ++ answers.Unrun ∷ []) ≡ list_any is_refusal said
  refused_same = any_append is_refusal said (answers.Unrun ∷ []) ∙ or_none (list_any is_refusal said)

  told_same : (failed : Option Saved) (broken : Option Device) (damaged : Option (Device × ℕ))
      → refusal_told failed broken damaged (said ++ answers.Unrun ∷ []) ≡ refusal_told failed broken damaged said
  told_same (Some s) broken damaged = refl
  told_same None (Some d) damaged = refl
  told_same None None (Some d) = refl
  told_same None None None = ap (λ b. where_memory b) (any_append wants_memory said (answers.Unrun ∷ [])
      ∙ or_none (list_any wants_memory said))

  no_snap_behind : (epoch count : ℕ) → Contains (said ++ answers.Unrun ∷ []) (answers.Snap epoch count)
      → Contains said (answers.Snap epoch count)
  no_snap_behind epoch count has = elim (Contains-append_cases said (answers.Unrun ∷ []) (answers.Snap epoch count) has) [
    | inl early ↦ early
    | inr late ↦ absurd (no_snap (answers.Unrun ∷ []) refl epoch count late)
  ]

  abbrev By : Beside → Saved → Type 0
  By = IsSavedBySeen (SeenAmong seen old.stands.clock.epoch mid.stands.clock.epoch)

  unrun_sees : (ran : Ran) (index : ℕ) (k : KeeperAt) (left : KeeperLine)
      → SavesSee ran index k (left ∷ []) (answers.Unrun ∷ []) index
  unrun_sees ran index k asks.Save = refl
  unrun_sees ran index k asks.Epoch = refl
  unrun_sees ran index k asks.Glean = refl
  unrun_sees ran index k asks.Drop = refl

  -- A line is left out.
  pub keeper_unrun : RunsKeeper tells clock image_at faults seen (lines ++ line ∷ []) (said ++ answers.Unrun ∷ [])
      (Some end) old mid before between
  keeper_unrun = record {
    stored = runs.stored;
    failed = runs.failed;
    gleans = runs.gleans;
    broken = runs.broken;
    damaged = runs.damaged;
    keeps = runs.keeps;
    by_lines = subst (AreSavedIn By (beside_of old) (said ++ answers.Unrun ∷ [])) (append-nil runs.stored)
        (saved_in_then By (beside_of old) said (answers.Unrun ∷ []) runs.stored [] runs.by_lines refl);
    by_failed = subst (λ b. AllByRecursion (By b) (option_to_list runs.failed)) (sym beside_same) runs.by_failed;
    by_place = record {
      by = λ k s at.
          let one = runs.by_place.by k s at in (
            one.0,
            one.1,
            subst (λ b. GoesBy old.stands.clock.epoch mid.stands.clock.epoch b one.0 s)
                (sym (save_unrun (beside_of old) said k)) one.2,
          );
      left = runs.by_place.left;
      all = runs.by_place.all;
    };
    gleaned = record {
      told = runs.gleaned.told;
      found = runs.gleaned.found;
      made = λ epoch count has. runs.gleaned.made epoch count (no_snap_behind epoch count has);
      kept = λ none up. runs.gleaned.kept (λ e c has.
          none e c (Contains-append_left said (answers.Unrun ∷ []) (answers.Snap e c) has)) up;
      damage = runs.gleaned.damage;
      undamaged = λ none. runs.gleaned.undamaged (λ has.
          none (Contains-append_left said (answers.Unrun ∷ []) answers.Damaged has));
      many = λ up. runs.gleaned.many up ∙ ap (λ (b : Beside). b.count) (sym beside_same);
    };
    leaves = record {
      room = runs.leaves.room;
      side = runs.leaves.side;
      closed_at = runs.leaves.closed_at;
      counted = runs.leaves.counted ∙ ap (λ (b : Beside). b.closed) (sym beside_same);
      grows = runs.leaves.grows;
      sound = runs.leaves.sound;
      snapshot = runs.leaves.snapshot;
      over = runs.leaves.over;
      quietly = runs.leaves.quietly;
      fails = runs.leaves.fails;
    };
    needs = record {
      found = runs.needs.found;
      made = λ epoch count has. runs.needs.made epoch count (no_snap_behind epoch count has);
      damage = runs.needs.damage;
      device = runs.needs.device;
    };
    rise = runs.rise;
    later = runs.later;
    stands = runs.stands;
    dropped = dropped_then said (answers.Unrun ∷ []) old.stands.drops mid.stands.drops mid.stands.drops runs.dropped
        (nothing_dropped (answers.Unrun ∷ []) mid.stands.drops mid.stands.drops refl refl);
    logs = runs.logs;
    is_down = runs.is_down;
    count = length-append said (answers.Unrun ∷ []) ∙ ap (λ n. n + 1) runs.count ∙ sym (length-append lines (line ∷ []));
    advances = advances_on said (answers.Unrun ∷ []) old.stands.clock.epoch mid.stands.clock.epoch mid.stands.clock.epoch
        runs.advances refl;
    at_end = fold-append keeper_after (keeper_on old false) said (answers.Unrun ∷ []) ∙ runs.at_end
        ∙ ap (λ b. record (keeper_on mid b) { pages = (beside_at_end (beside_of old) said).count }) (sym refused_same)
        ∙ ap (λ (b : Beside). record (keeper_on mid (list_any is_refusal (said ++ answers.Unrun ∷ []))) { pages = b.count })
        (sym beside_same);
    refused = runs.refused ∙ sym refused_same;
    refusal_is = runs.refusal_is ∙ sym (told_same runs.failed (first_device runs.broken) runs.damaged);
    told = runs.told ∙ sym (saves_on said (answers.Unrun ∷ []) ∙ append-nil _);
    caused = λ ran rests. caused_then ran lines (line ∷ []) said (answers.Unrun ∷ []) (keeper_on old false)
        (runs.caused ran rests)
        (subst (λ k. AnswersCaused ran k (line ∷ []) (answers.Unrun ∷ [])) (sym runs.at_end)
        (subst (λ b. AnswersCaused ran (record (keeper_on mid b) { pages = (beside_at_end (beside_of old) said).count })
        (line ∷ []) (answers.Unrun ∷ [])) runs.refused (refl, tt)));
    saw = λ ran index are. sees_then ran lines (line ∷ []) said (answers.Unrun ∷ []) index (index + length seen)
        (index + length seen) (keeper_on old false) (runs.saw ran index are)
        (unrun_sees ran (index + length seen) (answers_end (keeper_on old false) said) line);
    above = runs.above;
    tie_room = omega (arith, runs.tie_room, length-append lines (line ∷ []));
    cut_room = runs.cut_room;
  }

-- ---- a line more

none_more : (index : ℕ) → index ≡ index + 0
none_more index = omega arith

epoch_plain : (epoch : ℕ) → IsPlain (answers.Epoch epoch)
epoch_plain epoch = record {
  tells = record { none = refl; beside = λ b. refl };
  unsaved = refl;
  none_in = λ By b. refl;
  goes_on = refl;
  remembers = refl;
}

drop_plain : (dropped kept : ℕ) → IsPlain (answers.Drop dropped kept)
drop_plain dropped kept = record {
  tells = record { none = refl; beside = λ b. refl };
  unsaved = refl;
  none_in = λ By b. refl;
  goes_on = refl;
  remembers = refl;
}

limit_plain : IsPlain answers.Limit
limit_plain = record {
  tells = record { none = refl; beside = λ b. refl };
  unsaved = refl;
  none_in = λ By b. refl;
  goes_on = refl;
  remembers = refl;
}

module _ {D : Type 0} {tells : D → Option (List ℕ)} {clock : D → ℕ} {image_at : D → ℕ → List ℕ → Type 0} (faults : D → ℕ)
    (r : RuntimeState) (vault : Vault D) (ready : CanKeep tells clock image_at r vault) where
  epoch_line : (answer : Answer) {new : RuntimeState} → StepsEpoch answer r new
      → RunsKeeper tells clock image_at faults [] (asks.Epoch ∷ []) (answer ∷ []) None r new vault vault
  epoch_line (answers.Epoch epoch) {new} step =
      subst (λ n. RunsKeeper tells clock image_at faults [] (asks.Epoch ∷ []) (answers.Epoch epoch ∷ []) None r n vault vault)
      (sym step.2)
      (plain_line r vault ready asks.Epoch (answers.Epoch epoch) epoch r.stands.drops (epoch_plain epoch)
      (omega (arith, step.1))
      (step.1, refl) (nothing_dropped (answers.Epoch epoch ∷ []) r.stands.drops r.stands.drops refl refl)
      refl (λ ran. (step.0, step.1)) [] (λ ran index. none_more index)
      (place_none r.stands.clock.epoch epoch (beside_at_save (beside_of r) (answers.Epoch epoch ∷ []))
      (sequence_of r.save.newest)))
  epoch_line answers.Limit {new} step =
      subst (λ n. RunsKeeper tells clock image_at faults [] (asks.Epoch ∷ []) (answers.Limit ∷ []) None r n vault vault)
      (sym step.1)
      (plain_line r vault ready asks.Epoch answers.Limit r.stands.clock.epoch r.stands.drops limit_plain (omega arith) refl
      (nothing_dropped (answers.Limit ∷ []) r.stands.drops r.stands.drops refl refl) refl
      (λ ran. step.0) [] (λ ran index. none_more index) (place_none r.stands.clock.epoch r.stands.clock.epoch
      (beside_at_save (beside_of r) (answers.Limit ∷ [])) (sequence_of r.save.newest)))
  epoch_line _ {new} step = absurd step

  drop_line : (answer : Answer) {new : RuntimeState} → StepsDrop answer r new
      → RunsKeeper tells clock image_at faults [] (asks.Drop ∷ []) (answer ∷ []) None r new vault vault
  drop_line (answers.Drop dropped kept) {new} step =
      subst (λ n. RunsKeeper tells clock image_at faults [] (asks.Drop ∷ []) (answers.Drop dropped kept ∷ []) None r n
      vault vault) (sym step)
      (plain_line r vault ready asks.Drop (answers.Drop dropped kept) r.stands.clock.epoch
      (r.stands.drops ++ map counts_of (drops_told (answers.Drop dropped kept ∷ [])))
      (drop_plain dropped kept) (omega arith) refl refl refl (λ ran. tt) []
      (λ ran index. none_more index) (place_none r.stands.clock.epoch r.stands.clock.epoch
      (beside_at_save (beside_of r) (answers.Drop dropped kept ∷ [])) (sequence_of r.save.newest)))
  drop_line _ {new} step = absurd step

  one_line : (marks : List Mark) (line : KeeperLine) (answer : Answer) (refusal : Option End) {new : RuntimeState}
      {now : Vault D} → StepsLine tells clock image_at faults marks line answer refusal r new vault now
      → RunsKeeper tells clock image_at faults (seen_by line marks) (line ∷ []) (answer ∷ []) refusal r new vault now
  one_line marks asks.Epoch answer refusal {new} {now} step =
      subst (λ e. RunsKeeper tells clock image_at faults [] (asks.Epoch ∷ []) (answer ∷ []) e r new vault now) (sym step.2)
      (subst (λ v. RunsKeeper tells clock image_at faults [] (asks.Epoch ∷ []) (answer ∷ []) None r new vault v)
      (sym step.1) (epoch_line answer step.0))
  one_line marks asks.Save answer refusal {new} {now} step =
      subst (λ e. RunsKeeper tells clock image_at faults (marks ∷ []) (asks.Save ∷ []) (answer ∷ []) e r new vault now)
      (sym step.1) (save_line faults r vault ready marks answer step.0)
  one_line marks asks.Glean answer refusal step = glean_line faults r vault ready answer refusal step
  one_line marks asks.Drop answer refusal {new} {now} step =
      subst (λ e. RunsKeeper tells clock image_at faults [] (asks.Drop ∷ []) (answer ∷ []) e r new vault now) (sym step.2)
      (subst (λ v. RunsKeeper tells clock image_at faults [] (asks.Drop ∷ []) (answer ∷ []) None r new vault v)
      (sym step.1) (drop_line answer step.0))

module _ {D : Type 0} {tells : D → Option (List ℕ)} {clock : D → ℕ} {image_at : D → ℕ → List ℕ → Type 0} {faults : D → ℕ}
    {seen : List (List Mark)} {lines : List KeeperLine} {said : List Answer} {old mid : RuntimeState}
    {before between : Vault D} (ready : CanKeep tells clock image_at old before) where
  -- A line is answered, which saw these marks.
  pub keeper_step : (marks : List Mark) (refusal : Option End) (line : KeeperLine) (answer : Answer) (next : Option End)
      {new : RuntimeState} {now : Vault D}
      → RunsKeeper tells clock image_at faults seen lines said refusal old mid before between
      → StepsKeeper tells clock image_at faults marks refusal line answer next mid new between now
      → RunsKeeper tells clock image_at faults (seen ++ seen_unless refusal line marks) (lines ++ line ∷ [])
      (said ++ answer ∷ []) next old new before now
  keeper_step marks (Some end) line answer next {new} {now} runs step =
      let Runs : List (List Mark) → Answer → Option End → RuntimeState → Vault D → Type 0 = λ s a e n v.
      RunsKeeper tells clock image_at faults s (lines ++ line ∷ []) (said ++ a ∷ []) e old n before v in
      subst (λ a. Runs (seen ++ []) a next new now) (sym step.0)
      (subst (λ e. Runs (seen ++ []) answers.Unrun e new now) (sym step.1)
      (subst (λ n. Runs (seen ++ []) answers.Unrun (Some end) n now) (sym step.2)
      (subst (λ v. Runs (seen ++ []) answers.Unrun (Some end) mid v) (sym step.3)
      (subst (λ s. Runs s answers.Unrun (Some end) mid between) (sym (append-nil seen)) (keeper_unrun runs line)))))
  keeper_step marks None line answer next {new} {now} runs step =
      let can = can_keep ready runs in
      keeper_then can.sound runs (one_line faults mid between can marks line answer next step)

-- no line
pub keeper_begin : {D : Type 0} {tells : D → Option (List ℕ)} {clock : D → ℕ} {image_at : D → ℕ → List ℕ → Type 0}
    {faults : D → ℕ} (r : RuntimeState) (vault : Vault D) → CanKeep tells clock image_at r vault
    → RunsKeeper tells clock image_at faults [] [] [] None r r vault vault
keeper_begin {tells = tells} {clock} {image_at} {faults} r vault ready = record {
  stored = [];
  failed = None;
  gleans = [];
  broken = [];
  damaged = None;
  keeps = keeps_none r vault ready.up ready.stored;
  by_lines = refl;
  by_failed = tt;
  by_place = place_none r.stands.clock.epoch r.stands.clock.epoch (beside_at_save (beside_of r) [])
      (sequence_of r.save.newest);
  gleaned = record {
    told = refl;
    found = λ what has. absurd (in_none what has);
    made = λ epoch count has. absurd (in_none (answers.Snap epoch count) has);
    kept = λ none up. (refl, refl);
    damage = λ device at no. absurd (let bad = no in cc);
    undamaged = λ none. refl;
    many = λ up. refl;
  };
  leaves = record {
    room = refl;
    side = refl;
    closed_at = refl;
    counted = refl;
    grows = ([], sym (append-nil r.store.pages));
    sound = λ fine up. up;
    snapshot = λ has up. has up;
    over = record {
      growing = refl;
      cuts = refl;
      front = λ front within begins. runs_none vault.snaps (IsFront front);
      told = refl;
      many = refl;
      reads = λ worker was is at there.
          subst (OnlyReads tells clock image_at faults was) (same_Some was is (sym at ∙ there)) (reads_none was);
    };
    quietly = record {
      snaps = λ fine. refl;
      files = λ worker was is at there fine. ap faults (same_Some is was (sym there ∙ at));
    };
    fails = λ device no. absurd (in_none device no);
  };
  needs = record {
    found = λ what has. absurd (in_none what has);
    made = λ epoch count has. absurd (in_none (answers.Snap epoch count) has);
    damage = λ no. absurd (let bad = no in cc);
    device = λ device has. absurd (in_none device has);
  };
  rise = λ from going low. (tt, low);
  later = omega arith;
  stands = refl;
  dropped = nothing_dropped [] r.stands.drops r.stands.drops refl refl;
  logs = refl;
  is_down = refl;
  count = refl;
  advances = refl;
  at_end = refl;
  refused = refl;
  refusal_is = refl;
  told = refl;
  caused = λ ran rests. tt;
  saw = λ ran index are. none_more index;
  above = λ low. low;
  tie_room = omega arith;
  cut_room = refl;
}

-- ---- the last sequence

-- whether a save met the last sequence, with one line more
pub limited_on : (lines : List KeeperLine) (said : List Answer) (line : KeeperLine) (answer : Answer)
    → length said ≡ length lines
    → save_limited (lines ++ line ∷ []) (said ++ answer ∷ []) ≡ (save_limited lines said || is_limited line answer)
limited_on [] [] asks.Save answers.Limit many = refl
limited_on [] [] asks.Save (answers.Epoch e) many = refl
limited_on [] [] asks.Save (answers.Save e) many = refl
limited_on [] [] asks.Save (answers.Snap e n) many = refl
limited_on [] [] asks.Save answers.Empty many = refl
limited_on [] [] asks.Save answers.SnapFull many = refl
limited_on [] [] asks.Save answers.Deep many = refl
limited_on [] [] asks.Save (answers.Drop d k) many = refl
limited_on [] [] asks.Save answers.Device many = refl
limited_on [] [] asks.Save answers.Damaged many = refl
limited_on [] [] asks.Save answers.Memory many = refl
limited_on [] [] asks.Save answers.Unrun many = refl
limited_on [] [] asks.Epoch answer many = refl
limited_on [] [] asks.Glean answer many = refl
limited_on [] [] asks.Drop answer many = refl
limited_on [] (a ∷ said) line answer many = absurd (omega (arith, many))
limited_on (l ∷ lines) [] line answer many = absurd (omega (arith, many))
limited_on (asks.Save ∷ lines) (answers.Limit ∷ said) line answer many = refl
limited_on (l ∷ lines) (a ∷ said) line answer many = limited_on lines said line answer (omega (arith, many))
