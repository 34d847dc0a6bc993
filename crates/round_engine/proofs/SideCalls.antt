-- What calls on the words and on the vault come to, as lines of the maintenance thread beside running workers.
use Rattle.std.proofs.Common.{◌≡◌, ◌∙◌, ◌+◌, ◌/◌, ◌^◌, sym, ap, subst, refl, ℕ, List, []}
use Rattle.std.proofs.Common.{length, None, Option, Some, arith, true}
use Rattle.std.specs.Prelude.{is_some, slice_get, Result}
use Rattle.lists.specs.declared.memory.OrMemory.{OrMemory}
use Rattle.lists.specs.Elements.{at_below}
use Rattle.lists.specs.Fronts.{IsFront, front_refl}
use Rattle.outside.specs.declared.device.Device.{Device}
use Rattle.log_writer.specs.Counted.{AlwaysTells}
use Rattle.log_writer.specs.declared.save.SaveFault.{SaveFault}
use Rattle.log_writer.specs.declared.vault.Vault.{Vault}
use Rattle.serial_model.specs.declared.decl.Decl.{Decl}
use Rattle.wire_form.specs.declared.clock.Mark.{Mark}
use Rattle.wire_form.specs.declared.page.Page.{Page}
use Rattle.snapshot_store.specs.Content.{words_of}
use Rattle.engine_pages.specs.declared.layout.Layout.{Layout}
use Rattle.engine_pages.specs.declared.view.Role.TheVariants.{Keeper}
use Rattle.engine_pages.specs.declared.view.View.{View}
use Rattle.page_drops.specs.declared.calls.Dropped.{Dropped}
use Rattle.script_grammar.specs.declared.lines.KeeperLine.{KeeperLine}
use Rattle.script_grammar.specs.declared.lines.KeeperLine.TheVariants as asks
use Rattle.gleaner.specs.declared.gleaning.GleanFault.{GleanFault}
use Rattle.gleaner.specs.declared.gleaning.Gleaned.{Gleaned}
use Rattle.tx_script.specs.declared.answer.Answer.{Answer}
use Rattle.tx_script.specs.declared.answer.Answer.TheVariants as answers
use Rattle.worker_logs.specs.Saves.{AreDurable, SavesMarks}
use Rattle.shared_rounds.specs.Below.{AreClaimed, HasAdvanced, HasMetAll, HasSeenEpoch, IsLastEpoch}
use Rattle.shared_rounds.specs.Beside.{Went, went_none, went_then}
use Rattle.shared_rounds.specs.Drops.{HasDropped}
use Rattle.shared_rounds.specs.Published.{HasPages}
use Rattle.round_engine.specs.Gleans.{CanPublish, Gleans}
use Rattle.round_engine.specs.Keeping.{at_epoch, glean_answer, glean_refusal, refusal_beside, save_answer, save_refusal}
use Rattle.round_engine.specs.Keeping.{StepsEpoch, with_drops}
use Rattle.round_engine.specs.SideLines.{beside_in, CanKeepBeside, HasSeenMarks, lent_at, SavesBeside, StepsBeside, stands_in_view}
use Rattle.round_engine.specs.Standing.{RuntimeState}
use Rattle.round_engine.specs.declared.keeper_side.Lent.{Lent}
use Rattle.round_engine.specs.declared.report.End.{End}
use Rattle.round_engine.proofs.Numbered.{growing_at}
use Rattle.round_engine.proofs.SideSteps.{claimed_on, free_on, lent_dropped, lent_later, lent_published, lent_same, past_stays, saw_marks, saw_none, went_epoch}
use Rattle.round_engine.proofs.SideSteps.{went_met, went_pages}

-- ---- the epoch

module _ (v w : View) (keeper : v.role ≡ Keeper) where
  module _ (epoch : ℕ) (a : HasAdvanced epoch v w) where
    epoch_now : w.epoch ≡ epoch
    epoch_now = ap (λ (x : View). x.epoch) a.is ∙ ap (λ n. n + 1) a.seen.now ∙ sym a.next

    -- the epoch that comes is answered
    pub advance_steps : (r : RuntimeState)
        → StepsEpoch (answers.Epoch epoch) (at_epoch r v.epoch) (at_epoch r w.epoch)
    advance_steps r = (a.low, a.next, ap (at_epoch r) epoch_now)

    -- no page was published
    pub advance_pages : w.pages ≡ v.pages
    advance_pages = ap (λ (x : View). x.pages) a.is ∙ a.seen.pages

    -- and none was dropped
    pub advance_drops : w.drops ≡ v.drops
    advance_drops = ap (λ (x : View). x.drops) a.is ∙ a.seen.drops

    -- one epoch more is all that was done
    went_on : Went a.loaded w
    went_on = record {
      role = ap (λ (x : View). x.role) a.is;
      layout = ap (λ (x : View). x.layout) a.is;
      made = ap (λ (x : View). x.made) a.is;
      parked = ap (λ (x : View). x.parked) a.is;
      past = λ some. ap (λ (x : View). x.past) a.is;
      seat = ap (λ (x : View). x.seat) a.is;
      mine = ap (λ (x : View). x.mine) a.is;
      draws = ap (λ (x : View). x.draws) a.is;
      refused = ap (λ (x : View). x.refused) a.is;
      drops = subst (IsFront a.loaded.drops) (sym (ap (λ (x : View). x.drops) a.is)) (front_refl a.loaded.drops);
      touched = λ same. ap (λ (x : View). x.touched) a.is;
      blamed = ap (λ (x : View). x.blamed) a.is;
      seen = record {
        history = subst (IsFront a.loaded.history) (sym (ap (λ (x : View). x.history) a.is)) (front_refl a.loaded.history);
        decided = subst (IsFront a.loaded.decided) (sym (ap (λ (x : View). x.decided) a.is)) (front_refl a.loaded.decided);
      };
      epoch = omega (arith, ap (λ (x : View). x.epoch) a.is);
      met = subst (IsFront a.loaded.met) (sym (ap (λ (x : View). x.met) a.is)) (front_refl a.loaded.met);
      claimed = claimed_on a.loaded w (ap (λ (x : View). x.layout) a.is) (ap (λ (x : View). x.pages) a.is)
          (ap (λ (x : View). x.fills) a.is);
      free = free_on a.loaded w (ap (λ (x : View). x.grip) a.is) (ap (λ (x : View). x.ways) a.is)
          (ap (λ (x : View). x.took) a.is) (ap (λ (x : View). x.shuts) a.is) (ap (λ (x : View). x.heads) a.is);
    }

    pub advance_went : Went v w
    advance_went = went_then v a.loaded w (went_epoch v a.loaded v.epoch keeper a.seen) went_on

    pub advance_saw : HasSeenMarks [] v w
    advance_saw = saw_none v w (ap (λ (x : View). x.met) a.is ∙ a.seen.met)

  module _ (clock : ℕ) (is : IsLastEpoch clock v w) where
    at : w.epoch ≡ v.epoch
    at = ap (λ (x : View). x.epoch) is.timed.is ∙ is.timed.keepers keeper

    -- the last one is told
    pub limit_steps : (r : RuntimeState) → StepsEpoch answers.Limit (at_epoch r v.epoch) (at_epoch r w.epoch)
    limit_steps r = (sym (is.timed.keepers keeper) ∙ is.last, ap (at_epoch r) at)

    pub limit_pages : w.pages ≡ v.pages
    limit_pages = ap (λ (x : View). x.pages) is.timed.is

    pub limit_drops : w.drops ≡ v.drops
    limit_drops = ap (λ (x : View). x.drops) is.timed.is

    pub limit_went : Went v w
    limit_went = record {
      role = ap (λ (x : View). x.role) is.timed.is;
      layout = ap (λ (x : View). x.layout) is.timed.is;
      made = ap (λ (x : View). x.made) is.timed.is;
      parked = ap (λ (x : View). x.parked) is.timed.is;
      past = λ some. ap (λ (x : View). x.past) is.timed.is
          ∙ past_stays v.role v.made v.past (clock / 2 ^ 40) keeper some;
      seat = ap (λ (x : View). x.seat) is.timed.is;
      mine = ap (λ (x : View). x.mine) is.timed.is;
      draws = ap (λ (x : View). x.draws) is.timed.is;
      refused = ap (λ (x : View). x.refused) is.timed.is;
      drops = subst (IsFront v.drops) (sym (ap (λ (x : View). x.drops) is.timed.is)) (front_refl v.drops);
      touched = λ same. ap (λ (x : View). x.touched) is.timed.is;
      blamed = ap (λ (x : View). x.blamed) is.timed.is;
      seen = record { history = is.timed.history; decided = is.timed.decided };
      epoch = omega (arith, at);
      met = subst (IsFront v.met) (sym (ap (λ (x : View). x.met) is.timed.is)) (front_refl v.met);
      claimed = claimed_on v w (ap (λ (x : View). x.layout) is.timed.is) (ap (λ (x : View). x.pages) is.timed.is)
          (ap (λ (x : View). x.fills) is.timed.is);
      free = free_on v w (ap (λ (x : View). x.grip) is.timed.is) (ap (λ (x : View). x.ways) is.timed.is)
          (ap (λ (x : View). x.took) is.timed.is) (ap (λ (x : View). x.shuts) is.timed.is)
          (ap (λ (x : View). x.heads) is.timed.is);
    }

    pub limit_saw : HasSeenMarks [] v w
    limit_saw = saw_none v w (ap (λ (x : View). x.met) is.timed.is)

-- ---- a save

-- What is saved is durable: the log files that grow are with their workers, whose marks count no more than they
-- flushed.
pub durable_apart : {D : Type 0} {tells : D → Option (List ℕ)} {clock : D → ℕ} {image_at : D → ℕ → List ℕ → Type 0}
    (decls : List Decl) (lent : Lent) (v : View) (vault : Vault D) (marks : List Mark)
    → CanKeepBeside tells clock image_at decls lent v vault → AlwaysTells tells
    → AreDurable clock image_at marks (beside_in lent) vault
durable_apart {clock = clock} {image_at = image_at} decls lent v vault marks ready always = record {
  growing = λ w m bank at there.
      let none : slice_get [] w ≡ Some bank = subst (λ l. slice_get l w ≡ Some bank) ready.apart
      (sym (growing_at lent.side vault w) ∙ there) in
      absurd (omega (arith, at_below [] w bank none));
  closed = (ready.can.durable always).closed;
}

module _ {D : Type 0} (tells : D → Option (List ℕ)) (clock : D → ℕ) (image_at : D → ℕ → List ℕ → Type 0) (faults : D → ℕ)
    (decls : List Decl) (old new : Lent) (v u w : View) (before now : Vault D) (epoch : ℕ) (marks : List Mark) where
  -- A save by the clock's epoch and the marks, as each was when it was loaded.
  pub save_steps : v.role ≡ Keeper → HasSeenEpoch epoch v u → HasMetAll marks u w → length marks ≡ 8
      → (result : Result ℕ SaveFault) (answer : Answer) → answer ≡ save_answer result
      → SavesMarks tells clock image_at faults epoch marks (beside_in old) old.save.now new.save.now before now result
      → lent_at decls new v ≡ record (lent_at decls old v) { save = new.save.now }
      → SavesBeside tells clock image_at faults decls answer old new v w before now
  save_steps keeper timed met eight result answer answer_is saves alone =
      let same : epoch ≡ v.epoch = timed.keepers keeper in
      record {
        marks = marks;
        steps = record {
          result = result;
          saves = subst (λ e. SavesMarks tells clock image_at faults e marks (beside_in old) old.save.now new.save.now before
              now result) same saves;
          answer_is = answer_is;
          alone = lent_same decls new v w (ap (λ (x : View). x.epoch) met.is ∙ timed.now ∙ same)
              (ap (λ (x : View). x.layout) met.is ∙ timed.layout) (ap (λ (x : View). x.pages) met.is ∙ timed.pages)
              (ap (λ (x : View). x.drops) met.is ∙ timed.drops) ∙ alone;
        };
        saw = saw_marks marks v u w keeper timed.role timed.parked eight timed.met met;
        went = went_then v u w (went_epoch v u epoch keeper timed) (went_met u w marks met);
      }

-- ---- lines

module _ {D : Type 0} (tells : D → Option (List ℕ)) (clock : D → ℕ) (image_at : D → ℕ → List ℕ → Type 0) (faults : D → ℕ)
    (decls : List Decl) (old new : Lent) (v w : View) (before now : Vault D) where
  -- an advance of the epoch, on what is lent as it was
  pub epoch_line : (answer : Answer)
      → ((r : RuntimeState) → StepsEpoch answer (at_epoch r v.epoch) (at_epoch r w.epoch)) → w.pages ≡ v.pages
      → w.drops ≡ v.drops → HasSeenMarks [] v w → Went v w
      → StepsBeside tells clock image_at faults decls None asks.Epoch answer None old old v w before before
  epoch_line answer steps pages drops saw went = record {
    marks = [];
    steps = (
      subst (StepsEpoch answer (lent_at decls old v)) (lent_later decls old v w went.layout pages drops)
          (steps (lent_at decls old v)),
      refl,
      refl,
    );
    saw = saw;
    dropped = tt;
    went = went;
  }

  -- a save
  pub save_line : (answer : Answer) (refusal : Option End) → refusal ≡ save_refusal answer
      → SavesBeside tells clock image_at faults decls answer old new v w before now
      → StepsBeside tells clock image_at faults decls None asks.Save answer refusal old new v w before now
  save_line answer refusal is saves = record {
    marks = saves.marks;
    steps = (saves.steps, is);
    saw = saves.saw;
    dropped = tt;
    went = saves.went;
  }

  -- a glean
  pub glean_line : (result : Result Gleaned (OrMemory GleanFault)) (beside : Option Device) (answer : Answer)
      (refusal : Option End) → answer ≡ glean_answer result → refusal ≡ refusal_beside beside (glean_refusal result)
      → Gleans tells clock image_at faults (lent_at decls old v) (lent_at decls new w) before now result beside
      → HasSeenMarks [] v w → Went v w
      → StepsBeside tells clock image_at faults decls None asks.Glean answer refusal old new v w before now
  glean_line result beside answer refusal answer_is refusal_is gleans saw went = record {
    marks = [];
    steps = record {
      result = result;
      beside = beside;
      gleans = gleans;
      answer_is = answer_is;
      refusal_is = refusal_is;
    };
    saw = saw;
    dropped = tt;
    went = went;
  }

  -- a drop, on what is lent as it was: what is answered is what the pass counted
  pub drop_line : (tally : Dropped) (answer : Answer) (refusal : Option End)
      → answer ≡ answers.Drop tally.dropped tally.kept → refusal ≡ None
      → HasDropped (words_of old.store.now.pages) tally v w
      → StepsBeside tells clock image_at faults decls None asks.Drop answer refusal old old v w before before
  drop_line tally answer refusal answer_is refusal_is drops =
      subst (λ a. StepsBeside tells clock image_at faults decls None asks.Drop a refusal old old v w before before)
      (sym answer_is) (record {
        marks = [];
        steps = (
          sym (ap (with_drops (lent_at decls old v)) (sym drops.drops)
              ∙ lent_dropped decls old v w drops.epoch drops.went.layout drops.pages),
          refl,
          refusal_is,
        );
        saw = saw_none v w drops.met;
        dropped = (tally, refl, refl, drops);
        went = drops.went;
      })

  -- a line that isn't run, behind a refusal
  pub left_line : (refusal : Option End) (line : KeeperLine) → is_some refusal ≡ true
      → StepsBeside tells clock image_at faults decls refusal line answers.Unrun refusal old old v v before before
  left_line None line is = absurd cc
  left_line (Some end) line is = record {
    marks = [];
    steps = (refl, refl, refl, refl);
    saw = saw_none v v refl;
    dropped = tt;
    went = went_none v;
  }

  -- one that is run, since nothing was refused
  pub run_line : (first : Option End) (line : KeeperLine) (answer : Answer) (refusal : Option End) → first ≡ None
      → StepsBeside tells clock image_at faults decls None line answer refusal old new v w before now
      → StepsBeside tells clock image_at faults decls first line answer refusal old new v w before now
  run_line first line answer refusal none steps =
      subst (λ e. StepsBeside tells clock image_at faults decls e line answer refusal old new v w before now) (sym none) steps

-- ---- a glean

-- what may be published to the engine may be so behind the load of the clock
pub can_beside : (decls : List Decl) (v u : View) (pages : List Page) → v.role ≡ Keeper → (epoch : ℕ)
    → HasSeenEpoch epoch v u → v.layout.decls ≡ decls → CanPublish pages (stands_in_view decls v)
    → CanPublish pages (stands_in_view u.layout.decls u)
can_beside decls v u pages keeper epoch timed are can = record {
  front = subst (λ known. IsFront known (words_of pages)) (sym timed.pages) can.front;
  contents = can.contents;
  stands = can.stands;
  decls = can.decls ∙ sym are ∙ sym (ap (λ (x : Layout). x.decls) timed.layout);
  room = omega (arith, can.room, ap (λ (x : Layout). x.resident) timed.layout);
}

module _ {D : Type 0} (tells : D → Option (List ℕ)) (clock : D → ℕ) (image_at : D → ℕ → List ℕ → Type 0) (faults : D → ℕ)
    (decls : List Decl) (old new : Lent) (v u w : View) (before now : Vault D) (keeper : v.role ≡ Keeper) (epoch : ℕ)
    (timed : HasSeenEpoch epoch v u) (pages : List (List ℕ)) (is : HasPages pages u w) where
  -- behind the load of the clock, which told no later epoch, and with what was published
  pub glean_steps : (result : Result Gleaned (OrMemory GleanFault)) (beside : Option Device)
      → Gleans tells clock image_at faults (lent_at decls old v)
      (record (lent_at decls new v) { stands = record (stands_in_view decls v) { pages = w.pages } }) before now result beside
      → Gleans tells clock image_at faults (lent_at decls old v) (lent_at decls new w) before now result beside
  glean_steps result beside gleans =
      subst (λ r. Gleans tells clock image_at faults (lent_at decls old v) r before now result beside)
      (lent_published decls new v w (ap (λ (x : View). x.epoch) is ∙ timed.now ∙ timed.keepers keeper)
      (ap (λ (x : View). x.layout) is ∙ timed.layout) (ap (λ (x : View). x.drops) is ∙ timed.drops)) gleans

  pub glean_went : AreClaimed w → Went v w
  glean_went claimed = went_then v u w (went_epoch v u epoch keeper timed) (went_pages u w pages is claimed)

  pub glean_saw : HasSeenMarks [] v w
  glean_saw = saw_none v w (ap (λ (x : View). x.met) is ∙ timed.met)
