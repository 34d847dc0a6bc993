-- Lines of the workers and of the maintenance thread, which ran beside each other, as one step of a runtime and of a
-- vault.
use Rattle.std.proofs.Common.{◌≡◌, ◌∙◌, ◌++◌, sym, ap, subst, refl, ℕ, Bool, false, List, [], ◌∷◌, length, Option}
use Rattle.std.proofs.Common.{arith}
use Rattle.std.specs.Prelude.{replicate}
use Rattle.std.proofs.lemmas.List.{length-map}
use Rattle.log_writer.specs.declared.vault.Vault.{Vault}
use Rattle.serial_model.specs.declared.decl.Decl.{Decl}
use Rattle.script_grammar.specs.Script.{Round, keeper_lines}
use Rattle.engine_pages.specs.declared.view.Dropped.{Dropped as Counts}
use Rattle.engine_pages.specs.declared.view.Met.{Met}
use Rattle.engine_pages.specs.declared.view.View.{View}
use Rattle.wire_form.specs.declared.clock.Mark.{Mark}
use Rattle.tx_script.specs.declared.answer.Answer.{Answer}
use Rattle.worker_logs.specs.Logs.{LogState, fresh_log}
use Rattle.worker_logs.specs.declared.savepoints.Side.{Side}
use Rattle.worker_logs.specs.declared.savepoints.Side.TheVariants.{Even, Odd}
use Rattle.shared_rounds.specs.Beside.{BeginsBeside, BesideRan}
use Rattle.shared_rounds.specs.SharedState.{SharedState}
use Rattle.shared_rounds.specs.declared.ends.WorkersRan.{WorkersRan}
use Rattle.round_engine.specs.Histories.{KeepsHistory}
use Rattle.round_engine.specs.Keeping.{RunsKeeper}
use Rattle.round_engine.specs.Lines.{standing}
use Rattle.round_engine.specs.Phases.{RunsLines, as_begun}
use Rattle.round_engine.specs.Shares.{Share}
use Rattle.round_engine.specs.SideLines.{all_met, AllMetAt, HasRunBeside, lent_at, stands_in_view}
use Rattle.round_engine.specs.Sides.{SameButGrowing, closed_in, growing_in}
use Rattle.round_engine.specs.Standing.{RuntimeState, Standing}
use Rattle.round_engine.specs.Together.{RunsTogether}
use Rattle.round_engine.specs.Workers.{RunsWorkers}
use Rattle.round_engine.specs.declared.keeper.KeeperEnd.{KeeperEnd}
use Rattle.round_engine.specs.declared.keeper_side.Lent.{Lent}
use Rattle.round_engine.proofs.SharesRun.{same_decls}
use Rattle.round_engine.proofs.SideBack.{keeper_back, with_rest}
use Rattle.round_engine.proofs.SideSeen.{AllLong, before_of, met_eights, round_back, round_places, stood_seen}

-- ---- the vault

-- a vault with the growing log files of another one
abbrev pub with_growing : {D : Type 0} → Side → Vault D → Vault D → Vault D
with_growing Even vault other = record vault { even = other.even }
with_growing Odd vault other = record vault { odd = other.odd }

module _ {D : Type 0} where
  closed_with : (side : Side) (vault other : Vault D)
      → closed_in side (with_growing side vault other) ≡ closed_in side vault
  closed_with Even vault other = refl
  closed_with Odd vault other = refl

  growing_with : (side : Side) (vault other : Vault D)
      → growing_in side (with_growing side vault other) ≡ growing_in side other
  growing_with Even vault other = refl
  growing_with Odd vault other = refl

  -- what was lent stands in it
  beside_with : (side : Side) (before lent other : Vault D) → SameButGrowing side before lent
      → SameButGrowing side before (with_growing side lent other)
  beside_with Even before lent other same = record {
    save = same.save;
    snaps = same.snaps;
    ties = same.ties;
    cuts = same.cuts;
    closed = same.closed;
  }
  beside_with Odd before lent other same = record {
    save = same.save;
    snaps = same.snaps;
    ties = same.ties;
    cuts = same.cuts;
    closed = same.closed;
  }

-- ---- the places of marks

long_places : (v : View) (seen : List (List Mark)) (places : List (List ℕ)) → AllMetAt v seen places → AllLong places
long_places v [] [] all = tt
long_places v [] (p ∷ places) all = absurd all
long_places v (m ∷ seen) [] all = absurd all
long_places v (m ∷ seen) (p ∷ places) all = (all.0.count, long_places v seen places all.1)

-- ---- the engine

-- what the pass of the maintenance thread knew of the engine as the lines began
pub begun_so : (s : Standing) (shared : SharedState) (v : View) (decls : List Decl) → s ≡ standing s.ended shared
    → BeginsBeside shared v → v.layout.decls ≡ decls
    → (decls ≡ s.decls) × (v.epoch ≡ s.clock.epoch) × (v.layout.slots ≡ s.slots) × (v.pages ≡ s.pages)
    × (v.layout.resident ≡ s.resident) × (v.drops ≡ s.drops)
begun_so s shared v decls is begins are = (
  sym are ∙ begins.decls ∙ sym (ap (λ (x : Standing). x.decls) is),
  begins.epoch ∙ sym (ap (λ (x : Standing). x.clock.epoch) is),
  begins.slots ∙ sym (ap (λ (x : Standing). x.slots) is),
  begins.pages ∙ sym (ap (λ (x : Standing). x.pages) is),
  begins.resident ∙ sym (ap (λ (x : Standing). x.resident) is),
  begins.drops ∙ sym (ap (λ (x : Standing). x.drops) is),
)

-- a standing with these parts, which are its own
abbrev pub with_parts : Standing → List Decl → ℕ → ℕ → List (List ℕ) → ℕ → List Counts → Standing
with_parts t decls epoch slots pages resident drops = record t {
  decls = decls;
  clock = record t.clock { epoch = epoch };
  slots = slots;
  pages = pages;
  resident = resident;
  drops = drops;
}

parts_same : (t : Standing) (decls : List Decl) (epoch slots : ℕ) (pages : List (List ℕ)) (resident : ℕ)
    (drops : List Counts) (ds : List Decl) (e n : ℕ) (ps : List (List ℕ)) (most : ℕ) (all : List Counts)
    → decls ≡ ds → epoch ≡ e → slots ≡ n → pages ≡ ps → resident ≡ most → drops ≡ all
    → with_parts t decls epoch slots pages resident drops ≡ with_parts t ds e n ps most all
parts_same t decls epoch slots pages resident drops ds e n ps most all a b c d f h =
    ap (λ x. with_parts t x epoch slots pages resident drops) a
    ∙ ap (λ x. with_parts t ds x slots pages resident drops) b ∙ ap (λ x. with_parts t ds e x pages resident drops) c
    ∙ ap (λ x. with_parts t ds e n x resident drops) d ∙ ap (λ x. with_parts t ds e n ps x drops) f
    ∙ ap (λ x. with_parts t ds e n ps most x) h

-- what is lent of a runtime, as it is known on this view, with nothing else
abbrev pub bare : RuntimeState → List Decl → View → RuntimeState
bare r decls v = record r {
  stands = stands_in_view decls v;
  logs = replicate 8 (fresh_log 0);
  down = false;
}

module _ {D : Type 0} {tells : D → Option (List ℕ)} {clock : D → ℕ} {image_at : D → ℕ → List ℕ → Type 0}
    {faults : D → ℕ} {tries : ℕ} {round : Round} (r new : RuntimeState) (lent left : Lent)
    (before apart behind now : Vault D) (said : List Answer) (end : KeeperEnd) (ran : WorkersRan)
    -- what is lent is the runtime's, as the lines begin and behind them, and nothing else of it changes but the engine
    -- and the logs
    (lent_is : (decls : List Decl) (v : View) → lent_at decls lent v ≡ bare r decls v)
    (left_is : (decls : List Decl) (v : View) → lent_at decls left v ≡ bare new decls v) (down_is : new.down ≡ r.down)
    (lent_out : SameButGrowing r.side before apart) (back : SameButGrowing r.side behind now)
    (history : KeepsHistory round ran.outcomes r.stands new.stands)
    (together : RunsTogether tells clock image_at faults
    (λ v w. HasRunBeside tells clock image_at faults round lent left apart behind said end v w) tries round r.stands
    new.stands r.logs new.logs (growing_in r.side before) (growing_in r.side now) ran) where
  abbrev t : Standing
  t = new.stands

  abbrev b : BesideRan (λ v w. HasRunBeside tells clock image_at faults round lent left apart behind said end v w)
      together.marks together.was together.now
  b = together.beside

  abbrev v : View
  v = b.from

  abbrev w : View
  w = b.to

  abbrev decls : List Decl
  decls = v.layout.decls

  -- ---- the engine

  lines_ran : RunsWorkers tells clock image_at faults tries round r.stands t ran.outcomes ran.ends.items together.marks
      together.readied r.logs new.logs (growing_in r.side before) (growing_in r.side now)
  lines_ran = together.lines.come

  begun : (decls ≡ r.stands.decls) × (v.epoch ≡ r.stands.clock.epoch) × (v.layout.slots ≡ r.stands.slots)
      × (v.pages ≡ r.stands.pages) × (v.layout.resident ≡ r.stands.resident) × (v.drops ≡ r.stands.drops)
  begun = begun_so r.stands together.was v decls together.was_is b.begins refl

  decls_same : decls ≡ t.decls
  decls_same = begun.0 ∙ sym (same_decls lines_ran.over.runs)

  slots_same : v.layout.slots ≡ t.slots
  slots_same = begun.2 ∙ sym (ap (λ (x : Standing). x.slots) lines_ran.over.runs.only)

  resident_same : v.layout.resident ≡ t.resident
  resident_same = begun.4 ∙ sym (ap (λ (x : Standing). x.resident) lines_ran.over.runs.only)

  begun_same : with_parts t decls v.epoch v.layout.slots v.pages v.layout.resident v.drops ≡ as_begun r.stands t
  begun_same = parts_same t decls v.epoch v.layout.slots v.pages v.layout.resident v.drops t.decls r.stands.clock.epoch
      t.slots r.stands.pages t.resident r.stands.drops decls_same begun.1 slots_same begun.3 resident_same begun.5

  ended_same : with_parts t decls w.epoch w.layout.slots w.pages w.layout.resident w.drops ≡ t
  ended_same = parts_same t decls w.epoch w.layout.slots w.pages w.layout.resident w.drops t.decls t.clock.epoch t.slots
      t.pages t.resident t.drops decls_same (sym b.epoch ∙ sym (ap (λ (x : Standing). x.clock.epoch) together.now_is))
      (ap (λ x. x.slots) b.went.layout ∙ slots_same) (sym b.pages ∙ sym (ap (λ
      (x : Standing). x.pages) together.now_is))
      (ap (λ x. x.resident) b.went.layout ∙ resident_same)
      (sym b.drops ∙ sym (ap (λ (x : Standing). x.drops) together.now_is))

  -- ---- the vault

  abbrev between : Vault D
  between = with_growing r.side apart now

  abbrev whole : Vault D
  whole = record apart { even = between.even; odd = between.odd }

  abbrev after : Vault D
  after = record behind { even = now.even; odd = now.odd }

  whole_is : whole ≡ between
  whole_is = by_side r.side
    where
      by_side : (side : Side) → record apart {
        even = (with_growing side apart now).even;
        odd = (with_growing side apart now).odd;
      } ≡ with_growing side apart now
      by_side Even = refl
      by_side Odd = refl

  after_is : after ≡ now
  after_is = sym (ap (λ x. let a : Vault D = record now { save = x } in a) back.save
      ∙ ap (λ x. let a : Vault D = record now { save = behind.save; snaps = x } in a) back.snaps
      ∙ ap (λ x. let a : Vault D = record now { save = behind.save; snaps = behind.snaps; ties = x } in a) back.ties
      ∙ ap (λ x. let a : Vault D = record now {
        save = behind.save;
        snaps = behind.snaps;
        ties = behind.ties;
        cuts = x;
      } in a) back.cuts)

  -- ---- the maintenance thread's lines

  keeper_so : RunsKeeper tells clock image_at faults b.did_so.runs.seen (keeper_lines round) said end.refusal
      (record r { stands = as_begun r.stands t; logs = new.logs }) new between now
  keeper_so =
      let runs = subst (λ x. RunsKeeper tells clock image_at faults b.did_so.runs.seen
      (keeper_lines round) said end.refusal
      x (bare new decls w) apart behind) (lent_is decls v)
      (subst (λ x. RunsKeeper tells clock image_at faults b.did_so.runs.seen (keeper_lines round) said end.refusal
      (lent_at decls lent v) x apart behind) (left_is decls w) b.did_so.runs.runs) in
      let made = keeper_back tells clock image_at faults (bare r decls v)
      (bare new decls w) apart behind t new.logs r.down
      between now (ap (closed_in r.side) whole_is ∙ closed_with r.side apart now)
      (ap (closed_in r.side) after_is ∙ back.closed)
      (ap (growing_in r.side) after_is ∙ sym (ap (growing_in r.side) whole_is ∙ growing_with r.side apart now)) runs in
      subst (λ (x : Standing). RunsKeeper tells clock image_at faults b.did_so.runs.seen (keeper_lines round) said
      end.refusal (record r { stands = x; logs = new.logs }) new between now) begun_same
      (subst (λ (x : RuntimeState). RunsKeeper tells clock image_at faults b.did_so.runs.seen (keeper_lines round) said
      end.refusal (record r {
        stands = with_parts t decls v.epoch v.layout.slots v.pages v.layout.resident v.drops;
        logs = new.logs;
      }) x between now) kept_same
      (subst (λ (x : Vault D). RunsKeeper tells clock image_at faults b.did_so.runs.seen (keeper_lines round) said
      end.refusal (record r {
        stands = with_parts t decls v.epoch v.layout.slots v.pages v.layout.resident v.drops;
        logs = new.logs;
      }) (with_rest (bare new decls w) t new.logs r.down) between x) after_is
      (subst (λ (x : Vault D). RunsKeeper tells clock image_at faults b.did_so.runs.seen (keeper_lines round) said
      end.refusal (record r {
        stands = with_parts t decls v.epoch v.layout.slots v.pages v.layout.resident v.drops;
        logs = new.logs;
      }) (with_rest (bare new decls w) t new.logs r.down) x after) whole_is made)))
    where
      kept_same : with_rest (bare new decls w) t new.logs r.down ≡ new
      kept_same = ap (λ (x : Standing). record new { stands = x; down = r.down }) ended_same
          ∙ ap (λ (x : Bool). record new { down = x }) (sym down_is)

  -- ---- what its saves saw

  marks_many : length together.marks ≡ 8
  marks_many = ap length (sym lines_ran.marks_are) ∙ length-map lines_ran.shares (λ (share : Share). share.marks)
      ∙ lines_ran.over.runs.workers

  -- Both were run, beside each other.
  pub together_ran : RunsLines tells clock image_at faults tries round r new before now ran said end.refusal
  together_ran = record {
    worked = t;
    mid = record r { stands = as_begun r.stands t; logs = new.logs };
    between = between;
    marks = together.marks;
    readied = together.readied;
    lines = subst (RunsWorkers tells clock image_at faults tries round r.stands t ran.outcomes ran.ends.items
        together.marks
        together.readied r.logs new.logs (growing_in r.side before)) (sym (growing_with r.side apart now)) lines_ran;
    history = history;
    alone = refl;
    later = omega arith;
    drops = refl;
    beside = beside_with r.side before apart now lent_out;
    seen = b.did_so.runs.seen;
    places = round_places v b.did_so.runs.saw.places;
    met = record {
      before = before_of v;
      seen = b.did_so.runs.seen;
      places = b.did_so.runs.saw.places;
      met = ap (λ (x : Standing). x.met) together.now_is ∙ b.marks_met ∙ b.did_so.runs.saw.met
          ∙ ap (λ (l : List Met). l ++ all_met b.did_so.runs.seen b.did_so.runs.saw.places)
          (b.begins.met ∙ sym (ap (λ (x : Standing). x.met) together.was_is));
      eight = met_eights v b.did_so.runs.seen b.did_so.runs.saw.places b.did_so.runs.saw.all;
      told_are = refl;
    };
    sees = stood_seen v together.marks w.met (λ x has below mine at from. b.met x has below mine at from)
        b.did_so.runs.seen w marks_many refl b.did_so.runs.saw;
    back = round_back v b.did_so.runs.saw.places b.did_so.runs.saw.back
        (long_places v b.did_so.runs.seen b.did_so.runs.saw.places b.did_so.runs.saw.all);
    keeper = keeper_so;
  }

-- What was done beside the lines may be told in part.
pub did_less : {D : Type 0} {tells : D → Option (List ℕ)} {clock : D → ℕ} {image_at : D → ℕ → List ℕ → Type 0}
    {faults : D → ℕ} {tries : ℕ} {round : Round} {s t : Standing} {logs_was logs : List LogState}
    {banks_was banks : List D} {ran : WorkersRan} (did less : View → View → Type 0)
    → ((v w : View) → did v w → less v w)
    → RunsTogether tells clock image_at faults did tries round s t logs_was logs banks_was banks ran
    → RunsTogether tells clock image_at faults less tries round s t logs_was logs banks_was banks ran
did_less did less so together = record {
  marks = together.marks;
  readied = together.readied;
  lines = together.lines;
  was = together.was;
  now = together.now;
  was_is = together.was_is;
  now_is = together.now_is;
  beside =
      let b = together.beside in
      record {
        from = b.from;
        to = b.to;
        begins = b.begins;
        went = b.went;
        did_so = so b.from b.to b.did_so;
        epoch = b.epoch;
        pages = b.pages;
        drops = b.drops;
        marks_met = b.marks_met;
        known = b.known;
        met = b.met;
      };
}
