-- What a cell's own relation gives of its part of the round.
use Rattle.std.proofs.Common.{◌≡◌, ◌∙◌, sym, ap, subst, refl, ℕ, ◌≤◌, Bool, true, false, List, [], ◌∷◌}
use Rattle.std.proofs.Common.{◌++◌, inl, inr, arith}
use Rattle.std.proofs.Common.{length, Option, Some, None}
use Rattle.std.specs.Prelude.{fold, is_some, map}
use Rattle.std.proofs.Common.{append_assoc, length-append, ◌+◌, ◌-◌}
use Rattle.std.specs.Option.{option_map}
use Rattle.serial_model.specs.declared.number.Commit.{Commit}
use Rattle.serial_model.specs.declared.op.Op.{Op}
use Rattle.log_writer.specs.Journal.{JournalState}
use Rattle.engine_seats.specs.Cuts.{HasSeen}
use Rattle.commit_core.specs.declared.seat.Mark.{Mark}
use Rattle.engine_pages.specs.declared.layout.Layout.{Layout}
use Rattle.engine_pages.specs.declared.view.View.{View}
use Rattle.worker_cells.specs.Below.{Lost}
use Rattle.tx_script.specs.Causes.{is_unrun}
use Rattle.tx_script.specs.Run.{LogRefusal, LogFailed, LogFull}
use Rattle.tx_script.specs.declared.outcome.Outcome.{Outcome}
use Rattle.tx_script.specs.declared.outcome.Outcome.TheVariants.{Committed, Conflict, Full, Wide, Limit, Unrun}
use Rattle.worker_logs.specs.Logs.{LogState}
use Rattle.wire_form.specs.LogFile.{IsLineOf}
use Rattle.std.specs.List.{AllByRecursion}
use Rattle.wire_form.specs.declared.clock.Mark.{Mark as LogMark}
use Rattle.worker_logs.specs.Rows.{IsBeforeOne, IsFull, KeepsMarkIn}
use Rattle.worker_logs.specs.RowLaws.{keeps_later}
use Rattle.worker_logs.specs.Shown.{LogShows, Stood}
use Rattle.worker_logs.specs.ShownLaws.{shows_later, shows_takes}
use Rattle.script_grammar.specs.Script.{Round, lines_of_worker}
use Rattle.wire_form.specs.Words.{IsMark}
use Rattle.tx_script.specs.Readied.{AreReadied}
use Rattle.tx_script.specs.ReadiedLaws.{readied_whole}
use Rattle.tx_script.specs.Seen.{AreEpochs, AreMarksInOrder}
use Rattle.worker_cells.specs.Cells.{IsTied, RanOver, RanShown, RefusesLine, RunsCell, core_mark, core_of, epochs_of}
use Rattle.worker_cells.specs.Rows.{AreInARow, ComesOf, IsSince, LineRan, lines_of, logged_of, outcomes_of, readied_of}
use Rattle.worker_cells.specs.Rows.{unrun}
use Rattle.worker_cells.specs.declared.cell.LogEnd.{LogEnd}
use Rattle.shared_rounds.specs.Left.{LeavesPart, TellsPart}
use Rattle.shared_rounds.specs.Parts.{Part, marks_parked}
use Rattle.shared_rounds.specs.Seated.{IsBegun}
use Rattle.shared_rounds.specs.Shares.{BeginsAt}
use Rattle.shared_rounds.specs.SharedState.{last_mark, no_mark}
use Rattle.shared_rounds.specs.UnrunLaws.{AreRun, some_left, some_unrun}
use Rattle.shared_rounds.specs.Workers.{IsEpochBefore, IsRefusedBy, LeftBy, refusal_of, refused_as}

-- what refused the log, by what its file and its journal tell
refused_so : (failed : Bool) (full : Option ℕ) (journal : JournalState) → failed ≡ is_some journal.down
    → ((size : ℕ) → full ≡ Some size → IsFull size journal) → IsRefusedBy (refused_as failed full) journal
refused_so true full journal is at = sym is
refused_so false None journal is at = by_down journal.down refl
  where
    by_down : (down : Option ℕ) → journal.down ≡ down → journal.down ≡ None
    by_down None same = same
    by_down (Some count) same = absurd (let no = is ∙ ap is_some same in cc)
refused_so false (Some size) journal is at = ((at size refl).end, (at size refl).above)

failed_so : (failed : Bool) (full : Option ℕ) (down : Option ℕ) → failed ≡ is_some down → is_some down ≡ true
    → refused_as failed full ≡ Some LogFailed
failed_so true full down is hit = refl
failed_so false full down is hit = absurd (let no = is ∙ hit in cc)

none_refused : (failed : Bool) (full : Option ℕ) (down : Option ℕ) → failed ≡ is_some down
    → refused_as failed full ≡ None → (full ≡ None) × (down ≡ None)
none_refused true full down is none = absurd cc
none_refused false (Some size) down is none = absurd cc
none_refused false None None is none = (refl, refl)
none_refused false None (Some count) is none = absurd cc

last_so : (first : Mark) (before : List Mark) (mark : Mark) → fold (λ b m. m) first (before ++ mark ∷ []) ≡ mark
last_so first [] mark = refl
last_so first (m ∷ before) mark = last_so m before mark

-- the last of them
pub last_push : (before : List Mark) (mark : Mark) → last_mark (before ++ mark ∷ []) ≡ mark
last_push before mark = last_so no_mark before mark

-- a log that is told full refused a line
filled_so : (failed : Bool) (full : Option ℕ) (size : ℕ) → refused_as failed full ≡ Some (LogFull size)
    → full ≡ None → ⊥
filled_so true full size is none = absurd cc
filled_so false full size is none = absurd (let no = sym (ap (option_map LogFull) none) ∙ is in cc)

-- a line that was run isn't told unrun
line_run : (tries : ℕ) (ops : List Op) (outcome : Outcome) (refused : List Lost) (logged : Option Commit) (v w : View)
    → ComesOf tries ops outcome refused logged v w → is_unrun outcome ≡ false
line_run tries ops (Committed verdict number replies) refused logged v w comes = refl
line_run tries ops Conflict refused logged v w comes = refl
line_run tries ops Limit refused logged v w comes = refl
line_run tries ops Full refused logged v w comes = refl
line_run tries ops Wide refused logged v w comes = refl
line_run tries ops Unrun refused logged v w comes = absurd comes

-- and so it is with lines in a row
row_run : (tries : ℕ) (v : View) (ran : List LineRan) (w : View) → AreInARow tries v ran w → AreRun (outcomes_of ran)
row_run tries v [] w row = tt
row_run tries v (r ∷ more) w row = (
  line_run tries r.ops r.outcome r.refused r.logged r.before r.after row.1,
  row_run tries r.after more w row.2,
)

module _ {D : Type 0} (tells : D → Option (List ℕ)) (clock : D → ℕ) (image_at : D → ℕ → List ℕ → Type 0)
    (faults : D → ℕ) where
  left_over : (tries high : ℕ) (was ended : View) (refusal : Option LogRefusal) (ran : List LineRan) (more : List Stood)
      (v w : View) (old new : LogState) (before now : D) → v.epoch ≡ was.epoch → high ≤ ended.epoch
      → RanOver tells clock image_at faults tries high ran more v w old new before now
      → IsRefusedBy refusal new.journal → (is_some new.journal.down ≡ true → refusal ≡ Some LogFailed)
      → AllByRecursion (λ (m : Stood). IsEpochBefore ended.epoch m.mark.epoch)
      (record { mark = old.mark; since = clock before } ∷ more)
      → LeftBy tells clock image_at faults was.epoch ended.epoch (logged_of ran)
      (record { mark = old.mark; since = clock before } ∷ more) refusal old new before now
  left_over tries high was ended refusal ran more v w old new before now epoch low did refused failed below =
      let shows : LogShows tells clock image_at was.epoch ended.epoch (logged_of ran)
      (record { mark = old.mark; since = clock before } ∷ more) old new before now =
      subst (λ l. LogShows tells clock image_at l ended.epoch (logged_of ran)
      (record { mark = old.mark; since = clock before } ∷ more) old new before now) epoch
      (shows_later low did.shows) in
      record {
        shows = shows;
        first = refl;
        below = below;
        takes = shows_takes shows;
        longer = did.longer;
        mark = subst (λ l. KeepsMarkIn l ended.epoch old new) epoch
            (keeps_later v.epoch high ended.epoch old new low did.mark);
        blames = did.blames;
        reaches = did.reaches;
        limit = did.limit;
        refused = refused;
        failed = failed;
      }

-- ---- the epochs of marks

epoch_first : (low : ℕ) (e : Option ℕ) (rest : List (Option ℕ)) → AreEpochs low (e ∷ rest)
    → (x : ℕ) × (e ≡ Some x) × (low ≤ x) × AreEpochs x rest
epoch_first low None rest are = absurd are
epoch_first low (Some x) rest are = (x, refl, are.0, are.1)

mark_first : (e : Option ℕ) (rest : List (Option ℕ)) → (rest ≡ [] → ⊥) → AreMarksInOrder (e ∷ rest)
    → (x : ℕ) × (e ≡ Some x) × AreEpochs x rest
mark_first None rest some are = absurd (some are)
mark_first (Some x) rest some are = (x, refl, are)

some_epochs : (earlier : List Stood) (end : Stood) → epochs_of (earlier ++ end ∷ []) ≡ [] → ⊥
some_epochs [] end none = absurd cc
some_epochs (m ∷ earlier) end none = absurd cc

last_epoch_before : (low high : ℕ) (e : Option ℕ) → AreEpochs low (e ∷ []) → IsEpochBefore high e → low ≤ high - 1
last_epoch_before low high None are before = absurd are
last_epoch_before low high (Some x) are before = let up = are.0 in omega (arith, up, before)

-- where the last one is before an epoch, so are the others, as they never fall
epochs_before : (low high : ℕ) (earlier : List Stood) (end : Stood) → AreEpochs low (epochs_of (earlier ++ end ∷ []))
    → IsEpochBefore high end.mark.epoch
    → AllByRecursion (λ (m : Stood). IsEpochBefore high m.mark.epoch) (earlier ++ end ∷ []) × (low ≤ high - 1)
epochs_before low high [] end are before = ((before, tt), last_epoch_before low high end.mark.epoch are before)
epochs_before low high (m ∷ earlier) end are before =
    let first = epoch_first low m.mark.epoch (epochs_of (earlier ++ end ∷ [])) are in
    let rest = epochs_before first.0 high earlier end first.3 before in (
      (subst (IsEpochBefore high) (sym first.1) rest.1, rest.0),
      omega (arith, first.2, rest.1),
    )

marks_before : (high : ℕ) (earlier : List Stood) (end : Stood) → AreMarksInOrder (epochs_of (earlier ++ end ∷ []))
    → IsEpochBefore high end.mark.epoch
    → AllByRecursion (λ (m : Stood). IsEpochBefore high m.mark.epoch) (earlier ++ end ∷ [])
marks_before high [] end are before = (before, tt)
marks_before high (m ∷ earlier) end are before =
    let first = mark_first m.mark.epoch (epochs_of (earlier ++ end ∷ [])) (some_epochs earlier end) are in
    let rest = epochs_before first.0 high earlier end first.2 before in
    (subst (IsEpochBefore high) (sym first.1) rest.1, rest.0)

before_later : (low high later : ℕ) (e : Option ℕ) → high ≤ later → IsBeforeOne low high e → IsEpochBefore later e
before_later low high later None up is = absurd is
before_later low high later (Some x) up is = let below = is.1 in omega (arith, up, below)

-- the log's mark behind its calls
mark_before : (low high later : ℕ) (old new : LogState) → high ≤ later → KeepsMarkIn low high old new
    → IsEpochBefore later old.mark.epoch → IsEpochBefore later new.mark.epoch
mark_before low high later old new up (inl same) before =
    subst (IsEpochBefore later) (sym (ap (λ (m : LogMark). m.epoch) same)) before
mark_before low high later old new up (inr set) before = before_later low high later new.mark.epoch up set

-- ---- marks that were shown

-- What is told of the marks that a worker's log showed: their order, what the worker had as each line began, and the
-- last of them.
record TellsMarks (epoch : ℕ) (p : Part) (new : LogState) : Type 0 where
  small : AllByRecursion (λ (m : Stood). IsMark m.mark) p.marks
  begins : BeginsAt epoch (lines_of p.ran ++ p.left) p.marks
  rise : AreMarksInOrder (epochs_of p.marks)
  readied : AreReadied epoch 0 (epochs_of p.marks) (readied_of p.from p.ran) (outcomes_of p.ran ++ unrun p.left)
  last : (earlier : List Stood) × (end : Stood) × (p.marks ≡ earlier ++ end ∷ []) × (end.mark ≡ new.mark)

unrun_all : (left : List (List Op)) → AllByRecursion (λ o. is_unrun o ≡ true) (unrun left)
unrun_all [] = tt
unrun_all (ops ∷ left) = (refl, unrun_all left)

-- of a worker with lines
busy_marks : (epoch high : ℕ) (p : Part) (new : LogState) → p.from.epoch ≡ epoch
    → BeginsAt epoch (lines_of p.ran ++ p.left) p.marks → RanShown high p.ran p.marks p.from p.to new
    → TellsMarks epoch p new
busy_marks epoch high p new same begins s = record {
  small = s.small;
  begins = begins;
  rise = s.rise;
  readied = subst (λ n. AreReadied n 0 (epochs_of p.marks) (readied_of p.from p.ran)
      (outcomes_of p.ran ++ unrun p.left))
      same (readied_whole p.from.epoch 0 (epochs_of p.marks) (readied_of p.from p.ran) (outcomes_of p.ran)
      (unrun p.left)
      high (length s.earlier) s.readied (unrun_all p.left));
  last = (s.earlier, s.end, s.ends, s.is);
}

none_of : (ran : List LineRan) (left : List (List Op)) → lines_of ran ++ left ≡ [] → (ran ≡ []) × (left ≡ [])
none_of [] left none = (refl, none)
none_of (r ∷ ran) left none = absurd cc

none_more : (marks : List Mark) (more : List Stood) → marks ≡ marks ++ map core_of more → more ≡ []
none_more marks [] same = refl
none_more marks (m ∷ more) same =
    let long : length marks ≡ length marks + length (map core_of (m ∷ more)) =
    ap (λ (l : List Mark). length l) same ∙ length-append marks (map core_of (m ∷ more)) in
    absurd (omega (arith, long))

some_list : (ops : List Op) (lines : List (List Op)) → ops ∷ lines ≡ [] → ⊥
some_list ops lines is = absurd cc

-- and of one without: its one idle mark
idle_marks : (epoch : ℕ) (ran : List LineRan) (left : List (List Op)) (refusal : Option LogRefusal) (first : Stood)
    (more : List Stood) (from to : View) (new : LogState) → ran ≡ [] → left ≡ [] → more ≡ [] → first.mark.epoch ≡ None
    → IsMark first.mark → new.mark ≡ first.mark
    → TellsMarks epoch
    (record { ran = ran; marks = first ∷ more; left = left; refusal = refusal; from = from; to = to }) new
idle_marks epoch ran left refusal first more from to new none_ran none_left none_set idle small same =
    subst (λ (m : List Stood). TellsMarks epoch
    (record { ran = ran; marks = first ∷ m; left = left; refusal = refusal; from = from; to = to }) new) (sym none_set)
    (subst (λ (l : List (List Op)). TellsMarks epoch
    (record { ran = ran; marks = first ∷ []; left = l; refusal = refusal; from = from; to = to }) new) (sym none_left)
    (subst (λ (r : List LineRan). TellsMarks epoch
    (record { ran = r; marks = first ∷ []; left = []; refusal = refusal; from = from; to = to }) new) (sym none_ran)
    (record {
      small = (small, tt);
      begins = (idle, refl);
      rise = subst (λ (e : Option ℕ). AreMarksInOrder (e ∷ [])) (sym idle) refl;
      readied = tt;
      last = ([], first, refl, sym same);
    })))

module _ {D : Type 0} (tells : D → Option (List ℕ)) (clock : D → ℕ) (image_at : D → ℕ → List ℕ → Type 0)
    (faults : D → ℕ) where
  -- All lines of the worker.
  pub cell_left : (tries worker : ℕ) (round : Round) (outcomes : List Outcome) (end : LogEnd)
      (was ended v w : View) (old new : LogState) (before now : D) → IsBegun round was worker v old → HasSeen w ended
      → w.epoch ≤ ended.epoch
      → RunsCell tells clock image_at faults tries (lines_of_worker round worker) outcomes end v w old new before now
      → (p : Part) × LeavesPart tells clock image_at faults tries was ended worker p old new before now
      × TellsPart (lines_of_worker round worker) outcomes end p old new × (p.to ≡ w)
  cell_left tries worker round outcomes end was ended v w old new before now begun seen low runs =
      let run = runs.lines_run in
      let did = run.did in
      let refusal = refusal_of end in
      let first : Stood = record { mark = old.mark; since = clock before } in
      let epoch : v.epoch ≡ was.epoch = begun.seated.epoch in
      let p : Part = record {
        ran = run.ran;
        marks = first ∷ run.more;
        left = run.left;
        refusal = refusal;
        from = v;
        to = w;
      } in
      let marks = by_lines run.ran run.more run.left refusal (lines_of_worker round worker) refl run.whole
      did.words (λ none. (run.none none)) (λ tied. did.shown tied begun.small) in
      let rises : v.epoch ≤ w.epoch = did.later in
      let last_before : IsEpochBefore ended.epoch marks.last.1.mark.epoch =
      subst (λ (m : LogMark). IsEpochBefore ended.epoch m.epoch) (sym marks.last.3)
      (mark_before v.epoch w.epoch ended.epoch old new low did.mark
      (first_before (lines_of_worker round worker) refl (omega (arith, epoch, rises, low)))) in
      let below : AllByRecursion (λ (m : Stood). IsEpochBefore ended.epoch m.mark.epoch) (first ∷ run.more) =
      subst (λ (l : List Stood). AllByRecursion (λ (m : Stood). IsEpochBefore ended.epoch m.mark.epoch) l)
      (sym marks.last.2) (marks_before ended.epoch marks.last.0 marks.last.1
      (subst (λ (l : List Stood). AreMarksInOrder (epochs_of l)) marks.last.2 marks.rise) last_before) in (
        p,
        record {
          part = record {
            seated = begun.seated;
            row = did.row;
            since = subst (λ e. AllByRecursion (λ (line : LineRan). IsSince e line.outcome) run.ran) epoch did.since;
            lines_are = subst (λ (l : Layout). AllByRecursion (IsLineOf l.decls) (logged_of run.ran))
                begun.seated.layout
                did.lines_are;
            all = λ none. let up = none_refused end.failed end.full new.journal.down runs.failed none in run.all up.0
                up.1;
            seen = seen;
            words = did.words ∙ ap (λ (l : List Mark). l ++ map core_of run.more) begun.marks
                ∙ append_assoc (marks_parked was worker) (core_mark old.mark ∷ []) (map core_of run.more);
            small = marks.small;
            begins = marks.begins;
            rise = marks.rise;
            readied = marks.readied;
          };
          log = record {
            left_by = left_over tells clock image_at faults tries w.epoch was ended refusal run.ran run.more v w old new
                before now epoch low did (refused_so end.failed end.full new.journal runs.failed run.full_is)
                (failed_so end.failed end.full new.journal.down runs.failed) below;
            left_out = record {
              refuses = λ has. subst (λ e. RefusesLine tells clock image_at faults e (logged_of run.ran) old before)
                  epoch
                  (run.refuses (some_left (outcomes_of run.ran) run.left (row_run tries v run.ran w did.row) has));
              filled = λ size is. some_unrun (outcomes_of run.ran) run.left
                  (λ none. filled_so end.failed end.full size is (run.unfilled none));
            };
          };
        },
        record {
          lines_are = sym run.whole;
          told = run.told;
          refusal = refl;
          idle = λ none. (run.none none).0;
          failed = runs.failed;
          flushed = runs.flushed;
          last = marks.last;
          rests = λ none. ap (λ (l : LogState). l.mark.epoch) (run.none none).0 ∙ begun.idle none;
        },
        refl,
      )
    where
      first_before : (lines : List (List Op)) → lines_of_worker round worker ≡ lines → was.epoch ≤ ended.epoch
          → IsEpochBefore ended.epoch old.mark.epoch
      first_before [] is up = subst (IsEpochBefore ended.epoch) (sym (begun.idle is)) tt
      first_before (ops ∷ lines) is up =
          subst (IsEpochBefore ended.epoch) (sym (begun.named (λ no. some_list ops lines (sym is ∙ no))))
          (omega (arith, up))

      by_lines : (ran : List LineRan) (more : List Stood) (left : List (List Op)) (refusal : Option LogRefusal)
          (lines : List (List Op)) → lines_of_worker round worker ≡ lines
          → lines_of_worker round worker ≡ lines_of ran ++ left
          → w.seat.marks ≡ v.seat.marks ++ map core_of more
          → (lines_of_worker round worker ≡ [] → (new ≡ old) × (now ≡ before) × (w ≡ v))
          → (IsTied old.mark v.seat.marks
          → RanShown w.epoch ran (record { mark = old.mark; since = clock before } ∷ more) v w new)
          → TellsMarks was.epoch (record {
            ran = ran;
            marks = record { mark = old.mark; since = clock before } ∷ more;
            left = left;
            refusal = refusal;
            from = v;
            to = w;
          }) new
      by_lines ran more left refusal [] is whole words none shown =
          let nothing = none is in
          let empty = none_of ran left (sym whole ∙ is) in
          let same : v.seat.marks ≡ v.seat.marks ++ map core_of more =
          ap (λ (x : View). x.seat.marks) (sym nothing.2) ∙ words in
          idle_marks was.epoch ran left refusal (record { mark = old.mark; since = clock before }) more v w new empty.0
          empty.1 (none_more v.seat.marks more same) (begun.idle is)
          begun.small (ap (λ (l : LogState). l.mark) nothing.0)
      by_lines ran more left refusal (ops ∷ lines) is whole words none shown =
          let named = begun.named (λ no. some_list ops lines (sym is ∙ no)) in
          let first : Stood = record { mark = old.mark; since = clock before } in
          busy_marks was.epoch w.epoch (record {
            ran = ran;
            marks = record { mark = old.mark; since = clock before } ∷ more;
            left = left;
            refusal = refusal;
            from = v;
            to = w;
          }) new begun.seated.epoch
          (subst (λ (l : List (List Op)). BeginsAt was.epoch l (first ∷ more)) (sym is ∙ whole) named)
          (shown (record {
            earlier = marks_parked was worker;
            last = begun.marks;
            epoch = was.epoch - 1;
            named = named;
          }))
