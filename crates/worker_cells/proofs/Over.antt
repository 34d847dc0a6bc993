-- What the lines of a cell have done so far, one step after another.
use Rattle.std.proofs.Common.{◌≡◌, ◌∙◌, ◌≤◌, ◌<◌, ◌+◌, ◌-◌, ◌++◌, ◌∷◌, inl, inr, refl, sym, ap, subst, ℕ, List, []}
use Rattle.std.proofs.Common.{Option, Some, None, append_assoc, arith, false, length, length-append, map, suc}
use Rattle.std.specs.Prelude.{◌≢◌, ◌⊎◌, Contains, fold, option_to_list, slice_get, unwrap_or}
use Rattle.std.specs.List.{AllByRecursion}
use Rattle.std.proofs.lemmas.Grind.{flat_map-append}
use Rattle.std.proofs.lemmas.List.{append-nil}
use Rattle.lists.specs.Each.{all_append, all_push, all_weaker}
use Rattle.serial_model.specs.declared.number.Change.{Change}
use Rattle.serial_model.specs.declared.number.Commit.{Commit}
use Rattle.serial_model.specs.declared.number.Number.{Number}
use Rattle.serial_model.specs.declared.op.Op.{Op}
use Rattle.wire_form.specs.LogFile.{IsLineOf, lines_bytes}
use Rattle.wire_form.specs.LogLine.{line_bytes}
use Rattle.wire_form.specs.Words.{IsMark}
use Rattle.wire_form.specs.declared.clock.Mark.{Mark}
use Rattle.commit_core.specs.CoreState.{last_marked, mark_of}
use Rattle.commit_core.specs.declared.attempt.Attempt.{Attempt}
use Rattle.commit_core.specs.declared.seat.Mark as core
use Rattle.log_writer.specs.Journal.{end_of}
use Rattle.log_writer.specs.declared.journal.LogFault.{LogFault}
use Rattle.tx_runner.specs.Tries.{Lost}
use Rattle.engine_pages.specs.declared.view.View.{View}
use Rattle.tx_script.specs.Causes.{is_unrun}
use Rattle.tx_script.specs.Readied.{DrewSince, Readied, ReadiedUpTo, epoch_behind}
use Rattle.tx_script.specs.ReadiedLaws.{marks_push, readied_later, readied_more, readied_push}
use Rattle.tx_script.specs.Seen.{AreMarksInOrder}
use Rattle.tx_script.specs.declared.outcome.Outcome.{Outcome}
use Rattle.tx_script.specs.declared.outcome.Outcome.TheVariants.{Committed, Conflict, Full, Wide, Limit, Unrun}
use Rattle.worker_logs.specs.Logs.{LogState}
use Rattle.worker_logs.specs.Rows.{TakesCommit}
use Rattle.worker_logs.specs.Shown.{LogShows, Stood}
use Rattle.worker_logs.specs.ShownLaws.{shows_commit, shows_later, shows_move, shows_none, shows_one}
use Rattle.worker_logs.specs.RowLaws.{blames_move, blames_none, blames_took, keeps_commit, keeps_later, keeps_then}
use Rattle.worker_logs.specs.RowLaws.{limit_took, reaches_took}
use Rattle.worker_cells.specs.Cells.{AreLooked, HasLookedSince, HasMarks, IsCell, IsMarkedBelow, IsReached, IsTied}
use Rattle.worker_cells.specs.Cells.{IsLongerBy, LogsLine}
use Rattle.worker_cells.specs.Cells.{RanOver, RanShown, Readies, ShowsMark, core_mark, core_of, epochs_of, steps_behind}
use Rattle.worker_cells.specs.Rows.{ComesOf, IsSince, LineRan, logged_by, logged_of, outcomes_of, readied_of}
use Rattle.worker_cells.specs.InARow.{goes_none, line_keeps, logged_push, row_goes, row_layout, row_push}

-- ---- the last mark

-- what a seat's last mark names
pub mark_of_last : (earlier : List core.Mark) (m : core.Mark) → mark_of (earlier ++ m ∷ []) ≡ m.epoch
mark_of_last earlier m = from None earlier
  where
    from : (start : Option ℕ) (earlier : List core.Mark)
        → fold (λ (e : Option ℕ) (x : core.Mark). x.epoch) start (earlier ++ m ∷ []) ≡ m.epoch
    from start [] = refl
    from start (x ∷ more) = from x.epoch more

pub last_marked_last : (earlier : List core.Mark) (m : core.Mark) (epoch : ℕ) → m.epoch ≡ Some epoch
    → last_marked (earlier ++ m ∷ []) ≡ epoch
last_marked_last earlier m epoch is = from 0 earlier
  where
    from : (start : ℕ) (earlier : List core.Mark)
        → fold (λ (low : ℕ) (x : core.Mark). unwrap_or x.epoch low) start (earlier ++ m ∷ []) ≡ epoch
    from start [] = ap (λ (e : Option ℕ). unwrap_or e start) is
    from start (x ∷ more) = from (unwrap_or x.epoch start) more

-- the mark that a line finds at its seat
pub mark_found : (mark : Mark) (v : View) → IsMarkedBelow mark v → mark_of v.seat.marks ≡ Some (v.epoch - 1)
mark_found mark v marked =
    ap mark_of marked.tied.last ∙ mark_of_last marked.tied.earlier (core_mark mark) ∙ marked.epoch

-- a commit changes no mark
pub tied_still : (mid new : LogState) (commit : Option Commit) (marks after : List core.Mark) → IsTied mid.mark marks
    → after ≡ marks → TakesCommit commit mid new → IsTied new.mark after
tied_still mid new None marks after tied same takes =
    subst (λ (l : LogState). IsTied l.mark after) (sym takes) (subst (IsTied mid.mark) (sym same) tied)
tied_still mid new (Some c) marks after tied same takes =
    subst (λ m. IsTied m after) (sym takes.mark) (subst (IsTied mid.mark) (sym same) tied)

-- an epoch that was reached is none above one that a load finds later
pub reached_by : (high epoch : ℕ) (v : View) → IsReached high v → v.epoch ≤ epoch → last_marked v.seat.marks < epoch
    → ((a : Attempt) → Contains v.history a → a.number.epoch ≤ epoch) → high ≤ epoch
reached_by high epoch v (inl seen) rises above drawn = omega (arith, seen, rises)
reached_by high epoch v (inr (inl marked)) rises above drawn = omega (arith, marked, above)
reached_by high epoch v (inr (inr (a, has, most))) rises above drawn =
    let below = drawn a has in omega (arith, most, below)

-- ---- epochs

-- what is logged of a commit has its number
logged_is : (commit : Commit) (changes : List Change) (c : Commit) → logged_by commit changes ≡ Some c → commit ≡ c
logged_is commit [] c is = absurd cc
logged_is commit (first ∷ more) c is = cc

-- a commit behind a mark has a later epoch
line_above : (tries : ℕ) (ops : List Op) (outcome : Outcome) (refused : List Lost) (logged : Option Commit)
    (v w : View) (marked : ℕ) → ComesOf tries ops outcome refused logged v w → mark_of v.seat.marks ≡ Some marked
    → (c : Commit) → logged ≡ Some c → marked < c.number.epoch
line_above tries ops (Committed verdict number replies) refused logged v w marked comes mark c is =
    let same : comes.0 ≡ c = logged_is comes.0 comes.0.changes c (sym comes.2 ∙ is) in
    subst (λ (x : Commit). marked < x.number.epoch) same (comes.3.marked marked mark)
line_above tries ops Conflict refused logged v w marked comes mark c is = absurd (let no = sym comes.0 ∙ is in cc)
line_above tries ops Wide refused logged v w marked comes mark c is = absurd (let no = sym comes.0 ∙ is in cc)
line_above tries ops Limit refused logged v w marked comes mark c is = absurd (let no = sym comes.0 ∙ is in cc)
line_above tries ops Full refused logged v w marked comes mark c is = absurd (let no = sym comes.0 ∙ is in cc)
line_above tries ops Unrun refused logged v w marked comes mark c is = absurd comes

-- whatever it changed
line_since : (tries : ℕ) (ops : List Op) (outcome : Outcome) (refused : List Lost) (logged : Option Commit)
    (v w : View) (marked : ℕ) → ComesOf tries ops outcome refused logged v w → mark_of v.seat.marks ≡ Some marked
    → IsSince (marked + 1) outcome
line_since tries ops (Committed verdict number replies) refused logged v w marked comes mark =
    let above : marked < comes.0.number.epoch = comes.3.marked marked mark in
    let same : comes.0.number.epoch ≡ number.epoch = ap (λ (n : Number). n.epoch) comes.1 in omega (arith, above, same)
line_since tries ops Conflict refused logged v w marked comes mark = tt
line_since tries ops Full refused logged v w marked comes mark = tt
line_since tries ops Wide refused logged v w marked comes mark = tt
line_since tries ops Limit refused logged v w marked comes mark = tt
line_since tries ops Unrun refused logged v w marked comes mark = tt

since_low : (low high : ℕ) (outcome : Outcome) → low ≤ high → IsSince high outcome → IsSince low outcome
since_low low high (Committed verdict number replies) less is = omega (arith, less, is)
since_low low high Conflict less is = tt
since_low low high Full less is = tt
since_low low high Wide less is = tt
since_low low high Limit less is = tt
since_low low high Unrun less is = tt

-- what was run is told so, and so its commit's epoch
began_line : (tries : ℕ) (ops : List Op) (outcome : Outcome) (refused : List Lost) (logged : Option Commit)
    (v w : View) → ComesOf tries ops outcome refused logged v w → is_unrun outcome ≡ false
began_line tries ops (Committed verdict number replies) refused logged v w comes = refl
began_line tries ops Conflict refused logged v w comes = refl
began_line tries ops Limit refused logged v w comes = refl
began_line tries ops Full refused logged v w comes = refl
began_line tries ops Wide refused logged v w comes = refl
began_line tries ops Unrun refused logged v w comes = absurd comes

-- the epoch that a line leaves was reached
line_reached : (tries : ℕ) (ops : List Op) (outcome : Outcome) (refused : List Lost) (logged : Option Commit)
    (v w : View) (epoch : ℕ) → ComesOf tries ops outcome refused logged v w → epoch ≤ last_marked w.seat.marks + 1
    → IsReached (epoch_behind epoch outcome) w
line_reached tries ops (Committed verdict number replies) refused logged v w epoch comes marked =
    let same : comes.3.attempt.number.epoch ≡ number.epoch =
    ap (λ (n : Number). n.epoch) (comes.3.numbered ∙ comes.1) in
    inr (inr (comes.3.attempt, comes.3.drawn, omega (arith, same)))
line_reached tries ops Conflict refused logged v w epoch comes marked = inr (inl marked)
line_reached tries ops Limit refused logged v w epoch comes marked = inr (inl marked)
line_reached tries ops Full refused logged v w epoch comes marked = inr (inl marked)
line_reached tries ops Wide refused logged v w epoch comes marked = inr (inl marked)
line_reached tries ops Unrun refused logged v w epoch comes marked = absurd comes

-- it is none below the one that was loaded before the line
behind_late : (epoch : ℕ) (outcome : Outcome) → IsSince epoch outcome → epoch ≤ epoch_behind epoch outcome
behind_late epoch (Committed verdict number replies) is = is
behind_late epoch Conflict is = omega arith
behind_late epoch Full is = omega arith
behind_late epoch Wide is = omega arith
behind_late epoch Limit is = omega arith
behind_late epoch Unrun is = omega arith

drew_line : (epoch : ℕ) (outcome : Outcome) → IsSince epoch outcome → DrewSince epoch outcome
drew_line epoch (Committed verdict number replies) is = is
drew_line epoch Conflict is = tt
drew_line epoch Full is = tt
drew_line epoch Wide is = tt
drew_line epoch Limit is = tt
drew_line epoch Unrun is = tt

-- ---- marks that were shown

epochs_end : (earlier : List Stood) (m : Stood) → epochs_of (earlier ++ m ∷ []) ≡ epochs_of earlier ++ m.mark.epoch ∷ []
epochs_end [] m = refl
epochs_end (x ∷ earlier) m = ap (λ l. x.mark.epoch ∷ l) (epochs_end earlier m)

last_at : {A : Type 0} (xs : List A) (x : A) → slice_get (xs ++ x ∷ []) (length xs) ≡ Some x
last_at [] x = refl
last_at (y ∷ xs) x = last_at xs x

epochs_long : (marks : List Stood) → length (epochs_of marks) ≡ length marks
epochs_long [] = refl
epochs_long (m ∷ marks) = ap suc (epochs_long marks)

cores_push : (marks : List Stood) (m : Stood) → map core_of (marks ++ m ∷ []) ≡ map core_of marks ++ core_of m ∷ []
cores_push [] m = refl
cores_push (x ∷ marks) m = ap (λ l. core_of x ∷ l) (cores_push marks m)

cores_long : (marks : List Stood) → length (map core_of marks) ≡ length marks
cores_long [] = refl
cores_long (m ∷ marks) = ap suc (cores_long marks)

ends_long : (first end : Stood) (more earlier : List Stood) → first ∷ more ≡ earlier ++ end ∷ []
    → length earlier ≡ length more
ends_long first end more earlier is =
    let long : length (first ∷ more) ≡ length earlier + 1 =
    ap (λ (l : List Stood). length l) is ∙ length-append earlier (end ∷ []) in omega (arith, long)

readied_push_of : (v : View) (ran : List LineRan) (line : LineRan)
    → readied_of v (ran ++ line ∷ []) ≡ readied_of v ran ++ record {
      epoch = line.before.epoch;
      place = length line.before.seat.marks - length v.seat.marks;
    } ∷ []
readied_push_of v [] line = refl
readied_push_of v (x ∷ ran) line = ap (λ l. record {
  epoch = x.before.epoch;
  place = length x.before.seat.marks - length v.seat.marks;
} ∷ l) (readied_push_of v ran line)

outcomes_more : (ran : List LineRan) (line : LineRan)
    → outcomes_of (ran ++ line ∷ []) ≡ outcomes_of ran ++ line.outcome ∷ []
outcomes_more [] line = refl
outcomes_more (x ∷ ran) line = ap (λ o. x.outcome ∷ o) (outcomes_more ran line)

-- a commit leaves the mark
mark_took : (mid new : LogState) (commit : Option Commit) → TakesCommit commit mid new → new.mark ≡ mid.mark
mark_took mid new None takes = ap (λ (l : LogState). l.mark) takes
mark_took mid new (Some c) takes = takes.mark

-- more marks that were shown behind
marks_more : (v : View) (more : List Stood) (one : Stood) (line : LineRan) → HasMarks v more line
    → HasMarks v (more ++ one ∷ []) line
marks_more v more one line has = record {
  shown = has.shown;
  still = has.still ++ one ∷ [];
  whole = ap (λ l. l ++ one ∷ []) has.whole ∙ append_assoc has.shown has.still (one ∷ []);
  marks = has.marks;
}

-- ---- looks at the clock

behind_push : (steps : ℕ) (ran : List LineRan) (line : LineRan)
    → steps_behind steps (ran ++ line ∷ []) ≡ line.after.steps
behind_push steps [] line = refl
behind_push steps (x ∷ ran) line = behind_push x.after.steps ran line

looked_push : (steps : ℕ) (ran : List LineRan) (line : LineRan) → AreLooked steps ran
    → HasLookedSince (steps_behind steps ran) line.before → AreLooked steps (ran ++ line ∷ [])
looked_push steps [] line are look = (look, tt)
looked_push steps (x ∷ ran) line are look = (are.0, looked_push x.after.steps ran line are.1 look)

-- from an earlier step on
pub looked_since : (less steps : ℕ) (v : View) → less ≤ steps → HasLookedSince steps v → HasLookedSince less v
looked_since less steps v up look = record {
  step = look.step;
  word = look.word;
  since = let from = look.since in omega (arith, up, from);
  last = look.last;
  epoch = look.epoch;
}

-- ---- marks as lines go on

-- as lines begin
shown_begin : (v : View) (log : LogState) (since : ℕ) → IsTied log.mark v.seat.marks → IsMark log.mark
    → RanShown v.epoch [] (record { mark = log.mark; since = since } ∷ []) v v log
shown_begin v log since tied small = record {
  small = (small, tt);
  last = tied;
  earlier = [];
  end = record { mark = log.mark; since = since };
  ends = refl;
  is = refl;
  rise = subst (λ (e : Option ℕ). AreMarksInOrder (e ∷ [])) (sym tied.named) tt;
  readied = (omega arith, omega arith);
}

-- the mark that stood stands still
shown_same : (high later : ℕ) (ran : List LineRan) (marks : List Stood) (v w x : View) (mid new : LogState)
    → high ≤ later → new.mark ≡ mid.mark → x.seat.marks ≡ w.seat.marks → RanShown high ran marks v w mid
    → RanShown later ran marks v x new
shown_same high later ran marks v w x mid new up same stays s = record {
  last = subst (λ m. IsTied m x.seat.marks) (sym same) (subst (IsTied mid.mark) (sym stays) s.last);
  earlier = s.earlier;
  end = s.end;
  ends = s.ends;
  is = s.is ∙ sym same;
  small = s.small;
  rise = s.rise;
  readied = readied_later v.epoch 0 (epochs_of marks) (readied_of v ran) (outcomes_of ran) high later (length s.earlier)
      (length s.earlier) up (omega arith) s.readied;
}

-- a new one was set there
shown_more : (high later since : ℕ) (ran : List LineRan) (marks : List Stood) (v w x : View) (mid new : LogState)
    → high ≤ later → last_marked w.seat.marks < later → IsMark new.mark → new.mark.epoch ≡ Some (later - 1)
    → x.seat.marks ≡ w.seat.marks ++ core_mark new.mark ∷ [] → RanShown high ran marks v w mid
    → RanShown later ran (marks ++ record { mark = new.mark; since = since } ∷ []) v x new
shown_more high later since ran marks v w x mid new up above small named set s =
    let one : Stood = record { mark = new.mark; since = since } in
    let before : last_marked w.seat.marks ≡ s.last.epoch =
    ap last_marked s.last.last ∙ last_marked_last s.last.earlier (core_mark mid.mark) s.last.epoch s.last.named in
    let stood : epochs_of marks ≡ epochs_of s.earlier ++ Some s.last.epoch ∷ [] =
    ap epochs_of s.ends ∙ epochs_end s.earlier s.end
    ∙ ap (λ (e : Option ℕ). epochs_of s.earlier ++ e ∷ []) (ap (λ (m : Mark). m.epoch) s.is ∙ s.last.named) in
    let then : epochs_of (marks ++ one ∷ []) ≡ epochs_of marks ++ Some (later - 1) ∷ [] =
    epochs_end marks one ∙ ap (λ (e : Option ℕ). epochs_of marks ++ e ∷ []) named in
    let long : length marks ≡ length s.earlier + 1 =
    ap (λ (l : List Stood). length l) s.ends ∙ length-append s.earlier (s.end ∷ []) in
    record {
      last = record { earlier = w.seat.marks; last = set; epoch = later - 1; named = named };
      earlier = marks;
      end = one;
      ends = refl;
      is = refl;
      small = all_push (λ (m : Stood). IsMark m.mark) marks one s.small small;
      rise = subst AreMarksInOrder (sym then)
          (subst (λ l. AreMarksInOrder (l ++ Some (later - 1) ∷ [])) (sym stood)
          (marks_push (epochs_of s.earlier) s.last.epoch (later - 1) (subst AreMarksInOrder stood s.rise)
          (omega (arith, above, before))));
      readied = subst (λ l. ReadiedUpTo v.epoch 0 l (readied_of v ran) (outcomes_of ran) later (length marks))
          (sym then)
          (readied_more v.epoch 0 (epochs_of marks) (Some (later - 1) ∷ []) (readied_of v ran) (outcomes_of ran) later
          (length marks)
          (readied_later v.epoch 0 (epochs_of marks) (readied_of v ran) (outcomes_of ran) high later (length s.earlier)
          (length marks) up (omega (arith, long)) s.readied));
    }

-- a line was run
shown_line : (high : ℕ) (ran : List LineRan) (first : Stood) (more : List Stood) (v : View) (line : LineRan)
    (mid new : LogState) → high ≡ line.before.epoch → IsMarkedBelow mid.mark line.before → is_unrun line.outcome ≡ false
    → IsSince line.before.epoch line.outcome → line.after.seat.marks ≡ line.before.seat.marks → new.mark ≡ mid.mark
    → line.before.seat.marks ≡ v.seat.marks ++ map core_of more
    → RanShown high ran (first ∷ more) v line.before mid
    → RanShown (epoch_behind line.before.epoch line.outcome) (ran ++ line ∷ []) (first ∷ more) v line.after new
shown_line high ran first more v line mid new seen marked began since stays same words s =
    let marks = first ∷ more in
    let behind = epoch_behind line.before.epoch line.outcome in
    let r : Readied = record {
      epoch = line.before.epoch;
      place = length line.before.seat.marks - length v.seat.marks;
    } in
    let many : length line.before.seat.marks ≡ length v.seat.marks + length more =
    ap (λ (l : List core.Mark). length l) words ∙ length-append v.seat.marks (map core_of more)
    ∙ ap (λ n. length v.seat.marks + n) (cores_long more) in
    let long = ends_long first s.end more s.earlier s.ends in
    let place : r.place ≡ length s.earlier = omega (arith, many, long) in
    let named : s.end.mark.epoch ≡ Some (line.before.epoch - 1) = ap (λ (m : Mark). m.epoch) s.is ∙ marked.epoch in
    let stood : slice_get (epochs_of marks) r.place ≡ Some (Some (line.before.epoch - 1)) =
    ap (λ l. slice_get l r.place) (ap epochs_of s.ends ∙ epochs_end s.earlier s.end)
    ∙ ap (λ n. slice_get (epochs_of s.earlier ++ s.end.mark.epoch ∷ []) n) (place ∙ sym (epochs_long s.earlier))
    ∙ last_at (epochs_of s.earlier) s.end.mark.epoch ∙ ap Some named in
    let some = marked.some in
    record {
      last = subst (λ m. IsTied m line.after.seat.marks) (sym same) (subst (IsTied mid.mark) (sym stays) s.last);
      earlier = s.earlier;
      end = s.end;
      ends = s.ends;
      is = s.is ∙ sym same;
      small = s.small;
      rise = s.rise;
      readied = subst (λ n. ReadiedUpTo v.epoch 0 (epochs_of marks) (readied_of v (ran ++ line ∷ []))
          (outcomes_of (ran ++ line ∷ [])) behind n) place
          (subst (λ l. ReadiedUpTo v.epoch 0 (epochs_of marks) l (outcomes_of (ran ++ line ∷ [])) behind r.place)
          (sym (readied_push_of v ran line))
          (subst (λ o. ReadiedUpTo v.epoch 0 (epochs_of marks) (readied_of v ran ++ r ∷ []) o behind r.place)
          (sym (outcomes_more ran line))
          (readied_push v.epoch 0 (epochs_of marks) (readied_of v ran) (outcomes_of ran) high (length s.earlier) r
          line.outcome s.readied (omega (arith, seen)) (omega (arith, place)) (record {
            ran = began;
            mark = line.before.epoch - 1;
            stood = stood;
            late = omega (arith, some);
            drew = drew_line line.before.epoch line.outcome since;
          }))));
    }

-- the lines of one commit more are its bytes more
longer_lines : (commits : List Commit) (c : Commit)
    → length (lines_bytes (commits ++ c ∷ [])) ≡ length (lines_bytes commits) + length (line_bytes c)
longer_lines commits c =
    ap length (flat_map-append line_bytes commits (c ∷ []) ∙ ap (λ l. lines_bytes commits ++ l) (append-nil (line_bytes c)))
    ∙ length-append (lines_bytes commits) (line_bytes c)

-- a log that took a commit, if there was one, is longer by it
longer_took : (commits : List Commit) (logged : Option Commit) (old mid new : LogState) → IsLongerBy commits old mid
    → TakesCommit logged mid new → IsLongerBy (commits ++ option_to_list logged) old new
longer_took commits None old mid new so takes =
    ap (λ (l : LogState). end_of l.journal) takes ∙ so
    ∙ ap (λ l. end_of old.journal + length (lines_bytes l)) (sym (append-nil commits))
longer_took commits (Some c) old mid new so takes =
    let one = ap length takes.lines ∙ length-append mid.journal.lines (line_bytes c) in
    omega (arith, takes.durable, one, so, longer_lines commits c)

module _ {D : Type 0} {tells : D → Option (List ℕ)} {clock : D → ℕ} {image_at : D → ℕ → List ℕ → Type 0}
    {faults : D → ℕ} where
  -- no line
  pub ran_begin : (tries : ℕ) {v : View} {log : LogState} {bank : D} → IsCell tells v log bank
      → RanOver tells clock image_at faults tries v.epoch [] [] v v log log bank bank
  ran_begin tries {v = v} {log = log} {bank = bank} is = record {
    row = goes_none v;
    over = is.over;
    later = omega arith;
    reached = inl (omega arith);
    since = tt;
    lines_are = tt;
    steps = omega arith;
    looked = tt;
    marked = tt;
    shows = shows_one (λ late. absurd (omega (arith, late))) (shows_none v.epoch v.epoch log bank);
    longer = omega arith;
    words = sym (append-nil v.seat.marks);
    shown = shown_begin v log (clock bank);
    mark = inl refl;
    blames = blames_none bank log.journal is.up.up;
    reaches = is.up.reaches;
    limit = refl;
  }

  -- between two lines: the clock was loaded, and a call of the log made
  pub ran_ready : {tries high : ℕ} {ran : List LineRan} {more : List Stood} {v w x : View} {old mid new : LogState}
      {before between now : D} (fault : Option LogFault)
      → RanOver tells clock image_at faults tries high ran more v w old mid before between
      → Readies tells clock image_at faults fault w x mid new between now
      → (then : List Stood) × RanOver tells clock image_at faults tries x.epoch ran then v x old new before now
  ran_ready {tries = tries} {high = high} {ran = ran} {more = more} {v = v} {w = w} {x = x} {old = old} {mid = mid}
      {new = new} {before = before} {now = now} fault so ready = by_mark ready.shown
    where
      first : Stood
      first = record { mark = old.mark; since = clock before }

      reached : high ≤ x.epoch
      reached = reached_by high x.epoch w so.reached ready.rises ready.above ready.drawn

      later : v.epoch ≤ x.epoch
      later = omega (arith, so.later, reached)

      moved : LogShows tells clock image_at v.epoch x.epoch (logged_of ran) (first ∷ more) old new before now
      moved = shows_move later reached so.shows ready.moves.runs

      on : (then : List Stood)
          → LogShows tells clock image_at v.epoch x.epoch (logged_of ran) (first ∷ then) old new before now
          → x.seat.marks ≡ v.seat.marks ++ map core_of then → AllByRecursion (HasMarks v then) ran
          → (IsTied old.mark v.seat.marks → IsMark old.mark → RanShown x.epoch ran (first ∷ then) v x new)
          → RanOver tells clock image_at faults tries x.epoch ran then v x old new before now
      on then shows words marked shown = record {
        row = row_goes tries v ran w x so.row ready.goes;
        over = ready.over;
        later = later;
        reached = inl (omega arith);
        since = so.since;
        lines_are = so.lines_are;
        steps = let before = so.steps in let on = ready.steps in omega (arith, before, on);
        looked = so.looked;
        marked = marked;
        shows = shows;
        longer = ready.moves.end ∙ so.longer;
        words = words;
        shown = shown;
        mark = keeps_then v.epoch high x.epoch old mid new later reached so.mark ready.moves.mark;
        blames = blames_move fault so.blames ready.moves;
        reaches = ready.moves.reaches;
        limit = ready.moves.limit ∙ so.limit;
      }

      counted : new.mark ≢ mid.mark → (new.mark ≡ mid.mark) ⊎ (new.mark.length ≡ new.journal.durable)
          → new.mark.length ≡ new.journal.durable
      counted other (inl same) = absurd (other same)
      counted other (inr all) = all

      by_mark : ShowsMark mid.mark new.mark w x
          → (then : List Stood) × RanOver tells clock image_at faults tries x.epoch ran then v x old new before now
      by_mark (inl (same, stays)) = (
        more,
        on more moved (stays ∙ so.words) so.marked
            (λ tied small. shown_same high x.epoch ran (first ∷ more) v w x mid new reached same stays
            (so.shown tied small)),
      )
      by_mark (inr (small, named, set, other)) =
          let one : Stood = record { mark = new.mark; since = clock now } in (
            more ++ one ∷ [],
            on (more ++ one ∷ []) (shows_one (λ late. counted other ready.moves.counts) moved)
                (set ∙ ap (λ l. l ++ core_mark new.mark ∷ []) so.words
                ∙ append_assoc v.seat.marks (map core_of more) (core_mark new.mark ∷ [])
                ∙ ap (λ l. v.seat.marks ++ l) (sym (cores_push more one)))
                (all_weaker (HasMarks v more) (HasMarks v (more ++ one ∷ [])) (marks_more v more one) ran so.marked)
                (λ tied first_small. shown_more high x.epoch (clock now) ran (first ∷ more) v w x mid new reached
                ready.above small named set (so.shown tied first_small)),
          )

  -- A line was run, for which the log had been made ready at this epoch. What is loaded behind it is none below the
  -- epoch of its commit.
  pub ran_line : {tries high : ℕ} {ran : List LineRan} {more : List Stood} {v w x : View} {old mid new : LogState}
      {before now : D} (ops : List Op) → high ≡ w.epoch
      → RanOver tells clock image_at faults tries high ran more v w old mid before now
      → IsMarkedBelow mid.mark w → HasLookedSince (steps_behind v.steps ran) w
      → (line : LogsLine tries ops w x mid new)
      → RanOver tells clock image_at faults tries (epoch_behind w.epoch line.outcome) (ran ++ record {
        ops = ops;
        outcome = line.outcome;
        refused = line.refused;
        logged = line.logged;
        before = w;
        after = x;
      } ∷ []) more v x old new before now
  ran_line {tries = tries} {high = high} {ran = ran} {more = more} {v = v} {w = w} {x = x} {old = old} {mid = mid}
      {new = new} {before = before} {now = now} ops seen so marked look line =
      let some : 1 ≤ high = omega (arith, seen, marked.some) in
      let first : Stood = record { mark = old.mark; since = clock before } in
      let one : LineRan = record {
        ops = ops;
        outcome = line.outcome;
        refused = line.refused;
        logged = line.logged;
        before = w;
        after = x;
      } in
      let kept = line_keeps tries ops line.outcome line.refused line.logged w x line.comes in
      let pushed = logged_push ran one in
      let same = row_layout tries v ran w so.row in
      let mark : mark_of w.seat.marks ≡ Some (w.epoch - 1) = mark_found mid.mark w marked in
      let above : (c : Commit) → line.logged ≡ Some c → high ≤ c.number.epoch = λ c is.
      let over = line_above tries ops line.outcome line.refused line.logged w x (w.epoch - 1) line.comes mark c is in
      omega (arith, seen, marked.some, over) in
      let drew : IsSince w.epoch line.outcome =
      since_low w.epoch (w.epoch - 1 + 1) line.outcome (omega (arith, marked.some))
      (line_since tries ops line.outcome line.refused line.logged w x (w.epoch - 1) line.comes mark) in
      let last : last_marked x.seat.marks ≡ w.epoch - 1 =
      ap last_marked (kept.marks ∙ marked.tied.last)
      ∙ last_marked_last marked.tied.earlier (core_mark mid.mark) (w.epoch - 1) marked.epoch in
      let behind = epoch_behind w.epoch line.outcome in
      let late : w.epoch ≤ behind = behind_late w.epoch line.outcome drew in
      let up : high ≤ behind = omega (arith, seen, late) in
      record {
        row = row_push tries v ran w one so.row (goes_none w) line.comes;
        over = kept.over;
        later = omega (arith, so.later, up);
        reached = line_reached tries ops line.outcome line.refused line.logged w x w.epoch line.comes
            (omega (arith, last));
        since = all_push (λ (r : LineRan). IsSince v.epoch r.outcome) ran one so.since
            (since_low v.epoch w.epoch line.outcome (omega (arith, so.later, seen)) drew);
        lines_are = subst (AllByRecursion (IsLineOf v.layout.decls)) (sym pushed)
            (all_append (IsLineOf v.layout.decls) (logged_of ran) (option_to_list line.logged) so.lines_are
            (subst (λ l. AllByRecursion (IsLineOf l.decls) (option_to_list line.logged)) same line.line));
        steps = let end = behind_push v.steps ran one in omega (arith, end);
        looked = looked_push v.steps ran one so.looked look;
        marked = all_push (HasMarks v more) ran one so.marked
            (record { shown = more; still = []; whole = sym (append-nil more); marks = so.words });
        shows = subst (λ l. LogShows tells clock image_at v.epoch behind l (first ∷ more) old new before now)
            (sym pushed) (shows_later up (shows_commit line.logged some so.later above so.shows line.takes));
        longer = subst (λ l. IsLongerBy l old new) (sym pushed)
            (longer_took (logged_of ran) line.logged old mid new so.longer line.takes);
        words = kept.marks ∙ so.words;
        shown = λ tied small. shown_line high ran first more v one mid new seen marked
            (began_line tries ops line.outcome line.refused line.logged w x line.comes) drew kept.marks
            (mark_took mid new line.logged line.takes) so.words (so.shown tied small);
        mark = keeps_later v.epoch high behind old new up
            (keeps_commit v.epoch high old mid new line.logged so.mark line.takes);
        blames = blames_took mid new line.logged so.blames line.takes;
        reaches = reaches_took tells now mid new line.logged so.reaches line.takes;
        limit = limit_took mid new line.logged line.takes ∙ so.limit;
      }
