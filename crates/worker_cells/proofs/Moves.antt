-- Calls of a log, one after another, and what is known to be shown of its mark.
use Rattle.std.proofs.Common.{◌≡◌, ◌<◌, ◌≤◌, ◌^◌, ◌-◌, ◌++◌, ◌∷◌, inl, inr, refl, sym, ◌∙◌, ap, ap₂, subst, ℕ, List, []}
use Rattle.std.proofs.Common.{Option, Some, None, arith, drop, length}
use Rattle.std.specs.Prelude.{◌≢◌, ◌⊎◌, Bool, Contains, false, true, is_some, OnOk, Result, Ok, Err}
use Rattle.std.proofs.lemmas.List.Elements.{Contains-append_left}
use Rattle.lists.specs.Fronts.{IsFront, front_rest}
use Rattle.serial_model.specs.Numbers.{last_epoch}
use Rattle.wire_form.specs.Words.{IsMark}
use Rattle.wire_form.specs.declared.clock.Mark.{Mark}
use Rattle.commit_core.specs.CoreState.{last_marked}
use Rattle.commit_core.specs.declared.attempt.Attempt.{Attempt}
use Rattle.commit_core.specs.declared.seat.Mark as core
use Rattle.commit_core.specs.declared.seat.Seat.{Seat}
use Rattle.engine_pages.specs.declared.view.View.{View}
use Rattle.log_writer.specs.Journal.{JournalState}
use Rattle.log_writer.specs.declared.journal.LogFault.{LogFault}
use Rattle.log_writer.specs.declared.journal.LogFault.TheVariants.{Device, Down, Limit}
use Rattle.worker_logs.specs.Logs.{IsEpochUpTo, IsJoined, IsUpTo, LogState}
use Rattle.worker_logs.specs.Moves.{MovesLog, refusal}
use Rattle.worker_logs.specs.RowLaws.{was_up}
use Rattle.engine_seats.specs.Clock.{marked}
use Rattle.engine_seats.specs.Cuts.{HasSeen}
use Rattle.tx_runner.specs.Below.{IsOver}
use Rattle.tx_runner.specs.Epochs.{HasSeenEpoch}
use Rattle.worker_cells.specs.Cells.{IsMarkedBelow, IsTied, Readies, ShowsFirst, ShowsMark, core_mark, fails}
use Rattle.worker_cells.specs.InARow.{goes_then}
use Rattle.worker_cells.specs.Rows.{Goes}
use Rattle.worker_cells.proofs.Over.{last_marked_last}

-- it was refused
abbrev pub is_err_of : {T E : Type 0} → Result T E → Bool
is_err_of (Ok x) = false
is_err_of (Err e) = true

-- what a flush answered, by the journal that it left
module _ {D : Type 0} {tells : D → Option (List ℕ)} {clock : D → ℕ} {image_at : D → ℕ → List ℕ → Type 0}
    {faults : D → ℕ} {before now : D} where
  -- a fault where the journal is down
  pub flushed_down : {T : Type 0} {epoch : ℕ} {old new : LogState} (result : Result T LogFault)
      → MovesLog tells clock image_at faults epoch old new before now (refusal result)
      → ((length : ℕ) → result ≢ Err (Limit length)) → is_err_of result ≡ is_some new.journal.down
  flushed_down (Ok done) moves not_full = sym (ap is_some (moves.stays_up (λ is. cc) ∙ was_up moves))
  flushed_down (Err Device) moves not_full = sym (ap is_some (moves.goes_down refl))
  flushed_down (Err (Down count)) moves not_full =
      sym (ap is_some (moves.stays_up (λ is. cc) ∙ (moves.down count).0 refl))
  flushed_down (Err (Limit length)) moves not_full = absurd (not_full length refl)

  -- and where it is up no line waits
  pub flushed_up : {T : Type 0} (at : ℕ) {epoch : ℕ} {old new : LogState} (result : Result T LogFault)
      → MovesLog tells clock image_at faults epoch old new before now (refusal result)
      → ((length : ℕ) → result ≢ Err (Limit length)) → OnOk result (IsJoined at new)
      → new.journal.down ≡ None → new.journal.lines ≡ []
  flushed_up at (Ok done) moves not_full joined up = joined.flushed
  flushed_up at (Err Device) moves not_full joined up = absurd (let no = sym (moves.goes_down refl) ∙ up in cc)
  flushed_up at (Err (Down count)) moves not_full joined up =
      absurd (let no = sym (moves.stays_up (λ is. cc) ∙ (moves.down count).0 refl) ∙ up in cc)
  flushed_up at (Err (Limit length)) moves not_full joined up = absurd (not_full length refl)

-- where the log was refused, by the fault
pub down_by : {D : Type 0} {tells : D → Option (List ℕ)} {clock : D → ℕ} {image_at : D → ℕ → List ℕ → Type 0}
    {faults : D → ℕ} {before now : D} {epoch : ℕ} {old new : LogState} (fault : LogFault)
    → MovesLog tells clock image_at faults epoch old new before now (Some fault) → false ≡ is_some old.journal.down
    → fails fault ≡ is_some new.journal.down
down_by Device moves up = sym (ap is_some (moves.goes_down refl))
down_by (Down count) moves up = sym (ap is_some (moves.stays_up (λ is. cc) ∙ (moves.down count).0 refl))
down_by (Limit size) moves up = up ∙ sym (ap is_some (moves.stays_up (λ is. cc)))

-- ---- the mark of a log that a call has left

-- A mark that is shown and holds no epoch back that the clock has left is of the epoch before: it is none of a later
-- one.
pub marked_below : (clock : ℕ) (old new : Mark) (marks : List core.Mark) → IsTied old marks
    → last_marked marks < clock → (new ≡ old) ⊎ (new.epoch ≡ Some (clock - 1)) → IsEpochUpTo clock new.epoch
    → new.epoch ≡ Some (clock - 1)
marked_below clock old new marks tied below (inr set) up = set
marked_below clock old new marks tied below (inl same) up =
    let last : last_marked marks ≡ tied.epoch =
    ap last_marked tied.last ∙ last_marked_last tied.earlier (core_mark old) tied.epoch tied.named in
    let is : new.epoch ≡ Some tied.epoch = ap (λ (m : Mark). m.epoch) same ∙ tied.named in
    let late : IsEpochUpTo clock (Some tied.epoch) = subst (IsEpochUpTo clock) is up in
    is ∙ ap Some (omega (arith, last, below, late))

-- it is so on the words, behind a load of the clock, where it is shown
pub ready_marked : {T : Type 0} (clock : ℕ) (result : Result T LogFault) (old new : Mark) (w x : View)
    → IsTied old w.seat.marks → last_marked w.seat.marks < clock → x.epoch ≡ clock → ShowsMark old new w x
    → OnOk result (IsUpTo clock new) → OnOk result (IsMarkedBelow new x)
ready_marked clock (Err fault) old new w x tied below seen shows up = tt
ready_marked clock (Ok done) old new w x tied below seen (inl (same, stays)) up =
    let named = marked_below clock old new w.seat.marks tied below (inl same) up in record {
      some = omega (arith, below, seen);
      epoch = named ∙ ap (λ n. Some (n - 1)) (sym seen);
      tied = subst (IsTied new) (sym stays) (subst (λ m. IsTied m w.seat.marks) (sym same) tied);
    }
ready_marked clock (Ok done) old new w x tied below seen (inr (small, named, set, other)) up = record {
  some = omega (arith, below, seen);
  epoch = named;
  tied = record { earlier = w.seat.marks; last = set; epoch = x.epoch - 1; named = named };
}

-- the same, as the pass had seen the words before that load
pub shows_since : (old new : Mark) (v w x : View) → w.seat ≡ v.seat → ShowsMark old new w x → ShowsMark old new v x
shows_since old new v w x same (inl (kept, stays)) = inl (kept, stays ∙ ap (λ (s : Seat). s.marks) same)
shows_since old new v w x same (inr (small, named, set, other)) =
    inr (small, named, set ∙ ap (λ (s : Seat). s.marks ++ core_mark new ∷ []) same, other)

-- what a log that is up, with nothing that waits, answers as it is flushed and marked
pub first_done : {T : Type 0} {D : Type 0} {tells : D → Option (List ℕ)} {clock : D → ℕ}
    {image_at : D → ℕ → List ℕ → Type 0} {faults : D → ℕ} {before now : D} {epoch : ℕ} {old new : LogState}
    (result : Result T LogFault) → MovesLog tells clock image_at faults epoch old new before now (refusal result)
    → ((length : ℕ) → result ≢ Err (Limit length)) → new.journal ≡ old.journal → old.journal.down ≡ None
    → refusal result ≡ None
first_done (Ok done) moves not_full same up = refl
first_done (Err Device) moves not_full same up =
    absurd (let no = sym (moves.goes_down refl) ∙ ap (λ (j : JournalState). j.down) same ∙ up in cc)
first_done (Err (Down count)) moves not_full same up = absurd (let no = sym ((moves.down count).0 refl) ∙ up in cc)
first_done (Err (Limit size)) moves not_full same up = absurd (not_full size refl)

-- and its mark then
pub first_joined : {T : Type 0} (at : ℕ) (result : Result T LogFault) (new : LogState) → refusal result ≡ None
    → OnOk result (IsJoined at new) → IsJoined at new
first_joined at (Ok done) new none joined = joined
first_joined at (Err fault) new none joined = absurd cc

-- a mark by its parts
abbrev mark_with : ℕ → Option ℕ → Mark
mark_with size epoch = record { length = size; epoch = epoch }

-- A call leaves the mark that was shown, or all that is durable is marked then, and no line waits.
pub moved_joined : {D : Type 0} {tells : D → Option (List ℕ)} {clock : D → ℕ} {image_at : D → ℕ → List ℕ → Type 0}
    {faults : D → ℕ} {before now : D} {old new : LogState} (at : ℕ) (shown : Mark) {fault : Option LogFault}
    → MovesLog tells clock image_at faults (at - 1) old new before now fault → shown ≡ old.mark
    → (new.mark ≡ shown) ⊎ IsJoined at new
moved_joined at shown moves is = elim moves.mark [
  | inl same ↦ inl (same ∙ sym is)
  | inr named ↦ elim moves.counts [
    | inl same ↦ inl (same ∙ sym is)
    | inr all ↦ elim moves.flushed [
      | inl same ↦ inl (same ∙ sym is)
      | inr none ↦ inr record {
        flushed = none;
        marked = ap₂ (λ (n : ℕ) (e : Option ℕ). mark_with n e) all named;
      }
    ]
  ]
]

-- a mark that isn't the one that is shown counts all that is durable
pub joined_anew : (at : ℕ) (log : LogState) (shown now : Mark) → (log.mark ≡ shown) ⊎ IsJoined at log → now ≡ log.mark
    → now ≢ shown → IsJoined at log
joined_anew at log shown now (inl same) is other = absurd (other (is ∙ same))
joined_anew at log shown now (inr joined) is other = joined

-- and it is set on the words
pub joined_shown : (at : ℕ) (log : LogState) (shown now : Mark) (v w : View) → IsJoined at log → now ≡ log.mark
    → now ≢ shown → at ≤ last_epoch → log.journal.durable < 2 ^ 40 → v.epoch ≡ at
    → w ≡ marked (record { epoch = Some (at - 1); length = log.journal.durable }) v → ShowsMark shown log.mark v w
joined_shown at log shown now v w joined is other few counted saw set = inr (
  subst IsMark (sym joined.marked) (record { length = counted; epoch = omega (arith, few) }),
  ap (λ (m : Mark). m.epoch) joined.marked
      ∙ ap (λ (n : ℕ). Some (n - 1)) (sym saw ∙ sym (ap (λ (x : View). x.epoch) set)),
  ap (λ (x : View). x.seat.marks) set ∙ ap (λ (m : Mark). v.seat.marks ++ core_mark m ∷ []) (sym joined.marked),
  λ same. other (is ∙ same),
)

-- what stands in the first of some numbers that were drawn stands in all
in_front : (xs ys : List Attempt) (a : Attempt) → IsFront xs ys → Contains xs a → Contains ys a
in_front xs ys a front has =
    subst (λ l. Contains l a) (front_rest xs ys front) (Contains-append_left xs (drop (length xs) ys) a has)

-- The clock was loaded, a call of the log made, and its mark set on the words where it is a new one.
pub readies_so : {D : Type 0} {tells : D → Option (List ℕ)} {clock : D → ℕ} {image_at : D → ℕ → List ℕ → Type 0}
    {faults : D → ℕ} {before now : D} {old new : LogState} (epoch : ℕ) (v w x : View) (shown set : Mark)
    (fault : Option LogFault) → HasSeenEpoch epoch v w → Goes w x → IsOver x → x.epoch ≡ epoch
    → MovesLog tells clock image_at faults (epoch - 1) old new before now fault
    → shown ≡ old.mark → set ≡ new.mark → ShowsMark shown set w x → x.last ≡ w.last → w.steps ≤ x.steps
    → Readies tells clock image_at faults fault v x old new before now
readies_so {tells = tells} {clock = clock} {image_at = image_at} {faults = faults} {before = before} {now = now}
    {old = old} {new = new} epoch v w x shown set fault seen goes over at moves is_old is_new shows last on = record {
      goes = goes_then v w x (record {
        seen = seen.seen;
        layout = seen.layout;
        role = seen.role;
        mine = seen.mine;
        refused = seen.refused;
        draws = seen.draws;
        touched = seen.touched;
        blamed = seen.blamed;
      }) goes;
      over = over;
      rises = subst (λ n. v.epoch ≤ n) (sym at) seen.rises;
      above = subst (λ n. last_marked v.seat.marks < n) (sym at) seen.marked;
      drawn = λ a has. subst (λ n. a.number.epoch ≤ n) (sym at)
          (seen.drawn a (in_front v.history w.history a seen.seen.history has));
      moves = subst (λ n. MovesLog tells clock image_at faults (n - 1) old new before now fault) (sym at) moves;
      shown = shows_since old.mark new.mark v w x seen.seat
          (subst (λ m. ShowsMark old.mark m w x) is_new (subst (λ m. ShowsMark m set w x) is_old shows));
      steps = let one = seen.steps in omega (arith, one, on);
      looked = record {
        step = v.steps;
        word = seen.looked.0;
        since = omega arith;
        last = last ∙ seen.looked.1;
        epoch = seen.looked.2 ∙ sym at;
      };
    }

-- As a round begins the log's new mark was set on the words.
pub first_shown : {D : Type 0} {tells : D → Option (List ℕ)} {clock : D → ℕ} {image_at : D → ℕ → List ℕ → Type 0}
    {faults : D → ℕ} {before now : D} {old new : LogState} (epoch : ℕ) (v w x : View)
    {fault : Option LogFault} → HasSeenEpoch epoch v w
    → x ≡ marked (record { epoch = Some (epoch - 1); length = new.journal.durable }) w → IsOver x → fault ≡ None
    → MovesLog tells clock image_at faults (epoch - 1) old new before now fault → IsJoined epoch new
    → new.journal.durable < 2 ^ 40 → new.journal ≡ old.journal → now ≡ before
    → ShowsFirst tells clock image_at faults v x old new before now
first_shown {tells = tells} {clock = clock} {image_at = image_at} {faults = faults} {before = before} {now = now}
    {old = old} {new = new} epoch v w x seen is over none moves joined counted journal bank =
    let named : new.mark.epoch ≡ Some (epoch - 1) = ap (λ (m : Mark). m.epoch) joined.marked in
    let at : x.epoch ≡ epoch = ap (λ (y : View). y.epoch) is ∙ seen.now in record {
      goes = record {
        seen = subst (HasSeen v) (sym is) (record { history = seen.seen.history; decided = seen.seen.decided });
        layout = ap (λ (y : View). y.layout) is ∙ seen.layout;
        role = ap (λ (y : View). y.role) is ∙ seen.role;
        mine = ap (λ (y : View). y.mine) is ∙ seen.mine;
        refused = ap (λ (y : View). y.refused) is ∙ seen.refused;
        draws = ap (λ (y : View). y.draws) is ∙ seen.draws;
        touched = ap (λ (y : View). y.touched) is ∙ seen.touched;
        blamed = ap (λ (y : View). y.blamed) is ∙ seen.blamed;
      };
      over = over;
      rises = subst (λ n. v.epoch ≤ n) (sym at) seen.rises;
      some = let above = seen.marked in omega (arith, above, at);
      moves = subst (λ n. MovesLog tells clock image_at faults (n - 1) old new before now None) (sym at)
          (subst (MovesLog tells clock image_at faults (epoch - 1) old new before now) none moves);
      small = subst IsMark (sym joined.marked)
          (record { length = counted; epoch = let few = seen.few in omega (arith, few) });
      epoch = named ∙ ap (λ n. Some (n - 1)) (sym at);
      marks = ap (λ (y : View). y.seat.marks) is
          ∙ ap (λ (s : Seat). s.marks ++ record { epoch = Some (epoch - 1); length = new.journal.durable } ∷ [])
          seen.seat
          ∙ ap (λ (m : Mark). v.seat.marks ++ core_mark m ∷ []) (sym joined.marked);
      joined = subst (λ n. IsJoined n new) (sym at) joined;
      journal = journal;
      bank = bank;
    }
