-- What is told worker by worker, as lists and by index.
use Rattle.std.proofs.Common.{◌≡◌, ◌∙◌, sym, ap, subst, refl, ℕ, suc, zero, ◌+◌, List, [], ◌∷◌, length, map}
use Rattle.std.proofs.Common.{arith, Option, Some, None}
use Rattle.std.specs.Prelude.{get_or, is_some, slice_get, ◌++◌}
use Rattle.std.proofs.Common.{append_assoc}
use Rattle.std.specs.List.{Contains}
use Rattle.std.proofs.lemmas.Option.{same_Some}
use Rattle.serial_model.specs.declared.op.Op.{Op}
use Rattle.commit_core.specs.declared.seat.Mark.{Mark}
use Rattle.commit_core.specs.declared.seat.Seat.{Seat}
use Rattle.engine_pages.specs.Views.{bare_seat}
use Rattle.engine_pages.specs.declared.view.View.{View}
use Rattle.wire_form.specs.declared.clock.Mark.{Mark as LogMark}
use Rattle.script_grammar.specs.Script.{Round, lines_of_worker}
use Rattle.tx_script.specs.declared.outcome.Outcome.{Outcome}
use Rattle.tx_script.specs.declared.outcome.Outcome.TheVariants.{Unrun}
use Rattle.worker_cells.specs.Cells.{core_mark, core_of}
use Rattle.worker_cells.specs.Rows.{logged_of}
use Rattle.worker_cells.specs.declared.cell.LogEnd.{LogEnd}
use Rattle.worker_logs.specs.Logs.{LogState}
use Rattle.worker_logs.specs.Shown.{Stood}
use Rattle.shared_rounds.specs.Ended.{AreLeft, AreTold}
use Rattle.shared_rounds.specs.Parts.{AreParts, Part, marks_parked, share_of}
use Rattle.shared_rounds.specs.SharedState.{last_mark, marks_of}
use Rattle.shared_rounds.specs.Shares.{Share}
use Rattle.shared_rounds.specs.Workers.{LeavesOut, LeftBy, refusal_of}
use Rattle.shared_rounds.proofs.Joined.{shares_of}
use Rattle.shared_rounds.proofs.Left.{last_push}

-- what of a list is at an index, of one that begins with x
at_first : {X : Type 0} (P : X → Type 0) (x y : X) → Some x ≡ Some y → P x → P y
at_first P x y is one = subst P (same_Some x y is) one

-- the lines of so many workers from this one on
abbrev pub lines_from : Round → ℕ → ℕ → List (List (List Op))
lines_from round worker zero = []
lines_from round worker (suc n) = lines_of_worker round worker ∷ lines_from round (worker + 1) n

cores_end : (earlier : List Stood) (end : Stood)
    → map core_of (earlier ++ end ∷ []) ≡ map core_of earlier ++ core_of end ∷ []
cores_end [] end = refl
cores_end (m ∷ earlier) end = ap (λ l. core_of m ∷ l) (cores_end earlier end)

-- the last mark of a seat, whose words showed these
seat_last : (p : Part) (before : List Mark) (mark : LogMark) → p.to.seat.marks ≡ before ++ map core_of p.marks
    → (earlier : List Stood) × (end : Stood) × (p.marks ≡ earlier ++ end ∷ []) × (end.mark ≡ mark)
    → last_mark p.to.seat.marks ≡ core_mark mark
seat_last p before mark words ends =
    let earlier : List Stood = ends.0 in
    let end : Stood = ends.1 in
    ap last_mark (words ∙ ap (λ (l : List Stood). before ++ map core_of l) ends.2
    ∙ ap (λ (l : List Mark). before ++ l) (cores_end earlier end)
    ∙ sym (append_assoc before (map core_of earlier) (core_of end ∷ [])))
    ∙ last_push (before ++ map core_of earlier) (core_of end) ∙ ap core_mark ends.3

-- what the words showed of the worker at a place
pub words_at : (tries : ℕ) (was ended : View) (worker : ℕ) (parts : List Part) → AreParts tries was ended worker parts
    → (i place : ℕ) (p : Part) → place ≡ worker + i → slice_get parts i ≡ Some p
    → p.to.seat.marks ≡ marks_parked was place ++ map core_of p.marks
words_at tries was ended worker [] are i place p here at = absurd cc
words_at tries was ended worker (q ∷ parts) are zero place p here at =
    let same : worker ≡ place = omega (arith, here) in
    at_first (λ (x : Part). x.to.seat.marks ≡ marks_parked was place ++ map core_of x.marks) q p at
    (subst (λ n. q.to.seat.marks ≡ marks_parked was n ++ map core_of q.marks) same are.0.words)
words_at tries was ended worker (q ∷ parts) are (suc i) place p here at =
    words_at tries was ended (worker + 1) parts are.1 i place p (omega (arith, here)) at

module _ (round : Round) where
  pub told_lines : (worker : ℕ) (parts : List Part) (outcomes : List (List Outcome)) (ends : List LogEnd)
      (logs_was logs : List LogState) → AreTold round worker parts outcomes ends logs_was logs
      → map (λ (share : Share). share.lines) (shares_of parts) ≡ lines_from round worker (length parts)
  told_lines worker [] [] [] [] [] are = refl
  told_lines worker (p ∷ parts) (o ∷ outcomes) (e ∷ ends) (old ∷ lw) (new ∷ ls) are =
      ap (λ l. l ∷ map (λ (share : Share). share.lines) (shares_of parts)) are.0.lines_are
      ∙ ap (λ l. lines_of_worker round worker ∷ l) (told_lines (worker + 1) parts outcomes ends lw ls are.1)
  told_lines worker _ _ _ _ _ are = absurd are

  pub told_outcomes : (worker : ℕ) (parts : List Part) (outcomes : List (List Outcome)) (ends : List LogEnd)
      (logs_was logs : List LogState) → AreTold round worker parts outcomes ends logs_was logs
      → outcomes ≡ map (λ (share : Share). share.outcomes) (shares_of parts)
  told_outcomes worker [] [] [] [] [] are = refl
  told_outcomes worker (p ∷ parts) (o ∷ outcomes) (e ∷ ends) (old ∷ lw) (new ∷ ls) are =
      ap (λ l. l ∷ outcomes) are.0.told
      ∙ ap (λ l. (share_of p).outcomes ∷ l) (told_outcomes (worker + 1) parts outcomes ends lw ls are.1)
  told_outcomes worker _ _ _ _ _ are = absurd are

  pub told_refusals : (worker : ℕ) (parts : List Part) (outcomes : List (List Outcome)) (ends : List LogEnd)
      (logs_was logs : List LogState) → AreTold round worker parts outcomes ends logs_was logs
      → map refusal_of ends ≡ map (λ (share : Share). share.refusal) (shares_of parts)
  told_refusals worker [] [] [] [] [] are = refl
  told_refusals worker (p ∷ parts) (o ∷ outcomes) (e ∷ ends) (old ∷ lw) (new ∷ ls) are =
      ap (λ r. r ∷ map refusal_of ends) are.0.refusal
      ∙ ap (λ l. p.refusal ∷ l) (told_refusals (worker + 1) parts outcomes ends lw ls are.1)
  told_refusals worker _ _ _ _ _ are = absurd are

  pub told_idle : (worker : ℕ) (parts : List Part) (outcomes : List (List Outcome)) (ends : List LogEnd)
      (logs_was logs : List LogState) → AreTold round worker parts outcomes ends logs_was logs
      → (i : ℕ) (share : Share) (old new : LogState) → slice_get (shares_of parts) i ≡ Some share → share.lines ≡ []
      → slice_get logs_was i ≡ Some old → slice_get logs i ≡ Some new → new ≡ old
  told_idle worker [] [] [] [] [] are i share old new at none was is = absurd cc
  told_idle worker (p ∷ parts) (o ∷ outcomes) (e ∷ ends) (a ∷ lw) (b ∷ ls) are zero share old new at none was is =
      let mine : (share_of p).lines ≡ share.lines = ap (λ (x : Share). x.lines) (same_Some (share_of p) share at) in
      sym (same_Some b new is) ∙ are.0.idle (sym are.0.lines_are ∙ mine ∙ none) ∙ same_Some a old was
  told_idle worker (p ∷ parts) (o ∷ outcomes) (e ∷ ends) (a ∷ lw) (b ∷ ls) are (suc i) share old new at none was is =
      told_idle (worker + 1) parts outcomes ends lw ls are.1 i share old new at none was is
  told_idle worker _ _ _ _ _ are i share old new at none was is = absurd are

  pub told_failed : (worker : ℕ) (parts : List Part) (outcomes : List (List Outcome)) (ends : List LogEnd)
      (logs_was logs : List LogState) → AreTold round worker parts outcomes ends logs_was logs
      → (i : ℕ) (end : LogEnd) (log : LogState) → slice_get ends i ≡ Some end → slice_get logs i ≡ Some log
      → end.failed ≡ is_some log.journal.down
  told_failed worker [] [] [] [] [] are i end log at is = absurd cc
  told_failed worker (p ∷ parts) (o ∷ outcomes) (e ∷ ends) (a ∷ lw) (b ∷ ls) are zero end log at is =
      at_first (λ (x : LogState). end.failed ≡ is_some x.journal.down) b log is
      (at_first (λ (x : LogEnd). x.failed ≡ is_some b.journal.down) e end at are.0.failed)
  told_failed worker (p ∷ parts) (o ∷ outcomes) (e ∷ ends) (a ∷ lw) (b ∷ ls) are (suc i) end log at is =
      told_failed (worker + 1) parts outcomes ends lw ls are.1 i end log at is
  told_failed worker _ _ _ _ _ are i end log at is = absurd are

  pub told_flushed : (worker : ℕ) (parts : List Part) (outcomes : List (List Outcome)) (ends : List LogEnd)
      (logs_was logs : List LogState) → AreTold round worker parts outcomes ends logs_was logs
      → (i : ℕ) (log : LogState) → slice_get logs i ≡ Some log → log.journal.down ≡ None → log.journal.lines ≡ []
  told_flushed worker [] [] [] [] [] are i log is = absurd cc
  told_flushed worker (p ∷ parts) (o ∷ outcomes) (e ∷ ends) (a ∷ lw) (b ∷ ls) are zero log is =
      at_first (λ (x : LogState). x.journal.down ≡ None → x.journal.lines ≡ []) b log is are.0.flushed
  told_flushed worker (p ∷ parts) (o ∷ outcomes) (e ∷ ends) (a ∷ lw) (b ∷ ls) are (suc i) log is =
      told_flushed (worker + 1) parts outcomes ends lw ls are.1 i log is
  told_flushed worker _ _ _ _ _ are i log is = absurd are

  -- the last of a worker's marks that were shown is its log's
  pub told_last : (worker : ℕ) (parts : List Part) (outcomes : List (List Outcome)) (ends : List LogEnd)
      (logs_was logs : List LogState) → AreTold round worker parts outcomes ends logs_was logs
      → (i : ℕ) (share : Share) (log : LogState) → slice_get (shares_of parts) i ≡ Some share
      → slice_get logs i ≡ Some log
      → (earlier : List Stood) × (end : Stood) × (share.marks ≡ earlier ++ end ∷ []) × (end.mark ≡ log.mark)
  told_last worker [] [] [] [] [] are i share log at is = absurd cc
  told_last worker (p ∷ parts) (o ∷ outcomes) (e ∷ ends) (a ∷ lw) (b ∷ ls) are zero share log at is =
      at_first (λ (x : LogState). (earlier : List Stood) × (end : Stood) × (share.marks ≡ earlier ++ end ∷ [])
      × (end.mark ≡ x.mark)) b log is
      (at_first (λ (q : Share). (earlier : List Stood) × (end : Stood) × (q.marks ≡ earlier ++ end ∷ [])
      × (end.mark ≡ b.mark)) (share_of p) share at are.0.last)
  told_last worker (p ∷ parts) (o ∷ outcomes) (e ∷ ends) (a ∷ lw) (b ∷ ls) are (suc i) share log at is =
      told_last (worker + 1) parts outcomes ends lw ls are.1 i share log at is
  told_last worker _ _ _ _ _ are i share log at is = absurd are

  -- that of a worker without a line is idle
  pub told_rests : (worker : ℕ) (parts : List Part) (outcomes : List (List Outcome)) (ends : List LogEnd)
      (logs_was logs : List LogState) → AreTold round worker parts outcomes ends logs_was logs
      → (i place : ℕ) (log : LogState) → slice_get logs i ≡ Some log → place ≡ worker + i
      → lines_of_worker round place ≡ [] → log.mark.epoch ≡ None
  told_rests worker [] [] [] [] [] are i place log is here none = absurd cc
  told_rests worker (p ∷ parts) (o ∷ outcomes) (e ∷ ends) (a ∷ lw) (b ∷ ls) are zero place log is here none =
      let same : place ≡ worker = omega (arith, here) in
      at_first (λ (x : LogState). x.mark.epoch ≡ None) b log is
      (are.0.rests (ap (lines_of_worker round) (sym same) ∙ none))
  told_rests worker (p ∷ parts) (o ∷ outcomes) (e ∷ ends) (a ∷ lw) (b ∷ ls) are (suc i) place log is here none =
      told_rests (worker + 1) parts outcomes ends lw ls are.1 i place log is (omega (arith, here)) none
  told_rests worker _ _ _ _ _ are i place log is here none = absurd are

  -- and the last mark of its seat is its log's
  pub told_mark : (worker : ℕ) (parts : List Part) (outcomes : List (List Outcome)) (ends : List LogEnd)
      (logs_was logs : List LogState) → AreTold round worker parts outcomes ends logs_was logs
      → (i : ℕ) (log : LogState) (mark : Mark) → slice_get logs i ≡ Some log
      → ((p : Part) → slice_get parts i ≡ Some p → (mark ≡ last_mark p.to.seat.marks)
      × (before : List Mark) × (p.to.seat.marks ≡ before ++ map core_of p.marks))
      → mark ≡ core_mark log.mark
  told_mark worker [] [] [] [] [] are i log mark is seat = absurd cc
  told_mark worker (p ∷ parts) (o ∷ outcomes) (e ∷ ends) (a ∷ lw) (b ∷ ls) are zero log mark is seat =
      let at = seat p refl in
      at.0 ∙ seat_last p at.1 b.mark at.2 are.0.last ∙ ap (λ (l : LogState). core_mark l.mark) (same_Some b log is)
  told_mark worker (p ∷ parts) (o ∷ outcomes) (e ∷ ends) (a ∷ lw) (b ∷ ls) are (suc i) log mark is seat =
      told_mark (worker + 1) parts outcomes ends lw ls are.1 i log mark is seat
  told_mark worker _ _ _ _ _ are i log mark is seat = absurd are

-- the mark of the seat at a place
pub seat_mark : (seats : List Seat) (worker : ℕ) (seat : Seat) (mark : Mark)
    → slice_get (marks_of seats) worker ≡ Some mark → get_or seats worker bare_seat ≡ seat → mark ≡ last_mark seat.marks
seat_mark [] worker seat mark is at = absurd cc
seat_mark (s ∷ seats) zero seat mark is at =
    sym (same_Some (last_mark s.marks) mark is) ∙ ap (λ (x : Seat). last_mark x.marks) at
seat_mark (s ∷ seats) (suc worker) seat mark is at = seat_mark seats worker seat mark is at

module _ {D : Type 0} (tells : D → Option (List ℕ)) (clock : D → ℕ) (image_at : D → ℕ → List ℕ → Type 0)
    (faults : D → ℕ) (low high : ℕ) where
  pub left_many : (parts : List Part) (logs_was logs : List LogState) (banks_was banks : List D)
      → AreLeft tells clock image_at faults low high parts logs_was logs banks_was banks
      → (length logs ≡ length logs_was) × (length banks ≡ length banks_was)
  left_many [] [] [] [] [] are = (refl, refl)
  left_many (p ∷ parts) (a ∷ lw) (b ∷ ls) (c ∷ bw) (d ∷ bs) are =
      let rest = left_many parts lw ls bw bs are.1 in (ap suc rest.0, ap suc rest.1)
  left_many _ _ _ _ _ are = absurd are

  pub left_at : (parts : List Part) (logs_was logs : List LogState) (banks_was banks : List D)
      → AreLeft tells clock image_at faults low high parts logs_was logs banks_was banks
      → (i : ℕ) (share : Share) (old new : LogState) (before now : D) → slice_get (shares_of parts) i ≡ Some share
      → slice_get logs_was i ≡ Some old → slice_get logs i ≡ Some new
      → slice_get banks_was i ≡ Some before → slice_get banks i ≡ Some now
      → LeftBy tells clock image_at faults low high share.logged share.marks share.refusal old new before now
  left_at [] [] [] [] [] are i share old new before now at was is bank_was bank_is = absurd cc
  left_at (p ∷ parts) (a ∷ lw) (b ∷ ls) (c ∷ bw) (d ∷ bs) are zero share old new before now at was is bank_was
      bank_is =
      at_first (λ (q : Share). LeftBy tells clock image_at faults low high q.logged q.marks q.refusal old new
      before now)
      (share_of p) share at
      (at_first (λ x. LeftBy tells clock image_at faults low high
      (logged_of p.ran) p.marks p.refusal x new before now) a old was
      (at_first (λ x. LeftBy tells clock image_at faults low high
      (logged_of p.ran) p.marks p.refusal a x before now) b new is
      (at_first (λ x. LeftBy tells clock image_at faults low high
      (logged_of p.ran) p.marks p.refusal a b x now) c before bank_was
      (at_first (λ x. LeftBy tells clock image_at faults low high (logged_of p.ran) p.marks p.refusal a b c x) d now
      bank_is
      are.0.left_by))))
  left_at (p ∷ parts) (a ∷ lw) (b ∷ ls) (c ∷ bw) (d ∷ bs) are (suc i) share old new before now at was is bank_was
      bank_is = left_at parts lw ls bw bs are.1 i share old new before now at was is bank_was bank_is
  left_at _ _ _ _ _ are i share old new before now at was is bank_was bank_is = absurd are

  -- what was left out of the lines of a worker
  pub out_at : (parts : List Part) (logs_was logs : List LogState) (banks_was banks : List D)
      → AreLeft tells clock image_at faults low high parts logs_was logs banks_was banks
      → (i : ℕ) (share : Share) (old : LogState) (before : D) → slice_get (shares_of parts) i ≡ Some share
      → slice_get logs_was i ≡ Some old → slice_get banks_was i ≡ Some before
      → LeavesOut tells clock image_at faults low (Contains share.outcomes Unrun) share.logged share.refusal old before
  out_at [] [] [] [] [] are i share old before at was bank_was = absurd cc
  out_at (p ∷ parts) (a ∷ lw) (b ∷ ls) (c ∷ bw) (d ∷ bs) are zero share old before at was bank_was =
      at_first (λ (q : Share). LeavesOut tells clock image_at faults low (Contains q.outcomes Unrun) q.logged q.refusal
      old before) (share_of p) share at
      (at_first (λ x. LeavesOut tells clock image_at faults low (Contains (share_of p).outcomes Unrun)
      (logged_of p.ran) p.refusal x before) a old was
      (at_first (λ x. LeavesOut tells clock image_at faults low (Contains (share_of p).outcomes Unrun)
      (logged_of p.ran) p.refusal a x) c before bank_was are.0.left_out))
  out_at (p ∷ parts) (a ∷ lw) (b ∷ ls) (c ∷ bw) (d ∷ bs) are (suc i) share old before at was bank_was =
      out_at parts lw ls bw bs are.1 i share old before at was bank_was
  out_at _ _ _ _ _ are i share old before at was bank_was = absurd are
