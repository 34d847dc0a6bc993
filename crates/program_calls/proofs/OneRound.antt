-- Lists of rounds with one round more, and what one round draws, saves and how far its epochs go.
use Rattle.std.proofs.Common.{◌≡◌, inl, inr, ◌∙◌, sym, ap, subst, refl, ℕ, ◌+◌, ◌-◌, ◌<◌, ◌≤◌, true, List, [], ◌∷◌}
use Rattle.std.proofs.Common.{◌++◌, length, Option, Some, None, zero, suc, arith}
use Rattle.std.specs.Prelude.{◌&&◌, MatchBool, is_some, map, not, slice_get}
use Rattle.std.specs.List.{AllByRecursion}
use Rattle.std.proofs.lemmas.List.{length-map}
use Rattle.lists.specs.Each.{all_at, all_weaker}
use Rattle.serial_model.specs.History.{Entry}
use Rattle.serial_model.specs.Numbers.{last_epoch}
use Rattle.serial_model.specs.State.{State}
use Rattle.serial_model.specs.declared.decl.Decl.{Decl}
use Rattle.serial_model.specs.declared.number.Number.{Number}
use Rattle.script_grammar.specs.Script.{Round, lines_of_worker}
use Rattle.wire_form.specs.declared.clock.Mark.{Mark}
use Rattle.wire_form.specs.declared.savepoint.Savepoint.{Savepoint}
use Rattle.log_writer.specs.Points.{point_of, sequence_of}
use Rattle.log_writer.specs.declared.saved.Saved.{Saved}
use Rattle.worker_logs.specs.Logs.{IsJoined, LogState}
use Rattle.script_grammar.specs.declared.lines.KeeperLine.{KeeperLine}
use Rattle.script_grammar.specs.declared.lines.KeeperLine.TheVariants as asks
use Rattle.tx_script.specs.declared.answer.Answer.{Answer}
use Rattle.tx_script.specs.declared.answer.Answer.TheVariants as answers
use Rattle.tx_script.specs.Causes.{AnswersCaused, IsAnswerTo, KeeperAt, keeper_after}
use Rattle.tx_script.specs.Conflicts.{AreMet}
use Rattle.tx_script.specs.Run.{AdvancesTo, Ran, joined}
use Rattle.round_engine.specs.Ends.{closed_failed, comes_to_swap, swaps}
use Rattle.round_engine.specs.RanRound.{AreRoundMarks, RanRound}
use Rattle.round_engine.specs.Saves.{newest_after}
use Rattle.round_engine.specs.Standing.{RuntimeState}
use Rattle.round_engine.specs.declared.report.Report.{Report}
use Rattle.program_calls.specs.Ending.{RunGoesOn}
use Rattle.program_calls.specs.RoundCauses.{AllMet, AreFull, AreMarked, IsMarked, IsUndamaged, SequencesFrom, saved_in}
use Rattle.program_calls.specs.EndLaws.{cause_cases, goes_on_room, goes_on_undamaged}
use Rattle.program_calls.proofs.KeptFiles.{item_at}
use Rattle.program_calls.proofs.KeptRounds.{unfailed}
use Rattle.program_calls.proofs.RoundsJoined.{clock_from}

-- ---- lists of rounds, with one more

-- the clock after one round more is that after its join
pub clock_from-push : (clock : Number) (rans : List Ran) (ran : Ran) → clock_from clock (rans ++ ran ∷ []) ≡ joined ran.printed.end
clock_from-push clock [] ran = refl
clock_from-push clock (q ∷ rans) ran = clock_from-push (joined q.printed.end) rans ran

-- the sequence of the newest savepoint after the rounds
abbrev pub sequence_after : ℕ → List Ran → ℕ
sequence_after n [] = n
sequence_after n (ran ∷ rans) = sequence_after (n + length (saved_in ran)) rans

pub sequence_after-push : (n : ℕ) (rans : List Ran) (ran : Ran) → sequence_after n (rans ++ ran ∷ []) ≡ sequence_after n rans + length (saved_in ran)
sequence_after-push n [] ran = refl
sequence_after-push n (q ∷ rans) ran = sequence_after-push (n + length (saved_in q)) rans ran

pub sequences-push : (n : ℕ) (rans : List Ran) (ran : Ran) → SequencesFrom n rans → ran.beside.sequence ≡ sequence_after n rans → SequencesFrom n (rans ++ ran ∷ [])
sequences-push n [] ran so is = (is, tt)
sequences-push n (q ∷ rans) ran so is = (so.0, sequences-push (n + length (saved_in q)) rans ran so.1 is)

-- each savepoint that is stored has the next sequence
pub stored_length : (newest : Option Savepoint) (stored : List Saved) → sequence_of (newest_after newest stored) ≡ sequence_of newest + length stored
stored_length newest [] = omega arith
stored_length newest (saved ∷ more) = omega (arith, stored_length (Some (point_of (sequence_of newest + 1) saved)) more)

pub met-push : (decls : List Decl) (rans : List Ran) (ran : Ran) (rounds : List Round) (round : Round)
    → slice_get rounds (length rans) ≡ Some round → AllMet decls rans rounds → AreMet decls ran round
    → AllMet decls (rans ++ ran ∷ []) rounds
met-push decls [] ran [] round at so one = cc
met-push decls [] ran (r ∷ rounds) round at so one =
    let same : r ≡ round = cc in (subst (λ x. AreMet decls ran x) (sym same) one, tt)
met-push decls (q ∷ rans) ran [] round at so one = absurd so
met-push decls (q ∷ rans) ran (r ∷ rounds) round at so one = (so.0, met-push decls rans ran rounds round at so.1 one)

pub marked-push : (rans : List Ran) (ran : Ran) (rounds : List Round) (round : Round) → slice_get rounds (length rans) ≡ Some round
    → AreMarked rans rounds → IsMarked round ran → AreMarked (rans ++ ran ∷ []) rounds
marked-push [] ran [] round at so one = cc
marked-push [] ran (r ∷ rounds) round at so one = let same : r ≡ round = cc in (subst (λ x. IsMarked x ran) (sym same) one, tt)
marked-push (q ∷ rans) ran [] round at so one = absurd so
marked-push (q ∷ rans) ran (r ∷ rounds) round at so one = (so.0, marked-push rans ran rounds round at so.1 one)

-- ---- one round

-- what is in a list stands below its length
in_range : {X : Type 0} (xs : List X) (i : ℕ) (x : X) → slice_get xs i ≡ Some x → i < length xs
in_range [] i x at = absurd cc
in_range (y ∷ xs) zero x at = omega arith
in_range (y ∷ xs) (suc i) x at = omega (arith, in_range xs i x at)

-- as a round begins each worker's mark is of the epoch before
mark_before : (logs : List LogState) (clock worker : ℕ) (log : LogState) → AllByRecursion (IsJoined clock) logs → slice_get logs worker ≡ Some log
    → log.mark.epoch ≡ Some (clock - 1)
mark_before logs clock worker log joined at =
    let one : IsJoined clock log = all_at (IsJoined clock) logs worker log joined at in ap (λ (m : Mark). m.epoch) one.marked

-- the marks of a round
pub marked : {tries : ℕ} (round : Round) (old new : RuntimeState) (report : Report) (one : RanRound tries round old new report) → one.ran.printed.begin ≡ old.stands.clock
    → length old.logs ≡ 8 → AllByRecursion (IsJoined old.stands.clock.epoch) old.logs → IsMarked round one.ran
marked round old new report one begins eight joined = record {
  workers = one.begins.workers;
  marks = λ worker epochs at.
      let log = item_at old.logs worker (omega (arith, in_range one.ran.beside.marks worker epochs at, one.begins.workers, eight)) in
      let epoch : log.0.mark.epoch ≡ Some (one.ran.printed.begin.epoch - 1) =
      mark_before old.logs old.stands.clock.epoch worker log.0 joined log.1 ∙ ap (λ (n : Number). Some (n.epoch - 1)) (sym begins) in
      subst (λ had. AreRoundMarks (lines_of_worker round worker) had one.ran.printed.begin.epoch one.ran.printed.end.epoch epochs) epoch
      (one.begins.marks worker log.0 epochs log.1 at);
}

-- what a round saved
pub saved_many : (ran : Ran) (stored : List Saved) → map (λ (s : Saved). s.epoch) stored ≡ saved_in ran → length stored ≡ length (saved_in ran)
saved_many ran stored epochs = sym (length-map stored (λ (s : Saved). s.epoch)) ∙ ap length epochs

-- a round that goes on had no full log
none_full : (decls : List Decl) (s : State) (ordered : List Entry) (ran : Ran) → RunGoesOn ran → AreFull decls s ordered ran
none_full decls s ordered ran on worker size below at = absurd (goes_on_room ran worker size on at)

pub all_none_full : (decls : List Decl) (s : State) (ordered : List Entry) (rans : List Ran) → AllByRecursion RunGoesOn rans
    → AllByRecursion (AreFull decls s ordered) rans
all_none_full decls s ordered rans on = all_weaker RunGoesOn (AreFull decls s ordered)
    (λ ran goes. none_full decls s ordered ran goes) rans on

-- and found none damaged
pub all_undamaged : (rans : List Ran) → AllByRecursion RunGoesOn rans → AllByRecursion IsUndamaged rans
all_undamaged rans on = all_weaker RunGoesOn IsUndamaged (λ ran goes. goes_on_undamaged ran goes) rans on

-- what is no damage is none
pub none_damaged : {X : Type 0} (found : Option X) → ((x : X) → found ≡ Some x → ⊥) → found ≡ None
none_damaged None never = refl
none_damaged (Some x) never = absurd (never x refl)

-- nothing failed in a store, so the store is up
pub down_none : (down : Option ℕ) (failed : Option Saved) → is_some down ≡ is_some failed → (is_some failed ≡ true → ⊥) → down ≡ None
down_none None failed same not = refl
down_none (Some count) failed same not = absurd (not (sym same))

-- ---- the last epoch

-- a line that advances the epoch stands before the last one
advanced : (ran : Ran) (k : KeeperAt) (line : KeeperLine) (epoch : ℕ) → IsAnswerTo ran k line (answers.Epoch epoch) → (k.epoch < last_epoch) × (epoch ≡ k.epoch + 1)
advanced ran k asks.Epoch epoch is = is
advanced ran k asks.Save epoch is = absurd is
advanced ran k asks.Glean epoch is = absurd is
advanced ran k asks.Drop epoch is = absurd is

epoch_answered : (ran : Ran) (k : KeeperAt) (line : KeeperLine) (epoch : ℕ)
    → MatchBool k.refused (answers.Epoch epoch ≡ answers.Unrun) (IsAnswerTo ran k line (answers.Epoch epoch)) → epoch ≤ last_epoch
epoch_answered ran k line epoch caused = elim (cause_cases ran k line (answers.Epoch epoch) caused) [
  | inl unrun ↦ absurd cc
  | inr is ↦ let up = advanced ran k line epoch is in omega (arith, up.0, up.1)
]

-- answers never take the epoch past the last one
pub answers_most : (ran : Ran) (k : KeeperAt) (lines : List KeeperLine) (told : List Answer) (last : ℕ) → AnswersCaused ran k lines told
    → AdvancesTo k.epoch told last → k.epoch ≤ last_epoch → last ≤ last_epoch
answers_most ran k [] [] last caused up most = omega (arith, up, most)
answers_most ran k (line ∷ lines) [] last caused up most = absurd caused
answers_most ran k [] (answer ∷ more) last caused up most = absurd caused
answers_most ran k (line ∷ lines) (answers.Epoch epoch ∷ more) last caused up most =
    answers_most ran (record k { epoch = epoch }) lines more last caused.1 up.1 (epoch_answered ran k line epoch caused.0)
answers_most ran k (line ∷ lines) (answers.Save epoch ∷ more) last caused up most = answers_most ran (record k { sequence = k.sequence + 1 }) lines more last caused.1 up most
answers_most ran k (line ∷ lines) (answers.Snap epoch new ∷ more) last caused up most =
    answers_most ran (keeper_after k (answers.Snap epoch new)) lines more last caused.1 up most
answers_most ran k (line ∷ lines) (answers.Empty ∷ more) last caused up most = answers_most ran k lines more last caused.1 up most
answers_most ran k (line ∷ lines) (answers.SnapFull ∷ more) last caused up most = answers_most ran k lines more last caused.1 up most
answers_most ran k (line ∷ lines) (answers.Deep ∷ more) last caused up most = answers_most ran k lines more last caused.1 up most
answers_most ran k (line ∷ lines) (answers.Drop dropped kept ∷ more) last caused up most = answers_most ran k lines more last caused.1 up most
answers_most ran k (line ∷ lines) (answers.Limit ∷ more) last caused up most = answers_most ran k lines more last caused.1 up most
answers_most ran k (line ∷ lines) (answers.Device ∷ more) last caused up most = answers_most ran (record k { refused = true }) lines more last caused.1 up most
answers_most ran k (line ∷ lines) (answers.Damaged ∷ more) last caused up most = answers_most ran (record k { refused = true }) lines more last caused.1 up most
answers_most ran k (line ∷ lines) (answers.Memory ∷ more) last caused up most = answers_most ran (record k { refused = true }) lines more last caused.1 up most
answers_most ran k (line ∷ lines) (answers.Unrun ∷ more) last caused up most = answers_most ran k lines more last caused.1 up most

-- where no device failed, a swap that was come to is done
pub swaps_quiet : (ran : Ran) → ran.beside.devices ≡ [] → comes_to_swap ran ≡ true → swaps ran ≡ true
swaps_quiet ran quiet comes =
    ap (λ b. b && not (closed_failed ran)) comes ∙ ap not (unfailed ran quiet)
