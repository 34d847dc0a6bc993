-- Where no round ended the run, its last savepoint covers every commit.
use Rattle.std.proofs.Common.{◌≡◌, ◌∙◌, ◌≤◌, ◌<◌, ◌+◌, sym, ap, subst, refl, ℕ, Bool, true, false, cond, arith, List}
use Rattle.std.proofs.Common.{[], ◌∷◌, ◌++◌, Option, Some, None}
use Rattle.std.specs.Prelude.{◌&&◌, MatchBool, filter, flat_map, fold, is_some, nat_le, nat_lt, not, option_to_list}
use Rattle.std.specs.Option.{option_map}
use Rattle.std.specs.List.{AllByRecursion, Contains, list_any}
use Rattle.std.proofs.lemmas.Bool.{cond-true}
use Rattle.std.proofs.lemmas.Bool.Decides.{nat_tests}
use Rattle.std.proofs.lemmas.List.Elements.{All-from_recursion, recursion_from_All}
use Rattle.std.proofs.lemmas.List.Sorted.{All-permutation}
use Rattle.std.proofs.lemmas.List.Sums.{fold-append}
use Rattle.lists.specs.Each.{all_append, all_weaker}
use Rattle.lists.specs.Elements.{in_none}
use Rattle.outside.specs.declared.device.Device.{Device}
use Rattle.serial_model.specs.History.{Entry, as_of, state_after_all}
use Rattle.serial_model.specs.Numbers.{last_epoch}
use Rattle.serial_model.specs.State.{State}
use Rattle.serial_model.specs.declared.number.Number.{Number}
use Rattle.script_grammar.specs.Script.{Round, Script}
use Rattle.tx_script.specs.Causes.{AllCaused, LogsCaused, keeper_at_end, leaves_join_out, log_of}
use Rattle.tx_script.specs.Run.{IsBetween, IsScriptRun, LogFailed, LogFiles, LogFull, LogRefusal, Ran, RunsClocks}
use Rattle.tx_script.specs.Run.{AdvancesTo, clock_after, printed_commits, entries_of_round, joined}
use Rattle.tx_script.specs.declared.answer.Answer.{Answer}
use Rattle.tx_script.specs.declared.answer.Answer.TheVariants as answers
use Rattle.round_engine.specs.Ends.{bank_end, comes_to_advance, damaged_end, device_end, end_of, epoch_end, epoch_joined, first_of}
use Rattle.round_engine.specs.Ends.{full_length, limit_at, where_true}
use Rattle.round_engine.specs.Saves.{saves_told}
use Rattle.round_engine.specs.declared.report.End.{End}
use Rattle.round_engine.specs.declared.report.LimitName.TheVariants.{Bank, Epoch}
use Rattle.program_calls.specs.EndLaws.{goes_on_answered}
use Rattle.program_calls.specs.RunKept.{last_saved}
use Rattle.program_calls.specs.RoundCauses.{saved_in}

-- ---- where nothing ends a run

-- of two that give nothing neither gives anything
both_none : {X : Type 0} (first later : Option X) → first_of first later ≡ None → (first ≡ None) × (later ≡ None)
both_none None later none = (refl, none)
both_none (Some x) later none = absurd cc

no_device : (failed : List Device) → device_end failed ≡ None → failed ≡ []
no_device [] none = refl
no_device (device ∷ more) none = absurd cc

nothing_failed : {X : Type 0} (x : X) (xs : List X) → xs ≡ [] → Contains xs x → ⊥
nothing_failed x xs none has = in_none x (subst (λ l. Contains l x) none has)

-- no log was refused
logs_none : (files : LogFiles) (failed : List Device) (worker : ℕ) (logs : List (Option LogRefusal)) → failed ≡ []
    → LogsCaused files failed worker logs → full_length logs ≡ None → list_any is_some logs ≡ false
logs_none files failed worker [] none caused full = refl
logs_none files failed worker (None ∷ logs) none caused full = logs_none files failed (worker + 1) logs none caused full
logs_none files failed worker (Some LogFailed ∷ logs) none caused full =
    absurd (nothing_failed (log_of files worker) failed none caused.0)
logs_none files failed worker (Some (LogFull size) ∷ logs) none caused full = absurd cc

-- an epoch that no limit was told of is below the last
below_last : (test : Bool) (e : End) → cond (not test) (Some e) None ≡ None → test ≡ true
below_last true e none = refl
below_last false e none = absurd cc

-- a length that nothing was made of is none
full_none : (size : Option ℕ) → option_map (limit_at Bank) size ≡ None → size ≡ None
full_none None none = refl
full_none (Some size) none = absurd cc

-- What is known of a round that doesn't end the run: no device failed, and the join advanced the epoch.
pub record JoinedOn (ran : Ran) : Type 0 where
  pub devices : ran.beside.devices ≡ []
  pub made : leaves_join_out ran ≡ false
  pub below : ran.printed.end.epoch < last_epoch
  pub epoch : epoch_joined ran ≡ ran.printed.end.epoch + 1

pub joined_where_none : (ran : Ran) → AllCaused ran → end_of ran ≡ None → JoinedOn ran
joined_where_none ran caused none =
    let a = both_none (device_end ran.beside.devices) _ none in
    let w = both_none (damaged_end ran) _ a.1 in
    let b = both_none (epoch_end ran) _ w.1 in
    let c = both_none _ _ b.1 in
    let d = both_none (bank_end ran) _ c.1 in
    let quiet : ran.beside.devices ≡ [] = no_device ran.beside.devices a.0 in
    let room : full_length ran.beside.logs ≡ None = full_none (full_length ran.beside.logs) d.0 in
    let logs : list_any is_some ran.beside.logs ≡ false = logs_none ran.beside.files ran.beside.devices 0 ran.beside.logs quiet caused.logs room in
    let up : (keeper_at_end ran).refused ≡ false = (goes_on_answered ran caused none).1 in
    let out : leaves_join_out ran ≡ false = rw (logs, up) refl in
    let made : comes_to_advance ran ≡ true = ap not out in
    let end : End = limit_at Epoch ran.printed.end.epoch in
    let test : nat_lt ran.printed.end.epoch last_epoch ≡ true = below_last (nat_lt ran.printed.end.epoch last_epoch) end
    (subst (λ c. ◌≡◌ {A = Option End} (where_true (c && not (nat_lt ran.printed.end.epoch last_epoch)) end) None) made b.0) in
    record {
      devices = quiet;
      made = out;
      below = grind (arith, nat_tests);
      epoch = rw made (ap (λ t. cond t (ran.printed.end.epoch + 1) ran.printed.end.epoch) test);
    }

-- ---- every commit is saved

-- the join made the round's last epoch durable
abbrev pub IsLasting : Ran → Type 0
IsLasting ran = ran.printed.durable ≡ Some ran.printed.end.epoch

-- the last of some epochs and one more
last_of_more : (saved epoch : ℕ) (epochs : List ℕ) → fold (λ (_ : ℕ) (e : ℕ). e) saved (epochs ++ epoch ∷ []) ≡ epoch
last_of_more saved epoch [] = refl
last_of_more saved epoch (e ∷ es) = last_of_more e epoch es

last_saved-cons : (saved : ℕ) (ran : Ran) (rans : List Ran) → IsLasting ran
    → last_saved saved (ran ∷ rans) ≡ last_saved ran.printed.end.epoch rans
last_saved-cons saved ran rans lasting =
    fold-append (λ (_ : ℕ) (e : ℕ). e) saved (saved_in ran) (flat_map saved_in rans)
    ∙ ap (λ e. last_saved e rans)
    (ap (λ d. fold (λ (_ : ℕ) (e : ℕ). e) saved (saves_told ran.printed.answers ++ option_to_list d)) lasting
    ∙ last_of_more saved ran.printed.end.epoch (saves_told ran.printed.answers))

-- answers never take an epoch back
advances_later : (first : ℕ) (told : List Answer) (last : ℕ) → AdvancesTo first told last → first ≤ last
advances_later first [] last same = omega (arith, same)
advances_later first (answers.Epoch epoch ∷ more) last up =
    omega (arith, up.0, advances_later epoch more last up.1)
advances_later first (_ ∷ more) last up = advances_later first more last up

-- saved epochs never fall
later_saved : (index saved : ℕ) (clock : Number) (rans : List Ran) (rounds : List Round) → saved ≤ clock.epoch
    → RunsClocks index clock rans rounds → AllByRecursion IsLasting rans → saved ≤ last_saved saved rans
later_saved index saved clock [] rounds within runs lasting = omega arith
later_saved index saved clock (ran ∷ rans) [] within runs lasting = absurd runs
later_saved index saved clock (ran ∷ rans) (round ∷ rounds) within runs lasting =
    let rest = later_saved (index + 1) ran.printed.end.epoch (joined ran.printed.end) rans rounds (omega arith) runs.2 lasting.1 in
    let own = advances_later ran.printed.begin.epoch ran.printed.answers ran.printed.end.epoch runs.1.epoch in
    omega (
      arith,
      within,
      rest,
      own,
      last_saved-cons saved ran rans lasting.0,
      ap (λ (n : Number). n.epoch) runs.0,
    )

-- and the last one is at least each commit's
all_saved : (index saved : ℕ) (clock : Number) (rans : List Ran) (rounds : List Round) → saved ≤ clock.epoch
    → RunsClocks index clock rans rounds → AllByRecursion IsLasting rans
    → AllByRecursion (λ e. e.number.epoch ≤ last_saved saved rans) (printed_commits index rans rounds)
all_saved index saved clock [] rounds within runs lasting = tt
all_saved index saved clock (ran ∷ rans) [] within runs lasting = absurd runs
all_saved index saved clock (ran ∷ rans) (round ∷ rounds) within runs lasting =
    let rest = later_saved (index + 1) ran.printed.end.epoch (joined ran.printed.end) rans rounds (omega arith) runs.2 lasting.1 in
    subst (λ last. AllByRecursion (λ (e : Entry). e.number.epoch ≤ last)
    (printed_commits index (ran ∷ rans) (round ∷ rounds)))
    (sym (last_saved-cons saved ran rans lasting.0))
    (all_append (λ (e : Entry). e.number.epoch ≤ last_saved ran.printed.end.epoch rans) (entries_of_round index ran round)
    (printed_commits (index + 1) rans rounds)
    (all_weaker (λ (e : Entry). IsBetween ran.printed.begin ran.printed.end e.number)
    (λ (e : Entry). e.number.epoch ≤ last_saved ran.printed.end.epoch rans)
    (λ e between. omega (arith, between.epoch_to, rest)) (entries_of_round index ran round) runs.1.numbers)
    (all_saved (index + 1) ran.printed.end.epoch (joined ran.printed.end) rans rounds (omega arith) runs.2 lasting.1))

all_kept : (epoch : ℕ) (es : List Entry) → AllByRecursion (λ e. e.number.epoch ≤ epoch) es
    → filter (λ e. nat_le e.number.epoch epoch) es ≡ es
all_kept epoch [] all = refl
all_kept epoch (e ∷ es) all =
    let is : nat_le e.number.epoch epoch ≡ true = (let within = all.0 in grind (arith, nat_tests)) in
    cond-true (nat_le e.number.epoch epoch) (e ∷ filter (λ e. nat_le e.number.epoch epoch) es)
    (filter (λ e. nat_le e.number.epoch epoch) es) is
    ∙ ap (λ fs. e ∷ fs) (all_kept epoch es all.1)

-- The state as of the last epoch that was saved is that after the run.
pub kept_all : (script : Script) (s : State) (saved : ℕ) (rans : List Ran) (t : State)
    → (run : IsScriptRun script s saved rans t) → AllByRecursion IsLasting rans
    → as_of script.decls s run.ordered (last_saved saved rans) ≡ t
kept_all script s saved rans t run lasting =
    let all = all_saved 0 saved (clock_after saved) rans script.rounds (omega arith) run.clocks lasting in
    let last = last_saved saved rans in
    let ordered = recursion_from_All (λ (e : Entry). e.number.epoch ≤ last) run.ordered
    (All-permutation (λ (e : Entry). e.number.epoch ≤ last) (printed_commits 0 rans script.rounds) run.ordered run.same
    (All-from_recursion (λ (e : Entry). e.number.epoch ≤ last) (printed_commits 0 rans script.rounds) all)) in
    ap (state_after_all script.decls s) (all_kept last run.ordered ordered) ∙ sym run.after
