-- What the refusal that ends a run after a round tells of the round.
use Rattle.std.proofs.Common.{◌≡◌, ◌⊎◌, ◌∙◌, inl, inr, sym, ap, subst, refl, cond, ℕ, ◌+◌, ◌<◌, ◌≤◌, Bool, true, false}
use Rattle.std.proofs.Common.{zero, suc, List, [], ◌∷◌, Option, Some, None, arith}
use Rattle.std.specs.Prelude.{◌==◌, ◌&&◌, ◌||◌, MatchBool, fold, nat_le, nat_lt, not, slice_get, ⊤}
use Rattle.std.specs.Option.{option_map}
use Rattle.std.specs.List.{AllByRecursion, Contains, list_any}
use Rattle.std.proofs.lemmas.Bool.{eqb-true, ltb-false}
use Rattle.std.proofs.lemmas.Bool.Decides.{nat_tests}
use Rattle.std.proofs.lemmas.Option.{same_Some}
use Rattle.lists.specs.Elements.{in_head, in_none, in_tail}
use Rattle.serial_model.specs.Numbers.{draw_limit, last_epoch}
use Rattle.outside.specs.declared.device.Device.{Device}
use Rattle.outside.specs.declared.device.Device.TheVariants as devices
use Rattle.script_grammar.specs.declared.lines.KeeperLine.{KeeperLine}
use Rattle.script_grammar.specs.declared.lines.KeeperLine.TheVariants as asks
use Rattle.tx_script.specs.declared.answer.Answer.{Answer}
use Rattle.tx_script.specs.declared.answer.Answer.TheVariants as answers
use Rattle.tx_script.specs.declared.outcome.Outcome.{Outcome}
use Rattle.tx_script.specs.declared.outcome.Outcome.TheVariants as outcomes
use Rattle.tx_script.specs.Causes.{AllCaused, AnswersCaused, IsAnswerTo, KeeperAt, LogsCaused}
use Rattle.tx_script.specs.Causes.{WorkersCaused}
use Rattle.tx_script.specs.Causes.{keeper_after, keeper_at_end, keeper_before, last_sequence, log_limit, log_of}
use Rattle.tx_script.specs.Causes.{longest_line}
use Rattle.tx_script.specs.Run.{AdvancesTo, LogFailed, LogFiles, LogFull, LogRefusal, Ran, TryRefusal}
use Rattle.tx_script.specs.Run.{is_limit}
use Rattle.tx_script.specs.Draws.{limited_at_draws}
use Rattle.tx_script.specs.Tries.{AllCome}
use Rattle.round_engine.specs.Ends.{bank_end, comes_to_save, device_end, device_place, draw_end, earlier}
use Rattle.round_engine.specs.Ends.{end_of, epoch_end, first_device, first_of, full_length, limit_at, save_limited}
use Rattle.round_engine.specs.Ends.{comes_to_advance, damaged_end, durable_of, has_sequence, other_failed, sequence_end}
use Rattle.round_engine.specs.Ends.{wants_memory, where_true}
use Rattle.round_engine.specs.declared.report.End.{End}
use Rattle.round_engine.specs.declared.report.End.TheVariants as ends
use Rattle.round_engine.specs.declared.report.LimitName.TheVariants.{Epoch, Draw, Bank, Sequence}
use Rattle.program_calls.specs.Ending.{IsLimitOf}

-- ---- the first of several

-- of two the first that gives something
first_cases : (first later : Option End) (e : End) → first_of first later ≡ Some e
    → (first ≡ Some e) ⊎ ((first ≡ None) × (later ≡ Some e))
first_cases None later e is = inr (refl, is)
first_cases (Some x) later e is = inl is

-- of two that give nothing neither gives anything
both_none : (first later : Option End) → first_of first later ≡ None → (first ≡ None) × (later ≡ None)
both_none None later none = (refl, none)
both_none (Some x) later none = absurd cc

where_cases : (test : Bool) (x e : End) → where_true test x ≡ Some e → (test ≡ true) × (x ≡ e)
where_cases true x e is = (refl, cc)
where_cases false x e is = absurd cc

both_true : (a b : Bool) → a && b ≡ true → (a ≡ true) × (b ≡ true)
both_true true b is = (refl, is)
both_true false b is = absurd cc

either_true : (a b : Bool) → a || b ≡ true → (a ≡ true) ⊎ (b ≡ true)
either_true true b is = inl refl
either_true false b is = inr is

not_true : (b : Bool) → not b ≡ true → b ≡ false
not_true true is = absurd cc
not_true false is = refl

-- ---- devices

-- the earlier of a device and one of others is one of them all
earlier_in : (device x : Device) (more : List Device) → Contains more x
    → Contains (device ∷ more) (earlier device (Some x))
earlier_in device x more has = elim (nat_le (device_place device)
    (device_place x)) as (λ b. Contains (device ∷ more) (cond b device x)) [
      | true ↦ in_head device more
      | false ↦ in_tail x device more has
    ]

-- the first of some devices is one of them
first_in : (device : Device) (more : List Device) → (x : Device) × (first_device (device ∷ more) ≡ Some x)
    × Contains (device ∷ more) x
first_in device [] = (device, refl, in_head device [])
first_in device (other ∷ more) =
    let rest = first_in other more in (
      earlier device (Some rest.0),
      ap (λ x. Some (earlier device x)) rest.1,
      earlier_in device rest.0 (other ∷ more) rest.2,
    )

-- devices that give an end give that of one of them
device_cases : (failed : List Device) (e : End) → device_end failed ≡ Some e
    → (device : Device) × (e ≡ ends.Device device) × Contains failed device
device_cases [] e is = absurd cc
device_cases (device ∷ more) e is =
    let first = first_in device more in
    let end : device_end (device ∷ more) ≡ Some (ends.Device first.0) = ap (option_map ends.Device) first.1 in
    (first.0, cc (end, is), first.2)

no_devices : (failed : List Device) → device_end failed ≡ None → failed ≡ []
no_devices [] none = refl
no_devices (device ∷ more) none = absurd cc

-- ---- logs

-- a full log is caused
full_caused : (files : LogFiles) (failed : List Device) (worker : ℕ) (logs : List (Option LogRefusal)) (size : ℕ)
    → LogsCaused files failed worker logs
    → full_length logs ≡ Some size → log_limit < size + longest_line
full_caused files failed worker [] size caused is = absurd cc
full_caused files failed worker (None ∷ logs) size caused is =
    full_caused files failed (worker + 1) logs size caused is
full_caused files failed worker (Some LogFailed ∷ logs) size caused is =
    full_caused files failed (worker + 1) logs size caused.1 is
full_caused files failed worker (Some (LogFull other) ∷ logs) size caused is = let same : other ≡ size =
    cc in subst (λ n. log_limit < n + longest_line) same caused.0

-- where none is told full none is
none_full : (logs : List (Option LogRefusal)) (worker size : ℕ) → full_length logs ≡ None
    → slice_get logs worker ≡ Some (Some (LogFull size)) → ⊥
none_full [] worker size none is = cc
none_full (None ∷ logs) zero size none is = cc
none_full (None ∷ logs) (suc worker) size none is = none_full logs worker size none is
none_full (Some LogFailed ∷ logs) zero size none is = cc
none_full (Some LogFailed ∷ logs) (suc worker) size none is = none_full logs worker size none is
none_full (Some (LogFull other) ∷ logs) worker size none is = cc

bank_cases : (size : Option ℕ) (e : End) → option_map (limit_at Bank) size ≡ Some e
    → (n : ℕ) × (size ≡ Some n) × (limit_at Bank n ≡ e)
bank_cases None e is = absurd cc
bank_cases (Some n) e is = (n, refl, cc)

bank_none : (size : Option ℕ) → option_map (limit_at Bank) size ≡ None → size ≡ None
bank_none None none = refl
bank_none (Some n) none = absurd cc

-- ---- sequences

-- from the last sequence on no savepoint is stored
answered_last : (ran : Ran) (k : KeeperAt) (line : KeeperLine) (answer : Answer) → k.sequence ≡ last_sequence
    → IsAnswerTo ran k line answer → (keeper_after k answer).sequence ≡ last_sequence
answered_last ran k line (answers.Epoch epoch) last caused = last
answered_last ran k asks.Epoch (answers.Save epoch) last caused = absurd caused
answered_last ran k asks.Save (answers.Save epoch) last caused = absurd (let below =
    caused.0 in omega (arith, below, last))
answered_last ran k asks.Glean (answers.Save epoch) last caused = absurd caused
answered_last ran k asks.Drop (answers.Save epoch) last caused = absurd caused
answered_last ran k line (answers.Snap epoch new) last caused = last
answered_last ran k line answers.Empty last caused = last
answered_last ran k line answers.SnapFull last caused = last
answered_last ran k line answers.Deep last caused = last
answered_last ran k line (answers.Drop dropped kept) last caused = last
answered_last ran k line answers.Limit last caused = last
answered_last ran k line answers.Device last caused = last
answered_last ran k line answers.Damaged last caused = last
answered_last ran k line answers.Memory last caused = last
answered_last ran k line answers.Unrun last caused = last

-- an answer that has its cause is that to a line that is run, or to one that isn't
pub cause_cases : (ran : Ran) (k : KeeperAt) (line : KeeperLine) (answer : Answer)
    → MatchBool k.refused (answer ≡ answers.Unrun) (IsAnswerTo ran k line answer)
    → (answer ≡ answers.Unrun) ⊎ IsAnswerTo ran k line answer
cause_cases ran k line answer caused = elim k.refused as (λ b. MatchBool b (answer ≡ answers.Unrun)
    (IsAnswerTo ran k line answer) → (answer ≡ answers.Unrun) ⊎ IsAnswerTo ran k line answer) [
      | true ↦ λ unrun. inl unrun
      | false ↦ λ is. inr is
    ] caused

stays_last : (ran : Ran) (k : KeeperAt) (line : KeeperLine) (answer : Answer) → k.sequence ≡ last_sequence
    → MatchBool k.refused (answer ≡ answers.Unrun) (IsAnswerTo ran k line answer)
    → (keeper_after k answer).sequence ≡ last_sequence
stays_last ran k line answer last caused = elim (cause_cases ran k line answer caused) [
  | inl unrun ↦ subst (λ a. (keeper_after k a).sequence ≡ last_sequence) (sym unrun) last
  | inr is ↦ answered_last ran k line answer last is
]

last_to_end : (ran : Ran) (k : KeeperAt) (lines : List KeeperLine) (told : List Answer) → k.sequence ≡ last_sequence
    → AnswersCaused ran k lines told → (fold keeper_after k told).sequence ≡ last_sequence
last_to_end ran k [] [] last caused = last
last_to_end ran k (line ∷ lines) [] last caused = absurd caused
last_to_end ran k [] (answer ∷ more) last caused = absurd caused
last_to_end ran k (line ∷ lines) (answer ∷ more) last caused =
    last_to_end ran (keeper_after k answer) lines more (stays_last ran k line answer last caused.0) caused.1

-- a save that met the last sequence stood there
limited_save : (ran : Ran) (k : KeeperAt) → MatchBool k.refused (answers.Limit ≡ answers.Unrun)
    (IsAnswerTo ran k asks.Save answers.Limit)
    → k.sequence ≡ last_sequence
limited_save ran k caused = elim (cause_cases ran k asks.Save answers.Limit caused) [
  | inl unrun ↦ absurd cc
  | inr is ↦ is
]

save_met_last : (ran : Ran) (k : KeeperAt) (lines : List KeeperLine) (told : List Answer)
    → AnswersCaused ran k lines told
    → save_limited lines told ≡ true → (fold keeper_after k told).sequence ≡ last_sequence
save_met_last ran k [] told caused met = absurd cc
save_met_last ran k (line ∷ lines) [] caused met = absurd caused
save_met_last ran k (asks.Save ∷ lines) (answers.Limit ∷ more) caused met =
    last_to_end ran k lines more (limited_save ran k caused.0) caused.1
save_met_last ran k (asks.Save ∷ lines) (answers.Epoch epoch ∷ more) caused met =
    save_met_last ran (keeper_after k (answers.Epoch epoch)) lines more caused.1 met
save_met_last ran k (asks.Save ∷ lines) (answers.Save epoch ∷ more) caused met =
    save_met_last ran (keeper_after k (answers.Save epoch)) lines more caused.1 met
save_met_last ran k (asks.Save ∷ lines) (answers.Snap epoch new ∷ more) caused met =
    save_met_last ran (keeper_after k (answers.Snap epoch new)) lines more caused.1 met
save_met_last ran k (asks.Save ∷ lines) (answers.Empty ∷ more) caused met =
    save_met_last ran (keeper_after k answers.Empty) lines more caused.1 met
save_met_last ran k (asks.Save ∷ lines) (answers.SnapFull ∷ more) caused met =
    save_met_last ran (keeper_after k answers.SnapFull) lines more caused.1 met
save_met_last ran k (asks.Save ∷ lines) (answers.Deep ∷ more) caused met =
    save_met_last ran (keeper_after k answers.Deep) lines more caused.1 met
save_met_last ran k (asks.Save ∷ lines) (answers.Drop dropped kept ∷ more) caused met =
    save_met_last ran (keeper_after k (answers.Drop dropped kept)) lines more caused.1 met
save_met_last ran k (asks.Save ∷ lines) (answers.Device ∷ more) caused met =
    save_met_last ran (keeper_after k answers.Device) lines more caused.1 met
save_met_last ran k (asks.Save ∷ lines) (answers.Damaged ∷ more) caused met =
    save_met_last ran (keeper_after k answers.Damaged) lines more caused.1 met
save_met_last ran k (asks.Save ∷ lines) (answers.Memory ∷ more) caused met =
    save_met_last ran (keeper_after k answers.Memory) lines more caused.1 met
save_met_last ran k (asks.Save ∷ lines) (answers.Unrun ∷ more) caused met =
    save_met_last ran (keeper_after k answers.Unrun) lines more caused.1 met
save_met_last ran k (asks.Epoch ∷ lines) (answer ∷ more) caused met =
    save_met_last ran (keeper_after k answer) lines more caused.1 met
save_met_last ran k (asks.Glean ∷ lines) (answer ∷ more) caused met =
    save_met_last ran (keeper_after k answer) lines more caused.1 met
save_met_last ran k (asks.Drop ∷ lines) (answer ∷ more) caused met =
    save_met_last ran (keeper_after k answer) lines more caused.1 met

-- ---- the end of a run

-- What a refusal tells: a device that failed; or a log file that was found damaged, a limit that stands at its number,
-- or an answer that memory is wanted.
abbrev pub EndTells : Ran → End → Type 0
EndTells ran (ends.Device device) = Contains ran.beside.devices device
EndTells ran (ends.Damaged device at) = (ran.beside.damaged ≡ Some (device, at)) × (ran.beside.devices ≡ [])
EndTells ran (ends.Limit name number) = IsLimitOf name number × (ran.beside.devices ≡ [])
EndTells ran ends.Memory = (list_any wants_memory ran.printed.answers ≡ true) × (ran.beside.devices ≡ [])

damage_cases : (damaged : Option (Device × ℕ)) (e : End)
    → option_map (λ (d : Device × ℕ). ends.Damaged d.0 d.1) damaged ≡ Some e
    → (device : Device) × (at : ℕ) × (damaged ≡ Some (device, at)) × (ends.Damaged device at ≡ e)
damage_cases None e is = absurd cc
damage_cases (Some d) e is = (d.0, d.1, refl, same_Some (ends.Damaged d.0 d.1) e is)

sequence_last : (ran : Ran) → AllCaused ran
    → save_limited ran.printed.asked ran.printed.answers
    || (comes_to_save ran && ((keeper_at_end ran).sequence == last_sequence)) ≡ true
    → (keeper_at_end ran).sequence ≡ last_sequence
sequence_last ran caused met = elim (either_true (save_limited ran.printed.asked ran.printed.answers) _ met) [
  | inl here ↦ save_met_last ran (keeper_before ran) ran.printed.asked ran.printed.answers caused.answers here
  | inr joined ↦ eqb-true (keeper_at_end ran).sequence last_sequence (both_true (comes_to_save ran) _ joined).1
]

-- The refusal that ends a run after a round tells this of it.
pub end_tells : (ran : Ran) (e : End) → AllCaused ran → ran.printed.end.epoch ≤ last_epoch → end_of ran ≡ Some e
    → EndTells ran e
end_tells ran e caused most is = elim (first_cases (device_end ran.beside.devices) _ e is) [
  | inl device ↦ let d = device_cases ran.beside.devices e device in subst (EndTells ran) (sym d.1) d.2
  | inr later ↦
      let quiet : ran.beside.devices ≡ [] = no_devices ran.beside.devices later.0 in
      elim (first_cases (damaged_end ran) _ e later.1) [
        | inl damaged ↦
            let d = damage_cases ran.beside.damaged e damaged in subst (EndTells ran) d.3 (d.2, quiet)
        | inr whole ↦ elim (first_cases (epoch_end ran) _ e whole.1) [
          | inl epoch ↦
              let w = where_cases _ (limit_at Epoch ran.printed.end.epoch) e epoch in
              let past = ltb-false ran.printed.end.epoch last_epoch (not_true _ (both_true _ _ w.0).1) in
              let at : ran.printed.end.epoch ≡ last_epoch = omega (arith, past, most) in
              subst (EndTells ran) w.1 (at, quiet)
          | inr then ↦ elim (first_cases (draw_end ran) _ e then.1) [
            | inl draw ↦
                let w = where_cases _ (limit_at Draw ran.printed.end.draw) e draw in
                subst (EndTells ran) w.1 (limited_at_draws ran caused w.0, quiet)
            | inr last ↦ elim (first_cases (bank_end ran) _ e last.1) [
              | inl bank ↦
                  let w = bank_cases (full_length ran.beside.logs) e bank in
                  subst (EndTells ran) w.2
                  (full_caused ran.beside.files ran.beside.devices 0 ran.beside.logs w.0 caused.logs w.1, quiet)
              | inr fits ↦ elim (first_cases (sequence_end ran) _ e fits.1) [
                | inl sequence ↦
                    let w = where_cases _ (limit_at Sequence (keeper_at_end ran).sequence) e sequence in
                    subst (EndTells ran) w.1 (sequence_last ran caused w.0, quiet)
                | inr memory ↦
                    let w = where_cases _ ends.Memory e memory.1 in
                    subst (EndTells ran) w.1 (w.0, quiet)
              ]
            ]
          ]
        ]
      ]
]

-- a round that goes on had no device that failed, and no log that was told full
pub goes_on_quiet : (ran : Ran) → end_of ran ≡ None → ran.beside.devices ≡ []
goes_on_quiet ran none = no_devices ran.beside.devices (both_none (device_end ran.beside.devices) _ none).0

-- A round that goes on told no log file full.
pub goes_on_room : (ran : Ran) (worker size : ℕ) → end_of ran ≡ None
    → slice_get ran.beside.logs worker ≡ Some (Some (LogFull size)) → ⊥
goes_on_room ran worker size none is =
    let a = both_none (device_end ran.beside.devices) _ none in
    let w = both_none (damaged_end ran) _ a.1 in
    let b = both_none (epoch_end ran) _ w.1 in
    let c = both_none (draw_end ran) _ b.1 in
    let d = both_none (bank_end ran) _ c.1 in
    none_full ran.beside.logs worker size (bank_none (full_length ran.beside.logs) d.0) is

-- a round ends the run at the limit of the draws only where its clock came to it
pub draw_end_met : (ran : Ran) (number : ℕ) → AllCaused ran → end_of ran ≡ Some (ends.Limit Draw number)
    → draw_limit ≤ ran.printed.end.draw
draw_end_met ran number caused is = elim (first_cases (device_end ran.beside.devices) _ _ is) [
  | inl device ↦ absurd (let d = device_cases ran.beside.devices _ device in let same = d.1 in cc)
  | inr later ↦ elim (first_cases (damaged_end ran) _ _ later.1) [
    | inl damaged ↦ absurd (let w = (damage_cases ran.beside.damaged _ damaged).3 in cc)
    | inr whole ↦ elim (first_cases (epoch_end ran) _ _ whole.1) [
      | inl epoch ↦ absurd (let w = (where_cases _ (limit_at Epoch ran.printed.end.epoch) _ epoch).1 in cc)
      | inr then ↦ elim (first_cases (draw_end ran) _ _ then.1) [
        | inl draw ↦ limited_at_draws ran caused (where_cases _ (limit_at Draw ran.printed.end.draw) _ draw).0
        | inr last ↦ elim (first_cases (bank_end ran) _ _ last.1) [
          | inl bank ↦ absurd (let w = (bank_cases (full_length ran.beside.logs) _ bank).2 in cc)
          | inr fits ↦ elim (first_cases (sequence_end ran) _ _ fits.1) [
            | inl sequence ↦
                absurd (let w = (where_cases _ (limit_at Sequence (keeper_at_end ran).sequence) _ sequence).1 in cc)
            | inr memory ↦ absurd (let w = (where_cases _ ends.Memory _ memory.1).1 in cc)
          ]
        ]
      ]
    ]
  ]
]

-- ---- answers of a round that goes on

-- The answer tells that its line was run, and wasn't stopped by a device, by damage or for want of memory.
abbrev pub IsUnstopped : Answer → Type 0
IsUnstopped answers.Device = ⊥
IsUnstopped answers.Damaged = ⊥
IsUnstopped answers.Memory = ⊥
IsUnstopped answers.Unrun = ⊥
IsUnstopped _ = ⊤

-- or by a limit
abbrev pub IsUnlimited : Answer → Type 0
IsUnlimited answers.Limit = ⊥
IsUnlimited _ = ⊤

-- The line was done: one that asked for a snapshot made one, unless nothing counted, its pages aren't let in, or one
-- would stand too deep.
abbrev pub IsAnswered : Answer → Type 0
IsAnswered answers.Device = ⊥
IsAnswered answers.Damaged = ⊥
IsAnswered answers.Memory = ⊥
IsAnswered answers.Unrun = ⊥
IsAnswered answers.Limit = ⊥
IsAnswered _ = ⊤

both_answered : (answer : Answer) → IsUnstopped answer → IsUnlimited answer → IsAnswered answer
both_answered (answers.Epoch epoch) one other = tt
both_answered (answers.Save epoch) one other = tt
both_answered (answers.Snap epoch new) one other = tt
both_answered answers.Empty one other = tt
both_answered answers.SnapFull one other = tt
both_answered answers.Deep one other = tt
both_answered (answers.Drop dropped kept) one other = tt
both_answered answers.Limit one other = other
both_answered answers.Device one other = one
both_answered answers.Damaged one other = one
both_answered answers.Memory one other = one
both_answered answers.Unrun one other = one

-- Answers that neither stop a run nor stand at a limit are done.
pub all_answered : (told : List Answer) → AllByRecursion IsUnstopped told → AllByRecursion IsUnlimited told
    → AllByRecursion IsAnswered told
all_answered [] one other = tt
all_answered (answer ∷ more) one other =
    (both_answered answer one.0 other.0, all_answered more one.1 other.1)

-- nothing of a round stopped the maintenance thread
record IsUnbroken (ran : Ran) : Type 0 where
  devices : ran.beside.devices ≡ []
  damaged : ran.beside.damaged ≡ None

no_fault : (ran : Ran) (device : Device) → ran.beside.devices ≡ [] → Contains ran.beside.devices device → ⊥
no_fault ran device none has = in_none device (subst (λ l. Contains l device) none has)

no_damage : (ran : Ran) (d : Device × ℕ) → ran.beside.damaged ≡ None → ran.beside.damaged ≡ Some d → ⊥
no_damage ran d none some = cc

-- so a line that was run is answered, and doesn't stop the next one
answered_one : (ran : Ran) (k : KeeperAt) (line : KeeperLine) (answer : Answer) → IsUnbroken ran → k.refused ≡ false
    → wants_memory answer ≡ false → IsAnswerTo ran k line answer
    → IsUnstopped answer × ((keeper_after k answer).refused ≡ false)
answered_one ran k line (answers.Epoch epoch) whole up none is = (tt, up)
answered_one ran k line (answers.Save epoch) whole up none is = (tt, up)
answered_one ran k line (answers.Snap epoch new) whole up none is = (tt, up)
answered_one ran k line answers.Empty whole up none is = (tt, up)
answered_one ran k line answers.SnapFull whole up none is = (tt, up)
answered_one ran k line answers.Deep whole up none is = (tt, up)
answered_one ran k line (answers.Drop dropped kept) whole up none is = (tt, up)
answered_one ran k line answers.Limit whole up none is = (tt, up)
answered_one ran k line answers.Memory whole up none is = absurd cc
answered_one ran k asks.Epoch answers.Unrun whole up none is = absurd is
answered_one ran k asks.Save answers.Unrun whole up none is = absurd is
answered_one ran k asks.Glean answers.Unrun whole up none is = absurd is
answered_one ran k asks.Drop answers.Unrun whole up none is = absurd is
answered_one ran k asks.Epoch answers.Device whole up none is = absurd is
answered_one ran k asks.Save answers.Device whole up none is = absurd (no_fault ran devices.Save whole.devices is.1)
answered_one ran k asks.Glean answers.Device whole up none is = absurd (no_fault ran is.1 whole.devices is.2)
answered_one ran k asks.Drop answers.Device whole up none is = absurd is
answered_one ran k asks.Epoch answers.Damaged whole up none is = absurd is
answered_one ran k asks.Save answers.Damaged whole up none is = absurd is
answered_one ran k asks.Glean answers.Damaged whole up none is = absurd (no_damage ran _ whole.damaged is.4)
answered_one ran k asks.Drop answers.Damaged whole up none is = absurd is

-- where one of two is false so is the first
neither : (a b : Bool) → a || b ≡ false → (a ≡ false) × (b ≡ false)
neither true b is = absurd cc
neither false b is = (refl, is)

answered_all : (ran : Ran) (k : KeeperAt) (lines : List KeeperLine) (told : List Answer) → IsUnbroken ran
    → k.refused ≡ false → list_any wants_memory told ≡ false → AnswersCaused ran k lines told
    → AllByRecursion IsUnstopped told × ((fold keeper_after k told).refused ≡ false)
answered_all ran k [] [] whole up none caused = (tt, up)
answered_all ran k (line ∷ lines) [] whole up none caused = absurd caused
answered_all ran k [] (answer ∷ more) whole up none caused = absurd caused
answered_all ran k (line ∷ lines) (answer ∷ more) whole up none caused =
    let is : IsAnswerTo ran k line answer =
    subst (λ b. MatchBool b (answer ≡ answers.Unrun) (IsAnswerTo ran k line answer)) up caused.0 in
    let wants = neither (wants_memory answer) (list_any wants_memory more) none in
    let one = answered_one ran k line answer whole up wants.0 is in
    let rest = answered_all ran (keeper_after k answer) lines more whole one.1 wants.1 caused.1 in
    ((one.0, rest.0), rest.1)

undamaged : (damaged : Option (Device × ℕ)) → option_map (λ (d : Device × ℕ). ends.Damaged d.0 d.1) damaged ≡ None
    → damaged ≡ None
undamaged None none = refl
undamaged (Some d) none = absurd cc

-- A round that goes on found no log file damaged.
pub goes_on_undamaged : (ran : Ran) → end_of ran ≡ None → ran.beside.damaged ≡ None
goes_on_undamaged ran none =
    let a = both_none (device_end ran.beside.devices) _ none in
    undamaged ran.beside.damaged (both_none (damaged_end ran) _ a.1).0

unwanted : (test : Bool) → where_true test ends.Memory ≡ None → test ≡ false
unwanted true none = absurd cc
unwanted false none = refl

-- In a round that goes on no line of the maintenance thread is stopped so, and none refuses the next.
pub goes_on_answered : (ran : Ran) → AllCaused ran → end_of ran ≡ None
    → AllByRecursion IsUnstopped ran.printed.answers × ((keeper_at_end ran).refused ≡ false)
goes_on_answered ran caused none =
    let a = both_none (device_end ran.beside.devices) _ none in
    let w = both_none (damaged_end ran) _ a.1 in
    let b = both_none (epoch_end ran) _ w.1 in
    let c = both_none (draw_end ran) _ b.1 in
    let d = both_none (bank_end ran) _ c.1 in
    let e = both_none (sequence_end ran) _ d.1 in
    answered_all ran (keeper_before ran) ran.printed.asked ran.printed.answers
    (record { devices = no_devices ran.beside.devices a.0; damaged = undamaged ran.beside.damaged w.0 }) refl
    (unwanted (list_any wants_memory ran.printed.answers) e.1) caused.answers

-- ---- limits of a round that goes on

-- an answer takes no epoch back
epoch_answered : (ran : Ran) (k : KeeperAt) (line : KeeperLine) (answer : Answer)
    → MatchBool k.refused (answer ≡ answers.Unrun) (IsAnswerTo ran k line answer)
    → k.epoch ≤ (keeper_after k answer).epoch
epoch_answered ran k line (answers.Epoch epoch) caused = elim (cause_cases ran k line (answers.Epoch epoch) caused) [
  | inl unrun ↦ absurd cc
  | inr is ↦ of line is
]
  where
    of : (line : KeeperLine) → IsAnswerTo ran k line (answers.Epoch epoch) → k.epoch ≤ epoch
    of asks.Epoch is = omega (arith, is.1)
    of asks.Save is = absurd is
    of asks.Glean is = absurd is
    of asks.Drop is = absurd is
epoch_answered ran k line (answers.Save epoch) caused = omega arith
epoch_answered ran k line (answers.Snap epoch new) caused = omega arith
epoch_answered ran k line answers.Empty caused = omega arith
epoch_answered ran k line answers.SnapFull caused = omega arith
epoch_answered ran k line answers.Deep caused = omega arith
epoch_answered ran k line (answers.Drop dropped kept) caused = omega arith
epoch_answered ran k line answers.Limit caused = omega arith
epoch_answered ran k line answers.Device caused = omega arith
epoch_answered ran k line answers.Damaged caused = omega arith
epoch_answered ran k line answers.Memory caused = omega arith
epoch_answered ran k line answers.Unrun caused = omega arith

epochs_answered : (ran : Ran) (k : KeeperAt) (lines : List KeeperLine) (told : List Answer)
    → AnswersCaused ran k lines told → k.epoch ≤ (fold keeper_after k told).epoch
epochs_answered ran k [] [] caused = omega arith
epochs_answered ran k (line ∷ lines) [] caused = absurd caused
epochs_answered ran k [] (answer ∷ more) caused = absurd caused
epochs_answered ran k (line ∷ lines) (answer ∷ more) caused = omega (
  arith,
  epoch_answered ran k line answer caused.0,
  epochs_answered ran (keeper_after k answer) lines more caused.1,
)

-- below the last epoch and the last sequence nothing is answered by a limit
limit_not : (ran : Ran) (k : KeeperAt) (line : KeeperLine) (lines : List KeeperLine) (more : List Answer)
    → AnswersCaused ran k (line ∷ lines) (answers.Limit ∷ more) → (fold keeper_after k more).epoch < last_epoch
    → (fold keeper_after k more).sequence < last_sequence → ⊥
limit_not ran k line lines more caused epoch sequence = elim (cause_cases ran k line answers.Limit caused.0) [
  | inl unrun ↦ cc
  | inr is ↦ of line is
]
  where
    of : (line : KeeperLine) → IsAnswerTo ran k line answers.Limit → ⊥
    of asks.Epoch is = omega (arith, is, epoch, epochs_answered ran k lines more caused.1)
    of asks.Save is = omega (arith, sequence, last_to_end ran k lines more is caused.1)
    of asks.Glean is = is
    of asks.Drop is = is

unlimited : (ran : Ran) (k : KeeperAt) (lines : List KeeperLine) (told : List Answer) → AnswersCaused ran k lines told
    → (fold keeper_after k told).epoch < last_epoch → (fold keeper_after k told).sequence < last_sequence
    → AllByRecursion IsUnlimited told
unlimited ran k [] [] caused epoch sequence = tt
unlimited ran k (line ∷ lines) [] caused epoch sequence = absurd caused
unlimited ran k [] (answer ∷ more) caused epoch sequence = absurd caused
unlimited ran k (line ∷ lines) (answers.Limit ∷ more) caused epoch sequence =
    absurd (limit_not ran k line lines more caused epoch sequence)
unlimited ran k (line ∷ lines) (answers.Epoch e ∷ more) caused epoch sequence =
    (tt, unlimited ran (keeper_after k (answers.Epoch e)) lines more caused.1 epoch sequence)
unlimited ran k (line ∷ lines) (answers.Save e ∷ more) caused epoch sequence =
    (tt, unlimited ran (keeper_after k (answers.Save e)) lines more caused.1 epoch sequence)
unlimited ran k (line ∷ lines) (answers.Snap e new ∷ more) caused epoch sequence =
    (tt, unlimited ran (keeper_after k (answers.Snap e new)) lines more caused.1 epoch sequence)
unlimited ran k (line ∷ lines) (answers.Empty ∷ more) caused epoch sequence =
    (tt, unlimited ran (keeper_after k answers.Empty) lines more caused.1 epoch sequence)
unlimited ran k (line ∷ lines) (answers.SnapFull ∷ more) caused epoch sequence =
    (tt, unlimited ran (keeper_after k answers.SnapFull) lines more caused.1 epoch sequence)
unlimited ran k (line ∷ lines) (answers.Deep ∷ more) caused epoch sequence =
    (tt, unlimited ran (keeper_after k answers.Deep) lines more caused.1 epoch sequence)
unlimited ran k (line ∷ lines) (answers.Drop dropped kept ∷ more) caused epoch sequence =
    (tt, unlimited ran (keeper_after k (answers.Drop dropped kept)) lines more caused.1 epoch sequence)
unlimited ran k (line ∷ lines) (answers.Device ∷ more) caused epoch sequence =
    (tt, unlimited ran (keeper_after k answers.Device) lines more caused.1 epoch sequence)
unlimited ran k (line ∷ lines) (answers.Damaged ∷ more) caused epoch sequence =
    (tt, unlimited ran (keeper_after k answers.Damaged) lines more caused.1 epoch sequence)
unlimited ran k (line ∷ lines) (answers.Memory ∷ more) caused epoch sequence =
    (tt, unlimited ran (keeper_after k answers.Memory) lines more caused.1 epoch sequence)
unlimited ran k (line ∷ lines) (answers.Unrun ∷ more) caused epoch sequence =
    (tt, unlimited ran (keeper_after k answers.Unrun) lines more caused.1 epoch sequence)

-- the maintenance thread ends at the round's last epoch
epoch_at_end : (k : KeeperAt) (told : List Answer) (last : ℕ) → AdvancesTo k.epoch told last
    → (fold keeper_after k told).epoch ≡ last
epoch_at_end k [] last up = sym up
epoch_at_end k (answers.Epoch epoch ∷ more) last up = epoch_at_end (keeper_after k (answers.Epoch epoch)) more last up.1
epoch_at_end k (answers.Save epoch ∷ more) last up = epoch_at_end (keeper_after k (answers.Save epoch)) more last up
epoch_at_end k (answers.Snap epoch new ∷ more) last up =
    epoch_at_end (keeper_after k (answers.Snap epoch new)) more last up
epoch_at_end k (answers.Empty ∷ more) last up = epoch_at_end k more last up
epoch_at_end k (answers.SnapFull ∷ more) last up = epoch_at_end k more last up
epoch_at_end k (answers.Deep ∷ more) last up = epoch_at_end k more last up
epoch_at_end k (answers.Drop dropped kept ∷ more) last up =
    epoch_at_end (keeper_after k (answers.Drop dropped kept)) more last up
epoch_at_end k (answers.Device ∷ more) last up = epoch_at_end (keeper_after k answers.Device) more last up
epoch_at_end k (answers.Damaged ∷ more) last up = epoch_at_end (keeper_after k answers.Damaged) more last up
epoch_at_end k (answers.Memory ∷ more) last up = epoch_at_end (keeper_after k answers.Memory) more last up
epoch_at_end k (answers.Limit ∷ more) last up = epoch_at_end k more last up
epoch_at_end k (answers.Unrun ∷ more) last up = epoch_at_end k more last up

-- Where a round's last epoch was made durable, none of its lines was answered by a limit.
pub durable_unlimited : (ran : Ran) → AllCaused ran
    → AdvancesTo ran.printed.begin.epoch ran.printed.answers ran.printed.end.epoch
    → ran.printed.durable ≡ durable_of ran → ran.printed.durable ≡ Some ran.printed.end.epoch
    → AllByRecursion IsUnlimited ran.printed.answers
durable_unlimited ran caused advances told durable =
    let test = made_by (comes_to_save ran && (has_sequence ran && not (other_failed ran))) ran.printed.end.epoch
    (sym told ∙ durable) in
    let both = both_true (comes_to_save ran) (has_sequence ran && not (other_failed ran)) test in
    let save = both_true (comes_to_advance ran) (nat_lt ran.printed.end.epoch last_epoch) both.0 in
    let next = both_true (has_sequence ran) (not (other_failed ran)) both.1 in
    let below : ran.printed.end.epoch < last_epoch = (let is = save.1 in grind (arith, nat_tests)) in
    let sequence : (keeper_at_end ran).sequence < last_sequence = (let is = next.0 in grind (arith, nat_tests)) in
    let at = epoch_at_end (keeper_before ran) ran.printed.answers ran.printed.end.epoch advances in
    unlimited ran (keeper_before ran) ran.printed.asked ran.printed.answers caused.answers (omega (arith, at, below))
    sequence
  where
    made_by : (test : Bool) (epoch : ℕ) → where_true test epoch ≡ Some epoch → test ≡ true
    made_by true epoch is = refl
    made_by false epoch is = absurd cc

-- ---- a round that goes on

-- The line was run: it is committed, or each of its tries was refused with a conflict, or the last one found no usable
-- slot, or filled a set.
abbrev pub WasRun : Outcome → Type 0
WasRun (outcomes.Committed verdict number replies) = ⊤
WasRun outcomes.Conflict = ⊤
WasRun outcomes.Full = ⊤
WasRun outcomes.Wide = ⊤
WasRun _ = ⊥

-- So is a line that nothing refused.
was_run : (first last tries : ℕ) (log : Option LogRefusal) (mine : List Outcome) (refused : List (List TryRefusal))
    → log ≡ None → AllCome first last tries log mine refused → list_any is_limit mine ≡ false
    → AllByRecursion WasRun mine
was_run first last tries log [] refused up come none = tt
was_run first last tries log (outcome ∷ more) [] up come none = absurd come
was_run first last tries log (outcomes.Committed verdict number replies ∷ more) (refusals ∷ refused) up come none =
    (tt, was_run first last tries log more refused up come.1 none)
was_run first last tries log (outcomes.Conflict ∷ more) (refusals ∷ refused) up come none =
    (tt, was_run first last tries log more refused up come.1 none)
was_run first last tries log (outcomes.Full ∷ more) (refusals ∷ refused) up come none =
    (tt, was_run first last tries log more refused up come.1 none)
was_run first last tries log (outcomes.Wide ∷ more) (refusals ∷ refused) up come none =
    (tt, was_run first last tries log more refused up come.1 none)
was_run first last tries log (outcomes.Limit ∷ more) (refusals ∷ refused) up come none = absurd cc
was_run first last tries log (outcomes.Unrun ∷ more) (refusals ∷ refused) up come none =
    absurd (let is = come.0.1 in cc)

-- where no device failed, and no log file is full, no log was refused
log_up : (files : LogFiles) (failed : List Device) (worker : ℕ) (log : Option LogRefusal)
    (logs : List (Option LogRefusal)) → failed ≡ []
    → LogsCaused files failed worker (log ∷ logs) → full_length (log ∷ logs) ≡ None
    → (log ≡ None) × LogsCaused files failed (worker + 1) logs × (full_length logs ≡ None)
log_up files failed worker None logs quiet caused full = (refl, caused, full)
log_up files failed worker (Some LogFailed) logs quiet caused full = absurd (in_none (log_of files worker)
    (subst (λ l. Contains l (log_of files worker)) quiet caused.0))
log_up files failed worker (Some (LogFull size)) logs quiet caused full = absurd cc

all_run : (ran : Ran) (files : LogFiles) (failed : List Device) (worker : ℕ) (logs : List (Option LogRefusal))
    (workers : List (List Outcome)) (refused : List (List (List TryRefusal))) → failed ≡ []
    → LogsCaused files failed worker logs → full_length logs ≡ None → WorkersCaused ran logs workers refused
    → list_any (list_any is_limit) workers ≡ false
    → AllByRecursion (AllByRecursion WasRun) workers
all_run ran files failed worker [] [] refused quiet caused full by none = tt
all_run ran files failed worker (log ∷ logs) [] refused quiet caused full by none = tt
all_run ran files failed worker [] (mine ∷ more) refused quiet caused full by none = absurd by
all_run ran files failed worker (log ∷ logs) (mine ∷ more) [] quiet caused full by none = absurd by
all_run ran files failed worker (log ∷ logs) (mine ∷ more) (tried ∷ refused) quiet caused full by none =
    let up = log_up files failed worker log logs quiet caused full in
    let none_of = neither (list_any is_limit mine) (list_any (list_any is_limit) more) none in (
      was_run ran.printed.begin.draw ran.printed.end.draw ran.beside.tries log mine tried up.0 by.0 none_of.0,
      all_run ran files failed (worker + 1) logs more refused quiet up.1 up.2 by.2 none_of.1,
    )

where_none : (test : Bool) (x : End) → where_true test x ≡ None → test ≡ false
where_none true x none = absurd cc
where_none false x none = refl

-- So is each line of a round that doesn't end the run.
pub goes_on_run : (ran : Ran) → AllCaused ran → end_of ran ≡ None
    → AllByRecursion (AllByRecursion WasRun) ran.printed.outcomes
goes_on_run ran caused none =
    let a = both_none (device_end ran.beside.devices) _ none in
    let w = both_none (damaged_end ran) _ a.1 in
    let b = both_none (epoch_end ran) _ w.1 in
    let c = both_none (draw_end ran) _ b.1 in
    let d = both_none (bank_end ran) _ c.1 in
    all_run ran ran.beside.files ran.beside.devices 0 ran.beside.logs ran.printed.outcomes ran.beside.refused
    (no_devices ran.beside.devices a.0) caused.logs (bank_none (full_length ran.beside.logs) d.0)
    caused.outcomes (where_none _ (limit_at Draw ran.printed.end.draw) c.0)
