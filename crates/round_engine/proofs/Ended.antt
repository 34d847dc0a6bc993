-- Which refusal a round is told to end by: the first one of all.
use Rattle.std.proofs.Common.{◌≡◌, ◌↔◌, ◌∙◌, ◌≤◌, ◌+◌, ◌⊎◌, ◌++◌, ◌∷◌, inl, inr, sym, ap, refl, ℕ}
use Rattle.std.proofs.Common.{List, [], map, Bool, true, false, cond, Option, Some, None, arith}
use Rattle.std.specs.Prelude.{◌||◌, MatchBool, fold, is_some, nat_le}
use Rattle.std.proofs.lemmas.Bool.Decides.{nat_tests}
use Rattle.std.specs.List.{list_any}
use Rattle.outside.specs.declared.device.Device.{Device}
use Rattle.outside.specs.declared.device.Device.TheVariants as devices
use Rattle.script_grammar.specs.declared.lines.KeeperLine.{KeeperLine}
use Rattle.script_grammar.specs.declared.lines.KeeperLine.TheVariants as asks
use Rattle.tx_script.specs.declared.answer.Answer.{Answer}
use Rattle.tx_script.specs.declared.answer.Answer.TheVariants as answers
use Rattle.tx_script.specs.Run.{Ran}
use Rattle.tx_script.specs.Causes.{AnswerCause, AnswersCaused, IsAnswerTo, KeeperAt, keeper_after, last_sequence}
use Rattle.worker_logs.specs.Saves.{growing_number}
use Rattle.worker_logs.specs.declared.savepoints.Side.{Side}
use Rattle.round_engine.specs.Ends.{device_place, earlier, first_device, first_of, full_length, save_limited}
use Rattle.round_engine.specs.Keeping.{is_refusal}
use Rattle.round_engine.specs.Refusals.{first_failed, first_full, first_told}
use Rattle.round_engine.specs.Workers.{refusal_of, refused_as}
use Rattle.shared_rounds.specs.Below.{LogEnd}
use Rattle.round_engine.proofs.Numbered.{growing_least}

-- ---- the devices that failed

-- the growing log files whose journals are down, of the workers from this one on
abbrev pub banks_down : Side → ℕ → List Bool → List Device
banks_down side worker [] = []
banks_down side worker (true ∷ more) = devices.Bank (growing_number side worker) ∷ banks_down side (worker + 1) more
banks_down side worker (false ∷ more) = banks_down side (worker + 1) more

-- the devices that failed: the save, those that are told besides, and the growing log files
abbrev pub devices_down : Side → List Bool → Bool → List Device → List Device
devices_down side logs true others = devices.Save ∷ others ++ banks_down side 0 logs
devices_down side logs false others = others ++ banks_down side 0 logs

-- the first of the growing log files
abbrev pub first_down : Side → ℕ → List Bool → Option Device
first_down side worker [] = None
first_down side worker (true ∷ more) = Some (devices.Bank (growing_number side worker))
first_down side worker (false ∷ more) = first_down side (worker + 1) more

-- it is one of the workers from this one on
pub down_from : (side : Side) (worker : ℕ) (logs : List Bool) → (first_down side worker logs ≡ None)
    ⊎ ((v : ℕ) × (worker ≤ v) × (first_down side worker logs ≡ Some (devices.Bank (growing_number side v))))
down_from side worker [] = inl refl
down_from side worker (true ∷ more) = inr (worker, omega arith, refl)
down_from side worker (false ∷ more) = elim (down_from side (worker + 1) more) [
  | inl none ↦ inl none
  | inr one ↦ inr (one.0, omega (arith, one.1), one.2)
]

-- down where there is a first one, so just where there is one
pub down_just : (failed : List Device) (down : Bool) → down ≡ is_some (first_device failed)
    → (down ≡ false) ↔ (failed ≡ [])
down_just [] down is = (λ up. refl, λ none. is)
down_just (device ∷ more) down is = (λ up. absurd (let no = sym is ∙ up in cc), λ none. absurd (let no = none in cc))

pub at_most_test : (m n : ℕ) → m ≤ n → nat_le m n ≡ true
at_most_test m n le = grind (arith, nat_tests, le)

-- of log files the one of the lower number is told
pub first_banks : (side : Side) (worker : ℕ) (logs : List Bool)
    → first_device (banks_down side worker logs) ≡ first_down side worker logs
first_banks side worker [] = refl
first_banks side worker (false ∷ more) = first_banks side (worker + 1) more
first_banks side worker (true ∷ more) =
    let this : Device = devices.Bank (growing_number side worker) in
    ap (λ d. Some (earlier this d)) (first_banks side (worker + 1) more)
    ∙ elim (down_from side (worker + 1) more) [
      | inl none ↦ ap (λ d. Some (earlier this d)) none
      | inr one ↦
          let less = growing_least side worker one.0 (omega (arith, one.1)) in
          ap (λ d. Some (earlier this d)) one.2
          ∙ ap (λ b. Some (cond b this (devices.Bank (growing_number side one.0))))
          (at_most_test (growing_number side worker + 2) (growing_number side one.0 + 2) (omega (arith, less)))
    ]

-- ---- the first of two lists of devices

-- which of three is told, by tests of two each
pub first_of_three : (d e f : Device) (a b c : Bool) → (a ≡ true → b ≡ true → c ≡ true)
    → (a ≡ false → b ≡ false → c ≡ false)
    → cond a (cond c d f) (cond b e f) ≡ cond b (cond a d e) (cond c d f)
first_of_three d e f true true c up down = rw (up refl refl) refl
first_of_three d e f true false c up down = refl
first_of_three d e f false true c up down = refl
first_of_three d e f false false c up down = rw (down refl refl) refl

pub up_test : (m n o : ℕ) → nat_le m n ≡ true → nat_le n o ≡ true → nat_le m o ≡ true
up_test m n o first next = grind (arith, nat_tests, first, next)

pub down_test : (m n o : ℕ) → nat_le m n ≡ false → nat_le n o ≡ false → nat_le m o ≡ false
down_test m n o first next = grind (arith, nat_tests, first, next)

-- the earlier of the earlier of two and a third
pub earlier_then : (d e : Device) (other : Option Device)
    → earlier (earlier d (Some e)) other ≡ earlier d (Some (earlier e other))
earlier_then d e None = refl
earlier_then d e (Some f) =
    of_first (nat_le (device_place d) (device_place e))
    ∙ first_of_three d e f (nat_le (device_place d) (device_place e)) (nat_le (device_place e) (device_place f))
    (nat_le (device_place d) (device_place f))
    (up_test (device_place d) (device_place e) (device_place f)) (down_test (device_place d) (device_place e) (device_place f))
    ∙ sym (of_second (nat_le (device_place e) (device_place f)))
  where
    of_first : (a : Bool) → earlier (cond a d e) (Some f)
        ≡ cond a (cond (nat_le (device_place d) (device_place f)) d f) (cond (nat_le (device_place e) (device_place f)) e f)
    of_first true = refl
    of_first false = refl

    of_second : (b : Bool) → earlier d (Some (cond b e f))
        ≡ cond b (cond (nat_le (device_place d) (device_place e)) d e) (cond (nat_le (device_place d) (device_place f)) d f)
    of_second true = refl
    of_second false = refl

pub first_append : (xs ys : List Device) → first_device (xs ++ ys) ≡ first_told (first_device xs) (first_device ys)
first_append [] ys = refl
first_append (x ∷ xs) ys = ap (λ d. Some (earlier x d)) (first_append xs ys) ∙ ap Some (by_first (first_device xs))
  where
    by_first : (first : Option Device) → earlier x (first_told first (first_device ys))
        ≡ earlier (earlier x first) (first_device ys)
    by_first None = refl
    by_first (Some e) = sym (earlier_then x e (first_device ys))

-- the save comes before all others
pub save_first : (other : Option Device) → earlier devices.Save other ≡ devices.Save
save_first None = refl
save_first (Some d) = ap (λ b. cond b devices.Save d) (at_most_test 0 (device_place d) (omega arith))

-- the device that the store and a glean are told as failed by
abbrev pub keeper_device : Bool → List Device → Option Device
keeper_device true others = Some devices.Save
keeper_device false others = first_device others

pub first_of_down : (side : Side) (logs : List Bool) (save : Bool) (others : List Device)
    → first_device (devices_down side logs save others) ≡ first_told (keeper_device save others) (first_down side 0 logs)
first_of_down side logs true others = ap Some (save_first (first_device (others ++ banks_down side 0 logs)))
    ∙ sym (ap Some (save_first (first_down side 0 logs)))
first_of_down side logs false others = first_append others (banks_down side 0 logs)
    ∙ ap (first_told (first_device others)) (first_banks side 0 logs)

-- ---- what is found of the logs

pub failed_down : (side : Side) (worker : ℕ) (ends : List LogEnd)
    → first_failed side worker ends ≡ first_down side worker (map (λ (e : LogEnd). e.failed) ends)
failed_down side worker [] = refl
failed_down side worker (end ∷ ends) = elim end.failed as (λ b. cond b (Some (devices.Bank (growing_number side worker)))
    (first_failed side (worker + 1) ends) ≡ first_down side worker (b ∷ map (λ (e : LogEnd). e.failed) ends)) [
      | true ↦ refl
      | false ↦ failed_down side (worker + 1) ends
    ]

-- a full log is told where none failed
pub full_at : (side : Side) (worker : ℕ) (failed : Bool) (full : Option ℕ) (ends : List LogEnd)
    → cond failed (Some (devices.Bank (growing_number side worker))) (first_failed side (worker + 1) ends) ≡ None
    → (first_failed side (worker + 1) ends ≡ None → full_length (map refusal_of ends) ≡ first_full ends)
    → full_length (refused_as failed full ∷ map refusal_of ends) ≡ first_of full (first_full ends)
full_at side worker true full ends none rest = absurd cc
full_at side worker false None ends none rest = rest none
full_at side worker false (Some size) ends none rest = refl

pub full_is_first : (side : Side) (worker : ℕ) (ends : List LogEnd) → first_failed side worker ends ≡ None
    → full_length (map refusal_of ends) ≡ first_full ends
full_is_first side worker [] none = refl
full_is_first side worker (end ∷ ends) none =
    full_at side worker end.failed end.full ends none (λ rest. full_is_first side (worker + 1) ends rest)

pub or_true : (b : Bool) → (b || true) ≡ true
or_true true = refl
or_true false = refl

pub or_false : (b : Bool) → (b || false) ≡ b
or_false true = refl
or_false false = refl

pub refused_at : (side : Side) (worker : ℕ) (failed : Bool) (full : Option ℕ) (ends : List LogEnd)
    → list_any is_some (map refusal_of ends) ≡ (is_some (first_failed side (worker + 1) ends) || is_some (first_full ends))
    → list_any is_some (refused_as failed full ∷ map refusal_of ends)
    ≡ (is_some (cond failed (Some (devices.Bank (growing_number side worker))) (first_failed side (worker + 1) ends))
    || is_some (first_of full (first_full ends)))
refused_at side worker true full ends rest = refl
refused_at side worker false None ends rest = rest
refused_at side worker false (Some size) ends rest = sym (or_true (is_some (first_failed side (worker + 1) ends)))

-- a log was refused where one failed, or one is full
pub refused_any : (side : Side) (worker : ℕ) (ends : List LogEnd)
    → list_any is_some (map refusal_of ends) ≡ (is_some (first_failed side worker ends) || is_some (first_full ends))
refused_any side worker [] = refl
refused_any side worker (end ∷ ends) = refused_at side worker end.failed end.full ends (refused_any side (worker + 1) ends)

-- ---- what is found of the answers

pub true_or : (b : Bool) → true ≡ (b || true)
true_or true = refl
true_or false = refl

pub refused_one : (answer : Answer) (told : List Answer) (k : KeeperAt)
    → ((keeper_after k answer).refused || list_any is_refusal told) ≡ (k.refused || list_any is_refusal (answer ∷ told))
refused_one (answers.Epoch epoch) told k = refl
refused_one (answers.Save epoch) told k = refl
refused_one (answers.Snap epoch new) told k = refl
refused_one answers.Empty told k = refl
refused_one answers.SnapFull told k = refl
refused_one answers.Deep told k = refl
refused_one (answers.Drop dropped kept) told k = refl
refused_one answers.Limit told k = refl
refused_one answers.Unrun told k = refl
refused_one answers.Device told k = true_or k.refused
refused_one answers.Damaged told k = true_or k.refused
refused_one answers.Memory told k = true_or k.refused

-- the maintenance thread was refused where one of its answers is such
pub refused_end : (told : List Answer) (k : KeeperAt)
    → (fold keeper_after k told).refused ≡ (k.refused || list_any is_refusal told)
refused_end [] k = sym (or_false k.refused)
refused_end (answer ∷ told) k = refused_end told (keeper_after k answer) ∙ refused_one answer told k

-- no savepoint is stored at the last sequence
pub none_stored : (ran : Ran) (line : KeeperLine) (epoch : ℕ) (k : KeeperAt) (refused : Bool) → k.sequence ≡ last_sequence
    → MatchBool refused (answers.Save epoch ≡ answers.Unrun) (IsAnswerTo ran k line (answers.Save epoch)) → ⊥
none_stored ran line epoch k true is caused = absurd cc
none_stored ran asks.Epoch epoch k false is caused = caused
none_stored ran asks.Save epoch k false is caused = omega (arith, is, caused.0)
none_stored ran asks.Glean epoch k false is caused = caused
none_stored ran asks.Drop epoch k false is caused = caused

pub last_one : (ran : Ran) (line : KeeperLine) (answer : Answer) (k : KeeperAt) → k.sequence ≡ last_sequence
    → AnswerCause ran k line answer → (keeper_after k answer).sequence ≡ last_sequence
last_one ran line (answers.Save epoch) k is caused = absurd (none_stored ran line epoch k k.refused is caused)
last_one ran line (answers.Epoch epoch) k is caused = is
last_one ran line (answers.Snap epoch new) k is caused = is
last_one ran line answers.Empty k is caused = is
last_one ran line answers.SnapFull k is caused = is
last_one ran line answers.Deep k is caused = is
last_one ran line (answers.Drop dropped kept) k is caused = is
last_one ran line answers.Limit k is caused = is
last_one ran line answers.Unrun k is caused = is
last_one ran line answers.Device k is caused = is
last_one ran line answers.Damaged k is caused = is
last_one ran line answers.Memory k is caused = is

-- At the last sequence it stays.
pub still_last : (ran : Ran) (lines : List KeeperLine) (told : List Answer) (k : KeeperAt) → k.sequence ≡ last_sequence
    → AnswersCaused ran k lines told → (fold keeper_after k told).sequence ≡ last_sequence
still_last ran [] [] k is caused = is
still_last ran [] (answer ∷ told) k is caused = absurd caused
still_last ran (line ∷ lines) [] k is caused = absurd caused
still_last ran (line ∷ lines) (answer ∷ told) k is caused =
    still_last ran lines told (keeper_after k answer) (last_one ran line answer k is caused.0) caused.1

pub met_last : {P : Type 0} (refused : Bool) → MatchBool refused (answers.Limit ≡ answers.Unrun) P → P
met_last true is = absurd cc
met_last false is = is

-- a line that asked for a save met the last sequence only where it is the newest at the end
pub limited_last : (ran : Ran) (lines : List KeeperLine) (told : List Answer) (k : KeeperAt) → AnswersCaused ran k lines told
    → save_limited lines told ≡ true → (fold keeper_after k told).sequence ≡ last_sequence
limited_last ran [] [] k caused is = absurd cc
limited_last ran [] (answer ∷ told) k caused is = absurd caused
limited_last ran (line ∷ lines) [] k caused is = absurd caused
limited_last ran (asks.Save ∷ lines) (answers.Limit ∷ told) k caused is =
    still_last ran lines told k (met_last k.refused caused.0) caused.1
limited_last ran (asks.Save ∷ lines) ((answers.Epoch epoch) ∷ told) k caused is =
    limited_last ran lines told (keeper_after k (answers.Epoch epoch)) caused.1 is
limited_last ran (asks.Save ∷ lines) ((answers.Save epoch) ∷ told) k caused is =
    limited_last ran lines told (keeper_after k (answers.Save epoch)) caused.1 is
limited_last ran (asks.Save ∷ lines) ((answers.Snap epoch new) ∷ told) k caused is =
    limited_last ran lines told (keeper_after k (answers.Snap epoch new)) caused.1 is
limited_last ran (asks.Save ∷ lines) (answers.Empty ∷ told) k caused is =
    limited_last ran lines told (keeper_after k answers.Empty) caused.1 is
limited_last ran (asks.Save ∷ lines) (answers.SnapFull ∷ told) k caused is =
    limited_last ran lines told (keeper_after k answers.SnapFull) caused.1 is
limited_last ran (asks.Save ∷ lines) (answers.Deep ∷ told) k caused is =
    limited_last ran lines told (keeper_after k answers.Deep) caused.1 is
limited_last ran (asks.Save ∷ lines) ((answers.Drop dropped kept) ∷ told) k caused is =
    limited_last ran lines told (keeper_after k (answers.Drop dropped kept)) caused.1 is
limited_last ran (asks.Save ∷ lines) (answers.Unrun ∷ told) k caused is =
    limited_last ran lines told (keeper_after k answers.Unrun) caused.1 is
limited_last ran (asks.Save ∷ lines) (answers.Device ∷ told) k caused is =
    limited_last ran lines told (keeper_after k answers.Device) caused.1 is
limited_last ran (asks.Save ∷ lines) (answers.Damaged ∷ told) k caused is =
    limited_last ran lines told (keeper_after k answers.Damaged) caused.1 is
limited_last ran (asks.Save ∷ lines) (answers.Memory ∷ told) k caused is =
    limited_last ran lines told (keeper_after k answers.Memory) caused.1 is
limited_last ran (asks.Epoch ∷ lines) (answer ∷ told) k caused is =
    limited_last ran lines told (keeper_after k answer) caused.1 is
limited_last ran (asks.Glean ∷ lines) (answer ∷ told) k caused is =
    limited_last ran lines told (keeper_after k answer) caused.1 is
limited_last ran (asks.Drop ∷ lines) (answer ∷ told) k caused is =
    limited_last ran lines told (keeper_after k answer) caused.1 is
