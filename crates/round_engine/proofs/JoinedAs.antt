-- What a join's answer tells of the run.
use Rattle.std.proofs.Common.{◌≡◌, ◌≢◌, ◌∙◌, ◌≤◌, ◌<◌, ◌+◌, ◌++◌, ◌∷◌, inl, inr, sym, ap, subst, refl, ℕ, zero, suc}
use Rattle.std.proofs.Common.{List, [], Bool, true, false, not, Option, Some, None, arith, eq-eqb}
use Rattle.std.specs.Prelude.{◌&&◌, ◌==◌, ◌||◌, ◌^◌, is_some, nat_lt, option_to_list, slice_get, Result, Ok, Err}
use Rattle.std.specs.List.{list_any}
use Rattle.std.specs.Option.{option_map}
use Rattle.std.proofs.lemmas.Bool.{cases_eq, ne_eqb}
use Rattle.std.proofs.lemmas.Bool.Decides.{nat_tests}
use Rattle.std.proofs.lemmas.Option.{same_Some}
use Rattle.serial_model.specs.Numbers.{last_epoch}
use Rattle.outside.specs.declared.device.Device.{Device}
use Rattle.outside.specs.declared.device.Device.TheVariants as devices
use Rattle.log_writer.specs.Points.{sequence_of}
use Rattle.log_writer.specs.declared.saved.Saved.{Saved}
use Rattle.tx_script.specs.Causes.{keeper_at_end, last_sequence, leaves_join_out}
use Rattle.tx_script.specs.Run.{LogFiles, Ran}
use Rattle.worker_logs.specs.Saves.{closed_number, growing_number}
use Rattle.worker_logs.specs.declared.savepoints.Side.{Side}
use Rattle.round_engine.specs.Ends.{closed_failed, comes_to_save, durable_of, first_device, first_of, has_sequence, is_closed}
use Rattle.round_engine.specs.Ends.{limit_at, other_failed, save_limited, where_true}
use Rattle.round_engine.specs.Keeping.{JoinAnswers}
use Rattle.round_engine.specs.Phases.{made, refused_by}
use Rattle.round_engine.specs.Refusals.{first_told}
use Rattle.round_engine.specs.Sides.{is_odd}
use Rattle.round_engine.specs.Standing.{RuntimeState}
use Rattle.round_engine.specs.declared.report.End.{End}
use Rattle.round_engine.specs.declared.report.End.TheVariants as ends
use Rattle.round_engine.specs.declared.report.LimitName.TheVariants.{Bank, Draw, Epoch, Height, Sequence, Snap}
use Rattle.round_engine.proofs.Ended.{banks_down, devices_down, first_down, first_of_down, keeper_device}
use Rattle.round_engine.proofs.EndTold.{IsJoinedAs}
use Rattle.round_engine.proofs.Numbered.{closed_is, grows_is}

-- the log file that a join's answer names
abbrev pub bank_told : Result ℕ End → Option Device
bank_told (Err (ends.Device (devices.Bank number))) = Some (devices.Bank number)
bank_told _ = None

-- ---- which logs are down

-- where none is, none is the first
pub none_is_down : (side : Side) (worker : ℕ) (logs : List Bool) → ((i : ℕ) (b : Bool) → slice_get logs i ≡ Some b → b ≡ false)
    → first_down side worker logs ≡ None
none_is_down side worker [] each = refl
none_is_down side worker (b ∷ logs) each =
    subst (λ b. first_down side worker (b ∷ logs) ≡ None) (sym (each 0 b refl))
    (none_is_down side (worker + 1) logs (λ i c at. each (suc i) c at))

-- where one alone is, it is the first
pub one_is_down : (side : Side) (worker w n : ℕ) (logs : List Bool) → worker + w ≡ n → slice_get logs w ≡ Some true
    → ((i : ℕ) (b : Bool) → i ≢ w → slice_get logs i ≡ Some b → b ≡ false)
    → first_down side worker logs ≡ Some (devices.Bank (growing_number side n))
one_is_down side worker w n [] sum is others = absurd cc
one_is_down side worker zero n (b ∷ logs) sum is others =
    let here : b ≡ true = same_Some b true is in
    subst (λ b. first_down side worker (b ∷ logs) ≡ Some (devices.Bank (growing_number side n))) (sym here)
    (subst (λ m. first_down side worker (true ∷ logs) ≡ Some (devices.Bank (growing_number side m))) (omega (arith, sum)) refl)
one_is_down side worker (suc w) n (b ∷ logs) sum is others =
    let up : b ≡ false = others 0 b (λ no. absurd (omega (arith, no))) refl in
    subst (λ b. first_down side worker (b ∷ logs) ≡ Some (devices.Bank (growing_number side n))) (sym up)
    (one_is_down side (worker + 1) w n logs (omega (arith, sum)) is
    (λ i c differs at. others (suc i) c (λ no. differs (omega (arith, no))) at))

pub none_down_at : (side : Side) (worker : ℕ) (logs : List Bool) (i : ℕ) (b : Bool) → first_down side worker logs ≡ None
    → slice_get logs i ≡ Some b → b ≡ false
none_down_at side worker [] i b none at = absurd cc
none_down_at side worker (true ∷ logs) i b none at = absurd cc
none_down_at side worker (false ∷ logs) zero b none at = sym (same_Some false b at)
none_down_at side worker (false ∷ logs) (suc i) b none at = none_down_at side (worker + 1) logs i b none at

-- where the first is none, none of them is told
pub no_banks : (side : Side) (worker : ℕ) (logs : List Bool) → first_down side worker logs ≡ None
    → banks_down side worker logs ≡ []
no_banks side worker [] none = refl
no_banks side worker (true ∷ logs) none = absurd cc
no_banks side worker (false ∷ logs) none = no_banks side (worker + 1) logs none

-- ---- tests

pub below_test : (m n : ℕ) → m < n → nat_lt m n ≡ true
below_test m n less = grind (arith, nat_tests, less)

pub not_below_test : (m n : ℕ) → n ≤ m → nat_lt m n ≡ false
not_below_test m n less = grind (arith, nat_tests, less)

pub same_test : (m n : ℕ) → m ≡ n → (m == n) ≡ true
same_test m n is = eq-eqb m n is

pub other_test : (m n : ℕ) → m < n → (m == n) ≡ false
other_test m n less = ne_eqb m n (λ is. omega (arith, is, less))

-- the sequence of a store that was not refused for it
pub sequence_left : (n : ℕ) → n < 2 ^ 63 → (n ≡ last_sequence → ⊥) → n < last_sequence
sequence_left n counted differs = elim (cases_eq n last_sequence) [
  | inl same ↦ absurd (differs same)
  | inr other ↦ omega (arith, counted, other)
]

pub no_failure : {X : Type 0} (failed : Option X) → failed ≡ None → is_some failed ≡ false
no_failure failed none = ap is_some none

-- one refusal is one end
pub end_is : (a b : End) → Some b ≡ Some a → a ≡ b
end_is a b is = cc

-- ---- closed log files, and the others

pub any_append : {X : Type 0} (test : X → Bool) (xs ys : List X)
    → list_any test (xs ++ ys) ≡ (list_any test xs || list_any test ys)
any_append test [] ys = refl
any_append test (x ∷ xs) ys = ap (λ b. test x || b) (any_append test xs ys)
    ∙ or_assoc (test x) (list_any test xs) (list_any test ys)
  where
    or_assoc : (a b c : Bool) → (a || (b || c)) ≡ ((a || b) || c)
    or_assoc true b c = refl
    or_assoc false b c = refl

-- the growing ones are others
pub banks_not_closed : (side : Side) (files : LogFiles) (worker : ℕ) (logs : List Bool) → files.odd ≡ is_odd side
    → list_any (is_closed files) (banks_down side worker logs) ≡ false
banks_not_closed side files worker [] is = refl
banks_not_closed side files worker (true ∷ logs) is =
    ap (λ b. b || list_any (is_closed files) (banks_down side (worker + 1) logs)) (grows_is side files worker is)
    ∙ banks_not_closed side files (worker + 1) logs is
banks_not_closed side files worker (false ∷ logs) is = banks_not_closed side files (worker + 1) logs is

-- where one of them is down, another device than a closed log file failed
pub bank_other : (side : Side) (files : LogFiles) (worker : ℕ) (logs : List Bool) (device : Device) → files.odd ≡ is_odd side
    → first_down side worker logs ≡ Some device → list_any (λ d. not (is_closed files d)) (banks_down side worker logs) ≡ true
bank_other side files worker [] device is first = absurd cc
bank_other side files worker (true ∷ logs) device is first =
    ap (λ b. not b || list_any (λ d. not (is_closed files d)) (banks_down side (worker + 1) logs)) (grows_is side files worker is)
bank_other side files worker (false ∷ logs) device is first = bank_other side files (worker + 1) logs device is first

-- the device of a cut that failed, and the end that it is
abbrev pub cut_device : Option ℕ → List Device
cut_device cut = option_to_list (option_map devices.Bank cut)

abbrev pub cut_end : Option ℕ → Option End
cut_end cut = option_map (λ n. ends.Device (devices.Bank n)) cut

pub or_false : (b : Bool) → (b || false) ≡ b
or_false true = refl
or_false false = refl

module _ (ran : Ran) (kept joined : RuntimeState) (stored : List Saved) (failed : Option Saved) (side : Side)
    (logs : List Bool) (cut : Option ℕ)
    (odd_is : ran.beside.files.odd ≡ is_odd side)
    (devices_are : ran.beside.devices ≡ devices_down side logs (is_some failed) (cut_device cut))
    (cut_closed : (n : ℕ) → cut ≡ Some n → (w : ℕ) × (n ≡ closed_number side w))
    (epoch_is : ran.printed.end.epoch ≡ kept.stands.clock.epoch)
    (sequence_is : (keeper_at_end ran).sequence ≡ sequence_of kept.save.newest)
    (limited : save_limited ran.printed.asked ran.printed.answers ≡ true → (keeper_at_end ran).sequence ≡ last_sequence) where
  first_is : first_device ran.beside.devices ≡ first_told (keeper_device (is_some failed) (cut_device cut)) (first_down side 0 logs)
  first_is = ap first_device devices_are ∙ first_of_down side logs (is_some failed) (cut_device cut)

  -- where no store failed and nothing was cut the first device is a log file
  no_save : failed ≡ None → cut ≡ None → first_device ran.beside.devices ≡ first_down side 0 logs
  no_save none uncut = first_is
      ∙ ap (λ b. first_told (keeper_device b (cut_device cut)) (first_down side 0 logs)) (no_failure failed none)
      ∙ ap (λ c. first_told (keeper_device false (cut_device c)) (first_down side 0 logs)) uncut

  -- and where a cut failed it is that one
  only_cut : (n : ℕ) → failed ≡ None → first_down side 0 logs ≡ None → cut ≡ Some n
      → first_device ran.beside.devices ≡ Some (devices.Bank n)
  only_cut n none up is = first_is
      ∙ ap (λ b. first_told (keeper_device b (cut_device cut)) (first_down side 0 logs)) (no_failure failed none)
      ∙ ap (λ c. first_told (keeper_device false (cut_device c)) (first_down side 0 logs)) is
      ∙ ap (λ d. first_told (keeper_device false (cut_device (Some n))) d) up

  not_limited : (keeper_at_end ran).sequence < last_sequence → save_limited ran.printed.asked ran.printed.answers ≡ false
  not_limited below = by_test (save_limited ran.printed.asked ran.printed.answers) limited
    where
      by_test : (b : Bool) → (b ≡ true → (keeper_at_end ran).sequence ≡ last_sequence) → b ≡ false
      by_test true met = absurd (let at = met refl in omega (arith, at, below))
      by_test false met = refl

  -- a join that was done, with a cut that failed, or none
  done_as : (epoch : ℕ) → first_down side 0 logs ≡ None → JoinAnswers kept joined stored failed (Ok epoch)
      → (c : Option ℕ) → cut ≡ c → IsJoinedAs ran (cut_end c)
  done_as epoch up is None uncut = record {
    device = inl (no_save is.4 uncut ∙ up);
    limit = λ none end at. absurd cc;
    done = λ none. (
      below_test ran.printed.end.epoch last_epoch (omega (arith, epoch_is, is.0)),
      other_test (keeper_at_end ran).sequence last_sequence (omega (arith, sequence_is, is.1)),
      not_limited (omega (arith, sequence_is, is.1)),
      no_save is.4 uncut ∙ up,
    );
  }
  done_as epoch up is (Some n) was = record {
    device = inr (devices.Bank n, refl, only_cut n is.4 up was);
    limit = λ none end at. absurd (let no = sym none ∙ only_cut n is.4 up was in cc);
    done = λ none. absurd cc;
  }

  pub joined_as : (result : Result ℕ End) → (made result ≡ None → cut ≡ None) → first_down side 0 logs ≡ bank_told result
      → JoinAnswers kept joined stored failed result → IsJoinedAs ran (first_of (refused_by result) (cut_end cut))
  joined_as (Ok epoch) uncut banks is = done_as epoch banks is cut refl
  joined_as (Err (ends.Limit Epoch number)) uncut banks is = record {
    device = inl (no_save is.3 (uncut refl) ∙ banks);
    limit = λ none end at. inl (
      end_is end (ends.Limit Epoch number) at ∙ ap (limit_at Epoch) (is.1 ∙ sym epoch_is),
      not_below_test ran.printed.end.epoch last_epoch (omega (arith, epoch_is, is.0)),
    );
    done = λ none. absurd cc;
  }
  joined_as (Err (ends.Limit Sequence number)) uncut banks is = record {
    device = inl (no_save is.4 (uncut refl) ∙ banks);
    limit = λ none end at. inr (
      end_is end (ends.Limit Sequence number) at ∙ ap (limit_at Sequence) (is.1 ∙ sym sequence_is),
      below_test ran.printed.end.epoch last_epoch (omega (arith, epoch_is, is.0)),
      same_test (keeper_at_end ran).sequence last_sequence (sequence_is ∙ sym is.1 ∙ is.2),
    );
    done = λ none. absurd cc;
  }
  joined_as (Err (ends.Device devices.Save)) uncut banks is = record {
    device = inr (devices.Save, refl, save_told is.3);
    limit = λ none end at. absurd (let no = sym none ∙ save_told is.3 in cc);
    done = λ none. absurd cc;
  }
    where
      save_told : is_some failed ≡ true → first_device ran.beside.devices ≡ Some devices.Save
      save_told some = first_is
          ∙ ap (λ b. first_told (keeper_device b (cut_device cut)) (first_down side 0 logs)) some
          ∙ ap (first_told (Some devices.Save)) banks
  joined_as (Err (ends.Device (devices.Bank number))) uncut banks is = record {
    device = inr (devices.Bank number, refl, no_save is.5 (uncut refl) ∙ banks);
    limit = λ none end at. absurd (let no = sym none ∙ no_save is.5 (uncut refl) ∙ banks in cc);
    done = λ none. absurd cc;
  }
  joined_as (Err (ends.Device devices.Snaps)) uncut banks is = absurd is
  joined_as (Err (ends.Damaged device at)) uncut banks is = absurd is
  joined_as (Err (ends.Limit Draw number)) uncut banks is = absurd is
  joined_as (Err (ends.Limit Bank number)) uncut banks is = absurd is
  joined_as (Err (ends.Limit Snap number)) uncut banks is = absurd is
  joined_as (Err (ends.Limit Height number)) uncut banks is = absurd is
  joined_as (Err ends.Memory) uncut banks is = absurd is

  -- ---- which kinds of devices failed

  cut_alone : failed ≡ None → first_down side 0 logs ≡ None → ran.beside.devices ≡ cut_device cut ++ []
  cut_alone none up = devices_are
      ∙ ap (λ b. devices_down side logs b (cut_device cut)) (no_failure failed none)
      ∙ ap (λ l. cut_device cut ++ l) (no_banks side 0 logs up)

  -- of a join that was done, just the cut that failed
  pub closed_is_cut : failed ≡ None → first_down side 0 logs ≡ None → closed_failed ran ≡ is_some cut
  closed_is_cut none up = ap (list_any (is_closed ran.beside.files)) (cut_alone none up) ∙ by_cut cut cut_closed
    where
      by_cut : (c : Option ℕ) → ((n : ℕ) → c ≡ Some n → (w : ℕ) × (n ≡ closed_number side w))
          → list_any (is_closed ran.beside.files) (cut_device c ++ []) ≡ is_some c
      by_cut None closed = refl
      by_cut (Some n) closed =
          let at = closed n refl in
          or_false (is_closed ran.beside.files (devices.Bank n))
          ∙ ap (λ m. is_closed ran.beside.files (devices.Bank m)) at.1 ∙ closed_is side ran.beside.files at.0 odd_is

  no_other : failed ≡ None → first_down side 0 logs ≡ None → other_failed ran ≡ false
  no_other none up = ap (list_any (λ d. not (is_closed ran.beside.files d))) (cut_alone none up) ∙ by_cut cut cut_closed
    where
      by_cut : (c : Option ℕ) → ((n : ℕ) → c ≡ Some n → (w : ℕ) × (n ≡ closed_number side w))
          → list_any (λ d. not (is_closed ran.beside.files d)) (cut_device c ++ []) ≡ false
      by_cut None closed = refl
      by_cut (Some n) closed =
          let at = closed n refl in
          or_false (not (is_closed ran.beside.files (devices.Bank n)))
          ∙ ap (λ m. not (is_closed ran.beside.files (devices.Bank m))) at.1 ∙ ap not (closed_is side ran.beside.files at.0 odd_is)

  -- what was made durable is what the run tells
  pub durable_by : (result : Result ℕ End) → (made result ≡ None → cut ≡ None) → first_down side 0 logs ≡ bank_told result
      → JoinAnswers kept joined stored failed result → leaves_join_out ran ≡ false → made result ≡ durable_of ran
  durable_by (Ok epoch) uncut banks is out =
      ap Some (is.2 ∙ sym epoch_is)
      ∙ sym (made_so (leaves_join_out ran) (nat_lt ran.printed.end.epoch last_epoch) (has_sequence ran) (other_failed ran) out
      (below_test ran.printed.end.epoch last_epoch (omega (arith, epoch_is, is.0)))
      (below_test (keeper_at_end ran).sequence last_sequence (omega (arith, sequence_is, is.1))) (no_other is.4 banks))
    where
      made_so : (leaves below sequence other : Bool) → leaves ≡ false → below ≡ true → sequence ≡ true
          → other ≡ false → where_true ((not leaves && below) && (sequence && not other)) ran.printed.end.epoch ≡ Some ran.printed.end.epoch
      made_so leaves below sequence other out low room none = rw (out, low, room, none) refl
  durable_by (Err (ends.Limit Epoch number)) uncut banks is out =
      sym (epoch_so (leaves_join_out ran) (nat_lt ran.printed.end.epoch last_epoch) (has_sequence ran && not (other_failed ran))
      (not_below_test ran.printed.end.epoch last_epoch (omega (arith, epoch_is, is.0))))
    where
      epoch_so : (leaves below rest : Bool) → below ≡ false → where_true ((not leaves && below) && rest) ran.printed.end.epoch ≡ None
      epoch_so true below rest is = refl
      epoch_so false below rest is = rw is refl
  durable_by (Err (ends.Limit Sequence number)) uncut banks is out =
      sym (sequence_so (comes_to_save ran) (has_sequence ran) (not (other_failed ran))
      (not_below_test (keeper_at_end ran).sequence last_sequence (omega (arith, sequence_is, is.1, is.2))))
    where
      sequence_so : (comes room none : Bool) → room ≡ false → where_true (comes && (room && none)) ran.printed.end.epoch ≡ None
      sequence_so true room none is = rw is refl
      sequence_so false room none is = refl
  durable_by (Err (ends.Device devices.Save)) uncut banks is out =
      sym (other_so (comes_to_save ran) (has_sequence ran) (other_failed ran)
      (ap (list_any (λ d. not (is_closed ran.beside.files d))) (devices_are ∙ ap (λ b. devices_down side logs b (cut_device cut)) is.3)))
    where
      other_so : (comes room other : Bool) → other ≡ true → where_true (comes && (room && not other)) ran.printed.end.epoch ≡ None
      other_so true true other is = rw is refl
      other_so true false other is = refl
      other_so false room other is = refl
  durable_by (Err (ends.Device (devices.Bank number))) uncut banks is out =
      sym (other_so (comes_to_save ran) (has_sequence ran) (other_failed ran)
      (ap (list_any (λ d. not (is_closed ran.beside.files d))) (devices_are
      ∙ ap (λ b. devices_down side logs b (cut_device cut)) (no_failure failed is.5)
      ∙ ap (λ c. devices_down side logs false (cut_device c)) (uncut refl))
      ∙ bank_other side ran.beside.files 0 logs (devices.Bank number) odd_is banks))
    where
      other_so : (comes room other : Bool) → other ≡ true → where_true (comes && (room && not other)) ran.printed.end.epoch ≡ None
      other_so true true other is = rw is refl
      other_so true false other is = refl
      other_so false room other is = refl
  durable_by (Err (ends.Device devices.Snaps)) uncut banks is out = absurd is
  durable_by (Err (ends.Damaged device at)) uncut banks is out = absurd is
  durable_by (Err (ends.Limit Draw number)) uncut banks is out = absurd is
  durable_by (Err (ends.Limit Bank number)) uncut banks is out = absurd is
  durable_by (Err (ends.Limit Snap number)) uncut banks is out = absurd is
  durable_by (Err (ends.Limit Height number)) uncut banks is out = absurd is
  durable_by (Err ends.Memory) uncut banks is out = absurd is
