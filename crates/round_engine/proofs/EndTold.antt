-- The end that is told is the first refusal of the round, by the phases that it went through.
use Rattle.std.proofs.Common.{◌≡◌, ◌∙◌, ◌⊎◌, inl, inr, sym, ap, refl, ℕ}
use Rattle.std.proofs.Common.{Bool, true, false, not, Option, Some, None}
use Rattle.std.specs.Prelude.{◌||◌, ◌==◌, is_some, nat_lt, ⊤}
use Rattle.std.specs.Option.{option_map}
use Rattle.serial_model.specs.Numbers.{last_epoch}
use Rattle.outside.specs.declared.device.Device.{Device}
use Rattle.tx_script.specs.Run.{Ran}
use Rattle.tx_script.specs.Causes.{keeper_at_end, last_sequence, leaves_join_out}
use Rattle.round_engine.specs.Ends.{bank_end, comes_to_advance, damaged_end, draw_end, end_of, epoch_end, first_device}
use Rattle.round_engine.specs.Ends.{first_of, full_length, limit_at, memory_end, save_limited, sequence_end, where_true}
use Rattle.round_engine.specs.Refusals.{damage_in, end_told, leaves_out, lines_refused, memory_in}
use Rattle.round_engine.specs.declared.report.End.{End}
use Rattle.round_engine.specs.declared.report.End.TheVariants as ends
use Rattle.round_engine.specs.declared.report.LimitName.TheVariants.{Bank, Draw, Epoch, Height, Sequence, Snap}
use Rattle.round_engine.specs.declared.rounds.LineRefusals.{LineRefusals}

-- what the lines were refused, as the run tells it
pub record IsRefusedAs (ran : Ran) (refused : LineRefusals) : Type 0 where
  pub draw : draw_end ran ≡ option_map (limit_at Draw) refused.draw
  pub full : refused.device ≡ None → full_length ran.beside.logs ≡ refused.full
  pub damage : refused.device ≡ None → damaged_end ran ≡ damage_in refused.keeper
  pub memory : refused.device ≡ None → damaged_end ran ≡ None → memory_end ran ≡ memory_in refused.keeper
  pub sequence : refused.sequence ≡ where_true (save_limited ran.printed.asked ran.printed.answers) (keeper_at_end ran).sequence
  pub leaves : leaves_join_out ran ≡ leaves_out refused

-- ---- the first of some

pub first_none : {X : Type 0} (x : Option X) → first_of x None ≡ x
first_none None = refl
first_none (Some x) = refl

pub some_first : {X : Type 0} (x y : Option X) → is_some y ≡ true → is_some (first_of x y) ≡ true
some_first None y is = is
some_first (Some x) y is = refl

pub some_map : {X Y : Type 0} (f : X → Y) (x : Option X) → is_some x ≡ true → is_some (option_map f x) ≡ true
some_map f None is = absurd cc
some_map f (Some x) is = refl

-- the end by all its parts
abbrev pub first_end : Option End → Option End → Option End → Option End → Option End → Option End → Option End → Option End
first_end device damage epoch draw full sequence memory =
    first_of device (first_of damage (first_of epoch (first_of draw (first_of full (first_of sequence memory)))))

-- ---- a join that was left out

-- without an advance no limit of the epoch is met
pub no_epoch : (ran : Ran) → leaves_join_out ran ≡ true → epoch_end ran ≡ None
no_epoch ran out = rw out refl

-- and none of the sequence but by lines
pub or_none : (b : Bool) → (b || false) ≡ b
or_none true = refl
or_none false = refl

pub map_where : {X Y : Type 0} (f : X → Y) (b : Bool) (x : X) → option_map f (where_true b x) ≡ where_true b (f x)
map_where f true x = refl
map_where f false x = refl

pub lines_sequence : (ran : Ran) (refused : LineRefusals) → IsRefusedAs ran refused → leaves_join_out ran ≡ true
    → sequence_end ran ≡ option_map (limit_at Sequence) refused.sequence
lines_sequence ran refused is out =
    rw out
    (ap (λ b. where_true b (limit_at Sequence (keeper_at_end ran).sequence)) (or_none (save_limited ran.printed.asked ran.printed.answers))
    ∙ sym (ap (option_map (limit_at Sequence)) is.sequence
    ∙ map_where (limit_at Sequence) (save_limited ran.printed.asked ran.printed.answers) (keeper_at_end ran).sequence))

pub left_out_end : (device : Option Device) (damage told_damage epoch draw full told_full sequence memory told_memory : Option End)
    → epoch ≡ None → (device ≡ None → told_damage ≡ damage) → (device ≡ None → told_full ≡ full)
    → (device ≡ None → told_damage ≡ None → told_memory ≡ memory)
    → first_of (option_map ends.Device device) (first_of damage (first_of draw (first_of full (first_of sequence memory))))
    ≡ first_end (option_map ends.Device device) told_damage epoch draw told_full sequence told_memory
left_out_end (Some device) damage told_damage epoch draw full told_full sequence memory told_memory none is_damage is_full
    is_memory = refl
left_out_end None damage told_damage epoch draw full told_full sequence memory told_memory none is_damage is_full is_memory =
    rw (none, is_full refl) (by_damage damage told_damage (is_damage refl) (λ no. is_memory refl no))
  where
    by_damage : (damage told : Option End) → told ≡ damage → (told ≡ None → told_memory ≡ memory)
        → first_of damage (first_of draw (first_of full (first_of sequence memory)))
        ≡ first_of told (first_of draw (first_of full (first_of sequence told_memory)))
    by_damage None None is same = rw (same refl) refl
    by_damage None (Some told) is same = absurd cc
    by_damage (Some damage) None is same = absurd cc
    by_damage (Some damage) (Some told) is same = sym is

pub end_left_out : (ran : Ran) (refused : LineRefusals) → IsRefusedAs ran refused → first_device ran.beside.devices ≡ refused.device
    → leaves_out refused ≡ true → lines_refused refused ≡ end_of ran
end_left_out ran refused is device out =
    left_out_end refused.device (damage_in refused.keeper) (damaged_end ran) (epoch_end ran)
    (option_map (limit_at Draw) refused.draw) (option_map (limit_at Bank) refused.full) (bank_end ran)
    (option_map (limit_at Sequence) refused.sequence) (memory_in refused.keeper) (memory_end ran)
    (no_epoch ran (is.leaves ∙ out)) is.damage (λ none. ap (option_map (limit_at Bank)) (is.full none)) is.memory
    ∙ ap (λ d. first_end d (damaged_end ran) (epoch_end ran) (option_map (limit_at Draw) refused.draw) (bank_end ran)
    (option_map (limit_at Sequence) refused.sequence) (memory_end ran)) (ap (option_map ends.Device) (sym device))
    ∙ ap (λ d. first_end (option_map ends.Device (first_device ran.beside.devices)) (damaged_end ran) (epoch_end ran) d (bank_end ran)
    (option_map (limit_at Sequence) refused.sequence) (memory_end ran)) (sym is.draw)
    ∙ ap (λ s. first_end (option_map ends.Device (first_device ran.beside.devices)) (damaged_end ran) (epoch_end ran) (draw_end ran)
    (bank_end ran) s (memory_end ran)) (sym (lines_sequence ran refused is (is.leaves ∙ out)))

-- What the maintenance thread's lines may be refused by: no limit; and a device is told as one.
abbrev pub IsKeeperEnd : Option Device → Option End → Type 0
IsKeeperEnd device None = ⊤
IsKeeperEnd device (Some (ends.Device d)) = is_some device ≡ true
IsKeeperEnd device (Some (ends.Damaged d at)) = ⊤
IsKeeperEnd device (Some (ends.Limit name number)) = ⊥
IsKeeperEnd device (Some ends.Memory) = ⊤

-- something ended the run
pub left_out_some : (refused : LineRefusals) → IsKeeperEnd refused.device refused.keeper → leaves_out refused ≡ true
    → is_some (lines_refused refused) ≡ true
left_out_some refused keeper out =
    some_of refused.device refused.full refused.keeper (option_map (limit_at Draw) refused.draw)
    (option_map (limit_at Sequence) refused.sequence) keeper out
  where
    in_full : (damage draw rest : Option End) (size : ℕ)
        → is_some (first_of damage (first_of draw (first_of (Some (limit_at Bank size)) rest))) ≡ true
    in_full (Some damage) draw rest size = refl
    in_full None (Some draw) rest size = refl
    in_full None None rest size = refl

    in_memory : (draw sequence : Option End) → is_some (first_of draw (first_of sequence (Some ends.Memory))) ≡ true
    in_memory (Some draw) sequence = refl
    in_memory None (Some sequence) = refl
    in_memory None None = refl

    some_of : (device : Option Device) (full : Option ℕ) (keeper draw sequence : Option End) → IsKeeperEnd device keeper
        → (is_some device || is_some full || is_some keeper) ≡ true
        → is_some (first_of (option_map ends.Device device) (first_of (damage_in keeper) (first_of draw
        (first_of (option_map (limit_at Bank) full) (first_of sequence (memory_in keeper)))))) ≡ true
    some_of (Some device) full keeper draw sequence is out = refl
    some_of None (Some size) keeper draw sequence ends out = in_full (damage_in keeper) draw (first_of sequence (memory_in keeper)) size
    some_of None None None draw sequence is out = absurd cc
    some_of None None (Some (ends.Device d)) draw sequence is out = absurd cc
    some_of None None (Some (ends.Damaged d at)) draw sequence is out = refl
    some_of None None (Some (ends.Limit name number)) draw sequence is out = absurd is
    some_of None None (Some ends.Memory) draw sequence is out = in_memory draw sequence

-- ---- a join that was made

-- nothing that leaves the join out was refused
pub record NoneRefused (refused : LineRefusals) : Type 0 where
  pub device : refused.device ≡ None
  pub full : refused.full ≡ None
  pub keeper : refused.keeper ≡ None

pub nothing : (refused : LineRefusals) → leaves_out refused ≡ false → NoneRefused refused
nothing refused out =
    let none = none_of refused.device refused.full refused.keeper out in
    record { device = none.0; full = none.1; keeper = none.2 }
  where
    none_of : (device : Option Device) (full : Option ℕ) (keeper : Option End)
        → (is_some device || is_some full || is_some keeper) ≡ false
        → (device ≡ None) × (full ≡ None) × (keeper ≡ None)
    none_of None None None out = (refl, refl, refl)
    none_of None None (Some end) out = absurd cc
    none_of None (Some size) keeper out = absurd cc
    none_of (Some device) full keeper out = absurd cc

-- what its join was refused, or the swap behind it, and the devices that failed
pub record IsJoinedAs (ran : Ran) (refusal : Option End) : Type 0 where
  pub device : (first_device ran.beside.devices ≡ None)
      ⊎ ((device : Device) × (refusal ≡ Some (ends.Device device)) × (first_device ran.beside.devices ≡ Some device))
  pub limit : first_device ran.beside.devices ≡ None → (end : End) → refusal ≡ Some end
      → ((end ≡ limit_at Epoch ran.printed.end.epoch) × (nat_lt ran.printed.end.epoch last_epoch ≡ false))
      ⊎ ((end ≡ limit_at Sequence (keeper_at_end ran).sequence) × (nat_lt ran.printed.end.epoch last_epoch ≡ true)
      × (((keeper_at_end ran).sequence == last_sequence) ≡ true))
  pub done : refusal ≡ None → (nat_lt ran.printed.end.epoch last_epoch ≡ true)
      × (((keeper_at_end ran).sequence == last_sequence) ≡ false) × (save_limited ran.printed.asked ran.printed.answers ≡ false)
      × (first_device ran.beside.devices ≡ None)

module _ (ran : Ran) (refused : LineRefusals) (is : IsRefusedAs ran refused) (out : leaves_out refused ≡ false) where
  made_advance : comes_to_advance ran ≡ true
  made_advance = ap not (is.leaves ∙ out)

  -- limits of lines alone are left
  abbrev draws : Option End
  draws = option_map (limit_at Draw) refused.draw

  abbrev sequences : Option End
  sequences = option_map (limit_at Sequence) refused.sequence

  lines_alone : lines_refused refused ≡ first_of draws sequences
  lines_alone =
      let none = nothing refused out in
      ap (λ d. first_of (option_map ends.Device d) (first_of (damage_in refused.keeper) (first_of draws
      (first_of (option_map (limit_at Bank) refused.full) (first_of sequences (memory_in refused.keeper)))))) none.device
      ∙ ap (λ k. first_of (damage_in k) (first_of draws
      (first_of (option_map (limit_at Bank) refused.full) (first_of sequences (memory_in k))))) none.keeper
      ∙ ap (λ f. first_of draws (first_of (option_map (limit_at Bank) f) (first_of sequences None))) none.full
      ∙ ap (first_of draws) (first_none sequences)

  no_bank : bank_end ran ≡ None
  no_bank =
      let none = nothing refused out in
      ap (option_map (limit_at Bank)) (is.full none.device ∙ none.full)

  no_damage : damaged_end ran ≡ None
  no_damage =
      let none = nothing refused out in
      is.damage none.device ∙ ap damage_in none.keeper

  no_memory : memory_end ran ≡ None
  no_memory =
      let none = nothing refused out in
      is.memory none.device no_damage ∙ ap memory_in none.keeper

  -- the end of a round whose devices are all up
  up_end : first_device ran.beside.devices ≡ None → end_of ran ≡ first_of (epoch_end ran) (first_of draws (sequence_end ran))
  up_end up =
      ap (λ d. first_end (option_map ends.Device d) (damaged_end ran) (epoch_end ran) (draw_end ran) (bank_end ran)
      (sequence_end ran) (memory_end ran)) up
      ∙ ap (λ d. first_end None d (epoch_end ran) (draw_end ran) (bank_end ran) (sequence_end ran) (memory_end ran)) no_damage
      ∙ ap (λ d. first_end None None (epoch_end ran) d (bank_end ran) (sequence_end ran) (memory_end ran)) is.draw
      ∙ ap (λ b. first_end None None (epoch_end ran) draws b (sequence_end ran) (memory_end ran)) no_bank
      ∙ ap (λ m. first_end None None (epoch_end ran) draws None (sequence_end ran) m) no_memory
      ∙ ap (λ s. first_of (epoch_end ran) (first_of draws s)) (first_none (sequence_end ran))

  epoch_reached : (b : Bool) → nat_lt ran.printed.end.epoch last_epoch ≡ b
      → epoch_end ran ≡ where_true (not b) (limit_at Epoch ran.printed.end.epoch)
  epoch_reached b test = rw (made_advance, test) refl

  no_sequence : nat_lt ran.printed.end.epoch last_epoch ≡ true → ((keeper_at_end ran).sequence == last_sequence) ≡ false
      → save_limited ran.printed.asked ran.printed.answers ≡ false → sequence_end ran ≡ None
  no_sequence below other limited = rw (limited, made_advance, below, other) refl

  pub end_done : IsJoinedAs ran None → end_told refused None ≡ end_of ran
  end_done joined =
      let done = joined.done refl in
      let none : sequences ≡ None = ap (option_map (limit_at Sequence))
      (is.sequence ∙ ap (λ b. where_true b (keeper_at_end ran).sequence) done.2) in
      lines_alone ∙ ap (first_of draws) none ∙ sym (up_end done.3
      ∙ ap (λ e. first_of e (first_of draws (sequence_end ran))) (epoch_reached true done.0)
      ∙ ap (first_of draws) (no_sequence done.0 done.1 done.2))

  -- a device is told as it is
  told_device : (end : End) (device : Device) → end ≡ ends.Device device → end_told refused (Some end) ≡ Some (ends.Device device)
  told_device end device is = ap (λ e. end_told refused (Some e)) is

  told_limit : (end : End) (number : ℕ) → end ≡ limit_at Epoch number
      → end_told refused (Some end) ≡ Some (limit_at Epoch number)
  told_limit end number is = ap (λ e. end_told refused (Some e)) is

  -- the same sequence was met by a line, or by none
  first_same : (draw : Option End) (b : Bool) (number : ℕ)
      → first_of (first_of draw (option_map (limit_at Sequence) (where_true b number))) (Some (limit_at Sequence number))
      ≡ first_of draw (Some (limit_at Sequence number))
  first_same None true number = refl
  first_same None false number = refl
  first_same (Some draw) b number = refl

  told_sequence : (end : End) → end ≡ limit_at Sequence (keeper_at_end ran).sequence
      → end_told refused (Some end) ≡ first_of draws (Some (limit_at Sequence (keeper_at_end ran).sequence))
  told_sequence end this = ap (λ e. end_told refused (Some e)) this
      ∙ ap (λ r. first_of r (Some (limit_at Sequence (keeper_at_end ran).sequence))) lines_alone
      ∙ ap (λ s. first_of (first_of draws (option_map (limit_at Sequence) s)) (Some (limit_at Sequence (keeper_at_end ran).sequence))) is.sequence
      ∙ first_same draws (save_limited ran.printed.asked ran.printed.answers) (keeper_at_end ran).sequence

  or_true : (b : Bool) → (b || true) ≡ true
  or_true true = refl
  or_true false = refl

  met_sequence : nat_lt ran.printed.end.epoch last_epoch ≡ true → ((keeper_at_end ran).sequence == last_sequence) ≡ true
      → sequence_end ran ≡ Some (limit_at Sequence (keeper_at_end ran).sequence)
  met_sequence below at = rw (made_advance, below, at, or_true (save_limited ran.printed.asked ran.printed.answers)) refl

  pub end_refused : (end : End) → IsJoinedAs ran (Some end) → end_told refused (Some end) ≡ end_of ran
  end_refused end joined = elim joined.device [
    | inr failed ↦
        told_device end failed.0 (some_is end (ends.Device failed.0) failed.1)
        ∙ sym (ap (λ d. first_end (option_map ends.Device d) (damaged_end ran) (epoch_end ran) (draw_end ran) (bank_end ran)
        (sequence_end ran) (memory_end ran)) failed.2)
    | inl up ↦ elim (joined.limit up end refl) [
      | inl epoch ↦
          told_limit end ran.printed.end.epoch epoch.0
          ∙ sym (up_end up ∙ ap (λ e. first_of e (first_of draws (sequence_end ran))) (epoch_reached false epoch.1))
      | inr last ↦
          told_sequence end last.0
          ∙ sym (up_end up ∙ ap (λ e. first_of e (first_of draws (sequence_end ran))) (epoch_reached true last.1)
          ∙ ap (first_of draws) (met_sequence last.1 last.2))
    ]
  ]
    where
      some_is : (a b : End) → Some a ≡ Some b → a ≡ b
      some_is a b is = cc

-- a refusal of the join is told, or one of the lines
pub told_some : (refused : LineRefusals) (end : End) → is_some (end_told refused (Some end)) ≡ true
told_some refused (ends.Device device) = refl
told_some refused (ends.Damaged device at) = refl
told_some refused (ends.Limit Epoch number) = refl
told_some refused (ends.Limit Draw number) = refl
told_some refused (ends.Limit Bank number) = refl
told_some refused (ends.Limit Snap number) = refl
told_some refused (ends.Limit Height number) = refl
told_some refused (ends.Limit Sequence number) = some_first (lines_refused refused) (Some (limit_at Sequence number)) refl
told_some refused ends.Memory = refl
