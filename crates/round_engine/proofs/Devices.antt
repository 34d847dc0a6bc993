-- Which devices of a vault failed: those whose journals or whose store are down, and those that are told besides.
use Rattle.std.proofs.Common.{◌≡◌, ◌∙◌, ◌+◌, ◌⊎◌, ◌++◌, ◌∷◌, inl, inr, sym, ap, subst, refl, ℕ, zero, suc}
use Rattle.std.proofs.Common.{List, [], length, map, Bool, true, false, Option, Some, None, arith}
use Rattle.std.specs.Prelude.{is_some, slice_get, ⊤}
use Rattle.std.specs.List.{Contains}
use Rattle.std.proofs.lemmas.Bool.{cases_Bool}
use Rattle.std.proofs.lemmas.List.Elements.{Contains-append_cases, Contains-append_left, Contains-append_right}
use Rattle.std.proofs.lemmas.Option.{same_Some}
use Rattle.lists.specs.Elements.{in_cases, in_head, in_none, in_tail}
use Rattle.outside.specs.Faults.{Rose}
use Rattle.log_writer.specs.Vault.{disk_in}
use Rattle.outside.specs.declared.device.Device.{Device}
use Rattle.outside.specs.declared.device.Device.TheVariants as devices
use Rattle.log_writer.specs.declared.vault.Vault.{Vault}
use Rattle.joint_crashes.specs.VaultReads.{RoseIn}
use Rattle.worker_logs.specs.Logs.{LogState}
use Rattle.worker_logs.specs.Saves.{closed_number, growing_number}
use Rattle.worker_logs.specs.declared.savepoints.Side.{Side}
use Rattle.worker_logs.specs.Rows.{Blames}
use Rattle.round_engine.specs.RanRound.{AreFailed}
use Rattle.round_engine.specs.Sides.{closed_in, growing_in}
use Rattle.round_engine.proofs.Ended.{banks_down, devices_down}
use Rattle.round_engine.proofs.Numbered.{closed_at, growing_at, grows_not_closed, numbered, same_growing}
use Rattle.round_engine.proofs.Places.{item_at, map_at, within_of}

-- ---- the list of those that failed

-- the first worker is the one at nought
pub at_first : (i : ℕ) → i ≡ 0 + i
at_first i = omega arith

pub bank_in : (side : Side) (worker k n : ℕ) (logs : List Bool) → worker + k ≡ n → slice_get logs k ≡ Some true
    → Contains (banks_down side worker logs) (devices.Bank (growing_number side n))
bank_in side worker k n [] sum is = absurd cc
bank_in side worker zero n (true ∷ logs) sum is =
    subst (λ m. Contains (banks_down side worker (true ∷ logs)) (devices.Bank (growing_number side m))) (omega (arith, sum))
    (in_head (devices.Bank (growing_number side worker)) (banks_down side (worker + 1) logs))
bank_in side worker zero n (false ∷ logs) sum is = absurd cc
bank_in side worker (suc k) n (true ∷ logs) sum is =
    in_tail (devices.Bank (growing_number side n)) (devices.Bank (growing_number side worker)) (banks_down side (worker + 1) logs)
    (bank_in side (worker + 1) k n logs (omega (arith, sum)) is)
bank_in side worker (suc k) n (false ∷ logs) sum is = bank_in side (worker + 1) k n logs (omega (arith, sum)) is

-- where a device of the list stands
pub in_banks : (side : Side) (worker : ℕ) (logs : List Bool) (device : Device) → Contains (banks_down side worker logs) device
    → (k n : ℕ) × (worker + k ≡ n) × (slice_get logs k ≡ Some true) × (devices.Bank (growing_number side n) ≡ device)
in_banks side worker [] device has = absurd (in_none device has)
in_banks side worker (true ∷ logs) device has =
    elim (in_cases device (devices.Bank (growing_number side worker)) (banks_down side (worker + 1) logs) has) [
      | inl here ↦ (0, worker, omega arith, refl, here)
      | inr later ↦
          let rest = in_banks side (worker + 1) logs device later in
          (suc rest.0, rest.1, omega (arith, rest.2), rest.3, rest.4)
    ]
in_banks side worker (false ∷ logs) device has =
    let rest = in_banks side (worker + 1) logs device has in
    (suc rest.0, rest.1, omega (arith, rest.2), rest.3, rest.4)

-- the save is one of them where its store is down
pub save_in : (side : Side) (logs : List Bool) (others : List Device) → Contains (devices_down side logs true others) devices.Save
save_in side logs others = in_head devices.Save (others ++ banks_down side 0 logs)

pub others_in : (side : Side) (logs : List Bool) (save : Bool) (others : List Device) (device : Device) → Contains others device
    → Contains (devices_down side logs save others) device
others_in side logs true others device has =
    in_tail device devices.Save (others ++ banks_down side 0 logs) (Contains-append_left others (banks_down side 0 logs) device has)
others_in side logs false others device has = Contains-append_left others (banks_down side 0 logs) device has

pub banks_in : (side : Side) (logs : List Bool) (save : Bool) (others : List Device) (device : Device)
    → Contains (banks_down side 0 logs) device → Contains (devices_down side logs save others) device
banks_in side logs true others device has =
    in_tail device devices.Save (others ++ banks_down side 0 logs) (Contains-append_right others (banks_down side 0 logs) device has)
banks_in side logs false others device has = Contains-append_right others (banks_down side 0 logs) device has

-- a device of the list is one of these
pub in_down : (side : Side) (logs : List Bool) (save : Bool) (others : List Device) (device : Device)
    → Contains (devices_down side logs save others) device
    → ((device ≡ devices.Save) × (save ≡ true)) ⊎ (Contains others device ⊎ Contains (banks_down side 0 logs) device)
in_down side logs false others device has = inr (Contains-append_cases others (banks_down side 0 logs) device has)
in_down side logs true others device has =
    elim (in_cases device devices.Save (others ++ banks_down side 0 logs) has) [
      | inl is ↦ inl (sym is, refl)
      | inr rest ↦ inr (Contains-append_cases others (banks_down side 0 logs) device rest)
    ]

-- the save is one only where its store is down
pub save_down : (side : Side) (logs : List Bool) (save : Bool) (others : List Device) → (Contains others devices.Save → ⊥)
    → Contains (devices_down side logs save others) devices.Save → save ≡ true
save_down side logs save others not has = elim (in_down side logs save others devices.Save has) [
  | inl is ↦ is.1
  | inr rest ↦ elim rest [
    | inl other ↦ absurd (not other)
    | inr bank ↦ let at = in_banks side 0 logs devices.Save bank in absurd (let no = at.4 in cc)
  ]
]

-- a growing log file of the list is one whose journal is down
pub bank_down : (side : Side) (logs : List Bool) (save : Bool) (others : List Device) (w : ℕ)
    → (Contains others (devices.Bank (growing_number side w)) → ⊥)
    → Contains (devices_down side logs save others) (devices.Bank (growing_number side w))
    → slice_get logs w ≡ Some true
bank_down side logs save others w not has = elim (in_down side logs save others (devices.Bank (growing_number side w)) has) [
  | inl is ↦ absurd (let no = is.0 in cc)
  | inr rest ↦ elim rest [
    | inl other ↦ absurd (not other)
    | inr bank ↦
        let at = in_banks side 0 logs (devices.Bank (growing_number side w)) bank in
        let same : growing_number side at.1 ≡ growing_number side w = let is = at.4 in cc in
        let here = same_growing side at.1 w same in
        subst (λ k. slice_get logs k ≡ Some true) (omega (arith, here, at.2)) at.3
  ]
]

-- ---- a vault

-- a journal is down, as a test
abbrev pub are_down : List LogState → List Bool
are_down logs = map (λ (log : LogState). is_some log.journal.down) logs

pub down_at : (logs : List LogState) (k : ℕ) (log : LogState) → slice_get logs k ≡ Some log → is_some log.journal.down ≡ true
    → slice_get (are_down logs) k ≡ Some true
down_at [] k log is down = absurd cc
down_at (x ∷ logs) zero log is down =
    ap Some (ap (λ (l : LogState). is_some l.journal.down) (same_Some x log is) ∙ down)
down_at (x ∷ logs) (suc k) log is down = down_at logs k log is down

pub some_down : (down : Option ℕ) → is_some down ≡ true → (count : ℕ) × (down ≡ Some count)
some_down None is = absurd cc
some_down (Some count) is = (count, refl)

pub none_down : (down : Option ℕ) → (is_some down ≡ true → ⊥) → down ≡ None
none_down None not = refl
none_down (Some count) not = absurd (not refl)

-- the devices that are told besides: the snapshots, and closed log files
abbrev pub IsBeside : Side → Device → Type 0
IsBeside side devices.Save = ⊥
IsBeside side devices.Snaps = ⊤
IsBeside side (devices.Bank number) = (w : ℕ) × (number ≡ closed_number side w)

pub beside_not_save : (side : Side) (others : List Device) → ((device : Device) → Contains others device → IsBeside side device)
    → Contains others devices.Save → ⊥
beside_not_save side others beside has = beside devices.Save has

pub beside_not_growing : (side : Side) (others : List Device) (w : ℕ)
    → ((device : Device) → Contains others device → IsBeside side device)
    → Contains others (devices.Bank (growing_number side w)) → ⊥
beside_not_growing side others w beside has =
    let at = beside (devices.Bank (growing_number side w)) has in
    grows_not_closed side w at.0 at.1

module _ {D : Type 0} (faults : D → ℕ) (side : Side) (logs : List LogState) (before now : Vault D) (save : Bool)
    (others : List Device)
    (before_many : length logs ≡ length (growing_in side before)) (now_many : length logs ≡ length (growing_in side now))
    (each : (w : ℕ) (log : LogState) (was is : D) → slice_get logs w ≡ Some log → slice_get (growing_in side before) w ≡ Some was
    → slice_get (growing_in side now) w ≡ Some is → Blames faults was is log.journal)
    (rose_others : (device : Device) → Contains others device → RoseIn faults device before now)
    (quiet_snaps : (Contains others devices.Snaps → ⊥) → faults now.snaps ≡ faults before.snaps)
    (quiet_closed : (w : ℕ) (was is : D) → slice_get (closed_in side before) w ≡ Some was
    → slice_get (closed_in side now) w ≡ Some is → (Contains others (devices.Bank (closed_number side w)) → ⊥)
    → faults is ≡ faults was)
    (rose : save ≡ true → Rose (faults before.save) (faults now.save))
    (quiet : save ≡ false → faults now.save ≡ faults before.save) where
  -- a closed log file that isn't told
  closed_bank : (w : ℕ) (was is : D) → (Contains (devices_down side (are_down logs) save others) (devices.Bank (closed_number side w)) → ⊥)
      → disk_in before (devices.Bank (closed_number side w)) ≡ Some was
      → disk_in now (devices.Bank (closed_number side w)) ≡ Some is → faults is ≡ faults was
  closed_bank w was is not there now_there =
      quiet_closed w was is (sym (closed_at side before w) ∙ there) (sym (closed_at side now w) ∙ now_there)
      (λ has. not (others_in side (are_down logs) save others (devices.Bank (closed_number side w)) has))

  -- a growing one that isn't told
  growing_bank : (w : ℕ) (was is : D) → (Contains (devices_down side (are_down logs) save others) (devices.Bank (growing_number side w)) → ⊥)
      → disk_in before (devices.Bank (growing_number side w)) ≡ Some was
      → disk_in now (devices.Bank (growing_number side w)) ≡ Some is → faults is ≡ faults was
  growing_bank w was is not there now_there =
      let at : slice_get (growing_in side before) w ≡ Some was = sym (growing_at side before w) ∙ there in
      let after : slice_get (growing_in side now) w ≡ Some is = sym (growing_at side now w) ∙ now_there in
      let log = item_at logs w (omega (arith, before_many, within_of (growing_in side before) w was at)) in
      (each w log.0 was is log.1 at after).quiet (none_down log.0.journal.down
      (λ down. not (banks_in side (are_down logs) save others (devices.Bank (growing_number side w))
      (bank_in side 0 w w (are_down logs) (omega arith) (down_at logs w log.0 log.1 down)))))

  quiet_in : (device : Device) → (Contains (devices_down side (are_down logs) save others) device → ⊥) → (was is : D)
      → disk_in before device ≡ Some was → disk_in now device ≡ Some is → faults is ≡ faults was
  quiet_in devices.Save not was is there now_there = elim (cases_Bool save) [
    | inl failed ↦ absurd (not (subst (λ b. Contains (devices_down side (are_down logs) b others) devices.Save) (sym failed)
        (save_in side (are_down logs) others)))
    | inr up ↦ ap faults (sym (same_Some now.save is now_there)) ∙ quiet up ∙ ap faults (same_Some before.save was there)
  ]
  quiet_in devices.Snaps not was is there now_there =
      ap faults (sym (same_Some now.snaps is now_there))
      ∙ quiet_snaps (λ has. not (others_in side (are_down logs) save others devices.Snaps has))
      ∙ ap faults (same_Some before.snaps was there)
  quiet_in (devices.Bank n) not was is there now_there = elim (numbered side n) [
    | inl grows ↦
        growing_bank grows.0 was is
        (subst (λ m. Contains (devices_down side (are_down logs) save others) (devices.Bank m) → ⊥) grows.1 not)
        (subst (λ m. disk_in before (devices.Bank m) ≡ Some was) grows.1 there)
        (subst (λ m. disk_in now (devices.Bank m) ≡ Some is) grows.1 now_there)
    | inr closed ↦
        closed_bank closed.0 was is
        (subst (λ m. Contains (devices_down side (are_down logs) save others) (devices.Bank m) → ⊥) closed.1 not)
        (subst (λ m. disk_in before (devices.Bank m) ≡ Some was) closed.1 there)
        (subst (λ m. disk_in now (devices.Bank m) ≡ Some is) closed.1 now_there)
  ]

  -- The devices of the list failed, and no others, where each log's fault is told by its journal.
  pub are_failed : AreFailed faults (devices_down side (are_down logs) save others) before now
  are_failed = record {
    rose = λ device has. elim (in_down side (are_down logs) save others device has) [
      | inl is ↦ subst (λ d. RoseIn faults d before now) (sym is.0) (before.save, now.save, refl, refl, rose is.1)
      | inr rest ↦ elim rest [
        | inl other ↦ rose_others device other
        | inr bank ↦
            let at = in_banks side 0 (are_down logs) device bank in
            let here : at.0 ≡ at.1 = omega (arith, at.2) in
            let log = map_at (λ (l : LogState). is_some l.journal.down) logs at.1 true
            (subst (λ k. slice_get (are_down logs) k ≡ Some true) here at.3) in
            let within = within_of logs at.1 log.0 log.1 in
            let was = item_at (growing_in side before) at.1 (omega (arith, within, before_many)) in
            let is = item_at (growing_in side now) at.1 (omega (arith, within, now_many)) in
            let blames = each at.1 log.0 was.0 is.0 log.1 was.1 is.1 in
            let down = some_down log.0.journal.down log.2 in
            subst (λ d. RoseIn faults d before now) at.4
            (was.0, is.0, growing_at side before at.1 ∙ was.1, growing_at side now at.1 ∙ is.1, blames.rose down.0 down.1)
      ]
    ];
    quiet = quiet_in;
  }
