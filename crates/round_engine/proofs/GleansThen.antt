-- Gleans of some lines, and then of more.
use Rattle.std.proofs.Common.{◌≡◌, ◌∙◌, ◌≤◌, ◌<◌, ◌*◌, ◌+◌, ◌++◌, ◌∷◌, inl, inr, sym, ap, subst, refl, ℕ, List, []}
use Rattle.std.proofs.Common.{append_assoc, length, length-append, Bool, true, false, Option, Some, None, arith}
use Rattle.std.specs.Prelude.{is_some, replicate, slice_get}
use Rattle.std.specs.List.{Contains}
use Rattle.std.proofs.lemmas.Bool.{cases_Bool}
use Rattle.std.proofs.lemmas.List.Elements.{Contains-append_cases, Contains-append_left, Contains-append_right}
use Rattle.std.proofs.lemmas.List.Sums.{fold-append}
use Rattle.lists.specs.Elements.{in_cases, in_none}
use Rattle.outside.specs.Faults.{Rose}
use Rattle.outside.specs.Fronts.{AllBegin}
use Rattle.outside.specs.Moments.{left_after_runs, runs_then}
use Rattle.outside.specs.Reads.{OnlyReads, reads_then}
use Rattle.outside.specs.declared.device.Device.{Device}
use Rattle.outside.specs.declared.device.Device.TheVariants as devices
use Rattle.log_writer.specs.declared.vault.Vault.{Vault}
use Rattle.snapshot_store.specs.Store.{KeepsFront}
use Rattle.tx_script.specs.Causes.{some_counted}
use Rattle.tx_script.specs.declared.answer.Answer.{Answer}
use Rattle.tx_script.specs.declared.answer.Answer.TheVariants as answers
use Rattle.worker_logs.specs.Saves.{closed_number}
use Rattle.worker_logs.specs.declared.savepoints.Beside.{Beside}
use Rattle.worker_logs.specs.declared.savepoints.Side.{Side}
use Rattle.round_engine.specs.Gleans.{AddsSnapshot, FailsIn, LeaveGleans, RoundGleans}
use Rattle.round_engine.specs.Keeping.{NeedCounted}
use Rattle.round_engine.specs.Saves.{beside_after, beside_at_end}
use Rattle.round_engine.specs.Sides.{closed_in, growing_in}
use Rattle.round_engine.specs.Standing.{beside_of, RuntimeState}
use Rattle.round_engine.proofs.GleansSeen.{adds_first, damage_first, found_first, seen_of, seen_same, TellAlike}
use Rattle.round_engine.proofs.Places.{item_at, within_of}

-- ---- a snapshot among answers

-- one of them tells a snapshot
abbrev pub snap_in : List Answer → Bool
snap_in [] = false
snap_in (answers.Snap epoch new ∷ more) = true
snap_in (_ ∷ more) = snap_in more

pub no_snap : (said : List Answer) → snap_in said ≡ false → (epoch count : ℕ) → Contains said (answers.Snap epoch count) → ⊥
no_snap [] none epoch count has = in_none (answers.Snap epoch count) has
no_snap (answers.Snap e n ∷ more) none epoch count has = absurd (let no = none in cc)
no_snap (a ∷ more) none epoch count has = elim (in_cases (answers.Snap epoch count) a more has) [
  | inl here ↦ absurd (let no = here in cc)
  | inr later ↦ no_snap more none epoch count later
]

pub snap_there : (said : List Answer) (epoch count : ℕ) → Contains said (answers.Snap epoch count) → snap_in said ≡ true
snap_there said epoch count has = elim (cases_Bool (snap_in said)) [
  | inl some ↦ some
  | inr none ↦ absurd (no_snap said none epoch count has)
]

-- ---- what counts beside behind answers

pub beside_kept : (b : Beside) (said : List Answer) → snap_in said ≡ false → beside_at_end b said ≡ b
beside_kept b [] none = refl
beside_kept b (answers.Snap epoch new ∷ more) none = absurd (let no = none in cc)
beside_kept b (_ ∷ more) none = beside_kept b more none

zeros_stay : (b : Beside) (said : List Answer) → b.closed ≡ replicate 8 0 → (beside_at_end b said).closed ≡ replicate 8 0
zeros_stay b [] is = is
zeros_stay b (answers.Snap epoch new ∷ more) is =
    zeros_stay (record b { closed = replicate 8 0; count = b.count + new }) more refl
zeros_stay b (_ ∷ more) is = zeros_stay b more is

pub beside_zeros : (b : Beside) (said : List Answer) → snap_in said ≡ true → (beside_at_end b said).closed ≡ replicate 8 0
beside_zeros b [] some = absurd (let no = some in cc)
beside_zeros b (answers.Snap epoch new ∷ more) some =
    zeros_stay (record b { closed = replicate 8 0; count = b.count + new }) more refl
beside_zeros b (_ ∷ more) some = beside_zeros b more some

pub beside_side : (b : Beside) (said : List Answer) → (beside_at_end b said).growing ≡ b.growing
beside_side b [] = refl
beside_side b (answers.Snap epoch new ∷ more) =
    beside_side (record b { closed = replicate 8 0; count = b.count + new }) more
beside_side b (_ ∷ more) = beside_side b more

beside_ext : (b c : Beside) → b.growing ≡ c.growing → b.closed ≡ c.closed → b.count ≡ c.count → b ≡ c
beside_ext b c growing closed count =
    ap (λ x. record b { growing = x }) growing ∙ ap (λ x. record b { growing = c.growing; closed = x }) closed
    ∙ ap (λ x. record b { growing = c.growing; closed = c.closed; count = x }) count

pub none_of_zeros : (counted : List ℕ) → counted ≡ replicate 8 0 → some_counted counted ≡ true → ⊥
none_of_zeros counted is some = let no : some_counted (replicate 8 0) ≡ true = subst (λ l. some_counted l ≡ true) is some in absurd cc

-- ---- some lines, and more

module _ {D : Type 0} {tells : D → Option (List ℕ)} {clock : D → ℕ} {image_at : D → ℕ → List ℕ → Type 0} {faults : D → ℕ}
    {said told : List Answer} {first next : List (Option ℕ)} {broken : List Device} {damaged : Option (Device × ℕ)}
    {old mid new : RuntimeState} {before between now : Vault D} (sound : mid.store.sound ≡ true)
    (decls : mid.stands.decls ≡ old.stands.decls)
    (one : RoundGleans tells said first None old mid before between)
    (left : LeaveGleans tells clock image_at faults said [] old mid before between)
    (two : RoundGleans tells told next damaged mid new between now)
    (leaves : LeaveGleans tells clock image_at faults told broken mid new between now)
    (needs : NeedCounted mid told next broken damaged) where
  pub beside_mid : beside_of mid ≡ beside_at_end (beside_of old) said
  beside_mid = beside_ext (beside_of mid) (beside_at_end (beside_of old) said)
      (left.side ∙ sym (beside_side (beside_of old) said)) left.counted (one.many sound)

  pub beside_both : beside_at_end (beside_of old) (said ++ told) ≡ beside_at_end (beside_of mid) told
  beside_both = fold-append beside_after (beside_of old) said told ∙ ap (λ b. beside_at_end b told) (sym beside_mid)

  seen_before : snap_in said ≡ false → seen_of mid ≡ seen_of old
  seen_before none = seen_same old mid (one.kept (no_snap said none) sound).0 decls left.side
      (left.counted ∙ ap (λ (b : Beside). b.closed) (beside_kept (beside_of old) said none)) left.closed_at left.room

  pub spent : snap_in said ≡ true → some_counted mid.counted ≡ true → ⊥
  spent some counted = none_of_zeros mid.counted (left.counted ∙ beside_zeros (beside_of old) said some) counted

  alike : TellAlike tells (closed_in old.side before) (closed_in old.side between)
  alike = record {
    many = left.over.many;
    same = λ worker was is at there. (left.over.reads worker was is at there).told;
  }

  pub gleans_both : RoundGleans tells (said ++ told) (first ++ next) damaged old new before now
  gleans_both = record {
    told = two.told ∙ one.told;
    found = λ what has. elim (Contains-append_cases first next what has) [
      | inl early ↦ one.found what early
      | inr behind ↦ elim (cases_Bool (snap_in said)) [
        | inl some ↦ absurd (spent some (needs.found what behind))
        | inr none ↦ found_first old mid before between (seen_before none) alike what (two.found what behind)
      ]
    ];
    made = λ epoch count has. elim (Contains-append_cases said told (answers.Snap epoch count) has) [
      | inl early ↦
          let some = snap_there said epoch count early in
          let still = two.kept (λ e n there. spent some (needs.made e n there))
          (leaves.sound (λ has. spent some (needs.device devices.Snaps has)) sound) in
          subst (λ s. AddsSnapshot tells old before s count) (sym still.0) (one.made epoch count early)
      | inr behind ↦ elim (cases_Bool (snap_in said)) [
        | inl some ↦ absurd (spent some (needs.made epoch count behind))
        | inr none ↦ adds_first old mid before between (seen_before none) alike new.store count (two.made epoch count behind)
      ]
    ];
    kept = λ none up.
        let here = one.kept (λ e n has. none e n (Contains-append_left said told (answers.Snap e n) has)) sound in
        let there = two.kept (λ e n has. none e n (Contains-append_right said told (answers.Snap e n) has)) up in
        (there.0 ∙ here.0, there.1 ∙ here.1);
    damage = λ device at is. elim (cases_Bool (snap_in said)) [
      | inl some ↦ absurd (spent some (needs.damage (ap is_some is)))
      | inr none ↦ damage_first old mid before between (seen_before none) alike device at (two.damage device at is)
    ];
    undamaged = λ none. two.undamaged (λ has. none (Contains-append_right said told answers.Damaged has));
    many = λ up. two.many up ∙ ap (λ (b : Beside). b.count) (sym beside_both);
  }

  -- ---- what they leave

  pages_more : length old.store.pages ≤ length mid.store.pages
  pages_more = omega (arith, ap length left.grows.1, length-append old.store.pages left.grows.0)

  -- a closed log file between
  file_between : (worker : ℕ) (was : D) → slice_get (closed_in old.side before) worker ≡ Some was
      → (file : D) × (slice_get (closed_in old.side between) worker ≡ Some file)
  file_between worker was at =
      item_at (closed_in old.side between) worker (omega (arith, within_of (closed_in old.side before) worker was at, left.over.many))

  reads_after : (worker : ℕ) (was is : D) → slice_get (closed_in old.side between) worker ≡ Some was
      → slice_get (closed_in old.side now) worker ≡ Some is → OnlyReads tells clock image_at faults was is
  reads_after = subst (λ s. (worker : ℕ) (was is : D) → slice_get (closed_in s between) worker ≡ Some was
      → slice_get (closed_in s now) worker ≡ Some is → OnlyReads tells clock image_at faults was is) left.side leaves.over.reads

  front_both : KeepsFront clock image_at (512 * length old.store.pages) before.snaps now.snaps
  front_both front within begins =
      let runs = left.over.front front within begins in
      let there : AllBegin (image_at between.snaps (clock between.snaps)) front =
      λ c image. elim (left_after_runs c runs image) [
        | inl was ↦ begins c was
        | inr is ↦ is
      ] in
      runs_then runs (leaves.over.front front (omega (arith, within, pages_more)) there)

  quiet_after : (worker : ℕ) (was is : D) → slice_get (closed_in old.side between) worker ≡ Some was
      → slice_get (closed_in old.side now) worker ≡ Some is
      → (Contains broken (devices.Bank (closed_number old.side worker)) → ⊥) → faults is ≡ faults was
  quiet_after = subst (λ s. (worker : ℕ) (was is : D) → slice_get (closed_in s between) worker ≡ Some was
      → slice_get (closed_in s now) worker ≡ Some is
      → (Contains broken (devices.Bank (closed_number s worker)) → ⊥) → faults is ≡ faults was) left.side leaves.quietly.files

  quiet_first : (worker : ℕ) (was is : D) → slice_get (closed_in old.side before) worker ≡ Some was
      → slice_get (closed_in old.side between) worker ≡ Some is → faults is ≡ faults was
  quiet_first worker was is at there = left.quietly.files worker was is at there
      (λ no. in_none (devices.Bank (closed_number old.side worker)) no)

  -- a file that failed then
  abbrev FileFails : Side → Device → Vault D → Vault D → Type 0
  FileFails side device was is = (worker : ℕ) × (one : D) × (other : D) × (worker < 8)
      × (device ≡ devices.Bank (closed_number side worker))
      × (slice_get (closed_in side was) worker ≡ Some one) × (slice_get (closed_in side is) worker ≡ Some other)
      × Rose (faults one) (faults other)

  file_fails : (device : Device) → FileFails mid.side device between now → FileFails old.side device before now
  file_fails device fails =
      let f : FileFails old.side device between now = subst (λ s. FileFails s device between now) left.side fails in
      let one = item_at (closed_in old.side before) f.0
      (omega (arith, within_of (closed_in old.side between) f.0 f.1 f.5, left.over.many)) in (
        f.0,
        one.0,
        f.2,
        f.3,
        f.4,
        one.1,
        f.6,
        subst (λ n. Rose n (faults f.2)) (quiet_first f.0 one.0 f.1 one.1 f.5) f.7,
      )

  fails_both : (device : Device) → FailsIn tells clock image_at faults mid device between now
      → FailsIn tells clock image_at faults old device before now
  fails_both devices.Snaps fails = subst (λ n. Rose n (faults now.snaps)) (left.quietly.snaps (λ no. in_none devices.Snaps no)) fails
  fails_both devices.Save fails = file_fails devices.Save fails
  fails_both (devices.Bank n) fails = file_fails (devices.Bank n) fails

  pub leaves_both : LeaveGleans tells clock image_at faults (said ++ told) broken old new before now
  leaves_both = record {
    room = leaves.room ∙ left.room;
    side = leaves.side ∙ left.side;
    closed_at = leaves.closed_at ∙ left.closed_at;
    counted = leaves.counted ∙ ap (λ (b : Beside). b.closed) (sym beside_both);
    grows = (
      left.grows.0 ++ leaves.grows.0,
      leaves.grows.1 ∙ ap (λ l. l ++ leaves.grows.0) left.grows.1
          ∙ append_assoc old.store.pages left.grows.0 leaves.grows.0,
    );
    sound = λ fine up. leaves.sound fine sound;
    snapshot = λ has up. leaves.snapshot (λ is. left.snapshot has is) up;
    over = record {
      growing = subst (λ s. growing_in s now ≡ growing_in s between) left.side leaves.over.growing ∙ left.over.growing;
      cuts = leaves.over.cuts ∙ left.over.cuts;
      front = front_both;
      told = leaves.over.told ∙ left.over.told;
      many = subst (λ s. length (closed_in s now) ≡ length (closed_in s between)) left.side leaves.over.many
          ∙ left.over.many;
      reads = λ worker was is at there.
          let file = file_between worker was at in
          reads_then (left.over.reads worker was file.0 at file.1) (reads_after worker file.0 is file.1 there);
    };
    quietly = record {
      snaps = λ fine. leaves.quietly.snaps fine ∙ left.quietly.snaps (λ no. in_none devices.Snaps no);
      files = λ worker was is at there fine.
          let file = file_between worker was at in
          quiet_after worker file.0 is file.1 there fine ∙ quiet_first worker was file.0 at file.1;
    };
    fails = λ device is. fails_both device (leaves.fails device is);
  }
