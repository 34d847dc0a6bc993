-- What a save by marks counts, and what it is to those who know the save device.
use Rattle.std.proofs.Common.{◌≡◌, ◌≤◌, ◌<◌, ◌+◌, ◌-◌, ◌*◌, ◌∷◌, ◌⊎◌, inl, inr, ℕ, zero, suc, List, [], Option}
use Rattle.std.proofs.Common.{Some, None, length, get_or, drop, refl, sym, ◌∙◌, ap, subst, arith}
use Rattle.std.specs.Prelude.{fold, min, map, flat_map, option_to_list, slice_get, is_some, Result, Ok, Err, true}
use Rattle.std.specs.Prelude.{◌/◌, ◌%◌}
use Rattle.std.specs.List.{AllByRecursion}
use Rattle.std.proofs.lemmas.Bool.{cases_eq, cases_lt}
use Rattle.std.proofs.lemmas.List.{length-map}
use Rattle.std.proofs.lemmas.Option.{same_Some}
use Rattle.outside.specs.Fronts.{AllBegin}
use Rattle.outside.specs.Moments.{runs_weaker}
use Rattle.outside.specs.declared.device.Device.TheVariants.{Bank}
use Rattle.log_writer.specs.Counted.{KeepsCounted, keeps_nothing}
use Rattle.log_writer.specs.Vault.{disk_in}
use Rattle.log_writer.specs.declared.records.Tie.{Tie}
use Rattle.log_writer.specs.declared.vault.Vault.{Vault}
use Rattle.serial_model.specs.declared.number.Commit.{Commit}
use Rattle.wire_form.specs.declared.clock.Mark.{Mark}
use Rattle.log_writer.specs.Points.{SaveState, next_point, point_of, sequence_of}
use Rattle.log_writer.specs.Save.{Names, NamesOldOrNew}
use Rattle.log_writer.specs.declared.save.SaveFault.{SaveFault}
use Rattle.log_writer.specs.declared.save.SaveFault.TheVariants.{Device, Down, Limit}
use Rattle.log_writer.specs.declared.saved.Saved.{Saved}
use Rattle.joint_crashes.specs.JointCrash.{Moments}
use Rattle.joint_crashes.specs.Marks.{IsAbove, Marks}
use Rattle.joint_crashes.specs.Rounds.{KeeperRan}
use Rattle.joint_crashes.specs.Story.{Story}
use Rattle.joint_crashes.specs.Crashes.Rounded.{keeper_stores}
use Rattle.joint_crashes.specs.Crashes.SaveSteps.{save_stored, save_failed}
use Rattle.worker_logs.specs.Logs.{MarkSays, IsMarkOf}
use Rattle.worker_logs.specs.Saves.{AreDurable, saved_epoch, sequence_begun, IsCounted, SavesBy, SavesMarks, CountsOf}
use Rattle.worker_logs.specs.Saves.{closed_number, growing_number, in_turn, lengths_by}
use Rattle.worker_logs.specs.declared.savepoints.Beside.{Beside}
use Rattle.worker_logs.specs.declared.savepoints.Side.{Side}
use Rattle.worker_logs.specs.declared.savepoints.Side.TheVariants.{Even, Odd}

-- ---- the saved epoch

-- the least of a number and others is at most the number
least_at_most : (n : ℕ) (xs : List ℕ) → fold min n xs ≤ n
least_at_most n [] = omega arith
least_at_most n (x ∷ xs) = let less = least_at_most (min n x) xs in omega (arith, less)

-- it is below the clock's epoch
pub saved_epoch_less : (clock : ℕ) (epochs : List (Option ℕ)) → saved_epoch clock epochs ≤ clock - 1
saved_epoch_less clock epochs = least_at_most (clock - 1) (flat_map option_to_list epochs)

-- and at most that of each mark that isn't idle
least_of_marks : (n worker epoch : ℕ) (epochs : List (Option ℕ)) → slice_get epochs worker ≡ Some (Some epoch)
    → fold min n (flat_map option_to_list epochs) ≤ epoch
least_of_marks n worker epoch [] is = absurd cc
least_of_marks n zero epoch (None ∷ es) is = absurd cc
least_of_marks n zero epoch (Some e ∷ es) is =
    let same : e ≡ epoch = cc in
    let less = least_at_most (min n e) (flat_map option_to_list es) in omega (arith, less, same)
least_of_marks n (suc worker) epoch (None ∷ es) is = least_of_marks n worker epoch es is
least_of_marks n (suc worker) epoch (Some e ∷ es) is = least_of_marks (min n e) worker epoch es is

-- ---- what is counted

-- what has later epochs than this one has later epochs than an earlier one
above_less : (less epoch : ℕ) (commits : List Commit) → less ≤ epoch → AllByRecursion (IsAbove epoch) commits
    → AllByRecursion (IsAbove less) commits
above_less less epoch [] within above = tt
above_less less epoch (c ∷ cs) within above = (omega (arith, above.0, within), above_less less epoch cs within above.1)

-- what a mark says of its epoch it says of an earlier one
says_less : (commits : List Commit) (size less : ℕ) (marked : Option ℕ) → MarkSays commits size marked
    → ((epoch : ℕ) → marked ≡ Some epoch → less ≤ epoch) → Marks commits less size
says_less commits size less None says within = says less
says_less commits size less (Some epoch) says within = record {
  front = says.front;
  within = says.within;
  counted = says.counted;
  lines = says.lines;
  rest = above_less less epoch (drop says.front commits) (within epoch refl) says.rest;
}

-- the numbers of two lists that stand in turn, one of each
in_turn_even : (even odd : List ℕ) (worker n : ℕ) → slice_get even worker ≡ Some n → length even ≡ length odd
    → get_or (in_turn even odd) (2 * worker) 0 ≡ n
in_turn_even [] odd worker n is same = absurd cc
in_turn_even (x ∷ xs) [] worker n is same = absurd (omega (arith, same))
in_turn_even (x ∷ xs) (y ∷ ys) zero n is same = same_Some x n is
in_turn_even (x ∷ xs) (y ∷ ys) (suc worker) n is same =
    let next : 2 * suc worker ≡ suc (suc (2 * worker)) = omega arith in
    subst (λ k. get_or (in_turn (x ∷ xs) (y ∷ ys)) k 0 ≡ n) (sym next)
    (in_turn_even xs ys worker n is (omega (arith, same)))

in_turn_odd : (even odd : List ℕ) (worker n : ℕ) → slice_get odd worker ≡ Some n → length even ≡ length odd
    → get_or (in_turn even odd) (2 * worker + 1) 0 ≡ n
in_turn_odd even [] worker n is same = absurd cc
in_turn_odd [] (y ∷ ys) worker n is same = absurd (omega (arith, same))
in_turn_odd (x ∷ xs) (y ∷ ys) zero n is same = same_Some y n is
in_turn_odd (x ∷ xs) (y ∷ ys) (suc worker) n is same =
    let next : 2 * suc worker + 1 ≡ suc (suc (2 * worker + 1)) = omega arith in
    subst (λ k. get_or (in_turn (x ∷ xs) (y ∷ ys)) k 0 ≡ n) (sym next)
    (in_turn_odd xs ys worker n is (omega (arith, same)))

-- of a growing log file counts what its worker's mark does
pub growing_length : (side : Side) (growing closed : List ℕ) (worker n : ℕ) → slice_get growing worker ≡ Some n
    → length growing ≡ length closed → get_or (lengths_by side growing closed) (growing_number side worker) 0 ≡ n
growing_length Even growing closed worker n is same = in_turn_even growing closed worker n is same
growing_length Odd growing closed worker n is same = in_turn_odd closed growing worker n is (sym same)

-- of a closed log file counts what counts beside
pub closed_length : (side : Side) (growing closed : List ℕ) (worker n : ℕ) → slice_get closed worker ≡ Some n
    → length growing ≡ length closed → get_or (lengths_by side growing closed) (closed_number side worker) 0 ≡ n
closed_length Even growing closed worker n is same = in_turn_odd growing closed worker n is same
closed_length Odd growing closed worker n is same = in_turn_even closed growing worker n is (sym same)

-- an index within a list has an element
item_at : {X : Type 0} (xs : List X) (i : ℕ) → i < length xs → (x : X) × (slice_get xs i ≡ Some x)
item_at [] i within = absurd (omega (arith, within))
item_at (x ∷ xs) zero within = (x, refl)
item_at (x ∷ xs) (suc i) within = item_at xs i (omega (arith, within))

-- what a function gives of an element
map_at : {X Y : Type 0} (f : X → Y) (xs : List X) (i : ℕ) (x : X) → slice_get xs i ≡ Some x
    → slice_get (map f xs) i ≡ Some (f x)
map_at f [] i x is = absurd cc
map_at f (y ∷ ys) zero x is = ap (λ z. Some (f z)) (same_Some y x is)
map_at f (y ∷ ys) (suc i) x is = map_at f ys i x is

-- What is saved by eight marks, each of which says what it counts of its worker's commits, counts of each growing log
-- file durable bytes that cover the commits up to the saved epoch; so it does of each closed one of which bytes count,
-- where they cover all its commits.
pub counts_saved : {clock sequence : ℕ} {seen : List Mark} {beside : Beside} {saved : Saved}
    (commits gone : ℕ → List Commit) (durable closed : ℕ → List ℕ)
    → length seen ≡ 8 → length beside.closed ≡ 8 → SavesBy clock seen beside saved
    → ((worker : ℕ) (m : Mark) → slice_get seen worker ≡ Some m → IsMarkOf (commits worker) (durable worker) m)
    → ((worker n : ℕ) → slice_get beside.closed worker ≡ Some n
    → (n ≡ 0) ⊎ ((epoch : ℕ) → IsCounted (gone worker) (closed worker) epoch n))
    → CountsOf beside.growing commits gone durable closed (Some (point_of sequence saved))
counts_saved {clock = clock} {seen = seen} {beside = beside} {saved = saved} commits gone durable closed eight
    closed_eight saves says counted =
    let marked : List ℕ = map (λ (m : Mark). m.length) seen in
    let same : length marked ≡ length beside.closed = length-map seen (λ (m : Mark). m.length) ∙ eight ∙ sym closed_eight in
    record {
      growing = λ worker below.
          let item = item_at seen worker (omega (arith, eight, below)) in
          let m = item.0 in
          let is = says worker m item.1 in
          let size : get_or saved.lengths (growing_number beside.growing worker) 0 ≡ m.length =
          ap (λ l. get_or l (growing_number beside.growing worker) 0) saves.lengths
          ∙ growing_length beside.growing marked beside.closed worker m.length
          (map_at (λ (m : Mark). m.length) seen worker m item.1) same in
          let least = says_less (commits worker) m.length saved.epoch m.epoch is.says (λ epoch marked.
          let at : slice_get (map (λ (m : Mark). m.epoch) seen) worker ≡ Some (Some epoch) =
          map_at (λ (m : Mark). m.epoch) seen worker m item.1 ∙ ap Some marked in
          let less = least_of_marks (clock - 1) worker epoch (map (λ (m : Mark). m.epoch) seen) at in
          omega (arith, less, saves.epoch)) in (
            subst (λ k. Marks (commits worker) saved.epoch k) (sym size) least,
            omega (arith, size, is.within),
          );
      before = λ worker below.
          let item = item_at beside.closed worker (omega (arith, closed_eight, below)) in
          let size : get_or saved.lengths (closed_number beside.growing worker) 0 ≡ item.0 =
          ap (λ l. get_or l (closed_number beside.growing worker) 0) saves.lengths
          ∙ closed_length beside.growing marked beside.closed worker item.0 item.1 same in
          elim (counted worker item.0 item.1) [
            | inl none ↦ inl (size ∙ none)
            | inr some ↦ inr (subst (IsCounted (gone worker) (closed worker) saved.epoch) (sym size) (some saved.epoch))
          ];
    }

-- ---- what is counted is durable

-- a log file is a growing one or a closed one
each_side : (side : Side) (n : ℕ) → ((w : ℕ) × (n ≡ growing_number side w)) ⊎ ((w : ℕ) × (n ≡ closed_number side w))
each_side Even n = elim (cases_eq (n % 2) 0) [
  | inl even ↦ inl (n / 2, omega (arith, even))
  | inr odd ↦ inr (n / 2, omega (arith, odd))
]
each_side Odd n = elim (cases_eq (n % 2) 0) [
  | inl even ↦ inr (n / 2, omega (arith, even))
  | inr odd ↦ inl (n / 2, omega (arith, odd))
]

-- past two lists that stand in turn nothing counts
turn_ends : (even odd : List ℕ) (i : ℕ) → length even ≡ length odd → 2 * length even ≤ i
    → get_or (in_turn even odd) i 0 ≡ 0
turn_ends [] odd i same past = refl
turn_ends (x ∷ xs) [] i same past = absurd (omega (arith, same))
turn_ends (x ∷ xs) (y ∷ ys) zero same past = absurd (omega (arith, past))
turn_ends (x ∷ xs) (y ∷ ys) (suc zero) same past = absurd (omega (arith, past))
turn_ends (x ∷ xs) (y ∷ ys) (suc (suc i)) same past = turn_ends xs ys i (omega (arith, same)) (omega (arith, past))

past_lengths : (side : Side) (growing closed : List ℕ) (i : ℕ) → length growing ≡ length closed
    → 2 * length growing ≤ i → get_or (lengths_by side growing closed) i 0 ≡ 0
past_lengths Even growing closed i same past = turn_ends growing closed i same past
past_lengths Odd growing closed i same past = turn_ends closed growing i (sym same) (omega (arith, same, past))

number_least : (side : Side) (w : ℕ) → (2 * w ≤ growing_number side w) × (2 * w ≤ closed_number side w)
number_least Even w = (omega arith, omega arith)
number_least Odd w = (omega arith, omega arith)

-- What is saved by eight marks counts of each log file as much as is durable, where what these marks count is, and what
-- counts beside.
pub counted_marks : {D : Type 0} {clock : D → ℕ} {image_at : D → ℕ → List ℕ → Type 0} {epoch : ℕ} {seen : List Mark}
    {beside : Beside} {saved : Saved} {vault : Vault D} → length seen ≡ 8 → length beside.closed ≡ 8
    → SavesBy epoch seen beside saved → AreDurable clock image_at seen beside vault
    → (n : ℕ) (bank : D) → disk_in vault (Bank n) ≡ Some bank
    → KeepsCounted clock image_at (get_or saved.lengths n 0) bank
counted_marks {clock = clock} {image_at = image_at} {seen = seen} {beside = beside} {saved = saved} {vault = vault} eight
    closed_eight saves durable n bank there =
    let marked : List ℕ = map (λ (m : Mark). m.length) seen in
    let many : length marked ≡ 8 = length-map seen (λ (m : Mark). m.length) ∙ eight in
    let same : length marked ≡ length beside.closed = many ∙ sym closed_eight in
    let counts : (k : ℕ) → get_or (lengths_by beside.growing marked beside.closed) n 0 ≡ k
    → KeepsCounted clock image_at k bank → KeepsCounted clock image_at (get_or saved.lengths n 0) bank = λ k is keeps.
    subst (λ j. KeepsCounted clock image_at j bank) (sym (ap (λ l. get_or l n 0) saves.lengths ∙ is)) keeps in
    let nothing : 16 ≤ n → KeepsCounted clock image_at (get_or saved.lengths n 0) bank = λ past.
    counts 0 (past_lengths beside.growing marked beside.closed n same (omega (arith, past, many))) (keeps_nothing bank) in
    elim (each_side beside.growing n) [
      | inl grows ↦ elim (cases_lt grows.0 8) [
        | inl below ↦
            let item = item_at seen grows.0 (omega (arith, eight, below)) in
            counts item.0.length (ap (λ k. get_or (lengths_by beside.growing marked beside.closed) k 0) grows.1
            ∙ growing_length beside.growing marked beside.closed grows.0 item.0.length
            (map_at (λ (m : Mark). m.length) seen grows.0 item.0 item.1) same)
            (durable.growing grows.0 item.0 bank item.1 (ap (λ k. disk_in vault (Bank k)) (sym grows.1) ∙ there))
        | inr past ↦ nothing (omega (arith, past, grows.1, (number_least beside.growing grows.0).0))
      ]
      | inr shut ↦ elim (cases_lt shut.0 8) [
        | inl below ↦
            let item = item_at beside.closed shut.0 (omega (arith, closed_eight, below)) in
            counts item.0 (ap (λ k. get_or (lengths_by beside.growing marked beside.closed) k 0) shut.1
            ∙ closed_length beside.growing marked beside.closed shut.0 item.0 item.1 same)
            (durable.closed shut.0 item.0 bank item.1 (ap (λ k. disk_in vault (Bank k)) (sym shut.1) ∙ there))
        | inr past ↦ nothing (omega (arith, past, shut.1, (number_least beside.growing shut.0).1))
      ]
    ]

-- ---- one who knows the save device

-- a device that told its bytes still does
told_still : (before now : Option (List ℕ)) (file : List ℕ) → before ≡ Some file → is_some now ≡ is_some before
    → (bytes : List ℕ) × (now ≡ Some bytes)
told_still before (Some bytes) file told same = (bytes, refl)
told_still before None file told same = absurd (let there : is_some before ≡ true = ap is_some told in cc)

module _ {D : Type 0} {tells : D → Option (List ℕ)} {clock : D → ℕ} {image_at : D → ℕ → List ℕ → Type 0}
    {faults : D → ℕ} {story : Story} {from : Moments} {low s : ℕ} {save_was snaps_was : D} {ties_was : List Tie}
    {epoch : ℕ} {seen : List Mark} {beside : Beside} {old new : SaveState} {before now : Vault D} where
  -- A save is one savepoint more in the story, over pages with which each image of the snapshots begins, once its store
  -- was begun.
  pub keeper_saved : {result : Result ℕ SaveFault} {file : List ℕ}
      (saves : SavesMarks tells clock image_at faults epoch seen beside old new before now result)
      → tells before.save ≡ Some file
      → story.point (sequence_of old.newest) ≡ old.newest
      → story.point (sequence_of old.newest + 1) ≡ Some (next_point old saves.saved)
      → AllBegin (image_at before.snaps (clock before.snaps)) (story.pages (sequence_of old.newest + 1))
      → KeeperRan clock image_at story from low s (sequence_of old.newest) save_was before.save snaps_was before.snaps
      ties_was before.ties.items
      → KeeperRan clock image_at story from low s (sequence_begun old.newest result) save_was now.save snaps_was
      now.snaps ties_was now.ties.items
  keeper_saved {result = Ok answer} {file = file} saves told newest_is next_is begins ran =
      let p = next_point old saves.saved in
      let runs = runs_weaker (λ c named. subst (λ x. NamesOldOrNew x p c) (sym newest_is) named)
      (saves.stores.any_moment file told) in
      let now_told = told_still (tells before.save) (tells now.save) file told saves.stores.told in
      let stands = saves.stores.stored now_told.0 now_told.1 in
      let save = save_stored p (clock before.snaps) ran.save_told next_is refl runs stands.only
      (subst (λ x. Names now_told.0 x) saves.stores.newest stands.names) saves.tied in
      subst (λ snaps. KeeperRan clock image_at story from low s (sequence_of old.newest + 1) save_was now.save snaps_was
      snaps ties_was now.ties.items) (sym saves.snaps)
      (keeper_stores (Some (clock now.save)) ran save runs begins saves.tied)
  keeper_saved {result = Err Device} {file = file} saves told newest_is next_is begins ran =
      let p = next_point old saves.saved in
      let runs = runs_weaker (λ c named. subst (λ x. NamesOldOrNew x p c) (sym newest_is) named)
      (saves.stores.any_moment file told) in
      let save = save_failed p (clock before.snaps) ran.save_told next_is refl runs (saves.begun refl) in
      subst (λ snaps. KeeperRan clock image_at story from low s (sequence_of old.newest + 1) save_was now.save snaps_was
      snaps ties_was now.ties.items) (sym saves.snaps)
      (keeper_stores None ran save runs begins (saves.begun refl))
  keeper_saved {result = Err (Down count)} saves told newest_is next_is begins ran =
      rw (saves.untied (λ is. cc)) ran
  keeper_saved {result = Err (Limit sequence)} saves told newest_is next_is begins ran =
      rw (saves.untied (λ is. cc)) ran
