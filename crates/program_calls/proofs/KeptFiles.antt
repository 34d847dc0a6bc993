-- The log files of a vault between two rounds, and what is read of the closed ones.
use Rattle.std.proofs.Common.{◌≡◌, ◌⊎◌, ◌∙◌, ◌≤◌, ◌<◌, sym, ap, subst, refl, inl, inr, ℕ, zero, suc, Bool, true, false}
use Rattle.std.proofs.Common.{arith, List, [], ◌∷◌, ◌++◌, length, Option, Some, None, get_or, take}
use Rattle.std.specs.Prelude.{map, not, replicate, slice_get}
use Rattle.std.specs.List.{AllByRecursion, Contains}
use Rattle.std.proofs.lemmas.Bool.Decides.{nat_tests}
use Rattle.std.proofs.lemmas.Option.{same_Some}
use Rattle.lists.specs.Each.{all_weaker}
use Rattle.lists.specs.Fronts.{IsFront}
use Rattle.log_writer.specs.Cuts.{disk_in-even, disk_in-odd}
use Rattle.log_writer.specs.Vault.{IsWhole, disk_in}
use Rattle.outside.specs.declared.device.Device.TheVariants.{Bank}
use Rattle.log_writer.specs.declared.vault.Vault.{Vault}
use Rattle.serial_model.specs.History.{Entry, Rises}
use Rattle.serial_model.specs.Numbers.{IsBelow}
use Rattle.serial_model.specs.State.{State}
use Rattle.serial_model.specs.declared.decl.Decl.{Decl}
use Rattle.serial_model.specs.declared.number.Commit.{Commit}
use Rattle.serial_model.specs.declared.number.Number.{Number}
use Rattle.log_mapper.specs.Mapped.{is_after}
use Rattle.log_reducer.specs.Reduced.{AreLast, all_logged}
use Rattle.wire_form.specs.Items.{RisesAfter}
use Rattle.wire_form.specs.LogFile.{IsLineOf, commit_number, lines_bytes}
use Rattle.wire_form.specs.declared.bucket.Bucket.{Bucket}
use Rattle.wire_form.specs.declared.bucket.Entry.{Entry as LogEntry}
use Rattle.gleaner.specs.Glean.{AreMappedFiles}
use Rattle.worker_logs.specs.Saves.{closed_number, growing_number}
use Rattle.worker_logs.specs.declared.savepoints.Side.{Side}
use Rattle.worker_logs.specs.declared.savepoints.Side.TheVariants.{Even, Odd}
use Rattle.round_engine.specs.Gleans.{closed_of}
use Rattle.round_engine.specs.Logs.{AreClosedFiles, IsClosedFile}
use Rattle.round_engine.specs.Sides.{closed_in, growing_in, is_odd}
use Rattle.round_engine.specs.Standing.{RuntimeState}
use Rattle.program_calls.proofs.KeptLines.{numbers_rise}
use Rattle.program_calls.proofs.KeptLogged.{LoggedIn}
use Rattle.program_calls.proofs.KeptMapped.{TellsGone, buckets_in, gone_in, gone_logged, in_buckets, in_gone, last_same}

-- an index within a list has an item
pub item_at : {X : Type 0} (xs : List X) (i : ℕ) → i < length xs → (x : X) × (slice_get xs i ≡ Some x)
item_at [] i within = absurd (omega (arith, within))
item_at (x ∷ xs) zero within = (x, refl)
item_at (x ∷ xs) (suc i) within = item_at xs i (omega (arith, within))

pub get_at : (xs : List ℕ) (i n : ℕ) → slice_get xs i ≡ Some n → get_or xs i 0 ≡ n
get_at [] i n at = absurd cc
get_at (x ∷ xs) zero n at = same_Some x n at
get_at (x ∷ xs) (suc i) n at = get_at xs i n at

-- ---- the log files

-- a log file of a vault
pub record FileAt {D : Type 0} (files : List D) (vault : Vault D) (number w : ℕ) : Type 0 where
  pub bank : D
  pub at : slice_get files w ≡ Some bank
  pub there : disk_in vault (Bank number) ≡ Some bank

-- each worker has a closed one and one that grows
pub closed_file : {D : Type 0} (side : Side) (vault : Vault D) (w : ℕ) → IsWhole vault → w < 8
    → FileAt (closed_in side vault) vault (closed_number side w) w
closed_file Even vault w whole below =
    let item = item_at vault.odd.items w (omega (arith, below, whole.odd)) in
    record { bank = item.0; at = item.1; there = disk_in-odd vault w ∙ item.1 }
closed_file Odd vault w whole below =
    let item = item_at vault.even.items w (omega (arith, below, whole.even)) in
    record { bank = item.0; at = item.1; there = disk_in-even vault w ∙ item.1 }

pub growing_file : {D : Type 0} (side : Side) (vault : Vault D) (w : ℕ) → IsWhole vault → w < 8
    → FileAt (growing_in side vault) vault (growing_number side w) w
growing_file Even vault w whole below =
    let item = item_at vault.even.items w (omega (arith, below, whole.even)) in
    record { bank = item.0; at = item.1; there = disk_in-even vault w ∙ item.1 }
growing_file Odd vault w whole below =
    let item = item_at vault.odd.items w (omega (arith, below, whole.odd)) in
    record { bank = item.0; at = item.1; there = disk_in-odd vault w ∙ item.1 }

-- ---- numbers rise

rise_behind : (a b : List Commit) (last : Option Number) → RisesAfter IsBelow last (map commit_number (a ++ b))
    → RisesAfter IsBelow None (map commit_number b)
rise_behind [] [] last rise = tt
rise_behind [] (c ∷ cs) last rise = (tt, rise.1)
rise_behind (c ∷ cs) b last rise = rise_behind cs b (Some c.number) rise.1

rise_before : (a b : List Commit) (last : Option Number) → RisesAfter IsBelow last (map commit_number (a ++ b))
    → RisesAfter IsBelow last (map commit_number a)
rise_before [] b last rise = tt
rise_before (c ∷ cs) b last rise = (rise.0, rise_before cs b (Some c.number) rise.1)

module _ {decls : List Decl} {s : State} {ordered : List Entry} {since closed_at : ℕ}
    {older gone commits : ℕ → List Commit} (it : LoggedIn decls s ordered since closed_at older gone commits)
    (rises : Rises ordered) where
  all_rise : (w : ℕ) → w < 8 → RisesAfter IsBelow None (map commit_number (older w ++ (gone w ++ commits w)))
  all_rise w below = numbers_rise decls w s ordered (older w ++ (gone w ++ commits w)) rises (it.is_logged w below)

  -- in what each log file has
  pub gone_rise : (w : ℕ) → w < 8 → RisesAfter IsBelow None (map commit_number (gone w))
  gone_rise w below = rise_before (gone w) (commits w) None
      (rise_behind (older w) (gone w ++ commits w) None (all_rise w below))

  pub here_rise : (w : ℕ) → w < 8 → RisesAfter IsBelow None (map commit_number (commits w))
  here_rise w below = rise_behind (gone w) (commits w) None
      (rise_behind (older w) (gone w ++ commits w) None (all_rise w below))

-- ---- what a glean reads

-- an epoch behind one and up to another
is_between : (from to : ℕ) (c : Commit) → from < c.number.epoch → c.number.epoch ≤ to → is_after from to c ≡ true
is_between from to c above within = grind (arith, nat_tests)

pub all_between : (from to : ℕ) (commits : List Commit) → AllByRecursion (λ c. from < c.number.epoch) commits
    → AllByRecursion (λ c. c.number.epoch ≤ to) commits → AllByRecursion (λ c. is_after from to c ≡ true) commits
all_between from to [] above within = tt
all_between from to (c ∷ cs) above within =
    (is_between from to c above.0 within.0, all_between from to cs above.1 within.1)

module _ {D : Type 0} {tells : D → Option (List ℕ)} {clock : D → ℕ} {image_at : D → ℕ → List ℕ → Type 0}
    {decls : List Decl} {s : State} {ordered : List Entry} {since : ℕ} {older gone commits : ℕ → List Commit}
    {closed : ℕ → List ℕ} (r : RuntimeState) (vault : Vault D)
    (it : LoggedIn decls s ordered since r.closed_at older gone commits) (rises : Rises ordered) (whole : IsWhole vault)
    (eight : length r.counted ≡ 8) (files : AreClosedFiles tells clock image_at gone closed r vault)
    (counted : (w n : ℕ) → slice_get r.counted w ≡ Some n → n ≡ length (lines_bytes (gone w))) where
  -- each closed log file tells the lines of what it has
  pub tells_gone : (w : ℕ) → w < 8 → TellsGone tells (get_or r.counted w 0) (gone w) (closed_in r.side vault) w
  tells_gone w below =
      let file = closed_file r.side vault w whole below in
      let n = item_at r.counted w (omega (arith, eight, below)) in
      let is : IsClosedFile tells clock image_at (gone w) (closed w) n.0 file.bank =
      files w n.0 file.bank n.1 file.there in
      let size : get_or r.counted w 0 ≡ length (closed w) =
      get_at r.counted w n.0 n.1 ∙ counted w n.0 n.1 ∙ ap length is.lines in
      record {
        file = file.bank;
        bytes = is.told.0;
        there = file.at;
        told = is.told.1;
        lines = ap (λ k. take k is.told.0) size ∙ is.told.2 ∙ sym is.lines;
      }

  -- so the last entries that it reads are those of what they have
  pub mapped_last : (own : List Decl) (after : ℕ) (buckets : List Bucket) (run : List LogEntry) → own ≡ decls
      → after ≤ since → AreMappedFiles tells (closed_of r) own after 8 (closed_in r.side vault) buckets
      → AreLast (all_logged buckets) run → AreLast (gone_logged (not (is_odd r.side)) gone) run
  mapped_last own after buckets run same from mapped last =
      let lines = λ (w : ℕ) (below : w < 8). subst (λ ds. AllByRecursion (IsLineOf ds) (gone w)) (sym same)
      (it.lines_gone w below) in
      let between = λ (w : ℕ) (below : w < 8). all_between after r.closed_at (gone w)
      (all_weaker (λ (c : Commit). since < c.number.epoch) (λ (c : Commit). after < c.number.epoch)
      (λ c above. omega (arith, above, from)) (gone w) (it.gone_from w below)) (it.gone_by w below) in
      last_same (all_logged buckets) (gone_logged (not (is_odd r.side)) gone) run
      (λ l has. gone_in (not (is_odd r.side)) gone l
      (in_buckets gone mapped tells_gone lines (gone_rise it rises) between l has))
      (λ l has. buckets_in gone mapped tells_gone lines (gone_rise it rises) between l
      (in_gone (not (is_odd r.side)) gone l has)) last
