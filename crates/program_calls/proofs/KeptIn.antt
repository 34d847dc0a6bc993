-- What devices at rest stand for after a run: the state as of the epoch that their savepoint names.
use Rattle.std.proofs.Common.{◌≡◌, ◌∙◌, ◌⊎◌, ◌≤◌, ◌<◌, ◌+◌, ◌*◌, sym, ap, subst, refl, inl, inr, ℕ, true, false}
use Rattle.std.proofs.Common.{arith, List, [], ◌∷◌, Option, Some, None, length, map, take, drop}
use Rattle.std.specs.Prelude.{◌&&◌, filter, flat_map, nat_le, nat_lt}
use Rattle.std.specs.FinMap.{get}
use Rattle.std.specs.List.{AllByRecursion, Contains}
use Rattle.std.proofs.lemmas.Bool.{cases_lt}
use Rattle.std.proofs.lemmas.Bool.Decides.{nat_tests}
use Rattle.lists.specs.Elements.{filter_only, in_filter, in_filtered}
use Rattle.lists.specs.Fronts.{IsFront}
use Rattle.serial_model.specs.History.{Entry, EpochsNeverFall, Rises, as_of}
use Rattle.serial_model.specs.Numbers.{IsBelow}
use Rattle.serial_model.specs.State.{State}
use Rattle.serial_model.specs.declared.decl.Decl.{Decl}
use Rattle.serial_model.specs.declared.key.Key.{Key}
use Rattle.serial_model.specs.declared.number.Commit.{Commit}
use Rattle.serial_model.specs.declared.number.Number.{Number}
use Rattle.log_mapper.specs.Mapped.{entries_of}
use Rattle.wire_form.specs.Items.{RisesAfter}
use Rattle.wire_form.specs.LogFile.{IsLineOf, commit_number, lines_bytes}
use Rattle.wire_form.specs.Pages.{Contents}
use Rattle.wire_form.specs.declared.bucket.Entry.{Entry as LogEntry}
use Rattle.wire_form.specs.declared.savepoint.Savepoint.{Savepoint}
use Rattle.log_writer.specs.Save.{Names}
use Rattle.recovery_core.specs.Catalogues.{AreCatalogues, HasPages, newest_decls, newest_epoch, newest_storages}
use Rattle.joint_crashes.specs.Images.{Images, counted_of}
use Rattle.recovery_core.specs.LogEntries.{AreCounted, IsCountedFile, counts, last_of, logged}
use Rattle.recovery_core.specs.Recoverable.{IsReading, IsRecoverable, IsStateOf, Reading, counting, value_over}
use Rattle.program_calls.proofs.KeptWrites.{Writes, by_writes, entry_at, is_by, writes_all, writes_by}
use Rattle.program_calls.proofs.KeptValues.{kept_value}
use Rattle.program_calls.proofs.KeptLines.{counted_file, each_file, in_lines, in_turn, lines_in, take_entries}
use Rattle.program_calls.proofs.KeptPages.{SnapshotsAt}

-- ---- what devices have of a run

-- A log file: the commits whose lines it is made for, how much of these is durable, and how many of them count.
pub record FileOf : Type 0 where
  pub commits : List Commit
  pub durable : List ℕ
  pub front : ℕ

-- The log file begins with durable lines of its commits, of which the savepoint counts those in front.
pub record IsKeptFile (found : Images) (decls : List Decl) (point : Savepoint) (n : ℕ) (f : FileOf) : Type 0 where
  pub within : counted_of (Some point) n ≤ length f.durable
  pub lines : lines_bytes (take f.front f.commits) ≡ take (counted_of (Some point) n) (lines_bytes f.commits)
  pub begins : IsFront f.durable (lines_bytes f.commits)
  pub reads : IsFront f.durable (found.bank n)
  pub lines_are : AllByRecursion (IsLineOf decls) f.commits
  pub rise : RisesAfter IsBelow None (map commit_number f.commits)

-- an entry of one of these is among those that count of one of a worker's two log files
abbrev pub CountsIn : (ℕ → FileOf) → (ℕ → FileOf) → LogEntry → Type 0
CountsIn even odd x = (w : ℕ) × (w < 8)
    × (Contains (flat_map entries_of (take (even w).front (even w).commits)) x
    ⊎ Contains (flat_map entries_of (take (odd w).front (odd w).commits)) x)

-- The save names this savepoint, the snapshots have the pages that it counts, and the log files begin with durable lines
-- of what the run wrote. It counts what was written behind its newest snapshot, up to its own epoch.
pub record IsKept (was : Reading) (found : Images) (decls : List Decl) (saved : ℕ) (s : State) (ordered : List Entry)
    (point : Savepoint) : Type 0 where
  pub names : Names found.save (Some point)
  pub words : List (List ℕ)
  pub pages : HasPages found.snaps point.count words
  pub snapshots : SnapshotsAt was decls saved s ordered words point.catalogue
  pub early : newest_epoch snapshots.catalogues ≤ point.epoch
  pub even : ℕ → FileOf
  pub odd : ℕ → FileOf
  pub even_is : (w : ℕ) → w < 8 → IsKeptFile found decls point (2 * w) (even w)
  pub odd_is : (w : ℕ) → w < 8 → IsKeptFile found decls point (2 * w + 1) (odd w)
  pub sound_even : (w : ℕ) (x : LogEntry) → w < 8 → Contains (flat_map entries_of (even w).commits) x
      → (worker : ℕ) × Writes decls s ordered worker x.key x.number x.value
  pub sound_odd : (w : ℕ) (x : LogEntry) → w < 8 → Contains (flat_map entries_of (odd w).commits) x
      → (worker : ℕ) × Writes decls s ordered worker x.key x.number x.value
  pub complete : (worker : ℕ) (key : Key) (number : Number) (value : Option ℕ)
      → Writes decls s ordered worker key number value → newest_epoch snapshots.catalogues < number.epoch
      → number.epoch ≤ point.epoch → CountsIn even odd (entry_at key number value)

-- Devices that stand for this epoch and this state, with these pages and catalogues.
pub record StandsFor (found : Images) (words : List (List ℕ)) (catalogues : List Contents) (epoch : ℕ) (state : State)
    : Type 0 where
  pub is : IsRecoverable found epoch state
  pub pages_are : is.reading.pages ≡ words
  pub catalogues_are : is.reading.catalogues ≡ catalogues

-- ---- the snapshots

chain_later : (pages : List (List ℕ)) (limit more : ℕ) (declared : Option (List Decl)) (number : ℕ)
    (cs : List Contents) → limit ≤ more → AreCatalogues pages limit declared number cs
    → AreCatalogues pages more declared number cs
chain_later pages limit more declared number [] less chain = chain
chain_later pages limit more declared number (c ∷ cs) less chain = (
  chain.0,
  record {
    here = chain.1.here;
    epoch = omega (arith, chain.1.epoch, less);
    decls = chain.1.decls;
    first = chain.1.first;
  },
  chain.2,
)

-- ---- which entries count

it_counts : (snapshot saved : ℕ) (x : LogEntry) → snapshot < x.number.epoch → x.number.epoch ≤ saved
    → counts snapshot saved x ≡ true
it_counts snapshot saved x above within = grind (arith, nat_tests)

counts_above : (snapshot saved : ℕ) (x : LogEntry) → counts snapshot saved x ≡ true → snapshot < x.number.epoch
counts_above snapshot saved x is = grind (arith, nat_tests)

counts_within : (snapshot saved : ℕ) (x : LogEntry) → counts snapshot saved x ≡ true → x.number.epoch ≤ saved
counts_within snapshot saved x is = grind (arith, nat_tests)

-- what those up to an epoch have is up to it
all_by : (epoch : ℕ) (es : List Entry) → AllByRecursion (λ e. e.number.epoch ≤ epoch) (filter (is_by epoch) es)
all_by epoch [] = tt
all_by epoch (e ∷ es) = elim (cases_lt epoch e.number.epoch) [
  | inl above ↦
      let is : is_by epoch e ≡ false = grind (arith, nat_tests) in
      rw is (all_by epoch es)
  | inr within ↦
      let is : is_by epoch e ≡ true = grind (arith, nat_tests) in
      rw is (within, all_by epoch es)
]

-- ---- the law

module _ (was : Reading) (found : Images) (decls : List Decl) (saved : ℕ) (s : State) (ordered : List Entry)
    (point : Savepoint) (kept : IsKept was found decls saved s ordered point) (rises : Rises ordered)
    (falls : EpochsNeverFall ordered) where
  -- the lines that count
  abbrev even_lines : ℕ → List Commit
  even_lines w = take (kept.even w).front (kept.even w).commits

  abbrev odd_lines : ℕ → List Commit
  odd_lines w = take (kept.odd w).front (kept.odd w).commits

  abbrev catalogues : List Contents
  catalogues = kept.snapshots.catalogues

  abbrev reading_is : Reading
  reading_is = record {
    point = Some point;
    pages = kept.words;
    catalogues = catalogues;
    lines = in_turn even_lines odd_lines 0 8;
  }

  counted_lines : (n : ℕ) (f : FileOf) → IsKeptFile found decls point n f
      → IsCountedFile decls (counted_of (Some point) n) (found.bank n) (take f.front f.commits)
  counted_lines n f is = counted_file decls f.commits f.durable (found.bank n) f.front (counted_of (Some point) n)
      is.lines_are is.rise is.begins is.reads is.within is.lines

  files_are : AreCounted decls point found.bank (in_turn even_lines odd_lines 0 8)
  files_are = record {
    files = refl;
    each = each_file (λ n lines. IsCountedFile decls (counted_of (Some point) n) (found.bank n) lines) even_lines
        odd_lines (λ w below. counted_lines (2 * w) (kept.even w) (kept.even_is w below))
        (λ w below. counted_lines (2 * w + 1) (kept.odd w) (kept.odd_is w below));
  }

  -- ---- its entries

  abbrev early : ℕ
  early = newest_epoch catalogues

  among : (x : LogEntry) → Contains (counting reading_is) x
      → (worker : ℕ) × Writes decls s ordered worker x.key x.number x.value
  among x has =
      let in_all = in_filter (counts early point.epoch) x (logged (in_turn even_lines odd_lines 0 8)) has in
      let at = in_lines even_lines odd_lines 0 8 x in_all in
      let below : at.0 < 8 = omega (arith, at.2) in
      elim at.3 [
        | inl here ↦ kept.sound_even at.0 x below (take_entries (kept.even at.0).front (kept.even at.0).commits x here)
        | inr here ↦ kept.sound_odd at.0 x below (take_entries (kept.odd at.0).front (kept.odd at.0).commits x here)
      ]

  passes : (x : LogEntry) → Contains (counting reading_is) x → counts early point.epoch x ≡ true
  passes x has = filter_only (counts early point.epoch) x (logged (in_turn even_lines odd_lines 0 8)) has

  sound : (x : LogEntry) → Contains (counting reading_is) x
      → (worker : ℕ) × Writes decls s (filter (is_by point.epoch) ordered) worker x.key x.number x.value
  sound x has =
      let wrote = among x has in (
        wrote.0,
        writes_by decls s ordered point.epoch wrote.0 x.key x.number x.value falls
            (counts_within early point.epoch x (passes x has)) wrote.1,
      )

  complete : (key : Key) (worker : ℕ) (number : Number) (value : Option ℕ)
      → Writes decls s (filter (is_by point.epoch) ordered) worker key number value → early < number.epoch
      → Contains (counting reading_is) (entry_at key number value)
  complete key worker number value writes above =
      let x : LogEntry = entry_at key number value in
      let wrote = by_writes decls s ordered point.epoch worker key number value falls writes in
      let up = writes_all (λ e. e.number.epoch ≤ point.epoch) decls s (filter (is_by point.epoch) ordered) worker key
      number value (all_by point.epoch ordered) writes in
      let within : number.epoch ≤ point.epoch = omega (arith, up.1, ap (λ (n : Number). n.epoch) up.3) in
      let has = kept.complete worker key number value wrote above within in
      in_filtered (counts early point.epoch) x (logged (in_turn even_lines odd_lines 0 8))
      (lines_in even_lines odd_lines 0 8 has.0 x (omega arith) (omega (arith, has.1)) has.2)
      (it_counts early point.epoch x above within)

  reads_so : IsReading found reading_is
  reads_so = record {
    names = kept.names;
    counts = record {
      snapshot = record {
        has = kept.pages;
        chain = chain_later kept.words (early + 1) (point.epoch + 1) None point.catalogue catalogues
            (let within = kept.early in omega arith) kept.snapshots.chain;
        stands = kept.snapshots.stands;
      };
      files = subst (λ ds. AreCounted ds point found.bank (in_turn even_lines odd_lines 0 8)) kept.snapshots.decls_are
          files_are;
    };
  }

  state_so : IsStateOf reading_is (as_of decls s ordered point.epoch)
  state_so key =
      sym (kept_value decls s ordered early point.epoch kept.early falls rises (counting reading_is) key sound
      (λ x has. counts_above early point.epoch x (passes x has)) (complete key))
      ∙ ap (value_over (last_of key (counting reading_is))) (kept.snapshots.content key)

  -- Such devices stand for the savepoint's epoch, and for the state as of it.
  pub stands_for : StandsFor found kept.words catalogues point.epoch (as_of decls s ordered point.epoch)
  stands_for = record {
    is = record { reading = reading_is; is = reads_so; epoch_is = refl; state_is = state_so };
    pages_are = refl;
    catalogues_are = refl;
  }
