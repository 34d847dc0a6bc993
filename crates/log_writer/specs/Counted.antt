-- What counts of log files, and that it is durable.
use Rattle.std.specs.Prelude.{◌≡◌, ◌≤◌, ℕ, List, [], Option, Some, is_some, true, length, take, get_or}
use Rattle.std.proofs.Common.{refl, sym, subst, arith}
use Rattle.std.proofs.lemmas.List.{length-take-le}
use Rattle.lists.specs.Fronts.{front_none, front_take, front_then}
use Rattle.outside.specs.Disk.{Same, Goes}
use Rattle.outside.specs.Fronts.{Alike, KeepsSince, keeps_same}
use Rattle.outside.specs.declared.device.Device.TheVariants.{Bank}
use Rattle.log_writer.specs.declared.vault.Vault.{Vault}
use Rattle.log_writer.specs.Journal.{JournalState, IsDurable}
use Rattle.log_writer.specs.Vault.{disk_in}

-- each disk of this kind tells its bytes
abbrev pub AlwaysTells : {D : Type 0} → (tells : D → Option (List ℕ)) → Type 0
AlwaysTells {D} tells = (disk : D) → is_some (tells disk) ≡ true

-- So many bytes of a log file are durable: there is a moment, which has come, since which every image begins with as
-- many, the same ones in each.
pub record KeepsCounted {D : Type 0} (clock : D → ℕ) (image_at : D → ℕ → List ℕ → Type 0) (count : ℕ) (bank : D) : Type 0 where
  pub since : ℕ
  pub come : since ≤ clock bank
  pub bytes : List ℕ
  pub size : length bytes ≡ count
  pub keeps : KeepsSince clock image_at bank since bytes

-- Of each log file of a vault as many bytes are durable as are counted of it, where its disks tell their bytes.
abbrev pub AreCounted : {D : Type 0} → (tells : D → Option (List ℕ)) → (clock : D → ℕ) → (image_at : D → ℕ → List ℕ → Type 0) → List ℕ → Vault D → Type 0
AreCounted {D} tells clock image_at lengths vault = AlwaysTells tells
    → (n : ℕ) (bank : D) → disk_in vault (Bank n) ≡ Some bank → KeepsCounted clock image_at (get_or lengths n 0) bank

-- ---- laws

module _ {D : Type 0} {clock : D → ℕ} {image_at : D → ℕ → List ℕ → Type 0} where
  -- at each moment since then what is counted is in all images, and the same in each
  pub counted_alike : {count : ℕ} {bank : D} (is : KeepsCounted clock image_at count bank) (m : ℕ) → is.since ≤ m → m ≤ clock bank
      → Alike (image_at bank m) count
  counted_alike is m since come = record {
    front = is.bytes;
    size = is.size;
    same = λ c image. is.keeps m c since come image;
  }

  -- a count of nothing is met by each log file
  pub keeps_nothing : (bank : D) → KeepsCounted clock image_at 0 bank
  keeps_nothing bank = record {
    since = clock bank;
    come = omega arith;
    bytes = [];
    size = refl;
    keeps = λ m c since come image. front_none c;
  }

  -- no more than its journal made durable
  pub keeps_durable : {journal : JournalState} {bank : D} {bytes : List ℕ} (count : ℕ) → IsDurable clock image_at journal bank bytes
      → count ≤ journal.durable → KeepsCounted clock image_at count bank
  keeps_durable {bank = bank} {bytes = bytes} count durable within = record {
    since = clock bank;
    come = omega arith;
    bytes = take count bytes;
    size = length-take-le count bytes (omega (arith, within, durable.size));
    keeps = λ m c since come image.
        let now : m ≡ clock bank = omega (arith, since, come) in
        front_then (take count bytes) bytes c (front_take count bytes)
        (durable.begins c (subst (λ k. image_at bank k c) now image));
  }

  -- what is counted stays durable where the log file is only read
  pub keeps_read : {count : ℕ} {old new : D} → KeepsCounted clock image_at count old → Goes clock image_at Same old new
      → KeepsCounted clock image_at count new
  keeps_read is goes = record {
    since = is.since;
    come = omega (arith, is.come, goes.later);
    bytes = is.bytes;
    size = is.size;
    keeps = keeps_same {since = is.since} {made = is.bytes} is.come goes is.keeps;
  }

  -- where nothing is counted of any log file, what is counted is durable
  pub nothing_counted : (lengths : List ℕ) → ((n : ℕ) → get_or lengths n 0 ≡ 0) → (n : ℕ) (bank : D)
      → KeepsCounted clock image_at (get_or lengths n 0) bank
  nothing_counted lengths none n bank = subst (λ k. KeepsCounted clock image_at k bank) (sym (none n)) (keeps_nothing bank)
