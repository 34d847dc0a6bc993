-- What locking, putting and opening tell.
use Rattle.std.specs.Prelude.{◌≡◌, ◌⊎◌, ℕ, ◌+◌, ◌/◌, ◌%◌, ◌^◌, ◌<◌, ◌≤◌, ◌==◌, nat_lt, Bool, true, false, not, List, [], ◌∷◌, ◌++◌, filter}
use Rattle.std.specs.Prelude.{slice_get, Option, Some, None, cond, Contains, MatchBool, unwrap_or}
use Rattle.std.proofs.Common.{ap, inl, inr, refl, arith}
use Rattle.std.proofs.lemmas.Bool.Decides.{nat_tests}
use Rattle.atomic_table.specs.Table.{Step}
use Rattle.serial_model.specs.declared.decl.Decl.{Decl}
use Rattle.serial_model.specs.declared.key.Key.{Key}
use Rattle.homes.specs.declared.places.Spot.{Spot}
use Rattle.wire_form.specs.Leaves.{tree_leaf}
use Rattle.wire_form.specs.Words.{absent_field, at_bit, number_word}
use Rattle.commit_core.specs.declared.attempt.Attempt.{Attempt}
use Rattle.commit_core.specs.declared.seat.Stage.TheVariants.{Decided}
use Rattle.commit_core.specs.Keys.{same_key, has_key, written}
use Rattle.commit_core.specs.CoreState.{can_begin, settled}
use Rattle.engine_pages.specs.declared.view.Took.{Took}
use Rattle.engine_pages.specs.declared.view.View.{View}
use Rattle.engine_pages.specs.Pages.{is_array}
use Rattle.engine_pages.specs.Rule.{absence}
use Rattle.engine_pages.specs.Steps.{glanced}
use Rattle.engine_pages.specs.Touches.{touch}
use Rattle.engine_pages.specs.Views.{seat_number}
use Rattle.page_records.specs.Reads.{with_read, read_at}

-- ---- words of records

-- the lock bit of a word
abbrev pub lock_bit : ℕ
lock_bit = at_bit 60 1

-- it may be the word of a record that nobody has locked: a number, maybe with the bit of absence
abbrev pub IsOpenWord : ℕ → Type 0
IsOpenWord n = (n < 2 ^ 60) ⊎ ((2 ^ 61 ≤ n) × (n < 2 ^ 61 + 2 ^ 60))

-- so it is of a word that was loaded, where its lock bit isn't set
pub open_bits : (n : ℕ) → n < 2 ^ 62 → (n / 2 ^ 60) % 2 ≡ 0 → IsOpenWord n
open_bits n few even = by_test (nat_lt n (2 ^ 60)) refl
  where
    by_test : (b : Bool) → nat_lt n (2 ^ 60) ≡ b → IsOpenWord n
    by_test true low = inl (grind (arith, nat_tests))
    by_test false high =
        let from : 2 ^ 60 ≤ n = grind (arith, nat_tests) in inr (omega arith, omega arith)

-- the word of an array's record says nothing of its value
pub array_absence : (decls : List Decl) (k : Key) (value : Option ℕ) → is_array decls k.storage ≡ true
    → absence decls k value ≡ 0
array_absence decls k value array = ap (λ (c : Bool). cond c 0 (absent_field tree_leaf value)) array

-- ---- locks

-- the key is locked, whose record stands at this place and had this word
abbrev pub took_at : Key → Spot → ℕ → Took
took_at k x word = record { key = k; spot = x; word = word }

-- one lock more, which left the word with the lock bit
abbrev pub locked : Key → Spot → ℕ → ℕ → View → View
locked k x at n v = record (glanced at n v) {
  reads = with_read v.reads at (n + lock_bit);
  seat = record v.seat { locks = v.seat.locks ++ k ∷ [] };
  took = v.took ++ took_at k x n ∷ [];
  touched = v.touched ++ touch (seat_number v.role) k ∷ [];
  loaded = None;
}

-- the record is locked exactly where its word was the one that was expected
abbrev pub Locked : Key → Spot → ℕ → ℕ → View → ℕ → View → Type 0
Locked k x at expected v n w = MatchBool (n == expected) (w ≡ locked k x at n v) (w ≡ read_at at n v)

-- the same of the step
abbrev pub Locks : Key → Spot → Step (Unit {0}) → View → ℕ → View → Type 0
Locks k x s v n w = Locked k x s.word s.first v n w

-- ---- opening

-- what was taken of other keys
abbrev pub not_at : Key → List Took → List Took
not_at k took = filter (λ t. not (same_key t.key k)) took

-- one lock less, whose record has this word now; with the last one a transaction that is over comes to rest
abbrev pub opened : Key → ℕ → ℕ → View → View
opened k at n v = record v {
  reads = with_read v.reads at n;
  seat = settled (record v.seat { locks = filter (λ q. not (same_key q k)) v.seat.locks });
  took = not_at k v.took;
  steps = v.steps + 1;
  loaded = None;
}

-- the same of the step
abbrev pub Opens : Key → Step (Unit {0}) → View → ℕ → View → Type 0
Opens k s v n w = w ≡ opened k s.word s.first v

-- no attempt is in progress and none decided, and the lock, which stands at this place, found this word
pub record CanOpenAgain (v : View) (k : Key) (x : Spot) (n : ℕ) : Type 0 where
  pub idle : can_begin v.seat.stage ≡ true
  pub locked : has_key v.seat.locks k ≡ true
  pub took : Contains v.took (took_at k x n)

-- The lock stands at this place, and the decided attempt has put its value of the key. The word has that attempt's
-- number, and whether a tree's record has a value then.
pub record CanOpenAnew (v : View) (k : Key) (x : Spot) (n : ℕ) : Type 0 where
  pub found : ℕ
  pub took : Contains v.took (took_at k x found)
  pub index : ℕ
  pub attempt : Attempt
  pub stage : v.seat.stage ≡ Decided index
  pub at : slice_get v.history index ≡ Some attempt
  pub locked : has_key v.seat.locks k ≡ true
  pub put : has_key v.seat.put k ≡ true
  pub value : Option ℕ
  pub writes : written k attempt.writes ≡ Some value
  pub number : n ≡ number_word attempt.number + absence v.layout.decls k value

-- ---- values

-- one value more was put
abbrev pub put_at : Key → ℕ → ℕ → View → View
put_at k at n v = record v {
  reads = with_read v.reads at n;
  seat = record v.seat { put = v.seat.put ++ k ∷ [] };
  steps = v.steps + 1;
  loaded = None;
}

-- the same of the step
abbrev pub Puts : Key → Step (Unit {0}) → View → ℕ → View → Type 0
Puts k s v n w = w ≡ put_at k s.word s.first v

-- the lock stands at this place, and the decided attempt writes this value to the key, or removes it, which puts 0
pub record CanPut (v : View) (k : Key) (x : Spot) (n : ℕ) : Type 0 where
  pub found : ℕ
  pub took : Contains v.took (took_at k x found)
  pub index : ℕ
  pub attempt : Attempt
  pub stage : v.seat.stage ≡ Decided index
  pub at : slice_get v.history index ≡ Some attempt
  pub locked : has_key v.seat.locks k ≡ true
  pub value : Option ℕ
  pub writes : written k attempt.writes ≡ Some value
  pub is : n ≡ unwrap_or value 0
