-- The entries of mapped lines may count, and so may the last of them.
use Rattle.std.proofs.Common.{◌≡◌, ℕ, Bool, true, false, List, [], ◌∷◌, ◌++◌, Some, None, refl, sym, ap, subst, ◌∙◌}
use Rattle.std.proofs.Common.{map, arith}
use Rattle.std.specs.Prelude.{cond, filter, ◌<◌, ◌≤◌}
use Rattle.std.specs.FinMap.{get, empty, get-empty}
use Rattle.std.specs.List.{AllByRecursion, flat_map}
use Rattle.std.proofs.lemmas.Bool.Decides.{nat_tests}
use Rattle.std.proofs.lemmas.Option.{same_Some}
use Rattle.lists.specs.Each.{all_append}
use Rattle.log_mapper.specs.Mapped.{entry_of, entries_of, is_after, entries_after, is_in_storage, buckets_of}
use Rattle.log_mapper.specs.Mapped.{AreMappedLines}
use Rattle.serial_model.specs.Keys.{id_of, key_cmp}
use Rattle.serial_model.specs.Numbers.{IsNumber, is_below}
use Rattle.serial_model.specs.declared.decl.Decl.{Decl}
use Rattle.serial_model.specs.declared.number.Change.{Change}
use Rattle.serial_model.specs.declared.number.Commit.{Commit}
use Rattle.wire_form.specs.LogFile.{IsChangeOf, IsLineOf}
use Rattle.wire_form.specs.declared.bucket.Bucket.{Bucket}
use Rattle.wire_form.specs.declared.bucket.Entry.{Entry}
use Rattle.recovery_core.specs.LogEntries.{is_of, greater, greatest}
use Rattle.recovery_core.specs.EntriesLast.{EntryMap, TakesIn, all_entries}
use Rattle.recovery_core.specs.EntriesRun.{MayCount, AllMayCount, AreLastOfSome}
use Rattle.recovery_core.proofs.EntriesGreatest.{is_of-key}

-- what holds of all holds of those that pass a test, beside that they pass it
all_filtered : {X : Type 0} (P : X → Type 0) (test : X → Bool) (xs : List X) → AllByRecursion P xs
    → AllByRecursion (λ x. P x × (test x ≡ true)) (filter test xs)
all_filtered P test [] all = tt
all_filtered P test (x ∷ xs) all =
    elim (test x) as (λ b. test x ≡ b
    → AllByRecursion (λ y. P y × (test y ≡ true)) (cond b (x ∷ filter test xs) (filter test xs))) [
      | true ↦ λ passes. ((all.0, passes), all_filtered P test xs all.1)
      | false ↦ λ fails. all_filtered P test xs all.1
    ] refl

-- what holds of all holds of the greatest
greatest_one : (P : Entry → Type 0) (es : List Entry) (e : Entry) → AllByRecursion P es → greatest es ≡ Some e → P e
greatest_one P [] e all is = absurd (cc is)
greatest_one P (x ∷ xs) e all is = subst P (same_Some _ _ is) (one (greatest xs) (greatest_one P xs))
  where
    one : (o : _) → ((f : Entry) → AllByRecursion P xs → o ≡ Some f → P f) → P (greater x o)
    one None rest = all.0
    one (Some f) rest =
        elim (is_below x.number f.number) as (λ b. P (cond b f x)) [ true ↦ rest f all.1 refl | false ↦ all.0 ]

module _ (decls : List Decl) (from to : ℕ) where
  -- a commit's changes
  changes_count : (c : Commit) (changes : List Change) → IsNumber c.number → from < c.number.epoch
      → c.number.epoch ≤ to → AllByRecursion (IsChangeOf decls) changes
      → AllByRecursion (MayCount decls from to) (map (entry_of c) changes)
  changes_count c [] number above within all = tt
  changes_count c (x ∷ xs) number above within all = (
    record { place = all.0; number = number; above = above; within = within },
    changes_count c xs number above within all.1,
  )

  -- those of the commits between the epochs
  entries_count : (lines : List Commit) → AllByRecursion (IsLineOf decls) lines
      → AllByRecursion (MayCount decls from to) (entries_after from to lines)
  entries_count [] all = tt
  entries_count (c ∷ cs) all =
      elim (is_after from to c) as (λ b. is_after from to c ≡ b → AllByRecursion (MayCount decls from to)
      (flat_map entries_of (cond b (c ∷ filter (is_after from to) cs) (filter (is_after from to) cs)))) [
        | true ↦ λ passes.
            let above : from < c.number.epoch = grind (arith, nat_tests) in
            let within : c.number.epoch ≤ to = grind (arith, nat_tests) in
            all_append (MayCount decls from to) (entries_of c) (entries_after from to cs)
            (changes_count c c.changes all.0.line.loggable.number above within all.0.each)
            (entries_count cs all.1)
        | false ↦ λ fails. entries_count cs all.1
      ] refl

  first_of : (A B : Entry → Type 0) (es : List Entry) → AllByRecursion (λ e. A e × B e) es → AllByRecursion A es
  first_of A B [] all = tt
  first_of A B (e ∷ es) all = (all.0.0, first_of A B es all.1)

  -- in buckets
  buckets_count : (bank : ℕ) (storages : List Decl) (es : List Entry) → AllByRecursion (MayCount decls from to) es
      → AllByRecursion (MayCount decls from to) (all_entries (buckets_of bank storages es))
  buckets_count bank [] es all = tt
  buckets_count bank (d ∷ ds) es all =
      all_append (MayCount decls from to) (filter (is_in_storage (id_of d)) es)
      (all_entries (buckets_of bank ds es))
      (first_of (MayCount decls from to) (λ e. is_in_storage (id_of d) e ≡ true) _
      (all_filtered (MayCount decls from to) (is_in_storage (id_of d)) es all))
      (buckets_count bank ds es all)

  -- of a mapped log file
  pub mapped_count : (bank : ℕ) (bytes : List ℕ) (buckets : List Bucket)
      → AreMappedLines bank decls from to bytes buckets
      → AllByRecursion (MayCount decls from to) (all_entries buckets)
  mapped_count bank bytes buckets mapped =
      subst (λ bs. AllByRecursion (MayCount decls from to) (all_entries bs)) (sym mapped.mapped)
      (buckets_count bank decls (entries_after from to mapped.commits)
      (entries_count mapped.commits mapped.lines.each))

  -- before the first log file
  pub none_last : (last : EntryMap) → last ≡ empty → AreLastOfSome decls from to last
  none_last last none = record {
    all = [];
    lasts = λ key. ap (λ (m : EntryMap). get m key) none ∙ get-empty key_cmp key;
    each = tt;
  }

  -- and behind one more
  pub more_last : (last now : EntryMap) (buckets : List Bucket) → AreLastOfSome decls from to last
      → AllByRecursion (MayCount decls from to) (all_entries buckets) → TakesIn last now (all_entries buckets)
      → AreLastOfSome decls from to now
  more_last last now buckets were count takes = record {
    all = were.all ++ all_entries buckets;
    lasts = takes were.all were.lasts;
    each = all_append (MayCount decls from to) were.all (all_entries buckets) were.each count;
  }

  -- so each of them is one of its key, and may count
  pub all_may_count : (last : EntryMap) → AreLastOfSome decls from to last → AllMayCount decls from to last
  all_may_count last are key e here =
      let both = greatest_one (λ x. MayCount decls from to x × (is_of key x ≡ true)) (filter (is_of key) are.all) e
      (all_filtered (MayCount decls from to) (is_of key) are.all are.each) (sym (are.lasts key) ∙ here) in
      (is_of-key key e both.1, both.0)
