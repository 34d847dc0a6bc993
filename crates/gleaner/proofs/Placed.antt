-- The last entries of mapped log files may be composed over a snapshot of these storages.
use Rattle.std.proofs.Common.{◌≡◌, ◌≤◌, ℕ, suc, Bool, true, false, List, [], ◌∷◌, inl, inr, Option, Some, refl, sym, subst}
use Rattle.std.proofs.Common.{arith, length, map}
use Rattle.std.specs.Prelude.{cond, filter, slice_get}
use Rattle.std.specs.List.{AllByRecursion, Contains, flat_map}
use Rattle.std.proofs.lemmas.Bool.Decides.{nat_tests}
use Rattle.std.proofs.lemmas.Grind.{flat_map-append}
use Rattle.lists.specs.Each.{all_append}
use Rattle.lists.specs.Elements.{at_below, in_cases, in_head, in_none, in_tail}
use Rattle.serial_model.specs.Keys.{id_of}
use Rattle.serial_model.specs.Numbers.{IsNumber}
use Rattle.serial_model.specs.declared.decl.Decl.{Decl}
use Rattle.serial_model.specs.declared.number.Change.{Change}
use Rattle.serial_model.specs.declared.number.Commit.{Commit}
use Rattle.wire_form.specs.LogFile.{IsChangeOf, IsLineOf}
use Rattle.wire_form.specs.Pages.{Contents}
use Rattle.wire_form.specs.declared.bucket.Bucket.{Bucket}
use Rattle.wire_form.specs.declared.bucket.Entry.{Entry}
use Rattle.log_mapper.specs.Mapped.{AreMappedLines, buckets_of, entries_after, entries_of, entry_of, is_after, is_in_storage}
use Rattle.log_reducer.specs.Reduced.{AreLast, all_logged, logged_as, logged_in}
use Rattle.log_reducer.specs.declared.latest.Logged.{Logged}
use Rattle.root_composer.specs.Composition.{IsEntryOf}
use Rattle.gleaner.specs.Glean.{AreMappedFiles, CanGlean, CanReduce}
use Rattle.gleaner.specs.declared.closed.Closed.{Closed}
use Rattle.gleaner.specs.declared.closed.Newest.{Newest}
use Rattle.gleaner.proofs.InTurn.{item_at}

-- ---- lists

-- what holds of all holds of one that is among them
all_has : {X : Type 0} (P : X → Type 0) (xs : List X) (x : X) → AllByRecursion P xs → Contains xs x → P x
all_has P [] x all has = absurd (in_none x has)
all_has P (y ∷ ys) x all has = elim (in_cases x y ys has) [
  | inl here ↦ subst P here all.0
  | inr later ↦ all_has P ys x all.1 later
]

-- what holds of each that a list has holds of all
all_of : {X : Type 0} (P : X → Type 0) (xs : List X) → ((x : X) → Contains xs x → P x) → AllByRecursion P xs
all_of P [] each = tt
all_of P (x ∷ xs) each = (each x (in_head x xs), all_of P xs (λ y has. each y (in_tail y x xs has)))

-- and of those that pass a test
all_filter : {X : Type 0} (P : X → Type 0) (test : X → Bool) (xs : List X) → AllByRecursion P xs
    → AllByRecursion P (filter test xs)
all_filter P test [] all = tt
all_filter P test (x ∷ xs) all = elim (test x) as (λ b. AllByRecursion P (cond b (x ∷ filter test xs) (filter test xs))) [
  | true ↦ (all.0, all_filter P test xs all.1)
  | false ↦ all_filter P test xs all.1
]

-- ---- entries of these storages, up to an epoch

module _ (decls : List Decl) (from to : ℕ) where
  -- a commit's
  changes_placed : (c : Commit) (changes : List Change) → IsNumber c.number → c.number.epoch ≤ to
      → AllByRecursion (IsChangeOf decls) changes → AllByRecursion (IsEntryOf decls to) (map (entry_of c) changes)
  changes_placed c [] number within all = tt
  changes_placed c (x ∷ xs) number within all = (
    record { place = all.0; number = number; epoch_is = within },
    changes_placed c xs number within all.1,
  )

  -- those of the lines' commits
  entries_placed : (lines : List Commit) → AllByRecursion (IsLineOf decls) lines
      → AllByRecursion (IsEntryOf decls to) (entries_after from to lines)
  entries_placed [] all = tt
  entries_placed (c ∷ cs) all =
      elim (is_after from to c) as (λ b. is_after from to c ≡ b → AllByRecursion (IsEntryOf decls to)
      (flat_map entries_of (cond b (c ∷ filter (is_after from to) cs) (filter (is_after from to) cs)))) [
        | true ↦ λ passes.
            let within : c.number.epoch ≤ to = grind (arith, nat_tests) in
            all_append (IsEntryOf decls to) (entries_of c) (entries_after from to cs)
            (changes_placed c c.changes all.0.line.loggable.number within all.0.each) (entries_placed cs all.1)
        | false ↦ λ fails. entries_placed cs all.1
      ] refl

  -- with the number of their log file
  abbrev Placed : Logged → Type 0
  Placed l = IsEntryOf decls to l.entry

  logged_placed : (bank : ℕ) (es : List Entry) → AllByRecursion (IsEntryOf decls to) es
      → AllByRecursion Placed (map (logged_as bank) es)
  logged_placed bank [] all = tt
  logged_placed bank (e ∷ es) all = (all.0, logged_placed bank es all.1)

  -- in buckets
  buckets_placed : (bank : ℕ) (storages : List Decl) (es : List Entry) → AllByRecursion (IsEntryOf decls to) es
      → AllByRecursion Placed (all_logged (buckets_of bank storages es))
  buckets_placed bank [] es all = tt
  buckets_placed bank (d ∷ ds) es all =
      all_append Placed (map (logged_as bank) (filter (is_in_storage (id_of d)) es)) (all_logged (buckets_of bank ds es))
      (logged_placed bank (filter (is_in_storage (id_of d)) es)
      (all_filter (IsEntryOf decls to) (is_in_storage (id_of d)) es all))
      (buckets_placed bank ds es all)

  lines_placed : (bank : ℕ) (bytes : List ℕ) (part : List Bucket) → AreMappedLines bank decls from to bytes part
      → AllByRecursion Placed (all_logged part)
  lines_placed bank bytes part lines =
      subst (λ bs. AllByRecursion Placed (all_logged bs)) (sym lines.mapped)
      (buckets_placed bank decls (entries_after from to lines.commits) (entries_placed lines.commits lines.lines.each))

  -- of several log files
  parts_placed : (parts : List (List Bucket))
      → ((i : ℕ) (part : List Bucket) → slice_get parts i ≡ Some part → AllByRecursion Placed (all_logged part))
      → AllByRecursion Placed (all_logged (flat_map (λ part. part) parts))
  parts_placed [] each = tt
  parts_placed (part ∷ parts) each =
      subst (AllByRecursion Placed) (sym (flat_map-append logged_in part (flat_map (λ part. part) parts)))
      (all_append Placed (all_logged part) (all_logged (flat_map (λ part. part) parts)) (each 0 part refl)
      (parts_placed parts (λ i q at. each (suc i) q at)))

  -- and so are the last ones of each key
  run_placed : (all : List Logged) (run : List Entry) → AllByRecursion Placed all → AreLast all run
      → AllByRecursion (IsEntryOf decls to) run
  run_placed all run placed last = all_of (IsEntryOf decls to) run (λ r has.
      let one = last.latest r has in
      subst (IsEntryOf decls to) one.2 (all_has Placed all one.0 placed one.1))

module _ {D : Type 0} {tells : D → Option (List ℕ)} where
  -- Of the closed log files the last entries may be composed over the newest snapshot.
  pub may_reduce : {pages : List (List ℕ)} {decls : List Decl} {newest : Newest} {closed : Closed} {contents : Contents}
      (files : List D) (buckets : List Bucket) → CanGlean pages decls newest closed contents → length files ≡ 8
      → AreMappedFiles tells closed decls newest.epoch 8 files buckets
      → CanReduce pages newest buckets closed.epoch contents
  may_reduce {decls = decls} {newest = newest} {closed = closed} {contents = contents} files buckets can eight mapped =
      let placed = parts_placed decls newest.epoch closed.epoch mapped.parts (λ i part at.
      let below = at_below mapped.parts i part at in
      let file = item_at files i (omega (arith, below, mapped.many, eight)) in
      let one = mapped.each i file.0 part file.1 at in
      lines_placed decls newest.epoch closed.epoch _ one.bytes part one.lines) in
      record {
        can = λ run last. record {
          stands = can.stands;
          entries = subst (λ ds. AllByRecursion (IsEntryOf ds closed.epoch) run) can.decls_are
              (run_placed decls newest.epoch closed.epoch (all_logged buckets) run
              (subst (λ bs. AllByRecursion (λ (l : Logged). IsEntryOf decls closed.epoch l.entry) (all_logged bs))
              (sym mapped.all) placed) last);
          rising = last.rising;
          later = can.later;
          last = can.last;
        };
      }
