-- What a glean reads of the closed log files: just the entries of what these have.
use Rattle.std.proofs.Common.{◌≡◌, ◌∙◌, ◌≤◌, ◌<◌, sym, ap, subst, refl, inl, inr, ℕ, Bool, true, false, zero, suc, cond}
use Rattle.std.proofs.Common.{arith, List, [], ◌∷◌, ◌++◌, length, Option, Some, None, get_or, take}
use Rattle.std.specs.Prelude.{◌==◌, filter, flat_map, map, slice_get}
use Rattle.std.specs.List.{AllByRecursion, Contains}
use Rattle.std.proofs.lemmas.Bool.Decides.{nat_tests}
use Rattle.std.proofs.lemmas.List.Elements.{Contains-append_cases, Contains-append_left, Contains-append_right}
use Rattle.std.proofs.lemmas.Option.{same_Some}
use Rattle.lists.specs.Elements.{any_is, at_in, in_cases, in_filter, in_filtered, in_head, in_none, in_tail}
use Rattle.outside.specs.Disk.{IfTold}
use Rattle.serial_model.specs.Keys.{has_key_of, id_of, is_tree_of}
use Rattle.serial_model.specs.Numbers.{IsBelow}
use Rattle.serial_model.specs.declared.decl.Decl.{Decl}
use Rattle.serial_model.specs.declared.decl.Decl.TheVariants.{Array, Tree}
use Rattle.serial_model.specs.declared.key.Key.{Key}
use Rattle.serial_model.specs.declared.number.Change.{Change}
use Rattle.serial_model.specs.declared.number.Commit.{Commit}
use Rattle.log_mapper.specs.Mapped.{AreMapped, bucket_of, buckets_of, entries_after, entries_of, entry_of, is_after}
use Rattle.log_mapper.specs.Mapped.{is_in_storage}
use Rattle.log_reducer.specs.Reduced.{AreLast, all_logged, logged_as, logged_in}
use Rattle.log_reducer.specs.declared.latest.Logged.{Logged}
use Rattle.wire_form.specs.Items.{RisesAfter}
use Rattle.wire_form.specs.LogFile.{AreLinesOf, AreLogLines, IsChangeOf, IsLineOf, commit_number, has_place_for, lines_bytes}
use Rattle.wire_form.specs.LogFileLaws.{are_log_lines, one_list}
use Rattle.wire_form.specs.declared.bucket.Bucket.{Bucket}
use Rattle.wire_form.specs.declared.bucket.Entry.{Entry}
use Rattle.gleaner.specs.Glean.{AreMappedFiles, IsMappedFile, bank_of}
use Rattle.gleaner.specs.declared.closed.Closed.{Closed}

-- ---- lists

pub in_flat : {X Y : Type 0} (f : X → List Y) (xs : List X) (y : Y) → Contains (flat_map f xs) y
    → (x : X) × Contains xs x × Contains (f x) y
in_flat f [] y has = absurd (in_none y has)
in_flat f (x ∷ xs) y has = elim (Contains-append_cases (f x) (flat_map f xs) y has) [
  | inl here ↦ (x, in_head x xs, here)
  | inr later ↦ let rest = in_flat f xs y later in (rest.0, in_tail rest.0 x xs rest.1, rest.2)
]

pub flat_in : {X Y : Type 0} (f : X → List Y) (xs : List X) (x : X) (y : Y) → Contains xs x → Contains (f x) y
    → Contains (flat_map f xs) y
flat_in f [] x y has own = absurd (in_none x has)
flat_in f (z ∷ xs) x y has own = elim (in_cases x z xs has) [
  | inl here ↦ Contains-append_left (f z) (flat_map f xs) y (subst (λ a. Contains (f a) y) (sym here) own)
  | inr later ↦ Contains-append_right (f z) (flat_map f xs) y (flat_in f xs x y later own)
]

pub in_map : {X Y : Type 0} (f : X → Y) (xs : List X) (y : Y) → Contains (map f xs) y
    → (x : X) × Contains xs x × (f x ≡ y)
in_map f [] y has = absurd (in_none y has)
in_map f (x ∷ xs) y has = elim (in_cases y (f x) (map f xs) has) [
  | inl here ↦ (x, in_head x xs, here)
  | inr later ↦ let rest = in_map f xs y later in (rest.0, in_tail rest.0 x xs rest.1, rest.2)
]

pub map_in : {X Y : Type 0} (f : X → Y) (xs : List X) (x : X) → Contains xs x → Contains (map f xs) (f x)
map_in f [] x has = absurd (in_none x has)
map_in f (z ∷ xs) x has = elim (in_cases x z xs has) [
  | inl here ↦ subst (λ a. Contains (f z ∷ map f xs) (f a)) here (in_head (f z) (map f xs))
  | inr later ↦ in_tail (f x) (f z) (map f xs) (map_in f xs x later)
]

-- an element has an index
index_of : {X : Type 0} (xs : List X) (x : X) → Contains xs x → (i : ℕ) × (i < length xs) × (slice_get xs i ≡ Some x)
index_of [] x has = absurd (in_none x has)
index_of (y ∷ xs) x has = elim (in_cases x y xs has) [
  | inl here ↦ (0, omega arith, ap Some here)
  | inr later ↦ let rest = index_of xs x later in (suc rest.0, omega (arith, rest.1), rest.2)
]

item_at : {X : Type 0} (xs : List X) (i : ℕ) → i < length xs → (x : X) × (slice_get xs i ≡ Some x)
item_at [] i within = absurd (omega (arith, within))
item_at (x ∷ xs) zero within = (x, refl)
item_at (x ∷ xs) (suc i) within = item_at xs i (omega (arith, within))

pub filter_all : {X : Type 0} (p : X → Bool) (xs : List X) → AllByRecursion (λ x. p x ≡ true) xs → filter p xs ≡ xs
filter_all p [] all = refl
filter_all p (x ∷ xs) all =
    ap (λ b. cond b (x ∷ filter p xs) (filter p xs)) all.0 ∙ ap (λ l. x ∷ l) (filter_all p xs all.1)

pub filter_none : {X : Type 0} (p : X → Bool) (xs : List X) → AllByRecursion (λ x. p x ≡ false) xs → filter p xs ≡ []
filter_none p [] all = refl
filter_none p (x ∷ xs) all =
    ap (λ b. cond b (x ∷ filter p xs) (filter p xs)) all.0 ∙ filter_none p xs all.1

-- ---- the workers

abbrev pub eight : List ℕ
eight = 0 ∷ 1 ∷ 2 ∷ 3 ∷ 4 ∷ 5 ∷ 6 ∷ 7 ∷ []

all_found : {X : Type 0} (P : X → Type 0) (xs : List X) (x : X) → AllByRecursion P xs → Contains xs x → P x
all_found P [] x all has = absurd (in_none x has)
all_found P (y ∷ xs) x all has = elim (in_cases x y xs has) [
  | inl here ↦ subst P here all.0
  | inr later ↦ all_found P xs x all.1 later
]

pub eight_below : (w : ℕ) → Contains eight w → w < 8
eight_below w has = all_found (λ w. w < 8) eight w (
  omega arith,
  (omega arith, (omega arith, (omega arith, (omega arith, (omega arith, (omega arith, (omega arith, tt))))))),
) has

pub below_eight : (w : ℕ) → w < 8 → Contains eight w
below_eight zero below = at_in eight 0 0 refl
below_eight (suc zero) below = at_in eight 1 1 refl
below_eight (suc (suc zero)) below = at_in eight 2 2 refl
below_eight (suc (suc (suc zero))) below = at_in eight 3 3 refl
below_eight (suc (suc (suc (suc zero)))) below = at_in eight 4 4 refl
below_eight (suc (suc (suc (suc (suc zero))))) below = at_in eight 5 5 refl
below_eight (suc (suc (suc (suc (suc (suc zero)))))) below = at_in eight 6 6 refl
below_eight (suc (suc (suc (suc (suc (suc (suc zero))))))) below = at_in eight 7 7 refl
below_eight (suc (suc (suc (suc (suc (suc (suc (suc n)))))))) below = absurd (omega (arith, below))

-- ---- the buckets of some entries

-- a change is of a declared storage
place_declared : (decls : List Decl) (k : Key) (value : Option ℕ) → has_place_for decls k value ≡ true
    → (d : Decl) × Contains decls d × (id_of d ≡ k.storage)
place_declared decls k (Some v) is =
    let found = any_is (has_key_of k) decls is in (found.0, found.1, by_key found.0 found.2)
  where
    by_key : (d : Decl) → has_key_of k d ≡ true → id_of d ≡ k.storage
    by_key (Array id size) t = grind (arith, nat_tests)
    by_key (Tree id) t = grind (arith, nat_tests)
place_declared decls k None is =
    let found = any_is (is_tree_of k.storage) decls is in (found.0, found.1, by_tree found.0 found.2)
  where
    by_tree : (d : Decl) → is_tree_of k.storage d ≡ true → id_of d ≡ k.storage
    by_tree (Array id size) t = absurd (cc)
    by_tree (Tree id) t = grind (arith, nat_tests)

changes_declared : (decls : List Decl) (c : Commit) (changes : List Change) (e : Entry)
    → AllByRecursion (IsChangeOf decls) changes → Contains (map (entry_of c) changes) e
    → (d : Decl) × Contains decls d × (id_of d ≡ e.key.storage)
changes_declared decls c [] e all has = absurd (in_none e has)
changes_declared decls c (change ∷ more) e all has = elim (in_cases e (entry_of c change) (map (entry_of c) more) has) [
  | inl here ↦ subst (λ (x : Entry). (d : Decl) × Contains decls d × (id_of d ≡ x.key.storage)) here
      (place_declared decls change.key change.value all.0)
  | inr later ↦ changes_declared decls c more e all.1 later
]

lines_declared : (decls : List Decl) (commits : List Commit) (e : Entry) → AllByRecursion (IsLineOf decls) commits
    → Contains (flat_map entries_of commits) e → (d : Decl) × Contains decls d × (id_of d ≡ e.key.storage)
lines_declared decls commits e all has =
    let at = in_flat entries_of commits e has in
    changes_declared decls at.0 at.0.changes e (all_found (IsLineOf decls) commits at.0 all at.1).each at.2

in_bucket : (id : ℕ) (e : Entry) → id ≡ e.key.storage → is_in_storage id e ≡ true
in_bucket id e same = grind (arith, nat_tests)

-- what is in the buckets is one of the entries
in_buckets_of : (bank : ℕ) (decls : List Decl) (es : List Entry) (l : Logged)
    → Contains (all_logged (buckets_of bank decls es)) l → (e : Entry) × Contains es e × (logged_as bank e ≡ l)
in_buckets_of bank decls es l has =
    let at = in_flat logged_in (buckets_of bank decls es) l has in
    let d = in_map (bucket_of bank es) decls at.0 at.1 in
    let own : Contains (logged_in (bucket_of bank es d.0)) l = subst (λ b. Contains (logged_in b) l) (sym d.2) at.2 in
    let e = in_map (logged_as bank) (filter (is_in_storage (id_of d.0)) es) l own in
    (e.0, in_filter (is_in_storage (id_of d.0)) e.0 es e.1, e.2)

-- and each entry of a declared storage is in one
buckets_of_in : (bank : ℕ) (decls : List Decl) (es : List Entry) (e : Entry) (d : Decl) → Contains es e
    → Contains decls d → id_of d ≡ e.key.storage → Contains (all_logged (buckets_of bank decls es)) (logged_as bank e)
buckets_of_in bank decls es e d has declared same =
    flat_in logged_in (buckets_of bank decls es) (bucket_of bank es d) (logged_as bank e)
    (map_in (bucket_of bank es) decls d declared)
    (map_in (logged_as bank) (filter (is_in_storage (id_of d)) es) e
    (in_filtered (is_in_storage (id_of d)) e es has (in_bucket (id_of d) e same)))

-- ---- the buckets of the closed log files

-- the entries of what the closed log files have, each with the number of its file
abbrev pub gone_logged : Bool → (ℕ → List Commit) → List Logged
gone_logged odd gone = flat_map (λ w. map (logged_as (bank_of odd w)) (flat_map entries_of (gone w))) eight

-- an entry of a worker's closed log file
pub record IsGone (odd : Bool) (gone : ℕ → List Commit) (l : Logged) : Type 0 where
  pub worker : ℕ
  pub below : worker < 8
  pub entry : Entry
  pub has : Contains (flat_map entries_of (gone worker)) entry
  pub is : logged_as (bank_of odd worker) entry ≡ l

pub in_gone : (odd : Bool) (gone : ℕ → List Commit) (l : Logged) → Contains (gone_logged odd gone) l
    → IsGone odd gone l
in_gone odd gone l has =
    let at = in_flat (λ w. map (logged_as (bank_of odd w)) (flat_map entries_of (gone w))) eight l has in
    let e = in_map (logged_as (bank_of odd at.0)) (flat_map entries_of (gone at.0)) l at.2 in
    record { worker = at.0; below = eight_below at.0 at.1; entry = e.0; has = e.1; is = e.2 }

pub gone_in : (odd : Bool) (gone : ℕ → List Commit) (l : Logged) → IsGone odd gone l
    → Contains (gone_logged odd gone) l
gone_in odd gone l is = subst (Contains (gone_logged odd gone)) is.is
    (flat_in (λ w. map (logged_as (bank_of odd w)) (flat_map entries_of (gone w))) eight is.worker
    (logged_as (bank_of odd is.worker) is.entry) (below_eight is.worker is.below)
    (map_in (logged_as (bank_of odd is.worker)) (flat_map entries_of (gone is.worker)) is.entry is.has))

-- A closed log file tells its bytes, which begin with the lines of these commits, and all of them count.
pub record TellsGone {D : Type 0} (tells : D → Option (List ℕ)) (size : ℕ) (commits : List Commit) (files : List D)
    (w : ℕ) : Type 0 where
  pub file : D
  pub bytes : List ℕ
  pub there : slice_get files w ≡ Some file
  pub told : tells file ≡ Some bytes
  pub lines : take size bytes ≡ lines_bytes commits

module _ {D : Type 0} {tells : D → Option (List ℕ)} {closed : Closed} {decls : List Decl} {after : ℕ} {files : List D}
    {buckets : List Bucket} (gone : ℕ → List Commit) (mapped : AreMappedFiles tells closed decls after 8 files buckets)
    (told : (w : ℕ) → w < 8 → TellsGone tells (get_or closed.lengths w 0) (gone w) files w)
    (lines : (w : ℕ) → w < 8 → AllByRecursion (IsLineOf decls) (gone w))
    (rise : (w : ℕ) → w < 8 → RisesAfter IsBelow None (map commit_number (gone w)))
    (between : (w : ℕ) → w < 8 → AllByRecursion (λ c. is_after after closed.epoch c ≡ true) (gone w)) where
  -- a worker's buckets are those of what its closed log file has
  part_is : (w : ℕ) (part : List Bucket) → w < 8 → slice_get mapped.parts w ≡ Some part
      → part ≡ buckets_of (bank_of closed.odd w) decls (flat_map entries_of (gone w))
  part_is w part below at =
      let t = told w below in
      let is = mapped.each w t.file part t.there at in
      let read : AreMapped (bank_of closed.odd w) (get_or closed.lengths w 0) decls after closed.epoch t.bytes part =
      is.told t.bytes t.told in
      let front = read.front in
      let own : AreLogLines None (lines_bytes (gone w)) (gone w) = record {
        each = are_log_lines decls (gone w) (lines w below);
        rising = rise w below;
        spelled = refl;
      } in
      let there : AreLogLines None (lines_bytes (gone w)) front.commits = record {
        each = are_log_lines decls front.commits front.lines.each;
        rising = front.lines.rising;
        spelled = sym t.lines ∙ front.lines.spelled;
      } in
      let same : front.commits ≡ gone w = one_list None (lines_bytes (gone w)) front.commits (gone w) there own in
      front.mapped
      ∙ ap (λ cs. buckets_of (bank_of closed.odd w) decls (entries_after after closed.epoch cs)) same
      ∙ ap (λ cs. buckets_of (bank_of closed.odd w) decls (flat_map entries_of cs))
      (filter_all (is_after after closed.epoch) (gone w) (between w below))

  -- So the buckets have just these entries.
  pub in_buckets : (l : Logged) → Contains (all_logged buckets) l → IsGone closed.odd gone l
  in_buckets l has =
      let at = in_flat logged_in buckets l has in
      let part = in_flat (λ (p : List Bucket). p) mapped.parts at.0
      (subst (λ bs. Contains bs at.0) mapped.all at.1) in
      let index = index_of mapped.parts part.0 part.1 in
      let below : index.0 < 8 = omega (arith, index.1, mapped.many) in
      let own : Contains (all_logged part.0) l = flat_in logged_in part.0 at.0 l part.2 at.2 in
      let e = in_buckets_of (bank_of closed.odd index.0) decls (flat_map entries_of (gone index.0)) l
      (subst (λ p. Contains (all_logged p) l) (part_is index.0 part.0 below index.2) own) in
      record { worker = index.0; below = below; entry = e.0; has = e.1; is = e.2 }

  pub buckets_in : (l : Logged) → IsGone closed.odd gone l → Contains (all_logged buckets) l
  buckets_in l is =
      let part = item_at mapped.parts is.worker (omega (arith, is.below, mapped.many)) in
      let declared = lines_declared decls (gone is.worker) is.entry (lines is.worker is.below) is.has in
      let own = subst (λ p. Contains (all_logged p) (logged_as (bank_of closed.odd is.worker) is.entry))
      (sym (part_is is.worker part.0 is.below part.1))
      (buckets_of_in (bank_of closed.odd is.worker) decls (flat_map entries_of (gone is.worker)) is.entry declared.0
      is.has declared.1 declared.2) in
      let at = in_flat logged_in part.0 (logged_as (bank_of closed.odd is.worker) is.entry) own in
      subst (Contains (all_logged buckets)) is.is
      (flat_in logged_in buckets at.0 (logged_as (bank_of closed.odd is.worker) is.entry)
      (subst (λ bs. Contains bs at.0) (sym mapped.all)
      (flat_in (λ (p : List Bucket). p) mapped.parts part.0 at.0 (at_in mapped.parts is.worker part.0 part.1) at.1))
      at.2)

-- The last entries of some are those of others that are the same ones.
pub last_same : (a b : List Logged) (run : List Entry) → ((l : Logged) → Contains a l → Contains b l)
    → ((l : Logged) → Contains b l → Contains a l) → AreLast a run → AreLast b run
last_same a b run to from last = record {
  each = λ e has. last.each e (from e has);
  latest = λ r has.
      let f = last.latest r has in
      (f.0, to f.0 f.1, f.2, λ e there same. f.3 e (from e there) same);
  rising = last.rising;
}
