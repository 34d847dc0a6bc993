-- The buckets of a log file have the entries of each key, in their order.
use Rattle.std.proofs.Common.{◌≡◌, ℕ, ◌<◌, ◌≤◌, Bool, true, false, List, [], ◌∷◌, ◌++◌, Option, Some, None, map}
use Rattle.std.proofs.Common.{inl, inr, refl, sym, ap, ◌∙◌, append-nil, arith, eqb, ◌||◌}
use Rattle.std.specs.Prelude.{cond, filter, IsTrue}
use Rattle.std.specs.List.{AllByRecursion, flat_map, list_any}
use Rattle.std.proofs.lemmas.Bool.{cases_eq}
use Rattle.std.proofs.lemmas.Bool.Decides.{nat_tests}
use Rattle.std.proofs.lemmas.List.Elements.{filter-append}
use Rattle.lists.specs.Each.{all_append}
use Rattle.log_mapper.specs.Mapped.{entry_of, entries_of, is_after, entries_after, is_in_storage, buckets_of}
use Rattle.serial_model.specs.Keys.{id_of, has_key_of, is_tree_of}
use Rattle.serial_model.specs.declared.decl.Decl.{Decl}
use Rattle.serial_model.specs.declared.decl.Decl.TheVariants.{Array, Tree}
use Rattle.serial_model.specs.declared.key.Key.{Key}
use Rattle.serial_model.specs.declared.number.Change.{Change}
use Rattle.serial_model.specs.declared.number.Commit.{Commit}
use Rattle.wire_form.specs.Items.{RisesAfter, Rises}
use Rattle.wire_form.specs.LogFile.{has_place_for, IsChangeOf, IsLineOf}
use Rattle.wire_form.specs.declared.bucket.Entry.{Entry}
use Rattle.recovery_core.specs.LogEntries.{counts, is_of}
use Rattle.recovery_core.specs.EntriesLast.{all_entries}

-- ---- two filters in a row

module _ {X : Type 0} (p q : X → Bool) where
  -- what passes the one passes the other
  filter_within : ((x : X) → p x ≡ true → q x ≡ true) → (xs : List X) → filter p (filter q xs) ≡ filter p xs
  filter_within h [] = refl
  filter_within h (x ∷ xs) =
      elim (q x) as (λ b. q x ≡ b → filter p (cond b (x ∷ filter q xs) (filter q xs))
      ≡ cond (p x) (x ∷ filter p xs) (filter p xs)) [
        | true ↦ λ t. ap (λ l. cond (p x) (x ∷ l) l) (filter_within h xs)
        | false ↦ λ t. elim (p x) as (λ b. p x ≡ b → filter p (filter q xs) ≡ cond b (x ∷ filter p xs) (filter p xs)) [
          | true ↦ λ s. absurd (cc (h x s, t))
          | false ↦ λ s. filter_within h xs
        ] refl
      ] refl

  -- what passes the one doesn't pass the other
  filter_without : ((x : X) → p x ≡ true → q x ≡ false) → (xs : List X) → filter p (filter q xs) ≡ []
  filter_without h [] = refl
  filter_without h (x ∷ xs) =
      elim (q x) as (λ b. q x ≡ b → filter p (cond b (x ∷ filter q xs) (filter q xs)) ≡ []) [
        | true ↦ λ t. elim (p x) as (λ b. p x ≡ b → cond b (x ∷ filter p (filter q xs)) (filter p (filter q xs))
            ≡ []) [
              | true ↦ λ s. absurd (cc (h x s, t))
              | false ↦ λ s. filter_without h xs
            ] refl
        | false ↦ λ t. filter_without h xs
      ] refl

-- ---- one bucket

-- an entry of a key is of the key's storage
of_storage : (key : Key) (id : ℕ) → id ≡ key.storage → (e : Entry) → is_of key e ≡ true → is_in_storage id e ≡ true
of_storage key id same e t = grind (arith, nat_tests)

-- and of no other
of_no_other : (key : Key) (id : ℕ) → (id ≡ key.storage → ⊥) → (e : Entry) → is_of key e ≡ true
    → is_in_storage id e ≡ false
of_no_other key id differ e t = grind (arith, nat_tests)

-- the declaration is of the storage with this id
abbrev has_id : ℕ → Decl → Bool
has_id id d = eqb (id_of d) id

-- no declaration is of it
abbrev NoneHas : ℕ → List Decl → Type 0
NoneHas id decls = AllByRecursion (λ d. id_of d ≡ id → ⊥) decls

-- some declaration is of it, or none
none_has : (id : ℕ) (decls : List Decl) → list_any (has_id id) decls ≡ false → NoneHas id decls
none_has id [] none = tt
none_has id (d ∷ ds) none =
    elim (has_id id d) as (λ b. has_id id d ≡ b → (b || list_any (has_id id) ds) ≡ false → NoneHas id (d ∷ ds)) [
      | true ↦ λ t h. absurd (cc)
      | false ↦ λ t h. (
        λ same. let here : eqb (id_of d) id ≡ true = grind (arith, nat_tests) in cc (here, t),
        none_has id ds h,
      )
    ] refl none

-- ids that rise from one on are all above it
none_later : (id low : ℕ) → id ≤ low → (decls : List Decl) → RisesAfter ◌<◌ (Some low) (map id_of decls)
    → NoneHas id decls
none_later id low le [] rises = tt
none_later id low le (d ∷ ds) rises =
    (λ same. omega (arith, rises.0, same), none_later id (id_of d) (omega (arith, rises.0)) ds rises.1)

-- ---- the buckets of all storages

module _ (bank : ℕ) (es : List Entry) (key : Key) where
  abbrev has : List Decl → List Entry
  has decls = filter (is_of key) (all_entries (buckets_of bank decls es))

  -- the first bucket, and then the others
  one_more : (d : Decl) (ds : List Decl) → has (d ∷ ds)
      ≡ filter (is_of key) (filter (is_in_storage (id_of d)) es) ++ has ds
  one_more d ds = filter-append (is_of key) (filter (is_in_storage (id_of d)) es) (all_entries (buckets_of bank ds es))

  -- of other storages they have none of the key
  of_others : (decls : List Decl) → NoneHas key.storage decls → has decls ≡ []
  of_others [] none = refl
  of_others (d ∷ ds) none =
      one_more d ds
      ∙ ap (λ l. l ++ has ds) (filter_without (is_of key) (is_in_storage (id_of d))
      (of_no_other key (id_of d) none.0) es)
      ∙ of_others ds none.1

  -- where the key's storage is among them they have the key's
  of_declared : (last : Option ℕ) (decls : List Decl) → RisesAfter ◌<◌ last (map id_of decls)
      → list_any (has_id key.storage) decls ≡ true → has decls ≡ filter (is_of key) es
  of_declared last [] rises some = absurd (cc)
  of_declared last (d ∷ ds) rises some =
      one_more d ds
      ∙ (elim (cases_eq (id_of d) key.storage) [
        | inl same ↦
            ap (λ l. l ++ has ds) (filter_within (is_of key) (is_in_storage (id_of d))
            (of_storage key (id_of d) same) es)
            ∙ ap (λ l. filter (is_of key) es ++ l) (of_others ds
            (none_later key.storage (id_of d) (omega (arith, same)) ds rises.1))
            ∙ append-nil (filter (is_of key) es)
        | inr differ ↦
            let here : eqb (id_of d) key.storage ≡ false = grind (arith, nat_tests) in
            ap (λ l. l ++ has ds) (filter_without (is_of key) (is_in_storage (id_of d))
            (of_no_other key (id_of d) differ) es)
            ∙ of_declared (Some (id_of d)) ds rises.1
            (sym (ap (λ b. b || list_any (has_id key.storage) ds) here) ∙ some)
      ])

-- ---- lines of declared storages

-- what a storage with the key's id has, a storage with the id has
any_id : (p : Decl → Bool) (id : ℕ) → ((d : Decl) → p d ≡ true → has_id id d ≡ true) → (decls : List Decl)
    → list_any p decls ≡ true
    → list_any (has_id id) decls ≡ true
any_id p id h [] some = some
any_id p id h (d ∷ ds) some =
    elim (p d) as (λ b. p d ≡ b → (b || list_any p ds) ≡ true → (has_id id d || list_any (has_id id) ds) ≡ true) [
      | true ↦ λ t _. ap (λ b. b || list_any (has_id id) ds) (h d t)
      | false ↦ λ t rest. ap (λ b. has_id id d || b) (any_id p id h ds rest) ∙ or_true (has_id id d)
    ] refl some
  where
    or_true : (b : Bool) → (b || true) ≡ true
    or_true true = refl
    or_true false = refl

of_key : (k : Key) (d : Decl) → has_key_of k d ≡ true → has_id k.storage d ≡ true
of_key k (Array id size) t = grind (arith, nat_tests)
of_key k (Tree id) t = t

of_tree : (storage : ℕ) (d : Decl) → is_tree_of storage d ≡ true → has_id storage d ≡ true
of_tree storage (Array id size) t = absurd (cc)
of_tree storage (Tree id) t = t

-- a change is of a declared storage
change_declared : (decls : List Decl) (k : Key) (value : Option ℕ) → IsTrue (has_place_for decls k value)
    → list_any (has_id k.storage) decls ≡ true
change_declared decls k (Some v) is = any_id (has_key_of k) k.storage (of_key k) decls is
change_declared decls k None is = any_id (is_tree_of k.storage) k.storage (of_tree k.storage) decls is

-- none of some entries is of the key
abbrev NoneOf : Key → List Entry → Type 0
NoneOf key es = AllByRecursion (λ e. is_of key e ≡ false) es

none_passes : (key : Key) (es : List Entry) → NoneOf key es → filter (is_of key) es ≡ []
none_passes key [] none = refl
none_passes key (e ∷ es) none = ap (λ b. cond b (e ∷ filter (is_of key) es) (filter (is_of key) es)) none.0
    ∙ none_passes key es none.1

none_within : (key : Key) (q : Entry → Bool) (es : List Entry) → NoneOf key es → NoneOf key (filter q es)
none_within key q [] none = tt
none_within key q (e ∷ es) none =
    elim (q e) as (λ b. NoneOf key (cond b (e ∷ filter q es) (filter q es))) [
      | true ↦ (none.0, none_within key q es none.1)
      | false ↦ none_within key q es none.1
    ]

-- an entry of a declared storage is of no key whose storage isn't declared
none_change : (decls : List Decl) (key : Key) (e : Entry) → list_any (has_id key.storage) decls ≡ false
    → list_any (has_id e.key.storage) decls ≡ true
    → is_of key e ≡ false
none_change decls key e none some =
    elim (is_of key e) as (λ b. is_of key e ≡ b → b ≡ false) [
      | true ↦ λ t.
          let same : e.key.storage ≡ key.storage = grind (arith, nat_tests) in
          absurd (cc (ap (λ id. list_any (has_id id) decls) same, none, some))
      | false ↦ λ t. refl
    ] refl

none_of_commit : (decls : List Decl) (key : Key) (commit : Commit) (changes : List Change)
    → list_any (has_id key.storage) decls ≡ false
    → AllByRecursion (IsChangeOf decls) changes → NoneOf key (map (entry_of commit) changes)
none_of_commit decls key commit [] none all = tt
none_of_commit decls key commit (c ∷ cs) none all = (
  none_change decls key (entry_of commit c) none (change_declared decls c.key c.value all.0),
  none_of_commit decls key commit cs none all.1,
)

none_of_lines : (decls : List Decl) (key : Key) (lines : List Commit) → list_any (has_id key.storage) decls ≡ false
    → AllByRecursion (IsLineOf decls) lines → NoneOf key (flat_map entries_of lines)
none_of_lines decls key [] none all = tt
none_of_lines decls key (c ∷ cs) none all =
    all_append (λ e. is_of key e ≡ false) (entries_of c) (flat_map entries_of cs)
    (none_of_commit decls key c c.changes none all.0.each)
    (none_of_lines decls key cs none all.1)

-- ---- the entries that count

-- what all of a commit's entries answer decides of all of them
filter_alike : (q : Entry → Bool) (b : Bool) (f : Change → Entry) → ((c : Change) → q (f c) ≡ b)
    → (cs : List Change) → filter q (map f cs) ≡ cond b (map f cs) []
filter_alike q b f all [] = either b
  where
    either : (b : Bool) → ◌≡◌ {A = List Entry} [] (cond b [] [])
    either true = refl
    either false = refl
filter_alike q b f all (c ∷ cs) =
    ap (λ x. cond x (f c ∷ filter q (map f cs)) (filter q (map f cs))) (all c)
    ∙ ap (λ l. cond b (f c ∷ l) l) (filter_alike q b f all cs) ∙ either b
  where
    either : (b : Bool) → cond b (f c ∷ cond b (map f cs) []) (cond b (map f cs) []) ≡ cond b (f c ∷ map f cs) []
    either true = refl
    either false = refl

-- the entries that count are those of the commits that do
counted_entries : (from to : ℕ) (lines : List Commit) → filter (counts from to) (flat_map entries_of lines)
    ≡ entries_after from to lines
counted_entries from to [] = refl
counted_entries from to (c ∷ cs) =
    filter-append (counts from to) (entries_of c) (flat_map entries_of cs)
    ∙ ap (λ l. filter (counts from to) (entries_of c) ++ l) (counted_entries from to cs)
    ∙ ap (λ l. l ++ entries_after from to cs) (filter_alike (counts from to) (is_after from to c)
    (entry_of c) (λ change. refl) c.changes)
    ∙ either (is_after from to c)
  where
    either : (b : Bool) → cond b (entries_of c) [] ++ entries_after from to cs
        ≡ flat_map entries_of (cond b (c ∷ filter (is_after from to) cs) (filter (is_after from to) cs))
    either true = refl
    either false = refl

-- the buckets of a log file's lines have of each key the entries that count
pub counted_buckets : (bank from to : ℕ) (decls : List Decl) (lines : List Commit) → Rises ◌<◌ (map id_of decls)
    → AllByRecursion (IsLineOf decls) lines
    → (key : Key) → filter (is_of key) (all_entries (buckets_of bank decls (entries_after from to lines)))
    ≡ filter (is_of key) (filter (counts from to) (flat_map entries_of lines))
counted_buckets bank from to decls lines rising all key =
    elim (list_any (has_id key.storage) decls) as (λ b. list_any (has_id key.storage) decls ≡ b
    → has bank (entries_after from to lines) key decls
    ≡ filter (is_of key) (filter (counts from to) (flat_map entries_of lines))) [
      | true ↦ λ some.
          of_declared bank (entries_after from to lines) key None decls rising some
          ∙ ap (filter (is_of key)) (sym (counted_entries from to lines))
      | false ↦ λ none.
          of_others bank (entries_after from to lines) key decls (none_has key.storage decls none)
          ∙ sym (none_passes key (filter (counts from to) (flat_map entries_of lines))
          (none_within key (counts from to) (flat_map entries_of lines) (none_of_lines decls key lines none all)))
    ] refl
