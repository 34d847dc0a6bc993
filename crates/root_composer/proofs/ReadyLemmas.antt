-- A run whose entries are those of the storages can be composed over them.
use Rattle.std.proofs.Common.{◌≡◌, ◌≢◌, ℕ, ◌<◌, Bool, true, false, List, [], ◌∷◌, map, Option, Some, None, refl, sym, ap, ◌∙◌, arith, inl, inr, eqb, ltb}
use Rattle.std.specs.Prelude.{cond, ◌||◌, ◌&&◌}
use Rattle.std.specs.List.{AllByRecursion}
use Rattle.std.specs.Ordering.{eq_by_cmp}
use Rattle.std.proofs.lemmas.Bool.{cases_eq}
use Rattle.std.proofs.lemmas.Bool.Decides.{nat_tests}
use Rattle.lists.specs.Each.{all_weaker}
use Rattle.serial_model.specs.Decls.{IsDecl}
use Rattle.serial_model.specs.Keys.{IsKeyBelow, key_cmp, id_of, has_key_of, has_key, is_tree_of, is_tree}
use Rattle.serial_model.specs.declared.key.Key.{Key}
use Rattle.serial_model.specs.declared.decl.Decl.{Decl}
use Rattle.serial_model.specs.declared.decl.Decl.TheVariants.{Array, Tree}
use Rattle.wire_form.specs.declared.bucket.Entry.{Entry}
use Rattle.wire_form.specs.declared.records.Stored.{Stored}
use Rattle.wire_form.specs.Items.{RisesAfter, Rises}
use Rattle.wire_form.specs.LogFile.{has_place_for}
use Rattle.wire_form.specs.Pages.{IsStored, stored_id, stored_decl, Contents}
use Rattle.snapshot_store.specs.Content.{RootStands}
use Rattle.root_composer.specs.ArrayWriter.{IsPut}
use Rattle.root_composer.specs.Rows.{IsNumberWord}
use Rattle.root_composer.specs.Storages.{last_of, part_of, change_for, has_id, FitStorage, IsReady}
use Rattle.log_reducer.specs.Reduced.{entry_key}
use Rattle.root_composer.specs.Composition.{IsEntryOf, CanCompose}
use Rattle.root_composer.proofs.ContentLaw.{same_key}
use Rattle.root_composer.proofs.RunLemmas.{part_rises}

-- ---- the storage of a key

ids_above : (k : ℕ) (ss : List Stored) → RisesAfter ◌<◌ (Some k) (map stored_id ss) → AllByRecursion (λ t. k < stored_id t) ss
ids_above k [] rise = tt
ids_above k (s ∷ ss) rise =
    (rise.0, all_weaker (λ t. stored_id s < stored_id t) (λ t. k < stored_id t) (λ t h. omega (arith, h, rise.0)) ss (ids_above (stored_id s) ss rise.1))

other_decl : (k : Key) (d : Decl) → id_of d ≢ k.storage → has_key_of k d ≡ false
other_decl k (Array id size) ne = let t : eqb id k.storage ≡ false = grind (arith, nat_tests) in ap (λ b. b && ltb k.key size) t
other_decl k (Tree id) ne = grind (arith, nat_tests)

own_decl : (k : Key) (d : Decl) → has_key_of k d ≡ true → id_of d ≡ k.storage
own_decl k d has =
    elim (cases_eq (id_of d) k.storage) [
      | inl same ↦ same
      | inr ne ↦ let none : has_key_of k d ≡ false = other_decl k d ne in absurd (cc)
    ]

no_key : (k : Key) (id : ℕ) (ss : List Stored) → k.storage ≡ id → AllByRecursion (λ t. id < stored_id t) ss → has_key (map stored_decl ss) k ≡ false
no_key k id [] same all = refl
no_key k id (s ∷ ss) same all =
    let other : has_key_of k s.decl ≡ false = other_decl k s.decl (omega (arith, all.0)) in
    ap (λ b. b || has_key (map stored_decl ss) k) other ∙ no_key k id ss same all.1

-- the storage of the key has it, where one has
abbrev HasItsKeys : List Decl → Stored → Type 0
HasItsKeys decls s = (k : Key) → k.storage ≡ stored_id s → has_key decls k ≡ true → has_key_of k s.decl ≡ true

head_has : (s : Stored) (ss : List Stored) → AllByRecursion (λ t. stored_id s < stored_id t) ss → HasItsKeys (map stored_decl (s ∷ ss)) s
head_has s ss above k same has =
    let none = no_key k (stored_id s) ss same above in
    elim (has_key_of k s.decl) as (λ b. (b || has_key (map stored_decl ss) k) ≡ true → b ≡ true) [
      | true ↦ λ h. refl
      | false ↦ λ h. absurd (cc)
    ] has

tail_has : (s : Stored) (ss ts : List Stored) → AllByRecursion (λ t. stored_id s < stored_id t) ts → AllByRecursion (HasItsKeys (map stored_decl ss)) ts → AllByRecursion (HasItsKeys (map stored_decl (s ∷ ss))) ts
tail_has s ss [] above all = tt
tail_has s ss (t ∷ ts) above all = (
  λ k same has.
      let other : has_key_of k s.decl ≡ false = other_decl k s.decl (omega (arith, above.0, same)) in
      all.0 k same (sym (ap (λ b. b || has_key (map stored_decl ss) k) other) ∙ has),
  tail_has s ss ts above.1 all.1,
)

have_their_keys : (last : Option ℕ) (ss : List Stored) → RisesAfter ◌<◌ last (map stored_id ss) → AllByRecursion (HasItsKeys (map stored_decl ss)) ss
have_their_keys last [] rise = tt
have_their_keys last (s ∷ ss) rise =
    let above = ids_above (stored_id s) ss rise.1 in
    (head_has s ss above, tail_has s ss ss above (have_their_keys (Some (stored_id s)) ss rise.1))

-- a storage with a key has an id
key_has_id : (k : Key) (ss : List Stored) → has_key (map stored_decl ss) k ≡ true → has_id ss k.storage ≡ true
key_has_id k [] has = absurd (cc)
key_has_id k (s ∷ ss) has =
    elim (has_key_of k s.decl) as (λ b. has_key_of k s.decl ≡ b → (b || has_key (map stored_decl ss) k) ≡ true → has_id (s ∷ ss) k.storage ≡ true) [
      | true ↦ λ t h.
          let same = own_decl k s.decl t in
          let here : eqb (id_of s.decl) k.storage ≡ true = grind (arith, nat_tests) in
          ap (λ b. cond b true (has_id ss k.storage)) here
      | false ↦ λ t h. either (eqb (id_of s.decl) k.storage) (key_has_id k ss h)
    ] refl has
  where
    either : (b : Bool) → has_id ss k.storage ≡ true → cond b true (has_id ss k.storage) ≡ true
    either true h = refl
    either false h = h

-- ---- trees

other_tree : (id : ℕ) (d : Decl) → id_of d ≢ id → is_tree_of id d ≡ false
other_tree id (Array i size) ne = refl
other_tree id (Tree i) ne = grind (arith, nat_tests)

own_tree : (id : ℕ) (d : Decl) → is_tree_of id d ≡ true → id_of d ≡ id
own_tree id d has =
    elim (cases_eq (id_of d) id) [
      | inl same ↦ same
      | inr ne ↦ let none : is_tree_of id d ≡ false = other_tree id d ne in absurd (cc)
    ]

no_tree : (id : ℕ) (ss : List Stored) → AllByRecursion (λ t. id < stored_id t) ss → is_tree (map stored_decl ss) id ≡ false
no_tree id [] all = refl
no_tree id (s ∷ ss) all =
    let other : is_tree_of id s.decl ≡ false = other_tree id s.decl (omega (arith, all.0)) in
    ap (λ b. b || is_tree (map stored_decl ss) id) other ∙ no_tree id ss all.1

-- the storage with an id is a tree, where one with that id is
abbrev IsItsTree : List Decl → Stored → Type 0
IsItsTree decls s = is_tree decls (stored_id s) ≡ true → is_tree_of (stored_id s) s.decl ≡ true

are_their_trees : (last : Option ℕ) (ss : List Stored) → RisesAfter ◌<◌ last (map stored_id ss) → AllByRecursion (IsItsTree (map stored_decl ss)) ss
are_their_trees last [] rise = tt
are_their_trees last (s ∷ ss) rise =
    let above = ids_above (stored_id s) ss rise.1 in
    (head s ss above, tail s ss ss above (are_their_trees (Some (stored_id s)) ss rise.1))
  where
    head : (s : Stored) (ss : List Stored) → AllByRecursion (λ t. stored_id s < stored_id t) ss → IsItsTree (map stored_decl (s ∷ ss)) s
    head s ss above has =
        let none = no_tree (stored_id s) ss above in
        elim (is_tree_of (stored_id s) s.decl) as (λ b. (b || is_tree (map stored_decl ss) (stored_id s)) ≡ true → b ≡ true) [
          | true ↦ λ h. refl
          | false ↦ λ h. absurd (cc)
        ] has

    tail : (s : Stored) (ss ts : List Stored) → AllByRecursion (λ t. stored_id s < stored_id t) ts → AllByRecursion (IsItsTree (map stored_decl ss)) ts → AllByRecursion (IsItsTree (map stored_decl (s ∷ ss))) ts
    tail s ss [] above all = tt
    tail s ss (t ∷ ts) above all = (
      λ has.
          let other : is_tree_of (stored_id t) s.decl ≡ false = other_tree (stored_id t) s.decl (omega (arith, above.0)) in
          all.0 (sym (ap (λ b. b || is_tree (map stored_decl ss) (stored_id t)) other) ∙ has),
      tail s ss ts above.1 all.1,
    )

tree_has_id : (id : ℕ) (ss : List Stored) → is_tree (map stored_decl ss) id ≡ true → has_id ss id ≡ true
tree_has_id id [] has = absurd (cc)
tree_has_id id (s ∷ ss) has =
    elim (is_tree_of id s.decl) as (λ b. is_tree_of id s.decl ≡ b → (b || is_tree (map stored_decl ss) id) ≡ true → has_id (s ∷ ss) id ≡ true) [
      | true ↦ λ t h.
          let same = own_tree id s.decl t in
          let here : eqb (id_of s.decl) id ≡ true = grind (arith, nat_tests) in
          ap (λ b. cond b true (has_id ss id)) here
      | false ↦ λ t h. either (eqb (id_of s.decl) id) (tree_has_id id ss h)
    ] refl has
  where
    either : (b : Bool) → has_id ss id ≡ true → cond b true (has_id ss id) ≡ true
    either true h = refl
    either false h = h

-- an entry of one of the storages has its id
entry_has_id : (ss : List Stored) (e : Entry) (o : Option ℕ) → has_place_for (map stored_decl ss) e.key o ≡ true → has_id ss e.key.storage ≡ true
entry_has_id ss e (Some v) place = key_has_id e.key ss place
entry_has_id ss e None place = tree_has_id e.key.storage ss place

-- ---- arrays

-- an array's entry puts a value at one of its keys
put_of : (size id : ℕ) (decls : List Decl) (e : Entry) (o : Option ℕ) → e.value ≡ o → e.key.storage ≡ id → (has_key decls e.key ≡ true → has_key_of e.key (Array id size) ≡ true) → (is_tree decls id ≡ true → is_tree_of id (Array id size) ≡ true)
    → has_place_for decls e.key o ≡ true → (e.key.key < size) × ((v : ℕ) × (e.value ≡ Some v))
put_of size id decls e (Some v) is here own tree place = (key_in (own place), (v, is))
  where
    key_in : has_key_of e.key (Array id size) ≡ true → e.key.key < size
    key_in has = grind (arith, nat_tests)
put_of size id decls e None is here own tree place =
    let none : false ≡ true = tree (ap (is_tree decls) (sym here) ∙ place) in
    absurd (cc)

puts_of : (epoch id size root : ℕ) (decls : List Decl) (run : List Entry) → HasItsKeys decls (record { decl = Array id size; root = root }) → IsItsTree decls (record { decl = Array id size; root = root })
    → AllByRecursion (IsEntryOf decls epoch) run → AllByRecursion (IsPut size) (part_of id run)
puts_of epoch id size root decls [] own tree all = tt
puts_of epoch id size root decls (e ∷ es) own tree all =
    let rest = puts_of epoch id size root decls es own tree all.1 in
    elim (eqb e.key.storage id) as (λ b. eqb e.key.storage id ≡ b → AllByRecursion (IsPut size) (cond b (last_of e ∷ part_of id es) (part_of id es))) [
      | true ↦ λ t.
          let here : e.key.storage ≡ id = grind (arith, nat_tests) in
          let put = put_of size id decls e e.value refl here (own e.key here) tree all.0.place in
          (record { key = put.0; number = (e.number, all.0.number, refl); value = put.1 }, rest)
      | false ↦ λ t. rest
    ] refl

numbers_of : (decls : List Decl) (epoch id : ℕ) (run : List Entry) → AllByRecursion (IsEntryOf decls epoch) run → AllByRecursion (λ e. IsNumberWord e.number) (part_of id run)
numbers_of decls epoch id [] all = tt
numbers_of decls epoch id (e ∷ es) all =
    let rest = numbers_of decls epoch id es all.1 in
    elim (eqb e.key.storage id) as (λ b. AllByRecursion (λ f. IsNumberWord f.number) (cond b (last_of e ∷ part_of id es) (part_of id es))) [
      | true ↦ ((e.number, all.0.number, refl), rest)
      | false ↦ rest
    ]

-- no entry is of another storage
pub no_change : (epoch : ℕ) (ss : List Stored) (run : List Entry) (key : Key) → AllByRecursion (IsEntryOf (map stored_decl ss) epoch) run → has_id ss key.storage ≡ false → change_for run key ≡ None
no_change epoch ss [] key all none = refl
no_change epoch ss (e ∷ es) key all none =
    let there = entry_has_id ss e e.value all.0.place in
    elim (cases_eq key.storage e.key.storage) [
      | inl same ↦ let gone : has_id ss key.storage ≡ true = ap (has_id ss) same ∙ there in absurd (cc)
      | inr ne ↦
          let differs : eqb key.storage e.key.storage ≡ false = grind (arith, nat_tests) in
          let other : eq_by_cmp key_cmp key e.key ≡ false = same_key key e.key ∙ ap (λ b. b && eqb key.key e.key.key) differs in
          ap (λ b. cond b (Some e) (change_for es key)) other ∙ no_change epoch ss es key all.1 none
    ]

-- ---- all storages

one_fits : (epoch number : ℕ) (run : List Entry) (decls : List Decl) (d : Decl) (root : ℕ) → AllByRecursion (IsEntryOf decls epoch) run → Rises IsKeyBelow (map entry_key run) → IsDecl d
    → HasItsKeys decls (record { decl = d; root = root }) → IsItsTree decls (record { decl = d; root = root }) → FitStorage d (part_of (id_of d) run)
one_fits epoch number run decls (Array id size) root entries rising is own tree = (is.2, puts_of epoch id size root decls run own tree entries)
one_fits epoch number run decls (Tree id) root entries rising is own tree = (part_rises id run rising, numbers_of decls epoch id run entries)

all_ready : (epoch number : ℕ) (run : List Entry) (pages : List (List ℕ)) (decls : List Decl) (ss : List Stored) → AllByRecursion (IsEntryOf decls epoch) run → Rises IsKeyBelow (map entry_key run)
    → AllByRecursion (IsStored number) ss → AllByRecursion (RootStands pages) ss → AllByRecursion (HasItsKeys decls) ss → AllByRecursion (IsItsTree decls) ss → AllByRecursion (IsReady run pages) ss
all_ready epoch number run pages decls [] entries rising stored roots own trees = tt
all_ready epoch number run pages decls (s ∷ ss) entries rising stored roots own trees = (
  record { stands = roots.0; fit = one_fits epoch number run decls s.decl s.root entries rising stored.0.decl own.0 trees.0 },
  all_ready epoch number run pages decls ss entries rising stored.1 roots.1 own.1 trees.1,
)

pub ready : (pages : List (List ℕ)) (number : ℕ) (contents : Contents) (run : List Entry) (epoch : ℕ) → CanCompose pages number contents run epoch → AllByRecursion (IsReady run pages) contents.storages
ready pages number contents run epoch can =
    let is = can.stands.here.catalogue in
    all_ready epoch number run pages (map stored_decl contents.storages) contents.storages can.entries can.rising is.each can.stands.roots (have_their_keys None contents.storages is.rising) (are_their_trees None contents.storages is.rising)
