-- The declared storages: an array by its id.
use Rattle.std.proofs.Common.{◌≡◌, ◌≢◌, ℕ, suc, ◌<◌, ◌≤◌, Bool, true, false, true≢false, cond, eqb, eq-eqb, eqb-true}
use Rattle.std.proofs.Common.{ne_eqb}
use Rattle.std.proofs.Common.{List, [], ◌∷◌, length, map, refl, sym, ap, ◌∙◌, subst, arith, inl, inr, Option}
use Rattle.std.proofs.Common.{Some, None}
use Rattle.std.specs.Prelude.{◌==◌, nat_lt}
use Rattle.std.specs.List.{AllByRecursion, Contains, slice_get}
use Rattle.std.specs.Option.{option_map_or}
use Rattle.std.proofs.lemmas.Bool.{and_parts}
use Rattle.std.proofs.lemmas.Bool.Decides.{nat_tests}
use Rattle.std.proofs.lemmas.List.Folds.{find_at}
use Rattle.lists.specs.Each.{AreDistinct, all_at}
use Rattle.lists.specs.Elements.{any_is, at_below, at_in, in_cases, in_none}
use Rattle.serial_model.specs.declared.decl.Decl.{Decl}
use Rattle.serial_model.specs.declared.decl.Decl.TheVariants.{Array, Tree}
use Rattle.serial_model.specs.declared.key.Key.{Key}
use Rattle.serial_model.specs.Decls.{AreDecls, IsDecl}
use Rattle.serial_model.specs.Keys.{id_of, has_key_of}
use Rattle.homes.specs.declared.places.Span.{Span}
use Rattle.drop_core.specs.Table.{no_span}
use Rattle.snapshot_store.specs.Content.{deepest, format_of, last_index, root_place, IsPageOf}
use Rattle.snapshot_store.specs.Places.{StandsTo}
use Rattle.engine_rule.specs.Reading.{span_of}
use Rattle.engine_pages.specs.Indexes.{index_of}
use Rattle.engine_pages.specs.Pages.{decl_of, is_array, is_array_kind, root_span}
use Rattle.engine_pages.specs.Pointers.{StandsFor}
use Rattle.engine_pages.specs.Resident.{place_for}
use Rattle.array_pages.specs.Spans.{HasArray, IsArrayAt, IsArrayKey, IsSizeAt}

all_of : (P : ℕ → Type 0) (xs : List Decl) (d : Decl) → AllByRecursion P (map id_of xs) → Contains xs d → P (id_of d)
all_of P [] d all has = absurd (in_none d has)
all_of P (x ∷ xs) d all has =
    elim (in_cases d x xs has) [
      | inl e ↦ subst (λ (z : Decl). P (id_of z)) e all.0
      | inr more ↦ all_of P xs d all.1 more
    ]

-- an id is that of one storage
pub decl_in : (decls : List Decl) (d : Decl) → AreDistinct (map id_of decls) → Contains decls d
    → decl_of decls (id_of d) ≡ Some d
decl_in [] d apart has = absurd (in_none d has)
decl_in (x ∷ xs) d apart has =
    elim (in_cases d x xs has) [
      | inl e ↦
          subst (λ (z : Decl). decl_of (x ∷ xs) (id_of z) ≡ Some z) e
          (ap (λ (b : Bool). cond b (Some x) (decl_of xs (id_of x))) (eq-eqb (id_of x) (id_of x) refl))
      | inr more ↦
          ap (λ (b : Bool). cond b (Some x) (decl_of xs (id_of d)))
          (ne_eqb (id_of x) (id_of d) (all_of (λ i. id_of x ≢ i) xs d apart.0 more))
          ∙ decl_in xs d apart.1 more
    ]

pub array_in : (decls : List Decl) (id root size : ℕ) → AreDecls decls → IsArrayAt decls id root size
    → decl_of decls id ≡ Some (Array id size)
array_in decls id root size are at =
    decl_in decls (Array id size) are.distinct (at_in decls root (Array id size) at.there)

pub kind_at : (decls : List Decl) (id root size : ℕ) → AreDecls decls → IsArrayAt decls id root size
    → is_array decls id ≡ true
kind_at decls id root size are at = ap is_array_kind (array_in decls id root size are at)

-- the keys of its root
pub root_at_span : (decls : List Decl) (id root size : ℕ) → IsArrayAt decls id root size
    → root_span decls root ≡ (let s : Span = record { storage = id; low = 0; high = last_index size } in s)
root_at_span decls id root size at =
    ap (λ (o : Option Decl). option_map_or (λ (d : Decl). span_of (id_of d) (root_place d 0)) o no_span) at.there

pub within_at : (decls : List Decl) (id root size : ℕ) → IsArrayAt decls id root size → root < length decls
within_at decls id root size at = at_below decls root (Array id size) at.there

pub few_at : (decls : List Decl) (id root size : ℕ) → AreDecls decls → IsArrayAt decls id root size → root < 16
few_at decls id root size are at =
    let less = within_at decls id root size at in let few = are.few in omega (arith, less, few)

pub size_at : (decls : List Decl) (id root size : ℕ) → AreDecls decls → IsArrayAt decls id root size → size ≤ 131072
size_at decls id root size are at = (all_at IsDecl decls root (Array id size) are.each at.there).2

-- the array has the key
pub key_at : (decls : List Decl) (k : Key) (root size : ℕ) → AreDecls decls → IsArrayKey decls k
    → IsArrayAt decls k.storage root size → k.key < size
key_at decls k root size are fits at =
    let r = any_is (has_key_of k) decls fits.has in by_decl r.0 r.1 r.2
  where
    by_decl : (d : Decl) → Contains decls d → has_key_of k d ≡ true → k.key < size
    by_decl (Array i n) has is =
        let parts = and_parts (eqb i k.storage) (nat_lt k.key n) is in
        let same : Some (Array i n) ≡ Some (Array k.storage size) =
        sym (decl_in decls (Array i n) are.distinct has)
        ∙ (ap (decl_of decls) (eqb-true i k.storage parts.0) ∙ array_in decls k.storage root size are at) in
        let size-is : n ≡ size = cc in
        let less : nat_lt k.key n ≡ true = parts.1 in
        let below : k.key < n = grind (arith, nat_tests) in subst (λ m. k.key < m) size-is below
    by_decl (Tree i) has is =
        let other : Some (Tree i) ≡ Some (Array k.storage size) =
        sym (decl_in decls (Tree i) are.distinct has)
        ∙ (ap (decl_of decls) (eqb-true i k.storage is) ∙ array_in decls k.storage root size are at) in absurd (cc)

here_at : (d : Decl) (ds : List Decl) (id : ℕ) → id_of d ≡ id → is_array_kind (Some d) ≡ true → HasArray (d ∷ ds) id
here_at (Array i n) ds id same kind = (0, n, record { there = ap (λ j. Some (Array j n)) same })
here_at (Tree i) ds id same kind = absurd (true≢false (sym kind))

-- such an array is there
pub array_there : (decls : List Decl) (id : ℕ) → is_array decls id ≡ true → HasArray decls id
array_there [] id is = absurd (true≢false (sym is))
array_there (d ∷ ds) id is = by_test (eqb (id_of d) id) refl (λ more. array_there ds id more)
  where
    by_test : (b : Bool) → eqb (id_of d) id ≡ b → (is_array ds id ≡ true → HasArray ds id) → HasArray (d ∷ ds) id
    by_test true e rest =
        here_at d ds id (eqb-true (id_of d) id e)
        (subst (λ (b : Bool). is_array_kind (cond b (Some d) (decl_of ds id)) ≡ true) e is)
    by_test false e rest =
        let more = rest (subst (λ (b : Bool). is_array_kind (cond b (Some d) (decl_of ds id)) ≡ true) e is) in
        (suc more.0, more.1, record { there = more.2.there })

-- a storage that is found by an id has it
pub found_id : (decls : List Decl) (id : ℕ) (d : Decl) → decl_of decls id ≡ Some d → id_of d ≡ id
found_id [] id d is = cc
found_id (x ∷ xs) id d is = by_test (eqb (id_of x) id) refl is (λ later. found_id xs id d later)
  where
    by_test : (b : Bool) → eqb (id_of x) id ≡ b
        → (let o : Option Decl = cond b (Some x) (decl_of xs id) in o ≡ Some d)
        → (decl_of xs id ≡ Some d → id_of d ≡ id) → id_of d ≡ id
    by_test true hit is rest = let same : x ≡ d = cc in ap id_of (sym same) ∙ eqb-true (id_of x) id hit
    by_test false miss is rest = rest is

-- the first storage with the id is the one that is found by it
pub at_index : (decls : List Decl) (id : ℕ) → decl_of decls id ≡ slice_get decls (index_of decls id)
at_index decls id = find_at (λ (d : Decl). id_of d == id) decls

-- the first storage with an array's id is the array
pub array_first : (decls : List Decl) (id : ℕ) → is_array decls id ≡ true
    → (size : ℕ) × IsArrayAt decls id (index_of decls id) size
array_first decls id is = by_found (decl_of decls id) refl is
  where
    by_found : (o : Option Decl) → decl_of decls id ≡ o → is_array_kind o ≡ true
        → (size : ℕ) × IsArrayAt decls id (index_of decls id) size
    by_found None found kind = absurd (true≢false (sym kind))
    by_found (Some (Array i n)) found kind =
        let same : i ≡ id = found_id decls id (Array i n) found in
        (n, record { there = sym (at_index decls id) ∙ (found ∙ ap (λ (j : ℕ). Some (Array j n)) same) })
    by_found (Some (Tree i)) found kind = absurd (true≢false (sym kind))

-- the same of the index that was found
pub array_found : (decls : List Decl) (id root : ℕ) → is_array decls id ≡ true → root ≡ index_of decls id
    → (size : ℕ) × IsArrayAt decls id root size
array_found decls id root is found =
    subst (λ (r : ℕ). (size : ℕ) × IsArrayAt decls id r size) (sym found) (array_first decls id is)

-- it is the index of a storage
pub index_within : (decls : List Decl) (id root : ℕ) → is_array decls id ≡ true → root ≡ index_of decls id
    → root < length decls
index_within decls id root is found =
    let at = array_found decls id root is found in within_at decls id root at.0 at.1

-- the size that stands there is the array's
pub size_found : (decls : List Decl) (id root n : ℕ) → is_array decls id ≡ true → root ≡ index_of decls id
    → IsSizeAt decls root (Some n) → IsArrayAt decls id root n
size_found decls id root n is found here =
    let at = array_found decls id root is found in
    let same : Some (Array here.0 n) ≡ Some (Array id at.0) = sym here.1 ∙ at.1.there in
    let size : at.0 ≡ n = cc in subst (λ (m : ℕ). IsArrayAt decls id root m) size at.1

-- no tree stands there
pub no_tree_found : (decls : List Decl) (id root : ℕ) → is_array decls id ≡ true → root ≡ index_of decls id
    → IsSizeAt decls root None → ⊥
no_tree_found decls id root is found here =
    let at = array_found decls id root is found in
    let same : Some (Tree here.0) ≡ Some (Array id at.0) = sym here.1 ∙ at.1.there in cc

-- a page that stands for keys of it stands as a page of an array of its size
pub record StandsIn (pages : List (List ℕ)) (id size : ℕ) (span : Span) (n : ℕ) : Type 0 where
  pub depth : ℕ
  pub most : depth ≤ deepest
  pub stands : StandsTo (format_of (Array id size)) (IsPageOf (Array id size)) pages depth (place_for span n)

pub stands_in : (decls : List Decl) (pages : List (List ℕ)) (id root size : ℕ) (span : Span) (n : ℕ) → AreDecls decls
    → IsArrayAt decls id root size → span.storage ≡ id → StandsFor decls pages span n → StandsIn pages id size span n
stands_in decls pages id root size span n are at storage h =
    let same : Some h.0 ≡ Some (Array id size) =
    sym (decl_in decls h.0 are.distinct h.2.declared)
    ∙ (ap (decl_of decls) (h.1 ∙ storage) ∙ array_in decls id root size are at) in
    let decl : h.0 ≡ Array id size = cc in record {
      depth = h.2.depth;
      most = h.2.most;
      stands = subst (λ (d : Decl). StandsTo (format_of d) (IsPageOf d) pages h.2.depth (place_for span n)) decl
          h.2.stands;
    }
