-- The roots' pointers at first.
use Rattle.std.proofs.Common.{◌≡◌, ℕ, zero, suc, ◌+◌, ◌<◌, ◌≤◌, Bool, true, false, cond, eq-eqb, ne_eqb, List, [], ◌∷◌, length}
use Rattle.std.proofs.Common.{get_or, map, refl, sym, ap, ◌∙◌, arith, Some, None, slice_get}
use Rattle.std.specs.Prelude.{nat_lt}
use Rattle.std.specs.List.{Contains}
use Rattle.std.specs.Option.{option_map, option_map_or}
use Rattle.std.proofs.lemmas.Bool.Decides.{nat_tests}
use Rattle.lists.specs.Elements.{in_head, in_tail}
use Rattle.serial_model.specs.declared.decl.Decl.{Decl}
use Rattle.serial_model.specs.declared.decl.Decl.TheVariants.{Array, Tree}
use Rattle.serial_model.specs.Keys.{id_of}
use Rattle.homes.specs.declared.places.At.TheVariants.{Root}
use Rattle.homes.specs.declared.places.Span.{Span}
use Rattle.homes.specs.Homes.{look, same_at}
use Rattle.wire_form.specs.declared.records.Stored.{Stored}
use Rattle.snapshot_store.specs.Content.{root_place}
use Rattle.drop_core.specs.declared.table.Pointer.{Pointer}
use Rattle.drop_core.specs.Opening.{root_pointer, root_pointers}
use Rattle.drop_core.specs.Table.{no_pointer, no_span}
use Rattle.engine_rule.specs.Reading.{name_of, roots_of, span_of, storages}
use Rattle.engine_pages.specs.Pages.{root_span}
use Rattle.page_opening.proofs.Named.{Named}

-- what stands at the r-th root of these, which begin with this index
abbrev pub rooted : List (Span × ℕ) → ℕ → Pointer
rooted entries r = option_map_or (λ e. root_pointer e.0 e.1) (slice_get entries r) no_pointer

pub look_root : (entries : List (Span × ℕ)) (i r : ℕ)
    → look same_at no_pointer (root_pointers i entries) (Root (i + r)) ≡ rooted entries r
look_root [] i r = refl
look_root (e ∷ more) i zero =
    ap (λ (b : Bool). cond b (root_pointer e.0 e.1) (look same_at no_pointer (root_pointers (suc i) more) (Root (i + 0))))
    (eq-eqb i (i + 0) (omega arith))
look_root (e ∷ more) i (suc r) =
    let next : i + suc r ≡ suc i + r = omega arith in
    ap (λ (b : Bool). cond b (root_pointer e.0 e.1) (look same_at no_pointer (root_pointers (suc i) more) (Root (i + suc r))))
    (ne_eqb i (i + suc r) (λ q. omega (arith, q)))
    ∙ (ap (λ k. look same_at no_pointer (root_pointers (suc i) more) (Root k)) next ∙ look_root more (suc i) r)

-- what a list's element becomes
at_map : {A B : Type 0} (f : A → B) (xs : List A) (r : ℕ) → slice_get (map f xs) r ≡ option_map f (slice_get xs r)
at_map f [] r = refl
at_map f (x ∷ xs) zero = refl
at_map f (x ∷ xs) (suc r) = at_map f xs r

-- ---- storages with their roots

-- The r-th storage is declared, and has this root.
pub record IsStored (decls : List Decl) (roots : List ℕ) (r : ℕ) : Type 0 where
  pub decl : Decl
  pub at : slice_get decls r ≡ Some decl
  pub stored : slice_get (storages decls roots) r ≡ Some (record { decl = decl; root = get_or roots r 0 })
  pub has : Contains (storages decls roots) (record { decl = decl; root = get_or roots r 0 })

pub stored_at : (decls : List Decl) (roots : List ℕ) (r : ℕ) → length roots ≡ length decls → r < length decls
    → IsStored decls roots r
stored_at [] roots r same less = absurd (omega arith)
stored_at (d ∷ decls) [] r same less = absurd (omega (arith, same))
stored_at (d ∷ decls) (x ∷ roots) zero same less =
    record { decl = d; at = refl; stored = refl; has = in_head (record { decl = d; root = x }) (storages decls roots) }
stored_at (d ∷ decls) (x ∷ roots) (suc r) same less =
    let rest = stored_at decls roots r (omega (arith, same)) (omega (arith, less)) in record {
      decl = rest.decl;
      at = rest.at;
      stored = rest.stored;
      has = in_tail (record { decl = rest.decl; root = get_or roots r 0 }) (record { decl = d; root = x }) (storages decls roots) rest.has;
    }

-- there are no others
none_behind : (decls : List Decl) (roots : List ℕ) (r : ℕ) → length decls ≤ r
    → (slice_get decls r ≡ None) × (slice_get (storages decls roots) r ≡ None)
none_behind [] roots r most = (refl, refl)
none_behind (d ∷ decls) [] zero most = absurd (omega arith)
none_behind (d ∷ decls) (x ∷ roots) zero most = absurd (omega arith)
none_behind (d ∷ decls) [] (suc r) most = ((none_behind decls [] r (omega (arith, most))).0, refl)
none_behind (d ∷ decls) (x ∷ roots) (suc r) most = none_behind decls roots r (omega (arith, most))

-- ---- pointers

-- a root is over all keys of its storage, whatever page it leads to
same_keys : (decl : Decl) (root : ℕ) → span_of (id_of decl) (root_place decl root) ≡ span_of (id_of decl) (root_place decl 0)
same_keys (Array id size) root = refl
same_keys (Tree id) root = refl

module _ (places : List Named) (decls : List Decl) (roots : List ℕ) where
  abbrev root_entry : Stored → Span × ℕ
  root_entry s = (span_of (id_of s.decl) (root_place s.decl s.root), name_of places s.decl (root_place s.decl s.root))

  abbrev entries : List (Span × ℕ)
  entries = roots_of places (storages decls roots)

  -- the pointer of a declared storage's root
  pub rooted_is : (r : ℕ) (s : IsStored decls roots r)
      → rooted entries r
      ≡ root_pointer (span_of (id_of s.decl) (root_place s.decl (get_or roots r 0)))
      (name_of places s.decl (root_place s.decl (get_or roots r 0)))
  rooted_is r s =
      ap (λ o. option_map_or (λ (e : Span × ℕ). root_pointer e.0 e.1) o no_pointer)
      (at_map root_entry (storages decls roots) r ∙ ap (option_map root_entry) s.stored)

  pub rooted_none : (r : ℕ) → length decls ≤ r → rooted entries r ≡ no_pointer
  rooted_none r most =
      ap (λ o. option_map_or (λ (e : Span × ℕ). root_pointer e.0 e.1) o no_pointer)
      (at_map root_entry (storages decls roots) r ∙ ap (option_map root_entry) (none_behind decls roots r most).1)

  root_stored : (r : ℕ) → IsStored decls roots r
      → ((rooted entries r).slot ≡ None) × ((rooted entries r).span ≡ root_span decls r)
  root_stored r s = (
    ap (λ (q : Pointer). q.slot) (rooted_is r s),
    ap (λ (q : Pointer). q.span) (rooted_is r s)
        ∙ (same_keys s.decl (get_or roots r 0)
        ∙ sym (ap (λ o. option_map_or (λ (d : Decl). span_of (id_of d) (root_place d 0)) o no_span) s.at)),
  )

  root_behind : (r : ℕ) → length decls ≤ r
      → ((rooted entries r).slot ≡ None) × ((rooted entries r).span ≡ root_span decls r)
  root_behind r far = (
    ap (λ (q : Pointer). q.slot) (rooted_none r far),
    ap (λ (q : Pointer). q.span) (rooted_none r far)
        ∙ sym (ap (λ o. option_map_or (λ (d : Decl). span_of (id_of d) (root_place d 0)) o no_span)
        (none_behind decls roots r far).0),
  )

  -- none leads to a slot, and each is over the keys of its storage
  pub root_spans : length roots ≡ length decls → (r : ℕ)
      → ((rooted entries r).slot ≡ None) × ((rooted entries r).span ≡ root_span decls r)
  root_spans same r = by_test (nat_lt r (length decls)) refl
    where
      by_test : (b : Bool) → nat_lt r (length decls) ≡ b
          → ((rooted entries r).slot ≡ None) × ((rooted entries r).span ≡ root_span decls r)
      by_test true less = root_stored r (stored_at decls roots r same (grind (arith, nat_tests)))
      by_test false most = root_behind r (grind (arith, nat_tests))
