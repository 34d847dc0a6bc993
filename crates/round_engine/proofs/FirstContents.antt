-- An engine opens with what the pages have: what stands at a key at first is the record that is found from the root of
-- its storage.
use Rattle.std.proofs.Common.{◌≡◌, ◌≢◌, ◌∙◌, ◌+◌, ◌≤◌, ◌<◌, inl, inr, sym, ap, subst, refl, arith, ℕ, suc, Bool, true}
use Rattle.std.proofs.Common.{false, cond, true≢false, eqb, eqb-true, eq-eqb, ne_eqb, List, [], ◌∷◌, None, map, Some}
use Rattle.std.proofs.Common.{length, slice_get}
use Rattle.std.specs.Prelude.{nat_le}
use Rattle.std.specs.List.{AllByRecursion, Contains}
use Rattle.std.proofs.lemmas.Bool.{cases_Bool, le-leb, leb-true}
use Rattle.lists.specs.Each.{AreDistinct}
use Rattle.lists.specs.Elements.{at_in, in_cases, in_head, in_none, in_tail}
use Rattle.serial_model.specs.declared.decl.Decl.{Decl}
use Rattle.serial_model.specs.declared.decl.Decl.TheVariants.{Array, Tree}
use Rattle.serial_model.specs.declared.key.Key.{Key}
use Rattle.serial_model.specs.Decls.{AreDecls}
use Rattle.serial_model.specs.Keys.{id_of}
use Rattle.homes.specs.declared.places.Content.{Content}
use Rattle.homes.specs.declared.places.Span.{Span}
use Rattle.homes.specs.Homes.{in_span}
use Rattle.homes.specs.Laws.{in_span-from, in_span-parts}
use Rattle.wire_form.specs.Pages.{stored_decl}
use Rattle.wire_form.specs.declared.records.Stored.{Stored}
use Rattle.snapshot_store.specs.declared.place.PagePlace.{PagePlace}
use Rattle.snapshot_store.specs.Content.{deepest, format_of, record_in, root_place, RootStands}
use Rattle.snapshot_store.specs.Places.{Format, find}
use Rattle.commit_core.specs.Keys.{content_at, nothing}
use Rattle.drop_core.specs.declared.table.Table.{Table}
use Rattle.drop_core.specs.Event.{leads_down}
use Rattle.drop_core.specs.Opening.{opening_homes, opening_table}
use Rattle.drop_core.specs.Table.{child_of, snap_home, snap_of}
use Rattle.engine_rule.specs.Opening.{opening_pairs}
use Rattle.engine_rule.specs.Pairs.{page_content, snap_keys}
use Rattle.engine_rule.specs.Reading.{name_of, named_places, page_at, roots_of, snaps_of, span_of}
use Rattle.engine_rule.proofs.PairLaws.{home-none, look-made}
use Rattle.engine_rule.proofs.ReadOpens.{published_right}
use Rattle.engine_pages.specs.BeginningLaws.{snap_below, snap_named}
use Rattle.engine_pages.specs.Pages.{decl_of, is_array_kind, is_tree_kind}
use Rattle.engine_pages.specs.Resident.{ArePages, IsNamed, Published, found_content}
use Rattle.dual_pointer.proofs.Below.{contents_below}
use Rattle.dual_pointer.proofs.SnapWords.{home_zero}
use Rattle.dual_pointer.proofs.TreeBelow.{tree_contents}
use Rattle.page_opening.proofs.Contents.{declared_once}
use Rattle.page_opening.proofs.Named.{IsNamedIn, Named, each_named, name_some, root_named}

-- the record that the pages have at a key of the storage with its id
abbrev pub content_in : List (List ℕ) → List Stored → Key → Content
content_in pages [] k = nothing
content_in pages (s ∷ more) k =
    cond (eqb (id_of s.decl) k.storage) (found_content (record_in pages s k.key)) (content_in pages more k)

-- where a storage's root stands
abbrev root_of : Stored → PagePlace
root_of s = root_place s.decl s.root

-- the keys of a storage
abbrev span_in : Stored → Span
span_in s = span_of (id_of s.decl) (root_of s)

-- ---- storages

root_low : (d : Decl) (root : ℕ) → (root_place d root).low ≡ 0
root_low (Array id size) root = refl
root_low (Tree id) root = refl

-- a stored one is among those that are declared
pub declared_in : (ss : List Stored) (s : Stored) → Contains ss s → Contains (map stored_decl ss) s.decl
declared_in [] s has = absurd (in_none s has)
declared_in (x ∷ ss) s has =
    elim (in_cases s x ss has) [
      | inl is ↦ subst (λ (y : Stored). Contains (map stored_decl (x ∷ ss)) y.decl) is
          (in_head x.decl (map stored_decl ss))
      | inr more ↦ in_tail s.decl x.decl (map stored_decl ss) (declared_in ss s more)
    ]

-- no storage of these has the id
none_later : (pages : List (List ℕ)) (xs : List Stored) (k : Key)
    → AllByRecursion (λ i. k.storage ≢ i) (map id_of (map stored_decl xs)) → content_in pages xs k ≡ nothing
none_later pages [] k all = refl
none_later pages (x ∷ xs) k all =
    ap (λ b. let c : Content = cond b (found_content (record_in pages x k.key)) (content_in pages xs k) in c)
    (ne_eqb (id_of x.decl) k.storage (λ e. all.0 (sym e)))
    ∙ none_later pages xs k all.1

-- ---- the pages as the machine has them

module _ (decls : List Decl) (pages : List (List ℕ)) (ss : List Stored) (slots : ℕ) (declared : AreDecls decls)
    (stand : AllByRecursion (RootStands pages) ss)
    (among : (s : Stored) → Contains ss s → Contains decls s.decl) where
  abbrev places : List Named
  places = named_places pages ss

  abbrev published : Published
  published = record { pages = pages; places = places }

  abbrev roots : List (Span × ℕ)
  roots = roots_of places ss

  abbrev table : Table
  table = opening_table (snaps_of pages places) (length places) roots slots

  named : (n : ℕ) (e : Named) → slice_get places n ≡ Some e → IsNamedIn pages ss e
  named n e at = each_named pages ss stand e (at_in places n e at)

  are_pages : ArePages decls published table
  are_pages = record {
    count = refl;
    none = snap_below (page_at pages places) 1 0 places (omega arith);
    says = λ n e at.
        let next : suc n ≡ 1 + n = omega arith in
        ap (λ i. snap_of table i) next ∙ snap_named (page_at pages places) 1 places n e at;
    stand = λ n e at. let r = named n e at in record {
      declared = subst (λ (d : Decl). Contains decls d) (sym r.led.same) (among r.of r.has);
      there = r.led.some;
      depth = r.led.depth;
      most = r.led.most;
      stands = r.led.stands;
    };
    below = λ n e at q has some. name_some places e.0 q some ((named n e at).led.below q has some);
  }

  down : (i : ℕ) → 0 < i → i ≤ table.published → leads_down i (snap_of table i) ≡ true
  down i some most = (published_right pages ss stand).down i some most

  -- ---- one storage

  -- a key below a root has what is found from there
  below_root : (s : Stored) → Contains ss s → (k : Key) → in_span (span_in s) k ≡ true
      → page_content (snap_home table (name_of places s.decl (root_of s)) k)
      ≡ found_content (find (format_of s.decl) pages deepest k.key (root_of s))
  below_root s has k within = by_kind s.decl refl
    where
      name-is : IsNamed places (span_in s) (root_of s).number (name_of places s.decl (root_of s))
      name-is = record {
        decl = s.decl;
        storage = refl;
        is = refl;
        there = λ some. name_some places s.decl (root_of s) some (root_named pages ss stand s has some);
      }

      once : decl_of decls (id_of s.decl) ≡ Some s.decl
      once = declared_once decls declared.distinct s.decl (among s has)

      by_kind : (d : Decl) → s.decl ≡ d
          → page_content (snap_home table (name_of places s.decl (root_of s)) k)
          ≡ found_content (find (format_of s.decl) pages deepest k.key (root_of s))
      by_kind (Array id size) is =
          contents_below decls published table declared are_pages down (span_in s) (root_of s).number
          (name_of places s.decl (root_of s)) name-is
          (ap is_array_kind once ∙ ap (λ (d : Decl). is_array_kind (Some d)) is) k within
          ∙ ap (λ (F : Format). found_content (find F pages deepest k.key (root_of s))) (sym (ap format_of is))
      by_kind (Tree id) is =
          tree_contents decls published table declared are_pages down (span_in s) (root_of s).number
          (name_of places s.decl (root_of s)) name-is
          (ap is_tree_kind once ∙ ap (λ (d : Decl). is_tree_kind (Some d)) is) k within
          ∙ ap (λ (F : Format). found_content (find F pages deepest k.key (root_of s))) (sym (ap format_of is))

  -- a key of a storage's range is below its root
  inside : (s : Stored) (k : Key) → eqb (id_of s.decl) k.storage ≡ true → nat_le k.key (root_of s).high ≡ true
      → in_span (span_in s) k ≡ true
  inside s k same under =
      in_span-from (span_in s) k (sym (eqb-true (id_of s.decl) k.storage same))
      (let low = root_low s.decl s.root in omega (arith, low)) (leb-true k.key (root_of s).high under)

  apart : (s : Stored) (k : Key) → eqb (id_of s.decl) k.storage ≡ false → in_span (span_in s) k ≡ false
  apart s k other = by_test (in_span (span_in s) k) refl
    where
      by_test : (b : Bool) → in_span (span_in s) k ≡ b → in_span (span_in s) k ≡ false
      by_test false is = is
      by_test true is =
          absurd (true≢false (sym (eq-eqb (id_of s.decl) k.storage (sym (in_span-parts (span_in s) k is).0)) ∙ other))

  above : (s : Stored) (k : Key) → nat_le k.key (root_of s).high ≡ false → in_span (span_in s) k ≡ false
  above s k over = by_test (in_span (span_in s) k) refl
    where
      by_test : (b : Bool) → in_span (span_in s) k ≡ b → in_span (span_in s) k ≡ false
      by_test false is = is
      by_test true is =
          absurd (true≢false (sym (le-leb k.key (root_of s).high (in_span-parts (span_in s) k is).2) ∙ over))

  -- ---- all of them

  -- what stands below the roots at a key
  abbrev below : List Stored → Key → Content
  below xs k = page_content (snap_home table (child_of (roots_of places xs) k) k)

  -- where this root has the key, or another one
  abbrev below_by : Bool → Stored → List Stored → Key → Content
  below_by b s xs k =
      page_content (snap_home table (cond b (name_of places s.decl (root_of s)) (child_of (roots_of places xs) k)) k)

  abbrev in_by : Bool → Stored → List Stored → Key → Content
  in_by b s xs k = cond b (found_content (record_in pages s k.key)) (content_in pages xs k)

  abbrev record_by : Bool → Stored → Key → Content
  record_by b s k = found_content (cond b (find (format_of s.decl) pages deepest k.key (root_of s)) None)

  by_roots : (xs : List Stored) → AreDistinct (map id_of (map stored_decl xs))
      → ((s : Stored) → Contains xs s → Contains ss s) → (k : Key) → below xs k ≡ content_in pages xs k
  by_roots [] distinct into k = ap page_content (home_zero table k)
  by_roots (s ∷ xs) distinct into k =
      let rest : below xs k ≡ content_in pages xs k =
      by_roots xs distinct.1 (λ x has. into x (in_tail x s xs has)) k in
      elim (cases_Bool (eqb (id_of s.decl) k.storage)) [
        | inr other ↦
            ap (λ b. below_by b s xs k) (apart s k other) ∙ (rest ∙ sym (ap (λ b. in_by b s xs k) other))
        | inl same ↦ elim (cases_Bool (nat_le k.key (root_of s).high)) [
          | inl under ↦
              let within = inside s k same under in
              ap (λ b. below_by b s xs k) within
              ∙ (below_root s (into s (in_head s xs)) k within
              ∙ sym (ap (λ b. in_by b s xs k) same ∙ ap (λ b. record_by b s k) under))
          | inr over ↦
              let others : AllByRecursion (λ i. k.storage ≢ i) (map id_of (map stored_decl xs)) =
              subst (λ i. AllByRecursion (λ j. i ≢ j) (map id_of (map stored_decl xs)))
              (eqb-true (id_of s.decl) k.storage same) distinct.0 in
              ap (λ b. below_by b s xs k) (above s k over)
              ∙ (rest
              ∙ (none_later pages xs k others ∙ sym (ap (λ b. in_by b s xs k) same ∙ ap (λ b. record_by b s k) over)))
        ]
      ]

  -- a key that no page has an entry of has nothing
  first_is : (k : Key) → content_at (opening_pairs (snaps_of pages places) (length places) roots slots) k ≡ below ss k
  first_is k =
      elim (look-made (λ (q : Key). page_content (opening_homes (snaps_of pages places) (length places) roots slots q))
      nothing (snap_keys (snaps_of pages places)) k) [
        | inl is ↦ is
        | inr none ↦ none.0 ∙ sym (ap page_content (home-none table k none.1 (child_of roots k)))
      ]

  -- what stands at a key at first is the record of the pages
  pub opens_with : AreDistinct (map id_of (map stored_decl ss)) → (k : Key)
      → content_at (opening_pairs (snaps_of pages places) (length places) roots slots) k ≡ content_in pages ss k
  opens_with distinct k = first_is k ∙ by_roots ss distinct (λ s has. has) k
