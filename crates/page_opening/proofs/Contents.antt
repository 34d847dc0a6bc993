-- What stands at keys at first: what the pages have that the roots lead to.
use Rattle.std.proofs.Common.{◌≡◌, ◌≢◌, ℕ, zero, suc, ◌+◌, ◌-◌, ◌/◌, ◌%◌, ◌^◌, ◌<◌, Bool, true, false, true≢false}
use Rattle.std.proofs.Common.{eqb, eq-eqb, ne_eqb, inl, inr, List, [], ◌∷◌, map, refl, sym, ap, ◌∙◌, subst}
use Rattle.std.proofs.Common.{arith, Some, None, slice_index}
use Rattle.std.specs.Prelude.{cond, length, ⊤}
use Rattle.std.specs.List.{AllByRecursion, Contains}
use Rattle.std.proofs.lemmas.Bool.{cond_both, cond-true, cond-false}
use Rattle.lists.specs.Each.{AreDistinct, all_append}
use Rattle.lists.specs.Elements.{in_none, in_cases}
use Rattle.serial_model.specs.declared.decl.Decl.{Decl}
use Rattle.serial_model.specs.declared.decl.Decl.TheVariants.{Array, Tree}
use Rattle.serial_model.specs.declared.key.Key.{Key}
use Rattle.serial_model.specs.declared.number.Number.{Number}
use Rattle.serial_model.specs.Keys.{id_of}
use Rattle.homes.specs.declared.places.Content.{Content}
use Rattle.homes.specs.declared.places.Home.{Home}
use Rattle.homes.specs.declared.places.Home.TheVariants.{InPage}
use Rattle.homes.specs.declared.places.Span.{Span}
use Rattle.homes.specs.Homes.{same_key}
use Rattle.homes.specs.Laws.{same_key-true}
use Rattle.wire_form.specs.declared.records.Stored.{Stored}
use Rattle.wire_form.specs.Leaves.{array_leaf, value_in, word_in}
use Rattle.wire_form.specs.Words.{number_in}
use Rattle.snapshot_store.specs.declared.place.PagePlace.{PagePlace}
use Rattle.snapshot_store.specs.ArrayPages.{array_found}
use Rattle.snapshot_store.specs.Content.{format_of, IsPageOf, RootStands}
use Rattle.snapshot_store.specs.Places.{places_below, words_at}
use Rattle.snapshot_store.specs.TreePages.{Record, node_of, records_of}
use Rattle.commit_core.specs.Keys.{content_at, nothing, opening_number}
use Rattle.drop_core.specs.declared.table.SnapPage.{SnapPage}
use Rattle.drop_core.specs.declared.table.SnapPage.TheVariants.{Missing, Entries, Children}
use Rattle.drop_core.specs.Opening.{opening_homes, opening_table}
use Rattle.drop_core.specs.Table.{child_of, entry_home, snap_of, snap_step, snap_walk}
use Rattle.engine_rule.specs.Opening.{opening_pairs}
use Rattle.engine_rule.specs.Pairs.{page_content, snap_keys}
use Rattle.engine_rule.specs.Reading.{array_entries, entry_of, key_at, leaf_entries, named_places, page_from}
use Rattle.engine_rule.specs.Reading.{roots_of, snaps_of, tree_entries}
use Rattle.engine_rule.proofs.PairLaws.{look-made}
use Rattle.engine_rule.proofs.ReadLists.{at_mapped}
use Rattle.engine_rule.proofs.ReadOpens.{each_page}
use Rattle.engine_pages.specs.Pages.{decl_of, is_array, is_array_kind}
use Rattle.page_opening.proofs.Named.{Named, each_named}
use Rattle.page_opening.proofs.TreeRecords.{HasNumber, stands_right, tree_numbered}

-- a declared storage is found by its id
pub declared_once : (decls : List Decl) → AreDistinct (map id_of decls) → (d : Decl) → Contains decls d
    → decl_of decls (id_of d) ≡ Some d
declared_once [] distinct d has = absurd (in_none d has)
declared_once (x ∷ decls) distinct d has = elim (in_cases d x decls has) [
  | inl is ↦
      subst (λ (y : Decl). decl_of (x ∷ decls) (id_of y) ≡ Some y) is
      (cond-true (eqb (id_of x) (id_of x)) (Some x) (decl_of decls (id_of x)) (eq-eqb (id_of x) (id_of x) refl))
  | inr more ↦
      cond-false (eqb (id_of x) (id_of d)) (Some x) (decl_of decls (id_of d))
      (ne_eqb (id_of x) (id_of d) (at_mapped (λ (id : ℕ). id_of x ≢ id) id_of decls d distinct.0 more))
      ∙ declared_once decls distinct.1 d more
]

module _ (decls : List Decl) where
  -- The draw fits its bits; a key has no value whose number is that of a record which was never written, and in an
  -- array just such a key has none.
  pub record IsGood (k : Key) (c : Content) : Type 0 where
    pub draw : c.number.draw < 2 ^ 40
    pub never : is_array decls k.storage ≡ true → c.value ≡ None → c.number ≡ opening_number
    pub blank : c.number ≡ opening_number → c.value ≡ None

  good_nothing : (k : Key) → IsGood k nothing
  good_nothing k = record { draw = omega arith; never = λ kind none. refl; blank = λ is. refl }

  no_value : (v : ℕ) → Some v ≡ None → ⊥
  no_value v e = absurd (cc)

  not_blank : (n : ℕ) → eqb n 0 ≡ false → number_in n ≡ opening_number → ⊥
  not_blank n some is =
      let epoch : n / 2 ^ 40 ≡ 0 = ap (λ (x : Number). x.epoch) is in
      let draw : n % 2 ^ 40 ≡ 0 = ap (λ (x : Number). x.draw) is in
      let zero-is : n ≡ 0 = omega (arith, epoch, draw) in
      true≢false (sym (eq-eqb n 0 zero-is) ∙ some)

  -- ---- entries

  abbrev GoodEntry : Key × Content → Type 0
  GoodEntry e = IsGood e.0 e.1

  good_found : (k : Key) (number value : ℕ) (b : Bool) → eqb number 0 ≡ b
      → AllByRecursion GoodEntry (entry_of k (cond b None (Some (record { number = number; value = value }))))
  good_found k number value true is = tt
  good_found k number value false is = (
    record {
      draw = omega arith;
      never = λ kind none. absurd (no_value value none);
      blank = λ same. absurd (not_blank number is same);
    },
    tt,
  )

  good_array : (id low : ℕ) (words : List ℕ) (n : ℕ) → AllByRecursion GoodEntry (array_entries id low words n)
  good_array id low words zero = tt
  good_array id low words (suc i) =
      let number : ℕ = slice_index words (word_in array_leaf i) in
      let value : ℕ = slice_index words (value_in array_leaf i 0) in
      all_append GoodEntry (array_entries id low words i) (entry_of (key_at id low i) (array_found number value))
      (good_array id low words i) (good_found (key_at id low i) number value (eqb number 0) refl)

  good_tree : (id : ℕ) → is_array decls id ≡ false → (records : List Record) → AllByRecursion HasNumber records
      → AllByRecursion GoodEntry (tree_entries id records)
  good_tree id kind [] all = tt
  good_tree id kind (r ∷ records) all = (
    record {
      draw = omega arith;
      never = λ array none. absurd (true≢false (sym array ∙ kind));
      blank = λ same. absurd (all.0 same);
    },
    good_tree id kind records all.1,
  )

  -- ---- pages

  abbrev GoodPage : SnapPage → Type 0
  GoodPage Missing = ⊤
  GoodPage (Entries span entries) = AllByRecursion GoodEntry entries
  GoodPage (Children span children) = ⊤

  module _ (distinct : AreDistinct (map id_of decls)) where
    good_leaf : (decl : Decl) (words : List ℕ) (p : PagePlace) → Contains decls decl → 0 < p.number
        → IsPageOf decl p words → AllByRecursion GoodEntry (leaf_entries decl words p)
    good_leaf (Array id size) words p has some right = good_array id p.low words (p.high + 1 - p.low)
    good_leaf (Tree id) words p has some right =
        good_tree id (ap is_array_kind (declared_once decls distinct (Tree id) has)) (records_of (node_of words))
        (tree_numbered p words some right)

    good_page : (places : List Named) (decl : Decl) (words : List ℕ) (p : PagePlace) (below : List PagePlace)
        → Contains decls decl → 0 < p.number → IsPageOf decl p words → GoodPage (page_from places decl words p below)
    good_page places decl words p [] has some right = good_leaf decl words p has some right
    good_page places decl words p (q ∷ below) has some right = tt

  -- ---- keys

  good_home : (n : ℕ) (entries : List (Key × Content)) (k : Key) → AllByRecursion GoodEntry entries
      → IsGood k (page_content (entry_home n entries k))
  good_home n [] k all = good_nothing k
  good_home n (e ∷ more) k all =
      cond_both (same_key e.0 k) (InPage n e.1) (entry_home n more k) (λ (h : Home). IsGood k (page_content h))
      (λ hit. subst (λ (q : Key). IsGood q e.1) (same_key-true e.0 k hit) all.0)
      (λ miss. good_home n more k all.1)

  good_step : (down : ℕ → Key → Home) (n : ℕ) (k : Key) (q : SnapPage) → GoodPage q
      → ((m : ℕ) → IsGood k (page_content (down m k))) → IsGood k (page_content (snap_step down n k q))
  good_step down n k Missing all below = good_nothing k
  good_step down n k (Entries span entries) all below = good_home n entries k all
  good_step down n k (Children span children) all below = below (child_of children k)

  good_walk : (snaps : ℕ → SnapPage) → ((n : ℕ) → GoodPage (snaps n)) → (f n : ℕ) (k : Key)
      → IsGood k (page_content (snap_walk f snaps n k))
  unfolding snap_walk
  good_walk snaps all zero n k = good_nothing k
  good_walk snaps all (suc f) n k =
      good_step (λ m q. snap_walk f snaps m q) n k (snaps n) (all n) (λ m. good_walk snaps all f m k)

  -- ---- all of it

  pub good_opening : AreDistinct (map id_of decls) → (pages : List (List ℕ)) (ss : List Stored) (slots : ℕ)
      → AllByRecursion (RootStands pages) ss → ((s : Stored) → Contains ss s → Contains decls s.decl) → (k : Key)
      → IsGood k (content_at (opening_pairs (snaps_of pages (named_places pages ss)) (length (named_places pages ss))
      (roots_of (named_places pages ss) ss) slots) k)
  good_opening distinct pages ss slots stand declared k =
      let places : List Named = named_places pages ss in
      let snaps : List (ℕ × SnapPage) = snaps_of pages places in
      let count : ℕ = length places in
      let roots : List (Span × ℕ) = roots_of places ss in
      let homes : Key → Home = opening_homes snaps count roots slots in
      elim (look-made (λ q. page_content (homes q)) nothing (snap_keys snaps) k) [
        | inl is ↦ subst (IsGood k) (sym is)
            (good_walk (snap_of (opening_table snaps count roots slots))
            (each_page pages ss stand GoodPage (λ e at.
            let named = each_named pages ss stand e at in
            let has : Contains decls e.0 =
            subst (λ (d : Decl). Contains decls d) (sym named.led.same) (declared named.of named.has) in
            good_page distinct places e.0 (words_at pages e.1) e.1 (places_below (format_of e.0) pages e.1) has
            named.led.some (stands_right pages e.0 named.led.depth e.1 named.led.stands)) tt)
            (child_of roots k) (child_of roots k) k)
        | inr none ↦ subst (IsGood k) (sym none.0) (good_nothing k)
      ]
