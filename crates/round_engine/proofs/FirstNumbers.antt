-- Each number in the pages that the roots lead to is that of a record which is found from the root of its storage.
use Rattle.std.proofs.Common.{◌≡◌, ◌∙◌, ◌+◌, ◌-◌, ◌≤◌, ◌<◌, inl, inr, sym, ap, subst, refl, arith, ℕ, zero, suc, Bool}
use Rattle.std.proofs.Common.{true, false, cond, eqb, List, [], ◌∷◌, ◌++◌, Option, None, Some, length, slice_index}
use Rattle.std.specs.Prelude.{nat_le, if◌then◌else◌}
use Rattle.std.specs.List.{AllByRecursion, Contains, flat_map}
use Rattle.std.proofs.lemmas.Bool.{cases_eq, cond-true, le-leb}
use Rattle.std.proofs.lemmas.Bool.Decides.{nat_tests}
use Rattle.lists.specs.Each.{all_append}
use Rattle.lists.specs.Elements.{in_cases, in_head, in_none, in_tail}
use Rattle.serial_model.specs.declared.decl.Decl.{Decl}
use Rattle.serial_model.specs.declared.decl.Decl.TheVariants.{Array, Tree}
use Rattle.serial_model.specs.declared.key.Key.{Key}
use Rattle.serial_model.specs.declared.number.Number.{Number}
use Rattle.serial_model.specs.Numbers.{IsBelow}
use Rattle.homes.specs.declared.places.Content.{Content}
use Rattle.wire_form.specs.Leaves.{array_leaf, value_in, word_in}
use Rattle.wire_form.specs.Words.{number_in}
use Rattle.wire_form.specs.declared.records.Stored.{Stored}
use Rattle.snapshot_store.specs.declared.place.PagePlace.{PagePlace}
use Rattle.snapshot_store.specs.ArrayPages.{array_below, array_found, array_look}
use Rattle.snapshot_store.specs.Content.{deepest, format_of, record_in, root_place, IsPageOf, RootStands}
use Rattle.snapshot_store.specs.TreePages.{IsTreePage, node_of, record_for, records_of, tree_format}
use Rattle.snapshot_store.specs.Places.{Cover, Found, Tiles, at_key, find, here_or_below, places_below, words_at}
use Rattle.engine_rule.specs.Reading.{AreBelow, RecordsAreBelow, array_entries, entry_of, key_at, led_places}
use Rattle.engine_rule.specs.Reading.{named_places, page_at, page_from, page_in}
use Rattle.engine_rule.proofs.ReadLists.{at_each, from_flat, in_either}
use Rattle.engine_rule.proofs.ReadNames.{Stand, led_is, led_stands}
use Rattle.page_opening.proofs.Named.{Named}
use Rattle.round_engine.proofs.TreeNumbers.{page_records}

-- ---- places in a row

low_from : (low high : ℕ) (qs : List PagePlace) (q : PagePlace) → Cover low high qs → Contains qs q → low ≤ q.low
low_from low high [] q cover has = absurd (in_none q has)
low_from low high (x ∷ qs) q cover has =
    elim (in_cases q x qs has) [
      | inl is ↦ subst (λ (y : PagePlace). low ≤ y.low) is (let first = cover.0 in omega (arith, first))
      | inr more ↦
          let later = low_from (x.high + 1) high qs q cover.3 more in let some = cover.1 in omega (arith, later, some)
    ]

high_from : (low high : ℕ) (qs : List PagePlace) (q : PagePlace) → Cover low high qs → Contains qs q → q.high ≤ high
high_from low high [] q cover has = absurd (in_none q has)
high_from low high (x ∷ qs) q cover has =
    elim (in_cases q x qs has) [
      | inl is ↦ subst (λ (y : PagePlace). y.high ≤ high) is cover.2
      | inr more ↦ high_from (x.high + 1) high qs q cover.3 more
    ]

-- what is looked for at a key is looked for at the place that has it
at_one : (f : PagePlace → Option Found) (low high : ℕ) (qs : List PagePlace) (q : PagePlace) (key : ℕ)
    → Cover low high qs → Contains qs q → q.low ≤ key → key ≤ q.high → at_key key f qs ≡ f q
at_one f low high [] q key cover has from to = absurd (in_none q has)
at_one f low high (x ∷ qs) q key cover has from to =
    elim (in_cases q x qs has) [
      | inl is ↦
          let under : key ≤ x.high = subst (λ (y : PagePlace). key ≤ y.high) (sym is) to in
          ap (λ b. let o : Option Found = cond b (f x) (at_key key f qs) in o) (le-leb key x.high under) ∙ ap f is
      | inr more ↦
          let later = low_from (x.high + 1) high qs q cover.3 more in
          let over : nat_le key x.high ≡ false = grind (arith, nat_tests) in
          ap (λ b. let o : Option Found = cond b (f x) (at_key key f qs) in o) over
          ∙ at_one f (x.high + 1) high qs q key cover.3 more from to
    ]

covered : (low high : ℕ) (qs : List PagePlace) (q : PagePlace) → Contains qs q → Tiles low high qs → Cover low high qs
covered low high [] q has tiles = absurd (in_none q has)
covered low high (x ∷ qs) q has tiles = tiles

below_them : (here there : Option Found) (qs : List PagePlace) (q : PagePlace) → Contains qs q
    → here_or_below here there qs ≡ there
below_them here there [] q has = absurd (in_none q has)
below_them here there (x ∷ qs) q has = refl

-- ---- places that a place leads to

module _ (decl : Decl) (pages : List (List ℕ)) where
  abbrev under : PagePlace → List PagePlace
  under p = places_below (format_of decl) pages p

  -- the place is of this storage, and within the other one, and what is found there of its keys is found from the
  -- other one, so many pages down
  pub record IsReached (d : ℕ) (p : PagePlace) (e : Named) : Type 0 where
    pub same : e.0 ≡ decl
    pub depth : ℕ
    pub from : p.low ≤ (e.1).low
    pub to : (e.1).high ≤ p.high
    pub finds : (key : ℕ) → (e.1).low ≤ key → key ≤ (e.1).high
        → find (format_of decl) pages d key p ≡ find (format_of decl) pages (suc depth) key e.1

  none_led : (d : ℕ) (p : PagePlace) → p.number ≡ 0 → led_places decl pages (suc d) p ≡ []
  none_led d p none =
      cond-true (eqb (page_in (length pages) p.number) 0) []
      (flat_map (led_places decl pages d) (under p) ++ (decl, p) ∷ [])
      (ap (λ (n : ℕ). eqb (page_in (length pages) n) 0) none ∙ none_in (nat_le 0 (length pages)))
    where
      none_in : (b : Bool) → eqb (if b then 0 else 0) 0 ≡ true
      none_in true = refl
      none_in false = refl

  further : (d : ℕ) (p q : PagePlace) (e : Named) → Contains (under p) q → Cover p.low p.high (under p)
      → IsReached d q e → IsReached (suc d) p e
  further d p q e has cover r =
      let low = low_from p.low p.high (under p) q cover has in
      let high = high_from p.low p.high (under p) q cover has in
      let from = r.from in
      let to = r.to in record {
        same = r.same;
        depth = r.depth;
        from = omega (arith, low, from);
        to = omega (arith, high, to);
        finds = λ key above low-enough.
            below_them ((format_of decl).look (words_at pages p) p.low key)
            (at_key key (find (format_of decl) pages d key) (under p)) (under p) q has
            ∙ (at_one (find (format_of decl) pages d key) p.low p.high (under p) q key cover has
            (omega (arith, from, above)) (omega (arith, to, low-enough))
            ∙ r.finds key above low-enough);
      }

  itself : (d : ℕ) (p : PagePlace) → IsReached (suc d) p (decl, p)
  itself d p = record {
    same = refl;
    depth = d;
    from = omega arith;
    to = omega arith;
    finds = λ key above low-enough. refl;
  }

  pub reached : (d : ℕ) (p : PagePlace) → Stand pages decl d p → (e : Named) → Contains (led_places decl pages d p) e
      → IsReached d p e
  reached zero p stands e there = absurd stands
  reached (suc d) p stands e there =
      elim (cases_eq p.number 0) [
        | inl none ↦ absurd (in_none e (subst (λ (l : List Named). Contains l e) (none_led d p none) there))
        | inr some ↦
            let flat : List Named = flat_map (led_places decl pages d) (under p) in
            let is = led_is pages decl d p stands some in
            elim (in_either flat ((decl, p) ∷ []) e (subst (λ (l : List Named). Contains l e) is there)) [
              | inl first ↦
                  let r = from_flat (led_places decl pages d) (under p) e first in
                  further d p r.0 e r.1 (covered p.low p.high (under p) r.0 r.1 stands.tiles)
                  (reached d r.0 (at_each (Stand pages decl d) (under p) r.0 stands.below r.1) e r.2)
              | inr last ↦ elim (in_cases e (decl, p) [] last) [
                | inl same ↦ subst (IsReached (suc d) p) same (itself d p)
                | inr none ↦ absurd (in_none e none)
              ]
            ]
      ]

-- ---- numbers

-- each record that is found in the storage has a number below this one
abbrev pub IsOlder : Number → List (List ℕ) → Stored → Type 0
IsOlder first pages s = (key : ℕ) (f : Found) → record_in pages s key ≡ Some f → IsBelow (number_in f.number) first

module _ (first : Number) (pages : List (List ℕ)) (places : List Named) where
  -- so has each entry of a leaf
  abbrev EntryBelow : Key × Content → Type 0
  EntryBelow e = IsBelow (e.1).number first

  one_below : (k : Key) (o : Option Found) → ((f : Found) → o ≡ Some f → IsBelow (number_in f.number) first)
      → AllByRecursion EntryBelow (entry_of k o)
  one_below k None older = tt
  one_below k (Some f) older = (older f refl, tt)

  leaf_below : (id low : ℕ) (words : List ℕ) (n : ℕ)
      → ((i : ℕ) → i < n → (f : Found) → array_look words low (low + i) ≡ Some f → IsBelow (number_in f.number) first)
      → AllByRecursion EntryBelow (array_entries id low words n)
  leaf_below id low words zero older = tt
  leaf_below id low words (suc i) older =
      let record-is : array_found (slice_index words (word_in array_leaf i)) (slice_index words (value_in array_leaf i 0))
      ≡ array_look words low (low + i) =
      ap (λ j. array_found (slice_index words (word_in array_leaf j)) (slice_index words (value_in array_leaf j 0)))
      (omega arith) in
      all_append EntryBelow (array_entries id low words i)
      (entry_of (key_at id low i)
      (array_found (slice_index words (word_in array_leaf i)) (slice_index words (value_in array_leaf i 0))))
      (leaf_below id low words i (λ j less. older j (omega arith)))
      (one_below (key_at id low i)
      (array_found (slice_index words (word_in array_leaf i)) (slice_index words (value_in array_leaf i 0)))
      (λ f is. older i (omega arith) f (sym record-is ∙ is)))

  -- so has each page of an array
  page_below : (s : Stored) (id size : ℕ) → s.decl ≡ Array id size → IsOlder first pages s → (p : PagePlace)
      → IsReached (Array id size) pages deepest (root_place (Array id size) s.root) (Array id size, p)
      → AreBelow first (page_at pages places (Array id size, p))
  page_below s id size decl older p r = by_below (array_below (words_at pages p) p.low p.high) refl
    where
      record_is : (key : ℕ) → p.low ≤ key → key ≤ p.high
          → record_in pages s key ≡ find (format_of (Array id size)) pages (suc r.depth) key p
      record_is key from to =
          let high : key ≤ (root_place (Array id size) s.root).high = let within = r.to in omega (arith, within, to) in
          ap (λ (d : Decl). let o : Option Found = cond (nat_le key (root_place d s.root).high)
          (find (format_of d) pages deepest key (root_place d s.root)) None in o) decl
          ∙ (ap (λ b. let o : Option Found = cond b
          (find (format_of (Array id size)) pages deepest key (root_place (Array id size) s.root)) None in o)
          (le-leb key (root_place (Array id size) s.root).high high)
          ∙ r.finds key from to)

      by_below : (qs : List PagePlace) → array_below (words_at pages p) p.low p.high ≡ qs
          → AreBelow first (page_from places (Array id size) (words_at pages p) p qs)
      by_below (q ∷ qs) is = tt
      by_below [] is =
          leaf_below id p.low (words_at pages p) (p.high + 1 - p.low) (λ i less f at.
          older (p.low + i) f (record_is (p.low + i) (omega arith) (omega (arith, less))
          ∙ (ap (λ (qs : List PagePlace). here_or_below (array_look (words_at pages p) p.low (p.low + i))
          (at_key (p.low + i) (find (format_of (Array id size)) pages r.depth (p.low + i)) qs) qs) is ∙ at)))

  -- and each page of a tree
  page_tree : (s : Stored) (id : ℕ) → s.decl ≡ Tree id → IsOlder first pages s → (p : PagePlace) → 0 < p.number
      → IsTreePage p (words_at pages p)
      → IsReached (Tree id) pages deepest (root_place (Tree id) s.root) (Tree id, p)
      → AreBelow first (page_at pages places (Tree id, p))
  page_tree s id decl older p some right r = by_below (places_below tree_format pages p) refl
    where
      record_is : (key : ℕ) → p.low ≤ key → key ≤ p.high
          → record_in pages s key ≡ find tree_format pages (suc r.depth) key p
      record_is key from to =
          let high : key ≤ (root_place (Tree id) s.root).high = let within = r.to in omega (arith, within, to) in
          ap (λ (d : Decl). let o : Option Found = cond (nat_le key (root_place d s.root).high)
          (find (format_of d) pages deepest key (root_place d s.root)) None in o) decl
          ∙ (ap (λ b. let o : Option Found = cond b
          (find tree_format pages deepest key (root_place (Tree id) s.root)) None in o)
          (le-leb key (root_place (Tree id) s.root).high high)
          ∙ r.finds key from to)

      by_below : (qs : List PagePlace) → places_below tree_format pages p ≡ qs
          → AreBelow first (page_from places (Tree id) (words_at pages p) p qs)
      by_below (q ∷ qs) is = tt
      by_below [] is =
          page_records first id p (words_at pages p) some right (λ key from to f at.
          older key f (record_is key from to
          ∙ (ap (λ (qs : List PagePlace). here_or_below
          (record_for (records_of (node_of (words_at pages p))) key)
          (at_key key (find tree_format pages r.depth key) qs) qs) is ∙ at)))

  by_kind : (s : Stored) (d : Decl) → s.decl ≡ d → IsOlder first pages s → (p : PagePlace) → 0 < p.number
      → IsPageOf d p (words_at pages p)
      → IsReached d pages deepest (root_place d s.root) (d, p) → AreBelow first (page_at pages places (d, p))
  by_kind s (Array id size) decl older p some right r = page_below s id size decl older p r
  by_kind s (Tree id) decl older p some right r = page_tree s id decl older p some right r

  named_below : (s : Stored) → IsOlder first pages s → (e : Named) → 0 < (e.1).number
      → IsPageOf e.0 e.1 (words_at pages e.1)
      → IsReached s.decl pages deepest (root_place s.decl s.root) e → AreBelow first (page_at pages places e)
  named_below s older e some right r =
      let is : (s.decl, e.1) ≡ e = ap (λ (d : Decl). let z : Named = (d, e.1) in z) (sym r.same) in
      subst (λ (z : Named). AreBelow first (page_at pages places z)) is
      (by_kind s s.decl refl older e.1 some (subst (λ (d : Decl). IsPageOf d e.1 (words_at pages e.1)) r.same right)
      (subst (λ (z : Named). IsReached s.decl pages deepest (root_place s.decl s.root) z) (sym is) r))

each_of : {A : Type 0} (P : A → Type 0) (xs : List A) → ((x : A) → Contains xs x → P x) → AllByRecursion P xs
each_of P [] each = tt
each_of P (x ∷ xs) each = (each x (in_head x xs), each_of P xs (λ y has. each y (in_tail y x xs has)))

-- where each record that is found has a number below this one, so has each in the pages that the roots lead to
pub all_below : (first : Number) (pages : List (List ℕ)) (ss : List Stored) → AllByRecursion (RootStands pages) ss
    → ((s : Stored) → Contains ss s → IsOlder first pages s) → RecordsAreBelow first pages (named_places pages ss)
all_below first pages ss stand older =
    each_of (λ (e : Named). AreBelow first (page_at pages (named_places pages ss) e)) (named_places pages ss) (λ e has.
    let s = from_flat (λ (s : Stored). led_places s.decl pages deepest (root_place s.decl s.root)) ss e has in
    let root : PagePlace = root_place (s.0).decl (s.0).root in
    let at = at_each (RootStands pages) ss s.0 stand s.1 in
    let led = led_stands pages (s.0).decl deepest root at e s.2 in
    named_below first pages (named_places pages ss) s.0 (older s.0 s.1) e led.some led.stands.right
    (reached (s.0).decl pages deepest root at e s.2))
