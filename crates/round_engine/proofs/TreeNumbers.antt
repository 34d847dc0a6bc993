-- Each number in a page of a tree is that of a record which is found by its key.
use Rattle.std.proofs.Common.{◌≡◌, ◌≢◌, ◌∙◌, ◌/◌, ◌<◌, ◌≤◌, inl, inr, sym, ap, subst, refl, arith, ℕ, List, [], ◌∷◌}
use Rattle.std.proofs.Common.{get_or, length, map, Option, None, Some}
use Rattle.std.specs.List.{AllByRecursion}
use Rattle.std.proofs.lemmas.Bool.{cases_eq}
use Rattle.serial_model.specs.declared.key.Key.{Key}
use Rattle.serial_model.specs.declared.number.Number.{Number}
use Rattle.serial_model.specs.Numbers.{IsBelow}
use Rattle.homes.specs.declared.places.Content.{Content}
use Rattle.wire_form.specs.Items.{RisesAfter}
use Rattle.wire_form.specs.Pages.{IsTreeRecord, device_header, record_key}
use Rattle.wire_form.specs.Words.{number_in}
use Rattle.wire_form.specs.declared.records.TreeRecord.{TreeRecord}
use Rattle.snapshot_store.specs.declared.place.PagePlace.{PagePlace}
use Rattle.snapshot_store.specs.Places.{Found}
use Rattle.snapshot_store.specs.TreePages.{IsTreePage, Record, node_of, record_for, records_of}
use Rattle.snapshot_store.specs.TreePages.Node.{Leaf}
use Rattle.engine_rule.specs.Reading.{tree_entries}
use Rattle.recovery_core.proofs.GatherLaws.{eq_no, eq_yes}
use Rattle.recovery_core.proofs.GatherTreeLaws.{as_record, leaf_kind, leaf_records, node_inner, records_in}

-- behind a key no record has it
after_none : (k l : ℕ) (rs : List TreeRecord) → k ≤ l → RisesAfter ◌<◌ (Some l) (map record_key rs)
    → record_for (map as_record rs) k ≡ None
after_none k l [] le rising = refl
after_none k l (r ∷ rs) le rising =
    let above : l < r.key = rising.0 in
    let other : r.key ≢ k = omega (arith, above, le) in
    rw (eq_no r.key k other) (after_none k r.key rs (omega (arith, above, le)) rising.1)

module _ (first : Number) where
  -- the record's number is below this one
  abbrev RecordBelow : Record → Type 0
  RecordBelow r = IsBelow (number_in r.found.number) first

  -- and so is what is found
  abbrev FoundBelow : List Record → ℕ → Type 0
  FoundBelow rs key = (f : Found) → record_for rs key ≡ Some f → IsBelow (number_in f.number) first

  each_below : (low high : ℕ) (last : Option ℕ) (rs : List TreeRecord) → AllByRecursion (IsTreeRecord low high) rs
      → RisesAfter ◌<◌ last (map record_key rs)
      → ((key : ℕ) → low ≤ key → key ≤ high → FoundBelow (map as_record rs) key)
      → AllByRecursion RecordBelow (map as_record rs)
  each_below low high last [] all rising found = tt
  each_below low high last (r ∷ rs) all rising found = (
    found r.key all.0.from_low all.0.to_high (as_record r).found (rw (eq_yes r.key r.key refl) refl),
    each_below low high (Some r.key) rs all.1 rising.1 (λ key from to f at. elim (cases_eq r.key key) [
      | inl same ↦
          absurd (let no = sym (after_none key r.key rs (omega (arith, same)) rising.1) ∙ at in cc)
      | inr other ↦ found key from to f (rw (eq_no r.key key other) at)
    ]),
  )

  -- so are the entries of a leaf
  entries_below : (id : ℕ) (rs : List Record) → AllByRecursion RecordBelow rs
      → AllByRecursion (λ (e : Key × Content). IsBelow (e.1).number first) (tree_entries id rs)
  entries_below id [] all = tt
  entries_below id (r ∷ rs) all = (all.0, entries_below id rs all.1)

  -- where what is found of the page's keys is
  pub page_records : (id : ℕ) (p : PagePlace) (words : List ℕ) → 0 < p.number → IsTreePage p words
      → ((key : ℕ) → p.low ≤ key → key ≤ p.high → FoundBelow (records_of (node_of words)) key)
      → AllByRecursion (λ (e : Key × Content). IsBelow (e.1).number first)
      (tree_entries id (records_of (node_of words)))
  page_records id p words some right found = elim (right.page some) [
    | inl leaf ↦
        let node : node_of words ≡ Leaf (records_in words) =
        rw (eq_no (get_or words 0 0 / 256) 2 (leaf_kind p words leaf)) refl in
        let same : records_of (node_of words) ≡ map as_record leaf.0 =
        ap records_of node ∙ leaf_records p.low p.high leaf.0 words leaf.1.most leaf.2 in
        entries_below id (records_of (node_of words))
        (subst (AllByRecursion RecordBelow) (sym same)
        (each_below p.low p.high None leaf.0 leaf.1.each leaf.1.rising
        (λ key from to. subst (λ (rs : List Record). FoundBelow rs key) same (found key from to))))
    | inr inner ↦
        let header : get_or words 0 0 ≡ device_header 2 (length inner.0.pointers) =
        ap (λ (t : List ℕ). get_or t 0 0) inner.2 in
        let kind : get_or words 0 0 / 256 ≡ 2 = omega (arith, header, inner.1.most) in
        let none : records_of (node_of words) ≡ [] = ap records_of (node_inner words kind) in
        subst (λ (rs : List Record). AllByRecursion (λ (e : Key × Content). IsBelow (e.1).number first)
        (tree_entries id rs)) (sym none) tt
  ]
