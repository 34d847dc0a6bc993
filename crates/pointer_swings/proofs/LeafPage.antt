-- What a snapshot page that is a leaf of a tree has for a key.
use Rattle.std.proofs.Common.{◌≡◌, inl, inr, ℕ, Bool, true, false, true≢false, cond, eqb, eq-eqb, not, List, [], ◌∷◌, refl, sym, ap, ◌∙◌}
use Rattle.std.proofs.Common.{Option, Some, None}
use Rattle.std.specs.Prelude.{◌&&◌, ◌||◌}
use Rattle.std.specs.List.{Contains}
use Rattle.std.proofs.lemmas.Bool.{cases_Bool}
use Rattle.lists.specs.Elements.{in_head, in_tail}
use Rattle.serial_model.specs.declared.key.Key.{Key}
use Rattle.homes.specs.declared.places.Content.{Content}
use Rattle.homes.specs.declared.places.Home.{Home}
use Rattle.homes.specs.declared.places.Home.TheVariants.{InPage, Nowhere}
use Rattle.homes.specs.declared.places.Span.{Span}
use Rattle.homes.specs.Homes.{has_key, in_span, same_home, same_key}
use Rattle.homes.specs.Laws.{same_key-true}
use Rattle.snapshot_store.specs.Places.{Found}
use Rattle.snapshot_store.specs.TreePages.{Record, record_for}
use Rattle.commit_core.specs.Keys.{nothing}
use Rattle.drop_core.specs.declared.table.Table.{Table}
use Rattle.drop_core.specs.Event.{is_left_in, leaves_none_out}
use Rattle.drop_core.specs.Table.{entry_home, snap_home}
use Rattle.engine_rule.specs.Pairs.{page_content}
use Rattle.engine_rule.specs.Reading.{entry_for, tree_entries}
use Rattle.engine_pages.specs.Resident.{found_content}
use Rattle.dual_pointer.specs.Installs.{keys_in}
use Rattle.dual_pointer.proofs.Moves.{pass_all}
use Rattle.dual_pointer.proofs.TreePages.{IsTreeLeaf, keys_of, keys_read}

-- what the entries have for a key is the record with the key
pub entry_found : (name id : ℕ) (records : List Record) (k : Key) → k.storage ≡ id
    → page_content (entry_home name (tree_entries id records) k) ≡ found_content (record_for records k.key)
entry_found name id [] k same = refl
entry_found name id (r ∷ records) k same =
    ap (λ (c : Bool). page_content (cond c here (entry_home name (tree_entries id records) k))) key
    ∙ by_test (eqb r.key k.key) (entry_found name id records k same)
  where
    here : Home
    here = InPage name (entry_for (record { storage = id; key = r.key }) r.found).1

    key : same_key (record { storage = id; key = r.key }) k ≡ eqb r.key k.key
    key = ap (λ (c : Bool). c && eqb r.key k.key) (eq-eqb id k.storage (sym same))

    by_test : (c : Bool)
        → page_content (entry_home name (tree_entries id records) k) ≡ found_content (record_for records k.key)
        → page_content (cond c here (entry_home name (tree_entries id records) k))
        ≡ found_content (cond c (Some r.found) (record_for records k.key))
    by_test true rest = refl
    by_test false rest = rest

-- a key that none of the entries is of has no home by them
none_of : (name : ℕ) (entries : List (Key × Content)) (k : Key) → has_key (keys_of entries) k ≡ false
    → entry_home name entries k ≡ Nowhere
none_of name [] k none = refl
none_of name (e ∷ entries) k none =
    let parts = or_false (same_key e.0 k) (has_key (keys_of entries) k) none in
    ap (λ (c : Bool). let h : Home = cond c (InPage name e.1) (entry_home name entries k) in h) parts.0
    ∙ none_of name entries k parts.1
  where
    or_false : (a c : Bool) → (a || c) ≡ false → (a ≡ false) × (c ≡ false)
    or_false true c e = absurd (true≢false e)
    or_false false c e = (refl, e)

-- a key of the records is one record's
key_among : (sp : Span) (records : List Record) (k : Key) → has_key (keys_in sp records) k ≡ true
    → (r : Record) × Contains records r × (record { storage = sp.storage; key = r.key } ≡ k)
key_among sp [] k has = absurd (true≢false (sym has))
key_among sp (r ∷ records) k has =
    by_first (same_key (record { storage = sp.storage; key = r.key }) k) refl (λ more. key_among sp records k more)
  where
    by_first : (c : Bool) → same_key (record { storage = sp.storage; key = r.key }) k ≡ c
        → (has_key (keys_in sp records) k ≡ true
        → (q : Record) × Contains records q × (record { storage = sp.storage; key = q.key } ≡ k))
        → (q : Record) × Contains (r ∷ records) q × (record { storage = sp.storage; key = q.key } ≡ k)
    by_first true hit rest = (r, in_head r records, same_key-true (record { storage = sp.storage; key = r.key }) k hit)
    by_first false miss rest =
        let found = rest (sym (ap (λ (c : Bool). c || has_key (keys_in sp records) k) miss) ∙ has) in
        (found.0, in_tail found.0 r records found.1, found.2)

-- nothing is found without a value
pub found_empty : (o : Option Found) → (found_content o).value ≡ None → found_content o ≡ nothing
found_empty None none = refl
found_empty (Some f) none = let no : Some f.value ≡ None = none in absurd (cc)

module _ (d : Table) (name : ℕ) (sp : Span) (records : List Record) (is : IsTreeLeaf d name sp records) where
  pub leaf_says : (k : Key) → k.storage ≡ sp.storage → page_content (snap_home d name k) ≡ found_content (record_for records k.key)
  leaf_says k same = ap page_content (is.home k) ∙ entry_found name sp.storage records k same

  -- it has no key of the span but these
  pub leaf_left : (keys : List Key)
      → ((r : Record) → Contains records r → has_key keys (record { storage = sp.storage; key = r.key }) ≡ true)
      → leaves_none_out d name sp keys ≡ true
  leaf_left keys there = pass_all (is_left_in d name sp keys) left_out d.snaps
    where
      or_yes : (c : Bool) → (c || true) ≡ true
      or_yes true = refl
      or_yes false = refl

      not_among : (k : Key) → has_key keys k ≡ false → has_key (keys_in sp records) k ≡ false
      not_among k none = elim (cases_Bool (has_key (keys_in sp records) k)) [
        | inl has ↦
            let r = key_among sp records k has in
            absurd (true≢false (sym (there r.0 r.1) ∙ (ap (has_key keys) r.2 ∙ none)))
        | inr out ↦ out
      ]

      left_out : (k : Key) → is_left_in d name sp keys k ≡ true
      left_out k = elim (cases_Bool (has_key keys k)) [
        | inl has ↦
            ap (λ (c : Bool). not (in_span sp k) || (c || same_home (snap_home d name k) Nowhere)) has
            ∙ or_yes (not (in_span sp k))
        | inr none ↦
            let nowhere : snap_home d name k ≡ Nowhere =
            is.home k
            ∙ none_of name (tree_entries sp.storage records) k
            (ap (λ (ks : List Key). has_key ks k) (keys_read sp records) ∙ not_among k none) in
            ap (λ (h : Home). not (in_span sp k) || (has_key keys k || same_home h Nowhere)) nowhere
            ∙ (ap (λ (c : Bool). not (in_span sp k) || c) (or_yes (has_key keys k)) ∙ or_yes (not (in_span sp k)))
      ]
