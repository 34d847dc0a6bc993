-- What words open with has the state's values, and is older than the first number.
use Rattle.std.proofs.Common.{◌≡◌, ◌≢◌, ◌∙◌, ◌≤◌, ◌-◌, inl, inr, sym, ap, subst, refl, arith, ℕ, Bool, true, false, cond}
use Rattle.std.proofs.Common.{true≢false, eqb, eqb-true, eq-eqb, ne_eqb, ltb, List, [], ◌∷◌, Option, Some, None, map}
use Rattle.std.proofs.Common.{length}
use Rattle.std.specs.Prelude.{◌||◌}
use Rattle.std.specs.List.{AllByRecursion, Contains}
use Rattle.std.specs.FinMap.{same_map}
use Rattle.std.proofs.lemmas.Bool.{cases_Bool, and_left, and_parts}
use Rattle.std.proofs.lemmas.List.{length-map}
use Rattle.lists.specs.Each.{AreDistinct}
use Rattle.serial_model.specs.Decls.{AreDecls}
use Rattle.serial_model.specs.KeyOrder.{keys_total, exact_keys}
use Rattle.serial_model.specs.Keys.{has_key, has_key_of, id_of}
use Rattle.serial_model.specs.Numbers.{IsNumber}
use Rattle.serial_model.specs.State.{State}
use Rattle.serial_model.specs.declared.decl.Decl.{Decl}
use Rattle.serial_model.specs.declared.decl.Decl.TheVariants.{Array, Tree}
use Rattle.serial_model.specs.declared.key.Key.{Key}
use Rattle.serial_model.specs.declared.number.Number.{Number}
use Rattle.homes.specs.declared.places.Content.{Content}
use Rattle.wire_form.specs.Pages.{Contents, decls_of, stored_decl}
use Rattle.wire_form.specs.declared.page.Page.{Page}
use Rattle.wire_form.specs.declared.records.Stored.{Stored}
use Rattle.snapshot_store.specs.Content.{RootStands, record_in, value_at, value_of, words_of}
use Rattle.snapshot_store.specs.Places.{Found}
use Rattle.commit_core.specs.Keys.{content_at, nothing}
use Rattle.engine_rule.specs.Opening.{opening_pairs}
use Rattle.engine_rule.specs.Reading.{RecordsAreBelow, named_places, roots_of, snaps_of, storages}
use Rattle.engine_pages.specs.declared.layout.Layout.{Layout}
use Rattle.engine_pages.specs.Resident.{found_content}
use Rattle.page_opening.specs.Making.{CanMake}
use Rattle.recovery_core.specs.NewestSnapshot.{AreUpTo, IsNewestSnapshot}
use Rattle.shared_rounds.specs.OpenedLaws.{opened_is}
use Rattle.shared_rounds.specs.SharedState.{opened}
use Rattle.shared_rounds.proofs.Declared.{opens_declared}
use Rattle.round_engine.specs.FirstRecords.{first_layout, root_in, stands_in}
use Rattle.round_engine.proofs.FirstContents.{content_in, declared_in, opens_with}
use Rattle.round_engine.proofs.FirstNumbers.{IsOlder, all_below}

-- ---- the records of the pages

-- the content of a record, or what others have
abbrev either : Bool → List (List ℕ) → Stored → Key → Content → Content
either b pages s k others = cond b (found_content (record_in pages s k.key)) others

-- what is read of a record
value_read : (o : Option Found) → (found_content o).value ≡ value_of o
value_read None = refl
value_read (Some f) = refl

-- each key has the value that the pages have
value_in : (pages : List (List ℕ)) (ss : List Stored) (k : Key)
    → (content_in pages ss k).value ≡ value_at (record_in pages) ss k
value_in pages [] k = refl
value_in pages (s ∷ more) k = by_test (eqb (id_of s.decl) k.storage) (value_in pages more k)
  where
    by_test : (b : Bool) → (content_in pages more k).value ≡ value_at (record_in pages) more k
        → (either b pages s k (content_in pages more k)).value
        ≡ (let v : Option ℕ = cond b (value_of (record_in pages s k.key)) (value_at (record_in pages) more k) in v)
    by_test true rest = value_read (record_in pages s k.key)
    by_test false rest = rest

-- and where that is none nothing stands
blank_in : (pages : List (List ℕ)) (ss : List Stored) (k : Key) → value_at (record_in pages) ss k ≡ None
    → content_in pages ss k ≡ nothing
blank_in pages [] k none = refl
blank_in pages (s ∷ more) k none = by_test (eqb (id_of s.decl) k.storage) none (blank_in pages more k)
  where
    by_record : (o : Option Found) → value_of o ≡ None → found_content o ≡ nothing
    by_record None none = refl
    by_record (Some f) none = absurd cc

    by_test : (b : Bool)
        → (let v : Option ℕ = cond b (value_of (record_in pages s k.key)) (value_at (record_in pages) more k) in v) ≡ None
        → (value_at (record_in pages) more k ≡ None → content_in pages more k ≡ nothing)
        → either b pages s k (content_in pages more k) ≡ nothing
    by_test true none rest = by_record (record_in pages s k.key) none
    by_test false none rest = rest none

-- the storage that has a key has its id
key_id : (k : Key) (d : Decl) → has_key_of k d ≡ true → id_of d ≡ k.storage
key_id k (Array id size) here = eqb-true id k.storage (and_parts (eqb id k.storage) (ltb k.key size) here).0
key_id k (Tree id) here = eqb-true id k.storage here

-- another storage doesn't have it
other_id : (k : Key) (d : Decl) → (k.storage ≢ id_of d) → has_key_of k d ≡ false
other_id k (Array id size) apart =
    and_left (eqb id k.storage) (ltb k.key size) (ne_eqb id k.storage (λ e. apart (sym e)))
other_id k (Tree id) apart = ne_eqb id k.storage (λ e. apart (sym e))

not_later : (more : List Stored) (k : Key) → AllByRecursion (λ i. k.storage ≢ i) (map id_of (map stored_decl more))
    → has_key (map stored_decl more) k ≡ false
not_later [] k all = refl
not_later (s ∷ more) k all =
    ap (λ b. b || has_key (map stored_decl more) k) (other_id k s.decl all.0) ∙ not_later more k all.1

-- at a key that no storage has nothing is told
stands_none : (pages : List (List ℕ)) (ss : List Stored) (k : Key) → has_key (map stored_decl ss) k ≡ false
    → stands_in pages ss k ≡ nothing
stands_none pages [] k none = refl
stands_none pages (s ∷ more) k none =
    elim (cases_Bool (has_key_of k s.decl)) [
      | inl here ↦ absurd (true≢false (sym (ap (λ b. b || has_key (map stored_decl more) k) here) ∙ none))
      | inr other ↦
          ap (λ b. either b pages s k (stands_in pages more k)) other
          ∙ stands_none pages more k
          (sym (ap (λ b. b || has_key (map stored_decl more) k) other) ∙ none)
    ]

-- and at one that a storage has the record of its pages
stands_there : (pages : List (List ℕ)) (ss : List Stored) (k : Key) → AreDistinct (map id_of (map stored_decl ss))
    → has_key (map stored_decl ss) k ≡ true → content_in pages ss k ≡ stands_in pages ss k
stands_there pages [] k distinct has = absurd (true≢false (sym has))
stands_there pages (s ∷ more) k distinct has =
    elim (cases_Bool (has_key_of k s.decl)) [
      | inl here ↦
          ap (λ b. either b pages s k (content_in pages more k))
          (eq-eqb (id_of s.decl) k.storage (key_id k s.decl here))
          ∙ sym (ap (λ b. either b pages s k (stands_in pages more k)) here)
      | inr other ↦
          let rest : has_key (map stored_decl more) k ≡ true =
          sym (ap (λ b. b || has_key (map stored_decl more) k) other) ∙ has in
          elim (cases_Bool (eqb (id_of s.decl) k.storage)) [
            | inl same ↦ absurd (true≢false (sym rest ∙ not_later more k
                (subst (λ i. AllByRecursion (λ j. i ≢ j) (map id_of (map stored_decl more)))
                (eqb-true (id_of s.decl) k.storage same) distinct.0)))
            | inr apart ↦
                ap (λ b. either b pages s k (content_in pages more k)) apart
                ∙ (stands_there pages more k distinct.1 rest
                ∙ sym (ap (λ b. either b pages s k (stands_in pages more k)) other))
          ]
    ]

-- ---- numbers

-- records up to the epoch before the first number are older than that
older_than : (pages : List (List ℕ)) (ss : List Stored) (epoch : ℕ) (first : Number) → IsNumber first
    → epoch ≤ first.epoch - 1 → AreUpTo epoch pages ss → (s : Stored) → Contains ss s → IsOlder first pages s
older_than pages ss epoch first is up older s has key f at =
    inl (let low = older s has key f at in let some = is.some_epoch in omega (arith, low, up, some))

-- ---- storages

-- a storage by its declaration and its root
stored_again : (ss : List Stored) → storages (map stored_decl ss) (map root_in ss) ≡ ss
stored_again [] = refl
stored_again (s ∷ ss) = ap (λ (l : List Stored). s ∷ l) (stored_again ss)

-- ---- all of it

-- An engine can be made over all these pages, and opens with what they have, which is the state.
pub record Starts (pages : List Page) (ss : List Stored) (state : State) (l : Layout) : Type 0 where
  pub can : CanMake l
  pub opens : (k : Key) → content_at l.opening k ≡ stands_in (words_of pages) ss k
  pub state_is : opened l.opening ≡ state

module _ (pages : List Page) (contents : Contents) (state : State) (first : Number) (slots room : ℕ)
    (many : length pages ≤ room) (few : room ≤ 65536) (some : 1 ≤ slots) (most : slots ≤ 4096) (declared : AreDecls (decls_of contents))
    (number : IsNumber first)
    (is : IsNewestSnapshot (words_of pages) (length pages) (decls_of contents) state (first.epoch - 1) contents) where
  abbrev ps : List (List ℕ)
  ps = words_of pages

  abbrev ss : List Stored
  ss = contents.storages

  abbrev start : Layout
  start = first_layout first (decls_of contents) ss slots room pages

  abbrev again : List Stored
  again = storages (decls_of contents) (map root_in ss)

  can_make : CanMake start
  can_make = record {
    pages = pages;
    are = refl;
    opens = record {
      few = omega (arith, many, few);
      declared = declared;
      each = length-map ss root_in ∙ sym (length-map ss stored_decl);
      stand = subst (AllByRecursion (RootStands ps)) (sym (stored_again ss)) is.stands.roots;
      number = number;
      below = subst (λ (xs : List Stored). RecordsAreBelow first ps (named_places ps xs)) (sym (stored_again ss))
          (all_below first ps ss is.stands.roots (older_than ps ss contents.epoch first number is.up_to is.older));
    };
    some = omega (arith, some);
    slots = most;
    resident = few;
    within = let long = length-map pages Page.words in omega (arith, long, many);
  }

  -- each key has the content that the pages have
  content_is : (k : Key) → content_at start.opening k ≡ content_in ps ss k
  content_is k =
      ap (λ (xs : List Stored). content_at (opening_pairs (snaps_of ps (named_places ps xs)) (length (named_places ps xs))
      (roots_of (named_places ps xs) xs) slots) k) (stored_again ss)
      ∙ opens_with (decls_of contents) ps ss slots declared is.stands.roots
      (declared_in ss) declared.distinct k

  opens_is : (k : Key) → content_in ps ss k ≡ stands_in ps ss k
  opens_is k =
      elim (cases_Bool (has_key (decls_of contents) k)) [
        | inl has ↦ stands_there ps ss k declared.distinct has
        | inr none ↦
            blank_in ps ss k (sym (value_in ps ss k) ∙ (ap (λ (c : Content). c.value) (sym (content_is k))
            ∙ opens_declared start can_make refl k none))
            ∙ sym (stands_none ps ss k none)
      ]

  pub starts_here : Starts pages ss state start
  starts_here = record {
    can = can_make;
    opens = λ k. content_is k ∙ opens_is k;
    state_is = same_map keys_total exact_keys (opened start.opening) state (λ k.
        opened_is start.opening k
        ∙ (ap (λ (c : Content). c.value) (content_is k) ∙ (value_in ps ss k ∙ sym (is.content k))));
  }

-- so it is for the storages that a state was recovered with
pub starts : (pages : List Page) (contents : Contents) (decls : List Decl) (state : State) (first : Number)
    (slots room : ℕ) → length pages ≤ room → room ≤ 65536 → 1 ≤ slots → slots ≤ 4096 → AreDecls decls → IsNumber first
    → IsNewestSnapshot (words_of pages) (length pages) decls state (first.epoch - 1) contents
    → Starts pages contents.storages state (first_layout first decls contents.storages slots room pages)
starts pages contents decls state first slots room many few some most declared number is =
    let same : decls ≡ decls_of contents = is.decls_are in
    subst (λ ds. Starts pages contents.storages state (first_layout first ds contents.storages slots room pages)) (sym same)
    (starts_here pages contents state first slots room many few some most (subst AreDecls same declared) number
    (subst (λ ds. IsNewestSnapshot (words_of pages) (length pages) ds state (first.epoch - 1) contents) same is))
