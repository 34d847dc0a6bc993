-- What a note of a page that is kept asks: somebody else's lock, or a change that was seen.
use Rattle.std.proofs.Common.{◌≡◌, ◌≢◌, inl, inr, ℕ, zero, suc, ◌+◌, ◌*◌, ◌<◌, ◌≤◌, Bool, true, false, cond, List, [], ◌∷◌}
use Rattle.std.proofs.Common.{Some, Option, get_or, true≢false, refl, sym, ap, ◌∙◌, subst, arith}
use Rattle.std.proofs.lemmas.Bool.{cases_Bool}
use Rattle.std.specs.List.{Contains}
use Rattle.lists.specs.Elements.{in_cases, in_none}
use Rattle.serial_model.specs.declared.decl.Decl.{Decl}
use Rattle.homes.specs.declared.places.At.{At}
use Rattle.homes.specs.declared.places.At.TheVariants.{Root, In}
use Rattle.homes.specs.declared.places.Span.{Span}
use Rattle.drop_core.specs.Table.{at_index, has_slot}
use Rattle.engine_pages.specs.declared.view.Shut.{Shut}
use Rattle.engine_pages.specs.declared.view.Took.{Took}
use Rattle.engine_pages.specs.declared.view.View.{View}
use Rattle.engine_pages.specs.declared.view.Way.{Way}
use Rattle.engine_pages.specs.Layout.{page_at}
use Rattle.engine_pages.specs.Pages.{child_span, is_array}
use Rattle.engine_pages.specs.Pointers.{IsPointerAt}
use Rattle.engine_pages.specs.Resident.{array_word}
use Rattle.engine_pages.specs.Steps.{kept_at, read_at, seen_at}
use Rattle.engine_pages.specs.Words.{spot}
use Rattle.page_records.specs.Locks.{took_at}
use Rattle.pointer_swings.specs.Shuts.{shut_of}
use Rattle.pointer_swings.specs.Swings.{key_in}
use Rattle.page_drops.specs.Calls.{CanVisit, IsWayDown}
use Rattle.page_drops.specs.Inner.{AtInner, shut_row}
use Rattle.page_drops.specs.Leaves.{AtLeaf, HasRow, took_row}
use Rattle.page_drops.specs.Works.{locked_at, read_of, HasTurnedFrom, IsForeign, IsOfArray, IsPointerBeside, OnlyLooked}
use Rattle.page_drops.proofs.Entries.{entry_of, own_entry}
use Rattle.page_drops.proofs.Heights.{held_way}
use Rattle.page_drops.proofs.Holds.{Looked}
use Rattle.page_drops.proofs.Inners.{JustFound, inner_went, pointer_there}
use Rattle.page_drops.proofs.Looks.{leaf_worked}

-- ---- a change

-- a step that tried to change the word, and found another one than was there before
pub turned_from : (at word found : ℕ) (u w : View) → found ≢ word → w ≡ read_at at found u → seen_at u.reads at ≡ Some word
    → HasTurnedFrom w at found word
turned_from at word found u w other looked met = record {
  other = other;
  read = entry_of u.reads at found (kept_at u.reads at);
  has = ap (λ (y : View). read_of y.reads at) looked ∙ own_entry u.reads at found (kept_at u.reads at);
  now = refl;
  was = met;
}

-- two looks at a pointer, one after the other
pub looked_from : (at n m : ℕ) (holds : List ℕ) (ways : List Way) (v w : View) → m ≢ n
    → Looked at m (Some n) holds ways v w → HasTurnedFrom w at m n
looked_from at n m holds ways v w other l =
    record { other = other; read = l.read; has = l.is; now = l.seen; was = l.prior }

-- ---- a lock

-- nothing is in a list that has nothing
pub no_more : {A : Type 0} (x : A) (xs : List A) → xs ≡ [] → Contains xs x → ⊥
no_more {A = A} x xs none has = in_none x (subst (λ (l : List A). Contains l x) none has)

-- two words of pages, one of which is a page's first
first_of : (slots t u i : ℕ) → i < 64 → page_at slots t i ≡ page_at slots u 0 → t ≡ u
first_of slots t u i few same = omega (arith, few, same)

-- two words of pages, in the same place
one_slot : (slots t u i j : ℕ) → i < 64 → j < 64 → page_at slots t i ≡ page_at slots u j → t ≡ u
one_slot slots t u i j few less same = omega (arith, few, less, same)

-- the slot of an array's page that the pass has found the way to
of_array : (t u : ℕ) (sp : Span) (v : View) → Contains v.ways (record { slot = t; span = sp })
    → is_array v.layout.decls sp.storage ≡ true → t ≡ u → IsOfArray v u
of_array t u sp v way array same = (record { slot = t; span = sp }, way, same, array)

-- the record with an index is none of those before it, which the pass has locked
row_apart : (t : ℕ) (sp : Span) (words : List ℕ) (j n i : ℕ) (v : View) → is_array v.layout.decls sp.storage ≡ true
    → j + n ≤ i → (x : Took) → Contains (took_row t sp words j n) x → page_at v.layout.slots t (2 * i) ≢ locked_at v x
row_apart t sp words j zero i v array most x has = absurd (in_none x has)
row_apart t sp words j (suc n) i v array most x has =
    elim (in_cases x (took_at (key_in sp j) (spot t j) (array_word words j)) (took_row t sp words (suc j) n) has) [
      | inl is ↦ subst (λ (z : Took). page_at v.layout.slots t (2 * i) ≢ locked_at v z) is (here array)
      | inr more ↦ row_apart t sp words (suc j) n i v array (omega (arith, most)) x more
    ]
  where
    by_kind : (c : Bool) → c ≡ true → page_at v.layout.slots t (2 * i) ≢ page_at v.layout.slots t (cond c (2 * j) (17 + 3 * j))
    by_kind true kind same = omega (arith, most, same)
    by_kind false kind same = true≢false (sym kind)

    here : is_array v.layout.decls sp.storage ≡ true
        → page_at v.layout.slots t (2 * i) ≢ locked_at v (took_at (key_in sp j) (spot t j) (array_word words j))
    here kind = by_kind (is_array v.layout.decls sp.storage) kind

-- a record of a leaf that is none of those which the pass has locked
leaf_foreign : (t page i at seen : ℕ) (sp : Span) (u : View) → AtLeaf t sp page u → i < 32
    → at ≡ page_at u.layout.slots t (2 * i) → ((x : Took) → Contains u.took x → page_at u.layout.slots t (2 * i) ≢ locked_at u x)
    → IsForeign u at seen
leaf_foreign t page i at seen sp u h few word mine = record {
  records = λ x has same. mine x has (sym word ∙ same);
  heads = λ x has. absurd (no_more x u.heads h.heads has);
  sealed = λ s has same.
      inr (of_array t s sp u h.way h.array (first_of u.layout.slots t s (2 * i) (omega (arith, few)) (sym word ∙ same)));
  shuts = λ x has. absurd (no_more x u.shuts h.shuts has);
  alive = λ x j has less same.
      inl (of_array t x.slot sp u h.way h.array
      (one_slot u.layout.slots t x.slot (2 * i) (17 + 3 * j) (omega (arith, few)) (omega (arith, less)) (sym word ∙ same)));
}

-- where the leaf's records are compared, none is locked
pub compared_foreign : (t page i at seen : ℕ) (sp : Span) (v u : View) → AtLeaf t sp page v → OnlyLooked v u → i < 32
    → at ≡ page_at v.layout.slots t (2 * i) → v.took ≡ [] → IsForeign u at seen
compared_foreign t page i at seen sp v u h looked few word none =
    leaf_foreign t page i at seen sp u (leaf_worked t page sp v u looked.worked h) few
    (word ∙ sym (ap (λ (z : View). page_at z.layout.slots t (2 * i)) looked.worked))
    (λ x has. absurd (no_more x u.took (looked.took ∙ none) has))

-- where they are locked, those before it are
pub locked_foreign : (t page i at seen : ℕ) (sp : Span) (words : List ℕ) (v u : View) → AtLeaf t sp page v → OnlyLooked v u
    → i < 32 → at ≡ page_at v.layout.slots t (2 * i) → HasRow t sp words 0 i v → IsForeign u at seen
locked_foreign t page i at seen sp words v u h looked few word row =
    let now = leaf_worked t page sp v u looked.worked h in
    leaf_foreign t page i at seen sp u now few
    (word ∙ sym (ap (λ (z : View). page_at z.layout.slots t (2 * i)) looked.worked))
    (λ x has. row_apart t sp words 0 i i u now.array (omega arith) x
    (subst (λ (l : List Took). Contains l x) (looked.took ∙ row.took) has))

-- a pointer with an index is at another place than those before it, which the pass has shut
shut_apart : (t : ℕ) (words : List ℕ) (n i at : ℕ) (sp : Span) (v : View) → n ≤ i → IsPointerAt v (at_index t i) sp at
    → (x : Shut) → Contains (shut_row t words n) x → IsPointerBeside v x.at at
shut_apart t words zero i at sp v most place x has = absurd (in_none x has)
shut_apart t words (suc n) i at sp v most place x has =
    elim (in_cases x (shut_of (at_index t n) (get_or words n 0)) (shut_row t words n) has) [
      | inl is ↦ (
        at_index t i,
        sp,
        place,
        λ same. other_index t i n (omega (arith, most)) (same ∙ sym (ap (λ (z : Shut). z.at) is)),
      )
      | inr more ↦ shut_apart t words n i at sp v (omega (arith, most)) place x more
    ]
  where
    index_of : At → ℕ
    index_of (Root r) = 0
    index_of (In y) = y.index

    other_index : (t i n : ℕ) → n < i → at_index t i ≢ at_index t n
    other_index t i n less same = let one : i ≡ n = ap index_of same in omega (arith, less, one)

-- the pointer with an index that was found shut
pub inner_foreign : (t page i at seen : ℕ) (sp : Span) (words : List ℕ) (v u : View) → AtInner t sp page v → JustFound v u at seen
    → i < 64 → at ≡ page_at v.layout.slots t i → v.shuts ≡ shut_row t words i → IsForeign u at seen
inner_foreign t page i at seen sp words v u h saw few word row =
    let now = inner_went t page sp v u saw.turned.went h in
    let here : at ≡ page_at u.layout.slots t i =
    word ∙ sym (ap (λ (z : View). page_at z.layout.slots t i) saw.turned.went.shut) in record {
      records = λ x has. absurd (no_more x u.took now.took has);
      heads = λ x has. absurd (no_more x u.heads now.heads has);
      sealed = λ s has same. inr (of_array t s sp u now.way now.array (first_of u.layout.slots t s i few (sym here ∙ same)));
      shuts = λ x has.
          shut_apart t words i i at (child_span sp i) u (omega arith)
          (inl (pointer_there t page i at sp u now few here)) x
          (subst (λ (l : List Shut). Contains l x) (saw.shuts ∙ row) has);
      alive = λ x j has less same.
          inl (of_array t x.slot sp u now.way now.array
          (one_slot u.layout.slots t x.slot i (17 + 3 * j) few (omega (arith, less)) (sym here ∙ same)));
    }

-- all pages on the way down are arrays'
way_array : (decls : List Decl) (height : ℕ) (ways : List Way) → IsWayDown decls height ways → (a : Way) → Contains ways a
    → is_array decls a.span.storage ≡ true
way_array decls height [] down a has = absurd (in_none a has)
way_array decls height (way ∷ path) down a has =
    elim (in_cases a way path has) [
      | inl same ↦ subst (λ (z : Way). is_array decls z.span.storage ≡ true) same (down.0).array
      | inr more ↦ way_array decls (suc height) path down.1 a more
    ]

-- the pointer that is gone over was found shut
pub pointer_foreign : (height : ℕ) (x : At) (sp : Span) (at page n : ℕ) (was : Option ℕ) (v u : View)
    → CanVisit height x sp at page v → Looked at n was v.grip.holds v.ways v u → IsForeign u at n
pointer_foreign height x sp at page n was v u can l =
    let went = (l.over).went in record {
      records = λ y has. absurd (no_more y u.took (ap (λ (z : View). z.took) went ∙ (can.bare).took) has);
      heads = λ y has. absurd (no_more y u.heads (ap (λ (z : View). z.heads) went ∙ (can.bare).heads) has);
      sealed = λ t has same. inr (by_hold t 0 (omega arith) (same ∙ ap (λ (z : View). page_at z.layout.slots t 0) went));
      shuts = λ y has. absurd (no_more y u.shuts (ap (λ (z : View). z.shuts) went ∙ (can.bare).shuts) has);
      alive = λ y j has less same.
          inl (by_hold y.slot (17 + 3 * j) (omega (arith, less))
          (same ∙ ap (λ (z : View). page_at z.layout.slots y.slot (17 + 3 * j)) went));
    }
  where
    on_way : (t : ℕ) → has_slot v.grip.holds t ≡ true → IsOfArray u t
    on_way t held =
        let went = (l.over).went in
        let a = held_way v.ways t (sym (ap (λ (s : List ℕ). has_slot s t) (can.bare).holds) ∙ held) in (
          a.0,
          subst (λ (ws : List Way). Contains ws a.0) (sym l.path) a.1,
          a.2,
          ap (λ (z : View). is_array z.layout.decls (a.0).span.storage) went
              ∙ way_array v.layout.decls height v.ways can.down a.0 a.1,
        )

    by_hold : (t i : ℕ) → i < 64 → at ≡ page_at v.layout.slots t i → IsOfArray u t
    by_hold t i less same =
        elim (cases_Bool (has_slot v.grip.holds t)) [
          | inl held ↦ on_way t held
          | inr free ↦ absurd (can.apart t free i less same)
        ]
