-- Where the words of pointers stand, in pages of arrays and of trees, and what stands in none of them.
use Rattle.std.proofs.Common.{◌≡◌, ◌≢◌, ◌⊎◌, inl, inr, ℕ, zero, suc, ◌+◌, ◌-◌, ◌<◌, ◌≤◌, Bool, true, false, true≢false, List}
use Rattle.std.proofs.Common.{length, get_or, refl, sym, ap, ◌∙◌, subst, arith, Option, Some, None, ltb}
use Rattle.std.specs.Prelude.{if◌then◌else◌}
use Rattle.std.specs.List.{Contains}
use Rattle.std.proofs.lemmas.Bool.{cases_Bool}
use mathlib.Core.Logic.{dite}
use native.Mathlib.Decide.{ℕ_discrete}
use Rattle.serial_model.specs.declared.decl.Decl.{Decl}
use Rattle.serial_model.specs.declared.decl.Decl.TheVariants.{Array, Tree}
use Rattle.serial_model.specs.declared.key.Key.{Key}
use Rattle.serial_model.specs.declared.number.Number.{Number}
use Rattle.homes.specs.declared.places.At.{At}
use Rattle.homes.specs.declared.places.At.TheVariants.{Root, In}
use Rattle.homes.specs.declared.places.Span.{Span}
use Rattle.homes.specs.declared.places.Spot.{Spot}
use Rattle.homes.specs.Homes.{same_at}
use Rattle.homes.specs.Laws.{same_at-self, same_at-true}
use Rattle.snapshot_store.specs.declared.place.PagePlace.{PagePlace}
use Rattle.commit_core.specs.declared.place.Place.{Place}
use Rattle.drop_core.specs.declared.table.Page.TheVariants.{Inner}
use Rattle.drop_core.specs.declared.table.Table.{Table}
use Rattle.drop_core.specs.Sound.{span_at}
use Rattle.drop_core.specs.Table.{page_of, pointer_of, header_of, at_index}
use Rattle.engine_pages.specs.declared.layout.Layout.{Layout}
use Rattle.engine_pages.specs.declared.view.View.{View}
use Rattle.engine_pages.specs.declared.view.Way.{Way}
use Rattle.engine_pages.specs.Layout.{root_at, page_at}
use Rattle.engine_pages.specs.Pages.{decl_of, is_array_kind, is_tree_kind, Fenced, IsFenced, IsOver, IsLaidOut}
use Rattle.engine_pages.specs.Pointers.{IsBranchAt, IsChildAt, IsPointerAt}
use Rattle.engine_pages.specs.Rule.{Shared}
use Rattle.engine_pages.specs.Stays.{IsKnown}
use Rattle.engine_pages.specs.Words.{ShowsPointer, ShowsTree, child_high, tree_child}
use Rattle.engine_pages.proofs.PagesStay.{inner_shape}
use Rattle.engine_pages.proofs.Turns.{Begins}

-- ---- pointers lie apart

pub at_cases : (x y : At) → (x ≡ y) ⊎ ((x ≡ y → ⊥) × (same_at x y ≡ false))
at_cases x y = elim (cases_Bool (same_at x y)) [
  | inl hit ↦ inl (same_at-true x y hit)
  | inr miss ↦ inr ((λ e. true≢false (sym (subst (λ (z : At). same_at x z ≡ true) e (same_at-self x)) ∙ miss)), miss)
]

-- how many words stand before the pointers of an interior page: none in an array's, four in a tree's
abbrev pub words_before : Option Fenced → ℕ
words_before None = 0
words_before (Some f) = 4

-- where the word of a pointer stands
abbrev pub stand : Layout → (ℕ → Option Fenced) → At → ℕ
stand l k (Root r) = root_at r
stand l k (In y) = page_at l.slots y.slot (words_before (k y.slot) + y.index)

-- it is one of the table's
abbrev pub IsAmong : Layout → (ℕ → Option Fenced) → At → Type 0
IsAmong l k (Root r) = r < 16
IsAmong l k (In y) = (y.slot < l.slots) × (words_before (k y.slot) + y.index < 64)

same_spots : (x y : Spot) → x.slot ≡ y.slot → x.index ≡ y.index → In x ≡ In y
same_spots x y slot index =
    ap (λ (n : ℕ). let z : At = In (record { slot = n; index = x.index }) in z) slot
    ∙ ap (λ (n : ℕ). let z : At = In (record { slot = y.slot; index = n }) in z) index

pub apart : (l : Layout) (k : ℕ → Option Fenced) (x y : At) → IsAmong l k x → IsAmong l k y → (x ≡ y → ⊥)
    → stand l k y ≢ stand l k x
apart l k (Root r) (Root q) few less other e = other (ap (λ i. let z : At = Root i in z) (omega arith))
apart l k (Root r) (In y) few less other e = absurd (omega arith)
apart l k (In x) (Root q) few less other e = absurd (omega arith)
apart l k (In x) (In y) few less other e =
    let slot : x.slot ≡ y.slot = omega (arith, few.1, less.1) in
    let before : words_before (k x.slot) ≡ words_before (k y.slot) = ap (λ t. words_before (k t)) slot in
    other (same_spots x y slot (omega (arith, few.1, less.1)))

-- ---- where a pointer stands

-- a pointer of an interior page to which something has led
pub record IsInPage (l : Layout) (s : Shared) (y : Spot) (at : ℕ) : Type 0 where
  pub within : y.slot < l.slots
  pub word : at ≡ page_at l.slots y.slot (words_before (s.trees y.slot) + y.index)
  pub known : IsKnown s.table y.slot
  pub count : ℕ
  pub page : page_of s.table y.slot ≡ Inner count
  pub index : y.index < count
  pub few : words_before (s.trees y.slot) + y.index < 64
  pub fan : (f : Fenced) → s.trees y.slot ≡ Some f → y.index < 30

-- where the word of the pointer at this place stands
abbrev pub StandsAt : Layout → Shared → ℕ → At → Type 0
StandsAt l s at (Root r) = (at ≡ root_at r) × (r < length l.decls) × (r < 16)
StandsAt l s at (In y) = IsInPage l s y at

pub array_over : (o : Option Decl) (k : ℕ → Option Fenced) (d : Table) (t : ℕ) (sp : Span) → is_array_kind o ≡ true
    → IsLaidOut o k d t sp → (k t ≡ None) × IsOver d t sp
array_over None k d t sp kind over = absurd over
array_over (Some (Array id size)) k d t sp kind over = over
array_over (Some (Tree id)) k d t sp kind over = absurd (true≢false (sym kind))

pub over_array : (o : Option Decl) (k : ℕ → Option Fenced) (d : Table) (t : ℕ) (sp : Span) → is_array_kind o ≡ true
    → k t ≡ None → IsOver d t sp → IsLaidOut o k d t sp
over_array None k d t sp kind none over = absurd (true≢false (sym kind))
over_array (Some (Array id size)) k d t sp kind none over = (none, over)
over_array (Some (Tree id)) k d t sp kind none over = absurd (true≢false (sym kind))

-- a page of a tree was made for its keys
pub tree_over : (o : Option Decl) (k : ℕ → Option Fenced) (d : Table) (t : ℕ) (sp : Span) → is_tree_kind o ≡ true
    → IsLaidOut o k d t sp → IsFenced (k t) sp
tree_over None k d t sp kind over = absurd over
tree_over (Some (Array id size)) k d t sp kind over = absurd (true≢false (sym kind))
tree_over (Some (Tree id)) k d t sp kind over = over

pub over_tree : (o : Option Decl) (k : ℕ → Option Fenced) (d : Table) (t : ℕ) (sp : Span) → is_tree_kind o ≡ true
    → IsFenced (k t) sp → IsLaidOut o k d t sp
over_tree None k d t sp kind over = absurd (true≢false (sym kind))
over_tree (Some (Array id size)) k d t sp kind over = absurd (true≢false (sym kind))
over_tree (Some (Tree id)) k d t sp kind over = over

-- where so many words stand before the pointers
pub before_none : (k : ℕ → Option Fenced) (t : ℕ) → k t ≡ None → words_before (k t) ≡ 0
before_none k t is = ap words_before is

pub before_some : (k : ℕ → Option Fenced) (t : ℕ) (f : Fenced) → k t ≡ Some f → words_before (k t) ≡ 4
before_some k t f is = ap words_before is

child_stands : (l : Layout) (words : List ℕ) (views : List View) (s : Shared) (id : ℕ) (v : View) (y : Spot) (sp : Span)
    (at : ℕ) → Begins l words views s id v → IsChildAt v y sp at → IsInPage l s y at
child_stands l words views s id v y sp at b is =
    let d = s.table in
    let way = b.pages.ways is.way is.has in
    let kind : is_array_kind (decl_of l.decls is.way.span.storage) ≡ true =
    ap (λ (z : Layout). is_array_kind (decl_of z.decls is.way.span.storage)) (sym b.own.layout) ∙ is.kind in
    let over = array_over (decl_of l.decls is.way.span.storage) s.trees d is.way.slot is.way.span kind way.over in
    let tree : s.trees y.slot ≡ None = ap s.trees (sym is.slot) ∙ over.0 in
    let none : words_before (s.trees y.slot) ≡ 0 = before_none s.trees y.slot tree in
    let index = is.index in
    let word : at ≡ page_at l.slots y.slot y.index =
    is.word ∙ ap (λ (z : Layout). page_at z.slots y.slot y.index) b.own.layout in record {
      within = subst (λ t. t < l.slots) is.slot way.within;
      word = omega (arith, word, none);
      known = subst (λ t. IsKnown d t) is.slot way.known;
      count = 64;
      page = ap (page_of d) (sym is.slot) ∙ (over.1.page ∙ inner_shape is.way.span is.inner);
      index = index;
      few = omega (arith, index, none);
      fan = λ f some. absurd (no_tree f (sym some ∙ tree));
    }
  where
    no_tree : (f : Fenced) → Some f ≡ None → ⊥
    no_tree f e = absurd (cc)

branch_stands : (l : Layout) (words : List ℕ) (views : List View) (s : Shared) (id : ℕ) (v : View) (y : Spot) (sp : Span)
    (at : ℕ) → Begins l words views s id v → IsBranchAt v y sp at → IsInPage l s y at
branch_stands l words views s id v y sp at b is =
    let d = s.table in
    let page = b.pages.treed.inners is.inner is.knows in
    let tree : s.trees y.slot ≡ Some page.fence = ap s.trees (sym is.same) ∙ page.there in
    let four : words_before (s.trees y.slot) ≡ 4 = before_some s.trees y.slot page.fence tree in
    let index = is.index in
    let few : length is.inner.separators < 30 = page.few in
    let word : at ≡ page_at l.slots y.slot (4 + y.index) =
    is.word ∙ ap (λ (z : Layout). page_at z.slots y.slot (4 + y.index)) b.own.layout in record {
      within = subst (λ t. t < l.slots) is.same page.within;
      word = omega (arith, word, four);
      known = subst (λ t. IsKnown d t) is.same page.known;
      count = suc (length is.inner.separators);
      page = ap (page_of d) (sym is.same) ∙ page.page;
      index = omega (arith, index);
      few = omega (arith, index, few, four);
      fan = λ f some. omega (arith, index, few);
    }

pub stands_at_place : (l : Layout) (words : List ℕ) (views : List View) (s : Shared) (id : ℕ) (v : View) (x : At)
    (sp : Span) (at : ℕ) → Begins l words views s id v → IsPointerAt v x sp at → StandsAt l s at x
stands_at_place l words views s id v (Root r) sp at b is =
    let few : r < length l.decls = subst (λ (z : Layout). r < length z.decls) b.own.layout is.0 in
    (is.2, few, (let most = b.sound.few.1 in omega arith))
stands_at_place l words views s id v (In y) sp at b (inl is) = child_stands l words views s id v y sp at b is
stands_at_place l words views s id v (In y) sp at b (inr is) = branch_stands l words views s id v y sp at b is

pub among : (l : Layout) (s : Shared) (at : ℕ) (x : At) → StandsAt l s at x → (at ≡ stand l s.trees x) × IsAmong l s.trees x
among l s at (Root r) h = (h.0, h.2)
among l s at (In y) h = (h.word, (h.within, h.few))

-- the pointer's word is a root's, or in a page that the pass has a way to
pub way_to : (l : Layout) (words : List ℕ) (views : List View) (s : Shared) (id : ℕ) (v : View)
    → Begins l words views s id v → (x : At) (sp : Span) (at : ℕ) → IsPointerAt v x sp at → (u i : ℕ) → u < l.slots
    → i < 64 → at ≡ page_at l.slots u i → (z : Way) × Contains v.ways z × (z.slot ≡ u)
way_to l words views s id v b (Root r) sp at root u i less few word =
    let decls = b.sound.few.1 in
    let low : r < length l.decls = subst (λ (y : Layout). r < length y.decls) b.own.layout root.0 in
    let place : at ≡ root_at r = root.2 in absurd (omega arith)
way_to l words views s id v b (In y) sp at (inl child) u i less few word =
    let place : at ≡ page_at l.slots y.slot y.index =
    child.word ∙ ap (λ (z : Layout). page_at z.slots y.slot y.index) b.own.layout in
    let index = child.index in
    let same : y.slot ≡ u = omega arith in (child.way, child.has, child.slot ∙ same)
way_to l words views s id v b (In y) sp at (inr branch) u i less few word =
    let in-page = branch_stands l words views s id v y sp at b branch in
    let place = in-page.word in
    let index = in-page.few in
    let same : y.slot ≡ u = omega (arith, place, index, few, word) in
    (branch.way, branch.has, branch.slot ∙ same)

-- ---- the page of a pointer

-- the pointer is in the page of the slot
pub record IsOfPage (x : At) (u : ℕ) : Type 0 where
  pub spot : Spot
  pub is : x ≡ In spot
  pub slot : spot.slot ≡ u

-- it is, or it isn't
pub of_page : (x : At) (u : ℕ) → IsOfPage x u ⊎ ((y : Spot) → x ≡ In y → y.slot ≡ u → ⊥)
of_page (Root r) u = inr (λ y is slot. no_root r y is)
  where
    no_root : (r : ℕ) (y : Spot) → Root r ≡ In y → ⊥
    no_root r y e = absurd (cc)
of_page (In x) u =
    dite (ℕ_discrete x.slot u) (λ same. inl record { spot = x; is = refl; slot = same })
    (λ other. inr (λ y is slot. other (spot_slot x y is ∙ slot)))
  where
    slot_of_place : At → ℕ
    slot_of_place (Root r) = 0
    slot_of_place (In y) = y.slot

    spot_slot : (x y : Spot) → In x ≡ In y → x.slot ≡ y.slot
    spot_slot x y e = ap slot_of_place e

-- ---- words of a tree's interior page

-- the parts of the page's keys are as before where its separators are
same_child : (words words' : List ℕ) (slots t : ℕ) (sp : Span) (n j : ℕ) → n ≤ 30 → j < n
    → ((i : ℕ) → 34 ≤ i → i < 64 → get_or words' (page_at slots t i) 0 ≡ get_or words (page_at slots t i) 0)
    → tree_child words slots t sp n j ≡ tree_child words' slots t sp n j
same_child words words' slots t sp n zero few less stays =
    ap (λ x. let z : Span = record { storage = sp.storage; low = sp.low; high = if ltb 1 n then x - 1 else sp.high } in z)
    (sym (stays 34 (omega arith) (omega arith)))
same_child words words' slots t sp n (suc j) few less stays =
    ap (λ x. let z : Span = record { storage = sp.storage; low = x; high = child_high words slots t sp n (suc j) } in z)
    (sym (stays (34 + j) (omega arith) (omega arith)))
    ∙ last (ltb (suc j + 1) n) refl
  where
    last : (c : Bool) → ltb (suc j + 1) n ≡ c
        → (let z : Span = record { storage = sp.storage; low = get_or words' (page_at slots t (34 + j)) 0; high = child_high words slots t sp n (suc j) } in z)
        ≡ tree_child words' slots t sp n (suc j)
    last true is =
        ap (λ x. let z : Span = record { storage = sp.storage; low = get_or words' (page_at slots t (34 + j)) 0; high = if ltb (suc j + 1) n then x - 1 else sp.high } in z)
        (sym (stays (34 + suc j) (omega arith) (omega arith)))
    last false is =
        ap (λ c. let z : Span = record { storage = sp.storage; low = get_or words' (page_at slots t (34 + j)) 0; high = if c then get_or words (page_at slots t (34 + suc j)) 0 - 1 else sp.high } in z) is
        ∙ ap (λ c. let z : Span = record { storage = sp.storage; low = get_or words' (page_at slots t (34 + j)) 0; high = if c then get_or words' (page_at slots t (34 + suc j)) 0 - 1 else sp.high } in z) (sym is)

-- A tree's interior page shows its pointers as they are now, where none of its words has changed but those of pointers.
pub tree_pointed : (names : List (Decl × PagePlace)) (words words' : List ℕ) (slots t : ℕ) (f : Fenced)
    (over over' : Key → Number → Type 0) (places places' : Spot → Place) (d e : Table) (n : ℕ)
    → ((i : ℕ) → i < 4 → get_or words' (page_at slots t i) 0 ≡ get_or words (page_at slots t i) 0)
    → ((i : ℕ) → 34 ≤ i → i < 64 → get_or words' (page_at slots t i) 0 ≡ get_or words (page_at slots t i) 0)
    → ((j : ℕ) → j < n → n ≤ 30 → ShowsPointer names words (page_at slots t (4 + j)) (pointer_of d (at_index t j))
    → ShowsPointer names words' (page_at slots t (4 + j)) (pointer_of e (at_index t j)))
    → ((j : ℕ) → span_at e (at_index t j) ≡ span_at d (at_index t j)) → header_of e t ≡ header_of d t
    → ShowsTree names words slots t f over places d (Inner n) → ShowsTree names words' slots t f over' places' e (Inner n)
tree_pointed names words words' slots t f over over' places places' d e n head stays pointers spans header h = (
  h.0,
  head 0 (omega arith) ∙ h.1,
  h.2,
  h.3,
  head 1 (omega arith) ∙ h.4,
  head 2 (omega arith) ∙ h.5,
  (λ j less.
      let was = h.6 j less in
      let few : n ≤ 30 = h.3 in (
        pointers j less few was.0,
        spans j ∙ (was.1 ∙ same_child words words' slots t f.span n j few less stays),
      )),
  header ∙ h.7,
)

-- ---- the layout of a page

-- the layout of a page that stays, over the same keys
pub laid_spans : (o : Option Decl) (k : ℕ → Option Fenced) (d e : Table) (u : ℕ) (sp : Span) → page_of e u ≡ page_of d u
    → header_of e u ≡ header_of d u → ((j : ℕ) → span_at e (at_index u j) ≡ span_at d (at_index u j))
    → IsLaidOut o k d u sp → IsLaidOut o k e u sp
laid_spans None k d e u sp page header spans over = over
laid_spans (Some (Array id size)) k d e u sp page header spans over = (
  over.0,
  record {
    page = page ∙ over.1.page;
    spans = λ j has. spans j ∙ over.1.spans j has;
    header = header ∙ over.1.header;
  },
)
laid_spans (Some (Tree id)) k d e u sp page header spans over = over
