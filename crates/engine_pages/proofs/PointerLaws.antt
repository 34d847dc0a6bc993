-- What a view's facts say of a pointer.
use Rattle.std.proofs.Common.{◌≡◌, inl, inr, ℕ, zero, suc, ◌+◌, ◌/◌, ◌^◌, ◌<◌, ◌≤◌, Bool, true, false}
use Rattle.std.proofs.Common.{true≢false, cond, eqb, eqb-true, ltb, List, [], ◌∷◌, length, get_or, refl, sym, ap, ◌∙◌, subst, arith}
use Rattle.std.proofs.Common.{Option, Some, None, ne_eqb}
use Rattle.std.specs.List.{slice_get}
use Rattle.std.proofs.lemmas.Bool.{and_from, and_parts}
use Rattle.std.proofs.lemmas.Bool.Decides.{nat_tests}
use Rattle.serial_model.specs.declared.decl.Decl.{Decl}
use Rattle.serial_model.specs.declared.decl.Decl.TheVariants.{Array, Tree}
use Rattle.serial_model.specs.Keys.{id_of}
use Rattle.homes.specs.declared.places.At.{At}
use Rattle.homes.specs.declared.places.At.TheVariants.{Root, In}
use Rattle.homes.specs.declared.places.Holder.{Holder}
use Rattle.homes.specs.declared.places.Holder.TheVariants.{Free, Held, Dead}
use Rattle.homes.specs.declared.places.Span.{Span}
use Rattle.homes.specs.declared.places.Spot.{Spot}
use Rattle.wire_form.specs.Words.{slot_field}
use Rattle.snapshot_store.specs.declared.place.PagePlace.{PagePlace}
use Rattle.snapshot_store.specs.Content.{format_of, IsPageOf}
use Rattle.snapshot_store.specs.Places.{Format, StandsTo}
use Rattle.commit_core.specs.Places.{place_of}
use Rattle.drop_core.specs.declared.table.Led.{Led}
use Rattle.drop_core.specs.declared.table.Led.TheVariants.{Never, From, Away}
use Rattle.drop_core.specs.declared.table.Page.{Page}
use Rattle.drop_core.specs.declared.table.Page.TheVariants.{Inner}
use Rattle.drop_core.specs.declared.table.Pointer.{Pointer}
use Rattle.drop_core.specs.declared.table.SlotState.{SlotState}
use Rattle.drop_core.specs.declared.table.SlotState.TheVariants.{Unused, Owned, Published as Shown, Retired}
use Rattle.drop_core.specs.declared.table.Table.{Table}
use Rattle.drop_core.specs.Event.{is_owned}
use Rattle.drop_core.specs.Sound.{span_at, IsLedSo}
use Rattle.drop_core.specs.Table.{slot_of, page_of, pointer_of, at_index, has_pointer, is_live, is_led, is_never}
use Rattle.engine_rule.specs.Reading.{is_place, name_from, name_of}
use Rattle.engine_pages.specs.declared.layout.Layout.{Layout}
use Rattle.engine_pages.specs.declared.view.View.{View}
use Rattle.engine_pages.specs.Layout.{page_at}
use Rattle.engine_pages.specs.Pages.{decl_of, is_array_kind, is_tree_kind, part_between, root_span, Fenced, IsFenced}
use Rattle.engine_pages.specs.Pages.{IsOver, IsLaidOut}
use Rattle.engine_pages.specs.Pointers.{IsBranchAt, IsChildAt, IsPointerAt, page_half, slot_half, StandsFor}
use Rattle.engine_pages.specs.Resident.{IsNamed, place_for}
use Rattle.engine_pages.specs.Rule.{Shared, IsInner, IsWay}
use Rattle.engine_pages.specs.Stays.{IsKnown}
use Rattle.engine_pages.specs.Words.{IsOverwritten, ShowsPage, ShowsPointer, ShowsTree, is_shown, lock_field}
use Rattle.engine_pages.proofs.PagesStay.{inner_shape}
use Rattle.engine_pages.proofs.TreeFacts.{has_child}
use Rattle.engine_pages.proofs.Turns.{Begins}

-- ---- pages that are known

pub known_shown : (d : Table) (t : ℕ) (state : SlotState) (led : Led) → is_never led ≡ false → IsLedSo d t state led
    → is_shown state ≡ true
known_shown d t Unused led known so = refl
known_shown d t Owned Never known so = absurd (true≢false known)
known_shown d t Owned (From x) known so = absurd (no_publish so.0)
  where
    no_publish : Owned ≡ Shown → ⊥
    no_publish e = true≢false (ap is_owned e)
known_shown d t Owned Away known so = absurd (true≢false (sym so))
known_shown d t Shown led known so = refl
known_shown d t Retired led known so = refl

array_over : (o : Option Decl) (k : ℕ → Option Fenced) (d : Table) (t : ℕ) (sp : Span) → is_array_kind o ≡ true
    → IsLaidOut o k d t sp → (k t ≡ None) × IsOver d t sp
array_over None k d t sp kind over = absurd over
array_over (Some (Array id size)) k d t sp kind over = over
array_over (Some (Tree id)) k d t sp kind over = absurd (true≢false (sym kind))

pub tree_over : (o : Option Decl) (k : ℕ → Option Fenced) (d : Table) (t : ℕ) (sp : Span) → is_tree_kind o ≡ true
    → IsLaidOut o k d t sp → IsFenced (k t) sp
tree_over None k d t sp kind over = absurd over
tree_over (Some (Array id size)) k d t sp kind over = absurd (true≢false (sym kind))
tree_over (Some (Tree id)) k d t sp kind over = over

pub open_pointer : (a : ℕ) (h : Holder) → a + lock_field h < 2 ^ 60 → h ≡ Free
open_pointer a Free below = refl
open_pointer a (Held p) below = absurd (omega (arith, below))
open_pointer a Dead below = absurd (omega (arith, below))

-- ---- a pointer

-- what the view's facts say of it
pub record PointerIs (l : Layout) (words : List ℕ) (s : Shared) (v : View) (x : At) (sp : Span) (at : ℕ) : Type 0 where
  pub shows : ShowsPointer s.resident.places words at (pointer_of s.table x)
  pub span : span_at s.table x ≡ sp
  pub live : (pointer_of s.table x).holder ≡ Free → is_live s.table x ≡ true

-- an open pointer of a page to which something has led is live
held_live : (l : Layout) (words : List ℕ) (views : List View) (s : Shared) (id : ℕ) (v : View) (y : Spot)
    → Begins l words views s id v → IsKnown s.table y.slot → has_pointer (page_of s.table y.slot) y.index ≡ true
    → (pointer_of s.table (In y)).holder ≡ Free → is_live s.table (In y) ≡ true
held_live l words views s id v y b known has free = by_led (slot_of s.table y.slot).led refl
  where
    by_led : (led : Led) → (slot_of s.table y.slot).led ≡ led → is_live s.table (In y) ≡ true
    by_led Never e = absurd (true≢false (sym (ap is_never e) ∙ known))
    by_led (From z) e =
        and_from (is_led (slot_of s.table y.slot).led) (has_pointer (page_of s.table y.slot) y.index) (ap is_led e) has
    by_led Away e =
        let dead = b.sound.joint.pages.table.one_home_each.dead y.slot e y.index has in
        absurd (free_dead (pointer_of s.table (In y)).holder free dead)
      where
        free_dead : (h : Holder) → h ≡ Free → h ≡ Dead → ⊥
        free_dead h a c = absurd (cc)

child_is : (l : Layout) (words : List ℕ) (views : List View) (s : Shared) (id : ℕ) (v : View) (y : Spot) (sp : Span)
    (at : ℕ) → Begins l words views s id v → IsChildAt v y sp at → PointerIs l words s v (In y) sp at
child_is l words views s id v y sp at b is =
    let d = s.table in
    let way : IsWay l d s.trees v.grip.holds is.way = b.pages.ways is.way is.has in
    let kind : is_array_kind (decl_of l.decls is.way.span.storage) ≡ true =
    ap (λ (z : Layout). is_array_kind (decl_of z.decls is.way.span.storage)) (sym b.own.layout) ∙ is.kind in
    let over = array_over (decl_of l.decls is.way.span.storage) s.trees d is.way.slot is.way.span kind way.over in
    let within : y.slot < l.slots = subst (λ t. t < l.slots) is.slot way.within in
    let known : IsKnown d y.slot = subst (λ t. IsKnown d t) is.slot way.known in
    let shape = inner_shape is.way.span is.inner in
    let page : page_of d y.slot ≡ Inner 64 = ap (page_of d) (sym is.slot) ∙ (over.1.page ∙ shape) in
    let tree : s.trees y.slot ≡ None = ap s.trees (sym is.slot) ∙ over.0 in
    let counted = b.sound.joint.pages.table.holds_counted.led y.slot in
    let led = known_shown d y.slot (slot_of d y.slot).state (slot_of d y.slot).led known counted in
    let shown = subst (ShowsPage s.resident.places words l.slots y.slot (place_of s.story.places) d) page
    (b.sound.shown.pages y.slot within led tree) in
    let word : at ≡ page_at l.slots y.slot y.index =
    is.word ∙ ap (λ (z : Layout). page_at z.slots y.slot y.index) b.own.layout in
    let few : ltb y.index 64 ≡ true = let i = is.index in grind (arith, nat_tests) in record {
      shows = subst (λ k. ShowsPointer s.resident.places words k (pointer_of d (In y))) (sym word) (shown.1 y.index is.index);
      span =
          ap (λ t. span_at d (at_index t y.index)) (sym is.slot)
          ∙ (over.1.spans y.index (ap (λ (z : Page). has_pointer z y.index) shape ∙ few) ∙ sym is.span);
      live = λ free. held_live l words views s id v y b known (ap (λ (z : Page). has_pointer z y.index) page ∙ few) free;
    }

-- a page of a tree was made for one span alone
pub one_fence : (x : Option Fenced) (f g : Fenced) → x ≡ Some f → x ≡ Some g → f ≡ g
one_fence x f g a c = let both : Some f ≡ Some g = sym a ∙ c in cc

branch_is : (l : Layout) (words : List ℕ) (views : List View) (s : Shared) (id : ℕ) (v : View) (y : Spot) (sp : Span)
    (at : ℕ) → Begins l words views s id v → IsBranchAt v y sp at → PointerIs l words s v (In y) sp at
branch_is l words views s id v y sp at b is =
    let d = s.table in
    let n : ℕ = length (is.inner).separators in
    let way : IsWay l d s.trees v.grip.holds is.way = b.pages.ways is.way is.has in
    let inner : IsInner l d s.trees v.grip.holds is.inner = b.pages.treed.inners is.inner is.knows in
    let kind : is_tree_kind (decl_of l.decls is.way.span.storage) ≡ true =
    ap (λ (z : Layout). is_tree_kind (decl_of z.decls is.way.span.storage)) (sym b.own.layout) ∙ is.kind in
    let laid = tree_over (decl_of l.decls is.way.span.storage) s.trees d is.way.slot is.way.span kind way.over in
    let within : y.slot < l.slots = subst (λ t. t < l.slots) is.same inner.within in
    let known : IsKnown d y.slot = subst (λ t. IsKnown d t) is.same inner.known in
    let page : page_of d y.slot ≡ Inner (suc n) = ap (page_of d) (sym is.same) ∙ inner.page in
    let tree : s.trees y.slot ≡ Some inner.fence = ap s.trees (sym is.same) ∙ inner.there in
    let fence : inner.fence.span ≡ is.way.span =
    ap (λ (f : Fenced). f.span)
    (one_fence (s.trees y.slot) inner.fence laid.0 tree (ap s.trees (sym is.slot) ∙ laid.1)) ∙ laid.2 in
    let led = known_shown d y.slot (slot_of d y.slot).state (slot_of d y.slot).led known
    (b.sound.joint.pages.table.holds_counted.led y.slot) in
    let shown = subst
    (ShowsTree s.resident.places words l.slots y.slot inner.fence (IsOverwritten s.story) (place_of s.story.places) d) page
    (b.sound.shown.treed y.slot inner.fence within led tree) in
    let few = is.index in
    let child = shown.6 y.index (omega (arith, few)) in
    let word : at ≡ page_at l.slots y.slot (4 + y.index) =
    is.word ∙ ap (λ (z : Layout). page_at z.slots y.slot (4 + y.index)) b.own.layout in record {
      shows = subst (λ k. ShowsPointer s.resident.places words k (pointer_of d (In y))) (sym word) child.0;
      span =
          ap (λ t. span_at d (at_index t y.index)) (sym is.same)
          ∙ (inner.parts y.index is.index
          ∙ (ap (λ (z : Span). part_between z (is.inner).separators y.index) fence ∙ sym is.span));
      live = λ free.
          held_live l words views s id v y b known
          (ap (λ (z : Page). has_pointer z y.index) page ∙ has_child n y.index is.index) free;
    }

pub pointer_is : (l : Layout) (words : List ℕ) (views : List View) (s : Shared) (id : ℕ) (v : View) (x : At) (sp : Span)
    (at : ℕ) → Begins l words views s id v → IsPointerAt v x sp at → PointerIs l words s v x sp at
pointer_is l words views s id v (Root r) sp at b is =
    let few : r < length l.decls = subst (λ (z : Layout). r < length z.decls) b.own.layout is.0 in record {
      shows = subst (λ k. ShowsPointer s.resident.places words k (pointer_of s.table (Root r))) (sym is.2) (b.sound.shown.roots r few);
      span = b.sound.roots r ∙ (ap (λ (z : Layout). root_span z.decls r) (sym b.own.layout) ∙ sym is.1);
      live = λ free. refl;
    }
pointer_is l words views s id v (In y) sp at b (inl child) = child_is l words views s id v y sp at b child
pointer_is l words views s id v (In y) sp at b (inr branch) = branch_is l words views s id v y sp at b branch

-- ---- an open pointer's word

-- the halves of an open pointer's word
pub record Halves (q : Pointer) (number n : ℕ) : Type 0 where
  pub page : number ≡ page_half n
  pub slot : q.slot ≡ slot_half (n / 2 ^ 32)

pub halves : (places : List (Decl × PagePlace)) (words : List ℕ) (at : ℕ) (q : Pointer)
    (shows : ShowsPointer places words at q) → q.holder ≡ Free → Halves q shows.number (get_or words at 0)
halves places words at q shows free =
    let none : lock_field q.holder ≡ 0 = ap lock_field free in
    let word = shows.word in
    let low = shows.page in
    let field : get_or words at 0 / 2 ^ 32 ≡ slot_field q.slot = omega arith in
    record { page = omega arith; slot = by_slot q.slot ∙ ap slot_half (sym field) }
  where
    by_slot : (o : Option ℕ) → o ≡ slot_half (slot_field o)
    by_slot None = refl
    by_slot (Some t) = ap slot_half (plus_one t)
      where
        plus_one : (t : ℕ) → suc t ≡ t + 1
        plus_one t = omega arith

-- ---- the page that a pointer names

-- a name, of which the first is this one, is that of a place
record IsFound (name : ℕ) (places : List (Decl × PagePlace)) (decl : Decl) (p : PagePlace) : Type 0 where
  index : ℕ
  entry : Decl × PagePlace
  at : slice_get places index ≡ Some entry
  same : is_place decl p entry ≡ true
  is : name_from name places decl p ≡ name + index

name_found : (name : ℕ) (xs : List (Decl × PagePlace)) (decl : Decl) (p : PagePlace) → 0 < name_from name xs decl p
    → IsFound name xs decl p
name_found name [] decl p some = absurd (omega arith)
name_found name (e ∷ xs) decl p some = by_test (is_place decl p e) refl (λ more. name_found (suc name) xs decl p more)
  where
    by_test : (c : Bool) → is_place decl p e ≡ c
        → (0 < name_from (suc name) xs decl p → IsFound (suc name) xs decl p) → IsFound name (e ∷ xs) decl p
    by_test true hit rest = record {
      index = 0;
      entry = e;
      at = refl;
      same = hit;
      is = ap (λ (c : Bool). cond c name (name_from (suc name) xs decl p)) hit ∙ (omega arith);
    }
    by_test false miss rest =
        let same : name_from name (e ∷ xs) decl p ≡ name_from (suc name) xs decl p =
        ap (λ (c : Bool). cond c name (name_from (suc name) xs decl p)) miss in
        let found = rest (subst (λ k. 0 < k) same some) in
        let is = found.is in record {
          index = suc found.index;
          entry = found.entry;
          at = found.at;
          same = found.same;
          is = omega (arith, same, is);
        }

same_place : (decl : Decl) (p : PagePlace) (e : Decl × PagePlace) → is_place decl p e ≡ true
    → (id_of e.0 ≡ id_of decl) × (e.1 ≡ p)
same_place decl p e is =
    let one = and_parts (eqb (id_of e.0) (id_of decl)) _ is in
    let two = and_parts (eqb (e.1).number p.number) _ one.1 in
    let three = and_parts (eqb (e.1).low p.low) (eqb (e.1).high p.high) two.1 in (
      eqb-true (id_of e.0) (id_of decl) one.0,
      place_is e.1 p (eqb-true (e.1).number p.number two.0) (eqb-true (e.1).low p.low three.0) (eqb-true (e.1).high p.high three.1),
    )
  where
    place_is : (a c : PagePlace) → a.number ≡ c.number → a.low ≡ c.low → a.high ≡ c.high → a ≡ c
    place_is a c number low high =
        ap (λ k. let z : PagePlace = record { number = k; low = a.low; high = a.high } in z) number
        ∙ (ap (λ k. let z : PagePlace = record { number = c.number; low = k; high = a.high } in z) low
        ∙ ap (λ k. let z : PagePlace = record { number = c.number; low = c.low; high = k } in z) high)

-- The page with this number has its name where it stands for these keys.
pub record IsEntry (places : List (Decl × PagePlace)) (sp : Span) (number name : ℕ) : Type 0 where
  pub index : ℕ
  pub decl : Decl
  pub at : slice_get places index ≡ Some (decl, place_for sp number)
  pub storage : id_of decl ≡ sp.storage
  pub is : name ≡ suc index

pub named_entry : (places : List (Decl × PagePlace)) (sp : Span) (number name : ℕ) → IsNamed places sp number name
    → 0 < number → IsEntry places sp number name
named_entry places sp number name named some =
    let p = place_for sp number in
    let decl = named.decl in
    let nonzero : name_of places decl p ≡ name_from 1 places decl p =
    ap (λ (c : Bool). cond c 0 (name_from 1 places decl p)) (ne_eqb number 0 (λ e. omega (arith, e, some))) in
    let first : name ≡ name_from 1 places decl p = named.is ∙ nonzero in
    let found = name_found 1 places decl p (subst (λ k. 0 < k) first (named.there some)) in
    let same = same_place decl p found.entry found.same in
    let at-is = found.is in record {
      index = found.index;
      decl = (found.entry).0;
      at = found.at ∙ entry_is found.entry p same.1;
      storage = same.0 ∙ named.storage;
      is = omega (arith, first, at-is);
    }
  where
    entry_is : (e : Decl × PagePlace) (p : PagePlace) → e.1 ≡ p → Some e ≡ Some (e.0, p)
    entry_is e p same = ap (λ (q : PagePlace). let o : Option (Decl × PagePlace) = Some (e.0, q) in o) same

stands_there : (F : Format) (Is : PagePlace → List ℕ → Type 0) (pages : List (List ℕ)) (depth : ℕ) (p : PagePlace)
    → StandsTo F Is pages depth p → p.number ≤ length pages
stands_there F Is pages zero p stands = absurd stands
stands_there F Is pages (suc d) p stands = stands.there

-- a page that is named stands for the keys
pub named_stands : (l : Layout) (words : List ℕ) (views : List View) (s : Shared) (id : ℕ) (v : View) (sp : Span)
    (number name : ℕ) → Begins l words views s id v → IsNamed s.resident.places sp number name → 0 < number
    → StandsFor l.decls s.resident.pages sp number
named_stands l words views s id v sp number name b named some =
    let e = named_entry s.resident.places sp number name named some in
    (e.decl, e.storage, b.sound.named.stand e.index (e.decl, place_for sp number) e.at)

-- and is there
pub standing_there : (decls : List Decl) (pages : List (List ℕ)) (sp : Span) (n : ℕ) → StandsFor decls pages sp n
    → n ≤ length pages
standing_there decls pages sp n h =
    stands_there (format_of h.0) (IsPageOf h.0) pages h.2.depth (place_for sp n) h.2.stands
