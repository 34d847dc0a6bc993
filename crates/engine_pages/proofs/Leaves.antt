-- What stands of a record of an array, in a leaf in a slot to which something has led.
use Rattle.std.proofs.Common.{◌≡◌, ◌≢◌, ℕ, zero, suc, ◌+◌, ◌*◌, ◌<◌, ◌≤◌, ◌^◌, Bool, true, false, true≢false, cond, eqb}
use Rattle.std.proofs.Common.{eq-eqb, ne_eqb, List, [], ◌∷◌, length, get_or, refl, sym, ap, ◌∙◌, subst, arith, Option}
use Rattle.std.proofs.Common.{Some, None}
use Rattle.std.specs.Prelude.{◌||◌, ◌&&◌}
use Rattle.std.proofs.lemmas.Bool.{or_right}
use Rattle.serial_model.specs.declared.decl.Decl.{Decl}
use Rattle.serial_model.specs.declared.decl.Decl.TheVariants.{Array, Tree}
use Rattle.serial_model.specs.declared.key.Key.{Key}
use Rattle.homes.specs.declared.places.At.{At}
use Rattle.homes.specs.declared.places.Holder.{Holder}
use Rattle.homes.specs.declared.places.Holder.TheVariants.{Free, Held, Dead}
use Rattle.homes.specs.declared.places.Home.TheVariants.{InSlot}
use Rattle.homes.specs.declared.places.Span.{Span}
use Rattle.homes.specs.declared.places.Spot.{Spot}
use Rattle.homes.specs.Homes.{same_key, has_key}
use Rattle.homes.specs.Laws.{same_key-self}
use Rattle.commit_core.specs.declared.place.Place.{Place}
use Rattle.commit_core.specs.declared.story.Story.{Story}
use Rattle.commit_core.specs.Places.{place_of, home_of, holder_is, stands, stands_at}
use Rattle.drop_core.specs.declared.table.Led.{Led}
use Rattle.drop_core.specs.declared.table.Led.TheVariants.{Never, From, Away}
use Rattle.drop_core.specs.declared.table.Page.{Page}
use Rattle.drop_core.specs.declared.table.Page.TheVariants.{Blank, Leaf, Inner, Split}
use Rattle.drop_core.specs.declared.table.Table.{Table}
use Rattle.drop_core.specs.Table.{slot_of, page_of, pointer_of, header_of, leaf_home, is_never}
use Rattle.drop_core.specs.Sound.{IsLedSo, TiesTo, TiesPage}
use Rattle.engine_pages.specs.declared.layout.Layout.{Layout}
use Rattle.engine_pages.specs.declared.view.View.{View}
use Rattle.engine_pages.specs.Layout.{page_at}
use Rattle.engine_pages.specs.Pages.{keys_from, decl_of, is_array, is_array_kind, Fenced, IsOver, IsLaidOut}
use Rattle.engine_pages.specs.Rule.{Shared, RecordStands, Sound}
use Rattle.engine_pages.specs.Words.{ShowsRecord, ShowsPage, lock_field, spot}
use Rattle.engine_pages.proofs.Joint.{seat_sound}
use Rattle.engine_pages.proofs.PagesStay.{leaf_shape}
use Rattle.engine_pages.proofs.PointerLaws.{known_shown}

-- ---- the keys of a leaf

abbrev pub key_of : ℕ → ℕ → Key
key_of id k = record { storage = id; key = k }

length_keys : (id low n : ℕ) → length (keys_from id low n) ≡ n
length_keys id low zero = refl
length_keys id low (suc n) = ap suc (length_keys id (low + 1) n)

key_next : (id low i : ℕ) → key_of id ((low + 1) + i) ≡ key_of id (low + suc i)
key_next id low i = ap (key_of id) (omega arith)

-- two keys of one storage differ
apart_keys : (id a b : ℕ) → a ≢ b → same_key (key_of id a) (key_of id b) ≡ false
apart_keys id a b other =
    ap (λ (c : Bool). eqb id id && c) (ne_eqb a b other) ∙ ap (λ (c : Bool). c && false) (eq-eqb id id refl)

home_from : (t j id low n i : ℕ) → i < n
    → leaf_home t j (keys_from id low n) (key_of id (low + i)) ≡ InSlot (spot t (j + i))
home_from t j id low zero i less = absurd (omega arith)
home_from t j id low (suc n) zero less =
    let same : key_of id low ≡ key_of id (low + 0) = ap (key_of id) (omega arith) in
    ap (λ (c : Bool). cond c (InSlot (spot t j)) (leaf_home t (suc j) (keys_from id (low + 1) n) (key_of id (low + 0))))
    (ap (λ (k : Key). same_key (key_of id low) k) (sym same) ∙ same_key-self (key_of id low))
    ∙ ap (λ k. InSlot (spot t k)) (omega arith)
home_from t j id low (suc n) (suc i) less =
    ap (λ (c : Bool). cond c (InSlot (spot t j)) (leaf_home t (suc j) (keys_from id (low + 1) n) (key_of id (low + suc i))))
    (apart_keys id low (low + suc i) (λ e. absurd (omega arith)))
    ∙ (ap (λ (k : Key). leaf_home t (suc j) (keys_from id (low + 1) n) k) (sym (key_next id low i))
    ∙ (home_from t (suc j) id (low + 1) n i (omega arith) ∙ ap (λ k. InSlot (spot t k)) (omega arith)))

has_from : (id low n i : ℕ) → i < n → has_key (keys_from id low n) (key_of id (low + i)) ≡ true
has_from id low zero i less = absurd (omega arith)
has_from id low (suc n) zero less =
    let same : key_of id low ≡ key_of id (low + 0) = ap (key_of id) (omega arith) in
    ap (λ (c : Bool). c || has_key (keys_from id (low + 1) n) (key_of id (low + 0)))
    (ap (λ (k : Key). same_key (key_of id low) k) (sym same) ∙ same_key-self (key_of id low))
has_from id low (suc n) (suc i) less =
    or_right (same_key (key_of id low) (key_of id (low + suc i)))
    (has_key (keys_from id (low + 1) n) (key_of id (low + suc i)))
    (ap (λ (k : Key). has_key (keys_from id (low + 1) n) k) (sym (key_next id low i))
    ∙ has_from id (low + 1) n i (omega arith))

-- ---- its words

-- The record at this place has its word here, and its value in the next one.
pub record IsWordOf (slots : ℕ) (x : Spot) (at : ℕ) : Type 0 where
  pub slot : x.slot < slots
  pub within : x.index < 32
  pub word : at ≡ page_at slots x.slot (2 * x.index)

-- a place is told by its word
pub one_place : (slots : ℕ) (x y : Spot) (at : ℕ) → IsWordOf slots x at → IsWordOf slots y at → x ≡ y
one_place slots x y at is same =
    let a = is.word in
    let b = same.word in
    let i = is.within in
    let j = same.within in
    let slot : x.slot ≡ y.slot = omega arith in
    let index : x.index ≡ y.index = omega arith in
    ap (λ (t : ℕ). let z : Spot = record { slot = t; index = x.index } in z) slot
    ∙ ap (λ (t : ℕ). let z : Spot = record { slot = y.slot; index = t } in z) index

-- no record's word stands right behind another one's
pub none_behind : (slots : ℕ) (x y : Spot) (at : ℕ) → IsWordOf slots x at → IsWordOf slots y (at + 1) → ⊥
none_behind slots x y at is next =
    let a = is.word in let b = next.word in let i = is.within in let j = next.within in absurd (omega arith)

-- ---- the span of a leaf

abbrev first_key : List Key → Key
first_key [] = key_of 0 0
first_key (k ∷ keys) = k

abbrev keys_in : Page → List Key
keys_in Blank = []
keys_in (Leaf keys) = keys
keys_in (Inner n) = []
keys_in Split = []

first_from : (id low n : ℕ) → 0 < n → first_key (keys_from id low n) ≡ key_of id low
first_from id low zero some = absurd (omega arith)
first_from id low (suc n) some = refl

-- leaves with the same keys are over the same span, as far as keys go
pub one_leaf : (id low other high : ℕ) → Leaf (keys_from id low 32) ≡ Leaf (keys_from other high 32)
    → (id ≡ other) × (low ≡ high)
one_leaf id low other high same =
    let first : key_of id low ≡ key_of other high =
    sym (first_from id low 32 (omega arith))
    ∙ (ap (λ (p : Page). first_key (keys_in p)) same ∙ first_from other high 32 (omega arith)) in
    (ap (λ (k : Key). k.storage) first, ap (λ (k : Key). k.key) first)

-- ---- the record

-- a page of an array that is laid out
array_over : (o : Option Decl) (k : ℕ → Option Fenced) (d : Table) (t : ℕ) (sp : Span) → is_array_kind o ≡ true
    → IsLaidOut o k d t sp → (k t ≡ None) × IsOver d t sp
array_over None k d t sp kind over = absurd over
array_over (Some (Array id size)) k d t sp kind over = over
array_over (Some (Tree id)) k d t sp kind over = absurd (true≢false (sym kind))

module _ (l : Layout) (words : List ℕ) (views : List View) (s : Shared) (h : Sound l words views s) (k : Key) (x : Spot)
    (at : ℕ) (r : RecordStands l s k x at) where
  abbrev m : Story
  m = s.story

  abbrev d : Table
  d = s.table

  abbrev pub leaf_keys : List Key
  leaf_keys = keys_from r.span.storage r.span.low 32

  over : (s.trees x.slot ≡ None) × IsOver d x.slot r.span
  over = array_over (decl_of l.decls r.span.storage) s.trees d x.slot r.span r.kind r.over

  pub header_is : header_of d x.slot ≡ Dead
  header_is = over.1.header

  pub page_is : page_of d x.slot ≡ Leaf leaf_keys
  page_is = over.1.page ∙ leaf_shape r.span r.leaf

  pub tree_is : s.trees x.slot ≡ None
  tree_is = over.0

  pub array_is : is_array l.decls k.storage ≡ true
  array_is = ap (λ (q : Key). is_array l.decls q.storage) r.key ∙ r.kind

  pub word_is : IsWordOf l.slots x at
  word_is = record { slot = r.within; within = r.index; word = r.word }

  pub shown : ShowsRecord words at (place_of m.places x)
  shown =
      let led = known_shown d x.slot (slot_of d x.slot).state (slot_of d x.slot).led r.known
      (h.joint.pages.table.holds_counted.led x.slot) in
      let page = subst (ShowsPage s.resident.places words l.slots x.slot (place_of m.places) d) page_is
      (h.shown.pages x.slot r.within led tree_is) in
      let few : x.index < length leaf_keys =
      let n = length_keys r.span.storage r.span.low 32 in let i : x.index < 32 = r.index in omega arith in
      subst (λ j. ShowsRecord words j (place_of m.places x)) (sym word_is.word) (page.1 x.index few)

  zero_plus : 0 + x.index ≡ x.index
  zero_plus = omega arith

  home_in : leaf_home x.slot 0 leaf_keys k ≡ InSlot x
  home_in =
      ap (leaf_home x.slot 0 leaf_keys) r.key
      ∙ (home_from x.slot 0 r.span.storage r.span.low 32 x.index r.index ∙ ap (λ i. InSlot (spot x.slot i)) zero_plus)

  -- where a pointer leads to its page, the place is the key's home
  pub home_led : (y : At) → (slot_of d x.slot).led ≡ From y → home_of m.homes k ≡ InSlot x
  home_led y e =
      let so = subst (IsLedSo d x.slot (slot_of d x.slot).state) e (h.joint.pages.table.holds_counted.led x.slot) in
      let ties = h.joint.pages.table.one_home_each.ties y so.1 in
      let to = subst (TiesTo (home_of m.homes) d (pointer_of d y).span (pointer_of d y).page) so.2 ties in
      let leaf = subst (TiesPage (home_of m.homes) d (pointer_of d y).span x.slot) page_is to in
      let has : has_key leaf_keys k ≡ true =
      ap (has_key leaf_keys) r.key ∙ has_from r.span.storage r.span.low 32 x.index r.index in
      leaf.0 k (leaf.1 k has) ∙ home_in

  -- and so it is where it isn't dead
  pub home : ((place_of m.places x).holder ≡ Dead → ⊥) → home_of m.homes k ≡ InSlot x
  home alive = by_led (slot_of d x.slot).led refl
    where
      by_led : (led : Led) → (slot_of d x.slot).led ≡ led → home_of m.homes k ≡ InSlot x
      by_led Never e = absurd (true≢false (sym (ap is_never e) ∙ r.known))
      by_led Away e = absurd (alive (h.joint.leaves_stay_dead x.slot leaf_keys e page_is k x home_in))
      by_led (From y) e = home_led y e

  -- a word with the lock bit at the key's home has a holder, which is a seat that has the lock
  pub held_by : home_of m.homes k ≡ InSlot x → 2 ^ 60 ≤ get_or words at 0
      → (q : ℕ) × (q < 9) × (has_key (s.seats q).locks k ≡ true)
  held_by here high = by_holder (place_of m.places x).holder refl
    where
      stands_here : stands m.places m.homes k ≡ place_of m.places x
      stands_here = ap (stands_at m.places) here

      by_holder : (o : Holder) → (place_of m.places x).holder ≡ o
          → (q : ℕ) × (q < 9) × (has_key (s.seats q).locks k ≡ true)
      by_holder Free e =
          let small = shown.small in
          let draw = small.draw in
          let epoch = small.epoch in
          let word = shown.word in
          let none : lock_field (place_of m.places x).holder ≡ 0 = ap lock_field e in
          absurd (omega (arith, high, word, none, draw, epoch))
      by_holder (Held q) e =
          let mine : holder_is q (stands m.places m.homes k).holder ≡ true =
          ap (λ (z : Place). holder_is q z.holder) stands_here ∙ (ap (holder_is q) e ∙ eq-eqb q q refl) in
          let few : q < 9 = h.joint.commits.holders_are_seats k q mine in
          (q, few, (seat_sound l s q few h.joint).lock_owners.listed k mine)
      by_holder Dead e =
          absurd (h.joint.commits.story.homes_alive k (ap (λ (z : Place). z.holder) stands_here ∙ e))

-- ---- two records

-- two records of pages in one slot are in leaves over the same keys
pub one_span : (l : Layout) (words : List ℕ) (views : List View) (s : Shared) → Sound l words views s → (k q : Key)
    (x y : Spot) (at other : ℕ) → (a : RecordStands l s k x at) → (b : RecordStands l s q y other) → x.slot ≡ y.slot
    → ((a.span).storage ≡ (b.span).storage) × ((a.span).low ≡ (b.span).low)
one_span l words views s h k q x y at other a b same =
    one_leaf (a.span).storage (a.span).low (b.span).storage (b.span).low
    (sym (page_is l words views s h k x at a)
    ∙ (ap (page_of s.table) same ∙ page_is l words views s h q y other b))

-- so two at one word are one
pub one_record : (l : Layout) (words : List ℕ) (views : List View) (s : Shared) → Sound l words views s → (k q : Key)
    (x y : Spot) (at : ℕ) → (a : RecordStands l s k x at) → (b : RecordStands l s q y at) → (q ≡ k) × (y ≡ x)
one_record l words views s h k q x y at a b =
    let place : x ≡ y =
    one_place l.slots x y at (word_is l words views s h k x at a) (word_is l words views s h q y at b) in
    let span = one_span l words views s h k q x y at at a b (ap (λ (z : Spot). z.slot) place) in
    let index : x.index ≡ y.index = ap (λ (z : Spot). z.index) place in
    let key : key_of (b.span).storage ((b.span).low + y.index) ≡ key_of (a.span).storage ((a.span).low + x.index) =
    ap (λ (t : ℕ). key_of t ((b.span).low + y.index)) (sym span.0)
    ∙ ap (λ (t : ℕ). key_of (a.span).storage t) (let low = span.1 in omega (arith, low, index)) in
    (b.key ∙ (key ∙ sym a.key), sym place)
