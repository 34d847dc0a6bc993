-- What a pass knows of a record of a tree in a leaf that it holds.
use Rattle.std.proofs.Common.{◌≡◌, ℕ, zero, suc, ◌+◌, ◌*◌, ◌<◌, Bool, true, false, true≢false, cond, not}
use Rattle.std.proofs.Common.{List, [], ◌∷◌, refl, sym, ap, ◌∙◌, subst, arith, Option, Some, None}
use Rattle.std.specs.Prelude.{◌||◌}
use Rattle.std.specs.List.{slice_get}
use Rattle.std.proofs.lemmas.Bool.{and_parts}
use Rattle.std.proofs.lemmas.Option.{slice_get_within}
use Rattle.serial_model.specs.declared.decl.Decl.{Decl}
use Rattle.serial_model.specs.declared.decl.Decl.TheVariants.{Array, Tree}
use Rattle.serial_model.specs.declared.key.Key.{Key}
use Rattle.homes.specs.declared.places.Holder.TheVariants.{Dead}
use Rattle.homes.specs.declared.places.Home.TheVariants.{InSlot}
use Rattle.homes.specs.declared.places.Spot.{Spot}
use Rattle.homes.specs.Homes.{same_key, has_key}
use Rattle.homes.specs.Laws.{same_key-self, same_key-true}
use Rattle.commit_core.specs.Places.{place_of, home_of}
use Rattle.drop_core.specs.declared.table.Led.{Led}
use Rattle.drop_core.specs.declared.table.Led.TheVariants.{Never, From, Away}
use Rattle.drop_core.specs.declared.table.Page.{Page}
use Rattle.drop_core.specs.declared.table.Page.TheVariants.{Blank, Leaf, Inner, Split}
use Rattle.drop_core.specs.Event.{each_once}
use Rattle.drop_core.specs.Sound.{IsLedSo, TiesTo, TiesPage}
use Rattle.drop_core.specs.Table.{slot_of, page_of, pointer_of, has_slot, is_never, leaf_home, leaf_place}
use Rattle.engine_pages.specs.declared.layout.Layout.{Layout}
use Rattle.engine_pages.specs.declared.view.View.{View}
use Rattle.engine_pages.specs.Layout.{page_at, words_of}
use Rattle.engine_pages.specs.Pages.{decl_of, is_array, is_array_kind, is_tree, is_tree_kind, Fenced}
use Rattle.engine_pages.specs.Records.{IsTreeRecordAt, IsTreeRecordIn}
use Rattle.engine_pages.specs.Rule.{Shared, IsKnownLeaf}
use Rattle.engine_pages.specs.Stays.{IsKnown}
use Rattle.engine_pages.specs.Words.{IsOverwritten, ShowsKeyed, ShowsTree, spot}
use Rattle.engine_pages.proofs.PointerLaws.{known_shown}
use Rattle.engine_pages.proofs.Seats.{at_front}
use Rattle.engine_pages.proofs.Turns.{Begins}

-- ---- storages

no_array : (o : Option Decl) → is_tree_kind o ≡ true → is_array_kind o ≡ false
no_array None tree = refl
no_array (Some (Array id size)) tree = absurd (true≢false (sym tree))
no_array (Some (Tree id)) tree = refl

-- a tree is no array
pub tree_no_array : (decls : List Decl) (id : ℕ) → is_tree decls id ≡ true → is_array decls id ≡ false
tree_no_array decls id tree = no_array (decl_of decls id) tree

-- ---- the keys of a leaf

key_among : (keys : List Key) (k : Key) (j : ℕ) → slice_get keys j ≡ Some k → has_key keys k ≡ true
key_among [] k j e = absurd (cc)
key_among (y ∷ keys) k zero e =
    let same : y ≡ k = cc in
    ap (λ (z : Key). same_key z k || has_key keys k) same ∙ ap (λ c. c || has_key keys k) (same_key-self k)
key_among (y ∷ keys) k (suc j) e = by_test (same_key y k) (key_among keys k j e)
  where
    by_test : (c : Bool) → has_key keys k ≡ true → (c || has_key keys k) ≡ true
    by_test true h = refl
    by_test false h = h

-- the place of a key in a leaf that has each key once
leaf_home_at : (t i : ℕ) (keys : List Key) (k : Key) (j : ℕ) → each_once keys ≡ true → slice_get keys j ≡ Some k
    → leaf_home t i keys k ≡ InSlot (spot t (i + j))
leaf_home_at t i [] k j once e = absurd (cc)
leaf_home_at t i (y ∷ keys) k zero once e =
    let same : y ≡ k = cc in
    ap (λ (z : Key). cond (same_key z k) (leaf_place t i) (leaf_home t (suc i) keys k)) same
    ∙ (ap (λ c. cond c (leaf_place t i) (leaf_home t (suc i) keys k)) (same_key-self k)
    ∙ ap (λ z. InSlot (spot t z)) plus)
  where
    plus : i ≡ i + 0
    plus = omega arith
leaf_home_at t i (y ∷ keys) k (suc j) once e =
    let both = and_parts (not (has_key keys y)) (each_once keys) once in
    by_test (same_key y k) refl both.0 (leaf_home_at t (suc i) keys k j both.1 e)
  where
    next : (suc i) + j ≡ i + suc j
    next = omega arith

    by_test : (c : Bool) → same_key y k ≡ c → not (has_key keys y) ≡ true
        → leaf_home t (suc i) keys k ≡ InSlot (spot t ((suc i) + j))
        → leaf_home t i (y ∷ keys) k ≡ InSlot (spot t (i + suc j))
    by_test true hit new rest =
        let same : y ≡ k = same_key-true y k hit in
        absurd (true≢false (sym new ∙ ap not (ap (has_key keys) same ∙ key_among keys k j e)))
    by_test false miss new rest =
        ap (λ c. cond c (leaf_place t i) (leaf_home t (suc i) keys k)) miss ∙ (rest ∙ ap (λ z. InSlot (spot t z)) next)

-- ---- the record

-- both words are words of the table
pub word_below : (v : View) (k : Key) (x : Spot) (at : ℕ) → IsTreeRecordAt v k x at → at + 1 < words_of v.layout
word_below v k x at is =
    let slot = is.there in
    let index : x.index < 16 = is.index in
    let word : at ≡ page_at v.layout.slots x.slot (17 + 3 * x.index) = let word = is.word in omega arith in omega arith

no_keys : (keys : List Key) (i : ℕ) (k : Key) → keys ≡ [] → slice_get keys i ≡ Some k → ⊥
no_keys keys i k none key =
    let empty : slice_get [] i ≡ Some k = sym (ap (λ (z : List Key). slice_get z i) none) ∙ key in absurd (cc)

module _ (l : Layout) (words : List ℕ) (views : List View) (s : Shared) (id : ℕ) (v : View)
    (b : Begins l words views s id v) (k : Key) (x : Spot) (at : ℕ) (is : IsTreeRecordAt v k x at) where
  pub here : IsTreeRecordIn l.decls l.slots v.ways v.known k x at
  here = subst (λ (y : Layout). IsTreeRecordIn y.decls y.slots v.ways v.known k x at) b.own.layout is

  pub leaf : IsKnownLeaf l s.table s.trees v.grip.holds is.leaf
  leaf = b.pages.treed.known is.leaf is.knows

  pub held : has_slot v.grip.holds x.slot ≡ true
  held = subst (λ t. has_slot v.grip.holds t ≡ true) is.same leaf.held

  pub known : IsKnown s.table x.slot
  known = subst (IsKnown s.table) is.same leaf.known

  abbrev pub fence : Fenced
  fence = leaf.fence

  pub tree_is : s.trees x.slot ≡ Some fence
  tree_is = ap s.trees (sym is.same) ∙ leaf.there

  pub key_is : slice_get fence.keys x.index ≡ Some k
  key_is = at_front (is.leaf).keys fence.keys x.index k leaf.front is.key

  pub no_array_is : is_array l.decls k.storage ≡ false
  no_array_is = tree_no_array l.decls k.storage here.kind

  pub shows : ShowsTree s.resident.places words l.slots x.slot fence (IsOverwritten s.story) (place_of s.story.places)
      s.table (page_of s.table x.slot)
  shows =
      let led = known_shown s.table x.slot (slot_of s.table x.slot).state (slot_of s.table x.slot).led known
      (b.sound.joint.pages.table.holds_counted.led x.slot) in
      b.sound.shown.treed x.slot fence here.there led tree_is

  pub keyed : ShowsKeyed words (page_at l.slots x.slot (16 + 3 * x.index)) (IsOverwritten s.story) k
      (place_of s.story.places x)
  keyed = by_page (page_of s.table x.slot) shows
    where
      by_page : (page : Page)
          → ShowsTree s.resident.places words l.slots x.slot fence (IsOverwritten s.story) (place_of s.story.places)
          s.table page
          → ShowsKeyed words (page_at l.slots x.slot (16 + 3 * x.index)) (IsOverwritten s.story) k
          (place_of s.story.places x)
      by_page Blank h = absurd h
      by_page (Leaf keys) h = h.2.keys x.index k key_is
      by_page (Inner n) h = absurd (no_keys fence.keys x.index k h.0 key_is)
      by_page Split h = h.2.keys x.index k key_is

  pub word_is : at ≡ page_at l.slots x.slot (17 + 3 * x.index)
  word_is = let word = here.word in omega arith

  -- where its record isn't dead the page is a leaf
  pub page_is : ((place_of s.story.places x).holder ≡ Dead → ⊥) → page_of s.table x.slot ≡ Leaf fence.keys
  page_is alive = by_page (page_of s.table x.slot) refl shows
    where
      by_page : (page : Page) → page_of s.table x.slot ≡ page
          → ShowsTree s.resident.places words l.slots x.slot fence (IsOverwritten s.story) (place_of s.story.places)
          s.table page
          → page_of s.table x.slot ≡ Leaf fence.keys
      by_page Blank laid h = absurd h
      by_page (Leaf keys) laid h = laid ∙ ap Leaf (sym h.0)
      by_page (Inner n) laid h = absurd (no_keys fence.keys x.index k h.0 key_is)
      by_page Split laid h = absurd (alive (h.3 x.index (slice_get_within fence.keys x.index k key_is)))

  once : each_once fence.keys ≡ true
  once = by_page (page_of s.table x.slot) shows
    where
      by_page : (page : Page)
          → ShowsTree s.resident.places words l.slots x.slot fence (IsOverwritten s.story) (place_of s.story.places)
          s.table page
          → each_once fence.keys ≡ true
      by_page Blank h = absurd h
      by_page (Leaf keys) h = h.2.once
      by_page (Inner n) h = absurd (no_keys fence.keys x.index k h.0 key_is)
      by_page Split h = h.2.once

  home_in : leaf_home x.slot 0 fence.keys k ≡ InSlot x
  home_in = leaf_home_at x.slot 0 fence.keys k x.index once key_is ∙ ap (λ i. InSlot (spot x.slot i)) plus
    where
      plus : 0 + x.index ≡ x.index
      plus = omega arith

  -- and the place is the key's home
  pub home : ((place_of s.story.places x).holder ≡ Dead → ⊥) → home_of s.story.homes k ≡ InSlot x
  home alive = by_led (slot_of s.table x.slot).led refl
    where
      by_led : (led : Led) → (slot_of s.table x.slot).led ≡ led → home_of s.story.homes k ≡ InSlot x
      by_led Never e = absurd (true≢false (sym (ap is_never e) ∙ known))
      by_led Away e =
          absurd (alive (b.sound.joint.leaves_stay_dead x.slot fence.keys e (page_is alive) k x home_in))
      by_led (From y) e =
          let so = subst (IsLedSo s.table x.slot (slot_of s.table x.slot).state) e
          (b.sound.joint.pages.table.holds_counted.led x.slot) in
          let ties = b.sound.joint.pages.table.one_home_each.ties y so.1 in
          let to = subst (TiesTo (home_of s.story.homes) s.table (pointer_of s.table y).span (pointer_of s.table y).page)
          so.2 ties in
          let down = subst (TiesPage (home_of s.story.homes) s.table (pointer_of s.table y).span x.slot) (page_is alive) to in
          down.0 k (down.1 k (key_among fence.keys k x.index key_is)) ∙ home_in
