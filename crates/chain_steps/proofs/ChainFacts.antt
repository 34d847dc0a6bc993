-- What a swing away from a chain finds: the pages of the chain, their headers and what leads to them.
use Rattle.std.proofs.Common.{◌≡◌, inl, inr, ℕ, ◌+◌, ◌≤◌, true, false, eq-eqb, leb, List, length, get_or, refl, sym}
use Rattle.std.proofs.Common.{ap, ◌∙◌, subst, arith, Option, Some, not}
use Rattle.std.specs.List.{Contains, list_all}
use Rattle.std.specs.Option.{option_map_or}
use Rattle.std.proofs.lemmas.Bool.{and_from, cases_Bool, or_left, or_right}
use Rattle.std.proofs.lemmas.Bool.Decides.{nat_tests}
use Rattle.serial_model.specs.declared.key.Key.{Key}
use Rattle.homes.specs.declared.places.At.{At}
use Rattle.homes.specs.declared.places.At.TheVariants.{Root, In}
use Rattle.homes.specs.declared.places.Holder.TheVariants.{Held}
use Rattle.homes.specs.declared.places.Span.{Span}
use Rattle.homes.specs.Homes.{has_key, holder_is, same_at}
use Rattle.homes.specs.Laws.{same_at-self}
use Rattle.drop_core.specs.declared.event.Chain.{Chain}
use Rattle.drop_core.specs.declared.table.Led.TheVariants.{From}
use Rattle.drop_core.specs.declared.table.Page.{Page}
use Rattle.drop_core.specs.declared.table.Page.TheVariants.{Leaf, Inner, Split}
use Rattle.drop_core.specs.declared.table.Pointer.{Pointer}
use Rattle.drop_core.specs.declared.table.Table.{Table}
use Rattle.drop_core.specs.Event.{each_once, is_chain, is_chain_page, is_closed_to_others, is_in, is_key_in}
use Rattle.drop_core.specs.Event.{is_led_within, is_link, leads_into, leaf_keys}
use Rattle.drop_core.specs.Table.{at_index, has_pointer, has_slot, header_of, is_led, is_live, page_of, pointer_of}
use Rattle.drop_core.specs.Table.{slot_of}
use Rattle.engine_pages.specs.declared.layout.Layout.{Layout}
use Rattle.engine_pages.specs.declared.view.Moved.{Moved}
use Rattle.engine_pages.specs.declared.view.View.{View}
use Rattle.engine_pages.specs.Layout.{page_at}
use Rattle.engine_pages.specs.Rule.{Shared, IsHead, IsMoved, IsSealed}
use Rattle.engine_pages.specs.Views.{IsActive, seat_number}
use Rattle.engine_pages.specs.Words.{ShowsTwins}
use Rattle.engine_pages.proofs.Joint.{Laws}
use Rattle.engine_pages.proofs.Seats.{is_at}
use Rattle.engine_pages.proofs.Turns.{Begins}
use Rattle.dual_pointer.proofs.Keyed.{has_at}
use Rattle.dual_pointer.proofs.Stands.{StandsAt, stands_at_place}
use Rattle.tree_heads.proofs.TreeAt.{Says, known_shown, led_known}
use Rattle.pointer_swings.proofs.KeysDown.{each_in}
use Rattle.pointer_swings.proofs.SwingFacts.{AreClosed, IsAimed, leads, led}
use Rattle.chain_steps.specs.Swings.{CanSwingChain, IsLockedLeaf, IsSealedLeaf}
use Rattle.chain_steps.proofs.ChainKeys.{all_slots, any_slot, keys_over, over_has, over_once, over_only}

-- the numbers of two halves that one word names are one number
one_half : (a c n : ℕ) → n ≡ a + 1 → n ≡ c + 1 → a ≡ c
one_half a c n one two = omega arith

module _ (laws : Laws) (l : Layout) (words : List ℕ) (views : List View) (s : Shared) (id : ℕ) (v : View)
    (active : IsActive v.role) (b : Begins l words views s id v) (x : At) (sp : Span) (at : ℕ) (slots : List ℕ)
    (number expected : ℕ) (c : CanSwingChain v x sp at slots number expected) (n-is : get_or words at 0 ≡ expected) where
  abbrev d : Table
  d = s.table

  abbrev p : ℕ
  p = seat_number v.role

  abbrev q : Pointer
  q = pointer_of d x

  abbrev pub aim : IsAimed v x sp at c.top number expected
  aim = record { place = c.place; leads = c.leads; lead = c.lead }

  abbrev pub chain : Chain
  chain = record { slots = slots; keys = keys_over d slots }

  -- ---- the pages

  -- the header of a leaf that the pass has locked
  pub leaf_head : (t : ℕ) (leaf : IsLockedLeaf v t sp number) → IsHead l words d s.trees p leaf.head
  leaf_head t leaf = b.pages.treed.heads p (is_at v.role active) leaf.head leaf.has

  pub leaf_page : (t : ℕ) (leaf : IsLockedLeaf v t sp number) → page_of d t ≡ Leaf (leaf.head).keys
  leaf_page t leaf = ap (page_of d) (sym leaf.slot) ∙ (leaf_head t leaf).leaf

  -- and that of a split one
  pub split_head : (t : ℕ) (split : IsSealedLeaf v slots t) → IsSealed l d p t
  split_head t split = b.pages.treed.sealed p (is_at v.role active) t split.sealed

  pub held : (t : ℕ) → has_slot slots t ≡ true → header_of d t ≡ Held p
  held t has = elim (c.each t has) [
    | inl leaf ↦ ap (header_of d) (sym leaf.slot) ∙ (leaf_head t leaf).locked
    | inr split ↦ (split_head t split).locked
  ]

  -- something leads to each of them
  led_to : (t : ℕ) → has_slot slots t ≡ true → is_led (slot_of d t).led ≡ true
  led_to t has = (b.sound.joint.pages.held.headers t p (held t has)).1

  pub closed : AreClosed d p slots
  closed = record {
    known = λ u has. led_known (slot_of d u).led (led_to u has);
    closed = λ u has. ap (is_closed_to_others p) (held u has) ∙ eq-eqb p p refl;
  }

  -- none is an interior page
  pub no_inner : (t count : ℕ) → has_slot slots t ≡ true → page_of d t ≡ Inner count → ⊥
  no_inner t count has is = elim (c.each t has) [
    | inl leaf ↦ let no : Leaf (leaf.head).keys ≡ Inner count = sym (leaf_page t leaf) ∙ is in absurd (cc)
    | inr split ↦ let no : Split ≡ Inner count = sym (split_head t split).split ∙ is in absurd (cc)
  ]

  -- so the pointer is in none of them
  outside : is_in slots x ≡ false
  outside = by_at x (stands_at_place l words views s id v x sp at b c.place)
    where
      by_at : (z : At) → StandsAt l s at z → is_in slots z ≡ false
      by_at (Root i) is = refl
      by_at (In y) is = elim (cases_Bool (has_slot slots y.slot)) [
        | inl lost ↦ absurd (no_inner y.slot is.count lost is.page)
        | inr left ↦ left
      ]

  -- ---- what leads to them

  -- a split leaf of the chain has the halves that the pass knows
  module _ (m : Moved) (has : Contains v.moved m) (within : has_slot slots m.slot ≡ true) where
    moved-is : IsMoved l words d s.trees v.grip.holds m
    moved-is = b.pages.treed.moved m has

    twins : ShowsTwins words l.slots m.slot (moved-is.fence).span d
    twins =
        let shown = known_shown l words views s id v m.slot b moved-is.known in
        let shows = b.sound.shown.treed m.slot moved-is.fence moved-is.within shown moved-is.there in
        let split : Says l words s m.slot moved-is.fence Split = subst (Says l words s m.slot moved-is.fence) moved-is.split shows in
        split.1

    minor_slot : (pointer_of d (at_index m.slot 0)).slot ≡ Some m.minor
    minor_slot =
        twins.leads_first
        ∙ ap (λ (k : ℕ). let o : Option ℕ = Some k in o)
        (one_half twins.first m.minor (get_or words (page_at l.slots m.slot 3) 0) twins.minor moved-is.minor)

    major_slot : (pointer_of d (at_index m.slot 1)).slot ≡ Some m.major
    major_slot =
        twins.leads_second
        ∙ ap (λ (k : ℕ). let o : Option ℕ = Some k in o)
        (one_half twins.second m.major (get_or words (page_at l.slots m.slot 4) 0) twins.major moved-is.major)

    live_twin : (j : ℕ) → has_pointer Split j ≡ true → is_live d (at_index m.slot j) ≡ true
    live_twin j there =
        and_from (is_led (slot_of d m.slot).led) (has_pointer (page_of d m.slot) j) (led_to m.slot within)
        (ap (λ (z : Page). has_pointer z j) moved-is.split ∙ there)

    -- and these lead to their pages
    minor_led : (slot_of d m.minor).led ≡ From (at_index m.slot 0)
    minor_led = b.sound.joint.pages.table.holds_counted.back (at_index m.slot 0) m.minor (live_twin 0 refl) minor_slot

    major_led : (slot_of d m.major).led ≡ From (at_index m.slot 1)
    major_led = b.sound.joint.pages.table.holds_counted.back (at_index m.slot 1) m.major (live_twin 1 refl) major_slot

  -- what leads from a page of the chain is within it
  from_within : (u j t : ℕ) → has_slot slots u ≡ true → (slot_of d t).led ≡ From (at_index u j)
      → is_led_within x slots (slot_of d t).led ≡ true
  from_within u j t has is =
      ap (is_led_within x slots) is ∙ or_right (same_at x (at_index u j)) (is_in slots (at_index u j)) has

  led_within : (t : ℕ) → has_slot slots t ≡ true → is_led_within x slots (slot_of d t).led ≡ true
  led_within t has = elim (c.led t has) [
    | inl top ↦
        let from : (slot_of d t).led ≡ From x =
        ap (λ (k : ℕ). (slot_of d k).led) top
        ∙ led laws l words views s id v active b x sp at c.top number expected aim n-is in
        ap (is_led_within x slots) from ∙ or_left (same_at x x) (is_in slots x) (same_at-self x)
    | inr half ↦ elim half.leads [
      | inl minor ↦
          from_within (half.moved).slot 0 t half.within
          (ap (λ (k : ℕ). (slot_of d k).led) minor ∙ minor_led half.moved half.has half.within)
      | inr major ↦
          from_within (half.moved).slot 1 t half.within
          (ap (λ (k : ℕ). (slot_of d k).led) major ∙ major_led half.moved half.has half.within)
    ]
  ]

  -- ---- the chain

  leads_in : (y : At) (t : ℕ) → (pointer_of d y).slot ≡ Some t → has_slot slots t ≡ true → leads_into d slots y ≡ true
  leads_in y t is has = ap (λ (o : Option ℕ). option_map_or (has_slot slots) o false) is ∙ has

  chain_page : (t : ℕ) → has_slot slots t ≡ true → is_chain_page d chain t (page_of d t) ≡ true
  chain_page t has = elim (c.each t has) [
    | inl leaf ↦
        let keys : List Key = (leaf.head).keys in
        ap (is_chain_page d chain t) (leaf_page t leaf)
        ∙ each_in (λ k. has_key (keys_over d slots) k) keys
        (λ i k is.
        over_has d slots t k has (ap (λ (z : Page). has_key (leaf_keys z) k) (leaf_page t leaf) ∙ has_at keys i k is))
    | inr split ↦
        let within : has_slot slots (split.moved).slot ≡ true = ap (has_slot slots) split.slot ∙ has in
        ap (is_chain_page d chain t) (split_head t split).split
        ∙ and_from (leads_into d slots (at_index t 0)) (leads_into d slots (at_index t 1))
        (ap (λ u. leads_into d slots (at_index u 0)) (sym split.slot)
        ∙ leads_in (at_index (split.moved).slot 0) (split.moved).minor (minor_slot split.moved split.has within) split.minor)
        (ap (λ u. leads_into d slots (at_index u 1)) (sym split.slot)
        ∙ leads_in (at_index (split.moved).slot 1) (split.moved).major (major_slot split.moved split.has within) split.major)
  ]

  link : (t : ℕ) → has_slot slots t ≡ true → is_link p d x chain t ≡ true
  link t has =
      and_from (holder_is p (header_of d t)) _ (ap (holder_is p) (held t has) ∙ eq-eqb p p refl)
      (and_from (is_led_within x slots (slot_of d t).led) (is_chain_page d chain t (page_of d t)) (led_within t has)
      (chain_page t has))

  pub is_its_chain : is_chain p d x chain ≡ true
  is_its_chain =
      and_from (leb (length slots) 63) _ (few_pages (length slots) c.few)
      (and_from (leads_into d slots x) _
      (leads_in x c.top (leads laws l words views s id v active b x sp at c.top number expected aim n-is) c.first)
      (and_from (not (is_in slots x)) _ (ap not outside)
      (and_from (list_all (λ t. is_link p d x chain t) slots) _ (all_slots (λ t. is_link p d x chain t) slots link)
      (and_from (each_once (keys_over d slots)) (list_all (λ k. is_key_in d slots k) (keys_over d slots)) (over_once d slots)
      (each_in (λ k. is_key_in d slots k) (keys_over d slots)
      (λ i k is.
      let found = over_only d slots k (has_at (keys_over d slots) i k is) in
      any_slot (λ t. has_key (leaf_keys (page_of d t)) k) slots found.0 found.1 found.2))))))
    where
      few_pages : (n : ℕ) → n ≤ 63 → leb n 63 ≡ true
      few_pages n few = grind (arith, nat_tests)
