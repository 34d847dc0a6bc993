-- Keys of a chain's leaves go down to a snapshot page: each is locked, as the snapshot has it, and the snapshot has no other.
use Rattle.std.proofs.Common.{◌≡◌, inl, inr, ℕ, ◌≤◌, Bool, true, false, true≢false, List, get_or, refl, sym, ap, ◌∙◌}
use Rattle.std.proofs.Common.{subst, Some, not}
use Rattle.std.specs.Prelude.{◌||◌}
use Rattle.std.specs.List.{slice_get}
use Rattle.std.proofs.lemmas.Bool.{cases_Bool, or_left, or_right}
use Rattle.serial_model.specs.declared.key.Key.{Key}
use Rattle.homes.specs.declared.places.At.{At}
use Rattle.homes.specs.declared.places.Content.{Content}
use Rattle.homes.specs.declared.places.Home.{Home}
use Rattle.homes.specs.declared.places.Home.TheVariants.{InSlot, Nowhere}
use Rattle.homes.specs.declared.places.Move.{Move}
use Rattle.homes.specs.declared.places.Span.{Span}
use Rattle.homes.specs.declared.places.Spot.{Spot}
use Rattle.homes.specs.Homes.{has_key, holder_is, in_span, moves_to, same_home}
use Rattle.homes.specs.Laws.{in_span-parts}
use Rattle.commit_core.specs.declared.seat.Stage.TheVariants.{Idle}
use Rattle.commit_core.specs.declared.story.Story.{Story}
use Rattle.commit_core.specs.CoreState.{can_begin}
use Rattle.commit_core.specs.Moves.{buried as buried_places}
use Rattle.commit_core.specs.Parts.{IsSameOrAbsent}
use Rattle.commit_core.specs.Places.{home_of, place_of, spot_of, stands_at}
use Rattle.drop_core.specs.declared.table.Page.{Page}
use Rattle.drop_core.specs.declared.table.Page.TheVariants.{Leaf}
use Rattle.drop_core.specs.declared.table.Table.{Table}
use Rattle.drop_core.specs.Event.{is_left_in, leaf_keys, leaves_none_out}
use Rattle.drop_core.specs.Table.{has_slot, page_of, snap_home}
use Rattle.engine_rule.specs.Pairs.{page_content}
use Rattle.engine_pages.specs.declared.layout.Layout.{Layout}
use Rattle.engine_pages.specs.declared.view.View.{View}
use Rattle.engine_pages.specs.Pages.{is_array, is_tree}
use Rattle.engine_pages.specs.Resident.{found_content}
use Rattle.engine_pages.specs.Rule.{Shared, IsHeld}
use Rattle.engine_pages.specs.Views.{IsActive, seat_number}
use Rattle.engine_pages.specs.Words.{spot}
use Rattle.engine_pages.proofs.Joint.{Laws}
use Rattle.engine_pages.proofs.Seats.{is_at}
use Rattle.engine_pages.proofs.Turns.{Begins}
use Rattle.page_records.specs.Locks.{took_at}
use Rattle.page_records.proofs.HeldContents.{locked_content, locked_home as took_home}
use Rattle.page_records.proofs.Opening.{taken_at}
use Rattle.page_records.proofs.TreeLeaves.{tree_no_array}
use Rattle.page_records.proofs.Undecided.{begins_undecided, undecided}
use Rattle.dual_pointer.proofs.Keyed.{has_at}
use Rattle.dual_pointer.proofs.Moves.{pass_all}
use Rattle.tree_heads.proofs.TreeAt.{AtTree, Says, at_tree}
use Rattle.pointer_swings.proofs.KeysDown.{CanMoveKeys, GoesDown, left_by}
use Rattle.pointer_swings.proofs.LeafPage.{found_empty}
use Rattle.pointer_swings.proofs.LeafSwings.{one_place}
use Rattle.pointer_swings.proofs.LettingGo.{keeper_idle}
use Rattle.pointer_swings.proofs.SwingFacts.{AreBuried, Target, moves_bury, target}
use Rattle.chain_steps.specs.Below.{IsStoredIn}
use Rattle.chain_steps.specs.Swings.{CanSwingChain, HasKeyIn, IsLockedBelow, IsLockedLeaf}
use Rattle.chain_steps.proofs.ChainFacts.{aim as aim_of, leaf_page as leaf_page_of, split_head}
use Rattle.chain_steps.proofs.ChainKeys.{key_index, key_listed, keys_over, over_has, over_once, over_only}
use Rattle.chain_steps.proofs.StoredLaws.{stored_before, stored_home, stored_now, stored_or_nowhere}

some_spot : (x y : Spot) → Some x ≡ Some y → x ≡ y
some_spot x y same = cc

module _ (laws : Laws) (l : Layout) (words : List ℕ) (views : List View) (s : Shared) (id : ℕ) (v : View)
    (active : IsActive v.role) (b : Begins l words views s id v) (x : At) (sp : Span) (at : ℕ) (slots : List ℕ)
    (number expected : ℕ) (c : CanSwingChain v x sp at slots number expected) (n-is : get_or words at 0 ≡ expected) where
  abbrev d : Table
  d = s.table

  abbrev m : Story
  m = s.story

  abbrev p : ℕ
  p = seat_number v.role

  abbrev keys : List Key
  keys = keys_over d slots

  pub to : Target laws l words views s id v active b x sp at c.top number expected (aim_of laws l words views s id v active b x sp at slots number expected c n-is) n-is
  to = target laws l words views s id v active b x sp at c.top number expected (aim_of laws l words views s id v active b x sp at slots number expected c n-is) n-is

  pub idle : v.seat.stage ≡ Idle
  idle = keeper_idle l v c.keeper b.fits.part

  tree : is_tree l.decls sp.storage ≡ true
  tree = ap (λ (y : Layout). is_tree y.decls sp.storage) (sym b.own.layout) ∙ c.tree

  leaf_page : (t : ℕ) (leaf : IsLockedLeaf v t sp number) → page_of d t ≡ Leaf (leaf.head).keys
  leaf_page = leaf_page_of laws l words views s id v active b x sp at slots number expected c n-is

  -- ---- a record of a leaf

  module _ (t : ℕ) (leaf : IsLockedLeaf v t sp number) (i : ℕ) (k : Key) (is : slice_get (leaf.head).keys i ≡ Some k) where
    r : IsLockedBelow v t i sp number k
    r = leaf.records i k is

    held : IsHeld l.decls m p (took_at k (spot t i) r.word) (spot t i)
    held = taken_at l words views s id v k (spot t i) r.word b r.took

    page : AtTree l words s v t leaf.span
    page = at_tree l words views s id v b t leaf.span leaf.page

    shows : Says l words s t page.fence (Leaf (leaf.head).keys)
    shows = subst (Says l words s t page.fence) (leaf_page t leaf) page.shows

    -- its key is one of the storage
    storage : k.storage ≡ sp.storage
    storage =
        let inside : in_span (page.fence).span k ≡ true =
        (shows.2).inside k (has_at (page.fence).keys i k (ap (λ (ks : List Key). slice_get ks i) shows.0 ∙ is)) in
        (in_span-parts (page.fence).span k inside).0 ∙ (ap (λ (z : Span). z.storage) page.span ∙ leaf.storage)

    no-array : is_array l.decls k.storage ≡ false
    no-array = ap (λ (n : ℕ). is_array l.decls n) storage ∙ tree_no_array l.decls sp.storage tree

    undecided-is : undecided v.seat.stage ≡ true
    undecided-is = begins_undecided v.seat.stage (ap can_begin idle)

    place-is : (b.own.took (took_at k (spot t i) r.word) r.took).0 ≡ spot t i
    place-is =
        one_place (b.own.took (took_at k (spot t i) r.word) r.took).0 (spot t i)
        (sym (took_home l words views s id v b k no-array undecided-is (took_at k (spot t i) r.word) r.took refl r.content r.small r.is r.value)
        ∙ held.home)

    content-is : (place_of m.places (spot t i)).content ≡ r.content
    content-is =
        ap (λ (y : Spot). (place_of m.places y).content) (sym place-is)
        ∙ locked_content l words views s id v b k no-array undecided-is (took_at k (spot t i) r.word) r.took refl r.content r.small r.is
        r.value

    -- what the machine has of it below the page
    stored : page_content (snap_home d to.name k) ≡ found_content r.stored
    stored =
        let below = r.below in
        stored_home l.decls s.resident d b.sound.declared b.sound.named b.sound.joint.pages.published below.0 sp number to.name k
        r.stored to.named tree storage
        (stored_now l.decls s.resident d b.sound.declared b.sound.named b.sound.joint.pages.published v.pages b.pages.resident
        below.0 sp number to.name k.key r.stored to.named tree c.there below.1)

    goes : GoesDown p m d to.name v.past k (spot t i)
    goes = record {
      at = ap (stands_at m.places) held.home;
      held = held.own;
      says =
          subst (λ (z : Content). IsSameOrAbsent z (page_content (snap_home d to.name k))) (sym content-is)
          (subst (λ (z : Content). IsSameOrAbsent r.content z) (sym stored) r.says);
      empty = λ none. stored ∙ found_empty r.stored (ap (λ (z : Content). z.value) (sym stored) ∙ none);
      old = λ none.
          subst (λ (z : Content). z.number.epoch ≤ v.past) (sym content-is)
          (r.old (ap (λ (z : Content). z.value) (sym content-is) ∙ none));
    }

  -- ---- a key of the chain

  -- where it stands, and how it goes down
  pub record KeyOf (k : Key) : Type 0 where
    pub slot : ℕ
    pub has : has_slot slots slot ≡ true
    pub index : ℕ
    pub home : home_of m.homes k ≡ InSlot (spot slot index)
    pub own : holder_is p (place_of m.places (spot slot index)).holder ≡ true
    pub goes-down : GoesDown p m d to.name v.past k (spot slot index)

  pub key_of : (k : Key) → has_key keys k ≡ true → KeyOf k
  key_of k has =
      let found = over_only d slots k has in
      elim (c.each found.0 found.1) [
        | inl leaf ↦
            let at-i = key_index (leaf.head).keys k
            (ap (λ (z : Page). has_key (leaf_keys z) k) (sym (leaf_page found.0 leaf)) ∙ found.2) in
            let h = held found.0 leaf at-i.0 k at-i.1 in record {
              slot = found.0;
              has = found.1;
              index = at-i.0;
              home = h.home;
              own = h.own;
              goes-down = goes found.0 leaf at-i.0 k at-i.1;
            }
        | inr split ↦
            absurd (true≢false (sym found.2
            ∙ ap (λ (z : Page). has_key (leaf_keys z) k)
            (split_head laws l words views s id v active b x sp at slots number expected c n-is found.0 split).split))
      ]

  pub can : CanMoveKeys p m d keys to.name v.past
  can = record {
    once = over_once d slots;
    over = λ y has now. (b.fits.keepers c.keeper).past.tried y has now;
    each = λ i k is. let f = key_of k (has_at keys i k is) in (spot f.slot f.index, f.goes-down);
  }

  -- a key of a leaf whose header is locked is one of them
  pub in_chain : (k : Key) → HasKeyIn v slots k → has_key keys k ≡ true
  in_chain k has =
      let h = b.pages.treed.heads p (is_at v.role active) has.head has.has in
      over_has d slots (has.head).slot k has.within (ap (λ (z : Page). has_key (leaf_keys z) k) h.leaf ∙ has.key)

  -- the snapshot has no other key of the span
  pub none_left : leaves_none_out d to.name sp keys ≡ true
  none_left = pass_all (is_left_in d to.name sp keys) left_out d.snaps
    where
      left_out : (k : Key) → is_left_in d to.name sp keys k ≡ true
      left_out k = elim (cases_Bool (in_span sp k)) [
        | inl within ↦
            or_right (not (in_span sp k)) (has_key keys k || same_home (snap_home d to.name k) Nowhere)
            (elim (stored_or_nowhere l.decls s.resident d b.sound.declared b.sound.named b.sound.joint.pages.published sp number
            to.name k to.named tree within) [
              | inl none ↦
                  or_right (has_key keys k) (same_home (snap_home d to.name k) Nowhere)
                  (ap (λ (h : Home). same_home h Nowhere) none)
              | inr found ↦
                  let there : IsStoredIn v.pages sp number k.key (Some found.0) = (
                    found.1.0,
                    stored_before l.decls s.resident d b.sound.declared b.sound.named b.sound.joint.pages.published v.pages
                        b.pages.resident found.1.0 sp number to.name k.key (Some found.0) to.named tree c.there found.1.1,
                  ) in
                  or_left (has_key keys k) (same_home (snap_home d to.name k) Nowhere) (in_chain k (c.all k found.0 within there))
            ])
        | inr out ↦
            ap (λ (y : Bool). not y || (has_key keys k || same_home (snap_home d to.name k) Nowhere)) out
      ]

  -- ---- the places that are left

  abbrev pub down : Key → Home
  down = snap_home d to.name

  abbrev pub chain-moves : List Move
  chain-moves = moves_to down keys

  pub bury : AreBuried m (buried_places chain-moves m.homes m.places) slots
  bury = moves_bury p m slots chain-moves (λ y lost.
      let found = left_by down m.homes keys y
      (λ k has. let f = key_of k (key_listed keys k has) in (spot f.slot f.index, ap spot_of f.home)) lost in
      let f = key_of found.0 (key_listed keys found.0 found.1) in
      let same : y ≡ spot f.slot f.index = some_spot y (spot f.slot f.index) (sym found.2 ∙ ap spot_of f.home) in (
        ap (λ (z : Spot). has_slot slots z.slot) same ∙ f.has,
        ap (λ (z : Spot). holder_is p (place_of m.places z).holder) same ∙ f.own,
      ))
