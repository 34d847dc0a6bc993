-- Install and Swing: their conditions as tests are those that their laws ask for.
use Rattle.std.proofs.Common.{◌≡◌, ℕ, ◌≤◌, Bool, true, not, true≢false, eqb, leb, ltb, ◌&&◌, ◌||◌, List, [], ◌∷◌, refl, sym, ap, ◌∙◌, subst, arith, set, Option, Some, None}
use Rattle.std.proofs.lemmas.Bool.{and_parts}
use Rattle.std.proofs.lemmas.Bool.Decides.{nat_tests}
use Rattle.std.specs.List.{slice_get, list_all}
use Rattle.std.specs.Prelude.{is_none}
use Rattle.serial_model.specs.declared.key.Key.{Key}
use Rattle.homes.specs.declared.places.At.{At}
use Rattle.homes.specs.declared.places.Span.{Span}
use Rattle.homes.specs.declared.places.Home.{Home}
use Rattle.homes.specs.Homes.{same_span, has_key, in_span, is_free, holder_is, moved, moves_to}
use Rattle.drop_core.specs.declared.table.Led.{Led}
use Rattle.drop_core.specs.declared.table.Led.TheVariants.{Never, From, Away}
use Rattle.drop_core.specs.declared.table.SlotState.{SlotState}
use Rattle.drop_core.specs.declared.table.SlotState.TheVariants.{Unused, Owned, Published, Retired}
use Rattle.drop_core.specs.declared.table.Page.{Page}
use Rattle.drop_core.specs.declared.table.Page.TheVariants.{Blank, Leaf, Inner, Split}
use Rattle.drop_core.specs.declared.table.Table.{Table}
use Rattle.drop_core.specs.declared.grip.Grip.{Grip}
use Rattle.drop_core.specs.declared.event.Act.TheVariants.{Install, Swing}
use Rattle.drop_core.specs.Table.{slot_of, page_of, pointer_of, snap_of, has_slot, snap_home, page_span, leaf_home, is_never, is_live, holders}
use Rattle.drop_core.specs.Event.{is_published, all_below, leaves_none_out, each_once, is_leaf_for, child, is_tile, is_same_child, stands_for, is_stood_for, is_like, is_open, can_install, can_swing_from, can_swing, keeps_header, is_allowed, without, installed, dropped, swung, effect, leaf_keys, keys_in, moves}
use Rattle.drop_core.specs.Sound.{TiesPage, TiesTo, IsSoundTable}
use Rattle.drop_core.proofs.Conditions.{FitsPage, CanInstall, CanInstallInner, CanSwing, CanSwingInner}
use Rattle.drop_core.proofs.SlotTurns.{holders-set}
use Rattle.drop_core.proofs.Installs.{install_sound, was_home}
use Rattle.drop_core.proofs.InnerInstalls.{install_inner_sound}
use Rattle.drop_core.proofs.Drops.{drop_sound}
use Rattle.drop_core.proofs.DropCases.{leaf_drop, inner_drop, was_leaf}
use Rattle.drop_core.specs.KeyTests.{none-out}
use Rattle.drop_core.proofs.Decides.{below-each, none_there, inner-fits, all-within, tiles-cover, tiles-within, tiles-apart}

at_most : (a b : ℕ) → leb a b ≡ true → a ≤ b
at_most a b e = grind (arith, nat_tests)

pub published : (s : SlotState) → is_published s ≡ true → s ≡ Published
published Unused e = absurd (true≢false (sym e))
published Owned e = absurd (true≢false (sym e))
published Published e = refl
published Retired e = absurd (true≢false (sym e))

pub never : (l : Led) → is_never l ≡ true → l ≡ Never
never Never e = refl
never (From x) e = absurd (true≢false (sym e))
never Away e = absurd (true≢false (sym e))

-- seats that hold what they held
pub recount : (homes : Key → Home) (d : Table) (grips grips' : List Grip) → ((s : ℕ) → holders s grips' ≡ holders s grips) → IsSoundTable homes d grips → IsSoundTable homes d grips'
recount homes d grips grips' same sound = record {
  one_home_each = sound.one_home_each;
  holds_counted = record { counted = λ s. sound.holds_counted.counted s ∙ sym (same s); led = sound.holds_counted.led; back = sound.holds_counted.back };
  snapshots_fixed = sound.snapshots_fixed;
}

-- ---- Install

-- what its condition says beside that of the page
pub record Installs (d : Table) (x : At) (s : ℕ) : Type 0 where
  pub live : is_live d x ≡ true
  pub none : (pointer_of d x).slot ≡ None
  pub state : (slot_of d s).state ≡ Published
  pub led : (slot_of d s).led ≡ Never
  pub stands : stands_for d s (pointer_of d x).page (pointer_of d x).span (page_of d s) ≡ true

pub installs : (d : Table) (g : Grip) (x : At) (s : ℕ) → can_install d g x s ≡ true → Installs d x s
installs d g x s can =
    let ready : Bool = has_slot g.made s && (is_published (slot_of d s).state && is_never (slot_of d s).led) in
    let fits : Bool = stands_for d s (pointer_of d x).page (pointer_of d x).span (page_of d s) in
    let stands : Bool = is_like d s (page_of d s) (snap_of d (pointer_of d x).page) && fits in
    let a = and_parts (is_open d x) (is_none (pointer_of d x).slot && (ready && stands)) can in
    let b = and_parts (is_none (pointer_of d x).slot) (ready && stands) a.1 in
    let c = and_parts ready stands b.1 in
    let e = and_parts (has_slot g.made s) (is_published (slot_of d s).state && is_never (slot_of d s).led) c.0 in
    let f = and_parts (is_published (slot_of d s).state) (is_never (slot_of d s).led) e.1 in
    record {
      live = (and_parts (is_live d x) (is_free (pointer_of d x).holder) a.0).0;
      none = none_there (pointer_of d x).slot b.0;
      state = published (slot_of d s).state f.0;
      led = never (slot_of d s).led f.1;
      stands = (and_parts (is_like d s (page_of d s) (snap_of d (pointer_of d x).page)) fits c.1).1;
    }

leaf_fits : (d : Table) (n : ℕ) (span : Span) (keys : List Key) → is_leaf_for d n span keys ≡ true → FitsPage d n span keys
leaf_fits d n span keys fits =
    let a = and_parts (each_once keys) (list_all (λ k. in_span span k) keys && leaves_none_out d n span keys) fits in
    let b = and_parts (list_all (λ k. in_span span k) keys) (leaves_none_out d n span keys) a.1 in
    record { once = a.0; within = λ k hit. all-within span keys k b.0 hit; none = none-out d n span keys b.1 }

can_leaf : (d : Table) (x : At) (s : ℕ) (keys : List Key) → Installs d x s → page_of d s ≡ Leaf keys → CanInstall d x s keys
can_leaf d x s keys can page = record {
  live = can.live;
  none = can.none;
  state = can.state;
  led = can.led;
  page = page;
  fits = leaf_fits d (pointer_of d x).page (pointer_of d x).span keys (sym (ap (stands_for d s (pointer_of d x).page (pointer_of d x).span) page) ∙ can.stands);
}

can_inner : (d : Table) (x : At) (s count : ℕ) → Installs d x s → page_of d s ≡ Inner count → CanInstallInner d x s count
can_inner d x s count can page =
    let n : ℕ = (pointer_of d x).page in
    let span : Span = (pointer_of d x).span in
    let within : Bool = all_below count (λ j. leb (child d s j).page d.published) in
    let free : Bool = all_below count (λ j. is_free (child d s j).holder) in
    let a = and_parts (ltb 0 count) (all_below count (is_tile d s span count) && (all_below count (is_same_child d s n) && (within && free))) (sym (ap (stands_for d s n span) page) ∙ can.stands) in
    let b = and_parts (all_below count (is_tile d s span count)) (all_below count (is_same_child d s n) && (within && free)) a.1 in
    let c = and_parts (all_below count (is_same_child d s n)) (within && free) b.1 in
    record {
      live = can.live;
      none = can.none;
      state = can.state;
      led = can.led;
      page = page;
      fits = inner-fits d s n count c.0;
      published = λ j there. at_most (child d s j).page d.published (below-each count (λ j. leb (child d s j).page d.published) (and_parts within free c.1).0 j there);
      cover = tiles-cover d s span count b.0 a.0;
      within = tiles-within d s span count b.0 a.0;
      apart = tiles-apart d s span count b.0;
    }

module _ (homes : Key → Home) (d : Table) (grips : List Grip) (sound : IsSoundTable homes d grips) where
  install_page : (x : At) (s : ℕ) → Installs d x s → (pg : Page) → page_of d s ≡ pg
      → IsSoundTable (moved (moves_to (leaf_home s 0 (leaf_keys pg)) (leaf_keys pg)) homes) (installed d x s) grips
  install_page x s can Blank page = absurd (true≢false (sym can.stands ∙ ap (stands_for d s (pointer_of d x).page (pointer_of d x).span) page))
  install_page x s can (Leaf keys) page = install_sound homes d grips x s keys (can_leaf d x s keys can page) sound
  install_page x s can (Inner count) page = install_inner_sound homes d grips x s count (can_inner d x s count can page) sound
  install_page x s can Split page = absurd (true≢false (sym can.stands ∙ ap (stands_for d s (pointer_of d x).page (pointer_of d x).span) page))

  up_page : (x : At) (s : ℕ) → Installs d x s → (pg : Page) → page_of d s ≡ pg → (k : Key) → has_key (leaf_keys pg) k ≡ true → homes k ≡ snap_home d (pointer_of d x).page k
  up_page x s can Blank page k hit = absurd (true≢false (sym hit))
  up_page x s can (Leaf keys) page k hit = was_home homes d grips x s keys (can_leaf d x s keys can page) sound k hit
  up_page x s can (Inner count) page k hit = absurd (true≢false (sym hit))
  up_page x s can Split page k hit = absurd (true≢false (sym hit))

  within_page : (x : At) (s : ℕ) → Installs d x s → (pg : Page) → page_of d s ≡ pg → (k : Key) → has_key (leaf_keys pg) k ≡ true
      → in_span (pointer_of d x).span k ≡ true
  within_page x s can Blank page k hit = absurd (true≢false (sym hit))
  within_page x s can (Leaf keys) page k hit = (can_leaf d x s keys can page).fits.within k hit
  within_page x s can (Inner count) page k hit = absurd (true≢false (sym hit))
  within_page x s can Split page k hit = absurd (true≢false (sym hit))

  -- a key that an install moves is below the pointer
  pub install_within : (p s : ℕ) (g : Grip) (x : At) → is_allowed p d g (Install x s) ≡ true → (k : Key)
      → has_key (leaf_keys (page_of d s)) k ≡ true → in_span (pointer_of d x).span k ≡ true
  install_within p s g x can = within_page x s (installs d g x s (and_parts (not (eqb p 0)) (can_install d g x s) can).1) (page_of d s) refl

  -- what an install asks of the pointer and the slot
  pub install_asks : (p s : ℕ) (g : Grip) (x : At) → is_allowed p d g (Install x s) ≡ true → Installs d x s
  install_asks p s g x can = installs d g x s (and_parts (not (eqb p 0)) (can_install d g x s) can).1

  pub installs_up : (p s : ℕ) (g : Grip) (x : At) → is_allowed p d g (Install x s) ≡ true → (k : Key) → has_key (leaf_keys (page_of d s)) k ≡ true → homes k ≡ snap_home d (pointer_of d x).page k
  installs_up p s g x can = up_page x s (installs d g x s (and_parts (not (eqb p 0)) (can_install d g x s) can).1) (page_of d s) refl

  pub install_keeps : (p : ℕ) (g : Grip) (x : At) (s : ℕ) → slice_get grips p ≡ Some g → is_allowed p d g (Install x s) ≡ true
      → IsSoundTable (moved (moves d (Install x s)) homes) (effect p d g (Install x s)).table (set grips p (effect p d g (Install x s)).grip)
  install_keeps p g x s at can =
      let g' : Grip = record g { made = without g.made s } in
      recount (moved (moves d (Install x s)) homes) (installed d x s) grips (set grips p g') (λ t. holders-set t p grips g g' at refl)
      (install_page x s (installs d g x s (and_parts (not (eqb p 0)) (can_install d g x s) can).1) (page_of d s) refl)

  -- ---- Swing

  -- a key in a leaf is below the pointer that leads to it
  leaf_within : (x : At) (s : ℕ) → is_live d x ≡ true → (pointer_of d x).slot ≡ Some s → (pg : Page) → page_of d s ≡ pg → (k : Key)
      → has_key (leaf_keys pg) k ≡ true → in_span (pointer_of d x).span k ≡ true
  leaf_within x s live leads Blank page k hit = absurd (true≢false (sym hit))
  leaf_within x s live leads (Leaf keys) page k hit =
      (subst (λ (q : Page). TiesPage homes d (pointer_of d x).span s q) page
      (subst (λ (o : Option ℕ). TiesTo homes d (pointer_of d x).span (pointer_of d x).page o) leads (sound.one_home_each.ties x live))).1 k hit
  leaf_within x s live leads (Inner count) page k hit = absurd (true≢false (sym hit))
  leaf_within x s live leads Split page k hit = absurd (true≢false (sym hit))

  slot_within : (x : At) (o : Option ℕ) → is_live d x ≡ true → (pointer_of d x).slot ≡ o → (k : Key)
      → has_key (keys_in d o) k ≡ true → in_span (pointer_of d x).span k ≡ true
  slot_within x None live leads k hit = absurd (true≢false (sym hit))
  slot_within x (Some s) live leads k hit = leaf_within x s live leads (page_of d s) refl k hit

  module _ (p : ℕ) (g : Grip) (x : At) (n : ℕ) (may : is_allowed p d g (Swing x n) ≡ true) where
    can : can_swing p d x n ≡ true
    can = (and_parts (can_swing p d x n) (keeps_header p d (pointer_of d x).slot) may).0

    abbrev target : Bool
    target = leb n d.published && (eqb n 0 || same_span (page_span (snap_of d n)) (pointer_of d x).span)

    live : is_live d x ≡ true
    live = (and_parts (is_live d x) (is_free (pointer_of d x).holder) (and_parts (is_open d x) (target && can_swing_from p d x n (pointer_of d x).slot) can).0).0

    pub swing_live : is_live d x ≡ true
    swing_live = live

    -- a key that a swing moves is below the pointer
    pub swing_within : (k : Key) → has_key (keys_in d (pointer_of d x).slot) k ≡ true → in_span (pointer_of d x).span k ≡ true
    swing_within = slot_within x (pointer_of d x).slot live refl

    rest : (target ≡ true) × (can_swing_from p d x n (pointer_of d x).slot ≡ true)
    rest = and_parts target (can_swing_from p d x n (pointer_of d x).slot) (and_parts (is_open d x) (target && can_swing_from p d x n (pointer_of d x).slot) can).1

    within : n ≤ d.published
    within = at_most n d.published (and_parts (leb n d.published) (eqb n 0 || same_span (page_span (snap_of d n)) (pointer_of d x).span) rest.0).0

    abbrev Stands : ℕ → Page → Type 0
    Stands s pg = is_stood_for p d s n (pointer_of d x).span pg ≡ true

    stood : (s : ℕ) → can_swing_from p d x n (Some s) ≡ true → Stands s (page_of d s)
    stood s from = (and_parts (is_like d s (page_of d s) (snap_of d n)) (is_stood_for p d s n (pointer_of d x).span (page_of d s)) from).1

    swing_leaf : (s : ℕ) (keys : List Key) → (pointer_of d x).slot ≡ Some s → page_of d s ≡ Leaf keys → Stands s (Leaf keys) → CanSwing d x n s keys
    swing_leaf s keys leads page stands = record { live = live; leads = leads; page = page; published = within; none = none-out d n (pointer_of d x).span keys stands }

    swing_inner : (s count : ℕ) → (pointer_of d x).slot ≡ Some s → page_of d s ≡ Inner count → Stands s (Inner count) → CanSwingInner d x n s count
    swing_inner s count leads page stands = record {
      live = live;
      leads = leads;
      page = page;
      fits = inner-fits d s n count (and_parts (all_below count (is_same_child d s n)) (all_below count (λ j. holder_is p (child d s j).holder)) stands).0;
      published = within;
    }

    swing_page : (s : ℕ) → (pointer_of d x).slot ≡ Some s → (pg : Page) → page_of d s ≡ pg → Stands s pg
        → IsSoundTable (moved (moves_to (snap_home d n) (leaf_keys pg)) homes) (dropped d x n (s ∷ [])) grips
    swing_page s leads Blank page stands = absurd (true≢false (sym stands))
    swing_page s leads (Leaf keys) page stands =
        drop_sound homes d grips x n (s ∷ []) keys (leaf_drop homes d grips sound s x n keys (swing_leaf s keys leads page stands)) sound
    swing_page s leads (Inner count) page stands =
        drop_sound homes d grips x n (s ∷ []) [] (inner_drop homes d grips sound s x n count (swing_inner s count leads page stands)) sound
    swing_page s leads Split page stands = absurd (true≢false (sym stands))

    stands_in : (s : ℕ) → (pointer_of d x).slot ≡ Some s → Stands s (page_of d s)
    stands_in s leads = stood s (sym (ap (can_swing_from p d x n) leads) ∙ rest.1)

    swing_slot : (at : slice_get grips p ≡ Some g) (o : Option ℕ) → (pointer_of d x).slot ≡ o → can_swing_from p d x n o ≡ true
        → IsSoundTable (moved (moves_to (snap_home d n) (keys_in d o)) homes) (swung d g x n o).table (set grips p (swung d g x n o).grip)
    swing_slot at None leads from = absurd (true≢false (sym from))
    swing_slot at (Some s) leads from =
        let g' : Grip = record g { taken = s ∷ g.taken } in
        recount (moved (moves_to (snap_home d n) (keys_in d (Some s))) homes) (dropped d x n (s ∷ [])) grips (set grips p g') (λ t. holders-set t p grips g g' at refl)
        (swing_page s leads (page_of d s) refl (stood s from))

    pub swing_keeps : slice_get grips p ≡ Some g
        → IsSoundTable (moved (moves d (Swing x n)) homes) (effect p d g (Swing x n)).table (set grips p (effect p d g (Swing x n)).grip)
    swing_keeps at = swing_slot at (pointer_of d x).slot refl rest.1

    down_page : (s : ℕ) → (pointer_of d x).slot ≡ Some s → (pg : Page) → page_of d s ≡ pg → Stands s pg
        → (k : Key) → has_key (leaf_keys pg) k ≡ true → homes k ≡ leaf_home s 0 (leaf_keys pg) k
    down_page s leads Blank page stands k hit = absurd (true≢false (sym hit))
    down_page s leads (Leaf keys) page stands k hit = was_leaf homes d grips sound s x n keys (swing_leaf s keys leads page stands) k hit
    down_page s leads (Inner count) page stands k hit = absurd (true≢false (sym hit))
    down_page s leads Split page stands k hit = absurd (true≢false (sym hit))

    pub swings_down : (s : ℕ) → (pointer_of d x).slot ≡ Some s → (k : Key) → has_key (leaf_keys (page_of d s)) k ≡ true → homes k ≡ leaf_home s 0 (leaf_keys (page_of d s)) k
    swings_down s leads = down_page s leads (page_of d s) refl (stands_in s leads)
