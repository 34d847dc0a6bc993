-- What a drop of pages asks of the keeper's view, and what it leaves.
use Rattle.std.proofs.Common.{◌≡◌, ◌∙◌, ◌⊎◌, sym, ap, subst, refl, ℕ, zero, suc, ◌+◌, ◌*◌, ◌%◌, ◌^◌, ◌<◌, ◌≤◌, List, [], ◌∷◌}
use Rattle.std.proofs.Common.{◌++◌, length, length-append, map, get_or, drop, take, replicate, arith, inl, inr, Some}
use Rattle.std.specs.Prelude.{Contains, flat_map, slice_get, ◌-◌}
use Rattle.std.specs.List.{AllByRecursion}
use Rattle.std.specs.Option.{option_map_or}
use Rattle.std.proofs.lemmas.List.{get_or-drop, get_or-take, length-take-le}
use Rattle.std.proofs.lemmas.List.Elements.{Contains-append_left}
use Rattle.std.proofs.lemmas.Option.{same_Some, slice_get_within}
use Rattle.lists.specs.Each.{all_at}
use Rattle.lists.specs.Elements.{at_in, in_cases, in_head, in_none, in_tail}
use Rattle.lists.specs.Fronts.{IsFront, front_append, front_refl}
use Rattle.serial_model.specs.Keys.{id_of}
use Rattle.serial_model.specs.Decls.{AreDecls}
use Rattle.serial_model.specs.declared.decl.Decl.{Decl}
use Rattle.serial_model.specs.declared.decl.Decl.TheVariants.{Array, Tree}
use Rattle.drop_core.specs.Table.{no_span}
use Rattle.wire_form.specs.declared.page.Page.{Page}
use Rattle.wire_form.specs.declared.records.Stored.{Stored}
use Rattle.wire_form.specs.Pages.{Contents, IsStored, decls_of, stored_decl, stored_words}
use Rattle.snapshot_store.specs.Content.{CatalogueAt, RootStands, SnapshotStands, deepest, root_place, words_of}
use Rattle.snapshot_store.specs.declared.place.PagePlace.{PagePlace}
use Rattle.snapshot_store.specs.Places.{page}
use Rattle.engine_rule.specs.Reading.{led_places, named_places, span_of}
use Rattle.engine_rule.proofs.ReadLists.{at_each, in_flat}
use Rattle.page_opening.proofs.Named.{last_led, root_number}
use Rattle.engine_pages.specs.Pages.{root_span}
use Rattle.engine_pages.specs.Views.{IsResting}
use Rattle.engine_pages.specs.declared.view.Dropped.{Dropped as Counts}
use Rattle.engine_pages.specs.declared.view.Lead.{Lead}
use Rattle.engine_pages.specs.declared.view.Role.TheVariants.{Keeper}
use Rattle.engine_pages.specs.declared.view.View.{View}
use Rattle.page_drops.specs.Calls.{CanDropAll, slots_on}
use Rattle.page_drops.specs.declared.calls.Dropped.{Dropped}
use Rattle.tree_drops.specs.Calls.{HasDroppedAll}
use Rattle.resident_pages.specs.Extends.{lead_of}
use Rattle.resident_pages.specs.Fills.{AreClaimed, HasLooked}
use Rattle.resident_pages.specs.Publishes.{HasPublished}
use Rattle.resident_pages.proofs.PagesFilled.{words_many}
use Rattle.shared_rounds.specs.Beside.{Went}
use Rattle.shared_rounds.specs.Drops.{HasCalled, HasDropped, KnowsNewest, KnowsRoots, OnlyNamed}
use Rattle.shared_rounds.specs.SharedState.{HoldsNothing}
use Rattle.shared_rounds.proofs.Claimed.{claimed_still, free_still, grown, owns_behind, same_pages}
use Rattle.shared_rounds.proofs.NewPages.{newest_in, newest_is}

-- ---- names of the roots

map_in : {X Y : Type 0} (f : X → Y) (xs : List X) (x : X) → Contains xs x → Contains (map f xs) (f x)
map_in f [] x has = absurd (in_none x has)
map_in f (y ∷ xs) x has = elim (in_cases x y xs has) [
  | inl is ↦ subst (λ z. Contains (f y ∷ map f xs) (f z)) is (in_head (f y) (map f xs))
  | inr more ↦ in_tail (f x) (f y) (map f xs) (map_in f xs x more)
]

-- a root is over all keys of its storage, whatever page it leads to
same_keys : (decl : Decl) (root : ℕ) → span_of (id_of decl) (root_place decl root) ≡ span_of (id_of decl) (root_place decl 0)
same_keys (Array id size) root = refl
same_keys (Tree id) root = refl

decl_at : (ss : List Stored) (i : ℕ) (s : Stored) → slice_get ss i ≡ Some s
    → slice_get (map stored_decl ss) i ≡ Some s.decl
decl_at [] i s at = absurd cc
decl_at (x ∷ ss) zero s at = ap (λ (y : Stored). Some y.decl) (same_Some x s at)
decl_at (x ∷ ss) (suc i) s at = decl_at ss i s at

root_keys : (decls : List Decl) (i : ℕ) (decl : Decl) (root : ℕ) → slice_get decls i ≡ Some decl
    → span_of (id_of decl) (root_place decl root) ≡ root_span decls i
root_keys decls i decl root at =
    same_keys decl root ∙ sym (ap (λ o. option_map_or (λ (d : Decl). span_of (id_of d) (root_place d 0)) o no_span) at)

-- what is published with names of all places that the roots lead to knows the roots
pub roots_known : (pages new : List (List ℕ)) (contents : Contents) (v w : View)
    → AllByRecursion (RootStands pages) contents.storages → decls_of contents ≡ v.layout.decls
    → HasPublished new (named_places pages contents.storages) v w → KnowsRoots contents.storages w
roots_known pages new contents v w stand declares h i s at some =
    let e : Decl × PagePlace = (s.decl, root_place s.decl s.root) in
    let number : (root_place s.decl s.root).number ≡ s.root = root_number s.decl s.root in
    let stands = at_each (RootStands pages) contents.storages s stand (at_in contents.storages i s at) in
    let own : Contains (led_places s.decl pages deepest (root_place s.decl s.root)) e =
    last_led pages s.decl deepest (root_place s.decl s.root) stands (subst (λ n. 0 < n) (sym number) some) in
    let among : Contains (named_places pages contents.storages) e =
    in_flat (λ (x : Stored). led_places x.decl pages deepest (root_place x.decl x.root)) contents.storages s e
    (at_in contents.storages i s at) own in
    let there : Contains (map (lead_of h.name) (named_places pages contents.storages)) (lead_of h.name e) =
    map_in (lead_of h.name) (named_places pages contents.storages) e among in
    let leads : w.leads ≡ map (lead_of h.name) (named_places pages contents.storages) ++ v.leads =
    ap (λ (z : View). z.leads) h.is in
    let decls : v.layout.decls ≡ w.layout.decls = sym (ap (λ (z : View). z.layout.decls) h.is) in (
      lead_of h.name e,
      subst (λ (l : List Lead). Contains l (lead_of h.name e)) (sym leads)
          (Contains-append_left (map (lead_of h.name) (named_places pages contents.storages)) v.leads (lead_of h.name e)
          there),
      root_keys w.layout.decls i s.decl s.root
          (ap (λ (ds : List Decl). slice_get ds i) (sym (declares ∙ decls)) ∙ decl_at contents.storages i s at),
      number,
    )

-- the same, by what the words of the catalogue say
pub knows_newest : (pages : List Page) (contents : Contents) (new : List (List ℕ)) (v w : View)
    → SnapshotStands (words_of pages) (length pages) contents → decls_of contents ≡ v.layout.decls
    → contents.epoch ≤ v.past → HasPublished new (named_places (words_of pages) (newest_in v.layout.decls (words_of pages))) v w
    → KnowsNewest (words_of pages) w
knows_newest pages contents new v w stands declares over h =
    let words : List (List ℕ) = words_of pages in
    let here : CatalogueAt words (length words) contents =
    subst (λ n. CatalogueAt words n contents) (sym (words_many pages)) stands.here in
    let storages : newest_in v.layout.decls words ≡ contents.storages =
    ap (λ (ds : List Decl). newest_in ds words) (sym declares) ∙ newest_is words contents here in
    let named : HasPublished new (named_places words contents.storages) v w =
    subst (λ (ss : List Stored). HasPublished new (named_places words ss) v w) storages h in
    record {
      contents = contents;
      at = here;
      declares = declares ∙ sym (ap (λ (z : View). z.layout.decls) named.is);
      past = let same = ap (λ (z : View). z.past) named.is in omega (arith, over, same);
      roots = roots_known words new contents v w stands.roots declares named;
    }

-- no page more is published
pub only_named : (new : List (List ℕ)) (names : List (Decl × PagePlace)) (v w : View) → v.pages ++ new ≡ v.pages
    → HasPublished new names v w → OnlyNamed v w
only_named new names v w none h =
    h.is
    ∙ (ap (λ (ps : List (List ℕ)). record v {
      steps = w.steps;
      last = w.last;
      pages = ps;
      leads = map (lead_of h.name) names ++ v.leads;
      fills = w.fills;
    }) none
    ∙ ap (λ (l : List Lead). record v { steps = w.steps; last = w.last; leads = l; fills = w.fills })
    (sym (ap (λ (z : View). z.leads) h.is)))

-- ---- the words of a catalogue

root_word : (ss : List Stored) (rest : List ℕ) (i : ℕ) (s : Stored) → slice_get ss i ≡ Some s
    → get_or (flat_map stored_words ss ++ rest) (3 * i + 2) 0 ≡ s.root
root_word [] rest i s at = absurd cc
root_word (x ∷ ss) rest zero s at = ap (λ (y : Stored). y.root) (same_Some x s at)
root_word (x ∷ ss) rest (suc i) s at =
    let place : 3 * suc i + 2 ≡ suc (suc (suc (3 * i + 2))) = omega arith in
    ap (λ n. get_or (flat_map stored_words (x ∷ ss) ++ rest) n 0) place ∙ root_word ss rest i s at

-- a page that is a catalogue is there
pub some_page : (pages : List (List ℕ)) (contents : Contents) → CatalogueAt pages (length pages) contents
    → 1 ≤ length pages
some_page [] contents at = absurd (let no = at.words in cc)
some_page (p ∷ pages) contents at = omega arith

-- the third of the three words of a storage
pub root_in_page : (pages : List (List ℕ)) (contents : Contents) (i : ℕ) (s : Stored)
    → CatalogueAt pages (length pages) contents → slice_get contents.storages i ≡ Some s
    → get_or (page pages (length pages)) (18 + 3 * i) 0 ≡ s.root
root_in_page pages contents i s at there =
    let words = page pages (length pages) in
    let place : 18 + 3 * i ≡ 16 + (3 * i + 2) = omega arith in
    ap (λ n. get_or words n 0) place
    ∙ (sym (get_or-drop 16 words (3 * i + 2) 0)
    ∙ (ap (λ (ws : List ℕ). get_or (drop 16 ws) (3 * i + 2) 0) at.words
    ∙ root_word contents.storages (replicate (48 - length (flat_map stored_words contents.storages)) 0) i s there))

-- the second word is the epoch
pub epoch_in_page : (pages : List (List ℕ)) (contents : Contents) → CatalogueAt pages (length pages) contents
    → get_or (page pages (length pages)) 1 0 % 2 ^ 32 ≡ contents.epoch
epoch_in_page pages contents at =
    let is : get_or (page pages (length pages)) 1 0 ≡ contents.epoch = ap (λ (ws : List ℕ). get_or ws 1 0) at.words in
    let below = at.catalogue.epoch in
    let small : contents.epoch % 2 ^ 32 ≡ contents.epoch = omega (arith, below) in
    ap (λ n. n % 2 ^ 32) is ∙ small

-- a root's number is below the catalogue's
pub root_below : (pages : List (List ℕ)) (contents : Contents) (i : ℕ) (s : Stored)
    → CatalogueAt pages (length pages) contents → slice_get contents.storages i ≡ Some s → s.root < length pages
root_below pages contents i s at there =
    (all_at (IsStored (length pages)) contents.storages i s at.catalogue.each there).root

storage_at : (ss : List Stored) (i : ℕ) → i < length ss → (s : Stored) × (slice_get ss i ≡ Some s)
storage_at [] i less = absurd (omega (arith, less))
storage_at (s ∷ ss) zero less = (s, refl)
storage_at (s ∷ ss) (suc i) less = storage_at ss i (omega (arith, less))

length_decls : (ss : List Stored) → length (map stored_decl ss) ≡ length ss
length_decls [] = refl
length_decls (s ∷ ss) = ap suc (length_decls ss)

-- ---- what the call asks

-- The roots as they are read, of so many storages.
pub record AreRead (words : List ℕ) (roots : List ℕ) : Type 0 where
  pub long : length roots ≡ 16
  pub each : (i : ℕ) → i < 16 → get_or roots i 0 ≡ get_or words (18 + 3 * i) 0 % 2 ^ 32

module _ (pages : List (List ℕ)) (few : length pages ≤ 65536) (v : View) (knows : KnowsNewest pages v)
    (declared : AreDecls v.layout.decls) (count : ℕ) (all : count ≡ length v.layout.decls) (roots : List ℕ)
    (are : AreRead (page pages (length pages)) roots) where
  many : length knows.contents.storages ≡ length v.layout.decls
  many = sym (length_decls knows.contents.storages) ∙ ap (λ (l : List Decl). length l) knows.declares

  root_is : (i : ℕ) (s : Stored) → slice_get knows.contents.storages i ≡ Some s → get_or (take count roots) i 0 ≡ s.root
  root_is i s at =
      let low = slice_get_within knows.contents.storages i s at in
      let most = declared.few in
      let less : i < count = omega (arith, low, many, all) in
      let below = root_below pages knows.contents i s knows.at at in
      let read : get_or (page pages (length pages)) (18 + 3 * i) 0 ≡ s.root =
      root_in_page pages knows.contents i s knows.at at in
      let small : s.root % 2 ^ 32 ≡ s.root = omega (arith, below, few) in
      get_or-take count roots i 0 less ∙ (are.each i (omega (arith, less, all, most))
      ∙ (ap (λ n. n % 2 ^ 32) read ∙ small))

  long : length (take count roots) ≡ length v.layout.decls
  long =
      let most = declared.few in
      let size = are.long in
      length-take-le count roots (omega (arith, all, most, size)) ∙ all

  -- the call over these roots, by the catalogue's epoch
  pub called_so : (tally : Dropped) (w : View) (epoch : ℕ) → epoch ≡ knows.contents.epoch
      → HasDroppedAll (take count roots) epoch v tally w → HasCalled pages tally v w
  called_so tally w epoch is all = record {
    roots = take count roots;
    newest = record {
      contents = knows.contents;
      at = knows.at;
      long = long ∙ sym many;
      each = root_is;
    };
    all = subst (λ n. HasDroppedAll (take count roots) n v tally w) is all;
  }

  -- the root with an index
  storage : (r : ℕ) → r < length (take count roots) → (s : Stored) × (slice_get knows.contents.storages r ≡ Some s)
  storage r less = storage_at knows.contents.storages r (omega (arith, less, long, many))

  pub can_drop : v.role ≡ Keeper → IsResting v.seat → HoldsNothing v → v.pages ≡ pages
      → length pages ≤ v.layout.resident → CanDropAll (take count roots) v
  can_drop role rests free same room = record {
    bare = record {
      keeper = role;
      idle = rests.stage;
      holds = free.holds ∙ sym (ap slots_on free.ways);
      made = free.made;
      taken = free.taken;
      locks = rests.locks;
      took = free.took;
      parts = rests.kept;
      heads = free.heads;
      shuts = free.shuts;
    };
    ways = free.ways;
    declared = declared;
    long = long;
    there = λ r less.
        let s = storage r less in
        let below = root_below pages knows.contents r s.0 knows.at s.1 in
        let is = root_is r s.0 s.1 in
        let known : length v.pages ≡ length pages = ap (λ (l : List (List ℕ)). length l) same in
        omega (arith, below, is, known);
    room = λ r less.
        let s = storage r less in
        let below = root_below pages knows.contents r s.0 knows.at s.1 in
        let is = root_is r s.0 s.1 in omega (arith, below, is, room);
    leads = λ r less some.
        let s = storage r less in
        let is : get_or (take count roots) r 0 ≡ (s.0).root = root_is r s.0 s.1 in
        let x = knows.roots r s.0 s.1 (subst (λ n. 0 < n) is some) in
        (x.0, x.1, x.2, x.3 ∙ sym is);
  }

-- ---- what it leaves

module _ (words : List (List ℕ)) (tally : Dropped) (v u mid w : View) (count : ℕ) (named : OnlyNamed v u)
    (claims : AreClaimed u) (called : HasCalled words tally u mid) (looked : HasLooked mid count w) where
  abbrev d : HasDroppedAll called.roots called.newest.contents.epoch u tally mid
  d = called.all

  layout : w.layout ≡ v.layout
  layout =
      ap (λ (z : View). z.layout) looked.is ∙ ap (λ (z : View). z.layout) d.is ∙ ap (λ (z : View). z.layout) named

  since : w.layout ≡ u.layout
  since = ap (λ (z : View). z.layout) looked.is ∙ ap (λ (z : View). z.layout) d.is

  fills : w.fills ≡ u.fills
  fills = ap (λ (z : View). z.fills) looked.is ∙ ap (λ (z : View). z.fills) d.is

  later : w.pages ≡ mid.pages
  later = ap (λ (z : View). z.pages) looked.is

  more : (w.pages ≡ u.pages) ⊎ (length u.pages < length w.pages)
  more = grown u.pages w.pages (subst (IsFront u.pages) (sym later) d.front)

  pages_same : w.pages ≡ u.pages
  pages_same = same_pages u w claims (owns_behind mid w count looked) since fills more

  drops : w.drops ≡ v.drops ++ record { dropped = tally.dropped; kept = tally.kept } ∷ []
  drops =
      ap (λ (z : View). z.drops) looked.is
      ∙ (ap (λ (z : View). z.drops) d.is
      ∙ ap (λ (l : List Counts). l ++ record { dropped = tally.dropped; kept = tally.kept } ∷ [])
      (ap (λ (z : View). z.drops) named))

  longer : length w.drops ≡ length v.drops + 1
  longer =
      ap (λ (l : List Counts). length l) drops
      ∙ length-append v.drops (record { dropped = tally.dropped; kept = tally.kept } ∷ [])

  drawn : IsFront v.history w.history
  drawn =
      subst (IsFront v.history) (sym (ap (λ (z : View). z.history) looked.is))
      (subst (λ h. IsFront h mid.history) (ap (λ (z : View). z.history) named) d.more.drawn)

  decided : IsFront v.decided w.decided
  decided =
      subst (IsFront v.decided) (sym (ap (λ (z : View). z.decided) looked.is))
      (subst (λ h. IsFront h mid.decided) (ap (λ (z : View). z.decided) named) d.more.decided)

  epoch : w.epoch ≡ v.epoch
  epoch = ap (λ (z : View). z.epoch) looked.is ∙ ap (λ (z : View). z.epoch) d.is ∙ ap (λ (z : View). z.epoch) named

  met : w.met ≡ v.met
  met = ap (λ (z : View). z.met) looked.is ∙ ap (λ (z : View). z.met) d.is ∙ ap (λ (z : View). z.met) named

  went : Went v w
  went = record {
    role = ap (λ (z : View). z.role) looked.is ∙ ap (λ (z : View). z.role) d.is ∙ ap (λ (z : View). z.role) named;
    layout = layout;
    made = ap (λ (z : View). z.made) looked.is ∙ ap (λ (z : View). z.made) d.is ∙ ap (λ (z : View). z.made) named;
    parked = ap (λ (z : View). z.parked) looked.is ∙ ap (λ (z : View). z.parked) d.is
        ∙ ap (λ (z : View). z.parked) named;
    past = λ some. ap (λ (z : View). z.past) looked.is ∙ ap (λ (z : View). z.past) d.is
        ∙ ap (λ (z : View). z.past) named;
    seat = ap (λ (z : View). z.seat) looked.is ∙ ap (λ (z : View). z.seat) d.is ∙ ap (λ (z : View). z.seat) named;
    mine = ap (λ (z : View). z.mine) looked.is ∙ ap (λ (z : View). z.mine) d.is ∙ ap (λ (z : View). z.mine) named;
    draws = ap (λ (z : View). z.draws) looked.is ∙ ap (λ (z : View). z.draws) d.is ∙ ap (λ (z : View). z.draws) named;
    refused = ap (λ (z : View). z.refused) looked.is ∙ ap (λ (z : View). z.refused) d.is
        ∙ ap (λ (z : View). z.refused) named;
    drops = subst (IsFront v.drops) (sym drops)
        (front_append v.drops (record { dropped = tally.dropped; kept = tally.kept } ∷ []));
    touched = λ same.
        let long : length w.drops ≡ length v.drops = ap (λ (l : List Counts). length l) same in
        absurd (omega (arith, long, longer));
    blamed = ap (λ (z : View). z.blamed) looked.is ∙ ap (λ (z : View). z.blamed) d.is
        ∙ ap (λ (z : View). z.blamed) named;
    seen = record { history = drawn; decided = decided };
    epoch = omega (arith, epoch);
    met = subst (IsFront v.met) (sym met) (front_refl v.met);
    claimed = λ before. claimed_still u w claims since fills pages_same;
    free = free_still v w
        (ap (λ (z : View). z.grip) looked.is ∙ ap (λ (z : View). z.grip) d.is ∙ ap (λ (z : View). z.grip) named)
        (ap (λ (z : View). z.ways) looked.is ∙ ap (λ (z : View). z.ways) d.is ∙ ap (λ (z : View). z.ways) named)
        (ap (λ (z : View). z.took) looked.is ∙ ap (λ (z : View). z.took) d.is ∙ ap (λ (z : View). z.took) named)
        (ap (λ (z : View). z.shuts) looked.is ∙ ap (λ (z : View). z.shuts) d.is ∙ ap (λ (z : View). z.shuts) named)
        (ap (λ (z : View). z.heads) looked.is ∙ ap (λ (z : View). z.heads) d.is ∙ ap (λ (z : View). z.heads) named);
  }

  pub dropped_so : HasDropped words tally v w
  dropped_so = record {
    went = went;
    pages = pages_same ∙ ap (λ (z : View). z.pages) named;
    epoch = epoch;
    met = met;
    drops = drops;
    named = u;
    over = mid;
    begins = named;
    called = called;
    ends = looked.is ∙ ap (λ (z : View). record mid { steps = z.steps; last = z.last }) (sym looked.is);
  }
