-- The pages of a store are published, with names for all that its newest snapshot's roots lead to.
use Rattle.std.proofs.Common.{◌≡◌, ◌∙◌, sym, ap, subst, refl, ℕ, ◌<◌, ◌≤◌, List, [], ◌∷◌, ◌++◌, length, drop}
use Rattle.std.proofs.Common.{get_or, replicate, arith, map, Option}
use Rattle.std.specs.Prelude.{flat_map, ◌-◌}
use Rattle.lists.specs.Fronts.{IsFront, front_length, front_refl, front_rest, front_same}
use Rattle.serial_model.specs.declared.decl.Decl.{Decl}
use Rattle.serial_model.specs.declared.number.Number.{Number}
use Rattle.wire_form.specs.declared.records.Stored.{Stored}
use Rattle.wire_form.specs.declared.page.Page.{Page}
use Rattle.wire_form.specs.Pages.{Contents, decls_of, stored_decl, stored_words}
use Rattle.snapshot_store.specs.Content.{CatalogueAt, SnapshotStands, words_of}
use Rattle.snapshot_store.specs.declared.place.PagePlace.{PagePlace}
use Rattle.snapshot_store.specs.Places.{page}
use Rattle.engine_rule.specs.Reading.{named_places}
use Rattle.engine_pages.specs.Passes.{Pass, view}
use Rattle.engine_pages.specs.declared.view.Glance.{Glance}
use Rattle.engine_pages.specs.declared.view.Lead.{Lead}
use Rattle.engine_pages.specs.declared.view.View.{View}
use Rattle.resident_pages.specs.Fills.{AreClaimed, HasLooked}
use Rattle.resident_pages.specs.Publishes.{CanNameAll, HasPublished, OnlyFilled}
use Rattle.resident_pages.proofs.PagesPublished.{can_name_all, of_catalogue}
use Rattle.shared_rounds.specs.Published.{HasPages}
use Rattle.shared_rounds.specs.SharedState.{IsKept, SharedState, marks_of, shared_by, state_of}

-- ---- the storages of a catalogue

-- these storages, with the roots that the words of a catalogue have, three words for each
abbrev pub stored_in : List Decl → List ℕ → List Stored
stored_in [] words = []
stored_in (d ∷ decls) words = record { decl = d; root = get_or words 2 0 } ∷ stored_in decls (drop 3 words)

-- what the words of the catalogue on the last page say
abbrev pub newest_in : List Decl → List (List ℕ) → List Stored
newest_in decls pages = stored_in decls (drop 16 (page pages (length pages)))

stored_read : (ss : List Stored) (rest : List ℕ)
    → stored_in (map stored_decl ss) (flat_map stored_words ss ++ rest) ≡ ss
stored_read [] rest = refl
stored_read (s ∷ ss) rest = ap (λ (l : List Stored). s ∷ l) (stored_read ss rest)

pub newest_is : (pages : List (List ℕ)) (contents : Contents) → CatalogueAt pages (length pages) contents
    → newest_in (decls_of contents) pages ≡ contents.storages
newest_is pages contents at =
    ap (λ (ws : List ℕ). stored_in (decls_of contents) (drop 16 ws)) at.words
    ∙ stored_read contents.storages (replicate (48 - length (flat_map stored_words contents.storages)) 0)

-- ---- names

-- those that are known, and the others
pub all_pages : (all front : List (List ℕ)) (known : ℕ) → IsFront front all → known ≡ length front
    → front ++ drop known all ≡ all
all_pages all front known is at = ap (λ n. front ++ drop n all) at ∙ front_rest front all is

pub can_name : (pages : List Page) (contents : Contents) (v : View) (known : ℕ)
    → SnapshotStands (words_of pages) (length pages) contents → length (words_of pages) ≡ length pages
    → decls_of contents ≡ v.layout.decls → IsFront v.pages (words_of pages) → known ≡ length v.pages
    → CanNameAll (drop known (words_of pages))
    (named_places (words_of pages) (newest_in v.layout.decls (words_of pages))) v
can_name pages contents v known stands many same front at =
    let words : List (List ℕ) = words_of pages in
    let here : CatalogueAt words (length words) contents =
    subst (λ n. CatalogueAt words n contents) (sym many) stands.here in
    let storages : newest_in v.layout.decls words ≡ contents.storages =
    ap (λ (ds : List Decl). newest_in ds words) (sym same) ∙ newest_is words contents here in
    subst (λ (ss : List Stored). CanNameAll (drop known words) (named_places words ss) v) (sym storages)
    (can_name_all words (drop known words) contents.storages v
    (of_catalogue words (length pages) contents v.layout.decls stands same) (all_pages words v.pages known front at))

-- ---- what is left of the view

-- a load changes what was loaded last alone
pub only_looked : (v w : View) (count : ℕ) → HasLooked v count w → OnlyFilled v w
only_looked v w count h =
    h.is ∙ ap (λ (z : View). record v { steps = z.steps; last = z.last; fills = z.fills }) (sym h.is)

-- a view with other pages
abbrev other_pages : View → ℕ → Option Glance → List (List ℕ) → View → View
other_pages v steps last pages w =
    record v { steps = steps; last = last; pages = pages; leads = w.leads; fills = w.fills }

-- a load, and then the pages
pub pages_then : (pages new : List (List ℕ)) (names : List (Decl × PagePlace)) (v u w : View) → OnlyFilled v u
    → u.pages ++ new ≡ pages → HasPublished new names u w → HasPages pages v w
pages_then pages new names v u w only all h =
    h.is
    ∙ (ap (λ (l : List Lead). record u {
      steps = w.steps;
      last = w.last;
      pages = u.pages ++ new;
      leads = l;
      fills = w.fills;
    }) (sym (ap (λ (z : View). z.leads) h.is))
    ∙ (ap (λ (z : View). other_pages z w.steps w.last (u.pages ++ new) w) only
    ∙ ap (λ (ps : List (List ℕ)). other_pages v w.steps w.last ps w) all))

-- as they were
pub pages_same : (all : List (List ℕ)) (v w : View) → OnlyFilled v w → IsFront v.pages all
    → length all ≤ length v.pages → HasPages all v w
pages_same all v w only front most =
    only
    ∙ (ap (λ (ps : List (List ℕ)). record v {
      steps = w.steps;
      last = w.last;
      pages = ps;
      leads = v.leads;
      fills = w.fills;
    }) (front_same v.pages all all front (front_refl all)
    (let less = front_length v.pages all front in omega (arith, less, most)))
    ∙ ap (λ (l : List Lead). record v { steps = w.steps; last = w.last; pages = all; leads = l; fills = w.fills })
    (sym (ap (λ (z : View). z.leads) only)))

-- ---- between two rounds

pub kept_published : (pages : List (List ℕ)) (v w : View) → HasPages pages v w → AreClaimed w → IsKept v → IsKept w
kept_published pages v w is claims k = subst IsKept (sym is) record {
  role = k.role;
  made = k.made;
  decls = k.decls;
  first = k.first;
  records = k.records;
  counted = record { own = k.counted.own; all = k.counted.all; drawn = k.counted.drawn };
  draws = k.draws;
  once = k.once;
  serial = k.serial;
  parked_are = k.parked_are;
  parked = k.parked;
  rests = k.rests;
  some_slots = k.some_slots;
  few = k.few;
  claimed = record {
    has = λ n less most.
        claims.has n (subst (λ (z : View). length z.pages < n) (sym is) less)
        (subst (λ (z : View). n ≤ z.layout.resident) (sym is) most);
    long = claims.long;
  };
  free = record {
    holds = k.free.holds;
    made = k.free.made;
    taken = k.free.taken;
    ways = k.free.ways;
    took = k.free.took;
    heads = k.free.heads;
    shuts = k.free.shuts;
  };
}

-- of the engine the pages alone changed
pub shared_published : (pages : List (List ℕ)) (old new : Pass) (clock : Number) → HasPages pages (view old) (view new)
    → shared_by new clock ≡ record (shared_by old clock) { pages = pages }
shared_published pages old new clock is =
    ap (λ (v : View). let s : SharedState = record {
      decls = v.layout.decls;
      state = state_of v;
      opening = v.layout.opening;
      clock = clock;
      mine = v.mine;
      refused = v.refused;
      met = v.met;
      marks = marks_of v.parked;
      slots = v.layout.slots;
      pages = v.pages;
      resident = v.layout.resident;
      drops = v.drops;
    } in s) is
