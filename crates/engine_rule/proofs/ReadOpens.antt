-- A database may begin with the pages of a snapshot as they are read.
use Rattle.std.proofs.Common.{◌≡◌, ◌≢◌, ℕ, zero, suc, ◌+◌, ◌<◌, ◌≤◌, true, eqb, eq-eqb, ◌&&◌, inl, inr, List, [], ◌∷◌, length, map, refl, sym, ap, ◌∙◌, subst, arith}
use Rattle.std.proofs.lemmas.Bool.{and_from, or_left, or_right, cases_Bool, cases_eq, cond-true, cond-false, cond_both, lt-ltb}
use Rattle.std.specs.List.{list_all, AllByRecursion, Contains}
use Rattle.std.specs.Prelude.{nat_lt}
use Rattle.lists.specs.Each.{AreDistinct}
use Rattle.lists.specs.Elements.{in_none, in_head, in_tail, in_cases, any_is}
use Rattle.serial_model.specs.declared.key.Key.{Key}
use Rattle.serial_model.specs.declared.number.Number.{Number}
use Rattle.serial_model.specs.declared.decl.Decl.{Decl}
use Rattle.serial_model.specs.declared.decl.Decl.TheVariants.{Array, Tree}
use Rattle.serial_model.specs.Keys.{id_of}
use Rattle.serial_model.specs.Numbers.{IsNumber, IsBelow}
use Rattle.homes.specs.declared.places.Content.{Content}
use Rattle.homes.specs.declared.places.Span.{Span}
use Rattle.homes.specs.declared.places.Home.{Home}
use Rattle.homes.specs.declared.places.Home.TheVariants.{InPage}
use Rattle.homes.specs.Homes.{same_key, same_span, in_span}
use Rattle.homes.specs.Laws.{in_span-parts}
use Rattle.commit_core.specs.Keys.{nothing}
use Rattle.drop_core.specs.declared.table.SnapPage.{SnapPage}
use Rattle.drop_core.specs.declared.table.SnapPage.TheVariants.{Missing, Entries, Children}
use Rattle.drop_core.specs.Table.{snap_of, page_span, entry_home, child_of, snap_step, snap_walk}
use Rattle.drop_core.specs.Event.{leads_down, are_entries_of, tile, is_right, is_right_child}
use Rattle.drop_core.specs.Opening.{opening_table, opening_homes, SpansApart, PagesWithin, has_root}
use Rattle.drop_core.specs.Sound.{LeadsWithin, PublishedAreRight}
use Rattle.wire_form.specs.declared.page.Page.{Page}
use Rattle.wire_form.specs.declared.records.Stored.{Stored}
use Rattle.snapshot_store.specs.declared.place.PagePlace.{PagePlace}
use Rattle.snapshot_store.specs.Places.{Tiles, words_at, places_below}
use Rattle.snapshot_store.specs.Content.{words_of, deepest, root_place, format_of, IsPageOf, RootStands}
use Rattle.engine_rule.specs.Pairs.{page_content, snap_keys}
use Rattle.engine_rule.specs.Opening.{CanOpenJoint}
use Rattle.engine_rule.specs.Reading.{span_of, led_places, storages, named_places, name_from, name_of, leaf_entries, children_at, page_from, page_at, snaps_from, snaps_of, roots_of, AreBelow, IsOpening}
use Rattle.engine_rule.proofs.PairLaws.{look-made}
use Rattle.engine_rule.proofs.ReadLists.{in_right, from_flat, from_mapped, all_mapped, at_mapped, at_each, by_number}
use Rattle.engine_rule.proofs.ReadNames.{IsSplit, split_at, at_name, found_or, IsNamed, name_cases, name_most, child_low, same_span_at, Ordered, ordered_at, flat_ordered, led_ordered, StandsAs, led_stands}
use Rattle.engine_rule.proofs.ReadTiles.{tile_covered, range_right}
use Rattle.engine_rule.proofs.ReadTrees.{tree_right}

same_span-self : (s : Span) → same_span s s ≡ true
same_span-self s =
    and_from (eqb s.storage s.storage) (eqb s.low s.low && eqb s.high s.high) (eq-eqb s.storage s.storage refl)
    (and_from (eqb s.low s.low) (eqb s.high s.high) (eq-eqb s.low s.low refl) (eq-eqb s.high s.high refl))

-- ---- roots

stored_declared : (decls : List Decl) (roots : List ℕ) (s : Stored) → Contains (storages decls roots) s → Contains decls s.decl
stored_declared [] roots s at = absurd (in_none s at)
stored_declared (d ∷ decls) [] s at = absurd (in_none s at)
stored_declared (d ∷ decls) (r ∷ roots) s at = elim (in_cases s (record { decl = d; root = r }) (storages decls roots) at) [
  | inl is ↦ subst (λ (x : Stored). Contains (d ∷ decls) x.decl) is (in_head d decls)
  | inr more ↦ in_tail s.decl d decls (stored_declared decls roots s more)
]

roots_apart : (places : List (Decl × PagePlace)) (decls : List Decl) (roots : List ℕ) → AreDistinct (map id_of decls) → SpansApart (roots_of places (storages decls roots))
roots_apart places [] roots once = tt
roots_apart places (d ∷ decls) [] once = tt
roots_apart places (d ∷ decls) (r ∷ roots) once = (apart, roots_apart places decls roots once.1)
  where
    in_storage : (id : ℕ) (p : PagePlace) (k : Key) → in_span (span_of id p) k ≡ true → k.storage ≡ id
    in_storage id p k inside = (in_span-parts (span_of id p) k inside).0

    apart : (k : Key) → in_span (span_of (id_of d) (root_place d r)) k ≡ true → has_root (roots_of places (storages decls roots)) k → ⊥
    apart k inside other =
        let e = any_is (λ (x : Span × ℕ). in_span x.0 k) (roots_of places (storages decls roots)) other in
        let s = from_mapped (λ (x : Stored). let y : Span × ℕ = (span_of (id_of x.decl) (root_place x.decl x.root), name_of places x.decl (root_place x.decl x.root)) in y) (storages decls roots) e.0 e.1 in
        let there : in_span (span_of (id_of (s.0).decl) (root_place (s.0).decl (s.0).root)) k ≡ true = subst (λ (x : Span × ℕ). in_span x.0 k ≡ true) (sym s.2) e.2 in
        at_mapped (λ (id : ℕ). id_of d ≢ id) id_of decls (s.0).decl once.0 (stored_declared decls roots s.0 s.1)
        (sym (in_storage (id_of d) (root_place d r) k inside) ∙ in_storage (id_of (s.0).decl) (root_place (s.0).decl (s.0).root) k there)

roots_within : (places : List (Decl × PagePlace)) (ss : List Stored) → PagesWithin (length places) (roots_of places ss)
roots_within places [] = tt
roots_within places (s ∷ ss) = (name_most places s.decl (root_place s.decl s.root), roots_within places ss)

-- ---- pages

child_within : (count : ℕ) (children : List (Span × ℕ)) → ((e : Span × ℕ) → Contains children e → e.1 ≤ count) → (k : Key) → child_of children k ≤ count
child_within count [] each k = omega arith
child_within count (e ∷ more) each k =
    cond_both (in_span e.0 k) e.1 (child_of more k) (λ (n : ℕ). n ≤ count) (λ hit. each e (in_head e more))
    (λ miss. child_within count more (λ f there. each f (in_tail f e more there)) k)

module _ (ps : List (List ℕ)) (ss : List Stored) (stand : AllByRecursion (RootStands ps) ss) where
  abbrev places : List (Decl × PagePlace)
  places = named_places ps ss

  abbrev count : ℕ
  count = length places

  abbrev P : Decl × PagePlace → SnapPage
  P = page_at ps places

  abbrev snaps : ℕ → SnapPage
  snaps n = by_number (snaps_of ps places) n

  -- ---- one page

  within_from : (decl : Decl) (words : List ℕ) (p : PagePlace) (below : List PagePlace) → LeadsWithin count (page_from places decl words p below)
  within_from decl words p [] = tt
  within_from decl words p (q ∷ below) = child_within count (children_at places decl (q ∷ below)) (λ e at.
      let r = from_mapped (λ (x : PagePlace). let y : Span × ℕ = (span_of (id_of decl) x, name_of places decl x) in y) (q ∷ below) e at in
      subst (λ (x : Span × ℕ). x.1 ≤ count) r.2 (name_most places decl r.0))

  span_from : (decl : Decl) (words : List ℕ) (p : PagePlace) (below : List PagePlace) → page_span (page_from places decl words p below) ≡ span_of (id_of decl) p
  span_from decl words p [] = refl
  span_from decl words p (q ∷ below) = refl

  down_from : (decl : Decl) (words : List ℕ) (p : PagePlace) (below : List PagePlace) (n : ℕ) → ((q : PagePlace) → Contains below q → name_of places decl q < n)
      → leads_down n (page_from places decl words p below) ≡ true
  down_from decl words p [] n low = refl
  down_from decl words p (q ∷ below) n low =
      all_mapped (λ (e : Span × ℕ). nat_lt e.1 n) (λ (x : PagePlace). let y : Span × ℕ = (span_of (id_of decl) x, name_of places decl x) in y) (q ∷ below)
      (λ x at. lt-ltb (name_of places decl x) n (low x at))

  -- ---- names

  name_is : (decl : Decl) (q : PagePlace) → (name_of places decl q ≡ 0 → ⊥) → name_of places decl q ≡ name_from 1 places decl q
  name_is decl q some = elim (cases_Bool (eqb q.number 0)) [
    | inl none ↦ absurd (some (cond-true (eqb q.number 0) 0 (name_from 1 places decl q) none))
    | inr there ↦ cond-false (eqb q.number 0) 0 (name_from 1 places decl q) there
  ]

  named_over : (decl : Decl) (q : PagePlace) → name_of places decl q ≡ name_from 1 places decl q → (r : IsNamed 1 places decl q)
      → page_span (snaps (name_of places decl q)) ≡ span_of (id_of decl) q
  named_over decl q is r =
      ap (λ (n : ℕ). page_span (snaps n)) (is ∙ r.name)
      ∙ ap (λ (l : List (Decl × PagePlace)). page_span (by_number (snaps_from 1 P l) (1 + length (r.at).before))) (r.at).are
      ∙ ap page_span (at_name P 1 (r.at).before (r.at).e (r.at).after (1 + length (r.at).before) refl)
      ∙ span_from ((r.at).e).0 (words_at ps ((r.at).e).1) ((r.at).e).1 (places_below (format_of ((r.at).e).0) ps ((r.at).e).1)
      ∙ same_span_at decl q (r.at).e r.same

  -- the page with a name is over the keys of its place
  name_over : (decl : Decl) (q : PagePlace) → (name_of places decl q ≡ 0 → ⊥) → page_span (snaps (name_of places decl q)) ≡ span_of (id_of decl) q
  name_over decl q some = elim (name_cases 1 places decl q) [
    | inl none ↦ absurd (some (name_is decl q some ∙ none))
    | inr r ↦ named_over decl q (name_is decl q some) r
  ]

  name_right : (decl : Decl) (q : PagePlace) → is_right_child snaps (span_of (id_of decl) q, name_of places decl q) ≡ true
  name_right decl q = elim (cases_eq (name_of places decl q) 0) [
    | inl none ↦ or_left (eqb (name_of places decl q) 0) (same_span (page_span (snaps (name_of places decl q))) (span_of (id_of decl) q)) (eq-eqb (name_of places decl q) 0 none)
    | inr some ↦
        or_right (eqb (name_of places decl q) 0) (same_span (page_span (snaps (name_of places decl q))) (span_of (id_of decl) q))
        (ap (λ (x : Span). same_span x (span_of (id_of decl) q)) (name_over decl q some) ∙ same_span-self (span_of (id_of decl) q))
  ]

  kids_right : (decl : Decl) (below : List PagePlace) → list_all (is_right_child snaps) (children_at places decl below) ≡ true
  kids_right decl below =
      all_mapped (is_right_child snaps) (λ (x : PagePlace). let y : Span × ℕ = (span_of (id_of decl) x, name_of places decl x) in y) below (λ x at. name_right decl x)

  -- ---- each page

  leaf_right : (decl : Decl) (p : PagePlace) (words : List ℕ) → 0 < p.number → IsPageOf decl p words → are_entries_of (span_of (id_of decl) p) (leaf_entries decl words p) ≡ true
  leaf_right (Array id size) p words some right = range_right id p words
  leaf_right (Tree id) p words some right = tree_right id p words some right

  right_from : (decl : Decl) (p : PagePlace) (words : List ℕ) (below : List PagePlace) → 0 < p.number → IsPageOf decl p words → Tiles p.low p.high below
      → is_right snaps (page_from places decl words p below) ≡ true
  right_from decl p words [] some right tiles = leaf_right decl p words some right
  right_from decl p words (q ∷ below) some right tiles =
      and_from (tile (span_of (id_of decl) p) (children_at places decl (q ∷ below))) (list_all (is_right_child snaps) (children_at places decl (q ∷ below)))
      (tile_covered (id_of decl) (name_of places decl) p q below tiles) (kids_right decl (q ∷ below))

  all_stand : (e : Decl × PagePlace) → Contains places e → StandsAs ps e
  all_stand e at =
      let r = from_flat (λ (s : Stored). led_places s.decl ps deepest (root_place s.decl s.root)) ss e at in
      led_stands ps (r.0).decl deepest (root_place (r.0).decl (r.0).root) (at_each (RootStands ps) ss r.0 stand r.1) e r.2

  all_ordered : Ordered ps [] places
  all_ordered =
      flat_ordered ps (RootStands ps) (λ (s : Stored). led_places s.decl ps deepest (root_place s.decl s.root)) ss [] stand
      (λ s before stands. led_ordered ps s.decl deepest (root_place s.decl s.root) before stands)

  page_right : (e : Decl × PagePlace) → Contains places e → is_right snaps (P e) ≡ true
  page_right e at =
      let s = all_stand e at in
      right_from e.0 e.1 (words_at ps e.1) (places_below (format_of e.0) ps e.1) s.some s.stands.right s.stands.tiles

  page_down : (s : IsSplit places) → leads_down (1 + length s.before) (P s.e) ≡ true
  page_down s =
      let has = ordered_at ps [] s.before s.e s.after (subst (λ (l : List (Decl × PagePlace)). Ordered ps [] l) s.are all_ordered) in
      down_from (s.e).0 (words_at ps (s.e).1) (s.e).1 (places_below (format_of (s.e).0) ps (s.e).1) (1 + length s.before)
      (λ q at. subst (λ (l : List (Decl × PagePlace)). name_of l (s.e).0 q < 1 + length s.before) (sym s.are)
      (child_low s.before (s.e ∷ s.after) (s.e).0 q (has q at)))

  split_in : (s : IsSplit places) → Contains places s.e
  split_in s = subst (λ (l : List (Decl × PagePlace)). Contains l s.e) (sym s.are) (in_right s.before (s.e ∷ s.after) s.e (in_head s.e s.after))

  -- the page with this name
  named_page : (n : ℕ) → 0 < n → n ≤ count → (s : IsSplit places) × (n ≡ 1 + length s.before) × (snaps n ≡ P s.e)
  named_page zero some most = absurd (omega (arith, some))
  named_page (suc i) some most =
      let r = split_at places i (omega (arith, most)) in
      let at : suc i ≡ 1 + length (r.0).before = omega (arith, r.1) in (
        r.0,
        at,
        ap (λ (l : List (Decl × PagePlace)). by_number (snaps_from 1 P l) (suc i)) (r.0).are
            ∙ at_name P 1 (r.0).before (r.0).e (r.0).after (suc i) at,
      )

  pub published_right : PublishedAreRight snaps count
  published_right = record {
    down = λ n some most.
        let r = named_page n some most in
        ap (leads_down n) r.2 ∙ ap (λ (m : ℕ). leads_down m (P (r.0).e)) r.1 ∙ page_down r.0;
    right = λ n some most.
        let r = named_page n some most in ap (is_right snaps) r.2 ∙ page_right (r.0).e (split_in r.0);
  }

  -- each page that is found is one of all, or none
  pub each_page : (Q : SnapPage → Type 0) → ((e : Decl × PagePlace) → Contains places e → Q (P e)) → Q Missing → (n : ℕ) → Q (snaps n)
  each_page Q of_all of_none n = elim (found_or P 1 places n) [
    | inl none ↦ subst Q (sym none) of_none
    | inr r ↦ subst Q (sym r.2) (of_all r.0 r.1)
  ]

  pub all_within : (n : ℕ) → LeadsWithin count (snaps n)
  all_within n = each_page (LeadsWithin count)
      (λ e at. within_from e.0 (words_at ps e.1) e.1 (places_below (format_of e.0) ps e.1)) tt n

-- ---- numbers

none_below : (first : Number) → IsNumber first → IsBelow nothing.number first
none_below first number = let some = number.some_epoch in inl (omega (arith, some))

entry_below : (first : Number) → IsNumber first → (n : ℕ) (entries : List (Key × Content)) (k : Key) → AllByRecursion (λ e. IsBelow (e.1).number first) entries
    → IsBelow (page_content (entry_home n entries k)).number first
entry_below first number n [] k all = none_below first number
entry_below first number n (e ∷ more) k all =
    cond_both (same_key e.0 k) (InPage n e.1) (entry_home n more k) (λ (h : Home). IsBelow (page_content h).number first) (λ hit. all.0)
    (λ miss. entry_below first number n more k all.1)

step_below : (first : Number) → IsNumber first → (down : ℕ → Key → Home) (n : ℕ) (k : Key) (q : SnapPage) → AreBelow first q
    → ((m : ℕ) → IsBelow (page_content (down m k)).number first) → IsBelow (page_content (snap_step down n k q)).number first
step_below first number down n k Missing all below = none_below first number
step_below first number down n k (Entries span entries) all below = entry_below first number n entries k all
step_below first number down n k (Children span children) all below = below (child_of children k)

walk_below : (first : Number) → IsNumber first → (snaps : ℕ → SnapPage) → ((n : ℕ) → AreBelow first (snaps n)) → (f n : ℕ) (k : Key)
    → IsBelow (page_content (snap_walk f snaps n k)).number first
unfolding snap_walk
walk_below first number snaps all zero n k = none_below first number
walk_below first number snaps all (suc f) n k = step_below first number (λ m q. snap_walk f snaps m q) n k (snaps n) (all n) (λ m. walk_below first number snaps all f m k)

-- ---- all of it

pub may_begin : (pages : List Page) (decls : List Decl) (roots : List ℕ) (first : Number) (room : ℕ) → IsOpening pages decls roots first
    → CanOpenJoint (snaps_of (words_of pages) (named_places (words_of pages) (storages decls roots))) (length (named_places (words_of pages) (storages decls roots)))
    (roots_of (named_places (words_of pages) (storages decls roots)) (storages decls roots)) first room
may_begin pages decls roots first room can =
    let ps : List (List ℕ) = words_of pages in
    let ss : List Stored = storages decls roots in
    let named : List (Decl × PagePlace) = named_places ps ss in
    let homes : Key → Home = opening_homes (snaps_of ps named) (length named) (roots_of named ss) room in
    record {
      pages = record {
        apart = roots_apart named decls roots can.declared.distinct;
        within = roots_within named ss;
        closed = λ n most. all_within ps ss can.stand n;
        right = published_right ps ss can.stand;
      };
      number = can.number;
      below = λ k. elim (look-made (λ q. page_content (homes q)) nothing (snap_keys (snaps_of ps named)) k) [
        | inl is ↦ subst (λ (c : Content). IsBelow c.number first) (sym is)
            (walk_below first can.number (snap_of (opening_table (snaps_of ps named) (length named) (roots_of named ss) room))
            (each_page ps ss can.stand (AreBelow first) (λ e at. at_each (λ (x : Decl × PagePlace). AreBelow first (page_at ps named x)) named e can.below at) tt)
            (child_of (roots_of named ss) k) (child_of (roots_of named ss) k) k)
        | inr none ↦ subst (λ (c : Content). IsBelow c.number first) (sym none.0) (none_below first can.number)
      ];
    }
