-- The first words and the keeper's pass show both machines as they begin.
use Rattle.std.proofs.Common.{◌≡◌, ℕ, zero, suc, ◌+◌, ◌<◌, ◌≤◌, inl, inr, List, [], ◌∷◌, length, get_or, refl, sym, ap}
use Rattle.std.proofs.Common.{◌∙◌, subst, arith, Some, slice_get}
use Rattle.std.specs.List.{AllByRecursion, Contains}
use Rattle.lists.specs.Elements.{at_in}
use Rattle.serial_model.specs.declared.decl.Decl.{Decl}
use Rattle.serial_model.specs.declared.decl.Decl.TheVariants.{Array, Tree}
use Rattle.serial_model.specs.declared.key.Key.{Key}
use Rattle.serial_model.specs.declared.number.Number.{Number}
use Rattle.serial_model.specs.Keys.{id_of}
use Rattle.serial_model.specs.Numbers.{IsBelow}
use Rattle.homes.specs.declared.places.At.TheVariants.{Root}
use Rattle.homes.specs.declared.places.Holder.TheVariants.{Free, Held}
use Rattle.homes.specs.declared.places.Content.{Content}
use Rattle.homes.specs.declared.places.Span.{Span}
use Rattle.homes.specs.Homes.{look, same_at}
use Rattle.wire_form.specs.declared.records.Stored.{Stored}
use Rattle.snapshot_store.specs.declared.place.PagePlace.{PagePlace}
use Rattle.snapshot_store.specs.Content.{deepest, format_of, root_place, IsPageOf, RootStands}
use Rattle.snapshot_store.specs.Places.{StandsTo}
use Rattle.commit_core.specs.Keys.{content_at}
use Rattle.drop_core.specs.declared.table.Pointer.{Pointer}
use Rattle.drop_core.specs.Opening.{root_pointers}
use Rattle.drop_core.specs.Table.{no_pointer, pointer_of}
use Rattle.engine_rule.specs.Law.{StartsSound}
use Rattle.engine_rule.specs.Opening.{CanOpenJoint}
use Rattle.engine_rule.specs.Reading.{name_of, named_places, roots_of, snaps_of, span_of, storages}
use Rattle.engine_rule.proofs.ReadLists.{at_each}
use Rattle.engine_rule.proofs.ReadOpens.{may_begin}
use Rattle.engine_pages.specs.declared.layout.Layout.{Layout}
use Rattle.engine_pages.specs.Beginning.{CanBegin, IsRead, first_places, first_table}
use Rattle.engine_pages.specs.BeginningLaws.{begins}
use Rattle.engine_pages.specs.Layout.{root_at}
use Rattle.engine_pages.specs.Resident.{IsStanding, place_for}
use Rattle.engine_pages.specs.Rule.{Shows}
use Rattle.engine_pages.specs.Views.{opening_view}
use Rattle.engine_pages.specs.Words.{ShowsPointer}
use Rattle.page_opening.specs.Making.{AreFirst, CanMake}
use Rattle.page_opening.proofs.Contents.{IsGood, good_opening}
use Rattle.page_opening.proofs.Named.{IsNamedIn, Named, each_named, name_some, root_named, root_number, stored_declared}
use Rattle.page_opening.proofs.Roots.{look_root, root_spans, rooted, rooted_is, stored_at}

-- what stands is there
is_there : (decl : Decl) (pages : List (List ℕ)) (d : ℕ) (p : PagePlace)
    → StandsTo (format_of decl) (IsPageOf decl) pages d p → p.number ≤ length pages
is_there decl pages zero p stands = absurd stands
is_there decl pages (suc d) p stands = stands.there

-- a root's place is that of its keys with its number
place_same : (decl : Decl) (root : ℕ)
    → root_place decl root ≡ place_for (span_of (id_of decl) (root_place decl root)) root
place_same (Array id size) root = refl
place_same (Tree id) root = refl

-- nobody has shut a pointer that is open
free_held : (p : ℕ) → Free ≡ Held p → p ≡ 0
free_held p held = absurd (cc)

below_epoch : (n first : Number) → IsBelow n first → n.epoch ≤ first.epoch
below_epoch n first (inl less) = omega arith
below_epoch n first (inr same) = let e = same.0 in omega arith

module _ (starts : StartsSound) (l : Layout) (words : List ℕ) (can : CanMake l) (read : IsRead l) (first : AreFirst l words) where
  abbrev ss : List Stored
  ss = storages l.decls l.roots

  abbrev places : List Named
  places = first_places l

  abbrev entries : List (Span × ℕ)
  entries = roots_of places ss

  stand : AllByRecursion (RootStands l.pages) ss
  stand = subst (λ (x : List (List ℕ)). AllByRecursion (RootStands x) ss) (sym can.are) can.opens.stand

  joint : CanOpenJoint (snaps_of l.pages places) (length places) entries l.first l.slots
  joint =
      subst (λ (x : List (List ℕ)). CanOpenJoint (snaps_of x (named_places x ss)) (length (named_places x ss)) (roots_of (named_places x ss) ss) l.first l.slots)
      (sym can.are) (may_begin can.pages l.decls l.roots l.first l.slots can.opens)

  -- ---- contents

  good : (k : Key) → IsGood l.decls k (content_at l.opening k)
  good k =
      subst (λ (o : List (Key × Content)). IsGood l.decls k (content_at o k)) (sym read)
      (good_opening l.decls can.opens.declared.distinct l.pages ss l.slots stand (stored_declared l.decls l.roots) k)

  epoch_low : (k : Key) → (content_at l.opening k).number.epoch ≤ l.first.epoch
  epoch_low k =
      below_epoch (content_at l.opening k).number l.first
      (subst (λ (o : List (Key × Content)). IsBelow (content_at o k).number l.first) (sym read) (joint.below k))

  -- ---- pages with names

  named : (n : ℕ) (e : Named) → slice_get places n ≡ Some e → IsNamedIn l.pages ss e
  named n e at = each_named l.pages ss stand e (at_in places n e at)

  standing : (n : ℕ) (e : Named) → slice_get places n ≡ Some e → IsStanding l.decls l.pages e
  standing n e at =
      let r = named n e at in record {
        declared = subst (λ (d : Decl). Contains l.decls d) (sym r.led.same) (stored_declared l.decls l.roots r.of r.has);
        there = r.led.some;
        depth = r.led.depth;
        most = r.led.most;
        stands = r.led.stands;
      }

  -- ---- roots

  each : length l.roots ≡ length l.decls
  each = can.opens.each

  root_is : (r : ℕ) → pointer_of (first_table l places l.roots) (Root r) ≡ rooted entries r
  root_is r =
      let from : r ≡ 0 + r = omega arith in
      ap (λ k. look same_at no_pointer (root_pointers 0 entries) (Root k)) from ∙ look_root entries 0 r

  root_shown : (r : ℕ) → r < length l.decls
      → ShowsPointer places words (root_at r) (pointer_of (first_table l places l.roots) (Root r))
  root_shown r less =
      let s = stored_at l.decls l.roots r each less in
      let root : ℕ = get_or l.roots r 0 in
      let place : PagePlace = root_place s.decl root in
      let number : place.number ≡ root = root_number s.decl root in
      let stored : Stored = record { decl = s.decl; root = root } in
      let there : root ≤ length l.pages =
      subst (λ n. n ≤ length l.pages) number (is_there s.decl l.pages deepest place (at_each (RootStands l.pages) ss stored stand s.has)) in
      let few = can.within in
      let most = can.resident in
      subst (ShowsPointer places words (root_at r)) (sym (root_is r ∙ rooted_is places l.decls l.roots r s)) record {
        number = root;
        word = first.roots r (omega (arith, each, less)) ∙ omega arith;
        page = omega (arith, there, few, most);
        slot = tt;
        named = record {
          decl = s.decl;
          storage = refl;
          is = ap (name_of places s.decl) (place_same s.decl root);
          there = λ some.
              let page : 0 < place.number = subst (λ n. 0 < n) (sym number) some in
              name_some places s.decl place page (root_named l.pages ss stand stored s.has page);
        };
        keepers = free_held;
      }

  -- ---- the rule

  begun : CanBegin l places l.roots words
  begun = record {
    can = joint;
    opening = read;
    first = record { draw = can.opens.number.most_draw; epoch = can.opens.number.most_epoch };
    begun = let some = can.opens.number.some_epoch in omega (arith, some);
    declared = can.opens.declared;
    blank = record { never = λ k kind none. (good k).never kind none; blank = λ k is. (good k).blank is };
    small = λ k. record {
      draw = (good k).draw;
      epoch = let most = can.opens.number.most_epoch in omega (arith, epoch_low k, most);
    };
    few = (can.slots, can.opens.declared.few, can.resident);
    within = can.within;
    standing = standing;
    below = λ n e at q has some. name_some places e.0 q some ((named n e at).led.below q has some);
    spans_are = λ r. ap (λ (q : Pointer). q.span) (root_is r) ∙ (root_spans places l.decls l.roots each r).1;
    unled = λ r. ap (λ (q : Pointer). q.slot) (root_is r) ∙ (root_spans places l.decls l.roots each r).0;
    long = first.long;
    clock = first.clock;
    decisions = first.decisions;
    marks = first.marks;
    count = first.count;
    unused = λ at from to other. first.unused at (let e = each in omega (arith, e, from)) to other;
    pointers = root_shown;
    slots = first.slots;
    resident = first.resident;
  }

  pub opens : Shows l words (opening_view l ∷ [])
  opens = begins starts l places l.roots words begun
