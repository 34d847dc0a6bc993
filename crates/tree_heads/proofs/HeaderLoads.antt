-- A header is loaded: what page it is, its keys, its halves or its separators.
use Rattle.std.proofs.Common.{◌≡◌, inl, inr, ℕ, zero, suc, ◌+◌, ◌-◌, ◌^◌, ◌<◌, ◌≤◌, Bool, true, false, eqb, ltb, List, ◌∷◌, length}
use Rattle.std.proofs.Common.{get_or, refl, sym, ap, ◌∙◌, subst, arith, Some}
use Rattle.std.specs.Prelude.{MatchBool, if◌then◌else◌}
use Rattle.std.specs.List.{Contains}
use Rattle.std.proofs.lemmas.Bool.{and_from}
use Rattle.std.proofs.lemmas.Bool.Decides.{nat_tests}
use Rattle.atomic_table.specs.Table.{Me, Allows}
use Rattle.lists.specs.Elements.{in_cases}
use Rattle.homes.specs.declared.places.Holder.TheVariants.{Free}
use Rattle.homes.specs.declared.places.Span.{Span}
use Rattle.drop_core.specs.declared.table.Page.{Page}
use Rattle.drop_core.specs.declared.table.Page.TheVariants.{Blank, Leaf, Inner, Split}
use Rattle.drop_core.specs.declared.table.Slot.{Slot}
use Rattle.drop_core.specs.Table.{at_index, has_pointer, header_of, is_led, is_live, page_of, pointer_of, slot_of}
use Rattle.engine_pages.specs.declared.layout.Layout.{Layout}
use Rattle.engine_pages.specs.declared.view.Inner.{Inner as KnownInner}
use Rattle.engine_pages.specs.declared.view.Known.{Known}
use Rattle.engine_pages.specs.declared.view.Moved.{Moved}
use Rattle.engine_pages.specs.declared.view.View.{View}
use Rattle.engine_pages.specs.Agreement.{TreesAgree}
use Rattle.engine_pages.specs.Layout.{page_at}
use Rattle.engine_pages.specs.Pages.{Fenced, part_between, part_high}
use Rattle.engine_pages.specs.Rule.{Shared, Shows, IsInner, IsKnownLeaf, IsMoved}
use Rattle.engine_pages.specs.Steps.{kept_at, read_at}
use Rattle.engine_pages.specs.Views.{IsActive, seat_number}
use Rattle.engine_pages.specs.Words.{child_high, lock_field, tree_child}
use Rattle.engine_pages.proofs.Agreeing.{agreed}
use Rattle.engine_pages.proofs.Joint.{Laws}
use Rattle.engine_pages.proofs.Looks.{look_stride}
use Rattle.engine_pages.proofs.Slotlists.{get_tab, length_tab, tab}
use Rattle.engine_pages.proofs.Turns.{Begins, Stride, allows_at}
use Rattle.tree_heads.specs.Headers.{HasChildren, HasHeader, HasTwins, Headed, IsTreeAt, kind_of, knew, met_inner, met_moved, moved_bit}
use Rattle.tree_heads.specs.Headers.{moved_locked}
use Rattle.tree_heads.proofs.TreeAt.{AtTree, Says, at_tree, are_keys, fields, free_alive, free_moved, header_deals, is_noted, knows_keys}
use Rattle.tree_heads.proofs.TreeAt.{led_alive, leaf_unmoved, lock_is, not_split, pages_same, unlocked_bits, unmoved}

-- ---- what is told

module _ (t : ℕ) (sp : Span) (at : ℕ) (v : View) (n : ℕ) (w : View) where
  leaf_told : kind_of n ≡ 1 → n < moved_bit → HasHeader t sp at v n w → Headed t sp at v n w
  leaf_told kind low h =
      let one : eqb (kind_of n) 1 ≡ true = grind (arith, nat_tests) in
      let less : ltb n (2 ^ 62) ≡ true = grind (arith, nat_tests) in
      subst (λ c. MatchBool c (MatchBool (ltb n (2 ^ 62)) (HasHeader t sp at v n w) (HasTwins t sp at v n w)) (HasChildren t at v n w))
      (sym one)
      (subst (λ c. MatchBool c (HasHeader t sp at v n w) (HasTwins t sp at v n w)) (sym less) h)

  split_told : kind_of n ≡ 1 → moved_bit ≤ n → HasTwins t sp at v n w → Headed t sp at v n w
  split_told kind high h =
      let one : eqb (kind_of n) 1 ≡ true = grind (arith, nat_tests) in
      let more : ltb n (2 ^ 62) ≡ false = grind (arith, nat_tests) in
      subst (λ c. MatchBool c (MatchBool (ltb n (2 ^ 62)) (HasHeader t sp at v n w) (HasTwins t sp at v n w)) (HasChildren t at v n w))
      (sym one)
      (subst (λ c. MatchBool c (HasHeader t sp at v n w) (HasTwins t sp at v n w)) (sym more) h)

  inner_told : kind_of n ≡ 2 → HasChildren t at v n w → Headed t sp at v n w
  inner_told kind h =
      let two : eqb (kind_of n) 1 ≡ false = grind (arith, nat_tests) in
      subst (λ c. MatchBool c (MatchBool (ltb n (2 ^ 62)) (HasHeader t sp at v n w) (HasTwins t sp at v n w)) (HasChildren t at v n w))
      (sym two) h

-- ---- the step

module _ (l : Layout) (words : List ℕ) (views : List View) (s : Shared) (id : ℕ) (v : View) (active : IsActive v.role)
    (b : Begins l words views s id v) (t : ℕ) (sp : Span) (is : IsTreeAt v t sp) where
  abbrev at : ℕ
  at = page_at l.slots t 0

  abbrev n : ℕ
  n = get_or words at 0

  page : AtTree l words s v t sp
  page = at_tree l words views s id v b t sp is

  -- a slot to which a live pointer leads is one that there is
  pub slot_within : (j u : ℕ) → is_live s.table (at_index t j) ≡ true → (pointer_of s.table (at_index t j)).slot ≡ Some u
      → u < l.slots
  slot_within j u live leads = by_less (ltb u l.slots) refl
    where
      by_less : (c : Bool) → ltb u l.slots ≡ c → u < l.slots
      by_less true low = grind (arith, nat_tests)
      by_less false high =
          let past : l.slots ≤ u = grind (arith, nat_tests) in
          let fresh = b.sound.joint.pages.within u (subst (λ z. z ≤ u) (sym b.sound.room) past) in
          let led = b.sound.joint.pages.table.holds_counted.back (at_index t j) u live leads in
          let never = sym led ∙ ap (λ (z : Slot). z.led) fresh in absurd (cc)

  -- the step that knows more of the page
  stride : (known : List Known) (moved : List Moved) (inners : List KnownInner)
      → ((x : Known) → Contains known x → IsKnownLeaf l s.table s.trees v.grip.holds x)
      → ((x : Moved) → Contains moved x → IsMoved l words s.table s.trees v.grip.holds x)
      → ((x : KnownInner) → Contains inners x → IsInner l s.table s.trees v.grip.holds x)
      → (TreesAgree (record (read_at at n v) { known = known; moved = moved; inners = inners })
      → Headed t sp at v n (record (read_at at n v) { known = known; moved = moved; inners = inners }))
      → Stride l words views s (seat_number v.role) v at (λ k. k) (Headed t sp at)
  stride known moved inners knows meets parts told =
      let was = pages_same l words views s id v b active in
      let w : View = record (read_at at n v) { known = known; moved = moved; inners = inners } in
      agreed l words views s v active at (λ k. k) (Headed t sp at)
      (look_stride l words views s id v active b at (λ k. k) w (λ v k w. TreesAgree w → Headed t sp at v k w) refl
      record { layout = refl; role = refl; made = refl; past = refl; parked = refl; epoch = refl; mine = refl; draws = refl; due = refl; seat = refl; checked = refl; took = refl; loaded = refl; met = refl; heard = refl; versions = refl; history = refl; decided = refl }
      refl
      record {
        within = was.within;
        ways = was.ways;
        drafts = was.drafts;
        copies = was.copies;
        blanks = was.blanks;
        resident = was.resident;
        leads = was.leads;
        fills = was.fills;
        known = knows;
        heads = was.heads;
        moved = meets;
        sealed = was.sealed;
        inners = parts;
        new_leaves = was.new_leaves;
        new_inners = was.new_inners;
        shuts = was.shuts;
      }
      (header_deals l words views s id v b t sp is w
      record { role = refl; ways = refl; took = refl; gone = refl; touched = refl; blamed = refl; locks = refl }
      (is_noted v at n (kept_at v.reads at)))
      told)

  knows : (x : Known) → Contains (record { slot = t; keys = page.fence.keys } ∷ v.known) x
      → IsKnownLeaf l s.table s.trees v.grip.holds x
  knows x has = elim (in_cases x (record { slot = t; keys = page.fence.keys }) v.known has) [
    | inl new ↦ subst (IsKnownLeaf l s.table s.trees v.grip.holds) new (knows_keys l words views s id v b t sp page)
    | inr old ↦ b.pages.treed.known x old
  ]

  -- where a child ends
  high_is : (f : Fenced) (c : ℕ) (words : List ℕ) (seps : List ℕ) → length seps ≡ c
      → ((j : ℕ) → j < c → get_or words (page_at l.slots t (34 + j)) 0 ≡ get_or seps j 0) → (j : ℕ) → j ≤ c
      → child_high words l.slots t f.span (suc c) j ≡ part_high f.span seps j
  high_is f c words seps long same j less = by_last (ltb j c) refl
    where
      by_last : (q : Bool) → ltb j c ≡ q → child_high words l.slots t f.span (suc c) j ≡ part_high f.span seps j
      by_last true more =
          let low : j < c = grind (arith, nat_tests) in
          let here : ltb (j + 1) (suc c) ≡ true = grind (arith, nat_tests) in
          let there : ltb j (length seps) ≡ true = ap (ltb j) long ∙ more in
          ap (λ z. if z then get_or words (page_at l.slots t (34 + j)) 0 - 1 else f.span.high) here
          ∙ (ap (λ z. z - 1) (same j low)
          ∙ ap (λ z. if z then get_or seps j 0 - 1 else f.span.high) (sym there))
      by_last false last =
          let high : c ≤ j = grind (arith, nat_tests) in
          let here : ltb (j + 1) (suc c) ≡ false = grind (arith, nat_tests) in
          let there : ltb j (length seps) ≡ false = ap (ltb j) long ∙ last in
          ap (λ z. if z then get_or words (page_at l.slots t (34 + j)) 0 - 1 else f.span.high) here
          ∙ ap (λ z. if z then get_or seps j 0 - 1 else f.span.high) (sym there)

  -- the parts of an interior page's keys are those between its separators
  part_is : (f : Fenced) (c : ℕ) (words : List ℕ) (seps : List ℕ) → length seps ≡ c
      → ((j : ℕ) → j < c → get_or words (page_at l.slots t (34 + j)) 0 ≡ get_or seps j 0) → (j : ℕ) → j ≤ c
      → tree_child words l.slots t f.span (suc c) j ≡ part_between f.span seps j
  part_is f c words seps long same zero less =
      ap (λ z. let q : Span = record { storage = f.span.storage; low = f.span.low; high = z } in q) (high_is f c words seps long same zero less)
  part_is f c words seps long same (suc j) less =
      ap (λ z. let q : Span = record { storage = f.span.storage; low = z; high = child_high words l.slots t f.span (suc c) (suc j) } in q)
      (same j (omega arith))
      ∙ ap (λ z. let q : Span = record { storage = f.span.storage; low = get_or seps j 0; high = z } in q) (high_is f c words seps long same (suc j) less)

  by_page : (pg : Page) → page_of s.table t ≡ pg → Says l words s t page.fence pg
      → Stride l words views s (seat_number v.role) v at (λ k. k) (Headed t sp at)
  by_page Blank laid shows = absurd shows
  by_page (Leaf keys) laid shows =
      let few = shows.2.few in
      let lock = lock_is (header_of s.table t) in
      let fld = fields n (length page.fence.keys) 1 (lock_field (header_of s.table t)) false shows.1 (omega arith) (omega arith) lock in
      let low = unmoved n (length page.fence.keys) 1 (lock_field (header_of s.table t)) shows.1 (omega arith) (omega arith) lock in
      stride (record { slot = t; keys = page.fence.keys } ∷ v.known) v.moved v.inners knows b.pages.treed.moved b.pages.treed.inners
      (λ trees. leaf_told t sp at v n (knew t page.fence.keys (read_at at n v)) fld.kind low record {
        keys = page.fence.keys;
        are = are_keys l words views s id v b t sp page shows.2;
        few =
            unlocked_bits n (length page.fence.keys) 1 (lock_field (header_of s.table t)) false shows.1 (omega arith) (omega arith) lock;
        count = sym fld.count;
        unmoved = leaf_unmoved l words views s id v b t keys laid;
        trees = trees;
        is = refl;
      })
  by_page (Inner zero) laid shows = absurd (omega (arith, shows.2))
  by_page (Inner (suc c)) laid shows =
      let few = shows.3 in
      let fld = fields n (suc c) 2 0 false shows.1 (omega arith) (omega arith) (inl refl) in
      let seps : List ℕ = tab (λ j. get_or words (page_at l.slots t (34 + j)) 0) c in
      let long : length seps ≡ c = length_tab (λ j. get_or words (page_at l.slots t (34 + j)) 0) c in
      stride v.known v.moved (record { slot = t; separators = seps } ∷ v.inners) b.pages.treed.known b.pages.treed.moved
      (λ x has. elim (in_cases x (record { slot = t; separators = seps }) v.inners has) [
        | inl new ↦ subst (IsInner l s.table s.trees v.grip.holds) new record {
          within = page.within;
          held = page.held;
          known = page.known;
          page = laid ∙ ap (λ z. Inner (suc z)) (sym long);
          few = omega (arith, long);
          fence = page.fence;
          there = page.there;
          parts = λ j less.
              (shows.6 j (omega (arith, long, less))).1
              ∙ part_is page.fence c words seps long
              (λ i low. sym (get_tab (λ j. get_or words (page_at l.slots t (34 + j)) 0) c i low)) j (omega (arith, long, less));
        }
        | inr old ↦ b.pages.treed.inners x old
      ])
      (λ trees. inner_told t sp at v n (met_inner t seps (read_at at n v)) fld.kind record {
        separators = seps;
        few = omega (arith, long);
        count = ap suc long ∙ sym fld.count;
        unmoved = not_split l words views s id v b t (Inner (suc c)) laid (λ e. absurd (cc));
        trees = trees;
        is = refl;
      })
  by_page Split laid shows =
      let d = s.table in
      let few = shows.2.few in
      let tw = shows.1 in
      let sep : ℕ = get_or words (page_at l.slots t 5) 0 in
      let fld = fields n (length page.fence.keys) 1 (lock_field (header_of d t)) true shows.0 (omega arith) (omega arith) (lock_is (header_of d t)) in
      let high : moved_bit ≤ n = let word = shows.0 in omega arith in
      let live : n < moved_locked → (j : ℕ) → j < 2 → is_live d (at_index t j) ≡ true = λ low j less.
      let free : header_of d t ≡ Free =
      free_moved (length page.fence.keys) (header_of d t) (subst (λ y. y < moved_locked) shows.0 low) in
      and_from (is_led (slot_of d t).led) (has_pointer (page_of d t) j)
      (led_alive d t (slot_of d t).led refl page.known (b.sound.joint.pages.headers t) (free_alive (header_of d t) free))
      (ap (λ (y : Page). has_pointer y j) laid ∙ (grind (arith, nat_tests))) in
      stride (record { slot = t; keys = page.fence.keys } ∷ v.known)
      (record { slot = t; minor = tw.first; major = tw.second; separator = sep } ∷ v.moved) v.inners knows
      (λ x has. elim (in_cases x (record { slot = t; minor = tw.first; major = tw.second; separator = sep }) v.moved has) [
        | inl new ↦ subst (IsMoved l words d s.trees v.grip.holds) new record {
          within = page.within;
          held = page.held;
          known = page.known;
          split = laid;
          fence = page.fence;
          there = page.there;
          minor = tw.minor;
          major = tw.major;
          separator = refl;
        }
        | inr old ↦ b.pages.treed.moved x old
      ])
      b.pages.treed.inners
      (λ trees. split_told t sp at v n (met_moved t tw.first tw.second sep (knew t page.fence.keys (read_at at n v))) fld.kind high record {
        keys = page.fence.keys;
        are = are_keys l words views s id v b t sp page shows.2;
        few =
            unlocked_bits n (length page.fence.keys) 1 (lock_field (header_of d t)) true shows.0 (omega arith) (omega arith)
            (lock_is (header_of d t));
        count = sym fld.count;
        minor = tw.first;
        major = tw.second;
        separator = sep;
        there = λ low.
            let few-is : v.layout.slots ≡ l.slots = ap (λ (y : Layout). y.slots) b.own.layout in
            let one = slot_within 0 tw.first (live low 0 (omega arith)) tw.leads_first in
            let two = slot_within 1 tw.second (live low 1 (omega arith)) tw.leads_second in (
              subst (λ y. tw.first < y) (sym few-is) one,
              subst (λ y. tw.second < y) (sym few-is) two,
            );
        trees = trees;
        is = refl;
      })

  pub load_stride : Stride l words views s (seat_number v.role) v at (λ k. k) (Headed t sp at)
  load_stride = by_page (page_of s.table t) refl page.shows

pub loads_header : Laws → (l : Layout) (slots id : ℕ) (me : Me (Unit {0}) View) (t : ℕ) (sp : Span) → IsActive me.0.role
    → IsTreeAt me.0 t sp
    → Allows (λ s. Shows l s.words s.views) slots id me (page_at l.slots t 0) (λ k. k)
    (λ k now. (now.1 ≡ me.1) × Headed t sp (page_at l.slots t 0) me.0 k now.0)
loads_header laws l slots id me t sp active is =
    allows_at laws l slots id me (page_at l.slots t 0) (λ k. k) (Headed t sp (page_at l.slots t 0)) active
    (λ words views s b. load_stride l words views s id me.0 active b t sp is)
