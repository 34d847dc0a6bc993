-- A split leaf is followed: its header is loaded again after a half was entered.
use Rattle.std.proofs.Common.{◌≡◌, ◌⊎◌, inl, inr, ℕ, suc, ◌<◌, ◌≤◌, Bool, true, false, ltb, List, length, get_or, refl, sym, ap, ◌∙◌}
use Rattle.std.proofs.Common.{subst, arith, Some}
use Rattle.std.specs.Prelude.{MatchBool}
use Rattle.std.specs.List.{Contains}
use Rattle.std.proofs.lemmas.Bool.{and_from}
use Rattle.std.proofs.lemmas.Bool.Decides.{nat_tests}
use Rattle.atomic_table.specs.Table.{Me, Allows}
use Rattle.homes.specs.declared.places.Holder.TheVariants.{Free}
use Rattle.homes.specs.declared.places.Span.{Span}
use Rattle.drop_core.specs.declared.table.Page.{Page}
use Rattle.drop_core.specs.declared.table.Page.TheVariants.{Split}
use Rattle.drop_core.specs.Event.{lower_span, upper_span}
use Rattle.drop_core.specs.Table.{at_index, has_pointer, header_of, is_led, is_live, page_of, slot_of}
use Rattle.engine_pages.specs.declared.layout.Layout.{Layout}
use Rattle.engine_pages.specs.declared.view.Moved.{Moved}
use Rattle.engine_pages.specs.declared.view.View.{View}
use Rattle.engine_pages.specs.declared.view.Way.{Way}
use Rattle.engine_pages.specs.Agreement.{TreesAgree}
use Rattle.engine_pages.specs.Layout.{page_at}
use Rattle.engine_pages.specs.Pages.{is_tree}
use Rattle.engine_pages.specs.Rule.{Shared, IsWay, Shows}
use Rattle.engine_pages.specs.Steps.{kept_at, read_at, with_read}
use Rattle.engine_pages.specs.Views.{IsActive, seat_number}
use Rattle.engine_pages.proofs.Agreeing.{agreed}
use Rattle.engine_pages.proofs.Dealing.{blamed}
use Rattle.engine_pages.proofs.Facing.{facing_load, takes_same}
use Rattle.engine_pages.proofs.Joint.{Laws}
use Rattle.engine_pages.proofs.Looks.{look_stride}
use Rattle.engine_pages.proofs.Turns.{Begins, Stride, allows_at}
use Rattle.engine_pages.proofs.WayLaws.{ways_agree}
use Rattle.engine_pages.specs.Touches.{Touched}
use Rattle.tree_heads.specs.Headers.{moved_bit, HasTwinWays, IsTreeAt, MetAgain, moved_locked, twin_ways}
use Rattle.tree_heads.proofs.TreeAt.{AtTree, Says, at_tree, free_alive, free_moved, header_deals, is_noted, led_alive, pages_same}
use Rattle.tree_heads.proofs.TreeAt.{way_here}
use Rattle.tree_heads.proofs.TreeWays.{faces_wide, half_way, twin_list, twins_cases, twins_wide}

module _ (l : Layout) (words : List ℕ) (views : List View) (s : Shared) (id : ℕ) (v : View) (active : IsActive v.role)
    (b : Begins l words views s id v) (t : ℕ) (sp : Span) (is : IsTreeAt v t sp) (x : Moved) (has : Contains v.moved x)
    (slot : x.slot ≡ t) where
  abbrev at : ℕ
  at = page_at l.slots t 0

  abbrev n : ℕ
  n = get_or words at 0

  abbrev u : View
  u = read_at at n v

  page : AtTree l words s v t sp
  page = at_tree l words views s id v b t sp is

  split : page_of s.table t ≡ Split
  split = ap (page_of s.table) (sym slot) ∙ (b.pages.treed.moved x has).split

  shows : Says l words s t page.fence Split
  shows = subst (Says l words s t page.fence) split page.shows

  word_at : (y : Moved) → y.slot ≡ t → (i : ℕ) → get_or words (page_at l.slots t i) 0 ≡ get_or words (page_at l.slots y.slot i) 0
  word_at y same i = ap (λ z. get_or words (page_at l.slots z i) 0) (sym same)

  -- where nobody has locked it, its pointers are live
  live : n < moved_locked → (j : ℕ) → j < 2 → is_live s.table (at_index t j) ≡ true
  live low j less =
      let d = s.table in
      let free : header_of d t ≡ Free =
      free_moved (length page.fence.keys) (header_of d t) (subst (λ y. y < moved_locked) shows.0 low) in
      and_from (is_led (slot_of d t).led) (has_pointer (page_of d t) j)
      (led_alive d t (slot_of d t).led refl page.known (b.sound.joint.pages.headers t) (free_alive (header_of d t) free))
      (ap (λ (y : Page). has_pointer y j) split ∙ (grind (arith, nat_tests)))

  abbrev lower : Span
  lower = lower_span sp x.separator

  abbrev upper : Span
  upper = upper_span sp x.separator

  abbrev ways' : List Way
  ways' = twin_list v.grip.holds x.minor lower x.major upper v.ways

  -- the separator and the halves are those of the words
  parted : get_or words (page_at l.slots t 5) 0 ≡ x.separator
  parted = word_at x slot 5 ∙ (b.pages.treed.moved x has).separator

  ways_now : n < moved_locked → (z : Way) → Contains ways' z → IsWay l s.table s.trees v.grip.holds z
  ways_now low z among =
      let tw = shows.1 in
      let mv = b.pages.treed.moved x has in
      let minor : tw.first ≡ x.minor = let p = tw.minor in let q = word_at x slot 3 ∙ mv.minor in omega arith in
      let major : tw.second ≡ x.major = let p = tw.major in let q = word_at x slot 4 ∙ mv.major in omega arith in
      let part : (y : Span → ℕ → Span) → y page.fence.span (get_or words (page_at l.slots t 5) 0) ≡ y sp x.separator = λ y.
      ap (λ z. y z (get_or words (page_at l.slots t 5) 0)) page.span ∙ ap (y sp) parted in
      elim (twins_cases v.grip.holds x.minor lower x.major upper v.ways z among) [
        | inl one ↦ subst (IsWay l s.table s.trees v.grip.holds) one.1
            (half_way l words views s id v t 0 x.minor lower b (live low 0 (omega arith)) (tw.leads_first ∙ ap Some minor)
            (tw.lower ∙ part lower_span) one.0)
        | inr rest ↦ elim rest [
          | inl two ↦ subst (IsWay l s.table s.trees v.grip.holds) two.1
              (half_way l words views s id v t 1 x.major upper b (live low 1 (omega arith)) (tw.leads_second ∙ ap Some major)
              (tw.upper ∙ part upper_span) two.0)
          | inr old ↦ b.pages.ways z old
        ]
      ]

  tree : is_tree l.decls sp.storage ≡ true
  tree = ap (λ (y : Layout). is_tree y.decls sp.storage) (sym b.own.layout) ∙ is.tree

  -- ways that are new are into trees
  new_ways : (z : Way) → Contains ways' z → Contains v.ways z ⊎ (is_tree l.decls z.span.storage ≡ true)
  new_ways z among = elim (twins_cases v.grip.holds x.minor lower x.major upper v.ways z among) [
    | inl one ↦ inr (subst (λ (y : Way). is_tree l.decls y.span.storage ≡ true) one.1 tree)
    | inr rest ↦ elim rest [
      | inl two ↦ inr (subst (λ (y : Way). is_tree l.decls y.span.storage ≡ true) two.1 tree)
      | inr old ↦ inl old
    ]
  ]

  -- any other note of the split leaf says the same
  same_twins : (y : Moved) → Contains v.moved y → y.slot ≡ t → twin_ways x sp u ≡ twin_ways y sp u
  same_twins y there same =
      let one = b.pages.treed.moved x has in
      let two = b.pages.treed.moved y there in
      let minor : x.minor ≡ y.minor = let p = sym (word_at x slot 3) ∙ (word_at y same 3 ∙ two.minor) in let q = one.minor in omega arith in
      let major : x.major ≡ y.major = let p = sym (word_at x slot 4) ∙ (word_at y same 4 ∙ two.major) in let q = one.major in omega arith in
      let separator : x.separator ≡ y.separator = sym parted ∙ (word_at y same 5 ∙ two.separator) in
      ap (λ z. twin_ways (record x { minor = z }) sp u) minor
      ∙ (ap (λ z. twin_ways (record x { minor = y.minor; major = z }) sp u) major
      ∙ ap (λ z. twin_ways (record x { minor = y.minor; major = y.major; separator = z }) sp u) separator)

  -- the word says that the leaf was split
  moved_so : moved_bit ≤ n
  moved_so = let word = shows.0 in omega arith

  again_stride : n < moved_locked → ltb n moved_locked ≡ true
      → Stride l words views s (seat_number v.role) v at (λ k. k) (MetAgain t sp at)
  again_stride low test =
      let was = pages_same l words views s id v b active in
      let w : View = twin_ways x sp u in
      let agree = ways_agree l s.table s.trees v.grip.holds ways' (ways_now low) in
      agreed l words views s v active at (λ k. k) (MetAgain t sp at)
      (look_stride l words views s id v active b at (λ k. k) w (λ v k w. TreesAgree w → MetAgain t sp at v k w) refl
      record { layout = refl; role = refl; made = refl; past = refl; parked = refl; epoch = refl; mine = refl; draws = refl; due = refl; seat = refl; checked = refl; took = refl; loaded = refl; met = refl; heard = refl; versions = refl; history = refl; decided = refl }
      refl
      record {
        within = was.within;
        ways = ways_now low;
        drafts = was.drafts;
        copies = was.copies;
        blanks = was.blanks;
        resident = was.resident;
        leads = was.leads;
        fills = was.fills;
        known = was.known;
        heads = was.heads;
        moved = was.moved;
        sealed = was.sealed;
        inners = was.inners;
        new_leaves = was.new_leaves;
        new_inners = was.new_inners;
        shuts = was.shuts;
      }
      record {
        touched = λ q k. omega (arith, takes_same q k v w refl);
        locks = λ k has. inl has;
        changes = λ k z j r. inl refl;
        facing = λ worker role.
            facing_load l words (Touched views) (suc worker) ways' v.took v.reads v.gone at
            (faces_wide l words views s id v ways' b
            (λ z old. twins_wide v.grip.holds x.minor lower x.major upper v.ways z old) agree new_ways worker role)
            (with_read v.reads at n) (is_noted v at n (kept_at v.reads at))
            (λ q j less few word here.
            let y = way_here l words views s id v b t 0 sp is (omega arith) q j less few word here in
            (y.0, twins_wide v.grip.holds x.minor lower x.major upper v.ways y.0 y.1, y.2));
        blamed = blamed l words views s id v b;
      }
      (λ trees. (
        moved_so,
        subst (λ c. MatchBool c (HasTwinWays t sp at v n w) (w ≡ u)) (sym test)
            record { is = same_twins; layout = refl; agree = agree; trees = trees },
      )))

  pub follow_stride : Stride l words views s (seat_number v.role) v at (λ k. k) (MetAgain t sp at)
  follow_stride = by_found (ltb n moved_locked) refl
    where
      by_found : (c : Bool) → ltb n moved_locked ≡ c
          → Stride l words views s (seat_number v.role) v at (λ k. k) (MetAgain t sp at)
      by_found true low = again_stride (grind (arith, nat_tests)) low
      by_found false high =
          let was = pages_same l words views s id v b active in
          look_stride l words views s id v active b at (λ k. k) u (MetAgain t sp at) refl
          record { layout = refl; role = refl; made = refl; past = refl; parked = refl; epoch = refl; mine = refl; draws = refl; due = refl; seat = refl; checked = refl; took = refl; loaded = refl; met = refl; heard = refl; versions = refl; history = refl; decided = refl }
          refl
          record { within = was.within; ways = was.ways; drafts = was.drafts; copies = was.copies; blanks = was.blanks; resident = was.resident; leads = was.leads; fills = was.fills; known = was.known; heads = was.heads; moved = was.moved; sealed = was.sealed; inners = was.inners; new_leaves = was.new_leaves; new_inners = was.new_inners; shuts = was.shuts }
          (header_deals l words views s id v b t sp is u
          record { role = refl; ways = refl; took = refl; gone = refl; touched = refl; blamed = refl; locks = refl }
          (is_noted v at n (kept_at v.reads at)))
          (moved_so, subst (λ c. MatchBool c (HasTwinWays t sp at v n u) (u ≡ u)) (sym high) refl)

pub meets_again : Laws → (l : Layout) (slots id : ℕ) (me : Me (Unit {0}) View) (t : ℕ) (sp : Span) → IsActive me.0.role
    → IsTreeAt me.0 t sp → (x : Moved) → Contains me.0.moved x → x.slot ≡ t
    → Allows (λ s. Shows l s.words s.views) slots id me (page_at l.slots t 0) (λ k. k)
    (λ k now. (now.1 ≡ me.1) × MetAgain t sp (page_at l.slots t 0) me.0 k now.0)
meets_again laws l slots id me t sp active is x has slot =
    allows_at laws l slots id me (page_at l.slots t 0) (λ k. k) (MetAgain t sp (page_at l.slots t 0)) active
    (λ words views s b. follow_stride l words views s id me.0 active b t sp is x has slot)
