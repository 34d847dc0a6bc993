-- The header of a leaf that was split is turned: what stays of the words, of what others rely on, and of what the pass
-- knows.
use Rattle.std.proofs.Common.{◌≡◌, ◌≢◌, ◌⊎◌, inl, inr, ℕ, suc, ◌+◌, ◌*◌, ◌^◌, ◌<◌, ◌≤◌, Bool, true, false, true≢false, cond, List, []}
use Rattle.std.proofs.Common.{length, get_or, set, refl, sym, ap, ◌∙◌, subst, arith, Option, Some, None, IfSome, eq-eqb, ne_eqb}
use Rattle.std.specs.List.{Contains, slice_get}
use Rattle.std.specs.Prelude.{◌&&◌}
use Rattle.std.proofs.lemmas.Bool.{and_from}
use Rattle.lists.specs.Fronts.{IsFront, front_refl}
use Rattle.serial_model.specs.declared.decl.Decl.{Decl}
use Rattle.serial_model.specs.declared.decl.Decl.TheVariants.{Array, Tree}
use Rattle.serial_model.specs.declared.key.Key.{Key}
use Rattle.serial_model.specs.declared.number.Number.{Number}
use Rattle.homes.specs.declared.places.Holder.{Holder}
use Rattle.homes.specs.declared.places.Spot.{Spot}
use Rattle.homes.specs.Homes.{has_key}
use Rattle.commit_core.specs.declared.attempt.Attempt.{Attempt}
use Rattle.commit_core.specs.declared.seat.Seat.{Seat}
use Rattle.commit_core.specs.CoreState.{is_trying, last_marked}
use Rattle.commit_core.specs.Places.{home_of}
use Rattle.drop_core.specs.declared.event.Act.{Act as PageAct}
use Rattle.drop_core.specs.declared.grip.Grip.{Grip}
use Rattle.drop_core.specs.declared.table.Page.{Page}
use Rattle.drop_core.specs.declared.table.Page.TheVariants.{Leaf, Split}
use Rattle.drop_core.specs.declared.table.Table.{Table}
use Rattle.drop_core.specs.Event.{Turned, effect as page_effect, is_allowed as page_allows, is_owned, lower_span, moves, turned, upper_span, with_header}
use Rattle.drop_core.specs.Law.{IsMade, LeavesMade}
use Rattle.drop_core.specs.Sound.{span_at}
use Rattle.drop_core.specs.Table.{has_slot, header_of, is_never, page_of, slot_of}
use Rattle.engine_rule.specs.declared.event.JointAct.TheVariants.{Turn as TurnPages}
use Rattle.engine_rule.specs.Event.{Joined, after_moves, commit_lets, joined, may_move}
use Rattle.views.specs.Sums.{total}
use Rattle.engine_pages.specs.declared.layout.Layout.{Layout}
use Rattle.engine_pages.specs.declared.view.Copied.{Copied}
use Rattle.engine_pages.specs.declared.view.Draft.{Draft}
use Rattle.engine_pages.specs.declared.view.Filled.{Filled}
use Rattle.engine_pages.specs.declared.view.Head.{Head}
use Rattle.engine_pages.specs.declared.view.Inner.{Inner as KnownInner}
use Rattle.engine_pages.specs.declared.view.Known.{Known}
use Rattle.engine_pages.specs.declared.view.Lead.{Lead}
use Rattle.engine_pages.specs.declared.view.Moved.{Moved}
use Rattle.engine_pages.specs.declared.view.NewInner.{NewInner}
use Rattle.engine_pages.specs.declared.view.NewLeaf.{NewLeaf}
use Rattle.engine_pages.specs.declared.view.Read.{Read}
use Rattle.engine_pages.specs.declared.view.Role.TheVariants.{Worker}
use Rattle.engine_pages.specs.declared.view.Shut.{Shut}
use Rattle.engine_pages.specs.declared.view.Touch.{Touch}
use Rattle.engine_pages.specs.declared.view.Version.{Version}
use Rattle.engine_pages.specs.declared.view.View.{View}
use Rattle.engine_pages.specs.declared.view.Way.{Way}
use Rattle.engine_pages.specs.Layout.{page_at, snap_at}
use Rattle.engine_pages.specs.Pages.{AreLaidOut, Fenced, IsLaidOut, decl_of, is_array_kind}
use Rattle.engine_pages.specs.Records.{IsRecordIn}
use Rattle.engine_pages.specs.Rule.{Shared, RecordStands, all_seats, IsCopy, IsDraft, IsHead, IsInner, IsKnownLeaf, IsMoved}
use Rattle.engine_pages.specs.Rule.{IsNewInner, IsNewLeaf, IsOneOf, IsSealed, IsShut, IsWay, StillLoaded}
use Rattle.engine_pages.specs.Stays.{IsKnown}
use Rattle.engine_pages.specs.Touches.{AreBlamed, IsFacing, Touched}
use Rattle.engine_pages.specs.Views.{IsActive, seat_number, tries, waits}
use Rattle.engine_pages.specs.Words.{head_word, lock_field}
use Rattle.engine_pages.proofs.Dealing.{SameLocks, blamed, faces, faces_as, stands_at}
use Rattle.engine_pages.proofs.EachSeat.{at_seat}
use Rattle.engine_pages.proofs.Facing.{Deals, takes_same}
use Rattle.engine_pages.proofs.Filling.{owned_never}
use Rattle.engine_pages.proofs.Joint.{Laws, effect_of, joint_act, may_do, shared_now}
use Rattle.engine_pages.proofs.Looking.{seen_fits}
use Rattle.engine_pages.proofs.Named.{more_same}
use Rattle.engine_pages.proofs.PagesStay.{WordsStay, copy_stays}
use Rattle.engine_pages.proofs.Records.{over_at}
use Rattle.engine_pages.proofs.Seats.{is_at}
use Rattle.engine_pages.proofs.SlotFacts.{draft_same, shut_same}
use Rattle.engine_pages.proofs.SlotSteps.{PagesNow, SameCommits, acted_as, own_pages, trees_same}
use Rattle.engine_pages.proofs.TreeFacts.{inner_at, new_inner_at, new_leaf_at, same_fence}
use Rattle.engine_pages.proofs.Turns.{Begins, Stride, Written, marks_stay, tried_goes}
use Rattle.tree_heads.proofs.HeadSteps.{header_beside, pages_named, records_beside}
use Rattle.tree_heads.proofs.LeafSteps.{IsMetHere, PageStep, page_step_words}
use Rattle.tree_heads.proofs.TreeAt.{Says, SaysOf}

-- the view has the same of slots, of arrays and of other pages of trees, but for the headers of split leaves that it has
-- locked
pub record SameBut (v w : View) : Type 0 where
  pub grip : w.grip ≡ v.grip
  pub ways : w.ways ≡ v.ways
  pub drafts : w.drafts ≡ v.drafts
  pub copies : w.copies ≡ v.copies
  pub blanks : w.blanks ≡ v.blanks
  pub pages : w.pages ≡ v.pages
  pub leads : w.leads ≡ v.leads
  pub fills : w.fills ≡ v.fills
  pub known : w.known ≡ v.known
  pub heads : w.heads ≡ v.heads
  pub moved : w.moved ≡ v.moved
  pub inners : w.inners ≡ v.inners
  pub new_leaves : w.new_leaves ≡ v.new_leaves
  pub new_inners : w.new_inners ≡ v.new_inners
  pub shuts : w.shuts ≡ v.shuts

module _ (laws : Laws) (l : Layout) (words : List ℕ) (views : List View) (s : Shared) (id : ℕ) (v : View)
    (active : IsActive v.role) (b : Begins l words views s id v) (t : ℕ) (f : ℕ → ℕ) (act : PageAct) (h' : Holder)
    (w : View) where
  abbrev p : ℕ
  p = seat_number v.role

  abbrev here : ℕ
  here = page_at l.slots t 0

  abbrev d : Table
  d = s.table

  abbrev e : Table
  e = with_header d t h'

  abbrev words' : List ℕ
  words' = set words here (f (get_or words here 0))

  -- The act turns the header of a split leaf alone, and the word shows who holds it then.
  pub record SplitTurn : Type 0 where
    pub same : SameCommits v w
    pub part : SameBut v w
    pub locks : SameLocks v w
    pub still : moves d act ≡ []
    pub effect : page_effect p d (s.grips p) act ≡ turned e (s.grips p)
    pub allowed : page_allows p d (s.grips p) act ≡ true
    pub lets : commit_lets p s.story (s.seats p) d act ≡ true
    pub within : t < l.slots
    pub known : IsKnown d t
    pub fence : Fenced
    pub there : s.trees t ≡ Some fence
    pub split : page_of d t ≡ Split
    pub shows : Says l words s t fence Split
    pub word : f (get_or words here 0) ≡ head_word (length fence.keys) 1 (lock_field h') true
    pub wr : Written words words' here (f (get_or words here 0))
    pub met : (x : Read) → Contains w.reads x → Contains v.reads x ⊎ IsMetHere l v t x
    pub sealed : (u : ℕ) → has_slot w.sealed u ≡ true → IsSealed l e p u

  header_now : header_of e t ≡ h'
  header_now = ap (λ (y : Bool). cond y h' (header_of d t)) (eq-eqb t t refl)

  header_other : (u : ℕ) → u ≢ t → header_of e u ≡ header_of d u
  header_other u other = ap (λ (y : Bool). cond y h' (header_of d u)) (ne_eqb t u (λ z. other (sym z)))

  no_split : (page : Page) (keys : List Key) → page ≡ Leaf keys → page ≡ Split → ⊥
  no_split page keys leaf split = absurd (cc)

  module _ (c : SplitTurn) where
    -- other words of the pages
    word_same : (u i : ℕ) → i < 64 → ((u ≡ t) → (i ≡ 0) → ⊥) → get_or words' (page_at l.slots u i) 0 ≡ get_or words (page_at l.slots u i) 0
    word_same u i few other =
        c.wr.others (page_at l.slots u i)
        (λ q. (let same : u ≡ t = omega (arith, few, q) in let index : i ≡ 0 = omega (arith, few, q) in other same index))

    word_apart : (u i : ℕ) → i < 64 → u ≢ t → get_or words' (page_at l.slots u i) 0 ≡ get_or words (page_at l.slots u i) 0
    word_apart u i few other = word_same u i few (λ same index. other same)

    word_later : (u i : ℕ) → i < 64 → 1 ≤ i → get_or words' (page_at l.slots u i) 0 ≡ get_or words (page_at l.slots u i) 0
    word_later u i few some = word_same u i few (λ same index. absurd (omega (arith, some, index)))

    -- what the page shows then
    split_shown : SaysOf l words' s.resident.places s.story e t c.fence (page_of e t)
    split_shown =
        let shows = c.shows in
        let parted = word_later t 5 (omega arith) (omega arith) in
        subst (SaysOf l words' s.resident.places s.story e t c.fence) (sym c.split) (
          c.wr.here ∙ (c.word ∙ ap (λ x. head_word (length c.fence.keys) 1 (lock_field x) true) (sym header_now)),
          record {
            first = shows.1.first;
            second = shows.1.second;
            minor = word_later t 3 (omega arith) (omega arith) ∙ shows.1.minor;
            major = word_later t 4 (omega arith) (omega arith) ∙ shows.1.major;
            leads_first = shows.1.leads_first;
            leads_second = shows.1.leads_second;
            lower = shows.1.lower ∙ ap (λ n. lower_span c.fence.span n) (sym parted);
            upper = shows.1.upper ∙ ap (λ n. upper_span c.fence.span n) (sym parted);
          },
          records_beside l words words' s t 0 c.fence (omega arith) (header_beside (length c.fence.keys)) c.wr.others shows.2,
          shows.3,
        )

    page_step : PageStep l words words' s s.story e s.trees t 0
    page_step = record {
      few = c.within;
      index = omega arith;
      long = c.wr.long;
      others = c.wr.others;
      story = record { history = refl; decided = refl; given_up = refl; first_draw = refl; epoch = refl };
      roots = λ r. refl;
      passes = λ u. refl;
      state = λ u. refl;
      times = λ u. refl;
      pages = λ u other. refl;
      headers = header_other;
      pointers = λ u j other. refl;
      places = λ u j other. refl;
      treed = λ u other. refl;
      fence = c.fence;
      there = c.there;
      here = λ _. split_shown;
    }

    -- a leaf is in another slot
    leaf_apart : (u : ℕ) (keys : List Key) → page_of d u ≡ Leaf keys → u ≢ t
    leaf_apart u keys leaf same = no_split (page_of d u) keys leaf (ap (page_of d) same ∙ c.split)

    -- nothing has led to what a pass made
    made_apart : (u : ℕ) → has_slot v.grip.made u ≡ true → u ≢ t
    made_apart u made same =
        let is : IsMade d (all_seats s.grips) p u =
        laws.made (home_of s.story.homes) d (all_seats s.grips) p u (s.grips p) b.sound.joint.pages (at_seat s.grips p b.few)
        (subst (λ (z : Grip). has_slot z.made u ≡ true) b.grip made) in
        true≢false (sym (ap is_never is.never) ∙ (ap (λ y. is_never (slot_of d y).led) same ∙ c.known))

    owned_apart : (u : ℕ) → is_owned (slot_of d u).state ≡ true → u ≢ t
    owned_apart u owned same =
        true≢false (sym (owned_never d u (slot_of d u).state (slot_of d u).led owned
        (b.sound.joint.pages.table.holds_counted.led u)) ∙ (ap (λ y. is_never (slot_of d y).led) same ∙ c.known))

    -- an array's page is another one
    array_apart : (u : ℕ) → s.trees u ≡ None → u ≢ t
    array_apart u none same =
        let no : None ≡ Some c.fence = sym none ∙ (ap s.trees same ∙ c.there) in absurd (cc)

    -- the words that others rely on
    split_frame : WordsStay l words words' s p
    split_frame = record {
      drafts = λ u few unmade own j less. word_apart u j less (owned_apart u own);
      spare = λ u q keys few known held other leaf j less is. word_apart u j less (leaf_apart u keys leaf);
      twins = λ u few known split j from to. word_later u j (omega (arith, to)) (omega (arith, from));
      fills = λ other y j some less. c.wr.others (snap_at l.slots y j) (λ q. let few = c.within in omega (arith, q, few, some));
    }

    -- ---- what the pass knows

    made_stays : (u : ℕ) → u ≢ t → LeavesMade p d e u
    made_stays u other = record {
      state = refl;
      times = refl;
      led = refl;
      page = refl;
      header = header_other u other;
      pointers = λ j free. refl;
    }

    split_now : PagesNow l words' (shared_now s p s.story e s.trees s.resident w) w
    split_now =
        let holds : v.grip.holds ≡ w.grip.holds = ap (λ (z : Grip). z.holds) (sym c.part.grip) in
        let made : v.grip.made ≡ w.grip.made = ap (λ (z : Grip). z.made) (sym c.part.grip) in
        let seat : p ≡ seat_number w.role = ap seat_number (sym c.same.role) in record {
          within = λ u has. b.pages.within u (ap (λ (z : Grip). has_slot z.holds u) (sym c.part.grip) ∙ has);
          ways = λ x has.
              let was = b.pages.ways x (subst (λ (z : List Way). Contains z x) c.part.ways has) in
              subst (λ (z : List ℕ). IsWay l e s.trees z x) holds
              record { within = was.within; held = was.held; known = was.known; over = laid_same (decl_of l.decls x.span.storage) x was.over };
          drafts = λ x has.
              let was = b.pages.drafts x (subst (λ (z : List Draft). Contains z x) c.part.drafts has) in
              let other = made_apart x.slot was.made in
              subst (λ (z : List ℕ). IsDraft words' l.slots e z x) made
              (draft_same words words' l.slots d e v.grip.made v.grip.made x was.made refl (header_other x.slot other)
              (λ j less. word_apart x.slot j less other) was);
          copies = λ x has.
              let was = b.pages.copies x (subst (λ (z : List Copied). Contains z x) c.part.copies has) in
              let other = made_apart x.slot was.1.made in (
                was.0,
                subst (λ (z : List ℕ). IsCopy l s.story e s.resident z x) made
                    (copy_stays l s.story s.story d e s.resident s.resident p v.grip.made x (made_stays x.slot other)
                    (λ j. refl) (more_same s.resident) was.1),
              );
          blanks = λ u has.
              let was = b.pages.blanks u (ap (λ (z : List ℕ). has_slot z u) (sym c.part.blanks) ∙ has) in record {
                slot = was.slot;
                made = ap (λ (z : List ℕ). has_slot z u) (sym made) ∙ was.made;
                state = was.state;
              };
          resident = subst (λ (z : List (List ℕ)). IsFront z s.resident.pages) (sym c.part.pages) b.pages.resident;
          leads = λ x has. b.pages.leads x (subst (λ (z : List Lead). Contains z x) c.part.leads has);
          fills = λ x has.
              let was = b.pages.fills x (subst (λ (z : List Filled). Contains z x) c.part.fills has) in (
                c.same.role ∙ was.0,
                record {
                  above = was.1.above;
                  within = was.1.within;
                  is = λ j less.
                      c.wr.others (snap_at l.slots x.page j) (λ q. let few = c.within in let low = was.1.above in omega (arith, q, few, low))
                      ∙ was.1.is j less;
                },
              );
          known = λ x has.
              let was = b.pages.treed.known x (subst (λ (z : List Known). Contains z x) c.part.known has) in
              subst (λ (z : List ℕ). IsKnownLeaf l e s.trees z x) holds record {
                within = was.within;
                held = was.held;
                known = was.known;
                fence = was.fence;
                there = was.there;
                front = was.front;
              };
          heads = λ x has.
              let was = b.pages.treed.heads p (is_at v.role active) x (subst (λ (z : List Head). Contains z x) c.part.heads has) in
              let other = leaf_apart x.slot x.keys was.leaf in
              subst (λ y. IsHead l words' e s.trees y x) seat record {
                within = was.within;
                locked = header_other x.slot other ∙ was.locked;
                leaf = was.leaf;
                fence = was.fence;
                there = was.there;
                keys = was.keys;
                long = was.long;
                is = λ j less is. word_apart x.slot j less other ∙ was.is j less is;
              };
          moved = λ x has.
              let was = b.pages.treed.moved x (subst (λ (z : List Moved). Contains z x) c.part.moved has) in
              subst (λ (z : List ℕ). IsMoved l words' e s.trees z x) holds record {
                within = was.within;
                held = was.held;
                known = was.known;
                split = was.split;
                fence = was.fence;
                there = was.there;
                minor = word_later x.slot 3 (omega arith) (omega arith) ∙ was.minor;
                major = word_later x.slot 4 (omega arith) (omega arith) ∙ was.major;
                separator = word_later x.slot 5 (omega arith) (omega arith) ∙ was.separator;
              };
          sealed = λ u has. subst (λ y. IsSealed l e y u) seat (c.sealed u has);
          inners = λ x has.
              let was = b.pages.treed.inners x (subst (λ (z : List KnownInner). Contains z x) c.part.inners has) in
              subst (λ (z : List ℕ). IsInner l e s.trees z x) holds
              (inner_at l s.trees s.trees d e v.grip.holds v.grip.holds x was.held was.known refl
              (same_fence s.trees s.trees x.slot refl) (λ j there. refl) was);
          new_leaves = λ x has.
              let was = b.pages.treed.new_leaves x (subst (λ (z : List NewLeaf). Contains z x) c.part.new_leaves has) in
              let other = made_apart x.slot was.made in
              subst (λ (z : List ℕ). IsNewLeaf l s.story e s.trees z x) made
              (new_leaf_at l s.story s.story d e s.trees s.trees v.grip.made v.grip.made x was.made refl (header_other x.slot other)
              refl refl (λ j. refl) was);
          new_inners = λ x has.
              let was = b.pages.treed.new_inners x (subst (λ (z : List NewInner). Contains z x) c.part.new_inners has) in
              let other = made_apart x.slot was.made in
              subst (λ (z : List ℕ). IsNewInner l e s.trees s.resident z x) made
              (new_inner_at l d e s.trees s.trees s.resident s.resident v.grip.made v.grip.made x was.made refl
              refl refl (λ j free. refl) (more_same s.resident) was);
          shuts = λ x has.
              let was = b.pages.shuts p (is_at v.role active) x (subst (λ (z : List Shut). Contains z x) c.part.shuts has) in
              subst (λ y. IsShut e s.resident y w.grip.holds x) seat
              (subst (λ (z : List ℕ). IsShut e s.resident p z x) holds
              (shut_same d e s.resident p v.grip.holds v.grip.holds x (λ in_it. in_it) refl was));
        }
      where
        laid_same : (o : Option Decl) (x : Way) → IsLaidOut o s.trees d x.slot x.span → IsLaidOut o s.trees e x.slot x.span
        laid_same None x laid = laid
        laid_same (Some (Array a size)) x laid =
            (laid.0, over_at d e x.slot x.span refl (header_other x.slot (array_apart x.slot laid.0)) (λ j. refl) laid.1)
        laid_same (Some (Tree a)) x laid = laid

    -- ---- who is in the way

    -- an array's record stands in another page
    stands_apart : (q : Key) (x : Spot) (at : ℕ) → RecordStands l s q x at → x.slot ≢ t
    stands_apart q x at st = array_apart x.slot (array_none (decl_of l.decls st.span.storage) st.kind st.over)
      where
        array_none : (z : Option Decl) → is_array_kind z ≡ true → IsLaidOut z s.trees d x.slot st.span → s.trees x.slot ≡ None
        array_none None kind over = absurd over
        array_none (Some (Array a size)) kind over = over.0
        array_none (Some (Tree a)) kind over = absurd (true≢false (sym kind))

    record_word : (q : Key) (x : Spot) (at : ℕ) → RecordStands l s q x at → get_or words' at 0 ≡ get_or words at 0
    record_word q x at st =
        let word : at ≡ page_at l.slots x.slot (2 * x.index) = st.word in
        let index : x.index < 32 = st.index in
        ap (λ j. get_or words' j 0) word
        ∙ (word_apart x.slot (2 * x.index) (omega (arith, index)) (stands_apart q x at st)
        ∙ ap (λ j. get_or words j 0) (sym word))

    split_deals : Deals l words words' s p views v w
    split_deals = record {
      touched = λ q y. omega (arith, takes_same q y v w c.locks.touched);
      locks = λ y has. inl (ap (λ (z : List Key). has_key z y) (sym c.locks.locks) ∙ has);
      changes = λ q x at st. inl (record_word q x at st);
      facing = λ worker is. faces_as l words' views v w worker c.locks (now_faces worker (sym c.locks.role ∙ is));
      blamed = subst (λ (z : List Touch). AreBlamed (Touched views) z) (sym c.locks.blamed) (blamed l words views s id v b);
    }
      where
        stood : (q : Key) (x : Spot) (at : ℕ) → IsRecordIn l.decls l.slots v.ways q x at → RecordStands l s q x at
        stood q x at is = stands_at l words views s id v b q x at is

        apart : (q : Key) (x : Spot) (y : Read) → IsMetHere l v t y → IsRecordIn l.decls l.slots v.ways q x y.word → ⊥
        apart q x y here is =
            let there = stands_apart q x y.word (stood q x y.word is) in
            let word : y.word ≡ page_at l.slots x.slot (2 * x.index) = is.word in
            let index : x.index < 32 = is.index in
            let same = here.word in
            let few = here.few in there (omega (arith, word, index, same, few))

        now_faces : (worker : ℕ) → v.role ≡ Worker worker
            → IsFacing l words' (Touched views) (suc worker) v.ways v.took w.reads v.gone
        now_faces worker role =
            let f = faces l words views s id v b worker role in record {
              pages = λ y has u j less few word away. elim (c.met y has) [
                | inl old ↦ f.pages y old u j less few word away
                | inr new ↦
                    let same = new.word in
                    let low = new.few in
                    let at : t ≡ u = omega (arith, word, same, low, few) in (new.way, new.has, new.slot ∙ at)
              ];
              locked = λ q x at is high.
                  f.locked q x at is (subst (λ z. 2 ^ 60 ≤ z) (record_word q x at (stood q x at is)) high);
              stands = λ q x y has is away. elim (c.met y has) [
                | inl old ↦ elim (f.stands q x y old is away) [
                  | inl stood-so ↦ inl (record_word q x y.word (stood q x y.word is) ∙ stood-so)
                  | inr other ↦ inr other
                ]
                | inr new ↦ absurd (apart q x y new is)
              ];
              unlike = λ q x y z has is away was small low other. elim (c.met y has) [
                | inl old ↦ f.unlike q x y z old is away was small low other
                | inr new ↦ absurd (apart q x y new is)
              ];
            }

    -- ---- the step

    pub split_stride : (tells : View → ℕ → View → Type 0) → tells v (get_or words here 0) w → Stride l words views s p v here f tells
    split_stride tells tells-so =
        let m = s.story in
        let h = b.sound in
        let may : may_do s p (TurnPages act) ≡ true =
        and_from (page_allows p d (s.grips p) act) (commit_lets p m (s.seats p) d act && may_move p m (s.seats p) (moves d act)) c.allowed
        (and_from (commit_lets p m (s.seats p) d act) (may_move p m (s.seats p) (moves d act)) c.lets
        (ap (may_move p m (s.seats p)) c.still)) in
        let seat : s.seats p ≡ w.seat = sym b.own.seat ∙ sym c.same.seat in
        let grip : s.grips p ≡ w.grip = sym b.grip ∙ sym c.part.grip in
        let comes : effect_of s p (TurnPages act) ≡ record { story = m; seat = w.seat; table = e; grip = w.grip } =
        ap (λ list. joined (after_moves p m (s.seats p) list) (page_effect p d (s.grips p) act)) c.still
        ∙ (ap (λ (y : Turned). let j : Joined = record { story = m; seat = s.seats p; table = y.table; grip = y.grip } in j) c.effect
        ∙ (ap (λ (x : Seat). let j : Joined = record { story = m; seat = x; table = e; grip = s.grips p } in j) seat
        ∙ ap (λ (x : Grip). let j : Joined = record { story = m; seat = w.seat; table = e; grip = x } in j) grip)) in
        let done = acted_as l s p (effect_of s p (TurnPages act)) m e w comes
        (joint_act laws l s p (TurnPages act) b.few may b.sound.joint) in
        let marks : w.seat.marks ≡ v.seat.marks = ap (λ (x : Seat). x.marks) c.same.seat in
        let stage : w.seat.stage ≡ v.seat.stage = ap (λ (x : Seat). x.stage) c.same.seat in
        record {
          story = m;
          table = e;
          trees = s.trees;
          resident = s.resident;
          view = w;
          sound = done.sound;
          stays = done.stays;
          trees-stay = trees_same p s;
          turn = record {
            small = h.small;
            valued = h.valued;
            shown = page_step_words l words words' s m e s.trees t 0 page_step h.few.1 h.shown;
            marks = marks_stay words words' s.seats p v.seat w.seat h.marks b.own.seat marks
                (λ j lo hi. c.wr.others j (λ q. absurd (omega arith)));
            marked = λ place mark has. ap (λ z. slice_get z place) marks ∙ has;
            marks_low =
                subst (λ x. last_marked x < m.epoch) (sym marks)
                (subst (λ (x : Seat). last_marked x.marks < m.epoch) (sym b.own.seat) (h.marked p));
            drawn = λ a has. inl has;
            tried = tried_goes m m s.seats p v.seat w.seat b.own.seat refl refl refl (inl stage) h.tried;
            fits = seen_fits l m s.seats v w active b.fits c.same.layout c.same.role c.same.made c.same.past c.same.parked c.same.epoch
                c.same.mine c.same.due c.same.seat c.same.checked c.same.took
                (subst (λ o. IfSome o (StillLoaded m.history m.decided m.places v.seat.kept)) (sym c.same.loaded) b.fits.loaded)
                c.same.met c.same.heard
                (subst (λ (y : List Version). (x : Version) → Contains y x → IsOneOf l.decls l.opening m.history x)
                (sym c.same.versions) b.fits.versions)
                (subst (λ (x : List Attempt). IsFront v.history x) (sym c.same.history) (front_refl v.history))
                (subst (λ (x : List Number). IsFront v.decided x) (sym c.same.decided) (front_refl v.decided))
                (subst (λ (x : List Attempt). IsFront x m.history) (sym c.same.history) b.fits.history)
                (subst (λ (x : List Number). IsFront x m.decided) (sym c.same.decided) b.fits.decided);
            role = c.same.role;
            made = c.same.made;
            mine = λ y. ap (λ (x : List Attempt). total (λ a. y a.number) x + total y m.decided) c.same.mine
                ∙ ap (λ x. x + total y m.decided) refl;
            drew = ap (λ x. x + length m.history) c.same.draws;
            few = let tried : tries w ≡ tries v = ap (λ x. cond (is_trying x) 1 0) stage in omega (arith, tried);
            room = let due : waits w ≡ waits v = ap (λ (x : Bool). cond x 1 0) c.same.due in let room = h.sums.room in omega (arith, due, room);
            deals = split_deals;
            slots = refl;
            within = h.within;
            more = more_same s.resident;
            unpublished = λ other. refl;
            named = pages_named l s e refl refl h.named;
            laid_out = split_laid;
            pages = own_pages l words words' s m e s.trees s.resident v w active c.same.role c.same.made b.pages split_now;
            frame = split_frame;
          };
          tells-so = tells-so;
        }
      where
        split_laid : AreLaidOut l.decls s.trees e
        split_laid x u live leads = laid_as (decl_of l.decls (span_at d x).storage) (b.sound.laid_out x u live leads)
          where
            laid_as : (o : Option Decl) → IsLaidOut o s.trees d u (span_at d x) → IsLaidOut o s.trees e u (span_at d x)
            laid_as None laid = laid
            laid_as (Some (Array a size)) laid =
                (laid.0, over_at d e u (span_at d x) refl (header_other u (array_apart u laid.0)) (λ j. refl) laid.1)
            laid_as (Some (Tree a)) laid = laid
