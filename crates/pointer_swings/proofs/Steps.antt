-- A step of the keeper on a pointer's word: what the pointer leads to changes, and the pages from which it is taken away
-- are dead from then on.
use Rattle.std.proofs.Common.{◌≡◌, ◌≢◌, inl, ℕ, ◌+◌, ◌*◌, ◌<◌, ◌≤◌, Bool, true, false, true≢false, cond, eqb-true}
use Rattle.std.proofs.Common.{List, length, get_or, set, refl, sym, ap, ◌∙◌, subst, arith, None}
use Rattle.std.specs.List.{Contains, slice_get}
use Rattle.serial_model.specs.declared.key.Key.{Key}
use Rattle.serial_model.specs.declared.number.Number.{Number}
use Rattle.homes.specs.declared.places.At.{At}
use Rattle.homes.specs.declared.places.At.TheVariants.{Root, In}
use Rattle.homes.specs.declared.places.Home.{Home}
use Rattle.homes.specs.declared.places.Span.{Span}
use Rattle.homes.specs.declared.places.Spot.{Spot}
use Rattle.homes.specs.Homes.{has_key}
use Rattle.snapshot_store.specs.Places.{page as page_words}
use Rattle.commit_core.specs.declared.place.Place.{Place}
use Rattle.commit_core.specs.declared.seat.Seat.{Seat}
use Rattle.commit_core.specs.declared.seat.Stage.{Stage}
use Rattle.commit_core.specs.declared.story.Story.{Story}
use Rattle.commit_core.specs.CoreState.{is_trying, last_marked}
use Rattle.commit_core.specs.Places.{home_of}
use Rattle.drop_core.specs.declared.event.Act.{Act as PageAct}
use Rattle.drop_core.specs.declared.grip.Grip.{Grip}
use Rattle.drop_core.specs.declared.table.Page.TheVariants.{Leaf, Split}
use Rattle.drop_core.specs.declared.table.Pointer.{Pointer}
use Rattle.drop_core.specs.declared.table.Slot.{Slot}
use Rattle.drop_core.specs.declared.table.Table.{Table}
use Rattle.drop_core.specs.Event.{is_in, is_published}
use Rattle.drop_core.specs.Law.{IsMade}
use Rattle.drop_core.specs.Sound.{span_at}
use Rattle.drop_core.specs.Table.{slot_of, page_of, pointer_of, has_slot, at_index, is_never}
use Rattle.engine_rule.specs.declared.event.JointAct.TheVariants.{Turn as TurnPages}
use Rattle.engine_rule.specs.JointState.{is_slot, slot_at as slot_with}
use Rattle.engine_pages.specs.declared.layout.Layout.{Layout}
use Rattle.engine_pages.specs.declared.view.Copied.{Copied}
use Rattle.engine_pages.specs.declared.view.Draft.{Draft}
use Rattle.engine_pages.specs.declared.view.Filled.{Filled}
use Rattle.engine_pages.specs.declared.view.Head.{Head}
use Rattle.engine_pages.specs.declared.view.Inner.{Inner as InnerOf}
use Rattle.engine_pages.specs.declared.view.Known.{Known}
use Rattle.engine_pages.specs.declared.view.Moved.{Moved}
use Rattle.engine_pages.specs.declared.view.NewInner.{NewInner}
use Rattle.engine_pages.specs.declared.view.NewLeaf.{NewLeaf}
use Rattle.engine_pages.specs.declared.view.Role.TheVariants.{Keeper, Worker}
use Rattle.engine_pages.specs.declared.view.Shut.{Shut}
use Rattle.engine_pages.specs.declared.view.View.{View}
use Rattle.engine_pages.specs.declared.view.Way.{Way}
use Rattle.engine_pages.specs.Layout.{page_at, snap_at}
use Rattle.engine_pages.specs.Pages.{is_array, is_leaf_span, child_span, decl_of, IsLaidOut, AreLaidOut}
use Rattle.engine_pages.specs.Pointers.{IsPointerAt}
use Rattle.engine_pages.specs.Resident.{IsNamed}
use Rattle.engine_pages.specs.Rule.{Shared, all_seats, IsWay, IsDraft, IsCopy, IsBlank, IsFilled, IsKnownLeaf, IsHead}
use Rattle.engine_pages.specs.Rule.{IsMoved, IsShut, IsInner, IsNewInner, IsNewLeaf, IsSealed, Fits, RecordStands}
use Rattle.engine_pages.specs.Stays.{IsKnown}
use Rattle.engine_pages.specs.Touches.{AreBlamed, Touched}
use Rattle.engine_pages.specs.Views.{IsActive, seat_number, tries, waits}
use Rattle.engine_pages.specs.Words.{ShowsWords, spot}
use Rattle.engine_pages.proofs.Dealing.{blamed}
use Rattle.engine_pages.proofs.EachSeat.{at_seat}
use Rattle.engine_pages.proofs.Facing.{takes_same}
use Rattle.engine_pages.proofs.Filling.{owned_never}
use Rattle.engine_pages.proofs.Joint.{Laws, shared_now, effect_of, may_do, joint_act}
use Rattle.engine_pages.proofs.Named.{more_same}
use Rattle.engine_pages.proofs.PagesStay.{WordsStay}
use Rattle.engine_pages.proofs.Seats.{is_at, put_seat}
use Rattle.engine_pages.proofs.SlotFacts.{head_same, draft_same, within_same, shut_same}
use Rattle.engine_pages.proofs.SlotSteps.{PagesNow, acted_as, own_pages, trees_same}
use Rattle.engine_pages.proofs.TreeFacts.{inner_at, new_inner_at, new_leaf_at, same_fence, sealed_at}
use Rattle.engine_pages.proofs.Turns.{Turn, Stride, Begins, marks_stay, tried_goes}
use Rattle.views.specs.Sums.{total}
use Rattle.pointer_swings.proofs.Repoints.{Repointed, elsewhere as elsewhere_of, known_still as known_of, laid_on}
use Rattle.pointer_swings.proofs.Repoints.{laid_out as laid_of, made_left as made_of, not_leaf as leaf_of}
use Rattle.pointer_swings.proofs.Repoints.{not_low as low_of, not_record as record_of, not_snap as snap_of}
use Rattle.pointer_swings.proofs.Repoints.{not_split as split_of, not_unled as unled_of, others as others_of}
use Rattle.pointer_swings.proofs.Repoints.{shows as shows_of, spans as spans_of, states as states_of}
use Rattle.pointer_swings.proofs.Repoints.{within as within_of}

-- 1 in the stage of an attempt in progress
abbrev tries_at : Stage → ℕ
tries_at k = cond (is_trying k) 1 0

no_worker : (v : View) (worker : ℕ) → v.role ≡ Keeper → v.role ≡ Worker worker → ⊥
no_worker v worker keeper is = let no : Keeper ≡ Worker worker = sym keeper ∙ is in absurd (cc)

module _ (laws : Laws) (l : Layout) (words : List ℕ) (views : List View) (s : Shared) (id : ℕ) (v : View)
    (active : IsActive v.role) (b : Begins l words views s id v) (x : At) (sp : Span) (at value : ℕ)
    (here : IsPointerAt v x sp at) (places : List (Spot × Place)) (homes : List (Key × Home)) (horizon : Number)
    (e : Table) (r : Pointer) (gone : List ℕ) where
  abbrev m : Story
  m = s.story

  abbrev d : Table
  d = s.table

  abbrev p : ℕ
  p = seat_number v.role

  abbrev n : Story
  n = record m { places = places; homes = homes; horizon = horizon }

  abbrev words' : List ℕ
  words' = set words at value

  abbrev To : Type 0
  To = Repointed laws l words views s id v active b x sp at value here places homes horizon e r gone

  within : at < length words
  within = within_of laws l words views s id v active b x sp at value here places homes horizon e r gone

  others : (j : ℕ) → j ≢ at → get_or words' j 0 ≡ get_or words j 0
  others = others_of laws l words views s id v active b x sp at value here places homes horizon e r gone

  not_low : (j : ℕ) → j < 10 → j ≢ at
  not_low = low_of laws l words views s id v active b x sp at value here places homes horizon e r gone

  not_snap : (j : ℕ) → 32 + 65 * l.slots ≤ j → j ≢ at
  not_snap = snap_of laws l words views s id v active b x sp at value here places homes horizon e r gone

  not_unled : (u i : ℕ) → i < 64 → is_never (slot_of d u).led ≡ true → page_at l.slots u i ≢ at
  not_unled = unled_of laws l words views s id v active b x sp at value here places homes horizon e r gone

  not_leaf : (u i : ℕ) (ks : List Key) → i < 64 → page_of d u ≡ Leaf ks → page_at l.slots u i ≢ at
  not_leaf = leaf_of laws l words views s id v active b x sp at value here places homes horizon e r gone

  not_split : (u i : ℕ) → i < 64 → page_of d u ≡ Split → page_at l.slots u i ≢ at
  not_split = split_of laws l words views s id v active b x sp at value here places homes horizon e r gone

  not_record : (u i : ℕ) (span : Span) → i < 64 → is_array l.decls span.storage ≡ true → is_leaf_span span ≡ true
      → IsLaidOut (decl_of l.decls span.storage) s.trees d u span → page_at l.slots u i ≢ at
  not_record = record_of laws l words views s id v active b x sp at value here places homes horizon e r gone

  elsewhere : (u j : ℕ) → is_never (slot_of d u).led ≡ true → x ≡ at_index u j → ⊥
  elsewhere = elsewhere_of laws l words views s id v active b x sp at value here places homes horizon e r gone

  module _ (c : To) where
    spans : (y : At) → span_at e y ≡ span_at d y
    spans = spans_of laws l words views s id v active b x sp at value here places homes horizon e r gone c

    states : (u : ℕ) → (slot_of e u).state ≡ (slot_of d u).state
    states = states_of laws l words views s id v active b x sp at value here places homes horizon e r gone c

    known_still : (u : ℕ) → IsKnown d u → IsKnown e u
    known_still = known_of laws l words views s id v active b x sp at value here places homes horizon e r gone c

    made_left : (u : ℕ) → is_never (slot_of d u).led ≡ true → has_slot gone u ≡ false
    made_left = made_of laws l words views s id v active b x sp at value here places homes horizon e r gone c

    laid_out : AreLaidOut l.decls s.trees e
    laid_out = laid_of laws l words views s id v active b x sp at value here places homes horizon e r gone c

    shows : ShowsWords l words' n e s.trees s.resident
    shows = shows_of laws l words views s id v active b x sp at value here places homes horizon e r gone c

    -- ---- what the view knows of pages

    way_still : (z : Way) → Contains v.ways z → IsWay l e s.trees v.grip.holds z
    way_still z has =
        let was = b.pages.ways z has in record {
          within = was.within;
          held = was.held;
          known = known_still z.slot was.known;
          over = laid_on (decl_of l.decls z.span.storage) s.trees d e z.slot z.span (c.pages z.slot) (c.buried z.slot)
              (λ j. spans (at_index z.slot j)) was.over;
        }

    draft_still : (z : Draft) → Contains v.drafts z → IsDraft words' l.slots e v.grip.made z
    draft_still z has =
        let was = b.pages.drafts z has in
        let unled = owned_never d z.slot (slot_of d z.slot).state (slot_of d z.slot).led was.owned
        (b.sound.joint.pages.table.holds_counted.led z.slot) in
        draft_same words words' l.slots d e v.grip.made v.grip.made z was.made (states z.slot)
        (c.headers z.slot (made_left z.slot unled))
        (λ i less. others (page_at l.slots z.slot i) (not_unled z.slot i less unled)) was

    made_never : (u : ℕ) → has_slot v.grip.made u ≡ true → is_never (slot_of d u).led ≡ true
    made_never u has =
        let is : IsMade d (all_seats s.grips) p u =
        laws.made (home_of m.homes) d (all_seats s.grips) p u (s.grips p) b.sound.joint.pages (at_seat s.grips p b.few)
        (ap (λ (g : Grip). has_slot g.made u) (sym b.grip) ∙ has) in
        ap is_never is.never

    copy_still : (z : Copied) → Contains v.copies z
        → (s.trees z.slot ≡ None) × IsCopy l n e s.resident v.grip.made z
    copy_still z has =
        let was = b.pages.copies z has in
        let unled = made_never z.slot was.1.made in
        let left = made_left z.slot unled in
        let same : (j : ℕ) → pointer_of e (at_index z.slot j) ≡ pointer_of d (at_index z.slot j) =
        λ j. c.same (at_index z.slot j) (elsewhere z.slot j unled) left in (
          was.0,
          record {
            slot = was.1.slot;
            made = was.1.made;
            state = ap is_published (states z.slot) ∙ was.1.state;
            over = record {
              page = c.pages z.slot ∙ was.1.over.page;
              spans = λ j has. spans (at_index z.slot j) ∙ was.1.over.spans j has;
              header = c.headers z.slot left ∙ was.1.over.header;
            };
            page = was.1.page;
            exact = was.1.exact;
            records = λ leaf i less. c.kept-places (spot z.slot i) left ∙ was.1.records leaf i less;
            pointers = λ inner j less.
                let old = was.1.pointers inner j less in record {
                  span = ap (λ (y : Pointer). y.span) (same j) ∙ old.span;
                  slot = ap (λ (y : Pointer). y.slot) (same j) ∙ old.slot;
                  free = ap (λ (y : Pointer). y.holder) (same j) ∙ old.free;
                  named = subst (λ (y : Pointer). IsNamed s.resident.places (child_span z.span j) (get_or (page_words s.resident.pages z.page) j 0) y.page)
                      (sym (same j)) old.named;
                };
          },
        )

    blank_still : (u : ℕ) → has_slot v.blanks u ≡ true → IsBlank l.slots e v.grip.made u
    blank_still u has =
        let was = b.pages.blanks u has in
        record { slot = was.slot; made = was.made; state = ap is_published (states u) ∙ was.state }

    fill_still : (z : Filled) → Contains v.fills z → (v.role ≡ Keeper) × IsFilled l words' s.resident z
    fill_still z has =
        let was = b.pages.fills z has in (
          was.0,
          record {
            above = was.1.above;
            within = was.1.within;
            is = λ i less. others (snap_at l.slots z.page i) (not_snap (snap_at l.slots z.page i) (omega arith)) ∙ was.1.is i less;
          },
        )

    leds : (u : ℕ) → has_slot gone u ≡ false → (slot_of e u).led ≡ (slot_of d u).led
    leds u left = ap (λ (z : Slot). z.led) (c.keeps u left)

    known_leaf_still : (z : Known) → Contains v.known z → IsKnownLeaf l e s.trees v.grip.holds z
    known_leaf_still z has =
        let was = b.pages.treed.known z has in
        record {
          within = was.within;
          held = was.held;
          known = known_still z.slot was.known;
          fence = was.fence;
          there = was.there;
          front = was.front;
        }

    head_still : (z : Head) → has_slot gone z.slot ≡ false → IsHead l words d s.trees p z → IsHead l words' e s.trees p z
    head_still z left was =
        head_same l words words' s.trees d e p z (c.headers z.slot left) (c.pages z.slot)
        (λ i less. others (page_at l.slots z.slot i) (not_leaf z.slot i z.keys less was.leaf)) was

    moved_still : (z : Moved) → Contains v.moved z → IsMoved l words' e s.trees v.grip.holds z
    moved_still z has =
        let was = b.pages.treed.moved z has in
        let stays : (i : ℕ) → i < 64 → get_or words' (page_at l.slots z.slot i) 0 ≡ get_or words (page_at l.slots z.slot i) 0 =
        λ i less. others (page_at l.slots z.slot i) (not_split z.slot i less was.split) in
        record {
          within = was.within;
          held = was.held;
          known = known_still z.slot was.known;
          split = c.pages z.slot ∙ was.split;
          fence = was.fence;
          there = was.there;
          minor = stays 3 (omega arith) ∙ was.minor;
          major = stays 4 (omega arith) ∙ was.major;
          separator = stays 5 (omega arith) ∙ was.separator;
        }

    inner_still : (z : InnerOf) → Contains v.inners z → IsInner l e s.trees v.grip.holds z
    inner_still z has =
        let was = b.pages.treed.inners z has in
        inner_at l s.trees s.trees d e v.grip.holds v.grip.holds z was.held (known_still z.slot was.known) (c.pages z.slot)
        (same_fence s.trees s.trees z.slot refl) (λ j has. spans (at_index z.slot j)) was

    new_leaf_still : (z : NewLeaf) → Contains v.new_leaves z → IsNewLeaf l n e s.trees v.grip.made z
    new_leaf_still z has =
        let was = b.pages.treed.new_leaves z has in
        let left = made_left z.slot (made_never z.slot was.made) in
        new_leaf_at l m n d e s.trees s.trees v.grip.made v.grip.made z was.made (states z.slot) (c.headers z.slot left)
        (c.pages z.slot) refl (λ i. c.kept-places (spot z.slot i) left) was

    new_inner_still : (z : NewInner) → Contains v.new_inners z → IsNewInner l e s.trees s.resident v.grip.made z
    new_inner_still z has =
        let was = b.pages.treed.new_inners z has in
        let unled = made_never z.slot was.made in
        new_inner_at l d e s.trees s.trees s.resident s.resident v.grip.made v.grip.made z was.made (states z.slot)
        (c.pages z.slot) refl
        (λ j free. c.same (at_index z.slot j) (elsewhere z.slot j unled) (made_left z.slot unled))
        (more_same s.resident) was

    -- a pointer that was shut, and is not this one, nor in a page that is gone
    pub shut_still : (z : Shut) → IsShut d s.resident p v.grip.holds z → (x ≡ z.at → ⊥) → is_in gone z.at ≡ false
        → IsShut e s.resident p v.grip.holds z
    shut_still z was other left =
        shut_same d e s.resident p v.grip.holds v.grip.holds z
        (within_same d e v.grip.holds v.grip.holds z.at
        (λ u is held known. (held, leds u (left_slot z.at u is left), c.pages u)))
        (c.same z.at other left) was
      where
        left_slot : (y : At) (u : ℕ) → is_slot u (slot_with y) ≡ true → is_in gone y ≡ false → has_slot gone u ≡ false
        left_slot (Root i) u is left = absurd (true≢false (sym is))
        left_slot (In y) u is left = ap (has_slot gone) (sym (eqb-true y.slot u is)) ∙ left

    -- What the view knew of pages is so still, but for pointers that were shut.
    pub record OldNow : Type 0 where
      pub ways : (z : Way) → Contains v.ways z → IsWay l e s.trees v.grip.holds z
      pub drafts : (z : Draft) → Contains v.drafts z → IsDraft words' l.slots e v.grip.made z
      pub copies : (z : Copied) → Contains v.copies z → (s.trees z.slot ≡ None) × IsCopy l n e s.resident v.grip.made z
      pub blanks : (u : ℕ) → has_slot v.blanks u ≡ true → IsBlank l.slots e v.grip.made u
      pub fills : (z : Filled) → Contains v.fills z → (v.role ≡ Keeper) × IsFilled l words' s.resident z
      pub known : (z : Known) → Contains v.known z → IsKnownLeaf l e s.trees v.grip.holds z
      pub heads : (z : Head) → Contains v.heads z → has_slot gone z.slot ≡ false → IsHead l words' e s.trees p z
      pub moved : (z : Moved) → Contains v.moved z → IsMoved l words' e s.trees v.grip.holds z
      pub sealed : (u : ℕ) → has_slot v.sealed u ≡ true → has_slot gone u ≡ false → IsSealed l e p u
      pub inners : (z : InnerOf) → Contains v.inners z → IsInner l e s.trees v.grip.holds z
      pub new_leaves : (z : NewLeaf) → Contains v.new_leaves z → IsNewLeaf l n e s.trees v.grip.made z
      pub new_inners : (z : NewInner) → Contains v.new_inners z → IsNewInner l e s.trees s.resident v.grip.made z

    pub old_now : OldNow
    old_now = record {
      ways = way_still;
      drafts = draft_still;
      copies = copy_still;
      blanks = blank_still;
      fills = fill_still;
      known = known_leaf_still;
      heads = λ z has left. head_still z left (b.pages.treed.heads p (is_at v.role active) z has);
      moved = moved_still;
      sealed = λ u has left.
          sealed_at l d e p u (c.headers u left) (c.pages u) (b.pages.treed.sealed p (is_at v.role active) u has);
      inners = inner_still;
      new_leaves = new_leaf_still;
      new_inners = new_inner_still;
    }

    -- ---- the step

    frame : WordsStay l words words' s p
    frame = record {
      drafts = λ u few unmade owned i less.
          others (page_at l.slots u i)
          (not_unled u i less
          (owned_never d u (slot_of d u).state (slot_of d u).led owned (b.sound.joint.pages.table.holds_counted.led u)));
      spare = λ u o ks few known held other leaf i less is. others (page_at l.slots u i) (not_leaf u i ks less leaf);
      twins = λ u few known split i from most. others (page_at l.slots u i) (not_split u i (omega arith) split);
      fills = λ other i j some less. others (snap_at l.slots i j) (not_snap (snap_at l.slots i j) (omega arith));
    }

    record_still : (k : Key) (y : Spot) (j : ℕ) → RecordStands l s k y j → get_or words' j 0 ≡ get_or words j 0
    record_still k y j is =
        others j (λ same.
        not_record y.slot (2 * y.index) is.span (let index : y.index < 32 = is.index in omega arith) is.kind is.leaf is.over
        (sym is.word ∙ same))

    -- what is asked of the view after it
    pub record ViewNow (w : View) : Type 0 where
      pub role : w.role ≡ v.role
      pub made : w.made ≡ v.made
      pub marks : w.seat.marks ≡ v.seat.marks
      pub stage : w.seat.stage ≡ v.seat.stage
      pub mine : w.mine ≡ v.mine
      pub draws : w.draws ≡ v.draws
      pub due : w.due ≡ v.due
      pub touched : w.touched ≡ v.touched
      pub blamed : w.blamed ≡ v.blamed
      pub locks : (k : Key) → has_key w.seat.locks k ≡ true → has_key v.seat.locks k ≡ true
      pub fits : Fits l n (put_seat s.seats p w.seat) w
      pub now : PagesNow l words' (shared_now s p n e s.trees s.resident w) w

    pub pointer_stride : (act : PageAct) (w : View) (f : ℕ → ℕ) (tells : View → ℕ → View → Type 0)
        → v.role ≡ Keeper → f (get_or words at 0) ≡ value → may_do s p (TurnPages act) ≡ true
        → effect_of s p (TurnPages act) ≡ record { story = n; seat = w.seat; table = e; grip = w.grip }
        → ViewNow w → tells v (get_or words at 0) w → Stride l words views s p v at f tells
    pointer_stride act w f tells keeper f-is may comes q tells-so =
        let h = b.sound in
        let done = acted_as l s p (effect_of s p (TurnPages act)) n e w comes
        (joint_act laws l s p (TurnPages act) b.few may h.joint) in
        record {
          story = n;
          table = e;
          trees = s.trees;
          resident = s.resident;
          view = w;
          sound = done.sound;
          stays = done.stays;
          trees-stay = trees_same p s;
          turn = subst (λ y. Turn l words (set words at y) views s (shared_now s p n e s.trees s.resident w) p v w) (sym f-is) record {
            small = record { first = h.small.first; drawn = h.small.drawn; clock = h.small.clock };
            valued = h.valued;
            shown = shows;
            marks = marks_stay words words' s.seats p v.seat w.seat h.marks b.own.seat q.marks (λ j lo hi. others j (not_low j hi));
            marked = λ place mark has. ap (λ list. slice_get list place) q.marks ∙ has;
            marks_low = subst (λ list. last_marked list < m.epoch) (ap (λ (z : Seat). z.marks) (sym b.own.seat) ∙ sym q.marks) (h.marked p);
            drawn = λ a has. inl has;
            tried = tried_goes m n s.seats p v.seat w.seat b.own.seat refl refl refl (inl q.stage) h.tried;
            fits = q.fits;
            role = q.role;
            made = q.made;
            mine = λ g. ap (λ list. total (λ a. g a.number) list + total g m.decided) q.mine;
            drew = ap (λ k. k + length m.history) q.draws;
            few = let same : tries w ≡ tries v = ap (λ k. tries_at k) q.stage in omega arith;
            room = let same : waits w ≡ waits v = ap (λ (k : Bool). cond k 1 0) q.due in omega (arith, h.sums.room);
            deals = record {
              touched = λ o k. omega (arith, takes_same o k v w q.touched);
              locks = λ k has. inl (q.locks k has);
              changes = λ k y j is. inl (record_still k y j is);
              facing = λ worker is. absurd (no_worker v worker keeper (sym q.role ∙ is));
              blamed = subst (λ list. AreBlamed (Touched views) list) (sym q.blamed) (blamed l words views s id v b);
            };
            slots = c.room;
            within = h.within;
            more = more_same s.resident;
            unpublished = λ other. refl;
            named = c.named;
            laid_out = laid_out;
            pages = own_pages l words words' s n e s.trees s.resident v w active q.role q.made b.pages q.now;
            frame = frame;
          };
          tells-so = tells-so;
        }
