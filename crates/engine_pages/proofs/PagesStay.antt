-- What another view knows of pages stays true.
use Rattle.std.proofs.Common.{◌≡◌, ◌≢◌, ◌⊎◌, inl, inr, ℕ, suc, ◌+◌, ◌<◌, ◌≤◌, Bool, true, false, true≢false, List}
use Rattle.std.proofs.Common.{get_or, length, refl, sym, ap, ◌∙◌, subst, arith, Option, Some, None, ltb, cond}
use Rattle.std.specs.List.{Contains}
use Rattle.std.proofs.lemmas.Bool.{cases_Bool}
use Rattle.std.proofs.lemmas.Bool.Decides.{nat_tests}
use Rattle.lists.specs.Elements.{in_none}
use Rattle.lists.specs.Fronts.{front_then, front_length}
use Rattle.serial_model.specs.declared.decl.Decl.{Decl}
use Rattle.serial_model.specs.declared.decl.Decl.TheVariants.{Array, Tree}
use Rattle.serial_model.specs.declared.key.Key.{Key}
use Rattle.homes.specs.declared.places.Holder.TheVariants.{Free, Held}
use Rattle.homes.specs.declared.places.Span.{Span}
use Rattle.homes.specs.Homes.{holder_is}
use Rattle.snapshot_store.specs.Places.{page as page_words}
use Rattle.commit_core.specs.declared.place.Place.{Place}
use Rattle.commit_core.specs.declared.story.Story.{Story}
use Rattle.commit_core.specs.Places.{place_of, home_of}
use Rattle.drop_core.specs.declared.grip.Grip.{Grip}
use Rattle.drop_core.specs.declared.table.Page.{Page}
use Rattle.drop_core.specs.declared.table.Page.TheVariants.{Leaf, Inner, Split}
use Rattle.drop_core.specs.declared.table.Pointer.{Pointer}
use Rattle.drop_core.specs.declared.table.Table.{Table}
use Rattle.drop_core.specs.Event.{is_owned, is_published}
use Rattle.drop_core.specs.Law.{IsGrown, LeavesPage, LeavesMade, IsMade}
use Rattle.drop_core.specs.Table.{slot_of, page_of, pointer_of, header_of, has_slot, at_index, has_pointer, is_never}
use Rattle.engine_rule.specs.Sound.{IsSound}
use Rattle.engine_rule.specs.Stays.{Stays}
use Rattle.views.specs.Sums.{times}
use Rattle.engine_pages.specs.declared.layout.Layout.{Layout}
use Rattle.engine_pages.specs.declared.view.Copied.{Copied}
use Rattle.engine_pages.specs.declared.view.Draft.{Draft}
use Rattle.engine_pages.specs.declared.view.Head.{Head}
use Rattle.engine_pages.specs.declared.view.Inner.{Inner as InnerKnown}
use Rattle.engine_pages.specs.declared.view.Known.{Known}
use Rattle.engine_pages.specs.declared.view.Moved.{Moved}
use Rattle.engine_pages.specs.declared.view.NewInner.{NewInner}
use Rattle.engine_pages.specs.declared.view.NewLeaf.{NewLeaf}
use Rattle.engine_pages.specs.declared.view.Role.{Role}
use Rattle.engine_pages.specs.declared.view.Role.TheVariants.{Keeper, Worker, Note, Spent}
use Rattle.engine_pages.specs.declared.view.View.{View}
use Rattle.engine_pages.specs.declared.view.Way.{Way}
use Rattle.engine_pages.specs.Layout.{page_at, snap_at}
use Rattle.engine_pages.specs.Pages.{shape_of, child_span, is_leaf_span, decl_of, keys_from, Fenced, IsOver, IsLaidOut}
use Rattle.engine_pages.specs.Resident.{Published, HasMore, array_record}
use Rattle.engine_pages.specs.Rule.{Shared, all_seats, joint_of, Fits, FitsPages, IsWay, IsDraft, IsCopy, IsCopiedPointer}
use Rattle.engine_pages.specs.Rule.{IsKnownLeaf, IsHead, IsMoved, IsSealed, IsInner, IsNewLeaf, IsNewInner, is_spare}
use Rattle.engine_pages.specs.Stays.{IsKnown, IsRelied, TreesStay}
use Rattle.engine_pages.specs.Views.{IsAt, IsActive, HasNoSlots, HasNoPages, HasNoTreePages, HasNoTrees, seat_number}
use Rattle.engine_pages.specs.Views.{sits, sits_by}
use Rattle.engine_pages.specs.Words.{spot}
use Rattle.engine_pages.proofs.EachSeat.{at_seat}
use Rattle.engine_pages.proofs.Joint.{Laws}
use Rattle.engine_pages.proofs.Named.{named_more, page_longer, lead_more}
use Rattle.engine_pages.proofs.Seats.{is_at, sits_here, few_seats, locked_known}
use Rattle.engine_pages.proofs.TreeFacts.{inner_at, new_leaf_at, new_inner_at, sealed_at}
use Rattle.homes.specs.declared.places.At.{At}
use Rattle.homes.specs.declared.places.At.TheVariants.{Root, In}
use Rattle.homes.specs.declared.places.Holder.TheVariants.{Dead}
use Rattle.wire_form.specs.Words.{at_bit, slot_field}
use Rattle.drop_core.specs.declared.table.Led.{Led}
use Rattle.drop_core.specs.declared.table.Led.TheVariants.{Never, From, Away}
use Rattle.drop_core.specs.Sound.{DeadStaysDead}
use Rattle.drop_core.specs.Table.{is_led, is_live}
use Rattle.engine_pages.specs.declared.view.Shut.{Shut}
use Rattle.engine_pages.specs.Rule.{IsWithin, IsShut}
use Rattle.engine_pages.specs.Resident.{IsNamed}
use Rattle.std.proofs.lemmas.Bool.{and_from}

-- ---- words

-- The words that other seats rely on are as before, after a step of seat p.
pub record WordsStay (l : Layout) (words words' : List ℕ) (s : Shared) (p : ℕ) : Type 0 where
  pub drafts : (t : ℕ) → t < l.slots → has_slot (s.grips p).made t ≡ false → is_owned (slot_of s.table t).state ≡ true
      → (i : ℕ) → i < 64 → get_or words' (page_at l.slots t i) 0 ≡ get_or words (page_at l.slots t i) 0
  pub spare : (t o : ℕ) (keys : List Key) → t < l.slots → is_never (slot_of s.table t).led ≡ false
      → header_of s.table t ≡ Held o → o ≢ p → page_of s.table t ≡ Leaf keys → (i : ℕ) → i < 64
      → is_spare (length keys) i ≡ true
      → get_or words' (page_at l.slots t i) 0 ≡ get_or words (page_at l.slots t i) 0
  pub twins : (t : ℕ) → t < l.slots → is_never (slot_of s.table t).led ≡ false → page_of s.table t ≡ Split
      → (i : ℕ) → 3 ≤ i → i ≤ 5 → get_or words' (page_at l.slots t i) 0 ≡ get_or words (page_at l.slots t i) 0
  pub fills : p ≢ 0 → (n i : ℕ) → 0 < n → i < 64
      → get_or words' (snap_at l.slots n i) 0 ≡ get_or words (snap_at l.slots n i) 0

-- where no word of a page changes
pub words_same : (l : Layout) (words words' : List ℕ) (s : Shared) (p : ℕ)
    → ((j : ℕ) → 32 + l.slots ≤ j → get_or words' j 0 ≡ get_or words j 0) → WordsStay l words words' s p
words_same l words words' s p same = record {
  drafts = λ t low unmade owned i few. same (page_at l.slots t i) (omega arith);
  spare = λ t o keys low known held other leaf i few is. same (page_at l.slots t i) (omega arith);
  twins = λ t low known split i from to. same (page_at l.slots t i) (omega arith);
  fills = λ other n i some few. same (snap_at l.slots n i) (omega arith);
}

-- ---- the layout of a page

no_growth : (old new : Page) → old ≡ Split → IsGrown old new → ⊥
no_growth old new is grown =
    let leaf : Leaf grown.0 ≡ Split = sym grown.1 ∙ is in absurd (cc)

pub split_stays : (d e : Table) (t : ℕ) → LeavesPage d e t → page_of d t ≡ Split → page_of e t ≡ Split
split_stays d e t left is = elim left.page [
  | inl same ↦ same ∙ is
  | inr grown ↦ absurd (no_growth (page_of d t) (page_of e t) is grown.0)
]

inner_stays_page : (old new : Page) (n : ℕ) (x : Type 0) → old ≡ Inner n → (new ≡ old) ⊎ (IsGrown old new × x)
    → new ≡ old
inner_stays_page old new n x is (inl same) = same
inner_stays_page old new n x is (inr grown) =
    let leaf : Leaf grown.0.0 ≡ Inner n = sym grown.0.1 ∙ is in absurd (cc)

pub over_stays : (d e : Table) (t : ℕ) (sp : Span) → LeavesPage d e t → IsOver d t sp → IsOver e t sp
over_stays d e t sp left over = record {
  page = elim left.page [
    | inl same ↦ same ∙ over.page
    | inr grown ↦ absurd (grown.1 over.header)
  ];
  spans = λ j has.
      left.spans j (subst (λ (z : Page). has_pointer z j ≡ true) (sym over.page) has) ∙ over.spans j has;
  header = left.dead over.header;
}

pub laid_stays : (o : Option Decl) (p q : ℕ) (s : Shared) (k : ℕ → Option Fenced) (e : Table) (t : ℕ) (sp : Span)
    → IsRelied s q t → LeavesPage s.table e t → TreesStay p s k → IsLaidOut o s.trees s.table t sp → IsLaidOut o k e t sp
laid_stays None p q s k e t sp relied left trees over = over
laid_stays (Some (Array id size)) p q s k e t sp relied left trees over =
    (trees.none q t relied over.0, over_stays s.table e t sp left over.1)
laid_stays (Some (Tree id)) p q s k e t sp relied left trees over =
    let g = trees.fence q t over.0 relied over.1 in (g.0, g.1, g.2 ∙ over.2)

-- ---- copies

pub leaf_shape : (sp : Span) → is_leaf_span sp ≡ true → shape_of sp ≡ Leaf (keys_from sp.storage sp.low 32)
leaf_shape sp is = ap (λ (c : Bool). let p : Page = cond c (Leaf (keys_from sp.storage sp.low 32)) (Inner 64) in p) is

pub inner_shape : (sp : Span) → is_leaf_span sp ≡ false → shape_of sp ≡ Inner 64
inner_shape sp is = ap (λ (c : Bool). let p : Page = cond c (Leaf (keys_from sp.storage sp.low 32)) (Inner 64) in p) is

-- the pointers of a copied page are open
open_pointers : (l : Layout) (m : Story) (d : Table) (r : Published) (made : List ℕ) (x : Copied) → IsCopy l m d r made x
    → (p j : ℕ) → has_pointer (shape_of x.span) j ≡ true → holder_is p (pointer_of d (at_index x.slot j)).holder ≡ false
open_pointers l m d r made x copy p j has = elim (cases_Bool (is_leaf_span x.span)) [
  | inl leaf ↦ absurd (true≢false (sym has ∙ ap (λ (z : Page). has_pointer z j) (leaf_shape x.span leaf)))
  | inr inner ↦
      let there : ltb j 64 ≡ true = sym (ap (λ (z : Page). has_pointer z j) (inner_shape x.span inner)) ∙ has in
      ap (holder_is p) (copy.pointers inner j (grind (arith, nat_tests))).free
]

pub copy_stays : (l : Layout) (m n : Story) (d e : Table) (r r' : Published) (p : ℕ) (made : List ℕ) (x : Copied)
    → LeavesMade p d e x.slot → ((i : ℕ) → place_of n.places (spot x.slot i) ≡ place_of m.places (spot x.slot i))
    → HasMore r r' → IsCopy l m d r made x → IsCopy l n e r' made x
copy_stays l m n d e r r' p made x left places more copy =
    let words : page_words r'.pages x.page ≡ page_words r.pages x.page =
    page_longer r.pages r'.pages x.page more.pages copy.page in record {
      slot = copy.slot;
      made = copy.made;
      state = ap is_published left.state ∙ copy.state;
      over = record {
        page = left.page ∙ copy.over.page;
        spans = λ j has.
            ap (λ (q : Pointer). q.span) (left.pointers j (open_pointers l m d r made x copy p j has))
            ∙ copy.over.spans j has;
        header = left.header ∙ copy.over.header;
      };
      page = let long = front_length r.pages r'.pages more.pages in let low = copy.page in omega arith;
      exact = copy.exact;
      records = λ leaf i few.
          places i
          ∙ (copy.records leaf i few
          ∙ ap (λ (ws : List ℕ). let q : Place = record { content = array_record ws i; holder = Free } in q) (sym words));
      pointers = λ inner j few.
          let was = copy.pointers inner j few in
          let same = left.pointers j (ap (holder_is p) was.free) in
          subst (λ (q : Pointer). IsCopiedPointer r'.places x.span j (get_or (page_words r'.pages x.page) j 0) q) (sym same)
          (subst
          (λ (ws : List ℕ). IsCopiedPointer r'.places x.span j (get_or ws j 0) (pointer_of d (at_index x.slot j)))
          (sym words) record {
            span = was.span;
            slot = was.slot;
            free = was.free;
            named = named_more r.places r'.places (child_span x.span j) (get_or (page_words r.pages x.page) j 0)
                (pointer_of d (at_index x.slot j)).page more.places was.named;
          });
    }

-- ---- pointers that were shut

-- a page that grows has no pointers
no_pointer : (old new : Page) (j : ℕ) → IsGrown old new → has_pointer old j ≡ true → ⊥
no_pointer old new j grown has = true≢false (sym has ∙ ap (λ (z : Page). has_pointer z j) grown.1)

-- a pointer that a seat shut is live: those of a page from which what led to it was taken are dead
pub shut_live : (d : Table) (holds : List ℕ) (x : At) (p : ℕ) → DeadStaysDead d → IsWithin d holds x
    → (pointer_of d x).holder ≡ Held p → is_live d x ≡ true
shut_live d holds (Root r) p dead within shut = refl
shut_live d holds (In x) p dead within shut = by_led (slot_of d x.slot).led refl
  where
    by_led : (led : Led) → (slot_of d x.slot).led ≡ led → is_live d (In x) ≡ true
    by_led Never e = absurd (true≢false (sym (ap is_never e) ∙ within.1))
    by_led (From y) e = and_from (is_led (slot_of d x.slot).led) (has_pointer (page_of d x.slot) x.index) (ap is_led e) within.2
    by_led Away e =
        let none : Held p ≡ Dead = sym shut ∙ dead x.slot e x.index within.2 in absurd (cc)

-- ---- passes without a seat

pub activity : (role : Role) → IsActive role ⊎ (IsActive role → ⊥)
activity Keeper = inl tt
activity (Worker w) = inl tt
activity Note = inr (λ e. e)
activity Spent = inr (λ e. e)

bare_pages : (role : Role) (grip : Grip) (ways : List Way) (drafts : List Draft) (copies : List Copied) (blanks : List ℕ)
    → (IsActive role → ⊥) → HasNoPages role grip ways drafts copies blanks → HasNoSlots grip ways drafts copies blanks
bare_pages Keeper grip ways drafts copies blanks idle h = absurd (idle tt)
bare_pages (Worker w) grip ways drafts copies blanks idle h = absurd (idle tt)
bare_pages Note grip ways drafts copies blanks idle h = h
bare_pages Spent grip ways drafts copies blanks idle h = h

bare_trees : (role : Role) (v : View) → (IsActive role → ⊥) → HasNoTrees role v → HasNoTreePages v
bare_trees Keeper v idle h = absurd (idle tt)
bare_trees (Worker w) v idle h = absurd (idle tt)
bare_trees Note v idle h = h
bare_trees Spent v idle h = h

at_active : (q : ℕ) (r : Role) → IsAt q r → IsActive r
at_active q Keeper at = tt
at_active q (Worker w) at = tt
at_active q Note at = absurd at
at_active q Spent at = absurd at

-- ---- the view of another pass

module _ (laws : Laws) (l : Layout) (words words' : List ℕ) (s t : Shared) (p : ℕ) (u : View) (p-few : p < 9)
    (sound : IsSound (joint_of l s)) (left : Stays p (joint_of l s) (joint_of l t)) (trees : TreesStay p s t.trees)
    (more : HasMore s.resident t.resident) (unpublished : p ≢ 0 → t.resident ≡ s.resident)
    (frame : WordsStay l words words' s p) (grips : (q : ℕ) → q ≢ p → t.grips q ≡ s.grips q)
    (none : sits p u ≡ 0) (apart : u.role ≡ Keeper → (worker : ℕ) → times worker u.made ≡ 0 → suc worker ≢ p)
    (fits : Fits l s.story s.seats u) (f : FitsPages l words s u) where
  abbrev q : ℕ
  q = seat_number u.role

  elsewhere : (k : ℕ) → IsAt k u.role → k ≢ p
  elsewhere k at e =
      let here : sits_by p u.role ≡ 1 = sits_here p u.role (subst (λ j. IsAt j u.role) e at) in absurd (omega arith)

  other : IsActive u.role → q ≢ p
  other active = elsewhere q (is_at u.role active)

  few : IsActive u.role → q < 9
  few active = few_seats u.role active u.made u.due u.seat.stage u.mine fits.part

  mine : IsActive u.role → u.grip ≡ s.grips q
  mine active = f.grip q (is_at u.role active)

  relied : IsActive u.role → (x : ℕ) → has_slot u.grip.holds x ≡ true → IsKnown s.table x → IsRelied s q x
  relied active x held known = record {
    few = few active;
    held = subst (λ (z : Grip). has_slot z.holds x ≡ true) (mine active) held;
    known = known;
  }

  page_left : IsActive u.role → (x : ℕ) → has_slot u.grip.holds x ≡ true → IsKnown s.table x
      → LeavesPage s.table t.table x
  page_left active x held known =
      left.pages.pages q x (s.grips q) (at_seat s.grips q (few active)) (relied active x held known).held known

  made_here : IsActive u.role → (x : ℕ) → has_slot u.grip.made x ≡ true → has_slot (s.grips q).made x ≡ true
  made_here active x has = subst (λ (z : Grip). has_slot z.made x ≡ true) (mine active) has

  made_left : IsActive u.role → (x : ℕ) → has_slot u.grip.made x ≡ true → LeavesMade p s.table t.table x
  made_left active x has =
      left.made q x (s.grips q) (other active) (at_seat s.grips q (few active)) (made_here active x has)

  -- what another seat made, this one didn't
  unmade : IsActive u.role → (x : ℕ) → has_slot u.grip.made x ≡ true → has_slot (s.grips p).made x ≡ false
  unmade active x has =
      let is : IsMade s.table (all_seats s.grips) q x =
      laws.made (home_of s.story.homes) s.table (all_seats s.grips) q x (s.grips q) sound.pages
      (at_seat s.grips q (few active)) (made_here active x has) in
      is.alone p (s.grips p) (other active) (at_seat s.grips p p-few)

  way_stays : IsActive u.role → (x : Way) → IsWay l s.table s.trees u.grip.holds x → IsWay l t.table t.trees u.grip.holds x
  way_stays active x was = record {
    within = was.within;
    held = was.held;
    known = (page_left active x.slot was.held was.known).known;
    over = laid_stays (decl_of l.decls x.span.storage) p q s t.trees t.table x.slot x.span
        (relied active x.slot was.held was.known) (page_left active x.slot was.held was.known) trees was.over;
  }

  draft_stays : IsActive u.role → (x : Draft) → IsDraft words l.slots s.table u.grip.made x
      → IsDraft words' l.slots t.table u.grip.made x
  draft_stays active x was =
      let made = made_left active x.slot was.made in record {
        slot = was.slot;
        made = was.made;
        owned = ap is_owned made.state ∙ was.owned;
        header = made.header ∙ was.header;
        is = λ i less.
            frame.drafts x.slot was.slot (unmade active x.slot was.made) was.owned i less ∙ was.is i less;
      }

  copied_stays : IsActive u.role → (x : Copied) → (s.trees x.slot ≡ None) × IsCopy l s.story s.table s.resident u.grip.made x
      → (t.trees x.slot ≡ None) × IsCopy l t.story t.table t.resident u.grip.made x
  copied_stays active x was = (
    trees.made q x.slot (few active) (other active) (made_here active x.slot was.1.made) ∙ was.0,
    copy_stays l s.story t.story s.table t.table s.resident t.resident p u.grip.made x
        (made_left active x.slot was.1.made)
        (λ i. left.records q (spot x.slot i) (s.grips q) (other active) (at_seat s.grips q (few active))
        (made_here active x.slot was.1.made))
        more was.1,
  )

  known_stays : IsActive u.role → (x : Known) → IsKnownLeaf l s.table s.trees u.grip.holds x
      → IsKnownLeaf l t.table t.trees u.grip.holds x
  known_stays active x was =
      let g = trees.fence q x.slot was.fence (relied active x.slot was.held was.known) was.there in record {
        within = was.within;
        held = was.held;
        known = (page_left active x.slot was.held was.known).known;
        fence = g.0;
        there = g.1;
        front = front_then x.keys was.fence.keys g.0.keys was.front g.3;
      }

  head_stays : (k : ℕ) → IsAt k u.role → (x : Head) → IsHead l words s.table s.trees k x
      → IsHead l words' t.table t.trees k x
  head_stays k at x was =
      let head = left.held.headers k x.slot (elsewhere k at) was.locked in
      let known = locked_known l s x.slot k sound was.locked in record {
        within = was.within;
        locked = head.0;
        leaf = head.1 ∙ was.leaf;
        fence = was.fence;
        there = trees.heads x.slot k was.locked (elsewhere k at) ∙ was.there;
        keys = was.keys;
        long = was.long;
        is = λ i less is.
            frame.spare x.slot k x.keys was.within known was.locked (elsewhere k at) was.leaf i less is
            ∙ was.is i less is;
      }

  within_stays : IsActive u.role → (x : At) → IsWithin s.table u.grip.holds x → IsWithin t.table u.grip.holds x
  within_stays active (Root r) was = tt
  within_stays active (In x) was =
      let page = page_left active x.slot was.0 was.1 in (
        was.0,
        page.known,
        elim page.page [
          | inl same ↦ ap (λ (z : Page). has_pointer z x.index) same ∙ was.2
          | inr grown ↦ absurd (no_pointer (page_of s.table x.slot) (page_of t.table x.slot) x.index grown.0 was.2)
        ],
      )

  shut_stays : IsActive u.role → (k : ℕ) → IsAt k u.role → (x : Shut) → IsShut s.table s.resident k u.grip.holds x
      → IsShut t.table t.resident k u.grip.holds x
  shut_stays active k at x was =
      let live = shut_live s.table u.grip.holds x.at k sound.pages.table.one_home_each.dead was.within was.shut in
      let same : pointer_of t.table x.at ≡ pointer_of s.table x.at =
      left.held.pointers k x.at (elsewhere k at) live was.shut in record {
        within = within_stays active x.at was.within;
        shut = ap (λ (y : Pointer). y.holder) same ∙ was.shut;
        number = was.number;
        word = was.word ∙ ap (λ (y : Pointer). at_bit 0 was.number + at_bit 32 (slot_field y.slot)) (sym same);
        named = subst (λ (y : Pointer). IsNamed t.resident.places y.span was.number y.page) (sym same)
            (named_more s.resident.places t.resident.places (pointer_of s.table x.at).span was.number
            (pointer_of s.table x.at).page more.places was.named);
      }

  moved_stays : IsActive u.role → (x : Moved) → IsMoved l words s.table s.trees u.grip.holds x
      → IsMoved l words' t.table t.trees u.grip.holds x
  moved_stays active x was =
      let page = page_left active x.slot was.held was.known in
      let g = trees.fence q x.slot was.fence (relied active x.slot was.held was.known) was.there in
      let words-same = frame.twins x.slot was.within was.known was.split in record {
        within = was.within;
        held = was.held;
        known = page.known;
        split = split_stays s.table t.table x.slot page was.split;
        fence = g.0;
        there = g.1;
        minor = words-same 3 (omega arith) (omega arith) ∙ was.minor;
        major = words-same 4 (omega arith) (omega arith) ∙ was.major;
        separator = words-same 5 (omega arith) (omega arith) ∙ was.separator;
      }

  sealed_stays : (k : ℕ) → IsAt k u.role → (x : ℕ) → IsSealed l s.table k x → IsSealed l t.table k x
  sealed_stays k at x was =
      let head = left.held.headers k x (elsewhere k at) was.locked in
      sealed_at l s.table t.table k x (head.0 ∙ sym was.locked) head.1 was

  inner_stays : IsActive u.role → (x : InnerKnown) → IsInner l s.table s.trees u.grip.holds x
      → IsInner l t.table t.trees u.grip.holds x
  inner_stays active x was =
      let page = page_left active x.slot was.held was.known in
      inner_at l s.trees t.trees s.table t.table u.grip.holds u.grip.holds x was.held page.known
      (inner_stays_page (page_of s.table x.slot) (page_of t.table x.slot) (suc (length x.separators)) _ was.page page.page)
      (λ f is.
      let g = trees.fence q x.slot f (relied active x.slot was.held was.known) is in (g.0, g.1, g.2))
      page.spans was

  new_leaf_stays : IsActive u.role → (x : NewLeaf) → IsNewLeaf l s.story s.table s.trees u.grip.made x
      → IsNewLeaf l t.story t.table t.trees u.grip.made x
  new_leaf_stays active x was =
      let made = made_left active x.slot was.made in
      new_leaf_at l s.story t.story s.table t.table s.trees t.trees u.grip.made u.grip.made x was.made made.state
      made.header made.page (trees.made q x.slot (few active) (other active) (made_here active x.slot was.made))
      (λ i. left.records q (spot x.slot i) (s.grips q) (other active) (at_seat s.grips q (few active))
      (made_here active x.slot was.made)) was

  new_inner_stays : IsActive u.role → (x : NewInner) → IsNewInner l s.table s.trees s.resident u.grip.made x
      → IsNewInner l t.table t.trees t.resident u.grip.made x
  new_inner_stays active x was =
      let made = made_left active x.slot was.made in
      new_inner_at l s.table t.table s.trees t.trees s.resident t.resident u.grip.made u.grip.made x was.made made.state
      made.page (trees.made q x.slot (few active) (other active) (made_here active x.slot was.made))
      (λ j free. made.pointers j (ap (holder_is p) free)) more was

  pub pages_stay : FitsPages l words' t u
  pages_stay = record {
    grip = λ k at. f.grip k at ∙ sym (grips k (elsewhere k at));
    within = f.within;
    ways = λ x has. elim (activity u.role) [
      | inl active ↦ way_stays active x (f.ways x has)
      | inr idle ↦ absurd (in_none x (subst (λ (z : List Way). Contains z x) (bare idle).1 has))
    ];
    drafts = λ x has. elim (activity u.role) [
      | inl active ↦ draft_stays active x (f.drafts x has)
      | inr idle ↦ absurd (in_none x (subst (λ (z : List Draft). Contains z x) (bare idle).2 has))
    ];
    copies = λ x has. elim (activity u.role) [
      | inl active ↦ copied_stays active x (f.copies x has)
      | inr idle ↦ absurd (in_none x (subst (λ (z : List Copied). Contains z x) (bare idle).3 has))
    ];
    blanks = λ x has. elim (activity u.role) [
      | inl active ↦
          let was = f.blanks x has in record {
            slot = was.slot;
            made = was.made;
            state = ap is_published (made_left active x was.made).state ∙ was.state;
          }
      | inr idle ↦ absurd (true≢false (sym has ∙ ap (λ (z : List ℕ). has_slot z x) (bare idle).4))
    ];
    resident = front_then u.pages s.resident.pages t.resident.pages f.resident more.pages;
    leads = λ x has. lead_more s.resident t.resident x more (f.leads x has);
    fills = λ x has.
        let was = f.fills x has in
        let keeper-not : p ≢ 0 = λ e. elsewhere 0 (subst (IsAt 0) (sym was.0) refl) (sym e) in
        let same = unpublished keeper-not in (
          was.0,
          record {
            above = subst (λ (r : Published). length r.pages < x.page) (sym same) was.1.above;
            within = was.1.within;
            is = λ i less.
                frame.fills keeper-not x.page i (let low = was.1.above in omega arith) less ∙ was.1.is i less;
          },
        );
    shuts = λ k at x has. shut_stays (at_active k u.role at) k at x (f.shuts k at x has);
    none = f.none;
    keepers = λ keeper worker less unmade.
        grips (suc worker) (apart keeper worker unmade) ∙ f.keepers keeper worker less unmade;
    treed = record {
      known = λ x has. elim (activity u.role) [
        | inl active ↦ known_stays active x (f.treed.known x has)
        | inr idle ↦ absurd (in_none x (subst (λ (z : List Known). Contains z x) (treeless idle).0 has))
      ];
      heads = λ k at x has. head_stays k at x (f.treed.heads k at x has);
      moved = λ x has. elim (activity u.role) [
        | inl active ↦ moved_stays active x (f.treed.moved x has)
        | inr idle ↦ absurd (in_none x (subst (λ (z : List Moved). Contains z x) (treeless idle).2 has))
      ];
      sealed = λ k at x has. sealed_stays k at x (f.treed.sealed k at x has);
      inners = λ x has. elim (activity u.role) [
        | inl active ↦ inner_stays active x (f.treed.inners x has)
        | inr idle ↦ absurd (in_none x (subst (λ (z : List InnerKnown). Contains z x) (treeless idle).3 has))
      ];
      new_leaves = λ x has. elim (activity u.role) [
        | inl active ↦ new_leaf_stays active x (f.treed.new_leaves x has)
        | inr idle ↦ absurd (in_none x (subst (λ (z : List NewLeaf). Contains z x) (treeless idle).4 has))
      ];
      new_inners = λ x has. elim (activity u.role) [
        | inl active ↦ new_inner_stays active x (f.treed.new_inners x has)
        | inr idle ↦ absurd (in_none x (subst (λ (z : List NewInner). Contains z x) (treeless idle).5 has))
      ];
      none = f.treed.none;
    };
  }
    where
      bare : (IsActive u.role → ⊥) → HasNoSlots u.grip u.ways u.drafts u.copies u.blanks
      bare idle = bare_pages u.role u.grip u.ways u.drafts u.copies u.blanks idle f.none

      treeless : (IsActive u.role → ⊥) → HasNoTreePages u
      treeless idle = bare_trees u.role u idle f.treed.none
