-- Steps on a slot's word: an act on pages that moves no key and leaves all pages.
use Rattle.std.proofs.Common.{◌≡◌, ◌≢◌, ℕ, suc, ◌+◌, ◌^◌, ◌<◌, Bool, true, cond, inl, List, []}
use Rattle.std.proofs.Common.{length, get_or, set, refl, sym, ap, ◌∙◌, subst, arith, Option, Some, None, IfSome, eqb}
use Rattle.std.specs.Prelude.{◌&&◌}
use Rattle.std.specs.List.{Contains, slice_get}
use Rattle.std.proofs.lemmas.Bool.{and_from, and_parts}
use Rattle.lists.specs.Fronts.{IsFront, front_refl}
use Rattle.serial_model.specs.declared.decl.Decl.{Decl}
use Rattle.serial_model.specs.declared.decl.Decl.TheVariants.{Array, Tree}
use Rattle.serial_model.specs.declared.number.Number.{Number}
use Rattle.wire_form.specs.Words.{at_bit}
use Rattle.homes.specs.declared.places.At.{At}
use Rattle.homes.specs.declared.places.At.TheVariants.{Root, In}
use Rattle.homes.specs.declared.places.Span.{Span}
use Rattle.commit_core.specs.declared.attempt.Attempt.{Attempt}
use Rattle.commit_core.specs.declared.seat.Seat.{Seat}
use Rattle.commit_core.specs.declared.story.Story.{Story}
use Rattle.commit_core.specs.CoreState.{is_trying, last_marked}
use Rattle.drop_core.specs.declared.event.Act.{Act as PageAct}
use Rattle.drop_core.specs.declared.grip.Grip.{Grip}
use Rattle.drop_core.specs.declared.table.Page.{Page}
use Rattle.drop_core.specs.declared.table.Pointer.{Pointer}
use Rattle.drop_core.specs.declared.table.Slot.{Slot}
use Rattle.drop_core.specs.declared.table.SnapPage.{SnapPage}
use Rattle.drop_core.specs.declared.table.Table.{Table}
use Rattle.drop_core.specs.Event.{is_allowed as page_allows, effect as page_effect, moves}
use Rattle.drop_core.specs.Sound.{span_at}
use Rattle.drop_core.specs.Table.{slot_of, page_of, pointer_of, header_of, snap_of, has_slot, at_index, is_led, is_live, has_pointer}
use Rattle.engine_rule.specs.declared.event.JointAct.TheVariants.{Turn as TurnPages}
use Rattle.engine_rule.specs.Event.{Joined, commit_lets, may_move, after_moves, joined}
use Rattle.views.specs.Sums.{total}
use Rattle.engine_pages.specs.declared.layout.Layout.{Layout}
use Rattle.engine_pages.specs.declared.view.Copied.{Copied}
use Rattle.engine_pages.specs.declared.view.Draft.{Draft}
use Rattle.engine_pages.specs.declared.view.Filled.{Filled}
use Rattle.engine_pages.specs.declared.view.Head.{Head}
use Rattle.engine_pages.specs.declared.view.Inner.{Inner}
use Rattle.engine_pages.specs.declared.view.Known.{Known}
use Rattle.engine_pages.specs.declared.view.Lead.{Lead}
use Rattle.engine_pages.specs.declared.view.Moved.{Moved}
use Rattle.engine_pages.specs.declared.view.NewInner.{NewInner}
use Rattle.engine_pages.specs.declared.view.NewLeaf.{NewLeaf}
use Rattle.engine_pages.specs.declared.view.Role.{Role}
use Rattle.engine_pages.specs.declared.view.Role.TheVariants.{Keeper, Worker, Note, Spent}
use Rattle.engine_pages.specs.declared.view.Version.{Version}
use Rattle.engine_pages.specs.declared.view.View.{View}
use Rattle.engine_pages.specs.declared.view.Way.{Way}
use Rattle.engine_pages.specs.Layout.{slot_at}
use Rattle.engine_pages.specs.Pages.{decl_of, Fenced, IsOver, IsLaidOut, IsLaidOutFor, AreLaidOut}
use Rattle.engine_pages.specs.Resident.{Published, ArePages}
use Rattle.engine_pages.specs.Rule.{Shared, FitsPages, IsWay, IsDraft, IsCopy, IsBlank, IsLead, IsFilled}
use Rattle.engine_pages.specs.Rule.{IsKnownLeaf, IsHead, IsMoved, IsSealed, IsInner, IsNewLeaf, IsNewInner}
use Rattle.engine_pages.specs.Rule.{IsOneOf, StillLoaded}
use Rattle.engine_pages.specs.Stays.{TreesStay}
use Rattle.engine_pages.specs.Views.{IsAt, IsActive, HasNoPages, HasNoTrees, seat_number, tries, waits}
use Rattle.engine_pages.specs.Words.{ShowsSlot, is_shown, state_number}
use Rattle.engine_pages.proofs.Facing.{Deals}
use Rattle.engine_pages.proofs.Joint.{Laws, Acted, shared_now, effect_of, may_do, joint_act}
use Rattle.engine_pages.proofs.Looking.{seen_fits}
use Rattle.engine_pages.proofs.Named.{more_same}
use Rattle.engine_pages.proofs.PagesStay.{words_same}
use Rattle.engine_pages.proofs.Seats.{by_equal, put_same, put_other, at_number}
use Rattle.engine_pages.proofs.Turns.{Stride, Begins, marks_stay, tried_goes, written}
use Rattle.engine_pages.proofs.Words.{slot_shown}
use Rattle.engine_pages.specs.declared.view.Shut.{Shut}
use Rattle.engine_pages.specs.Rule.{IsShut}

-- what an act came to, told of the story, the table and the view behind it
pub acted_as : (l : Layout) (s : Shared) (p : ℕ) (j : Joined) (n : Story) (e : Table) (w : View)
    → j ≡ record { story = n; seat = w.seat; table = e; grip = w.grip } → Acted l s p j
    → Acted l s p (record { story = n; seat = w.seat; table = e; grip = w.grip })
acted_as l s p j n e w is = subst (Acted l s p) is

-- what stands of trees is as before
pub trees_same : (p : ℕ) (s : Shared) → TreesStay p s s.trees
trees_same p s = record {
  none = λ q t relied is. is;
  fence = λ q t f relied is. (f, is, refl, front_refl f.keys);
  made = λ q t few other has. refl;
  heads = λ t o held other. refl;
}

-- the view has the same part of the commits
pub record SameCommits (v w : View) : Type 0 where
  pub layout : w.layout ≡ v.layout
  pub role : w.role ≡ v.role
  pub made : w.made ≡ v.made
  pub past : w.past ≡ v.past
  pub parked : w.parked ≡ v.parked
  pub epoch : w.epoch ≡ v.epoch
  pub mine : w.mine ≡ v.mine
  pub draws : w.draws ≡ v.draws
  pub due : w.due ≡ v.due
  pub seat : w.seat ≡ v.seat
  pub checked : w.checked ≡ v.checked
  pub took : w.took ≡ v.took
  pub loaded : w.loaded ≡ v.loaded
  pub met : w.met ≡ v.met
  pub heard : w.heard ≡ v.heard
  pub history : w.history ≡ v.history
  pub decided : w.decided ≡ v.decided
  pub versions : w.versions ≡ v.versions

-- an active pass may have a part of the pages
pub active_pages : (role : Role) → IsActive role → (grip : Grip) (ways : List Way) (drafts : List Draft)
    (copies : List Copied) (blanks : List ℕ) → HasNoPages role grip ways drafts copies blanks
active_pages Keeper active grip ways drafts copies blanks = tt
active_pages (Worker w) active grip ways drafts copies blanks = tt
active_pages Note active grip ways drafts copies blanks = absurd active
active_pages Spent active grip ways drafts copies blanks = absurd active

pub active_trees : (role : Role) → IsActive role → (v : View) → HasNoTrees role v
active_trees Keeper active v = tt
active_trees (Worker w) active v = tt
active_trees Note active v = absurd active
active_trees Spent active v = absurd active

-- what the stepping view knows of pages after its step
pub record PagesNow (l : Layout) (words : List ℕ) (t : Shared) (w : View) : Type 0 where
  pub within : (u : ℕ) → has_slot w.grip.holds u ≡ true → u < l.slots
  pub ways : (x : Way) → Contains w.ways x → IsWay l t.table t.trees w.grip.holds x
  pub drafts : (x : Draft) → Contains w.drafts x → IsDraft words l.slots t.table w.grip.made x
  pub copies : (x : Copied) → Contains w.copies x
      → (t.trees x.slot ≡ None) × IsCopy l t.story t.table t.resident w.grip.made x
  pub blanks : (u : ℕ) → has_slot w.blanks u ≡ true → IsBlank l.slots t.table w.grip.made u
  pub resident : IsFront w.pages t.resident.pages
  pub leads : (x : Lead) → Contains w.leads x → IsLead t.resident x
  pub fills : (x : Filled) → Contains w.fills x → (w.role ≡ Keeper) × IsFilled l words t.resident x
  pub known : (x : Known) → Contains w.known x → IsKnownLeaf l t.table t.trees w.grip.holds x
  pub heads : (x : Head) → Contains w.heads x → IsHead l words t.table t.trees (seat_number w.role) x
  pub moved : (x : Moved) → Contains w.moved x → IsMoved l words t.table t.trees w.grip.holds x
  pub sealed : (u : ℕ) → has_slot w.sealed u ≡ true → IsSealed l t.table (seat_number w.role) u
  pub inners : (x : Inner) → Contains w.inners x → IsInner l t.table t.trees w.grip.holds x
  pub new_leaves : (x : NewLeaf) → Contains w.new_leaves x → IsNewLeaf l t.story t.table t.trees w.grip.made x
  pub new_inners : (x : NewInner) → Contains w.new_inners x
      → IsNewInner l t.table t.trees t.resident w.grip.made x
  pub shuts : (x : Shut) → Contains w.shuts x → IsShut t.table t.resident (seat_number w.role) w.grip.holds x

keeper_zero : (role : Role) → role ≡ Keeper → seat_number role ≡ 0
keeper_zero role e = ap seat_number e

pub own_pages : (l : Layout) (words words' : List ℕ) (s : Shared) (n : Story) (e : Table) (k : ℕ → Option Fenced)
    (r : Published) (v w : View) → IsActive v.role → w.role ≡ v.role → w.made ≡ v.made → FitsPages l words s v
    → PagesNow l words' (shared_now s (seat_number v.role) n e k r w) w
    → FitsPages l words' (shared_now s (seat_number v.role) n e k r w) w
own_pages l words words' s n e k r v w active role made f now =
    let p = seat_number v.role in record {
      grip = λ q at.
          let is : q ≡ p = at_number q v.role (subst (IsAt q) role at) in sym (put_same s.grips p w.grip q is);
      within = now.within;
      ways = now.ways;
      drafts = now.drafts;
      copies = now.copies;
      blanks = now.blanks;
      resident = now.resident;
      leads = now.leads;
      fills = now.fills;
      shuts = λ q at x has.
          subst (λ y. IsShut e r y w.grip.holds x) (sym (at_number q w.role at)) (now.shuts x has);
      treed = record {
        known = now.known;
        heads = λ q at x has.
            subst (λ y. IsHead l words' e k y x) (sym (at_number q w.role at)) (now.heads x has);
        moved = now.moved;
        sealed = λ q at u has.
            subst (λ y. IsSealed l e y u) (sym (at_number q w.role at)) (now.sealed u has);
        inners = now.inners;
        new_leaves = now.new_leaves;
        new_inners = now.new_inners;
        none = active_trees w.role (subst IsActive (sym role) active) w;
      };
      none = active_pages w.role (subst IsActive (sym role) active) w.grip w.ways w.drafts w.copies w.blanks;
      keepers = λ keeper worker few unmade.
          let zero-is = keeper_zero v.role (sym role ∙ keeper) in
          put_other s.grips p w.grip (suc worker) (λ e. absurd (omega arith))
          ∙ f.keepers (sym role ∙ keeper) worker few (ap (λ (z : List ℕ). total (λ y. cond (eqb y worker) 1 0) z) (sym made) ∙ unmade);
    }

-- ---- the layout of pages stays

-- the table has the same pages, headers of pages that may be read, pointers and snapshot pages
pub record SamePages (d e : Table) : Type 0 where
  pub pages : (u : ℕ) → page_of e u ≡ page_of d u
  pub pointers : (x : At) → pointer_of e x ≡ pointer_of d x
  pub snaps : e.snaps ≡ d.snaps
  pub published : e.published ≡ d.published

pub over_same : (d e : Table) (u : ℕ) (sp : Span) → SamePages d e → header_of e u ≡ header_of d u → IsOver d u sp
    → IsOver e u sp
over_same d e u sp same header over = record {
  page = same.pages u ∙ over.page;
  spans = λ j has. ap (λ (q : Pointer). q.span) (same.pointers (at_index u j)) ∙ over.spans j has;
  header = header ∙ over.header;
}

pub laid_same : (o : Option Decl) (k : ℕ → Option Fenced) (d e : Table) (u : ℕ) (sp : Span) → SamePages d e
    → header_of e u ≡ header_of d u → IsLaidOut o k d u sp → IsLaidOut o k e u sp
laid_same None k d e u sp same header over = over
laid_same (Some (Array id size)) k d e u sp same header over = (over.0, over_same d e u sp same header over.1)
laid_same (Some (Tree id)) k d e u sp same header over = over

-- published pages of the machine are the same
pub named_same : (decls : List Decl) (r : Published) (d e : Table) → SamePages d e → ArePages decls r d
    → ArePages decls r e
named_same decls r d e same h = record {
  count = same.published ∙ h.count;
  none = snap 0 ∙ h.none;
  says = λ n x at. snap (suc n) ∙ h.says n x at;
  stand = h.stand;
  below = h.below;
}
  where
    snap : (i : ℕ) → snap_of e i ≡ snap_of d i
    snap i = ap (λ (z : List (ℕ × SnapPage)). snap_of (record d { snaps = z }) i) same.snaps

-- live pointers lead to pages as before, where no slot is led to that wasn't, and those that are have their headers
pub all_laid_same : (decls : List Decl) (k : ℕ → Option Fenced) (d e : Table) → SamePages d e
    → ((u : ℕ) → is_led (slot_of e u).led ≡ true → is_led (slot_of d u).led ≡ true)
    → ((x : At) (u : ℕ) → is_live d x ≡ true → (pointer_of d x).slot ≡ Some u → header_of e u ≡ header_of d u)
    → AreLaidOut decls k d → AreLaidOut decls k e
all_laid_same decls k d e same led headers h x u live leads =
    let was-live = was_live x live in
    let was-leads : (pointer_of d x).slot ≡ Some u = ap (λ (q : Pointer). q.slot) (sym (same.pointers x)) ∙ leads in
    let span : span_at e x ≡ span_at d x = ap (λ (q : Pointer). q.span) (same.pointers x) in
    subst (λ (sp : Span). IsLaidOutFor decls k e u sp) (sym span)
    (laid_same (decl_of decls (span_at d x).storage) k d e u (span_at d x) same (headers x u was-live was-leads)
    (h x u was-live was-leads))
  where
    was_live : (x : At) → is_live e x ≡ true → is_live d x ≡ true
    was_live (Root r) live = refl
    was_live (In y) live =
        let both = and_parts (is_led (slot_of e y.slot).led) (has_pointer (page_of e y.slot) y.index) live in
        and_from (is_led (slot_of d y.slot).led) (has_pointer (page_of d y.slot) y.index) (led y.slot both.0)
        (subst (λ (z : Page). has_pointer z y.index ≡ true) (same.pages y.slot) both.1)

-- ---- the step

module _ (laws : Laws) (l : Layout) (words : List ℕ) (views : List View) (s : Shared) (id : ℕ) (v : View)
    (active : IsActive v.role) (b : Begins l words views s id v) (t : ℕ) (f : ℕ → ℕ) (act : PageAct) (w : View) where
  abbrev p : ℕ
  p = seat_number v.role

  abbrev d : Table
  d = s.table

  abbrev e : Table
  e = (page_effect p d (s.grips p) act).table

  abbrev words' : List ℕ
  words' = set words (slot_at t) (f (get_or words (slot_at t) 0))

  abbrev new : Shared
  new = shared_now s p s.story e s.trees s.resident w

  -- The act is allowed, moves no key and leaves all pages; the slot's word shows what it comes to, and so does the view.
  pub record SlotStep : Type 0 where
    pub same : SameCommits v w
    pub still : moves d act ≡ []
    pub allowed : page_allows p d (s.grips p) act ≡ true
    pub lets : commit_lets p s.story (s.seats p) d act ≡ true
    pub grip : (page_effect p d (s.grips p) act).grip ≡ w.grip
    pub few : t < l.slots
    pub this : f (get_or words (slot_at t) 0)
        ≡ (at_bit 0 (slot_of e t).passes + at_bit 16 (state_number (slot_of e t).state)) + at_bit 18 (slot_of e t).times
    pub times : (slot_of e t).times < 2 ^ 46
    pub slots : (u : ℕ) → u ≢ t → slot_of e u ≡ slot_of d u
    pub pages : SamePages d e
    pub room : e.room ≡ d.room
    pub shown : is_shown (slot_of e t).state ≡ true → is_shown (slot_of d t).state ≡ true
    pub led : is_led (slot_of e t).led ≡ true → is_led (slot_of d t).led ≡ true
    pub headers : (u : ℕ) → is_shown (slot_of e u).state ≡ true → header_of e u ≡ header_of d u
    pub leads : (x : At) (u : ℕ) → is_live d x ≡ true → (pointer_of d x).slot ≡ Some u → header_of e u ≡ header_of d u
    pub now : PagesNow l words' new w
    pub deals : Deals l words words' s p views v w

  pub slot_stride : (tells : View → ℕ → View → Type 0) → SlotStep
      → tells v (get_or words (slot_at t) 0) w → Stride l words views s p v (slot_at t) f tells
  slot_stride tells c tells-so =
      let m = s.story in
      let h = b.sound in
      let wr = written words (slot_at t) (f (get_or words (slot_at t) 0)) (let long = h.shown.long in let few = c.few in omega arith) in
      let may : may_do s p (TurnPages act) ≡ true =
      and_from (page_allows p d (s.grips p) act) (commit_lets p m (s.seats p) d act && may_move p m (s.seats p) (moves d act)) c.allowed
      (and_from (commit_lets p m (s.seats p) d act) (may_move p m (s.seats p) (moves d act)) c.lets
      (ap (may_move p m (s.seats p)) c.still)) in
      let seat : s.seats p ≡ w.seat = sym b.own.seat ∙ sym c.same.seat in
      let comes : effect_of s p (TurnPages act) ≡ record { story = m; seat = w.seat; table = e; grip = w.grip } =
      ap (λ list. joined (after_moves p m (s.seats p) list) (page_effect p d (s.grips p) act)) c.still
      ∙ (ap (λ (x : Seat). let j : Joined = record { story = m; seat = x; table = e; grip = (page_effect p d (s.grips p) act).grip } in j) seat
      ∙ ap (λ (x : Grip). let j : Joined = record { story = m; seat = w.seat; table = e; grip = x } in j) c.grip) in
      let done = acted_as l s p (effect_of s p (TurnPages act)) m e w comes
      (joint_act laws l s p (TurnPages act) b.few may h.joint) in
      let here : ShowsSlot words' (slot_at t) (slot_of e t) = record { word = wr.here ∙ c.this; times = c.times } in
      record {
        story = m;
        table = e;
        trees = s.trees;
        resident = s.resident;
        view = w;
        sound = done.sound;
        stays = done.stays;
        trees-stay = trees_same p s;
        turn = record {
          small = h.small;
          valued = h.valued;
          shown = slot_shown l words words' m d e s.trees s.resident t h.few.1 c.pages.pages
              (λ u j. c.pages.pointers (at_index u j)) (λ i. c.pages.pointers (Root i))
              record { few = c.few; long = wr.long; others = λ j other. wr.others j other; this = here; slots = c.slots; shown = c.shown; headers = c.headers }
              h.shown;
          marks = marks_stay words words' s.seats p v.seat w.seat h.marks b.own.seat (ap (λ (x : Seat). x.marks) c.same.seat)
              (λ j lo hi. wr.others j (λ e. absurd (omega arith)));
          marked = λ place mark has. subst (λ (x : Seat). slice_get x.marks place ≡ Some mark) (sym c.same.seat) has;
          marks_low = subst (λ (x : Seat). last_marked x.marks < m.epoch) seat (h.marked p);
          drawn = λ a has. inl has;
          tried = tried_goes m m s.seats p v.seat w.seat b.own.seat refl refl refl (inl (ap (λ (x : Seat). x.stage) c.same.seat)) h.tried;
          fits = seen_fits l m s.seats v w active b.fits c.same.layout c.same.role c.same.made c.same.past c.same.parked c.same.epoch
              c.same.mine c.same.due c.same.seat c.same.checked c.same.took
              (subst (λ o. IfSome o (StillLoaded m.history m.decided m.places v.seat.kept)) (sym c.same.loaded) b.fits.loaded)
              c.same.met c.same.heard
              (subst (λ (y : List Version). (x : Version) → Contains y x → IsOneOf l.decls l.opening m.history x)
              (sym c.same.versions) b.fits.versions)
              (subst (λ (x : List Attempt). IsFront v.history x) (sym c.same.history) (front_refl v.history))
              (subst (λ (x : List Number). IsFront v.decided x) (sym c.same.decided) (front_refl v.decided))
              (subst (λ (x : List Attempt). IsFront x m.history) (sym c.same.history) b.fits.history)
              (subst (λ (x : List Number). IsFront x m.decided) (sym c.same.decided) b.fits.decided);
          role = c.same.role;
          made = c.same.made;
          mine = λ k. ap (λ (x : List Attempt). total (λ a. k a.number) x + total k m.decided) c.same.mine;
          drew = ap (λ x. x + length m.history) c.same.draws;
          few = let same : tries w ≡ tries v = ap (λ (x : Seat). cond (is_trying x.stage) 1 0) c.same.seat in omega arith;
          room = let same : waits w ≡ waits v = ap (λ (x : Bool). cond x 1 0) c.same.due in let room = h.sums.room in omega arith;
          deals = c.deals;
          slots = c.room;
          within = h.within;
          more = more_same s.resident;
          unpublished = λ other. refl;
          named = named_same l.decls s.resident d e c.pages h.named;
          laid_out = all_laid_same l.decls s.trees d e c.pages
              (λ u led. by_equal u t (λ k. is_led (slot_of e k).led ≡ true → is_led (slot_of d k).led ≡ true) c.led
              (λ other now. ap (λ (x : Slot). is_led x.led) (sym (c.slots u other)) ∙ now) led)
              c.leads h.laid_out;
          pages = own_pages l words words' s m e s.trees s.resident v w active c.same.role c.same.made b.pages c.now;
          frame = words_same l words words' s p (λ j low. wr.others j (λ e. let few = c.few in absurd (omega arith)));
        };
        tells-so = tells-so;
      }
