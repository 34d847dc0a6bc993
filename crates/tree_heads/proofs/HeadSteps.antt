-- Steps at a word of one leaf of a tree that change no attempt: what all of them have in common.
use Rattle.std.proofs.Common.{◌≡◌, ◌≢◌, ◌⊎◌, inl, ℕ, suc, ◌+◌, ◌*◌, ◌<◌, ◌≤◌, Bool, true, false, cond, List, [], length}
use Rattle.std.proofs.Common.{get_or, set, refl, sym, ap, ◌∙◌, subst, arith, Option, Some, IfSome, eq-eqb, ne_eqb}
use Rattle.std.specs.Prelude.{◌&&◌, ◌||◌, nat_le}
use Rattle.std.specs.List.{Contains, slice_get}
use Rattle.std.proofs.lemmas.Bool.{and_from}
use Rattle.std.proofs.lemmas.Bool.Decides.{nat_tests}
use Rattle.std.proofs.lemmas.Option.{slice_get_within}
use Rattle.lists.specs.Fronts.{IsFront, front_refl}
use Rattle.serial_model.specs.declared.number.Number.{Number}
use Rattle.homes.specs.declared.places.Holder.{Holder}
use Rattle.homes.specs.declared.places.Holder.TheVariants.{Held}
use Rattle.commit_core.specs.declared.attempt.Attempt.{Attempt}
use Rattle.commit_core.specs.declared.seat.Seat.{Seat}
use Rattle.commit_core.specs.declared.story.Story.{Story}
use Rattle.commit_core.specs.CoreState.{clock_of, is_trying, last_marked}
use Rattle.drop_core.specs.declared.event.Act.{Act as PageAct}
use Rattle.drop_core.specs.declared.grip.Grip.{Grip}
use Rattle.drop_core.specs.declared.table.Page.TheVariants.{Leaf}
use Rattle.drop_core.specs.declared.table.SnapPage.{SnapPage}
use Rattle.drop_core.specs.declared.table.Table.{Table}
use Rattle.drop_core.specs.Event.{Turned, is_allowed as page_allows, effect as page_effect, moves, turned, with_header}
use Rattle.drop_core.specs.Table.{header_of, page_of, snap_of}
use Rattle.engine_rule.specs.declared.event.JointAct.TheVariants.{Turn as TurnPages}
use Rattle.engine_rule.specs.Event.{Joined, after_moves, commit_lets, joined, may_move}
use Rattle.engine_rule.specs.Sound.{IsSound}
use Rattle.engine_rule.specs.Stays.{Stays}
use Rattle.views.specs.Sums.{total}
use Rattle.engine_pages.specs.declared.layout.Layout.{Layout}
use Rattle.engine_pages.specs.declared.view.Head.{Head}
use Rattle.engine_pages.specs.declared.view.Known.{Known}
use Rattle.engine_pages.specs.declared.view.Read.{Read}
use Rattle.engine_pages.specs.declared.view.Version.{Version}
use Rattle.engine_pages.specs.declared.view.View.{View}
use Rattle.engine_pages.specs.Layout.{page_at}
use Rattle.engine_pages.specs.Pages.{Fenced}
use Rattle.engine_pages.specs.Resident.{ArePages}
use Rattle.engine_pages.specs.Rule.{Shared, joint_of, Fits, IsHead, IsKnownLeaf, IsOneOf, StillLoaded, WriteValues, is_spare}
use Rattle.engine_pages.specs.Stays.{IsKnown, TreesStay}
use Rattle.engine_pages.specs.Views.{IsActive, owns, seat_number, tries, waits}
use Rattle.engine_pages.specs.Words.{IsSmall, head_word, lock_field}
use Rattle.engine_pages.proofs.Dealing.{SameLocks}
use Rattle.engine_pages.proofs.Joint.{Laws, effect_of, joint_act, may_do, shared_now}
use Rattle.engine_pages.proofs.Looking.{seen_fits}
use Rattle.engine_pages.proofs.Named.{more_same}
use Rattle.engine_pages.proofs.Seats.{put_seat}
use Rattle.engine_pages.proofs.SlotSteps.{SameCommits, acted_as, own_pages, trees_same}
use Rattle.engine_pages.proofs.Turns.{Begins, Stride, Written, marks_stay, tried_goes}
use Rattle.tree_heads.proofs.LeafSteps.{LeafStep, SamePart, IsMetHere, leaf_deals, leaf_frame, leaf_laid, leaf_now}
use Rattle.tree_heads.proofs.LeafSteps.{owned_apart, page_step_words}
use Rattle.tree_heads.proofs.TreeAt.{Says, SaysOf, SaysRecords}

-- published pages of the machine are the same
pub pages_named : (l : Layout) (s : Shared) (e : Table) → e.snaps ≡ s.table.snaps → e.published ≡ s.table.published
    → ArePages l.decls s.resident s.table → ArePages l.decls s.resident e
pages_named l s e snaps published h = record {
  count = published ∙ h.count;
  none = snap 0 ∙ h.none;
  says = λ n x at. snap (suc n) ∙ h.says n x at;
  stand = h.stand;
  below = h.below;
}
  where
    snap : (i : ℕ) → snap_of e i ≡ snap_of s.table i
    snap i = ap (λ (z : List (ℕ × SnapPage)). snap_of (record s.table { snaps = z }) i) snaps

-- the views have the same commits and the same marks
pub record SameSeat (v w : View) : Type 0 where
  pub role : w.role ≡ v.role
  pub made : w.made ≡ v.made
  pub mine : w.mine ≡ v.mine
  pub draws : w.draws ≡ v.draws
  pub due : w.due ≡ v.due
  pub marks : w.seat.marks ≡ v.seat.marks
  pub stage : w.seat.stage ≡ v.seat.stage

module _ (laws : Laws) (l : Layout) (words : List ℕ) (views : List View) (s : Shared) (id : ℕ) (v : View)
    (active : IsActive v.role) (b : Begins l words views s id v) (t i : ℕ) (f : ℕ → ℕ) (n : Story) (e : Table)
    (k : ℕ → Option Fenced) (w : View) where
  abbrev p : ℕ
  p = seat_number v.role

  abbrev at : ℕ
  at = page_at l.slots t i

  abbrev words' : List ℕ
  words' = set words at (f (get_or words at 0))

  abbrev new : Shared
  new = shared_now s p n e k s.resident w

  -- The machines allow the step, and words and view show what it comes to: a leaf of a tree changes.
  pub record HeadStep : Type 0 where
    pub leaf : LeafStep l words words' s n e k t i
    pub sound : IsSound (joint_of l new)
    pub stays : Stays p (joint_of l s) (joint_of l new)
    pub trees-stay : TreesStay p s k
    pub fits : Fits l n (put_seat s.seats p w.seat) w
    pub seat : SameSeat v w
    pub part : SamePart v w
    pub locks : SameLocks v w
    pub met : (x : Read) → Contains w.reads x
        → Contains v.reads x ⊎ IsMetHere l v t x
    pub spare : (q : ℕ) → header_of s.table t ≡ Held q → q ≢ p → is_spare (length (leaf.keys)) i ≡ true → ⊥
    pub knows : (x : Known) → Contains w.known x → IsKnownLeaf l e k v.grip.holds x
    pub heads : (x : Head) → Contains w.heads x → IsHead l words' e k p x

  pub head_stride : (tells : View → ℕ → View → Type 0) → HeadStep → tells v (get_or words at 0) w
      → Stride l words views s p v at f tells
  head_stride tells c tells-so =
      let m = s.story in
      let h = b.sound in
      let leaf = c.leaf in
      let st = leaf.page.story in
      let same = c.seat in
      let others = leaf.page.others in
      let clock : clock_of n.first_draw n.epoch n.history ≡ clock_of m.first_draw m.epoch m.history =
      ap (λ z. clock_of z n.epoch n.history) st.first_draw
      ∙ (ap (λ z. clock_of m.first_draw z n.history) st.epoch ∙ ap (λ (z : List Attempt). clock_of m.first_draw m.epoch z) st.history) in
      record {
        story = n;
        table = e;
        trees = k;
        resident = s.resident;
        view = w;
        sound = c.sound;
        stays = c.stays;
        trees-stay = c.trees-stay;
        turn = record {
          small = record {
            first = h.small.first;
            drawn = λ a has. h.small.drawn a (subst (λ (x : List Attempt). Contains x a) st.history has);
            clock = subst IsSmall (sym clock) h.small.clock;
          };
          valued = subst (WriteValues l.decls) (sym st.history) h.valued;
          shown = page_step_words l words words' s n e k t i leaf.page h.few.1 h.shown;
          marks = marks_stay words words' s.seats p v.seat w.seat h.marks b.own.seat same.marks
              (λ j lo hi. others j (λ q. absurd (omega arith)));
          marked = λ place mark has. ap (λ z. slice_get z place) same.marks ∙ has;
          marks_low =
              subst (λ x. last_marked x < n.epoch) (sym same.marks)
              (subst (λ y. last_marked v.seat.marks < y) (sym st.epoch)
              (subst (λ (x : Seat). last_marked x.marks < m.epoch) (sym b.own.seat) (h.marked p)));
          drawn = λ a has. inl (subst (λ (x : List Attempt). Contains x a) st.history has);
          tried = tried_goes m n s.seats p v.seat w.seat b.own.seat st.history st.decided st.given_up (inl same.stage) h.tried;
          fits = c.fits;
          role = same.role;
          made = same.made;
          mine = λ y.
              ap (λ (x : List Attempt). total (λ a. y a.number) x + total y m.decided) same.mine
              ∙ ap (λ (x : List Number). owns y v + total y x) (sym st.decided);
          drew = ap (λ x. x + length m.history) same.draws ∙ ap (λ (x : List Attempt). v.draws + length x) (sym st.history);
          few =
              let tried : tries w ≡ tries v = ap (λ x. cond (is_trying x) 1 0) same.stage in
              let x : length n.history ≡ length m.history = ap (λ (z : List Attempt). length z) st.history in
              let y : length n.decided ≡ length m.decided = ap (λ (z : List Number). length z) st.decided in omega arith;
          room =
              let due : waits w ≡ waits v = ap (λ (x : Bool). cond x 1 0) same.due in
              let x : length n.history ≡ length m.history = ap (λ (z : List Attempt). length z) st.history in
              let y = st.first_draw in let room = h.sums.room in omega arith;
          deals = leaf_deals laws l words words' views s id v active b n e k t i leaf w c.locks c.met;
          slots = leaf.room;
          within = h.within;
          more = more_same s.resident;
          unpublished = λ other. refl;
          named = pages_named l s e leaf.snaps leaf.published h.named;
          laid_out = leaf_laid l words words' s n e k t i leaf h.laid_out;
          pages = own_pages l words words' s n e k s.resident v w active same.role same.made b.pages
              (leaf_now laws l words words' views s id v active b n e k t i leaf w c.part same.role c.knows c.heads);
          frame = leaf_frame l words words' s n e k t i leaf p
              (λ u owned. owned_apart laws l words words' views s id v active b n e k t i leaf w u owned) c.spare;
        };
        tells-so = tells-so;
      }

-- ---- a leaf of which the machines change nothing

pub same_leaf : (l : Layout) (words words' : List ℕ) (s : Shared) (t i : ℕ) → t < l.slots → i < 64
    → length words' ≡ length words → ((j : ℕ) → j ≢ page_at l.slots t i → get_or words' j 0 ≡ get_or words j 0)
    → IsKnown s.table t → (f : Fenced) → s.trees t ≡ Some f → page_of s.table t ≡ Leaf f.keys
    → Says l words' s t f (page_of s.table t) → LeafStep l words words' s s.story s.table s.trees t i
same_leaf l words words' s t i few index long others known f there leaf shows = record {
  page = record {
    few = few;
    index = index;
    long = long;
    others = others;
    story = record { history = refl; decided = refl; given_up = refl; first_draw = refl; epoch = refl };
    roots = λ r. refl;
    passes = λ u. refl;
    state = λ u. refl;
    times = λ u. refl;
    pages = λ u other. refl;
    headers = λ u other. refl;
    pointers = λ u j other. refl;
    places = λ u j other. refl;
    treed = λ u other. refl;
    fence = f;
    there = there;
    here = λ _. shows;
  };
  known = known;
  keys = f.keys;
  leaf = leaf;
  old = f;
  was = there;
  span = refl;
  front = front_refl f.keys;
  grown = f.keys;
  still = leaf;
  slots = λ u. refl;
  pointers = λ y. refl;
  snaps = refl;
  published = refl;
  room = refl;
}

-- ---- the records of a leaf, where another word of its page changes

-- no record or fence stands at this index
pub record IsBeside (count i : ℕ) : Type 0 where
  pub low : i ≢ 1
  pub high : i ≢ 2
  pub key : (j : ℕ) → j < count → i ≢ 16 + 3 * j
  pub word : (j : ℕ) → j < count → i ≢ 17 + 3 * j
  pub value : (j : ℕ) → j < count → i ≢ 18 + 3 * j

pub records_beside : (l : Layout) (words words' : List ℕ) (s : Shared) (t i : ℕ) (f : Fenced) → i < 64
    → IsBeside (length f.keys) i
    → ((j : ℕ) → j ≢ page_at l.slots t i → get_or words' j 0 ≡ get_or words j 0) → SaysRecords l words s t f
    → SaysRecords l words' s t f
records_beside l words words' s t i f index beside others r = record {
  low = others (page_at l.slots t 1) (λ q. beside.low (omega arith)) ∙ r.low;
  high = others (page_at l.slots t 2) (λ q. beside.high (omega arith)) ∙ r.high;
  few = r.few;
  once = r.once;
  inside = r.inside;
  keys = λ j k is.
      let was = r.keys j k is in
      let less : j < length f.keys = slice_get_within f.keys j k is in record {
        key = others (page_at l.slots t (16 + 3 * j)) (λ q. beside.key j less (omega arith)) ∙ was.key;
        absent = was.absent;
        word = others (page_at l.slots t (16 + 3 * j) + 1) (λ q. beside.word j less (omega arith)) ∙ was.word;
        bit = was.bit;
        value = others (page_at l.slots t (16 + 3 * j) + 2) (λ q. beside.value j less (omega arith)) ∙ was.value;
        small = was.small;
      };
}

pub header_beside : (count : ℕ) → IsBeside count 0
header_beside count = record {
  low = λ q. absurd (omega arith);
  high = λ q. absurd (omega arith);
  key = λ j less q. absurd (omega arith);
  word = λ j less q. absurd (omega arith);
  value = λ j less q. absurd (omega arith);
}

-- the header is no word that is spare
pub spare_high : (count j : ℕ) → is_spare count j ≡ true → 3 ≤ j
spare_high count j is = by_test (nat_le 3 j) refl
  where
    by_test : (c : Bool) → nat_le 3 j ≡ c → 3 ≤ j
    by_test true e = grind (arith, nat_tests)
    by_test false e =
        let rest : nat_le (16 + 3 * count) j ≡ true = sym (ap (λ c. (c && nat_le j 5) || nat_le (16 + 3 * count) j) e) ∙ is in
        absurd (grind (arith, nat_tests))

-- ---- the header is turned: locked, or opened as it was

module _ (laws : Laws) (l : Layout) (words : List ℕ) (views : List View) (s : Shared) (id : ℕ) (v : View)
    (active : IsActive v.role) (b : Begins l words views s id v) (t : ℕ) (f : ℕ → ℕ) (act : PageAct) (h' : Holder)
    (w : View) where
  abbrev q : ℕ
  q = seat_number v.role

  abbrev here : ℕ
  here = page_at l.slots t 0

  abbrev d : Table
  d = s.table

  abbrev e' : Table
  e' = with_header d t h'

  abbrev now : List ℕ
  now = set words here (f (get_or words here 0))

  -- The act turns the header of a leaf alone, and the word shows who holds it then.
  pub record HeaderTurn : Type 0 where
    pub same : SameCommits v w
    pub part : SamePart v w
    pub locks : SameLocks v w
    pub still : moves d act ≡ []
    pub effect : page_effect q d (s.grips q) act ≡ turned e' (s.grips q)
    pub allowed : page_allows q d (s.grips q) act ≡ true
    pub lets : commit_lets q s.story (s.seats q) d act ≡ true
    pub within : t < l.slots
    pub known : IsKnown d t
    pub fence : Fenced
    pub there : s.trees t ≡ Some fence
    pub leaf : page_of d t ≡ Leaf fence.keys
    pub word : f (get_or words here 0) ≡ head_word (length fence.keys) 1 (lock_field h') false
    pub records : SaysRecords l words s t fence

  header_now : header_of e' t ≡ h'
  header_now = ap (λ (y : Bool). cond y h' (header_of d t)) (eq-eqb t t refl)

  pub header_other : (u : ℕ) → u ≢ t → header_of e' u ≡ header_of d u
  header_other u other = ap (λ (y : Bool). cond y h' (header_of d u)) (ne_eqb t u (λ z. other (sym z)))

  pub turn_leaf : HeaderTurn → Written words now here (f (get_or words here 0)) → LeafStep l words now s s.story e' s.trees t 0
  turn_leaf c wr = record {
    page = record {
      few = c.within;
      index = omega arith;
      long = wr.long;
      others = wr.others;
      story = record { history = refl; decided = refl; given_up = refl; first_draw = refl; epoch = refl };
      roots = λ r. refl;
      passes = λ u. refl;
      state = λ u. refl;
      times = λ u. refl;
      pages = λ u other. refl;
      headers = header_other;
      pointers = λ u j other. refl;
      places = λ u j other. refl;
      treed = λ u other. refl;
      fence = c.fence;
      there = c.there;
      here = λ _.
          subst (SaysOf l now s.resident.places s.story e' t c.fence) (sym c.leaf) (
            refl,
            wr.here ∙ (c.word ∙ ap (λ x. head_word (length c.fence.keys) 1 (lock_field x) false) (sym header_now)),
            records_beside l words now s t 0 c.fence (omega arith) (header_beside (length c.fence.keys)) wr.others c.records,
          );
    };
    known = c.known;
    keys = c.fence.keys;
    leaf = c.leaf;
    old = c.fence;
    was = c.there;
    span = refl;
    front = front_refl c.fence.keys;
    grown = c.fence.keys;
    still = c.leaf;
    slots = λ u. refl;
    pointers = λ y. refl;
    snaps = refl;
    published = refl;
    room = refl;
  }

  pub header_stride : (tells : View → ℕ → View → Type 0) → (c : HeaderTurn)
      → (wr : Written words now here (f (get_or words here 0)))
      → ((x : Read) → Contains w.reads x
      → Contains v.reads x ⊎ IsMetHere l v t x)
      → ((x : Known) → Contains w.known x → IsKnownLeaf l e' s.trees v.grip.holds x)
      → ((x : Head) → Contains w.heads x → IsHead l now e' s.trees q x)
      → tells v (get_or words here 0) w → Stride l words views s q v here f tells
  header_stride tells c wr met knows heads tells-so =
      let m = s.story in
      let may : may_do s q (TurnPages act) ≡ true =
      and_from (page_allows q d (s.grips q) act) (commit_lets q m (s.seats q) d act && may_move q m (s.seats q) (moves d act)) c.allowed
      (and_from (commit_lets q m (s.seats q) d act) (may_move q m (s.seats q) (moves d act)) c.lets
      (ap (may_move q m (s.seats q)) c.still)) in
      let seat : s.seats q ≡ w.seat = sym b.own.seat ∙ sym c.same.seat in
      let grip : s.grips q ≡ w.grip = sym b.grip ∙ sym c.part.grip in
      let comes : effect_of s q (TurnPages act) ≡ record { story = m; seat = w.seat; table = e'; grip = w.grip } =
      ap (λ list. joined (after_moves q m (s.seats q) list) (page_effect q d (s.grips q) act)) c.still
      ∙ (ap (λ (y : Turned). let j : Joined = record { story = m; seat = s.seats q; table = y.table; grip = y.grip } in j) c.effect
      ∙ (ap (λ (x : Seat). let j : Joined = record { story = m; seat = x; table = e'; grip = s.grips q } in j) seat
      ∙ ap (λ (x : Grip). let j : Joined = record { story = m; seat = w.seat; table = e'; grip = x } in j) grip)) in
      let done = acted_as l s q (effect_of s q (TurnPages act)) m e' w comes
      (joint_act laws l s q (TurnPages act) b.few may b.sound.joint) in
      head_stride laws l words views s id v active b t 0 f m e' s.trees w tells record {
        leaf = turn_leaf c wr;
        sound = done.sound;
        stays = done.stays;
        trees-stay = trees_same q s;
        fits = seen_fits l m s.seats v w active b.fits c.same.layout c.same.role c.same.made c.same.past c.same.parked c.same.epoch
            c.same.mine c.same.due c.same.seat c.same.checked c.same.took
            (subst (λ o. IfSome o (StillLoaded m.history m.decided m.places v.seat.kept)) (sym c.same.loaded) b.fits.loaded)
            c.same.met c.same.heard
            (subst (λ (y : List Version). (x : Version) → Contains y x → IsOneOf l.decls l.opening m.history x)
            (sym c.same.versions) b.fits.versions)
            (subst (λ (x : List Attempt). IsFront v.history x) (sym c.same.history) (front_refl v.history))
            (subst (λ (x : List Number). IsFront v.decided x) (sym c.same.decided) (front_refl v.decided))
            (subst (λ (x : List Attempt). IsFront x m.history) (sym c.same.history) b.fits.history)
            (subst (λ (x : List Number). IsFront x m.decided) (sym c.same.decided) b.fits.decided);
        seat = record {
          role = c.same.role;
          made = c.same.made;
          mine = c.same.mine;
          draws = c.same.draws;
          due = c.same.due;
          marks = ap (λ (x : Seat). x.marks) c.same.seat;
          stage = ap (λ (x : Seat). x.stage) c.same.seat;
        };
        part = c.part;
        locks = c.locks;
        met = met;
        spare = λ o held other is.
            let high = spare_high (length (turn_leaf c wr).keys) 0 is in absurd (omega (arith, high));
        knows = knows;
        heads = heads;
      }
      tells-so
