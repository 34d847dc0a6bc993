-- Steps that are no act: the word stays, and the view may know more.
use Rattle.std.proofs.Common.{◌≡◌, ℕ, ◌+◌, ◌^◌, ◌<◌, Bool, cond, inl, List, length, get_or, set, refl}
use Rattle.std.proofs.Common.{sym, ap, ◌∙◌, subst, arith, IfSome, Some}
use Rattle.std.specs.List.{Contains, slice_get}
use Rattle.atomic_table.specs.Table.{Me, Allows}
use Rattle.lists.specs.Fronts.{IsFront, front_refl}
use Rattle.serial_model.specs.declared.number.Number.{Number}
use Rattle.commit_core.specs.declared.attempt.Attempt.{Attempt}
use Rattle.commit_core.specs.declared.seat.Seat.{Seat}
use Rattle.commit_core.specs.CoreState.{is_trying, last_marked}
use Rattle.drop_core.specs.declared.grip.Grip.{Grip}
use Rattle.engine_rule.specs.JointState.{JointState}
use Rattle.engine_rule.specs.Sound.{IsSound}
use Rattle.engine_rule.specs.Stays.{Stays}
use Rattle.views.specs.Sums.{total}
use Rattle.engine_pages.specs.declared.layout.Layout.{Layout}
use Rattle.engine_pages.specs.declared.view.Version.{Version}
use Rattle.engine_pages.specs.declared.view.View.{View}
use Rattle.engine_pages.specs.Layout.{slot_at}
use Rattle.engine_pages.specs.Rule.{Shared, all_seats, joint_of, Fits, FitsPages, IsOneOf, StillLoaded, Shows}
use Rattle.engine_pages.specs.Slots.{looked_at}
use Rattle.engine_pages.specs.Views.{IsActive, seat_number, tries, waits}
use Rattle.engine_pages.specs.Words.{ShowsWords}
use Rattle.views.specs.ByNumber.{put_at}
use Rattle.engine_pages.proofs.EachSeat.{same_seats}
use Rattle.engine_pages.proofs.Dealing.{rests_all}
use Rattle.engine_pages.proofs.Facing.{Deals}
use Rattle.engine_pages.proofs.Joint.{Laws, shared_now, stays_none}
use Rattle.engine_pages.proofs.Looking.{seen_fits}
use Rattle.engine_pages.proofs.Named.{more_same}
use Rattle.engine_pages.proofs.PagesStay.{words_same}
use Rattle.engine_pages.proofs.Seats.{put_seat, is_at}
use Rattle.engine_pages.proofs.SlotSteps.{SameCommits, PagesNow, own_pages, trees_same}
use Rattle.engine_pages.proofs.Turns.{Stride, Begins, allows_at, marks_stay, tried_goes, unwritten}

-- the state with what is there put again
pub same_joint : (l : Layout) (s : Shared) (p : ℕ) (w : View) → w.seat ≡ s.seats p → w.grip ≡ s.grips p
    → joint_of l (shared_now s p s.story s.table s.trees s.resident w) ≡ joint_of l s
same_joint l s p w seat grip =
    ap (λ (x : List Seat). let c : JointState = record { commits = record { opening = l.opening; story = s.story; seats = x }; pages = record { table = s.table; grips = all_seats (put_at s.grips p w.grip) } } in c)
    (same_seats s.seats p w.seat seat)
    ∙ ap (λ (x : List Grip). let c : JointState = record { commits = record { opening = l.opening; story = s.story; seats = all_seats s.seats }; pages = record { table = s.table; grips = x } } in c)
    (same_seats s.grips p w.grip grip)

module _ (l : Layout) (words : List ℕ) (views : List View) (s : Shared) (id : ℕ) (v : View) (active : IsActive v.role)
    (b : Begins l words views s id v) (i : ℕ) (f : ℕ → ℕ) (w : View) where
  -- The view keeps its seat and its part of the pages' machine, and may know more.
  pub record LoadStep : Type 0 where
    pub role : w.role ≡ v.role
    pub made : w.made ≡ v.made
    pub seat : w.seat ≡ v.seat
    pub grip : w.grip ≡ v.grip
    pub mine : w.mine ≡ v.mine
    pub draws : w.draws ≡ v.draws
    pub fits : Fits l s.story (put_seat s.seats (seat_number v.role) w.seat) w
    pub room : ((s.story.first_draw + length s.story.history) + total waits views) + waits w < 2 ^ 40 + waits v
    pub now : PagesNow l words (shared_now s (seat_number v.role) s.story s.table s.trees s.resident w) w
    pub deals : Deals l words words s (seat_number v.role) views v w

  -- a load that is no act
  pub load_stride : (tells : View → ℕ → View → Type 0) → f (get_or words i 0) ≡ get_or words i 0 → LoadStep
      → tells v (get_or words i 0) w → Stride l words views s (seat_number v.role) v i f tells
  load_stride tells keeps c tells-so =
      let m = s.story in
      let d = s.table in
      let h = b.sound in
      let p = seat_number v.role in
      let words' = set words i (f (get_or words i 0)) in
      let unchanged : words' ≡ words = ap (set words i) keeps ∙ unwritten words i in
      let seat : s.seats p ≡ w.seat = sym b.own.seat ∙ sym c.seat in
      let joint = same_joint l s p w (sym seat) (c.grip ∙ b.grip) in
      record {
        story = m;
        table = d;
        trees = s.trees;
        resident = s.resident;
        view = w;
        sound = subst IsSound (sym joint) h.joint;
        stays = subst (Stays p (joint_of l s)) (sym joint) (stays_none p (joint_of l s));
        trees-stay = trees_same p s;
        turn = record {
          small = h.small;
          valued = h.valued;
          shown = subst (λ (x : List ℕ). ShowsWords l x m d s.trees s.resident) (sym unchanged) h.shown;
          marks = marks_stay words words' s.seats p v.seat w.seat h.marks b.own.seat (ap (λ (x : Seat). x.marks) c.seat)
              (λ j lo hi. ap (λ (x : List ℕ). get_or x j 0) unchanged);
          marked = λ place mark has. subst (λ (x : Seat). slice_get x.marks place ≡ Some mark) (sym c.seat) has;
          marks_low = subst (λ (x : Seat). last_marked x.marks < m.epoch) seat (h.marked p);
          drawn = λ a has. inl has;
          tried = tried_goes m m s.seats p v.seat w.seat b.own.seat refl refl refl (inl (ap (λ (x : Seat). x.stage) c.seat)) h.tried;
          fits = c.fits;
          role = c.role;
          made = c.made;
          mine = λ k. ap (λ (x : List Attempt). total (λ a. k a.number) x + total k m.decided) c.mine;
          drew = ap (λ x. x + length m.history) c.draws;
          few = let same : tries w ≡ tries v = ap (λ (x : Seat). cond (is_trying x.stage) 1 0) c.seat in omega arith;
          room = c.room;
          deals = subst (λ (x : List ℕ). Deals l words x s p views v w) (sym unchanged) c.deals;
          slots = refl;
          within = h.within;
          more = more_same s.resident;
          unpublished = λ other. refl;
          named = h.named;
          laid_out = h.laid_out;
          pages = subst (λ (x : List ℕ). FitsPages l x (shared_now s p m d s.trees s.resident w) w) (sym unchanged)
              (own_pages l words words s m d s.trees s.resident v w active c.role c.made b.pages c.now);
          frame = words_same l words words' s p (λ j low. ap (λ (x : List ℕ). get_or x j 0) unchanged);
        };
        tells-so = tells-so;
      }

  -- where no draw is due that wasn't, there is room as before
  pub room_same : w.due ≡ v.due
      → ((s.story.first_draw + length s.story.history) + total waits views) + waits w < 2 ^ 40 + waits v
  room_same due =
      let c : waits w ≡ waits v = ap (λ (x : Bool). cond x 1 0) due in
      let room = b.sound.sums.room in omega arith

  -- a load that tells nothing of commits
  pub look_stride : (tells : View → ℕ → View → Type 0) → f (get_or words i 0) ≡ get_or words i 0 → SameCommits v w
      → w.grip ≡ v.grip → PagesNow l words (shared_now s (seat_number v.role) s.story s.table s.trees s.resident w) w
      → Deals l words words s (seat_number v.role) views v w → tells v (get_or words i 0) w
      → Stride l words views s (seat_number v.role) v i f tells
  look_stride tells keeps same grip now deals tells-so =
      let m = s.story in
      load_stride tells keeps record {
        role = same.role;
        made = same.made;
        seat = same.seat;
        grip = grip;
        mine = same.mine;
        draws = same.draws;
        fits = seen_fits l m s.seats v w active b.fits same.layout same.role same.made same.past same.parked same.epoch
            same.mine same.due same.seat same.checked same.took
            (subst (λ o. IfSome o (StillLoaded m.history m.decided m.places v.seat.kept)) (sym same.loaded) b.fits.loaded)
            same.met same.heard
            (subst (λ (y : List Version). (x : Version) → Contains y x → IsOneOf l.decls l.opening m.history x)
            (sym same.versions) b.fits.versions)
            (subst (λ (x : List Attempt). IsFront v.history x) (sym same.history) (front_refl v.history))
            (subst (λ (x : List Number). IsFront v.decided x) (sym same.decided) (front_refl v.decided))
            (subst (λ (x : List Attempt). IsFront x m.history) (sym same.history) b.fits.history)
            (subst (λ (x : List Number). IsFront x m.decided) (sym same.decided) b.fits.decided);
        room = room_same same.due;
        now = now;
        deals = deals;
      } tells-so

-- ---- the word of a slot is looked at

pub looks : Laws → (l : Layout) (slots id : ℕ) (me : Me (Unit {0}) View) (t : ℕ) → IsActive me.0.role
    → Allows (λ s. Shows l s.words s.views) slots id me (slot_at t) (λ k. k)
    (λ k now. (now.1 ≡ me.1) × (now.0 ≡ looked_at t k me.0))
looks laws l slots id me t active =
    allows_at laws l slots id me (slot_at t) (λ k. k) (λ v k w. w ≡ looked_at t k v) active
    (λ words views s b.
    let v = me.0 in
    let w = looked_at t (get_or words (slot_at t) 0) v in
    look_stride l words views s id v active b (slot_at t) (λ k. k) w
    (λ v k w. w ≡ looked_at t k v) refl
    record { layout = refl; role = refl; made = refl; past = refl; parked = refl; epoch = refl; mine = refl; draws = refl; due = refl; seat = refl; checked = refl; took = refl; loaded = refl; met = refl; heard = refl; history = refl; decided = refl; versions = refl }
    refl
    record {
      within = b.pages.within;
      ways = b.pages.ways;
      drafts = b.pages.drafts;
      copies = b.pages.copies;
      blanks = b.pages.blanks;
      resident = b.pages.resident;
      leads = b.pages.leads;
      fills = b.pages.fills;
      known = b.pages.treed.known;
      heads = b.pages.treed.heads (seat_number v.role) (is_at v.role active);
      moved = b.pages.treed.moved;
      sealed = b.pages.treed.sealed (seat_number v.role) (is_at v.role active);
      inners = b.pages.treed.inners;
      new_leaves = b.pages.treed.new_leaves;
      new_inners = b.pages.treed.new_inners;
      shuts = b.pages.shuts (seat_number v.role) (is_at v.role active);
    }
    (rests_all l words views s id v b w
    record { role = refl; ways = refl; took = refl; gone = refl; touched = refl; blamed = refl; locks = refl } refl)
    refl)
