-- Loads of pointers: one that leads to no slot is seen, and kept; any other one is followed.
use Rattle.std.proofs.Common.{◌≡◌, inl, inr, ℕ, zero, suc, ◌+◌, ◌/◌, ◌^◌, ◌<◌, ◌≤◌, Bool, true, false, not, ltb, List, length}
use Rattle.std.proofs.Common.{get_or, set, filter, refl, sym, ap, ◌∙◌, subst, arith, Some, None}
use Rattle.std.specs.Prelude.{◌&&◌, MatchBool, is_none}
use Rattle.std.proofs.lemmas.Bool.{and_from}
use Rattle.std.proofs.lemmas.Bool.Decides.{nat_tests}
use Rattle.atomic_table.specs.Table.{Me, Allows}
use Rattle.lists.specs.Elements.{in_cases, in_push_cases, in_filter}
use Rattle.lists.specs.Fronts.{front_refl}
use Rattle.serial_model.specs.declared.decl.Decl.{Decl}
use Rattle.serial_model.specs.declared.key.Key.{Key}
use Rattle.serial_model.specs.declared.number.Number.{Number}
use Rattle.homes.specs.declared.places.At.{At}
use Rattle.homes.specs.declared.places.At.TheVariants.{Root, In}
use Rattle.homes.specs.declared.places.Content.{Content}
use Rattle.homes.specs.declared.places.Holder.TheVariants.{Free}
use Rattle.homes.specs.declared.places.Span.{Span}
use Rattle.homes.specs.declared.places.Spot.{Spot}
use Rattle.homes.specs.Homes.{in_span, is_free}
use Rattle.wire_form.specs.Words.{at_bit, slot_field}
use Rattle.commit_core.specs.declared.attempt.Attempt.{Attempt}
use Rattle.commit_core.specs.declared.place.Place.{Place}
use Rattle.commit_core.specs.declared.part.Part.{Part}
use Rattle.commit_core.specs.declared.part.Version.TheVariants.{Leads}
use Rattle.commit_core.specs.declared.part.Word.TheVariants.{Record, Pointer as PointerOf}
use Rattle.commit_core.specs.declared.event.Act.TheVariants.{Keep}
use Rattle.commit_core.specs.declared.seat.Seat.{Seat}
use Rattle.commit_core.specs.CoreState.{is_trying, last_marked}
use Rattle.commit_core.specs.Event.{is_allowed as commit_allows}
use Rattle.commit_core.specs.Moves.{Shows as StandsFor}
use Rattle.commit_core.specs.Parts.{IsSameOrAbsent, Vouches, covers, found, is_record, record_part, same_word, with_part}
use Rattle.commit_core.specs.Places.{home_of, stands, stands_at}
use Rattle.commit_core.specs.Serial.{last_write}
use Rattle.drop_core.specs.declared.grip.Grip.{Grip}
use Rattle.drop_core.specs.declared.table.Pointer.{Pointer}
use Rattle.drop_core.specs.Sound.{TiesTo}
use Rattle.drop_core.specs.Table.{pointer_of, snap_home, has_slot, is_live}
use Rattle.engine_rule.specs.declared.event.JointAct.TheVariants.{SeePointer}
use Rattle.engine_rule.specs.Event.{Joined}
use Rattle.engine_rule.specs.JointState.{can_see, holds_slot, slot_at as slot_with}
use Rattle.engine_rule.specs.Pairs.{page_content, pointer_part}
use Rattle.engine_rule.proofs.PairLaws.{covers-inside, part-right}
use Rattle.engine_pages.specs.declared.layout.Layout.{Layout}
use Rattle.engine_pages.specs.declared.view.View.{View}
use Rattle.engine_pages.specs.Pages.{is_array, is_tree}
use Rattle.engine_pages.specs.Pointers.{HasFollowed, IsPointerAt, StandsFor as HasPage, page_half, slot_half}
use Rattle.engine_pages.specs.Resident.{IsNamed}
use Rattle.engine_pages.specs.Rule.{Shared, IsLead, KeptAreRecords, KeptIsLow, Shows}
use Rattle.engine_pages.specs.Steps.{seen_at}
use Rattle.engine_pages.specs.Views.{IsActive, seat_number}
use Rattle.engine_pages.specs.Words.{ShowsWords}
use Rattle.engine_pages.proofs.Dealing.{meets}
use Rattle.engine_pages.proofs.Facing.{Deals}
use Rattle.engine_pages.proofs.Following.{follow_stride}
use Rattle.engine_pages.proofs.Joint.{Laws, may_do, shared_now}
use Rattle.engine_pages.proofs.OwnView.{own_fits}
use Rattle.engine_pages.proofs.PagesStay.{words_same}
use Rattle.engine_pages.proofs.PointerLaws.{PointerIs, pointer_is, open_pointer, halves, named_stands, standing_there}
use Rattle.engine_pages.proofs.Seats.{is_at, own_longer, tried_longer}
use Rattle.engine_pages.proofs.SlotSteps.{PagesNow}
use Rattle.engine_pages.proofs.Turns.{Stride, Begins, allows_at, marks_stay, tried_goes, unwritten}
use Rattle.dual_pointer.specs.Parts.{HasSeenPointer, SawPointer, content_below, saw_pointer, tree_content}
use Rattle.dual_pointer.proofs.Acts.{act_stride}
use Rattle.dual_pointer.proofs.Below.{contents_below}
use Rattle.dual_pointer.proofs.Stands.{way_to}
use Rattle.dual_pointer.proofs.Moves.{snap_unspotted, stands_free}
use Rattle.dual_pointer.proofs.TreeBelow.{tree_contents}

-- ---- what is kept

records_pointed : (decls : List Decl) (opening : List (Key × Content)) (history : List Attempt) (kept : List Part)
    (part : Part) (x : At) (n : ℕ) → part.word ≡ PointerOf x → part.version ≡ Leads n
    → KeptAreRecords decls opening history kept → KeptAreRecords decls opening history (with_part kept part)
records_pointed decls opening history kept part x n word version records q has =
    elim (in_push_cases q part (filter (λ p. not (same_word p.word part.word)) kept) has) [
      | inl old ↦ records q (in_filter (λ (p : Part). not (same_word p.word part.word)) q kept old)
      | inr new ↦ inr (inl (
        x,
        n,
        ap (λ (p : Part). p.word) (sym new) ∙ word,
        ap (λ (p : Part). p.version) (sym new) ∙ version,
      ))
    ]

low_pointed : (places : List (Spot × Place)) (kept : List Part) (part : Part) (x : At) → part.word ≡ PointerOf x
    → KeptIsLow places kept → KeptIsLow places (with_part kept part)
low_pointed places kept part x word low k y c has =
    elim (in_push_cases (record_part k y c) part (filter (λ p. not (same_word p.word part.word)) kept) has) [
      | inl old ↦ low k y c (in_filter (λ (p : Part). not (same_word p.word part.word)) (record_part k y c) kept old)
      | inr new ↦ absurd (no_record y x (sym (ap (λ (p : Part). p.word) new) ∙ word))
    ]
  where
    no_record : (y : Spot) (x : At) → Record y ≡ PointerOf x → ⊥
    no_record y x e = absurd (cc)

-- what stands for a content is it, or an absence for one
same_or_absent : (horizon : Number) (c e : Content) → StandsFor horizon c e → IsSameOrAbsent c e
same_or_absent horizon c e (inl same) = inl same
same_or_absent horizon c e (inr lost) = inr (ap (λ (z : Content). z.value) lost.0, lost.1.absent)

-- ---- the pointer that is seen

module _ (l : Layout) (words : List ℕ) (views : List View) (s : Shared) (id : ℕ) (v : View)
    (active : IsActive v.role) (b : Begins l words views s id v) (x : At) (sp : Span) (at : ℕ) (is : IsPointerAt v x sp at)
    (few : get_or words at 0 < 2 ^ 32) where
  abbrev n : ℕ
  n = get_or words at 0

  abbrev q : Pointer
  q = pointer_of s.table x

  abbrev part : Part
  part = pointer_part s.table x

  there : PointerIs l words s v x sp at
  there = pointer_is l words views s id v x sp at b is

  free : q.holder ≡ Free
  free =
      let shows = there.shows in
      open_pointer (at_bit 0 shows.number + at_bit 32 (slot_field q.slot)) q.holder
      (subst (λ k. k < 2 ^ 60) shows.word (let low = few in omega arith))

  none : q.slot ≡ None
  none =
      let zero-is : n / 2 ^ 32 ≡ 0 = let low = few in omega arith in
      (halves s.resident.places words at q there.shows free).slot ∙ ap slot_half zero-is

  live : is_live s.table x ≡ true
  live = there.live free

  number-is : there.shows.number ≡ n
  number-is =
      let bare : page_half n ≡ n = let low = few in omega arith in
      (halves s.resident.places words at q there.shows free).page ∙ bare

  named : IsNamed s.resident.places sp n q.page
  named =
      subst (λ k. IsNamed s.resident.places sp k q.page) number-is
      (subst (λ (z : Span). IsNamed s.resident.places z there.shows.number q.page) there.span there.shows.named)

  page-stands : 0 < n → HasPage l.decls s.resident.pages sp n
  page-stands some = named_stands l words views s id v sp n q.page b named some

  page-there : n ≤ length s.resident.pages
  page-there = by_number n refl
    where
      by_number : (k : ℕ) → n ≡ k → n ≤ length s.resident.pages
      by_number zero e = omega (arith, e)
      by_number (suc k) e = standing_there l.decls s.resident.pages sp n (page-stands (omega (arith, e)))

  held : (y : At) → IsPointerAt v y sp at → holds_slot v.grip (slot_with y) ≡ true
  held (Root r) child = refl
  held (In y) (inl child) =
      subst (λ t. has_slot v.grip.holds t ≡ true) child.slot (b.pages.ways child.way child.has).held
  held (In y) (inr branch) =
      subst (λ t. has_slot v.grip.holds t ≡ true) branch.slot (b.pages.ways branch.way branch.has).held

  may : is_trying v.seat.stage ≡ false → may_do s (seat_number v.role) (SeePointer x) ≡ true
  may resting =
      let p = seat_number v.role in
      let d = s.table in
      let can : can_see d (s.grips p) x ≡ true =
      and_from (is_live d x && is_free q.holder) (is_none q.slot && holds_slot (s.grips p) (slot_with x))
      (and_from (is_live d x) (is_free q.holder) live (ap is_free free))
      (and_from (is_none q.slot) (holds_slot (s.grips p) (slot_with x)) (ap is_none none)
      (subst (λ (g : Grip). holds_slot g (slot_with x) ≡ true) b.grip (held x is))) in
      let allowed : commit_allows p s.story (s.seats p) (Keep part) ≡ true =
      and_from (not (is_trying (s.seats p).stage)) (not (is_record part.word))
      (ap not (ap (λ (z : Seat). is_trying z.stage) (sym b.own.seat) ∙ resting)) refl in
      and_from (can_see d (s.grips p) x) (commit_allows p s.story (s.seats p) (Keep part)) can allowed

  -- the keys of the part
  covered : (k : Key) → in_span sp k ≡ true → covers part k ≡ true
  covered k within = and_from (in_span part.span k) true (ap (λ (z : Span). in_span z k) there.span ∙ within) refl

  within : (k : Key) → covers part k ≡ true → in_span sp k ≡ true
  within k has = ap (λ (z : Span). in_span z k) (sym there.span) ∙ covers-inside s.table x k has

  says : is_array l.decls sp.storage ≡ true → (k : Key) → in_span sp k ≡ true
      → found part k ≡ content_below s.resident.pages sp n k
  says array k inside =
      sym (part-right s.table x k (covered k inside))
      ∙ contents_below l.decls s.resident s.table b.sound.declared b.sound.named b.sound.joint.pages.published.down sp n q.page
      named array k inside

  tree-says : is_tree l.decls sp.storage ≡ true → (k : Key) → in_span sp k ≡ true
      → found part k ≡ tree_content s.resident.pages sp n k
  tree-says tree k inside =
      sym (part-right s.table x k (covered k inside))
      ∙ tree_contents l.decls s.resident s.table b.sound.declared b.sound.named b.sound.joint.pages.published.down sp n q.page
      named tree k inside

  last : Vouches (last_write l.opening s.story.history s.story.decided) part
  last k has =
      let m = s.story in
      let d = s.table in
      let ties = b.sound.joint.pages.table.one_home_each.ties x live in
      let down = subst (TiesTo (home_of m.homes) d q.span q.page) none ties in
      let home : home_of m.homes k ≡ snap_home d q.page k = down k (covers-inside d x k has) in
      let here : stands m.places m.homes k ≡ record { content = page_content (snap_home d q.page k); holder = Free } =
      ap (stands_at m.places) home ∙ stands_free m.places (snap_home d q.page k) (snap_unspotted d q.page k) in
      let shows : StandsFor m.horizon (stands m.places m.homes k).content (last_write l.opening m.history m.decided k) =
      b.sound.joint.commits.story.unlocked_homes k (ap (λ (z : Place). z.holder) here) in
      subst (λ (z : Content). IsSameOrAbsent z (last_write l.opening m.history m.decided k))
      (ap (λ (z : Place). z.content) here ∙ part-right d x k has)
      (same_or_absent m.horizon (stands m.places m.homes k).content (last_write l.opening m.history m.decided k) shows)

  abbrev w : View
  w = saw_pointer s.story.history s.story.decided s.resident.pages q.page part at sp n v

  tells : HasSeenPointer x sp at v n w
  tells = record {
    pages = s.resident.pages;
    front = b.pages.resident;
    few = subst (λ (y : Layout). length s.resident.pages ≤ y.resident) (sym b.own.layout) b.sound.within;
    most = let few = b.sound.few.2 in let within = b.sound.within in omega arith;
    there = page-there;
    stands = λ some. subst (λ (y : Layout). HasPage y.decls s.resident.pages sp n) (sym b.own.layout) (page-stands some);
    name = q.page;
    part = part;
    word = refl;
    version = refl;
    within = within;
    covered = covered;
    says = λ array k inside.
        says (ap (λ (y : Layout). is_array y.decls sp.storage) (sym b.own.layout) ∙ array) k inside;
    tree = λ tree k inside.
        tree-says (ap (λ (y : Layout). is_tree y.decls sp.storage) (sym b.own.layout) ∙ tree) k inside;
    history = s.story.history;
    decided = s.story.decided;
    drawn = b.fits.history;
    seen = b.fits.decided;
    last = subst (λ (y : Layout). Vouches (last_write y.opening s.story.history s.story.decided) part) (sym b.own.layout) last;
    is = refl;
  }

  -- what the view knows of pages
  now : PagesNow l words (shared_now s (seat_number v.role) s.story s.table s.trees s.resident w) w
  now = record {
    within = b.pages.within;
    ways = b.pages.ways;
    drafts = b.pages.drafts;
    copies = b.pages.copies;
    blanks = b.pages.blanks;
    resident = front_refl s.resident.pages;
    leads = λ z has. elim (in_cases z (record { span = sp; page = n; name = q.page }) v.leads has) [
      | inl new ↦ subst (IsLead s.resident) new record { page = page-there; named = named }
      | inr old ↦ b.pages.leads z old
    ];
    fills = b.pages.fills;
    known = b.pages.treed.known;
    heads = b.pages.treed.heads (seat_number v.role) (is_at v.role active);
    moved = b.pages.treed.moved;
    sealed = b.pages.treed.sealed (seat_number v.role) (is_at v.role active);
    inners = b.pages.treed.inners;
    new_leaves = b.pages.treed.new_leaves;
    new_inners = b.pages.treed.new_inners;
    shuts = b.pages.shuts (seat_number v.role) (is_at v.role active);
  }

  pub see_stride : Laws → is_trying v.seat.stage ≡ false → (tells : View → ℕ → View → Type 0) → tells v n w
      → Stride l words views s (seat_number v.role) v at (λ k. k) tells
  see_stride laws resting tells-of tells-so =
      let p = seat_number v.role in
      let m = s.story in
      let h = b.sound in
      let f = b.fits in
      let same = unwritten words at in
      let words' : List ℕ = set words at n in
      act_stride laws l words views s id v active b at (λ k. k) (SeePointer x) m w tells-of record {
        may = may resting;
        comes =
            ap (λ (y : Seat). let j : Joined = record { story = m; seat = record y { kept = with_part y.kept part }; table = s.table; grip = s.grips p } in j)
            (sym b.own.seat)
            ∙ ap (λ (y : Grip). let j : Joined = record { story = m; seat = w.seat; table = s.table; grip = y } in j) (sym b.grip);
        role = refl;
        made = refl;
        small = h.small;
        valued = h.valued;
        shown = subst (λ (z : List ℕ). ShowsWords l z m s.table s.trees s.resident) (sym same) h.shown;
        marks = marks_stay words words' s.seats p v.seat w.seat h.marks b.own.seat refl
            (λ j lo hi. ap (λ (z : List ℕ). get_or z j 0) same);
        marked = λ place mark has. has;
        marks_low = subst (λ (z : Seat). last_marked z.marks < m.epoch) (sym b.own.seat) (h.marked p);
        drawn = λ a has. inl has;
        tried = tried_goes m m s.seats p v.seat w.seat b.own.seat refl refl refl (inl refl) h.tried;
        fits = own_fits l m m s.seats v w active f f.part refl refl refl refl refl (λ place mark has. has) record {
          history = front_refl m.history;
          decided = front_refl m.decided;
          heard = f.heard;
          mine = f.mine;
          mine_own = λ a has.
              own_longer v.role v.history m.history v.decided m.decided a f.history f.decided (f.mine_own a has);
          records = records_pointed l.decls l.opening m.history v.seat.kept part x q.page refl refl f.records;
          kept = low_pointed m.places v.seat.kept part x refl f.kept;
          versions = f.versions;
          loaded = tt;
          tried = tried_longer p v.history m.history m.checks v.checked v.mine v.seat.stage f.history b.own.tried;
          took = b.own.took;
          locked = b.own.locked;
          low = f.low;
          epoch = λ keeper. (f.keepers keeper).epoch;
          past = λ keeper. (f.keepers keeper).past;
        };
        mine = λ g. refl;
        drew = refl;
        few = omega arith;
        room = omega (arith, h.sums.room);
        now = subst (λ (z : List ℕ). PagesNow l z (shared_now s p m s.table s.trees s.resident w) w) (sym same) now;
        frame = words_same l words words' s p (λ j low. ap (λ (z : List ℕ). get_or z j 0) same);
        deals = subst (λ (z : List ℕ). Deals l words z s p views v w) (sym same)
            (meets l words views s id v b w at
            record { role = refl; ways = refl; took = refl; gone = refl; touched = refl; blamed = refl; locks = refl }
            record {
              new = record { word = at; seen = n; was = seen_at v.reads at; kept = Some n };
              word = refl;
              seen = refl;
              was = refl;
              is = refl;
            }
            (λ u i less low word here. way_to l words views s id v b x sp at is u i less low word));
      } tells-so

  pub see_tells : HasSeenPointer x sp at v n w
  see_tells = tells

-- ---- the step

pub sees_pointer : Laws → (l : Layout) (slots id : ℕ) (me : Me (Unit {0}) View) (x : At) (sp : Span) (at : ℕ)
    → IsActive me.0.role → is_trying me.0.seat.stage ≡ false → IsPointerAt me.0 x sp at
    → Allows (λ s. Shows l s.words s.views) slots id me at (λ k. k)
    (λ k now. (now.1 ≡ me.1) × SawPointer x sp at me.0 k now.0)
sees_pointer laws l slots id me x sp at active resting is =
    allows_at laws l slots id me at (λ k. k) (SawPointer x sp at) active
    (λ words views s b. by_found words views s b (ltb (get_or words at 0) (2 ^ 32)) refl)
  where
    by_found : (words : List ℕ) (views : List View) (s : Shared) → Begins l words views s id me.0 → (c : Bool)
        → ltb (get_or words at 0) (2 ^ 32) ≡ c
        → Stride l words views s (seat_number me.0.role) me.0 at (λ k. k) (SawPointer x sp at)
    by_found words views s b false above =
        let r = follow_stride l words views s id me.0 active b x sp at is in record {
          story = r.story;
          table = r.table;
          trees = r.trees;
          resident = r.resident;
          view = r.view;
          sound = r.sound;
          stays = r.stays;
          trees-stay = r.trees-stay;
          turn = r.turn;
          tells-so = subst
              (λ c. MatchBool c (HasSeenPointer x sp at me.0 (get_or words at 0) r.view) (HasFollowed sp at me.0 (get_or words at 0) r.view))
              (sym above) r.tells-so;
        }
    by_found words views s b true below =
        let v = me.0 in
        let few : get_or words at 0 < 2 ^ 32 = grind (arith, nat_tests) in
        let w : View = saw_pointer s.story.history s.story.decided s.resident.pages (pointer_of s.table x).page (pointer_part s.table x) at sp (get_or words at 0) v in
        see_stride l words views s id v active b x sp at is few laws resting (SawPointer x sp at)
        (subst (λ c. MatchBool c (HasSeenPointer x sp at v (get_or words at 0) w) (HasFollowed sp at v (get_or words at 0) w)) (sym below)
        (see_tells l words views s id v active b x sp at is few))
