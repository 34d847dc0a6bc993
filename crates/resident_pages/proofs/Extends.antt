-- The count of published pages rises: the pages that the keeper filled are published, and places get names.
use Rattle.std.proofs.Common.{◌≡◌, inl, inr, ℕ, suc, ◌+◌, ◌-◌, ◌*◌, ◌<◌, ◌≤◌, Bool, true, ltb, List, ◌++◌, length, length-append, get_or, set, map}
use Rattle.std.proofs.Common.{refl, sym, ap, ◌∙◌, subst, arith}
use Rattle.std.proofs.lemmas.Bool.{cases_lt}
use Rattle.std.proofs.lemmas.Bool.Decides.{nat_tests}
use Rattle.atomic_table.specs.Table.{Me, Allows}
use Rattle.lists.specs.Elements.{in_filter, filter_only}
use Rattle.lists.specs.Fronts.{IsFront, front_refl, front_append, front_length, front_same}
use Rattle.serial_model.specs.declared.decl.Decl.{Decl}
use Rattle.homes.specs.declared.places.At.{At}
use Rattle.homes.specs.declared.places.At.TheVariants.{Root, In}
use Rattle.snapshot_store.specs.declared.place.PagePlace.{PagePlace}
use Rattle.snapshot_store.specs.Places.{page as page_words}
use Rattle.snapshot_store.specs.StandLaws.{page-append}
use Rattle.commit_core.specs.declared.seat.Seat.{Seat}
use Rattle.commit_core.specs.CoreState.{last_marked}
use Rattle.commit_core.specs.Places.{place_of}
use Rattle.drop_core.specs.declared.table.SnapPage.{SnapPage}
use Rattle.drop_core.specs.declared.table.Table.{Table}
use Rattle.drop_core.specs.Sound.{span_at}
use Rattle.drop_core.specs.Table.{page_of, pointer_of, snap_of, is_live}
use Rattle.engine_rule.specs.Reading.{name_of}
use Rattle.engine_rule.specs.Sound.{IsSound}
use Rattle.engine_rule.specs.Stays.{Stays}
use Rattle.engine_rule.proofs.ReadLists.{in_either, from_mapped}
use Rattle.engine_pages.specs.declared.layout.Layout.{Layout}
use Rattle.engine_pages.specs.declared.view.Filled.{Filled}
use Rattle.engine_pages.specs.declared.view.Lead.{Lead}
use Rattle.engine_pages.specs.declared.view.Role.TheVariants.{Keeper}
use Rattle.engine_pages.specs.declared.view.View.{View}
use Rattle.engine_pages.specs.Layout.{published_at, root_at, slot_at, page_at, snap_at}
use Rattle.engine_pages.specs.Pages.{decl_of, AreLaidOut}
use Rattle.engine_pages.specs.Resident.{Published, HasMore}
use Rattle.engine_pages.specs.Rule.{Shared, joint_of, IsLead, IsWithin, Shows}
use Rattle.engine_pages.specs.Views.{IsActive, seat_number}
use Rattle.engine_pages.specs.Words.{IsOverwritten}
use Rattle.engine_pages.proofs.Dealing.{rests}
use Rattle.engine_pages.proofs.Joint.{Laws, stays_none}
use Rattle.engine_pages.proofs.Looking.{seen_fits}
use Rattle.engine_pages.proofs.Looks.{same_joint}
use Rattle.engine_pages.proofs.Named.{named_more, lead_more}
use Rattle.engine_pages.proofs.PagesStay.{copy_stays, words_same}
use Rattle.engine_pages.proofs.Records.{laid_at}
use Rattle.engine_pages.proofs.Seats.{is_at}
use Rattle.engine_pages.proofs.SlotFacts.{head_same, moved_same}
use Rattle.engine_pages.proofs.SlotSteps.{own_pages, trees_same}
use Rattle.engine_pages.proofs.TreeFacts.{inner_at, new_leaf_at, new_inner_at, sealed_at, same_fence}
use Rattle.engine_pages.proofs.Turns.{Begins, Stride, allows_at, marks_stay, tried_goes, written}
use Rattle.engine_pages.proofs.Words.{page_shown, tree_shown}
use Rattle.resident_pages.specs.Extends.{CanExtend, HasExtended, KnowsAll, extended, lead_of}
use Rattle.resident_pages.proofs.NamesShown.{page_named, tree_named}
use Rattle.resident_pages.proofs.NewPages.{page_new, published_now, new_page, pages_are, all_right, all_down, new_lead}
use Rattle.resident_pages.proofs.Snaps.{snap_unfilled, walk_stable, table_extended, extended_sound}

-- a pointer is live in a table with other snapshot pages, where it was
live_same : (d : Table) (f : ℕ → SnapPage) (k : ℕ) (x : At) → is_live (table_extended d f k) x ≡ true → is_live d x ≡ true
live_same d f k (Root r) live = live
live_same d f k (In y) live = live

within_same : (d : Table) (f : ℕ → SnapPage) (k : ℕ) (holds : List ℕ) (x : At) → IsWithin d holds x
    → IsWithin (table_extended d f k) holds x
within_same d f k holds (Root r) h = h
within_same d f k holds (In y) h = h

-- the pages that the keeper knows are all that are published
all_known : (l : Layout) (words : List ℕ) (views : List View) (s : Shared) (id : ℕ) (v : View)
    → Begins l words views s id v → (new : List (List ℕ)) (names : List (Decl × PagePlace)) → CanExtend new names v
    → v.pages ≡ s.resident.pages
all_known l words views s id v b new names can = by can.all
  where
    front : IsFront v.pages s.resident.pages
    front = b.pages.resident

    long : length v.pages ≤ length s.resident.pages
    long = front_length v.pages s.resident.pages front

    by : KnowsAll v → v.pages ≡ s.resident.pages
    by (inl full) =
        let here : length v.pages ≡ l.resident =
        subst (λ (y : Layout). length v.pages ≡ y.resident) b.own.layout full in
        let within = b.sound.within in
        front_same v.pages s.resident.pages s.resident.pages front (front_refl s.resident.pages)
        (omega (arith, here, within, long))
    by (inr x) =
        let above = (b.pages.fills x.0 x.1).1.above in
        let page = x.2 in
        front_same v.pages s.resident.pages s.resident.pages front (front_refl s.resident.pages)
        (omega (arith, above, page, long))

module _ (laws : Laws) (l : Layout) (words : List ℕ) (views : List View) (s : Shared) (id : ℕ) (v : View)
    (b : Begins l words views s id v) (active : IsActive v.role) (keeper : v.role ≡ Keeper) (new : List (List ℕ))
    (names : List (Decl × PagePlace)) (can : CanExtend new names v) (count : ℕ)
    (sum : count ≡ length v.pages + length new) where
  same : v.pages ≡ s.resident.pages
  same = all_known l words views s id v b new names can

  abbrev f : ℕ → SnapPage
  f = new_page l words views s id v b new names can same

  abbrev k : ℕ
  k = length names

  abbrev d : Table
  d = s.table

  abbrev e : Table
  e = table_extended s.table f k

  abbrev r : Published
  r = s.resident

  abbrev r' : Published
  r' = published_now l words views s id v b new names can same

  abbrev p : ℕ
  p = seat_number v.role

  abbrev name : Decl × PagePlace → ℕ
  name x = name_of (s.resident.places ++ names) x.0 x.1

  abbrev w : View
  w = extended name new names v

  abbrev words' : List ℕ
  words' = set words published_at count

  abbrev s' : Shared
  s' = record s { table = e; resident = r' }

  many : length (r.pages ++ new) ≡ count
  many =
      let all = length-append r.pages new in
      let knows = ap (λ (xs : List (List ℕ)). length xs) same in omega (arith, all, knows, sum)

  room : length (r.pages ++ new) ≤ l.resident
  room = elim (cases_lt 0 (length new)) [
    | inl some ↦
        let x = can.filled (length new - 1) (omega (arith, some)) in
        let within = (b.pages.fills x.0 x.1).1.within in
        let page = x.2 in omega (arith, within, page, many, sum, some)
    | inr none ↦
        let all = length-append r.pages new in
        let within = b.sound.within in omega (arith, all, within, none)
  ]

  more : HasMore r r'
  more = record { pages = front_append r.pages new; places = front_append r.places names }

  sound : IsSound (joint_of l s')
  sound =
      extended_sound laws l s f k b.sound.joint (all_down l words views s id v b new names can same)
      (all_right l words views s id v b new names can same)

  snap_old : (n : ℕ) → n ≤ d.published → snap_of e n ≡ snap_of d n
  snap_old n low = snap_unfilled d.published f k d.snaps n low

  stays : Stays p (joint_of l s) (joint_of l s')
  stays = record {
    opening = refl;
    story = (stays_none p (joint_of l s)).story;
    pages = record {
      pages = λ q t h at holds known. record {
        page = inl refl;
        dead = λ is. is;
        spans = λ j has. refl;
        known = known;
        led = λ x is. (is, refl);
      };
      roots = λ i. refl;
      snaps = λ n low. snap_old n low;
      homes = λ n key low.
          walk_stable n (snap_of d) (snap_of e) d.published snap_old
          (λ m below. b.sound.joint.pages.table.snapshots_fixed.closed m below) n key low;
      published = omega arith;
    };
    held = record { headers = λ q t other is. (is, refl); pointers = λ q x other live is. refl };
    made = λ q t h other at has. record {
      state = refl;
      times = refl;
      led = refl;
      page = refl;
      header = refl;
      pointers = λ j free. refl;
    };
    records = λ q x h other at has. refl;
    seats = λ q other. refl;
    grips = λ q other. refl;
  }

  shows_new : (n i : ℕ) → 0 < n → n ≤ length (r.pages ++ new) → i < 64
      → get_or words (snap_at l.slots n i) 0 ≡ get_or (page_words (r.pages ++ new) n) i 0
  shows_new n i some most less = elim (cases_lt (length r.pages) n) [
    | inl high ↦
        let j : ℕ = n - suc (length r.pages) in
        let all = length-append r.pages new in
        let is : n ≡ suc (length r.pages + j) = omega (arith, high) in
        let x = can.filled j (omega (arith, is, all, most)) in
        let knows = ap (λ (xs : List (List ℕ)). length xs) same in
        let page = x.2 in
        let at : n ≡ (x.0).page = omega (arith, is, knows, page) in
        ap (λ m. get_or words (snap_at l.slots m i) 0) at
        ∙ ((b.pages.fills x.0 x.1).1.is i less
        ∙ ap (λ (ws : List ℕ). get_or ws i 0) (x.3 ∙ sym (page_new r.pages new j n is)))
    | inr low ↦
        b.sound.shown.resident n i some low less
        ∙ ap (λ (ws : List ℕ). get_or ws i 0) (sym (page-append r.pages new n low))
  ]

  laid : AreLaidOut l.decls s.trees e
  laid x t live leads =
      laid_at (decl_of l.decls (span_at d x).storage) s.trees s.trees d e t (span_at d x) refl refl refl (λ j. refl)
      (b.sound.laid_out x t (live_same d f k x live) leads)

  pub extend_stride : Stride l words views s p v published_at (λ _. count) (λ v _ w. HasExtended new names v w)
  extend_stride =
      let m = s.story in
      let h = b.sound in
      let wr = written words published_at count (let all = h.shown.long in omega arith) in
      let decls = h.few.1 in
      let joint = same_joint l s' p w b.own.seat b.grip in
      let high : (j : ℕ) → 32 ≤ j → get_or words' j 0 ≡ get_or words j 0 = λ j lo. wr.others j (λ q. omega arith) in
      let page : (u j : ℕ) → get_or words' (page_at l.slots u j) 0 ≡ get_or words (page_at l.slots u j) 0 =
      λ u j. high (page_at l.slots u j) (omega arith) in
      record {
        story = m;
        table = e;
        trees = s.trees;
        resident = r';
        view = w;
        sound = subst IsSound (sym joint) sound;
        stays = subst (Stays p (joint_of l s)) (sym joint) stays;
        trees-stay = trees_same p s;
        turn = record {
          small = h.small;
          valued = h.valued;
          shown = record {
            long = wr.long ∙ h.shown.long;
            clock = wr.others 0 (λ q. omega arith) ∙ h.shown.clock;
            decisions = wr.others 1 (λ q. omega arith) ∙ h.shown.decisions;
            published = wr.here ∙ sym many;
            unused = λ j from to other. wr.others j (λ q. other q) ∙ h.shown.unused j from to other;
            roots = λ i less.
                let was = h.shown.roots i less in record {
                  number = was.number;
                  word = wr.others (root_at i) (λ q. omega arith) ∙ was.word;
                  page = was.page;
                  slot = was.slot;
                  named = named_more r.places (r.places ++ names) (pointer_of d (Root i)).span was.number
                      (pointer_of d (Root i)).page more.places was.named;
                  keepers = was.keepers;
                };
            slots = λ u less.
                let was = h.shown.slots u less in
                record { word = high (slot_at u) (omega arith) ∙ was.word; times = was.times };
            pages = λ u less now none.
                page_shown (r.places ++ names) words words' l.slots u (place_of m.places) (place_of m.places) d e (page_of d u)
                (λ j low. page u j) (λ j. refl) (λ j. refl)
                (page_named r.places (r.places ++ names) words l.slots u (place_of m.places) d (page_of d u) more.places
                (h.shown.pages u less now none));
            treed = λ u g less now tree.
                tree_shown (r.places ++ names) words words' l.slots u g (IsOverwritten m) (IsOverwritten m) (place_of m.places)
                (place_of m.places) d e (page_of d u)
                (λ j low. page u j) (λ j. refl) (λ i q over. over) (λ j. refl) refl
                (tree_named r.places (r.places ++ names) words l.slots u g (IsOverwritten m) (place_of m.places) d (page_of d u) more.places
                (h.shown.treed u g less now tree));
            resident = λ n i some most less. high (snap_at l.slots n i) (omega arith) ∙ shows_new n i some most less;
          };
          marks = marks_stay words words' s.seats p v.seat w.seat h.marks b.own.seat refl
              (λ j lo hi. wr.others j (λ q. absurd (omega arith)));
          marked = λ place mark has. has;
          marks_low = subst (λ (z : Seat). last_marked z.marks < m.epoch) (sym b.own.seat) (h.marked p);
          drawn = λ a has. inl has;
          tried = tried_goes m m s.seats p v.seat w.seat b.own.seat refl refl refl (inl refl) h.tried;
          fits = seen_fits l m s.seats v w active b.fits refl refl refl refl refl refl refl refl refl refl refl b.fits.loaded refl refl
              b.fits.versions (front_refl v.history) (front_refl v.decided) b.fits.history b.fits.decided;
          role = refl;
          made = refl;
          mine = λ i. refl;
          drew = refl;
          few = omega arith;
          room = omega (arith, h.sums.room);
          deals = rests l words views s id v b words' w
              record { role = refl; ways = refl; took = refl; gone = refl; touched = refl; blamed = refl; locks = refl } refl
              (λ key y j q.
              let word : j ≡ page_at l.slots y.slot (2 * y.index) = q.word in high j (omega arith));
          slots = refl;
          within = room;
          more = more;
          unpublished = λ other. absurd (other (ap seat_number keeper));
          named = pages_are l words views s id v b new names can same;
          laid_out = laid;
          pages = own_pages l words words' s m e s.trees r' v w active refl refl b.pages record {
            within = b.pages.within;
            ways = λ z has.
                let was = b.pages.ways z has in record {
                  within = was.within;
                  held = was.held;
                  known = was.known;
                  over = laid_at (decl_of l.decls z.span.storage) s.trees s.trees d e z.slot z.span refl refl refl (λ j. refl) was.over;
                };
            drafts = λ z has.
                let was = b.pages.drafts z has in record {
                  slot = was.slot;
                  made = was.made;
                  owned = was.owned;
                  header = was.header;
                  is = λ j less. page z.slot j ∙ was.is j less;
                };
            copies = λ z has.
                let was = b.pages.copies z has in (
                  was.0,
                  copy_stays l m m d e r r' p v.grip.made z record {
                    state = refl;
                    times = refl;
                    led = refl;
                    page = refl;
                    header = refl;
                    pointers = λ j free. refl;
                  } (λ i. refl) more was.1,
                );
            blanks = λ t has.
                let was = b.pages.blanks t has in record { slot = was.slot; made = was.made; state = was.state };
            resident = subst (λ (xs : List (List ℕ)). IsFront (xs ++ new) (r.pages ++ new)) (sym same) (front_refl (r.pages ++ new));
            leads = λ z has. elim (in_either (map (lead_of name) names) v.leads z has) [
              | inl late ↦
                  let x = from_mapped (lead_of name) names z late in
                  subst (λ (y : Lead). IsLead r' y) x.2 (new_lead l words views s id v b new names can same x.0 x.1)
              | inr old ↦ lead_more r r' z more (b.pages.leads z old)
            ];
            fills = λ z has.
                let test : Filled → Bool = λ x. ltb (length v.pages + length new) x.page in
                let was = b.pages.fills z (in_filter test z v.fills has) in
                let top : ltb (length v.pages + length new) z.page ≡ true = filter_only test z v.fills has in
                let above : length v.pages + length new < z.page = grind (arith, nat_tests) in (
                  was.0,
                  record {
                    above = omega (arith, many, sum, above);
                    within = was.1.within;
                    is = λ j less. high (snap_at l.slots z.page j) (omega arith) ∙ was.1.is j less;
                  },
                );
            known = λ z has.
                let was = b.pages.treed.known z has in record {
                  within = was.within;
                  held = was.held;
                  known = was.known;
                  fence = was.fence;
                  there = was.there;
                  front = was.front;
                };
            shuts = λ z has.
                let was = b.pages.shuts p (is_at v.role active) z has in record {
                  within = within_same d f k v.grip.holds z.at was.within;
                  shut = was.shut;
                  number = was.number;
                  word = was.word;
                  named = named_more r.places (r.places ++ names) (pointer_of d z.at).span was.number (pointer_of d z.at).page
                      more.places was.named;
                };
            heads = λ z has.
                let was = b.pages.treed.heads p (is_at v.role active) z has in
                head_same l words words' s.trees d e p z refl refl
                (λ j less. page z.slot j) was;
            moved = λ z has.
                let was = b.pages.treed.moved z has in
                moved_same l words words' s.trees d e v.grip.holds v.grip.holds z was.held refl refl
                (λ j less. page z.slot j) was;
            sealed = λ t has.
                let was = b.pages.treed.sealed p (is_at v.role active) t has in sealed_at l d e p t refl refl was;
            inners = λ z has.
                let was = b.pages.treed.inners z has in
                inner_at l s.trees s.trees d e v.grip.holds v.grip.holds z was.held was.known refl
                (same_fence s.trees s.trees z.slot refl) (λ j child. refl) was;
            new_leaves = λ z has.
                let was = b.pages.treed.new_leaves z has in
                new_leaf_at l m m d e s.trees s.trees v.grip.made v.grip.made z was.made refl refl refl refl (λ i. refl) was;
            new_inners = λ z has.
                let was = b.pages.treed.new_inners z has in
                new_inner_at l d e s.trees s.trees r r' v.grip.made v.grip.made z was.made refl refl refl
                (λ j free. refl) more was;
          };
          frame = words_same l words words' s p (λ j low. high j (omega arith));
        };
        tells-so = (name, refl);
      }

pub extends : Laws → (l : Layout) (slots id : ℕ) (me : Me (Unit {0}) View) (new : List (List ℕ))
    (names : List (Decl × PagePlace)) (count : ℕ) → me.0.role ≡ Keeper → CanExtend new names me.0
    → count ≡ length me.0.pages + length new
    → Allows (λ s. Shows l s.words s.views) slots id me published_at (λ _. count)
    (λ _ now. (now.1 ≡ me.1) × HasExtended new names me.0 now.0)
extends laws l slots id me new names count keeper can sum =
    let active : IsActive me.0.role = subst IsActive (sym keeper) tt in
    allows_at laws l slots id me published_at (λ _. count) (λ v _ w. HasExtended new names v w) active
    (λ words views s b. extend_stride laws l words views s id me.0 b active keeper new names can count sum)
