-- The split of a full leaf, in one step: its header is stored as moved, its keys move to its halves, and the pass loses
-- the locks of their records.
use Rattle.std.proofs.Common.{◌≡◌, ◌≢◌, ◌⊎◌, inl, inr, ℕ, suc, ◌+◌, ◌*◌, ◌<◌, Bool, true, false, true≢false}
use Rattle.std.proofs.Common.{cond, eqb, eqb-true, leb, not}
use Rattle.std.proofs.Common.{List, [], ◌∷◌, filter, get_or, length, set, refl, sym, ap, ◌∙◌, subst, arith}
use Rattle.std.proofs.Common.{Option, Some, None}
use Rattle.std.specs.Prelude.{◌&&◌, ◌||◌}
use Rattle.std.specs.List.{Contains, slice_get}
use Rattle.std.proofs.lemmas.Bool.{and_parts, false_from_ne_true}
use Rattle.atomic_table.specs.Table.{Allows, Me}
use Rattle.lists.specs.Elements.{any_in, any_is, filter_only, in_filter, in_filtered, in_head}
use Rattle.serial_model.specs.declared.decl.Decl.{Decl}
use Rattle.serial_model.specs.declared.decl.Decl.TheVariants.{Array, Tree}
use Rattle.serial_model.specs.declared.key.Key.{Key}
use Rattle.homes.specs.declared.places.Content.{Content}
use Rattle.homes.specs.declared.places.Home.{Home}
use Rattle.homes.specs.declared.places.Home.TheVariants.{InSlot}
use Rattle.homes.specs.declared.places.Move.{Move}
use Rattle.homes.specs.declared.places.Span.{Span}
use Rattle.homes.specs.declared.places.Spot.{Spot}
use Rattle.homes.specs.Homes.{has_key, moves_to, same_key, same_spot}
use Rattle.homes.specs.Laws.{same_key-self, same_key-true}
use Rattle.wire_form.specs.Words.{number_word}
use Rattle.commit_core.specs.declared.place.Place.{Place}
use Rattle.commit_core.specs.declared.seat.Mark.{Mark}
use Rattle.commit_core.specs.declared.seat.Seat.{Seat}
use Rattle.commit_core.specs.declared.story.Story.{Story}
use Rattle.commit_core.specs.CoreState.{is_trying, last_marked, settled}
use Rattle.commit_core.specs.Event.{Moved as Left}
use Rattle.commit_core.specs.Keys.{IsUpTo}
use Rattle.commit_core.specs.Lemmas.Moves.{home_of-rehomed, left-of, moved-not, place-left, place-stays}
use Rattle.commit_core.specs.Moves.{is_left, moves_key, with_moves}
use Rattle.commit_core.specs.Places.{holder_is, home_of, place_of, spot_of}
use Rattle.drop_core.specs.declared.event.Act.TheVariants.{Twin}
use Rattle.drop_core.specs.declared.event.Twins.{Twins}
use Rattle.drop_core.specs.declared.grip.Grip.{Grip}
use Rattle.drop_core.specs.declared.table.Table.{Table}
use Rattle.drop_core.specs.Event.{slot_span, turned, twin_home, twinned, without}
use Rattle.drop_core.specs.Table.{has_slot}
use Rattle.engine_rule.specs.declared.event.JointAct.TheVariants.{Turn}
use Rattle.engine_rule.specs.Event.{Joined, after_moves, joined}
use Rattle.engine_pages.specs.declared.layout.Layout.{Layout}
use Rattle.engine_pages.specs.declared.view.NewLeaf.{NewLeaf}
use Rattle.engine_pages.specs.declared.view.Role.TheVariants.{Worker}
use Rattle.engine_pages.specs.declared.view.Took.{Took}
use Rattle.engine_pages.specs.declared.view.View.{View}
use Rattle.engine_pages.specs.declared.view.Way.{Way}
use Rattle.engine_pages.specs.Agreement.{TreesAgree}
use Rattle.engine_pages.specs.Layout.{page_at}
use Rattle.engine_pages.specs.Pages.{Fenced, IsLaidOut, IsLaidOutFor, decl_of, is_array, is_array_kind, is_tree}
use Rattle.engine_pages.specs.Pointers.{WaysAgree, one_kind}
use Rattle.engine_pages.specs.Records.{IsRecordIn}
use Rattle.engine_pages.specs.Rule.{Fits, HasLockOf, IsBitAt, IsHeld, KeptAreRecords, KeptIsLow, RecordStands}
use Rattle.engine_pages.specs.Rule.{Shared, Shows}
use Rattle.engine_pages.specs.Steps.{with_read}
use Rattle.engine_pages.specs.Touches.{IsFacing, Touched, has_took}
use Rattle.engine_pages.specs.Views.{IsActive, seat_number, tries}
use Rattle.engine_pages.proofs.Agreeing.{agreed}
use Rattle.engine_pages.proofs.Dealing.{blamed}
use Rattle.engine_pages.proofs.Facing.{Deals, facing_aside, facing_own, takes_same}
use Rattle.engine_pages.proofs.Joint.{Acted, Laws, effect_of, joint_act}
use Rattle.engine_pages.proofs.Named.{more_same}
use Rattle.engine_pages.proofs.OwnView.{own_fits, part_goes}
use Rattle.engine_pages.proofs.Seats.{put_seat, records_none}
use Rattle.engine_pages.proofs.SlotSteps.{acted_as, own_pages, trees_same}
use Rattle.engine_pages.proofs.Turns.{Begins, Stride, allows_at, marks_stay, tried_goes}
use Rattle.engine_pages.proofs.WayLaws.{ways_agree}
use Rattle.page_records.proofs.Opening.{not_trying}
use Rattle.page_records.proofs.Placing.{low_none}
use Rattle.page_records.proofs.Settling.{settled_idle, settled_kept, settled_locks, settled_marks}
use Rattle.page_records.proofs.Settling.{settled_tried, settled_trying}
use Rattle.page_records.proofs.Touching.{met_read}
use Rattle.tree_heads.specs.Splits.{CanSplit, HasSplit, split_at}
use Rattle.tree_heads.proofs.HeadSteps.{pages_named}
use Rattle.tree_heads.proofs.LeafSteps.{PageStep}
use Rattle.tree_heads.proofs.SplitAllows.{goes, may_split, old_in, over as is_over, page as is_page}
use Rattle.tree_heads.proofs.SplitLayout.{split_frame, split_laid}
use Rattle.tree_heads.proofs.SplitPages.{split_now, ways_now as split_ways}
use Rattle.tree_heads.proofs.SplitWords.{moved_in, split_page, split_words}
use Rattle.tree_heads.proofs.TreeAt.{AtTree}
use Rattle.tree_heads.proofs.TreeWays.{faces_wide, twin_list, twins_cases, twins_wide}

-- ---- lists

not_so : (c : Bool) → not c ≡ true → c ≡ false
not_so true e = absurd (true≢false (sym e))
not_so false e = refl

-- the moves are of the keys of the list
moves_same : (to : Key → Home) (keys : List Key) (q : Key) → moves_key (moves_to to keys) q ≡ has_key keys q
moves_same to [] q = refl
moves_same to (x ∷ keys) q = ap (λ (c : Bool). same_key x q || c) (moves_same to keys q)

-- tests that say the same leave the same
filters_same : (f g : Key → Bool) (list : List Key) → ((k : Key) → f k ≡ g k) → filter f list ≡ filter g list
filters_same f g [] each = refl
filters_same f g (x ∷ list) each =
    ap (λ (c : Bool). cond c (x ∷ filter f list) (filter f list)) (each x)
    ∙ ap (λ (z : List Key). cond (g x) (x ∷ z) z) (filters_same f g list each)

-- a lock that is left is one of the others
locks_left : (keys locks : List Key) (k : Key) → has_key (filter (λ q. not (has_key keys q)) locks) k ≡ true
    → (has_key locks k ≡ true) × (has_key keys k ≡ false)
locks_left keys locks k has =
    let r = any_is (λ (q : Key). same_key q k) (filter (λ q. not (has_key keys q)) locks) has in
    let is : r.0 ≡ k = same_key-true r.0 k r.2 in (
      any_in (λ (q : Key). same_key q k) locks r.0 (in_filter (λ (q : Key). not (has_key keys q)) r.0 locks r.1) r.2,
      ap (has_key keys) (sym is) ∙ not_so (has_key keys r.0) (filter_only (λ (q : Key). not (has_key keys q)) r.0 locks r.1),
    )

-- what moves leave, where there are any
moves_leave : (p : ℕ) (m : Story) (z : Seat) (to : Key → Home) (keys : List Key) (k : Key) → has_key keys k ≡ true
    → after_moves p m z (moves_to to keys)
    ≡ record {
      story = with_moves m (moves_to to keys);
      seat = settled (record z { locks = filter (λ q. not (moves_key (moves_to to keys) q)) z.locks });
    }
moves_leave p m z to [] k has = absurd (true≢false (sym has))
moves_leave p m z to (x ∷ keys) k has = refl

-- an array's page isn't a tree's
array_none : (o : Option Decl) (trees : ℕ → Option Fenced) (e : Table) (u : ℕ) (sp : Span) → is_array_kind o ≡ true
    → IsLaidOut o trees e u sp → trees u ≡ None
array_none None trees e u sp kind laid = absurd laid
array_none (Some (Array i size)) trees e u sp kind laid = laid.0
array_none (Some (Tree i)) trees e u sp kind laid = absurd (true≢false (sym kind))

module _ (laws : Laws) (l : Layout) (words : List ℕ) (views : List View) (s : Shared) (id : ℕ) (v : View)
    (active : IsActive v.role) (b : Begins l words views s id v) (t : ℕ) (sp : Span) (lower upper : NewLeaf)
    (keys : List Key) (separator n : ℕ) (can : CanSplit v t sp lower upper keys separator n) where
  abbrev p : ℕ
  p = seat_number v.role

  abbrev m : Story
  m = s.story

  abbrev d : Table
  d = s.table

  abbrev at : ℕ
  at = page_at l.slots t 0

  abbrev twins : Twins
  twins = record { slot = t; minor = lower.slot; major = upper.slot; separator = separator; keys = keys }

  abbrev to : Key → Home
  to = twin_home d sp twins

  abbrev mv : List Move
  mv = moves_to to keys

  abbrev next : Story
  next = with_moves m mv

  abbrev e : Table
  e = twinned d sp twins

  abbrev words' : List ℕ
  words' = set words at n

  abbrev left : Seat
  left = record v.seat { locks = filter (λ q. not (has_key keys q)) v.seat.locks }

  abbrev w : View
  w = split_at t sp lower upper keys separator at n v

  abbrev pg : AtTree l words s v t sp
  pg = is_page laws l words views s id v active b t sp lower upper keys separator n can

  abbrev step : PageStep l words words' s next e s.trees t 0
  step = split_page laws l words views s id v active b t sp lower upper keys separator n can

  abbrev more : List Way
  more = twin_list v.grip.holds lower.slot lower.span upper.slot upper.span v.ways

  -- ---- what the act comes to

  -- one of the leaf's keys
  old_key : (k : Key) × (has_key keys k ≡ true)
  old_key = by_keys can.head.keys refl
    where
      by_keys : (old : List Key) → can.head.keys ≡ old → (k : Key) × (has_key keys k ≡ true)
      by_keys [] none =
          let full = can.full in
          let no : length can.head.keys ≡ 0 = ap (λ (z : List Key). length z) none in absurd (omega (arith, full, no))
      by_keys (k ∷ rest) is = (
        k,
        old_in laws l words views s id v active b t sp lower upper keys separator n can k
            (ap (λ (z : List Key). has_key z k) is ∙ first k rest),
      )
        where
          first : (k : Key) (rest : List Key) → has_key (k ∷ rest) k ≡ true
          first k rest = any_in (λ (q : Key). same_key q k) (k ∷ rest) k (in_head k rest) (same_key-self k)

  seat-is : after_moves p m (s.seats p) mv ≡ record { story = next; seat = w.seat }
  seat-is =
      moves_leave p m (s.seats p) to keys old_key.0 old_key.1
      ∙ (ap
      (λ (z : Seat).
      let kept : List Key = filter (λ q. not (moves_key mv q)) z.locks in
      let j : Left = record { story = next; seat = settled (record z { locks = kept }) } in j)
      (sym b.own.seat)
      ∙ ap (λ (z : List Key). let j : Left = record { story = next; seat = settled (record v.seat { locks = z }) } in j)
      (filters_same (λ q. not (moves_key mv q)) (λ q. not (has_key keys q)) v.seat.locks (λ q. ap not (moves_same to keys q))))

  over : slot_span d t ≡ sp
  over = is_over laws l words views s id v active b t sp lower upper keys separator n can

  -- what the seat has made, without the halves
  abbrev lessened : Grip → Grip
  lessened z = record z { made = without (without z.made lower.slot) upper.slot }

  comes : effect_of s p (Turn (Twin twins)) ≡ record { story = next; seat = w.seat; table = e; grip = w.grip }
  comes =
      let g : Grip = lessened (s.grips p) in
      ap
      (λ (z : Span).
      joined (after_moves p m (s.seats p) (moves_to (twin_home d z twins) keys)) (turned (twinned d z twins) g)) over
      ∙ (ap (λ (z : Left). joined z (turned e g)) seat-is
      ∙ ap (λ (z : Grip). let j : Joined = record { story = next; seat = w.seat; table = e; grip = lessened z } in j)
      (sym b.grip))

  done : Acted l s p (record { story = next; seat = w.seat; table = e; grip = w.grip })
  done =
      acted_as l s p (effect_of s p (Turn (Twin twins))) next e w comes
      (joint_act laws l s p (Turn (Twin twins)) b.few
      (may_split laws l words views s id v active b t sp lower upper keys separator n can) b.sound.joint)

  -- ---- what the pass knows of places

  -- a place of a key that doesn't move stays
  unleft : (k : Key) (x : Spot) → home_of m.homes k ≡ InSlot x → has_key keys k ≡ false → is_left mv m.homes x ≡ false
  unleft k x home none =
      false_from_ne_true (is_left mv m.homes x) (λ has.
      let u = left-of mv m.homes x has in
      let same : k ≡ u.0.key = b.sound.joint.commits.story.homes_apart k u.0.key x (ap spot_of home) u.2 in
      true≢false (sym (moved_in to keys u.0 u.1) ∙ (ap (has_key keys) (sym same) ∙ none)))

  -- and what stands in any place does
  content_stays : (x : Spot) → (place_of next.places x).content ≡ (place_of m.places x).content
  content_stays x = by_left (is_left mv m.homes x) refl
    where
      by_left : (c : Bool) → is_left mv m.homes x ≡ c → (place_of next.places x).content ≡ (place_of m.places x).content
      by_left true gone = ap (λ (q : Place). q.content) (place-left mv m.homes m.places x gone)
      by_left false stays = ap (λ (q : Place). q.content) (place-stays mv m.homes m.places x stays)

  took_now : (q : Took) → Contains w.took q → (x : Spot) × IsHeld l.decls next p q x
  took_now q has =
      let passed = filter_only (λ (z : Took). not (has_key keys z.key)) q v.took has in
      let none : has_key keys q.key ≡ false = not_so (has_key keys q.key) passed in
      let held = b.own.took q (in_filter (λ (z : Took). not (has_key keys z.key)) q v.took has) in
      let same : place_of next.places held.0 ≡ place_of m.places held.0 =
      place-stays mv m.homes m.places held.0 (unleft q.key held.0 held.1.home none) in (
        held.0,
        record {
          spot = held.1.spot;
          home =
              home_of-rehomed mv m.homes q.key
              ∙ (moved-not mv (home_of m.homes) q.key (moves_same to keys q.key ∙ none) ∙ held.1.home);
          own = ap (λ (o : Place). holder_is p o.holder) same ∙ held.1.own;
          absent = held.1.absent;
          number = ap (λ (o : Place). number_word o.content.number + held.1.absent) same ∙ held.1.number;
          bit = subst (λ (o : Place). IsBitAt l.decls m q.key o held.1.absent) (sym same) held.1.bit;
        },
      )

  locked_now : (k : Key) → has_key w.seat.locks k ≡ true → HasLockOf w.took k
  locked_now k has =
      let old = locks_left keys v.seat.locks k (subst (λ (z : List Key). has_key z k ≡ true) (settled_locks left) has) in
      let lock = b.own.locked k old.0 in (
        lock.0,
        in_filtered (λ (z : Took). not (has_key keys z.key)) lock.0 v.took lock.1 (ap not (ap (has_key keys) lock.2 ∙ old.1)),
        lock.2,
      )

  fits : Fits l next (put_seat s.seats p w.seat) w
  fits =
      let f = b.fits in
      own_fits l m next s.seats v w active f
      (part_goes v.role active v.made v.due v.due v.seat.stage w.seat.stage v.mine v.mine (λ g. g)
      (λ _ g. settled_idle left g) f.part)
      refl refl refl refl refl
      (λ place mark has. subst (λ (y : List Mark). slice_get y place ≡ Some mark) (sym (settled_marks left)) has) record {
        history = f.history;
        decided = f.decided;
        heard = f.heard;
        mine = f.mine;
        mine_own = f.mine_own;
        records = settled_kept (KeptAreRecords l.decls l.opening m.history) left f.records (records_none l.decls l.opening m.history);
        kept = settled_kept (KeptIsLow next.places) left
            (λ k y c has. subst (λ (z : Content). IsUpTo c.number z.number) (sym (content_stays y)) (f.kept k y c has))
            (low_none next.places);
        versions = f.versions;
        loaded = tt;
        tried = settled_tried p v.history m.checks v.checked v.mine left b.own.tried;
        took = took_now;
        locked = locked_now;
        low = f.low;
        epoch = λ keeper. (f.keepers keeper).epoch;
        past = λ keeper. let was = (f.keepers keeper).past in record { clock = was.clock; tried = was.tried };
      }

  -- ---- who is in the way

  -- a record of an array is in another page
  record_apart : (u : ℕ) (span : Span) → is_array l.decls span.storage ≡ true → IsLaidOutFor l.decls s.trees e u span → u ≢ t
  record_apart u span kind over same =
      let none = array_none (decl_of l.decls span.storage) s.trees e u span kind over in
      let no : None ≡ Some pg.fence = sym none ∙ (ap s.trees same ∙ pg.there) in absurd (cc)

  way_apart : (k : Key) (x : Spot) (j : ℕ) → IsRecordIn l.decls l.slots more k x j → x.slot ≢ t
  way_apart k x j is same =
      let way = split_ways laws l words views s id v active b t sp lower upper keys separator n can is.way is.has in
      record_apart (is.way).slot (is.way).span is.kind way.over (is.slot ∙ same)

  none_there : (i : ℕ) → i < 64 → (k : Key) (x : Spot) (j : ℕ) → j ≡ page_at l.slots t i
      → IsRecordIn l.decls l.slots more k x j → ⊥
  none_there i less k x j here is =
      let word : j ≡ page_at l.slots x.slot (2 * x.index) = is.word in
      let index : x.index < 32 = is.index in
      way_apart k x j is (omega arith)

  record_word : (k : Key) (x : Spot) (j : ℕ) → IsRecordIn l.decls l.slots more k x j → j ≢ at
      → get_or words' j 0 ≡ get_or words j 0
  record_word k x j is other = step.others j other

  way_in : (i : ℕ) → i < 64 → (j : ℕ) → j ≡ page_at l.slots t i → (u c : ℕ) → u < l.slots → c < 64 → j ≡ page_at l.slots u c
      → has_slot v.gone u ≡ false → (y : Way) × Contains more y × (y.slot ≡ u)
  way_in i less j here u c few index word gone =
      let y : Way = record { slot = t; span = sp } in (
        y,
        twins_wide v.grip.holds lower.slot lower.span upper.slot upper.span v.ways y can.page.way,
        (omega arith),
      )

  tree-is : is_tree l.decls sp.storage ≡ true
  tree-is = ap (λ (y : Layout). is_tree y.decls sp.storage) (sym b.own.layout) ∙ can.page.tree

  -- a key that moves is a tree's
  array_stays : (k : Key) → is_array l.decls k.storage ≡ true → has_key keys k ≡ true → ⊥
  array_stays k array has =
      let a = goes laws l words views s id v active b t sp lower upper keys separator n can k has in
      let storage : k.storage ≡ sp.storage =
      eqb-true k.storage sp.storage (and_parts (eqb k.storage sp.storage) (leb sp.low k.key && leb k.key sp.high) a.within).0 in
      one_kind (decl_of l.decls k.storage) array (ap (is_tree l.decls) storage ∙ tree-is)

  -- a lock of an array's record is still there
  still_took : (q : Key) (y : Spot) (j : ℕ) → IsRecordIn l.decls l.slots more q y j → has_took v.took q y ≡ true
      → has_took w.took q y ≡ true
  still_took q y j there has =
      let r = any_is (λ (z : Took). same_key z.key q && same_spot z.spot y) v.took has in
      let both = and_parts (same_key (r.0).key q) (same_spot (r.0).spot y) r.2 in
      let array : is_array l.decls q.storage ≡ true =
      ap (λ (k : Key). is_array l.decls k.storage) there.key ∙ there.kind in
      let same : (r.0).key ≡ q = same_key-true (r.0).key q both.0 in
      any_in (λ (z : Took). same_key z.key q && same_spot z.spot y) w.took r.0
      (in_filtered (λ (z : Took). not (has_key keys z.key)) r.0 v.took r.1
      (ap not (false_from_ne_true (has_key keys (r.0).key) (λ hit. array_stays q array (ap (has_key keys) (sym same) ∙ hit)))))
      r.2

  agree : WaysAgree more
  agree =
      ways_agree l e s.trees v.grip.holds more
      (split_ways laws l words views s id v active b t sp lower upper keys separator n can)

  new_ways : (z : Way) → Contains more z → Contains v.ways z ⊎ (is_tree l.decls z.span.storage ≡ true)
  new_ways z has = elim (twins_cases v.grip.holds lower.slot lower.span upper.slot upper.span v.ways z has) [
    | inl one ↦ inr (subst (λ (y : Way). is_tree l.decls y.span.storage ≡ true) one.1
        (ap (λ (y : Span). is_tree l.decls y.storage) can.lower_span_is ∙ tree-is))
    | inr rest ↦ elim rest [
      | inl two ↦ inr (subst (λ (y : Way). is_tree l.decls y.span.storage ≡ true) two.1
          (ap (λ (y : Span). is_tree l.decls y.storage) can.upper_span_is ∙ tree-is))
      | inr old ↦ inl old
    ]
  ]

  layout_at : (i : ℕ) → page_at v.layout.slots t i ≡ page_at l.slots t i
  layout_at i = ap (λ (y : Layout). page_at y.slots t i) b.own.layout

  facing : (worker : ℕ) → v.role ≡ Worker worker
      → IsFacing l words' (Touched views) (suc worker) more w.took w.reads v.gone
  facing worker role =
      let third = page_at v.layout.slots t 3 in
      let fourth = page_at v.layout.slots t 4 in
      let first_reads = with_read v.reads at n in
      let second_reads = with_read first_reads third (lower.slot + 1) in
      let third_reads = with_read second_reads fourth (upper.slot + 1) in
      let wide = faces_wide l words views s id v more b
      (λ z old. twins_wide v.grip.holds lower.slot lower.span upper.slot upper.span v.ways z old) agree new_ways worker role in
      let one : IsFacing l words' (Touched views) (suc worker) more w.took first_reads v.gone =
      facing_own l words words' (Touched views) (suc worker) more v.took w.took v.reads first_reads v.gone at n (met_read v.reads at n)
      (λ k x j is other. record_word k x j is other) (λ k x j is other mine. still_took k x j is mine) record {
        page = λ u c few index word gone. way_in 0 (omega arith) at refl u c few index word gone;
        locked = λ k x is high. absurd (none_there 0 (omega arith) k x at refl is);
        stands = λ k x is. absurd (none_there 0 (omega arith) k x at refl is);
        unlike = λ k x j is here seen small low other. absurd (none_there 0 (omega arith) k x at refl is);
      } wide in
      let two : IsFacing l words' (Touched views) (suc worker) more w.took second_reads v.gone =
      facing_aside l words' (Touched views) (suc worker) more w.took first_reads v.gone third one words' second_reads (lower.slot + 1)
      (met_read first_reads third (lower.slot + 1)) (λ k x is. none_there 3 (omega arith) k x third (layout_at 3) is)
      (λ k x j is other. refl)
      (λ u c few index word gone. way_in 3 (omega arith) third (layout_at 3) u c few index word gone) in
      facing_aside l words' (Touched views) (suc worker) more w.took second_reads v.gone fourth two words' third_reads (upper.slot + 1)
      (met_read second_reads fourth (upper.slot + 1)) (λ k x is. none_there 4 (omega arith) k x fourth (layout_at 4) is)
      (λ k x j is other. refl)
      (λ u c few index word gone. way_in 4 (omega arith) fourth (layout_at 4) u c few index word gone)

  deals : Deals l words words' s p views v w
  deals = record {
    touched = λ q y. omega (arith, takes_same q y v w refl);
    locks = λ k has.
        inl (locks_left keys v.seat.locks k (subst (λ (z : List Key). has_key z k ≡ true) (settled_locks left) has)).0;
    changes = λ k x j is. inl (stays k x j is);
    facing = λ worker role. facing worker role;
    blamed = blamed l words views s id v b;
  }
    where
      stays : (k : Key) (x : Spot) (j : ℕ) → RecordStands l s k x j → get_or words' j 0 ≡ get_or words j 0
      stays k x j is =
          let word : j ≡ page_at l.slots x.slot (2 * x.index) = is.word in
          let index : x.index < 32 = is.index in
          let none = array_none (decl_of l.decls is.span.storage) s.trees d x.slot is.span is.kind is.over in
          let other : x.slot ≢ t = λ same. let no : None ≡ Some pg.fence = sym none ∙ (ap s.trees same ∙ pg.there) in absurd (cc) in
          step.others j (λ same. other (omega arith))

  -- ---- the step

  pub splitting : (tells : View → ℕ → View → Type 0) → (WaysAgree w.ways → tells v (get_or words at 0) w)
      → Stride l words views s p v at (λ _. n) tells
  splitting tells tells-so =
      let h = b.sound in
      let resting : is_trying v.seat.stage ≡ false = not_trying v.seat.stage can.idle in record {
        story = next;
        table = e;
        trees = s.trees;
        resident = s.resident;
        view = w;
        sound = done.sound;
        stays = done.stays;
        trees-stay = trees_same p s;
        turn = record {
          small = record { first = h.small.first; drawn = h.small.drawn; clock = h.small.clock };
          valued = h.valued;
          shown = split_words laws l words views s id v active b t sp lower upper keys separator n can;
          marks = marks_stay words words' s.seats p v.seat w.seat h.marks b.own.seat (settled_marks left)
              (λ j lo hi. step.others j (λ q. absurd (omega arith)));
          marked = λ place mark has. subst (λ (y : List Mark). slice_get y place ≡ Some mark) (sym (settled_marks left)) has;
          marks_low =
              subst (λ (y : List Mark). last_marked y < m.epoch) (sym (settled_marks left))
              (subst (λ (z : Seat). last_marked z.marks < m.epoch) (sym b.own.seat) (h.marked p));
          drawn = λ a has. inl has;
          tried = tried_goes m next s.seats p v.seat w.seat b.own.seat refl refl refl (inr resting) h.tried;
          fits = fits;
          role = refl;
          made = refl;
          mine = λ g. refl;
          drew = refl;
          few = let same : tries w ≡ tries v = ap (λ (c : Bool). cond c 1 0) (settled_trying left) in omega arith;
          room = omega (arith, h.sums.room);
          deals = deals;
          slots = refl;
          within = h.within;
          more = more_same s.resident;
          unpublished = λ other. refl;
          named = pages_named l s e refl refl h.named;
          laid_out = split_laid laws l words views s id v active b t sp lower upper keys separator n can;
          pages = own_pages l words words' s next e s.trees s.resident v w active refl refl b.pages
              (split_now laws l words views s id v active b t sp lower upper keys separator n can);
          frame = split_frame laws l words views s id v active b t sp lower upper keys separator n can;
        };
        tells-so = tells-so agree;
      }

pub splits_leaf : Laws → (l : Layout) (slots id : ℕ) (me : Me (Unit {0}) View) (t : ℕ) (sp : Span) (lower upper : NewLeaf)
    (keys : List Key) (separator n : ℕ) → IsActive me.0.role → CanSplit me.0 t sp lower upper keys separator n
    → Allows (λ s. Shows l s.words s.views) slots id me (page_at l.slots t 0) (λ _. n)
    (λ _ now. (now.1 ≡ me.1) × HasSplit t sp lower upper keys separator (page_at l.slots t 0) n me.0 now.0)
splits_leaf laws l slots id me t sp lower upper keys separator n active can =
    allows_at laws l slots id me (page_at l.slots t 0) (λ _. n)
    (λ v _ w. HasSplit t sp lower upper keys separator (page_at l.slots t 0) n v w) active
    (λ words views s b.
    agreed l words views s me.0 active (page_at l.slots t 0) (λ _. n)
    (λ v _ w. HasSplit t sp lower upper keys separator (page_at l.slots t 0) n v w)
    (splitting laws l words views s id me.0 active b t sp lower upper keys separator n can
    (λ v _ w. TreesAgree w → HasSplit t sp lower upper keys separator (page_at l.slots t 0) n v w)
    (λ agree trees. record { is = refl; agree = agree; trees = trees })))
