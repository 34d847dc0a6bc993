-- A transaction ends before its draw: what was kept is dropped.
use Rattle.std.proofs.Common.{◌≡◌, ◌⊎◌, inl, inr, ℕ, suc, ◌+◌, ◌*◌, ◌<◌, ◌≤◌, ◌^◌, Bool, true, false, true≢false}
use Rattle.std.proofs.Common.{List, [], ◌∷◌, ◌++◌, length, get_or, set, refl, sym, ap, ◌∙◌, subst, arith, Option, Some, None}
use Rattle.std.specs.Prelude.{nat_lt, unwrap_or}
use Rattle.std.proofs.lemmas.Bool.Decides.{nat_tests}
use Rattle.std.proofs.lemmas.List.{append-nil}
use Rattle.atomic_table.specs.Table.{Me, Allows}
use Rattle.lists.specs.Elements.{in_push_cases}
use Rattle.serial_model.specs.declared.key.Key.{Key}
use Rattle.homes.specs.declared.places.At.{At}
use Rattle.homes.specs.declared.places.At.TheVariants.{Root, In}
use Rattle.homes.specs.declared.places.Span.{Span}
use Rattle.homes.specs.declared.places.Spot.{Spot}
use Rattle.commit_core.specs.declared.event.Act.TheVariants.{Forget}
use Rattle.commit_core.specs.declared.seat.Seat.{Seat}
use Rattle.commit_core.specs.CoreState.{can_begin, last_marked}
use Rattle.engine_pages.specs.declared.layout.Layout.{Layout}
use Rattle.engine_pages.specs.declared.view.Read.{Read}
use Rattle.engine_pages.specs.declared.view.RefusalCause.{RefusalCause}
use Rattle.engine_pages.specs.declared.view.RefusalCause.TheVariants.{Conflict, Full, Wide, NumberLimit}
use Rattle.engine_pages.specs.declared.view.Role.{Role}
use Rattle.engine_pages.specs.declared.view.Role.TheVariants.{Keeper, Worker, Note, Spent}
use Rattle.engine_pages.specs.declared.view.Touch.{Touch}
use Rattle.engine_pages.specs.declared.view.View.{View}
use Rattle.engine_pages.specs.Layout.{page_at, root_at, slot_at}
use Rattle.engine_pages.specs.Pointers.{IsPointerAt, one_kind}
use Rattle.engine_pages.specs.Records.{IsRecordAt, IsRecordIn}
use Rattle.engine_pages.specs.Rule.{Faces, Shared, Shows}
use Rattle.engine_pages.specs.Touches.{AreBlamed, IsFacing, Other, Touched, has_took, touch}
use Rattle.engine_pages.specs.Views.{IsActive, seat_number, waits}
use Rattle.engine_pages.specs.Words.{ShowsWords}
use Rattle.engine_pages.proofs.CommitSteps.{commit_stride}
use Rattle.engine_pages.proofs.Dealing.{blamed, faces, record_here, stands_at}
use Rattle.engine_pages.proofs.Facing.{takes_same}
use Rattle.engine_pages.proofs.FirstWords.{FirstTen, first_kept}
use Rattle.engine_pages.proofs.Joint.{Laws}
use Rattle.engine_pages.proofs.Leaves.{one_record}
use Rattle.engine_pages.proofs.OwnView.{own_fits, part_goes}
use Rattle.engine_pages.proofs.PagesStay.{words_same}
use Rattle.engine_pages.proofs.Seats.{records_none}
use Rattle.engine_pages.proofs.Turns.{Begins, allows_at, marks_stay, tried_goes, unwritten}
use Rattle.engine_pages.proofs.WayLaws.{ways_agree}
use Rattle.page_records.specs.Ends.{HasForgotten, IsDue, IsInTheWay, IsMetFor, IsTreeWordAt}
use Rattle.page_records.specs.Ends.{forgot_for, worker_of}
use Rattle.page_records.proofs.Placing.{low_none}
use Rattle.engine_pages.specs.Pages.{decl_of, is_array}

pub worker_acts : (role : Role) (worker : ℕ) → role ≡ Worker worker → IsActive role
worker_acts Keeper worker e = tt
worker_acts (Worker w) worker e = tt
worker_acts Note worker e = absurd (cc)
worker_acts Spent worker e = absurd (cc)

split_small : (n : ℕ) → (2 ^ 60 ≤ n) ⊎ (n < 2 ^ 60)
split_small n = by_test (nat_lt n (2 ^ 60)) refl
  where
    by_test : (b : Bool) → nat_lt n (2 ^ 60) ≡ b → (2 ^ 60 ≤ n) ⊎ (n < 2 ^ 60)
    by_test true is = inr (grind (arith, nat_tests))
    by_test false is = inl (grind (arith, nat_tests))

module _ (l : Layout) (words : List ℕ) (views : List View) (s : Shared) (id : ℕ) (v : View)
    (b : Begins l words views s id v) (worker : v.role ≡ Worker (worker_of v.role)) where
  abbrev p : ℕ
  p = seat_number v.role

  -- what is due for a record's word is owed to another seat that took a lock of its key
  due_faces : (k : Key) (x : Spot) (at expected seen : ℕ) → IsInTheWay k x at expected seen v → Other (Touched views) p k
  due_faces k x at expected seen due = subst (λ q. Other (Touched views) q k) (sym (ap seat_number worker)) (by_cause due.cause)
    where
      it : Read
      it = record { word = at; seen = seen; was = due.was; kept = due.kept }

      there : IsRecordIn l.decls l.slots v.ways k x at
      there = record_here l words views s id v b k x at due.place

      f : IsFacing l words (Touched views) (suc (worker_of v.role)) v.ways v.took v.reads v.gone
      f = faces l words views s id v b (worker_of v.role) worker

      by_lock : (has_took v.took k x ≡ true) ⊎ Other (Touched views) (suc (worker_of v.role)) k
          → Other (Touched views) (suc (worker_of v.role)) k
      by_lock (inl mine) = absurd (true≢false (sym mine ∙ due.free))
      by_lock (inr other) = other

      -- a word that was seen locked stands so, or somebody took a lock since
      by_high : 2 ^ 60 ≤ seen → Other (Touched views) (suc (worker_of v.role)) k
      by_high high = elim (f.stands k x it due.stands there due.here) [
        | inl stood ↦ by_lock (f.locked k x at there (subst (λ y. 2 ^ 60 ≤ y) (sym stood) high))
        | inr other ↦ other
      ]

      by_was : (o : Option ℕ) → due.was ≡ o → expected ≡ unwrap_or o seen → expected < 2 ^ 60 → seen < 2 ^ 60
          → (seen ≡ expected → ⊥) → Other (Touched views) (suc (worker_of v.role)) k
      by_was None is known small low other = absurd (other (sym known))
      by_was (Some m) is known small low other =
          f.unlike k x it m due.stands there due.here is (omega (arith, small, known)) low (λ e. other (sym e ∙ sym known))

      by_cause : (2 ^ 60 ≤ seen) ⊎ ((expected < 2 ^ 60) × (seen ≡ expected → ⊥))
          → Other (Touched views) (suc (worker_of v.role)) k
      by_cause (inl high) = by_high high
      by_cause (inr unlike) = elim (split_small seen) [
        | inl high ↦ by_high high
        | inr low ↦ by_was due.was refl due.known unlike.0 low unlike.1
      ]

  -- a record's word is its own key's, no pointer's and no slot's
  one_key : (k q : Key) (x y : Spot) (at : ℕ) → IsRecordAt v k x at → IsRecordAt v q y at → q ≡ k
  one_key k q x y at a c =
      (one_record l words views s b.sound k q x y at
      (stands_at l words views s id v b k x at (record_here l words views s id v b k x at a))
      (stands_at l words views s id v b q y at (record_here l words views s id v b q y at c))).0

  no_pointer : (k : Key) (x : Spot) (y : At) (sp : Span) (at : ℕ) → IsRecordAt v k x at → IsPointerAt v y sp at → ⊥
  no_pointer k x (Root r) sp at a root =
      let decls = b.sound.few.1 in
      let low : r < length l.decls = subst (λ (z : Layout). r < length z.decls) b.own.layout root.0 in
      let word : at ≡ page_at v.layout.slots x.slot (2 * x.index) = a.word in
      let place : at ≡ root_at r = root.2 in absurd (omega arith)
  no_pointer k x (In y) sp at a (inl child) =
      let word : at ≡ page_at v.layout.slots x.slot (2 * x.index) = a.word in
      let place : at ≡ page_at v.layout.slots y.slot y.index = child.word in
      let index : x.index < 32 = a.index in
      let few = child.index in
      let same : x.slot ≡ y.slot = omega arith in
      let agree = ways_agree l s.table s.trees v.grip.holds v.ways b.pages.ways a.way child.way a.has child.has
      (a.slot ∙ (same ∙ sym child.slot)) in
      true≢false (sym a.leaf ∙ (agree.2 ∙ child.inner))
  no_pointer k x (In y) sp at a (inr branch) =
      let in-page = b.pages.treed.inners branch.inner branch.knows in
      let few : length branch.inner.separators < 30 = in-page.few in
      let word : at ≡ page_at v.layout.slots x.slot (2 * x.index) = a.word in
      let place : at ≡ page_at v.layout.slots y.slot (4 + y.index) = branch.word in
      let index : x.index < 32 = a.index in
      let less = branch.index in
      let same : x.slot ≡ y.slot = omega arith in
      let agree = ways_agree l s.table s.trees v.grip.holds v.ways b.pages.ways a.way branch.way a.has branch.has
      (a.slot ∙ (same ∙ sym branch.slot)) in
      one_kind (decl_of v.layout.decls (branch.way).span.storage)
      (ap (λ (z : ℕ). is_array v.layout.decls z) (sym agree.0) ∙ a.kind) branch.kind

  no_tree : (k : Key) (x : Spot) (t i at : ℕ) → IsRecordAt v k x at → IsTreeWordAt v t i at → ⊥
  no_tree k x t i at a tree =
      let word : at ≡ page_at v.layout.slots x.slot (2 * x.index) = a.word in
      let place = tree.word in
      let index : x.index < 32 = a.index in
      let few = tree.index in
      let same : x.slot ≡ t = omega arith in
      let agree = ways_agree l s.table s.trees v.grip.holds v.ways b.pages.ways a.way tree.way a.has tree.has
      (a.slot ∙ (same ∙ sym tree.slot)) in
      one_kind (decl_of v.layout.decls (tree.way).span.storage)
      (ap (λ (z : ℕ). is_array v.layout.decls z) (sym agree.0) ∙ a.kind) tree.kind

  no_slot : (k : Key) (x : Spot) (t at : ℕ) → IsRecordAt v k x at → t < v.layout.slots → at ≡ slot_at t → ⊥
  no_slot k x t at a within place =
      let word : at ≡ page_at v.layout.slots x.slot (2 * x.index) = a.word in absurd (omega (arith, word, within, place))

  -- whom the transaction met
  record MetBy (why : Option RefusalCause) : Type 0 where
    met : List Touch
    of : IsMetFor why met v
    blamed : AreBlamed (Touched views) (v.blamed ++ met)

  nobody_met : AreBlamed (Touched views) (v.blamed ++ [])
  nobody_met =
      subst (λ (z : List Touch). AreBlamed (Touched views) z) (sym (append-nil v.blamed)) (blamed l words views s id v b)

  met_by : (why : Option RefusalCause) → IsDue why v → MetBy why
  met_by None due = record { met = []; of = refl; blamed = nobody_met }
  met_by (Some (Conflict at expected seen)) (inl due) =
      let k : Key = due.0 in
      let x : Spot = due.1 in record {
        met = touch p k ∷ [];
        of = record {
          keyed = λ q y here. ap (λ (z : Key). touch p z ∷ []) (sym (one_key k q x y at due.2.place here));
          pointer = λ y sp here. absurd (no_pointer k x y sp at due.2.place here);
          slot = λ t within here. absurd (no_slot k x t at due.2.place within here);
          tree = λ t i here. absurd (no_tree k x t i at due.2.place here);
        };
        blamed = λ c has. elim (in_push_cases c (touch p k) v.blamed has) [
          | inl old ↦ blamed l words views s id v b c old
          | inr is ↦ subst (λ (z : Touch). Other (Touched views) z.seat z.key) is
              (due_faces k x at expected seen due.2)
        ];
      }
  met_by (Some (Conflict at expected seen)) (inr (inl due)) = record {
    met = [];
    of = record {
      keyed = λ q y here. absurd (no_pointer q y due.0 due.1 at here due.2.place);
      pointer = λ y sp here. refl;
      slot = λ t within here. refl;
      tree = λ t i here. refl;
    };
    blamed = nobody_met;
  }
  met_by (Some (Conflict at expected seen)) (inr (inr (inr due))) = record {
    met = [];
    of = record {
      keyed = λ q y here. absurd (no_tree q y due.0 due.1 at here due.2.place.word);
      pointer = λ y sp here. refl;
      slot = λ t within here. refl;
      tree = λ t i here. refl;
    };
    blamed = nobody_met;
  }
  met_by (Some (Conflict at expected seen)) (inr (inr (inl due))) = record {
    met = [];
    of = record {
      keyed = λ q y here. absurd (no_slot q y due.0 at here due.1.within due.1.place);
      pointer = λ y sp here. refl;
      slot = λ t within here. refl;
      tree = λ t i here. refl;
    };
    blamed = nobody_met;
  }
  met_by (Some (Full held)) due = record { met = []; of = refl; blamed = nobody_met }
  met_by (Some (Wide set)) due = record { met = []; of = refl; blamed = nobody_met }
  met_by (Some (NumberLimit clock)) due = absurd due

pub forgets : Laws → (l : Layout) (slots id : ℕ) (me : Me (Unit {0}) View) (why : Option RefusalCause)
    → me.0.role ≡ Worker (worker_of me.0.role) → can_begin me.0.seat.stage ≡ true → IsDue why me.0
    → Allows (λ s. Shows l s.words s.views) slots id me 0 (λ n. n)
    (λ n now. (now.1 ≡ me.1) × HasForgotten why me.0 now.0)
forgets laws l slots id me why worker idle due =
    let active = worker_acts me.0.role (worker_of me.0.role) worker in
    allows_at laws l slots id me 0 (λ n. n) (λ v _ w. HasForgotten why v w) active (λ words views s b.
    let v = me.0 in
    let p = seat_number v.role in
    let m = s.story in
    let h = b.sound in
    let f = b.fits in
    let own = b.own in
    let met = met_by l words views s id v b worker why due in
    let w = forgot_for why met.met v in
    let words' = set words 0 (get_or words 0 0) in
    let same : words' ≡ words = unwritten words 0 in
    let waited : waits w ≡ 0 = refl in
    let ten : FirstTen l words words' m m = record {
      long = ap (λ (z : List ℕ). length z) same;
      others = λ j low. ap (λ (z : List ℕ). get_or z j 0) same;
      clock = ap (λ (z : List ℕ). get_or z 0 0) same ∙ h.shown.clock;
      decisions = ap (λ (z : List ℕ). get_or z 1 0) same ∙ h.shown.decisions;
      places = refl;
      history = ([], append-nil m.history);
      decided = ([], append-nil m.decided);
    } in
    let pages = first_kept l words words' views s id v m active b ten in
    commit_stride laws l words views s id v active b 0 (λ n. n) Forget m w (λ v _ w. HasForgotten why v w) record {
      lets = refl;
      allowed = idle;
      story-is = refl;
      seat-is = refl;
      grip = refl;
      role = refl;
      made = refl;
      small = h.small;
      valued = h.valued;
      shown = subst (λ (z : List ℕ). ShowsWords l z m s.table s.trees s.resident) (sym same) h.shown;
      marks = marks_stay words words' s.seats p v.seat w.seat h.marks own.seat refl
          (λ j lo hi. ap (λ y. get_or y j 0) same);
      marked = λ place mark has. has;
      marks_low = subst (λ (z : Seat). last_marked z.marks < m.epoch) (sym own.seat) (h.marked p);
      drawn = λ a has. inl has;
      tried = tried_goes m m s.seats p v.seat w.seat own.seat refl refl refl (inl refl) h.tried;
      fits = own_fits l m m s.seats v w active f
          (part_goes v.role active v.made v.due false v.seat.stage w.seat.stage v.mine v.mine (λ _. refl) (λ _ e. e) f.part)
          refl refl refl refl refl (λ place mark has. has) record {
            history = f.history;
            decided = f.decided;
            heard = f.heard;
            mine = f.mine;
            mine_own = f.mine_own;
            records = records_none l.decls l.opening m.history;
            kept = low_none m.places;
            versions = f.versions;
            loaded = tt;
            tried = own.tried;
            took = own.took;
            locked = own.locked;
            low = f.low;
            epoch = λ keeper. (f.keepers keeper).epoch;
            past = λ keeper. (f.keepers keeper).past;
          };
      mine = λ z. refl;
      drew = refl;
      few = omega arith;
      room = omega (arith, h.sums.room);
      now = record { within = pages.within; ways = pages.ways; drafts = pages.drafts; copies = pages.copies; blanks = pages.blanks; resident = pages.resident; leads = pages.leads; fills = pages.fills; known = pages.known; shuts = pages.shuts; heads = pages.heads; moved = pages.moved; sealed = pages.sealed; inners = pages.inners; new_leaves = pages.new_leaves; new_inners = pages.new_inners };
      frame = words_same l words words' s p (λ j low. ap (λ (z : List ℕ). get_or z j 0) same);
      deals = record {
        touched = λ q k. omega (arith, takes_same q k v w refl);
        locks = λ k has. inl has;
        changes = λ k x at r. inl (ap (λ (z : List ℕ). get_or z at 0) same);
        facing = subst (λ (z : List ℕ). Faces l z views v) (sym same) (faces l words views s id v b);
        blamed = met.blamed;
      };
    }
    record { met = met.met; of = met.of; is = refl })
