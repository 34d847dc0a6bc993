-- A decision: the attempt counts, and read what the state below its number has.
use Rattle.std.proofs.Common.{◌≡◌, inl, inr, ℕ, ◌+◌, ◌%◌, ◌^◌, ◌<◌, Bool, true, false, true≢false, not}
use Rattle.std.proofs.Common.{cond, List, [], ◌∷◌, ◌++◌, length, length-append, get_or, set, refl, sym, ap, ◌∙◌}
use Rattle.std.proofs.Common.{subst, arith, Some}
use Rattle.std.specs.Prelude.{◌&&◌, ◌||◌}
use Rattle.std.specs.List.{Contains, slice_get, list_all}
use Rattle.std.specs.Option.{option_map_or}
use Rattle.std.proofs.lemmas.List.{append-nil}
use Rattle.commit_core.specs.Places.{place_of}
use Rattle.atomic_table.specs.Table.{Me, Allows}
use Rattle.lists.specs.Elements.{at_in, in_head, in_tail, in_push_cases}
use Rattle.lists.specs.Fronts.{front_refl, front_grown}
use Rattle.serial_model.specs.declared.key.Key.{Key}
use Rattle.serial_model.specs.declared.number.Number.{Number}
use Rattle.homes.specs.Homes.{has_key}
use Rattle.serial_model.specs.Numbers.{IsBelow}
use Rattle.commit_core.specs.declared.attempt.Attempt.{Attempt}
use Rattle.commit_core.specs.declared.event.Act.TheVariants.{Decide}
use Rattle.commit_core.specs.declared.part.Part.{Part}
use Rattle.commit_core.specs.declared.seat.Mark.{Mark}
use Rattle.commit_core.specs.declared.seat.Seat.{Seat}
use Rattle.commit_core.specs.declared.story.Story.{Story}
use Rattle.commit_core.specs.CoreState.{attempt_tried, is_checked, is_decided, is_given_up, is_in_progress, is_trying}
use Rattle.commit_core.specs.Event.{all_checked, decided_stage, after_decide}
use Rattle.commit_core.specs.Keys.{IsUpTo, content_at, opening_number}
use Rattle.commit_core.specs.Law.{SoundIsSerial}
use Rattle.commit_core.specs.Lemmas.Numbers.{decided_new}
use Rattle.commit_core.specs.Lemmas.Shows.{opening_below}
use Rattle.commit_core.specs.Lemmas.States.{rises_low}
use Rattle.commit_core.specs.Lemmas.Versions.{some_key}
use Rattle.commit_core.specs.Opening.{Grows}
use Rattle.commit_core.specs.Serial.{ReadsFrom, state_below}
use Rattle.commit_core.specs.Sound.{IsSoundStory}
use Rattle.commit_core.specs.CoreState.{last_marked}
use Rattle.commit_core.specs.Event.{is_allowed as commit_allows, effect as commit_effect}
use Rattle.engine_rule.specs.declared.event.JointAct.TheVariants.{Commit}
use Rattle.views.specs.Sums.{total-append}
use Rattle.engine_pages.specs.declared.layout.Layout.{Layout}
use Rattle.engine_pages.specs.declared.view.View.{View}
use Rattle.engine_pages.specs.Rule.{IsInOrder, IsOwn, has_word, KeptAreRecords, KeptIsLow, Tried, Shows}
use Rattle.engine_pages.specs.Views.{IsActive, seat_number, tries}
use Rattle.engine_pages.proofs.Dealing.{rests_low}
use Rattle.engine_pages.proofs.Joint.{Laws, may_do, joint_act}
use Rattle.engine_pages.proofs.OwnView.{own_fits, part_goes}
use Rattle.engine_pages.proofs.PagesStay.{words_same}
use Rattle.engine_pages.proofs.Seats.{at_front, held_bit_grown, own_longer, records_none, past_stays}
use Rattle.engine_pages.proofs.Turns.{allows_at, marks_stay, written}
use Rattle.page_records.specs.Attempts.{CanDecide, chose, HasChosen}
use Rattle.engine_pages.proofs.CommitSteps.{commit_stride}
use Rattle.engine_pages.proofs.FirstWords.{FirstTen, first_kept, first_shown}
use Rattle.page_records.proofs.Placing.{low_none}
use Rattle.page_records.proofs.Settling.{settled_trying, settled_tried, settled_marks, settled_kept, settled_locks}
use Rattle.page_records.proofs.Trying.{tried_at, attempt_here, never_idle, tried_over}

all_same : (f g : Part → Bool) (parts : List Part) → ((x : Part) → f x ≡ g x) → list_all f parts ≡ list_all g parts
all_same f g [] h = refl
all_same f g (x ∷ xs) h = rw (h x) (ap (λ b. g x && b) (all_same f g xs h))

-- one more behind those of lower numbers
order_more : (low : Number) (xs : List Attempt) (a : Attempt) → IsInOrder low xs → IsUpTo low a.number
    → ((b : Attempt) → Contains xs b → IsBelow b.number a.number) → IsInOrder low (xs ++ a ∷ [])
order_more low [] a order up above = (up, tt)
order_more low (x ∷ xs) a order up above =
    (order.0, order_more x.number xs a order.1 (inr (above x (in_head x xs))) (λ b has. above b (in_tail b x xs has)))

over_decided : (decided given_up : List Number) (n : Number) → is_in_progress (decided ++ n ∷ []) given_up n ≡ true → ⊥
over_decided decided given_up n now =
    true≢false (sym now ∙ ap (λ b. not (b || is_given_up given_up n)) (decided_new decided n n refl))

pub decides : Laws → SoundIsSerial → (l : Layout) (slots id : ℕ) (me : Me (Unit {0}) View)
    → IsActive me.0.role → CanDecide me.0
    → Allows (λ s. Shows l s.words s.views) slots id me 1 (λ n. (n + 1) % 2 ^ 64)
    (λ n now. (now.1 ≡ me.1) × HasChosen me.0 n now.0)
decides laws serial l slots id me active can =
    allows_at laws l slots id me 1 (λ n. (n + 1) % 2 ^ 64) HasChosen active (λ words views s g.
    let v = me.0 in
    let h = g.sound in
    let f = g.fits in
    let p = seat_number v.role in
    let m = s.story in
    let i = can.index in
    let a = can.attempt in
    let t = tried_at p v.history m.checks v.checked v.mine v.seat.stage i a can.stage can.at g.own.tried in
    let here : slice_get m.history i ≡ Some a = at_front v.history m.history i a f.history can.at in
    let drawn : Contains m.history a = at_in m.history i a here in
    let tried : attempt_tried m.history v.seat.stage ≡ Some a =
    attempt_here v.history m.history v.seat.stage i a can.stage can.at f.history in
    let next : Story = record m { decided = m.decided ++ a.number ∷ [] } in
    let s' : Seat = record v.seat { put = []; stage = decided_stage v.seat.stage } in
    let w = chose m.history m.decided a v in
    let ends : is_trying s'.stage ≡ false = ap (λ y. is_trying (decided_stage y)) can.stage in
    let was : tries v ≡ 1 = ap (λ y. cond (is_trying y) 1 0) can.stage in
    let now : tries w ≡ 0 = ap (λ b. cond b 1 0) (settled_trying s' ∙ ends) in
    let more : length next.decided ≡ length m.decided + 1 = length-append m.decided (a.number ∷ []) in
    let y : ℕ = (get_or words 1 0 + 1) % 2 ^ 64 in
    let y-is : y ≡ length next.decided =
    let found = h.shown.decisions in let few = h.sums.few_open in let room = h.sums.room in omega (arith, more) in
    let wr = written words 1 y (let long = h.shown.long in omega arith) in
    let allowed =
    ap (λ o. option_map_or (all_checked m.checks) o false) tried
    ∙ (all_same (λ part. is_checked m.checks a.number part.word) (λ part. has_word v.checked part.word) a.parts
    (λ part. t.exact part.word) ∙ can.all) in
    let story-is = ap (λ o. (after_decide m v.seat o).story) tried in
    let grows : Grows m next = record {
      history = ([], append-nil m.history);
      checks = ([], append-nil m.checks);
      decided = (a.number ∷ [], refl);
      given_up = ([], append-nil m.given_up);
      first_draw = refl;
      epoch = omega arith;
    } in
    let may : may_do s p (Commit Decide) ≡ true =
    subst (λ (x : Seat). commit_allows p m x Decide ≡ true) g.own.seat allowed in
    let story-now : (commit_effect p m (s.seats p) Decide).story ≡ next =
    subst (λ (x : Seat). (commit_effect p m x Decide).story ≡ next) g.own.seat story-is in
    let sound : IsSoundStory l.opening next =
    subst (IsSoundStory l.opening) story-now
    (joint_act laws l s p (Commit Decide) g.few may h.joint).sound.commits.story in
    let words' = set words 1 y in
    let two : FirstTen l words words' m next = record {
      long = wr.long;
      others = λ j low. wr.others j (λ e. absurd (omega arith));
      clock = wr.others 0 (λ e. absurd (omega arith)) ∙ h.shown.clock;
      decisions = wr.here ∙ y-is;
      places = refl;
      history = grows.history;
      decided = grows.decided;
    } in
    let pages = first_kept l words words' views s id v next active g two in
    let counts : is_decided next.decided a.number ≡ true = decided_new m.decided a.number a.number refl in
    commit_stride laws l words views s id v active g 1 (λ n. (n + 1) % 2 ^ 64) Decide next w HasChosen record {
      lets = refl;
      allowed = allowed;
      story-is = story-is;
      seat-is = ap (λ o. (after_decide m v.seat o).seat) tried;
      grip = refl;
      role = refl;
      made = refl;
      small = record { first = h.small.first; drawn = h.small.drawn; clock = h.small.clock };
      valued = h.valued;
      shown = first_shown l words words' m next s.table s.trees s.resident two h.shown;
      marks = marks_stay words words' s.seats p v.seat w.seat h.marks g.own.seat (settled_marks s')
          (λ j lo hi. wr.others j (λ e. absurd (omega arith)));
      marked = λ place mark has. subst (λ (z : List Mark). slice_get z place ≡ Some mark) (sym (settled_marks s')) has;
      marks_low = subst (λ (z : List Mark). last_marked z < m.epoch) (sym (settled_marks s'))
          (subst (λ (z : Seat). last_marked z.marks < m.epoch) (sym g.own.seat) (h.marked p));
      drawn = λ b has. inl has;
      tried = tried_over m next s.seats p i v.seat w.seat a g.own.seat can.stage here refl grows
          (over_decided m.decided m.given_up a.number) h.tried;
      fits = own_fits l m next s.seats v w active f
          (part_goes v.role active v.made v.due v.due v.seat.stage w.seat.stage v.mine w.mine (λ z. z)
          (λ _ idle. absurd (never_idle v.seat.stage i can.stage idle)) f.part)
          refl refl refl refl refl
          (λ place mark has. subst (λ (z : List Mark). slice_get z place ≡ Some mark) (sym (settled_marks s')) has) record {
            history = front_refl m.history;
            decided = front_refl next.decided;
            heard = λ x has. (
              (f.heard x has).0,
              front_grown x.decided m.decided (a.number ∷ []) (f.heard x has).1,
              (f.heard x has).2,
            );
            mine = order_more opening_number v.mine a f.mine
                (inr (opening_below (content_at l.opening some_key).number a.number
                (rises_low (content_at l.opening some_key).number m.history (h.joint.commits.story.ordered_numbers.rising some_key) a
                drawn)))
                t.above;
            mine_own = λ b has. elim (in_push_cases b a v.mine has) [
              | inl old ↦
                  own_longer v.role v.history m.history v.decided next.decided b f.history
                  (front_grown v.decided m.decided (a.number ∷ []) f.decided) (f.mine_own b old)
              | inr new ↦
                  subst (IsOwn v.role m.history next.decided) new
                  record { drawn = drawn; counts = counts; by = λ worker role. t.own ∙ ap seat_number role }
            ];
            records = settled_kept (KeptAreRecords l.decls l.opening m.history) s' f.records (records_none l.decls l.opening m.history);
            kept = settled_kept (KeptIsLow m.places) s' f.kept (low_none m.places);
            versions = f.versions;
            loaded = tt;
            tried = settled_tried p m.history m.checks v.checked w.mine s'
                (subst (λ z. Tried p m.history m.checks v.checked w.mine (decided_stage z)) (sym can.stage) (a, here));
            took = λ z has. let held = g.own.took z has in (
              held.0,
              record {
                spot = held.1.spot;
                home = held.1.home;
                own = held.1.own;
                absent = held.1.absent;
                number = held.1.number;
                bit = held_bit_grown l.decls m next z.key (place_of m.places held.0) held.1.absent grows.history
                    grows.decided held.1.bit;
              },
            );
            locked = λ k has. g.own.locked k (subst (λ (z : List Key). has_key z k ≡ true) (settled_locks s') has);
            low = f.low;
            epoch = λ keeper. (f.keepers keeper).epoch;
            past = λ keeper. past_stays m next v.past grows (λ b has. inl has) (f.keepers keeper).past;
          };
      mine = λ k. omega (
        arith,
        total-append (λ (b : Attempt). k b.number) v.mine (a ∷ []),
        total-append k m.decided (a.number ∷ []),
      );
      drew = refl;
      few = omega (arith, more);
      room = omega (arith, h.sums.room);
      now = record { within = pages.within; ways = pages.ways; drafts = pages.drafts; copies = pages.copies; blanks = pages.blanks; resident = pages.resident; leads = pages.leads; fills = pages.fills; known = pages.known; shuts = pages.shuts; heads = pages.heads; moved = pages.moved; sealed = pages.sealed; inners = pages.inners; new_leaves = pages.new_leaves; new_inners = pages.new_inners };
      frame = words_same l words words' s p (λ j low. wr.others j (λ e. absurd (omega arith)));
      deals = rests_low l words views s id v g words' w
          record { role = refl; ways = refl; took = refl; gone = refl; touched = refl; blamed = refl; locks = settled_locks s' } refl
          (λ j low. wr.others j (λ e. absurd (omega arith)));
    }
    record {
      history = m.history;
      decided = m.decided;
      index = i;
      attempt = a;
      drawn = f.history;
      seen = f.decided;
      count = sym h.shown.decisions;
      stage = can.stage;
      at = can.at;
      reads = subst (λ (z : Layout). ReadsFrom (state_below z.opening m.history next.decided a.number) a) (sym g.own.layout)
          ((serial l.opening next sound).reads a drawn counts);
      is = refl;
    })
