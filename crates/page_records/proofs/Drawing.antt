-- A draw: the attempt's number is the clock's word, and it stands behind all others.
use Rattle.std.proofs.Common.{◌≡◌, inl, inr, ℕ, ◌+◌, ◌%◌, ◌^◌, ◌<◌, Bool, true, false, true≢false, cond}
use Rattle.std.proofs.Common.{List, [], ◌∷◌, ◌++◌, length, length-append, get_or, set, refl, sym, ap, ◌∙◌, subst}
use Rattle.std.proofs.Common.{arith}
use Rattle.std.specs.Prelude.{is_some}
use Rattle.std.proofs.lemmas.List.{append-nil}
use Rattle.commit_core.specs.Places.{place_of}
use Rattle.std.specs.List.{Contains}
use Rattle.std.proofs.lemmas.Bool.{and_from, false_from_ne_true}
use Rattle.atomic_table.specs.Table.{Me, Allows}
use Rattle.lists.specs.Elements.{in_push_cases, at_push_new}
use Rattle.lists.specs.Fronts.{front_refl, front_grown}
use Rattle.serial_model.specs.declared.decl.Decl.{Decl}
use Rattle.serial_model.specs.declared.key.Key.{Key}
use Rattle.serial_model.specs.declared.number.Change.{Change}
use Rattle.serial_model.specs.Numbers.{IsBelow, not_below_itself}
use Rattle.homes.specs.declared.places.Content.{Content}
use Rattle.wire_form.specs.Words.{number_word}
use Rattle.commit_core.specs.declared.attempt.Attempt.{Attempt}
use Rattle.commit_core.specs.declared.event.Act.TheVariants.{Draw}
use Rattle.commit_core.specs.declared.seat.Seat.{Seat}
use Rattle.commit_core.specs.declared.seat.Stage.{Stage}
use Rattle.commit_core.specs.declared.story.Story.{Story}
use Rattle.commit_core.specs.CoreState.{can_begin, is_trying, same_keys, clock_of, is_checked, mark_of}
use Rattle.commit_core.specs.CoreState.{last_marked}
use Rattle.views.specs.Sums.{term_at_most}
use Rattle.engine_pages.specs.declared.layout.Layout.{Layout}
use Rattle.engine_pages.specs.declared.view.Role.{Role}
use Rattle.engine_pages.specs.declared.view.Role.TheVariants.{Keeper}
use Rattle.engine_pages.specs.declared.view.Version.{Version}
use Rattle.engine_pages.specs.declared.view.View.{View}
use Rattle.engine_pages.specs.Pages.{is_array}
use Rattle.engine_pages.specs.Rule.{IsOneOf, Shows}
use Rattle.engine_pages.specs.Views.{IsActive, HasPart, seat_number, waits, tries}
use Rattle.engine_pages.specs.Words.{IsSmall}
use Rattle.engine_pages.proofs.Dealing.{rests_low}
use Rattle.engine_pages.proofs.Joint.{Laws, seat_sound}
use Rattle.engine_pages.proofs.OwnView.{own_fits, part_goes}
use Rattle.engine_pages.proofs.PagesStay.{words_same}
use Rattle.engine_pages.proofs.Seats.{held_bit_grown, in_front, own_longer, records_longer, version_grown}
use Rattle.engine_pages.proofs.Turns.{allows_at, marks_stay, written}
use Rattle.page_records.specs.Attempts.{attempt_of, drew, HasDrawn}
use Rattle.engine_pages.proofs.CommitSteps.{commit_stride}
use Rattle.engine_pages.proofs.FirstWords.{FirstTen, first_kept, first_shown}
use Rattle.page_records.proofs.Opening.{not_trying}
use Rattle.page_records.proofs.Trying.{tried_drawn}

-- what was seen to have stood at a key is one of those that stood there still
version_drawn : (decls : List Decl) (opening : List (Key × Content)) (history : List Attempt) (a : Attempt) (x : Version)
    → IsOneOf decls opening history x → IsOneOf decls opening (history ++ a ∷ []) x
version_drawn decls opening history a x (inl lost) = inl lost
version_drawn decls opening history a x (inr version) =
    inr (version_grown opening history (history ++ a ∷ []) x.key x.content (a ∷ [], refl) version)

pub draws : Laws → (l : Layout) (slots id : ℕ) (me : Me (Unit {0}) View) (writes : List Change)
    → IsActive me.0.role → me.0.due ≡ true → can_begin me.0.seat.stage ≡ true → same_keys me.0.seat.locks writes ≡ true
    → ((w : Change) → Contains writes w → is_array me.0.layout.decls w.key.storage ≡ true → is_some w.value ≡ true)
    → Allows (λ s. Shows l s.words s.views) slots id me 0 (λ n. (n + 1) % 2 ^ 64)
    (λ n now. (now.1 ≡ me.1) × HasDrawn writes me.0 n now.0)
draws laws l slots id me writes active due idle same values =
    allows_at laws l slots id me 0 (λ n. (n + 1) % 2 ^ 64) (HasDrawn writes) active (λ words views s g.
    let v = me.0 in
    let h = g.sound in
    let f = g.fits in
    let p = seat_number v.role in
    let m = s.story in
    let clock = clock_of m.first_draw m.epoch m.history in
    let a : Attempt = attempt_of v clock writes in
    let next : Story = record m { history = m.history ++ a ∷ [] } in
    let w = drew m.history a v in
    let waited : waits v ≡ 1 = ap (λ b. cond b 1 0) due in
    let rests = not_trying v.seat.stage idle in
    let resting : tries v ≡ 0 = ap (λ b. cond b 1 0) rests in
    let more : length next.history ≡ length m.history + 1 = length-append m.history (a ∷ []) in
    let y : ℕ = (get_or words 0 0 + 1) % 2 ^ 64 in
    let y-is : y ≡ number_word (clock_of next.first_draw next.epoch next.history) =
    let is = h.shown.clock in let e = h.small.clock.epoch in let room = h.sums.room in omega arith in
    let wr = written words 0 y (let long = h.shown.long in omega arith) in
    let below : (b : Attempt) → Contains m.history b → IsBelow b.number clock = h.joint.commits.story.ordered_numbers.past in
    let words' = set words 0 y in
    let two : FirstTen l words words' m next = record {
      long = wr.long;
      others = λ j low. wr.others j (λ e. absurd (omega arith));
      clock = wr.here ∙ y-is;
      decisions = wr.others 1 (λ e. absurd (omega arith)) ∙ h.shown.decisions;
      places = refl;
      history = (a ∷ [], refl);
      decided = ([], append-nil m.decided);
    } in
    let pages = first_kept l words words' views s id v next active g two in
    commit_stride laws l words views s id v active g 0 (λ n. (n + 1) % 2 ^ 64) (Draw writes) next w (HasDrawn writes) record {
      lets = refl;
      allowed = and_from (can_begin v.seat.stage) (same_keys v.seat.locks writes) idle same;
      story-is = refl;
      seat-is = refl;
      grip = refl;
      role = refl;
      made = refl;
      small = record {
        first = h.small.first;
        drawn = λ b has. elim (in_push_cases b a m.history has) [
          | inl old ↦ h.small.drawn b old
          | inr new ↦ subst (λ (b : Attempt). IsSmall b.number) new h.small.clock
        ];
        clock = record { draw = omega (arith, h.sums.room, more, term_at_most waits views id v g.at); epoch = h.small.clock.epoch };
      };
      valued = λ b has. elim (in_push_cases b a m.history has) [
        | inl old ↦ h.valued b old
        | inr new ↦
            subst (λ (b : Attempt). (w : Change) → Contains b.writes w → is_array l.decls w.key.storage ≡ true → is_some w.value ≡ true) new
            (subst (λ (y : Layout). (w : Change) → Contains writes w → is_array y.decls w.key.storage ≡ true → is_some w.value ≡ true) g.own.layout values)
      ];
      shown = first_shown l words words' m next s.table s.trees s.resident two h.shown;
      marks = marks_stay words words' s.seats p v.seat w.seat h.marks g.own.seat refl
          (λ j lo hi. wr.others j (λ e. absurd (omega arith)));
      marked = λ place mark has. has;
      marks_low = subst (λ (z : Seat). last_marked z.marks < m.epoch) (sym g.own.seat) (h.marked p);
      drawn = λ b has. elim (in_push_cases b a m.history has) [
        | inl old ↦ inl old
        | inr new ↦ inr (ap (λ (b : Attempt). b.number.epoch) (sym new))
      ];
      tried = tried_drawn m s.seats p v.seat w.seat a g.own.seat
          (λ i stage. true≢false (sym (ap is_trying stage) ∙ rests))
          g.few refl refl h.tried;
      fits = own_fits l m next s.seats v w active f
          (part_goes v.role active v.made v.due false v.seat.stage w.seat.stage v.mine v.mine (λ _. refl)
          (λ no _. absurd (true≢false (sym due ∙ no))) f.part)
          refl refl refl refl refl (λ place mark has. has) record {
            history = front_refl next.history;
            decided = f.decided;
            heard = λ x has. (
              front_grown x.history m.history (a ∷ []) (f.heard x has).0,
              (f.heard x has).1,
              (f.heard x has).2,
            );
            mine = f.mine;
            mine_own = λ b has.
                own_longer v.role v.history next.history v.decided v.decided b
                (front_grown v.history m.history (a ∷ []) f.history) (front_refl v.decided) (f.mine_own b has);
            records = records_longer l.decls l.opening m.history a v.seat.kept f.records;
            kept = f.kept;
            versions = λ x has. version_drawn l.decls l.opening m.history a x (f.versions x has);
            loaded = tt;
            tried = (
              a,
              record {
                at = at_push_new m.history a;
                own = refl;
                exact = λ x. false_from_ne_true (is_checked m.checks clock x)
                    (λ e. not_below_itself clock clock refl (h.joint.commits.story.checks_are_past clock x e));
                above = λ b has. below b (in_front v.history m.history b f.history (f.mine_own b has).drawn);
              },
            );
            took = λ t has. let held = g.own.took t has in (
              held.0,
              record {
                spot = held.1.spot;
                home = held.1.home;
                own = held.1.own;
                absent = held.1.absent;
                number = held.1.number;
                bit = held_bit_grown l.decls m next t.key (place_of m.places held.0) held.1.absent (a ∷ [], refl)
                    ([], append-nil m.decided) held.1.bit;
              },
            );
            locked = g.own.locked;
            low = omega arith;
            epoch = λ keeper. omega arith;
            past = λ keeper. absurd (no_draw v.role keeper v.made v.due v.seat.stage v.mine due f.part);
          };
      mine = λ k. refl;
      drew = omega (arith, more);
      few = omega (arith, more);
      room = omega (arith, more, h.sums.room);
      now = record { within = pages.within; ways = pages.ways; drafts = pages.drafts; copies = pages.copies; blanks = pages.blanks; resident = pages.resident; leads = pages.leads; fills = pages.fills; known = pages.known; shuts = pages.shuts; heads = pages.heads; moved = pages.moved; sealed = pages.sealed; inners = pages.inners; new_leaves = pages.new_leaves; new_inners = pages.new_inners };
      frame = words_same l words words' s p (λ j low. wr.others j (λ e. absurd (omega arith)));
      deals = rests_low l words views s id v g words' w
          record { role = refl; ways = refl; took = refl; gone = refl; touched = refl; blamed = refl; locks = refl } refl
          (λ j low. wr.others j (λ e. absurd (omega arith)));
    }
    record {
      all = m.history;
      number = clock;
      seen = f.history;
      small = h.small.clock;
      found = sym h.shown.clock;
      draw = ap (λ x. x + length m.history) (h.first ∙ ap (λ (z : Layout). z.first.draw) (sym g.own.layout));
      above = below;
      epoch = f.low;
      marked = λ e is. ((seat_sound l s p g.few h.joint).marks_are_past e (ap (λ (x : Seat). mark_of x.marks) (sym g.own.seat) ∙ is)).0;
      is = refl;
    })
  where
    no_draw : (role : Role) → role ≡ Keeper
        → (made : List ℕ) (due : Bool) (stage : Stage) (mine : List Attempt) → due ≡ true
        → HasPart role made due stage mine → ⊥
    no_draw role is made due stage mine waits part =
        true≢false (sym waits ∙ (subst (λ r. HasPart r made due stage mine) is part).0)
