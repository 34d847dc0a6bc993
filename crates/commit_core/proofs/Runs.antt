-- Lists of events: each keeps a sound state sound, and attempts, checks, decisions and marks are only added.
use Rattle.std.proofs.Common.{◌≡◌, ℕ, Bool, true, false, not, true≢false, eqb, ◌&&◌, ◌⊎◌, inl, inr, List, [], ◌∷◌, ◌++◌, refl, sym, ap, ◌∙◌, subst, length, set, length-set, append_assoc, arith, Option, Some, None}
use Rattle.std.proofs.lemmas.Bool.{and_parts, cases_Bool, cond_both, eq-eqb, eqb-true}
use Rattle.std.specs.List.{slice_get}
use Rattle.std.specs.Prelude.{nat_lt, filter}
use Rattle.std.specs.Option.{option_map_or}
use Rattle.homes.specs.declared.places.Content.{Content}
use Rattle.homes.specs.declared.places.Spot.{Spot}
use Rattle.commit_core.specs.declared.part.Word.{Word}
use Rattle.commit_core.specs.declared.part.Word.TheVariants.{Record}
use Rattle.serial_model.specs.declared.key.Key.{Key}
use Rattle.serial_model.specs.Numbers.{last_epoch}
use Rattle.commit_core.specs.declared.place.Place.{Place}
use Rattle.commit_core.specs.declared.attempt.Attempt.{Attempt}
use Rattle.commit_core.specs.declared.seat.Mark.{Mark as TheMark}
use Rattle.commit_core.specs.declared.seat.Stage.{Stage}
use Rattle.commit_core.specs.declared.seat.Stage.TheVariants.{Idle, Trying, Ended, Decided}
use Rattle.commit_core.specs.declared.seat.Seat.{Seat}
use Rattle.commit_core.specs.declared.story.Story.{Story}
use Rattle.commit_core.specs.Keys.{same_key, has_key, writes_key}
use Rattle.commit_core.specs.Places.{spot_at, is_free_at, is_held_at}
use Rattle.commit_core.specs.Parts.{same_word, is_record}
use Rattle.commit_core.specs.Moves.{moves_key}
use Rattle.commit_core.specs.Told.{IsToldTruly, TellsTruly, AllTellTruly}
use Rattle.commit_core.specs.Lemmas.Keys.{same_word-self}
use Rattle.commit_core.specs.CoreState.{check_of, is_trying, can_begin, attempt_tried, attempt_decided, same_keys, settled, settled_at, can_mark}
use Rattle.commit_core.specs.Event.{is_unchecked, is_allowed, Moved, moved, next_attempt, stays_as_seen, locked, valued, opened, after_check, after_decide, decided_stage, value_to_put, effect}
use Rattle.commit_core.specs.declared.event.Act.{Act}
use Rattle.commit_core.specs.declared.event.Act.TheVariants.{See, Keep, Lock, Draw, Check as Look, Confirm, Decide, Put, Open, Forget, Rehome, Advance, Mark}
use Rattle.commit_core.specs.declared.event.Event.{Event}
use Rattle.commit_core.specs.CoreState.{CoreState}
use Rattle.commit_core.specs.Event.{may_happen, with_moved, happened, next, run}
use Rattle.commit_core.specs.Opening.{IsPrefix, Grows, MarksGrow, CoreGrows}
use Rattle.commit_core.specs.Sound.{IsSoundStory, IsSoundSeat, IsSound}
use Rattle.lists.specs.Elements.{at_set_same, at_set_other, at_below}
use Rattle.commit_core.proofs.MarkLaws.{last_marked-push}
use Rattle.commit_core.proofs.Events.Keeps.{Keeps}
use Rattle.commit_core.proofs.Events.Resting.{keeps_see, keeps_keep, keeps_forget, keeps_mark}
use Rattle.commit_core.proofs.Events.Places.{keeps_lock, keeps_put, keeps_open}
use Rattle.commit_core.proofs.Events.Clock.{keeps_draw, keeps_advance}
use Rattle.commit_core.proofs.Events.Checking.{record_so, keeps_check}
use Rattle.commit_core.proofs.Events.Moving.{keeps_rehome}
use Rattle.commit_core.proofs.Events.Deciding.{keeps_decide}

-- each act that is allowed, and tells what is true, keeps what is sound
pub keeps_act : (opening : List (Key × Content)) (p : ℕ) (m : Story) (s : Seat) (act : Act) → is_allowed p m s act ≡ true → IsToldTruly p m s act
    → IsSoundStory opening m → IsSoundSeat opening m p s → Keeps opening p m (effect p m s act)
keeps_act opening p m s (See k) may told story own =
    let c = and_parts (not (is_trying s.stage)) (is_free_at m.places (spot_at m.homes k)) may in keeps_see opening p m s k c.0 c.1 story own
keeps_act opening p m s (Keep part) may told story own =
    let c = and_parts (not (is_trying s.stage)) (not (is_record part.word)) may in keeps_keep opening p m s part c.0 c.1 told story own
keeps_act opening p m s (Lock k) may told story own =
    let c = and_parts (can_begin s.stage) (is_free_at m.places (spot_at m.homes k)) may in keeps_lock opening p m s k c.0 c.1 story own
keeps_act opening p m s (Draw writes) may told story own =
    let c = and_parts (can_begin s.stage) (same_keys s.locks writes) may in keeps_draw opening p m s writes c.0 c.1 story own
keeps_act opening p m s (Look x) may told story own =
    keeps_check opening p m s (Record x) (stays_as_seen p m.places x) may (λ i a stage at stays part inside e. record_so opening m p s i a x stage at stays story own part inside e) story own
keeps_act opening p m s (Confirm w so) may told story own =
    keeps_check opening p m s w (λ _. so) (and_parts (option_map_or (is_unchecked m.checks w) (attempt_tried m.history s.stage) false) (not (is_record w)) may).0
    (λ i a stage at holds part inside e. told holds a (ap (attempt_tried m.history) stage ∙ at) part inside (subst (λ (v : Word). same_word part.word v ≡ true) e (same_word-self part.word))) story own
keeps_act opening p m s Decide may told story own = keeps_decide opening p m s may story own
keeps_act opening p m s (Put k) may told story own =
    let c = and_parts (option_map_or (λ a. writes_key a.writes k) (attempt_decided m.history s.stage) false) (is_held_at p m.places (spot_at m.homes k)) may in
    keeps_put opening p m s k c.0 c.1 story own
keeps_act opening p m s (Open k) may told story own =
    let held = is_held_at p m.places (spot_at m.homes k) in
    let in_put = option_map_or (λ _. has_key s.put k) (attempt_decided m.history s.stage) true in
    let c = and_parts (not (is_trying s.stage)) (held && in_put) may in
    let d = and_parts held in_put c.1 in
    keeps_open opening p m s k c.0 d.0 d.1 story own
keeps_act opening p m s Forget may told story own = keeps_forget opening p m s may story own
keeps_act opening p m s (Rehome moves) may told story own = keeps_rehome opening p m s moves may story own
keeps_act opening p m s Advance may told story own = keeps_advance opening p m s (and_parts (eqb p 0) (nat_lt m.epoch last_epoch) may).1 story own
keeps_act opening p m s (Mark e) may told story own =
    let c = and_parts (not (is_trying s.stage)) (can_mark m.epoch s.marks e.epoch) may in keeps_mark opening p m s e c.0 c.1 story own

-- ---- the whole state

pub same_or_not : (p q : ℕ) → (q ≡ p) ⊎ (q ≡ p → ⊥)
same_or_not p q =
    elim (cases_Bool (eqb q p)) [ inl hit ↦ inl (eqb-true q p hit) | inr miss ↦ inr (λ e. true≢false (sym (eq-eqb q p e) ∙ miss)) ]

moved_sound : (c : CoreState) (p : ℕ) (s : Seat) (n : Moved) → slice_get c.seats p ≡ Some s → IsSound c → Keeps c.opening p c.story n → IsSound (with_moved c p n)
moved_sound c p s n at sound keeps = record {
  story = keeps.story;
  seats = λ q t there. elim (same_or_not p q) [
    | inl mine ↦
        let now : slice_get (set c.seats p n.seat) q ≡ Some n.seat = subst (λ (x : ℕ). slice_get (set c.seats p n.seat) x ≡ Some n.seat) (sym mine) (at_set_same c.seats p s n.seat at) in
        let both : Some n.seat ≡ Some t = sym now ∙ there in
        let same : n.seat ≡ t = cc in
        subst (λ (x : ℕ). IsSoundSeat c.opening n.story x t) (sym mine) (subst (λ (x : Seat). IsSoundSeat c.opening n.story p x) same keeps.own)
    | inr other ↦ keeps.others q t other (sound.seats q t (sym (at_set_other c.seats p q n.seat other) ∙ there))
  ];
  holders_are_seats = rw (length-set c.seats p n.seat) (keeps.holders (length c.seats) (at_below c.seats p s at) sound.holders_are_seats);
}

-- with the seat that is there
happens_at : (c : CoreState) (p : ℕ) (act : Act) (o : Option Seat) → slice_get c.seats p ≡ o → option_map_or (λ s. is_allowed p c.story s act) o false ≡ true
    → ((s : Seat) → o ≡ Some s → IsToldTruly p c.story s act) → IsSound c → IsSound (option_map_or (λ s. with_moved c p (effect p c.story s act)) o c)
happens_at c p act None at may told sound = sound
happens_at c p act (Some s) at may told sound = moved_sound c p s (effect p c.story s act) at sound (keeps_act c.opening p c.story s act may (told s refl) sound.story (sound.seats p s at))

pub happened_sound : (c : CoreState) (e : Event) → may_happen c e ≡ true → TellsTruly c e → IsSound c → IsSound (happened c e)
happened_sound c e may told sound = happens_at c e.seat e.act (slice_get c.seats e.seat) refl may told sound

pub next_sound : (c : CoreState) (e : Event) → TellsTruly c e → IsSound c → IsSound (next c e)
next_sound c e told sound = cond_both (may_happen c e) (happened c e) c (λ (x : CoreState). IsSound x) (λ may. happened_sound c e may told sound) (λ _. sound)

pub run_sound : (events : List Event) (c : CoreState) → AllTellTruly c events → IsSound c → IsSound (run events c)
run_sound [] c told sound = sound
run_sound (e ∷ events) c told sound = run_sound events (next c e) told.1 (next_sound c e told.0 sound)

-- ---- growth

pub prefix_self : {A : Type 0} (xs : List A) → IsPrefix xs xs
prefix_self [] = ([], refl)
prefix_self {A} (x ∷ xs) = let r = prefix_self xs in (r.0, ap (λ (l : List A). x ∷ l) r.1)

prefix_then : {A : Type 0} (xs ys zs : List A) → IsPrefix xs ys → IsPrefix ys zs → IsPrefix xs zs
prefix_then {A} xs ys zs a b = (a.0 ++ b.0, sym (append_assoc xs a.0 b.0) ∙ ap (λ (l : List A). l ++ b.0) a.1 ∙ b.1)

pub grows_self : (m : Story) → Grows m m
grows_self m = record { history = prefix_self m.history; checks = prefix_self m.checks; decided = prefix_self m.decided; given_up = prefix_self m.given_up; first_draw = refl; epoch = omega arith }

grows_then : (a b c : Story) → Grows a b → Grows b c → Grows a c
grows_then a b c g h = record {
  history = prefix_then a.history b.history c.history g.history h.history;
  checks = prefix_then a.checks b.checks c.checks g.checks h.checks;
  decided = prefix_then a.decided b.decided c.decided g.decided h.decided;
  given_up = prefix_then a.given_up b.given_up c.given_up g.given_up h.given_up;
  first_draw = h.first_draw ∙ g.first_draw;
  epoch = omega arith;
}

check_grows : (w : Word) (stays : Attempt → Bool) (m : Story) (s : Seat) (o : Option Attempt) → Grows m (after_check w stays m s o).story
check_grows w stays m s None = grows_self m
check_grows w stays m s (Some a) =
    cond_both (stays a) (moved (record m { checks = m.checks ++ check_of a.number w ∷ [] }) s) (moved (record m { given_up = m.given_up ++ a.number ∷ [] }) (settled (record s { stage = Ended }))) (λ (n : Moved). Grows m n.story)
    (λ _. record { history = prefix_self m.history; checks = (check_of a.number w ∷ [], refl); decided = prefix_self m.decided; given_up = prefix_self m.given_up; first_draw = refl; epoch = omega arith })
    (λ _. record { history = prefix_self m.history; checks = prefix_self m.checks; decided = prefix_self m.decided; given_up = (a.number ∷ [], refl); first_draw = refl; epoch = omega arith })

decide_grows : (m : Story) (s : Seat) (o : Option Attempt) → Grows m (after_decide m s o).story
decide_grows m s None = grows_self m
decide_grows m s (Some a) = record { history = prefix_self m.history; checks = prefix_self m.checks; decided = (a.number ∷ [], refl); given_up = prefix_self m.given_up; first_draw = refl; epoch = omega arith }

same_lists : (m : Story) (places : List (Spot × Place)) → Grows m (record m { places = places })
same_lists m places = record { history = prefix_self m.history; checks = prefix_self m.checks; decided = prefix_self m.decided; given_up = prefix_self m.given_up; first_draw = refl; epoch = omega arith }

pub act_grows : (p : ℕ) (m : Story) (s : Seat) (act : Act) → Grows m (effect p m s act).story
act_grows p m s (See k) = grows_self m
act_grows p m s (Keep part) = grows_self m
act_grows p m s (Lock k) = same_lists m (locked p m.places (spot_at m.homes k))
act_grows p m s (Draw writes) = record { history = (next_attempt p m s writes ∷ [], refl); checks = prefix_self m.checks; decided = prefix_self m.decided; given_up = prefix_self m.given_up; first_draw = refl; epoch = omega arith }
act_grows p m s (Look x) = check_grows (Record x) (stays_as_seen p m.places x) m s (attempt_tried m.history s.stage)
act_grows p m s (Confirm w told) = check_grows w (λ _. told) m s (attempt_tried m.history s.stage)
act_grows p m s Decide = decide_grows m s (attempt_tried m.history s.stage)
act_grows p m s (Put k) = same_lists m (valued (value_to_put k (attempt_decided m.history s.stage)) m.places (spot_at m.homes k))
act_grows p m s (Open k) = same_lists m (opened (attempt_decided m.history s.stage) m.places (spot_at m.homes k))
act_grows p m s Forget = grows_self m
act_grows p m s (Rehome moves) = record { history = prefix_self m.history; checks = prefix_self m.checks; decided = prefix_self m.decided; given_up = prefix_self m.given_up; first_draw = refl; epoch = omega arith }
act_grows p m s Advance = record { history = prefix_self m.history; checks = prefix_self m.checks; decided = prefix_self m.decided; given_up = prefix_self m.given_up; first_draw = refl; epoch = omega arith }
act_grows p m s (Mark e) = grows_self m

-- ---- growth of marks

same_marks : (old new : List TheMark) → new ≡ old → MarksGrow old new
same_marks old new e = subst (λ (l : List TheMark). MarksGrow old l) (sym e) (record { marks = prefix_self old; rising = omega arith })

marks_then : (a b c : List TheMark) → MarksGrow a b → MarksGrow b c → MarksGrow a c
marks_then a b c g h = record { marks = prefix_then a b c g.marks h.marks; rising = omega arith }

settled_marks : (s : Seat) → (settled s).marks ≡ s.marks
settled_marks s = cond_both (eqb (length s.locks) 0) (settled_at s.stage s) s (λ (x : Seat). x.marks ≡ s.marks) (λ _. by_stage s.stage) (λ _. refl)
  where
    by_stage : (stage : Stage) → (settled_at stage s).marks ≡ s.marks
    by_stage Idle = refl
    by_stage (Trying i) = refl
    by_stage Ended = refl
    by_stage (Decided i) = refl

check_marks : (w : Word) (stays : Attempt → Bool) (m : Story) (s : Seat) (o : Option Attempt) → (after_check w stays m s o).seat.marks ≡ s.marks
check_marks w stays m s None = refl
check_marks w stays m s (Some a) =
    cond_both (stays a) (moved (record m { checks = m.checks ++ check_of a.number w ∷ [] }) s) (moved (record m { given_up = m.given_up ++ a.number ∷ [] }) (settled (record s { stage = Ended }))) (λ (n : Moved). n.seat.marks ≡ s.marks)
    (λ _. refl) (λ _. settled_marks (record s { stage = Ended }))

decide_marks : (m : Story) (s : Seat) (o : Option Attempt) → (after_decide m s o).seat.marks ≡ s.marks
decide_marks m s None = refl
decide_marks m s (Some a) = settled_marks (record s { put = []; stage = decided_stage s.stage })

act_marks : (p : ℕ) (m : Story) (s : Seat) (act : Act) → is_allowed p m s act ≡ true → MarksGrow s.marks (effect p m s act).seat.marks
act_marks p m s (See k) may = same_marks s.marks s.marks refl
act_marks p m s (Keep part) may = same_marks s.marks s.marks refl
act_marks p m s (Lock k) may = same_marks s.marks s.marks refl
act_marks p m s (Draw writes) may = same_marks s.marks s.marks refl
act_marks p m s (Look x) may = same_marks s.marks (effect p m s (Look x)).seat.marks (check_marks (Record x) (stays_as_seen p m.places x) m s (attempt_tried m.history s.stage))
act_marks p m s (Confirm w told) may = same_marks s.marks (effect p m s (Confirm w told)).seat.marks (check_marks w (λ _. told) m s (attempt_tried m.history s.stage))
act_marks p m s Decide may = same_marks s.marks (effect p m s Decide).seat.marks (decide_marks m s (attempt_tried m.history s.stage))
act_marks p m s (Put k) may = same_marks s.marks s.marks refl
act_marks p m s (Open k) may = same_marks s.marks (effect p m s (Open k)).seat.marks (settled_marks (record s { locks = filter (λ q. not (same_key q k)) s.locks }))
act_marks p m s Forget may = same_marks s.marks s.marks refl
act_marks p m s (Rehome moves) may = same_marks s.marks (effect p m s (Rehome moves)).seat.marks (settled_marks (record s { locks = filter (λ q. not (moves_key moves q)) s.locks }))
act_marks p m s Advance may = same_marks s.marks s.marks refl
act_marks p m s (Mark e) may = record {
  marks = (e ∷ [], refl);
  rising = last_marked-push m.epoch s.marks e (and_parts (not (is_trying s.stage)) (can_mark m.epoch s.marks e.epoch) may).1;
}

-- ---- growth of the whole state

core_self : (c : CoreState) → CoreGrows c c
core_self c = record { opening = refl; story = grows_self c.story; seats = refl; marks = λ p s at. (s, at, same_marks s.marks s.marks refl) }

core_then : (a b c : CoreState) → CoreGrows a b → CoreGrows b c → CoreGrows a c
core_then a b c g h = record {
  opening = h.opening ∙ g.opening;
  story = grows_then a.story b.story c.story g.story h.story;
  seats = h.seats ∙ g.seats;
  marks = λ p s at. let t = g.marks p s at in let u = h.marks p t.0 t.1 in (u.0, u.1, marks_then s.marks t.0.marks u.0.marks t.2 u.2);
}

happened_grows : (c : CoreState) (p : ℕ) (act : Act) (o : Option Seat) → slice_get c.seats p ≡ o → option_map_or (λ s. is_allowed p c.story s act) o false ≡ true
    → CoreGrows c (option_map_or (λ s. with_moved c p (effect p c.story s act)) o c)
happened_grows c p act None at may = core_self c
happened_grows c p act (Some x) at may =
    let n = effect p c.story x act in record {
      opening = refl;
      story = act_grows p c.story x act;
      seats = length-set c.seats p n.seat;
      marks = λ q s there. elim (same_or_not p q) [
        | inl mine ↦
            let both : Some x ≡ Some s = sym at ∙ subst (λ (i : ℕ). slice_get c.seats i ≡ Some s) mine there in
            let same : x ≡ s = cc in (
              n.seat,
              subst (λ (i : ℕ). slice_get (set c.seats p n.seat) i ≡ Some n.seat) (sym mine) (at_set_same c.seats p x n.seat at),
              subst (λ (y : Seat). MarksGrow y.marks n.seat.marks) same (act_marks p c.story x act may),
            )
        | inr other ↦ (s, at_set_other c.seats p q n.seat other ∙ there, same_marks s.marks s.marks refl)
      ];
    }

next_grows : (c : CoreState) (e : Event) → CoreGrows c (next c e)
next_grows c e =
    cond_both (may_happen c e) (happened c e) c (λ (x : CoreState). CoreGrows c x) (λ may. happened_grows c e.seat e.act (slice_get c.seats e.seat) refl may) (λ _. core_self c)

pub run_grows : (events : List Event) (c : CoreState) → CoreGrows c (run events c)
run_grows [] c = core_self c
run_grows (e ∷ events) c = core_then c (next c e) (run events (next c e)) (next_grows c e) (run_grows events (next c e))
