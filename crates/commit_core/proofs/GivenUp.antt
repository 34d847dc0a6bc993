-- An attempt that was given up stays given up.
use Rattle.std.proofs.Common.{◌≡◌, ℕ, Bool, true, true≢false, false, not, eqb, inl, inr, List, [], ◌∷◌, ◌++◌, refl, sym, ap, ◌∙◌, subst, length, set, Option, Some, None}
use Rattle.std.proofs.lemmas.Bool.{cond_both, cond-false, or_cases, or_left, or_right}
use Rattle.std.specs.List.{list_any, Contains, slice_get, filter}
use Rattle.std.specs.Option.{option_map_or}
use Rattle.serial_model.specs.declared.key.Key.{Key}
use Rattle.serial_model.specs.declared.number.Number.{Number}
use Rattle.serial_model.specs.declared.number.Change.{Change}
use Rattle.serial_model.specs.Numbers.{not_below_itself}
use Rattle.commit_core.specs.declared.place.Place.{Place}
use Rattle.commit_core.specs.declared.attempt.Attempt.{Attempt}
use Rattle.commit_core.specs.declared.seat.Stage.{Stage}
use Rattle.commit_core.specs.declared.seat.Stage.TheVariants.{Idle, Trying, Ended, Decided}
use Rattle.commit_core.specs.declared.seat.Seat.{Seat}
use Rattle.commit_core.specs.declared.story.Story.{Story}
use Rattle.homes.specs.declared.places.Content.{Content}
use Rattle.homes.specs.declared.places.Spot.{Spot}
use Rattle.commit_core.specs.declared.part.Word.{Word}
use Rattle.commit_core.specs.declared.part.Word.TheVariants.{Record}
use Rattle.commit_core.specs.Keys.{same_key, same_number}
use Rattle.commit_core.specs.Places.{stands}
use Rattle.commit_core.specs.Moves.{moves_key}
use Rattle.commit_core.specs.Told.{AllTellTruly}
use Rattle.commit_core.specs.CoreState.{clock_of, is_decided, is_given_up, check_of, attempt_tried, settled, settled_at}
use Rattle.commit_core.specs.Event.{Moved, moved, next_attempt, stays_as_seen, after_check, decided_stage, after_decide, effect}
use Rattle.commit_core.specs.declared.event.Act.{Act}
use Rattle.commit_core.specs.declared.event.Act.TheVariants.{See, Keep, Lock, Draw, Check as Look, Confirm, Decide, Put, Open, Forget, Rehome, Advance, Mark}
use Rattle.commit_core.specs.declared.event.Event.{Event}
use Rattle.commit_core.specs.CoreState.{CoreState}
use Rattle.commit_core.specs.Event.{may_happen, with_moved, happened, next, run}
use Rattle.commit_core.specs.Opening.{Grows}
use Rattle.commit_core.specs.Sound.{IsSoundStory, IsSound}
use Rattle.commit_core.specs.Sound.Locks.{AttemptStands}
use Rattle.lists.specs.Elements.{at_in, at_push_new, at_set_same, at_set_other}
use Rattle.commit_core.specs.Lemmas.Numbers.{decided_other, decided_new}
use Rattle.commit_core.specs.Lemmas.Versions.{alone}
use Rattle.commit_core.proofs.ReadLaws.{IsThere, same_at}
use Rattle.commit_core.proofs.LockLaws.{stands_there}
use Rattle.std.proofs.lemmas.List.Elements.{Contains-append_left}
use Rattle.commit_core.specs.Law.{IsGivenUp}
use Rattle.commit_core.proofs.Runs.{same_or_not, act_grows, next_sound}

-- what passes in a list passes in a longer one
any_longer : {A : Type 0} (f : A → Bool) (xs ys : List A) → list_any f xs ≡ true → list_any f (xs ++ ys) ≡ true
any_longer {A} f [] ys h = absurd (true≢false (sym h))
any_longer {A} f (x ∷ xs) ys h =
    elim (or_cases (f x) (list_any f xs) h) [
      | inl here ↦ or_left (f x) (list_any f (xs ++ ys)) here
      | inr later ↦ or_right (f x) (list_any f (xs ++ ys)) (any_longer f xs ys later)
    ]

-- the attempt is not the one in progress at this stage
abbrev IsNotTried : List Attempt → Attempt → Stage → Type 0
IsNotTried h a stage = attempt_tried h stage ≡ Some a → ⊥

-- an act of seat p leaves it given up: it does not decide it, and the stages after it are of other attempts
record StaysOver (m : Story) (a : Attempt) (n : Moved) : Type 0 where
  undecided : is_decided n.story.decided a.number ≡ false
  own : IsNotTried n.story.history a n.seat.stage
  others : (stage : Stage) → IsThere m.history stage → IsNotTried m.history a stage → IsNotTried n.story.history a stage

-- the history, the decisions and the stage are as before
stays_alike : (m : Story) (a : Attempt) (s : Seat) (n : Moved) → n.story.history ≡ m.history → n.story.decided ≡ m.decided → n.seat.stage ≡ s.stage
    → is_decided m.decided a.number ≡ false → IsNotTried m.history a s.stage → StaysOver m a n
stays_alike m a s n h d e undecided own = record {
  undecided = ap (λ (x : List Number). is_decided x a.number) d ∙ undecided;
  own = subst (λ (x : List Attempt). IsNotTried x a n.seat.stage) (sym h) (subst (λ (x : Stage). IsNotTried m.history a x) (sym e) own);
  others = λ stage _ not_it. subst (λ (x : List Attempt). IsNotTried x a stage) (sym h) not_it;
}

settled_at_tried : (h : List Attempt) (a : Attempt) (s : Seat) (stage : Stage) → IsNotTried h a s.stage → IsNotTried h a (settled_at stage s).stage
settled_at_tried h a s Idle not_it = not_it
settled_at_tried h a s (Trying i) not_it = not_it
settled_at_tried h a s Ended not_it = λ e. cc
settled_at_tried h a s (Decided i) not_it = λ e. cc

settled_tried : (h : List Attempt) (a : Attempt) (s : Seat) → IsNotTried h a s.stage → IsNotTried h a (settled s).stage
settled_tried h a s not_it =
    cond_both (eqb (length s.locks) 0) (settled_at s.stage s) s (λ (x : Seat). IsNotTried h a x.stage) (λ _. settled_at_tried h a s s.stage not_it) (λ _. not_it)

not_tried_later : (h : List Attempt) (a b : Attempt) (stage : Stage) → IsThere h stage → IsNotTried h a stage → IsNotTried (h ++ b ∷ []) a stage
not_tried_later h a b Idle there not_it = λ e. cc
not_tried_later h a b (Trying i) there not_it = λ e. not_it (there.1 ∙ ap (λ (x : Attempt). Some x) (same_at h b i there.0 a there.1 e))
not_tried_later h a b Ended there not_it = λ e. cc
not_tried_later h a b (Decided i) there not_it = λ e. cc

draw_over : (opening : List (Key × Content)) (p : ℕ) (m : Story) (s : Seat) (writes : List Change) (a : Attempt) → IsSoundStory opening m → Contains m.history a
    → is_decided m.decided a.number ≡ false → StaysOver m a (effect p m s (Draw writes))
draw_over opening p m s writes a story drawn undecided =
    let b = next_attempt p m s writes in record {
      undecided = undecided;
      own = λ e.
          let both : Some b ≡ Some a = sym (at_push_new m.history b) ∙ e in
          let same : a ≡ b = cc in
          not_below_itself a.number (clock_of m.first_draw m.epoch m.history) (ap (λ (x : Attempt). x.number) same) (story.ordered_numbers.past a drawn);
      others = λ stage there not_it. not_tried_later m.history a b stage there not_it;
    }

check_over : (w : Word) (stays : Attempt → Bool) (m : Story) (s : Seat) (a : Attempt) (o : Option Attempt) → is_decided m.decided a.number ≡ false → IsNotTried m.history a s.stage
    → StaysOver m a (after_check w stays m s o)
check_over w stays m s a None undecided own = stays_alike m a s (moved m s) refl refl refl undecided own
check_over w stays m s a (Some b) undecided own =
    let ended : Seat = record s { stage = Ended } in
    let made : Story = record m { checks = m.checks ++ check_of b.number w ∷ [] } in
    cond_both (stays b) (moved made s) (moved (record m { given_up = m.given_up ++ b.number ∷ [] }) (settled ended)) (λ (n : Moved). StaysOver m a n)
    (λ _. stays_alike m a s (moved made s) refl refl refl undecided own)
    (λ _. record { undecided = undecided; own = settled_tried m.history a ended (λ e. cc); others = λ stage _ not_it. not_it })

decided_not_tried : (h : List Attempt) (a : Attempt) (stage : Stage) → IsNotTried h a (decided_stage stage)
decided_not_tried h a Idle = λ e. cc
decided_not_tried h a (Trying i) = λ e. cc
decided_not_tried h a Ended = λ e. cc
decided_not_tried h a (Decided i) = λ e. cc

tried_in : (h : List Attempt) (stage : Stage) (b : Attempt) → attempt_tried h stage ≡ Some b → Contains h b
tried_in h Idle b e = cc
tried_in h (Trying i) b e = at_in h i b e
tried_in h Ended b e = cc
tried_in h (Decided i) b e = cc

decide_over : (opening : List (Key × Content)) (m : Story) (s : Seat) (a : Attempt) (o : Option Attempt) → attempt_tried m.history s.stage ≡ o → IsSoundStory opening m → Contains m.history a
    → is_decided m.decided a.number ≡ false → IsNotTried m.history a s.stage → StaysOver m a (after_decide m s o)
decide_over opening m s a None at story drawn undecided own = stays_alike m a s (moved m s) refl refl refl undecided own
decide_over opening m s a (Some b) at story drawn undecided own =
    let only = alone opening m.history m.decided (clock_of m.first_draw m.epoch m.history) b story.ordered_numbers (tried_in m.history s.stage b at) in
    record {
      undecided = decided_other m.decided b.number a.number (λ e. own (at ∙ ap (λ (x : Attempt). Some x) (sym (only a drawn (sym e))))) ∙ undecided;
      own = settled_tried m.history a (record s { put = []; stage = decided_stage s.stage }) (decided_not_tried m.history a s.stage);
      others = λ stage _ not_it. not_it;
    }

act_over : (opening : List (Key × Content)) (p : ℕ) (m : Story) (s : Seat) (act : Act) (a : Attempt) → IsSoundStory opening m → Contains m.history a
    → is_decided m.decided a.number ≡ false → IsNotTried m.history a s.stage → StaysOver m a (effect p m s act)
act_over opening p m s (See k) a story drawn undecided own = stays_alike m a s (effect p m s (See k)) refl refl refl undecided own
act_over opening p m s (Keep part) a story drawn undecided own = stays_alike m a s (effect p m s (Keep part)) refl refl refl undecided own
act_over opening p m s (Lock k) a story drawn undecided own = stays_alike m a s (effect p m s (Lock k)) refl refl refl undecided own
act_over opening p m s (Draw writes) a story drawn undecided own = draw_over opening p m s writes a story drawn undecided
act_over opening p m s (Look x) a story drawn undecided own = check_over (Record x) (stays_as_seen p m.places x) m s a (attempt_tried m.history s.stage) undecided own
act_over opening p m s (Confirm w told) a story drawn undecided own = check_over w (λ _. told) m s a (attempt_tried m.history s.stage) undecided own
act_over opening p m s Decide a story drawn undecided own = decide_over opening m s a (attempt_tried m.history s.stage) refl story drawn undecided own
act_over opening p m s (Put k) a story drawn undecided own = stays_alike m a s (effect p m s (Put k)) refl refl refl undecided own
act_over opening p m s (Open k) a story drawn undecided own = record {
  undecided = undecided;
  own = settled_tried m.history a (record s { locks = filter (λ q. not (same_key q k)) s.locks }) own;
  others = λ stage _ not_it. not_it;
}
act_over opening p m s Forget a story drawn undecided own = stays_alike m a s (effect p m s Forget) refl refl refl undecided own
act_over opening p m s (Rehome moves) a story drawn undecided own = record {
  undecided = undecided;
  own = settled_tried m.history a (record s { locks = filter (λ q. not (moves_key moves q)) s.locks }) own;
  others = λ stage _ not_it. not_it;
}
act_over opening p m s Advance a story drawn undecided own = stays_alike m a s (effect p m s Advance) refl refl refl undecided own
act_over opening p m s (Mark e) a story drawn undecided own = stays_alike m a s (effect p m s (Mark e)) refl refl refl undecided own

-- ---- the whole state

moved_over : (c : CoreState) (p : ℕ) (s : Seat) (n : Moved) (a : Attempt) → slice_get c.seats p ≡ Some s → IsSound c → Grows c.story n.story → IsGivenUp c a → StaysOver c.story a n
    → IsGivenUp (with_moved c p n) a
moved_over c p s n a at sound grows given over = record {
  drawn = subst (λ (l : List Attempt). Contains l a) grows.history.1 (Contains-append_left c.story.history grows.history.0 a given.drawn);
  undecided = over.undecided;
  listed = subst (λ (l : List Number). is_given_up l a.number ≡ true) grows.given_up.1 (any_longer (λ n. same_number n a.number) c.story.given_up grows.given_up.0 given.listed);
  ended = λ q t there. elim (same_or_not p q) [
    | inl mine ↦
        let now : slice_get (set c.seats p n.seat) q ≡ Some n.seat = subst (λ (x : ℕ). slice_get (set c.seats p n.seat) x ≡ Some n.seat) (sym mine) (at_set_same c.seats p s n.seat at) in
        let both : Some n.seat ≡ Some t = sym now ∙ there in
        let same : n.seat ≡ t = cc in
        subst (λ (x : Seat). IsNotTried n.story.history a x.stage) same over.own
    | inr other ↦
        let was : slice_get c.seats q ≡ Some t = sym (at_set_other c.seats p q n.seat other) ∙ there in
        over.others t.stage (stands_there c.story.history c.story.decided (stands c.story.places c.story.homes) t.put q t.stage (sound.seats q t was).attempt_stands) (given.ended q t was)
  ];
}

happened_over : (c : CoreState) (p : ℕ) (act : Act) (o : Option Seat) (a : Attempt) → slice_get c.seats p ≡ o → IsSound c → IsGivenUp c a
    → IsGivenUp (option_map_or (λ s. with_moved c p (effect p c.story s act)) o c) a
happened_over c p act None a at sound given = given
happened_over c p act (Some s) a at sound given =
    moved_over c p s (effect p c.story s act) a at sound (act_grows p c.story s act) given
    (act_over c.opening p c.story s act a sound.story given.drawn given.undecided (given.ended p s at))

pub run_over : (events : List Event) (c : CoreState) (a : Attempt) → AllTellTruly c events → IsSound c → IsGivenUp c a → IsGivenUp (run events c) a
run_over [] c a told sound given = given
run_over (e ∷ events) c a told sound given =
    run_over events (next c e) a told.1 (next_sound c e told.0 sound)
    (cond_both (may_happen c e) (happened c e) c (λ (x : CoreState). IsGivenUp x a) (λ _. happened_over c e.seat e.act (slice_get c.seats e.seat) a refl sound given) (λ _. given))

-- ---- a check that fails

-- the attempt in progress is not decided, and it is the seat's own
own_tried : (h : List Attempt) (decided : List Number) (st : Key → Place) (put : List Key) (p : ℕ) (a : Attempt) (stage : Stage)
    → AttemptStands h decided st put p stage → attempt_tried h stage ≡ Some a → (is_decided decided a.number ≡ false) × (a.seat ≡ p)
own_tried h decided st put p a Idle stands e = cc
own_tried h decided st put p a (Trying i) stands e =
    let both : Some stands.0 ≡ Some a = sym stands.1.at ∙ e in
    let same : stands.0 ≡ a = cc in
    (ap (λ (x : Attempt). is_decided decided x.number) (sym same) ∙ stands.1.undecided, ap (λ (x : Attempt). x.seat) (sym same) ∙ stands.1.own)
own_tried h decided st put p a Ended stands e = cc
own_tried h decided st put p a (Decided i) stands e = cc

ended_gives_up : (c : CoreState) (p : ℕ) (s : Seat) (a : Attempt) → IsSound c → slice_get c.seats p ≡ Some s → attempt_tried c.story.history s.stage ≡ Some a
    → IsGivenUp (with_moved c p (moved (record (c.story) { given_up = c.story.given_up ++ a.number ∷ [] }) (settled (record s { stage = Ended })))) a
ended_gives_up c p s a sound at tried =
    let m = c.story in
    let ended : Seat = record s { stage = Ended } in
    let over : Seat = settled ended in
    let own = own_tried m.history m.decided (stands m.places m.homes) s.put p a s.stage (sound.seats p s at).attempt_stands tried in
    record {
      drawn = tried_in m.history s.stage a tried;
      undecided = own.0;
      listed = decided_new m.given_up a.number a.number refl;
      ended = λ q t there. elim (same_or_not p q) [
        | inl mine ↦
            let now : slice_get (set c.seats p over) q ≡ Some over = subst (λ (x : ℕ). slice_get (set c.seats p over) x ≡ Some over) (sym mine) (at_set_same c.seats p s over at) in
            let both : Some over ≡ Some t = sym now ∙ there in
            let same : over ≡ t = cc in
            subst (λ (x : Seat). IsNotTried m.history a x.stage) same (settled_tried m.history a ended (λ e. cc))
        | inr other ↦ λ e.
            let was : slice_get c.seats q ≡ Some t = sym (at_set_other c.seats p q over other) ∙ there in
            other (sym (own_tried m.history m.decided (stands m.places m.homes) t.put q a t.stage (sound.seats q t was).attempt_stands e).1 ∙ own.1)
      ];
    }

pub check_gives_up : (c : CoreState) (p : ℕ) (s : Seat) (x : Spot) (a : Attempt) → IsSound c → slice_get c.seats p ≡ Some s → attempt_tried c.story.history s.stage ≡ Some a
    → stays_as_seen p c.story.places x a ≡ false → IsGivenUp (happened c (record { seat = p; act = Look x })) a
check_gives_up c p s x a sound at tried fails =
    let m = c.story in
    let made : Moved = moved (record m { checks = m.checks ++ check_of a.number (Record x) ∷ [] }) s in
    let ended : Moved = moved (record m { given_up = m.given_up ++ a.number ∷ [] }) (settled (record s { stage = Ended })) in
    let comes : after_check (Record x) (stays_as_seen p m.places x) m s (Some a) ≡ ended = cond-false (stays_as_seen p m.places x a) made ended fails in
    subst (λ (o : Option Seat). IsGivenUp (option_map_or (λ t. with_moved c p (effect p m t (Look x))) o c) a) (sym at)
    (subst (λ (o : Option Attempt). IsGivenUp (with_moved c p (after_check (Record x) (stays_as_seen p m.places x) m s o)) a) (sym tried)
    (subst (λ (n : Moved). IsGivenUp (with_moved c p n) a) (sym comes) (ended_gives_up c p s a sound at tried)))

pub told_gives_up : (c : CoreState) (p : ℕ) (s : Seat) (w : Word) (a : Attempt) → IsSound c → slice_get c.seats p ≡ Some s → attempt_tried c.story.history s.stage ≡ Some a
    → IsGivenUp (happened c (record { seat = p; act = Confirm w false })) a
told_gives_up c p s w a sound at tried =
    let m = c.story in
    subst (λ (o : Option Seat). IsGivenUp (option_map_or (λ t. with_moved c p (effect p m t (Confirm w false))) o c) a) (sym at)
    (subst (λ (o : Option Attempt). IsGivenUp (with_moved c p (after_check w (λ _. false) m s o)) a) (sym tried) (ended_gives_up c p s a sound at tried))
