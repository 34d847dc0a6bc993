-- Lock, Put and Open: they change one place.
use Rattle.std.proofs.Common.{◌≡◌, ℕ, true, false, not, true≢false, inl, inr, List, [], ◌∷◌, ◌++◌, refl, sym, ap, ◌∙◌, subst, arith, Option, Some, None}
use Rattle.std.proofs.lemmas.Bool.{false_from_ne_true, eqb-true}
use Rattle.std.specs.List.{slice_get, filter}
use Rattle.std.specs.Prelude.{unwrap_or}
use Rattle.std.specs.Option.{option_map_or}
use Rattle.serial_model.specs.declared.key.Key.{Key}
use Rattle.serial_model.specs.declared.number.Number.{Number}
use Rattle.homes.specs.declared.places.Content.{Content}
use Rattle.homes.specs.declared.places.Holder.TheVariants.{Free, Held, Dead}
use Rattle.homes.specs.declared.places.Spot.{Spot}
use Rattle.commit_core.specs.declared.place.Place.{Place}
use Rattle.commit_core.specs.declared.attempt.Attempt.{Attempt}
use Rattle.commit_core.specs.declared.seat.Stage.{Stage}
use Rattle.commit_core.specs.declared.seat.Stage.TheVariants.{Idle, Trying, Ended, Decided}
use Rattle.commit_core.specs.declared.seat.Seat.{Seat}
use Rattle.commit_core.specs.declared.story.Story.{Story}
use Rattle.commit_core.specs.Keys.{same_key, has_key, content_of, written, writes_key}
use Rattle.commit_core.specs.Places.{place, place_of, spot_at, stands, placed, is_free_at, is_held_at, holder_is}
use Rattle.commit_core.specs.Moves.{Shows}
use Rattle.commit_core.specs.CoreState.{clock_of, is_trying, can_begin, attempt_decided, settled}
use Rattle.commit_core.specs.Serial.{last_write}
use Rattle.commit_core.specs.Event.{moved, locked, valued, opened, value_to_put}
use Rattle.commit_core.specs.Sound.{IsSoundStory, IsSoundSeat}
use Rattle.commit_core.specs.Sound.Locks.{IsDecided, AttemptStands}
use Rattle.commit_core.specs.Sound.Homes.{HomeHeld}
use Rattle.commit_core.specs.Lemmas.Keys.{same_key-true}
use Rattle.commit_core.specs.Lemmas.Places.{Sets}
use Rattle.lists.specs.Elements.{any_push_cases, any_push_old}
use Rattle.commit_core.specs.Lemmas.States.{written-writes, writes-written}
use Rattle.commit_core.proofs.LockLaws.{unlocked_not, other_not, free_alive, held_alive, held_other, held_after, holder_is-self, holder_is-other, locks_set, locks_taken, locks_given, holders_set}
use Rattle.commit_core.proofs.HomeLaws.{held_puts, held_put_other, held_opens, locked_set}
use Rattle.commit_core.proofs.KeptLaws.{fits_placed}
use Rattle.commit_core.proofs.Events.Keeps.{Keeps, with_place, IsHome, home_stands, story_sets, story_placed, seat_placed, free_place, held_place, decided_passes, decided_is, settled_sound}

held_is : (p : ℕ) → Held p ≡ Dead → ⊥
held_is p e = cc

free_is : Free ≡ Dead → ⊥
free_is e = cc

held_free : (p : ℕ) → Held p ≡ Free → ⊥
held_free p e = cc

-- ---- Lock

pub begin_stands : (h : List Attempt) (decided : List Number) (st : Key → Place) (put : List Key) (p : ℕ) (stage : Stage) → can_begin stage ≡ true → AttemptStands h decided st put p stage
begin_stands h decided st put p Idle begins = tt
begin_stands h decided st put p (Trying i) begins = absurd (true≢false (sym begins))
begin_stands h decided st put p Ended begins = tt
begin_stands h decided st put p (Decided i) begins = absurd (true≢false (sym begins))

begin_home : (horizon : Number) (opening : List (Key × Content)) (h : List Attempt) (decided : List Number) (put : List Key) (k : Key) (c : Content) (stage : Stage) → can_begin stage ≡ true
    → Shows horizon c (last_write opening h decided k) → HomeHeld horizon opening h decided put k c stage
begin_home horizon opening h decided put k c Idle begins is = is
begin_home horizon opening h decided put k c (Trying i) begins is = absurd (true≢false (sym begins))
begin_home horizon opening h decided put k c Ended begins is = is
begin_home horizon opening h decided put k c (Decided i) begins is = absurd (true≢false (sym begins))

-- what is known of a key whose home is this place
at_home : (m : Story) (k : Key) (x : Spot) (P : Place → Type 0) → IsHome m k x → P (stands m.places m.homes k) → P (place_of m.places x)
at_home m k x P home = subst (λ (y : Place). P y) (home_stands m k x home)

to_home : (m : Story) (k : Key) (x : Spot) (P : Place → Type 0) → IsHome m k x → P (place_of m.places x) → P (stands m.places m.homes k)
to_home m k x P home = subst (λ (y : Place). P y) (sym (home_stands m k x home))

keeps_lock_at : (opening : List (Key × Content)) (p : ℕ) (m : Story) (s : Seat) (k : Key) (x : Spot) → can_begin s.stage ≡ true → spot_at m.homes k ≡ Some x → (place_of m.places x).holder ≡ Free
    → IsSoundStory opening m → IsSoundSeat opening m p s
    → Keeps opening p m (moved (with_place m x (place (place_of m.places x).content (Held p))) (record s { locks = s.locks ++ k ∷ [] }))
keeps_lock_at opening p m s k x begins at free story own =
    let c = (place_of m.places x).content in
    let new : Place = place c (Held p) in
    let home : IsHome m k x = record { at = at; alive = free_alive (place_of m.places x).holder free } in
    let sets = story_sets opening m k x new home story in
    let st = stands m.places m.homes in
    let st' = stands (placed m.places x new) m.homes in
    let shown : Shows m.horizon c (last_write opening m.history m.decided k) =
    at_home m k x (λ y. Shows m.horizon y.content (last_write opening m.history m.decided k)) home (story.unlocked_homes k (to_home m k x (λ y. y.holder ≡ Free) home free)) in
    record {
      story = story_placed opening m k x new home (held_is p) (λ e. absurd (held_free p e)) story;
      own = record {
        lock_owners = locks_taken k new st st' sets p s.locks (holder_is-self p) own.lock_owners;
        attempt_stands = begin_stands m.history m.decided st' s.put p s.stage begins;
        locked_homes = locked_set m.horizon opening m.history m.decided s.put s.put p s.stage k new st st' sets
            (λ _. begin_home m.horizon opening m.history m.decided s.put k c s.stage begins shown) (λ q d _ held. held) own.locked_homes;
        no_lower_writer = own.no_lower_writer;
        tries_go_on = own.tries_go_on;
        tries_kept = own.tries_kept;
        marks_are_past = own.marks_are_past;
        kept_is_past = own.kept_is_past;
        kept_fits = fits_placed m.places m.homes x new s.kept home.alive own.kept_fits;
      };
      others = λ r t other sound. seat_placed opening m k x new r t home story (unlocked_not r (place_of m.places x).holder free) (holder_is-other p r other) sound;
      holders = λ seats l holders. holders_set k new st st' sets seats (λ r e. let same = eqb-true p r e in omega arith) holders;
    }

pub keeps_lock : (opening : List (Key × Content)) (p : ℕ) (m : Story) (s : Seat) (k : Key) → can_begin s.stage ≡ true → is_free_at m.places (spot_at m.homes k) ≡ true
    → IsSoundStory opening m → IsSoundSeat opening m p s
    → Keeps opening p m (moved (record m { places = locked p m.places (spot_at m.homes k) }) (record s { locks = s.locks ++ k ∷ [] }))
keeps_lock opening p m s k begins free story own =
    let q = free_place m.places (spot_at m.homes k) free in
    subst (λ (o : Option Spot). Keeps opening p m (moved (record m { places = locked p m.places o }) (record s { locks = s.locks ++ k ∷ [] }))) (sym q.1)
    (keeps_lock_at opening p m s k q.0 begins q.1 q.2 story own)

-- ---- Put

abbrev refilled : Option ℕ → Place → Place
refilled v q = place (content_of q.content.number v) q.holder

stands_put : (h : List Attempt) (decided : List Number) (st st' : Key → Place) (put : List Key) (p i : ℕ) (a : Attempt) (k : Key) → writes_key a.writes k ≡ true
    → ((q : Key) → holder_is p (st q).holder ≡ true → holder_is p (st' q).holder ≡ true)
    → IsDecided h decided st put p i a → IsDecided h decided st' (put ++ k ∷ []) p i a
stands_put h decided st st' put p i a k w keeps d = record {
  at = d.at;
  own = d.own;
  counts = d.counts;
  written = λ x h. elim (any_push_cases (λ q. same_key q x) put k h) [
    | inl before ↦ d.written x before
    | inr now ↦ subst (λ (y : Key). writes_key a.writes y ≡ true) (same_key-true k x now) w
  ];
  holds = λ x v n. keeps x (d.holds x v (false_from_ne_true (has_key put x) (λ h. true≢false (sym (any_push_old (λ q. same_key q x) put k h) ∙ n))));
}

keeps_put_at : (opening : List (Key × Content)) (p : ℕ) (m : Story) (s : Seat) (k : Key) (x : Spot) (i : ℕ) (a : Attempt) (v : Option ℕ) → s.stage ≡ Decided i → slice_get m.history i ≡ Some a
    → written k a.writes ≡ Some v → spot_at m.homes k ≡ Some x → holder_is p (place_of m.places x).holder ≡ true
    → IsSoundStory opening m → IsSoundSeat opening m p s → Keeps opening p m (moved (with_place m x (refilled v (place_of m.places x))) (record s { put = s.put ++ k ∷ [] }))
keeps_put_at opening p m s k x i a v stage there w at mine story own =
    let old = place_of m.places x in
    let new : Place = refilled v old in
    let home : IsHome m k x = record { at = at; alive = held_alive p old.holder mine } in
    let sets = story_sets opening m k x new home story in
    let st = stands m.places m.homes in
    let st' = stands (placed m.places x new) m.homes in
    let mine_k : holder_is p (st k).holder ≡ true = to_home m k x (λ y. holder_is p y.holder ≡ true) home mine in
    let keeps : holder_is p (st k).holder ≡ true → holder_is p new.holder ≡ true = λ _. mine in
    let back : holder_is p new.holder ≡ true → holder_is p (st k).holder ≡ true = λ _. mine_k in
    let held : HomeHeld m.horizon opening m.history m.decided s.put k old.content (Decided i) =
    subst (λ (y : Stage). HomeHeld m.horizon opening m.history m.decided s.put k old.content y) stage
    (at_home m k x (λ y. HomeHeld m.horizon opening m.history m.decided s.put k y.content s.stage) home (own.locked_homes k mine_k)) in
    record {
      story = story_placed opening m k x new home home.alive (λ e. absurd (true≢false (sym mine ∙ unlocked_not p old.holder e))) story;
      own = record {
        lock_owners = locks_set k new st st' sets p s.locks keeps back own.lock_owners;
        attempt_stands = subst (λ (y : Stage). AttemptStands m.history m.decided st' (s.put ++ k ∷ []) p y) (sym stage) (
          a,
          stands_put m.history m.decided st st' s.put p i a k (written-writes k a v w)
              (held_after k new st st' sets p keeps) (decided_is m.history m.decided st s.put p s.stage i a stage there own.attempt_stands),
        );
        locked_homes = locked_set m.horizon opening m.history m.decided s.put (s.put ++ k ∷ []) p s.stage k new st st' sets
            (λ _. subst (λ (y : Stage). HomeHeld m.horizon opening m.history m.decided (s.put ++ k ∷ []) k (content_of old.content.number v) y) (sym stage)
            (held_puts m.horizon opening m.history m.decided s.put k old.content i a v there w held))
            (λ q d other so. held_put_other m.horizon opening m.history m.decided s.put k q d s.stage other so)
            own.locked_homes;
        no_lower_writer = own.no_lower_writer;
        tries_go_on = own.tries_go_on;
        tries_kept = own.tries_kept;
        marks_are_past = own.marks_are_past;
        kept_is_past = own.kept_is_past;
        kept_fits = fits_placed m.places m.homes x new s.kept home.alive own.kept_fits;
      };
      others = λ r t other sound. seat_placed opening m k x new r t home story (other_not p r old.holder mine other) (other_not p r old.holder mine other) sound;
      holders = λ seats l holders. holders_set k new st st' sets seats (λ r e. holders k r (to_home m k x (λ y. holder_is r y.holder ≡ true) home e)) holders;
    }

value_is : (k : Key) (a : Attempt) (v : Option ℕ) → written k a.writes ≡ Some v → value_to_put k (Some a) ≡ v
value_is k a v e = ap (λ (w : Option (Option ℕ)). unwrap_or w None) e

pub keeps_put : (opening : List (Key × Content)) (p : ℕ) (m : Story) (s : Seat) (k : Key)
    → option_map_or (λ a. writes_key a.writes k) (attempt_decided m.history s.stage) false ≡ true → is_held_at p m.places (spot_at m.homes k) ≡ true
    → IsSoundStory opening m → IsSoundSeat opening m p s
    → Keeps opening p m (moved (record m { places = valued (value_to_put k (attempt_decided m.history s.stage)) m.places (spot_at m.homes k) }) (record s { put = s.put ++ k ∷ [] }))
keeps_put opening p m s k writes held story own =
    let d = decided_passes m.history s.stage (λ a. writes_key a.writes k) writes in
    let v = writes-written k d.attempt d.passes in
    let q = held_place p m.places (spot_at m.homes k) held in
    let now : attempt_decided m.history s.stage ≡ Some d.attempt = ap (λ (x : Stage). attempt_decided m.history x) d.stage_is ∙ d.at in
    let value : value_to_put k (attempt_decided m.history s.stage) ≡ v.0 = ap (value_to_put k) now ∙ value_is k d.attempt v.0 v.1 in
    subst (λ (y : Option ℕ). Keeps opening p m (moved (record m { places = valued y m.places (spot_at m.homes k) }) (record s { put = s.put ++ k ∷ [] }))) (sym value)
    (subst (λ (o : Option Spot). Keeps opening p m (moved (record m { places = valued v.0 m.places o }) (record s { put = s.put ++ k ∷ [] }))) (sym q.1)
    (keeps_put_at opening p m s k q.0 d.index d.attempt v.0 d.stage_is d.at v.1 q.1 q.2 story own))

-- ---- Open

-- the number that an unlocked place gets: the decided attempt's, or the old one
abbrev number_at_open : Option Attempt → Content → Number
number_at_open a c = option_map_or (λ b. b.number) a c.number

opens_right : (opening : List (Key × Content)) (m : Story) (p : ℕ) (put : List Key) (k : Key) (c : Content) (stage : Stage) → not (is_trying stage) ≡ true
    → option_map_or (λ _. has_key put k) (attempt_decided m.history stage) true ≡ true
    → IsSoundStory opening m → AttemptStands m.history m.decided (stands m.places m.homes) put p stage → HomeHeld m.horizon opening m.history m.decided put k c stage
    → Shows m.horizon (content_of (number_at_open (attempt_decided m.history stage) c) c.value) (last_write opening m.history m.decided k)
opens_right opening m p put k c Idle rests in_put story stand held = held
opens_right opening m p put k c (Trying i) rests in_put story stand held = absurd (true≢false (sym rests))
opens_right opening m p put k c Ended rests in_put story stand held = held
opens_right opening m p put k c (Decided i) rests in_put story stand held =
    let a = stand.0 in
    let at : slice_get m.history i ≡ Some a = stand.1.at in
    let put_it : has_key put k ≡ true = sym (ap (λ (o : Option Attempt). option_map_or (λ _. has_key put k) o true) at) ∙ in_put in
    inl (ap (λ (o : Option Attempt). content_of (number_at_open o c) c.value) at
    ∙ held_opens m.horizon opening m.history m.decided (clock_of m.first_draw m.epoch m.history) (stands m.places m.homes) put k c p i a story.ordered_numbers stand.1 put_it held)

-- where one home alone is not held any more, and its value was put
rest_stands : (h : List Attempt) (decided : List Number) (k : Key) (new : Place) (st st' : Key → Place) → Sets k new st st' → (put : List Key) (p : ℕ) (stage : Stage) → not (is_trying stage) ≡ true
    → option_map_or (λ _. has_key put k) (attempt_decided h stage) true ≡ true
    → AttemptStands h decided st put p stage → AttemptStands h decided st' put p stage
rest_stands h decided k new st st' sets put p Idle rests in_put stand = tt
rest_stands h decided k new st st' sets put p (Trying i) rests in_put stand = absurd (true≢false (sym rests))
rest_stands h decided k new st st' sets put p Ended rests in_put stand = tt
rest_stands h decided k new st st' sets put p (Decided i) rests in_put stand =
    let a = stand.0 in
    let t = stand.1 in
    let put_it : has_key put k ≡ true = sym (ap (λ (o : Option Attempt). option_map_or (λ _. has_key put k) o true) t.at) ∙ in_put in (
      a,
      record {
        at = t.at;
        own = t.own;
        counts = t.counts;
        written = t.written;
        holds = λ q w n. held_other k new st st' sets p q (λ e. true≢false (sym (ap (has_key put) (sym e) ∙ put_it) ∙ n)) (t.holds q w n);
      },
    )

abbrev reopened : Option Attempt → Place → Place
reopened a q = place (content_of (option_map_or (λ b. b.number) a q.content.number) q.content.value) Free

keeps_open_at : (opening : List (Key × Content)) (p : ℕ) (m : Story) (s : Seat) (k : Key) (x : Spot) → not (is_trying s.stage) ≡ true
    → option_map_or (λ _. has_key s.put k) (attempt_decided m.history s.stage) true ≡ true
    → spot_at m.homes k ≡ Some x → holder_is p (place_of m.places x).holder ≡ true
    → IsSoundStory opening m → IsSoundSeat opening m p s
    → Keeps opening p m (moved (with_place m x (reopened (attempt_decided m.history s.stage) (place_of m.places x))) (settled (record s { locks = filter (λ q. not (same_key q k)) s.locks })))
keeps_open_at opening p m s k x rests in_put at mine story own =
    let old = place_of m.places x in
    let new : Place = reopened (attempt_decided m.history s.stage) old in
    let home : IsHome m k x = record { at = at; alive = held_alive p old.holder mine } in
    let sets = story_sets opening m k x new home story in
    let st = stands m.places m.homes in
    let st' = stands (placed m.places x new) m.homes in
    let mine_k : holder_is p (st k).holder ≡ true = to_home m k x (λ y. holder_is p y.holder ≡ true) home mine in
    let held : HomeHeld m.horizon opening m.history m.decided s.put k old.content s.stage =
    at_home m k x (λ y. HomeHeld m.horizon opening m.history m.decided s.put k y.content s.stage) home (own.locked_homes k mine_k) in
    record {
      story = story_placed opening m k x new home free_is (λ _. opens_right opening m p s.put k old.content s.stage rests in_put story own.attempt_stands held) story;
      own = settled_sound opening (with_place m x new) p (record s { locks = filter (λ q. not (same_key q k)) s.locks }) (record {
        lock_owners = locks_given k new st st' sets p s.locks refl own.lock_owners;
        attempt_stands = rest_stands m.history m.decided k new st st' sets s.put p s.stage rests in_put own.attempt_stands;
        locked_homes = locked_set m.horizon opening m.history m.decided s.put s.put p s.stage k new st st' sets (λ h. absurd (true≢false (sym h))) (λ q d _ so. so) own.locked_homes;
        no_lower_writer = own.no_lower_writer;
        tries_go_on = own.tries_go_on;
        tries_kept = own.tries_kept;
        marks_are_past = own.marks_are_past;
        kept_is_past = own.kept_is_past;
        kept_fits = fits_placed m.places m.homes x new s.kept home.alive own.kept_fits;
      });
      others = λ r t other sound. seat_placed opening m k x new r t home story (other_not p r old.holder mine other) refl sound;
      holders = λ seats l holders. holders_set k new st st' sets seats (λ r e. absurd (true≢false (sym e))) holders;
    }

pub keeps_open : (opening : List (Key × Content)) (p : ℕ) (m : Story) (s : Seat) (k : Key) → not (is_trying s.stage) ≡ true → is_held_at p m.places (spot_at m.homes k) ≡ true
    → option_map_or (λ _. has_key s.put k) (attempt_decided m.history s.stage) true ≡ true
    → IsSoundStory opening m → IsSoundSeat opening m p s
    → Keeps opening p m (moved (record m { places = opened (attempt_decided m.history s.stage) m.places (spot_at m.homes k) })
    (settled (record s { locks = filter (λ q. not (same_key q k)) s.locks })))
keeps_open opening p m s k rests held in_put story own =
    let q = held_place p m.places (spot_at m.homes k) held in
    subst (λ (o : Option Spot). Keeps opening p m (moved (record m { places = opened (attempt_decided m.history s.stage) m.places o }) (settled (record s { locks = filter (λ x. not (same_key x k)) s.locks })))) (sym q.1)
    (keeps_open_at opening p m s k q.0 rests in_put q.1 q.2 story own)
