-- What stands at homes, under each change of the story and of one home. An absence may have lost its number.
use Rattle.std.proofs.Common.{◌≡◌, ℕ, Bool, true, false, true≢false, ◌&&◌, inl, inr, List, [], ◌∷◌, ◌++◌, refl, sym, ap, ◌∙◌, subst, length, Option, Some, None}
use Rattle.std.proofs.lemmas.Bool.{and_parts, and_from, and_left, cases_Bool, false_from_ne_true}
use Rattle.std.specs.List.{Contains, slice_get}
use Rattle.serial_model.specs.declared.key.Key.{Key}
use Rattle.serial_model.specs.declared.number.Number.{Number}
use Rattle.serial_model.specs.Numbers.{is_below, IsBelow, not_below_itself, is_below-true, below_from_test}
use Rattle.homes.specs.declared.places.Content.{Content}
use Rattle.homes.specs.declared.places.Holder.TheVariants.{Free, Dead}
use Rattle.commit_core.specs.declared.place.Place.{Place}
use Rattle.commit_core.specs.declared.attempt.Attempt.{Attempt}
use Rattle.commit_core.specs.declared.seat.Stage.{Stage}
use Rattle.commit_core.specs.declared.seat.Stage.TheVariants.{Idle, Trying, Ended, Decided}
use Rattle.commit_core.specs.Keys.{same_key, has_key, content_of, content_at, written, writes_key, IsUpTo}
use Rattle.commit_core.specs.Places.{holder_is}
use Rattle.commit_core.specs.Moves.{Shows}
use Rattle.commit_core.specs.CoreState.{is_decided}
use Rattle.commit_core.specs.Serial.{state_below, last_write}
use Rattle.commit_core.specs.Sound.Numbers.{OrderedNumbers}
use Rattle.commit_core.specs.Sound.Locks.{IsDecided, HomesAlive}
use Rattle.commit_core.specs.Sound.Homes.{UnlockedHomes, IsAboveOthers, half_put, HomeHeld, LockedHomes}
use Rattle.commit_core.specs.Lemmas.Keys.{same_key-self, same_key-true}
use Rattle.commit_core.specs.Lemmas.Places.{same_or_other, Sets}
use Rattle.lists.specs.Elements.{in_push_cases, at_in, at_push_new, any_push_new, any_push-false}
use Rattle.commit_core.specs.Lemmas.States.{writes-written, after_all-agree, after_all-last}
use Rattle.commit_core.specs.Lemmas.Numbers.{decided_cases, decided_old, clock_undecided}
use Rattle.commit_core.specs.Lemmas.Versions.{content_after-drawn, content_after-decided}
use Rattle.commit_core.specs.Lemmas.Shows.{shown_past}
use Rattle.commit_core.proofs.ReadLaws.{IsThere, same_at}

-- ---- unlocked_homes

pub homes_drawn : (horizon : Number) (opening : List (Key × Content)) (h : List Attempt) (decided : List Number) (t : Number) (a : Attempt) (st : Key → Place) → OrderedNumbers opening h decided t → a.number ≡ t
    → UnlockedHomes horizon (last_write opening h decided) st → UnlockedHomes horizon (last_write opening (h ++ a ∷ []) decided) st
homes_drawn horizon opening h decided t a st o e homes = λ k free.
    subst (λ (c : Content). Shows horizon (st k).content c) (sym (content_after-drawn opening h decided t a (λ _. true) k o e)) (homes k free)

-- no attempt of this number writes the key
abbrev pub IsUnwritten : List Attempt → Number → Key → Type 0
IsUnwritten h m k = (b : Attempt) → Contains h b → b.number ≡ m → writes_key b.writes k ≡ true → ⊥

pub homes_decided : (horizon : Number) (opening : List (Key × Content)) (h : List Attempt) (decided : List Number) (m : Number) (st : Key → Place)
    → ((k : Key) → (st k).holder ≡ Free → IsUnwritten h m k)
    → UnlockedHomes horizon (last_write opening h decided) st → UnlockedHomes horizon (last_write opening h (decided ++ m ∷ [])) st
homes_decided horizon opening h decided m st apart homes = λ k free.
    subst (λ (c : Content). Shows horizon (st k).content c) (sym (content_after-decided opening h decided m (λ _. true) k (λ b n e w _. apart k free b n e w))) (homes k free)

-- ---- one home that a seat holds

above_drawn : (h : List Attempt) (decided : List Number) (k : Key) (c : Content) (a b : Attempt) → is_decided decided a.number ≡ false
    → IsAboveOthers h decided k c b → IsAboveOthers (h ++ a ∷ []) decided k c b
above_drawn h decided k c a b e above = record {
  place = above.place;
  writes = λ x m d w. elim (in_push_cases x a h m) [
    | inl old ↦ above.writes x old d w
    | inr new ↦ absurd (true≢false (sym d ∙ ap (λ (y : Attempt). is_decided decided y.number) (sym new) ∙ e))
  ];
}

above_decided : (h : List Attempt) (decided : List Number) (m : Number) (k : Key) (c : Content) (b : Attempt) → IsUnwritten h m k
    → IsAboveOthers h decided k c b → IsAboveOthers h (decided ++ m ∷ []) k c b
above_decided h decided m k c b none above = record {
  place = above.place;
  writes = λ x n d w. elim (decided_cases decided m x.number d) [
    | inl old ↦ above.writes x n old w
    | inr new ↦ absurd (none x n (sym new) w)
  ];
}

module _ (horizon : Number) (opening : List (Key × Content)) (h : List Attempt) (decided : List Number) where
  abbrev last : Key → Content
  last = last_write opening h decided

  -- another seat draws
  pub held_drawn : (t : Number) (a : Attempt) (put : List Key) (k : Key) (c : Content) (stage : Stage) → OrderedNumbers opening h decided t → a.number ≡ t → IsThere h stage
      → HomeHeld horizon opening h decided put k c stage → HomeHeld horizon opening (h ++ a ∷ []) decided put k c stage
  held_drawn t a put k c Idle o e there held = subst (λ (x : Content). Shows horizon c x) (sym (content_after-drawn opening h decided t a (λ _. true) k o e)) held
  held_drawn t a put k c (Trying i) o e there held = (
    subst (λ (x : Content). Shows horizon c x) (sym (content_after-drawn opening h decided t a (λ _. true) k o e)) held.0,
    λ b at. above_drawn h decided k c a b (rw e (clock_undecided opening h decided t o)) (held.1 b (there.1 ∙ ap (λ (x : Attempt). Some x) (same_at h a i there.0 b there.1 at))),
  )
  held_drawn t a put k c Ended o e there held = subst (λ (x : Content). Shows horizon c x) (sym (content_after-drawn opening h decided t a (λ _. true) k o e)) held
  held_drawn t a put k c (Decided i) o e there held = λ b at.
      let was = held b (there.1 ∙ ap (λ (x : Attempt). Some x) (same_at h a i there.0 b there.1 at)) in (
        (was.0.0, subst (λ (x : Content). Shows horizon was.0.0 x) (sym (content_after-drawn opening h decided t a (λ x. is_below x b.number) k o e)) was.0.1, was.0.2),
        above_drawn h decided k c a b (rw e (clock_undecided opening h decided t o)) was.1,
      )

  -- another seat's attempt, which doesn't write the key, is decided
  pub held_decided : (m : Number) (put : List Key) (k : Key) (c : Content) (stage : Stage) → IsUnwritten h m k
      → HomeHeld horizon opening h decided put k c stage → HomeHeld horizon opening h (decided ++ m ∷ []) put k c stage
  held_decided m put k c Idle none held = subst (λ (x : Content). Shows horizon c x) (sym (content_after-decided opening h decided m (λ _. true) k (λ b n e w _. none b n e w))) held
  held_decided m put k c (Trying i) none held = (
    subst (λ (x : Content). Shows horizon c x) (sym (content_after-decided opening h decided m (λ _. true) k (λ b n e w _. none b n e w))) held.0,
    λ b at. above_decided h decided m k c b none (held.1 b at),
  )
  held_decided m put k c Ended none held = subst (λ (x : Content). Shows horizon c x) (sym (content_after-decided opening h decided m (λ _. true) k (λ b n e w _. none b n e w))) held
  held_decided m put k c (Decided i) none held = λ b at.
      let was = held b at in (
        (was.0.0, subst (λ (x : Content). Shows horizon was.0.0 x) (sym (content_after-decided opening h decided m (λ x. is_below x b.number) k (λ x n e w _. none x n e w))) was.0.1, was.0.2),
        above_decided h decided m k c b none was.1,
      )

  half_put-not : (w : Option (Option ℕ)) (c : Content) → half_put false w c ≡ c
  half_put-not None c = refl
  half_put-not (Some v) c = refl

  up_below : (m : Number) (a b : Number) → is_decided decided a ≡ false → is_decided decided b ≡ true → IsUpTo b a → IsBelow b a
  up_below m a b e d (inl same) = absurd (true≢false (sym d ∙ ap (is_decided decided) same ∙ e))
  up_below m a b e d (inr l) = l

  -- the own attempt is decided: what the home shows is now what the state below its number has
  pub held_decides : (k : Key) (c : Content) (i : ℕ) (a : Attempt) (put : List Key) → slice_get h i ≡ Some a → is_decided decided a.number ≡ false
      → HomeHeld horizon opening h decided put k c (Trying i) → HomeHeld horizon opening h (decided ++ a.number ∷ []) [] k c (Decided i)
  held_decides k c i a put at e held = λ b there.
      let both : Some a ≡ Some b = sym at ∙ there in
      let same : a ≡ b = cc in
      subst (λ (x : Attempt). ((old : Content) × Shows horizon old (state_below opening h (decided ++ a.number ∷ []) x.number k) × (c ≡ half_put false (written k x.writes) old)) × IsAboveOthers h (decided ++ a.number ∷ []) k c x) same
      ((c, subst (λ (x : Content). Shows horizon c x) below held.0, sym (half_put-not (written k a.writes) c)), now)
    where
      above : IsAboveOthers h decided k c a
      above = held.1 a at

      below : last k ≡ state_below opening h (decided ++ a.number ∷ []) a.number k
      below =
          after_all-agree (λ b. is_decided decided b.number && true) (λ b. is_decided (decided ++ a.number ∷ []) b.number && is_below b.number a.number) k h (content_at opening k)
          (λ b m w. elim (cases_Bool (is_decided decided b.number)) [
            | inl hit ↦
                and_from (is_decided decided b.number) true hit refl
                ∙ sym (and_from (is_decided (decided ++ a.number ∷ []) b.number) (is_below b.number a.number) (decided_old decided a.number b.number hit)
                (is_below-true b.number a.number (up_below a.number a.number b.number e hit (above.writes b m hit w))))
            | inr miss ↦
                and_left (is_decided decided b.number) true miss
                ∙ sym (false_from_ne_true (is_decided (decided ++ a.number ∷ []) b.number && is_below b.number a.number) (λ t.
                let parts = and_parts (is_decided (decided ++ a.number ∷ []) b.number) (is_below b.number a.number) t in
                elim (decided_cases decided a.number b.number parts.0) [
                  | inl old ↦ true≢false (sym old ∙ miss)
                  | inr new ↦ not_below_itself b.number a.number (sym new) (below_from_test b.number a.number parts.1)
                ]))
          ])

      now : IsAboveOthers h (decided ++ a.number ∷ []) k c a
      now = record {
        place = above.place;
        writes = λ x m d w. elim (decided_cases decided a.number x.number d) [ inl old ↦ above.writes x m old w | inr new ↦ inl (sym new) ];
      }

  -- the own attempt is drawn
  pub held_draws : (t : Number) (a : Attempt) (put : List Key) (k : Key) (c : Content) → OrderedNumbers opening h decided t → a.number ≡ t → Shows horizon c (last k)
      → HomeHeld horizon opening (h ++ a ∷ []) decided put k c (Trying (length h))
  held_draws t a put k c o e is = (
    subst (λ (x : Content). Shows horizon c x) (sym (content_after-drawn opening h decided t a (λ _. true) k o e)) is,
    λ b at. let both : Some a ≡ Some b = sym (at_push_new h a) ∙ at in let same : a ≡ b = cc in subst (λ (x : Attempt). IsAboveOthers (h ++ a ∷ []) decided k c x) same above,
  )
    where
      above : IsAboveOthers (h ++ a ∷ []) decided k c a
      above = record {
        place = subst (λ (n : Number). IsBelow c.number n) (sym e) (shown_past horizon opening h decided t k c o is);
        writes = λ b m d w. elim (in_push_cases b a h m) [ inl old ↦ inr (rw e (o.past b old)) | inr new ↦ inl (ap (λ (x : Attempt). x.number) (sym new)) ];
      }

  half_put-number : (x : Bool) (w : Option (Option ℕ)) (d : Content) → (half_put x w d).number ≡ d.number
  half_put-number x None d = refl
  half_put-number true (Some v) d = refl
  half_put-number false (Some v) d = refl

  -- a value is put
  pub held_puts : (put : List Key) (k : Key) (c : Content) (i : ℕ) (a : Attempt) (v : Option ℕ) → slice_get h i ≡ Some a → written k a.writes ≡ Some v
      → HomeHeld horizon opening h decided put k c (Decided i) → HomeHeld horizon opening h decided (put ++ k ∷ []) k (content_of c.number v) (Decided i)
  held_puts put k c i a v at w held = λ b there.
      let both : Some a ≡ Some b = sym at ∙ there in
      let same : a ≡ b = cc in
      let was = held b there in
      let wb : written k b.writes ≡ Some v = ap (λ (x : Attempt). written k x.writes) (sym same) ∙ w in (
        (was.0.0, was.0.1, put_now v (has_key put k) (has_key (put ++ k ∷ []) k) (written k b.writes) c was.0.0 wb (any_push_new (λ q. same_key q k) put k (same_key-self k)) was.0.2),
        record { place = was.1.place; writes = was.1.writes },
      )
    where
      put_now : (v : Option ℕ) (x y : Bool) (w : Option (Option ℕ)) (c d : Content) → w ≡ Some v → y ≡ true → c ≡ half_put x w d → content_of c.number v ≡ half_put y w d
      put_now v x y w c d e f was = rw (f, e) (ap (λ (n : Number). content_of n v) (ap (λ (z : Content). z.number) was ∙ half_put-number x w d))

  -- the value that was put, with the attempt's number, is the last write: exactly, whatever was lost before
  pub held_opens : (t : Number) (st : Key → Place) (put : List Key) (k : Key) (c : Content) (p i : ℕ) (a : Attempt) → OrderedNumbers opening h decided t → IsDecided h decided st put p i a → has_key put k ≡ true
      → HomeHeld horizon opening h decided put k c (Decided i) → content_of a.number c.value ≡ last k
  held_opens t st put k c p i a o d in_put held =
      let v = writes-written k a (d.written k in_put) in
      let was = held a d.at in
      let value : c.value ≡ v.0 = put_value (has_key put k) (written k a.writes) v.0 c was.0.0 in_put v.1 was.0.2 in
      ap (λ (x : Option ℕ). content_of a.number x) value
      ∙ sym (after_all-last (λ b. is_decided decided b.number && true) k (content_at opening k).number h (content_at opening k) (o.rising k) a v.0
      (at_in h i a d.at) (and_from (is_decided decided a.number) true d.counts refl) v.1
      (λ b m fb w. was.1.writes b m (and_parts (is_decided decided b.number) true fb).0 w))
    where
      put_value : (x : Bool) (w : Option (Option ℕ)) (v : Option ℕ) (c d : Content) → x ≡ true → w ≡ Some v → c ≡ half_put x w d → c.value ≡ v
      put_value x w v c d e f is = ap (λ (z : Content). z.value) (is ∙ ap (λ (b : Bool). half_put b w d) e ∙ ap (λ (u : Option (Option ℕ)). half_put true u d) f)

  -- a value that is put at another key
  pub held_put_other : (put : List Key) (key k : Key) (c : Content) (stage : Stage) → (key ≡ k → ⊥) → HomeHeld horizon opening h decided put k c stage → HomeHeld horizon opening h decided (put ++ key ∷ []) k c stage
  held_put_other put key k c Idle other held = held
  held_put_other put key k c (Trying i) other held = held
  held_put_other put key k c Ended other held = held
  held_put_other put key k c (Decided i) other held = λ b at.
      let was = held b at in (
        (
          was.0.0,
          was.0.1,
          was.0.2
              ∙ ap (λ (x : Bool). half_put x (written k b.writes) was.0.0)
              (sym (any_push-false (λ q. same_key q k) put key (false_from_ne_true (same_key key k) (λ e. other (same_key-true key k e))))),
        ),
        was.1,
      )

-- ---- one home has something new

pub alive_set : (k : Key) (new : Place) (st st' : Key → Place) → Sets k new st st' → (new.holder ≡ Dead → ⊥) → HomesAlive st → HomesAlive st'
alive_set k new st st' sets right alive = λ q dead.
    elim (same_or_other k q) [
      | inl e ↦ right (ap (λ (y : Place). y.holder) (sym sets.now) ∙ subst (λ (x : Key). (st' x).holder ≡ Dead) (sym e) dead)
      | inr o ↦ alive q (ap (λ (y : Place). y.holder) (sym (sets.others q o)) ∙ dead)
    ]

pub homes_set : (horizon : Number) (last : Key → Content) (k : Key) (new : Place) (st st' : Key → Place) → Sets k new st st' → (new.holder ≡ Free → Shows horizon new.content (last k))
    → UnlockedHomes horizon last st → UnlockedHomes horizon last st'
homes_set horizon last k new st st' sets right homes = λ q free.
    elim (same_or_other k q) [
      | inl e ↦
          let at_k : (st' k).holder ≡ Free = subst (λ (x : Key). (st' x).holder ≡ Free) (sym e) free in
          let shown : Shows horizon new.content (last k) = right (ap (λ (y : Place). y.holder) (sym sets.now) ∙ at_k) in
          subst (λ (x : Key). Shows horizon (st' x).content (last x)) e (subst (λ (y : Place). Shows horizon y.content (last k)) (sym sets.now) shown)
      | inr o ↦ subst (λ (y : Place). Shows horizon y.content (last q)) (sym (sets.others q o)) (homes q (ap (λ (y : Place). y.holder) (sym (sets.others q o)) ∙ free))
    ]

pub locked_set : (horizon : Number) (opening : List (Key × Content)) (h : List Attempt) (decided : List Number) (put put' : List Key) (p : ℕ) (stage : Stage) (k : Key) (new : Place) (st st' : Key → Place)
    → Sets k new st st' → (holder_is p new.holder ≡ true → HomeHeld horizon opening h decided put' k new.content stage)
    → ((q : Key) (c : Content) → (k ≡ q → ⊥) → HomeHeld horizon opening h decided put q c stage → HomeHeld horizon opening h decided put' q c stage)
    → LockedHomes horizon opening h decided st put p stage → LockedHomes horizon opening h decided st' put' p stage
locked_set horizon opening h decided put put' p stage k new st st' sets right others locked = λ q mine.
    elim (same_or_other k q) [
      | inl e ↦
          let at_k : holder_is p (st' k).holder ≡ true = subst (λ (x : Key). holder_is p (st' x).holder ≡ true) (sym e) mine in
          let held : HomeHeld horizon opening h decided put' k new.content stage = right (ap (λ (y : Place). holder_is p y.holder) (sym sets.now) ∙ at_k) in
          subst (λ (x : Key). HomeHeld horizon opening h decided put' x (st' x).content stage) e (subst (λ (y : Place). HomeHeld horizon opening h decided put' k y.content stage) (sym sets.now) held)
      | inr o ↦ subst (λ (y : Place). HomeHeld horizon opening h decided put' q y.content stage) (sym (sets.others q o))
          (others q (st q).content o (locked q (ap (λ (y : Place). holder_is p y.holder) (sym (sets.others q o)) ∙ mine)))
    ]

-- the same holds of each home held, for another story or stage, if it does at each key
pub locked_so : (horizon : Number) (o o' : List (Key × Content)) (h h' : List Attempt) (d d' : List Number) (st : Key → Place) (put put' : List Key) (p : ℕ) (stage stage' : Stage)
    → ((k : Key) → holder_is p (st k).holder ≡ true → HomeHeld horizon o h d put k (st k).content stage → HomeHeld horizon o' h' d' put' k (st k).content stage')
    → LockedHomes horizon o h d st put p stage → LockedHomes horizon o' h' d' st put' p stage'
locked_so horizon o o' h h' d d' st put put' p stage stage' so locked = λ k mine. so k mine (locked k mine)
