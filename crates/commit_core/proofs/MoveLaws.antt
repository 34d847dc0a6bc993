-- A list of moves, as a relation between what stood at each key and what stands there: the parts that it keeps.
use Rattle.std.proofs.Common.{◌≡◌, ℕ, Bool, true, false, not, true≢false, ◌&&◌, ◌||◌, ◌⊎◌, inl, inr, List, [], ◌∷◌, refl, sym, ap, ◌∙◌, subst}
use Rattle.std.proofs.lemmas.Bool.{cases_Bool, and_parts, and_from, or_left, cond-true, cond-false}
use Rattle.std.specs.List.{filter}
use Rattle.serial_model.specs.declared.key.Key.{Key}
use Rattle.serial_model.specs.declared.number.Number.{Number}
use Rattle.homes.specs.declared.places.Content.{Content}
use Rattle.homes.specs.declared.places.Holder.{Holder}
use Rattle.homes.specs.declared.places.Holder.TheVariants.{Free, Dead}
use Rattle.homes.specs.declared.places.Move.{Move}
use Rattle.commit_core.specs.declared.place.Place.{Place}
use Rattle.commit_core.specs.declared.attempt.Attempt.{Attempt}
use Rattle.commit_core.specs.declared.seat.Stage.{Stage}
use Rattle.commit_core.specs.declared.seat.Stage.TheVariants.{Idle, Trying, Ended, Decided}
use Rattle.commit_core.specs.Keys.{same_key, has_key, IsUpTo}
use Rattle.commit_core.specs.Places.{holder_is}
use Rattle.commit_core.specs.Moves.{Shows, moves_key, Moves}
use Rattle.commit_core.specs.CoreState.{can_begin}
use Rattle.commit_core.specs.Serial.{last_write, state_below}
use Rattle.commit_core.specs.Sound.Locks.{LockOwners, HoldersAreSeats, HomesAlive, AttemptStands}
use Rattle.commit_core.specs.Sound.Homes.{UnlockedHomes, HomeHeld, LockedHomes}
use Rattle.commit_core.specs.Lemmas.Keys.{same_key-true}
use Rattle.commit_core.specs.Lemmas.Shows.{shows_later, shows_trans}
use Rattle.commit_core.proofs.LockLaws.{other_not}
use Rattle.commit_core.proofs.Events.Keeps.{home_before}

-- ---- locks that are left

key_or_other : (a b : Key) → ((a ≡ b) × (same_key a b ≡ true)) ⊎ (same_key a b ≡ false)
key_or_other a b = elim (cases_Bool (same_key a b)) [ inl hit ↦ inl (same_key-true a b hit, hit) | inr miss ↦ inr miss ]

pub locks-left : (f : Key → Bool) (locks : List Key) (k : Key) → has_key (filter f locks) k ≡ (f k && has_key locks k)
locks-left f [] k = and_false (f k)
  where
    and_false : (b : Bool) → false ≡ (b && false)
    and_false true = refl
    and_false false = refl
locks-left f (x ∷ more) k =
    elim (cases_Bool (f x)) [
      | inl keeps ↦ ap (λ (l : List Key). has_key l k) (cond-true (f x) (x ∷ filter f more) (filter f more) keeps) ∙ elim (key_or_other x k) [
        | inl e ↦ or_left (same_key x k) (has_key (filter f more) k) e.1
            ∙ sym (and_from (f k) (has_key (x ∷ more) k) (ap f (sym e.0) ∙ keeps) (or_left (same_key x k) (has_key more k) e.1))
        | inr o ↦ or_false (same_key x k) (has_key (filter f more) k) o ∙ locks-left f more k ∙ ap (λ (b : Bool). f k && b) (sym (or_false (same_key x k) (has_key more k) o))
      ]
      | inr drops ↦ ap (λ (l : List Key). has_key l k) (cond-false (f x) (x ∷ filter f more) (filter f more) drops) ∙ locks-left f more k ∙ elim (key_or_other x k) [
        | inl e ↦ let no : f k ≡ false = ap f (sym e.0) ∙ drops in both_false (f k) (has_key more k) (has_key (x ∷ more) k) no
        | inr o ↦ ap (λ (b : Bool). f k && b) (sym (or_false (same_key x k) (has_key more k) o))
      ]
    ]
  where
    or_false : (a b : Bool) → a ≡ false → (a || b) ≡ b
    or_false a b e = rw e refl

    both_false : (a b c : Bool) → a ≡ false → (a && b) ≡ (a && c)
    both_false a b c e = rw e refl

-- ---- holders

-- a key that moved isn't held by anybody now, and was not by another seat
pub moved_free : (r : ℕ) (x : Holder) → x ≡ Free → holder_is r x ≡ false
moved_free r x e = ap (holder_is r) e

module _ (p : ℕ) (begins : Bool) (h' : Number) (moves : List Move) (st st' : Key → Place) where
  pub was_other : Moves p begins h' moves st st' → (r : ℕ) → (r ≡ p → ⊥) → (k : Key) → moves_key moves k ≡ true → holder_is r (st k).holder ≡ false
  was_other m r other k hit =
      elim (m.moved k hit).was [
        | inl free ↦ moved_free r (st k).holder free
        | inr held ↦ other_not p r (st k).holder held.0 other
      ]

  -- a seat that holds a key's home now held it before, and the key didn't move
  stays_held : Moves p begins h' moves st st' → (r : ℕ) (k : Key) → holder_is r (st' k).holder ≡ true → (moves_key moves k ≡ false) × (st' k ≡ st k)
  stays_held m r k mine =
      elim (cases_Bool (moves_key moves k)) [
        | inl hit ↦ absurd (true≢false (sym mine ∙ moved_free r (st' k).holder (m.moved k hit).now))
        | inr miss ↦ (miss, m.others k miss)
      ]

  -- ---- 3

  pub unlocked_moved : (h : Number) (opening : List (Key × Content)) (history : List Attempt) (decided : List Number) (put : List Key) (stage : Stage) → (begins ≡ true → can_begin stage ≡ true)
      → Moves p begins h' moves st st' → IsUpTo h h'
      → LockedHomes h opening history decided st put p stage
      → UnlockedHomes h (last_write opening history decided) st → UnlockedHomes h' (last_write opening history decided) st'
  unlocked_moved h opening history decided put stage may m up locked homes = λ k free.
      let last = last_write opening history decided k in
      elim (cases_Bool (moves_key moves k)) [
        | inl hit ↦ let at = m.moved k hit in
            shows_trans h h' (st' k).content (st k).content last up at.same (elim at.was [
              | inl was ↦ homes k was
              | inr was ↦ home_before h opening history decided put k (st k).content stage (may was.1) (locked k was.0)
            ])
        | inr miss ↦ let e = m.others k miss in
            subst (λ (x : Place). Shows h' x.content last) (sym e) (shows_later h h' (st k).content last up (homes k (sym (ap (λ (x : Place). x.holder) e) ∙ free)))
      ]

  -- ---- 4

  held_later : (h : Number) (opening : List (Key × Content)) (history : List Attempt) (decided : List Number) (put : List Key) (k : Key) (c : Content) (s : Stage) → IsUpTo h h'
      → HomeHeld h opening history decided put k c s → HomeHeld h' opening history decided put k c s
  held_later h opening history decided put k c Idle up held = shows_later h h' c (last_write opening history decided k) up held
  held_later h opening history decided put k c (Trying i) up held = (shows_later h h' c (last_write opening history decided k) up held.0, held.1)
  held_later h opening history decided put k c Ended up held = shows_later h h' c (last_write opening history decided k) up held
  held_later h opening history decided put k c (Decided i) up held = λ a at.
      let was = held a at in ((was.0.0, shows_later h h' was.0.0 (state_below opening history decided a.number k) up was.0.1, was.0.2), was.1)

  -- of any seat
  pub locked_moved : (h : Number) (opening : List (Key × Content)) (history : List Attempt) (decided : List Number) (put : List Key) (r : ℕ) (s : Stage)
      → Moves p begins h' moves st st' → IsUpTo h h'
      → LockedHomes h opening history decided st put r s → LockedHomes h' opening history decided st' put r s
  locked_moved h opening history decided put r s m up locked = λ k mine.
      let e = (stays_held m r k mine).1 in
      subst (λ (x : Place). HomeHeld h' opening history decided put k x.content s) (sym e)
      (held_later h opening history decided put k (st k).content s up (locked k (sym (ap (λ (x : Place). holder_is r x.holder) e) ∙ mine)))

  -- ---- 2. A seat none of whose keys moved has the locks that it had; the one that moved the keys loses those

  abbrev pub HasNone : ℕ → Type 0
  HasNone r = (k : Key) → moves_key moves k ≡ true → holder_is r (st k).holder ≡ false

  kept_held : Moves p begins h' moves st st' → (r : ℕ) → HasNone r → (k : Key) → holder_is r (st k).holder ≡ true → holder_is r (st' k).holder ≡ true
  kept_held m r none k mine =
      elim (cases_Bool (moves_key moves k)) [
        | inl hit ↦ absurd (true≢false (sym mine ∙ none k hit))
        | inr miss ↦ ap (λ (x : Place). holder_is r x.holder) (m.others k miss) ∙ mine
      ]

  pub owners_kept : (r : ℕ) (locks : List Key) → Moves p begins h' moves st st' → HasNone r → LockOwners st r locks → LockOwners st' r locks
  owners_kept r locks m none owns = record {
    held = λ k h. kept_held m r none k (owns.held k h);
    listed = λ k mine. owns.listed k (sym (ap (λ (x : Place). holder_is r x.holder) (stays_held m r k mine).1) ∙ mine);
  }

  pub owners_lost : (locks : List Key) → Moves p begins h' moves st st' → LockOwners st p locks → LockOwners st' p (filter (λ q. not (moves_key moves q)) locks)
  owners_lost locks m owns = record {
    held = λ k h.
        let parts = and_parts (not (moves_key moves k)) (has_key locks k) (sym (locks-left (λ q. not (moves_key moves q)) locks k) ∙ h) in
        ap (λ (x : Place). holder_is p x.holder) (m.others k (not_true (moves_key moves k) parts.0)) ∙ owns.held k parts.1;
    listed = λ k mine.
        let stays = stays_held m p k mine in
        locks-left (λ q. not (moves_key moves q)) locks k
        ∙ and_from (not (moves_key moves k)) (has_key locks k) (ap not stays.0) (owns.listed k (sym (ap (λ (x : Place). holder_is p x.holder) stays.1) ∙ mine));
  }
    where
      not_true : (b : Bool) → not b ≡ true → b ≡ false
      not_true true e = absurd (true≢false (sym e))
      not_true false e = refl

  -- ---- 2, attempts

  pub stands_kept : (history : List Attempt) (decided : List Number) (put : List Key) (r : ℕ) (s : Stage) → Moves p begins h' moves st st' → HasNone r
      → AttemptStands history decided st put r s → AttemptStands history decided st' put r s
  stands_kept history decided put r Idle m none stands = tt
  stands_kept history decided put r (Trying i) m none stands =
      let t = stands.1 in (stands.0, record { at = t.at; own = t.own; undecided = t.undecided; holds = λ k w. kept_held m r none k (t.holds k w) })
  stands_kept history decided put r Ended m none stands = tt
  stands_kept history decided put r (Decided i) m none stands =
      let t = stands.1 in
      (stands.0, record { at = t.at; own = t.own; counts = t.counts; written = t.written; holds = λ k w n. kept_held m r none k (t.holds k w n) })

  pub alive_moved : Moves p begins h' moves st st' → HomesAlive st → HomesAlive st'
  alive_moved m alive = λ k dead.
      elim (cases_Bool (moves_key moves k)) [
        | inl hit ↦ let e = sym (m.moved k hit).now ∙ dead in absurd (free_dead e)
        | inr miss ↦ alive k (sym (ap (λ (x : Place). x.holder) (m.others k miss)) ∙ dead)
      ]
    where
      free_dead : Free ≡ Dead → ⊥
      free_dead e = cc

  pub holders_moved : (seats : ℕ) → Moves p begins h' moves st st' → HoldersAreSeats st seats → HoldersAreSeats st' seats
  holders_moved seats m holders = λ k r mine. holders k r (sym (ap (λ (x : Place). holder_is r x.holder) (stays_held m r k mine).1) ∙ mine)
