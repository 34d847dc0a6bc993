-- What stands at a place, and what was read there before: who reads a place in several steps needs these.
use Rattle.std.proofs.Common.{◌≡◌, ℕ, ◌⊎◌, inl, inr, Bool, true, false, List, refl, sym, ap, ◌∙◌, subst, Option, Some}
use Rattle.std.proofs.Common.{None}
use Rattle.std.specs.Prelude.{◌&&◌, Contains, is_some}
use Rattle.std.proofs.lemmas.Bool.{and_parts}
use Rattle.serial_model.specs.declared.key.Key.{Key}
use Rattle.serial_model.specs.declared.number.Number.{Number}
use Rattle.serial_model.specs.Numbers.{IsBelow, is_below, not_below_itself, not_both_below}
use Rattle.commit_core.specs.declared.attempt.Attempt.{Attempt}
use Rattle.homes.specs.declared.places.Holder.TheVariants.{Free}
use Rattle.homes.specs.declared.places.Content.{Content}
use Rattle.commit_core.specs.declared.seat.Seat.{Seat}
use Rattle.commit_core.specs.declared.seat.Stage.{Stage}
use Rattle.commit_core.specs.declared.seat.Stage.TheVariants.{Idle, Trying, Ended, Decided}
use Rattle.commit_core.specs.declared.story.Story.{Story}
use Rattle.commit_core.specs.Keys.{IsUpTo, has_key, content_at, written, writes_key}
use Rattle.commit_core.specs.Places.{stands, holder_is}
use Rattle.commit_core.specs.Moves.{Shows}
use Rattle.commit_core.specs.CoreState.{is_decided}
use Rattle.commit_core.specs.Serial.{content_after, state_below, RisesFrom}
use Rattle.commit_core.specs.Sound.{IsSoundStory, IsSoundSeat}
use Rattle.commit_core.specs.Sound.Homes.{HomeHeld, half_put}
use Rattle.commit_core.specs.Sound.Locks.{AttemptStands}
use Rattle.commit_core.specs.Sound.Reads.{IsVersion}
use Rattle.commit_core.specs.Lemmas.States.{rises_low, after_all-version, after_all-counted}
use Rattle.commit_core.specs.Lemmas.Versions.{version_same}
use Rattle.lists.specs.Elements.{at_in}

-- a decided attempt above the number writes the key
pub record Overwrites (history : List Attempt) (decided : List Number) (k : Key) (n : Number) (b : Attempt) : Type 0
  where
    pub drawn : Contains history b
    pub counts : is_decided decided b.number ≡ true
    pub writes : writes_key b.writes k ≡ true
    pub above : IsBelow n b.number

-- what stood at a key, with a number up to that of what decided attempts leave, is that, or is overwritten
pub version_or : (opening : List (Key × Content)) (h : List Attempt) (decided : List Number)
    (passes : Number → Bool) (k : Key) (d : Content) → RisesFrom (content_at opening k).number h
    → IsVersion opening h k d
    → IsUpTo d.number (content_after opening h decided passes k).number → (d ≡ content_after opening h decided passes k) ⊎ ((b : Attempt) × Overwrites h decided k d.number b)
version_or opening h decided passes k d rises is (inl e) =
    inl (version_same opening h k d (content_after opening h decided passes k) rises is (after_all-version (λ a. is_decided decided a.number && passes a.number) k h (content_at opening k)) e)
version_or opening h decided passes k d rises is (inr low) =
    elim (after_all-counted (λ a. is_decided decided a.number && passes a.number) k h (content_at opening k)) [
      | inl first ↦ absurd (at_first is (subst (λ (x : Content). IsBelow d.number x.number) first low))
      | inr w ↦ inr (
        w.0,
        record {
          drawn = w.1;
          counts = (and_parts (is_decided decided w.0.number) (passes w.0.number) w.2).0;
          writes = ap (λ (o : Option (Option ℕ)). is_some o) w.4;
          above = subst (IsBelow d.number) (sym w.3) low;
        },
      )
    ]
  where
    at_first : IsVersion opening h k d → IsBelow d.number (content_at opening k).number → ⊥
    at_first (inl e) l = not_below_itself d.number (content_at opening k).number (ap (λ (x : Content). x.number) e) l
    at_first (inr a) l = not_both_below (content_at opening k).number a.0.number (rises_low (content_at opening k).number h rises a.0 a.1) (subst (λ n. IsBelow n (content_at opening k).number) (sym a.2) l)

-- The content shows what decided attempts leave at the key, or is the new value of a decided attempt above its number,
-- which writes the key.
abbrev pub IsLeftOrPut : List (Key × Content) → Story → Key → Content → Type 0
IsLeftOrPut opening m k c =
    ((passes : Number → Bool) × Shows m.horizon c (content_after opening m.history m.decided passes k))
    ⊎ ((a : Attempt) × Overwrites m.history m.decided k c.number a)

held_stands : (opening : List (Key × Content)) (m : Story) (p : ℕ) (put : List Key) (k : Key) (c : Content)
    (stage : Stage)
    → AttemptStands m.history m.decided (stands m.places m.homes) put p stage → HomeHeld m.horizon opening m.history m.decided put k c stage → IsLeftOrPut opening m k c
held_stands opening m p put k c Idle a h = inl ((λ _. true), h)
held_stands opening m p put k c (Trying i) a h = inl ((λ _. true), h.0)
held_stands opening m p put k c Ended a h = inl ((λ _. true), h)
held_stands opening m p put k c (Decided i) a h =
    let now = h a.0 a.1.at in by_written now.0.0 now.0.1 (written k a.0.writes) refl (has_key put k) now.0.2
  where
    by_written : (old : Content) → Shows m.horizon old (state_below opening m.history m.decided a.0.number k)
        → (o : Option (Option ℕ)) → written k a.0.writes ≡ o → (b : Bool)
        → c ≡ half_put b (written k a.0.writes) old → IsLeftOrPut opening m k c
    by_written old shows None e b is =
        inl (
          (λ n. is_below n a.0.number),
          subst
              (λ (x : Content). Shows m.horizon x (state_below opening m.history m.decided a.0.number k))
              (sym (is ∙ ap (λ o. half_put b o old) e)) shows,
        )
    by_written old shows (Some v) e false is =
        inl (
          (λ n. is_below n a.0.number),
          subst
              (λ (x : Content). Shows m.horizon x (state_below opening m.history m.decided a.0.number k))
              (sym (is ∙ ap (λ o. half_put false o old) e)) shows,
        )
    by_written old shows (Some v) e true is = inr (
      a.0,
      record {
        drawn = at_in m.history i a.0 a.1.at;
        counts = a.1.counts;
        writes = ap (λ (o : Option (Option ℕ)). is_some o) e;
        above = (h a.0 a.1.at).1.place;
      },
    )

-- what stands at a key that nobody holds
pub free_home_stands : (opening : List (Key × Content)) (m : Story) (k : Key) → IsSoundStory opening m
    → (stands m.places m.homes k).holder ≡ Free
    → IsLeftOrPut opening m k (stands m.places m.homes k).content
free_home_stands opening m k story free = inl ((λ _. true), story.unlocked_homes k free)

-- what stands at a key that a seat holds
pub held_home_stands : (opening : List (Key × Content)) (m : Story) (p : ℕ) (s : Seat) (k : Key)
    → IsSoundSeat opening m p s → holder_is p (stands m.places m.homes k).holder ≡ true
    → IsLeftOrPut opening m k (stands m.places m.homes k).content
held_home_stands opening m p s k seat mine = held_stands opening m p s.put k (stands m.places m.homes k).content s.stage seat.attempt_stands (seat.locked_homes k mine)
