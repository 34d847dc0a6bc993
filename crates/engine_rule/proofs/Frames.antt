-- What acts on commits leave of the homes of keys, and of what a seat keeps.
use Rattle.std.proofs.Common.{◌≡◌, ℕ, Bool, true, false, true≢false, eqb, cond, not, ◌⊎◌, inl, inr, List, [], length, filter, refl, sym, ap, Option, Some, None}
use Rattle.std.specs.List.{Contains}
use Rattle.serial_model.specs.declared.key.Key.{Key}
use Rattle.homes.specs.declared.places.Spot.{Spot}
use Rattle.lists.specs.Elements.{in_none, in_push_cases, in_filter}
use Rattle.commit_core.specs.declared.part.Word.{Word}
use Rattle.commit_core.specs.declared.part.Word.TheVariants.{Record}
use Rattle.commit_core.specs.declared.part.Part.{Part}
use Rattle.commit_core.specs.declared.attempt.Attempt.{Attempt}
use Rattle.commit_core.specs.declared.attempt.Check.{Check}
use Rattle.commit_core.specs.declared.event.Act.{Act}
use Rattle.commit_core.specs.declared.event.Act.TheVariants.{See, Keep, Lock, Draw, Check as Look, Confirm, Decide, Put, Open, Forget, Rehome, Advance, Mark}
use Rattle.commit_core.specs.declared.seat.Stage.{Stage}
use Rattle.commit_core.specs.declared.seat.Stage.TheVariants.{Idle, Trying, Ended, Decided}
use Rattle.commit_core.specs.declared.seat.Seat.{Seat}
use Rattle.commit_core.specs.declared.story.Story.{Story}
use Rattle.commit_core.specs.CoreState.{attempt_tried, settled_at, settled, check_of}
use Rattle.commit_core.specs.Places.{place_of, spot_at}
use Rattle.commit_core.specs.Parts.{same_word, record_part, with_part}
use Rattle.commit_core.specs.Event.{stays_as_seen, ended_check, after_check, decided_stage, after_decide, seen_at, effect}

-- the act moves keys
abbrev pub is_rehome : Act → Bool
is_rehome (Rehome moves) = true
is_rehome act = false

-- ---- homes

ended_homes : (check : Check) (stays : Bool) (m : Story) (s : Seat) → (ended_check check stays m s).story.homes ≡ m.homes
ended_homes check true m s = refl
ended_homes check false m s = refl

check_homes : (w : Word) (stays : Attempt → Bool) (m : Story) (s : Seat) (o : Option Attempt) → (after_check w stays m s o).story.homes ≡ m.homes
check_homes w stays m s None = refl
check_homes w stays m s (Some a) = ended_homes (check_of a.number w) (stays a) m s

decide_homes : (m : Story) (s : Seat) (o : Option Attempt) → (after_decide m s o).story.homes ≡ m.homes
decide_homes m s None = refl
decide_homes m s (Some a) = refl

-- no act but a list of moves changes a key's home
pub homes_stay : (p : ℕ) (m : Story) (s : Seat) (act : Act) → is_rehome act ≡ false → (effect p m s act).story.homes ≡ m.homes
homes_stay p m s (See k) e = refl
homes_stay p m s (Keep part) e = refl
homes_stay p m s (Lock k) e = refl
homes_stay p m s (Draw writes) e = refl
homes_stay p m s (Look x) e = check_homes (Record x) (stays_as_seen p m.places x) m s (attempt_tried m.history s.stage)
homes_stay p m s (Confirm w told) e = check_homes w (λ _. told) m s (attempt_tried m.history s.stage)
homes_stay p m s Decide e = decide_homes m s (attempt_tried m.history s.stage)
homes_stay p m s (Put k) e = refl
homes_stay p m s (Open k) e = refl
homes_stay p m s Forget e = refl
homes_stay p m s (Rehome moves) e = absurd (true≢false e)
homes_stay p m s Advance e = refl
homes_stay p m s (Mark mark) e = refl

-- ---- what is kept

-- a seat that comes to rest keeps nothing new
settled_kept : (s : Seat) (part : Part) → Contains (settled s).kept part → Contains s.kept part
settled_kept s part there = by_locks (eqb (length s.locks) 0) there
  where
    at_stage : (g : Stage) → Contains (settled_at g s).kept part → Contains s.kept part
    at_stage Idle h = h
    at_stage (Trying i) h = h
    at_stage Ended h = absurd (in_none part h)
    at_stage (Decided i) h = absurd (in_none part h)

    by_locks : (b : Bool) → Contains (cond b (settled_at s.stage s) s).kept part → Contains s.kept part
    by_locks true h = at_stage s.stage h
    by_locks false h = h

ended_kept : (check : Check) (stays : Bool) (m : Story) (s : Seat) (part : Part) → Contains (ended_check check stays m s).seat.kept part → Contains s.kept part
ended_kept check true m s part h = h
ended_kept check false m s part h = settled_kept (record s { stage = Ended }) part h

check_kept : (w : Word) (stays : Attempt → Bool) (m : Story) (s : Seat) (o : Option Attempt) (part : Part) → Contains (after_check w stays m s o).seat.kept part → Contains s.kept part
check_kept w stays m s None part h = h
check_kept w stays m s (Some a) part h = ended_kept (check_of a.number w) (stays a) m s part h

decide_kept : (m : Story) (s : Seat) (o : Option Attempt) (part : Part) → Contains (after_decide m s o).seat.kept part → Contains s.kept part
decide_kept m s None part h = h
decide_kept m s (Some a) part h = settled_kept (record s { put = []; stage = decided_stage s.stage }) part h

with_cases : (kept : List Part) (new part : Part) → Contains (with_part kept new) part → Contains kept part ⊎ (new ≡ part)
with_cases kept new part h =
    elim (in_push_cases part new (filter (λ q. not (same_word q.word new.word)) kept) h) [
      | inl old ↦ inl (in_filter (λ q. not (same_word q.word new.word)) part kept old)
      | inr is ↦ inr is
    ]

-- the part is one that the act adds
abbrev pub IsNew : Story → Act → Part → Type 0
IsNew m (See k) part = (x : Spot) × (spot_at m.homes k ≡ Some x) × (part.word ≡ Record x)
IsNew m (Keep new) part = new ≡ part
IsNew m act part = ⊥

seen_cases : (m : Story) (s : Seat) (k : Key) (o : Option Spot) (part : Part) → spot_at m.homes k ≡ o → Contains (seen_at k m.places s.kept o) part
    → Contains s.kept part ⊎ IsNew m (See k) part
seen_cases m s k None part e h = inl h
seen_cases m s k (Some x) part e h =
    elim (with_cases s.kept (record_part k x (place_of m.places x).content) part h) [
      | inl old ↦ inl old
      | inr is ↦ inr (x, e, ap (λ (q : Part). q.word) (sym is))
    ]

-- what a seat keeps after an act it kept before, or the act adds it
pub kept_cases : (p : ℕ) (m : Story) (s : Seat) (act : Act) (part : Part) → Contains (effect p m s act).seat.kept part → Contains s.kept part ⊎ IsNew m act part
kept_cases p m s (See k) part h = seen_cases m s k (spot_at m.homes k) part refl h
kept_cases p m s (Keep new) part h = with_cases s.kept new part h
kept_cases p m s (Lock k) part h = inl h
kept_cases p m s (Draw writes) part h = inl h
kept_cases p m s (Look x) part h = inl (check_kept (Record x) (stays_as_seen p m.places x) m s (attempt_tried m.history s.stage) part h)
kept_cases p m s (Confirm w told) part h = inl (check_kept w (λ _. told) m s (attempt_tried m.history s.stage) part h)
kept_cases p m s Decide part h = inl (decide_kept m s (attempt_tried m.history s.stage) part h)
kept_cases p m s (Put k) part h = inl h
kept_cases p m s (Open k) part h = inl (settled_kept _ part h)
kept_cases p m s Forget part h = absurd (in_none part h)
kept_cases p m s (Rehome moves) part h = inl (settled_kept _ part h)
kept_cases p m s Advance part h = inl h
kept_cases p m s (Mark mark) part h = inl h
