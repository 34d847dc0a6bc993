-- What was seen of draws and decisions grows from step to step.
use Rattle.std.proofs.Common.{◌≡◌, inl, inr, ℕ, ◌^◌, Bool, true, false, eqb}
use Rattle.std.proofs.Common.{refl, sym, ap, ◌∙◌, subst}
use Rattle.std.specs.Prelude.{MatchBool, nat_lt}
use Rattle.std.specs.List.{Contains}
use Rattle.lists.specs.Elements.{in_push_cases}
use Rattle.lists.specs.Fronts.{IsFront, front_refl, front_then}
use Rattle.serial_model.specs.declared.key.Key.{Key}
use Rattle.homes.specs.declared.places.Spot.{Spot}
use Rattle.engine_pages.specs.declared.view.Role.TheVariants.{Keeper}
use Rattle.engine_pages.specs.declared.view.Touch.{Touch}
use Rattle.engine_pages.specs.declared.view.View.{View}
use Rattle.engine_pages.specs.Slots.{retired}
use Rattle.engine_pages.specs.Steps.{read_at}
use Rattle.engine_pages.specs.Touches.{touch}
use Rattle.engine_pages.specs.Views.{seat_number}
use Rattle.page_records.specs.Locks.{Locked as HasLocked, locked, opened}
use Rattle.page_records.specs.Reads.{Confirmed, Saw, SawFree, valued}
use Rattle.pointer_swings.specs.Swings.{swung}
use Rattle.page_drops.specs.declared.noting.Kept.{Kept}
use Rattle.page_drops.specs.Works.{HasGlanced, IsNoted, SawAlone, SawMore}

pub saw_self : (v : View) → SawMore v v
saw_self v = record { drawn = front_refl v.history; decided = front_refl v.decided; touched = λ z has. inl has }

pub saw_then : (u v w : View) → SawMore u v → SawMore v w → SawMore u w
saw_then u v w a b = record {
  drawn = front_then u.history v.history w.history a.drawn b.drawn;
  decided = front_then u.decided v.decided w.decided a.decided b.decided;
  touched = λ z has. elim (b.touched z has) [ inl old ↦ a.touched z old | inr own ↦ inr own ];
}

-- where nothing of it changed
pub saw_same : (v w : View) → w.history ≡ v.history → w.decided ≡ v.decided → w.touched ≡ v.touched → SawMore v w
saw_same v w drawn decided touched = record {
  drawn = subst (λ list. IsFront v.history list) (sym drawn) (front_refl v.history);
  decided = subst (λ list. IsFront v.decided list) (sym decided) (front_refl v.decided);
  touched = λ z has. inl (subst (λ list. Contains list z) touched has);
}

pub saw_glanced : (v w : View) → HasGlanced v w → SawMore v w
saw_glanced v w h =
    saw_same v w (ap (λ (z : View). z.history) h.is) (ap (λ (z : View). z.decided) h.is) (ap (λ (z : View). z.touched) h.is)

pub saw_noted : (k : Kept) (v u w : View) → SawMore v u → IsNoted k u w → SawMore v w
saw_noted k v u w so told =
    saw_then v u w so
    (saw_same u w (ap (λ (z : View). z.history) told.1) (ap (λ (z : View). z.decided) told.1) (ap (λ (z : View). z.touched) told.1))

pub saw_read : (at n : ℕ) (v u w : View) → SawMore v u → w ≡ read_at at n u → SawMore v w
saw_read at n v u w so is =
    saw_then v u w so
    (saw_same u w (ap (λ (z : View). z.history) is) (ap (λ (z : View). z.decided) is) (ap (λ (z : View). z.touched) is))

-- ---- of a record

-- the first load, whether or not it was locked
pub saw_seen : (k : Key) (x : Spot) (at n : ℕ) (v u w : View) → SawMore v u → Saw k x at u n w → SawMore v w
saw_seen k x at n v u w so h = by_test (nat_lt n (2 ^ 60)) h
  where
    by_test : (c : Bool) → MatchBool c (SawFree k x at u n w) (w ≡ read_at at n u) → SawMore v w
    by_test true free =
        saw_then v u w so record {
          drawn = subst (λ list. IsFront u.history list) (sym (ap (λ (z : View). z.history) free.is)) free.drawn;
          decided = subst (λ list. IsFront u.decided list) (sym (ap (λ (z : View). z.decided) free.is)) free.seen;
          touched = λ z has. inl (subst (λ list. Contains list z) (ap (λ (y : View). y.touched) free.is) has);
        }
    by_test false is = saw_read at n v u w so is

pub saw_valued : (k : Key) (x : Spot) (at n : ℕ) (v u w : View) → SawMore v u → w ≡ valued k x at n u → SawMore v w
saw_valued k x at n v u w so is =
    saw_then v u w so
    (saw_same u w (ap (λ (z : View). z.history) is) (ap (λ (z : View). z.decided) is) (ap (λ (z : View). z.touched) is))

pub saw_confirmed : (k : Key) (x : Spot) (at n : ℕ) (v u w : View) → SawMore v u → Confirmed k x at u n w → SawMore v w
saw_confirmed k x at n v u w so h = saw_read at n v u w so h.is

-- a try to lock, by the maintenance thread
pub saw_locked : (k : Key) (x : Spot) (at number found : ℕ) (v u w : View) → u.role ≡ Keeper → SawMore v u
    → HasLocked k x at number u found w → SawMore v w
saw_locked k x at number found v u w keeper so h = by_test (eqb found number) h
  where
    by_test : (c : Bool) → MatchBool c (w ≡ locked k x at found u) (w ≡ read_at at found u) → SawMore v w
    by_test true is =
        saw_then v u w so record {
          drawn = subst (λ list. IsFront u.history list) (sym (ap (λ (z : View). z.history) is)) (front_refl u.history);
          decided = subst (λ list. IsFront u.decided list) (sym (ap (λ (z : View). z.decided) is)) (front_refl u.decided);
          touched = λ z has.
              elim (in_push_cases z (touch (seat_number u.role) k) u.touched
              (subst (λ list. Contains list z) (ap (λ (y : View). y.touched) is) has)) [
                | inl old ↦ inl old
                | inr own ↦ inr (sym (ap (λ (y : Touch). y.seat) own) ∙ ap seat_number keeper)
              ];
        }
    by_test false is = saw_read at found v u w so is

pub saw_opened : (k : Key) (at n : ℕ) (v u w : View) → SawMore v u → w ≡ opened k at n u → SawMore v w
saw_opened k at n v u w so is =
    saw_then v u w so
    (saw_same u w (ap (λ (z : View). z.history) is) (ap (λ (z : View). z.decided) is) (ap (λ (z : View). z.touched) is))

-- the pointer was swung, and the slot given up
pub saw_swung : (t at page found : ℕ) (v u w z : View) → SawMore v u → w ≡ swung t at page found u → z ≡ retired t w
    → SawMore v z
saw_swung t at page found v u w z so swing retire =
    let is : z ≡ retired t (swung t at page found u) = retire ∙ ap (retired t) swing in
    saw_then v u z so
    (saw_same u z (ap (λ (y : View). y.history) is) (ap (λ (y : View). y.decided) is) (ap (λ (y : View). y.touched) is))

-- ---- and no record was locked

pub alone_self : (v : View) → SawAlone v v
alone_self v = record { more = saw_self v; none = refl }

pub alone_then : (u v w : View) → SawAlone u v → SawAlone v w → SawAlone u w
alone_then u v w a b = record { more = saw_then u v w a.more b.more; none = b.none ∙ a.none }

pub alone_glanced : (v w : View) → HasGlanced v w → SawAlone v w
alone_glanced v w h = record { more = saw_glanced v w h; none = ap (λ (z : View). z.touched) h.is }

pub alone_noted : (k : Kept) (v u w : View) → SawAlone v u → IsNoted k u w → SawAlone v w
alone_noted k v u w so told =
    record { more = saw_noted k v u w so.more told; none = ap (λ (z : View). z.touched) told.1 ∙ so.none }

pub alone_read : (at n : ℕ) (v u w : View) → SawAlone v u → w ≡ read_at at n u → SawAlone v w
alone_read at n v u w so is =
    record { more = saw_read at n v u w so.more is; none = ap (λ (z : View). z.touched) is ∙ so.none }

pub alone_seen : (k : Key) (x : Spot) (at n : ℕ) (v u w : View) → SawAlone v u → Saw k x at u n w → SawAlone v w
alone_seen k x at n v u w so h =
    record { more = saw_seen k x at n v u w so.more h; none = by_test (nat_lt n (2 ^ 60)) h ∙ so.none }
  where
    by_test : (c : Bool) → MatchBool c (SawFree k x at u n w) (w ≡ read_at at n u) → w.touched ≡ u.touched
    by_test true free = ap (λ (z : View). z.touched) free.is
    by_test false is = ap (λ (z : View). z.touched) is

pub alone_valued : (k : Key) (x : Spot) (at n : ℕ) (v u w : View) → SawAlone v u → w ≡ valued k x at n u → SawAlone v w
alone_valued k x at n v u w so is =
    record { more = saw_valued k x at n v u w so.more is; none = ap (λ (z : View). z.touched) is ∙ so.none }

pub alone_confirmed : (k : Key) (x : Spot) (at n : ℕ) (v u w : View) → SawAlone v u → Confirmed k x at u n w → SawAlone v w
alone_confirmed k x at n v u w so h = alone_read at n v u w so h.is

pub alone_opened : (k : Key) (at n : ℕ) (v u w : View) → SawAlone v u → w ≡ opened k at n u → SawAlone v w
alone_opened k at n v u w so is =
    record { more = saw_opened k at n v u w so.more is; none = ap (λ (z : View). z.touched) is ∙ so.none }
