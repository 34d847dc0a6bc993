-- What a hand has of slots, behind each step.
use Rattle.std.proofs.Common.{◌≡◌, ℕ, ◌+◌, ◌<◌, Bool, true, false, List, [], ◌∷◌, ◌++◌, Option, Some, None, inl, inr}
use Rattle.std.proofs.Common.{cond}
use Rattle.std.proofs.Common.{refl, sym, ap, ◌∙◌, subst, eqb, eq-eqb}
use Rattle.std.specs.Prelude.{get_or, not}
use Rattle.lists.specs.Elements.{any_in, in_head}
use Rattle.drop_core.specs.Event.{without}
use Rattle.drop_core.specs.Table.{has_slot}
use Rattle.engine_rule.specs.JointState.{keeps_word}
use Rattle.commit_core.specs.declared.part.Part.{Part}
use Rattle.engine_pages.specs.declared.engine.Engine.{Engine}
use Rattle.engine_pages.specs.declared.layout.Layout.{Layout}
use Rattle.engine_pages.specs.declared.view.Draft.{Draft}
use Rattle.engine_pages.specs.declared.view.View.{View}
use Rattle.engine_pages.specs.Passes.{view, IsPassOf, Pass}
use Rattle.engine_pages.specs.Slots.{entered, left, looked_at, published_blank, retired, HasDraft, MayRetire}
use Rattle.engine_pages.specs.Views.{bare_seat, IsActive, IsResting}
use Rattle.engine_seats.specs.Cuts.{worker_view}
use Rattle.page_pool.specs.Pool.{HasLooked, HasMissed, HasTaken}
use Rattle.page_pool.specs.declared.pool.PoolRefusal.{PoolRefusal}
use Rattle.page_pool.specs.declared.pool.PoolRefusal.TheVariants as refusals
use Rattle.txn_tests.specs.declared.hand.Slot.{Slot}
use Rattle.txn_tests.specs.declared.hand.Slot.TheVariants as slots
use Rattle.txn_tests.specs.Standing.{IsHand}

-- ---- seats

pub seated_hand : (number : ℕ) (pass : Pass) (v : View) → IsResting (get_or v.parked number bare_seat)
    → view pass ≡ worker_view number v → IsHand slots.None None (view pass)
seated_hand number pass v rests is = subst (IsHand slots.None None) (sym is) record {
  worker = refl;
  kept = rests.kept;
  own_slot = tt;
  held_slot = refl;
}

pub hand_active : (own : Slot) (held : Option ℕ) (v : View) → IsHand own held v → IsActive v.role
hand_active own held v h = subst IsActive (sym h.worker) tt

-- ---- looks

seen_keeps : (own : Slot) (held : Option ℕ) (words : List ℕ) (v w : View) → HasLooked words v w → IsHand own held v
    → IsHand own held w
seen_keeps own held words v w seen h = subst (IsHand own held) (sym seen.only) record {
  worker = h.worker;
  kept = h.kept;
  own_slot = h.own_slot;
  held_slot = h.held_slot;
}

pub looks_on : (own : Slot) (held : Option ℕ) (t n : ℕ) (v w : View) → w ≡ looked_at t n v → IsHand own held v
    → IsHand own held w
looks_on own held t n v w is h = subst (IsHand own held) (sym is) record {
  worker = h.worker;
  kept = h.kept;
  own_slot = h.own_slot;
  held_slot = h.held_slot;
}

pub misses : (own : Slot) (held : Option ℕ) (why : PoolRefusal) (v w : View) → HasMissed why v w → IsHand own held v
    → IsHand own held w
misses own held (refusals.Full told) v w full h = seen_keeps own held full.words v w full.seen h
misses own held (refusals.Changed at expected found) v w changed h =
    let seen = seen_keeps own held (changed.first.before ++ expected ∷ []) v changed.seen changed.first.seen h in
    subst (IsHand own held) (sym changed.only) record {
      worker = seen.worker;
      kept = seen.kept;
      own_slot = seen.own_slot;
      held_slot = seen.held_slot;
    }

-- ---- a slot of its own

pub takes : (held : Option ℕ) (t : ℕ) (v w : View) → HasTaken t v w → IsHand slots.None held v
    → IsHand (slots.Own t) held w
takes held t v w taken h =
    let seen = seen_keeps slots.None held (taken.first.before ++ taken.word ∷ []) v taken.seen taken.first.seen h in
    let there : t < taken.seen.layout.slots =
    subst (λ (l : Layout). t < l.slots) (sym (ap (λ (y : View). y.layout) taken.first.seen.only)) taken.first.there in
    let draft : Draft = record { slot = t; words = taken.given.words } in
    subst (IsHand (slots.Own t) held) (sym taken.given.is) record {
      worker = seen.worker;
      kept = seen.kept;
      own_slot = (there, (draft, in_head draft taken.seen.drafts, refl));
      held_slot = seen.held_slot;
    }

-- the slot of its own, with its draft
pub the_own : (held : Option ℕ) (t : ℕ) (v : View) → IsHand (slots.Own t) held v → (t < v.layout.slots) × HasDraft v t
the_own held t v h = (h.own_slot.0, h.own_slot.1)

pub the_put : (held : Option ℕ) (t : ℕ) (v : View) → IsHand (slots.Put t) held v → t < v.layout.slots
the_put held t v h = h.own_slot.0

pub slot_held : (own : Slot) (t : ℕ) (v : View) → IsHand own (Some t) v → t < v.layout.slots
slot_held own t v h = h.held_slot.0

-- the engine has as many slots as the pass knows of
pub slot_there : (e : Engine) (p : Pass) (t count : ℕ) → IsPassOf e p → count ≡ e.table.shared.key.slots → t < count
    → t < (view p).layout.slots
slot_there e p t count of is less =
    subst (λ n. t < n) (is ∙ ap (λ (l : Layout). l.slots) (sym of.layout)) less

has_first : (t : ℕ) (more : List ℕ) → has_slot (t ∷ more) t ≡ true
has_first t more = any_in (λ (x : ℕ). eqb x t) (t ∷ more) t (in_head t more) (eq-eqb t t refl)

pub publishes : (held : Option ℕ) (t : ℕ) (v w : View) → w ≡ published_blank t v → IsHand (slots.Own t) held v
    → IsHand (slots.Put t) held w
publishes held t v w is h = subst (IsHand (slots.Put t) held) (sym is) record {
  worker = h.worker;
  kept = h.kept;
  own_slot = (h.own_slot.0, has_first t v.blanks);
  held_slot = h.held_slot;
}

pub may_retire : (held : Option ℕ) (t : ℕ) (v : View) → IsHand (slots.Put t) held v → MayRetire v t
may_retire held t v h = inr (inl h.own_slot.1)

pub retires : (held : Option ℕ) (t : ℕ) (v w : View) → w ≡ retired t v → IsHand (slots.Put t) held v
    → IsHand slots.None held w
retires held t v w is h = subst (IsHand slots.None held) (sym is) record {
  worker = h.worker;
  kept = h.kept;
  own_slot = tt;
  held_slot = h.held_slot;
}

-- ---- a slot that is held

pub unheld : (own : Slot) (t : ℕ) (v : View) → IsHand own None v → has_slot v.grip.holds t ≡ false
unheld own t v h = ap (λ (l : List ℕ). has_slot l t) h.held_slot

pub enters : (own : Slot) (t : ℕ) (v w : View) → t < v.layout.slots → w ≡ entered t v → IsHand own None v
    → IsHand own (Some t) w
enters own t v w there is h = subst (IsHand own (Some t)) (sym is) record {
  worker = h.worker;
  kept = h.kept;
  own_slot = h.own_slot;
  held_slot = (there, ap (λ (l : List ℕ). t ∷ l) h.held_slot);
}

pub is_held : (own : Slot) (t : ℕ) (v : View) → IsHand own (Some t) v → has_slot v.grip.holds t ≡ true
is_held own t v h = ap (λ (l : List ℕ). has_slot l t) h.held_slot.1 ∙ has_first t []

pub is_unkept : (own : Slot) (held : Option ℕ) (t : ℕ) (v : View) → IsHand own held v
    → keeps_word v.seat.kept t ≡ false
is_unkept own held t v h = ap (λ (l : List Part). keeps_word l t) h.kept

none_left : (t : ℕ) → without (t ∷ []) t ≡ []
none_left t = ap (λ (b : Bool). cond (not b) (t ∷ []) []) (eq-eqb t t refl)

pub leaves : (own : Slot) (t : ℕ) (v w : View) → w ≡ left t v → IsHand own (Some t) v → IsHand own None w
leaves own t v w is h = subst (IsHand own None) (sym is) record {
  worker = h.worker;
  kept = h.kept;
  own_slot = h.own_slot;
  held_slot = ap (λ (l : List ℕ). without l t) h.held_slot.1 ∙ none_left t;
}
