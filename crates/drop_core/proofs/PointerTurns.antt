-- Shut, Reopen, Renew: one pointer's holder or snapshot half changes.
use Rattle.std.proofs.Common.{◌≡◌, ℕ, ◌≤◌, Bool, true, not, true≢false, leb, ltb, ◌&&◌, inl, inr, List, refl, sym, ap, ◌∙◌, subst, arith, set, Option, Some, None}
use Rattle.std.proofs.lemmas.Bool.{and_parts, false_from_ne_true, cond-true, cond-false}
use Rattle.std.proofs.lemmas.Bool.Decides.{nat_tests}
use Rattle.std.specs.List.{slice_get}
use Rattle.std.specs.Prelude.{is_none}
use Rattle.serial_model.specs.declared.key.Key.{Key}
use Rattle.homes.specs.declared.places.Holder.{Holder}
use Rattle.homes.specs.declared.places.Holder.TheVariants.{Free, Held, Dead}
use Rattle.homes.specs.declared.places.At.{At}
use Rattle.homes.specs.declared.places.At.TheVariants.{Root, In}
use Rattle.homes.specs.declared.places.Span.{Span}
use Rattle.homes.specs.declared.places.Home.{Home}
use Rattle.homes.specs.Homes.{same_at, same_span, in_span, is_free, holder_is}
use Rattle.homes.specs.Laws.{same_at-self, same_at-true, at_or_other}
use Rattle.drop_core.specs.declared.table.Led.{Led}
use Rattle.drop_core.specs.declared.table.Led.TheVariants.{Never, From, Away}
use Rattle.drop_core.specs.declared.table.SlotState.{SlotState}
use Rattle.drop_core.specs.declared.table.Page.{Page}
use Rattle.drop_core.specs.declared.table.Pointer.{Pointer}
use Rattle.drop_core.specs.declared.table.Table.{Table}
use Rattle.drop_core.specs.declared.grip.Grip.{Grip}
use Rattle.drop_core.specs.declared.event.Act.TheVariants.{Renew, Shut, Reopen}
use Rattle.drop_core.specs.Table.{slot_of, page_of, pointer_of, snap_of, at_index, snap_home, page_span, is_live, is_last_to, is_last, holders}
use Rattle.drop_core.specs.Event.{is_page_over, is_open, is_allowed, with_pointer, effect}
use Rattle.drop_core.specs.Sound.{span_at, TiesPage, TiesTo, IsLedSo, IsSoundTable}
use Rattle.drop_core.proofs.PageLaws.{page_ties-same}
use Rattle.drop_core.proofs.SlotTurns.{holders-set}

-- what the new pointer has to do with the old one
pub record Changes (d : Table) (x : At) (new : Pointer) : Type 0 where
  pub span : new.span ≡ (pointer_of d x).span
  pub slot : new.slot ≡ (pointer_of d x).slot
  pub page : (pointer_of d x).slot ≡ None → new.page ≡ (pointer_of d x).page
  pub dead : (pointer_of d x).holder ≡ Dead → new.holder ≡ Dead
  pub published : is_live d x ≡ true → new.page ≤ d.published

module _ (homes : Key → Home) (d : Table) (grips grips' : List Grip) (x : At) (new : Pointer) (change : Changes d x new) where
  abbrev d' : Table
  d' = with_pointer d x new

  now-same : pointer_of d' x ≡ new
  now-same = cond-true (same_at x x) new (pointer_of d x) (same_at-self x)

  now-other : (y : At) → (x ≡ y → ⊥) → pointer_of d' y ≡ pointer_of d y
  now-other y other = cond-false (same_at x y) new (pointer_of d y) (false_from_ne_true (same_at x y) (λ e. other (same_at-true x y e)))

  -- what holds of the new pointer and of each other one holds of each
  each : (P : At → Pointer → Type 0) → P x new → ((y : At) → (x ≡ y → ⊥) → P y (pointer_of d y)) → (y : At) → P y (pointer_of d' y)
  each P mine others y =
      elim (at_or_other x y) [
        | inl e ↦ subst (λ (z : At). P z (pointer_of d' z)) e.0 (subst (λ (q : Pointer). P x q) (sym now-same) mine)
        | inr o ↦ subst (λ (q : Pointer). P y q) (sym (now-other y o.0)) (others y o.0)
      ]

  slot-same : (y : At) → (pointer_of d' y).slot ≡ (pointer_of d y).slot
  slot-same = each (λ y q. q.slot ≡ (pointer_of d y).slot) change.slot (λ y _. refl)

  span-same : (y : At) → (pointer_of d' y).span ≡ (pointer_of d y).span
  span-same = each (λ y q. q.span ≡ (pointer_of d y).span) change.span (λ y _. refl)

  page-same : (y : At) → (pointer_of d y).slot ≡ None → (pointer_of d' y).page ≡ (pointer_of d y).page
  page-same = each (λ y q. (pointer_of d y).slot ≡ None → q.page ≡ (pointer_of d y).page) change.page (λ y _ _. refl)

  dead-same : (y : At) → (pointer_of d y).holder ≡ Dead → (pointer_of d' y).holder ≡ Dead
  dead-same = each (λ y q. (pointer_of d y).holder ≡ Dead → q.holder ≡ Dead) change.dead (λ y _ e. e)

  live-same : (y : At) → is_live d' y ≡ is_live d y
  live-same (Root r) = refl
  live-same (In z) = refl

  last-same : (y : At) → is_last d' y ≡ is_last d y
  last-same y = ap (λ (b : Bool). b && is_last_to d' (pointer_of d' y).slot) (live-same y) ∙ ap (λ (o : Option ℕ). is_live d y && is_last_to d o) (slot-same y)

  ties_page : (homes : Key → Home) (span : Span) (t : ℕ) (pg : Page) → TiesPage homes d span t pg → TiesPage homes d' span t pg
  ties_page homes span t pg ties = page_ties-same homes (span_at d) (span_at d') span t pg (λ j. span-same (at_index t j)) ties

  ties_to : (homes : Key → Home) (span : Span) (n n' : ℕ) (o : Option ℕ) → (o ≡ None → n' ≡ n) → TiesTo homes d span n o → TiesTo homes d' span n' o
  ties_to homes span n n' None same ties = λ k inside. ties k inside ∙ ap (λ (l : ℕ). snap_home d l k) (sym (same refl))
  ties_to homes span n n' (Some t) same ties = ties_page homes span t (page_of d t) ties

  led_so : (t : ℕ) (state : SlotState) (led : Led) → IsLedSo d t state led → IsLedSo d' t state led
  led_so t state Never so = so
  led_so t state (From y) so = (so.0, live-same y ∙ so.1, slot-same y ∙ so.2)
  led_so t state Away so = so

  pub pointer_sound : ((s : ℕ) → holders s grips' ≡ holders s grips) → IsSoundTable homes d grips → IsSoundTable homes d' grips'
  pointer_sound holds sound = record {
    one_home_each = record {
      ties = λ y live.
          subst (λ (w : Span). TiesTo (homes) d' w (pointer_of d' y).page (pointer_of d' y).slot) (sym (span-same y))
          (subst (λ (o : Option ℕ). TiesTo (homes) d' (pointer_of d y).span (pointer_of d' y).page o) (sym (slot-same y))
          (ties_to (homes) (pointer_of d y).span (pointer_of d y).page (pointer_of d' y).page (pointer_of d y).slot (page-same y)
          (sound.one_home_each.ties y (sym (live-same y) ∙ live))));
      apart = λ y z ly lz k iny inz.
          sound.one_home_each.apart y z (sym (last-same y) ∙ ly) (sym (last-same z) ∙ lz) k
          (sym (ap (λ (w : Span). in_span w k) (span-same y)) ∙ iny) (sym (ap (λ (w : Span). in_span w k) (span-same z)) ∙ inz);
      own = λ k y e. let was = sound.one_home_each.own k y e in record { keys = was.keys; page = was.page; at = was.at; led = was.led };
      dead = λ t away j there. dead-same (at_index t j) (sound.one_home_each.dead t away j there);
    };
    holds_counted = record {
      counted = λ t. sound.holds_counted.counted t ∙ sym (holds t);
      led = λ t. led_so t (slot_of d t).state (slot_of d t).led (sound.holds_counted.led t);
      back = λ y t live leads. sound.holds_counted.back y t (sym (live-same y) ∙ live) (sym (slot-same y) ∙ leads);
    };
    snapshots_fixed = record {
      pointers = each (λ y q. is_live d' y ≡ true → q.page ≤ d.published) (λ live. change.published (sym (live-same x) ∙ live)) (λ y _ live. sound.snapshots_fixed.pointers y (sym (live-same y) ∙ live));
      closed = sound.snapshots_fixed.closed;
    };
  }

-- ---- the events

module _ (homes : Key → Home) (d : Table) (grips : List Grip) (p : ℕ) (g : Grip) (at : slice_get grips p ≡ Some g) (sound : IsSoundTable homes d grips) where
  by_change : (x : At) (new : Pointer) → Changes d x new → IsSoundTable homes (with_pointer d x new) (set grips p g)
  by_change x new change = pointer_sound homes d grips (set grips p g) x new change (λ s. holders-set s p grips g g at refl) sound

  free_alive : (h : Holder) → is_free h ≡ true → h ≡ Dead → ⊥
  free_alive h o e = true≢false (sym o ∙ ap is_free e)

  shut_alive : (h : Holder) → holder_is p h ≡ true → h ≡ Dead → ⊥
  shut_alive h o e = true≢false (sym o ∙ ap (holder_is p) e)

  pub shut_keeps : (x : At) → is_allowed p d g (Shut x) ≡ true → IsSoundTable homes (effect p d g (Shut x)).table (set grips p (effect p d g (Shut x)).grip)
  shut_keeps x can = by_change x (record (pointer_of d x) { holder = Held p }) (record {
    span = refl;
    slot = refl;
    page = λ _. refl;
    dead = λ e. absurd (free_alive (pointer_of d x).holder (and_parts (is_live d x) (is_free (pointer_of d x).holder) can).1 e);
    published = λ live. sound.snapshots_fixed.pointers x live;
  })

  pub reopen_keeps : (x : At) → is_allowed p d g (Reopen x) ≡ true → IsSoundTable homes (effect p d g (Reopen x)).table (set grips p (effect p d g (Reopen x)).grip)
  reopen_keeps x can = by_change x (record (pointer_of d x) { holder = Free }) (record {
    span = refl;
    slot = refl;
    page = λ _. refl;
    dead = λ e. absurd (shut_alive (pointer_of d x).holder can e);
    published = λ live. sound.snapshots_fixed.pointers x live;
  })

  pub renew_keeps : (x : At) (n : ℕ) → is_allowed p d g (Renew x n) ≡ true → IsSoundTable homes (effect p d g (Renew x n)).table (set grips p (effect p d g (Renew x n)).grip)
  renew_keeps x n can =
      let parts = and_parts (not (is_none (pointer_of d x).slot)) (is_page_over d n (pointer_of d x).span) (and_parts (is_open d x) (not (is_none (pointer_of d x).slot) && is_page_over d n (pointer_of d x).span) can).1 in
      let some = and_parts (ltb 0 n) (leb n d.published && same_span (page_span (snap_of d n)) (pointer_of d x).span) parts.1 in
      let over = and_parts (leb n d.published) (same_span (page_span (snap_of d n)) (pointer_of d x).span) some.1 in
      by_change x (record (pointer_of d x) { page = n }) (record {
        span = refl;
        slot = refl;
        page = λ none. absurd (true≢false (sym parts.0 ∙ ap (λ (o : Option ℕ). not (is_none o)) none));
        dead = λ e. e;
        published = λ _. at_most n d.published over.0;
      })
    where
      at_most : (a b : ℕ) → leb a b ≡ true → a ≤ b
      at_most a b e = grind (arith, nat_tests)
