-- A swing alone takes away what leads to a slot, and the headers of such slots are dead.
use Rattle.std.proofs.Common.{◌≡◌, ℕ, ◌+◌, ◌-◌, Bool, true, false, not, true≢false, eqb, ◌&&◌, ◌||◌, inl, inr, List, [], ◌∷◌, refl, sym, ap, ◌∙◌, subst, Option, Some, None}
use Rattle.std.proofs.lemmas.Bool.{cases_Bool, and_parts, cond-true, cond-false}
use Rattle.serial_model.specs.declared.key.Key.{Key}
use Rattle.homes.specs.declared.places.Holder.{Holder}
use Rattle.homes.specs.declared.places.Holder.TheVariants.{Free, Held, Dead}
use Rattle.homes.specs.declared.places.At.{At}
use Rattle.homes.specs.declared.places.Home.{Home}
use Rattle.homes.specs.Homes.{is_free, holder_is}
use Rattle.homes.specs.Laws.{number_or_other}
use Rattle.drop_core.specs.declared.table.Led.TheVariants.{Never, From, Away}
use Rattle.drop_core.specs.declared.table.SlotState.TheVariants.{Owned, Published, Retired}
use Rattle.drop_core.specs.declared.table.Slot.{Slot}
use Rattle.drop_core.specs.declared.table.Table.{Table}
use Rattle.drop_core.specs.declared.grip.Grip.{Grip}
use Rattle.drop_core.specs.declared.event.Act.{Act}
use Rattle.drop_core.specs.declared.event.Act.TheVariants.{Enter, Leave, Give, Publish, Retire, FillPage, FillPointer, FillSnapshot, Extend, Install, Swing, Renew, Shut, Reopen, FillHeader, LockHeader, OpenHeader, Twin, SwingChain}
use Rattle.drop_core.specs.Table.{slot_of, page_of, pointer_of, header_of, has_slot, is_led, is_split}
use Rattle.drop_core.specs.Event.{is_owned, leaf_keys, slot_span, is_allowed, with_slot, with_header, dropped, swung, effect}
use Rattle.drop_core.specs.Sound.{IsSoundTable, HeadersStayDead}
use Rattle.drop_core.specs.Law.{WasAway}
use Rattle.drop_core.proofs.Drops.{slot-kept}
use Rattle.drop_core.proofs.Fills.{not_away, page-other}
use Rattle.drop_core.proofs.Grows.{grown-other}
use Rattle.drop_core.proofs.Halves.{opens_held, adds_key, grows, splits_held, splits}
use Rattle.drop_core.proofs.Headers.{header_in, header-same, header-other, buried-dead, buried-stays}
use Rattle.drop_core.proofs.Splitting.{not_away as not_away_twin, page-other as page-other_twin}

module _ (homes : Key → Home) (d : Table) (grips : List Grip) (sound : IsSoundTable homes d grips) where
  abbrev IsAway : Table → ℕ → Type 0
  IsAway e s = (slot_of e s).led ≡ Away

  -- a slot that is led to as before
  same_led : (t : ℕ) (x : Slot) → x.led ≡ (slot_of d t).led → (s : ℕ) → IsAway (with_slot d t x) s → IsAway d s
  same_led t x same s is =
      elim (number_or_other t s) [
        | inl e ↦ ap (λ (u : ℕ). (slot_of d u).led) (sym e.0) ∙ sym same ∙ sym (ap (λ (y : Slot). y.led) (cond-true (eqb t s) x (slot_of d s) e.1)) ∙ is
        | inr o ↦ sym (ap (λ (y : Slot). y.led) (cond-false (eqb t s) x (slot_of d s) o.1)) ∙ is
      ]

  -- another slot is as it was; this one isn't given up
  other_led : (t : ℕ) (x : Slot) → (x.led ≡ Away → ⊥) → (s : ℕ) → IsAway (with_slot d t x) s → IsAway d s
  other_led t x not s is =
      elim (number_or_other t s) [
        | inl e ↦ absurd (not (sym (ap (λ (y : Slot). y.led) (cond-true (eqb t s) x (slot_of d s) e.1)) ∙ is))
        | inr o ↦ sym (ap (λ (y : Slot). y.led) (cond-false (eqb t s) x (slot_of d s) o.1)) ∙ is
      ]

  never_away : Never ≡ Away → ⊥
  never_away e = cc

  from_away : (x : At) → From x ≡ Away → ⊥
  from_away x e = cc

  swing_away : (g : Grip) (x : At) (n : ℕ) (o : Option ℕ) (s : ℕ) → (pointer_of d x).slot ≡ o → IsAway (swung d g x n o).table s
      → (page_of (swung d g x n o).table s ≡ page_of d s) × WasAway d (Swing x n) s
  swing_away g x n None s leads is = (refl, inl is)
  swing_away g x n (Some t) s leads is = (
    refl,
    elim (number_or_other t s) [
      | inl e ↦ inr (inl (x, n, refl, leads ∙ ap (λ (u : ℕ). Some u) e.0))
      | inr o ↦ inl (sym (ap (λ (y : Slot). y.led) (slot-kept d x n (t ∷ []) s (none t s o.1))) ∙ is)
    ],
  )
    where
      none : (t s : ℕ) → eqb t s ≡ false → has_slot (t ∷ []) s ≡ false
      none t s e = rw e refl

  module _ (p : ℕ) (g : Grip) where
    pub taken_away : (act : Act) (s : ℕ) → is_allowed p d g act ≡ true → IsAway (effect p d g act).table s
        → (page_of (effect p d g act).table s ≡ page_of d s) × WasAway d act s
    taken_away (Enter t) s can is = (refl, inl (same_led t (record (slot_of d t) { passes = (slot_of d t).passes + 1 }) refl s is))
    taken_away (Leave t) s can is = (refl, inl (same_led t (record (slot_of d t) { passes = (slot_of d t).passes - 1 }) refl s is))
    taken_away (Give t) s can is =
        (refl, inl (other_led t (record (slot_of d t) { state = Owned; times = (slot_of d t).times + 1; led = Never }) never_away s is))
    taken_away (Publish t) s can is = (refl, inl (same_led t (record (slot_of d t) { state = Published }) refl s is))
    taken_away (Retire t) s can is = (refl, inl (same_led t (record (slot_of d t) { state = Retired }) refl s is))
    taken_away (FillPage t page) s can is =
        let own = (and_parts (is_owned (slot_of d t).state) (has_slot g.made t) can).0 in
        (page-other homes d grips sound t own page s (not_away homes d grips sound t own s is), inl is)
    taken_away (FillPointer x q) s can is = (refl, inl is)
    taken_away (FillSnapshot n page) s can is = (refl, inl is)
    taken_away (Extend n) s can is = (refl, inl is)
    taken_away (Install x t) s can is =
        (refl, inl (other_led t (record (slot_of d t) { led = From x }) (from_away x) s is))
    taken_away (Swing x n) s can is = swing_away g x n (pointer_of d x).slot s refl is
    taken_away (Renew x n) s can is = (refl, inl is)
    taken_away (Shut x) s can is = (refl, inl is)
    taken_away (Reopen x) s can is = (refl, inl is)
    taken_away (FillHeader t) s can is = (refl, inl is)
    taken_away (LockHeader t) s can is = (refl, inl is)
    taken_away (OpenHeader t None) s can is = (refl, inl is)
    taken_away (OpenHeader t (Some k)) s can is =
        let grow = grows homes d grips sound t k (adds_key p d t k can) in
        (grown-other d t k s (λ e. from_away grow.0 (sym grow.1 ∙ ap (λ (u : ℕ). (slot_of d u).led) e ∙ is)), inl is)
    taken_away (Twin w) s can is =
        let two = splits homes d grips sound p g w can in
        let was = not_away_twin homes d grips two.0 (slot_span d w.slot) w (leaf_keys (page_of d w.slot)) two.2 sound s is in (
          page-other_twin homes d grips two.0 (slot_span d w.slot) w (leaf_keys (page_of d w.slot)) two.2 sound s
              (λ e. from_away two.0 (sym two.1 ∙ ap (λ (u : ℕ). (slot_of d u).led) e ∙ was)),
          inl was,
        )
    taken_away (SwingChain x n c) s can is = (
      refl,
      elim (cases_Bool (has_slot c.slots s)) [
        | inl e ↦ inr (inr (x, n, c, refl, e))
        | inr e ↦ inl (sym (ap (λ (y : Slot). y.led) (slot-kept d x n c.slots s e)) ∙ is)
      ],
    )

    -- ---- headers

    -- the act takes away what leads to a slot
    abbrev takes_away : Act → Bool
    takes_away (Swing x n) = true
    takes_away (SwingChain x n c) = true
    takes_away act = false

    was_before : (act : Act) (s : ℕ) → takes_away act ≡ false → WasAway d act s → IsAway d s
    was_before act s not (inl was) = was
    was_before act s not (inr (inl e)) = absurd (true≢false (sym (ap takes_away e.2) ∙ not))
    was_before act s not (inr (inr e)) = absurd (true≢false (sym (ap takes_away e.3) ∙ not))

    module _ (headers : HeadersStayDead d) where
      dropped_headers : (x : At) (n : ℕ) (gone : List ℕ) → HeadersStayDead (dropped d x n gone)
      dropped_headers x n gone = λ s away.
          elim (cases_Bool (has_slot gone s)) [
            | inl e ↦ buried-dead gone d.headers s e
            | inr e ↦ buried-stays gone d.headers s (headers s (sym (ap (λ (y : Slot). y.led) (slot-kept d x n gone s e)) ∙ away))
          ]

      swung_headers : (x : At) (n : ℕ) (o : Option ℕ) → HeadersStayDead (swung d g x n o).table
      swung_headers x n None = headers
      swung_headers x n (Some t) = dropped_headers x n (t ∷ [])

      -- a header that is set, of a slot that isn't away, or that is dead then
      set_header : (t : ℕ) (h : Holder) → (IsAway d t → ⊥) → HeadersStayDead (with_header d t h)
      set_header t h not = λ s away.
          header-other d.headers t h s (λ e. not (subst (λ (u : ℕ). IsAway d u) (sym e) away)) ∙ headers s away

      -- one that a seat holds isn't dead
      held_not_away : (t : ℕ) → holder_is p (header_of d t) ≡ true → IsAway d t → ⊥
      held_not_away t held away = true≢false (sym held ∙ ap (holder_is p) (headers t away))

      pub headers_keep : (act : Act) → is_allowed p d g act ≡ true → HeadersStayDead (effect p d g act).table
      headers_keep (Give t) can = λ s away.
          elim (number_or_other t s) [
            | inl e ↦ subst (λ (u : ℕ). header_in ((t, Dead) ∷ d.headers) u ≡ Dead) e.0 (header-same d.headers t Dead)
            | inr o ↦ header-other d.headers t Dead s o.0 ∙ headers s (was_before (Give t) s refl (taken_away (Give t) s can away).1)
          ]
      headers_keep (Swing x n) can = swung_headers x n (pointer_of d x).slot
      headers_keep (FillHeader t) can =
          set_header t Free (λ away. not_away homes d grips sound t (and_parts (is_owned (slot_of d t).state) (has_slot g.made t) can).0 t away refl)
      headers_keep (LockHeader t) can =
          set_header t (Held p) (λ away. true≢false (sym (and_parts (is_led (slot_of d t).led)
          (is_free (header_of d t) && (eqb p 0 || not (is_split (page_of d t)))) can).0 ∙ ap is_led away))
      headers_keep (OpenHeader t None) can = set_header t Free (held_not_away t can)
      headers_keep (OpenHeader t (Some k)) can =
          set_header t Free (held_not_away t (opens_held p d t k can))
      headers_keep (Twin w) can = λ s away.
          let was = was_before (Twin w) s refl (taken_away (Twin w) s can away).1 in
          set_header w.slot Free (held_not_away w.slot (splits_held p d g w can)) s was
      headers_keep (SwingChain x n c) can = dropped_headers x n c.slots
      headers_keep act can = λ s away. headers s (was_before act s refl (taken_away act s can away).1)
