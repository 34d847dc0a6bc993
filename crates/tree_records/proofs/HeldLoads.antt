-- A value is loaded under an own lock: it stands at the key for as long as the lock does.
use Rattle.std.proofs.Common.{◌≡◌, ◌⊎◌, inl, inr, ℕ, ◌+◌, ◌^◌, ◌<◌, get_or, refl, sym, ap, ◌∙◌, subst, arith}
use Rattle.std.proofs.Common.{Option, Some, None}
use Rattle.std.specs.Prelude.{unwrap_or}
use Rattle.atomic_table.specs.Table.{Me, Allows}
use Rattle.lists.specs.Elements.{in_push_cases}
use Rattle.serial_model.specs.declared.key.Key.{Key}
use Rattle.homes.specs.declared.places.Content.{Content}
use Rattle.homes.specs.declared.places.Spot.{Spot}
use Rattle.wire_form.specs.Leaves.{tree_leaf}
use Rattle.wire_form.specs.Words.{absent_field, at_bit, number_word}
use Rattle.commit_core.specs.Places.{place_of}
use Rattle.engine_pages.specs.declared.layout.Layout.{Layout}
use Rattle.engine_pages.specs.declared.view.View.{View}
use Rattle.engine_pages.specs.Records.{IsTreeRecordAt}
use Rattle.engine_pages.specs.Rule.{IsOneOf, Shows}
use Rattle.engine_pages.specs.Steps.{read_at}
use Rattle.engine_pages.specs.Views.{IsActive}
use Rattle.engine_pages.proofs.Joint.{Laws}
use Rattle.engine_pages.proofs.Turns.{allows_at}
use Rattle.page_records.proofs.AnyRecord.{Stands, any_stands, bit_one, tree_absence}
use Rattle.page_records.proofs.Looks.{look_loaded, pages_same}
use Rattle.page_records.proofs.Opening.{taken_at}
use Rattle.page_records.proofs.TreeLeaves as leaves
use Rattle.page_records.proofs.TreeTouching.{any_meet}
use Rattle.page_records.proofs.Undecided.{begins_undecided, exact_bit, held_shows}
use Rattle.tree_records.specs.Held.{CanLoadHeld, LoadedHeld, version_of, with_version}
use Rattle.tree_records.proofs.Seeing.{shows_version}

-- a bit of absence in a word below it isn't set
low_bit : (found number bit : ℕ) → (bit ≡ 0) ⊎ (bit ≡ at_bit 61 1) → number + bit ≡ found → found < 2 ^ 60 → bit ≡ 0
low_bit found number bit (inl none) is low = none
low_bit found number bit (inr set) is low = absurd (omega arith)

-- so there is a value
field_value : (o : Option ℕ) → absent_field tree_leaf o ≡ 0 → o ≡ Some (unwrap_or o 0)
field_value None zero-bit = absurd (omega (arith, zero-bit))
field_value (Some n) zero-bit = refl

pub loads_held : Laws → (l : Layout) (slots id : ℕ) (me : Me (Unit {0}) View) (k : Key) (x : Spot) (at found : ℕ)
    → IsActive me.0.role → IsTreeRecordAt me.0 k x at → CanLoadHeld me.0 k x found
    → Allows (λ s. Shows l s.words s.views) slots id me (at + 1) (λ n. n)
    (λ n now. (now.1 ≡ me.1) × LoadedHeld k (at + 1) found me.0 n now.0)
loads_held laws l slots id me k x at found active is can =
    allows_at laws l slots id me (at + 1) (λ n. n) (LoadedHeld k (at + 1) found) active
    (λ words views s b.
    let v = me.0 in
    let m = s.story in
    let n : ℕ = get_or words (at + 1) 0 in
    let r : Stands l words s v k x at = any_stands l words views s id v b k x at (inr is) in
    let q = place_of m.places x in
    let tree = leaves.no_array_is l words views s id v b k x at is in
    let t = taken_at l words views s id v k x found b can.took in
    let none = begins_undecided v.seat.stage can.idle in
    let exact = exact_bit l words views s id v b k x t.home t.own none t.absent t.bit in
    let zero-bit : t.absent ≡ 0 =
    low_bit found (number_word q.content.number) t.absent (bit_one l.decls m k q t.absent t.bit) t.number can.there in
    let field : absent_field tree_leaf q.content.value ≡ 0 =
    sym (exact ∙ tree_absence l.decls k q.content.value tree) ∙ zero-bit in
    let value : q.content.value ≡ Some n = field_value q.content.value field ∙ ap Some (sym r.value) in
    let shows = held_shows l words views s id v b k x t.home t.own none in
    let seen : IsOneOf l.decls l.opening m.history (version_of k q.content.number n) =
    subst (λ (c : Content). IsOneOf l.decls l.opening m.history (record { key = k; content = c }))
    (ap (λ (o : Option ℕ). let c : Content = record { number = q.content.number; value = o } in c) value)
    (shows_version l s k q.content tree shows) in
    let w : View = with_version k q.content.number n (read_at (at + 1) n v) in
    let now = pages_same l words views s id v active b in
    look_loaded l words views s id v active b (at + 1) (λ n. n) w (LoadedHeld k (at + 1) found) refl
    record { layout = refl; role = refl; made = refl; past = refl; parked = refl; epoch = refl; mine = refl; draws = refl; due = refl; seat = refl; checked = refl; took = refl; met = refl; heard = refl; history = refl; decided = refl }
    b.fits.loaded
    (λ y has. elim (in_push_cases y (version_of k q.content.number n) v.versions has) [
      | inl old ↦ b.fits.versions y old
      | inr new ↦ subst (IsOneOf l.decls l.opening m.history) new seen
    ])
    refl
    record { within = now.within; ways = now.ways; drafts = now.drafts; copies = now.copies; blanks = now.blanks; resident = now.resident; leads = now.leads; fills = now.fills; known = now.known; shuts = now.shuts; heads = now.heads; moved = now.moved; sealed = now.sealed; inners = now.inners; new_leaves = now.new_leaves; new_inners = now.new_inners }
    (any_meet l words views s id v b k x at (inr is) w (at + 1) (omega arith) (omega arith)
    record { role = refl; ways = refl; took = refl; gone = refl; touched = refl; blamed = refl; locks = refl } refl)
    record {
      number = q.content.number;
      small = r.small;
      word = let word = t.number in omega arith;
      is = refl;
    })
