-- A slot is published as a copy of a snapshot page, or as no page; and a published slot is given up.
use Rattle.std.proofs.Common.{◌≡◌, ◌≢◌, inl, inr, ℕ, zero, suc, ◌+◌, ◌*◌, ◌/◌, ◌%◌, ◌^◌, ◌<◌, ◌≤◌, Bool, true, false}
use Rattle.std.proofs.Common.{true≢false, ne_eqb, List, ◌∷◌, length, get_or, refl}
use Rattle.std.proofs.Common.{sym, ap, ◌∙◌, subst, arith, None}
use Rattle.std.specs.Prelude.{◌||◌}
use Rattle.lists.specs.Elements.{in_cases}
use Rattle.homes.specs.declared.places.At.{At}
use Rattle.homes.specs.declared.places.Content.{Content}
use Rattle.homes.specs.declared.places.Span.{Span}
use Rattle.homes.specs.declared.places.Spot.{Spot}
use Rattle.snapshot_store.specs.Places.{page as page_words}
use Rattle.commit_core.specs.Places.{place_of}
use Rattle.drop_core.specs.declared.table.Page.TheVariants.{Blank, Leaf}
use Rattle.drop_core.specs.Table.{has_pointer}
use Rattle.engine_pages.specs.Pages.{keys_from}
use Rattle.engine_pages.specs.Resident.{array_record}
use Rattle.std.specs.List.{Contains}
use Rattle.lists.specs.Fronts.{front_length}
use Rattle.atomic_table.specs.Table.{Me, Allows}
use Rattle.drop_core.specs.declared.grip.Grip.{Grip}
use Rattle.drop_core.specs.declared.table.Page.{Page}
use Rattle.drop_core.specs.declared.table.Slot.{Slot}
use Rattle.drop_core.specs.declared.table.SlotState.TheVariants.{Published as Shown}
use Rattle.drop_core.specs.Event.{is_published, with_slot}
use Rattle.drop_core.specs.Table.{slot_of, pointer_of, has_slot}
use Rattle.engine_rule.specs.JointState.{is_slot, slot_at as slot_with}
use Rattle.engine_pages.specs.declared.layout.Layout.{Layout}
use Rattle.engine_pages.specs.declared.view.Copied.{Copied}
use Rattle.engine_pages.specs.declared.view.Draft.{Draft}
use Rattle.engine_pages.specs.declared.view.View.{View}
use Rattle.engine_pages.specs.Layout.{slot_at, page_at}
use Rattle.snapshot_store.specs.Places.{page as page_words}
use Rattle.engine_pages.specs.Rule.{IsCopy, IsBlank, Shows}
use Rattle.engine_pages.specs.Slots.{IsCopyDraft, published_copy, published_blank}
use Rattle.engine_pages.specs.Views.{IsActive, seat_number}
use Rattle.engine_pages.specs.Words.{ShowsPage, ShowsRecord}
use Rattle.views.specs.ByNumber.{put_at}
use Rattle.engine_pages.proofs.Copying.{NewPage, publish_stride, slot_new, page_new, tree_new, old_copy, old_blank}
use Rattle.engine_pages.proofs.Copying.{old_leaf, old_inner}
use Rattle.engine_pages.proofs.Records.{fill_places, place_filled, place_unfilled, filled_sound}
use Rattle.engine_pages.proofs.Named.{page_longer, record_shown}
use Rattle.engine_pages.proofs.PagesStay.{leaf_shape}
use Rattle.engine_pages.proofs.Joint.{Laws}
use Rattle.engine_pages.proofs.Seats.{by_equal}
use Rattle.engine_pages.proofs.Turns.{allows_at}

length_keys : (id low n : ℕ) → length (keys_from id low n) ≡ n
length_keys id low zero = refl
length_keys id low (suc n) = ap suc (length_keys id (low + 1) n)

-- ---- published as a copy

pub publishes_copy : Laws → (l : Layout) (slots id : ℕ) (me : Me (Unit {0}) View) (x : Draft) (sp : Span) (n : ℕ)
    → IsActive me.0.role → Contains me.0.drafts x → IsCopyDraft me.0 x.words sp n
    → Allows (λ s. Shows l s.words s.views) slots id me (slot_at x.slot) (λ i. (i + 65536) % 2 ^ 64)
    (λ _ now. (now.1 ≡ me.1) × (now.0 ≡ published_copy x.slot sp n me.0))
publishes_copy laws l slots id me x sp n active has cd =
    allows_at laws l slots id me (slot_at x.slot) (λ i. (i + 65536) % 2 ^ 64) (λ v _ w. w ≡ published_copy x.slot sp n v) active
    (λ words views s b.
    let v = me.0 in
    let p = seat_number v.role in
    let d = s.table in
    let m = s.story in
    let t = x.slot in
    let keys = keys_from sp.storage sp.low 32 in
    let many = length_keys sp.storage sp.low 32 in
    let draft = b.pages.drafts x has in
    let long : n ≤ length s.resident.pages =
    let more = front_length v.pages s.resident.pages b.pages.resident in let low = cd.there in omega arith in
    let same : page_words s.resident.pages n ≡ page_words v.pages n =
    page_longer v.pages s.resident.pages n b.pages.resident cd.there in
    let ws = page_words s.resident.pages n in
    let is : (i : ℕ) → i < 64 → get_or words (page_at l.slots t i) 0 ≡ get_or ws i 0 = λ i less.
    draft.is i less ∙ (cd.same i less ∙ ap (λ (z : List ℕ). get_or z i 0) (sym same)) in
    let was : (i : ℕ) → i < 64 → get_or x.words i 0 ≡ get_or ws i 0 = λ i less.
    cd.same i less ∙ ap (λ (z : List ℕ). get_or z i 0) (sym same) in
    let contents : ℕ → Content = λ i. array_record ws i in
    let made : has_slot (s.grips p).made t ≡ true = ap (λ (g : Grip). has_slot g.made t) (sym b.grip) ∙ draft.made in
    let places' = fill_places t contents 32 m.places in
    let sound = filled_sound laws l s p t contents b.few draft.owned made b.sound.joint 32 in
    let still : (y : At) → is_slot t (slot_with y) ≡ false → pointer_of d y ≡ pointer_of d y = λ y other. refl in
    let others : (y : Spot) → y.slot ≢ t → place_of places' y ≡ place_of m.places y =
    λ y other. place_unfilled t contents 32 m.places y other in
    let shows : ShowsPage s.resident.places words l.slots t (place_of places') d (Leaf keys) = (
      (omega arith),
      (λ i less.
          let few : i < 32 = omega arith in
          let next : page_at l.slots t (2 * i) + 1 ≡ page_at l.slots t (2 * i + 1) = omega arith in
          let word = was (2 * i) (omega arith) in
          let value = was (2 * i + 1) (omega arith) in
          subst (ShowsRecord words (page_at l.slots t (2 * i))) (sym (place_filled t contents 32 m.places i few))
          (record_shown words (page_at l.slots t (2 * i)) (get_or ws (2 * i) 0) (get_or ws (2 * i + 1) 0)
          (is (2 * i) (omega arith)) (ap (λ j. get_or words j 0) next ∙ is (2 * i + 1) (omega arith))
          (subst (λ k. k / 2 ^ 40 ≤ 1048574) word (cd.records.epochs i few))
          (λ none. sym value ∙ cd.records.blank i few (word ∙ none)))),
    ) in
    let copies' : List Copied = record { slot = t; span = sp; page = n } ∷ v.copies in
    let c : NewPage l words s t = record {
      page = Leaf keys;
      places = places';
      pointers = d.pointers;
      headers = d.headers;
      fence = None;
      filled = sound;
      other_places = others;
      other_pointers = still;
      other_headers = λ u other. refl;
      shown = shows;
    } in
    publish_stride laws l words views s id v active b x has c copies' v.blanks v.new_leaves v.new_inners
    (λ z there. elim (in_cases z (record { slot = t; span = sp; page = n }) v.copies there) [
      | inl new ↦
          let first : Copied = record { slot = t; span = sp; page = n } in
          subst (λ (y : Copied). (put_at s.trees t None y.slot ≡ None) × IsCopy l (record m { places = places' }) (with_slot (record d { pages = (t, Leaf keys) ∷ d.pages }) t (record (slot_of d t) { state = Shown })) s.resident v.grip.made y) new (
            tree_new laws l words views s id v active b x has c copies' v.blanks v.new_leaves v.new_inners,
            record {
              slot = draft.slot;
              made = draft.made;
              state = ap (λ (k : Slot). is_published k.state)
                  (slot_new laws l words views s id v active b x has c copies' v.blanks v.new_leaves v.new_inners);
              over = record {
                page =
                    page_new laws l words views s id v active b x has c copies' v.blanks v.new_leaves v.new_inners
                    ∙ sym (leaf_shape sp cd.leaf);
                spans = λ j pointer. absurd (true≢false (sym pointer ∙ ap (λ (y : Page). has_pointer y j) (leaf_shape sp cd.leaf)));
                header = draft.header;
              };
              page = long;
              exact = λ leaf. cd.exact;
              records = λ leaf i few. place_filled t contents 32 m.places i few;
              pointers = λ inner j few. absurd (true≢false (sym cd.leaf ∙ inner));
            },
          )
      | inr old ↦ old_copy laws l words views s id v active b x has c copies' v.blanks v.new_leaves v.new_inners z old
    ])
    (λ u there. old_blank laws l words views s id v active b x has c copies' v.blanks v.new_leaves v.new_inners u there)
    (old_leaf laws l words views s id v active b x has c copies' v.blanks v.new_leaves v.new_inners)
    (old_inner laws l words views s id v active b x has c copies' v.blanks v.new_leaves v.new_inners)
    (λ v _ w. w ≡ published_copy x.slot sp n v) refl)

-- ---- published as no page

pub publishes_blank : Laws → (l : Layout) (slots id : ℕ) (me : Me (Unit {0}) View) (x : Draft)
    → IsActive me.0.role → Contains me.0.drafts x
    → Allows (λ s. Shows l s.words s.views) slots id me (slot_at x.slot) (λ i. (i + 65536) % 2 ^ 64)
    (λ _ now. (now.1 ≡ me.1) × (now.0 ≡ published_blank x.slot me.0))
publishes_blank laws l slots id me x active has =
    allows_at laws l slots id me (slot_at x.slot) (λ i. (i + 65536) % 2 ^ 64) (λ v _ w. w ≡ published_blank x.slot v) active
    (λ words views s b.
    let v = me.0 in
    let draft = b.pages.drafts x has in
    let blanks' : List ℕ = x.slot ∷ v.blanks in
    let c : NewPage l words s x.slot = record {
      page = Blank;
      places = s.story.places;
      pointers = s.table.pointers;
      headers = s.table.headers;
      fence = None;
      filled = b.sound.joint;
      other_places = λ y other. refl;
      other_pointers = λ y other. refl;
      other_headers = λ u other. refl;
      shown = tt;
    } in
    publish_stride laws l words views s id v active b x has c v.copies blanks' v.new_leaves v.new_inners
    (λ z there. old_copy laws l words views s id v active b x has c v.copies blanks' v.new_leaves v.new_inners z there)
    (λ u there. by_equal u x.slot (λ k. has_slot blanks' k ≡ true → IsBlank l.slots _ v.grip.made k)
    (λ _. record {
      slot = draft.slot;
      made = draft.made;
      state = ap (λ (k : Slot). is_published k.state)
          (slot_new laws l words views s id v active b x has c v.copies blanks' v.new_leaves v.new_inners);
    })
    (λ other is.
    old_blank laws l words views s id v active b x has c v.copies blanks' v.new_leaves v.new_inners u
    (ap (λ (c : Bool). c || has_slot v.blanks u) (sym (ne_eqb x.slot u (λ q. other (sym q)))) ∙ is)) there)
    (old_leaf laws l words views s id v active b x has c v.copies blanks' v.new_leaves v.new_inners)
    (old_inner laws l words views s id v active b x has c v.copies blanks' v.new_leaves v.new_inners)
    (λ v _ w. w ≡ published_blank x.slot v) refl)
