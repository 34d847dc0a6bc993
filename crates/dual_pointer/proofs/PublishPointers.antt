-- A slot is published as a copy of an interior page: its pointers name the pages that the snapshot page's words name.
use Rattle.std.proofs.Common.{◌≡◌, inl, inr, ℕ, zero, suc, ◌+◌, ◌%◌, ◌^◌, ◌<◌, ◌≤◌, true, false, true≢false, ltb}
use Rattle.std.proofs.Common.{List, ◌∷◌, length, get_or, refl, sym, ap, ◌∙◌, subst, arith, None}
use Rattle.std.specs.List.{Contains}
use Rattle.std.proofs.lemmas.Bool.Decides.{nat_tests}
use Rattle.atomic_table.specs.Table.{Me, Allows}
use Rattle.lists.specs.Elements.{in_cases}
use Rattle.lists.specs.Fronts.{front_length}
use Rattle.serial_model.specs.declared.decl.Decl.TheVariants.{Array}
use Rattle.homes.specs.declared.places.At.{At}
use Rattle.homes.specs.declared.places.Holder.TheVariants.{Free, Held}
use Rattle.homes.specs.declared.places.Span.{Span}
use Rattle.snapshot_store.specs.Places.{page as page_words}
use Rattle.commit_core.specs.Places.{place_of}
use Rattle.drop_core.specs.declared.grip.Grip.{Grip}
use Rattle.drop_core.specs.declared.table.Page.{Page}
use Rattle.drop_core.specs.declared.table.Page.TheVariants.{Inner}
use Rattle.drop_core.specs.declared.table.Pointer.{Pointer}
use Rattle.drop_core.specs.declared.table.Slot.{Slot}
use Rattle.drop_core.specs.declared.table.SlotState.TheVariants.{Published as Shown}
use Rattle.drop_core.specs.declared.table.Table.{Table}
use Rattle.drop_core.specs.Event.{is_published, with_slot}
use Rattle.drop_core.specs.Table.{slot_of, pointer_of, has_slot, has_pointer, at_index}
use Rattle.engine_rule.specs.Reading.{name_of}
use Rattle.engine_rule.specs.JointState.{is_slot, slot_at as slot_with}
use Rattle.engine_pages.specs.declared.layout.Layout.{Layout}
use Rattle.engine_pages.specs.declared.view.Copied.{Copied}
use Rattle.engine_pages.specs.declared.view.Draft.{Draft}
use Rattle.engine_pages.specs.declared.view.View.{View}
use Rattle.engine_pages.specs.Layout.{slot_at, page_at}
use Rattle.engine_pages.specs.Pages.{child_span, is_array}
use Rattle.engine_pages.specs.Resident.{IsNamed, place_for}
use Rattle.engine_pages.specs.Rule.{Shared, IsCopy, IsCopiedPointer, Shows}
use Rattle.engine_pages.specs.Slots.{published_copy}
use Rattle.engine_pages.specs.Views.{IsActive, seat_number}
use Rattle.engine_pages.specs.Words.{ShowsPage, ShowsPointer}
use Rattle.views.specs.ByNumber.{put_at}
use Rattle.engine_pages.proofs.Copying.{NewPage, publish_stride, slot_new, page_new, tree_new, old_copy, old_blank}
use Rattle.engine_pages.proofs.Copying.{old_leaf, old_inner}
use Rattle.engine_pages.proofs.Joint.{Laws}
use Rattle.engine_pages.proofs.Named.{page_longer}
use Rattle.engine_pages.proofs.PagesStay.{inner_shape}
use Rattle.engine_pages.proofs.PointerLaws.{named_stands, standing_there}
use Rattle.engine_pages.proofs.Turns.{Begins, allows_at}
use Rattle.dual_pointer.specs.Copies.{IsPointersDraft}
use Rattle.dual_pointer.proofs.FilledPointers.{fill_pointers, pointer_filled, pointer_unfilled, pointers_sound}
use Rattle.dual_pointer.proofs.Names.{array_entry, named_none}
use Rattle.dual_pointer.proofs.SnapWords.{child_named}

-- ---- the pages that the pointers name

-- A name for each pointer, of the page that its word names.
record AreNames (l : Layout) (s : Shared) (sp : Span) (n : ℕ) : Type 0 where
  name : ℕ → ℕ
  named : (j : ℕ) → j < 64 → IsNamed s.resident.places (child_span sp j) (get_or (page_words s.resident.pages n) j 0) (name j)

are_names : (l : Layout) (words : List ℕ) (views : List View) (s : Shared) (id : ℕ) (v : View) (ws : List ℕ) (sp : Span)
    (n : ℕ) → Begins l words views s id v → IsPointersDraft v ws sp n → AreNames l s sp n
are_names l words views s id v ws sp n b cd = by_number n refl
  where
    array : is_array l.decls sp.storage ≡ true
    array = ap (λ (y : Layout). is_array y.decls sp.storage) (sym b.own.layout) ∙ cd.array

    by_number : (k : ℕ) → n ≡ k → AreNames l s sp n
    by_number zero none = record {
      name = λ _. 0;
      named = λ j less.
          named_none l.decls s.resident.places (child_span sp j) (get_or (page_words s.resident.pages n) j 0) 0 array
          (ap (λ k. get_or (page_words s.resident.pages k) j 0) none) refl;
    }
    by_number (suc k) some =
        let lead = cd.lead (omega (arith, some)) in
        let known = b.pages.leads lead.0 lead.1 in
        let named : IsNamed s.resident.places sp n (lead.0).name =
        subst (λ (z : Span). IsNamed s.resident.places z n (lead.0).name) lead.2
        (subst (λ k. IsNamed s.resident.places (lead.0).span k (lead.0).name) lead.3 known.named) in
        let there = array_entry l.decls s.resident s.table sp n (lead.0).name b.sound.declared b.sound.named named array (omega (arith, some)) in
        record {
          name = λ j. name_of s.resident.places (Array sp.storage there.size) (place_for (child_span sp j) (get_or (page_words s.resident.pages n) j 0));
          named = λ j less. child_named l.decls s.resident s.table sp n (lead.0).name j b.sound.named there cd.inner less;
        }

-- ---- the step

pub publishes_pointers : Laws → (l : Layout) (slots id : ℕ) (me : Me (Unit {0}) View) (x : Draft) (sp : Span) (n : ℕ)
    → IsActive me.0.role → Contains me.0.drafts x → IsPointersDraft me.0 x.words sp n
    → Allows (λ s. Shows l s.words s.views) slots id me (slot_at x.slot) (λ i. (i + 65536) % 2 ^ 64)
    (λ _ now. (now.1 ≡ me.1) × (now.0 ≡ published_copy x.slot sp n me.0))
publishes_pointers laws l slots id me x sp n active has cd =
    allows_at laws l slots id me (slot_at x.slot) (λ i. (i + 65536) % 2 ^ 64) (λ v _ w. w ≡ published_copy x.slot sp n v) active
    (λ words views s b.
    let v = me.0 in
    let p = seat_number v.role in
    let d = s.table in
    let m = s.story in
    let t = x.slot in
    let draft = b.pages.drafts x has in
    let front = b.pages.resident in
    let long : n ≤ length s.resident.pages =
    let more = front_length v.pages s.resident.pages front in let low = cd.there in omega arith in
    let same : page_words s.resident.pages n ≡ page_words v.pages n = page_longer v.pages s.resident.pages n front cd.there in
    let ws : List ℕ = page_words s.resident.pages n in
    let is : (i : ℕ) → i < 64 → get_or words (page_at l.slots t i) 0 ≡ get_or ws i 0 = λ i less.
    draft.is i less ∙ (cd.same i less ∙ ap (λ (z : List ℕ). get_or z i 0) (sym same)) in
    let names = are_names l words views s id v x.words sp n b cd in
    let c : ℕ → Pointer = λ j. record { span = child_span sp j; slot = None; page = names.name j; holder = Free } in
    let made : has_slot (s.grips p).made t ≡ true = ap (λ (g : Grip). has_slot g.made t) (sym b.grip) ∙ draft.made in
    let pointers' = fill_pointers t c 64 d.pointers in
    let d0 : Table = record d { pointers = pointers' } in
    let sound = pointers_sound laws l s p t c b.few draft.owned made b.sound.joint 64 in
    let others : (y : At) → is_slot t (slot_with y) ≡ false → pointer_of d0 y ≡ pointer_of d y =
    λ y other. pointer_unfilled t c 64 d.pointers y other in
    let filled : (j : ℕ) → j < 64 → pointer_of d0 (at_index t j) ≡ c j = λ j less. pointer_filled t c 64 d.pointers j less in
    let shows : ShowsPage s.resident.places words l.slots t (place_of m.places) d0 (Inner 64) = (
      (omega arith),
      (λ j less.
          subst (ShowsPointer s.resident.places words (page_at l.slots t j)) (sym (filled j less)) record {
            number = get_or ws j 0;
            word = is j less ∙ (omega arith);
            page = small l words views s id v b sp n j (names.name j) (names.named j less);
            slot = tt;
            named = names.named j less;
            keepers = λ q held. absurd (not_held q held);
          }),
    ) in
    let copies' : List Copied = record { slot = t; span = sp; page = n } ∷ v.copies in
    let made-page : NewPage l words s t = record {
      page = Inner 64;
      places = m.places;
      pointers = pointers';
      headers = d.headers;
      fence = None;
      filled = sound;
      other_places = λ y other. refl;
      other_pointers = others;
      other_headers = λ u other. refl;
      shown = shows;
    } in
    publish_stride laws l words views s id v active b x has made-page copies' v.blanks v.new_leaves v.new_inners
    (λ z there. elim (in_cases z (record { slot = t; span = sp; page = n }) v.copies there) [
      | inl new ↦
          subst (λ (y : Copied). (put_at s.trees t None y.slot ≡ None) × IsCopy l m (with_slot (record d0 { pages = (t, Inner 64) ∷ d.pages }) t (record (slot_of d t) { state = Shown })) s.resident v.grip.made y) new (
            tree_new laws l words views s id v active b x has made-page copies' v.blanks v.new_leaves v.new_inners,
            record {
              slot = draft.slot;
              made = draft.made;
              state = ap (λ (k : Slot). is_published k.state)
                  (slot_new laws l words views s id v active b x has made-page copies' v.blanks v.new_leaves v.new_inners);
              over = record {
                page =
                    page_new laws l words views s id v active b x has made-page copies' v.blanks v.new_leaves v.new_inners
                    ∙ sym (inner_shape sp cd.inner);
                spans = λ j pointer.
                    let less : j < 64 = below_fan j (sym (ap (λ (y : Page). has_pointer y j) (inner_shape sp cd.inner)) ∙ pointer) in
                    ap (λ (q : Pointer). q.span) (filled j less);
                header = draft.header;
              };
              page = long;
              exact = λ leaf. absurd (true≢false (sym leaf ∙ cd.inner));
              records = λ leaf i few. absurd (true≢false (sym leaf ∙ cd.inner));
              pointers = λ inner j less.
                  subst (IsCopiedPointer s.resident.places sp j (get_or ws j 0)) (sym (filled j less))
                  record { span = refl; slot = refl; free = refl; named = names.named j less };
            },
          )
      | inr old ↦ old_copy laws l words views s id v active b x has made-page copies' v.blanks v.new_leaves v.new_inners z old
    ])
    (λ u there. old_blank laws l words views s id v active b x has made-page copies' v.blanks v.new_leaves v.new_inners u there)
    (old_leaf laws l words views s id v active b x has made-page copies' v.blanks v.new_leaves v.new_inners)
    (old_inner laws l words views s id v active b x has made-page copies' v.blanks v.new_leaves v.new_inners)
    (λ v _ w. w ≡ published_copy x.slot sp n v) refl)
  where
    not_held : (q : ℕ) → Free ≡ Held q → ⊥
    not_held q e = absurd (cc)

    below_fan : (j : ℕ) → ltb j 64 ≡ true → j < 64
    below_fan j is = grind (arith, nat_tests)

    small : (l : Layout) (words : List ℕ) (views : List View) (s : Shared) (id : ℕ) (v : View) → Begins l words views s id v
        → (sp : Span) (n j name : ℕ)
        → IsNamed s.resident.places (child_span sp j) (get_or (page_words s.resident.pages n) j 0) name
        → get_or (page_words s.resident.pages n) j 0 ≤ 65536
    small l words views s id v b sp n j name named = by_number (get_or (page_words s.resident.pages n) j 0) named
      where
        by_number : (k : ℕ) → IsNamed s.resident.places (child_span sp j) k name → k ≤ 65536
        by_number zero named = omega arith
        by_number (suc k) named =
            let stands = named_stands l words views s id v (child_span sp j) (suc k) name b named (omega arith) in
            let there = standing_there l.decls s.resident.pages (child_span sp j) (suc k) stands in
            let within = b.sound.within in
            let few = b.sound.few.2 in omega arith
