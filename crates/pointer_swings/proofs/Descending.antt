-- A load of a snapshot page's word names the page below.
use Rattle.std.proofs.Common.{◌≡◌, inl, inr, ℕ, zero, suc, ◌<◌, ◌≤◌, true, List, length, get_or, refl, sym, ap, ◌∙◌, subst, arith}
use Rattle.atomic_table.specs.Table.{Me, Allows}
use Rattle.lists.specs.Elements.{in_cases}
use Rattle.lists.specs.Fronts.{front_length}
use Rattle.homes.specs.declared.places.Span.{Span}
use Rattle.snapshot_store.specs.Places.{page as page_words}
use Rattle.engine_rule.specs.Reading.{name_of}
use Rattle.serial_model.specs.declared.decl.Decl.TheVariants.{Array}
use Rattle.engine_pages.specs.declared.layout.Layout.{Layout}
use Rattle.engine_pages.specs.declared.view.Lead.{Lead}
use Rattle.engine_pages.specs.declared.view.View.{View}
use Rattle.engine_pages.specs.Layout.{snap_at}
use Rattle.engine_pages.specs.Pages.{is_array, child_span}
use Rattle.engine_pages.specs.Resident.{IsNamed, place_for}
use Rattle.engine_pages.specs.Rule.{Shared, IsLead, Shows}
use Rattle.engine_pages.specs.Views.{IsActive, seat_number}
use Rattle.engine_pages.proofs.Dealing.{rests_all}
use Rattle.engine_pages.proofs.Joint.{Laws}
use Rattle.engine_pages.proofs.Looks.{look_stride}
use Rattle.engine_pages.proofs.Named.{page_longer}
use Rattle.engine_pages.proofs.PointerLaws.{named_stands, standing_there}
use Rattle.engine_pages.proofs.Seats.{is_at}
use Rattle.engine_pages.proofs.Turns.{Begins, allows_at}
use Rattle.dual_pointer.proofs.Names.{array_entry}
use Rattle.dual_pointer.proofs.SnapWords.{child_named}
use Rattle.pointer_swings.specs.Children.{CanDescend, HasDescended, descended}
use Rattle.pointer_swings.proofs.Lower.{child_lower}

-- the page with a number that stands for some keys is there
pub named_there : (l : Layout) (words : List ℕ) (views : List View) (s : Shared) (id : ℕ) (v : View) (sp : Span) (n name : ℕ)
    → Begins l words views s id v → IsNamed s.resident.places sp n name → n ≤ length s.resident.pages
named_there l words views s id v sp zero name b named = omega arith
named_there l words views s id v sp (suc n) name b named =
    standing_there l.decls s.resident.pages sp (suc n) (named_stands l words views s id v sp (suc n) name b named (omega arith))

pub descends : Laws → (l : Layout) (slots id : ℕ) (me : Me (Unit {0}) View) (sp : Span) (number j : ℕ)
    → IsActive me.0.role → me.0.layout ≡ l → CanDescend me.0 sp number j
    → Allows (λ s. Shows l s.words s.views) slots id me (snap_at l.slots number j) (λ k. k)
    (λ k now. (now.1 ≡ me.1) × HasDescended sp number j me.0 k now.0)
descends laws l slots id me sp number j active same can =
    allows_at laws l slots id me (snap_at l.slots number j) (λ k. k) (λ v k w. HasDescended sp number j v k w) active
    (λ words views s b.
    let v = me.0 in
    let at = snap_at l.slots number j in
    let k : ℕ = get_or words at 0 in
    let front = b.pages.resident in
    let long = front_length v.pages s.resident.pages front in
    let known = can.known in
    let less = can.index in
    let word : k ≡ get_or (page_words s.resident.pages number) j 0 = b.sound.shown.resident number j can.some (omega arith) less in
    let says : k ≡ get_or (page_words v.pages number) j 0 =
    word ∙ ap (λ (z : List ℕ). get_or z j 0) (page_longer v.pages s.resident.pages number front known) in
    let x = can.lead.0 in
    let lead : IsLead s.resident x = b.pages.leads x can.lead.1 in
    let named : IsNamed s.resident.places sp number x.name =
    subst (λ (z : Span). IsNamed s.resident.places z number x.name) can.lead.2
    (subst (λ n. IsNamed s.resident.places x.span n x.name) can.lead.3 lead.named) in
    let array : is_array l.decls sp.storage ≡ true = ap (λ (z : Layout). is_array z.decls sp.storage) (sym same) ∙ can.array in
    let there = array_entry l.decls s.resident s.table sp number x.name b.sound.declared b.sound.named named array can.some in
    let child = child_named l.decls s.resident s.table sp number x.name j b.sound.named there can.inner less in
    let name = name_of s.resident.places (Array sp.storage there.size) (place_for (child_span sp j) (get_or (page_words s.resident.pages number) j 0)) in
    let below : IsNamed s.resident.places (child_span sp j) k name = subst (λ n. IsNamed s.resident.places (child_span sp j) n name) (sym word) child in
    let most : k ≤ length s.resident.pages = named_there l words views s id v (child_span sp j) k name b below in
    let room : length s.resident.pages ≤ l.resident = b.sound.within in
    let all : l.resident ≤ 65536 = b.sound.few.2 in
    let one : Lead = record { span = child_span sp j; page = k; name = name } in
    let w = descended sp number j name k v in
    look_stride l words views s id v active b at (λ k. k) w (λ v k w. HasDescended sp number j v k w) refl
    record { layout = refl; role = refl; made = refl; past = refl; parked = refl; epoch = refl; mine = refl; draws = refl; due = refl; seat = refl; checked = refl; took = refl; loaded = refl; met = refl; heard = refl; history = refl; decided = refl; versions = refl }
    refl
    record {
      within = b.pages.within;
      ways = b.pages.ways;
      drafts = b.pages.drafts;
      copies = b.pages.copies;
      blanks = b.pages.blanks;
      resident = b.pages.resident;
      leads = λ z has. elim (in_cases z one v.leads has) [
        | inl new ↦ subst (IsLead s.resident) new
            record { page = named_there l words views s id v (child_span sp j) k name b below; named = below }
        | inr old ↦ b.pages.leads z old
      ];
      fills = b.pages.fills;
      known = b.pages.treed.known;
      heads = b.pages.treed.heads (seat_number v.role) (is_at v.role active);
      moved = b.pages.treed.moved;
      sealed = b.pages.treed.sealed (seat_number v.role) (is_at v.role active);
      inners = b.pages.treed.inners;
      new_leaves = b.pages.treed.new_leaves;
      new_inners = b.pages.treed.new_inners;
      shuts = b.pages.shuts (seat_number v.role) (is_at v.role active);
    }
    (rests_all l words views s id v b w
    record { role = refl; ways = refl; took = refl; gone = refl; touched = refl; blamed = refl; locks = refl } refl)
    record {
      name = name;
      is = refl;
      says = says;
      few = subst (λ (y : Layout). k ≤ y.resident) (sym same) (omega (arith, most, room));
      small = omega (arith, most, room, all);
      below =
          subst (λ n. n < number) (sym word)
          (child_lower l.decls s.resident s.table sp number x.name j b.sound.named there can.inner can.some);
    })
