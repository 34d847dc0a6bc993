-- What the machine finds of a pointer that an attempt kept is what its whole word tells.
use Rattle.std.proofs.Common.{◌≡◌, ◌≢◌, ℕ, ◌+◌, ◌^◌, ◌<◌, Bool, true, false, true≢false}
use Rattle.std.proofs.Common.{eqb, eqb-true, eq-eqb, ne_eqb, List, get_or, refl, sym, ap, ◌∙◌, subst, arith}
use Rattle.std.proofs.Common.{Option, Some, None}
use Rattle.std.specs.Prelude.{◌&&◌, is_none}
use Rattle.std.proofs.lemmas.Bool.{and_from, and_left}
use Rattle.homes.specs.declared.places.At.{At}
use Rattle.homes.specs.declared.places.Holder.{Holder}
use Rattle.homes.specs.declared.places.Holder.TheVariants.{Free, Held, Dead}
use Rattle.homes.specs.declared.places.Span.{Span}
use Rattle.wire_form.specs.Words.{at_bit, slot_field}
use Rattle.commit_core.specs.declared.attempt.Attempt.{Attempt}
use Rattle.commit_core.specs.declared.part.Version.TheVariants.{Leads}
use Rattle.commit_core.specs.declared.seat.Stage.{Stage}
use Rattle.commit_core.specs.declared.seat.Stage.TheVariants.{Idle, Trying}
use Rattle.commit_core.specs.Places.{is_open_to}
use Rattle.drop_core.specs.declared.table.Pointer.{Pointer}
use Rattle.drop_core.specs.Table.{pointer_of}
use Rattle.engine_rule.specs.JointState.{is_pointer_so, leads_so}
use Rattle.engine_pages.specs.declared.layout.Layout.{Layout}
use Rattle.engine_pages.specs.declared.view.Role.{Role}
use Rattle.engine_pages.specs.declared.view.Role.TheVariants.{Keeper, Worker, Note, Spent}
use Rattle.engine_pages.specs.declared.view.View.{View}
use Rattle.engine_pages.specs.Resident.{IsNamed}
use Rattle.engine_pages.specs.Rule.{Shared}
use Rattle.engine_pages.specs.Views.{HasPart, IsActive, seat_number}
use Rattle.engine_pages.specs.Words.{lock_field}
use Rattle.engine_pages.proofs.PointerLaws.{PointerIs, pointer_is, open_pointer}
use Rattle.engine_pages.proofs.Turns.{Begins}
use Rattle.dual_pointer.proofs.Names.{named_same, number_same}
use Rattle.pointer_checks.specs.Checks.{CanCheckPointer}

-- the keeper has no attempt
worker_tries : (role : Role) → IsActive role → (made : List ℕ) (due : Bool) (stage : Stage) (mine : List Attempt) (i : ℕ)
    → stage ≡ Trying i → HasPart role made due stage mine → seat_number role ≢ 0
worker_tries Keeper active made due stage mine i tries part e =
    let none : Trying i ≡ Idle = sym tries ∙ part.1 in absurd (cc)
worker_tries (Worker w) active made due stage mine i tries part e = absurd (omega arith)
worker_tries Note active made due stage mine i tries part e = absurd active
worker_tries Spent active made due stage mine i tries part e = absurd active

module _ (l : Layout) (words : List ℕ) (views : List View) (s : Shared) (id : ℕ) (v : View) (active : IsActive v.role)
    (g : Begins l words views s id v) (x : At) (sp : Span) (at word : ℕ) (can : CanCheckPointer v x sp at word) where
  abbrev p : ℕ
  p = seat_number v.role

  abbrev n : ℕ
  n = get_or words at 0

  abbrev q : Pointer
  q = pointer_of s.table x

  there : PointerIs l words s v x sp at
  there = pointer_is l words views s id v x sp at g can.place

  worker : p ≢ 0
  worker = worker_tries v.role active v.made v.due v.seat.stage v.mine can.index can.stage g.fits.part

  -- the name of the page that was seen
  abbrev name : ℕ
  name = can.of.lead.name

  was-named : IsNamed s.resident.places sp word name
  was-named =
      subst (λ (z : Span). IsNamed s.resident.places z word name) can.of.over
      (subst (λ k. IsNamed s.resident.places can.of.lead.span k name) can.of.page (g.pages.leads can.of.lead can.of.has).named)

  named : IsNamed s.resident.places sp there.shows.number q.page
  named = subst (λ (z : Span). IsNamed s.resident.places z there.shows.number q.page) there.span there.shows.named

  -- the same word is the same page, and no slot
  same_word_is : n ≡ word → is_pointer_so p q (Leads name) ≡ true
  same_word_is same =
      let shows = there.shows in
      let bare = can.bare in
      let value = shows.word in
      let few = shows.page in
      let free : q.holder ≡ Free =
      open_pointer (at_bit 0 shows.number + at_bit 32 (slot_field q.slot)) q.holder
      (subst (λ k. k < 2 ^ 60) value (omega arith)) in
      let unlocked : lock_field q.holder ≡ 0 = ap lock_field free in
      let field : slot_field q.slot ≡ 0 = omega arith in
      let none : q.slot ≡ None = no_field q.slot field in
      let number : there.shows.number ≡ word = omega arith in
      let page : q.page ≡ name =
      named_same s.resident.places sp word q.page name
      (subst (λ k. IsNamed s.resident.places sp k q.page) number named) was-named in
      and_from (is_open_to p q.holder) (is_none q.slot && eqb q.page name) (ap (is_open_to p) free)
      (and_from (is_none q.slot) (eqb q.page name) (ap is_none none) (eq-eqb q.page name page))
    where
      no_field : (o : Option ℕ) → slot_field o ≡ 0 → o ≡ None
      no_field None e = refl
      no_field (Some t) e = absurd (omega arith)

  -- another word is another page, or a slot, or shut
  other_word_is : n ≢ word → is_pointer_so p q (Leads name) ≡ false
  other_word_is other = by_holder q.holder refl
    where
      and_no : (b : Bool) → (b && false) ≡ false
      and_no true = refl
      and_no false = refl

      by_slot : (o : Option ℕ) → q.slot ≡ o → q.holder ≡ Free → (is_none q.slot && eqb q.page name) ≡ false
      by_slot (Some t) leads free = ap (λ (z : Option ℕ). is_none z && eqb q.page name) leads
      by_slot None leads free =
          let value = there.shows.word in
          let unlocked : lock_field q.holder ≡ 0 = ap lock_field free in
          let field : slot_field q.slot ≡ 0 = ap slot_field leads in
          let number : there.shows.number ≡ n = omega arith in
          let apart : q.page ≢ name = λ page.
          other (sym number ∙ number_same s.resident.places sp there.shows.number word name
          (subst (λ k. IsNamed s.resident.places sp there.shows.number k) page named) was-named) in
          ap (λ (b : Bool). is_none q.slot && b) (ne_eqb q.page name apart) ∙ and_no (is_none q.slot)

      by_holder : (h : Holder) → q.holder ≡ h → is_pointer_so p q (Leads name) ≡ false
      by_holder Free is =
          ap (λ (b : Bool). is_open_to p q.holder && b) (by_slot q.slot refl is) ∙ and_no (is_open_to p q.holder)
      by_holder (Held o) is =
          let keeper : o ≡ 0 = there.shows.keepers o is in
          and_left (is_open_to p q.holder) (leads_so q (Leads name))
          (ap (is_open_to p) is ∙ ne_eqb o p (λ e. worker (sym e ∙ keeper)))
      by_holder Dead is = and_left (is_open_to p q.holder) (leads_so q (Leads name)) (ap (is_open_to p) is)

  pub decides : (b : Bool) → eqb n word ≡ b → is_pointer_so p q (Leads name) ≡ b
  decides true e = same_word_is (eqb-true n word e)
  decides false e = other_word_is (λ same. true≢false (sym (eq-eqb n word same) ∙ e))
