use Rattle.std.proofs.Common.{◌≡◌, ℕ, ◌+◌, ◌<◌, Bool, List, length, ne_eqb, eqb-true, eq-eqb, sym, ap, ◌∙◌, subst}
use Rattle.std.proofs.Common.{arith}
use Rattle.std.specs.Prelude.{Ok, Err, MatchBool}
use Rattle.std.proofs.lemmas.Result.{err_from_is_err_and}
use Rattle.drop_core.specs.Table.{has_slot}
use Rattle.engine_pages.specs.declared.layout.Layout.{Layout}
use Rattle.engine_pages.specs.declared.view.RefusalCause.{RefusalCause}
use Rattle.engine_pages.specs.declared.view.RefusalCause.TheVariants as causes
use Rattle.engine_pages.specs.declared.view.View.{View}
use Rattle.engine_pages.specs.Layout.{words_of}
use Rattle.engine_pages.specs.Passes.{view}
use Rattle.engine_pages.specs.Slots.{entered}
use Rattle.engine_pages.specs.Steps.{read_at}
use Rattle.engine_pages.specs.Views.{IsActive}
use Rattle.dual_pointer.specs.Installs.{HasInstalled}
use Rattle.array_pages.specs.Steps.{InstallsSo}
use Rattle.array_pages.proofs.InstallLaws.{can_install, install_held, install_missed, install_none, install_wide}
use Rattle.array_pages.proofs.InstallLaws.{may_retire}
use Rattle.array_pages.proofs.WalkLaws.{below_full}
use Rattle.array_pages.proofs.copying.install_copy.Goals as goal

pub returns-then-is_full-clause-installs : goal.returns-then-is_full-clause-installs
returns-then-is_full-clause-installs c =
    install_wide c.args.holds.now c.args.place c.args.at c.args.word c.args.span (view c.args.pass.now) c.requires.can
    c.requires.place c.requires.bare
    (eqb-true (length c.args.holds.now) 128 (sym c.is_full.ensures.value ∙ c.if-is_full.true))

pub publish_page-requires-clause-can : goal.publish_page-requires-clause-can
publish_page-requires-clause-can c =
    (c.args.holds.now, c.requires.can)

pub returns-in_err-slot-clause-installs : goal.returns-in_err-slot-clause-installs
returns-in_err-slot-clause-installs c =
    let p = err_from_is_err_and c.from_residual.result c.from_residual.ensures.1 in
    rw (p.1, p.2)
    (install_none c.args.holds.now c.args.at c.args.word c.args.span c.in_err-slot.field-0.0 (view c.args.pass.now)
    (view c.publish_page.new.pass) c.requires.can c.in_err-slot.ensures.missed)

pub enter-requires-clause-pass : goal.enter-requires-clause-pass
enter-requires-clause-pass c =
    let v = view c.args.pass.now in
    let b = view c.publish_page.new.pass in
    let t = c.in_ok-slot.slot in
    let h = c.in_ok-slot.ensures.published in
    subst (λ (z : View). IsActive z.role) (sym h.is) c.requires.can.walks.active

pub enter-requires-clause-slot : goal.enter-requires-clause-slot
enter-requires-clause-slot c =
    let v = view c.args.pass.now in
    let b = view c.publish_page.new.pass in
    let t = c.in_ok-slot.slot in
    let h = c.in_ok-slot.ensures.published in
    subst (λ (z : View). t < z.layout.slots) (sym h.is) h.there

pub enter-requires-clause-unheld : goal.enter-requires-clause-unheld
enter-requires-clause-unheld c =
    let v = view c.args.pass.now in
    let b = view c.publish_page.new.pass in
    let t = c.in_ok-slot.slot in
    let h = c.in_ok-slot.ensures.published in
    ap (λ (z : View). has_slot z.grip.holds t) h.is ∙ h.unheld

pub note_hold-requires-clause-absent : goal.note_hold-requires-clause-absent
note_hold-requires-clause-absent c =
    let v = view c.args.pass.now in
    let b = view c.publish_page.new.pass in
    let t = c.in_ok-slot.slot in
    let h = c.in_ok-slot.ensures.published in
    c.requires.can.walks.holds t ∙ h.unheld

pub note_hold-requires-clause-room : goal.note_hold-requires-clause-room
note_hold-requires-clause-room c =
    below_full (length c.args.holds.now) c.is_full.ensures.bound (sym c.is_full.ensures.value ∙ c.if-is_full.false)

pub install-seen-requires-clause-pass : goal.install-seen-requires-clause-pass
install-seen-requires-clause-pass c =
    let v = view c.args.pass.now in
    let b = view c.publish_page.new.pass in
    let t = c.in_ok-slot.slot in
    let h = c.in_ok-slot.ensures.published in
    let d = view c.enter.new.pass in
    let held : d ≡ entered t b = c.enter.ensures.enters in
    subst (λ (z : View). IsActive z.role) (sym (held ∙ ap (entered t) h.is)) c.requires.can.walks.active

pub install-seen-requires-clause-slot : goal.install-seen-requires-clause-slot
install-seen-requires-clause-slot c =
    let v = view c.args.pass.now in
    let b = view c.publish_page.new.pass in
    let t = c.in_ok-slot.slot in
    let h = c.in_ok-slot.ensures.published in
    let less : t < c.args.engine.now.table.shared.key.slots =
    subst (λ (l : Layout). t < l.slots) c.requires.of.layout h.there in
    let room = c.args.engine.now.room in
    let few = c.args.engine.now.few in omega (arith, less, room, few)

pub install-seen-requires-clause-install : goal.install-seen-requires-clause-install
install-seen-requires-clause-install c =
    let v = view c.args.pass.now in
    let b = view c.publish_page.new.pass in
    let t = c.in_ok-slot.slot in
    let h = c.in_ok-slot.ensures.published in
    let d = view c.enter.new.pass in
    let held : d ≡ entered t b = c.enter.ensures.enters in
    can_install c.args.holds.now c.args.place c.args.span c.args.at c.args.word t v b d c.requires.can c.requires.place
    c.requires.bare h held
    c.args.leaf c.requires.array c.requires.kind

pub install-seen-requires-clause-word : goal.install-seen-requires-clause-word
install-seen-requires-clause-word c =
    let v = view c.args.pass.now in
    let b = view c.publish_page.new.pass in
    let t = c.in_ok-slot.slot in
    let h = c.in_ok-slot.ensures.published in
    let d = view c.enter.new.pass in
    let held : d ≡ entered t b = c.enter.ensures.enters in
    subst (λ (z : View). c.args.at < words_of z.layout) (sym (held ∙ ap (entered t) h.is)) c.requires.word

pub retire-requires-clause-pass : goal.retire-requires-clause-pass
retire-requires-clause-pass c =
    let v = view c.args.pass.now in
    let b = view c.publish_page.new.pass in
    let t = c.in_ok-slot.slot in
    let h = c.in_ok-slot.ensures.published in
    let d = view c.enter.new.pass in
    let held : d ≡ entered t b = c.enter.ensures.enters in
    let e = view c.install-seen.new.pass in
    let n = c.install-seen.result in
    let missed : e ≡ read_at c.args.at n d =
    subst (λ (f : Bool). MatchBool f (HasInstalled t c.args.at c.args.span d n e) (e ≡ read_at c.args.at n d))
    (ne_eqb n c.args.word c.if-seen-word.true) c.install-seen.ensures.installs in
    subst (λ (z : View). IsActive z.role) (sym (missed ∙ ap (read_at c.args.at n) (held ∙ ap (entered t) h.is)))
    c.requires.can.walks.active

pub retire-requires-clause-slot : goal.retire-requires-clause-slot
retire-requires-clause-slot c =
    let v = view c.args.pass.now in
    let b = view c.publish_page.new.pass in
    let t = c.in_ok-slot.slot in
    let h = c.in_ok-slot.ensures.published in
    let d = view c.enter.new.pass in
    let held : d ≡ entered t b = c.enter.ensures.enters in
    let e = view c.install-seen.new.pass in
    let n = c.install-seen.result in
    let missed : e ≡ read_at c.args.at n d =
    subst (λ (f : Bool). MatchBool f (HasInstalled t c.args.at c.args.span d n e) (e ≡ read_at c.args.at n d))
    (ne_eqb n c.args.word c.if-seen-word.true) c.install-seen.ensures.installs in
    subst (λ (z : View). t < z.layout.slots) (sym (missed ∙ ap (read_at c.args.at n) (held ∙ ap (entered t) h.is)))
    h.there

pub retire-requires-clause-may : goal.retire-requires-clause-may
retire-requires-clause-may c =
    let v = view c.args.pass.now in
    let b = view c.publish_page.new.pass in
    let t = c.in_ok-slot.slot in
    let h = c.in_ok-slot.ensures.published in
    let d = view c.enter.new.pass in
    let held : d ≡ entered t b = c.enter.ensures.enters in
    let e = view c.install-seen.new.pass in
    let n = c.install-seen.result in
    let missed : e ≡ read_at c.args.at n d =
    subst (λ (f : Bool). MatchBool f (HasInstalled t c.args.at c.args.span d n e) (e ≡ read_at c.args.at n d))
    (ne_eqb n c.args.word c.if-seen-word.true) c.install-seen.ensures.installs in
    may_retire c.args.holds.now c.args.place c.args.span c.args.at c.args.word t v b d c.requires.can c.requires.place
    c.requires.bare h held n e missed

pub returns-then-seen-word-clause-installs : goal.returns-then-seen-word-clause-installs
returns-then-seen-word-clause-installs c =
    let v = view c.args.pass.now in
    let b = view c.publish_page.new.pass in
    let t = c.in_ok-slot.slot in
    let h = c.in_ok-slot.ensures.published in
    let d = view c.enter.new.pass in
    let held : d ≡ entered t b = c.enter.ensures.enters in
    let e = view c.install-seen.new.pass in
    let n = c.install-seen.result in
    let missed : e ≡ read_at c.args.at n d =
    subst (λ (f : Bool). MatchBool f (HasInstalled t c.args.at c.args.span d n e) (e ≡ read_at c.args.at n d))
    (ne_eqb n c.args.word c.if-seen-word.true) c.install-seen.ensures.installs in
    let f = view c.retire.new.pass in
    subst (λ (r : RefusalCause). InstallsSo (length c.args.holds.now + 1) c.note_hold.new.holds c.args.at c.args.word
    c.args.span (Err r) v f)
    (sym c.conflict.ensures)
    (subst (λ (l : List ℕ).
    InstallsSo (length c.args.holds.now + 1) l c.args.at c.args.word c.args.span
    (Err (causes.Conflict c.args.at c.args.word n)) v f)
    (sym c.note_hold.ensures)
    (install_missed c.args.holds.now c.args.place c.args.span c.args.at c.args.word t v b d c.requires.can
    c.requires.place c.requires.bare h held n e f
    c.if-seen-word.true missed c.retire.ensures.retires))

pub returns-clause-installs : goal.returns-clause-installs
returns-clause-installs c =
    let v = view c.args.pass.now in
    let b = view c.publish_page.new.pass in
    let t = c.in_ok-slot.slot in
    let h = c.in_ok-slot.ensures.published in
    let d = view c.enter.new.pass in
    let held : d ≡ entered t b = c.enter.ensures.enters in
    let e = view c.install-seen.new.pass in
    let n = c.install-seen.result in
    let put : HasInstalled t c.args.at c.args.span d n e =
    subst (λ (f : Bool). MatchBool f (HasInstalled t c.args.at c.args.span d n e) (e ≡ read_at c.args.at n d))
    (eq-eqb n c.args.word c.if-seen-word.false) c.install-seen.ensures.installs in
    subst (λ (l : List ℕ). InstallsSo (length c.args.holds.now + 1) l c.args.at c.args.word c.args.span (Ok t) v e)
    (sym c.note_hold.ensures)
    (install_held c.args.holds.now c.args.place c.args.span c.args.at c.args.word t v b d c.requires.can
    c.requires.place c.requires.bare h held n e put)
