use Rattle.std.proofs.Common.{◌≡◌, ℕ, ◌<◌, Bool, List, [], ne_eqb, eq-eqb, sym, ap, ◌∙◌, subst, arith}
use Rattle.std.specs.Prelude.{Ok, Err, MatchBool}
use Rattle.drop_core.specs.Table.{has_slot}
use Rattle.engine_pages.specs.declared.layout.Layout.{Layout}
use Rattle.engine_pages.specs.declared.view.RefusalCause.{RefusalCause}
use Rattle.engine_pages.specs.declared.view.RefusalCause.TheVariants as causes
use Rattle.engine_pages.specs.declared.view.View.{View}
use Rattle.engine_pages.specs.Layout.{words_of}
use Rattle.engine_pages.specs.Passes.{view}
use Rattle.engine_pages.specs.Steps.{read_at}
use Rattle.engine_pages.specs.Views.{IsActive}
use Rattle.dual_pointer.specs.Installs.{HasInstalled}
use Rattle.tree_making.specs.Pages.{PutsSo}
use Rattle.tree_making.proofs.PutLaws.{can_install, is_held, may_retire, put_held, put_missed}
use Rattle.tree_making.proofs.bringing.lead_to.Goals as goal

pub enter-requires-clause-pass : goal.enter-requires-clause-pass
enter-requires-clause-pass c =
    subst (λ (z : View). IsActive z.role) (sym c.requires.made.5.is) c.requires.made.3.walks.active

pub enter-requires-clause-slot : goal.enter-requires-clause-slot
enter-requires-clause-slot c =
    subst (λ (z : View). c.args.slot < z.layout.slots) (sym c.requires.made.5.is) c.requires.made.5.there

pub enter-requires-clause-unheld : goal.enter-requires-clause-unheld
enter-requires-clause-unheld c =
    ap (λ (z : View). has_slot z.grip.holds c.args.slot) c.requires.made.5.is ∙ c.requires.made.5.unheld

pub note_hold-requires-clause-absent : goal.note_hold-requires-clause-absent
note_hold-requires-clause-absent c = c.requires.made.3.walks.holds c.args.slot ∙ c.requires.made.5.unheld

pub install-seen-requires-clause-pass : goal.install-seen-requires-clause-pass
install-seen-requires-clause-pass c =
    subst (λ (z : View). IsActive z.role)
    (sym (is_held c.requires.made.0 c.requires.made.1 [] c.args.holds.now c.args.bare c.args.slot c.requires.made.2
    (view c.args.pass.now) (view c.enter.new.pass) c.requires.made.3 c.requires.made.4 c.requires.made.5
    c.enter.ensures.enters)) c.requires.made.3.walks.active

pub install-seen-requires-clause-slot : goal.install-seen-requires-clause-slot
install-seen-requires-clause-slot c =
    let less : c.args.slot < c.args.engine.now.table.shared.key.slots =
    subst (λ (l : Layout). c.args.slot < l.slots) c.requires.of.layout
    (subst (λ (z : View). c.args.slot < z.layout.slots) (sym c.requires.made.5.is) c.requires.made.5.there) in
    let room = c.args.engine.now.room in
    let few = c.args.engine.now.few in omega (arith, less, room, few)

pub install-seen-requires-clause-install : goal.install-seen-requires-clause-install
install-seen-requires-clause-install c =
    can_install c.requires.made.0 c.requires.made.1 [] c.args.holds.now c.args.bare c.args.slot c.requires.made.2
    (view c.args.pass.now) (view c.enter.new.pass) c.requires.made.3 c.requires.made.4 c.requires.made.5
    c.enter.ensures.enters

pub install-seen-requires-clause-word : goal.install-seen-requires-clause-word
install-seen-requires-clause-word c =
    subst (λ (z : View). c.args.bare.pointer.at < words_of z.layout)
    (sym (is_held c.requires.made.0 c.requires.made.1 [] c.args.holds.now c.args.bare c.args.slot c.requires.made.2
    (view c.args.pass.now) (view c.enter.new.pass) c.requires.made.3 c.requires.made.4 c.requires.made.5
    c.enter.ensures.enters)) c.requires.made.4.within

pub retire-requires-clause-pass : goal.retire-requires-clause-pass
retire-requires-clause-pass c =
    let d = view c.enter.new.pass in
    let e = view c.install-seen.new.pass in
    let n = c.install-seen.result in
    let missed : e ≡ read_at c.args.bare.pointer.at n d =
    subst (λ (f : Bool). MatchBool f (HasInstalled c.args.slot c.args.bare.pointer.at c.args.bare.span d n e)
    (e ≡ read_at c.args.bare.pointer.at n d)) (ne_eqb n c.args.bare.pointer.word c.if-seen-word.true)
    c.install-seen.ensures.installs in
    subst (λ (z : View). IsActive z.role)
    (sym (missed ∙ ap (read_at c.args.bare.pointer.at n)
    (is_held c.requires.made.0 c.requires.made.1 [] c.args.holds.now c.args.bare c.args.slot c.requires.made.2
    (view c.args.pass.now) (view c.enter.new.pass) c.requires.made.3 c.requires.made.4 c.requires.made.5
    c.enter.ensures.enters))) c.requires.made.3.walks.active

pub retire-requires-clause-slot : goal.retire-requires-clause-slot
retire-requires-clause-slot c =
    let d = view c.enter.new.pass in
    let e = view c.install-seen.new.pass in
    let n = c.install-seen.result in
    let missed : e ≡ read_at c.args.bare.pointer.at n d =
    subst (λ (f : Bool). MatchBool f (HasInstalled c.args.slot c.args.bare.pointer.at c.args.bare.span d n e)
    (e ≡ read_at c.args.bare.pointer.at n d)) (ne_eqb n c.args.bare.pointer.word c.if-seen-word.true)
    c.install-seen.ensures.installs in
    subst (λ (z : View). c.args.slot < z.layout.slots)
    (sym (missed ∙ ap (read_at c.args.bare.pointer.at n)
    (is_held c.requires.made.0 c.requires.made.1 [] c.args.holds.now c.args.bare c.args.slot c.requires.made.2
    (view c.args.pass.now) (view c.enter.new.pass) c.requires.made.3 c.requires.made.4 c.requires.made.5
    c.enter.ensures.enters))) c.requires.made.5.there

pub retire-requires-clause-may : goal.retire-requires-clause-may
retire-requires-clause-may c =
    let d = view c.enter.new.pass in
    let e = view c.install-seen.new.pass in
    let n = c.install-seen.result in
    let missed : e ≡ read_at c.args.bare.pointer.at n d =
    subst (λ (f : Bool). MatchBool f (HasInstalled c.args.slot c.args.bare.pointer.at c.args.bare.span d n e)
    (e ≡ read_at c.args.bare.pointer.at n d)) (ne_eqb n c.args.bare.pointer.word c.if-seen-word.true)
    c.install-seen.ensures.installs in
    may_retire c.requires.made.0 c.requires.made.1 [] c.args.holds.now c.args.bare c.args.slot c.requires.made.2
    (view c.args.pass.now) d c.requires.made.3 c.requires.made.4 c.requires.made.5 c.enter.ensures.enters n e missed

pub returns-then-seen-word-clause-puts : goal.returns-then-seen-word-clause-puts
returns-then-seen-word-clause-puts c k pointers headers v can on h =
    let d = view c.enter.new.pass in
    let e = view c.install-seen.new.pass in
    let n = c.install-seen.result in
    let f = view c.retire.new.pass in
    let missed : e ≡ read_at c.args.bare.pointer.at n d =
    subst (λ (f : Bool). MatchBool f (HasInstalled c.args.slot c.args.bare.pointer.at c.args.bare.span d n e)
    (e ≡ read_at c.args.bare.pointer.at n d)) (ne_eqb n c.args.bare.pointer.word c.if-seen-word.true)
    c.install-seen.ensures.installs in
    subst (λ (r : RefusalCause). PutsSo k pointers headers c.args.bare c.args.slot c.note_hold.new.holds (Err r) v f)
    (sym c.conflict.ensures)
    (subst (λ (l : List ℕ). PutsSo k pointers headers c.args.bare c.args.slot l
    (Err (causes.Conflict c.args.bare.pointer.at c.args.bare.pointer.word n)) v f) (sym c.note_hold.ensures)
    (put_missed k pointers headers c.args.holds.now c.args.bare c.args.slot v (view c.args.pass.now) d can on h
    c.enter.ensures.enters n e f c.if-seen-word.true missed c.retire.ensures.retires))

pub returns-clause-puts : goal.returns-clause-puts
returns-clause-puts c k pointers headers v can on h =
    let d = view c.enter.new.pass in
    let e = view c.install-seen.new.pass in
    let n = c.install-seen.result in
    let put : HasInstalled c.args.slot c.args.bare.pointer.at c.args.bare.span d n e =
    subst (λ (f : Bool). MatchBool f (HasInstalled c.args.slot c.args.bare.pointer.at c.args.bare.span d n e)
    (e ≡ read_at c.args.bare.pointer.at n d)) (eq-eqb n c.args.bare.pointer.word c.if-seen-word.false)
    c.install-seen.ensures.installs in
    subst (λ (l : List ℕ). PutsSo k pointers headers c.args.bare c.args.slot l (Ok tt) v e) (sym c.note_hold.ensures)
    (put_held k pointers headers c.args.holds.now c.args.bare c.args.slot v (view c.args.pass.now) d can on h
    c.enter.ensures.enters n e put)
