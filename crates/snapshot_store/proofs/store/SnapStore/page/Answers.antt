use Rattle.std.proofs.Common.{◌≡◌, ◌∙◌, ◌-◌, length, ap, sym, subst, arith}
use Rattle.wire_form.specs.declared.page.Page.{Page}
use Rattle.snapshot_store.specs.Store.{StoreState, IsWhole}
use Rattle.snapshot_store.proofs.Pages.{numbered_at, whole_at}
use Rattle.snapshot_store.proofs.store.SnapStore.page.Goals as goal

pub returns-clause-number : goal.returns-clause-number
returns-clause-number c =
    let viewed : c.self.inside.pages.items ≡ c.args.self.now.pages = ap (λ (s : StoreState). s.pages) c.self.view_is in
    ap (λ (p : Page). p.number) c.index.ensures
    ∙ numbered_at 1 c.self.inside.pages.items (c.args.number - 1) c.index.result.now c.self.invariant.numbered (omega (arith, ap length viewed))
    ∙ omega arith

pub returns-clause-whole : goal.returns-clause-whole
returns-clause-whole c =
    let viewed : c.self.inside.pages.items ≡ c.args.self.now.pages = ap (λ (s : StoreState). s.pages) c.self.view_is in
    subst (λ (p : Page). IsWhole p) (sym c.index.ensures)
    (whole_at c.self.inside.pages.items (c.args.number - 1) c.index.result.now c.self.invariant.whole (omega (arith, ap length viewed)))
