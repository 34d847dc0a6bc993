use Rattle.std.proofs.Common.{◌≡◌, List, sym, ap, subst, ◌∙◌, arith}
use Rattle.std.specs.List.{AllByRecursion}
use Rattle.std.proofs.lemmas.Result.{err_from_is_err_and}
use Rattle.wire_form.specs.Pages.{Contents}
use Rattle.wire_form.specs.declared.records.Stored.{Stored}
use Rattle.snapshot_store.specs.Content.{words_of, RootStands, record_in, value_at}
use Rattle.recovery_core.specs.Damage.{FirstBad}
use Rattle.recovery_core.specs.Snapshots.{RootBreaksAt}
use Rattle.recovery_core.proofs.OlderSnapshots.{roots_there, roots_stand, roots_break}
use Rattle.recovery_core.proofs.StorePages.{catalogue_of, one_here}
use Rattle.recovery_core.proofs.content.content_at.Goals as goal

pub returns-in_default-clause-breaks : goal.returns-in_default-clause-breaks
returns-in_default-clause-breaks c at same contents here =
    let is = catalogue_of c.args.store.now.pages c.args.page c.page.result.now contents c.requires.first
    c.page.ensures.page c.page.ensures.number here in
    absurd ((rw c.in_default.is at c.in_ok-catalogue.ensures.none) contents is.0 is.1)

pub gather-requires-clause-there : goal.gather-requires-clause-there
gather-requires-clause-there c =
    let found = rw c.in-Some.is at c.in_ok-catalogue.ensures.found in
    let listed : c.as_slice-storages.result.now ≡ c.in-Some.catalogue.storages =
    c.as_slice-storages.ensures ∙ ap (λ (x : Contents). x.storages) c.catalogue.view_is in
    roots_there c.page.result.now.number c.args.page c.in-Some.catalogue c.as_slice-storages.result.now listed found.0
    c.page.ensures.number (omega arith)

pub returns-in_err-gather-clause-breaks : goal.returns-in_err-gather-clause-breaks
returns-in_err-gather-clause-breaks c at same contents here =
    let pages = words_of c.args.store.now.pages in
    let found = rw c.in-Some.is at c.in_ok-catalogue.ensures.found in
    let listed : c.as_slice-storages.result.now ≡ c.in-Some.catalogue.storages =
    c.as_slice-storages.ensures ∙ ap (λ (x : Contents). x.storages) c.catalogue.view_is in
    let one = one_here c.args.store.now.pages c.args.page c.page.result.now contents c.in-Some.catalogue
    c.requires.first c.page.ensures.page c.page.ensures.number here found.0 found.1 in
    let p = err_from_is_err_and c.from_residual-in_err-gather.result c.from_residual-in_err-gather.ensures.1 in
    subst (FirstBad (RootStands pages) (RootBreaksAt pages at))
    (listed ∙ sym (ap (λ (x : Contents). x.storages) one))
    (roots_break pages c.pages_fit.ensures.fit at c.as_slice-storages.result.now
    (c.in_err-gather.ensures.breaks at (cc (same, p.1, p.2))))

pub returns-clause-stands : goal.returns-clause-stands
returns-clause-stands c contents here =
    let pages = words_of c.args.store.now.pages in
    let found = rw c.in-Some.is at c.in_ok-catalogue.ensures.found in
    let listed : c.as_slice-storages.result.now ≡ c.in-Some.catalogue.storages =
    c.as_slice-storages.ensures ∙ ap (λ (x : Contents). x.storages) c.catalogue.view_is in
    let one = one_here c.args.store.now.pages c.args.page c.page.result.now contents c.in-Some.catalogue
    c.requires.first c.page.ensures.page c.page.ensures.number here found.0 found.1 in
    subst (AllByRecursion (RootStands pages)) (listed ∙ sym (ap (λ (x : Contents). x.storages) one))
    (roots_stand pages c.pages_fit.ensures.fit c.as_slice-storages.result.now c.in_ok-gather.ensures.stands)

pub returns-clause-content : goal.returns-clause-content
returns-clause-content c contents here =
    let pages = words_of c.args.store.now.pages in
    let found = rw c.in-Some.is at c.in_ok-catalogue.ensures.found in
    let listed : c.as_slice-storages.result.now ≡ c.in-Some.catalogue.storages =
    c.as_slice-storages.ensures ∙ ap (λ (x : Contents). x.storages) c.catalogue.view_is in
    let one = one_here c.args.store.now.pages c.args.page c.page.result.now contents c.in-Some.catalogue
    c.requires.first c.page.ensures.page c.page.ensures.number here found.0 found.1 in
    record {
      here = here;
      content = λ key. c.in_ok-gather.ensures.state key
          ∙ ap (λ (l : List Stored). value_at (record_in pages) l key)
          (listed ∙ sym (ap (λ (x : Contents). x.storages) one));
    }
