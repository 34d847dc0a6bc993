-- The last page is the catalogue's.
use Rattle.std.proofs.Common.{◌≡◌, ◌<◌, ◌≤◌, ℕ, arith, length, subst, sym}
use Rattle.std.proofs.lemmas.Result.{IfOk-weaker}
use Rattle.snapshot_store.specs.Content.{CatalogueAt, words_of}
use Rattle.recovery_core.proofs.StorePages.{catalogue_of}
use Rattle.recovery_core.proofs.catalogue.newest_storages.Goals as goal

-- there is one
some_page : (pages number lower : ℕ) → number ≡ pages → lower < pages → 1 ≤ number
some_page pages number lower same below = omega (arith, same, below)

pub page-requires-clause-first : goal.page-requires-clause-first
page-requires-clause-first c =
    some_page (length c.args.store.now.pages) c.count-number.result c.requires.0.previous c.count-number.ensures.count
    c.requires.1.catalogue.previous

pub returns : goal.returns
returns c = IfOk-weaker c.storages_of.result _ _ (λ storages is contents here.
    let at = subst (λ n. CatalogueAt (words_of c.args.store.now.pages) n contents) (sym c.count-number.ensures.count) here in
    let some = some_page (length c.args.store.now.pages) c.count-number.result c.requires.0.previous
    c.count-number.ensures.count c.requires.1.catalogue.previous in
    let read = catalogue_of c.args.store.now.pages c.count-number.result c.page.result.now contents some
    c.page.ensures.page c.page.ensures.number at in
    is contents at.catalogue read.1) c.storages_of.ensures
