-- What is read of the catalogue's fields is what its value has.
use Rattle.std.proofs.Common.{◌≡◌, ◌<◌, ◌≤◌, ◌∙◌, List, ap, length, map, subst, sym}
use Rattle.std.specs.List.{AllByRecursion}
use Rattle.std.proofs.lemmas.Result.{err_from_is_err_and}
use Rattle.wire_form.specs.Items.{Rises}
use Rattle.wire_form.specs.Pages.{Contents, stored_decl, stored_id}
use Rattle.wire_form.specs.declared.records.Stored.{Stored}
use Rattle.snapshot_store.specs.Content.{record_in, value_at, words_of}
use Rattle.recovery_core.specs.Damage.{FirstBad, RootBreaks}
use Rattle.recovery_core.specs.SnapshotPages.{RootStandsUpTo}
use Rattle.recovery_core.proofs.Exits.{handed_on}
use Rattle.recovery_core.proofs.newest.gather_newest.Goals as goal

pub gather-requires-clause-there : goal.gather-requires-clause-there
gather-requires-clause-there c =
    let listed = c.as_slice-storages.ensures ∙ ap (λ (x : Contents). x.storages) c.newest.view_is in
    subst (AllByRecursion (λ (s : Stored). s.root ≤ length c.args.store.now.pages)) (sym listed) c.requires.there

pub gather-requires-clause-rising : goal.gather-requires-clause-rising
gather-requires-clause-rising c =
    let listed = c.as_slice-storages.ensures ∙ ap (λ (x : Contents). x.storages) c.newest.view_is in
    subst (λ (l : List Stored). Rises ◌<◌ (map stored_id l)) (sym listed) c.requires.rising

pub returns-in_err-gather-clause-breaks : goal.returns-in_err-gather-clause-breaks
returns-in_err-gather-clause-breaks c at same =
    let p = err_from_is_err_and c.from_residual.result c.from_residual.ensures.1 in
    let pages = words_of c.args.store.now.pages in
    let listed = c.as_slice-storages.ensures ∙ ap (λ (x : Contents). x.storages) c.newest.view_is in
    subst (λ k. FirstBad (RootStandsUpTo k pages) (RootBreaks k pages at) c.args.newest.now.storages)
    (ap (λ (x : Contents). x.epoch) c.newest.view_is)
    (subst (FirstBad (RootStandsUpTo c.newest.inside.epoch pages) (RootBreaks c.newest.inside.epoch pages at)) listed
    (c.in_err-gather.ensures.breaks at (handed_on _ _ _ p.0 p.1 p.2 same)))

pub returns-clause-decls : goal.returns-clause-decls
returns-clause-decls c =
    let listed = c.as_slice-storages.ensures ∙ ap (λ (x : Contents). x.storages) c.newest.view_is in
    c.in_ok-decls.ensures ∙ ap (map stored_decl) listed

pub returns-clause-stands : goal.returns-clause-stands
returns-clause-stands c =
    let pages = words_of c.args.store.now.pages in
    let listed = c.as_slice-storages.ensures ∙ ap (λ (x : Contents). x.storages) c.newest.view_is in
    subst (λ k. AllByRecursion (RootStandsUpTo k pages) c.args.newest.now.storages)
    (ap (λ (x : Contents). x.epoch) c.newest.view_is)
    (subst (AllByRecursion (RootStandsUpTo c.newest.inside.epoch pages)) listed c.in_ok-gather.ensures.stands)

pub returns-clause-state : goal.returns-clause-state
returns-clause-state c key =
    let listed = c.as_slice-storages.ensures ∙ ap (λ (x : Contents). x.storages) c.newest.view_is in
    c.in_ok-gather.ensures.state key
    ∙ ap (λ (l : List Stored). value_at (record_in (words_of c.args.store.now.pages)) l key) listed
