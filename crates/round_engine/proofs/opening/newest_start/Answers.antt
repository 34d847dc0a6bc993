-- The start is made of the last page's storages, and of all pages.
use Rattle.std.proofs.Common.{◌∙◌, ap, map, List, ℕ}
use Rattle.wire_form.specs.declared.page.Page.{Page}
use Rattle.wire_form.specs.declared.records.Stored.{Stored}
use Rattle.snapshot_store.specs.Content.{words_of}
use Rattle.engine_pages.specs.Beginning.{layout_of}
use Rattle.round_engine.specs.FirstRecords.{root_in}
use Rattle.round_engine.proofs.opening.newest_start.Goals as goal

pub returns : goal.returns
returns c =
    let first = c.args.first in
    let decls = c.args.decls in
    let slots = c.args.slots in
    let room = c.args.room in
    let roots-are = c.in_ok-roots.ensures ∙ ap (λ (ss : List Stored). map root_in ss) c.as_slice.ensures in record {
      storages = c.in_ok-storages.storages;
      are = c.in_ok-storages.ensures;
      start_is = c.new.ensures
          ∙ (ap (λ (roots : List ℕ). layout_of first decls roots slots room (words_of c.in_ok-pages.pages)) roots-are
          ∙ ap (λ (ps : List Page). layout_of first decls (map root_in c.in_ok-storages.storages) slots room (words_of ps))
          c.in_ok-pages.ensures);
    }
