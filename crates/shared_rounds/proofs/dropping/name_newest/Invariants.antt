-- No page more, and all places that get names.
use Rattle.std.proofs.Common.{drop}
use Rattle.engine_pages.specs.Passes.{view}
use Rattle.engine_rule.specs.Reading.{named_places}
use Rattle.snapshot_store.specs.Content.{words_of}
use Rattle.shared_rounds.proofs.NewPages.{newest_in}
use Rattle.shared_rounds.proofs.dropping.name_newest.Given as goal

abbrev pub ghosts-publish_pages : goal.ghosts-publish_pages
ghosts-publish_pages a = record {
  pages = drop a.known (words_of a.store.now.pages);
  places = named_places (words_of a.store.now.pages)
      (newest_in (view a.pass.now).layout.decls (words_of a.store.now.pages));
}
