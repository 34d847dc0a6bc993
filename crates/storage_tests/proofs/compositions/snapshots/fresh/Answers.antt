use Rattle.root_composer.specs.FreshLaws.{first_stands}
use Rattle.storage_tests.proofs.compositions.snapshots.fresh.Goals as goal

pub returns : goal.returns
returns c =
    first_stands c.in_ok-store.store.pages c.append.new.self.pages _ c.decl_of-decl.result c.decl_of-decl.ensures c.in_ok-store.ensures.read.count_is c.in_ok-append.ensures.pages c.catalogue_words.ensures.words
