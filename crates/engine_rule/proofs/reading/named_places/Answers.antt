-- The places below one root more, and that each has a page that is there.
use Rattle.std.proofs.Common.{refl}
use Rattle.snapshot_store.specs.Content.{words_of}
use Rattle.engine_rule.proofs.ReadThere.{root_pushed, all_there}
use Rattle.engine_rule.proofs.reading.named_places.Goals as goal

pub loop-storage-preserved : goal.loop-storage-preserved
loop-storage-preserved c =
    root_pushed (words_of c.args.pages.now) c.args.storages.now c.loop-storage.storage-index _ _ c.root_of-root.result
    c.loop-storage.all c.push_place.new.all c.loop-storage-test.true refl c.root_of-root.ensures.is
    c.in_ok-push_place.ensures c.loop-storage.invariant

pub returns-clause-there : goal.returns-clause-there
returns-clause-there c =
    all_there c.args.pages.now c.args.storages.now c.loop-storage.storage-index c.loop-storage.all
    c.loop-storage.invariant c.loop-storage-test.false
