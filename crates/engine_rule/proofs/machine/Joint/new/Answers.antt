-- What was read is what the pages have, and the start is sound.
use Rattle.std.proofs.Common.{◌∙◌, refl}
use Rattle.snapshot_store.specs.Content.{words_of}
use Rattle.engine_rule.specs.Reading.{named_places, storages}
use Rattle.engine_rule.proofs.Beginning.{begun_from, begun_sound}
use Rattle.engine_rule.proofs.machine.Joint.new.Goals as goal

pub returns-clause-opens : goal.returns-clause-opens
returns-clause-opens c =
    begun_from c.args.pages.now c.args.decls.now c.args.roots.now c.args.first c.args.slots c.args.passes c.opened.result
    (named_places (words_of c.args.pages.now) (storages c.args.decls.now c.args.roots.now)) _ _ _ c.opened.ensures refl
    c.in_ok-snaps.ensures.snaps c.in_ok-snaps.ensures.count (c.as_slice.ensures ∙ c.in_ok-snaps.ensures.roots)

pub returns-clause-sound : goal.returns-clause-sound
returns-clause-sound c can =
    begun_sound c.args.pages.now c.args.decls.now c.args.roots.now c.args.first c.args.slots c.args.passes
    c.opened.result c.both_stay_sound.ensures.starts can (returns-clause-opens c)
