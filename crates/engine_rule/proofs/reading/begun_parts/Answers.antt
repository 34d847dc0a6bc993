-- The places and the storages are those of the pages.
use Rattle.std.proofs.Common.{◌∙◌, ap}
use Rattle.snapshot_store.specs.Content.{words_of}
use Rattle.engine_rule.specs.Reading.{named_places}
use Rattle.engine_rule.proofs.Beginning.{counted_at, roots_at, snaps_at}
use Rattle.engine_rule.proofs.reading.begun_parts.Goals as goal

pub returns-clause-snaps : goal.returns-clause-snaps
returns-clause-snaps c =
    snaps_at c.args.pages.now c.parts_at.result
    (c.as_slice-2.ensures ∙ c.in_ok-places.ensures.is
    ∙ ap (named_places (words_of c.args.pages.now)) (c.as_slice.ensures ∙ c.in_ok-stored.ensures))
    c.parts_at.ensures.snaps

pub returns-clause-count : goal.returns-clause-count
returns-clause-count c =
    counted_at c.parts_at.result
    (c.as_slice-2.ensures ∙ c.in_ok-places.ensures.is
    ∙ ap (named_places (words_of c.args.pages.now)) (c.as_slice.ensures ∙ c.in_ok-stored.ensures))
    c.parts_at.ensures.count

pub returns-clause-roots : goal.returns-clause-roots
returns-clause-roots c =
    roots_at c.parts_at.result
    (c.as_slice-2.ensures ∙ c.in_ok-places.ensures.is
    ∙ ap (named_places (words_of c.args.pages.now)) (c.as_slice.ensures ∙ c.in_ok-stored.ensures))
    (c.as_slice-3.ensures ∙ c.in_ok-stored.ensures) c.parts_at.ensures.roots
