-- The places so far, each with all below it.
use Rattle.std.proofs.Common.{◌≡◌, ◌+◌, ◌*◌, ◌++◌, take}
use Rattle.std.specs.List.{flat_map}
use Rattle.snapshot_store.specs.Content.{words_of}
use Rattle.engine_rule.specs.Reading.{led_places}
use Rattle.engine_rule.proofs.reading.+push_place.Given as goal

abbrev pub decreases-push_place : goal.decreases-push_place
decreases-push_place l = 2 * l.depth

abbrev pub decreases-push_each : goal.decreases-push_each
decreases-push_each l = 2 * l.depth + 1

abbrev pub invariant-push_each-loop-place : goal.invariant-push_each-loop-place
invariant-push_each-loop-place l =
    l.all ≡ l.fn.all ++ flat_map (led_places l.decl (words_of l.pages) l.depth) (take l.place-index l.places)
