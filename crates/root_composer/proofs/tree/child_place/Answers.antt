use Rattle.root_composer.proofs.TreePlaces.{child_at}
use Rattle.root_composer.proofs.tree.child_place.Goals as goal

pub returns : goal.returns
returns c low high number kids is words within =
    child_at low high kids.separators kids.pointers c.args.i c.child.result c.child_range-low.result (c.child.ensures low high number kids is words within) (c.child_range-low.ensures low high number kids is words within)
