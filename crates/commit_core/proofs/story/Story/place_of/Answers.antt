-- What was found is what is looked up.
use Rattle.std.proofs.Common.{◌∙◌, sym}
use Rattle.homes.specs.Homes.{same_spot}
use Rattle.commit_core.specs.Places.{vacant}
use Rattle.commit_core.proofs.ListLaws.{looked-up, looked-none, found_in}
use Rattle.commit_core.proofs.story.Story.place_of.Goals as goal

pub returns-in-Some : goal.returns-in-Some
returns-in-Some c =
    looked-up same_spot vacant c.args.self.now.places c.args.spot c.in-Some.entry
    (found_in (λ e. same_spot e.0 c.args.spot) c.as_slice.ensures (sym c.find_place.ensures ∙ c.in-Some.is))

pub returns-in-None : goal.returns-in-None
returns-in-None c =
    looked-none same_spot vacant c.args.self.now.places c.args.spot
    (found_in (λ e. same_spot e.0 c.args.spot) c.as_slice.ensures (sym c.find_place.ensures ∙ c.in-None.is))
