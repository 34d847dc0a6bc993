-- What was found is what is looked up.
use Rattle.std.proofs.Common.{◌∙◌, sym}
use Rattle.homes.specs.declared.places.Home.TheVariants.{Nowhere}
use Rattle.commit_core.specs.Keys.{same_key}
use Rattle.commit_core.proofs.ListLaws.{looked-up, looked-none}
use Rattle.commit_core.proofs.story.home_in.Goals as goal

pub returns-in-Some : goal.returns-in-Some
returns-in-Some c = looked-up same_key Nowhere c.args.homes.now c.args.key c.in-Some.entry (sym c.find_home.ensures ∙ c.in-Some.is)

pub returns-in-None : goal.returns-in-None
returns-in-None c = looked-none same_key Nowhere c.args.homes.now c.args.key (sym c.find_home.ensures ∙ c.in-None.is)
