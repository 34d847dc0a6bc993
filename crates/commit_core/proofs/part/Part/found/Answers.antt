-- What was found is what is looked up.
use Rattle.std.proofs.Common.{◌∙◌, sym}
use Rattle.commit_core.specs.Keys.{same_key, nothing}
use Rattle.commit_core.proofs.ListLaws.{looked-up, looked-none, found_in}
use Rattle.commit_core.proofs.part.Part.found.Goals as goal

pub returns-in-Some : goal.returns-in-Some
returns-in-Some c =
    looked-up same_key nothing c.args.self.now.pairs c.args.key c.in-Some.pair
    (found_in (λ e. same_key e.0 c.args.key) c.as_slice.ensures (sym c.find_pair.ensures ∙ c.in-Some.is))

pub returns-in-None : goal.returns-in-None
returns-in-None c =
    looked-none same_key nothing c.args.self.now.pairs c.args.key
    (found_in (λ e. same_key e.0 c.args.key) c.as_slice.ensures (sym c.find_pair.ensures ∙ c.in-None.is))
