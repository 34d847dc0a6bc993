-- The tally of one round more.
use Rattle.std.proofs.Common.{◌+◌, ◌∙◌, ap, refl, sym}
use Rattle.std.specs.Option.{option_or}
use Rattle.tx_script.specs.Draws.{commit_count}
use Rattle.brief_output.proofs.Tallies.{tally_added}
use Rattle.brief_output.proofs.tally.Tally.add.Goals as goal

pub returns : goal.returns
returns c = record {
  adds = λ rans ran is same told.
      tally_added c.args.self.now _ rans ran is refl
      (ap (λ n. c.args.self.now.commits + n) (c.commit_count.ensures.count ∙ ap commit_count (c.as_slice.ensures ∙ sym same)))
      (c.or-self.ensures ∙ ap (λ d. option_or d c.args.self.now.durable) (sym told));
}
