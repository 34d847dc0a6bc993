use Rattle.std.proofs.Common.{ap, ◌∙◌}
use Rattle.engine_pages.specs.Passes.{view}
use Rattle.engine_pages.specs.Steps.{seen_at}
use Rattle.tree_drops.proofs.HalvesHeld.{again_due, again_last, again_role}
use Rattle.tree_drops.specs.Chains.{split_header}
use Rattle.tree_drops.proofs.Places.{word_here}
use Rattle.tree_drops.proofs.chains.meet.Goals as goal

pub keep-changed-requires-clause-keeper : goal.keep-changed-requires-clause-keeper
keep-changed-requires-clause-keeper c =
    again_role c.args.split.slot c.args.split.span c.word_at-at.result c.load_moved-again.result c.requires.known.0
    (view c.args.pass.now) (view c.load_moved-again.new.pass) c.requires.known.1 c.requires.known.2 c.load_moved-again.ensures.meets
    c.requires.keeper

pub keep-changed-requires-clause-last : goal.keep-changed-requires-clause-last
keep-changed-requires-clause-last c = (
  (view c.args.pass.now).steps,
  again_last c.args.split.slot c.args.split.span c.word_at-at.result c.load_moved-again.result c.requires.known.0
      (view c.args.pass.now) (view c.load_moved-again.new.pass) c.requires.known.1 c.requires.known.2 c.load_moved-again.ensures.meets,
)

pub keep-changed-requires-clause-due : goal.keep-changed-requires-clause-due
keep-changed-requires-clause-due c =
    again_due c.args.split.slot c.args.split.span c.word_at-at.result c.load_moved-again.result split_header c.requires.known.0
    (view c.args.pass.now) (view c.load_moved-again.new.pass) c.requires.known.1 c.requires.known.2 c.load_moved-again.ensures.meets
    (ap (λ k. seen_at (view c.args.pass.now).reads k)
    (word_here c.args.engine.now c.args.pass.now c.args.split.slot 0 c.word_at-at.result c.requires.of c.word_at-at.ensures)
    ∙ c.requires.seen) c.if-again-ne-SPLIT.true
