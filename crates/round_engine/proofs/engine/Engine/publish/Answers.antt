-- The words get the pages.
use Rattle.std.proofs.Common.{subst, sym}
use Rattle.shared_rounds.specs.Standing.{Standing}
use Rattle.round_engine.specs.Gleans.{CanPublish}
use Rattle.round_engine.proofs.engine.Engine.publish.Goals as goal

pub publish_words-requires : goal.publish_words-requires
publish_words-requires c = record {
  can = (
    c.self.inside.ended,
    subst (λ (s : Standing). CanPublish c.args.store.now.pages s) (sym c.self.view_is) c.requires.can,
  );
}
