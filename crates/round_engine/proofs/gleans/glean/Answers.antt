-- A glean that is asked for by itself.
use Rattle.round_engine.proofs.GleanAsked.{asked_ready, glean_asked}
use Rattle.round_engine.proofs.GleanStops.{glean_carries}
use Rattle.round_engine.proofs.gleans.glean.Goals as goal

pub glean_closed-gleaned-requires-clause-ready : goal.glean_closed-gleaned-requires-clause-ready
glean_closed-gleaned-requires-clause-ready g c κs within = asked_ready c.requires.stands c.requires.up

pub returns : goal.returns
returns g c =
    record {
      gleans = glean_asked c.glean_closed-gleaned.result.answer c.glean_closed-gleaned.result.beside c.requires.stands c.requires.up c.glean_closed-gleaned.ensures.gleans
          c.has_failed.result c.end_if.new.self c.has_failed.ensures c.end_if.ensures;
      crashes = glean_carries c.glean_closed-gleaned.result.answer c.glean_closed-gleaned.result.beside c.requires.stands c.requires.up
          c.glean_closed-gleaned.ensures.gleans c.has_failed.result c.end_if.new.self c.end_if.ensures;
    }
