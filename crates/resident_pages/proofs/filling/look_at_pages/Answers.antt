use Rattle.engine_pages.specs.Passes.{view}
use Rattle.resident_pages.proofs.PagesFilled.{looked}
use Rattle.resident_pages.proofs.filling.look_at_pages.Goals as goal

pub returns-clause-looks : goal.returns-clause-looks
returns-clause-looks c =
    looked (view c.args.pass.now) c.claim_page.result (view c.claim_page.new.pass) c.claim_page.ensures.claims
