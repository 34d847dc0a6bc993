use Rattle.std.proofs.Common.{refl, subst}
use Rattle.engine_pages.specs.declared.layout.Layout.{Layout}
use Rattle.engine_pages.specs.Beginning.{IsRead}
use Rattle.engine_pages.proofs.start.Start.first.Goals as goal

pub returns-clause-read : goal.returns-clause-read
returns-clause-read c = subst (λ (l : Layout). IsRead l) c.self.view_is refl
