use Rattle.std.proofs.Common.{List, ℕ, sym, subst}
use Rattle.lists.specs.Fronts.{IsFront}
use Rattle.snapshot_store.specs.Store.{bytes_of_pages}
use Rattle.snapshot_store.proofs.store.SnapStore.sync.Goals as goal

pub returns-in-Ok-clause-durable : goal.returns-in-Ok-clause-durable
returns-in-Ok-clause-durable g c file told left image =
    subst (λ (l : List ℕ). IsFront (bytes_of_pages c.args.self.now.pages) l) (sym (c.in-Ok.ensures.durable file told left image)) (c.requires.holds file told)
