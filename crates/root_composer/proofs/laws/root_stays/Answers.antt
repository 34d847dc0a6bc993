use Rattle.std.proofs.Common.{◌≡◌, ℕ, refl, ap, ◌∙◌}
use Rattle.serial_model.specs.declared.decl.Decl.{Decl}
use Rattle.serial_model.specs.declared.decl.Decl.TheVariants.{Array, Tree}
use Rattle.snapshot_store.specs.Content.{root_place}
use Rattle.root_composer.specs.Overlaid.{touches}
use Rattle.root_composer.proofs.laws.root_stays.Goals as goal

root_number : (d : Decl) (root : ℕ) → (root_place d root).number ≡ root
root_number (Array id size) root = refl
root_number (Tree id) root = refl

pub returns : goal.returns
returns c run old new depth s t composed none =
    composed.replaces.follows.kept (ap (λ es. touches es (root_place s.decl s.root).low (root_place s.decl s.root).high) none) ∙ root_number s.decl s.root
