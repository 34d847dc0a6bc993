use Rattle.lists.specs.Each.{all_weaker}
use Rattle.wire_form.specs.Pages.{IsPointer, IsChild, IsStored}
use Rattle.wire_form.proofs.laws.pointers_go_down.Goals as goal

pub returns-clause-array : goal.returns-clause-array
returns-clause-array c used number pointers is = all_weaker (IsChild 0 number) (IsPointer number) (λ p w. w.1) pointers is.each

pub returns-clause-tree : goal.returns-clause-tree
returns-clause-tree c low high number children is = all_weaker (IsChild 1 number) (IsPointer number) (λ p w. w.1) children.pointers is.each

pub returns-clause-roots : goal.returns-clause-roots
returns-clause-roots c number contents is = all_weaker (IsStored number) (λ s. IsPointer number s.root) (λ s w. w.root) contents.storages is.each
