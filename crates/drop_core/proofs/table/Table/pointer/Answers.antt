-- What was found is what is looked up.
use Rattle.std.proofs.Common.{◌∙◌, sym, ap, None}
use Rattle.homes.specs.declared.places.Holder.TheVariants.{Dead}
use Rattle.homes.specs.declared.places.Span.{Span}
use Rattle.homes.specs.Homes.{same_at}
use Rattle.drop_core.specs.declared.table.Pointer.{Pointer}
use Rattle.drop_core.specs.Table.{no_pointer}
use Rattle.drop_core.proofs.Lookups.{looked-up, looked-none, found_in}
use Rattle.drop_core.proofs.table.Table.pointer.Goals as goal

pub returns-in-Some : goal.returns-in-Some
returns-in-Some c =
    looked-up (λ a b. same_at a b) no_pointer c.args.self.now.pointers c.args.at c.in-Some.entry
    (found_in (λ e. same_at e.0 c.args.at) c.as_slice.ensures (sym c.find_pointer.ensures ∙ c.in-Some.is))

pub returns-in-None : goal.returns-in-None
returns-in-None c =
    ap (λ (s : Span). let q : Pointer = record { span = s; slot = None; page = 0; holder = Dead } in q) c.no_span.ensures
    ∙ looked-none (λ a b. same_at a b) no_pointer c.args.self.now.pointers c.args.at
    (found_in (λ e. same_at e.0 c.args.at) c.as_slice.ensures (sym c.find_pointer.ensures ∙ c.in-None.is))
