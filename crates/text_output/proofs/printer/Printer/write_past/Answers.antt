-- What doesn't fit is written by itself, after what waited.
use Rattle.std.proofs.Common.{refl, ap, ◌∙◌}
use Rattle.text_output.specs.Printed.{breaks_within, prints_at_stop, prints_past, prints_then}
use Rattle.text_output.proofs.printer.Printer.write_past.Goals as goal

pub returns-in_err-flush : goal.returns-in_err-flush
returns-in_err-flush g c =
    prints_at_stop _ _ c.from_residual.ensures.1 (breaks_within c.args.bytes.now c.in_err-flush.ensures.prints)

pub returns : goal.returns
returns g c =
    let empty = ap (λ o. o.waiting) c.self.view_is ∙ c.in_ok-flush.ensures.empty in
    prints_then _ _ _ c.in_ok-flush.ensures.prints (rw (← c.self.view_is)
    (prints_past _ _ _ _ refl empty empty c.write.ensures.written c.write.ensures.prefix c.write.ensures.cause))
