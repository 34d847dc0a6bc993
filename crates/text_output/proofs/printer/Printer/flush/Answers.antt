-- What waited was written, and nothing waits.
use Rattle.std.proofs.Common.{refl, ap, ◌∙◌, ◌++◌, []}
use Rattle.text_output.proofs.printer.Printer.flush.Goals as goal

pub returns-clause-prints : goal.returns-clause-prints
returns-clause-prints g c = rw (← c.self.view_is) (record {
  same = refl;
  faults = c.in_ok-write.ensures.cause.quiet;
  out = c.as_slice.result.now;
  written = c.in_ok-write.ensures.written;
  whole = ap (λ w. c.as_slice.result.now ++ w) c.clear.ensures ∙ ap (λ w. w ++ []) c.as_slice.ensures.value;
})
