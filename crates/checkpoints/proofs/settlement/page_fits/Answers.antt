use Rattle.std.proofs.Common.{arith}
use Rattle.wire_form.specs.ByteLaws.{length-bytes_of}
use Rattle.checkpoints.proofs.settlement.page_fits.Goals as goal

pub returns : goal.returns
returns c = record {
  fit = c.words_fit.ensures;
  whole = omega (arith, length-bytes_of c.args.page.now.words, c.are_page_words.ensures);
}
