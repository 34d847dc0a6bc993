-- A word and a number, twice.
use Rattle.std.proofs.Common.{◌++◌, append_assoc, sym}
use Rattle.std.specs.Prelude.{decimal}
use Rattle.text_output.specs.Printed.{breaks_within, prints_at_stop, prints_then}
use Rattle.tx_script.proofs.TextSoFar.{prints_as}
use Rattle.tx_script.proofs.print.put_words.Goals as goal

pub returns-in_err-put_word : goal.returns-in_err-put_word
returns-in_err-put_word g c = prints_at_stop _ _ c.from_residual.ensures.1 (breaks_within _ (breaks_within _ c.in_err-put_word.ensures))

pub returns : goal.returns
returns g c =
    prints_as _ _ ((c.args.word.now ++ decimal c.args.number) ++ (c.args.other.now ++ decimal c.args.more)) _ _
    (sym (append_assoc (c.args.word.now ++ decimal c.args.number) c.args.other.now (decimal c.args.more)))
    (prints_then _ _ _ c.in_ok-put_word.ensures c.put_word-2.ensures)
