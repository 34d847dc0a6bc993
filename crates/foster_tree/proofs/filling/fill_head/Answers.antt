use Rattle.std.proofs.Common.{◌+◌, arith}
use Rattle.std.specs.Prelude.{slice_set}
use Rattle.engine_pages.specs.Passes.{view}
use Rattle.tree_heads.specs.Headers.{open_word}
use Rattle.foster_tree.proofs.FillLaws.{fills_then, header_fills}
use Rattle.foster_tree.proofs.WordLaws.{long_set}
use Rattle.foster_tree.proofs.filling.fill_head.Goals as goal

pub returns-clause-fills : goal.returns-clause-fills
returns-clause-fills c =
    fills_then c.args.slot 2 1
    (λ words. slice_set (slice_set words 0 (open_word c.args.count)) 1 c.args.span.low)
    (λ words. slice_set words 2 c.args.span.high)
    (view c.args.pass.now) (view c.fill_word-2.new.pass) (view c.fill_word-3.new.pass)
    (λ words long. long_set (slice_set words 0 (open_word c.args.count)) 1 c.args.span.low
    (long_set words 0 (open_word c.args.count) long))
    (fills_then c.args.slot 1 1 (λ words. slice_set words 0 (open_word c.args.count))
    (λ words. slice_set words 1 c.args.span.low) (view c.args.pass.now)
    (view c.fill_word.new.pass) (view c.fill_word-2.new.pass)
    (λ words long. long_set words 0 (open_word c.args.count) long)
    (header_fills c.args.slot c.args.count (view c.args.pass.now) (view c.fill_word.new.pass) c.fill_word.ensures.fills)
    c.fill_word-2.ensures.fills)
    c.fill_word-3.ensures.fills
