use Rattle.std.proofs.Common.{◌+◌, ◌*◌, arith}
use Rattle.std.specs.Prelude.{slice_set}
use Rattle.engine_pages.specs.Passes.{view}
use Rattle.foster_tree.proofs.FillLaws.{fills_then}
use Rattle.foster_tree.proofs.WordLaws.{long_set}
use Rattle.foster_tree.proofs.filling.fill_record.Goals as goal

pub returns-clause-fills : goal.returns-clause-fills
returns-clause-fills c =
    let e = c.args.entry in
    fills_then c.args.slot 2 1
    (λ words. slice_set (slice_set words (16 + 3 * c.args.index) c.args.entry.key) ((16 + 3 * c.args.index) + 1) c.args.entry.word)
    (λ words. slice_set words ((16 + 3 * c.args.index) + 2) c.args.entry.value)
    (view c.args.pass.now) (view c.fill_word-2.new.pass) (view c.fill_word-3.new.pass)
    (λ words long. long_set (slice_set words (16 + 3 * c.args.index) c.args.entry.key) ((16 + 3 * c.args.index) + 1)
    c.args.entry.word (long_set words (16 + 3 * c.args.index) c.args.entry.key long))
    (fills_then c.args.slot 1 1 (λ words. slice_set words (16 + 3 * c.args.index) c.args.entry.key)
    (λ words. slice_set words ((16 + 3 * c.args.index) + 1) c.args.entry.word) (view c.args.pass.now)
    (view c.fill_word.new.pass) (view c.fill_word-2.new.pass)
    (λ words long. long_set words (16 + 3 * c.args.index) c.args.entry.key long)
    c.fill_word.ensures.fills c.fill_word-2.ensures.fills)
    c.fill_word-3.ensures.fills
