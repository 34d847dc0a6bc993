use Rattle.std.proofs.Common.{◌+◌, length, refl}
use Rattle.root_composer.proofs.WordLemmas.{leaf_written}
use Rattle.root_composer.proofs.build.leaf_words.Goals as goal

pub returns : goal.returns
returns c =
    leaf_written (256 + length c.args.rows.now) c.args.low c.args.high c.write_rows.new.to c.args.rows.now refl c.requires c.write_rows.ensures
