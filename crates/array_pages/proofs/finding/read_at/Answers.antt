use Rattle.engine_pages.specs.Passes.{view}
use Rattle.array_pages.proofs.FindLaws.{reads_find}
use Rattle.array_pages.proofs.finding.read_at.Goals as goal

pub returns-clause-finds : goal.returns-clause-finds
returns-clause-finds c = λ slots can pointers.
    reads_find c.args.key pointers slots c.read_word.result (view c.args.pass.now) (view c.read_word.new.pass) can
    c.read_word.ensures.reads
