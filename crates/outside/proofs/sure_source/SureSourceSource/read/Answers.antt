use Rattle.std.proofs.Common.{arith, drop, drop_of_length-le}
use Rattle.std.proofs.lemmas.Grind.{common_steps}
use Rattle.std.proofs.lemmas.List.{take_rest}
use Rattle.outside.proofs.Streams.{read_taken}
use Rattle.outside.proofs.sure_source.SureSourceSource.read.Goals as goal

pub returns-clause-bytes : goal.returns-clause-bytes
returns-clause-bytes c = (
  read_taken c.args.self.now.at c.min-count.result c.args.self.now.bytes.items c.copy_from_slice.new.self (drop c.min-count.result c.args.buf.now)
      (grind (arith, common_steps)) (grind (arith, common_steps, take_rest)),
  λ none room. drop_of_length-le c.args.self.now.bytes.items (grind (arith, common_steps)),
)
