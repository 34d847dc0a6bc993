use Rattle.std.proofs.Common.{arith}
use Rattle.std.proofs.lemmas.Nat.{be_bytes_8}
use Rattle.wire_form.specs.Bytes.{bytes_of_word}
use Rattle.wire_form.proofs.bytes.word_at.Goals as goal

pub returns : goal.returns
unfolding bytes_of_word
returns c =
    be_bytes_8 c.args.bytes.now _ c.requires (λ i. omega (arith, c.type_inv.bytes i)) c.from_be_bytes.ensures
