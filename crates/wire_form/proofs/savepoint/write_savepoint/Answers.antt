use Rattle.std.proofs.Common.{arith, ◌≡◌, ◌∙◌, ◌*◌, ap, take, drop, length, length-take}
use Rattle.wire_form.specs.Bytes.{bytes_of}
use Rattle.wire_form.specs.Savepoint.{body_words}
use Rattle.wire_form.proofs.ByteLemmas.{rest_alone}
use Rattle.wire_form.proofs.SavepointLemmas.{place_written, length-body}
use Rattle.wire_form.proofs.savepoint.write_savepoint.Goals as goal

pub returns : goal.returns
returns c =
    let len : length c.body.result ≡ 63 = ap length c.body.ensures ∙ length-body c.args.point.now c.requires.banks in
    let over = take 504 (drop 8 c.write_words.new.to) in
    let alone = rest_alone (bytes_of c.body.result) over c.write_words-2.new.to (8 * length c.body.result) (omega (arith, len, length-take 504 (drop 8 c.write_words.new.to))) c.write_words-2.ensures in
    place_written c.args.to.now c.write_words.new.to c.write_words-2.new.to (body_words c.args.point.now) c.told-to c.write_words.ensures (alone ∙ ap bytes_of c.body.ensures)
