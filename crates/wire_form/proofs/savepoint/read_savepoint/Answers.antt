use Rattle.std.proofs.Common.{arith, ◌≡◌, ap}
use Rattle.wire_form.proofs.SavepointLemmas.{same_gate, behind_gate, same_body, place_read}
use Rattle.wire_form.proofs.savepoint.read_savepoint.Goals as goal

pub returns-then-word_at-ne-OPEN-clause-err : goal.returns-then-word_at-ne-OPEN-clause-err
returns-then-word_at-ne-OPEN-clause-err c point is e =
    c.if-word_at-ne-OPEN.true (same_gate point c.args.bytes.now c.word_at.result c.word_at.type_inv c.word_at.ensures e)

pub returns-in-Some-clause-found : goal.returns-in-Some-clause-found
returns-in-Some-clause-found c =
    place_read c.args.place c.args.bytes.now c.read_words.new.words c.word_at.result c.in-Some.point c.read_words.ensures.fit c.word_at.ensures c.if-word_at-ne-OPEN.false (behind_gate _ _ c.told-bytes c.read_words.ensures.read) c.in-Some.ensures.0 (omega arith)

pub returns-in_default-clause-err : goal.returns-in_default-clause-err
returns-in_default-clause-err c point is e =
    let same = c.in-Some.ensures.0.only point is.point (same_body point c.args.bytes.now c.read_words.new.words c.read_words.ensures.fit (behind_gate _ _ c.told-bytes c.read_words.ensures.read) is.point e) in
    let parity : point.sequence ≡ c.in-Some.point.sequence = ap (λ s. s.sequence) same in
    omega (arith, is.stands)

pub returns-in_default-2-clause-err : goal.returns-in_default-2-clause-err
returns-in_default-2-clause-err c point is e =
    c.in_default.ensures.1 point is.point (same_body point c.args.bytes.now c.read_words.new.words c.read_words.ensures.fit (behind_gate _ _ c.told-bytes c.read_words.ensures.read) is.point e)
