use Rattle.std.proofs.Common.{arith}
use Rattle.wire_form.proofs.LineLemmas.{same_count, same_number, changes_are_items, is_line}
use Rattle.wire_form.proofs.log_line.read_log_line.Goals.{in_default-via-in-Some+in_default, in_default-via-in_default}
use Rattle.wire_form.proofs.log_line.read_log_line.Goals as goal
use Rattle.wire_form.specs.LineLaws.{line_parts}

pub returns-then-bytes-lt16-clause-err : goal.returns-then-bytes-lt16-clause-err
returns-then-bytes-lt16-clause-err c commit rest line e = omega (arith, (line_parts _ rest commit e).room)

pub returns-then-count-lt1-clause-err : goal.returns-then-count-lt1-clause-err
returns-then-count-lt1-clause-err c commit rest line e =
    omega (arith, same_count _ rest commit _ c.word_at-count.type_inv c.word_at-count.ensures line e, line.loggable.some, line.loggable.most, c.then-count-lt1.either)

pub returns-then-bytes-end-clause-err : goal.returns-then-bytes-end-clause-err
returns-then-bytes-end-clause-err c commit rest line e =
    omega (arith, same_count _ rest commit _ c.word_at-count.type_inv c.word_at-count.ensures line e, (line_parts _ rest commit e).room)

pub returns-in-Some-Some-clause-ok : goal.returns-in-Some-Some-clause-ok
returns-in-Some-Some-clause-ok c =
    let number = c.in-Some-Some.ensures.0 in
    is_line c.args.bytes.now (record { number = c.in-Some-Some.number; changes = c.in-Some-Some.changes }) c.word_at.result c.word_at-count.result _ number.valid number.spelled c.word_at.ensures c.word_at-count.ensures (omega arith) (omega arith) (omega arith) (omega arith) c.in-Some-Some.ensures'.found

pub returns-in_default-clause-err : goal.returns-in_default-clause-err
returns-in_default-clause-err c commit rest line e =
    elim c.in_default.branch [
      | in_default-via-in-Some+in_default w ↦
          let count = same_count _ rest commit _ c.word_at-count.type_inv c.word_at-count.ensures line e in
          w.in_default.ensures'.none commit.changes (changes_are_items c.args.bytes.now rest commit _ c.word_at-count.result count (omega arith) line e)
      | in_default-via-in_default w ↦
          let none = rw w.in_default.is-0 at c.read_number.ensures in
          none.1 commit.number line.loggable.number (same_number _ rest commit _ c.word_at.type_inv c.word_at.ensures line e)
    ]
