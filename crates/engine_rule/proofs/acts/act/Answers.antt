-- What is the same for every table, grip or seat is so for these.
use Rattle.std.proofs.Common.{sym, subst}
use Rattle.engine_rule.specs.Answers.{Answers}
use Rattle.engine_rule.proofs.acts.act.Goals as goal

pub returns-in-Commit : goal.returns-in-Commit
returns-in-Commit c =
    subst (λ a. Answers c.args.id a c.args.story.now c.args.seat.now c.args.table.now c.args.grip.now c.commit.result c.commit.new.story c.commit.new.seat c.args.table.now c.args.grip.now)
    (sym c.in-Commit.is) (c.commit.ensures c.args.table.now)

pub returns-in-CheckPointer : goal.returns-in-CheckPointer
returns-in-CheckPointer c =
    subst (λ a. Answers c.args.id a c.args.story.now c.args.seat.now c.args.table.now c.args.grip.now c.check_pointer.result c.check_pointer.new.story c.check_pointer.new.seat c.args.table.now c.args.grip.now)
    (sym c.in-CheckPointer.is) (c.check_pointer.ensures c.args.grip.now)

pub returns-in-FillRecord : goal.returns-in-FillRecord
returns-in-FillRecord c =
    subst (λ a. Answers c.args.id a c.args.story.now c.args.seat.now c.args.table.now c.args.grip.now c.fill_record.result c.fill_record.new.story c.args.seat.now c.args.table.now c.args.grip.now)
    (sym c.in-FillRecord.is) (c.fill_record.ensures c.args.id c.args.seat.now)

pub returns-in-CheckHeader : goal.returns-in-CheckHeader
returns-in-CheckHeader c =
    subst (λ a. Answers c.args.id a c.args.story.now c.args.seat.now c.args.table.now c.args.grip.now c.check_header.result c.check_header.new.story c.check_header.new.seat c.args.table.now c.args.grip.now)
    (sym c.in-CheckHeader.is) (c.check_header.ensures c.args.grip.now)

pub returns-in-AddRecord : goal.returns-in-AddRecord
returns-in-AddRecord c =
    subst (λ a. Answers c.args.id a c.args.story.now c.args.seat.now c.args.table.now c.args.grip.now c.add_record.result c.add_record.new.story c.args.seat.now c.args.table.now c.args.grip.now)
    (sym c.in-AddRecord.is) (c.add_record.ensures c.args.seat.now c.args.grip.now)
