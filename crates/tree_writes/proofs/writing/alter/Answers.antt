use Rattle.std.proofs.Common.{inl, refl, sym, ◌∙◌, ap}
use Rattle.engine_pages.specs.Passes.{view}
use Rattle.page_commit.specs.Altering.{altered}
use Rattle.page_commit.specs.Places.{ground}
use Rattle.page_commit.proofs.TurnLaws.{own_altered, own_ends}
use Rattle.page_commit.proofs.WriteLaws.{none_written, rewritten_all, rewritten_writes, some_written}
use Rattle.tree_writes.proofs.WholePlaces.{whole_again}
use Rattle.tree_writes.proofs.writing.alter.Goals as goal

pub alter_record-requires-clause-unwritten : goal.alter_record-requires-clause-unwritten
alter_record-requires-clause-unwritten c =
    none_written c.args.key c.args.sets.now.writes (sym c.find.ensures ∙ c.in_default.is)

pub set-requires : goal.set-requires
set-requires c = record {
  present = some_written c.args.key c.args.sets.now.writes c.in-Some.own (sym c.find.ensures ∙ c.in-Some.is);
}

pub returns-in_default-after-clause-turns : goal.returns-in_default-after-clause-turns
returns-in_default-after-clause-turns c =
    rw c.ending.ensures (own_ends c.args.by c.args.sets.now (view c.args.pass.now) c.args.key c.in-Some.own c.requires.live
    (sym c.find.ensures ∙ c.in-Some.is)
    (ap (altered c.args.by) (sym c.unwrap_or.ensures) ∙ (sym c.after.ensures ∙ c.in_default-after.is)))

pub returns-clause-turns : goal.returns-clause-turns
returns-clause-turns c =
    own_altered c.args.by c.args.sets.now _ (view c.args.pass.now) c.args.key c.in-Some.own c.in-Some-after.value
    c.requires.live
    (sym c.find.ensures ∙ c.in-Some.is)
    (ap (altered c.args.by) (sym c.unwrap_or.ensures) ∙ (sym c.after.ensures ∙ c.in-Some-after.is)) refl refl refl refl
    (rewritten_writes c.args.key c.in-Some-after.value c.args.sets.now.writes _ c.set.ensures)
    (rewritten_all (ground (view c.args.pass.now)) c.args.key c.in-Some-after.value c.args.sets.now.writes _ c.set.ensures
    c.requires.live.writes)

pub returns-in_default-after-clause-locks : goal.returns-in_default-after-clause-locks
returns-in_default-after-clause-locks c = inl refl

pub returns-clause-locks : goal.returns-clause-locks
returns-clause-locks c = inl refl

pub returns-in_default-after-clause-whole : goal.returns-in_default-after-clause-whole
returns-in_default-after-clause-whole c =
    whole_again c.args.key c.args.sets.now c.args.sets.now (view c.args.pass.now) (view c.args.pass.now)
    (some_written c.args.key c.args.sets.now.writes c.in-Some.own (sym c.find.ensures ∙ c.in-Some.is))

pub returns-clause-whole : goal.returns-clause-whole
returns-clause-whole c =
    whole_again c.args.key c.args.sets.now _ (view c.args.pass.now) (view c.args.pass.now)
    (some_written c.args.key c.args.sets.now.writes c.in-Some.own (sym c.find.ensures ∙ c.in-Some.is))
