use Rattle.std.proofs.Common.{inl, refl, sym, ap, ◌∙◌, Option, Some, None, ℕ}
use Rattle.engine_pages.specs.Passes.{view}
use Rattle.page_commit.specs.Places.{ground}
use Rattle.page_commit.proofs.WriteLaws.{none_written, some_written}
use Rattle.tree_writes.proofs.RemoveLaws.{own_gone, own_removed}
use Rattle.tree_writes.proofs.ValueWrites.{rewritten_put, rewritten_tree}
use Rattle.tree_writes.proofs.WholePlaces.{whole_again}
use Rattle.tree_writes.proofs.removing.remove.Goals as goal

pub remove_record-requires-clause-unwritten : goal.remove_record-requires-clause-unwritten
remove_record-requires-clause-unwritten c =
    none_written c.args.key c.args.sets.now.writes (sym c.find.ensures ∙ c.in_default.is)

pub returns-in_default-own-clause-done : goal.returns-in_default-own-clause-done
returns-in_default-own-clause-done c =
    own_gone c.args.sets.now (view c.args.pass.now) c.args.key c.requires.live
    (sym c.find.ensures ∙ (c.in-Some.is ∙ ap (λ (o : Option ℕ). Some o) c.in_default-own.is))

pub set-requires : goal.set-requires
set-requires c = record {
  present = some_written c.args.key c.args.sets.now.writes c.in-Some.own (sym c.find.ensures ∙ c.in-Some.is);
}

pub returns-clause-done : goal.returns-clause-done
returns-clause-done c =
    own_removed c.args.sets.now _ (view c.args.pass.now) c.args.key c.in-Some-own._value c.requires.live
    (sym c.find.ensures ∙ (c.in-Some.is ∙ ap (λ (o : Option ℕ). Some o) c.in-Some-own.is))
    record { reads = refl; pointers = refl; holds = refl; headers = refl }
    (rewritten_tree (ground (view c.args.pass.now)) c.args.key None c.args.sets.now.writes _ c.set.ensures c.requires.tree
    c.requires.live.writes)
    (rewritten_put c.args.key None c.args.sets.now.writes _ c.set.ensures)

pub returns-in_default-own-clause-locks : goal.returns-in_default-own-clause-locks
returns-in_default-own-clause-locks c = inl refl

pub returns-clause-locks : goal.returns-clause-locks
returns-clause-locks c = inl refl

pub returns-in_default-own-clause-whole : goal.returns-in_default-own-clause-whole
returns-in_default-own-clause-whole c =
    whole_again c.args.key c.args.sets.now c.args.sets.now (view c.args.pass.now) (view c.args.pass.now)
    (some_written c.args.key c.args.sets.now.writes None
    (sym c.find.ensures ∙ (c.in-Some.is ∙ ap (λ (o : Option ℕ). Some o) c.in_default-own.is)))

pub returns-clause-whole : goal.returns-clause-whole
returns-clause-whole c =
    whole_again c.args.key c.args.sets.now _ (view c.args.pass.now) (view c.args.pass.now)
    (some_written c.args.key c.args.sets.now.writes c.in-Some.own (sym c.find.ensures ∙ c.in-Some.is))
