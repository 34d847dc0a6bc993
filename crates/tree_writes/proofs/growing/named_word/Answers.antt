use Rattle.std.proofs.Common.{◌∙◌, Bool, Option, Some, cond, sym, ap}
use Rattle.tx_sets.specs.declared.reads.ReadEntry.{ReadEntry}
use Rattle.tx_sets.specs.Entries.{read_in, write_in}
use Rattle.tree_writes.specs.Writing.{place_of}
use Rattle.tree_writes.proofs.growing.named_word.Goals as goal

pub returns-then-contains : goal.returns-then-contains
returns-then-contains c =
    sym (ap (λ (b : Bool). cond b (Some c.args.first) (place_of (read_in c.args.first c.args.sets.now.reads)
    (write_in c.args.first c.args.sets.now.writes))) (sym c.contains.ensures ∙ c.if-contains.true))

pub returns-in-Some : goal.returns-in-Some
returns-in-Some c =
    sym (ap (λ (b : Bool). cond b (Some c.args.first) (place_of (read_in c.args.first c.args.sets.now.reads)
    (write_in c.args.first c.args.sets.now.writes))) (sym c.contains.ensures ∙ c.if-contains.false)
    ∙ ap (λ (o : Option ReadEntry). place_of o (write_in c.args.first c.args.sets.now.writes))
    (sym c.find_in.ensures ∙ c.in-Some.is))

pub returns-in-None : goal.returns-in-None
returns-in-None c =
    c.written_word.ensures
    ∙ sym (ap (λ (b : Bool). cond b (Some c.args.first) (place_of (read_in c.args.first c.args.sets.now.reads)
    (write_in c.args.first c.args.sets.now.writes))) (sym c.contains.ensures ∙ c.if-contains.false)
    ∙ ap (λ (o : Option ReadEntry). place_of o (write_in c.args.first c.args.sets.now.writes))
    (sym c.find_in.ensures ∙ c.in-None.is))
