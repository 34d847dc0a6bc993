-- The way by one page, and on from it.
use Rattle.std.proofs.Common.{◌∙◌, ◌-◌, ap, sym}
use Rattle.drop_core.specs.Table.{snap_of, snap_walk, entry_home, child_of}
use Rattle.drop_core.proofs.Lookups.{walk-zero, walk-missing, walk-entries, walk-children}
use Rattle.drop_core.proofs.table.Table.+home_within.Goals as goal

pub returns-then-most-eq0 : goal.returns-then-most-eq0
returns-then-most-eq0 t c = walk-zero (snap_of c.args.self.now) c.args.most c.args.number c.args.key c.if-most-eq0.true

pub returns-in_default : goal.returns-in_default
returns-in_default t c = walk-missing (snap_of c.args.self.now) c.args.most c.args.number c.args.key c.if-most-eq0.false (sym c.in_default.ensures)

pub returns-in-Missing : goal.returns-in-Missing
returns-in-Missing t c =
    walk-missing (snap_of c.args.self.now) c.args.most c.args.number c.args.key c.if-most-eq0.false (sym c.in-Some.ensures ∙ c.in-Missing.is)

pub returns-in-Entries : goal.returns-in-Entries
returns-in-Entries t c =
    c.entry_home.ensures ∙ ap (λ l. entry_home c.args.number l c.args.key) c.as_slice.ensures
    ∙ walk-entries (snap_of c.args.self.now) c.args.most c.args.number c.args.key c.in-Entries.field-0 c.in-Entries.entries c.if-most-eq0.false
    (sym c.in-Some.ensures ∙ c.in-Entries.is)

pub returns-in-Children : goal.returns-in-Children
returns-in-Children t c =
    c.home_within.ensures
    ∙ ap (λ n. snap_walk (c.args.most - 1) (snap_of c.args.self.now) n c.args.key) (c.child_of.ensures ∙ ap (λ l. child_of l c.args.key) c.as_slice-in-Children.ensures)
    ∙ walk-children (snap_of c.args.self.now) c.args.most c.args.number c.args.key c.in-Children.field-0 c.in-Children.children c.if-most-eq0.false
    (sym c.in-Some.ensures ∙ c.in-Children.is)
