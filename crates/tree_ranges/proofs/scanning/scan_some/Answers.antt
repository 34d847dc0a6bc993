use Rattle.std.proofs.Common.{◌≡◌, ℕ, ◌+◌, ◌≤◌, sym, ap, ◌∙◌, subst, arith, List}
use Rattle.engine_pages.specs.Passes.{view}
use Rattle.tx_sets.specs.declared.writes.Write.{Write}
use Rattle.tx_sets.specs.Entries.{value_of}
use Rattle.tree_ranges.specs.Rows.{AreFree}
use Rattle.tree_ranges.proofs.StretchLaws.{comes_more, own_comes}
use Rattle.tree_ranges.proofs.scanning.scan_some.Goals as goal

pub free_to-last-requires-clause-free : goal.free_to-last-requires-clause-free
free_to-last-requires-clause-free c =
    subst (λ (l : List Write). value_of c.args.key l ≡ _) (sym c.as_slice.ensures.value) (sym c.find.ensures
    ∙ c.in_default.is)

pub scan_stretch-requires-clause-free : goal.scan_stretch-requires-clause-free
scan_stretch-requires-clause-free c =
    subst (AreFree c.args.key.storage c.args.key.key c.free_to-last.result) c.as_slice.ensures.value
    c.free_to-last.ensures.free

pub returns-in_default-clause-comes : goal.returns-in_default-clause-comes
returns-in_default-clause-comes c =
    comes_more 0 5683 c.args.key.storage c.args.key.key c.free_to-last.result c.args.high c.scan_stretch.result
    c.args.sets.now c.scan_stretch.new.sets c.args.rows.now c.scan_stretch.new.rows (view c.args.pass.now)
    (view c.scan_stretch.new.pass) c.free_to-last.ensures.within c.free_to-last.ensures.from
    c.scan_stretch.ensures.comes
    (λ a b less. omega (arith, less))

pub returns-clause-comes : goal.returns-clause-comes
returns-clause-comes c =
    own_comes c.args.sets.now c.args.key c.in-Some.own c.args.high c.args.rows.now c.push_value.new.rows
    (view c.args.pass.now) c.requires.live (sym c.find.ensures ∙ c.in-Some.is) c.requires.high c.requires.few
    c.push_value.ensures
