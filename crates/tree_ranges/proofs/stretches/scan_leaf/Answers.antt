use Rattle.std.proofs.Common.{◌≡◌, ◌⊎◌, inl, inr, ℕ, ◌+◌, ◌*◌, ◌≤◌, sym, subst, arith}
use Rattle.engine_pages.specs.Passes.{view}
use Rattle.tree_walks.proofs.HalfLaws.{bounds_of}
use Rattle.tree_ranges.proofs.StretchLaws.{comes_behind, comes_more, free_less, head_stops, taken_free, taken_live}
use Rattle.tree_ranges.proofs.stretches.scan_leaf.Goals as goal

pub scan_records-requires-clause-live : goal.scan_records-requires-clause-live
scan_records-requires-clause-live c =
    taken_live c.args.key c.args.sets.now c.take_head.new.sets (view c.args.pass.now) (view c.take_head.new.pass)
    c.in-Ok.ensures.takes.gone

pub scan_records-requires-clause-taken : goal.scan_records-requires-clause-taken
scan_records-requires-clause-taken c = c.in-Ok.ensures.takes.taken

pub scan_records-requires-clause-top : goal.scan_records-requires-clause-top
scan_records-requires-clause-top c =
    let over = (bounds_of c.args.leaf.span c.args.key c.requires.leaf.leaf.on.over).2 in
    let first = c.requires.last in
    elim c.least_of-top.ensures.is [ inl a ↦ omega (arith, a, over) | inr b ↦ omega (arith, b, first) ]

pub scan_records-requires-clause-free : goal.scan_records-requires-clause-free
scan_records-requires-clause-free c =
    taken_free c.args.key c.args.last c.least_of-top.result c.args.sets.now c.take_head.new.sets (view c.args.pass.now)
    (view c.take_head.new.pass) c.in-Ok.ensures.takes.gone c.requires.free c.least_of-top.ensures.b

pub returns-in-Ok-clause-comes : goal.returns-in-Ok-clause-comes
returns-in-Ok-clause-comes c =
    let v = view c.args.pass.now in
    let u = view c.take_head.new.pass in
    let w = view c.scan_records.new.pass in
    let over = (bounds_of c.args.leaf.span c.args.key c.requires.leaf.leaf.on.over).2 in
    let first = c.requires.last in
    let start : c.args.key.key ≤ c.least_of-top.result =
    elim c.least_of-top.ensures.is [ inl a ↦ omega (arith, a, over) | inr b ↦ omega (arith, b, first) ] in
    comes_more 17 19 c.args.key.storage c.args.key.key c.least_of-top.result c.args.last c.scan_records.result
    c.args.sets.now c.scan_records.new.sets c.args.rows.now c.scan_records.new.rows v w c.least_of-top.ensures.b start
    (comes_behind c.args.key.storage c.args.key.key c.least_of-top.result c.args.sets.now c.take_head.new.sets
    c.scan_records.new.sets c.args.rows.now c.scan_records.new.rows v u w start c.in-Ok.ensures.takes.gone 17 16 19 19 1
    c.scan_records.result c.in-Ok.ensures.takes.quick c.scan_records.ensures.comes (λ d some. omega arith))
    (λ a b less. omega (arith, less))

pub returns-in-Err-clause-comes : goal.returns-in-Err-clause-comes
returns-in-Err-clause-comes c =
    head_stops c.args.key c.args.leaf c.least_of-top.result c.args.last c.in-Err.why c.args.sets.now
    c.take_head.new.sets
    c.args.rows.now (view c.args.pass.now) (view c.take_head.new.pass) c.in-Err.ensures.takes c.requires.last
