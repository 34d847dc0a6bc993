use Rattle.std.proofs.Common.{◌≡◌, ℕ, ◌+◌, ◌*◌, ◌<◌, ◌≤◌, ◌++◌, ◌∷◌, [], List, append-nil, get_or, length, sym, ap}
use Rattle.std.proofs.Common.{◌∙◌, subst, arith}
use Rattle.wire_form.specs.declared.records.TreeRecord.{TreeRecord}
use Rattle.engine_pages.specs.declared.view.View.{View}
use Rattle.engine_pages.specs.Passes.{view}
use Rattle.snapshot_store.specs.Places.{page as page_words}
use Rattle.array_pages.specs.Snapshots.{CanLook}
use Rattle.array_pages.proofs.LookLaws.{glanced_is, glanced_then, looks_glanced, pages_glanced}
use Rattle.tree_walks.proofs.LoadLaws.{glanced_active}
use Rattle.tree_walks.proofs.SnapLaws.{record_word}
use Rattle.tree_scans.specs.Rows.{no_record, row_for}
use Rattle.tree_scans.proofs.RowsLaws.{row_above, row_below, row_within}
use Rattle.tree_scans.proofs.rows.read_row.Goals as goal

pub overflow_mul-place : goal.overflow_mul-place
overflow_mul-place c =
    let x = c.requires.leaf.1 in
    let many = x.count in
    let most = (x.is).most in
    let less = c.requires.leaf.2 in omega (arith, many, most, less)

pub overflow_add-place : goal.overflow_add-place
overflow_add-place c =
    let x = c.requires.leaf.1 in
    let many = x.count in
    let most = (x.is).most in
    let less = c.requires.leaf.2 in omega (arith, many, most, less)

pub load_resident-key-requires-clause-index : goal.load_resident-key-requires-clause-index
load_resident-key-requires-clause-index c =
    let x = c.requires.leaf.1 in
    let many = x.count in
    let most = (x.is).most in
    let less = c.requires.leaf.2 in omega (arith, many, most, less)

pub load_resident-value-requires-clause-index : goal.load_resident-value-requires-clause-index
load_resident-value-requires-clause-index c =
    let x = c.requires.leaf.1 in
    let many = x.count in
    let most = (x.is).most in
    let less = c.requires.leaf.2 in omega (arith, many, most, less)

pub load_resident-key-requires-clause-pass : goal.load_resident-key-requires-clause-pass
load_resident-key-requires-clause-pass c =
    c.requires.can.active

pub load_resident-key-requires-clause-known : goal.load_resident-key-requires-clause-known
load_resident-key-requires-clause-known c =
    c.requires.there

pub load_resident-key-requires-clause-room : goal.load_resident-key-requires-clause-room
load_resident-key-requires-clause-room c =
    let there = c.requires.there in
    let room = c.requires.can.room in omega (arith, there, room)

pub load_resident-value-requires-clause-pass : goal.load_resident-value-requires-clause-pass
load_resident-value-requires-clause-pass c =
    let v = view c.args.pass.now in
    let u = view c.load_resident-key.new.pass in
    let loads = c.load_resident-key.ensures.loads in
    let g = glanced_is _ c.load_resident-key.result v u loads.0 in
    glanced_active v u g c.requires.can.active

pub load_resident-value-requires-clause-known : goal.load_resident-value-requires-clause-known
load_resident-value-requires-clause-known c =
    let v = view c.args.pass.now in
    let u = view c.load_resident-key.new.pass in
    let loads = c.load_resident-key.ensures.loads in
    let g = glanced_is _ c.load_resident-key.result v u loads.0 in
    subst (λ (q : List (List ℕ)). c.args.page ≤ length q) (sym (pages_glanced v u g)) c.requires.there

pub load_resident-value-requires-clause-room : goal.load_resident-value-requires-clause-room
load_resident-value-requires-clause-room c =
    let v = view c.args.pass.now in
    let u = view c.load_resident-key.new.pass in
    let loads = c.load_resident-key.ensures.loads in
    let g = glanced_is _ c.load_resident-key.result v u loads.0 in
    let can : CanLook u = looks_glanced v u g c.requires.can in
    let room = can.room in
    let there : c.args.page ≤ length u.pages =
    subst (λ (q : List (List ℕ)). c.args.page ≤ length q) (sym (pages_glanced v u g)) c.requires.there in omega
    (arith, there, room)

pub returns-then-key-from-clause-glances : goal.returns-then-key-from-clause-glances
returns-then-key-from-clause-glances c =
    let v = view c.args.pass.now in
    let u = view c.load_resident-key.new.pass in
    let loads = c.load_resident-key.ensures.loads in
    let g = glanced_is _ c.load_resident-key.result v u loads.0 in
    g

pub returns-then-key-from-clause-most : goal.returns-then-key-from-clause-most
returns-then-key-from-clause-most c =
    let v = view c.args.pass.now in
    let u = view c.load_resident-key.new.pass in
    let loads = c.load_resident-key.ensures.loads in
    let g = glanced_is _ c.load_resident-key.result v u loads.0 in
    let one = ap (λ (z : View). z.steps) loads.0 in omega (arith, one)

pub returns-then-key-from-clause-row : goal.returns-then-key-from-clause-row
returns-then-key-from-clause-row c =
    let v = view c.args.pass.now in
    let u = view c.load_resident-key.new.pass in
    let loads = c.load_resident-key.ensures.loads in
    let g = glanced_is _ c.load_resident-key.result v u loads.0 in
    λ many x less.
    let key : c.load_resident-key.result ≡ (get_or x.records c.args.index no_record).key =
    loads.1
    ∙ (ap (λ i. get_or (page_words v.pages c.args.page) i 0)
    (let a : 16 + 3 * c.args.index ≡ 16 + (3 * c.args.index + 0) = omega arith in a)
    ∙ record_word v.pages c.args.page many c.args.index 0 x less (omega arith)) in
    let test = c.if-key-from.true in
    sym (ap (λ (l : List (ℕ × ℕ)). c.args.rows.now ++ l)
    (row_below c.args.from c.args.last (get_or x.records c.args.index no_record) (omega (arith, key, test)))
    ∙ append-nil c.args.rows.now)

pub returns-then-key-last-clause-glances : goal.returns-then-key-last-clause-glances
returns-then-key-last-clause-glances c =
    let v = view c.args.pass.now in
    let u = view c.load_resident-key.new.pass in
    let loads = c.load_resident-key.ensures.loads in
    let g = glanced_is _ c.load_resident-key.result v u loads.0 in
    g

pub returns-then-key-last-clause-most : goal.returns-then-key-last-clause-most
returns-then-key-last-clause-most c =
    let v = view c.args.pass.now in
    let u = view c.load_resident-key.new.pass in
    let loads = c.load_resident-key.ensures.loads in
    let g = glanced_is _ c.load_resident-key.result v u loads.0 in
    let one = ap (λ (z : View). z.steps) loads.0 in omega (arith, one)

pub returns-then-key-last-clause-row : goal.returns-then-key-last-clause-row
returns-then-key-last-clause-row c =
    let v = view c.args.pass.now in
    let u = view c.load_resident-key.new.pass in
    let loads = c.load_resident-key.ensures.loads in
    let g = glanced_is _ c.load_resident-key.result v u loads.0 in
    λ many x less.
    let key : c.load_resident-key.result ≡ (get_or x.records c.args.index no_record).key =
    loads.1
    ∙ (ap (λ i. get_or (page_words v.pages c.args.page) i 0)
    (let a : 16 + 3 * c.args.index ≡ 16 + (3 * c.args.index + 0) = omega arith in a)
    ∙ record_word v.pages c.args.page many c.args.index 0 x less (omega arith)) in
    let test = c.if-key-last.true in
    sym (ap (λ (l : List (ℕ × ℕ)). c.args.rows.now ++ l)
    (row_above c.args.from c.args.last (get_or x.records c.args.index no_record) (omega (arith, key, test)))
    ∙ append-nil c.args.rows.now)

pub returns-clause-glances : goal.returns-clause-glances
returns-clause-glances c =
    let v = view c.args.pass.now in
    let u = view c.load_resident-key.new.pass in
    let loads = c.load_resident-key.ensures.loads in
    let g = glanced_is _ c.load_resident-key.result v u loads.0 in
    let w = view c.load_resident-value.new.pass in
    let again = c.load_resident-value.ensures.loads in
    let h = glanced_then v u w g (glanced_is _ c.load_resident-value.result u w again.0) in
    h

pub returns-clause-most : goal.returns-clause-most
returns-clause-most c =
    let v = view c.args.pass.now in
    let u = view c.load_resident-key.new.pass in
    let loads = c.load_resident-key.ensures.loads in
    let g = glanced_is _ c.load_resident-key.result v u loads.0 in
    let w = view c.load_resident-value.new.pass in
    let again = c.load_resident-value.ensures.loads in
    let h = glanced_then v u w g (glanced_is _ c.load_resident-value.result u w again.0) in
    let one = ap (λ (z : View). z.steps) loads.0 in
    let two = ap (λ (z : View). z.steps) again.0 in omega (arith, one, two)

pub returns-clause-row : goal.returns-clause-row
returns-clause-row c =
    let v = view c.args.pass.now in
    let u = view c.load_resident-key.new.pass in
    let loads = c.load_resident-key.ensures.loads in
    let g = glanced_is _ c.load_resident-key.result v u loads.0 in
    let w = view c.load_resident-value.new.pass in
    let again = c.load_resident-value.ensures.loads in
    let h = glanced_then v u w g (glanced_is _ c.load_resident-value.result u w again.0) in
    λ many x less.
    let key : c.load_resident-key.result ≡ (get_or x.records c.args.index no_record).key =
    loads.1
    ∙ (ap (λ i. get_or (page_words v.pages c.args.page) i 0)
    (let a : 16 + 3 * c.args.index ≡ 16 + (3 * c.args.index + 0) = omega arith in a)
    ∙ record_word v.pages c.args.page many c.args.index 0 x less (omega arith)) in
    let value : c.load_resident-value.result ≡ (get_or x.records c.args.index no_record).value =
    again.1
    ∙ (ap (λ (q : List (List ℕ)). get_or (page_words q c.args.page) (16 + 3 * c.args.index + 2) 0) (pages_glanced v u g)
    ∙ (ap (λ i. get_or (page_words v.pages c.args.page) i 0)
    (let a : 16 + 3 * c.args.index + 2 ≡ 16 + (3 * c.args.index + 2) = omega arith in a)
    ∙ record_word v.pages c.args.page many c.args.index 2 x less (omega arith))) in
    let low = c.if-key-from.false in
    let high = c.if-key-last.false in
    c.push.ensures
    ∙ ap (λ (l : List (ℕ × ℕ)). c.args.rows.now ++ l)
    (ap (λ (n : ℕ). (n, c.load_resident-value.result) ∷ []) key
    ∙ (ap (λ (n : ℕ). ((get_or x.records c.args.index no_record).key, n) ∷ []) value
    ∙ sym (row_within c.args.from c.args.last (get_or x.records c.args.index no_record) (omega (arith, key, low))
    (omega (arith, key, high)))))
