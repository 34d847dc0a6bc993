use Rattle.std.proofs.Common.{◌≡◌, ℕ, suc, ◌+◌, ◌*◌, ◌<◌, ◌≤◌, ◌++◌, List, get_or, length, take, sym, ap, ◌∙◌, subst}
use Rattle.std.proofs.Common.{arith}
use Rattle.std.proofs.lemmas.List.{length-take, take_all}
use Rattle.wire_form.specs.declared.records.TreeRecord.{TreeRecord}
use Rattle.engine_pages.specs.declared.view.View.{View}
use Rattle.engine_pages.specs.Passes.{view}
use Rattle.array_pages.proofs.LookLaws.{glanced_self, glanced_then, looks_glanced, pages_glanced}
use Rattle.tree_walks.proofs.SnapLaws.{leaf_same}
use Rattle.tree_scans.specs.Rows.{no_record, row_for, rows_in}
use Rattle.tree_scans.proofs.RowsLaws.{rows_few, rows_more, taken_few}
use Rattle.tree_scans.proofs.rows.read_rows.Goals as goal

pub loop-index-init : goal.loop-index-init
loop-index-init c =
    record {
      of = c.requires.of;
      glances = glanced_self (view c.args.pass.now);
      most = omega arith;
      rows = λ x. c.requires.none;
    }

pub read_row-requires-clause-of : goal.read_row-requires-clause-of
read_row-requires-clause-of c =
    c.loop-index.invariant.of

pub read_row-requires-clause-can : goal.read_row-requires-clause-can
read_row-requires-clause-can c =
    let v = view c.args.pass.now in
    let u = view c.loop-index.pass in
    let g = c.loop-index.invariant.glances in
    looks_glanced v u g c.requires.can

pub read_row-requires-clause-there : goal.read_row-requires-clause-there
read_row-requires-clause-there c =
    let v = view c.args.pass.now in
    let u = view c.loop-index.pass in
    let g = c.loop-index.invariant.glances in
    subst (λ (q : List (List ℕ)). c.args.page ≤ length q) (sym (pages_glanced v u g)) c.requires.there

pub read_row-requires-clause-leaf : goal.read_row-requires-clause-leaf
read_row-requires-clause-leaf c =
    let v = view c.args.pass.now in
    let u = view c.loop-index.pass in
    let g = c.loop-index.invariant.glances in (
      c.args.count,
      leaf_same v.pages u.pages c.args.page c.args.count (pages_glanced v u g) c.requires.leaf,
      c.loop-index-test.true,
    )

pub read_row-requires-clause-few : goal.read_row-requires-clause-few
read_row-requires-clause-few c =
    let v = view c.args.pass.now in
    let u = view c.loop-index.pass in
    let g = c.loop-index.invariant.glances in
    let x = c.requires.leaf in
    let few = taken_few c.args.from c.args.last x.records c.loop-index.index in
    let many = x.count in
    let most = (x.is).most in
    let less = c.loop-index-test.true in
    subst (λ (l : List (ℕ × ℕ)). length l < 16) (sym (c.loop-index.invariant.rows x)) (omega (
      arith,
      few,
      many,
      most,
      less,
    ))

pub loop-index-preserved : goal.loop-index-preserved
loop-index-preserved c =
    let v = view c.args.pass.now in
    let u = view c.loop-index.pass in
    let g = c.loop-index.invariant.glances in
    let w = view c.read_row.new.pass in
    let most = c.loop-index.invariant.most in
    let one = c.read_row.ensures.most in
    let less = c.loop-index-test.true in record {
      of = c.read_row.ensures.of;
      glances = glanced_then v u w g c.read_row.ensures.glances;
      most = omega (arith, most, one);
      rows = λ x.
          let count = x.count in
          c.read_row.ensures.row c.args.count (leaf_same v.pages u.pages c.args.page c.args.count (pages_glanced v u
          g) x) less
          ∙ (ap (λ (l : List (ℕ × ℕ)). l ++ row_for c.args.from c.args.last (get_or x.records c.loop-index.index
          no_record))
          (c.loop-index.invariant.rows x)
          ∙ (sym (rows_more c.args.from c.args.last x.records c.loop-index.index (omega (arith, count, less)))
          ∙ ap (λ i. rows_in c.args.from c.args.last (take i x.records))
          (let e : suc c.loop-index.index ≡ c.loop-index.index + 1 = omega arith in e)));
    }

pub returns-clause-of : goal.returns-clause-of
returns-clause-of c =
    c.loop-index.invariant.of

pub returns-clause-glances : goal.returns-clause-glances
returns-clause-glances c =
    c.loop-index.invariant.glances

pub returns-clause-most : goal.returns-clause-most
returns-clause-most c =
    let x = c.requires.leaf in
    let many = x.count in
    let few = (x.is).most in
    let most = c.loop-index.invariant.most in
    let within = c.loop-index.auto.index-end in omega (arith, many, few, most, within)

pub returns-clause-rows : goal.returns-clause-rows
returns-clause-rows c =
    λ x.
    let many = x.count in
    let last = c.loop-index-test.false in
    c.loop-index.invariant.rows x
    ∙ ap (λ (l : List TreeRecord). rows_in c.args.from c.args.last l)
    (take_all c.loop-index.index x.records (let e : length x.records ≤ c.loop-index.index = omega (arith, many, last)
    in e))
