use Rattle.std.proofs.Common.{ℕ, suc, ◌+◌, ◌-◌, ◌*◌, ◌/◌, ◌≤◌, List, length, sym, ap, ◌∙◌, subst, arith}
use Rattle.snapshot_store.specs.ArrayPages.{array_format, array_found}
use Rattle.snapshot_store.specs.Places.{find}
use Rattle.engine_pages.specs.Passes.{view}
use Rattle.array_pages.proofs.LookLaws.{glanced_then, looks_glanced, pages_glanced}
use Rattle.array_pages.proofs.PageLaws.{middle_record, middle_there}
use Rattle.array_pages.proofs.snapshots.in_middle.Goals as goal

pub in_leaf-requires-clause-can : goal.in_leaf-requires-clause-can
in_leaf-requires-clause-can c =
    looks_glanced (view c.args.pass.now) (view c.word_of-leaf.new.pass) c.word_of-leaf.ensures.glances c.requires.can

pub in_leaf-requires-clause-there : goal.in_leaf-requires-clause-there
in_leaf-requires-clause-there c =
    subst (λ (pages : List (List ℕ)). c.word_of-leaf.result ≤ length pages)
    (sym (pages_glanced (view c.args.pass.now) (view c.word_of-leaf.new.pass) c.word_of-leaf.ensures.glances))
    (middle_there (view c.args.pass.now).pages c.args.number c.args.low c.args.index c.word_of-leaf.result c.requires.to
    c.requires.stands c.word_of-leaf.ensures.word)

pub returns-clause-glances : goal.returns-clause-glances
returns-clause-glances c =
    glanced_then (view c.args.pass.now) (view c.word_of-leaf.new.pass) (view c.in_leaf.new.pass)
    c.word_of-leaf.ensures.glances c.in_leaf.ensures.glances

pub returns-clause-finds : goal.returns-clause-finds
returns-clause-finds c =
    middle_record (view c.args.pass.now).pages c.args.number c.args.low c.args.index c.word_of-leaf.result
    (array_found c.in_leaf.result.0 c.in_leaf.result.1) c.requires.from c.requires.to c.word_of-leaf.ensures.word
    (λ d. c.in_leaf.ensures.finds d
    ∙ ap (λ (pages : List (List ℕ)). find array_format pages (suc d) c.args.index (record {
      number = c.word_of-leaf.result;
      low = c.args.low + (c.args.index - c.args.low) / 32 * 32;
      high = c.args.low + (c.args.index - c.args.low) / 32 * 32 + 31;
    })) (pages_glanced (view c.args.pass.now) (view c.word_of-leaf.new.pass) c.word_of-leaf.ensures.glances))

pub returns-clause-most : goal.returns-clause-most
returns-clause-most c =
    let first = c.word_of-leaf.ensures.most in let next = c.in_leaf.ensures.most in omega (arith, first, next)
