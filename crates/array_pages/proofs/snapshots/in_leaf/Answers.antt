use Rattle.std.proofs.Common.{ℕ, ◌+◌, ◌-◌, ◌*◌, ◌≤◌, List, get_or, length, sym, ap, ◌∙◌, subst, arith}
use Rattle.snapshot_store.specs.Places.{page}
use Rattle.engine_pages.specs.Passes.{view}
use Rattle.array_pages.proofs.LookLaws.{glanced_then, looks_glanced, pages_glanced}
use Rattle.array_pages.proofs.PageLaws.{leaf_record}
use Rattle.array_pages.proofs.snapshots.in_leaf.Goals as goal

pub word_of-value-requires-clause-can : goal.word_of-value-requires-clause-can
word_of-value-requires-clause-can c =
    looks_glanced (view c.args.pass.now) (view c.word_of-found.new.pass) c.word_of-found.ensures.glances c.requires.can

pub word_of-value-requires-clause-there : goal.word_of-value-requires-clause-there
word_of-value-requires-clause-there c =
    subst (λ (pages : List (List ℕ)). c.args.number ≤ length pages)
    (sym (pages_glanced (view c.args.pass.now) (view c.word_of-found.new.pass) c.word_of-found.ensures.glances))
    c.requires.there

pub returns-clause-glances : goal.returns-clause-glances
returns-clause-glances c =
    glanced_then (view c.args.pass.now) (view c.word_of-found.new.pass) (view c.word_of-value.new.pass)
    c.word_of-found.ensures.glances c.word_of-value.ensures.glances

pub returns-clause-finds : goal.returns-clause-finds
returns-clause-finds c =
    leaf_record (view c.args.pass.now).pages c.args.number c.args.low c.args.index c.word_of-found.result
    c.word_of-value.result c.word_of-found.ensures.word
    (c.word_of-value.ensures.word
    ∙ ap (λ (pages : List (List ℕ)). get_or (page pages c.args.number) (2 * (c.args.index - c.args.low) + 1) 0)
    (pages_glanced (view c.args.pass.now) (view c.word_of-found.new.pass) c.word_of-found.ensures.glances))

pub returns-clause-most : goal.returns-clause-most
returns-clause-most c =
    let first = c.word_of-found.ensures.most in let next = c.word_of-value.ensures.most in omega (arith, first, next)
