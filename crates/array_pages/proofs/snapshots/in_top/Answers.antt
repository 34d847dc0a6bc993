use Rattle.std.proofs.Common.{ℕ, suc, ◌+◌, ◌*◌, ◌/◌, ◌≤◌, List, length, sym, ap, ◌∙◌, subst, arith}
use Rattle.snapshot_store.specs.ArrayPages.{array_format, array_found}
use Rattle.snapshot_store.specs.Places.{find}
use Rattle.engine_pages.specs.Passes.{view}
use Rattle.array_pages.specs.Snapshots.{StandsAbove}
use Rattle.array_pages.proofs.LookLaws.{glanced_then, looks_glanced, pages_glanced}
use Rattle.array_pages.proofs.PageLaws.{top_record, top_stands}
use Rattle.array_pages.proofs.snapshots.in_top.Goals as goal

pub in_middle-requires-clause-can : goal.in_middle-requires-clause-can
in_middle-requires-clause-can c =
    looks_glanced (view c.args.pass.now) (view c.word_of-middle.new.pass) c.word_of-middle.ensures.glances
    c.requires.can

pub in_middle-requires-clause-there : goal.in_middle-requires-clause-there
in_middle-requires-clause-there c =
    subst (λ (pages : List (List ℕ)). c.word_of-middle.result ≤ length pages)
    (sym (pages_glanced (view c.args.pass.now) (view c.word_of-middle.new.pass) c.word_of-middle.ensures.glances))
    (top_stands (view c.args.pass.now).pages c.args.number c.args.index c.word_of-middle.result c.requires.to
    c.requires.stands c.word_of-middle.ensures.word).1

pub in_middle-requires-clause-stands : goal.in_middle-requires-clause-stands
in_middle-requires-clause-stands c =
    subst (λ (pages : List (List ℕ)). StandsAbove pages 1 c.word_of-middle.result (c.args.index / 2048 * 2048))
    (sym (pages_glanced (view c.args.pass.now) (view c.word_of-middle.new.pass) c.word_of-middle.ensures.glances))
    (top_stands (view c.args.pass.now).pages c.args.number c.args.index c.word_of-middle.result c.requires.to
    c.requires.stands c.word_of-middle.ensures.word).0

pub returns-clause-glances : goal.returns-clause-glances
returns-clause-glances c =
    glanced_then (view c.args.pass.now) (view c.word_of-middle.new.pass) (view c.in_middle.new.pass)
    c.word_of-middle.ensures.glances c.in_middle.ensures.glances

pub returns-clause-finds : goal.returns-clause-finds
returns-clause-finds c =
    top_record (view c.args.pass.now).pages c.args.number c.args.index c.word_of-middle.result
    (array_found c.in_middle.result.0 c.in_middle.result.1) c.requires.to c.word_of-middle.ensures.word
    (λ d. c.in_middle.ensures.finds d
    ∙ ap (λ (pages : List (List ℕ)). find array_format pages (suc (suc d)) c.args.index (record {
      number = c.word_of-middle.result;
      low = c.args.index / 2048 * 2048;
      high = c.args.index / 2048 * 2048 + 2047;
    })) (pages_glanced (view c.args.pass.now) (view c.word_of-middle.new.pass) c.word_of-middle.ensures.glances))

pub returns-clause-most : goal.returns-clause-most
returns-clause-most c =
    let first = c.word_of-middle.ensures.most in let next = c.in_middle.ensures.most in omega (arith, first, next)
