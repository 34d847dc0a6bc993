use Rattle.std.proofs.Common.{◌+◌, inr, sym, subst}
use Rattle.engine_pages.specs.declared.view.RefusalCause.{RefusalCause}
use Rattle.engine_pages.specs.Passes.{view}
use Rattle.foster_tree.specs.Locking.{RefusesWord}
use Rattle.foster_tree.proofs.LockLaws.{place_read, refused_again}
use Rattle.foster_tree.proofs.locking.meet_moved.Goals as goal

pub load_word-word-requires-clause-place : goal.load_word-word-requires-clause-place
load_word-word-requires-clause-place c = inr c.requires.place

pub load_word-again-requires-clause-place : goal.load_word-again-requires-clause-place
load_word-again-requires-clause-place c =
    inr (place_read c.args.key c.args.spot c.args.at c.args.at c.load_word-word.result (view c.args.pass.now)
    (view c.load_word-word.new.pass) c.load_word-word.ensures.loads.is c.requires.place)

pub returns-clause-missed : goal.returns-clause-missed
returns-clause-missed c =
    let v = view c.args.pass.now in
    let u = view c.load_word-word.new.pass in
    let w = view c.load_word-again.new.pass in
    let first = c.load_word-word.ensures.loads in
    subst (λ (r : RefusalCause). RefusesWord c.args.at r v w) (sym c.conflict.ensures)
    (refused_again c.args.spot.slot c.args.at c.load_word-word.result c.load_word-again.result v u w first
    c.load_word-again.ensures.loads (first.dead c.requires.moved.0 c.requires.moved.1 c.requires.moved.2))
