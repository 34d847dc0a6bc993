use Rattle.std.proofs.Common.{ℕ, get_or, sym, ap}
use Rattle.snapshot_store.specs.Places.{page as page_words}
use Rattle.engine_pages.specs.Passes.{view}
use Rattle.page_drops.proofs.Looks.{glanced_self, loaded_glanced}
use Rattle.page_drops.proofs.Notes.{keeper_active}
use Rattle.page_drops.proofs.records.word_of.Goals as goal

pub returns-then-page-eq0-clause-glances : goal.returns-then-page-eq0-clause-glances
returns-then-page-eq0-clause-glances c = glanced_self (view c.args.pass.now)

pub returns-then-page-eq0-clause-word : goal.returns-then-page-eq0-clause-word
returns-then-page-eq0-clause-word c =
    ap (λ (n : ℕ). get_or (page_words (view c.args.pass.now).pages n) c.args.index 0) (sym c.if-page-eq0.true)

pub load_resident-requires-clause-pass : goal.load_resident-requires-clause-pass
load_resident-requires-clause-pass c = keeper_active (view c.args.pass.now).role c.requires.keeper

pub returns-clause-glances : goal.returns-clause-glances
returns-clause-glances c =
    loaded_glanced c.args.page c.args.index c.load_resident.result (view c.args.pass.now) (view c.load_resident.new.pass)
    c.load_resident.ensures.loads

pub returns-clause-word : goal.returns-clause-word
returns-clause-word c = c.load_resident.ensures.loads.1
