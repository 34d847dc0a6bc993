use Rattle.std.proofs.Common.{refl, sym, subst, ap}
use Rattle.engine_pages.specs.Passes.{view}
use Rattle.foster_tree.specs.Filling.{with_records}
use Rattle.foster_tree.proofs.FillLaws.{fills_none, record_more}
use Rattle.foster_tree.proofs.filling.fill_records.Goals as goal

pub loop-i-init : goal.loop-i-init
loop-i-init c = record {
  of = c.requires.of;
  can = c.requires.can;
  fills = fills_none c.args.slot (λ words. with_records words c.args.entries.now 0) (view c.args.pass.now) (λ words. refl);
}
