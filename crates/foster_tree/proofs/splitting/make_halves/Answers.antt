use Rattle.std.proofs.Common.{List, refl, sym, drop, take, subst}
use Rattle.drop_core.specs.Event.{lower_span, upper_span}
use Rattle.engine_pages.specs.Passes.{view}
use Rattle.foster_tree.specs.declared.entries.Entry.{Entry}
use Rattle.foster_tree.specs.Filling.{AreLeafEntries, HasMadeLeaf}
use Rattle.foster_tree.specs.Splitting.{separator_of}
use Rattle.foster_tree.proofs.HalfLaws.{made_both, may_retire, mid_is, some_separator}
use Rattle.foster_tree.proofs.splitting.make_halves.Goals as goal

pub overflow_sub-lower : goal.overflow_sub-lower
overflow_sub-lower c = some_separator c.args.span (separator_of c.args.sorted.now) c.requires.halves.parts

pub make_leaf-requires-2-clause-entries : goal.make_leaf-requires-2-clause-entries
make_leaf-requires-2-clause-entries c =
    subst (λ (l : List Entry). AreLeafEntries (upper_span c.args.span (separator_of c.args.sorted.now)) l)
    (sym (mid_is c.args.sorted.now c.requires.halves.many)) c.requires.halves.upper

pub retire-requires-clause-may : goal.retire-requires-clause-may
retire-requires-clause-may c =
    may_retire c.in_ok-minor.minor (lower_span c.args.span (separator_of c.args.sorted.now)) (take 8 c.args.sorted.now)
    c.in-Err.why (view c.args.pass.now) (view c.make_leaf.new.pass) (view c.make_leaf-2.new.pass)
    c.in_ok-minor.ensures.made c.in-Err.ensures.missed

pub returns-in-Ok-clause-made : goal.returns-in-Ok-clause-made
returns-in-Ok-clause-made c = (
  made_both c.in_ok-minor.minor c.in-Ok.major c.args.span c.args.sorted.now (view c.args.pass.now)
      (view c.make_leaf.new.pass) (view c.make_leaf-2.new.pass) c.requires.nothing c.requires.halves.lower.few
      c.requires.halves.upper.few c.in_ok-minor.ensures.made
      (subst (λ (l : List Entry). HasMadeLeaf c.in-Ok.major (upper_span c.args.span (separator_of c.args.sorted.now)) l
      (view c.make_leaf.new.pass) (view c.make_leaf-2.new.pass)) (mid_is c.args.sorted.now c.requires.halves.many)
      c.in-Ok.ensures.made),
  refl,
)
