use Rattle.std.proofs.Common.{◌≡◌, ◌+◌, ◌-◌, ◌^◌, true, refl, sym, subst, arith}
use Rattle.std.specs.Prelude.{Ok}
use Rattle.std.proofs.lemmas.Result.{err_from_is_err_and}
use Rattle.homes.specs.declared.places.At.TheVariants.{Root}
use Rattle.engine_pages.specs.declared.layout.Layout.{Layout}
use Rattle.engine_pages.specs.Pages.{is_tree}
use Rattle.engine_pages.specs.Passes.{view}
use Rattle.tree_walks.specs.declared.walk.Reached.{Reached}
use Rattle.tree_walks.specs.Steps.{GoesSo, IsReached, IsTreeRoot}
use Rattle.tree_walks.specs.Ways.{HasCome}
use Rattle.tree_walks.proofs.DeclLaws.{root_apart, root_few, root_keys, root_over, root_within, root_word}
use Rattle.tree_walks.proofs.DescentLaws.{root_down}
use Rattle.tree_walks.proofs.PathLaws.{paths_same}
use Rattle.tree_walks.proofs.RefusalLaws.{goes_refused}
use Rattle.tree_walks.proofs.StepLaws.{led_none, went_more, went_self}
use Rattle.tree_walks.proofs.descent.walk_down.Goals as goal

pub root_of-root-requires : goal.root_of-root-requires
root_of-root-requires c =
    subst (λ (l : Layout). is_tree l.decls c.args.key.storage ≡ true) c.requires.of.layout c.requires.tree

pub overflow_cast-at : goal.overflow_cast-at
overflow_cast-at c =
    let v = view c.args.pass.now in
    let decls = v.layout.decls in
    let root = c.root_of-root.result in
    let t : IsTreeRoot decls c.args.key.storage root =
    subst (λ (l : Layout). IsTreeRoot l.decls c.args.key.storage root) (sym c.requires.of.layout) c.root_of-root.ensures in
    let few = root_few decls c.args.key.storage root c.requires.can.declared t in omega (arith, few)

pub overflow_add-at : goal.overflow_add-at
overflow_add-at c =
    let v = view c.args.pass.now in
    let decls = v.layout.decls in
    let root = c.root_of-root.result in
    let t : IsTreeRoot decls c.args.key.storage root =
    subst (λ (l : Layout). IsTreeRoot l.decls c.args.key.storage root) (sym c.requires.of.layout) c.root_of-root.ensures in
    let few = root_few decls c.args.key.storage root c.requires.can.declared t in omega (arith, few)

pub reach-requires-clause-place : goal.reach-requires-clause-place
reach-requires-clause-place c =
    let v = view c.args.pass.now in
    let decls = v.layout.decls in
    let root = c.root_of-root.result in
    let t : IsTreeRoot decls c.args.key.storage root =
    subst (λ (l : Layout). IsTreeRoot l.decls c.args.key.storage root) (sym c.requires.of.layout) c.root_of-root.ensures in
    (root_within decls c.args.key.storage root t, sym (root_keys decls c.args.key.storage root t), refl)

pub reach-requires-clause-word : goal.reach-requires-clause-word
reach-requires-clause-word c =
    let v = view c.args.pass.now in
    let decls = v.layout.decls in
    let root = c.root_of-root.result in
    let t : IsTreeRoot decls c.args.key.storage root =
    subst (λ (l : Layout). IsTreeRoot l.decls c.args.key.storage root) (sym c.requires.of.layout) c.root_of-root.ensures in
    let few = root_few decls c.args.key.storage root c.requires.can.declared t in omega (arith, few)

pub reach-requires-clause-known : goal.reach-requires-clause-known
reach-requires-clause-known c =
    let v = view c.args.pass.now in
    let decls = v.layout.decls in
    let root = c.root_of-root.result in
    let t : IsTreeRoot decls c.args.key.storage root =
    subst (λ (l : Layout). IsTreeRoot l.decls c.args.key.storage root) (sym c.requires.of.layout) c.root_of-root.ensures in
    root_word v c.args.key.storage root c.requires.tree t

pub reach-requires-clause-inside : goal.reach-requires-clause-inside
reach-requires-clause-inside c = tt

pub reach-requires-clause-apart : goal.reach-requires-clause-apart
reach-requires-clause-apart c =
    let v = view c.args.pass.now in
    let decls = v.layout.decls in
    let root = c.root_of-root.result in
    let t : IsTreeRoot decls c.args.key.storage root =
    subst (λ (l : Layout). IsTreeRoot l.decls c.args.key.storage root) (sym c.requires.of.layout) c.root_of-root.ensures in
    root_apart v root (root_few decls c.args.key.storage root c.requires.can.declared t)

pub go_down_from-requires-clause-can : goal.go_down_from-requires-clause-can
go_down_from-requires-clause-can c =
    let v = view c.args.pass.now in
    let decls = v.layout.decls in
    let root = c.root_of-root.result in
    let t : IsTreeRoot decls c.args.key.storage root =
    subst (λ (l : Layout). IsTreeRoot l.decls c.args.key.storage root) (sym c.requires.of.layout) c.root_of-root.ensures in
    let u = view c.reach.new.pass in
    (subst (λ (r : Reached). GoesSo 3 c.args.key c.args.pointers.now c.args.headers.now c.reach.new.holds
    (IsReached c.args.key c.args.pointers.now (Root root) (record { storage = c.args.key.storage; low = 0; high = 2 ^ 64 - 1 }) (10 + root)) (Ok r) v u) c.in-Slot.is
    (c.in_ok-reached.ensures.goes c.args.key c.args.headers.now (root_over c.args.key
    (let small = c.ranges.wanted in let same = c.requires.same in omega (arith, small, same))))).went.can

pub go_down_from-requires-clause-on : goal.go_down_from-requires-clause-on
go_down_from-requires-clause-on c =
    let v = view c.args.pass.now in
    let decls = v.layout.decls in
    let root = c.root_of-root.result in
    let t : IsTreeRoot decls c.args.key.storage root =
    subst (λ (l : Layout). IsTreeRoot l.decls c.args.key.storage root) (sym c.requires.of.layout) c.root_of-root.ensures in
    let u = view c.reach.new.pass in
    (subst (λ (r : Reached). GoesSo 3 c.args.key c.args.pointers.now c.args.headers.now c.reach.new.holds
    (IsReached c.args.key c.args.pointers.now (Root root) (record { storage = c.args.key.storage; low = 0; high = 2 ^ 64 - 1 }) (10 + root)) (Ok r) v u) c.in-Slot.is
    (c.in_ok-reached.ensures.goes c.args.key c.args.headers.now (root_over c.args.key
    (let small = c.ranges.wanted in let same = c.requires.same in omega (arith, small, same))))).came

pub returns-in-Slot-clause-goes : goal.returns-in-Slot-clause-goes
returns-in-Slot-clause-goes c =
    let v = view c.args.pass.now in
    let decls = v.layout.decls in
    let root = c.root_of-root.result in
    let t : IsTreeRoot decls c.args.key.storage root =
    subst (λ (l : Layout). IsTreeRoot l.decls c.args.key.storage root) (sym c.requires.of.layout) c.root_of-root.ensures in
    let u = view c.reach.new.pass in
    let h = (subst (λ (r : Reached). GoesSo 3 c.args.key c.args.pointers.now c.args.headers.now c.reach.new.holds
    (IsReached c.args.key c.args.pointers.now (Root root) (record { storage = c.args.key.storage; low = 0; high = 2 ^ 64 - 1 }) (10 + root)) (Ok r) v u) c.in-Slot.is
    (c.in_ok-reached.ensures.goes c.args.key c.args.headers.now (root_over c.args.key
    (let small = c.ranges.wanted in let same = c.requires.same in omega (arith, small, same))))) in
    root_down c.args.key c.args.pointers.now c.args.headers.now c.reach.new.holds c.go_down_from.new.holds
    (record { slot = c.in-Slot.slot; span = (record { storage = c.args.key.storage; low = 0; high = 2 ^ 64 - 1 }) }) v u (view c.go_down_from.new.pass) c.go_down_from.result h.went h.led h.keeps h.paths
    c.go_down_from.ensures.goes

pub returns-in-Bare-clause-goes : goal.returns-in-Bare-clause-goes
returns-in-Bare-clause-goes c =
    let v = view c.args.pass.now in
    let decls = v.layout.decls in
    let root = c.root_of-root.result in
    let t : IsTreeRoot decls c.args.key.storage root =
    subst (λ (l : Layout). IsTreeRoot l.decls c.args.key.storage root) (sym c.requires.of.layout) c.root_of-root.ensures in
    let u = view c.reach.new.pass in
    let h = (subst (λ (r : Reached). GoesSo 3 c.args.key c.args.pointers.now c.args.headers.now c.reach.new.holds
    (IsReached c.args.key c.args.pointers.now (Root root) (record { storage = c.args.key.storage; low = 0; high = 2 ^ 64 - 1 }) (10 + root)) (Ok r) v u) c.in-Bare.is
    (c.in_ok-reached.ensures.goes c.args.key c.args.headers.now (root_over c.args.key
    (let small = c.ranges.wanted in let same = c.requires.same in omega (arith, small, same))))) in record {
      went = went_more 3 4483 c.reach.new.holds v u (omega arith) h.went;
      led = h.led;
      keeps = h.keeps;
      paths = h.paths;
      came = h.came;
      cause = tt;
    }

pub returns-in_err-reached-clause-goes : goal.returns-in_err-reached-clause-goes
returns-in_err-reached-clause-goes c =
    let v = view c.args.pass.now in
    let decls = v.layout.decls in
    let root = c.root_of-root.result in
    let t : IsTreeRoot decls c.args.key.storage root =
    subst (λ (l : Layout). IsTreeRoot l.decls c.args.key.storage root) (sym c.requires.of.layout) c.root_of-root.ensures in
    let u = view c.reach.new.pass in
    let p = err_from_is_err_and c.from_residual.result c.from_residual.ensures.1 in
    rw (p.1, p.2)
    (goes_refused 0 3 4483 c.args.key c.args.pointers.now c.args.headers.now c.args.holds.now c.reach.new.holds
    (IsReached c.args.key c.args.pointers.now (Root root) (record { storage = c.args.key.storage; low = 0; high = 2 ^ 64 - 1 }) (10 + root))
    (HasCome c.args.key c.args.pointers.now c.args.headers.now) c.in_err-reached.field-0.0 v v u (omega arith)
    (went_self c.args.holds.now v c.requires.can) (led_none c.args.key v v refl) (paths_same c.args.key v v refl)
    (c.in_err-reached.ensures.goes c.args.key c.args.headers.now (root_over c.args.key
    (let small = c.ranges.wanted in let same = c.requires.same in omega (arith, small, same)))))
