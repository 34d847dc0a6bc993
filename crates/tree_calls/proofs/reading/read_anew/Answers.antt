use Rattle.std.proofs.Common.{refl, sym, subst, arith, ◌∙◌, ℕ, Option}
use Rattle.engine_pages.specs.declared.view.RefusalCause.{RefusalCause}
use Rattle.engine_pages.specs.declared.view.RefusalCause.TheVariants as refusals
use Rattle.engine_pages.specs.declared.view.SetName.TheVariants.{Reads}
use Rattle.engine_pages.specs.Passes.{view}
use Rattle.page_commit.specs.Refusing.{HasRefused}
use Rattle.page_commit.proofs.RefuseLaws.{can_refuse, walked_refused}
use Rattle.page_commit.proofs.WalkedLaws.{can_walk}
use Rattle.tree_calls.specs.Causes.{RefusesTreeRead}
use Rattle.tree_calls.specs.Keeping.{HasValue}
use Rattle.tree_calls.proofs.AnswerLaws.{found_answer}
use Rattle.tree_calls.proofs.CauseLaws.{find_cause, find_told, wide_cause}
use Rattle.tree_calls.proofs.DueLaws.{find_due, TreeWalked}
use Rattle.tree_calls.proofs.OnLaws.{entry_on, find_on}
use Rattle.tree_calls.proofs.SetLaws.{room_found}
use Rattle.tree_calls.proofs.TreeWalkLaws.{tree_walked}
use Rattle.tree_calls.proofs.ValueLaws.{holds_after, value_found}
use Rattle.tree_calls.proofs.reading.read_anew.Goals as goal

pub find-requires-clause-can : goal.find-requires-clause-can
find-requires-clause-can c = can_walk c.args.sets.now (view c.args.pass.now) c.requires.live

-- ---- the key was found

pub keep-requires-clause-room : goal.keep-requires-clause-room
keep-requires-clause-room c =
    room_found c.in-Ok.found (record c.args.sets.now { holds = c.find.new.holds }) c.args.key (view c.args.pass.now)
    (view c.find.new.pass) c.in-Ok.ensures.finds.found
    (sym c.lacks_room.ensures ∙ c.if-lacks_room.false)

pub returns-else-lacks_room-clause-value : goal.returns-else-lacks_room-clause-value
returns-else-lacks_room-clause-value c =
    let mid = record c.args.sets.now { holds = c.find.new.holds } in
    subst
    (λ (o : Option ℕ). HasValue c.args.key o c.args.sets.now c.keep.new.sets (view c.args.pass.now) (view c.find.new.pass))
    (sym c.keep.ensures.value)
    (value_found c.in-Ok.found c.args.sets.now mid c.keep.new.sets (view c.args.pass.now) (view c.find.new.pass) c.args.key
    refl refl refl refl c.requires.live c.find.ensures.finds.walked c.find.ensures.finds.can c.in-Ok.ensures.finds.only
    c.find.ensures.finds.paths
    c.in-Ok.ensures.finds.led c.in-Ok.ensures.finds.keeps c.in-Ok.ensures.finds.found c.requires.unread
    (sym c.lacks_room.ensures ∙ c.if-lacks_room.false) c.keep.ensures.keeps)

pub returns-else-lacks_room-clause-answer : goal.returns-else-lacks_room-clause-answer
returns-else-lacks_room-clause-answer c =
    found_answer c.in-Ok.found c.keep.result c.args.sets.now c.args.key (view c.args.pass.now) (view c.find.new.pass)
    c.in-Ok.ensures.finds.found c.requires.unread c.requires.unwritten c.keep.ensures.value

-- ---- there was no room for its entry

pub refuse_on-requires-clause-can : goal.refuse_on-requires-clause-can
refuse_on-requires-clause-can c =
    let v = view c.args.pass.now in
    let w = view c.find.new.pass in
    can_refuse c.args.sets.now c.find.new.holds v w c.requires.live (tree_walked v w c.find.ensures.finds.walked)
    (holds_after c.args.sets.now c.find.new.holds v w c.requires.live c.find.ensures.finds.walked
    c.find.ensures.finds.can)

pub refuse_on-requires-clause-on : goal.refuse_on-requires-clause-on
refuse_on-requires-clause-on c =
    let v = view c.args.pass.now in
    let w = view c.find.new.pass in
    let h : TreeWalked c.args.sets.now c.find.new.holds v w = record {
      live = c.requires.live;
      walk = c.find.ensures.finds.walked;
      can = c.find.ensures.finds.can;
    } in
    entry_on c.in-Ok.found c.args.sets.now c.find.new.holds c.args.key v w h c.requires.unread
    c.in-Ok.ensures.finds.found
    (sym c.lacks_room.ensures ∙ c.if-lacks_room.true)

pub returns-then-lacks_room-clause-cause : goal.returns-then-lacks_room-clause-cause
returns-then-lacks_room-clause-cause c =
    let v = view c.args.pass.now in
    let w = view c.find.new.pass in
    let mid = record c.args.sets.now { holds = c.find.new.holds } in
    let h : TreeWalked c.args.sets.now c.find.new.holds v w = record {
      live = c.requires.live;
      walk = c.find.ensures.finds.walked;
      can = c.find.ensures.finds.can;
    } in
    subst (λ (r : RefusalCause). RefusesTreeRead c.args.sets.now mid c.args.key r v (view c.refuse_on.new.pass))
    (sym c.refuse_on.ensures.why)
    (wide_cause c.in-Ok.found c.args.sets.now mid c.find.new.holds c.args.key v w (view c.refuse_on.new.pass) h
    c.requires.unread c.requires.unwritten c.in-Ok.ensures.finds.found
    (sym c.lacks_room.ensures ∙ c.if-lacks_room.true) c.refuse_on.ensures.gives_up)

pub returns-then-lacks_room-clause-refused : goal.returns-then-lacks_room-clause-refused
returns-then-lacks_room-clause-refused c =
    let v = view c.args.pass.now in
    let w = view c.find.new.pass in
    subst (λ (r : RefusalCause). HasRefused r v (view c.refuse_on.new.pass)) (sym c.refuse_on.ensures.why)
    (walked_refused (refusals.Wide Reads) c.args.sets.now c.find.new.holds v w (view c.refuse_on.new.pass) c.requires.live
    (tree_walked v w c.find.ensures.finds.walked)
    (holds_after c.args.sets.now c.find.new.holds v w c.requires.live c.find.ensures.finds.walked
    c.find.ensures.finds.can)
    c.find.ensures.finds.can.agree c.find.ensures.finds.can.trees (λ met told. told) c.refuse_on.ensures.gives_up)

-- ---- the walk was refused

pub refuse_on-requires-in-Err-clause-can : goal.refuse_on-requires-in-Err-clause-can
refuse_on-requires-in-Err-clause-can c =
    let v = view c.args.pass.now in
    let w = view c.find.new.pass in
    can_refuse c.args.sets.now c.find.new.holds v w c.requires.live (tree_walked v w c.find.ensures.finds.walked)
    (holds_after c.args.sets.now c.find.new.holds v w c.requires.live c.find.ensures.finds.walked
    c.find.ensures.finds.can)

pub refuse_on-requires-in-Err-clause-due : goal.refuse_on-requires-in-Err-clause-due
refuse_on-requires-in-Err-clause-due c =
    let v = view c.args.pass.now in
    let w = view c.find.new.pass in
    let h : TreeWalked c.args.sets.now c.find.new.holds v w = record {
      live = c.requires.live;
      walk = c.find.ensures.finds.walked;
      can = c.find.ensures.finds.can;
    } in
    find_due c.in-Err.why c.args.sets.now c.find.new.holds c.find.new.holds c.args.key v w h
    c.in-Err.ensures.finds.cause

pub refuse_on-requires-in-Err-clause-on : goal.refuse_on-requires-in-Err-clause-on
refuse_on-requires-in-Err-clause-on c =
    let v = view c.args.pass.now in
    let w = view c.find.new.pass in
    let h : TreeWalked c.args.sets.now c.find.new.holds v w = record {
      live = c.requires.live;
      walk = c.find.ensures.finds.walked;
      can = c.find.ensures.finds.can;
    } in
    find_on c.in-Err.why c.args.sets.now c.find.new.holds c.args.key v w h c.in-Err.ensures.finds.cause

pub returns-in-Err-clause-cause : goal.returns-in-Err-clause-cause
returns-in-Err-clause-cause c =
    let v = view c.args.pass.now in
    let w = view c.find.new.pass in
    let mid = record c.args.sets.now { holds = c.find.new.holds } in
    let h : TreeWalked c.args.sets.now c.find.new.holds v w = record {
      live = c.requires.live;
      walk = c.find.ensures.finds.walked;
      can = c.find.ensures.finds.can;
    } in
    subst (λ (r : RefusalCause). RefusesTreeRead c.args.sets.now mid c.args.key r v (view c.refuse_on-in-Err.new.pass))
    (sym c.refuse_on-in-Err.ensures.why)
    (find_cause c.in-Err.why c.args.sets.now mid c.find.new.holds c.args.key v w (view c.refuse_on-in-Err.new.pass) h
    c.requires.unread c.requires.unwritten c.in-Err.ensures.finds.cause c.refuse_on-in-Err.ensures.gives_up)

pub returns-in-Err-clause-refused : goal.returns-in-Err-clause-refused
returns-in-Err-clause-refused c =
    let v = view c.args.pass.now in
    let w = view c.find.new.pass in
    let h : TreeWalked c.args.sets.now c.find.new.holds v w = record {
      live = c.requires.live;
      walk = c.find.ensures.finds.walked;
      can = c.find.ensures.finds.can;
    } in
    subst (λ (r : RefusalCause). HasRefused r v (view c.refuse_on-in-Err.new.pass)) (sym c.refuse_on-in-Err.ensures.why)
    (walked_refused c.in-Err.why c.args.sets.now c.find.new.holds v w (view c.refuse_on-in-Err.new.pass) c.requires.live
    (tree_walked v w c.find.ensures.finds.walked)
    (holds_after c.args.sets.now c.find.new.holds v w c.requires.live c.find.ensures.finds.walked
    c.find.ensures.finds.can)
    c.find.ensures.finds.can.agree c.find.ensures.finds.can.trees
    (λ met told. find_told c.in-Err.why c.args.sets.now c.find.new.holds c.find.new.holds c.args.key v w met h
    c.in-Err.ensures.finds.cause told)
    c.refuse_on-in-Err.ensures.gives_up)

-- ---- steps

pub returns-then-lacks_room-clause-most : goal.returns-then-lacks_room-clause-most
returns-then-lacks_room-clause-most c =
    let one = c.find.ensures.finds.most in let two = c.refuse_on.ensures.most in omega (arith, one, two)

pub returns-else-lacks_room-clause-most : goal.returns-else-lacks_room-clause-most
returns-else-lacks_room-clause-most c = let one = c.find.ensures.finds.most in omega (arith, one)

pub returns-in-Err-clause-most : goal.returns-in-Err-clause-most
returns-in-Err-clause-most c =
    let one = c.find.ensures.finds.most in let two = c.refuse_on-in-Err.ensures.most in omega (arith, one, two)
