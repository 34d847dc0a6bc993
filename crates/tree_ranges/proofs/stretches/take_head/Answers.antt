use Rattle.std.proofs.Common.{◌≡◌, ℕ, ◌<◌, refl, sym, ap, ◌∙◌, subst}
use Rattle.engine_pages.specs.declared.layout.Layout.{Layout}
use Rattle.engine_pages.specs.Layout.{page_at}
use Rattle.engine_pages.specs.Passes.{view}
use Rattle.page_commit.proofs.WalkedLaws.{can_walk}
use Rattle.tx_sets.specs.declared.seen.Seen.{Seen}
use Rattle.tree_walks.specs.Ways.{IsMetSo}
use Rattle.tree_calls.proofs.DueLaws.{find_due}
use Rattle.tree_calls.proofs.OnLaws.{find_on}
use Rattle.tree_ranges.proofs.StopLaws.{stop_can}
use Rattle.tree_ranges.proofs.StretchLaws.{head_room}
use Rattle.tree_ranges.proofs.TakeLaws.{head_full, head_joined, head_on, head_refused, head_walked, not_walked}
use Rattle.tree_ranges.proofs.stretches.take_head.Goals as goal

pub word_at-at-requires-clause-slot : goal.word_at-at-requires-clause-slot
word_at-at-requires-clause-slot c =
    subst (λ (y : Layout). c.args.leaf.slot < y.slots) c.requires.of.layout c.requires.leaf.leaf.on.there

-- ---- there was no room

pub refuse_on-requires-clause-can : goal.refuse_on-requires-clause-can
refuse_on-requires-clause-can c =
    let v = view c.args.pass.now in
    stop_can c.args.sets.now c.args.sets.now.holds c.args.key v v v (not_walked c.args.sets.now v c.requires.live)

pub refuse_on-requires-clause-on : goal.refuse_on-requires-clause-on
refuse_on-requires-clause-on c =
    head_on c.args.sets.now c.args.key c.args.leaf c.word_at-at.result (view c.args.pass.now) c.requires.leaf
    (c.word_at-at.ensures ∙ ap (λ (y : Layout). page_at y.slots c.args.leaf.slot 0) (sym c.requires.of.layout))
    (sym c.lacks_room.ensures ∙ c.if-lacks_room.true)

pub returns-then-lacks_room-clause-takes : goal.returns-then-lacks_room-clause-takes
returns-then-lacks_room-clause-takes c =
    head_full c.args.sets.now c.args.key c.args.leaf c.args.top c.word_at-at.result c.refuse_on.result
    (view c.args.pass.now)
    (view c.refuse_on.new.pass) c.requires.live c.requires.leaf
    (c.word_at-at.ensures ∙ ap (λ (y : Layout). page_at y.slots c.args.leaf.slot 0) (sym c.requires.of.layout))
    (sym c.lacks_room.ensures ∙ c.if-lacks_room.true) c.refuse_on.ensures.gives_up c.refuse_on.ensures.most
    c.refuse_on.ensures.why

-- ---- it is kept

pub keep_head-requires-clause-can : goal.keep_head-requires-clause-can
keep_head-requires-clause-can c = can_walk c.args.sets.now (view c.args.pass.now) c.requires.live

pub keep_header-requires : goal.keep_header-requires
keep_header-requires c =
    head_room c.args.sets.now c.word_at-at.result c.args.leaf.header
    (subst (λ (i : ℕ). IsMetSo c.args.sets.now.headers i c.args.leaf.header)
    (sym (c.word_at-at.ensures ∙ ap (λ (y : Layout). page_at y.slots c.args.leaf.slot 0) (sym c.requires.of.layout)))
    c.requires.leaf.set)
    (sym c.lacks_room.ensures ∙ c.if-lacks_room.false)

pub returns-in-Ok-clause-takes : goal.returns-in-Ok-clause-takes
returns-in-Ok-clause-takes c =
    head_joined c.args.sets.now (record c.args.sets.now { headers = c.keep_header.new.headers }) c.args.key c.args.leaf
    c.args.top c.word_at-at.result (view c.args.pass.now) (view c.keep_head.new.pass) c.requires.live c.requires.leaf
    c.in-Ok.ensures.keeps
    (c.word_at-at.ensures ∙ ap (λ (y : Layout). page_at y.slots c.args.leaf.slot 0) (sym c.requires.of.layout))
    refl refl refl refl c.keep_header.ensures (sym c.lacks_room.ensures ∙ c.if-lacks_room.false) c.requires.top

-- ---- it was in conflict

pub refuse_on-requires-in-Err-clause-can : goal.refuse_on-requires-in-Err-clause-can
refuse_on-requires-in-Err-clause-can c =
    let v = view c.args.pass.now in
    let w = view c.keep_head.new.pass in
    stop_can c.args.sets.now c.args.sets.now.holds c.args.key v w w
    (head_walked c.args.sets.now c.args.key c.args.leaf c.in-Err.why v w c.requires.live c.in-Err.ensures.keeps)

pub refuse_on-requires-in-Err-clause-due : goal.refuse_on-requires-in-Err-clause-due
refuse_on-requires-in-Err-clause-due c =
    let v = view c.args.pass.now in
    let w = view c.keep_head.new.pass in
    find_due c.in-Err.why c.args.sets.now c.args.sets.now.holds c.args.sets.now.holds c.args.key v w
    (head_walked c.args.sets.now c.args.key c.args.leaf c.in-Err.why v w c.requires.live c.in-Err.ensures.keeps)
    c.in-Err.ensures.keeps.cause

pub refuse_on-requires-in-Err-clause-on : goal.refuse_on-requires-in-Err-clause-on
refuse_on-requires-in-Err-clause-on c =
    let v = view c.args.pass.now in
    let w = view c.keep_head.new.pass in
    find_on c.in-Err.why c.args.sets.now c.args.sets.now.holds c.args.key v w
    (head_walked c.args.sets.now c.args.key c.args.leaf c.in-Err.why v w c.requires.live c.in-Err.ensures.keeps)
    c.in-Err.ensures.keeps.cause

pub returns-in-Err-clause-takes : goal.returns-in-Err-clause-takes
returns-in-Err-clause-takes c =
    head_refused c.args.sets.now c.args.key c.args.leaf c.args.top c.in-Err.why c.refuse_on-in-Err.result
    (view c.args.pass.now) (view c.keep_head.new.pass) (view c.refuse_on-in-Err.new.pass) c.requires.live
    c.in-Err.ensures.keeps c.refuse_on-in-Err.ensures.gives_up c.refuse_on-in-Err.ensures.most c.refuse_on-in-Err.ensures.why
