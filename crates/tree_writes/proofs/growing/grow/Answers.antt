use Rattle.std.proofs.Common.{◌≡◌, [], refl, sym, ap, ◌∙◌, subst, arith}
use Rattle.engine_pages.specs.declared.layout.Layout.{Layout}
use Rattle.engine_pages.specs.declared.view.RefusalCause.{RefusalCause}
use Rattle.engine_pages.specs.declared.view.RefusalCause.TheVariants as refusals
use Rattle.engine_pages.specs.declared.view.SetName.TheVariants.{Reads}
use Rattle.engine_pages.specs.Layout.{page_at}
use Rattle.engine_pages.specs.Passes.{view}
use Rattle.page_commit.specs.Steps.{HasGivenUp}
use Rattle.tree_writes.proofs.Falling.{falls_can, falls_so, headed_steps, locked_due, locked_falls, locked_on, room_falls}
use Rattle.tree_writes.proofs.Falling.{Falls}
use Rattle.tree_writes.proofs.GrowCans.{leaf_page, live_active}
use Rattle.tree_writes.proofs.growing.grow.Goals as goal

-- ---- the header is locked

pub load_header-seen-requires-clause-pass : goal.load_header-seen-requires-clause-pass
load_header-seen-requires-clause-pass c = live_active c.args.sets.now (view c.args.pass.now) c.requires.live

pub load_header-seen-requires-clause-slot : goal.load_header-seen-requires-clause-slot
load_header-seen-requires-clause-slot c = c.requires.lacking.0.leaf.on.there

pub load_header-seen-requires-clause-word : goal.load_header-seen-requires-clause-word
load_header-seen-requires-clause-word c =
    c.word_at-at.ensures ∙ ap (λ (l : Layout). page_at l.slots c.args.leaf.slot 0) (sym c.requires.of.layout)

pub load_header-seen-requires-clause-page : goal.load_header-seen-requires-clause-page
load_header-seen-requires-clause-page c =
    leaf_page c.args.sets.now c.args.key c.args.leaf (view c.args.pass.now) c.requires.lacking.0

pub refuse_on-requires-clause-can : goal.refuse_on-requires-clause-can
refuse_on-requires-clause-can c =
    let v = view c.args.pass.now in
    let w = view c.load_header-seen.new.pass in
    let placed : c.word_at-at.result ≡ page_at v.layout.slots c.args.leaf.slot 0 =
    c.word_at-at.ensures ∙ ap (λ (l : Layout). page_at l.slots c.args.leaf.slot 0) (sym c.requires.of.layout) in
    falls_can c.args.sets.now c.args.sets.now.holds c.args.key
    (refusals.Conflict c.word_at-at.result c.args.leaf.header c.load_header-seen.result) v w
    (locked_falls c.args.sets.now c.args.key c.args.leaf v w c.word_at-at.result c.load_header-seen.result c.requires.live
    c.requires.lacking.0 placed c.if-locked.true c.load_header-seen.ensures.loads)

pub refuse_on-requires-clause-due : goal.refuse_on-requires-clause-due
refuse_on-requires-clause-due c =
    let v = view c.args.pass.now in
    let w = view c.load_header-seen.new.pass in
    let placed : c.word_at-at.result ≡ page_at v.layout.slots c.args.leaf.slot 0 =
    c.word_at-at.ensures ∙ ap (λ (l : Layout). page_at l.slots c.args.leaf.slot 0) (sym c.requires.of.layout) in
    locked_due c.conflict-why.result c.args.sets.now c.args.key c.args.leaf v w c.word_at-at.result c.load_header-seen.result
    c.conflict-why.ensures
    (locked_falls c.args.sets.now c.args.key c.args.leaf v w c.word_at-at.result c.load_header-seen.result c.requires.live
    c.requires.lacking.0 placed c.if-locked.true c.load_header-seen.ensures.loads)

pub refuse_on-requires-clause-on : goal.refuse_on-requires-clause-on
refuse_on-requires-clause-on c =
    let v = view c.args.pass.now in
    let w = view c.load_header-seen.new.pass in
    let placed : c.word_at-at.result ≡ page_at v.layout.slots c.args.leaf.slot 0 =
    c.word_at-at.ensures ∙ ap (λ (l : Layout). page_at l.slots c.args.leaf.slot 0) (sym c.requires.of.layout) in
    locked_on c.conflict-why.result c.args.sets.now c.args.key c.args.leaf v w c.word_at-at.result c.load_header-seen.result
    c.conflict-why.ensures
    (locked_falls c.args.sets.now c.args.key c.args.leaf v w c.word_at-at.result c.load_header-seen.result c.requires.live
    c.requires.lacking.0 placed c.if-locked.true c.load_header-seen.ensures.loads)

pub returns-then-locked-clause-grows : goal.returns-then-locked-clause-grows
returns-then-locked-clause-grows c =
    let v = view c.args.pass.now in
    let w = view c.load_header-seen.new.pass in
    let placed : c.word_at-at.result ≡ page_at v.layout.slots c.args.leaf.slot 0 =
    c.word_at-at.ensures ∙ ap (λ (l : Layout). page_at l.slots c.args.leaf.slot 0) (sym c.requires.of.layout) in
    let f : Falls c.args.sets.now c.args.sets.now.holds c.args.key
    (refusals.Conflict c.word_at-at.result c.args.leaf.header c.load_header-seen.result) v w =
    locked_falls c.args.sets.now c.args.key c.args.leaf v w c.word_at-at.result c.load_header-seen.result c.requires.live
    c.requires.lacking.0 placed c.if-locked.true c.load_header-seen.ensures.loads in
    let one = headed_steps c.args.sets.now c.args.key c.args.leaf v w c.word_at-at.result c.load_header-seen.result
    c.requires.live c.load_header-seen.ensures.loads in
    let two = c.refuse_on.ensures.most in
    falls_so c.args.sets.now c.args.sets.now c.args.sets.now.holds c.args.key
    (refusals.Conflict c.word_at-at.result c.args.leaf.header c.load_header-seen.result) c.refuse_on.result v w
    (view c.refuse_on.new.pass) (c.refuse_on.ensures.why ∙ c.conflict-why.ensures) f
    (subst (λ (r : RefusalCause). HasGivenUp [] r w (view c.refuse_on.new.pass))
    c.conflict-why.ensures c.refuse_on.ensures.gives_up) refl c.requires.unwritten c.requires.room (omega (arith, one, two))

-- ---- there is no room for the record

pub refuse_on-requires-then-lacks_room-clause-can : goal.refuse_on-requires-then-lacks_room-clause-can
refuse_on-requires-then-lacks_room-clause-can c =
    let v = view c.args.pass.now in
    let placed : c.word_at-at.result ≡ page_at v.layout.slots c.args.leaf.slot 0 =
    c.word_at-at.ensures ∙ ap (λ (l : Layout). page_at l.slots c.args.leaf.slot 0) (sym c.requires.of.layout) in
    let lacks = c.lacks_room.ensures.lacks c.if-lacks_room.true in
    falls_can c.args.sets.now c.args.sets.now.holds c.args.key (refusals.Wide Reads) v v
    (room_falls c.args.sets.now c.args.key c.args.leaf v c.word_at-at.result c.requires.live c.requires.lacking.0
    c.requires.lacking.1 placed lacks.0 lacks.1)

pub refuse_on-requires-then-lacks_room-clause-on : goal.refuse_on-requires-then-lacks_room-clause-on
refuse_on-requires-then-lacks_room-clause-on c =
    let v = view c.args.pass.now in
    let placed : c.word_at-at.result ≡ page_at v.layout.slots c.args.leaf.slot 0 =
    c.word_at-at.ensures ∙ ap (λ (l : Layout). page_at l.slots c.args.leaf.slot 0) (sym c.requires.of.layout) in
    let lacks = c.lacks_room.ensures.lacks c.if-lacks_room.true in
    let f : Falls c.args.sets.now c.args.sets.now.holds c.args.key (refusals.Wide Reads) v v =
    room_falls c.args.sets.now c.args.key c.args.leaf v c.word_at-at.result c.requires.live c.requires.lacking.0
    c.requires.lacking.1 placed lacks.0 lacks.1 in
    f.stopped.on

pub returns-then-lacks_room-clause-grows : goal.returns-then-lacks_room-clause-grows
returns-then-lacks_room-clause-grows c =
    let v = view c.args.pass.now in
    let placed : c.word_at-at.result ≡ page_at v.layout.slots c.args.leaf.slot 0 =
    c.word_at-at.ensures ∙ ap (λ (l : Layout). page_at l.slots c.args.leaf.slot 0) (sym c.requires.of.layout) in
    let lacks = c.lacks_room.ensures.lacks c.if-lacks_room.true in
    let two = c.refuse_on-then-lacks_room.ensures.most in
    falls_so c.args.sets.now c.args.sets.now c.args.sets.now.holds c.args.key (refusals.Wide Reads) c.refuse_on-then-lacks_room.result v v
    (view c.refuse_on-then-lacks_room.new.pass) c.refuse_on-then-lacks_room.ensures.why
    (room_falls c.args.sets.now c.args.key c.args.leaf v c.word_at-at.result c.requires.live c.requires.lacking.0
    c.requires.lacking.1 placed lacks.0 lacks.1)
    c.refuse_on-then-lacks_room.ensures.gives_up refl c.requires.unwritten c.requires.room (omega (arith, two))

-- ---- it grows

pub split_for-requires-clause-unlocked : goal.split_for-requires-clause-unlocked
split_for-requires-clause-unlocked c = c.if-locked.false

pub split_for-requires-clause-head : goal.split_for-requires-clause-head
split_for-requires-clause-head c =
    c.word_at-at.ensures ∙ ap (λ (l : Layout). page_at l.slots c.args.leaf.slot 0) (sym c.requires.of.layout)

pub add_to-requires-clause-head : goal.add_to-requires-clause-head
add_to-requires-clause-head c =
    c.word_at-at.ensures ∙ ap (λ (l : Layout). page_at l.slots c.args.leaf.slot 0) (sym c.requires.of.layout)

pub add_to-requires-clause-kept : goal.add_to-requires-clause-kept
add_to-requires-clause-kept c = c.lacks_room.ensures.room c.if-lacks_room.false
