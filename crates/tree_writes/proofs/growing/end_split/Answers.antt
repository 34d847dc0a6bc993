use Rattle.std.proofs.Common.{◌∙◌, refl, sym, ap, arith}
use Rattle.engine_pages.specs.declared.layout.Layout.{Layout}
use Rattle.engine_pages.specs.Layout.{page_at}
use Rattle.engine_pages.specs.Passes.{view}
use Rattle.tree_writes.proofs.Falling.{falls_can, falls_so, Falls}
use Rattle.tree_writes.proofs.GrownSo.{split_grows}
use Rattle.tree_writes.proofs.MovedFalls.{moved_falls, moved_on, moved_steps}
use Rattle.tree_writes.proofs.NamedWords.{leaf_word_now, page_unnamed, word_before}
use Rattle.tree_writes.proofs.SplitHere.{old_full, old_moved, split_more}
use Rattle.tree_writes.proofs.growing.end_split.Goals as goal

-- ---- the sets name no word of the leaf

pub returns-in_default-clause-grows : goal.returns-in_default-clause-grows
returns-in_default-clause-grows c old v s none room is =
    split_grows old c.args.sets.now c.args.key c.args.leaf c.args.at c.args.head v (view c.args.pass.now) s is
    (page_unnamed c.args.head c.args.sets.now (sym c.named_word.ensures ∙ c.in_default.is))

-- ---- they name one

pub moved_word-why-requires-clause-can : goal.moved_word-why-requires-clause-can
moved_word-why-requires-clause-can c =
    let s = c.requires.split.2 in (
      s.split.keys,
      old_full c.requires.split.0 c.args.sets.now c.requires.split.1 (view c.args.pass.now) c.args.key c.args.leaf c.args.at
          s.live s.on s.split s.now,
    )

pub moved_word-why-requires-clause-moved : goal.moved_word-why-requires-clause-moved
moved_word-why-requires-clause-moved c =
    let s = c.requires.split.2 in
    old_moved c.requires.split.0 c.args.sets.now c.requires.split.1 (view c.args.pass.now) c.args.key c.args.leaf c.args.at
    s.live s.on s.split s.now

pub moved_word-why-requires-clause-head : goal.moved_word-why-requires-clause-head
moved_word-why-requires-clause-head c =
    let s = c.requires.split.2 in
    let more = split_more c.requires.split.0 c.args.sets.now c.requires.split.1 (view c.args.pass.now) c.args.key
    c.args.leaf c.args.at s.live s.on s.split s.now in
    c.requires.split.5 ∙ ap (λ (l : Layout). page_at l.slots c.args.leaf.slot 0) (sym more.layout)

pub moved_word-why-requires-clause-word : goal.moved_word-why-requires-clause-word
moved_word-why-requires-clause-word c =
    leaf_word_now c.requires.split.0 c.args.sets.now c.args.key c.args.leaf c.args.at c.args.head c.in-Some.word
    c.requires.split.1 (view c.args.pass.now) c.requires.split.2 c.requires.split.5
    (sym c.named_word.ensures ∙ c.in-Some.is)

pub refuse_on-requires-clause-can : goal.refuse_on-requires-clause-can
refuse_on-requires-clause-can c =
    falls_can c.requires.split.0 c.args.sets.now.holds c.args.key c.moved_word-why.result c.requires.split.1
    (view c.moved_word-why.new.pass)
    (moved_falls c.moved_word-why.result c.requires.split.0 c.args.sets.now c.args.key c.args.leaf c.args.at
    c.in-Some.word c.requires.split.1 (view c.args.pass.now) (view c.moved_word-why.new.pass) c.requires.split.2
    (word_before c.requires.split.0 c.args.sets.now c.args.key c.args.leaf c.args.at c.args.head c.in-Some.word
    c.requires.split.1 (view c.args.pass.now) c.requires.split.2 c.requires.split.5
    (sym c.named_word.ensures ∙ c.in-Some.is)) c.moved_word-why.ensures.told)

pub refuse_on-requires-clause-due : goal.refuse_on-requires-clause-due
refuse_on-requires-clause-due c =
    let f : Falls c.requires.split.0 c.args.sets.now.holds c.args.key c.moved_word-why.result c.requires.split.1
    (view c.moved_word-why.new.pass) =
    moved_falls c.moved_word-why.result c.requires.split.0 c.args.sets.now c.args.key c.args.leaf c.args.at
    c.in-Some.word c.requires.split.1 (view c.args.pass.now) (view c.moved_word-why.new.pass) c.requires.split.2
    (word_before c.requires.split.0 c.args.sets.now c.args.key c.args.leaf c.args.at c.args.head c.in-Some.word
    c.requires.split.1 (view c.args.pass.now) c.requires.split.2 c.requires.split.5
    (sym c.named_word.ensures ∙ c.in-Some.is)) c.moved_word-why.ensures.told in
    f.stopped.due

pub refuse_on-requires-clause-on : goal.refuse_on-requires-clause-on
refuse_on-requires-clause-on c =
    moved_on c.moved_word-why.result c.requires.split.0 c.args.sets.now c.args.key c.args.leaf c.args.at c.in-Some.word
    c.requires.split.1 (view c.args.pass.now) (view c.moved_word-why.new.pass) c.requires.split.2
    (word_before c.requires.split.0 c.args.sets.now c.args.key c.args.leaf c.args.at c.args.head c.in-Some.word
    c.requires.split.1 (view c.args.pass.now) c.requires.split.2 c.requires.split.5
    (sym c.named_word.ensures ∙ c.in-Some.is)) c.moved_word-why.ensures.told

pub returns-clause-grows : goal.returns-clause-grows
returns-clause-grows c old v s none room is =
    let w = view c.args.pass.now in
    let y = view c.moved_word-why.new.pass in
    let one = moved_steps c.moved_word-why.result old c.args.sets.now c.args.key c.args.leaf c.args.at c.in-Some.word v w y s
    c.moved_word-why.ensures.told in
    let two = c.refuse_on.ensures.most in
    falls_so old c.args.sets.now c.args.sets.now.holds c.args.key c.moved_word-why.result c.refuse_on.result v y
    (view c.refuse_on.new.pass) c.refuse_on.ensures.why
    (moved_falls c.moved_word-why.result old c.args.sets.now c.args.key c.args.leaf c.args.at c.in-Some.word v w y s
    (word_before old c.args.sets.now c.args.key c.args.leaf c.args.at c.args.head c.in-Some.word v w s is
    (sym c.named_word.ensures ∙ c.in-Some.is)) c.moved_word-why.ensures.told)
    c.refuse_on.ensures.gives_up refl none room (omega (arith, one, two))
