use Rattle.std.proofs.Common.{◌≡◌, ℕ, ◌<◌, ◌≤◌, Bool, false, length, sym, ap, ◌∙◌, subst, arith}
use Rattle.std.specs.Prelude.{◌==◌}
use Rattle.std.proofs.lemmas.Bool.Decides.{nat_tests}
use Rattle.engine_pages.specs.declared.layout.Layout.{Layout}
use Rattle.engine_pages.specs.declared.view.RefusalCause.{RefusalCause}
use Rattle.engine_pages.specs.Layout.{page_at}
use Rattle.engine_pages.specs.Passes.{view}
use Rattle.foster_tree.specs.Splitting.{HasNotSplit}
use Rattle.foster_tree.proofs.AddLaws.{was_changed, was_locked}
use Rattle.foster_tree.proofs.SplitLaws.{can_lock, can_open_header, holds_half, leaf_changed, leaf_left, leaf_split}
use Rattle.foster_tree.proofs.splitting.split.Goals as goal

-- there is room for one slot more
room_left : (n : ℕ) (full : Bool) → full ≡ (n == 128) → n ≤ 128 → full ≡ false → n < 128
room_left n full is most left = grind (arith, nat_tests)

pub returns-then-seen-word-clause-missed : goal.returns-then-seen-word-clause-missed
returns-then-seen-word-clause-missed c =
    let v = view c.args.pass.now in
    let u = view c.lock_header-seen.new.pass in
    let placed : c.word_at-at.result ≡ page_at v.layout.slots c.args.slot 0 =
    c.word_at-at.ensures ∙ ap (λ (l : Layout). page_at l.slots c.args.slot 0) (sym c.requires.of.layout) in
    subst (λ (r : RefusalCause). HasNotSplit c.args.holds.now c.args.slot c.args.word r v u) (sym c.conflict.ensures)
    (leaf_changed c.args.holds.now c.args.slot c.word_at-at.result c.args.word c.lock_header-seen.result c.args.span
    c.args.key v u c.requires.can placed
    (was_changed c.args.slot c.word_at-at.result c.args.word c.lock_header-seen.result c.args.span v u
    c.lock_header-seen.ensures.locks c.if-seen-word.true)
    c.if-seen-word.true)

pub split_locked-requires-clause-can : goal.split_locked-requires-clause-can
split_locked-requires-clause-can c =
    let v = view c.args.pass.now in
    let u = view c.lock_header-seen.new.pass in
    let placed : c.word_at-at.result ≡ page_at v.layout.slots c.args.slot 0 =
    c.word_at-at.ensures ∙ ap (λ (l : Layout). page_at l.slots c.args.slot 0) (sym c.requires.of.layout) in
    can_lock c.args.holds.now c.args.slot c.word_at-at.result c.args.word c.lock_header-seen.result c.args.span c.args.key
    v u c.requires.can c.if-seen-word.false
    (was_locked c.args.slot c.word_at-at.result c.args.word c.lock_header-seen.result c.args.span v u
    c.lock_header-seen.ensures.locks c.if-seen-word.false)
    placed (room_left (length c.args.holds.now) c.is_full.result c.is_full.ensures.value c.is_full.ensures.bound
    c.if-is_full.false)

pub open_header-requires-clause-can : goal.open_header-requires-clause-can
open_header-requires-clause-can c =
    let v = view c.args.pass.now in
    let u = view c.lock_header-seen.new.pass in
    let placed : c.word_at-at.result ≡ page_at v.layout.slots c.args.slot 0 =
    c.word_at-at.ensures ∙ ap (λ (l : Layout). page_at l.slots c.args.slot 0) (sym c.requires.of.layout) in
    can_open_header c.args.holds.now c.args.slot c.word_at-at.result c.args.word c.lock_header-seen.result c.args.span
    c.args.key v u c.requires.can c.if-seen-word.false
    (was_locked c.args.slot c.word_at-at.result c.args.word c.lock_header-seen.result c.args.span v u
    c.lock_header-seen.ensures.locks c.if-seen-word.false)
    placed c.in-Err.why (view c.split_locked.new.pass) c.in-Err.ensures.missed

pub returns-in-Ok-clause-holds : goal.returns-in-Ok-clause-holds
returns-in-Ok-clause-holds c =
    let v = view c.args.pass.now in
    let u = view c.lock_header-seen.new.pass in
    let placed : c.word_at-at.result ≡ page_at v.layout.slots c.args.slot 0 =
    c.word_at-at.ensures ∙ ap (λ (l : Layout). page_at l.slots c.args.slot 0) (sym c.requires.of.layout) in
    holds_half c.args.holds.now c.args.slot c.word_at-at.result c.args.word c.lock_header-seen.result c.args.span
    c.args.key v u c.requires.can c.if-seen-word.false
    (was_locked c.args.slot c.word_at-at.result c.args.word c.lock_header-seen.result c.args.span v u
    c.lock_header-seen.ensures.locks c.if-seen-word.false)
    placed c.in-Ok.place c.split_locked.new.holds (view c.split_locked.new.pass) c.in-Ok.ensures.split

pub returns-in-Ok-clause-split : goal.returns-in-Ok-clause-split
returns-in-Ok-clause-split c =
    let v = view c.args.pass.now in
    let u = view c.lock_header-seen.new.pass in
    let placed : c.word_at-at.result ≡ page_at v.layout.slots c.args.slot 0 =
    c.word_at-at.ensures ∙ ap (λ (l : Layout). page_at l.slots c.args.slot 0) (sym c.requires.of.layout) in
    leaf_split c.args.holds.now c.args.slot c.word_at-at.result c.args.word c.lock_header-seen.result c.args.span
    c.args.key v u c.requires.can c.if-seen-word.false
    (was_locked c.args.slot c.word_at-at.result c.args.word c.lock_header-seen.result c.args.span v u
    c.lock_header-seen.ensures.locks c.if-seen-word.false)
    placed c.in-Ok.place c.split_locked.new.holds (view c.split_locked.new.pass) c.in-Ok.ensures.split

pub returns-in-Err-clause-missed : goal.returns-in-Err-clause-missed
returns-in-Err-clause-missed c =
    let v = view c.args.pass.now in
    let u = view c.lock_header-seen.new.pass in
    let placed : c.word_at-at.result ≡ page_at v.layout.slots c.args.slot 0 =
    c.word_at-at.ensures ∙ ap (λ (l : Layout). page_at l.slots c.args.slot 0) (sym c.requires.of.layout) in
    leaf_left c.args.holds.now c.args.slot c.word_at-at.result c.args.word c.lock_header-seen.result c.args.span
    c.args.key v u c.requires.can c.if-seen-word.false
    (was_locked c.args.slot c.word_at-at.result c.args.word c.lock_header-seen.result c.args.span v u
    c.lock_header-seen.ensures.locks c.if-seen-word.false)
    placed c.in-Err.why (view c.split_locked.new.pass) c.in-Err.ensures.missed (view c.open_header.new.pass)
    c.open_header.ensures.opens
