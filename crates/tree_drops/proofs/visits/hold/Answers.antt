use Rattle.std.proofs.Common.{ℕ, ◌+◌, ◌-◌, ◌*◌, ◌/◌, ◌^◌, ◌∷◌, ap, ◌∙◌, arith, sym, subst}
use Rattle.engine_pages.specs.declared.view.View.{View}
use Rattle.engine_pages.specs.declared.view.KeptWhy.TheVariants.{Locked}
use Rattle.engine_pages.specs.Passes.{view}
use Rattle.engine_pages.specs.Steps.{seen_at}
use Rattle.page_drops.specs.declared.visits.Held.{Held}
use Rattle.page_drops.specs.Calls.{HasIn}
use Rattle.page_drops.proofs.Dues.{looked_from}
use Rattle.tree_drops.proofs.Dues.{pointer_foreign}
use Rattle.page_drops.proofs.Holds.{keeps_shut, none_looked, seen_last}
use Rattle.tree_drops.proofs.HoldInners.{inners_renewed, keeps_left, keeps_same}
use Rattle.tree_drops.proofs.TreeHolds.{again_other, can_renew_so, fresh_slot, holds_renewed, holds_so, keeps_missed, keeps_other, look_first}
use Rattle.tree_drops.proofs.TreeHolds.{missed_so, pointer_there_still, still_fresh}
use Rattle.tree_drops.proofs.visits.hold.Goals.{then-page-eq0-via-then-page-eq0, then-page-eq0-via-else-page-eq0+then-from-word}
use Rattle.lists.specs.Fronts.{front_length}
use Rattle.tree_drops.proofs.visits.hold.Goals as goal

pub follow-seen-requires-clause-place : goal.follow-seen-requires-clause-place
follow-seen-requires-clause-place c = c.requires.visit.place

pub keep-locked-requires-clause-last : goal.keep-locked-requires-clause-last
keep-locked-requires-clause-last c =
    let v = view c.args.pass.now in
    seen_last c.args.target.at c.follow-seen.result Locked (seen_at v.reads c.args.target.at) v.grip.holds v.ways v
    (view c.follow-seen.new.pass)
    (look_first c.args.target.epoch c.args.target.place c.args.target.span c.args.target.at c.args.target.page c.follow-seen.result v
    (view c.follow-seen.new.pass) c.requires.visit c.follow-seen.ensures.follows)

pub returns-then-seen-ge-SHUT-clause-keeps : goal.returns-then-seen-ge-SHUT-clause-keeps
returns-then-seen-ge-SHUT-clause-keeps c =
    let v = view c.args.pass.now in
    let high = c.if-seen-ge-SHUT.true in
    keeps_shut c.args.target.at c.follow-seen.result c.keep-locked.result (seen_at v.reads c.args.target.at) v
    (view c.follow-seen.new.pass) (view c.keep-locked.new.pass)
    (look_first c.args.target.epoch c.args.target.place c.args.target.span c.args.target.at c.args.target.page c.follow-seen.result v
    (view c.follow-seen.new.pass) c.requires.visit c.follow-seen.ensures.follows)
    c.keep-locked.ensures.is c.keep-locked.ensures.notes (omega (arith, high))

pub returns-then-seen-lt-SLOT-clause-holds : goal.returns-then-seen-lt-SLOT-clause-holds
returns-then-seen-lt-SLOT-clause-holds c =
    let v = view c.args.pass.now in
    let low = c.if-seen-lt-SLOT.true in
    none_looked c.args.target.at c.follow-seen.result (seen_at v.reads c.args.target.at) v (view c.follow-seen.new.pass)
    (look_first c.args.target.epoch c.args.target.place c.args.target.span c.args.target.at c.args.target.page c.follow-seen.result v
    (view c.follow-seen.new.pass) c.requires.visit c.follow-seen.ensures.follows) (omega (arith, low))

pub enter-requires-clause-unheld : goal.enter-requires-clause-unheld
enter-requires-clause-unheld c =
    still_fresh c.args.target.epoch c.args.target.place c.args.target.span c.args.target.at c.args.target.page c.follow-seen.result (view c.args.pass.now)
    (view c.follow-seen.new.pass) c.requires.visit c.follow-seen.ensures.follows
    c.if-seen-lt-SLOT.false c.if-seen-ge-SHUT.false

pub follow-word-requires-clause-place : goal.follow-word-requires-clause-place
follow-word-requires-clause-place c =
    pointer_there_still c.args.target.epoch c.args.target.place c.args.target.span c.args.target.at c.args.target.page c.follow-seen.result
    (view c.args.pass.now) (view c.follow-seen.new.pass) c.requires.visit c.follow-seen.ensures.follows
    c.if-seen-lt-SLOT.false c.if-seen-ge-SHUT.false (view c.enter.new.pass) c.enter.ensures.enters

pub keep-turned-requires-clause-last : goal.keep-turned-requires-clause-last
keep-turned-requires-clause-last c =
    let l = again_other c.args.target.epoch c.args.target.place c.args.target.span c.args.target.at c.args.target.page c.follow-seen.result
    (view c.args.pass.now) (view c.follow-seen.new.pass) c.requires.visit c.follow-seen.ensures.follows
    c.if-seen-lt-SLOT.false c.if-seen-ge-SHUT.false (view c.enter.new.pass) c.enter.ensures.enters c.follow-word.result
    (view c.follow-word.new.pass) c.follow-word.ensures.follows c.if-word-seen.true in
    (l.step, l.last)

pub returns-then-word-seen-clause-keeps : goal.returns-then-word-seen-clause-keeps
returns-then-word-seen-clause-keeps c =
    keeps_other c.args.target.epoch c.args.target.place c.args.target.span c.args.target.at c.args.target.page c.follow-seen.result
    (view c.args.pass.now) (view c.follow-seen.new.pass) c.requires.visit c.follow-seen.ensures.follows
    c.if-seen-lt-SLOT.false c.if-seen-ge-SHUT.false (view c.enter.new.pass) c.enter.ensures.enters c.follow-word.result
    (view c.follow-word.new.pass) c.follow-word.ensures.follows c.keep-turned.result (view c.keep-turned.new.pass)
    (view c.leave.new.pass) c.if-word-seen.true c.keep-turned.ensures.is c.keep-turned.ensures.notes
    c.leave.ensures.leaves

pub returns-then-page-eq0-clause-holds : goal.returns-then-page-eq0-clause-holds
returns-then-page-eq0-clause-holds c =
    holds_so c.args.target.epoch c.args.target.place c.args.target.span c.args.target.at c.args.target.page c.follow-seen.result
    (view c.args.pass.now) (view c.follow-seen.new.pass) c.requires.visit c.follow-seen.ensures.follows
    c.if-seen-lt-SLOT.false c.if-seen-ge-SHUT.false (view c.enter.new.pass) c.enter.ensures.enters c.follow-word.result
    (view c.follow-word.new.pass) c.follow-word.ensures.follows c.if-word-seen.false
    (λ some. elim c.then-page-eq0.branch [
      | then-page-eq0-via-then-page-eq0 w ↦ let none = w.if-page-eq0.true in absurd (omega (arith, none, some))
      | then-page-eq0-via-else-page-eq0+then-from-word w ↦
          let one = w.from.ensures in let two = w.if-from-word.true in omega (arith, one, two)
    ])

pub renew-found-requires-clause-renew : goal.renew-found-requires-clause-renew
renew-found-requires-clause-renew c =
    can_renew_so c.args.target.epoch c.args.target.place c.args.target.span c.args.target.at c.args.target.page c.follow-seen.result
    (view c.args.pass.now) (view c.follow-seen.new.pass) c.requires.visit c.follow-seen.ensures.follows
    c.if-seen-lt-SLOT.false c.if-seen-ge-SHUT.false (view c.enter.new.pass) c.enter.ensures.enters c.follow-word.result
    (view c.follow-word.new.pass) c.follow-word.ensures.follows c.if-word-seen.false
    (let some = c.if-page-eq0.false in omega (arith, some))

pub keep-changed-requires-clause-last : goal.keep-changed-requires-clause-last
keep-changed-requires-clause-last c =
    let l = missed_so c.args.target.epoch c.args.target.place c.args.target.span c.args.target.at c.args.target.page c.follow-seen.result
    (view c.args.pass.now) (view c.follow-seen.new.pass) c.requires.visit c.follow-seen.ensures.follows
    c.if-seen-lt-SLOT.false c.if-seen-ge-SHUT.false (view c.enter.new.pass) c.enter.ensures.enters c.follow-word.result
    (view c.follow-word.new.pass) c.follow-word.ensures.follows c.if-word-seen.false c.renew-found.result
    (view c.renew-found.new.pass) c.renew-found.ensures.renews c.if-found-word.true in
    (l.step, l.last)

pub returns-then-found-word-clause-keeps : goal.returns-then-found-word-clause-keeps
returns-then-found-word-clause-keeps c =
    keeps_missed c.args.target.epoch c.args.target.place c.args.target.span c.args.target.at c.args.target.page c.follow-seen.result
    (view c.args.pass.now) (view c.follow-seen.new.pass) c.requires.visit c.follow-seen.ensures.follows
    c.if-seen-lt-SLOT.false c.if-seen-ge-SHUT.false (view c.enter.new.pass) c.enter.ensures.enters c.follow-word.result
    (view c.follow-word.new.pass) c.follow-word.ensures.follows c.if-word-seen.false c.renew-found.result
    (view c.renew-found.new.pass) c.renew-found.ensures.renews c.keep-changed.result (view c.keep-changed.new.pass)
    (view c.leave-then-found-word.new.pass) c.if-found-word.true c.keep-changed.ensures.is
    c.keep-changed.ensures.notes c.leave-then-found-word.ensures.leaves

pub returns-clause-holds : goal.returns-clause-holds
returns-clause-holds c =
    subst (λ n. let held : Held = record {
      slot = c.follow-seen.result / 2 ^ 32 - 1;
      word = c.follow-word.result / 2 ^ 32 * 2 ^ 32 + n;
    } in HasIn c.args.target.span c.args.target.at c.args.target.page held (view c.args.pass.now) (view c.renew-found.new.pass))
    (sym c.from-2.ensures)
    (holds_renewed c.args.target.epoch c.args.target.place c.args.target.span c.args.target.at c.args.target.page c.follow-seen.result
    (view c.args.pass.now) (view c.follow-seen.new.pass) c.requires.visit c.follow-seen.ensures.follows
    c.if-seen-lt-SLOT.false c.if-seen-ge-SHUT.false (view c.enter.new.pass) c.enter.ensures.enters c.follow-word.result
    (view c.follow-word.new.pass) c.follow-word.ensures.follows c.if-word-seen.false c.renew-found.result
    (view c.renew-found.new.pass) c.renew-found.ensures.renews c.if-found-word.false
    (let low = c.requires.visit.there in
    let long = front_length (view c.args.pass.now).pages c.follow-seen.ensures.follows.pages c.follow-seen.ensures.follows.front in
    let most = c.follow-seen.ensures.follows.most in omega (arith, low, long, most)))

pub returns-then-seen-ge-SHUT-clause-inners : goal.returns-then-seen-ge-SHUT-clause-inners
returns-then-seen-ge-SHUT-clause-inners c =
    keeps_same (view c.args.pass.now) (view c.keep-locked.new.pass)
    (ap (λ (z : View). z.inners) c.keep-locked.ensures.notes.1 ∙ ap (λ (z : View). z.inners) c.follow-seen.ensures.follows.is)

pub returns-then-seen-lt-SLOT-clause-inners : goal.returns-then-seen-lt-SLOT-clause-inners
returns-then-seen-lt-SLOT-clause-inners c =
    keeps_same (view c.args.pass.now) (view c.follow-seen.new.pass) (ap (λ (z : View). z.inners) c.follow-seen.ensures.follows.is)

pub returns-then-word-seen-clause-inners : goal.returns-then-word-seen-clause-inners
returns-then-word-seen-clause-inners c =
    keeps_left (c.follow-seen.result / 2 ^ 32 - 1) (view c.args.pass.now) (view c.keep-turned.new.pass) (view c.leave.new.pass)
    (ap (λ (z : View). z.inners) c.keep-turned.ensures.notes.1
    ∙ (ap (λ (z : View). z.inners) c.follow-word.ensures.follows.is
    ∙ (ap (λ (z : View). z.inners) c.enter.ensures.enters ∙ ap (λ (z : View). z.inners) c.follow-seen.ensures.follows.is)))
    (fresh_slot c.args.target.epoch c.args.target.place c.args.target.span c.args.target.at c.args.target.page c.follow-seen.result
    (view c.args.pass.now) (view c.follow-seen.new.pass) c.requires.visit c.follow-seen.ensures.follows
    c.if-seen-lt-SLOT.false c.if-seen-ge-SHUT.false) c.leave.ensures.leaves

pub returns-then-page-eq0-clause-inners : goal.returns-then-page-eq0-clause-inners
returns-then-page-eq0-clause-inners c =
    keeps_same (view c.args.pass.now) (view c.follow-word.new.pass)
    (ap (λ (z : View). z.inners) c.follow-word.ensures.follows.is
    ∙ (ap (λ (z : View). z.inners) c.enter.ensures.enters ∙ ap (λ (z : View). z.inners) c.follow-seen.ensures.follows.is))

pub returns-then-found-word-clause-inners : goal.returns-then-found-word-clause-inners
returns-then-found-word-clause-inners c =
    keeps_left (c.follow-seen.result / 2 ^ 32 - 1) (view c.args.pass.now) (view c.keep-changed.new.pass)
    (view c.leave-then-found-word.new.pass)
    (ap (λ (z : View). z.inners) c.keep-changed.ensures.notes.1
    ∙ (inners_renewed c.args.target.at c.args.target.page c.follow-word.result c.renew-found.result (view c.follow-word.new.pass)
    (view c.renew-found.new.pass) c.renew-found.ensures.renews
    ∙ (ap (λ (z : View). z.inners) c.follow-word.ensures.follows.is
    ∙ (ap (λ (z : View). z.inners) c.enter.ensures.enters ∙ ap (λ (z : View). z.inners) c.follow-seen.ensures.follows.is))))
    (fresh_slot c.args.target.epoch c.args.target.place c.args.target.span c.args.target.at c.args.target.page c.follow-seen.result
    (view c.args.pass.now) (view c.follow-seen.new.pass) c.requires.visit c.follow-seen.ensures.follows
    c.if-seen-lt-SLOT.false c.if-seen-ge-SHUT.false) c.leave-then-found-word.ensures.leaves

pub returns-clause-inners : goal.returns-clause-inners
returns-clause-inners c =
    keeps_same (view c.args.pass.now) (view c.renew-found.new.pass)
    (inners_renewed c.args.target.at c.args.target.page c.follow-word.result c.renew-found.result (view c.follow-word.new.pass)
    (view c.renew-found.new.pass) c.renew-found.ensures.renews
    ∙ (ap (λ (z : View). z.inners) c.follow-word.ensures.follows.is
    ∙ (ap (λ (z : View). z.inners) c.enter.ensures.enters ∙ ap (λ (z : View). z.inners) c.follow-seen.ensures.follows.is)))

pub keep-locked-requires-clause-due : goal.keep-locked-requires-clause-due
keep-locked-requires-clause-due c =
    let v = view c.args.pass.now in
    pointer_foreign c.args.target.epoch c.args.target.place c.args.target.span c.args.target.at c.args.target.page c.follow-seen.result
    (seen_at v.reads c.args.target.at) v (view c.follow-seen.new.pass) c.requires.visit
    (look_first c.args.target.epoch c.args.target.place c.args.target.span c.args.target.at c.args.target.page c.follow-seen.result v
    (view c.follow-seen.new.pass) c.requires.visit c.follow-seen.ensures.follows)
    (ap (λ (z : View). z.inners) c.follow-seen.ensures.follows.is)

pub keep-turned-requires-clause-due : goal.keep-turned-requires-clause-due
keep-turned-requires-clause-due c =
    let v = view c.args.pass.now in
    looked_from c.args.target.at c.follow-seen.result c.follow-word.result ((c.follow-seen.result / 2 ^ 32 - 1) ∷ v.grip.holds) v.ways v
    (view c.follow-word.new.pass) (λ one. c.if-word-seen.true (ap (λ (q : ℕ). q / 2 ^ 32) one))
    (again_other c.args.target.epoch c.args.target.place c.args.target.span c.args.target.at c.args.target.page c.follow-seen.result
    (view c.args.pass.now) (view c.follow-seen.new.pass) c.requires.visit c.follow-seen.ensures.follows
    c.if-seen-lt-SLOT.false c.if-seen-ge-SHUT.false (view c.enter.new.pass) c.enter.ensures.enters c.follow-word.result
    (view c.follow-word.new.pass) c.follow-word.ensures.follows c.if-word-seen.true)

pub keep-changed-requires-clause-due : goal.keep-changed-requires-clause-due
keep-changed-requires-clause-due c =
    let v = view c.args.pass.now in
    looked_from c.args.target.at c.follow-word.result c.renew-found.result ((c.follow-seen.result / 2 ^ 32 - 1) ∷ v.grip.holds)
    (record { slot = c.follow-seen.result / 2 ^ 32 - 1; span = c.args.target.span } ∷ v.ways) v (view c.renew-found.new.pass)
    c.if-found-word.true
    (missed_so c.args.target.epoch c.args.target.place c.args.target.span c.args.target.at c.args.target.page c.follow-seen.result
    (view c.args.pass.now) (view c.follow-seen.new.pass) c.requires.visit c.follow-seen.ensures.follows
    c.if-seen-lt-SLOT.false c.if-seen-ge-SHUT.false (view c.enter.new.pass) c.enter.ensures.enters c.follow-word.result
    (view c.follow-word.new.pass) c.follow-word.ensures.follows c.if-word-seen.false c.renew-found.result
    (view c.renew-found.new.pass) c.renew-found.ensures.renews c.if-found-word.true)
