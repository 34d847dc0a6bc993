use Rattle.std.proofs.Common.{◌≡◌, ◌+◌, sym, ◌∙◌, arith}
use Rattle.engine_pages.specs.declared.view.KeptWhy.TheVariants.{Locked, Unlike, Under}
use Rattle.engine_pages.specs.Passes.{view}
use Rattle.page_drops.proofs.Entries.{reads_noted}
use Rattle.tree_drops.specs.Branches.{IsBranchCause}
use Rattle.tree_drops.proofs.Dues.{branch_shut}
use Rattle.tree_drops.proofs.Lefts.{other_found, shut_left}
use Rattle.tree_drops.proofs.Places.{word_here}
use Rattle.tree_drops.proofs.Parts.{goes_self, keeps_branch, last_met, met_read}
use Rattle.tree_drops.proofs.Shuts.{branch_locked, branch_under, branch_unlike, reads_shut, shut_as, shut_missed, shut_now}
use Rattle.tree_drops.proofs.branches.shut_child.Goals as goal

pub keep-locked-requires-clause-last : goal.keep-locked-requires-clause-last
keep-locked-requires-clause-last c =
    let v = view c.args.pass.now in
    let w = view c.shut-found.new.pass in
    let n = c.shut-found.result in
    let e = c.from-expected.result in
    let small = c.ranges.child in
    let same : e ≡ c.args.child = omega arith in
    last_met v w c.word_at-at.result n Locked (met_read c.word_at-at.result n v v w (goes_self v) (shut_missed c.args.branch.slot c.args.index c.word_at-at.result e n v w (λ (q : n ≡ e). let high = c.if-found-ge-SHUT.true in absurd (omega (arith, q, high, small, same))) c.shut-found.ensures.shuts))

pub returns-then-found-ge-SHUT-clause-keeps : goal.returns-then-found-ge-SHUT-clause-keeps
returns-then-found-ge-SHUT-clause-keeps c =
    let v = view c.args.pass.now in
    let w = view c.shut-found.new.pass in
    let n = c.shut-found.result in
    let e = c.from-expected.result in
    let small = c.ranges.child in
    let same : e ≡ c.args.child = omega arith in
    keeps_branch (IsBranchCause v.layout.slots c.args.branch.slot c.args.branch.span v.pages c.args.branch.page) v w (view c.keep-locked.new.pass) c.word_at-at.result n Locked
    c.keep-locked.result c.keep-locked.ensures.is (met_read c.word_at-at.result n v v w (goes_self v) (shut_missed c.args.branch.slot c.args.index c.word_at-at.result e n v w (λ (q : n ≡ e). let high = c.if-found-ge-SHUT.true in absurd (omega (arith, q, high, small, same))) c.shut-found.ensures.shuts)) c.keep-locked.ensures.notes
    (branch_locked v.layout.slots c.args.branch.slot c.args.index c.word_at-at.result n c.args.branch.page c.args.branch.span v.pages (let few = c.requires.at.few in let less = c.requires.index in omega (arith, few, less)) (word_here c.args.engine.now c.args.pass.now c.args.branch.slot (4 + c.args.index) c.word_at-at.result c.requires.of c.word_at-at.ensures) (let high = c.if-found-ge-SHUT.true in omega (arith, high)))

pub returns-then-found-ge-SHUT-clause-reads : goal.returns-then-found-ge-SHUT-clause-reads
returns-then-found-ge-SHUT-clause-reads c =
    let v = view c.args.pass.now in
    let w = view c.shut-found.new.pass in
    let n = c.shut-found.result in
    let e = c.from-expected.result in
    let small = c.ranges.child in
    let same : e ≡ c.args.child = omega arith in
    reads_noted c.args.branch.slot c.keep-locked.result v w (view c.keep-locked.new.pass)
    (reads_shut c.args.branch.slot c.args.index c.word_at-at.result e n v w (let few = c.requires.at.few in let less = c.requires.index in omega (arith, few, less)) (word_here c.args.engine.now c.args.pass.now c.args.branch.slot (4 + c.args.index) c.word_at-at.result c.requires.of c.word_at-at.ensures) c.shut-found.ensures.shuts) c.keep-locked.ensures.notes

pub keep-under-requires-clause-last : goal.keep-under-requires-clause-last
keep-under-requires-clause-last c =
    let v = view c.args.pass.now in
    let w = view c.shut-found.new.pass in
    let n = c.shut-found.result in
    let e = c.from-expected.result in
    let small = c.ranges.child in
    let same : e ≡ c.args.child = omega arith in
    last_met v w c.word_at-at.result n Under (met_read c.word_at-at.result n v v w (goes_self v) (shut_missed c.args.branch.slot c.args.index c.word_at-at.result e n v w (λ (q : n ≡ e). let high = c.if-found-ge-SLOT.true in absurd (omega (arith, q, high, small, same))) c.shut-found.ensures.shuts))

pub returns-then-found-ge-SLOT-clause-keeps : goal.returns-then-found-ge-SLOT-clause-keeps
returns-then-found-ge-SLOT-clause-keeps c =
    let v = view c.args.pass.now in
    let w = view c.shut-found.new.pass in
    let n = c.shut-found.result in
    let e = c.from-expected.result in
    let small = c.ranges.child in
    let same : e ≡ c.args.child = omega arith in
    keeps_branch (IsBranchCause v.layout.slots c.args.branch.slot c.args.branch.span v.pages c.args.branch.page) v w (view c.keep-under.new.pass) c.word_at-at.result n Under
    c.keep-under.result c.keep-under.ensures.is (met_read c.word_at-at.result n v v w (goes_self v) (shut_missed c.args.branch.slot c.args.index c.word_at-at.result e n v w (λ (q : n ≡ e). let high = c.if-found-ge-SLOT.true in absurd (omega (arith, q, high, small, same))) c.shut-found.ensures.shuts)) c.keep-under.ensures.notes
    (branch_under v.layout.slots c.args.branch.slot c.args.index c.word_at-at.result n c.args.branch.page c.args.branch.span v.pages (let few = c.requires.at.few in let less = c.requires.index in omega (arith, few, less)) (word_here c.args.engine.now c.args.pass.now c.args.branch.slot (4 + c.args.index) c.word_at-at.result c.requires.of c.word_at-at.ensures) (let low = c.if-found-ge-SLOT.true in omega (arith, low)) (let high = c.if-found-ge-SHUT.false in omega (arith, high)))

pub returns-then-found-ge-SLOT-clause-reads : goal.returns-then-found-ge-SLOT-clause-reads
returns-then-found-ge-SLOT-clause-reads c =
    let v = view c.args.pass.now in
    let w = view c.shut-found.new.pass in
    let n = c.shut-found.result in
    let e = c.from-expected.result in
    let small = c.ranges.child in
    let same : e ≡ c.args.child = omega arith in
    reads_noted c.args.branch.slot c.keep-under.result v w (view c.keep-under.new.pass)
    (reads_shut c.args.branch.slot c.args.index c.word_at-at.result e n v w (let few = c.requires.at.few in let less = c.requires.index in omega (arith, few, less)) (word_here c.args.engine.now c.args.pass.now c.args.branch.slot (4 + c.args.index) c.word_at-at.result c.requires.of c.word_at-at.ensures) c.shut-found.ensures.shuts) c.keep-under.ensures.notes

pub keep-other-requires-clause-last : goal.keep-other-requires-clause-last
keep-other-requires-clause-last c =
    let v = view c.args.pass.now in
    let w = view c.shut-found.new.pass in
    let n = c.shut-found.result in
    let e = c.from-expected.result in
    let small = c.ranges.child in
    let same : e ≡ c.args.child = omega arith in
    last_met v w c.word_at-at.result n Unlike (met_read c.word_at-at.result n v v w (goes_self v) (shut_missed c.args.branch.slot c.args.index c.word_at-at.result e n v w c.if-found-expected.true c.shut-found.ensures.shuts))

pub returns-then-found-expected-clause-keeps : goal.returns-then-found-expected-clause-keeps
returns-then-found-expected-clause-keeps c =
    let v = view c.args.pass.now in
    let w = view c.shut-found.new.pass in
    let n = c.shut-found.result in
    let e = c.from-expected.result in
    let small = c.ranges.child in
    let same : e ≡ c.args.child = omega arith in
    keeps_branch (IsBranchCause v.layout.slots c.args.branch.slot c.args.branch.span v.pages c.args.branch.page) v w (view c.keep-other.new.pass) c.word_at-at.result n Unlike
    c.keep-other.result c.keep-other.ensures.is (met_read c.word_at-at.result n v v w (goes_self v) (shut_missed c.args.branch.slot c.args.index c.word_at-at.result e n v w c.if-found-expected.true c.shut-found.ensures.shuts)) c.keep-other.ensures.notes
    (branch_unlike v.layout.slots c.args.branch.slot c.args.index c.word_at-at.result n c.args.branch.page c.args.branch.span v.pages c.requires.child.0 c.requires.child.1 (word_here c.args.engine.now c.args.pass.now c.args.branch.slot (4 + c.args.index) c.word_at-at.result c.requires.of c.word_at-at.ensures) (let low = c.if-found-ge-SLOT.false in omega (arith, low)) (λ (q : n ≡ (c.requires.child.0).number). c.if-found-expected.true (q ∙ (sym c.requires.child.2 ∙ sym same))))

pub returns-then-found-expected-clause-reads : goal.returns-then-found-expected-clause-reads
returns-then-found-expected-clause-reads c =
    let v = view c.args.pass.now in
    let w = view c.shut-found.new.pass in
    let n = c.shut-found.result in
    let e = c.from-expected.result in
    let small = c.ranges.child in
    let same : e ≡ c.args.child = omega arith in
    reads_noted c.args.branch.slot c.keep-other.result v w (view c.keep-other.new.pass)
    (reads_shut c.args.branch.slot c.args.index c.word_at-at.result e n v w (let few = c.requires.at.few in let less = c.requires.index in omega (arith, few, less)) (word_here c.args.engine.now c.args.pass.now c.args.branch.slot (4 + c.args.index) c.word_at-at.result c.requires.of c.word_at-at.ensures) c.shut-found.ensures.shuts) c.keep-other.ensures.notes

pub returns-clause-shuts : goal.returns-clause-shuts
returns-clause-shuts c =
    let v = view c.args.pass.now in
    let w = view c.shut-found.new.pass in
    let n = c.shut-found.result in
    let e = c.from-expected.result in
    let small = c.ranges.child in
    let same : e ≡ c.args.child = omega arith in
    shut_as c.args.branch.slot c.args.index c.args.child e v w same (shut_now c.args.branch.slot c.args.index c.word_at-at.result e n v w c.if-found-expected.false (omega (arith, same, small)) c.shut-found.ensures.shuts)

pub returns-clause-reads : goal.returns-clause-reads
returns-clause-reads c =
    let v = view c.args.pass.now in
    let w = view c.shut-found.new.pass in
    let n = c.shut-found.result in
    let e = c.from-expected.result in
    let small = c.ranges.child in
    let same : e ≡ c.args.child = omega arith in
    reads_shut c.args.branch.slot c.args.index c.word_at-at.result e n v w (let few = c.requires.at.few in let less = c.requires.index in omega (arith, few, less)) (word_here c.args.engine.now c.args.pass.now c.args.branch.slot (4 + c.args.index) c.word_at-at.result c.requires.of c.word_at-at.ensures) c.shut-found.ensures.shuts

pub keep-locked-requires-clause-due : goal.keep-locked-requires-clause-due
keep-locked-requires-clause-due c =
    let v = view c.args.pass.now in
    let w = view c.shut-found.new.pass in
    let n = c.shut-found.result in
    let e = c.from-expected.result in
    let small = c.ranges.child in
    let same : e ≡ c.args.child = omega arith in
    let met = met_read c.word_at-at.result n v v w (goes_self v) (shut_missed c.args.branch.slot c.args.index c.word_at-at.result e n v w (λ (q : n ≡ e). let high = c.if-found-ge-SHUT.true in absurd (omega (arith, q, high, small, same))) c.shut-found.ensures.shuts) in
    let few = c.requires.at.few in
    let less = c.requires.index in
    branch_shut c.args.branch.slot c.args.branch.page c.args.branch.count c.args.index c.word_at-at.result n c.args.branch.span c.args.part
    v w met.goes c.requires.at less (omega (arith, few, less)) (c.requires.part c.requires.at)
    (word_here c.args.engine.now c.args.pass.now c.args.branch.slot (4 + c.args.index) c.word_at-at.result c.requires.of c.word_at-at.ensures)
    c.requires.took c.requires.shut

pub returns-then-found-ge-SHUT-clause-found : goal.returns-then-found-ge-SHUT-clause-found
returns-then-found-ge-SHUT-clause-found c =
    let v = view c.args.pass.now in
    let w = view c.shut-found.new.pass in
    let n = c.shut-found.result in
    let e = c.from-expected.result in
    let small = c.ranges.child in
    let same : e ≡ c.args.child = omega arith in
    let place = word_here c.args.engine.now c.args.pass.now c.args.branch.slot (4 + c.args.index) c.word_at-at.result c.requires.of c.word_at-at.ensures in
    other_found c.args.branch.slot c.args.index c.word_at-at.result n c.keep-locked.result v w (view c.keep-locked.new.pass) place
    c.keep-locked.ensures.is
    (shut_missed c.args.branch.slot c.args.index c.word_at-at.result e n v w (λ (q : n ≡ e). let high = c.if-found-ge-SHUT.true in absurd (omega (arith, q, high, small, same))) c.shut-found.ensures.shuts)
    c.keep-locked.ensures.notes

pub returns-then-found-ge-SLOT-clause-found : goal.returns-then-found-ge-SLOT-clause-found
returns-then-found-ge-SLOT-clause-found c =
    let v = view c.args.pass.now in
    let w = view c.shut-found.new.pass in
    let n = c.shut-found.result in
    let e = c.from-expected.result in
    let small = c.ranges.child in
    let same : e ≡ c.args.child = omega arith in
    let place = word_here c.args.engine.now c.args.pass.now c.args.branch.slot (4 + c.args.index) c.word_at-at.result c.requires.of c.word_at-at.ensures in
    other_found c.args.branch.slot c.args.index c.word_at-at.result n c.keep-under.result v w (view c.keep-under.new.pass) place
    c.keep-under.ensures.is
    (shut_missed c.args.branch.slot c.args.index c.word_at-at.result e n v w (λ (q : n ≡ e). let high = c.if-found-ge-SLOT.true in absurd (omega (arith, q, high, small, same))) c.shut-found.ensures.shuts)
    c.keep-under.ensures.notes

pub returns-then-found-expected-clause-found : goal.returns-then-found-expected-clause-found
returns-then-found-expected-clause-found c =
    let v = view c.args.pass.now in
    let w = view c.shut-found.new.pass in
    let n = c.shut-found.result in
    let e = c.from-expected.result in
    let small = c.ranges.child in
    let same : e ≡ c.args.child = omega arith in
    let place = word_here c.args.engine.now c.args.pass.now c.args.branch.slot (4 + c.args.index) c.word_at-at.result c.requires.of c.word_at-at.ensures in
    other_found c.args.branch.slot c.args.index c.word_at-at.result n c.keep-other.result v w (view c.keep-other.new.pass) place
    c.keep-other.ensures.is
    (shut_missed c.args.branch.slot c.args.index c.word_at-at.result e n v w c.if-found-expected.true c.shut-found.ensures.shuts)
    c.keep-other.ensures.notes

pub returns-clause-left : goal.returns-clause-left
returns-clause-left c =
    let v = view c.args.pass.now in
    let w = view c.shut-found.new.pass in
    let n = c.shut-found.result in
    let e = c.from-expected.result in
    let small = c.ranges.child in
    let same : e ≡ c.args.child = omega arith in
    let place = word_here c.args.engine.now c.args.pass.now c.args.branch.slot (4 + c.args.index) c.word_at-at.result c.requires.of c.word_at-at.ensures in
    shut_left c.args.branch.slot c.args.index c.args.child c.word_at-at.result e n v w place same c.if-found-expected.false c.shut-found.ensures.shuts
