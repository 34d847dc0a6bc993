use Rattle.std.proofs.Common.{◌≤◌, ◌+◌, ◌-◌, ℕ, List, [], ◌∷◌, ◌++◌, length, sym, ap, subst, ◌∙◌, arith}
use Rattle.std.proofs.lemmas.Result.{err_from_is_err_and}
use Rattle.root_composer.specs.Rows.{Ascends}
use Rattle.root_composer.specs.Build.{inner_words, build}
use Rattle.root_composer.specs.TreeCode.{WouldBeDeep, Builds, begin_at}
use Rattle.root_composer.proofs.CutLaw.{leaf_most_is}
use Rattle.root_composer.proofs.BuildSteps.{BuildsRest, none_built_yet, run_here, one_more_run, leaf_pushed, run_deep, few, inner_pushed}
use Rattle.root_composer.proofs.build.+build.Goals as goal

pub returns-then-rows-le-LEAF_MOST-clause-built : goal.returns-then-rows-le-LEAF_MOST-clause-built
returns-then-rows-le-LEAF_MOST-clause-built t c =
    leaf_pushed c.args.depth c.args.have c.args.low c.args.high (c.from.result + c.len.result) c.args.rows.now c.args.made.now.items c.push.new.self.items c.leaf_words.result
    (omega (arith, c.if-depth-eq0.false)) (omega (arith, leaf_most_is, c.if-rows-le-LEAF_MOST.true)) c.leaf_words.ensures c.in_ok-push.ensures.items (omega (arith, c.from.ensures, c.len.ensures, c.push.new.self.ok))

pub loop-length-init : goal.loop-length-init
loop-length-init t c =
    subst (λ (ns : List ℕ). BuildsRest c.args.depth c.args.have c.args.low c.args.high c.args.rows.now c.deref-length-items.result.now c.args.made.now.items 0 c.args.low c.args.rows.now ns c.new-separators.result.items c.args.made.now.items) (sym c.new-numbers.ensures.items)
    (subst (λ (ss : List ℕ). BuildsRest c.args.depth c.args.have c.args.low c.args.high c.args.rows.now c.deref-length-items.result.now c.args.made.now.items 0 c.args.low c.args.rows.now [] ss c.args.made.now.items) (sym c.new-separators.ensures.items)
    (none_built_yet c.args.depth c.args.have c.args.low c.args.high c.args.rows.now c.deref-length-items.result.now c.args.made.now.items (omega (arith, leaf_most_is, c.if-rows-le-LEAF_MOST.false)) (c.deref-length-items.ensures.value ∙ c.in_ok-lengths.ensures) c.requires.ascends c.requires.range))

pub build-requires : goal.build-requires
build-requires t c =
    let i = c.loop-length.length-index in
    let next = run_here c.args.depth c.args.have c.args.low c.args.high c.args.rows.now c.deref-length-items.result.now c.args.made.now.items i c.loop-length.at c.loop-length.rest.now c.split_at.result.0.now c.split_at.result.1.now
    c.loop-length.numbers.items c.loop-length.separators.items c.loop-length.made.items (omega arith) c.split_at.ensures.front c.split_at.ensures.back c.loop-length.invariant in (
      omega (arith, c.if-depth-eq0.false),
      (
        subst (λ (e : ℕ). Ascends c.loop-length.at e c.split_at.result.0.now) (sym c.end_before-end.ensures) next.ascends,
        subst (λ (e : ℕ). c.loop-length.at ≤ e) (sym c.end_before-end.ensures) next.range,
      ),
    )

pub returns-in_err-number-clause-deep : goal.returns-in_err-number-clause-deep
returns-in_err-number-clause-deep t c fault e =
    let p = err_from_is_err_and c.from_residual-in_err-number.result c.from_residual-in_err-number.ensures.1 in
    let deep = c.in_err-number.ensures.deep fault (cc (e, p.1, p.2)) in
    run_deep c.args.depth c.args.have c.args.low c.args.high fault c.args.rows.now c.deref-length-items.result.now c.args.made.now.items c.loop-length.length-index c.loop-length.at c.loop-length.rest.now c.split_at.result.0.now c.split_at.result.1.now
    c.loop-length.numbers.items c.loop-length.separators.items c.loop-length.made.items (omega (arith, c.if-depth-eq0.false)) (omega (arith, leaf_most_is, c.if-rows-le-LEAF_MOST.false)) (c.deref-length-items.ensures.value ∙ c.in_ok-lengths.ensures) (omega arith) c.split_at.ensures.front c.split_at.ensures.back c.loop-length.invariant
    (subst (λ (x : ℕ). (fuel : ℕ) → length c.split_at.result.0.now ≤ fuel → WouldBeDeep (c.args.depth - 1) fault (build fuel c.loop-length.at x c.split_at.result.0.now (c.args.have + length c.loop-length.made.items))) c.end_before-end.ensures deep)

pub loop-length-preserved : goal.loop-length-preserved
loop-length-preserved t c =
    let more = one_more_run c.args.depth c.args.have c.args.low c.args.high c.args.rows.now c.deref-length-items.result.now c.args.made.now.items c.loop-length.length-index c.loop-length.at c.in_ok-number.number c.loop-length.rest.now c.split_at.result.0.now c.split_at.result.1.now
    c.loop-length.numbers.items c.loop-length.separators.items c.loop-length.made.items c.build.new.made.items (omega arith) c.split_at.ensures.front c.split_at.ensures.back c.loop-length.invariant
    (subst (λ (x : ℕ). Builds (c.args.depth - 1) c.loop-length.made.items c.build.new.made.items c.in_ok-number.number c.loop-length.at x c.split_at.result.0.now (c.args.have + length c.loop-length.made.items)) c.end_before-end.ensures c.in_ok-number.ensures.built) in
    subst (λ (a : ℕ). BuildsRest c.args.depth c.args.have c.args.low c.args.high c.args.rows.now c.deref-length-items.result.now c.args.made.now.items (c.loop-length.length-index + 1) a c.split_at.result.1.now c.push-in-loop-length.new.self.items c.push_first.new.separators.items c.build.new.made.items) (sym c.begin_at-at.ensures)
    (subst (λ (ns : List ℕ). BuildsRest c.args.depth c.args.have c.args.low c.args.high c.args.rows.now c.deref-length-items.result.now c.args.made.now.items (c.loop-length.length-index + 1) (begin_at c.split_at.result.1.now c.loop-length.at) c.split_at.result.1.now ns c.push_first.new.separators.items c.build.new.made.items) (sym c.in_ok-push-2.ensures.items)
    (subst (λ (ss : List ℕ). BuildsRest c.args.depth c.args.have c.args.low c.args.high c.args.rows.now c.deref-length-items.result.now c.args.made.now.items (c.loop-length.length-index + 1) (begin_at c.split_at.result.1.now c.loop-length.at) c.split_at.result.1.now (c.loop-length.numbers.items ++ c.in_ok-number.number ∷ []) ss c.build.new.made.items) (sym c.in_ok-push_first.ensures) more))

pub inner_words-requires-clause-children : goal.inner_words-requires-clause-children
inner_words-requires-clause-children t c =
    let are = few c.args.depth c.args.have c.args.low c.args.high c.args.rows.now c.deref-length-items.result.now c.args.made.now.items c.loop-length.length-index c.loop-length.at c.loop-length.rest.now c.loop-length.numbers.items c.loop-length.separators.items c.loop-length.made.items
    (omega (arith, leaf_most_is, c.if-rows-le-LEAF_MOST.false)) (c.deref-length-items.ensures.value ∙ c.in_ok-lengths.ensures) (omega arith) c.loop-length.invariant in
    subst (λ (l : List ℕ). length l ≤ 30) (sym c.deref-2.ensures.value) are.children

pub inner_words-requires-clause-between : goal.inner_words-requires-clause-between
inner_words-requires-clause-between t c =
    let are = few c.args.depth c.args.have c.args.low c.args.high c.args.rows.now c.deref-length-items.result.now c.args.made.now.items c.loop-length.length-index c.loop-length.at c.loop-length.rest.now c.loop-length.numbers.items c.loop-length.separators.items c.loop-length.made.items
    (omega (arith, leaf_most_is, c.if-rows-le-LEAF_MOST.false)) (c.deref-length-items.ensures.value ∙ c.in_ok-lengths.ensures) (omega arith) c.loop-length.invariant in
    subst (λ (l : List ℕ). length l ≤ 30) (sym c.deref.ensures.value) are.between

pub returns-clause-built : goal.returns-clause-built
returns-clause-built t c =
    inner_pushed c.args.depth c.args.have c.args.low c.args.high (c.from-2.result + c.len-2.result) c.args.rows.now c.deref-length-items.result.now c.args.made.now.items c.loop-length.length-index c.loop-length.at c.loop-length.rest.now c.loop-length.numbers.items c.loop-length.separators.items c.loop-length.made.items c.push-2.new.self.items c.inner_words.result
    (omega (arith, c.if-depth-eq0.false)) (omega (arith, leaf_most_is, c.if-rows-le-LEAF_MOST.false)) (c.deref-length-items.ensures.value ∙ c.in_ok-lengths.ensures) (omega arith) c.loop-length.invariant
    (c.inner_words.ensures ∙ ap (λ (s : List ℕ). inner_words c.args.low c.args.high s c.deref-2.result.now) c.deref.ensures.value ∙ ap (inner_words c.args.low c.args.high c.loop-length.separators.items) c.deref-2.ensures.value)
    c.in_ok-push-3.ensures.items (omega (arith, c.from-2.ensures, c.len-2.ensures, c.push-2.new.self.ok))
