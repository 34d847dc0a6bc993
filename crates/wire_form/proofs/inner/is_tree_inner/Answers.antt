use Rattle.std.proofs.Common.{refl, subst, arith}
use Rattle.wire_form.proofs.ItemLemmas.{refused, instead}
use Rattle.wire_form.proofs.PageLemmas.{tree_inner_forth, tree_inner_back}
use Rattle.wire_form.proofs.inner.is_tree_inner.Goals as goal
use Rattle.wire_form.specs.Parts.{HasChildren}

pub returns-in_default : goal.returns-in_default
returns-in_default c =
    refused (λ p. absurd (c.in_default.ensures p.0 p.1 p.2)) (tree_inner_forth c.args.low c.args.high c.args.number c.args.words.now _ _ c.split_at.ensures.front c.split_at.ensures.back)

pub returns-then-count-lt2 : goal.returns-then-count-lt2
returns-then-count-lt2 c =
    refused (λ p. absurd (omega (arith, p.2, p.3, c.in-Some.ensures.1))) (tree_inner_forth c.args.low c.args.high c.args.number c.args.words.now _ _ c.split_at.ensures.front c.split_at.ensures.back)

pub returns-then-not-is_head : goal.returns-then-not-is_head
returns-then-not-is_head c =
    refused (λ p. c.if-not-is_head.ensures.1 p.4) (tree_inner_forth c.args.low c.args.high c.args.number c.args.words.now _ _ c.split_at.ensures.front c.split_at.ensures.back)

pub returns : goal.returns
returns c =
    let head = c.split_at.result.0.now in
    let body = c.split_at.result.1.now in
    let n = c.in-Some.count in
    instead _ c.has_children.ensures
    (λ p. let q = tree_inner_forth c.args.low c.args.high c.args.number c.args.words.now head body c.split_at.ensures.front c.split_at.ensures.back p in
    subst (λ k. HasChildren c.args.low c.args.high c.args.number k body) (omega (arith, q.2, c.in-Some.ensures.1)) q.5)
    (λ q. tree_inner_back c.args.low c.args.high c.args.number c.args.words.now head body c.told-words c.split_at.ensures.front c.split_at.ensures.back (n, c.in-Some.ensures.0, c.in-Some.ensures.1, omega arith, c.if-not-is_head.ensures.0 refl, q))
