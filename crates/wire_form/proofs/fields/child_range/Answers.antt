use Rattle.std.proofs.Common.{◌≡◌, ◌+◌, ◌-◌, refl, ap, ◌∙◌, get_or, length, arith}
use Rattle.wire_form.proofs.FieldLemmas.{place_of, separators_stand, range_at}
use Rattle.wire_form.proofs.fields.child_range.Goals as goal

pub returns : goal.returns
returns c low high number children is e lt =
    let words = c.args.words.now in
    let i = c.args.i in
    let ss = children.separators in
    let count : c.count.result ≡ length children.pointers = c.count.ensures.inner low high number children is e in
    let stand = separators_stand low high children words e is.most in
    let low_is : get_or words 1 0 ≡ low = ap (λ t. get_or t 1 0) e in
    let high_is : get_or words 2 0 ≡ high = ap (λ t. get_or t 2 0) e in
    range_at low high ss i c.first_key.result c.last_key.result (omega (arith, is.between))
    (λ z. c.first_key.ensures.first z ∙ low_is)
    (λ j s. c.first_key.ensures.other (omega arith) ∙ place_of 34 j (33 + i) words _ ss (omega arith) stand (omega (arith, is.between)))
    (λ b. c.last_key.ensures.other (omega (arith, is.between)) ∙ ap (λ n. n - 1) (place_of 34 i (34 + i) words _ ss refl stand b))
    (λ b. c.last_key.ensures.last (omega (arith, is.between)) ∙ high_is)
