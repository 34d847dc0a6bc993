use Rattle.std.proofs.Common.{◌≡◌, ◌+◌, ◌-◌, ◌*◌, refl, sym, ap, subst, take, drop, get_or, arith, length, length-take, length-drop}
use Rattle.std.specs.List.{AllByRecursion}
use Rattle.wire_form.specs.Pages.{IsTreeRecord, tree_record_words}
use Rattle.wire_form.proofs.ItemLemmas.{at_three}
use Rattle.wire_form.proofs.FieldLemmas.{found_at, cut}
use Rattle.wire_form.proofs.fields.tree_record.Goals as goal

pub returns-clause-exact : goal.returns-clause-exact
returns-clause-exact c =
    let words = c.args.words.now in
    let i = c.args.i in
    let item = take (16 + 3 * i + 3 - (16 + 3 * i)) (drop (16 + 3 * i) words) in
    let len : length item ≡ 3 = omega (arith, length-take (16 + 3 * i + 3 - (16 + 3 * i)) (drop (16 + 3 * i) words), length-drop (16 + 3 * i) words, c.told-words, c.requires) in
    at_three (IsTreeRecord (get_or words 1 0) (get_or words 2 0)) tree_record_words item _ len c.of_words.ensures

pub returns-clause-entry : goal.returns-clause-entry
returns-clause-entry c low high records is e lt =
    let words = c.args.words.now in
    let i = c.args.i in
    let item = take (16 + 3 * i + 3 - (16 + 3 * i)) (drop (16 + 3 * i) words) in
    let len : length item ≡ 3 = omega (arith, length-take (16 + 3 * i + 3 - (16 + 3 * i)) (drop (16 + 3 * i) words), length-drop (16 + 3 * i) words, c.told-words, c.requires) in
    let here = cut 3 (16 + 3 * i + 3 - (16 + 3 * i)) (16 + 3 * i) (16 + 3 * i) words (omega arith) refl in
    let first : get_or words 1 0 ≡ low = ap (λ t. get_or t 1 0) e in
    let second : get_or words 2 0 ≡ high = ap (λ t. get_or t 2 0) e in
    let each = subst (λ l. AllByRecursion (IsTreeRecord l (get_or words 2 0)) records) (sym first) (subst (λ h. AllByRecursion (IsTreeRecord low h) records) (sym second) is.each) in
    let Is = IsTreeRecord (get_or words 1 0) (get_or words 2 0) in
    found_at Is tree_record_words 3 (λ _. refl) 16 i words _ item records _ (ap (drop 16) e) each lt here
    (at_three Is tree_record_words item _ len c.of_words.ensures)
