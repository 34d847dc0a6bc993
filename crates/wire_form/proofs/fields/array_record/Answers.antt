use Rattle.std.proofs.Common.{◌≡◌, ◌+◌, ◌-◌, ◌*◌, refl, take, drop, arith, length, length-take, length-drop}
use Rattle.wire_form.specs.Pages.{IsArrayRecord, array_record_words}
use Rattle.wire_form.proofs.ItemLemmas.{at_two}
use Rattle.wire_form.proofs.FieldLemmas.{found_at, cut}
use Rattle.wire_form.proofs.fields.array_record.Goals as goal

pub returns-clause-exact : goal.returns-clause-exact
returns-clause-exact c =
    let words = c.args.words.now in
    let i = c.args.i in
    let item = take (2 * i + 2 - 2 * i) (drop (2 * i) words) in
    let len : length item ≡ 2 = omega (arith, length-take (2 * i + 2 - 2 * i) (drop (2 * i) words), length-drop (2 * i) words, c.told-words, c.requires) in
    at_two IsArrayRecord array_record_words item _ len c.of_words.ensures

pub returns-clause-entry : goal.returns-clause-entry
returns-clause-entry c used records is e lt =
    let words = c.args.words.now in
    let i = c.args.i in
    let item = take (2 * i + 2 - 2 * i) (drop (2 * i) words) in
    let len : length item ≡ 2 = omega (arith, length-take (2 * i + 2 - 2 * i) (drop (2 * i) words), length-drop (2 * i) words, c.told-words, c.requires) in
    let here = cut 2 (2 * i + 2 - 2 * i) (2 * i) (0 + 2 * i) words (omega arith) (omega arith) in
    found_at IsArrayRecord array_record_words 2 (λ _. refl) 0 i words _ item records _ e is.each (omega (arith, lt, is.count)) here
    (at_two IsArrayRecord array_record_words item _ len c.of_words.ensures)
