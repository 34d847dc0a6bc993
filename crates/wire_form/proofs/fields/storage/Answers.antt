use Rattle.std.proofs.Common.{◌≡◌, ◌+◌, ◌-◌, ◌*◌, refl, ap, take, drop, arith, length, length-take, length-drop}
use Rattle.wire_form.specs.Pages.{IsStored, stored_words}
use Rattle.wire_form.proofs.ItemLemmas.{at_three}
use Rattle.wire_form.proofs.FieldLemmas.{found_at, cut}
use Rattle.wire_form.proofs.fields.storage.Goals as goal

pub returns-clause-exact : goal.returns-clause-exact
returns-clause-exact c =
    let words = c.args.words.now in
    let i = c.args.i in
    let item = take (16 + 3 * i + 3 - (16 + 3 * i)) (drop (16 + 3 * i) words) in
    let len : length item ≡ 3 = omega (arith, length-take (16 + 3 * i + 3 - (16 + 3 * i)) (drop (16 + 3 * i) words), length-drop (16 + 3 * i) words, c.told-words, c.requires) in
    at_three (IsStored c.args.number) stored_words item _ len c.of_words.ensures

pub returns-clause-entry : goal.returns-clause-entry
returns-clause-entry c contents is e lt =
    let words = c.args.words.now in
    let i = c.args.i in
    let item = take (16 + 3 * i + 3 - (16 + 3 * i)) (drop (16 + 3 * i) words) in
    let len : length item ≡ 3 = omega (arith, length-take (16 + 3 * i + 3 - (16 + 3 * i)) (drop (16 + 3 * i) words), length-drop (16 + 3 * i) words, c.told-words, c.requires) in
    let here = cut 3 (16 + 3 * i + 3 - (16 + 3 * i)) (16 + 3 * i) (16 + 3 * i) words (omega arith) refl in
    found_at (IsStored c.args.number) stored_words 3 (λ _. refl) 16 i words _ item contents.storages _ (ap (drop 16) e) is.each lt here
    (at_three (IsStored c.args.number) stored_words item _ len c.of_words.ensures)
