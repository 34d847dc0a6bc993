use Rattle.std.proofs.Common.{◌*◌, [], take, drop, sym, ap, ◌∙◌}
use Rattle.std.proofs.lemmas.List.{append-nil}
use Rattle.std.proofs.lemmas.Option.{get_or_from_slice_get}
use Rattle.wire_form.specs.Bytes.{bytes_of_word, bytes_of}
use Rattle.wire_form.specs.ByteLaws.{length-bytes_of_word}
use Rattle.wire_form.proofs.FieldLemmas.{item_at}
use Rattle.wire_form.proofs.laws.word_in_bytes.Goals as goal

pub returns : goal.returns
returns c words i lt =
    let found = item_at bytes_of_word 8 length-bytes_of_word words i [] lt in
    ap (λ t. take 8 (drop (8 * i) t)) (sym (append-nil (bytes_of words))) ∙ found.2 ∙ ap bytes_of_word (sym (get_or_from_slice_get words i found.0 0 found.1))
