use Rattle.wire_form.specs.DeviceLaws.{one_list_of_words, length-words, some_words, words_stay}
use Rattle.wire_form.proofs.laws.one_list_of_words.Goals as goal

pub returns-clause-one : goal.returns-clause-one
returns-clause-one c = one_list_of_words

pub returns-clause-whole : goal.returns-clause-whole
returns-clause-whole c = length-words

pub returns-clause-some : goal.returns-clause-some
returns-clause-some c = some_words

pub returns-clause-stays : goal.returns-clause-stays
returns-clause-stays c = words_stay
