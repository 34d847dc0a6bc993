-- The definitions on values that were worked by hand from the layouts.
use Rattle.std.proofs.Common.{◌≡◌, List, [], ◌∷◌, ◌++◌, length, true, false, None, Some, refl, sym, ap, ◌∙◌, append-nil, replicate, arith}
use Rattle.std.proofs.lemmas.List.{length-append}
use Rattle.serial_model.specs.declared.number.Number.{Number}
use Rattle.serial_model.specs.declared.number.Change.{Change}
use Rattle.serial_model.specs.declared.number.Commit.{Commit}
use Rattle.serial_model.specs.declared.decl.Decl.{Decl}
use Rattle.serial_model.specs.declared.decl.Decl.TheVariants.{Array}
use Rattle.wire_form.specs.declared.page_words.SlotState.TheVariants.{Owned, Published, Retired}
use Rattle.wire_form.specs.Leaves.{array_leaf, tree_leaf, tree_form, record_start, word_in, value_in, minor, major}
use Rattle.wire_form.specs.Words.{clock_word, record_word, pair_word, slot_word}
use Rattle.wire_form.specs.Bytes.{bytes_of_word}
use Rattle.wire_form.specs.LogLine.{line_bytes}
use Rattle.wire_form.specs.LogFile.{IsLineOf, IsDamagedAt}
use Rattle.wire_form.specs.LineLaws.{length-line_bytes}
use Rattle.wire_form.specs.Pages.{catalogue_words}

abbrev first_number : Number
first_number = record { epoch = 1; draw = 1 }

first_clock : clock_word (record { draws = 1; epoch = 1 }) ≡ 1099511627777
first_clock = refl

locked_record : record_word (record { number = Some first_number; lock = true; absent = false }) ≡ 1152922604118474753
locked_record = refl

both_halves : pair_word (record { page = 2; slot = Some 0; shut = false }) ≡ 4294967298
both_halves = refl

published_slot : slot_word (record { passes = 1; state = Published; times = 1 }) ≡ 0x60001
published_slot = refl

retired_slot : slot_word (record { passes = 1; state = Retired; times = 1 }) ≡ 0x70001
retired_slot = refl

owned_slot : slot_word (record { passes = 0; state = Owned; times = 2 }) ≡ 0x90000
owned_slot = refl

-- the tenth word of an array's leaf is the sixth record's, and a tree's third record has its value in word 24
sixth_record : (word_in array_leaf 5 ≡ 10) × (value_in array_leaf 5 0 ≡ 11)
sixth_record = (refl, refl)

third_record : (record_start tree_leaf 2 ≡ 22) × (word_in tree_leaf 2 ≡ 23) × (value_in tree_leaf 2 0 ≡ 24)
third_record = (refl, refl, refl)

-- with one record more, a full leaf of 16 is split into leaves of 8 and 9, one of 9, with values of three words, in halves
halves : (minor tree_leaf ≡ 8) × (major tree_leaf ≡ 9) × (minor (tree_form 3) ≡ 5) × (major (tree_form 3) ≡ 5)
halves = (refl, refl, refl, refl)

-- 1:1 puts 7 at key 2 of storage 1
abbrev first_change : Change
first_change = record { key = record { storage = 1; key = 2 }; value = Some 7 }

abbrev first_commit : Commit
first_commit = record { number = first_number; changes = first_change ∷ [] }

worked_line : line_bytes first_commit
    ≡ 0 ∷ 0 ∷ 1 ∷ 0 ∷ 0 ∷ 0 ∷ 0 ∷ 1 ∷ 0 ∷ 0 ∷ 0 ∷ 0 ∷ 0 ∷ 0 ∷ 0 ∷ 1 ∷ 0 ∷ 0 ∷ 0 ∷ 0 ∷ 0 ∷ 0 ∷ 1 ∷ 1 ∷ 0 ∷ 0 ∷ 0 ∷ 0 ∷ 0 ∷ 0 ∷ 0 ∷ 2 ∷ 0 ∷ 0 ∷ 0 ∷ 0 ∷ 0 ∷ 0 ∷ 0 ∷ 7 ∷ []
unfolding bytes_of_word
worked_line = refl

-- the first catalogue of an array of 4 with id 1
first_catalogue : catalogue_words (record { epoch = 0; previous = 0; storages = record { decl = Array 1 4; root = 0 } ∷ [] })
    ≡ 0x4341540000000001 ∷ (replicate 15 0 ++ 257 ∷ 4 ∷ replicate 46 0)
first_catalogue = refl

-- ---- that line with a byte behind it

abbrev one_array : List Decl
one_array = Array 1 4 ∷ []

first_line : IsLineOf one_array first_commit
first_line = record {
  line = record {
    loggable = record {
      number = record { some_epoch = omega arith; most_epoch = omega arith; some_draw = omega arith; most_draw = omega arith };
      some = omega arith;
      most = omega arith;
      rising = (tt, tt);
    };
    each = (record { storage = omega arith; key = omega arith; value = omega arith }, tt);
  };
  each = (refl, tt);
}

-- it is damaged behind the line, where no line has a single byte
damaged_behind : IsDamagedAt one_array None (line_bytes first_commit ++ 0 ∷ []) 40
damaged_behind = record {
  front = first_commit ∷ [];
  rest = 0 ∷ [];
  lines = record { each = (first_line, tt); rising = (tt, tt); spelled = refl };
  behind = sym (ap length (append-nil (line_bytes first_commit)) ∙ length-line_bytes first_commit);
  whole = ap (λ t. t ++ 0 ∷ []) (sym (append-nil (line_bytes first_commit)));
  more = omega arith;
  none = λ c after is follows e. omega (arith, ap length e, length-append (line_bytes c) after, length-line_bytes c);
}
