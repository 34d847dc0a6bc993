-- Worked texts and their scripts, computed.
use Rattle.std.proofs.Common.{◌≡◌, ℕ, [], ◌∷◌, Some, None, refl, arith}
use Rattle.std.specs.Prelude.{codes}
use Rattle.std.specs.Fmt.{digits}
use Rattle.serial_model.specs.declared.key.Key.{Key}
use Rattle.serial_model.specs.declared.op.Op.TheVariants.{Read, Write}
use Rattle.serial_model.specs.declared.decl.Decl.TheVariants.{Array}
use Rattle.script_grammar.specs.declared.fault.FaultKind.TheVariants.{Word, Number, Declared, Kind, Range}
use Rattle.decimals.specs.Numbers.{number_of, digits_number, value_of}
use Rattle.script_grammar.specs.Faults.{op_is, some_op_is, is_decl_shape, is_too_long, has_no_shape, lacks_number, is_too_many, is_misdeclared, is_of_other_kind, is_out_of_range, kind_of, place_past, first_fault, fault_of}
use Rattle.script_grammar.specs.Script.{Script, Worker, IsTextOf, lines_of, IsScript}

abbrev at : ℕ → ℕ → Key
at storage key = record { storage = storage; key = key }

abbrev script : Script
script = record {
  decls = Array 1 4 ∷ [];
  rounds = record {
    lines = Worker 0 (Write (at 1 2) 7 ∷ Read (at 1 2) ∷ []) ∷ Worker 0 (Read (at 1 0) ∷ []) ∷ [];
  } ∷ [];
}

lines_of_text : lines_of (codes "array 1 4\n0 w 1 2 7; r 1 2\n0 r 1 0\n") ≡ codes "array 1 4" ∷ codes "0 w 1 2 7; r 1 2" ∷ codes "0 r 1 0" ∷ []
lines_of_text = refl

script_by_rules : IsScript script
script_by_rules = record {
  decls = record { few = omega arith; each = ((omega arith, omega arith, omega arith), tt); distinct = (tt, tt) };
  rounds = (
    record {
      few_lines = omega arith;
      lines = (
        record {
          worker = omega arith;
          some_op = omega arith;
          few_ops = omega arith;
          ops = (record { fitting = refl; numbers = (omega arith, omega arith) }, (record { fitting = refl; numbers = omega arith }, tt));
        },
        (record { worker = omega arith; some_op = omega arith; few_ops = omega arith; ops = (record { fitting = refl; numbers = omega arith }, tt) }, tt),
      );
    },
    tt,
  );
}

is_text : IsTextOf (codes "array 1 4\n0 w 1 2 7; r 1 2\n0 r 1 0\n") script
unfolding digits
is_text = record {
  size = omega arith;
  short = (omega arith, (omega arith, (omega arith, tt)));
  joined = [];
  rest = Worker 0 (Write (at 1 2) 7 ∷ Read (at 1 2) ∷ []) ∷ Worker 0 (Read (at 1 0) ∷ []) ∷ [];
  rounds = refl;
  lines = refl;
  rules = script_by_rules;
}

-- ---- worked faults, computed

number_told : fault_of (codes "array 1 4\n0 r 1 0;") ≡ Some (record { line = 2; kind = Number })
unfolding fault_of first_fault place_past kind_of is_too_long has_no_shape lacks_number is_too_many is_misdeclared is_of_other_kind is_out_of_range is_decl_shape some_op_is op_is number_of digits_number value_of
number_told = refl

word_told : fault_of (codes "array 1 4\n\n0 r 1 0; ") ≡ Some (record { line = 3; kind = Word })
unfolding fault_of first_fault place_past kind_of is_too_long has_no_shape lacks_number is_too_many is_misdeclared is_of_other_kind is_out_of_range is_decl_shape some_op_is op_is number_of digits_number value_of
word_told = refl

declared_told : fault_of (codes "join\narray 300 0") ≡ Some (record { line = 2; kind = Declared })
unfolding fault_of first_fault place_past kind_of is_too_long has_no_shape lacks_number is_too_many is_misdeclared is_of_other_kind is_out_of_range is_decl_shape some_op_is op_is number_of digits_number value_of
declared_told = refl

range_told : fault_of (codes "array 1 4\n8 r 1 0") ≡ Some (record { line = 2; kind = Range })
unfolding fault_of first_fault place_past kind_of is_too_long has_no_shape lacks_number is_too_many is_misdeclared is_of_other_kind is_out_of_range is_decl_shape some_op_is op_is number_of digits_number value_of
range_told = refl

kind_told : fault_of (codes "array 1 4\ntree 2\n0 r 1 9; d 1 0") ≡ Some (record { line = 3; kind = Kind })
unfolding fault_of first_fault place_past kind_of is_too_long has_no_shape lacks_number is_too_many is_misdeclared is_of_other_kind is_out_of_range is_decl_shape some_op_is op_is number_of digits_number value_of
kind_told = refl

nothing_told_of_trees : fault_of (codes "tree 255\n0 s 255 9 0; d 255 18446744073709551615") ≡ None
unfolding fault_of first_fault place_past kind_of is_too_long has_no_shape lacks_number is_too_many is_misdeclared is_of_other_kind is_out_of_range is_decl_shape some_op_is op_is number_of digits_number value_of
nothing_told_of_trees = refl

nothing_told : fault_of (codes "array 1 4\n0 a 1 3 7; r 1 3\njoin\n7 t 1 0 1\n") ≡ None
unfolding fault_of first_fault place_past kind_of is_too_long has_no_shape lacks_number is_too_many is_misdeclared is_of_other_kind is_out_of_range is_decl_shape some_op_is op_is number_of digits_number value_of
nothing_told = refl
