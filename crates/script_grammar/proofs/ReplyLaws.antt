-- The words of a line's replies, one operation after another.
use Rattle.std.proofs.Common.{◌≡◌, ◌∙◌, ap, ℕ, zero, suc, ◌+◌, ◌*◌, ◌<◌, ◌≤◌, List, [], ◌∷◌, length, map, take}
use Rattle.std.proofs.Common.{get_or, arith}
use Rattle.serial_model.specs.declared.op.Op.{Op}
use Rattle.serial_model.specs.declared.op.Op.TheVariants.{Read, Write, Remove, Add, Take, Scan}
use Rattle.script_grammar.specs.declared.flat_ops.FlatOp.{FlatOp}
use Rattle.script_grammar.specs.FlatOps.{op_of}
use Rattle.script_grammar.specs.ReplyRoom.{most_words, words_for}

most_one : (op : Op) → words_for op ≤ 34
most_one (Read k) = omega arith
most_one (Write k v) = omega arith
most_one (Remove k) = omega arith
most_one (Add k v) = omega arith
most_one (Take k v) = omega arith
most_one (Scan storage low high) = omega arith

-- each operation has 34 at most
pub most_by : (ops : List Op) → most_words ops ≤ 34 * length ops
most_by [] = omega arith
most_by (op ∷ ops) = omega (arith, most_one op, most_by ops)

-- those of the first operations as they lie in memory
abbrev pub front_words : List FlatOp → ℕ → ℕ
front_words flats i = most_words (map op_of (take i flats))

front_more : (flats : List FlatOp) (i : ℕ) (other : FlatOp) → i < length flats
    → front_words flats (suc i) ≡ front_words flats i + words_for (op_of (get_or flats i other))
front_more [] i other less = absurd (omega (arith, less))
front_more (flat ∷ flats) zero other less = omega arith
front_more (flat ∷ flats) (suc i) other less = omega (arith, front_more flats i other (omega (arith, less)))

-- one operation more
pub front_next : (flats : List FlatOp) (i : ℕ) (other : FlatOp) → i < length flats
    → front_words flats (i + 1) ≡ front_words flats i + words_for (op_of (get_or flats i other))
front_next flats i other less =
    let next : i + 1 ≡ suc i = omega arith in ap (front_words flats) next ∙ front_more flats i other less

front_long : (flats : List FlatOp) (i : ℕ) → length (map op_of (take i flats)) ≤ length flats
front_long flats zero = omega arith
front_long [] (suc i) = omega arith
front_long (flat ∷ flats) (suc i) = omega (arith, front_long flats i)

-- those of a line are few
pub front_few : (flats : List FlatOp) (i : ℕ) → length flats ≤ 16 → front_words flats i ≤ 544
front_few flats i few = omega (arith, most_by (map op_of (take i flats)), front_long flats i, few)
