-- Operations, one after another from a place on, are the text of a line's operations.
use Rattle.std.proofs.Common.{◌≡◌, ℕ, ◌+◌, ◌<◌, true, List, [], ◌∷◌, ◌++◌, length, drop, get_or, refl, sym, ap, ◌∙◌, append_assoc, arith, length-append}
use Rattle.std.specs.List.{AllByRecursion, list_all}
use Rattle.std.proofs.lemmas.Bool.{and_parts, and_from}
use Rattle.std.proofs.lemmas.List.{append-nil, drop_more}
use Rattle.lists.specs.Each.{all_push}
use Rattle.serial_model.specs.Keys.{fits}
use Rattle.serial_model.specs.declared.decl.Decl.{Decl}
use Rattle.serial_model.specs.declared.op.Op.{Op}
use Rattle.script_grammar.specs.Script.{Bytes, op_text, more_ops_text, ops_text}
use Rattle.script_grammar.specs.Front.{HasText, IsFittingAt, AddsOps}

-- ---- bytes at their places

-- a byte at its place
pub byte_there : (bytes : Bytes) (at b : ℕ) → at < length bytes → get_or bytes at 0 ≡ b → drop at bytes ≡ b ∷ drop (at + 1) bytes
byte_there bytes at b lt e = drop_more bytes at 0 lt ∙ ap (λ (c : ℕ). c ∷ drop (at + 1) bytes) e

-- two bytes, one behind the other
pub bytes_there : (bytes : Bytes) (at a b : ℕ) → at + 1 < length bytes → get_or bytes at 0 ≡ a → get_or bytes (at + 1) 0 ≡ b → drop at bytes ≡ a ∷ b ∷ drop (at + 2) bytes
bytes_there bytes at a b lt e f =
    let next : at + 1 + 1 ≡ at + 2 = omega arith in
    byte_there bytes at a (omega arith) e ∙ ap (λ (r : Bytes). a ∷ r) (byte_there bytes (at + 1) b lt f ∙ ap (λ (n : ℕ). b ∷ drop n bytes) next)

-- ---- operations, one behind the other

-- operations' texts, each with a semicolon and a space behind it
pub led_text : List Op → Bytes
led_text [] = []
led_text (op ∷ ops) = op_text op ++ (59 ∷ 32 ∷ led_text ops)

-- the operations up to this place were added, so many
pub record AreOpsBefore (bytes : Bytes) (start : ℕ) (decls : List Decl) (old new : List Op) (count at : ℕ) : Type 0 where
  pub ops : List Op
  pub added : new ≡ old ++ ops
  pub counted : count ≡ length ops
  pub text : drop start bytes ≡ led_text ops ++ drop at bytes
  pub spelled : AllByRecursion HasText ops
  pub fitting : list_all (fits decls) ops ≡ true

-- none yet
pub none_before : (bytes : Bytes) (start : ℕ) (decls : List Decl) (old : List Op) → AreOpsBefore bytes start decls old old 0 start
unfolding led_text
none_before bytes start decls old = record { ops = []; added = sym (append-nil old); counted = refl; text = refl; spelled = tt; fitting = refl }

-- the text of an operation more, with a semicolon and a space
led_push : (ops : List Op) (op : Op) (rest : Bytes) → led_text ops ++ (op_text op ++ (59 ∷ 32 ∷ rest)) ≡ led_text (ops ++ op ∷ []) ++ rest
unfolding led_text
led_push [] op rest = sym (append_assoc (op_text op) (59 ∷ 32 ∷ []) rest)
led_push (x ∷ ops) op rest =
    append_assoc (op_text x) (59 ∷ 32 ∷ led_text ops) (op_text op ++ (59 ∷ 32 ∷ rest))
    ∙ ap (λ (r : Bytes). op_text x ++ (59 ∷ 32 ∷ r)) (led_push ops op rest) ∙ sym (append_assoc (op_text x) (59 ∷ 32 ∷ led_text (ops ++ op ∷ [])) rest)

-- the last of the operations behind others
more_last : (ops : List Op) (op : Op) → 59 ∷ 32 ∷ (led_text ops ++ op_text op) ≡ more_ops_text (ops ++ op ∷ [])
unfolding led_text
more_last [] op = ap (λ (r : Bytes). 59 ∷ 32 ∷ r) (sym (append-nil (op_text op)))
more_last (x ∷ ops) op = ap (λ (r : Bytes). 59 ∷ 32 ∷ r) (append_assoc (op_text x) (59 ∷ 32 ∷ led_text ops) (op_text op) ∙ ap (λ (r : Bytes). op_text x ++ r) (more_last ops op))

-- the last of a line's operations
ops_last : (ops : List Op) (op : Op) → led_text ops ++ op_text op ≡ ops_text (ops ++ op ∷ [])
unfolding led_text
ops_last [] op = sym (append-nil (op_text op))
ops_last (x ∷ ops) op = append_assoc (op_text x) (59 ∷ 32 ∷ led_text ops) (op_text op) ∙ ap (λ (r : Bytes). op_text x ++ r) (more_last ops op)

-- one more that fits
fit_push : (decls : List Decl) (ops : List Op) (op : Op) → list_all (fits decls) ops ≡ true → fits decls op ≡ true → list_all (fits decls) (ops ++ op ∷ []) ≡ true
fit_push decls [] op all one = and_from (fits decls op) true one refl
fit_push decls (x ∷ ops) op all one =
    let parts = and_parts (fits decls x) (list_all (fits decls) ops) all in
    and_from (fits decls x) (list_all (fits decls) (ops ++ op ∷ [])) parts.0 (fit_push decls ops op parts.1 one)

-- what is added one by one is added
pub added_push : (old new newer ops : List Op) (op : Op) → new ≡ old ++ ops → newer ≡ new ++ op ∷ [] → newer ≡ old ++ (ops ++ op ∷ [])
added_push old new newer ops op e f = f ∙ ap (λ (os : List Op). os ++ op ∷ []) e ∙ append_assoc old ops (op ∷ [])

-- an operation more, with others behind it
pub ops_more : (bytes : Bytes) (start : ℕ) (decls : List Decl) (old new newer : List Op) (count at : ℕ) (op : Op) (end next : ℕ) → AreOpsBefore bytes start decls old new count at
    → IsFittingAt bytes at decls op end → newer ≡ new ++ op ∷ [] → drop end bytes ≡ 59 ∷ 32 ∷ drop next bytes
    → AreOpsBefore bytes start decls old newer (count + 1) next
ops_more bytes start decls old new newer count at op end next before one e separator =
    let ops : List Op = before.ops in
    record {
      ops = ops ++ op ∷ [];
      added = added_push old new newer ops op before.added e;
      counted = omega (arith, before.counted, length-append ops (op ∷ []));
      text = before.text ∙ ap (λ (r : Bytes). led_text ops ++ r) (one.text ∙ ap (λ (r : Bytes). op_text op ++ r) separator) ∙ led_push ops op (drop next bytes);
      spelled = all_push HasText ops op before.spelled one.spelled;
      fitting = fit_push decls ops op before.fitting one.fitting;
    }

-- the last operation, before a newline
pub ops_end : (bytes : Bytes) (start : ℕ) (decls : List Decl) (old new newer : List Op) (count at : ℕ) (op : Op) (end : ℕ) → AreOpsBefore bytes start decls old new count at
    → IsFittingAt bytes at decls op end → newer ≡ new ++ op ∷ [] → count < 16 → end < start + 1022 → drop end bytes ≡ 10 ∷ drop (end + 1) bytes
    → AddsOps bytes start decls old newer (count + 1) end
ops_end bytes start decls old new newer count at op end before one e few near newline =
    let ops : List Op = before.ops in
    let counted : count + 1 ≡ length (ops ++ op ∷ []) = omega (arith, before.counted, length-append ops (op ∷ [])) in
    record {
      ops = ops ++ op ∷ [];
      are = record {
        near = near;
        text = before.text ∙ ap (λ (r : Bytes). led_text ops ++ r) (one.text ∙ ap (λ (r : Bytes). op_text op ++ r) newline)
            ∙ sym (append_assoc (led_text ops) (op_text op) (10 ∷ drop (end + 1) bytes)) ∙ ap (λ (r : Bytes). r ++ 10 ∷ drop (end + 1) bytes) (ops_last ops op);
        some = omega (arith, counted);
        few = omega (arith, counted);
        spelled = all_push HasText ops op before.spelled one.spelled;
        fitting = fit_push decls ops op before.fitting one.fitting;
      };
      added = added_push old new newer ops op before.added e;
      counted = counted;
    }
