-- In the text of an operation of a script no test finds a fault.
use Rattle.std.proofs.Common.{◌≡◌, ℕ, ◌^◌, ◌<◌, Bool, true, false, eqb, List, [], ◌∷◌, ◌++◌, refl, arith}
use Rattle.std.specs.Prelude.{◌==◌, ◌&&◌, ◌||◌, not, nat_le, nat_lt, codes}
use Rattle.std.specs.Fmt.{decimal}
use Rattle.std.specs.List.{list_any}
use Rattle.std.proofs.lemmas.Bool.{lt-leb}
use Rattle.decimals.specs.Laws.{number_of_again}
use Rattle.serial_model.specs.Keys.{fits, has_key, id_of, is_tree}
use Rattle.serial_model.specs.declared.key.Key.{Key}
use Rattle.serial_model.specs.declared.decl.Decl.{Decl}
use Rattle.serial_model.specs.declared.decl.Decl.TheVariants.{Array, Tree}
use Rattle.serial_model.specs.declared.op.Op.{Op}
use Rattle.serial_model.specs.declared.op.Op.TheVariants.{Read, Write, Remove, Add, Take, Scan}
use Rattle.script_grammar.specs.Script.{key_text, op_text}
use Rattle.script_grammar.specs.Faults.{is_undeclared, op_is}
use Rattle.script_grammar.proofs.Found.{or_from, or_more, denied}
use Rattle.script_grammar.proofs.WordTexts.{IsKey, words_key, words_value}
use Rattle.script_grammar.proofs.OpTexts.{IsSpelled, key_at}
use Rattle.script_grammar.proofs.Rules.{has_key-tree}
use Rattle.script_grammar.proofs.GoodOps.{HasNoFault}

-- ---- storages

-- what holds of the first of a list, or of the others
declared_first : (same below others found : Bool) → ((same && below) || others) ≡ true → (others ≡ true → found ≡ true) → (same || found) ≡ true
declared_first true below others found e more = refl
declared_first false below others found e more = more e

-- a storage with a key is declared
declared_key : (decls : List Decl) (k : Key) → has_key decls k ≡ true → list_any (λ d. id_of d == k.storage) decls ≡ true
declared_key [] k e = absurd cc
declared_key (Array id size ∷ decls) k e = declared_first (id == k.storage) (nat_lt k.key size) (has_key decls k) (list_any (λ d. id_of d == k.storage) decls) e (declared_key decls k)
declared_key (Tree id ∷ decls) k e = or_more (id == k.storage) (has_key decls k) (list_any (λ d. id_of d == k.storage) decls) e (declared_key decls k)

not_undeclared : (decls : List Decl) (k : Key) → IsKey k → has_key decls k ≡ true → is_undeclared decls k.storage ≡ false
not_undeclared decls k is e = or_from (nat_le 256 k.storage) _ (lt-leb 256 k.storage is.storage) (rw (declared_key decls k e) refl)

-- ---- operations

-- an operation of a key alone, behind its letter; the tree is there where the letter asks for one
no_fault_short : (decls : List Decl) (letter : ℕ) (k : Key) → IsKey k → has_key decls k ≡ true → eqb letter 32 ≡ false → list_any (λ c. c == letter) (codes "rd") ≡ true
    → (list_any (λ c. c == letter) (codes "ds") && not (is_tree decls k.storage)) ≡ false → HasNoFault decls (letter ∷ 32 ∷ key_text k)
unfolding op_is
no_fault_short decls letter k is e other one tree =
    let small = is.storage in
    let s = number_of_again k.storage (omega arith) in
    let n = number_of_again k.key is.key in
    record {
      shape = rw (other, words_key k is, one) refl;
      numbers = rw (other, words_key k is, s, n) refl;
      declared = rw (other, words_key k is, s) (not_undeclared decls k is e);
      kind = rw (other, words_key k is, s) tree;
      range = rw (other, words_key k is, s, n, e) refl;
    }

-- the same with a value
no_fault_long : (decls : List Decl) (letter : ℕ) (k : Key) (v : ℕ) → IsKey k → v < 2 ^ 64 → has_key decls k ≡ true → eqb letter 32 ≡ false → list_any (λ c. c == letter) (codes "wats") ≡ true
    → (list_any (λ c. c == letter) (codes "ds") && not (is_tree decls k.storage)) ≡ false → HasNoFault decls (letter ∷ 32 ∷ ((key_text k ++ (32 ∷ [])) ++ decimal v))
unfolding op_is
no_fault_long decls letter k v is lt e other one tree =
    let small = is.storage in
    let s = number_of_again k.storage (omega arith) in
    let n = number_of_again k.key is.key in
    let m = number_of_again v lt in
    record {
      shape = rw (other, words_value k v is lt, one) refl;
      numbers = rw (other, words_value k v is lt, s, n, m) refl;
      declared = rw (other, words_value k v is lt, s) (not_undeclared decls k is e);
      kind = rw (other, words_value k v is lt, s) tree;
      range = rw (other, words_value k v is lt, s, n, e) refl;
    }

pub no_fault_op : (decls : List Decl) (op : Op) → IsSpelled op → fits decls op ≡ true → HasNoFault decls (op_text op)
no_fault_op decls (Read k) is e = no_fault_short decls 114 k is e refl refl refl
no_fault_op decls (Write k v) is e = no_fault_long decls 119 k v is.0 is.1 e refl refl refl
no_fault_op decls (Add k v) is e = no_fault_long decls 97 k v is.0 is.1 e refl refl refl
no_fault_op decls (Take k v) is e = no_fault_long decls 116 k v is.0 is.1 e refl refl refl
no_fault_op decls (Remove k) is e = no_fault_short decls 100 k is (has_key-tree decls k e) refl refl (denied (is_tree decls k.storage) e)
no_fault_op decls (Scan storage low high) is e =
    let k : Key = key_at storage low in
    no_fault_long decls 115 k high is.0 is.1 (has_key-tree decls k e) refl refl (denied (is_tree decls storage) e)
