-- What the reader tests of operations and of declarations, and the rules of a script.
use Rattle.std.proofs.Common.{◌≡◌, ◌≢◌, inl, inr, ℕ, ◌<◌, ◌^◌, Bool, true, false, eqb, List, [], ◌∷◌, ◌++◌, refl, subst, map}
use Rattle.std.specs.Prelude.{◌==◌, nat_lt}
use Rattle.std.specs.List.{AllByRecursion, list_any, list_all}
use Rattle.std.proofs.lemmas.Bool.{eqb-true, eqb-false, ne_eqb, and_parts, and_from}
use Rattle.lists.specs.Each.{AreDistinct}
use Rattle.serial_model.specs.Keys.{id_of, fits, has_key, has_key_of, is_tree}
use Rattle.serial_model.specs.Decls.{IsDecl}
use Rattle.serial_model.specs.declared.key.Key.{Key}
use Rattle.serial_model.specs.declared.op.Op.{Op}
use Rattle.serial_model.specs.declared.op.Op.TheVariants.{Read, Write, Remove, Add, Take, Scan}
use Rattle.serial_model.specs.declared.decl.Decl.{Decl}
use Rattle.serial_model.specs.declared.decl.Decl.TheVariants.{Array, Tree}
use Rattle.script_grammar.specs.Script.{Line, Worker, Keeper, IsOp, IsLine}
use Rattle.script_grammar.proofs.Found.{or_parts, or_from, or_cases, or_last, or_more}
use Rattle.script_grammar.proofs.WordTexts.{IsKey}
use Rattle.script_grammar.proofs.OpTexts.{IsSpelled, key_at}
use Rattle.script_grammar.proofs.LineTexts.{IsSpelledLine}

-- ---- lists

-- of a list with all, the front
pub all_front : {X : Type 0} (P : X → Type 0) (xs ys : List X) → AllByRecursion P (xs ++ ys) → AllByRecursion P xs
all_front P [] ys all = tt
all_front P (x ∷ xs) ys all = (all.0, all_front P xs ys all.1)

-- of a list with all, the back
pub all_back : {X : Type 0} (P : X → Type 0) (xs ys : List X) → AllByRecursion P (xs ++ ys) → AllByRecursion P ys
all_back P [] ys all = all
all_back P (x ∷ xs) ys all = all_back P xs ys all.1

-- ---- operations that fit a declared storage

-- a tree has each key
pub has_key-tree : (decls : List Decl) (k : Key) → is_tree decls k.storage ≡ true → has_key decls k ≡ true
has_key-tree [] k e = absurd cc
has_key-tree (Array id size ∷ decls) k e = or_last (has_key_of k (Array id size)) (has_key decls k) (has_key-tree decls k e)
has_key-tree (Tree id ∷ decls) k e = or_more (id == k.storage) (is_tree decls k.storage) (has_key decls k) e (has_key-tree decls k)

-- the id of a declaration that has the key is below 256
id_below : (d : Decl) (k : Key) → IsDecl d → has_key_of k d ≡ true → k.storage < 256
id_below (Array id size) k is e =
    let same : id ≡ k.storage = eqb-true id k.storage (and_parts (eqb id k.storage) (nat_lt k.key size) e).0 in
    subst (λ (s : ℕ). s < 256) same is.0
id_below (Tree id) k is e = subst (λ (s : ℕ). s < 256) (eqb-true id k.storage e) is

-- the same of all declarations
storage_below : (decls : List Decl) (k : Key) → AllByRecursion IsDecl decls → has_key decls k ≡ true → k.storage < 256
storage_below [] k all e = absurd cc
storage_below (d ∷ decls) k all e =
    elim (or_cases (has_key_of k d) (has_key decls k) e) [
      | inl here ↦ id_below d k all.0 here
      | inr there ↦ storage_below decls k all.1 there
    ]

-- a key of a declared storage has a spelling
key_spelled : (decls : List Decl) (k : Key) → AllByRecursion IsDecl decls → has_key decls k ≡ true → k.key < 2 ^ 64 → IsKey k
key_spelled decls k all e lt = record { storage = storage_below decls k all e; key = lt }

-- an operation by the rules has a spelling
op_spelled : (decls : List Decl) (op : Op) → AllByRecursion IsDecl decls → IsOp decls op → IsSpelled op
op_spelled decls (Read k) all is = key_spelled decls k all is.fitting is.numbers
op_spelled decls (Write k v) all is = (key_spelled decls k all is.fitting is.numbers.0, is.numbers.1)
op_spelled decls (Remove k) all is = key_spelled decls k all (has_key-tree decls k is.fitting) is.numbers
op_spelled decls (Add k v) all is = (key_spelled decls k all is.fitting is.numbers.0, is.numbers.1)
op_spelled decls (Take k v) all is = (key_spelled decls k all is.fitting is.numbers.0, is.numbers.1)
op_spelled decls (Scan storage low high) all is =
    let k : Key = key_at storage low in
    (key_spelled decls k all (has_key-tree decls k is.fitting) is.numbers.0, is.numbers.1)

-- the same of all operations
ops_spelled : (decls : List Decl) (ops : List Op) → AllByRecursion IsDecl decls → AllByRecursion (IsOp decls) ops → AllByRecursion IsSpelled ops
ops_spelled decls [] all are = tt
ops_spelled decls (op ∷ ops) all are = (op_spelled decls op all are.0, ops_spelled decls ops all are.1)

-- a line by the rules has a spelling
pub line_spelled : (decls : List Decl) (l : Line) → AllByRecursion IsDecl decls → IsLine decls l → IsSpelledLine l
line_spelled decls (Worker worker ops) all is = (is.worker, record { some = is.some_op; few = is.few_ops; each = ops_spelled decls ops all is.ops })
line_spelled decls (Keeper line) all is = is

-- operations by the rules pass the test
pub ops_fit : (decls : List Decl) (ops : List Op) → AllByRecursion (IsOp decls) ops → list_all (fits decls) ops ≡ true
ops_fit decls [] are = refl
ops_fit decls (op ∷ ops) are = and_from (fits decls op) (list_all (fits decls) ops) are.0.fitting (ops_fit decls ops are.1)

-- an operation with a spelling that passes the test is one by the rules
op_by_rules : (decls : List Decl) (op : Op) → IsSpelled op → fits decls op ≡ true → IsOp decls op
op_by_rules decls (Read k) is e = record { fitting = e; numbers = is.key }
op_by_rules decls (Write k v) is e = record { fitting = e; numbers = (is.0.key, is.1) }
op_by_rules decls (Remove k) is e = record { fitting = e; numbers = is.key }
op_by_rules decls (Add k v) is e = record { fitting = e; numbers = (is.0.key, is.1) }
op_by_rules decls (Take k v) is e = record { fitting = e; numbers = (is.0.key, is.1) }
op_by_rules decls (Scan storage low high) is e = record { fitting = e; numbers = (is.0.key, is.1) }

-- the same of all operations
ops_by_rules : (decls : List Decl) (ops : List Op) → AllByRecursion IsSpelled ops → list_all (fits decls) ops ≡ true → AllByRecursion (IsOp decls) ops
ops_by_rules decls [] are e = tt
ops_by_rules decls (op ∷ ops) are e =
    let parts = and_parts (fits decls op) (list_all (fits decls) ops) e in
    (op_by_rules decls op are.0 parts.0, ops_by_rules decls ops are.1 parts.1)

-- a line with a spelling whose operations pass the test is one by the rules
pub line_by_rules : (decls : List Decl) (worker : ℕ) (ops : List Op) → IsSpelledLine (Worker worker ops) → list_all (fits decls) ops ≡ true → IsLine decls (Worker worker ops)
line_by_rules decls worker ops is e = record {
  worker = is.0;
  some_op = is.1.some;
  few_ops = is.1.few;
  ops = ops_by_rules decls ops is.1.each e;
}

-- ---- distinct declarations

-- a declaration with the id of this one is among them
abbrev pub is_declared : Decl → List Decl → Bool
is_declared d = list_any (λ e. id_of e == id_of d)

-- an id is none of the ids, and not of one more
others_push : (id : ℕ) (ds : List Decl) (d : Decl) → AllByRecursion (λ y. id ≢ y) (map id_of ds) → id ≢ id_of d → AllByRecursion (λ y. id ≢ y) (map id_of (ds ++ d ∷ []))
others_push id [] d all last = (last, tt)
others_push id (e ∷ ds) d all last = (all.0, others_push id ds d all.1 last)

-- distinct ids stay so with a new one
pub distinct_push : (ds : List Decl) (d : Decl) → AreDistinct (map id_of ds) → is_declared d ds ≡ false → AreDistinct (map id_of (ds ++ d ∷ []))
distinct_push [] d are new = (tt, tt)
distinct_push (e ∷ ds) d are new =
    let parts = or_parts (eqb (id_of e) (id_of d)) (is_declared d ds) new in
    (others_push (id_of e) ds d are.0 (eqb-false (id_of e) (id_of d) parts.0), distinct_push ds d are.1 parts.1)

-- an id that is none of the ids is not that of one in the middle
other_in : (id : ℕ) (ds : List Decl) (d : Decl) (more : List Decl) → AllByRecursion (λ y. id ≢ y) (map id_of (ds ++ d ∷ more)) → id ≢ id_of d
other_in id [] d more all = all.0
other_in id (e ∷ ds) d more all = other_in id ds d more all.1

-- of distinct ids, each is new after those before it
pub distinct_new : (ds : List Decl) (d : Decl) (more : List Decl) → AreDistinct (map id_of (ds ++ d ∷ more)) → is_declared d ds ≡ false
distinct_new [] d more are = refl
distinct_new (e ∷ ds) d more are =
    or_from (eqb (id_of e) (id_of d)) (is_declared d ds) (ne_eqb (id_of e) (id_of d) (other_in (id_of e) ds d more are.0)) (distinct_new ds d more are.1)
