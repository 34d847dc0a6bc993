-- Operations' texts, joined and parted.
use Rattle.std.proofs.Common.{◌≡◌, ℕ, ◌^◌, ◌<◌, Bool, true, false, eqb, List, [], ◌∷◌, ◌++◌, map, refl, sym, ap, ◌∙◌, arith, drop}
use Rattle.std.specs.Prelude.{◌==◌}
use Rattle.std.specs.Fmt.{decimal}
use Rattle.std.specs.List.{AllByRecursion}
use Rattle.std.specs.Str.Parse.{AllDigits}
use Rattle.std.proofs.lemmas.Bool.{ne_eqb, eqb-true, and_parts}
use Rattle.std.proofs.lemmas.List.{append-nil}
use Rattle.std.proofs.lemmas.Str.Parse.{digit_from_value}
use Rattle.serial_model.specs.declared.key.Key.{Key}
use Rattle.serial_model.specs.declared.op.Op.{Op}
use Rattle.serial_model.specs.declared.op.Op.TheVariants.{Read, Write, Remove, Add, Take, Scan}
use Rattle.script_grammar.specs.Script.{Bytes, key_text, op_text, more_ops_text, ops_text}
use Rattle.script_grammar.specs.Words.{begins_space, begins_separator, before_parts, parts}
use Rattle.script_grammar.proofs.Parts.{parts_cons}
use Rattle.script_grammar.proofs.WordTexts.{IsKey, digits_of}
use Rattle.script_grammar.proofs.OpTexts.{IsSpelled, key_at}

-- ---- the parts, joined again

-- each part behind a semicolon and a space
more_joined : List Bytes → Bytes
more_joined [] = []
more_joined (p ∷ ps) = 59 ∷ 32 ∷ (p ++ more_joined ps)

-- parts with a semicolon and a space between them
pub joined_ops : List Bytes → Bytes
joined_ops [] = []
joined_ops (p ∷ ps) = p ++ more_joined ps

-- a space at the front of the first part
space_first : (p : Bytes) (rest : Bytes) (ps : List Bytes) → rest ≡ more_joined ps → begins_space (p ++ rest) ≡ true → p ≡ 32 ∷ drop 1 p
unfolding more_joined
space_first [] rest [] e h = absurd (let k = rw e at h in cc)
space_first [] rest (q ∷ ps) e h = absurd (let k = rw e at h in cc)
space_first (c ∷ p) rest ps e h = ap (λ (k : ℕ). k ∷ p) (eqb-true c 32 h)

-- one byte more before the parts
joined_before : (is : Bool) (b : ℕ) (bs first : Bytes) (others : List Bytes) → begins_separator (b ∷ bs) ≡ is → joined_ops (first ∷ others) ≡ bs → joined_ops (before_parts is b (first ∷ others)) ≡ b ∷ bs
unfolding joined_ops more_joined
joined_before false b bs first others sep e = ap (λ (r : Bytes). b ∷ r) e
joined_before true b bs first others sep e =
    let both = and_parts (eqb b 59) (begins_space bs) sep in
    let space : begins_space (first ++ more_joined others) ≡ true = ap begins_space e ∙ both.1 in
    let head : first ≡ 32 ∷ drop 1 first = space_first first (more_joined others) others refl space in
    ap (λ (k : ℕ). k ∷ 32 ∷ (drop 1 first ++ more_joined others)) (sym (eqb-true b 59 both.0))
    ∙ ap (λ (r : Bytes). b ∷ (r ++ more_joined others)) (sym head) ∙ ap (λ (r : Bytes). b ∷ r) e

-- the parts with their separators are the text
pub joined_parts : (bs : Bytes) → joined_ops (parts bs) ≡ bs
unfolding joined_ops more_joined
joined_parts [] = refl
joined_parts (b ∷ bs) =
    let cut = parts_cons bs in
    let so_far : joined_ops (cut.0 ∷ cut.1) ≡ bs = ap joined_ops (sym cut.2) ∙ joined_parts bs in
    ap (λ (ps : List Bytes). joined_ops (before_parts (begins_separator (b ∷ bs)) b ps)) cut.2
    ∙ joined_before (begins_separator (b ∷ bs)) b bs cut.0 cut.1 refl so_far

-- operations' texts, joined
more_texts : (ops : List Op) → more_joined (map op_text ops) ≡ more_ops_text ops
unfolding more_joined
more_texts [] = refl
more_texts (op ∷ ops) = ap (λ (r : Bytes). 59 ∷ 32 ∷ (op_text op ++ r)) (more_texts ops)

-- the same of all operations of a line
pub joined_texts : (ops : List Op) → joined_ops (map op_text ops) ≡ ops_text ops
unfolding joined_ops
joined_texts [] = refl
joined_texts (op ∷ ops) = ap (λ (r : Bytes). op_text op ++ r) (more_texts ops)

-- ---- operations' texts, parted

-- no semicolon stands in the bytes
abbrev HasNoSemicolon : Bytes → Type 0
HasNoSemicolon bs = AllByRecursion (λ b. (b == 59) ≡ false) bs

digits_semicolon : (ds : Bytes) → AllDigits 10 ds → HasNoSemicolon ds
digits_semicolon [] all = tt
digits_semicolon (d ∷ ds) all = let h = digit_from_value d all.0 in (ne_eqb d 59 (λ same. omega arith), digits_semicolon ds all.1)

append_semicolon : (xs ys : Bytes) → HasNoSemicolon xs → HasNoSemicolon ys → HasNoSemicolon (xs ++ ys)
append_semicolon [] ys front back = back
append_semicolon (x ∷ xs) ys front back = (front.0, append_semicolon xs ys front.1 back)

key_semicolon : (k : Key) → IsKey k → HasNoSemicolon (key_text k)
key_semicolon k is =
    let small = is.storage in
    append_semicolon (decimal k.storage ++ (32 ∷ [])) (decimal k.key)
    (append_semicolon (decimal k.storage) (32 ∷ []) (digits_semicolon (decimal k.storage) (digits_of k.storage (omega arith))) (refl, tt))
    (digits_semicolon (decimal k.key) (digits_of k.key is.key))

value_semicolon : (k : Key) (v : ℕ) → IsKey k → v < 2 ^ 64 → HasNoSemicolon ((key_text k ++ (32 ∷ [])) ++ decimal v)
value_semicolon k v is lt =
    append_semicolon (key_text k ++ (32 ∷ [])) (decimal v) (append_semicolon (key_text k) (32 ∷ []) (key_semicolon k is) (refl, tt)) (digits_semicolon (decimal v) (digits_of v lt))

op_semicolon : (op : Op) → IsSpelled op → HasNoSemicolon (op_text op)
op_semicolon (Read k) is = (refl, (refl, key_semicolon k is))
op_semicolon (Write k v) is = (refl, (refl, value_semicolon k v is.0 is.1))
op_semicolon (Add k v) is = (refl, (refl, value_semicolon k v is.0 is.1))
op_semicolon (Take k v) is = (refl, (refl, value_semicolon k v is.0 is.1))
op_semicolon (Remove k) is = (refl, (refl, key_semicolon k is))
op_semicolon (Scan storage low high) is = (refl, (refl, value_semicolon (key_at storage low) high is.0 is.1))

-- bytes without a semicolon before a separator are a part
parts_first : (xs rest : Bytes) → HasNoSemicolon xs → parts (xs ++ (59 ∷ 32 ∷ rest)) ≡ xs ∷ parts rest
parts_first [] rest none = let first = parts_cons rest in rw first.2 refl
parts_first (x ∷ xs) rest none = rw (none.0, parts_first xs rest none.1) refl

-- bytes without a semicolon are a part
parts_last : (xs : Bytes) → HasNoSemicolon xs → parts xs ≡ xs ∷ []
parts_last [] none = refl
parts_last (x ∷ xs) none = rw (none.0, parts_last xs none.1) refl

-- the operations' texts are the parts
pub parts_texts : (op : Op) (ops : List Op) → IsSpelled op → AllByRecursion IsSpelled ops → parts (op_text op ++ more_ops_text ops) ≡ op_text op ∷ map op_text ops
parts_texts op [] is are = ap parts (append-nil (op_text op)) ∙ parts_last (op_text op) (op_semicolon op is)
parts_texts op (next ∷ ops) is are =
    parts_first (op_text op) (op_text next ++ more_ops_text ops) (op_semicolon op is) ∙ ap (λ (ps : List Bytes). op_text op ∷ ps) (parts_texts next ops are.0 are.1)
