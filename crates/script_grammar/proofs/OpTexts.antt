-- Operations that are read are spelled so, and what is spelled so is read.
use Rattle.std.proofs.Common.{◌≡◌, ℕ, ◌^◌, ◌<◌, Bool, true, false, cond, eqb, ltb, List, [], ◌∷◌, ◌++◌, map, Some, None, refl, sym, ap, subst, ◌∙◌, append_assoc, arith}
use Rattle.std.specs.Fmt.{decimal}
use Rattle.std.specs.List.{AllByRecursion, join_with_byte}
use Rattle.std.proofs.lemmas.Bool.{eqb-true, ltb-true, lt-ltb}
use Rattle.decimals.specs.Numbers.{number_of}
use Rattle.decimals.specs.Laws.{number_of_takes, number_of_again}
use Rattle.serial_model.specs.declared.key.Key.{Key}
use Rattle.serial_model.specs.declared.op.Op.{Op}
use Rattle.serial_model.specs.declared.op.Op.TheVariants.{Read, Write, Remove, Add, Take, Scan}
use Rattle.script_grammar.specs.Script.{Bytes, key_text, op_text}
use Rattle.script_grammar.specs.Words.{◌>>=◌, words}
use Rattle.script_grammar.specs.Reading.{key_in, letter_in, short_op_by, long_op_by, op_in, ops_in}
use Rattle.script_grammar.proofs.Found.{bind_some, test_some, some_same}
use Rattle.script_grammar.proofs.WordTexts.{IsKey, words_join, words_key, words_value}

-- a key of a storage
abbrev pub key_at : ℕ → ℕ → Key
key_at storage key = record { storage = storage; key = key }

-- an operation that has a spelling
abbrev pub IsSpelled : Op → Type 0
IsSpelled (Read k) = IsKey k
IsSpelled (Write k v) = IsKey k × (v < 2 ^ 64)
IsSpelled (Remove k) = IsKey k
IsSpelled (Add k v) = IsKey k × (v < 2 ^ 64)
IsSpelled (Take k v) = IsKey k × (v < 2 ^ 64)
IsSpelled (Scan storage low high) = IsKey (key_at storage low) × (high < 2 ^ 64)

-- ---- what is read is spelled so

-- the words of a key
record AreOfKey (storage key : Bytes) (k : Key) : Type 0 where
  storage_is : storage ≡ decimal k.storage
  key_is : key ≡ decimal k.key
  spelled : IsKey k

key_takes : (storage key : Bytes) (k : Key) → key_in storage key ≡ Some k → AreOfKey storage key k
key_takes storage key k e =
    let a = bind_some (number_of storage) (λ s. number_of key >>= (λ n. cond (ltb s 256) (Some (record { storage = s; key = n })) None)) k e in
    let b = bind_some (number_of key) (λ n. cond (ltb a.0 256) (Some (record { storage = a.0; key = n })) None) k a.2 in
    let t = test_some (ltb a.0 256) (record { storage = a.0; key = b.0 }) k b.2 in
    let s = number_of_takes storage a.0 a.1 in
    let n = number_of_takes key b.0 b.1 in
    subst (AreOfKey storage key) t.1 (record { storage_is = s.0; key_is = n.0; spelled = record { storage = ltb-true _ _ t.0; key = n.1 } })

letter_takes : (word : Bytes) (letter : ℕ) → letter_in word ≡ Some letter → word ≡ letter ∷ []
letter_takes [] letter e = absurd cc
letter_takes (b ∷ []) letter e = ap (λ (c : ℕ). c ∷ []) (some_same b letter e)
letter_takes (b ∷ c ∷ bs) letter e = absurd cc

-- an operation is spelled by these words
abbrev AreOf : List Bytes → Op → Type 0
AreOf ws op = (join_with_byte 32 ws ≡ op_text op) × IsSpelled op

-- three words behind a letter
short_text : (letter : ℕ) (key : Key) → letter ∷ 32 ∷ (decimal key.storage ++ (32 ∷ decimal key.key)) ≡ letter ∷ 32 ∷ key_text key
short_text letter key = ap (λ (r : Bytes). letter ∷ 32 ∷ r) (sym (append_assoc (decimal key.storage) (32 ∷ []) (decimal key.key)))

-- the letter decides which operation of a key alone it is
short_by_letter : (ws : List Bytes) (letter : ℕ) (k : Key) (op : Op) (is_read is_remove : Bool) → eqb letter 114 ≡ is_read → eqb letter 100 ≡ is_remove
    → join_with_byte 32 ws ≡ letter ∷ 32 ∷ key_text k → IsKey k → cond is_read (Some (Read k)) (cond is_remove (Some (Remove k)) None) ≡ Some op → AreOf ws op
short_by_letter ws letter k op true is_remove e f text is found =
    subst (AreOf ws) (some_same (Read k) op found) (text ∙ ap (λ (c : ℕ). c ∷ 32 ∷ key_text k) (eqb-true letter 114 e), is)
short_by_letter ws letter k op false true e f text is found =
    subst (AreOf ws) (some_same (Remove k) op found) (text ∙ ap (λ (c : ℕ). c ∷ 32 ∷ key_text k) (eqb-true letter 100 f), is)
short_by_letter ws letter k op false false e f text is found = absurd cc

short_takes : (word storage key : Bytes) (letter : ℕ) (k : Key) (op : Op) → word ≡ letter ∷ [] → AreOfKey storage key k → short_op_by letter k ≡ Some op → AreOf (word ∷ storage ∷ key ∷ []) op
short_takes word storage key letter k op one of e =
    short_by_letter (word ∷ storage ∷ key ∷ []) letter k op (eqb letter 114) (eqb letter 100) refl refl (rw (one, of.storage_is, of.key_is) (short_text letter k)) of.spelled e

-- four words behind a letter
long_text : (letter : ℕ) (key : Key) (v : ℕ)
    → letter ∷ 32 ∷ (decimal key.storage ++ (32 ∷ (decimal key.key ++ (32 ∷ decimal v)))) ≡ (((letter ∷ 32 ∷ []) ++ key_text key) ++ (32 ∷ [])) ++ decimal v
long_text letter key v =
    ap (λ (r : Bytes). letter ∷ 32 ∷ r)
    (sym (append_assoc (key_text key) (32 ∷ []) (decimal v) ∙ append_assoc (decimal key.storage ++ (32 ∷ [])) (decimal key.key) (32 ∷ decimal v)
    ∙ append_assoc (decimal key.storage) (32 ∷ []) (decimal key.key ++ (32 ∷ decimal v))))

-- the letter decides which operation of a key and a value it is
long_by_letter : (ws : List Bytes) (letter : ℕ) (k : Key) (v : ℕ) (op : Op) (is_write is_add is_take is_scan : Bool) → eqb letter 119 ≡ is_write → eqb letter 97 ≡ is_add → eqb letter 116 ≡ is_take → eqb letter 115 ≡ is_scan
    → join_with_byte 32 ws ≡ (((letter ∷ 32 ∷ []) ++ key_text k) ++ (32 ∷ [])) ++ decimal v → IsKey k → v < 2 ^ 64
    → cond is_write (Some (Write k v)) (cond is_add (Some (Add k v)) (cond is_take (Some (Take k v)) (cond is_scan (Some (Scan k.storage k.key v)) None))) ≡ Some op → AreOf ws op
long_by_letter ws letter k v op true is_add is_take is_scan e f g h text is lt found =
    subst (AreOf ws) (some_same (Write k v) op found) (text ∙ ap (λ (c : ℕ). (((c ∷ 32 ∷ []) ++ key_text k) ++ (32 ∷ [])) ++ decimal v) (eqb-true letter 119 e), (is, lt))
long_by_letter ws letter k v op false true is_take is_scan e f g h text is lt found =
    subst (AreOf ws) (some_same (Add k v) op found) (text ∙ ap (λ (c : ℕ). (((c ∷ 32 ∷ []) ++ key_text k) ++ (32 ∷ [])) ++ decimal v) (eqb-true letter 97 f), (is, lt))
long_by_letter ws letter k v op false false true is_scan e f g h text is lt found =
    subst (AreOf ws) (some_same (Take k v) op found) (text ∙ ap (λ (c : ℕ). (((c ∷ 32 ∷ []) ++ key_text k) ++ (32 ∷ [])) ++ decimal v) (eqb-true letter 116 g), (is, lt))
long_by_letter ws letter k v op false false false true e f g h text is lt found =
    subst (AreOf ws) (some_same (Scan k.storage k.key v) op found)
    (text ∙ ap (λ (c : ℕ). (((c ∷ 32 ∷ []) ++ key_text k) ++ (32 ∷ [])) ++ decimal v) (eqb-true letter 115 h), (record { storage = is.storage; key = is.key }, lt))
long_by_letter ws letter k v op false false false false e f g h text is lt found = absurd cc

long_takes : (word storage key value : Bytes) (letter : ℕ) (k : Key) (v : ℕ) (op : Op) → word ≡ letter ∷ [] → AreOfKey storage key k → (value ≡ decimal v) × (v < 2 ^ 64) → long_op_by letter k v ≡ Some op
    → AreOf (word ∷ storage ∷ key ∷ value ∷ []) op
long_takes word storage key value letter k v op one of is e =
    long_by_letter (word ∷ storage ∷ key ∷ value ∷ []) letter k v op (eqb letter 119) (eqb letter 97) (eqb letter 116) (eqb letter 115) refl refl refl refl
    (rw (one, of.storage_is, of.key_is, is.0) (long_text letter k v)) of.spelled is.1 e

words_take : (ws : List Bytes) (op : Op) → op_in ws ≡ Some op → AreOf ws op
words_take [] op e = absurd cc
words_take (word ∷ []) op e = absurd cc
words_take (word ∷ storage ∷ []) op e = absurd cc
words_take (word ∷ storage ∷ key ∷ []) op e =
    let a = bind_some (letter_in word) (λ letter. key_in storage key >>= short_op_by letter) op e in
    let b = bind_some (key_in storage key) (short_op_by a.0) op a.2 in
    short_takes word storage key a.0 b.0 op (letter_takes word a.0 a.1) (key_takes storage key b.0 b.1) b.2
words_take (word ∷ storage ∷ key ∷ value ∷ []) op e =
    let a = bind_some (letter_in word) (λ letter. key_in storage key >>= (λ k. number_of value >>= long_op_by letter k)) op e in
    let b = bind_some (key_in storage key) (λ k. number_of value >>= long_op_by a.0 k) op a.2 in
    let d = bind_some (number_of value) (long_op_by a.0 b.0) op b.2 in
    long_takes word storage key value a.0 b.0 d.0 op (letter_takes word a.0 a.1) (key_takes storage key b.0 b.1) (number_of_takes value d.0 d.1) d.2
words_take (word ∷ storage ∷ key ∷ value ∷ more ∷ ws) op e = absurd cc

-- an operation that is read is spelled so
pub op_takes : (bs : Bytes) (op : Op) → op_in (words bs) ≡ Some op → (bs ≡ op_text op) × IsSpelled op
op_takes bs op e = let t = words_take (words bs) op e in (words_join bs (words bs) refl ∙ t.0, t.1)

-- the same of all operations of a line
pub ops_take : (ps : List Bytes) (ops : List Op) → ops_in ps ≡ Some ops → (ps ≡ map op_text ops) × AllByRecursion IsSpelled ops
ops_take [] ops e = let none : [] ≡ ops = some_same [] ops e in subst (λ (os : List Op). ([] ≡ map op_text os) × AllByRecursion IsSpelled os) none (refl, tt)
ops_take (p ∷ ps) ops e =
    let a = bind_some (op_in (words p)) (λ op. ops_in ps >>= (λ os. Some (op ∷ os))) ops e in
    let b = bind_some (ops_in ps) (λ os. Some (a.0 ∷ os)) ops a.2 in
    let first = op_takes p a.0 a.1 in
    let others = ops_take ps b.0 b.1 in
    subst (λ (os : List Op). (p ∷ ps ≡ map op_text os) × AllByRecursion IsSpelled os) (some_same (a.0 ∷ b.0) ops b.2)
    (ap (λ (x : Bytes). x ∷ ps) first.0 ∙ ap (λ (xs : List Bytes). op_text a.0 ∷ xs) others.0, (first.1, others.1))

-- ---- what is spelled so is read

-- the words of a key are read as it
key_again : (k : Key) → IsKey k → key_in (decimal k.storage) (decimal k.key) ≡ Some k
key_again k is =
    let small = is.storage in
    rw (number_of_again k.storage (omega arith), number_of_again k.key is.key, lt-ltb k.storage 256 is.storage) refl

-- a spelled operation is read
pub op_again : (op : Op) → IsSpelled op → op_in (words (op_text op)) ≡ Some op
op_again (Read k) is = rw (words_key k is, key_again k is) refl
op_again (Write k v) is = rw (words_value k v is.0 is.1, key_again k is.0, number_of_again v is.1) refl
op_again (Remove k) is = rw (words_key k is, key_again k is) refl
op_again (Add k v) is = rw (words_value k v is.0 is.1, key_again k is.0, number_of_again v is.1) refl
op_again (Take k v) is = rw (words_value k v is.0 is.1, key_again k is.0, number_of_again v is.1) refl
op_again (Scan storage low high) is =
    let k : Key = key_at storage low in
    rw (words_value k high is.0 is.1, key_again k is.0, number_of_again high is.1) refl

-- the same of all operations of a line
pub ops_again : (ops : List Op) → AllByRecursion IsSpelled ops → ops_in (map op_text ops) ≡ Some ops
ops_again [] are = refl
ops_again (op ∷ ops) are = rw (op_again op are.0, ops_again ops are.1) refl
