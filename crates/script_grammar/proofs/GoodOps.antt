-- An operation in which no test finds a fault is one of a script.
use Rattle.std.proofs.Common.{◌≡◌, inl, inr, ℕ, ◌<◌, Bool, true, false, eqb, List, [], ◌∷◌, length, Option, Some, refl, arith}
use Rattle.std.specs.Prelude.{◌==◌, ◌&&◌, ◌||◌, not, nat_le, is_none, codes}
use Rattle.std.specs.List.{list_any}
use Rattle.std.proofs.lemmas.Bool.{eqb-true, leb-false, lt-ltb, and_parts}
use Rattle.decimals.specs.Numbers.{number_of}
use Rattle.serial_model.specs.Keys.{fits, has_key, id_of, is_tree}
use Rattle.serial_model.specs.declared.key.Key.{Key}
use Rattle.serial_model.specs.declared.decl.Decl.{Decl}
use Rattle.serial_model.specs.declared.op.Op.{Op}
use Rattle.serial_model.specs.declared.op.Op.TheVariants.{Read, Write, Remove, Add, Take, Scan}
use Rattle.script_grammar.specs.declared.fault.FaultKind.TheVariants.{Word, Number, Declared, Kind, Range}
use Rattle.script_grammar.specs.Script.{Bytes}
use Rattle.script_grammar.specs.Words.{passes, words, is_no_number, is_letter}
use Rattle.script_grammar.specs.Reading.{key_in, op_in}
use Rattle.script_grammar.specs.Faults.{has_letter, is_op_shape, lacks_op_number, is_undeclared, lacks_tree, lacks_key, op_is}
use Rattle.script_grammar.proofs.Found.{some_from, not_true, or_parts, or_cases, or_last, second_false}

-- ---- numbers

-- a word that is no other than a number
pub record IsNumber (word : Bytes) : Type 0 where
  pub value : ℕ
  pub found : number_of word ≡ Some value

pub is_number : (word : Bytes) → is_none (number_of word) ≡ false → IsNumber word
is_number word e =
    let n = some_from (number_of word) e in
    record { value = n.0; found = n.1 }

-- a test that a number doesn't pass
pub not_passed : (test : ℕ → Bool) (word : Bytes) (n : ℕ) → number_of word ≡ Some n → passes test (number_of word) ≡ false → test n ≡ false
not_passed test word n e f = rw e at f

-- ---- words

pub two_words : (ws : List Bytes) → length ws ≡ 2 → (a : Bytes) × (b : Bytes) × (ws ≡ a ∷ b ∷ [])
two_words [] e = absurd (omega arith)
two_words (a ∷ []) e = absurd (omega arith)
two_words (a ∷ b ∷ []) e = (a, b, refl)
two_words (a ∷ b ∷ c ∷ ws) e = absurd (omega arith)

pub three_words : (ws : List Bytes) → length ws ≡ 3 → (a : Bytes) × (b : Bytes) × (c : Bytes) × (ws ≡ a ∷ b ∷ c ∷ [])
three_words [] e = absurd (omega arith)
three_words (a ∷ []) e = absurd (omega arith)
three_words (a ∷ b ∷ []) e = absurd (omega arith)
three_words (a ∷ b ∷ c ∷ []) e = (a, b, c, refl)
three_words (a ∷ b ∷ c ∷ d ∷ ws) e = absurd (omega arith)

four_words : (ws : List Bytes) → length ws ≡ 4 → (a : Bytes) × (b : Bytes) × (c : Bytes) × (d : Bytes) × (ws ≡ a ∷ b ∷ c ∷ d ∷ [])
four_words [] e = absurd (omega arith)
four_words (a ∷ []) e = absurd (omega arith)
four_words (a ∷ b ∷ []) e = absurd (omega arith)
four_words (a ∷ b ∷ c ∷ []) e = absurd (omega arith)
four_words (a ∷ b ∷ c ∷ d ∷ []) e = (a, b, c, d, refl)
four_words (a ∷ b ∷ c ∷ d ∷ f ∷ ws) e = absurd (omega arith)

-- a word of one letter
letter_is : (letters word : Bytes) → is_letter letters word ≡ true → (b : ℕ) × (word ≡ b ∷ []) × (list_any (λ c. c == b) letters ≡ true)
letter_is letters [] e = absurd cc
letter_is letters (b ∷ []) e = (b, refl, e)
letter_is letters (b ∷ c ∷ bs) e = absurd cc

-- the same of the first word
first_letter : (letters a : Bytes) (ws more : List Bytes) → ws ≡ a ∷ more → has_letter letters ws ≡ true → (b : ℕ) × (a ≡ b ∷ []) × (list_any (λ c. c == b) letters ≡ true)
first_letter letters a ws more e h = letter_is letters a (rw e at h)

-- ---- operations

-- the operation is read, and has a place where it fits
pub record IsGood (decls : List Decl) (op : Bytes) : Type 0 where
  pub is : Op
  pub found : op_in (words op) ≡ Some is
  pub fitting : fits decls is ≡ true

-- what the tests leave of an operation's storage and key
record IsGoodKey (decls : List Decl) (s k : Bytes) : Type 0 where
  key : Key
  storage_is : number_of s ≡ Some key.storage
  found : key_in s k ≡ Some key
  there : has_key decls key ≡ true

-- a key that is found is not one that the storages lack
key_found : (decls : List Decl) (storage key : ℕ) (s k : Option ℕ) → s ≡ Some storage → k ≡ Some key
    → passes (λ n. passes (λ m. not (has_key decls (record { storage = n; key = m }))) k) s ≡ false → not (has_key decls (record { storage = storage; key = key })) ≡ false
key_found decls storage key s k e f lacking = rw (e, f) at lacking

-- two numbers are a key's
key_is : (s k : Bytes) (n m : ℕ) → number_of s ≡ Some n → number_of k ≡ Some m → n < 256 → key_in s k ≡ Some (record { storage = n; key = m })
key_is s k n m e f below = rw (e, f, lt-ltb n 256 below) refl

good_key : (decls : List Decl) (a s k : Bytes) (more : List Bytes) → lacks_op_number (a ∷ s ∷ k ∷ more) ≡ false → passes (is_undeclared decls) (number_of s) ≡ false → lacks_key decls (a ∷ s ∷ k ∷ more) ≡ false
    → IsGoodKey decls s k
good_key decls a s k more numbers declared lacking =
    let parts = or_parts (is_none (number_of s)) (is_no_number (a ∷ s ∷ k ∷ more) 2 || is_no_number (a ∷ s ∷ k ∷ more) 3) numbers in
    let others = or_parts (is_none (number_of k)) (is_no_number (a ∷ s ∷ k ∷ more) 3) parts.1 in
    let storage = is_number s parts.0 in
    let key = is_number k others.0 in
    let known = or_parts (nat_le 256 storage.value) (not (list_any (λ d. id_of d == storage.value) decls)) (not_passed (is_undeclared decls) s storage.value storage.found declared) in
    let there : not (has_key decls (record { storage = storage.value; key = key.value })) ≡ false = key_found decls storage.value key.value (number_of s) (number_of k) storage.found key.found lacking in
    record {
      key = record { storage = storage.value; key = key.value };
      storage_is = storage.found;
      found = key_is s k storage.value key.value storage.found key.found (leb-false 256 storage.value known.0);
      there = not_true _ there;
    }

-- where the letter asks for a tree, the storage is one
tree_there : (decls : List Decl) (a s k : Bytes) (more : List Bytes) (b : ℕ) (good : IsGoodKey decls s k) → a ≡ b ∷ [] → list_any (λ c. c == b) (codes "ds") ≡ true
    → lacks_tree decls (a ∷ s ∷ k ∷ more) ≡ false → is_tree decls good.key.storage ≡ true
tree_there decls a s k more b good one letter lacking =
    let none = second_false (list_any (λ c. c == b) (codes "ds")) (passes (λ n. not (is_tree decls n)) (number_of s)) letter (rw one at lacking) in
    not_true _ (not_passed (λ n. not (is_tree decls n)) s good.key.storage good.storage_is none)

-- three words with the letter of an operation of a key alone
good_short : (decls : List Decl) (op a s k : Bytes) (b : ℕ) → words op ≡ a ∷ s ∷ k ∷ [] → a ≡ b ∷ [] → list_any (λ c. c == b) (codes "rd") ≡ true → IsGoodKey decls s k
    → lacks_tree decls (a ∷ s ∷ k ∷ []) ≡ false → IsGood decls op
good_short decls op a s k b ws one letter good lacking =
    elim (or_cases (eqb 114 b) ((100 == b) || false) letter) [
      | inl w ↦ record { is = Read good.key; found = rw (ws, one, ← eqb-true 114 b w, good.found) refl; fitting = good.there }
      | inr other ↦ elim (or_cases (eqb 100 b) false other) [
        | inl w ↦ record {
          is = Remove good.key;
          found = rw (ws, one, ← eqb-true 100 b w, good.found) refl;
          fitting = tree_there decls a s k [] b good one (rw w refl) lacking;
        }
        | inr nothing ↦ absurd cc
      ]
    ]

-- four words with the letter of an operation of a key and a value
good_long : (decls : List Decl) (op a s k v : Bytes) (b : ℕ) → words op ≡ a ∷ s ∷ k ∷ v ∷ [] → a ≡ b ∷ [] → list_any (λ c. c == b) (codes "wats") ≡ true → IsGoodKey decls s k → IsNumber v
    → lacks_tree decls (a ∷ s ∷ k ∷ v ∷ []) ≡ false → IsGood decls op
good_long decls op a s k v b ws one letter good value lacking =
    elim (or_cases (eqb 119 b) ((97 == b) || ((116 == b) || ((115 == b) || false))) letter) [
      | inl w ↦ record { is = Write good.key value.value; found = rw (ws, one, ← eqb-true 119 b w, good.found, value.found) refl; fitting = good.there }
      | inr other ↦ elim (or_cases (eqb 97 b) ((116 == b) || ((115 == b) || false)) other) [
        | inl w ↦ record { is = Add good.key value.value; found = rw (ws, one, ← eqb-true 97 b w, good.found, value.found) refl; fitting = good.there }
        | inr later ↦ elim (or_cases (eqb 116 b) ((115 == b) || false) later) [
          | inl w ↦ record { is = Take good.key value.value; found = rw (ws, one, ← eqb-true 116 b w, good.found, value.found) refl; fitting = good.there }
          | inr last ↦ elim (or_cases (eqb 115 b) false last) [
            | inl w ↦ record {
              is = Scan good.key.storage good.key.key value.value;
              found = rw (ws, one, ← eqb-true 115 b w, good.found, value.found) refl;
              fitting = tree_there decls a s k (v ∷ []) b good one (or_last (eqb 100 b) ((115 == b) || false) (rw w refl)) lacking;
            }
            | inr nothing ↦ absurd cc
          ]
        ]
      ]
    ]

-- no test finds a fault in the operation
pub record HasNoFault (decls : List Decl) (op : Bytes) : Type 0 where
  pub shape : op_is Word decls op ≡ false
  pub numbers : op_is Number decls op ≡ false
  pub declared : op_is Declared decls op ≡ false
  pub kind : op_is Kind decls op ≡ false
  pub range : op_is Range decls op ≡ false

-- an operation in which no test finds a fault is one of a script
pub good_op : (decls : List Decl) (op : Bytes) → HasNoFault decls op → IsGood decls op
unfolding op_is
good_op decls op no_fault =
    let three : Bool = (length (words op) == 3) && has_letter (codes "rd") (words op) in
    let four : Bool = (length (words op) == 4) && has_letter (codes "wats") (words op) in
    elim (or_cases three four (not_true (is_op_shape (words op)) no_fault.shape)) [
      | inl e ↦
          let both = and_parts (length (words op) == 3) (has_letter (codes "rd") (words op)) e in
          let ws = three_words (words op) (eqb-true (length (words op)) 3 both.0) in
          let letter = first_letter (codes "rd") ws.0 (words op) (ws.1 ∷ ws.2 ∷ []) ws.3 both.1 in
          good_short decls op ws.0 ws.1 ws.2 letter.0 ws.3 letter.1 letter.2
          (good_key decls ws.0 ws.1 ws.2 [] (rw ws.3 at no_fault.numbers) (rw ws.3 at no_fault.declared) (rw ws.3 at no_fault.range)) (rw ws.3 at no_fault.kind)
      | inr e ↦
          let both = and_parts (length (words op) == 4) (has_letter (codes "wats") (words op)) e in
          let ws = four_words (words op) (eqb-true (length (words op)) 4 both.0) in
          let letter = first_letter (codes "wats") ws.0 (words op) (ws.1 ∷ ws.2 ∷ ws.3 ∷ []) ws.4 both.1 in
          let numbers : lacks_op_number (ws.0 ∷ ws.1 ∷ ws.2 ∷ ws.3 ∷ []) ≡ false = rw ws.4 at no_fault.numbers in
          let later = or_parts (is_none (number_of ws.1)) (is_none (number_of ws.2) || is_none (number_of ws.3)) numbers in
          let last = or_parts (is_none (number_of ws.2)) (is_none (number_of ws.3)) later.1 in
          good_long decls op ws.0 ws.1 ws.2 ws.3 letter.0 ws.4 letter.1 letter.2
          (good_key decls ws.0 ws.1 ws.2 (ws.3 ∷ []) numbers (rw ws.4 at no_fault.declared) (rw ws.4 at no_fault.range)) (is_number ws.3 last.1) (rw ws.4 at no_fault.kind)
    ]
