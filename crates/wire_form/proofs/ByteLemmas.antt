-- Words and their bytes.
use Rattle.std.proofs.Common.{◌≡◌, ℕ, ◌+◌, ◌-◌, ◌*◌, ◌<◌, ◌≤◌, List, [], ◌∷◌, ◌++◌, length, set, take, drop, replicate, sym, ap, ◌∙◌, append_assoc, arith}
use Rattle.std.specs.List.{AllByRecursion}
use Rattle.std.proofs.lemmas.List.{take_at, drop_at, drop_all, take_more_set, drop-drop, append-nil}
use Rattle.std.proofs.lemmas.List.Concat.{flat_map-append}
use Rattle.std.proofs.Math.Seq.{take-add}
use borrow.Rule.Slice.PartMut.{put_mid}
use Rattle.lists.specs.Each.{all_append, all_replicate}
use Rattle.wire_form.specs.Bytes.{bytes_of_word, bytes_of, padded}

bytes_of-push : (words : List ℕ) (w : ℕ) → bytes_of (words ++ w ∷ []) ≡ bytes_of words ++ bytes_of_word w
bytes_of-push words w =
    flat_map-append bytes_of_word words (w ∷ []) ∙ ap (λ t. bytes_of words ++ t) (append-nil (bytes_of_word w))

-- one word more was read
pub one_more_read : (bytes words : List ℕ) (i w : ℕ) → i < length words → take (8 * i) bytes ≡ bytes_of (take i words)
    → bytes_of_word w ≡ take (8 * i + 8 - 8 * i) (drop (8 * i) bytes) → take (8 * (i + 1)) bytes ≡ bytes_of (take (i + 1) (set words i w))
one_more_read bytes words i w lt so_far here =
    let n : 8 * (i + 1) ≡ 8 * i + 8 = omega arith in
    let m : 8 * i + 8 - 8 * i ≡ 8 = omega arith in
    let here' : bytes_of_word w ≡ take 8 (drop (8 * i) bytes) = here ∙ ap (λ k. take k (drop (8 * i) bytes)) m in
    ap (λ k. take k bytes) n ∙ take-add (8 * i) 8 bytes ∙ rw (so_far, ← here') (sym (bytes_of-push (take i words) w)) ∙ sym (ap bytes_of (take_more_set words i w lt))

-- where nothing is left behind what was written, it stands alone
pub rest_alone : (rest over part : List ℕ) (k : ℕ) → length over ≤ k → part ≡ rest ++ drop k over → part ≡ rest
rest_alone rest over part k short e = e ∙ ap (λ t. rest ++ t) (drop_all k over short) ∙ append-nil rest

-- a head of h bytes, and then k bytes, stand over the first bytes
pub head_and_rest : (to mid part rest head : List ℕ) (h k next : ℕ) → length head ≡ h → h + k ≡ next → mid ≡ head ++ drop h to → part ≡ rest → put_mid h k mid part ≡ (head ++ rest) ++ drop next to
head_and_rest to mid part rest head h k next len sum here there =
    let front : take h mid ≡ head = ap (take h) here ∙ take_at head (drop h to) h len in
    let back : drop h mid ≡ drop h to = ap (drop h) here ∙ drop_at head (drop h to) h len in
    let after : drop k (drop h to) ≡ drop next to = drop-drop k h to ∙ ap (λ j. drop j to) sum in
    rw (front, there, back, after) (sym (append_assoc head rest (drop next to)))

-- ---- a fact on each element

pub all_padded : (P : ℕ → Type 0) (n : ℕ) (xs : List ℕ) → P 0 → AllByRecursion P xs → AllByRecursion P (padded n xs)
all_padded P n xs none all = all_append P xs (replicate (n - length xs) 0) all (all_replicate P (n - length xs) 0 none)
