-- Log lines and their parts.
use Rattle.std.proofs.Common.{◌≡◌, ℕ, ◌+◌, ◌-◌, ◌*◌, ◌^◌, ◌<◌, ◌≤◌, List, [], ◌∷◌, ◌++◌, length, take, drop, None, refl, sym, ap, ◌∙◌, append_assoc, arith}
use Rattle.std.specs.List.{flat_map}
use Rattle.std.proofs.lemmas.List.{take-append-drop, take_all, drop-drop, length-take, length-drop, append-nil}
use Rattle.serial_model.specs.declared.number.Change.{Change}
use Rattle.serial_model.specs.declared.number.Commit.{Commit}
use Rattle.serial_model.specs.Numbers.{IsNumber}
use Rattle.wire_form.specs.Words.{number_word}
use Rattle.wire_form.specs.Items.{AreItems}
use borrow.Rule.Slice.PartMut.{put_mid}
use Rattle.wire_form.specs.Bytes.{bytes_of_word, bytes_of}
use Rattle.serial_model.specs.Keys.{IsKeyBelow}
use Rattle.wire_form.specs.LogLine.{IsChange, key_of, change_bytes, IsLogLine, line_bytes, BeginsWith}
use Rattle.wire_form.specs.ByteLaws.{length-bytes_of, same_word}
use Rattle.wire_form.specs.ItemLaws.{length-items}
use Rattle.wire_form.specs.LineLaws.{line_parts, length-change_bytes, number_fits}
use Rattle.wire_form.proofs.ByteLemmas.{rest_alone, head_and_rest}
use Rattle.wire_form.proofs.ItemLemmas.{rejoined}

-- three words' bytes, one after another
pub three_parts : (bytes x y z : List ℕ) → length bytes ≡ 24 → x ≡ take 8 bytes → y ≡ take 8 (drop 8 bytes) → z ≡ take (length bytes - 16) (drop 16 bytes) → x ++ (y ++ (z ++ [])) ≡ bytes
three_parts bytes x y z len ex ey ez =
    let ez' : z ≡ drop 8 (drop 8 bytes) = ez ∙ take_all (length bytes - 16) (drop 16 bytes) (omega (arith, length-drop 16 bytes)) ∙ sym (drop-drop 8 8 bytes) in
    rw (append-nil, ex, ey, ez', take-append-drop, take-append-drop) refl

-- a change is as long as what was cut off
pub as_long : (here : List ℕ) → length here ≡ 24 → (c : Change) → length (change_bytes c) ≡ length here
as_long here len c = length-change_bytes c ∙ sym len

-- the count that was read is that of the line
pub same_count : (bytes rest : List ℕ) (c : Commit) (count : ℕ) → count < 2 ^ 64 → bytes_of_word count ≡ take 8 (drop 8 bytes) → IsLogLine c → bytes ≡ line_bytes c ++ rest → count ≡ length c.changes
same_count bytes rest c count fits here line e =
    same_word count (length c.changes) fits (omega (arith, line.loggable.most)) (here ∙ (line_parts bytes rest c e).count)

-- so is the number's word
pub same_number : (bytes rest : List ℕ) (c : Commit) (word : ℕ) → word < 2 ^ 64 → bytes_of_word word ≡ take 8 bytes → IsLogLine c → bytes ≡ line_bytes c ++ rest → number_word c.number ≡ word
same_number bytes rest c word fits here line e =
    sym (same_word word (number_word c.number) fits (number_fits c.number line.loggable.number) (here ∙ (line_parts bytes rest c e).number))

-- and the line's changes are items of the bytes after those
pub changes_are_items : (bytes rest : List ℕ) (c : Commit) (k count : ℕ) → count ≡ length c.changes → k ≡ 24 * count → IsLogLine c → bytes ≡ line_bytes c ++ rest → AreItems IsChange change_bytes key_of IsKeyBelow None (take k (drop 16 bytes)) c.changes
changes_are_items bytes rest c k count same long line e =
    record { each = line.each; rising = line.loggable.rising; spelled = ap (λ j. take j (drop 16 bytes)) (long ∙ ap (λ j. 24 * j) same) ∙ (line_parts bytes rest c e).changes }

-- what was read from the front is a log line
pub is_line : (bytes : List ℕ) (c : Commit) (word count k : ℕ) → IsNumber c.number → number_word c.number ≡ word → bytes_of_word word ≡ take 8 bytes → bytes_of_word count ≡ take 8 (drop 8 bytes) → 1 ≤ count → count ≤ 16 → k ≡ 24 * count → 16 + 24 * count ≤ length bytes
    → AreItems IsChange change_bytes key_of IsKeyBelow None (take k (drop 16 bytes)) c.changes → BeginsWith bytes c (16 + 24 * count)
is_line bytes c word count k number spelled first second some most long room items =
    let n : length c.changes ≡ count = omega (arith, ap length items.spelled, length-items change_bytes 24 length-change_bytes c.changes, length-take k (drop 16 bytes), length-drop 16 bytes) in
    let tail : take (24 * count) (drop 16 bytes) ≡ flat_map change_bytes c.changes = ap (λ j. take j (drop 16 bytes)) (sym long) ∙ items.spelled in
    let after : drop (24 * count) (drop 16 bytes) ≡ drop (16 + 24 * count) bytes = drop-drop (24 * count) 16 bytes in
    let last : drop 16 bytes ≡ flat_map change_bytes c.changes ++ drop (16 + 24 * count) bytes = rejoined (24 * count) (drop 16 bytes) (flat_map change_bytes c.changes) (drop (16 + 24 * count) bytes) (sym tail) (sym after) in
    let mid : drop 8 bytes ≡ bytes_of_word count ++ drop 16 bytes = rejoined 8 (drop 8 bytes) (bytes_of_word count) (drop 16 bytes) second (sym (drop-drop 8 8 bytes)) in
    let whole : bytes ≡ bytes_of_word word ++ drop 8 bytes = rejoined 8 bytes (bytes_of_word word) (drop 8 bytes) first refl in
    let all : bytes ≡ bytes_of_word word ++ (bytes_of_word count ++ (flat_map change_bytes c.changes ++ drop (16 + 24 * count) bytes)) = whole ∙ ap (λ t. bytes_of_word word ++ t) (mid ∙ ap (λ t. bytes_of_word count ++ t) last) in
    record {
      line = record { loggable = record { number = number; some = omega arith; most = omega arith; rising = items.rising }; each = items.each };
      length = omega arith;
      begins = all ∙ rw (spelled, n) (simp append_assoc);
    }

-- the head and then the changes are the line
pub line_written : (to mid part : List ℕ) (c : Commit) (changes : List Change) (word : ℕ) → changes ≡ c.changes → word ≡ number_word c.number → mid ≡ bytes_of (word ∷ length changes ∷ []) ++ drop 16 to
    → part ≡ flat_map change_bytes changes ++ drop (24 * length changes) (take (16 + 24 * length changes - 16) (drop 16 mid)) → put_mid 16 (16 + 24 * length changes - 16) mid part ≡ line_bytes c ++ drop (16 + 24 * length changes) to
line_written to mid part c changes word same spelled here there =
    let alone : part ≡ flat_map change_bytes changes = rest_alone (flat_map change_bytes changes) _ part (24 * length changes) (omega (arith, length-take (16 + 24 * length changes - 16) (drop 16 mid))) there in
    head_and_rest to mid part (flat_map change_bytes changes) (bytes_of (word ∷ length changes ∷ [])) 16 (16 + 24 * length changes - 16) (16 + 24 * length changes) (length-bytes_of (word ∷ length changes ∷ [])) (omega arith) here alone
    ∙ ap (λ t. t ++ drop (16 + 24 * length changes) to) (rw (spelled, same) refl)
