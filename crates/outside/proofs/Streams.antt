-- What a stream in memory gives and takes.
use Rattle.std.proofs.Common.{◌≡◌, ◌∙◌, ℕ, ◌+◌, ◌≤◌, Bool, true, false, cond, List, [], ◌++◌, Some, length, take, drop, refl, sym, ap, take_at, take-append-drop, drop-drop, length-take-le, append-nil}
use Rattle.outside.specs.Stream.{TakesPrefix}

-- the front of the buffer has what comes next, and the rest is left
pub read_taken : (at count : ℕ) (bytes front rest : List ℕ) → count ≤ length (drop at bytes)
    → front ≡ take count (drop at bytes)
    → drop at bytes ≡ take count (front ++ rest) ++ drop (at + count) bytes
read_taken at count bytes front rest le is =
    let long : length front ≡ count = ap length is ∙ length-take-le count (drop at bytes) le in
    let parts : take count (drop at bytes) ++ drop count (drop at bytes) ≡ drop at bytes = take-append-drop count (drop at bytes) in
    let past : drop count (drop at bytes) ≡ drop (at + count) bytes = drop-drop count at bytes in
    let taken : take count (front ++ rest) ≡ front = take_at front rest count long in
    cc

-- a sink that took the front of the bytes, or none of them
pub prefix_taken : (took : Bool) (count : ℕ) (bytes old new : List ℕ)
    → new ≡ cond took (old ++ take count bytes) old
    → TakesPrefix (Some old) (Some new) bytes
prefix_taken true count bytes old new is = (take count bytes, drop count bytes, sym (take-append-drop count bytes), is)
prefix_taken false count bytes old new is = ([], bytes, refl, is ∙ sym (append-nil old))
