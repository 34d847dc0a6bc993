-- What stands for what, where an absence may have lost its number.
use Rattle.std.proofs.Common.{◌≡◌, ℕ, zero, suc, ◌<◌, false, true≢false, ◌⊎◌, inl, inr, List, refl, sym, ap, ◌∙◌, subst}
use Rattle.std.proofs.Common.{arith, Option, Some, None}
use Rattle.std.specs.Prelude.{is_some}
use Rattle.serial_model.specs.declared.key.Key.{Key}
use Rattle.serial_model.specs.declared.number.Number.{Number}
use Rattle.serial_model.specs.Numbers.{IsBelow, below_then}
use Rattle.homes.specs.declared.places.Content.{Content}
use Rattle.commit_core.specs.declared.attempt.Attempt.{Attempt}
use Rattle.commit_core.specs.Keys.{IsUpTo, nothing, opening_number, content_at}
use Rattle.commit_core.specs.Moves.{IsLost, Shows}
use Rattle.commit_core.specs.Serial.{last_write, RisesFrom}
use Rattle.commit_core.specs.Sound.Numbers.{OrderedNumbers}
use Rattle.commit_core.specs.Sound.Reads.{IsVersion}
use Rattle.commit_core.specs.Lemmas.Versions.{last_version, version_past, version_same, same_content_parts}

-- ---- numbers up to another

-- what is up to a number is below each number above that one
pub up_then_below : (a b c : Number) → IsUpTo a b → IsBelow b c → IsBelow a c
up_then_below a b c (inl e) l = subst (λ (x : Number). IsBelow x c) (sym e) l
up_then_below a b c (inr m) l = below_then a b c m l

-- and up to each number that one is up to
pub up_then_up : (a b c : Number) → IsUpTo a b → IsUpTo b c → IsUpTo a c
up_then_up a b c m (inl e) = subst (λ (x : Number). IsUpTo a x) e m
up_then_up a b c m (inr l) = inr (up_then_below a b c m l)

-- 0:0 is below what anything is below
pub opening_below : (a b : Number) → IsBelow a b → IsBelow opening_number b
opening_below a b (inl later) = inl (omega arith)
opening_below a b (inr same) = nothing_below a.epoch a.draw b.epoch b.draw same.0 same.1
  where
    nothing_below : (e d f g : ℕ) → e ≡ f → d < g → IsBelow opening_number (record { epoch = f; draw = g })
    nothing_below e d zero g same l = inr (refl, omega arith)
    nothing_below e d (suc f) g same l = inl (omega arith)

-- ---- what is shown

-- what is lost stays lost where the horizon rises
pub shows_later : (h h' : Number) (c d : Content) → IsUpTo h h' → Shows h c d → Shows h' c d
shows_later h h' c d up (inl e) = inl e
shows_later h h' c d up (inr x) = inr (x.0, record { absent = x.1.absent; past = up_then_up d.number h h' x.1.past up })

-- what shows what shows a content, shows it
pub shows_trans : (h h' : Number) (new c d : Content) → IsUpTo h h' → Shows h' new c → Shows h c d → Shows h' new d
shows_trans h h' new c d up (inl e) s = subst (λ (x : Content). Shows h' x d) (sym e) (shows_later h h' c d up s)
shows_trans h h' new c d up (inr x) (inl e) = inr (x.0, subst (λ (y : Content). IsLost h' y) e x.1)
shows_trans h h' new c d up (inr x) (inr y) = inr (x.0, record { absent = y.1.absent; past = up_then_up d.number h h' y.1.past up })

-- what shows the last write has a number below the clock
pub shown_past : (horizon : Number) (opening : List (Key × Content)) (h : List Attempt) (decided : List Number)
    (t : Number) (k : Key) (c : Content) → OrderedNumbers opening h decided t
    → Shows horizon c (last_write opening h decided k) → IsBelow c.number t
shown_past horizon opening h decided t k c o (inl exact) =
    subst (λ (x : Content). IsBelow x.number t) (sym exact)
    (version_past opening h decided t k (last_write opening h decided k) o (last_version opening h decided k))
shown_past horizon opening h decided t k c o (inr lost) = subst (λ (x : Content). IsBelow x.number t) (sym lost.0) (opening_below (content_at opening k).number t (o.opening_past k))

-- it is a version, or nothing
pub shown_version : (horizon : Number) (opening : List (Key × Content)) (h : List Attempt) (decided : List Number)
    (k : Key) (c : Content)
    → Shows horizon c (last_write opening h decided k) → (c ≡ nothing) ⊎ IsVersion opening h k c
shown_version horizon opening h decided k c (inl exact) = inr (subst (λ (x : Content). IsVersion opening h k x) (sym exact) (last_version opening h decided k))
shown_version horizon opening h decided k c (inr lost) = inl lost.0

-- ---- the same word is the same content

value_none : (v : Option ℕ) → is_some v ≡ false → v ≡ None
value_none None e = refl
value_none (Some x) e = absurd (true≢false e)

-- what has the number of nothing, and no value, is nothing
is_nothing : (c d : Content) → d ≡ nothing → c.number ≡ d.number → is_some c.value ≡ is_some d.value → c ≡ d
is_nothing c d e n v = same_content_parts c d n (value_none c.value (v ∙ ap (λ (x : Content). is_some x.value) e) ∙ sym (ap (λ (x : Content). x.value) e))

-- the same number, and a value in both or in neither, is the same content
pub same_word_content : (horizon : Number) (opening : List (Key × Content)) (h : List Attempt)
    (decided : List Number) (k : Key) (c f : Content) → RisesFrom (content_at opening k).number h
    → Shows horizon c (last_write opening h decided k) → (f ≡ nothing) ⊎ IsVersion opening h k f → c.number ≡ f.number → is_some c.value ≡ is_some f.value → c ≡ f
same_word_content horizon opening h decided k c f r (inl exact) (inl none) n v = is_nothing c f none n v
same_word_content horizon opening h decided k c f r (inl exact) (inr version) n v =
    sym (version_same opening h k f c r version
    (subst (λ (x : Content). IsVersion opening h k x) (sym exact) (last_version opening h decided k)) (sym n))
same_word_content horizon opening h decided k c f r (inr lost) version n v = sym (is_nothing f c lost.0 (sym n) (sym v))
