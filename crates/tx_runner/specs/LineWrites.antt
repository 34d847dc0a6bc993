-- The changes of a committed line: their keys rise, so each is the one that counts at its key.
use Rattle.std.proofs.Common.{◌≡◌, inl, inr, List, [], ◌∷◌, Option, Some, None}
use Rattle.std.proofs.Common.{ap, ◌∙◌, subst, arith}
use Rattle.std.specs.List.{Contains}
use Rattle.std.proofs.lemmas.Bool.{cond-true, cond-false, false_from_ne_true}
use Rattle.lists.specs.Elements.{in_cases, in_none}
use Rattle.serial_model.specs.declared.key.Key.{Key}
use Rattle.serial_model.specs.declared.number.Change.{Change}
use Rattle.serial_model.specs.Keys.{IsKeyBelow}
use Rattle.wire_form.specs.Items.{Rises, RisesAfter}
use Rattle.commit_core.specs.Keys.{same_key, written}
use Rattle.commit_core.specs.Lemmas.Keys.{same_key-self, same_key-true}
use Rattle.serial_bridge.specs.WriteSets.{EachCounts, keys_of}
use Rattle.serial_bridge.specs.WriteLaws.{each_in, written-cons}

below_then : (a b c : Key) → IsKeyBelow a b → IsKeyBelow b c → IsKeyBelow a c
below_then a b c (inl e) (inl f) = inl (omega arith)
below_then a b c (inl e) (inr f) = let same = f.0 in inl (omega arith)
below_then a b c (inr e) (inl f) = let same = e.0 in inl (omega arith)
below_then a b c (inr e) (inr f) = let less = e.1 in let more = f.1 in inr (e.0 ∙ f.0, omega arith)

not_below_itself : (a b : Key) → a ≡ b → IsKeyBelow a b → ⊥
not_below_itself a b same (inl e) = let storage = ap (λ (k : Key). k.storage) same in omega arith
not_below_itself a b same (inr e) = let key = ap (λ (k : Key). k.key) same in let less = e.1 in omega arith

-- behind a key all keys are above it
keys_above : (k : Key) (ws : List Change) → RisesAfter IsKeyBelow (Some k) (keys_of ws) → (d : Change) → Contains ws d
    → IsKeyBelow k d.key
keys_above k [] rises d has = absurd (in_none d has)
keys_above k (c ∷ ws) rises d has = elim (in_cases d c ws has) [
  | inl e ↦ subst (λ (x : Change). IsKeyBelow k x.key) e rises.0
  | inr later ↦ below_then k c.key d.key rises.0 (keys_above c.key ws rises.1 d later)
]

counts_in : (last : Option Key) (ws : List Change) → RisesAfter IsKeyBelow last (keys_of ws) → (d : Change)
    → Contains ws d → written d.key ws ≡ Some d.value
counts_in last [] rises d has = absurd (in_none d has)
counts_in last (c ∷ ws) rises d has = elim (in_cases d c ws has) [
  | inl e ↦ subst (λ (x : Change). written x.key (c ∷ ws) ≡ Some x.value) e
      (written-cons c ws c.key
      ∙ cond-true (same_key c.key c.key) (Some c.value) (written c.key ws) (same_key-self c.key))
  | inr later ↦
      written-cons c ws d.key
      ∙ cond-false (same_key c.key d.key) (Some c.value) (written d.key ws)
      (false_from_ne_true (same_key c.key d.key) (λ test.
      not_below_itself c.key d.key (same_key-true c.key d.key test) (keys_above c.key ws rises.1 d later)))
      ∙ counts_in (Some c.key) ws rises.1 d later
]

-- where the keys of writes rise, each of them counts
pub rising_counts : (ws : List Change) → Rises IsKeyBelow (keys_of ws) → EachCounts ws
rising_counts ws rises = each_in (λ (c : Change). written c.key ws ≡ Some c.value) ws (counts_in None ws rises)
