-- What cuts of log files, one after another, add to what is recorded.
use Rattle.std.proofs.Common.{◌≡◌, ◌+◌, ◌<◌, ◌++◌, ◌∷◌, ℕ, List, [], get_or, take, drop, length, sym, ◌∙◌, ap, subst}
use Rattle.std.specs.Prelude.{Option, Some, IsSome, Result}
use Rattle.std.specs.List.{Contains}
use Rattle.std.proofs.lemmas.List.{take_more, take-append-drop}
use Rattle.std.proofs.lemmas.List.Elements.{Contains-push, Contains-append_left}
use Rattle.outside.specs.declared.device.Device.TheVariants.{Bank}
use Rattle.log_writer.specs.Cuts.{bank_keeps_bank}
use Rattle.log_writer.specs.Records.{AddsCuts, cuts_then}
use Rattle.log_writer.specs.Vault.{disk_in, CutsIn}
use Rattle.log_writer.specs.declared.vault.Vault.{Vault}
use Rattle.joint_crashes.specs.VaultReads.{some_of}

-- a list in front of an index, its item there, and what is behind
pub cut_split : (xs : List ℕ) (i d : ℕ) → i < length xs
    → xs ≡ (take i xs ++ get_or xs i d ∷ []) ++ drop (i + 1) xs
cut_split xs i d within =
    sym (take-append-drop (i + 1) xs) ∙ ap (λ l. l ++ drop (i + 1) xs) (take_more xs i d within)

-- a cut of one more log file leaves those that aren't among them
pub kept_push : {D T E : Type 0} {tells : D → Option (List ℕ)} {clock : D → ℕ}
    {image_at : D → ℕ → List ℕ → Type 0} {faults : D → ℕ} {r : Result T E} {old new : Vault D} (first : Vault D)
    (cut : List ℕ) (n : ℕ) → CutsIn tells clock image_at faults (Bank n) old new r
    → ((m : ℕ) → (Contains cut m → ⊥) → disk_in old (Bank m) ≡ disk_in first (Bank m))
    → (m : ℕ) → (Contains (cut ++ n ∷ []) m → ⊥) → disk_in new (Bank m) ≡ disk_in first (Bank m)
kept_push first cut n cuts kept m other =
    bank_keeps_bank m n (λ same. other (subst (λ j. Contains (cut ++ n ∷ []) j) (sym same) (Contains-push cut n))) cuts
    ∙ kept m (λ has. other (Contains-append_left cut (n ∷ []) m has))

-- and is recorded behind them
pub adds_push : {D : Type 0} {after : ℕ} (clock : D → ℕ) (first old new : Vault D) (cut : List ℕ) (n : ℕ)
    → IsSome (disk_in old (Bank n))
    → ((was : D) → disk_in old (Bank n) ≡ Some was → new.cuts.items ≡ old.cuts.items ++ record
    { device = Bank n; at = clock was; after = after } ∷ [])
    → AddsCuts after cut first.cuts.items old.cuts.items
    → AddsCuts after (cut ++ n ∷ []) first.cuts.items new.cuts.items
adds_push clock first old new cut n there recorded adds =
    let was = some_of (disk_in old (Bank n)) there in
    cuts_then n (clock was.0) adds (recorded was.0 was.1)
