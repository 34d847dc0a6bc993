-- A call that did nothing is one that was done in part.
use Rattle.std.proofs.Common.{◌≡◌, ℕ, List, Option, Some, sym, subst, ◌∙◌}
use Rattle.std.proofs.lemmas.Option.{same_Some}
use Rattle.outside.specs.Disk.{IfTold, Torn, Shortened}
use Rattle.outside.specs.Ranges.{torn_same, shortened_same}

-- what is told twice is told the same
same_told : (old new : Option (List ℕ)) (file now : List ℕ)
    → new ≡ old → old ≡ Some file → new ≡ Some now → file ≡ now
same_told old new file now same was is = same_Some file now (sym was ∙ sym same ∙ is)

-- a write that left what was there
pub torn_kept : (at count : ℕ) (old new : Option (List ℕ)) → new ≡ old
    → IfTold old (λ file. IfTold new (Torn at count file))
torn_kept at count old new same file was now is =
    subst (Torn at count file) (same_told old new file now same was is) (torn_same at count file)

-- and a cut that did
pub shortened_kept : (len : ℕ) (old new : Option (List ℕ)) → new ≡ old
    → IfTold old (λ file. IfTold new (Shortened len file))
shortened_kept len old new same file was now is =
    subst (Shortened len file) (same_told old new file now same was is) (shortened_same len file)
