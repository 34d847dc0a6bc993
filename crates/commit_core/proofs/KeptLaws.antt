-- Records that are kept, when places or homes change: each is at its key's home, or dead.
use Rattle.std.proofs.Common.{◌≡◌, ℕ, ◌≤◌, true, inl, inr, List, sym, ap, ◌∙◌, subst, arith, Some}
use Rattle.std.proofs.lemmas.Bool.{and_parts, cond-true}
use Rattle.serial_model.specs.declared.key.Key.{Key}
use Rattle.homes.specs.declared.places.Content.{Content}
use Rattle.homes.specs.declared.places.Holder.TheVariants.{Dead}
use Rattle.homes.specs.declared.places.Home.{Home}
use Rattle.homes.specs.declared.places.Spot.{Spot}
use Rattle.commit_core.specs.declared.place.Place.{Place}
use Rattle.commit_core.specs.declared.part.Word.{Word}
use Rattle.commit_core.specs.declared.part.Word.TheVariants.{Record, Pointer, Header}
use Rattle.commit_core.specs.declared.part.Part.{Part}
use Rattle.homes.specs.Homes.{in_span}
use Rattle.homes.specs.Laws.{in_span-parts}
use Rattle.commit_core.specs.Keys.{same_key, nothing}
use Rattle.commit_core.specs.Places.{place_of, spot_at, placed}
use Rattle.commit_core.specs.Parts.{covers, found, only, record_part, version_of}
use Rattle.commit_core.specs.Sound.Reads.{IsOfRecord, FitsWord, KeptFits}
use Rattle.commit_core.specs.Lemmas.Keys.{same_key-self}
use Rattle.commit_core.specs.Lemmas.Places.{place_of-placed_other}

-- ---- the part of one record

key_of : (a b : Key) → a.storage ≡ b.storage → a.key ≡ b.key → a ≡ b
key_of a b e f = ap (λ (s : ℕ). let k : Key = record { storage = s; key = a.key } in k) e ∙ ap (λ (n : ℕ). let k : Key = record { storage = b.storage; key = n } in k) f

in_only : (k q : Key) → in_span (only k) q ≡ true → q ≡ k
in_only k q e = let at = in_span-parts (only k) q e in key_of q k at.0 (squeezed k.key q.key at.1 at.2)
  where
    squeezed : (a b : ℕ) → a ≤ b → b ≤ a → b ≡ a
    squeezed a b low high = omega arith

-- it covers its key alone
pub record_covers : (k : Key) (x : Spot) (c : Content) (q : Key) → covers (record_part k x c) q ≡ true → q ≡ k
record_covers k x c q e = in_only k q (and_parts (in_span (only k) q) true e).0

-- and has the content for it
pub record_found : (k : Key) (x : Spot) (c : Content) → found (record_part k x c) k ≡ c
record_found k x c = cond-true (same_key k k) c nothing (same_key-self k)

pub record_fits : (places : List (Spot × Place)) (homes : List (Key × Home)) (k : Key) (x : Spot) → spot_at homes k ≡ Some x
    → IsOfRecord places homes x (record_part k x (place_of places x).content)
record_fits places homes k x at = let c = (place_of places x).content in record {
  key = k;
  only = record_covers k x c;
  version = ap version_of (sym (record_found k x c));
  home = inl at;
}

-- ---- what is kept

-- each part fits where each that is kept of a record stays so
fits_word : (places places' : List (Spot × Place)) (homes homes' : List (Key × Home)) (part : Part) (w : Word) → ((x : Spot) → IsOfRecord places homes x part → IsOfRecord places' homes' x part)
    → FitsWord places homes part w → FitsWord places' homes' part w
fits_word places places' homes homes' part (Record x) so fits = so x fits
fits_word places places' homes homes' part (Pointer x) so fits = tt
fits_word places places' homes homes' part (Header s) so fits = tt

pub fits_so : (places places' : List (Spot × Place)) (homes homes' : List (Key × Home)) (kept : List Part) → ((part : Part) (x : Spot) → IsOfRecord places homes x part → IsOfRecord places' homes' x part)
    → KeptFits places homes kept → KeptFits places' homes' kept
fits_so places places' homes homes' kept so fits = λ part m. fits_word places places' homes homes' part part.word (so part) (fits part m)

-- a place changes that isn't dead
pub fits_placed : (places : List (Spot × Place)) (homes : List (Key × Home)) (x : Spot) (new : Place) (kept : List Part) → ((place_of places x).holder ≡ Dead → ⊥)
    → KeptFits places homes kept → KeptFits (placed places x new) homes kept
fits_placed places homes x new kept alive fits =
    fits_so places (placed places x new) homes homes kept (λ part y of_record. record {
      key = of_record.key;
      only = of_record.only;
      version = of_record.version;
      home = elim (of_record.home) [
        | inl at ↦ inl at
        | inr dead ↦ inr (ap (λ (q : Place). q.holder)
            (place_of-placed_other places x new y (λ e. alive (subst (λ (z : Spot). (place_of places z).holder ≡ Dead) (sym e) dead))) ∙ dead)
      ];
    }) fits
