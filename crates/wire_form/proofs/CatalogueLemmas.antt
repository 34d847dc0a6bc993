-- The words of a catalogue that is written.
use Rattle.std.proofs.Common.{◌≡◌, ℕ, ◌+◌, ◌-◌, ◌*◌, ◌^◌, ◌<◌, ◌≤◌, List, [], ◌∷◌, ◌++◌, length, drop, replicate, refl, sym, ap, ◌∙◌, append-nil, arith}
use Rattle.std.specs.List.{flat_map, AllByRecursion}
use Rattle.std.proofs.lemmas.List.{drop-replicate}
use Rattle.lists.specs.Each.{all_append}
use Rattle.serial_model.specs.declared.decl.Decl.{Decl}
use Rattle.serial_model.specs.declared.decl.Decl.TheVariants.{Array, Tree}
use Rattle.wire_form.specs.declared.records.Stored.{Stored}
use Rattle.wire_form.specs.Bytes.{padded}
use Rattle.wire_form.specs.ItemLaws.{length-items}
use Rattle.serial_model.specs.Decls.{IsDecl}
use Rattle.wire_form.specs.Pages.{storage_head, storage_size, IsStored, stored_words, Contents, IsCatalogue, catalogue_words}
use Rattle.wire_form.proofs.ByteLemmas.{all_padded}

-- the head and then the storages are the catalogue, for what is written over zeros
pub catalogue_written : (h x y e p : ℕ) (to : List ℕ) (storages : List Stored) → x ≡ e → y ≡ p → length storages ≤ 16 → to ≡ flat_map stored_words storages ++ drop (3 * length storages) (replicate 48 0)
    → padded 16 (h ∷ x ∷ y ∷ []) ++ (to ++ []) ≡ padded 16 (h ∷ e ∷ p ∷ []) ++ padded 48 (flat_map stored_words storages)
catalogue_written h x y e p to storages xe yp few spelled =
    let long : length (flat_map stored_words storages) ≡ 3 * length storages = length-items stored_words 3 (λ _. refl) storages in
    let zeros : drop (3 * length storages) (replicate 48 0) ≡ replicate (48 - length (flat_map stored_words storages)) 0 =
    drop-replicate (3 * length storages) 48 0 ∙ ap (λ n. replicate (48 - n) 0) (sym long) in
    let body : to ++ [] ≡ padded 48 (flat_map stored_words storages) = append-nil to ∙ spelled ∙ ap (λ t. flat_map stored_words storages ++ t) zeros in
    ap (λ a. padded 16 (h ∷ a ∷ y ∷ []) ++ (to ++ [])) xe ∙ ap (λ b. padded 16 (h ∷ e ∷ b ∷ []) ++ (to ++ [])) yp ∙ ap (λ t. padded 16 (h ∷ e ∷ p ∷ []) ++ t) body

decl_fits : (number : ℕ) (d : Decl) (root : ℕ) → number ≤ 65536 → IsDecl d → root < number → AllByRecursion (λ w. w < 2 ^ 64) (storage_head d ∷ storage_size d ∷ root ∷ [])
decl_fits number (Array id size) root last is lt = (omega (arith, is.0), (omega (arith, is.2), (omega arith, tt)))
decl_fits number (Tree id) root last is lt = (omega (arith, is), (omega arith, (omega arith, tt)))

all_stored_fit : (number : ℕ) (storages : List Stored) → number ≤ 65536 → AllByRecursion (IsStored number) storages → AllByRecursion (λ w. w < 2 ^ 64) (flat_map stored_words storages)
all_stored_fit number [] last all = tt
all_stored_fit number (s ∷ ss) last all =
    all_append (λ w. w < 2 ^ 64) (stored_words s) (flat_map stored_words ss) (decl_fits number s.decl s.root last all.0.decl all.0.root) (all_stored_fit number ss last all.1)

-- the words of a catalogue fit
pub catalogue_fits : (number : ℕ) (c : Contents) → number ≤ 65536 → IsCatalogue number c → AllByRecursion (λ w. w < 2 ^ 64) (catalogue_words c)
catalogue_fits number c last is =
    let head : AllByRecursion (λ w. w < 2 ^ 64) ((0x4341_5400_0000_0000 + length c.storages) ∷ c.epoch ∷ c.previous ∷ []) = (omega (arith, is.most), (omega (arith, is.epoch), (omega (arith, is.previous), tt))) in
    all_append (λ w. w < 2 ^ 64) (padded 16 ((0x4341_5400_0000_0000 + length c.storages) ∷ c.epoch ∷ c.previous ∷ [])) (padded 48 (flat_map stored_words c.storages))
    (all_padded (λ w. w < 2 ^ 64) 16 ((0x4341_5400_0000_0000 + length c.storages) ∷ c.epoch ∷ c.previous ∷ []) (omega arith) head)
    (all_padded (λ w. w < 2 ^ 64) 48 (flat_map stored_words c.storages) (omega arith) (all_stored_fit number c.storages last is.each))
