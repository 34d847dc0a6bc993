-- What a seat keeps stays sound, where its slots are held and their pages stay.
use Rattle.std.proofs.Common.{◌≡◌, ℕ, ◌+◌, true, false, true≢false, ◌⊎◌, inl, inr, List, [], ◌∷◌, ◌++◌, length, append_assoc, refl, sym, ap, ◌∙◌, subst, arith, Option, Some, None}
use Rattle.std.proofs.lemmas.List.{length-append}
use Rattle.std.specs.List.{slice_get, Contains}
use Rattle.serial_model.specs.declared.key.Key.{Key}
use Rattle.homes.specs.declared.places.At.{At}
use Rattle.homes.specs.declared.places.At.TheVariants.{Root, In}
use Rattle.homes.specs.declared.places.Span.{Span}
use Rattle.homes.specs.Homes.{in_span}
use Rattle.commit_core.specs.declared.part.Word.{Word}
use Rattle.commit_core.specs.declared.part.Word.TheVariants.{Record, Pointer, Header}
use Rattle.commit_core.specs.declared.part.Part.{Part}
use Rattle.drop_core.specs.declared.table.Page.{Page}
use Rattle.drop_core.specs.declared.table.Page.TheVariants.{Leaf, Split}
use Rattle.drop_core.specs.declared.table.Table.{Table}
use Rattle.drop_core.specs.declared.grip.Grip.{Grip}
use Rattle.drop_core.specs.Table.{slot_of, page_of, has_slot, has_pointer, is_never}
use Rattle.drop_core.specs.Sound.{span_at}
use Rattle.drop_core.specs.Law.{IsGrown, LeavesPage, Leaves}
use Rattle.engine_rule.specs.Pairs.{page_content}
use Rattle.engine_rule.specs.JointState.{slot_of_word}
use Rattle.engine_rule.specs.Sound.{OnSlot, IsHeld, IsPointerThere, HasRecords, HasKeys, FitsWord, IsSoundKept}

-- ---- what a leaf had it has still, if it grew or was split

abbrev Left : Page → Page → Type 0
Left old new = (new ≡ old) ⊎ IsGrown old new

leaf_not_split : (keys : List Key) → Leaf keys ≡ Split → ⊥
leaf_not_split keys e = cc

leaf_is : (keys keys' : List Key) → Leaf keys ≡ Leaf keys' → keys ≡ keys'
leaf_is keys keys' e = cc

pub records_left : (old new : Page) (n : ℕ) → Left old new → HasRecords old n → HasRecords new n
records_left old new n (inl same) had = subst (λ (pg : Page). HasRecords pg n) (sym same) had
records_left old new n (inr grown) (inl split) = absurd (leaf_not_split grown.0 (sym grown.1 ∙ split))
records_left old new n (inr grown) (inr had) =
    elim grown.2 [
      | inl split ↦ inl split
      | inr more ↦
          let longer = length-append grown.0 (more.0 ∷ []) in
          let same = ap length (leaf_is had.0 grown.0 (sym had.1 ∙ grown.1)) in
          inr (grown.0 ++ more.0 ∷ [], more.1, omega (arith, had.2, longer, same))
    ]

pub keys_left : (old new : Page) (keys : List Key) → Left old new → HasKeys old keys → HasKeys new keys
keys_left old new keys (inl same) had = subst (λ (pg : Page). HasKeys pg keys) (sym same) had
keys_left old new keys (inr grown) (inl split) = absurd (leaf_not_split grown.0 (sym grown.1 ∙ split))
keys_left old new keys (inr grown) (inr had) =
    elim grown.2 [
      | inl split ↦ inl split
      | inr more ↦
          let same : grown.0 ≡ keys ++ had.0 = leaf_is grown.0 (keys ++ had.0) (sym grown.1 ∙ had.1) in
          inr (
            had.0 ++ more.0 ∷ [],
            more.1 ∙ ap (λ (l : List Key). Leaf (l ++ more.0 ∷ [])) same ∙ ap (λ (l : List Key). Leaf l) (append_assoc keys had.0 (more.0 ∷ [])),
          )
    ]

-- a page with pointers is none of these
pointer_left : (old new : Page) (j : ℕ) → Left old new → has_pointer old j ≡ true → has_pointer new j ≡ true
pointer_left old new j (inl same) there = ap (λ (pg : Page). has_pointer pg j) same ∙ there
pointer_left old new j (inr grown) there = absurd (true≢false (sym there ∙ ap (λ (pg : Page). has_pointer pg j) grown.1))

-- ---- what is kept

-- the seat q holds the slots of its grip, and the act left their pages
module _ (old new : Table) (grips : List Grip) (leaves : Leaves grips old new) (q : ℕ) (h : Grip) (at : slice_get grips q ≡ Some h) where
  abbrev Known : ℕ → Type 0
  Known s = (has_slot h.holds s ≡ true) × (is_never (slot_of old s).led ≡ false)

  page_left : (s : ℕ) → Known s → LeavesPage old new s
  page_left s known = leaves.pages q s h at known.0 known.1

  only_grown : (s : ℕ) → Known s → (page_of new s ≡ page_of old s) ⊎ IsGrown (page_of old s) (page_of new s)
  only_grown s known = elim (page_left s known).page [ inl same ↦ inl same | inr grown ↦ inr grown.0 ]

  held_stays : (o : Option ℕ) → OnSlot o Known → OnSlot o (λ s. (has_slot h.holds s ≡ true) × (is_never (slot_of new s).led ≡ false))
  held_stays None held = tt
  held_stays (Some s) held = (held.0, (page_left s held).known)

  there_stays : (x : At) → IsHeld old h.holds (Pointer x) → IsPointerThere (page_of old) x → IsPointerThere (page_of new) x
  there_stays (Root r) held there = tt
  there_stays (In z) held there = pointer_left (page_of old z.slot) (page_of new z.slot) z.index (only_grown z.slot held) there

  span_stays : (x : At) → IsHeld old h.holds (Pointer x) → IsPointerThere (page_of old) x → span_at new x ≡ span_at old x
  span_stays (Root r) held there = leaves.roots r
  span_stays (In z) held there = (page_left z.slot held).spans z.index there

  fits_stays : (part : Part) (w : Word) → IsHeld old h.holds w → FitsWord old part w → FitsWord new part w
  fits_stays part (Record x) held fits = records_left (page_of old x.slot) (page_of new x.slot) (x.index + 1) (only_grown x.slot held) fits
  fits_stays part (Pointer x) held fits = record {
    page = fits.page;
    there = there_stays x held fits.there;
    version = fits.version;
    past = let l = fits.past in let more = leaves.published in omega (arith, l, more);
    within = λ k c. ap (λ (w : Span). in_span w k) (span_stays x held fits.there) ∙ fits.within k c;
    pairs = λ k c. ap page_content (leaves.homes fits.page k fits.past) ∙ fits.pairs k c;
  }
  fits_stays part (Header s) held fits = record {
    version = fits.version;
    keys = keys_left (page_of old s) (page_of new s) part.less (only_grown s held) fits.keys;
    within = λ x from k c.
        let was = (page_left s held).led x from in
        ap (λ (w : Span). in_span w k) was.1 ∙ fits.within x was.0 k c;
    absent = fits.absent;
  }

  pub kept_stays : (kept : List Part) → IsSoundKept old h.holds kept → IsSoundKept new h.holds kept
  kept_stays kept sound = record {
    kept_is_held = λ part c. held_stays (slot_of_word part.word) (sound.kept_is_held part c);
    kept_fits = λ part c. fits_stays part part.word (sound.kept_is_held part c) (sound.kept_fits part c);
  }

-- the same slots, or more, and the same parts, or fewer
pub kept_fewer : (d : Table) (holds holds' : List ℕ) (kept kept' : List Part) → ((part : Part) → Contains kept' part → Contains kept part)
    → ((s : ℕ) (part : Part) → Contains kept part → slot_of_word part.word ≡ Some s → has_slot holds s ≡ true → has_slot holds' s ≡ true)
    → IsSoundKept d holds kept → IsSoundKept d holds' kept'
kept_fewer d holds holds' kept kept' fewer more sound = record {
  kept_is_held = λ part c. on_slot part (fewer part c) (slot_of_word part.word) refl (sound.kept_is_held part (fewer part c));
  kept_fits = λ part c. sound.kept_fits part (fewer part c);
}
  where
    on_slot : (part : Part) → Contains kept part → (o : Option ℕ) → slot_of_word part.word ≡ o → OnSlot o (λ s. (has_slot holds s ≡ true) × (is_never (slot_of d s).led ≡ false))
        → OnSlot o (λ s. (has_slot holds' s ≡ true) × (is_never (slot_of d s).led ≡ false))
    on_slot part c None e held = tt
    on_slot part c (Some s) e held = (more s part c e held.0, held.1)
