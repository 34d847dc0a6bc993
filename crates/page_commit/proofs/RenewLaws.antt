-- A header of the set is renewed, whose part goes on with one key more: the parts and the headers behind it.
use Rattle.std.proofs.Common.{◌≡◌, ◌≢◌, ◌⊎◌, inl, inr, ℕ, Bool, true, false, true≢false, List, [], ◌∷◌}
use Rattle.std.proofs.Common.{refl, sym, ap, ◌∙◌, subst, cond, Some}
use Rattle.std.specs.Prelude.{Contains, ◌==◌, ◌||◌}
use Rattle.std.proofs.lemmas.Bool.{eqb-true, eq-eqb, false_from_ne_true}
use Rattle.lists.specs.Each.{AreDistinct}
use Rattle.lists.specs.Elements.{in_cases, in_head, in_none, in_tail}
use Rattle.serial_model.specs.Decls.{AreDecls}
use Rattle.commit_core.specs.declared.part.Part.{Part}
use Rattle.commit_core.specs.declared.part.Word.{Word}
use Rattle.commit_core.specs.declared.part.Word.TheVariants.{Header, Pointer, Record}
use Rattle.commit_core.specs.Parts.{same_word, with_part}
use Rattle.tx_sets.specs.declared.reads.ReadEntry.{ReadEntry}
use Rattle.tx_sets.specs.declared.seen.Seen.{Seen}
use Rattle.tx_sets.specs.declared.sets.Sets.{Sets}
use Rattle.tx_sets.specs.Entries.{has_word, places_of, renewed, renewed_at}
use Rattle.engine_pages.specs.declared.view.View.{View}
use Rattle.engine_pages.specs.Pointers.{WaysAgree}
use Rattle.engine_pages.specs.Steps.{kept_at, seen_at}
use Rattle.page_commit.specs.Places.{ground, pointer_for, slot_of, spot_for}
use Rattle.page_commit.specs.HeaderParts.{AreHeaders, IsMetHeader}
use Rattle.page_commit.specs.Live.{AreParts, IsMetPointer, IsReadPart}
use Rattle.page_commit.proofs.GrowLaws.{met_pointer_grown, read_grown, KnowsMore}
use Rattle.page_commit.proofs.HeaderLaws.{header_grown, one_head}
use Rattle.page_commit.proofs.KeepLaws.{kept_cases, kept_new, kept_old, kept_once, seen_is}

-- ---- the set

-- what stands in it now did before, at another place, or is the header as it was seen now
pub renewed_cases : (h : Seen) (xs : List Seen) (x : Seen) → Contains (renewed h.at h.word xs) x
    → (Contains xs x × (x.at ≢ h.at)) ⊎ (h ≡ x)
renewed_cases h [] x has = absurd (in_none x has)
renewed_cases h (y ∷ xs) x has =
    elim (in_cases x (renewed_at h.at h.word y) (renewed h.at h.word xs) has) [
      | inl same ↦ by_test (y.at == h.at) refl same
      | inr later ↦ elim (renewed_cases h xs x later) [ inl old ↦ inl (in_tail x y xs old.0, old.1) | inr is ↦ inr is ]
    ]
  where
    by_test : (b : Bool) → (y.at == h.at) ≡ b → renewed_at h.at h.word y ≡ x
        → (Contains (y ∷ xs) x × (x.at ≢ h.at)) ⊎ (h ≡ x)
    by_test true hit same =
        let here : y.at ≡ x.at =
        sym (ap (λ (c : Bool). let z : Seen = cond c (record y { word = h.word }) y in z.at) hit)
        ∙ ap (λ (z : Seen). z.at) same in
        let told : h.word ≡ x.word =
        sym (ap (λ (c : Bool). let z : Seen = cond c (record y { word = h.word }) y in z.word) hit)
        ∙ ap (λ (z : Seen). z.word) same in
        inr (seen_is h x (sym (eqb-true y.at h.at hit) ∙ here) told)
    by_test false miss same =
        let is : y ≡ x =
        sym (ap (λ (c : Bool). let z : Seen = cond c (record y { word = h.word }) y in z) miss) ∙ same in
        inl (
          subst (λ (z : Seen). Contains (y ∷ xs) z) is (in_head y xs),
          λ one. true≢false (sym (eq-eqb y.at h.at (ap (λ (z : Seen). z.at) is ∙ one)) ∙ miss),
        )

-- what stood at another place stands still
pub renewed_old : (h : Seen) (xs : List Seen) (x : Seen) → Contains xs x → x.at ≢ h.at
    → Contains (renewed h.at h.word xs) x
renewed_old h [] x has apart = absurd (in_none x has)
renewed_old h (y ∷ xs) x has apart =
    elim (in_cases x y xs has) [
      | inl same ↦ by_test (y.at == h.at) refl same
      | inr later ↦ in_tail x (renewed_at h.at h.word y) (renewed h.at h.word xs) (renewed_old h xs x later apart)
    ]
  where
    by_test : (b : Bool) → (y.at == h.at) ≡ b → y ≡ x → Contains (renewed h.at h.word (y ∷ xs)) x
    by_test true hit same =
        absurd (apart (sym (ap (λ (z : Seen). z.at) same) ∙ eqb-true y.at h.at hit))
    by_test false miss same =
        subst (λ (z : Seen). Contains (renewed h.at h.word (y ∷ xs)) z)
        (ap (λ (c : Bool). let z : Seen = cond c (record y { word = h.word }) y in z) miss ∙ same)
        (in_head (renewed_at h.at h.word y) (renewed h.at h.word xs))

-- the header stands there, where one with its word did
pub renewed_has : (h : Seen) (xs : List Seen) → has_word h.at xs ≡ true → Contains (renewed h.at h.word xs) h
renewed_has h [] has = absurd (true≢false (sym has))
renewed_has h (y ∷ xs) has = by_test (y.at == h.at) refl (λ later. renewed_has h xs later)
  where
    by_test : (b : Bool) → (y.at == h.at) ≡ b → (has_word h.at xs ≡ true → Contains (renewed h.at h.word xs) h)
        → Contains (renewed h.at h.word (y ∷ xs)) h
    by_test true hit next =
        let is : renewed_at h.at h.word y ≡ h =
        seen_is (renewed_at h.at h.word y) h
        (ap (λ (c : Bool). let z : Seen = cond c (record y { word = h.word }) y in z.at) hit ∙ eqb-true y.at h.at hit)
        (ap (λ (c : Bool). let z : Seen = cond c (record y { word = h.word }) y in z.word) hit) in
        subst (λ (z : Seen). Contains (renewed h.at h.word (y ∷ xs)) z) is
        (in_head (renewed_at h.at h.word y) (renewed h.at h.word xs))
    by_test false miss next =
        in_tail h (renewed_at h.at h.word y) (renewed h.at h.word xs)
        (next (subst (λ (b : Bool). (b || has_word h.at xs) ≡ true) miss has))

-- the places stay
pub places_renewed : (at word : ℕ) (xs : List Seen) → places_of (renewed at word xs) ≡ places_of xs
places_renewed at word [] = refl
places_renewed at word (y ∷ xs) =
    ap (λ (n : ℕ). n ∷ places_of (renewed at word xs)) (by_test (y.at == at) refl)
    ∙ ap (λ (l : List ℕ). y.at ∷ l) (places_renewed at word xs)
  where
    by_test : (b : Bool) → (y.at == at) ≡ b → (renewed_at at word y).at ≡ y.at
    by_test true hit = ap (λ (c : Bool). let z : Seen = cond c (record y { word = word }) y in z.at) hit
    by_test false miss = ap (λ (c : Bool). let z : Seen = cond c (record y { word = word }) y in z.at) miss

-- and so it has the same words
pub has_renewed : (a at word : ℕ) (xs : List Seen) → has_word a (renewed at word xs) ≡ has_word a xs
has_renewed a at word [] = refl
has_renewed a at word (y ∷ xs) =
    ap (λ (n : ℕ). (n == a) || has_word a (renewed at word xs)) (by_test (y.at == at) refl)
    ∙ ap (λ (b : Bool). (y.at == a) || b) (has_renewed a at word xs)
  where
    by_test : (b : Bool) → (y.at == at) ≡ b → (renewed_at at word y).at ≡ y.at
    by_test true hit = ap (λ (c : Bool). let z : Seen = cond c (record y { word = word }) y in z.at) hit
    by_test false miss = ap (λ (c : Bool). let z : Seen = cond c (record y { word = word }) y in z.at) miss

-- ---- the parts

module _ (sets new : Sets) (v w : View) (h : Seen) (part : Part) (are : AreDecls v.layout.decls)
    (agree : WaysAgree w.ways) (more : KnowsMore v w) (met : IsMetHeader (ground w) h part)
    (has : has_word h.at sets.headers ≡ true) (headers : new.headers ≡ renewed h.at h.word sets.headers) where
  header_has : Contains new.headers h
  header_has = subst (λ (l : List Seen). Contains l h) (sym headers) (renewed_has h sets.headers has)

  header_stays : (x : Seen) → Contains sets.headers x → x.at ≢ h.at → Contains new.headers x
  header_stays x there apart =
      subst (λ (l : List Seen). Contains l x) (sym headers) (renewed_old h sets.headers x there apart)

  header_cases : (x : Seen) → Contains new.headers x → (Contains sets.headers x × (x.at ≢ h.at)) ⊎ (h ≡ x)
  header_cases x there = renewed_cases h sets.headers x (subst (λ (l : List Seen). Contains l x) headers there)

  -- the part takes the place of the header's, and each other one stays
  pub renewed_parts : AreParts sets v v.seat.kept → new.reads ≡ sets.reads → new.pointers ≡ sets.pointers
      → w.seat.kept ≡ with_part v.seat.kept part → AreParts new w w.seat.kept
  renewed_parts parts reads pointers kept = subst (AreParts new w) (sym kept) record {
    known = λ q there. by_case q (kept_cases v.seat.kept part q there);
    reads = λ f there.
        let r = parts.reads f (subst (λ (l : List ReadEntry). Contains l f) reads there) in
        let now = read_grown v w f r.0 more r.2 in
        let other : same_word r.0.word part.word ≡ false =
        ap (λ (z : Part). same_word z.word part.word) now.is
        ∙ ap (λ (z : Part). same_word (Record (spot_for w.layout f.key f.at)) z.word) met.is in
        (r.0, kept_old v.seat.kept part r.0 r.1 other, now);
    pointers = λ p there.
        let r = parts.pointers p (subst (λ (l : List Seen). Contains l p) pointers there) in
        let now = met_pointer_grown v w p r.0 are agree more r.2 in
        let other : same_word r.0.word part.word ≡ false =
        ap (λ (z : Word). same_word z part.word) now.of.word
        ∙ ap (λ (z : Part). same_word (Pointer (pointer_for (ground w) p.at)) z.word) met.is in
        (r.0, kept_old v.seat.kept part r.0 r.1 other, now);
    headers = λ x there. by_header x (header_cases x there);
    once = kept_once v.seat.kept part parts.once;
  }
    where
      by_header : (x : Seen) → (Contains sets.headers x × (x.at ≢ h.at)) ⊎ (h ≡ x)
          → (q : Part) × Contains (with_part v.seat.kept part) q × IsMetHeader (ground w) x q
      by_header x (inr is) =
          (part, kept_new v.seat.kept part, subst (λ (z : Seen). IsMetHeader (ground w) z part) is met)
      by_header x (inl old) =
          let r = parts.headers x old.0 in
          let now = header_grown v w x r.0 more r.2 in
          let miss : (slot_of w.layout.slots x.at == slot_of w.layout.slots h.at) ≡ false =
          false_from_ne_true (slot_of w.layout.slots x.at == slot_of w.layout.slots h.at) (λ test.
          old.1 (one_head (ground w) x h r.0 part now met
          (eqb-true (slot_of w.layout.slots x.at) (slot_of w.layout.slots h.at) test))) in
          let other : same_word r.0.word part.word ≡ false =
          ap (λ (z : Part). same_word z.word part.word) now.is
          ∙ (ap (λ (z : Part). same_word (Header (slot_of w.layout.slots x.at)) z.word) met.is ∙ miss) in
          (r.0, kept_old v.seat.kept part r.0 r.1 other, now)

      -- the part of a header with another word than this one's is that of another header
      apart_by : (x : Seen) (q : Part) → IsMetHeader (ground w) x q → same_word q.word part.word ≡ false → x.at ≢ h.at
      apart_by x q now miss same =
          let test : same_word q.word part.word ≡ true =
          ap (λ (z : Part). same_word z.word part.word) now.is
          ∙ (ap (λ (z : Part). same_word (Header (slot_of w.layout.slots x.at)) z.word) met.is
          ∙ eq-eqb (slot_of w.layout.slots x.at) (slot_of w.layout.slots h.at)
          (ap (λ (n : ℕ). slot_of w.layout.slots n) same)) in
          true≢false (sym test ∙ miss)

      by_known : (q : Part) → same_word q.word part.word ≡ false
          → ((f : ReadEntry) × Contains sets.reads f × IsReadPart (ground v) f q)
          ⊎ (((p : Seen) × Contains sets.pointers p × IsMetPointer v p q)
          ⊎ ((x : Seen) × Contains sets.headers x × IsMetHeader (ground v) x q))
          → ((f : ReadEntry) × Contains new.reads f × IsReadPart (ground w) f q)
          ⊎ (((p : Seen) × Contains new.pointers p × IsMetPointer w p q)
          ⊎ ((x : Seen) × Contains new.headers x × IsMetHeader (ground w) x q))
      by_known q miss (inl r) = inl (
        r.0,
        subst (λ (l : List ReadEntry). Contains l r.0) (sym reads) r.1,
        read_grown v w r.0 q more r.2,
      )
      by_known q miss (inr (inl r)) = inr (inl (
        r.0,
        subst (λ (l : List Seen). Contains l r.0) (sym pointers) r.1,
        met_pointer_grown v w r.0 q are agree more r.2,
      ))
      by_known q miss (inr (inr r)) =
          let now = header_grown v w r.0 q more r.2 in
          inr (inr (r.0, header_stays r.0 r.1 (apart_by r.0 q now miss), now))

      by_case : (q : Part) → (Contains v.seat.kept q × (same_word q.word part.word ≡ false)) ⊎ (part ≡ q)
          → ((f : ReadEntry) × Contains new.reads f × IsReadPart (ground w) f q)
          ⊎ (((p : Seen) × Contains new.pointers p × IsMetPointer w p q)
          ⊎ ((x : Seen) × Contains new.headers x × IsMetHeader (ground w) x q))
      by_case q (inl old) = by_known q old.1 (parts.known q old.0)
      by_case q (inr is) = inr (inr (h, header_has, subst (IsMetHeader (ground w) h) is met))

  -- the headers of the set were last seen and are kept as it has them, where no other word of them was met
  pub renewed_headers : AreHeaders sets.headers v → seen_at w.reads h.at ≡ Some h.word → kept_at w.reads h.at ≡ Some h.word
      → ((x : Seen) → Contains sets.headers x → x.at ≢ h.at
      → (seen_at w.reads x.at ≡ seen_at v.reads x.at) × (kept_at w.reads x.at ≡ kept_at v.reads x.at))
      → AreHeaders new.headers w
  renewed_headers old seen kept same = record {
    once = subst AreDistinct
        (sym (ap (λ (l : List Seen). places_of l) headers ∙ places_renewed h.at h.word sets.headers)) old.once;
    met = λ x there. elim (header_cases x there) [
      | inl o ↦ (same x o.0 o.1).0 ∙ old.met x o.0
      | inr is ↦ subst (λ (z : Seen). seen_at w.reads z.at ≡ Some z.word) is seen
    ];
    kept = λ x there. elim (header_cases x there) [
      | inl o ↦ (same x o.0 o.1).1 ∙ old.kept x o.0
      | inr is ↦ subst (λ (z : Seen). kept_at w.reads z.at ≡ Some z.word) is kept
    ];
  }
