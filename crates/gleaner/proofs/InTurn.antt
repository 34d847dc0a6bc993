-- The closed log files are mapped one after another.
use Rattle.std.proofs.Common.{◌≡◌, ◌≢◌, ◌<◌, ◌+◌, ◌∙◌, ◌++◌, ◌∷◌, ◌⊎◌, inl, inr, ℕ, zero, suc, List, [], Option, Some, refl, sym, ap, subst, arith, length, get_or}
use Rattle.std.specs.Prelude.{slice_get}
use Rattle.std.specs.List.{flat_map}
use Rattle.std.proofs.lemmas.Bool.{cases_lt}
use Rattle.std.proofs.lemmas.Grind.{flat_map-append}
use Rattle.std.proofs.lemmas.List.{append-nil, length-append}
use Rattle.std.proofs.lemmas.Option.{same_Some}
use Rattle.lists.specs.Elements.{at_below}
use Rattle.outside.specs.Reads.{OnlyReads, reads_then}
use Rattle.serial_model.specs.declared.decl.Decl.{Decl}
use Rattle.wire_form.specs.declared.bucket.Bucket.{Bucket}
use Rattle.gleaner.specs.Glean.{IsMappedFile}
use Rattle.gleaner.specs.Halves.{AreMappedFrom}
use Rattle.gleaner.specs.declared.closed.Closed.{Closed}

-- what stands in a list with one thing more behind it
push_cases : {X : Type 0} (xs : List X) (i : ℕ) (x y : X) → slice_get (xs ++ y ∷ []) i ≡ Some x
    → (slice_get xs i ≡ Some x) ⊎ ((i ≡ length xs) × (y ≡ x))
push_cases [] zero x y at = inr (refl, same_Some y x at)
push_cases [] (suc i) x y at = absurd cc
push_cases (z ∷ zs) zero x y at = inl at
push_cases (z ∷ zs) (suc i) x y at = elim (push_cases zs i x y at) [
  | inl old ↦ inl old
  | inr new ↦ inr (ap suc new.0, new.1)
]

-- what is read at an index is what stands there
pub item_read : {X : Type 0} (xs : List X) (i : ℕ) (x d : X) → slice_get xs i ≡ Some x → get_or xs i d ≡ x
item_read [] i x d at = absurd cc
item_read (y ∷ ys) zero x d at = same_Some y x at
item_read (y ∷ ys) (suc i) x d at = item_read ys i x d at

-- and there is one within a list
pub item_at : {X : Type 0} (xs : List X) (i : ℕ) → i < length xs → (x : X) × (slice_get xs i ≡ Some x)
item_at [] i within = absurd (omega (arith, within))
item_at (x ∷ xs) zero within = (x, refl)
item_at (x ∷ xs) (suc i) within = item_at xs i (omega (arith, within))

-- nothing was called
pub reads_none : {D : Type 0} {tells : D → Option (List ℕ)} {clock : D → ℕ} {image_at : D → ℕ → List ℕ → Type 0}
    {faults : D → ℕ} (disk : D) → OnlyReads tells clock image_at faults disk disk
reads_none disk = record {
  told = refl;
  moments = record {
    later = omega arith;
    kept = λ m c le left. left;
    no_new = λ m c le left. left;
    from = λ m c gt le left. absurd (omega (arith, gt, le));
  };
  later = omega arith;
}

module _ {D : Type 0} {tells : D → Option (List ℕ)} {closed : Closed} {decls : List Decl} {after first : ℕ} where
  -- no log file so far
  pub mapped_none : (files : List D) → AreMappedFrom tells closed decls after first 0 files []
  mapped_none files = record {
    parts = [];
    many = refl;
    all = refl;
    each = λ at file part there here. absurd (let no = here in cc);
  }

  -- one more
  pub mapped_more : (files : List D) (file : D) (buckets more : List Bucket) (count : ℕ)
      → AreMappedFrom tells closed decls after first count files buckets → slice_get files count ≡ Some file
      → IsMappedFile tells closed decls after (first + count) file more
      → AreMappedFrom tells closed decls after first (count + 1) files (buckets ++ more)
  mapped_more files file buckets more count mapped there one = record {
    parts = mapped.parts ++ more ∷ [];
    many = omega (arith, mapped.many, length-append mapped.parts (more ∷ []));
    all = ap (λ bs. bs ++ more) mapped.all
        ∙ sym (flat_map-append (λ part. part) mapped.parts (more ∷ [])
        ∙ ap (λ bs. flat_map (λ part. part) mapped.parts ++ bs) (append-nil more));
    each = λ at f part f_there here. elim (push_cases mapped.parts at part more here) [
      | inl old ↦ mapped.each at f part f_there old
      | inr new ↦
          let same_at : at ≡ count = new.0 ∙ mapped.many in
          let same : file ≡ f = same_Some file f (sym there ∙ ap (slice_get files) (sym same_at) ∙ f_there) in
          subst (λ w. IsMappedFile tells closed decls after (first + w) f part) (sym same_at)
          (subst (λ x. IsMappedFile tells closed decls after (first + count) x part) same
          (subst (IsMappedFile tells closed decls after (first + count) file) new.1 one))
    ];
  }

-- what one call at an index leaves of a list, and what was known before it
module _ {D : Type 0} (old mid new : List D) (i : ℕ) where
  at_or_beside : (worker : ℕ) → (worker ≡ i) ⊎ (worker ≢ i)
  at_or_beside worker = elim (cases_lt worker i) [
    | inl less ↦ inr (λ same. omega (arith, same, less))
    | inr not_less ↦ elim (cases_lt i worker) [
      | inl more ↦ inr (λ same. omega (arith, same, more))
      | inr not_more ↦ inl (omega (arith, not_less, not_more))
    ]
  ]

  pub reads_one : {tells : D → Option (List ℕ)} {clock : D → ℕ} {image_at : D → ℕ → List ℕ → Type 0} {faults : D → ℕ}
      → ((worker : ℕ) (was is : D) → slice_get old worker ≡ Some was → slice_get mid worker ≡ Some is
      → OnlyReads tells clock image_at faults was is)
      → ((was is : D) → slice_get mid i ≡ Some was → slice_get new i ≡ Some is → OnlyReads tells clock image_at faults was is)
      → ((other : ℕ) → other ≢ i → slice_get new other ≡ slice_get mid other) → length mid ≡ length old
      → (worker : ℕ) (was is : D) → slice_get old worker ≡ Some was → slice_get new worker ≡ Some is
      → OnlyReads tells clock image_at faults was is
  reads_one before one others many worker was is at there = elim (at_or_beside worker) [
    | inr apart ↦ before worker was is at (sym (others worker apart) ∙ there)
    | inl here ↦
        let between = item_at mid worker (omega (arith, at_below old worker was at, many)) in
        reads_then (before worker was between.0 at between.1)
        (one between.0 is (ap (slice_get mid) (sym here) ∙ between.1) (ap (slice_get new) (sym here) ∙ there))
  ]

  pub quiet_one : {faults : D → ℕ}
      → ((worker : ℕ) (was is : D) → slice_get old worker ≡ Some was → slice_get mid worker ≡ Some is
      → faults is ≡ faults was)
      → ((was is : D) → slice_get mid i ≡ Some was → slice_get new i ≡ Some is → faults is ≡ faults was)
      → ((other : ℕ) → other ≢ i → slice_get new other ≡ slice_get mid other) → length mid ≡ length old
      → (worker : ℕ) (was is : D) → slice_get old worker ≡ Some was → slice_get new worker ≡ Some is
      → faults is ≡ faults was
  quiet_one before one others many worker was is at there = elim (at_or_beside worker) [
    | inr apart ↦ before worker was is at (sym (others worker apart) ∙ there)
    | inl here ↦
        let between = item_at mid worker (omega (arith, at_below old worker was at, many)) in
        one between.0 is (ap (slice_get mid) (sym here) ∙ between.1) (ap (slice_get new) (sym here) ∙ there)
        ∙ before worker was between.0 at between.1
  ]

  -- at one place alone
  pub quiet_at : {faults : D → ℕ} (worker : ℕ)
      → ((other : ℕ) (was is : D) → slice_get old other ≡ Some was → slice_get mid other ≡ Some is
      → faults is ≡ faults was)
      → ((worker ≡ i) → (was is : D) → slice_get mid i ≡ Some was → slice_get new i ≡ Some is → faults is ≡ faults was)
      → ((other : ℕ) → other ≢ i → slice_get new other ≡ slice_get mid other) → length mid ≡ length old
      → (was is : D) → slice_get old worker ≡ Some was → slice_get new worker ≡ Some is → faults is ≡ faults was
  quiet_at worker before one others many was is at there = elim (at_or_beside worker) [
    | inr apart ↦ before worker was is at (sym (others worker apart) ∙ there)
    | inl here ↦
        let between = item_at mid worker (omega (arith, at_below old worker was at, many)) in
        one here between.0 is (ap (slice_get mid) (sym here) ∙ between.1) (ap (slice_get new) (sym here) ∙ there)
        ∙ before worker was between.0 at between.1
  ]
