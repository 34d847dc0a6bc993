-- Both halves of the closed log files together.
use Rattle.std.proofs.Common.{◌≡◌, ◌∙◌, ◌<◌, ◌≤◌, ◌+◌, ◌++◌, ◌∷◌, ℕ, zero, suc, List, [], Bool, true, false, Option, Some, None, refl, sym, ap, subst, arith, length}
use Rattle.std.specs.Prelude.{slice_get, Result, Ok, Err, OnOk}
use Rattle.std.specs.List.{flat_map}
use Rattle.std.specs.Prelude.{get_or}
use Rattle.std.proofs.lemmas.Grind.{flat_map-append}
use Rattle.std.proofs.lemmas.List.{length-append}
use Rattle.std.proofs.lemmas.Option.{same_Some}
use Rattle.lists.specs.Elements.{at_below}
use Rattle.lists.specs.declared.memory.OrMemory.{OrMemory}
use Rattle.lists.specs.declared.memory.OrMemory.TheVariants as or
use Rattle.outside.specs.Disk.{IfTold}
use Rattle.outside.specs.Reads.{OnlyReads}
use Rattle.outside.specs.declared.device.Device.{Device}
use Rattle.outside.specs.declared.device.Device.TheVariants.{Bank}
use Rattle.serial_model.specs.declared.decl.Decl.{Decl}
use Rattle.wire_form.specs.declared.bucket.Bucket.{Bucket}
use Rattle.log_mapper.specs.Mapped.{IsDamaged}
use Rattle.bucket_queues.specs.Threads.{fault_in}
use Rattle.gleaner.specs.Glean.{AreMappedFiles, bank_of, HasFailed, IsDamagedFile, IsLower, IsMappedFile, IsToldBefore}
use Rattle.gleaner.specs.Halves.{AreMappedFrom, HasFailedFrom, IsDamagedFrom, LeavesHalf, RefusesFiles, RefusesHalves}
use Rattle.gleaner.specs.Halves.{beside_of, failed_in, fault_or_memory, told_of}
use Rattle.gleaner.specs.declared.closed.Closed.{Closed}
use Rattle.gleaner.specs.declared.gleaning.GleanFault.{GleanFault}
use Rattle.gleaner.specs.declared.gleaning.GleanFault.TheVariants as faults

-- the fault of a refusal
pub fault_is : (fault : OrMemory GleanFault) (f : GleanFault) → fault_in (Err fault) ≡ Some f → fault ≡ or.Fault f
fault_is (or.Fault g) f is = ap or.Fault (same_Some g f is)
fault_is or.Memory f is = absurd (let no = is in cc)

-- and the other way
told_is : (fault : OrMemory GleanFault) (f : GleanFault) → fault ≡ or.Fault f → fault_in (Err fault) ≡ Some f
told_is fault f is = ap (λ x. fault_in (Err x)) is

-- ---- places in two lists

none_more : (n : ℕ) → 0 + n ≡ n
none_more n = omega arith

front_at : {X : Type 0} (xs ys : List X) (i : ℕ) (x : X) → slice_get xs i ≡ Some x → slice_get (xs ++ ys) i ≡ Some x
front_at [] ys i x at = absurd (let no = at in cc)
front_at (z ∷ zs) ys zero x at = at
front_at (z ∷ zs) ys (suc i) x at = front_at zs ys i x at

back_at : {X : Type 0} (xs ys : List X) (i : ℕ) (x : X) → slice_get ys i ≡ Some x → slice_get (xs ++ ys) (length xs + i) ≡ Some x
back_at [] ys i x at = ap (slice_get ys) (none_more i) ∙ at
back_at (z ∷ zs) ys i x at =
    let next : suc (length zs) + i ≡ suc (length zs + i) = omega arith in
    ap (slice_get (z ∷ (zs ++ ys))) next ∙ back_at zs ys i x at

-- what stands in two lists stands in one of them
data InHalf {X : Type 0} (xs ys : List X) (i : ℕ) (x : X) : Type 0 where
  is_low : slice_get xs i ≡ Some x → InHalf xs ys i x
  is_high : (j : ℕ) → i ≡ length xs + j → slice_get ys j ≡ Some x → InHalf xs ys i x

half_of : {X : Type 0} (xs ys : List X) (i : ℕ) (x : X) → slice_get (xs ++ ys) i ≡ Some x → InHalf xs ys i x
half_of [] ys i x at = is_high i (sym (none_more i)) at
half_of (z ∷ zs) ys zero x at = is_low at
half_of (z ∷ zs) ys (suc i) x at = elim (half_of zs ys i x at) [
  | is_low here ↦ is_low here
  | is_high j is here ↦ is_high j (let next : suc i ≡ suc (length zs) + j = omega (arith, is) in next) here
]

-- a pair of lists of the same lengths: places in both
data InHalves {X : Type 0} (xs ys us vs : List X) (i : ℕ) (x u : X) : Type 0 where
  lows : slice_get xs i ≡ Some x → slice_get us i ≡ Some u → InHalves xs ys us vs i x u
  highs : (j : ℕ) → i ≡ 4 + j → slice_get ys j ≡ Some x → slice_get vs j ≡ Some u → InHalves xs ys us vs i x u

halves_of : {X : Type 0} (xs ys us vs : List X) (i : ℕ) (x u : X) → length xs ≡ 4 → length us ≡ length xs
    → slice_get (xs ++ ys) i ≡ Some x → slice_get (us ++ vs) i ≡ Some u → InHalves xs ys us vs i x u
halves_of xs ys us vs i x u four same at there = elim (half_of xs ys i x at) [
  | is_low here ↦ elim (half_of us vs i u there) [
    | is_low now ↦ lows here now
    | is_high j is now ↦ absurd (omega (arith, at_below xs i x here, is, same))
  ]
  | is_high j is here ↦ elim (half_of us vs i u there) [
    | is_low now ↦ absurd (omega (arith, at_below us i u now, is, same))
    | is_high k is_now now ↦
        let same_place : k ≡ j = omega (arith, is, is_now, same) in
        highs j (omega (arith, is, four)) here (ap (slice_get vs) (sym same_place) ∙ now)
  ]
]

-- numbers of closed log files rise with the workers
bank_below : (odd : Bool) (a b : ℕ) → a < b → bank_of odd a < bank_of odd b
bank_below true a b less = omega (arith, less)
bank_below false a b less = omega (arith, less)

-- ---- what was mapped

module _ {D : Type 0} (tells : D → Option (List ℕ)) (closed : Closed) (decls : List Decl) (after : ℕ) where
  -- of the lower half alone
  pub low_mapped : (count : ℕ) (front back : List D) (buckets : List Bucket) → length front ≡ 4 → count ≤ 4
      → AreMappedFrom tells closed decls after 0 count front buckets
      → AreMappedFiles tells closed decls after count (front ++ back) buckets
  low_mapped count front back buckets four within mapped = record {
    parts = mapped.parts;
    many = mapped.many;
    all = mapped.all;
    each = λ worker file part there at. elim (half_of front back worker file there) [
      | is_low here ↦ subst (λ w. IsMappedFile tells closed decls after w file part) (none_more worker) (mapped.each worker file part here at)
      | is_high j is here ↦ absurd (omega (arith, at_below mapped.parts worker part at, mapped.many, is, four, within))
    ];
  }

  -- of both
  pub both_mapped : (count : ℕ) (front back : List D) (low_made high_made : List Bucket) → length front ≡ 4
      → AreMappedFrom tells closed decls after 0 4 front low_made → AreMappedFrom tells closed decls after 4 count back high_made
      → AreMappedFiles tells closed decls after (4 + count) (front ++ back) (low_made ++ high_made)
  both_mapped count front back low_made high_made four one two = record {
    parts = one.parts ++ two.parts;
    many = omega (arith, one.many, two.many, length-append one.parts two.parts);
    all = ap (λ l. l ++ high_made) one.all ∙ ap (λ l. flat_map (λ part. part) one.parts ++ l) two.all
        ∙ sym (flat_map-append (λ part. part) one.parts two.parts);
    each = λ worker file part there at. elim (half_of one.parts two.parts worker part at) [
      | is_low here ↦ elim (half_of front back worker file there) [
        | is_low file_here ↦ subst (λ w. IsMappedFile tells closed decls after w file part) (none_more worker) (one.each worker file part file_here here)
        | is_high j is file_here ↦ absurd (omega (arith, at_below one.parts worker part here, one.many, is, four))
      ]
      | is_high k is here ↦ elim (half_of front back worker file there) [
        | is_low file_here ↦ absurd (omega (arith, at_below front worker file file_here, one.many, is, four))
        | is_high j is_file file_here ↦
            let same : k ≡ j = omega (arith, is, is_file, one.many, four) in
            subst (λ w. IsMappedFile tells closed decls after w file part)
            (let place : 4 + j ≡ worker = omega (arith, is_file, four) in place)
            (two.each j file part file_here (ap (slice_get two.parts) (sym same) ∙ here))
      ]
    ];
  }

  low_damaged : (front back : List D) (device : Device) (place : ℕ) → length front ≡ 4
      → IsDamagedFrom tells closed decls after 0 front device place
      → IsDamagedFile tells closed decls after (front ++ back) device place
  low_damaged front back device place four d = record {
    worker = d.at;
    damaged = (
      d.file,
      front_at front back d.at d.file d.there,
      d.device_is ∙ ap (λ w. Bank (bank_of closed.odd w)) (none_more d.at),
      subst (λ w. IfTold (tells d.file) (λ bytes. IsDamaged (get_or closed.lengths w 0) decls bytes place)) (none_more d.at) d.damaged,
    );
    buckets = d.buckets;
    before = low_mapped d.at front back d.buckets four (omega (arith, at_below front d.at d.file d.there, four)) d.before;
  }

  high_damaged : (front back : List D) (low_made : List Bucket) (device : Device) (place : ℕ) → length front ≡ 4
      → AreMappedFrom tells closed decls after 0 4 front low_made → IsDamagedFrom tells closed decls after 4 back device place
      → IsDamagedFile tells closed decls after (front ++ back) device place
  high_damaged front back low_made device place four before d = record {
    worker = 4 + d.at;
    damaged = (
      d.file,
      ap (λ n. slice_get (front ++ back) (n + d.at)) (sym four) ∙ back_at front back d.at d.file d.there,
      d.device_is,
      d.damaged,
    );
    buckets = low_made ++ d.buckets;
    before = both_mapped d.at front back low_made d.buckets four before d.before;
  }

-- ---- what failed

module _ {D : Type 0} (count : D → ℕ) (closed : Closed) (front_was front back_was back : List D) where
  low_failed : (device : Device) → HasFailedFrom count closed 0 front_was front device
      → HasFailed count closed (front_was ++ back_was) (front ++ back) device
  low_failed device f = (
    f.at,
    (
      f.was,
      f.is,
      front_at front_was back_was f.at f.was f.there,
      front_at front back f.at f.is f.there_now,
      f.device_is ∙ ap (λ w. Bank (bank_of closed.odd w)) (none_more f.at),
      f.rose,
    ),
  )

  high_failed : (device : Device) → length front_was ≡ 4 → length front ≡ 4 → HasFailedFrom count closed 4 back_was back device
      → HasFailed count closed (front_was ++ back_was) (front ++ back) device
  high_failed device four four_now f = (
    4 + f.at,
    (
      f.was,
      f.is,
      ap (λ n. slice_get (front_was ++ back_was) (n + f.at)) (sym four) ∙ back_at front_was back_was f.at f.was f.there,
      ap (λ n. slice_get (front ++ back) (n + f.at)) (sym four_now) ∙ back_at front back f.at f.is f.there_now,
      f.device_is,
      f.rose,
    ),
  )

-- ---- what is told of both

-- the lower half's told device is below one of the higher half's
lower_half : (odd : Bool) (low_at high_at : ℕ) (told beside : Device) → low_at < 4 → told ≡ Bank (bank_of odd (0 + low_at))
    → beside ≡ Bank (bank_of odd (4 + high_at)) → IsLower told beside
lower_half odd low_at high_at told beside within told_is beside_is =
    subst (λ d. IsLower d beside) (sym told_is) (subst (IsLower (Bank (bank_of odd (0 + low_at)))) (sym beside_is)
    (bank_below odd (0 + low_at) (4 + high_at) (omega (arith, within))))

failed_is : (high : Result (Unit {0}) (OrMemory GleanFault)) (device : Device) → failed_in high ≡ Some device
    → fault_in high ≡ Some (faults.Device device)
failed_is (Ok x) device is = absurd (let no = is in cc)
failed_is (Err or.Memory) device is = absurd (let no = is in cc)
failed_is (Err (or.Fault (faults.Device d))) device is = ap (λ x. Some (faults.Device x)) (same_Some d device is)
failed_is (Err (or.Fault (faults.Damaged d at))) device is = absurd (let no = is in cc)
failed_is (Err (or.Fault faults.Deep)) device is = absurd (let no = is in cc)
failed_is (Err (or.Fault (faults.Limit have new room))) device is = absurd (let no = is in cc)

failed_in_is : (high : Result (Unit {0}) (OrMemory GleanFault)) (device : Device) → fault_in high ≡ Some (faults.Device device)
    → failed_in high ≡ Some device
failed_in_is (Ok x) device is = absurd (let no = is in cc)
failed_in_is (Err or.Memory) device is = absurd (let no = is in cc)
failed_in_is (Err (or.Fault f)) device is = ap (λ x. failed_in (Err (or.Fault x))) (same_Some f (faults.Device device) is)

module _ {D : Type 0} (tells : D → Option (List ℕ)) (clock : D → ℕ) (image_at : D → ℕ → List ℕ → Type 0) (count : D → ℕ)
    (closed : Closed) (decls : List Decl) (after : ℕ) (front_was front back_was back : List D) where
  -- what is told before the higher half's failed log file
  told_before : (fault : OrMemory GleanFault) (beside : Device) (high_at : ℕ) → length front_was ≡ 4
      → LeavesHalf tells clock image_at count closed decls after 0 front_was front (fault_in (Err fault))
      → beside ≡ Bank (bank_of closed.odd (4 + high_at)) → IsToldBefore (Err fault) beside
  told_before or.Memory beside high_at four low is = tt
  told_before (or.Fault (faults.Device device)) beside high_at four low is =
      let f = low.device device refl in
      lower_half closed.odd f.at high_at device beside (omega (arith, four, at_below front_was f.at f.was f.there)) f.device_is is
  told_before (or.Fault (faults.Damaged device place)) beside high_at four low is =
      let d = low.damaged device place refl in
      lower_half closed.odd d.at high_at device beside (omega (arith, four, at_below front_was d.at d.file d.there)) d.device_is is
  told_before (or.Fault faults.Deep) beside high_at four low is = absurd (low.only faults.Deep refl)
  told_before (or.Fault (faults.Limit have new room)) beside high_at four low is = absurd (low.only (faults.Limit have new room) refl)

  -- the lower half refused
  low_refuses : (fault : OrMemory GleanFault) (high : Result (Unit {0}) (OrMemory GleanFault)) → length front_was ≡ 4
      → LeavesHalf tells clock image_at count closed decls after 0 front_was front (fault_in (Err fault))
      → LeavesHalf tells clock image_at count closed decls after 4 back_was back (fault_in high)
      → RefusesFiles tells count closed decls after (front_was ++ back_was) (front ++ back) fault (failed_in high)
  low_refuses fault high four low high_left = record {
    damaged = λ device place is. low_damaged tells closed decls after front_was back_was device place four
        (low.damaged device place (told_is fault (faults.Damaged device place) is));
    device = λ device is. low_failed count closed front_was front back_was back device
        (low.device device (told_is fault (faults.Device device) is));
    only = λ f is. low.only f (told_is fault f is);
    beside_failed = λ device is.
        let f = high_left.device device (failed_is high device is) in (
          high_failed count closed front_was front back_was back device four (low.many ∙ four) f,
          told_before fault device f.at four low f.device_is,
        );
    quiet = λ worker was is at there fine alone. elim (halves_of front_was back_was front back worker was is four low.many at there) [
      | lows here now ↦ low.quiet worker was is here now (λ told.
          fine (fault_is fault _ told ∙ ap (λ w. or.Fault (faults.Device (Bank (bank_of closed.odd w)))) (none_more worker)))
      | highs j place here now ↦ high_left.quiet j was is here now (λ told.
          alone (failed_in_is high _ told ∙ ap (λ w. Some (Bank (bank_of closed.odd w))) (sym place)))
    ];
  }

  -- the higher half alone did, or neither
  high_refuses : (high : Result (Unit {0}) (OrMemory GleanFault)) (buckets : List Bucket) → length front_was ≡ 4
      → AreMappedFrom tells closed decls after 0 4 front_was buckets
      → LeavesHalf tells clock image_at count closed decls after 0 front_was front None
      → LeavesHalf tells clock image_at count closed decls after 4 back_was back (fault_in high)
      → RefusesFiles tells count closed decls after (front_was ++ back_was) (front ++ back) (fault_or_memory high) None
  high_refuses high buckets four mapped low high_left = record {
    damaged = λ device place is. high_damaged tells closed decls after front_was back_was buckets device place four mapped
        (high_left.damaged device place (in_high high (faults.Damaged device place) is));
    device = λ device is. high_failed count closed front_was front back_was back device four (low.many ∙ four)
        (high_left.device device (in_high high (faults.Device device) is));
    only = λ f is. high_left.only f (in_high high f is);
    beside_failed = λ device is. absurd (let no = is in cc);
    quiet = λ worker was is at there fine alone. elim (halves_of front_was back_was front back worker was is four low.many at there) [
      | lows here now ↦ low.quiet worker was is here now (λ told. absurd (let no = told in cc))
      | highs j place here now ↦ high_left.quiet j was is here now (λ told.
          fine (of_high high _ told ∙ ap (λ w. or.Fault (faults.Device (Bank (bank_of closed.odd w)))) (sym place)))
    ];
  }
    where
      in_high : (r : Result (Unit {0}) (OrMemory GleanFault)) (f : GleanFault) → fault_or_memory r ≡ or.Fault f → fault_in r ≡ Some f
      in_high (Ok x) f is = absurd (let no = is in cc)
      in_high (Err fault) f is = told_is fault f is

      of_high : (r : Result (Unit {0}) (OrMemory GleanFault)) (f : GleanFault) → fault_in r ≡ Some f → fault_or_memory r ≡ or.Fault f
      of_high (Ok x) f is = absurd (let no = is in cc)
      of_high (Err fault) f is = fault_is fault f is

  pub both_refuse : (fault : OrMemory GleanFault) (beside : Option Device) → length front_was ≡ 4
      → RefusesHalves tells clock image_at count closed decls after front_was front back_was back fault beside
      → RefusesFiles tells count closed decls after (front_was ++ back_was) (front ++ back) fault beside
  both_refuse fault beside four r =
      subst (λ f. RefusesFiles tells count closed decls after (front_was ++ back_was) (front ++ back) f beside) (sym r.fault_is)
      (subst (λ b. RefusesFiles tells count closed decls after (front_was ++ back_was) (front ++ back) (told_of r.low r.high) b) (sym r.beside_is)
      (by_low r.low r.high r.low_leaves r.high_leaves r.before))
    where
      by_low : (low high : Result (Unit {0}) (OrMemory GleanFault))
          → LeavesHalf tells clock image_at count closed decls after 0 front_was front (fault_in low)
          → LeavesHalf tells clock image_at count closed decls after 4 back_was back (fault_in high)
          → OnOk low ((buckets : List Bucket) × AreMappedFrom tells closed decls after 0 4 front_was buckets)
          → RefusesFiles tells count closed decls after (front_was ++ back_was) (front ++ back) (told_of low high) (beside_of low high)
      by_low (Ok x) high low_left high_left before = high_refuses high before.0 four before.1 low_left high_left
      by_low (Err f) high low_left high_left before = low_refuses f high four low_left high_left

  -- the log files were only read
  pub both_read : (low high : Option GleanFault) → length front_was ≡ 4
      → LeavesHalf tells clock image_at count closed decls after 0 front_was front low
      → LeavesHalf tells clock image_at count closed decls after 4 back_was back high
      → (worker : ℕ) (was is : D) → slice_get (front_was ++ back_was) worker ≡ Some was → slice_get (front ++ back) worker ≡ Some is
      → OnlyReads tells clock image_at count was is
  both_read low high four left right worker was is at there =
      elim (halves_of front_was back_was front back worker was is four left.many at there) [
        | lows here now ↦ left.reads worker was is here now
        | highs j place here now ↦ right.reads j was is here now
      ]

  -- and none failed
  pub both_quiet : length front_was ≡ 4 → LeavesHalf tells clock image_at count closed decls after 0 front_was front None
      → LeavesHalf tells clock image_at count closed decls after 4 back_was back None
      → (worker : ℕ) (was is : D) → slice_get (front_was ++ back_was) worker ≡ Some was → slice_get (front ++ back) worker ≡ Some is
      → count is ≡ count was
  both_quiet four left right worker was is at there =
      elim (halves_of front_was back_was front back worker was is four left.many at there) [
        | lows here now ↦ left.quiet worker was is here now (λ told. absurd (let no = told in cc))
        | highs j place here now ↦ right.quiet j was is here now (λ told. absurd (let no = told in cc))
      ]
