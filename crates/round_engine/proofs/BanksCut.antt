-- What cuts of log files, one after another, leave of a vault.
use Rattle.std.proofs.Common.{◌≡◌, ◌≢◌, ◌∙◌, ◌≤◌, ◌<◌, ◌+◌, ◌∷◌, inl, inr, sym, ap, subst, refl, ℕ, zero, suc, List, []}
use Rattle.std.proofs.Common.{drop, map, Option, Some, None, Ok, Err, arith}
use Rattle.std.specs.Prelude.{slice_get, IsSome}
use Rattle.std.specs.List.{AllByRecursion, Contains}
use Rattle.std.proofs.lemmas.Bool.{cases_eq, cases_lt}
use Rattle.std.proofs.lemmas.Option.{same_Some}
use Rattle.lists.specs.Elements.{in_cases, in_head, in_none, in_tail}
use Rattle.log_writer.specs.Cuts.{whole_bank, whole_cut}
use Rattle.outside.specs.Faults.{Rose}
use Rattle.outside.specs.Fronts.{AllBegin}
use Rattle.outside.specs.Reads.{OnlyReads}
use Rattle.log_writer.specs.Vault.{IsWhole, disk_in}
use Rattle.outside.specs.declared.fault.Failed.{Failed}
use Rattle.outside.specs.declared.device.Device.{Device}
use Rattle.outside.specs.declared.device.Device.TheVariants as devices
use Rattle.log_writer.specs.declared.vault.Vault.{Vault}
use Rattle.joint_crashes.specs.VaultReads.{RoseIn}
use Rattle.worker_logs.specs.Saves.{closed_number, growing_number}
use Rattle.worker_logs.specs.declared.savepoints.Side.{Side}
use Rattle.worker_logs.specs.declared.savepoints.Side.TheVariants.{Even, Odd}
use Rattle.round_engine.specs.RanRound.{IsQuietIn}
use Rattle.round_engine.specs.Sides.{closed_numbers, growing_in}
use Rattle.round_engine.specs.Swaps.{CutsBank, CutsBanks}
use Rattle.round_engine.proofs.Numbered.{growing_at, grows_not_closed}

pub some_there : {X : Type 0} (x : Option X) → IsSome x → (y : X) × (x ≡ Some y)
some_there None is = absurd (let no = is in cc)
some_there (Some y) is = (y, refl)

-- a fact of each element of a list
pub all_in : {X : Type 0} (P : X → Type 0) (xs : List X) (x : X) → AllByRecursion P xs → Contains xs x → P x
all_in P [] x all has = absurd (in_none x has)
all_in P (y ∷ xs) x all has = elim (in_cases x y xs has) [
  | inl here ↦ subst P here all.0
  | inr later ↦ all_in P xs x all.1 later
]

-- lists with the same elements are one
pub same_lists : {X : Type 0} (xs ys : List X) → ((i : ℕ) → slice_get xs i ≡ slice_get ys i) → xs ≡ ys
same_lists [] [] each = refl
same_lists [] (y ∷ ys) each = absurd (let no = each 0 in cc)
same_lists (x ∷ xs) [] each = absurd (let no = each 0 in cc)
same_lists (x ∷ xs) (y ∷ ys) each =
    let head : x ≡ y = let here = each 0 in cc in
    ap (λ z. z ∷ xs) head ∙ ap (λ l. y ∷ l) (same_lists xs ys (λ i. each (suc i)))

-- the closed log files by their numbers
pub closed_in_numbers : (side : Side) (w : ℕ) → w < 8 → Contains (closed_numbers side) (closed_number side w)
closed_in_numbers side w below = at w below
  where
    at : (w : ℕ) → w < 8 → Contains (closed_numbers side) (closed_number side w)
    at zero below = (0, omega arith, refl)
    at (suc zero) below = (1, omega arith, refl)
    at (suc (suc zero)) below = (2, omega arith, refl)
    at (suc (suc (suc zero))) below = (3, omega arith, refl)
    at (suc (suc (suc (suc zero)))) below = (4, omega arith, refl)
    at (suc (suc (suc (suc (suc zero))))) below = (5, omega arith, refl)
    at (suc (suc (suc (suc (suc (suc zero)))))) below = (6, omega arith, refl)
    at (suc (suc (suc (suc (suc (suc (suc zero))))))) below = (7, omega arith, refl)
    at (suc (suc (suc (suc (suc (suc (suc (suc w)))))))) below = absurd (omega (arith, below))

pub in_numbers : (side : Side) (ws : List ℕ) (n : ℕ) → ((w : ℕ) → Contains ws w → w < 8)
    → Contains (map (closed_number side) ws) n → (w : ℕ) × (w < 8) × (n ≡ closed_number side w)
in_numbers side [] n below has = absurd (in_none n has)
in_numbers side (w ∷ ws) n below has = elim (in_cases n (closed_number side w) (map (closed_number side) ws) has) [
  | inl here ↦ (w, below w (in_head w ws), sym here)
  | inr later ↦ in_numbers side ws n (λ v there. below v (in_tail v w ws there)) later
]

pub numbers_closed : (side : Side) (n : ℕ) → Contains (closed_numbers side) n → (w : ℕ) × (w < 8) × (n ≡ closed_number side w)
numbers_closed side n has = in_numbers side (0 ∷ 1 ∷ 2 ∷ 3 ∷ 4 ∷ 5 ∷ 6 ∷ 7 ∷ []) n (λ w there. below_all w there) has
  where
    below_all : (w : ℕ) → Contains (0 ∷ 1 ∷ 2 ∷ 3 ∷ 4 ∷ 5 ∷ 6 ∷ 7 ∷ []) w → w < 8
    below_all w there = all_in (λ v. v < 8) (0 ∷ 1 ∷ 2 ∷ 3 ∷ 4 ∷ 5 ∷ 6 ∷ 7 ∷ []) w
        (omega arith, (omega arith, (omega arith, (omega arith, (omega arith, (omega arith, (omega arith, (omega arith, tt)))))))) there

pub closed_below : (side : Side) (n : ℕ) → Contains (closed_numbers side) n → n < 16
closed_below side n has =
    let at = numbers_closed side n has in
    by_side side at.0 at.1 at.2
  where
    by_side : (side : Side) (w : ℕ) → w < 8 → n ≡ closed_number side w → n < 16
    by_side Even w below is = omega (arith, below, is)
    by_side Odd w below is = omega (arith, below, is)

-- what all images of a device begin with they begin with after reads
pub reads_begin : {D : Type 0} {tells : D → Option (List ℕ)} {clock : D → ℕ} {image_at : D → ℕ → List ℕ → Type 0}
    {faults : D → ℕ} {was is : D} {bytes : List ℕ} → OnlyReads tells clock image_at faults was is
    → AllBegin (image_at was (clock was)) bytes → AllBegin (image_at is (clock is)) bytes
reads_begin {clock = clock} {image_at = image_at} {was = was} {is = is} reads begins c image = elim (cases_lt (clock was) (clock is)) [
  | inl later ↦
      let had = reads.moments.from (clock is) c later (omega arith) image in
      begins c (subst (image_at was (clock was)) had.2 had.1)
  | inr same ↦
      let at : clock is ≡ clock was = let up = reads.moments.later in omega (arith, same, up) in
      begins c (subst (λ m. image_at was m c) at (reads.moments.no_new (clock is) c same image))
]

-- ---- those that are left

pub drop_closed : (side : Side) (w : ℕ) → w < 8
    → drop w (closed_numbers side) ≡ closed_number side w ∷ drop (w + 1) (closed_numbers side)
drop_closed side zero below = refl
drop_closed side (suc zero) below = refl
drop_closed side (suc (suc zero)) below = refl
drop_closed side (suc (suc (suc zero))) below = refl
drop_closed side (suc (suc (suc (suc zero)))) below = refl
drop_closed side (suc (suc (suc (suc (suc zero))))) below = refl
drop_closed side (suc (suc (suc (suc (suc (suc zero)))))) below = refl
drop_closed side (suc (suc (suc (suc (suc (suc (suc zero))))))) below = refl
drop_closed side (suc (suc (suc (suc (suc (suc (suc (suc w)))))))) below = absurd (omega (arith, below))

pub none_dropped : (w : ℕ) → ◌≡◌ {A = List ℕ} (drop {A = ℕ} w []) []
none_dropped zero = refl
none_dropped (suc w) = refl

pub none_left : (side : Side) (w : ℕ) → 8 ≤ w → drop w (closed_numbers side) ≡ []
none_left side zero past = absurd (omega (arith, past))
none_left side (suc zero) past = absurd (omega (arith, past))
none_left side (suc (suc zero)) past = absurd (omega (arith, past))
none_left side (suc (suc (suc zero))) past = absurd (omega (arith, past))
none_left side (suc (suc (suc (suc zero)))) past = absurd (omega (arith, past))
none_left side (suc (suc (suc (suc (suc zero))))) past = absurd (omega (arith, past))
none_left side (suc (suc (suc (suc (suc (suc zero)))))) past = absurd (omega (arith, past))
none_left side (suc (suc (suc (suc (suc (suc (suc zero))))))) past = absurd (omega (arith, past))
none_left side (suc (suc (suc (suc (suc (suc (suc (suc w)))))))) past = none_dropped w

module _ {D : Type 0} (tells : D → Option (List ℕ)) (clock : D → ℕ) (image_at : D → ℕ → List ℕ → Type 0)
    (faults : D → ℕ) (after : ℕ) (side : Side) where
  -- the next one was cut, or failed
  pub closed_done : (w n : ℕ) → w < 8 → n ≡ closed_number side w → (old mid : Vault D)
      → CutsBank tells clock image_at faults after n (Ok tt) old mid → (failed : Option ℕ) (end : Vault D)
      → CutsBanks tells clock image_at faults after (drop (w + 1) (closed_numbers side)) failed mid end
      → CutsBanks tells clock image_at faults after (drop w (closed_numbers side)) failed old end
  closed_done w n below is old mid cut failed end rest =
      subst (λ l. CutsBanks tells clock image_at faults after l failed old end) (sym (drop_closed side w below))
      (inl (mid, subst (λ k. CutsBank tells clock image_at faults after k (Ok tt) old mid) is cut, rest))

  pub closed_fails : (w n : ℕ) → w < 8 → n ≡ closed_number side w → (fault : Failed) (old new : Vault D)
      → CutsBank tells clock image_at faults after n (Err fault) old new
      → CutsBanks tells clock image_at faults after (drop w (closed_numbers side)) (Some n) old new
  closed_fails w n below is fault old new cut =
      subst (λ l. CutsBanks tells clock image_at faults after l (Some n) old new) (sym (drop_closed side w below))
      (inr (fault, ap Some is, subst (λ k. CutsBank tells clock image_at faults after k (Err fault) old new) is cut))

  pub closed_ends : (w : ℕ) → 8 ≤ w → (vault : Vault D)
      → CutsBanks tells clock image_at faults after (drop w (closed_numbers side)) None vault vault
  closed_ends w past vault =
      subst (λ l. CutsBanks tells clock image_at faults after l None vault vault) (sym (none_left side w past)) (refl, refl)

module _ {D : Type 0} (tells : D → Option (List ℕ)) (clock : D → ℕ) (image_at : D → ℕ → List ℕ → Type 0)
    (faults : D → ℕ) (after : ℕ) where
  -- ---- what isn't touched

  pub banks_others : (ns : List ℕ) (failed : Option ℕ) (old new : Vault D)
      → CutsBanks tells clock image_at faults after ns failed old new
      → (device : Device) → ((n : ℕ) → Contains ns n → device ≢ devices.Bank n) → disk_in new device ≡ disk_in old device
  banks_others [] failed old new cuts device apart = ap (λ (v : Vault D). disk_in v device) cuts.1
  banks_others (n ∷ ns) failed old new cuts device apart = elim cuts [
    | inl done ↦
        banks_others ns failed done.0 new done.2 device (λ m has. apart m (in_tail m n ns has))
        ∙ done.1.cut.others device (apart n (in_head n ns))
    | inr fails ↦ fails.2.cut.others device (apart n (in_head n ns))
  ]

  pub banks_save : (ns : List ℕ) (failed : Option ℕ) (old new : Vault D)
      → CutsBanks tells clock image_at faults after ns failed old new
      → (new.save ≡ old.save) × (new.ties ≡ old.ties)
  banks_save [] failed old new cuts = (ap (λ (v : Vault D). v.save) cuts.1, ap (λ (v : Vault D). v.ties) cuts.1)
  banks_save (n ∷ ns) failed old new cuts = elim cuts [
    | inl done ↦
        let rest = banks_save ns failed done.0 new done.2 in
        (rest.0 ∙ done.1.save, rest.1 ∙ done.1.ties)
    | inr fails ↦ (fails.2.save, fails.2.ties)
  ]

  pub banks_whole : (ns : List ℕ) (failed : Option ℕ) (old new : Vault D)
      → CutsBanks tells clock image_at faults after ns failed old new → IsWhole old → IsWhole new
  banks_whole [] failed old new cuts whole = subst IsWhole (sym cuts.1) whole
  banks_whole (n ∷ ns) failed old new cuts whole = elim cuts [
    | inl done ↦ banks_whole ns failed done.0 new done.2 (whole_cut done.1.cut whole)
    | inr fails ↦ whole_cut fails.2.cut whole
  ]

  pub banks_snaps : (ns : List ℕ) (failed : Option ℕ) (old new : Vault D)
      → CutsBanks tells clock image_at faults after ns failed old new → new.snaps ≡ old.snaps
  banks_snaps ns failed old new cuts =
      same_Some new.snaps old.snaps (banks_others ns failed old new cuts devices.Snaps (λ n has is. absurd (let no = is in cc)))

  pub banks_growing : (failed : Option ℕ) (side : Side) (old new : Vault D)
      → CutsBanks tells clock image_at faults after (closed_numbers side) failed old new
      → growing_in side new ≡ growing_in side old
  banks_growing failed side old new cuts = same_lists (growing_in side new) (growing_in side old) (λ w.
      sym (growing_at side new w)
      ∙ banks_others (closed_numbers side) failed old new cuts (devices.Bank (growing_number side w)) (λ n has is.
      let at = numbers_closed side n has in
      let same : growing_number side w ≡ n = let no = is in cc in
      grows_not_closed side w at.0 (same ∙ at.2))
      ∙ growing_at side old w)

  -- ---- what was cut is empty

  pub stays_empty : (ns : List ℕ) (old new : Vault D)
      → CutsBanks tells clock image_at faults after ns None old new → (n : ℕ) (was is : D)
      → disk_in old (devices.Bank n) ≡ Some was → tells was ≡ Some [] → disk_in new (devices.Bank n) ≡ Some is
      → tells is ≡ Some []
  stays_empty [] old new cuts n was is there empty now =
      ap tells (same_Some is was (sym now ∙ ap (λ (v : Vault D). disk_in v (devices.Bank n)) cuts.1 ∙ there)) ∙ empty
  stays_empty (m ∷ ns) old new cuts n was is there empty now = elim cuts [
    | inr failed ↦ absurd (let no = failed.1 in cc)
    | inl done ↦ elim (cases_eq n m) [
      | inl same ↦
          let cut = done.1.cut.cut was (subst (λ k. disk_in old (devices.Bank k) ≡ Some was) same there) in
          stays_empty ns done.0 new done.2 n cut.0 is (subst (λ k. disk_in done.0 (devices.Bank k) ≡ Some cut.0) (sym same) cut.1)
          (cut.2.cut [] empty) now
      | inr other ↦
          stays_empty ns done.0 new done.2 n was is
          (done.1.cut.others (devices.Bank n) (λ no. other (let is = no in cc)) ∙ there) empty now
    ]
  ]

  pub banks_empty : (ns : List ℕ) (old new : Vault D)
      → CutsBanks tells clock image_at faults after ns None old new → (n : ℕ) (was is : D) → Contains ns n
      → disk_in old (devices.Bank n) ≡ Some was → (file : List ℕ) → tells was ≡ Some file → disk_in new (devices.Bank n) ≡ Some is
      → tells is ≡ Some []
  banks_empty [] old new cuts n was is has there file told now = absurd (in_none n has)
  banks_empty (m ∷ ns) old new cuts n was is has there file told now = elim cuts [
    | inr failed ↦ absurd (let no = failed.1 in cc)
    | inl done ↦ elim (cases_eq n m) [
      | inl same ↦
          let cut = done.1.cut.cut was (subst (λ k. disk_in old (devices.Bank k) ≡ Some was) same there) in
          stays_empty ns done.0 new done.2 n cut.0 is (subst (λ k. disk_in done.0 (devices.Bank k) ≡ Some cut.0) (sym same) cut.1)
          (cut.2.cut file told) now
      | inr other ↦ elim (in_cases n m ns has) [
        | inl here ↦ absurd (other (sym here))
        | inr later ↦
            banks_empty ns done.0 new done.2 n was is later
            (done.1.cut.others (devices.Bank n) (λ no. other (let is = no in cc)) ∙ there) file told now
      ]
    ]
  ]

  -- ---- faults

  -- a cut that was done raises no count
  pub cut_quiet : {n : ℕ} {old new : Vault D} → CutsBank tells clock image_at faults after n (Ok tt) old new
      → (m : ℕ) (was is : D) → disk_in old (devices.Bank m) ≡ Some was → disk_in new (devices.Bank m) ≡ Some is
      → faults is ≡ faults was
  cut_quiet {n = n} {old = old} {new = new} cut m was is there now = elim (cases_eq m n) [
    | inl same ↦
        let at = cut.cut.cut was (subst (λ k. disk_in old (devices.Bank k) ≡ Some was) same there) in
        let here : is ≡ at.0 = same_Some is at.0 (sym now ∙ subst (λ k. disk_in new (devices.Bank k) ≡ Some at.0) (sym same) at.1) in
        ap faults here ∙ at.2.goes.cause.quiet
    | inr other ↦
        ap faults (same_Some is was (sym now ∙ cut.cut.others (devices.Bank m) (λ no. other (let is = no in cc)) ∙ there))
  ]

  -- no count rises but that of the one that failed
  pub banks_quiet : (ns : List ℕ) (failed : Option ℕ) (old new : Vault D) → IsWhole old
      → ((n : ℕ) → Contains ns n → n < 16)
      → CutsBanks tells clock image_at faults after ns failed old new
      → (m : ℕ) → failed ≢ Some m → IsQuietIn faults (devices.Bank m) old new
  banks_quiet [] failed old new whole below cuts m not was is there now =
      ap faults (same_Some is was (sym now ∙ ap (λ (v : Vault D). disk_in v (devices.Bank m)) cuts.1 ∙ there))
  banks_quiet (n ∷ ns) failed old new whole below cuts m not was is there now = elim cuts [
    | inl done ↦
        let still = whole_cut done.1.cut whole in
        let mid : (d : D) × (disk_in done.0 (devices.Bank m) ≡ Some d) = elim (cases_eq m n) [
          | inl same ↦
              let at = done.1.cut.cut was (subst (λ k. disk_in old (devices.Bank k) ≡ Some was) same there) in
              (at.0, subst (λ k. disk_in done.0 (devices.Bank k) ≡ Some at.0) (sym same) at.1)
          | inr other ↦ (was, done.1.cut.others (devices.Bank m) (λ no. other (let is = no in cc)) ∙ there)
        ] in
        banks_quiet ns failed done.0 new still (λ k has. below k (in_tail k n ns has)) done.2 m not mid.0 is mid.1 now
        ∙ cut_quiet done.1 m was mid.0 there mid.1
    | inr fails ↦
        let other : m ≢ n = λ same. not (fails.1 ∙ ap Some (sym same)) in
        ap faults (same_Some is was (sym now ∙ fails.2.cut.others (devices.Bank m) (λ no. other (let is = no in cc)) ∙ there))
  ]

  -- and of that one it rose
  pub banks_rose : (ns : List ℕ) (failed : Option ℕ) (old new : Vault D) → IsWhole old
      → ((n : ℕ) → Contains ns n → n < 16)
      → CutsBanks tells clock image_at faults after ns failed old new
      → (m : ℕ) → failed ≡ Some m → Contains ns m × RoseIn faults (devices.Bank m) old new
  banks_rose [] failed old new whole below cuts m is = absurd (let no = sym cuts.0 ∙ is in cc)
  banks_rose (n ∷ ns) failed old new whole below cuts m is = elim cuts [
    | inl done ↦
        let rest = banks_rose ns failed done.0 new (whole_cut done.1.cut whole) (λ k has. below k (in_tail k n ns has)) done.2 m is in
        let rose = rest.1 in
        let was = some_there (disk_in old (devices.Bank m)) (whole_bank whole m (below m (in_tail m n ns rest.0))) in
        let quiet = cut_quiet done.1 m was.0 rose.0 was.1 rose.2 in (
          in_tail m n ns rest.0,
          (was.0, rose.1, was.1, rose.3, subst (λ k. Rose k (faults rose.1)) quiet rose.4),
        )
    | inr fails ↦
        let same : n ≡ m = let a = fails.1 in let b = is in cc in
        let was = some_there (disk_in old (devices.Bank n)) (whole_bank whole n (below n (in_head n ns))) in
        let at = fails.2.cut.cut was.0 was.1 in (
          subst (λ k. Contains (n ∷ ns) k) same (in_head n ns),
          subst (λ k. RoseIn faults (devices.Bank k) old new) same
              (was.0, at.0, was.1, at.1, at.2.goes.cause.failed),
        )
  ]
