-- The cuts of a swap, one after another: what they leave of the other devices, and of crashes.
use Rattle.std.proofs.Common.{◌≡◌, ◌≢◌, ◌∙◌, ◌++◌, ◌∷◌, inl, inr, sym, ap, subst, ℕ, List, [], Option, Some}
use Rattle.std.proofs.Common.{None, append_assoc, arith}
use Rattle.std.specs.Prelude.{◌⊎◌, ◌≤◌, IsSome, Result, Ok, Err, ⊤}
use Rattle.std.specs.List.{Contains}
use Rattle.std.proofs.lemmas.Bool.{cases_eq}
use Rattle.std.proofs.lemmas.List.{append-nil}
use Rattle.std.proofs.lemmas.List.Elements.{Contains-append_left, Contains-push, Contains-push_cases}
use Rattle.std.proofs.lemmas.Option.{same_Some}
use Rattle.lists.specs.Elements.{in_head, in_tail}
use Rattle.log_writer.specs.Cuts.{bank_keeps_bank, bank_keeps_snaps}
use Rattle.log_writer.specs.Vault.{IsWhole, disk_in}
use Rattle.outside.specs.declared.fault.Failed.{Failed}
use Rattle.log_writer.specs.declared.records.Cut.{Cut}
use Rattle.outside.specs.declared.device.Device.{Device}
use Rattle.outside.specs.declared.device.Device.TheVariants.{Bank}
use Rattle.log_writer.specs.declared.vault.Vault.{Vault}
use Rattle.joint_crashes.specs.Cutting.{AreCut, AreReady, AreToldIn, CutsLeave, HadEnded}
use Rattle.joint_crashes.specs.JointCrash.{HasCut, Moments, parts_of}
use Rattle.joint_crashes.specs.VaultReads.{some_of}
use Rattle.joint_crashes.specs.Story.{BankReady, Story}
use Rattle.joint_crashes.specs.Crashes.VaultCuts.{still_there, still_told, vault_begun, vault_done}
use Rattle.round_engine.specs.Crashes.{StaysReady}
use Rattle.round_engine.specs.Swaps.{CutsBank, CutsBanks}

-- one device, one number
same_bank : (a b : ℕ) → ◌≡◌ {A = Device} (Bank a) (Bank b) → a ≡ b
same_bank a b is = cc

module _ {D : Type 0} (tells : D → Option (List ℕ)) (clock : D → ℕ) (image_at : D → ℕ → List ℕ → Type 0)
    (faults : D → ℕ) (after : ℕ) where
  -- the devices that aren't among them stay
  pub cuts_others : (numbers : List ℕ) (failed : Option ℕ) (old new : Vault D)
      → CutsBanks tells clock image_at faults after numbers failed old new → (n : ℕ) → (Contains numbers n → ⊥)
      → disk_in new (Bank n) ≡ disk_in old (Bank n)
  cuts_others [] failed old new cuts n other = ap (λ v. disk_in v (Bank n)) cuts.1
  cuts_others (first ∷ more) failed old new cuts n other =
      let differs : n ≢ first = λ same. other (subst (Contains (first ∷ more)) (sym same) (in_head first more)) in
      elim cuts [
        | inl made ↦ cuts_others more failed made.0 new made.2 n (λ has. other (in_tail n first more has))
            ∙ bank_keeps_bank n first differs made.1.cut
        | inr broke ↦ bank_keeps_bank n first differs broke.2.cut
      ]

  pub cuts_save : (numbers : List ℕ) (failed : Option ℕ) (old new : Vault D)
      → CutsBanks tells clock image_at faults after numbers failed old new
      → (new.save ≡ old.save) × (new.snaps ≡ old.snaps) × (new.ties ≡ old.ties)
  cuts_save [] failed old new cuts =
      (ap (λ v. v.save) cuts.1, ap (λ v. v.snaps) cuts.1, ap (λ v. v.ties) cuts.1)
  cuts_save (first ∷ more) failed old new cuts = elim cuts [
    | inl made ↦
        let rest = cuts_save more failed made.0 new made.2 in
        (rest.0 ∙ made.1.save, rest.1 ∙ bank_keeps_snaps first made.1.cut, rest.2 ∙ made.1.ties)
    | inr broke ↦ (broke.2.save, bank_keeps_snaps first broke.2.cut, broke.2.ties)
  ]

  -- a vault was whole before cuts that leave it whole
  pub cuts_whole : (numbers : List ℕ) (failed : Option ℕ) (old new : Vault D)
      → CutsBanks tells clock image_at faults after numbers failed old new → IsWhole new → IsWhole old
  cuts_whole [] failed old new cuts whole = subst IsWhole cuts.1 whole
  cuts_whole (first ∷ more) failed old new cuts whole = elim cuts [
    | inl made ↦
        let mid = cuts_whole more failed made.0 new made.2 whole in
        record { even = sym made.1.cut.even ∙ mid.even; odd = sym made.1.cut.odd ∙ mid.odd }
    | inr broke ↦ record { even = sym broke.2.cut.even ∙ whole.even; odd = sym broke.2.cut.odd ∙ whole.odd }
  ]

  -- what was recorded of cuts stays recorded
  pub cuts_kept : (numbers : List ℕ) (failed : Option ℕ) (old new : Vault D)
      → CutsBanks tells clock image_at faults after numbers failed old new
      → ((n : ℕ) → Contains numbers n → IsSome (disk_in old (Bank n))) → (n began at : ℕ)
      → HasCut old.cuts.items (Bank n) began at → HasCut new.cuts.items (Bank n) began at
  cuts_kept [] failed old new cuts there n began at has =
      subst (λ (v : Vault D). HasCut v.cuts.items (Bank n) began at) (sym cuts.1) has
  cuts_kept (first ∷ more) failed old new cuts there n began at has =
      let was = some_of (disk_in old (Bank first)) (there first (in_head first more)) in
      elim cuts [
        | inl made ↦
            cuts_kept more failed made.0 new made.2
            (λ m later. still_there first m made.1.cut (there m (in_tail m first more later))) n began at
            (subst (λ l. HasCut l (Bank n) began at) (sym (made.1.recorded was.0 was.1))
            (Contains-append_left old.cuts.items _ _ has))
        | inr broke ↦ subst (λ l. HasCut l (Bank n) began at) (sym (broke.2.recorded was.0 was.1))
            (Contains-append_left old.cuts.items _ _ has)
      ]

  -- A log file has a cut behind this sequence then, or it is as it was.
  abbrev pub CutOrSame : ℕ → Vault D → Vault D → Type 0
  CutOrSame n old new = ((began : ℕ) × HasCut new.cuts.items (Bank n) began after)
      ⊎ ((disk_in new (Bank n) ≡ disk_in old (Bank n))
      × ((began at : ℕ) → HasCut new.cuts.items (Bank n) began at → HasCut old.cuts.items (Bank n) began at))

  one_cut : (first n : ℕ) (result : Result ⊤ Failed) (old new : Vault D)
      → CutsBank tells clock image_at faults after first result old new → IsSome (disk_in old (Bank first))
      → CutOrSame n old new
  one_cut first n result old new cut there =
      let was = some_of (disk_in old (Bank first)) there in
      let is = cut.recorded was.0 was.1 in
      elim (cases_eq n first) [
        | inl same ↦ inl (
          clock was.0,
          subst (λ l. HasCut l (Bank n) (clock was.0) after) (sym is)
              (subst (λ m. Contains (old.cuts.items ++ record { device = Bank first; at = clock was.0; after = after } ∷ [])
              (record { device = Bank m; at = clock was.0; after = after })) (sym same)
              (Contains-push old.cuts.items (record { device = Bank first; at = clock was.0; after = after }))),
        )
        | inr other ↦ inr (
          bank_keeps_bank n first other cut.cut,
          λ began at has. elim (Contains-push_cases old.cuts.items _ _ (subst (λ l. HasCut l (Bank n) began at) is has)) [
            | inl older ↦ older
            | inr this ↦ absurd (other (sym (same_bank first n (ap (λ (c : Cut). c.device) this))))
          ],
        )
      ]

  pub cut_or_same : (numbers : List ℕ) (failed : Option ℕ) (old new : Vault D)
      → CutsBanks tells clock image_at faults after numbers failed old new
      → ((n : ℕ) → Contains numbers n → IsSome (disk_in old (Bank n))) → (n : ℕ) → CutOrSame n old new
  cut_or_same [] failed old new cuts there n = inr (
    ap (λ (v : Vault D). disk_in v (Bank n)) cuts.1,
    λ began at has. subst (λ (v : Vault D). HasCut v.cuts.items (Bank n) began at) cuts.1 has,
  )
  cut_or_same (first ∷ more) failed old new cuts there n = elim cuts [
    | inr broke ↦ one_cut first n (Err broke.0) old new broke.2 (there first (in_head first more))
    | inl made ↦
        let mid = made.0 in
        let rest_there = λ (m : ℕ) (later : Contains more m). still_there first m made.1.cut (there m (in_tail m first more later)) in
        elim (cut_or_same more failed mid new made.2 rest_there n) [
          | inl cut ↦ inl cut
          | inr same ↦ elim (one_cut first n (Ok tt) old mid made.1 (there first (in_head first more))) [
            | inl cut ↦ inl (cut.0, cuts_kept more failed mid new made.2 rest_there n cut.0 after cut.1)
            | inr still ↦ inr (same.0 ∙ still.0, λ began at has. still.1 began at (same.1 began at has))
          ]
        ]
  ]

  -- each cut of a log file was begun by now
  abbrev pub AreCome : ℕ → Vault D → Type 0
  AreCome n vault = (bank : D) → disk_in vault (Bank n) ≡ Some bank → (began at : ℕ)
      → HasCut vault.cuts.items (Bank n) began at → began ≤ clock bank

  one_come : (first n : ℕ) (result : Result ⊤ Failed) (old new : Vault D)
      → CutsBank tells clock image_at faults after first result old new → IsSome (disk_in old (Bank first))
      → AreCome n old → AreCome n new
  one_come first n result old new cut there come bank is began at has =
      let was = some_of (disk_in old (Bank first)) there in
      let now = cut.cut.cut was.0 was.1 in
      let this : Cut = record { device = Bank first; at = clock was.0; after = after } in
      let which = Contains-push_cases old.cuts.items this (record { device = Bank n; at = began; after = at })
      (subst (λ l. HasCut l (Bank n) began at) (cut.recorded was.0 was.1) has) in
      elim (cases_eq n first) [
        | inl same ↦
            let here : now.0 ≡ bank = same_Some _ _ (sym now.1 ∙ subst (λ m. disk_in new (Bank m) ≡ Some bank) same is) in
            let later = now.2.goes.moments.later in
            elim which [
              | inl older ↦
                  let before = come was.0 (subst (λ m. disk_in old (Bank m) ≡ Some was.0) (sym same) was.1) began at older in
                  omega (arith, before, later, ap clock here)
              | inr is_this ↦ omega (arith, ap (λ (c : Cut). c.at) is_this, later, ap clock here)
            ]
        | inr other ↦ elim which [
          | inl older ↦ come bank (sym (bank_keeps_bank n first other cut.cut) ∙ is) began at older
          | inr is_this ↦ absurd (other (sym (same_bank first n (ap (λ (c : Cut). c.device) is_this))))
        ]
      ]

  cuts_come : (numbers : List ℕ) (failed : Option ℕ) (old new : Vault D)
      → CutsBanks tells clock image_at faults after numbers failed old new
      → ((n : ℕ) → Contains numbers n → IsSome (disk_in old (Bank n))) → (n : ℕ) → AreCome n old → AreCome n new
  cuts_come [] failed old new cuts there n come = subst (AreCome n) (sym cuts.1) come
  cuts_come (first ∷ more) failed old new cuts there n come = elim cuts [
    | inr broke ↦ one_come first n (Err broke.0) old new broke.2 (there first (in_head first more)) come
    | inl made ↦ cuts_come more failed made.0 new made.2
        (λ m later. still_there first m made.1.cut (there m (in_tail m first more later))) n
        (one_come first n (Ok tt) old made.0 made.1 (there first (in_head first more)) come)
  ]

  -- Where the savepoint behind which they were made finds what it counts, so does each one from the newest cut on.
  pub cuts_stay : {story : Story} {low : ℕ} (numbers : List ℕ) (failed : Option ℕ) (old new : Vault D)
      → CutsBanks tells clock image_at faults after numbers failed old new
      → ((n : ℕ) → Contains numbers n → IsSome (disk_in old (Bank n)))
      → StaysReady clock image_at story low after (parts_of old) → AreReady clock image_at story after (parts_of new)
      → StaysReady clock image_at story low after (parts_of new)
  cuts_stay {story = story} {low = low} numbers failed old new cuts there stays ready = record {
    come = λ n bank is. cuts_come numbers failed old new cuts there n (stays.come n) bank is;
    ready = λ n bank is k at_least at_most older. elim (cut_or_same numbers failed old new cuts there n) [
      | inl cut ↦
          let last = older cut.0 after cut.1 in
          let same : after ≡ k = omega (arith, last, at_most) in
          subst (λ j. BankReady clock image_at (λ i. story.counted i n) j bank (HasCut new.cuts.items (Bank n))) same
          (ready n bank is)
      | inr same ↦
          let was = stays.ready n bank (sym same.0 ∙ is) k at_least at_most
          (λ began at has. older began at (cuts_kept numbers failed old new cuts there n began at has)) in
          record { now = was.now; past = λ began at has less. was.past began at (same.1 began at has) less }
    ];
  }

module _ {D : Type 0} {tells : D → Option (List ℕ)} {clock : D → ℕ} {image_at : D → ℕ → List ℕ → Type 0}
    (faults : D → ℕ) {story : Story} {from : Moments} {low high : ℕ}
    (reads : (disk : D) (file : List ℕ) → tells disk ≡ Some file → image_at disk (clock disk) file) where
  -- What is known after the cuts: all of them were made, or one failed; each joint crash stands for one savepoint still.
  pub cuts_left : (so_far numbers : List ℕ) (failed : Option ℕ) (first old new : Vault D)
      → AreCut clock image_at story from low high so_far (parts_of first) (parts_of old)
      → CutsBanks tells clock image_at faults high numbers failed old new
      → ((n : ℕ) → Contains numbers n → IsSome (disk_in old (Bank n)))
      → ((n : ℕ) → Contains numbers n → story.counted high n ≡ [])
      → HadEnded (parts_of old) low high → AreToldIn tells numbers (parts_of old)
      → (failed ≡ None → AreCut clock image_at story from low high (so_far ++ numbers) (parts_of first) (parts_of new))
      × CutsLeave clock image_at story from low high (parts_of first) (parts_of new)
  cuts_left so_far [] failed first old new so cuts there none ended tell =
      let here = subst (λ v. AreCut clock image_at story from low high so_far (parts_of first) (parts_of v)) (sym cuts.1) so in (
        (λ is. subst (λ l. AreCut clock image_at story from low high l (parts_of first) (parts_of new))
            (sym (append-nil so_far)) here),
        here.left,
      )
  cuts_left so_far (n ∷ more) failed first old new so cuts there none ended tell =
      elim cuts [
        | inl made ↦
            let mid = made.0 in
            let one = made.1 in
            let has = in_head n more in
            let done = vault_done reads first n so (there n has) one.cut one.recorded one.save one.ties (none n has) ended
            (λ was is. tell n was has is) in
            let rest = cuts_left (so_far ++ n ∷ []) more failed first mid new done made.2
            (λ m later. still_there n m one.cut (there m (in_tail m n more later)))
            (λ m later. none m (in_tail m n more later))
            (subst (λ t. HadEnded (record (parts_of mid) { ties = t }) low high) (sym (ap (λ t. t.items) one.ties)) ended)
            (λ m bank later is. still_told (n ∷ more) n has (there n has) one.cut tell m bank (in_tail m n more later) is) in (
              λ is. subst (λ l. AreCut clock image_at story from low high l (parts_of first) (parts_of new))
                  (append_assoc so_far (n ∷ []) more) (rest.0 is),
              rest.1,
            )
        | inr broke ↦ (
          λ is. absurd (let no = sym broke.1 ∙ is in cc),
          vault_begun reads first n so.left (there n (in_head n more)) broke.2.cut broke.2.recorded broke.2.save
              broke.2.ties (none n (in_head n more)) ended,
        )
      ]
