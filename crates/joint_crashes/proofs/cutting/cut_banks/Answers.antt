use Rattle.std.proofs.Common.{◌≡◌, ◌+◌, ◌<◌, ◌++◌, ◌∷◌, inl, inr, length, ℕ, [], get_or, take, drop}
use Rattle.std.proofs.Common.{append_assoc, refl, sym, ap, ◌∙◌, subst, arith}
use Rattle.std.specs.List.{Contains}
use Rattle.std.proofs.lemmas.List.{append-nil, take_all, take_more}
use Rattle.std.proofs.lemmas.List.Elements.{Contains-get_or, Contains-push_cases}
use Rattle.std.specs.Prelude.{Some}
use Rattle.std.proofs.lemmas.Option.{same_Some}
use Rattle.outside.specs.declared.device.Device.TheVariants.{Bank}
use Rattle.log_writer.specs.Vault.{disk_in}
use Rattle.log_writer.specs.Cuts.{bank_keeps_snaps, whole_cut}
use Rattle.joint_crashes.specs.JointCrash.{parts_of}
use Rattle.joint_crashes.specs.Cutting.{AreCut}
use Rattle.joint_crashes.specs.Crashes.VaultCuts.{later_cut, quiet_cut, cut_rose, more_empty}
use Rattle.joint_crashes.specs.Crashes.VaultCuts.{vault_begun, vault_done, still_there, still_told}
use Rattle.joint_crashes.specs.Crashes.CutSteps.{cuts_none}
use Rattle.log_writer.specs.Records.{AddsCuts, no_cuts}
use Rattle.log_writer.specs.Save.{IsNewest}
use Rattle.joint_crashes.specs.RecordsAdded.{cuts_added}
use Rattle.joint_crashes.proofs.CutsRecorded.{cut_split, kept_push, adds_push}
use Rattle.joint_crashes.proofs.Exits.{not_err, same_err}
use Rattle.joint_crashes.proofs.cutting.cut_banks.Goals as goal

pub cut_in-requires-clause-newest : goal.cut_in-requires-clause-newest
cut_in-requires-clause-newest g c =
    subst (λ d. IsNewest g.D.Disk.tells g.D.Disk.clock g.D.Disk.image_at d c.args.after)
    (sym c.loop-number.invariant.save) c.requires.newest

pub returns : goal.returns
returns g c =
    let inv = c.loop-number.invariant in
    let all = take_all c.loop-number.number-index c.args.numbers.now c.loop-number-test.false in
    record {
      cut = λ story from low may.
          subst (λ l. AreCut g.D.Disk.clock g.D.Disk.image_at story from low c.args.after l
          (parts_of c.args.vault.now) (parts_of c.loop-number.vault)) all (inv.cut story from low may).0;
      emptied = λ tell.
          subst (λ l. (m : ℕ) (bank : g.row.D.Denot) → Contains l m → disk_in c.loop-number.vault (Bank m)
          ≡ Some bank → g.D.Disk.tells bank ≡ Some []) all (inv.emptied tell).0;
      among = λ n is. absurd (not_err _ _ is);
      device = λ n is was now before after. absurd (not_err _ _ is);
      quiet = inv.stand;
      there = λ n was. inv.still n was;
      others = (inv.save, inv.snaps, inv.ties);
      whole = λ was. inv.whole was;
      records = cuts_added c.args.numbers.now [] (ap (λ t. t.items) inv.ties)
          (subst (λ l. AddsCuts c.args.after l c.args.vault.now.cuts.items c.loop-number.vault.cuts.items) all inv.adds)
          (sym (append-nil c.args.numbers.now)) (λ is. refl);
      stops = λ n is. absurd (not_err _ _ is);
    }

pub returns-in_default : goal.returns-in_default
returns-in_default g c =
    let inv = c.loop-number.invariant in
    let within : c.loop-number.number-index < length c.args.numbers.now = c.loop-number-test.true in
    let has = Contains-get_or c.args.numbers.now c.loop-number.number-index 0 within in
    let front = take c.loop-number.number-index c.args.numbers.now in
    let behind = drop (c.loop-number.number-index + 1) c.args.numbers.now in
    let failed = get_or c.args.numbers.now c.loop-number.number-index 0 in
    record {
      cut = λ story from low may.
          let so_far = inv.cut story from low may in
          vault_begun g.met.D.Disk.reads c.args.vault.now _ so_far.0.left
          (inv.there _ has) c.cut_in.ensures.cut c.cut_in.ensures.recorded
          c.cut_in.ensures.save c.cut_in.ensures.ties (may.none _ has) (rw inv.ties may.ended);
      emptied = λ tell. tt;
      among = λ n is.
          let same : failed ≡ n = same_err _ _ is in
          subst (Contains c.args.numbers.now) same has;
      device = λ n is was now before after.
          let same : failed ≡ n = same_err _ _ is in
          cut_rose c.args.vault.now failed c.in_default.field-0 c.in_default.is inv.later
          c.cut_in.ensures.cut (inv.there _ has) was now
          (subst (λ j. disk_in c.args.vault.now (Bank j) ≡ Some was) (sym same) before)
          (subst (λ j. disk_in c.cut_in.new.self (Bank j) ≡ Some now) (sym same) after);
      quiet = tt;
      there = λ n was. still_there _ n c.cut_in.ensures.cut (inv.still n was);
      others = (
        c.cut_in.ensures.save ∙ inv.save,
        bank_keeps_snaps _ c.cut_in.ensures.cut ∙ inv.snaps,
        c.cut_in.ensures.ties ∙ inv.ties,
      );
      whole = λ was. whole_cut c.cut_in.ensures.cut (inv.whole was);
      records = cuts_added (front ++ failed ∷ []) behind
          (ap (λ t. t.items) (c.cut_in.ensures.ties ∙ inv.ties))
          (adds_push g.D.Disk.clock c.args.vault.now c.loop-number.vault c.cut_in.new.self front _ (inv.there _ has)
          c.cut_in.ensures.recorded inv.adds)
          (cut_split c.args.numbers.now c.loop-number.number-index 0 within) (λ is. absurd cc);
      stops = λ n is.
          let same : failed ≡ n = same_err _ _ is in
          record {
            front = front;
            behind = behind;
            are = cut_split c.args.numbers.now c.loop-number.number-index 0 within
                ∙ append_assoc front (failed ∷ []) behind
                ∙ ap (λ j. front ++ j ∷ behind) same;
            others = λ m other differs. kept_push c.args.vault.now front _ c.cut_in.ensures.cut inv.kept m
                (λ has. elim (Contains-push_cases front _ m has) [
                  | inl before ↦ other before
                  | inr this ↦ differs (sym this ∙ same)
                ]);
          };
    }

pub loop-number-preserved : goal.loop-number-preserved
loop-number-preserved g c =
    let inv = c.loop-number.invariant in
    let has = Contains-get_or c.args.numbers.now c.loop-number.number-index 0
    c.loop-number-test.true in
    record {
      there = λ n has_n. still_there _ n c.cut_in.ensures.cut (inv.there n has_n);
      still = λ n was. still_there _ n c.cut_in.ensures.cut (inv.still n was);
      room = omega (arith, inv.room, c.cut_in.ensures.room);
      save = c.cut_in.ensures.save ∙ inv.save;
      snaps = bank_keeps_snaps _ c.cut_in.ensures.cut ∙ inv.snaps;
      ties = c.cut_in.ensures.ties ∙ inv.ties;
      whole = λ was. whole_cut c.cut_in.ensures.cut (inv.whole was);
      adds = subst (λ l. AddsCuts c.args.after l c.args.vault.now.cuts.items c.cut_in.new.self.cuts.items)
          (sym (take_more c.args.numbers.now c.loop-number.number-index 0 c.loop-number-test.true))
          (adds_push g.D.Disk.clock c.args.vault.now c.loop-number.vault c.cut_in.new.self
          (take c.loop-number.number-index c.args.numbers.now) _ (inv.there _ has)
          c.cut_in.ensures.recorded inv.adds);
      kept = λ m other. kept_push c.args.vault.now (take c.loop-number.number-index c.args.numbers.now) _
          c.cut_in.ensures.cut inv.kept m (λ among. other (subst (λ l. Contains l m)
          (sym (take_more c.args.numbers.now c.loop-number.number-index 0 c.loop-number-test.true))
          among));
      later = later_cut c.args.vault.now _ inv.later c.cut_in.ensures.cut (inv.there _ has);
      stand = quiet_cut c.args.vault.now _ inv.stand c.in-Ok.ensures.cut (inv.there _ has);
      emptied = λ tell.
          let so_far = inv.emptied tell in (
            subst (λ l. (m : ℕ) (bank : g.row.D.Denot) → Contains l m → disk_in c.cut_in.new.self (Bank m)
                ≡ Some bank → g.D.Disk.tells bank ≡ Some [])
                (sym (take_more c.args.numbers.now c.loop-number.number-index 0
                c.loop-number-test.true))
                (more_empty (take c.loop-number.number-index c.args.numbers.now) _
                (inv.there _ has) c.in-Ok.ensures.cut (λ was is. so_far.1 _ was has is) so_far.0),
            still_told c.args.numbers.now _ has (inv.there _ has) c.cut_in.ensures.cut so_far.1,
          );
      cut = λ story from low may.
          let so_far = inv.cut story from low may in
          let done = vault_done g.met.D.Disk.reads c.args.vault.now _ so_far.0
          (inv.there _ has) c.in-Ok.ensures.cut c.cut_in.ensures.recorded
          c.cut_in.ensures.save c.cut_in.ensures.ties (may.none _ has) (rw inv.ties may.ended)
          (λ was is. so_far.1 _ was has is) in (
            rw (take_more c.args.numbers.now c.loop-number.number-index 0
                c.loop-number-test.true) done,
            still_told c.args.numbers.now _ has (inv.there _ has) c.cut_in.ensures.cut so_far.1,
          );
    }

pub loop-number-init : goal.loop-number-init
loop-number-init g c = record {
  there = c.requires.banks;
  still = λ n was. was;
  room = omega (arith, c.requires.room);
  save = refl;
  snaps = refl;
  ties = refl;
  whole = λ was. was;
  adds = no_cuts c.args.after refl;
  kept = λ m other. refl;
  later = λ m was now before after. let same = same_Some was now (sym before ∙ after) in omega
      (arith, ap g.D.Disk.faults same);
  stand = λ m was now before after. let same = same_Some was now (sym before ∙ after) in
      ap g.D.Disk.faults (sym same);
  emptied = λ tell. (λ n bank has. absurd (omega (arith, has.1)), tell);
  cut = λ story from low may. (cuts_none may.told may.ready may.past, may.tell);
}
