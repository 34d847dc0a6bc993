-- What a round leaves of one worker's log, from what its lines and the join did.
use Rattle.std.proofs.Common.{◌≡◌, ◌≤◌, ◌<◌, ◌+◌, ◌-◌, ◌++◌, ◌∷◌, inl, inr, sym, ap, subst, refl, ℕ, zero, suc, List, []}
use Rattle.std.proofs.Common.{Bool, true, false, cond, Option, Some, append_assoc, arith, eqb, eq-eqb}
use Rattle.std.specs.Prelude.{flat_map, option_to_list}
use Rattle.std.specs.List.{AllByRecursion, Contains}
use Rattle.std.proofs.lemmas.Bool.{cases_eq, ne_eqb}
use Rattle.std.proofs.lemmas.List.{append-nil}
use Rattle.std.proofs.lemmas.List.Elements.{Contains-push}
use Rattle.serial_model.specs.declared.number.Commit.{Commit}
use Rattle.serial_model.specs.declared.op.Op.{Op}
use Rattle.wire_form.specs.declared.clock.Mark.{Mark}
use Rattle.worker_logs.specs.Logs.{IsEpochPassed, IsJoined, IsLog, IsPassed, LogGoesOn, LogRan, LogState}
use Rattle.worker_logs.specs.LogLaws.{log_begins, log_idles}
use Rattle.worker_logs.specs.Rows.{NeverFall}
use Rattle.worker_logs.specs.RowLaws.{epochs_of, falls_lower}
use Rattle.worker_logs.specs.Shown.{IsShownSince, LogShows, Stood}
use Rattle.worker_logs.specs.ShownLaws.{shows_move}
use Rattle.joint_crashes.specs.Marks.{IsAbove, Marks}
use Rattle.joint_crashes.specs.Crashes.Marking.{mark_put}
use Rattle.round_engine.specs.Workers.{idle_if_not, idled, is_busy}

-- ---- a choice for each of the first numbers

pub choose : {A : Type 0} (P : ℕ → A → Type 0) (n : ℕ) → A → ((w : ℕ) → w < n → (a : A) × P w a)
    → (f : ℕ → A) × ((w : ℕ) → w < n → P w (f w))
choose P zero first each = (λ w. first, λ w below. absurd (omega (arith, below)))
choose {A} P (suc n) first each =
    let rest = choose P n first (λ w below. each w (omega (arith, below))) in
    let last = each n (omega arith) in (
      λ w. cond (eqb w n) last.0 (rest.0 w),
      λ w below. elim (cases_eq w n) [
        | inl same ↦ subst (λ v. P v (cond (eqb v n) last.0 (rest.0 v))) (sym same)
            (subst (λ (b : Bool). P n (cond b last.0 (rest.0 n))) (sym (same_eqb n)) last.1)
        | inr other ↦ subst (λ (b : Bool). P w (cond b last.0 (rest.0 w))) (sym (ne_eqb w n other))
            (rest.1 w (omega (arith, below, other)))
      ],
    )
  where
    same_eqb : (n : ℕ) → eqb n n ≡ true
    same_eqb n = eq-eqb n n refl

-- ---- what a worker's log has

-- commits of later epochs leave a mark as it is
pub marks_more : (commits more : List Commit) (epoch size : ℕ) → Marks commits epoch size
    → AllByRecursion (IsAbove epoch) more → Marks (commits ++ more) epoch size
marks_more commits [] epoch size marks above =
    subst (λ l. Marks l epoch size) (sym (append-nil commits)) marks
marks_more commits (c ∷ more) epoch size marks above =
    subst (λ l. Marks l epoch size) (append_assoc commits (c ∷ []) more)
    (marks_more (commits ++ c ∷ []) more epoch size (mark_put commits epoch size c marks above.0) above.1)

-- its mark is passed, if it has lines
pub idled_passed : (lines : List (List Op)) (log : LogState) (epoch : ℕ) → 1 ≤ epoch → IsJoined epoch log
    → (lines ≡ [] → ⊥) → IsPassed epoch (idled lines log).mark
idled_passed [] log epoch first joined some = absurd (some refl)
idled_passed (ops ∷ lines) log epoch first joined some =
    subst (IsEpochPassed epoch) (sym (ap (λ (m : Mark). m.epoch) joined.marked)) (omega (arith, first))

-- marks of one epoch, and then more of a later one
pub rise_then : (low epoch last : ℕ) (set more : List Mark) → low ≤ epoch → epoch ≤ last
    → AllByRecursion (λ (m : Mark). m.epoch ≡ Some epoch) set → AllByRecursion (λ (m : Mark). m.epoch ≡ Some last) more
    → NeverFall low (flat_map (λ (m : Mark). option_to_list m.epoch) (set ++ more))
rise_then low epoch last [] [] first then of more_of = tt
rise_then low epoch last [] (m ∷ more) first then of more_of =
    subst (λ e. NeverFall low (option_to_list e ++ flat_map (λ (m : Mark). option_to_list m.epoch) more)) (sym more_of.0)
    (omega (arith, first, then), rise_then last last last [] more (omega arith) (omega arith) tt more_of.1)
rise_then low epoch last (m ∷ set) more first then of more_of =
    subst (λ e. NeverFall low (option_to_list e ++ flat_map (λ (m : Mark). option_to_list m.epoch) (set ++ more))) (sym of.0)
    (first, rise_then epoch epoch last set more (omega arith) then of.1 more_of)

-- the marks of a worker over a round: as it begins, and those that were set then
pub marks_rise : (lines : List (List Op)) (old : LogState) (set : List Mark) (epoch : ℕ) → IsJoined epoch old
    → NeverFall (epoch - 1) (epochs_of set) → NeverFall 0 (epochs_of ((idled lines old).mark ∷ set))
marks_rise [] old set epoch joined rise = falls_lower 0 (epoch - 1) (epochs_of set) (omega arith) rise
marks_rise (ops ∷ lines) old set epoch joined rise =
    subst (λ e. NeverFall 0 (option_to_list e ++ epochs_of set)) (sym (ap (λ (m : Mark). m.epoch) joined.marked))
    (omega arith, rise)

module _ {D : Type 0} (tells : D → Option (List ℕ)) (clock : D → ℕ) (image_at : D → ℕ → List ℕ → Type 0) where
  -- What a worker's log comes to over a round, for whoever knows what it had before: each mark since then is told,
  -- among them those that were shown to others, and the one behind the join.
  pub record Leaves (commits logged : List Commit) (was : List ℕ) (shown : List Stood) (log : LogState) (before now : D)
      : Type 0 where
    pub durable : List ℕ
    pub marks : List Mark
    pub ran : LogRan tells clock image_at (commits ++ logged) was durable marks before now log
    pub since : AllByRecursion (IsShownSince clock image_at durable (clock before) now marks) shown
    pub rise : NeverFall 0 (flat_map (λ (m : Mark). option_to_list m.epoch) marks)
    pub behind_join : Contains marks log.mark

module _ {D : Type 0} {tells : D → Option (List ℕ)} {clock : D → ℕ} {image_at : D → ℕ → List ℕ → Type 0} where
  -- no call
  pub goes_none : (epoch : ℕ) (log : LogState) (bank : D) → LogGoesOn tells clock image_at epoch log log bank bank
  goes_none epoch log bank commits was durable marks first ran = record {
    durable = durable;
    set = [];
    of_epoch = tt;
    ran = subst (λ m. LogRan tells clock image_at commits was durable m first bank log) (sym (append-nil marks)) ran;
  }

  -- the log of a worker as a round begins
  pub idled_log : {commits : List Commit} {durable : List ℕ} {log : LogState} {bank : D} (busy : Bool) (epoch : ℕ)
      → IsLog tells clock image_at commits durable log bank → IsJoined epoch log
      → IsLog tells clock image_at commits durable (idle_if_not busy log) bank
  idled_log true epoch is joined = is
  idled_log false epoch is joined = log_idles is joined.flushed (ap (λ (m : Mark). m.length) joined.marked)

  pub worker_leaves : {epoch high last : ℕ} {lines : List (List Op)} {logged : List Commit} {shown : List Stood}
      {old mid new : LogState} {before between now : D}
      → 1 ≤ epoch → epoch ≤ last + 1 → high ≤ last + 1 → IsJoined epoch old → (lines ≡ [] → logged ≡ [])
      → LogShows tells clock image_at epoch high logged shown (idled lines old) mid before between
      → LogGoesOn tells clock image_at last mid new between now
      → (commits : List Commit) (was : List ℕ) → IsLog tells clock image_at commits was old before
      → Leaves tells clock image_at commits logged was shown new before now
  worker_leaves {epoch = epoch} {last = last} {lines = lines} {logged = logged} {old = old} {mid = mid} {new = new}
      {before = before} {between = between} {now = now} first later most joined none shows goes commits was is =
      let start : LogState = idled lines old in
      let begins = log_begins (idled_log (is_busy lines) epoch is joined) in
      let passed : (logged ≡ [] → ⊥) → AllByRecursion (IsPassed epoch) (start.mark ∷ []) = λ some.
      (idled_passed lines old epoch first joined (λ no. some (none no)), tt) in
      let showed = shows_move later most shows
      (subst (λ e. LogGoesOn tells clock image_at e mid new between now) (one_less last) goes)
      commits was was (start.mark ∷ []) before begins passed in
      record {
        durable = showed.took.durable;
        marks = start.mark ∷ showed.took.set;
        ran = showed.took.ran;
        since = showed.each;
        rise = marks_rise lines old showed.took.set epoch joined showed.took.rise;
        behind_join = subst (λ l. Contains l new.mark) (sym showed.took.ran.last.1)
            (Contains-push showed.took.ran.last.0 new.mark);
      }
    where
      one_less : (n : ℕ) → n ≡ (n + 1) - 1
      one_less n = omega arith
