-- Calls of a worker's log, one after another, as laws for those above.
use Rattle.std.proofs.Common.{◌≡◌, ◌∙◌, ◌≤◌, ◌+◌, ◌-◌, ◌++◌, ◌∷◌, inl, inr, sym, ap, subst, refl, ℕ, List}
use Rattle.std.proofs.Common.{[]}
use Rattle.std.proofs.Common.{Option, Some, None, arith}
use Rattle.std.specs.Prelude.{flat_map, option_to_list}
use Rattle.std.specs.List.{AllByRecursion}
use Rattle.std.proofs.lemmas.List.{append-nil}
use Rattle.lists.specs.Each.{all_weaker}
use Rattle.outside.specs.Faults.{Rose}
use Rattle.serial_model.specs.declared.number.Commit.{Commit}
use Rattle.wire_form.specs.declared.clock.Mark.{Mark}
use Rattle.log_writer.specs.Journal.{JournalState, Reaches}
use Rattle.log_writer.specs.declared.journal.LogFault.{LogFault}
use Rattle.log_writer.specs.declared.journal.LogFault.TheVariants.{Device, Down, Limit}
use Rattle.worker_logs.specs.Logs.{IsEpochPassed, IsPassed, IsSomeLog, LogRan, LogState}
use Rattle.worker_logs.specs.LogLaws.{log_begins, log_of}
use Rattle.worker_logs.specs.Moves.{MovesLog}
use Rattle.worker_logs.specs.Rows.{Blames, IsBeforeOne, IsFull, KeepsMark, KeepsMarkIn, LogTakes, NeverFall}
use Rattle.worker_logs.specs.Rows.{TakesCommit, full_after}

-- ---- marks of a range of epochs

-- the epochs that marks name
abbrev pub epochs_of : List Mark → List ℕ
epochs_of marks = flat_map (λ (m : Mark). option_to_list m.epoch) marks

-- a mark of the epoch before one is among those before each range with that one
pub before_one : (low high epoch : ℕ) (marked : Option ℕ) → low ≤ epoch → epoch ≤ high → marked ≡ Some (epoch - 1)
    → IsBeforeOne low high marked
before_one low high epoch marked least most is =
    subst (IsBeforeOne low high) (sym is) (omega (arith, least), omega (arith, most))

-- and among those before a wider range
pub before_wider : (low high higher : ℕ) (marked : Option ℕ) → high ≤ higher → IsBeforeOne low high marked
    → IsBeforeOne low higher marked
before_wider low high higher None wider is = is
before_wider low high higher (Some epoch) wider is = (is.0, omega (arith, is.1, wider))

-- so are all of some marks
pub set_wider : (low high higher : ℕ) (set : List Mark) → high ≤ higher
    → AllByRecursion (λ (m : Mark). IsBeforeOne low high m.epoch) set
    → AllByRecursion (λ (m : Mark). IsBeforeOne low higher m.epoch) set
set_wider low high higher set wider of =
    all_weaker (λ (m : Mark). IsBeforeOne low high m.epoch) (λ (m : Mark). IsBeforeOne low higher m.epoch)
    (λ m is. before_wider low high higher m.epoch wider is) set of

-- a commit of the last epoch or a later one may follow such a mark
pub passed_before : (low high epoch : ℕ) (marked : Option ℕ) → 1 ≤ high → high ≤ epoch → IsBeforeOne low high marked
    → IsEpochPassed epoch marked
passed_before low high epoch None some least is = is
passed_before low high epoch (Some marked) some least is = omega (arith, some, least, is.1)

-- and all of some marks
pub passed_set : (low high epoch : ℕ) (set : List Mark) → 1 ≤ high → high ≤ epoch
    → AllByRecursion (λ (m : Mark). IsBeforeOne low high m.epoch) set → AllByRecursion (IsPassed epoch) set
passed_set low high epoch set some least of =
    all_weaker (λ (m : Mark). IsBeforeOne low high m.epoch) (IsPassed epoch)
    (λ m is. passed_before low high epoch m.epoch some least is) set of

-- and a commit of a later epoch may follow what one of an earlier one may follow
pub passed_later : (epoch later : ℕ) (marked : Option ℕ) → epoch ≤ later → IsEpochPassed epoch marked
    → IsEpochPassed later marked
passed_later epoch later None le is = is
passed_later epoch later (Some marked) le is = omega (arith, le, is)

-- ---- epochs that never fall

-- from a lower number on
pub falls_lower : (low mid : ℕ) (xs : List ℕ) → low ≤ mid → NeverFall mid xs → NeverFall low xs
falls_lower low mid [] le rise = tt
falls_lower low mid (n ∷ more) le rise = (omega (arith, le, rise.0), rise.1)

-- marks of one epoch
pub rise_one : (epoch : ℕ) (set : List Mark) → AllByRecursion (λ (m : Mark). m.epoch ≡ Some epoch) set
    → NeverFall epoch (epochs_of set)
rise_one epoch [] of = tt
rise_one epoch (m ∷ set) of =
    subst (λ e. NeverFall epoch (option_to_list e ++ epochs_of set)) (sym of.0) (omega arith, rise_one epoch set of.1)

-- marks of a range of epochs, and then others of later ones
pub rise_more : (from low high then : ℕ) (set more : List Mark) → from ≤ then → high ≤ then + 1
    → AllByRecursion (λ (m : Mark). IsBeforeOne low high m.epoch) set → NeverFall from (epochs_of set)
    → NeverFall then (epochs_of more) → NeverFall from (epochs_of (set ++ more))
rise_more from low high then [] more le most of rise next = falls_lower from then (epochs_of more) le next
rise_more from low high then (m ∷ set) more le most of rise next =
    at_first m.epoch rise of.0 (λ e least risen. rise_more e low high then set more least most of.1 risen next)
  where
    at_first : (e : Option ℕ) → NeverFall from (option_to_list e ++ epochs_of set) → IsBeforeOne low high e
        → ((e : ℕ) → e ≤ then → NeverFall e (epochs_of set) → NeverFall e (epochs_of (set ++ more)))
        → NeverFall from (option_to_list e ++ epochs_of (set ++ more))
    at_first None rise is next = absurd is
    at_first (Some e) rise is next = (rise.0, next e (omega (arith, is.1, most)) rise.1)

-- a list with one more isn't empty
pub some_pushed : (xs : List Commit) (c : Commit) → xs ++ c ∷ [] ≡ [] → ⊥
some_pushed [] c is = absurd cc
some_pushed (x ∷ xs) c is = absurd cc

module _ {D : Type 0} {tells : D → Option (List ℕ)} {clock : D → ℕ} {image_at : D → ℕ → List ℕ → Type 0} where
  -- no call
  pub takes_none : (low high : ℕ) (log : LogState) (bank : D) → LogTakes tells clock image_at low high [] log log bank bank
  takes_none low high log bank commits was durable marks first ran passed = record {
    durable = durable;
    set = [];
    of_epochs = tt;
    rise = tt;
    ran = subst (λ c. LogRan tells clock image_at c was durable (marks ++ []) first bank log) (sym (append-nil commits))
        (subst (λ m. LogRan tells clock image_at commits was durable m first bank log) (sym (append-nil marks)) ran);
  }

  -- What was the log of some commits is that of these and the new ones.
  pub some_takes : (low high : ℕ) (logged : List Commit) {old new : LogState} {before now : D}
      → LogTakes tells clock image_at low high logged old new before now
      → ((logged ≡ [] → ⊥) → IsPassed low old.mark) → IsSomeLog tells clock image_at old before
      → IsSomeLog tells clock image_at new now
  some_takes low high logged {old = old} {before = before} takes passed some =
      let took = takes some.commits some.durable some.durable (old.mark ∷ []) before (log_begins some.is)
      (λ any. (passed any, tt)) in
      record { commits = some.commits ++ logged; durable = took.durable; is = log_of took.ran }

-- ---- marks

-- a call at the last epoch or a later one
pub keeps_then : (low high epoch : ℕ) (old mid new : LogState) → low ≤ epoch → high ≤ epoch
    → KeepsMarkIn low high old mid → KeepsMark epoch mid new → KeepsMarkIn low epoch old new
keeps_then low high epoch old mid new least most (inl first) (inl next) = inl (next ∙ first)
keeps_then low high epoch old mid new least most (inr first) (inl next) =
    inr (subst (λ (m : Mark). IsBeforeOne low epoch m.epoch) (sym next)
    (before_wider low high epoch mid.mark.epoch most first))
keeps_then low high epoch old mid new least most first (inr next) =
    inr (before_one low epoch epoch new.mark.epoch least (omega arith) next)

-- at epochs up to a later one
pub keeps_later : (low high later : ℕ) (old new : LogState) → high ≤ later → KeepsMarkIn low high old new
    → KeepsMarkIn low later old new
keeps_later low high later old new most (inl same) = inl same
keeps_later low high later old new most (inr set) = inr (before_wider low high later new.mark.epoch most set)

-- nor does a commit that is put change the mark
pub keeps_commit : (low high : ℕ) (old mid new : LogState) (commit : Option Commit) → KeepsMarkIn low high old mid
    → TakesCommit commit mid new → KeepsMarkIn low high old new
keeps_commit low high old mid new None keeps is = subst (KeepsMarkIn low high old) (sym is) keeps
keeps_commit low high old mid new (Some c) (inl first) puts = inl (puts.mark ∙ first)
keeps_commit low high old mid new (Some c) (inr first) puts =
    inr (subst (λ (m : Mark). IsBeforeOne low high m.epoch) (sym puts.mark) first)

-- ---- faults

-- without a call nothing is to blame
pub blames_none : {D : Type 0} {faults : D → ℕ} (bank : D) (journal : JournalState) → journal.down ≡ None
    → Blames faults bank bank journal
blames_none bank journal up = record {
  later = omega arith;
  quiet = λ is. refl;
  rose = λ count is. absurd (let none = sym up ∙ is in cc);
}

module _ {D : Type 0} {tells : D → Option (List ℕ)} {clock : D → ℕ} {image_at : D → ℕ → List ℕ → Type 0}
    {faults : D → ℕ} where
  -- and a call blames what it answers
  pub blames_move : {epoch : ℕ} {mid new : LogState} {first between now : D} (fault : Option LogFault)
      → Blames faults first between mid.journal
      → MovesLog tells clock image_at faults epoch mid new between now fault
      → Blames faults first now new.journal
  blames_move None blames moves =
      let same = moves.quiet (λ is. cc) in
      let stays = moves.stays_up (λ is. cc) in
      record {
        later = omega (arith, blames.later, moves.later);
        quiet = λ up. same ∙ blames.quiet (sym stays ∙ up);
        rose = λ count down. subst (Rose _) (sym same) (blames.rose count (sym stays ∙ down));
      }
  blames_move (Some Device) blames moves =
      let down = moves.goes_down refl in
      record {
        later = omega (arith, blames.later, moves.later);
        quiet = λ up. absurd (let none = sym down ∙ up in cc);
        rose = λ count is. omega (arith, moves.device refl, blames.later);
      }
  blames_move (Some (Down count)) blames moves =
      let same = moves.quiet (λ is. cc) in
      let stays = moves.stays_up (λ is. cc) in
      record {
        later = omega (arith, blames.later, moves.later);
        quiet = λ up. same ∙ blames.quiet (sym stays ∙ up);
        rose = λ n down. subst (Rose _) (sym same) (blames.rose n (sym stays ∙ down));
      }
  blames_move (Some (Limit size)) blames moves =
      let same = moves.quiet (λ is. cc) in
      let stays = moves.stays_up (λ is. cc) in
      record {
        later = omega (arith, blames.later, moves.later);
        quiet = λ up. same ∙ blames.quiet (sym stays ∙ up);
        rose = λ n down. subst (Rose _) (sym same) (blames.rose n (sym stays ∙ down));
      }

  -- a log that is down stays so
  pub still_down : {epoch : ℕ} {mid new : LogState} {between now : D} (fault : Option LogFault)
      → MovesLog tells clock image_at faults epoch mid new between now fault → new.journal.down ≡ None
      → mid.journal.down ≡ None
  still_down None moves up = sym (moves.stays_up (λ is. cc)) ∙ up
  still_down (Some Device) moves up = absurd (let none = sym (moves.goes_down refl) ∙ up in cc)
  still_down (Some (Down count)) moves up = sym (moves.stays_up (λ is. cc)) ∙ up
  still_down (Some (Limit size)) moves up = sym (moves.stays_up (λ is. cc)) ∙ up

  -- and one that is full
  pub still_full : {epoch size : ℕ} {mid new : LogState} {between now : D} {fault : Option LogFault}
      → MovesLog tells clock image_at faults epoch mid new between now fault → IsFull size mid.journal
      → IsFull size new.journal
  still_full moves full = record {
    end = full.end ∙ sym moves.end;
    above = omega (arith, full.above, moves.limit);
  }

-- ---- refusals

-- what a log with a commit more is
pub blames_took : {D : Type 0} {faults : D → ℕ} {first now : D} (ready left : LogState) (commit : Option Commit)
    → Blames faults first now ready.journal → TakesCommit commit ready left → Blames faults first now left.journal
blames_took {faults = faults} {first = first} {now = now} ready left None blames is =
    subst (λ (l : LogState). Blames faults first now l.journal) (sym is) blames
blames_took ready left (Some c) blames puts = record {
  later = blames.later;
  quiet = λ up. blames.quiet (sym puts.down ∙ up);
  rose = λ count down. blames.rose count (sym puts.down ∙ down);
}

-- a log file reaches as far where a commit is put
pub reaches_took : {D : Type 0} (tells : D → Option (List ℕ)) (now : D) (ready left : LogState) (commit : Option Commit)
    → Reaches tells now ready.journal → TakesCommit commit ready left → Reaches tells now left.journal
reaches_took tells now ready left None reaches is =
    subst (λ (l : LogState). Reaches tells now l.journal) (sym is) reaches
reaches_took tells now ready left (Some c) reaches puts = λ file told. omega (arith, reaches file told, puts.durable)

-- and may get as long
pub limit_took : (ready left : LogState) (commit : Option Commit) → TakesCommit commit ready left
    → left.journal.limit ≡ ready.journal.limit
limit_took ready left None is = ap (λ (l : LogState). l.journal.limit) is
limit_took ready left (Some c) puts = puts.limit

-- a log that took a call well was up
pub up_or : (down : Option ℕ) → ((count : ℕ) → down ≡ Some count → ⊥) → down ≡ None
up_or None not = refl
up_or (Some count) not = absurd (not count refl)

-- where a log is full
pub full_at : {journal : JournalState} (fault : LogFault) (full : Option ℕ)
    → ((size : ℕ) → fault ≡ Limit size → IsFull size journal) → ((size : ℕ) → full ≡ Some size → IsFull size journal)
    → (size : ℕ) → full_after fault full ≡ Some size → IsFull size journal
full_at Device full limit before size is = before size is
full_at (Down count) full limit before size is = before size is
full_at (Limit length) full limit before size is =
    let same : length ≡ size = cc in limit size (ap Limit same)

module _ {D : Type 0} {tells : D → Option (List ℕ)} {clock : D → ℕ} {image_at : D → ℕ → List ℕ → Type 0}
    {faults : D → ℕ} {epoch : ℕ} {log left : LogState} {bank now : D} where
  -- a log that was made ready was up
  pub was_up : MovesLog tells clock image_at faults epoch log left bank now None → log.journal.down ≡ None
  was_up moves = up_or log.journal.down (λ count is. let no = (moves.down count).1 is in absurd cc)

  -- and one that refuses a line for another cause than its length is down
  pub never_up : (fault : LogFault) (full : Option ℕ) → MovesLog tells clock image_at faults epoch log left bank now (Some fault)
      → full_after fault full ≡ None → left.journal.down ≡ None → ⊥
  never_up Device full moves none up = let no = sym (moves.goes_down refl) ∙ up in absurd cc
  never_up (Down count) full moves none up =
      let no = sym ((moves.down count).0 refl) ∙ sym (moves.stays_up (λ is. cc)) ∙ up in absurd cc
  never_up (Limit size) full moves none up = absurd cc
