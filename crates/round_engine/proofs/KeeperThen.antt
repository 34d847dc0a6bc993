-- Lines of the maintenance thread, and then more.
use Rattle.std.proofs.Common.{◌≡◌, ◌∙◌, ◌≤◌, ◌+◌, ◌++◌, ◌∷◌, inl, inr, sym, ap, subst, refl, ℕ, List, [], length}
use Rattle.std.proofs.Common.{length-append, append_assoc, map, Bool, true, false, Option, Some, None, arith}
use Rattle.std.specs.Prelude.{◌||◌, fold, is_some, option_to_list}
use Rattle.std.specs.List.{AllByRecursion, Contains, list_any}
use Rattle.std.proofs.lemmas.Bool.{cases_Bool}
use Rattle.std.proofs.lemmas.List.{append-nil, length-map, map-append}
use Rattle.std.proofs.lemmas.List.Elements.{Contains-append_cases, Contains-append_left, Contains-append_right}
use Rattle.std.proofs.lemmas.List.Sums.{fold-append}
use Rattle.lists.specs.Each.{all_weaker}
use Rattle.outside.specs.declared.device.Device.{Device}
use Rattle.log_writer.specs.declared.vault.Vault.{Vault}
use Rattle.lists.specs.Elements.{in_none}
use Rattle.script_grammar.specs.declared.lines.KeeperLine.{KeeperLine}
use Rattle.script_grammar.specs.declared.lines.KeeperLine.TheVariants as asks
use Rattle.wire_form.specs.declared.clock.Mark.{Mark}
use Rattle.wire_form.specs.declared.savepoint.Savepoint.{Savepoint}
use Rattle.log_writer.specs.Points.{point_of, sequence_of}
use Rattle.log_writer.specs.declared.saved.Saved.{Saved}
use Rattle.joint_crashes.specs.Images.{epoch_of}
use Rattle.tx_script.specs.Run.{AdvancesTo, Ran}
use Rattle.tx_script.specs.Causes.{AnswersCaused, AreMarksOf, KeeperAt, keeper_after, some_counted}
use Rattle.tx_script.specs.CausedBeside.{SavesSee}
use Rattle.tx_script.specs.declared.answer.Answer.{Answer}
use Rattle.tx_script.specs.declared.answer.Answer.TheVariants as answers
use Rattle.worker_logs.specs.declared.savepoints.Beside.{Beside}
use Rattle.worker_logs.specs.Rows.{NeverFall}
use Rattle.round_engine.specs.Ends.{first_device, wants_memory, where_true}
use Rattle.round_engine.specs.Gleans.{LeaveGleans, RoundGleans}
use Rattle.round_engine.specs.Keeping.{answers_end, AreSeenFrom, epoch_by, epochs_in, GoOn, IsSavedBySeen, is_refusal, keeper_on}
use Rattle.round_engine.specs.Keeping.{KeepsSaves, last_epoch_of, last_seen, refusal_told, RestsOn, RunsKeeper}
use Rattle.round_engine.specs.Keeping.{AreByPlace, SeenAmong}
use Rattle.round_engine.specs.Saves.{AreSavedIn, beside_after, beside_at_end, beside_at_save, newest_after, saves_told}
use Rattle.round_engine.proofs.Placed.{place_then, sequence_after}
use Rattle.round_engine.specs.Sides.{is_odd}
use Rattle.round_engine.specs.Standing.{beside_of, RuntimeState, Standing}
use Rattle.round_engine.specs.declared.report.End.{End}
use Rattle.round_engine.specs.declared.report.End.TheVariants as ends
use Rattle.round_engine.proofs.Dropped.{dropped_then}
use Rattle.round_engine.proofs.GleansThen.{beside_both, beside_kept, beside_mid, gleans_both, leaves_both, snap_in, spent}
use Rattle.round_engine.proofs.Keeping.{keeps_then}

-- ---- answers

pub advances_on : (told more : List Answer) (first mid last : ℕ) → AdvancesTo first told mid → AdvancesTo mid more last
    → AdvancesTo first (told ++ more) last
advances_on [] more first mid last is next = subst (λ e. AdvancesTo e more last) is next
advances_on (answers.Epoch epoch ∷ told) more first mid last is next = (is.0, advances_on told more epoch mid last is.1 next)
advances_on (_ ∷ told) more first mid last is next = advances_on told more first mid last is next

pub saves_on : (told more : List Answer) → saves_told (told ++ more) ≡ saves_told told ++ saves_told more
saves_on [] more = refl
saves_on (answers.Save epoch ∷ told) more = ap (λ l. epoch ∷ l) (saves_on told more)
saves_on (_ ∷ told) more = saves_on told more

pub caused_then : (ran : Ran) (lines more : List KeeperLine) (said told : List Answer) (k : KeeperAt)
    → AnswersCaused ran k lines said → AnswersCaused ran (fold keeper_after k said) more told
    → AnswersCaused ran k (lines ++ more) (said ++ told)
caused_then ran [] more [] told k first next = next
caused_then ran (l ∷ lines) more (a ∷ said) told k first next =
    (first.0, caused_then ran lines more said told (keeper_after k a) first.1 next)
caused_then ran [] more (a ∷ said) told k first next = absurd first
caused_then ran (l ∷ lines) more [] told k first next = absurd first

or_assoc : (a b c : Bool) → (a || (b || c)) ≡ ((a || b) || c)
or_assoc true b c = refl
or_assoc false b c = refl

pub any_append : {X : Type 0} (test : X → Bool) (xs ys : List X)
    → list_any test (xs ++ ys) ≡ (list_any test xs || list_any test ys)
any_append test [] ys = refl
any_append test (x ∷ xs) ys = ap (λ b. test x || b) (any_append test xs ys)
    ∙ or_assoc (test x) (list_any test xs) (list_any test ys)

-- ---- saves

pub saved_in_weaker : (By More : Beside → Saved → Type 0) (b : Beside) (said : List Answer) (stored : List Saved)
    → ((c : Beside) (s : Saved) → By c s → More c s) → AreSavedIn By b said stored → AreSavedIn More b said stored
saved_in_weaker By More b [] stored weaker is = is
saved_in_weaker By More b (answers.Save epoch ∷ more) stored weaker is =
    (is.0, is.1, is.2, weaker b is.0 is.3, saved_in_weaker By More b more is.1 weaker is.4)
saved_in_weaker By More b (answer ∷ more) stored weaker is =
    saved_in_weaker By More (beside_after b answer) more stored weaker is

pub saved_in_then : (By : Beside → Saved → Type 0) (b : Beside) (said told : List Answer) (stored more : List Saved)
    → AreSavedIn By b said stored → AreSavedIn By (beside_at_end b said) told more
    → AreSavedIn By b (said ++ told) (stored ++ more)
saved_in_then By b [] told stored more first next = subst (λ l. AreSavedIn By b told (l ++ more)) (sym first) next
saved_in_then By b (answers.Save epoch ∷ said) told stored more first next = (
  first.0,
  first.1 ++ more,
  ap (λ l. l ++ more) first.2,
  first.3,
  saved_in_then By b said told first.1 more first.4 next,
)
saved_in_then By b (answer ∷ said) told stored more first next =
    saved_in_then By (beside_after b answer) said told stored more first next

-- ---- epochs

never_then : (low : ℕ) (xs ys : List ℕ) → NeverFall low xs → NeverFall (last_epoch_of low xs) ys → NeverFall low (xs ++ ys)
never_then low [] ys first next = next
never_then low (x ∷ xs) ys first next = (first.0, never_then x xs ys first.1 next)

last_then : (low : ℕ) (xs ys : List ℕ) → last_epoch_of low (xs ++ ys) ≡ last_epoch_of (last_epoch_of low xs) ys
last_then low [] ys = refl
last_then low (x ∷ xs) ys = last_then x xs ys

newest_last : (newest : Option Savepoint) (stored : List Saved)
    → epoch_of (newest_after newest stored) ≡ last_epoch_of (epoch_of newest) (map (λ (s : Saved). s.epoch) stored)
newest_last newest [] = refl
newest_last newest (s ∷ stored) = newest_last (Some (point_of (sequence_of newest + 1) s)) stored

-- ---- marks that were seen

-- those in front, and those behind them
go_on_parts : (from : List Mark) (seen more : List (List Mark)) → GoOn from (seen ++ more)
    → GoOn from seen × GoOn (last_seen from seen) more
go_on_parts from [] more going = (tt, going)
go_on_parts from (marks ∷ seen) more going =
    let rest = go_on_parts marks seen more going.1 in ((going.0, rest.0), rest.1)

last_seen_then : (from : List Mark) (seen more : List (List Mark))
    → last_seen from (seen ++ more) ≡ last_seen (last_seen from seen) more
last_seen_then from [] more = refl
last_seen_then from (marks ∷ seen) more = last_seen_then marks seen more

-- where they stood is told of each of both
seen_from_parts : (ran : Ran) (index : ℕ) (seen more : List (List Mark)) → AreSeenFrom ran index (seen ++ more)
    → AreSeenFrom ran index seen × AreSeenFrom ran (index + length seen) more
seen_from_parts ran index [] more are =
    let same : index ≡ index + 0 = omega arith in (tt, subst (λ n. AreSeenFrom ran n more) same are)
seen_from_parts ran index (marks ∷ seen) more are =
    let rest = seen_from_parts ran (index + 1) seen more are.1 in
    let same : index + 1 + length seen ≡ index + length (marks ∷ seen) = omega arith in
    ((are.0, rest.0), subst (λ n. AreSeenFrom ran n more) same rest.1)

-- what the saves of some lines saw, and those of others
pub sees_then : (ran : Ran) (lines more : List KeeperLine) (said told : List Answer) (index mid last : ℕ) (k : KeeperAt)
    → SavesSee ran index k lines said mid → SavesSee ran mid (fold keeper_after k said) more told last
    → SavesSee ran index k (lines ++ more) (said ++ told) last
sees_then ran [] more [] told index mid last k first next =
    subst (λ n. SavesSee ran n k more told last) (sym first) next
sees_then ran (asks.Save ∷ lines) more (answers.Save e ∷ said) told index mid last k first next =
    (first.0, sees_then ran lines more said told (index + 1) mid last (keeper_after k (answers.Save e)) first.1 next)
sees_then ran (asks.Save ∷ lines) more (answers.Unrun ∷ said) told index mid last k first next =
    sees_then ran lines more said told index mid last (keeper_after k answers.Unrun) first next
sees_then ran (asks.Save ∷ lines) more (a ∷ said) told index mid last k first next =
    sees_then ran lines more said told (index + 1) mid last (keeper_after k a) first next
sees_then ran (l ∷ lines) more (a ∷ said) told index mid last k first next =
    sees_then ran lines more said told index mid last (keeper_after k a) first next
sees_then ran [] more (a ∷ said) told index mid last k first next = absurd first
sees_then ran (l ∷ lines) more [] told index mid last k first next = absurd first

all_parts : {X : Type 0} (P : X → Type 0) (xs ys : List X) → AllByRecursion P (xs ++ ys)
    → AllByRecursion P xs × AllByRecursion P ys
all_parts P [] ys all = (tt, all)
all_parts P (x ∷ xs) ys all = let rest = all_parts P xs ys all.1 in ((all.0, rest.0), rest.1)

-- ---- refusals

pub record NothingRefused (failed : Option Saved) (broken : List Device) (damaged : Option (Device × ℕ))
    (said : List Answer) : Type 0 where
  pub failed_is : failed ≡ None
  pub broken_is : broken ≡ []
  pub damaged_is : damaged ≡ None
  pub memory : list_any wants_memory said ≡ false

-- want of memory, if there is one
abbrev pub where_memory : Bool → Option End
where_memory b = where_true b ends.Memory

no_memory : (b : Bool) → ◌≡◌ {A = Option End} None (where_memory b) → b ≡ false
no_memory true is = absurd (let no = is in cc)
no_memory false is = refl

pub refused_nothing : (failed : Option Saved) (broken : List Device) (damaged : Option (Device × ℕ)) (said : List Answer)
    → None ≡ refusal_told failed (first_device broken) damaged said → NothingRefused failed broken damaged said
refused_nothing (Some s) broken damaged said is = absurd (let no = is in cc)
refused_nothing None (d ∷ more) damaged said is = absurd (let no = is in cc)
refused_nothing None [] (Some d) said is = absurd (let no = is in cc)
refused_nothing None [] None said is =
    record { failed_is = refl; broken_is = refl; damaged_is = refl; memory = no_memory (list_any wants_memory said) is }

refusal_more : (failed : Option Saved) (broken : Option Device) (damaged : Option (Device × ℕ)) (said told : List Answer)
    → list_any wants_memory said ≡ false → refusal_told failed broken damaged (said ++ told) ≡ refusal_told failed broken damaged told
refusal_more (Some s) broken damaged said told none = refl
refusal_more None (Some d) damaged said told none = refl
refusal_more None None (Some d) said told none = refl
refusal_more None None None said told none =
    ap where_memory (any_append wants_memory said told ∙ ap (λ b. b || list_any wants_memory told) none)

-- ---- some lines, and more

module _ {D : Type 0} {tells : D → Option (List ℕ)} {clock : D → ℕ} {image_at : D → ℕ → List ℕ → Type 0} {faults : D → ℕ}
    {seen later_seen : List (List Mark)} {lines more : List KeeperLine} {said told : List Answer} {refusal : Option End}
    {old mid new : RuntimeState} {before between now : Vault D} (sound : mid.store.sound ≡ true)
    (first : RunsKeeper tells clock image_at faults seen lines said None old mid before between)
    (next : RunsKeeper tells clock image_at faults later_seen more told refusal mid new between now) where
  nothing : NothingRefused first.failed first.broken first.damaged said
  nothing = refused_nothing first.failed first.broken first.damaged said first.refusal_is

  decls_same : mid.stands.decls ≡ old.stands.decls
  decls_same = ap (λ (s : Standing). s.decls) first.stands

  gleaned : RoundGleans tells said first.gleans None old mid before between
  gleaned = subst (λ d. RoundGleans tells said first.gleans d old mid before between) nothing.damaged_is first.gleaned

  left : LeaveGleans tells clock image_at faults said [] old mid before between
  left = subst (λ d. LeaveGleans tells clock image_at faults said d old mid before between) nothing.broken_is first.leaves

  middle : beside_of mid ≡ beside_at_end (beside_of old) said
  middle = beside_mid sound decls_same gleaned left next.gleaned next.leaves next.needs

  both : beside_at_end (beside_of old) (said ++ told) ≡ beside_at_end (beside_of mid) told
  both = beside_both sound decls_same gleaned left next.gleaned next.leaves next.needs

  counted_back : some_counted mid.counted ≡ true → some_counted old.counted ≡ true
  counted_back counted = elim (cases_Bool (snap_in said)) [
    | inl some ↦ absurd (spent sound decls_same gleaned left next.gleaned next.leaves next.needs some counted)
    | inr none ↦ subst (λ l. some_counted l ≡ true)
        (left.counted ∙ ap (λ (b : Beside). b.closed) (beside_kept (beside_of old) said none)) counted
  ]

  abbrev Between : Beside → Saved → Type 0
  Between = IsSavedBySeen (SeenAmong (seen ++ later_seen) old.stands.clock.epoch new.stands.clock.epoch)

  marks_first : (b : Beside) (s : Saved)
      → IsSavedBySeen (SeenAmong seen old.stands.clock.epoch mid.stands.clock.epoch) b s → Between b s
  marks_first b s is = (
    is.0,
    is.1,
    (is.2.0, omega (arith, is.2.1, next.later), Contains-append_left seen later_seen is.1 is.2.2),
    is.3,
  )

  marks_next : (b : Beside) (s : Saved)
      → IsSavedBySeen (SeenAmong later_seen mid.stands.clock.epoch new.stands.clock.epoch) b s → Between b s
  marks_next b s is = (
    is.0,
    is.1,
    (omega (arith, is.2.0, first.later), is.2.1, Contains-append_right seen later_seen is.1 is.2.2),
    is.3,
  )

  abbrev epochs : List Saved → List ℕ
  epochs stored = map (λ (s : Saved). s.epoch) stored

  first_stored : first.stored ++ option_to_list first.failed ≡ first.stored
  first_stored = ap (λ f. first.stored ++ option_to_list f) nothing.failed_is ∙ append-nil first.stored

  all_epochs : epochs ((first.stored ++ next.stored) ++ option_to_list next.failed)
      ≡ epochs first.stored ++ epochs (next.stored ++ option_to_list next.failed)
  all_epochs = ap epochs (append_assoc first.stored next.stored (option_to_list next.failed))
      ∙ map-append (λ (s : Saved). s.epoch) first.stored (next.stored ++ option_to_list next.failed)

  risen : (from : List Mark) → GoOn from (seen ++ later_seen)
      → epoch_of old.save.newest ≤ epoch_by old.stands.clock.epoch from
      → NeverFall (epoch_of old.save.newest) (epochs ((first.stored ++ next.stored) ++ option_to_list next.failed))
      × (last_epoch_of (epoch_of old.save.newest) (epochs ((first.stored ++ next.stored) ++ option_to_list next.failed))
      ≤ epoch_by new.stands.clock.epoch (last_seen from (seen ++ later_seen)))
  risen from going low =
      let parts = go_on_parts from seen later_seen going in
      let one = first.rise from parts.0 low in
      let never : NeverFall (epoch_of old.save.newest) (epochs first.stored) =
      subst (λ l. NeverFall (epoch_of old.save.newest) (epochs l)) first_stored one.0 in
      let last : last_epoch_of (epoch_of old.save.newest) (epochs first.stored)
      ≤ epoch_by mid.stands.clock.epoch (last_seen from seen) =
      subst (λ l. last_epoch_of (epoch_of old.save.newest) (epochs l)
      ≤ epoch_by mid.stands.clock.epoch (last_seen from seen)) first_stored one.1 in
      let newest : epoch_of mid.save.newest ≡ last_epoch_of (epoch_of old.save.newest) (epochs first.stored) =
      ap epoch_of first.keeps.newest ∙ newest_last old.save.newest first.stored in
      let two = next.rise (last_seen from seen) parts.1 (omega (arith, newest, last)) in
      let high = epoch_by new.stands.clock.epoch (last_seen from (seen ++ later_seen)) in
      let second : last_epoch_of (epoch_of mid.save.newest) (epochs (next.stored ++ option_to_list next.failed)) ≤ high =
      subst (λ l. last_epoch_of (epoch_of mid.save.newest) (epochs (next.stored ++ option_to_list next.failed))
      ≤ epoch_by new.stands.clock.epoch l) (sym (last_seen_then from seen later_seen)) two.1 in (
        subst (NeverFall (epoch_of old.save.newest)) (sym all_epochs)
            (never_then (epoch_of old.save.newest) (epochs first.stored) (epochs (next.stored ++ option_to_list next.failed))
            never (subst (λ e. NeverFall e (epochs (next.stored ++ option_to_list next.failed))) newest two.0)),
        subst (λ l. last_epoch_of (epoch_of old.save.newest) l ≤ high) (sym all_epochs)
            (subst (λ e. e ≤ high)
            (sym (last_then (epoch_of old.save.newest) (epochs first.stored) (epochs (next.stored ++ option_to_list next.failed))))
            (subst (λ e. last_epoch_of e (epochs (next.stored ++ option_to_list next.failed)) ≤ high) newest second)),
      )

  not_refused : list_any is_refusal said ≡ false
  not_refused = sym first.refused

  refused_both : list_any is_refusal (said ++ told) ≡ list_any is_refusal told
  refused_both = any_append is_refusal said told ∙ ap (λ b. b || list_any is_refusal told) not_refused

  -- where the maintenance thread stands between
  stands_between : answers_end (keeper_on old false) said ≡ keeper_on mid false
  stands_between = first.at_end ∙ ap (λ b. record (keeper_on mid b) { pages = (beside_at_end (beside_of old) said).count }) not_refused
      ∙ ap (λ n. record (keeper_on mid false) { pages = n }) (sym (first.gleaned.many sound))

  causes : (ran : Ran)
      → RestsOn old (seen ++ later_seen) (first.gleans ++ next.gleans) next.failed next.broken next.damaged ran
      → AnswersCaused ran (keeper_on old false) (lines ++ more) (said ++ told)
  causes ran rests = caused_then ran lines more said told (keeper_on old false)
      (first.caused ran (record {
        marks = (all_parts (λ (marks : List Mark). AreMarksOf ran.beside.marks (epochs_in marks)) seen later_seen
            rests.marks).0;
        odd = rests.odd;
        closed_at = rests.closed_at;
        room = rests.room;
        gleans_are = λ what has. rests.gleans_are what (Contains-append_left first.gleans next.gleans what has);
        damage = λ damage is. absurd (let no = sym is ∙ nothing.damaged_is in cc);
        store = λ is. absurd (let no = sym (ap is_some nothing.failed_is) ∙ is in cc);
        device = λ device has.
            absurd (in_none device (subst (λ l. Contains l device) nothing.broken_is has));
      }))
      (subst (λ k. AnswersCaused ran k more told) (sym stands_between) (next.caused ran (record {
        marks = (all_parts (λ (marks : List Mark). AreMarksOf ran.beside.marks (epochs_in marks)) seen later_seen
            rests.marks).1;
        odd = rests.odd ∙ ap is_odd (sym left.side);
        closed_at = rests.closed_at ∙ sym left.closed_at;
        room = rests.room ∙ sym left.room;
        gleans_are = λ what has. rests.gleans_are what (Contains-append_right first.gleans next.gleans what has);
        damage = rests.damage;
        store = rests.store;
        device = rests.device;
      })))

  sees : (ran : Ran) (index : ℕ) → AreSeenFrom ran index (seen ++ later_seen)
      → SavesSee ran index (keeper_on old false) (lines ++ more) (said ++ told) (index + length (seen ++ later_seen))
  sees ran index are =
      let parts = seen_from_parts ran index seen later_seen are in
      let last : index + length seen + length later_seen ≡ index + length (seen ++ later_seen) =
      omega (arith, length-append seen later_seen) in
      sees_then ran lines more said told index (index + length seen) (index + length (seen ++ later_seen))
      (keeper_on old false) (first.saw ran index parts.0)
      (subst (λ k. SavesSee ran (index + length seen) k more told (index + length (seen ++ later_seen))) (sym stands_between)
      (subst (λ n. SavesSee ran (index + length seen) (keeper_on mid false) more told n) last
      (next.saw ran (index + length seen) parts.1)))

  -- The lines, and more of them behind no refusal.
  pub keeper_then : RunsKeeper tells clock image_at faults (seen ++ later_seen) (lines ++ more) (said ++ told) refusal old
      new before now
  keeper_then = record {
    stored = first.stored ++ next.stored;
    failed = next.failed;
    gleans = first.gleans ++ next.gleans;
    broken = next.broken;
    damaged = next.damaged;
    keeps = keeps_then sound (subst (λ f. KeepsSaves tells clock image_at faults first.stored f old mid before between)
        nothing.failed_is first.keeps) next.keeps;
    by_lines = saved_in_then Between (beside_of old) said told first.stored next.stored
        (saved_in_weaker (IsSavedBySeen (SeenAmong seen old.stands.clock.epoch mid.stands.clock.epoch)) Between
        (beside_of old) said first.stored marks_first first.by_lines)
        (subst (λ b. AreSavedIn Between b told next.stored) middle
        (saved_in_weaker (IsSavedBySeen (SeenAmong later_seen mid.stands.clock.epoch new.stands.clock.epoch)) Between
        (beside_of mid) told next.stored marks_next next.by_lines));
    by_failed = subst (λ b. AllByRecursion (Between b) (option_to_list next.failed)) (sym both)
        (all_weaker (IsSavedBySeen (SeenAmong later_seen mid.stands.clock.epoch new.stands.clock.epoch)
        (beside_at_end (beside_of mid) told)) (Between (beside_at_end (beside_of mid) told))
        (marks_next (beside_at_end (beside_of mid) told)) (option_to_list next.failed) next.by_failed);
    by_place = subst (λ l. AreByPlace old.stands.clock.epoch new.stands.clock.epoch
        (beside_at_save (beside_of old) (said ++ told)) (seen ++ later_seen) l (sequence_of old.save.newest)
        (sequence_of new.save.newest)) (sym (append_assoc first.stored next.stored (option_to_list next.failed)))
        (place_then old.stands.clock.epoch mid.stands.clock.epoch new.stands.clock.epoch (beside_of old) (beside_of mid) said
        told seen later_seen first.stored (next.stored ++ option_to_list next.failed) (sequence_of old.save.newest)
        (sequence_of mid.save.newest) (sequence_of new.save.newest) first.later next.later
        (sym (length-map first.stored (λ (s : Saved). s.epoch)) ∙ ap length first.told) middle
        (subst (λ l. AreByPlace old.stands.clock.epoch mid.stands.clock.epoch (beside_at_save (beside_of old) said) seen l
        (sequence_of old.save.newest) (sequence_of mid.save.newest)) first_stored first.by_place) next.by_place
        (ap sequence_of first.keeps.newest ∙ sequence_after old.save.newest first.stored)
        (omega (arith, ap sequence_of next.keeps.newest, sequence_after mid.save.newest next.stored)));
    gleaned = gleans_both sound decls_same gleaned left next.gleaned next.leaves next.needs;
    leaves = leaves_both sound decls_same gleaned left next.gleaned next.leaves next.needs;
    needs = record {
      found = λ what has. elim (Contains-append_cases first.gleans next.gleans what has) [
        | inl early ↦ first.needs.found what early
        | inr behind ↦ counted_back (next.needs.found what behind)
      ];
      made = λ epoch count has. elim (Contains-append_cases said told (answers.Snap epoch count) has) [
        | inl early ↦ first.needs.made epoch count early
        | inr behind ↦ counted_back (next.needs.made epoch count behind)
      ];
      damage = λ is. counted_back (next.needs.damage is);
      device = λ device has. counted_back (next.needs.device device has);
    };
    rise = risen;
    later = omega (arith, first.later, next.later);
    stands = next.stands
        ∙ ap (λ (s : Standing). record s {
          clock = record s.clock { epoch = new.stands.clock.epoch };
          pages = new.stands.pages;
          drops = new.stands.drops;
        }) first.stands;
    dropped = dropped_then said told old.stands.drops mid.stands.drops new.stands.drops first.dropped next.dropped;
    logs = next.logs ∙ first.logs;
    is_down = next.is_down ∙ first.is_down;
    count = length-append said told ∙ ap (λ n. n + length told) first.count ∙ ap (λ n. length lines + n) next.count
        ∙ sym (length-append lines more);
    advances = advances_on said told old.stands.clock.epoch mid.stands.clock.epoch new.stands.clock.epoch first.advances
        next.advances;
    at_end = fold-append keeper_after (keeper_on old false) said told ∙ ap (λ k. answers_end k told) stands_between
        ∙ next.at_end
        ∙ ap (λ b. record (keeper_on new b) { pages = (beside_at_end (beside_of mid) told).count }) (sym refused_both)
        ∙ ap (λ (b : Beside). record (keeper_on new (list_any is_refusal (said ++ told))) { pages = b.count }) (sym both);
    refused = next.refused ∙ sym refused_both;
    refusal_is = next.refusal_is
        ∙ sym (refusal_more next.failed (first_device next.broken) next.damaged said told nothing.memory);
    told = map-append (λ (s : Saved). s.epoch) first.stored next.stored ∙ ap (λ l. l ++ epochs next.stored) first.told
        ∙ ap (λ l. saves_told said ++ l) next.told ∙ sym (saves_on said told);
    caused = causes;
    saw = sees;
    above = λ low. next.above (first.above low);
    tie_room = omega (arith, first.tie_room, next.tie_room, length-append lines more);
    cut_room = next.cut_room ∙ first.cut_room;
  }
