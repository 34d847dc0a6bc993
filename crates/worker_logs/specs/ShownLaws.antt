-- Marks that are shown, through the calls of a log: each stays what it was.
use Rattle.std.proofs.Common.{◌≡◌, ◌∙◌, ◌<◌, ◌≤◌, ◌-◌, ◌++◌, ◌∷◌, inl, inr, sym, ap, subst, refl, ℕ, List, []}
use Rattle.std.proofs.Common.{Option, Some, None, append_assoc, arith, length, take}
use Rattle.std.specs.Prelude.{Contains, option_to_list}
use Rattle.std.specs.List.{AllByRecursion}
use Rattle.std.proofs.lemmas.Bool.{cases_lt}
use Rattle.std.proofs.lemmas.List.{append-nil, take-take, take_all}
use Rattle.std.proofs.lemmas.List.Elements.{Contains-append_left}
use Rattle.lists.specs.Each.{all_append, all_push, all_weaker}
use Rattle.lists.specs.Elements.{in_cases, in_none, in_push_new}
use Rattle.lists.specs.Fronts.{IsFront, front_take, front_then}
use Rattle.outside.specs.Fronts.{AgreesOn, AllBegin, KeepsSince, begins_less}
use Rattle.outside.specs.Growth.{Grows, grows_none, grows_then}
use Rattle.serial_model.specs.declared.number.Commit.{Commit}
use Rattle.wire_form.specs.declared.clock.Mark.{Mark}
use Rattle.worker_logs.specs.Logs.{IsMarkOf, IsPassed, LogGoesOn, LogRan, LogState}
use Rattle.worker_logs.specs.LogLaws.{log_put}
use Rattle.worker_logs.specs.RowLaws.{before_one, passed_later, passed_set, rise_more, rise_one, set_wider, some_pushed}
use Rattle.worker_logs.specs.RowLaws.{takes_none}
use Rattle.worker_logs.specs.Rows.{IsBeforeOne, LogTakes, LogTook, TakesCommit}
use Rattle.worker_logs.specs.Shown.{IsShownSince, LogShows, Stood}

-- what holds of all holds of each
each_of : {A : Type 0} (P : A → Type 0) (xs : List A) (x : A) → AllByRecursion P xs → Contains xs x → P x
each_of P [] x all has = absurd (in_none x has)
each_of P (y ∷ xs) x all has =
    elim (in_cases x y xs has) [ inl same ↦ subst P same all.0 | inr rest ↦ each_of P xs x all.1 rest ]

-- no more of a longer list than of its front
take_front : (size : ℕ) (was now : List ℕ) → IsFront was now → size ≤ length was → take size now ≡ take size was
take_front size was now front within =
    sym (take-take size (length was) now within) ∙ ap (take size) front

-- marks of the epoch before this one hold no commit of it back
passed_one : (low : ℕ) (set : List Mark) → 1 ≤ low → AllByRecursion (λ (m : Mark). m.epoch ≡ Some (low - 1)) set
    → AllByRecursion (IsPassed low) set
passed_one low set some of = passed_set low low low set some (omega arith)
    (all_weaker (λ (m : Mark). m.epoch ≡ Some (low - 1)) (λ (m : Mark). IsBeforeOne low low m.epoch)
    (λ m is. before_one low low low m.epoch (omega arith) (omega arith) is) set of)

module _ {D : Type 0} (clock : D → ℕ) (image_at : D → ℕ → List ℕ → Type 0) where
  -- what every image now begins with, every image since now begins with
  pub keeps_now : (disk : D) (made : List ℕ) → AllBegin (image_at disk (clock disk)) made
      → KeepsSince clock image_at disk (clock disk) made
  keeps_now disk made begins m c from to image =
      begins c (subst (λ j. image_at disk j c) (omega (arith, from, to)) image)

module _ {D : Type 0} {clock : D → ℕ} {image_at : D → ℕ → List ℕ → Type 0} where
  -- what is kept since a moment stays, where the log file only grows
  pub keeps_grows : {old new : D} {was now less : List ℕ} {since : ℕ} → Grows clock image_at old new was now
      → KeepsSince clock image_at old since less → IsFront less was → KeepsSince clock image_at new since less
  keeps_grows {old = old} {was = was} {less = less} grown keeps front m c from come image =
      elim (cases_lt (clock old) m) [
        | inl late ↦ front_then less was c front (grown.begins m late come c image)
        | inr early ↦ keeps m c from early (grown.no_new m c early image)
      ]

  -- a mark that was shown stands on, where the log file only grows and the log has more marks
  stands_on : (durable more : List ℕ) (first : ℕ) (old new : D) (marks then : List Mark) (m : Stood)
      → Grows clock image_at old new durable more → m.mark.length ≤ length durable
      → IsShownSince clock image_at durable first old marks m
      → IsShownSince clock image_at more first new (marks ++ then) m
  stands_on durable more first old new marks then m grown within stood = record {
    among = Contains-append_left marks then m.mark stood.among;
    begun = stood.begun;
    come = omega (arith, stood.come, grown.later);
    keeps = subst (KeepsSince clock image_at new m.since)
        (sym (take_front m.mark.length durable more grown.more within))
        (keeps_grows grown stood.keeps (front_take m.mark.length durable));
    pinned = λ late front all. subst (IsFront front) (sym (take_front m.mark.length durable more grown.more within))
        (stood.pinned late front (λ c image. all c (grown.kept m.since c stood.come image)));
  }

module _ {D : Type 0} {tells : D → Option (List ℕ)} {clock : D → ℕ} {image_at : D → ℕ → List ℕ → Type 0} where
  -- Whatever is shown, the log took the commits.
  pub shows_takes : {low high : ℕ} {logged : List Commit} {shown : List Stood} {old new : LogState} {before now : D}
      → LogShows tells clock image_at low high logged shown old new before now
      → LogTakes tells clock image_at low high logged old new before now
  shows_takes shows commits was durable marks first ran passed = (shows commits was durable marks first ran passed).took

  -- no call
  pub shows_none : (low high : ℕ) (log : LogState) (bank : D)
      → LogShows tells clock image_at low high [] [] log log bank bank
  shows_none low high log bank commits was durable marks first ran passed = record {
    took = takes_none low high log bank commits was durable marks first ran passed;
    later = omega arith;
    each = tt;
  }

  -- a call that adds no commit, at the last epoch or a later one
  pub shows_move : {low high epoch : ℕ} {logged : List Commit} {shown : List Stood} {old mid new : LogState}
      {before between now : D} → low ≤ epoch → high ≤ epoch
      → LogShows tells clock image_at low high logged shown old mid before between
      → LogGoesOn tells clock image_at (epoch - 1) mid new between now
      → LogShows tells clock image_at low epoch logged shown old new before now
  shows_move {low = low} {high = high} {epoch = epoch} {logged = logged} {shown = shown} {mid = mid} {new = new}
      {before = before} {between = between} {now = now} least most shows goes commits was durable marks first ran
      passed =
      let s = shows commits was durable marks first ran passed in
      let took = s.took in
      let here : LogRan tells clock image_at (commits ++ logged) took.durable took.durable (marks ++ took.set)
      between between mid = record {
        grows = grows_none took.ran.journal_of.durable.begins;
        journal_of = took.ran.journal_of;
        lines = took.ran.lines;
        had = took.ran.had;
        last = took.ran.last;
      } in
      let went = goes (commits ++ logged) took.durable took.durable (marks ++ took.set) between here in
      record {
        took = record {
          durable = went.durable;
          set = took.set ++ went.set;
          of_epochs = all_append (λ (m : Mark). IsBeforeOne low epoch m.epoch) took.set went.set
              (set_wider low high epoch took.set most took.of_epochs)
              (all_weaker (λ (m : Mark). m.epoch ≡ Some (epoch - 1)) (λ (m : Mark). IsBeforeOne low epoch m.epoch)
              (λ m is. before_one low epoch epoch m.epoch least (omega arith) is) went.set went.of_epoch);
          rise = rise_more (low - 1) low high (epoch - 1) took.set went.set (omega (arith, least)) (omega (arith, most))
              took.of_epochs took.rise (rise_one (epoch - 1) went.set went.of_epoch);
          ran = subst (λ m. LogRan tells clock image_at (commits ++ logged) was went.durable m first now new)
              (append_assoc marks took.set went.set) record {
                grows = grows_then took.ran.grows went.ran.grows;
                journal_of = went.ran.journal_of;
                lines = went.ran.lines;
                had = went.ran.had;
                last = went.ran.last;
              };
        };
        later = omega (arith, s.later, went.ran.grows.later);
        each = subst (λ l. AllByRecursion (IsShownSince clock image_at went.durable (clock before) now l) shown)
            (append_assoc marks took.set went.set)
            (all_weaker (IsShownSince clock image_at took.durable (clock before) between (marks ++ took.set))
            (IsShownSince clock image_at went.durable (clock before) now ((marks ++ took.set) ++ went.set))
            (λ m stood. stands_on took.durable went.durable (clock before) between now (marks ++ took.set) went.set m
            went.ran.grows
            (each_of (IsMarkOf (commits ++ logged) took.durable) (marks ++ took.set) m.mark took.ran.had
            stood.among).within stood) shown s.each);
      }

  -- at epochs up to a later one
  pub shows_later : {low high later : ℕ} {logged : List Commit} {shown : List Stood} {old new : LogState}
      {before now : D}
      → high ≤ later → LogShows tells clock image_at low high logged shown old new before now
      → LogShows tells clock image_at low later logged shown old new before now
  shows_later {low = low} {high = high} {later = later} most shows commits was durable marks first ran passed =
      let s = shows commits was durable marks first ran passed in
      let took = s.took in
      record {
        took = record {
          durable = took.durable;
          set = took.set;
          of_epochs = set_wider low high later took.set most took.of_epochs;
          rise = took.rise;
          ran = took.ran;
        };
        later = s.later;
        each = s.each;
      }

  -- a commit of the last epoch or a later one, or none
  pub shows_commit : {low high : ℕ} {logged : List Commit} {shown : List Stood} {old mid new : LogState}
      {before now : D} (commit : Option Commit) → 1 ≤ high → low ≤ high
      → ((c : Commit) → commit ≡ Some c → high ≤ c.number.epoch)
      → LogShows tells clock image_at low high logged shown old mid before now
      → TakesCommit commit mid new
      → LogShows tells clock image_at low high (logged ++ option_to_list commit) shown old new before now
  shows_commit {low = low} {high = high} {logged = logged} {shown = shown} {old = old} {mid = mid} {before = before}
      {now = now} None some least of shows is =
      subst (λ l. LogShows tells clock image_at low high (logged ++ []) shown old l before now) (sym is)
      (subst (λ c. LogShows tells clock image_at low high c shown old mid before now) (sym (append-nil logged)) shows)
  shows_commit {low = low} {high = high} {logged = logged} {shown = shown} {new = new} {before = before} {now = now}
      (Some c) some least of shows puts =
      λ commits was durable marks first ran passed.
      let earlier : AllByRecursion (IsPassed low) marks = passed (some_pushed logged c) in
      let s = shows commits was durable marks first ran (λ some. earlier) in
      let took = s.took in
      let reached : high ≤ c.number.epoch = of c refl in
      let all : AllByRecursion (IsPassed c.number.epoch) (marks ++ took.set) =
      all_append (IsPassed c.number.epoch) marks took.set
      (all_weaker (IsPassed low) (IsPassed c.number.epoch)
      (λ m is. passed_later low c.number.epoch m.epoch (omega (arith, least, reached)) is) marks earlier)
      (passed_set low high c.number.epoch took.set some reached took.of_epochs) in
      record {
        took = record {
          durable = took.durable;
          set = took.set;
          of_epochs = took.of_epochs;
          rise = took.rise;
          ran = subst (λ l. LogRan tells clock image_at l was took.durable (marks ++ took.set) first now new)
              (append_assoc commits logged (c ∷ []))
              (log_put c took.ran puts.lines puts.durable puts.down puts.mark all);
        };
        later = s.later;
        each = s.each;
      }

  -- The log's mark is shown. All that is durable stays, so its moment is now; it counts all of it, unless no call was
  -- made of the log file.
  pub shows_one : {low high : ℕ} {logged : List Commit} {shown : List Stood} {old new : LogState} {before now : D}
      → (clock before < clock now → new.mark.length ≡ new.journal.durable)
      → LogShows tells clock image_at low high logged shown old new before now
      → LogShows tells clock image_at low high logged
      (shown ++ record { mark = new.mark; since = clock now } ∷ []) old new before now
  shows_one {shown = shown} {new = new} {before = before} {now = now} counts shows commits was durable marks first ran
      passed =
      let s = shows commits was durable marks first ran passed in
      let took = s.took in
      let start = ran.grows.later in
      let size = took.ran.journal_of.durable.size in
      let one : Stood = record { mark = new.mark; since = clock now } in
      record {
        took = took;
        later = s.later;
        each = all_push (IsShownSince clock image_at took.durable (clock before) now (marks ++ took.set)) shown one
            s.each (record {
              among = subst (λ (l : List Mark). Contains l new.mark) (sym took.ran.last.1)
                  (in_push_new new.mark took.ran.last.0);
              begun = s.later;
              come = omega arith;
              keeps = keeps_now clock image_at now (take new.mark.length took.durable)
                  (begins_less (image_at now (clock now)) (take new.mark.length took.durable) took.durable
                  took.ran.journal_of.durable.begins (front_take new.mark.length took.durable));
              pinned = λ late.
                  let all = counts late in
                  let whole : take new.mark.length took.durable ≡ took.durable =
                  take_all new.mark.length took.durable (omega (arith, all, size)) in
                  subst (AgreesOn (image_at now (clock now))) (sym whole)
                  (took.ran.grows.agrees (clock now) (omega (arith, start, late)) (omega arith));
            });
      }

  -- ---- behind a mark that was set before

  -- marks of the epoch before the first one, and then others
  one_then : {low high : ℕ} {commits : List Commit} {was : List ℕ} {marks : List Mark} (set : List Mark)
      {first now : D} {log : LogState} → 1 ≤ low → low ≤ high
      → AllByRecursion (λ (m : Mark). m.epoch ≡ Some (low - 1)) set
      → LogTook tells clock image_at low high commits was (marks ++ set) first now log
      → LogTook tells clock image_at low high commits was marks first now log
  one_then {low = low} {high = high} {commits = commits} {was = was} {marks = marks} set {first = first}
      {now = now} {log = log} some up of took = record {
        durable = took.durable;
        set = set ++ took.set;
        of_epochs = all_append (λ (m : Mark). IsBeforeOne low high m.epoch) set took.set
            (all_weaker (λ (m : Mark). m.epoch ≡ Some (low - 1)) (λ (m : Mark). IsBeforeOne low high m.epoch)
            (λ m is. before_one low high low m.epoch (omega arith) up is) set of) took.of_epochs;
        rise = rise_more (low - 1) low low (low - 1) set took.set (omega arith) (omega (arith, some))
            (all_weaker (λ (m : Mark). m.epoch ≡ Some (low - 1)) (λ (m : Mark). IsBeforeOne low low m.epoch)
            (λ m is. before_one low low low m.epoch (omega arith) (omega arith) is) set of) (rise_one (low - 1) set of)
            took.rise;
        ran = subst (λ m. LogRan tells clock image_at commits was took.durable m first now log)
            (append_assoc marks set took.set) took.ran;
      }

  -- A mark of the epoch before the first one was set, and nothing of the log file changed; then came those calls.
  pub takes_behind : {low high : ℕ} {logged : List Commit} {old mid new : LogState} {bank now : D} → 1 ≤ low
      → low ≤ high → LogGoesOn tells clock image_at (low - 1) old mid bank bank
      → LogTakes tells clock image_at low high logged mid new bank now
      → LogTakes tells clock image_at low high logged old new bank now
  takes_behind {low = low} some up goes takes commits was durable marks first ran passed =
      let went = goes commits was durable marks first ran in
      one_then went.set some up went.of_epoch (takes commits was went.durable (marks ++ went.set) first went.ran
      (λ any. all_append (IsPassed low) marks went.set (passed any) (passed_one low went.set some went.of_epoch)))

  -- and so with the marks that were shown since
  pub shows_behind : {low high : ℕ} {logged : List Commit} {shown : List Stood} {old mid new : LogState} {bank now : D}
      → 1 ≤ low → low ≤ high → LogGoesOn tells clock image_at (low - 1) old mid bank bank
      → LogShows tells clock image_at low high logged shown mid new bank now
      → LogShows tells clock image_at low high logged shown old new bank now
  unfolding one_then
  shows_behind {low = low} {shown = shown} {bank = bank} {now = now} some up goes shows commits was durable marks first
      ran passed =
      let went = goes commits was durable marks first ran in
      let s = shows commits was went.durable (marks ++ went.set) first went.ran
      (λ any. all_append (IsPassed low) marks went.set (passed any) (passed_one low went.set some went.of_epoch)) in
      record {
        took = one_then went.set some up went.of_epoch s.took;
        later = s.later;
        each = subst (λ l. AllByRecursion (IsShownSince clock image_at s.took.durable (clock bank) now l) shown)
            (append_assoc marks went.set s.took.set) s.each;
      }
