-- Tries that committed.
use Rattle.std.proofs.Common.{◌≡◌, ◌≢◌, ◌⊎◌, inl, inr, ℕ, ◌+◌, ◌≤◌, ◌<◌, Bool, true, false, map, List, [], ◌∷◌, ◌++◌}
use Rattle.std.proofs.Common.{length, refl, sym, ap, ◌∙◌, subst, arith, append_assoc, drop, length-append}
use Rattle.std.specs.Prelude.{Contains}
use Rattle.std.proofs.lemmas.List.{append-nil, map-append}
use Rattle.std.proofs.lemmas.List.Sums.{sum_by-append}
use Rattle.std.proofs.lemmas.Bool.{or_left, or_right}
use Rattle.std.proofs.lemmas.List.Elements.{Contains-append_left}
use Rattle.lists.specs.Elements.{in_cases, in_head, in_none, in_tail}
use Rattle.homes.specs.Homes.{same_key}
use Rattle.homes.specs.Laws.{same_key-self}
use Rattle.lists.specs.Each.{all_append}
use Rattle.lists.specs.Fronts.{IsFront, front_rest, front_then}
use Rattle.serial_model.specs.declared.number.Change.{Change}
use Rattle.serial_model.specs.declared.number.Commit.{Commit}
use Rattle.serial_model.specs.declared.number.Number.{Number}
use Rattle.serial_model.specs.declared.op.Op.{Op}
use Rattle.serial_model.specs.declared.reply.Reply.{Reply}
use Rattle.serial_model.specs.declared.reply.Verdict.{Verdict}
use Rattle.std.specs.List.{AllByRecursion}
use Rattle.serial_model.specs.declared.reply.Verdict.TheVariants.{Done, Short, Over}
use Rattle.serial_model.specs.History.{Entry}
use Rattle.wire_form.specs.Items.{Rises}
use Rattle.serial_model.specs.Keys.{IsKeyBelow}
use Rattle.commit_core.specs.declared.attempt.Attempt.{Attempt}
use Rattle.commit_core.specs.declared.part.Part.{Part}
use Rattle.commit_core.specs.CoreState.{is_decided, mark_of}
use Rattle.commit_core.specs.Lemmas.Numbers.{decided_new}
use Rattle.commit_core.specs.Serial.{ReadsFrom, state_below}
use Rattle.serial_bridge.specs.Laws.{attempt_steps}
use Rattle.serial_bridge.specs.Transaction.{IsAttemptOf}
use Rattle.tx_sets.specs.declared.sets.Sets.{Sets}
use Rattle.tx_sets.specs.declared.writes.Write.{Write}
use Rattle.tx_sets.specs.Entries.{has_write}
use Rattle.engine_pages.specs.declared.layout.Layout.{Layout}
use Rattle.engine_pages.specs.declared.view.Touch.{Touch}
use Rattle.engine_pages.specs.declared.view.View.{View}
use Rattle.tx_runner.proofs.LastLaws.{last_by, last_since}
use Rattle.page_commit.specs.Below.{IsLastBetween}
use Rattle.engine_seats.specs.Counts.{AreSerial}
use Rattle.engine_pages.specs.Touches.{touch}
use Rattle.engine_pages.specs.Views.{seat_number}
use Rattle.page_commit.specs.Committing.{changes_of, kept_writes, touches_of, HasCommitted}
use Rattle.page_commit.specs.Running.{HasRun, HasEnded}
use Rattle.page_commit.specs.RunLaws.{commits_run, commits_end}
use Rattle.tx_runner.specs.Lines.{keeps, IsAnswered}
use Rattle.tx_runner.specs.LineEnds.{HasCommittedLine, IsAsAlone}
use Rattle.tx_runner.specs.Steps.{AreKeysOf, HasRunTo}
use Rattle.tx_runner.specs.Tries.{HasConflicted, HasDrawsLeft, IsClash, IsPlaced, IsWrittenBy, blames_of, drawn_for}
use Rattle.tx_runner.specs.Tries.{why_of, whys_of}
use Rattle.tx_runner.proofs.Refusals.{blames_then}
use Rattle.tx_runner.proofs.Standing.{StandsAs, left_before, seen_then}
use Rattle.tx_runner.proofs.Touched.{touches_then}

-- ---- the attempt is the line's

-- the operations of an entry, run with its replies
entry_run : (ops : List Op) (verdict : Verdict) (number : Number) (replies : List Reply) (sets : Sets) (v : View)
    (e : Entry)
    → IsAnswered ops verdict number replies e → HasRun ops replies sets v → HasRun e.ops e.replies sets v
entry_run ops verdict number replies sets v e is run =
    subst (λ l. HasRun l e.replies sets v) (sym is.ops) (subst (λ l. HasRun ops l sets v) (sym is.replies) run)

entry_ended : (ops : List Op) (verdict : Verdict) (number : Number) (replies : List Reply) (v : View) (e : Entry)
    → IsAnswered ops verdict number replies e → HasEnded ops verdict replies v → HasEnded e.ops e.verdict e.replies v
entry_ended ops verdict number replies v e is run =
    subst (λ l. HasEnded l e.verdict e.replies v) (sym is.ops)
    (subst (λ x. HasEnded ops x e.replies v) (sym is.verdict)
    (subst (λ l. HasEnded ops verdict l v) (sym is.replies) run))

done_is : (ops : List Op) (number : Number) (replies : List Reply) (changes : List Change) (sets : Sets)
    (v w : View) → changes ≡ changes_of sets.writes → HasRun ops replies sets v
    → (c : HasCommitted changes number v w) → (e : Entry) → IsAnswered ops Done number replies e
    → IsAttemptOf v.layout.decls e c.attempt
done_is ops number replies changes sets v w written run c e is =
    subst (λ n. (d : HasCommitted changes n v w) → IsAttemptOf v.layout.decls e d.attempt) is.number
    (subst (λ l. (d : HasCommitted l e.number v w) → IsAttemptOf v.layout.decls e d.attempt) (sym written)
    (λ d. commits_run e sets v w (entry_run ops Done number replies sets v e is run) is.verdict d)) c

ended_is : (ops : List Op) (verdict : Verdict) (number : Number) (replies : List Reply) (changes : List Change)
    (v w : View) → changes ≡ [] → HasEnded ops verdict replies v
    → (c : HasCommitted changes number v w) → (e : Entry) → IsAnswered ops verdict number replies e
    → IsAttemptOf v.layout.decls e c.attempt
ended_is ops verdict number replies changes v w none run c e is =
    subst (λ n. (d : HasCommitted changes n v w) → IsAttemptOf v.layout.decls e d.attempt) is.number
    (subst (λ l. (d : HasCommitted l e.number v w) → IsAttemptOf v.layout.decls e d.attempt) (sym none)
    (λ d. commits_end e v w (entry_ended ops verdict number replies v e is run) d)) c

attempt_is : (ops : List Op) (verdict : Verdict) (number : Number) (replies : List Reply) (changes : List Change)
    (sets : Sets) (v w : View) → changes ≡ changes_of (kept_writes (keeps verdict) sets.writes)
    → HasRunTo ops verdict replies sets v
    → (c : HasCommitted changes number v w) → (e : Entry) → IsAnswered ops verdict number replies e
    → IsAttemptOf v.layout.decls e c.attempt
attempt_is ops Done number replies changes sets v w written run c e is =
    done_is ops number replies changes sets v w written run c e is
attempt_is ops Short number replies changes sets v w written run c e is =
    ended_is ops Short number replies changes v w written run c e is
attempt_is ops Over number replies changes sets v w written run c e is =
    ended_is ops Over number replies changes v w written run c e is

dropped_is : (verdict : Verdict) (writes : List Write) (changes : List Change)
    → changes ≡ changes_of (kept_writes (keeps verdict) writes) → keeps verdict ≢ true → changes ≡ []
dropped_is Done writes changes written drops = absurd (drops refl)
dropped_is Short writes changes written drops = written
dropped_is Over writes changes written drops = written

in_front : (f l : List Attempt) (b : Attempt) → IsFront f l → Contains f b → Contains l b
in_front f l b front has = subst (λ (y : List Attempt). Contains y b) (front_rest f l front)
    (Contains-append_left f (drop (length f) l) b has)

-- ---- the locks of a commit

-- a lock is of one of the changes
of_change : (q : ℕ) (changes : List Change) (t : Touch) → Contains (touches_of q changes) t
    → (x : Change) × Contains changes x × (touch q x.key ≡ t)
of_change q [] t has = absurd (in_none t has)
of_change q (c ∷ changes) t has = elim (in_cases t (touch q c.key) (touches_of q changes) has) [
  | inl same ↦ (c, in_head c changes, same)
  | inr later ↦ let x = of_change q changes t later in (x.0, in_tail x.0 c changes x.1, x.2)
]

-- and a change is of one of the writes
change_written : (x : Change) (writes : List Write) → Contains (changes_of writes) x → has_write x.key writes ≡ true
change_written x [] has = absurd (in_none x has)
change_written x (w ∷ writes) has =
    elim (in_cases x (record { key = w.key; value = w.value }) (changes_of writes) has) [
      | inl same ↦ or_left (same_key w.key x.key) (has_write x.key writes)
          (subst (λ (y : Change). same_key w.key y.key ≡ true) same (same_key-self w.key))
      | inr later ↦ or_right (same_key w.key x.key) (has_write x.key writes) (change_written x writes later)
    ]

of_kept : (b : Bool) (x : Change) (writes : List Write) → Contains (changes_of (kept_writes b writes)) x
    → has_write x.key writes ≡ true
of_kept true x writes has = change_written x writes has
of_kept false x writes has = absurd (in_none x has)

in_either : (t : Touch) (xs ys : List Touch) → Contains (xs ++ ys) t → Contains xs t ⊎ Contains ys t
in_either t [] ys has = inr has
in_either t (x ∷ xs) ys has = elim (in_cases t x (xs ++ ys) has) [
  | inl e ↦ inl (subst (λ (u : Touch). Contains (x ∷ xs) u) e (in_head x xs))
  | inr more ↦ elim (in_either t xs ys more) [ inl old ↦ inl (in_tail t x xs old) | inr new ↦ inr new ]
]

-- ---- one try

-- the operations were run since the try began, and then it was committed
pub try_committed : (ops : List Op) (verdict : Verdict) (replies : List Reply) (commit : Commit) (sets : Sets)
    (u v w : View) → StandsAs ops u v → AreKeysOf v.layout ops sets → HasRunTo ops verdict replies sets v
    → commit.changes ≡ changes_of (kept_writes (keeps verdict) sets.writes)
    → Rises IsKeyBelow (map (λ (x : Change). x.key) commit.changes) → length commit.changes ≤ 16
    → HasCommitted commit.changes commit.number v w → v.steps ≤ w.steps → HasDrawsLeft u
    → ((part : Part) → Contains v.seat.kept part → IsLastBetween u v part)
    → HasCommittedLine ops 1 verdict replies commit u w
try_committed ops verdict replies commit sets u v w s keys run written rises few c took left last = record {
  began = left;
  losts = [];
  fewer = omega arith;
  each = tt;
  placed = tt;
  refused = c.refused ∙ s.refused ∙ sym (append-nil u.refused);
  over = c.over;
  layout = c.layout ∙ s.layout;
  role = c.role ∙ s.role;
  seen = seen_then u v w s.seen c.seen;
  since = let before = s.since in omega (arith, before, took);
  marks = c.marks ∙ s.marks;
  attempt = c.attempt;
  mine = c.mine ∙ ap (λ l. l ++ c.attempt ∷ []) s.mine;
  draws = let one = c.draws in let same = s.draws in omega (arith, one, same);
  blamed = c.blamed ∙ s.blamed ∙ sym (append-nil u.blamed);
  touched = λ t has. elim (in_either t v.touched (touches_of (seat_number v.role) commit.changes)
      (subst (λ (l : List Touch). Contains l t) c.touched has)) [
        | inl before ↦ s.touched t before
        | inr own ↦
            let x = of_change (seat_number v.role) commit.changes t own in
            inr (
              ap (λ (y : Touch). y.seat) (sym x.2) ∙ ap seat_number s.role,
              inl (subst (IsWrittenBy ops) (ap (λ (y : Touch). y.key) x.2)
                  (keys.writes x.0.key (of_kept (keeps verdict) x.0 sets.writes
                  (subst (λ (l : List Change). Contains l x.0) written x.1)))),
            )
      ];
  seat = c.seat ∙ ap seat_number s.role;
  numbered = c.numbered;
  writes = c.writes;
  dropped = dropped_is verdict sets.writes commit.changes written;
  all = c.all;
  order = c.order;
  draw = c.draw ∙ ap (λ (l : Layout). l.first.draw + length c.all) s.layout;
  drawn = c.drawn;
  counts = subst (λ l. is_decided l commit.number ≡ true) (sym c.decided)
      (decided_new c.earlier commit.number commit.number refl);
  above = λ b has. c.above b (in_front u.history v.history b s.seen.history has);
  marked = λ e is. c.marked e (ap mark_of s.marks ∙ is);
  small = c.small;
  rising = rises;
  most = few;
  reads = subst (λ (l : Layout). ReadsFrom (state_below l.opening w.history w.decided commit.number) c.attempt) s.layout
      c.reads;
  parts = λ part has. last_by u v w part c.seen
      (last part (subst (λ (l : List Part). Contains l part) c.parts has));
  of = of;
  now = λ e is t agrees. attempt_steps u.layout.decls t
      (state_below u.layout.opening w.history w.decided c.attempt.number) e c.attempt agrees
      (subst (λ n. ReadsFrom (state_below u.layout.opening w.history w.decided n) c.attempt) (sym c.numbered)
      (subst (λ (l : Layout). ReadsFrom (state_below l.opening w.history w.decided commit.number) c.attempt) s.layout
      c.reads)) (of e is);
  later = λ history decided serial has chosen e is t agrees. attempt_steps u.layout.decls t
      (state_below u.layout.opening history decided c.attempt.number) e c.attempt agrees
      (serial.reads c.attempt has (ap (λ n. is_decided decided n) c.numbered ∙ chosen)) (of e is);
}
  where
    of : (e : Entry) → IsAnswered ops verdict commit.number replies e → IsAttemptOf u.layout.decls e c.attempt
    of e is = subst (λ (l : Layout). IsAttemptOf l.decls e c.attempt) s.layout
        (attempt_is ops verdict commit.number replies commit.changes sets v w written run c e is)

-- ---- tries one after another

-- some tries were refused with Conflict, and the one behind them was committed
pub line_committed : (ops : List Op) (done tries : ℕ) (verdict : Verdict) (replies : List Reply) (commit : Commit)
    (u v w : View) → done < tries → HasConflicted ops done u v → HasCommittedLine ops 1 verdict replies commit v w
    → HasCommittedLine ops tries verdict replies commit u w
line_committed ops done tries verdict replies commit u v w less h k = record {
  began = left_before u v h.tried.layout h.tried.seen k.began;
  losts = h.losts ++ k.losts;
  fewer = omega (arith, less, h.count, k.fewer, length-append h.losts k.losts);
  each = all_append (IsClash ops) h.losts k.losts h.each k.each;
  placed = all_append (IsPlaced u.layout) h.losts k.losts h.placed
      (subst (λ (y : Layout). AllByRecursion (IsPlaced y) k.losts) h.tried.layout k.placed);
  refused = k.refused ∙ ap (λ l. l ++ whys_of k.losts) h.tried.refused
      ∙ append_assoc u.refused (whys_of h.losts) (whys_of k.losts)
      ∙ ap (λ l. u.refused ++ l) (sym (map-append why_of h.losts k.losts));
  over = k.over;
  layout = k.layout ∙ h.tried.layout;
  role = k.role ∙ h.tried.role;
  seen = record {
    history = front_then u.history v.history w.history h.tried.seen.history k.seen.history;
    decided = front_then u.decided v.decided w.decided h.tried.seen.decided k.seen.decided;
  };
  since = let before = h.tried.since in let later = k.since in omega (arith, before, later);
  marks = k.marks ∙ h.tried.marks;
  attempt = k.attempt;
  mine = k.mine ∙ ap (λ l. l ++ k.attempt ∷ []) h.tried.mine;
  draws =
      let first = h.tried.draws in let second = k.draws in
      omega (arith, first, second, sum_by-append drawn_for h.losts k.losts);
  blamed = blames_then (seat_number u.role) h.losts k.losts u.blamed v.blamed w.blamed h.tried.blamed
      (k.blamed ∙ ap (λ (q : ℕ). v.blamed ++ blames_of q k.losts) (ap seat_number h.tried.role));
  touched = touches_then ops u v w h.tried.layout h.tried.role h.tried.touched k.touched;
  seat = k.seat ∙ ap seat_number h.tried.role;
  numbered = k.numbered;
  writes = k.writes;
  dropped = k.dropped;
  all = k.all;
  order = k.order;
  draw = k.draw ∙ ap (λ (l : Layout). l.first.draw + length k.all) h.tried.layout;
  drawn = k.drawn;
  counts = k.counts;
  above = λ b has. k.above b (in_front u.history v.history b h.tried.seen.history has);
  marked = λ e is. k.marked e (ap mark_of h.tried.marks ∙ is);
  small = k.small;
  rising = k.rising;
  most = k.most;
  reads = subst (λ (l : Layout). ReadsFrom (state_below l.opening w.history w.decided commit.number) k.attempt)
      h.tried.layout k.reads;
  parts = λ part has. last_since u v w part h.tried.layout h.tried.seen (k.parts part has);
  of = subst (λ (l : Layout). (e : Entry) → IsAnswered ops verdict commit.number replies e
      → IsAttemptOf l.decls e k.attempt) h.tried.layout k.of;
  now = subst (λ (l : Layout). (e : Entry) → IsAnswered ops verdict commit.number replies e
      → IsAsAlone l.decls l.opening w.history w.decided k.attempt e) h.tried.layout k.now;
  later = subst (λ (l : Layout). (history : List Attempt) (decided : List Number) → AreSerial l.opening history decided
      → Contains history k.attempt → is_decided decided commit.number ≡ true
      → (e : Entry) → IsAnswered ops verdict commit.number replies e
      → IsAsAlone l.decls l.opening history decided k.attempt e) h.tried.layout k.later;
}
