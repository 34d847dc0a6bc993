-- What a round stored, of which pages, and what it counts of the closed log files.
use Rattle.std.proofs.Common.{◌≡◌, ◌⊎◌, ◌∙◌, ◌≤◌, ◌<◌, ◌+◌, sym, ap, subst, refl, inl, inr, ℕ, zero, suc, Bool, true}
use Rattle.std.proofs.Common.{false, cond, true≢false, arith, List, [], ◌∷◌, ◌++◌, length, Option, Some, None}
use Rattle.std.specs.Prelude.{◌||◌, MatchBool, flat_map, fold, map, nat_lt, option_to_list, replicate, slice_get, take, drop}
use Rattle.std.specs.List.{AllByRecursion, Contains, list_any}
use Rattle.std.proofs.lemmas.Bool.Decides.{nat_tests}
use Rattle.std.proofs.lemmas.List.{length-append}
use Rattle.lists.specs.Each.{all_append, all_weaker}
use Rattle.lists.specs.Elements.{in_cases, in_head, in_none, in_tail}
use Rattle.serial_model.specs.declared.number.Commit.{Commit}
use Rattle.script_grammar.specs.declared.lines.KeeperLine.{KeeperLine}
use Rattle.script_grammar.specs.declared.lines.KeeperLine.TheVariants as asks
use Rattle.wire_form.specs.LineLaws.{length-line_bytes}
use Rattle.wire_form.specs.LogFile.{lines_bytes}
use Rattle.wire_form.specs.LogLine.{line_bytes}
use Rattle.wire_form.specs.declared.savepoint.Savepoint.{Savepoint}
use Rattle.log_writer.specs.Points.{point_of, sequence_of}
use Rattle.log_writer.specs.declared.saved.Saved.{Saved}
use Rattle.joint_crashes.specs.Marks.{IsAbove, Marks}
use Rattle.tx_script.specs.Causes.{AnswerCause, AnswersCaused, IsAnswerTo, KeeperAt, keeper_after, some_counted}
use Rattle.tx_script.specs.Run.{Ran}
use Rattle.tx_script.specs.declared.answer.Answer.{Answer}
use Rattle.tx_script.specs.declared.answer.Answer.TheVariants as answers
use Rattle.worker_logs.specs.declared.savepoints.Beside.{Beside}
use Rattle.worker_logs.specs.Rows.{NeverFall}
use Rattle.round_engine.specs.Saves.{AreSaved, AreSavedIn, beside_after, beside_at_end, newest_after}

-- ---- snapshots among the answers

-- a line's answer has its cause, unless it wasn't run
one_of : (b : Bool) (A B : Type 0) → MatchBool b A B → A ⊎ B
one_of true A B is = inl is
one_of false A B is = inr is

-- a snapshot is made only where bytes of the closed log files count
snap_needs : (ran : Ran) (k : KeeperAt) (line : KeeperLine) (epoch new : ℕ)
    → AnswerCause ran k line (answers.Snap epoch new) → k.counted ≡ true
snap_needs ran k line epoch new caused =
    elim (one_of k.refused (answers.Snap epoch new ≡ answers.Unrun) (IsAnswerTo ran k line (answers.Snap epoch new))
    caused) [
      | inl unrun ↦ absurd cc
      | inr is ↦ of line is
    ]
  where
    of : (line : KeeperLine) → IsAnswerTo ran k line (answers.Snap epoch new) → k.counted ≡ true
    of asks.Glean is = is.0
    of asks.Epoch is = absurd is
    of asks.Save is = absurd is
    of asks.Drop is = absurd is

-- a place to stand
abbrev any : KeeperAt
any = record { epoch = 0; sequence = 0; pages = 0; counted = false; refused = false }

-- what counts is as before behind an answer, or it is a snapshot
data Behind (k : KeeperAt) (b : Beside) (answer : Answer) : Type 0 where
  still : (keeper_after k answer).counted ≡ k.counted → beside_after b answer ≡ b → Behind k b answer
  made : (epoch new : ℕ) → answer ≡ answers.Snap epoch new → Behind k b answer

behind : (k : KeeperAt) (b : Beside) (answer : Answer) → Behind k b answer
behind k b (answers.Snap epoch new) = made epoch new refl
behind k b (answers.Epoch epoch) = still refl refl
behind k b (answers.Save epoch) = still refl refl
behind k b answers.Empty = still refl refl
behind k b answers.SnapFull = still refl refl
behind k b answers.Deep = still refl refl
behind k b (answers.Drop dropped kept) = still refl refl
behind k b answers.Device = still refl refl
behind k b answers.Damaged = still refl refl
behind k b answers.Memory = still refl refl
behind k b answers.Limit = still refl refl
behind k b answers.Unrun = still refl refl

-- where nothing counts none is made
pub none_made : (ran : Ran) (k : KeeperAt) (b : Beside) (lines : List KeeperLine) (said : List Answer)
    → k.counted ≡ false → AnswersCaused ran k lines said → beside_at_end b said ≡ b
none_made ran k b [] [] none caused = refl
none_made ran k b (line ∷ lines) [] none caused = absurd caused
none_made ran k b [] (answer ∷ more) none caused = absurd caused
none_made ran k b (line ∷ lines) (answer ∷ more) none caused = elim (behind k b answer) [
  | still counted is ↦
      ap (λ (c : Beside). beside_at_end c more) is
      ∙ none_made ran (keeper_after k answer) b lines more (counted ∙ none) caused.1
  | made epoch new is ↦ absurd (true≢false (sym (snap_needs ran k line epoch new
      (subst (AnswerCause ran k line) is caused.0)) ∙ none))
]

-- one that was made needed it
pub made_counted : (ran : Ran) (k : KeeperAt) (b : Beside) (lines : List KeeperLine) (said : List Answer)
    (epoch new : ℕ) → AnswersCaused ran k lines said → Contains said (answers.Snap epoch new) → k.counted ≡ true
made_counted ran k b [] [] epoch new caused has = absurd (in_none (answers.Snap epoch new) has)
made_counted ran k b (line ∷ lines) [] epoch new caused has = absurd caused
made_counted ran k b [] (answer ∷ more) epoch new caused has = absurd caused
made_counted ran k b (line ∷ lines) (answer ∷ more) epoch new caused has =
    elim (in_cases (answers.Snap epoch new) answer more has) [
      | inl here ↦ snap_needs ran k line epoch new (subst (AnswerCause ran k line) here caused.0)
      | inr later ↦
          let rest = made_counted ran (keeper_after k answer) b lines more epoch new caused.1 later in
          elim (behind k b answer) [
            | still counted is ↦ sym counted ∙ rest
            | made e n is ↦ snap_needs ran k line e n (subst (AnswerCause ran k line) is caused.0)
          ]
    ]

-- whether one is among them
pub snap_in : (said : List Answer) → ((epoch : ℕ) × (new : ℕ) × Contains said (answers.Snap epoch new))
    ⊎ ((epoch new : ℕ) → Contains said (answers.Snap epoch new) → ⊥)
snap_in [] = inr (λ epoch new has. in_none (answers.Snap epoch new) has)
snap_in (answer ∷ more) = elim (snap_in more) [
  | inl later ↦ inl (later.0, later.1, in_tail (answers.Snap later.0 later.1) answer more later.2)
  | inr none ↦ of answer none
]
  where
    other : (answer : Answer) → ((epoch new : ℕ) → answer ≡ answers.Snap epoch new → ⊥)
        → ((epoch new : ℕ) → Contains more (answers.Snap epoch new) → ⊥)
        → ((epoch : ℕ) × (new : ℕ) × Contains (answer ∷ more) (answers.Snap epoch new))
        ⊎ ((epoch new : ℕ) → Contains (answer ∷ more) (answers.Snap epoch new) → ⊥)
    other answer differs none = inr (λ epoch new has. elim (in_cases (answers.Snap epoch new) answer more has) [
      | inl here ↦ differs epoch new here
      | inr later ↦ none epoch new later
    ])

    of : (answer : Answer) → ((epoch new : ℕ) → Contains more (answers.Snap epoch new) → ⊥)
        → ((epoch : ℕ) × (new : ℕ) × Contains (answer ∷ more) (answers.Snap epoch new))
        ⊎ ((epoch new : ℕ) → Contains (answer ∷ more) (answers.Snap epoch new) → ⊥)
    of (answers.Snap epoch new) none = inl (epoch, new, in_head (answers.Snap epoch new) more)
    of (answers.Epoch epoch) none = other (answers.Epoch epoch) (λ e n is. cc) none
    of (answers.Save epoch) none = other (answers.Save epoch) (λ e n is. cc) none
    of answers.Empty none = other answers.Empty (λ e n is. cc) none
    of answers.SnapFull none = other answers.SnapFull (λ e n is. cc) none
    of answers.Deep none = other answers.Deep (λ e n is. cc) none
    of (answers.Drop dropped kept) none = other (answers.Drop dropped kept) (λ e n is. cc) none
    of answers.Device none = other answers.Device (λ e n is. cc) none
    of answers.Damaged none = other answers.Damaged (λ e n is. cc) none
    of answers.Memory none = other answers.Memory (λ e n is. cc) none
    of answers.Limit none = other answers.Limit (λ e n is. cc) none
    of answers.Unrun none = other answers.Unrun (λ e n is. cc) none

-- ---- what counts beside behind them

-- without one it is as it was
pub none_same : (b : Beside) (said : List Answer) → ((epoch new : ℕ) → Contains said (answers.Snap epoch new) → ⊥)
    → beside_at_end b said ≡ b
none_same b [] none = refl
none_same b (answer ∷ more) none = elim (behind any b answer) [
  | still counted is ↦
      ap (λ (c : Beside). beside_at_end c more) is
      ∙ none_same b more (λ epoch new has. none epoch new (in_tail (answers.Snap epoch new) answer more has))
  | made epoch new is ↦ absurd (none epoch new (subst (Contains (answer ∷ more)) is (in_head answer more)))
]

-- nothing of the closed log files goes on to count
zero_stays : (b : Beside) (said : List Answer) → b.closed ≡ replicate 8 0
    → (beside_at_end b said).closed ≡ replicate 8 0
zero_stays b [] none = none
zero_stays b (answer ∷ more) none = elim (behind any b answer) [
  | still counted is ↦ ap (λ (c : Beside). (beside_at_end c more).closed) is ∙ zero_stays b more none
  | made epoch new is ↦
      ap (λ a. (beside_at_end (beside_after b a) more).closed) is
      ∙ zero_stays (beside_after b (answers.Snap epoch new)) more refl
]

-- and nothing does behind a snapshot
pub made_zero : (b : Beside) (said : List Answer) (epoch new : ℕ) → Contains said (answers.Snap epoch new)
    → (beside_at_end b said).closed ≡ replicate 8 0
made_zero b [] epoch new has = absurd (in_none (answers.Snap epoch new) has)
made_zero b (answer ∷ more) epoch new has = elim (in_cases (answers.Snap epoch new) answer more has) [
  | inl here ↦
      ap (λ a. (beside_at_end (beside_after b a) more).closed) here
      ∙ zero_stays (beside_after b (answers.Snap epoch new)) more refl
  | inr later ↦ made_zero (beside_after b answer) more epoch new later
]

-- what the maintenance thread stands at says whether something does
pub counted_at_end : (k : KeeperAt) (b : Beside) (said : List Answer) → k.counted ≡ some_counted b.closed
    → (fold keeper_after k said).counted ≡ some_counted (beside_at_end b said).closed
counted_at_end k b [] is = is
counted_at_end k b (answer ∷ more) is = elim (behind k b answer) [
  | still counted alike ↦ counted_at_end (keeper_after k answer) (beside_after b answer) more
      (counted ∙ is ∙ ap (λ (c : Beside). some_counted c.closed) (sym alike))
  | made epoch new snap ↦ counted_at_end (keeper_after k answer) (beside_after b answer) more
      (subst (λ a. (keeper_after k a).counted ≡ some_counted (beside_after b a).closed) (sym snap) refl)
]

neither_of : (a b : Bool) → a || b ≡ false → (a ≡ false) × (b ≡ false)
neither_of true b is = absurd cc
neither_of false b is = (refl, is)

-- the side and the number of workers stay
pub growing_stays : (b : Beside) (said : List Answer) → (beside_at_end b said).growing ≡ b.growing
growing_stays b [] = refl
growing_stays b (answer ∷ more) = elim (behind any b answer) [
  | still counted is ↦
      growing_stays (beside_after b answer) more ∙ ap (λ (c : Beside). c.growing) is
  | made epoch new is ↦
      growing_stays (beside_after b answer) more ∙ ap (λ a. (beside_after b a).growing) is
]

pub closed_eight : (b : Beside) (said : List Answer) → length b.closed ≡ 8
    → length (beside_at_end b said).closed ≡ 8
closed_eight b [] eight = eight
closed_eight b (answer ∷ more) eight = elim (behind any b answer) [
  | still counted is ↦
      closed_eight (beside_after b answer) more (ap (λ (c : Beside). length c.closed) is ∙ eight)
  | made epoch new is ↦
      closed_eight (beside_after b answer) more (ap (λ a. length (beside_after b a).closed) is)
]

-- where nothing counts each length is 0
pub zero_at : (counted : List ℕ) (w n : ℕ) → some_counted counted ≡ false → slice_get counted w ≡ Some n → n ≡ 0
zero_at [] w n none at = absurd cc
zero_at (x ∷ xs) zero n none at =
    let both = neither_of (nat_lt 0 x) (some_counted xs) none in
    let here : x ≡ n = cc in
    let is : x ≡ 0 = (let test = both.0 in grind (arith, nat_tests)) in
    sym here ∙ is
zero_at (x ∷ xs) (suc w) n none at = zero_at xs w n (neither_of (nat_lt 0 x) (some_counted xs) none).1 at

pub zeros : (counted : List ℕ) → some_counted counted ≡ false → counted ≡ replicate (length counted) 0
zeros [] none = refl
zeros (x ∷ xs) none =
    let both = neither_of (nat_lt 0 x) (some_counted xs) none in
    let is : x ≡ 0 = (let test = both.0 in grind (arith, nat_tests)) in
    ap (λ y. y ∷ xs) is ∙ ap (λ ys. 0 ∷ ys) (zeros xs both.1)

-- ---- what was stored, by what counted beside

-- by what counted as the round began, or behind its lines
abbrev pub ByEither : (Beside → Saved → Type 0) → Beside → Beside → Saved → Type 0
ByEither By b c saved = By b saved ⊎ By c saved

-- of one that is both
by_one : (By : Beside → Saved → Type 0) (b c d : Beside) (saved : List Saved) → c ≡ b
    → AllByRecursion (ByEither By b c) saved → AllByRecursion (ByEither By d b) saved
by_one By b c d saved alike all = all_weaker (ByEither By b c) (ByEither By d b) (λ s is. elim is [
  | inl first ↦ inr first
  | inr second ↦ inr (subst (λ (x : Beside). By x s) alike second)
]) saved all

by_lines : (By : Beside → Saved → Type 0) (ran : Ran) (k : KeeperAt) (b : Beside) (lines : List KeeperLine)
    (said : List Answer) (stored : List Saved) → AnswersCaused ran k lines said → AreSavedIn By b said stored
    → AllByRecursion (ByEither By b (beside_at_end b said)) stored
by_lines By ran k b [] [] stored caused saved = subst (AllByRecursion (ByEither By b b)) (sym saved) tt
by_lines By ran k b (line ∷ lines) [] stored caused saved = absurd caused
by_lines By ran k b [] (answer ∷ more) stored caused saved = absurd caused
by_lines By ran k b (line ∷ lines) (answers.Save epoch ∷ more) stored caused saved =
    subst (AllByRecursion (ByEither By b (beside_at_end b more))) (sym saved.2) (
      inl saved.3,
      by_lines By ran (keeper_after k (answers.Save epoch)) b lines more saved.1 caused.1 saved.4,
    )
by_lines By ran k b (line ∷ lines) (answers.Snap epoch new ∷ more) stored caused saved =
    let after : Beside = beside_after b (answers.Snap epoch new) in
    let alike : beside_at_end after more ≡ after =
    none_made ran (keeper_after k (answers.Snap epoch new)) after lines more refl caused.1 in
    let all = by_lines By ran (keeper_after k (answers.Snap epoch new)) after lines more stored caused.1 saved in
    subst (λ (c : Beside). AllByRecursion (ByEither By b c) stored) (sym alike)
    (by_one By after (beside_at_end after more) b stored alike all)
by_lines By ran k b (line ∷ lines) (answers.Epoch epoch ∷ more) stored caused saved =
    by_lines By ran (keeper_after k (answers.Epoch epoch)) b lines more stored caused.1 saved
by_lines By ran k b (line ∷ lines) (answers.Empty ∷ more) stored caused saved =
    by_lines By ran (keeper_after k answers.Empty) b lines more stored caused.1 saved
by_lines By ran k b (line ∷ lines) (answers.SnapFull ∷ more) stored caused saved =
    by_lines By ran (keeper_after k answers.SnapFull) b lines more stored caused.1 saved
by_lines By ran k b (line ∷ lines) (answers.Deep ∷ more) stored caused saved =
    by_lines By ran (keeper_after k answers.Deep) b lines more stored caused.1 saved
by_lines By ran k b (line ∷ lines) (answers.Drop dropped kept ∷ more) stored caused saved =
    by_lines By ran (keeper_after k (answers.Drop dropped kept)) b lines more stored caused.1 saved
by_lines By ran k b (line ∷ lines) (answers.Device ∷ more) stored caused saved =
    by_lines By ran (keeper_after k answers.Device) b lines more stored caused.1 saved
by_lines By ran k b (line ∷ lines) (answers.Damaged ∷ more) stored caused saved =
    by_lines By ran (keeper_after k answers.Damaged) b lines more stored caused.1 saved
by_lines By ran k b (line ∷ lines) (answers.Memory ∷ more) stored caused saved =
    by_lines By ran (keeper_after k answers.Memory) b lines more stored caused.1 saved
by_lines By ran k b (line ∷ lines) (answers.Limit ∷ more) stored caused saved =
    by_lines By ran (keeper_after k answers.Limit) b lines more stored caused.1 saved
by_lines By ran k b (line ∷ lines) (answers.Unrun ∷ more) stored caused saved =
    by_lines By ran (keeper_after k answers.Unrun) b lines more stored caused.1 saved

pub by_either : (By : Beside → Saved → Type 0) (ran : Ran) (k : KeeperAt) (b : Beside) (lines : List KeeperLine)
    (said : List Answer) (begun : List Saved) → AnswersCaused ran k lines said → AreSaved By b said begun
    → AllByRecursion (ByEither By b (beside_at_end b said)) begun
by_either By ran k b lines said begun caused saved =
    subst (AllByRecursion (ByEither By b (beside_at_end b said))) (sym saved.all)
    (all_append (ByEither By b (beside_at_end b said)) saved.lines saved.rest
    (by_lines By ran k b lines said saved.lines caused saved.told)
    (all_weaker (By (beside_at_end b said)) (ByEither By b (beside_at_end b said)) (λ s is. inr is) saved.rest
    saved.behind))

-- ---- the newest savepoint

-- the last of some epochs, or else this one
abbrev pub last_in : ℕ → List ℕ → ℕ
last_in saved epochs = fold (λ _ epoch. epoch) saved epochs

-- Where the newest savepoint gets to: it is the one that there was, or the last one that was stored.
pub record NewestOf (Q : Saved → Type 0) (p : Savepoint) (newest : Option Savepoint) (epochs : List ℕ) : Type 0 where
  pub point : Savepoint
  pub is : newest ≡ Some point
  pub epoch : point.epoch ≡ last_in p.epoch epochs
  pub which : (point ≡ p) ⊎ ((sequence : ℕ) × (saved : Saved) × (point ≡ point_of sequence saved) × Q saved)

pub newest_of : (Q : Saved → Type 0) (newest : Option Savepoint) (p : Savepoint) (stored : List Saved)
    → newest ≡ Some p → AllByRecursion Q stored
    → NewestOf Q p (newest_after newest stored) (map (λ (s : Saved). s.epoch) stored)
newest_of Q newest p [] is all = record { point = p; is = is; epoch = refl; which = inl refl }
newest_of Q newest p (saved ∷ more) is all =
    let next : Savepoint = point_of (sequence_of newest + 1) saved in
    let rest = newest_of Q (Some next) next more refl all.1 in
    record {
      point = rest.point;
      is = rest.is;
      epoch = rest.epoch;
      which = elim rest.which [
        | inl own ↦ inr (sequence_of newest + 1, saved, own, all.0)
        | inr later ↦ inr later
      ];
    }

-- epochs that never fall end no earlier than they begin
pub last_in_later : (low : ℕ) (stored more : List Saved)
    → NeverFall low (map (λ (s : Saved). s.epoch) (stored ++ more))
    → low ≤ last_in low (map (λ (s : Saved). s.epoch) stored)
last_in_later low [] more rise = omega arith
last_in_later low (saved ∷ stored) more rise = omega (arith, rise.0, last_in_later saved.epoch stored more rise.1)

-- ---- commits and bytes

-- commits without bytes are none
pub no_commits : (commits : List Commit) → length (lines_bytes commits) ≡ 0 → commits ≡ []
no_commits [] none = refl
no_commits (c ∷ cs) none =
    absurd (omega (arith, none, length-append (line_bytes c) (lines_bytes cs), length-line_bytes c))

-- no bytes cover commits up to an epoch only where there are none
pub covers_none : (commits : List Commit) (epoch : ℕ) → Marks commits epoch 0
    → AllByRecursion (λ c. c.number.epoch ≤ epoch) commits → commits ≡ []
covers_none commits epoch marks by = of commits marks.front (no_commits (take marks.front commits) (ap length marks.lines))
    marks.rest by
  where
    of : (commits : List Commit) (front : ℕ) → take front commits ≡ [] → AllByRecursion (IsAbove epoch) (drop front commits)
        → AllByRecursion (λ c. c.number.epoch ≤ epoch) commits → commits ≡ []
    of [] front none above by = refl
    of (c ∷ cs) zero none above by = absurd (omega (arith, above.0, by.0))
    of (c ∷ cs) (suc front) none above by = absurd cc
