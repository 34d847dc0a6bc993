-- What attempts read, under a draw, a check and a decision.
use Rattle.std.proofs.Common.{◌≡◌, ℕ, true, false, not, true≢false, ◌⊎◌, inl, inr, List, [], ◌∷◌, ◌++◌, refl, sym, ap, ◌∙◌, subst, length, Some}
use Rattle.std.specs.List.{Contains, slice_get, filter}
use Rattle.std.specs.Prelude.{⊤}
use Rattle.serial_model.specs.declared.key.Key.{Key}
use Rattle.serial_model.specs.declared.number.Number.{Number}
use Rattle.serial_model.specs.Numbers.{below_then, is_below, IsBelow, not_below_itself, not_both_below, below_from_test}
use Rattle.homes.specs.declared.places.Content.{Content}
use Rattle.commit_core.specs.declared.part.Word.{Word}
use Rattle.commit_core.specs.declared.part.Part.{Part}
use Rattle.commit_core.specs.declared.attempt.Attempt.{Attempt}
use Rattle.commit_core.specs.declared.attempt.Check.{Check}
use Rattle.commit_core.specs.declared.seat.Stage.{Stage}
use Rattle.commit_core.specs.declared.seat.Stage.TheVariants.{Idle, Trying, Ended, Decided}
use Rattle.commit_core.specs.Keys.{nothing, writes_key}
use Rattle.commit_core.specs.Parts.{same_word, covers, found, with_part, IsSameOrAbsent, Vouches}
use Rattle.commit_core.specs.Moves.{Shows}
use Rattle.commit_core.specs.CoreState.{is_decided, is_given_up, is_checked, check_of}
use Rattle.commit_core.specs.Serial.{state_below, last_write}
use Rattle.commit_core.specs.Sound.Numbers.{OrderedNumbers, ChecksArePast, TriesGoOn}
use Rattle.commit_core.specs.Sound.Reads.{ReadsStayTrue, NoLowerWriter, CommitsAreChecked, IsPast, PartsArePast, KeptIsPast, IsVersion, TriesKept}
use Rattle.lists.specs.Elements.{in_none, in_push_cases, in_filter, at_push_old, at_push_new}
use Rattle.commit_core.specs.Lemmas.Numbers.{decided_cases, checked_cases, checked_old}
use Rattle.commit_core.specs.Lemmas.Versions.{IsAlone, content_after-drawn, content_after-decided, version_drawn, last_is_below}
use Rattle.commit_core.specs.Lemmas.Shows.{up_then_below}

-- ---- what shows the last write, with a number below an attempt that is above the horizon, is what the state below it has

-- a content that a part found, and that shows the last write, is the same below the number, or absent
pub shown_is_below : (horizon : Number) (opening : List (Key × Content)) (h : List Attempt) (decided : List Number) (t n : Number) (k : Key) (c : Content) → OrderedNumbers opening h decided t → IsBelow horizon n
    → IsBelow c.number n → Shows horizon c (last_write opening h decided k) → IsSameOrAbsent c (state_below opening h decided n k)
shown_is_below horizon opening h decided t n k c o above past (inl exact) =
    inl (exact ∙ last_is_below opening h decided n k (o.rising k) (subst (λ (x : Content). IsBelow x.number n) exact past))
shown_is_below horizon opening h decided t n k c o above past (inr lost) =
    let last = last_write opening h decided k in
    inr (
      ap (λ (x : Content). x.value) lost.0,
      ap (λ (x : Content). x.value) (sym (last_is_below opening h decided n k (o.rising k) (up_then_below last.number horizon n lost.1.past above))) ∙ lost.1.absent,
    )

-- ---- reads_stay_true

pub reads_drawn : (opening : List (Key × Content)) (h : List Attempt) (checks : List Check) (decided : List Number) (t : Number) (a : Attempt)
    → OrderedNumbers opening h decided t → a.number ≡ t → ChecksArePast checks t
    → ReadsStayTrue opening h checks decided → ReadsStayTrue opening (h ++ a ∷ []) checks decided
reads_drawn opening h checks decided t a o e past reads = λ b m part n c.
    elim (in_push_cases b a h m) [
      | inl old ↦ λ k v. subst (λ (y : Content). IsSameOrAbsent (found part k) y) (sym (content_after-drawn opening h decided t a (λ x. is_below x b.number) k o e)) (reads b old part n c k v)
      | inr new ↦ absurd (not_below_itself b.number t (sym (ap (λ (x : Attempt). x.number) new) ∙ e) (past b.number part.word c))
    ]

pub reads_decided : (opening : List (Key × Content)) (h : List Attempt) (checks : List Check) (decided : List Number) (a : Attempt) → IsAlone h a
    → ((b : Attempt) → Contains h b → IsBelow a.number b.number → (part : Part) → Contains b.parts part → is_checked checks b.number part.word ≡ true
    → (k : Key) → covers part k ≡ true → writes_key a.writes k ≡ false)
    → ReadsStayTrue opening h checks decided → ReadsStayTrue opening h checks (decided ++ a.number ∷ [])
reads_decided opening h checks decided a only lower reads = λ b m part n c k v.
    subst (λ (y : Content). IsSameOrAbsent (found part k) y)
    (sym (content_after-decided opening h decided a.number (λ x. is_below x b.number) k
    (λ x mx ex w l. true≢false (sym w ∙ ap (λ (y : Attempt). writes_key y.writes k) (only x mx ex) ∙ lower b m (below_from_test a.number b.number l) part n c k v))))
    (reads b m part n c k v)

pub reads_checked : (opening : List (Key × Content)) (h : List Attempt) (checks : List Check) (decided : List Number) (a : Attempt) (w : Word) → IsAlone h a
    → ((part : Part) → Contains a.parts part → part.word ≡ w → Vouches (state_below opening h decided a.number) part)
    → ReadsStayTrue opening h checks decided → ReadsStayTrue opening h (checks ++ check_of a.number w ∷ []) decided
reads_checked opening h checks decided a w only now reads = λ b m part n c.
    elim (checked_cases checks a.number w b.number part.word c) [
      | inl old ↦ reads b m part n old
      | inr new ↦
          let same = only b m (sym new.0) in
          subst (λ (x : Attempt). Vouches (state_below opening h decided x.number) part) (sym same) (now part (subst (λ (x : Attempt). Contains x.parts part) same n) (sym new.1))
    ]

-- ---- no_lower_writer

-- the attempt at a place of the history is the same after a draw
pub same_at : (h : List Attempt) (a : Attempt) (i : ℕ) (b c : Attempt) → slice_get h i ≡ Some b → slice_get (h ++ a ∷ []) i ≡ Some c → b ≡ c
same_at h a i b c e f = let both : Some b ≡ Some c = sym (at_push_old h i b a e) ∙ f in cc

-- the attempt of a stage is in the history
abbrev pub IsThere : List Attempt → Stage → Type 0
IsThere h Idle = ⊤
IsThere h (Trying i) = (b : Attempt) × (slice_get h i ≡ Some b)
IsThere h Ended = ⊤
IsThere h (Decided i) = (b : Attempt) × (slice_get h i ≡ Some b)

-- no part of a new attempt is checked
pub writer_drawn : (h : List Attempt) (checks : List Check) (t : Number) (a : Attempt) (stage : Stage) → a.number ≡ t → ChecksArePast checks t → IsThere h stage
    → NoLowerWriter h checks stage → NoLowerWriter (h ++ a ∷ []) checks stage
writer_drawn h checks t a Idle e past there w = tt
writer_drawn h checks t a (Trying i) e past there w = λ b at x m l part n c k v.
    elim (in_push_cases x a h m) [
      | inl old ↦ w b (there.1 ∙ ap (λ (y : Attempt). Some y) (same_at h a i there.0 b there.1 at)) x old l part n c k v
      | inr new ↦ absurd (not_below_itself x.number t (sym (ap (λ (y : Attempt). y.number) new) ∙ e) (past x.number part.word c))
    ]
writer_drawn h checks t a Ended e past there w = tt
writer_drawn h checks t a (Decided i) e past there w = tt

-- a new attempt has the greatest number
pub writer_draws : (h : List Attempt) (checks : List Check) (t : Number) (a : Attempt) → a.number ≡ t → ChecksArePast checks t → NoLowerWriter (h ++ a ∷ []) checks (Trying (length h))
writer_draws h checks t a e past = λ b at x m l part n c k v.
    let both : Some a ≡ Some b = sym (at_push_new h a) ∙ at in
    let same : a ≡ b = cc in
    absurd (not_both_below x.number t (past x.number part.word c) (subst (λ (y : Number). IsBelow y x.number) (ap (λ (y : Attempt). y.number) (sym same) ∙ e) l))

pub writer_checked : (h : List Attempt) (checks : List Check) (a : Attempt) (w : Word) (stage : Stage) → IsAlone h a
    → ((i : ℕ) (b : Attempt) → stage ≡ Trying i → slice_get h i ≡ Some b → IsBelow b.number a.number
    → (part : Part) → Contains a.parts part → part.word ≡ w → (k : Key) → covers part k ≡ true → writes_key b.writes k ≡ false)
    → NoLowerWriter h checks stage → NoLowerWriter h (checks ++ check_of a.number w ∷ []) stage
writer_checked h checks a w Idle only apart writer = tt
writer_checked h checks a w (Trying i) only apart writer = λ b at x m l part d c k v.
    elim (checked_cases checks a.number w x.number part.word c) [
      | inl old ↦ writer b at x m l part d old k v
      | inr new ↦
          let same = only x m (sym new.0) in
          apart i b refl at (subst (λ (y : Number). IsBelow b.number y) (sym new.0) l) part (subst (λ (y : Attempt). Contains y.parts part) same d) (sym new.1) k v
    ]
writer_checked h checks a w Ended only apart writer = tt
writer_checked h checks a w (Decided i) only apart writer = tt

-- ---- commits_are_checked

pub commits_drawn : (h : List Attempt) (checks : List Check) (decided : List Number) (a : Attempt) → is_decided decided a.number ≡ false
    → CommitsAreChecked h checks decided → CommitsAreChecked (h ++ a ∷ []) checks decided
commits_drawn h checks decided a e commits = λ b m d part n.
    elim (in_push_cases b a h m) [
      | inl old ↦ commits b old d part n
      | inr new ↦ absurd (true≢false (sym d ∙ ap (λ (x : Attempt). is_decided decided x.number) (sym new) ∙ e))
    ]

pub commits_checked : (h : List Attempt) (checks : List Check) (decided : List Number) (n : Number) (w : Word)
    → CommitsAreChecked h checks decided → CommitsAreChecked h (checks ++ check_of n w ∷ []) decided
commits_checked h checks decided n w commits = λ b m d part p. checked_old checks n w b.number part.word (commits b m d part p)

pub commits_decided : (h : List Attempt) (checks : List Check) (decided : List Number) (a : Attempt) → IsAlone h a
    → ((part : Part) → Contains a.parts part → is_checked checks a.number part.word ≡ true)
    → CommitsAreChecked h checks decided → CommitsAreChecked h checks (decided ++ a.number ∷ [])
commits_decided h checks decided a only all commits = λ b m d part n.
    elim (decided_cases decided a.number b.number d) [
      | inl old ↦ commits b m old part n
      | inr new ↦
          let same = only b m (sym new) in
          ap (λ (x : Attempt). is_checked checks x.number part.word) same ∙ all part (subst (λ (x : Attempt). Contains x.parts part) same n)
    ]

-- ---- parts_are_past and kept_is_past

version_or_drawn : (opening : List (Key × Content)) (h : List Attempt) (a : Attempt) (k : Key) (c : Content) → (c ≡ nothing) ⊎ IsVersion opening h k c → (c ≡ nothing) ⊎ IsVersion opening (h ++ a ∷ []) k c
version_or_drawn opening h a k c (inl none) = inl none
version_or_drawn opening h a k c (inr version) = inr (version_drawn opening h a k c version)

-- a part is still read before a number, or before a later one, once an attempt more is drawn
pub past_drawn : (opening : List (Key × Content)) (h : List Attempt) (a : Attempt) (t u : Number) (part : Part) → ((n : Number) → IsBelow n t → IsBelow n u)
    → IsPast opening h t part → IsPast opening (h ++ a ∷ []) u part
past_drawn opening h a t u part up past = record {
  number = λ k c. up (found part k).number (past.number k c);
  version = λ k c. version_or_drawn opening h a k (found part k) (past.version k c);
}

pub kept_drawn : (opening : List (Key × Content)) (h : List Attempt) (a : Attempt) (t u : Number) (kept : List Part) → IsBelow t u → KeptIsPast opening h t kept → KeptIsPast opening (h ++ a ∷ []) u kept
kept_drawn opening h a t u kept l past = λ part m. past_drawn opening h a t u part (λ n below. below_then n t u below l) (past part m)

pub kept_later : (opening : List (Key × Content)) (h : List Attempt) (t u : Number) (kept : List Part) → IsBelow t u → KeptIsPast opening h t kept → KeptIsPast opening h u kept
kept_later opening h t u kept l past = λ part m. record {
  number = λ k c. below_then (found part k).number t u ((past part m).number k c) l;
  version = (past part m).version;
}

-- a fact of each part that is kept, once another is kept too
pub kept_with : (P : Part → Type 0) (kept : List Part) (part : Part) → P part → ((q : Part) → Contains kept q → P q) → (q : Part) → Contains (with_part kept part) q → P q
kept_with P kept part new each q m =
    elim (in_push_cases q part (filter (λ x. not (same_word x.word part.word)) kept) m) [
      | inl old ↦ each q (in_filter (λ x. not (same_word x.word part.word)) q kept old)
      | inr is ↦ subst (λ (x : Part). P x) is new
    ]

pub kept_dropped : (opening : List (Key × Content)) (h : List Attempt) (t : Number) → KeptIsPast opening h t []
kept_dropped opening h t = λ part m. absurd (in_none part m)

pub parts_drawn : (opening : List (Key × Content)) (h : List Attempt) (t : Number) (a : Attempt) → a.number ≡ t → KeptIsPast opening h t a.parts
    → PartsArePast opening h → PartsArePast opening (h ++ a ∷ [])
parts_drawn opening h t a e kept parts = λ b m part n.
    elim (in_push_cases b a h m) [
      | inl old ↦ past_drawn opening h a b.number b.number part (λ x below. below) (parts b old part n)
      | inr new ↦ past_drawn opening h a t b.number part (λ x below. subst (λ (y : Number). IsBelow x y) (sym e ∙ ap (λ (y : Attempt). y.number) new) below)
          (kept part (subst (λ (x : Attempt). Contains x.parts part) (sym new) n))
    ]

-- ---- tries_kept and tries_go_on

pub tries_drawn : (h : List Attempt) (a : Attempt) (kept : List Part) (stage : Stage) → IsThere h stage → TriesKept h kept stage → TriesKept (h ++ a ∷ []) kept stage
tries_drawn h a kept Idle there tries = tt
tries_drawn h a kept (Trying i) there tries = λ b at. tries b (there.1 ∙ ap (λ (x : Attempt). Some x) (same_at h a i there.0 b there.1 at))
tries_drawn h a kept Ended there tries = tt
tries_drawn h a kept (Decided i) there tries = tt

pub tries_draw : (h : List Attempt) (a : Attempt) (kept : List Part) → a.parts ≡ kept → TriesKept (h ++ a ∷ []) kept (Trying (length h))
tries_draw h a kept e = λ b at.
    let both : Some a ≡ Some b = sym (at_push_new h a) ∙ at in
    let same : a ≡ b = cc in
    ap (λ (x : Attempt). x.parts) (sym same) ∙ e

pub goes_on_drawn : (h : List Attempt) (a : Attempt) (given_up : List Number) (stage : Stage) → IsThere h stage → TriesGoOn h given_up stage → TriesGoOn (h ++ a ∷ []) given_up stage
goes_on_drawn h a given_up Idle there goes = tt
goes_on_drawn h a given_up (Trying i) there goes = λ b at. goes b (there.1 ∙ ap (λ (x : Attempt). Some x) (same_at h a i there.0 b there.1 at))
goes_on_drawn h a given_up Ended there goes = tt
goes_on_drawn h a given_up (Decided i) there goes = tt

pub goes_on_draw : (h : List Attempt) (a : Attempt) (given_up : List Number) → is_given_up given_up a.number ≡ false → TriesGoOn (h ++ a ∷ []) given_up (Trying (length h))
goes_on_draw h a given_up e = λ b at.
    let both : Some a ≡ Some b = sym (at_push_new h a) ∙ at in
    let same : a ≡ b = cc in
    ap (λ (x : Attempt). is_given_up given_up x.number) (sym same) ∙ e
