-- Locks and attempts of a seat, when what stands at one key, the history or the decided numbers change.
use Rattle.std.proofs.Common.{◌≡◌, ℕ, ◌<◌, true, false, not, true≢false, inl, inr, List, [], ◌∷◌, ◌++◌, refl, sym, ap, ◌∙◌, subst}
use Rattle.std.proofs.lemmas.Bool.{false_from_ne_true, eq-eqb, eqb-true}
use Rattle.std.specs.List.{filter}
use Rattle.serial_model.specs.declared.key.Key.{Key}
use Rattle.serial_model.specs.declared.number.Number.{Number}
use Rattle.homes.specs.declared.places.Holder.{Holder}
use Rattle.homes.specs.declared.places.Holder.TheVariants.{Free, Held, Dead}
use Rattle.commit_core.specs.declared.place.Place.{Place}
use Rattle.commit_core.specs.declared.attempt.Attempt.{Attempt}
use Rattle.commit_core.specs.declared.seat.Stage.{Stage}
use Rattle.commit_core.specs.declared.seat.Stage.TheVariants.{Idle, Trying, Ended, Decided}
use Rattle.commit_core.specs.Keys.{same_key, has_key}
use Rattle.commit_core.specs.Places.{is_free, holder_is}
use Rattle.commit_core.specs.Sound.Locks.{LockOwners, HoldersAreSeats, AttemptStands}
use Rattle.commit_core.specs.Lemmas.Keys.{same_key-self, same_key-true}
use Rattle.commit_core.specs.Lemmas.Places.{same_or_other, Sets}
use Rattle.lists.specs.Elements.{in_filter, in_filtered, filter_only, at_in, at_push_old, any_in, any_is, any_push_cases, any_push_old, any_push_new}
use Rattle.commit_core.specs.Lemmas.Numbers.{decided_old, decided_other}
use Rattle.commit_core.specs.Lemmas.Versions.{IsAlone}
use Rattle.commit_core.proofs.ReadLaws.{IsThere}

-- ---- holders

-- a word has one holder at most
pub one_holder : (p q : ℕ) (holder : Holder) → holder_is p holder ≡ true → holder_is q holder ≡ true → q ≡ p
one_holder p q Free a b = absurd (true≢false (sym a))
one_holder p q (Held r) a b = sym (eqb-true r q b) ∙ eqb-true r p a
one_holder p q Dead a b = absurd (true≢false (sym a))

pub holder_is-self : (p : ℕ) → holder_is p (Held p) ≡ true
holder_is-self p = eq-eqb p p refl

pub holder_is-other : (p q : ℕ) → (q ≡ p → ⊥) → holder_is q (Held p) ≡ false
holder_is-other p q other = false_from_ne_true (holder_is q (Held p)) (λ h. other (sym (eqb-true p q h)))

pub is_free-free : (h : Holder) → is_free h ≡ true → h ≡ Free
is_free-free Free e = refl
is_free-free (Held q) e = absurd (true≢false (sym e))
is_free-free Dead e = absurd (true≢false (sym e))

-- who holds what is free: nobody
pub unlocked_not : (q : ℕ) (holder : Holder) → holder ≡ Free → holder_is q holder ≡ false
unlocked_not q holder e = ap (holder_is q) e

-- another seat than the holder does not hold it
pub other_not : (p q : ℕ) (holder : Holder) → holder_is p holder ≡ true → (q ≡ p → ⊥) → holder_is q holder ≡ false
other_not p q holder mine other = false_from_ne_true (holder_is q holder) (λ h. other (one_holder p q holder mine h))

-- what is free, or a seat's, isn't dead
pub free_alive : (holder : Holder) → holder ≡ Free → holder ≡ Dead → ⊥
free_alive holder e f = let both : Free ≡ Dead = sym e ∙ f in cc

pub held_alive : (p : ℕ) (holder : Holder) → holder_is p holder ≡ true → holder ≡ Dead → ⊥
held_alive p holder mine dead = true≢false (sym mine ∙ ap (holder_is p) dead)

-- ---- whom a home is held by

module _ (k : Key) (new : Place) (st st' : Key → Place) (sets : Sets k new st st') (p : ℕ) where
  -- at another key as before
  pub held_other : (q : Key) → (k ≡ q → ⊥) → holder_is p (st q).holder ≡ true → holder_is p (st' q).holder ≡ true
  held_other q other held = ap (λ (y : Place). holder_is p y.holder) (sets.others q other) ∙ held

  -- a lock that a seat has stays, where the new home is the seat's own if the old one was
  pub held_after : (holder_is p (st k).holder ≡ true → holder_is p new.holder ≡ true) → (q : Key) → holder_is p (st q).holder ≡ true → holder_is p (st' q).holder ≡ true
  held_after keeps q held =
      elim (same_or_other k q) [
        | inl e ↦ subst (λ (x : Key). holder_is p (st' x).holder ≡ true) e
            (ap (λ (y : Place). holder_is p y.holder) sets.now ∙ keeps (subst (λ (x : Key). holder_is p (st x).holder ≡ true) (sym e) held))
        | inr other ↦ held_other q other held
      ]

  -- a seat that holds a home then held it before, where the new one was its own already
  pub held_before : (holder_is p new.holder ≡ true → holder_is p (st k).holder ≡ true) → (q : Key) → holder_is p (st' q).holder ≡ true → holder_is p (st q).holder ≡ true
  held_before back q held =
      elim (same_or_other k q) [
        | inl e ↦
            let at_k : holder_is p (st' k).holder ≡ true = subst (λ (x : Key). holder_is p (st' x).holder ≡ true) (sym e) held in
            subst (λ (x : Key). holder_is p (st x).holder ≡ true) e (back (ap (λ (y : Place). holder_is p y.holder) (sym sets.now) ∙ at_k))
        | inr other ↦ ap (λ (y : Place). holder_is p y.holder) (sym (sets.others q other)) ∙ held
      ]

  -- ---- lock_owners

  -- where the new home is the seat's own exactly if the old one was
  pub locks_set : (locks : List Key) → (holder_is p (st k).holder ≡ true → holder_is p new.holder ≡ true) → (holder_is p new.holder ≡ true → holder_is p (st k).holder ≡ true)
      → LockOwners st p locks → LockOwners st' p locks
  locks_set locks keeps back owns = record {
    held = λ q h. held_after keeps q (owns.held q h);
    listed = λ q h. owns.listed q (held_before back q h);
  }

  -- one more
  pub locks_taken : (locks : List Key) → holder_is p new.holder ≡ true → LockOwners st p locks → LockOwners st' p (locks ++ k ∷ [])
  locks_taken locks mine owns = record {
    held = λ q h. elim (any_push_cases (λ x. same_key x q) locks k h) [
      | inl before ↦ held_after (λ _. mine) q (owns.held q before)
      | inr now ↦ subst (λ (x : Key). holder_is p (st' x).holder ≡ true) (same_key-true k q now) (ap (λ (y : Place). holder_is p y.holder) sets.now ∙ mine)
    ];
    listed = λ q h. elim (same_or_other k q) [
      | inl e ↦ any_push_new (λ x. same_key x q) locks k (subst (λ (x : Key). same_key k x ≡ true) e (same_key-self k))
      | inr other ↦ any_push_old (λ x. same_key x q) locks k (owns.listed q (ap (λ (y : Place). holder_is p y.holder) (sym (sets.others q other)) ∙ h))
    ];
  }

  kept_key : (locks : List Key) (q : Key) → has_key (filter (λ x. not (same_key x k)) locks) q ≡ true → (has_key locks q ≡ true) × (k ≡ q → ⊥)
  kept_key locks q h =
      let r = any_is (λ x. same_key x q) (filter (λ x. not (same_key x k)) locks) h in
      let passed = filter_only (λ x. not (same_key x k)) r.0 locks r.1 in (
        any_in (λ x. same_key x q) locks r.0 (in_filter (λ x. not (same_key x k)) r.0 locks r.1) r.2,
        λ e. true≢false (sym passed ∙ ap not (subst (λ (x : Key). same_key r.0 x ≡ true) (sym e) r.2)),
      )

  other_key : (locks : List Key) (q : Key) → (k ≡ q → ⊥) → has_key locks q ≡ true → has_key (filter (λ x. not (same_key x k)) locks) q ≡ true
  other_key locks q other h =
      let r = any_is (λ x. same_key x q) locks h in
      let apart : same_key r.0 k ≡ false = false_from_ne_true (same_key r.0 k) (λ e. other (sym (same_key-true r.0 k e) ∙ same_key-true r.0 q r.2)) in
      any_in (λ x. same_key x q) (filter (λ x. not (same_key x k)) locks) r.0 (in_filtered (λ x. not (same_key x k)) r.0 locks r.1 (ap not apart)) r.2

  -- the rest, where the new home is unlocked
  pub locks_given : (locks : List Key) → holder_is p new.holder ≡ false → LockOwners st p locks → LockOwners st' p (filter (λ x. not (same_key x k)) locks)
  locks_given locks open_now owns = record {
    held = λ q h. let r = kept_key locks q h in held_other q r.1 (owns.held q r.0);
    listed = λ q h. elim (same_or_other k q) [
      | inl e ↦ absurd (true≢false (sym (subst (λ (x : Key). holder_is p (st' x).holder ≡ true) (sym e) h) ∙ ap (λ (y : Place). holder_is p y.holder) sets.now ∙ open_now))
      | inr other ↦ other_key locks q other (owns.listed q (ap (λ (y : Place). holder_is p y.holder) (sym (sets.others q other)) ∙ h))
    ];
  }

  -- ---- attempt_stands: a home changes that the seat does not lose

  pub stands_set : (h : List Attempt) (decided : List Number) (put : List Key) (stage : Stage) → (holder_is p (st k).holder ≡ true → holder_is p new.holder ≡ true)
      → AttemptStands h decided st put p stage → AttemptStands h decided st' put p stage
  stands_set h decided put Idle keeps stands = tt
  stands_set h decided put (Trying i) keeps stands =
      let t = stands.1 in (stands.0, record { at = t.at; own = t.own; undecided = t.undecided; holds = λ q w. held_after keeps q (t.holds q w) })
  stands_set h decided put Ended keeps stands = tt
  stands_set h decided put (Decided i) keeps stands =
      let t = stands.1 in (stands.0, record { at = t.at; own = t.own; counts = t.counts; written = t.written; holds = λ q w n. held_after keeps q (t.holds q w n) })

-- ---- holders_are_seats

pub holders_set : (k : Key) (new : Place) (st st' : Key → Place) → Sets k new st st' → (seats : ℕ) → ((p : ℕ) → holder_is p new.holder ≡ true → p < seats)
    → HoldersAreSeats st seats → HoldersAreSeats st' seats
holders_set k new st st' sets seats seat holders = λ q p mine.
    elim (same_or_other k q) [
      | inl e ↦ seat p (ap (λ (y : Place). holder_is p y.holder) (sym sets.now) ∙ subst (λ (x : Key). holder_is p (st' x).holder ≡ true) (sym e) mine)
      | inr other ↦ holders q p (ap (λ (y : Place). holder_is p y.holder) (sym (sets.others q other)) ∙ mine)
    ]

-- ---- attempt_stands

pub stands_there : (h : List Attempt) (decided : List Number) (st : Key → Place) (put : List Key) (p : ℕ) (stage : Stage) → AttemptStands h decided st put p stage → IsThere h stage
stands_there h decided st put p Idle stands = tt
stands_there h decided st put p (Trying i) stands = (stands.0, stands.1.at)
stands_there h decided st put p Ended stands = tt
stands_there h decided st put p (Decided i) stands = (stands.0, stands.1.at)

pub stands_drawn : (h : List Attempt) (decided : List Number) (st : Key → Place) (put : List Key) (p : ℕ) (a : Attempt) (stage : Stage)
    → AttemptStands h decided st put p stage → AttemptStands (h ++ a ∷ []) decided st put p stage
stands_drawn h decided st put p a Idle stands = tt
stands_drawn h decided st put p a (Trying i) stands =
    let t = stands.1 in (stands.0, record { at = at_push_old h i stands.0 a t.at; own = t.own; undecided = t.undecided; holds = t.holds })
stands_drawn h decided st put p a Ended stands = tt
stands_drawn h decided st put p a (Decided i) stands =
    let t = stands.1 in (stands.0, record { at = at_push_old h i stands.0 a t.at; own = t.own; counts = t.counts; written = t.written; holds = t.holds })

-- another seat's attempt is decided
pub stands_decided : (h : List Attempt) (decided : List Number) (st : Key → Place) (put : List Key) (p : ℕ) (a : Attempt) (stage : Stage) → IsAlone h a → (a.seat ≡ p → ⊥)
    → AttemptStands h decided st put p stage → AttemptStands h (decided ++ a.number ∷ []) st put p stage
stands_decided h decided st put p a Idle only other stands = tt
stands_decided h decided st put p a (Trying i) only other stands =
    let b = stands.0 in let t = stands.1 in (
      b,
      record {
        at = t.at;
        own = t.own;
        undecided = decided_other decided a.number b.number (λ e. other (sym (ap (λ (x : Attempt). x.seat) (only b (at_in h i b t.at) (sym e))) ∙ t.own)) ∙ t.undecided;
        holds = t.holds;
      },
    )
stands_decided h decided st put p a Ended only other stands = tt
stands_decided h decided st put p a (Decided i) only other stands =
    let b = stands.0 in let t = stands.1 in
    (b, record { at = t.at; own = t.own; counts = decided_old decided a.number b.number t.counts; written = t.written; holds = t.holds })
