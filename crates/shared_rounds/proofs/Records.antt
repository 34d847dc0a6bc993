-- Commits write the keys of the storages alone.
use Rattle.std.proofs.Common.{◌≡◌, ◌∙◌, sym, ap, subst, refl, ℕ, ◌+◌, Bool, true, false, true≢false, cond}
use Rattle.std.proofs.Common.{List, [], ◌∷◌, ◌++◌, inl, inr, Option, None, Some}
use Rattle.std.specs.Prelude.{◌==◌, ◌||◌, IsTrue, option_to_list, unwrap_or}
use Rattle.std.proofs.lemmas.Bool.{or_right}
use Rattle.std.specs.FinMap.{get}
use Rattle.std.specs.List.{AllByRecursion, Contains}
use Rattle.std.specs.Option.{option_or}
use Rattle.std.proofs.lemmas.List.Elements.{Contains-append_cases}
use Rattle.std.proofs.lemmas.List.Sorted.{Contains-permutation, IsPermutation-sym}
use Rattle.lists.specs.Elements.{in_cases, in_head, in_none, in_tail}
use Rattle.serial_model.specs.declared.decl.Decl.{Decl}
use Rattle.serial_model.specs.declared.decl.Decl.TheVariants.{Array, Tree}
use Rattle.serial_model.specs.declared.key.Key.{Key}
use Rattle.serial_model.specs.declared.number.Change.{Change}
use Rattle.serial_model.specs.declared.number.Commit.{Commit}
use Rattle.serial_model.specs.Keys.{has_key, has_key_of, is_tree}
use Rattle.serial_model.specs.State.{State}
use Rattle.wire_form.specs.LogFile.{IsChangeOf, IsLineOf, has_place_for}
use Rattle.commit_core.specs.declared.attempt.Attempt.{Attempt}
use Rattle.commit_core.specs.Keys.{same_key, written}
use Rattle.commit_core.specs.Lemmas.Keys.{same_key-true}
use Rattle.serial_bridge.specs.Bridge.{last_written}
use Rattle.serial_bridge.specs.WriteLaws.{written-cons}
use Rattle.engine_seats.specs.Gathered.{joined}
use Rattle.engine_pages.specs.declared.view.View.{View}
use Rattle.shared_rounds.specs.Contents.{after_commits}
use Rattle.shared_rounds.specs.Parts.{AreParts, IsRound, Part}
use Rattle.shared_rounds.proofs.Contents.{commits_over}
use Rattle.shared_rounds.proofs.Counted.{split}
use Rattle.shared_rounds.proofs.Joined.{mines_of, part_made}
use Rattle.shared_rounds.proofs.LoggedAlong.{logged_as}
use Rattle.shared_rounds.proofs.Made.{logged_from}

-- each key is one of a tree's
tree_has : (decls : List Decl) (k : Key) → is_tree decls k.storage ≡ true → has_key decls k ≡ true
tree_has [] k is = is
tree_has (Array id size ∷ decls) k is =
    or_right (has_key_of k (Array id size)) (has_key decls k) (tree_has decls k is)
tree_has (Tree id ∷ decls) k is = by_test (id == k.storage) (tree_has decls k) is
  where
    by_test : (b : Bool) → (is_tree decls k.storage ≡ true → has_key decls k ≡ true)
        → (b || is_tree decls k.storage) ≡ true → (b || has_key decls k) ≡ true
    by_test true rest is = refl
    by_test false rest is = rest is

-- a change of these storages is at a key of theirs
change_has : (decls : List Decl) (c : Change) → IsChangeOf decls c → has_key decls c.key ≡ true
change_has decls c is = by_value c.value is
  where
    by_value : (value : Option ℕ) → IsTrue (has_place_for decls c.key value) → has_key decls c.key ≡ true
    by_value (Some v) is = is
    by_value None is = tree_has decls c.key is

-- a key that no storage has is not written
not_written : (decls : List Decl) (k : Key) (writes : List Change) → has_key decls k ≡ false
    → AllByRecursion (IsChangeOf decls) writes → written k writes ≡ None
not_written decls k [] none are = refl
not_written decls k (c ∷ writes) none are =
    written-cons c writes k
    ∙ by_test (same_key c.key k) refl (not_written decls k writes none are.1)
  where
    by_test : (b : Bool) → same_key c.key k ≡ b → written k writes ≡ None
        → cond b (Some c.value) (written k writes) ≡ None
    by_test false is rest = rest
    by_test true is rest =
        absurd (true≢false (sym (change_has decls c are.0)
        ∙ ap (has_key decls) (same_key-true c.key k is) ∙ none))

-- what was logged of an attempt are its writes
logged_writes : (decls : List Decl) (a : Attempt) (writes : List Change)
    → AllByRecursion (IsLineOf decls) (option_to_list (logged_as a writes))
    → AllByRecursion (IsChangeOf decls) writes
logged_writes decls a [] lines = tt
logged_writes decls a (c ∷ writes) lines = lines.0.each

first_lines : (decls : List Decl) (xs ys : List Commit) → AllByRecursion (IsLineOf decls) (xs ++ ys)
    → AllByRecursion (IsLineOf decls) xs × AllByRecursion (IsLineOf decls) ys
first_lines decls [] ys all = (tt, all)
first_lines decls (x ∷ xs) ys all =
    let rest = first_lines decls xs ys all.1 in ((all.0, rest.0), rest.1)

each_writes : (decls : List Decl) (attempts : List Attempt)
    → AllByRecursion (IsLineOf decls) (logged_from attempts) → (a : Attempt) → Contains attempts a
    → AllByRecursion (IsChangeOf decls) a.writes
each_writes decls [] lines a has = absurd (in_none a has)
each_writes decls (x ∷ attempts) lines a has =
    let parts = first_lines decls (option_to_list (logged_as x x.writes)) (logged_from attempts) lines in
    elim (in_cases a x attempts has) [
      | inl is ↦ subst (λ (y : Attempt). AllByRecursion (IsChangeOf decls) y.writes) is
          (logged_writes decls x x.writes parts.0)
      | inr later ↦ each_writes decls attempts parts.1 a later
    ]

parts_write : (tries : ℕ) (was ended : View) (worker : ℕ) (parts : List Part) → AreParts tries was ended worker parts
    → (a : Attempt) → Contains (joined (mines_of parts)) a → AllByRecursion (IsChangeOf was.layout.decls) a.writes
parts_write tries was ended worker [] are a has = absurd (in_none a has)
parts_write tries was ended worker (p ∷ parts) are a has =
    elim (Contains-append_cases p.to.mine (joined (mines_of parts)) a has) [
      | inl here ↦ each_writes was.layout.decls p.to.mine
          (subst (AllByRecursion (IsLineOf was.layout.decls)) (part_made tries was ended worker p are.0).logged
          are.0.lines_are) a here
      | inr there ↦ parts_write tries was ended (worker + 1) parts are.1 a there
    ]

none_last : (k : Key) (attempts : List Attempt) → ((a : Attempt) → Contains attempts a → written k a.writes ≡ None)
    → last_written attempts k ≡ None
none_last k [] none = refl
none_last k (a ∷ more) none =
    ap (λ o. option_or o (written k a.writes)) (none_last k more (λ x has. none x (in_tail x a more has)))
    ∙ none a (in_head a more)

-- a key that no storage has gets no value in a round
pub records_stay : (tries : ℕ) (was now : View) (parts : List Part) (r : IsRound tries was now parts) (s : State)
    (k : Key) → has_key was.layout.decls k ≡ false → get s k ≡ None
    → get (after_commits s (split tries was now parts r).new) k ≡ None
records_stay tries was now parts r s k none empty =
    let new = (split tries was now parts r).new in
    commits_over new s k
    ∙ ap (λ o. unwrap_or o (get s k)) (none_last k new (λ a has.
    not_written was.layout.decls k a.writes none (parts_write tries was r.ended 0 parts r.parts_are a
    (Contains-permutation new (joined (mines_of parts)) a
    (IsPermutation-sym (joined (mines_of parts)) new (split tries was now parts r).same) has))))
    ∙ empty
