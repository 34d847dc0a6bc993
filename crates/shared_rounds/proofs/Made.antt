-- What a pass commits along its lines: its own attempts, one for each commit that is told, and what its log gets.
use Rattle.std.proofs.Common.{◌≡◌, ◌∙◌, sym, ap, subst, refl, ℕ, ◌+◌, ◌≤◌, List, [], ◌∷◌, ◌++◌, length}
use Rattle.std.proofs.Common.{append_assoc}
use Rattle.std.proofs.Common.{inl, inr}
use Rattle.std.specs.Prelude.{option_to_list, ⊤}
use Rattle.std.specs.List.{Contains}
use Rattle.std.proofs.lemmas.List.Elements.{Contains-append_cases}
use Rattle.lists.specs.Elements.{in_head, in_tail}
use Rattle.lists.specs.Fronts.{IsFront, front_refl, front_rest, front_then}
use Rattle.std.specs.Prelude.{drop}
use Rattle.std.proofs.lemmas.List.Elements.{Contains-append_left}
use Rattle.serial_model.specs.declared.decl.Decl.{Decl}
use Rattle.serial_model.specs.declared.number.Commit.{Commit}
use Rattle.serial_model.specs.Keys.{IsKeyBelow}
use Rattle.serial_model.specs.History.{Entry}
use Rattle.serial_model.specs.Numbers.{IsBelow}
use Rattle.wire_form.specs.Items.{Rises}
use Rattle.commit_core.specs.declared.attempt.Attempt.{Attempt}
use Rattle.serial_bridge.specs.WriteSets.{keys_of}
use Rattle.engine_seats.specs.Cuts.{HasSeen}
use Rattle.engine_pages.specs.Views.{seat_number}
use Rattle.engine_pages.specs.declared.layout.Layout.{Layout}
use Rattle.engine_pages.specs.declared.view.View.{View}
use Rattle.shared_rounds.proofs.LoggedAlong.{logged_as}
use Rattle.shared_rounds.proofs.Pairs.{ArePairs, pairs_append}

-- what a log gets of the attempts
abbrev pub logged_from : List Attempt → List Commit
logged_from [] = []
logged_from (a ∷ more) = option_to_list (logged_as a a.writes) ++ logged_from more

-- the numbers of attempts rise
abbrev pub Ascend : List Attempt → Type 0
Ascend [] = ⊤
Ascend (a ∷ more) = ((b : Attempt) → Contains more b → IsBelow a.number b.number) × Ascend more

-- An attempt between two views, in an epoch from this one on: what the first has seen has lower numbers, and it is
-- drawn
-- where the other has seen it.
pub record IsMade (low : ℕ) (v w : View) (a : Attempt) : Type 0 where
  pub above : (b : Attempt) → Contains v.history b → IsBelow b.number a.number
  pub drawn : Contains w.history a
  pub all : List Attempt
  pub order : IsFront (all ++ a ∷ []) w.history
  pub draw : a.number.draw ≡ v.layout.first.draw + length all
  pub epoch : low ≤ a.number.epoch
  pub rise : Rises IsKeyBelow (keys_of a.writes)

-- What was committed between two views.
pub record Made (decls : List Decl) (low : ℕ) (v w : View) (entries : ℕ → ℕ → List Entry) (logged : List Commit)
    : Type 0 where
  pub attempts : List Attempt
  pub mine : w.mine ≡ v.mine ++ attempts
  pub pairs : (index line : ℕ) → ArePairs decls (entries index line) attempts
  pub logged_is : logged ≡ logged_from attempts
  pub each : (a : Attempt) → Contains attempts a → IsMade low v w a
  pub seats : (a : Attempt) → Contains attempts a → a.seat ≡ seat_number v.role
  pub ascend : Ascend attempts
  pub seen : HasSeen v w
  pub layout : w.layout ≡ v.layout
  pub role : w.role ≡ v.role

pub in_front : (xs ys : List Attempt) (a : Attempt) → IsFront xs ys → Contains xs a → Contains ys a
in_front xs ys a front has =
    subst (λ (l : List Attempt). Contains l a) (front_rest xs ys front) (Contains-append_left xs (drop
    (length xs) ys) a has)

-- what was made earlier or later was made between views further apart
pub made_wider : (low : ℕ) (u v w x : View) (a : Attempt) → HasSeen u v → v.layout ≡ u.layout → HasSeen w x
    → IsMade low v w a → IsMade low u x a
made_wider low u v w x a first layout next m = record {
  above = λ b has. m.above b (in_front u.history v.history b first.history has);
  drawn = in_front w.history x.history a next.history m.drawn;
  all = m.all;
  order = front_then (m.all ++ a ∷ []) w.history x.history m.order next.history;
  draw = m.draw ∙ ap (λ (l : Layout). l.first.draw + length m.all) layout;
  epoch = m.epoch;
  rise = m.rise;
}

ascend_append : (xs ys : List Attempt) → Ascend xs → Ascend ys
    → ((a b : Attempt) → Contains xs a → Contains ys b → IsBelow a.number b.number) → Ascend (xs ++ ys)
ascend_append [] ys first next apart = next
ascend_append (x ∷ xs) ys first next apart = (
  λ b has. elim (Contains-append_cases xs ys b has) [
    | inl here ↦ first.0 b here
    | inr there ↦ apart x b (in_head x xs) there
  ],
  ascend_append xs ys first.1 next (λ a b has there. apart a b (in_tail a x xs has) there),
)

logged_append : (xs ys : List Attempt) → logged_from (xs ++ ys) ≡ logged_from xs ++ logged_from ys
logged_append [] ys = refl
logged_append (x ∷ xs) ys =
    ap (λ l. option_to_list (logged_as x x.writes) ++ l) (logged_append xs ys)
    ∙ sym (append_assoc (option_to_list (logged_as x x.writes)) (logged_from xs) (logged_from ys))

pub seen_then : (u v w : View) → HasSeen u v → HasSeen v w → HasSeen u w
seen_then u v w first next = record {
  history = front_then u.history v.history w.history first.history next.history;
  decided = front_then u.decided v.decided w.decided first.decided next.decided;
}

pub seen_same : (v : View) → HasSeen v v
seen_same v = record { history = front_refl v.history; decided = front_refl v.decided }

-- one after the other
pub made_then : (decls : List Decl) (low : ℕ) (u v w : View) (es fs : ℕ → ℕ → List Entry) (ls ks : List Commit)
    → Made decls low u v es ls → Made decls low v w fs ks
    → Made decls low u w (λ index line. es index line ++ fs index line) (ls ++ ks)
made_then decls low u v w es fs ls ks first next = record {
  attempts = first.attempts ++ next.attempts;
  mine = next.mine ∙ ap (λ l. l ++ next.attempts) first.mine ∙ append_assoc u.mine first.attempts next.attempts;
  pairs = λ index line. pairs_append decls (es index line) (fs index line) first.attempts next.attempts
      (first.pairs index line) (next.pairs index line);
  logged_is = ap (λ l. l ++ ks) first.logged_is ∙ ap (λ l. logged_from first.attempts ++ l) next.logged_is
      ∙ sym (logged_append first.attempts next.attempts);
  each = λ a has. elim (Contains-append_cases first.attempts next.attempts a has) [
    | inl here ↦ made_wider low u u v w a (seen_same u) refl next.seen (first.each a here)
    | inr there ↦ made_wider low u v w w a first.seen first.layout (seen_same w) (next.each a there)
  ];
  seats = λ a has. elim (Contains-append_cases first.attempts next.attempts a has) [
    | inl here ↦ first.seats a here
    | inr there ↦ next.seats a there ∙ ap seat_number first.role
  ];
  ascend = ascend_append first.attempts next.attempts first.ascend next.ascend
      (λ a b has there. (next.each b there).above a (first.each a has).drawn);
  seen = seen_then u v w first.seen next.seen;
  layout = next.layout ∙ first.layout;
  role = next.role ∙ first.role;
}
