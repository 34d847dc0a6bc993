-- How both machines begin: all records are in snapshot pages.
use Rattle.std.specs.Prelude.{ℕ, List, [], map}
use Rattle.serial_model.specs.declared.key.Key.{Key}
use Rattle.serial_model.specs.declared.number.Number.{Number}
use Rattle.serial_model.specs.Numbers.{IsNumber, IsBelow}
use Rattle.homes.specs.declared.places.Span.{Span}
use Rattle.homes.specs.declared.places.Home.{Home}
use Rattle.homes.specs.declared.places.Content.{Content}
use Rattle.commit_core.specs.Keys.{content_at}
use Rattle.commit_core.specs.Opening.{fresh_core}
use Rattle.drop_core.specs.declared.table.SnapPage.{SnapPage}
use Rattle.drop_core.specs.Opening.{opening_state, opening_homes, CanOpen}
use Rattle.engine_rule.specs.Pairs.{snap_keys, pairs_for}
use Rattle.engine_rule.specs.JointState.{JointState}

-- what the pages have for each key that some page has an entry of
abbrev pub opening_pairs : List (ℕ × SnapPage) → ℕ → List (Span × ℕ) → ℕ → List (Key × Content)
opening_pairs snaps published roots room = pairs_for (opening_homes snaps published roots room) (snap_keys snaps)

-- the homes of these keys
abbrev pub homes_list : List (ℕ × SnapPage) → ℕ → List (Span × ℕ) → ℕ → List (Key × Home)
homes_list snaps published roots room =
    map (λ k. (k, opening_homes snaps published roots room k)) (snap_keys snaps)

-- how both machines begin over these pages, with their first number, so many slots and seats
abbrev pub opening_joint : List (ℕ × SnapPage) → ℕ → List (Span × ℕ) → Number → ℕ → ℕ → JointState
opening_joint snaps published roots first room seats = record {
  commits =
      fresh_core (opening_pairs snaps published roots room) [] (homes_list snaps published roots room) first seats;
  pages = opening_state snaps published roots room seats;
}

-- They may begin so: the pages may, the first number is one, and each record's number is below it.
pub record CanOpenJoint
    (snaps : List (ℕ × SnapPage)) (published : ℕ) (roots : List (Span × ℕ)) (first : Number) (room : ℕ)
    : Type 0 where
  pub pages : CanOpen snaps published roots room
  pub number : IsNumber first
  pub below : (k : Key) → IsBelow (content_at (opening_pairs snaps published roots room) k).number first
