-- A machine that begins, from its parts.
use Rattle.std.proofs.Common.{◌≡◌, ℕ, List, [], map, replicate, ap, ◌∙◌}
use Rattle.serial_model.specs.declared.key.Key.{Key}
use Rattle.serial_model.specs.declared.number.Number.{Number}
use Rattle.homes.specs.declared.places.Content.{Content}
use Rattle.homes.specs.declared.places.Span.{Span}
use Rattle.homes.specs.declared.places.Home.{Home}
use Rattle.commit_core.specs.declared.seat.Seat.{Seat}
use Rattle.commit_core.specs.declared.story.Story.{Story}
use Rattle.commit_core.specs.Opening.{fresh_seat, fresh_story}
use Rattle.drop_core.specs.declared.table.SnapPage.{SnapPage}
use Rattle.drop_core.specs.declared.table.Table.{Table}
use Rattle.drop_core.specs.declared.grip.Grip.{Grip}
use Rattle.drop_core.specs.Table.{child_of, snap_home}
use Rattle.drop_core.specs.Opening.{opening_table, fresh_grip}
use Rattle.engine_rule.specs.Pairs.{snap_keys, pairs_for}
use Rattle.engine_rule.specs.JointState.{JointState}
use Rattle.engine_rule.specs.Opening.{opening_joint}

-- both machines from their parts
abbrev make : List (Key × Content) → Story → List Seat → Table → List Grip → JointState
make opening story seats table grips =
    record { commits = record { opening = opening; story = story; seats = seats }; pages = record { table = table; grips = grips } }

module _ (snaps : List (ℕ × SnapPage)) (published : ℕ) (roots : List (Span × ℕ)) (first : Number) (room count : ℕ) where
  -- the home of a key by the pages below its root
  abbrev pub home_by : Table → Key → Home
  home_by d k = snap_home d (child_of roots k) k

  abbrev start : Table
  start = opening_table snaps published roots room

  pub opened_is : (r : JointState) (d : Table) (grips : List Grip) (for_pairs for_homes : List Key) (opening : List (Key × Content)) (homes : List (Key × Home)) (story : Story) (seats : List Seat)
      → d ≡ start → grips ≡ replicate count fresh_grip → for_pairs ≡ snap_keys d.snaps → for_homes ≡ snap_keys d.snaps
      → opening ≡ pairs_for (home_by d) for_pairs → homes ≡ map (λ k. (k, home_by d k)) for_homes → story ≡ fresh_story [] homes first → seats ≡ replicate count (fresh_seat first)
      → r.commits.opening ≡ opening → r.commits.story ≡ story → r.commits.seats ≡ seats → r.pages.table ≡ d → r.pages.grips ≡ grips
      → r ≡ opening_joint snaps published roots first room count
  opened_is r d grips for_pairs for_homes opening homes story seats table_is grips_are keys_are other_keys_are opening_is homes_are story_is seats_are at_opening at_story at_seats at_table at_grips =
      let pairs : opening ≡ pairs_for (home_by start) (snap_keys snaps) =
      opening_is ∙ ap (λ (l : List Key). pairs_for (home_by d) l) keys_are ∙ ap (λ (t : Table). pairs_for (home_by t) (snap_keys t.snaps)) table_is in
      let list : homes ≡ map (λ k. (k, home_by start k)) (snap_keys snaps) =
      homes_are ∙ ap (λ (l : List Key). map (λ k. (k, home_by d k)) l) other_keys_are ∙ ap (λ (t : Table). map (λ k. (k, home_by t k)) (snap_keys t.snaps)) table_is in
      let tale : r.commits.story ≡ fresh_story [] (map (λ k. (k, home_by start k)) (snap_keys snaps)) first =
      at_story ∙ story_is ∙ ap (λ (l : List (Key × Home)). fresh_story [] l first) list in
      ap (λ (x : List (Key × Content)). make x r.commits.story r.commits.seats r.pages.table r.pages.grips) (at_opening ∙ pairs)
      ∙ ap (λ (x : Story). make (pairs_for (home_by start) (snap_keys snaps)) x r.commits.seats r.pages.table r.pages.grips) tale
      ∙ ap (λ (x : List Seat). make (pairs_for (home_by start) (snap_keys snaps)) (fresh_story [] (map (λ k. (k, home_by start k)) (snap_keys snaps)) first) x r.pages.table r.pages.grips)
      (at_seats ∙ seats_are)
      ∙ ap (λ (x : Table). make (pairs_for (home_by start) (snap_keys snaps)) (fresh_story [] (map (λ k. (k, home_by start k)) (snap_keys snaps)) first) (replicate count (fresh_seat first)) x r.pages.grips)
      (at_table ∙ table_is)
      ∙ ap (λ (x : List Grip). make (pairs_for (home_by start) (snap_keys snaps)) (fresh_story [] (map (λ k. (k, home_by start k)) (snap_keys snaps)) first) (replicate count (fresh_seat first)) start x)
      (at_grips ∙ grips_are)
