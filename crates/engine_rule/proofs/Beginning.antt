-- A machine that begins over the pages of a snapshot.
use Rattle.std.proofs.Common.{◌≡◌, ℕ, List, length, subst, IfOk, Result}
use Rattle.serial_model.specs.declared.number.Number.{Number}
use Rattle.serial_model.specs.declared.decl.Decl.{Decl}
use Rattle.homes.specs.declared.places.Span.{Span}
use Rattle.drop_core.specs.declared.table.SnapPage.{SnapPage}
use Rattle.wire_form.specs.declared.page.Page.{Page}
use Rattle.wire_form.specs.declared.records.Stored.{Stored}
use Rattle.snapshot_store.specs.declared.place.PagePlace.{PagePlace}
use Rattle.snapshot_store.specs.Content.{words_of}
use Rattle.engine_rule.specs.JointState.{JointState}
use Rattle.engine_rule.specs.Opening.{opening_joint}
use Rattle.engine_rule.specs.Law.{StartsSound}
use Rattle.engine_rule.specs.Reading.{storages, named_places, snaps_of, roots_of, IsOpening, begun}
use Rattle.engine_rule.specs.Sound.{IsSound}
use Rattle.engine_rule.proofs.ReadOpens.{may_begin}
use Rattle.engine_rule.proofs.Stepping.{opened_sound}

-- What was read at places is what there is at places that are the same.
module _ {E : Type 0} (pages : List Page) (r : Result (List (ℕ × SnapPage) × ℕ × List (Span × ℕ)) E) where
  pub snaps_at : {places others : List (Decl × PagePlace)} → places ≡ others
      → IfOk r (λ b. b.0 ≡ snaps_of (words_of pages) places) → IfOk r (λ b. b.0 ≡ snaps_of (words_of pages) others)
  snaps_at same is = subst (λ (x : List (Decl × PagePlace)). IfOk r (λ b. b.0 ≡ snaps_of (words_of pages) x)) same is

module _ {E : Type 0} (r : Result (List (ℕ × SnapPage) × ℕ × List (Span × ℕ)) E) where
  pub counted_at : {places others : List (Decl × PagePlace)} → places ≡ others
      → IfOk r (λ b. b.1 ≡ length places) → IfOk r (λ b. b.1 ≡ length others)
  counted_at same is = subst (λ (x : List (Decl × PagePlace)). IfOk r (λ b. b.1 ≡ length x)) same is

  pub roots_at : {places others : List (Decl × PagePlace)} {stored kept : List Stored} → places ≡ others → stored ≡ kept
      → IfOk r (λ b. b.2 ≡ roots_of places stored) → IfOk r (λ b. b.2 ≡ roots_of others kept)
  roots_at {others = others} {stored = stored} same storages_are is =
      subst (λ (y : List Stored). IfOk r (λ b. b.2 ≡ roots_of others y)) storages_are
      (subst (λ (x : List (Decl × PagePlace)). IfOk r (λ b. b.2 ≡ roots_of x stored)) same is)

module _ {E : Type 0} (pages : List Page) (decls : List Decl) (roots : List ℕ) (first : Number) (slots passes : ℕ) (r : Result JointState E) where
  abbrev ws : List (List ℕ)
  ws = words_of pages

  abbrev ss : List Stored
  ss = storages decls roots

  -- what was read is what the pages have
  pub begun_from : (places : List (Decl × PagePlace)) (snaps : List (ℕ × SnapPage)) (count : ℕ) (spans : List (Span × ℕ)) → IfOk r (λ c. c ≡ opening_joint snaps count spans first slots passes)
      → places ≡ named_places ws ss → snaps ≡ snaps_of ws places → count ≡ length places → spans ≡ roots_of places ss
      → IfOk r (λ c. c ≡ begun pages decls roots first slots passes)
  begun_from places snaps count spans is places_are snaps_are count_is spans_are =
      subst (λ (x : List (Decl × PagePlace)). IfOk r (λ c. c ≡ opening_joint (snaps_of ws x) (length x) (roots_of x ss) first slots passes)) places_are
      (subst (λ (x : List (Span × ℕ)). IfOk r (λ c. c ≡ opening_joint (snaps_of ws places) (length places) x first slots passes)) spans_are
      (subst (λ (x : ℕ). IfOk r (λ c. c ≡ opening_joint (snaps_of ws places) x spans first slots passes)) count_is
      (subst (λ (x : List (ℕ × SnapPage)). IfOk r (λ c. c ≡ opening_joint x count spans first slots passes)) snaps_are is)))

  pub begun_sound : StartsSound → IsOpening pages decls roots first → IfOk r (λ c. c ≡ begun pages decls roots first slots passes) → IfOk r IsSound
  begun_sound starts can is =
      opened_sound starts (snaps_of ws (named_places ws ss)) (length (named_places ws ss)) (roots_of (named_places ws ss) ss) first slots passes r
      (may_begin pages decls roots first slots can) is
