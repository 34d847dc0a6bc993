-- Both machines begin sound.
use mathlib.Core.Path.{fun_ext}
use Rattle.std.proofs.Common.{true≢false, ◌≡◌, ℕ, zero, suc, ◌<◌, ◌≤◌, inl, inr, List, [], length, refl, sym, ap, ◌∙◌, subst, arith, Some}
use Rattle.std.specs.List.{slice_get}
use Rattle.std.specs.Prelude.{replicate}
use Rattle.serial_model.specs.declared.key.Key.{Key}
use Rattle.serial_model.specs.declared.number.Number.{Number}
use Rattle.homes.specs.declared.places.Content.{Content}
use Rattle.homes.specs.declared.places.Holder.{Holder}
use Rattle.homes.specs.declared.places.Holder.TheVariants.{Free}
use Rattle.homes.specs.declared.places.Spot.{Spot}
use Rattle.homes.specs.declared.places.Span.{Span}
use Rattle.homes.specs.declared.places.Home.{Home}
use Rattle.homes.specs.declared.places.Home.TheVariants.{InSlot, InPage, Nowhere}
use Rattle.lists.specs.Elements.{in_none}
use Rattle.commit_core.specs.declared.seat.Seat.{Seat}
use Rattle.commit_core.specs.Keys.{nothing, content_at}
use Rattle.commit_core.specs.Places.{place, home_of, stands_at, stands, spot_of}
use Rattle.commit_core.specs.Opening.{CanOpen, fresh_seat}
use Rattle.commit_core.specs.Law.{OpensSound}
use Rattle.drop_core.specs.declared.table.Led.TheVariants.{Never, Away}
use Rattle.drop_core.specs.declared.table.SnapPage.{SnapPage}
use Rattle.drop_core.specs.Table.{child_of}
use Rattle.drop_core.specs.Opening.{opening_table, opening_homes, opening_state, fresh_grip}
use Rattle.drop_core.specs.Sound.{IsSound as PagesAreSound}
use Rattle.drop_core.specs.Law.{StartsSound as PagesStart}
use Rattle.drop_core.specs.HomeLaws.{IsFixed, snap-fixed}
use Rattle.engine_rule.specs.Pairs.{page_content, snap_keys}
use Rattle.engine_rule.specs.Opening.{opening_pairs, homes_list, opening_joint, CanOpenJoint}
use Rattle.engine_rule.specs.Sound.{IsSoundKept, IsSound}
use Rattle.engine_rule.proofs.PairLaws.{look-made, home-none}
use Rattle.engine_rule.proofs.PointerLaws.{fixed_free, fixed_content}

at_replicated : {A : Type 0} (n i : ℕ) (x y : A) → slice_get (replicate n x) i ≡ Some y → x ≡ y
at_replicated zero i x y e = cc
at_replicated (suc n) zero x y e = cc
at_replicated (suc n) (suc i) x y e = at_replicated n i x y e

replicated_length : {A B : Type 0} (n : ℕ) (x : A) (y : B) → length (replicate n x) ≡ length (replicate n y)
replicated_length zero x y = refl
replicated_length (suc n) x y = ap suc (replicated_length n x y)

fixed_spot : (h : Home) → IsFixed h → (x : Spot) → spot_of h ≡ Some x → ⊥
fixed_spot (InSlot y) fixed x e = fixed y refl
fixed_spot (InPage n c) fixed x e = cc
fixed_spot Nowhere fixed x e = cc

never_away : Never ≡ Away → ⊥
never_away e = cc

module _ (snaps : List (ℕ × SnapPage)) (published : ℕ) (roots : List (Span × ℕ)) (first : Number) (room seats : ℕ) (can : CanOpenJoint snaps published roots first room) where
  abbrev homes : Key → Home
  homes = opening_homes snaps published roots room

  abbrev list : List (Key × Home)
  list = homes_list snaps published roots room

  abbrev opening : List (Key × Content)
  opening = opening_pairs snaps published roots room

  fixed : (k : Key) → IsFixed (homes k)
  fixed k = snap-fixed (opening_table snaps published roots room) (child_of roots k) k

  homes_right : (k : Key) → home_of list k ≡ homes k
  homes_right k = elim (look-made homes Nowhere (snap_keys snaps) k) [
    | inl is ↦ is
    | inr r ↦ r.0 ∙ sym (home-none (opening_table snaps published roots room) k r.1 (child_of roots k))
  ]

  pairs_right : (k : Key) → content_at opening k ≡ page_content (homes k)
  pairs_right k = elim (look-made (λ q. page_content (homes q)) nothing (snap_keys snaps) k) [
    | inl is ↦ is
    | inr r ↦ r.0 ∙ sym (ap page_content (home-none (opening_table snaps published roots room) k r.1 (child_of roots k)))
  ]

  stand_free : (k : Key) → (stands [] list k).holder ≡ Free
  stand_free k = ap (λ (h : Home). (stands_at [] h).holder) (homes_right k) ∙ fixed_free [] (homes k) (fixed k)

  stand_content : (k : Key) → (stands [] list k).content ≡ content_at opening k
  stand_content k = ap (λ (h : Home). (stands_at [] h).content) (homes_right k) ∙ fixed_content [] (homes k) (fixed k) ∙ sym (pairs_right k)

  no_spot : (k : Key) (x : Spot) → spot_of (home_of list k) ≡ Some x → ⊥
  no_spot k x e = fixed_spot (homes k) (fixed k) x (ap spot_of (sym (homes_right k)) ∙ e)

  some : 1 ≤ first.epoch → 0 < first.epoch
  some less = omega (arith, less)

  -- each content stands at its key's home, in a snapshot page
  pub can_open : CanOpen opening [] list first
  can_open = record {
    later = some can.number.some_epoch;
    fits = can.number.most_epoch;
    older = can.below;
    apart = λ k q x e f. absurd (no_spot k x e);
    stand = λ k. ap (λ (h : Holder). place (stands [] list k).content h) (stand_free k) ∙ ap (λ (c : Content). place c Free) (stand_content k);
  }

  pub starts_sound : OpensSound → PagesStart → IsSound (opening_joint snaps published roots first room seats)
  starts_sound commits pages = record {
    commits = commits opening [] list first seats can_open;
    pages = subst (λ (f : Key → Home). PagesAreSound f (opening_state snaps published roots room seats)) (fun_ext (λ k. sym (homes_right k)))
        (pages snaps published roots room seats can.pages);
    leaves_stay_dead = λ s keys away. absurd (never_away away);
    splits_stay_dead = λ s i split less. absurd (true≢false split.1);
    kept = λ p s g at holds. subst (λ (x : Seat). IsSoundKept (opening_table snaps published roots room) g.holds x.kept) (at_replicated seats p (fresh_seat first) s at)
        (record { kept_is_held = λ part n. absurd (in_none part n); kept_fits = λ part n. absurd (in_none part n) });
    same_seats = replicated_length seats (fresh_seat first) fresh_grip;
  }
