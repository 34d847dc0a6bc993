-- Both halves of a split leaf are entered, look by look.
use Rattle.std.proofs.Common.{◌≡◌, ℕ, ◌<◌, false, List, [], ◌∷◌, ◌++◌, sym, ap, ◌∙◌, subst, Some, append_assoc}
use Rattle.std.specs.Prelude.{Ok, Err}
use Rattle.std.specs.List.{Contains}
use Rattle.drop_core.specs.Table.{has_slot}
use Rattle.engine_pages.specs.declared.view.Moved.{Moved}
use Rattle.engine_pages.specs.declared.view.Role.TheVariants.{Keeper}
use Rattle.engine_pages.specs.declared.view.View.{View}
use Rattle.engine_pages.specs.Layout.{page_at}
use Rattle.engine_pages.specs.Slots.{entered}
use Rattle.engine_pages.specs.Steps.{seen_at}
use Rattle.engine_pages.specs.Views.{IsActive}
use Rattle.tree_heads.specs.Headers.{HasTwinWays, IsTreeAt}
use Rattle.chain_steps.specs.declared.halves.Half.{Half}
use Rattle.page_drops.specs.declared.noting.Kept.{Kept}
use Rattle.page_drops.specs.Works.{HasGlanced}
use Rattle.tree_drops.specs.declared.chains.Split.{Split}
use Rattle.tree_drops.specs.Chains.{lower_of, split_header, upper_of, CanEnter, HasEnteredSo, HasMetOther, HasWordOf}
use Rattle.tree_drops.proofs.HalvesHeld.{ends_both, ends_first, ends_second, ends_third, free_so, inside_glanced}
use Rattle.tree_drops.proofs.HalvesHeld.{inside_lower, inside_met, inside_none, inside_upper, known_in, lower_free}
use Rattle.tree_drops.proofs.HalvesHeld.{met_at, page_in, role_in, seen_in, seen_met, slots_in, AreFree, Inside}

keeper_active : (v : View) → v.role ≡ Keeper → IsActive v.role
keeper_active v keeper = subst (λ r. IsActive r) (sym keeper) tt

-- behind a look nothing else is asked
pub can_glanced : (split : Split) (v w : View) → HasGlanced v w → CanEnter split v → CanEnter split w
can_glanced split v w h can =
    subst (λ (z : View). CanEnter split z) (sym h.is) record {
      keeper = can.keeper;
      slot = can.slot;
      page = record { way = can.page.way; tree = can.page.tree };
      moved = can.moved;
      has = can.has;
      same = can.same;
      minor = can.minor;
      major = can.major;
      separator = can.separator;
      low = can.low;
      high = can.high;
      seen = can.seen;
      held = can.held;
      parts = can.parts;
    }

module _ (split : Split) (v : View) (can : CanEnter split v) (upper lower : Half) (v1 v2 : View)
    (one : HasWordOf split 4 v upper v1) (two : HasWordOf split 3 v1 lower v2) where
  abbrev t : ℕ
  t = split.slot

  abbrev x : Moved
  x = can.moved

  upper-is : upper ≡ upper_of x split
  upper-is = one.1 x can.has can.same

  lower-is : lower ≡ lower_of x split
  lower-is = two.1 x (subst (λ (ms : List Moved). Contains ms x) (sym (ap (λ (z : View). z.moved) one.0.is)) can.has) can.same

  abbrev In : List Half → View → Type 0
  In = Inside split v can

  -- both words of the halves were looked at
  pub at_two : In [] v2
  at_two =
      inside_glanced split v can [] v1 v2 (inside_glanced split v can [] v v1 (inside_none split v can) one.0) two.0

  seen_two : seen_at v2.reads (page_at v2.layout.slots t 0) ≡ Some split_header
  seen_two =
      seen_in split v can [] v2 at_two
      (ap (λ (z : View). seen_at z.reads (page_at v.layout.slots t 0)) two.0.is
      ∙ (ap (λ (z : View). seen_at z.reads (page_at v.layout.slots t 0)) one.0.is ∙ can.seen))

  pub first_ends : (old : List Half) (k : Kept) (w : View) → HasMetOther split k v2 w → HasEnteredSo split old old (Err k) v w
  first_ends old k w o = ends_first split v can old k v2 w at_two o

  module _ (v3 : View) (met : HasTwinWays t split.span (page_at v2.layout.slots t 0) v2 split_header v3) where
    met-here : HasTwinWays t split.span (page_at v.layout.slots t 0) v2 split_header v3
    met-here = met_at split v can split_header [] v2 v3 at_two met

    free : AreFree split v can
    free = free_so split v can split_header v2 v3 at_two.on at_two.holds met-here

    at_three : In [] v3
    at_three = inside_met split v can split_header [] v2 v3 free at_two met-here

    pub active_three : IsActive v3.role
    active_three = keeper_active v3 (role_in split v can [] v3 at_three)

    pub slot_three : upper.slot < v3.layout.slots
    slot_three =
        subst (λ (h : Half). h.slot < v3.layout.slots) (sym upper-is)
        (subst (λ n. x.major < n) (sym (slots_in split v can [] v3 at_three)) can.major)

    pub unheld_three : has_slot v3.grip.holds upper.slot ≡ false
    unheld_three =
        ap (λ hs. has_slot hs upper.slot) at_three.holds
        ∙ (ap (λ (h : Half). has_slot v.grip.holds h.slot) upper-is ∙ free.major)

    module _ (v4 : View) (enters : v4 ≡ entered upper.slot v3) where
      at_four : In (upper_of x split ∷ []) v4
      at_four = inside_upper split v can v3 v4 at_three (enters ∙ ap (λ (h : Half). entered h.slot v3) upper-is)

      pub role_four : v4.role ≡ Keeper
      role_four = role_in split v can (upper_of x split ∷ []) v4 at_four

      pub page_four : IsTreeAt v4 t split.span
      page_four = page_in split v can (upper_of x split ∷ []) v4 at_four

      pub slot_four : t < v4.layout.slots
      slot_four = subst (λ n. t < n) (sym (slots_in split v can (upper_of x split ∷ []) v4 at_four)) can.slot

      pub known_four : (y : Moved) × Contains v4.moved y × (y.slot ≡ t)
      known_four = known_in split v can (upper_of x split ∷ []) v4 at_four

      pub seen_four : seen_at v4.reads (page_at v4.layout.slots t 0) ≡ Some split_header
      seen_four =
          seen_in split v can (upper_of x split ∷ []) v4 at_four
          (ap (λ (z : View). seen_at z.reads (page_at v.layout.slots t 0)) enters
          ∙ seen_met split v can split_header [] v2 v3 at_two met-here)

      pub second_ends : (old new : List Half) (k : Kept) (w : View) → new ≡ old ++ upper ∷ [] → HasMetOther split k v4 w
          → HasEnteredSo split old new (Err k) v w
      second_ends old new k w is o =
          ends_second split v can old new k v4 w free at_four (is ∙ ap (λ (h : Half). old ++ h ∷ []) upper-is) o

      module _ (v5 : View) (again : HasTwinWays t split.span (page_at v4.layout.slots t 0) v4 split_header v5) where
        again-here : HasTwinWays t split.span (page_at v.layout.slots t 0) v4 split_header v5
        again-here = met_at split v can split_header (upper_of x split ∷ []) v4 v5 at_four again

        at_five : In (upper_of x split ∷ []) v5
        at_five = inside_met split v can split_header (upper_of x split ∷ []) v4 v5 free at_four again-here

        other : has_slot (x.major ∷ v.grip.holds) x.minor ≡ false
        other =
            sym (ap (λ hs. has_slot hs x.minor) at_four.holds)
            ∙ lower_free split v can split_header v4 v5 at_four.on at_four.holds free again-here

        pub active_five : IsActive v5.role
        active_five = keeper_active v5 (role_in split v can (upper_of x split ∷ []) v5 at_five)

        pub slot_five : lower.slot < v5.layout.slots
        slot_five =
            subst (λ (h : Half). h.slot < v5.layout.slots) (sym lower-is)
            (subst (λ n. x.minor < n) (sym (slots_in split v can (upper_of x split ∷ []) v5 at_five)) can.minor)

        pub unheld_five : has_slot v5.grip.holds lower.slot ≡ false
        unheld_five =
            ap (λ hs. has_slot hs lower.slot) at_five.holds
            ∙ (ap (λ (h : Half). has_slot (x.major ∷ v.grip.holds) h.slot) lower-is ∙ other)

        module _ (v6 : View) (enters-too : v6 ≡ entered lower.slot v5) where
          at_six : In (upper_of x split ∷ lower_of x split ∷ []) v6
          at_six = inside_lower split v can v5 v6 at_five (enters-too ∙ ap (λ (h : Half). entered h.slot v5) lower-is)

          pub role_six : v6.role ≡ Keeper
          role_six = role_in split v can (upper_of x split ∷ lower_of x split ∷ []) v6 at_six

          pub page_six : IsTreeAt v6 t split.span
          page_six = page_in split v can (upper_of x split ∷ lower_of x split ∷ []) v6 at_six

          pub slot_six : t < v6.layout.slots
          slot_six =
              subst (λ n. t < n) (sym (slots_in split v can (upper_of x split ∷ lower_of x split ∷ []) v6 at_six)) can.slot

          pub known_six : (y : Moved) × Contains v6.moved y × (y.slot ≡ t)
          known_six = known_in split v can (upper_of x split ∷ lower_of x split ∷ []) v6 at_six

          pub seen_six : seen_at v6.reads (page_at v6.layout.slots t 0) ≡ Some split_header
          seen_six =
              seen_in split v can (upper_of x split ∷ lower_of x split ∷ []) v6 at_six
              (ap (λ (z : View). seen_at z.reads (page_at v.layout.slots t 0)) enters-too
              ∙ seen_met split v can split_header (upper_of x split ∷ []) v4 v5 at_four again-here)

          both-are : (old mid new : List Half) → mid ≡ old ++ upper ∷ [] → new ≡ mid ++ lower ∷ []
              → new ≡ old ++ upper_of x split ∷ lower_of x split ∷ []
          both-are old mid new first second =
              second
              ∙ (ap (λ (l : List Half). l ++ lower ∷ []) first
              ∙ (append_assoc old (upper ∷ []) (lower ∷ [])
              ∙ (ap (λ (h : Half). old ++ h ∷ lower ∷ []) upper-is ∙ ap (λ (h : Half). old ++ upper_of x split ∷ h ∷ []) lower-is)))

          pub third_ends : (old mid new : List Half) (k : Kept) (w : View) → mid ≡ old ++ upper ∷ [] → new ≡ mid ++ lower ∷ []
              → HasMetOther split k v6 w → HasEnteredSo split old new (Err k) v w
          third_ends old mid new k w first second o =
              ends_third split v can old new k v6 w free other at_six (both-are old mid new first second) o

          pub all_ends : (old mid new : List Half) (w : View) → mid ≡ old ++ upper ∷ [] → new ≡ mid ++ lower ∷ []
              → HasTwinWays t split.span (page_at v6.layout.slots t 0) v6 split_header w → HasEnteredSo split old new (Ok tt) v w
          all_ends old mid new w first second h =
              ends_both split v can old new v6 w free other at_six (both-are old mid new first second)
              (met_at split v can split_header (upper_of x split ∷ lower_of x split ∷ []) v6 w at_six h)
