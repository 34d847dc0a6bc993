-- The next page of a chain is looked at, step by step.
use Rattle.std.proofs.Common.{◌≡◌, ◌≢◌, ℕ, ◌^◌, ◌<◌, ◌≤◌, Bool, true, false, eqb, List, length, refl, sym, ap, ◌∙◌}
use Rattle.std.proofs.Common.{subst, arith, inl, Some}
use Rattle.std.specs.List.{Contains}
use Rattle.lists.specs.Elements.{at_in}
use Rattle.engine_pages.specs.Steps.{glance}
use Rattle.std.specs.Prelude.{nat_lt, MatchBool, Ok, Err}
use Rattle.std.proofs.lemmas.Bool.Decides.{nat_tests}
use Rattle.homes.specs.declared.places.Span.{Span}
use Rattle.engine_pages.specs.declared.layout.Layout.{Layout}
use Rattle.engine_pages.specs.declared.view.KeptWhy.{KeptWhy}
use Rattle.engine_pages.specs.declared.view.KeptWhy.TheVariants.{Locked, Unlike}
use Rattle.engine_pages.specs.declared.view.Role.TheVariants.{Keeper}
use Rattle.engine_pages.specs.declared.view.View.{View}
use Rattle.engine_pages.specs.Layout.{page_at}
use Rattle.engine_pages.specs.Views.{IsActive}
use Rattle.tree_heads.specs.Headers.{kind_of, moved_bit, HasHeader, HasTwins, Headed, IsTreeAt}
use Rattle.chain_steps.specs.declared.halves.Half.{Half}
use Rattle.page_drops.specs.declared.noting.Kept.{Kept}
use Rattle.page_drops.specs.Works.{HasSeenLast, IsForeign, IsNoted}
use Rattle.page_drops.proofs.Dues.{no_more}
use Rattle.drop_core.specs.Table.{has_slot}
use Rattle.std.proofs.Common.{true≢false}
use Rattle.tree_drops.specs.declared.chains.Split.{Split}
use Rattle.tree_drops.specs.Chains.{span_in, CanEnter, CanLook, CanPart, HasEnteredSo, HasLooked, HasParted}
use Rattle.tree_drops.specs.Chains.{IsSplitAt}
use Rattle.tree_drops.proofs.Chaining.{layout_chained, role_chained}
use Rattle.tree_drops.proofs.Dues.{no_head}
use Rattle.tree_drops.proofs.NextPages.{at_page, headed_children, headed_leaf, headed_twins, high_twins, keys_leaf}
use Rattle.tree_drops.proofs.NextPages.{kept_look, last_now, looked_both, looked_leaf, looked_parted, looked_turned}
use Rattle.tree_drops.proofs.NextPages.{low_leaf, split_glanced, HasHeaded}
use Rattle.tree_drops.proofs.Opens.{children_of, leaf_of}
use Rattle.tree_drops.proofs.SplitPages.{at_glanced, can_enter, can_part, AtPage}

module _ (t : ℕ) (sp : Span) (halves : List Half) (splits headers : List ℕ) (h : Half) (a v : View)
    (can : CanLook t sp halves splits headers h a v) (storage : ℕ) (same : sp.storage ≡ storage) where
  -- the keys of the page, as the call has them
  abbrev keys : Span
  keys = record { storage = storage; low = h.low; high = h.high }

  keys-are : span_in sp h ≡ keys
  keys-are = ap (λ k. let z : Span = record { storage = k; low = h.low; high = h.high } in z) same

  there : Contains halves h
  there = at_in halves (length headers) h can.next

  pub slot_ok : h.slot < v.layout.slots
  slot_ok = (can.held.inside h there).2

  pub page_ok : IsTreeAt v h.slot keys
  page_ok = subst (λ (z : Span). IsTreeAt v h.slot z) keys-are record { way = can.found.way h there; tree = can.tree }

  pub active_ok : IsActive v.role
  active_ok = subst (λ r. IsActive r) (sym can.keeper) tt

  module _ (at n : ℕ) (u : View) (place : at ≡ page_at v.layout.slots h.slot 0) (loads : Headed h.slot keys at v n u) where
    head : Headed h.slot (span_in sp h) at v n u
    head = subst (λ (z : Span). Headed h.slot z at v n u) (sym keys-are) loads

    leaf : kind_of n ≡ 1
        → MatchBool (nat_lt n moved_bit) (HasHeader h.slot (span_in sp h) at v n u) (HasTwins h.slot (span_in sp h) at v n u)
    leaf one = leaf_of h.slot at n (span_in sp h) v u place one head

    low_is : kind_of n ≡ 1 → n < 2 ^ 62 → HasHeader h.slot (span_in sp h) at v n u
    low_is one low = low_leaf h.slot at n (span_in sp h) v u low (leaf one)

    high_is : kind_of n ≡ 1 → 2 ^ 62 ≤ n → HasTwins h.slot (span_in sp h) at v n u
    high_is one high = high_twins h.slot at n (span_in sp h) v u high (leaf one)

    -- whatever it is
    headed_as : (b c : Bool) → eqb (kind_of n) 1 ≡ b → nat_lt n moved_bit ≡ c → HasHeaded at n v u
    headed_as true true one low =
        headed_leaf h.slot at n (span_in sp h) v u
        (low_is (let is : kind_of n ≡ 1 = grind (arith, nat_tests) in is) (let less : n < 2 ^ 62 = grind (arith, nat_tests) in less))
    headed_as true false one low =
        headed_twins h.slot at n (span_in sp h) v u
        (high_is (let is : kind_of n ≡ 1 = grind (arith, nat_tests) in is) (let most : 2 ^ 62 ≤ n = grind (arith, nat_tests) in most))
    headed_as false c other low =
        headed_children h.slot at n v u
        (children_of h.slot at n (span_in sp h) v u place (λ one. (let no : ⊥ = grind (arith, nat_tests) in no)) head)

    headed : HasHeaded at n v u
    headed = headed_as (eqb (kind_of n) 1) (nat_lt n moved_bit) refl refl

    pub keeper_now : u.role ≡ Keeper
    keeper_now = role_chained v u headed.looks.on ∙ can.keeper

    pub last_look : (why : KeptWhy) → HasSeenLast u (record { word = at; seen = n; why = why })
    last_look why = last_now t sp halves splits headers h a v can at n u place headed why

    -- a lock that is found is somebody else's
    pub locked_due : IsForeign u at n
    locked_due =
        let looks = headed.looks in record {
          records = λ y has. absurd (no_more y u.took (looks.took ∙ can.bare.took) has);
          heads = λ y has. absurd (no_more y u.heads (looks.heads ∙ can.bare.heads) has);
          sealed = λ s has same-word.
              absurd (true≢false (sym has ∙ ap (λ (l : List ℕ). has_slot l s) (looks.sealed ∙ can.bare.sealed)));
          shuts = λ y has.
              absurd (no_more y u.shuts (ap (λ (z : View). z.shuts) looks.on.chains ∙ can.bare.shuts) has);
          alive = λ y j has less same-word.
              absurd (no_head u.layout.slots y.slot h.slot j less
              (sym same-word
              ∙ (place ∙ ap (λ (l : Layout). page_at l.slots h.slot 0) (sym (layout_chained v u looks.on)))));
        }

    pub other_ends : (k : Kept) (w : View) → kind_of n ≢ 1 → k ≡ record { word = at; seen = n; why = Unlike } → IsNoted k u w
        → HasLooked t sp headers halves halves (Err k) a v w
    other_ends k w other is notes =
        kept_look t sp halves splits headers h a v can at n u place headed Unlike k w is notes (place, inl other)

    pub locked_ends : (k : Kept) (w : View) → kind_of n ≡ 1 → 2 ^ 60 ≤ n → n < 2 ^ 62 → k ≡ record { word = at; seen = n; why = Locked }
        → IsNoted k u w → HasLooked t sp headers halves halves (Err k) a v w
    locked_ends k w one low high is notes =
        kept_look t sp halves splits headers h a v can at n u place headed Locked k w is notes
        (place, (let few = (low_is one high).few in omega (arith, low, few)))

    pub leaf_ends : kind_of n ≡ 1 → n < 2 ^ 60 → HasLooked t sp headers halves halves (Ok n) a v u
    leaf_ends one low =
        looked_leaf t sp halves splits headers h a v can at n u place headed
        (keys_leaf h.slot at n (span_in sp h) v u (low_is one (omega (arith, low)))) one low

    module _ (one : kind_of n ≡ 1) (high : 2 ^ 62 ≤ n) where
      page : AtPage t sp halves splits h n a u
      page = at_page t sp halves splits headers h a v can at n u place headed (high_is one high) high one

      pub part_ok : CanPart h.slot keys n u
      part_ok =
          subst (λ (z : Span). CanPart h.slot z n u) keys-are
          (can_part t sp halves splits h n a u page v.steps
          (headed.last ∙ ap (λ k. Some (glance v.steps k n)) here))
        where
          here : at ≡ page_at u.layout.slots h.slot 0
          here =
              place
              ∙ ap (λ (l : Layout). page_at l.slots h.slot 0)
              (sym (layout_chained v u headed.looks.on))

      pub parted_ends : (k : Kept) (w : View) → HasParted h.slot keys n (Err k) u w → HasLooked t sp headers halves halves (Err k) a v w
      parted_ends k w parted =
          looked_parted t sp halves splits headers h a v can at n u place headed page k w
          (subst (λ (z : Span). HasParted h.slot z n (Err k) u w) (sym keys-are) parted)

      module _ (split : Split) (z : View) (parted : HasParted h.slot keys n (Ok split) u z) where
        is : IsSplitAt h.slot (span_in sp h) n split u
        is = subst (λ (y : Span). IsSplitAt h.slot y n split u) (sym keys-are) parted.1

        pub enter_ok : CanEnter split z
        enter_ok =
            can_enter t sp halves splits h n a z (at_glanced t sp halves splits h n a u z page parted.0) split
            (split_glanced h.slot n (span_in sp h) split u z parted.0 is)

        pub turned_ends : (new : List Half) (k : Kept) (w : View) → HasEnteredSo split halves new (Err k) z w
            → HasLooked t sp headers halves new (Err k) a v w
        turned_ends new k w entered =
            looked_turned t sp halves splits headers h a v can at n u place headed page split z parted.0 is new k w entered

        pub both_ends : (new : List Half) (w : View) → HasEnteredSo split halves new (Ok tt) z w → HasLooked t sp headers halves new (Ok n) a v w
        both_ends new w both =
            looked_both t sp halves splits headers h a v can at n u place headed page split z parted.0 is new w both
