-- The looks of one that holds a slot, one after another.
use Rattle.std.proofs.Common.{◌≡◌, ◌≢◌, ℕ, ◌-◌, ◌/◌, ◌^◌, ◌<◌, ◌≤◌, false, List, ◌∷◌, Some, sym, ap, ◌∙◌, subst, arith}
use Rattle.std.specs.List.{Contains}
use Rattle.homes.specs.declared.places.At.{At}
use Rattle.homes.specs.declared.places.Span.{Span}
use Rattle.drop_core.specs.Table.{has_slot}
use Rattle.engine_pages.specs.declared.view.KeptWhy.TheVariants.{Changed}
use Rattle.engine_pages.specs.declared.view.View.{View}
use Rattle.engine_pages.specs.declared.view.Way.{Way}
use Rattle.engine_pages.specs.Pointers.{HasFollowed, IsArrayPointerAt, half_of, page_half}
use Rattle.engine_pages.specs.Slots.{entered, left}
use Rattle.engine_pages.specs.Steps.{seen_at}
use Rattle.pointer_swings.specs.Renewals.{CanRenew, HasRenewed, renewed_word}
use Rattle.page_drops.specs.declared.noting.Kept.{Kept}
use Rattle.page_drops.specs.Calls.{CanVisit, HasIn, KeepsAbove, slots_on}
use Rattle.page_drops.specs.Works.{IsNoted}
use Rattle.page_drops.proofs.Holds.{Looked, can_renew_it, first_unheld, half_led, half_part, held_looked, held_renewed, keeps_turned_away}
use Rattle.page_drops.proofs.Holds.{look_entered, look_first, look_missed, look_other, look_same, pointer_in, slot_there, ways_first, ways_left}

-- two words with one upper half, and with two
half_same : (n m : ℕ) → 2 ^ 32 ≤ n → n < 2 ^ 60 → m / 2 ^ 32 ≡ n / 2 ^ 32 → half_of m ≡ Some (n / 2 ^ 32 - 1)
half_same n m low high same =
    half_led m (omega (arith, low, same)) (omega (arith, high, same))
    ∙ ap (λ (q : ℕ). Some (q - 1)) same

half_apart : (n m : ℕ) → 2 ^ 32 ≤ n → m / 2 ^ 32 ≢ n / 2 ^ 32 → half_of m ≡ Some (n / 2 ^ 32 - 1) → ⊥
half_apart n m low other half =
    let part = (half_part m (n / 2 ^ 32 - 1) half).1 in
    other (let same : m / 2 ^ 32 ≡ n / 2 ^ 32 = omega (arith, part, low) in same)

module _ (height : ℕ) (x : At) (sp : Span) (at page n : ℕ) (v a : View) (can : CanVisit height x sp at page v)
    (first : HasFollowed sp at v n a) (low : 2 ^ 32 ≤ n) (high : n < 2 ^ 60) where
  abbrev t : ℕ
  t = n / 2 ^ 32 - 1

  abbrev own : Way
  own = record { slot = t; span = sp }

  led : half_of n ≡ Some t
  led = half_led n low high

  pub fresh_slot : has_slot v.grip.holds t ≡ false
  fresh_slot = first_unheld height x sp at page n t v a can first led

  slot_low : t < v.layout.slots
  slot_low = slot_there sp at n t v a first led

  pub still_fresh : has_slot a.grip.holds t ≡ false
  still_fresh =
      ap (λ (l : List ℕ). has_slot l t)
      (ap (λ g. g.holds) (look_first height x sp at page n v a can first).grip)
      ∙ fresh_slot

  off_way : has_slot (slots_on v.ways) t ≡ false
  off_way = sym (ap (λ (l : List ℕ). has_slot l t) (can.bare).holds) ∙ fresh_slot

  module _ (u : View) (enter : u ≡ entered t a) where
    look_in : Looked at n (seen_at v.reads at) (t ∷ v.grip.holds) v.ways v u
    look_in =
        look_entered at n t (seen_at v.reads at) v.grip.holds v.ways v a u (look_first height x sp at page n v a can first) enter

    pub pointer_there_still : IsArrayPointerAt u x sp at
    pointer_there_still =
        pointer_in x sp at v u look_in.over (λ z has. subst (λ ws. Contains ws z) (sym look_in.path) has) can.place

    module _ (m : ℕ) (b : View) (second : HasFollowed sp at u m b) where
      pub again_same : m / 2 ^ 32 ≡ n / 2 ^ 32 → Looked at m (Some n) (t ∷ v.grip.holds) (own ∷ v.ways) v b
      again_same same =
          look_same sp at n m t (seen_at v.reads at) v u b look_in second (half_same n m low high same)

      pub again_other : m / 2 ^ 32 ≢ n / 2 ^ 32 → Looked at m (Some n) (t ∷ v.grip.holds) v.ways v b
      again_other other =
          look_other height x sp at page n m t (seen_at v.reads at) v u b can look_in second (half_apart n m low other)

      -- the pointer had changed
      pub keeps_other : (k : Kept) (c d : View) → m / 2 ^ 32 ≢ n / 2 ^ 32
          → k ≡ record { word = at; seen = m; why = Changed n } → IsNoted k b c → d ≡ left t c → KeepsAbove at k v d
      keeps_other k c d other is told leave =
          keeps_turned_away at m n t k v.ways v b c d can.bare (again_other other) is told
          (λ one. other (ap (λ (q : ℕ). q / 2 ^ 32) one)) led fresh_slot (ways_left v.ways t off_way) leave

      -- it names the newest snapshot's page
      pub holds_so : m / 2 ^ 32 ≡ n / 2 ^ 32 → (0 < page → page_half m ≡ page)
          → HasIn sp at page (record { slot = t; word = m }) v b
      holds_so same names =
          held_looked sp at page m t (Some n) v b (again_same same) slot_low fresh_slot (half_same n m low high same) names

      pub can_renew_so : m / 2 ^ 32 ≡ n / 2 ^ 32 → 0 < page → CanRenew b x sp at page m
      can_renew_so same some =
          can_renew_it height x sp at page m t (Some n) (t ∷ v.grip.holds) v b can (again_same same)
          (half_same n m low high same) some

      module _ (same : m / 2 ^ 32 ≡ n / 2 ^ 32) (found : ℕ) (c : View) (renews : HasRenewed at page m b found c) where
        pub missed_so : found ≢ m → Looked at found (Some m) (t ∷ v.grip.holds) (own ∷ v.ways) v c
        missed_so other = look_missed at page m found (Some n) (t ∷ v.grip.holds) (own ∷ v.ways) v b c (again_same same) renews other

        pub keeps_missed : (k : Kept) (d e : View) → found ≢ m → k ≡ record { word = at; seen = found; why = Changed m }
            → IsNoted k c d → e ≡ left t d → KeepsAbove at k v e
        keeps_missed k d e other is told leave =
            keeps_turned_away at found m t k (own ∷ v.ways) v c d e can.bare (missed_so other) is told other
            (half_same n m low high same) fresh_slot (ways_first v.ways t sp off_way) leave

        pub holds_renewed : found ≡ m → page < 2 ^ 32 → HasIn sp at page (record { slot = t; word = renewed_word m page }) v c
        holds_renewed one small =
            held_renewed sp at page m found t (Some n) v b c (again_same same) slot_low fresh_slot
            (half_same n m low high same) small renews one
