-- The pages of a chain but the first one are halves of leaves that were split, as a note of them asks.
use Rattle.std.proofs.Common.{◌≡◌, inl, inr, ℕ, suc, ◌<◌, List, [], ◌∷◌, length, refl, sym, ap, ◌∙◌, arith, Some}
use Rattle.std.specs.List.{Contains, slice_get}
use Rattle.lists.specs.Elements.{in_cases, in_none}
use Rattle.homes.specs.declared.places.Span.{Span}
use Rattle.engine_pages.specs.declared.view.View.{View}
use Rattle.chain_steps.specs.declared.halves.Half.{Half}
use Rattle.chain_steps.specs.Notes.{AreOnce, HasHalves}
use Rattle.chain_steps.specs.Swings.{slots_of}
use Rattle.tree_drops.specs.Chains.{AreFresh}
use Rattle.tree_drops.specs.Releases.{HoldsHalves}
use Rattle.tree_drops.proofs.ChainDone.{held_in}
use Rattle.tree_drops.proofs.ChainLeft.{fresh_other}
use Rattle.tree_drops.proofs.ChainSwung.{some_at}

-- slots that are entered one after another are different ones
once_of : (holds slots : List ℕ) → AreFresh holds slots → AreOnce slots
once_of holds [] fresh = tt
once_of holds (u ∷ slots) fresh = (λ has. fresh_other u u holds slots fresh.1 has refl, once_of (u ∷ holds) slots fresh.1)

slots_long : (halves : List Half) → length (slots_of halves) ≡ length halves
slots_long [] = refl
slots_long (h ∷ halves) = ap suc (slots_long halves)

half_there : (halves : List Half) (u : ℕ) → Contains (slots_of halves) u
    → (j : ℕ) × (h : Half) × (slice_get halves j ≡ Some h) × (h.slot ≡ u) × (j < length halves)
half_there [] u has = absurd (in_none u has)
half_there (h ∷ halves) u has = elim (in_cases u h.slot (slots_of halves) has) [
  | inl same ↦ (0, h, refl, same, omega arith)
  | inr more ↦
      let x = half_there halves u more in
      let less = x.4 in (suc x.0, x.1, x.2, x.3, omega (arith, less))
]

pub halves_held : (t count : ℕ) (sp : Span) (halves : List Half) (splits : List ℕ) (a v : View)
    → HoldsHalves t sp halves splits a v → count ≡ length halves → HasHalves count v
halves_held t count sp halves splits a v h many = (
  slots_of halves,
  slots_long halves ∙ sym many,
  record {
    once = once_of a.grip.holds (slots_of halves) h.fresh;
    held = λ u has. held_in (slots_of halves) a.grip.holds v.grip.holds h.holds u has;
    came = λ u has.
        let x = half_there halves u has in
        let less = x.4 in
        let paired = h.paired in
        let s = some_at splits x.0 (omega (arith, less, paired)) in
        let c = (h.came x.0 x.1 s.0 x.2 s.1).1 in
        (c.moved, c.has, elim c.leads [ inl minor ↦ inl (sym x.3 ∙ minor) | inr major ↦ inr (sym x.3 ∙ major) ]);
  },
)
