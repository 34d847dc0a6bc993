-- Where the words of an interior page's pointers stand, and why it is kept.
use Rattle.std.proofs.Common.{◌≡◌, ◌≢◌, ℕ, zero, suc, ◌+◌, ◌/◌, ◌<◌, ◌≤◌, ◌^◌, Bool, true, false, List, get_or, refl, sym, ap, ◌∙◌, subst, arith}
use Rattle.std.proofs.Common.{Option, Some, None, cond}
use Rattle.std.proofs.lemmas.Bool.{lt-ltb}
use Rattle.std.specs.Prelude.{nat_lt}
use Rattle.homes.specs.declared.places.Span.{Span}
use Rattle.snapshot_store.specs.ArrayPages.{indexes_at, last_at}
use Rattle.snapshot_store.specs.Places.{page as page_words}
use Rattle.engine_pages.specs.declared.engine.Engine.{Engine}
use Rattle.engine_pages.specs.declared.layout.Layout.{Layout}
use Rattle.engine_pages.specs.declared.view.KeptWhy.TheVariants.{Locked, Unlike, Under}
use Rattle.engine_pages.specs.declared.view.View.{View}
use Rattle.engine_pages.specs.Layout.{page_at, words_of}
use Rattle.engine_pages.specs.Pages.{is_leaf_span}
use Rattle.engine_pages.specs.Passes.{IsPassOf, Pass, view}
use Rattle.engine_pages.specs.Pointers.{half_of, slot_half}
use Rattle.dual_pointer.proofs.SnapWords.{wide_range}
use Rattle.page_drops.specs.Inner.{AtInner, IsInnerCause, WentOn, shut_row}
use Rattle.page_drops.proofs.Inners.{words_went}

-- a page above leaves is over at least as many keys as it has pointers
indexes_some : (height : ℕ) → 1 ≤ indexes_at height
indexes_some zero = omega arith
indexes_some (suc height) = let some = indexes_some height in omega (arith, some)

wide_at : (sp : Span) (height : ℕ) → is_leaf_span sp ≡ false → sp.high ≡ sp.low + last_at height → sp.low + 63 ≤ sp.high
wide_at sp zero inner exact = absurd (omega (arith, exact, wide_range sp inner))
wide_at sp (suc height) inner exact = omega (arith, exact, indexes_some height)

pub wide : (t page : ℕ) (sp : Span) (v : View) → AtInner t sp page v → sp.low + 63 ≤ sp.high
wide t page sp v h = wide_at sp h.height h.inner h.exact

-- the word as another view has it
pub pointer_word : (e : Engine) (p : Pass) (u : View) (t j at : ℕ) → IsPassOf e p → WentOn (view p) u
    → at ≡ page_at e.table.shared.key.slots t j → at ≡ page_at u.layout.slots t j
pointer_word e p u t j at of went word =
    word ∙ (ap (λ (y : Layout). page_at y.slots t j) (sym of.layout) ∙ ap (λ (z : View). page_at z.layout.slots t j) (sym went.shut))

-- it is one of the table: 32 + slots + 64 * t + j, and the pages of slots end at 32 + 65 * slots
pub in_table : (e : Engine) (p : Pass) (u : View) (t j at : ℕ) → IsPassOf e p → WentOn (view p) u → t < (view p).layout.slots
    → j < 64 → at ≡ page_at e.table.shared.key.slots t j → at < words_of u.layout
in_table e p u t j at of went slot few word =
    let is = pointer_word e p u t j at of went word in
    let low : t < u.layout.slots = subst (λ (z : View). t < z.layout.slots) (sym went.shut) slot in
    omega (arith, is, low, few)

pub row_words_went : (t page n : ℕ) (v u : View) → WentOn v u → v.shuts ≡ shut_row t (page_words v.pages page) n
    → v.shuts ≡ shut_row t (page_words u.pages page) n
row_words_went t page n v u went row = row ∙ ap (λ ws. shut_row t ws n) (sym (words_went page v u went))

-- ---- causes

pub is_shut : (slots t j at seen : ℕ) (words : List ℕ) → j < 64 → at ≡ page_at slots t j → 2 ^ 60 ≤ seen
    → IsInnerCause slots t words Locked at seen
is_shut slots t j at seen words few word high = (j, few, word, high)

pub is_elsewhere : (slots t j at seen n : ℕ) (words : List ℕ) → j < 64 → at ≡ page_at slots t j → seen < 2 ^ 32
    → n ≡ get_or words j 0 → seen ≢ n → IsInnerCause slots t words Unlike at seen
is_elsewhere slots t j at seen n words few word low is other = (j, few, word, low, λ same. other (same ∙ sym is))

-- an open pointer with a slot in its word leads to it
slot_some : (q : ℕ) → 0 < q → (u : ℕ) × (slot_half q ≡ Some u)
slot_some zero some = absurd (omega (arith, some))
slot_some (suc u) some = (u, refl)

leads_so : (n : ℕ) → 2 ^ 32 ≤ n → n < 2 ^ 60 → (u : ℕ) × (half_of n ≡ Some u)
leads_so n high low =
    let some : 0 < n / 2 ^ 32 = omega (arith, high) in
    let slot = slot_some (n / 2 ^ 32) some in
    let open-so : nat_lt n (2 ^ 60) ≡ true = lt-ltb n (2 ^ 60) low in (
      slot.0,
      ap (λ (b : Bool). let o : Option ℕ = cond b (slot_half (n / 2 ^ 32)) None in o) open-so ∙ slot.1,
    )

pub is_under : (slots t j at seen : ℕ) (words : List ℕ) → j < 64 → at ≡ page_at slots t j → 2 ^ 32 ≤ seen → seen < 2 ^ 60
    → IsInnerCause slots t words Under at seen
is_under slots t j at seen words few word high low = (j, few, word, leads_so seen high low)

-- a word of the table stays one
pub inside_went : (v w : View) (at : ℕ) → WentOn v w → at < words_of v.layout → at < words_of w.layout
inside_went v w at went low = subst (λ (z : View). at < words_of z.layout) (sym went.shut) low
