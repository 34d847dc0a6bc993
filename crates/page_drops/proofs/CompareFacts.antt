-- The views between the steps of a comparison.
use Rattle.std.proofs.Common.{◌≡◌, ◌≢◌, inl, inr, ℕ, ◌+◌, ◌*◌, ◌<◌, ◌≤◌, ◌^◌, false, List, get_or, refl, sym, ap, ◌∙◌}
use Rattle.std.proofs.Common.{arith}
use Rattle.serial_model.specs.declared.key.Key.{Key}
use Rattle.homes.specs.declared.places.Span.{Span}
use Rattle.snapshot_store.specs.Places.{page as page_words}
use Rattle.commit_core.specs.CoreState.{is_trying}
use Rattle.engine_pages.specs.declared.engine.Engine.{Engine}
use Rattle.engine_pages.specs.declared.layout.Layout.{Layout}
use Rattle.engine_pages.specs.declared.view.KeptWhy.{KeptWhy}
use Rattle.engine_pages.specs.declared.view.KeptWhy.TheVariants.{Locked, Unlike}
use Rattle.engine_pages.specs.declared.view.View.{View}
use Rattle.engine_pages.specs.Layout.{page_at}
use Rattle.engine_pages.specs.Passes.{IsPassOf, Pass, view}
use Rattle.engine_pages.specs.Records.{IsRecordAt}
use Rattle.engine_pages.specs.Views.{IsActive}
use Rattle.engine_pages.specs.Words.{spot}
use Rattle.pointer_swings.specs.Swings.{key_in}
use Rattle.page_drops.specs.declared.noting.Kept.{Kept}
use Rattle.page_drops.specs.Leaves.{AtLeaf}
use Rattle.page_drops.specs.Works.{HasGlanced, IsLeafCause, IsNoted, KeepsLeaf, WorkedOn}
use Rattle.page_drops.proofs.Compares.{record_here}
use Rattle.page_drops.proofs.Looks.{JustSaw, keeps_it, leaf_worked}
use Rattle.page_drops.proofs.Notes.{keeper_active}

-- the pass may step, and has no attempt
pub ready : (t page : ℕ) (sp : Span) (v u : View) → WorkedOn v u → AtLeaf t sp page v
    → IsActive u.role × (is_trying u.seat.stage ≡ false)
ready t page sp v u worked h =
    let at = leaf_worked t page sp v u worked h in
    (keeper_active u.role at.keeper, ap is_trying at.idle)

-- the record stands where the code finds it
pub found_here : (e : Engine) (p : Pass) (t page i at : ℕ) (sp : Span) (u : View) (k : Key) → IsPassOf e p
    → AtLeaf t sp page (view p) → WorkedOn (view p) u → i < 32 → at ≡ page_at e.table.shared.key.slots t (2 * i)
    → k ≡ key_in sp i → IsRecordAt u k (spot t i) at
found_here e p t page i at sp u k of h worked few word key =
    record_here t page i at sp u (spot t i) (leaf_worked t page sp (view p) u worked h) few refl
    (word ∙ (ap (λ (y : Layout). page_at y.slots t (2 * i)) (sym of.layout)
    ∙ ap (λ (z : View). page_at z.layout.slots t (2 * i)) (sym worked))) k key

-- the word as the view has it
pub word_here : (e : Engine) (p : Pass) (t i at : ℕ) → IsPassOf e p → at ≡ page_at e.table.shared.key.slots t i
    → at ≡ page_at (view p).layout.slots t i
word_here e p t i at of word = word ∙ ap (λ (y : Layout). page_at y.slots t i) (sym of.layout)

-- a page that is kept for the word seen
pub keeps_leaf : (t page word seen : ℕ) (why : KeptWhy) (v u w : View) (k : Kept)
    → k ≡ record { word = word; seen = seen; why = why } → JustSaw v u word seen → IsNoted k u w
    → IsLeafCause v.layout.slots t (page_words v.pages page) why word seen → KeepsLeaf t page k v w
keeps_leaf t page word seen why v u w k is saw told so =
    keeps_it (IsLeafCause v.layout.slots t (page_words v.pages page)) v u w word seen why k is saw told so

-- a word of the snapshot page that was loaded later
pub word_then : (page i n : ℕ) (v u : View) → HasGlanced v u → n ≡ get_or (page_words u.pages page) i 0
    → n ≡ get_or (page_words v.pages page) i 0
word_then page i n v u glanced is = is ∙ ap (λ (z : View). get_or (page_words z.pages page) i 0) glanced.is

-- ---- causes

pub is_locked : (slots t i at seen : ℕ) (words : List ℕ) → i < 32 → at ≡ page_at slots t (2 * i) → 2 ^ 60 ≤ seen
    → IsLeafCause slots t words Locked at seen
is_locked slots t i at seen words few word high = (i, few, word, high)

pub is_unlike : (slots t i at seen number : ℕ) (words : List ℕ) → i < 32 → at ≡ page_at slots t (2 * i) → seen < 2 ^ 60
    → number ≡ get_or words (2 * i) 0 → seen ≢ number → IsLeafCause slots t words Unlike at seen
is_unlike slots t i at seen number words few word low is other =
    (i, few, inl (word, low, (λ same. other (same ∙ sym is))))

pub is_valued : (slots t i at seen value : ℕ) (words : List ℕ) → i < 32 → at ≡ page_at slots t (2 * i)
    → value ≡ get_or words (2 * i + 1) 0 → seen ≢ value → IsLeafCause slots t words Unlike (at + 1) seen
is_valued slots t i at seen value words few word is other =
    (i, few, inr ((omega (arith, word)), (λ same. other (same ∙ sym is))))
