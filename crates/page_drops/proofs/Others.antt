-- A lock for which a leaf is kept isn't the pass's own.
use Rattle.std.proofs.Common.{◌≡◌, ◌≢◌, ℕ, ◌+◌, ◌*◌, ◌<◌, ◌≤◌, Bool, false, cond, eqb, eq-eqb, ne_eqb, [], ◌∷◌, ◌++◌, refl, sym, ap, ◌∙◌}
use Rattle.std.proofs.Common.{subst, arith}
use Rattle.std.specs.Prelude.{◌&&◌, MatchBool}
use Rattle.views.specs.Sums.{total, total-append}
use Rattle.serial_model.specs.declared.key.Key.{Key}
use Rattle.homes.specs.declared.places.Span.{Span}
use Rattle.homes.specs.declared.places.Spot.{Spot}
use Rattle.homes.specs.Homes.{same_key}
use Rattle.engine_pages.specs.declared.layout.Layout.{Layout}
use Rattle.engine_pages.specs.declared.view.KeptWhy.{KeptWhy}
use Rattle.engine_pages.specs.declared.view.KeptWhy.TheVariants.{Changed, Locked}
use Rattle.engine_pages.specs.declared.view.Role.TheVariants.{Keeper}
use Rattle.engine_pages.specs.declared.view.Touch.{Touch}
use Rattle.engine_pages.specs.declared.view.View.{View}
use Rattle.engine_pages.specs.Layout.{page_at}
use Rattle.engine_pages.specs.Steps.{read_at}
use Rattle.engine_pages.specs.Touches.{is_touch, takes, touch}
use Rattle.engine_pages.specs.Views.{seat_number}
use Rattle.page_records.specs.Locks.{Locked as HasLocked, locked}
use Rattle.pointer_swings.specs.Swings.{key_in}
use Rattle.page_drops.specs.declared.noting.Kept.{Kept}
use Rattle.page_drops.specs.Leaves.{LocksNone, LocksOne, MetOne, MetOthers}
use Rattle.page_drops.specs.Works.{HasGlanced, IsNoted, SawAlone}

-- ---- one record

-- it was locked
pub locks_one : (k key : Key) (x : Spot) (at number found : ℕ) (v u w : View) → k ≡ key → u.role ≡ Keeper → found ≡ number
    → HasGlanced v u → HasLocked k x at number u found w → LocksOne key v w
locks_one k key x at number found v u w same keeper hit glanced h =
    let is : w ≡ locked k x at found u =
    subst (λ c. MatchBool c (w ≡ locked k x at found u) (w ≡ read_at at found u)) (eq-eqb found number hit) h in
    ap (λ (z : View). z.touched) is
    ∙ (ap (λ list. list ++ touch (seat_number u.role) k ∷ []) (ap (λ (z : View). z.touched) glanced.is)
    ∙ (ap (λ q. v.touched ++ touch q k ∷ []) (ap seat_number keeper) ∙ ap (λ (y : Key). v.touched ++ touch 0 y ∷ []) same))

-- or met locked, or with another word
pub met_one : (t j at number found : ℕ) (k : Key) (x : Spot) (why : KeptWhy) (kept : Kept) (v u w z : View)
    → kept ≡ record { word = at; seen = found; why = why } → at ≡ page_at v.layout.slots t (2 * j) → found ≢ number
    → HasGlanced v u → HasLocked k x at number u found w → IsNoted kept w z → MetOne t j kept v z
met_one t j at number found k x why kept v u w z is place other glanced h told =
    let looked : w ≡ read_at at found u =
    subst (λ c. MatchBool c (w ≡ locked k x at found u) (w ≡ read_at at found u)) (ne_eqb found number other) h in (
      ap (λ (y : Kept). y.word) is ∙ place,
      ap (λ (y : View). y.touched) told.1
          ∙ (ap (λ (y : View). y.touched) looked ∙ ap (λ (y : View). y.touched) glanced.is),
    )

-- ---- the records of a leaf

pub none_locked : (sp : Span) (v : View) → LocksNone sp 0 v v
none_locked sp v i less = refl

other_key : (sp : Span) (i j : ℕ) → j < i → same_key (key_in sp j) (key_in sp i) ≡ false
other_key sp i j less =
    ap (λ (c : Bool). eqb sp.storage sp.storage && c) (ne_eqb (sp.low + j) (sp.low + i) (λ e. absurd (omega (arith, less, e))))
    ∙ ap (λ (c : Bool). c && false) (eq-eqb sp.storage sp.storage refl)

-- a lock of another key isn't counted
pub next_free : (sp : Span) (j : ℕ) (v u w : View) → LocksNone sp j v u → LocksOne (key_in sp j) u w → LocksNone sp (j + 1) v w
next_free sp j v u w before one i less =
    let own : Touch = touch 0 (key_in sp j) in
    let none : is_touch 0 (key_in sp i) own ≡ 0 =
    ap (λ (c : Bool). cond (eqb 0 0 && c) 1 0) (other_key sp i j (omega (arith, less))) in
    let more = total-append (is_touch 0 (key_in sp i)) u.touched (own ∷ []) in
    let is : takes 0 (key_in sp i) w ≡ total (is_touch 0 (key_in sp i)) (u.touched ++ own ∷ []) =
    ap (total (is_touch 0 (key_in sp i))) one in
    let was = before i (omega (arith, less)) in omega (arith, is, more, none, was)

same_index : (slots t i j : ℕ) → page_at slots t (2 * i) ≡ page_at slots t (2 * j) → j ≤ i
same_index slots t i j same = omega (arith, same)

-- behind locks of records before it, and their opening
pub met_others : (t j : ℕ) (sp : Span) (k : Kept) (v u w z : View) → u.layout ≡ v.layout → LocksNone sp j v u → MetOne t j k u w
    → SawAlone w z → MetOthers sp t k v z
met_others t j sp k v u w z layout free one last why i at =
    let here : k.word ≡ page_at v.layout.slots t (2 * j) = one.0 ∙ ap (λ (l : Layout). page_at l.slots t (2 * j)) layout in
    ap (total (is_touch 0 (key_in sp i))) (last.none ∙ one.1)
    ∙ free i (same_index v.layout.slots t i j (sym at ∙ here))

-- where none was locked
pub met_alone : (t : ℕ) (sp : Span) (k : Kept) (v w : View) → SawAlone v w → MetOthers sp t k v w
met_alone t sp k v w h why i at = ap (total (is_touch 0 (key_in sp i))) h.none

pub met_then : (t : ℕ) (sp : Span) (k : Kept) (v u w : View) → u.layout ≡ v.layout → SawAlone v u → MetOthers sp t k u w
    → MetOthers sp t k v w
met_then t sp k v u w layout first h why i at =
    h why i (at ∙ sym (ap (λ (l : Layout). page_at l.slots t (2 * i)) layout)) ∙ ap (total (is_touch 0 (key_in sp i))) first.none

-- a pointer that had changed is no lock
pub met_pointer : (t at seen expected : ℕ) (sp : Span) (k : Kept) (v w : View)
    → k ≡ record { word = at; seen = seen; why = Changed expected } → MetOthers sp t k v w
met_pointer t at seen expected sp k v w is why i place =
    let other : Locked ≡ Changed expected = sym why ∙ ap (λ (y : Kept). y.why) is in absurd (cc)
