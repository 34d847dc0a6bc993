-- What a split leaves of the view.
use Rattle.std.proofs.Common.{◌≡◌, ◌≢◌, ℕ, Bool, true, false, cond, eqb, List, [], ◌∷◌, refl, sym, ap}
use Rattle.std.proofs.Common.{◌∙◌, eq-eqb, ne_eqb}
use Rattle.std.specs.Prelude.{not, filter, ◌||◌}
use Rattle.std.specs.List.{Contains}
use Rattle.lists.specs.Elements.{in_head, in_tail}
use Rattle.serial_model.specs.declared.key.Key.{Key}
use Rattle.homes.specs.declared.places.Span.{Span}
use Rattle.homes.specs.Homes.{has_key}
use Rattle.commit_core.specs.declared.seat.Seat.{Seat}
use Rattle.commit_core.specs.declared.seat.Stage.TheVariants.{Idle}
use Rattle.commit_core.specs.CoreState.{settled}
use Rattle.drop_core.specs.Event.{without}
use Rattle.drop_core.specs.Table.{has_slot}
use Rattle.engine_pages.specs.declared.view.NewLeaf.{NewLeaf}
use Rattle.engine_pages.specs.declared.view.Took.{Took}
use Rattle.engine_pages.specs.declared.view.Way.{Way}
use Rattle.engine_pages.specs.Pointers.{ways_if}
use Rattle.foster_tree.proofs.OpenLaws.{settled_idle}

-- ---- lists that are emptied

-- each item fails the test
pub filter_none : {A : Type 0} (p : A → Bool) (xs : List A) → ((x : A) → Contains xs x → p x ≡ false) → filter p xs ≡ []
filter_none p [] each = refl
filter_none p (x ∷ xs) each =
    ap (λ (b : Bool). cond b (x ∷ filter p xs) (filter p xs)) (each x (in_head x xs))
    ∙ filter_none p xs (λ y has. each y (in_tail y x xs has))

-- two slots are taken out
pub without_both : (minor major : ℕ) → minor ≢ major → without (without (major ∷ minor ∷ []) minor) major ≡ []
without_both minor major apart =
    ap (λ (b : Bool). without (cond (not b) (major ∷ without (minor ∷ []) minor) (without (minor ∷ []) minor)) major)
    (ne_eqb major minor (λ e. apart (sym e)))
    ∙ (ap (λ (b : Bool). without (major ∷ cond (not b) (minor ∷ []) []) major) (eq-eqb minor minor refl)
    ∙ ap (λ (b : Bool). cond (not b) (major ∷ []) []) (eq-eqb major major refl))

-- so are two leaves
pub leaves_both : (a b : NewLeaf) → a.slot ≢ b.slot
    → filter (λ (x : NewLeaf). not (eqb x.slot a.slot)) (filter (λ (x : NewLeaf). not (eqb x.slot b.slot)) (b ∷ a ∷ [])) ≡ []
leaves_both a b apart =
    ap (λ (c : Bool). filter (λ (x : NewLeaf). not (eqb x.slot a.slot))
    (cond (not c) (b ∷ filter (λ (x : NewLeaf). not (eqb x.slot b.slot)) (a ∷ []))
    (filter (λ (x : NewLeaf). not (eqb x.slot b.slot)) (a ∷ [])))) (eq-eqb b.slot b.slot refl)
    ∙ (ap (λ (c : Bool). filter (λ (x : NewLeaf). not (eqb x.slot a.slot)) (cond (not c) (a ∷ []) []))
    (ne_eqb a.slot b.slot apart)
    ∙ ap (λ (c : Bool). cond (not c) (a ∷ []) []) (eq-eqb a.slot a.slot refl))

-- ---- the half that is held

-- the one slot that was entered is held, the other one isn't
pub held_minor : (minor major : ℕ) (holds : List ℕ) → minor ≢ major → has_slot holds major ≡ false
    → (has_slot (minor ∷ holds) minor ≡ true) × (has_slot (minor ∷ holds) major ≡ false)
held_minor minor major holds apart unheld = (
  ap (λ (b : Bool). b || has_slot holds minor) (eq-eqb minor minor refl),
  ap (λ (b : Bool). b || has_slot holds major) (ne_eqb minor major apart) ∙ unheld,
)

-- the ways with the half that is held
pub ways_minor : (minor major : ℕ) (low high : Span) (holds : List ℕ) (ways : List Way) → minor ≢ major
    → has_slot holds major ≡ false
    → ways_if (has_slot (minor ∷ holds) minor) minor low (ways_if (has_slot (minor ∷ holds) major) major high ways)
    ≡ record { slot = minor; span = low } ∷ ways
ways_minor minor major low high holds ways apart unheld =
    let h = held_minor minor major holds apart unheld in
    ap (λ (b : Bool). ways_if b minor low (ways_if (has_slot (minor ∷ holds) major) major high ways)) h.0
    ∙ ap (λ (b : Bool). ways_if true minor low (ways_if b major high ways)) h.1

pub ways_major : (minor major : ℕ) (low high : Span) (holds : List ℕ) (ways : List Way) → minor ≢ major
    → has_slot holds minor ≡ false
    → ways_if (has_slot (major ∷ holds) minor) minor low (ways_if (has_slot (major ∷ holds) major) major high ways)
    ≡ record { slot = major; span = high } ∷ ways
ways_major minor major low high holds ways apart unheld =
    let h = held_minor major minor holds (λ e. apart (sym e)) unheld in
    ap (λ (b : Bool). ways_if b minor low (ways_if (has_slot (major ∷ holds) major) major high ways)) h.1
    ∙ ap (λ (b : Bool). ways_if b major high ways) h.0

-- ---- the seat

-- all locks of records that moved are gone
pub seat_after : (s : Seat) (keys all : List Key) → s.locks ≡ keys → s.stage ≡ Idle
    → ((k : Key) → Contains keys k → has_key all k ≡ true)
    → settled (record s { locks = filter (λ q. not (has_key all q)) s.locks }) ≡ record s { locks = [] }
seat_after s keys all locks idle each =
    ap (λ (l : List Key). settled (record s { locks = filter (λ q. not (has_key all q)) l })) locks
    ∙ (ap (λ (l : List Key). settled (record s { locks = l }))
    (filter_none (λ (q : Key). not (has_key all q)) keys (λ q has. ap not (each q has)))
    ∙ settled_idle (record s { locks = [] }) idle)

-- and what they found
pub took_after : (took : List Took) (all : List Key) → ((z : Took) → Contains took z → has_key all z.key ≡ true)
    → filter (λ (q : Took). not (has_key all q.key)) took ≡ []
took_after took all each = filter_none (λ (q : Took). not (has_key all q.key)) took (λ z has. ap not (each z has))
