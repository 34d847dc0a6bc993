-- Headers: no homes and no pointers depend on them, and those of pages that are gone are dead.
use Rattle.std.proofs.Common.{◌≡◌, ℕ, Bool, true, false, true≢false, eqb, ◌&&◌, inl, inr, List, [], ◌∷◌, refl, sym, ap, ◌∙◌, Option, Some, None}
use Rattle.std.proofs.lemmas.Bool.{or_cases, or_left, or_right, cond-true, cond-false, false_from_ne_true}
use Rattle.serial_model.specs.declared.key.Key.{Key}
use Rattle.homes.specs.declared.places.Holder.{Holder}
use Rattle.homes.specs.declared.places.Holder.TheVariants.{Dead}
use Rattle.homes.specs.declared.places.At.{At}
use Rattle.homes.specs.declared.places.At.TheVariants.{Root, In}
use Rattle.homes.specs.declared.places.Span.{Span}
use Rattle.homes.specs.declared.places.Home.{Home}
use Rattle.homes.specs.Homes.{look}
use Rattle.homes.specs.Laws.{number_or_other}
use Rattle.drop_core.specs.declared.table.Led.{Led}
use Rattle.drop_core.specs.declared.table.Led.TheVariants.{Never, From, Away}
use Rattle.drop_core.specs.declared.table.SlotState.{SlotState}
use Rattle.drop_core.specs.declared.table.Page.{Page}
use Rattle.drop_core.specs.declared.table.Page.TheVariants.{Blank, Leaf, Inner, Split}
use Rattle.drop_core.specs.declared.table.Table.{Table}
use Rattle.drop_core.specs.declared.grip.Grip.{Grip}
use Rattle.drop_core.specs.Table.{slot_of, page_of, pointer_of, has_slot, is_live, is_last_to, is_last}
use Rattle.drop_core.specs.Event.{dead_headers}
use Rattle.drop_core.specs.Sound.{TiesPage, TiesTo, IsLedSo, IsSoundTable}

-- ---- the sound table with other headers

module _ (homes : Key → Home) (d : Table) (grips : List Grip) (headers : List (ℕ × Holder)) where
  abbrev d' : Table
  d' = record d { headers = headers }

  live-same : (y : At) → is_live d' y ≡ is_live d y
  live-same (Root r) = refl
  live-same (In z) = refl

  last_to : (o : Option ℕ) → is_last_to d' o ≡ is_last_to d o
  last_to None = refl
  last_to (Some t) = refl

  last-same : (y : At) → is_last d' y ≡ is_last d y
  last-same y = ap (λ (b : Bool). b && is_last_to d' (pointer_of d y).slot) (live-same y) ∙ ap (λ (b : Bool). is_live d y && b) (last_to (pointer_of d y).slot)

  ties_page : (span : Span) (t : ℕ) (pg : Page) → TiesPage homes d span t pg → TiesPage homes d' span t pg
  ties_page span t Blank ties = ties
  ties_page span t (Leaf ks) ties = ties
  ties_page span t (Inner n) ties = ties
  ties_page span t Split ties = ties

  ties_to : (span : Span) (l : ℕ) (o : Option ℕ) → TiesTo homes d span l o → TiesTo homes d' span l o
  ties_to span l None ties = ties
  ties_to span l (Some t) ties = ties_page span t (page_of d t) ties

  led_so : (t : ℕ) (state : SlotState) (led : Led) → IsLedSo d t state led → IsLedSo d' t state led
  led_so t state Never so = so
  led_so t state (From y) so = (so.0, live-same y ∙ so.1, so.2)
  led_so t state Away so = so

  pub headers_sound : IsSoundTable homes d grips → IsSoundTable homes d' grips
  headers_sound sound = record {
    one_home_each = record {
      ties = λ y live. ties_to (pointer_of d y).span (pointer_of d y).page (pointer_of d y).slot (sound.one_home_each.ties y (sym (live-same y) ∙ live));
      apart = λ y z ly lz. sound.one_home_each.apart y z (sym (last-same y) ∙ ly) (sym (last-same z) ∙ lz);
      own = λ k y e. let was = sound.one_home_each.own k y e in record { keys = was.keys; page = was.page; at = was.at; led = was.led };
      dead = sound.one_home_each.dead;
    };
    holds_counted = record {
      counted = sound.holds_counted.counted;
      led = λ t. led_so t (slot_of d t).state (slot_of d t).led (sound.holds_counted.led t);
      back = λ y t live leads. sound.holds_counted.back y t (sym (live-same y) ∙ live) leads;
    };
    snapshots_fixed = record { pointers = λ y live. sound.snapshots_fixed.pointers y (sym (live-same y) ∙ live); closed = sound.snapshots_fixed.closed };
  }

-- ---- headers that were set

abbrev pub header_in : List (ℕ × Holder) → ℕ → Holder
header_in headers s = look (λ a b. eqb a b) Dead headers s

pub header-same : (headers : List (ℕ × Holder)) (s : ℕ) (h : Holder) → header_in ((s, h) ∷ headers) s ≡ h
header-same headers s h = elim (number_or_other s s) [
  | inl e ↦ cond-true (eqb s s) h (header_in headers s) e.1
  | inr o ↦ absurd (o.0 refl)
]

pub header-other : (headers : List (ℕ × Holder)) (s : ℕ) (h : Holder) (t : ℕ) → (s ≡ t → ⊥) → header_in ((s, h) ∷ headers) t ≡ header_in headers t
header-other headers s h t other = elim (number_or_other s t) [
  | inl e ↦ absurd (other e.0)
  | inr o ↦ cond-false (eqb s t) h (header_in headers t) o.1
]

-- those of gone slots are dead, and a dead one stays so
pub buried-dead : (gone : List ℕ) (headers : List (ℕ × Holder)) (t : ℕ) → has_slot gone t ≡ true → header_in (dead_headers gone headers) t ≡ Dead
buried-dead [] headers t e = absurd (true≢false (sym e))
buried-dead (g ∷ more) headers t e =
    elim (number_or_other g t) [
      | inl is ↦ cond-true (eqb g t) Dead (header_in (dead_headers more headers) t) is.1
      | inr o ↦ cond-false (eqb g t) Dead (header_in (dead_headers more headers) t) o.1
          ∙ buried-dead more headers t (elim (or_cases (eqb g t) (has_slot more t) e) [ inl h ↦ absurd (true≢false (sym h ∙ o.1)) | inr m ↦ m ])
    ]

pub buried-stays : (gone : List ℕ) (headers : List (ℕ × Holder)) (t : ℕ) → header_in headers t ≡ Dead → header_in (dead_headers gone headers) t ≡ Dead
buried-stays [] headers t e = e
buried-stays (g ∷ more) headers t e =
    elim (number_or_other g t) [
      | inl is ↦ cond-true (eqb g t) Dead (header_in (dead_headers more headers) t) is.1
      | inr o ↦ cond-false (eqb g t) Dead (header_in (dead_headers more headers) t) o.1 ∙ buried-stays more headers t e
    ]

-- the others are as they were
pub buried-other : (gone : List ℕ) (headers : List (ℕ × Holder)) (t : ℕ) → has_slot gone t ≡ false → header_in (dead_headers gone headers) t ≡ header_in headers t
buried-other [] headers t e = refl
buried-other (g ∷ more) headers t e =
    elim (number_or_other g t) [
      | inl is ↦ absurd (true≢false (sym (or_left (eqb g t) (has_slot more t) is.1) ∙ e))
      | inr o ↦ cond-false (eqb g t) Dead (header_in (dead_headers more headers) t) o.1
          ∙ buried-other more headers t (false_from_ne_true (has_slot more t) (λ m. true≢false (sym (or_right (eqb g t) (has_slot more t) m) ∙ e)))
    ]
