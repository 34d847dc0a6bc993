-- A record that is set behind those of a leaf, by the seat that holds its header: the place is no key's home, and
-- nobody keeps what stood there.
use mathlib.Core.Path.{fun_ext}
use Rattle.std.proofs.Common.{◌≡◌, ℕ, suc, ◌+◌, ◌<◌, ◌≤◌, Bool, true, false, not, true≢false, eqb, ltb, ◌&&◌, inl, inr, List, [], ◌∷◌, length, refl, sym, ap, ◌∙◌, subst, arith, Some}
use Rattle.std.proofs.lemmas.Bool.{and_parts, and_from, cases_Bool, cond-true, cond-false, false_from_ne_true}
use Rattle.std.specs.List.{list_all}
use Rattle.serial_model.specs.declared.key.Key.{Key}
use Rattle.homes.specs.declared.places.Content.{Content}
use Rattle.homes.specs.declared.places.Holder.TheVariants.{Free}
use Rattle.homes.specs.declared.places.Spot.{Spot}
use Rattle.homes.specs.declared.places.At.{At}
use Rattle.homes.specs.declared.places.Home.{Home}
use Rattle.homes.specs.declared.places.Home.TheVariants.{InSlot, InPage, Nowhere}
use Rattle.homes.specs.Homes.{same_key, same_spot, has_key, in_span, holder_is}
use Rattle.homes.specs.Laws.{same_spot-true, in_span-parts}
use Rattle.commit_core.specs.declared.place.Place.{Place}
use Rattle.commit_core.specs.declared.part.Word.{Word}
use Rattle.commit_core.specs.declared.part.Word.TheVariants.{Record}
use Rattle.commit_core.specs.declared.part.Part.{Part}
use Rattle.commit_core.specs.declared.story.Story.{Story}
use Rattle.commit_core.specs.Fill.{filled, NoneKept}
use Rattle.commit_core.specs.Places.{place, place_of, home_of, stands_at, stands, spot_of, spot_at}
use Rattle.commit_core.specs.Parts.{same_word}
use Rattle.commit_core.specs.Moves.{is_spot, is_nobodys}
use Rattle.commit_core.specs.Lemmas.Keys.{same_word-true}
use Rattle.commit_core.specs.Lemmas.Moves.{is_spot-true}
use Rattle.drop_core.specs.declared.table.Led.{Led}
use Rattle.drop_core.specs.declared.table.Led.TheVariants.{Never, From, Away}
use Rattle.drop_core.specs.declared.table.Page.{Page}
use Rattle.drop_core.specs.declared.table.Page.TheVariants.{Blank, Leaf, Inner, Split}
use Rattle.drop_core.specs.declared.table.Table.{Table}
use Rattle.drop_core.specs.declared.grip.Grip.{Grip}
use Rattle.drop_core.specs.Table.{slot_of, page_of, header_of, no_span, leaf_place, leaf_home}
use Rattle.drop_core.specs.Event.{leaf_keys, most_records, led_span, slot_span, takes_key, can_open_header}
use Rattle.drop_core.specs.Sound.{span_at, IsSoundTable}
use Rattle.drop_core.specs.HomeLaws.{leaf-in}
use Rattle.engine_rule.specs.Event.{next_spot}
use Rattle.engine_rule.specs.Sound.{HasRecords, FitsWord, IsSoundKept, LeavesStayDead, SplitsStayDead}

-- ---- lists and homes

all_of : {A : Type 0} (test : A → Bool) (xs : List A) → ((x : A) → test x ≡ true) → list_all test xs ≡ true
all_of test [] each = refl
all_of test (x ∷ xs) each = and_from (test x) (list_all test xs) (each x) (all_of test xs each)

home_spot : (h : Home) (x : Spot) → spot_of h ≡ Some x → h ≡ InSlot x
home_spot (InSlot y) x e = let same : y ≡ x = cc in ap (λ (z : Spot). InSlot z) same
home_spot (InPage n c) x e = cc
home_spot Nowhere x e = cc

same_place : (x y : Spot) → InSlot x ≡ InSlot y → x ≡ y
same_place x y e = cc

none_there : (y : Spot) → Nowhere ≡ InSlot y → ⊥
none_there y e = cc

-- a home in a leaf has an index below the count of its keys
pub index_below : (s i : ℕ) (keys : List Key) (k : Key) (y : Spot) → leaf_home s i keys k ≡ InSlot y → y.index < i + length keys
index_below s i [] k y e = absurd (none_there y e)
index_below s i (x ∷ more) k y e =
    elim (cases_Bool (same_key x k)) [
      | inl hit ↦
          let is = same_place (record { slot = s; index = i }) y (sym (cond-true (same_key x k) (leaf_place s i) (leaf_home s (suc i) more k) hit) ∙ e) in
          let at : i ≡ y.index = ap (λ (z : Spot). z.index) is in
          omega (arith, at)
      | inr miss ↦
          let r = index_below s (suc i) more k y (sym (cond-false (same_key x k) (leaf_place s i) (leaf_home s (suc i) more k) miss) ∙ e) in
          omega (arith, r)
    ]

-- ---- what the test says

no_key : (k : Key) → in_span no_span k ≡ true → ⊥
no_key k inside =
    let at = in_span-parts no_span k inside in
    let low : 1 ≤ k.key = at.1 in
    let high : k.key ≤ 0 = at.2 in
    absurd (omega (arith, low, high))

-- a leaf that takes the key: something leads to it, which is over the key, and the key isn't there yet
pub record Takes (d : Table) (t : ℕ) (k : Key) : Type 0 where
  pub keys : List Key
  pub page : page_of d t ≡ Leaf keys
  pub x : At
  pub led : (slot_of d t).led ≡ From x
  pub inside : in_span (span_at d x) k ≡ true
  pub fresh : has_key keys k ≡ false

not_so : (b : Bool) → not b ≡ true → b ≡ false
not_so true e = absurd (true≢false (sym e))
not_so false e = refl

takes_by : (d : Table) (t : ℕ) (k : Key) (l : Led) → (slot_of d t).led ≡ l → (pg : Page) → page_of d t ≡ pg → takes_key (led_span d l) k pg ≡ true → Takes d t k
takes_by d t k l led Blank page e = absurd (true≢false (sym e))
takes_by d t k Never led (Leaf keys) page e = absurd (no_key k (and_parts (in_span no_span k) (not (has_key keys k) && ltb (length keys) most_records) e).0)
takes_by d t k (From x) led (Leaf keys) page e =
    let a = and_parts (in_span (span_at d x) k) (not (has_key keys k) && ltb (length keys) most_records) e in
    let b = and_parts (not (has_key keys k)) (ltb (length keys) most_records) a.1 in
    record { keys = keys; page = page; x = x; led = led; inside = a.0; fresh = not_so (has_key keys k) b.0 }
takes_by d t k Away led (Leaf keys) page e = absurd (no_key k (and_parts (in_span no_span k) (not (has_key keys k) && ltb (length keys) most_records) e).0)
takes_by d t k l led (Inner n) page e = absurd (true≢false (sym e))
takes_by d t k l led Split page e = absurd (true≢false (sym e))

pub takes : (p : ℕ) (d : Table) (t : ℕ) (k : Key) → can_open_header p d t (Some k) ≡ true → Takes d t k
takes p d t k can =
    let a = and_parts (not (eqb p 0)) (holder_is p (header_of d t) && takes_key (slot_span d t) k (page_of d t)) can in
    let b = and_parts (holder_is p (header_of d t)) (takes_key (slot_span d t) k (page_of d t)) a.1 in
    takes_by d t k (slot_of d t).led refl (page_of d t) refl b.1

-- ---- the place behind the others

module _ (m : Story) (d : Table) (grips : List Grip) (sound : IsSoundTable (home_of m.homes) d grips) (t : ℕ) (k : Key) (it : Takes d t k) where
  abbrev x0 : Spot
  x0 = next_spot d t

  count : length (leaf_keys (page_of d t)) ≡ length it.keys
  count = ap (λ (pg : Page). length (leaf_keys pg)) it.page

  leaf_is : (keys : List Key) → Leaf it.keys ≡ Leaf keys → it.keys ≡ keys
  leaf_is keys e = cc

  leaf_not_split : Leaf it.keys ≡ Split → ⊥
  leaf_not_split e = cc

  not_home : (q : Key) → home_of m.homes q ≡ InSlot x0 → ⊥
  not_home q home =
      let own = sound.one_home_each.own q x0 home in
      let below = index_below t 0 own.keys q x0 own.at in
      let same = ap length (leaf_is own.keys (sym it.page ∙ own.page)) in
      let many = count in
      absurd (omega (arith, below, same, many))

  not_spot : (q : Key) → is_spot x0 (spot_at m.homes q) ≡ true → ⊥
  not_spot q e = not_home q (home_spot (home_of m.homes q) x0 (is_spot-true x0 (spot_at m.homes q) e))

  pub spot_free : (q : Key) → is_spot x0 (spot_at m.homes q) ≡ false
  spot_free q = false_from_ne_true (is_spot x0 (spot_at m.homes q)) (not_spot q)

  pub nobodys : is_nobodys m.homes (Some x0) ≡ true
  nobodys = all_of (λ e. not (is_spot x0 (spot_at m.homes e.0))) m.homes (λ e. ap not (spot_free e.0))

  -- each record of the page that is kept has a lower index
  pub fits_not : HasRecords (page_of d t) (length (leaf_keys (page_of d t)) + 1) → ⊥
  fits_not (inl split) = leaf_not_split (sym it.page ∙ split)
  fits_not (inr had) =
      let same = ap length (leaf_is had.0 (sym it.page ∙ had.1)) in
      let most = had.2 in
      let many = count in
      absurd (omega (arith, most, same, many))

  pub none_kept : (holds : List ℕ) (kept : List Part) → IsSoundKept d holds kept → NoneKept x0 kept
  none_kept holds kept so part there =
      false_from_ne_true (same_word part.word (Record x0))
      (λ e. fits_not (subst (λ (w : Word). FitsWord d part w) (same_word-true part.word (Record x0) e) (so.kept_fits part there)))

  place_other : (c : Content) (y : Spot) → (x0 ≡ y → ⊥) → place_of (filled x0 c m).places y ≡ place_of m.places y
  place_other c y other = cond-false (same_spot x0 y) (place c Free) (place_of m.places y) (false_from_ne_true (same_spot x0 y) (λ e. other (same_spot-true x0 y e)))

  at_home : (c : Content) (q : Key) (h : Home) → home_of m.homes q ≡ h → stands_at (filled x0 c m).places h ≡ stands_at m.places h
  at_home c q (InSlot y) e = place_other c y (λ is. not_home q (e ∙ ap (λ (z : Spot). InSlot z) (sym is)))
  at_home c q (InPage n y) e = refl
  at_home c q Nowhere e = refl

  -- what stands at each key stays
  pub stands_still : (c : Content) → stands (filled x0 c m).places m.homes ≡ stands m.places m.homes
  stands_still c = fun_ext (λ q. at_home c q (home_of m.homes q) refl)

  led_not : From it.x ≡ Away → ⊥
  led_not e = cc

  pub added_splits : (c : Content) → SplitsStayDead (place_of m.places) d → SplitsStayDead (place_of (filled x0 c m).places) d
  added_splits c splits s i split less =
      let y : Spot = record { slot = s; index = i } in
      ap (λ (q : Place). q.holder)
      (place_other c y (λ is. leaf_not_split (sym it.page ∙ ap (λ (z : Spot). page_of d z.slot) is ∙ split.0)))
      ∙ splits s i split less

  pub added_leaves : (c : Content) → LeavesStayDead (place_of m.places) d → LeavesStayDead (place_of (filled x0 c m).places) d
  added_leaves c leaves s keys gone page q y home =
      let at = (leaf-in s 0 keys q y home).slot in
      ap (λ (q : Place). q.holder)
      (place_other c y (λ is. led_not (sym it.led ∙ ap (λ (z : Spot). (slot_of d z.slot).led) is ∙ ap (λ (u : ℕ). (slot_of d u).led) at ∙ gone)))
      ∙ leaves s keys gone page q y home
