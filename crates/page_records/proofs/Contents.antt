-- What stands at keys: contents that were there at first or were written, with a value exactly where their number is not
-- that of a record which was never written.
use Rattle.std.proofs.Common.{◌≡◌, inl, inr, ℕ, ◌+◌, ◌^◌, ◌<◌, Bool, true, false, true≢false, cond, List}
use Rattle.std.proofs.Common.{[], ◌∷◌, refl, sym, ap, ◌∙◌, subst, arith, Option, Some, None}
use Rattle.std.specs.Prelude.{is_some}
use Rattle.std.specs.List.{Contains, find}
use Rattle.std.specs.Option.{option_map}
use Rattle.lists.specs.Elements.{in_head, in_tail}
use Rattle.serial_model.specs.declared.decl.Decl.{Decl}
use Rattle.serial_model.specs.declared.key.Key.{Key}
use Rattle.serial_model.specs.declared.number.Change.{Change}
use Rattle.serial_model.specs.declared.number.Number.{Number}
use Rattle.serial_model.specs.Numbers.{not_below_itself}
use Rattle.homes.specs.Laws.{same_key-true}
use Rattle.homes.specs.declared.places.Content.{Content}
use Rattle.homes.specs.declared.places.Holder.{Holder}
use Rattle.homes.specs.declared.places.Holder.TheVariants.{Free, Held, Dead}
use Rattle.homes.specs.declared.places.Spot.{Spot}
use Rattle.wire_form.specs.Words.{number_word}
use Rattle.commit_core.specs.declared.attempt.Attempt.{Attempt}
use Rattle.commit_core.specs.declared.place.Place.{Place}
use Rattle.commit_core.specs.declared.part.Part.{Part}
use Rattle.homes.specs.declared.places.At.{At}
use Rattle.homes.specs.declared.places.Home.TheVariants.{InSlot}
use Rattle.commit_core.specs.declared.part.Word.TheVariants.{Record, Pointer, Header}
use Rattle.commit_core.specs.Parts.{record_part}
use Rattle.commit_core.specs.Keys.{same_key, content_at, nothing, opening_number, written}
use Rattle.commit_core.specs.Moves.{Shows as StandsFor}
use Rattle.commit_core.specs.Places.{place_of, home_of, stands, stands_at}
use Rattle.commit_core.specs.Serial.{RisesFrom, last_write}
use Rattle.commit_core.specs.Sound.Reads.{IsVersion}
use Rattle.commit_core.specs.Lemmas.Shows.{opening_below}
use Rattle.commit_core.specs.Lemmas.States.{rises_low}
use Rattle.commit_core.specs.Lemmas.Versions.{last_version, same_content_parts, some_key}
use Rattle.engine_pages.specs.declared.layout.Layout.{Layout}
use Rattle.engine_pages.specs.declared.view.View.{View}
use Rattle.engine_pages.specs.Pages.{is_array}
use Rattle.engine_pages.specs.Rule.{Shared, AllSmall, StartsBlank, WriteValues, KeptAreRecords, Sound}
use Rattle.engine_pages.specs.Words.{IsSmall, lock_field}

-- ---- words

-- no lock stands in the word
pub free_below : (n : ℕ) (h : Holder) → n + lock_field h < 2 ^ 60 → h ≡ Free
free_below n Free below = refl
free_below n (Held p) below = absurd (omega (arith, below))
free_below n Dead below = absurd (omega (arith, below))

pub small_word : (n : Number) → IsSmall n → number_word n < 2 ^ 60
small_word n s = omega (arith, s.draw, s.epoch)

-- two numbers that fit have one word only where they are equal
pub one_number : (a b : Number) → IsSmall a → IsSmall b → number_word a ≡ number_word b → a ≡ b
one_number a b s t same =
    let draw : a.draw ≡ b.draw = omega (arith, s.draw, t.draw) in
    let epoch : a.epoch ≡ b.epoch = omega (arith, s.draw, t.draw) in
    ap (λ (x : ℕ). let n : Number = record { epoch = x; draw = a.draw } in n) epoch
    ∙ ap (λ (x : ℕ). let n : Number = record { epoch = b.epoch; draw = x } in n) draw

-- ---- parts of records

-- the key and the content of the first pair
abbrev first_key : List (Key × Content) → Key
first_key [] = some_key
first_key (e ∷ more) = e.0

abbrev first_content : List (Key × Content) → Content
first_content [] = nothing
first_content (e ∷ more) = e.1

-- a part of a record says of which key it is, where that stands and with what
pub parts_same : (k q : Key) (x y : Spot) (c d : Content) → record_part k x c ≡ record_part q y d
    → (k ≡ q) × (x ≡ y) × (c ≡ d)
parts_same k q x y c d same = (
  ap (λ (p : Part). first_key p.pairs) same,
  spot_in x y (ap (λ (p : Part). p.word) same),
  ap (λ (p : Part). first_content p.pairs) same,
)
  where
    spot_in : (x y : Spot) → Record x ≡ Record y → x ≡ y
    spot_in x y e = cc

-- what is kept of an array's record is a version of its key
pub kept_version : (decls : List Decl) (opening : List (Key × Content)) (history : List Attempt) (kept : List Part)
    (k : Key) (x : Spot) (c : Content) → is_array decls k.storage ≡ true → KeptAreRecords decls opening history kept
    → Contains kept (record_part k x c) → IsVersion opening history k c
kept_version decls opening history kept k x c array records has =
    elim (records (record_part k x c) has) [
      | inl r ↦
          let same = parts_same k r.0 x r.1 c r.2 r.3 in
          subst (λ q. IsVersion opening history q c) (sym same.0)
          (subst (IsVersion opening history r.0) (sym same.2) (elim r.4 [
            | inl lost ↦ absurd (true≢false (sym array ∙ ap (λ (q : Key). is_array decls q.storage) same.0 ∙ lost.1))
            | inr version ↦ version
          ]))
      | inr other ↦ elim other [
        | inl pointer ↦ absurd (no_pointer x pointer.0 pointer.2)
        | inr header ↦ absurd (no_header x header.0 header.2)
      ]
    ]
  where
    no_pointer : (x : Spot) (y : At) → Record x ≡ Pointer y → ⊥
    no_pointer x y e = absurd (cc)

    no_header : (x : Spot) (t : ℕ) → Record x ≡ Header t → ⊥
    no_header x t e = absurd (cc)

-- ---- contents

-- it has no value exactly where its number is that of a record which was never written
pub record IsProper (c : Content) : Type 0 where
  pub never : c.value ≡ None → c.number ≡ opening_number
  pub blank : c.number ≡ opening_number → c.value ≡ None

-- what is written is written by a change of the key
pub change_of : (k : Key) (writes : List Change) (v : Option ℕ) → written k writes ≡ Some v
    → (w : Change) × Contains writes w × (w.key ≡ k) × (w.value ≡ v)
change_of k [] v is = absurd (cc)
change_of k (w ∷ more) v is = by_test (same_key w.key k) refl is (change_of k more v)
  where
    by_test : (b : Bool) → same_key w.key k ≡ b
        → option_map (λ (x : Change). x.value) (cond b (Some w) (find (λ (x : Change). same_key x.key k) more)) ≡ Some v
        → (written k more ≡ Some v → (x : Change) × Contains more x × (x.key ≡ k) × (x.value ≡ v))
        → (x : Change) × Contains (w ∷ more) x × (x.key ≡ k) × (x.value ≡ v)
    by_test true hit is go = (w, in_head w more, same_key-true w.key k hit, cc)
    by_test false miss is go = let later = go is in (later.0, in_tail later.0 w more later.1, later.2, later.3)

-- to an array's key attempts write values
pub value_written : (decls : List Decl) (history : List Attempt) (k : Key) (a : Attempt) (v : Option ℕ)
    → is_array decls k.storage ≡ true → WriteValues decls history → Contains history a → written k a.writes ≡ Some v
    → v ≡ None → ⊥
value_written decls history k a v array values has is none =
    let w = change_of k a.writes v is in
    let kind : is_array decls w.0.key.storage ≡ true = ap (λ (q : Key). is_array decls q.storage) w.2 ∙ array in
    true≢false (sym (values a has w.0 w.1 kind) ∙ ap is_some (w.3 ∙ none))

pub version_proper : (decls : List Decl) (opening : List (Key × Content)) (history : List Attempt) (k : Key) (c : Content)
    → is_array decls k.storage ≡ true → StartsBlank decls opening → WriteValues decls history
    → RisesFrom (content_at opening k).number history → IsVersion opening history k c → IsProper c
version_proper decls opening history k c array starts values rises (inl e) =
    subst IsProper (sym e) record { never = starts.never k array; blank = starts.blank k }
version_proper decls opening history k c array starts values rises (inr a) = record {
  never = λ none. absurd (value_written decls history k a.0 c.value array values a.1 a.3 none);
  blank = λ number.
      absurd (not_below_itself opening_number a.0.number (sym (a.2 ∙ number))
      (opening_below (content_at opening k).number a.0.number
      (rises_low (content_at opening k).number history rises a.0 a.1)));
}

pub version_small : (opening : List (Key × Content)) (s : Shared) (k : Key) (c : Content) → AllSmall opening s.story
    → IsVersion opening s.story.history k c → IsSmall c.number
version_small opening s k c small (inl e) = subst (λ (x : Content). IsSmall x.number) (sym e) (small.first k)
version_small opening s k c small (inr a) = subst IsSmall a.2 (small.drawn a.0 a.1)

-- what stands for a version is that version
pub shown_is : (horizon : Number) (c d : Content) → StandsFor horizon c d → IsProper d → c ≡ d
shown_is horizon c d (inl e) proper = e
shown_is horizon c d (inr lost) proper =
    lost.0 ∙ sym (same_content_parts d nothing (proper.never lost.1.absent) lost.1.absent)

-- ---- a record that nobody holds

pub stands_there : (s : Shared) (k : Key) (x : Spot) → home_of s.story.homes k ≡ InSlot x
    → stands s.story.places s.story.homes k ≡ place_of s.story.places x
stands_there s k x home = ap (stands_at s.story.places) home

pub last_proper : (l : Layout) (words : List ℕ) (views : List View) (s : Shared) (k : Key) → Sound l words views s
    → is_array l.decls k.storage ≡ true → IsProper (last_write l.opening s.story.history s.story.decided k)
last_proper l words views s k h array =
    version_proper l.decls l.opening s.story.history k (last_write l.opening s.story.history s.story.decided k) array h.blank
    h.valued (h.joint.commits.story.ordered_numbers.rising k) (last_version l.opening s.story.history s.story.decided k)

pub free_last : (l : Layout) (words : List ℕ) (views : List View) (s : Shared) (k : Key) (x : Spot)
    → Sound l words views s → is_array l.decls k.storage ≡ true → home_of s.story.homes k ≡ InSlot x
    → (place_of s.story.places x).holder ≡ Free
    → (place_of s.story.places x).content ≡ last_write l.opening s.story.history s.story.decided k
free_last l words views s k x h array home free =
    let here = stands_there s k x home in
    let shows : StandsFor s.story.horizon (stands s.story.places s.story.homes k).content
    (last_write l.opening s.story.history s.story.decided k) =
    h.joint.commits.story.unlocked_homes k (ap (λ (q : Place). q.holder) here ∙ free) in
    sym (ap (λ (q : Place). q.content) here)
    ∙ shown_is s.story.horizon (stands s.story.places s.story.homes k).content
    (last_write l.opening s.story.history s.story.decided k) shows (last_proper l words views s k h array)

pub free_version : (l : Layout) (words : List ℕ) (views : List View) (s : Shared) (k : Key) (x : Spot)
    → Sound l words views s → is_array l.decls k.storage ≡ true → home_of s.story.homes k ≡ InSlot x
    → (place_of s.story.places x).holder ≡ Free
    → IsVersion l.opening s.story.history k (place_of s.story.places x).content
free_version l words views s k x h array home free =
    subst (IsVersion l.opening s.story.history k) (sym (free_last l words views s k x h array home free))
    (last_version l.opening s.story.history s.story.decided k)
