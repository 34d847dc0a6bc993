-- A pointer that is read: its part has what is there; and read again: where it is as it was, so is what it vouches for.
use Rattle.std.proofs.Common.{◌≡◌, ℕ, Bool, true, false, not, true≢false, eqb, eqb-true, ◌&&◌, ◌||◌, List, refl, sym, ap, ◌∙◌, subst, Option, Some, None}
use Rattle.std.proofs.lemmas.Bool.{and_parts, and_from}
use Rattle.std.specs.List.{Contains}
use Rattle.std.specs.Prelude.{is_none}
use Rattle.std.specs.Option.{option_map_or}
use Rattle.serial_model.specs.declared.key.Key.{Key}
use Rattle.homes.specs.declared.places.Holder.{Holder}
use Rattle.homes.specs.declared.places.Holder.TheVariants.{Free, Dead}
use Rattle.homes.specs.declared.places.Spot.{Spot}
use Rattle.homes.specs.declared.places.At.{At}
use Rattle.homes.specs.declared.places.At.TheVariants.{Root, In}
use Rattle.homes.specs.declared.places.Home.{Home}
use Rattle.homes.specs.declared.places.Home.TheVariants.{InSlot, InPage, Nowhere}
use Rattle.homes.specs.Homes.{in_span, is_free}
use Rattle.lists.specs.Elements.{all_in}
use Rattle.commit_core.specs.declared.place.Place.{Place}
use Rattle.commit_core.specs.declared.part.Word.{Word}
use Rattle.commit_core.specs.declared.part.Word.TheVariants.{Pointer}
use Rattle.commit_core.specs.declared.part.Part.{Part}
use Rattle.commit_core.specs.declared.attempt.Attempt.{Attempt}
use Rattle.commit_core.specs.declared.event.Act.TheVariants.{Confirm}
use Rattle.commit_core.specs.declared.seat.Stage.{Stage}
use Rattle.commit_core.specs.declared.seat.Stage.TheVariants.{Idle, Trying, Ended, Decided}
use Rattle.commit_core.specs.declared.seat.Seat.{Seat}
use Rattle.commit_core.specs.declared.story.Story.{Story}
use Rattle.commit_core.specs.CoreState.{attempt_tried}
use Rattle.commit_core.specs.Places.{home_of, stands_at, stands, is_open_to}
use Rattle.commit_core.specs.Parts.{same_word, covers, found}
use Rattle.commit_core.specs.Told.{IsFreeNow, IsSoNow, IsToldTruly}
use Rattle.commit_core.specs.Sound.Reads.{TriesKept}
use Rattle.commit_core.specs.Lemmas.Keys.{same_word-true}
use Rattle.drop_core.specs.declared.table.Led.{Led}
use Rattle.drop_core.specs.declared.table.Led.TheVariants.{Never, From, Away}
use Rattle.drop_core.specs.declared.table.Table.{Table}
use Rattle.drop_core.specs.declared.grip.Grip.{Grip}
use Rattle.drop_core.specs.Table.{slot_of, page_of, pointer_of, snap_home, has_slot, has_pointer, is_led, is_never, is_live}
use Rattle.drop_core.specs.Event.{is_open}
use Rattle.drop_core.specs.Sound.{span_at, TiesTo, IsSoundTable}
use Rattle.drop_core.specs.HomeLaws.{IsFixed, snap-fixed}
use Rattle.engine_rule.specs.Pairs.{page_content, pointer_part}
use Rattle.engine_rule.specs.JointState.{slot_at, holds_slot, can_see, leads_so, is_pointer_so, pointer_stays, is_so_now}
use Rattle.engine_rule.specs.Sound.{OnSlot, IsHeld, IsPointerThere, FitsPointer, FitsWord, IsSoundKept}
use Rattle.engine_rule.proofs.PairLaws.{covers-inside, part-right}

pub led_not_never : (l : Led) → is_led l ≡ true → is_never l ≡ false
led_not_never Never e = absurd (true≢false (sym e))
led_not_never (From x) e = refl
led_not_never Away e = refl

none_none : (o : Option ℕ) → is_none o ≡ true → o ≡ None
none_none None e = refl
none_none (Some s) e = absurd (true≢false (sym e))

-- ---- what stands at a home in a snapshot page

pub fixed_free : (places : List (Spot × Place)) (h : Home) → IsFixed h → (stands_at places h).holder ≡ Free
fixed_free places (InSlot x) fixed = absurd (fixed x refl)
fixed_free places (InPage n c) fixed = refl
fixed_free places Nowhere fixed = refl

pub fixed_content : (places : List (Spot × Place)) (h : Home) → IsFixed h → (stands_at places h).content ≡ page_content h
fixed_content places (InSlot x) fixed = absurd (fixed x refl)
fixed_content places (InPage n c) fixed = refl
fixed_content places Nowhere fixed = refl

-- ---- an attempt in progress has what its seat keeps

pub tried_kept : (history : List Attempt) (kept : List Part) (stage : Stage) (a : Attempt) → TriesKept history kept stage → attempt_tried history stage ≡ Some a → a.parts ≡ kept
tried_kept history kept Idle a tries e = cc
tried_kept history kept (Trying i) a tries e = tries a e
tried_kept history kept Ended a tries e = cc
tried_kept history kept (Decided i) a tries e = cc

-- ---- tests

pub free_alive : (h : Holder) → is_free h ≡ true → h ≡ Dead → ⊥
free_alive h o e = true≢false (sym o ∙ ap is_free e)

pub open_alive : (p : ℕ) (h : Holder) → is_open_to p h ≡ true → h ≡ Dead → ⊥
open_alive p h o e = true≢false (sym o ∙ ap (is_open_to p) e)

pub unless : (a b : Bool) → (not a || b) ≡ true → a ≡ true → b ≡ true
unless true b e t = e
unless false b e t = absurd (true≢false (sym t))

module _ (m : Story) (d : Table) (grips : List Grip) (sound : IsSoundTable (home_of m.homes) d grips) where
  abbrev st : Key → Place
  st = stands m.places m.homes

  -- a key below a live pointer without a slot is where its page has it
  home_below : (x : At) → is_live d x ≡ true → (pointer_of d x).slot ≡ None → (k : Key) → in_span (span_at d x) k ≡ true
      → home_of m.homes k ≡ snap_home d (pointer_of d x).page k
  home_below x live none =
      subst (λ (o : Option ℕ). TiesTo (home_of m.homes) d (pointer_of d x).span (pointer_of d x).page o) none (sound.one_home_each.ties x live)

  -- what stands there is what the page has, and nobody holds it
  stands_below : (n : ℕ) (k : Key) → home_of m.homes k ≡ snap_home d n k → ((st k).holder ≡ Free) × ((st k).content ≡ page_content (snap_home d n k))
  stands_below n k home = (
    ap (λ (h : Home). (stands_at m.places h).holder) home ∙ fixed_free m.places (snap_home d n k) (snap-fixed d n k),
    ap (λ (h : Home). (stands_at m.places h).content) home ∙ fixed_content m.places (snap_home d n k) (snap-fixed d n k),
  )

  -- ---- See

  there_of : (x : At) → is_live d x ≡ true → IsPointerThere (page_of d) x
  there_of (Root r) live = tt
  there_of (In z) live = (and_parts (is_led (slot_of d z.slot).led) (has_pointer (page_of d z.slot) z.index) live).1

  held_of : (g : Grip) (x : At) → is_live d x ≡ true → holds_slot g (slot_at x) ≡ true → IsHeld d g.holds (Pointer x)
  held_of g (Root r) live holds = tt
  held_of g (In z) live holds =
      (holds, led_not_never (slot_of d z.slot).led (and_parts (is_led (slot_of d z.slot).led) (has_pointer (page_of d z.slot) z.index) live).0)

  module _ (g : Grip) (x : At) (can : can_see d g x ≡ true) where
    opens : (is_open d x ≡ true) × ((is_none (pointer_of d x).slot && holds_slot g (slot_at x)) ≡ true)
    opens = and_parts (is_open d x) (is_none (pointer_of d x).slot && holds_slot g (slot_at x)) can

    live : is_live d x ≡ true
    live = (and_parts (is_live d x) (is_free (pointer_of d x).holder) opens.0).0

    rest : (is_none (pointer_of d x).slot ≡ true) × (holds_slot g (slot_at x) ≡ true)
    rest = and_parts (is_none (pointer_of d x).slot) (holds_slot g (slot_at x)) opens.1

    pub see_free : IsFreeNow st (pointer_part d x)
    see_free k c =
        let below = stands_below (pointer_of d x).page k (home_below x live (none_none (pointer_of d x).slot rest.0) k (covers-inside d x k c)) in
        (below.0, below.1 ∙ part-right d x k c)

    pub see_held : IsHeld d g.holds (Pointer x)
    see_held = held_of g x live rest.1

    pub see_fits : FitsPointer (page_of d) (span_at d) (snap_home d) d.published x (pointer_part d x)
    see_fits = record {
      page = (pointer_of d x).page;
      there = there_of x live;
      version = refl;
      past = sound.snapshots_fixed.pointers x live;
      within = covers-inside d x;
      pairs = part-right d x;
    }

  -- ---- Check

  -- a kept pointer that isn't dead is live
  led_now : (s : ℕ) (led : Led) → is_never led ≡ false → ((slot_of d s).led ≡ Away → ⊥) → (slot_of d s).led ≡ led → is_led (slot_of d s).led ≡ true
  led_now s Never never alive e = absurd (true≢false never)
  led_now s (From y) never alive e = ap is_led e
  led_now s Away never alive e = absurd (alive e)

  pointer_live : (x : At) → IsPointerThere (page_of d) x → OnSlot (slot_at x) (λ s. is_never (slot_of d s).led ≡ false) → ((pointer_of d x).holder ≡ Dead → ⊥)
      → is_live d x ≡ true
  pointer_live (Root r) there never alive = refl
  pointer_live (In z) there never alive =
      and_from (is_led (slot_of d z.slot).led) (has_pointer (page_of d z.slot) z.index)
      (led_now z.slot (slot_of d z.slot).led never (λ away. alive (sound.one_home_each.dead z.slot away z.index there)) refl) there

  never_of : (holds : List ℕ) (o : Option ℕ) → OnSlot o (λ s. (has_slot holds s ≡ true) × (is_never (slot_of d s).led ≡ false)) → OnSlot o (λ s. is_never (slot_of d s).led ≡ false)
  never_of holds None held = tt
  never_of holds (Some s) held = held.1

  -- where a kept pointer isn't dead and both halves are as they were, what it vouches for is so now
  pub pointer_now : (holds : List ℕ) (part : Part) (x : At) → IsHeld d holds (Pointer x) → FitsPointer (page_of d) (span_at d) (snap_home d) d.published x part
      → ((pointer_of d x).holder ≡ Dead → ⊥) → leads_so (pointer_of d x) part.version ≡ true
      → (k : Key) → covers part k ≡ true → ((st k).holder ≡ Free) × ((st k).content ≡ found part k)
  pointer_now holds part x held fits alive so k c =
      let word = and_parts (is_none (pointer_of d x).slot) (eqb (pointer_of d x).page fits.page) (sym (ap (leads_so (pointer_of d x)) fits.version) ∙ so) in
      let live = pointer_live x fits.there (never_of holds (slot_at x) held) alive in
      let home = home_below x live (none_none (pointer_of d x).slot word.0) k (fits.within k c)
      ∙ ap (λ (n : ℕ). snap_home d n k) (eqb-true (pointer_of d x).page fits.page word.1) in
      let below = stands_below fits.page k home in
      (below.0, below.1 ∙ fits.pairs k c)

  so_now : (p : ℕ) (holds : List ℕ) (part : Part) (x : At) (w : Word) → part.word ≡ w → w ≡ Pointer x → IsHeld d holds part.word → FitsWord d part part.word
      → is_pointer_so p (pointer_of d x) part.version ≡ true → IsSoNow p st part
  so_now p holds part x w e is held fits so k c =
      let word : part.word ≡ Pointer x = e ∙ is in
      let both = and_parts (is_open_to p (pointer_of d x).holder) (leads_so (pointer_of d x) part.version) so in
      let now = pointer_now holds part x (subst (λ (y : Word). IsHeld d holds y) word held) (subst (λ (y : Word). FitsWord d part y) word fits)
      (open_alive p (pointer_of d x).holder both.0) both.1 k c in
      (ap (is_open_to p) now.0, now.1)

  -- what is told of a pointer is true
  pub told_truly : (p : ℕ) (s : Seat) (g : Grip) (x : At) → TriesKept m.history s.kept s.stage → IsSoundKept d g.holds s.kept
      → IsToldTruly p m s (Confirm (Pointer x) (is_so_now p d m s x))
  told_truly p s g x tries kept told a tried part there same =
      let stays : pointer_stays p d x a ≡ true = sym (ap (λ (o : Option Attempt). option_map_or (pointer_stays p d x) o false) tried) ∙ told in
      let so = unless (same_word part.word (Pointer x)) (is_pointer_so p (pointer_of d x) part.version)
      (all_in (λ (q : Part). not (same_word q.word (Pointer x)) || is_pointer_so p (pointer_of d x) q.version) a.parts stays part there) same in
      let in_kept = subst (λ (l : List Part). Contains l part) (tried_kept m.history s.kept s.stage a tries tried) there in
      so_now p g.holds part x part.word refl (same_word-true part.word (Pointer x) same) (kept.kept_is_held part in_kept) (kept.kept_fits part in_kept) so
