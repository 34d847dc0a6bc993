-- A check: a load of the word of a part.
use Rattle.std.proofs.Common.{◌≡◌, ◌⊎◌, inl, inr, ℕ, ◌+◌, ◌^◌, ◌<◌, Bool, true, false, true≢false, not, cond, eqb}
use Rattle.std.proofs.Common.{List, [], ◌∷◌, ◌++◌, get_or, set, refl, sym, ap, ◌∙◌, subst, arith, Option, Some}
use Rattle.std.specs.Prelude.{MatchBool, ◌&&◌, ◌||◌}
use Rattle.std.specs.List.{Contains, slice_get, list_all, list_any}
use Rattle.std.specs.Option.{option_map_or}
use Rattle.std.proofs.lemmas.Bool.{and_from, and_parts, cases_Bool}
use Rattle.std.proofs.lemmas.List.{append-nil}
use Rattle.atomic_table.specs.Table.{Me, Allows}
use Rattle.lists.specs.Elements.{in_head, in_tail, any_in, any_is, any_push_new}
use Rattle.serial_model.specs.declared.key.Key.{Key}
use Rattle.serial_model.specs.declared.number.Number.{Number}
use Rattle.homes.specs.declared.places.Content.{Content}
use Rattle.homes.specs.declared.places.Holder.{Holder}
use Rattle.homes.specs.declared.places.Holder.TheVariants.{Free, Held, Dead}
use Rattle.homes.specs.declared.places.Home.TheVariants.{InSlot}
use Rattle.homes.specs.declared.places.Spot.{Spot}
use Rattle.homes.specs.Homes.{has_key, same_key, same_spot}
use Rattle.homes.specs.Laws.{same_spot-true}
use Rattle.wire_form.specs.Leaves.{tree_leaf}
use Rattle.wire_form.specs.Words.{absent_field, at_bit, number_word}
use Rattle.commit_core.specs.declared.attempt.Attempt.{Attempt}
use Rattle.commit_core.specs.declared.attempt.Check.{Check}
use Rattle.commit_core.specs.declared.event.Act.TheVariants.{Check as Look}
use Rattle.commit_core.specs.declared.part.Part.{Part}
use Rattle.commit_core.specs.declared.part.Word.{Word}
use Rattle.commit_core.specs.declared.part.Word.TheVariants.{Record}
use Rattle.commit_core.specs.declared.place.Place.{Place}
use Rattle.commit_core.specs.declared.seat.Mark.{Mark}
use Rattle.commit_core.specs.declared.seat.Seat.{Seat}
use Rattle.commit_core.specs.declared.seat.Stage.TheVariants.{Trying, Ended}
use Rattle.commit_core.specs.declared.story.Story.{Story}
use Rattle.commit_core.specs.CoreState.{attempt_tried, check_of, is_checked, is_decided, is_given_up, is_in_progress}
use Rattle.commit_core.specs.CoreState.{is_trying, last_marked}
use Rattle.commit_core.specs.Event.{is_unchecked, is_as_seen as is_as_read, stays_as_seen, after_check, ended_check}
use Rattle.commit_core.specs.Keys.{same_number}
use Rattle.commit_core.specs.Lemmas.Keys.{same_number-self, same_word-self}
use Rattle.commit_core.specs.Opening.{Grows}
use Rattle.commit_core.specs.Parts.{same_word, record_part, is_version, version_of}
use Rattle.commit_core.specs.Places.{place_of, home_of, holder_is, is_open_to}
use Rattle.commit_core.specs.Serial.{last_write}
use Rattle.commit_core.specs.Sound.Reads.{TriesKept}
use Rattle.drop_core.specs.declared.table.Table.{Table}
use Rattle.engine_pages.specs.declared.layout.Layout.{Layout}
use Rattle.engine_pages.specs.declared.view.Took.{Took}
use Rattle.engine_pages.specs.declared.view.View.{View}
use Rattle.engine_pages.specs.Pages.{Fenced, is_array}
use Rattle.engine_pages.specs.Records.{IsAnyRecordAt}
use Rattle.engine_pages.specs.Resident.{Published}
use Rattle.engine_pages.specs.Rule.{Shared, absence, has_word, IsBitAt, KeptAreRecords, KeptIsLow, IsTrying, Tried, Shows}
use Rattle.engine_pages.specs.Touches.{has_took}
use Rattle.engine_pages.specs.Views.{IsActive, seat_number, tries}
use Rattle.engine_pages.specs.Words.{IsSmall, ShowsWords, lock_field}
use Rattle.engine_pages.proofs.CommitSteps.{commit_stride}
use Rattle.engine_pages.proofs.Dealing.{own_took}
use Rattle.engine_pages.proofs.Facing.{Deals}
use Rattle.engine_pages.proofs.Joint.{Laws, seat_sound}
use Rattle.engine_pages.proofs.OwnView.{own_fits, part_goes}
use Rattle.engine_pages.proofs.Seats.{at_front, records_none, past_stays}
use Rattle.engine_pages.proofs.Turns.{Stride, Begins, allows_at, marks_stay, tried_goes, unwritten}
use Rattle.page_records.specs.Attempts.{CanCheck, is_as_seen, checked_at, failed_at, CheckedAt, HeldStays}
use Rattle.page_records.specs.Locks.{IsOpenWord, array_absence, lock_bit}
use Rattle.page_records.proofs.AnyRecord.{Stands, absence_one, any_stands, bit_free, bit_one, tree_absence}
use Rattle.page_records.proofs.Commits.{unchanged, pages_kept, frame_kept}
use Rattle.page_records.proofs.Contents.{IsProper, small_word, version_proper, kept_version, shown_is}
use Rattle.page_records.proofs.Contents.{last_proper, free_last, stands_there}
use Rattle.page_records.proofs.Opening.{held_alive, taken_at}
use Rattle.page_records.proofs.Placing.{low_none}
use Rattle.page_records.proofs.Seeing.{free_alive}
use Rattle.page_records.proofs.Settling.{settled_trying, settled_tried, settled_marks, settled_kept, settled_locks}
use Rattle.page_records.proofs.TreeTouching.{any_meet}
use Rattle.page_records.proofs.Trying.{tried_at, attempt_here, never_idle, tried_over}
use Rattle.page_records.proofs.Undecided.{exact_bit, held_shows, undecided}
use Rattle.page_records.proofs.WordTells.{tree_version, version_word, word_tells}

-- ---- the parts of one record are one

all_of_word : (x : Spot) (f : Part → Bool) (b : Bool) (xs : List Part)
    → list_any (λ part. same_word part.word (Record x)) xs ≡ true
    → ((part : Part) → Contains xs part → same_word part.word (Record x) ≡ true → f part ≡ b)
    → list_all (λ part. not (same_word part.word (Record x)) || f part) xs ≡ b
all_of_word x f b xs has each = all_given xs each ∙ ap (λ y. not y || b) has
  where
    all_given : (xs : List Part)
        → ((part : Part) → Contains xs part → same_word part.word (Record x) ≡ true → f part ≡ b)
        → list_all (λ part. not (same_word part.word (Record x)) || f part) xs
        ≡ (not (list_any (λ part. same_word part.word (Record x)) xs) || b)
    all_given [] each = refl
    all_given (y ∷ xs) each =
        let rest = all_given xs (λ z has. each z (in_tail z y xs has)) in
        elim (cases_Bool (same_word y.word (Record x))) [
          | inl hit ↦ let here = each y (in_head y xs) hit in grind arith
          | inr miss ↦ grind arith
        ]

-- one more at the end
any_push : {A : Type 0} (f : A → Bool) (xs : List A) (y : A) → list_any f (xs ++ y ∷ []) ≡ (list_any f xs || f y)
any_push f [] y = grind (arith)
any_push f (x ∷ xs) y = rw (any_push f xs y) (grind (arith))

exact_push : (checks : List Check) (checked : List Word) (n : Number) (w : Word)
    → ((x : Word) → is_checked checks n x ≡ has_word checked x) → (x : Word)
    → is_checked (checks ++ check_of n w ∷ []) n x ≡ has_word (checked ++ w ∷ []) x
exact_push checks checked n w h x =
    any_push (λ c. same_number c.number n && same_word c.word x) checks (check_of n w)
    ∙ (ap (λ b. list_any (λ c. same_number c.number n && same_word c.word x) checks || (b && same_word w x))
    (same_number-self n)
    ∙ (ap (λ b. b || same_word w x) (h x) ∙ sym (any_push (λ q. same_word q x) checked w)))

bool_both : (a b : Bool) → (a ≡ true → b ≡ true) → (b ≡ true → a ≡ true) → a ≡ b
bool_both true true f g = refl
bool_both true false f g = sym (f refl)
bool_both false true f g = g refl
bool_both false false f g = refl

-- ---- what the machine's check needs, and finds

-- ---- what the machine's check finds, and an attempt that is given up

over_given : (decided given_up : List Number) (n : Number) → is_in_progress decided (given_up ++ n ∷ []) n ≡ true → ⊥
over_given decided given_up n now =
    let given : is_given_up (given_up ++ n ∷ []) n ≡ true =
    any_push_new (λ (y : Number). same_number y n) given_up n (same_number-self n) in
    true≢false (sym now ∙ (ap (λ b. not (is_decided decided n || b)) given ∙ ends (is_decided decided n)))
  where
    ends : (b : Bool) → not (b || true) ≡ false
    ends true = refl
    ends false = refl

-- a word of a number with a bit of absence has no lock
open_sum : (n bit : ℕ) → n < 2 ^ 60 → (bit ≡ 0) ⊎ (bit ≡ at_bit 61 1) → IsOpenWord (n + bit)
open_sum n bit few (inl none) = inl (omega arith)
open_sum n bit few (inr set) = inr (omega arith, omega arith)

-- what a seat holds is open to it
open_own : (p : ℕ) (h : Holder) → holder_is p h ≡ true → is_open_to p h ≡ true
open_own p Free mine = refl
open_own p (Held x) mine = mine
open_own p Dead mine = absurd (true≢false (sym mine))

-- an own lock is told by the word
held_field : (p : ℕ) (h : Holder) → holder_is p h ≡ true → lock_field h ≡ lock_bit
held_field p Free mine = absurd (true≢false (sym mine))
held_field p (Held x) mine = refl
held_field p Dead mine = absurd (true≢false (sym mine))

record Looks (s : Shared) (v : View) (p : ℕ) (x : Spot) (i : ℕ) (a : Attempt) (b : Bool) : Type 0 where
  tried : attempt_tried s.story.history v.seat.stage ≡ Some a
  here : slice_get s.story.history i ≡ Some a
  trying : IsTrying p v.history s.story.checks v.checked v.mine i a
  unchecked : is_unchecked s.story.checks (Record x) a ≡ true
  stays : stays_as_seen p s.story.places x a ≡ b

module _ (l : Layout) (words : List ℕ) (views : List View) (s : Shared) (id : ℕ) (v : View)
    (g : Begins l words views s id v) (k : Key) (x : Spot) (at : ℕ) (is : IsAnyRecordAt v k x at) where
  abbrev p : ℕ
  p = seat_number v.role

  abbrev m : Story
  m = s.story

  abbrev q : Place
  q = place_of m.places x

  stands_here : Stands l words s v k x at
  stands_here = any_stands l words views s id v g k x at is

  -- a place that a seat holds is its key's home
  held_home : (o : Holder) → q.holder ≡ o → holder_is p o ≡ true → home_of m.homes k ≡ InSlot x
  held_home o e held = stands_here.home (λ dead. held_alive p q.holder (ap (holder_is p) e ∙ held) dead)

  -- a lock of the key is own here exactly where the seat holds this place
  own_here : has_took v.took k x ≡ holder_is p q.holder
  own_here = bool_both (has_took v.took k x) (holder_is p q.holder) taken_held_here held_taken_here
    where
      taken_held_here : has_took v.took k x ≡ true → holder_is p q.holder ≡ true
      taken_held_here has =
          let r = any_is (λ (t : Took). same_key t.key k && same_spot t.spot x) v.took has in
          let both = and_parts (same_key (r.0).key k) (same_spot (r.0).spot x) r.2 in
          let place : (r.0).spot ≡ x = same_spot-true (r.0).spot x both.1 in
          let held = g.own.took r.0 r.1 in
          subst (λ (y : Spot). holder_is p (place_of m.places y).holder ≡ true) (sym held.1.spot ∙ place) held.1.own

      held_taken_here : holder_is p q.holder ≡ true → has_took v.took k x ≡ true
      held_taken_here held =
          let at-home = held_home q.holder refl held in
          let now = stands_there s k x at-home in
          own_took l words views s id v g k x at-home
          (subst (λ (z : Seat). has_key z.locks k ≡ true) (sym g.own.seat)
          ((seat_sound l s p g.few g.sound.joint).lock_owners.listed k
          (ap (λ (z : Place). holder_is p z.holder) now ∙ held)))

  -- the bit of absence is that of the value, where the record is open to the pass
  exact_here : (i : ℕ) → v.seat.stage ≡ Trying i → is_open_to p q.holder ≡ true → (bit : ℕ)
      → IsBitAt l.decls m k q bit → bit ≡ absence l.decls k q.content.value
  exact_here i stage may bit is = by_holder q.holder refl may
    where
      by_holder : (o : Holder) → q.holder ≡ o → is_open_to p o ≡ true → bit ≡ absence l.decls k q.content.value
      by_holder Free e may = bit_free l.decls m k q bit e is
      by_holder (Held y) e may =
          exact_bit l words views s id v g k x (held_home (Held y) e may) (ap (holder_is p) e ∙ may)
          (ap undecided stage) bit is
      by_holder Dead e may = absurd (true≢false (sym may))

  -- what is unlocked, or own, stands as it was last written
  open_last : (i : ℕ) → v.seat.stage ≡ Trying i → is_array l.decls k.storage ≡ true → (o : Holder) → q.holder ≡ o
      → is_open_to p o ≡ true → q.content ≡ last_write l.opening m.history m.decided k
  open_last i stage array Free is-free may =
      free_last l words views s k x g.sound array (stands_here.home (free_alive q.holder is-free)) is-free
  open_last i stage array (Held y) is-held may =
      shown_is m.horizon q.content (last_write l.opening m.history m.decided k)
      (held_shows l words views s id v g k x (held_home (Held y) is-held may) (ap (holder_is p) is-held ∙ may)
      (ap undecided stage))
      (last_proper l words views s k g.sound array)
  open_last i stage array Dead is-dead may = absurd (true≢false (sym may))

  -- the word tells the version of what was kept
  version_told : (i : ℕ) → v.seat.stage ≡ Trying i → (c : Content) → Contains v.seat.kept (record_part k x c)
      → IsSmall c.number → (word : ℕ) → word ≡ number_word c.number + absence l.decls k c.value
      → is_open_to p q.holder ≡ true
      → is_version q.content (version_of c) ≡ eqb (number_word q.content.number + stands_here.absent) word
  version_told i stage c has small word word-is may =
      by_kind (is_array l.decls k.storage) refl
      ∙ (ap (λ z. eqb (number_word q.content.number + z) (number_word c.number + absence l.decls k c.value))
      (sym (exact_here i stage may stands_here.absent stands_here.bit))
      ∙ ap (λ z. eqb (number_word q.content.number + stands_here.absent) z) (sym word-is))
    where
      by_kind : (b : Bool) → is_array l.decls k.storage ≡ b
          → is_version q.content (version_of c)
          ≡ eqb (number_word q.content.number + absence l.decls k q.content.value)
          (number_word c.number + absence l.decls k c.value)
      by_kind true array =
          let version = kept_version l.decls l.opening m.history v.seat.kept k x c array g.fits.records has in
          let on : IsProper c =
          version_proper l.decls l.opening m.history k c array g.sound.blank g.sound.valued
          (g.sound.joint.commits.story.ordered_numbers.rising k) version in
          let of : IsProper q.content =
          subst IsProper (sym (open_last i stage array q.holder refl may)) (last_proper l words views s k g.sound array) in
          let left : number_word q.content.number ≡ number_word q.content.number + absence l.decls k q.content.value =
          let none = array_absence l.decls k q.content.value array in omega arith in
          let right : number_word c.number ≡ number_word c.number + absence l.decls k c.value =
          let none = array_absence l.decls k c.value array in omega arith in
          version_word q.content c stands_here.small small of on
          ∙ (ap (λ z. eqb z (number_word c.number)) left
          ∙ ap (λ z. eqb (number_word q.content.number + absence l.decls k q.content.value) z) right)
      by_kind false tree =
          tree_version q.content c stands_here.small small
          ∙ (ap (λ z. eqb (number_word q.content.number + z) (number_word c.number + absent_field tree_leaf c.value))
          (sym (tree_absence l.decls k q.content.value tree))
          ∙ ap (λ z. eqb (number_word q.content.number + absence l.decls k q.content.value) (number_word c.number + z))
          (sym (tree_absence l.decls k c.value tree)))

  looks : (word : ℕ) (own-lock : Bool) (c : Content) → (can : CanCheck v k x c)
      → word ≡ number_word c.number + absence l.decls k c.value → own-lock ≡ has_took v.took k x
      → (b : Bool) → is_as_seen word own-lock (get_or words at 0) ≡ b
      → Looks s v p x can.index can.attempt b
  looks word own-lock c can word-is lock-is b e =
      let h = g.sound in
      let f = g.fits in
      let own = g.own in
      let i = can.index in
      let a = can.attempt in
      let r = stands_here in
      let here : slice_get m.history i ≡ Some a = at_front v.history m.history i a f.history can.at in
      let stage : (s.seats p).stage ≡ Trying i = ap (λ (t : Seat). t.stage) (sym own.seat) ∙ can.stage in
      let t = tried_at p v.history m.checks v.checked v.mine v.seat.stage i a can.stage can.at own.tried in
      let kept : a.parts ≡ v.seat.kept =
      subst (TriesKept m.history (s.seats p).kept) stage (seat_sound l s p g.few h.joint).tries_kept a here
      ∙ ap (λ (y : Seat). y.kept) (sym own.seat) in
      let has-kept = subst (λ (y : List Part). Contains y (record_part k x c)) kept can.has in
      let mine : own-lock ≡ holder_is p q.holder = lock-is ∙ own_here in
      let open-word : IsOpenWord word =
      subst IsOpenWord (sym word-is) (open_sum (number_word c.number) (absence l.decls k c.value)
      (small_word c.number can.small) (absence_one l.decls k c.value)) in
      let tells =
      word_tells p (number_word q.content.number) r.absent word (is_version q.content (version_of c)) own-lock q.holder
      (small_word q.content.number r.small) (bit_one l.decls m k q r.absent r.bit) open-word mine
      (version_told i can.stage c has-kept can.small word word-is) in
      let seen : is_as_read p q (record_part k x c) ≡ b =
      tells ∙ (ap (is_as_seen word own-lock) (sym r.word) ∙ e) in
      let has : list_any (λ part. same_word part.word (Record x)) a.parts ≡ true =
      any_in (λ (part : Part). same_word part.word (Record x)) a.parts (record_part k x c) can.has
      (same_word-self (Record x)) in record {
        tried = attempt_here v.history m.history v.seat.stage i a can.stage can.at f.history;
        here = here;
        trying = t;
        unchecked = and_from (list_any (λ part. same_word part.word (Record x)) a.parts)
            (not (is_checked m.checks a.number (Record x))) has (ap not (t.exact (Record x) ∙ can.unchecked));
        stays = all_of_word x (is_as_read p q) b a.parts has
            (λ part in-parts word. ap (is_as_read p q) (can.one part in-parts word) ∙ seen);
      }

  -- what the pass has locked stands as it locked it
  held_stays : (i : ℕ) → v.seat.stage ≡ Trying i → HeldStays k x v (get_or words at 0)
  held_stays i stage found has =
      let t = taken_at l words views s id v k x found g has in
      let number = t.number in
      let may : is_open_to p q.holder ≡ true = open_own p q.holder t.own in
      let here = exact_here i stage may stands_here.absent stands_here.bit in
      let then' = exact_here i stage may t.absent t.bit in
      let field : lock_field q.holder ≡ lock_bit = held_field p q.holder t.own in
      let word = stands_here.word in
      omega (arith, number, here, then', field, word)

-- ---- the step

-- no word shows what was checked, nor what was given up
checks_shown : (l : Layout) (words : List ℕ) (m : Story) (d : Table) (k : ℕ → Option Fenced) (r : Published)
    (checks : List Check) → ShowsWords l words m d k r → ShowsWords l words (record m { checks = checks }) d k r
checks_shown l words m d k r checks h = record {
  long = h.long;
  clock = h.clock;
  decisions = h.decisions;
  published = h.published;
  unused = h.unused;
  roots = h.roots;
  slots = h.slots;
  pages = h.pages;
  treed = h.treed;
  resident = h.resident;
}

given_shown : (l : Layout) (words : List ℕ) (m : Story) (d : Table) (k : ℕ → Option Fenced) (r : Published)
    (given : List Number) → ShowsWords l words m d k r → ShowsWords l words (record m { given_up = given }) d k r
given_shown l words m d k r given h = record {
  long = h.long;
  clock = h.clock;
  decisions = h.decisions;
  published = h.published;
  unused = h.unused;
  roots = h.roots;
  slots = h.slots;
  pages = h.pages;
  treed = h.treed;
  resident = h.resident;
}

pub checks_word : Laws → (l : Layout) (slots id : ℕ) (me : Me (Unit {0}) View) (k : Key) (x : Spot)
    (at word : ℕ) (own-lock : Bool) (c : Content) → IsActive me.0.role → IsAnyRecordAt me.0 k x at → CanCheck me.0 k x c
    → word ≡ number_word c.number + absence me.0.layout.decls k c.value → own-lock ≡ has_took me.0.took k x
    → Allows (λ s. Shows l s.words s.views) slots id me at (λ n. n)
    (λ n now. (now.1 ≡ me.1) × CheckedAt k x at word own-lock me.0 n now.0)
checks_word laws l slots id me k x at word own-lock c active is can word-is lock-is =
    allows_at laws l slots id me at (λ n. n) (CheckedAt k x at word own-lock) active (λ words views s g.
    by_word words views s g (is_as_seen word own-lock (get_or words at 0)) refl)
  where
    word_in : {words : List ℕ} {views : List View} {s : Shared} → Begins l words views s id me.0
        → word ≡ number_word c.number + absence l.decls k c.value
    word_in g = subst (λ (y : Layout). word ≡ number_word c.number + absence y.decls k c.value) g.own.layout word-is

    by_word : (words : List ℕ) (views : List View) (s : Shared) → Begins l words views s id me.0 → (b : Bool)
        → is_as_seen word own-lock (get_or words at 0) ≡ b
        → Stride l words views s (seat_number me.0.role) me.0 at (λ n. n) (CheckedAt k x at word own-lock)
    by_word words views s g true e =
        let v = me.0 in
        let h = g.sound in
        let f = g.fits in
        let own = g.own in
        let p = seat_number v.role in
        let m = s.story in
        let i = can.index in
        let a = can.attempt in
        let n : ℕ = get_or words at 0 in
        let words' = set words at n in
        let look = looks l words views s id v g k x at is word own-lock c can (word_in g) lock-is true e in
        let next : Story = record m { checks = m.checks ++ check_of a.number (Record x) ∷ [] } in
        let w = checked_at x at n v in
        let one = unchanged l words s next x.slot at (any_stands l words views s id v g k x at is).known refl in
        let now = pages_kept laws l words words' views s id v active g next x.slot one in
        commit_stride laws l words views s id v active g at (λ n. n) (Look x) next w (CheckedAt k x at word own-lock) record {
          lets = refl;
          allowed = ap (λ o. option_map_or (is_unchecked m.checks (Record x)) o false) look.tried ∙ look.unchecked;
          story-is = ap (λ o. (after_check (Record x) (stays_as_seen p m.places x) m v.seat o).story) look.tried
              ∙ ap (λ b. (ended_check (check_of a.number (Record x)) b m v.seat).story) look.stays;
          seat-is = ap (λ o. (after_check (Record x) (stays_as_seen p m.places x) m v.seat o).seat) look.tried
              ∙ ap (λ b. (ended_check (check_of a.number (Record x)) b m v.seat).seat) look.stays;
          grip = refl;
          role = refl;
          made = refl;
          small = record { first = h.small.first; drawn = h.small.drawn; clock = h.small.clock };
          valued = h.valued;
          shown = checks_shown l words' m s.table s.trees s.resident next.checks
              (subst (λ (z : List ℕ). ShowsWords l z m s.table s.trees s.resident) (sym (unwritten words at)) h.shown);
          marks = marks_stay words words' s.seats p v.seat w.seat h.marks own.seat refl
              (λ j lo hi. ap (λ y. get_or y j 0) (unwritten words at));
          marked = λ place mark has. has;
          marks_low = subst (λ (z : Seat). last_marked z.marks < m.epoch) (sym own.seat) (h.marked p);
          drawn = λ b has. inl has;
          tried = tried_goes m next s.seats p v.seat w.seat own.seat refl refl refl (inl refl) h.tried;
          fits = own_fits l m next s.seats v w active f f.part refl refl refl refl refl (λ place mark has. has) record {
            history = f.history;
            decided = f.decided;
            heard = f.heard;
            mine = f.mine;
            mine_own = f.mine_own;
            records = f.records;
            kept = f.kept;
            versions = f.versions;
            loaded = tt;
            tried = subst (Tried p v.history next.checks w.checked v.mine) (sym can.stage) (
              a,
              record {
                at = can.at;
                own = look.trying.own;
                exact = exact_push m.checks v.checked a.number (Record x) look.trying.exact;
                above = look.trying.above;
              },
            );
            took = λ t has. let held = own.took t has in (
              held.0,
              record {
                spot = held.1.spot;
                home = held.1.home;
                own = held.1.own;
                absent = held.1.absent;
                number = held.1.number;
                bit = held.1.bit;
              },
            );
            locked = own.locked;
            low = f.low;
            epoch = λ keeper. (f.keepers keeper).epoch;
            past = λ keeper. let was = (f.keepers keeper).past in record { clock = was.clock; tried = was.tried };
          };
          mine = λ z. refl;
          drew = refl;
          few = omega arith;
          room = omega (arith, h.sums.room);
          now = record { within = now.within; ways = now.ways; drafts = now.drafts; copies = now.copies; blanks = now.blanks; resident = now.resident; leads = now.leads; fills = now.fills; known = now.known; shuts = now.shuts; heads = now.heads; moved = now.moved; sealed = now.sealed; inners = now.inners; new_leaves = now.new_leaves; new_inners = now.new_inners };
          frame = frame_kept laws l words words' views s id v active g next x.slot one;
          deals = subst (λ (z : List ℕ). Deals l words z s p views v w) (sym (unwritten words at))
              (any_meet l words views s id v g k x at is w at (omega arith) (omega arith)
              record { role = refl; ways = refl; took = refl; gone = refl; touched = refl; blamed = refl; locks = refl } refl);
        } (
          subst (λ b. MatchBool b (w ≡ checked_at x at n v) (w ≡ failed_at at n v)) (sym e) refl,
          held_stays l words views s id v g k x at is i can.stage,
        )
    by_word words views s g false e =
        let v = me.0 in
        let h = g.sound in
        let f = g.fits in
        let own = g.own in
        let p = seat_number v.role in
        let m = s.story in
        let i = can.index in
        let a = can.attempt in
        let n : ℕ = get_or words at 0 in
        let words' = set words at n in
        let look = looks l words views s id v g k x at is word own-lock c can (word_in g) lock-is false e in
        let next : Story = record m { given_up = m.given_up ++ a.number ∷ [] } in
        let s' : Seat = record v.seat { stage = Ended } in
        let w = failed_at at n v in
        let grows : Grows m next = record {
          history = ([], append-nil m.history);
          checks = ([], append-nil m.checks);
          decided = ([], append-nil m.decided);
          given_up = (a.number ∷ [], refl);
          first_draw = refl;
          epoch = omega arith;
        } in
        let was : tries v ≡ 1 = ap (λ y. cond (is_trying y) 1 0) can.stage in
        let over : tries w ≡ 0 = ap (λ b. cond b 1 0) (settled_trying s') in
        let one = unchanged l words s next x.slot at (any_stands l words views s id v g k x at is).known refl in
        let now = pages_kept laws l words words' views s id v active g next x.slot one in
        commit_stride laws l words views s id v active g at (λ n. n) (Look x) next w (CheckedAt k x at word own-lock) record {
          lets = refl;
          allowed = ap (λ o. option_map_or (is_unchecked m.checks (Record x)) o false) look.tried ∙ look.unchecked;
          story-is = ap (λ o. (after_check (Record x) (stays_as_seen p m.places x) m v.seat o).story) look.tried
              ∙ ap (λ b. (ended_check (check_of a.number (Record x)) b m v.seat).story) look.stays;
          seat-is = ap (λ o. (after_check (Record x) (stays_as_seen p m.places x) m v.seat o).seat) look.tried
              ∙ ap (λ b. (ended_check (check_of a.number (Record x)) b m v.seat).seat) look.stays;
          grip = refl;
          role = refl;
          made = refl;
          small = record { first = h.small.first; drawn = h.small.drawn; clock = h.small.clock };
          valued = h.valued;
          shown = given_shown l words' m s.table s.trees s.resident next.given_up
              (subst (λ (z : List ℕ). ShowsWords l z m s.table s.trees s.resident) (sym (unwritten words at)) h.shown);
          marks = marks_stay words words' s.seats p v.seat w.seat h.marks own.seat (settled_marks s')
              (λ j lo hi. ap (λ y. get_or y j 0) (unwritten words at));
          marked = λ place mark has. subst (λ (y : List Mark). slice_get y place ≡ Some mark) (sym (settled_marks s')) has;
          marks_low = subst (λ (y : List Mark). last_marked y < m.epoch) (sym (settled_marks s'))
              (subst (λ (z : Seat). last_marked z.marks < m.epoch) (sym own.seat) (h.marked p));
          drawn = λ b has. inl has;
          tried = tried_over m next s.seats p i v.seat w.seat a own.seat can.stage look.here refl grows
              (over_given m.decided m.given_up a.number) h.tried;
          fits = own_fits l m next s.seats v w active f
              (part_goes v.role active v.made v.due v.due v.seat.stage w.seat.stage v.mine v.mine (λ y. y)
              (λ _ idle. absurd (never_idle v.seat.stage i can.stage idle)) f.part)
              refl refl refl refl refl
              (λ place mark has. subst (λ (y : List Mark). slice_get y place ≡ Some mark) (sym (settled_marks s')) has) record {
                history = f.history;
                decided = f.decided;
                heard = f.heard;
                mine = f.mine;
                mine_own = f.mine_own;
                records = settled_kept (KeptAreRecords l.decls l.opening m.history) s' f.records (records_none l.decls l.opening m.history);
                kept = settled_kept (KeptIsLow m.places) s' f.kept (low_none m.places);
                versions = f.versions;
                loaded = tt;
                tried = settled_tried p v.history m.checks v.checked v.mine s' tt;
                took = λ t has. let held = own.took t has in (
                  held.0,
                  record {
                    spot = held.1.spot;
                    home = held.1.home;
                    own = held.1.own;
                    absent = held.1.absent;
                    number = held.1.number;
                    bit = held.1.bit;
                  },
                );
                locked = λ j has. own.locked j (subst (λ (z : List Key). has_key z j ≡ true) (settled_locks s') has);
                low = f.low;
                epoch = λ keeper. (f.keepers keeper).epoch;
                past = λ keeper. past_stays m next v.past grows (λ b has. inl has) (f.keepers keeper).past;
              };
          mine = λ z. refl;
          drew = refl;
          few = omega arith;
          room = omega (arith, h.sums.room);
          now = record { within = now.within; ways = now.ways; drafts = now.drafts; copies = now.copies; blanks = now.blanks; resident = now.resident; leads = now.leads; fills = now.fills; known = now.known; shuts = now.shuts; heads = now.heads; moved = now.moved; sealed = now.sealed; inners = now.inners; new_leaves = now.new_leaves; new_inners = now.new_inners };
          frame = frame_kept laws l words words' views s id v active g next x.slot one;
          deals = subst (λ (z : List ℕ). Deals l words z s p views v w) (sym (unwritten words at))
              (any_meet l words views s id v g k x at is w at (omega arith) (omega arith)
              record { role = refl; ways = refl; took = refl; gone = refl; touched = refl; blamed = refl; locks = settled_locks s' } refl);
        } (
          subst (λ b. MatchBool b (w ≡ checked_at x at n v) (w ≡ failed_at at n v)) (sym e) refl,
          held_stays l words views s id v g k x at is i can.stage,
        )
