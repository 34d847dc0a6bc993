-- A value that was loaded between two loads of its record's word is that of the part which is kept, where the second
-- one finds the same word.
use Rattle.std.proofs.Common.{◌≡◌, ◌⊎◌, inl, inr, ℕ, ◌+◌, true, eq-eqb, List, get_or, refl, sym, ap}
use Rattle.std.proofs.Common.{◌∙◌, subst, arith, IfSome}
use Rattle.std.specs.Prelude.{unwrap_or, ◌&&◌}
use Rattle.std.specs.List.{Contains}
use Rattle.std.proofs.lemmas.Bool.{and_from}
use Rattle.atomic_table.specs.Table.{Me, Allows}
use Rattle.serial_model.specs.declared.key.Key.{Key}
use Rattle.serial_model.specs.declared.number.Number.{Number}
use Rattle.serial_model.specs.Numbers.{not_below_itself, not_both_below}
use Rattle.homes.specs.declared.places.Content.{Content}
use Rattle.homes.specs.declared.places.Holder.{Holder}
use Rattle.homes.specs.declared.places.Holder.TheVariants.{Free, Held, Dead}
use Rattle.homes.specs.declared.places.Spot.{Spot}
use Rattle.wire_form.specs.Words.{number_word}
use Rattle.commit_core.specs.declared.attempt.Attempt.{Attempt}
use Rattle.commit_core.specs.declared.place.Place.{Place}
use Rattle.commit_core.specs.Keys.{IsUpTo, content_at}
use Rattle.commit_core.specs.CoreState.{is_decided}
use Rattle.homes.specs.declared.places.Home.TheVariants.{InSlot}
use Rattle.commit_core.specs.Parts.{record_part}
use Rattle.commit_core.specs.Places.{place_of, home_of, stands, holder_is}
use Rattle.commit_core.specs.Serial.{content_after, last_write}
use Rattle.commit_core.specs.Sound.Reads.{IsVersion}
use Rattle.commit_core.specs.Lemmas.Shows.{up_then_below}
use Rattle.commit_core.specs.Lemmas.States.{after_all-version, after_all-greatest}
use Rattle.commit_core.specs.Lemmas.Values.{Overwrites, IsLeftOrPut, version_or, free_home_stands, held_home_stands}
use Rattle.engine_pages.specs.declared.layout.Layout.{Layout}
use Rattle.engine_pages.specs.declared.view.View.{View}
use Rattle.engine_pages.specs.Pages.{is_array}
use Rattle.engine_pages.specs.Rule.{Shared, StillLoaded, Fits, Sound, Shows}
use Rattle.engine_pages.specs.Views.{IsActive}
use Rattle.engine_pages.specs.Words.{lock_field, ShowsRecord}
use Rattle.engine_pages.proofs.Joint.{Laws, seat_sound}
use Rattle.engine_pages.proofs.Turns.{Begins, allows_at}
use Rattle.page_records.specs.Reads.{read_at, loaded_at, valued, Confirmed}
use Rattle.engine_pages.specs.Records.{IsRecordAt}
use Rattle.page_records.proofs.Contents.{free_below, small_word, one_number, version_proper, version_small, shown_is}
use Rattle.page_records.proofs.Contents.{stands_there, free_last, kept_version}
use Rattle.page_records.proofs.Leaves.{array_is, shown, home}
use Rattle.page_records.proofs.Looks.{look_loaded, pages_same}
use Rattle.page_records.proofs.Seeing.{free_alive}
use Rattle.page_records.proofs.Touching.{meet_deals}

-- ---- the load of the value

-- what stands at the key is what decided attempts left, or what one of them put above it
pub stands_left : (l : Layout) (words : List ℕ) (views : List View) (s : Shared) (k : Key) → Sound l words views s
    → IsLeftOrPut l.opening s.story k (stands s.story.places s.story.homes k).content
stands_left l words views s k h = by_holder (stands s.story.places s.story.homes k).holder refl
  where
    by_holder : (o : Holder) → (stands s.story.places s.story.homes k).holder ≡ o
        → IsLeftOrPut l.opening s.story k (stands s.story.places s.story.homes k).content
    by_holder Free e = free_home_stands l.opening s.story k h.joint.commits.story e
    by_holder (Held p) e =
        let mine = ap (holder_is p) e ∙ eq-eqb p p refl in
        held_home_stands l.opening s.story p (s.seats p) k (seat_sound l s p (h.joint.commits.holders_are_seats k p mine) h.joint) mine
    by_holder Dead e = absurd (h.joint.commits.story.homes_alive k e)

still_home : (l : Layout) (words : List ℕ) (views : List View) (s : Shared) (v : View) (k : Key) (x : Spot)
    → Sound l words views s → is_array l.decls k.storage ≡ true → Fits l s.story s.seats v
    → home_of s.story.homes k ≡ InSlot x → (c : Content)
    → Contains v.seat.kept (record_part k x c)
    → (unwrap_or (place_of s.story.places x).content.value 0 ≡ unwrap_or c.value 0)
    ⊎ ((b : Attempt) × Overwrites s.story.history s.story.decided k c.number b)
still_home l words views s v k x h array f there c has =
    let m = s.story in
    let q = place_of m.places x in
    let rising = h.joint.commits.story.ordered_numbers.rising k in
    let version : IsVersion l.opening m.history k c =
    kept_version l.decls l.opening m.history v.seat.kept k x c array f.records has in
    let low : IsUpTo c.number q.content.number = f.kept k x c has in
    let left : IsLeftOrPut l.opening m k q.content =
    subst (λ (z : Place). IsLeftOrPut l.opening m k z.content) (stands_there s k x there)
    (stands_left l words views s k h) in
    elim left [
      | inl shown ↦
          let after : Content = content_after l.opening m.history m.decided shown.0 k in
          let same : q.content ≡ after =
          shown_is m.horizon q.content after shown.1
          (version_proper l.decls l.opening m.history k after array h.blank h.valued rising
          (after_all-version (λ a. is_decided m.decided a.number && shown.0 a.number) k m.history (content_at l.opening k))) in
          elim (version_or l.opening m.history m.decided shown.0 k c rising version
          (subst (λ (z : Content). IsUpTo c.number z.number) same low)) [
            | inl is ↦ inl (ap (λ (z : Content). unwrap_or z.value 0) (same ∙ sym is))
            | inr over ↦ inr over
          ]
      | inr put ↦ inr (
        put.0,
        record {
          drawn = put.1.drawn;
          counts = put.1.counts;
          writes = put.1.writes;
          above = up_then_below c.number q.content.number put.0.number low put.1.above;
        },
      )
    ]

still : (l : Layout) (words : List ℕ) (views : List View) (s : Shared) (id : ℕ) (v : View) (k : Key) (x : Spot) (at : ℕ)
    → Begins l words views s id v → IsRecordAt v k x at
    → StillLoaded s.story.history s.story.decided s.story.places v.seat.kept
    (loaded_at k x (unwrap_or (place_of s.story.places x).content.value 0))
still l words views s id v k x at b is c has = by_holder (place_of s.story.places x).holder refl
  where
    alive : ((place_of s.story.places x).holder ≡ Dead → ⊥)
        → (unwrap_or (place_of s.story.places x).content.value 0 ≡ unwrap_or c.value 0)
        ⊎ (((a : Attempt) × Overwrites s.story.history s.story.decided k c.number a) ⊎ ((place_of s.story.places x).holder ≡ Dead))
    alive living =
        elim (still_home l words views s v k x b.sound (array_is l words views s id v b k x at is) b.fits (home l words views s id v b k x at is living) c has) [
          | inl same ↦ inl same
          | inr over ↦ inr (inl over)
        ]

    by_holder : (o : Holder) → (place_of s.story.places x).holder ≡ o
        → (unwrap_or (place_of s.story.places x).content.value 0 ≡ unwrap_or c.value 0)
        ⊎ (((a : Attempt) × Overwrites s.story.history s.story.decided k c.number a) ⊎ ((place_of s.story.places x).holder ≡ Dead))
    by_holder Free e = alive (λ dead. absurd (free_alive (place_of s.story.places x).holder e dead))
    by_holder (Held q) e = alive (λ dead. absurd (held_not_dead q (sym e ∙ dead)))
      where
        held_not_dead : (q : ℕ) → Held q ≡ Dead → ⊥
        held_not_dead q e = absurd (cc)
    by_holder Dead e = inr (inr e)

pub loads : Laws → (l : Layout) (slots id : ℕ) (me : Me (Unit {0}) View) (k : Key) (x : Spot) (at : ℕ)
    → IsActive me.0.role → IsRecordAt me.0 k x at
    → Allows (λ s. Shows l s.words s.views) slots id me (at + 1) (λ n. n)
    (λ n now. (now.1 ≡ me.1) × (now.0 ≡ valued k x (at + 1) n me.0))
loads laws l slots id me k x at active is =
    allows_at laws l slots id me (at + 1) (λ n. n) (λ v n w. w ≡ valued k x (at + 1) n v) active
    (λ words views s b.
    let v = me.0 in
    let n : ℕ = get_or words (at + 1) 0 in
    let shows : ShowsRecord words at (place_of s.story.places x) = shown l words views s id v b k x at is in
    let w : View = valued k x (at + 1) n v in
    let now = pages_same l words views s id v active b in
    look_loaded l words views s id v active b (at + 1) (λ n. n) w (λ v n w. w ≡ valued k x (at + 1) n v) refl
    record { layout = refl; role = refl; made = refl; past = refl; parked = refl; epoch = refl; mine = refl; draws = refl; due = refl; seat = refl; checked = refl; took = refl; met = refl; heard = refl; history = refl; decided = refl }
    (subst (λ y. StillLoaded s.story.history s.story.decided s.story.places v.seat.kept (loaded_at k x y)) (sym shows.value)
    (still l words views s id v k x at b is))
    b.fits.versions refl
    record { within = now.within; ways = now.ways; drafts = now.drafts; copies = now.copies; blanks = now.blanks; resident = now.resident; leads = now.leads; fills = now.fills; known = now.known; shuts = now.shuts; heads = now.heads; moved = now.moved; sealed = now.sealed; inners = now.inners; new_leaves = now.new_leaves; new_inners = now.new_inners }
    (meet_deals l words views s id v b k x at is w (at + 1) (omega arith) (omega arith)
    record { role = refl; ways = refl; took = refl; gone = refl; touched = refl; blamed = refl; locks = refl } refl)
    refl)

-- ---- the second load of the record's word

-- a part whose number stands there, unlocked, isn't overwritten
not_over : (l : Layout) (words : List ℕ) (views : List View) (s : Shared) (k : Key) (x : Spot) (n : Number)
    (b : Attempt) → Sound l words views s → is_array l.decls k.storage ≡ true → home_of s.story.homes k ≡ InSlot x
    → (place_of s.story.places x).holder ≡ Free → (place_of s.story.places x).content.number ≡ n
    → Overwrites s.story.history s.story.decided k n b → ⊥
not_over l words views s k x n b h array there free is over =
    let m = s.story in
    let top : IsUpTo b.number (last_write l.opening m.history m.decided k).number =
    after_all-greatest (λ a. is_decided m.decided a.number && true) k m.history (content_at l.opening k)
    (h.joint.commits.story.ordered_numbers.rising k) b over.drawn (and_from (is_decided m.decided b.number) true over.counts refl)
    over.writes in
    let here : IsUpTo b.number n =
    subst (IsUpTo b.number) (sym (ap (λ (c : Content). c.number) (free_last l words views s k x h array there free)) ∙ is) top in
    elim here [
      | inl same ↦ not_below_itself n b.number (sym same) over.above
      | inr low ↦ not_both_below b.number n low over.above
    ]

pub confirms : Laws → (l : Layout) (slots id : ℕ) (me : Me (Unit {0}) View) (k : Key) (x : Spot)
    (at : ℕ) → IsActive me.0.role → IsRecordAt me.0 k x at
    → Allows (λ s. Shows l s.words s.views) slots id me at (λ n. n)
    (λ n now. (now.1 ≡ me.1) × Confirmed k x at me.0 n now.0)
confirms laws l slots id me k x at active is =
    allows_at laws l slots id me at (λ n. n) (Confirmed k x at) active (λ words views s b.
    let v = me.0 in
    let m = s.story in
    let h = b.sound in
    let f = b.fits in
    let n : ℕ = get_or words at 0 in
    let shows : ShowsRecord words at (place_of m.places x) = shown l words views s id v b k x at is in
    let q = place_of m.places x in
    let w : View = read_at at n v in
    let now = pages_same l words views s id v active b in
    let array = array_is l words views s id v b k x at is in
    look_loaded l words views s id v active b at (λ n. n) w (Confirmed k x at) refl
    record { layout = refl; role = refl; made = refl; past = refl; parked = refl; epoch = refl; mine = refl; draws = refl; due = refl; seat = refl; checked = refl; took = refl; met = refl; heard = refl; history = refl; decided = refl }
    f.loaded f.versions refl
    record { within = now.within; ways = now.ways; drafts = now.drafts; copies = now.copies; blanks = now.blanks; resident = now.resident; leads = now.leads; fills = now.fills; known = now.known; shuts = now.shuts; heads = now.heads; moved = now.moved; sealed = now.sealed; inners = now.inners; new_leaves = now.new_leaves; new_inners = now.new_inners }
    (meet_deals l words views s id v b k x at is w at (omega arith) (omega arith)
    record { role = refl; ways = refl; took = refl; gone = refl; touched = refl; blamed = refl; locks = refl } refl)
    record {
      is = refl;
      value = λ c value has loaded word.
          let version = kept_version l.decls l.opening m.history v.seat.kept k x c array f.records has in
          let small = version_small l.opening s k c h.small version in
          let free : q.holder ≡ Free =
          free_below (number_word q.content.number) q.holder
          (let few = small_word c.number small in let found = shows.word in omega (arith, word)) in
          let same : q.content.number ≡ c.number =
          one_number q.content.number c.number shows.small small
          (let found = shows.word in
          let none : lock_field q.holder ≡ 0 = ap lock_field free in
          omega (arith, word)) in
          let at-home = home l words views s id v b k x at is (free_alive q.holder free) in
          elim (subst (λ o. IfSome o (StillLoaded m.history m.decided m.places v.seat.kept)) loaded f.loaded c has) [
            | inl e ↦ e
            | inr later ↦ elim later [
              | inl over ↦ absurd (not_over l words views s k x c.number over.0 h array at-home free same over.1)
              | inr dead ↦ absurd (free_alive q.holder free dead)
            ]
          ];
    })
