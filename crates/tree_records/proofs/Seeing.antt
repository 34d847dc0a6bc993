-- The first load of a read: an unlocked record of a tree is seen, and kept.
use Rattle.std.proofs.Common.{◌≡◌, ◌⊎◌, inl, inr, ℕ, ◌+◌, ◌/◌, ◌%◌, ◌^◌, ◌<◌, Bool, true, false, eqb-true, List}
use Rattle.std.proofs.Common.{get_or, refl, sym, ap, ◌∙◌, subst, arith}
use Rattle.std.specs.Prelude.{MatchBool}
use Rattle.atomic_table.specs.Table.{Me, Allows}
use Rattle.serial_model.specs.declared.key.Key.{Key}
use Rattle.homes.specs.declared.places.Content.{Content}
use Rattle.homes.specs.declared.places.Holder.{Holder}
use Rattle.homes.specs.declared.places.Holder.TheVariants.{Free, Held, Dead}
use Rattle.homes.specs.declared.places.Home.TheVariants.{InSlot}
use Rattle.homes.specs.declared.places.Spot.{Spot}
use Rattle.wire_form.specs.Leaves.{tree_leaf}
use Rattle.wire_form.specs.Words.{absent_field, at_bit, number_word}
use Rattle.commit_core.specs.declared.place.Place.{Place}
use Rattle.commit_core.specs.CoreState.{is_trying}
use Rattle.commit_core.specs.Keys.{nothing}
use Rattle.commit_core.specs.Lemmas.Versions.{last_version}
use Rattle.commit_core.specs.Moves.{Shows as StandsFor}
use Rattle.commit_core.specs.Places.{place_of, home_of}
use Rattle.commit_core.specs.Serial.{last_write}
use Rattle.commit_core.specs.Sound.Reads.{IsVersion}
use Rattle.engine_pages.specs.declared.layout.Layout.{Layout}
use Rattle.engine_pages.specs.declared.view.View.{View}
use Rattle.engine_pages.specs.Pages.{is_array}
use Rattle.engine_pages.specs.Records.{IsTreeRecordAt}
use Rattle.engine_pages.specs.Rule.{Shared, Shows, Sound}
use Rattle.engine_pages.specs.Views.{IsActive, seat_number}
use Rattle.engine_pages.specs.Words.{lock_field}
use Rattle.engine_pages.proofs.Joint.{Laws}
use Rattle.engine_pages.proofs.Looks.{look_stride}
use Rattle.engine_pages.proofs.Turns.{Stride, Begins, allows_at}
use Rattle.page_records.specs.Reads.{read_at, saw}
use Rattle.page_records.proofs.AnyRecord.{Stands, any_stands, bit_free, bit_one, tree_absence}
use Rattle.page_records.proofs.Contents.{small_word, stands_there}
use Rattle.page_records.proofs.Looks.{pages_same}
use Rattle.page_records.proofs.Seeing.{free_alive, sees_free}
use Rattle.page_records.proofs.TreeLeaves as leaves
use Rattle.page_records.proofs.TreeTouching.{any_meet}
use Rattle.tree_records.specs.Reads.{IsThat, SawTree, SawTreeFree, is_unlocked}

-- ---- words

-- where no lock stands in the word nobody holds the record
unlocked_free : (n bit word : ℕ) (h : Holder) → word ≡ (n + lock_field h) + bit → n < 2 ^ 60
    → (bit ≡ 0) ⊎ (bit ≡ at_bit 61 1) → (word / 2 ^ 60) % 2 ≡ 0 → h ≡ Free
unlocked_free n bit word Free is few one even = refl
unlocked_free n bit word (Held p) is few (inl none) even = absurd (omega arith)
unlocked_free n bit word (Held p) is few (inr set) even = absurd (omega arith)
unlocked_free n bit word Dead is few (inl none) even = absurd (omega arith)
unlocked_free n bit word Dead is few (inr set) even = absurd (omega arith)

-- ---- a record that nobody holds

-- what stands there shows the last write
pub free_shows : (l : Layout) (words : List ℕ) (views : List View) (s : Shared) (k : Key) (x : Spot)
    → Sound l words views s → home_of s.story.homes k ≡ InSlot x → (place_of s.story.places x).holder ≡ Free
    → StandsFor s.story.horizon (place_of s.story.places x).content
    (last_write l.opening s.story.history s.story.decided k)
free_shows l words views s k x h home free =
    let there = stands_there s k x home in
    subst (λ (z : Place). StandsFor s.story.horizon z.content (last_write l.opening s.story.history s.story.decided k)) there
    (h.joint.commits.story.unlocked_homes k (ap (λ (z : Place). z.holder) there ∙ free))

-- so it is that one, or an absence as that one is
shows_that : (l : Layout) (s : Shared) (k : Key) (c : Content)
    → StandsFor s.story.horizon c (last_write l.opening s.story.history s.story.decided k)
    → IsThat c (last_write l.opening s.story.history s.story.decided k)
shows_that l s k c (inl same) = inl same
shows_that l s k c (inr lost) = inr (lost.0, lost.1.absent)

-- and a version, or an absence that lost its number
pub shows_version : (l : Layout) (s : Shared) (k : Key) (c : Content) → is_array l.decls k.storage ≡ false
    → StandsFor s.story.horizon c (last_write l.opening s.story.history s.story.decided k)
    → ((c ≡ nothing) × (is_array l.decls k.storage ≡ false)) ⊎ IsVersion l.opening s.story.history k c
shows_version l s k c tree (inl same) =
    inr (subst (IsVersion l.opening s.story.history k) (sym same) (last_version l.opening s.story.history s.story.decided k))
shows_version l s k c tree (inr lost) = inl (lost.0, tree)

-- ---- the step

pub sees_tree : Laws → (l : Layout) (slots id : ℕ) (me : Me (Unit {0}) View) (k : Key) (x : Spot) (at : ℕ)
    → IsActive me.0.role → is_trying me.0.seat.stage ≡ false → IsTreeRecordAt me.0 k x at
    → Allows (λ s. Shows l s.words s.views) slots id me at (λ n. n) (λ n now. (now.1 ≡ me.1) × SawTree k x at me.0 n now.0)
sees_tree laws l slots id me k x at active resting is =
    allows_at laws l slots id me at (λ n. n) (SawTree k x at) active
    (λ words views s b. by_found words views s b (is_unlocked (get_or words at 0)) refl)
  where
    by_found : (words : List ℕ) (views : List View) (s : Shared) → Begins l words views s id me.0
        → (c : Bool) → is_unlocked (get_or words at 0) ≡ c
        → Stride l words views s (seat_number me.0.role) me.0 at (λ n. n) (SawTree k x at)
    by_found words views s b true even =
        let v = me.0 in
        let m = s.story in
        let h = b.sound in
        let f = b.fits in
        let n : ℕ = get_or words at 0 in
        let r : Stands l words s v k x at = any_stands l words views s id v b k x at (inr is) in
        let q = place_of m.places x in
        let zero-bit : (n / 2 ^ 60) % 2 ≡ 0 = eqb-true ((n / 2 ^ 60) % 2) 0 even in
        let free : q.holder ≡ Free =
        unlocked_free (number_word q.content.number) r.absent n q.holder r.word (small_word q.content.number r.small)
        (bit_one l.decls m k q r.absent r.bit) zero-bit in
        let tree = leaves.no_array_is l words views s id v b k x at is in
        let bit : r.absent ≡ absent_field tree_leaf q.content.value =
        bit_free l.decls m k q r.absent free r.bit ∙ tree_absence l.decls k q.content.value tree in
        let found : number_word q.content.number + absent_field tree_leaf q.content.value ≡ n =
        let word = r.word in let none : lock_field q.holder ≡ 0 = ap lock_field free in omega arith in
        let shows = free_shows l words views s k x h (r.home (free_alive q.holder free)) free in
        let w : View = saw m.history m.decided k x q.content at n v in
        let told : SawTreeFree k x at v n w = record {
          content = q.content;
          history = m.history;
          decided = m.decided;
          drawn = f.history;
          seen = f.decided;
          small = r.small;
          word = found;
          last = subst (λ (y : Layout). IsThat q.content (last_write y.opening m.history m.decided k)) (sym b.own.layout)
              (shows_that l s k q.content shows);
          whole = h.joint.commits.story.ordered_numbers.decided_drawn;
          is = refl;
        } in
        sees_free laws l words views s id v active b k x at (inr is) resting free
        (shows_version l s k q.content tree shows) (SawTree k x at)
        (subst (λ c. MatchBool c (SawTreeFree k x at v n w) (w ≡ read_at at n v)) (sym even) told)
    by_found words views s b false odd =
        let v = me.0 in
        let n : ℕ = get_or words at 0 in
        let w : View = read_at at n v in
        let now = pages_same l words views s id v active b in
        look_stride l words views s id v active b at (λ n. n) w (SawTree k x at) refl
        record { layout = refl; role = refl; made = refl; past = refl; parked = refl; epoch = refl; mine = refl; draws = refl; due = refl; seat = refl; checked = refl; took = refl; loaded = refl; met = refl; heard = refl; history = refl; decided = refl; versions = refl }
        refl
        record { within = now.within; ways = now.ways; drafts = now.drafts; copies = now.copies; blanks = now.blanks; resident = now.resident; leads = now.leads; fills = now.fills; known = now.known; shuts = now.shuts; heads = now.heads; moved = now.moved; sealed = now.sealed; inners = now.inners; new_leaves = now.new_leaves; new_inners = now.new_inners }
        (any_meet l words views s id v b k x at (inr is) w at (omega arith) (omega arith)
        record { role = refl; ways = refl; took = refl; gone = refl; touched = refl; blamed = refl; locks = refl } refl)
        (subst (λ c. MatchBool c (SawTreeFree k x at v n w) (w ≡ read_at at n v)) (sym odd) refl)
