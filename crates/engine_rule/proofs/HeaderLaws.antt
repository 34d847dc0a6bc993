-- A header that is read: where it says so, no other key of its leaf's span has a record; and read again.
use Rattle.std.proofs.Common.{◌≡◌, ℕ, Bool, true, false, not, true≢false, eqb-true, ◌&&◌, ◌||◌, inl, inr, List, [], ◌∷◌, ◌++◌, append-nil, length, refl, sym, ap, ◌∙◌, subst, arith, Option}
use Rattle.std.proofs.lemmas.Bool.{and_parts}
use Rattle.std.proofs.lemmas.List.{length-append}
use Rattle.std.specs.List.{Contains}
use Rattle.std.specs.Option.{option_map_or}
use Rattle.serial_model.specs.declared.key.Key.{Key}
use Rattle.homes.specs.declared.places.Holder.TheVariants.{Free, Dead}
use Rattle.homes.specs.declared.places.At.{At}
use Rattle.homes.specs.declared.places.Home.{Home}
use Rattle.homes.specs.declared.places.Home.TheVariants.{Nowhere}
use Rattle.homes.specs.Homes.{has_key, in_span, is_free}
use Rattle.lists.specs.Elements.{all_in}
use Rattle.commit_core.specs.declared.place.Place.{Place}
use Rattle.commit_core.specs.declared.part.Word.{Word}
use Rattle.commit_core.specs.declared.part.Word.TheVariants.{Header}
use Rattle.commit_core.specs.declared.part.Version.{Version}
use Rattle.commit_core.specs.declared.part.Part.{Part}
use Rattle.commit_core.specs.declared.attempt.Attempt.{Attempt}
use Rattle.commit_core.specs.declared.event.Act.TheVariants.{Confirm}
use Rattle.commit_core.specs.declared.seat.Seat.{Seat}
use Rattle.commit_core.specs.declared.story.Story.{Story}
use Rattle.commit_core.specs.Keys.{nothing}
use Rattle.commit_core.specs.Places.{home_of, stands_at, stands, is_open_to}
use Rattle.commit_core.specs.Parts.{same_word, covers, found}
use Rattle.commit_core.specs.Told.{IsFreeNow, IsSoNow, IsToldTruly}
use Rattle.commit_core.specs.Sound.Reads.{TriesKept}
use Rattle.commit_core.specs.Lemmas.Keys.{same_word-true}
use Rattle.drop_core.specs.declared.table.Led.{Led}
use Rattle.drop_core.specs.declared.table.Led.TheVariants.{Never, From, Away}
use Rattle.drop_core.specs.declared.table.Page.{Page}
use Rattle.drop_core.specs.declared.table.Page.TheVariants.{Blank, Leaf, Inner, Split}
use Rattle.drop_core.specs.declared.table.Table.{Table}
use Rattle.drop_core.specs.declared.grip.Grip.{Grip}
use Rattle.drop_core.specs.Table.{slot_of, page_of, pointer_of, header_of, leaf_home, has_slot, is_led, is_never}
use Rattle.drop_core.specs.Event.{leaf_keys, led_span, slot_span}
use Rattle.drop_core.specs.Sound.{span_at, IsLedSo, PageTies, TiesTo, IsSoundTable, HeadersStayDead}
use Rattle.drop_core.specs.HomeLaws.{leaf-none}
use Rattle.engine_rule.specs.JointState.{is_leaf, can_see_header, is_counted, counts_so, is_header_so, header_stays, is_header_so_now, header_part}
use Rattle.engine_rule.specs.Sound.{IsHeld, HasKeys, FitsHeader, FitsWord, IsSoundKept}
use Rattle.engine_rule.proofs.PointerLaws.{led_not_never, tried_kept, free_alive, unless}

-- ---- what tests say

pub led_from : (l : Led) → is_led l ≡ true → (x : At) × (l ≡ From x)
led_from Never e = absurd (true≢false (sym e))
led_from (From x) e = (x, refl)
led_from Away e = absurd (true≢false (sym e))

pub leaf_there : (pg : Page) → is_leaf pg ≡ true → (keys : List Key) × (pg ≡ Leaf keys)
leaf_there Blank e = absurd (true≢false (sym e))
leaf_there (Leaf keys) e = (keys, refl)
leaf_there (Inner n) e = absurd (true≢false (sym e))
leaf_there Split e = absurd (true≢false (sym e))

not_so : (b : Bool) → not b ≡ true → b ≡ false
not_so true e = absurd (true≢false (sym e))
not_so false e = refl

counted : (pg : Page) (v : Version) → counts_so pg v ≡ true → (keys : List Key) × (pg ≡ Leaf keys) × (is_counted (length keys) v ≡ true)
counted Blank v e = absurd (true≢false (sym e))
counted (Leaf keys) v e = (keys, refl, e)
counted (Inner n) v e = absurd (true≢false (sym e))
counted Split v e = absurd (true≢false (sym e))

-- a leaf with as many keys as it had has the same ones
same_keys : (keys less : List Key) → HasKeys (Leaf keys) less → length keys ≡ length less → keys ≡ less
same_keys keys less (inl split) e = absurd (leaf_not_split split)
  where
    leaf_not_split : Leaf keys ≡ Split → ⊥
    leaf_not_split e = cc
same_keys keys less (inr had) e =
    let is : keys ≡ less ++ had.0 = leaf_is (less ++ had.0) had.1 in
    let longer = length-append less had.0 in
    let all = ap length is in
    is ∙ ap (λ (l : List Key). less ++ l) (none had.0 (omega (arith, longer, all, e))) ∙ append-nil less
  where
    leaf_is : (l : List Key) → Leaf keys ≡ Leaf l → keys ≡ l
    leaf_is l e = cc

    none : (l : List Key) → length l ≡ 0 → l ≡ []
    none [] e = refl
    none (x ∷ l) e = absurd (omega (arith, e))

module _ (m : Story) (d : Table) (grips : List Grip) (sound : IsSoundTable (home_of m.homes) d grips) where
  abbrev st : Key → Place
  st = stands m.places m.homes

  -- where a leaf that something leads to has the keys of the span
  pub home_in_leaf : (t : ℕ) (x : At) (keys : List Key) → (slot_of d t).led ≡ From x → page_of d t ≡ Leaf keys → (k : Key) → in_span (span_at d x) k ≡ true
      → home_of m.homes k ≡ leaf_home t 0 keys k
  home_in_leaf t x keys led page k inside =
      let so = subst (IsLedSo d t (slot_of d t).state) led (sound.holds_counted.led t) in
      let to = subst (λ (o : Option ℕ). TiesTo (home_of m.homes) d (pointer_of d x).span (pointer_of d x).page o) so.2 (sound.one_home_each.ties x so.1) in
      let ties = subst (λ (pg : Page). PageTies (home_of m.homes) (span_at d) (pointer_of d x).span t pg) page to in
      ties.0 k inside

  -- a key of the span that it doesn't have is nowhere
  pub home_beside : (t : ℕ) (x : At) (keys : List Key) → (slot_of d t).led ≡ From x → page_of d t ≡ Leaf keys → (k : Key) → in_span (span_at d x) k ≡ true
      → has_key keys k ≡ false → home_of m.homes k ≡ Nowhere
  home_beside t x keys led page k inside miss = home_in_leaf t x keys led page k inside ∙ leaf-none t 0 keys k miss

  stands_nowhere : (k : Key) → home_of m.homes k ≡ Nowhere → ((st k).holder ≡ Free) × ((st k).content ≡ nothing)
  stands_nowhere k home = (ap (λ (h : Home). (stands_at m.places h).holder) home, ap (λ (h : Home). (stands_at m.places h).content) home)

  -- ---- See

  module _ (g : Grip) (t : ℕ) (can : can_see_header d g t ≡ true) where
    leads : (is_led (slot_of d t).led ≡ true) × ((is_leaf (page_of d t) && (is_free (header_of d t) && has_slot g.holds t)) ≡ true)
    leads = and_parts (is_led (slot_of d t).led) (is_leaf (page_of d t) && (is_free (header_of d t) && has_slot g.holds t)) can

    leaf : (is_leaf (page_of d t) ≡ true) × ((is_free (header_of d t) && has_slot g.holds t) ≡ true)
    leaf = and_parts (is_leaf (page_of d t)) (is_free (header_of d t) && has_slot g.holds t) leads.1

    from : (x : At) × ((slot_of d t).led ≡ From x)
    from = led_from (slot_of d t).led leads.0

    there : (keys : List Key) × (page_of d t ≡ Leaf keys)
    there = leaf_there (page_of d t) leaf.0

    inside : (x : At) → (slot_of d t).led ≡ From x → (k : Key) → covers (header_part d t) k ≡ true → in_span (span_at d x) k ≡ true
    inside x led k c =
        sym (ap (λ (l : Led). in_span (led_span d l) k) led) ∙ (and_parts (in_span (slot_span d t) k) (not (has_key (leaf_keys (page_of d t)) k)) c).0

    beside : (k : Key) → covers (header_part d t) k ≡ true → has_key there.0 k ≡ false
    beside k c =
        sym (ap (λ (pg : Page). has_key (leaf_keys pg) k) there.1)
        ∙ not_so (has_key (leaf_keys (page_of d t)) k) (and_parts (in_span (slot_span d t) k) (not (has_key (leaf_keys (page_of d t)) k)) c).1

    pub header_free : IsFreeNow st (header_part d t)
    header_free k c = stands_nowhere k (home_beside t from.0 there.0 from.1 there.1 k (inside from.0 from.1 k c) (beside k c))

    pub header_held : IsHeld d g.holds (Header t)
    header_held = ((and_parts (is_free (header_of d t)) (has_slot g.holds t) leaf.1).1, led_not_never (slot_of d t).led leads.0)

    pub header_fits : FitsHeader d t (header_part d t)
    header_fits = record {
      version = refl;
      keys = inr ([], there.1 ∙ ap (λ (l : List Key). Leaf l) (sym (ap leaf_keys there.1) ∙ sym (append-nil (leaf_keys (page_of d t)))));
      within = λ x led k c. inside x led k c;
      absent = λ k c. refl;
    }

  -- ---- Check

  leads_now : (l : Led) → is_never l ≡ false → (l ≡ Away → ⊥) → (x : At) × (l ≡ From x)
  leads_now Never never alive = absurd (true≢false never)
  leads_now (From x) never alive = (x, refl)
  leads_now Away never alive = absurd (alive refl)

  -- where a kept header isn't dead and counts what it did, what it vouches for is so now
  pub header_now : HeadersStayDead d → (holds : List ℕ) (part : Part) (t : ℕ) → IsHeld d holds (Header t) → FitsHeader d t part
      → (header_of d t ≡ Dead → ⊥) → counts_so (page_of d t) part.version ≡ true
      → (k : Key) → covers part k ≡ true → ((st k).holder ≡ Free) × ((st k).content ≡ found part k)
  header_now headers holds part t held fits alive so k c =
      let from = leads_now (slot_of d t).led held.1 (λ away. alive (headers t away)) in
      let leaf = counted (page_of d t) part.version so in
      let many = eqb-true (length leaf.0) (length part.less) (sym (ap (is_counted (length leaf.0)) fits.version) ∙ leaf.2) in
      let same = same_keys leaf.0 part.less (subst (λ (pg : Page). HasKeys pg part.less) leaf.1 fits.keys) many in
      let both = and_parts (in_span part.span k) (not (has_key part.less k)) c in
      let miss = ap (λ (l : List Key). has_key l k) same ∙ not_so (has_key part.less k) both.1 in
      let at = stands_nowhere k (home_beside t from.0 leaf.0 from.1 leaf.1 k (fits.within from.0 from.1 k c) miss) in
      (at.0, at.1 ∙ sym (fits.absent k c))

  header_so_now : HeadersStayDead d → (p : ℕ) (holds : List ℕ) (part : Part) (t : ℕ) (w : Word) → part.word ≡ w → w ≡ Header t → IsHeld d holds part.word
      → FitsWord d part part.word → is_header_so d t part.version ≡ true → IsSoNow p st part
  header_so_now headers p holds part t w e is held fits so k c =
      let word : part.word ≡ Header t = e ∙ is in
      let both = and_parts (is_free (header_of d t)) (counts_so (page_of d t) part.version) so in
      let now = header_now headers holds part t (subst (λ (y : Word). IsHeld d holds y) word held) (subst (λ (y : Word). FitsWord d part y) word fits)
      (free_alive (header_of d t) both.0) both.1 k c in
      (ap (is_open_to p) now.0, now.1)

  -- what is told of a header is true
  pub header_truly : HeadersStayDead d → (p : ℕ) (s : Seat) (g : Grip) (t : ℕ) → TriesKept m.history s.kept s.stage → IsSoundKept d g.holds s.kept
      → IsToldTruly p m s (Confirm (Header t) (is_header_so_now d m s t))
  header_truly headers p s g t tries kept told a tried part there same =
      let stays : header_stays d t a ≡ true = sym (ap (λ (o : Option Attempt). option_map_or (header_stays d t) o false) tried) ∙ told in
      let so = unless (same_word part.word (Header t)) (is_header_so d t part.version)
      (all_in (λ (q : Part). not (same_word q.word (Header t)) || is_header_so d t q.version) a.parts stays part there) same in
      let in_kept = subst (λ (l : List Part). Contains l part) (tried_kept m.history s.kept s.stage a tries tried) there in
      header_so_now headers p g.holds part t part.word refl (same_word-true part.word (Header t) same) (kept.kept_is_held part in_kept) (kept.kept_fits part in_kept) so
