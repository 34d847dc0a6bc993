-- What pages put into a state: one record, the records of a page, those of all pages below a page.
use Rattle.std.proofs.Common.{◌≡◌, ◌≢◌, ℕ, ◌+◌, ◌-◌, ◌*◌, ◌<◌, ◌≤◌, suc, Bool, true, false, List, [], ◌∷◌}
use Rattle.std.proofs.Common.{length, get_or, Option, Some, None, refl, sym, ap, subst, ◌∙◌, arith, inl, inr}
use Rattle.std.proofs.Common.{eqb, ◌&&◌}
use Rattle.std.specs.Prelude.{cond, nat_le, nat_lt, ◌==◌}
use Rattle.std.specs.Ordering.{eq_by_cmp}
use Rattle.std.specs.List.{AllByRecursion}
use Rattle.std.specs.FinMap.{get, insert, get-insert}
use Rattle.std.proofs.lemmas.Bool.{cases_eq, cases_lt}
use Rattle.std.proofs.lemmas.Bool.Decides.{nat_tests}
use Rattle.serial_model.specs.Keys.{key_cmp}
use Rattle.serial_model.specs.State.{State}
use Rattle.serial_model.specs.declared.key.Key.{Key}
use Rattle.serial_model.specs.KeyOrder.{keys_total}
use Rattle.snapshot_store.specs.declared.place.PagePlace.{PagePlace}
use Rattle.snapshot_store.specs.Places.{Found, Format, at_key, find, here_or_below, words_at, places_below}
use Rattle.snapshot_store.specs.Places.{Cover, Tiles, StandsTo}
use Rattle.snapshot_store.specs.ArrayPages.{array_found, array_look}
use Rattle.recovery_core.specs.Damage.{first_byte, FirstBad, BreaksTo}
use Rattle.recovery_core.specs.Gather.{found_of, put_over, Puts, only_at, is_from, array_records, found_at}
use Rattle.recovery_core.specs.Gather.{found_among, Gathered, Gathers}

-- keys compare alike where both parts are equal
same_key : (a b : Key) → eq_by_cmp key_cmp a b ≡ eqb a.storage b.storage && eqb a.key b.key
same_key a b = grind (arith, nat_tests)

-- ---- tests

pub le_yes : (a b : ℕ) → a ≤ b → nat_le a b ≡ true
le_yes a b h = grind (arith, nat_tests)

pub le_no : (a b : ℕ) → b < a → nat_le a b ≡ false
le_no a b h = grind (arith, nat_tests)

pub lt_yes : (a b : ℕ) → a < b → nat_lt a b ≡ true
lt_yes a b h = grind (arith, nat_tests)

pub lt_no : (a b : ℕ) → b ≤ a → nat_lt a b ≡ false
lt_no a b h = grind (arith, nat_tests)

pub eq_yes : (a b : ℕ) → a ≡ b → (a == b) ≡ true
eq_yes a b h = grind (arith, nat_tests)

pub eq_no : (a b : ℕ) → a ≢ b → (a == b) ≡ false
eq_no a b h = grind (arith, nat_tests)

pub no_found : (b : Bool) → ◌≡◌ {A = Option Found} (cond b None None) None
no_found true = refl
no_found false = refl

-- ---- one record

-- a value that is set is a record's
pub puts_one : (s : State) (key : Key) (number value : ℕ) (new : State) → new ≡ insert s key value
    → Puts (only_at key (Some (found_of number value))) s new
puts_one s key number value new is = record {
  values = λ q.
      ap (λ (m : State). get m q) is
      ∙ get-insert keys_total s key value q
      ∙ ap (λ b. cond b (Some value) (get s q)) (same_key q key)
      ∙ either (eqb q.storage key.storage && eqb q.key key.key) (get s q);
}
  where
    either : (b : Bool) (old : Option ℕ)
        → cond b (Some value) old ≡ put_over (cond b (Some (found_of number value)) None) old
    either true old = refl
    either false old = refl

-- where nothing is found all stays
pub puts_none : (found : Key → Option Found) (s : State) → ((key : Key) → found key ≡ None) → Puts found s s
puts_none found s none = record { values = λ key. sym (ap (λ o. put_over o (get s key)) (none key)) }

-- the same records are found
pub puts_same : (found other : Key → Option Found) (old new : State) → ((key : Key) → found key ≡ other key)
    → Puts found old new → Puts other old new
puts_same found other old new same p = record {
  values = λ key. p.values key
      ∙ ap (λ o. put_over o (get old key)) (same key);
}

pub puts_never : (key : Key) (number value : ℕ) (s : State) → number ≡ 0
    → Puts (only_at key (array_found number value)) s s
puts_never key number value s never =
    puts_none (only_at key (array_found number value)) s
    (λ q. ap (λ o. cond ((q.storage == key.storage) && (q.key == key.key)) o None) (rw (eq_yes number 0 never) refl)
    ∙ no_found ((q.storage == key.storage) && (q.key == key.key)))

pub puts_written : (key : Key) (number value : ℕ) (old new : State) → number ≢ 0
    → Puts (only_at key (Some (found_of number value))) old new
    → Puts (only_at key (array_found number value)) old new
puts_written key number value old new some p =
    puts_same (only_at key (Some (found_of number value))) (only_at key (array_found number value)) old new
    (λ q. ap (λ o. cond ((q.storage == key.storage) && (q.key == key.key)) o None) (rw (eq_no number 0 some) refl)) p

-- ---- the leaf of an array

abbrev pub key_with : ℕ → ℕ → Key
key_with s k = record { storage = s; key = k }

leaf_step : (words : List ℕ) (id low i : ℕ) (key : Key) (o : Option ℕ)
    → put_over (only_at (key_with id (low + i))
    (array_found (get_or words (2 * i) 0) (get_or words (2 * i + 1) 0)) key)
    (put_over (array_records words id low (low + i) key) o)
    ≡ put_over (array_records words id low (low + (i + 1)) key) o
leaf_step words id low i key o =
    elim (cases_eq key.storage id) [
      | inl here ↦ elim (cases_eq key.key (low + i)) [
        | inl this ↦
            let index : key.key - low ≡ i = omega arith in
            let look : array_look words low key.key
            ≡ array_found (get_or words (2 * i) 0) (get_or words (2 * i + 1) 0) = ap
            (λ k. array_found (get_or words (2 * k) 0) (get_or words (2 * k + 1) 0)) index in
            rw (
              eq_yes key.storage id here,
              eq_yes key.key (low + i) this,
              le_yes low key.key (omega arith),
              lt_no key.key (low + i) (omega arith),
              lt_yes key.key (low + (i + 1)) (omega arith),
            ) (ap (λ x. put_over x o) (sym look))
        | inr other ↦
            let same : nat_lt key.key (low + i) ≡ nat_lt key.key (low + (i + 1)) = grind (arith, nat_tests) in
            rw (eq_yes key.storage id here, eq_no key.key (low + i) other)
            (ap (λ b. put_over (cond (nat_le low key.key && b) (array_look words low key.key) None) o) same)
      ]
      | inr other ↦ rw (eq_no key.storage id other) refl
    ]

-- one record more
pub leaf_more : (words : List ℕ) (id low i : ℕ) (old now new : State)
    → Puts (array_records words id low (low + i)) old now
    → Puts (only_at (key_with id (low + i))
    (array_found (get_or words (2 * i) 0) (get_or words (2 * i + 1) 0))) now new
    → Puts (array_records words id low (low + (i + 1))) old new
leaf_more words id low i old now new p q = record {
  values = λ key.
      q.values key
      ∙ ap (put_over (only_at (key_with id (low + i))
      (array_found (get_or words (2 * i) 0) (get_or words (2 * i + 1) 0)) key)) (p.values key)
      ∙ leaf_step words id low i key (get old key);
}

-- none yet
pub leaf_begins : (words : List ℕ) (id low : ℕ) (s : State) → Puts (array_records words id low (low + 0)) s s
leaf_begins words id low s = puts_none (array_records words id low (low + 0)) s (λ key. none key)
  where
    none : (key : Key) → array_records words id low (low + 0) key ≡ None
    none key = elim (cases_lt key.key low) [
      | inl below ↦ rw (le_no low key.key below)
          (elim (key.storage == id) as
          (λ b. cond (b && false) (array_look words low key.key) None ≡ None) [ true ↦ refl | false ↦ refl ])
      | inr above ↦ rw (lt_no key.key (low + 0) (omega arith))
          (elim (key.storage == id) as
          (λ b. cond (b && (nat_le low key.key && false)) (array_look words low key.key) None ≡ None) [
            | true ↦ elim (nat_le low key.key) as
                (λ b. cond (b && false) (array_look words low key.key) None ≡ None) [ true ↦ refl | false ↦ refl ]
            | false ↦ refl
          ])
    ]

-- ---- places in a row

-- the first of some places and then the others
among_step : (F : Format) (pages : List (List ℕ)) (d id high : ℕ) (q : PagePlace) (qs : List PagePlace) (key : Key)
    (o : Option ℕ) → q.low ≤ q.high → q.high ≤ high
    → put_over (found_among F pages d id (q.high + 1) high qs key) (put_over (found_at F pages d id q key) o)
    ≡ put_over (found_among F pages d id q.low high (q ∷ qs) key) o
among_step F pages d id high q qs key o some within =
    elim (cases_eq key.storage id) [
      | inl here ↦ elim (cases_lt q.high key.key) [
        | inl above ↦
            rw (
              eq_yes key.storage id here,
              le_yes (q.high + 1) key.key (omega arith),
              le_yes q.low key.key (omega arith),
              lt_no key.key (q.high + 1) (omega arith),
              le_no key.key q.high above,
            ) refl
        | inr within_q ↦
            rw (
              eq_yes key.storage id here,
              le_no (q.high + 1) key.key (omega arith),
              lt_yes key.key (q.high + 1) (omega arith),
              lt_yes key.key (high + 1) (omega arith),
              le_yes key.key q.high (omega arith),
            ) refl
      ]
      | inr other ↦ rw (eq_no key.storage id other) refl
    ]

module _ (F : Format) (Is : PagePlace → List ℕ → Type 0) (pages : List (List ℕ)) (d id : ℕ) where
  -- none was gathered yet
  pub gathers_begin : (low high : ℕ) (all : List PagePlace) (s : State) → Cover low high all
      → Gathers F Is pages d id low high all s low all s
  gathers_begin low high all s cover = record
      { tiles = cover; stands = λ x. x; breaks = λ n x. x; values = λ key. refl }

  -- one more
  pub gathers_more : (low high : ℕ) (all : List PagePlace) (old : State) (at : ℕ) (q : PagePlace) (rest : List PagePlace)
      (now new : State)
      → Gathers F Is pages d id low high all old at (q ∷ rest) now → Gathered F Is pages d id q now new
      → Gathers F Is pages d id low high all old (q.high + 1) rest new
  gathers_more low high all old at q rest now new g one = record {
    tiles = g.tiles.3;
    stands = λ others. g.stands (one.stands, others);
    breaks = λ n bad. g.breaks n (inr (one.stands, bad));
    values = λ key.
        ap (put_over (found_among F pages d id (q.high + 1) high rest key)) (one.puts.values key)
        ∙ among_step F pages d id high q rest key (get now key) (omega (arith, g.tiles.0, g.tiles.1)) g.tiles.2
        ∙ ap (λ l. put_over (found_among F pages d id l high (q ∷ rest) key) (get now key)) g.tiles.0
        ∙ g.values key;
  }

  -- the next one breaks
  pub gathers_break : (low high : ℕ) (all : List PagePlace) (old : State) (at : ℕ) (q : PagePlace) (rest : List PagePlace)
      (now : State) (n : ℕ)
      → Gathers F Is pages d id low high all old at (q ∷ rest) now → BreaksTo F Is pages n d q
      → FirstBad (StandsTo F Is pages d) (BreaksTo F Is pages n d) all
  gathers_break low high all old at q rest now n g breaks = g.breaks n (inl breaks)

  -- what all pages have, once none is left
  all_put : (low high : ℕ) (all : List PagePlace) (old : State) (at : ℕ) (now : State)
      → Gathers F Is pages d id low high all old at [] now → Puts (found_among F pages d id low high all) old now
  all_put low high all old at now g = record {
    values = λ key. sym (ap (λ o. put_over o (get now key)) (no_found (is_from id at (high + 1) key))) ∙ g.values key;
  }

  -- ---- a page

  -- a row of places has no gap
  tiles_of : (low high : ℕ) (qs : List PagePlace) → Cover low high qs → Tiles low high qs
  tiles_of low high [] cover = tt
  tiles_of low high (q ∷ qs) cover = cover

  below_of : (here there : Option Found) (qs : List PagePlace) → 0 < length qs → here_or_below here there qs ≡ there
  below_of here there [] some = absurd (omega (arith, some))
  below_of here there (q ∷ qs) some = refl

  -- an interior page, all of whose children were gathered
  pub inner_gathered : (p : PagePlace) (all : List PagePlace) (old : State) (at : ℕ) (now : State) → p.number ≤ length pages
      → Is p (words_at pages p) → places_below F pages p ≡ all → 0 < length all → Cover p.low p.high all
      → Gathers F Is pages d id p.low p.high all old at [] now → Gathered F Is pages (suc d) id p old now
  inner_gathered p all old at now there right below some cover g = record {
    stands = record {
      there = there;
      right = right;
      tiles = subst (Tiles p.low p.high) (sym below) (tiles_of p.low p.high all cover);
      below = subst (AllByRecursion (StandsTo F Is pages d)) (sym below) (g.stands tt);
    };
    puts = puts_same (found_among F pages d id p.low p.high all) (found_at F pages (suc d) id p) old now
        (λ key. ap (λ o. cond (is_from id p.low (p.high + 1) key) o None) (
        sym (below_of (F.look (words_at pages p) p.low key.key)
        (at_key key.key (find F pages d key.key) all) all some)
        ∙ ap (λ qs. here_or_below (F.look (words_at pages p) p.low key.key)
        (at_key key.key (find F pages d key.key) qs) qs) (sym below)
        ))
        (all_put p.low p.high all old at now g);
  }

  -- a leaf
  pub leaf_gathered : (p : PagePlace) (old now : State) → p.number ≤ length pages → Is p (words_at pages p)
      → places_below F pages p ≡ []
      → Puts (λ key. cond (is_from id p.low (p.high + 1) key) (F.look (words_at pages p) p.low key.key) None) old now
      → Gathered F Is pages (suc d) id p old now
  leaf_gathered p old now there right below puts = record {
    stands = record {
      there = there;
      right = right;
      tiles = subst (Tiles p.low p.high) (sym below) tt;
      below = subst (AllByRecursion (StandsTo F Is pages d)) (sym below) tt;
    };
    puts = puts_same (λ key. cond (is_from id p.low (p.high + 1) key) (F.look (words_at pages p) p.low key.key) None)
        (found_at F pages (suc d) id p) old now
        (λ key. ap (λ qs. cond (is_from id p.low (p.high + 1) key)
        (here_or_below (F.look (words_at pages p) p.low key.key)
        (at_key key.key (find F pages d key.key) qs) qs) None) (sym below)) puts;
  }

  -- a page that isn't right
  pub breaks_here : (p : PagePlace) (n : ℕ) → (Is p (words_at pages p) → ⊥) → n ≡ first_byte p.number
      → BreaksTo F Is pages n (suc d) p
  breaks_here p n wrong at = inl (wrong, at)

  -- one below it
  pub breaks_below : (p : PagePlace) (all : List PagePlace) (n : ℕ) → Is p (words_at pages p) → places_below F pages p ≡ all
      → FirstBad (StandsTo F Is pages d) (BreaksTo F Is pages n d) all → BreaksTo F Is pages n (suc d) p
  breaks_below p all n right below bad = inr
      (right, subst (FirstBad (StandsTo F Is pages d) (BreaksTo F Is pages n d)) (sym below) bad)
