-- The children of an array's interior page, composed one after another.
use Rattle.std.proofs.Common.{◌≡◌, ℕ, ◌+◌, ◌-◌, ◌/◌, ◌<◌, ◌≤◌, zero, suc, true, false, List, [], ◌∷◌, ◌++◌, length, get_or, set, take, drop, replicate, refl, sym, ap, subst, ◌∙◌, arith, append_assoc}
use Rattle.std.specs.List.{AllByRecursion}
use Rattle.std.proofs.lemmas.List.{length-append, drop_more, drop-set-lt, take_more_set, take_all, append-nil}
use Rattle.root_composer.specs.declared.last.Last.{Last}
use Rattle.wire_form.specs.Bytes.{padded}
use Rattle.snapshot_store.specs.declared.place.PagePlace.{PagePlace}
use Rattle.root_composer.specs.Overlaid.{touches}
use Rattle.snapshot_store.specs.Places.{page, Cover}
use Rattle.root_composer.specs.Composer.{Made, AllMade, Writer, compose_each, with_one, with_page, written}
use Rattle.snapshot_store.specs.ArrayPages.{fan, leaf_room, row}
use Rattle.root_composer.specs.ArrayWriter.{filled, put_all, array_writer}
use Rattle.root_composer.specs.ArrayCode.{ArrayStands, array_one, array_rest, Adds, Composes}
use Rattle.snapshot_store.specs.ReadLaws.{fan_is, room_is}
use Rattle.root_composer.specs.FreshLaws.{fits, too_wide}
use Rattle.root_composer.proofs.ArrayLaw.{some_part, cover_of}

row_filled : (words : List ℕ) (n part low k : ℕ) → row (words ++ replicate n 0) part low k ≡ row words part low k
row_filled words n part low zero = refl
row_filled [] zero part low (suc k) = refl
row_filled [] (suc n) part low (suc k) = ap (λ t. (record { number = 0; low = low; high = low + (part - 1) }) ∷ t) (row_filled [] n part (low + part) k)
row_filled (w ∷ ws) n part low (suc k) = ap (λ t. (record { number = w; low = low; high = low + (part - 1) }) ∷ t) (row_filled ws n part (low + part) k)

-- the rest from a child on is that child and the rest behind it
rest_more : (run : List Last) (old : List (List ℕ)) (depth : ℕ) (words : List ℕ) (part at i before : ℕ) → i < length words → i < fan
    → array_rest run old depth (drop i words) part at (fan - i) before
    ≡ with_one (array_one run old depth (record { number = get_or words i 0; low = at; high = at + (part - 1) }) before)
    (array_rest run old depth (drop (i + 1) words) part (at + part) (fan - (i + 1)) (before + length (array_one run old depth (record { number = get_or words i 0; low = at; high = at + (part - 1) }) before).pages))
rest_more run old depth words part at i before short more =
    let left : fan - i ≡ suc (fan - (i + 1)) = omega arith in
    ap (λ k. array_rest run old depth (drop i words) part at k before) left
    ∙ ap (λ ws. array_rest run old depth ws part at (suc (fan - (i + 1))) before) (drop_more words i 0 short)

stand_more : (size : ℕ) (old : List (List ℕ)) (depth : ℕ) (words : List ℕ) (part at i : ℕ) → i < length words → i < fan
    → AllByRecursion (ArrayStands size old depth) (row (drop i words) part at (fan - i))
    → ArrayStands size old depth (record { number = get_or words i 0; low = at; high = at + (part - 1) }) × AllByRecursion (ArrayStands size old depth) (row (drop (i + 1) words) part (at + part) (fan - (i + 1)))
stand_more size old depth words part at i short more all =
    let left : fan - i ≡ suc (fan - (i + 1)) = omega arith in
    subst (λ (ws : List ℕ). AllByRecursion (ArrayStands size old depth) (row ws part at (suc (fan - (i + 1))))) (drop_more words i 0 short)
    (subst (λ (k : ℕ). AllByRecursion (ArrayStands size old depth) (row (drop i words) part at k)) left all)

tiles_more : (words : List ℕ) (part at high i : ℕ) → i < length words → i < fan → 0 < part → Cover at high (row (drop i words) part at (fan - i))
    → (at + (part - 1) ≤ high) × Cover (at + part) high (row (drop (i + 1) words) part (at + part) (fan - (i + 1)))
tiles_more words part at high i short more some c =
    let left : fan - i ≡ suc (fan - (i + 1)) = omega arith in
    let d = subst (λ (ws : List ℕ). Cover at high (row ws part at (suc (fan - (i + 1))))) (drop_more words i 0 short)
    (subst (λ (k : ℕ). Cover at high (row (drop i words) part at k)) left c) in
    let next : at + (part - 1) + 1 ≡ at + part = omega arith in
    (d.2, subst (λ (x : ℕ). Cover x high (row (drop (i + 1) words) part (at + part) (fan - (i + 1)))) next d.3)

pub none_composed : (run : List Last) (size : ℕ) (old : List (List ℕ)) (depth part low high : ℕ) (first : List ℕ) (made : List (List ℕ))
    → AllByRecursion (ArrayStands size old depth) (row first part low fan) → Cover low high (row first part low fan) → Composes run size old depth part low high 0 low first first made made
none_composed run size old depth part low high first made all cover =
    let left : fan ≡ fan - 0 = omega arith in
    record {
      numbers = ap (λ k. (array_rest run old depth first part low k (length old + length made)).numbers) (sym left);
      pages = ap (λ k. made ++ (array_rest run old depth first part low k (length old + length made)).pages) (sym left);
      stand = subst (λ (k : ℕ). AllByRecursion (ArrayStands size old depth) (row first part low k)) left all;
      tiles = subst (λ (k : ℕ). Cover low high (row first part low k)) left cover;
    }

pub one_more_composed : (run : List Last) (size : ℕ) (old : List (List ℕ)) (depth part low high i at : ℕ) (first words : List ℕ) (before made after : List (List ℕ)) (n : ℕ)
    → i < length words → i < fan → 0 < part → Composes run size old depth part low high i at first words before made
    → Adds made after n (array_one run old depth (record { number = get_or words i 0; low = at; high = at + (part - 1) }) (length old + length made))
    → Composes run size old depth part low high (i + 1) (at + part) first (set words i n) before after
one_more_composed run size old depth part low high i at first words before made after n short more some c a =
    let m : Made = array_one run old depth (record { number = get_or words i 0; low = at; high = at + (part - 1) }) (length old + length made) in
    let rest : AllMade = array_rest run old depth (drop (i + 1) words) part (at + part) (fan - (i + 1)) (length old + length made + length m.pages) in
    let whole = rest_more run old depth words part at i (length old + length made) short more in
    let count : length old + length after ≡ length old + length made + length m.pages = omega (arith, ap length a.pages, length-append made m.pages) in
    let same : array_rest run old depth (drop (i + 1) (set words i n)) part (at + part) (fan - (i + 1)) (length old + length after) ≡ rest =
    ap (λ ws. array_rest run old depth ws part (at + part) (fan - (i + 1)) (length old + length after)) (drop-set-lt (i + 1) words i n (omega arith))
    ∙ ap (array_rest run old depth (drop (i + 1) words) part (at + part) (fan - (i + 1))) count in
    record {
      numbers =
          ap (λ t. t ++ (array_rest run old depth (drop (i + 1) (set words i n)) part (at + part) (fan - (i + 1)) (length old + length after)).numbers) (take_more_set words i n short)
          ∙ ap (λ r. (take i words ++ n ∷ []) ++ AllMade.numbers r) same
          ∙ append_assoc (take i words) (n ∷ []) rest.numbers
          ∙ ap (λ k. take i words ++ (k ∷ rest.numbers)) a.number
          ∙ ap (λ r. take i words ++ AllMade.numbers r) (sym whole)
          ∙ c.numbers;
      pages =
          ap (λ r. after ++ AllMade.pages r) same
          ∙ ap (λ t. t ++ rest.pages) a.pages
          ∙ append_assoc made m.pages rest.pages
          ∙ ap (λ r. made ++ AllMade.pages r) (sym whole)
          ∙ c.pages;
      stand = subst (λ (ws : List ℕ). AllByRecursion (ArrayStands size old depth) (row ws part (at + part) (fan - (i + 1)))) (sym (drop-set-lt (i + 1) words i n (omega arith)))
          (stand_more size old depth words part at i short more c.stand).1;
      tiles = subst (λ (ws : List ℕ). Cover (at + part) high (row ws part (at + part) (fan - (i + 1)))) (sym (drop-set-lt (i + 1) words i n (omega arith)))
          (tiles_more words part at high i short more some c.tiles).1;
    }

pub next_stands : (run : List Last) (size : ℕ) (old : List (List ℕ)) (depth part low high i at : ℕ) (first words : List ℕ) (before made : List (List ℕ)) → i < length words → i < fan → 0 < part
    → Composes run size old depth part low high i at first words before made → ArrayStands size old depth (record { number = get_or words i 0; low = at; high = at + (part - 1) }) × (at + (part - 1) ≤ high)
next_stands run size old depth part low high i at first words before made short more some c = ((stand_more size old depth words part at i short more c.stand).0, (tiles_more words part at high i short more some c.tiles).0)

pub all_composed : (run : List Last) (size : ℕ) (old : List (List ℕ)) (depth part low high i at : ℕ) (first words : List ℕ) (before made : List (List ℕ)) → length words ≡ fan → i ≡ fan
    → Composes run size old depth part low high i at first words before made
    → (words ≡ (array_rest run old depth first part low fan (length old + length before)).numbers) × (made ≡ before ++ (array_rest run old depth first part low fan (length old + length before)).pages)
all_composed run size old depth part low high i at first words before made len end c =
    let none : fan - i ≡ 0 = omega arith in
    let empty : array_rest run old depth (drop i words) part at (fan - i) (length old + length made) ≡ record { numbers = []; pages = []; levels = 0 } =
    ap (λ k. array_rest run old depth (drop i words) part at k (length old + length made)) none in (
      sym (take_all i words (omega arith)) ∙ sym (append-nil (take i words)) ∙ ap (λ r. take i words ++ AllMade.numbers r) (sym empty) ∙ c.numbers,
      sym (append-nil made) ∙ ap (λ r. made ++ AllMade.pages r) (sym empty) ∙ c.pages,
    )

-- ---- a page

written_row : (W : Writer) (ws : List ℕ) (p : PagePlace) (run : List Last) (before : ℕ) (f : PagePlace → ℕ → Made) (words : List ℕ) (part low k : ℕ) → 0 < k
    → written W ws p run before f (row words part low k) ≡ with_page (W.inner ws p (compose_each f (row words part low k) before).numbers) before (compose_each f (row words part low k) before)
written_row W ws p run before f words part low zero h = absurd (omega (arith, h))
written_row W ws p run before f words part low (suc k) h = refl

pub untouched_adds : (run : List Last) (size : ℕ) (old made : List (List ℕ)) (depth : ℕ) (p : PagePlace) → touches run p.low p.high ≡ false → Adds made made p.number (array_one run old depth p (length old + length made))
untouched_adds run size old made zero p t = record { number = refl; pages = sym (append-nil made) }
untouched_adds run size old made (suc depth) p t = rw t (record { number = refl; pages = sym (append-nil made) })

pub leaf_adds : (run : List Last) (size : ℕ) (old made : List (List ℕ)) (depth : ℕ) (p : PagePlace) → touches run p.low p.high ≡ true → p.high + 1 - p.low ≤ leaf_room
    → Adds made (made ++ put_all p.low p.high run (filled (page old p.number)) ∷ []) (length old + (length made + 1)) (array_one run old (suc depth) p (length old + length made))
leaf_adds run size old made depth p t narrow = rw (t, fits (p.high + 1 - p.low) leaf_room narrow) (record { number = omega arith; pages = refl })

pub inner_adds : (run : List Last) (size : ℕ) (old before made : List (List ℕ)) (depth high at i : ℕ) (p : PagePlace) (words : List ℕ) → touches run p.low p.high ≡ true → leaf_room < p.high + 1 - p.low → length words ≡ fan → i ≡ fan
    → Composes run size old depth ((p.high + 1 - p.low) / fan) p.low high i at (filled (page old p.number)) words before made
    → Adds before (made ++ words ∷ []) (length old + (length made + 1)) (array_one run old (suc depth) p (length old + length before))
inner_adds run size old before made depth high at i p words t wide len end c =
    let part : ℕ = (p.high + 1 - p.low) / fan in
    let both = all_composed run size old depth part p.low high i at (filled (page old p.number)) words before made len end c in
    let ws : List ℕ = page old p.number in
    let r : AllMade = array_rest run old depth ws part p.low fan (length old + length before) in
    let same : array_rest run old depth (filled ws) part p.low fan (length old + length before) ≡ r =
    ap (λ qs. compose_each (array_one run old depth) qs (length old + length before)) (row_filled ws (fan - length ws) part p.low fan) in
    let words_are : words ≡ r.numbers = both.0 ∙ ap AllMade.numbers same in
    let made_are : made ≡ before ++ r.pages = both.1 ∙ ap (λ x. before ++ AllMade.pages x) same in
    let some : 0 < fan = omega (arith, fan_is) in
    rw (t, too_wide (p.high + 1 - p.low) leaf_room wide, written_row (array_writer) ws p run (length old + length before) (array_one run old depth) ws part p.low fan some)
    (record {
      number = omega (arith, ap length made_are, length-append before r.pages);
      pages = ap (λ x. x ++ words ∷ []) made_are ∙ append_assoc before r.pages (words ∷ []) ∙ ap (λ x. before ++ (r.pages ++ x ∷ [])) words_are;
    })

-- what stands below an interior page
pub stand_below : (size : ℕ) (old : List (List ℕ)) (depth : ℕ) (p : PagePlace) → ArrayStands size old (suc depth) p → leaf_room < p.high + 1 - p.low
    → AllByRecursion (ArrayStands size old depth) (row (filled (page old p.number)) ((p.high + 1 - p.low) / fan) p.low fan) × Cover p.low p.high (row (filled (page old p.number)) ((p.high + 1 - p.low) / fan) p.low fan)
stand_below size old depth p s wide =
    let part : ℕ = (p.high + 1 - p.low) / fan in
    let ws : List ℕ = page old p.number in
    let same = row_filled ws (fan - length ws) part p.low fan in
    let below = rw (too_wide (p.high + 1 - p.low) leaf_room wide) at s.below in
    let tiles = rw (too_wide (p.high + 1 - p.low) leaf_room wide) at s.tiles in
    (subst (AllByRecursion (ArrayStands size old depth)) (sym same) below, subst (Cover p.low p.high) (sym same) (cover_of p.low p.high ws part fan (omega (arith, fan_is)) tiles))

-- ---- as the code has it

-- a place that stands has a page, so at least one step is left
pub depth_some : (size : ℕ) (old : List (List ℕ)) (depth : ℕ) (p : PagePlace) → ArrayStands size old depth p → depth ≡ suc (depth - 1)
depth_some size old zero p s = absurd s
depth_some size old (suc d) p s = omega arith

pub place_there : (size : ℕ) (old : List (List ℕ)) (depth : ℕ) (p : PagePlace) → ArrayStands size old depth p → p.number ≤ length old
place_there size old zero p s = absurd s
place_there size old (suc d) p s = s.there

part_is : (low high : ℕ) → low ≤ high → (high - low + 1) / 64 ≡ (high + 1 - low) / fan
part_is low high h = let same : high - low + 1 ≡ high + 1 - low = omega arith in ap (λ x. x / 64) same ∙ ap (λ k. (high + 1 - low) / k) (sym fan_is)

filled_is : (ws words : List ℕ) → words ≡ padded 64 ws → words ≡ filled ws
filled_is ws words e = e ∙ ap (λ k. padded k ws) (sym fan_is)

pub code_begins : (run : List Last) (size : ℕ) (old made : List (List ℕ)) (depth : ℕ) (p : PagePlace) (words : List ℕ) → ArrayStands size old depth p → p.low ≤ p.high → 32 ≤ p.high - p.low → words ≡ padded 64 (page old p.number)
    → (0 < (p.high - p.low + 1) / 64) × Composes run size old (depth - 1) ((p.high - p.low + 1) / 64) p.low p.high 0 p.low words words made made
code_begins run size old made depth p words s some wide e =
    let deep = subst (λ (d : ℕ). ArrayStands size old d p) (depth_some size old depth p s) s in
    let below = stand_below size old (depth - 1) p deep (omega (arith, room_is)) in
    let part : ℕ = (p.high + 1 - p.low) / fan in
    let is = filled_is (page old p.number) words e in
    let positive = some_part (filled (page old p.number)) part p.low p.high fan (omega (arith, fan_is)) below.1 in
    subst (λ (k : ℕ). (0 < k) × Composes run size old (depth - 1) k p.low p.high 0 p.low words words made made) (sym (part_is p.low p.high some)) (
      positive,
      subst (λ (ws : List ℕ). Composes run size old (depth - 1) part p.low p.high 0 p.low ws ws made made) (sym is)
          (none_composed run size old (depth - 1) part p.low p.high (filled (page old p.number)) made below.0 below.1),
    )

pub code_leaf : (run : List Last) (size : ℕ) (old made : List (List ℕ)) (depth : ℕ) (p : PagePlace) (words filled_words : List ℕ) → ArrayStands size old depth p → p.low ≤ p.high → touches run p.low p.high ≡ true → p.high - p.low < 32
    → filled_words ≡ padded 64 (page old p.number) → words ≡ put_all p.low p.high run filled_words
    → Adds made (made ++ words ∷ []) (length old + (length made + 1)) (array_one run old depth p (length old + length made))
code_leaf run size old made depth p words filled_words s some t narrow e put =
    let is : words ≡ put_all p.low p.high run (filled (page old p.number)) = put ∙ ap (put_all p.low p.high run) (filled_is (page old p.number) filled_words e) in
    subst (λ (d : ℕ). Adds made (made ++ words ∷ []) (length old + (length made + 1)) (array_one run old d p (length old + length made))) (sym (depth_some size old depth p s))
    (subst (λ (ws : List ℕ). Adds made (made ++ ws ∷ []) (length old + (length made + 1)) (array_one run old (suc (depth - 1)) p (length old + length made))) (sym is)
    (leaf_adds run size old made (depth - 1) p t (omega (arith, room_is))))

pub code_inner : (run : List Last) (size : ℕ) (old before made : List (List ℕ)) (depth i at : ℕ) (p : PagePlace) (first words : List ℕ) → ArrayStands size old depth p → p.low ≤ p.high → touches run p.low p.high ≡ true → 32 ≤ p.high - p.low → length words ≡ 64 → i ≡ 64
    → first ≡ padded 64 (page old p.number) → Composes run size old (depth - 1) ((p.high - p.low + 1) / 64) p.low p.high i at first words before made
    → Adds before (made ++ words ∷ []) (length old + (length made + 1)) (array_one run old depth p (length old + length before))
code_inner run size old before made depth i at p first words s some t wide len end e c =
    subst (λ (d : ℕ). Adds before (made ++ words ∷ []) (length old + (length made + 1)) (array_one run old d p (length old + length before))) (sym (depth_some size old depth p s))
    (inner_adds run size old before made (depth - 1) p.high at i p words t (omega (arith, room_is)) (len ∙ sym fan_is) (end ∙ sym fan_is)
    (subst (λ (ws : List ℕ). Composes run size old (depth - 1) ((p.high + 1 - p.low) / fan) p.low p.high i at ws words before made) (filled_is (page old p.number) first e)
    (subst (λ (k : ℕ). Composes run size old (depth - 1) k p.low p.high i at first words before made) (part_is p.low p.high some) c)))

pub as_pushed : (old before after made : List (List ℕ)) (words : List ℕ) (n : ℕ) (m : Made) → after ≡ made ++ words ∷ [] → n ≡ length old + (length made + 1) → Adds before (made ++ words ∷ []) (length old + (length made + 1)) m → Adds before after n m
as_pushed old before after made words n m pushed count a = record { number = count ∙ a.number; pages = pushed ∙ a.pages }

pub leaf_end : (run : List Last) (size : ℕ) (old made same : List (List ℕ)) (depth : ℕ) (p : PagePlace) (words filled_words : List ℕ) → ArrayStands size old depth p → p.low ≤ p.high → touches run p.low p.high ≡ true → p.high - p.low < 32
    → filled_words ≡ padded 64 (page old p.number) → words ≡ put_all p.low p.high run filled_words → same ≡ made
    → Adds made (same ++ words ∷ []) (length old + (length same + 1)) (array_one run old depth p (length old + length made))
leaf_end run size old made same depth p words filled_words s some t narrow e put is =
    subst (λ (x : List (List ℕ)). Adds made (x ++ words ∷ []) (length old + (length x + 1)) (array_one run old depth p (length old + length made))) (sym is)
    (code_leaf run size old made depth p words filled_words s some t narrow e put)

pub inner_end : (run : List Last) (size : ℕ) (old before made same : List (List ℕ)) (depth i at : ℕ) (p : PagePlace) (first words same_words : List ℕ) → ArrayStands size old depth p → p.low ≤ p.high → touches run p.low p.high ≡ true → 32 ≤ p.high - p.low → length words ≡ 64 → i ≡ 64
    → first ≡ padded 64 (page old p.number) → Composes run size old (depth - 1) ((p.high - p.low + 1) / 64) p.low p.high i at first words before made → same ≡ made → same_words ≡ words
    → Adds before (same ++ same_words ∷ []) (length old + (length same + 1)) (array_one run old depth p (length old + length before))
inner_end run size old before made same depth i at p first words same_words s some t wide len end e c is are =
    subst (λ (x : List (List ℕ)). Adds before (x ++ same_words ∷ []) (length old + (length x + 1)) (array_one run old depth p (length old + length before))) (sym is)
    (subst (λ (ws : List ℕ). Adds before (made ++ ws ∷ []) (length old + (length made + 1)) (array_one run old depth p (length old + length before))) (sym are)
    (code_inner run size old before made depth i at p first words s some t wide len end e c))
