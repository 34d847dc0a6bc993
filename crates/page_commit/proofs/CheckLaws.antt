-- Checks of what was read, one after another: first the records, then the pointers.
use Rattle.std.proofs.Common.{◌≡◌, ◌≢◌, ◌⊎◌, inl, inr, ℕ, zero, suc, ◌+◌, ◌<◌, ◌≤◌, ◌^◌, Bool, true, false, cond}
use Rattle.std.proofs.Common.{List, [], ◌∷◌, ◌++◌, length, take, get_or, Some, None, Option, refl, sym, ap, ◌∙◌}
use Rattle.std.proofs.Common.{subst, arith, true≢false}
use Rattle.std.specs.Prelude.{MatchBool, Contains, filter, not, ◌==◌, ◌&&◌, ◌||◌, unwrap_or}
use Rattle.std.specs.List.{list_any, find, AllByRecursion}
use Rattle.std.specs.Option.{option_map}
use Rattle.std.proofs.lemmas.Bool.{cases_Bool, eq-eqb, ne_eqb, eqb-true, or_parts, or_from, or_left, or_right}
use Rattle.std.proofs.lemmas.Bool.{and_from, false_from_ne_true}
use Rattle.std.proofs.lemmas.List.{take_more}
use Rattle.lists.specs.Elements.{in_cases, in_head, in_none, in_push_new, in_tail}
use Rattle.lists.specs.Each.{AreDistinct}
use Rattle.serial_model.specs.declared.decl.Decl.{Decl}
use Rattle.serial_model.specs.declared.key.Key.{Key}
use Rattle.wire_form.specs.Leaves.{tree_leaf, word_in}
use Rattle.wire_form.specs.Words.{absent_field, number_word}
use Rattle.homes.specs.declared.places.Content.{Content}
use Rattle.homes.specs.declared.places.Spot.{Spot}
use Rattle.homes.specs.Homes.{same_key, same_spot}
use Rattle.homes.specs.Laws.{same_key-self, same_spot-self, same_spot-true}
use Rattle.commit_core.specs.declared.part.Part.{Part}
use Rattle.commit_core.specs.declared.part.Word.{Word}
use Rattle.commit_core.specs.declared.part.Word.TheVariants.{Record}
use Rattle.commit_core.specs.Parts.{same_word, record_part}
use Rattle.tx_sets.specs.declared.reads.ReadEntry.{ReadEntry}
use Rattle.tx_sets.specs.declared.seen.Seen.{Seen}
use Rattle.tx_sets.specs.declared.sets.Sets.{Sets}
use Rattle.tx_sets.specs.declared.writes.Write.{Write}
use Rattle.tx_sets.specs.Entries.{writes_at}
use Rattle.engine_pages.specs.declared.layout.Layout.{Layout}
use Rattle.engine_pages.specs.declared.view.Read.{Read}
use Rattle.engine_pages.specs.declared.view.Took.{Took}
use Rattle.engine_pages.specs.declared.view.View.{View}
use Rattle.engine_pages.specs.Agreement.{KnownAgree}
use Rattle.engine_pages.specs.Pages.{is_array}
use Rattle.engine_pages.specs.Pointers.{WaysAgree}
use Rattle.engine_pages.specs.Rule.{absence, has_word}
use Rattle.engine_pages.specs.Steps.{glance, kept_at, read_at, seen_at}
use Rattle.engine_pages.specs.Records.{IsAnyRecordAt}
use Rattle.engine_pages.specs.Touches.{has_took}
use Rattle.engine_pages.specs.Views.{IsActive}
use Rattle.page_records.specs.Attempts.{is_as_seen, checked_at, failed_at, CanCheckWord, Checked, HeldStays}
use Rattle.page_records.specs.Locks.{lock_bit, took_at, array_absence, IsOpenWord}
use Rattle.page_commit.proofs.AnyPlaces.{any_one_key, any_one_place, any_spot, leaf_of, tree_kind}
use Rattle.page_commit.proofs.HeaderLaws.{tree_unkept}
use Rattle.page_commit.proofs.PlaceLaws.{key_array}
use Rattle.page_commit.specs.Places.{ground, slot_of, spot_for, tree_spot, Ground, IsAnyKeyAt, IsAnyKeyIn, IsKeyAt}
use Rattle.page_commit.specs.Places.{IsKeyIn, IsTreeKeyIn}
use Rattle.page_commit.specs.Live.{entry_places, read_word, reads_at, IsReadPart, IsWordFor, IsWordOf, IsWriteOf}
use Rattle.page_commit.specs.Steps.{entry_words, pointer_words, tooks_of, AreAsRead, CheckConflict, HasCheckedSome}
use Rattle.page_commit.specs.Steps.{HasFailed, HasTried}
use Rattle.page_commit.proofs.Lists.{in_at, map_push}
use Rattle.array_pages.proofs.ReadLaws.{kept_with}
use Rattle.page_commit.proofs.ReadLaws.{seen_at-other}
use Rattle.page_commit.proofs.StepLaws.{more_checked, stops_checked}
use Rattle.tx_sets.specs.Entries as sets_of

-- ---- entries, by the places of their words

all_other : (at : ℕ) (l : List ReadEntry) (e : ReadEntry) → AllByRecursion (λ q. at ≢ q) (entry_places l) → Contains l e
    → at ≢ e.at
all_other at [] e all in' = absurd (in_none e in')
all_other at (y ∷ l) e all in' =
    elim (in_cases e y l in') [
      | inl same ↦ subst (λ (z : ReadEntry). at ≢ z.at) same all.0
      | inr later ↦ all_other at l e all.1 later
    ]

-- a record is found by the place of its word
pub entry_is : (reads : List ReadEntry) (e : ReadEntry) → AreDistinct (entry_places reads) → Contains reads e
    → read_word e.at reads ≡ Some e.word
entry_is [] e apart in' = absurd (in_none e in')
entry_is (f ∷ reads) e apart in' =
    elim (in_cases e f reads in') [
      | inl same ↦ subst (λ (x : ReadEntry). read_word x.at (f ∷ reads) ≡ Some x.word) same
          (ap (λ b. option_map (λ (x : ReadEntry). x.word) (cond b (Some f) (find (λ (x : ReadEntry). x.at == f.at) reads)))
          (eq-eqb f.at f.at refl))
      | inr later ↦ ap (λ b. option_map (λ (x : ReadEntry). x.word)
          (cond b (Some f) (find (λ (x : ReadEntry). x.at == e.at) reads)))
          (ne_eqb f.at e.at (all_other f.at reads e apart.0 later))
          ∙ entry_is reads e apart.1 later
    ]

-- its word isn't among those of the entries before it
pub not_before_entry : (reads : List ReadEntry) (i : ℕ) (d : ReadEntry) → AreDistinct (entry_places reads)
    → i < length reads → reads_at (get_or reads i d).at (take i reads) ≡ false
not_before_entry [] i d are lt = absurd (omega arith)
not_before_entry (x ∷ xs) zero d are lt = refl
not_before_entry (x ∷ xs) (suc i) d are lt =
    let one : ReadEntry = get_or xs i d in
    or_from (x.at == one.at) (reads_at one.at (take i xs))
    (ne_eqb x.at one.at (all_other x.at xs one are.0 (in_at xs i d (omega arith))))
    (not_before_entry xs i d are.1 (omega arith))

in_take : {A : Type 0} (xs : List A) (n : ℕ) (x : A) → Contains (take n xs) x → Contains xs x
in_take [] zero x in' = in'
in_take [] (suc n) x in' = in'
in_take (y ∷ xs) zero x in' = absurd (in_none x in')
in_take (y ∷ xs) (suc n) x in' =
    elim (in_cases x y (take n xs) in') [
      | inl same ↦ subst (λ z. Contains (y ∷ xs) z) same (in_head y xs)
      | inr later ↦ in_tail x y xs (in_take xs n x later)
    ]

-- ---- words of records

-- records at other places have other words
words_other : (g : Ground) (es : List ReadEntry) (e : ReadEntry)
    → WaysAgree g.ways → ((f : ReadEntry) → Contains es f → IsAnyKeyIn g f.key f.at) → IsAnyKeyIn g e.key e.at
    → reads_at e.at es ≡ false
    → has_word (entry_words g.layout es) (Record (spot_for g.layout e.key e.at)) ≡ false
words_other g [] e agree all place none = refl
words_other g (f ∷ es) e agree all place none =
    let parts = or_parts (f.at == e.at) (reads_at e.at es) none in
    let lay = g.layout in
    let miss : same_spot (spot_for lay f.key f.at) (spot_for lay e.key e.at) ≡ false =
    false_from_ne_true (same_spot (spot_for lay f.key f.at) (spot_for lay e.key e.at)) (λ test.
    true≢false (sym (eq-eqb f.at e.at (any_one_place g f.key e.key f.at e.at agree (all f (in_head f es)) place
    (same_spot-true (spot_for lay f.key f.at) (spot_for lay e.key e.at) test))) ∙ parts.0)) in
    or_from (same_spot (spot_for lay f.key f.at) (spot_for lay e.key e.at))
    (has_word (entry_words lay es) (Record (spot_for lay e.key e.at))) miss
    (words_other g es e agree (λ x in'. all x (in_tail x f es in')) place parts.1)

pub word_of_entry : (lay : Layout) (es : List ReadEntry) (e : ReadEntry) → Contains es e
    → has_word (entry_words lay es) (Record (spot_for lay e.key e.at)) ≡ true
word_of_entry lay [] e in' = absurd (in_none e in')
word_of_entry lay (f ∷ es) e in' =
    elim (in_cases e f es in') [
      | inl same ↦ or_left (same_spot (spot_for lay f.key f.at) (spot_for lay e.key e.at))
          (has_word (entry_words lay es) (Record (spot_for lay e.key e.at)))
          (subst (λ (x : ReadEntry). same_spot (spot_for lay f.key f.at) (spot_for lay x.key x.at) ≡ true) same
          (same_spot-self (spot_for lay f.key f.at)))
      | inr later ↦ or_right (same_spot (spot_for lay f.key f.at) (spot_for lay e.key e.at))
          (has_word (entry_words lay es) (Record (spot_for lay e.key e.at))) (word_of_entry lay es e later)
    ]

none_append : (p : Word → Bool) (xs ys : List Word) → list_any p xs ≡ false → list_any p ys ≡ false
    → list_any p (xs ++ ys) ≡ false
none_append p [] ys first second = second
none_append p (x ∷ xs) ys first second =
    let parts = or_parts (p x) (list_any p xs) first in
    or_from (p x) (list_any p (xs ++ ys)) parts.0 (none_append p xs ys parts.1 second)

pub some_first : (p : Word → Bool) (xs ys : List Word) → list_any p xs ≡ true → list_any p (xs ++ ys) ≡ true
some_first p [] ys some = absurd (true≢false (sym some))
some_first p (x ∷ xs) ys some =
    elim (cases_Bool (p x)) [
      | inl hit ↦ or_left (p x) (list_any p (xs ++ ys)) hit
      | inr miss ↦ or_right (p x) (list_any p (xs ++ ys))
          (some_first p xs ys (sym (ap (λ b. b || list_any p xs) miss) ∙ some))
    ]

pub some_second : (p : Word → Bool) (xs ys : List Word) → list_any p ys ≡ true → list_any p (xs ++ ys) ≡ true
some_second p [] ys some = some
some_second p (x ∷ xs) ys some = or_right (p x) (list_any p (xs ++ ys)) (some_second p xs ys some)

-- ---- the part of an entry

-- the only part of its word
pub record IsThere (v : View) (parts : List Part) (e : ReadEntry) : Type 0 where
  pub place : IsAnyKeyAt v e.key e.at
  pub content : Content
  pub shown : IsWordOf v.layout.decls e.key content e.word
  pub has : Contains parts (record_part e.key (spot_for v.layout e.key e.at) content)
  pub one : (x : Part) → Contains parts x → same_word x.word (Record (spot_for v.layout e.key e.at)) ≡ true
      → x ≡ record_part e.key (spot_for v.layout e.key e.at) content

pub there : (sets : Sets) (v : View) (e : ReadEntry) → (h : HasTried sets v) → Contains sets.reads e
    → IsThere v h.attempt.parts e
there sets v e h in' = by_part (h.parts.reads e in')
  where
    by_part : (part : Part) × Contains h.attempt.parts part × IsReadPart (ground v) e part → IsThere v h.attempt.parts e
    by_part p =
        let r = p.2 in
        let x : Spot = spot_for v.layout e.key e.at in record {
          place = r.place;
          content = r.content;
          shown = r.shown;
          has = subst (λ (y : Part). Contains h.attempt.parts y) r.is p.1;
          one = λ y has same. h.parts.once y p.0 has p.1
              (subst (λ (z : Part). same_word y.word z.word ≡ true) (sym r.is) same) ∙ r.is;
        }

-- ---- own locks

and_none : (b : Bool) → (b && false) ≡ false
and_none true = refl
and_none false = refl

took_is : (g : Ground) (k : Key) (at : ℕ) (ws : List Write) (found : List ℕ) → WaysAgree g.ways → KnownAgree g.known
    → IsAnyKeyIn g k at → AllByRecursion (IsWriteOf g) ws → length found ≡ length ws
    → has_took (tooks_of g.layout ws found) k (spot_for g.layout k at) ≡ writes_at at ws
took_is g k at [] found agree known place all count = refl
took_is g k at (w ∷ ws) [] agree known place all count = absurd (omega (arith, count))
took_is g k at (w ∷ ws) (n ∷ found) agree known place all count =
    ap (λ b. b || has_took (tooks_of g.layout ws found) k (spot_for g.layout k at)) (by_test (w.at == at) refl)
    ∙ ap (λ b. (w.at == at) || b) (took_is g k at ws found agree known place all.1 (omega (arith, count)))
  where
    by_test : (b : Bool) → (w.at == at) ≡ b
        → (same_key w.key k && same_spot (spot_for g.layout w.key w.at) (spot_for g.layout k at)) ≡ (w.at == at)
    by_test true is =
        let same : w.at ≡ at = eqb-true w.at at is in
        let key : w.key ≡ k =
        any_one_key g w.key k at agree known (subst (IsAnyKeyIn g w.key) same all.0.place) place in
        let spot : spot_for g.layout w.key w.at ≡ spot_for g.layout k at =
        ap (λ (q : Key). spot_for g.layout q w.at) key ∙ ap (λ (i : ℕ). spot_for g.layout k i) same in
        and_from (same_key w.key k) (same_spot (spot_for g.layout w.key w.at) (spot_for g.layout k at))
        (subst (λ (z : Key). same_key w.key z ≡ true) key (same_key-self w.key))
        (subst (λ (z : Spot). same_spot (spot_for g.layout w.key w.at) z ≡ true) spot
        (same_spot-self (spot_for g.layout w.key w.at)))
        ∙ sym is
    by_test false is =
        let miss : same_spot (spot_for g.layout w.key w.at) (spot_for g.layout k at) ≡ false =
        false_from_ne_true (same_spot (spot_for g.layout w.key w.at) (spot_for g.layout k at)) (λ test.
        true≢false (sym (eq-eqb w.at at (any_one_place g w.key k w.at at agree all.0.place place
        (same_spot-true (spot_for g.layout w.key w.at) (spot_for g.layout k at) test))) ∙ is)) in
        ap (λ b. same_key w.key k && b) miss ∙ (and_none (same_key w.key k) ∙ sym is)

took_of : (g : Ground) (e : ReadEntry) (reads : List ReadEntry) (ws : List Write) (found : List ℕ) → WaysAgree g.ways
    → KnownAgree g.known → IsAnyKeyIn g e.key e.at → AllByRecursion (IsWriteOf g) ws → length found ≡ length ws
    → read_word e.at reads ≡ Some e.word → writes_at e.at ws ≡ true → AreAsRead reads ws found
    → Contains (tooks_of g.layout ws found) (took_at e.key (spot_for g.layout e.key e.at) e.word)
took_of g e reads [] found agree known place all count read has are = absurd (true≢false (sym has))
took_of g e reads (w ∷ ws) [] agree known place all count read has are = absurd (omega (arith, count))
took_of g e reads (w ∷ ws) (n ∷ found) agree known place all count read has are =
    elim (cases_Bool (w.at == e.at)) [
      | inl hit ↦
          let same : w.at ≡ e.at = eqb-true w.at e.at hit in
          let key : w.key ≡ e.key =
          any_one_key g w.key e.key e.at agree known (subst (IsAnyKeyIn g w.key) same all.0.place) place in
          let word : n ≡ e.word = are.0 ∙ ap (λ o. unwrap_or o n) (ap (λ i. read_word i reads) same ∙ read) in
          let x : Spot = spot_for g.layout e.key e.at in
          let took : took_at w.key (spot_for g.layout w.key w.at) n ≡ took_at e.key x e.word =
          ap (λ (k : Key). took_at k (spot_for g.layout k w.at) n) key
          ∙ (ap (λ i. took_at e.key (spot_for g.layout e.key i) n) same ∙ ap (λ m. took_at e.key x m) word) in
          subst (λ (t : Took). Contains (tooks_of g.layout (w ∷ ws) (n ∷ found)) t) took
          (in_head (took_at w.key (spot_for g.layout w.key w.at) n) (tooks_of g.layout ws found))
      | inr miss ↦ in_tail (took_at e.key (spot_for g.layout e.key e.at) e.word)
          (took_at w.key (spot_for g.layout w.key w.at) n) (tooks_of g.layout ws found)
          (took_of g e reads ws found agree known place all.1 (omega (arith, count)) read
          (sym (ap (λ b. b || writes_at e.at ws) miss) ∙ has) are.1)
    ]

-- ---- the loop over records

abbrev with_checked : View → List Word → View → View
with_checked v checked w = record v {
  checked = checked;
  steps = w.steps;
  last = w.last;
  loaded = w.loaded;
  reads = w.reads;
}

pub starts_checking : (sets : Sets) (v : View) → HasTried sets v → HasCheckedSome sets 0 0 v v
starts_checking sets v h = record {
  steps = v.steps;
  since = omega arith;
  last = v.last;
  loaded = v.loaded;
  reads = v.reads;
  aside = λ at clear none. refl;
  kept = λ at. refl;
  is = by_lists sets.reads sets.pointers;
}
  where
    by_lists : (es : List ReadEntry) (ps : List Seen)
        → v ≡ with_checked v (entry_words v.layout (take 0 es) ++ pointer_words (ground v) (take 0 ps)) v
    by_lists [] [] = ap (λ l. with_checked v l v) h.checked
    by_lists [] (p ∷ ps) = ap (λ l. with_checked v l v) h.checked
    by_lists (e ∷ es) [] = ap (λ l. with_checked v l v) h.checked
    by_lists (e ∷ es) (p ∷ ps) = ap (λ l. with_checked v l v) h.checked

pub check_active : (sets : Sets) (n m : ℕ) (v w : View) → IsActive v.role → HasCheckedSome sets n m v w → IsActive w.role
check_active sets n m v w active p = subst IsActive (sym (ap (λ (y : View). y.role) p.is)) active

-- the entry with this index
pub entry_in : (reads : List ReadEntry) (sets : Sets) (done : ℕ) (d : ReadEntry) → reads ≡ sets.reads
    → done < length reads → Contains sets.reads (get_or reads done d)
entry_in reads sets done d same lt = subst (λ l. Contains l (get_or reads done d)) same (in_at reads done d lt)

pub place_now : (sets : Sets) (n m : ℕ) (e : ReadEntry) (v w : View) → HasTried sets v → HasCheckedSome sets n m v w
    → Contains sets.reads e → IsAnyKeyAt w e.key e.at
place_now sets n m e v w h p in' =
    subst (λ (y : View). IsAnyKeyAt y e.key e.at) (sym p.is) (there sets v e h in').place

no_pointers : (g : Ground) (ps : List Seen) → pointer_words g (take 0 ps) ≡ []
no_pointers g [] = refl
no_pointers g (p ∷ ps) = refl

pub can_check_one : (reads : List ReadEntry) (sets : Sets) (done : ℕ) (d : ReadEntry) (v w : View) → HasTried sets v
    → AreDistinct (entry_places sets.reads) → reads ≡ sets.reads → HasCheckedSome sets done 0 v w → done < length reads
    → CanCheckWord w (get_or reads done d).key (spot_for w.layout (get_or reads done d).key (get_or reads done d).at) (get_or reads done d).word
can_check_one reads sets done d v w h apart same p lt =
    let e : ReadEntry = get_or reads done d in
    let t = there sets v e h (entry_in reads sets done d same lt) in
    let x : Spot = spot_for v.layout e.key e.at in
    let clear : reads_at e.at (take done sets.reads) ≡ false =
    subst (λ (l : List ReadEntry). reads_at e.at (take done l) ≡ false) same
    (not_before_entry reads done d (subst (λ l. AreDistinct (entry_places l)) (sym same) apart) lt) in
    let words = words_other (ground v) (take done sets.reads) e h.agree
    (λ f in'. (there sets v f h (in_take sets.reads done f in')).place) t.place clear in
    subst (λ (y : View). CanCheckWord y e.key (spot_for y.layout e.key e.at) e.word) (sym p.is) (
      t.content,
      record {
        index = h.index;
        attempt = h.attempt;
        stage = h.stage;
        at = h.at;
        has = t.has;
        one = t.one;
        unchecked = none_append (λ z. same_word z (Record x)) (entry_words v.layout (take done sets.reads))
            (pointer_words (ground v) (take 0 sets.pointers)) words
            (ap (list_any (λ z. same_word z (Record x))) (no_pointers (ground v) sets.pointers));
        small = t.shown.small;
      },
      sym t.shown.number,
    )

pub own_now : (sets : Sets) (n m : ℕ) (e : ReadEntry) (own : Bool) (v w : View) → HasTried sets v
    → HasCheckedSome sets n m v w → Contains sets.reads e → own ≡ writes_at e.at sets.writes
    → own ≡ has_took w.took e.key (spot_for w.layout e.key e.at)
own_now sets n m e own v w h p in' is =
    is
    ∙ (sym (took_is (ground v) e.key e.at sets.writes h.found h.agree h.trees.known (there sets v e h in').place h.places h.count)
    ∙ (sym (ap (λ l. has_took l e.key (spot_for v.layout e.key e.at)) h.took)
    ∙ sym (ap (λ (y : View). has_took y.took e.key (spot_for y.layout e.key e.at)) p.is)))

absence_bits : (decls : List Decl) (k : Key) (value : Option ℕ)
    → (absence decls k value ≡ 0) ⊎ (absence decls k value ≡ 2 ^ 61)
absence_bits decls k value = by_kind (is_array decls k.storage) value
  where
    by_kind : (b : Bool) (o : Option ℕ) → (cond b 0 (absent_field tree_leaf o) ≡ 0) ⊎ (cond b 0 (absent_field tree_leaf o) ≡ 2 ^ 61)
    by_kind true o = inl refl
    by_kind false (Some n) = inl refl
    by_kind false None = inr refl

-- the word of an array's record has neither
pub number_small : (c : Content) (word : ℕ) → IsWordFor c word → word < 2 ^ 60
number_small c word is =
    let draw = is.small.draw in
    let epoch = is.small.epoch in
    let number = is.number in omega arith

-- the word of a content has no lock, and an array's no bit of absence
pub number_open : (decls : List Decl) (k : Key) (c : Content) (word : ℕ) → IsWordOf decls k c word
    → IsOpenWord word × (is_array decls k.storage ≡ true → word < 2 ^ 60)
number_open decls k c word is = (by_bit (absence_bits decls k c.value), plain)
  where
    low : number_word c.number < 2 ^ 60
    low = let draw = is.small.draw in let epoch = is.small.epoch in omega arith

    by_bit : (absence decls k c.value ≡ 0) ⊎ (absence decls k c.value ≡ 2 ^ 61) → IsOpenWord word
    by_bit (inl none) = inl (let less = low in let number = is.number in omega (arith, less, number, none))
    by_bit (inr bit) =
        let less = low in let number = is.number in
        inr (omega (arith, less, number, bit), omega (arith, less, number, bit))

    plain : is_array decls k.storage ≡ true → word < 2 ^ 60
    plain array =
        let less = low in let number = is.number in
        let none = array_absence decls k c.value array in omega (arith, less, number, none)

pub word_small : (sets : Sets) (e : ReadEntry) (v : View) → HasTried sets v → Contains sets.reads e → e.word < 2 ^ 62
word_small sets e v h in' =
    let t = there sets v e h in' in by_open (number_open v.layout.decls e.key t.content e.word t.shown).0
  where
    by_open : IsOpenWord e.word → e.word < 2 ^ 62
    by_open (inl low) = omega (arith, low)
    by_open (inr high) = let less = high.1 in omega (arith, less)

-- what else is known of words, behind one more load
aside_more : (sets : Sets) (n m : ℕ) (at k : ℕ) (v w : View) → HasCheckedSome sets n m v w → (other : ℕ) → at ≢ other
    → reads_at other (take n sets.reads) ≡ false → sets_of.has_word other (take m sets.pointers) ≡ false
    → (p : HasCheckedSome sets n m v w) → seen_at (read_at at k w).reads other ≡ seen_at v.reads other
aside_more sets n m at k v w q other apart clear none p =
    seen_at-other w.reads at k other apart
    ∙ (ap (λ (y : View). seen_at y.reads other) p.is ∙ p.aside other clear none)

any_split : (p : ReadEntry → Bool) (l : List ReadEntry) (y : ReadEntry) → list_any p (l ++ y ∷ []) ≡ false
    → (list_any p l ≡ false) × (p y ≡ false)
any_split p [] y none = (refl, (or_parts (p y) false none).0)
any_split p (z ∷ l) y none =
    let parts = or_parts (p z) (list_any p (l ++ y ∷ [])) none in
    let rest = any_split p l y parts.1 in (or_from (p z) (list_any p l) parts.0 rest.0, rest.1)

is_as : (x y z : View) (b : Bool) → MatchBool b (x ≡ y) (x ≡ z) → b ≡ true → x ≡ y
is_as x y z b c hit = subst (λ t. MatchBool t (x ≡ y) (x ≡ z)) hit c

is_else : (x y z : View) (b : Bool) → MatchBool b (x ≡ y) (x ≡ z) → b ≡ false → x ≡ z
is_else x y z b c miss = subst (λ t. MatchBool t (x ≡ y) (x ≡ z)) miss c

pub checked_one : (reads : List ReadEntry) (sets : Sets) (done : ℕ) (d : ReadEntry) (own b : Bool) (k : ℕ) (v w x : View)
    → reads ≡ sets.reads → HasCheckedSome sets done 0 v w → done < length reads
    → b ≡ is_as_seen (get_or reads done d).word own k → b ≡ true
    → Checked (spot_for w.layout (get_or reads done d).key (get_or reads done d).at) (get_or reads done d).at (get_or reads done d).word own w k x
    → HasCheckedSome sets (done + 1) 0 v x
checked_one reads sets done d own b k v w x same p lt test hit c =
    let e : ReadEntry = get_or reads done d in
    let spot : Spot = spot_for w.layout e.key e.at in
    let is : x ≡ checked_at spot e.at k w =
    is_as x (checked_at spot e.at k w) (failed_at e.at k w) (is_as_seen e.word own k) c (sym test ∙ hit) in
    let slots : ℕ = v.layout.slots in
    let lay : Layout = v.layout in
    let old : List Word = entry_words lay (take done sets.reads) ++ pointer_words (ground v) (take 0 sets.pointers) in
    let u : View = with_checked v old
    (record v { steps = p.steps; last = p.last; loaded = p.loaded; reads = p.reads }) in
    let y : View = checked_at (spot_for lay e.key e.at) e.at k u in
    let more : take (done + 1) sets.reads ≡ take done sets.reads ++ e ∷ [] =
    subst (λ (l : List ReadEntry). take (done + 1) l ≡ take done l ++ e ∷ []) same (take_more reads done d lt) in
    let none : (l : List Word) → (l ++ pointer_words (ground v) (take 0 sets.pointers)) ≡ l ++ [] = λ l.
    ap (λ z. l ++ z) (no_pointers (ground v) sets.pointers) in
    let words : old ++ Record (spot_for lay e.key e.at) ∷ []
    ≡ entry_words lay (take (done + 1) sets.reads) ++ pointer_words (ground v) (take 0 sets.pointers) =
    ap (λ l. l ++ Record (spot_for lay e.key e.at) ∷ [])
    (none (entry_words lay (take done sets.reads)) ∙ nil_right (entry_words lay (take done sets.reads)))
    ∙ (sym (map_push (λ (z : ReadEntry). Record (spot_for lay z.key z.at)) (take done sets.reads) e)
    ∙ (ap (entry_words lay) (sym more)
    ∙ sym (none (entry_words lay (take (done + 1) sets.reads)) ∙ nil_right (entry_words lay (take (done + 1) sets.reads)))))
    in record {
      steps = y.steps;
      since = omega (arith, p.since);
      last = y.last;
      loaded = y.loaded;
      reads = y.reads;
      aside = λ at clear none'.
          let parts = any_split (λ (r : ReadEntry). r.at == at) (take done sets.reads) e
          (subst (λ (l : List ReadEntry). reads_at at l ≡ false) more clear) in
          seen_at-other p.reads e.at k at (λ hit'. true≢false (sym (eq-eqb e.at at hit') ∙ parts.1))
          ∙ p.aside at parts.0 none';
      kept = λ at. kept_with p.reads e.at k at ∙ p.kept at;
      is = is ∙ (ap (λ (z : View). checked_at (spot_for z.layout e.key e.at) e.at k z) p.is
          ∙ ap (λ l. with_checked v l y) words);
    }
  where
    nil_right : (l : List Word) → l ++ [] ≡ l
    nil_right l = Rattle.std.proofs.lemmas.List.append-nil l

pub failed_one : (sets : Sets) (n m at word : ℕ) (spot : Spot) (own b : Bool) (k : ℕ) (v w x : View)
    → HasCheckedSome sets n m v w → b ≡ is_as_seen word own k → b ≡ false
    → Checked spot at word own w k x → HasFailed v x
failed_one sets n m at word spot own b k v w x p test miss c =
    let is : x ≡ failed_at at k w =
    is_else x (checked_at spot at k w) (failed_at at k w) (is_as_seen word own k) c (sym test ∙ miss) in
    let slots : ℕ = v.layout.slots in
    let lay : Layout = v.layout in
    let u : View = with_checked v (entry_words lay (take n sets.reads) ++ pointer_words (ground v) (take m sets.pointers))
    (record v { steps = p.steps; last = p.last; loaded = p.loaded; reads = p.reads }) in
    let y : View = failed_at at k u in record {
      checked = y.checked;
      steps = y.steps;
      since = omega (arith, p.since);
      last = y.last;
      loaded = y.loaded;
      reads = y.reads;
      is = is ∙ ap (failed_at at k) p.is;
    }

not_seen : (word n : ℕ) (own : Bool) → is_as_seen word own n ≡ false → n ≢ word
not_seen word n own miss same =
    true≢false (sym (or_left (n == word) (own && (n == word + lock_bit)) (eq-eqb n word same)) ∙ miss)

-- a record that the pass has locked is as it was read
own_passes : (word n : ℕ) → n ≡ word + lock_bit → is_as_seen word true n ≡ true
own_passes word n same = or_right (n == word) (true && (n == word + lock_bit)) (eq-eqb n (word + lock_bit) same)

-- a record that failed its check is none that the pass has locked
pub check_apart : (sets : Sets) (n m : ℕ) (e : ReadEntry) (own b : Bool) (k : ℕ) (v w : View) → HasTried sets v
    → AreDistinct (entry_places sets.reads) → HasCheckedSome sets n m v w → Contains sets.reads e
    → own ≡ writes_at e.at sets.writes → b ≡ is_as_seen e.word own k → b ≡ false
    → HeldStays e.key (spot_for w.layout e.key e.at) w k → writes_at e.at sets.writes ≡ false
check_apart sets n m e own b k v w h apart p in' own-is test miss held = sym own-is ∙ by_own own refl
  where
    by_own : (o : Bool) → own ≡ o → own ≡ false
    by_own false is = is
    by_own true is =
        let took = took_of (ground v) e sets.reads sets.writes h.found h.agree h.trees.known (there sets v e h in').place h.places
        h.count (entry_is sets.reads e apart in') (sym own-is ∙ is) h.read in
        let there' : Contains w.took (took_at e.key (spot_for w.layout e.key e.at) e.word) =
        subst (λ (y : View). Contains y.took (took_at e.key (spot_for y.layout e.key e.at) e.word)) (sym p.is)
        (subst (λ (l : List Took). Contains l (took_at e.key (spot_for v.layout e.key e.at) e.word)) (sym h.took) took) in
        absurd (true≢false (sym (ap (λ o. is_as_seen e.word o k) is ∙ own_passes e.word k (held e.word there'))
        ∙ (sym test ∙ miss)))

-- What a failed check of a record that was read has found: another word than was read, where the pass has no lock.
record HasFoundOther (sets : Sets) (e : ReadEntry) (k : ℕ) (v w x : View) : Type 0 where
  entry : Contains sets.reads e
  once : AreDistinct (entry_places sets.reads)
  is : x ≡ failed_at e.at k w
  grounds : ground x ≡ ground v
  heads : x.heads ≡ v.heads
  since : v.steps ≤ w.steps
  now : seen_at w.reads e.at ≡ seen_at v.reads e.at
  kept : kept_at w.reads e.at ≡ kept_at v.reads e.at
  other : k ≢ e.word
  free : writes_at e.at sets.writes ≡ false

some_is : (a f : ℕ) → Some a ≡ Some f → a ≡ f
some_is a f same = cc

module _ (sets : Sets) (e : ReadEntry) (k : ℕ) (v w x : View) (h : HasTried sets v) (f : HasFoundOther sets e k v w x) where
  read_so : (n : ℕ) → read_word e.at sets.reads ≡ Some n → e.word ≡ n
  read_so n of = some_is e.word n (sym (entry_is sets.reads e f.once f.entry) ∙ of)

  now_last : x.last ≡ Some (glance w.steps e.at k)
  now_last = ap (λ (y : View). y.last) f.is

  now_stands : Contains x.reads (record { word = e.at; seen = k; was = seen_at w.reads e.at; kept = kept_at w.reads e.at })
  now_stands =
      let r : Read = record { word = e.at; seen = k; was = seen_at w.reads e.at; kept = kept_at w.reads e.at } in
      subst (λ (y : View). Contains y.reads r) (sym f.is)
      (in_push_new r (filter (λ (q : Read). not (q.word == e.at)) w.reads))

  array_failed : IsKeyAt v e.key e.at → e.word < 2 ^ 60 → CheckConflict sets e.at e.word k v x
  array_failed place small =
      let was : seen_at w.reads e.at ≡ Some e.word =
      f.now ∙ (h.met.arrays e.key e.at place f.free ∙ entry_is sets.reads e f.once f.entry) in
      inl (
        e,
        f.entry,
        refl,
        record {
          step = w.steps;
          last = now_last;
          since = f.since;
          was = seen_at w.reads e.at;
          kept = kept_at w.reads e.at;
          stands = now_stands;
          read = read_so;
          known = sym (ap (λ o. unwrap_or o k) was);
          cause = inr (small, f.other);
        },
        record {
          place = subst (λ (g : Ground). IsKeyIn g e.key e.at) (sym f.grounds) place;
          step = w.steps;
          last = now_last;
          was = seen_at w.reads e.at;
          kept = kept_at w.reads e.at;
          stands = now_stands;
          known = sym (ap (λ o. unwrap_or o k) was);
          cause = inr (small, f.other);
        },
      )

  tree_failed : IsTreeKeyIn (ground v) e.key e.at → CheckConflict sets e.at e.word k v x
  tree_failed place =
      let was : seen_at w.reads e.at ≡ Some e.word =
      f.now ∙ h.met.trees e.key e.at e.word place f.free (entry_is sets.reads e f.once f.entry) in
      let kept : kept_at w.reads e.at ≡ None =
      f.kept ∙ tree_unkept sets v h.attempt.parts e.key e.at h.parts h.agree h.trees h.only place in
      let stands : Contains x.reads (record { word = e.at; seen = k; was = Some e.word; kept = None }) =
      subst (λ (o : Option ℕ). Contains x.reads (record { word = e.at; seen = k; was = Some e.word; kept = o })) kept
      (subst (λ (o : Option ℕ). Contains x.reads (record { word = e.at; seen = k; was = o; kept = kept_at w.reads e.at })) was
      now_stands) in
      let now : IsTreeKeyIn (ground x) e.key e.at = subst (λ (g : Ground). IsTreeKeyIn g e.key e.at) (sym f.grounds) place in
      inr (inr (inr (
        e,
        f.entry,
        refl,
        record {
          step = w.steps;
          last = now_last;
          since = f.since;
          stands = stands;
          read = read_so;
          cause = inr f.other;
        },
        slot_of x.layout.slots e.at,
        word_in tree_leaf (tree_spot x.layout.slots e.at).index,
        record {
          place = leaf_of x e.key e.at now;
          unheld = f.heads ∙ h.unheld;
          step = w.steps;
          last = now_last;
          was = Some e.word;
          kept = None;
          stands = stands;
          known = inr (refl, refl);
          cause = inr f.other;
        },
        tree_kind (ground v) e.key e.at place,
      )))

pub check_conflict : (reads : List ReadEntry) (sets : Sets) (done : ℕ) (d : ReadEntry) (own b : Bool) (k : ℕ)
    (v w x : View) → HasTried sets v → AreDistinct (entry_places sets.reads) → reads ≡ sets.reads
    → HasCheckedSome sets done 0 v w → done < length reads
    → own ≡ writes_at (get_or reads done d).at sets.writes → b ≡ is_as_seen (get_or reads done d).word own k → b ≡ false
    → Checked (spot_for w.layout (get_or reads done d).key (get_or reads done d).at) (get_or reads done d).at
    (get_or reads done d).word own w k x
    → HeldStays (get_or reads done d).key (spot_for w.layout (get_or reads done d).key (get_or reads done d).at) w k
    → CheckConflict sets (get_or reads done d).at (get_or reads done d).word k v x
check_conflict reads sets done d own b k v w x h apart same p lt own-is test miss c held =
    let e : ReadEntry = get_or reads done d in
    let entry : Contains sets.reads e = entry_in reads sets done d same lt in
    let spot : Spot = spot_for w.layout e.key e.at in
    let unseen : is_as_seen e.word own k ≡ false = sym test ∙ miss in
    let is : x ≡ failed_at e.at k w =
    is_else x (checked_at spot e.at k w) (failed_at e.at k w) (is_as_seen e.word own k) c unseen in
    let clear : reads_at e.at (take done sets.reads) ≡ false =
    subst (λ (l : List ReadEntry). reads_at e.at (take done l) ≡ false) same
    (not_before_entry reads done d (subst (λ l. AreDistinct (entry_places l)) (sym same) apart) lt) in
    let steps : w.steps ≡ p.steps = ap (λ (y : View). y.steps) p.is in
    by_place e (there sets v e h entry) record {
      entry = entry;
      once = apart;
      is = is;
      grounds = ap ground is ∙ ap ground p.is;
      heads = ap (λ (y : View). y.heads) is ∙ ap (λ (y : View). y.heads) p.is;
      since = omega (arith, steps, p.since);
      now = ap (λ (y : View). seen_at y.reads e.at) p.is ∙ p.aside e.at clear (none_met sets.pointers e.at);
      kept = ap (λ (y : View). kept_at y.reads e.at) p.is ∙ p.kept e.at;
      other = not_seen e.word k own unseen;
      free = check_apart sets done 0 e own b k v w h apart p entry own-is test miss held;
    }
  where
    none_met : (ps : List Seen) (at : ℕ) → sets_of.has_word at (take 0 ps) ≡ false
    none_met [] at = refl
    none_met (q ∷ ps) at = refl

    by_side : (e : ReadEntry) → HasFoundOther sets e k v w x → IsAnyKeyAt v e.key e.at
        → (is_array v.layout.decls e.key.storage ≡ true → e.word < 2 ^ 60) → CheckConflict sets e.at e.word k v x
    by_side e f (inl array) small = array_failed sets e k v w x h f array (small (key_array (ground v) e.key e.at array))
    by_side e f (inr tree) small = tree_failed sets e k v w x h f tree

    by_place : (e : ReadEntry) → IsThere v h.attempt.parts e → HasFoundOther sets e k v w x
        → CheckConflict sets e.at e.word k v x
    by_place e t f = by_side e f t.place (number_open v.layout.decls e.key t.content e.word t.shown).1

-- all records are checked
pub records_checked : (reads : List ReadEntry) (sets : Sets) (done : ℕ) (v w : View) → reads ≡ sets.reads
    → HasCheckedSome sets done 0 v w → done ≤ length reads → length reads ≤ done
    → HasCheckedSome sets (length sets.reads) 0 v w
records_checked reads sets done v w same p le ge =
    let all : done ≡ length sets.reads =
    let n = ap (λ (l : List ReadEntry). length l) same in omega (arith, n, le, ge) in
    subst (λ n. HasCheckedSome sets n 0 v w) all p

-- ---- at the place that a call picks

pub entry_here : (reads : List ReadEntry) (sets : Sets) (done : ℕ) (d : ReadEntry) (v w : View) → HasTried sets v
    → reads ≡ sets.reads → HasCheckedSome sets done 0 v w → done < length reads
    → IsAnyRecordAt w (get_or reads done d).key
    (spot_for w.layout (get_or reads done d).key (get_or reads done d).at) (get_or reads done d).at
entry_here reads sets done d v w h same p lt =
    let e : ReadEntry = get_or reads done d in
    any_spot w e.key e.at (place_now sets done 0 e v w h p (entry_in reads sets done d same lt))

pub own_here : (reads : List ReadEntry) (sets : Sets) (done : ℕ) (d : ReadEntry) (own : Bool) (v w : View) → HasTried sets v
    → reads ≡ sets.reads → HasCheckedSome sets done 0 v w → done < length reads
    → own ≡ writes_at (get_or reads done d).at sets.writes
    → own ≡ has_took w.took (get_or reads done d).key
    (spot_for w.layout (get_or reads done d).key (get_or reads done d).at)
own_here reads sets done d own v w h same p lt is =
    own_now sets done 0 (get_or reads done d) own v w h p (entry_in reads sets done d same lt) is

pub failed_here : (reads : List ReadEntry) (sets : Sets) (done : ℕ) (d : ReadEntry) (own b : Bool) (k : ℕ) (v w x : View)
    → HasCheckedSome sets done 0 v w → b ≡ is_as_seen (get_or reads done d).word own k → b ≡ false
    → Checked (spot_for w.layout (get_or reads done d).key (get_or reads done d).at) (get_or reads done d).at
    (get_or reads done d).word own w k x
    → HasFailed v x
failed_here reads sets done d own b k v w x p test miss c =
    let e : ReadEntry = get_or reads done d in
    failed_one sets done 0 e.at e.word (spot_for w.layout e.key e.at) own b k v w x p test miss c

pub apart_here : (reads : List ReadEntry) (sets : Sets) (done : ℕ) (d : ReadEntry) (own b : Bool) (k : ℕ) (v w : View)
    → HasTried sets v → AreDistinct (entry_places sets.reads) → reads ≡ sets.reads → HasCheckedSome sets done 0 v w
    → done < length reads → own ≡ writes_at (get_or reads done d).at sets.writes
    → b ≡ is_as_seen (get_or reads done d).word own k → b ≡ false
    → HeldStays (get_or reads done d).key (spot_for w.layout (get_or reads done d).key (get_or reads done d).at) w k
    → writes_at (get_or reads done d).at sets.writes ≡ false
apart_here reads sets done d own b k v w h once same p lt own-is test miss held =
    check_apart sets done 0 (get_or reads done d) own b k v w h once p (entry_in reads sets done d same lt) own-is test miss
    held

pub more_here : (reads : List ReadEntry) (done : ℕ) (d : ReadEntry) (own : Bool) (n : ℕ) (v w z : View)
    → w.steps ≡ v.steps + done
    → Checked (spot_for w.layout (get_or reads done d).key (get_or reads done d).at) (get_or reads done d).at
    (get_or reads done d).word own w n z → z.steps ≡ v.steps + (done + 1)
more_here reads done d own n v w z was c =
    let e : ReadEntry = get_or reads done d in
    more_checked v w z (spot_for w.layout e.key e.at) e.at e.word done n own was c

pub stops_here : (reads : List ReadEntry) (done : ℕ) (d : ReadEntry) (own : Bool) (n : ℕ) (v w z : View)
    → w.steps ≡ v.steps + done → done < length reads
    → Checked (spot_for w.layout (get_or reads done d).key (get_or reads done d).at) (get_or reads done d).at
    (get_or reads done d).word own w n z → z.steps ≤ v.steps + length reads
stops_here reads done d own n v w z was less c =
    let e : ReadEntry = get_or reads done d in
    stops_checked v w z (spot_for w.layout e.key e.at) e.at e.word done (length reads) n own was less c
