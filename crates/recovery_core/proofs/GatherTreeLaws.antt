-- Trees: what the page of a place is, the places below it, and the records of a leaf.
use Rattle.std.proofs.Common.{◌≡◌, ◌≢◌, ℕ, ◌+◌, ◌-◌, ◌*◌, ◌/◌, ◌^◌, ◌<◌, ◌≤◌, zero, suc, true, false, List, []}
use Rattle.std.proofs.Common.{◌∷◌, ◌++◌, length, map, get_or, take, drop, replicate, Option, Some, None, refl}
use Rattle.std.proofs.Common.{sym, ap, subst, ◌∙◌, arith, append_assoc, eq-eqb, inl, inr, Bool}
use Rattle.std.specs.Prelude.{◌⊎◌, cond, ◌==◌, IfSome}
use Rattle.std.specs.List.{AllByRecursion, flat_map}
use Rattle.std.specs.FinMap.{get}
use Rattle.std.proofs.lemmas.List.{drop_more, drop_all, drop-drop, get_or-drop, take_at, drop_at}
use Rattle.std.proofs.lemmas.Bool.{cases_eq, eqb-true, false≢true}
use Rattle.serial_model.specs.declared.decl.Decl.TheVariants.{Tree}
use Rattle.serial_model.specs.State.{State}
use Rattle.serial_model.specs.declared.key.Key.{Key}
use Rattle.wire_form.specs.declared.page.PageKind.TheVariants.{TreeLeaf, TreeInner}
use Rattle.wire_form.specs.declared.records.TreeRecord.{TreeRecord}
use Rattle.wire_form.specs.Bytes.{padded}
use Rattle.wire_form.specs.ByteLaws.{length-padded}
use Rattle.wire_form.specs.Items.{RisesAfter, Rises}
use Rattle.wire_form.specs.Words.{number_word}
use Rattle.wire_form.specs.Pages.{IsChild, IsSeparator, IsTreeRecord, Children, HasKind, device_header}
use Rattle.wire_form.specs.Pages.{record_key, tree_record_words, tree_leaf_words, tree_inner_words}
use Rattle.snapshot_store.specs.declared.place.PagePlace.{PagePlace}
use Rattle.snapshot_store.specs.Places.{Found, Cover}
use Rattle.snapshot_store.specs.TreePages.{Record, records_at, count_of, node_of, children, node_below}
use Rattle.snapshot_store.specs.TreePages.{record_for, records_of}
use Rattle.snapshot_store.specs.TreePages.Node.{Leaf, Inner}
use Rattle.recovery_core.specs.SnapshotPages.{epoch_in, IsPageUpTo}
use Rattle.recovery_core.specs.Gather.{found_of, put_over, Puts, only_at, tree_records}
use Rattle.recovery_core.proofs.GatherLaws.{key_with, eq_yes, eq_no, no_found, puts_none}

-- ---- what a page's test tells

pub inner_by : {x : ℕ} {b : Bool} → b ≡ (x == 2) → b ≡ true → x ≡ 2
inner_by {x = x} is holds = eqb-true x 2 (sym is ∙ holds)

pub leaf_by : {x : ℕ} {b : Bool} → b ≡ (x == 2) → b ≡ false → x ≡ 2 → ⊥
leaf_by {x = x} is fails same = false≢true (sym fails ∙ is ∙ eq-eqb x 2 same)

-- ---- the words of a leaf

abbrev pub as_record : TreeRecord → Record
as_record r = record { key = r.key; found = record { number = number_word r.number; value = r.value } }

abbrev pub records_in : List ℕ → List Record
records_in words = records_at (count_of words) (drop 16 words)

spelled_records : (rs : List TreeRecord) (zs : List ℕ)
    → records_at (length rs) (flat_map tree_record_words rs ++ zs) ≡ map as_record rs
spelled_records [] zs = refl
spelled_records (r ∷ rs) zs = ap (λ t. as_record r ∷ t) (spelled_records rs zs)

leaf_head : (low high : ℕ) (rs : List TreeRecord) (words : List ℕ) → words ≡ tree_leaf_words low high rs
    → get_or words 0 0 ≡ 256 + length rs
leaf_head low high rs words e =
    let first : get_or words 0 0 ≡ device_header 1 (length rs) = ap (λ t. get_or t 0 0) e in
    omega (arith, first)

leaf_count : (low high : ℕ) (rs : List TreeRecord) (words : List ℕ) → length rs ≤ 16
    → words ≡ tree_leaf_words low high rs → count_of words ≡ length rs
leaf_count low high rs words most e = omega (arith, leaf_head low high rs words e)

pub leaf_records : (low high : ℕ) (rs : List TreeRecord) (words : List ℕ) → length rs ≤ 16
    → words ≡ tree_leaf_words low high rs → records_in words ≡ map as_record rs
leaf_records low high rs words most e =
    ap (λ n. records_at n (drop 16 words)) (leaf_count low high rs words most e)
    ∙ ap (λ ws. records_at (length rs) (drop 16 ws)) e
    ∙ spelled_records rs (replicate (48 - length (flat_map tree_record_words rs)) 0)

-- ---- the words of an interior page

abbrev pub numbers_in : List ℕ → List ℕ
numbers_in words = take (count_of words) (drop 4 words)

abbrev pub separators_in : List ℕ → List ℕ
separators_in words = take (count_of words - 1) (drop 34 words)

inner_head : (low high : ℕ) (c : Children) (words : List ℕ) → words ≡ tree_inner_words low high c
    → get_or words 0 0 ≡ 512 + length c.pointers
inner_head low high c words e =
    let first : get_or words 0 0 ≡ device_header 2 (length c.pointers) = ap (λ t. get_or t 0 0) e in
    omega (arith, first)

inner_count : (low high : ℕ) (c : Children) (words : List ℕ) → length c.pointers ≤ 30
    → words ≡ tree_inner_words low high c → count_of words ≡ length c.pointers
inner_count low high c words most e = omega (arith, inner_head low high c words e)

inner_numbers : (low high : ℕ) (c : Children) (words : List ℕ) → length c.pointers ≤ 30
    → words ≡ tree_inner_words low high c → numbers_in words ≡ c.pointers
inner_numbers low high c words most e =
    ap (λ n. take n (drop 4 words)) (inner_count low high c words most e)
    ∙ ap (λ ws. take (length c.pointers) (drop 4 ws)) e
    ∙ ap (take (length c.pointers))
    (append_assoc c.pointers (replicate (30 - length c.pointers) 0) (padded 30 c.separators))
    ∙ take_at c.pointers (replicate (30 - length c.pointers) 0 ++ padded 30 c.separators) (length c.pointers) refl

inner_separators : (low high : ℕ) (c : Children) (words : List ℕ) → length c.pointers ≤ 30
    → length c.separators + 1 ≡ length c.pointers → words ≡ tree_inner_words low high c
    → separators_in words ≡ c.separators
inner_separators low high c words most between e =
    let count : count_of words - 1
    ≡ length c.separators = omega (arith, inner_count low high c words most e, between) in
    ap (λ n. take n (drop 34 words)) count
    ∙ ap (take (length c.separators))
    (sym (drop-drop 30 4 words) ∙ ap (λ t. drop 30 (drop 4 t)) e
    ∙ drop_at (padded 30 c.pointers) (padded 30 c.separators) 30 (length-padded 30 c.pointers most))
    ∙ take_at c.separators (replicate (30 - length c.separators) 0) (length c.separators) refl

-- ---- what a page is

pub node_inner : (words : List ℕ) → get_or words 0 0 / 256 ≡ 2
    → node_of words ≡ Inner (separators_in words) (numbers_in words)
node_inner words kind = rw (eq_yes (get_or words 0 0 / 256) 2 kind) refl

node_leaf : (words : List ℕ) → get_or words 0 0 / 256 ≢ 2 → node_of words ≡ Leaf (records_in words)
node_leaf words kind = rw (eq_no (get_or words 0 0 / 256) 2 kind) refl

-- ---- ranges of children

rises_low : (low high : ℕ) (ss : List ℕ) → AllByRecursion (IsSeparator low high) ss → Rises ◌<◌ ss
    → RisesAfter ◌<◌ (Some low) ss
rises_low low high [] within rising = tt
rises_low low high (s ∷ ss) within rising = (within.0.0, rising.1)

cover_children : (low high : ℕ) (ss ns : List ℕ) → RisesAfter ◌<◌ (Some low) ss → AllByRecursion (λ s. s ≤ high) ss
    → low ≤ high → length ss + 1 ≡ length ns → Cover low high (children low high ss ns)
cover_children low high [] [] rising most some count = absurd (omega (arith, count))
cover_children low high [] (n ∷ ns) rising most some count = (refl, some, omega arith, refl)
cover_children low high (s ∷ ss) [] rising most some count = absurd (omega (arith, count))
cover_children low high (s ∷ ss) (n ∷ ns) rising most some count =
    let above : low < s = rising.0 in
    let next : s ≡ s - 1 + 1 = omega (arith, above) in (
      refl,
      omega (arith, above),
      omega (arith, most.0),
      subst (λ k. Cover k high (children s high ss ns)) next
          (cover_children s high ss ns rising.1 most.1 most.0 (omega (arith, count))),
    )

up_to_high : (low high : ℕ) (ss : List ℕ) → AllByRecursion (IsSeparator low high) ss
    → AllByRecursion (λ s. s ≤ high) ss
up_to_high low high [] all = tt
up_to_high low high (s ∷ ss) all = (all.0.1, up_to_high low high ss all.1)

some_range : (low high : ℕ) (ss : List ℕ) → 1 ≤ length ss → AllByRecursion (IsSeparator low high) ss → low ≤ high
some_range low high [] some all = absurd (omega (arith, some))
some_range low high (s ∷ ss) some all = omega (arith, all.0.0, all.0.1)

pub separator_some : (low high : ℕ) (ss : List ℕ) (i : ℕ) → i < length ss → AllByRecursion (IsSeparator low high) ss
    → 1 ≤ get_or ss i 0
separator_some low high [] i h all = absurd (omega (arith, h))
separator_some low high (s ∷ ss) zero h all = omega (arith, all.0.0)
separator_some low high (s ∷ ss) (suc i) h all = separator_some low high ss i (omega (arith, h)) all.1

pub child_at : (number : ℕ) (ns : List ℕ) (i : ℕ) → i < length ns → AllByRecursion (IsChild 1 number) ns
    → get_or ns i 0 < number
child_at number [] i h all = absurd (omega (arith, h))
child_at number (n ∷ ns) zero h all = all.0.1
child_at number (n ∷ ns) (suc i) h all = child_at number ns i (omega (arith, h)) all.1

-- An interior page, as its words are read.
pub record IsInner (p : PagePlace) (words : List ℕ) : Type 0 where
  pub some : 2 ≤ count_of words
  pub most : count_of words ≤ 30
  pub between : length (separators_in words) + 1 ≡ count_of words
  pub children : length (numbers_in words) ≡ count_of words
  pub within : AllByRecursion (IsSeparator p.low p.high) (separators_in words)
  pub each : AllByRecursion (IsChild 1 p.number) (numbers_in words)
  pub rising : Rises ◌<◌ (separators_in words)

pub inner_of : (p : PagePlace) (words : List ℕ) → HasKind (TreeInner p.low p.high) p.number words → IsInner p words
inner_of p words kind =
    let c : Children = kind.0 in
    let is = kind.1 in
    let count = inner_count p.low p.high c words is.most kind.2 in
    let numbers = inner_numbers p.low p.high c words is.most kind.2 in
    let separators = inner_separators p.low p.high c words is.most is.between kind.2 in
    record {
      some = omega (arith, count, is.some);
      most = omega (arith, count, is.most);
      between = omega (arith, count, is.between, ap length separators);
      children = omega (arith, count, ap length numbers);
      within = subst (AllByRecursion (IsSeparator p.low p.high)) (sym separators) is.within;
      each = subst (AllByRecursion (IsChild 1 p.number)) (sym numbers) is.each;
      rising = subst (λ ss. Rises ◌<◌ ss) (sym separators) is.rising;
    }

pub cover_inner : (p : PagePlace) (words : List ℕ) → IsInner p words
    → Cover p.low p.high (children p.low p.high (separators_in words) (numbers_in words))
cover_inner p words is =
    cover_children p.low p.high (separators_in words) (numbers_in words)
    (rises_low p.low p.high (separators_in words) is.within is.rising)
    (up_to_high p.low p.high (separators_in words) is.within)
    (some_range p.low p.high (separators_in words) (omega (arith, is.some, is.between)) is.within)
    (omega (arith, is.between, is.children))

-- where it is one, by its header
pub inner_is : (epoch id : ℕ) (p : PagePlace) (words : List ℕ) → 0 < p.number → get_or words 0 0 / 256 ≡ 2
    → IsPageUpTo epoch (Tree id) p words → IsInner p words
inner_is epoch id p words some kind right = elim (right.page.page some) [
  | inl leaf ↦ absurd (omega (arith, kind, leaf_head p.low p.high leaf.0 words leaf.2, leaf.1.most))
  | inr inner ↦ inner_of p words inner
]

-- and where it is a leaf
pub leaf_is : (epoch id : ℕ) (p : PagePlace) (words : List ℕ) → 0 < p.number → get_or words 0 0 / 256 ≢ 2
    → IsPageUpTo epoch (Tree id) p words → HasKind (TreeLeaf p.low p.high) p.number words
leaf_is epoch id p words some kind right = elim (right.page.page some) [
  | inl leaf ↦ leaf
  | inr inner ↦ absurd (kind (omega (arith, inner_head p.low p.high inner.0 words inner.2, inner.1.most)))
]

pub leaf_few : (p : PagePlace) (words : List ℕ) → HasKind (TreeLeaf p.low p.high) p.number words → count_of words ≤ 16
leaf_few p words leaf = omega (arith, leaf_count p.low p.high leaf.0 words leaf.1.most leaf.2, leaf.1.most)

pub leaf_kind : (p : PagePlace) (words : List ℕ) → HasKind (TreeLeaf p.low p.high) p.number words
    → get_or words 0 0 / 256 ≢ 2
leaf_kind p words leaf = λ kind. omega (arith, kind, leaf_head p.low p.high leaf.0 words leaf.2, leaf.1.most)

-- ---- the children one after another

pub children_more : (low high : ℕ) (ss ns : List ℕ) (i : ℕ) → i < length ss → i < length ns
    → children low high (drop i ss) (drop i ns)
    ≡ (record { number = get_or ns i 0; low = low; high = get_or ss i 0 - 1 }) ∷ children (get_or ss i 0) high
    (drop (i + 1) ss) (drop (i + 1) ns)
children_more low high ss ns i h g =
    ap (λ t. children low high t (drop i ns)) (drop_more ss i 0 h)
    ∙ ap (λ t. children low high (get_or ss i 0 ∷ drop (i + 1) ss) t) (drop_more ns i 0 g)

pub children_last : (low high : ℕ) (ss ns : List ℕ) (i : ℕ) → length ss ≤ i → i < length ns
    → children low high (drop i ss) (drop i ns) ≡ (record { number = get_or ns i 0; low = low; high = high }) ∷ []
children_last low high ss ns i h g =
    ap (λ t. children low high t (drop i ns)) (drop_all i ss h)
    ∙ ap (λ t. children low high [] t) (drop_more ns i 0 g)

pub length-children : (low high : ℕ) (ss ns : List ℕ) → 0 < length ns → 0 < length (children low high ss ns)
length-children low high ss [] some = some
length-children low high [] (n ∷ ns) some = omega arith
length-children low high (s ∷ ss) (n ∷ ns) some = omega arith

-- ---- records of a leaf

pub record_outside : (low high key : ℕ) (rs : List TreeRecord) → AllByRecursion (IsTreeRecord low high) rs
    → (key < low) ⊎ (high < key) → record_for (map as_record rs) key ≡ None
record_outside low high key [] all out = refl
record_outside low high key (r ∷ rs) all out =
    let other : r.key ≢ key = elim out [
      | inl below ↦ omega (arith, all.0.from_low, below)
      | inr above ↦ omega
          (arith, all.0.to_high, above)
    ] in
    rw (eq_no r.key key other) (record_outside low high key rs all.1 out)

record_after : (k l : ℕ) (rs : List TreeRecord) → k ≤ l → RisesAfter ◌<◌ (Some l) (map record_key rs)
    → record_for (map as_record rs) k ≡ None
record_after k l [] le rising = refl
record_after k l (r ∷ rs) le rising =
    let above : l < r.key = rising.0 in
    let other : r.key ≢ k = omega (arith, above, le) in
    rw (eq_no r.key k other) (record_after k r.key rs (omega (arith, above, le)) rising.1)

-- no record has a later epoch
abbrev pub AreUpTo : ℕ → List Record → Type 0
AreUpTo epoch rs = AllByRecursion (λ (r : Record). epoch_in r.found.number ≤ epoch) rs

found_up_to : (epoch key : ℕ) (rs : List Record) → AreUpTo epoch rs
    → IfSome (record_for rs key) (λ found. epoch_in found.number ≤ epoch)
found_up_to epoch key [] all = tt
found_up_to epoch key (r ∷ rs) all =
    elim (r.key == key) as
    (λ b. IfSome (cond b (Some r.found) (record_for rs key)) (λ (found : Found). epoch_in found.number ≤ epoch)) [
      | true ↦ all.0
      | false ↦ found_up_to epoch key rs all.1
    ]

all_up_to : (epoch low high : ℕ) (last : Option ℕ) (rs : List TreeRecord) → AllByRecursion (IsTreeRecord low high) rs
    → RisesAfter ◌<◌ last (map record_key rs)
    → ((key : ℕ) → low ≤ key → key ≤ high
    → IfSome (record_for (map as_record rs) key) (λ found. epoch_in found.number ≤ epoch))
    → AreUpTo epoch (map as_record rs)
all_up_to epoch low high last [] all rising found = tt
all_up_to epoch low high last (r ∷ rs) all rising found = (
  rw (eq_yes r.key r.key refl) at (found r.key all.0.from_low all.0.to_high),
  all_up_to epoch low high (Some r.key) rs all.1 rising.1 (λ key from to. elim (cases_eq r.key key) [
    | inl same ↦ rw (record_after key r.key rs (omega (arith, same)) rising.1) tt
    | inr other ↦ rw (eq_no r.key key other) at (found key from to)
  ]),
)

-- by the words
pub words_up_to : (epoch n : ℕ) (ws : List ℕ) → ((i : ℕ) → i < n → get_or ws (1 + 3 * i) 0 / 2 ^ 40 ≤ epoch)
    → AreUpTo epoch (records_at n ws)
words_up_to epoch zero ws all = tt
words_up_to epoch (suc n) ws all = (
  all 0 (omega arith),
  words_up_to epoch n (drop 3 ws) (λ i below.
      let index : 3 + (1 + 3 * i) ≡ 1 + 3 * suc i = omega arith in
      subst (λ w. w / 2 ^ 40 ≤ epoch) (sym (get_or-drop 3 ws (1 + 3 * i) 0 ∙ ap (λ k. get_or ws k 0) index))
      (all (suc i) (omega (arith, below)))),
)

pub up_to_words : (epoch n : ℕ) (ws : List ℕ) → AreUpTo epoch (records_at n ws) → (i : ℕ) → i < n
    → get_or ws (1 + 3 * i) 0 / 2 ^ 40 ≤ epoch
up_to_words epoch zero ws all i below = absurd (omega (arith, below))
up_to_words epoch (suc n) ws all zero below = all.0
up_to_words epoch (suc n) ws all (suc i) below =
    let index : 3 + (1 + 3 * i) ≡ 1 + 3 * suc i = omega arith in
    subst (λ w. w / 2 ^ 40 ≤ epoch) (get_or-drop 3 ws (1 + 3 * i) 0 ∙ ap (λ k. get_or ws k 0) index)
    (up_to_words epoch n (drop 3 ws) all.1 i (omega (arith, below)))

number_index : (words : List ℕ) (i : ℕ) → get_or (drop 16 words) (1 + 3 * i) 0 ≡ get_or words (17 + 3 * i) 0
number_index words i =
    let index : 16 + (1 + 3 * i) ≡ 17 + 3 * i = omega arith in
    get_or-drop 16 words (1 + 3 * i) 0 ∙ ap (λ k. get_or words k 0) index

-- ---- what is right

pub inner_right : (epoch id : ℕ) (p : PagePlace) (words : List ℕ) → 0 < p.number
    → HasKind (TreeInner p.low p.high) p.number words → IsPageUpTo epoch (Tree id) p words
inner_right epoch id p words some kind =
    let is = inner_of p words kind in
    let header : get_or words 0 0 / 256
    ≡ 2 = omega (arith, inner_head p.low p.high kind.0 words kind.2, kind.1.most) in
    let many = length-children p.low p.high (separators_in words) (numbers_in words)
    (omega (arith, is.some, is.children)) in
    record {
      page = record { none = λ zero. absurd (omega (arith, zero, some)); page = λ more. inr kind };
      numbers = λ leaf. absurd
          (omega (
            arith,
            many,
            ap length leaf,
            ap (λ n. length (node_below p.low p.high n))
                (node_inner words header),
          ));
    }

pub look_leaf : (p : PagePlace) (words : List ℕ) (key : ℕ) → HasKind (TreeLeaf p.low p.high) p.number words
    → record_for (records_of (node_of words)) key ≡ record_for (records_in words) key
look_leaf p words key leaf = ap (λ n. record_for (records_of n) key) (node_leaf words (leaf_kind p words leaf))

pub below_leaf : (p : PagePlace) (words : List ℕ) → HasKind (TreeLeaf p.low p.high) p.number words
    → node_below p.low p.high (node_of words) ≡ []
below_leaf p words leaf = ap (node_below p.low p.high) (node_leaf words (leaf_kind p words leaf))

pub leaf_right : (epoch id : ℕ) (p : PagePlace) (words : List ℕ) → 0 < p.number
    → HasKind (TreeLeaf p.low p.high) p.number words
    → ((i : ℕ) → i < count_of words → get_or words (17 + 3 * i) 0 / 2 ^ 40 ≤ epoch)
    → IsPageUpTo epoch (Tree id) p words
leaf_right epoch id p words some leaf numbers = record {
  page = record { none = λ zero. absurd (omega (arith, zero, some)); page = λ more. inl leaf };
  numbers = λ _ key from to.
      subst (λ o. IfSome o (λ (found : Found). epoch_in found.number ≤ epoch)) (sym (look_leaf p words key leaf))
      (found_up_to epoch key (records_in words) (words_up_to epoch (count_of words) (drop 16 words)
      (λ i below. subst (λ w. w / 2 ^ 40 ≤ epoch) (sym (number_index words i)) (numbers i below))));
}

pub leaf_numbers : (epoch id : ℕ) (p : PagePlace) (words : List ℕ) → 0 < p.number
    → HasKind (TreeLeaf p.low p.high) p.number words → IsPageUpTo epoch (Tree id) p words
    → (i : ℕ) → i < count_of words → get_or words (17 + 3 * i) 0 / 2 ^ 40 ≤ epoch
leaf_numbers epoch id p words some leaf right i below =
    let same = leaf_records p.low p.high leaf.0 words leaf.1.most leaf.2 in
    let all = all_up_to epoch p.low p.high None leaf.0 leaf.1.each leaf.1.rising
    (λ key from to. subst (λ o. IfSome o (λ (found : Found). epoch_in found.number ≤ epoch))
    (look_leaf p words key leaf ∙ ap (λ rs. record_for rs key) same)
    (right.numbers (below_leaf p words leaf) key from to)) in
    subst (λ w. w / 2 ^ 40 ≤ epoch) (number_index words i)
    (up_to_words epoch (count_of words) (drop 16 words) (subst (AreUpTo epoch) (sym same) all) i below)

-- ---- records that are put

abbrev record_by : ℕ → ℕ → ℕ → Record
record_by k m v = record { key = k; found = record { number = m; value = v } }

record_is : (a b c d e f : ℕ) → a ≡ b → c ≡ d → e ≡ f → record_by a c e ≡ record_by b d f
record_is a b c d e f p q r = ap (λ x. record_by x c e) p ∙ ap (λ x. record_by b x e) q ∙ ap (record_by b d) r

pub record_more : (n : ℕ) (ws : List ℕ) (i : ℕ) → i < n
    → drop i (records_at n ws)
    ≡ (record {
      key = get_or ws
          (3 * i) 0;
      found = record { number = get_or ws (3 * i + 1) 0; value = get_or ws (3 * i + 2) 0 };
    }) ∷ drop
    (i + 1) (records_at n ws)
record_more zero ws i below = absurd (omega (arith, below))
record_more (suc n) ws zero below = refl
record_more (suc n) ws (suc i) below =
    let at : (j : ℕ) → get_or (drop 3 ws) (3 * i + j) 0 ≡ get_or ws (3 * suc i + j) 0 =
    λ j. get_or-drop 3 ws (3 * i + j) 0 ∙ ap (λ k. get_or ws k 0) (omega arith) in
    let first : get_or (drop 3 ws) (3 * i) 0 ≡ get_or ws (3 * suc i) 0 = get_or-drop 3 ws (3 * i) 0
    ∙ ap (λ k. get_or ws k 0) (omega arith) in
    let next : suc i + 1 ≡ suc (i + 1) = omega arith in
    record_more n (drop 3 ws) i (omega (arith, below))
    ∙ ap (λ t. t ∷ drop (i + 1) (records_at n (drop 3 ws)))
    (record_is (get_or (drop 3 ws) (3 * i) 0) (get_or ws (3 * suc i) 0) (get_or (drop 3 ws) (3 * i + 1) 0)
    (get_or ws (3 * suc i + 1) 0) (get_or (drop 3 ws) (3 * i + 2) 0) (get_or ws (3 * suc i + 2) 0) first (at 1)
    (at 2))
    ∙ ap (λ k. (record {
      key = get_or ws
          (3 * suc i) 0;
      found = record {
        number = get_or ws (3 * suc i + 1) 0;
        value = get_or ws
            (3 * suc i + 2) 0;
      };
    }) ∷ drop k (records_at (suc n) ws)) (sym next)

record_step : (id : ℕ) (r : Record) (rest : List Record) (key : Key) (o : Option ℕ)
    → put_over (only_at (key_with id r.key) (Some r.found) key) (put_over (tree_records rest id key) o)
    ≡ put_over (tree_records (r ∷ rest) id key) o
record_step id r rest key o =
    elim (cases_eq key.storage id) [
      | inl here ↦ elim (cases_eq key.key r.key) [
        | inl this ↦ rw (eq_yes key.storage id here, eq_yes key.key r.key this, eq_yes r.key key.key (sym this)) refl
        | inr other ↦
            let back : r.key ≢ key.key = λ e. other (sym e) in
            rw (eq_yes key.storage id here, eq_no key.key r.key other, eq_no r.key key.key back) refl
      ]
      | inr other ↦ rw (eq_no key.storage id other) refl
    ]

-- one record more, in front
pub record_put : (id : ℕ) (words : List ℕ) (i j : ℕ) (old now new : State) → i < count_of words → j ≡ i + 1
    → Puts (tree_records (drop j (records_in words)) id) old now
    → ((number : ℕ) → Puts
    (only_at (key_with id (get_or words (16 + 3 * i) 0))
    (Some (found_of number (get_or words (18 + 3 * i) 0)))) now new)
    → Puts (tree_records (drop i (records_in words)) id) old new
record_put id words i j old now new below next p q =
    let ws : List ℕ = drop 16 words in
    let key : get_or words (16 + 3 * i) 0 ≡ get_or ws (3 * i) 0 = sym (get_or-drop 16 words (3 * i) 0) in
    let index : 16 + (3 * i + 2) ≡ 18 + 3 * i = omega arith in
    let value : get_or words (18 + 3 * i) 0 ≡ get_or ws (3 * i + 2) 0 = ap (λ k. get_or words k 0) (sym index)
    ∙ sym (get_or-drop 16 words (3 * i + 2) 0) in
    let r : Record = record {
      key = get_or ws
          (3 * i) 0;
      found = record { number = get_or ws (3 * i + 1) 0; value = get_or ws (3 * i + 2) 0 };
    } in
    let rest : List Record = drop (i + 1) (records_in words) in
    let put : Puts (only_at (key_with id r.key) (Some r.found)) now new =
    subst (λ k. Puts (only_at (key_with id k) (Some r.found)) now new) key
    (subst (λ v. Puts (only_at (key_with id (get_or words (16 + 3 * i) 0))
    (Some (found_of (get_or ws (3 * i + 1) 0) v))) now new) value (q (get_or ws (3 * i + 1) 0))) in
    let before : Puts (tree_records rest id) old now = subst
    (λ k. Puts (tree_records (drop k (records_in words)) id) old now) next p in
    subst (λ rs. Puts (tree_records rs id) old new) (sym (record_more (count_of words) ws i below))
    (record {
      values = λ k. put.values k ∙ ap (put_over (only_at (key_with id r.key) (Some r.found) k)) (before.values k)
          ∙ record_step id r rest k (get old k);
    })

-- none yet
pub records_begin : (id : ℕ) (words : List ℕ) (n : ℕ) (s : State) → count_of words ≡ n
    → Puts (tree_records (drop n (records_in words)) id) s s
records_begin id words n s count =
    subst (λ rs. Puts (tree_records rs id) s s) (sym (past (count_of words) (drop 16 words) n (omega (arith, count))))
    (puts_none (tree_records [] id) s (λ key. no_found (key.storage == id)))
  where
    past : (k : ℕ) (ws : List ℕ) (n : ℕ) → k ≤ n → drop n (records_at k ws) ≡ []
    past zero ws zero le = refl
    past zero ws (suc n) le = refl
    past (suc k) ws zero le = absurd (omega (arith, le))
    past (suc k) ws (suc n) le = past k (drop 3 ws) n (omega (arith, le))
