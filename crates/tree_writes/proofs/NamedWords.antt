-- The word of a leaf that the sets of a transaction name: its header, or one of its records.
use Rattle.std.proofs.Common.{◌≡◌, ◌≢◌, ◌⊎◌, inl, inr, ℕ, ◌+◌, ◌-◌, ◌*◌, ◌/◌, ◌<◌, ◌≤◌, Bool, true, false, cond, List, [], ◌∷◌}
use Rattle.std.proofs.Common.{refl, sym, ap, ◌∙◌, subst, arith, Option, Some, None, eq-eqb}
use Rattle.std.specs.Prelude.{Contains, is_some, nat_le, nat_lt, ◌==◌, ◌||◌}
use Rattle.std.specs.List.{find, AllByRecursion}
use Rattle.std.proofs.lemmas.Bool.{and_parts, or_left, or_right}
use Rattle.std.proofs.lemmas.Bool.Decides.{nat_tests}
use Rattle.lists.specs.Elements.{any_in, in_cases, in_head, in_none, in_tail}
use Rattle.serial_model.specs.declared.key.Key.{Key}
use Rattle.tx_sets.specs.declared.reads.ReadEntry.{ReadEntry}
use Rattle.tx_sets.specs.declared.seen.Seen.{Seen}
use Rattle.tx_sets.specs.declared.sets.Sets.{Sets}
use Rattle.tx_sets.specs.declared.writes.Write.{Write}
use Rattle.tx_sets.specs.Entries.{has_word, is_in_page, read_in, write_in, writes_at}
use Rattle.engine_pages.specs.declared.layout.Layout.{Layout}
use Rattle.engine_pages.specs.declared.view.RefusalCause.{RefusalCause}
use Rattle.engine_pages.specs.declared.view.RefusalCause.TheVariants.{Conflict}
use Rattle.engine_pages.specs.declared.view.View.{View}
use Rattle.engine_pages.specs.declared.view.Way.{Way}
use Rattle.engine_pages.specs.Layout.{page_at}
use Rattle.engine_pages.specs.Pages.{decl_of, is_tree}
use Rattle.engine_pages.specs.Pointers.{one_kind}
use Rattle.tree_heads.specs.Headers.{Headed}
use Rattle.foster_tree.specs.Locking.{HasNotLockedOne}
use Rattle.tree_walks.specs.declared.ways.Leaf.{Leaf}
use Rattle.tree_walks.specs.Ways.{IsLeafOn}
use Rattle.page_commit.specs.Live.{reads_at, IsLive, IsWriteOf}
use Rattle.page_commit.specs.Needs.{names_record}
use Rattle.page_commit.specs.Places.{ground, slot_of, tree_spot, IsAnyKeyIn}
use Rattle.tree_writes.specs.Causes.{names_page}
use Rattle.tree_writes.specs.Writing.{named_word, place_of, HasSplitFor, IsLeafWord, TellsMoved}

-- ---- by what the sets have

-- no word is named
none_named : (h : Bool) (first : ℕ) (r : Option ReadEntry) (x : Option Write)
    → cond h (Some first) (place_of r x) ≡ None → (h || (is_some r || is_some x)) ≡ false
none_named true first r x is = absurd cc
none_named false first (Some e) x is = absurd cc
none_named false first None (Some y) is = absurd cc
none_named false first None None is = refl

pub page_unnamed : (first : ℕ) (sets : Sets) → named_word first sets ≡ None → names_page first sets ≡ false
page_unnamed first sets is =
    none_named (has_word first sets.headers) first (read_in first sets.reads) (write_in first sets.writes) is

-- one is: the header, or the word of a record that was read, or is written
one_named : (h : Bool) (first at : ℕ) (r : Option ReadEntry) (x : Option Write)
    → cond h (Some first) (place_of r x) ≡ Some at
    → ((h ≡ true) × (at ≡ first))
    ⊎ (((e : ReadEntry) × (r ≡ Some e) × (at ≡ e.at)) ⊎ ((y : Write) × (x ≡ Some y) × (at ≡ y.at)))
one_named true first at r x is = inl (refl, cc)
one_named false first at (Some e) x is = inr (inl (e, refl, cc))
one_named false first at None (Some y) is = inr (inr (y, refl, cc))
one_named false first at None None is = absurd cc

-- what is found is there, and passes the test
found : {A : Type 0} (p : A → Bool) (xs : List A) (e : A) → find p xs ≡ Some e → Contains xs e × (p e ≡ true)
found p [] e is = absurd cc
found {A} p (y ∷ xs) e is = by_test (p y) refl is (found p xs e)
  where
    some_is : (a b : A) → Some a ≡ Some b → a ≡ b
    some_is a b same = cc

    by_test : (b : Bool) → p y ≡ b → find p (y ∷ xs) ≡ Some e → (find p xs ≡ Some e → Contains xs e × (p e ≡ true))
        → Contains (y ∷ xs) e × (p e ≡ true)
    by_test true hit is rest =
        let same : y ≡ e = some_is y e (sym (ap (λ (b : Bool). cond b (Some y) (find p xs)) hit) ∙ is) in
        (subst (λ (z : A). Contains (y ∷ xs) z) same (in_head y xs), ap p (sym same) ∙ hit)
    by_test false miss is rest =
        let r = rest (sym (ap (λ (b : Bool). cond b (Some y) (find p xs)) miss) ∙ is) in (in_tail e y xs r.0, r.1)

write_all : (P : Write → Type 0) (xs : List Write) (x : Write) → AllByRecursion P xs → Contains xs x → P x
write_all P [] x all has = absurd (in_none x has)
write_all P (y ∷ xs) x all has = elim (in_cases x y xs has) [
  | inl same ↦ subst P same all.0
  | inr later ↦ write_all P xs x all.1 later
]

low_from : (a b : ℕ) → nat_le a b ≡ true → a ≤ b
low_from a b test = grind (arith, nat_tests)

high_from : (a b : ℕ) → nat_lt a b ≡ true → a < b
high_from a b test = grind (arith, nat_tests)

-- ---- in the leaf

-- The header of the leaf, which the sets have, or the word of a record that they name.
abbrev pub NamesWord : ℕ → ℕ → ℕ → Sets → Type 0
NamesWord slots t word sets =
    ((word ≡ page_at slots t 0) × (has_word word sets.headers ≡ true))
    ⊎ ((i : ℕ) × (i < 16) × (word ≡ page_at slots t (1 + (16 + 3 * i))) × (names_record word sets ≡ true))

pub named_leaf_word : (slots t word : ℕ) (sets : Sets) → NamesWord slots t word sets → IsLeafWord slots t word
named_leaf_word slots t word sets (inl h) = inl h.0
named_leaf_word slots t word sets (inr r) = inr (r.0, r.1, r.2)

module _ (sets : Sets) (v : View) (k : Key) (x : Leaf) (live : IsLive sets v) (on : IsLeafOn k sets.headers x v) where
  abbrev head_at : ℕ
  head_at = page_at v.layout.slots x.slot 0

  -- a word of the page is one of the slot
  slot_is : (at : ℕ) → is_in_page head_at at ≡ true → slot_of v.layout.slots at ≡ x.slot
  slot_is at inside =
      let parts = and_parts (nat_le head_at at) (nat_lt at (head_at + 64)) inside in
      let low : ((32 + v.layout.slots) + 64 * x.slot) + 0 ≤ at =
      low_from (((32 + v.layout.slots) + 64 * x.slot) + 0) at parts.0 in
      let high : at < (((32 + v.layout.slots) + 64 * x.slot) + 0) + 64 =
      high_from at ((((32 + v.layout.slots) + 64 * x.slot) + 0) + 64) parts.1 in
      let e : (at - (32 + v.layout.slots)) / 64 ≡ x.slot = omega (arith, low, high) in e

  -- a record whose word stands in the page is one of the leaf's
  record_here : (q : Key) (at : ℕ) → IsAnyKeyIn (ground v) q at → is_in_page head_at at ≡ true
      → (i : ℕ) × (i < 16) × (at ≡ page_at v.layout.slots x.slot (1 + (16 + 3 * i)))
  record_here q at (inl a) inside =
      let way : Way = record { slot = x.slot; span = x.span } in
      let same = live.agree a.way way a.has on.leaf.on.way (a.slot ∙ slot_is at inside) in
      absurd (one_kind (decl_of v.layout.decls a.way.span.storage) a.kind
      (ap (λ (s : ℕ). is_tree v.layout.decls s) same.0 ∙ on.leaf.on.tree))
  record_here q at (inr t) inside = (
    (tree_spot v.layout.slots at).index,
    t.index,
    t.word ∙ ap (λ (n : ℕ). page_at v.layout.slots n (1 + (16 + 3 * (tree_spot v.layout.slots at).index)))
        (slot_is at inside),
  )

  read_named : (e : ReadEntry) (at : ℕ) → read_in head_at sets.reads ≡ Some e → at ≡ e.at
      → NamesWord v.layout.slots x.slot at sets
  read_named e at is same =
      let f = found (λ (r : ReadEntry). is_in_page head_at r.at) sets.reads e is in
      let r = record_here e.key e.at (live.parts.reads e f.0).2.place f.1 in
      inr (
        r.0,
        r.1,
        same ∙ r.2,
        or_left (reads_at at sets.reads) (writes_at at sets.writes)
            (any_in (λ (z : ReadEntry). z.at == at) sets.reads e f.0 (eq-eqb e.at at (sym same))),
      )

  write_named : (y : Write) (at : ℕ) → write_in head_at sets.writes ≡ Some y → at ≡ y.at
      → NamesWord v.layout.slots x.slot at sets
  write_named y at is same =
      let f = found (λ (w : Write). is_in_page head_at w.at) sets.writes y is in
      let of = write_all (IsWriteOf (ground v)) sets.writes y live.writes f.0 in
      let r = record_here y.key y.at of.place f.1 in
      inr (
        r.0,
        r.1,
        same ∙ r.2,
        or_right (reads_at at sets.reads) (writes_at at sets.writes)
            (any_in (λ (z : Write). z.at == at) sets.writes y f.0 (eq-eqb y.at at (sym same))),
      )

  -- the word that the sets name of the leaf's page
  pub word_named : (at : ℕ) → named_word head_at sets ≡ Some at → NamesWord v.layout.slots x.slot at sets
  word_named at is =
      elim (one_named (has_word head_at sets.headers) head_at at (read_in head_at sets.reads)
      (write_in head_at sets.writes) is) [
        | inl h ↦ inl (h.1, ap (λ (n : ℕ). has_word n sets.headers) h.1 ∙ h.0)
        | inr more ↦ elim more [
          | inl e ↦ read_named e.0 at e.1 e.2
          | inr y ↦ write_named y.0 at y.1 y.2
        ]
      ]

-- ---- behind a split of the leaf

-- the sets name the same words, where the slots that are held alone have grown
word_same : (first : ℕ) (sets new : Sets) → new.reads ≡ sets.reads → new.headers ≡ sets.headers
    → new.writes ≡ sets.writes → named_word first new ≡ named_word first sets
word_same first sets new reads headers writes =
    ap (λ (l : List Seen). cond (has_word first l) (Some first)
    (place_of (read_in first new.reads) (write_in first new.writes))) headers
    ∙ (ap (λ (l : List ReadEntry). cond (has_word first sets.headers) (Some first)
    (place_of (read_in first l) (write_in first new.writes))) reads
    ∙ ap (λ (l : List Write). cond (has_word first sets.headers) (Some first)
    (place_of (read_in first sets.reads) (write_in first l))) writes)

-- which word of the leaf they name
pub word_before : (sets new : Sets) (k : Key) (x : Leaf) (at head word : ℕ) (v w : View)
    → HasSplitFor k x at sets new v w → head ≡ page_at v.layout.slots x.slot 0 → named_word head new ≡ Some word
    → NamesWord v.layout.slots x.slot word sets
word_before sets new k x at head word v w s is named =
    word_named sets v k x s.live s.on word
    (ap (λ (n : ℕ). named_word n sets) (sym is)
    ∙ (sym (word_same head sets new s.others.reads s.others.headers s.others.writes) ∙ named))

-- it stands in the leaf still
pub leaf_word_now : (sets new : Sets) (k : Key) (x : Leaf) (at head word : ℕ) (v w : View)
    → HasSplitFor k x at sets new v w → head ≡ page_at v.layout.slots x.slot 0 → named_word head new ≡ Some word
    → IsLeafWord w.layout.slots x.slot word
leaf_word_now sets new k x at head word v w s is named =
    subst (λ (l : Layout). IsLeafWord l.slots x.slot word)
    (sym (ap (λ (z : View). z.layout) s.split.is))
    (named_leaf_word v.layout.slots x.slot word sets (word_before sets new k x at head word v w s is named))

-- ---- a word of the leaf is loaded

-- which record has it, where it isn't the header's
index_here : (slots t head word : ℕ) → head ≡ page_at slots t 0 → word ≢ head → IsLeafWord slots t word
    → (i : ℕ) × (i < 16) × (word ≡ page_at slots t (1 + (16 + 3 * i))) × ((word - head - 17) / 3 ≡ i)
index_here slots t head word is other (inl same) = absurd (other (same ∙ sym is))
index_here slots t head word is other (inr r) =
    let first : head ≡ ((32 + slots) + 64 * t) + 0 = is in
    let here : word ≡ ((32 + slots) + 64 * t) + (1 + (16 + 3 * r.0)) = r.2 in
    (r.0, r.1, r.2, omega (arith, first, here))

pub index_few : (slots t head word index : ℕ) → head ≡ page_at slots t 0 → word ≢ head → IsLeafWord slots t word
    → index ≡ (word - head - 17) / 3 → index < 16
index_few slots t head word index is other here index_is =
    let r = index_here slots t head word is other here in
    subst (λ (n : ℕ). n < 16) (sym (index_is ∙ r.3)) r.1

pub header_told : (x : Leaf) (why : RefusalCause) (head word seen : ℕ) (v w : View) → word ≡ head
    → head ≡ page_at v.layout.slots x.slot 0 → why ≡ Conflict head x.header seen → Headed x.slot x.span head v seen w
    → TellsMoved x word why v w
header_told x why head word seen v w same is why_is h = inl (
  seen,
  why_is ∙ ap (λ (n : ℕ). Conflict n x.header seen) (sym same),
  same ∙ is,
  subst (λ (n : ℕ). Headed x.slot x.span n v seen w) (sym same) h,
)

pub record_told : (x : Leaf) (why : RefusalCause) (head word index : ℕ) (v w : View)
    → head ≡ page_at v.layout.slots x.slot 0 → word ≢ head → IsLeafWord v.layout.slots x.slot word
    → index ≡ (word - head - 17) / 3 → HasNotLockedOne x.slot index why v w → TellsMoved x word why v w
record_told x why head word index v w is other here index_is h =
    let r = index_here v.layout.slots x.slot head word is other here in
    inr (r.0, r.1, r.2, subst (λ (n : ℕ). HasNotLockedOne x.slot n why v w) (index_is ∙ r.3) h)
