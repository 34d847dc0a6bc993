-- Why an operation is refused.
use Rattle.std.proofs.Common.{◌≡◌, inl, inr, ℕ, ◌+◌, ◌-◌, ◌%◌, ◌≤◌, ◌<◌, true, false, [], ◌∷◌}
use Rattle.std.proofs.Common.{◌++◌, length, List, Option, Result, Ok, Err, sym, ap, ◌∙◌, subst, arith, length-append}
use Rattle.std.specs.Prelude.{IfErr, nat_lt, ⊤}
use Rattle.std.proofs.lemmas.List.{append-nil}
use Rattle.std.proofs.lemmas.Bool.Decides.{nat_tests}
use Rattle.serial_model.specs.declared.decl.Decl.{Decl}
use Rattle.serial_model.specs.declared.key.Key.{Key}
use Rattle.serial_model.specs.declared.op.Op.{Op}
use Rattle.serial_model.specs.declared.op.Op.TheVariants.{Scan}
use Rattle.serial_model.specs.declared.reply.Verdict.{Verdict}
use Rattle.serial_model.specs.Decls.{AreDecls}
use Rattle.serial_model.specs.State.{is_within}
use Rattle.homes.specs.declared.places.At.{At}
use Rattle.homes.specs.declared.places.At.TheVariants.{Root, In}
use Rattle.homes.specs.declared.places.Span.{Span}
use Rattle.wire_form.specs.Leaves.{tree_leaf, word_in}
use Rattle.tx_sets.specs.declared.sets.Sets.{Sets}
use Rattle.tx_sets.specs.Gathered.{has_read_room}
use Rattle.engine_pages.specs.declared.layout.Layout.{Layout}
use Rattle.engine_pages.specs.declared.view.RefusalCause.{RefusalCause}
use Rattle.engine_pages.specs.declared.view.RefusalCause.TheVariants as refusals
use Rattle.engine_pages.specs.declared.view.SetName.{SetName}
use Rattle.engine_pages.specs.declared.view.SetName.TheVariants as names
use Rattle.engine_pages.specs.declared.view.View.{View}
use Rattle.engine_pages.specs.Pages.{is_array, is_tree}
use Rattle.engine_pages.specs.Pointers.{IsPointerAt}
use Rattle.engine_pages.specs.Views.{seat_number}
use Rattle.page_commit.specs.Calls.{op_holds, IsFullOf, IsSlotConflict, IsWordIn, RefusesAlter, RefusesRead}
use Rattle.page_commit.specs.Calls.{RefusesWrite}
use Rattle.page_commit.specs.Places.{ground, slot_of, tree_spot, IsTreeKeyIn}
use Rattle.page_commit.specs.Turning.{IsHeaderOver, IsTreePointerOver, MayWrite, OnlyWalked}
use Rattle.tree_calls.specs.Causes.{IsWordConflict, RefusesTreeRead}
use Rattle.tree_ranges.specs.Causes.{RefusesScan}
use Rattle.tree_writes.specs.Causes.{IsGrowConflict, RefusesBehindRead, RefusesTreeAlter, RefusesTreeWrite}
use Rattle.tx_runner.specs.Lines.{IsOfKey, IsOnTree}
use Rattle.tx_runner.specs.Steps.{IsOpCause, IsOpConflict, IsOpFull, IsOpWhy, IsOpWide}
use Rattle.tx_runner.specs.Tries.{IsAtSpot, IsChangedAt, IsInPage, IsPageWord, IsRecordWord, OfLeaf, OfRecord, OfSlot}
use Rattle.tx_runner.specs.Tries.{OfWay, TouchesOnly, blame_at}
use Rattle.tx_runner.proofs.Arrays.{written_at}
use Rattle.tx_runner.proofs.Touched.{touches_then, trees_locked, untouched}

-- ---- full sets

-- the set is the one of this name
wide_as : (decls : List Decl) (op : Op) (sets : Sets) (name set : SetName) → set ≡ name → IsOpWide decls op sets name
    → IsOpWide decls op sets set
wide_as decls op sets name set is wide = subst (IsOpWide decls op sets) (sym is) wide

-- records and headers fill their set
no_room : (sets : Sets) → has_read_room sets ≡ false → 256 ≤ length sets.reads + length sets.headers
no_room sets none =
    let is : nat_lt (length sets.reads + length sets.headers) 256 ≡ false = none in grind (arith, nat_tests)

reads_wide : (decls : List Decl) (op : Op) (sets : Sets) → 254 ≤ length sets.reads + length sets.headers
    → IsOpWide decls op sets names.Reads
reads_wide decls op sets full = inr full

writes_wide : (decls : List Decl) (op : Op) (sets : Sets) → 16 ≤ length sets.writes
    → IsOpWide decls op sets names.Writes
writes_wide decls op sets full = full

pointers_wide : (decls : List Decl) (op : Op) (sets : Sets) → length sets.pointers ≡ 128
    → IsOpWide decls op sets names.Pointers
pointers_wide decls op sets full = inr (omega (arith, full))

-- an operation on an array needed one slot more, and had held no more new ones than it may
holds_wide : (decls : List Decl) (op : Op) (sets new : Sets) → length new.holds ≡ 128
    → length new.holds ≤ length sets.holds + op_holds → IsOpWide decls op sets names.Holds
holds_wide decls op sets new full grows =
    let more : length new.holds ≤ length sets.holds + 6 = grows in
    let most : 128 ≤ length sets.holds + 6 = omega (arith, full, more) in inr most

-- these sets have two records and headers more than those at most, and no more writes
record IsLittleMore (sets more : Sets) : Type 0 where
  reads : length more.reads + length more.headers ≤ (length sets.reads + length sets.headers) + 2
  writes : length more.writes ≤ length sets.writes

no_more : (sets : Sets) → IsLittleMore sets sets
no_more sets = record { reads = omega arith; writes = omega arith }

-- one more, or none
one_longer : {A : Type 0} (old new : List A) (x : A) → new ≡ old ++ x ∷ [] → length new ≤ length old + 1
one_longer {A} old new x is =
    let count : length new ≡ length (old ++ x ∷ []) = ap (λ (l : List A). length l) is in
    let sum : length (old ++ x ∷ []) ≡ length old + 1 = length-append old (x ∷ []) in omega (arith, count, sum)

no_longer : {A : Type 0} (old new : List A) → new ≡ old → length new ≤ length old
no_longer {A} old new is =
    let count : length new ≡ length old = ap (λ (l : List A). length l) is in omega (arith, count)

-- so it is behind the read of one key
behind_read : (old new : Sets) (k : Key) (why : RefusalCause) (v w : View) → (b : RefusesBehindRead old new k why v w)
    → IsLittleMore old b.sets
behind_read old new k why v w b =
    let reads : length (b.sets).reads ≤ length old.reads + 1 = elim b.reads [
      | inl same ↦ let most = no_longer old.reads (b.sets).reads same in omega (arith, most)
      | inr one ↦ one_longer old.reads (b.sets).reads one.0 one.2
    ] in
    let headers : length (b.sets).headers ≤ length old.headers + 1 = elim b.headers [
      | inl same ↦ let most = no_longer old.headers (b.sets).headers same in omega (arith, most)
      | inr one ↦ one_longer old.headers (b.sets).headers one.0 one.1
    ] in
    record {
      reads = omega (arith, reads, headers);
      writes = no_longer old.writes (b.sets).writes b.writes;
    }

-- ---- on arrays

-- the word of the key's record is that of a record
word_of : (l : Layout) (k : Key) (at : ℕ) → IsWordIn l.slots k at → IsRecordWord l k at
word_of l k at is =
    let index : (is.spot).index ≡ k.key % 32 = is.index in record {
      slot = (is.spot).slot;
      within = is.within;
      first = k.key - (is.spot).index;
      index = (is.spot).index;
      few = let few : (is.spot).index < 32 = omega (arith, index) in few;
      key = omega (arith, index);
      word = is.word;
    }

pub read_cause : (op : Op) (sets new : Sets) (k : Key) (why : RefusalCause) (v w : View) → IsOfKey op k
    → is_array v.layout.decls k.storage ≡ true → length new.holds ≤ length sets.holds + op_holds
    → RefusesRead sets new k why v w → IsOpCause op sets why v w
read_cause op sets new k (refusals.Conflict at expected seen) v w of array grows r = record {
  draws = r.2;
  touched = untouched (op ∷ []) v w r.4;
  cause = elim r.3 [
    | inl here ↦ record {
      spot = OfRecord k;
      key = of;
      place = (array, word_of v.layout k at here.1);
      cause = here.0.conflict.cause;
      blamed = here.0.blamed;
    }
    | inr pointer ↦ record {
      spot = OfWay k;
      key = of;
      place = inl pointer.2;
      cause = pointer.0.cause;
      blamed = pointer.1 ∙ sym (append-nil v.blamed);
    }
  ];
}
read_cause op sets new k (refusals.Full told) v w of array grows r = absurd r
read_cause op sets new k (refusals.Wide set) v w of array grows r = record {
  draws = r.2;
  touched = untouched (op ∷ []) v w r.4;
  cause = elim r.3 [
    | inl reads ↦ wide_as v.layout.decls op sets names.Reads set reads.0 (reads_wide v.layout.decls op sets
        (let full = no_room sets reads.1 in omega (arith, full)))
    | inr other ↦ elim other [
      | inl holds ↦ wide_as v.layout.decls op sets names.Holds set holds.0
          (holds_wide v.layout.decls op sets new holds.1 grows)
      | inr pointers ↦ wide_as v.layout.decls op sets names.Pointers set pointers.0
          (pointers_wide v.layout.decls op sets pointers.1)
    ]
  ];
}
read_cause op sets new k (refusals.NumberLimit clock) v w of array grows r = absurd r

-- at a slot, or beside the record of a key
slot_conflict : (op : Op) (k : Key) → MayWrite op k → (at expected seen : ℕ) (v w : View) → IsSlotConflict at expected seen v w
    → w.blamed ≡ v.blamed → IsOpConflict op at expected seen v w
slot_conflict op k may at expected seen v w slot blamed = record {
  spot = OfSlot;
  key = (k, may);
  place = (slot.slot, slot.within, slot.place);
  cause = slot.other;
  blamed = blamed ∙ sym (append-nil v.blamed);
}

-- no slot was usable
full_of : (op : Op) (k : Key) (told : Option (ℕ × ℕ)) (v w : View) → MayWrite op k → IsFullOf told v w
    → IsOpFull op told v w
full_of op k told v w may full = record {
  key = k;
  writes = may;
  words = full.words;
  all = record {
    count = full.count;
    taken = full.taken;
    step = full.step;
    since = full.since;
    looked = full.looked;
  };
  told_is = full.held;
}

pub write_cause : (op : Op) (sets new : Sets) (k : Key) (why : RefusalCause) (v w : View) → MayWrite op k
    → length new.holds ≤ length sets.holds + op_holds → RefusesWrite sets new k why v w → IsOpCause op sets why v w
write_cause op sets new k (refusals.Conflict at expected seen) v w may grows r = record {
  draws = r.2;
  touched = untouched (op ∷ []) v w r.5;
  cause = elim r.3 [
    | inl pointer ↦ record {
      spot = OfWay k;
      key = written_at op k may;
      place = inl pointer.1;
      cause = pointer.0.cause;
      blamed = r.4 ∙ sym (append-nil v.blamed);
    }
    | inr slot ↦ slot_conflict op k may at expected seen v w slot r.4
  ];
}
write_cause op sets new k (refusals.Full told) v w may grows r = record {
  draws = r.2;
  touched = untouched (op ∷ []) v w r.4;
  cause = full_of op k told v w may r.3;
}
write_cause op sets new k (refusals.Wide set) v w may grows r = record {
  draws = r.1;
  touched = untouched (op ∷ []) v w r.3;
  cause = elim r.2 [
    | inl writes ↦ wide_as v.layout.decls op sets names.Writes set writes.0 (writes_wide v.layout.decls op sets
        (let full = writes.1 in omega (arith, full)))
    | inr holds ↦ wide_as v.layout.decls op sets names.Holds set holds.1
        (holds_wide v.layout.decls op sets new holds.2 grows)
  ];
}
write_cause op sets new k (refusals.NumberLimit clock) v w may grows r = absurd r

-- an addition or a subtraction may write its key
alter_cause : (op : Op) (sets new : Sets) (k : Key) (why : RefusalCause) (v w : View) → IsOfKey op k → MayWrite op k
    → is_array v.layout.decls k.storage ≡ true → length new.holds ≤ length sets.holds + op_holds
    → RefusesAlter sets new k why v w → IsOpCause op sets why v w
alter_cause op sets new k why v w of may array grows (inl r) = write_cause op sets new k why v w may grows r
alter_cause op sets new k why v w of may array grows (inr r) = read_cause op sets new k why v w of array grows r.1

pub alters_caused : (r : Result Verdict RefusalCause) (op : Op) (sets new : Sets) (k : Key) (v w : View) → IsOfKey op k
    → MayWrite op k → is_array v.layout.decls k.storage ≡ true → length new.holds ≤ length sets.holds + op_holds
    → IfErr r (λ why. RefusesAlter sets new k why v w) → IfErr r (λ why. IsOpCause op sets why v w)
alters_caused (Ok verdict) op sets new k v w of may array grows a = tt
alters_caused (Err why) op sets new k v w of may array grows a =
    alter_cause op sets new k why v w of may array grows a

-- ---- words of trees

pub pointer_word : (v : View) (x : At) (sp : Span) (at : ℕ) → AreDecls v.layout.decls → IsPointerAt v x sp at
    → IsPageWord v.layout at
pointer_word v (Root r) sp at are is =
    let few = are.few in let less = is.0 in let place = is.2 in inl (omega (arith, few, less, place))
pointer_word v (In y) sp at are (inl child) = inr (y.slot, y.index, child.word)
pointer_word v (In y) sp at are (inr branch) = inr (y.slot, 4 + y.index, branch.word)

pub met_word : (v : View) (k : Key) (at : ℕ) → AreDecls v.layout.decls → IsTreePointerOver v k at
    → IsPageWord v.layout at
met_word v k at are over = pointer_word v over.place over.span at are over.is

pub header_word : (v : View) (k : Key) (at : ℕ) → IsHeaderOver v k at → IsInPage v.layout at
header_word v k at over = (over.way.slot, 0, over.word)

pub record_word : (v : View) (k : Key) (at : ℕ) → IsTreeKeyIn (ground v) k at → IsInPage v.layout at
record_word v k at here =
    (slot_of v.layout.slots at, word_in tree_leaf (tree_spot v.layout.slots at).index, here.word)

-- a conflict at a pointer, for a key of a tree
pointer_conflict : (op : Op) (k : Key) (at expected seen : ℕ) (v w : View) → IsOfKey op k
    → is_tree v.layout.decls k.storage ≡ true → IsPageWord v.layout at → IsChangedAt (OfWay k) expected seen
    → w.blamed ≡ v.blamed → IsOpConflict op at expected seen v w
pointer_conflict op k at expected seen v w of tree word changed blamed = record {
  spot = OfWay k;
  key = of;
  place = inr (tree, word);
  cause = changed;
  blamed = blamed ∙ sym (append-nil v.blamed);
}

-- and at a word of a leaf
leaf_conflict : (op : Op) (k : Key) (at expected seen : ℕ) (v w : View) → IsOfKey op k
    → is_tree v.layout.decls k.storage ≡ true → IsInPage v.layout at → IsChangedAt (OfLeaf k) expected seen
    → w.blamed ≡ v.blamed → IsOpConflict op at expected seen v w
leaf_conflict op k at expected seen v w of tree word changed blamed = record {
  spot = OfLeaf k;
  key = of;
  place = (tree, word);
  cause = changed;
  blamed = blamed ∙ sym (append-nil v.blamed);
}

walked_layout : (v u : View) → OnlyWalked v u → u.layout ≡ v.layout
walked_layout v u only = ap (λ (x : View). x.layout) only.is

-- as the pass knew pages by then
word_before : (v u : View) (at : ℕ) → OnlyWalked v u → IsPageWord u.layout at → IsPageWord v.layout at
word_before v u at only word = subst (λ (l : Layout). IsPageWord l at) (walked_layout v u only) word

page_before : (v u : View) (at : ℕ) → OnlyWalked v u → IsInPage u.layout at → IsInPage v.layout at
page_before v u at only word = subst (λ (l : Layout). IsInPage l at) (walked_layout v u only) word

decls_then : (v u : View) → OnlyWalked v u → AreDecls v.layout.decls → AreDecls u.layout.decls
decls_then v u only are = subst (λ (l : Layout). AreDecls l.decls) (sym (walked_layout v u only)) are

word_conflict : (op : Op) (sets : Sets) (k : Key) (at expected seen : ℕ) (v w : View) → IsOfKey op k
    → AreDecls v.layout.decls → is_tree v.layout.decls k.storage ≡ true → IsWordConflict sets k at expected seen v w
    → w.blamed ≡ v.blamed → IsOpConflict op at expected seen v w
word_conflict op sets k at expected seen v w of are tree (u, only, met) blamed = elim met [
  | inl pointer ↦ pointer_conflict op k at expected seen v w of tree
      (word_before v u at only (met_word u k at (decls_then v u only are) pointer.1)) pointer.0.cause blamed
  | inr other ↦ elim other [
    | inl header ↦ leaf_conflict op k at expected seen v w of tree
        (page_before v u at only (header_word u k at header.1)) header.0.cause blamed
    | inr here ↦ leaf_conflict op k at expected seen v w of tree
        (page_before v u at only (record_word u k at here.1)) here.0.cause blamed
  ]
]

grow_conflict : (op : Op) (sets : Sets) (k : Key) (at expected seen : ℕ) (v w : View) → IsOfKey op k
    → AreDecls v.layout.decls → is_tree v.layout.decls k.storage ≡ true → IsGrowConflict sets k at expected seen v w
    → w.blamed ≡ v.blamed → IsOpConflict op at expected seen v w
grow_conflict op sets k at expected seen v w of are tree (u, only, met) blamed = elim met [
  | inl pointer ↦ pointer_conflict op k at expected seen v w of tree
      (word_before v u at only (met_word u k at (decls_then v u only are) pointer.1)) pointer.0.cause blamed
  | inr other ↦ elim other [
    | inl header ↦ leaf_conflict op k at expected seen v w of tree
        (page_before v u at only (header_word u k at header.1)) header.0.cause blamed
    | inr here ↦ leaf_conflict op k at expected seen v w of tree
        (page_before v u at only (record_word u here.key at here.place)) here.cause blamed
  ]
]

-- ---- on trees

pub tree_read_cause : (op : Op) (sets new : Sets) (k : Key) (why : RefusalCause) (v w : View) → IsOfKey op k
    → AreDecls v.layout.decls → is_tree v.layout.decls k.storage ≡ true → IsOnTree v.layout.decls op
    → RefusesTreeRead sets new k why v w → IsOpCause op sets why v w
tree_read_cause op sets new k (refusals.Conflict at expected seen) v w of are tree on r = record {
  draws = r.2;
  touched = untouched (op ∷ []) v w r.5;
  cause = word_conflict op sets k at expected seen v w of are tree r.3 r.4;
}
tree_read_cause op sets new k (refusals.Full told) v w of are tree on r = absurd r
tree_read_cause op sets new k (refusals.Wide set) v w of are tree on r = record {
  draws = r.2;
  touched = untouched (op ∷ []) v w r.4;
  cause = elim r.3 [
    | inl reads ↦ wide_as v.layout.decls op sets names.Reads set reads.0 (reads_wide v.layout.decls op sets
        (let full = reads.1 in omega (arith, full)))
    | inr other ↦ elim other [
      | inl holds ↦ wide_as v.layout.decls op sets names.Holds set holds.0 (inl on)
      | inr pointers ↦ wide_as v.layout.decls op sets names.Pointers set pointers.0
          (pointers_wide v.layout.decls op sets pointers.1)
    ]
  ];
}
tree_read_cause op sets new k (refusals.NumberLimit clock) v w of are tree on r = absurd r

-- a write, behind a read of the key or not
tree_write_since : (op : Op) (first sets new : Sets) (k : Key) (why : RefusalCause) (v w : View) → MayWrite op k
    → AreDecls v.layout.decls → is_tree v.layout.decls k.storage ≡ true → IsOnTree v.layout.decls op
    → IsLittleMore first sets → RefusesTreeWrite sets new k why v w → IsOpCause op first why v w
tree_write_since op first sets new k (refusals.Conflict at expected seen) v w may are tree on few r = record {
  draws = r.2;
  touched = trees_locked op k v w may tree r.5;
  cause = elim r.3 [
    | inl grow ↦ grow_conflict op sets k at expected seen v w (written_at op k may) are tree grow r.4
    | inr slot ↦ slot_conflict op k may at expected seen v w slot r.4
  ];
}
tree_write_since op first sets new k (refusals.Full told) v w may are tree on few r = record {
  draws = r.2;
  touched = trees_locked op k v w may tree r.5;
  cause = full_of op k told v w may r.3;
}
tree_write_since op first sets new k (refusals.Wide set) v w may are tree on few r = record {
  draws = r.1;
  touched = untouched (op ∷ []) v w r.4;
  cause = elim r.2 [
    | inl writes ↦ wide_as v.layout.decls op first names.Writes set writes.0 (writes_wide v.layout.decls op first
        (let full = writes.1 in omega (arith, full, few.writes)))
    | inr other ↦ elim other.1 [
      | inl holds ↦ wide_as v.layout.decls op first names.Holds set holds.0 (inl on)
      | inr reads ↦ wide_as v.layout.decls op first names.Reads set reads.0 (reads_wide v.layout.decls op first
          (let full = reads.1 in omega (arith, full, few.reads)))
    ]
  ];
}
tree_write_since op first sets new k (refusals.NumberLimit clock) v w may are tree on few r = absurd r

pub tree_write_cause : (op : Op) (sets new : Sets) (k : Key) (why : RefusalCause) (v w : View) → MayWrite op k
    → AreDecls v.layout.decls → is_tree v.layout.decls k.storage ≡ true → IsOnTree v.layout.decls op
    → RefusesTreeWrite sets new k why v w → IsOpCause op sets why v w
tree_write_cause op sets new k why v w may are tree on r =
    tree_write_since op sets sets new k why v w may are tree on (no_more sets) r

-- ---- behind walks

-- the same conflict since before
pub conflict_since : (op : Op) (at expected seen : ℕ) (v u w : View) → OnlyWalked v u
    → IsOpConflict op at expected seen u w → IsOpConflict op at expected seen v w
conflict_since op at expected seen v u w only c = record {
  spot = c.spot;
  key = c.key;
  place = subst (λ (l : Layout). IsAtSpot l c.spot at) (walked_layout v u only) c.place;
  cause = c.cause;
  blamed = c.blamed ∙ ap (λ (x : View). x.blamed ++ blame_at (seat_number x.role) c.spot) only.is;
}

pub full_since : (op : Op) (told : Option (ℕ × ℕ)) (v u w : View) → OnlyWalked v u → IsOpFull op told u w
    → IsOpFull op told v w
full_since op told v u w only c = record {
  key = c.key;
  writes = c.writes;
  words = c.words;
  all = record {
    count = c.all.count ∙ ap (λ (l : Layout). l.slots) (walked_layout v u only);
    taken = c.all.taken;
    step = c.all.step;
    since = let first = only.since in let later = c.all.since in omega (arith, first, later);
    looked = c.all.looked;
  };
  told_is = c.told_is;
}

-- an operation on a tree was refused behind walks of its own
pub cause_since : (op : Op) (sets : Sets) (why : RefusalCause) (v u w : View) → OnlyWalked v u
    → TouchesOnly (op ∷ []) v u → IsOpCause op sets why u w → IsOpCause op sets why v w
cause_since op sets why v u w only touches c = record {
  draws = c.draws ∙ ap (λ (x : View). x.draws) only.is;
  touched = touches_then (op ∷ []) v u w (walked_layout v u only) (ap (λ (x : View). x.role) only.is) touches c.touched;
  cause = by_why why c.cause;
}
  where
    by_why : (y : RefusalCause) → IsOpWhy op sets y u w → IsOpWhy op sets y v w
    by_why (refusals.Conflict at expected seen) c = conflict_since op at expected seen v u w only c
    by_why (refusals.Full told) c = full_since op told v u w only c
    by_why (refusals.Wide set) c = subst (λ (l : Layout). IsOpWide l.decls op sets set) (walked_layout v u only) c
    by_why (refusals.NumberLimit clock) c = absurd c

-- an addition, a subtraction or a removal in a tree
pub tree_alter_cause : (op : Op) (sets new : Sets) (k : Key) (why : RefusalCause) (v w : View) → IsOfKey op k
    → MayWrite op k → AreDecls v.layout.decls → is_tree v.layout.decls k.storage ≡ true → IsOnTree v.layout.decls op
    → RefusesTreeAlter sets new k why v w → IsOpCause op sets why v w
tree_alter_cause op sets new k why v w of may are tree on (inl r) =
    tree_write_cause op sets new k why v w may are tree on r
tree_alter_cause op sets new k why v w of may are tree on (inr (inl r)) =
    tree_read_cause op sets new k why v w of are tree on r.1
tree_alter_cause op sets new k why v w of may are tree on (inr (inr r)) =
    let b = r.1 in
    let same = walked_layout v b.then b.walked in
    cause_since op sets why v b.then w b.walked (trees_locked op k v b.then may tree b.walked.touches)
    (tree_write_since op sets b.sets new k why b.then w may (decls_then v b.then b.walked are)
    (subst (λ (l : Layout). is_tree l.decls k.storage ≡ true) (sym same) tree)
    (subst (λ (l : Layout). IsOnTree l.decls op) (sym same) on) (behind_read sets new k why v w b) b.cause)

pub tree_writes_caused : (r : Result ⊤ RefusalCause) (op : Op) (sets new : Sets) (k : Key) (v w : View)
    → MayWrite op k → AreDecls v.layout.decls → is_tree v.layout.decls k.storage ≡ true → IsOnTree v.layout.decls op
    → IfErr r (λ why. RefusesTreeWrite sets new k why v w) → IfErr r (λ why. IsOpCause op sets why v w)
tree_writes_caused (Ok x) op sets new k v w may are tree on a = tt
tree_writes_caused (Err why) op sets new k v w may are tree on a =
    tree_write_cause op sets new k why v w may are tree on a

pub tree_alters_caused : (r : Result Verdict RefusalCause) (op : Op) (sets new : Sets) (k : Key) (v w : View)
    → IsOfKey op k → MayWrite op k → AreDecls v.layout.decls → is_tree v.layout.decls k.storage ≡ true
    → IsOnTree v.layout.decls op → IfErr r (λ why. RefusesTreeAlter sets new k why v w)
    → IfErr r (λ why. IsOpCause op sets why v w)
tree_alters_caused (Ok verdict) op sets new k v w of may are tree on a = tt
tree_alters_caused (Err why) op sets new k v w of may are tree on a =
    tree_alter_cause op sets new k why v w of may are tree on a

-- ---- scans

-- the key of the storage with this number
abbrev key_in : ℕ → ℕ → Key
key_in storage n = record { storage = storage; key = n }

-- if it is from the low to the high one it is in the range
in_range : (storage low high n : ℕ) → low ≤ n → n ≤ high → is_within storage low high (key_in storage n) ≡ true
in_range storage low high n from to = grind (arith, nat_tests)

pub scan_cause : (storage low high : ℕ) (sets new : Sets) (why : RefusalCause) (v w : View) → AreDecls v.layout.decls
    → is_tree v.layout.decls storage ≡ true → IsOnTree v.layout.decls (Scan storage low high)
    → RefusesScan sets new storage low high why v w → IsOpCause (Scan storage low high) sets why v w
scan_cause storage low high sets new (refusals.Conflict at expected seen) v w are tree on r = record {
  draws = r.draws;
  touched = untouched (Scan storage low high ∷ []) v w r.touched;
  cause = let c = r.cause in
      word_conflict (Scan storage low high) new (key_in storage r.key) at expected seen v w
      (in_range storage low high r.key r.from r.to) are tree c.0 c.1;
}
scan_cause storage low high sets new (refusals.Full told) v w are tree on r = absurd r.cause
scan_cause storage low high sets new (refusals.Wide set) v w are tree on r = record {
  draws = r.draws;
  touched = untouched (Scan storage low high ∷ []) v w r.touched;
  cause = elim r.cause [
    | inl reads ↦ wide_as v.layout.decls (Scan storage low high) sets names.Reads set reads.0 (inl on)
    | inr other ↦ elim other [
      | inl holds ↦ wide_as v.layout.decls (Scan storage low high) sets names.Holds set holds.0 (inl on)
      | inr pointers ↦ wide_as v.layout.decls (Scan storage low high) sets names.Pointers set pointers.0 (inl on)
    ]
  ];
}
scan_cause storage low high sets new (refusals.NumberLimit clock) v w are tree on r = absurd r.cause
