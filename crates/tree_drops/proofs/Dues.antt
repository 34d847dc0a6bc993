-- What a note of a page of a tree that is kept asks: somebody else's lock, or a change that was seen.
use Rattle.std.proofs.Common.{◌≡◌, ◌≢◌, inl, inr, ℕ, ◌+◌, ◌*◌, ◌<◌, ◌^◌, Bool, true, false, cond, List, []}
use Rattle.std.proofs.Common.{eq-eqb, Some, Option, true≢false, refl, sym, ap, ◌∙◌, subst, arith}
use Rattle.std.specs.Prelude.{MatchBool, nat_lt}
use Rattle.std.specs.List.{Contains}
use Rattle.serial_model.specs.declared.key.Key.{Key}
use Rattle.homes.specs.declared.places.At.{At}
use Rattle.homes.specs.declared.places.At.TheVariants.{In, Root}
use Rattle.homes.specs.declared.places.Span.{Span}
use Rattle.homes.specs.declared.places.Spot.{Spot}
use Rattle.homes.specs.Laws.{in_span-parts}
use Rattle.drop_core.specs.Table.{at_index, has_slot}
use Rattle.engine_pages.specs.declared.layout.Layout.{Layout}
use Rattle.engine_pages.specs.declared.view.Head.{Head}
use Rattle.engine_pages.specs.declared.view.Moved.{Moved}
use Rattle.engine_pages.specs.declared.view.Read.{Read}
use Rattle.engine_pages.specs.declared.view.Shut.{Shut}
use Rattle.engine_pages.specs.declared.view.Took.{Took}
use Rattle.engine_pages.specs.declared.view.View.{View}
use Rattle.engine_pages.specs.Layout.{page_at}
use Rattle.engine_pages.specs.Pages.{decl_of, is_array, is_tree, part_between}
use Rattle.engine_pages.specs.Pointers.{one_kind}
use Rattle.engine_pages.specs.Steps.{kept_at, read_at, seen_at, with_read}
use Rattle.engine_pages.specs.Words.{spot}
use Rattle.page_records.specs.Locks.{took_at}
use Rattle.tree_heads.specs.Headers.{HasChildren, HasHeader, HasTwins, Headed, IsUnmoved, kind_of, moved_bit}
use Rattle.page_drops.specs.Calls.{IsBare}
use Rattle.page_drops.specs.Works.{locked_at, read_of, HasGlanced, IsForeign, IsKeyDue}
use Rattle.page_drops.proofs.Dues.{no_more}
use Rattle.page_drops.proofs.Entries.{entry_of, other_entry, own_entry, seen_of, seen_same}
use Rattle.page_drops.proofs.Holds.{Looked}
use Rattle.tree_drops.specs.Branches.{AtBranch, OnlyGoes}
use Rattle.tree_drops.specs.Leaves.{AreKeys, AreLocked, AtTree, CanDropFrom, IsKeyOf, IsUntaken}
use Rattle.tree_drops.specs.Visits.{CanVisit}
use Rattle.tree_drops.specs.Works.{IsSeenAt, KeepsHead, OnlyLooks}
use Rattle.tree_drops.proofs.KeyLists.{has_at}
use Rattle.tree_drops.proofs.Parts.{branch_here, branch_on}
use Rattle.tree_drops.proofs.TreeHolds.{place_in}
use Rattle.tree_drops.proofs.Works.{key_worked}

-- ---- a record

-- it is none of those before it, which the pass has locked
pub row_apart : (t page n count : ℕ) (sp : Span) (keys : List Key) (v : View) → AtTree t sp page v → AreKeys sp count keys
    → AreLocked t sp page n keys v → (x : Took) → Contains v.took x → page_at v.layout.slots t (17 + 3 * n) ≢ locked_at v x
row_apart t page n count sp keys v at are locked x has same =
    let m = locked.mine x has in
    let inside = in_span-parts sp x.key (are.inside x.key (has_at keys m.0 x.key m.2)) in
    by_kind (is_array v.layout.decls x.key.storage) refl
    (ap (λ (s : ℕ). is_tree v.layout.decls s) inside.0 ∙ at.over.tree) m.0 m.1
    (same
    ∙ ap (λ (s : Spot). page_at v.layout.slots s.slot (cond (is_array v.layout.decls x.key.storage) (2 * s.index) (17 + 3 * s.index)))
    m.3)
  where
    by_kind : (c : Bool) → is_array v.layout.decls x.key.storage ≡ c → is_tree v.layout.decls x.key.storage ≡ true
        → (i : ℕ) → i < n → page_at v.layout.slots t (17 + 3 * n) ≡ page_at v.layout.slots t (cond c (2 * i) (17 + 3 * i)) → ⊥
    by_kind true array tree i less one = one_kind (decl_of v.layout.decls x.key.storage) array tree
    by_kind false array tree i less one = omega (arith, less, one)

-- so it is untaken
pub row_untaken : (x : At) (sp : Span) (at t page word epoch count n : ℕ) (v u : View)
    → CanDropFrom x sp at t page word epoch count n v → OnlyLooks v u → IsUntaken t n u
row_untaken x sp at t page word epoch count n v u can only = record {
  records = λ y has.
      subst (λ (z : View). page_at z.layout.slots t (17 + 3 * n) ≢ locked_at z y) (sym only.looks.works.worked)
      (row_apart t page n count sp can.head.keys v can.tree can.are can.locked y
      (subst (λ (l : List Took). Contains l y) only.looks.took has));
  shuts = ap (λ (z : View). z.shuts) only.looks.works.worked ∙ can.shuts;
  alive = λ y has slot. (
    can.head,
    subst (λ (l : List Head). Contains l can.head) (sym only.looks.heads) can.has,
    can.slot,
  );
}

-- where nothing is locked, each is
pub none_taken : (t i : ℕ) (v : View) → v.took ≡ [] → v.shuts ≡ [] → IsUnmoved v t → IsUntaken t i v
none_taken t i v took shuts whole = record {
  records = λ x has. absurd (no_more x v.took took has);
  shuts = shuts;
  alive = λ x has same. absurd (whole x has same);
}

-- behind a look, too
pub still_untaken : (t i : ℕ) (v u : View) → OnlyLooks v u → IsUntaken t i v → IsUntaken t i u
still_untaken t i v u only own = record {
  records = λ x has.
      subst (λ (z : View). page_at z.layout.slots t (17 + 3 * i) ≢ locked_at z x) (sym only.looks.works.worked)
      (own.records x (subst (λ (l : List Took). Contains l x) only.looks.took has));
  shuts = ap (λ (z : View). z.shuts) only.looks.works.worked ∙ own.shuts;
  alive = λ x has same.
      let h = own.alive x (subst (λ (l : List Moved). Contains l x) (ap (λ (z : View). z.moved) only.looks.works.worked) has) same in
      (h.0, subst (λ (l : List Head). Contains l h.0) (sym only.looks.heads) h.1, h.2);
}

-- a record's word is no header's
pub no_head : (slots t u i : ℕ) → i < 16 → page_at slots t (17 + 3 * i) ≡ page_at slots u 0 → ⊥
no_head slots t u i few same = omega (arith, few, same)

-- two words of records, in the same place
one_slot : (slots t u i j : ℕ) → i < 16 → j < 16 → page_at slots t (17 + 3 * i) ≡ page_at slots u (17 + 3 * j) → u ≡ t
one_slot slots t u i j few less same = omega (arith, few, less, same)

-- a lock of such a record is somebody else's
pub record_foreign : (t i at seen : ℕ) (v u : View) → OnlyLooks v u → i < 16 → at ≡ page_at v.layout.slots t (17 + 3 * i)
    → IsUntaken t i v → IsForeign u at seen
record_foreign t i at seen v u only few place own =
    let now = still_untaken t i v u only own in
    let here : at ≡ page_at u.layout.slots t (17 + 3 * i) =
    place ∙ sym (ap (λ (z : View). page_at z.layout.slots t (17 + 3 * i)) only.looks.works.worked) in record {
      records = λ x has same. now.records x has (sym here ∙ same);
      heads = λ x has same. no_head u.layout.slots t x.slot i few (sym here ∙ same);
      sealed = λ s has same. absurd (no_head u.layout.slots t s i few (sym here ∙ same));
      shuts = λ x has. absurd (no_more x u.shuts now.shuts has);
      alive = λ x j has less same.
          let slot : x.slot ≡ t = one_slot u.layout.slots t x.slot i j few less (sym here ∙ same) in
          let h = now.alive x has slot in inr (inr (h.0, h.1, h.2 ∙ sym slot));
    }

-- ---- a record that is unlike, at its key

-- where its word stands in a later view, by the slot of the leaf that is known
word_known : (t i at : ℕ) (sp : Span) (k : Key) (v u : View) → OnlyLooks v u → at ≡ page_at v.layout.slots t (17 + 3 * i)
    → (x : IsKeyOf t sp i k u) → at ≡ page_at u.layout.slots (x.leaf).slot (17 + 3 * i)
word_known t i at sp k v u only place x =
    place
    ∙ (ap (λ (l : Layout). page_at l.slots t (17 + 3 * i)) (sym (ap (λ (z : View). z.layout) only.looks.works.worked))
    ∙ ap (λ (s : ℕ). page_at u.layout.slots s (17 + 3 * i)) (sym x.slot))

-- by its word: the pass knows its key, and of no split of its leaf
pub word_due : (t i at : ℕ) (sp : Span) (k : Key) (v u : View) → OnlyLooks v u → i < 16 → at ≡ page_at v.layout.slots t (17 + 3 * i)
    → IsKeyOf t sp i k v → IsUntaken t i v → IsKeyDue u k at
word_due t i at sp k v u only few place x own =
    let y = key_worked t i sp k v u only.looks.works x in
    let now = still_untaken t i v u only own in inl record {
      leaf = y.leaf;
      has = y.has;
      index = i;
      few = few;
      at = y.at;
      place = inl (word_known t i at sp k v u only place y);
      alive = λ z has same. let h = now.alive z has (same ∙ y.slot) in inl (h.0, h.1, h.2 ∙ sym y.slot);
    }

-- by its value: the pass has locked the record
pub value_due : (t i at n : ℕ) (sp : Span) (k : Key) (v u : View) → OnlyLooks v u → i < 16 → at ≡ page_at v.layout.slots t (17 + 3 * i)
    → IsKeyOf t sp i k v → Contains v.took (took_at k (spot t i) n) → IsKeyDue u k (at + 1)
value_due t i at n sp k v u only few place x took =
    let y = key_worked t i sp k v u only.looks.works x in
    let here = word_known t i at sp k v u only place y in inl record {
      leaf = y.leaf;
      has = y.has;
      index = i;
      few = few;
      at = y.at;
      place = inr (omega (arith, here));
      alive = λ z has same. inr (
        took_at k (spot t i) n,
        subst (λ (l : List Took). Contains l (took_at k (spot t i) n)) (sym only.looks.took) took,
        ap (λ (s : ℕ). spot s i) (sym y.slot),
      );
    }

-- ---- a header, and the pointer that is gone over

-- of a leaf that wasn't split
pub header_foreign : (v : View) (t word seen : ℕ) → IsBare v → seen < 2 ^ 62 → word ≡ page_at v.layout.slots t 0
    → IsForeign v word seen
header_foreign v t word seen bare low place = record {
  records = λ x has. absurd (no_more x v.took bare.took has);
  heads = λ x has. absurd (no_more x v.heads bare.heads has);
  sealed = λ s has same. inl low;
  shuts = λ x has. absurd (no_more x v.shuts bare.shuts has);
  alive = λ x j has less same. absurd (no_head v.layout.slots x.slot t j less (sym same ∙ place));
}

-- none of a split leaf is locked while pointers are gone over
pub pointer_foreign : (epoch : ℕ) (x : At) (sp : Span) (at page n : ℕ) (was : Option ℕ) (v u : View)
    → CanVisit x sp at page epoch v → Looked at n was v.grip.holds v.ways v u → u.inners ≡ v.inners → IsForeign u at n
pointer_foreign epoch x sp at page n was v u can l inners =
    let went = (l.over).went in record {
      records = λ y has. absurd (no_more y u.took (ap (λ (z : View). z.took) went ∙ can.bare.took) has);
      heads = λ y has. absurd (no_more y u.heads (ap (λ (z : View). z.heads) went ∙ can.bare.heads) has);
      sealed = λ t has same.
          absurd (true≢false (sym has ∙ ap (λ (s : List ℕ). has_slot s t) (ap (λ (z : View). z.sealed) went ∙ can.unsealed)));
      shuts = λ y has. absurd (no_more y u.shuts (ap (λ (z : View). z.shuts) went ∙ can.bare.shuts) has);
      alive = λ y j has less same.
          inr (inl (
            x,
            sp,
            place_in x sp at v u l.over (λ z own. subst (λ ws. Contains ws z) (sym l.path) own) inners can.place,
          ));
    }

-- ---- a pointer of an interior page

abbrev index_of : At → ℕ
index_of (Root r) = 0
index_of (In y) = y.index

other_place : (t i j : ℕ) → j < i → at_index t i ≡ at_index t j → ⊥
other_place t i j less same = let one : i ≡ j = ap index_of same in omega (arith, less, one)

no_first : (slots t u i : ℕ) → i < 60 → page_at slots t (4 + i) ≡ page_at slots u 0 → ⊥
no_first slots t u i few same = omega (arith, few, same)

-- those before it are shut by the pass
pub branch_foreign : (t page count j at seen : ℕ) (sp part : Span) (u : View) (x : AtBranch t sp page count u) → j < count
    → j < 60 → part ≡ part_between sp (x.inner).separators j → at ≡ page_at u.layout.slots t (4 + j) → u.took ≡ []
    → ((z : Shut) → Contains u.shuts z → (i : ℕ) × (i < j) × (z.at ≡ at_index t i)) → IsForeign u at seen
branch_foreign t page count j at seen sp part u x less few span here took mine = record {
  records = λ y has. absurd (no_more y u.took took has);
  heads = λ y has same. no_first u.layout.slots t y.slot j few (sym here ∙ same);
  sealed = λ s has same. absurd (no_first u.layout.slots t s j few (sym here ∙ same));
  shuts = λ z has.
      let m = mine z has in (
        at_index t j,
        part,
        branch_here t page count j at sp part u x less span here,
        λ same. other_place t j m.0 m.1 (same ∙ m.2),
      );
  alive = λ y k has low same. inr (inl (at_index t j, part, branch_here t page count j at sp part u x less span here));
}

-- so it is behind a look
pub branch_shut : (t page count j at seen : ℕ) (sp part : Span) (v u : View) → OnlyGoes v u → (x : AtBranch t sp page count v)
    → j < count → j < 60 → part ≡ part_between sp (x.inner).separators j → at ≡ page_at v.layout.slots t (4 + j) → v.took ≡ []
    → ((z : Shut) → Contains v.shuts z → (i : ℕ) × (i < j) × (z.at ≡ at_index t i)) → IsForeign u at seen
branch_shut t page count j at seen sp part v u goes x less few span here took mine =
    branch_foreign t page count j at seen sp part u (branch_on t page count sp v u goes.on x) less few span
    (here ∙ sym (ap (λ (z : View). page_at z.layout.slots t (4 + j)) goes.on.shut))
    (ap (λ (z : View). z.took) goes.on.shut ∙ took) (λ z has. mine z (subst (λ (l : List Shut). Contains l z) goes.shuts has))

-- ---- what was last seen

-- of the word that was loaded
pub seen_read : (t i at n : ℕ) (b w : View) → at ≡ page_at b.layout.slots t i → w ≡ read_at at n b → IsSeenAt t i n w
seen_read t i at n b w place is =
    subst (λ (z : View). IsSeenAt t i n z) (sym is)
    (subst (λ (p : ℕ). seen_at (with_read b.reads at n) p ≡ Some n) place
    (seen_of (with_read b.reads at n) at (entry_of b.reads at n (kept_at b.reads at)) (own_entry b.reads at n (kept_at b.reads at))))

-- a record's load leaves the header's entry alone
pub head_read : (t i at n : ℕ) (v b w : View) → HasGlanced v b → i < 16 → at ≡ page_at v.layout.slots t (17 + 3 * i)
    → w ≡ read_at at n b → KeepsHead t v w
head_read t i at n v b w glanced few place is =
    ap (λ (z : View). read_of z.reads (page_at v.layout.slots t 0)) is
    ∙ (other_entry b.reads at n (kept_at b.reads at) (page_at v.layout.slots t 0)
    (λ same. no_head v.layout.slots t t i few (sym place ∙ sym same))
    ∙ ap (λ (z : View). read_of z.reads (page_at v.layout.slots t 0)) glanced.is)

pub head_self : (t : ℕ) (v : View) → KeepsHead t v v
head_self t v = refl

pub head_glanced : (t : ℕ) (v w : View) → HasGlanced v w → KeepsHead t v w
head_glanced t v w h = ap (λ (z : View). read_of z.reads (page_at v.layout.slots t 0)) h.is

pub head_then : (t : ℕ) (u v w : View) → v.layout ≡ u.layout → KeepsHead t u v → KeepsHead t v w → KeepsHead t u w
head_then t u v w layout a b =
    subst (λ (n : ℕ). read_of w.reads (page_at n t 0) ≡ read_of v.reads (page_at n t 0)) (ap (λ (l : Layout). l.slots) layout) b ∙ a

-- what was seen of the header stays
pub seen_head : (t n : ℕ) (v w : View) → w.layout ≡ v.layout → KeepsHead t v w → IsSeenAt t 0 n v → IsSeenAt t 0 n w
seen_head t n v w layout keeps seen =
    subst (λ (l : Layout). seen_at w.reads (page_at l.slots t 0) ≡ Some n) (sym layout)
    (seen_same v.reads w.reads (page_at v.layout.slots t 0) keeps ∙ seen)

-- where nothing was met
pub seen_on : (t i n : ℕ) (v w : View) → w.layout ≡ v.layout → w.reads ≡ v.reads → IsSeenAt t i n v → IsSeenAt t i n w
seen_on t i n v w layout reads seen =
    subst (λ (l : Layout). seen_at w.reads (page_at l.slots t i) ≡ Some n) (sym layout)
    (ap (λ (l : List Read). seen_at l (page_at v.layout.slots t i)) reads ∙ seen)

-- a header of a leaf that was loaded
pub headed_reads : (t at n : ℕ) (sp : Span) (v w : View) → kind_of n ≡ 1 → Headed t sp at v n w → w.reads ≡ with_read v.reads at n
headed_reads t at n sp v w one h =
    by_moved (nat_lt n moved_bit)
    (subst (λ (c : Bool). MatchBool c
    (MatchBool (nat_lt n moved_bit) (HasHeader t sp at v n w) (HasTwins t sp at v n w)) (HasChildren t at v n w))
    (eq-eqb (kind_of n) 1 one) h)
  where
    by_moved : (c : Bool) → MatchBool c (HasHeader t sp at v n w) (HasTwins t sp at v n w) → w.reads ≡ with_read v.reads at n
    by_moved true k = ap (λ (z : View). z.reads) k.is
    by_moved false k = ap (λ (z : View). z.reads) k.is

-- so it was seen
pub headed_seen : (t at n : ℕ) (sp : Span) (v w : View) → kind_of n ≡ 1 → at ≡ page_at v.layout.slots t 0 → w.layout ≡ v.layout
    → Headed t sp at v n w → IsSeenAt t 0 n w
headed_seen t at n sp v w one place layout h =
    subst (λ (l : Layout). seen_at w.reads (page_at l.slots t 0) ≡ Some n) (sym layout)
    (ap (λ (l : List Read). seen_at l (page_at v.layout.slots t 0)) (headed_reads t at n sp v w one h)
    ∙ subst (λ (p : ℕ). seen_at (with_read v.reads at n) p ≡ Some n) place
    (seen_of (with_read v.reads at n) at (entry_of v.reads at n (kept_at v.reads at)) (own_entry v.reads at n (kept_at v.reads at))))
