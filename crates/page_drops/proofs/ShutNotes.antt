-- What was read of an interior page's pointers as they are shut and opened.
use Rattle.std.proofs.Common.{◌≡◌, ◌≢◌, inl, inr, ℕ, ◌+◌, ◌-◌, ◌<◌, ◌≤◌, ◌^◌, List, Option, Some, get_or, refl, sym, ap, ◌∙◌}
use Rattle.std.proofs.Common.{subst, arith}
use Rattle.std.proofs.lemmas.Bool.{cases_lt}
use Rattle.homes.specs.declared.places.At.{At}
use Rattle.snapshot_store.specs.Places.{page as page_words}
use Rattle.engine_pages.specs.declared.view.KeptWhy.{KeptWhy}
use Rattle.engine_pages.specs.declared.view.KeptWhy.TheVariants.{Locked, Unlike, UnlikeAt, Under, Changed, Long}
use Rattle.engine_pages.specs.declared.view.Read.{Read}
use Rattle.engine_pages.specs.declared.view.View.{View}
use Rattle.engine_pages.specs.Layout.{page_at}
use Rattle.engine_pages.specs.Steps.{kept_at, seen_at, with_read}
use Rattle.engine_pages.proofs.Seats.{by_equal}
use Rattle.pointer_swings.specs.Shuts.{HasShut, reopened, shut_at}
use Rattle.page_drops.specs.declared.noting.Kept.{Kept}
use Rattle.page_drops.specs.Inner.{AreLaterNotes, AreShutNotes, FoundOther, HasReopened, IsInnerCause, IsLaterNote, IsShutNote}
use Rattle.page_drops.specs.Inner.{LeftOpen, LeftShut, WentOn}
use Rattle.page_drops.specs.Works.{read_of, IsNoted, IsOutside, KeepsReads, TellsAbove}
use Rattle.page_drops.proofs.Entries.{entry_of, other_entry, own_entry, reads_more, reads_then, seen_of, seen_same}
use Rattle.page_drops.proofs.Inners.{not_shut}

-- ---- words

-- two pointers of one page have two words
pub at_other : (slots t i j : ℕ) → i ≢ j → page_at slots t i ≡ page_at slots t j → ⊥
at_other slots t i j other same = other (omega (arith, same))

-- the entry of the word that was met last, and of another
pub met_last : (reads new : List Read) (at n : ℕ) → new ≡ with_read reads at n
    → read_of new at ≡ Some (entry_of reads at n (kept_at reads at))
met_last reads new at n is = ap (λ (list : List Read). read_of list at) is ∙ own_entry reads at n (kept_at reads at)

pub met_other : (reads new : List Read) (at n word : ℕ) → new ≡ with_read reads at n → (word ≡ at → ⊥)
    → read_of new word ≡ read_of reads word
met_other reads new at n word is apart =
    ap (λ (list : List Read). read_of list word) is ∙ other_entry reads at n (kept_at reads at) word apart

-- ---- the first pointers are shut

-- so many, and what was read of other words is as it was
pub record ReadsShut (t page n : ℕ) (v w : View) : Type 0 where
  pub each : AreShutNotes t page n v w
  pub others : (word : ℕ) → ((j : ℕ) → j < n → word ≡ page_at v.layout.slots t j → ⊥)
      → read_of w.reads word ≡ read_of v.reads word

pub none_shut : (t page : ℕ) (v : View) → ReadsShut t page 0 v v
none_shut t page v = record { each = λ j less. absurd (omega (arith, less)); others = λ word none. refl }

-- a word that was left so, in the terms of the view before
left_shut : (t page n : ℕ) (v u w : View) → WentOn v u → LeftShut t page n u w
    → w.reads ≡ with_read u.reads (page_at v.layout.slots t n) (get_or (page_words v.pages page) n 0 + 2 ^ 60)
left_shut t page n v u w went left =
    left
    ∙ ap (λ (z : View). with_read u.reads (page_at z.layout.slots t n) (get_or (page_words z.pages page) n 0 + 2 ^ 60)) went.shut

pub next_shut : (t page n : ℕ) (v u w : View) → WentOn v u → ReadsShut t page n v u → LeftShut t page n u w
    → ReadsShut t page (n + 1) v w
next_shut t page n v u w went so left =
    let at : ℕ = page_at v.layout.slots t n in
    let shut : ℕ = get_or (page_words v.pages page) n 0 + 2 ^ 60 in
    let is : w.reads ≡ with_read u.reads at shut = left_shut t page n v u w went left in record {
      each = λ j less.
          by_equal j n (λ i. i < n + 1
          → IsShutNote (seen_at v.reads (page_at v.layout.slots t i)) (get_or (page_words v.pages page) i 0)
          (read_of w.reads (page_at v.layout.slots t i)))
          (λ _. (
            entry_of u.reads at shut (kept_at u.reads at),
            met_last u.reads w.reads at shut is,
            refl,
            seen_same v.reads u.reads at
                (so.others at (λ i few same. at_other v.layout.slots t n i (λ e. absurd (omega (arith, e, few))) same)),
          ))
          (λ other low.
          subst (λ (o : Option Read). IsShutNote (seen_at v.reads (page_at v.layout.slots t j)) (get_or (page_words v.pages page) j 0) o)
          (sym (met_other u.reads w.reads at shut (page_at v.layout.slots t j) is (at_other v.layout.slots t j n other)))
          (so.each j (omega (arith, other, low))))
          less;
      others = λ word none.
          met_other u.reads w.reads at shut word is (none n (omega arith))
          ∙ so.others word (λ j less. none j (omega (arith, less)));
    }

-- words outside of the page are others
pub shut_keeps : (t page n : ℕ) (v w : View) → n ≤ 64 → ReadsShut t page n v w → KeepsReads t v w
shut_keeps t page n v w most so word out = so.others word (λ j less. out j (omega (arith, less, most)))

pub shut_at_end : (t page n m : ℕ) (v w : View) → n ≡ m → ReadsShut t page n v w → ReadsShut t page m v w
shut_at_end t page n m v w same so = subst (λ k. ReadsShut t page k v w) same so

-- ---- they are opened, the last one first

pub none_reopened : (t page m n : ℕ) (v : View) → n ≤ m → HasReopened t page m n v v
none_reopened t page m n v none =
    record { each = λ j low less. absurd (omega (arith, none, low, less)); others = λ word apart. refl }

left_open : (t page i : ℕ) (v u w : View) → WentOn v u → LeftOpen t page i u w
    → w.reads ≡ with_read u.reads (page_at v.layout.slots t i) (get_or (page_words v.pages page) i 0)
left_open t page i v u w went left =
    left ∙ ap (λ (z : View). with_read u.reads (page_at z.layout.slots t i) (get_or (page_words z.pages page) i 0)) went.shut

more_reopened : (t page i n : ℕ) (v u w : View) → WentOn v u → i < n → HasReopened t page (i + 1) n v u
    → LeftOpen t page i u w → HasReopened t page i n v w
more_reopened t page i n v u w went high so left =
    let at : ℕ = page_at v.layout.slots t i in
    let child : ℕ = get_or (page_words v.pages page) i 0 in
    let is : w.reads ≡ with_read u.reads at child = left_open t page i v u w went left in record {
      each = λ j low less.
          by_equal j i (λ k. i ≤ k → k < n → (r : Read) × (read_of w.reads (page_at v.layout.slots t k) ≡ Some r)
          × (r.seen ≡ get_or (page_words v.pages page) k 0) × (r.was ≡ seen_at v.reads (page_at v.layout.slots t k)))
          (λ _ _. (
            entry_of u.reads at child (kept_at u.reads at),
            met_last u.reads w.reads at child is,
            refl,
            seen_same v.reads u.reads at
                (so.others at (λ k more few same. at_other v.layout.slots t i k (λ e. absurd (omega (arith, e, more))) same)),
          ))
          (λ other at-least below.
          let old = so.each j (omega (arith, other, at-least)) below in (
            old.0,
            met_other u.reads w.reads at child (page_at v.layout.slots t j) is (at_other v.layout.slots t j i other) ∙ old.1,
            old.2,
            old.3,
          ))
          low less;
      others = λ word none.
          met_other u.reads w.reads at child word is (none i (omega arith) high)
          ∙ so.others word (λ j more less. none j (omega (arith, more)) less);
    }

-- one more, where the first that is open has this index
pub next_reopened : (t page i m k n : ℕ) (v u w : View) → WentOn v u → i < n → m ≡ i + 1 → i ≡ k
    → HasReopened t page m n v u → LeftOpen t page i u w → HasReopened t page k n v w
next_reopened t page i m k n v u w went high next same so left =
    subst (λ j. HasReopened t page j n v w) same
    (more_reopened t page i n v u w went high (subst (λ j. HasReopened t page j n v u) next so) left)

pub all_reopened : (t page m n : ℕ) (v w : View) → m ≡ 0 → HasReopened t page m n v w → HasReopened t page 0 n v w
all_reopened t page m n v w none so = subst (λ j. HasReopened t page j n v w) none so

pub reopened_keeps : (t page m n : ℕ) (v w : View) → n ≤ 64 → HasReopened t page m n v w → KeepsReads t v w
reopened_keeps t page m n v w most so word out = so.others word (λ j low less. out j (omega (arith, less, most)))

-- ---- both, one after the other

-- a pointer that was shut and opened
opened_again : (t page n j : ℕ) (v u a w : View) → WentOn v a → AreShutNotes t page n v u → j < n
    → read_of a.reads (page_at v.layout.slots t j) ≡ read_of u.reads (page_at v.layout.slots t j)
    → HasReopened t page 0 n a w
    → (r : Read) × (read_of w.reads (page_at v.layout.slots t j) ≡ Some r) × (r.seen ≡ get_or (page_words v.pages page) j 0)
    × (r.was ≡ Some (get_or (page_words v.pages page) j 0 + 2 ^ 60))
opened_again t page n j v u a w went shut less kept open-now =
    let was = shut j less in
    let now = open-now.each j (omega arith) less in
    let here : page_at a.layout.slots t j ≡ page_at v.layout.slots t j =
    ap (λ (z : View). page_at z.layout.slots t j) went.shut in (
      now.0,
      ap (λ k. read_of w.reads k) (sym here) ∙ now.1,
      now.2 ∙ ap (λ (z : View). get_or (page_words z.pages page) j 0) went.shut,
      now.3
          ∙ (ap (λ k. seen_at a.reads k) here
          ∙ (seen_of a.reads (page_at v.layout.slots t j) was.0 (kept ∙ was.1)
          ∙ ap (λ k. let o : Option ℕ = Some k in o) was.2)),
    )

-- what was read of a word as pointers of the page are opened
open_other : (t page n word : ℕ) (v a w : View) → WentOn v a → HasReopened t page 0 n a w
    → ((j : ℕ) → j < n → word ≡ page_at v.layout.slots t j → ⊥) → read_of w.reads word ≡ read_of a.reads word
open_other t page n word v a w went open-now none =
    open-now.others word
    (λ j low less same. none j less (same ∙ ap (λ (z : View). page_at z.layout.slots t j) went.shut))

found_word : (t i : ℕ) (k : Kept) (v u a : View) → WentOn v u → FoundOther t i k u a
    → a.reads ≡ with_read u.reads (page_at v.layout.slots t i) k.seen
found_word t i k v u a went found =
    found.reads ∙ ap (λ (z : View). with_read u.reads (page_at z.layout.slots t i) k.seen) went.shut

-- the page is kept for that word
found_at : (t i : ℕ) (k : Kept) (v u a : View) → WentOn v u → FoundOther t i k u a → k.word ≡ page_at v.layout.slots t i
found_at t i k v u a went found = found.word ∙ ap (λ (z : View). page_at z.layout.slots t i) went.shut

-- Of a page whose first pointers were shut, the next one found to be another, and the first ones opened: one of the first,
later_below : (t page i j : ℕ) (k : Kept) (v u a w : View) → WentOn v u → WentOn v a → ReadsShut t page i v u
    → FoundOther t i k u a → HasReopened t page 0 i a w → j < i
    → IsLaterNote k.word k.seen (page_at v.layout.slots t j) (get_or (page_words v.pages page) j 0)
    (seen_at v.reads (page_at v.layout.slots t j)) (read_of v.reads (page_at v.layout.slots t j))
    (read_of w.reads (page_at v.layout.slots t j))
later_below t page i j k v u a w went gone so found open-now less =
    let apart : page_at v.layout.slots t j ≡ page_at v.layout.slots t i → ⊥ =
    at_other v.layout.slots t j i (λ e. absurd (omega (arith, e, less))) in
    let o = opened_again t page i j v u a w gone so.each less
    (met_other u.reads a.reads (page_at v.layout.slots t i) k.seen (page_at v.layout.slots t j) (found_word t i k v u a went found)
    apart) open-now in
    inr (inr (o.0, o.1, o.2, o.3, λ same. apart (sym same ∙ found_at t i k v u a went found)))

-- that one,
later_here : (t page i : ℕ) (k : Kept) (v u a w : View) → WentOn v u → WentOn v a → ReadsShut t page i v u
    → FoundOther t i k u a → HasReopened t page 0 i a w
    → IsLaterNote k.word k.seen (page_at v.layout.slots t i) (get_or (page_words v.pages page) i 0)
    (seen_at v.reads (page_at v.layout.slots t i)) (read_of v.reads (page_at v.layout.slots t i))
    (read_of w.reads (page_at v.layout.slots t i))
later_here t page i k v u a w went gone so found open-now =
    let at : ℕ = page_at v.layout.slots t i in
    let none : (j : ℕ) → j < i → at ≡ page_at v.layout.slots t j → ⊥ =
    λ j less same. at_other v.layout.slots t i j (λ e. absurd (omega (arith, e, less))) same in
    inr (inl (
      entry_of u.reads at k.seen (kept_at u.reads at),
      open_other t page i at v a w gone open-now none
          ∙ met_last u.reads a.reads at k.seen (found_word t i k v u a went found),
      found_at t i k v u a went found,
      refl,
      seen_same v.reads u.reads at (so.others at none),
    ))

-- and one behind it
later_above : (t page i j : ℕ) (k : Kept) (v u a w : View) → WentOn v u → WentOn v a → ReadsShut t page i v u
    → FoundOther t i k u a → HasReopened t page 0 i a w → i < j
    → IsLaterNote k.word k.seen (page_at v.layout.slots t j) (get_or (page_words v.pages page) j 0)
    (seen_at v.reads (page_at v.layout.slots t j)) (read_of v.reads (page_at v.layout.slots t j))
    (read_of w.reads (page_at v.layout.slots t j))
later_above t page i j k v u a w went gone so found open-now above =
    let at : ℕ = page_at v.layout.slots t j in
    let none : (n : ℕ) → n < i → at ≡ page_at v.layout.slots t n → ⊥ =
    λ n less same. at_other v.layout.slots t j n (λ e. absurd (omega (arith, e, less, above))) same in
    let apart : at ≡ page_at v.layout.slots t i → ⊥ =
    at_other v.layout.slots t j i (λ e. absurd (omega (arith, e, above))) in
    inl (
      open_other t page i at v a w gone open-now none
          ∙ (met_other u.reads a.reads (page_at v.layout.slots t i) k.seen at (found_word t i k v u a went found) apart
          ∙ so.others at none),
      λ same. apart (sym same ∙ found_at t i k v u a went found),
    )

pub later_notes : (t page i : ℕ) (k : Kept) (v u a w : View) → WentOn v u → WentOn v a → ReadsShut t page i v u
    → FoundOther t i k u a → HasReopened t page 0 i a w → AreLaterNotes t page k v w
later_notes t page i k v u a w went gone so found open-now j few = elim (cases_lt j i) [
  | inl less ↦ later_below t page i j k v u a w went gone so found open-now less
  | inr most ↦
      by_equal j i (λ n.
      IsLaterNote k.word k.seen (page_at v.layout.slots t n) (get_or (page_words v.pages page) n 0)
      (seen_at v.reads (page_at v.layout.slots t n)) (read_of v.reads (page_at v.layout.slots t n))
      (read_of w.reads (page_at v.layout.slots t n)))
      (later_here t page i k v u a w went gone so found open-now)
      (λ other. later_above t page i j k v u a w went gone so found open-now (omega (arith, most, other)))
]

-- What was read of words elsewhere is as it was then.
pub found_keeps : (t page i : ℕ) (k : Kept) (v u a w : View) → i < 64 → WentOn v u → WentOn v a → ReadsShut t page i v u
    → FoundOther t i k u a → HasReopened t page 0 i a w → KeepsReads t v w
found_keeps t page i k v u a w few went gone so found open-now =
    let before : KeepsReads t v u = shut_keeps t page i v u (omega (arith, few)) so in
    let now : KeepsReads t v a = reads_more t i (page_at v.layout.slots t i) k.seen v u a few refl before (found_word t i k v u a went found) in
    reads_then t v a w (ap (λ (z : View). z.layout) gone.shut) now (reopened_keeps t page 0 i a w (omega (arith, few)) open-now)

-- ---- all are shut, and the pointer above is another or not

-- another: all were opened
pub later_all : (t page at found : ℕ) (k : Kept) (v u a w : View) → WentOn v a → IsOutside v.layout.slots t at
    → k.word ≡ at → AreShutNotes t page 64 v u → a.reads ≡ with_read u.reads at found → HasReopened t page 0 64 a w
    → AreLaterNotes t page k v w
later_all t page at found k v u a w went out word shut is open-now j few =
    let o = opened_again t page 64 j v u a w went shut few
    (met_other u.reads a.reads at found (page_at v.layout.slots t j) is (λ same. out j few (sym same))) open-now in
    inr (inr (o.0, o.1, o.2, o.3, λ same. out j few (sym word ∙ same)))

-- not: they stay shut
pub shut_behind : (t page at n : ℕ) (v u w : View) → IsOutside v.layout.slots t at → AreShutNotes t page 64 v u
    → w.reads ≡ with_read u.reads at n → AreShutNotes t page 64 v w
shut_behind t page at n v u w out shut is j few =
    subst (λ (o : Option Read). IsShutNote (seen_at v.reads (page_at v.layout.slots t j)) (get_or (page_words v.pages page) j 0) o)
    (sym (met_other u.reads w.reads at n (page_at v.layout.slots t j) is (λ same. out j few (sym same)))) (shut j few)

-- the entry of the pointer above is as it was where the page was kept for a word of it
pub tells_inner : (slots t word seen at : ℕ) (words : List ℕ) (why : KeptWhy) (v w : View)
    → IsInnerCause slots t words why word seen → read_of w.reads at ≡ read_of v.reads at → TellsAbove why at seen v w
tells_inner slots t word seen at words Locked v w so same = same
tells_inner slots t word seen at words Unlike v w so same = same
tells_inner slots t word seen at words (UnlikeAt key) v w so same = absurd so
tells_inner slots t word seen at words Under v w so same = same
tells_inner slots t word seen at words (Changed expected) v w so same = absurd so
tells_inner slots t word seen at words Long v w so same = absurd so

-- ---- of one step

pub left_now : (x : At) (t page j at n found : ℕ) (v u w : View) → w ≡ shut_at x at found u → u.reads ≡ v.reads
    → at ≡ page_at v.layout.slots t j → found ≡ n → n ≡ get_or (page_words v.pages page) j 0 → LeftShut t page j v w
left_now x t page j at n found v u w is reads word same child =
    ap (λ (z : View). z.reads) is
    ∙ (ap (λ (list : List Read). with_read list at (found + 2 ^ 60)) reads
    ∙ (ap (λ i. with_read v.reads i (found + 2 ^ 60)) word
    ∙ ap (λ i. with_read v.reads (page_at v.layout.slots t j) (i + 2 ^ 60)) (same ∙ child)))

pub found_now : (x : At) (t j at n found : ℕ) (why : KeptWhy) (v u w z : View) (k : Kept)
    → k ≡ record { word = at; seen = found; why = why } → u.reads ≡ v.reads → at ≡ page_at v.layout.slots t j → found ≢ n
    → HasShut x at n u found w → IsNoted k w z → FoundOther t j k v z
found_now x t j at n found why v u w z k is reads word other h told = record {
  word = ap (λ (y : Kept). y.word) is ∙ word;
  reads =
      ap (λ (y : View). y.reads) told.1
      ∙ (ap (λ (y : View). y.reads) (not_shut x at n found u w other h)
      ∙ (ap (λ (list : List Read). with_read list at found) reads
      ∙ (ap (λ i. with_read v.reads i found) word
      ∙ ap (λ (y : Kept). with_read v.reads (page_at v.layout.slots t j) y.seen) (sym is))));
}

pub open_now : (x : At) (t page j at n : ℕ) (v u w : View) → w ≡ reopened x at n u → u.reads ≡ v.reads
    → at ≡ page_at v.layout.slots t j → n ≡ get_or (page_words v.pages page) j 0 → LeftOpen t page j v w
open_now x t page j at n v u w is reads word child =
    ap (λ (z : View). z.reads) is
    ∙ (ap (λ (list : List Read). with_read list at n) reads
    ∙ (ap (λ i. with_read v.reads i n) word ∙ ap (λ i. with_read v.reads (page_at v.layout.slots t j) i) child))
