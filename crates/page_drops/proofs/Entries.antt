-- What the pass knows of words that it met, behind one more.
use Rattle.std.proofs.Common.{◌≡◌, ◌≢◌, ℕ, ◌+◌, ◌*◌, ◌<◌, ◌≤◌, ◌^◌, Bool, true, false, cond, eqb, eqb-true, eq-eqb, ne_eqb}
use Rattle.std.proofs.Common.{not, filter, List, [], ◌∷◌, ◌++◌, Option, Some, None, refl, sym, ap, ◌∙◌, subst, arith}
use Rattle.std.specs.Prelude.{MatchBool, nat_lt}
use Rattle.std.specs.List.{find}
use Rattle.std.specs.Option.{option_map}
use Rattle.serial_model.specs.declared.key.Key.{Key}
use Rattle.homes.specs.declared.places.Spot.{Spot}
use Rattle.engine_pages.specs.declared.layout.Layout.{Layout}
use Rattle.engine_pages.specs.declared.view.KeptWhy.{KeptWhy}
use Rattle.engine_pages.specs.declared.view.KeptWhy.TheVariants.{Locked, Unlike, UnlikeAt, Under, Changed, Long}
use Rattle.engine_pages.specs.declared.view.Read.{Read}
use Rattle.engine_pages.specs.declared.view.View.{View}
use Rattle.engine_pages.specs.Layout.{page_at}
use Rattle.engine_pages.specs.Steps.{kept_at, noted as noted_read, read_at, seen_at, with_read}
use Rattle.page_records.specs.Locks.{Locked as HasLocked, lock_bit, locked, opened}
use Rattle.page_records.specs.Reads.{Confirmed, Saw, SawFree, valued}
use Rattle.page_drops.specs.declared.noting.Kept.{Kept}
use Rattle.page_drops.specs.Leaves.{KeepsSeen, KeepsSeenBut}
use Rattle.page_drops.specs.Works.{read_of, HasGlanced, IsLeafCause, IsNoted, IsOutside, IsSeenStill, KeepsReads, KeepsReadsBut}
use Rattle.page_drops.specs.Works.{TellsAbove}

-- ---- entries

-- the entry of a word that was met, with what was known of it before
abbrev pub entry_of : List Read → ℕ → ℕ → Option ℕ → Read
entry_of reads word n kept = record { word = word; seen = n; was = seen_at reads word; kept = kept }

found_last : (reads : List Read) (e : Read) (word : ℕ) → eqb e.word word ≡ true
    → find (λ (r : Read). eqb r.word word) (filter (λ (r : Read). not (eqb r.word word)) reads ++ e ∷ []) ≡ Some e
found_last [] e word is = ap (λ b. cond b (Some e) None) is
found_last (x ∷ reads) e word is = by_test (eqb x.word word) refl (found_last reads e word is)
  where
    by_test : (b : Bool) → eqb x.word word ≡ b
        → find (λ (r : Read). eqb r.word word) (filter (λ (r : Read). not (eqb r.word word)) reads ++ e ∷ []) ≡ Some e
        → find (λ (r : Read). eqb r.word word)
        (cond (not b) (x ∷ filter (λ (r : Read). not (eqb r.word word)) reads)
        (filter (λ (r : Read). not (eqb r.word word)) reads)
        ++ e ∷ []) ≡ Some e
    by_test true here rest = rest
    by_test false here rest =
        ap (λ b. cond b (Some x)
        (find (λ (r : Read). eqb r.word word) (filter (λ (r : Read). not (eqb r.word word)) reads ++ e ∷ []))) here
        ∙ rest

-- a word that was met has its entry
pub own_entry : (reads : List Read) (word n : ℕ) (kept : Option ℕ)
    → read_of (noted_read reads word n kept) word ≡ Some (entry_of reads word n kept)
own_entry reads word n kept = found_last reads (entry_of reads word n kept) word (eq-eqb word word refl)

-- what is found behind the same head
under_head : (b : Bool) (x : Read) (now was : Option Read) → now ≡ was → cond b (Some x) now ≡ cond b (Some x) was
under_head b x now was same = ap (λ o. cond b (Some x) o) same

found_other : (reads : List Read) (e : Read) (word other : ℕ) → eqb e.word other ≡ false → eqb word other ≡ false
    → find (λ (r : Read). eqb r.word other) (filter (λ (r : Read). not (eqb r.word word)) reads ++ e ∷ [])
    ≡ find (λ (r : Read). eqb r.word other) reads
found_other [] e word other not-last apart = ap (λ b. cond b (Some e) None) not-last
found_other (x ∷ reads) e word other not-last apart =
    by_test (eqb x.word word) refl (found_other reads e word other not-last apart)
  where
    by_test : (b : Bool) → eqb x.word word ≡ b
        → find (λ (r : Read). eqb r.word other) (filter (λ (r : Read). not (eqb r.word word)) reads ++ e ∷ [])
        ≡ find (λ (r : Read). eqb r.word other) reads
        → find (λ (r : Read). eqb r.word other)
        (cond (not b) (x ∷ filter (λ (r : Read). not (eqb r.word word)) reads)
        (filter (λ (r : Read). not (eqb r.word word)) reads)
        ++ e ∷ []) ≡ find (λ (r : Read). eqb r.word other) (x ∷ reads)
    by_test true here rest =
        rest
        ∙ sym (ap (λ b. cond b (Some x) (find (λ (r : Read). eqb r.word other) reads))
        (ap (λ i. eqb i other) (eqb-true x.word word here) ∙ apart))
    by_test false here rest =
        under_head (eqb x.word other) x
        (find (λ (r : Read). eqb r.word other) (filter (λ (r : Read). not (eqb r.word word)) reads ++ e ∷ []))
        (find (λ (r : Read). eqb r.word other) reads) rest

-- and the entries of others stay
pub other_entry : (reads : List Read) (word n : ℕ) (kept : Option ℕ) (other : ℕ) → (other ≡ word → ⊥)
    → read_of (noted_read reads word n kept) other ≡ read_of reads other
other_entry reads word n kept other apart =
    found_other reads (entry_of reads word n kept) word other (ne_eqb word other (λ e. apart (sym e)))
    (ne_eqb word other (λ e. apart (sym e)))

-- what was last seen or left of a word, by its entry
pub seen_of : (reads : List Read) (word : ℕ) (r : Read) → read_of reads word ≡ Some r → seen_at reads word ≡ Some r.seen
seen_of reads word r is = ap (λ o. option_map (λ (z : Read). z.seen) o) is

-- of two lists with one entry of a word
pub seen_same : (old new : List Read) (word : ℕ) → read_of new word ≡ read_of old word → seen_at new word ≡ seen_at old word
seen_same old new word same = ap (λ o. option_map (λ (z : Read). z.seen) o) same

-- ---- words outside of a slot's page

pub reads_self : (t : ℕ) (v : View) → KeepsReads t v v
reads_self t v word out = refl

-- where nothing was met
pub reads_same : (t : ℕ) (v w : View) → w.reads ≡ v.reads → KeepsReads t v w
reads_same t v w same word out = ap (λ list. read_of list word) same

pub reads_then : (t : ℕ) (u v w : View) → v.layout ≡ u.layout → KeepsReads t u v → KeepsReads t v w → KeepsReads t u w
reads_then t u v w same a b word out =
    b word (λ i few is. out i few (is ∙ ap (λ (l : Layout). page_at l.slots t i) same)) ∙ a word out

-- where the word that was met last stands in the page
pub reads_more : (t i at n : ℕ) (v u w : View) → i < 64 → at ≡ page_at v.layout.slots t i → KeepsReads t v u
    → w.reads ≡ with_read u.reads at n → KeepsReads t v w
reads_more t i at n v u w few place so is word out =
    ap (λ list. read_of list word) is
    ∙ (other_entry u.reads at n (kept_at u.reads at) word (λ same. out i few (same ∙ place)) ∙ so word out)

-- behind a note of a page that is kept
pub reads_noted : (t : ℕ) (k : Kept) (v u w : View) → KeepsReads t v u → IsNoted k u w → KeepsReads t v w
reads_noted t k v u w so told word out = ap (λ (z : View). read_of z.reads word) told.1 ∙ so word out

pub reads_glanced : (t : ℕ) (v w : View) → HasGlanced v w → KeepsReads t v w
reads_glanced t v w h = reads_same t v w (ap (λ (z : View). z.reads) h.is)

-- ---- of a leaf

-- a record's word and its value's stand in the page
record_word : (i : ℕ) → i < 32 → 2 * i < 64
record_word i few = omega (arith, few)

value_word : (i : ℕ) → i < 32 → 2 * i + 1 < 64
value_word i few = omega (arith, few)

value_at : (slots t i at : ℕ) → at ≡ page_at slots t (2 * i) → at + 1 ≡ page_at slots t (2 * i + 1)
value_at slots t i at place = omega (arith, place)

-- the first load meets the word, whether or not it is locked
pub saw_reads : (k : Key) (x : Spot) (at n : ℕ) (u w : View) → Saw k x at u n w → w.reads ≡ with_read u.reads at n
saw_reads k x at n u w h = by_test (nat_lt n (2 ^ 60)) h
  where
    by_test : (c : Bool) → MatchBool c (SawFree k x at u n w) (w ≡ read_at at n u) → w.reads ≡ with_read u.reads at n
    by_test true free = ap (λ (z : View). z.reads) free.is
    by_test false is = ap (λ (z : View). z.reads) is

pub reads_seen : (t i at n : ℕ) (k : Key) (x : Spot) (v u w : View) → i < 32 → at ≡ page_at v.layout.slots t (2 * i)
    → HasGlanced v u → Saw k x at u n w → KeepsReads t v w
reads_seen t i at n k x v u w few place glanced h =
    reads_more t (2 * i) at n v u w (record_word i few) place (reads_glanced t v u glanced) (saw_reads k x at n u w h)

pub reads_valued : (t i at n : ℕ) (k : Key) (x : Spot) (v u w : View) → i < 32 → at ≡ page_at v.layout.slots t (2 * i)
    → KeepsReads t v u → w ≡ valued k x (at + 1) n u → KeepsReads t v w
reads_valued t i at n k x v u w few place so is =
    reads_more t (2 * i + 1) (at + 1) n v u w (value_word i few) (value_at v.layout.slots t i at place) so
    (ap (λ (z : View). z.reads) is)

pub reads_confirmed : (t i at n : ℕ) (k : Key) (x : Spot) (v u w : View) → i < 32 → at ≡ page_at v.layout.slots t (2 * i)
    → KeepsReads t v u → Confirmed k x at u n w → KeepsReads t v w
reads_confirmed t i at n k x v u w few place so h =
    reads_more t (2 * i) at n v u w (record_word i few) place so (ap (λ (z : View). z.reads) h.is)

-- a try to lock meets or leaves the word
pub reads_locked : (t i at number found : ℕ) (k : Key) (x : Spot) (v u w : View) → i < 32
    → at ≡ page_at v.layout.slots t (2 * i) → HasGlanced v u → HasLocked k x at number u found w → KeepsReads t v w
reads_locked t i at number found k x v u w few place glanced h = by_test (eqb found number) h
  where
    by_test : (c : Bool) → MatchBool c (w ≡ locked k x at found u) (w ≡ read_at at found u) → KeepsReads t v w
    by_test true is =
        reads_more t (2 * i) at (found + lock_bit) v u w (record_word i few) place (reads_glanced t v u glanced)
        (ap (λ (z : View). z.reads) is)
    by_test false is =
        reads_more t (2 * i) at found v u w (record_word i few) place (reads_glanced t v u glanced)
        (ap (λ (z : View). z.reads) is)

pub reads_opened : (t i at number : ℕ) (k : Key) (v u w : View) → i < 32 → at ≡ page_at v.layout.slots t (2 * i)
    → HasGlanced v u → w ≡ opened k at number u → KeepsReads t v w
reads_opened t i at number k v u w few place glanced is =
    reads_more t (2 * i) at number v u w (record_word i few) place (reads_glanced t v u glanced)
    (ap (λ (z : View). z.reads) is)

-- ---- of the pointer above

-- its entry is as it was where the page was kept for a word of it
pub tells_leaf : (slots t word seen at : ℕ) (words : List ℕ) (why : KeptWhy) (v w : View)
    → IsLeafCause slots t words why word seen → read_of w.reads at ≡ read_of v.reads at → TellsAbove why at seen v w
tells_leaf slots t word seen at words Locked v w so same = same
tells_leaf slots t word seen at words Unlike v w so same = same
tells_leaf slots t word seen at words (UnlikeAt key) v w so same = same
tells_leaf slots t word seen at words Under v w so same = same
tells_leaf slots t word seen at words (Changed expected) v w so same = absurd so
tells_leaf slots t word seen at words Long v w so same = same

-- and says what was seen before where it was met as another
pub tells_changed : (t at word found : ℕ) (k : Kept) (v u w a z : View) → k ≡ record { word = at; seen = found; why = Changed word }
    → IsOutside v.layout.slots t at → seen_at v.reads at ≡ Some word → KeepsReads t v u → w ≡ read_at at found u → IsNoted k w a
    → a.layout ≡ v.layout → KeepsReads t a z → TellsAbove k.why at k.seen v z
tells_changed t at word found k v u w a z is out met so looked told same rest =
    subst (λ (y : Kept). TellsAbove y.why at y.seen v z) (sym is) (
      entry_of u.reads at found (kept_at u.reads at),
      rest at (λ i few here. out i few (here ∙ ap (λ (l : Layout). page_at l.slots t i) same))
          ∙ (ap (λ (y : View). read_of y.reads at) told.1
          ∙ (ap (λ (y : View). read_of y.reads at) looked ∙ own_entry u.reads at found (kept_at u.reads at))),
      refl,
      seen_same v.reads u.reads at (so at out) ∙ met,
    )

-- other words' entries stay behind a step on it, between work on the page
pub reads_around : (t at n : ℕ) (v u w a z : View) → KeepsReads t v u → w.reads ≡ with_read u.reads at n → a.reads ≡ w.reads
    → a.layout ≡ v.layout → KeepsReads t a z → KeepsReadsBut t at v z
reads_around t at n v u w a z so is kept same rest word other out =
    rest word (λ i few here. out i few (here ∙ ap (λ (l : Layout). page_at l.slots t i) same))
    ∙ (ap (λ list. read_of list word) (kept ∙ is)
    ∙ (other_entry u.reads at n (kept_at u.reads at) word other ∙ so word out))

pub reads_but : (t at : ℕ) (v w : View) → KeepsReads t v w → KeepsReadsBut t at v w
reads_but t at v w so word other out = so word out

-- ---- the word for which a page is kept

seen_last : (reads : List Read) (word n : ℕ) (kept : Option ℕ) → seen_at (noted_read reads word n kept) word ≡ Some n
seen_last reads word n kept =
    seen_of (noted_read reads word n kept) word (entry_of reads word n kept) (own_entry reads word n kept)

-- it was met last, and the note follows
pub still_noted : (at seen : ℕ) (why : KeptWhy) (k : Kept) (v u w : View) → k ≡ record { word = at; seen = seen; why = why }
    → u.reads ≡ with_read v.reads at seen → IsNoted k u w → IsSeenStill k w
still_noted at seen why k v u w is met told =
    subst (λ (y : Kept). seen_at w.reads y.word ≡ Some y.seen) (sym is)
    (ap (λ (z : View). seen_at z.reads at) told.1
    ∙ (ap (λ (list : List Read). seen_at list at) met ∙ seen_last v.reads at seen (kept_at v.reads at)))

-- a try to lock that found another word
pub missed_lock : (at number found : ℕ) (k : Key) (x : Spot) (u w : View) → found ≢ number
    → HasLocked k x at number u found w → w.reads ≡ with_read u.reads at found
missed_lock at number found k x u w other h =
    ap (λ (z : View). z.reads)
    (subst (λ c. MatchBool c (w ≡ locked k x at found u) (w ≡ read_at at found u)) (ne_eqb found number other) h)

-- a record that is opened is another word
pub still_opened : (t i at number : ℕ) (k : Key) (v u w : View) → at ≡ page_at v.layout.slots t (2 * i) → HasGlanced v u
    → w ≡ opened k at number u → KeepsSeenBut t i v w
still_opened t i at number k v u w place glanced is word apart =
    seen_same v.reads w.reads word
    (ap (λ (z : View). read_of z.reads word) is
    ∙ (other_entry u.reads at number (kept_at u.reads at) word (λ same. apart (same ∙ place))
    ∙ ap (λ (z : View). read_of z.reads word) glanced.is))

pub still_self : (t : ℕ) (v : View) → KeepsSeen t 0 v v
still_self t v word none = refl

-- so are more of them
pub still_next : (t n : ℕ) (v u w : View) → u.layout ≡ v.layout → KeepsSeen t n v u → KeepsSeenBut t n u w
    → KeepsSeen t (n + 1) v w
still_next t n v u w same before one word none =
    one word (λ is. none n (omega arith) (is ∙ ap (λ (l : Layout). page_at l.slots t (2 * n)) same))
    ∙ before word (λ i less. none i (omega (arith, less)))

pub still_most : (t n m : ℕ) (v w : View) → n ≤ m → KeepsSeen t n v w → KeepsSeen t m v w
still_most t n m v w most so word none = so word (λ i less. none i (omega (arith, less, most)))

other_record : (slots t i j : ℕ) → i < j → page_at slots t (2 * i) ≡ page_at slots t (2 * j) → ⊥
other_record slots t i j less same = omega (arith, less, same)

-- behind the opening of the records before it
pub still_behind : (t j : ℕ) (k : Kept) (u a z : View) → a.layout ≡ u.layout → k.word ≡ page_at u.layout.slots t (2 * j)
    → IsSeenStill k a → KeepsSeen t j a z → IsSeenStill k z
still_behind t j k u a z same word seen keeps =
    keeps k.word (λ i less is.
    other_record u.layout.slots t i j less (sym (is ∙ ap (λ (l : Layout). page_at l.slots t (2 * i)) same) ∙ word))
    ∙ seen

-- and of the pointer above, by its entry
pub still_above : (at word found : ℕ) (k : Kept) (v z : View) → k ≡ record { word = at; seen = found; why = Changed word }
    → TellsAbove k.why at k.seen v z → IsSeenStill k z
still_above at word found k v z is =
    subst (λ (y : Kept). TellsAbove y.why at y.seen v z → seen_at z.reads y.word ≡ Some y.seen) (sym is)
    (λ tells. seen_of z.reads at tells.0 tells.1 ∙ ap (λ (n : ℕ). let o : Option ℕ = Some n in o) tells.2)
