-- All records of a leaf, one after another.
use Rattle.std.proofs.Common.{◌≡◌, ◌≢◌, inl, inr, ℕ, zero, suc, ◌+◌, ◌*◌, ◌<◌, ◌≤◌, Bool, true, false, true≢false, eqb, eq-eqb, eqb-true, List, ◌∷◌}
use Rattle.std.proofs.Common.{get_or, refl, sym, ap, ◌∙◌, subst, arith, Some}
use Rattle.std.specs.Prelude.{Err, IfErr, Ok, OnOk, Result}
use Rattle.std.specs.List.{Contains, slice_get}
use Rattle.lists.specs.Elements.{in_cases, in_head, in_none, in_tail}
use Rattle.serial_model.specs.declared.key.Key.{Key}
use Rattle.homes.specs.declared.places.Span.{Span}
use Rattle.homes.specs.Homes.{has_key}
use Rattle.dual_pointer.specs.Installs.{tree_records}
use Rattle.snapshot_store.specs.Places.{page as page_words}
use Rattle.snapshot_store.specs.TreePages.{Record}
use Rattle.engine_pages.specs.declared.layout.Layout.{Layout}
use Rattle.engine_pages.specs.declared.view.KeptWhy.{KeptWhy}
use Rattle.engine_pages.specs.declared.view.KeptWhy.TheVariants.{UnlikeAt}
use Rattle.engine_pages.specs.declared.view.Read.{Read}
use Rattle.engine_pages.specs.declared.view.View.{View}
use Rattle.engine_pages.specs.Layout.{page_at}
use Rattle.engine_pages.specs.Steps.{seen_at}
use Rattle.page_drops.specs.declared.noting.Kept.{Kept}
use Rattle.page_drops.specs.Works.{HasGlanced, LacksKey}
use Rattle.tree_drops.specs.Leaves.{has_key_from, rest_of, CoversAll, HasCount, IsCauseAt, IsKeyLacking, IsKeyOf, IsKeyUnlike}
use Rattle.tree_drops.specs.Leaves.{IsLeafCause, IsSeenWhole, KeptForHeader, KnowsKeys}
use Rattle.tree_drops.specs.Works.{KeepsIt, OnlyLooks, WorksOn}
use Rattle.tree_drops.proofs.Founds.{record_at, rest_first}
use Rattle.tree_drops.proofs.Heads.{cause_back}
use Rattle.tree_drops.proofs.KeyLists.{here_from, next_from, none_from, other_keys}
use Rattle.tree_drops.proofs.Places.{key_is}
use Rattle.tree_drops.proofs.Works.{keeps_then, keys_worked, layout_worked, only_glanced}

-- ---- results

pub ok_map : (r : Result (Unit {0}) Kept) (P Q : Type 0) → (P → Q) → OnOk r P → OnOk r Q
ok_map (Ok u) P Q f h = f h
ok_map (Err k) P Q f h = h

pub err_map : (r : Result (Unit {0}) Kept) (P Q : Kept → Type 0) → ((k : Kept) → P k → Q k) → IfErr r P → IfErr r Q
err_map (Ok u) P Q f h = h
err_map (Err k) P Q f h = f k h

-- ---- keys

pub key_known : (t i count : ℕ) (sp : Span) (k : Key) (v : View) (x : KnowsKeys t sp count v) → slice_get (x.leaf).keys i ≡ Some k
    → k.storage ≡ sp.storage → IsKeyOf t sp i k v
key_known t i count sp k v x at storage = record { leaf = x.leaf; has = x.has; slot = x.slot; at = at; storage = storage }

pub count_on : (page n : ℕ) (sp : Span) (v w : View) → WorksOn v w → HasCount v.pages sp page n → HasCount w.pages sp page n
count_on page n sp v w works h = subst (λ ps. HasCount ps sp page n) (sym (ap (λ (z : View). z.pages) works.worked)) h

pub index_less : (i n : ℕ) → i ≤ n → i ≢ n → i < n
index_less zero zero most other = absurd (other refl)
index_less zero (suc n) most other = omega arith
index_less (suc i) zero most other = absurd (omega (arith, most))
index_less (suc i) (suc n) most other =
    let less = index_less i n (omega (arith, most)) (λ same. other (ap suc same)) in omega (arith, less)

-- ---- a key is searched

pub search_end : (t count i : ℕ) (sp : Span) (k : Key) (v : View) (x : KnowsKeys t sp count v) → i ≡ count
    → has_key_from (x.leaf).keys i k ≡ false
search_end t count i sp k v x end = none_from (x.leaf).keys i k (end ∙ sym x.are.long)

pub search_here : (t count i key : ℕ) (sp : Span) (here : Key) (v : View) (x : KnowsKeys t sp count v)
    → slice_get (x.leaf).keys i ≡ Some here → here.storage ≡ sp.storage → here.key ≡ key
    → has_key_from (x.leaf).keys i (record { storage = sp.storage; key = key }) ≡ true
search_here t count i key sp here v x at storage same =
    here_from (x.leaf).keys i here (record { storage = sp.storage; key = key }) at (key_is sp here key storage (sym same))

pub search_next : (t count i key : ℕ) (sp : Span) (here : Key) (b : Bool) (v w : View) (glanced : HasGlanced v w)
    (x : KnowsKeys t sp count v) → slice_get (x.leaf).keys i ≡ Some here → here.key ≢ key
    → ((y : KnowsKeys t sp count w) → has_key_from (y.leaf).keys (i + 1) (record { storage = sp.storage; key = key }) ≡ b)
    → has_key_from (x.leaf).keys i (record { storage = sp.storage; key = key }) ≡ b
search_next t count i key sp here b v w glanced x at other rest =
    next_from (x.leaf).keys i here (record { storage = sp.storage; key = key }) b at
    (other_keys here (record { storage = sp.storage; key = key }) (λ same. other (ap (λ (y : Key). y.key) same)))
    (rest (keys_worked t count sp v w (only_glanced v w glanced).looks.works x))

-- ---- all records are of keys that are known

pub covers_none : (t page count records i : ℕ) (sp : Span) (v : View) → i ≡ records → CoversAll t sp page count records i v
covers_none t page count records i sp v end x zero all r has = absurd (in_none r has)
covers_none t page count records i sp v end x (suc n) all r has = absurd (omega (arith, end, all))

covers_one : (keys : List Key) (sp : Span) (words : List ℕ) (i key : ℕ) (rest : List Record) (r : Record)
    → key ≡ get_or words (16 + 3 * i) 0 → has_key keys (record { storage = sp.storage; key = key }) ≡ true
    → ((q : Record) → Contains rest q → has_key keys (record { storage = sp.storage; key = q.key }) ≡ true)
    → Contains (record_at words i ∷ rest) r → has_key keys (record { storage = sp.storage; key = r.key }) ≡ true
covers_one keys sp words i key rest r is here more has = elim (in_cases r (record_at words i) rest has) [
  | inl same ↦
      let one : r.key ≡ key = sym (ap (λ (q : Record). q.key) same) ∙ sym is in
      ap (λ (n : ℕ). has_key keys (let k : Key = record { storage = sp.storage; key = n } in k)) one ∙ here
  | inr old ↦ more r old
]

pub covers_next : (t page count records i key : ℕ) (sp : Span) (v w : View) → OnlyLooks v w → i ≢ records
    → key ≡ get_or (page_words v.pages page) (16 + 3 * i) 0
    → ((x : KnowsKeys t sp count v) → has_key (x.leaf).keys (record { storage = sp.storage; key = key }) ≡ true)
    → CoversAll t sp page count records (i + 1) w → CoversAll t sp page count records i v
covers_next t page count records i key sp v w only other is here rest x zero all r has = absurd (in_none r has)
covers_next t page count records i key sp v w only other is here rest x (suc n) all r has =
    covers_one (x.leaf).keys sp (page_words v.pages page) i key (rest_of (page_words v.pages page) (i + 1) n) r is (here x)
    (λ q old. rest (keys_worked t count sp v w only.looks.works x) n (omega (arith, all)) q
    (subst (λ ps. Contains (rest_of (page_words ps page) (i + 1) n) q) (sym (ap (λ (z : View). z.pages) only.looks.works.worked)) old))
    (subst (λ l. Contains l r) (rest_first (page_words v.pages page) i n) has)

-- a record with an index is among them
pub rest_has : (words : List ℕ) (j n i : ℕ) → j ≤ i → i < j + n → Contains (rest_of words j n) (record_at words i)
rest_has words j zero i low less = absurd (omega (arith, low, less))
rest_has words j (suc n) i low less =
    subst (λ l. Contains l (record_at words i)) (sym (rest_first words j n))
    (by_test (eqb j i) refl (λ more. rest_has words (j + 1) n i more (omega (arith, less))))
  where
    by_test : (c : Bool) → eqb j i ≡ c → (j + 1 ≤ i → Contains (rest_of words (j + 1) n) (record_at words i))
        → Contains (record_at words j ∷ rest_of words (j + 1) n) (record_at words i)
    by_test true same later =
        subst (λ k. Contains (record_at words j ∷ rest_of words (j + 1) n) (record_at words k)) (eqb-true j i same)
        (in_head (record_at words j) (rest_of words (j + 1) n))
    by_test false other later =
        let more = index_less j i low (λ same. true≢false (sym (eq-eqb j i same) ∙ other)) in
        in_tail (record_at words i) (record_at words j) (rest_of words (j + 1) n) (later (omega (arith, more)))

-- where one isn't, the page is kept for its header
pub keeps_header : (t page epoch records i key : ℕ) (sp : Span) (k : Kept) (v w z : View) → OnlyLooks v w
    → HasCount v.pages sp page records → i < records → key ≡ get_or (page_words v.pages page) (16 + 3 * i) 0
    → KeptForHeader t (UnlikeAt (record { storage = sp.storage; key = key })) k w z → KeepsIt (IsCauseAt t sp page epoch v) k v z
keeps_header t page epoch records i key sp k v w z only counted less is keeps =
    let of : Key = record { storage = sp.storage; key = key } in
    keeps_then (λ why word seen. (why ≡ UnlikeAt of) × (word ≡ page_at w.layout.slots t 0)) (IsCauseAt t sp page epoch v) k v w z only
    (λ so.
    let lacking : IsKeyLacking v.layout.slots t of (tree_records v.pages page) k.word = record {
      place = so.1 ∙ ap (λ (y : View). page_at y.layout.slots t 0) only.looks.works.worked;
      other = record_at (page_words v.pages page) i;
      has = subst (λ l. Contains l (record_at (page_words v.pages page) i)) (sym counted.records)
          (rest_has (page_words v.pages page) 0 records i (omega arith) (omega (arith, less)));
      same = is;
    } in
    let unlike : IsKeyUnlike v.layout.slots t sp of (tree_records v.pages page) epoch k.word k.seen =
    record { storage = refl; how = inr (inr lacking) } in
    subst (λ (y : KeptWhy). IsLeafCause v.layout.slots t sp v.pages page epoch y k.word k.seen) (sym so.0) unlike)
    keeps

-- a header that was seen is so behind looks that note no word
pub seen_whole_on : (t count : ℕ) (v w : View) → OnlyLooks v w → w.reads ≡ v.reads → IsSeenWhole t count v → IsSeenWhole t count w
seen_whole_on t count v w only reads m = (
  m.0,
  ap (λ (l : Layout). seen_at w.reads (page_at l.slots t 0)) (layout_worked v w only.looks.works)
      ∙ (ap (λ (rs : List Read). seen_at rs (page_at v.layout.slots t 0)) reads ∙ m.1),
  m.2,
  m.3,
)

-- and the pass knows all keys of the leaf, and that it isn't one of them
pub lacks_known : (t count : ℕ) (sp : Span) (k : Key) (v w : View) (x : KnowsKeys t sp count v) → OnlyLooks v w → w.reads ≡ v.reads
    → IsSeenWhole t count v → has_key (x.leaf).keys k ≡ false → LacksKey w k t
lacks_known t count sp k v w x only reads m lacks =
    let seen = seen_whole_on t count v w only reads m in inr record {
      leaf = x.leaf;
      has = only.looks.works.known x.leaf x.has;
      slot = x.slot;
      header = seen.0;
      met = seen.1;
      whole = seen.2;
      all = x.are.long ∙ sym seen.3;
      none = lacks;
    }

-- so it is behind a look
pub lacks_glanced : (t : ℕ) (k : Key) (v w : View) → HasGlanced v w → LacksKey v k t → LacksKey w k t
lacks_glanced t k v w h (inl x) = inl (x.0, subst (λ (z : View). Contains z.heads x.0) (sym h.is) x.1, x.2, x.3)
lacks_glanced t k v w h (inr x) = inr record {
  leaf = x.leaf;
  has = subst (λ (z : View). Contains z.known x.leaf) (sym h.is) x.has;
  slot = x.slot;
  header = x.header;
  met = subst (λ (z : View). seen_at z.reads (page_at z.layout.slots t 0) ≡ Some x.header) (sym h.is) x.met;
  whole = x.whole;
  all = x.all;
  none = x.none;
}

-- causes, told of an earlier view
pub earlier : (t page epoch : ℕ) (sp : Span) (k : Kept) (v u w : View) → OnlyLooks v u → KeepsIt (IsCauseAt t sp page epoch u) k u w
    → KeepsIt (IsCauseAt t sp page epoch v) k v w
earlier t page epoch sp k v u w only h =
    keeps_then (IsCauseAt t sp page epoch u) (IsCauseAt t sp page epoch v) k v u w only
    (cause_back t page epoch sp v u only.looks.works k.why k.word k.seen) h

-- what a result that is known tells
pub err_is : (r : Result (Unit {0}) Kept) (P : Kept → Type 0) (k : Kept) → IfErr r P → r ≡ Err k → P k
err_is r P k h is = subst (λ (z : Result (Unit {0}) Kept). IfErr z P) is h

pub ok_is : (r : Result (Unit {0}) Kept) (P : Type 0) → OnOk r P → ((k : Kept) → r ≡ Err k → ⊥) → P
ok_is (Ok u) P h none = h
ok_is (Err k) P h none = absurd (none k refl)
