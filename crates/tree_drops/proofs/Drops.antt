-- The records of a leaf are locked one after another, and opened again the other way where the leaf is kept.
use Rattle.std.proofs.Common.{◌≡◌, inl, ℕ, ◌+◌, ◌*◌, ◌<◌, ◌≤◌, [], ◌∷◌, ◌++◌}
use Rattle.std.proofs.Common.{refl, sym, ap, ◌∙◌, subst, arith, Some}
use Rattle.std.specs.List.{Contains, slice_get}
use Rattle.serial_model.specs.declared.key.Key.{Key}
use Rattle.homes.specs.declared.places.At.{At}
use Rattle.homes.specs.declared.places.Span.{Span}
use Rattle.homes.specs.declared.places.Spot.{Spot}
use Rattle.homes.specs.Homes.{has_key}
use Rattle.engine_pages.specs.declared.view.View.{View}
use Rattle.engine_pages.specs.Layout.{page_at}
use Rattle.engine_pages.specs.Slots.{other_heads}
use Rattle.engine_pages.specs.Steps.{seen_at}
use Rattle.engine_pages.specs.Words.{spot}
use Rattle.page_records.specs.Locks.{opened, took_at}
use Rattle.page_drops.specs.declared.noting.Kept.{Kept}
use Rattle.page_drops.specs.Works.{KeepsReads}
use Rattle.page_drops.proofs.Entries.{reads_more, reads_self}
use Rattle.tree_drops.specs.Leaves.{AtTree, CanDropFrom, HasDropped, HasTaken, IsCauseBelow, IsCauseAt}
use Rattle.tree_drops.specs.Leaves.{IsNew, KnowsKeys, LocksMore}
use Rattle.tree_drops.specs.Works.{KeepsIt, OnlyLooks}
use Rattle.tree_drops.proofs.Heads.{below_back, cause_back}
use Rattle.tree_drops.proofs.Swung.{can_lead_worked, dropped_on, keeps_open, locked_next, new_here}
use Rattle.tree_drops.proofs.Works.{keeps_then, opened_is, past_worked, reopened, tree_worked}
use Rattle.tree_drops.proofs.Works.{works_then}

-- ---- what is known

abbrev pub known_from : (x : At) (sp : Span) (at t page word epoch count n : ℕ) (v : View) → CanDropFrom x sp at t page word epoch count n v
    → KnowsKeys t sp count v
known_from x sp at t page word epoch count n v can =
    record { leaf = record { slot = t; keys = can.head.keys }; has = can.knows; slot = refl; are = can.are }

-- ---- one more is locked

pub can_drop_next : (x : At) (sp : Span) (at t page word epoch count n value : ℕ) (k : Key) (v u w : View)
    → (can : CanDropFrom x sp at t page word epoch count n v) → OnlyLooks v u → KeepsReads t v w → HasTaken t page n k value u w
    → slice_get can.head.keys n ≡ Some k → n < count → CanDropFrom x sp at t page word epoch count (n + 1) w
can_drop_next x sp at t page word epoch count n value k v u w can only reads taken here less =
    let works = works_then v u w only.looks.works taken.more.works in
    let more : LocksMore k (spot t n) value v w = record {
      works = works;
      locks = taken.more.locks ∙ ap (λ l. l ++ k ∷ []) only.looks.locks;
      took = taken.more.took ∙ ap (λ l. l ++ took_at k (spot t n) value ∷ []) only.looks.took;
      heads = taken.more.heads ∙ only.looks.heads;
      kept = taken.more.kept ∙ only.kept;
    } in record {
      tree = tree_worked t page sp v w works can.tree;
      head = can.head;
      has = subst (λ hs. Contains hs can.head) (sym more.heads) can.has;
      slot = can.slot;
      knows = works.known (record { slot = t; keys = can.head.keys }) can.knows;
      are = can.are;
      index = omega (arith, less);
      locked = locked_next t page n value sp can.head.keys k count v w can.are can.locked here more taken.locked;
      up = can_lead_worked x sp at t page word can.head.keys v w works reads can.up;
      past = subst (λ m. epoch ≤ m) (sym (past_worked v w works)) can.past;
      shuts = ap (λ (z : View). z.shuts) works.worked ∙ can.shuts;
    }

-- the key isn't locked yet, also behind a look
pub new_then : (x : At) (sp : Span) (at t page word epoch count n : ℕ) (k : Key) (v u : View)
    → (can : CanDropFrom x sp at t page word epoch count n v) → slice_get can.head.keys n ≡ Some k → OnlyLooks v u → IsNew k u
new_then x sp at t page word epoch count n k v u can here only =
    let new = new_here t page n sp can.head.keys k count v can.are can.locked here in record {
      unlocked = ap (λ l. has_key l k) only.looks.locks ∙ new.unlocked;
      untaken = λ y has. new.untaken y (subst (λ l. Contains l y) only.looks.took has);
    }

-- ---- the record is taken

pub looked_on : (k : Key) (x : Spot) (word : ℕ) (v u w : View) → LocksMore k x word v u → OnlyLooks u w → LocksMore k x word v w
looked_on k x word v u w more only = record {
  works = works_then v u w more.works only.looks.works;
  locks = only.looks.locks ∙ more.locks;
  took = only.looks.took ∙ more.took;
  heads = only.looks.heads ∙ more.heads;
  kept = only.kept ∙ more.kept;
}

-- ---- it is opened, and the page kept

-- as the record's place tells
pub reopened_here : (k : Key) (at place word t page : ℕ) (sp : Span) (e w : View) → AtTree t sp page e → w ≡ opened k at word e
    → w ≡ reopened k at word e
reopened_here k at place word t page sp e w tree is = opened_is k at word e w tree.idle is

pub reads_reopened : (t i at word : ℕ) (k : Key) (v w : View) → i < 16 → at ≡ page_at v.layout.slots t (17 + 3 * i) → w ≡ reopened k at word v
    → KeepsReads t v w
reads_reopened t i at word k v w few place is =
    reads_more t (17 + 3 * i) at word v v w (omega (arith, few)) place (reads_self t v) (ap (λ (z : View). z.reads) is)

-- a cause of a leaf is one below a pointer
pub below_known : (t page epoch at before : ℕ) (sp : Span) (k : Kept) (v u w : View) → OnlyLooks v u
    → KeepsIt (IsCauseAt t sp page epoch u) k u w → KeepsIt (IsCauseBelow t sp page epoch at before v) k v w
below_known t page epoch at before sp k v u w only h =
    keeps_then (IsCauseAt t sp page epoch u) (IsCauseBelow t sp page epoch at before v) k v u w only
    (λ so. inl (cause_back t page epoch sp v u only.looks.works k.why k.word k.seen so)) h

-- what was kept in between
pub below_open : (t page epoch at before place word n : ℕ) (sp : Span) (kept : Kept) (k : Key) (v u a e w : View) → OnlyLooks v u
    → HasTaken t page n k word u a → IsNew k u → KeepsIt (IsCauseBelow t sp page epoch at before a) kept a e → w ≡ reopened k place word e
    → KeepsIt (IsCauseBelow t sp page epoch at before v) kept v w
below_open t page epoch at before place word n sp kept k v u a e w only taken new keeps is =
    keeps_then (IsCauseBelow t sp page epoch at before u) (IsCauseBelow t sp page epoch at before v) kept v u w only
    (below_back t page epoch at before sp v u only.looks.works kept.why kept.word kept.seen)
    (keeps_open (IsCauseBelow t sp page epoch at before a) (IsCauseBelow t sp page epoch at before u) kept k (spot t n) place word u a e w
    taken.more new keeps is
    (below_back t page epoch at before sp u a taken.more.works kept.why kept.word kept.seen))

pub known_open : (t page epoch place word n : ℕ) (sp : Span) (kept : Kept) (k : Key) (v u e w : View) → LocksMore k (spot t n) word v u
    → IsNew k v → KeepsIt (IsCauseAt t sp page epoch u) kept u e → w ≡ reopened k place word e
    → KeepsIt (IsCauseAt t sp page epoch v) kept v w
known_open t page epoch place word n sp kept k v u e w more new keeps is =
    keeps_open (IsCauseAt t sp page epoch u) (IsCauseAt t sp page epoch v) kept k (spot t n) place word v u e w more new keeps is
    (cause_back t page epoch sp v u more.works kept.why kept.word kept.seen)

-- ---- it is dropped, behind one more

pub dropped_taken : (t at page n word : ℕ) (k : Key) (v u a w : View) → OnlyLooks v u → HasTaken t page n k word u a
    → seen_at a.reads at ≡ seen_at v.reads at → HasDropped t at page a w → HasDropped t at page v w
dropped_taken t at page n word k v u a w only taken met h =
    dropped_on t at page v a w (works_then v u a only.looks.works taken.more.works)
    (ap (λ hs. other_heads t hs) (taken.more.heads ∙ only.looks.heads)) (taken.more.kept ∙ only.kept) met h
