-- The header of a leaf is locked before its records, and opened after them.
use Rattle.std.proofs.Common.{◌≡◌, ◌≢◌, inl, inr, ℕ, ◌+◌, ◌<◌, ◌≤◌, Bool, true, true≢false, eq-eqb, ne_eqb, not}
use Rattle.std.proofs.Common.{cond, List, [], ◌∷◌, ◌++◌, length, refl, sym, ap, ◌∙◌, subst, arith}
use Rattle.std.specs.Prelude.{MatchBool}
use Rattle.std.specs.List.{Contains}
use Rattle.lists.specs.Elements.{in_head, in_none, in_tail}
use Rattle.lists.specs.Fronts.{front_refl, front_same}
use Rattle.serial_model.specs.declared.key.Key.{Key}
use Rattle.homes.specs.declared.places.At.{At}
use Rattle.homes.specs.declared.places.Span.{Span}
use Rattle.homes.specs.Homes.{has_key}
use Rattle.dual_pointer.specs.Installs.{tree_records}
use Rattle.snapshot_store.specs.TreePages.{Record}
use Rattle.engine_pages.specs.declared.layout.Layout.{Layout}
use Rattle.engine_pages.specs.declared.view.Head.{Head}
use Rattle.engine_pages.specs.declared.view.KeptWhy.{KeptWhy}
use Rattle.engine_pages.specs.declared.view.KeptWhy.TheVariants.{Changed}
use Rattle.engine_pages.specs.declared.view.View.{View}
use Rattle.engine_pages.specs.Layout.{page_at, words_of}
use Rattle.engine_pages.specs.Slots.{other_heads}
use Rattle.engine_pages.specs.Steps.{read_at}
use Rattle.page_drops.specs.declared.noting.Kept.{Kept}
use Rattle.page_drops.specs.Works.{read_of, IsOutside, KeepsReads, KeepsReadsBut}
use Rattle.page_drops.proofs.Entries.{reads_more, reads_self, seen_same}
use Rattle.tree_heads.specs.Headers.{count_of, open_word}
use Rattle.tree_heads.specs.Heads.{CanOpenHeader, HasHead, HeadLocked, head_opened, lock_bit}
use Rattle.tree_drops.specs.Leaves.{AreKeys, AreLocked, AtTree, CanDrop, CanDropFrom, HasCount, IsCauseBelow, IsCauseAt}
use Rattle.tree_drops.specs.Leaves.{IsLeafCause, KnowsKeys}
use Rattle.tree_drops.specs.Works.{KeepsIt, LooksOn, OnlyLooks, TellsPointer, WorksOn}
use Rattle.tree_drops.proofs.Swung.{can_lead_worked, lead_worked, pointer_worked}
use Rattle.tree_drops.proofs.Works.{layout_worked, pages_worked, past_worked, tree_worked, works_then}

-- ---- the header is locked

pub head_now : (t at header found : ℕ) (sp : Span) (v w : View) → found ≡ header → HeadLocked t sp at header v found w
    → HasHead t sp at v found w
head_now t at header found sp v w same h =
    subst (λ c. MatchBool c (HasHead t sp at v found w) (w ≡ read_at at found v)) (eq-eqb found header same) h

pub not_head : (t at header found : ℕ) (sp : Span) (v w : View) → found ≢ header → HeadLocked t sp at header v found w
    → w ≡ read_at at found v
not_head t at header found sp v w other h =
    subst (λ c. MatchBool c (HasHead t sp at v found w) (w ≡ read_at at found v)) (ne_eqb found header other) h

pub works_head : (t at n : ℕ) (sp : Span) (v w : View) → HasHead t sp at v n w → WorksOn v w
works_head t at n sp v w h =
    subst (λ (z : View). WorksOn v z) (sym h.is) record {
      worked = refl;
      later = omega arith;
      known = λ x has. in_tail x (record { slot = t; keys = h.keys }) v.known has;
      versions = λ x has. has;
      touched = λ z has. inl has;
    }

pub reads_head : (t at n : ℕ) (sp : Span) (v w : View) → at ≡ page_at v.layout.slots t 0 → HasHead t sp at v n w → KeepsReads t v w
reads_head t at n sp v w place h =
    reads_more t 0 at (n + lock_bit) v v w (omega arith) place (reads_self t v) (ap (λ (z : View). z.reads) h.is)

count_back : (n : ℕ) → n ≤ 16 → count_of (open_word n) ≡ n
count_back n few = omega (arith, few)

-- the keys are those that were known, where the header counts as many
module _ (t at n count : ℕ) (sp : Span) (v w : View) (h : HasHead t sp at v n w) (counted : count_of n ≡ count)
    (x : KnowsKeys t sp count v) where
  pub keys_long : length h.keys ≡ count
  keys_long =
      let few = h.are.few in
      sym (count_back (length h.keys) few) ∙ (ap count_of (sym h.word) ∙ counted)

  pub keys_same : (x.leaf).keys ≡ h.keys
  keys_same =
      front_same (x.leaf).keys h.keys h.keys (h.are.known x.leaf x.has x.slot) (front_refl h.keys) (x.are.long ∙ sym keys_long)

  pub keys_are : AreKeys sp count h.keys
  keys_are = record { long = keys_long; few = x.are.few; once = h.are.once; inside = h.are.inside }

-- nothing is locked of the leaf but its header
pub none_locked : (t page : ℕ) (sp : Span) (keys : List Key) (v : View) → v.seat.locks ≡ [] → v.took ≡ [] → AreLocked t sp page 0 keys v
none_locked t page sp keys v locks took = record {
  each = λ i k less at. absurd (omega (arith, less));
  own = λ k has. absurd (true≢false (sym has ∙ ap (λ l. has_key l k) locks));
  mine = λ x has. absurd (in_none x (subst (λ l. Contains l x) took has));
}

pub can_drop_from : (x : At) (sp : Span) (at t page word epoch count records place found : ℕ) (v b w : View)
    → CanDrop x sp at t page word epoch v → OnlyLooks v b → KeepsReads t v b → (kn : KnowsKeys t sp count b)
    → HasCount b.pages sp page records
    → ((r : Record) → Contains (tree_records b.pages page) r
    → has_key (kn.leaf).keys (record { storage = sp.storage; key = r.key }) ≡ true)
    → place ≡ page_at b.layout.slots t 0 → HasHead t sp place b found w → count_of found ≡ count
    → CanDropFrom x sp at t page word epoch count 0 w
can_drop_from x sp at t page word epoch count records place found v b w can only reads kn counted covers here h many =
    let first = only.looks.works in
    let second = works_head t place found sp b w h in
    let works = works_then v b w first second in
    let keys = h.keys in
    let same = keys_same t place found count sp b w h many kn in record {
      tree = tree_worked t page sp v w works can.tree;
      head = record { slot = t; keys = keys; words = h.words };
      has = subst (λ (z : View). Contains z.heads (record { slot = t; keys = keys; words = h.words })) (sym h.is)
          (in_head (record { slot = t; keys = keys; words = h.words }) b.heads);
      slot = refl;
      knows = subst (λ (z : View). Contains z.known (record { slot = t; keys = keys })) (sym h.is)
          (in_head (record { slot = t; keys = keys }) b.known);
      are = keys_are t place found count sp b w h many kn;
      index = omega arith;
      locked = none_locked t page sp keys w
          (ap (λ (z : View). z.seat.locks) h.is ∙ (only.looks.locks ∙ can.locks))
          (ap (λ (z : View). z.took) h.is ∙ (only.looks.took ∙ can.took));
      up = can_lead_worked x sp at t page word keys b w second (reads_head t place found sp b w here h) record {
        place = pointer_worked v b x sp at first.worked can.place;
        inside = subst (λ (z : View). at < words_of z.layout) (sym first.worked) can.inside;
        leads = can.leads;
        met = seen_same v.reads b.reads at (reads at can.apart) ∙ can.met;
        apart = subst (λ (z : View). IsOutside z.layout.slots t at) (sym first.worked) can.apart;
        lead = λ some. lead_worked v b sp page first.worked (can.lead some);
        leaf = counted.leaf;
        all = λ r has. subst (λ ks. has_key ks (record { storage = sp.storage; key = r.key }) ≡ true) same (covers r has);
      };
      past = subst (λ n. epoch ≤ n) (sym (past_worked v w works)) can.past;
      shuts = ap (λ (z : View). z.shuts) works.worked ∙ can.shuts;
    }

-- ---- and opened

-- the one header that is locked
pub only_head : (t : ℕ) (x : Head) (heads : List Head) → x.slot ≡ t → heads ≡ [] → other_heads t (x ∷ heads) ≡ []
only_head t x heads slot none =
    ap (λ (c : Bool). cond (not c) (x ∷ other_heads t heads) (other_heads t heads)) (eq-eqb x.slot t slot)
    ∙ ap (λ hs. other_heads t hs) none

pub heads_head : (t at n : ℕ) (sp : Span) (v w : View) → v.heads ≡ [] → HasHead t sp at v n w → other_heads t w.heads ≡ []
heads_head t at n sp v w none h =
    ap (λ (z : View). other_heads t z.heads) h.is ∙ only_head t (record { slot = t; keys = h.keys; words = h.words }) v.heads refl none

pub works_opened_head : (t at n : ℕ) (v w : View) → w ≡ head_opened t at n v → WorksOn v w
works_opened_head t at n v w is =
    subst (λ (z : View). WorksOn v z) (sym is) record {
      worked = refl;
      later = omega arith;
      known = λ x has. has;
      versions = λ x has. has;
      touched = λ z has. inl has;
    }

pub reads_opened_head : (t at n : ℕ) (v w : View) → at ≡ page_at v.layout.slots t 0 → w ≡ head_opened t at n v → KeepsReads t v w
reads_opened_head t at n v w place is =
    reads_more t 0 at n v v w (omega arith) place (reads_self t v) (ap (λ (z : View). z.reads) is)

pub can_open_head : (t page at n : ℕ) (sp : Span) (v b w e : View) → AtTree t sp page b → HasHead t sp at b n w → LooksOn w e
    → CanOpenHeader e t sp n
can_open_head t page at n sp v b w e tree h looks =
    let works = works_then b w e (works_head t at n sp b w h) looks.works in
    let x : Head = record { slot = t; keys = h.keys; words = h.words } in record {
      page = (tree_worked t page sp b e works tree).over;
      head = x;
      has = subst (λ hs. Contains hs x) (sym looks.heads) (subst (λ (z : View). Contains z.heads x) (sym h.is) (in_head x b.heads));
      slot = refl;
      word = h.word;
    }

-- a page that is kept meanwhile is kept with no header locked
pub keeps_head : (cause other : KeptWhy → ℕ → ℕ → Type 0) (kept : Kept) (t at n : ℕ) (sp : Span) (v b c e w : View)
    → OnlyLooks v b → v.heads ≡ [] → HasHead t sp at b n c → KeepsIt cause kept c e → w ≡ head_opened t at n e
    → (cause kept.why kept.word kept.seen → other kept.why kept.word kept.seen) → KeepsIt other kept v w
keeps_head cause other kept t at n sp v b c e w only none h keeps is so =
    let first = works_then v b c only.looks.works (works_head t at n sp b c h) in
    let opens = works_opened_head t at n e w is in
    let one = first.later in
    let since = keeps.kept.since in
    let before = keeps.kept.before in record {
      looks = record {
        works = works_then v c w first (works_then c e w keeps.looks.works opens);
        locks = ap (λ (z : View). z.seat.locks) is
            ∙ (keeps.looks.locks ∙ (ap (λ (z : View). z.seat.locks) h.is ∙ only.looks.locks));
        took = ap (λ (z : View). z.took) is ∙ (keeps.looks.took ∙ (ap (λ (z : View). z.took) h.is ∙ only.looks.took));
        heads = ap (λ (z : View). z.heads) is
            ∙ (ap (λ hs. other_heads t hs) keeps.looks.heads
            ∙ (heads_head t at n sp b c (only.looks.heads ∙ none) h ∙ sym none));
      };
      kept = record {
        page = keeps.kept.page;
        is = ap (λ (z : View). z.kept) is
            ∙ (keeps.kept.is
            ∙ ap (λ l. l ++ keeps.kept.page ∷ []) (ap (λ (z : View). z.kept) h.is ∙ only.kept));
        told = keeps.kept.told;
        since = omega (arith, one, since);
        before = let up : w.steps ≡ e.steps + 1 = ap (λ (z : View). z.steps) is in omega (arith, up, before);
        cause-is = so keeps.kept.cause-is;
      };
    }

-- ---- causes, told of other views

-- the header was found to be another
pub head_changed : (t page epoch at seen before : ℕ) (sp : Span) (v : View) → at ≡ page_at v.layout.slots t 0 → seen ≢ before
    → IsCauseAt t sp page epoch v (Changed before) at seen
head_changed t page epoch at seen before sp v place other = (inl place, other)

pub cause_back : (t page epoch : ℕ) (sp : Span) (v c : View) → WorksOn v c → (why : KeptWhy) (word seen : ℕ)
    → IsCauseAt t sp page epoch c why word seen → IsCauseAt t sp page epoch v why word seen
cause_back t page epoch sp v c first why word seen so =
    subst (λ ps. IsLeafCause v.layout.slots t sp ps page epoch why word seen) (pages_worked v c first)
    (subst (λ (l : Layout). IsLeafCause l.slots t sp c.pages page epoch why word seen) (layout_worked v c first) so)

pub below_back : (t page epoch at before : ℕ) (sp : Span) (v c : View) → WorksOn v c → (why : KeptWhy) (word seen : ℕ)
    → IsCauseBelow t sp page epoch at before c why word seen → IsCauseBelow t sp page epoch at before v why word seen
below_back t page epoch at before sp v c first why word seen (inl so) =
    inl (cause_back t page epoch sp v c first why word seen so)
below_back t page epoch at before sp v c first why word seen (inr so) = inr so

-- ---- what was read of the pointer, and of other words

pub tells_around : (at before : ℕ) (k : Kept) (v u e w : View) → read_of u.reads at ≡ read_of v.reads at
    → read_of w.reads at ≡ read_of e.reads at → TellsPointer at before k u e → TellsPointer at before k v w
tells_around at before k v u e w first last (inl same) = inl (last ∙ (same ∙ first))
tells_around at before k v u e w first last (inr so) = inr (so.0, so.1, (so.2.0, last ∙ so.2.1, so.2.2, so.2.3))

pub tells_same : (t at before : ℕ) (k : Kept) (v w : View) → KeepsReads t v w → IsOutside v.layout.slots t at
    → TellsPointer at before k v w
tells_same t at before k v w reads apart = inl (reads at apart)

pub but_then : (t at : ℕ) (u v w : View) → v.layout ≡ u.layout → KeepsReads t u v → KeepsReadsBut t at v w → KeepsReadsBut t at u w
but_then t at u v w same a b word other out =
    b word other (λ i few is. out i few (is ∙ ap (λ (l : Layout). page_at l.slots t i) same)) ∙ a word out

pub then_but : (t at : ℕ) (u v w : View) → v.layout ≡ u.layout → KeepsReadsBut t at u v → KeepsReads t v w → KeepsReadsBut t at u w
then_but t at u v w same a b word other out =
    b word (λ i few is. out i few (is ∙ ap (λ (l : Layout). page_at l.slots t i) same)) ∙ a word other out
