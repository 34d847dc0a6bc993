-- One record of a leaf of a chain is compared with what the snapshot has for its key, and locked.
use Rattle.std.proofs.Common.{◌≡◌, ◌≢◌, inl, inr, ℕ, suc, ◌+◌, ◌*◌, ◌<◌, ◌≤◌, true, List, [], ◌∷◌, ◌++◌, Some, refl, sym, ap, ◌∙◌, subst, arith}
use Rattle.std.specs.Prelude.{Err, Ok}
use Rattle.std.specs.List.{Contains, slice_get}
use Rattle.serial_model.specs.declared.key.Key.{Key}
use Rattle.homes.specs.declared.places.Span.{Span}
use Rattle.homes.specs.Homes.{has_key, in_span}
use Rattle.homes.specs.Laws.{in_span-parts}
use Rattle.snapshot_store.specs.TreePages.{record_for}
use Rattle.engine_pages.specs.declared.layout.Layout.{Layout}
use Rattle.engine_pages.specs.declared.view.Head.{Head}
use Rattle.engine_pages.specs.declared.view.KeptWhy.{KeptWhy}
use Rattle.engine_pages.specs.declared.view.KeptWhy.TheVariants.{Unlike}
use Rattle.engine_pages.specs.declared.view.Took.{Took}
use Rattle.engine_pages.specs.declared.view.View.{View}
use Rattle.engine_pages.specs.Layout.{page_at}
use Rattle.engine_pages.specs.Words.{spot}
use Rattle.dual_pointer.specs.Installs.{tree_records}
use Rattle.page_records.specs.Locks.{took_at}
use Rattle.tree_heads.specs.Headers.{count_of}
use Rattle.chain_steps.specs.Below.{IsStoredIn}
use Rattle.page_drops.specs.declared.noting.Kept.{Kept}
use Rattle.page_drops.specs.Works.{locked_at, HasGlanced, KeepsReads}
use Rattle.page_drops.proofs.Entries.{reads_same, reads_then}
use Rattle.tree_drops.specs.declared.belows.StoredLeaf.{StoredLeaf}
use Rattle.tree_drops.specs.declared.taking.ChainPage.{ChainPage}
use Rattle.tree_drops.specs.declared.taking.Done.TheVariants.{Recorded}
use Rattle.tree_drops.specs.declared.taking.Root.{Root}
use Rattle.tree_drops.specs.Belows.{CanGoBelow, HasGoneBelow, HasMisshapen, IsLeafFor}
use Rattle.tree_drops.specs.Chains.{OnlyChains}
use Rattle.tree_drops.specs.Leaves.{AtTree, HasCompared, HasCount, HasTaken, IsKeyOf, IsNew, IsRecordCause, IsUntaken, KeptForHeader, KnowsKeys}
use Rattle.tree_drops.specs.Taking.{keys_in, CanTakeKey, HasWorked, IsPageCause}
use Rattle.tree_drops.specs.Works.{KeepsIt}
use Rattle.tree_drops.proofs.BelowLaws.{leaf_for_keys}
use Rattle.tree_drops.proofs.Chaining.{chained_below, chained_glanced, chained_looked, chained_then, chains_then, chains_worked}
use Rattle.tree_drops.proofs.Chaining.{holds_then, holds_worked, keeps_chain, keeps_later, sealed_worked, tree_chained}
use Rattle.tree_drops.proofs.KeyLists.{has_at}

module _ (root : Root) (page : ChainPage) (r : ℕ) (v a : View) (can : CanTakeKey root page r v) (glanced : HasGlanced v a) (key : Key)
    (at : (x : KnowsKeys page.slot page.span (count_of page.header) v) → slice_get (x.leaf).keys r ≡ Some key)
    (storage : key.storage ≡ (page.span).storage) where
  abbrev whole : Span
  whole = keys_in root

  abbrev number : ℕ
  number = (root.target).page

  first : OnlyChains v a
  first = chained_glanced v a glanced

  here : slice_get (can.keys.leaf).keys r ≡ Some key
  here = at can.keys

  key_inside : in_span page.span key ≡ true
  key_inside = can.keys.are.inside key (has_at (can.keys.leaf).keys r key here)

  pub key_from : whole.low ≤ key.key
  key_from =
      let parts = in_span-parts page.span key key_inside in
      let low = parts.1 in
      let from = can.from in omega (arith, low, from)

  pub key_to : key.key ≤ whole.high
  key_to =
      let parts = in_span-parts page.span key key_inside in
      let high = parts.2 in
      let to = can.to in omega (arith, high, to)

  pub below_a : CanGoBelow whole number a
  below_a =
      subst (λ (z : View). CanGoBelow whole number z) (sym glanced.is) record {
        keeper = can.below.keeper;
        tree = can.below.tree;
        there = can.below.there;
        room = can.below.room;
        lead = can.below.lead;
      }

  pub few_records : r < 16
  few_records =
      let few = can.keys.are.few in
      let index = can.index in omega (arith, few, index)

  module _ (b : View) (goes : HasGoneBelow a b) where
    pub only_b : OnlyChains v b
    only_b = chained_then v a b first (chained_below a b goes)

    b_reads : b.reads ≡ v.reads
    b_reads = ap (λ (z : View). z.reads) goes.is ∙ ap (λ (z : View). z.reads) glanced.is

    b_pages : b.pages ≡ v.pages
    b_pages = ap (λ (z : View). z.pages) goes.is ∙ ap (λ (z : View). z.pages) glanced.is

    a_pages : a.pages ≡ v.pages
    a_pages = ap (λ (z : View). z.pages) glanced.is

    b_layout : b.layout ≡ v.layout
    b_layout = ap (λ (z : View). z.layout) goes.is ∙ ap (λ (z : View). z.layout) glanced.is

    pub first_b : AtTree root.slot whole number b
    first_b = tree_chained root.slot number whole v b only_b.looks.on can.tree

    -- ---- a page of the snapshot is misshapen

    pub misshapen_kept : (k : Kept) (c : View) → HasMisshapen a.pages → KeptForHeader root.slot Unlike k b c → c.reads ≡ b.reads
        → HasWorked root page (suc r) (Err k) v c
    misshapen_kept k c bad h reads = (
      keeps_later (IsPageCause v.layout.slots root page v.pages) (IsPageCause v.layout.slots root page v.pages) k v b c only_b (λ so. so)
          (keeps_chain (λ (why : KeptWhy) word seen. (why ≡ Unlike) × (word ≡ page_at b.layout.slots root.slot 0))
          (IsPageCause v.layout.slots root page v.pages) k b c
          (λ so. inr (inr (
            so.0,
            so.1 ∙ ap (λ (l : Layout). page_at l.slots root.slot 0) b_layout,
            subst (λ ps. HasMisshapen ps) a_pages bad,
          ))) h),
      reads_same page.slot v c (reads ∙ b_reads),
    )

    -- ---- it is compared

    module _ (stored : StoredLeaf) (found : IsLeafFor a.pages whole number key.key stored) where
      pub leaf_b : AtTree page.slot page.span stored.page b
      leaf_b =
          let old = tree_chained page.slot number page.span v b only_b.looks.on can.at in
          let low = found.below in
          let there = old.there in
          let room = old.room in record {
            keeper = old.keeper;
            idle = old.idle;
            over = old.over;
            slot = old.slot;
            there = omega (arith, low, there);
            room = omega (arith, low, room);
          }

      pub count_b : HasCount b.pages page.span stored.page stored.records
      count_b =
          subst (λ ps. HasCount ps page.span stored.page stored.records) (a_pages ∙ sym b_pages) record {
            few = found.count.few;
            records = found.count.records;
            leaf = leaf_for_keys a.pages whole page.span stored.page found.count.leaf;
          }

      pub key_b : IsKeyOf page.slot page.span r key b
      key_b = record {
        leaf = can.keys.leaf;
        has = only_b.looks.on.known can.keys.leaf can.keys.has;
        slot = can.keys.slot;
        at = here;
        storage = storage;
      }

      pub own_b : IsUntaken page.slot r b
      own_b = record {
        records = λ x has.
            let old = can.own.records x (subst (λ (l : List Took). Contains l x) only_b.looks.took has) in
            subst (λ (z : View). page_at z.layout.slots page.slot (17 + 3 * r) ≢ locked_at z x) (sym only_b.looks.on.chains) old;
        shuts = ap (λ (z : View). z.shuts) only_b.looks.on.chains ∙ can.own.shuts;
        alive = λ x has same. (
          can.head.0,
          subst (λ (l : List Head). Contains l can.head.0) (sym only_b.looks.heads) can.head.1,
          can.head.2,
        );
      }

      -- a cause of the record, told of the first view
      cause_back : (slots : ℕ) (ps : List (List ℕ)) → slots ≡ v.layout.slots → ps ≡ v.pages → (why : KeptWhy) (word seen : ℕ)
          → IsRecordCause slots page.slot r key (record_for (tree_records ps stored.page) key.key) (root.target).epoch why word seen
          → IsPageCause v.layout.slots root page v.pages why word seen
      cause_back slots ps one two why word seen so =
          inr (inl (
            can.leaf,
            record {
              index = r;
              few = few_records;
              key = key;
              inside = key_inside;
              stored = record_for (tree_records v.pages stored.page) key.key;
              below = subst (λ qs. IsStoredIn qs whole number key.key (record_for (tree_records v.pages stored.page) key.key)) a_pages
                  (found.stored (record_for (tree_records v.pages stored.page) key.key)
                  (ap (λ qs. record_for (tree_records qs stored.page) key.key) a_pages));
              cause = subst (λ qs. IsRecordCause v.layout.slots page.slot r key (record_for (tree_records qs stored.page) key.key)
                  (root.target).epoch why word seen) two
                  (subst (λ n. IsRecordCause n page.slot r key (record_for (tree_records ps stored.page) key.key) (root.target).epoch why word seen)
                  one so);
            },
          ))

      pub compare_kept : (k : Kept) (c : View)
          → KeepsIt (IsRecordCause b.layout.slots page.slot r key (record_for (tree_records b.pages stored.page) key.key) (root.target).epoch) k b c
          → KeepsReads page.slot b c → HasWorked root page (suc r) (Err k) v c
      compare_kept k c h reads = (
        keeps_later (IsPageCause v.layout.slots root page v.pages) (IsPageCause v.layout.slots root page v.pages) k v b c only_b (λ so. so)
            (keeps_chain
            (IsRecordCause b.layout.slots page.slot r key (record_for (tree_records b.pages stored.page) key.key) (root.target).epoch)
            (IsPageCause v.layout.slots root page v.pages) k b c
            (cause_back b.layout.slots b.pages (ap (λ (l : Layout). l.slots) b_layout) b_pages k.why k.word k.seen) h),
        reads_then page.slot v b c b_layout (reads_same page.slot v b b_reads) reads,
      )

      -- ---- it is locked

      module _ (d : View) (word : ℕ) (compared : HasCompared stored.page (root.target).epoch key b word d) (read : KeepsReads page.slot b d) where
        only_d : OnlyChains v d
        only_d = chained_then v b d only_b (chained_looked b d compared.looks)

        d_pages : d.pages ≡ v.pages
        d_pages = ap (λ (z : View). z.pages) only_d.looks.on.chains

        d_layout : d.layout ≡ v.layout
        d_layout = ap (λ (z : View). z.layout) only_d.looks.on.chains

        d_reads : KeepsReads page.slot v d
        d_reads = reads_then page.slot v b d b_layout (reads_same page.slot v b b_reads) read

        pub leaf_d : AtTree page.slot page.span stored.page d
        leaf_d = tree_chained page.slot stored.page page.span b d (chained_looked b d compared.looks).looks.on leaf_b

        pub count_d : HasCount d.pages page.span stored.page stored.records
        count_d = subst (λ ps. HasCount ps page.span stored.page stored.records) (b_pages ∙ sym d_pages) count_b

        pub key_d : IsKeyOf page.slot page.span r key d
        key_d = record {
          leaf = can.keys.leaf;
          has = only_d.looks.on.known can.keys.leaf can.keys.has;
          slot = can.keys.slot;
          at = here;
          storage = storage;
        }

        pub new_d : IsNew key d
        new_d =
            let old = can.new key here in record {
              unlocked = ap (λ l. has_key l key) only_d.looks.locks ∙ old.unlocked;
              untaken = λ x has. old.untaken x (subst (λ (l : List Took). Contains l x) only_d.looks.took has);
            }

        pub past_d : (root.target).epoch ≤ d.past
        past_d = subst (λ n. (root.target).epoch ≤ n) (sym (ap (λ (z : View). z.past) only_d.looks.on.chains)) can.past

        pub take_kept : (k : Kept) (e : View)
            → KeepsIt (IsRecordCause d.layout.slots page.slot r key (record_for (tree_records d.pages stored.page) key.key) (root.target).epoch)
            k d e → KeepsReads page.slot d e → HasWorked root page (suc r) (Err k) v e
        take_kept k e h reads = (
          keeps_later (IsPageCause v.layout.slots root page v.pages) (IsPageCause v.layout.slots root page v.pages) k v d e only_d (λ so. so)
              (keeps_chain
              (IsRecordCause d.layout.slots page.slot r key (record_for (tree_records d.pages stored.page) key.key) (root.target).epoch)
              (IsPageCause v.layout.slots root page v.pages) k d e
              (cause_back d.layout.slots d.pages (ap (λ (l : Layout). l.slots) d_layout) d_pages k.why k.word k.seen) h),
          reads_then page.slot v d e d_layout d_reads reads,
        )

        pub key_taken : (e : View) → HasTaken page.slot stored.page r key word d e → KeepsReads page.slot d e
            → HasWorked root page (suc r) (Ok (Recorded key word)) v e
        key_taken e h reads =
            let works = h.more.works in
            let on = chains_then v d e only_d.looks.on (chains_worked d e works) in
            let pages : e.pages ≡ v.pages = ap (λ (z : View). z.pages) on.chains in
            let index = can.index in (
              r,
              refl,
              can.leaf,
              omega (arith, index),
              record {
                on = on;
                holds = holds_then v d e only_d.holds (holds_worked d e works);
                kept = h.more.kept ∙ only_d.kept;
                locks = h.more.locks ∙ ap (λ l. l ++ key ∷ []) only_d.looks.locks;
                took = h.more.took ∙ ap (λ (l : List Took). l ++ took_at key (spot page.slot r) word ∷ []) only_d.looks.took;
                heads = h.more.heads ∙ only_d.looks.heads;
                sealed = sealed_worked d e works ∙ only_d.looks.sealed;
                new = can.new key here;
                storage = storage;
                at = at;
                locked = record {
                  word = h.locked.word;
                  took = h.locked.took;
                  content = h.locked.content;
                  small = h.locked.small;
                  is = h.locked.is;
                  value = h.locked.value;
                  stored = record_for (tree_records e.pages stored.page) key.key;
                  below = subst (λ qs. IsStoredIn qs whole number key.key (record_for (tree_records e.pages stored.page) key.key))
                      (a_pages ∙ sym pages)
                      (found.stored (record_for (tree_records e.pages stored.page) key.key)
                      (ap (λ qs. record_for (tree_records qs stored.page) key.key) (a_pages ∙ sym pages)));
                  says = h.locked.says;
                  old = h.locked.old;
                };
                reads = reads_then page.slot v d e d_layout d_reads reads;
              },
            )
