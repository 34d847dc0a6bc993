-- The roots of an engine, gone over one after another.
use Rattle.std.proofs.Common.{◌≡◌, ℕ, zero, suc, ◌+◌, ◌*◌, ◌<◌, ◌≤◌, Bool, true, false, eqb, eqb-true, List, [], ◌∷◌, ◌++◌}
use Rattle.std.proofs.Common.{length, get_or, None, Some, refl, sym, ap, ◌∙◌, subst, arith, append_assoc, length-append}
use Rattle.std.specs.Prelude.{reverse, ⊤}
use Rattle.std.specs.List.{Contains}
use Rattle.std.proofs.lemmas.Bool.Decides.{nat_tests}
use Rattle.std.proofs.lemmas.List.{append-nil, reverse-append}
use Rattle.std.proofs.lemmas.List.Elements.{Contains-append_left, Contains-append_right}
use Rattle.std.proofs.Math.ListN.{get_or-append}
use Rattle.std.proofs.Math.Seq.{get_or-append_seam}
use Rattle.lists.specs.Elements.{in_none}
use Rattle.lists.specs.Fronts.{front_length, front_refl}
use Rattle.serial_model.specs.Decls.{AreDecls}
use Rattle.engine_pages.specs.declared.layout.Layout.{Layout}
use Rattle.engine_pages.specs.declared.view.Dropped.{Dropped as Counted}
use Rattle.engine_pages.specs.declared.view.KeptPage.{KeptPage}
use Rattle.engine_pages.specs.declared.view.Role.TheVariants.{Keeper}
use Rattle.engine_pages.specs.declared.view.Swung.{Swung}
use Rattle.engine_pages.specs.declared.view.View.{View}
use Rattle.engine_pages.specs.Layout.{clock_at, root_at}
use Rattle.engine_pages.specs.Pages.{root_span}
use Rattle.engine_pages.specs.Steps.{glance}
use Rattle.dual_pointer.specs.Copies.{IsLeadOf}
use Rattle.page_drops.specs.declared.calls.Dropped.{Dropped}
use Rattle.page_drops.specs.Calls.{begun, counted, dropped_all, notes_all, slots_all, swings_all, CanDropAll, CanGoOver, GoesOver, HasCounted}
use Rattle.page_drops.specs.Calls.{HasDroppedAll, HasGoneOver, HasRoom, HasVisited, IsElsewhere, IsRootTreeOf, WentOver}
use Rattle.page_drops.specs.Visits.{MetRoot, LeftAlone, IsRootTree, dropped_root, notes_root, slots_root, swings_root, times}
use Rattle.page_drops.proofs.Counts.{counted_none, counted_then, root_few}
use Rattle.page_drops.proofs.Goings.{bare_over, over_self, over_then}
use Rattle.page_drops.proofs.Stays.{Goes, Spares, root_stays, times_append, times_in, times_reverse}

-- ---- one root more

pub dropped_push : (xs : List MetRoot) (m : MetRoot) → dropped_all (xs ++ m ∷ []) ≡ dropped_all xs + dropped_root m
dropped_push [] m = omega arith
dropped_push (x ∷ xs) m = let rest = dropped_push xs m in omega (arith, rest)

pub notes_push : (xs : List MetRoot) (m : MetRoot) → notes_all (xs ++ m ∷ []) ≡ notes_all xs ++ notes_root m
notes_push [] m = append-nil (notes_root m)
notes_push (x ∷ xs) m =
    ap (λ (l : List KeptPage). notes_root x ++ l) (notes_push xs m)
    ∙ sym (append_assoc (notes_root x) (notes_all xs) (notes_root m))

pub slots_push : (xs : List MetRoot) (m : MetRoot) → slots_all (xs ++ m ∷ []) ≡ slots_all xs ++ slots_root m
slots_push [] m = append-nil (slots_root m)
slots_push (x ∷ xs) m =
    ap (λ (l : List ℕ). slots_root x ++ l) (slots_push xs m)
    ∙ sym (append_assoc (slots_root x) (slots_all xs) (slots_root m))

pub swings_push : (xs : List MetRoot) (m : MetRoot) → swings_all (xs ++ m ∷ []) ≡ swings_all xs ++ swings_root m
swings_push [] m = append-nil (swings_root m)
swings_push (x ∷ xs) m =
    ap (λ (l : List Swung). swings_root x ++ l) (swings_push xs m)
    ∙ sym (append_assoc (swings_root x) (swings_all xs) (swings_root m))

-- a slot of one of them is one of all
pub in_all : (xs : List MetRoot) (r t : ℕ) → Contains (slots_root (get_or xs r LeftAlone)) t → Contains (slots_all xs) t
in_all [] r t has = absurd (in_none t has)
in_all (x ∷ xs) zero t has = Contains-append_left (slots_root x) (slots_all xs) t has
in_all (x ∷ xs) (suc r) t has = Contains-append_right (slots_root x) (slots_all xs) t (in_all xs r t has)

-- ---- what stays

-- words in no page of these slots, and not this one
abbrev pub IsOther : View → List ℕ → ℕ → ℕ → Type 0
IsOther v ts at word = (word ≡ at → ⊥) × IsElsewhere v.layout.slots ts word

page_no_root : (slots t j n : ℕ) → n < 16 → ((32 + slots) + 64 * t) + j ≡ 10 + n → ⊥
page_no_root slots t j n few is = omega (arith, few, is)

same_slot : (slots t u j i : ℕ) → j < 64 → i < 64 → ((32 + slots) + 64 * t) + j ≡ ((32 + slots) + 64 * u) + i → t ≡ u
same_slot slots t u j i less fits is = omega (arith, less, fits, is)

-- a slot that was left once in all was left before, and not again
pub spared : (ts : List ℕ) (v w : View) (n : ℕ) → n < 16 → w.gone ≡ reverse ts ++ v.gone → (own : List ℕ)
    → ((t : ℕ) → Contains own t → 1 ≤ times t v.gone) → Spares (IsOther v ts (root_at n)) v w own
spared ts v w n few went own left t has once =
    let sum : times t w.gone ≡ times t (reverse ts) + times t v.gone =
    ap (times t) went ∙ times_append t (reverse ts) v.gone in
    let back = times_reverse t ts in
    let before = left t has in
    let none : times t ts ≡ 0 = omega (arith, sum, back, before, once) in (
      omega (arith, sum, back, before, once),
      λ j less. (
        page_no_root v.layout.slots t j n few,
        λ u there i fits is.
            let same : t ≡ u = same_slot v.layout.slots t u j i less fits is in
            let one = times_in t ts (subst (Contains ts) (sym same) there) in omega (arith, one, none),
      ),
    )

pub root_apart : (slots r n : ℕ) (ts : List ℕ) → r < n → n < 16 → (root_at r ≡ root_at n → ⊥) × IsElsewhere slots ts (root_at r)
root_apart slots r n ts less few = (
  λ is. omega (arith, less, is),
  λ t has i fits is. omega (arith, less, few, is),
)

-- ---- so many were gone over

pub record GoesOn (roots : List ℕ) (n : ℕ) (tally : Dropped) (v w : View) : Type 0 where
  pub over : HasGoneOver roots n tally w
  pub goes : GoesOver v w

abbrev pub none_yet : Dropped
none_yet = record { dropped = 0; kept = 0; first = None }

pub starts : (roots : List ℕ) (v : View) → v.kept ≡ [] → v.gone ≡ [] → v.swung ≡ [] → GoesOn roots 0 none_yet v v
starts roots v kept gone swung = record {
  over = record {
    met = [];
    long = refl;
    trees = λ r less. absurd (omega (arith, less));
    kept = kept;
    gone = gone;
    swung = swung;
    counts = counted_none none_yet;
  };
  goes = over_self v;
}

module _ (roots : List ℕ) (n : ℕ) (tally new : Dropped) (v u w : View) (few : n < 16) (a : GoesOn roots n tally v u)
    (h : HasVisited MetRoot dropped_root notes_root slots_root swings_root (IsRootTreeOf (get_or roots n 0) n) (root_at n) tally u new w)
  where
    goes : Goes (IsOther u (slots_root h.met) (root_at n)) u w
    goes = record {
      layout = ap (λ (x : View). x.layout) h.over.went;
      front = h.over.front;
      reads = λ word other. h.others word other.0 other.1;
    }

    left_before : (r t : ℕ) → Contains (slots_root (get_or a.over.met r LeftAlone)) t → 1 ≤ times t u.gone
    left_before r t has =
        let one = times_in t (slots_all a.over.met) (in_all a.over.met r t has) in
        let same : times t u.gone ≡ times t (slots_all a.over.met) =
        ap (times t) a.over.gone ∙ times_reverse t (slots_all a.over.met) in omega (arith, one, same)

    old_tree : (r : ℕ) → r < n → IsRootTree w roots r (get_or a.over.met r LeftAlone)
    old_tree r less =
        let m = get_or a.over.met r LeftAlone in
        root_stays (IsOther u (slots_root h.met) (root_at n)) u w goes roots r m
        (root_apart u.layout.slots r n (slots_root h.met) less few)
        (spared (slots_root h.met) u w n few h.gone (slots_root m) (left_before r)) (a.over.trees r less)

    tree_at : (r : ℕ) → (b : Bool) → eqb r n ≡ b → r < n + 1 → IsRootTree w roots r (get_or (a.over.met ++ h.met ∷ []) r LeftAlone)
    tree_at r true e less =
        let is : r ≡ length a.over.met = eqb-true r n e ∙ sym a.over.long in
        let here : get_or (a.over.met ++ h.met ∷ []) r LeftAlone ≡ h.met =
        ap (λ i. get_or (a.over.met ++ h.met ∷ []) i LeftAlone) is ∙ get_or-append_seam a.over.met h.met [] LeftAlone in
        subst (λ (m : MetRoot). IsRootTree w roots r m) (sym here)
        (subst (λ i. IsRootTree w roots i h.met) (sym (eqb-true r n e)) (h.tree roots refl))
    tree_at r false e less =
        let before : r < n = grind (arith, nat_tests) in
        let long = a.over.long in
        let there : get_or (a.over.met ++ h.met ∷ []) r LeftAlone ≡ get_or a.over.met r LeftAlone =
        get_or-append a.over.met (h.met ∷ []) LeftAlone r (omega (arith, before, long)) in
        subst (λ (m : MetRoot). IsRootTree w roots r m) (sym there) (old_tree r before)

    pub goes_on : GoesOn roots (n + 1) new v w
    goes_on = record {
      over = record {
        met = a.over.met ++ h.met ∷ [];
        long = length-append a.over.met (h.met ∷ []) ∙ ap (λ i. i + 1) a.over.long;
        trees = λ r less. tree_at r (eqb r n) refl less;
        kept = h.kept
            ∙ (ap (λ (l : List KeptPage). l ++ notes_root h.met) a.over.kept ∙ sym (notes_push a.over.met h.met));
        gone = h.gone
            ∙ (ap (λ (l : List ℕ). reverse (slots_root h.met) ++ l) a.over.gone
            ∙ (sym (reverse-append (slots_all a.over.met) (slots_root h.met))
            ∙ ap reverse (sym (slots_push a.over.met h.met))));
        swung = h.swung
            ∙ (ap (λ (l : List Swung). l ++ swings_root h.met) a.over.swung ∙ sym (swings_push a.over.met h.met));
        counts =
            subst (λ (l : List KeptPage). HasCounted none_yet (dropped_all (a.over.met ++ h.met ∷ [])) l new)
            (sym (notes_push a.over.met h.met))
            (subst (λ d. HasCounted none_yet d (notes_all a.over.met ++ notes_root h.met) new)
            (sym (dropped_push a.over.met h.met))
            (counted_then none_yet tally new (dropped_all a.over.met) (dropped_root h.met) (notes_all a.over.met)
            (notes_root h.met) a.over.counts h.counts));
      };
      goes = over_then v u w a.goes h.over;
    }

-- ---- there is room for a root more

all_few : (xs : List MetRoot)
    → ((r : ℕ) → r < length xs
    → dropped_root (get_or xs r LeftAlone) + length (notes_root (get_or xs r LeftAlone)) ≤ 4161)
    → dropped_all xs + length (notes_all xs) ≤ 4161 * length xs
all_few [] few = omega arith
all_few (x ∷ xs) few =
    let rest = all_few xs (λ r less. few (suc r) (omega (arith, less))) in
    let here = few 0 (omega arith) in
    let long = length-append (notes_root x) (notes_all xs) in omega (arith, rest, here, long)

pub has_room : (roots : List ℕ) (n : ℕ) (tally : Dropped) (w : View) → n < 16 → HasGoneOver roots n tally w
    → HasRoom 4161 tally
has_room roots n tally w few h =
    let long = h.long in
    let all = all_few h.met (λ r less.
    root_few w roots r (get_or h.met r LeftAlone) (h.trees r (omega (arith, less, long)))) in
    let dropped = h.counts.dropped in let kept = h.counts.kept in omega (arith, all, long, dropped, kept, few)

-- ---- what a root is asked

pub can_begun : (roots : List ℕ) (n : ℕ) (v w : View) → w ≡ begun n v → CanDropAll roots v → CanDropAll roots w
can_begun roots n v w is can =
    subst (CanDropAll roots) (sym is)
    record {
      bare = record {
        keeper = can.bare.keeper;
        idle = can.bare.idle;
        holds = can.bare.holds;
        made = can.bare.made;
        taken = can.bare.taken;
        locks = can.bare.locks;
        took = can.bare.took;
        parts = can.bare.parts;
        heads = can.bare.heads;
        shuts = can.bare.shuts;
      };
      ways = can.ways;
      declared = can.declared;
      long = can.long;
      there = can.there;
      room = can.room;
      leads = can.leads;
    }

pub can_go : (roots : List ℕ) (r : ℕ) (v u : View) → CanDropAll roots v → GoesOver v u → r < length roots
    → CanGoOver r (get_or roots r 0) u
can_go roots r v u can goes less =
    let layout : v.layout ≡ u.layout = sym (ap (λ (x : View). x.layout) goes.went) in
    record {
      bare = bare_over v u goes.went can.bare;
      ways = ap (λ (x : View). x.ways) goes.went ∙ can.ways;
      declared = subst (λ (l : Layout). AreDecls l.decls) layout can.declared;
      there = let there = can.there r less in let long = front_length v.pages u.pages goes.front in omega (arith, there, long);
      room = subst (λ (l : Layout). get_or roots r 0 ≤ l.resident) layout (can.room r less);
      lead = λ some.
          subst (λ (l : Layout). IsLeadOf u (root_span l.decls r) (get_or roots r 0)) layout
          (let x = can.leads r less some in (x.0, goes.leads x.0 x.1, x.2, x.3));
    }

-- ---- the end

-- the counts are noted
over_counts : (n : ℕ) (v u : View) (c : Counted) (k : ℕ) → WentOver (begun n v) u → (let w = counted c k u in w ≡ record v {
  steps = w.steps;
  last = w.last;
  reads = w.reads;
  history = w.history;
  decided = w.decided;
  touched = w.touched;
  loaded = w.loaded;
  known = w.known;
  moved = w.moved;
  inners = w.inners;
  swung = w.swung;
  copies = w.copies;
  blanks = w.blanks;
  new_leaves = w.new_leaves;
  new_inners = w.new_inners;
  pages = w.pages;
  leads = w.leads;
  gone = w.gone;
  kept = w.kept;
  sealed = [];
  drops = v.drops ++ c ∷ [];
})
over_counts n v u c k went =
    ap (λ (x : View). record x { steps = u.steps + 1; last = Some (glance u.steps clock_at k); drops = x.drops ++ c ∷ [] })
    went

counted_tree : (roots : List ℕ) (r : ℕ) (c : Counted) (k : ℕ) (u : View) (m : MetRoot) → IsRootTree u roots r m
    → IsRootTree (counted c k u) roots r m
counted_tree roots r c k u m h =
    root_stays (λ (word : ℕ). ⊤) u (counted c k u)
    record { layout = refl; front = front_refl u.pages; reads = λ word may. refl }
    roots r m tt (λ t has once. (once, λ j less. tt)) h

ended : (roots : List ℕ) (n k : ℕ) (tally : Dropped) (v u : View) → GoesOn roots (length roots) tally (begun n v) u
    → HasDroppedAll roots v tally (counted (record { dropped = tally.dropped; kept = tally.kept }) k u)
ended roots n k tally v u a =
    let c : Counted = record { dropped = tally.dropped; kept = tally.kept } in
    record {
      over = record {
        met = a.over.met;
        long = a.over.long;
        trees = λ r less. counted_tree roots r c k u (get_or a.over.met r LeftAlone) (a.over.trees r less);
        kept = a.over.kept;
        gone = a.over.gone;
        swung = a.over.swung;
        counts = a.over.counts;
      };
      is = over_counts n v u c k a.goes.went;
      later = let later = a.goes.later in omega (arith, later);
      front = a.goes.front;
      leads = a.goes.leads;
      more = record { drawn = a.goes.more.drawn; decided = a.goes.more.decided; touched = a.goes.more.touched };
    }

pub ends : (roots : List ℕ) (n k i : ℕ) (tally : Dropped) (v b u w : View) → b ≡ begun n v → GoesOn roots i tally b u
    → i ≡ length roots → w ≡ counted (record { dropped = tally.dropped; kept = tally.kept }) k u
    → HasDroppedAll roots v tally w
ends roots n k i tally v b u w begins a all counts =
    subst (HasDroppedAll roots v tally) (sym counts)
    (ended roots n k tally v u
    (subst (λ (x : View). GoesOn roots (length roots) tally x u) begins
    (subst (λ j. GoesOn roots j tally b u) all a)))

-- ---- the loop

pub begun_start : (roots : List ℕ) (n : ℕ) (v w : View) → w ≡ begun n v → GoesOn roots 0 none_yet (begun n v) w
begun_start roots n v w is =
    subst (λ (x : View). GoesOn roots 0 none_yet (begun n v) x) (sym is) (starts roots (begun n v) refl refl refl)

-- a root of a storage is one of those
pub root_less : (roots : List ℕ) (l : Layout) (r : ℕ) (v : View) → CanDropAll roots v → v.layout ≡ l
    → r < length l.decls → r < length roots
root_less roots l r v can same less =
    let long = can.long in
    let count : length v.layout.decls ≡ length l.decls = ap (λ (y : Layout). length y.decls) same in
    omega (arith, less, long, count)

pub root_all : (roots : List ℕ) (l : Layout) (v : View) → CanDropAll roots v → v.layout ≡ l
    → length l.decls ≡ length roots
root_all roots l v can same = sym (can.long ∙ ap (λ (y : Layout). length y.decls) same)

pub root_few_all : (roots : List ℕ) (l : Layout) (r : ℕ) (v : View) → CanDropAll roots v → v.layout ≡ l
    → r < length l.decls → r < 16
root_few_all roots l r v can same less =
    let few = can.declared.few in
    let count : length v.layout.decls ≡ length l.decls = ap (λ (y : Layout). length y.decls) same in
    omega (arith, less, few, count)

pub can_next : (roots : List ℕ) (n r : ℕ) (v u : View) → CanDropAll roots v → GoesOver (begun n v) u → r < length roots
    → CanGoOver r (get_or roots r 0) u
can_next roots n r v u can goes less =
    can_go roots r (begun n v) u (can_begun roots n v (begun n v) refl can) goes less

pub keeps_keeper : (roots : List ℕ) (n : ℕ) (v u : View) → CanDropAll roots v → GoesOver (begun n v) u → u.role ≡ Keeper
keeps_keeper roots n v u can goes = ap (λ (x : View). x.role) goes.went ∙ can.bare.keeper
