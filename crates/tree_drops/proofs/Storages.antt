-- The roots of an engine, gone over for their trees, one after another.
use Rattle.std.proofs.Common.{◌≡◌, inl, inr, ℕ, zero, suc, ◌+◌, ◌-◌, ◌*◌, ◌^◌, ◌<◌, ◌≤◌, Bool, true, false, true≢false, eqb, eq-eqb, eqb-true}
use Rattle.std.proofs.Common.{List, [], ◌∷◌, ◌++◌, length, get_or, Option, Some, None, refl, sym, ap, ◌∙◌, subst, arith}
use Rattle.std.proofs.lemmas.Bool.Decides.{nat_tests}
use Rattle.std.proofs.lemmas.List.{append-nil, append_assoc, length-append, reverse-append}
use Rattle.std.proofs.lemmas.List.Elements.{Contains-append_left, Contains-append_right}
use Rattle.std.proofs.Math.ListN.{get_or-append}
use Rattle.std.proofs.Math.Seq.{get_or-append_seam}
use Rattle.std.specs.Prelude.{reverse, slice_get, ⊤}
use Rattle.std.specs.List.{Contains}
use Rattle.lists.specs.Elements.{at_in, in_none}
use Rattle.lists.specs.Fronts.{IsFront, front_length, front_refl}
use Rattle.serial_model.specs.declared.decl.Decl.{Decl}
use Rattle.serial_model.specs.declared.decl.Decl.TheVariants.{Array, Tree}
use Rattle.serial_model.specs.Decls.{AreDecls}
use Rattle.homes.specs.declared.places.At.TheVariants.{Root}
use Rattle.homes.specs.declared.places.Span.{Span}
use Rattle.engine_pages.specs.declared.layout.Layout.{Layout}
use Rattle.engine_pages.specs.declared.view.Dropped.{Dropped as Counted}
use Rattle.engine_pages.specs.declared.view.KeptPage.{KeptPage}
use Rattle.engine_pages.specs.declared.view.Lead.{Lead}
use Rattle.engine_pages.specs.declared.view.Swung.{Swung}
use Rattle.engine_pages.specs.declared.view.Role.TheVariants.{Keeper}
use Rattle.engine_pages.specs.declared.view.View.{View}
use Rattle.engine_pages.specs.Layout.{clock_at, root_at}
use Rattle.engine_pages.specs.Pages.{is_tree, is_tree_kind, root_span}
use Rattle.engine_pages.specs.Steps.{glance}
use Rattle.dual_pointer.specs.Copies.{IsLeadOf}
use Rattle.page_drops.specs.declared.calls.Dropped.{Dropped}
use Rattle.page_drops.specs.Calls.{GoesOver as DropsOver, begun, counted, dropped_all, notes_all, slots_all, swings_all, CanDropAll, CanGoOver}
use Rattle.page_drops.specs.Calls.{IsBare, IsElsewhere}
use Rattle.page_drops.specs.Visits.{LeftAlone, MetRoot, OneHeight, ThreeHeights, TwoHeights, IsRootTree, dropped_root, notes_root, slots_root}
use Rattle.page_drops.specs.Visits.{times}
use Rattle.page_drops.specs.Works.{read_of}
use Rattle.page_drops.proofs.Alls.{IsOther, can_begun, in_all, root_apart, spared}
use Rattle.page_drops.proofs.Counts.{root_few}
use Rattle.page_drops.proofs.Roots.{decl_in, span_at}
use Rattle.page_drops.proofs.Stays.{Goes, Spares, root_stays, times_in, times_reverse}
use Rattle.tree_drops.specs.Calls.{HasDroppedAll, HasGoneArrays, HasGoneOver, HasGoneTrees, HasVisitedTree, IsBegun, IsTreeMet}
use Rattle.tree_drops.specs.Calls.{IsTreeRoot, MetTree, Grown, NoTree, dropped_trees, none_counted, notes_trees, row_of, slots_trees, swings_trees}
use Rattle.tree_drops.specs.Visits.{AreMet, CanVisit, GoesOver, HasVisited, IsFew, IsMet}
use Rattle.tree_drops.specs.Visits.{NoPages, PageThen, WentOver, dropped_in, notes_in, slots_in, swings_in}
use Rattle.tree_drops.proofs.Asks.{bare_over}
use Rattle.tree_drops.proofs.Ends.{tallied_as}
use Rattle.tree_drops.proofs.Notings.{notes_stay}
use Rattle.tree_drops.proofs.Overs.{layout_over, over_self, over_then}
use Rattle.tree_drops.proofs.Rows.{are_longer, met_longer, tallied_few, tallied_then}

-- ---- one storage more

pub dropped_push : (xs : List MetTree) (m : MetTree) → dropped_trees (xs ++ m ∷ []) ≡ dropped_trees xs + dropped_in (row_of m)
dropped_push [] m = omega arith
dropped_push (x ∷ xs) m = let rest = dropped_push xs m in omega (arith, rest)

pub notes_push : (xs : List MetTree) (m : MetTree) → notes_trees (xs ++ m ∷ []) ≡ notes_trees xs ++ notes_in (row_of m)
notes_push [] m = append-nil (notes_in (row_of m))
notes_push (x ∷ xs) m =
    ap (λ (l : List KeptPage). notes_in (row_of x) ++ l) (notes_push xs m)
    ∙ sym (append_assoc (notes_in (row_of x)) (notes_trees xs) (notes_in (row_of m)))

pub slots_push : (xs : List MetTree) (m : MetTree) → slots_trees (xs ++ m ∷ []) ≡ slots_trees xs ++ slots_in (row_of m)
slots_push [] m = append-nil (slots_in (row_of m))
slots_push (x ∷ xs) m =
    ap (λ (l : List ℕ). slots_in (row_of x) ++ l) (slots_push xs m)
    ∙ sym (append_assoc (slots_in (row_of x)) (slots_trees xs) (slots_in (row_of m)))

pub swings_push : (xs : List MetTree) (m : MetTree) → swings_trees (xs ++ m ∷ []) ≡ swings_trees xs ++ swings_in (row_of m)
swings_push [] m = append-nil (swings_in (row_of m))
swings_push (x ∷ xs) m =
    ap (λ (l : List Swung). swings_in (row_of x) ++ l) (swings_push xs m)
    ∙ sym (append_assoc (swings_in (row_of x)) (swings_trees xs) (swings_in (row_of m)))

-- ---- a storage's root

-- a tree's keys are more than an array has of any height
tree_high : (decls : List Decl) (r id : ℕ) → slice_get decls r ≡ Some (Tree id) → (root_span decls r).high ≡ 2 ^ 64 - 1
tree_high decls r id at = ap (λ (sp : Span). sp.high) (span_at decls r (Tree id) at)

tree_low : (decls : List Decl) (r id : ℕ) → slice_get decls r ≡ Some (Tree id) → (root_span decls r).low ≡ 0
tree_low decls r id at = ap (λ (sp : Span). sp.low) (span_at decls r (Tree id) at)

pub tree_is : (decls : List Decl) (r id : ℕ) → AreDecls decls → slice_get decls r ≡ Some (Tree id)
    → is_tree decls (root_span decls r).storage ≡ true
tree_is decls r id are at =
    ap (λ (sp : Span). is_tree decls sp.storage) (span_at decls r (Tree id) at)
    ∙ ap is_tree_kind (decl_in decls (Tree id) are.distinct (at_in decls r (Tree id) at))

pub array_is : (decls : List Decl) (r id size : ℕ) → AreDecls decls → slice_get decls r ≡ Some (Array id size)
    → is_tree decls (root_span decls r).storage ≡ false
array_is decls r id size are at =
    ap (λ (sp : Span). is_tree decls sp.storage) (span_at decls r (Array id size) at)
    ∙ ap is_tree_kind (decl_in decls (Array id size) are.distinct (at_in decls r (Array id size) at))

-- where there is none
pub no_tree : (l : Layout) (r page epoch : ℕ) (o : Option ℕ) (old : Dropped) (v : View) → v.layout ≡ l → AreDecls v.layout.decls
    → ((n : ℕ) → o ≡ Some n → ⊥) → IsTreeRoot l.decls r o → HasVisitedTree page epoch r old v old v
no_tree l r page epoch (Some n) old v same are none kind = absurd (none n refl)
no_tree l r page epoch None old v same are none h =
    inl (
      refl,
      refl,
      array_is v.layout.decls r h.0 h.1.0 are (ap (λ (y : Layout). slice_get y.decls r) same ∙ h.1.1),
    )

-- where there is one
module _ (l : Layout) (r page epoch id at : ℕ) (o : Option ℕ) (sp : Span) (v : View) (same : v.layout ≡ l) (can : CanGoOver r page v)
    (some : o ≡ Some id) (kind : IsTreeRoot l.decls r o) (less : r < length l.decls) (past : epoch ≤ v.past)
    (clean : v.sealed ≡ []) (place : at ≡ 10 + r) (keys : sp ≡ record { storage = id; low = 0; high = 2 ^ 64 - 1 }) where
  here : slice_get v.layout.decls r ≡ Some (Tree id)
  here = ap (λ (y : Layout). slice_get y.decls r) same ∙ subst (λ (x : Option ℕ). IsTreeRoot l.decls r x) some kind

  pub span_is : sp ≡ root_span v.layout.decls r
  span_is = keys ∙ sym (span_at v.layout.decls r (Tree id) here)

  few : r < 16
  few =
      let most = can.declared.few in
      let count : length v.layout.decls ≡ length l.decls = ap (λ (y : Layout). length y.decls) same in omega (arith, less, most, count)

  pub tree_at_root : is_tree v.layout.decls (root_span v.layout.decls r).storage ≡ true
  tree_at_root = tree_is v.layout.decls r id can.declared here

  pub can_visit_root : CanVisit (Root r) sp at page epoch v
  can_visit_root = record {
    bare = can.bare;
    unsealed = clean;
    narrow = λ way has. absurd (in_none way (subst (λ ws. Contains ws way) can.ways has));
    place = (
      subst (λ (y : Layout). r < length y.decls) (sym same) less,
      span_is,
      place,
    );
    inside = (let low = few in omega (arith, place, low));
    apart = λ t free i fits is. (let low = few in omega (arith, place, low, fits, is));
    tree = ap (λ (z : Span). is_tree v.layout.decls z.storage) span_is ∙ tree_at_root;
    there = can.there;
    room = can.room;
    lead = λ big. subst (λ (z : Span). IsLeadOf v z page) (sym span_is) (can.lead big);
    past = past;
  }

  pub visited_root : (old new : Dropped) (w : View) → HasVisited sp at page epoch old v new w → HasVisitedTree page epoch r old v new w
  visited_root old new w h =
      inr (
        (id, here),
        subst (λ n. HasVisited (root_span v.layout.decls r) n page epoch old v new w) place
            (subst (λ (z : Span). HasVisited z at page epoch old v new w) span_is h),
      )

-- ---- one more was gone over

-- what was met at a root stays told, where its word is as it was
root_met_stays : (P : ℕ → Type 0) (u w : View) (roots : List ℕ) (r epoch : ℕ) (m : MetTree) → GoesOver u w → Goes P u w
    → Spares P u w (slots_in (row_of m))
    → read_of w.reads (root_at r) ≡ read_of u.reads (root_at r) → IsTreeMet u roots r epoch m → IsTreeMet w roots r epoch m
root_met_stays P u w roots r epoch (Grown m below) over goes spare same h =
    let layout : w.layout ≡ u.layout = layout_over u w over in record {
      tree = ap (λ (l : Layout). is_tree l.decls (root_span l.decls r).storage) layout ∙ h.tree;
      at = h.at;
      span = h.span ∙ ap (λ (l : Layout). root_span l.decls r) (sym layout);
      page = h.page;
      whole = h.whole;
      noted = record {
        read = h.noted.read;
        is = ap (read_of w.reads) h.at ∙ (same ∙ (sym (ap (read_of u.reads) h.at) ∙ h.noted.is));
        sight = h.noted.sight;
      };
      met = subst (λ (l : Layout). IsMet l.slots epoch w.pages m below) (sym layout)
          (met_longer u.layout.slots epoch u.pages w.pages m below over.front h.met);
      under = subst (λ (l : Layout). AreMet l.slots epoch w.pages below) (sym layout)
          (are_longer u.layout.slots epoch u.pages w.pages below over.front h.under);
      notes = notes_stay P u w goes (PageThen m below NoPages) spare h.notes;
    }
root_met_stays P u w roots r epoch NoTree over goes spare same h =
    let layout : w.layout ≡ u.layout = layout_over u w over in
    ap (λ (l : Layout). is_tree l.decls (root_span l.decls r).storage) layout ∙ h

-- the slots of what was met at a root are among those of all
in_trees : (xs : List MetTree) (r t : ℕ) → Contains (slots_in (row_of (get_or xs r NoTree))) t → Contains (slots_trees xs) t
in_trees [] r t has = absurd (in_none t has)
in_trees (x ∷ xs) zero t has = Contains-append_left (slots_in (row_of x)) (slots_trees xs) t has
in_trees (x ∷ xs) (suc r) t has = Contains-append_right (slots_in (row_of x)) (slots_trees xs) t (in_trees xs r t has)

-- a tree's root isn't an array's
no_height : (decls : List Decl) (r last : ℕ) (sp : Span) → (root_span decls r).high ≡ 2 ^ 64 - 1 → sp ≡ root_span decls r
    → sp.high ≡ sp.low + last → sp.low ≡ 0 → last < 200000 → ⊥
no_height decls r last sp high same is low few =
    let one : sp.high ≡ 2 ^ 64 - 1 = ap (λ (z : Span). z.high) same ∙ high in omega (arith, one, is, low, few)

module _ (roots : List ℕ) (epoch n : ℕ) (old new : Dropped) (v u w : View) (most : length roots ≤ 16) (few : n < 16) (less : n < length roots)
    (high : (root_span u.layout.decls n).high ≡ 2 ^ 64 - 1) (low : (root_span u.layout.decls n).low ≡ 0)
    (tree : is_tree u.layout.decls (root_span u.layout.decls n).storage ≡ true) (a : HasGoneTrees roots epoch n v old u)
    (h : HasVisited (root_span u.layout.decls n) (root_at n) (get_or roots n 0) epoch old u new w) where
  abbrev ts : List ℕ
  ts = slots_in (PageThen h.here h.below NoPages)

  abbrev now : MetTree
  now = Grown h.here h.below

  layout_w : w.layout ≡ u.layout
  layout_w = layout_over u w h.over

  goes : Goes (IsOther u ts (root_at n)) u w
  goes = record {
    layout = layout_w;
    front = h.over.front;
    reads = λ word other. h.others word other.0 other.1;
  }

  other_root : (r : ℕ) → r < length roots → eqb r n ≡ false → (root_at r ≡ root_at n → ⊥) × IsElsewhere u.layout.slots ts (root_at r)
  other_root r within e = (
    λ is. (let same : r ≡ n = omega (arith, is) in true≢false (sym (eq-eqb r n same) ∙ e)),
    λ t has i fits is. omega (arith, within, most, is),
  )

  -- a slot of what was met before was left
  left_before : (own : List ℕ) → ((t : ℕ) → Contains own t → Contains (slots_all a.over.arrays) t) → (t : ℕ) → Contains own t
      → 1 ≤ times t u.gone
  left_before own all t has =
      let list = slots_all a.over.arrays ++ slots_trees a.over.trees in
      let one = times_in t list (Contains-append_left (slots_all a.over.arrays) (slots_trees a.over.trees) t (all t has)) in
      let same : times t u.gone ≡ times t list = ap (times t) a.over.gone ∙ times_reverse t list in omega (arith, one, same)

  left_tree : (own : List ℕ) → ((t : ℕ) → Contains own t → Contains (slots_trees a.over.trees) t) → (t : ℕ) → Contains own t
      → 1 ≤ times t u.gone
  left_tree own all t has =
      let list = slots_all a.over.arrays ++ slots_trees a.over.trees in
      let one = times_in t list (Contains-append_right (slots_all a.over.arrays) (slots_trees a.over.trees) t (all t has)) in
      let same : times t u.gone ≡ times t list = ap (times t) a.over.gone ∙ times_reverse t list in omega (arith, one, same)

  old_array : (r : ℕ) → r < length roots → (b : Bool) → eqb r n ≡ b → IsRootTree w roots r (get_or a.over.arrays r LeftAlone)
  old_array r within true e =
      let same : r ≡ n = eqb-true r n e in
      at_tree (get_or a.over.arrays r LeftAlone)
      (subst (λ k. IsRootTree u roots k (get_or a.over.arrays r LeftAlone)) same (a.over.array r within))
      (λ m h. subst (λ k. IsRootTree w roots k m) (sym same) h)
    where
      at_tree : (m : MetRoot) → IsRootTree u roots n m → ((x : MetRoot) → IsRootTree w roots n x → IsRootTree w roots r x)
          → IsRootTree w roots r m
      at_tree (OneHeight m) h back = absurd (no_height u.layout.decls n 31 m.span high h.0.span h.1 (ap (λ (z : Span). z.low) h.0.span ∙ low) (omega arith))
      at_tree (TwoHeights m) h back = absurd (no_height u.layout.decls n 2047 m.span high h.0.span h.1 (ap (λ (z : Span). z.low) h.0.span ∙ low) (omega arith))
      at_tree (ThreeHeights m) h back = absurd (no_height u.layout.decls n 131071 m.span high h.0.span h.1 (ap (λ (z : Span). z.low) h.0.span ∙ low) (omega arith))
      at_tree LeftAlone h back =
          back LeftAlone (subst (λ (l : Layout). IsRootTree (record w { layout = l }) roots n LeftAlone) (sym layout_w) h)
  old_array r within false e =
      let m = get_or a.over.arrays r LeftAlone in
      root_stays (IsOther u ts (root_at n)) u w goes roots r m
      (other_root r within e)
      (spared ts u w n few h.gone (slots_root m) (left_before (slots_root m) (λ t has. in_all a.over.arrays r t has)))
      (a.over.array r within)

  old_tree : (r : ℕ) → r < n → IsTreeMet w roots r epoch (get_or a.over.trees r NoTree)
  old_tree r before =
      let apart = root_apart u.layout.slots r n ts before few in
      let m = get_or a.over.trees r NoTree in
      root_met_stays (IsOther u ts (root_at n)) u w roots r epoch m h.over goes
      (spared ts u w n few h.gone (slots_in (row_of m)) (left_tree (slots_in (row_of m)) (λ t has. in_trees a.over.trees r t has)))
      (h.others (root_at r) apart.0 apart.1)
      (a.over.tree r before)

  new_tree : IsTreeMet w roots n epoch now
  new_tree = record {
    tree = ap (λ (l : Layout). is_tree l.decls (root_span l.decls n).storage) layout_w ∙ tree;
    at = h.place;
    span = h.span ∙ ap (λ (l : Layout). root_span l.decls n) (sym layout_w);
    page = h.number;
    whole = h.whole;
    noted = h.noted;
    met = h.met;
    under = h.under;
    notes = h.notes;
  }

  tree_at : (r : ℕ) (b : Bool) → eqb r n ≡ b → r < n + 1 → IsTreeMet w roots r epoch (get_or (a.over.trees ++ now ∷ []) r NoTree)
  tree_at r true e within =
      let same : r ≡ n = eqb-true r n e in
      let is : r ≡ length a.over.trees = same ∙ sym a.over.each_tree in
      let own : get_or (a.over.trees ++ now ∷ []) r NoTree ≡ now =
      ap (λ i. get_or (a.over.trees ++ now ∷ []) i NoTree) is ∙ get_or-append_seam a.over.trees now [] NoTree in
      subst (λ (m : MetTree). IsTreeMet w roots r epoch m) (sym own)
      (subst (λ i. IsTreeMet w roots i epoch now) (sym same) new_tree)
  tree_at r false e within =
      let before : r < n = grind (arith, nat_tests) in
      let long = a.over.each_tree in
      let there : get_or (a.over.trees ++ now ∷ []) r NoTree ≡ get_or a.over.trees r NoTree =
      get_or-append a.over.trees (now ∷ []) NoTree r (omega (arith, before, long)) in
      subst (λ (m : MetTree). IsTreeMet w roots r epoch m) (sym there) (old_tree r before)

  list_then : {X : Type 0} → (v u w xs ys zs : List X) → u ≡ xs ++ ys → w ≡ u ++ zs → w ≡ xs ++ (ys ++ zs)
  list_then v u w xs ys zs one two = two ∙ (ap (λ l. l ++ zs) one ∙ append_assoc xs ys zs)

  pub tree_next : HasGoneTrees roots epoch (n + 1) v new w
  tree_next = record {
    over = record {
      arrays = a.over.arrays;
      trees = a.over.trees ++ now ∷ [];
      each_array = a.over.each_array;
      each_tree = length-append a.over.trees (now ∷ []) ∙ ap (λ i. i + 1) a.over.each_tree;
      array = λ r within. old_array r within (eqb r n) refl;
      tree = λ r within. tree_at r (eqb r n) refl within;
      kept = list_then v.kept u.kept w.kept (notes_all a.over.arrays) (notes_trees a.over.trees) (notes_in (row_of now)) a.over.kept
          h.kept
          ∙ ap (λ l. notes_all a.over.arrays ++ l) (sym (notes_push a.over.trees now));
      gone = h.gone
          ∙ (ap (λ l. reverse (slots_in (row_of now)) ++ l) a.over.gone
          ∙ (sym (reverse-append (slots_all a.over.arrays ++ slots_trees a.over.trees) (slots_in (row_of now)))
          ∙ ap (λ l. reverse l)
          (append_assoc (slots_all a.over.arrays) (slots_trees a.over.trees) (slots_in (row_of now))
          ∙ ap (λ l. slots_all a.over.arrays ++ l) (sym (slots_push a.over.trees now)))));
      swung = list_then v.swung u.swung w.swung (swings_all a.over.arrays) (swings_trees a.over.trees) (swings_in (row_of now))
          a.over.swung h.swung
          ∙ ap (λ l. swings_all a.over.arrays ++ l) (sym (swings_push a.over.trees now));
      counts = tallied_as none_counted new ((dropped_all a.over.arrays + dropped_trees a.over.trees) + dropped_in (row_of now))
          (dropped_all a.over.arrays + dropped_trees (a.over.trees ++ now ∷ []))
          ((notes_all a.over.arrays ++ notes_trees a.over.trees) ++ notes_in (row_of now))
          (notes_all a.over.arrays ++ notes_trees (a.over.trees ++ now ∷ []))
          (let push = dropped_push a.over.trees now in omega (arith, push))
          (append_assoc (notes_all a.over.arrays) (notes_trees a.over.trees) (notes_in (row_of now))
          ∙ ap (λ l. notes_all a.over.arrays ++ l) (sym (notes_push a.over.trees now)))
          (tallied_then none_counted old new (dropped_all a.over.arrays + dropped_trees a.over.trees) (dropped_in (row_of now))
          (notes_all a.over.arrays ++ notes_trees a.over.trees) (notes_in (row_of now)) a.over.counts h.counts);
    };
    goes = over_then v u w a.goes h.over;
  }

-- an array was left alone
module _ (roots : List ℕ) (epoch n : ℕ) (old : Dropped) (v u : View)
    (array : is_tree u.layout.decls (root_span u.layout.decls n).storage ≡ false) (a : HasGoneTrees roots epoch n v old u) where
  abbrev trees : List MetTree
  trees = a.over.trees ++ NoTree ∷ []

  none_at : (r : ℕ) (b : Bool) → eqb r n ≡ b → r < n + 1 → IsTreeMet u roots r epoch (get_or trees r NoTree)
  none_at r true e within =
      let same : r ≡ n = eqb-true r n e in
      let is : r ≡ length a.over.trees = same ∙ sym a.over.each_tree in
      let own : get_or trees r NoTree ≡ NoTree =
      ap (λ i. get_or trees i NoTree) is ∙ get_or-append_seam a.over.trees NoTree [] NoTree in
      subst (λ (m : MetTree). IsTreeMet u roots r epoch m) (sym own)
      (subst (λ i. IsTreeMet u roots i epoch NoTree) (sym same) array)
  none_at r false e within =
      let before : r < n = grind (arith, nat_tests) in
      let long = a.over.each_tree in
      let there : get_or trees r NoTree ≡ get_or a.over.trees r NoTree =
      get_or-append a.over.trees (NoTree ∷ []) NoTree r (omega (arith, before, long)) in
      subst (λ (m : MetTree). IsTreeMet u roots r epoch m) (sym there) (a.over.tree r before)

  pub array_next : HasGoneTrees roots epoch (n + 1) v old u
  array_next = record {
    over = record {
      arrays = a.over.arrays;
      trees = trees;
      each_array = a.over.each_array;
      each_tree = length-append a.over.trees (NoTree ∷ []) ∙ ap (λ i. i + 1) a.over.each_tree;
      array = a.over.array;
      tree = λ r within. none_at r (eqb r n) refl within;
      kept = a.over.kept
          ∙ ap (λ l. notes_all a.over.arrays ++ l)
          (sym (append-nil (notes_trees a.over.trees)) ∙ sym (notes_push a.over.trees NoTree));
      gone = a.over.gone
          ∙ ap (λ l. reverse (slots_all a.over.arrays ++ l))
          (sym (append-nil (slots_trees a.over.trees)) ∙ sym (slots_push a.over.trees NoTree));
      swung = a.over.swung
          ∙ ap (λ l. swings_all a.over.arrays ++ l)
          (sym (append-nil (swings_trees a.over.trees)) ∙ sym (swings_push a.over.trees NoTree));
      counts = tallied_as none_counted old (dropped_all a.over.arrays + dropped_trees a.over.trees)
          (dropped_all a.over.arrays + dropped_trees trees) (notes_all a.over.arrays ++ notes_trees a.over.trees)
          (notes_all a.over.arrays ++ notes_trees trees)
          (let push = dropped_push a.over.trees NoTree in omega (arith, push))
          (ap (λ l. notes_all a.over.arrays ++ l)
          (sym (append-nil (notes_trees a.over.trees)) ∙ sym (notes_push a.over.trees NoTree)))
          a.over.counts;
    };
    goes = a.goes;
  }

-- ---- the arrays were gone over

-- a count that has room for all is one that stops nowhere
counted_few : (xs : List MetRoot) → ((r : ℕ) → r < length xs
    → dropped_root (get_or xs r LeftAlone) + length (notes_root (get_or xs r LeftAlone)) ≤ 4161)
    → dropped_all xs + length (notes_all xs) ≤ 4161 * length xs
counted_few [] few = omega arith
counted_few (x ∷ xs) few =
    let rest = counted_few xs (λ r less. few (suc r) (omega (arith, less))) in
    let here = few 0 (omega arith) in
    let long = length-append (notes_root x) (notes_all xs) in omega (arith, rest, here, long)

pub arrays_gone : (roots : List ℕ) (epoch : ℕ) (tally : Dropped) (v w : View) → length roots ≤ 16 → HasGoneArrays roots v tally w
    → HasGoneTrees roots epoch 0 w tally w
arrays_gone roots epoch tally v w most h =
    let long = h.over.long in
    let all = counted_few h.over.met
    (λ r less. root_few w roots r (get_or h.over.met r LeftAlone) (h.over.trees r (omega (arith, less, long)))) in
    let dropped = h.over.counts.dropped in
    let kept = h.over.counts.kept in
    record {
      over = record {
        arrays = h.over.met;
        trees = [];
        each_array = h.over.long;
        each_tree = refl;
        array = h.over.trees;
        tree = λ r less. absurd (omega (arith, less));
        kept = h.over.kept ∙ sym (append-nil (notes_all h.over.met));
        gone = h.over.gone ∙ ap (λ l. reverse l) (sym (append-nil (slots_all h.over.met)));
        swung = h.over.swung ∙ sym (append-nil (swings_all h.over.met));
        counts = tallied_as none_counted tally (dropped_all h.over.met) (dropped_all h.over.met + 0) (notes_all h.over.met)
            (notes_all h.over.met ++ []) (omega arith) (sym (append-nil (notes_all h.over.met)))
            record {
              dropped = inl (omega (arith, all, long, most), dropped);
              kept = inl (omega (arith, all, long, most), kept);
              first = h.over.counts.first;
            };
      };
      goes = over_self w;
    }

-- what a root is asked stays so
pub can_all : (roots : List ℕ) (v w : View) → CanDropAll roots v → IsBare w → w.ways ≡ v.ways → w.layout ≡ v.layout
    → IsFront v.pages w.pages → ((z : Lead) → Contains v.leads z → Contains w.leads z) → CanDropAll roots w
can_all roots v w can bare ways layout front leads = record {
  bare = bare;
  ways = ways ∙ can.ways;
  declared = subst (λ (l : Layout). AreDecls l.decls) (sym layout) can.declared;
  long = can.long ∙ ap (λ (l : Layout). length l.decls) (sym layout);
  there = λ r less. (let low = can.there r less in let long = front_length v.pages w.pages front in omega (arith, low, long));
  room = λ r less. subst (λ (l : Layout). get_or roots r 0 ≤ l.resident) (sym layout) (can.room r less);
  leads = λ r less some.
      subst (λ (l : Layout). IsLeadOf w (root_span l.decls r) (get_or roots r 0)) (sym layout)
      (let x = can.leads r less some in (x.0, leads x.0 x.1, x.2, x.3));
}

pub can_go_tree : (roots : List ℕ) (epoch n r : ℕ) (old : Dropped) (v u : View) → CanDropAll roots v → HasGoneTrees roots epoch n v old u
    → r < length roots → CanGoOver r (get_or roots r 0) u
can_go_tree roots epoch n r old v u can a less =
    let goes = a.goes in
    let all = can_all roots v u can (bare_over v u goes can.bare) (ap (λ (z : View). z.ways) goes.went) (layout_over v u goes) goes.front
    goes.leads in record {
      bare = all.bare;
      ways = all.ways;
      declared = all.declared;
      there = all.there r less;
      room = all.room r less;
      lead = all.leads r less;
    }

pub few_so_far : (roots : List ℕ) (epoch all n : ℕ) (tally : Dropped) (w : View) → HasGoneOver roots epoch all n tally w → IsFew tally
few_so_far roots epoch all n tally w h =
    tallied_few none_counted tally (dropped_all h.arrays + dropped_trees h.trees) (notes_all h.arrays ++ notes_trees h.trees) h.counts

-- either storage
pub storage_next : (roots : List ℕ) (epoch n : ℕ) (old new : Dropped) (v u w : View) → CanDropAll roots v → n < length roots
    → HasGoneTrees roots epoch n v old u → HasVisitedTree (get_or roots n 0) epoch n old u new w → HasGoneTrees roots epoch (n + 1) v new w
storage_next roots epoch n old new v u w can less a (inl none) =
    subst (λ (z : View). HasGoneTrees roots epoch (n + 1) v new z) (sym none.1)
    (subst (λ (x : Dropped). HasGoneTrees roots epoch (n + 1) v x u) (sym none.0) (array_next roots epoch n old v u none.2 a))
storage_next roots epoch n old new v u w can less a (inr some) =
    let declared = can.declared.few in
    let long = can.long in
    let are : AreDecls u.layout.decls = subst (λ (l : Layout). AreDecls l.decls) (sym (layout_over v u a.goes)) can.declared in
    tree_next roots epoch n old new v u w (omega (arith, declared, long)) (omega (arith, declared, long, less)) less
    (tree_high u.layout.decls n some.0.0 some.0.1) (tree_low u.layout.decls n some.0.0 some.0.1)
    (tree_is u.layout.decls n some.0.0 are some.0.1) a some.1

-- ---- the end

-- the counts are noted
over_counts : (n : ℕ) (v u : View) (c : Counted) (k : ℕ) → WentOver (begun n v) u → (let w = counted c k u in w ≡ record v {
  steps = w.steps;
  last = w.last;
  reads = w.reads;
  history = w.history;
  decided = w.decided;
  touched = w.touched;
  loaded = w.loaded;
  known = w.known;
  moved = w.moved;
  inners = w.inners;
  versions = w.versions;
  swung = w.swung;
  copies = w.copies;
  blanks = w.blanks;
  new_leaves = w.new_leaves;
  new_inners = w.new_inners;
  pages = w.pages;
  leads = w.leads;
  gone = w.gone;
  kept = w.kept;
  sealed = [];
  drops = v.drops ++ c ∷ [];
})
over_counts n v u c k went =
    ap (λ (x : View). record x { steps = u.steps + 1; last = Some (glance u.steps clock_at k); drops = x.drops ++ c ∷ [] })
    went

counted_array : (roots : List ℕ) (r : ℕ) (c : Counted) (k : ℕ) (u : View) (m : MetRoot) → IsRootTree u roots r m
    → IsRootTree (counted c k u) roots r m
counted_array roots r c k u m h =
    root_stays (λ (word : ℕ). ⊤) u (counted c k u)
    record { layout = refl; front = front_refl u.pages; reads = λ word may. refl }
    roots r m tt (λ t has once. (once, λ j less. tt)) h

counted_tree : (roots : List ℕ) (r epoch : ℕ) (c : Counted) (k : ℕ) (u : View) (m : MetTree) → IsTreeMet u roots r epoch m
    → IsTreeMet (counted c k u) roots r epoch m
counted_tree roots r epoch c k u (Grown m below) h = record {
  tree = h.tree;
  at = h.at;
  span = h.span;
  page = h.page;
  whole = h.whole;
  noted = record { read = h.noted.read; is = h.noted.is; sight = h.noted.sight };
  met = h.met;
  under = h.under;
  notes = notes_stay (λ (word : ℕ). ⊤) u (counted c k u)
      record { layout = refl; front = front_refl u.pages; reads = λ word may. refl }
      (PageThen m below NoPages) (λ t has once. (once, λ j less. tt)) h.notes;
}
counted_tree roots r epoch c k u NoTree h = h

ended : (roots : List ℕ) (epoch n k : ℕ) (tally : Dropped) (v u : View) → GoesOver (begun n v) u
    → HasGoneOver roots epoch (length roots) (length roots) tally u
    → HasDroppedAll roots epoch v tally (counted (record { dropped = tally.dropped; kept = tally.kept }) k u)
ended roots epoch n k tally v u goes a =
    let c : Counted = record { dropped = tally.dropped; kept = tally.kept } in
    record {
      over = record {
        arrays = a.arrays;
        trees = a.trees;
        each_array = a.each_array;
        each_tree = a.each_tree;
        array = λ r less. counted_array roots r c k u (get_or a.arrays r LeftAlone) (a.array r less);
        tree = λ r less. counted_tree roots r epoch c k u (get_or a.trees r NoTree) (a.tree r less);
        kept = a.kept;
        gone = a.gone;
        swung = a.swung;
        counts = a.counts;
      };
      is = over_counts n v u c k goes.went;
      later = let later = goes.later in omega (arith, later);
      front = goes.front;
      leads = goes.leads;
      more = record { drawn = goes.more.drawn; decided = goes.more.decided; touched = goes.more.touched };
    }

-- what page_drops tells of it
pub over_drops : (v w : View) → DropsOver v w → GoesOver v w
over_drops v w h = record {
  went = ap (λ (z : View). let y : View = record z { versions = w.versions } in y) h.went;
  later = h.later;
  front = h.front;
  leads = h.leads;
  more = h.more;
}

pub ends : (roots : List ℕ) (epoch n k : ℕ) (tally arrays : Dropped) (v b a u w : View) → b ≡ begun n v → HasGoneArrays roots b arrays a
    → HasGoneTrees roots epoch (length roots) a tally u
    → w ≡ counted (record { dropped = tally.dropped; kept = tally.kept }) k u → HasDroppedAll roots epoch v tally w
ends roots epoch n k tally arrays v b a u w begins first rest counts =
    subst (HasDroppedAll roots epoch v tally) (sym counts)
    (ended roots epoch n k tally v u
    (subst (λ (x : View). GoesOver x u) begins (over_then b a u (over_drops b a first.goes) rest.goes)) rest.over)

-- ---- between the parts

pub begun_all : (roots : List ℕ) (n : ℕ) (v w : View) → w ≡ begun n v → CanDropAll roots v → CanDropAll roots w
begun_all roots n v w is can = can_begun roots n v w is can

pub begun_is : (n : ℕ) (v w : View) → w ≡ begun n v → IsBegun w
begun_is n v w is = record {
  kept = ap (λ (z : View). z.kept) is;
  gone = ap (λ (z : View). z.gone) is;
  swung = ap (λ (z : View). z.swung) is;
  unsealed = ap (λ (z : View). z.sealed) is;
}

-- no header of a split leaf is locked behind the arrays
pub clean_behind : (roots : List ℕ) (n : ℕ) (tally : Dropped) (v b a : View) → b ≡ begun n v → HasGoneArrays roots b tally a → a.sealed ≡ []
clean_behind roots n tally v b a is h =
    ap (λ (z : View). z.sealed) (over_drops b a h.goes).went ∙ ap (λ (z : View). z.sealed) is

pub can_behind : (roots : List ℕ) (n : ℕ) (tally : Dropped) (v b a : View) → b ≡ begun n v → CanDropAll roots v
    → HasGoneArrays roots b tally a → CanDropAll roots a
can_behind roots n tally v b a is can h =
    let first = begun_all roots n v b is can in
    let goes = over_drops b a h.goes in
    can_all roots b a first (bare_over b a goes first.bare) (ap (λ (z : View). z.ways) goes.went) (layout_over b a goes) goes.front
    goes.leads

pub past_behind : (roots : List ℕ) (epoch n : ℕ) (tally : Dropped) (v b a : View) → b ≡ begun n v → epoch ≤ v.past
    → HasGoneArrays roots b tally a → epoch ≤ a.past
past_behind roots epoch n tally v b a is past h =
    subst (λ m. epoch ≤ m) (sym (ap (λ (z : View). z.past) (over_drops b a h.goes).went ∙ ap (λ (z : View). z.past) is)) past

pub few_roots : (roots : List ℕ) (v : View) → CanDropAll roots v → length roots ≤ 16
few_roots roots v can = let long = can.long in let few = can.declared.few in omega (arith, long, few)

pub keeper_behind : (roots : List ℕ) (epoch n : ℕ) (arrays tally : Dropped) (v b a u : View) → b ≡ begun n v → CanDropAll roots v
    → HasGoneArrays roots b arrays a → HasGoneTrees roots epoch (length roots) a tally u → u.role ≡ Keeper
keeper_behind roots epoch n arrays tally v b a u is can h rest =
    ap (λ (z : View). z.role) rest.goes.went
    ∙ (ap (λ (z : View). z.role) (over_drops b a h.goes).went ∙ (ap (λ (z : View). z.role) is ∙ can.bare.keeper))
