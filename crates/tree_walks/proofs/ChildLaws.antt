-- From an interior page to a child.
use Rattle.std.proofs.Common.{◌≡◌, ℕ, suc, ◌+◌, ◌-◌, ◌<◌, ◌≤◌, Bool, true, false, List, length, refl, sym, ap, ◌∙◌}
use Rattle.std.proofs.Common.{subst, arith, inl, inr, ltb, get_or}
use Rattle.std.specs.Prelude.{Ok, Err, Contains, if◌then◌else◌}
use Rattle.std.proofs.lemmas.Bool.Decides.{nat_tests}
use Rattle.serial_model.specs.declared.key.Key.{Key}
use Rattle.homes.specs.declared.places.At.TheVariants.{In}
use Rattle.homes.specs.declared.places.Span.{Span}
use Rattle.homes.specs.declared.places.Spot.{Spot}
use Rattle.homes.specs.Homes.{in_span}
use Rattle.tx_sets.specs.declared.seen.Seen.{Seen}
use Rattle.engine_pages.specs.declared.view.Inner.{Inner}
use Rattle.engine_pages.specs.declared.view.RefusalCause.{RefusalCause}
use Rattle.engine_pages.specs.declared.view.View.{View}
use Rattle.engine_pages.specs.Layout.{page_at, words_of}
use Rattle.engine_pages.specs.Pages.{is_tree, part_low}
use Rattle.engine_pages.specs.Pointers.{IsPointerAt}
use Rattle.array_pages.specs.Finding.{HasGlanced}
use Rattle.tree_walks.specs.declared.children.Child.{Child}
use Rattle.tree_walks.specs.declared.descent.Next.TheVariants as nexts
use Rattle.tree_walks.specs.declared.walk.Reached.TheVariants as reaches
use Rattle.tree_walks.specs.declared.ways.End.TheVariants as ends
use Rattle.tree_walks.specs.declared.ways.Page.{Page}
use Rattle.tree_walks.specs.Steps.{GoesSo, IsChildFor, IsFurther, IsReached, Went, bare_at}
use Rattle.tree_walks.specs.Walks.{CanWalk, HasWalked, IsNoHeader, IsTreesWord, LiesInPage}
use Rattle.tree_walks.specs.Ways.{IsOnWay}
use Rattle.tree_walks.proofs.HalfLaws.{bounds_of, span_over}
use Rattle.tree_walks.proofs.KeepLaws.{keeps_glanced}
use Rattle.tree_walks.proofs.PathLaws.{paths_glanced}
use Rattle.tree_walks.proofs.LoadLaws.{glanced_grip, glanced_walked, glanced_went}
use Rattle.tree_walks.proofs.RefusalLaws.{goes_on, goes_refused}
use Rattle.tree_walks.proofs.StepLaws.{inner_word, led_none, on_stays}

-- ---- which child has the key

-- The separators before this one are at most the key: so the child that begins with the last of them may have it.
pub record IsBegun (k : Key) (sp : Span) (x : Inner) (index low : ℕ) : Type 0 where
  pub is : low ≡ part_low sp x.separators index
  pub from : low ≤ k.key
  pub within : index ≤ length x.separators

pub begun_first : (k : Key) (sp : Span) (x : Inner) → in_span sp k ≡ true → IsBegun k sp x 0 sp.low
begun_first k sp x over = record { is = refl; from = (bounds_of sp k over).1; within = omega arith }

pub begun_next : (k : Key) (sp : Span) (x : Inner) (index low separator : ℕ) → IsBegun k sp x index low
    → index < length x.separators → separator ≡ get_or x.separators index 0 → separator ≤ k.key
    → IsBegun k sp x (suc index) separator
begun_next k sp x index low separator b less is from = record { is = is; from = from; within = omega (arith, less) }

-- it ends before the next separator
pub child_before : (k : Key) (v : View) (t : ℕ) (sp : Span) (x : Inner) (index low separator : ℕ) → Contains v.inners x
    → x.slot ≡ t → length x.separators < 30 → in_span sp k ≡ true → IsBegun k sp x index low
    → index < length x.separators
    → separator ≡ get_or x.separators index 0 → k.key < separator
    → IsChildFor k v t sp (record {
      index = index;
      span = record { storage = sp.storage; low = low; high = separator - 1 };
    })
child_before k v t sp x index low separator knows same few over b less is above =
    let test : ltb index (length x.separators) ≡ true = grind (arith, nat_tests) in record {
      inner = x;
      knows = knows;
      same = same;
      within = b.within;
      small = omega (arith, few, less);
      span =
          ap (λ (i : ℕ). let z : Span = record { storage = sp.storage; low = i; high = separator - 1 } in z) b.is
          ∙ (ap (λ (i : ℕ). let z : Span = record { storage = sp.storage; low = part_low sp x.separators index; high = i - 1 } in z) is
          ∙ ap (λ (c : Bool). let z : Span = record {
            storage = sp.storage;
            low = part_low sp x.separators index;
            high = if c then get_or x.separators index 0 - 1 else sp.high;
          } in z) (sym test));
      over = span_over sp k low (separator - 1) (bounds_of sp k over).0 b.from (omega (arith, above));
    }

-- or with the page
pub child_last : (k : Key) (v : View) (t : ℕ) (sp : Span) (x : Inner) (index low : ℕ) → Contains v.inners x
    → x.slot ≡ t → length x.separators < 30 → in_span sp k ≡ true → IsBegun k sp x index low
    → index ≡ length x.separators
    → IsChildFor k v t sp (record {
      index = index;
      span = record { storage = sp.storage; low = low; high = sp.high };
    })
child_last k v t sp x index low knows same few over b last =
    let test : ltb index (length x.separators) ≡ false = grind (arith, nat_tests) in record {
      inner = x;
      knows = knows;
      same = same;
      within = b.within;
      small = omega (arith, few, last);
      span =
          ap (λ (i : ℕ). let z : Span = record { storage = sp.storage; low = i; high = sp.high } in z) b.is
          ∙ ap (λ (c : Bool). let z : Span = record {
            storage = sp.storage;
            low = part_low sp x.separators index;
            high = if c then get_or x.separators index 0 - 1 else sp.high;
          } in z) (sym test);
      over = span_over sp k low sp.high (bounds_of sp k over).0 b.from (bounds_of sp k over).2;
    }

-- ---- the pointer to it

module _ (k : Key) (pointers headers : List Seen) (slots : List ℕ) (page : Page) (child : Child) (at : ℕ) (v g : View)
    (can : CanWalk slots v) (on : IsOnWay k v page.slot page.span) (gl : HasGlanced v g) (most : g.steps ≤ v.steps + 30)
    (c : IsChildFor k g page.slot page.span child)
    (word : at ≡ page_at g.layout.slots page.slot (4 + child.index)) where
  abbrev spot : Spot
  spot = record { slot = page.slot; index = child.index }

  walk : HasWalked v g
  walk = glanced_walked v g gl

  here : IsOnWay k g page.slot page.span
  here = on_stays k v g page.slot page.span walk on

  pub first : Went 30 slots v g
  first = glanced_went 30 slots v g can gl most

  pub child_tree : is_tree g.layout.decls child.span.storage ≡ true
  child_tree = subst (λ (q : Span). is_tree g.layout.decls q.storage ≡ true) (sym c.span) here.tree

  pub child_place : IsPointerAt g (In spot) child.span at
  child_place = inr (record {
    way = record { slot = page.slot; span = page.span };
    has = here.way;
    slot = refl;
    kind = here.tree;
    inner = c.inner;
    knows = c.knows;
    same = c.same;
    index = c.within;
    span = c.span;
    word = word;
  })

  pub child_word : IsTreesWord g at
  child_word =
      let small = c.small in
      subst (IsTreesWord g) (sym word)
      (inner_word k g page.slot (4 + child.index) page.span c.inner here c.knows c.same (omega (arith, small)))

  pub child_apart : IsNoHeader g.layout.slots at
  child_apart = λ t same. let small = c.small in absurd (omega (arith, same, word, small))

  pub child_inside : LiesInPage g.layout.slots (In spot) at
  child_inside = let small = c.small in omega (arith, word, small)

  pub child_within : at < words_of g.layout
  child_within =
      let there = here.there in
      let small = c.small in
      omega (arith, word, there, small)

  pub child_slot : (late : List ℕ) (t : ℕ) (w : View)
      → GoesSo 3 k pointers headers late (IsReached k pointers (In spot) child.span at) (Ok (reaches.Slot t)) g w
      → GoesSo 33 k pointers headers late (IsFurther k pointers headers page)
      (Ok (nexts.Down (record { slot = t; span = child.span }))) v w
  child_slot late t w h =
      goes_on 30 3 33 k pointers headers slots late (IsReached k pointers (In spot) child.span at)
      (IsFurther k pointers headers page) (reaches.Slot t) (nexts.Down (record { slot = t; span = child.span })) v g w
      (omega arith) first (led_none k v g (glanced_grip v g gl)) (keeps_glanced pointers headers v g gl)
      (paths_glanced k v g gl) h (
        h.came,
        inl (record {
          inner = c.inner;
          knows = h.went.walked.inners c.inner c.knows;
          same = c.same;
          index = child.index;
          within = c.within;
          span = c.span;
        }),
      )

  pub child_bare : (late : List ℕ) (n : ℕ) (w : View)
      → GoesSo 3 k pointers headers late (IsReached k pointers (In spot) child.span at) (Ok (reaches.Bare n)) g w
      → GoesSo 33 k pointers headers late (IsFurther k pointers headers page)
      (Ok (nexts.End (ends.Below (bare_at (In spot) child.span at n)))) v w
  child_bare late n w h =
      goes_on 30 3 33 k pointers headers slots late (IsReached k pointers (In spot) child.span at)
      (IsFurther k pointers headers page) (reaches.Bare n) (nexts.End (ends.Below (bare_at (In spot) child.span at n))) v g w
      (omega arith) first (led_none k v g (glanced_grip v g gl)) (keeps_glanced pointers headers v g gl)
      (paths_glanced k v g gl) h h.came

  pub child_refused : (late : List ℕ) (why : RefusalCause) (w : View)
      → GoesSo 3 k pointers headers late (IsReached k pointers (In spot) child.span at) (Err why) g w
      → GoesSo 33 k pointers headers late (IsFurther k pointers headers page) (Err why) v w
  child_refused late why w h =
      goes_refused 30 3 33 k pointers headers slots late (IsReached k pointers (In spot) child.span at)
      (IsFurther k pointers headers page) why v g w (omega arith) first (led_none k v g (glanced_grip v g gl))
      (paths_glanced k v g gl) h
