-- One page further down, and the way as a whole.
use Rattle.std.proofs.Common.{◌≡◌, ◌≢◌, ℕ, suc, ◌+◌, ◌*◌, ◌^◌, ◌<◌, ◌≤◌, Bool, true, false, List, [], ◌∷◌, length}
use Rattle.std.proofs.Common.{refl, sym, ap, ◌∙◌, subst, arith, inl, inr, ltb}
use Rattle.std.specs.Prelude.{Ok, Err, Contains, Result}
use Rattle.std.proofs.lemmas.Bool.Decides.{nat_tests}
use Rattle.lists.specs.Elements.{in_head}
use Rattle.serial_model.specs.declared.key.Key.{Key}
use Rattle.tx_sets.specs.declared.seen.Seen.{Seen}
use Rattle.engine_pages.specs.declared.layout.Layout.{Layout}
use Rattle.engine_pages.specs.declared.view.Known.{Known}
use Rattle.engine_pages.specs.declared.view.Moved.{Moved}
use Rattle.engine_pages.specs.declared.view.RefusalCause.{RefusalCause}
use Rattle.engine_pages.specs.declared.view.RefusalCause.TheVariants as causes
use Rattle.engine_pages.specs.declared.view.SetName.TheVariants as sets
use Rattle.engine_pages.specs.declared.view.View.{View}
use Rattle.engine_pages.specs.declared.view.Way.{Way}
use Rattle.engine_pages.specs.Layout.{page_at}
use Rattle.engine_pages.specs.Steps.{seen_at}
use Rattle.tree_heads.specs.Headers.{Headed, count_of, kind_of, moved_bit, moved_locked}
use Rattle.array_pages.specs.Steps.{IsMetElse}
use Rattle.tree_walks.specs.declared.descent.Next.TheVariants as nexts
use Rattle.tree_walks.specs.declared.ways.End.{End}
use Rattle.tree_walks.specs.declared.ways.End.TheVariants as ends
use Rattle.tree_walks.specs.declared.ways.Page.{Page}
use Rattle.tree_walks.specs.Steps.{GoesSo, IsFurther, IsHalfBelow, IsInnerAt, IsSplitAt, Went}
use Rattle.tree_walks.specs.Walks.{AreLedTo, CanWalk, IsTreesWord, KeepsMet, OnlyWaysOn}
use Rattle.tree_walks.specs.Ways.{HasCome, IsMetSo, IsOnWay, IsPath, RefusesWalk}
use Rattle.tree_walks.proofs.KeepLaws.{keeps_header, keeps_none, keeps_then}
use Rattle.tree_walks.proofs.PathLaws.{head_paths, paths_same, paths_then}
use Rattle.tree_walks.proofs.LoadLaws.{IsLoad, head_load, inner_headed, leaf_headed, load_went, split_headed}
use Rattle.tree_walks.proofs.RefusalLaws.{goes_behind, goes_on, goes_refused}
use Rattle.tree_walks.proofs.StepLaws.{head_word, layout_stays, led_none, led_then, on_stays, went_more, went_self, went_then}
use Rattle.tree_walks.proofs.StepLaws.{word_stays}
use Rattle.tree_walks.proofs.WayLaws.{path_stays}

-- ---- the header of a page on the way was loaded

module _ (k : Key) (pointers headers : List Seen) (slots : List ℕ) (page : Page) (at : ℕ) (v : View) (n : ℕ) (u : View)
    (can : CanWalk slots v) (on : IsOnWay k v page.slot page.span) (word : at ≡ page_at v.layout.slots page.slot 0)
    (h : Headed page.slot page.span at v n u) where
  pub loaded : IsLoad at v n u
  loaded = head_load page.slot page.span at v n u can.agree h

  pub first : Went 1 slots v u
  first =
      load_went slots at v n u can
      (word_stays v u at loaded.walked (subst (IsTreesWord v) (sym word) (head_word k v page.slot page.span on)))
      loaded

  pub first_paths : OnlyWaysOn k v u
  first_paths = head_paths k page.slot page.span at v n u h

  pub still_on : IsOnWay k u page.slot page.span
  still_on = on_stays k v u page.slot page.span loaded.walked on

  pub still_word : at ≡ page_at u.layout.slots page.slot 0
  still_word = word ∙ ap (λ (y : Layout). page_at y.slots page.slot 0) (sym (layout_stays v u loaded.walked))

  -- an interior page
  pub inner_at : kind_of n ≢ 1 → IsInnerAt u page.slot (count_of n)
  inner_at other =
      let c = inner_headed page.slot page.span at v n u other h in record {
        inner = record { slot = page.slot; separators = c.separators };
        knows =
            subst (λ (z : View). Contains z.inners (record { slot = page.slot; separators = c.separators })) (sym c.is)
            (in_head (record { slot = page.slot; separators = c.separators }) v.inners);
        same = refl;
        few = c.few;
        count = c.count;
      }

  -- a leaf
  pub leaf_known : kind_of n ≡ 1 → (leaf : Known) × Contains u.known leaf × (leaf.slot ≡ page.slot)
  leaf_known kind = by_low (ltb n moved_bit) refl
    where
      by_low : (b : Bool) → ltb n moved_bit ≡ b → (leaf : Known) × Contains u.known leaf × (leaf.slot ≡ page.slot)
      by_low true less =
          let low : n < moved_bit = grind (arith, nat_tests) in
          let c = leaf_headed page.slot page.span at v n u kind low h in (
            record { slot = page.slot; keys = c.keys },
            subst (λ (z : View). Contains z.known (record { slot = page.slot; keys = c.keys })) (sym c.is)
                (in_head (record { slot = page.slot; keys = c.keys }) v.known),
            refl,
          )
      by_low false more =
          let high : moved_bit ≤ n = grind (arith, nat_tests) in
          let c = split_headed page.slot page.span at v n u kind high h in (
            record { slot = page.slot; keys = c.keys },
            subst (λ (z : View). Contains z.known (record { slot = page.slot; keys = c.keys })) (sym c.is)
                (in_head (record { slot = page.slot; keys = c.keys }) v.known),
            refl,
          )

  -- the set has the header with another word
  pub head_other : (why : RefusalCause) → IsMetElse headers at n why
      → GoesSo 35 k pointers headers slots (IsFurther k pointers headers page) (Err why) v u
  head_other why else = record {
    went = went_more 1 35 slots v u (omega arith) first;
    led = tt;
    keeps = tt;
    paths = first_paths;
    came = tt;
    cause = by_cause why else;
  }
    where
      by_cause : (why : RefusalCause) → IsMetElse headers at n why → RefusesWalk k pointers headers slots why v u
      by_cause (causes.Conflict other expected seen) m =
          subst (λ j. RefusesWalk k pointers headers slots (causes.Conflict j expected seen) v u) (sym m.0)
          (subst (λ i. RefusesWalk k pointers headers slots (causes.Conflict at expected i) v u) (sym m.1)
          (inr (record {
            slot = page.slot;
            span = page.span;
            on = still_on;
            leaf = inr m.2;
            word = still_word;
            was = seen_at v.reads at;
            saw = loaded.saw;
            kept = loaded.kept;
            known = inl m.2;
            cause = inr m.3;
          })))
      by_cause (causes.Full held) m = absurd m
      by_cause (causes.Wide set) m = absurd m
      by_cause (causes.NumberLimit clock) m = absurd m

  -- or as it was there
  pub head_keeps : IsMetSo headers at n → KeepsMet pointers headers v u
  head_keeps set =
      keeps_header k pointers headers slots page.slot page.span at n v u can on word set loaded.met loaded.others

  -- it wasn't split
  pub head_leaf : kind_of n ≡ 1 → n < moved_bit → IsMetSo headers at n
      → GoesSo 35 k pointers headers slots (IsFurther k pointers headers page)
      (Ok (nexts.End (ends.Leaf (record { slot = page.slot; span = page.span; header = n })))) v u
  head_leaf kind low set =
      let c = leaf_headed page.slot page.span at v n u kind low h in record {
        went = went_more 1 35 slots v u (omega arith) first;
        led = led_none k v u loaded.grip;
        keeps = head_keeps set;
        paths = first_paths;
        came = record {
          leaf = record {
            on = still_on;
            keys = c.keys;
            knows =
                subst (λ (z : View). Contains z.known (record { slot = page.slot; keys = c.keys })) (sym c.is)
                (in_head (record { slot = page.slot; keys = c.keys }) v.known);
            few = (c.are).few;
            once = (c.are).once;
            inside = (c.are).inside;
            count = c.count;
            kind = kind;
            small = c.few;
          };
          met = ap (seen_at u.reads) (sym still_word) ∙ loaded.met;
          set = subst (λ i. IsMetSo headers i n) still_word set;
        };
        cause = tt;
      }

  -- it was split
  pub split_at : kind_of n ≡ 1 → moved_bit ≤ n → n < moved_locked → IsSplitAt u page.slot
  split_at kind high low =
      let c = split_headed page.slot page.span at v n u kind high h in
      let there = c.there low in
      let x : Moved = record { slot = page.slot; minor = c.minor; major = c.major; separator = c.separator } in record {
        moved = x;
        knows = subst (λ (z : View). Contains z.moved x) (sym c.is) (in_head x v.moved);
        same = refl;
        minor = subst (λ (y : Layout). c.minor < y.slots) (sym (layout_stays v u loaded.walked)) there.0;
        major = subst (λ (y : Layout). c.major < y.slots) (sym (layout_stays v u loaded.walked)) there.1;
      }

  pub split_small : kind_of n ≡ 1 → moved_bit ≤ n → n < 2 ^ 62 + 2 ^ 61
  split_small kind high = (split_headed page.slot page.span at v n u kind high h).few

  pub head_half : IsMetSo headers at n → (late : List ℕ) (s : Page) (w : View) → GoesSo 4 k pointers headers late (IsHalfBelow k page) (Ok s) u w
      → GoesSo 35 k pointers headers late (IsFurther k pointers headers page) (Ok (nexts.Down s)) v w
  head_half set late s w g =
      goes_on 1 4 35 k pointers headers slots late (IsHalfBelow k page) (IsFurther k pointers headers page) s (nexts.Down s) v u w
      (omega arith) first (led_none k v u loaded.grip) (head_keeps set) first_paths g (g.came.0, inr g.came.1)

  pub head_refused : (late : List ℕ) (why : RefusalCause) (w : View)
      → GoesSo 4 k pointers headers late (IsHalfBelow k page) (Err why) u w
      → GoesSo 35 k pointers headers late (IsFurther k pointers headers page) (Err why) v w
  head_refused late why w g =
      goes_refused 1 4 35 k pointers headers slots late (IsHalfBelow k page) (IsFurther k pointers headers page) why v u w
      (omega arith) first (led_none k v u loaded.grip) first_paths g

-- ---- from page to page

-- So many pages below the first one, this is the next page on the way.
pub record IsDown
    (k : Key) (pointers headers : List Seen) (slots : List ℕ) (v w : View) (page : Page) (level : ℕ) : Type 0 where
  pub went : Went (35 * level) slots v w
  pub led : AreLedTo k v w
  pub keeps : KeepsMet pointers headers v w
  pub paths : OnlyWaysOn k v w
  pub above : List Way
  pub many : length above ≡ level
  pub path : IsPath k w (record { slot = page.slot; span = page.span } ∷ above)

pub down_first : (k : Key) (pointers headers : List Seen) (slots : List ℕ) (v : View) (page : Page) → CanWalk slots v
    → IsOnWay k v page.slot page.span → IsDown k pointers headers slots v v page 0
down_first k pointers headers slots v page can on = record {
  went = went_self slots v can;
  led = led_none k v v refl;
  keeps = keeps_none pointers headers v v (λ a. refl);
  paths = paths_same k v v refl;
  above = [];
  many = refl;
  path = (on, tt, tt);
}

pub down_next : (k : Key) (pointers headers : List Seen) (slots late : List ℕ) (v u w : View) (page next : Page) (level : ℕ)
    → IsDown k pointers headers slots v u page level
    → GoesSo 35 k pointers headers late (IsFurther k pointers headers page) (Ok (nexts.Down next)) u w
    → IsDown k pointers headers late v w next (suc level)
down_next k pointers headers slots late v u w page next level d g = record {
  went = went_then (35 * level) 35 (35 * suc level) slots late v u w (omega arith) d.went g.went;
  led = led_then k v u w g.went.walked d.led g.led;
  keeps = keeps_then pointers headers v u w d.went.walked d.keeps g.keeps;
  paths = paths_then k v u w g.went.walked d.paths g.paths;
  above = record { slot = page.slot; span = page.span } ∷ d.above;
  many = ap suc d.many;
  path = (
    g.came.0,
    g.came.1,
    path_stays k u w (record { slot = page.slot; span = page.span } ∷ d.above) g.went.walked d.path,
  );
}

pub down_end : (k : Key) (pointers headers : List Seen) (slots late : List ℕ) (v u w : View) (page : Page) (end : End)
    (level : ℕ) → level < 128 → IsDown k pointers headers slots v u page level
    → GoesSo 35 k pointers headers late (IsFurther k pointers headers page) (Ok (nexts.End end)) u w
    → GoesSo 4480 k pointers headers late (HasCome k pointers headers) (Ok end) v w
down_end k pointers headers slots late v u w page end level less d g =
    goes_on (35 * level) 35 4480 k pointers headers slots late (IsFurther k pointers headers page)
    (HasCome k pointers headers) (nexts.End end) end v u w (omega (arith, less)) d.went d.led d.keeps d.paths g g.came

pub down_refused : (k : Key) (pointers headers : List Seen) (slots late : List ℕ) (v u w : View) (page : Page)
    (why : RefusalCause) (level : ℕ) → level < 128 → IsDown k pointers headers slots v u page level
    → GoesSo 35 k pointers headers late (IsFurther k pointers headers page) (Err why) u w
    → GoesSo 4480 k pointers headers late (HasCome k pointers headers) (Err why) v w
down_refused k pointers headers slots late v u w page why level less d g =
    goes_refused (35 * level) 35 4480 k pointers headers slots late (IsFurther k pointers headers page)
    (HasCome k pointers headers) why v u w (omega (arith, less)) d.went d.led d.paths g

-- the pages were as many as there is room for
pub down_long : (k : Key) (pointers headers : List Seen) (slots : List ℕ) (v w : View) (page : Page)
    → IsDown k pointers headers slots v w page 128
    → GoesSo 4480 k pointers headers slots (HasCome k pointers headers) (Err (causes.Wide sets.Holds)) v w
down_long k pointers headers slots v w page d = record {
  went = went_more (35 * 128) 4480 slots v w (omega arith) d.went;
  led = tt;
  keeps = tt;
  paths = d.paths;
  came = tt;
  cause = (
    inr (record { pages = record { slot = page.slot; span = page.span } ∷ d.above; many = ap suc d.many; path = d.path }),
    d.led,
  );
}

-- ---- from the root

pub root_down : (k : Key) (pointers headers : List Seen) (slots late : List ℕ) (page : Page) (v u w : View)
    (r : Result End RefusalCause) → Went 3 slots v u → AreLedTo k v u → KeepsMet pointers headers v u → OnlyWaysOn k v u
    → GoesSo 4480 k pointers headers late (HasCome k pointers headers) r u w
    → GoesSo 4483 k pointers headers late (HasCome k pointers headers) r v w
root_down k pointers headers slots late page v u w r first led keeps paths g =
    goes_behind 3 4480 4483 k pointers headers slots late (HasCome k pointers headers) r v u w (omega arith) first led keeps paths g
