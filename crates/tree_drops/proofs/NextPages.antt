-- The next page of a chain that is held is looked at.
use Rattle.std.proofs.Common.{◌≡◌, ◌≢◌, ◌⊎◌, inl, inr, ℕ, ◌+◌, ◌^◌, ◌<◌, ◌≤◌, Bool, true, false, List, [], ◌∷◌, ◌++◌}
use Rattle.std.proofs.Common.{length, refl, sym, ap, ◌∙◌, subst, arith, Some, length-append}
use Rattle.std.specs.Prelude.{nat_lt, slice_get, MatchBool, Ok, Err}
use Rattle.std.specs.List.{Contains}
use Rattle.std.proofs.lemmas.Bool.Decides.{nat_tests}
use Rattle.std.proofs.lemmas.Option.{slice_get_within}
use Rattle.lists.specs.Elements.{at_in, at_push_new, in_cases, in_head, in_none, in_tail}
use Rattle.lists.specs.Fronts.{IsFront, front_append, front_refl}
use Rattle.homes.specs.declared.places.Span.{Span}
use Rattle.drop_core.specs.Table.{has_slot}
use Rattle.engine_pages.specs.declared.layout.Layout.{Layout}
use Rattle.engine_pages.specs.declared.view.KeptWhy.{KeptWhy}
use Rattle.engine_pages.specs.declared.view.Moved.{Moved}
use Rattle.engine_pages.specs.declared.view.View.{View}
use Rattle.engine_pages.specs.Layout.{page_at}
use Rattle.engine_pages.specs.Pages.{is_tree}
use Rattle.engine_pages.specs.Steps.{glance, kept_at, seen_at, with_read}
use Rattle.tree_heads.specs.Headers.{count_of, kind_of, moved_bit, HasChildren, HasHeader, HasTwins}
use Rattle.chain_steps.specs.declared.halves.Half.{Half}
use Rattle.chain_steps.specs.Swings.{slots_of}
use Rattle.page_drops.specs.declared.noting.Kept.{Kept}
use Rattle.page_drops.specs.Works.{read_of, HasGlanced, HasSeenLast, IsNoted}
use Rattle.page_drops.proofs.Entries.{entry_of, other_entry, own_entry, seen_of}
use Rattle.tree_drops.specs.declared.chains.Split.{Split}
use Rattle.tree_drops.specs.Chains.{first_page, lower_of, pages_of, span_in, split_header, upper_of, AreFound}
use Rattle.tree_drops.specs.Chains.{AreHeld, CanLook, ChainLooks, ChainsOn, HasBoth, HasEntered, HasEnteredSo}
use Rattle.tree_drops.specs.Chains.{HasLooked, HasParted, HoldsSame, IsFoundSo, IsHoldCause, IsSplitAt, IsUnsplit}
use Rattle.tree_drops.specs.Chains.{NotedFor}
use Rattle.tree_drops.specs.Leaves.{KnowsKeys}
use Rattle.tree_drops.specs.Visits.{IsHeaderCause, IsPartedOut}
use Rattle.tree_drops.proofs.Chaining.{chained_glanced, chained_self, keeps_noted, layout_chained, role_chained}
use Rattle.tree_drops.proofs.FoundPages.{found_halves, found_next, found_on, half_apart, half_held, half_new, one_at}
use Rattle.tree_drops.proofs.FoundPages.{same_some, split_held, IsWhole}
use Rattle.tree_drops.proofs.HalvesHeld.{in_left_of}
use Rattle.tree_drops.proofs.PagesHeld.{alike, at_more, at_new, at_old, found_stays, half_slot, header_apart, held_on}
use Rattle.tree_drops.proofs.PagesHeld.{slot_in_old, slots_more}
use Rattle.tree_drops.proofs.SplitPages.{at_glanced, found_split, held_then, kept_page, among_more, AtPage}

-- the one of a list
one_in : (s u : ℕ) → Contains (s ∷ []) u → s ≡ u
one_in s u has = elim (in_cases u s [] has) [ inl is ↦ is | inr none ↦ absurd (in_none u none) ]

-- ---- a header was loaded

-- the header was seen, and more is known of its page
pub record HasHeaded (at n : ℕ) (v w : View) : Type 0 where
  pub looks : ChainLooks v w
  pub same : HoldsSame v w
  pub reads : w.reads ≡ with_read v.reads at n
  pub last : w.last ≡ Some (glance v.steps at n)
  pub kept : w.kept ≡ v.kept

pub headed_leaf : (t at n : ℕ) (sp : Span) (v w : View) → HasHeader t sp at v n w → HasHeaded at n v w
headed_leaf t at n sp v w h =
    subst (λ (z : View). HasHeaded at n v z) (sym h.is) record {
      looks = record {
        on = record {
          chains = refl;
          later = omega arith;
          ways = λ y has. has;
          known = λ y has. in_tail y (record { slot = t; keys = h.keys }) v.known has;
          moved = λ y has. has;
          inners = λ y has. has;
          versions = λ y has. has;
          leads = λ y has. has;
          touched = λ z has. inl has;
        };
        locks = refl;
        took = refl;
        heads = refl;
        sealed = refl;
      };
      same = record { grip = refl; ways = refl };
      reads = refl;
      last = refl;
      kept = refl;
    }

pub headed_twins : (t at n : ℕ) (sp : Span) (v w : View) → HasTwins t sp at v n w → HasHeaded at n v w
headed_twins t at n sp v w h =
    subst (λ (z : View). HasHeaded at n v z) (sym h.is) record {
      looks = record {
        on = record {
          chains = refl;
          later = omega arith;
          ways = λ y has. has;
          known = λ y has. in_tail y (record { slot = t; keys = h.keys }) v.known has;
          moved = λ y has.
              in_tail y (record { slot = t; minor = h.minor; major = h.major; separator = h.separator }) v.moved has;
          inners = λ y has. has;
          versions = λ y has. has;
          leads = λ y has. has;
          touched = λ z has. inl has;
        };
        locks = refl;
        took = refl;
        heads = refl;
        sealed = refl;
      };
      same = record { grip = refl; ways = refl };
      reads = refl;
      last = refl;
      kept = refl;
    }

pub headed_children : (t at n : ℕ) (v w : View) → HasChildren t at v n w → HasHeaded at n v w
headed_children t at n v w h =
    subst (λ (z : View). HasHeaded at n v z) (sym h.is) record {
      looks = record {
        on = record {
          chains = refl;
          later = omega arith;
          ways = λ y has. has;
          known = λ y has. has;
          moved = λ y has. has;
          inners = λ y has. in_tail y (record { slot = t; separators = h.separators }) v.inners has;
          versions = λ y has. has;
          leads = λ y has. has;
          touched = λ z has. inl has;
        };
        locks = refl;
        took = refl;
        heads = refl;
        sealed = refl;
      };
      same = record { grip = refl; ways = refl };
      reads = refl;
      last = refl;
      kept = refl;
    }

-- the keys that are known then
pub keys_leaf : (t at n : ℕ) (sp : Span) (v w : View) → HasHeader t sp at v n w → KnowsKeys t sp (count_of n) w
keys_leaf t at n sp v w h = record {
  leaf = record { slot = t; keys = h.keys };
  has = subst (λ (z : View). Contains z.known (record { slot = t; keys = h.keys })) (sym h.is)
      (in_head (record { slot = t; keys = h.keys }) v.known);
  slot = refl;
  are = record {
    long = h.count;
    few = (let few = h.are.few in let count = h.count in omega (arith, few, count));
    once = h.are.once;
    inside = h.are.inside;
  };
}

pub keys_twins : (t at n : ℕ) (sp : Span) (v w : View) → HasTwins t sp at v n w → KnowsKeys t sp (count_of n) w
keys_twins t at n sp v w h = record {
  leaf = record { slot = t; keys = h.keys };
  has = subst (λ (z : View). Contains z.known (record { slot = t; keys = h.keys })) (sym h.is)
      (in_head (record { slot = t; keys = h.keys }) v.known);
  slot = refl;
  are = record {
    long = h.count;
    few = (let few = h.are.few in let count = h.count in omega (arith, few, count));
    once = h.are.once;
    inside = h.are.inside;
  };
}

-- as the test of its bit tells
pub low_leaf : (t at n : ℕ) (sp : Span) (v w : View) → n < moved_bit
    → MatchBool (nat_lt n moved_bit) (HasHeader t sp at v n w) (HasTwins t sp at v n w) → HasHeader t sp at v n w
low_leaf t at n sp v w low h = by_test (nat_lt n moved_bit) refl h
  where
    by_test : (b : Bool) → nat_lt n moved_bit ≡ b → MatchBool b (HasHeader t sp at v n w) (HasTwins t sp at v n w) → HasHeader t sp at v n w
    by_test true e h = h
    by_test false e h = absurd (let over : moved_bit ≤ n = grind (arith, nat_tests) in omega (arith, over, low))

pub high_twins : (t at n : ℕ) (sp : Span) (v w : View) → moved_bit ≤ n
    → MatchBool (nat_lt n moved_bit) (HasHeader t sp at v n w) (HasTwins t sp at v n w) → HasTwins t sp at v n w
high_twins t at n sp v w high h = by_test (nat_lt n moved_bit) refl h
  where
    by_test : (b : Bool) → nat_lt n moved_bit ≡ b → MatchBool b (HasHeader t sp at v n w) (HasTwins t sp at v n w) → HasTwins t sp at v n w
    by_test true e h = absurd (let under : n < moved_bit = grind (arith, nat_tests) in omega (arith, under, high))
    by_test false e h = h

-- how a leaf is parted is told by what is known of it
pub split_glanced : (t n : ℕ) (sp : Span) (split : Split) (v w : View) → HasGlanced v w → IsSplitAt t sp n split v → IsSplitAt t sp n split w
split_glanced t n sp split v w h is =
    subst (λ (z : View). IsSplitAt t sp n split z) (sym h.is) record {
      slot = is.slot;
      span = is.span;
      full = is.full;
      separator = is.separator;
      low = is.low;
      high = is.high;
    }

-- ---- the look

module _ (t : ℕ) (sp : Span) (halves : List Half) (splits headers : List ℕ) (h : Half) (a v : View)
    (can : CanLook t sp halves splits headers h a v) (at n : ℕ) (u : View) (place : at ≡ page_at v.layout.slots h.slot 0)
    (headed : HasHeaded at n v u) where
  pub among : Contains halves h
  among = at_in halves (length headers) h can.next

  layout : u.layout ≡ v.layout
  layout = layout_chained v u headed.looks.on

  reads_other : (word : ℕ) → (word ≡ at → ⊥) → read_of u.reads word ≡ read_of v.reads word
  reads_other word other =
      ap (λ list. read_of list word) headed.reads ∙ other_entry v.reads at n (kept_at v.reads at) word other

  header_other : (w : ℕ) → w ≢ h.slot → read_of u.reads (page_at v.layout.slots w 0) ≡ read_of v.reads (page_at v.layout.slots w 0)
  header_other w other =
      reads_other (page_at v.layout.slots w 0)
      (λ same. header_apart v.layout.slots w h.slot 0 other (omega arith) (same ∙ place))

  pub held_now : AreHeld t sp halves splits a u
  held_now =
      held_on t sp halves splits a v u can.held headed.looks headed.same
      (λ word out. reads_other word (λ same.
      out h.slot
      (in_tail h.slot t (slots_of halves)
      (at_in (slots_of halves) (length headers) h.slot (half_slot halves (length headers) h can.next)))
      0 (omega arith) (same ∙ place)))

  -- an index of one that was looked at before
  before : (i m : ℕ) → slice_get headers i ≡ Some m → i ≡ length headers → ⊥
  before i m read same = let low = slice_get_within headers i m read in absurd (omega (arith, low, same))

  pub found_now : AreFound t sp halves splits headers u
  found_now =
      found_on t sp halves splits headers v u can.found headed.looks.on headed.same
      (λ i g m at-i read.
      header_other g.slot (half_apart t sp halves splits a v can.held i (length headers) g h at-i can.next (before i m read)))
      (header_other t (half_new t sp halves splits a v can.held can.own (length headers) h can.next))

  seen : seen_at u.reads (page_at u.layout.slots h.slot 0) ≡ Some n
  seen =
      ap (λ (l : Layout). seen_at u.reads (page_at l.slots h.slot 0)) layout
      ∙ (ap (λ k. seen_at u.reads k) (sym place)
      ∙ (ap (λ list. seen_at list at) headed.reads
      ∙ seen_of (with_read v.reads at n) at (entry_of v.reads at n (kept_at v.reads at)) (own_entry v.reads at n (kept_at v.reads at))))

  pub last_now : (why : KeptWhy) → HasSeenLast u (record { word = at; seen = n; why = why })
  last_now why = (v.steps, headed.last)

  -- ---- the chain is kept for it

  pub kept_look : (why : KeptWhy) (k : Kept) (w : View) → k ≡ record { word = at; seen = n; why = why } → IsNoted k u w
      → IsHeaderCause v.layout.slots h.slot why at n → HasLooked t sp headers halves halves (Err k) a v w
  kept_look why k w is notes so =
      let keeps = keeps_noted (λ why word seen. IsHeaderCause v.layout.slots h.slot why word seen
      ⊎ IsPartedOut v.layout.slots h.slot (span_in sp h) why word seen) at n why k u u w (chained_self u) is notes (inl so) in (
        splits,
        held_on t sp halves splits a u w held_now keeps.looks keeps.holds (λ word out. ap (λ (z : View). read_of z.reads word) notes.1),
        record {
          page = keeps.kept.page;
          is = keeps.kept.is ∙ ap (λ l. l ++ keeps.kept.page ∷ []) headed.kept;
          told = keeps.kept.told;
          so = (h, in_left_of halves (first_page t sp ∷ []) h among, keeps.kept.so);
        },
      )

  -- ---- it is a leaf

  pub looked_leaf : KnowsKeys h.slot (span_in sp h) (count_of n) u → kind_of n ≡ 1 → n < 2 ^ 60
      → HasLooked t sp headers halves halves (Ok n) a v u
  looked_leaf keys kind low = (
    splits,
    held_now,
    (
      found_next t sp halves splits headers h n u found_now can.next record {
        kind = kind;
        keys = keys;
        seen = seen;
        leaf = λ under. low;
        split = λ high. absurd (omega (arith, high, low));
      } (omega (arith, low)),
      front_refl halves,
      headed.kept,
    ),
  )

  -- ---- it was split

  unsplit-yet : IsUnsplit headers (length headers)
  unsplit-yet m read = absurd (before (length headers) m read refl)

  pub at_page : HasTwins h.slot (span_in sp h) at v n u → moved_bit ≤ n → kind_of n ≡ 1 → AtPage t sp halves splits h n a u
  at_page twins high kind =
      let i = can.held.inside h among in
      let own : Moved = record { slot = h.slot; minor = twins.minor; major = twins.major; separator = twins.separator } in record {
        keeper = role_chained v u headed.looks.on ∙ can.keeper;
        held = held_now;
        top = can.own;
        slot = subst (λ (l : Layout). h.slot < l.slots) (sym layout) i.2;
        tree = ap (λ (l : Layout). is_tree l.decls sp.storage) layout ∙ can.tree;
        there = found_now.way h among;
        moved = own;
        has = subst (λ (z : View). Contains z.moved own) (sym twins.is) (in_head own v.moved);
        same = refl;
        minor = λ few. subst (λ (l : Layout). twins.minor < l.slots) (sym layout) (twins.there few).0;
        major = λ few. subst (λ (l : Layout). twins.major < l.slots) (sym layout) (twins.there few).1;
        split = high;
        kind = kind;
        keys = keys_twins h.slot at n (span_in sp h) v u twins;
        seen = seen;
        have = found_now.held;
        own = λ y has. found_now.parts (length headers) h can.next unsplit-yet y has;
        way = found_now.way;
        from = inr (length headers, h, can.next, refl);
        low = i.0;
        high = i.1;
        p-held = half_held t sp halves splits a u held_now h among;
        among = in_left_of halves (first_page t sp ∷ []) h among;
      }

  module _ (page : AtPage t sp halves splits h n a u) where
    -- it couldn't be parted
    pub looked_parted : (k : Kept) (w : View) → HasParted h.slot (span_in sp h) n (Err k) u w → HasLooked t sp headers halves halves (Err k) a v w
    looked_parted k w parted =
        let keeps = parted.1 in (
          splits,
          held_on t sp halves splits a u w held_now keeps.looks keeps.holds (λ word out. ap (λ list. read_of list word) parted.0),
          noted_from halves k w (in_left_of halves (first_page t sp ∷ []) h among) keeps.kept,
        )
      where
        noted_from : (new : List Half) (k : Kept) (w : View) → Contains (pages_of t sp new) h
            → NotedFor (λ why word seen. IsHeaderCause u.layout.slots h.slot why word seen
            ⊎ IsPartedOut u.layout.slots h.slot (span_in sp h) why word seen) k u w
            → NotedFor (IsHoldCause v.layout.slots t sp new) k v w
        noted_from new k w here noted =
            let slots : u.layout.slots ≡ v.layout.slots = ap (λ (l : Layout). l.slots) layout in
            let one = kept_page t sp halves splits h n a u page new k w here noted in record {
              page = one.page;
              is = one.is ∙ ap (λ l. l ++ one.page ∷ []) headed.kept;
              told = one.told;
              so = subst (λ m. IsHoldCause m t sp new k.why k.word k.seen) slots one.so;
            }

    module _ (split : Split) (z : View) (glanced : HasGlanced u z) (is : IsSplitAt h.slot (span_in sp h) n split u) where
      page_now : AtPage t sp halves splits h n a z
      page_now = at_glanced t sp halves splits h n a u z page glanced

      split_now : IsSplitAt h.slot (span_in sp h) n split z
      split_now = split_glanced h.slot n (span_in sp h) split u z glanced is

      layout_now : z.layout ≡ v.layout
      layout_now = ap (λ (y : View). y.layout) glanced.is ∙ layout

      kept_now : z.kept ≡ v.kept
      kept_now = ap (λ (y : View). y.kept) glanced.is ∙ headed.kept

      found_then : AreFound t sp halves splits headers z
      found_then =
          let only = chained_glanced u z glanced in
          found_on t sp halves splits headers u z found_now only.looks.on only.holds
          (λ i g m at-i read. ap (λ (y : View). read_of y.reads (page_at u.layout.slots g.slot 0)) glanced.is)
          (ap (λ (y : View). read_of y.reads (page_at u.layout.slots t 0)) glanced.is)

      -- the header had changed meanwhile
      pub looked_turned : (new : List Half) (k : Kept) (w : View) → HasEnteredSo split halves new (Err k) z w
          → HasLooked t sp headers halves new (Err k) a v w
      looked_turned new k w entered =
          let more : List Half = entered.0.0 in
          let e : HasEntered split halves new more z w = entered.0.1 in
          let noted = entered.1 in
          let slots : z.layout.slots ≡ v.layout.slots = ap (λ (l : Layout). l.slots) layout_now in (
            splits ++ alike more split.slot,
            held_then t sp halves splits h n a z page_now new more split w split_now e,
            record {
              page = noted.page;
              is = noted.is ∙ ap (λ l. l ++ noted.page ∷ []) kept_now;
              told = noted.told;
              so = (
                h,
                among_more t sp halves splits h n a z page_now new more e.is,
                inl (subst (λ m. IsHeaderCause m h.slot k.why k.word k.seen) slots
                    (subst (λ i. IsHeaderCause z.layout.slots i k.why k.word k.seen) is.slot noted.so)),
              );
            },
          )

      -- both of its halves are held
      pub looked_both : (new : List Half) (w : View) → HasBoth split halves new z w → HasLooked t sp headers halves new (Ok n) a v w
      looked_both new w both =
          let more : List Half = upper_of both.moved split ∷ lower_of both.moved split ∷ [] in (
            splits ++ alike more split.slot,
            held_then t sp halves splits h n a z page_now new more split w split_now both.entered,
            (
              found_halves t sp halves new splits (headers ++ n ∷ []) h split z w is.slot is.span low_here high_here both page_now.way
                  page_now.there page_now.own unsplit_old (split_held t sp halves splits a z page_now.held can.own) page_now.p-held
                  most_now first_now each_now halved_now (found_then.top.0, at_old splits (alike more split.slot) found_then.top.0 t found_then.top.1),
              front_now,
              both.kept ∙ kept_now,
            ),
          )
        where
          on : ChainsOn z w
          on = both.entered.looks.on

          low_here : (split.span).low < split.separator
          low_here = let low = is.low in let same : (split.span).low ≡ h.low = ap (λ (y : Span). y.low) is.span in omega (arith, low, same)

          high_here : split.separator ≤ (split.span).high
          high_here = let high = is.high in let same : (split.span).high ≡ h.high = ap (λ (y : Span). y.high) is.span in omega (arith, high, same)

          old_slots : (m : ℕ) → has_slot (slots_of halves) m ≡ true → has_slot (slots_of new) m ≡ true
          old_slots m has =
              ap (λ (l : List Half). has_slot (slots_of l) m) both.entered.is
              ∙ (ap (λ (l : List ℕ). has_slot l m) (slots_more halves (upper_of both.moved split ∷ lower_of both.moved split ∷ [])) ∙ slot_in_old (slots_of halves) (slots_of (upper_of both.moved split ∷ lower_of both.moved split ∷ [])) m has)

          -- the page itself isn't whole
          not_here : (i : ℕ) → IsUnsplit (headers ++ n ∷ []) i → i ≡ length headers → ⊥
          not_here i un same =
              let low = un n (ap (slice_get (headers ++ n ∷ [])) same ∙ at_push_new headers n) in
              let high = page.split in absurd (omega (arith, low, high))

          unsplit_old : (i : ℕ) (g : Half) → slice_get halves i ≡ Some g → IsUnsplit (headers ++ n ∷ []) i → IsWhole t sp h g splits z
          unsplit_old i g at-i un =
              let before : IsUnsplit headers i = λ m read. un m (at_old headers (n ∷ []) i m read) in record {
                other = half_apart t sp halves splits a z page_now.held i (length headers) g h at-i can.next (not_here i un);
                some = (page_now.held.inside g (at_in halves i g at-i)).3;
                parts = found_then.parts i g at-i before;
                whole = found_then.whole i g at-i before;
              }

          long : length new ≡ length halves + 2
          long = ap (λ (l : List Half). length l) both.entered.is ∙ length-append halves (upper_of both.moved split ∷ lower_of both.moved split ∷ [])

          most_now : length (headers ++ n ∷ []) ≤ length new
          most_now =
              let count = length-append headers (n ∷ []) in
              let less = slice_get_within halves (length headers) h can.next in omega (arith, count, less, long)

          header_kept : (w' : ℕ) → w' ≢ h.slot → read_of w.reads (page_at z.layout.slots w' 0) ≡ read_of z.reads (page_at z.layout.slots w' 0)
          header_kept w' other =
              both.entered.reads (page_at z.layout.slots w' 0)
              (λ s has i few same.
              header_apart z.layout.slots w' h.slot i other few
              (same ∙ ap (λ k. page_at z.layout.slots k i) (sym (one_of s has) ∙ is.slot)))
            where
              one_of : (s : ℕ) → Contains (split.slot ∷ []) s → split.slot ≡ s
              one_of s has = one_in split.slot s has

          first_now : IsFoundSo t sp new (first_page t sp) split_header w
          first_now =
              found_stays t sp halves new (first_page t sp) split_header z w found_then.first on old_slots
              (header_kept t (half_new t sp halves splits a z page_now.held can.own (length headers) h can.next))

          -- a half with an earlier index
          old_at : (i : ℕ) (g : Half) → slice_get new i ≡ Some g → i < length halves → slice_get halves i ≡ Some g
          old_at i g at-i less = elim (at_more halves (upper_of both.moved split ∷ lower_of both.moved split ∷ []) i g (sym (ap (λ (l : List Half). slice_get l i) both.entered.is) ∙ at-i)) [
            | inl one ↦ one
            | inr two ↦ let place = two.1 in absurd (omega (arith, place, less))
          ]

          each_now : (i : ℕ) (g : Half) (m : ℕ) → slice_get new i ≡ Some g → slice_get (headers ++ n ∷ []) i ≡ Some m → IsFoundSo t sp new g m w
          each_now i g m at-i read = elim (at_more headers (n ∷ []) i m read) [
            | inl old ↦
                let low = slice_get_within headers i m old in
                let most = can.found.most in
                let was = old_at i g at-i (omega (arith, low, most)) in
                found_stays t sp halves new g m z w (found_then.each i g m was old) on old_slots
                (header_kept g.slot (half_apart t sp halves splits a z page_now.held i (length headers) g h was can.next (before i m old)))
            | inr last ↦
                let one = one_at n last.0 m last.2 in
                let here : i ≡ length headers = (let where-at = last.1 in let none = one.0 in omega (arith, where-at, none)) in
                let less = slice_get_within halves (length headers) h can.next in
                let was = old_at i g at-i (omega (arith, here, less)) in
                let same : h ≡ g = same_some h g (sym can.next ∙ (ap (slice_get halves) (sym here) ∙ was)) in
                subst (λ (k : ℕ). IsFoundSo t sp new g k w) one.1
                (subst (λ (y : Half). IsFoundSo t sp new y n w) same
                (found_split t sp halves splits h n a z page_now new split w split_now both))
          ]

          halved_now : (i : ℕ) (g : Half) (m : ℕ) → slice_get new i ≡ Some g → slice_get (headers ++ n ∷ []) i ≡ Some m → moved_bit ≤ m
              → (j : ℕ) × (slice_get (splits ++ alike (upper_of both.moved split ∷ lower_of both.moved split ∷ []) split.slot) j ≡ Some g.slot)
          halved_now i g m at-i read high = elim (at_more headers (n ∷ []) i m read) [
            | inl old ↦
                let low = slice_get_within headers i m old in
                let most = can.found.most in
                let was = found_then.halved i g m (old_at i g at-i (omega (arith, low, most))) old high in
                (was.0, at_old splits (alike (upper_of both.moved split ∷ lower_of both.moved split ∷ []) split.slot) was.0 g.slot was.1)
            | inr last ↦
                let one = one_at n last.0 m last.2 in
                let here : i ≡ length headers = (let where-at = last.1 in let none = one.0 in omega (arith, where-at, none)) in
                let less = slice_get_within halves (length headers) h can.next in
                let was = old_at i g at-i (omega (arith, here, less)) in
                let same : h ≡ g = same_some h g (sym can.next ∙ (ap (slice_get halves) (sym here) ∙ was)) in (
                  length splits + 0,
                  at_new splits (alike (upper_of both.moved split ∷ lower_of both.moved split ∷ []) split.slot) 0 split.slot refl
                      ∙ ap (λ k. Some k) (is.slot ∙ ap (λ (y : Half). y.slot) same),
                )
          ]

          front_now : IsFront halves new
          front_now = subst (λ (l : List Half). IsFront halves l) (sym both.entered.is) (front_append halves (upper_of both.moved split ∷ lower_of both.moved split ∷ []))
