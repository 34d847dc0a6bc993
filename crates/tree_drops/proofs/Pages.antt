-- A page of a tree is gone into: what is asked of its kind, and what comes of it.
use Rattle.std.proofs.Common.{◌≡◌, ◌≢◌, ◌⊎◌, inl, inr, ℕ, ◌^◌, ◌<◌, ◌≤◌, Bool, true, false, [], ◌∷◌, ◌++◌, Some, refl, sym, ap, ◌∙◌}
use Rattle.std.proofs.Common.{subst, arith}
use Rattle.std.proofs.lemmas.Bool.Decides.{nat_tests}
use Rattle.std.specs.List.{Contains}
use Rattle.lists.specs.Elements.{in_head}
use Rattle.std.specs.Prelude.{MatchBool, nat_lt, reverse}
use Rattle.drop_core.specs.declared.grip.Grip.{Grip}
use Rattle.drop_core.specs.Table.{has_slot}
use Rattle.engine_pages.specs.declared.layout.Layout.{Layout}
use Rattle.engine_pages.specs.declared.view.Moved.{Moved}
use Rattle.homes.specs.declared.places.At.{At}
use Rattle.homes.specs.declared.places.Span.{Span}
use Rattle.snapshot_store.specs.Places.{page as page_words}
use Rattle.engine_pages.specs.declared.view.KeptPage.{KeptPage}
use Rattle.engine_pages.specs.declared.view.KeptWhy.TheVariants.{Locked, Unlike}
use Rattle.engine_pages.specs.declared.view.View.{View}
use Rattle.engine_pages.specs.Layout.{page_at}
use Rattle.engine_pages.specs.Slots.{left}
use Rattle.engine_pages.specs.Steps.{glance}
use Rattle.tree_heads.specs.Headers.{HasChildren, HasHeader, HasTwins, Headed, IsUnmoved, count_of, kind_of, moved_bit}
use Rattle.page_drops.specs.declared.calls.Dropped.{Dropped}
use Rattle.page_drops.specs.declared.noting.Kept.{Kept}
use Rattle.page_drops.specs.Calls.{IsNoteOf}
use Rattle.page_drops.specs.Works.{HasGlanced, HasSeenLast}
use Rattle.tree_drops.specs.Branches.{IsParted}
use Rattle.tree_drops.specs.Leaves.{KnowsKeys}
use Rattle.page_drops.specs.Visits.{note_here, swing_here}
use Rattle.tree_drops.specs.declared.visits.Target.{Target}
use Rattle.tree_drops.specs.Releases.{CanWorkChain}
use Rattle.tree_drops.specs.Turns.{page_met, CanWork, HasAlike, HasEndedChain, HasEndedLeaf, HasEndedPage, HasNotedPage, HasOpened}
use Rattle.tree_drops.specs.Turns.{KnowsParts, LooksIn}
use Rattle.tree_drops.specs.Visits.{AreMet, HasTallied, WasPage, notes_in, slots_in, swings_in}
use Rattle.tree_drops.proofs.Asks.{work_looked}
use Rattle.tree_drops.specs.Works.{IsSeenAt}
use Rattle.tree_drops.proofs.Dues.{headed_seen}
use Rattle.tree_drops.proofs.Finishes.{parted_kept}
use Rattle.tree_drops.proofs.Opens.{LeafLooked, children_looked, children_of, ended_parted, ended_taken, leaf_looked, leaf_of, parts_known}
use Rattle.tree_drops.proofs.Overs.{inners_then, looks_glanced, looks_then, over_then}

-- a chain was gone over, behind looks at its first page
chain_looked_then : (sp : Span) (at page epoch t : ℕ) (old new : Dropped) (v u w : View) → LooksIn t v u
    → has_slot v.grip.holds t ≡ true → HasEndedChain sp at page epoch t old u new w → HasEndedChain sp at page epoch t old v new w
chain_looked_then sp at page epoch t old new v u w looks held h =
    let layout : u.layout ≡ v.layout = ap (λ (z : View). z.layout) looks.over.went in
    let grip : u.grip ≡ v.grip = ap (λ (z : View). z.grip) looks.over.went in record {
      below = h.below;
      note = h.note;
      mid = h.mid;
      over = over_then v u h.mid looks.over h.over;
      kept = h.kept ∙ ap (λ l. l ++ (notes_in h.below ++ note_here h.note)) looks.kept;
      gone = h.gone ∙ ap (λ l. reverse (slots_in h.below) ++ l) looks.gone;
      swung = h.swung ∙ ap (λ l. l ++ (swings_in h.below ++ swing_here at (Some t) h.note)) looks.swung;
      sight = h.sight;
      fresh = λ s has. ap (λ (g : Grip). has_slot g.holds s) (sym grip) ∙ h.fresh s has;
      others = λ q other out.
          h.others q other (λ s has i few is. out s has i few (is ∙ ap (λ (l : Layout). page_at l.slots s i) layout))
          ∙ looks.reads q (out t (in_head t (slots_in h.below)));
      known = inners_then v u h.mid looks.over looks.known h.known;
      leaves = h.leaves;
      pages = h.pages;
      front = h.front;
      there = h.there;
      was = subst (λ (l : Layout). WasPage l.slots t epoch h.pages (page_met at sp page t h.note) h.below) layout h.was;
      under = subst (λ (l : Layout). AreMet l.slots epoch w.pages h.below) layout h.under;
      notes = h.notes;
      counts = h.counts;
    }

-- the header of a split leaf
twins_of : (t at n : ℕ) (sp : Span) (v w : View) → at ≡ page_at v.layout.slots t 0 → kind_of n ≡ 1 → 2 ^ 62 ≤ n → Headed t sp at v n w
    → HasTwins t sp at v n w
twins_of t at n sp v w place one high h = by_test (nat_lt n moved_bit) refl (leaf_of t at n sp v w place one h)
  where
    by_test : (b : Bool) → nat_lt n moved_bit ≡ b → MatchBool b (HasHeader t sp at v n w) (HasTwins t sp at v n w) → HasTwins t sp at v n w
    by_test true e x = let low : n < 2 ^ 62 = grind (arith, nat_tests) in absurd (omega (arith, high, low))
    by_test false e x = x

module _ (x : At) (sp : Span) (at t page word epoch header place : ℕ) (v a b : View) (can : CanWork x sp at t page word epoch v)
    (glanced : HasGlanced v a) (here : place ≡ page_at a.layout.slots t 0) (loads : Headed t sp place a header b) where
  looks_a : LooksIn t v a
  looks_a = looks_glanced t v a glanced

  -- the header's word, as the layout tells
  place_at : (w : View) → LooksIn t a w → place ≡ page_at w.layout.slots t 0
  place_at w looks = here ∙ ap (λ (z : View). page_at z.layout.slots t 0) (sym looks.over.went)

  module _ (one : kind_of header ≡ 1) where
    seen : LeafLooked t place header sp a b here
    seen = leaf_looked t place header sp a b here one loads

    leaf_looks : LooksIn t v b
    leaf_looks = looks_then t v a b looks_a seen.0

    pub leaf_work : CanWork x sp at t page word epoch b
    leaf_work = work_looked x sp at t page word epoch v b leaf_looks can

    pub leaf_known : KnowsKeys t sp (count_of header) b
    leaf_known = seen.1.0

    pub leaf_last : HasSeenLast b (record { word = page_at b.layout.slots t 0; seen = header; why = Locked })
    leaf_last = (a.steps, seen.1.1.1 ∙ ap (λ n. Some (glance a.steps n header)) (place_at b seen.0))

    pub leaf_met : IsSeenAt t 0 header b
    leaf_met = headed_seen t place header sp a b one here (ap (λ (z : View). z.layout) seen.0.over.went) loads

    -- a leaf that wasn't split, and none that the pass knows to have been
    pub leaf_bits : ((header < 2 ^ 61) × IsUnmoved b t) ⊎ (2 ^ 62 ≤ header)
    leaf_bits = by_test (nat_lt header moved_bit) refl (leaf_of t place header sp a b here one loads)
      where
        by_test : (c : Bool) → nat_lt header moved_bit ≡ c
            → MatchBool c (HasHeader t sp place a header b) (HasTwins t sp place a header b)
            → ((header < 2 ^ 61) × IsUnmoved b t) ⊎ (2 ^ 62 ≤ header)
        by_test true e y =
            inl (y.few, λ m has same. y.unmoved m (subst (λ l. Contains l m) (ap (λ (z : View). z.moved) y.is) has) same)
        by_test false e y = inr (let most : 2 ^ 62 ≤ header = grind (arith, nat_tests) in most)

    -- a leaf that was split, with all that came of it
    pub leaf_chain : (target : Target) → target.place ≡ x → target.span ≡ sp → target.at ≡ at → target.page ≡ page → target.epoch ≡ epoch
        → 2 ^ 62 ≤ header → CanWorkChain (record { target = target; slot = t; word = word }) header b
    leaf_chain target one_x one_sp one_at one_page one_epoch high =
        let h = twins_of t place header sp a b here one high loads in
        let m : Moved = record { slot = t; minor = h.minor; major = h.major; separator = h.separator } in
        let layout : b.layout ≡ a.layout = ap (λ (z : View). z.layout) h.is in record {
          work = subst (λ y. CanWork y target.span target.at t target.page word target.epoch b) (sym one_x)
              (subst (λ y. CanWork x y target.at t target.page word target.epoch b) (sym one_sp)
              (subst (λ y. CanWork x sp y t target.page word target.epoch b) (sym one_at)
              (subst (λ y. CanWork x sp at t y word target.epoch b) (sym one_page)
              (subst (λ y. CanWork x sp at t page word y b) (sym one_epoch) leaf_work))));
          moved = m;
          has = subst (λ (z : View). Contains z.moved m) (sym h.is) (in_head m a.moved);
          same = refl;
          minor = λ low. subst (λ (l : Layout). h.minor < l.slots) (sym layout) (h.there low).0;
          major = λ low. subst (λ (l : Layout). h.major < l.slots) (sym layout) (h.there low).1;
          split = high;
          kind = one;
          keys = subst (λ y. KnowsKeys t y (count_of header) b) (sym one_sp) leaf_known;
          seen = leaf_met;
          last = leaf_last;
        }

    pub leaf_ended : (old new : Dropped) (w : View) → HasEndedLeaf sp at page epoch t old b new w → HasEndedPage sp at page epoch t old v new w
    leaf_ended old new w (inl left) =
        inl (ended_taken sp at page epoch t old new left.result v b left.mid w leaf_looks leaf_work.drop.tree.there left.leaves left.taken
        left.dropped left.kept)
    leaf_ended old new w (inr chain) = inr (chain_looked_then sp at page epoch t old new v b w leaf_looks can.held chain)

  module _ (other : kind_of header ≢ 1) where
    inner : HasChildren t place a header b
    inner = children_of t place header sp a b here other loads

    inner_looks : LooksIn t v b
    inner_looks = looks_then t v a b looks_a (children_looked t place header a b here inner).0

    branch_work : CanWork x sp at t page word epoch b
    branch_work = work_looked x sp at t page word epoch v b inner_looks can

    pub branch_parts : KnowsParts sp page t header b
    branch_parts = parts_known x sp at t page word epoch place header a b branch_work other inner

    pub branch_last : HasSeenLast b (record { word = page_at b.layout.slots t 0; seen = header; why = Unlike })
    branch_last =
        let s = children_looked t place header a b here inner in
        (a.steps, s.1 ∙ ap (λ n. Some (glance a.steps n header)) (place_at b s.0))

    pub branch_opened : (count : ℕ) (c : View) → HasAlike sp page t count b c
        → HasOpened sp page t word (record { slot = t; word = word; count = count }) v c
    branch_opened count c h = record {
      slot = refl;
      led = refl;
      some = h.some;
      looks = looks_then t v b c inner_looks (looks_glanced t b c h.glances);
      opened = h.opened;
    }

    pub branch_ended : (k : Kept) (old new : Dropped) (c w : View) → HasNotedPage (IsParted b.layout.slots t (page_words b.pages page)) t k b c
        → w ≡ left t c → ((note : KeptPage) → IsNoteOf k note → HasTallied old 0 (note ∷ []) new) → HasEndedPage sp at page epoch t old v new w
    branch_ended k old new c w h leave counts =
        inl (ended_parted sp at page epoch t old new (Some h.note) v b c w inner_looks branch_work.drop.tree.there leave
        (counts h.note h.told) h.note refl (parted_kept x sp at t page word epoch k b c branch_work h))
