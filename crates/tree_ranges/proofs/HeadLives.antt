-- A live transaction behind a header that was kept and joined its set.
use Rattle.std.proofs.Common.{◌≡◌, ◌≢◌, ◌⊎◌, inl, inr, ℕ, ◌+◌, ◌-◌, ◌*◌, ◌/◌, ◌<◌, ◌≤◌, Bool, true, false, true≢false}
use Rattle.std.proofs.Common.{List, []}
use Rattle.std.proofs.Common.{◌∷◌, length, not, refl, sym, ap, ◌∙◌, subst, Option, Some, None, arith}
use Rattle.std.specs.Prelude.{Contains, ◌==◌, Ok}
use Rattle.std.proofs.lemmas.Bool.{and_from, eqb-true, eq-eqb}
use Rattle.lists.specs.Each.{AreDistinct}
use Rattle.lists.specs.Elements.{any_is}
use Rattle.serial_model.specs.declared.key.Key.{Key}
use Rattle.serial_model.specs.declared.op.Op.TheVariants.{Scan}
use Rattle.homes.specs.Homes.{has_key, in_span}
use Rattle.homes.specs.Laws.{in_span-parts}
use Rattle.commit_core.specs.declared.part.Part.{Part}
use Rattle.serial_bridge.specs.Transaction.{Vouched}
use Rattle.tx_sets.specs.declared.reads.ReadEntry.{ReadEntry}
use Rattle.tx_sets.specs.declared.seen.Seen.{Seen}
use Rattle.tx_sets.specs.declared.sets.Sets.{Sets}
use Rattle.tx_sets.specs.Entries.{has_word, places_of, word_at}
use Rattle.engine_pages.specs.declared.view.View.{View}
use Rattle.engine_pages.specs.Layout.{page_at}
use Rattle.engine_pages.specs.Pages.{is_tree}
use Rattle.engine_pages.specs.Steps.{kept_at, seen_at}
use Rattle.tree_heads.specs.Keeps.{head_part}
use Rattle.tree_walks.specs.declared.ways.Leaf.{Leaf}
use Rattle.tree_walks.specs.Walks.{AreLedTo, CanWalk}
use Rattle.tree_walks.specs.Ways.{IsLeafAt, IsOnWay}
use Rattle.tree_walks.proofs.HalfLaws.{bounds_of, span_over}
use Rattle.tree_walks.proofs.StepLaws.{led_none, on_stays}
use Rattle.tree_walks.proofs.WayLaws.{leaf_stays}
use Rattle.page_commit.specs.HeaderParts.{AreHeaders, IsMetHeader}
use Rattle.page_commit.specs.Keeping.{MeetsPointer}
use Rattle.page_commit.specs.Live.{entry_places, AreMet, ArePointersKept, ArePointersMet, IsLive, KeepsOnly}
use Rattle.page_commit.specs.Places.{ground, IsPointerIn}
use Rattle.page_commit.specs.Turning.{IsHeaderOver, IsPointerOf, IsReadBy, MayRead}
use Rattle.page_commit.proofs.GrowLaws.{met_pointer_grown, KnowsMore}
use Rattle.page_commit.proofs.HeaderLaws.{no_head_pointer}
use Rattle.page_commit.proofs.KeepLaws.{kept_new}
use Rattle.page_commit.proofs.PointerLaws.{has_pointer, pointer_word}
use Rattle.page_commit.proofs.WalkedLaws.{held_to, inside_only, live_grown, met_only, pointers_push}
use Rattle.tree_calls.proofs.FoundHeader.{head_cases, head_has, head_old, head_parts, head_stays, same_head}
use Rattle.tree_calls.proofs.OpLaws.{held_for, ways_for}
use Rattle.tree_calls.proofs.TreeWalkLaws.{beside_trees, tree_headers, tree_knows_more, tree_points, tree_walked}
use Rattle.tree_calls.proofs.WalkedLaws.{ways_on}
use Rattle.tree_scans.specs.Heads.{IsHeadKept, KeepsHead}
use Rattle.tree_scans.specs.Rows.{key_in}
use Rattle.tree_ranges.specs.Going.{GoesIn, IsHeaderOf}
use Rattle.tree_ranges.specs.Leaves.{IsLeafTaken}
use Rattle.tree_ranges.proofs.GivenLaws.{within_by}
use Rattle.tree_ranges.proofs.GoneLaws.{joined_none, joined_one}

module _ (sets new : Sets) (v w : View) (k : Key) (x : Leaf) (at : ℕ) (m : IsLeafAt k x v) (live : IsLive sets v)
    (keeps : KeepsHead k x sets.pointers sets.headers sets.holds (Ok tt) v w) (place : at ≡ page_at w.layout.slots
    x.slot 0)
    (reads : new.reads ≡ sets.reads) (pointers : new.pointers ≡ sets.pointers) (holds : new.holds ≡ sets.holds)
    (writes : new.writes ≡ sets.writes)
    (meets : MeetsPointer (record { at = at; word = x.header }) sets.headers new.headers)
    (room : length new.reads + length new.headers ≤ 256) where
  abbrev h : Seen
  h = record { at = at; word = x.header }

  abbrev part : Part
  part = head_part x.slot x.span m.keys

  f : IsHeadKept x m.keys v w
  f = keeps.head m

  on : IsOnWay k w x.slot x.span
  on = on_stays k v w x.slot x.span keeps.walked m.on

  can : CanWalk new.holds w
  can = subst (λ (l : List ℕ). CanWalk l w) (sym holds) keeps.can

  more : KnowsMore v w
  more = tree_knows_more v w keeps.walked

  -- the part that was kept is that of the header
  met : IsMetHeader (ground w) h part
  met =
      let word : at ≡ ((32 + w.layout.slots) + 64 * x.slot) + 0 = place in
      let slot : (at - (32 + w.layout.slots)) / 64 ≡ x.slot = omega (arith, word) in record {
        span = x.span;
        keys = m.keys;
        has = subst (λ (t : ℕ). Contains w.ways (record { slot = t; span = x.span })) (sym slot) on.way;
        tree = on.tree;
        there = subst (λ (t : ℕ). t < w.layout.slots) (sym slot) on.there;
        place = place ∙ ap (λ (t : ℕ). page_at w.layout.slots t 0) (sym slot);
        knows = subst (λ (t : ℕ). Contains w.known (record { slot = t; keys = m.keys })) (sym slot) f.knows;
        few = f.few;
        word = f.is;
        is = ap (λ (t : ℕ). head_part t x.span m.keys) (sym slot);
      }

  word_kept : kept_at w.reads at ≡ Some x.header
  word_kept = ap (kept_at w.reads) place ∙ f.word_kept

  words : (a : ℕ) → a ≢ at → kept_at w.reads a ≡ kept_at v.reads a
  words a apart = f.words a (λ same. apart (same ∙ sym place))

  cases : (q : Seen) → Contains new.headers q → Contains sets.headers q ⊎ (h ≡ q)
  cases q has =
      head_cases sets new v w h part live.decls can.agree can.trees more live.parts (live.headers).once met meets q has

  once_heads : AreDistinct (places_of new.headers)
  once_heads = by_side meets
    where
      by_side : MeetsPointer h sets.headers new.headers → AreDistinct (places_of new.headers)
      by_side (inl m) = subst (λ (l : List Seen). AreDistinct (places_of l)) (sym m.1) (live.headers).once
      by_side (inr m) =
          subst (λ (l : List Seen). AreDistinct (places_of l)) (sym m.1)
          (pointers_push sets.headers h (live.headers).once (λ q has same.
          let there : word_at at sets.headers ≡ Some q.word =
          ap (λ (n : ℕ). word_at n sets.headers) (sym same) ∙ pointer_word sets.headers q (live.headers).once has in
          let no : None ≡ Some q.word = sym m.0 ∙ there in absurd (cc)))

  kept_other : (q : Seen) → Contains sets.headers q → kept_at w.reads q.at ≡ Some q.word
  kept_other q has = by_test (q.at == at) refl
    where
      by_test : (b : Bool) → (q.at == at) ≡ b → kept_at w.reads q.at ≡ Some q.word
      by_test true hit =
          subst (λ (z : Seen). kept_at w.reads z.at ≡ Some z.word)
          (sym (same_head sets new v w h part live.decls can.agree can.trees more live.parts (live.headers).once met
          meets q has
          (eqb-true q.at at hit))) word_kept
      by_test false miss =
          words q.at (λ same. true≢false (sym (eq-eqb q.at at same) ∙ miss)) ∙ (live.headers).kept q has

  heads_now : AreHeaders new.headers w
  heads_now = record {
    once = once_heads;
    met = λ q has. elim (cases q has) [
      | inl old ↦ tree_headers sets v w live keeps.keeps q old
      | inr same ↦
          subst (λ (z : Seen). seen_at w.reads z.at ≡ Some z.word) same (ap (seen_at w.reads) place ∙ f.met)
    ];
    kept = λ q has. elim (cases q has) [
      | inl old ↦ kept_other q old
      | inr same ↦ subst (λ (z : Seen). kept_at w.reads z.at ≡ Some z.word) same word_kept
    ];
  }

  -- a pointer of the set is another word
  point_other : (p : Seen) → Contains sets.pointers p → p.at ≡ at → ⊥
  point_other p has same =
      let r = (live.parts).pointers p has in
      let now = met_pointer_grown v w p r.0 live.decls can.agree more r.2 in
      no_head_pointer (ground w) h part now.span can.agree met
      (subst (λ (n : ℕ). IsPointerIn (ground w) now.span n) same now.place)

  kept_points : ArePointersKept sets.pointers w
  kept_points p has = words p.at (λ same. point_other p has same) ∙ live.kept p has

  only_heads : KeepsOnly new w
  only_heads a n is = by_test (a == at) refl
    where
      old_word : has_word a sets.headers ≡ true → has_word a new.headers ≡ true
      old_word has =
          let q = any_is (λ (s : Seen). s.at == a) sets.headers has in
          subst (λ (m : ℕ). has_word m new.headers ≡ true) (eqb-true q.0.at a q.2)
          (has_pointer new.headers q.0
          (head_old sets new v w h part live.decls can.agree can.trees more live.parts (live.headers).once met meets
          q.0 q.1))

      by_test : (b : Bool) → (a == at) ≡ b → (has_word a new.pointers ≡ true) ⊎ (has_word a new.headers ≡ true)
      by_test true hit =
          inr (subst (λ (m : ℕ). has_word m new.headers ≡ true) (sym (eqb-true a at hit))
          (has_pointer new.headers h
          (head_has sets new v w h part live.decls can.agree can.trees more live.parts (live.headers).once met meets)))
      by_test false miss =
          elim (live.only a n (sym (words a (λ same. true≢false (sym (eq-eqb a at same) ∙ miss))) ∙ is)) [
            | inl p ↦ inl (subst (λ (l : List Seen). has_word a l ≡ true) (sym pointers) p)
            | inr head ↦ inr (old_word head)
          ]

  pub live_head : IsLive new w
  live_head = live_grown sets new v w live (tree_walked v w keeps.walked) more can record {
    parts = head_parts sets new v w h part live.decls can.agree can.trees more live.parts (live.headers).once met
        meets reads pointers
        f.kept;
    places = subst (λ (l : List ReadEntry). AreDistinct (entry_places l)) (sym reads) live.places;
    once = subst (λ (l : List Seen). AreDistinct (places_of l)) (sym pointers) live.once;
    writes = writes;
    met = subst (λ (l : List ReadEntry). AreMet l [] w) (sym reads)
        (met_only sets v w live more can.agree can.trees can.declared (beside_trees v w can.declared keeps.only));
    points = subst (λ (l : List Seen). ArePointersMet l w) (sym pointers) (tree_points sets v w live keeps.keeps);
    kept = subst (λ (l : List Seen). ArePointersKept l w) (sym pointers) kept_points;
    headers = heads_now;
    only = only_heads;
    inside = inside_only sets v w live more can.declared (beside_trees v w can.declared keeps.only);
    room = room;
  }

  -- the header is on the way to the key
  head_over : IsHeaderOver w k at
  head_over =
      let word : at ≡ ((32 + w.layout.slots) + 64 * x.slot) + 0 = place in
      let slot : (at - (32 + w.layout.slots)) / 64 ≡ x.slot = omega (arith, word) in record {
        way = record { slot = x.slot; span = x.span };
        has = on.way;
        slot = sym slot;
        tree = subst (λ (i : ℕ). is_tree w.layout.decls i ≡ true) (sym (in_span-parts x.span k on.over).0) on.tree;
        over = on.over;
        word = place;
      }

  pub head_goes : GoesIn k.storage k.key k.key sets new v w
  head_goes low high from to =
      let may : MayRead (Scan k.storage low high) k = within_by k.storage low high k.key from to in record {
        live = live_head;
        walked = keeps.walked;
        paths = ways_for (Scan k.storage low high) k v w (inl may) (ways_on k v w keeps.paths);
        held = held_for (Scan k.storage low high) k sets.holds new.holds w (inl may)
            (held_to k sets.holds new.holds v w live.holds can.holds (led_none k v w keeps.grip));
        keeps = head_stays sets new v w h part live.decls can.agree can.trees more live.parts (live.headers).once met
            meets f.kept;
        reads = joined_none ReadEntry (IsReadBy v.layout.decls (Scan k.storage low high)) sets.reads new.reads reads;
        pointers = joined_none Seen (IsPointerOf w (Scan k.storage low high)) sets.pointers new.pointers pointers;
        headers = elim meets [
          | inl m ↦ joined_none Seen (IsHeaderOf w (Scan k.storage low high)) sets.headers new.headers m.1
          | inr m ↦ joined_one Seen (IsHeaderOf w (Scan k.storage low high)) sets.headers new.headers h m.1
              (k, may, head_over)
        ];
        writes = writes;
      }

  -- it vouches for the keys that the leaf hasn't
  pub head_taken : (last : ℕ) → last ≤ (x.span).high → IsLeafTaken k x last new.headers w
  head_taken last top = record {
    leaf = leaf_stays k x v w keeps.walked m;
    kept = subst (λ (n : ℕ). Contains new.headers (record { at = n; word = x.header })) place
        (head_has sets new v w h part live.decls can.agree can.trees more live.parts (live.headers).once met meets);
    rest = λ n low high none. record {
      part = part;
      among = subst (λ (l : List Part). Contains l part) (sym f.kept) (kept_new v.seat.kept part);
      over = and_from (in_span x.span (key_in k.storage n)) (not (has_key m.keys (key_in k.storage n))) (inside n low
          high)
          (ap not none);
      has = refl;
    };
  }
    where
      inside : (n : ℕ) → k.key ≤ n → n ≤ last → in_span x.span (key_in k.storage n) ≡ true
      inside n low high =
          let b = bounds_of x.span k (m.on).over in
          let bottom = b.1 in
          span_over x.span (key_in k.storage n) x.span.low x.span.high b.0 (omega (arith, bottom, low))
          (omega (arith, high, top))
