-- A header or a record of the leaf of a key was in the way as the key was to be added to it.
use Rattle.std.proofs.Common.{◌≡◌, ◌≢◌, ◌⊎◌, inl, inr, ℕ, ◌+◌, ◌-◌, ◌*◌, ◌/◌, ◌%◌, ◌^◌, ◌<◌, ◌≤◌, true, false, List}
use Rattle.std.proofs.Common.{length, get_or, take, refl, sym, ap, ◌∙◌, subst, arith, Option, Some, None}
use Rattle.std.specs.Prelude.{Contains, slice_get, ◌==◌}
use Rattle.std.proofs.lemmas.Bool.{eqb-true}
use Rattle.lists.specs.Elements.{any_is, at_in, in_none}
use Rattle.serial_model.specs.declared.key.Key.{Key}
use Rattle.homes.specs.declared.places.Span.{Span}
use Rattle.homes.specs.Homes.{has_key, in_span}
use Rattle.homes.specs.Laws.{in_span-parts}
use Rattle.wire_form.specs.Leaves.{tree_leaf, word_in}
use Rattle.drop_core.specs.Table.{has_slot}
use Rattle.tx_sets.specs.declared.seen.Seen.{Seen}
use Rattle.tx_sets.specs.declared.sets.Sets.{Sets}
use Rattle.tx_sets.specs.Entries.{has_word, word_at}
use Rattle.engine_pages.specs.declared.layout.Layout.{Layout}
use Rattle.engine_pages.specs.declared.view.Head.{Head}
use Rattle.engine_pages.specs.declared.view.RefusalCause.TheVariants as refusals
use Rattle.engine_pages.specs.declared.view.Took.{Took}
use Rattle.engine_pages.specs.declared.view.View.{View}
use Rattle.engine_pages.specs.declared.view.Way.{Way}
use Rattle.engine_pages.specs.Agreement.{TreesAgree}
use Rattle.engine_pages.specs.Layout.{page_at}
use Rattle.engine_pages.specs.Pages.{is_tree}
use Rattle.engine_pages.specs.Records.{IsTreeRecordAt}
use Rattle.engine_pages.specs.Steps.{kept_at, seen_at}
use Rattle.engine_pages.specs.Views.{seat_number}
use Rattle.engine_pages.specs.Words.{spot}
use Rattle.page_records.specs.Ends.{IsLeafWordAt}
use Rattle.array_pages.specs.Walks.{KeepsWords, SawLast}
use Rattle.foster_tree.specs.Causes.{IsLeafWordChanged}
use Rattle.foster_tree.specs.Locking.{no_key, with_touches}
use Rattle.foster_tree.proofs.LockLists.{has_in, there}
use Rattle.tree_walks.specs.declared.ways.Leaf.{Leaf}
use Rattle.tree_walks.specs.Ways.{IsLeafOn, IsMetSo, IsOnWay}
use Rattle.page_commit.specs.Live.{IsLive}
use Rattle.page_commit.specs.Needs.{names_record, AreWaysOver, IsUnsplitAt}
use Rattle.page_commit.specs.Places.{ground, slot_of, IsPointerIn, IsTreeKeyIn}
use Rattle.page_commit.specs.Turning.{OnlyWalked}
use Rattle.page_commit.proofs.GrowLaws.{KnowsMore}
use Rattle.page_commit.proofs.HeaderLaws.{tree_unkept}
use Rattle.page_commit.proofs.KeepLaws.{in_pointers}
use Rattle.page_commit.proofs.KnownOver.{header_known, ways_known}
use Rattle.page_commit.proofs.PointerLaws.{pointer_word}
use Rattle.page_commit.proofs.UnsplitLaws.{unsplit_at}
use Rattle.tree_calls.proofs.FoundHeader.{no_head_word}
use Rattle.tree_calls.proofs.OnLaws.{header_over}
use Rattle.tree_writes.proofs.MadeLaws.{place_on}
use Rattle.tree_writes.proofs.Stopping.{Stopped}

-- ---- records of a leaf

-- the record with this index of a leaf on the way to a key
pub leaf_record : (k : Key) (t : ℕ) (sp : Span) (keys : List Key) (v : View) (j : ℕ) → TreesAgree v → IsOnWay k v t sp
    → Contains v.known (record { slot = t; keys = keys }) → ((q : Key) → has_key keys q ≡ true → in_span sp q ≡ true)
    → j < length keys → j < 16
    → IsTreeKeyIn (ground v) (get_or keys j no_key) (page_at v.layout.slots t (1 + (16 + 3 * j)))
leaf_record k t sp keys v j trees on knows inside below few =
    let q : Key = get_or keys j no_key in
    let at : slice_get keys j ≡ Some q = there keys j no_key below in
    let over : in_span sp q ≡ true = inside q (has_in keys q (at_in keys j q at)) in
    let p : IsTreeRecordAt v q (spot t j) (page_at v.layout.slots t (1 + (16 + 3 * j))) = record {
      way = record { slot = t; span = sp };
      has = on.way;
      slot = refl;
      leaf = record { slot = t; keys = keys };
      knows = knows;
      same = refl;
      there = on.there;
      index = few;
      kind = subst (λ (i : ℕ). is_tree v.layout.decls i ≡ true) (sym (in_span-parts sp q over).0) on.tree;
      key = at;
      word = refl;
    } in
    place_on q (spot t j) sp (page_at v.layout.slots t (1 + (16 + 3 * j))) v trees
    record { way = on.way; tree = on.tree; there = on.there; over = over } p

-- ---- what was in the way

module _ (sets : Sets) (slots : List ℕ) (k : Key) (x : Leaf) (v u w : View) (live : IsLive sets v)
    (on : IsLeafOn k sets.headers x v) (only : OnlyWalked v w) (more : KnowsMore v w) (trees : TreesAgree w)
    (since : v.steps ≤ u.steps) (words : KeepsWords v w) where
  on_now : IsOnWay k w x.slot x.span
  on_now = record {
    way = only.ways (record { slot = x.slot; span = x.span }) on.leaf.on.way;
    tree = subst (λ (y : Layout). is_tree y.decls x.span.storage ≡ true) (sym more.layout) on.leaf.on.tree;
    there = subst (λ (y : Layout). x.slot < y.slots) (sym more.layout) on.leaf.on.there;
    over = on.leaf.on.over;
  }

  no_took : (y : Took) → Contains w.took y → ⊥
  no_took y has =
      in_none y (subst (λ (l : List Took). Contains l y) (ap (λ (z : View). z.took) only.is ∙ live.took) has)

  no_heads : (y : Head) → Contains w.heads y → ⊥
  no_heads y has =
      in_none y (subst (λ (l : List Head). Contains l y) (ap (λ (z : View). z.heads) only.is ∙ live.holds.heads) has)

  not_left : (t : ℕ) → has_slot w.gone t ≡ false
  not_left t = ap (λ (l : List ℕ). has_slot l t) (ap (λ (z : View). z.gone) only.is ∙ live.gone)

  -- what was known of the leaf is over the key
  known_here : (at : ℕ) → x.slot ≡ slot_of w.layout.slots at → AreWaysOver k v at
  known_here at slot =
      ways_known k at v w (record { slot = x.slot; span = x.span }) more trees on_now.way slot
      (subst (λ (i : ℕ). is_tree w.layout.decls i ≡ true) (sym (in_span-parts x.span k on_now.over).0) on_now.tree)
      on_now.over

  -- ---- a record

  -- locks of so many of the leaf's records were taken, and its own only where the sets name it; the header was left as it
  -- was seen, where they don't
  pub record_stops : (i at expected seen : ℕ) → i < 16 → length on.leaf.keys ≡ 16 → has_key on.leaf.keys k ≡ false
      → IsLeafWordChanged x.slot (word_in tree_leaf i) at expected seen u w → (count : ℕ) → count ≤ 16
      → w.touched ≡ with_touches v.touched (seat_number v.role) on.leaf.keys count
      → (has_key (take count on.leaf.keys) (get_or on.leaf.keys i no_key) ≡ false)
      ⊎ (names_record at sets ≡ true)
      → (seen_at w.reads (page_at v.layout.slots x.slot 0) ≡ Some x.header) ⊎ (names_record at sets ≡ true)
      → Stopped sets slots k (refusals.Conflict at expected seen) v w
  record_stops i at expected seen few full lacks c count most touched own still =
      let below : i < length on.leaf.keys = omega (arith, few, full) in
      let q : Key = get_or on.leaf.keys i no_key in
      let before : IsTreeKeyIn (ground v) q (page_at v.layout.slots x.slot (1 + (16 + 3 * i))) =
      leaf_record k x.slot x.span on.leaf.keys v i live.trees on.leaf.on on.leaf.knows on.leaf.inside below few in
      let at_is : at ≡ page_at v.layout.slots x.slot (1 + (16 + 3 * i)) =
      c.place.word.word ∙ ap (λ (y : Layout). page_at y.slots x.slot (1 + (16 + 3 * i))) more.layout in
      let none : kept_at v.reads at ≡ None =
      tree_unkept sets v v.seat.kept q at live.parts live.agree live.trees live.only
      (subst (λ (n : ℕ). IsTreeKeyIn (ground v) q n) (sym at_is) before) in
      let kept : c.saw.kept ≡ None = c.saw.kept_is ∙ (words at ∙ none) in
      let now : IsTreeKeyIn (ground w) q (page_at w.layout.slots x.slot (1 + (16 + 3 * i))) =
      leaf_record k x.slot x.span on.leaf.keys w i trees on_now
      (only.known (record { slot = x.slot; keys = on.leaf.keys }) on.leaf.knows) on.leaf.inside below few in
      let place : IsTreeKeyIn (ground w) q at =
      subst (λ (n : ℕ). IsTreeKeyIn (ground w) q n) (sym c.place.word.word) now in
      let word : at ≡ ((32 + w.layout.slots) + 64 * x.slot) + (1 + (16 + 3 * i)) = c.place.word.word in
      let slot : (at - (32 + w.layout.slots)) / 64 ≡ x.slot = omega (arith, word, few) in
      let whole : IsUnsplitAt w at ⊎ (names_record at sets ≡ true) =
      elim still [
        | inl met ↦ inl (unsplit_at x.slot at w slot record {
          word = x.header;
          saw = ap (λ (y : Layout). seen_at w.reads (page_at y.slots x.slot 0)) more.layout ∙ met;
          unsplit = on.leaf.small;
        })
        | inr named ↦ inr named
      ] in
      let way : Way = record { slot = x.slot; span = x.span } in
      let spans : x.span ≡ place.way.span =
      trees.spans way place.way on_now.way place.has (sym (place.slot ∙ slot)) on_now.tree in
      record {
        due = inr (inr (inr (
          x.slot,
          word_in tree_leaf i,
          record {
            place = c.place;
            free = λ y has same index. no_took y has;
            unheld = λ y has same index. no_heads y has;
            here = not_left x.slot;
            step = c.saw.step;
            last = c.saw.last;
            was = Some expected;
            kept = c.saw.kept;
            stands = c.saw.stands;
            known = inr (kept, refl);
            cause = c.cause;
          },
        )));
        on = inl (inr (inr record {
          key = q;
          place = place;
          over = subst (λ (s : Span). in_span s k ≡ true) spans on.leaf.on.over;
          which = inr (
            record { slot = x.slot; keys = on.leaf.keys },
            only.known (record { slot = x.slot; keys = on.leaf.keys }) on.leaf.knows,
            sym slot,
            full,
            lacks,
          );
          whole = whole;
        }));
        told = λ met t. t.3 x.slot (word_in tree_leaf i) c.place.word;
        stops = inl (
          w,
          only,
          inr (inr record {
            step = c.saw.step;
            last = c.saw.last;
            since = let low = c.saw.since in omega (arith, since, low);
            stands = subst (λ (o : Option ℕ). Contains w.reads
                (record { word = at; seen = seen; was = Some expected; kept = o })) kept c.saw.stands;
            key = q;
            place = place;
            over = subst (λ (s : Span). in_span s k ≡ true) spans on.leaf.on.over;
            leaf = record { slot = x.slot; keys = on.leaf.keys };
            knows = only.known (record { slot = x.slot; keys = on.leaf.keys }) on.leaf.knows;
            same = sym slot;
            full = full;
            lacks = lacks;
            whole = whole;
            known = known_here at (sym slot);
            cause = c.cause;
            locks = on.leaf.keys;
            count = count;
            within = omega (arith, most, full);
            touched = touched;
            own = own;
          }),
        );
      }

  -- ---- the header

  -- what is kept of the header is what the set has
  head_known : (at : ℕ) (kept : Option ℕ) → at ≡ page_at v.layout.slots x.slot 0 → kept ≡ kept_at v.reads at
      → (kept ≡ Some x.header) ⊎ (kept ≡ None)
  head_known at kept is same = elim on.set [
    | inr some ↦
        let q : Seen = record { at = at; word = x.header } in
        inl (same ∙ live.headers.kept q
        (in_pointers sets.headers q (ap (λ (n : ℕ). word_at n sets.headers) is ∙ some)))
    | inl none ↦ inr (same ∙ by_kept (kept_at v.reads at) refl (ap (λ (n : ℕ). word_at n sets.headers) is ∙ none))
  ]
    where
      by_pointer : has_word at sets.pointers ≡ true → ⊥
      by_pointer has =
          let p = any_is (λ (s : Seen). s.at == at) sets.pointers has in
          let r = live.parts.pointers p.0 p.1 in
          no_head_word v x.slot x.span r.2.span at live.agree live.decls on.leaf.on.way on.leaf.on.tree is
          (subst (λ (n : ℕ). IsPointerIn (ground v) r.2.span n) (eqb-true (p.0).at at p.2) r.2.place)

      by_header : word_at at sets.headers ≡ None → has_word at sets.headers ≡ true → ⊥
      by_header none has =
          let h = any_is (λ (s : Seen). s.at == at) sets.headers has in
          let some : word_at at sets.headers ≡ Some (h.0).word =
          ap (λ (n : ℕ). word_at n sets.headers) (sym (eqb-true (h.0).at at h.2))
          ∙ pointer_word sets.headers h.0 live.headers.once h.1 in
          let both : None ≡ Some (h.0).word = sym none ∙ some in absurd (cc)

      by_kept : (o : Option ℕ) → kept_at v.reads at ≡ o → word_at at sets.headers ≡ None → kept_at v.reads at ≡ None
      by_kept None is none = is
      by_kept (Some n) is none = absurd (elim (live.only at n is) [ inl p ↦ by_pointer p | inr h ↦ by_header none h ])

  pub head_stops : (at seen : ℕ) → IsLeafWordChanged x.slot 0 at x.header seen u w
      → Stopped sets slots k (refusals.Conflict at x.header seen) v w
  head_stops at seen c =
      let at_is : at ≡ page_at v.layout.slots x.slot 0 =
      c.place.word.word ∙ ap (λ (y : Layout). page_at y.slots x.slot 0) more.layout in
      let known = head_known at c.saw.kept at_is (c.saw.kept_is ∙ words at) in
      record {
        due = inr (inr (inr (
          x.slot,
          0,
          record {
            place = c.place;
            free = λ y has same index. no_took y has;
            unheld = λ y has same index. no_heads y has;
            here = not_left x.slot;
            step = c.saw.step;
            last = c.saw.last;
            was = Some x.header;
            kept = c.saw.kept;
            stands = c.saw.stands;
            known = elim known [ inl some ↦ inl some | inr none ↦ inr (none, refl) ];
            cause = c.cause;
          },
        )));
        on = inl (inr (inl (header_over k x.slot at x.span w on_now c.place.word.word)));
        told = λ met t. t.3 x.slot 0 c.place.word;
        stops = inl (
          w,
          only,
          inr (inl (
            record {
              step = c.saw.step;
              last = c.saw.last;
              since = let low = c.saw.since in omega (arith, since, low);
              was = Some x.header;
              kept = c.saw.kept;
              stands = c.saw.stands;
              known = elim on.set [
                | inl none ↦ inr (ap (λ (n : ℕ). word_at n sets.headers) at_is ∙ none, refl)
                | inr some ↦ inl (ap (λ (n : ℕ). word_at n sets.headers) at_is ∙ some)
              ];
              cause = c.cause;
            },
            header_over k x.slot at x.span w on_now c.place.word.word,
            header_known k at v w more trees (header_over k x.slot at x.span w on_now c.place.word.word),
          )),
        );
      }

  -- so it is of one that is kept, whatever the pass had seen or left there before
  pub kept_head_stops : (at seen : ℕ) (was : Option ℕ) → has_word at sets.headers ≡ true → IsLeafWordAt w x.slot 0 at
      → SawLast at seen was u w → ((seen / 2 ^ 60) % 2 ≡ 1) ⊎ (seen ≢ x.header)
      → Stopped sets slots k (refusals.Conflict at x.header seen) v w
  kept_head_stops at seen was has place saw cause =
      let at_is : at ≡ page_at v.layout.slots x.slot 0 =
      place.word.word ∙ ap (λ (y : Layout). page_at y.slots x.slot 0) more.layout in
      let q : Seen = record { at = at; word = x.header } in
      let some : word_at at sets.headers ≡ Some x.header = by_set at_is on.set in
      let kept : saw.kept ≡ Some x.header =
      saw.kept_is ∙ (words at ∙ live.headers.kept q (in_pointers sets.headers q some)) in
      record {
        due = inr (inr (inr (
          x.slot,
          0,
          record {
            place = place;
            free = λ y there same index. no_took y there;
            unheld = λ y there same index. no_heads y there;
            here = not_left x.slot;
            step = saw.step;
            last = saw.last;
            was = was;
            kept = saw.kept;
            stands = saw.stands;
            known = inl kept;
            cause = cause;
          },
        )));
        on = inl (inr (inl (header_over k x.slot at x.span w on_now place.word.word)));
        told = λ met t. t.3 x.slot 0 place.word;
        stops = inl (
          w,
          only,
          inr (inl (
            record {
              step = saw.step;
              last = saw.last;
              since = let low = saw.since in omega (arith, since, low);
              was = was;
              kept = saw.kept;
              stands = saw.stands;
              known = inl some;
              cause = cause;
            },
            header_over k x.slot at x.span w on_now place.word.word,
            header_known k at v w more trees (header_over k x.slot at x.span w on_now place.word.word),
          )),
        );
      }
    where
      by_set : at ≡ page_at v.layout.slots x.slot 0 → IsMetSo sets.headers (page_at v.layout.slots x.slot 0) x.header
          → word_at at sets.headers ≡ Some x.header
      by_set is (inl none) =
          let h = any_is (λ (s : Seen). s.at == at) sets.headers has in
          let some : word_at at sets.headers ≡ Some (h.0).word =
          ap (λ (n : ℕ). word_at n sets.headers) (sym (eqb-true (h.0).at at h.2))
          ∙ pointer_word sets.headers h.0 live.headers.once h.1 in
          let both : None ≡ Some (h.0).word =
          sym (ap (λ (n : ℕ). word_at n sets.headers) is ∙ none) ∙ some in absurd (cc)
      by_set is (inr some) = ap (λ (n : ℕ). word_at n sets.headers) is ∙ some
