-- What a read of a key of a tree is refused for: it is due, and is told with its whole cause.
use Rattle.std.proofs.Common.{◌≡◌, ◌⊎◌, true≢false, inl, inr, ℕ, ◌+◌, ◌-◌, ◌*◌, ◌/◌, ◌<◌, true, false, List, []}
use Rattle.std.proofs.Common.{refl, sym, ap, ◌∙◌, subst, arith, Option, Some, None}
use Rattle.std.specs.Prelude.{Contains, unwrap_or, ◌==◌}
use Rattle.std.proofs.lemmas.Bool.{eqb-true}
use Rattle.lists.specs.Elements.{any_in, any_is, at_below, in_none}
use Rattle.serial_model.specs.declared.key.Key.{Key}
use Rattle.homes.specs.declared.places.Span.{Span}
use Rattle.homes.specs.Homes.{in_span, same_key}
use Rattle.homes.specs.Laws.{in_span-parts, same_key-self}
use Rattle.wire_form.specs.Leaves.{tree_leaf, word_in}
use Rattle.drop_core.specs.Table.{has_slot}
use Rattle.tx_sets.specs.declared.reads.ReadEntry.{ReadEntry}
use Rattle.tx_sets.specs.declared.seen.Seen.{Seen}
use Rattle.tx_sets.specs.declared.sets.Sets.{Sets}
use Rattle.tx_sets.specs.Entries.{has_read, has_word, word_at}
use Rattle.engine_pages.specs.declared.view.Head.{Head}
use Rattle.engine_pages.specs.declared.view.Known.{Known}
use Rattle.engine_pages.specs.declared.view.RefusalCause.{RefusalCause}
use Rattle.engine_pages.specs.declared.view.RefusalCause.TheVariants as refusals
use Rattle.engine_pages.specs.declared.view.Took.{Took}
use Rattle.engine_pages.specs.declared.view.Touch.{Touch}
use Rattle.engine_pages.specs.declared.view.View.{View}
use Rattle.engine_pages.specs.declared.view.Way.{Way}
use Rattle.engine_pages.specs.Pages.{is_tree}
use Rattle.engine_pages.specs.Steps.{kept_at}
use Rattle.page_records.specs.Ends.{is_left, IsDue, IsTreeWordAt}
use Rattle.tree_walks.specs.Finding.{IsRecordChanged, RefusesFind}
use Rattle.tree_walks.specs.Walks.{CanWalk, HasWalked}
use Rattle.tree_walks.specs.Ways.{IsHeaderChanged, IsPointerChanged, IsWayPointer}
use Rattle.page_commit.specs.Live.{read_word, IsLive}
use Rattle.page_commit.specs.Needs.{IsUnsplitAt}
use Rattle.page_commit.specs.Places.{ground, slot_of, IsAnyKeyIn, IsPointerIn, IsTreeKeyIn}
use Rattle.page_commit.specs.Steps.{HasGivenUp, TellsOf}
use Rattle.page_commit.specs.Turning.{IsHeaderOver, IsTreePointerOver}
use Rattle.page_commit.proofs.AnyPlaces.{any_no_pointer, any_one_key, tree_key_here}
use Rattle.page_commit.proofs.CommitLaws.{kept_others, last_same, told_none, told_tree, touched_same}
use Rattle.page_commit.proofs.GiveUpLaws.{none_left}
use Rattle.page_commit.proofs.GrowLaws.{any_grown, entry_at, met_pointer_grown, KnowsMore}
use Rattle.page_commit.proofs.HeaderLaws.{header_grown, no_head_tree}
use Rattle.page_commit.proofs.KeepLaws.{in_pointers}
use Rattle.page_commit.proofs.KnownOver.{header_known, pointer_known, ways_known}
use Rattle.page_commit.proofs.PointerLaws.{pointer_word}
use Rattle.page_commit.proofs.TreePointers.{any_pointer_here}
use Rattle.page_commit.proofs.UnsplitLaws.{unsplit_at, unsplit_end}
use Rattle.tree_calls.specs.Causes.{IsWordConflict}
use Rattle.tree_calls.proofs.FoundBelow.{lies_so}
use Rattle.tree_calls.proofs.FoundHeader.{no_head_word}
use Rattle.tree_calls.proofs.TreeWalkLaws.{tree_knows_more, tree_walked}

-- a live transaction has walked down a tree
pub record TreeWalked (sets : Sets) (slots : List ℕ) (v w : View) : Type 0 where
  pub live : IsLive sets v
  pub walk : HasWalked v w
  pub can : CanWalk slots w

pub gone_none : (sets : Sets) (slots : List ℕ) (v w : View) → TreeWalked sets slots v w → w.gone ≡ []
gone_none sets slots v w h = ap (λ (y : View). y.gone) h.walk.is ∙ h.live.gone

pub more_of : (sets : Sets) (slots : List ℕ) (v w : View) → TreeWalked sets slots v w → KnowsMore v w
more_of sets slots v w h = tree_knows_more v w h.walk

-- ---- words that aren't kept

-- nothing is kept of a word that no set has
pub unkept : (sets : Sets) (v : View) (at : ℕ) → IsLive sets v → (has_word at sets.pointers ≡ true → ⊥)
    → (has_word at sets.headers ≡ true → ⊥) → kept_at v.reads at ≡ None
unkept sets v at live pointer header = by_kept (kept_at v.reads at) refl
  where
    by_kept : (o : Option ℕ) → kept_at v.reads at ≡ o → kept_at v.reads at ≡ None
    by_kept None is = is
    by_kept (Some n) is = absurd (elim (live.only at n is) [ inl p ↦ pointer p | inr h ↦ header h ])

-- a word that is found isn't missing
word_there : (at : ℕ) (set : List Seen) (live : (q : Seen) → Contains set q → word_at q.at set ≡ Some q.word)
    → word_at at set ≡ None → has_word at set ≡ true → ⊥
word_there at set found none has =
    let q = any_is (λ (s : Seen). s.at == at) set has in
    let there : word_at at set ≡ Some (q.0).word =
    subst (λ (n : ℕ). word_at n set ≡ Some (q.0).word) (eqb-true (q.0).at at q.2) (found q.0 q.1) in
    let no : None ≡ Some (q.0).word = sym none ∙ there in absurd (cc)

-- ---- a pointer

pub pointer_due : (sets : Sets) (slots : List ℕ) (k : Key) (at expected seen : ℕ) (v w : View)
    → TreeWalked sets slots v w → IsPointerChanged k sets.pointers at expected seen v w
    → IsDue (Some (refusals.Conflict at expected seen)) w
pointer_due sets slots k at expected seen v w h p =
    inr (inl (
      (p.on).place,
      (p.on).span,
      record {
        place = (p.on).is;
        here = ap (λ l. is_left l (p.on).place) (gone_none sets slots v w h) ∙ none_left (p.on).place;
        step = (p.saw).step;
        last = (p.saw).last;
        was = p.was;
        kept = (p.saw).kept;
        stands = (p.saw).stands;
        known = elim p.known [
          | inl set ↦
              let q : Seen = record { at = at; word = expected } in
              inr (set.1 ∙ (h.live).kept q (in_pointers sets.pointers q set.0))
          | inr before ↦ inl (sym (ap (λ (o : Option ℕ). unwrap_or o seen) before.0))
        ];
        cause = p.cause;
      },
    ))

-- ---- a header

module _ (sets : Sets) (slots : List ℕ) (k : Key) (at expected seen : ℕ) (v w : View) (h : TreeWalked sets slots v w)
    (c : IsHeaderChanged k sets.headers at expected seen v w) where
  head_word : IsTreeWordAt w c.slot 0 at
  head_word = record {
    way = record { slot = c.slot; span = c.span };
    has = (c.on).way;
    slot = refl;
    kind = (c.on).tree;
    there = (c.on).there;
    index = omega arith;
    word = c.word;
  }

  -- a leaf in its slot is known
  head_leaf : (x : Known) × Contains w.known x × (x.slot ≡ c.slot)
  head_leaf = elim c.leaf [
    | inl known ↦ known
    | inr set ↦
        let q : Seen = record { at = at; word = expected } in
        let r = ((h.live).parts).headers q (in_pointers sets.headers q set) in
        let m = header_grown v w q r.0 (more_of sets slots v w h) r.2 in
        let place : at ≡ ((32 + w.layout.slots) + 64 * c.slot) + 0 = c.word in
        let slot : (at - (32 + w.layout.slots)) / 64 ≡ c.slot = omega (arith, place) in
        (record { slot = slot_of w.layout.slots at; keys = m.keys }, m.knows, slot)
  ]

  -- no pointer of the set stands there
  head_point : has_word at sets.pointers ≡ true → ⊥
  head_point has =
      let q = any_is (λ (s : Seen). s.at == at) sets.pointers has in
      let r = ((h.live).parts).pointers q.0 q.1 in
      let m = met_pointer_grown v w q.0 r.0 (h.live).decls (h.can).agree (more_of sets slots v w h) r.2 in
      no_head_word w c.slot c.span m.span at (h.can).agree (h.can).declared (c.on).way (c.on).tree c.word
      (subst (λ (n : ℕ). IsPointerIn (ground w) m.span n) (eqb-true (q.0).at at q.2) m.place)

  head_kept : ((c.saw).kept ≡ Some expected) ⊎ (((c.saw).kept ≡ None) × (expected ≡ unwrap_or c.was seen))
  head_kept = elim c.known [
    | inl set ↦
        let q : Seen = record { at = at; word = expected } in
        inl (c.kept ∙ ((h.live).headers).kept q (in_pointers sets.headers q set))
    | inr before ↦ inr (
      c.kept ∙ unkept sets v at h.live head_point
          (word_there at sets.headers (λ q has. pointer_word sets.headers q ((h.live).headers).once has) before.0),
      sym (ap (λ (o : Option ℕ). unwrap_or o seen) before.1),
    )
  ]

  pub header_due : IsDue (Some (refusals.Conflict at expected seen)) w
  header_due =
      inr (inr (inr (
        c.slot,
        0,
        record {
          place = record {
            word = head_word;
            leaf = head_leaf.0;
            knows = head_leaf.1;
            same = head_leaf.2;
            is = inl refl;
          };
          free = λ y has same index.
              absurd (in_none y (subst (λ (l : List Took). Contains l y)
              (ap (λ (z : View). z.took) (h.walk).is ∙ (h.live).took) has));
          unheld = λ y has same index.
              absurd (in_none y (subst (λ (l : List Head). Contains l y)
              (ap (λ (z : View). z.heads) (h.walk).is ∙ ((h.live).holds).heads) has));
          here = ap (λ l. has_slot l c.slot) (gone_none sets slots v w h);
          step = (c.saw).step;
          last = (c.saw).last;
          was = c.was;
          kept = (c.saw).kept;
          stands = (c.saw).stands;
          known = head_kept;
          cause = c.cause;
        },
      )))

  pub header_told : (met : List Touch) → TellsOf (refusals.Conflict at expected seen) met w → met ≡ []
  header_told met t = t.3 c.slot 0 head_word

-- ---- a record

module _ (sets : Sets) (slots : List ℕ) (k : Key) (at expected seen : ℕ) (v w : View) (h : TreeWalked sets slots v w)
    (c : IsRecordChanged k at expected seen v w) where
  abbrev index : ℕ
  index = word_in tree_leaf (c.spot).index

  over : in_span ((c.place).way).span k ≡ true
  over =
      let way : Way = record { slot = c.slot; span = c.span } in
      let same = ((h.can).trees).spans way (c.place).way (c.on).way (c.place).has (sym ((c.place).slot ∙ c.stands)) (c.on).tree in
      subst (λ (s : Span). in_span s k ≡ true) same (c.on).over

  place : IsTreeKeyIn (ground w) k at
  place = tree_key_here w k c.spot at c.place over

  -- the header of its page was last seen as that of a leaf that wasn't split
  pub record_whole : IsUnsplitAt w at
  record_whole =
      let few : (c.spot).index < 16 = (c.place).index in
      let word : at ≡ ((32 + w.layout.slots) + 64 * (c.spot).slot) + (1 + (16 + 3 * (c.spot).index)) = (c.place).word in
      let slot : (at - (32 + w.layout.slots)) / 64 ≡ (c.spot).slot = omega (arith, word, few) in
      unsplit_at c.slot at w (slot ∙ c.stands) c.whole

  record_word : IsTreeWordAt w (c.spot).slot index at
  record_word = record {
    way = record { slot = c.slot; span = c.span };
    has = (c.on).way;
    slot = sym c.stands;
    kind = (c.on).tree;
    there = (c.place).there;
    index = let few : (c.spot).index < 16 = (c.place).index in omega (arith, few);
    word = (c.place).word;
  }

  record_point : has_word at sets.pointers ≡ true → ⊥
  record_point has =
      let q = any_is (λ (s : Seen). s.at == at) sets.pointers has in
      let r = ((h.live).parts).pointers q.0 q.1 in
      let m = met_pointer_grown v w q.0 r.0 (h.live).decls (h.can).agree (more_of sets slots v w h) r.2 in
      any_no_pointer w k m.span at (h.can).agree (h.can).trees (inr place)
      (subst (λ (n : ℕ). IsPointerIn (ground w) m.span n) (eqb-true (q.0).at at q.2) m.place)

  record_head : has_word at sets.headers ≡ true → ⊥
  record_head has =
      let q = any_is (λ (s : Seen). s.at == at) sets.headers has in
      let r = ((h.live).parts).headers q.0 q.1 in
      no_head_tree (ground w) q.0 r.0 k (header_grown v w q.0 r.0 (more_of sets slots v w h) r.2)
      (subst (λ (n : ℕ). IsTreeKeyIn (ground w) k n) (sym (eqb-true (q.0).at at q.2)) place)

  pub record_kept : (c.saw).kept ≡ None
  record_kept = c.kept ∙ unkept sets v at h.live record_point record_head

  pub record_due : IsDue (Some (refusals.Conflict at expected seen)) w
  record_due =
      inr (inr (inr (
        (c.spot).slot,
        index,
        record {
          place = record {
            word = record_word;
            leaf = (c.place).leaf;
            knows = (c.place).knows;
            same = (c.place).same;
            is = inr ((c.spot).index, at_below ((c.place).leaf).keys (c.spot).index k (c.place).key, refl);
          };
          free = λ y has same one.
              absurd (in_none y (subst (λ (l : List Took). Contains l y)
              (ap (λ (z : View). z.took) (h.walk).is ∙ (h.live).took) has));
          unheld = λ y has same one.
              absurd (in_none y (subst (λ (l : List Head). Contains l y)
              (ap (λ (z : View). z.heads) (h.walk).is ∙ ((h.live).holds).heads) has));
          here = ap (λ l. has_slot l (c.spot).slot) (gone_none sets slots v w h);
          step = (c.saw).step;
          last = (c.saw).last;
          was = c.was;
          kept = (c.saw).kept;
          stands = (c.saw).stands;
          known = inr (record_kept, sym (ap (λ (o : Option ℕ). unwrap_or o seen) c.known));
          cause = c.cause;
        },
      )))

  pub record_told : (met : List Touch) → TellsOf (refusals.Conflict at expected seen) met w → met ≡ []
  record_told met t = t.3 (c.spot).slot index record_word

-- ---- the whole search

pub find_due : (why : RefusalCause) (sets : Sets) (slots late : List ℕ) (k : Key) (v w : View)
    → TreeWalked sets slots v w → RefusesFind k sets.pointers sets.headers late why v w → IsDue (Some why) w
find_due (refusals.Conflict at expected seen) sets slots late k v w h (inl (inl p)) =
    pointer_due sets slots k at expected seen v w h p
find_due (refusals.Conflict at expected seen) sets slots late k v w h (inl (inr c)) =
    header_due sets slots k at expected seen v w h c
find_due (refusals.Conflict at expected seen) sets slots late k v w h (inr c) =
    record_due sets slots k at expected seen v w h c
find_due (refusals.Full held) sets slots late k v w h r = absurd r
find_due (refusals.Wide set) sets slots late k v w h r = tt
find_due (refusals.NumberLimit clock) sets slots late k v w h r = absurd r

-- ---- the cause, behind the end

-- the place of a pointer that the walk knows
pub pointer_place : (slots : List ℕ) (k : Key) (w : View) (at : ℕ) → CanWalk slots w → (p : IsWayPointer k w at)
    → IsPointerIn (ground w) p.span at
pointer_place slots k w at can p =
    any_pointer_here w p.place p.span at can.agree can.declared p.is (lies_so w.layout.slots p.place at p.inside)

module _ (why : RefusalCause) (sets : Sets) (slots : List ℕ) (k : Key) (v w x : View) (h : TreeWalked sets slots v w)
    (g : HasGivenUp [] why w x) where
  pub draws_same : x.draws ≡ v.draws
  draws_same =
      ap (λ (y : View). y.draws) (g.left).is
      ∙ (ap (λ (y : View). y.draws) g.forgot ∙ ap (λ (y : View). y.draws) (h.walk).is)

  pub touches_same : x.touched ≡ v.touched
  touches_same = touched_same [] why w x g ∙ ap (λ (y : View). y.touched) (h.walk).is

  pub blamed_walk : w.blamed ≡ v.blamed
  blamed_walk = ap (λ (y : View). y.blamed) (h.walk).is

  pub pointer_cause : (at expected seen : ℕ) → why ≡ refusals.Conflict at expected seen
      → IsPointerChanged k sets.pointers at expected seen v w
      → IsWordConflict sets k at expected seen v x × (x.blamed ≡ v.blamed)
  pointer_cause at expected seen same p = (
    (
      w,
      tree_walked v w h.walk,
      inl (
        record {
          step = (p.saw).step;
          last = last_same [] why w x g ∙ (p.saw).last;
          since = (p.saw).since;
          was = p.was;
          kept = (p.saw).kept;
          stands = kept_others [] why w x g (record { word = at; seen = seen; was = p.was; kept = (p.saw).kept }) (p.saw).stands
              refl;
          known = elim p.known [
            | inl set ↦ inl set.0
            | inr before ↦ elim before.1 [ inl none ↦ inr (none, before.0) | inr has ↦ inl has ]
          ];
          cause = p.cause;
        },
        pointer_over,
        pointer_known k at v w (p.on).span (more_of sets slots v w h) (h.can).agree (h.can).trees
            (pointer_place slots k w at h.can p.on) (p.on).over,
      ),
    ),
    told_none [] why (p.on).span at expected seen v w x blamed_walk same (pointer_place slots k w at h.can p.on) g,
  )
    where
      pointer_over : IsTreePointerOver w k at
      pointer_over = record {
        place = (p.on).place;
        span = (p.on).span;
        is = (p.on).is;
        tree = subst (λ (i : ℕ). is_tree w.layout.decls i ≡ true) (sym (in_span-parts (p.on).span k (p.on).over).0)
            (p.on).tree;
        over = (p.on).over;
      }

  pub header_cause : (at expected seen : ℕ) → why ≡ refusals.Conflict at expected seen
      → IsHeaderChanged k sets.headers at expected seen v w
      → IsWordConflict sets k at expected seen v x × (x.blamed ≡ v.blamed)
  header_cause at expected seen same c = (
    (
      w,
      tree_walked v w h.walk,
      inr (inl (
        record {
          step = (c.saw).step;
          last = last_same [] why w x g ∙ (c.saw).last;
          since = (c.saw).since;
          was = c.was;
          kept = (c.saw).kept;
          stands = kept_others [] why w x g (record { word = at; seen = seen; was = c.was; kept = (c.saw).kept }) (c.saw).stands
              refl;
          known = c.known;
          cause = c.cause;
        },
        header_over,
        header_known k at v w (more_of sets slots v w h) (h.can).trees header_over,
      )),
    ),
    told_tree [] why c.slot 0 at expected seen v w x blamed_walk same (head_word sets slots k at expected seen v w h c) g,
  )
    where
      header_over : IsHeaderOver w k at
      header_over =
          let place : at ≡ ((32 + w.layout.slots) + 64 * c.slot) + 0 = c.word in
          let slot : (at - (32 + w.layout.slots)) / 64 ≡ c.slot = omega (arith, place) in record {
            way = record { slot = c.slot; span = c.span };
            has = (c.on).way;
            slot = sym slot;
            tree = subst (λ (i : ℕ). is_tree w.layout.decls i ≡ true) (sym (in_span-parts c.span k (c.on).over).0)
                (c.on).tree;
            over = (c.on).over;
            word = c.word;
          }

  pub record_cause : (at expected seen : ℕ) → why ≡ refusals.Conflict at expected seen → has_read k sets.reads ≡ false
      → IsRecordChanged k at expected seen v w
      → IsWordConflict sets k at expected seen v x × (x.blamed ≡ v.blamed)
  record_cause at expected seen same none c = (
    (
      w,
      tree_walked v w h.walk,
      inr (inr (
        record {
          step = (c.saw).step;
          last = last_same [] why w x g ∙ (c.saw).last;
          since = (c.saw).since;
          stands =
              subst (λ (o : Option ℕ). Contains x.reads (record { word = at; seen = seen; was = Some expected; kept = o }))
              (record_kept sets slots k at expected seen v w h c)
              (subst (λ (o : Option ℕ). Contains x.reads (record { word = at; seen = seen; was = o; kept = (c.saw).kept }))
              c.known
              (kept_others [] why w x g (record { word = at; seen = seen; was = c.was; kept = (c.saw).kept }) (c.saw).stands
              refl));
          read = λ n is. absurd (none_read_at n is);
          cause = c.cause;
        },
        there,
        ways_known k at v w there.way (more_of sets slots v w h) (h.can).trees there.has there.slot there.kind there.over,
        unsplit_end at why w x g (record_whole sets slots k at expected seen v w h c),
      )),
    ),
    told_tree [] why (c.spot).slot (word_in tree_leaf (c.spot).index) at expected seen v w x blamed_walk same
        (record_word sets slots k at expected seen v w h c) g,
  )
    where
      there : IsTreeKeyIn (ground w) k at
      there = place sets slots k at expected seen v w h c

      none_read_at : (n : ℕ) → read_word at sets.reads ≡ Some n → ⊥
      none_read_at n is =
          let e = entry_at sets.reads at n is in
          let there = any_grown v w (e.0).key at (more_of sets slots v w h)
          (subst (λ (m : ℕ). IsAnyKeyIn (ground v) (e.0).key m) e.2 (((h.live).parts).reads e.0 e.1).2.place) in
          let key : (e.0).key ≡ k =
          any_one_key (ground w) (e.0).key k at (h.can).agree ((h.can).trees).known there
          (inr (place sets slots k at expected seen v w h c)) in
          true≢false (sym (any_in (λ (z : ReadEntry). same_key z.key k) sets.reads e.0 e.1
          (ap (λ (q : Key). same_key q k) key ∙ same_key-self k)) ∙ none)
