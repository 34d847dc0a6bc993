-- Why pages could not be brought into memory for a write at a key of a tree.
use Rattle.std.proofs.Common.{◌≡◌, inl, inr, ℕ, suc, ◌+◌, ◌<◌, ◌≤◌, List, [], ◌∷◌, ◌++◌, length}
use Rattle.std.proofs.Common.{refl, sym, ap, ◌∙◌, subst, arith, length-append, Option, Some}
use Rattle.serial_model.specs.declared.key.Key.{Key}
use Rattle.tx_sets.specs.declared.sets.Sets.{Sets}
use Rattle.engine_pages.specs.declared.layout.Layout.{Layout}
use Rattle.engine_pages.specs.declared.view.RefusalCause.{RefusalCause}
use Rattle.engine_pages.specs.declared.view.RefusalCause.TheVariants as refusals
use Rattle.engine_pages.specs.declared.view.SetName.TheVariants.{Reads, Writes, Pointers, Holds}
use Rattle.engine_pages.specs.declared.view.View.{View}
use Rattle.engine_pages.specs.Slots.{looks}
use Rattle.engine_pages.specs.Steps.{glance, glanced}
use Rattle.page_pool.specs.Pool.{IsChanged, IsFull}
use Rattle.tree_walks.specs.Ways.{IsHeaderChanged, IsPointerChanged}
use Rattle.tree_making.specs.Making.{NeedsPage, RefusesMake}
use Rattle.page_commit.specs.Needs.{LacksPage}
use Rattle.page_commit.proofs.KnownOver.{header_known, pointer_known}
use Rattle.tree_calls.proofs.DueLaws.{header_due, header_told, more_of, pointer_due, pointer_place, TreeWalked}
use Rattle.tree_calls.proofs.OnLaws.{header_over, held_on, pointer_over}
use Rattle.tree_calls.proofs.TreeWalkLaws.{tree_walked}
use Rattle.tree_writes.proofs.Stopping.{Stopped}

-- ---- a slot, or all slots

slot_last : (before : List ℕ) (at expected seen : ℕ) (u y w : View) → y.steps ≡ u.steps + length (before ++ expected ∷ [])
    → w ≡ glanced at seen y → w.last ≡ Some (glance (u.steps + suc (length before)) at seen)
slot_last before at expected seen u y w steps is =
    let long = length-append before (expected ∷ []) in
    let count : y.steps ≡ u.steps + suc (length before) = omega (arith, steps, long) in
    ap (λ (z : View). z.last) is ∙ ap (λ (n : ℕ). Some (glance n at seen)) count

-- behind steps of the call, of which the layout is the same, a slot's word was another one; no word was loaded since
pub slot_stops : (sets : Sets) (slots : List ℕ) (k : Key) (at expected seen : ℕ) (v u w x : View) → v.steps ≤ u.steps
    → u.layout ≡ v.layout → x.layout ≡ v.layout → x.looked ≡ w.looked → x.last ≡ w.last → IsChanged at expected seen u w
    → Stopped sets slots k (refusals.Conflict at expected seen) v x
slot_stops sets slots k at expected seen v u w x since layout late looked last c =
    let there : c.slot < v.layout.slots = subst (λ (l : Layout). c.slot < l.slots) layout c.first.there in
    let here : c.slot < x.layout.slots = subst (λ (l : Layout). c.slot < l.slots) (sym late) there in
    let saw : x.looked ≡ looks u.steps 0 (c.first.before ++ expected ∷ []) =
    looked ∙ (ap (λ (z : View). z.looked) c.only ∙ c.first.seen.looked) in
    let end : x.last ≡ Some (glance (u.steps + suc (length c.first.before)) at seen) =
    last ∙ slot_last c.first.before at expected seen u c.seen w c.first.seen.steps c.only in
    record {
      due = inr (inr (inl (
        c.slot,
        record {
          place = c.place;
          within = here;
          before = c.first.before;
          first = u.steps;
          count = c.first.count;
          taken = c.first.taken;
          usable = c.first.usable;
          looked = saw;
          last = end;
          other = c.other;
        },
      )));
      on = inr (c.slot, here, c.place);
      told = λ met t. t.2 c.slot here c.place;
      stops = inr record {
        slot = c.slot;
        within = there;
        place = c.place;
        before = c.first.before;
        first = u.steps;
        since = since;
        count = c.first.count;
        taken = c.first.taken;
        usable = c.first.usable;
        looked = saw;
        last = end;
        other = c.other;
      };
    }

-- none was usable
pub full_stops : (sets : Sets) (slots : List ℕ) (k : Key) (held : Option (ℕ × ℕ)) (v u w x : View) → v.steps ≤ u.steps
    → u.layout ≡ v.layout → x.layout ≡ v.layout → x.looked ≡ w.looked → x.last ≡ w.last → IsFull held u w
    → Stopped sets slots k (refusals.Full held) v x
full_stops sets slots k held v u w x since layout late looked last f = record {
  due = record {
    words = f.words;
    step = u.steps;
    count = f.count ∙ ap (λ (l : Layout). l.slots) (layout ∙ sym late);
    taken = f.taken;
    held = f.held;
    looked = looked ∙ f.seen.looked;
    earlier = u.last;
    last = last ∙ f.seen.last;
  };
  on = tt;
  told = λ met t. t;
  stops = record {
    words = f.words;
    count = f.count ∙ ap (λ (l : Layout). l.slots) layout;
    taken = f.taken;
    held = f.held;
    step = u.steps;
    since = since;
    looked = looked ∙ f.seen.looked;
  };
}

-- ---- the whole

module _ (sets : Sets) (slots : List ℕ) (k : Key) (v w : View) (h : TreeWalked sets slots v w) where
  pointer_stops : (at expected seen : ℕ) → IsPointerChanged k sets.pointers at expected seen v w
      → Stopped sets slots k (refusals.Conflict at expected seen) v w
  pointer_stops at expected seen p = record {
    due = pointer_due sets slots k at expected seen v w h p;
    on = inl (inl (pointer_over k at w p.on));
    told = λ met t. t.1 (p.on).span (pointer_place slots k w at h.can p.on);
    stops = inl (
      w,
      tree_walked v w h.walk,
      inl (
        record {
          step = (p.saw).step;
          last = (p.saw).last;
          since = (p.saw).since;
          was = p.was;
          kept = (p.saw).kept;
          stands = (p.saw).stands;
          known = elim p.known [
            | inl set ↦ inl set.0
            | inr before ↦ elim before.1 [ inl none ↦ inr (none, before.0) | inr has ↦ inl has ]
          ];
          cause = p.cause;
        },
        pointer_over k at w p.on,
        pointer_known k at v w (p.on).span (more_of sets slots v w h) (h.can).agree (h.can).trees
            (pointer_place slots k w at h.can p.on) (p.on).over,
      ),
    );
  }

  pub header_stops : (at expected seen : ℕ) → IsHeaderChanged k sets.headers at expected seen v w
      → Stopped sets slots k (refusals.Conflict at expected seen) v w
  header_stops at expected seen c = record {
    due = header_due sets slots k at expected seen v w h c;
    on = inl (inr (inl (header_over k c.slot at c.span w c.on c.word)));
    told = λ met t. header_told sets slots k at expected seen v w h c met t;
    stops = inl (
      w,
      tree_walked v w h.walk,
      inr (inl (
        record {
          step = (c.saw).step;
          last = (c.saw).last;
          since = (c.saw).since;
          was = c.was;
          kept = (c.saw).kept;
          stands = (c.saw).stands;
          known = c.known;
          cause = c.cause;
        },
        header_over k c.slot at c.span w c.on c.word,
        header_known k at v w (more_of sets slots v w h) (h.can).trees (header_over k c.slot at c.span w c.on c.word),
      )),
    );
  }

  lacks_page : NeedsPage k w → LacksPage k w
  lacks_page p = record { at = p.at; word = p.word; on = p.on; saw = p.saw; bare = p.bare }

  pub make_stops : (why : RefusalCause) → RefusesMake k sets.pointers sets.headers slots why v w
      → Stopped sets slots k why v w
  make_stops (refusals.Conflict at expected seen) (inl p) = pointer_stops at expected seen p
  make_stops (refusals.Conflict at expected seen) (inr (inl c)) = header_stops at expected seen c
  make_stops (refusals.Conflict at expected seen) (inr (inr c)) =
      slot_stops sets slots k at expected seen v c.0 w w c.1.since (ap (λ (z : View). z.layout) c.1.is)
      (ap (λ (z : View). z.layout) h.walk.is) refl refl c.2
  make_stops (refusals.Full held) r =
      full_stops sets slots k held v r.before w w r.walked.since (ap (λ (z : View). z.layout) r.walked.is)
      (ap (λ (z : View). z.layout) h.walk.is) refl refl r.full
  make_stops (refusals.Wide Reads) r = absurd r.0
  make_stops (refusals.Wide Writes) r = absurd r.0
  make_stops (refusals.Wide Pointers) r = absurd r.0
  make_stops (refusals.Wide Holds) (inl held, led) = record {
    due = tt;
    on = held_on (record sets { holds = slots }) k w held;
    told = λ met t. t;
    stops = (
      inr (inl (
        refl,
        elim held [
          | inl full ↦ inl (
            full.0,
            inl record { then = w; walked = tree_walked v w h.walk; met = λ r has. has; needs = full.1 },
          )
          | inr long ↦ inr (record { then = w; walked = tree_walked v w h.walk; long = long })
        ],
      )),
      ap (λ (z : View). z.touched) h.walk.is,
    );
  }
  make_stops (refusals.Wide Holds) (inr page, led) = record {
    due = tt;
    on = inl (page.0, inr (inl (lacks_page page.1)));
    told = λ met t. t;
    stops = (
      inr (inl (
        refl,
        inl (
          page.0,
          inr record {
            then = w;
            walked = tree_walked v w h.walk;
            met = λ r has. has;
            makes = inl (lacks_page page.1);
          },
        ),
      )),
      ap (λ (z : View). z.touched) h.walk.is,
    );
  }
  make_stops (refusals.NumberLimit clock) r = absurd r
