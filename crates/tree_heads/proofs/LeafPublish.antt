-- An owned slot is published as a leaf of a tree.
use Rattle.std.proofs.Common.{◌≡◌, ◌≢◌, inl, inr, ℕ, ◌+◌, ◌*◌, ◌%◌, ◌^◌, ◌<◌, ◌≤◌, Bool, true, false, cond, eq-eqb, ne_eqb, List, ◌∷◌, length, get_or}
use Rattle.std.proofs.Common.{refl, sym, ap, ◌∙◌, subst, arith, Some}
use Rattle.std.specs.Prelude.{◌&&◌}
use Rattle.std.specs.List.{Contains, slice_get}
use Rattle.std.proofs.lemmas.Bool.{and_from}
use Rattle.std.proofs.lemmas.Option.{get_or_from_slice_get, slice_get-get_or, slice_get_within}
use Rattle.atomic_table.specs.Table.{Me, Allows}
use Rattle.lists.specs.Elements.{in_cases}
use Rattle.serial_model.specs.declared.key.Key.{Key}
use Rattle.serial_model.specs.declared.number.Number.{Number}
use Rattle.homes.specs.declared.places.Content.{Content}
use Rattle.homes.specs.declared.places.Holder.{Holder}
use Rattle.homes.specs.declared.places.Holder.TheVariants.{Free}
use Rattle.homes.specs.declared.places.Span.{Span}
use Rattle.homes.specs.declared.places.Spot.{Spot}
use Rattle.commit_core.specs.declared.place.Place.{Place}
use Rattle.commit_core.specs.declared.story.Story.{Story}
use Rattle.commit_core.specs.Keys.{nothing}
use Rattle.commit_core.specs.Places.{place_of}
use Rattle.drop_core.specs.declared.event.Act.TheVariants.{FillHeader}
use Rattle.drop_core.specs.declared.grip.Grip.{Grip}
use Rattle.drop_core.specs.declared.table.Page.TheVariants.{Leaf}
use Rattle.drop_core.specs.declared.table.Slot.{Slot}
use Rattle.drop_core.specs.declared.table.SlotState.TheVariants.{Published as Shown}
use Rattle.drop_core.specs.declared.table.Table.{Table}
use Rattle.drop_core.specs.Event.{is_owned, is_published, with_slot}
use Rattle.drop_core.specs.Table.{slot_of, header_of, has_slot}
use Rattle.engine_rule.specs.declared.event.JointAct.TheVariants.{Turn as TurnPages}
use Rattle.engine_rule.specs.Sound.{IsSound}
use Rattle.engine_pages.specs.declared.layout.Layout.{Layout}
use Rattle.engine_pages.specs.declared.view.Draft.{Draft}
use Rattle.engine_pages.specs.declared.view.NewLeaf.{NewLeaf}
use Rattle.engine_pages.specs.declared.view.View.{View}
use Rattle.engine_pages.specs.Layout.{slot_at, page_at}
use Rattle.engine_pages.specs.Pages.{Fenced, is_tree}
use Rattle.engine_pages.specs.Rule.{Shared, IsDraft, IsNewLeaf, Shows, joint_of}
use Rattle.engine_pages.specs.Views.{IsActive, seat_number}
use Rattle.engine_pages.specs.Words.{IsBit, IsOverwritten, ShowsKeyed, head_word, lock_field, spot}
use Rattle.engine_pages.proofs.Copying.{NewPage, publish_stride, slot_new, page_new, tree_new, old_copy, old_blank}
use Rattle.engine_pages.proofs.Copying.{old_leaf, old_inner}
use Rattle.engine_pages.proofs.Joint.{Laws, joint_act}
use Rattle.engine_pages.proofs.Records.{fill_joint, fill_places, filled_sound, place_filled, place_unfilled}
use Rattle.engine_pages.proofs.Turns.{Begins, Stride, allows_at}
use Rattle.views.specs.ByNumber.{put_at}
use Rattle.tree_heads.specs.NewPages.{IsLeafDraft, published_leaf}
use Rattle.tree_heads.proofs.TreeAt.{SaysOf}

-- the bit of absence of a record that was never held is that of its value
exact_bit : (over : Number → Type 0) (q : Place) (bit : ℕ) → IsBit (λ n. ⊥) q bit → IsBit over q bit
exact_bit over q bit (inl is) = inl is
exact_bit over q bit (inr old) = absurd old.later

module _ (laws : Laws) (l : Layout) (words : List ℕ) (views : List View) (s : Shared) (id : ℕ) (v : View)
    (active : IsActive v.role) (b : Begins l words views s id v) (x : Draft) (has : Contains v.drafts x) (sp : Span)
    (keys : List Key) (contents : List Content) (ld : IsLeafDraft v x.words sp keys contents) where
  abbrev t : ℕ
  t = x.slot

  abbrev p : ℕ
  p = seat_number v.role

  abbrev d : Table
  d = s.table

  abbrev m : Story
  m = s.story

  abbrev content : ℕ → Content
  content i = get_or contents i nothing

  abbrev places' : List (Spot × Place)
  places' = fill_places t content (length keys) m.places

  abbrev headers' : List (ℕ × Holder)
  headers' = (t, Free) ∷ d.headers

  abbrev n : Story
  n = record m { places = places' }

  abbrev d0 : Table
  d0 = record d { headers = headers' }

  abbrev fence : Fenced
  fence = record { span = sp; keys = keys }

  draft : IsDraft words l.slots d v.grip.made x
  draft = b.pages.drafts x has

  made : has_slot (s.grips p).made t ≡ true
  made = ap (λ (g : Grip). has_slot g.made t) (sym b.grip) ∙ draft.made

  sound : IsSound (joint_of l (record s { story = n; table = d0 }))
  sound =
      let s1 : Shared = record s { story = n } in
      fill_joint l s1 p n d0
      (joint_act laws l s1 p (TurnPages (FillHeader t)) b.few
      (and_from (is_owned (slot_of d t).state && has_slot (s.grips p).made t) _
      (and_from (is_owned (slot_of d t).state) (has_slot (s.grips p).made t) draft.owned made) refl)
      (filled_sound laws l s p t content b.few draft.owned made b.sound.joint (length keys))).sound

  header_other : (u : ℕ) → u ≢ t → header_of d0 u ≡ header_of d u
  header_other u other = ap (λ (c : Bool). cond c Free (header_of d u)) (ne_eqb t u (λ q. other (sym q)))

  header_here : header_of d0 t ≡ Free
  header_here = ap (λ (c : Bool). cond c Free (header_of d t)) (eq-eqb t t refl)

  content_at : (i : ℕ) → i < length keys → slice_get contents i ≡ Some (content i)
  content_at i less = slice_get-get_or contents i nothing (let each = ld.each in omega (arith, each, less))

  keyed : (i : ℕ) (k : Key) → slice_get keys i ≡ Some k
      → ShowsKeyed words (page_at l.slots t (16 + 3 * i)) (IsOverwritten m) k (place_of places' (spot t i))
  keyed i k at =
      let less : i < length keys = slice_get_within keys i k at in
      let few : length keys ≤ 16 = ld.few in
      let is = ld.records i k (content i) at (content_at i less) in
      let one : page_at l.slots t (16 + 3 * i) + 1 ≡ page_at l.slots t ((16 + 3 * i) + 1) = omega arith in
      let two : page_at l.slots t (16 + 3 * i) + 2 ≡ page_at l.slots t ((16 + 3 * i) + 2) = omega arith in
      subst (ShowsKeyed words (page_at l.slots t (16 + 3 * i)) (IsOverwritten m) k)
      (sym (place_filled t content (length keys) m.places i less)) record {
        key = draft.is (16 + 3 * i) (omega arith) ∙ is.key;
        absent = is.absent;
        word = ap (λ j. get_or words j 0) one ∙ (draft.is ((16 + 3 * i) + 1) (omega arith) ∙ is.word);
        bit = exact_bit (IsOverwritten m k) (record { content = content i; holder = Free }) is.absent is.bit;
        value = ap (λ j. get_or words j 0) two ∙ (draft.is ((16 + 3 * i) + 2) (omega arith) ∙ is.value);
        small = is.small;
      }

  shown : SaysOf l words s.resident.places n d0 t fence (Leaf keys)
  shown = (
    refl,
    draft.is 0 (omega arith)
        ∙ (ld.header ∙ ap (λ (h : Holder). head_word (length keys) 1 (lock_field h) false) (sym header_here)),
    record {
      low = draft.is 1 (omega arith) ∙ ld.low;
      high = draft.is 2 (omega arith) ∙ ld.high;
      few = ld.few;
      once = ld.once;
      inside = ld.inside;
      keys = keyed;
    },
  )

  abbrev made-page : NewPage l words s t
  made-page = record {
    page = Leaf keys;
    places = places';
    pointers = d.pointers;
    headers = headers';
    fence = Some fence;
    filled = sound;
    other_places = λ y other. place_unfilled t content (length keys) m.places y other;
    other_pointers = λ y other. refl;
    other_headers = header_other;
    shown = shown;
  }

  abbrev new : NewLeaf
  new = record { slot = t; span = sp; keys = keys; contents = contents }

  abbrev e : Table
  e = with_slot (record d0 { pages = (t, Leaf keys) ∷ d.pages }) t (record (slot_of d t) { state = Shown })

  is_new : IsNewLeaf l n e (put_at s.trees t (Some fence)) v.grip.made new
  is_new = record {
    slot = draft.slot;
    made = draft.made;
    state = ap (λ (k : Slot). is_published k.state)
        (slot_new laws l words views s id v active b x has made-page v.copies v.blanks (new ∷ v.new_leaves) v.new_inners);
    kind = ap (λ (y : Layout). is_tree y.decls sp.storage) (sym b.own.layout) ∙ ld.tree;
    header = header_here;
    page = page_new laws l words views s id v active b x has made-page v.copies v.blanks (new ∷ v.new_leaves) v.new_inners;
    there = tree_new laws l words views s id v active b x has made-page v.copies v.blanks (new ∷ v.new_leaves) v.new_inners;
    each = ld.each;
    records = λ i c at.
        let less : i < length contents = slice_get_within contents i c at in
        let each = ld.each in
        place_filled t content (length keys) m.places i (omega (arith, less, each))
        ∙ ap (λ (y : Content). let q : Place = record { content = y; holder = Free } in q)
        (get_or_from_slice_get contents i c nothing at);
  }

  pub leaf_stride : Stride l words views s p v (slot_at t) (λ i. (i + 65536) % 2 ^ 64)
      (λ v _ w. w ≡ published_leaf x.slot sp keys contents v)
  leaf_stride =
      let leaves' : List NewLeaf = new ∷ v.new_leaves in
      publish_stride laws l words views s id v active b x has made-page v.copies v.blanks leaves' v.new_inners
      (λ z there. old_copy laws l words views s id v active b x has made-page v.copies v.blanks leaves' v.new_inners z there)
      (λ u there. old_blank laws l words views s id v active b x has made-page v.copies v.blanks leaves' v.new_inners u there)
      (λ z there. elim (in_cases z new v.new_leaves there) [
        | inl is ↦ subst (IsNewLeaf l n e (put_at s.trees t (Some fence)) v.grip.made) is is_new
        | inr old ↦ old_leaf laws l words views s id v active b x has made-page v.copies v.blanks leaves' v.new_inners z old
      ])
      (old_inner laws l words views s id v active b x has made-page v.copies v.blanks leaves' v.new_inners)
      (λ v _ w. w ≡ published_leaf x.slot sp keys contents v) refl

pub publishes_leaf : Laws → (l : Layout) (slots id : ℕ) (me : Me (Unit {0}) View) (x : Draft) (sp : Span) (keys : List Key)
    (contents : List Content) → IsActive me.0.role → Contains me.0.drafts x → IsLeafDraft me.0 x.words sp keys contents
    → Allows (λ s. Shows l s.words s.views) slots id me (slot_at x.slot) (λ i. (i + 65536) % 2 ^ 64)
    (λ _ now. (now.1 ≡ me.1) × (now.0 ≡ published_leaf x.slot sp keys contents me.0))
publishes_leaf laws l slots id me x sp keys contents active has ld =
    allows_at laws l slots id me (slot_at x.slot) (λ i. (i + 65536) % 2 ^ 64)
    (λ v _ w. w ≡ published_leaf x.slot sp keys contents v) active
    (λ words views s b. leaf_stride laws l words views s id me.0 active b x has sp keys contents ld)
