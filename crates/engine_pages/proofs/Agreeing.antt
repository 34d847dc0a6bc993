-- What is known of pages of trees agrees, since one state shows it all.
use Rattle.std.proofs.Common.{◌≡◌, ℕ, suc, ◌<◌, true, List, [], ◌∷◌, length, get_or, set}
use Rattle.std.proofs.Common.{refl, sym, ap, ◌∙◌, subst, arith, Option, Some, None}
use Rattle.std.specs.List.{Contains, slice_get}
use Rattle.lists.specs.Fronts.{IsFront, front_length}
use Rattle.serial_model.specs.declared.decl.Decl.{Decl}
use Rattle.serial_model.specs.declared.decl.Decl.TheVariants.{Array, Tree}
use Rattle.serial_model.specs.declared.key.Key.{Key}
use Rattle.homes.specs.declared.places.Span.{Span}
use Rattle.commit_core.specs.Places.{place_of}
use Rattle.drop_core.specs.declared.table.Page.TheVariants.{Inner as InnerPage}
use Rattle.drop_core.specs.declared.table.Table.{Table}
use Rattle.drop_core.specs.Sound.{span_at, IsLedSo}
use Rattle.drop_core.specs.Table.{slot_of, page_of, at_index}
use Rattle.engine_pages.specs.declared.layout.Layout.{Layout}
use Rattle.engine_pages.specs.declared.view.Inner.{Inner}
use Rattle.engine_pages.specs.declared.view.Known.{Known}
use Rattle.engine_pages.specs.declared.view.View.{View}
use Rattle.engine_pages.specs.declared.view.Way.{Way}
use Rattle.engine_pages.specs.Agreement.{KnownAgree, TreesAgree}
use Rattle.engine_pages.specs.Pages.{Fenced, IsFenced, IsLaidOut, decl_of, is_tree, is_tree_kind}
use Rattle.engine_pages.specs.Rule.{Shared, FitsPages}
use Rattle.engine_pages.specs.Views.{IsActive, IsAt, seat_number}
use Rattle.engine_pages.specs.Words.{IsOverwritten, ShowsTree, ShowsWords}
use Rattle.engine_pages.proofs.Joint.{shared_now}
use Rattle.engine_pages.proofs.PointerLaws.{known_shown, one_fence, tree_over}
use Rattle.engine_pages.proofs.Seats.{at_front, is_at}
use Rattle.engine_pages.proofs.Turns.{Stride}

-- lists with the same items are the same
same_items : (xs ys : List ℕ) → length xs ≡ length ys
    → ((j : ℕ) → j < length xs → get_or xs j 0 ≡ get_or ys j 0) → xs ≡ ys
same_items [] [] long same = refl
same_items [] (y ∷ ys) long same = absurd (omega (arith, long))
same_items (x ∷ xs) [] long same = absurd (omega (arith, long))
same_items (x ∷ xs) (y ∷ ys) long same =
    ap (λ (z : ℕ). let l : List ℕ = z ∷ xs in l) (same 0 (omega arith))
    ∙ ap (λ (z : List ℕ). let l : List ℕ = y ∷ z in l)
    (same_items xs ys (omega (arith, long)) (λ j less. same (suc j) (omega (arith, less))))

-- nothing but nothing is a front of nothing
no_front : (xs : List Key) → IsFront xs [] → xs ≡ []
no_front [] front = refl
no_front (x ∷ xs) front = let less = front_length (x ∷ xs) [] front in absurd (omega (arith, less))

-- what is laid out in a slot that has a page of a tree is made for its keys
fenced_over : (o : Option Decl) (k : ℕ → Option Fenced) (d : Table) (t : ℕ) (sp : Span) (f : Fenced) → k t ≡ Some f
    → IsLaidOut o k d t sp → IsFenced (k t) sp
fenced_over None k d t sp f there over = absurd over
fenced_over (Some (Array id size)) k d t sp f there over =
    let no : None ≡ Some f = sym over.0 ∙ there in absurd (cc)
fenced_over (Some (Tree id)) k d t sp f there over = over

same_count : (a c : ℕ) → InnerPage (suc a) ≡ InnerPage (suc c) → a ≡ c
same_count a c same = cc

-- ---- what one state shows

module _ (l : Layout) (words : List ℕ) (s : Shared) (w : View)
    (shown : ShowsWords l words s.story s.table s.trees s.resident)
    (led : (t : ℕ) → IsLedSo s.table t (slot_of s.table t).state (slot_of s.table t).led) (f : FitsPages l words s w)
    (layout : w.layout ≡ l) where
  known_agree : KnownAgree w.known
  known_agree a c has there same i k q at here =
      let one = f.treed.known a has in
      let two = f.treed.known c there in
      let fence : one.fence ≡ two.fence =
      one_fence (s.trees c.slot) one.fence two.fence (ap s.trees (sym same) ∙ one.there) two.there in
      let first = at_front a.keys (one.fence).keys i k one.front at in
      let second = at_front c.keys (two.fence).keys i q two.front here in
      let both : Some k ≡ Some q =
      sym first ∙ (ap (λ (g : Fenced). slice_get g.keys i) fence ∙ second) in cc

  inners_agree : (a c : Inner) → Contains w.inners a → Contains w.inners c → a.slot ≡ c.slot
      → a.separators ≡ c.separators
  inners_agree a c has there same =
      let one = f.treed.inners a has in
      let two = f.treed.inners c there in
      let fence : one.fence ≡ two.fence =
      one_fence (s.trees c.slot) one.fence two.fence (ap s.trees (sym same) ∙ one.there) two.there in
      let long : length a.separators ≡ length c.separators =
      same_count (length a.separators) (length c.separators)
      (sym one.page ∙ (ap (page_of s.table) same ∙ two.page)) in
      same_items a.separators c.separators long
      (λ j less.
      ap (λ (z : Span). z.low)
      (sym (one.parts (suc j) (omega (arith, less)))
      ∙ (ap (λ (t : ℕ). span_at s.table (at_index t (suc j))) same
      ∙ two.parts (suc j) (omega (arith, less, long)))))

  apart_agree : (a : Known) (c : Inner) → Contains w.known a → Contains w.inners c → a.slot ≡ c.slot → a.keys ≡ []
  apart_agree a c has there same =
      let one = f.treed.known a has in
      let two = f.treed.inners c there in
      let fence : one.fence ≡ two.fence =
      one_fence (s.trees c.slot) one.fence two.fence (ap s.trees (sym same) ∙ one.there) two.there in
      let says = subst
      (ShowsTree s.resident.places words l.slots c.slot two.fence (IsOverwritten s.story) (place_of s.story.places) s.table)
      two.page
      (shown.treed c.slot two.fence two.within
      (known_shown s.table c.slot (slot_of s.table c.slot).state (slot_of s.table c.slot).led two.known (led c.slot))
      two.there) in
      no_front a.keys
      (subst (IsFront a.keys) (ap (λ (g : Fenced). g.keys) fence ∙ says.0) one.front)

  spans_agree : (a c : Way) → Contains w.ways a → Contains w.ways c → a.slot ≡ c.slot
      → is_tree w.layout.decls a.span.storage ≡ true → a.span ≡ c.span
  spans_agree a c has there same tree =
      let one = f.ways a has in
      let two = f.ways c there in
      let kind : is_tree_kind (decl_of l.decls a.span.storage) ≡ true =
      ap (λ (y : Layout). is_tree_kind (decl_of y.decls a.span.storage)) (sym layout) ∙ tree in
      let first = tree_over (decl_of l.decls a.span.storage) s.trees s.table a.slot a.span kind one.over in
      let at : s.trees c.slot ≡ Some first.0 = ap s.trees (sym same) ∙ first.1 in
      let second = fenced_over (decl_of l.decls c.span.storage) s.trees s.table c.slot c.span first.0 at two.over in
      let fence : first.0 ≡ second.0 = one_fence (s.trees c.slot) first.0 second.0 at second.1 in
      sym first.2 ∙ (ap (λ (g : Fenced). g.span) fence ∙ second.2)

  pub trees_agree : TreesAgree w
  trees_agree = record { known = known_agree; inners = inners_agree; apart = apart_agree; spans = spans_agree }

-- ---- steps

-- what a step leaves agrees, so it may be told
pub agreed : (l : Layout) (words : List ℕ) (views : List View) (s : Shared) (v : View) (active : IsActive v.role)
    (i : ℕ) (f : ℕ → ℕ) (tells : View → ℕ → View → Type 0)
    → Stride l words views s (seat_number v.role) v i f (λ v n w. TreesAgree w → tells v n w)
    → Stride l words views s (seat_number v.role) v i f tells
agreed l words views s v active i f tells r =
    let p = seat_number v.role in
    let new = shared_now s p r.story r.table r.trees r.resident r.view in
    let own = r.turn.fits.own p (subst (IsAt p) (sym r.turn.role) (is_at v.role active)) in record {
      story = r.story;
      table = r.table;
      trees = r.trees;
      resident = r.resident;
      view = r.view;
      sound = r.sound;
      stays = r.stays;
      trees-stay = r.trees-stay;
      turn = r.turn;
      tells-so = r.tells-so
          (trees_agree l (set words i (f (get_or words i 0))) new r.view r.turn.shown r.sound.pages.table.holds_counted.led
          r.turn.pages own.layout);
    }
