-- What is known of interior pages of trees, and of pages of trees that were published, where they stay as they are.
use Rattle.std.proofs.Common.{◌≡◌, ℕ, suc, ◌≤◌, true, false, List, length, refl, sym, ap, ◌∙◌, subst, arith}
use Rattle.std.proofs.Common.{Option, Some}
use Rattle.std.specs.List.{slice_get}
use Rattle.std.proofs.lemmas.Bool.Decides.{nat_tests}
use Rattle.lists.specs.Fronts.{front_length}
use Rattle.homes.specs.declared.places.Holder.TheVariants.{Free}
use Rattle.homes.specs.declared.places.Span.{Span}
use Rattle.snapshot_store.specs.declared.place.PagePlace.{PagePlace}
use Rattle.snapshot_store.specs.TreePages.{node_below, node_of}
use Rattle.commit_core.specs.declared.story.Story.{Story}
use Rattle.commit_core.specs.Places.{place_of}
use Rattle.drop_core.specs.declared.table.Page.{Page}
use Rattle.drop_core.specs.declared.table.Page.TheVariants.{Inner as InnerPage}
use Rattle.drop_core.specs.declared.table.Table.{Table}
use Rattle.drop_core.specs.Event.{is_published}
use Rattle.drop_core.specs.Sound.{span_at}
use Rattle.drop_core.specs.Table.{slot_of, page_of, pointer_of, header_of, has_slot, has_pointer, at_index, is_never}
use Rattle.engine_pages.specs.declared.layout.Layout.{Layout}
use Rattle.engine_pages.specs.declared.view.Inner.{Inner}
use Rattle.engine_pages.specs.declared.view.NewInner.{NewInner}
use Rattle.engine_pages.specs.declared.view.NewLeaf.{NewLeaf}
use Rattle.engine_pages.specs.Pages.{Fenced, part_between}
use Rattle.engine_pages.specs.Resident.{Published, HasMore, tree_below}
use Rattle.engine_pages.specs.Rule.{IsInner, IsNewLeaf, IsNewInner, IsCopiedChild, IsSealed}
use Rattle.engine_pages.specs.Words.{spot}
use Rattle.engine_pages.proofs.Named.{named_more, page_longer}

-- the places below a tree's page stay, where more pages are published
pub below_longer : (r r' : Published) (sp : Span) (n : ℕ) → HasMore r r' → n ≤ length r.pages
    → tree_below r'.pages sp n ≡ tree_below r.pages sp n
below_longer r r' sp n more few =
    ap (λ (ws : List ℕ). node_below sp.low sp.high (node_of ws)) (page_longer r.pages r'.pages n more.pages few)

-- a pointer of an interior page
pub has_child : (n j : ℕ) → j ≤ n → has_pointer (InnerPage (suc n)) j ≡ true
has_child n j few = grind (arith, nat_tests)

-- an interior page whose slot is held still stays so, where its pointers are over the same keys
pub inner_at : (l : Layout) (k k' : ℕ → Option Fenced) (d e : Table) (holds holds' : List ℕ) (x : Inner)
    → has_slot holds' x.slot ≡ true → is_never (slot_of e x.slot).led ≡ false → page_of e x.slot ≡ page_of d x.slot
    → ((f : Fenced) → k x.slot ≡ Some f → (g : Fenced) × (k' x.slot ≡ Some g) × (g.span ≡ f.span))
    → ((j : ℕ) → has_pointer (page_of d x.slot) j ≡ true → span_at e (at_index x.slot j) ≡ span_at d (at_index x.slot j))
    → IsInner l d k holds x → IsInner l e k' holds' x
inner_at l k k' d e holds holds' x held known page tree spans was =
    let g = tree was.fence was.there in record {
      within = was.within;
      held = held;
      known = known;
      page = page ∙ was.page;
      few = was.few;
      fence = g.0;
      there = g.1;
      parts = λ j few.
          spans j (ap (λ (z : Page). has_pointer z j) was.page ∙ has_child (length x.separators) j few)
          ∙ (was.parts j few ∙ ap (λ (z : Span). part_between z x.separators j) (sym g.2));
    }

-- where the same tree's page is there
pub same_fence : (k k' : ℕ → Option Fenced) (t : ℕ) → k' t ≡ k t → (f : Fenced) → k t ≡ Some f
    → (g : Fenced) × (k' t ≡ Some g) × (g.span ≡ f.span)
same_fence k k' t same f is = (f, same ∙ is, refl)

-- a leaf that was published stays so, with its records
pub new_leaf_at : (l : Layout) (m n : Story) (d e : Table) (k k' : ℕ → Option Fenced) (made made' : List ℕ) (x : NewLeaf)
    → has_slot made' x.slot ≡ true → (slot_of e x.slot).state ≡ (slot_of d x.slot).state
    → header_of e x.slot ≡ header_of d x.slot → page_of e x.slot ≡ page_of d x.slot → k' x.slot ≡ k x.slot
    → ((i : ℕ) → place_of n.places (spot x.slot i) ≡ place_of m.places (spot x.slot i)) → IsNewLeaf l m d k made x
    → IsNewLeaf l n e k' made' x
new_leaf_at l m n d e k k' made made' x mine state header page tree places was = record {
  slot = was.slot;
  made = mine;
  state = ap is_published state ∙ was.state;
  kind = was.kind;
  header = header ∙ was.header;
  page = page ∙ was.page;
  there = tree ∙ was.there;
  each = was.each;
  records = λ i c at. places i ∙ was.records i c at;
}

-- so does an interior page, with its open pointers
pub new_inner_at : (l : Layout) (d e : Table) (k k' : ℕ → Option Fenced) (r r' : Published) (made made' : List ℕ)
    (x : NewInner) → has_slot made' x.slot ≡ true → (slot_of e x.slot).state ≡ (slot_of d x.slot).state
    → page_of e x.slot ≡ page_of d x.slot → k' x.slot ≡ k x.slot
    → ((j : ℕ) → (pointer_of d (at_index x.slot j)).holder ≡ Free
    → pointer_of e (at_index x.slot j) ≡ pointer_of d (at_index x.slot j))
    → HasMore r r' → IsNewInner l d k r made x → IsNewInner l e k' r' made' x
new_inner_at l d e k k' r r' made made' x mine state page tree pointers more was =
    let below = below_longer r r' x.span x.page more was.page in record {
      slot = was.slot;
      made = mine;
      state = ap is_published state ∙ was.state;
      kind = was.kind;
      some = was.some;
      page = no_more r r' x.page more was.page;
      count = page ∙ (was.count ∙ ap (λ (z : List PagePlace). InnerPage (length z)) (sym below));
      there = tree ∙ was.there;
      pointers = λ j q at.
          let child = was.pointers j q (subst (λ (z : List PagePlace). slice_get z j ≡ Some q) below at) in
          subst (IsCopiedChild r'.places x.span.storage q) (sym (pointers j child.free)) record {
            span = child.span;
            slot = child.slot;
            free = child.free;
            named = named_more r.places r'.places (pointer_of d (at_index x.slot j)).span q.number
                (pointer_of d (at_index x.slot j)).page more.places child.named;
          };
    }
  where
    no_more : (r r' : Published) (n : ℕ) → HasMore r r' → n ≤ length r.pages → n ≤ length r'.pages
    no_more r r' n more low = let long = front_length r.pages r'.pages more.pages in omega arith

-- a split leaf whose header a seat has locked stays so
pub sealed_at : (l : Layout) (d e : Table) (p t : ℕ) → header_of e t ≡ header_of d t → page_of e t ≡ page_of d t
    → IsSealed l d p t → IsSealed l e p t
sealed_at l d e p t header page was = record {
  within = was.within;
  locked = header ∙ was.locked;
  split = page ∙ was.split;
}
