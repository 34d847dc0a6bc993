-- The leaf of a snapshot that has a key in its keys, below a page that stands for many.
use Rattle.std.proofs.Common.{◌≡◌, ◌≢◌, ◌⊎◌, inl, inr, ℕ, suc, ◌/◌, ◌%◌, ◌^◌, ◌<◌, ◌≤◌, true}
use Rattle.std.proofs.Common.{List, [], ◌∷◌, length, get_or, refl, sym, ap, ◌∙◌, subst, arith, Option, Some, None}
use Rattle.lists.specs.Elements.{in_head, in_tail}
use Rattle.homes.specs.declared.places.Span.{Span}
use Rattle.snapshot_store.specs.declared.place.PagePlace.{PagePlace}
use Rattle.snapshot_store.specs.Places.{Found, page as page_words}
use Rattle.snapshot_store.specs.TreePages.{Inner, Leaf, Node, children, node_below, node_of}
use Rattle.engine_pages.specs.declared.view.View.{View}
use Rattle.engine_pages.specs.Pages.{is_tree}
use Rattle.engine_pages.specs.Resident.{tree_below}
use Rattle.pointer_swings.specs.Children.{CanDescendTree, HasDescendedTree, begin_in, end_in, keys_of}
use Rattle.chain_steps.specs.Below.{IsStoredBelow, IsStoredIn}
use Rattle.page_drops.specs.Works.{HasGlanced}
use Rattle.tree_drops.specs.declared.belows.StoredLeaf.{StoredLeaf}
use Rattle.tree_drops.specs.Belows.{CanGoBelow, HasGoneBelow, HasMisshapen, IsChildFor, IsLeafOr}
use Rattle.tree_drops.specs.Leaves.{HasCount}
use Rattle.tree_drops.proofs.Founds.{words_glanced}

-- ---- which child

-- the page counts its children still
pub count_glanced : (page count : ℕ) (v w : View) → HasGlanced v w → count ≡ get_or (page_words v.pages page) 0 0 % 2 ^ 8
    → count ≡ get_or (page_words w.pages page) 0 0 % 2 ^ 8
count_glanced page count v w h is =
    subst (λ ws. count ≡ get_or ws 0 0 % 2 ^ 8) (sym (words_glanced page v w h)) is

-- what was told of the page's words stays behind looks
pub for_on : (page key j : ℕ) (sp : Span) (u w : View) → HasGlanced u w → IsChildFor (page_words u.pages page) sp key j
    → IsChildFor (page_words w.pages page) sp key j
for_on page key j sp u w h for = subst (λ ws. IsChildFor ws sp key j) (sym (words_glanced page u w h)) for

pub keys_on : (page j : ℕ) (sp own : Span) (u w : View) → HasGlanced u w
    → own ≡ record { storage = sp.storage; low = begin_in (page_words u.pages page) sp j; high = end_in (page_words u.pages page) sp j }
    → own ≡ record { storage = sp.storage; low = begin_in (page_words w.pages page) sp j; high = end_in (page_words w.pages page) sp j }
keys_on page j sp own u w h same =
    subst (λ ws. own ≡ record { storage = sp.storage; low = begin_in ws sp j; high = end_in ws sp j }) (sym (words_glanced page u w h)) same

pub header_on : (page header : ℕ) (u w : View) → HasGlanced u w → header ≡ get_or (page_words u.pages page) 0 0
    → header ≡ get_or (page_words w.pages page) 0 0
header_on page header u w h is = is ∙ ap (λ ws. get_or ws 0 0) (sym (words_glanced page u w h))

pub child_within : (page key j count : ℕ) (sp : Span) (v : View) → count ≡ get_or (page_words v.pages page) 0 0 % 2 ^ 8
    → IsChildFor (page_words v.pages page) sp key j → j < count
child_within page key j count sp v is for = let less = for.within in omega (arith, less, is)

-- ---- leaves

-- whether a page has children doesn't go by the keys for which it stands
no_child : (node : Node) (low high one other : ℕ) → node_below low high node ≡ [] → node_below one other node ≡ []
no_child (Leaf records) low high one other none = refl
no_child (Inner separators []) low high one other none = empty separators
  where
    empty : (ss : List ℕ) → children one other ss [] ≡ []
    empty [] = refl
    empty (s ∷ ss) = refl
no_child (Inner [] (n ∷ ns)) low high one other none = absurd (cc)
no_child (Inner (s ∷ ss) (n ∷ ns)) low high one other none = absurd (cc)

pub leaf_for_keys : (pages : List (List ℕ)) (sp own : Span) (page : ℕ) → tree_below pages sp page ≡ []
    → tree_below pages own page ≡ []
leaf_for_keys pages sp own page none =
    no_child (node_of (page_words pages page)) sp.low sp.high own.low own.high none

pub count_for_keys : (pages : List (List ℕ)) (sp own : Span) (page n : ℕ) → HasCount pages sp page n → HasCount pages own page n
count_for_keys pages sp own page n h =
    record { few = h.few; records = h.records; leaf = leaf_for_keys pages sp own page h.leaf }

pub crowded_leaf : (pages : List (List ℕ)) (page header : ℕ) → page ≢ 0 → page ≤ length pages
    → header ≡ get_or (page_words pages page) 0 0 → header / 256 % 256 ≡ 1 → 16 < header % 256 → HasMisshapen pages
crowded_leaf pages page header some there is leaf many = record {
  number = page;
  some = omega (arith, some);
  there = there;
  shape = inl (ap (λ (n : ℕ). n / 2 ^ 8 % 2 ^ 8) (sym is) ∙ leaf, subst (λ (n : ℕ). 16 < n % 2 ^ 8) is many);
}

pub odd_page : (pages : List (List ℕ)) (page header : ℕ) → page ≢ 0 → page ≤ length pages
    → header ≡ get_or (page_words pages page) 0 0 → header / 256 % 256 ≢ 1 → (header % 256 ≡ 0) ⊎ (30 < header % 256)
    → HasMisshapen pages
odd_page pages page header some there is other odd = record {
  number = page;
  some = omega (arith, some);
  there = there;
  shape = inr (
    λ one. other (ap (λ (n : ℕ). n / 2 ^ 8 % 2 ^ 8) is ∙ one),
    subst (λ (n : ℕ). (n % 2 ^ 8 ≡ 0) ⊎ (30 < n % 2 ^ 8)) is odd,
  );
}

-- ---- one page down

pub below_glanced : (v w : View) → HasGlanced v w → HasGoneBelow v w
below_glanced v w h =
    subst (λ (z : View). HasGoneBelow v z) (sym h.is) record { is = refl; later = h.later; leads = λ z has. has }

abbrev pub as_below : View → View → View
as_below z w = record z { steps = w.steps; last = w.last; leads = w.leads }

pub below_then : (u v w : View) → HasGoneBelow u v → HasGoneBelow v w → HasGoneBelow u w
below_then u v w a b =
    let one = a.later in
    let two = b.later in record {
      is = b.is ∙ ap (λ (z : View). as_below z w) a.is;
      later = omega (arith, one, two);
      leads = λ z has. b.leads z (a.leads z has);
    }

pub can_below : (sp : Span) (page : ℕ) (v w : View) → HasGlanced v w → CanGoBelow sp page v → CanGoBelow sp page w
can_below sp page v w h can = subst (λ (z : View). CanGoBelow sp page z) (sym h.is) record {
  keeper = can.keeper;
  tree = can.tree;
  there = can.there;
  room = can.room;
  lead = can.lead;
}

pub can_descend_below : (sp : Span) (page j header : ℕ) (v : View) → CanGoBelow sp page v → page ≢ 0
    → header ≡ get_or (page_words v.pages page) 0 0 → header / 256 % 256 ≢ 1 → j < header % 256 → CanDescendTree v sp page j
can_descend_below sp page j header v can some is other less =
    let more : 0 < page = omega (arith, some) in record {
      tree = can.tree;
      some = more;
      known = can.there;
      room = can.room;
      lead = can.lead more;
      inner = λ one. other (ap (λ (n : ℕ). n / 2 ^ 8 % 2 ^ 8) is ∙ one);
      index = subst (λ (n : ℕ). j < n % 2 ^ 8) is less;
    }

module _ (sp own : Span) (page j n : ℕ) (v w : View) (can : CanGoBelow sp page v)
    (same : own ≡ record { storage = sp.storage; low = begin_in (page_words v.pages page) sp j; high = end_in (page_words v.pages page) sp j })
    (h : HasDescendedTree sp page j v n w) where
  abbrev q : PagePlace
  q = h.child

  pub keys_are : keys_of sp h.child ≡ own
  keys_are =
      ap (λ (m : ℕ). let z : Span = record { storage = sp.storage; low = m; high = q.high } in z) h.begin
      ∙ ap (λ (m : ℕ). let z : Span = record { storage = sp.storage; low = begin_in (page_words v.pages page) sp j; high = m } in z) h.end
      ∙ sym same

  pub descends_below : HasGoneBelow v w
  descends_below = subst (λ (z : View). HasGoneBelow v z) (sym h.is) record {
    is = refl;
    later = omega arith;
    leads = λ z has. in_tail z (record { span = keys_of sp q; page = n; name = h.name }) v.leads has;
  }

  pub can_child : CanGoBelow own n w
  can_child =
      let under = h.below in
      let up = can.there in
      let few = h.few in
      subst (λ (z : View). CanGoBelow own n z) (sym h.is) record {
        keeper = can.keeper;
        tree = subst (λ (z : Span). is_tree v.layout.decls z.storage ≡ true) (sym same) can.tree;
        there = omega (arith, under, up);
        room = few;
        lead = λ more. (
          record { span = keys_of sp q; page = n; name = h.name },
          in_head (record { span = keys_of sp q; page = n; name = h.name }) v.leads,
          keys_are,
          refl,
        );
      }

  module _ (key : ℕ) (for : IsChildFor (page_words v.pages page) sp key j) where
    pub child_from : own.low ≤ key
    child_from = subst (λ (z : Span). z.low ≤ key) (sym same) for.from

    pub child_to : key ≤ own.high
    child_to = subst (λ (z : Span). key ≤ z.high) (sym same) for.to

    one_more : (o : Option Found) → IsStoredIn v.pages own n key o → IsStoredIn v.pages sp page key o
    one_more o s = (
      suc s.0,
      inr (
        q,
        record {
          index = j;
          at = h.at;
          from = subst (λ m. m ≤ key) (sym h.begin) for.from;
          to = subst (λ m. key ≤ m) (sym h.end) for.to;
        },
        subst (λ m. IsStoredBelow s.0 v.pages (keys_of sp q) m key o) h.says
            (subst (λ z. IsStoredBelow s.0 v.pages z n key o) (sym keys_are) s.1),
      ),
    )

    pub found_below : (o : Option StoredLeaf) → IsLeafOr w.pages own n key o → IsLeafOr v.pages sp page key o
    found_below o f = by_leaf o (subst (λ ps. IsLeafOr ps own n key o) (ap (λ (z : View). z.pages) h.is) f)
      where
        by_leaf : (o : Option StoredLeaf) → IsLeafOr v.pages own n key o → IsLeafOr v.pages sp page key o
        by_leaf None f = f
        by_leaf (Some found) f =
            let under = h.below in
            let low = f.below in record {
              count = count_for_keys v.pages own sp found.page found.records f.count;
              below = omega (arith, under, low);
              stored = λ o is. one_more o (f.stored o is);
            }
