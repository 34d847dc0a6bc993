-- What a walk leaves, one step after another.
use Rattle.std.proofs.Common.{◌≡◌, ◌≢◌, ◌⊎◌, inl, inr, ℕ, ◌+◌, ◌<◌, ◌≤◌, Bool, true, false, true≢false, eqb, eqb-true, eq-eqb}
use Rattle.std.proofs.Common.{List, length, refl, sym, ap, ◌∙◌, subst, arith}
use Rattle.std.specs.List.{Contains}
use Rattle.lists.specs.Fronts.{front_refl, front_then}
use Rattle.serial_model.specs.Decls.{AreDecls}
use Rattle.serial_model.specs.declared.key.Key.{Key}
use Rattle.homes.specs.declared.places.At.{At}
use Rattle.homes.specs.declared.places.At.TheVariants.{Root, In}
use Rattle.homes.specs.declared.places.Span.{Span}
use Rattle.homes.specs.declared.places.Spot.{Spot}
use Rattle.homes.specs.Homes.{in_span}
use Rattle.commit_core.specs.declared.part.Part.{Part}
use Rattle.commit_core.specs.CoreState.{is_trying}
use Rattle.commit_core.specs.Parts.{Vouches}
use Rattle.commit_core.specs.Serial.{last_write}
use Rattle.drop_core.specs.declared.grip.Grip.{Grip}
use Rattle.drop_core.specs.Table.{has_slot}
use Rattle.engine_pages.specs.declared.layout.Layout.{Layout}
use Rattle.engine_pages.specs.declared.view.Inner.{Inner}
use Rattle.engine_pages.specs.declared.view.View.{View}
use Rattle.engine_pages.specs.declared.view.Way.{Way}
use Rattle.engine_pages.specs.Agreement.{TreesAgree}
use Rattle.engine_pages.specs.Layout.{page_at}
use Rattle.engine_pages.specs.Pages.{is_array, is_tree, root_span}
use Rattle.engine_pages.specs.Pointers.{IsBranchAt, IsChildAt, IsPointerAt, WaysAgree}
use Rattle.engine_pages.specs.Steps.{seen_at}
use Rattle.engine_pages.specs.Views.{IsActive}
use Rattle.page_records.specs.Ends.{IsTreeWordAt}
use Rattle.array_pages.specs.Walks.{HoldsAre, IsLastBetween}
use Rattle.tree_walks.specs.Steps.{Went}
use Rattle.tree_walks.specs.Walks.{AreLedTo, CanWalk, HasWalked, IsPageWord, IsRootWord, IsTreesWord, OnlyTrees}
use Rattle.tree_walks.specs.Walks.{OnlyTreesBut, OnlyTreesFor}
use Rattle.tree_walks.specs.Walks.{as_walked}
use Rattle.tree_walks.specs.Ways.{IsOnWay}

-- ---- what stays

pub layout_stays : (v w : View) → HasWalked v w → w.layout ≡ v.layout
layout_stays v w walk = ap (λ (z : View). z.layout) walk.is

pub role_stays : (v w : View) → HasWalked v w → w.role ≡ v.role
role_stays v w walk = ap (λ (z : View). z.role) walk.is

pub stage_stays : (v w : View) → HasWalked v w → w.seat.stage ≡ v.seat.stage
stage_stays v w walk = ap (λ (z : View). z.seat.stage) walk.is

pub active_stays : (v w : View) → HasWalked v w → IsActive v.role → IsActive w.role
active_stays v w walk active = subst IsActive (sym (role_stays v w walk)) active

pub slots_stay : (v w : View) (t : ℕ) → HasWalked v w → t < v.layout.slots → t < w.layout.slots
slots_stay v w t walk less = subst (λ (y : Layout). t < y.slots) (sym (layout_stays v w walk)) less

pub tree_stays : (v w : View) (storage : ℕ) → HasWalked v w → is_tree v.layout.decls storage ≡ true
    → is_tree w.layout.decls storage ≡ true
tree_stays v w storage walk is = subst (λ (y : Layout). is_tree y.decls storage ≡ true) (sym (layout_stays v w walk)) is

pub child_grows : (v w : View) (y : Spot) (span : Span) (at : ℕ) → HasWalked v w → IsChildAt v y span at
    → IsChildAt w y span at
child_grows v w y span at walk p =
    let layout = layout_stays v w walk in record {
      way = p.way;
      has = walk.ways p.way p.has;
      slot = p.slot;
      kind = subst (λ (z : Layout). is_array z.decls p.way.span.storage ≡ true) (sym layout) p.kind;
      inner = p.inner;
      index = p.index;
      span = p.span;
      word = p.word ∙ ap (λ (z : Layout). page_at z.slots y.slot y.index) (sym layout);
    }

pub branch_grows : (v w : View) (y : Spot) (span : Span) (at : ℕ) → HasWalked v w → IsBranchAt v y span at
    → IsBranchAt w y span at
branch_grows v w y span at walk p =
    let layout = layout_stays v w walk in record {
      way = p.way;
      has = walk.ways p.way p.has;
      slot = p.slot;
      kind = subst (λ (z : Layout). is_tree z.decls p.way.span.storage ≡ true) (sym layout) p.kind;
      inner = p.inner;
      knows = walk.inners p.inner p.knows;
      same = p.same;
      index = p.index;
      span = p.span;
      word = p.word ∙ ap (λ (z : Layout). page_at z.slots y.slot (4 + y.index)) (sym layout);
    }

-- a pointer's place stays known
pub place_stays : (v w : View) (x : At) (span : Span) (at : ℕ) → HasWalked v w → IsPointerAt v x span at
    → IsPointerAt w x span at
place_stays v w (Root r) span at walk place =
    subst (λ (y : Layout). (r < length y.decls) × (span ≡ root_span y.decls r) × (at ≡ 10 + r))
    (sym (layout_stays v w walk)) place
place_stays v w (In y) span at walk place =
    elim place [
      | inl child ↦ inl (child_grows v w y span at walk child)
      | inr branch ↦ inr (branch_grows v w y span at walk branch)
    ]

pub root_word_stays : (v w : View) (at : ℕ) → HasWalked v w → IsRootWord v at → IsRootWord w at
root_word_stays v w at walk p =
    let layout = layout_stays v w walk in record {
      root = p.root;
      there = subst (λ (y : Layout). p.root < length y.decls) (sym layout) p.there;
      tree = subst (λ (y : Layout). is_tree y.decls (root_span y.decls p.root).storage ≡ true) (sym layout) p.tree;
      word = p.word;
    }

pub tree_word_stays : (v w : View) (t i at : ℕ) → HasWalked v w → IsTreeWordAt v t i at → IsTreeWordAt w t i at
tree_word_stays v w t i at walk is =
    let layout = layout_stays v w walk in record {
      way = is.way;
      has = walk.ways is.way is.has;
      slot = is.slot;
      kind = subst (λ (z : Layout). is_tree z.decls is.way.span.storage ≡ true) (sym layout) is.kind;
      there = slots_stay v w t walk is.there;
      index = is.index;
      word = is.word ∙ ap (λ (z : Layout). page_at z.slots t i) (sym layout);
    }

pub page_word_stays : (v w : View) (at : ℕ) → HasWalked v w → IsPageWord v at → IsPageWord w at
page_word_stays v w at walk p = record {
  slot = p.slot;
  index = p.index;
  is = tree_word_stays v w p.slot p.index at walk p.is;
  first = elim p.first [ inl head ↦ inl head | inr x ↦ inr (x.0, walk.inners x.0 x.1, x.2) ];
}

pub word_stays : (v w : View) (at : ℕ) → HasWalked v w → IsTreesWord v at → IsTreesWord w at
word_stays v w at walk p =
    elim p [ inl root ↦ inl (root_word_stays v w at walk root) | inr page ↦ inr (page_word_stays v w at walk page) ]

-- a page on the way stays on it
pub on_stays : (k : Key) (v w : View) (t : ℕ) (sp : Span) → HasWalked v w → IsOnWay k v t sp → IsOnWay k w t sp
on_stays k v w t sp walk on = record {
  way = walk.ways (record { slot = t; span = sp }) on.way;
  tree = tree_stays v w sp.storage walk on.tree;
  there = slots_stay v w t walk on.there;
  over = on.over;
}

-- a word of its page
pub tree_word : (k : Key) (v : View) (t i : ℕ) (sp : Span) → IsOnWay k v t sp → i < 64
    → IsTreeWordAt v t i (page_at v.layout.slots t i)
tree_word k v t i sp on less = record {
  way = record { slot = t; span = sp };
  has = on.way;
  slot = refl;
  kind = on.tree;
  there = on.there;
  index = less;
  word = refl;
}

-- its header is a word on the way down
pub head_word : (k : Key) (v : View) (t : ℕ) (sp : Span) → IsOnWay k v t sp → IsTreesWord v (page_at v.layout.slots t 0)
head_word k v t sp on =
    inr (record { slot = t; index = 0; is = tree_word k v t 0 sp on (omega arith); first = inl refl })

-- and each word of an interior page
pub inner_word : (k : Key) (v : View) (t i : ℕ) (sp : Span) (x : Inner) → IsOnWay k v t sp → Contains v.inners x
    → x.slot ≡ t → i < 64 → IsTreesWord v (page_at v.layout.slots t i)
inner_word k v t i sp x on knows same less =
    inr (record { slot = t; index = i; is = tree_word k v t i sp on less; first = inr (x, knows, same) })

-- ---- walks

pub last_since : (v u w : View) (part : Part) → HasWalked v u → IsLastBetween u w part → IsLastBetween v w part
last_since v u w part walk l = record {
  history = l.history;
  decided = l.decided;
  drawn_since = front_then v.history u.history l.history walk.drawn l.drawn_since;
  seen_since = front_then v.decided u.decided l.decided walk.seen l.seen_since;
  drawn_by = l.drawn_by;
  seen_by = l.seen_by;
  last = subst (λ (y : Layout). Vouches (last_write y.opening l.history l.decided) part) (layout_stays v u walk) l.last;
}

pub last_by : (v u w : View) (part : Part) → HasWalked u w → IsLastBetween v u part → IsLastBetween v w part
last_by v u w part walk l = record {
  history = l.history;
  decided = l.decided;
  drawn_since = l.drawn_since;
  seen_since = l.seen_since;
  drawn_by = front_then l.history u.history w.history l.drawn_by walk.drawn;
  seen_by = front_then l.decided u.decided w.decided l.seen_by walk.seen;
  last = l.last;
}

pub walked_self : (v : View) → HasWalked v v
walked_self v = record {
  since = omega arith;
  drawn = front_refl v.history;
  seen = front_refl v.decided;
  parts = λ part has. inl has;
  held = λ t h. h;
  ways = λ x h. h;
  known = λ x h. h;
  moved = λ x h. h;
  inners = λ x h. h;
  pages = front_refl v.pages;
  leads = λ x h. h;
  is = refl;
}

pub walked_then : (v u w : View) → HasWalked v u → HasWalked u w → HasWalked v w
walked_then v u w a b = record {
  since = let x = a.since in let y = b.since in omega (arith, x, y);
  drawn = front_then v.history u.history w.history a.drawn b.drawn;
  seen = front_then v.decided u.decided w.decided a.seen b.seen;
  parts = parts;
  held = λ t h. b.held t (a.held t h);
  ways = λ x h. b.ways x (a.ways x h);
  known = λ x h. b.known x (a.known x h);
  moved = λ x h. b.moved x (a.moved x h);
  inners = λ x h. b.inners x (a.inners x h);
  pages = front_then v.pages u.pages w.pages a.pages b.pages;
  leads = λ x h. b.leads x (a.leads x h);
  is = b.is ∙ ap (λ (y : View). as_walked y w) a.is;
}
  where
    parts : (part : Part) → Contains w.seat.kept part → Contains v.seat.kept part ⊎ IsLastBetween v w part
    parts part has =
        elim (b.parts part has) [
          | inl mid ↦ elim (a.parts part mid) [ inl old ↦ inl old | inr new ↦ inr (last_by v u w part b new) ]
          | inr new ↦ inr (last_since v u w part a new)
        ]

-- ---- words that were met

pub only_self : (v : View) → OnlyTrees v v
only_self v = λ a. inl refl

pub only_then : (v u w : View) → HasWalked u w → OnlyTrees v u → OnlyTrees u w → OnlyTrees v w
only_then v u w walk first second =
    λ a. elim (second a) [
      | inl same ↦ elim (first a) [ inl before ↦ inl (same ∙ before) | inr p ↦ inr (word_stays u w a walk p) ]
      | inr p ↦ inr p
    ]

-- those of a key's record may have been met
pub only_for : (k : Key) (v w : View) → OnlyTrees v w → OnlyTreesFor k v w
only_for k v w only = λ a. elim (only a) [ inl same ↦ inl same | inr p ↦ inr (inl p) ]

pub only_for_then : (k : Key) (v u w : View) → HasWalked u w → OnlyTrees v u → OnlyTreesFor k u w → OnlyTreesFor k v w
only_for_then k v u w walk first second =
    λ a. elim (second a) [
      | inl same ↦ elim (first a) [ inl before ↦ inl (same ∙ before) | inr p ↦ inr (inl (word_stays u w a walk p)) ]
      | inr p ↦ inr p
    ]

pub only_but_then : (at : ℕ) (v u w : View) → HasWalked u w → OnlyTrees v u → OnlyTreesBut at u w → OnlyTreesBut at v w
only_but_then at v u w walk first second =
    λ a one two. elim (second a one two) [
      | inl same ↦ elim (first a) [ inl before ↦ inl (same ∙ before) | inr p ↦ inr (word_stays u w a walk p) ]
      | inr p ↦ inr p
    ]

-- no word but this one of a tree was met
pub only_but : (at : ℕ) (v w : View) → IsTreesWord w at → ((a : ℕ) → a ≢ at → seen_at w.reads a ≡ seen_at v.reads a)
    → OnlyTrees v w
only_but at v w p others = λ a. by_test a (eqb a at) refl
  where
    by_test : (a : ℕ) (b : Bool) → eqb a at ≡ b → (seen_at w.reads a ≡ seen_at v.reads a) ⊎ IsTreesWord w a
    by_test a true same = inr (subst (IsTreesWord w) (sym (eqb-true a at same)) p)
    by_test a false other = inl (others a (λ e. true≢false (sym (eq-eqb a at e) ∙ other)))

-- ---- slots that are held newly

pub led_none : (k : Key) (v w : View) → w.grip ≡ v.grip → AreLedTo k v w
led_none k v w grip t now was =
    absurd (true≢false (sym now ∙ (ap (λ (g : Grip). has_slot g.holds t) grip ∙ was)))

pub led_then : (k : Key) (v u w : View) → HasWalked u w → AreLedTo k v u → AreLedTo k u w → AreLedTo k v w
led_then k v u w walk first second t now was = by_test (has_slot u.grip.holds t) refl
  where
    by_test : (b : Bool) → has_slot u.grip.holds t ≡ b
        → (x : Way) × Contains w.ways x × (x.slot ≡ t) × (in_span x.span k ≡ true)
    by_test true mid = let m = first t mid was in (m.0, walk.ways m.0 m.1, m.2, m.3)
    by_test false mid = second t now mid

-- of one slot more, there is a way to the key into it
pub led_new : (k : Key) (t : ℕ) (sp : Span) (v w : View) → IsOnWay k w t sp
    → ((q : ℕ) → has_slot w.grip.holds q ≡ true → has_slot v.grip.holds q ≡ false → q ≡ t) → AreLedTo k v w
led_new k t sp v w on only q now was =
    let way : Way = record { slot = t; span = sp } in (way, on.way, sym (only q now was), on.over)

-- ---- the holds

-- the same pass, with these holds
pub can_by : (slots late : List ℕ) (v w : View) → HasWalked v w → HoldsAre late w
    → ((t : ℕ) → has_slot late t ≡ true → t < v.layout.slots) → WaysAgree w.ways → TreesAgree w → CanWalk slots v
    → CanWalk late w
can_by slots late v w walk holds within agree trees c = record {
  active = active_stays v w walk c.active;
  rest = ap is_trying (stage_stays v w walk) ∙ c.rest;
  holds = holds;
  within = λ t has. slots_stay v w t walk (within t has);
  agree = agree;
  trees = trees;
  declared = subst (λ (y : Layout). AreDecls y.decls) (sym (layout_stays v w walk)) c.declared;
}

pub can_after : (slots : List ℕ) (v w : View) → HasWalked v w → w.grip ≡ v.grip → WaysAgree w.ways → TreesAgree w
    → CanWalk slots v → CanWalk slots w
can_after slots v w walk grip agree trees c =
    can_by slots slots v w walk (λ t. c.holds t ∙ ap (λ (g : Grip). has_slot g.holds t) (sym grip)) c.within agree trees c

-- ---- any part of a walk

pub went_self : (slots : List ℕ) (v : View) → CanWalk slots v → Went 0 slots v v
went_self slots v can = record {
  can = can;
  walked = walked_self v;
  most = omega arith;
  kept = refl;
  words = λ a. refl;
  met = only_self v;
}

pub went_then : (b c most : ℕ) (slots late : List ℕ) (v u w : View) → b + c ≤ most → Went b slots v u → Went c late u w
    → Went most late v w
went_then b c most slots late v u w few x y = record {
  can = y.can;
  walked = walked_then v u w x.walked y.walked;
  most = let one = x.most in let two = y.most in omega (arith, few, one, two);
  kept = y.kept ∙ x.kept;
  words = λ a. y.words a ∙ x.words a;
  met = only_then v u w y.walked x.met y.met;
}

pub went_more : (b most : ℕ) (slots : List ℕ) (v w : View) → b ≤ most → Went b slots v w → Went most slots v w
went_more b most slots v w few x = record {
  can = x.can;
  walked = x.walked;
  most = let one = x.most in omega (arith, few, one);
  kept = x.kept;
  words = x.words;
  met = x.met;
}
