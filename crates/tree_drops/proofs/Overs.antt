-- What work on a page of a tree leaves of the pass, between two pages.
use Rattle.std.proofs.Common.{◌≡◌, ◌⊎◌, inl, ℕ, ◌+◌, ◌≤◌, Bool, true, List, [], ◌∷◌, ◌++◌, refl, sym, ap, ◌∙◌, subst, arith}
use Rattle.std.specs.List.{Contains}
use Rattle.lists.specs.Elements.{in_tail}
use Rattle.lists.specs.Fronts.{IsFront, front_refl, front_then}
use Rattle.serial_model.specs.declared.key.Key.{Key}
use Rattle.homes.specs.declared.places.Span.{Span}
use Rattle.drop_core.specs.declared.grip.Grip.{Grip}
use Rattle.drop_core.specs.Event.{without}
use Rattle.drop_core.specs.Table.{has_slot}
use Rattle.engine_pages.specs.declared.view.Head.{Head}
use Rattle.engine_pages.specs.declared.view.KeptWhy.{KeptWhy}
use Rattle.engine_pages.specs.declared.view.Lead.{Lead}
use Rattle.engine_pages.specs.declared.view.Shut.{Shut}
use Rattle.engine_pages.specs.declared.view.Took.{Took}
use Rattle.engine_pages.specs.declared.view.Touch.{Touch}
use Rattle.engine_pages.specs.declared.view.View.{View}
use Rattle.engine_pages.specs.Layout.{page_at}
use Rattle.engine_pages.specs.Slots.{other_copies, other_heads, other_inners, other_leaves, other_shuts}
use Rattle.engine_pages.specs.Steps.{read_at}
use Rattle.tree_heads.specs.Headers.{HasChildren, HasHeader, HasTwins, knew, met_inner, met_moved}
use Rattle.page_drops.specs.declared.noting.Kept.{Kept}
use Rattle.page_drops.specs.Calls.{IsBare}
use Rattle.page_drops.specs.Works.{read_of, HasGlanced}
use Rattle.page_drops.proofs.Entries.{reads_glanced, reads_more, reads_self, reads_then}
use Rattle.page_drops.proofs.LeafTurns.{grip_back}
use Rattle.page_drops.proofs.Sights.{saw_same, saw_self, saw_then}
use Rattle.tree_drops.specs.Branches.{HasDroppedBranch, KeepsBranch, OnlyGoes, ShutsOn}
use Rattle.tree_drops.specs.Leaves.{HasDropped}
use Rattle.tree_drops.specs.Turns.{LooksIn}
use Rattle.tree_drops.specs.Visits.{GoesOver, KeepsInners, WentOver}
use Rattle.tree_drops.specs.Works.{KeepsIt}

-- a view with the changed parts of another
abbrev pub as_went : View → View → View
as_went z w = record z {
  steps = w.steps;
  last = w.last;
  reads = w.reads;
  history = w.history;
  decided = w.decided;
  touched = w.touched;
  loaded = w.loaded;
  known = w.known;
  moved = w.moved;
  inners = w.inners;
  versions = w.versions;
  swung = w.swung;
  copies = w.copies;
  blanks = w.blanks;
  new_leaves = w.new_leaves;
  new_inners = w.new_inners;
  pages = w.pages;
  leads = w.leads;
  gone = w.gone;
  kept = w.kept;
}

-- where the view is such a one by another text
pub went_by : (v g w : View) → w ≡ g → g ≡ as_went v g → WentOver v w
went_by v g w is same = is ∙ (same ∙ ap (λ (z : View). as_went v z) (sym is))

pub over_self : (v : View) → GoesOver v v
over_self v = record {
  went = refl;
  later = omega arith;
  front = front_refl v.pages;
  leads = λ z has. has;
  more = saw_self v;
}

pub over_then : (u v w : View) → GoesOver u v → GoesOver v w → GoesOver u w
over_then u v w a b =
    let one = a.later in
    let two = b.later in record {
      went = b.went ∙ ap (λ (z : View). as_went z w) a.went;
      later = omega (arith, one, two);
      front = front_then u.pages v.pages w.pages a.front b.front;
      leads = λ z has. b.leads z (a.leads z has);
      more = saw_then u v w a.more b.more;
    }

pub over_glanced : (v w : View) → HasGlanced v w → GoesOver v w
over_glanced v w h =
    subst (λ (z : View). GoesOver v z) (sym h.is) record {
      went = refl;
      later = h.later;
      front = front_refl v.pages;
      leads = λ z has. has;
      more = saw_same v (record v { steps = w.steps; last = w.last }) refl refl refl;
    }

over_knew : (t at n : ℕ) (keys : List Key) (v w : View) → w ≡ knew t keys (read_at at n v) → GoesOver v w
over_knew t at n keys v w is =
    subst (λ (z : View). GoesOver v z) (sym is) record {
      went = refl;
      later = omega arith;
      front = front_refl v.pages;
      leads = λ z has. has;
      more = saw_same v (knew t keys (read_at at n v)) refl refl refl;
    }

over_twins : (t at n minor major separator : ℕ) (keys : List Key) (v w : View)
    → w ≡ met_moved t minor major separator (knew t keys (read_at at n v)) → GoesOver v w
over_twins t at n minor major separator keys v w is =
    subst (λ (z : View). GoesOver v z) (sym is) record {
      went = refl;
      later = omega arith;
      front = front_refl v.pages;
      leads = λ z has. has;
      more = saw_same v (met_moved t minor major separator (knew t keys (read_at at n v))) refl refl refl;
    }

over_inner : (t at n : ℕ) (separators : List ℕ) (v w : View) → w ≡ met_inner t separators (read_at at n v) → GoesOver v w
over_inner t at n separators v w is =
    subst (λ (z : View). GoesOver v z) (sym is) record {
      went = refl;
      later = omega arith;
      front = front_refl v.pages;
      leads = λ z has. has;
      more = saw_same v (met_inner t separators (read_at at n v)) refl refl refl;
    }

-- ---- looks

pub in_self : (t : ℕ) (v : View) → LooksIn t v v
in_self t v = record {
  over = over_self v;
  kept = refl;
  gone = refl;
  swung = refl;
  reads = reads_self t v;
  known = λ x has held. has;
}

grip_over : (v w : View) → GoesOver v w → w.grip ≡ v.grip
grip_over v w h = ap (λ (z : View). z.grip) h.went

pub layout_over : (v w : View) → GoesOver v w → w.layout ≡ v.layout
layout_over v w h = ap (λ (z : View). z.layout) h.went

-- what is held is held still
pub held_over : (t : ℕ) (b : Bool) (v w : View) → GoesOver v w → has_slot v.grip.holds t ≡ b → has_slot w.grip.holds t ≡ b
held_over t b v w h is = ap (λ (g : Grip). has_slot g.holds t) (grip_over v w h) ∙ is

pub inners_then : (u v w : View) → GoesOver u v → KeepsInners u v → KeepsInners v w → KeepsInners u w
inners_then u v w over a b x has held = b x (a x has held) (held_over x.slot true u v over held)

pub looks_then : (t : ℕ) (u v w : View) → LooksIn t u v → LooksIn t v w → LooksIn t u w
looks_then t u v w a b = record {
  over = over_then u v w a.over b.over;
  kept = b.kept ∙ a.kept;
  gone = b.gone ∙ a.gone;
  swung = b.swung ∙ a.swung;
  reads = reads_then t u v w (layout_over u v a.over) a.reads b.reads;
  known = inners_then u v w a.over a.known b.known;
}

pub looks_glanced : (t : ℕ) (v w : View) → HasGlanced v w → LooksIn t v w
looks_glanced t v w h = record {
  over = over_glanced v w h;
  kept = ap (λ (z : View). z.kept) h.is;
  gone = ap (λ (z : View). z.gone) h.is;
  swung = ap (λ (z : View). z.swung) h.is;
  reads = reads_glanced t v w h;
  known = λ x has held. subst (λ (z : View). Contains z.inners x) (sym h.is) has;
}

pub looks_header : (t at n : ℕ) (sp : Span) (v w : View) → at ≡ page_at v.layout.slots t 0 → HasHeader t sp at v n w → LooksIn t v w
looks_header t at n sp v w place h = record {
  over = over_knew t at n h.keys v w h.is;
  kept = ap (λ (z : View). z.kept) h.is;
  gone = ap (λ (z : View). z.gone) h.is;
  swung = ap (λ (z : View). z.swung) h.is;
  reads = reads_more t 0 at n v v w (omega arith) place (reads_self t v) (ap (λ (z : View). z.reads) h.is);
  known = λ x has held. subst (λ (z : View). Contains z.inners x) (sym h.is) has;
}

pub looks_twins : (t at n : ℕ) (sp : Span) (v w : View) → at ≡ page_at v.layout.slots t 0 → HasTwins t sp at v n w → LooksIn t v w
looks_twins t at n sp v w place h = record {
  over = over_twins t at n h.minor h.major h.separator h.keys v w h.is;
  kept = ap (λ (z : View). z.kept) h.is;
  gone = ap (λ (z : View). z.gone) h.is;
  swung = ap (λ (z : View). z.swung) h.is;
  reads = reads_more t 0 at n v v w (omega arith) place (reads_self t v) (ap (λ (z : View). z.reads) h.is);
  known = λ x has held. subst (λ (z : View). Contains z.inners x) (sym h.is) has;
}

pub looks_children : (t at n : ℕ) (v w : View) → at ≡ page_at v.layout.slots t 0 → HasChildren t at v n w → LooksIn t v w
looks_children t at n v w place h = record {
  over = over_inner t at n h.separators v w h.is;
  kept = ap (λ (z : View). z.kept) h.is;
  gone = ap (λ (z : View). z.gone) h.is;
  swung = ap (λ (z : View). z.swung) h.is;
  reads = reads_more t 0 at n v v w (omega arith) place (reads_self t v) (ap (λ (z : View). z.reads) h.is);
  known = λ x has held. subst (λ (z : View). Contains z.inners x) (sym h.is)
      (in_tail x (record { slot = t; separators = h.separators }) v.inners has);
}

-- ---- a leaf was kept, or dropped

-- the parts of a view that come back
abbrev with_back : View → View → List Key → List Took → List Head → View
with_back v w ls ts hs = record v {
  steps = w.steps;
  last = w.last;
  reads = w.reads;
  seat = record v.seat { locks = ls };
  took = ts;
  touched = w.touched;
  loaded = w.loaded;
  known = w.known;
  heads = hs;
  versions = w.versions;
  kept = w.kept;
}

pub over_kept : (cause : KeptWhy → ℕ → ℕ → Type 0) (k : Kept) (v w : View) → KeepsIt cause k v w → GoesOver v w
over_kept cause k v w h =
    let is : w ≡ with_back v w v.seat.locks v.took v.heads =
    h.looks.works.worked
    ∙ (ap (λ ls. with_back v w ls w.took w.heads) h.looks.locks
    ∙ (ap (λ ts. with_back v w v.seat.locks ts w.heads) h.looks.took
    ∙ ap (λ hs. with_back v w v.seat.locks v.took hs) h.looks.heads)) in
    let later = h.looks.works.later in record {
      went = went_by v (with_back v w v.seat.locks v.took v.heads) w is refl;
      later = later;
      front = subst (λ ps. IsFront v.pages ps) (sym (ap (λ (z : View). z.pages) is)) (front_refl v.pages);
      leads = λ z has. subst (λ ls. Contains ls z) (sym (ap (λ (z : View). z.leads) is)) has;
      more = record {
        drawn = subst (λ l. IsFront v.history l) (sym (ap (λ (z : View). z.history) is)) (front_refl v.history);
        decided = subst (λ l. IsFront v.decided l) (sym (ap (λ (z : View). z.decided) is)) (front_refl v.decided);
        touched = h.looks.works.touched;
      };
    }

abbrev as_dropped : View → View → List Key → List Took → Grip → List Head → List Shut → View
as_dropped v z ls ts g hs ss = record v {
  steps = z.steps;
  last = z.last;
  reads = z.reads;
  seat = record v.seat { locks = ls };
  took = ts;
  touched = z.touched;
  loaded = z.loaded;
  known = z.known;
  versions = z.versions;
  grip = g;
  copies = z.copies;
  blanks = z.blanks;
  new_leaves = z.new_leaves;
  new_inners = z.new_inners;
  heads = hs;
  shuts = ss;
  swung = z.swung;
  leads = z.leads;
}

-- where nothing was locked before, nothing is
dropped_is : (t : ℕ) (g : Grip) (hs : List Head) (ss : List Shut) (v z w : View) → IsBare v
    → w ≡ as_dropped v z [] [] g hs ss → g ≡ v.grip → hs ≡ [] → ss ≡ []
    → w ≡ as_dropped v z v.seat.locks v.took v.grip v.heads v.shuts
dropped_is t g hs ss v z w bare is grip heads shuts =
    is
    ∙ (ap (λ ls. as_dropped v z ls [] g hs ss) (sym bare.locks)
    ∙ (ap (λ ts. as_dropped v z v.seat.locks ts g hs ss) (sym bare.took)
    ∙ (ap (λ y. as_dropped v z v.seat.locks v.took y hs ss) grip
    ∙ (ap (λ y. as_dropped v z v.seat.locks v.took v.grip y ss) (heads ∙ sym bare.heads)
    ∙ ap (λ y. as_dropped v z v.seat.locks v.took v.grip v.heads y) (shuts ∙ sym bare.shuts)))))

over_as_dropped : (v z w : View) → w ≡ as_dropped v z v.seat.locks v.took v.grip v.heads v.shuts → v.steps ≤ w.steps
    → ((x : Lead) → Contains v.leads x → Contains w.leads x)
    → ((x : Touch) → Contains w.touched x → Contains v.touched x ⊎ (x.seat ≡ 0)) → GoesOver v w
over_as_dropped v z w is later leads touched = record {
  went = went_by v (as_dropped v z v.seat.locks v.took v.grip v.heads v.shuts) w is refl;
  later = later;
  front = subst (λ ps. IsFront v.pages ps) (sym (ap (λ (y : View). y.pages) is)) (front_refl v.pages);
  leads = leads;
  more = record {
    drawn = subst (λ l. IsFront v.history l) (sym (ap (λ (y : View). y.history) is)) (front_refl v.history);
    decided = subst (λ l. IsFront v.decided l) (sym (ap (λ (y : View). y.decided) is)) (front_refl v.decided);
    touched = touched;
  };
}

-- what a drop leaves of a leaf's slot, and of an interior page's
abbrev dropped_leaf : ℕ → ℕ → View → View → View
dropped_leaf t at v w = record v {
  steps = w.steps;
  last = w.last;
  reads = w.reads;
  touched = w.touched;
  loaded = w.loaded;
  known = w.known;
  versions = w.versions;
  copies = other_copies t v.copies;
  blanks = without v.blanks t;
  new_leaves = other_leaves t v.new_leaves;
  new_inners = other_inners t v.new_inners;
  swung = v.swung ++ record { word = at; slot = t } ∷ [];
}

abbrev dropped_branch : ℕ → ℕ → View → View → View
dropped_branch t at v w = record v {
  steps = w.steps;
  last = w.last;
  reads = w.reads;
  leads = w.leads;
  loaded = w.loaded;
  copies = other_copies t v.copies;
  blanks = without v.blanks t;
  new_leaves = other_leaves t v.new_leaves;
  new_inners = other_inners t v.new_inners;
  swung = v.swung ++ record { word = at; slot = t } ∷ [];
}

abbrev given_up : ℕ → Grip → Grip
given_up t g = record g { made = without g.made t; taken = without (t ∷ g.taken) t }

pub over_dropped : (t at page : ℕ) (v w : View) → IsBare v → HasDropped t at page v w → GoesOver v w
over_dropped t at page v w bare h =
    let z : View = dropped_leaf t at v w in
    over_as_dropped v z w
    (dropped_is t (given_up t v.grip) (other_heads t v.heads) (other_shuts t v.shuts) v z w bare h.is (grip_back t v bare)
    (ap (λ (hs : List Head). other_heads t hs) bare.heads) (ap (λ (ss : List Shut). other_shuts t ss) bare.shuts))
    h.later (λ x has. subst (λ ls. Contains ls x) (sym (ap (λ (y : View). y.leads) h.is)) has) h.touched

pub over_dropped_branch : (t at page : ℕ) (v w : View) → IsBare v → HasDroppedBranch t at page v w → GoesOver v w
over_dropped_branch t at page v w bare h =
    let z : View = dropped_branch t at v w in
    over_as_dropped v z w
    (dropped_is t (given_up t v.grip) (other_heads t v.heads) w.shuts v z w bare h.is (grip_back t v bare)
    (ap (λ (hs : List Head). other_heads t hs) bare.heads) h.shuts)
    h.later h.leads (λ x has. inl (subst (λ l. Contains l x) (ap (λ (y : View). y.touched) h.is) has))

-- ---- an interior page was kept

abbrev as_shut : View → View → List Shut → View
as_shut v w ss = record v { steps = w.steps; last = w.last; reads = w.reads; leads = w.leads; shuts = ss; kept = w.kept }

pub over_shuts : (v w : View) → ShutsOn v w → w.shuts ≡ v.shuts → GoesOver v w
over_shuts v w h shuts =
    let is : w ≡ as_shut v w v.shuts = h.shut ∙ ap (λ ss. as_shut v w ss) shuts in
    let later = h.later in record {
      went = went_by v (as_shut v w v.shuts) w is refl;
      later = later;
      front = subst (λ ps. IsFront v.pages ps) (sym (ap (λ (y : View). y.pages) is)) (front_refl v.pages);
      leads = h.leads;
      more = saw_same v w (ap (λ (y : View). y.history) is) (ap (λ (y : View). y.decided) is) (ap (λ (y : View). y.touched) is);
    }

pub over_branch : (cause : KeptWhy → ℕ → ℕ → Type 0) (k : Kept) (v w : View) → KeepsBranch cause k v w → GoesOver v w
over_branch cause k v w h = over_shuts v w h.on h.shuts

-- a child was found, and nothing was read
pub looks_goes : (t : ℕ) (v w : View) → OnlyGoes v w → w.reads ≡ v.reads → LooksIn t v w
looks_goes t v w h reads = record {
  over = over_shuts v w h.on h.shuts;
  kept = h.kept;
  gone = ap (λ (z : View). z.gone) h.on.shut;
  swung = ap (λ (z : View). z.swung) h.on.shut;
  reads = λ word out. ap (λ l. read_of l word) reads;
  known = λ x has held. subst (λ (z : View). Contains z.inners x) (sym h.on.shut) has;
}
