-- What views know of pages once they are cut or joined.
use Rattle.std.proofs.Common.{◌≡◌, ℕ, suc, ◌<◌, true≢false, List, refl, sym, subst}
use Rattle.lists.specs.Elements.{in_none}
use Rattle.lists.specs.Fronts.{front_none}
use Rattle.views.specs.Sums.{times}
use Rattle.views.specs.Longer.{longer_of}
use Rattle.engine_pages.specs.declared.layout.Layout.{Layout}
use Rattle.engine_pages.specs.declared.view.Role.{Role}
use Rattle.engine_pages.specs.declared.view.Role.TheVariants.{Keeper, Note, Spent, Worker}
use Rattle.engine_pages.specs.declared.view.View.{View}
use Rattle.engine_pages.specs.Rule.{Shared, FitsPages}
use Rattle.engine_pages.specs.Views.{HasNoTreePages, HasNoTrees, bare_grip}
use Rattle.engine_seats.specs.Cuts.{ended, learned, note_view, seated, spent_view, worker_view}

pub note_pages : (l : Layout) (words : List ℕ) (s : Shared) (v : View) → FitsPages l words s v
    → FitsPages l words s (note_view v)
note_pages l words s v f = record {
  grip = λ p at. absurd at;
  within = λ t has. absurd (true≢false (sym has));
  ways = λ x has. absurd (in_none x has);
  drafts = λ x has. absurd (in_none x has);
  copies = λ x has. absurd (in_none x has);
  blanks = λ t has. absurd (true≢false (sym has));
  resident = f.resident;
  leads = λ x has. absurd (in_none x has);
  fills = λ x has. absurd (in_none x has);
  shuts = λ p at x has. absurd at;
  none = (refl, refl, refl, refl, refl);
  keepers = λ keeper. absurd (cc);
  treed = record {
    known = λ x has. absurd (in_none x has);
    heads = λ p at x has. absurd at;
    moved = λ x has. absurd (in_none x has);
    sealed = λ p at. absurd at;
    inners = λ x has. absurd (in_none x has);
    new_leaves = λ x has. absurd (in_none x has);
    new_inners = λ x has. absurd (in_none x has);
    none = (refl, refl, refl, refl, refl, refl, refl);
  };
}

pub spent_pages : (l : Layout) (words : List ℕ) (s : Shared) → FitsPages l words s spent_view
spent_pages l words s = record {
  grip = λ p at. absurd at;
  within = λ t has. absurd (true≢false (sym has));
  ways = λ x has. absurd (in_none x has);
  drafts = λ x has. absurd (in_none x has);
  copies = λ x has. absurd (in_none x has);
  blanks = λ t has. absurd (true≢false (sym has));
  resident = front_none s.resident.pages;
  leads = λ x has. absurd (in_none x has);
  fills = λ x has. absurd (in_none x has);
  shuts = λ p at x has. absurd at;
  none = (refl, refl, refl, refl, refl);
  keepers = λ keeper. absurd (cc);
  treed = record {
    known = λ x has. absurd (in_none x has);
    heads = λ p at x has. absurd at;
    moved = λ x has. absurd (in_none x has);
    sealed = λ p at. absurd at;
    inners = λ x has. absurd (in_none x has);
    new_leaves = λ x has. absurd (in_none x has);
    new_inners = λ x has. absurd (in_none x has);
    none = (refl, refl, refl, refl, refl, refl, refl);
  };
}

-- a worker begins with no slot, where it had none as it was ended
pub worker_pages : (l : Layout) (words : List ℕ) (s : Shared) (v : View) (worker : ℕ) → s.grips (suc worker) ≡ bare_grip
    → FitsPages l words s v → FitsPages l words s (worker_view worker v)
worker_pages l words s v worker bare f = record {
  grip = λ p at. subst (λ q. bare_grip ≡ s.grips q) (sym at) (sym bare);
  within = λ t has. absurd (true≢false (sym has));
  ways = λ x has. absurd (in_none x has);
  drafts = λ x has. absurd (in_none x has);
  copies = λ x has. absurd (in_none x has);
  blanks = λ t has. absurd (true≢false (sym has));
  resident = f.resident;
  leads = λ x has. absurd (in_none x has);
  fills = λ x has. absurd (in_none x has);
  shuts = λ p at x has. absurd (in_none x has);
  none = tt;
  keepers = λ keeper. absurd (cc);
  treed = record {
    known = λ x has. absurd (in_none x has);
    heads = λ p at x has. absurd (in_none x has);
    moved = λ x has. absurd (in_none x has);
    sealed = λ p at t has. absurd (true≢false (sym has));
    inners = λ x has. absurd (in_none x has);
    new_leaves = λ x has. absurd (in_none x has);
    new_inners = λ x has. absurd (in_none x has);
    none = tt;
  };
}

-- a pass without a seat has nothing of trees, where it had nothing before
no_trees : (role : Role) (v w : View) → (HasNoTreePages v → HasNoTreePages w) → HasNoTrees role v → HasNoTrees role w
no_trees Keeper v w go h = tt
no_trees (Worker k) v w go h = tt
no_trees Note v w go h = go h
no_trees Spent v w go h = go h

-- the keeper's view, with other workers seated
pub seated_pages : (l : Layout) (words : List ℕ) (s : Shared) (v : View) (worker : ℕ)
    → ((x : ℕ) → times x (seated worker v).made ≡ 0 → times x v.made ≡ 0) → FitsPages l words s v
    → FitsPages l words s (seated worker v)
seated_pages l words s v worker more f = record {
  grip = f.grip;
  within = f.within;
  ways = f.ways;
  drafts = f.drafts;
  copies = f.copies;
  blanks = f.blanks;
  resident = f.resident;
  leads = f.leads;
  fills = f.fills;
  shuts = f.shuts;
  none = f.none;
  keepers = λ keeper x few unmade. f.keepers keeper x few (more x unmade);
  treed = record {
    known = f.treed.known;
    heads = f.treed.heads;
    moved = f.treed.moved;
    sealed = f.treed.sealed;
    inners = f.treed.inners;
    new_leaves = f.treed.new_leaves;
    new_inners = f.treed.new_inners;
    none = no_trees v.role v (seated worker v) (λ h. h) f.treed.none;
  };
}

-- a view that took in what another one has seen
pub learned_pages : (l : Layout) (words : List ℕ) (s : Shared) (v u : View) → FitsPages l words s v
    → FitsPages l words s u → FitsPages l words s (learned v u)
learned_pages l words s v u f g = record {
  grip = f.grip;
  within = f.within;
  ways = f.ways;
  drafts = f.drafts;
  copies = f.copies;
  blanks = f.blanks;
  resident = (longer_of v.pages u.pages s.resident.pages f.resident g.resident).whole;
  leads = f.leads;
  fills = f.fills;
  shuts = f.shuts;
  none = f.none;
  keepers = f.keepers;
  treed = record {
    known = f.treed.known;
    heads = f.treed.heads;
    moved = f.treed.moved;
    sealed = f.treed.sealed;
    inners = f.treed.inners;
    new_leaves = f.treed.new_leaves;
    new_inners = f.treed.new_inners;
    none = no_trees v.role v (learned v u) (λ h. h) f.treed.none;
  };
}

-- and the keeper's, that took in a worker's
pub ended_pages : (l : Layout) (words : List ℕ) (s : Shared) (v u : View)
    → (v.role ≡ Keeper → (x : ℕ) → x < 8 → times x (ended v u).made ≡ 0 → s.grips (suc x) ≡ bare_grip)
    → FitsPages l words s v → FitsPages l words s u → FitsPages l words s (ended v u)
ended_pages l words s v u keepers f g = record {
  grip = f.grip;
  within = f.within;
  ways = f.ways;
  drafts = f.drafts;
  copies = f.copies;
  blanks = f.blanks;
  resident = (longer_of v.pages u.pages s.resident.pages f.resident g.resident).whole;
  leads = f.leads;
  fills = f.fills;
  shuts = f.shuts;
  none = f.none;
  keepers = keepers;
  treed = record {
    known = f.treed.known;
    heads = f.treed.heads;
    moved = f.treed.moved;
    sealed = f.treed.sealed;
    inners = f.treed.inners;
    new_leaves = f.treed.new_leaves;
    new_inners = f.treed.new_inners;
    none = no_trees v.role v (ended v u) (λ h. h) f.treed.none;
  };
}
