-- Work on a chain, step by step.
use Rattle.std.proofs.Common.{◌≡◌, inl, inr, ℕ, ◌+◌, [], ◌∷◌, ◌++◌, refl, sym, ap, ◌∙◌, subst, arith}
use Rattle.homes.specs.declared.places.Span.{Span}
use Rattle.engine_pages.specs.declared.layout.Layout.{Layout}
use Rattle.engine_pages.specs.declared.view.KeptWhy.{KeptWhy}
use Rattle.engine_pages.specs.declared.view.View.{View}
use Rattle.engine_pages.specs.Pages.{is_tree}
use Rattle.engine_pages.specs.Steps.{read_at}
use Rattle.dual_pointer.specs.Copies.{IsLeadOf}
use Rattle.tree_heads.specs.Headers.{IsTreeAt}
use Rattle.page_drops.specs.declared.noting.Kept.{Kept}
use Rattle.page_drops.specs.Works.{note_of, noted, HasGlanced, IsNoted}
use Rattle.tree_drops.specs.Belows.{HasGoneBelow}
use Rattle.tree_drops.specs.Chains.{ChainLooks, Chaining, ChainsOn, HoldsSame, KeepsChain, OnlyChains}
use Rattle.tree_drops.specs.Leaves.{AtTree, KnowsKeys}
use Rattle.tree_drops.specs.Works.{KeepsIt, LooksOn, OnlyLooks, WorksOn}

-- ---- one after another

-- a view with the changed parts of another
abbrev pub as_chained : View → View → View
as_chained z w = record z {
  steps = w.steps;
  last = w.last;
  reads = w.reads;
  grip = record z.grip { holds = w.grip.holds };
  ways = w.ways;
  seat = record z.seat { locks = w.seat.locks };
  took = w.took;
  touched = w.touched;
  loaded = w.loaded;
  known = w.known;
  moved = w.moved;
  inners = w.inners;
  heads = w.heads;
  sealed = w.sealed;
  versions = w.versions;
  leads = w.leads;
  kept = w.kept;
}

pub chaining_then : (u v w : View) → Chaining u v → Chaining v w → Chaining u w
chaining_then u v w a b = b ∙ ap (λ (z : View). as_chained z w) a

pub chains_self : (v : View) → ChainsOn v v
chains_self v = record {
  chains = refl;
  later = omega arith;
  ways = λ x has. has;
  known = λ x has. has;
  moved = λ x has. has;
  inners = λ x has. has;
  versions = λ x has. has;
  leads = λ x has. has;
  touched = λ z has. inl has;
}

pub chains_then : (u v w : View) → ChainsOn u v → ChainsOn v w → ChainsOn u w
chains_then u v w a b =
    let one = a.later in
    let two = b.later in record {
      chains = chaining_then u v w a.chains b.chains;
      later = omega (arith, one, two);
      ways = λ x has. b.ways x (a.ways x has);
      known = λ x has. b.known x (a.known x has);
      moved = λ x has. b.moved x (a.moved x has);
      inners = λ x has. b.inners x (a.inners x has);
      versions = λ x has. b.versions x (a.versions x has);
      leads = λ x has. b.leads x (a.leads x has);
      touched = λ z has. elim (b.touched z has) [ inl old ↦ a.touched z old | inr own ↦ inr own ];
    }

pub chain_self : (v : View) → ChainLooks v v
chain_self v = record { on = chains_self v; locks = refl; took = refl; heads = refl; sealed = refl }

pub chain_then : (u v w : View) → ChainLooks u v → ChainLooks v w → ChainLooks u w
chain_then u v w a b = record {
  on = chains_then u v w a.on b.on;
  locks = b.locks ∙ a.locks;
  took = b.took ∙ a.took;
  heads = b.heads ∙ a.heads;
  sealed = b.sealed ∙ a.sealed;
}

pub holds_self : (v : View) → HoldsSame v v
holds_self v = record { grip = refl; ways = refl }

pub holds_then : (u v w : View) → HoldsSame u v → HoldsSame v w → HoldsSame u w
holds_then u v w a b = record { grip = b.grip ∙ a.grip; ways = b.ways ∙ a.ways }

pub chained_self : (v : View) → OnlyChains v v
chained_self v = record { looks = chain_self v; holds = holds_self v; kept = refl }

pub chained_then : (u v w : View) → OnlyChains u v → OnlyChains v w → OnlyChains u w
chained_then u v w a b = record {
  looks = chain_then u v w a.looks b.looks;
  holds = holds_then u v w a.holds b.holds;
  kept = b.kept ∙ a.kept;
}

-- ---- what stays

pub layout_chained : (v w : View) → ChainsOn v w → w.layout ≡ v.layout
layout_chained v w h = ap (λ (z : View). z.layout) h.chains

pub pages_chained : (v w : View) → ChainsOn v w → w.pages ≡ v.pages
pages_chained v w h = ap (λ (z : View). z.pages) h.chains

pub past_chained : (v w : View) → ChainsOn v w → w.past ≡ v.past
past_chained v w h = ap (λ (z : View). z.past) h.chains

pub role_chained : (v w : View) → ChainsOn v w → w.role ≡ v.role
role_chained v w h = ap (λ (z : View). z.role) h.chains

pub tree_at_chained : (t : ℕ) (sp : Span) (v w : View) → ChainsOn v w → IsTreeAt v t sp → IsTreeAt w t sp
tree_at_chained t sp v w h at = record {
  way = h.ways (record { slot = t; span = sp }) at.way;
  tree = ap (λ (l : Layout). is_tree l.decls sp.storage) (layout_chained v w h) ∙ at.tree;
}

pub tree_chained : (t page : ℕ) (sp : Span) (v w : View) → ChainsOn v w → AtTree t sp page v → AtTree t sp page w
tree_chained t page sp v w h at =
    subst (λ (z : View). AtTree t sp page z) (sym h.chains) record {
      keeper = at.keeper;
      idle = at.idle;
      over = record { way = h.ways (record { slot = t; span = sp }) at.over.way; tree = at.over.tree };
      slot = at.slot;
      there = at.there;
      room = at.room;
    }

abbrev pub keys_chained : (t count : ℕ) (sp : Span) (v w : View) → ChainsOn v w → KnowsKeys t sp count v → KnowsKeys t sp count w
keys_chained t count sp v w h x = record { leaf = x.leaf; has = h.known x.leaf x.has; slot = x.slot; are = x.are }

pub lead_chained : (sp : Span) (page : ℕ) (v w : View) → ChainsOn v w → IsLeadOf v sp page → IsLeadOf w sp page
lead_chained sp page v w h lead = (lead.0, h.leads lead.0 lead.1, lead.2, lead.3)

-- ---- work on one page is work on a chain

pub chains_worked : (v w : View) → WorksOn v w → ChainsOn v w
chains_worked v w h =
    subst (λ (z : View). ChainsOn v z) (sym h.worked) record {
      chains = refl;
      later = h.later;
      ways = λ x has. has;
      known = h.known;
      moved = λ x has. has;
      inners = λ x has. has;
      versions = h.versions;
      leads = λ x has. has;
      touched = h.touched;
    }

pub holds_worked : (v w : View) → WorksOn v w → HoldsSame v w
holds_worked v w h = record { grip = ap (λ (z : View). z.grip) h.worked; ways = ap (λ (z : View). z.ways) h.worked }

pub sealed_worked : (v w : View) → WorksOn v w → w.sealed ≡ v.sealed
sealed_worked v w h = ap (λ (z : View). z.sealed) h.worked

pub chain_looked : (v w : View) → LooksOn v w → ChainLooks v w
chain_looked v w h = record {
  on = chains_worked v w h.works;
  locks = h.locks;
  took = h.took;
  heads = h.heads;
  sealed = sealed_worked v w h.works;
}

pub chained_looked : (v w : View) → OnlyLooks v w → OnlyChains v w
chained_looked v w h = record { looks = chain_looked v w h.looks; holds = holds_worked v w h.looks.works; kept = h.kept }

-- a page that is kept
pub keeps_chain : (cause other : KeptWhy → ℕ → ℕ → Type 0) (k : Kept) (v w : View)
    → (cause k.why k.word k.seen → other k.why k.word k.seen) → KeepsIt cause k v w → KeepsChain other k v w
keeps_chain cause other k v w so h = record {
  looks = chain_looked v w h.looks;
  holds = holds_worked v w h.looks.works;
  kept = record { page = h.kept.page; is = h.kept.is; told = h.kept.told; so = so h.kept.cause-is };
}

-- ---- steps that look

pub chained_glanced : (v w : View) → HasGlanced v w → OnlyChains v w
chained_glanced v w h =
    subst (λ (z : View). OnlyChains v z) (sym h.is) record {
      looks = record {
        on = record {
          chains = refl;
          later = h.later;
          ways = λ x has. has;
          known = λ x has. has;
          moved = λ x has. has;
          inners = λ x has. has;
          versions = λ x has. has;
          leads = λ x has. has;
          touched = λ z has. inl has;
        };
        locks = refl;
        took = refl;
        heads = refl;
        sealed = refl;
      };
      holds = record { grip = refl; ways = refl };
      kept = refl;
    }

pub chained_read : (at n : ℕ) (v w : View) → w ≡ read_at at n v → OnlyChains v w
chained_read at n v w is =
    subst (λ (z : View). OnlyChains v z) (sym is) record {
      looks = record {
        on = record {
          chains = refl;
          later = omega arith;
          ways = λ x has. has;
          known = λ x has. has;
          moved = λ x has. has;
          inners = λ x has. has;
          versions = λ x has. has;
          leads = λ x has. has;
          touched = λ z has. inl has;
        };
        locks = refl;
        took = refl;
        heads = refl;
        sealed = refl;
      };
      holds = record { grip = refl; ways = refl };
      kept = refl;
    }

pub chained_below : (v w : View) → HasGoneBelow v w → OnlyChains v w
chained_below v w h =
    subst (λ (z : View). OnlyChains v z) (sym h.is) record {
      looks = record {
        on = record {
          chains = refl;
          later = h.later;
          ways = λ x has. has;
          known = λ x has. has;
          moved = λ x has. has;
          inners = λ x has. has;
          versions = λ x has. has;
          leads = h.leads;
          touched = λ z has. inl has;
        };
        locks = refl;
        took = refl;
        heads = refl;
        sealed = refl;
      };
      holds = record { grip = refl; ways = refl };
      kept = refl;
    }

-- ---- a note

pub keeps_noted : (cause : KeptWhy → ℕ → ℕ → Type 0) (word seen : ℕ) (why : KeptWhy) (k : Kept) (v u w : View) → OnlyChains v u
    → k ≡ record { word = word; seen = seen; why = why } → IsNoted k u w → cause why word seen → KeepsChain cause k v w
keeps_noted cause word seen why k v u w only is told so =
    let low = only.looks.on.later in
    subst (λ (z : View). KeepsChain cause k v z) (sym told.1) record {
      looks = chain_then v u (noted (note_of u k) told.0 u) only.looks record {
        on = record {
          chains = refl;
          later = omega arith;
          ways = λ x has. has;
          known = λ x has. has;
          moved = λ x has. has;
          inners = λ x has. has;
          versions = λ x has. has;
          leads = λ x has. has;
          touched = λ z has. inl has;
        };
        locks = refl;
        took = refl;
        heads = refl;
        sealed = refl;
      };
      holds = record { grip = only.holds.grip; ways = only.holds.ways };
      kept = record {
        page = note_of u k;
        is = ap (λ list. list ++ note_of u k ∷ []) only.kept;
        told = refl;
        so = subst (λ (z : Kept). cause z.why z.word z.seen) (sym is) so;
      };
    }

-- behind looks, for a cause that is one of the earlier view, too
pub keeps_later : (cause other : KeptWhy → ℕ → ℕ → Type 0) (k : Kept) (v u w : View) → OnlyChains v u
    → (cause k.why k.word k.seen → other k.why k.word k.seen) → KeepsChain cause k u w → KeepsChain other k v w
keeps_later cause other k v u w only so h = record {
  looks = chain_then v u w only.looks h.looks;
  holds = holds_then v u w only.holds h.holds;
  kept = record {
    page = h.kept.page;
    is = h.kept.is ∙ ap (λ list. list ++ h.kept.page ∷ []) only.kept;
    told = h.kept.told;
    so = so h.kept.so;
  };
}
