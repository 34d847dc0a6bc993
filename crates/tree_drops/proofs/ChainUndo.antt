-- What was locked of a chain is opened again where the chain is kept, the last first.
use Rattle.std.proofs.Common.{◌≡◌, inl, ℕ, ◌+◌, Bool, true, false, cond, eqb, eq-eqb}
use Rattle.std.proofs.Common.{ne_eqb, not, List, [], ◌∷◌, ◌++◌, filter, refl, sym, ap, ◌∙◌, subst, arith}
use Rattle.std.specs.List.{Contains}
use Rattle.lists.specs.Elements.{in_head, in_push_new, in_tail}
use Rattle.serial_model.specs.declared.key.Key.{Key}
use Rattle.homes.specs.Homes.{has_key, same_key}
use Rattle.commit_core.specs.CoreState.{can_begin}
use Rattle.drop_core.specs.Event.{without}
use Rattle.drop_core.specs.Table.{has_slot}
use Rattle.engine_pages.specs.declared.view.Head.{Head}
use Rattle.engine_pages.specs.declared.view.KeptPage.{KeptPage}
use Rattle.engine_pages.specs.declared.view.KeptWhy.{KeptWhy}
use Rattle.engine_pages.specs.declared.view.View.{View}
use Rattle.engine_pages.specs.Slots.{other_heads}
use Rattle.engine_pages.specs.Words.{spot}
use Rattle.page_records.specs.Locks.{not_at, took_at, CanOpenAgain}
use Rattle.tree_heads.specs.Heads.{head_opened}
use Rattle.chain_steps.specs.Seals.{unsealed_at}
use Rattle.page_drops.specs.declared.noting.Kept.{Kept}
use Rattle.page_drops.proofs.Holds.{without_first}
use Rattle.tree_drops.specs.declared.taking.ChainPage.{ChainPage}
use Rattle.tree_drops.specs.declared.taking.Root.{Root}
use Rattle.tree_drops.specs.Chains.{ChainLooks, ChainsOn, KeepsChain, NotedFor}
use Rattle.tree_drops.specs.Taking.{HasHeadedPage, HasRecorded, HasSealedPage}
use Rattle.tree_drops.proofs.Chaining.{chains_then, holds_then}
use Rattle.tree_drops.proofs.KeyLists.{locks_back, took_back}
use Rattle.tree_drops.proofs.Swung.{has_last}
use Rattle.tree_drops.proofs.Works.{reopened}

-- a note that was made meanwhile
pub noted_between : (cause other : KeptWhy → ℕ → ℕ → Type 0) (k : Kept) (v w e z : View) → w.kept ≡ v.kept → NotedFor cause k w e
    → z.kept ≡ e.kept → (cause k.why k.word k.seen → other k.why k.word k.seen) → NotedFor other k v z
noted_between cause other k v w e z before h after so = record {
  page = h.page;
  is = after ∙ (h.is ∙ ap (λ (l : List KeptPage). l ++ h.page ∷ []) before);
  told = h.told;
  so = so h.so;
}

-- ---- the header of a split leaf

chains_unsealed : (t at n : ℕ) (v w : View) → w ≡ unsealed_at t at n v → ChainsOn v w
chains_unsealed t at n v w is =
    subst (λ (z : View). ChainsOn v z) (sym is) record {
      chains = refl;
      later = omega arith;
      ways = λ x has. has;
      known = λ x has. has;
      moved = λ x has. has;
      inners = λ x has. has;
      versions = λ x has. has;
      leads = λ x has. has;
      touched = λ z has. inl has;
    }

pub undone_sealed : (cause other : KeptWhy → ℕ → ℕ → Type 0) (k : Kept) (page : ChainPage) (at n : ℕ) (v w e z : View)
    → HasSealedPage page v w → has_slot v.sealed page.slot ≡ false → KeepsChain cause k w e → z ≡ unsealed_at page.slot at n e
    → (cause k.why k.word k.seen → other k.why k.word k.seen) → KeepsChain other k v z
undone_sealed cause other k page at n v w e z s fresh keeps is so = record {
  looks = record {
    on = chains_then v w z s.on (chains_then w e z keeps.looks.on (chains_unsealed page.slot at n e z is));
    locks = ap (λ (y : View). y.seat.locks) is ∙ (keeps.looks.locks ∙ s.locks);
    took = ap (λ (y : View). y.took) is ∙ (keeps.looks.took ∙ s.took);
    heads = ap (λ (y : View). y.heads) is ∙ (keeps.looks.heads ∙ s.heads);
    sealed = ap (λ (y : View). y.sealed) is
        ∙ (ap (λ l. without l page.slot) (keeps.looks.sealed ∙ s.sealed) ∙ without_first v.sealed page.slot fresh);
  };
  holds = holds_then v w z s.holds (holds_then w e z keeps.holds
      record { grip = ap (λ (y : View). y.grip) is; ways = ap (λ (y : View). y.ways) is });
  kept = noted_between cause other k v w e z s.kept keeps.kept (ap (λ (y : View). y.kept) is) so;
}

-- ---- the header of a leaf

chains_opened : (t at n : ℕ) (v w : View) → w ≡ head_opened t at n v → ChainsOn v w
chains_opened t at n v w is =
    subst (λ (z : View). ChainsOn v z) (sym is) record {
      chains = refl;
      later = omega arith;
      ways = λ x has. has;
      known = λ x has. has;
      moved = λ x has. has;
      inners = λ x has. has;
      versions = λ x has. has;
      leads = λ x has. has;
      touched = λ z has. inl has;
    }

heads_back : (t : ℕ) (heads : List Head) → ((x : Head) → Contains heads x → x.slot ≡ t → ⊥) → other_heads t heads ≡ heads
heads_back t [] other = refl
heads_back t (x ∷ heads) other =
    ap (λ (c : Bool). cond (not c) (x ∷ other_heads t heads) (other_heads t heads))
    (ne_eqb x.slot t (λ same. other x (in_head x heads) same))
    ∙ ap (λ hs. x ∷ hs) (heads_back t heads (λ y has. other y (in_tail y x heads has)))

head_back : (t : ℕ) (x : Head) (heads : List Head) → x.slot ≡ t → ((y : Head) → Contains heads y → y.slot ≡ t → ⊥)
    → other_heads t (x ∷ heads) ≡ heads
head_back t x heads slot other =
    ap (λ (c : Bool). cond (not c) (x ∷ other_heads t heads) (other_heads t heads)) (eq-eqb x.slot t slot)
    ∙ heads_back t heads other

pub undone_headed : (cause other : KeptWhy → ℕ → ℕ → Type 0) (k : Kept) (page : ChainPage) (at n : ℕ) (v w e z : View)
    → HasHeadedPage page v w → ((y : Head) → Contains v.heads y → y.slot ≡ page.slot → ⊥) → KeepsChain cause k w e
    → z ≡ head_opened page.slot at n e → (cause k.why k.word k.seen → other k.why k.word k.seen) → KeepsChain other k v z
undone_headed cause other k page at n v w e z s fresh keeps is so = record {
  looks = record {
    on = chains_then v w z s.on (chains_then w e z keeps.looks.on (chains_opened page.slot at n e z is));
    locks = ap (λ (y : View). y.seat.locks) is ∙ (keeps.looks.locks ∙ s.locks);
    took = ap (λ (y : View). y.took) is ∙ (keeps.looks.took ∙ s.took);
    heads = ap (λ (y : View). y.heads) is
        ∙ (ap (λ l. other_heads page.slot l) (keeps.looks.heads ∙ s.heads) ∙ head_back page.slot s.head v.heads s.slot fresh);
    sealed = ap (λ (y : View). y.sealed) is ∙ (keeps.looks.sealed ∙ s.sealed);
  };
  holds = holds_then v w z s.holds (holds_then w e z keeps.holds
      record { grip = ap (λ (y : View). y.grip) is; ways = ap (λ (y : View). y.ways) is });
  kept = noted_between cause other k v w e z s.kept keeps.kept (ap (λ (y : View). y.kept) is) so;
}

-- ---- a record

chains_reopened : (k : Key) (at n : ℕ) (v w : View) → w ≡ reopened k at n v → ChainsOn v w
chains_reopened k at n v w is =
    subst (λ (z : View). ChainsOn v z) (sym is) record {
      chains = refl;
      later = omega arith;
      ways = λ x has. has;
      known = λ x has. has;
      moved = λ x has. has;
      inners = λ x has. has;
      versions = λ x has. has;
      leads = λ x has. has;
      touched = λ z has. inl has;
    }

pub undone_recorded : (cause other : KeptWhy → ℕ → ℕ → Type 0) (kept : Kept) (root : Root) (page : ChainPage) (r at word : ℕ) (k : Key)
    (v w e z : View) → HasRecorded root page r k word v w → KeepsChain cause kept w e → z ≡ reopened k at word e
    → (cause kept.why kept.word kept.seen → other kept.why kept.word kept.seen) → KeepsChain other kept v z
undone_recorded cause other kept root page r at word k v w e z s keeps is so = record {
  looks = record {
    on = chains_then v w z s.on (chains_then w e z keeps.looks.on (chains_reopened k at word e z is));
    locks = ap (λ (y : View). y.seat.locks) is
        ∙ (ap (λ l. filter (λ q. not (same_key q k)) l) (keeps.looks.locks ∙ s.locks)
        ∙ locks_back k v.seat.locks s.new.unlocked);
    took = ap (λ (y : View). y.took) is
        ∙ (ap (not_at k) (keeps.looks.took ∙ s.took)
        ∙ took_back k v.took (took_at k (spot page.slot r) word) refl s.new.untaken);
    heads = ap (λ (y : View). y.heads) is ∙ (keeps.looks.heads ∙ s.heads);
    sealed = ap (λ (y : View). y.sealed) is ∙ (keeps.looks.sealed ∙ s.sealed);
  };
  holds = holds_then v w z s.holds (holds_then w e z keeps.holds
      record { grip = ap (λ (y : View). y.grip) is; ways = ap (λ (y : View). y.ways) is });
  kept = noted_between cause other kept v w e z s.kept keeps.kept (ap (λ (y : View). y.kept) is) so;
}

-- the lock may be opened
pub can_open_recorded : (root : Root) (page : ChainPage) (r word : ℕ) (k : Key) (v w e : View) → HasRecorded root page r k word v w
    → ChainLooks w e → can_begin e.seat.stage ≡ true → CanOpenAgain e k (spot page.slot r) word
can_open_recorded root page r word k v w e s looks idle = record {
  idle = idle;
  locked = ap (λ l. has_key l k) (looks.locks ∙ s.locks) ∙ has_last v.seat.locks k;
  took = subst (λ l. Contains l (took_at k (spot page.slot r) word)) (sym (looks.took ∙ s.took))
      (in_push_new (took_at k (spot page.slot r) word) v.took);
}
