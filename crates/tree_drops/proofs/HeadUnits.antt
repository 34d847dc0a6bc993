-- The header of a page of a chain is locked by one try.
use Rattle.std.proofs.Common.{◌≡◌, ◌≢◌, inl, ℕ, zero, suc, ◌+◌, ◌<◌, ◌≤◌, ◌^◌, eq-eqb, ne_eqb, List, [], ◌∷◌, ◌++◌, get_or, length, Some, refl, sym, ap, ◌∙◌, subst, arith}
use Rattle.std.specs.Prelude.{Err, MatchBool, Ok}
use Rattle.std.proofs.lemmas.Option.{slice_get-get_or}
use Rattle.std.specs.List.{Contains, slice_get}
use Rattle.lists.specs.Elements.{in_head, in_tail}
use Rattle.engine_pages.specs.declared.view.KeptWhy.TheVariants.{Changed}
use Rattle.engine_pages.specs.declared.view.Moved.{Moved}
use Rattle.engine_pages.specs.declared.view.Role.TheVariants.{Keeper}
use Rattle.engine_pages.specs.declared.view.View.{View}
use Rattle.engine_pages.specs.Layout.{page_at}
use Rattle.engine_pages.specs.Steps.{read_at, seen_at}
use Rattle.chain_steps.specs.Seals.{sealed_at, CanSeal, HasSealed as SealIs}
use Rattle.tree_heads.specs.Headers.{count_of, open_word, IsTreeAt}
use Rattle.tree_heads.specs.Heads.{lock_bit, HeadLocked}
use Rattle.chain_steps.specs.declared.halves.Half.{Half}
use Rattle.page_drops.specs.declared.noting.Kept.{Kept}
use Rattle.page_drops.specs.Works.{HasSeenLast, HasTurnedFrom, IsNoted}
use Rattle.page_drops.proofs.Dues.{turned_from}
use Rattle.page_drops.proofs.Entries.{reads_more, reads_noted, reads_self}
use Rattle.tree_drops.specs.declared.taking.ChainPage.{ChainPage}
use Rattle.tree_drops.specs.declared.taking.Done.TheVariants.{Headed, Sealed}
use Rattle.tree_drops.specs.declared.taking.Root.{Root}
use Rattle.tree_drops.specs.Chains.{first_page, split_header, ChainsOn}
use Rattle.tree_drops.specs.Taking.{keys_in, HasWorked, IsPageCause, IsThatPage}
use Rattle.tree_drops.proofs.Chaining.{chained_read, keeps_noted}
use Rattle.tree_drops.proofs.Heads.{head_now}

-- ---- the try failed

module _ (root : Root) (page : ChainPage) (at found : ℕ) (v u : View) (here : at ≡ page_at v.layout.slots page.slot 0)
    (looked : u ≡ read_at at found v) (other : found ≢ page.header) where
  pub tried_last : HasSeenLast u (record { word = at; seen = found; why = Changed page.header })
  tried_last = (v.steps, ap (λ (z : View). z.last) looked)

  pub tried_due : seen_at v.reads (page_at v.layout.slots page.slot 0) ≡ Some page.header → HasTurnedFrom u at found page.header
  tried_due seen = turned_from at page.header found v u other looked (ap (λ (p : ℕ). seen_at v.reads p) here ∙ seen)

  pub tried_keeper : v.role ≡ Keeper → u.role ≡ Keeper
  tried_keeper keeper = ap (λ (z : View). z.role) looked ∙ keeper

  pub tried_kept : (k : Kept) (w : View) → k ≡ record { word = at; seen = found; why = Changed page.header } → IsNoted k u w
      → HasWorked root page 0 (Err k) v w
  tried_kept k w is told = (
    keeps_noted (IsPageCause v.layout.slots root page v.pages) at found (Changed page.header) k v u w (chained_read at found v u looked)
        is told (inl (here, other)),
    reads_noted page.slot k v u w
        (reads_more page.slot 0 at found v v u (omega arith) here (reads_self page.slot v) (ap (λ (z : View). z.reads) looked)) told,
  )

-- ---- that of a split leaf

pub seal_missed : (t at expected found : ℕ) (v u : View) → found ≢ expected → SealIs t at expected v found u → u ≡ read_at at found v
seal_missed t at expected found v u other h =
    subst (λ c. MatchBool c (u ≡ sealed_at t at found v) (u ≡ read_at at found v)) (ne_eqb found expected other) h

pub can_seal : (page : ChainPage) (v : View) → v.role ≡ Keeper → IsTreeAt v page.slot page.span
    → ((x : Moved) × Contains v.moved x × (x.slot ≡ page.slot)) → page.header ≡ split_header → CanSeal v page.slot page.span page.header
can_seal page v keeper tree moved split = record {
  keeper = keeper;
  page = tree;
  moved = moved.0;
  has = moved.1;
  slot = moved.2;
  from = omega (arith, split);
  free = omega (arith, split);
}

pub seal_done : (root : Root) (page : ChainPage) (at found : ℕ) (v u : View) → at ≡ page_at v.layout.slots page.slot 0
    → page.header ≡ split_header → found ≡ page.header → SealIs page.slot at page.header v found u → HasWorked root page 0 (Ok Sealed) v u
seal_done root page at found v u here split same h =
    let is : u ≡ sealed_at page.slot at found v =
    subst (λ c. MatchBool c (u ≡ sealed_at page.slot at found v) (u ≡ read_at at found v)) (eq-eqb found page.header same) h in (
      record {
        on = subst (λ (z : View). ChainsOn v z) (sym is) record {
          chains = refl;
          later = omega arith;
          ways = λ x has. has;
          known = λ x has. has;
          moved = λ x has. has;
          inners = λ x has. has;
          versions = λ x has. has;
          leads = λ x has. has;
          touched = λ z has. inl has;
        };
        holds = record { grip = ap (λ (z : View). z.grip) is; ways = ap (λ (z : View). z.ways) is };
        kept = ap (λ (z : View). z.kept) is;
        locks = ap (λ (z : View). z.seat.locks) is;
        took = ap (λ (z : View). z.took) is;
        heads = ap (λ (z : View). z.heads) is;
        sealed = ap (λ (z : View). z.sealed) is;
        reads = reads_more page.slot 0 at (found + lock_bit) v v u (omega arith) here (reads_self page.slot v)
            (ap (λ (z : View). z.reads) is);
      },
      omega (arith, split),
      refl,
    )

-- ---- that of a leaf

count_back : (n : ℕ) → n ≤ 16 → count_of (open_word n) ≡ n
count_back n few = omega (arith, few)

pub lock_done : (root : Root) (page : ChainPage) (at found : ℕ) (v u : View) → at ≡ page_at v.layout.slots page.slot 0
    → page.header < 2 ^ 60 → found ≡ page.header → HeadLocked page.slot page.span at page.header v found u
    → HasWorked root page 0 (Ok Headed) v u
lock_done root page at found v u here low same h =
    let x = head_now page.slot at page.header found page.span v u same h in
    let few = x.are.few in (
      record {
        on = subst (λ (z : View). ChainsOn v z) (sym x.is) record {
          chains = refl;
          later = omega arith;
          ways = λ y has. has;
          known = λ y has. in_tail y (record { slot = page.slot; keys = x.keys }) v.known has;
          moved = λ y has. has;
          inners = λ y has. has;
          versions = λ y has. has;
          leads = λ y has. has;
          touched = λ z has. inl has;
        };
        holds = record { grip = ap (λ (z : View). z.grip) x.is; ways = ap (λ (z : View). z.ways) x.is };
        kept = ap (λ (z : View). z.kept) x.is;
        locks = ap (λ (z : View). z.seat.locks) x.is;
        took = ap (λ (z : View). z.took) x.is;
        sealed = ap (λ (z : View). z.sealed) x.is;
        head = record { slot = page.slot; keys = x.keys; words = x.words };
        heads = ap (λ (z : View). z.heads) x.is;
        slot = refl;
        knows = subst (λ (z : View). Contains z.known (record { slot = page.slot; keys = x.keys })) (sym x.is)
            (in_head (record { slot = page.slot; keys = x.keys }) v.known);
        are = record {
          long = sym (count_back (length x.keys) few) ∙ ap count_of (sym x.word ∙ same);
          few = let back = count_back (length x.keys) few in let long : count_of page.header ≡ length x.keys =
              ap count_of (sym same ∙ x.word) ∙ back in omega (arith, long, few);
          once = x.are.once;
          inside = x.are.inside;
        };
        word = sym same ∙ x.word;
        reads = reads_more page.slot 0 at (found + lock_bit) v v u (omega arith) here (reads_self page.slot v)
            (ap (λ (z : View). z.reads) x.is);
      },
      omega (arith, low),
      refl,
    )

-- ---- which page is next

-- an element of a list, and the one behind all
at_front : {A : Type 0} (xs ys : List A) (i : ℕ) (z : A) → slice_get xs i ≡ Some z → slice_get (xs ++ ys) i ≡ Some z
at_front [] ys i z at = absurd (cc)
at_front (x ∷ xs) ys zero z at = at
at_front (x ∷ xs) ys (suc i) z at = at_front xs ys i z at

at_end : {A : Type 0} (xs : List A) (y : A) (i : ℕ) → i ≡ length xs → slice_get (xs ++ y ∷ []) i ≡ Some y
at_end [] y zero same = refl
at_end [] y (suc i) same = absurd (omega (arith, same))
at_end (x ∷ xs) y zero same = absurd (omega (arith, same))
at_end (x ∷ xs) y (suc i) same = at_end xs y i (omega (arith, same))

-- the first page of a chain stands behind its halves
pub page_first : (root : Root) (halves : List Half) (headers : List ℕ) (i : ℕ) → length headers ≡ length halves → i ≡ length halves
    → IsThatPage root halves headers i (record { slot = root.slot; span = (root.target).span; header = split_header })
page_first root halves headers i same end = record {
  half = first_page root.slot (keys_in root);
  at = record {
    page = at_end halves (first_page root.slot (keys_in root)) i end;
    header = at_end headers split_header i (end ∙ sym same);
  };
  slot = refl;
  span = refl;
}

-- a half is itself
pub page_half : (root : Root) (halves : List Half) (headers : List ℕ) (i : ℕ) (d : Half) (n : ℕ) → length headers ≡ length halves
    → i < length halves
    → IsThatPage root halves headers i (record {
      slot = (get_or halves i d).slot;
      span = record { storage = (root.target).span.storage; low = (get_or halves i d).low; high = (get_or halves i d).high };
      header = get_or headers i n;
    })
page_half root halves headers i d n same less = record {
  half = get_or halves i d;
  at = record {
    page = at_front halves (first_page root.slot (keys_in root) ∷ []) i (get_or halves i d) (slice_get-get_or halves i d less);
    header = at_front headers (split_header ∷ []) i (get_or headers i n)
        (slice_get-get_or headers i n (omega (arith, same, less)));
  };
  slot = refl;
  span = refl;
}
