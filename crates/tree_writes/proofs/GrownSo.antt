-- A leaf that got the key for a write, as the calls tell it.
use Rattle.std.proofs.Common.{◌≡◌, inl, inr, ℕ, ◌+◌, ◌≤◌, true, false, sym, ap, ◌∙◌, subst}
use Rattle.std.proofs.Common.{arith}
use Rattle.std.specs.Prelude.{Ok}
use Rattle.serial_model.specs.declared.key.Key.{Key}
use Rattle.homes.specs.Homes.{has_key}
use Rattle.tx_sets.specs.declared.sets.Sets.{Sets}
use Rattle.tx_sets.specs.Entries.{has_word, renewed}
use Rattle.tx_sets.specs.Gathered.{has_read_room}
use Rattle.engine_pages.specs.declared.view.RefusalCause.{RefusalCause}
use Rattle.engine_pages.specs.declared.view.RefusalCause.TheVariants as refusals
use Rattle.engine_pages.specs.declared.view.View.{View}
use Rattle.engine_pages.specs.Layout.{page_at}
use Rattle.foster_tree.specs.Adding.{HasKeyPut, RefusesAdd}
use Rattle.tree_walks.specs.declared.ways.Leaf.{Leaf}
use Rattle.tree_walks.specs.Ways.{IsLeafOn}
use Rattle.page_commit.specs.Live.{IsLive}
use Rattle.tree_writes.specs.Causes.{names_page}
use Rattle.tree_writes.specs.Writing.{GrowsSo, HasBrought, HasRenewed, HasSplitFor, KeepsAdded}
use Rattle.tree_writes.proofs.AddedHere.{bare_brought, kept_brought}
use Rattle.tree_writes.proofs.NamedLaws.{names_same}
use Rattle.tree_writes.proofs.SplitHere.{split_brought}

-- ---- the key was added

pub added_grows : (sets new : Sets) (k : Key) (x : Leaf) (at head : ℕ) (v w : View) → IsLive sets v
    → (on : IsLeafOn k sets.headers x v) → has_key on.leaf.keys k ≡ false → HasKeyPut x.slot x.span k x.header at v w
    → head ≡ page_at v.layout.slots x.slot 0 → (has_word head sets.headers ≡ true → has_read_room sets ≡ true)
    → KeepsAdded k at head (x.header + 1) sets new → GrowsSo k sets new (Ok at) v w
added_grows sets new k x at head v w live on lacks p is room kept = record {
  came = elim kept [
    | inl none ↦
        subst (λ (s : Sets). HasBrought k at sets s v w) (sym none.1)
        (bare_brought sets v w k x at live on lacks p (ap (λ (n : ℕ). has_word n sets.headers) (sym is) ∙ none.0))
    | inr some ↦ renewed_so some
  ];
  cause = tt;
  refused = tt;
  most = let e : w.steps ≡ v.steps + 5 = ap (λ (z : View). z.steps) p.is in omega (arith, e);
}
  where
    renewed_so : HasRenewed k at head (x.header + 1) sets new → HasBrought k at sets new v w
    renewed_so r =
        kept_brought sets v w k x at live on lacks p new
        (ap (λ (n : ℕ). has_word n sets.headers) (sym is) ∙ r.has) r.reads r.pointers
        (r.headers ∙ ap (λ (n : ℕ). renewed n (x.header + 1) sets.headers) is) r.writes r.holds (room r.has)

pub added_steps : (why : RefusalCause) (t word : ℕ) (v w : View) → RefusesAdd t word why v w → w.steps ≤ v.steps + 1
added_steps (refusals.Conflict at expected seen) t word v w r =
    let e : w.steps ≡ v.steps + 1 = ap (λ (z : View). z.steps) r.2 in omega (arith, e)
added_steps (refusals.Full held) t word v w r = absurd r
added_steps (refusals.Wide set) t word v w r = absurd r
added_steps (refusals.NumberLimit clock) t word v w r = absurd r

-- ---- the leaf was split

pub split_grows : (sets new : Sets) (k : Key) (x : Leaf) (at head : ℕ) (v w : View) → HasSplitFor k x at sets new v w
    → head ≡ page_at v.layout.slots x.slot 0 → names_page head new ≡ false → GrowsSo k sets new (Ok at) v w
split_grows sets new k x at head v w s is unnamed = record {
  came = split_brought sets new v w k x at s.live s.on s.split s.now
      (ap (λ (n : ℕ). names_page n sets) (sym is)
      ∙ (sym (names_same head sets new s.others.reads s.others.headers s.others.writes) ∙ unnamed))
      s.others.reads s.others.pointers s.others.headers s.others.writes;
  cause = tt;
  refused = tt;
  most = let few = s.split.most in omega (arith, few);
}
