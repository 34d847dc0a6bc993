-- A chain that is too long is kept: the header of its first page is loaded again, and that is noted.
use Rattle.std.proofs.Common.{◌≡◌, ◌⊎◌, inl, inr, ℕ, Bool, true, false, List, [], ◌∷◌, ◌++◌, refl, sym, ap, ◌∙◌, arith}
use Rattle.std.specs.Prelude.{MatchBool, nat_lt}
use Rattle.std.specs.List.{Contains}
use Rattle.lists.specs.Elements.{in_cases, in_none}
use Rattle.homes.specs.declared.places.Span.{Span}
use Rattle.drop_core.specs.Event.{lower_span, upper_span}
use Rattle.drop_core.specs.Table.{has_slot}
use Rattle.engine_pages.specs.declared.view.KeptPage.{KeptPage}
use Rattle.engine_pages.specs.declared.view.KeptWhy.{KeptWhy}
use Rattle.engine_pages.specs.declared.view.KeptWhy.TheVariants.{Long}
use Rattle.engine_pages.specs.declared.view.Moved.{Moved}
use Rattle.engine_pages.specs.declared.view.Role.TheVariants.{Keeper}
use Rattle.engine_pages.specs.declared.view.View.{View}
use Rattle.engine_pages.specs.declared.view.Way.{Way}
use Rattle.engine_pages.specs.Layout.{page_at}
use Rattle.engine_pages.specs.Steps.{read_at, with_read}
use Rattle.tree_heads.specs.Headers.{moved_locked, twin_ways, HasTwinWays, MetAgain}
use Rattle.page_drops.specs.declared.noting.Kept.{Kept}
use Rattle.page_drops.specs.Works.{HasSeenLast, IsNoted}
use Rattle.page_drops.proofs.Entries.{reads_more, reads_noted, reads_self}
use Rattle.tree_drops.specs.declared.taking.Root.{Root}
use Rattle.tree_drops.specs.Releases.{HasKeptLong, IsLongSo}
use Rattle.tree_drops.specs.Taking.{keys_in}
use Rattle.tree_drops.proofs.Chaining.{chain_then, chained_self, keeps_noted, role_chained}
use Rattle.tree_drops.proofs.HalvesHeld.{added_by, chain_entering, entering_read, entering_twins, ways_added, Entering}

-- what a look at the header of a split leaf leaves
pub record HasMetSo (at n : ℕ) (x : Moved) (v w : View) : Type 0 where
  pub enters : Entering v w
  pub added : List Way
  pub ways : w.ways ≡ added ++ v.ways
  pub ours : (y : Way) → Contains added y → (y.slot ≡ x.minor) ⊎ (y.slot ≡ x.major)
  pub grip : w.grip ≡ v.grip
  pub reads : w.reads ≡ with_read v.reads at n
  pub kept : w.kept ≡ v.kept
  pub last : (why : KeptWhy) → HasSeenLast w (record { word = at; seen = n; why = why })

added_slot : (b c : Bool) (m k : ℕ) (one two : Span) (y : Way) → Contains (added_by b m one ++ added_by c k two) y
    → (y.slot ≡ m) ⊎ (y.slot ≡ k)
added_slot true true m k one two y has =
    elim (in_cases y (record { slot = m; span = one }) (record { slot = k; span = two } ∷ []) has) [
      | inl same ↦ inl (sym (ap (λ (z : Way). z.slot) same))
      | inr more ↦ elim (in_cases y (record { slot = k; span = two }) [] more) [
        | inl same ↦ inr (sym (ap (λ (z : Way). z.slot) same))
        | inr none ↦ absurd (in_none y none)
      ]
    ]
added_slot true false m k one two y has = elim (in_cases y (record { slot = m; span = one }) [] has) [
  | inl same ↦ inl (sym (ap (λ (z : Way). z.slot) same))
  | inr none ↦ absurd (in_none y none)
]
added_slot false true m k one two y has = elim (in_cases y (record { slot = k; span = two }) [] has) [
  | inl same ↦ inr (sym (ap (λ (z : Way). z.slot) same))
  | inr none ↦ absurd (in_none y none)
]
added_slot false false m k one two y has = absurd (in_none y has)

met_twins : (at n : ℕ) (sp : Span) (x : Moved) (v w : View) → w ≡ twin_ways x sp (read_at at n v) → HasMetSo at n x v w
met_twins at n sp x v w is = record {
  enters = entering_twins x sp at n v w is;
  added = added_by (has_slot v.grip.holds x.minor) x.minor (lower_span sp x.separator)
      ++ added_by (has_slot v.grip.holds x.major) x.major (upper_span sp x.separator);
  ways = ap (λ (z : View). z.ways) is
      ∙ ways_added (has_slot v.grip.holds x.minor) (has_slot v.grip.holds x.major) x.minor x.major (lower_span sp x.separator)
      (upper_span sp x.separator) v.ways;
  ours = added_slot (has_slot v.grip.holds x.minor) (has_slot v.grip.holds x.major) x.minor x.major (lower_span sp x.separator)
      (upper_span sp x.separator);
  grip = ap (λ (z : View). z.grip) is;
  reads = ap (λ (z : View). z.reads) is;
  kept = ap (λ (z : View). z.kept) is;
  last = λ why. (v.steps, ap (λ (z : View). z.last) is);
}

met_read : (at n : ℕ) (x : Moved) (v w : View) → w ≡ read_at at n v → HasMetSo at n x v w
met_read at n x v w is = record {
  enters = entering_read at n v w is;
  added = [];
  ways = ap (λ (z : View). z.ways) is;
  ours = λ y has. absurd (in_none y has);
  grip = ap (λ (z : View). z.grip) is;
  reads = ap (λ (z : View). z.reads) is;
  kept = ap (λ (z : View). z.kept) is;
  last = λ why. (v.steps, ap (λ (z : View). z.last) is);
}

pub met_so : (t at n : ℕ) (sp : Span) (x : Moved) (v w : View) → Contains v.moved x → x.slot ≡ t → MetAgain t sp at v n w
    → HasMetSo at n x v w
met_so t at n sp x v w has slot (moved, h) = by_test (nat_lt n moved_locked) h
  where
    by_test : (b : Bool) → MatchBool b (HasTwinWays t sp at v n w) (w ≡ read_at at n v) → HasMetSo at n x v w
    by_test true twins = met_twins at n sp x v w (twins.is x has slot)
    by_test false is = met_read at n x v w is

pub long_last : (root : Root) (at n : ℕ) (v u : View) → (x : Moved) × Contains v.moved x × (x.slot ≡ root.slot)
    → MetAgain root.slot (keys_in root) at v n u → HasSeenLast u (record { word = at; seen = n; why = Long })
long_last root at n v u known met = (met_so root.slot at n (keys_in root) known.0 v u known.1 known.2 met).last Long

pub long_keeper : (root : Root) (at n : ℕ) (v u : View) → (x : Moved) × Contains v.moved x × (x.slot ≡ root.slot)
    → MetAgain root.slot (keys_in root) at v n u → v.role ≡ Keeper → u.role ≡ Keeper
long_keeper root at n v u known met keeper =
    role_chained v u (chain_entering v u (met_so root.slot at n (keys_in root) known.0 v u known.1 known.2 met).enters).on ∙ keeper

pub long_kept : (root : Root) (at n : ℕ) (k : Kept) (v u w : View) → (x : Moved) × Contains v.moved x × (x.slot ≡ root.slot)
    → at ≡ page_at v.layout.slots root.slot 0 → MetAgain root.slot (keys_in root) at v n u
    → k ≡ record { word = at; seen = n; why = Long } → IsNoted k u w → (x : Moved) → Contains v.moved x → x.slot ≡ root.slot
    → HasKeptLong root x k v w
long_kept root at n k v u w known place met is told x has slot =
    let m = met_so root.slot at n (keys_in root) x v u has slot met in
    let high = met.0 in
    let so : IsLongSo v.layout.slots root Long at n = (refl, place, omega (arith, high)) in
    let note = keeps_noted (IsLongSo v.layout.slots root) at n Long k u u w (chained_self u) is told so in record {
      looks = chain_then v u w (chain_entering v u m.enters) note.looks;
      grip = note.holds.grip ∙ m.grip;
      added = m.added;
      ways = note.holds.ways ∙ m.ways;
      ours = m.ours;
      kept = record {
        page = note.kept.page;
        is = note.kept.is ∙ ap (λ (l : List KeptPage). l ++ note.kept.page ∷ []) m.kept;
        told = note.kept.told;
        so = note.kept.so;
      };
      reads = reads_noted root.slot k v u w (reads_more root.slot 0 at n v v u (omega arith) place (reads_self root.slot v) m.reads) told;
    }
