-- The newest snapshot of what is handed on.
use Rattle.std.proofs.Common.{◌≡◌, ◌∙◌, ◌+◌, ◌<◌, ◌≤◌, ℕ, List, [], ◌∷◌, ◌++◌, Option, Some, None, length, refl, sym}
use Rattle.std.proofs.Common.{ap, subst, arith, inl, inr}
use Rattle.std.specs.Prelude.{IfNone, IfSome, cond, map}
use Rattle.std.specs.FinMap.{get}
use Rattle.std.specs.List.{AllByRecursion}
use Rattle.std.specs.List.Sorted.{IsPermutation}
use Rattle.std.proofs.lemmas.Bool.{cases_lt}
use Rattle.std.proofs.lemmas.List.Elements.{All-from_recursion, recursion_from_All}
use Rattle.std.proofs.lemmas.List.Sorted.{All-permutation, length_permutation}
use Rattle.lists.specs.Each.{all_weaker}
use Rattle.lists.specs.Elements.{in_cases, in_none}
use Rattle.serial_model.specs.Decls.{AreDecls, IsDecl}
use Rattle.serial_model.specs.Keys.{id_of}
use Rattle.serial_model.specs.State.{State}
use Rattle.serial_model.specs.declared.decl.Decl.{Decl}
use Rattle.serial_model.specs.declared.decl.Decl.TheVariants.{Array, Tree}
use Rattle.serial_model.specs.declared.key.Key.{Key}
use Rattle.wire_form.specs.Items.{Rises}
use Rattle.wire_form.specs.Pages.{Contents, catalogue_words}
use Rattle.wire_form.specs.declared.page.Page.{Page}
use Rattle.wire_form.specs.declared.records.Stored.{Stored}
use Rattle.log_writer.specs.Points.{point_of}
use Rattle.log_writer.specs.declared.saved.Saved.{Saved}
use Rattle.snapshot_store.specs.Content.{IsContent, RootStands, SnapshotStands, deepest, format_of, record_in}
use Rattle.snapshot_store.specs.Content.{root_place, value_at, words_of}
use Rattle.snapshot_store.specs.Places.{Found, find}
use Rattle.recovery_core.specs.Catalogues.{AreCatalogues, newest_decls, newest_epoch, newest_storages}
use Rattle.recovery_core.specs.EmptyLaws.{empty_stands}
use Rattle.checkpoints.specs.FreshLaws.{first_saved}
use Rattle.recovery_core.specs.NewestSnapshot.{AreUpTo, IsNewestSnapshot}
use Rattle.recovery_core.specs.Recoverable.{value_over}
use Rattle.recovery_core.specs.Recovered.{HasSnapshots, IsUp}
use Rattle.checkpoints.specs.SettlePages.{begins_empty, first_contents, is_first_catalogue, same_decls, without_root}
use Rattle.checkpoints.specs.Settled.{settled_pages, settled_saved}
use Rattle.checkpoints.specs.SettledLaws.{no_first_value}
use Rattle.recovery_core.specs.SnapshotPages.{RootStandsUpTo, epoch_in}
use Rattle.recovery_core.specs.declared.recovered.Recovered.{Recovered}
use Rattle.checkpoints.specs.declared.without_entries.Settled.{Settled}
use Rattle.checkpoints.specs.Bounded.{IsUpTo, found_up_to, le_no, le_yes, stands_plain}
use Rattle.checkpoints.specs.Due.{NoneCount}
use Rattle.checkpoints.specs.SettlesInto.{HasNewest}
use Rattle.checkpoints.proofs.DueLemmas.{newest_of, ranges_of, stand_of}
use Rattle.checkpoints.proofs.NextState.{IsNext, all_pages, newest, next_decls, next_state, roots}

-- ---- numbers

-- pages up to an epoch have no later record
root_up_to : (epoch : ℕ) (pages : List (List ℕ)) (s : Stored) (key : ℕ) (found : Found)
    → RootStandsUpTo epoch pages s → record_in pages s key ≡ Some found → epoch_in found.number ≤ epoch
root_up_to epoch pages s key found stands at =
    elim (cases_lt (root_place s.decl s.root).high key) [
      | inl past ↦ absurd (
          let none : ◌≡◌ {A = Option Found} None (Some found) =
          sym (ap (λ b. cond b (find (format_of s.decl) pages deepest key (root_place s.decl s.root)) None)
          (le_no key (root_place s.decl s.root).high past)) ∙ at in
          cc
          )
      | inr within ↦ subst (IsUpTo epoch)
          (sym (ap (λ b. cond b (find (format_of s.decl) pages deepest key (root_place s.decl s.root)) None)
          (le_yes key (root_place s.decl s.root).high within)) ∙ at)
          (found_up_to epoch s.decl pages deepest (root_place s.decl s.root) stands key
          (from_first s.decl s.root key) within)
    ]
  where
    from_first : (d : Decl) (root key : ℕ) → (root_place d root).low ≤ key
    from_first (Array id size) root key = omega arith
    from_first (Tree id) root key = omega arith

all_up_to : (epoch : ℕ) (pages : List (List ℕ)) (ss : List Stored) → AllByRecursion (RootStandsUpTo epoch pages) ss
    → AreUpTo epoch pages ss
all_up_to epoch pages [] stands s has key found at = absurd (in_none s has)
all_up_to epoch pages (t ∷ ts) stands s has key found at = elim (in_cases s t ts has) [
  | inl here ↦ root_up_to epoch pages s key found (subst (RootStandsUpTo epoch pages) here stands.0) at
  | inr later ↦ all_up_to epoch pages ts stands.1 s later key found at
]

-- ---- the first one of all

-- storages without pages stand
no_pages_up_to : (pages : List (List ℕ)) (decls : List Decl)
    → AllByRecursion (RootStandsUpTo 0 pages) (map without_root decls)
no_pages_up_to pages [] = tt
no_pages_up_to pages (d ∷ ds) = (empty_stands pages 0 d, no_pages_up_to pages ds)

plain_roots : (epoch : ℕ) (pages : List (List ℕ)) (ss : List Stored) → AllByRecursion (RootStandsUpTo epoch pages) ss
    → AllByRecursion (RootStands pages) ss
plain_roots epoch pages ss stands = all_weaker (RootStandsUpTo epoch pages) (RootStands pages)
    (λ t. stands_plain epoch t.decl pages deepest (root_place t.decl t.root)) ss stands

first_stands : (decls : List Decl) → length decls ≤ 16 → AllByRecursion IsDecl decls → Rises ◌<◌ (map id_of decls)
    → SnapshotStands (catalogue_words (first_contents decls) ∷ []) 1 (first_contents decls)
first_stands decls few each rising = record {
  here = record {
    there = omega arith;
    catalogue = is_first_catalogue decls few each rising;
    words = refl;
  };
  roots = plain_roots 0 (catalogue_words (first_contents decls) ∷ []) (map without_root decls)
      (no_pages_up_to (catalogue_words (first_contents decls) ∷ []) decls);
}

-- and no key has a value in them
first_content : (decls : List Decl) (state : State) → ((key : Key) → get state key ≡ None)
    → IsContent (record_in (catalogue_words (first_contents decls) ∷ [])) (map without_root decls) state
first_content decls state none key =
    none key ∙ sym (no_first_value (point_of 1 first_saved) (first_contents decls) key (begins_empty decls))

first_newest : (decls : List Decl) (state : State) (saved : ℕ) → length decls ≤ 16 → AllByRecursion IsDecl decls
    → Rises ◌<◌ (map id_of decls) → ((key : Key) → get state key ≡ None)
    → IsNewestSnapshot (catalogue_words (first_contents decls) ∷ []) 1 decls state saved (first_contents decls)
first_newest decls state saved few each rising none = record {
  stands = first_stands decls few each rising;
  decls_are = sym (same_decls decls);
  up_to = omega arith;
  older = all_up_to 0 (catalogue_words (first_contents decls) ∷ []) (map without_root decls)
      (no_pages_up_to (catalogue_words (first_contents decls) ∷ []) decls);
  content = first_content decls state none;
}

-- ---- what stays as it was read

-- a snapshot on pages that are these ones
on_pages : (pages : List (List ℕ)) (all : List Page) (number : ℕ) (decls : List Decl) (state : State) (saved : ℕ)
    (c : Contents) → words_of all ≡ pages → length all ≡ number
    → IsNewestSnapshot pages number decls state saved c
    → IsNewestSnapshot (words_of all) (length all) decls state saved c
on_pages pages all number decls state saved c words size is =
    subst (λ n. IsNewestSnapshot (words_of all) n decls state saved c) (sym size)
    (subst (λ ws. IsNewestSnapshot ws number decls state saved c) (sym words) is)

by_fresh : (r : Recovered) (s : Settled) (given : List Decl) → IsUp r → r.saved ≡ None → AreDecls given
    → s.saved ≡ settled_saved None
    → words_of s.store.pages ≡ catalogue_words (first_contents s.decls) ∷ [] → length s.store.pages ≡ s.saved.count
    → s.state ≡ r.state → IsPermutation given s.decls → Rises ◌<◌ (map id_of s.decls) → HasNewest s
by_fresh r s given up says are saved pages count state same rising =
    let few : length s.decls ≤ 16 = (let all = are.few in omega (arith, length_permutation given s.decls same)) in
    let each : AllByRecursion IsDecl s.decls = recursion_from_All IsDecl s.decls
    (All-permutation IsDecl given s.decls same (All-from_recursion IsDecl given are.each)) in
    let one : length s.store.pages ≡ 1 = count ∙ ap (λ (x : Saved). x.count) saved in
    let fresh : HasSnapshots r None = subst (HasSnapshots r) says up.snapshots in (
      first_contents s.decls,
      on_pages (catalogue_words (first_contents s.decls) ∷ []) s.store.pages 1 s.decls s.state s.saved.epoch
          (first_contents s.decls) pages one
          (first_newest s.decls s.state s.saved.epoch few each rising
          (λ key. ap (λ (t : State). get t key) state ∙ fresh.2 key)),
    )

by_read : (r : Recovered) (s : Settled) (p : Saved) → IsUp r → r.saved ≡ Some p → NoneCount r
    → s.saved ≡ settled_saved (Some p)
    → words_of s.store.pages ≡ words_of r.store.pages → length s.store.pages ≡ s.saved.count → s.state ≡ r.state
    → s.decls ≡ r.decls → HasNewest s
by_read r s p up says none saved pages count state decls =
    let stand = stand_of r p up says in
    let ranges = ranges_of r p up says in
    let old = words_of r.store.pages in
    let top = newest_of old (p.epoch + 1) p.catalogue stand.catalogues ranges.catalogue stand.chain in
    let c : Contents = top.0 in
    let stands : AllByRecursion (RootStandsUpTo c.epoch old) c.storages =
    subst (λ cs. AllByRecursion (RootStandsUpTo (newest_epoch cs) old) (newest_storages cs)) top.2 stand.stands in
    let chain = subst (λ cs. newest_epoch cs ≤ p.epoch) top.2 (newest_below stand.catalogues stand.chain) in
    let number : length s.store.pages ≡ p.catalogue =
    count ∙ ap (λ (x : Saved). x.count) saved ∙ sym ranges.newest in (
      c,
      on_pages old s.store.pages p.catalogue s.decls s.state s.saved.epoch c pages number (record {
        stands = record { here = top.3; roots = plain_roots c.epoch old c.storages stands };
        decls_are = decls ∙ stand.decls ∙ ap newest_decls top.2;
        up_to = omega (arith, chain, ap (λ (x : Saved). x.epoch) saved);
        older = all_up_to c.epoch old c.storages stands;
        content = λ key.
            ap (λ (t : State). get t key) state
            ∙ stand.state key
            ∙ ap (λ e. value_over e (value_at (record_in old) (newest_storages stand.catalogues) key)) (none key)
            ∙ ap (λ cs. value_at (record_in old) (newest_storages cs) key) top.2;
      }),
    )
  where
    newest_below : (cs : List Contents) → AreCatalogues (words_of r.store.pages) (p.epoch + 1) None p.catalogue cs
        → newest_epoch cs ≤ p.epoch
    newest_below [] chain = omega arith
    newest_below (c ∷ cs) chain = omega (arith, chain.1.epoch)

-- where no entry counts
pub plain_newest : (r : Recovered) (s : Settled) (given : List Decl) → IsUp r → AreDecls given → NoneCount r
    → s.saved ≡ settled_saved r.saved
    → words_of s.store.pages ≡ settled_pages r.saved (words_of r.store.pages) s.decls
    → length s.store.pages ≡ s.saved.count → s.state ≡ r.state → IfNone r.saved (IsPermutation given s.decls)
    → IfSome r.saved (λ _. s.decls ≡ r.decls) → Rises ◌<◌ (map id_of s.decls) → HasNewest s
plain_newest r s given up are none saved pages count state declared kept rising =
    of r.saved refl saved pages declared kept
  where
    of : (o : Option Saved) → r.saved ≡ o → s.saved ≡ settled_saved o
        → words_of s.store.pages ≡ settled_pages o (words_of r.store.pages) s.decls
        → IfNone o (IsPermutation given s.decls) → IfSome o (λ _. s.decls ≡ r.decls) → HasNewest s
    of None says saved pages declared kept = by_fresh r s given up says are saved pages count state declared rising
    of (Some p) says saved pages declared kept = by_read r s p up says none saved pages count state kept

-- ---- what was composed

pub composed_newest : (r : Recovered) (p : Saved) (made : List (List ℕ)) (all pages : List Page) (epoch : ℕ)
    → IsNext r p made all → pages ≡ all → epoch ≡ r.epoch
    → (contents : Contents) × IsNewestSnapshot (words_of pages) (length pages) r.decls r.state epoch contents
composed_newest r p made all pages epoch next same epoch_is =
    let old = words_of r.store.pages in
    let words : words_of pages ≡ old ++ made = ap words_of same ∙ next.words in
    let number : length pages ≡ length old + length made =
    ap length same ∙ all_pages r p made all next in
    let c : Contents = newest r p made all next in (
      c,
      on_pages (old ++ made) pages (length old + length made) r.decls r.state epoch c words number (record {
        stands = next.next.composed.stands;
        decls_are = next_decls r p made all next;
        up_to = omega (arith, epoch_is);
        older = all_up_to r.epoch (old ++ made) c.storages (roots r p made all next);
        content = λ key. next_state r p made all next key
            ∙ ap (λ ws. value_at (record_in ws) c.storages key) next.words;
      }),
    )
