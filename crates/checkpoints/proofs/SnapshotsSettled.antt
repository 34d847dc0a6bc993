-- A settling keeps the snapshots, and makes one at most, of what was kept.
use Rattle.std.proofs.Common.{◌≡◌, ℕ, ◌+◌, ◌≤◌, List, [], ◌∷◌, ◌++◌, Option, Some, None, inl, inr, refl, sym, ap}
use Rattle.std.proofs.Common.{subst, ◌∙◌, length, arith}
use Rattle.std.specs.FinMap.{get}
use Rattle.std.specs.List.{AllByRecursion, Contains}
use Rattle.std.specs.Option.{option_map}
use Rattle.std.proofs.lemmas.List.{length-append, length-map}
use Rattle.lists.specs.Elements.{in_none, in_tail, in_cases}
use Rattle.log_writer.specs.declared.vault.Vault.{Vault}
use Rattle.serial_model.specs.State.{State}
use Rattle.serial_model.specs.declared.decl.Decl.{Decl}
use Rattle.wire_form.specs.ContentLaws.{one_catalogue}
use Rattle.wire_form.specs.Pages.{Contents, decls_of}
use Rattle.wire_form.specs.declared.page.Page.{Page}
use Rattle.wire_form.specs.declared.savepoint.Savepoint.{Savepoint}
use Rattle.log_writer.specs.Points.{saved_of}
use Rattle.log_writer.specs.declared.saved.Saved.{Saved}
use Rattle.snapshot_store.specs.Content.{words_of, record_in, value_at, IsContent, RootStands, CatalogueAt}
use Rattle.snapshot_store.specs.ContentLaws.{catalogue-append, content-append, snapshot_stands-append}
use Rattle.root_composer.specs.Composition.{next_contents}
use Rattle.recovery_core.specs.Catalogues.{AreCatalogues, newest_storages}
use Rattle.joint_crashes.specs.Images.{Images}
use Rattle.recovery_core.specs.Recoverable.{Reading, ReadsBy, ReadsFresh, ReadsSaved}
use Rattle.recovery_core.specs.Recovered.{IsUp, Recovers, saved_epoch}
use Rattle.checkpoints.specs.SettleFresh.{none_says}
use Rattle.checkpoints.specs.SettleLaws.{point_says}
use Rattle.checkpoints.specs.Settled.{SaysSettled, settled_saved, settled_pages}
use Rattle.recovery_core.specs.declared.recovered.Recovered.{Recovered}
use Rattle.checkpoints.specs.declared.without_entries.Settled.{Settled}
use Rattle.checkpoints.specs.SettlesInto.{Follows, IsComposedInto, SettlesInto, StaysAsRead}
use Rattle.recovery_core.specs.SnapshotsKept.{KeepsSnapshots, first_snapshot, same_snapshots}

-- ---- chains of catalogues

-- catalogues from a page back are one list, whatever the newest has to be
one_chain_any : (pages : List (List ℕ)) (limit other : ℕ) (declared others : Option (List Decl)) (number : ℕ)
    (a b : List Contents) → AreCatalogues pages limit declared number a → AreCatalogues pages other others number b
    → a ≡ b
one_chain_any pages limit other declared others number [] [] p q = refl
one_chain_any pages limit other declared others number [] (d ∷ ds) p q = absurd (omega (arith, p, q.0))
one_chain_any pages limit other declared others number (c ∷ cs) [] p q = absurd (omega (arith, q, p.0))
one_chain_any pages limit other declared others number (c ∷ cs) (d ∷ ds) p q =
    let same : c ≡ d = one_catalogue number c d p.1.here.catalogue q.1.here.catalogue
    (sym p.1.here.words ∙ q.1.here.words) in
    let rest = one_chain_any pages c.epoch c.epoch (Some (decls_of c)) (Some (decls_of c)) c.previous cs ds p.2
    (subst (λ (x : Contents). AreCatalogues pages x.epoch (Some (decls_of x)) x.previous ds) (sym same) q.2) in
    ap (λ x. x ∷ cs) same ∙ ap (λ xs. d ∷ xs) rest

-- catalogues stay, whatever pages are added
chain_stays : (pages more : List (List ℕ)) (limit : ℕ) (declared : Option (List Decl)) (number : ℕ)
    (cs : List Contents) → AreCatalogues pages limit declared number cs
    → AreCatalogues (pages ++ more) limit declared number cs
chain_stays pages more limit declared number [] chain = chain
chain_stays pages more limit declared number (c ∷ cs) chain = (
  chain.0,
  record {
    here = catalogue-append pages more number c chain.1.here;
    epoch = chain.1.epoch;
    decls = chain.1.decls;
    first = chain.1.first;
  },
  chain_stays pages more c.epoch (Some (decls_of c)) c.previous cs chain.2,
)

-- each stands on a page
here_of : (pages : List (List ℕ)) (limit : ℕ) (declared : Option (List Decl)) (number : ℕ) (cs : List Contents)
    (c : Contents) → AreCatalogues pages limit declared number cs → Contains cs c
    → (n : ℕ) × CatalogueAt pages n c
here_of pages limit declared number [] c chain has = absurd (in_none c has)
here_of pages limit declared number (d ∷ ds) c chain has =
    elim (in_cases c d ds has) [
      | inl here ↦ (number, subst (CatalogueAt pages number) here chain.1.here)
      | inr later ↦ here_of pages d.epoch (Some (decls_of d)) d.previous ds c chain.2 later
    ]

-- the newest of them, and the others
pub record Newest (pages : List (List ℕ)) (limit number : ℕ) (cs : List Contents) : Type 0 where
  pub newest : Contents
  pub older : List Contents
  pub are : cs ≡ newest ∷ older
  pub chain : AreCatalogues pages limit None number (newest ∷ older)

newest_of : (pages : List (List ℕ)) (limit number : ℕ) (cs : List Contents) → 1 ≤ number
    → AreCatalogues pages limit None number cs → Newest pages limit number cs
newest_of pages limit number [] some chain = absurd (omega (arith, some, chain))
newest_of pages limit number (c ∷ cs) some chain = record { newest = c; older = cs; are = refl; chain = chain }

-- ---- the three ways

-- one more was made, behind the others
pub one_more_snapshot : (was now : Reading) (epoch : ℕ) (state : State) (c : Contents) (more : List (List ℕ))
    (limit number : ℕ) → AreCatalogues was.pages limit None number was.catalogues → now.pages ≡ was.pages ++ more
    → now.catalogues ≡ c ∷ was.catalogues → c.epoch ≡ epoch → IsContent (record_in now.pages) c.storages state
    → KeepsSnapshots was now epoch state
one_more_snapshot was now epoch state c more limit number chain pages catalogues same content = record {
  each = λ d has. elim (in_cases d c was.catalogues (subst (λ cs. Contains cs d) catalogues has)) [
    | inl here ↦ inr (subst (λ (x : Contents). (x.epoch ≡ epoch) × IsContent (record_in now.pages) x.storages state)
        here (same, content))
    | inr later ↦ inl later
  ];
  stays = λ d has. subst (λ cs. Contains cs d) (sym catalogues) (in_tail d c was.catalogues has);
  content = λ d s has stands is.
      let at = here_of was.pages limit None number was.catalogues d chain has in
      let still = snapshot_stands-append was.pages more at.0 d (record { here = at.1; roots = stands }) in
      let kept = content-append was.pages more at.0 d s (record { here = at.1; roots = stands })
      (record { here = at.1; content = is }) in (
        subst (λ ws. AllByRecursion (RootStands ws) d.storages) (sym pages) still.roots,
        subst (λ ws. IsContent (record_in ws) d.storages s) (sym pages) kept.content,
      );
}

-- ---- a settling

no_older : (pages : List (List ℕ)) (limit : ℕ) (declared : Option (List Decl)) (number : ℕ) (cs : List Contents)
    → AreCatalogues pages limit declared number cs → number ≡ 0 → cs ≡ []
no_older pages limit declared number [] chain none = refl
no_older pages limit declared number (c ∷ cs) chain none = absurd (omega (arith, chain.0, none))

module _ {found now : Images} (r : Recovered) (s : Settled) (recovers : Recovers found r) (says : SaysSettled now s)
    (up : IsUp r) (tells : Some s.saved ≡ option_map saved_of s.save.newest) (some : 1 ≤ s.saved.catalogue)
    (state : s.state ≡ r.state) where
  abbrev was : Reading
  was = recovers.reading

  abbrev is : Reading
  is = says.reading

  -- the savepoint that was handed on
  pub record Handed : Type 0 where
    pub point : Savepoint
    pub saved : s.saved ≡ saved_of point
    pub reads : ReadsSaved now point is
    pub top : Newest is.pages (point.epoch + 1) point.catalogue is.catalogues
    pub content : IsContent (record_in is.pages) top.newest.storages r.state

  handed : Handed
  handed =
      let q = point_says s.save.newest s.saved tells in
      let reads : ReadsSaved now q.0 is = subst (λ x. ReadsBy now x is) (says.point ∙ q.1) says.is.counts in
      let number : s.saved.catalogue ≡ q.0.catalogue = ap (λ (x : Saved). x.catalogue) q.2 in
      let top = newest_of is.pages (q.0.epoch + 1) q.0.catalogue is.catalogues (subst (λ n. 1 ≤ n) number some)
      reads.snapshot.chain in
      record {
        point = q.0;
        saved = q.2;
        reads = reads;
        top = top;
        content = λ key. ap (λ (st : State). get st key) (sym state) ∙ says.state key
            ∙ ap (λ cs. value_at (record_in is.pages) (newest_storages cs) key) top.are;
      }

  -- the savepoint that was read
  pub record WasRead (p : Saved) : Type 0 where
    pub point : Savepoint
    pub of_point : p ≡ saved_of point
    pub reads : ReadsSaved found point was

  was_read : (p : Saved) → r.saved ≡ Some p → WasRead p
  was_read p here =
      let q = point_says r.save.newest p (sym here ∙ up.saved) in
      record {
        point = q.0;
        of_point = q.2;
        reads = subst (λ x. ReadsBy found x was) (sym recovers.point ∙ q.1) recovers.is.counts;
      }

  by_fresh : r.saved ≡ None → StaysAsRead r s → KeepsSnapshots was is r.epoch r.state
  by_fresh here stays =
      let h = handed in
      let none = none_says r.save.newest (sym here ∙ up.saved) in
      let fresh : ReadsFresh was = subst (λ x. ReadsBy found x was) (sym recovers.point ∙ none) recovers.is.counts in
      let number : h.point.catalogue ≡ 1 = sym (ap (λ (x : Saved). x.catalogue) h.saved)
      ∙ ap (λ (x : Saved). x.catalogue) (stays.saved ∙ ap settled_saved here) in
      let c = h.top.newest in
      let first : c.previous ≡ 0 = omega (arith, h.top.chain.1.here.catalogue.previous, number) in
      let begins = h.top.chain.1.first first in
      let older : h.top.older ≡ [] = no_older is.pages c.epoch (Some (decls_of c)) c.previous h.top.older
      h.top.chain.2 first in
      first_snapshot was is r.epoch r.state c fresh.catalogues (h.top.are ∙ ap (λ l. c ∷ l) older)
      (begins.epoch ∙ sym (up.epoch ∙ ap saved_epoch here)) h.content

  by_stays : (p : Saved) → r.saved ≡ Some p → StaysAsRead r s → KeepsSnapshots was is r.epoch r.state
  by_stays p here stays =
      let h = handed in
      let w = was_read p here in
      let pages : is.pages ≡ was.pages = sym says.pages ∙ stays.pages
      ∙ ap (λ o. settled_pages o (words_of r.store.pages) s.decls) here ∙ recovers.pages in
      let number : h.point.catalogue ≡ w.point.catalogue = sym (ap (λ (x : Saved). x.catalogue) h.saved)
      ∙ ap (λ (x : Saved). x.catalogue) (stays.saved ∙ ap settled_saved here)
      ∙ ap (λ (x : Saved). x.catalogue) w.of_point in
      let chain = subst (λ ws. AreCatalogues ws (w.point.epoch + 1) None h.point.catalogue was.catalogues) (sym pages)
      (subst (λ n. AreCatalogues was.pages (w.point.epoch + 1) None n was.catalogues) (sym number)
      w.reads.snapshot.chain) in
      same_snapshots was is r.epoch r.state pages
      (one_chain_any is.pages (h.point.epoch + 1) (w.point.epoch + 1) None None h.point.catalogue is.catalogues
      was.catalogues h.reads.snapshot.chain chain)

  by_composed : (p : Saved) → r.saved ≡ Some p → IsComposedInto r s p → KeepsSnapshots was is r.epoch r.state
  by_composed p here into =
      let h = handed in
      let w = was_read p here in
      let old = words_of r.store.pages in
      let c = h.top.newest in
      let next = next_contents r.epoch p.catalogue into.composed.storages in
      let pages : is.pages ≡ was.pages ++ into.made = sym says.pages ∙ into.pages
      ∙ ap (λ ws. ws ++ into.made) recovers.pages in
      let size : length s.store.pages ≡ length old + length into.made =
      sym (length-map s.store.pages (λ (x : Page). x.words)) ∙ ap length into.pages
      ∙ length-append old into.made in
      let number : h.point.catalogue ≡ length old + length into.made =
      sym (ap (λ (x : Saved). x.catalogue) h.saved) ∙ ap (λ (x : Saved). x.catalogue) into.saved ∙ size in
      let here_next : CatalogueAt is.pages h.point.catalogue next =
      subst (λ ws. CatalogueAt ws h.point.catalogue next) (sym into.pages ∙ says.pages)
      (subst (λ n. CatalogueAt (old ++ into.made) n next) (sym number) into.composed.stands.here) in
      let same : c ≡ next = one_catalogue h.point.catalogue c next h.top.chain.1.here.catalogue here_next.catalogue
      (sym h.top.chain.1.here.words ∙ here_next.words) in
      let before : w.point.catalogue ≡ c.previous = sym (ap (λ (x : Saved). x.catalogue) w.of_point)
      ∙ sym (ap (λ (x : Contents). x.previous) same) in
      let chain = subst (λ n. AreCatalogues is.pages (w.point.epoch + 1) None n was.catalogues) before
      (subst (λ ws. AreCatalogues ws (w.point.epoch + 1) None w.point.catalogue was.catalogues) (sym pages)
      (chain_stays was.pages into.made (w.point.epoch + 1) None w.point.catalogue was.catalogues
      w.reads.snapshot.chain)) in
      let older : h.top.older ≡ was.catalogues =
      one_chain_any is.pages c.epoch (w.point.epoch + 1) (Some (decls_of c)) None c.previous h.top.older
      was.catalogues h.top.chain.2 chain in
      one_more_snapshot was is r.epoch r.state c into.made (w.point.epoch + 1) w.point.catalogue
      w.reads.snapshot.chain pages (h.top.are ∙ ap (λ l. c ∷ l) older) (ap (λ (x : Contents). x.epoch) same)
      h.content

  by_follows : (o : Option Saved) → r.saved ≡ o → Follows r s o → KeepsSnapshots was is r.epoch r.state
  by_follows None here stays = by_fresh here stays
  by_follows (Some p) here (inl stays) = by_stays p here stays
  by_follows (Some p) here (inr into) = by_composed p here into

-- The devices of a settled database have the snapshots that they had, and one more at most, of what was kept.
pub settled_snapshots : {D : Type 0} {tells : D → Option (List ℕ)} {clock : D → ℕ}
    {image_at : D → ℕ → List ℕ → Type 0} {given : List Decl} {old new : Vault D} (r : Recovered) (s : Settled)
    → IsUp r → SettlesInto tells clock image_at r given old new s → (found now : Images) (is : Recovers found r)
    (says : SaysSettled now s) → KeepsSnapshots is.reading says.reading r.epoch r.state
settled_snapshots r s up settles found now is says =
    by_follows r s is says up settles.says settles.ranges.catalogue settles.state r.saved refl settles.follows
