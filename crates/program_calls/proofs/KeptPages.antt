-- The snapshots of a run's pages: each has the run through its epoch, or was there before.
use Rattle.std.proofs.Common.{◌≡◌, ◌⊎◌, ◌∙◌, ◌≤◌, ◌<◌, ◌+◌, inl, inr, refl, sym, ap, subst, ℕ, Bool, cond, arith, List}
use Rattle.std.proofs.Common.{[], ◌∷◌, ◌++◌, length, Option, Some, None}
use Rattle.std.specs.Prelude.{◌==◌}
use Rattle.std.specs.FinMap.{get}
use Rattle.std.specs.List.{AllByRecursion, Contains}
use Rattle.lists.specs.Each.{all_weaker}
use Rattle.lists.specs.Elements.{in_cases, in_head, in_tail}
use Rattle.serial_model.specs.History.{Entry, as_of}
use Rattle.serial_model.specs.Keys.{id_of}
use Rattle.serial_model.specs.State.{State}
use Rattle.serial_model.specs.declared.decl.Decl.{Decl}
use Rattle.serial_model.specs.declared.key.Key.{Key}
use Rattle.wire_form.specs.Pages.{Contents, decls_of}
use Rattle.wire_form.specs.declared.bucket.Entry.{Entry as LogEntry}
use Rattle.wire_form.specs.declared.records.Stored.{Stored}
use Rattle.snapshot_store.specs.Content.{CatalogueAt, IsContent, RootStands, deepest, record_in, value_at, value_of}
use Rattle.snapshot_store.specs.ContentLaws.{record_in-append, root_stands-append}
use Rattle.root_composer.specs.Composition.{CanCompose, IsComposed, next_contents}
use Rattle.recovery_core.specs.Catalogues.{AreCatalogues, newest_decls, newest_epoch, newest_storages}
use Rattle.joint_crashes.specs.Images.{Images, epoch_of}
use Rattle.recovery_core.specs.Recoverable.{IsReading, IsStateOf, Reading}
use Rattle.recovery_core.specs.Recovered.{catalogue_of}
use Rattle.recovery_core.specs.SnapshotPages.{RootStandsUpTo}
use Rattle.checkpoints.specs.NextReading.{chain-append, chain_below, newest_is, roots_early, same_storages}
use Rattle.recovery_core.specs.SnapshotsKept.{KeepsSnapshots}
use Rattle.program_calls.specs.Snapshots.{EachSnapshot, HasContent}
use Rattle.program_calls.proofs.KeptEpochs.{as_of-more, as_of-none}
use Rattle.program_calls.proofs.SnapshotsFound.{epoch_below}
use Rattle.program_calls.proofs.SnapshotsKept.{Chained, newest_by, newest_content, newest_stands}

-- a reading of these pages, of which nothing else counts
abbrev pub of_pages : List (List ℕ) → Reading
of_pages words = record { point = None; pages = words; catalogues = []; lines = [] }

-- The snapshots of these pages, from a page back: a chain of catalogues, of the declared storages, of which the newest
-- one's pages stand. It has the run through its epoch. Each was there before, or isn't earlier than what was kept then and
-- has the run through its epoch; and each that was there before is there, with what it had.
pub record SnapshotsAt (was : Reading) (decls : List Decl) (saved : ℕ) (s : State) (ordered : List Entry)
    (words : List (List ℕ)) (number : ℕ) : Type 0 where
  pub catalogues : List Contents
  pub some : 1 ≤ number
  pub chain : AreCatalogues words (newest_epoch catalogues + 1) None number catalogues
  pub stands : AllByRecursion (RootStandsUpTo (newest_epoch catalogues) words) (newest_storages catalogues)
  pub decls_are : decls ≡ newest_decls catalogues
  pub content : (key : Key) → get (as_of decls s ordered (newest_epoch catalogues)) key
      ≡ value_at (record_in words) (newest_storages catalogues) key
  pub each : (c : Contents) → Contains catalogues c → Contains was.catalogues c
      ⊎ ((saved ≤ c.epoch) × HasContent (of_pages words) c (as_of decls s ordered c.epoch))
  pub stays : (c : Contents) → Contains was.catalogues c → Contains catalogues c
  pub as_was : (c : Contents) (t : State) → Contains was.catalogues c → HasContent was c t
      → HasContent (of_pages words) c t

-- ---- what a snapshot has

-- the same over other pages that are the same ones
pub has_over : (a b : Reading) (c : Contents) (t : State) → b.pages ≡ a.pages → HasContent a c t → HasContent b c t
has_over a b c t same has = record {
  stands = subst (λ ws. AllByRecursion (RootStands ws) c.storages) (sym same) has.stands;
  content = subst (λ ws. IsContent (record_in ws) c.storages t) (sym same) has.content;
}

value_at-append : (words made : List (List ℕ)) (ss : List Stored) (key : Key) → AllByRecursion (RootStands words) ss
    → value_at (record_in (words ++ made)) ss key ≡ value_at (record_in words) ss key
value_at-append words made [] key stands = refl
value_at-append words made (s ∷ ss) key stands =
    ap (λ o. cond (id_of s.decl == key.storage) (value_of o) (value_at (record_in (words ++ made)) ss key))
    (record_in-append words made s key.key stands.0)
    ∙ ap (λ o. cond (id_of s.decl == key.storage) (value_of (record_in words s key.key)) o)
    (value_at-append words made ss key stands.1)

-- whatever pages are added
has_more : (words made : List (List ℕ)) (c : Contents) (t : State) → HasContent (of_pages words) c t
    → HasContent (of_pages (words ++ made)) c t
has_more words made c t has = record {
  stands = all_weaker (RootStands words) (RootStands (words ++ made)) (root_stands-append words made) c.storages
      has.stands;
  content = λ key. has.content key ∙ sym (value_at-append words made c.storages key has.stands);
}

-- ---- how they go on

-- none is later than the newest
pub newest_most : {was : Reading} {decls : List Decl} {saved : ℕ} {s : State} {ordered : List Entry}
    {words : List (List ℕ)} {number : ℕ} (at : SnapshotsAt was decls saved s ordered words number) (c : Contents)
    → Contains at.catalogues c → c.epoch ≤ newest_epoch at.catalogues
newest_most {words = words} {number = number} at c has = omega (
  arith,
  epoch_below words (newest_epoch at.catalogues + 1) None number at.catalogues c at.chain has,
)

-- More was run, all of it later.
pub snapshots_more : {was : Reading} {decls : List Decl} {saved : ℕ} {s : State} {ordered : List Entry}
    {words : List (List ℕ)} {number : ℕ} (at : SnapshotsAt was decls saved s ordered words number) (more : List Entry)
    → AllByRecursion (λ e. newest_epoch at.catalogues < e.number.epoch) more
    → (next : SnapshotsAt was decls saved s (ordered ++ more) words number) × (next.catalogues ≡ at.catalogues)
snapshots_more {decls = decls} {s = s} {ordered = ordered} {words = words} at more later = (
  record {
    catalogues = at.catalogues;
    some = at.some;
    chain = at.chain;
    stands = at.stands;
    decls_are = at.decls_are;
    content = λ key.
        ap (λ (t : State). get t key) (as_of-more decls s ordered more (newest_epoch at.catalogues) later)
        ∙ at.content key;
    each = λ c has. elim (at.each c has) [
      | inl there ↦ inl there
      | inr made ↦ inr (
        made.0,
        subst (HasContent (of_pages words) c) (sym (as_of-more decls s ordered more c.epoch
            (all_weaker (λ (e : Entry). newest_epoch at.catalogues < e.number.epoch)
            (λ (e : Entry). c.epoch < e.number.epoch)
            (λ e past. omega (arith, past, newest_most at c has)) more later))) made.1,
      )
    ];
    stays = at.stays;
    as_was = at.as_was;
  },
  refl,
)

-- A snapshot more, that has the run through its epoch.
pub snapshots_next : {was : Reading} {decls : List Decl} {saved : ℕ} {s : State} {ordered : List Entry}
    {words : List (List ℕ)} {number : ℕ} (at : SnapshotsAt was decls saved s ordered words number)
    (run : List LogEntry) (epoch : ℕ) (contents : Contents) (made : List (List ℕ))
    → CanCompose words number contents run epoch → (composed : IsComposed run epoch number contents words made)
    → saved ≤ epoch
    → ((key : Key) → get (as_of decls s ordered epoch) key
    ≡ value_at (record_in (words ++ made)) composed.storages key)
    → (next : SnapshotsAt was decls saved s ordered (words ++ made) (length words + length made))
    × (newest_epoch next.catalogues ≡ epoch)
snapshots_next {was = was} {decls = decls} {saved = saved} {s = s} {ordered = ordered} {words = words}
    {number = number} at run epoch contents made can composed from content =
    let limit : ℕ = newest_epoch at.catalogues + 1 in
    let newest : Contents = next_contents epoch number composed.storages in
    let here = can.stands.here in
    let front = newest_is words limit number at.catalogues contents at.some at.chain here in
    let old_epoch : newest_epoch at.catalogues ≡ contents.epoch = ap newest_epoch front.1 in
    let same : decls_of newest ≡ newest_decls at.catalogues =
    same_storages run words (words ++ made) deepest contents.storages composed.storages composed.each
    ∙ sym (ap newest_decls front.1) in
    let stood = subst (λ cs. AllByRecursion (RootStandsUpTo (newest_epoch cs) words) (newest_storages cs)) front.1
    at.stands in
    let later = can.later in (
      record {
        catalogues = newest ∷ at.catalogues;
        some = omega (arith, at.some, here.there);
        chain = (
          omega (arith, at.some, here.there),
          record {
            here = composed.stands.here;
            epoch = omega arith;
            decls = tt;
            first = λ none. absurd (omega (arith, none, at.some));
          },
          chain_below (words ++ made) limit epoch number (decls_of newest) at.catalogues at.some
              (chain-append words made limit None number at.catalogues at.chain) (omega (arith, old_epoch, later)) same,
        );
        stands = roots_early run (decls_of contents) words (words ++ made) contents.epoch epoch (omega (arith, later))
            can.entries contents.storages composed.storages composed.each stood;
        decls_are = at.decls_are ∙ sym same;
        content = content;
        each = λ c has. elim (in_cases c newest at.catalogues has) [
          | inl is ↦ inr (subst (λ (x : Contents). (saved ≤ x.epoch)
              × HasContent (of_pages (words ++ made)) x (as_of decls s ordered x.epoch)) is (
                from,
                record { stands = composed.stands.roots; content = content },
              ))
          | inr older ↦ elim (at.each c older) [
            | inl there ↦ inl there
            | inr had ↦ inr (had.0, has_more words made c (as_of decls s ordered c.epoch) had.1)
          ]
        ];
        stays = λ c has. in_tail c newest at.catalogues (at.stays c has);
        as_was = λ c t has content. has_more words made c t (at.as_was c t has content);
      },
      refl,
    )

-- The same pages and the same number, told otherwise.
pub snapshots_over : {was : Reading} {decls : List Decl} {saved : ℕ} {s : State} {ordered : List Entry}
    (a b : List (List ℕ)) (m n : ℕ) → a ≡ b → m ≡ n → (x : SnapshotsAt was decls saved s ordered a m)
    → (y : SnapshotsAt was decls saved s ordered b n) × (newest_epoch y.catalogues ≡ newest_epoch x.catalogues)
snapshots_over {was = was} {decls = decls} {saved = saved} {s = s} {ordered = ordered} a b m n ab mn x = (
  record {
    catalogues = x.catalogues;
    some = subst (λ k. 1 ≤ k) mn x.some;
    chain = subst (λ ws. AreCatalogues ws (newest_epoch x.catalogues + 1) None n x.catalogues) ab
        (subst (λ k. AreCatalogues a (newest_epoch x.catalogues + 1) None k x.catalogues) mn x.chain);
    stands = subst (λ ws. AllByRecursion (RootStandsUpTo (newest_epoch x.catalogues) ws)
        (newest_storages x.catalogues)) ab x.stands;
    decls_are = x.decls_are;
    content = λ key. x.content key ∙ ap (λ ws. value_at (record_in ws) (newest_storages x.catalogues) key) ab;
    each = subst (λ ws. (c : Contents) → Contains x.catalogues c → Contains was.catalogues c
        ⊎ ((saved ≤ c.epoch) × HasContent (of_pages ws) c (as_of decls s ordered c.epoch))) ab x.each;
    stays = x.stays;
    as_was = subst (λ ws. (c : Contents) (t : State) → Contains was.catalogues c → HasContent was c t
        → HasContent (of_pages ws) c t) ab x.as_was;
  },
  refl,
)

-- ---- before the first round

-- What a settling left: nothing was run yet.
pub snapshots_begin : (was now : Reading) (decls : List Decl) (saved : ℕ) (s : State) (number : ℕ) → 1 ≤ number
    → KeepsSnapshots was now saved s → saved ≡ epoch_of was.point → IsStateOf was s → Chained was → Chained now
    → AreCatalogues now.pages (saved + 1) None number now.catalogues
    → decls ≡ newest_decls now.catalogues
    → ((key : Key) → get s key ≡ value_at (record_in now.pages) (newest_storages now.catalogues) key)
    → (at : SnapshotsAt was decls saved s [] now.pages number) × (newest_epoch at.catalogues ≤ saved)
snapshots_begin was now decls saved s number some keeps saved_is state_is first last chain decls_are content = (
  record {
    catalogues = now.catalogues;
    some = some;
    chain = tight (saved + 1) now.catalogues chain;
    stands = last.stands;
    decls_are = decls_are;
    content = content;
    each = λ c has. elim (keeps.each c has) [
      | inl there ↦ inl there
      | inr made ↦
          let newest = newest_by now.pages (saved + 1) None number now.catalogues c chain has
          (λ d other. omega (
            arith,
            made.0,
            epoch_below now.pages (saved + 1) None number now.catalogues d chain other,
          )) in
          inr (omega (arith, made.0), record { stands = newest_stands now c last newest; content = made.1 })
    ];
    stays = keeps.stays;
    as_was = λ c t has content.
        let still = keeps.content c t has content.stands content.content in
        record { stands = still.0; content = still.1 };
  },
  most now.catalogues chain,
)
  where
    tight : (limit : ℕ) (cs : List Contents) → AreCatalogues now.pages limit None number cs
        → AreCatalogues now.pages (newest_epoch cs + 1) None number cs
    tight limit [] chain = chain
    tight limit (c ∷ cs) chain = (
      chain.0,
      record { here = chain.1.here; epoch = omega arith; decls = chain.1.decls; first = chain.1.first },
      chain.2,
    )

    most : (cs : List Contents) → AreCatalogues now.pages (saved + 1) None number cs → newest_epoch cs ≤ saved
    most [] chain = omega arith
    most (c ∷ cs) chain = omega (arith, chain.1.epoch)

-- ---- as the run has ended

-- Each snapshot of a reading of these pages is as it has to be.
pub each_snapshot : {was : Reading} {decls : List Decl} {saved : ℕ} {s : State} {ordered : List Entry}
    {words : List (List ℕ)} {number : ℕ} (at : SnapshotsAt was decls saved s ordered words number) (now : Reading)
    → now.pages ≡ words → now.catalogues ≡ at.catalogues → AllByRecursion (λ e. saved < e.number.epoch) ordered
    → Chained was → saved ≡ epoch_of was.point → IsStateOf was s → EachSnapshot was now saved s decls ordered
each_snapshot {was = was} {decls = decls} {saved = saved} {s = s} {ordered = ordered} {words = words} at now pages
    catalogues above first saved_is state_is =
    let inside = λ (c : Contents) (has : Contains now.catalogues c). subst (λ cs. Contains cs c) catalogues has in
    record {
      newer = λ c has later. elim (at.each c (inside c has)) [
        | inl there ↦ absurd (omega (arith, later, was_most c there))
        | inr made ↦ has_over (of_pages words) now c (as_of decls s ordered c.epoch) pages made.1
      ];
      kept = λ c has same. elim (at.each c (inside c has)) [
        | inl there ↦
            let newest = newest_by was.pages (epoch_of was.point + 1) None (catalogue_of was.point) was.catalogues c
            first.chain there (λ d other. omega (arith, same, was_most d other)) in
            has_over (of_pages words) now c s pages (at.as_was c s there (record {
              stands = newest_stands was c first newest;
              content = newest_content was c s newest (same ∙ saved_is) state_is;
            }))
        | inr made ↦ has_over (of_pages words) now c s pages
            (subst (HasContent (of_pages words) c)
            (ap (as_of decls s ordered) same ∙ as_of-none decls s ordered saved above) made.1)
      ];
      older = λ c has before. elim (at.each c (inside c has)) [
        | inl there ↦ there
        | inr made ↦ absurd (omega (arith, made.0, before))
      ];
      stays = λ c has. subst (λ cs. Contains cs c) (sym catalogues) (at.stays c has);
      as_was = λ c t has content. has_over (of_pages words) now c t pages (at.as_was c t has content);
    }
  where
    was_most : (c : Contents) → Contains was.catalogues c → c.epoch ≤ saved
    was_most c has = omega (
      arith,
      saved_is,
      epoch_below was.pages (epoch_of was.point + 1) None (catalogue_of was.point) was.catalogues c first.chain has,
    )
