-- What a glean's pages are, for those who go on from them.
use Rattle.std.specs.Prelude.{◌≡◌, ◌+◌, ℕ, List, [], ◌∷◌, ◌++◌, Option, length, map}
use Rattle.std.proofs.Common.{sym, ap, subst, refl, ◌∙◌}
use Rattle.std.proofs.lemmas.List.{length-append}
use Rattle.serial_model.specs.declared.decl.Decl.{Decl}
use Rattle.wire_form.specs.ContentLaws.{one_catalogue}
use Rattle.wire_form.specs.Pages.{Contents, decls_of}
use Rattle.wire_form.specs.declared.bucket.Entry.{Entry}
use Rattle.wire_form.specs.declared.records.Stored.{Stored}
use Rattle.snapshot_store.specs.Content.{CatalogueAt, deepest, SnapshotStands}
use Rattle.root_composer.specs.Composition.{next_contents}
use Rattle.root_composer.specs.Storages.{AreComposed}
use Rattle.gleaner.specs.Glean.{IsGleaned, WouldBeMany}
use Rattle.gleaner.specs.declared.closed.Closed.{Closed}
use Rattle.gleaner.specs.declared.closed.Newest.{Newest}

-- each storage stays what it is
storages_same : (run : List Entry) (old new : List (List ℕ)) (depth : ℕ) (ss ts : List Stored)
    → AreComposed run old new depth ss ts → map (λ (s : Stored). s.decl) ts ≡ map (λ (s : Stored). s.decl) ss
storages_same run old new depth [] [] all = refl
storages_same run old new depth [] (t ∷ ts) all = absurd all
storages_same run old new depth (s ∷ ss) [] all = absurd all
storages_same run old new depth (s ∷ ss) (t ∷ ts) all =
    ap (λ d. d ∷ map (λ (x : Stored). x.decl) ts) all.0.same
    ∙ ap (λ l. s.decl ∷ l) (storages_same run old new depth ss ts all.1)

-- the last page is the catalogue of a snapshot of this epoch that stands, of these storages
pub record StandsLast (decls : List Decl) (epoch : ℕ) (pages : List (List ℕ)) : Type 0 where
  pub contents : Contents
  pub stands : SnapshotStands pages (length pages) contents
  pub decls_are : decls ≡ decls_of contents
  pub epoch_is : contents.epoch ≡ epoch

module _ {D : Type 0} {tells : D → Option (List ℕ)} {pages : List (List ℕ)} {decls : List Decl} {newest : Newest}
    {closed : Closed} {files : List D} {now : List (List ℕ)} {new room : ℕ} where
  -- A snapshot that was made of the closed log files stands, with the storages of the newest one before it.
  pub gleaned_stands : (contents : Contents) → IsGleaned tells pages decls newest closed files now new room
      → CatalogueAt pages newest.page contents → decls ≡ decls_of contents → StandsLast decls closed.epoch now
  gleaned_stands contents is here same =
      let c = is.composes in
      let one : c.contents ≡ contents = one_catalogue newest.page c.contents contents c.can.stands.here.catalogue
      here.catalogue (sym c.can.stands.here.words ∙ here.words) in
      let next : Contents = next_contents closed.epoch newest.page c.composed.storages in
      let size : length pages + length is.made ≡ length now =
      sym (length-append pages is.made) ∙ sym (ap length is.added) in
      record {
        contents = next;
        stands = subst (λ n. SnapshotStands now n next) size
            (subst (λ ps. SnapshotStands ps (length pages + length is.made) next) (sym is.added) c.composed.stands);
        decls_are = same ∙ ap decls_of (sym one)
            ∙ sym (storages_same c.run pages (pages ++ is.made) deepest c.contents.storages c.composed.storages
            c.composed.each);
        epoch_is = refl;
      }

  -- so many pages were added
  pub gleaned_count : IsGleaned tells pages decls newest closed files now new room → length now ≡ length pages + new
  gleaned_count is = ap length is.added ∙ length-append pages is.made ∙ ap (λ n. length pages + n) is.composes.count

  -- which is the number that they would come to
  pub gleaned_many : IsGleaned tells pages decls newest closed files now new room
      → WouldBeMany tells pages decls newest closed files new
  gleaned_many is = record {
    buckets = is.buckets;
    mapped = is.mapped;
    many = record {
      run = is.composes.run;
      last = is.composes.last;
      contents = is.composes.contents;
      here = is.composes.can.stands.here;
      would = (
        is.composes.new_is,
        is.composes.levels,
        (is.made, is.composes.composed, is.composes.count),
      );
    };
  }
