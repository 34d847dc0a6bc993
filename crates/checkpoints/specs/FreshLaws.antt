-- A fresh vault on its way to its first savepoint.
use Rattle.std.specs.Prelude.{◌≡◌, ℕ, zero, suc, ◌^◌, ◌<◌, List}
use Rattle.std.specs.Prelude.{[], ◌∷◌, None, length, get_or, replicate}
use Rattle.std.proofs.Common.{refl, ap, ◌∙◌, subst, lit<, lit≤}
use Rattle.std.specs.List.{AllByRecursion}
use Rattle.std.proofs.lemmas.List.{append-nil}
use Rattle.lists.specs.Each.{all_replicate}
use Rattle.wire_form.specs.Bytes.{bytes_of}
use Rattle.wire_form.specs.Pages.{Contents, IsCatalogue, catalogue_words}
use Rattle.wire_form.specs.declared.page.Page.{Page}
use Rattle.log_writer.specs.Newest.{names_one}
use Rattle.log_writer.specs.Points.{point_of, IsSaved}
use Rattle.log_writer.specs.declared.saved.Saved.{Saved}
use Rattle.log_writer.specs.Save.{Names}
use Rattle.snapshot_store.specs.Store.{bytes_of_pages}
use Rattle.joint_crashes.specs.Images.{Images}
use Rattle.recovery_core.specs.Catalogues.{IsFirst}
use Rattle.recovery_core.specs.Recoverable.{IsReading, Reading, ReadsBy, ReadsFresh}
use Rattle.checkpoints.specs.SettledLaws.{IsFirstPoint}

-- what the first savepoint says
abbrev pub first_saved : Saved
first_saved = record { epoch = 0; catalogue = 1; count = 1; lengths = replicate 16 0 }

-- of zeros each is 0
pub zero_at : (n count : ℕ) → ◌≡◌ {A = ℕ} (get_or (replicate count 0) n 0) 0
zero_at n zero = refl
zero_at zero (suc count) = refl
zero_at (suc n) (suc count) = zero_at n count

-- it is the first one of all
pub is_first : IsFirstPoint (point_of 1 first_saved)
is_first = record { epoch = refl; catalogue = refl; count = refl; nothing = λ n. zero_at n 16 }

-- which is in its ranges
pub is_first_saved : IsSaved first_saved
is_first_saved = record {
  first = lit≤ tt;
  last = lit< tt;
  epoch = lit< tt;
  catalogue = lit≤ tt;
  newest = refl;
  count = lit≤ tt;
  banks = refl;
  lengths = all_replicate (λ n. n < 2 ^ 40) 16 0 (lit< tt);
}

-- the bytes of the one page are those of its words
pub one_page_bytes : (pages : List Page) (page : Page) (words : List ℕ) → pages ≡ page ∷ [] → page.words ≡ words
    → bytes_of_pages pages ≡ bytes_of words
one_page_bytes pages page words is same = ap bytes_of_pages is ∙ append-nil (bytes_of page.words) ∙ ap bytes_of same

-- a database without a savepoint has no snapshot
pub no_snapshots : (found : Images) (reading : Reading) → IsReading found reading → Names found.save None
    → reading.catalogues ≡ []
no_snapshots found reading is names =
    let none : reading.point ≡ None = names_one found.save reading.point None is.names names in
    let fresh : ReadsFresh reading = subst (λ p. ReadsBy found p reading) none is.counts in fresh.catalogues

-- What the first page says: it is the first catalogue.
pub record IsFirstPage (words : List ℕ) (c : Contents) : Type 0 where
  pub catalogue : IsCatalogue 1 c
  pub previous : c.previous ≡ 0
  pub first : IsFirst c
  pub words_are : words ≡ catalogue_words c
  pub count : length words ≡ 64
  pub fit : AllByRecursion (λ w. w < 2 ^ 64) words
