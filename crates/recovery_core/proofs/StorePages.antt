-- Catalogues among the pages of a store.
use Rattle.std.proofs.Common.{◌≡◌, ℕ, ◌-◌, ◌≤◌, List, length, Some, sym, ap, subst}
use Rattle.std.proofs.Common.{◌∙◌, arith}
use Rattle.std.specs.Prelude.{slice_get}
use Rattle.std.proofs.lemmas.List.{length-map}
use Rattle.std.proofs.lemmas.Option.{slice_get-map}
use Rattle.std.specs.Option.{option_map}
use Rattle.wire_form.specs.ContentLaws.{one_catalogue}
use Rattle.wire_form.specs.Pages.{Contents, IsCatalogue, catalogue_words}
use Rattle.wire_form.specs.declared.page.Page.{Page}
use Rattle.snapshot_store.specs.Content.{words_of, CatalogueAt}
use Rattle.snapshot_store.specs.ReadLaws.{page_at}

-- a page that was read as a catalogue is one
pub catalogue_here : (pages : List Page) (n : ℕ) (p : Page) (c : Contents) → 1 ≤ n → n ≤ length pages
    → slice_get pages (n - 1) ≡ Some p → p.number ≡ n
    → IsCatalogue p.number c → p.words ≡ catalogue_words c → CatalogueAt (words_of pages) n c
catalogue_here pages n p c first last at number is words = record {
  there = omega (arith, last, length-map pages Page.words);
  catalogue = subst (λ k. IsCatalogue k c) number is;
  words = page_at pages n p first at ∙ words;
}

-- and a catalogue is read from its page
pub catalogue_of : (pages : List Page) (n : ℕ) (p : Page) (c : Contents) → 1 ≤ n → slice_get pages (n - 1) ≡ Some p
    → p.number ≡ n
    → CatalogueAt (words_of pages) n c → IsCatalogue p.number c × (p.words ≡ catalogue_words c)
catalogue_of pages n p c first at number here =
    (subst (λ k. IsCatalogue k c) (sym number) here.catalogue, sym (page_at pages n p first at) ∙ here.words)

-- which says one thing
pub one_here : (pages : List Page) (n : ℕ) (p : Page) (c d : Contents) → 1 ≤ n → slice_get pages (n - 1) ≡ Some p
    → p.number ≡ n
    → CatalogueAt (words_of pages) n c → IsCatalogue p.number d → p.words ≡ catalogue_words d → c ≡ d
one_here pages n p c d first at number here is words =
    let read = catalogue_of pages n p c first at number here in
    one_catalogue p.number c d read.0 is (sym read.1 ∙ words)

-- the words of a page that is there
pub words_at_index : (pages : List Page) (k : ℕ) (p : Page) → slice_get pages k ≡ Some p → slice_get (words_of pages) k
    ≡ Some p.words
words_at_index pages k p at = slice_get-map Page.words pages k ∙ ap (option_map Page.words) at
