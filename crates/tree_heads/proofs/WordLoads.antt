-- A word of a tree's page that never changes is loaded: the one that the pass knows.
use Rattle.std.proofs.Common.{◌≡◌, ℕ, suc, ◌+◌, ◌*◌, ◌<◌, List, [], length, get_or, refl, sym, ap, ◌∙◌, subst}
use Rattle.std.proofs.Common.{arith, Some}
use Rattle.std.specs.List.{Contains, slice_get}
use Rattle.atomic_table.specs.Table.{Me, Allows}
use Rattle.serial_model.specs.declared.key.Key.{Key}
use Rattle.homes.specs.declared.places.Span.{Span}
use Rattle.wire_form.specs.Leaves.{tree_leaf, record_start}
use Rattle.drop_core.specs.declared.table.Page.{Page}
use Rattle.drop_core.specs.declared.table.Page.TheVariants.{Blank, Leaf, Inner, Split}
use Rattle.drop_core.specs.Table.{page_of}
use Rattle.engine_pages.specs.declared.layout.Layout.{Layout}
use Rattle.engine_pages.specs.declared.view.Inner.{Inner as KnownInner}
use Rattle.engine_pages.specs.declared.view.Known.{Known}
use Rattle.engine_pages.specs.declared.view.View.{View}
use Rattle.engine_pages.specs.Layout.{page_at}
use Rattle.engine_pages.specs.Pages.{Fenced}
use Rattle.engine_pages.specs.Rule.{Shared, Shows}
use Rattle.engine_pages.specs.Steps.{glanced}
use Rattle.engine_pages.specs.Views.{IsActive, seat_number}
use Rattle.engine_pages.specs.Words.{separators_at}
use Rattle.engine_pages.proofs.Dealing.{rests_all}
use Rattle.engine_pages.proofs.Joint.{Laws}
use Rattle.engine_pages.proofs.Looks.{look_stride}
use Rattle.engine_pages.proofs.Seats.{at_front}
use Rattle.engine_pages.proofs.Turns.{Begins, Stride, allows_at}
use Rattle.tree_heads.specs.Headers.{HasWord}
use Rattle.tree_heads.proofs.TreeAt.{Says, known_shown, pages_same}

module _ (l : Layout) (words : List ℕ) (views : List View) (s : Shared) (id : ℕ) (v : View) (active : IsActive v.role)
    (b : Begins l words views s id v) (t i : ℕ) where
  abbrev at : ℕ
  at = page_at l.slots t i

  abbrev n : ℕ
  n = get_or words at 0

  -- the key of a record that is known
  key_is : (x : Known) (j : ℕ) (k : Key) → Contains v.known x → x.slot ≡ t → slice_get x.keys j ≡ Some k
      → i ≡ record_start tree_leaf j → n ≡ k.key
  key_is x j k has slot there index =
      let was = b.pages.treed.known x has in
      let shown = known_shown l words views s id v x.slot b was.known in
      let place : at ≡ page_at l.slots x.slot (16 + 3 * j) =
      ap (λ y. page_at l.slots y i) (sym slot) ∙ ap (page_at l.slots x.slot) index in
      ap (λ y. get_or words y 0) place
      ∙ by_page (page_of s.table x.slot) (b.sound.shown.treed x.slot was.fence was.within shown was.there)
    where
      f : Fenced
      f = (b.pages.treed.known x has).fence

      in-fence : slice_get f.keys j ≡ Some k
      in-fence = at_front x.keys f.keys j k (b.pages.treed.known x has).front there

      by_page : (page : Page) → Says l words s x.slot f page → get_or words (page_at l.slots x.slot (16 + 3 * j)) 0 ≡ k.key
      by_page Blank shows = absurd shows
      by_page (Leaf keys) shows = (shows.2.keys j k in-fence).key
      by_page (Inner c) shows =
          let none : Some k ≡ slice_get [] j = sym in-fence ∙ ap (λ (q : List Key). slice_get q j) shows.0 in absurd (cc)
      by_page Split shows = (shows.2.keys j k in-fence).key

  -- a separator that is known
  separator_is : (x : KnownInner) (j : ℕ) → Contains v.inners x → x.slot ≡ t → j < length x.separators
      → i ≡ separators_at + j → n ≡ get_or x.separators j 0
  separator_is x j has slot less index =
      let was = b.pages.treed.inners x has in
      let shown = known_shown l words views s id v x.slot b was.known in
      let place : at ≡ page_at l.slots x.slot (34 + j) =
      ap (λ y. page_at l.slots y i) (sym slot) ∙ ap (page_at l.slots x.slot) index in
      let shows : Says l words s x.slot was.fence (Inner (suc (length x.separators))) =
      subst (Says l words s x.slot was.fence) was.page (b.sound.shown.treed x.slot was.fence was.within shown was.there) in
      let child = (shows.6 (suc j) (omega (arith, less))).1 in
      let part = was.parts (suc j) (omega (arith, less)) in
      ap (λ y. get_or words y 0) place ∙ ap (λ (z : Span). z.low) (sym child ∙ part)

  abbrev w : View
  w = glanced at n v

  pub word_stride : Stride l words views s (seat_number v.role) v at (λ k. k) (HasWord t i at)
  word_stride =
      let was = pages_same l words views s id v b active in
      look_stride l words views s id v active b at (λ k. k) w (HasWord t i at) refl
      record { layout = refl; role = refl; made = refl; past = refl; parked = refl; epoch = refl; mine = refl; draws = refl; due = refl; seat = refl; checked = refl; took = refl; loaded = refl; met = refl; heard = refl; versions = refl; history = refl; decided = refl }
      refl
      record {
        within = was.within;
        ways = was.ways;
        drafts = was.drafts;
        copies = was.copies;
        blanks = was.blanks;
        resident = was.resident;
        leads = was.leads;
        fills = was.fills;
        known = was.known;
        heads = was.heads;
        moved = was.moved;
        sealed = was.sealed;
        inners = was.inners;
        new_leaves = was.new_leaves;
        new_inners = was.new_inners;
        shuts = was.shuts;
      }
      (rests_all l words views s id v b w
      record { role = refl; ways = refl; took = refl; gone = refl; touched = refl; blamed = refl; locks = refl } refl)
      record {
        is = refl;
        key = key_is;
        separator = separator_is;
        minor = λ x has slot index.
            ap (λ y. get_or words y 0) (ap (page_at l.slots t) index ∙ ap (λ y. page_at l.slots y 3) (sym slot))
            ∙ (b.pages.treed.moved x has).minor;
        major = λ x has slot index.
            ap (λ y. get_or words y 0) (ap (page_at l.slots t) index ∙ ap (λ y. page_at l.slots y 4) (sym slot))
            ∙ (b.pages.treed.moved x has).major;
        parted = λ x has slot index.
            ap (λ y. get_or words y 0) (ap (page_at l.slots t) index ∙ ap (λ y. page_at l.slots y 5) (sym slot))
            ∙ (b.pages.treed.moved x has).separator;
      }

pub loads_word : Laws → (l : Layout) (slots id : ℕ) (me : Me (Unit {0}) View) (t i : ℕ) → IsActive me.0.role
    → Allows (λ s. Shows l s.words s.views) slots id me (page_at l.slots t i) (λ k. k)
    (λ k now. (now.1 ≡ me.1) × HasWord t i (page_at l.slots t i) me.0 k now.0)
loads_word laws l slots id me t i active =
    allows_at laws l slots id me (page_at l.slots t i) (λ k. k) (HasWord t i (page_at l.slots t i)) active
    (λ words views s b. word_stride l words views s id me.0 active b t i)
