-- Steps on the words of the clock, of the decisions and of the marks: no word of a page changes, and no place.
use Rattle.std.proofs.Common.{◌≡◌, ℕ, ◌+◌, ◌≤◌, List, length, get_or, refl, ap, ◌∙◌, arith, Option}
use Rattle.wire_form.specs.Words.{number_word}
use Rattle.commit_core.specs.declared.story.Story.{Story}
use Rattle.commit_core.specs.CoreState.{clock_of}
use Rattle.commit_core.specs.Opening.{IsPrefix}
use Rattle.commit_core.specs.Places.{place_of}
use Rattle.drop_core.specs.declared.table.Table.{Table}
use Rattle.drop_core.specs.Table.{page_of}
use Rattle.engine_pages.specs.declared.layout.Layout.{Layout}
use Rattle.engine_pages.specs.declared.view.View.{View}
use Rattle.engine_pages.specs.Layout.{root_at, slot_at, page_at, snap_at}
use Rattle.engine_pages.specs.Pages.{Fenced}
use Rattle.engine_pages.specs.Resident.{Published}
use Rattle.engine_pages.specs.Rule.{Shared}
use Rattle.engine_pages.specs.Views.{IsActive, seat_number}
use Rattle.engine_pages.specs.Words.{IsOverwritten, ShowsWords, spot}
use Rattle.engine_pages.proofs.Joint.{shared_now}
use Rattle.engine_pages.proofs.Seats.{is_at, over_grown}
use Rattle.engine_pages.proofs.SlotFacts.{draft_same, filled_same, head_same, moved_same}
use Rattle.engine_pages.proofs.SlotSteps.{PagesNow}
use Rattle.engine_pages.proofs.TreeFacts.{new_leaf_at}
use Rattle.engine_pages.proofs.Turns.{Begins}
use Rattle.engine_pages.proofs.Words.{page_shown, tree_shown}

-- The words of the clock, of the decisions and of the marks alone have changed, of which the first two show the story
-- that is now; its places are as before, and maybe more was drawn and decided.
pub record FirstTen (l : Layout) (old new : List ℕ) (m n : Story) : Type 0 where
  pub long : length new ≡ length old
  pub others : (j : ℕ) → 10 ≤ j → get_or new j 0 ≡ get_or old j 0
  pub clock : get_or new 0 0 ≡ number_word (clock_of n.first_draw n.epoch n.history)
  pub decisions : get_or new 1 0 ≡ length n.decided
  pub places : n.places ≡ m.places
  pub history : IsPrefix m.history n.history
  pub decided : IsPrefix m.decided n.decided

pub first_shown : (l : Layout) (old new : List ℕ) (m n : Story) (d : Table) (k : ℕ → Option Fenced) (r : Published)
    → FirstTen l old new m n → ShowsWords l old m d k r → ShowsWords l new n d k r
first_shown l old new m n d k r c h = record {
  long = c.long ∙ h.long;
  clock = c.clock;
  decisions = c.decisions;
  published = c.others 26 (omega arith) ∙ h.published;
  unused = λ j from to other. c.others j (omega arith) ∙ h.unused j from to other;
  roots = λ i few.
      let was = h.roots i few in record {
        number = was.number;
        word = c.others (root_at i) (omega arith) ∙ was.word;
        page = was.page;
        slot = was.slot;
        named = was.named;
        keepers = was.keepers;
      };
  slots = λ t few.
      let was = h.slots t few in record { word = c.others (slot_at t) (omega arith) ∙ was.word; times = was.times };
  pages = λ t few shown none.
      page_shown r.places old new l.slots t (place_of m.places) (place_of n.places) d d (page_of d t)
      (λ i less. c.others (page_at l.slots t i) (omega arith)) (λ i. ap (λ z. place_of z (spot t i)) c.places) (λ j. refl)
      (h.pages t few shown none);
  treed = λ t f few shown is.
      tree_shown r.places old new l.slots t f (IsOverwritten m) (IsOverwritten n) (place_of m.places) (place_of n.places) d d
      (page_of d t)
      (λ i less. c.others (page_at l.slots t i) (omega arith)) (λ i. ap (λ z. place_of z (spot t i)) c.places)
      (over_grown m n c.history c.decided) (λ j. refl) refl (h.treed t f few shown is);
  resident = λ i j some most few. c.others (snap_at l.slots i j) (omega arith) ∙ h.resident i j some most few;
}

-- what the view knows of pages stays so
pub first_kept : (l : Layout) (old new : List ℕ) (views : List View) (s : Shared) (id : ℕ) (v : View) (n : Story)
    → IsActive v.role → Begins l old views s id v → FirstTen l old new s.story n
    → PagesNow l new (shared_now s (seat_number v.role) n s.table s.trees s.resident v) v
first_kept l old new views s id v n active b c =
    let d = s.table in
    let p = seat_number v.role in
    let same : (j : ℕ) → 32 + l.slots ≤ j → get_or new j 0 ≡ get_or old j 0 = λ j low. c.others j (omega arith) in record {
      within = b.pages.within;
      ways = b.pages.ways;
      drafts = λ z has.
          let was = b.pages.drafts z has in
          draft_same old new l.slots d d v.grip.made v.grip.made z was.made refl refl
          (λ i less. same (page_at l.slots z.slot i) (omega arith)) was;
      copies = λ z has.
          let was = b.pages.copies z has in (
            was.0,
            record {
              slot = was.1.slot;
              made = was.1.made;
              state = was.1.state;
              over = was.1.over;
              page = was.1.page;
              exact = was.1.exact;
              records = λ leaf i less. ap (λ y. place_of y (spot z.slot i)) c.places ∙ was.1.records leaf i less;
              pointers = was.1.pointers;
            },
          );
      blanks = b.pages.blanks;
      resident = b.pages.resident;
      leads = b.pages.leads;
      fills = λ z has. let was = b.pages.fills z has in (was.0, filled_same l old new s.resident z same was.1);
      known = b.pages.treed.known;
      shuts = b.pages.shuts p (is_at v.role active);
      heads = λ z has.
          let was = b.pages.treed.heads p (is_at v.role active) z has in
          head_same l old new s.trees d d p z refl refl
          (λ i less. same (page_at l.slots z.slot i) (omega arith)) was;
      moved = λ z has.
          let was = b.pages.treed.moved z has in
          moved_same l old new s.trees d d v.grip.holds v.grip.holds z was.held refl refl
          (λ i less. same (page_at l.slots z.slot i) (omega arith)) was;
      sealed = b.pages.treed.sealed p (is_at v.role active);
      inners = b.pages.treed.inners;
      new_leaves = λ z has.
          let was = b.pages.treed.new_leaves z has in
          new_leaf_at l s.story n d d s.trees s.trees v.grip.made v.grip.made z was.made refl refl refl refl
          (λ i. ap (λ y. place_of y (spot z.slot i)) c.places) was;
      new_inners = b.pages.treed.new_inners;
    }
