-- A leaf whose records are locked as the snapshot has them is swung from, and its slot given up.
use Rattle.std.proofs.Common.{◌≡◌, ◌≢◌, inl, inr, ℕ, ◌+◌, ◌<◌, ◌≤◌, Bool, true, false, true≢false, eqb, eq-eqb, ne_eqb, List, [], ◌∷◌, ◌++◌}
use Rattle.std.proofs.Common.{refl, sym, ap, ◌∙◌, subst, arith}
use Rattle.std.specs.Prelude.{◌||◌, MatchBool}
use Rattle.std.specs.List.{Contains}
use Rattle.homes.specs.declared.places.At.{At}
use Rattle.homes.specs.declared.places.At.TheVariants.{Root, In}
use Rattle.homes.specs.declared.places.Span.{Span}
use Rattle.homes.specs.Homes.{has_key}
use Rattle.snapshot_store.specs.Places.{page as page_words}
use Rattle.commit_core.specs.Parts.{record_part}
use Rattle.drop_core.specs.Table.{has_slot}
use Rattle.engine_pages.specs.declared.view.KeptWhy.{KeptWhy}
use Rattle.engine_pages.specs.declared.view.KeptWhy.TheVariants.{Changed}
use Rattle.engine_pages.specs.declared.view.View.{View}
use Rattle.engine_pages.specs.Layout.{words_of}
use Rattle.engine_pages.specs.Pointers.{IsArrayPointerAt, any_pointer}
use Rattle.engine_pages.specs.Resident.{array_value, array_word}
use Rattle.engine_pages.specs.Slots.{MayRetire, retired}
use Rattle.engine_pages.specs.Steps.{kept_at, read_at, seen_at}
use Rattle.engine_pages.specs.Words.{spot}
use Rattle.dual_pointer.specs.Copies.{IsLeadOf}
use Rattle.page_records.specs.Locks.{took_at}
use Rattle.pointer_swings.specs.Swings.{CanSwing, HasSwung, key_in, swung}
use Rattle.page_drops.specs.declared.noting.Kept.{Kept}
use Rattle.page_drops.specs.Leaves.{AreLow, CanDrop, HasComparedAll, HasDropped, HasMoved, HasRow, took_row}
use Rattle.page_drops.specs.Works.{read_of, IsCauseBelow, IsNoted, KeepsIt, KeepsReads, KeepsReadsBut, OnlyLooked, WorkedOn}
use Rattle.page_drops.proofs.Looks.{JustSaw, as_worked, keeps_it, leaf_worked, worked_then}
use Rattle.page_drops.proofs.Entries.{entry_of, other_entry, own_entry}
use Rattle.page_drops.proofs.Rows.{row_keys, took_there}
use Rattle.page_drops.proofs.Wholes.{same_words}

-- ---- what is asked stays so

pub pointer_worked : (v w : View) (x : At) (sp : Span) (at : ℕ) → WorkedOn v w → IsArrayPointerAt v x sp at → IsArrayPointerAt w x sp at
pointer_worked v w (Root r) sp at worked is = subst (λ (z : View). IsArrayPointerAt z (Root r) sp at) (sym worked) is
pointer_worked v w (In y) sp at worked is =
    subst (λ (z : View). IsArrayPointerAt z (In y) sp at) (sym worked) record {
      way = is.way;
      has = is.has;
      slot = is.slot;
      kind = is.kind;
      inner = is.inner;
      index = is.index;
      span = is.span;
      word = is.word;
    }

pub lead_worked : (v w : View) (sp : Span) (page : ℕ) → WorkedOn v w → IsLeadOf v sp page → IsLeadOf w sp page
lead_worked v w sp page worked is = subst (λ (z : View). IsLeadOf z sp page) (sym worked) is

pub words_worked : (v w : View) (at : ℕ) → WorkedOn v w → at < words_of v.layout → at < words_of w.layout
words_worked v w at worked low = subst (λ (z : View). at < words_of z.layout) (sym worked) low

-- what was compared has no lock
pub low_words : (t : ℕ) (sp : Span) (words : List ℕ) (v w : View) → HasComparedAll t sp words v w → AreLow words
low_words t sp words v w h i less = (h.seen i less).low

-- the pass has locked nothing still
pub row_looked : (t page : ℕ) (sp : Span) (v w : View) → OnlyLooked v w → v.seat.locks ≡ [] → v.took ≡ []
    → HasRow t sp (page_words w.pages page) 0 0 w
row_looked t page sp v w looked locks took = record { locks = looked.locks ∙ locks; took = looked.took ∙ took }

-- ---- the swing

pub can_swing : (x : At) (sp : Span) (at t page word : ℕ) (v a u : View) → CanDrop x sp at t page word v
    → HasComparedAll t sp (page_words v.pages page) v a → HasMoved a u → HasRow t sp (page_words a.pages page) 0 32 u
    → CanSwing u x sp at t page word
can_swing x sp at t page word v a u can compared moved row =
    let worked = worked_then v a u compared.looked.worked moved.worked in
    let leaf = leaf_worked t page sp v u worked can.leaf in
    let pages = same_words page v u worked in
    let before = same_words page v a compared.looked.worked in record {
      keeper = leaf.keeper;
      place = any_pointer u x sp at (pointer_worked v u x sp at worked can.place);
      leads = can.leads;
      there = leaf.there;
      lead = λ some. lead_worked v u sp page worked (can.lead some);
      page = inl record {
        array = leaf.array;
        height = 0;
        exact = can.exact;
        records = λ _ i less.
            let seen = compared.seen i less in record {
              content = seen.content;
              kept = subst (λ list. Contains list (record_part (key_in sp i) (spot t i) seen.content)) (sym moved.parts) seen.has;
              took =
                  subst (λ n. Contains u.took (took_at (key_in sp i) (spot t i) n)) (sym seen.number)
                  (subst (λ list. Contains list (took_at (key_in sp i) (spot t i) (array_word (page_words v.pages page) i)))
                  (sym (row.took ∙ ap (λ ws. took_row t sp ws 0 32) before))
                  (subst (λ j. Contains (took_row t sp (page_words v.pages page) 0 32) (took_at (key_in sp j) (spot t j) (array_word (page_words v.pages page) j)))
                  (plus i) (took_there t sp (page_words v.pages page) 0 32 i less)));
              number = seen.number ∙ ap (λ ws. array_word ws i) (sym pages);
              value = seen.value ∙ ap (λ ws. array_value ws i) (sym pages);
            };
        pointers = λ inner. absurd (true≢false (sym can.leaf.leaf ∙ inner));
        low = λ inner. absurd (true≢false (sym can.leaf.leaf ∙ inner));
        own = λ _ k has. row_keys sp 0 32 k (omega arith) (ap (λ list. has_key list k) (sym row.locks) ∙ has);
        unlocked = λ inner. absurd (true≢false (sym can.leaf.leaf ∙ inner));
      };
    }
  where
    plus : (i : ℕ) → 0 + i ≡ i
    plus i = omega arith

-- the pointer was swung
pub swung_now : (t at page word found : ℕ) (u w : View) → found ≡ word → HasSwung t at page word u found w
    → w ≡ swung t at page found u
swung_now t at page word found u w same h =
    subst (λ c. MatchBool c (w ≡ swung t at page found u) (w ≡ read_at at found u)) (eq-eqb found word same) h

pub may_retire : (t at page found : ℕ) (u w : View) → w ≡ swung t at page found u → MayRetire w t
may_retire t at page found u w is =
    inr
    (inr (inl (ap (λ (z : View). has_slot z.grip.taken t) is ∙ ap (λ (c : Bool). c || has_slot u.grip.taken t) (eq-eqb t t refl))))

-- the slot is given up
pub dropped_now : (t at page found : ℕ) (v a u w z : View) → WorkedOn v u → v.steps ≤ u.steps → u.kept ≡ v.kept
    → w ≡ swung t at page found u → z ≡ retired t w → seen_at u.reads at ≡ seen_at v.reads at → HasDropped t at page v z
dropped_now t at page found v a u w z worked later kept swing retire met =
    let all : z ≡ retired t (swung t at page found (as_worked v u)) =
    retire ∙ (ap (retired t) swing ∙ ap (λ y. retired t (swung t at page found y)) worked) in
    subst (λ (y : View). HasDropped t at page v y) (sym (all ∙ ap (λ list. retired t (swung t at page found (record (as_worked v u) { kept = list }))) kept))
    record {
      is = refl;
      later = omega arith;
      led = (entry_of u.reads at page (kept_at u.reads at), own_entry u.reads at page (kept_at u.reads at), refl, met);
    }

-- ---- it was not

pub not_swung : (t at page word found : ℕ) (u w : View) → found ≢ word → HasSwung t at page word u found w → w ≡ read_at at found u
not_swung t at page word found u w other h =
    subst (λ c. MatchBool c (w ≡ swung t at page found u) (w ≡ read_at at found u)) (ne_eqb found word other) h

-- a page that is kept between locks and their opening
pub keeps_around : (cause : KeptWhy → ℕ → ℕ → Type 0) (k : Kept) (v u a w : View) → WorkedOn v u → v.steps ≤ u.steps
    → u.kept ≡ v.kept → KeepsIt cause k u a → HasMoved a w → w.seat.locks ≡ v.seat.locks → w.took ≡ v.took
    → KeepsIt cause k v w
keeps_around cause k v u a w first later same h last locks took =
    let two = last.later in
    let since = h.kept.since in
    let before = h.kept.before in record {
      worked = worked_then v a w (worked_then v u a first h.worked) last.worked;
      locks = locks;
      took = took;
      kept = record {
        page = h.kept.page;
        is = last.kept ∙ (h.kept.is ∙ ap (λ list. list ++ h.kept.page ∷ []) same);
        told = h.kept.told;
        since = omega arith;
        before = omega arith;
        cause-is = h.kept.cause-is;
      };
    }

-- the swing that found another word
pub saw_other : (t at page word found : ℕ) (u w : View) → found ≢ word → HasSwung t at page word u found w → JustSaw u w at found
saw_other t at page word found u w other h =
    subst (λ (z : View). JustSaw u z at found) (sym (not_swung t at page word found u w other h)) record {
      looked = record { worked = refl; later = omega arith; locks = refl; took = refl; kept = refl };
      step = u.steps;
      last = refl;
      since = omega arith;
      before = omega arith;
    }

-- why the page is kept then
pub keeps_changed : (slots t at word found : ℕ) (words : List ℕ) (k : Kept) (u w z : View)
    → k ≡ record { word = at; seen = found; why = Changed word } → found ≢ word → JustSaw u w at found → IsNoted k w z
    → KeepsIt (IsCauseBelow slots t words at word) k u z
keeps_changed slots t at word found words k u w z is other saw told =
    keeps_it (IsCauseBelow slots t words at word) u w z at found (Changed word) k is saw told (inr (refl, refl, other))

-- locks and what was kept, through a comparison and the locks
pub held_row : (t page : ℕ) (sp : Span) (v a u : View) → HasComparedAll t sp (page_words v.pages page) v a → HasMoved a u
    → HasRow t sp (page_words a.pages page) 0 32 u → HasRow t sp (page_words v.pages page) 0 32 u
held_row t page sp v a u compared moved row =
    subst (λ ws. HasRow t sp ws 0 32 u) (same_words page v a compared.looked.worked) row

-- where the pass stands behind the swing that found another word, and the note of it
pub layout_kept : (at found : ℕ) (k : Kept) (v u w z : View) → WorkedOn v u → w ≡ read_at at found u → IsNoted k w z
    → z.layout ≡ v.layout
layout_kept at found k v u w z worked missed told =
    ap (λ (y : View). y.layout) told.1 ∙ (ap (λ (y : View). y.layout) missed ∙ ap (λ (y : View). y.layout) worked)

-- what was read of other words, through the swing
pub swung_reads : (t at page found : ℕ) (v u w z : View) → KeepsReads t v u → w ≡ swung t at page found u → z ≡ retired t w
    → KeepsReadsBut t at v z
swung_reads t at page found v u w z so swing retire word other out =
    ap (λ (y : View). read_of y.reads word) (retire ∙ ap (retired t) swing)
    ∙ (other_entry u.reads at page (kept_at u.reads at) word other ∙ so word out)
