-- The pointers of an interior page of a tree are gone over, each with all below it.
use Rattle.std.proofs.Common.{◌≡◌, ◌≢◌, inl, inr, ℕ, zero, suc, ◌+◌, ◌<◌, ◌≤◌, Bool, true, false, true≢false, cond, eqb, eq-eqb, ne_eqb, List, [], ◌∷◌, ◌++◌, length}
use Rattle.std.proofs.Common.{Some, None, refl, sym, ap, ◌∙◌, subst, arith}
use Rattle.std.proofs.lemmas.List.{append-nil, append_assoc, length-append, reverse-append}
use Rattle.std.proofs.lemmas.List.Elements.{Contains-append_cases, Contains-append_left, Contains-append_right}
use Rattle.std.specs.Prelude.{reverse, slice_get, ⊤, ◌||◌}
use Rattle.std.specs.List.{Contains}
use Rattle.lists.specs.Elements.{in_cases, in_head, in_none, in_tail}
use Rattle.lists.specs.Fronts.{IsFront, front_length, front_refl, front_then}
use Rattle.homes.specs.declared.places.At.{At}
use Rattle.homes.specs.declared.places.Span.{Span}
use Rattle.snapshot_store.specs.declared.place.PagePlace.{PagePlace}
use Rattle.snapshot_store.specs.TreePages.{tree_format}
use Rattle.drop_core.specs.declared.grip.Grip.{Grip}
use Rattle.drop_core.specs.Table.{has_slot}
use Rattle.engine_pages.specs.declared.layout.Layout.{Layout}
use Rattle.engine_pages.specs.declared.view.KeptPage.{KeptPage}
use Rattle.engine_pages.specs.declared.view.Swung.{Swung}
use Rattle.engine_pages.specs.declared.view.View.{View}
use Rattle.engine_pages.specs.Layout.{page_at}
use Rattle.engine_pages.specs.Resident.{tree_below}
use Rattle.engine_pages.proofs.Named.{page_longer}
use Rattle.pointer_swings.specs.Children.{keys_of}
use Rattle.page_drops.specs.declared.calls.Dropped.{Dropped}
use Rattle.page_drops.specs.Calls.{IsElsewhere}
use Rattle.page_drops.specs.Visits.{dropped_here, note_here, slot_here, swing_here, times}
use Rattle.page_drops.specs.Works.{read_of, IsOutside}
use Rattle.page_drops.proofs.Belows.{held_apart}
use Rattle.page_drops.proofs.Counts.{first_none, first_then}
use Rattle.page_drops.proofs.Stays.{Goes, Spares, times_append, times_in, times_reverse}
use Rattle.tree_drops.specs.declared.branches.Branch.{Branch}
use Rattle.tree_drops.specs.declared.visits.Opened.{Opened}
use Rattle.tree_drops.specs.declared.visits.Target.{Target}
use Rattle.tree_drops.specs.Branches.{IsLeft}
use Rattle.tree_drops.specs.Turns.{page_met, word_of_note, CanGoFrom, HasClosed, HasEnded, HasGoneFrom, IsChildTarget, IsInside, IsRow, LooksIn}
use Rattle.tree_drops.specs.Visits.{AreMet, AreNoted, IsNotedUnder, CanVisit, GoesOver, HasTallied, HasVisited, IsCapped, IsFew, IsMet, IsNoted, MetPage, MetPages}
use Rattle.tree_drops.specs.Visits.{NoPages, PageThen, WasPage, dropped_in, met_at, notes_in, row_length, slots_in, swings_in}
use Rattle.tree_drops.proofs.Ends.{capped_few, capped_then, or_false, tallied_as, visited_ended}
use Rattle.tree_drops.proofs.Notings.{met_less, noted_left, notes_stay, under_stays}
use Rattle.tree_drops.proofs.Overs.{held_over, inners_then, layout_over, over_self, over_then}

-- ---- what was met stays met

pub met_longer : (slots epoch : ℕ) (all more : List (List ℕ)) (m : MetPage) (below : MetPages) → IsFront all more
    → IsMet slots epoch all m below → IsMet slots epoch more m below
met_longer slots epoch all more m below front (inl none) = inl none
met_longer slots epoch all more m below front (inr some) =
    inr (some.0, some.1, (some.2.0, front_then some.2.0 all more some.2.1 front, some.2.2, some.2.3))

pub are_longer : (slots epoch : ℕ) (all more : List (List ℕ)) (met : MetPages) → IsFront all more → AreMet slots epoch all met
    → AreMet slots epoch more met
are_longer slots epoch all more NoPages front are = tt
are_longer slots epoch all more (PageThen m below rest) front are = (
  met_longer slots epoch all more m below front are.0,
  (are_longer slots epoch all more below front are.1.0, are_longer slots epoch all more rest front are.1.1),
)

-- the places below a snapshot's page are the same where more is published
pub below_longer : (xs ys : List (List ℕ)) (sp : Span) (n : ℕ) → IsFront xs ys → n ≤ length xs
    → tree_below ys sp n ≡ tree_below xs sp n
below_longer xs ys sp n front there = ap (λ ws. tree_format.below ws sp.low sp.high) (page_longer xs ys n front there)

-- ---- counts

pub tallied_none : (a : Dropped) → IsFew a → HasTallied a 0 [] a
tallied_none a few = record {
  dropped = inl (let low = few.dropped in omega (arith, low), omega arith);
  kept = inl (let low = few.kept in omega (arith, low), omega arith);
  first = first_none a.first;
}

pub tallied_then : (a b c : Dropped) (d e : ℕ) (xs ys : List KeptPage) → HasTallied a d xs b → HasTallied b e ys c
    → HasTallied a (d + e) (xs ++ ys) c
tallied_then a b c d e xs ys one two = record {
  dropped = capped_then a.dropped b.dropped c.dropped d e one.dropped two.dropped;
  kept = subst (λ n. IsCapped (a.kept + n) c.kept) (sym (length-append xs ys))
      (capped_then a.kept b.kept c.kept (length xs) (length ys) one.kept two.kept);
  first = first_then a.first b.first c.first xs ys one.first two.first;
}

pub tallied_few : (a b : Dropped) (d : ℕ) (xs : List KeptPage) → HasTallied a d xs b → IsFew b
tallied_few a b d xs h = record {
  dropped = capped_few (a.dropped + d) b.dropped h.dropped;
  kept = capped_few (a.kept + length xs) b.kept h.kept;
}

-- ---- words of pages

pub same_place : (slots t u j i : ℕ) → j < 64 → i < 64 → page_at slots t j ≡ page_at slots u i → t ≡ u
same_place slots t u j i less fits is = omega (arith, less, fits, is)

-- slots that were left before, and none of which is left behind that more than once
pub spared_rest : (t : ℕ) (ts own : List ℕ) (u w : View) → w.gone ≡ reverse ts ++ u.gone
    → ((s : ℕ) → Contains own s → 1 ≤ times s u.gone) → ((s : ℕ) → Contains own s → s ≡ t → ⊥)
    → Spares (λ word. IsElsewhere u.layout.slots (t ∷ ts) word) u w own
spared_rest t ts own u w went before apart s has once =
    let sum : times s w.gone ≡ times s (reverse ts) + times s u.gone =
    ap (times s) went ∙ times_append s (reverse ts) u.gone in
    let back = times_reverse s ts in
    let first = before s has in
    let none : times s ts ≡ 0 = omega (arith, sum, back, first, once) in (
      omega (arith, sum, back, first, once),
      λ j less k there i fits is.
          let same = same_place u.layout.slots s k j i less fits is in
          elim (in_cases k t ts there) [
            | inl own ↦ absurd (apart s has (same ∙ sym own))
            | inr more ↦ let one = times_in s ts (subst (Contains ts) (sym same) more) in absurd (omega (arith, one, none))
          ],
    )

-- ---- rows

-- none was met
pub row_looked : (t : ℕ) (v w : View) → LooksIn t v w → IsRow t NoPages v w
row_looked t v w h = record {
  over = h.over;
  kept = h.kept ∙ sym (append-nil v.kept);
  gone = h.gone;
  swung = h.swung ∙ sym (append-nil v.swung);
  fresh = λ u has. absurd (in_none u has);
  others = λ word out. h.reads word (out t (in_head t []));
  known = h.known;
}

-- looks before
pub row_then : (t : ℕ) (met : MetPages) (u v w : View) → LooksIn t u v → IsRow t met v w → IsRow t met u w
row_then t met u v w h row =
    let layout : v.layout ≡ u.layout = layout_over u v h.over in record {
      over = over_then u v w h.over row.over;
      kept = row.kept ∙ ap (λ l. l ++ notes_in met) h.kept;
      gone = row.gone ∙ ap (λ l. reverse (slots_in met) ++ l) h.gone;
      swung = row.swung ∙ ap (λ l. l ++ swings_in met) h.swung;
      fresh = λ s has. sym (ap (λ (z : View). has_slot z.grip.holds s) h.over.went) ∙ row.fresh s has;
      others = λ word out.
          row.others word (λ s has. subst (λ (l : Layout). IsOutside l.slots s word) (sym layout) (out s has))
          ∙ h.reads word (out t (in_head t (slots_in met)));
      known = inners_then u v w h.over h.known row.known;
    }

other_word : (slots t i j : ℕ) → page_at slots t (4 + i) ≡ page_at slots t (4 + j) → i ≡ j
other_word slots t i j same = omega (arith, same)

pub gone_none : (t page count epoch : ℕ) (sp : Span) (n : ℕ) (old : Dropped) (v : View) → n ≡ count → IsFew old
    → HasGoneFrom t sp page count epoch n old v old v
gone_none t page count epoch sp n old v end few = record {
  met = NoPages;
  long = omega (arith, end);
  many = λ less. absurd (omega (arith, less, end));
  each = λ j c under at. absurd (cc);
  before = λ j less. refl;
  noted = λ j c under at. absurd (cc);
  are = tt;
  notes = tt;
  row = record {
    over = over_self v;
    kept = sym (append-nil v.kept);
    gone = refl;
    swung = sym (append-nil v.swung);
    fresh = λ u has. absurd (in_none u has);
    others = λ word out. refl;
    known = λ x has held. has;
  };
  counts = tallied_none old few;
}

-- the first of a pair
pair_first : (p q : MetPage × MetPages) → Some p ≡ Some q → p.0 ≡ q.0
pair_first p q is = ap (λ (x : MetPage × MetPages). x.0) (let same : p ≡ q = cc in same)

-- ---- one more, and the others behind it

module _ (t page count epoch n : ℕ) (sp : Span) (target : Target) (old mid new : Dropped) (v b u w : View) (small : 4 + n < 64)
    (can : CanGoFrom t sp page count epoch v) (child : IsChildTarget t sp page count n epoch v target b)
    (visit : HasVisited target.span target.at target.page target.epoch old b mid u)
    (rest : HasGoneFrom t sp page count epoch (n + 1) mid u new w) where
  abbrev slots : ℕ
  slots = v.layout.slots

  abbrev here : MetPage
  here = visit.here

  abbrev met : MetPages
  met = PageThen visit.here visit.below rest.met

  layout_b : b.layout ≡ v.layout
  layout_b = layout_over v b child.looks.over

  layout_u : u.layout ≡ v.layout
  layout_u = layout_over b u visit.over ∙ layout_b

  first : GoesOver v u
  first = over_then v b u child.looks.over visit.over

  -- what it held it holds
  held_back : (s : ℕ) (w : View) → GoesOver v w → has_slot w.grip.holds s ≡ false → has_slot v.grip.holds s ≡ false
  held_back s w over is = sym (ap (λ (z : View). has_slot z.grip.holds s) over.went) ∙ is

  abbrev own : List ℕ
  own = slots_in (PageThen visit.here visit.below NoPages)

  own_is : own ≡ slots_in visit.below ++ slot_here here.slot
  own_is = append-nil (slots_in visit.below ++ slot_here here.slot)

  -- the words of the page stand in no slot that was met at the pointer
  apart_own : (i : ℕ) → i < 64 → IsElsewhere b.layout.slots own (page_at slots t i)
  apart_own i less s has =
      held_apart b.layout.slots t s i (page_at slots t i) b.grip.holds (held_over t true v b child.looks.over can.held)
      (visit.fresh s has) less (ap (λ (l : Layout). page_at l.slots t i) (sym layout_b))

  -- a pointer before it is as it was
  before_it : (j : ℕ) → j < n → read_of w.reads (page_at slots t (4 + j)) ≡ read_of v.reads (page_at slots t (4 + j))
  before_it j less =
      let place : page_at u.layout.slots t (4 + j) ≡ page_at slots t (4 + j) = ap (λ (l : Layout). page_at l.slots t (4 + j)) layout_u in
      let later : read_of w.reads (page_at slots t (4 + j)) ≡ read_of u.reads (page_at slots t (4 + j)) =
      subst (λ k. read_of w.reads k ≡ read_of u.reads k) place (rest.before j (omega (arith, less))) in
      later
      ∙ (visit.others (page_at slots t (4 + j))
      (λ same. absurd (let one = other_word slots t j n (same ∙ child.at) in omega (arith, less, one)))
      (apart_own (4 + j) (omega (arith, less, small)))
      ∙ child.before (4 + j) (omega (arith, less, small)))

  fresh_all : (s : ℕ) → Contains ((slots_in visit.below ++ slot_here here.slot) ++ slots_in rest.met) s → has_slot v.grip.holds s ≡ false
  fresh_all s has =
      elim (Contains-append_cases (slots_in visit.below ++ slot_here here.slot) (slots_in rest.met) s has) [
        | inl low ↦ held_back s b child.looks.over (visit.fresh s (subst (λ l. Contains l s) (sym own_is) low))
        | inr more ↦ held_back s u first (rest.row.fresh s more)
      ]

  others_all : (word : ℕ) → IsElsewhere slots (t ∷ ((slots_in visit.below ++ slot_here here.slot) ++ slots_in rest.met)) word
      → read_of w.reads word ≡ read_of v.reads word
  others_all word out =
      let away : (l : Layout) (s : ℕ) → l ≡ v.layout → IsOutside slots s word → IsOutside l.slots s word =
      λ l s is far. subst (λ (y : Layout). IsOutside y.slots s word) (sym is) far in
      let mine : IsOutside slots t word = out t (in_head t ((slots_in visit.below ++ slot_here here.slot) ++ slots_in rest.met)) in
      let below : (s : ℕ) → Contains ((slots_in visit.below ++ slot_here here.slot) ++ slots_in rest.met) s → IsOutside slots s word =
      λ s has. out s (in_tail s t ((slots_in visit.below ++ slot_here here.slot) ++ slots_in rest.met) has) in
      rest.row.others word
      (λ s has. elim (in_cases s t (slots_in rest.met) has) [
        | inl same ↦ subst (λ y. IsOutside u.layout.slots y word) same (away u.layout t layout_u mine)
        | inr more ↦ away u.layout s layout_u
            (below s (Contains-append_right (slots_in visit.below ++ slot_here here.slot) (slots_in rest.met) s more))
      ])
      ∙ (visit.others word (λ same. mine (4 + n) small (same ∙ child.at))
      (λ s has. away b.layout s layout_b
      (below s
      (Contains-append_left (slots_in visit.below ++ slot_here here.slot) (slots_in rest.met) s
      (subst (λ l. Contains l s) own_is has))))
      ∙ child.looks.reads word mine)

  -- what was met at the pointer, with its place
  each_here : (q : PagePlace) × (slice_get (tree_below v.pages sp page) (n + 0) ≡ Some q)
      × (here.at ≡ page_at slots t (4 + (n + 0))) × (here.span ≡ keys_of sp q) × (here.page ≡ q.number) × (here.half ≡ None)
  each_here =
      let same : n ≡ n + 0 = omega arith in (
        child.child,
        subst (λ k. slice_get (tree_below v.pages sp page) k ≡ Some child.child) same child.is,
        subst (λ k. here.at ≡ page_at slots t (4 + k)) same (visit.place ∙ child.at),
        visit.span ∙ child.span,
        visit.number ∙ child.number,
        visit.whole,
      )

  each_more : (j : ℕ) (c : MetPage) (under : MetPages) → met_at j rest.met ≡ Some (c, under)
      → (q : PagePlace) × (slice_get (tree_below v.pages sp page) (n + suc j) ≡ Some q)
      × (c.at ≡ page_at slots t (4 + (n + suc j))) × (c.span ≡ keys_of sp q) × (c.page ≡ q.number) × (c.half ≡ None)
  each_more j c under at =
      let r = rest.each j c under at in
      let same : (n + 1) + j ≡ n + suc j = omega arith in
      let pages : tree_below u.pages sp page ≡ tree_below v.pages sp page =
      below_longer v.pages u.pages sp page first.front can.opened.at.tree.there in (
        r.0,
        subst (λ k. slice_get (tree_below v.pages sp page) k ≡ Some r.0) same
            (ap (λ l. slice_get l ((n + 1) + j)) (sym pages) ∙ r.1),
        subst (λ k. c.at ≡ page_at slots t (4 + k)) same
            (r.2 ∙ ap (λ (l : Layout). page_at l.slots t (4 + ((n + 1) + j))) layout_u),
        r.3,
        r.4,
        r.5,
      )

  each_all : (j : ℕ) (c : MetPage) (under : MetPages) → met_at j met ≡ Some (c, under)
      → (q : PagePlace) × (slice_get (tree_below v.pages sp page) (n + j) ≡ Some q)
      × (c.at ≡ page_at slots t (4 + (n + j))) × (c.span ≡ keys_of sp q) × (c.page ≡ q.number) × (c.half ≡ None)
  each_all zero c under at =
      let same : here ≡ c = pair_first (here, visit.below) (c, under) at in
      subst (λ (m : MetPage). (q : PagePlace) × (slice_get (tree_below v.pages sp page) (n + 0) ≡ Some q)
      × (m.at ≡ page_at slots t (4 + (n + 0))) × (m.span ≡ keys_of sp q) × (m.page ≡ q.number) × (m.half ≡ None)) same each_here
  each_all (suc j) c under at = each_more j c under at

  -- it is noted so still
  noted_here : IsNoted w here
  noted_here =
      let place : here.at ≡ page_at u.layout.slots t (4 + n) =
      visit.place ∙ (child.at ∙ ap (λ (l : Layout). page_at l.slots t (4 + n)) (sym layout_u)) in
      let same : read_of w.reads here.at ≡ read_of u.reads here.at =
      subst (λ k. read_of w.reads k ≡ read_of u.reads k) (sym place) (rest.before n (omega arith)) in
      record { read = visit.noted.read; is = same ∙ visit.noted.is; sight = visit.noted.sight }

  noted_all : (j : ℕ) (c : MetPage) (under : MetPages) → met_at j met ≡ Some (c, under) → IsNoted w c
  noted_all zero c under at = let same : here ≡ c = pair_first (here, visit.below) (c, under) at in subst (λ (m : MetPage). IsNoted w m) same noted_here
  noted_all (suc j) c under at = rest.noted j c under at

  abbrev notes_own : List KeptPage
  notes_own = notes_in visit.below ++ note_here here.kept

  abbrev swings_own : List Swung
  swings_own = swings_in visit.below ++ swing_here here.at here.slot here.kept

  abbrev slots_own : List ℕ
  slots_own = slots_in visit.below ++ slot_here here.slot

  kept_all : w.kept ≡ v.kept ++ notes_in met
  kept_all =
      rest.row.kept
      ∙ (ap (λ l. l ++ notes_in rest.met)
      (visit.kept
      ∙ (ap (λ l. l ++ (notes_own ++ [])) child.looks.kept ∙ ap (λ l. v.kept ++ l) (append-nil notes_own)))
      ∙ append_assoc v.kept notes_own (notes_in rest.met))

  swung_all : w.swung ≡ v.swung ++ swings_in met
  swung_all =
      rest.row.swung
      ∙ (ap (λ l. l ++ swings_in rest.met)
      (visit.swung
      ∙ (ap (λ l. l ++ (swings_own ++ [])) child.looks.swung ∙ ap (λ l. v.swung ++ l) (append-nil swings_own)))
      ∙ append_assoc v.swung swings_own (swings_in rest.met))

  gone_all : w.gone ≡ reverse (slots_in met) ++ v.gone
  gone_all =
      rest.row.gone
      ∙ (ap (λ l. reverse (slots_in rest.met) ++ l)
      (visit.gone
      ∙ (ap (λ l. reverse own ++ l) child.looks.gone ∙ ap (λ l. reverse l ++ v.gone) own_is))
      ∙ (sym (append_assoc (reverse (slots_in rest.met)) (reverse slots_own) v.gone)
      ∙ ap (λ l. l ++ v.gone) (sym (reverse-append slots_own (slots_in rest.met)))))

  are_all : AreMet slots epoch w.pages met
  are_all =
      let met_u : IsMet slots epoch u.pages here visit.below =
      subst (λ e. IsMet slots e u.pages here visit.below) child.epoch_is
      (subst (λ (l : Layout). IsMet l.slots target.epoch u.pages here visit.below) layout_u visit.met) in
      let under_u : AreMet slots epoch u.pages visit.below =
      subst (λ e. AreMet slots e u.pages visit.below) child.epoch_is
      (subst (λ (l : Layout). AreMet l.slots target.epoch u.pages visit.below) layout_u visit.under) in
      let front = rest.row.over.front in (
        met_longer slots epoch u.pages w.pages here visit.below front met_u,
        (
          are_longer slots epoch u.pages w.pages visit.below front under_u,
          subst (λ (l : Layout). AreMet l.slots epoch w.pages rest.met) layout_u rest.are,
        ),
      )

  -- what is noted below the page that was met here stays so
  abbrev Elsewhere : ℕ → Type 0
  Elsewhere word = IsElsewhere u.layout.slots (t ∷ slots_in rest.met) word

  goes_on : Goes Elsewhere u w
  goes_on = record {
    layout = layout_over u w rest.row.over;
    front = rest.row.over.front;
    reads = λ word out. rest.row.others word out;
  }

  -- its slots were left, and no later one is one of these
  spared_here : Spares Elsewhere u w own
  spared_here =
      spared_rest t (slots_in rest.met) own u w rest.row.gone
      (λ s has.
      let in_gone = times_reverse s own in
      let one = times_in s own has in
      let sum : times s u.gone ≡ times s (reverse own) + times s b.gone =
      ap (times s) visit.gone ∙ times_append s (reverse own) b.gone in omega (arith, in_gone, one, sum))
      (λ s has same. true≢false (sym (held_over t true v b child.looks.over can.held)
      ∙ (ap (λ i. has_slot b.grip.holds i) (sym same) ∙ visit.fresh s has)))

  notes_all : AreNoted w met
  notes_all =
      let h = notes_stay Elsewhere u w goes_on (PageThen visit.here visit.below NoPages) spared_here visit.notes in
      (h.0, (h.1.0, rest.notes))

  pub gone_next : HasGoneFrom t sp page count epoch n old v new w
  gone_next = record {
    met = met;
    long = let long = rest.long in omega (arith, long);
    many = λ less. child.many;
    each = each_all;
    before = before_it;
    noted = noted_all;
    are = are_all;
    notes = notes_all;
    row = record {
      over = over_then v u w first rest.row.over;
      kept = kept_all;
      gone = gone_all;
      swung = swung_all;
      fresh = fresh_all;
      others = others_all;
      known = inners_then v b w child.looks.over child.looks.known (inners_then b u w visit.over visit.known rest.row.known);
    };
    counts = tallied_as old new ((((dropped_in visit.below + dropped_here here.slot here.kept) + 0)) + dropped_in rest.met)
        ((dropped_in visit.below + dropped_here here.slot here.kept) + dropped_in rest.met)
        ((notes_own ++ []) ++ notes_in rest.met) (notes_own ++ notes_in rest.met) (omega arith)
        (ap (λ l. l ++ notes_in rest.met) (append-nil notes_own))
        (tallied_then old mid new ((dropped_in visit.below + dropped_here here.slot here.kept) + 0) (dropped_in rest.met)
        (notes_own ++ []) (notes_in rest.met) visit.counts rest.counts);
  }

-- ---- a page all of whose pointers were gone over

module _ (x : At) (sp : Span) (at page epoch : ℕ) (found : Opened) (old mid new : Dropped) (v u m w : View)
    (can : CanVisit x sp at page epoch v) (i : IsInside sp at page found v u)
    (gone : HasGoneFrom found.slot sp page found.count epoch 0 old u mid m) (close : HasClosed sp at page found.slot found.count mid m new w) where
  abbrev t : ℕ
  t = found.slot

  layout_m : m.layout ≡ u.layout
  layout_m = layout_over u m gone.row.over

  places : tree_below m.pages sp page ≡ tree_below u.pages sp page
  places = below_longer u.pages m.pages sp page gone.row.over.front i.opened.opened.at.tree.there

  -- it has a pointer
  some_pointer : 0 < found.count
  some_pointer = let long = i.opened.opened.at.long in omega (arith, long)

  was_branch : WasPage m.layout.slots t epoch m.pages (page_met at sp page t close.note) gone.met
  was_branch = inr (inr (inl record {
    some = i.opened.some;
    all = all_of (gone.many some_pointer) ∙ sym (ap (λ l. length l) places);
    each = λ j c under has.
        let r = gone.each j c under has in
        let same : 0 + j ≡ j = omega arith in (
          r.0,
          ap (λ l. slice_get l j) places ∙ subst (λ k. slice_get (tree_below u.pages sp page) k ≡ Some r.0) same r.1,
          subst (λ k. c.at ≡ page_at u.layout.slots t (4 + k)) same r.2
              ∙ ap (λ (l : Layout). page_at l.slots t (4 + j)) (sym layout_m),
          r.3,
          r.4,
          r.5,
        );
    cause = close.done.so;
  }))
    where
      all_of : length (tree_below u.pages sp page) ≡ found.count → row_length gone.met ≡ length (tree_below u.pages sp page)
      all_of many = let long = gone.long in omega (arith, long, many)

  own_row : IsRow t gone.met i.entered m
  own_row = row_then t gone.met i.entered u m (subst (λ n. LooksIn n i.entered u) (sym i.opened.slot) i.opened.looks) gone.row

  layout_e : i.entered.layout ≡ m.layout
  layout_e = sym (layout_over i.entered m own_row.over)

  -- ---- what is noted below it

  held_here : has_slot u.grip.holds t ≡ true
  held_here =
      ap (λ (z : View). has_slot z.grip.holds t) i.opened.looks.over.went
      ∙ (ap (λ (g : Grip). has_slot g.holds t) i.inside.grip
      ∙ ap (λ (b : Bool). b || has_slot v.grip.holds t) (eq-eqb i.held.slot t (sym i.opened.slot)))

  -- words outside of the page, but for the pointer above
  abbrev Beyond : ℕ → Type 0
  Beyond word = (word ≢ at) × IsOutside m.layout.slots t word

  goes_out : Goes Beyond m w
  goes_out = record {
    layout = ap (λ (z : View). z.layout) close.leaves ∙ layout_over m close.mid close.done.over;
    front = subst (λ (z : View). IsFront m.pages z.pages) (sym close.leaves) close.done.over.front;
    reads = λ word out. ap (λ (z : View). read_of z.reads word) close.leaves ∙ close.done.others word out.0 out.1;
  }

  gone_out : w.gone ≡ t ∷ m.gone
  gone_out = ap (λ (z : View). z.gone) close.leaves ∙ ap (λ (l : List ℕ). t ∷ l) close.done.gone

  -- a slot below is none that was held, so it isn't the page's, nor that of the page where the pointer above stands
  apart_below : (s : ℕ) → Contains (slots_in gone.met) s → (s ≡ t → ⊥) × (has_slot v.grip.holds s ≡ false)
  apart_below s has =
      let fresh = gone.row.fresh s has in
      let now : has_slot u.grip.holds s ≡ (eqb i.held.slot s || has_slot v.grip.holds s) =
      ap (λ (z : View). has_slot z.grip.holds s) i.opened.looks.over.went ∙ ap (λ (g : Grip). has_slot g.holds s) i.inside.grip in (
        λ same. true≢false (sym held_here ∙ (ap (λ k. has_slot u.grip.holds k) (sym same) ∙ fresh)),
        or_false (eqb i.held.slot s) (has_slot v.grip.holds s) (sym now ∙ fresh),
      )

  layout_v : m.layout ≡ v.layout
  layout_v =
      layout_m
      ∙ (layout_over i.entered u i.opened.looks.over ∙ ap (λ (z : View). z.layout) i.inside.over.went)

  spared_below : Spares Beyond m w (slots_in gone.met)
  spared_below s has once =
      let far = apart_below s has in
      let sum : times s w.gone ≡ cond (eqb s t) 1 0 + times s m.gone = ap (times s) gone_out in
      let none : ◌≡◌ {A = ℕ} (cond (eqb s t) 1 0) 0 = ap (λ (b : Bool). cond b 1 0) (ne_eqb s t far.0) in (
        omega (arith, sum, none, once),
        λ j less. (
          λ is.
              can.apart s far.1 j less
              (sym is ∙ ap (λ (l : Layout). page_at l.slots s j) layout_v),
          λ k fits is. far.0 (same_place m.layout.slots s t j k less fits is),
        ),
      )

  -- a pointer of the page is noted, as it was closed
  noted_child : (j : ℕ) (c : MetPage) (under : MetPages) → met_at j gone.met ≡ Some (c, under)
      → ((k : ℕ) × (k < 64) × (c.at ≡ page_at w.layout.slots t k)) × IsNotedUnder close.note w c
  noted_child j c under has =
      let r = gone.each j c under has in
      let less = met_less gone.met j (c, under) has in
      let long = gone.long in
      let few = i.opened.opened.at.few in
      let index : 0 + j ≡ j = omega arith in
      let place : c.at ≡ page_at m.layout.slots t (4 + j) =
      subst (λ k. c.at ≡ page_at u.layout.slots t (4 + k)) index r.2 ∙ ap (λ (l : Layout). page_at l.slots t (4 + j)) (sym layout_m) in
      let there : slice_get (tree_below m.pages sp page) j ≡ Some r.0 =
      ap (λ l. slice_get l j) places ∙ subst (λ k. slice_get (tree_below u.pages sp page) k ≡ Some r.0) index r.1 in
      let left = close.lefts j r.0 (omega arith) (omega (arith, less, long)) there in
      let as_met : IsLeft (word_of_note close.note) c.at c.page m close.mid =
      subst (λ k. IsLeft (word_of_note close.note) k c.page m close.mid) (sym place)
      (subst (λ k. IsLeft (word_of_note close.note) (page_at m.layout.slots t (4 + j)) k m close.mid) (sym r.4) left) in
      let mid = noted_left close.note c m close.mid (gone.noted j c under has) as_met in (
        (
          4 + j,
          omega (arith, less, long, few),
          place ∙ ap (λ (l : Layout). page_at l.slots t (4 + j)) (sym goes_out.layout),
        ),
        under_stays (λ word. ⊤) close.mid w
            record {
              layout = ap (λ (z : View). z.layout) close.leaves;
              front = subst (λ (z : View). IsFront close.mid.pages z.pages) (sym close.leaves) (front_refl close.mid.pages);
              reads = λ word may. ap (λ (z : View). read_of z.reads word) close.leaves;
            }
            close.note c tt mid,
      )

  notes_closed : AreNoted w (PageThen (page_met at sp page t close.note) gone.met NoPages)
  notes_closed = (
    λ s slot j c under has whole.
        let same : t ≡ s = let one : Some t ≡ Some s = slot in cc in
        let h = noted_child j c under has in
        (subst (λ k. (i : ℕ) × (i < 64) × (c.at ≡ page_at w.layout.slots k i)) same h.0, λ once. h.1),
    (notes_stay Beyond m w goes_out gone.met spared_below gone.notes, tt),
  )

  pub ended_branch : HasEnded sp at page epoch t old i.entered new w
  ended_branch =
      let left_pages : w.pages ≡ close.mid.pages = ap (λ (z : View). z.pages) close.leaves in
      let front : IsFront m.pages w.pages = subst (λ ps. IsFront m.pages ps) (sym left_pages) close.done.over.front in record {
        below = gone.met;
        note = close.note;
        over = m;
        mid = close.mid;
        row = own_row;
        done = record {
          over = close.done.over;
          kept = close.done.kept;
          gone = close.done.gone;
          swung = close.done.swung;
          sight = close.done.sight;
          others = close.done.others;
          known = close.done.known;
          so = λ k is. tt;
        };
        leaves = close.leaves;
        pages = m.pages;
        front = front;
        there = let low = i.opened.opened.at.tree.there in let long = front_length u.pages m.pages gone.row.over.front in
            omega (arith, low, long);
        was = subst (λ (l : Layout). WasPage l.slots t epoch m.pages (page_met at sp page t close.note) gone.met) (sym layout_e) was_branch;
        under = subst (λ (l : Layout). AreMet l.slots epoch w.pages gone.met) (layout_m_e)
            (are_longer u.layout.slots epoch m.pages w.pages gone.met front gone.are);
        notes = notes_closed;
        counts = tallied_then old mid new (dropped_in gone.met) (dropped_here (Some t) close.note) (notes_in gone.met)
            (note_here close.note) gone.counts close.counts;
      }
    where
      layout_m_e : u.layout ≡ i.entered.layout
      layout_m_e = layout_over i.entered u i.opened.looks.over

  pub visited_branch : HasVisited sp at page epoch old v new w
  visited_branch =
      visited_ended x sp at page epoch i.held old new v i.entered w can i.inside i.inners
      (subst (λ n. HasEnded sp at page epoch n old i.entered new w) i.opened.slot ended_branch)

-- ---- a page that is gone into, as it is handed on

pub inner_as : (b : Branch) (slot count page epoch : ℕ) (sp : Span) (w : View)
    → b ≡ record { slot = slot; span = sp; count = count; page = page } → CanGoFrom slot sp page count epoch w
    → CanGoFrom b.slot b.span b.page b.count epoch w
inner_as b slot count page epoch sp w is h =
    subst (λ (z : Branch). CanGoFrom z.slot z.span z.page z.count epoch w) (sym is) h

pub gone_as : (b : Branch) (slot count page epoch other : ℕ) (sp : Span) (old new : Dropped) (v w : View)
    → b ≡ record { slot = slot; span = sp; count = count; page = page } → epoch ≡ other
    → HasGoneFrom b.slot b.span b.page b.count epoch 0 old v new w → HasGoneFrom slot sp page count other 0 old v new w
gone_as b slot count page epoch other sp old new v w is same h =
    subst (λ n. HasGoneFrom slot sp page count n 0 old v new w) same
    (subst (λ (z : Branch). HasGoneFrom z.slot z.span z.page z.count epoch 0 old v new w) is h)

pub visited_few : (sp : Span) (at page epoch : ℕ) (old new : Dropped) (v w : View) → HasVisited sp at page epoch old v new w → IsFew new
visited_few sp at page epoch old new v w h =
    tallied_few old new (dropped_in (PageThen h.here h.below NoPages)) (notes_in (PageThen h.here h.below NoPages)) h.counts

pub gone_few : (t page count epoch n : ℕ) (sp : Span) (old new : Dropped) (v w : View)
    → HasGoneFrom t sp page count epoch n old v new w → IsFew new
gone_few t page count epoch n sp old new v w h = tallied_few old new (dropped_in h.met) (notes_in h.met) h.counts
