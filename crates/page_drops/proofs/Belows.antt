-- The pointers of a page are gone over, one after another.
use Rattle.std.proofs.Common.{◌≡◌, ◌⊎◌, inl, inr, ℕ, zero, suc, ◌+◌, ◌-◌, ◌*◌, ◌<◌, ◌≤◌, true, false, true≢false, List, [], ◌∷◌, ◌++◌}
use Rattle.std.proofs.Common.{length, length-append, get_or, refl, sym, ap, ◌∙◌, subst, arith, Some}
use Rattle.std.proofs.Math.Nat.{mul-le-mul_left, mul-le-mul_right, mul-suc, suc-mul}
use Rattle.std.proofs.lemmas.Grind.{flat_map-append}
use Rattle.std.proofs.lemmas.List.{append-nil, append_assoc, reverse-append}
use Rattle.std.proofs.lemmas.List.Elements.{Contains-append_cases, Contains-append_left, Contains-append_right}
use Rattle.std.specs.Prelude.{reverse}
use Rattle.std.specs.List.{Contains, flat_map, slice_get}
use Rattle.lists.specs.Elements.{at_below, at_in, in_cases, in_head, in_none, in_tail}
use Rattle.lists.specs.Fronts.{IsFront, front_length, front_refl}
use Rattle.homes.specs.declared.places.Span.{Span}
use Rattle.snapshot_store.specs.Places.{page as page_words}
use Rattle.drop_core.specs.Table.{at_index, has_slot}
use Rattle.engine_rule.proofs.ReadLists.{in_flat}
use Rattle.engine_pages.specs.declared.layout.Layout.{Layout}
use Rattle.engine_pages.specs.declared.view.KeptPage.{KeptPage}
use Rattle.engine_pages.specs.declared.view.Swung.{Swung}
use Rattle.engine_pages.specs.declared.view.View.{View}
use Rattle.engine_pages.specs.Layout.{page_at, words_of}
use Rattle.engine_pages.specs.Pages.{child_size, child_span, is_array}
use Rattle.engine_pages.proofs.Named.{page_longer}
use Rattle.page_drops.specs.declared.calls.Dropped.{Dropped}
use Rattle.page_drops.specs.Calls.{CanVisit, CanVisitBelow, GoesOver, HasRoom, HasVisited, HasVisitedBelow, HasCounted, IsElsewhere}
use Rattle.page_drops.specs.Calls.{IsNode, IsWayDown, WentOver}
use Rattle.page_drops.specs.Inner.{AtInner, HasChild}
use Rattle.page_drops.specs.Visits.{Met, sum_met}
use Rattle.page_drops.specs.Works.{read_of, IsOutside}
use Rattle.page_drops.proofs.Counts.{counted_none, counted_then, sum_few}
use Rattle.page_drops.proofs.Goings.{bare_over, over_self, over_then}
use Rattle.page_drops.proofs.Heights.{indexes_some, size_is}
use Rattle.page_drops.proofs.Inners.{pointer_there}
use Rattle.page_drops.proofs.Laters.{StaysFor, later_stays, stays_within}
use Rattle.page_drops.proofs.Sights.{saw_same}

-- ---- where the pass stands

-- a child's page was found
pub child_over : (sp : Span) (page j n : ℕ) (u a : View) → HasChild sp page j u n a → GoesOver u a
child_over sp page j n u a h =
    let is = (h.went).shut in
    let plain : a ≡ record u { steps = a.steps; last = a.last; reads = a.reads; leads = a.leads; kept = a.kept } =
    is ∙ ap (λ list. let z : View = record u { steps = a.steps; last = a.last; reads = a.reads; leads = a.leads; shuts = list; kept = a.kept } in z) h.shuts in record {
      went = subst (λ (z : View). WentOver u z) (sym plain) refl;
      later = (h.went).later;
      front = subst (λ pages. IsFront u.pages pages) (sym (ap (λ (z : View). z.pages) is)) (front_refl u.pages);
      leads = (h.went).leads;
      more = saw_same u a (ap (λ (z : View). z.history) is) (ap (λ (z : View). z.decided) is) (ap (λ (z : View). z.touched) is);
    }

-- the interior page is held and known still
pub inner_over : (t page : ℕ) (sp : Span) (v u : View) → GoesOver v u → AtInner t sp page v → AtInner t sp page u
inner_over t page sp v u over h =
    let is = over.went in record {
      keeper = ap (λ (z : View). z.role) is ∙ h.keeper;
      idle = ap (λ (z : View). z.seat.stage) is ∙ h.idle;
      way = subst (λ ways. Contains ways (record { slot = t; span = sp })) (sym (ap (λ (z : View). z.ways) is)) h.way;
      slot = subst (λ (l : Layout). t < l.slots) (sym (ap (λ (z : View). z.layout) is)) h.slot;
      array = ap (λ (z : View). is_array z.layout.decls sp.storage) is ∙ h.array;
      inner = h.inner;
      height = h.height;
      exact = h.exact;
      high = h.high;
      there = let long = front_length v.pages u.pages over.front in let low = h.there in omega (arith, long, low);
      room = subst (λ (l : Layout). page ≤ l.resident) (sym (ap (λ (z : View). z.layout) is)) h.room;
      lead = λ some. let x = h.lead some in (x.0, over.leads x.0 x.1, x.2, x.3);
      took = ap (λ (z : View). z.took) is ∙ h.took;
      heads = ap (λ (z : View). z.heads) is ∙ h.heads;
    }

pub layout_over : (v u : View) → GoesOver v u → u.layout ≡ v.layout
layout_over v u over = ap (λ (z : View). z.layout) over.went

pub grip_over : (v u : View) (t : ℕ) → GoesOver v u → has_slot u.grip.holds t ≡ has_slot v.grip.holds t
grip_over v u t over = ap (λ (z : View). has_slot z.grip.holds t) over.went

-- ---- the words of a page that is held

same_slot : (slots t u j i : ℕ) → j < 64 → i < 64 → ((32 + slots) + 64 * t) + j ≡ ((32 + slots) + 64 * u) + i → t ≡ u
same_slot slots t u j i less fits is = omega (arith, less, fits, is)

-- stand in no page of another slot
pub held_apart : (slots t u j word : ℕ) (holds : List ℕ) → has_slot holds t ≡ true → has_slot holds u ≡ false → j < 64
    → word ≡ page_at slots t j → IsOutside slots u word
held_apart slots t u j word holds held free few is i less at =
    let same : t ≡ u = same_slot slots t u j i few less (sym is ∙ at) in
    true≢false (sym held ∙ (ap (λ s. has_slot holds s) same ∙ free))

pub in_words : (l : Layout) (t j at : ℕ) → t < l.slots → j < 64 → at ≡ page_at l.slots t j → at < words_of l
in_words l t j at slot few is = omega (arith, slot, few, is)

-- ---- what a visit of one of its pointers is asked

part_high : (low high c j : ℕ) → high ≡ low + (64 * c - 1) → 0 < c → j < 64 → (low + j * c) + (c - 1) ≤ high
part_high low high c j is some few =
    let most : suc j * c ≤ 64 * c = mul-le-mul_right c few in
    let more : suc j * c ≡ j * c + c = suc-mul j c in omega (arith, is, some, most, more)

pub can_visit : (height t page j child word : ℕ) (sp part : Span) (v u a : View) → CanVisitBelow height t sp page v → GoesOver v u
    → HasChild sp page j u child a → j < 64 → part ≡ child_span sp j → word ≡ page_at a.layout.slots t j
    → word < words_of a.layout → CanVisit height (at_index t j) part word child a
can_visit height t page j child word sp part v u a can over found few is place inside =
    let all = over_then v u a over (child_over sp page j child u a found) in
    let at = inner_over t page sp v a all can.inner in
    let size = size_is sp height can.exact in
    subst (λ (z : Span). CanVisit height (at_index t j) z word child a) (sym is) record {
      bare = bare_over v a all.went can.bare;
      down = subst (λ (l : Layout). IsWayDown l.decls height a.ways) (sym (layout_over v a all))
          (subst (λ ways. IsWayDown v.layout.decls height ways) (sym (ap (λ (z : View). z.ways) all.went)) can.down);
      place = pointer_there t page j word sp a at few place;
      inside = inside;
      apart = λ s free. held_apart a.layout.slots t s j word a.grip.holds (grip_over v a t all ∙ can.held) free few place;
      array = at.array;
      exact = ap (λ n. (sp.low + j * child_size sp) + (n - 1)) size;
      high = let low = part_high sp.low sp.high (child_size sp) j
          (can.exact ∙ ap (λ n. sp.low + (64 * n - 1)) (sym size)) (subst (λ n. 0 < n) (sym size) (indexes_some height)) few in
          let top = at.high in omega (arith, low, top);
      there = let known = found.known in let long = front_length u.pages a.pages (child_over sp page j child u a found).front in
          omega (arith, known, long);
      room = subst (λ (l : Layout). child ≤ l.resident) (sym (layout_over u a (child_over sp page j child u a found))) found.there;
      lead = found.lead;
    }

-- ---- nodes

in_reverse : (s : ℕ) (xs : List ℕ) → Contains xs s → Contains (reverse xs) s
in_reverse s [] has = absurd (in_none s has)
in_reverse s (x ∷ xs) has =
    subst (λ list. Contains list s) (sym (reverse-append (x ∷ []) xs))
    (elim (in_cases s x xs has) [
      | inl same ↦ Contains-append_right (reverse xs) (x ∷ []) s (subst (λ z. Contains (z ∷ []) s) (sym same) (in_head s []))
      | inr more ↦ Contains-append_left (reverse xs) (x ∷ []) s (in_reverse s xs more)
    ])

-- an item of a list with one more is one of the list, or the new one
push_cases : {A : Type 0} → (xs : List A) (y : A) (i : ℕ) (x : A) → slice_get (xs ++ y ∷ []) i ≡ Some x
    → (slice_get xs i ≡ Some x) ⊎ ((i ≡ length xs) × (y ≡ x))
push_cases [] y zero x at = inr (refl, some_same at)
  where
    some_same : Some y ≡ Some x → y ≡ x
    some_same is = cc
push_cases [] y (suc i) x at = absurd (let less = at_below (y ∷ []) (suc i) x at in omega (arith, less))
push_cases (z ∷ xs) y zero x at = inl at
push_cases (z ∷ xs) y (suc i) x at = elim (push_cases xs y i x at) [
  | inl old ↦ inl old
  | inr new ↦ inr (ap suc new.0, new.1)
]

sum_push : {A : Type 0} → (f : A → ℕ) (xs : List A) (y : A) → sum_met f (xs ++ y ∷ []) ≡ sum_met f xs + f y
sum_push f [] y = omega arith
sum_push f (x ∷ xs) y = let rest = sum_push f xs y in omega (arith, rest)

flat_push : {A X : Type 0} → (f : A → List X) (xs : List A) (y : A) → flat_map f (xs ++ y ∷ []) ≡ flat_map f xs ++ f y
flat_push f xs y = flat_map-append f xs (y ∷ []) ∙ ap (λ list. flat_map f xs ++ list) (append-nil (f y))

other_word : (slots t i j : ℕ) → page_at slots t i ≡ page_at slots t j → i ≡ j
other_word slots t i j same = omega (arith, same)

-- a node stands behind more, where the word of its pointer is as it was seen
node_went : (B : Type 0) (stands : View → Met B → Type 0) (sp : Span) (number now word : ℕ) (u w : View) (m : Met B)
    → now ≡ number → read_of w.reads m.at ≡ read_of u.reads m.at → stands w m → IsNode B stands sp number word u m
    → IsNode B stands sp now word w m
node_went B stands sp number now word u w m same seen tree node = record {
  at = node.at;
  span = node.span;
  page = node.page ∙ sym same;
  noted = record {
    read = (node.noted).read;
    is = seen ∙ (node.noted).is;
    sight = (node.noted).sight;
    before = (node.noted).before;
  };
  tree = tree;
}

-- none was gone over yet
pub none_below : (B : Type 0) (f : Met B → ℕ) (g : Met B → List KeptPage) (h : Met B → List ℕ) (q : Met B → List Swung)
    (stands : View → Met B → Type 0) (t page : ℕ) (sp : Span) (old : Dropped) (v : View)
    → HasVisitedBelow (Met B) f g h q (IsNode B stands) t sp page 0 old v old v
none_below B f g h q stands t page sp old v = record {
  met = [];
  long = refl;
  each = λ j m at. absurd (let none : List (Met B) = [] in let less = at_below none j m at in omega (arith, less));
  over = over_self v;
  kept = sym (append-nil v.kept);
  gone = refl;
  swung = sym (append-nil v.swung);
  fresh = λ u has. absurd (in_none u has);
  counts = counted_none old;
  others = λ word elsewhere. refl;
}

-- what stands of a node stays so, by the slots in which it was met
abbrev pub Stays : (B : Type 0) (h : Met B → List ℕ) (stands : View → Met B → Type 0) → Type 0
Stays B h stands = (v w : View) (m : Met B) → StaysFor (h m) v w → stands v m → stands w m

module _ (B : Type 0) (f : Met B → ℕ) (g : Met B → List KeptPage) (h : Met B → List ℕ) (q : Met B → List Swung)
    (stands : View → Met B → Type 0) (stays : Stays B h stands) (t page j n word : ℕ) (sp part : Span) (old sum new : Dropped) (v u a w : View)
    (there : page ≤ length v.pages) (held : has_slot v.grip.holds t ≡ true) (few : j < 64)
    (before : HasVisitedBelow (Met B) f g h q (IsNode B stands) t sp page j old v sum u) (child : HasChild sp page j u n a)
    (is : part ≡ child_span sp j) (place : word ≡ page_at v.layout.slots t j)
    (visit : HasVisited (Met B) f g h q (IsNode B stands part n word) word sum a new w) where
  abbrev now : Met B
  now = visit.met

  abbrev found : GoesOver u a
  found = child_over sp page j n u a child

  abbrev after : GoesOver u w
  after = over_then u a w found visit.over

  abbrev slots : ℕ
  slots = v.layout.slots

  layout_u : u.layout ≡ v.layout
  layout_u = layout_over v u before.over

  layout_a : a.layout ≡ v.layout
  layout_a = layout_over u a found ∙ layout_u

  held_a : has_slot a.grip.holds t ≡ true
  held_a = grip_over u a t found ∙ (grip_over v u t before.over ∙ held)

  -- the words of the page stand in no slot that was met at this pointer
  apart_now : (i : ℕ) → i < 64 → IsElsewhere a.layout.slots (h now) (page_at slots t i)
  apart_now i less s has =
      held_apart a.layout.slots t s i (page_at slots t i) a.grip.holds held_a (visit.fresh s has) less
      (ap (λ (l : Layout). page_at l.slots t i) (sym layout_a))

  -- nor in those that were met before
  apart_then : (s : ℕ) → Contains (flat_map h before.met) s → IsOutside u.layout.slots s word
  apart_then s has =
      held_apart u.layout.slots t s j word v.grip.holds held (before.fresh s has) few
      (place ∙ ap (λ (l : Layout). page_at l.slots t j) (sym layout_u))

  -- what the pass knows of words behind the visit
  seen_then : (x : ℕ) → (x ≡ word → ⊥) → IsElsewhere a.layout.slots (h now) x → read_of w.reads x ≡ read_of u.reads x
  seen_then x other elsewhere = visit.others x other elsewhere ∙ ap (λ list. read_of list x) child.reads

  gone_then : w.gone ≡ reverse (h now) ++ u.gone
  gone_then = visit.gone ∙ ap (λ list. reverse (h now) ++ list) (ap (λ (z : View). z.gone) (child.went).shut)

  was_left : (s : ℕ) → Contains (flat_map h before.met) s → Contains u.gone s
  was_left s has =
      subst (λ list. Contains list s) (sym before.gone)
      (Contains-append_left (reverse (flat_map h before.met)) v.gone s (in_reverse s (flat_map h before.met) has))

  -- what was met before stays told
  stays_then : StaysFor (flat_map h before.met) u w
  stays_then =
      later_stays (flat_map h before.met) (h now) word u w (layout_over u w after) after.front gone_then
      (λ x other elsewhere. seen_then x other
      (λ s has. subst (λ (l : Layout). IsOutside l.slots s x) (sym (layout_over u a found)) (elsewhere s has)))
      (λ s has. (was_left s has, apart_then s has))

  words_then : page_words w.pages page ≡ page_words u.pages page
  words_then =
      page_longer u.pages w.pages page after.front
      (let long = front_length v.pages u.pages (before.over).front in let low = there in omega (arith, long, low))

  each_old : (i : ℕ) (m : Met B) → slice_get before.met i ≡ Some m
      → IsNode B stands (child_span sp i) (get_or (page_words w.pages page) i 0) (page_at w.layout.slots t i) w m
  each_old i m at =
      let less = at_below before.met i m at in
      let long = before.long in
      let fits : i < 64 = omega (arith, less, long, few) in
      let node = before.each i m at in
      let layout : w.layout ≡ u.layout = layout_over u w after in
      let at-word : m.at ≡ page_at slots t i = node.at ∙ ap (λ (l : Layout). page_at l.slots t i) layout_u in
      let seen : read_of w.reads (page_at slots t i) ≡ read_of u.reads (page_at slots t i) =
      seen_then (page_at slots t i)
      (λ same. absurd (let one = other_word slots t i j (same ∙ place) in omega (arith, less, long, one))) (apart_now i fits) in
      let tree = stays u w m
      (stays_within (flat_map h before.met) (h m) u w (λ s has. in_flat h before.met m s (at_in before.met i m at) has) stays_then)
      node.tree in
      subst (λ (l : Layout). IsNode B stands (child_span sp i) (get_or (page_words w.pages page) i 0) (page_at l.slots t i) w m)
      (sym layout)
      (node_went B stands (child_span sp i) (get_or (page_words u.pages page) i 0) (get_or (page_words w.pages page) i 0)
      (page_at u.layout.slots t i) u w m (ap (λ ws. get_or ws i 0) words_then)
      (ap (read_of w.reads) at-word ∙ (seen ∙ sym (ap (read_of u.reads) at-word))) tree node)

  each_new : (i : ℕ) (m : Met B) → i ≡ length before.met → now ≡ m
      → IsNode B stands (child_span sp i) (get_or (page_words w.pages page) i 0) (page_at w.layout.slots t i) w m
  each_new i m at same =
      let index : i ≡ j = at ∙ before.long in
      subst (λ (x : Met B). IsNode B stands (child_span sp i) (get_or (page_words w.pages page) i 0) (page_at w.layout.slots t i) w x) same
      (subst (λ k. IsNode B stands (child_span sp k) (get_or (page_words w.pages page) k 0) (page_at w.layout.slots t k) w now)
      (sym index)
      (subst (λ (x : Span). IsNode B stands x (get_or (page_words w.pages page) j 0) (page_at w.layout.slots t j) w now) is
      (subst (λ k. IsNode B stands part k (page_at w.layout.slots t j) w now)
      (child.is ∙ ap (λ ws. get_or ws j 0) (sym words_then))
      (subst (λ k. IsNode B stands part n k w now)
      (place ∙ ap (λ (l : Layout). page_at l.slots t j) (sym (layout_over u w after ∙ layout_u))) visit.tree))))

  fresh_now : (s : ℕ) → Contains (flat_map h (before.met ++ now ∷ [])) s → has_slot v.grip.holds s ≡ false
  fresh_now s has =
      elim (Contains-append_cases (flat_map h before.met) (h now) s
      (subst (λ list. Contains list s) (flat_push h before.met now) has)) [
        | inl old ↦ before.fresh s old
        | inr more ↦ sym (grip_over u a s found ∙ grip_over v u s before.over) ∙ visit.fresh s more
      ]

  others_now : (x : ℕ) → IsElsewhere v.layout.slots (t ∷ flat_map h (before.met ++ now ∷ [])) x
      → read_of w.reads x ≡ read_of v.reads x
  others_now x out =
      seen_then x (λ same. out t (in_head t (flat_map h (before.met ++ now ∷ []))) j few (same ∙ place))
      (λ s has. subst (λ (l : Layout). IsOutside l.slots s x) (sym layout_a)
      (out s (in_tail s t (flat_map h (before.met ++ now ∷ []))
      (subst (λ list. Contains list s) (sym (flat_push h before.met now))
      (Contains-append_right (flat_map h before.met) (h now) s has)))))
      ∙ before.others x
      (λ s has. elim (in_cases s t (flat_map h before.met) has) [
        | inl same ↦ out s (subst (λ z. Contains (z ∷ flat_map h (before.met ++ now ∷ [])) s) (sym same)
            (in_head s (flat_map h (before.met ++ now ∷ []))))
        | inr old ↦ out s (in_tail s t (flat_map h (before.met ++ now ∷ []))
            (subst (λ list. Contains list s) (sym (flat_push h before.met now))
            (Contains-append_left (flat_map h before.met) (h now) s old)))
      ])

  -- one more was gone over
  pub next_below : HasVisitedBelow (Met B) f g h q (IsNode B stands) t sp page (j + 1) old v new w
  next_below = record {
    met = before.met ++ now ∷ [];
    long = let long = before.long in let more = length-append before.met (now ∷ []) in omega (arith, long, more);
    each = λ i m at. elim (push_cases before.met now i m at) [ inl was ↦ each_old i m was | inr own ↦ each_new i m own.0 own.1 ];
    over = over_then v u w before.over after;
    kept =
        visit.kept
        ∙ (ap (λ list. list ++ g now) (child.kept ∙ before.kept)
        ∙ (append_assoc v.kept (flat_map g before.met) (g now) ∙ ap (λ list. v.kept ++ list) (sym (flat_push g before.met now))));
    gone =
        gone_then
        ∙ (ap (λ list. reverse (h now) ++ list) before.gone
        ∙ (sym (append_assoc (reverse (h now)) (reverse (flat_map h before.met)) v.gone)
        ∙ ap (λ list. list ++ v.gone)
        (sym (reverse-append (flat_map h before.met) (h now)) ∙ ap (λ list. reverse list) (sym (flat_push h before.met now)))));
    swung =
        visit.swung
        ∙ (ap (λ list. list ++ q now) (ap (λ (z : View). z.swung) (child.went).shut ∙ before.swung)
        ∙ (append_assoc v.swung (flat_map q before.met) (q now)
        ∙ ap (λ list. v.swung ++ list) (sym (flat_push q before.met now))));
    fresh = fresh_now;
    counts =
        subst (λ list. HasCounted old (sum_met f (before.met ++ now ∷ [])) list new) (sym (flat_push g before.met now))
        (subst (λ k. HasCounted old k (flat_map g before.met ++ g now) new) (sym (sum_push f before.met now))
        (counted_then old sum new (sum_met f before.met) (f now) (flat_map g before.met) (g now) before.counts visit.counts));
    others = others_now;
  }

-- ---- room in the counts

pub room_below : (B : Type 0) (f : Met B → ℕ) (g : Met B → List KeptPage) (h : Met B → List ℕ) (q : Met B → List Swung)
    (stands : View → Met B → Type 0) (k t page j : ℕ) (sp : Span) (old sum : Dropped) (v u : View)
    → ((w : View) (m : Met B) → stands w m → f m + length (g m) ≤ k) → j < 64 → HasRoom (k * 64) old
    → HasVisitedBelow (Met B) f g h q (IsNode B stands) t sp page j old v sum u → HasRoom k sum
room_below B f g h q stands k t page j sp old sum v u small few room so =
    let all = sum_few f g k so.met (λ i m at. small u m (so.each i m at).tree) in
    let long = so.long in
    let most : k * suc j ≤ k * 64 = mul-le-mul_left k few in
    let more : k * suc j ≡ k * j + k = mul-suc k j in
    let some : k * length so.met ≡ k * j = ap (λ i. k * i) long in
    let dropped = (so.counts).dropped in
    let kept = (so.counts).kept in omega (arith, all, most, more, some, dropped, kept, room)
