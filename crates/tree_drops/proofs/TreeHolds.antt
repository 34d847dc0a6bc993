-- The slot of a tree's pointer is held, look by look, and left where the pointer had changed.
use Rattle.std.proofs.Common.{◌≡◌, ◌≢◌, inl, inr, ℕ, ◌+◌, ◌-◌, ◌/◌, ◌^◌, ◌<◌, ◌≤◌, Bool, true, false, true≢false, eqb, eqb-true, ne_eqb, List, ◌∷◌, []}
use Rattle.std.proofs.Common.{length, Option, Some, None, refl, sym, ap, ◌∙◌, subst, arith}
use Rattle.std.specs.Prelude.{◌||◌}
use Rattle.std.specs.List.{Contains}
use Rattle.lists.specs.Elements.{in_head, in_tail}
use Rattle.homes.specs.declared.places.At.{At}
use Rattle.homes.specs.declared.places.At.TheVariants.{Root, In}
use Rattle.homes.specs.declared.places.Span.{Span}
use Rattle.drop_core.specs.declared.grip.Grip.{Grip}
use Rattle.drop_core.specs.Table.{has_slot}
use Rattle.engine_pages.specs.declared.layout.Layout.{Layout}
use Rattle.engine_pages.specs.declared.view.Inner.{Inner}
use Rattle.engine_pages.specs.declared.view.KeptWhy.TheVariants.{Changed}
use Rattle.engine_pages.specs.declared.view.Lead.{Lead}
use Rattle.engine_pages.specs.declared.view.View.{View}
use Rattle.engine_pages.specs.declared.view.Way.{Way}
use Rattle.engine_pages.specs.Layout.{page_at, root_at}
use Rattle.engine_pages.specs.Pages.{is_array, is_tree, root_span}
use Rattle.engine_pages.specs.Pointers.{HasFollowed, IsPointerAt, followed, half_of, is_open_word, leads_more, page_half}
use Rattle.engine_pages.specs.Pointers.{ways_if, ways_more}
use Rattle.engine_pages.specs.Slots.{entered, left}
use Rattle.engine_pages.specs.Steps.{kept_at, seen_at}
use Rattle.pointer_swings.specs.Renewals.{CanRenew, HasRenewed, renewed_word}
use Rattle.page_drops.specs.declared.noting.Kept.{Kept}
use Rattle.page_drops.specs.Calls.{GoesIn, HasIn, KeepsAbove, slots_on}
use Rattle.page_drops.specs.Works.{read_of, IsNoted}
use Rattle.page_drops.proofs.Entries.{entry_of, other_entry, own_entry, seen_of}
use Rattle.page_drops.proofs.Holds.{Looked, half_led, half_part, held_looked, held_renewed, in_then, keeps_turned_away, lead_in, look_entered}
use Rattle.page_drops.proofs.Holds.{look_missed, look_same, role_of, slot_there, ways_first, ways_left}
use Rattle.page_drops.proofs.Sights.{saw_same}
use Rattle.tree_drops.specs.Visits.{CanVisit, IsNarrower}

-- ---- the pointer stands where it stood

pub place_in : (x : At) (sp : Span) (at : ℕ) (v w : View) → GoesIn v w → ((z : Way) → Contains v.ways z → Contains w.ways z)
    → w.inners ≡ v.inners → IsPointerAt v x sp at → IsPointerAt w x sp at
place_in (Root r) sp at v w h ways inners place =
    let same : w.layout ≡ v.layout = ap (λ (z : View). z.layout) h.went in
    subst (λ (l : Layout). (r < length l.decls) × (sp ≡ root_span l.decls r) × (at ≡ root_at r)) (sym same) place
place_in (In y) sp at v w h ways inners place =
    let same : w.layout ≡ v.layout = ap (λ (z : View). z.layout) h.went in
    elim place [
      | inl c ↦ inl record {
        way = c.way;
        has = ways c.way c.has;
        slot = c.slot;
        kind = ap (λ (l : Layout). is_array l.decls (c.way).span.storage) same ∙ c.kind;
        inner = c.inner;
        index = c.index;
        span = c.span;
        word = c.word ∙ ap (λ (l : Layout). page_at l.slots y.slot y.index) (sym same);
      }
      | inr b ↦ inr record {
        way = b.way;
        has = ways b.way b.has;
        slot = b.slot;
        kind = ap (λ (l : Layout). is_tree l.decls (b.way).span.storage) same ∙ b.kind;
        inner = b.inner;
        knows = subst (λ (l : List Inner). Contains l b.inner) (sym inners) b.knows;
        same = b.same;
        index = b.index;
        span = b.span;
        word = b.word ∙ ap (λ (l : Layout). page_at l.slots y.slot (4 + y.index)) (sym same);
      }
    ]

-- ---- no page on the way is over the same keys

pub way_of : (ways : List Way) (t : ℕ) → has_slot (slots_on ways) t ≡ true → (way : Way) × Contains ways way × (way.slot ≡ t)
way_of [] t held = absurd (true≢false (sym held))
way_of (way ∷ path) t held = by_test (eqb way.slot t) refl held (way_of path t)
  where
    by_test : (c : Bool) → eqb way.slot t ≡ c → (c || has_slot (slots_on path) t) ≡ true
        → (has_slot (slots_on path) t ≡ true → (z : Way) × Contains path z × (z.slot ≡ t))
        → (z : Way) × Contains (way ∷ path) z × (z.slot ≡ t)
    by_test true same held later = (way, in_head way path, eqb-true way.slot t same)
    by_test false other held later = let more = later held in (more.0, in_tail more.0 way path more.1, more.2)

pub narrower_apart : (wide sp : Span) → IsNarrower wide sp → sp ≡ wide → ⊥
narrower_apart wide sp n same =
    let low : sp.low ≡ wide.low = ap (λ (z : Span). z.low) same in
    let high : sp.high ≡ wide.high = ap (λ (z : Span). z.high) same in
    elim n.less [ inl less ↦ absurd (omega (arith, less, low)) | inr less ↦ absurd (omega (arith, less, high)) ]

-- where the slot is held already, the look knows two ways into it
tree_unheld : (t : ℕ) (sp : Span) (at n : ℕ) (holds : List ℕ) (ways : List Way) (v w : View) → HasFollowed sp at v n w
    → half_of n ≡ Some t → v.ways ≡ ways → is_tree v.layout.decls sp.storage ≡ true
    → ((way : Way) → Contains ways way → IsNarrower way.span sp) → has_slot v.grip.holds t ≡ true → has_slot (slots_on ways) t ≡ true → ⊥
tree_unheld t sp at n holds ways v w h half path tree narrow held there =
    let one = way_of ways t there in
    let own : Way = record { slot = t; span = sp } in
    let now : w.ways ≡ own ∷ ways =
    ap (λ (z : View). z.ways) h.is
    ∙ (ap (λ (o : Option ℕ). ways_more v.grip.holds o sp v.ways) half
    ∙ (ap (λ (c : Bool). ways_if c t sp v.ways) held ∙ ap (λ ws. own ∷ ws) path)) in
    let layout : w.layout ≡ v.layout = ap (λ (z : View). z.layout) h.is in
    narrower_apart (one.0).span sp (narrow one.0 one.1)
    (h.trees.spans own one.0 (subst (λ ws. Contains ws own) (sym now) (in_head own ways))
    (subst (λ ws. Contains ws one.0) (sym now) (in_tail one.0 own ways one.1)) (sym one.2)
    (ap (λ (l : Layout). is_tree l.decls sp.storage) layout ∙ tree))

pub or_not : (c : Bool) → (c ≡ true → ⊥) → c ≡ false
or_not true never = absurd (never refl)
or_not false never = refl

-- a slot to which the pointer is found to lead isn't on the way
pub first_unheld : (epoch : ℕ) (x : At) (sp : Span) (at page n t : ℕ) (v w : View) → CanVisit x sp at page epoch v
    → HasFollowed sp at v n w → half_of n ≡ Some t → has_slot v.grip.holds t ≡ false
first_unheld epoch x sp at page n t v w can h half =
    or_not (has_slot v.grip.holds t) (λ held.
    tree_unheld t sp at n v.grip.holds v.ways v w h half refl can.tree can.narrow held
    (sym (ap (λ (l : List ℕ). has_slot l t) (can.bare).holds) ∙ held))

-- ---- looks

ways_same : (o : Option ℕ) (holds : List ℕ) (sp : Span) (ways : List Way) → ((t : ℕ) → o ≡ Some t → has_slot holds t ≡ false)
    → ways_more holds o sp ways ≡ ways
ways_same None holds sp ways free = refl
ways_same (Some t) holds sp ways free = ap (λ (b : Bool). ways_if b t sp ways) (free t refl)

more_leads : (b : Bool) (sp : Span) (n name : ℕ) (leads : List Lead) (z : Lead) → Contains leads z
    → Contains (leads_more b sp n name leads) z
more_leads true sp n name leads z has = in_tail z (record { span = sp; page = n; name = name }) leads has
more_leads false sp n name leads z has = has

in_followed : (sp : Span) (at n : ℕ) (v w : View) → HasFollowed sp at v n w → GoesIn v w
in_followed sp at n v w h =
    subst (λ (z : View). GoesIn v z) (sym h.is) record {
      went = refl;
      later = omega arith;
      front = h.front;
      leads = λ z has. more_leads (is_open_word n) sp (page_half n) h.name v.leads z has;
      more = saw_same v (followed at sp n h.name h.pages v) refl refl refl;
    }

looks_on : (sp : Span) (at n : ℕ) (ways : List Way) (v w : View) → HasFollowed sp at v n w
    → ways_more v.grip.holds (half_of n) sp v.ways ≡ ways → Looked at n (seen_at v.reads at) v.grip.holds ways v w
looks_on sp at n ways v w h same = record {
  over = in_followed sp at n v w h;
  grip = ap (λ (z : View). z.grip) h.is;
  path = ap (λ (z : View). z.ways) h.is ∙ same;
  step = v.steps;
  last = ap (λ (z : View). z.last) h.is;
  since = omega arith;
  before = let up : w.steps ≡ v.steps + 1 = ap (λ (z : View). z.steps) h.is in omega (arith, up);
  kept = ap (λ (z : View). z.kept) h.is;
  gone = ap (λ (z : View). z.gone) h.is;
  swung = ap (λ (z : View). z.swung) h.is;
  read = entry_of v.reads at n (kept_at v.reads at);
  is = ap (λ (z : View). read_of z.reads at) h.is ∙ own_entry v.reads at n (kept_at v.reads at);
  seen = refl;
  prior = refl;
  others = λ word other.
      ap (λ (z : View). read_of z.reads word) h.is ∙ other_entry v.reads at n (kept_at v.reads at) word other;
}

-- the first look, which finds no slot on the way
pub look_first : (epoch : ℕ) (x : At) (sp : Span) (at page n : ℕ) (v w : View) → CanVisit x sp at page epoch v
    → HasFollowed sp at v n w → Looked at n (seen_at v.reads at) v.grip.holds v.ways v w
look_first epoch x sp at page n v w can h =
    looks_on sp at n v.ways v w h
    (ways_same (half_of n) v.grip.holds sp v.ways (λ t half. first_unheld epoch x sp at page n t v w can h half))

look_then : (at n m : ℕ) (was was' : Option ℕ) (holds holds' : List ℕ) (ways ways' : List Way) (v u w : View)
    → Looked at n was holds ways v u → Looked at m was' holds' ways' u w → Looked at m was' holds' ways' v w
look_then at n m was was' holds holds' ways ways' v u w a b =
    let one = (a.over).later in
    let two = b.since in record {
      over = in_then v u w a.over b.over;
      grip = b.grip ∙ ap (λ (g : Grip). let z : Grip = record g { holds = holds' } in z) a.grip;
      path = b.path;
      step = b.step;
      last = b.last;
      since = omega (arith, one, two);
      before = b.before;
      kept = b.kept ∙ a.kept;
      gone = b.gone ∙ a.gone;
      swung = b.swung ∙ a.swung;
      read = b.read;
      is = b.is;
      seen = b.seen;
      prior = b.prior;
      others = λ word other. b.others word other ∙ a.others word other;
    }

look_as : (at n : ℕ) (was was' : Option ℕ) (holds holds' : List ℕ) (ways : List Way) (v w : View) → was ≡ was' → holds ≡ holds'
    → Looked at n was holds ways v w → Looked at n was' holds' ways v w
look_as at n was was' holds holds' ways v w first slots l =
    subst (λ (o : Option ℕ). Looked at n o holds' ways v w) first
    (subst (λ (hs : List ℕ). Looked at n was hs ways v w) slots l)

-- the second look finds another slot, which isn't on the way either
pub look_other : (epoch : ℕ) (x : At) (sp : Span) (at page n m t : ℕ) (was : Option ℕ) (v u w : View)
    → CanVisit x sp at page epoch v → Looked at n was (t ∷ v.grip.holds) v.ways v u → HasFollowed sp at u m w
    → (half_of m ≡ Some t → ⊥) → Looked at m (Some n) (t ∷ v.grip.holds) v.ways v w
look_other epoch x sp at page n m t was v u w can l h other =
    let holds : u.grip.holds ≡ t ∷ v.grip.holds = ap (λ (g : Grip). g.holds) l.grip in
    let prior : seen_at u.reads at ≡ Some n = seen_of u.reads at l.read l.is ∙ ap (λ (y : ℕ). Some y) l.seen in
    let layout : u.layout ≡ v.layout = ap (λ (z : View). z.layout) (l.over).went in
    look_then at n m was (Some n) (t ∷ v.grip.holds) (t ∷ v.grip.holds) v.ways v.ways v u w l
    (look_as at m (seen_at u.reads at) (Some n) u.grip.holds (t ∷ v.grip.holds) v.ways u w prior holds
    (looks_on sp at m v.ways u w h
    (ways_same (half_of m) u.grip.holds sp u.ways (λ q half.
    or_not (has_slot u.grip.holds q) (λ held.
    tree_unheld q sp at m u.grip.holds v.ways u w h half l.path
    (ap (λ (y : Layout). is_tree y.decls sp.storage) layout ∙ can.tree) can.narrow held
    (sym (ap (λ (list : List ℕ). has_slot list q) (can.bare).holds)
    ∙ (sym (ap (λ (b : Bool). b || has_slot v.grip.holds q) (ne_eqb t q (λ same. other (half ∙ ap (λ (y : ℕ). Some y) (sym same)))))
    ∙ (sym (ap (λ (list : List ℕ). has_slot list q) holds) ∙ held)))))
    ∙ l.path)))

-- a pointer that may be renewed
pub can_renew_it : (epoch : ℕ) (x : At) (sp : Span) (at page n t : ℕ) (was : Option ℕ) (holds : List ℕ) (v u : View)
    → CanVisit x sp at page epoch v → u.inners ≡ v.inners → Looked at n was holds (record { slot = t; span = sp } ∷ v.ways) v u
    → half_of n ≡ Some t → 0 < page → CanRenew u x sp at page n
can_renew_it epoch x sp at page n t was holds v u can inners l half some =
    let part = half_part n t half in
    let low = part.0 in
    let is = part.1 in record {
      keeper = role_of at n was holds (record { slot = t; span = sp } ∷ v.ways) v u l can.bare;
      place = place_in x sp at v u l.over (λ z has.
          subst (λ ws. Contains ws z) (sym l.path) (in_tail z (record { slot = t; span = sp }) v.ways has)) inners can.place;
      free = low;
      leads = omega (arith, is);
      some = some;
      lead = lead_in sp page v u l.over (can.lead some);
    }

-- ---- one after another

-- two words with one upper half, and with two
half_same : (n m : ℕ) → 2 ^ 32 ≤ n → n < 2 ^ 60 → m / 2 ^ 32 ≡ n / 2 ^ 32 → half_of m ≡ Some (n / 2 ^ 32 - 1)
half_same n m low high same =
    half_led m (omega (arith, low, same)) (omega (arith, high, same))
    ∙ ap (λ (q : ℕ). Some (q - 1)) same

half_apart : (n m : ℕ) → 2 ^ 32 ≤ n → m / 2 ^ 32 ≢ n / 2 ^ 32 → half_of m ≡ Some (n / 2 ^ 32 - 1) → ⊥
half_apart n m low other half =
    let part = (half_part m (n / 2 ^ 32 - 1) half).1 in
    other (let same : m / 2 ^ 32 ≡ n / 2 ^ 32 = omega (arith, part, low) in same)

module _ (epoch : ℕ) (x : At) (sp : Span) (at page n : ℕ) (v a : View) (can : CanVisit x sp at page epoch v)
    (first : HasFollowed sp at v n a) (low : 2 ^ 32 ≤ n) (high : n < 2 ^ 60) where
  abbrev t : ℕ
  t = n / 2 ^ 32 - 1

  abbrev own : Way
  own = record { slot = t; span = sp }

  led : half_of n ≡ Some t
  led = half_led n low high

  pub fresh_slot : has_slot v.grip.holds t ≡ false
  fresh_slot = first_unheld epoch x sp at page n t v a can first led

  slot_low : t < v.layout.slots
  slot_low = slot_there sp at n t v a first led

  pub still_fresh : has_slot a.grip.holds t ≡ false
  still_fresh =
      ap (λ (l : List ℕ). has_slot l t)
      (ap (λ g. g.holds) (look_first epoch x sp at page n v a can first).grip)
      ∙ fresh_slot

  off_way : has_slot (slots_on v.ways) t ≡ false
  off_way = sym (ap (λ (l : List ℕ). has_slot l t) (can.bare).holds) ∙ fresh_slot

  module _ (u : View) (enter : u ≡ entered t a) where
    look_in : Looked at n (seen_at v.reads at) (t ∷ v.grip.holds) v.ways v u
    look_in =
        look_entered at n t (seen_at v.reads at) v.grip.holds v.ways v a u (look_first epoch x sp at page n v a can first) enter

    pub pointer_there_still : IsPointerAt u x sp at
    pointer_there_still =
        place_in x sp at v u look_in.over (λ z has. subst (λ ws. Contains ws z) (sym look_in.path) has)
        (ap (λ (z : View). z.inners) enter ∙ ap (λ (z : View). z.inners) first.is) can.place

    module _ (m : ℕ) (b : View) (second : HasFollowed sp at u m b) where
      pub again_same : m / 2 ^ 32 ≡ n / 2 ^ 32 → Looked at m (Some n) (t ∷ v.grip.holds) (own ∷ v.ways) v b
      again_same same =
          look_same sp at n m t (seen_at v.reads at) v u b look_in second (half_same n m low high same)

      pub again_other : m / 2 ^ 32 ≢ n / 2 ^ 32 → Looked at m (Some n) (t ∷ v.grip.holds) v.ways v b
      again_other other =
          look_other epoch x sp at page n m t (seen_at v.reads at) v u b can look_in second (half_apart n m low other)

      inners_still : b.inners ≡ v.inners
      inners_still =
          ap (λ (z : View). z.inners) second.is
          ∙ (ap (λ (z : View). z.inners) enter ∙ ap (λ (z : View). z.inners) first.is)

      -- the pointer had changed
      pub keeps_other : (k : Kept) (c d : View) → m / 2 ^ 32 ≢ n / 2 ^ 32
          → k ≡ record { word = at; seen = m; why = Changed n } → IsNoted k b c → d ≡ left t c → KeepsAbove at k v d
      keeps_other k c d other is told leave =
          keeps_turned_away at m n t k v.ways v b c d can.bare (again_other other) is told
          (λ one. other (ap (λ (q : ℕ). q / 2 ^ 32) one)) led fresh_slot (ways_left v.ways t off_way) leave

      -- it names the newest snapshot's page
      pub holds_so : m / 2 ^ 32 ≡ n / 2 ^ 32 → (0 < page → page_half m ≡ page)
          → HasIn sp at page (record { slot = t; word = m }) v b
      holds_so same names =
          held_looked sp at page m t (Some n) v b (again_same same) slot_low fresh_slot (half_same n m low high same) names

      pub can_renew_so : m / 2 ^ 32 ≡ n / 2 ^ 32 → 0 < page → CanRenew b x sp at page m
      can_renew_so same some =
          can_renew_it epoch x sp at page m t (Some n) (t ∷ v.grip.holds) v b can inners_still (again_same same)
          (half_same n m low high same) some

      module _ (same : m / 2 ^ 32 ≡ n / 2 ^ 32) (found : ℕ) (c : View) (renews : HasRenewed at page m b found c) where
        pub missed_so : found ≢ m → Looked at found (Some m) (t ∷ v.grip.holds) (own ∷ v.ways) v c
        missed_so other = look_missed at page m found (Some n) (t ∷ v.grip.holds) (own ∷ v.ways) v b c (again_same same) renews other

        pub keeps_missed : (k : Kept) (d e : View) → found ≢ m → k ≡ record { word = at; seen = found; why = Changed m }
            → IsNoted k c d → e ≡ left t d → KeepsAbove at k v e
        keeps_missed k d e other is told leave =
            keeps_turned_away at found m t k (own ∷ v.ways) v c d e can.bare (missed_so other) is told other
            (half_same n m low high same) fresh_slot (ways_first v.ways t sp off_way) leave

        pub holds_renewed : found ≡ m → page < 2 ^ 32 → HasIn sp at page (record { slot = t; word = renewed_word m page }) v c
        holds_renewed one small =
            held_renewed sp at page m found t (Some n) v b c (again_same same) slot_low fresh_slot
            (half_same n m low high same) small renews one
