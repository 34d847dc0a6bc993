-- A pointer is looked at, its slot held, and left where the pointer had changed.
use Rattle.std.proofs.Common.{◌≡◌, ◌≢◌, ℕ, zero, suc, ◌+◌, ◌-◌, ◌/◌, ◌^◌, ◌<◌, ◌≤◌, Bool, true, false, true≢false, cond}
use Rattle.std.proofs.Common.{eqb, eq-eqb, ne_eqb, not, List, [], ◌∷◌, ◌++◌, length, Option, Some, None, refl, sym, ap, ◌∙◌, subst, arith}
use Rattle.std.proofs.lemmas.Bool.Decides.{nat_tests}
use Rattle.std.specs.Prelude.{◌||◌, IfSome, MatchBool, nat_lt}
use Rattle.std.specs.List.{Contains}
use Rattle.lists.specs.Elements.{in_tail}
use Rattle.lists.specs.Fronts.{front_refl, front_then}
use Rattle.homes.specs.declared.places.At.{At}
use Rattle.homes.specs.declared.places.At.TheVariants.{Root, In}
use Rattle.homes.specs.declared.places.Span.{Span}
use Rattle.drop_core.specs.declared.grip.Grip.{Grip}
use Rattle.drop_core.specs.Event.{without}
use Rattle.drop_core.specs.Table.{has_slot}
use Rattle.engine_pages.specs.declared.view.KeptWhy.{KeptWhy}
use Rattle.engine_pages.specs.declared.view.KeptWhy.TheVariants.{Locked, Changed}
use Rattle.engine_pages.specs.declared.layout.Layout.{Layout}
use Rattle.engine_pages.specs.declared.view.Lead.{Lead}
use Rattle.engine_pages.specs.declared.view.Read.{Read}
use Rattle.engine_pages.specs.declared.view.View.{View}
use Rattle.engine_pages.specs.declared.view.Way.{Way}
use Rattle.engine_rule.specs.JointState.{keeps_word}
use Rattle.engine_pages.specs.declared.view.Role.TheVariants.{Keeper}
use Rattle.engine_pages.specs.Layout.{page_at, root_at, words_of}
use Rattle.engine_pages.specs.Pages.{is_array, root_span}
use Rattle.dual_pointer.specs.Copies.{IsLeadOf}
use Rattle.engine_pages.specs.Pointers.{HasFollowed, IsArrayPointerAt, WaysAgree, followed, half_of, is_open_word, leads_more, page_half, slot_half}
use Rattle.engine_pages.specs.Pointers.{ways_if, ways_more, any_pointer}
use Rattle.engine_pages.specs.Slots.{entered, left, other_shuts, other_ways}
use Rattle.engine_pages.specs.Steps.{glance, kept_at, read_at, seen_at}
use Rattle.pointer_swings.specs.Renewals.{CanRenew, HasRenewed, renewed, renewed_word}
use Rattle.page_drops.specs.declared.noting.Kept.{Kept}
use Rattle.page_drops.specs.Calls.{CanVisit, GoesIn, GoesOver, HasIn, HasNone, IsBare, IsCauseAbove, KeepsAbove, KeepsAllBut}
use Rattle.page_drops.specs.Calls.{IsGoneFor, slots_on}
use Rattle.page_drops.specs.Visits.{IsSightBefore}
use Rattle.page_drops.specs.Works.{HasKept, HasSeenLast, IsNoted, last_step, note_of, noted, read_of}
use Rattle.page_drops.proofs.Entries.{entry_of, other_entry, own_entry, seen_of}
use Rattle.page_drops.proofs.Heights.{unheld}
use Rattle.page_drops.proofs.Sights.{saw_same, saw_self, saw_then}

-- ---- work goes on, but for slots that are held

-- a view with the changed parts of another
abbrev pub as_over : View → View → View
as_over z w = record z {
  steps = w.steps;
  last = w.last;
  reads = w.reads;
  history = w.history;
  decided = w.decided;
  touched = w.touched;
  loaded = w.loaded;
  known = w.known;
  moved = w.moved;
  inners = w.inners;
  swung = w.swung;
  copies = w.copies;
  blanks = w.blanks;
  new_leaves = w.new_leaves;
  new_inners = w.new_inners;
  pages = w.pages;
  leads = w.leads;
  gone = w.gone;
  kept = w.kept;
}

-- and its slots and ways
abbrev pub as_held : View → View → View
as_held v w = record w { grip = v.grip; ways = v.ways }

pub in_self : (v : View) → GoesIn v v
in_self v = record { went = refl; later = omega arith; front = front_refl v.pages; leads = λ z has. has; more = saw_self v }

pub in_then : (u v w : View) → GoesIn u v → GoesIn v w → GoesIn u w
in_then u v w a b =
    let one = a.later in
    let two = b.later in record {
      went = ap (λ (z : View). as_held u z) b.went ∙ ap (λ (z : View). as_over z w) a.went;
      later = omega (arith, one, two);
      front = front_then u.pages v.pages w.pages a.front b.front;
      leads = λ z has. b.leads z (a.leads z has);
      more = saw_then u v w a.more b.more;
    }

pub in_over : (v w : View) → GoesOver v w → GoesIn v w
in_over v w h = record {
  went = ap (λ (z : View). as_held v z) h.went;
  later = h.later;
  front = h.front;
  leads = h.leads;
  more = h.more;
}

-- where it holds the same slots
pub over_in : (v w : View) → GoesIn v w → w.grip ≡ v.grip → w.ways ≡ v.ways → GoesOver v w
over_in v w h grip ways = record {
  went = ap (λ (g : Grip). let z : View = record w { grip = g } in z) grip
      ∙ (ap (λ ws. let z : View = record w { grip = v.grip; ways = ws } in z) ways ∙ h.went);
  later = h.later;
  front = h.front;
  leads = h.leads;
  more = h.more;
}

-- ---- steps of it

more_leads : (b : Bool) (sp : Span) (n name : ℕ) (leads : List Lead) (z : Lead) → Contains leads z
    → Contains (leads_more b sp n name leads) z
more_leads true sp n name leads z has = in_tail z (record { span = sp; page = n; name = name }) leads has
more_leads false sp n name leads z has = has

in_followed : (sp : Span) (at n : ℕ) (v w : View) → HasFollowed sp at v n w → GoesIn v w
in_followed sp at n v w h =
    subst (λ (z : View). GoesIn v z) (sym h.is) record {
      went = refl;
      later = omega arith;
      front = h.front;
      leads = λ z has. more_leads (is_open_word n) sp (page_half n) h.name v.leads z has;
      more = saw_same v (followed at sp n h.name h.pages v) refl refl refl;
    }

in_entered : (t : ℕ) (v w : View) → w ≡ entered t v → GoesIn v w
in_entered t v w is =
    subst (λ (z : View). GoesIn v z) (sym is) record {
      went = refl;
      later = omega arith;
      front = front_refl v.pages;
      leads = λ z has. has;
      more = saw_same v (entered t v) refl refl refl;
    }

in_read : (at n : ℕ) (v w : View) → w ≡ read_at at n v → GoesIn v w
in_read at n v w is =
    subst (λ (z : View). GoesIn v z) (sym is) record {
      went = refl;
      later = omega arith;
      front = front_refl v.pages;
      leads = λ z has. has;
      more = saw_same v (read_at at n v) refl refl refl;
    }

in_renewed : (at page n : ℕ) (v w : View) → w ≡ renewed at page n v → GoesIn v w
in_renewed at page n v w is =
    subst (λ (z : View). GoesIn v z) (sym is) record {
      went = refl;
      later = omega arith;
      front = front_refl v.pages;
      leads = λ z has. has;
      more = saw_same v (renewed at page n v) refl refl refl;
    }

in_noted : (k : Kept) (v w : View) → IsNoted k v w → GoesIn v w
in_noted k v w told =
    subst (λ (z : View). GoesIn v z) (sym told.1) record {
      went = refl;
      later = omega arith;
      front = front_refl v.pages;
      leads = λ z has. has;
      more = saw_same v (noted (note_of v k) told.0 v) refl refl refl;
    }

-- where no pointer is shut
pub in_left : (t : ℕ) (v w : View) → v.shuts ≡ [] → w ≡ left t v → GoesIn v w
in_left t v w none is =
    subst (λ (z : View). GoesIn v z) (sym is) record {
      went = ap (λ list. let z : View = record (as_held v (left t v)) { shuts = list } in z)
          (ap (λ list. other_shuts t list) none ∙ sym none);
      later = omega arith;
      front = front_refl v.pages;
      leads = λ z has. has;
      more = saw_same v (left t v) refl refl refl;
    }

-- ---- the slots that are held

pub without_new : (holds : List ℕ) (t : ℕ) → has_slot holds t ≡ false → without holds t ≡ holds
without_new [] t none = refl
without_new (x ∷ holds) t none = by_test (eqb x t) (λ rest. without_new holds t rest) none
  where
    by_test : (b : Bool) → (has_slot holds t ≡ false → without holds t ≡ holds) → (b || has_slot holds t) ≡ false
        → cond (not b) (x ∷ without holds t) (without holds t) ≡ x ∷ holds
    by_test true rest some = absurd (true≢false some)
    by_test false rest some = ap (λ l. x ∷ l) (rest some)

pub without_first : (holds : List ℕ) (t : ℕ) → has_slot holds t ≡ false → without (t ∷ holds) t ≡ holds
without_first holds t none =
    ap (λ (b : Bool). cond (not b) (t ∷ without holds t) (without holds t)) (eq-eqb t t refl) ∙ without_new holds t none

pub ways_left : (ways : List Way) (t : ℕ) → has_slot (slots_on ways) t ≡ false → other_ways t ways ≡ ways
ways_left [] t none = refl
ways_left (way ∷ path) t none = by_test (eqb way.slot t) (λ rest. ways_left path t rest) none
  where
    by_test : (b : Bool) → (has_slot (slots_on path) t ≡ false → other_ways t path ≡ path)
        → (b || has_slot (slots_on path) t) ≡ false
        → cond (not b) (way ∷ other_ways t path) (other_ways t path) ≡ way ∷ path
    by_test true rest some = absurd (true≢false some)
    by_test false rest some = ap (λ l. way ∷ l) (rest some)

pub ways_first : (ways : List Way) (t : ℕ) (sp : Span) → has_slot (slots_on ways) t ≡ false
    → other_ways t (record { slot = t; span = sp } ∷ ways) ≡ ways
ways_first ways t sp none =
    ap (λ (b : Bool). cond (not b) (record { slot = t; span = sp } ∷ other_ways t ways) (other_ways t ways)) (eq-eqb t t refl)
    ∙ ways_left ways t none

-- ---- what a pointer's word says

-- an open one with a slot in it leads to that
pub half_led : (n : ℕ) → 2 ^ 32 ≤ n → n < 2 ^ 60 → half_of n ≡ Some (n / 2 ^ 32 - 1)
half_led n low high =
    ap (λ (b : Bool). cond b (slot_half (n / 2 ^ 32)) None) free ∙ some (n / 2 ^ 32) (omega (arith, low))
  where
    some : (q : ℕ) → 0 < q → slot_half q ≡ Some (q - 1)
    some zero none = absurd (omega (arith, none))
    some (suc u) more = ap (λ (x : ℕ). Some x) (let same : u ≡ suc u - 1 = omega arith in same)

    free : nat_lt n (2 ^ 60) ≡ true
    free = grind (arith, high, nat_tests)

-- two words that lead to one slot
pub half_part : (n t : ℕ) → half_of n ≡ Some t → (n < 2 ^ 60) × (n / 2 ^ 32 ≡ t + 1)
half_part n t half = by_test (nat_lt n (2 ^ 60)) refl half
  where
    part : (q : ℕ) → slot_half q ≡ Some t → q ≡ t + 1
    part zero is = absurd (cc)
    part (suc u) is = let same : u ≡ t = cc in omega (arith, same)

    by_test : (b : Bool) → nat_lt n (2 ^ 60) ≡ b → cond b (slot_half (n / 2 ^ 32)) None ≡ Some t
        → (n < 2 ^ 60) × (n / 2 ^ 32 ≡ t + 1)
    by_test true low is = (let less : n < 2 ^ 60 = grind (arith, nat_tests) in less, part (n / 2 ^ 32) is)
    by_test false low is = absurd (cc)

-- the word that names another page leads where it led
pub half_renewed : (n t page : ℕ) → half_of n ≡ Some t → page < 2 ^ 32 → half_of (renewed_word n page) ≡ Some t
half_renewed n t page half small =
    let part = half_part n t half in
    let low = part.0 in
    let is = part.1 in
    let same : renewed_word n page / 2 ^ 32 ≡ t + 1 = omega (arith, is, small) in
    half_led (renewed_word n page) (omega (arith, is)) (omega (arith, low, small))
    ∙ ap (λ (x : ℕ). Some x) (let one : renewed_word n page / 2 ^ 32 - 1 ≡ t = omega (arith, same) in one)

pub page_renewed : (n page : ℕ) → page < 2 ^ 32 → page_half (renewed_word n page) ≡ page
page_renewed n page small = omega (arith, small)

-- ---- what was looked at

-- The pointer was looked at last, with this word, and before that with the other one, if it was met; the pass holds these
-- slots and has these ways, and else has what it had.
pub record Looked (at n : ℕ) (was : Option ℕ) (holds : List ℕ) (ways : List Way) (v w : View) : Type 0 where
  pub over : GoesIn v w
  pub grip : w.grip ≡ record v.grip { holds = holds }
  pub path : w.ways ≡ ways
  pub step : ℕ
  pub last : w.last ≡ Some (glance step at n)
  pub since : v.steps ≤ step
  pub before : step < w.steps
  pub kept : w.kept ≡ v.kept
  pub gone : w.gone ≡ v.gone
  pub swung : w.swung ≡ v.swung
  pub read : Read
  pub is : read_of w.reads at ≡ Some read
  pub seen : read.seen ≡ n
  pub prior : read.was ≡ was
  pub others : KeepsAllBut at v w

ways_same : (o : Option ℕ) (holds : List ℕ) (sp : Span) (ways : List Way) → ((t : ℕ) → o ≡ Some t → has_slot holds t ≡ false)
    → ways_more holds o sp ways ≡ ways
ways_same None holds sp ways free = refl
ways_same (Some t) holds sp ways free = ap (λ (b : Bool). ways_if b t sp ways) (free t refl)

ways_new : (o : Option ℕ) (t : ℕ) (holds : List ℕ) (sp : Span) (ways : List Way) → o ≡ Some t → has_slot holds t ≡ true
    → ways_more holds o sp ways ≡ record { slot = t; span = sp } ∷ ways
ways_new o t holds sp ways is held =
    ap (λ (x : Option ℕ). ways_more holds x sp ways) is ∙ ap (λ (b : Bool). ways_if b t sp ways) held

agree_if : (sp : Span) (at n t : ℕ) (v w : View) → HasFollowed sp at v n w → half_of n ≡ Some t
    → WaysAgree (ways_if (has_slot v.grip.holds t) t sp v.ways)
agree_if sp at n t v w h half =
    subst (λ (o : Option ℕ). WaysAgree (ways_more v.grip.holds o sp v.ways)) half
    (subst (λ (z : View). WaysAgree z.ways) h.is h.agree)

-- one look more, behind which the ways are these
looks_on : (sp : Span) (at n : ℕ) (ways : List Way) (v w : View) → HasFollowed sp at v n w
    → ways_more v.grip.holds (half_of n) sp v.ways ≡ ways → Looked at n (seen_at v.reads at) v.grip.holds ways v w
looks_on sp at n ways v w h same =
    let part = in_followed sp at n v w h in record {
      over = part;
      grip = ap (λ (z : View). z.grip) h.is;
      path = ap (λ (z : View). z.ways) h.is ∙ same;
      step = v.steps;
      last = ap (λ (z : View). z.last) h.is;
      since = omega arith;
      before = let up : w.steps ≡ v.steps + 1 = ap (λ (z : View). z.steps) h.is in omega (arith, up);
      kept = ap (λ (z : View). z.kept) h.is;
      gone = ap (λ (z : View). z.gone) h.is;
      swung = ap (λ (z : View). z.swung) h.is;
      read = entry_of v.reads at n (kept_at v.reads at);
      is = ap (λ (z : View). read_of z.reads at) h.is ∙ own_entry v.reads at n (kept_at v.reads at);
      seen = refl;
      prior = refl;
      others = λ word other.
          ap (λ (z : View). read_of z.reads word) h.is ∙ other_entry v.reads at n (kept_at v.reads at) word other;
    }

-- a slot to which the pointer is found to lead isn't on the way
pub first_unheld : (height : ℕ) (x : At) (sp : Span) (at page n t : ℕ) (v w : View) → CanVisit height x sp at page v
    → HasFollowed sp at v n w → half_of n ≡ Some t → has_slot v.grip.holds t ≡ false
first_unheld height x sp at page n t v w can h half =
    unheld height t sp v.layout.decls v.grip.holds v.ways can.down can.exact
    (λ held. sym (ap (λ (list : List ℕ). has_slot list t) (can.bare).holds) ∙ held)
    (agree_if sp at n t v w h half)

-- the first look, which finds no slot on the way
pub look_first : (height : ℕ) (x : At) (sp : Span) (at page n : ℕ) (v w : View) → CanVisit height x sp at page v
    → HasFollowed sp at v n w → Looked at n (seen_at v.reads at) v.grip.holds v.ways v w
look_first height x sp at page n v w can h =
    looks_on sp at n v.ways v w h
    (ways_same (half_of n) v.grip.holds sp v.ways (λ t half. first_unheld height x sp at page n t v w can h half))

-- ---- one look after another

look_then : (at n m : ℕ) (was was' : Option ℕ) (holds holds' : List ℕ) (ways ways' : List Way) (v u w : View)
    → Looked at n was holds ways v u → Looked at m was' holds' ways' u w → Looked at m was' holds' ways' v w
look_then at n m was was' holds holds' ways ways' v u w a b =
    let one = (a.over).later in
    let two = b.since in record {
      over = in_then v u w a.over b.over;
      grip = b.grip ∙ ap (λ (g : Grip). let z : Grip = record g { holds = holds' } in z) a.grip;
      path = b.path;
      step = b.step;
      last = b.last;
      since = omega (arith, one, two);
      before = b.before;
      kept = b.kept ∙ a.kept;
      gone = b.gone ∙ a.gone;
      swung = b.swung ∙ a.swung;
      read = b.read;
      is = b.is;
      seen = b.seen;
      prior = b.prior;
      others = λ word other. b.others word other ∙ a.others word other;
    }

look_as : (at n : ℕ) (was was' : Option ℕ) (holds holds' : List ℕ) (ways : List Way) (v w : View) → was ≡ was' → holds ≡ holds'
    → Looked at n was holds ways v w → Looked at n was' holds' ways v w
look_as at n was was' holds holds' ways v w first slots l =
    subst (λ (o : Option ℕ). Looked at n o holds' ways v w) first
    (subst (λ (hs : List ℕ). Looked at n was hs ways v w) slots l)

-- the slot is held
pub look_entered : (at n t : ℕ) (was : Option ℕ) (holds : List ℕ) (ways : List Way) (v u w : View) → Looked at n was holds ways v u
    → w ≡ entered t u → Looked at n was (t ∷ holds) ways v w
look_entered at n t was holds ways v u w l is =
    let old = l.before in record {
      over = in_then v u w l.over (in_entered t u w is);
      grip = ap (λ (z : View). z.grip) is
          ∙ ap (λ (g : Grip). let z : Grip = record g { holds = t ∷ g.holds } in z) l.grip;
      path = ap (λ (z : View). z.ways) is ∙ l.path;
      step = l.step;
      last = ap (λ (z : View). z.last) is ∙ l.last;
      since = l.since;
      before = let up : w.steps ≡ u.steps + 1 = ap (λ (z : View). z.steps) is in omega (arith, up, old);
      kept = ap (λ (z : View). z.kept) is ∙ l.kept;
      gone = ap (λ (z : View). z.gone) is ∙ l.gone;
      swung = ap (λ (z : View). z.swung) is ∙ l.swung;
      read = l.read;
      is = ap (λ (z : View). read_of z.reads at) is ∙ l.is;
      seen = l.seen;
      prior = l.prior;
      others = λ word other. ap (λ (z : View). read_of z.reads word) is ∙ l.others word other;
    }

held_new : (t : ℕ) (holds : List ℕ) → has_slot (t ∷ holds) t ≡ true
held_new t holds = ap (λ (b : Bool). b || has_slot holds t) (eq-eqb t t refl)

holds_of : (at n : ℕ) (was : Option ℕ) (holds : List ℕ) (ways : List Way) (v u : View) → Looked at n was holds ways v u
    → u.grip.holds ≡ holds
holds_of at n was holds ways v u l = ap (λ (g : Grip). g.holds) l.grip

prior_of : (at n : ℕ) (was : Option ℕ) (holds : List ℕ) (ways : List Way) (v u : View) → Looked at n was holds ways v u
    → seen_at u.reads at ≡ Some n
prior_of at n was holds ways v u l = seen_of u.reads at l.read l.is ∙ ap (λ (x : ℕ). Some x) l.seen

-- the second look finds the same slot
pub look_same : (sp : Span) (at n m t : ℕ) (was : Option ℕ) (v u w : View) → Looked at n was (t ∷ v.grip.holds) v.ways v u
    → HasFollowed sp at u m w → half_of m ≡ Some t
    → Looked at m (Some n) (t ∷ v.grip.holds) (record { slot = t; span = sp } ∷ v.ways) v w
look_same sp at n m t was v u w l h half =
    let holds = holds_of at n was (t ∷ v.grip.holds) v.ways v u l in
    look_then at n m was (Some n) (t ∷ v.grip.holds) (t ∷ v.grip.holds) v.ways (record { slot = t; span = sp } ∷ v.ways) v u w l
    (look_as at m (seen_at u.reads at) (Some n) u.grip.holds (t ∷ v.grip.holds) (record { slot = t; span = sp } ∷ v.ways) u w
    (prior_of at n was (t ∷ v.grip.holds) v.ways v u l) holds
    (looks_on sp at m (record { slot = t; span = sp } ∷ v.ways) u w h
    (ways_new (half_of m) t u.grip.holds sp u.ways half
    (ap (λ (list : List ℕ). has_slot list t) holds ∙ held_new t v.grip.holds)
    ∙ ap (λ ws. record { slot = t; span = sp } ∷ ws) l.path)))

-- or another one, which isn't on the way either
pub look_other : (height : ℕ) (x : At) (sp : Span) (at page n m t : ℕ) (was : Option ℕ) (v u w : View)
    → CanVisit height x sp at page v → Looked at n was (t ∷ v.grip.holds) v.ways v u → HasFollowed sp at u m w
    → (half_of m ≡ Some t → ⊥) → Looked at m (Some n) (t ∷ v.grip.holds) v.ways v w
look_other height x sp at page n m t was v u w can l h other =
    let holds = holds_of at n was (t ∷ v.grip.holds) v.ways v u l in
    look_then at n m was (Some n) (t ∷ v.grip.holds) (t ∷ v.grip.holds) v.ways v.ways v u w l
    (look_as at m (seen_at u.reads at) (Some n) u.grip.holds (t ∷ v.grip.holds) v.ways u w
    (prior_of at n was (t ∷ v.grip.holds) v.ways v u l) holds
    (looks_on sp at m v.ways u w h
    (ways_same (half_of m) u.grip.holds sp u.ways (λ q half.
    unheld height q sp v.layout.decls u.grip.holds v.ways can.down can.exact
    (λ held.
    sym (ap (λ (list : List ℕ). has_slot list q) (can.bare).holds)
    ∙ (sym (ap (λ (b : Bool). b || has_slot v.grip.holds q) (ne_eqb t q (λ same. other (half ∙ ap (λ (y : ℕ). Some y) (sym same)))))
    ∙ (sym (ap (λ (list : List ℕ). has_slot list q) holds) ∙ held)))
    (subst (λ ws. WaysAgree (ways_if (has_slot u.grip.holds q) q sp ws)) l.path (agree_if sp at m q u w h half)))
    ∙ l.path)))

-- a compare_exchange that found another word
pub look_missed : (at page n m : ℕ) (was : Option ℕ) (holds : List ℕ) (ways : List Way) (v u w : View)
    → Looked at n was holds ways v u → HasRenewed at page n u m w → m ≢ n → Looked at m (Some n) holds ways v w
look_missed at page n m was holds ways v u w l h other =
    let is : w ≡ read_at at m u =
    subst (λ (c : Bool). MatchBool c (w ≡ renewed at page m u) (w ≡ read_at at m u)) (ne_eqb m n other) h in
    let old = (l.over).later in record {
      over = in_then v u w l.over (in_read at m u w is);
      grip = ap (λ (z : View). z.grip) is ∙ l.grip;
      path = ap (λ (z : View). z.ways) is ∙ l.path;
      step = u.steps;
      last = ap (λ (z : View). z.last) is;
      since = old;
      before = let up : w.steps ≡ u.steps + 1 = ap (λ (z : View). z.steps) is in omega (arith, up);
      kept = ap (λ (z : View). z.kept) is ∙ l.kept;
      gone = ap (λ (z : View). z.gone) is ∙ l.gone;
      swung = ap (λ (z : View). z.swung) is ∙ l.swung;
      read = entry_of u.reads at m (kept_at u.reads at);
      is = ap (λ (z : View). read_of z.reads at) is ∙ own_entry u.reads at m (kept_at u.reads at);
      seen = refl;
      prior = prior_of at n was holds ways v u l;
      others = λ word apart.
          ap (λ (z : View). read_of z.reads word) is
          ∙ (other_entry u.reads at m (kept_at u.reads at) word apart ∙ l.others word apart);
    }

-- ---- what it comes to

-- the pointer leads to no slot
pub none_looked : (at n : ℕ) (was : Option ℕ) (v w : View) → Looked at n was v.grip.holds v.ways v w → n < 2 ^ 32 → HasNone at v w
none_looked at n was v w l low =
    let seen = l.seen in record {
      read = (l.read, l.is, omega (arith, seen, low));
      over = over_in v w l.over l.grip l.path;
      kept = l.kept;
      gone = l.gone;
      swung = l.swung;
      others = l.others;
    }

-- the slot is held, and the word names the newest snapshot's page
pub held_looked : (sp : Span) (at page n t : ℕ) (was : Option ℕ) (v w : View)
    → Looked at n was (t ∷ v.grip.holds) (record { slot = t; span = sp } ∷ v.ways) v w → t < v.layout.slots
    → has_slot v.grip.holds t ≡ false → half_of n ≡ Some t → (0 < page → page_half n ≡ page)
    → HasIn sp at page (record { slot = t; word = n }) v w
held_looked sp at page n t was v w l slot fresh half names = record {
  grip = l.grip;
  ways = l.path;
  slot = slot;
  fresh = fresh;
  led = half;
  names = names;
  read = (l.read, l.is, l.seen);
  over = l.over;
  kept = l.kept;
  gone = l.gone;
  swung = l.swung;
  others = l.others;
}

-- and where it names that since it was renewed
pub held_renewed : (sp : Span) (at page n m t : ℕ) (was : Option ℕ) (v u w : View)
    → Looked at n was (t ∷ v.grip.holds) (record { slot = t; span = sp } ∷ v.ways) v u → t < v.layout.slots
    → has_slot v.grip.holds t ≡ false → half_of n ≡ Some t → page < 2 ^ 32 → HasRenewed at page n u m w → m ≡ n
    → HasIn sp at page (record { slot = t; word = renewed_word n page }) v w
held_renewed sp at page n m t was v u w l slot fresh half small h same =
    let now : w ≡ renewed at page m u =
    subst (λ (c : Bool). MatchBool c (w ≡ renewed at page m u) (w ≡ read_at at m u)) (eq-eqb m n same) h in
    let is : w ≡ renewed at page n u = now ∙ ap (λ (y : ℕ). renewed at page y u) same in record {
      grip = ap (λ (z : View). z.grip) is ∙ l.grip;
      ways = ap (λ (z : View). z.ways) is ∙ l.path;
      slot = slot;
      fresh = fresh;
      led = half_renewed n t page half small;
      names = λ _. page_renewed n page small;
      read = (
        entry_of u.reads at (renewed_word n page) (kept_at u.reads at),
        ap (λ (z : View). read_of z.reads at) is ∙ own_entry u.reads at (renewed_word n page) (kept_at u.reads at),
        refl,
      );
      over = in_then v u w l.over (in_renewed at page n u w is);
      kept = ap (λ (z : View). z.kept) is ∙ l.kept;
      gone = ap (λ (z : View). z.gone) is ∙ l.gone;
      swung = ap (λ (z : View). z.swung) is ∙ l.swung;
      others = λ word other.
          ap (λ (z : View). read_of z.reads word) is
          ∙ (other_entry u.reads at (renewed_word n page) (kept_at u.reads at) word other ∙ l.others word other);
    }

-- ---- kept above

-- the page is kept for the word that was looked at last
pub kept_looked : (cause : KeptWhy → ℕ → ℕ → Type 0) (at n : ℕ) (why : KeptWhy) (k : Kept) (was : Option ℕ) (holds : List ℕ)
    (ways : List Way) (v u w : View) → Looked at n was holds ways v u → k ≡ record { word = at; seen = n; why = why }
    → IsNoted k u w → cause why at n → HasKept cause k v w
kept_looked cause at n why k was holds ways v u w l is told so =
    let at-step : last_step u.last ≡ l.step = ap last_step l.last in
    let low = l.since in
    let high = l.before in
    subst (λ (z : View). HasKept cause k v z) (sym told.1) record {
      page = note_of u k;
      is = ap (λ list. list ++ note_of u k ∷ []) l.kept;
      told = refl;
      since = omega (arith, at-step, low);
      before = omega (arith, at-step, high);
      cause-is = subst (λ (z : Kept). cause z.why z.word z.seen) (sym is) so;
    }

-- the pointer is shut
pub keeps_shut : (at n : ℕ) (k : Kept) (was : Option ℕ) (v u w : View) → Looked at n was v.grip.holds v.ways v u
    → k ≡ record { word = at; seen = n; why = Locked } → IsNoted k u w → 2 ^ 60 ≤ n → KeepsAbove at k v w
keeps_shut at n k was v u w l is told high =
    let over = in_then v u w l.over (in_noted k u w told) in record {
      kept = kept_looked (IsCauseAbove at) at n Locked k was v.grip.holds v.ways v u w l is told (refl, high);
      read = (
        l.read,
        ap (λ (z : View). read_of z.reads at) told.1 ∙ l.is,
        l.seen ∙ sym (ap (λ (y : Kept). y.seen) is),
        shut_before k.why l.read (ap (λ (y : Kept). y.why) is),
      );
      over = over_in v w over (ap (λ (z : View). z.grip) told.1 ∙ l.grip) (ap (λ (z : View). z.ways) told.1 ∙ l.path);
      gone = shut_gone k.why v.grip.holds v.gone w.gone (ap (λ (y : Kept). y.why) is) (ap (λ (z : View). z.gone) told.1 ∙ l.gone);
      swung = ap (λ (z : View). z.swung) told.1 ∙ l.swung;
      others = λ word other. ap (λ (z : View). read_of z.reads word) told.1 ∙ l.others word other;
    }
  where
    shut_before : (why : KeptWhy) (r : Read) → why ≡ Locked → IsSightBefore why r
    shut_before why r same = subst (λ (y : KeptWhy). IsSightBefore y r) (sym same) tt

    shut_gone : (why : KeptWhy) (holds old new : List ℕ) → why ≡ Locked → new ≡ old → IsGoneFor why holds old new
    shut_gone why holds old new same is = subst (λ (y : KeptWhy). IsGoneFor y holds old new) (sym same) is

-- it had changed, and its slot is left
pub keeps_turned_away : (at n e t : ℕ) (k : Kept) (ways : List Way) (v u c w : View) → IsBare v
    → Looked at n (Some e) (t ∷ v.grip.holds) ways v u → k ≡ record { word = at; seen = n; why = Changed e }
    → IsNoted k u c → n ≢ e → half_of e ≡ Some t → has_slot v.grip.holds t ≡ false → other_ways t ways ≡ v.ways
    → w ≡ left t c → KeepsAbove at k v w
keeps_turned_away at n e t k ways v u c w bare l is told other half fresh back leave =
    let mid = in_then v u c l.over (in_noted k u c told) in
    let none : c.shuts ≡ [] = ap (λ (z : View). z.shuts) mid.went ∙ bare.shuts in
    let over = in_then v c w mid (in_left t c w none leave) in
    let grip : c.grip ≡ record v.grip { holds = t ∷ v.grip.holds } = ap (λ (z : View). z.grip) told.1 ∙ l.grip in
    let kept = kept_looked (IsCauseAbove at) at n (Changed e) k (Some e) (t ∷ v.grip.holds) ways v u c l is told (refl, other) in
    let before = kept.before in record {
      kept = record {
        page = kept.page;
        is = ap (λ (z : View). z.kept) leave ∙ kept.is;
        told = kept.told;
        since = kept.since;
        before = let up : w.steps ≡ c.steps + 1 = ap (λ (z : View). z.steps) leave in omega (arith, up, before);
        cause-is = kept.cause-is;
      };
      read = (
        l.read,
        ap (λ (z : View). read_of z.reads at) leave ∙ (ap (λ (z : View). read_of z.reads at) told.1 ∙ l.is),
        l.seen ∙ sym (ap (λ (y : Kept). y.seen) is),
        turned_before k.why l.read e (ap (λ (y : Kept). y.why) is) l.prior,
      );
      over = over_in v w over
          (ap (λ (z : View). z.grip) leave
          ∙ (ap (λ (g : Grip). let z : Grip = record g { holds = without g.holds t } in z) grip
          ∙ ap (λ hs. let z : Grip = record v.grip { holds = hs } in z) (without_first v.grip.holds t fresh)))
          (ap (λ (z : View). z.ways) leave
          ∙ (ap (λ ws. other_ways t ws) (ap (λ (z : View). z.ways) told.1 ∙ l.path) ∙ back));
      gone = turned_gone k.why v.grip.holds v.gone w.gone e t (ap (λ (y : Kept). y.why) is) half fresh
          (ap (λ (z : View). z.gone) leave ∙ ap (λ list. t ∷ list) (ap (λ (z : View). z.gone) told.1 ∙ l.gone));
      swung = ap (λ (z : View). z.swung) leave ∙ (ap (λ (z : View). z.swung) told.1 ∙ l.swung);
      others = λ word apart.
          ap (λ (z : View). read_of z.reads word) leave
          ∙ (ap (λ (z : View). read_of z.reads word) told.1 ∙ l.others word apart);
    }
  where
    turned_before : (why : KeptWhy) (r : Read) (e : ℕ) → why ≡ Changed e → r.was ≡ Some e → IsSightBefore why r
    turned_before why r e same was = subst (λ (y : KeptWhy). IsSightBefore y r) (sym same) was

    turned_gone : (why : KeptWhy) (holds old new : List ℕ) (e t : ℕ) → why ≡ Changed e → half_of e ≡ Some t
        → has_slot holds t ≡ false → new ≡ t ∷ old → IsGoneFor why holds old new
    turned_gone why holds old new e t same half fresh is =
        subst (λ (y : KeptWhy). IsGoneFor y holds old new) (sym same) (t, half, fresh, is)

-- ---- what the steps of it ask

pub role_of : (at n : ℕ) (was : Option ℕ) (holds : List ℕ) (ways : List Way) (v u : View) → Looked at n was holds ways v u
    → IsBare v → u.role ≡ Keeper
role_of at n was holds ways v u l bare = ap (λ (z : View). z.role) (l.over).went ∙ bare.keeper

pub slots_of_look : (at n : ℕ) (was : Option ℕ) (holds : List ℕ) (ways : List Way) (v u : View) (t : ℕ)
    → Looked at n was holds ways v u → t < v.layout.slots → t < u.layout.slots
slots_of_look at n was holds ways v u t l low =
    subst (λ (z : View). t < z.layout.slots) (sym (l.over).went) low

pub inside_of : (at n : ℕ) (was : Option ℕ) (holds : List ℕ) (ways : List Way) (v u : View) → Looked at n was holds ways v u
    → at < words_of v.layout → at < words_of u.layout
inside_of at n was holds ways v u l low = subst (λ (z : View). at < words_of z.layout) (sym (l.over).went) low

pub seen_last : (at n : ℕ) (why : KeptWhy) (was : Option ℕ) (holds : List ℕ) (ways : List Way) (v u : View)
    → Looked at n was holds ways v u → HasSeenLast u (record { word = at; seen = n; why = why })
seen_last at n why was holds ways v u l = (l.step, l.last)

-- the pointer stands where it stood
pub pointer_in : (x : At) (sp : Span) (at : ℕ) (v w : View) → GoesIn v w
    → ((z : Way) → Contains v.ways z → Contains w.ways z) → IsArrayPointerAt v x sp at → IsArrayPointerAt w x sp at
pointer_in (Root r) sp at v w h ways place =
    let same : w.layout ≡ v.layout = ap (λ (z : View). z.layout) h.went in
    subst (λ (l : Layout). (r < length l.decls) × (sp ≡ root_span l.decls r) × (at ≡ root_at r)) (sym same) place
pointer_in (In y) sp at v w h ways place =
    let same : w.layout ≡ v.layout = ap (λ (z : View). z.layout) h.went in record {
      way = place.way;
      has = ways place.way place.has;
      slot = place.slot;
      kind = ap (λ (l : Layout). is_array l.decls (place.way).span.storage) same ∙ place.kind;
      inner = place.inner;
      index = place.index;
      span = place.span;
      word = place.word ∙ ap (λ (l : Layout). page_at l.slots y.slot y.index) (sym same);
    }

pub lead_in : (sp : Span) (page : ℕ) (v w : View) → GoesIn v w → IsLeadOf v sp page → IsLeadOf w sp page
lead_in sp page v w h lead = (lead.0, h.leads lead.0 lead.1, lead.2, lead.3)

-- the slot that the first look found is one of the table
pub slot_there : (sp : Span) (at n t : ℕ) (v w : View) → HasFollowed sp at v n w → half_of n ≡ Some t → t < v.layout.slots
slot_there sp at n t v w h half = subst (λ (o : Option ℕ). IfSome o (λ q. q < v.layout.slots)) half h.slot

-- a pointer that may be renewed
pub can_renew_it : (height : ℕ) (x : At) (sp : Span) (at page n t : ℕ) (was : Option ℕ) (holds : List ℕ) (v u : View)
    → CanVisit height x sp at page v → Looked at n was holds (record { slot = t; span = sp } ∷ v.ways) v u
    → half_of n ≡ Some t → 0 < page → CanRenew u x sp at page n
can_renew_it height x sp at page n t was holds v u can l half some =
    let part = half_part n t half in
    let low = part.0 in
    let is = part.1 in record {
      keeper = role_of at n was holds (record { slot = t; span = sp } ∷ v.ways) v u l can.bare;
      place = any_pointer u x sp at (pointer_in x sp at v u l.over (λ z has.
          subst (λ ws. Contains ws z) (sym l.path) (in_tail z (record { slot = t; span = sp }) v.ways has)) can.place);
      free = low;
      leads = omega (arith, is);
      some = some;
      lead = lead_in sp page v u l.over (can.lead some);
    }

-- the pass keeps no word
pub no_parts : (t : ℕ) (v w : View) → GoesIn v w → v.seat.kept ≡ [] → keeps_word w.seat.kept t ≡ false
no_parts t v w h none = ap (λ (z : View). keeps_word z.seat.kept t) h.went ∙ ap (λ list. keeps_word list t) none
