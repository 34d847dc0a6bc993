-- What a load of a pointer leaves, and what a refusal behind it says.
use Rattle.std.proofs.Common.{◌≡◌, ◌≢◌, ◌⊎◌, inl, inr, ℕ, zero, suc, ◌+◌, ◌-◌, ◌/◌, ◌%◌, ◌^◌, ◌<◌, ◌≤◌, Bool, true}
use Rattle.std.proofs.Common.{false, true≢false}
use Rattle.std.proofs.Common.{cond, eqb, eq-eqb, ltb, List, [], ◌∷◌, ◌++◌, length, refl, sym, ap, ◌∙◌, subst}
use Rattle.std.proofs.Common.{arith, Option, Some, None}
use Rattle.std.proofs.Common.{length-append}
use Rattle.std.specs.Prelude.{IfSome, Ok, Err, if◌then◌else◌}
use Rattle.std.specs.List.{Contains}
use Rattle.std.proofs.lemmas.Bool.{or_left}
use Rattle.std.proofs.lemmas.Bool.Decides.{nat_tests}
use Rattle.lists.specs.Elements.{in_cases, in_head, in_tail}
use Rattle.lists.specs.Fronts.{IsFront, front_refl}
use Rattle.serial_model.specs.declared.key.Key.{Key}
use Rattle.homes.specs.declared.places.At.{At}
use Rattle.homes.specs.declared.places.Span.{Span}
use Rattle.commit_core.specs.declared.seat.Seat.{Seat}
use Rattle.drop_core.specs.declared.grip.Grip.{Grip}
use Rattle.drop_core.specs.Table.{has_slot}
use Rattle.tx_sets.specs.declared.seen.Seen.{Seen}
use Rattle.tx_sets.specs.Entries.{word_at}
use Rattle.engine_pages.specs.declared.layout.Layout.{Layout}
use Rattle.engine_pages.specs.declared.view.Lead.{Lead}
use Rattle.engine_pages.specs.declared.view.RefusalCause.{RefusalCause}
use Rattle.engine_pages.specs.declared.view.RefusalCause.TheVariants as causes
use Rattle.engine_pages.specs.declared.view.SetName.{SetName}
use Rattle.engine_pages.specs.declared.view.SetName.TheVariants.{Holds}
use Rattle.engine_pages.specs.declared.view.SetName.TheVariants as sets
use Rattle.engine_pages.specs.declared.view.View.{View}
use Rattle.engine_pages.specs.declared.view.Way.{Way}
use Rattle.engine_pages.specs.Agreement.{TreesAgree}
use Rattle.engine_pages.specs.Pointers.{IsArrayPointerAt, HasFollowed, WaysAgree, followed, half_of, is_open_word}
use Rattle.engine_pages.specs.Pointers.{leads_more, slot_half}
use Rattle.engine_pages.specs.Pointers.{ways_if, ways_more}
use Rattle.engine_pages.specs.Slots.{entered}
use Rattle.engine_pages.specs.Steps.{kept_at, seen_at}
use Rattle.array_pages.specs.Steps.{HoldsSo, IsChangedSince, IsLedTo, IsMetAs, IsMetElse, RefusesHold}
use Rattle.array_pages.specs.Walks.{CanWalk, HasWalked, IsPointersWord}
use Rattle.array_pages.specs.Walks.{IsOnto, IsPointerChanged}
use Rattle.array_pages.specs.Walks.{IsHeldWide, IsWayWord, KeepsMet, KeepsWords, OnlyMet, OnlyWays}
use Rattle.array_pages.specs.Walks.{RefusesPointer}
use Rattle.array_pages.specs.Walks.{RefusesWalk, SawLast}
use Rattle.array_pages.proofs.ReadLaws.{kept_here, kept_other, kept_with, noted_in, seen_other, seen_same}
use Rattle.array_pages.proofs.WalkLaws.{layout_stays, place_stays, on_stays, walked_self, walked_then, way_to}
use Rattle.array_pages.proofs.WalkLaws.{led_none, led_since, led_over, led_new, saw_back, can_after, can_entered}
use Rattle.array_pages.proofs.WalkLaws.{self, walked_entered}

-- ---- a pointer was loaded

-- The pointer was loaded with this word, which counts as met; where it leads to a slot that the pass holds, there is a
-- way into that.
pub record IsLoaded (span : Span) (at : ℕ) (v : View) (n : ℕ) (u : View) : Type 0 where
  pub walked : HasWalked v u
  pub grip : u.grip ≡ v.grip
  pub most : u.steps ≤ v.steps + 1
  pub agree : WaysAgree u.ways
  pub trees : TreesAgree u
  pub only : OnlyWays span v u
  pub met : seen_at u.reads at ≡ Some n
  pub others : (a : ℕ) → a ≢ at → seen_at u.reads a ≡ seen_at v.reads a
  pub words : (a : ℕ) → a ≢ at → kept_at u.reads a ≡ kept_at v.reads a
  pub saw : SawLast at n (seen_at v.reads at) v u
  pub slot : (t : ℕ) → half_of n ≡ Some t → t < v.layout.slots
  pub way : (t : ℕ) → half_of n ≡ Some t → has_slot v.grip.holds t ≡ true
      → Contains u.ways (record { slot = t; span = span })

-- and nothing was kept
pub record IsFollowed (span : Span) (at : ℕ) (v : View) (n : ℕ) (u : View) : Type 0 where
  pub loaded : IsLoaded span at v n u
  pub seat : u.seat ≡ v.seat
  pub words : KeepsWords v u

more_ways : (o : Option ℕ) (holds : List ℕ) (span : Span) (ways : List Way) (x : Way) → Contains ways x
    → Contains (ways_more holds o span ways) x
more_ways None holds span ways x h = h
more_ways (Some t) holds span ways x h = by_held (has_slot holds t)
  where
    by_held : (b : Bool) → Contains (ways_if b t span ways) x
    by_held true = in_tail x (record { slot = t; span = span }) ways h
    by_held false = h

more_leads : (b : Bool) (span : Span) (n name : ℕ) (leads : List Lead) (x : Lead) → Contains leads x
    → Contains (leads_more b span n name leads) x
more_leads true span n name leads x h = in_tail x (record { span = span; page = n; name = name }) leads h
more_leads false span n name leads x h = h

pub way_new : (n t : ℕ) (holds : List ℕ) (span : Span) (ways : List Way) → half_of n ≡ Some t → has_slot holds t ≡ true
    → Contains (ways_more holds (half_of n) span ways) (record { slot = t; span = span })
way_new n t holds span ways half held =
    subst (λ (o : Option ℕ). Contains (ways_more holds o span ways) (record { slot = t; span = span })) (sym half)
    (subst (λ (b : Bool). Contains (ways_if b t span ways) (record { slot = t; span = span })) (sym held)
    (in_head (record { slot = t; span = span }) ways))

pub walked_followed : (at : ℕ) (span : Span) (n name : ℕ) (pages : List (List ℕ)) (v : View) → IsFront v.pages pages
    → HasWalked v (followed at span n name pages v)
walked_followed at span n name pages v front = record {
  since = omega arith;
  drawn = front_refl v.history;
  seen = front_refl v.decided;
  parts = λ part has. inl has;
  held = λ t h. h;
  ways = λ x h. more_ways (half_of n) v.grip.holds span v.ways x h;
  pages = front;
  leads = λ x h. more_leads (is_open_word n) span (n % 2 ^ 32) name v.leads x h;
  is = refl;
}

pub only_if : (b : Bool) (t : ℕ) (span : Span) (ways : List Way) (x : Way) → Contains (ways_if b t span ways) x
    → Contains ways x ⊎ (x.span ≡ span)
only_if true t span ways x h =
    elim (in_cases x (way_to t span) ways h) [
      | inl e ↦ inr (ap (λ (y : Way). y.span) (sym e))
      | inr old ↦ inl old
    ]
only_if false t span ways x h = inl h

only_more : (o : Option ℕ) (holds : List ℕ) (span : Span) (ways : List Way) (x : Way)
    → Contains (ways_more holds o span ways) x → Contains ways x ⊎ (x.span ≡ span)
only_more None holds span ways x h = inl h
only_more (Some t) holds span ways x h = only_if (has_slot holds t) t span ways x h

pub is_followed : (span : Span) (at : ℕ) (v : View) (n : ℕ) (w : View) → HasFollowed span at v n w
    → IsFollowed span at v n w
is_followed span at v n w h =
    let u : View = followed at span n h.name h.pages v in
    subst (IsFollowed span at v n) (sym h.is) record {
      loaded = record {
        walked = walked_followed at span n h.name h.pages v h.front;
        grip = refl;
        most = omega arith;
        agree = subst (λ (z : View). WaysAgree z.ways) h.is h.agree;
        trees = subst TreesAgree h.is h.trees;
        only = λ x has. only_more (half_of n) v.grip.holds span v.ways x has;
        met = seen_same v.reads at n (kept_at v.reads at);
        others = λ a apart. seen_other v.reads at n (kept_at v.reads at) a apart;
        words = λ a apart. kept_other v.reads at n (kept_at v.reads at) a apart;
        saw = record {
          step = v.steps;
          since = omega arith;
          last = refl;
          kept = kept_at v.reads at;
          kept_is = sym (kept_here v.reads at n (kept_at v.reads at));
          stands = noted_in v.reads at n (kept_at v.reads at);
        };
        slot = λ t half. subst (λ (o : Option ℕ). IfSome o (λ q. q < v.layout.slots)) half h.slot;
        way = λ t half held. way_new n t v.grip.holds span v.ways half held;
      };
      seat = refl;
      words = λ a. kept_with v.reads at n a;
    }

-- ---- refusals at a pointer

pub word_loaded : (place : At) (span : Span) (at : ℕ) (v : View) (n : ℕ) (u : View) → IsLoaded span at v n u
    → IsArrayPointerAt v place span at → IsPointersWord u at
word_loaded place span at v n u l p =
    record { place = place; span = span; is = place_stays v u place span at l.walked p }

pub way_loaded : (k : Key) (place : At) (span : Span) (at : ℕ) (v : View) (n : ℕ) (u : View)
    → IsOnto v.layout span at k → IsLoaded span at v n u → IsArrayPointerAt v place span at → IsWayWord k u at
way_loaded k place span at v n u onto l p = record {
  place = place;
  span = span;
  is = place_stays v u place span at l.walked p;
  over = onto.over;
  on = on_stays v u k at l.walked onto.on;
}

-- no word but this one of a pointer was met
pub only_but : (at : ℕ) (v w : View) → IsPointersWord w at → ((a : ℕ) → a ≢ at → seen_at w.reads a ≡ seen_at v.reads a)
    → OnlyMet v w
only_but at v w p others = λ a. by_test a (eqb a at) refl
  where
    by_test : (a : ℕ) (b : Bool) → eqb a at ≡ b → (seen_at w.reads a ≡ seen_at v.reads a) ⊎ IsPointersWord w a
    by_test a true same =
        let is : at ≡ a = grind (arith, nat_tests) in inr (subst (IsPointersWord w) is p)
    by_test a false other = inl (others a (λ e. true≢false (sym (eq-eqb a at e) ∙ other)))

pub only_loaded : (place : At) (span : Span) (at : ℕ) (v : View) (n : ℕ) (u : View) → IsLoaded span at v n u
    → IsArrayPointerAt v place span at → OnlyMet v u
only_loaded place span at v n u l p = only_but at v u (word_loaded place span at v n u l p) l.others

-- it is as the set has it, or not in the set
pub keeps_but : (pointers : List Seen) (met : Bool) (at n : ℕ) (v w : View) → IsMetAs pointers at n met
    → seen_at w.reads at ≡ Some n → ((a : ℕ) → a ≢ at → seen_at w.reads a ≡ seen_at v.reads a) → KeepsMet pointers v w
keeps_but pointers met at n v w set_is here others = λ a word has p seen. by_test a word has seen (eqb a at) refl
  where
    in_set : (b : Bool) (word : ℕ) → word_at at pointers ≡ (if b then Some n else None)
        → word_at at pointers ≡ Some word
        → Some n ≡ Some word
    in_set true word is has = sym is ∙ has
    in_set false word is has = let none : None ≡ Some word = sym is ∙ has in absurd (cc)

    by_test : (a word : ℕ) → word_at a pointers ≡ Some word → seen_at v.reads a ≡ Some word → (b : Bool)
        → eqb a at ≡ b → seen_at w.reads a ≡ Some word
    by_test a word has seen true same =
        let is : a ≡ at = grind (arith, nat_tests) in
        ap (seen_at w.reads) is
        ∙ (here ∙ in_set met word set_is (ap (λ (i : ℕ). word_at i pointers) (sym is) ∙ has))
    by_test a word has seen false other = others a (λ e. true≢false (sym (eq-eqb a at e) ∙ other)) ∙ seen

-- the set has it with another word
pub met_refuses : (pointers : List Seen) (slots : List ℕ) (place : At) (span : Span) (at : ℕ) (why : RefusalCause)
    (v : View) (n : ℕ) (u : View) → IsLoaded span at v n u → IsArrayPointerAt v place span at → IsMetElse pointers at n why
    → (k : Key) → IsOnto v.layout span at k → RefusesPointer k pointers slots why v u
met_refuses pointers slots place span at (causes.Conflict other expected seen) v n u l p h k onto =
    subst (λ j. IsPointerChanged k pointers j expected seen v u) (sym h.0)
    (subst (λ i. IsPointerChanged k pointers at expected i v u) (sym h.1) record {
      place = way_loaded k place span at v n u onto l p;
      was = seen_at v.reads at;
      saw = l.saw;
      known = inl h.2;
      before = λ p has seen. inl seen;
      cause = inr h.3;
    })
met_refuses pointers slots place span at (causes.Full held) v n u l p h k onto = absurd h
met_refuses pointers slots place span at (causes.Wide set) v n u l p h k onto = absurd h
met_refuses pointers slots place span at (causes.NumberLimit clock) v n u l p h k onto = absurd h

-- it was loaded again
pub changed_since : (place : At) (span : Span) (at word : ℕ) (v : View) (n : ℕ) (u : View) → IsLoaded span at v n u
    → IsArrayPointerAt v place span at → seen_at v.reads at ≡ Some word → (2 ^ 60 ≤ n) ⊎ (n ≢ word)
    → IsChangedSince span at word n v u
changed_since place span at word v n u l p met cause = record {
  place = place;
  is = place_stays v u place span at l.walked p;
  saw = subst (λ (o : Option ℕ). SawLast at n o v u) met l.saw;
  cause = cause;
}

pub shut_or_other : (word again : ℕ) → 2 ^ 60 ≤ word → (2 ^ 60 ≤ again) ⊎ (again ≢ word)
shut_or_other word again shut = by_test (ltb again (2 ^ 60)) refl
  where
    by_test : (b : Bool) → ltb again (2 ^ 60) ≡ b → (2 ^ 60 ≤ again) ⊎ (again ≢ word)
    by_test true low = let less : again < 2 ^ 60 = grind (arith, nat_tests) in inr
        (λ e. absurd (omega (arith, less, shut, e)))
    by_test false high = let most : 2 ^ 60 ≤ again = grind (arith, nat_tests) in inl most

pub since_changes : (k : Key) (pointers : List Seen) (met : Bool) (span : Span) (at word seen : ℕ) (v u w : View)
    → IsOnto w.layout span at k → v.steps ≤ u.steps → IsMetAs pointers at word met
    → IsChangedSince span at word seen u w → IsPointerChanged k pointers at word seen v w
since_changes k pointers met span at word seen v u w onto since set_is c = record {
  place = record { place = c.place; span = span; is = c.is; over = onto.over; on = onto.on };
  was = Some word;
  saw = saw_back at seen (Some word) v u w since c.saw;
  known = by_met met set_is;
  before = λ p has seen. inl refl;
  cause = c.cause;
}
  where
    by_met : (b : Bool) → word_at at pointers ≡ (if b then Some word else None)
        → (word_at at pointers ≡ Some word) ⊎ ((word_at at pointers ≡ None) × (Some word ≡ Some word))
    by_met true is = inl is
    by_met false is = inr (is, refl)

pub hold_refuses : (k : Key) (pointers : List Seen) (met : Bool) (slots : List ℕ) (span : Span) (at word : ℕ)
    (why : RefusalCause) (v u w : View) → IsOnto w.layout span at k → v.steps ≤ u.steps → u.grip ≡ v.grip
    → IsMetAs pointers at word met → RefusesHold slots span at word why u w → RefusesPointer k pointers slots why v w
hold_refuses k pointers met slots span at word (causes.Conflict other expected seen) v u w onto since grip set_is h =
    subst (λ j. IsPointerChanged k pointers j expected seen v w) (sym h.0)
    (subst (λ i. IsPointerChanged k pointers at i seen v w) (sym h.1)
    (since_changes k pointers met span at word seen v u w onto since set_is h.2))
hold_refuses k pointers met slots span at word (causes.Full held) v u w onto since grip set_is h = absurd h
hold_refuses k pointers met slots span at word (causes.Wide set) v u w onto since grip set_is h =
    let some = h.1 in
    let room = h.3 in
    subst (λ (s : SetName). IsHeldWide k slots s v w) (sym h.0) (
      room.full,
      record {
        at = at;
        word = word;
        on = record { place = room.place; span = span; is = room.is; over = onto.over; on = onto.on };
        saw = room.saw;
        led = some;
        unshut = h.2;
        unheld = room.unheld some;
      },
      led_over k span v w onto.over (led_since span v u w grip h.4),
    )
hold_refuses k pointers met slots span at word (causes.NumberLimit clock) v u w onto since grip set_is h = absurd h

-- so is a walk
pub pointer_walks : (k : Key) (pointers : List Seen) (slots : List ℕ) (why : RefusalCause) (v w : View)
    → RefusesPointer k pointers slots why v w → RefusesWalk k pointers slots why v w
pointer_walks k pointers slots (causes.Conflict at expected seen) v w h = h
pointer_walks k pointers slots (causes.Full held) v w h = absurd h
pointer_walks k pointers slots (causes.Wide sets.Reads) v w h = absurd h
pointer_walks k pointers slots (causes.Wide sets.Writes) v w h = absurd h
pointer_walks k pointers slots (causes.Wide sets.Pointers) v w h = absurd h
pointer_walks k pointers slots (causes.Wide sets.Holds) v w h = h
pointer_walks k pointers slots (causes.NumberLimit clock) v w h = absurd h

-- ---- a slot that is held

pub half_is : (n : ℕ) → 2 ^ 32 ≤ n → n < 2 ^ 60 → half_of n ≡ Some (n / 2 ^ 32 - 1)
half_is n some less =
    let open-so : is_open_word n ≡ true = grind (arith, nat_tests) in
    ap (λ (b : Bool). let o : Option ℕ = cond b (slot_half (n / 2 ^ 32)) None in o) open-so
    ∙ by_half (n / 2 ^ 32) (omega (arith, some))
  where
    by_half : (h : ℕ) → 0 < h → slot_half h ≡ Some (h - 1)
    by_half zero some = absurd (omega (arith, some))
    by_half (suc t) some = ap (λ (i : ℕ). let o : Option ℕ = Some i in o) (let e : t ≡ suc t - 1 = omega arith in e)

-- what a pointer that was just seen to lead to a slot tells
pub led_to : (span : Span) (at : ℕ) (v : View) (n : ℕ) (u : View) → IsLoaded span at v n u → 2 ^ 32 ≤ n → n < 2 ^ 60
    → IsLedTo n span at u
led_to span at v n u l some less =
    let half = half_is n some less in record {
      there = subst (λ (y : Layout). n / 2 ^ 32 - 1 < y.slots) (sym (layout_stays v u l.walked))
          (l.slot (n / 2 ^ 32 - 1) half);
      known = λ held. l.way (n / 2 ^ 32 - 1) half
          (subst (λ (g : Grip). has_slot g.holds (n / 2 ^ 32 - 1) ≡ true) l.grip held);
      met = l.met;
    }

-- it is held already
pub hold_same : (slots : List ℕ) (at word : ℕ) (span : Span) (v : View) → CanWalk slots v → IsLedTo word span at v
    → has_slot slots (word / 2 ^ 32 - 1) ≡ true
    → HoldsSo (length slots + 1) slots at word span (Ok (word / 2 ^ 32 - 1)) v v
hold_same slots at word span v can led held = record {
  can = can;
  walked = walked_self v;
  kept = refl;
  most = omega arith;
  grows = omega arith;
  words = λ a. refl;
  only = λ x has. inl has;
  led = led_none span v v refl;
  others = λ a apart. refl;
  still = led.met;
  held = (led.known (sym (can.holds (word / 2 ^ 32 - 1)) ∙ held), led.there);
  cause = tt;
}

-- the holds are full
pub hold_wide : (slots : List ℕ) (place : At) (at word : ℕ) (span : Span) (v : View) → CanWalk slots v
    → IsArrayPointerAt v place span at → IsLedTo word span at v → 2 ^ 32 ≤ word → word < 2 ^ 60
    → has_slot slots (word / 2 ^ 32 - 1) ≡ false → length slots ≡ 128
    → HoldsSo (length slots + 1) slots at word span (Err (causes.Wide Holds)) v v
hold_wide slots place at word span v can p led some less unheld full = record {
  can = can;
  walked = walked_self v;
  kept = refl;
  most = omega arith;
  grows = omega arith;
  words = λ a. refl;
  only = λ x has. inl has;
  led = tt;
  others = λ a apart. refl;
  still = tt;
  held = tt;
  cause = (
    refl,
    some,
    less,
    record {
      full = full;
      place = place;
      is = p;
      saw = led.met;
      unheld = λ more. unheld;
    },
    led_none span v v refl,
  );
}

-- the slot was entered, and the pointer loaded once more
module _ (slots : List ℕ) (place : At) (at word : ℕ) (span : Span) (v e : View) (again : ℕ) (w : View)
    (can : CanWalk slots v) (p : IsArrayPointerAt v place span at) (led : IsLedTo word span at v)
    (enters : e ≡ entered (word / 2 ^ 32 - 1) v) (f : IsFollowed span at e again w) where
  abbrev t : ℕ
  t = word / 2 ^ 32 - 1

  first : HasWalked v e
  first = subst (HasWalked v) (sym enters) (walked_entered t v)

  walk : HasWalked v w
  walk = walked_then v e w first f.loaded.walked

  can_last : CanWalk (slots ++ t ∷ []) w
  can_last =
      can_after (slots ++ t ∷ []) e w f.loaded.walked f.loaded.grip f.loaded.agree f.loaded.trees
      (can_entered slots t v e led.there enters can)

  kept_last : w.seat.kept ≡ v.seat.kept
  kept_last = ap (λ (s : Seat). s.kept) f.seat ∙ ap (λ (z : View). z.seat.kept) enters

  most_last : w.steps ≤ v.steps + 2
  most_last =
      let first = ap (λ (z : View). z.steps) enters in let next = f.loaded.most in omega (arith, first, next)

  grows_last : length (slots ++ t ∷ []) ≤ length slots + 1
  grows_last = let long = length-append slots (t ∷ []) in omega (arith, long)

  words_last : (a : ℕ) → kept_at w.reads a ≡ kept_at v.reads a
  words_last a = f.words a ∙ ap (λ (z : View). kept_at z.reads a) enters

  only_last : OnlyWays span v w
  only_last = λ x has. elim (f.loaded.only x has) [
    | inl old ↦ inl (subst (λ (z : View). Contains z.ways x) enters old)
    | inr new ↦ inr new
  ]

  others_last : (a : ℕ) → a ≢ at → seen_at w.reads a ≡ seen_at v.reads a
  others_last a apart = f.loaded.others a apart ∙ ap (λ (z : View). seen_at z.reads a) enters

  pub hold_changed : again ≢ word
      → HoldsSo (length slots + 1) (slots ++ t ∷ []) at word span (Err (causes.Conflict at word again)) v w
  hold_changed other = record {
    can = can_last;
    walked = walk;
    kept = kept_last;
    most = most_last;
    grows = grows_last;
    words = words_last;
    only = only_last;
    led = tt;
    others = others_last;
    still = tt;
    held = tt;
    cause = (
      refl,
      refl,
      changed v e (let later = first.since in later) (changed_since place span at word e again w f.loaded
          (place_stays v e place span at first p) (ap (λ (z : View). seen_at z.reads at) enters ∙ led.met) (inr other)),
    );
  }
    where
      changed : (v e : View) → v.steps ≤ e.steps → IsChangedSince span at word again e w
          → IsChangedSince span at word again v w
      changed v e since c = record {
        place = c.place;
        is = c.is;
        saw = saw_back at again (Some word) v e w since c.saw;
        cause = c.cause;
      }

  holds_last : w.grip.holds ≡ t ∷ v.grip.holds
  holds_last = ap (λ (g : Grip). g.holds) f.loaded.grip ∙ ap (λ (z : View). z.grip.holds) enters

  way_last : again ≡ word → 2 ^ 32 ≤ word → word < 2 ^ 60 → Contains w.ways (record { slot = t; span = span })
  way_last same some less =
      f.loaded.way t (ap half_of same ∙ half_is word some less)
      (subst (λ (l : List ℕ). has_slot l t ≡ true) (sym (ap (λ (z : View). z.grip.holds) enters))
      (or_left (eqb t t) (has_slot v.grip.holds t) (self t)))

  pub hold_held : again ≡ word → 2 ^ 32 ≤ word → word < 2 ^ 60
      → HoldsSo (length slots + 1) (slots ++ t ∷ []) at word span (Ok t) v w
  hold_held same some less = record {
    can = can_last;
    walked = walk;
    kept = kept_last;
    most = most_last;
    grows = grows_last;
    words = words_last;
    only = only_last;
    led = led_new t span v w holds_last (way_last same some less);
    others = others_last;
    still = f.loaded.met ∙ ap (λ (i : ℕ). let o : Option ℕ = Some i in o) same;
    held = (
      way_last same some less,
      subst (λ (y : Layout). t < y.slots) (sym (layout_stays v w walk)) led.there,
    );
    cause = tt;
  }
