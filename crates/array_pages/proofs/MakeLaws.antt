-- What it comes to that pages are made.
use Rattle.std.proofs.Common.{true≢false}
use Rattle.std.proofs.Common.{◌≡◌, ◌≢◌, ◌⊎◌, inl, inr, ℕ, ◌+◌, ◌^◌, ◌<◌, ◌≤◌, Bool, true, false}
use Rattle.std.proofs.Common.{eqb, eq-eqb, List, ◌∷◌, length, set, refl, sym, ap, ◌∙◌, subst, arith}
use Rattle.std.proofs.Common.{Some, None}
use Rattle.std.specs.Prelude.{nat_lt, Result, Ok, Err}
use Rattle.std.specs.List.{Contains}
use Rattle.std.proofs.lemmas.Bool.Decides.{nat_tests}
use Rattle.lists.specs.Elements.{in_head}
use Rattle.serial_model.specs.declared.key.Key.{Key}
use Rattle.homes.specs.declared.places.At.{At}
use Rattle.homes.specs.declared.places.Span.{Span}
use Rattle.homes.specs.Homes.{in_span}
use Rattle.commit_core.specs.declared.seat.Seat.{Seat}
use Rattle.tx_sets.specs.declared.seen.Seen.{Seen}
use Rattle.tx_sets.specs.Entries.{word_at}
use Rattle.engine_pages.specs.declared.layout.Layout.{Layout}
use Rattle.engine_pages.specs.declared.view.Lead.{Lead}
use Rattle.engine_pages.specs.declared.view.RefusalCause.{RefusalCause}
use Rattle.engine_pages.specs.declared.view.RefusalCause.TheVariants as causes
use Rattle.engine_pages.specs.declared.view.SetName.{SetName}
use Rattle.engine_pages.specs.declared.view.SetName.TheVariants as sets
use Rattle.engine_pages.specs.declared.view.View.{View}
use Rattle.engine_pages.specs.Pointers.{IsArrayPointerAt, HasFollowed, StandsFor, leads_more, page_half}
use Rattle.engine_pages.specs.Steps.{seen_at}
use Rattle.array_pages.specs.declared.making.Settled.{Settled}
use Rattle.array_pages.specs.Making.{CanMake, HasRecordAt}
use Rattle.array_pages.specs.Making.{IsMadeWide, RefusesMake}
use Rattle.array_pages.specs.Steps.{ChecksSo, HoldsSo, InstallsSo, IsBareAt, IsMetAs}
use Rattle.array_pages.specs.Steps.{IsMetElse, MakesSo, RefusesInstall, SettlesSo}
use Rattle.array_pages.specs.Walks.{CanWalk, HasWalked, IsPointersWord, IsPointerChanged, KeepsBut, KeepsMet}
use Rattle.array_pages.specs.Walks.{AreLedTo, IsOnto, KeepsWords, OnlyMet, OnlyWaysTo, RefusesPointer}
use Rattle.array_pages.proofs.WalkLaws.{can_after}
use Rattle.array_pages.proofs.LoadedLaws.{IsFollowed, IsLoaded, changed_since}
use Rattle.array_pages.proofs.WalkLaws.{keeps_then, layout_stays}
use Rattle.array_pages.proofs.LoadedLaws.{hold_refuses, is_followed, keeps_but, met_refuses}
use Rattle.array_pages.proofs.WalkLaws.{only_then, place_stays, record_stays}
use Rattle.array_pages.proofs.LoadedLaws.{only_but, only_loaded}
use Rattle.array_pages.proofs.WalkLaws.{walked_self, walked_then}
use Rattle.array_pages.proofs.LoadedLaws.{shut_or_other, since_changes}
use Rattle.array_pages.proofs.WalkLaws.{led_none, led_over, led_since, led_then, onto_stays, ways_then, ways_to}
use Rattle.array_pages.proofs.WalkLaws.{ways_to_then}
use Rattle.array_pages.proofs.WalkLaws.{word_stays}
use Rattle.array_pages.proofs.LoadedLaws.{word_loaded}
use Rattle.array_pages.proofs.InstallLaws.{make_after}

-- ---- the page below a pointer is in a slot

walk_cause : (k : Key) (pointers : List Seen) (slots : List ℕ) (why : RefusalCause) (v w : View)
    → RefusesPointer k pointers slots why v w → RefusesMake k pointers slots why v w
walk_cause k pointers slots (causes.Conflict at expected seen) v w h = inl h
walk_cause k pointers slots (causes.Full held) v w h = absurd h
walk_cause k pointers slots (causes.Wide sets.Reads) v w h = absurd h
walk_cause k pointers slots (causes.Wide sets.Writes) v w h = absurd h
walk_cause k pointers slots (causes.Wide sets.Pointers) v w h = absurd h
walk_cause k pointers slots (causes.Wide sets.Holds) v w h = (
  h.0,
  record {
    at = h.1.at;
    word = h.1.word;
    on = h.1.on;
    saw = h.1.saw;
    unshut = h.1.unshut;
    unheld = λ some. h.1.unheld;
  },
  h.2,
)
walk_cause k pointers slots (causes.NumberLimit clock) v w h = absurd h

install_cause : (k : Key) (pointers : List Seen) (met : Bool) (slots : List ℕ) (span : Span) (at word : ℕ)
    (why : RefusalCause) (v u w : View) → IsOnto w.layout span at k → HasWalked v u → u.grip ≡ v.grip
    → IsMetAs pointers at word met → RefusesInstall slots span at word why u w → RefusesMake k pointers slots why v w
install_cause k pointers met slots span at word (causes.Conflict other expected seen) v u w onto walk grip set_is h =
    elim h [
      | inl changed ↦
          inl (subst (λ j. IsPointerChanged k pointers j expected seen v w) (sym changed.0)
          (subst (λ i. IsPointerChanged k pointers at i seen v w) (sym changed.1)
          (since_changes k pointers met span at word seen v u w onto walk.since set_is changed.2)))
      | inr slot ↦ inr (u, walk, slot)
    ]
install_cause k pointers met slots span at word (causes.Full held) v u w onto walk grip set_is h = record {
  before = u;
  walked = walk;
  full = h.0;
  led = led_over k span v w onto.over (led_since span v u w grip h.1);
}
install_cause k pointers met slots span at word (causes.Wide set) v u w onto walk grip set_is h =
    let bare = h.1 in
    let room = h.2 in
    subst (λ (s : SetName). IsMadeWide k slots s v w) (sym h.0) (
      room.full,
      record {
        at = at;
        word = word;
        on = record { place = room.place; span = span; is = room.is; over = onto.over; on = onto.on };
        saw = room.saw;
        unshut = omega (arith, bare);
        unheld = room.unheld;
      },
      led_over k span v w onto.over (led_since span v u w grip h.3),
    )
install_cause k pointers met slots span at word (causes.NumberLimit clock) v u w onto walk grip set_is h = absurd h

-- a page with a name, over these keys
abbrev lead_with : Span → ℕ → ℕ → Lead
lead_with span i name = record { span = span; page = i; name = name }

-- what the load of a bare pointer tells
pub bare_at : (slots : List ℕ) (span : Span) (at : ℕ) (v : View) (n : ℕ) (u : View) → CanWalk slots u → n < 2 ^ 32
    → HasFollowed span at v n u → IsBareAt n span at u
bare_at slots span at v n u can bare h =
    let open-so : nat_lt n (2 ^ 60) ≡ true = below n (2 ^ 60) (omega (arith, bare)) in
    let whole : page_half n ≡ n = omega (arith, bare) in
    let f = is_followed span at v n u h in
    let pages : u.pages ≡ h.pages = ap (λ (z : View). z.pages) h.is in
    let layout : u.layout ≡ v.layout = ap (λ (z : View). z.layout) h.is in record {
      bare = bare;
      there = subst (λ (l : List (List ℕ)). n ≤ length l) (sym pages)
          (subst (λ i. i ≤ length h.pages) whole (h.there open-so));
      look = record {
        active = can.active;
        room = subst (λ (l : List (List ℕ)). length l ≤ u.layout.resident) (sym pages)
            (subst (λ (y : Layout). length h.pages ≤ y.resident) (sym layout) h.few);
        most = subst (λ (l : List (List ℕ)). length l ≤ 65536) (sym pages) h.most;
      };
      stands = λ some. subst (λ (l : List (List ℕ)). StandsFor u.layout.decls l span n) (sym pages)
          (subst (λ (y : Layout). StandsFor y.decls h.pages span n) (sym layout)
          (subst (StandsFor v.layout.decls h.pages span) whole
          (h.stands open-so (subst (λ i. 0 < i) (sym whole) some))));
      lead = (
        lead_with span n h.name,
        subst (λ (z : View). Contains z.leads (lead_with span n h.name)) (sym h.is)
            (subst (λ (b : Bool). Contains (leads_more b span (page_half n) h.name v.leads)
            (lead_with span n h.name)) (sym open-so)
            (subst (λ i. Contains (lead_with span i h.name ∷ v.leads) (lead_with span n h.name)) (sym whole)
            (in_head (lead_with span n h.name) v.leads))),
        refl,
        refl,
      );
      met = f.loaded.met;
    }
  where
    below : (a b : ℕ) → a < b → nat_lt a b ≡ true
    below a b less = grind (arith, nat_tests)

module _ (pointers : List Seen) (slots : List ℕ) (place : At) (span : Span) (at n : ℕ) (v u : View)
    (can : CanMake slots v) (p : IsArrayPointerAt v place span at) (f : IsFollowed span at v n u) where
  abbrev l : IsLoaded span at v n u
  l = f.loaded

  first_walks : CanWalk slots u
  first_walks = can_after slots v u l.walked l.grip l.agree l.trees can.walks

  pub can_first : CanMake slots u
  can_first = make_after slots slots v u l.walked first_walks can

  settle_most : (w : View) → w.steps ≤ u.steps + (u.layout.slots + 133) → w.steps ≤ v.steps + (v.layout.slots + 134)
  settle_most w more =
      let one = l.most in
      let same = ap (λ (y : Layout). y.slots) (layout_stays v u l.walked) in omega (arith, more, one, same)

  kept_first : u.seat.kept ≡ v.seat.kept
  kept_first = ap (λ (s : Seat). s.kept) f.seat

  -- the set has it with another word
  pub settle_other : (why : RefusalCause) → IsMetElse pointers at n why
      → SettlesSo (length slots + 1) pointers slots span at (Err why) v u
  settle_other why h = record {
    can = can_first;
    walked = l.walked;
    kept = kept_first;
    most = let one = l.most in omega (arith, one);
    grows = omega arith;
    words = f.words;
    only = l.only;
    led = tt;
    settled = tt;
    cause = λ k onto. walk_cause k pointers slots why v u
        (met_refuses pointers slots place span at why v n u l p h k onto);
  }

  -- it is shut
  pub settle_shut : (met : Bool) (again : ℕ) (w : View) → IsMetAs pointers at n met → 2 ^ 60 ≤ n
      → IsFollowed span at u again w → SettlesSo (length slots + 1) pointers slots span at
      (Err (causes.Conflict at n again)) v w
  settle_shut met again w set_is shut g =
      let q = place_stays v u place span at l.walked p in
      let walk = walked_then v u w l.walked g.loaded.walked in record {
        can = make_after slots slots v w walk
            (can_after slots u w g.loaded.walked g.loaded.grip g.loaded.agree g.loaded.trees first_walks) can;
        walked = walk;
        kept = ap (λ (s : Seat). s.kept) g.seat ∙ kept_first;
        most = let one = l.most in let two = g.loaded.most in omega (arith, one, two);
        grows = omega arith;
        words = λ a. g.words a ∙ f.words a;
        only = ways_then span v u w l.only g.loaded.only;
        led = tt;
        settled = tt;
        cause = λ k onto. inl (since_changes k pointers met span at n again v u w (onto_stays v w span at k walk onto)
            l.walked.since set_is
            (changed_since place span at n u again w g.loaded q l.met (shut_or_other n again shut)));
      }

  -- the slot isn't held
  pub settle_unheld : (met : Bool) (late : List ℕ) (why : RefusalCause) (w : View) → IsMetAs pointers at n met
      → HoldsSo (length slots + 1) late at n span (Err why) u w
      → SettlesSo (length slots + 1) pointers late span at (Err why) v w
  settle_unheld met late why w set_is h =
      let walk = walked_then v u w l.walked h.walked in record {
        can = make_after slots late v w walk h.can can;
        walked = walk;
        kept = h.kept ∙ kept_first;
        most = let one = l.most in let two = h.most in omega (arith, one, two);
        grows = h.grows;
        words = λ a. h.words a ∙ f.words a;
        only = ways_then span v u w l.only h.only;
        led = tt;
        settled = tt;
        cause = λ k onto. walk_cause k pointers late why v w
            (hold_refuses k pointers met late span at n why v u w (onto_stays v w span at k walk onto) l.walked.since
            l.grip set_is h.cause);
      }

  keeps_all : (w : View) → KeepsMet pointers v w → KeepsBut pointers false at v w
  keeps_all w keeps = λ a word has q apart seen. keeps a word has q seen

  -- it is held
  pub settle_held : (met : Bool) (late : List ℕ) (t : ℕ) (w : View) → IsMetAs pointers at n met
      → HoldsSo (length slots + 1) late at n span (Ok t) u w
      → SettlesSo (length slots + 1) pointers late span at
      (Ok (let s : Settled = record { slot = t; moved = false } in s)) v w
  settle_held met late t w set_is h =
      let q = word_stays u w at h.walked (word_loaded place span at v n u l p) in
      let walk = walked_then v u w l.walked h.walked in record {
        can = make_after slots late v w walk h.can can;
        walked = walk;
        kept = h.kept ∙ kept_first;
        most = let one = l.most in let two = h.most in omega (arith, one, two);
        grows = h.grows;
        words = λ a. h.words a ∙ f.words a;
        only = ways_then span v u w l.only h.only;
        led = led_since span v u w l.grip h.led;
        settled = record {
          way = h.held.0;
          there = h.held.1;
          others = only_then v u w h.walked (only_loaded place span at v n u l p) (only_but at u w q h.others);
          keeps = keeps_all w (keeps_then pointers v u w l.walked
              (keeps_but pointers met at n v u set_is l.met l.others)
              (keeps_but pointers met at n u w set_is h.still h.others));
        };
        cause = tt;
      }

  -- a copy wasn't put in
  pub settle_bare : (met : Bool) (late : List ℕ) (why : RefusalCause) (w : View) → IsMetAs pointers at n met
      → InstallsSo (length slots + 1) late at n span (Err why) u w
      → SettlesSo (length slots + 1) pointers late span at (Err why) v w
  settle_bare met late why w set_is h = record {
    can = h.can;
    walked = walked_then v u w l.walked h.walked;
    kept = h.kept ∙ kept_first;
    most = settle_most w h.most;
    grows = h.grows;
    words = λ a. h.words a ∙ f.words a;
    only = ways_then span v u w l.only h.only;
    led = tt;
    settled = tt;
    cause = λ k onto. install_cause k pointers met late span at n why v u w
        (onto_stays v w span at k (walked_then v u w l.walked h.walked) onto) l.walked l.grip set_is h.cause;
  }

  -- it was put in
  pub settle_put : (met : Bool) (late : List ℕ) (t : ℕ) (w : View) → IsMetAs pointers at n met
      → InstallsSo (length slots + 1) late at n span (Ok t) u w
      → SettlesSo (length slots + 1) pointers late span at
      (Ok (let s : Settled = record { slot = t; moved = met } in s)) v w
  settle_put met late t w set_is h =
      let q = word_stays u w at h.walked (word_loaded place span at v n u l p) in record {
        can = h.can;
        walked = walked_then v u w l.walked h.walked;
        kept = h.kept ∙ kept_first;
        most = settle_most w h.most;
        grows = h.grows;
        words = λ a. h.words a ∙ f.words a;
        only = ways_then span v u w l.only h.only;
        led = led_since span v u w l.grip h.led;
        settled = record {
          way = h.held.0;
          there = h.held.1;
          others = only_then v u w h.walked (only_loaded place span at v n u l p) (only_but at u w q h.others);
          keeps = keeps_put met set_is h.others;
        };
        cause = tt;
      }
    where
      keeps_put : (met : Bool) → IsMetAs pointers at n met
          → ((a : ℕ) → a ≢ at → seen_at w.reads a ≡ seen_at u.reads a) → KeepsBut pointers met at v w
      keeps_put true set_is others = λ a word has q apart seen.
          others a (apart refl) ∙ (l.others a (apart refl) ∙ seen)
      keeps_put false set_is others = λ a word has q apart seen.
          let other : a ≢ at = λ e. none_some word (sym set_is ∙ (ap (λ (i : ℕ). word_at i pointers) (sym e) ∙ has)) in
          others a other ∙ (l.others a other ∙ seen)
        where
          none_some : (word : ℕ) → None ≡ Some word → ⊥
          none_some word e = cc

-- ---- a pointer of the set that was moved is looked at once more

pub check_unmoved : (pointers : List Seen) (span : Span) (at : ℕ) (v : View)
    → ChecksSo pointers span at false (Ok tt) v v
check_unmoved pointers span at v = record {
  can = λ slots c. c;
  walked = walked_self v;
  kept = refl;
  most = omega arith;
  words = λ a. refl;
  only = λ x has. inl has;
  grip = refl;
  others = λ a apart. refl;
  same = λ moved. absurd (true≢false (sym moved));
  cause = tt;
}

module _ (pointers : List Seen) (place : At) (span : Span) (at n : ℕ) (v u : View) (p : IsArrayPointerAt v place span at)
    (f : IsFollowed span at v n u) where
  check_can : (slots : List ℕ) → CanMake slots v → CanMake slots u
  check_can slots c =
      make_after slots slots v u f.loaded.walked
      (can_after slots v u f.loaded.walked f.loaded.grip f.loaded.agree f.loaded.trees c.walks) c

  check_others : (a : ℕ) → (a ≢ at) ⊎ (true ≡ false) → seen_at u.reads a ≡ seen_at v.reads a
  check_others a (inl apart) = f.loaded.others a apart
  check_others a (inr wrong) = absurd (true≢false wrong)

  pub check_other : (why : RefusalCause) → IsMetElse pointers at n why → ChecksSo pointers span at true (Err why) v u
  check_other why h = record {
    can = check_can;
    walked = f.loaded.walked;
    kept = ap (λ (s : Seat). s.kept) f.seat;
    most = f.loaded.most;
    words = f.words;
    only = f.loaded.only;
    grip = f.loaded.grip;
    others = check_others;
    same = tt;
    cause = λ k onto slots. walk_cause k pointers slots why v u
        (met_refuses pointers slots place span at why v n u f.loaded p h k onto);
  }

  pub check_same : (met : Bool) → IsMetAs pointers at n met → ChecksSo pointers span at true (Ok tt) v u
  check_same met set_is = record {
    can = check_can;
    walked = f.loaded.walked;
    kept = ap (λ (s : Seat). s.kept) f.seat;
    most = f.loaded.most;
    words = f.words;
    only = f.loaded.only;
    grip = f.loaded.grip;
    others = check_others;
    same = λ moved word has. f.loaded.met ∙ in_set met word set_is has;
    cause = tt;
  }
    where
      in_set : (b : Bool) (word : ℕ) → IsMetAs pointers at n b → word_at at pointers ≡ Some word → Some n ≡ Some word
      in_set true word is has = sym is ∙ has
      in_set false word is has = let none : None ≡ Some word = sym is ∙ has in absurd (cc)

-- ---- the record

make_back : (k : Key) (pointers : List Seen) (slots : List ℕ) (why : RefusalCause) (v u w : View) → HasWalked v u
    → HasWalked u w → AreLedTo k v u → KeepsWords v w → RefusesMake k pointers slots why u w
    → RefusesMake k pointers slots why v w
make_back k pointers slots (causes.Conflict at expected seen) v u w walk later led words h =
    elim h [
      | inl q ↦ inl record {
        place = q.place;
        was = q.was;
        saw = record {
          step = q.saw.step;
          since = let first = walk.since in let last = q.saw.since in omega (arith, first, last);
          last = q.saw.last;
          kept = q.saw.kept;
          kept_is = q.saw.kept_is;
          stands = q.saw.stands;
        };
        known = q.known;
        before = λ p has seen'. inr (q.saw.kept_is ∙ words at);
        cause = q.cause;
      }
      | inr slot ↦ inr (slot.0, walked_then v u slot.0 walk slot.1, slot.2)
    ]
make_back k pointers slots (causes.Full held) v u w walk later led words h = record {
  before = h.before;
  walked = walked_then v u h.before walk h.walked;
  full = h.full;
  led = led_then k v u w later led h.led;
}
make_back k pointers slots (causes.Wide sets.Reads) v u w walk later led words h = absurd h
make_back k pointers slots (causes.Wide sets.Writes) v u w walk later led words h = absurd h
make_back k pointers slots (causes.Wide sets.Pointers) v u w walk later led words h = absurd h
make_back k pointers slots (causes.Wide sets.Holds) v u w walk later led words h =
    (h.0, h.1, led_then k v u w later led h.2)
make_back k pointers slots (causes.NumberLimit clock) v u w walk later led words h = absurd h

-- the page below the pointer wasn't made
pub makes_none : (bound less few : ℕ) (k : Key) (pointers : List Seen) (slots : List ℕ) (span : Span) (at : ℕ)
    (why : RefusalCause) (v w : View) → w.steps ≤ v.steps + bound → less ≤ few → IsOnto v.layout span at k
    → SettlesSo less pointers slots span at (Err why) v w → MakesSo bound few k pointers slots (Err why) v w
makes_none bound less few k pointers slots span at why v w most more onto h = record {
  can = h.can;
  walked = h.walked;
  kept = h.kept;
  most = most;
  grows = let first = h.grows in omega (arith, first, more);
  words = h.words;
  only = ways_to k span v w onto.over h.only;
  led = tt;
  made = tt;
  cause = h.cause k onto;
}

-- what is below it wasn't
pub makes_less : (b bound low less few : ℕ) (k : Key) (pointers : List Seen) (slots late : List ℕ) (span : Span)
    (at : ℕ) (s : Settled)
    (why : RefusalCause) (v u w : View) → w.steps ≤ v.steps + bound → less ≤ few → in_span span k ≡ true
    → SettlesSo low pointers slots span at (Ok s) v u → MakesSo b less k pointers late (Err why) u w
    → MakesSo bound few k pointers late (Err why) v w
makes_less b bound low less few k pointers slots late span at s why v u w most more over h m = record {
  can = m.can;
  walked = walked_then v u w h.walked m.walked;
  kept = m.kept ∙ h.kept;
  most = most;
  grows = let first = m.grows in omega (arith, first, more);
  words = λ a. m.words a ∙ h.words a;
  only = ways_to_then k v u w (ways_to k span v u over h.only) m.only;
  led = tt;
  made = tt;
  cause = make_back k pointers late why v u w h.walked m.walked (led_over k span v u over h.led)
      (λ a. m.words a ∙ h.words a) m.cause;
}

-- the pointer itself was moved
pub makes_moved : (bound few : ℕ) (k : Key) (pointers : List Seen) (slots : List ℕ) (span : Span) (at : ℕ)
    (moved : Bool)
    (why : RefusalCause) (v u w : View) → w.steps ≤ v.steps + bound → length slots ≤ few → IsOnto v.layout span at k
    → HasWalked v u → u.seat.kept ≡ v.seat.kept
    → KeepsWords v u → OnlyWaysTo k v u → AreLedTo k v u → CanMake slots u
    → ChecksSo pointers span at moved (Err why) u w → MakesSo bound few k pointers slots (Err why) v w
makes_moved bound few k pointers slots span at moved why v u w most grows onto walk kept words ways led can c = record {
  can = c.can slots can;
  walked = walked_then v u w walk c.walked;
  kept = c.kept ∙ kept;
  most = most;
  grows = grows;
  words = λ a. c.words a ∙ words a;
  only = ways_to_then k v u w ways (ways_to k span u w onto.over c.only);
  led = tt;
  made = tt;
  cause = make_back k pointers slots why v u w walk c.walked led (λ a. c.words a ∙ words a)
      (c.cause k (onto_stays v u span at k walk onto) slots);
}

-- what is known of the set's pointers behind the last look
keeps_checked : (pointers : List Seen) (moved : Bool) (span : Span) (at : ℕ) (v u w : View)
    → KeepsBut pointers moved at v u → ChecksSo pointers span at moved (Ok tt) u w → KeepsMet pointers v w
keeps_checked pointers moved span at v u w keeps c = λ a word has p seen. by_moved moved keeps c a word has p seen
  where
    by_test : (keeps : KeepsBut pointers true at v u) → ChecksSo pointers span at true (Ok tt) u w → (a word : ℕ)
        → word_at a pointers ≡ Some word → IsPointersWord v a → seen_at v.reads a ≡ Some word → (b : Bool)
        → eqb a at ≡ b → seen_at w.reads a ≡ Some word
    by_test keeps c a word has p seen true same =
        let is : a ≡ at = grind (arith, nat_tests) in
        ap (seen_at w.reads) is ∙ c.same refl word (ap (λ (i : ℕ). word_at i pointers) (sym is) ∙ has)
    by_test keeps c a word has p seen false other =
        let apart : a ≢ at = λ e. true≢false (sym (eq-eqb a at e) ∙ other) in
        c.others a (inl apart) ∙ keeps a word has p (λ moved. apart) seen

    by_moved : (moved : Bool) → KeepsBut pointers moved at v u → ChecksSo pointers span at moved (Ok tt) u w
        → (a word : ℕ)
        → word_at a pointers ≡ Some word → IsPointersWord v a → seen_at v.reads a ≡ Some word
        → seen_at w.reads a ≡ Some word
    by_moved true keeps c a word has p seen = by_test keeps c a word has p seen (eqb a at) refl
    by_moved false keeps c a word has p seen =
        c.others a (inr refl) ∙ keeps a word has p (λ moved. absurd (true≢false (sym moved))) seen

only_checked : (pointers : List Seen) (moved : Bool) (span : Span) (at : ℕ) (r : Result (Unit {0}) RefusalCause)
    (v w : View) → IsPointersWord v at → ChecksSo pointers span at moved r v w → OnlyMet v w
only_checked pointers moved span at r v w p c =
    only_but at v w (word_stays v w at c.walked p) (λ a apart. c.others a (inl apart))

-- a leaf's record
pub makes_leaf : (bound few : ℕ) (k : Key) (pointers : List Seen) (slots : List ℕ) (place : At) (span : Span)
    (at record_word : ℕ)
    (s : Settled) (v u w : View) → w.steps ≤ v.steps + bound → in_span span k ≡ true → IsArrayPointerAt v place span at
    → SettlesSo few pointers slots span at (Ok s) v u → ChecksSo pointers span at s.moved (Ok tt) u w
    → HasRecordAt k record_word w → MakesSo bound few k pointers slots (Ok record_word) v w
makes_leaf bound few k pointers slots place span at record_word s v u w most over p h c r =
    let q : IsPointersWord u at = record {
      place = place;
      span = span;
      is = place_stays v u place span at h.walked p;
    } in record {
      can = c.can slots h.can;
      walked = walked_then v u w h.walked c.walked;
      kept = c.kept ∙ h.kept;
      most = most;
      grows = h.grows;
      words = λ a. c.words a ∙ h.words a;
      only = ways_to k span v w over (ways_then span v u w h.only c.only);
      led = led_then k v u w c.walked (led_over k span v u over h.led) (led_over k span u w over (led_none span u w c.grip));
      made = record {
        record_at = r;
        others = only_then v u w c.walked h.settled.others (only_checked pointers s.moved span at (Ok tt) u w q c);
        keeps = keeps_checked pointers s.moved span at v u w h.settled.keeps c;
      };
      cause = tt;
    }

-- one below another page: what is made below leaves the set's pointers but for this one
pub makes_inner : (b bound low less few : ℕ) (k : Key) (pointers : List Seen) (slots late : List ℕ) (place : At)
    (span : Span) (at record_word : ℕ)
    (s : Settled) (v u t w : View) → w.steps ≤ v.steps + bound → less ≤ few → in_span span k ≡ true
    → IsArrayPointerAt v place span at
    → SettlesSo low pointers slots span at (Ok s) v u → MakesSo b less k pointers late (Ok record_word) u t
    → ChecksSo pointers span at s.moved (Ok tt) t w → MakesSo bound few k pointers late (Ok record_word) v w
makes_inner b bound low less few k pointers slots late place span at record_word s v u t w most more over p h m c =
    let walk = walked_then v u t h.walked m.walked in
    let q : IsPointersWord t at = record { place = place; span = span; is = place_stays v t place span at walk p } in
    record {
      can = c.can late m.can;
      walked = walked_then v t w walk c.walked;
      kept = c.kept ∙ (m.kept ∙ h.kept);
      most = most;
      grows = let first = m.grows in omega (arith, first, more);
      words = λ a. c.words a ∙ (m.words a ∙ h.words a);
      only = ways_to_then k v t w (ways_to_then k v u t (ways_to k span v u over h.only) m.only)
          (ways_to k span t w over c.only);
      led = led_then k v t w c.walked (led_then k v u t m.walked (led_over k span v u over h.led) m.led)
          (led_over k span t w over (led_none span t w c.grip));
      made = record {
        record_at = record {
          spot = m.made.record_at.spot;
          place = record_stays t w k m.made.record_at.spot record_word c.walked
              m.made.record_at.place;
          index = m.made.record_at.index;
        };
        others = only_then v t w c.walked (only_then v u t m.walked h.settled.others m.made.others)
            (only_checked pointers s.moved span at (Ok tt) t w q c);
        keeps = keeps_checked pointers s.moved span at v t w
            (λ a word has x apart seen. m.made.keeps a word has (word_stays v u a h.walked x)
            (h.settled.keeps a word has x apart seen)) c;
      };
      cause = tt;
    }

-- what was made by so many steps was made by more
pub makes_within : (b bound less few : ℕ) (k : Key) (pointers : List Seen) (slots : List ℕ) (r : Result ℕ RefusalCause)
    (v w : View) → b ≤ bound → less ≤ few → MakesSo b less k pointers slots r v w
    → MakesSo bound few k pointers slots r v w
makes_within b bound less few k pointers slots r v w more room h = record {
  can = h.can;
  walked = h.walked;
  kept = h.kept;
  most = let most = h.most in omega (arith, most, more);
  grows = let grows = h.grows in omega (arith, grows, room);
  words = h.words;
  only = h.only;
  led = h.led;
  made = h.made;
  cause = h.cause;
}
