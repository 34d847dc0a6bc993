-- What it comes to that a pointer is looked at, and followed to its end.
use Rattle.std.proofs.Common.{◌≡◌, ◌⊎◌, inl, inr, ℕ, ◌+◌, ◌/◌, ◌^◌, ◌<◌, ◌≤◌, Bool, true, false}
use Rattle.std.proofs.Common.{cond, List, length, refl, sym, ap, ◌∙◌, subst, arith, Option, Some, None}
use Rattle.std.specs.Prelude.{nat_lt, filter, not, Ok, Err, MatchBool, if◌then◌else◌}
use Rattle.std.specs.List.{Contains}
use Rattle.std.proofs.lemmas.Bool.Decides.{nat_tests}
use Rattle.lists.specs.Elements.{in_filter, in_head, in_push_cases, in_tail}
use Rattle.lists.specs.Fronts.{front_refl}
use Rattle.homes.specs.declared.places.At.{At}
use Rattle.homes.specs.declared.places.Span.{Span}
use Rattle.commit_core.specs.declared.part.Part.{Part}
use Rattle.commit_core.specs.Parts.{same_word, with_part}
use Rattle.tx_sets.specs.declared.seen.Seen.{Seen}
use Rattle.tx_sets.specs.Entries.{word_at}
use Rattle.engine_pages.specs.declared.view.Lead.{Lead}
use Rattle.engine_pages.specs.declared.view.RefusalCause.{RefusalCause}
use Rattle.engine_pages.specs.declared.view.RefusalCause.TheVariants as causes
use Rattle.engine_pages.specs.declared.view.SetName.TheVariants as sets
use Rattle.engine_pages.specs.declared.view.View.{View}
use Rattle.engine_pages.specs.Agreement.{TreesAgree}
use Rattle.engine_pages.specs.Pages.{is_array}
use Rattle.engine_pages.specs.Pointers.{IsArrayPointerAt, HasFollowed, WaysAgree, half_of, slot_half}
use Rattle.dual_pointer.specs.Parts.{saw_pointer, HasSeenPointer, SawPointer}
use Rattle.array_pages.specs.declared.walk.Reached.TheVariants as ends
use Rattle.array_pages.specs.Finding.{LeavesMemory}
use Rattle.array_pages.specs.Steps.{HoldsSo, IsMetAs, IsMetElse, ReachesSo}
use Rattle.array_pages.specs.Walks.{CanWalk, IsLastBetween}
use Rattle.array_pages.specs.Walks.{KeepsWords, MeetsSo}
use Rattle.array_pages.proofs.ReadLaws.{kept_here, kept_other, noted_in, seen_other, seen_same}
use Rattle.array_pages.proofs.WalkLaws.{can_after}
use Rattle.array_pages.proofs.LoadedLaws.{IsFollowed, IsLoaded, changed_since, hold_refuses, is_followed}
use Rattle.array_pages.proofs.LoadedLaws.{keeps_but}
use Rattle.array_pages.proofs.WalkLaws.{keeps_then, only_then, place_stays}
use Rattle.array_pages.proofs.LoadedLaws.{met_refuses, only_but, only_loaded}
use Rattle.array_pages.proofs.LoadedLaws.{shut_or_other, since_changes}
use Rattle.array_pages.proofs.WalkLaws.{led_none, led_over, led_since, onto_stays, walked_then, ways_then}
use Rattle.array_pages.proofs.WalkLaws.{word_stays}
use Rattle.array_pages.proofs.LoadedLaws.{pointer_walks, way_loaded, word_loaded}

pub below : (a b : ℕ) → a < b → nat_lt a b ≡ true
below a b h = grind (arith, nat_tests)

pub not_below : (a b : ℕ) → b ≤ a → nat_lt a b ≡ false
not_below a b h = grind (arith, nat_tests)

-- ---- a pointer is loaded, and maybe kept

-- of what is kept now, what is new is this part
pub parts_by : (kept : List Part) (part : Part) (v w : View) → w.seat.kept ≡ with_part kept part → v.seat.kept ≡ kept
    → IsLastBetween v w part → (q : Part) → Contains w.seat.kept q → Contains v.seat.kept q ⊎ IsLastBetween v w q
parts_by kept part v w now was last q has =
    elim (in_push_cases q part (filter (λ p. not (same_word p.word part.word)) kept)
    (subst (λ (l : List Part). Contains l q) now has)) [
      | inl old ↦
          inl (subst (λ (l : List Part). Contains l q) (sym was)
          (in_filter (λ (p : Part). not (same_word p.word part.word)) q kept old))
      | inr new ↦ inr (subst (IsLastBetween v w) new last)
    ]

no_half : (n : ℕ) → n < 2 ^ 32 → half_of n ≡ None
no_half n bare =
    let open-so : nat_lt n (2 ^ 60) ≡ true = below n (2 ^ 60) (omega (arith, bare)) in
    let none : n / 2 ^ 32 ≡ 0 = omega (arith, bare) in
    ap (λ (b : Bool). let o : Option ℕ = cond b (slot_half (n / 2 ^ 32)) None in o) open-so ∙ ap slot_half none

loaded_kept : (place : At) (span : Span) (at : ℕ) (v : View) (n : ℕ) (u : View) → WaysAgree v.ways → TreesAgree v
    → n < 2 ^ 32
    → HasSeenPointer place span at v n u → IsLoaded span at v n u
loaded_kept place span at v n u agree trees bare h =
    let w : View = saw_pointer h.history h.decided h.pages h.name h.part at span n v in
    subst (IsLoaded span at v n) (sym h.is) record {
      walked = record {
        since = omega arith;
        drawn = h.drawn;
        seen = h.seen;
        parts = parts_by v.seat.kept h.part v w refl refl record {
          history = h.history;
          decided = h.decided;
          drawn_since = h.drawn;
          seen_since = h.seen;
          drawn_by = front_refl h.history;
          seen_by = front_refl h.decided;
          last = h.last;
        };
        held = λ t held. held;
        ways = λ x has. has;
        pages = h.front;
        leads = λ x has. in_tail x (record { span = span; page = n; name = h.name }) v.leads has;
        is = refl;
      };
      grip = refl;
      most = omega arith;
      agree = agree;
      trees = record { known = trees.known; inners = trees.inners; apart = trees.apart; spans = trees.spans };
      only = λ x has. inl has;
      met = seen_same v.reads at n (Some n);
      others = λ a apart. seen_other v.reads at n (Some n) a apart;
      words = λ a apart. kept_other v.reads at n (Some n) a apart;
      saw = record {
        step = v.steps;
        since = omega arith;
        last = refl;
        kept = Some n;
        kept_is = sym (kept_here v.reads at n (Some n));
        stands = noted_in v.reads at n (Some n);
      };
      slot = λ t half. let none : None ≡ Some t = sym (no_half n bare) ∙ half in absurd (cc);
      way = λ t half held. let none : None ≡ Some t = sym (no_half n bare) ∙ half in absurd (cc);
    }

pub saw_kept : (place : At) (span : Span) (at : ℕ) (v : View) (n : ℕ) (u : View) → n < 2 ^ 32
    → SawPointer place span at v n u → HasSeenPointer place span at v n u
saw_kept place span at v n u bare s =
    subst (λ (b : Bool). MatchBool b (HasSeenPointer place span at v n u) (HasFollowed span at v n u))
    (below n (2 ^ 32) bare) s

pub saw_followed : (place : At) (span : Span) (at : ℕ) (v : View) (n : ℕ) (u : View) → 2 ^ 32 ≤ n
    → SawPointer place span at v n u → IsFollowed span at v n u
saw_followed place span at v n u some s =
    is_followed span at v n u
    (subst (λ (b : Bool). MatchBool b (HasSeenPointer place span at v n u) (HasFollowed span at v n u))
    (not_below n (2 ^ 32) some) s)

pub loaded_saw : (place : At) (span : Span) (at : ℕ) (v : View) (n : ℕ) (u : View) → WaysAgree v.ways → TreesAgree v
    → SawPointer place span at v n u → IsLoaded span at v n u
loaded_saw place span at v n u agree trees s = by_test (nat_lt n (2 ^ 32)) refl
  where
    by_test : (b : Bool) → nat_lt n (2 ^ 32) ≡ b → IsLoaded span at v n u
    by_test true low =
        let bare : n < 2 ^ 32 = grind (arith, nat_tests) in
        loaded_kept place span at v n u agree trees bare (saw_kept place span at v n u bare s)
    by_test false high =
        let some : 2 ^ 32 ≤ n = grind (arith, nat_tests) in (saw_followed place span at v n u some s).loaded

pub leaves_memory : (place : At) (span : Span) (at : ℕ) (v : View) (n : ℕ) (u : View) → n < 2 ^ 32
    → is_array v.layout.decls span.storage ≡ true → HasSeenPointer place span at v n u
    → LeavesMemory place span at n v u
leaves_memory place span at v n u bare array h =
    subst (LeavesMemory place span at n v) (sym h.is) record {
      bare = bare;
      met = seen_same v.reads at n (Some n);
      there = h.there;
      room = h.few;
      most = h.most;
      stands = h.stands;
      part = h.part;
      of = record {
        word = h.word;
        lead = record { span = span; page = n; name = h.name };
        has = in_head (let x : Lead = record { span = span; page = n; name = h.name } in x) v.leads;
        over = refl;
        page = refl;
        version = h.version;
      };
      kept = refl;
      word_kept = kept_here v.reads at n (Some n);
      words = λ a apart. kept_other v.reads at n (Some n) a apart;
      inside = h.within;
      covered = h.covered;
      has = λ k over. h.says array k over;
      last = h.last;
    }

-- ---- one pointer down

module _ (pointers : List Seen) (slots : List ℕ) (place : At) (span : Span) (at n : ℕ) (v u : View)
    (can : CanWalk slots v) (p : IsArrayPointerAt v place span at) (l : IsLoaded span at v n u) where
  can_first : CanWalk slots u
  can_first = can_after slots v u l.walked l.grip l.agree l.trees can

  -- the set has it with another word
  pub reach_other : (why : RefusalCause) → IsMetElse pointers at n why
      → ReachesSo (length slots + 1) pointers slots place span at (Err why) v u
  reach_other why h = record {
    can = can_first;
    walked = l.walked;
    most = let one = l.most in omega (arith, one);
    grows = omega arith;
    only = l.only;
    led = tt;
    others = only_loaded place span at v n u l p;
    keeps = tt;
    reached = tt;
    cause = λ k onto. pointer_walks k pointers slots why v u
        (met_refuses pointers slots place span at why v n u l p h k onto);
  }

  -- it is shut
  pub reach_shut : (met : Bool) (again : ℕ) (w : View) → IsMetAs pointers at n met → 2 ^ 60 ≤ n
      → IsFollowed span at u again w → ReachesSo (length slots + 1) pointers slots place span at
      (Err (causes.Conflict at n again)) v w
  reach_shut met again w set_is shut f =
      let q = place_stays v u place span at l.walked p in
      let walk = walked_then v u w l.walked f.loaded.walked in record {
        can = can_after slots u w f.loaded.walked f.loaded.grip f.loaded.agree f.loaded.trees can_first;
        walked = walk;
        most = let one = l.most in let two = f.loaded.most in omega (arith, one, two);
        grows = omega arith;
        only = ways_then span v u w l.only f.loaded.only;
        led = tt;
        others = only_then v u w f.loaded.walked (only_loaded place span at v n u l p)
            (only_loaded place span at u again w f.loaded q);
        keeps = tt;
        reached = tt;
        cause = λ k onto. since_changes k pointers met span at n again v u w (onto_stays v w span at k walk onto)
            l.walked.since set_is
            (changed_since place span at n u again w f.loaded q l.met (shut_or_other n again shut));
      }

  -- the slot isn't held
  pub reach_unheld : (met : Bool) (late : List ℕ) (why : RefusalCause) (w : View) → IsMetAs pointers at n met
      → HoldsSo (length slots + 1) late at n span (Err why) u w
      → ReachesSo (length slots + 1) pointers late place span at (Err why) v w
  reach_unheld met late why w set_is h =
      let q = word_stays u w at h.walked (word_loaded place span at v n u l p) in
      let walk = walked_then v u w l.walked h.walked in record {
        can = h.can;
        walked = walk;
        most = let one = l.most in let two = h.most in omega (arith, one, two);
        grows = h.grows;
        only = ways_then span v u w l.only h.only;
        led = tt;
        others = only_then v u w h.walked (only_loaded place span at v n u l p) (only_but at u w q h.others);
        keeps = tt;
        reached = tt;
        cause = λ k onto. pointer_walks k pointers late why v w
            (hold_refuses k pointers met late span at n why v u w (onto_stays v w span at k walk onto) l.walked.since
            l.grip set_is h.cause);
      }

  -- it is held
  pub reach_slot : (met : Bool) (late : List ℕ) (t : ℕ) (w : View) → IsMetAs pointers at n met
      → u.seat.kept ≡ v.seat.kept → KeepsWords v u → HoldsSo (length slots + 1) late at n span (Ok t) u w
      → ReachesSo (length slots + 1) pointers late place span at (Ok (ends.Slot t)) v w
  reach_slot met late t w set_is kept words h =
      let q = word_stays u w at h.walked (word_loaded place span at v n u l p) in record {
        can = h.can;
        walked = walked_then v u w l.walked h.walked;
        most = let one = l.most in let two = h.most in omega (arith, one, two);
        grows = h.grows;
        only = ways_then span v u w l.only h.only;
        led = led_since span v u w l.grip h.led;
        others = only_then v u w h.walked (only_loaded place span at v n u l p) (only_but at u w q h.others);
        keeps = keeps_then pointers v u w l.walked (keeps_but pointers met at n v u set_is l.met l.others)
            (keeps_but pointers met at n u w set_is h.still h.others);
        reached = (h.held.0, h.held.1, h.kept ∙ kept, λ a. h.words a ∙ words a);
        cause = tt;
      }

  -- there is no slot, and no room in the set
  pub reach_wide : (met : Bool) → IsMetAs pointers at n met → met ≡ false → n < 2 ^ 32 → length pointers ≡ 128
      → ReachesSo (length slots + 1) pointers slots place span at (Err (causes.Wide sets.Pointers)) v u
  reach_wide met set_is none bare full = record {
    can = can_first;
    walked = l.walked;
    most = let one = l.most in omega (arith, one);
    grows = omega arith;
    only = l.only;
    led = tt;
    others = only_loaded place span at v n u l p;
    keeps = tt;
    reached = tt;
    cause = λ k onto. (
      full,
      record {
        at = at;
        word = n;
        on = way_loaded k place span at v n u onto l p;
        saw = l.met;
        bare = bare;
        absent = subst (λ (b : Bool). IsMetAs pointers at n b) none set_is;
      },
      led_over k span v u onto.over (led_none span v u l.grip),
    );
  }

  -- there is no slot
  pub reach_page : (met : Bool) → IsMetAs pointers at n met → (met ≡ false → length pointers < 128)
      → LeavesMemory place span at n v u → ReachesSo (length slots + 1) pointers slots place span at
      (Ok (ends.Page n)) v u
  reach_page met set_is room leaves = record {
    can = can_first;
    walked = l.walked;
    most = let one = l.most in omega (arith, one);
    grows = omega arith;
    only = l.only;
    led = led_none span v u l.grip;
    others = only_loaded place span at v n u l p;
    keeps = keeps_but pointers met at n v u set_is l.met l.others;
    reached = (leaves, by_met met set_is room);
    cause = tt;
  }
    where
      by_met : (b : Bool) → word_at at pointers ≡ (if b then Some n else None) → (b ≡ false → length pointers < 128)
          → MeetsSo pointers at n
      by_met true is room = inl is
      by_met false is room = inr (is, room refl)
