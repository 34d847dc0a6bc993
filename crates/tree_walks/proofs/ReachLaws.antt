-- One pointer down.
use Rattle.std.proofs.Common.{◌≡◌, ◌≢◌, ℕ, ◌-◌, ◌/◌, ◌^◌, ◌<◌, ◌≤◌, Bool, true, List, length, refl, sym, ap, ◌∙◌}
use Rattle.std.proofs.Common.{subst, arith, inl, inr, Some, Option}
use Rattle.std.specs.Prelude.{Ok, Err, Contains, IfSome}
use Rattle.std.proofs.lemmas.Bool.Decides.{nat_tests}
use Rattle.lists.specs.Elements.{in_head}
use Rattle.serial_model.specs.declared.key.Key.{Key}
use Rattle.homes.specs.declared.places.At.{At}
use Rattle.homes.specs.declared.places.Span.{Span}
use Rattle.homes.specs.Homes.{in_span}
use Rattle.drop_core.specs.declared.grip.Grip.{Grip}
use Rattle.drop_core.specs.Table.{has_slot}
use Rattle.tx_sets.specs.declared.seen.Seen.{Seen}
use Rattle.engine_pages.specs.declared.layout.Layout.{Layout}
use Rattle.engine_pages.specs.declared.view.RefusalCause.{RefusalCause}
use Rattle.engine_pages.specs.declared.view.RefusalCause.TheVariants as causes
use Rattle.engine_pages.specs.declared.view.SetName.{SetName}
use Rattle.engine_pages.specs.declared.view.SetName.TheVariants as sets
use Rattle.engine_pages.specs.declared.view.View.{View}
use Rattle.engine_pages.specs.Layout.{words_of}
use Rattle.engine_pages.specs.Pages.{is_tree}
use Rattle.engine_pages.specs.Pointers.{HasFollowed, IsPointerAt, StandsFor, half_of, is_open_word, leads_more, page_half}
use Rattle.engine_pages.specs.Steps.{seen_at}
use Rattle.dual_pointer.specs.Copies.{IsLeadOf}
use Rattle.array_pages.specs.Steps.{IsLedTo, IsMetElse}
use Rattle.tree_walks.specs.declared.walk.Reached.TheVariants as reaches
use Rattle.tree_walks.specs.Steps.{EntersSo, GoesSo, IsFullFor, IsHeldOn, IsReached, Went}
use Rattle.tree_walks.specs.Walks.{CanWalk, HasWalked, IsNoHeader, IsTreesWord, KeepsMet, LiesInPage, OnlyWaysOn}
use Rattle.tree_walks.specs.Ways.{IsMetSo, IsOnWay, IsWayPointer, IsWide, RefusesWalk}
use Rattle.tree_walks.proofs.EnterLaws.{enter_led}
use Rattle.tree_walks.proofs.KeepLaws.{keeps_none, keeps_pointer}
use Rattle.tree_walks.proofs.PathLaws.{follow_paths, paths_same, paths_then}
use Rattle.tree_walks.proofs.LoadLaws.{IsLoad, follow_load, follow_way, half_is, load_went}
use Rattle.tree_walks.proofs.RefusalLaws.{goes_on, goes_refused, shut_or_other}
use Rattle.tree_walks.proofs.StepLaws.{layout_stays, led_new, led_none, place_stays, slots_stay, tree_stays, went_more, went_self}
use Rattle.tree_walks.proofs.StepLaws.{went_then, word_stays}
use Rattle.tree_walks.proofs.WayLaws.{pointer_stays}

-- ---- a slot that a pointer leads to

-- it is held already
pub hold_same : (k : Key) (pointers headers : List Seen) (slots : List ℕ) (at word : ℕ) (span : Span) (v : View)
    → CanWalk slots v → is_tree v.layout.decls span.storage ≡ true → IsLedTo word span at v → in_span span k ≡ true
    → has_slot slots (word / 2 ^ 32 - 1) ≡ true
    → GoesSo 2 k pointers headers slots (IsHeldOn k span) (Ok (word / 2 ^ 32 - 1)) v v
hold_same k pointers headers slots at word span v can tree led over held = record {
  went = went_more 0 2 slots v v (omega arith) (went_self slots v can);
  led = led_none k v v refl;
  keeps = keeps_none pointers headers v v (λ a. refl);
  paths = paths_same k v v refl;
  came = record {
    way = led.known (sym (can.holds (word / 2 ^ 32 - 1)) ∙ held);
    tree = tree;
    there = led.there;
    over = over;
  };
  cause = tt;
}

-- what was known of the pointer is known behind the slot that was entered
module _ (k : Key) (pointers headers : List Seen) (slots : List ℕ) (place : At) (at word : ℕ) (span : Span) (v : View)
    (p : IsPointerAt v place span at) (within : at < words_of v.layout)
    (tree : is_tree v.layout.decls span.storage ≡ true) (some : 2 ^ 32 ≤ word) (less : word < 2 ^ 60)
    (led : IsLedTo word span at v) (over : in_span span k ≡ true) (apart : IsNoHeader v.layout.slots at)
    (inside : LiesInPage v.layout.slots place at) where
  abbrev t : ℕ
  t = word / 2 ^ 32 - 1

  on_way : (w : View) → HasWalked v w → IsWayPointer k w at
  on_way w walk =
      pointer_stays k v w at walk
      record { place = place; span = span; is = p; inside = inside; within = within; tree = tree; over = over }

  -- the holds are full
  pub hold_wide : (why : RefusalCause) (e : View) → EntersSo t slots (Err why) v e
      → GoesSo 2 k pointers headers slots (IsHeldOn k span) (Err why) v e
  hold_wide why e h = record {
    went = went_more 1 2 slots v e (omega arith) h.went;
    led = tt;
    keeps = tt;
    paths = paths_same k v e h.ways;
    came = tt;
    cause = by_cause why h.cause;
  }
    where
      by_cause : (other : RefusalCause) → IsFullFor t slots other → RefusesWalk k pointers headers slots other v e
      by_cause (causes.Conflict a b c) f = absurd f
      by_cause (causes.Full held) f = absurd f
      by_cause (causes.Wide set) f = (
        subst (λ (s : SetName). IsWide k slots s e) (sym f.0)
            (inl (
              f.1,
              inl (record {
                at = at;
                word = word;
                on = on_way e h.went.walked;
                saw = h.seen at ∙ led.met;
                led = some;
                unshut = less;
                unheld = f.2;
              }),
            )),
        enter_led k t slots why v e h f.2,
      )
      by_cause (causes.NumberLimit clock) f = absurd f

  -- the slot was entered, and the pointer loaded once more
  module _ (e : View) (again : ℕ) (w : View) (h : EntersSo t slots (Ok tt) v e) (f : HasFollowed span at e again w)
      (known : IsTreesWord v at) where
    l : IsLoad at e again w
    l = follow_load span at e again w f

    went : Went 2 slots v w
    went =
        went_then 1 1 2 slots slots v e w (omega arith) h.went
        (load_went slots at e again w h.went.can (word_stays e w at l.walked (word_stays v e at h.went.walked known)) l)

    paths : OnlyWaysOn k v w
    paths = paths_then k v e w l.walked (paths_same k v e h.ways) (follow_paths k span at e again w over f)

    pub hold_changed : again ≢ word → IsMetSo pointers at word
        → GoesSo 2 k pointers headers slots (IsHeldOn k span) (Err (causes.Conflict at word again)) v w
    hold_changed other set = record {
      went = went;
      led = tt;
      keeps = tt;
      paths = paths;
      came = tt;
      cause = inl (record {
        on = on_way w went.walked;
        was = seen_at e.reads at;
        saw = record {
          step = l.saw.step;
          since = let one = l.saw.since in let two = h.went.walked.since in omega (arith, one, two);
          last = l.saw.last;
          kept = l.saw.kept;
          kept_is = l.saw.kept_is;
          stands = l.saw.stands;
        };
        known = inr (h.seen at ∙ led.met, set);
        cause = inr other;
      });
    }

    pub hold_held : again ≡ word → IsMetSo pointers at word
        → GoesSo 2 k pointers headers slots (IsHeldOn k span) (Ok t) v w
    hold_held same set =
        let on : IsOnWay k w t span = record {
          way = follow_way span at e again w t f (ap half_of same ∙ half_is word some less) h.held;
          tree = tree_stays v w span.storage went.walked tree;
          there = slots_stay v w t went.walked led.there;
          over = over;
        } in record {
          went = went;
          led = led_new k t span v w on
              (λ q now was. h.only q (sym (ap (λ (g : Grip). has_slot g.holds q) l.grip) ∙ now) was);
          keeps = keeps_pointer pointers headers at word v w apart set
              (l.met ∙ ap (λ (i : ℕ). let o : Option ℕ = Some i in o) same) (λ a other. l.others a other ∙ h.seen a);
          paths = paths;
          came = on;
          cause = tt;
        }

-- what a pointer that was just seen to lead to a slot tells
pub led_at : (span : Span) (at : ℕ) (v : View) (n : ℕ) (u : View) → HasFollowed span at v n u → 2 ^ 32 ≤ n → n < 2 ^ 60
    → IsLedTo n span at u
led_at span at v n u f some less =
    let l = follow_load span at v n u f in
    let half = half_is n some less in record {
      there = slots_stay v u (n / 2 ^ 32 - 1) l.walked
          (subst (λ (o : Option ℕ). IfSome o (λ q. q < v.layout.slots)) half f.slot);
      known = λ held. follow_way span at v n u (n / 2 ^ 32 - 1) f half
          (subst (λ (g : Grip). has_slot g.holds (n / 2 ^ 32 - 1) ≡ true) l.grip held);
      met = l.met;
    }

-- ---- a pointer was followed

module _ (k : Key) (pointers headers : List Seen) (slots : List ℕ) (place : At) (span : Span) (at : ℕ) (v : View) (n : ℕ)
    (u : View) (can : CanWalk slots v) (p : IsPointerAt v place span at) (within : at < words_of v.layout)
    (tree : is_tree v.layout.decls span.storage ≡ true) (known : IsTreesWord v at) (f : HasFollowed span at v n u)
    (over : in_span span k ≡ true) (apart : IsNoHeader v.layout.slots at)
    (inside : LiesInPage v.layout.slots place at) where
  loaded : IsLoad at v n u
  loaded = follow_load span at v n u f

  first_paths : OnlyWaysOn k v u
  first_paths = follow_paths k span at v n u over f

  first_keeps : IsMetSo pointers at n → KeepsMet pointers headers v u
  first_keeps set = keeps_pointer pointers headers at n v u apart set loaded.met loaded.others

  first : Went 1 slots v u
  first = load_went slots at v n u can (word_stays v u at loaded.walked known) loaded

  way_pointer : (w : View) → HasWalked v w → IsWayPointer k w at
  way_pointer w walk =
      pointer_stays k v w at walk
      record { place = place; span = span; is = p; inside = inside; within = within; tree = tree; over = over }

  -- the set has it with another word
  pub reach_other : (why : RefusalCause) → IsMetElse pointers at n why
      → GoesSo 3 k pointers headers slots (IsReached k pointers place span at) (Err why) v u
  reach_other why else = record {
    went = went_more 1 3 slots v u (omega arith) first;
    led = tt;
    keeps = tt;
    paths = first_paths;
    came = tt;
    cause = by_cause why else;
  }
    where
      by_cause : (why : RefusalCause) → IsMetElse pointers at n why → RefusesWalk k pointers headers slots why v u
      by_cause (causes.Conflict other expected seen) m =
          subst (λ j. RefusesWalk k pointers headers slots (causes.Conflict j expected seen) v u) (sym m.0)
          (subst (λ i. RefusesWalk k pointers headers slots (causes.Conflict at expected i) v u) (sym m.1)
          (inl (record {
            on = way_pointer u loaded.walked;
            was = seen_at v.reads at;
            saw = loaded.saw;
            known = inl (m.2, loaded.kept);
            cause = inr m.3;
          })))
      by_cause (causes.Full held) m = absurd m
      by_cause (causes.Wide set) m = absurd m
      by_cause (causes.NumberLimit clock) m = absurd m

  -- it is shut, and was loaded once more
  pub reach_shut : (later : ℕ) (w : View) → IsMetSo pointers at n → 2 ^ 60 ≤ n → HasFollowed span at u later w
      → GoesSo 3 k pointers headers slots (IsReached k pointers place span at) (Err (causes.Conflict at n later)) v w
  reach_shut later w set shut g =
      let l = follow_load span at u later w g in
      let second = load_went slots at u later w first.can
      (word_stays u w at l.walked (word_stays v u at loaded.walked known)) l in
      let went = went_then 1 1 3 slots slots v u w (omega arith) first second in record {
        went = went;
        led = tt;
        keeps = tt;
        paths = paths_then k v u w l.walked first_paths (follow_paths k span at u later w over g);
        came = tt;
        cause = inl (record {
          on = way_pointer w went.walked;
          was = seen_at u.reads at;
          saw = record {
            step = l.saw.step;
            since = let one = l.saw.since in let two = loaded.walked.since in omega (arith, one, two);
            last = l.saw.last;
            kept = l.saw.kept;
            kept_is = l.saw.kept_is;
            stands = l.saw.stands;
          };
          known = inr (loaded.met, set);
          cause = shut_or_other n later shut;
        });
      }

  -- it leads to no slot
  pub reach_bare : IsMetSo pointers at n → n < 2 ^ 32
      → GoesSo 3 k pointers headers slots (IsReached k pointers place span at) (Ok (reaches.Bare n)) v u
  reach_bare set low = record {
    went = went_more 1 3 slots v u (omega arith) first;
    led = led_none k v u loaded.grip;
    keeps = first_keeps set;
    paths = first_paths;
    came = record {
      is = place_stays v u place span at loaded.walked p;
      known = word_stays v u at loaded.walked known;
      apart = subst (λ (y : Layout). IsNoHeader y.slots at) (sym (layout_stays v u loaded.walked)) apart;
      inside = subst (λ (y : Layout). LiesInPage y.slots place at) (sym (layout_stays v u loaded.walked)) inside;
      within = subst (λ (y : Layout). at < words_of y) (sym (layout_stays v u loaded.walked)) within;
      tree = tree_stays v u span.storage loaded.walked tree;
      over = over;
      bare = low;
      there = subst (λ (z : View). n ≤ length z.pages) (sym f.is) (subst (λ i. i ≤ length f.pages) half (f.there opn));
      few = subst (λ (z : View). length z.pages ≤ z.layout.resident) (sym f.is) f.few;
      most = subst (λ (z : View). length z.pages ≤ 65536) (sym f.is) f.most;
      stands = λ some. stands_so some;
      lead = lead_so;
      met = loaded.met;
      set = set;
    };
    cause = tt;
  }
    where
      opn : is_open_word n ≡ true
      opn = grind (arith, nat_tests)

      half : page_half n ≡ n
      half = omega (arith, low)

      stands_so : 0 < n → StandsFor u.layout.decls u.pages span n
      stands_so some =
          subst (λ (z : View). StandsFor z.layout.decls z.pages span n) (sym f.is)
          (subst (λ i. StandsFor v.layout.decls f.pages span i) half
          (f.stands opn (subst (λ i. 0 < i) (sym half) some)))

      lead_so : IsLeadOf u span n
      lead_so =
          subst (λ (z : View). IsLeadOf z span n) (sym f.is) (
            record { span = span; page = page_half n; name = f.name },
            subst (λ (b : Bool). Contains (leads_more b span (page_half n) f.name v.leads)
                (record { span = span; page = page_half n; name = f.name }))
                (sym opn) (in_head (record { span = span; page = page_half n; name = f.name }) v.leads),
            refl,
            half,
          )

  -- it leads to a slot
  pub reach_slot : IsMetSo pointers at n → (late : List ℕ) (t : ℕ) (w : View) → GoesSo 2 k pointers headers late (IsHeldOn k span) (Ok t) u w
      → GoesSo 3 k pointers headers late (IsReached k pointers place span at) (Ok (reaches.Slot t)) v w
  reach_slot set late t w h =
      goes_on 1 2 3 k pointers headers slots late (IsHeldOn k span) (IsReached k pointers place span at) t (reaches.Slot t) v u w
      (omega arith) first (led_none k v u loaded.grip) (first_keeps set) first_paths h h.came

  pub reach_unheld : (late : List ℕ) (why : RefusalCause) (w : View)
      → GoesSo 2 k pointers headers late (IsHeldOn k span) (Err why) u w
      → GoesSo 3 k pointers headers late (IsReached k pointers place span at) (Err why) v w
  reach_unheld late why w h =
      goes_refused 1 2 3 k pointers headers slots late (IsHeldOn k span) (IsReached k pointers place span at) why v u w
      (omega arith) first (led_none k v u loaded.grip) first_paths h
