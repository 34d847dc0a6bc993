-- The record of a key below a pointer that leads to no slot.
use Rattle.std.proofs.Common.{◌≡◌, ◌≢◌, inl, inr, ℕ, ◌+◌, ◌^◌, ◌<◌, ◌≤◌, Bool, true, false, List, length, refl, sym, ap, ◌∙◌}
use Rattle.std.proofs.Common.{subst, arith, Option, Some, None, ltb, not, filter}
use Rattle.std.specs.Prelude.{Ok, Err, Contains, MatchBool, nat_lt}
use Rattle.std.proofs.lemmas.Bool.Decides.{nat_tests}
use Rattle.lists.specs.Elements.{in_filter, in_head, in_push_cases, in_tail}
use Rattle.lists.specs.Fronts.{front_refl}
use Rattle.serial_model.specs.declared.key.Key.{Key}
use Rattle.homes.specs.declared.places.At.{At}
use Rattle.homes.specs.declared.places.Content.{Content}
use Rattle.homes.specs.declared.places.Span.{Span}
use Rattle.homes.specs.Homes.{in_span}
use Rattle.wire_form.specs.Words.{number_in}
use Rattle.commit_core.specs.Keys.{nothing}
use Rattle.commit_core.specs.Parts.{IsSameOrAbsent, found, same_word}
use Rattle.commit_core.specs.Serial.{last_write}
use Rattle.serial_model.specs.declared.decl.Decl.{Decl}
use Rattle.serial_model.specs.Decls.{AreDecls}
use Rattle.snapshot_store.specs.Content.{deepest, format_of, IsPageOf}
use Rattle.snapshot_store.specs.Places.{Found as StoredFound, StandsTo, find}
use Rattle.snapshot_store.specs.TreePages.{IsTreePage, tree_format}
use Rattle.tx_sets.specs.declared.seen.Seen.{Seen}
use Rattle.tx_sets.specs.Entries.{word_at}
use Rattle.engine_pages.specs.declared.layout.Layout.{Layout}
use Rattle.engine_pages.specs.declared.view.Lead.{Lead}
use Rattle.engine_pages.specs.declared.view.RefusalCause.{RefusalCause}
use Rattle.engine_pages.specs.declared.view.RefusalCause.TheVariants as causes
use Rattle.engine_pages.specs.declared.view.SetName.{SetName}
use Rattle.engine_pages.specs.declared.view.View.{View}
use Rattle.engine_pages.specs.Agreement.{TreesAgree}
use Rattle.engine_pages.specs.Layout.{words_of}
use Rattle.engine_pages.specs.Pointers.{HasFollowed, StandsFor, WaysAgree}
use Rattle.engine_pages.specs.Resident.{found_content, place_for}
use Rattle.engine_pages.specs.Steps.{kept_at, seen_at}
use Rattle.dual_pointer.specs.Copies.{IsLeadOf}
use Rattle.dual_pointer.specs.Parts.{HasSeenPointer, SawPointer, saw_pointer, tree_content}
use Rattle.array_pages.specs.Finding.{HasGlanced}
use Rattle.array_pages.specs.Snapshots.{CanLook}
use Rattle.array_pages.specs.Walks.{IsLastBetween, SawLast}
use Rattle.array_pages.proofs.LookLaws.{glanced_self}
use Rattle.array_pages.proofs.ReadLaws.{kept_here, kept_other, noted_in, seen_other, seen_same}
use Rattle.tree_walks.specs.declared.finding.Found.{Found}
use Rattle.tree_walks.specs.declared.finding.Found.TheVariants as places
use Rattle.tree_walks.specs.declared.snapshots.Stored.{Stored}
use Rattle.tree_walks.specs.declared.ways.Bare.{Bare}
use Rattle.tree_walks.specs.Finding.{IsFound, IsFoundBelow, MeetsOnly}
use Rattle.tree_walks.specs.Finds.{IsPointersFull, KeepsSo}
use Rattle.tree_walks.specs.Finding.{IsFindWide, RefusesFind}
use Rattle.tree_walks.specs.Snapshots.{IsLooked, StandsBelow}
use Rattle.tree_walks.specs.Walks.{CanWalk, HasWalked, IsNoHeader, LiesInPage, OnlyTrees, OnlyWaysOn}
use Rattle.tree_walks.specs.Ways.{IsBareOn, IsMetSo}
use Rattle.tree_walks.proofs.KeepLaws.{keeps_pointer}
use Rattle.tree_walks.proofs.PathLaws.{follow_paths, paths_glanced, paths_same, paths_then}
use Rattle.tree_walks.proofs.LoadLaws.{follow_load, glanced_grip, glanced_walked, trees_by}
use Rattle.tree_walks.proofs.StepLaws.{active_stays, can_after, layout_stays, led_none, only_but, only_for, only_then, place_stays, tree_stays, walked_self}
use Rattle.tree_walks.proofs.StepLaws.{walked_then, word_stays}
use Rattle.tree_walks.proofs.DeclLaws.{tree_of}
use Rattle.tree_walks.proofs.HalfLaws.{bounds_of}
use Rattle.tree_walks.proofs.WayLaws.{pointer_stays}

pub walked_pointer : (x : At) (sp : Span) (at : ℕ) (v : View) (n : ℕ) (w : View) → HasSeenPointer x sp at v n w → HasWalked v w
walked_pointer x sp at v n w h =
    let z : View = saw_pointer h.history h.decided h.pages h.name h.part at sp n v in
    subst (HasWalked v) (sym h.is) record {
      since = omega arith;
      drawn = h.drawn;
      seen = h.seen;
      parts = λ part has.
          elim (in_push_cases part h.part
          (filter (λ p. not (same_word p.word (h.part).word)) v.seat.kept) has) [
            | inl old ↦ inl (in_filter (λ p. not (same_word p.word (h.part).word)) part v.seat.kept old)
            | inr new ↦ inr (subst (IsLastBetween v z) new record {
              history = h.history;
              decided = h.decided;
              drawn_since = h.drawn;
              seen_since = h.seen;
              drawn_by = front_refl h.history;
              seen_by = front_refl h.decided;
              last = h.last;
            })
          ];
      held = λ t held. held;
      ways = λ y has. has;
      known = λ y has. has;
      moved = λ y has. has;
      inners = λ y has. has;
      pages = h.front;
      leads = λ y has. in_tail y (record { span = sp; page = n; name = h.name }) v.leads has;
      is = refl;
    }

-- what a load of the pointer leaves in any case
pub record IsSeenAgain (sp : Span) (at : ℕ) (v : View) (n : ℕ) (w : View) : Type 0 where
  paths : (k : Key) → in_span sp k ≡ true → OnlyWaysOn k v w
  walked : HasWalked v w
  grip : w.grip ≡ v.grip
  most : w.steps ≤ v.steps + 1
  agree : WaysAgree w.ways
  trees : TreesAgree w
  others : (a : ℕ) → a ≢ at → seen_at w.reads a ≡ seen_at v.reads a
  saw : SawLast at n (seen_at v.reads at) v w

pub seen_bare : (x : At) (sp : Span) (at : ℕ) (v : View) (n : ℕ) (w : View) → WaysAgree v.ways → TreesAgree v
    → HasSeenPointer x sp at v n w → IsSeenAgain sp at v n w
seen_bare x sp at v n w agree trees h = record {
  paths = λ k over. paths_same k v w (ap (λ (z : View). z.ways) h.is);
  walked = walked_pointer x sp at v n w h;
  grip = ap (λ (z : View). z.grip) h.is;
  most = let e = ap (λ (z : View). z.steps) h.is in omega (arith, e);
  agree = subst (λ (z : View). WaysAgree z.ways) (sym h.is) agree;
  trees = trees_by v w (ap (λ (z : View). z.layout) h.is) (ap (λ (z : View). z.known) h.is) (ap (λ (z : View). z.inners) h.is)
      (ap (λ (z : View). z.ways) h.is) trees;
  others = λ a apart. ap (λ (z : View). seen_at z.reads a) h.is ∙ seen_other v.reads at n (Some n) a apart;
  saw = record {
    step = v.steps;
    since = omega arith;
    last = ap (λ (z : View). z.last) h.is;
    kept = Some n;
    kept_is = sym (ap (λ (z : View). kept_at z.reads at) h.is ∙ kept_here v.reads at n (Some n));
    stands = subst (λ (z : View). Contains z.reads (record { word = at; seen = n; was = seen_at v.reads at; kept = Some n })) (sym h.is)
        (noted_in v.reads at n (Some n));
  };
}

pub seen_led : (sp : Span) (at : ℕ) (v : View) (n : ℕ) (w : View) → HasFollowed sp at v n w → IsSeenAgain sp at v n w
seen_led sp at v n w h =
    let l = follow_load sp at v n w h in record {
      paths = λ k over. follow_paths k sp at v n w over h;
      walked = l.walked;
      grip = l.grip;
      most = l.most;
      agree = l.agree;
      trees = l.trees;
      others = l.others;
      saw = l.saw;
    }

pub seen_again : (x : At) (sp : Span) (at : ℕ) (v : View) (n : ℕ) (w : View) → WaysAgree v.ways → TreesAgree v
    → SawPointer x sp at v n w → IsSeenAgain sp at v n w
seen_again x sp at v n w agree trees s = by_bare (nat_lt n (2 ^ 32)) s
  where
    by_bare : (b : Bool) → MatchBool b (HasSeenPointer x sp at v n w) (HasFollowed sp at v n w) → IsSeenAgain sp at v n w
    by_bare true h = seen_bare x sp at v n w agree trees h
    by_bare false h = seen_led sp at v n w h

-- what a part has and what was last written are of one value
pub same_value : (c d : Content) → IsSameOrAbsent c d → c.value ≡ d.value
same_value c d (inl same) = ap (λ (z : Content). z.value) same
same_value c d (inr none) = none.0 ∙ sym none.1

-- what was found there
abbrev pub below_is : Option Stored → Seen → Found
below_is None p = places.Zero p
below_is (Some s) p = places.Snapshot s.value s.number p

pub below_only : (r : Option Stored) (p : Seen) (v w : View) → OnlyTrees v w → MeetsOnly (below_is r p) v w
below_only None p v w only = only
below_only (Some s) p v w only = only

module _ (k : Key) (pointers headers : List Seen) (slots : List ℕ) (bare : Bare) (v : View) (n : ℕ) (u : View)
    (can : CanWalk slots v) (b : IsBareOn k pointers bare v)
    (sees : SawPointer bare.place bare.span bare.pointer.at v n u) where
  abbrev at : ℕ
  at = bare.pointer.at

  a : IsSeenAgain bare.span at v n u
  a = seen_again bare.place bare.span at v n u can.agree can.trees sees

  can_u : CanWalk slots u
  can_u = can_after slots v u a.walked a.grip a.agree a.trees can

  met_u : OnlyTrees v u
  met_u = only_but at v u (word_stays v u at a.walked b.known) a.others

  -- it is another word
  pub below_changed : (most : ℕ) → 1 ≤ most → n ≢ bare.pointer.word
      → KeepsSo most k pointers headers slots (Err (causes.Conflict at bare.pointer.word n)) v u
  below_changed most few other = record {
    can = can_u;
    walked = a.walked;
    most = let one = a.most in omega (arith, one, few);
    met = only_for k v u met_u;
    only = tt;
    keeps = tt;
    paths = a.paths k b.over;
    grip = a.grip;
    found = tt;
    cause = inl (inl (record {
      on = pointer_stays k v u at a.walked
          (record { place = bare.place; span = bare.span; is = b.is; inside = b.inside; within = b.within; tree = b.tree; over = b.over });
      was = seen_at v.reads at;
      saw = a.saw;
      known = inr (b.met, b.set);
      cause = inr other;
    }));
  }

  -- it is kept, and what is below was looked at
  module _ (same : n ≡ bare.pointer.word) where
    h : HasSeenPointer bare.place bare.span at v n u
    h =
        let low = subst (λ i. i < 2 ^ 32) (sym same) b.bare in
        subst (λ (c : Bool). MatchBool c (HasSeenPointer bare.place bare.span at v n u) (HasFollowed bare.span at v n u))
        (let e : ltb n (2 ^ 32) ≡ true = grind (arith, nat_tests) in e) sees

    abbrev lead : Lead
    lead = record { span = bare.span; page = n; name = h.name }

    pub still : (w : View) → HasGlanced u w → IsBareOn k pointers bare w
    still w g = record {
      is = place_stays v w bare.place bare.span at (walked_then v u w a.walked (glanced_walked u w g)) b.is;
      known = word_stays v w at (walked_then v u w a.walked (glanced_walked u w g)) b.known;
      apart = subst (λ (y : Layout). IsNoHeader y.slots at)
          (sym (layout_stays v w (walked_then v u w a.walked (glanced_walked u w g)))) b.apart;
      inside = subst (λ (y : Layout). LiesInPage y.slots bare.place at)
          (sym (layout_stays v w (walked_then v u w a.walked (glanced_walked u w g)))) b.inside;
      within = subst (λ (y : Layout). at < words_of y) (sym (layout_stays v w (walked_then v u w a.walked (glanced_walked u w g)))) b.within;
      tree = tree_stays v w (bare.span).storage (walked_then v u w a.walked (glanced_walked u w g)) b.tree;
      over = b.over;
      bare = b.bare;
      there = subst (λ i. i ≤ length w.pages) same (subst (λ (q : List (List ℕ)). n ≤ length q) (sym (pages_are w g)) h.there);
      few = subst (λ (z : View). length z.pages ≤ z.layout.resident) (sym g.is)
          (subst (λ (z : View). length z.pages ≤ z.layout.resident) (sym h.is) h.few);
      most = subst (λ (q : List (List ℕ)). length q ≤ 65536) (sym (pages_are w g)) h.most;
      stands = λ some. subst (λ i. StandsFor w.layout.decls w.pages bare.span i) same
          (subst (λ (z : View). StandsFor z.layout.decls z.pages bare.span n) (sym g.is)
          (subst (λ (z : View). StandsFor z.layout.decls z.pages bare.span n) (sym h.is)
          (h.stands (subst (λ i. 0 < i) (sym same) some))));
      lead = subst (IsLeadOf w bare.span) same (lead-is w g);
      met = ap (λ (z : View). seen_at z.reads at) g.is
          ∙ (ap (λ (z : View). seen_at z.reads at) h.is
          ∙ (seen_same v.reads at n (Some n) ∙ ap (λ (i : ℕ). let o : Option ℕ = Some i in o) same));
      set = b.set;
    }
      where
        pages_are : (w : View) → HasGlanced u w → w.pages ≡ h.pages
        pages_are w g = ap (λ (z : View). z.pages) g.is ∙ ap (λ (z : View). z.pages) h.is

        lead-is : (w : View) → HasGlanced u w → IsLeadOf w bare.span n
        lead-is w g = (
          record { span = bare.span; page = n; name = h.name },
          subst (λ (z : View). Contains z.leads (record { span = bare.span; page = n; name = h.name })) (sym g.is)
              (subst (λ (z : View). Contains z.leads (record { span = bare.span; page = n; name = h.name })) (sym h.is)
              (in_head (record { span = bare.span; page = n; name = h.name }) v.leads)),
          refl,
          refl,
        )

    pub found_so : (c : Content) (w : View) (g : HasGlanced u w) → tree_content u.pages bare.span n k ≡ c
        → (word_at at pointers ≡ None → length pointers < 128) → IsFoundBelow k c pointers bare.pointer v w
    found_so c w g content room =
        let part = h.part in
        let has : found part k ≡ c =
        h.tree b.tree k b.over
        ∙ (ap (λ (q : List (List ℕ)). tree_content q bare.span n k) (sym (ap (λ (z : View). z.pages) h.is)) ∙ content) in
        record {
          place = bare.place;
          span = bare.span;
          on = still w g;
          part = part;
          of = record {
            word = h.word;
            lead = lead;
            has = subst (λ (z : View). Contains z.leads lead) (sym g.is)
                (subst (λ (z : View). Contains z.leads lead) (sym h.is) (in_head lead v.leads));
            over = refl;
            page = same;
            version = h.version;
          };
          kept = ap (λ (z : View). z.seat.kept) g.is ∙ ap (λ (z : View). z.seat.kept) h.is;
          word_kept = ap (λ (z : View). kept_at z.reads at) g.is
              ∙ (ap (λ (z : View). kept_at z.reads at) h.is
              ∙ (kept_here v.reads at n (Some n) ∙ ap (λ (i : ℕ). let o : Option ℕ = Some i in o) same));
          words = λ q apart. ap (λ (z : View). kept_at z.reads q) g.is
              ∙ (ap (λ (z : View). kept_at z.reads q) h.is ∙ kept_other v.reads at n (Some n) q apart);
          inside = h.within;
          covers_all = h.covered;
          says = λ q there. h.tree b.tree q there
              ∙ (ap (λ (y : List (List ℕ)). tree_content y bare.span n q)
              (sym (ap (λ (z : View). z.pages) g.is ∙ ap (λ (z : View). z.pages) h.is))
              ∙ ap (λ (i : ℕ). tree_content w.pages bare.span i q) same);
          has = has;
          last = ap (λ (z : Content). z.value) (sym has)
              ∙ (same_value (found part k) (last_write v.layout.opening h.history h.decided k) (h.last k (h.covered k b.over))
              ∙ (ap (λ q. (last_write v.layout.opening q h.decided k).value)
              (sym (ap (λ (z : View). z.history) g.is ∙ ap (λ (z : View). z.history) h.is))
              ∙ ap (λ q. (last_write v.layout.opening w.history q k).value)
              (sym (ap (λ (z : View). z.decided) g.is ∙ ap (λ (z : View). z.decided) h.is))));
          room = room;
        }

    by_stored : (o : Option StoredFound) (r : Option Stored) (w : View) (g : HasGlanced u w)
        → find tree_format u.pages deepest k.key (place_for bare.span n) ≡ o → IsLooked o r
        → (word_at at pointers ≡ None → length pointers < 128)
        → IsFound k pointers headers (below_is r bare.pointer) v w
    by_stored None None w g is looked room = found_so nothing w g (ap found_content is) room
    by_stored None (Some y) w g is looked room = absurd looked
    by_stored (Some x) None w g is looked room = absurd looked
    by_stored (Some x) (Some y) w g is looked room =
        found_so (record { number = number_in y.number; value = Some y.value }) w g
        (ap found_content is
        ∙ (ap (λ (i : ℕ). let c : Content = record { number = number_in i; value = Some x.value } in c) (sym looked.0)
        ∙ ap (λ (i : ℕ). let c : Content = record { number = number_in y.number; value = Some i } in c) (sym looked.1))) room

    pub below_found : (most bound : ℕ) (r : Option Stored) (w : View) → 1 + most ≤ bound → HasGlanced u w
        → w.steps ≤ u.steps + most
        → IsLooked (find tree_format u.pages deepest k.key (place_for bare.span n)) r
        → (word_at at pointers ≡ None → length pointers < 128)
        → KeepsSo bound k pointers headers slots (Ok (below_is r bare.pointer)) v w
    below_found most bound r w enough g steps looked room =
        let walk = glanced_walked u w g in
        let all = walked_then v u w a.walked walk in
        let only : OnlyTrees v w = only_then v u w walk met_u (λ q. inl (ap (λ (z : View). seen_at z.reads q) g.is)) in
        let grip = glanced_grip u w g ∙ a.grip in record {
          can = can_after slots v w all grip
              (subst (λ (z : View). WaysAgree z.ways) (sym g.is) a.agree)
              (trees_by u w (ap (λ (z : View). z.layout) g.is) (ap (λ (z : View). z.known) g.is)
              (ap (λ (z : View). z.inners) g.is) (ap (λ (z : View). z.ways) g.is) a.trees) can;
          walked = all;
          most = let one = a.most in omega (arith, one, steps, enough);
          met = only_for k v w only;
          only = below_only r bare.pointer v w only;
          keeps = keeps_pointer pointers headers at n v w b.apart (subst (IsMetSo pointers at) (sym same) b.set)
              (ap (λ (z : View). seen_at z.reads at) g.is
              ∙ (ap (λ (z : View). seen_at z.reads at) h.is ∙ seen_same v.reads at n (Some n)))
              (λ q apart. ap (λ (z : View). seen_at z.reads q) g.is ∙ a.others q apart);
          paths = paths_then k v u w walk (a.paths k b.over) (paths_glanced k u w g);
          grip = grip;
          found = by_stored (find tree_format u.pages deepest k.key (place_for bare.span n)) r w g refl looked room;
          cause = tt;
        }

-- the set of pointers is full
pub below_full : (most : ℕ) (k : Key) (pointers headers : List Seen) (slots : List ℕ) (bare : Bare) (why : RefusalCause)
    (v : View) → CanWalk slots v → IsBareOn k pointers bare v → IsPointersFull bare.pointer.at pointers why
    → KeepsSo most k pointers headers slots (Err why) v v
below_full most k pointers headers slots bare why v can b full = record {
  can = can;
  walked = walked_self v;
  most = omega arith;
  met = λ a. inl refl;
  only = tt;
  keeps = tt;
  paths = paths_same k v v refl;
  grip = refl;
  found = tt;
  cause = by_cause why full;
}
  where
    by_cause : (why : RefusalCause) → IsPointersFull bare.pointer.at pointers why → RefusesFind k pointers headers slots why v v
    by_cause (causes.Conflict p q r) f = absurd f
    by_cause (causes.Full held) f = absurd f
    by_cause (causes.Wide set) f = (
      subst (λ (s : SetName). IsFindWide k pointers slots s v) (sym f.0)
          (record { bare = bare; on = b; absent = f.1; full = f.2 }),
      led_none k v v refl,
    )
    by_cause (causes.NumberLimit clock) f = absurd f

-- what is looked for below the pointer may be looked for
module _ (k : Key) (pointers headers : List Seen) (slots : List ℕ) (bare : Bare) (v : View) (n : ℕ) (u : View)
    (can : CanWalk slots v) (b : IsBareOn k pointers bare v)
    (sees : SawPointer bare.place bare.span bare.pointer.at v n u) (same : n ≡ bare.pointer.word) where
  still_u : IsBareOn k pointers bare u
  still_u = still k pointers headers slots bare v n u can b sees same u (glanced_self u)

  pub below_looks : CanLook u
  below_looks = record {
    active = active_stays v u (seen_again bare.place bare.span bare.pointer.at v n u can.agree can.trees sees).walked can.active;
    room = still_u.few;
    most = still_u.most;
  }

  pub below_there : bare.pointer.word ≤ length u.pages
  below_there = still_u.there

  pub below_to : k.key ≤ (bare.span).high
  below_to = (bounds_of bare.span k b.over).2

  pub below_stands : StandsBelow u bare.span bare.pointer.word
  below_stands some = stands_so (still_u.stands some)
    where
      stands_so : StandsFor u.layout.decls u.pages bare.span bare.pointer.word
          → (depth : ℕ) × (depth ≤ deepest) × StandsTo tree_format IsTreePage u.pages depth (place_for bare.span bare.pointer.word)
      stands_so s =
          let tree = tree_of u.layout.decls s.0 (bare.span).storage
          (subst (λ (y : Layout). AreDecls y.decls)
          (sym (layout_stays v u (seen_again bare.place bare.span bare.pointer.at v n u can.agree can.trees sees).walked)) can.declared)
          (s.2).declared s.1 still_u.tree in (
            (s.2).depth,
            (s.2).most,
            subst (λ (d : Decl). StandsTo (format_of d) (IsPageOf d) u.pages (s.2).depth (place_for bare.span bare.pointer.word)) tree.1
                (s.2).stands,
          )
