-- The rule holds as an engine begins.
use Rattle.std.proofs.Common.{◌≡◌, ℕ, zero, suc, ◌+◌, ◌-◌, ◌<◌, ◌≤◌, Bool, true, true≢false, cond, eqb, eq-eqb, ne_eqb}
use Rattle.std.proofs.Common.{List, [], ◌∷◌, length, get_or, replicate, refl, sym, ap, ◌∙◌, subst, arith, Some, None}
use Rattle.std.specs.List.{slice_get}
use Rattle.std.proofs.lemmas.Bool.Decides.{nat_tests}
use Rattle.lists.specs.Elements.{in_none}
use Rattle.lists.specs.Fronts.{front_none, front_refl}
use Rattle.serial_model.specs.declared.decl.Decl.{Decl}
use Rattle.serial_model.specs.declared.key.Key.{Key}
use Rattle.homes.specs.declared.places.At.{At}
use Rattle.homes.specs.declared.places.At.TheVariants.{Root, In}
use Rattle.homes.specs.declared.places.Content.{Content}
use Rattle.homes.specs.Homes.{look}
use Rattle.snapshot_store.specs.declared.place.PagePlace.{PagePlace}
use Rattle.commit_core.specs.declared.seat.Seat.{Seat}
use Rattle.commit_core.specs.Opening.{fresh_seat, fresh_story}
use Rattle.drop_core.specs.declared.table.SnapPage.{SnapPage}
use Rattle.drop_core.specs.declared.table.SnapPage.TheVariants.{Missing}
use Rattle.drop_core.specs.Opening.{fresh_grip}
use Rattle.drop_core.specs.Table.{pointer_of, snap_of, is_live}
use Rattle.engine_rule.specs.JointState.{JointState}
use Rattle.engine_rule.specs.Law.{StartsSound}
use Rattle.engine_rule.specs.Opening.{homes_list}
use Rattle.engine_rule.specs.Reading.{page_at, snaps_from}
use Rattle.engine_rule.specs.Sound.{IsSound}
use Rattle.views.specs.Sums.{one_at}
use Rattle.engine_pages.specs.declared.layout.Layout.{Layout}
use Rattle.engine_pages.specs.Beginning.{CanBegin, first_roots, first_snaps, first_table}
use Rattle.engine_pages.specs.Rule.{Shows}
use Rattle.engine_pages.specs.Views.{opening_view, bare_seat}

-- ---- pages by their names

-- the page of each name stands there
pub snap_named : (f : Decl × PagePlace → SnapPage) (k : ℕ) (places : List (Decl × PagePlace)) (n : ℕ)
    (e : Decl × PagePlace) → slice_get places n ≡ Some e
    → look (λ a b. eqb a b) Missing (snaps_from k f places) (k + n) ≡ f e
snap_named f k [] n e at = absurd (cc)
snap_named f k (x ∷ places) zero e at =
    let is : x ≡ e = cc in
    ap (λ (c : Bool). cond c (f x) (look (λ a b. eqb a b) Missing (snaps_from (suc k) f places) (k + 0)))
    (eq-eqb k (k + 0) (omega arith))
    ∙ ap f is
snap_named f k (x ∷ places) (suc n) e at =
    let next : k + suc n ≡ suc k + n = omega arith in
    ap (λ (c : Bool). cond c (f x) (look (λ a b. eqb a b) Missing (snaps_from (suc k) f places) (k + suc n)))
    (ne_eqb k (k + suc n) (λ q. omega (arith, q)))
    ∙ (ap (λ i. look (λ a b. eqb a b) Missing (snaps_from (suc k) f places) i) next
    ∙ snap_named f (suc k) places n e at)

-- none stands below them
pub snap_below : (f : Decl × PagePlace → SnapPage) (k i : ℕ) (places : List (Decl × PagePlace)) → i < k
    → look (λ a b. eqb a b) Missing (snaps_from k f places) i ≡ Missing
snap_below f k i [] less = refl
snap_below f k i (x ∷ places) less =
    ap (λ (c : Bool). cond c (f x) (look (λ a b. eqb a b) Missing (snaps_from (suc k) f places) i))
    (ne_eqb k i (λ q. omega (arith, q, less)))
    ∙ snap_below f (suc k) i places (omega arith)

-- ---- small sums

fresh_or : {A : Type 0} (p n : ℕ) (x d : A) → p < n → get_or (replicate n x) p d ≡ x
fresh_or p zero x d less = absurd (omega arith)
fresh_or zero (suc n) x d less = refl
fresh_or (suc p) (suc n) x d less = fresh_or p n x d (omega arith)

once_first : (p : ℕ) → one_at p 0 + 0 ≤ 1
once_first p = grind (arith, nat_tests)

later_none : (x : ℕ) → one_at (suc x) 0 + 0 ≡ 0
later_none x = grind (arith, nat_tests)

-- ---- the rule

-- the first words and the keeper's pass show a sound state
pub begins : StartsSound → (l : Layout) (places : List (Decl × PagePlace)) (roots words : List ℕ)
    → CanBegin l places roots words → Shows l words (opening_view l ∷ [])
begins starts l places roots words c =
    let d = first_table l places roots in
    let homes = homes_list (first_snaps l places) (length places) (first_roots l places roots) l.slots in
    let m = fresh_story [] homes l.first in (
      record {
        story = m;
        seats = λ _. fresh_seat l.first;
        table = d;
        grips = λ _. fresh_grip;
        trees = λ _. None;
        resident = record { pages = l.pages; places = places };
      },
      record {
        joint = subst IsSound
            (ap (λ (o : List (Key × Content)). let s : JointState = record { commits = record { opening = o; story = m; seats = replicate 9 (fresh_seat l.first) }; pages = record { table = d; grips = replicate 9 fresh_grip } } in s) (sym c.opening))
            (starts (first_snaps l places) (length places) (first_roots l places roots) l.first l.slots 9 c.can);
        declared = c.declared;
        first = refl;
        blank = c.blank;
        valued = λ a has. absurd (in_none a has);
        shown = record {
          long = c.long;
          clock = c.clock ∙ (let e : l.first.draw + 0 ≡ l.first.draw = omega arith in omega arith);
          decisions = c.decisions;
          published = c.count;
          unused = c.unused;
          roots = c.pointers;
          slots = λ t few. record { word = c.slots t few ∙ omega arith; times = omega arith };
          pages = λ t few now none. tt;
          treed = λ t f few now tree. absurd (cc);
          resident = c.resident;
        };
        tried = λ i a there now. absurd (cc);
        others = λ p most. refl;
        marks = λ worker few. record {
          before = [];
          mark = record { epoch = Some (l.first.epoch - 1); length = 0 };
          last = refl;
          word = c.marks (2 + worker) (omega arith) (omega arith) ∙ omega arith;
          small = record { length = omega arith; epoch = let fits = c.first.epoch in omega arith };
        };
        marked = λ p. let begun = c.begun in omega arith;
        small = record {
          first = c.small;
          drawn = λ a has. absurd (in_none a has);
          clock = record { draw = let e = c.first.draw in omega arith; epoch = c.first.epoch };
        };
        fits = (
          record {
            history = front_none [];
            decided = front_none [];
            heard = λ x has. absurd (in_none x has);
            mine = tt;
            mine_own = λ a has. absurd (in_none a has);
            records = λ part has. absurd (in_none part has);
            kept = λ k x a has. absurd (in_none _ has);
            versions = λ x has. absurd (in_none x has);
            loaded = tt;
            own = λ p at. record {
              layout = refl;
              seat = refl;
              tried = tt;
              took = λ t has. absurd (in_none t has);
              locked = λ k has. absurd (true≢false (sym has));
            };
            low = omega arith;
            part = (refl, refl);
            seatless = λ none. absurd (none tt);
            unkept = λ none. absurd (none tt);
            keepers = λ keeper. record {
              epoch = omega arith;
              past = record { clock = let begun = c.begun in omega arith; tried = λ a has now. absurd (in_none a has) };
              parked_are = refl;
              begun = λ worker few.
                  subst (λ (x : Seat). length x.marks ≤ 1) (sym (fresh_or worker 8 (fresh_seat l.first) bare_seat few))
                  (omega arith);
              parked = λ worker few none. record {
                is = sym (fresh_or worker 8 (fresh_seat l.first) bare_seat few);
                resting = record { kept = refl; locks = refl; stage = refl };
              };
            };
            met = λ met has. absurd (in_none met has);
          },
          tt,
        );
        sums = record {
          one_keeper = refl;
          made_are = later_none;
          once = once_first;
          mine_are = λ h. refl;
          draws_are = refl;
          few_open = omega arith;
          room = let e = c.first.draw in omega arith;
        };
        touching = record {
          taken = λ q k few has. absurd (true≢false (sym has));
          facing = ((λ worker is. absurd (cc)), tt);
          blamed = ((λ x has. absurd (in_none x has)), tt);
        };
        room = refl;
        few = c.few;
        within = c.within;
        named = record {
          count = refl;
          none = snap_below (page_at l.pages places) 1 0 places (omega arith);
          says = λ n e at.
              let next : suc n ≡ 1 + n = omega arith in
              ap (λ i. snap_of (first_table l places roots) i) next
              ∙ snap_named (page_at l.pages places) 1 places n e at;
          stand = c.standing;
          below = c.below;
        };
        laid_out = λ x t live leads. absurd (no_slots x t live leads);
        roots = c.spans_are;
        pages = (
          record {
            grip = λ p at. refl;
            within = λ t has. absurd (true≢false (sym has));
            ways = λ x has. absurd (in_none x has);
            drafts = λ x has. absurd (in_none x has);
            copies = λ x has. absurd (in_none x has);
            blanks = λ t has. absurd (true≢false (sym has));
            resident = front_refl l.pages;
            leads = λ x has. absurd (in_none x has);
            fills = λ x has. absurd (in_none x has);
            shuts = λ p at x has. absurd (in_none x has);
            none = tt;
            keepers = λ keeper worker few none. refl;
            treed = record {
              known = λ x has. absurd (in_none x has);
              heads = λ p at x has. absurd (in_none x has);
              moved = λ x has. absurd (in_none x has);
              sealed = λ p at t has. absurd (true≢false (sym has));
              inners = λ x has. absurd (in_none x has);
              new_leaves = λ x has. absurd (in_none x has);
              new_inners = λ x has. absurd (in_none x has);
              none = tt;
            };
          },
          tt,
        );
      },
    )
  where
    no_slots : (x : At) (t : ℕ) → is_live (first_table l places roots) x ≡ true
        → (pointer_of (first_table l places roots) x).slot ≡ Some t → ⊥
    no_slots (Root r) t live leads = none_some t (sym (c.unled r) ∙ leads)
      where
        none_some : (t : ℕ) → None ≡ Some t → ⊥
        none_some t e = absurd (cc)
    no_slots (In y) t live leads = true≢false (sym live)
