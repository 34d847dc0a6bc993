-- What the parts of a visit ask, behind what was done before.
use Rattle.std.proofs.Common.{◌≡◌, ◌⊎◌, inl, inr, ℕ, ◌+◌, ◌<◌, ◌≤◌, Bool, true, eqb, eq-eqb, List, [], ◌∷◌, length}
use Rattle.std.proofs.Common.{Some, refl, sym, ap, ◌∙◌, subst, arith}
use Rattle.std.specs.Prelude.{◌||◌}
use Rattle.std.specs.List.{Contains}
use Rattle.lists.specs.Elements.{in_cases, in_head, in_none, in_tail}
use Rattle.lists.specs.Fronts.{front_length}
use Rattle.homes.specs.declared.places.At.{At}
use Rattle.homes.specs.declared.places.At.TheVariants.{In, Root}
use Rattle.homes.specs.declared.places.Span.{Span}
use Rattle.snapshot_store.specs.declared.place.PagePlace.{PagePlace}
use Rattle.drop_core.specs.declared.grip.Grip.{Grip}
use Rattle.drop_core.specs.Table.{at_index, has_slot}
use Rattle.engine_pages.specs.declared.layout.Layout.{Layout}
use Rattle.engine_pages.specs.declared.view.View.{View}
use Rattle.engine_pages.specs.declared.view.Way.{Way}
use Rattle.engine_pages.specs.Layout.{page_at, root_at, words_of}
use Rattle.engine_pages.specs.Pages.{is_array, is_tree, part_between, root_span}
use Rattle.engine_pages.specs.Pointers.{IsPointerAt}
use Rattle.engine_pages.proofs.Named.{page_longer}
use Rattle.dual_pointer.specs.Copies.{IsLeadOf}
use Rattle.pointer_swings.specs.Children.{IsPartOf, keys_of}
use Rattle.page_drops.specs.declared.visits.Held.{Held}
use Rattle.page_drops.specs.Calls.{HasIn, IsBare, slots_on}
use Rattle.page_drops.specs.Works.{read_of, IsOutside}
use Rattle.page_drops.proofs.Belows.{held_apart, in_words}
use Rattle.page_drops.proofs.Entries.{seen_of}
use Rattle.page_drops.proofs.Visited.{bare_in}
use Rattle.tree_drops.specs.declared.visits.Opened.{Opened}
use Rattle.tree_drops.specs.Branches.{AreAlike, AtBranch, IsInnerOf}
use Rattle.tree_drops.specs.Leaves.{AtTree}
use Rattle.tree_drops.specs.Turns.{CanGoFrom, CanWork, IsInside, IsOpened, IsRow, LooksIn}
use Rattle.tree_drops.specs.Visits.{CanVisit, GoesOver, IsNarrower, KeepsInners, MetPages, slots_in}
use Rattle.tree_drops.proofs.Ends.{or_false, or_true}
use Rattle.tree_drops.proofs.Overs.{held_over, layout_over}
use Rattle.tree_drops.proofs.Parts.{branch_here}

-- ---- what stays

pub bare_over : (v w : View) → GoesOver v w → IsBare v → IsBare w
bare_over v w h bare =
    let went = h.went in record {
      keeper = ap (λ (z : View). z.role) went ∙ bare.keeper;
      idle = ap (λ (z : View). z.seat.stage) went ∙ bare.idle;
      holds = ap (λ (z : View). z.grip.holds) went ∙ (bare.holds ∙ sym (ap (λ (z : View). slots_on z.ways) went));
      made = ap (λ (z : View). z.grip.made) went ∙ bare.made;
      taken = ap (λ (z : View). z.grip.taken) went ∙ bare.taken;
      locks = ap (λ (z : View). z.seat.locks) went ∙ bare.locks;
      took = ap (λ (z : View). z.took) went ∙ bare.took;
      parts = ap (λ (z : View). z.seat.kept) went ∙ bare.parts;
      heads = ap (λ (z : View). z.heads) went ∙ bare.heads;
      shuts = ap (λ (z : View). z.shuts) went ∙ bare.shuts;
    }

pub tree_over : (t page : ℕ) (sp : Span) (v w : View) → GoesOver v w → AtTree t sp page v → AtTree t sp page w
tree_over t page sp v w h at =
    let went = h.went in
    let layout : w.layout ≡ v.layout = layout_over v w h in record {
      keeper = ap (λ (z : View). z.role) went ∙ at.keeper;
      idle = ap (λ (z : View). z.seat.stage) went ∙ at.idle;
      over = record {
        way = subst (λ ws. Contains ws (record { slot = t; span = sp })) (sym (ap (λ (z : View). z.ways) went)) at.over.way;
        tree = ap (λ (l : Layout). is_tree l.decls sp.storage) layout ∙ at.over.tree;
      };
      slot = subst (λ (l : Layout). t < l.slots) (sym layout) at.slot;
      there = let low = at.there in let long = front_length v.pages w.pages h.front in omega (arith, low, long);
      room = subst (λ (l : Layout). page ≤ l.resident) (sym layout) at.room;
    }

pub lead_over : (sp : Span) (page : ℕ) (v w : View) → GoesOver v w → IsLeadOf v sp page → IsLeadOf w sp page
lead_over sp page v w h lead = (lead.0, h.leads lead.0 lead.1, lead.2, lead.3)

-- a slot with a way is held
pub way_held : (ways : List Way) (way : Way) → Contains ways way → has_slot (slots_on ways) way.slot ≡ true
way_held [] way has = absurd (in_none way has)
way_held (y ∷ ways) way has = elim (in_cases way y ways has) [
  | inl same ↦
      ap (λ (b : Bool). b || has_slot (slots_on ways) way.slot)
      (eq-eqb y.slot way.slot (ap (λ (z : Way). z.slot) same))
  | inr more ↦ or_true (eqb y.slot way.slot) (has_slot (slots_on ways) way.slot) (way_held ways way more)
]

-- a pointer stands where it stood, in a page that is held still
pub place_over : (x : At) (sp : Span) (at : ℕ) (v w : View) → w.layout ≡ v.layout → IsBare v
    → ((z : Way) → Contains v.ways z → Contains w.ways z) → KeepsInners v w → IsPointerAt v x sp at → IsPointerAt w x sp at
place_over (Root r) sp at v w layout bare ways inners place =
    subst (λ (l : Layout). (r < length l.decls) × (sp ≡ root_span l.decls r) × (at ≡ root_at r)) (sym layout) place
place_over (In y) sp at v w layout bare ways inners place =
    elim place [
      | inl c ↦ inl record {
        way = c.way;
        has = ways c.way c.has;
        slot = c.slot;
        kind = ap (λ (l : Layout). is_array l.decls (c.way).span.storage) layout ∙ c.kind;
        inner = c.inner;
        index = c.index;
        span = c.span;
        word = c.word ∙ ap (λ (l : Layout). page_at l.slots y.slot y.index) (sym layout);
      }
      | inr b ↦ inr record {
        way = b.way;
        has = ways b.way b.has;
        slot = b.slot;
        kind = ap (λ (l : Layout). is_tree l.decls (b.way).span.storage) layout ∙ b.kind;
        inner = b.inner;
        knows = inners b.inner b.knows
            (ap (λ s. has_slot v.grip.holds s) (b.same ∙ sym b.slot)
            ∙ (ap (λ hs. has_slot hs (b.way).slot) bare.holds ∙ way_held v.ways b.way b.has));
        same = b.same;
        index = b.index;
        span = b.span;
        word = b.word ∙ ap (λ (l : Layout). page_at l.slots y.slot (4 + y.index)) (sym layout);
      }
    ]

same_ways : (v w : View) → GoesOver v w → (z : Way) → Contains v.ways z → Contains w.ways z
same_ways v w h z has = subst (λ ws. Contains ws z) (sym (ap (λ (y : View). y.ways) h.went)) has

-- ---- a page that is worked on

pub can_work : (x : At) (sp : Span) (at page epoch : ℕ) (held : Held) (v a : View) → CanVisit x sp at page epoch v
    → HasIn sp at page held v a → KeepsInners v a → CanWork x sp at held.slot page held.word epoch a
can_work x sp at page epoch held v a can inside inn =
    let went = inside.over.went in
    let layout : a.layout ≡ v.layout = ap (λ (z : View). z.layout) went in
    let bare = bare_in sp at page held v a can.bare inside in
    let own : Way = record { slot = held.slot; span = sp } in record {
      bare = bare;
      drop = record {
        tree = record {
          keeper = bare.keeper;
          idle = bare.idle;
          over = record {
            way = subst (λ ws. Contains ws own) (sym inside.ways) (in_head own v.ways);
            tree = ap (λ (l : Layout). is_tree l.decls sp.storage) layout ∙ can.tree;
          };
          slot = subst (λ (l : Layout). held.slot < l.slots) (sym layout) inside.slot;
          there = let one = can.there in let two = front_length v.pages a.pages inside.over.front in omega (arith, one, two);
          room = subst (λ (l : Layout). page ≤ l.resident) (sym layout) can.room;
        };
        place = place_over x sp at v a layout can.bare
            (λ z has. subst (λ ws. Contains ws z) (sym inside.ways) (in_tail z own v.ways has)) inn can.place;
        inside = subst (λ (l : Layout). at < words_of l) (sym layout) can.inside;
        leads = inside.led;
        met = seen_of a.reads at inside.read.0 inside.read.1 ∙ ap (λ (y : ℕ). Some y) inside.read.2;
        apart = λ i few is.
            can.apart held.slot inside.fresh i few (is ∙ ap (λ (l : Layout). page_at l.slots held.slot i) layout);
        lead = λ some. let x = can.lead some in (x.0, inside.over.leads x.0 x.1, x.2, x.3);
        past = subst (λ n. epoch ≤ n) (sym (ap (λ (z : View). z.past) went)) can.past;
        locks = bare.locks;
        took = bare.took;
        heads = bare.heads;
        shuts = bare.shuts;
      };
      held = ap (λ (g : Grip). has_slot g.holds held.slot) inside.grip
          ∙ ap (λ (b : Bool). b || has_slot v.grip.holds held.slot) (eq-eqb held.slot held.slot refl);
      names = inside.names;
      read = inside.read;
      narrow = λ way has. elim (in_cases way own v.ways (subst (λ ws. Contains ws way) inside.ways has)) [
        | inl same ↦ inl (sym same)
        | inr more ↦ inr (can.narrow way more)
      ];
      away = λ u free i few is.
          can.apart u
          (or_false (eqb held.slot u) (has_slot v.grip.holds u) (sym (ap (λ (g : Grip). has_slot g.holds u) inside.grip) ∙ free))
          i few (is ∙ ap (λ (l : Layout). page_at l.slots u i) layout);
      unsealed = ap (λ (z : View). z.sealed) went ∙ can.unsealed;
    }

-- work goes on
pub work_over : (x : At) (sp : Span) (at t page word epoch : ℕ) (v w : View) → GoesOver v w → KeepsInners v w
    → read_of w.reads at ≡ read_of v.reads at → CanWork x sp at t page word epoch v → CanWork x sp at t page word epoch w
work_over x sp at t page word epoch v w h inn same can =
    let layout : w.layout ≡ v.layout = layout_over v w h in
    let bare = bare_over v w h can.bare in record {
      bare = bare;
      drop = record {
        tree = tree_over t page sp v w h can.drop.tree;
        place = place_over x sp at v w layout can.bare (same_ways v w h) inn can.drop.place;
        inside = subst (λ (l : Layout). at < words_of l) (sym layout) can.drop.inside;
        leads = can.drop.leads;
        met = seen_of w.reads at can.read.0 (same ∙ can.read.1) ∙ ap (λ (y : ℕ). Some y) can.read.2;
        apart = subst (λ (l : Layout). IsOutside l.slots t at) (sym layout) can.drop.apart;
        lead = λ some. lead_over sp page v w h (can.drop.lead some);
        past = subst (λ n. epoch ≤ n) (sym (ap (λ (z : View). z.past) h.went)) can.drop.past;
        locks = bare.locks;
        took = bare.took;
        heads = bare.heads;
        shuts = bare.shuts;
      };
      held = held_over t true v w h can.held;
      names = can.names;
      read = (can.read.0, same ∙ can.read.1, can.read.2);
      narrow = λ way has. can.narrow way (subst (λ ws. Contains ws way) (ap (λ (z : View). z.ways) h.went) has);
      away = λ u free.
          subst (λ (l : Layout). IsOutside l.slots u at) (sym layout)
          (can.away u (sym (ap (λ (z : View). has_slot z.grip.holds u) h.went) ∙ free));
      unsealed = ap (λ (z : View). z.sealed) h.went ∙ can.unsealed;
    }

pub work_looked : (x : At) (sp : Span) (at t page word epoch : ℕ) (v w : View) → LooksIn t v w
    → CanWork x sp at t page word epoch v → CanWork x sp at t page word epoch w
work_looked x sp at t page word epoch v w h can =
    work_over x sp at t page word epoch v w h.over h.known (h.reads at can.drop.apart) can

-- ---- an interior page

abbrev pub branch_over : (t page count : ℕ) (sp : Span) (v w : View) → has_slot v.grip.holds t ≡ true → GoesOver v w → KeepsInners v w
    → AtBranch t sp page count v → AtBranch t sp page count w
branch_over t page count sp v w held h inn x = record {
  tree = tree_over t page sp v w h x.tree;
  inner = x.inner;
  has = inn x.inner x.has (ap (λ s. has_slot v.grip.holds s) x.slot ∙ held);
  slot = x.slot;
  long = x.long;
  few = x.few;
  lead = λ some. lead_over sp page v w h (x.lead some);
}

pub opened_over : (t page count : ℕ) (sp : Span) (v w : View) → has_slot v.grip.holds t ≡ true → GoesOver v w → KeepsInners v w
    → IsOpened t sp page count v → IsOpened t sp page count w
opened_over t page count sp v w held h inn o =
    let words = page_longer v.pages w.pages page h.front o.at.tree.there in record {
      at = branch_over t page count sp v w held h inn o.at;
      inner = subst (λ ws. IsInnerOf page ws count) (sym words) o.inner;
      alike = subst (λ ws. AreAlike ws (o.at.inner).separators 0) (sym words) o.alike;
    }

pub go_over : (t page count epoch : ℕ) (sp : Span) (v w : View) → GoesOver v w → KeepsInners v w → CanGoFrom t sp page count epoch v
    → CanGoFrom t sp page count epoch w
go_over t page count epoch sp v w h inn can = record {
  bare = bare_over v w h can.bare;
  unsealed = ap (λ (z : View). z.sealed) h.went ∙ can.unsealed;
  opened = opened_over t page count sp v w can.held h inn can.opened;
  narrow = λ way has. can.narrow way (subst (λ ws. Contains ws way) (ap (λ (z : View). z.ways) h.went) has);
  held = held_over t true v w h can.held;
  past = subst (λ n. epoch ≤ n) (sym (ap (λ (z : View). z.past) h.went)) can.past;
}

-- a part is narrower than what its whole is a part of
narrow_part : (wide sp : Span) (q : PagePlace) → (wide ≡ sp) ⊎ IsNarrower wide sp → IsPartOf sp q → IsNarrower wide (keys_of sp q)
narrow_part wide sp q (inl same) part =
    subst (λ (z : Span). IsNarrower z (keys_of sp q)) (sym same)
    record { from = part.from; to = part.to; less = part.less }
narrow_part wide sp q (inr n) part =
    let from = n.from in
    let to = n.to in
    let low = part.from in
    let high = part.to in record {
      from = omega (arith, from, low);
      to = omega (arith, to, high);
      less = elim n.less [
        | inl less ↦ inl (omega (arith, less, low))
        | inr less ↦ inr (omega (arith, less, high))
      ];
    }

-- its pointers are visited
pub can_child : (t page count j epoch n at : ℕ) (sp part : Span) (u w : View) (go : CanGoFrom t sp page count epoch w) → GoesOver u w
    → (x : AtBranch t sp page count w) → j < count → part ≡ part_between sp (x.inner).separators j → at ≡ page_at w.layout.slots t (4 + j)
    → (q : PagePlace) → keys_of sp q ≡ part → IsPartOf sp q → n < page → n ≤ w.layout.resident → IsLeadOf w (keys_of sp q) n
    → CanVisit (at_index t j) part at n epoch w
can_child t page count j epoch n at sp part u w go over x less is place q keys whole below room lead =
    let few = x.few in
    let index : 4 + j < 64 = omega (arith, less, few) in
    subst (λ (z : Span). CanVisit (at_index t j) z at n epoch w) keys record {
      bare = go.bare;
      unsealed = go.unsealed;
      narrow = λ way has. narrow_part way.span sp q (go.narrow way has) whole;
      place = subst (λ (z : Span). IsPointerAt w (at_index t j) z at) (sym keys) (branch_here t page count j at sp part w x less is place);
      inside = in_words w.layout t (4 + j) at x.tree.slot index place;
      apart = λ s free. held_apart w.layout.slots t s (4 + j) at w.grip.holds go.held free index place;
      tree = x.tree.over.tree;
      there = let low = x.tree.there in omega (arith, low, below);
      room = room;
      lead = λ some. lead;
      past = go.past;
    }

-- ---- a page that is gone into

module _ (x : At) (sp : Span) (at page epoch : ℕ) (found : Opened) (v u : View) (can : CanVisit x sp at page epoch v)
    (i : IsInside sp at page found v u) where
  abbrev t : ℕ
  t = i.held.slot

  work_then : CanWork x sp at t page i.held.word epoch i.entered
  work_then = can_work x sp at page epoch i.held v i.entered can i.inside i.inners

  pub opened_found : IsOpened found.slot sp page found.count u
  opened_found = subst (λ n. IsOpened n sp page found.count u) (sym i.opened.slot) i.opened.opened

  pub go_inside : CanGoFrom found.slot sp page found.count epoch u
  go_inside =
      let looks = i.opened.looks in
      let work = work_looked x sp at t page i.held.word epoch i.entered u looks work_then in
      let own : Way = record { slot = t; span = sp } in
      let ways : u.ways ≡ own ∷ v.ways = ap (λ (z : View). z.ways) looks.over.went ∙ i.inside.ways in record {
        bare = work.bare;
        unsealed = work.unsealed;
        opened = opened_found;
        narrow = λ way has. elim (in_cases way own v.ways (subst (λ ws. Contains ws way) ways has)) [
          | inl same ↦ inl (sym (ap (λ (z : Way). z.span) same))
          | inr more ↦ inr (can.narrow way more)
        ];
        held = ap (λ s. has_slot u.grip.holds s) i.opened.slot ∙ work.held;
        past = work.drop.past;
      }

  -- all its pointers were gone over
  module _ (met : MetPages) (w : View) (row : IsRow found.slot met u w) where
    row_own : IsRow t met u w
    row_own = subst (λ n. IsRow n met u w) i.opened.slot row

    read_still : read_of w.reads at ≡ read_of u.reads at
    read_still =
        let over = i.opened.looks.over in
        let layout : u.layout ≡ v.layout = layout_over i.entered u over ∙ ap (λ (z : View). z.layout) i.inside.over.went in
        row_own.others at
        (λ s has. elim (in_cases s t (slots_in met) has) [
          | inl same ↦ subst (λ y. IsOutside u.layout.slots y at) same
              (subst (λ (l : Layout). IsOutside l.slots t at) (sym layout) (can.apart t i.inside.fresh))
          | inr low ↦ subst (λ (l : Layout). IsOutside l.slots s at) (sym layout)
              (can.apart s
              (or_false (eqb t s) (has_slot v.grip.holds s)
              (sym (ap (λ (z : View). has_slot z.grip.holds s) over.went ∙ ap (λ (g : Grip). has_slot g.holds s) i.inside.grip)
              ∙ row_own.fresh s low)))
        ])

    pub close_work : CanWork x sp at found.slot page found.word epoch w
    close_work =
        subst (λ n. CanWork x sp at n page found.word epoch w) (sym i.opened.slot)
        (subst (λ n. CanWork x sp at t page n epoch w) (sym i.opened.led)
        (work_over x sp at t page i.held.word epoch u w row_own.over row_own.known read_still
        (work_looked x sp at t page i.held.word epoch i.entered u i.opened.looks work_then)))

    pub close_opened : IsOpened found.slot sp page found.count w
    close_opened = opened_over found.slot page found.count sp u w go_inside.held row.over row.known opened_found
