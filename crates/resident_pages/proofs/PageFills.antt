-- The keeper stores a word of a page that is not published: no act of the machines, since nobody else looks there.
use Rattle.std.proofs.Common.{◌≡◌, inl, inr, ℕ, ◌*◌, ◌<◌, ◌≤◌, length, get_or, set, refl, sym, ap, ◌∙◌, subst}
use Rattle.std.proofs.Common.{arith, get_or-set_other, get_or-set_same}
use Rattle.std.specs.List.{Contains}
use Rattle.atomic_table.specs.Table.{Me, Allows}
use Rattle.lists.specs.Elements.{in_cases}
use Rattle.lists.specs.Fronts.{front_refl}
use Rattle.commit_core.specs.declared.seat.Seat.{Seat}
use Rattle.commit_core.specs.CoreState.{last_marked}
use Rattle.commit_core.specs.Places.{place_of}
use Rattle.drop_core.specs.Table.{page_of}
use Rattle.engine_rule.specs.Sound.{IsSound}
use Rattle.engine_rule.specs.Stays.{Stays}
use Rattle.engine_pages.specs.declared.layout.Layout.{Layout}
use Rattle.engine_pages.specs.declared.view.Filled.{Filled}
use Rattle.engine_pages.specs.declared.view.Role.TheVariants.{Keeper}
use Rattle.engine_pages.specs.declared.view.View.{View}
use Rattle.engine_pages.specs.Layout.{root_at, slot_at, page_at, snap_at}
use Rattle.engine_pages.specs.Rule.{joint_of, IsFilled, Shows}
use Rattle.engine_pages.specs.Views.{IsActive, seat_number}
use Rattle.engine_pages.specs.Words.{IsOverwritten}
use Rattle.engine_pages.proofs.Dealing.{rests}
use Rattle.engine_pages.proofs.Joint.{Laws, stays_none}
use Rattle.engine_pages.proofs.Looking.{seen_fits}
use Rattle.engine_pages.proofs.Looks.{same_joint}
use Rattle.engine_pages.proofs.Named.{more_same}
use Rattle.engine_pages.proofs.Seats.{by_equal, is_at}
use Rattle.engine_pages.proofs.SlotFacts.{head_same, moved_same}
use Rattle.engine_pages.proofs.Slotlists.{at_others}
use Rattle.engine_pages.proofs.SlotSteps.{own_pages, trees_same}
use Rattle.engine_pages.proofs.Turns.{allows_at, marks_stay, tried_goes, written}
use Rattle.engine_pages.proofs.Words.{page_shown, tree_shown}
use Rattle.resident_pages.specs.Fills.{HasFilledPage, filled_page, other_fills}

pub fills_page : Laws → (l : Layout) (slots id : ℕ) (me : Me (Unit {0}) View) (x : Filled) (i value : ℕ)
    → IsActive me.0.role → Contains me.0.fills x → i < 64 → length x.words ≡ 64
    → Allows (λ s. Shows l s.words s.views) slots id me (snap_at l.slots x.page i) (λ _. value)
    (λ _ now. (now.1 ≡ me.1) × (now.0 ≡ filled_page x i value me.0))
fills_page laws l slots id me x i value active has few long =
    allows_at laws l slots id me (snap_at l.slots x.page i) (λ _. value) (λ v _ w. w ≡ filled_page x i value v) active
    (λ words views s b.
    let v = me.0 in
    let m = s.story in
    let d = s.table in
    let h = b.sound in
    let p = seat_number v.role in
    let n = x.page in
    let at = snap_at l.slots n i in
    let w = filled_page x i value v in
    let own = b.pages.fills x has in
    let keeper : v.role ≡ Keeper = own.0 in
    let above : length s.resident.pages < n = own.1.above in
    let within : n ≤ l.resident = own.1.within in
    let wr = written words at value (let all = h.shown.long in omega arith) in
    let decls = h.few.1 in
    let words' = set words at value in
    let joint = same_joint l s p w b.own.seat b.grip in
    let page : (u j : ℕ) → u < l.slots → j < 64
    → get_or words' (page_at l.slots u j) 0 ≡ get_or words (page_at l.slots u j) 0 =
    λ u j low less. wr.others (page_at l.slots u j) (λ q. omega arith) in
    record {
      story = m;
      table = d;
      trees = s.trees;
      resident = s.resident;
      view = w;
      sound = subst IsSound (sym joint) h.joint;
      stays = subst (Stays p (joint_of l s)) (sym joint) (stays_none p (joint_of l s));
      trees-stay = trees_same p s;
      turn = record {
        small = h.small;
        valued = h.valued;
        shown = record {
          long = wr.long ∙ h.shown.long;
          clock = wr.others 0 (λ q. omega arith) ∙ h.shown.clock;
          decisions = wr.others 1 (λ q. omega arith) ∙ h.shown.decisions;
          published = wr.others 26 (λ q. omega arith) ∙ h.shown.published;
          unused = λ j from to other. wr.others j (λ q. omega arith) ∙ h.shown.unused j from to other;
          roots = λ k less.
              let was = h.shown.roots k less in record {
                number = was.number;
                word = wr.others (root_at k) (λ q. omega arith) ∙ was.word;
                page = was.page;
                slot = was.slot;
                named = was.named;
                keepers = was.keepers;
              };
          slots = λ u less.
              let was = h.shown.slots u less in
              record { word = wr.others (slot_at u) (λ q. omega arith) ∙ was.word; times = was.times };
          pages = λ u less now none.
              page_shown s.resident.places words words' l.slots u (place_of m.places) (place_of m.places) d d (page_of d u)
              (λ j low. page u j less low) (λ j. refl) (λ j. refl) (h.shown.pages u less now none);
          treed = λ u f less now tree.
              tree_shown s.resident.places words words' l.slots u f (IsOverwritten m) (IsOverwritten m) (place_of m.places)
              (place_of m.places) d d (page_of d u)
              (λ j low. page u j less low) (λ j. refl) (λ k i over. over) (λ j. refl) refl (h.shown.treed u f less now tree);
          resident = λ k j some most less.
              wr.others (snap_at l.slots k j) (λ q. omega arith) ∙ h.shown.resident k j some most less;
        };
        marks = marks_stay words words' s.seats p v.seat w.seat h.marks b.own.seat refl
            (λ j lo hi. wr.others j (λ q. absurd (omega arith)));
        marked = λ place mark has. has;
        marks_low = subst (λ (z : Seat). last_marked z.marks < m.epoch) (sym b.own.seat) (h.marked p);
        drawn = λ a has. inl has;
        tried = tried_goes m m s.seats p v.seat w.seat b.own.seat refl refl refl (inl refl) h.tried;
        fits = seen_fits l m s.seats v w active b.fits refl refl refl refl refl refl refl refl refl refl refl b.fits.loaded refl refl
            b.fits.versions (front_refl v.history) (front_refl v.decided) b.fits.history b.fits.decided;
        role = refl;
        made = refl;
        mine = λ k. refl;
        drew = refl;
        few = omega arith;
        room = omega (arith, h.sums.room);
        deals = rests l words views s id v b words' w
            record { role = refl; ways = refl; took = refl; gone = refl; touched = refl; blamed = refl; locks = refl } refl
            (λ k y j r.
            let low : y.slot < l.slots = r.within in
            let word : j ≡ page_at l.slots y.slot (2 * y.index) = r.word in
            let index : y.index < 32 = r.index in
            wr.others j (λ e. omega arith));
        slots = refl;
        within = h.within;
        more = more_same s.resident;
        unpublished = λ other. refl;
        named = h.named;
        laid_out = h.laid_out;
        pages = own_pages l words words' s m d s.trees s.resident v w active refl refl b.pages record {
          within = b.pages.within;
          ways = b.pages.ways;
          drafts = λ z there.
              let was = b.pages.drafts z there in record {
                slot = was.slot;
                made = was.made;
                owned = was.owned;
                header = was.header;
                is = λ j less. page z.slot j was.slot less ∙ was.is j less;
              };
          copies = b.pages.copies;
          blanks = b.pages.blanks;
          resident = b.pages.resident;
          leads = b.pages.leads;
          fills = λ z there. elim (in_cases z (record x { words = set x.words i value }) (other_fills n v.fills) there) [
            | inl new ↦ subst (λ (y : Filled). (v.role ≡ Keeper) × IsFilled l words' s.resident y) new (
              keeper,
              record {
                above = above;
                within = within;
                is = λ j less. by_equal j i (λ k. k ≡ j → get_or words' (snap_at l.slots n k) 0 ≡ get_or (set x.words i value) k 0)
                    (λ _. wr.here ∙ sym (get_or-set_same x.words i value 0 (let a = long in omega arith)))
                    (λ other _. wr.others (snap_at l.slots n j) (λ q. other (omega arith)) ∙ (own.1.is j less ∙ sym (get_or-set_other x.words i j value 0 other))) refl;
              },
            )
            | inr old ↦
                let o = at_others (λ (k : Filled). k.page) n v.fills z old in
                let was = b.pages.fills z o.0 in
                let top : length s.resident.pages < z.page = was.1.above in (
                  was.0,
                  record {
                    above = top;
                    within = was.1.within;
                    is = λ j less. wr.others (snap_at l.slots z.page j) (λ q. o.1 (omega arith)) ∙ was.1.is j less;
                  },
                )
          ];
          known = b.pages.treed.known;
          shuts = b.pages.shuts p (is_at v.role active);
          heads = λ z has.
              let was = b.pages.treed.heads p (is_at v.role active) z has in
              head_same l words words' s.trees d d p z refl refl
              (λ j less. page z.slot j was.within less) was;
          moved = λ z has.
              let was = b.pages.treed.moved z has in
              moved_same l words words' s.trees d d v.grip.holds v.grip.holds z was.held refl refl
              (λ j less. page z.slot j was.within less) was;
          sealed = b.pages.treed.sealed p (is_at v.role active);
          inners = b.pages.treed.inners;
          new_leaves = b.pages.treed.new_leaves;
          new_inners = b.pages.treed.new_inners;
        };
        frame = record {
          drafts = λ u less unmade owned j low. page u j less low;
          spare = λ u o keys less led held other leaf j low is. page u j less low;
          twins = λ u less led split j from to. page u j less (omega arith);
          fills = λ other k j some low. absurd (other (ap seat_number keeper));
        };
      };
      tells-so = refl;
    })

-- the same, with the page named by its number
pub fills_page_any : Laws → (l : Layout) (slots id : ℕ) (me : Me (Unit {0}) View) (x : Filled) (n i at value : ℕ)
    → IsActive me.0.role → Contains me.0.fills x → x.page ≡ n → at ≡ snap_at l.slots n i → i < 64 → length x.words ≡ 64
    → Allows (λ s. Shows l s.words s.views) slots id me at (λ _. value)
    (λ _ now. (now.1 ≡ me.1) × HasFilledPage n i value me.0 now.0)
fills_page_any laws l slots id me x n i at value active has named is few long =
    subst
    (λ (a : ℕ). Allows (λ s. Shows l s.words s.views) slots id me a (λ _. value) (λ _ now. (now.1 ≡ me.1) × HasFilledPage n i value me.0 now.0))
    (ap (λ (u : ℕ). snap_at l.slots u i) named ∙ sym is)
    (λ s h homes there below.
    let r = fills_page laws l slots id me x i value active has few long s h homes there below in
    (r.0, r.1, r.2, r.3, (r.4.0, (x, has, named, r.4.1))))
