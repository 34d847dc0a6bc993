-- A word of an owned slot's page is stored: no act of the machines, since nobody else looks there.
use Rattle.std.proofs.Common.{◌≡◌, ◌≢◌, inl, inr, ℕ, ◌*◌, ◌<◌, true, false}
use Rattle.std.proofs.Common.{true≢false, length, get_or, set, refl}
use Rattle.std.proofs.Common.{sym, ap, ◌∙◌, subst, arith}
use Rattle.lists.specs.Elements.{in_cases}
use Rattle.lists.specs.Fronts.{front_refl}
use Rattle.std.proofs.Common.{get_or-set_other, get_or-set_same}
use Rattle.commit_core.specs.declared.seat.Seat.{Seat}
use Rattle.commit_core.specs.CoreState.{last_marked}
use Rattle.commit_core.specs.Places.{place_of}
use Rattle.drop_core.specs.Sound.{IsLedSo}
use Rattle.drop_core.specs.declared.table.Led.TheVariants.{Never, From, Away}
use Rattle.engine_rule.specs.Sound.{IsSound}
use Rattle.engine_rule.specs.Stays.{Stays}
use Rattle.std.specs.List.{Contains}
use Rattle.atomic_table.specs.Table.{Me, Allows}
use Rattle.drop_core.specs.declared.grip.Grip.{Grip}
use Rattle.drop_core.specs.declared.table.Led.{Led}
use Rattle.drop_core.specs.declared.table.SlotState.{SlotState}
use Rattle.drop_core.specs.declared.table.SlotState.TheVariants.{Unused, Owned, Published as Shown, Retired}
use Rattle.drop_core.specs.declared.table.Table.{Table}
use Rattle.drop_core.specs.Event.{is_owned}
use Rattle.drop_core.specs.Table.{slot_of, page_of, has_slot, is_never}
use Rattle.engine_pages.specs.declared.layout.Layout.{Layout}
use Rattle.engine_pages.specs.declared.view.Draft.{Draft}
use Rattle.engine_pages.specs.declared.view.View.{View}
use Rattle.engine_pages.specs.Layout.{root_at, slot_at, page_at, snap_at}
use Rattle.engine_pages.specs.Rule.{joint_of, IsDraft, Shows}
use Rattle.engine_pages.specs.Slots.{HasFilled, filled, other_drafts}
use Rattle.engine_pages.specs.Views.{IsActive, seat_number}
use Rattle.engine_pages.specs.Words.{IsOverwritten, ShowsPage, ShowsTree, is_shown}
use Rattle.engine_pages.proofs.Dealing.{rests}
use Rattle.engine_pages.proofs.Joint.{stays_none}
use Rattle.engine_pages.proofs.Looking.{seen_fits}
use Rattle.engine_pages.proofs.Looks.{same_joint}
use Rattle.engine_pages.proofs.Named.{more_same}
use Rattle.engine_pages.proofs.Slotlists.{at_others}
use Rattle.engine_pages.proofs.SlotSteps.{own_pages, trees_same}
use Rattle.engine_pages.proofs.Words.{page_shown, tree_shown}
use Rattle.engine_pages.proofs.Joint.{Laws}
use Rattle.engine_pages.proofs.Seats.{by_equal, is_at, locked_known}
use Rattle.engine_pages.proofs.SlotFacts.{head_same, moved_same}
use Rattle.engine_pages.proofs.Turns.{allows_at, marks_stay, tried_goes, written}

owned_hidden : (state : SlotState) → is_owned state ≡ true → is_shown state ≡ false
owned_hidden Unused e = absurd (true≢false (sym e))
owned_hidden Owned e = refl
owned_hidden Shown e = absurd (true≢false (sym e))
owned_hidden Retired e = absurd (true≢false (sym e))

-- nothing has led to an owned slot
pub owned_never : (d : Table) (t : ℕ) (state : SlotState) (led : Led) → is_owned state ≡ true → IsLedSo d t state led
    → is_never led ≡ true
owned_never d t state Never own so = refl
owned_never d t state (From y) own so = absurd (true≢false (sym own ∙ ap is_owned so.0))
owned_never d t Unused Away own so = absurd (true≢false (sym own))
owned_never d t Owned Away own so = absurd (true≢false (sym so))
owned_never d t Shown Away own so = absurd (true≢false (sym own))
owned_never d t Retired Away own so = absurd (true≢false (sym own))

pub fills : Laws → (l : Layout) (slots id : ℕ) (me : Me (Unit {0}) View) (x : Draft) (i value : ℕ) → IsActive me.0.role
    → Contains me.0.drafts x → i < 64 → length x.words ≡ 64
    → Allows (λ s. Shows l s.words s.views) slots id me (page_at l.slots x.slot i) (λ _. value)
    (λ _ now. (now.1 ≡ me.1) × (now.0 ≡ filled x i value me.0))
fills laws l slots id me x i value active has few long =
    allows_at laws l slots id me (page_at l.slots x.slot i) (λ _. value) (λ v _ w. w ≡ filled x i value v) active
    (λ words views s b.
    let v = me.0 in
    let m = s.story in
    let d = s.table in
    let h = b.sound in
    let p = seat_number v.role in
    let t = x.slot in
    let at = page_at l.slots t i in
    let w = filled x i value v in
    let draft = b.pages.drafts x has in
    let wr = written words at value (let all = h.shown.long in let low = draft.slot in omega arith) in
    let decls = h.few.1 in
    let words' = set words at value in
    let joint = same_joint l s p w b.own.seat b.grip in
    let low = draft.slot in
    let hidden : is_shown (slot_of d t).state ≡ false = owned_hidden (slot_of d t).state draft.owned in
    let never : is_never (slot_of d t).led ≡ true =
    owned_never d t (slot_of d t).state (slot_of d t).led draft.owned (h.joint.pages.table.holds_counted.led t) in
    let known : (u : ℕ) → is_never (slot_of d u).led ≡ false → u ≢ t = λ u led is.
    true≢false (sym never ∙ ap (λ k. is_never (slot_of d k).led) (sym is) ∙ led) in
    let page : (u j : ℕ) → j < 64 → u ≢ t → get_or words' (page_at l.slots u j) 0 ≡ get_or words (page_at l.slots u j) 0 =
    λ u j less other. wr.others (page_at l.slots u j) (λ q. other (omega arith)) in
    let made : has_slot (s.grips p).made t ≡ true = subst (λ (g : Grip). has_slot g.made t ≡ true) b.grip draft.made in
    record {
      story = m;
      table = d;
      trees = s.trees;
      resident = s.resident;
      view = w;
      sound = subst IsSound (sym joint) h.joint;
      stays = subst (Stays p (joint_of l s)) (sym joint) (stays_none p (joint_of l s));
      trees-stay = trees_same p s;
      turn = record {
        small = h.small;
        valued = h.valued;
        shown = record {
          long = wr.long ∙ h.shown.long;
          clock = wr.others 0 (λ q. omega arith) ∙ h.shown.clock;
          decisions = wr.others 1 (λ q. omega arith) ∙ h.shown.decisions;
          published = wr.others 26 (λ q. omega arith) ∙ h.shown.published;
          unused = λ j from to other. wr.others j (λ q. omega arith) ∙ h.shown.unused j from to other;
          roots = λ k less.
              let was = h.shown.roots k less in record {
                number = was.number;
                word = wr.others (root_at k) (λ q. omega arith) ∙ was.word;
                page = was.page;
                slot = was.slot;
                named = was.named;
                keepers = was.keepers;
              };
          slots = λ u less.
              let was = h.shown.slots u less in
              record { word = wr.others (slot_at u) (λ q. omega arith) ∙ was.word; times = was.times };
          pages = λ u less now none. by_equal u t (λ k. is_shown (slot_of d k).state ≡ true → k ≡ u
              → ShowsPage s.resident.places words' l.slots k (place_of m.places) d (page_of d k))
              (λ shown is. absurd (true≢false (sym shown ∙ hidden)))
              (λ other shown _.
              page_shown s.resident.places words words' l.slots u (place_of m.places) (place_of m.places) d d (page_of d u)
              (λ j low. page u j low other) (λ j. refl) (λ j. refl) (h.shown.pages u less now none)) now refl;
          treed = λ u f less now tree. by_equal u t (λ k. is_shown (slot_of d k).state ≡ true → k ≡ u
              → ShowsTree s.resident.places words' l.slots k f (IsOverwritten m) (place_of m.places) d (page_of d k))
              (λ shown is. absurd (true≢false (sym shown ∙ hidden)))
              (λ other shown _.
              tree_shown s.resident.places words words' l.slots u f (IsOverwritten m) (IsOverwritten m) (place_of m.places)
              (place_of m.places) d d (page_of d u)
              (λ j low. page u j low other) (λ j. refl) (λ k n over. over) (λ j. refl) refl (h.shown.treed u f less now tree)) now refl;
          resident = λ n j some most less.
              wr.others (snap_at l.slots n j) (λ q. omega arith) ∙ h.shown.resident n j some most less;
        };
        marks = marks_stay words words' s.seats p v.seat w.seat h.marks b.own.seat refl
            (λ j lo hi. wr.others j (λ q. absurd (omega arith)));
        marked = λ place mark has. has;
        marks_low = subst (λ (z : Seat). last_marked z.marks < m.epoch) (sym b.own.seat) (h.marked p);
        drawn = λ a has. inl has;
        tried = tried_goes m m s.seats p v.seat w.seat b.own.seat refl refl refl (inl refl) h.tried;
        fits = seen_fits l m s.seats v w active b.fits refl refl refl refl refl refl refl refl refl refl refl b.fits.loaded refl refl
            b.fits.versions (front_refl v.history) (front_refl v.decided) b.fits.history b.fits.decided;
        role = refl;
        made = refl;
        mine = λ k. refl;
        drew = refl;
        few = omega arith;
        room = omega (arith, h.sums.room);
        deals = rests l words views s id v b words' w
            record { role = refl; ways = refl; took = refl; gone = refl; touched = refl; blamed = refl; locks = refl } refl
            (λ k y j r.
            let word : j ≡ page_at l.slots y.slot (2 * y.index) = r.word in
            let index : y.index < 32 = r.index in
            wr.others j (λ e. known y.slot r.known (omega arith)));
        slots = refl;
        within = h.within;
        more = more_same s.resident;
        unpublished = λ other. refl;
        named = h.named;
        laid_out = h.laid_out;
        pages = own_pages l words words' s m d s.trees s.resident v w active refl refl b.pages record {
          within = b.pages.within;
          ways = b.pages.ways;
          drafts = λ z there. elim (in_cases z (record x { words = set x.words i value }) (other_drafts t v.drafts) there) [
            | inl new ↦ subst (IsDraft words' l.slots d v.grip.made) new record {
              slot = draft.slot;
              made = draft.made;
              owned = draft.owned;
              header = draft.header;
              is = λ j less. by_equal j i (λ k. k ≡ j → get_or words' (page_at l.slots t k) 0 ≡ get_or (set x.words i value) k 0)
                  (λ _. wr.here ∙ sym (get_or-set_same x.words i value 0 (let a = long in omega arith)))
                  (λ other _. wr.others (page_at l.slots t j) (λ q. other (omega arith)) ∙ (draft.is j less ∙ sym (get_or-set_other x.words i j value 0 other))) refl;
            }
            | inr old ↦
                let o = at_others (λ (k : Draft). k.slot) t v.drafts z old in
                let was = b.pages.drafts z o.0 in record {
                  slot = was.slot;
                  made = was.made;
                  owned = was.owned;
                  header = was.header;
                  is = λ j less. page z.slot j less o.1 ∙ was.is j less;
                }
          ];
          copies = b.pages.copies;
          blanks = b.pages.blanks;
          resident = b.pages.resident;
          leads = b.pages.leads;
          fills = λ z has.
              let was = b.pages.fills z has in (
                was.0,
                record {
                  above = was.1.above;
                  within = was.1.within;
                  is = λ j less. wr.others (snap_at l.slots z.page j) (λ q. omega arith) ∙ was.1.is j less;
                },
              );
          known = b.pages.treed.known;
          shuts = b.pages.shuts p (is_at v.role active);
          heads = λ z has.
              let was = b.pages.treed.heads p (is_at v.role active) z has in
              head_same l words words' s.trees d d p z refl refl
              (λ j less. page z.slot j less (known z.slot (locked_known l s z.slot p h.joint was.locked))) was;
          moved = λ z has.
              let was = b.pages.treed.moved z has in
              moved_same l words words' s.trees d d v.grip.holds v.grip.holds z was.held refl refl
              (λ j less. page z.slot j less (known z.slot was.known)) was;
          sealed = b.pages.treed.sealed p (is_at v.role active);
          inners = b.pages.treed.inners;
          new_leaves = b.pages.treed.new_leaves;
          new_inners = b.pages.treed.new_inners;
        };
        frame = record {
          drafts = λ u less unmade owned j low.
              page u j low (λ q. true≢false (sym made ∙ ap (has_slot (s.grips p).made) (sym q) ∙ unmade));
          spare = λ u o keys less led held other leaf j low is. page u j low (known u led);
          twins = λ u less led split j from to. page u j (omega arith) (known u led);
          fills = λ other n j some low. wr.others (snap_at l.slots n j) (λ q. omega arith);
        };
      };
      tells-so = refl;
    })

-- the same, with the draft named by its slot
pub fills_any : Laws → (l : Layout) (slots id : ℕ) (me : Me (Unit {0}) View) (x : Draft) (t i at value : ℕ)
    → IsActive me.0.role → Contains me.0.drafts x → x.slot ≡ t → at ≡ page_at l.slots t i → i < 64 → length x.words ≡ 64
    → Allows (λ s. Shows l s.words s.views) slots id me at (λ _. value)
    (λ _ now. (now.1 ≡ me.1) × HasFilled t i value me.0 now.0)
fills_any laws l slots id me x t i at value active has named is few long =
    subst
    (λ (a : ℕ). Allows (λ s. Shows l s.words s.views) slots id me a (λ _. value) (λ _ now. (now.1 ≡ me.1) × HasFilled t i value me.0 now.0))
    (ap (λ (u : ℕ). page_at l.slots u i) named ∙ sym is)
    (λ s h homes there below.
    let r = fills laws l slots id me x i value active has few long s h homes there below in
    (r.0, r.1, r.2, r.3, (r.4.0, (x, has, named, r.4.1))))
