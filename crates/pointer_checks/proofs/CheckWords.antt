-- A check of a word that an attempt read, other than a record's: a load, whose whole word decides.
use Rattle.std.proofs.Common.{◌≡◌, inl, inr, ℕ, ◌<◌, Bool, true, false, true≢false, cond, not, List, [], ◌∷◌, ◌++◌, get_or, set, refl, sym}
use Rattle.std.proofs.Common.{ap, ◌∙◌, subst, arith, Option, Some, None}
use Rattle.std.specs.Prelude.{◌&&◌, ◌||◌}
use Rattle.std.specs.List.{Contains, slice_get, list_all, list_any}
use Rattle.std.specs.Option.{option_map_or}
use Rattle.std.proofs.lemmas.Bool.{and_from, cases_Bool}
use Rattle.std.proofs.lemmas.List.{append-nil}
use Rattle.lists.specs.Elements.{in_head, in_tail, any_in, any_push_new}
use Rattle.serial_model.specs.declared.key.Key.{Key}
use Rattle.serial_model.specs.declared.number.Number.{Number}
use Rattle.homes.specs.Homes.{has_key}
use Rattle.commit_core.specs.declared.attempt.Attempt.{Attempt}
use Rattle.commit_core.specs.declared.attempt.Check.{Check}
use Rattle.commit_core.specs.declared.event.Act.TheVariants.{Confirm}
use Rattle.commit_core.specs.declared.part.Part.{Part}
use Rattle.commit_core.specs.declared.part.Version.{Version}
use Rattle.commit_core.specs.declared.part.Word.{Word}
use Rattle.commit_core.specs.declared.seat.Mark.{Mark}
use Rattle.commit_core.specs.declared.seat.Seat.{Seat}
use Rattle.commit_core.specs.declared.seat.Stage.TheVariants.{Ended, Trying}
use Rattle.commit_core.specs.declared.story.Story.{Story}
use Rattle.commit_core.specs.CoreState.{attempt_tried, check_of, is_checked, is_decided, is_given_up, is_in_progress, is_trying, last_marked}
use Rattle.commit_core.specs.Event.{effect as commit_effect, is_allowed as commit_allows, after_check, ended_check, is_unchecked}
use Rattle.commit_core.specs.Keys.{same_number}
use Rattle.commit_core.specs.Lemmas.Keys.{same_number-self, same_word-self}
use Rattle.commit_core.specs.Opening.{Grows}
use Rattle.commit_core.specs.Parts.{is_record, same_word}
use Rattle.drop_core.specs.declared.grip.Grip.{Grip}
use Rattle.drop_core.specs.Event.{turned}
use Rattle.drop_core.specs.Table.{has_slot}
use Rattle.engine_rule.specs.declared.event.JointAct.{JointAct}
use Rattle.engine_rule.specs.Event.{joined}
use Rattle.engine_pages.specs.declared.layout.Layout.{Layout}
use Rattle.engine_pages.specs.declared.view.View.{View}
use Rattle.engine_pages.specs.declared.view.Way.{Way}
use Rattle.engine_pages.specs.Layout.{page_at}
use Rattle.engine_pages.specs.Rule.{Shared, IsTrying, KeptAreRecords, KeptIsLow, Tried, has_word}
use Rattle.engine_pages.specs.Steps.{kept_at, read_at, seen_at}
use Rattle.engine_pages.specs.Views.{IsActive, seat_number, tries}
use Rattle.engine_pages.specs.Words.{ShowsWords}
use Rattle.engine_pages.proofs.Dealing.{SameLocks, meets}
use Rattle.engine_pages.proofs.Facing.{Deals, IsNoted}
use Rattle.engine_pages.proofs.Joint.{Laws, effect_of, may_do, shared_now}
use Rattle.engine_pages.proofs.OwnView.{own_fits, part_goes}
use Rattle.engine_pages.proofs.PagesStay.{words_same}
use Rattle.engine_pages.proofs.Seats.{at_front, is_at, past_stays, records_none}
use Rattle.engine_pages.proofs.SlotSteps.{PagesNow}
use Rattle.engine_pages.proofs.Turns.{Stride, Begins, marks_stay, tried_goes, unwritten}
use Rattle.dual_pointer.proofs.Acts.{act_stride}
use Rattle.page_records.specs.Attempts.{failed_at}
use Rattle.page_records.proofs.Placing.{low_none}
use Rattle.page_records.proofs.Settling.{settled_trying, settled_tried, settled_marks, settled_kept, settled_locks}
use Rattle.page_records.proofs.Trying.{attempt_here, never_idle, tried_at, tried_over}

-- the part of the word is checked
abbrev pub word_checked : Word → ℕ → ℕ → View → View
word_checked x at n v = record (read_at at n v) { checked = v.checked ++ x ∷ []; loaded = None }

-- The attempt in progress has a part of the word, with this version in each, and has not checked it.
pub record Tries (v : View) (x : Word) (version : Version) : Type 0 where
  pub index : ℕ
  pub attempt : Attempt
  pub stage : v.seat.stage ≡ Trying index
  pub stands : slice_get v.history index ≡ Some attempt
  pub part : Part
  pub has : Contains attempt.parts part
  pub of : part.word ≡ x
  pub one : (q : Part) → Contains attempt.parts q → same_word q.word x ≡ true → q.version ≡ version
  pub unchecked : has_word v.checked x ≡ false

-- whether the attempt in progress finds the word as it read it, where this decides of a version
abbrev pub told_of : Word → (Version → Bool) → Story → Seat → Bool
told_of x so m y =
    option_map_or (λ a. list_all (λ part. not (same_word part.word x) || so part.version) a.parts) (attempt_tried m.history y.stage) false

-- ---- the parts of one word are one

all_of_word : (w : Word) (f : Part → Bool) (b : Bool) (xs : List Part) → list_any (λ part. same_word part.word w) xs ≡ true
    → ((part : Part) → Contains xs part → same_word part.word w ≡ true → f part ≡ b)
    → list_all (λ part. not (same_word part.word w) || f part) xs ≡ b
all_of_word w f b xs has each = all_given xs each ∙ ap (λ y. not y || b) has
  where
    all_given : (xs : List Part) → ((part : Part) → Contains xs part → same_word part.word w ≡ true → f part ≡ b)
        → list_all (λ part. not (same_word part.word w) || f part) xs
        ≡ (not (list_any (λ part. same_word part.word w) xs) || b)
    all_given [] each = refl
    all_given (y ∷ xs) each =
        let rest = all_given xs (λ z has. each z (in_tail z y xs has)) in
        elim (cases_Bool (same_word y.word w)) [
          | inl hit ↦ let here = each y (in_head y xs) hit in grind arith
          | inr miss ↦ grind arith
        ]

-- one more at the end
any_push : {A : Type 0} (f : A → Bool) (xs : List A) (y : A) → list_any f (xs ++ y ∷ []) ≡ (list_any f xs || f y)
any_push f [] y = grind (arith)
any_push f (x ∷ xs) y = rw (any_push f xs y) (grind (arith))

exact_push : (checks : List Check) (checked : List Word) (n : Number) (w : Word)
    → ((x : Word) → is_checked checks n x ≡ has_word checked x) → (x : Word)
    → is_checked (checks ++ check_of n w ∷ []) n x ≡ has_word (checked ++ w ∷ []) x
exact_push checks checked n w h x =
    any_push (λ c. same_number c.number n && same_word c.word x) checks (check_of n w)
    ∙ (ap (λ b. list_any (λ c. same_number c.number n && same_word c.word x) checks || (b && same_word w x))
    (same_number-self n)
    ∙ (ap (λ b. b || same_word w x) (h x) ∙ sym (any_push (λ q. same_word q x) checked w)))

-- an attempt that is given up is in progress no more
over_given : (decided given_up : List Number) (n : Number) → is_in_progress decided (given_up ++ n ∷ []) n ≡ true → ⊥
over_given decided given_up n now =
    let given : is_given_up (given_up ++ n ∷ []) n ≡ true =
    any_push_new (λ (y : Number). same_number y n) given_up n (same_number-self n) in
    true≢false (sym now ∙ (ap (λ b. not (is_decided decided n || b)) given ∙ ends (is_decided decided n)))
  where
    ends : (b : Bool) → not (b || true) ≡ false
    ends true = refl
    ends false = refl

-- ---- the step

module _ (laws : Laws) (l : Layout) (words : List ℕ) (views : List View) (s : Shared) (id : ℕ) (v : View)
    (active : IsActive v.role) (g : Begins l words views s id v) (x : Word) (act : JointAct) (so : Version → Bool)
    (version : Version) (at : ℕ) (c : Tries v x version) where
  abbrev p : ℕ
  p = seat_number v.role

  abbrev m : Story
  m = s.story

  abbrev a : Attempt
  a = c.attempt

  abbrev n : ℕ
  n = get_or words at 0

  -- the act tells the commit machine what decides; the word is one of a page that the pass has a way to, or of no page
  pub record Confirms : Type 0 where
    pub allowed : may_do s p act ≡ commit_allows p m (s.seats p) (Confirm x (told_of x so m (s.seats p)))
    pub effect : effect_of s p act ≡ joined (commit_effect p m (s.seats p) (Confirm x (told_of x so m (s.seats p)))) (turned s.table (s.grips p))
    pub plain : is_record x ≡ false
    pub page : (u i : ℕ) → u < l.slots → i < 64 → at ≡ page_at l.slots u i → has_slot v.gone u ≡ false
        → (y : Way) × Contains v.ways y × (y.slot ≡ u)

  here : slice_get m.history c.index ≡ Some a
  here = at_front v.history m.history c.index a g.fits.history c.stands

  trying : IsTrying p v.history m.checks v.checked v.mine c.index a
  trying = tried_at p v.history m.checks v.checked v.mine v.seat.stage c.index a c.stage c.stands g.own.tried

  tried : attempt_tried m.history v.seat.stage ≡ Some a
  tried = attempt_here v.history m.history v.seat.stage c.index a c.stage c.stands g.fits.history

  has-part : list_any (λ part. same_word part.word x) a.parts ≡ true
  has-part =
      any_in (λ (part : Part). same_word part.word x) a.parts c.part c.has
      (ap (λ (w : Word). same_word w x) c.of ∙ same_word-self x)

  unchecked : is_unchecked m.checks x a ≡ true
  unchecked =
      and_from (list_any (λ part. same_word part.word x) a.parts) (not (is_checked m.checks a.number x)) has-part
      (ap not (trying.exact x ∙ c.unchecked))

  -- what the machine's check comes to
  comes : (b : Bool) → so version ≡ b → Confirms
      → effect_of s p act ≡ joined (ended_check (check_of a.number x) b m v.seat) (turned s.table v.grip)
  comes b decides k =
      k.effect
      ∙ (ap (λ (y : Seat). joined (after_check x (λ _. told_of x so m y) m y (attempt_tried m.history y.stage)) (turned s.table (s.grips p)))
      (sym g.own.seat)
      ∙ (ap (λ (y : Grip). joined (after_check x (λ _. told_of x so m v.seat) m v.seat (attempt_tried m.history v.seat.stage)) (turned s.table y))
      (sym g.grip)
      ∙ (ap (λ (o : Option Attempt). joined (after_check x (λ _. option_map_or (λ (y : Attempt). list_all (λ part. not (same_word part.word x) || so part.version) y.parts) o false) m v.seat o) (turned s.table v.grip))
      tried
      ∙ ap (λ (z : Bool). joined (ended_check (check_of a.number x) z m v.seat) (turned s.table v.grip))
      (all_of_word x (λ part. so part.version) b a.parts has-part
      (λ part in-parts word-is. ap so (c.one part in-parts word-is) ∙ decides)))))

  may : Confirms → may_do s p act ≡ true
  may k =
      k.allowed
      ∙ and_from (option_map_or (is_unchecked m.checks x) (attempt_tried m.history (s.seats p).stage) false) (not (is_record x))
      (ap (λ (y : Seat). option_map_or (is_unchecked m.checks x) (attempt_tried m.history y.stage) false) (sym g.own.seat)
      ∙ (ap (λ (o : Option Attempt). option_map_or (is_unchecked m.checks x) o false) tried ∙ unchecked))
      (ap not k.plain)

  -- the words that are shown, of a story that differs in checks or in what was given up
  still : ShowsWords l (set words at (get_or words at 0)) m s.table s.trees s.resident
  still = subst (λ (z : List ℕ). ShowsWords l z m s.table s.trees s.resident) (sym (unwritten words at)) g.sound.shown

  -- who is in the way
  deals : Confirms → (w : View) → SameLocks v w → IsNoted v.reads w.reads at n → Deals l words (set words at n) s p views v w
  deals k w same note =
      subst (λ (z : List ℕ). Deals l words z s p views v w) (sym (unwritten words at))
      (meets l words views s id v g w at same note
      k.page)

  pub checked_stride : so version ≡ true → Confirms → (tells : View → ℕ → View → Type 0)
      → tells v n (word_checked x at n v)
      → Stride l words views s p v at (λ k. k) tells
  checked_stride decides k tells tells-so =
      let h = g.sound in
      let f = g.fits in
      let own = g.own in
      let words' : List ℕ = set words at n in
      let next : Story = record m { checks = m.checks ++ check_of a.number x ∷ [] } in
      let w = word_checked x at n v in
      let same = unwritten words at in
      act_stride laws l words views s id v active g at (λ k. k) act next w tells record {
        may = may k;
        comes = comes true decides k;
        role = refl;
        made = refl;
        small = record { first = h.small.first; drawn = h.small.drawn; clock = h.small.clock };
        valued = h.valued;
        shown = let was = still in record { long = was.long; clock = was.clock; decisions = was.decisions; published = was.published; unused = was.unused; roots = was.roots; slots = was.slots; pages = was.pages; treed = was.treed; resident = was.resident };
        marks = marks_stay words words' s.seats p v.seat w.seat h.marks own.seat refl
            (λ j lo hi. ap (λ y. get_or y j 0) same);
        marked = λ place mark has. has;
        marks_low = subst (λ (z : Seat). last_marked z.marks < m.epoch) (sym own.seat) (h.marked p);
        drawn = λ b has. inl has;
        tried = tried_goes m next s.seats p v.seat w.seat own.seat refl refl refl (inl refl) h.tried;
        fits = own_fits l m next s.seats v w active f f.part refl refl refl refl refl (λ place mark has. has) record {
          history = f.history;
          decided = f.decided;
          heard = f.heard;
          mine = f.mine;
          mine_own = f.mine_own;
          records = f.records;
          kept = f.kept;
          versions = f.versions;
          loaded = tt;
          tried = subst (Tried p v.history next.checks w.checked v.mine) (sym c.stage) (
            a,
            record {
              at = c.stands;
              own = trying.own;
              exact = exact_push m.checks v.checked a.number x trying.exact;
              above = trying.above;
            },
          );
          took = λ t has. let held = own.took t has in (
            held.0,
            record { spot = held.1.spot; home = held.1.home; own = held.1.own; absent = held.1.absent; bit = held.1.bit; number = held.1.number },
          );
          locked = own.locked;
          low = f.low;
          epoch = λ keeper. (f.keepers keeper).epoch;
          past = λ keeper. let was = (f.keepers keeper).past in record { clock = was.clock; tried = was.tried };
        };
        mine = λ z. refl;
        drew = refl;
        few = omega arith;
        room = omega (arith, h.sums.room);
        now = subst (λ (z : List ℕ). PagesNow l z (shared_now s p next s.table s.trees s.resident w) w) (sym same) record {
          within = g.pages.within;
          ways = g.pages.ways;
          drafts = g.pages.drafts;
          copies = λ z has. let was = g.pages.copies z has in (
            was.0,
            record { slot = was.1.slot; made = was.1.made; state = was.1.state; over = was.1.over; page = was.1.page; exact = was.1.exact; records = was.1.records; pointers = was.1.pointers },
          );
          blanks = g.pages.blanks;
          resident = g.pages.resident;
          leads = g.pages.leads;
          fills = g.pages.fills;
          known = g.pages.treed.known;
          heads = g.pages.treed.heads p (is_at v.role active);
          moved = g.pages.treed.moved;
          sealed = g.pages.treed.sealed p (is_at v.role active);
          inners = g.pages.treed.inners;
          new_leaves = λ z has. let was = g.pages.treed.new_leaves z has in
              record { slot = was.slot; made = was.made; state = was.state; kind = was.kind; header = was.header; page = was.page; there = was.there; each = was.each; records = was.records };
          new_inners = g.pages.treed.new_inners;
          shuts = g.pages.shuts p (is_at v.role active);
        };
        frame = words_same l words words' s p (λ j low. ap (λ (z : List ℕ). get_or z j 0) same);
        deals = deals k w record { role = refl; ways = refl; took = refl; gone = refl; touched = refl; blamed = refl; locks = refl } record {
          new = record { word = at; seen = n; was = seen_at v.reads at; kept = kept_at v.reads at };
          word = refl;
          seen = refl;
          was = refl;
          is = refl;
        };
      } tells-so

  pub failed_stride : so version ≡ false → Confirms → (tells : View → ℕ → View → Type 0)
      → tells v n (failed_at at n v) → Stride l words views s p v at (λ k. k) tells
  failed_stride decides k tells tells-so =
      let h = g.sound in
      let f = g.fits in
      let own = g.own in
      let i = c.index in
      let words' : List ℕ = set words at n in
      let next : Story = record m { given_up = m.given_up ++ a.number ∷ [] } in
      let s' : Seat = record v.seat { stage = Ended } in
      let w = failed_at at n v in
      let same = unwritten words at in
      let grows : Grows m next = record {
        history = ([], append-nil m.history);
        checks = ([], append-nil m.checks);
        decided = ([], append-nil m.decided);
        given_up = (a.number ∷ [], refl);
        first_draw = refl;
        epoch = omega arith;
      } in
      let was : tries v ≡ 1 = ap (λ y. cond (is_trying y) 1 0) c.stage in
      let over : tries w ≡ 0 = ap (λ b. cond b 1 0) (settled_trying s') in
      act_stride laws l words views s id v active g at (λ k. k) act next w tells record {
        may = may k;
        comes = comes false decides k;
        role = refl;
        made = refl;
        small = record { first = h.small.first; drawn = h.small.drawn; clock = h.small.clock };
        valued = h.valued;
        shown = let was = still in record { long = was.long; clock = was.clock; decisions = was.decisions; published = was.published; unused = was.unused; roots = was.roots; slots = was.slots; pages = was.pages; treed = was.treed; resident = was.resident };
        marks = marks_stay words words' s.seats p v.seat w.seat h.marks own.seat (settled_marks s')
            (λ j lo hi. ap (λ y. get_or y j 0) same);
        marked = λ place mark has. subst (λ (y : List Mark). slice_get y place ≡ Some mark) (sym (settled_marks s')) has;
        marks_low = subst (λ (y : List Mark). last_marked y < m.epoch) (sym (settled_marks s'))
            (subst (λ (z : Seat). last_marked z.marks < m.epoch) (sym own.seat) (h.marked p));
        drawn = λ b has. inl has;
        tried = tried_over m next s.seats p i v.seat w.seat a own.seat c.stage here refl grows
            (over_given m.decided m.given_up a.number) h.tried;
        fits = own_fits l m next s.seats v w active f
            (part_goes v.role active v.made v.due v.due v.seat.stage w.seat.stage v.mine v.mine (λ y. y)
            (λ _ idle. absurd (never_idle v.seat.stage i c.stage idle)) f.part)
            refl refl refl refl refl
            (λ place mark has. subst (λ (y : List Mark). slice_get y place ≡ Some mark) (sym (settled_marks s')) has) record {
              history = f.history;
              decided = f.decided;
              heard = f.heard;
              mine = f.mine;
              mine_own = f.mine_own;
              records = settled_kept (KeptAreRecords l.decls l.opening m.history) s' f.records (records_none l.decls l.opening m.history);
              kept = settled_kept (KeptIsLow m.places) s' f.kept (low_none m.places);
              versions = f.versions;
              loaded = tt;
              tried = settled_tried p v.history m.checks v.checked v.mine s' tt;
              took = λ t has. let held = own.took t has in (
                held.0,
                record { spot = held.1.spot; home = held.1.home; own = held.1.own; absent = held.1.absent; bit = held.1.bit; number = held.1.number },
              );
              locked = λ j has. own.locked j (subst (λ (z : List Key). has_key z j ≡ true) (settled_locks s') has);
              low = f.low;
              epoch = λ keeper. (f.keepers keeper).epoch;
              past = λ keeper. past_stays m next v.past grows (λ b has. inl has) (f.keepers keeper).past;
            };
        mine = λ z. refl;
        drew = refl;
        few = omega arith;
        room = omega (arith, h.sums.room);
        now = subst (λ (z : List ℕ). PagesNow l z (shared_now s p next s.table s.trees s.resident w) w) (sym same) record {
          within = g.pages.within;
          ways = g.pages.ways;
          drafts = g.pages.drafts;
          copies = λ z has. let was = g.pages.copies z has in (
            was.0,
            record { slot = was.1.slot; made = was.1.made; state = was.1.state; over = was.1.over; page = was.1.page; exact = was.1.exact; records = was.1.records; pointers = was.1.pointers },
          );
          blanks = g.pages.blanks;
          resident = g.pages.resident;
          leads = g.pages.leads;
          fills = g.pages.fills;
          known = g.pages.treed.known;
          heads = g.pages.treed.heads p (is_at v.role active);
          moved = g.pages.treed.moved;
          sealed = g.pages.treed.sealed p (is_at v.role active);
          inners = g.pages.treed.inners;
          new_leaves = λ z has. let was = g.pages.treed.new_leaves z has in
              record { slot = was.slot; made = was.made; state = was.state; kind = was.kind; header = was.header; page = was.page; there = was.there; each = was.each; records = was.records };
          new_inners = g.pages.treed.new_inners;
          shuts = g.pages.shuts p (is_at v.role active);
        };
        frame = words_same l words words' s p (λ j low. ap (λ (z : List ℕ). get_or z j 0) same);
        deals = deals k w record { role = refl; ways = refl; took = refl; gone = refl; touched = refl; blamed = refl; locks = settled_locks s' } record {
          new = record { word = at; seen = n; was = seen_at v.reads at; kept = kept_at v.reads at };
          word = refl;
          seen = refl;
          was = refl;
          is = refl;
        };
      } tells-so
