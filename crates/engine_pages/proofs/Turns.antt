-- A step keeps the rule where it is an act of its seat, or none, and the words and the view become what the act's effect
-- is.
use Rattle.std.proofs.Common.{◌≡◌, ◌≢◌, ℕ, suc, ◌+◌, ◌<◌, ◌≤◌, ◌^◌, Bool, true, false, true≢false, ◌⊎◌}
use Rattle.std.proofs.Common.{inl, inr, List, length, get_or, set, refl, sym, ap, ◌∙◌, subst, arith}
use Rattle.std.proofs.Common.{Option, Some, length-set, get_or-set_other, get_or-set_same}
use Rattle.std.specs.List.{slice_get, AllByRecursion}
use mathlib.Core.Option.{some}
use lib.ListN.{get_elem?}
use lib.Seq.{set-get_or}
use Rattle.atomic_table.specs.Table.{Me, Allows}
use Rattle.atomic_table.specs.Table as table
use Rattle.lists.specs.Each.{all_weaker}
use Rattle.serial_model.specs.declared.number.Number.{Number}
use Rattle.commit_core.specs.declared.attempt.Attempt.{Attempt}
use Rattle.commit_core.specs.declared.seat.Mark.{Mark}
use Rattle.commit_core.specs.declared.seat.Seat.{Seat}
use Rattle.commit_core.specs.declared.seat.Stage.{Stage}
use Rattle.commit_core.specs.declared.seat.Stage.TheVariants.{Trying}
use Rattle.commit_core.specs.declared.story.Story.{Story}
use Rattle.commit_core.specs.CoreState.{is_trying, is_in_progress, last_marked}
use Rattle.views.specs.Sums.{total, times, total-set, term_at_most}
use Rattle.views.specs.Changes.{each_at}
use Rattle.views.specs.Others.{both_hold, each_alone, each_other}
use Rattle.drop_core.specs.declared.table.Table.{Table}
use Rattle.engine_rule.specs.Sound.{IsSound}
use Rattle.engine_rule.specs.Stays.{Stays}
use Rattle.engine_pages.specs.declared.layout.Layout.{Layout}
use Rattle.engine_pages.specs.declared.view.Role.{Role}
use Rattle.engine_pages.specs.declared.view.Role.TheVariants.{Keeper, Worker, Note, Spent}
use Rattle.engine_pages.specs.declared.view.View.{View}
use Rattle.engine_pages.specs.Pages.{Fenced, AreLaidOut}
use Rattle.engine_pages.specs.Resident.{Published, ArePages, HasMore}
use Rattle.engine_pages.specs.Rule.{Shared, joint_of, AllSmall, WriteValues, EachIsTried, Own, Fits, FitsPages, Sound, Shows}
use Rattle.engine_pages.specs.Stays.{TreesStay}
use Rattle.engine_pages.specs.Views.{IsActive, HasPart, drawn_by, sits, sits_by, makes, waits, tries, owns, seat_number}
use Rattle.engine_pages.specs.Words.{ShowsWords, ShowsMark}
use Rattle.engine_pages.proofs.Facing.{Deals, touches_after}
use Rattle.engine_pages.proofs.Joint.{Laws, shared_now}
use Rattle.engine_pages.proofs.PagesStay.{WordsStay, pages_stay}
use Rattle.engine_pages.proofs.Seats.{by_equal, put_seat, put_same, put_other, is_at, sits_here, few_seats}
use Rattle.engine_pages.proofs.Seats.{DrawnNow, fits_stays}

-- ---- a step of one seat

-- The words become these, what all share becomes t, and the view v of seat p becomes w.
pub record Turn
    (l : Layout) (words words' : List ℕ) (views : List View) (s t : Shared) (p : ℕ) (v w : View)
    : Type 0 where
  pub small : AllSmall l.opening t.story
  pub valued : WriteValues l.decls t.story.history
  pub shown : ShowsWords l words' t.story t.table t.trees t.resident
  pub marks : (worker : ℕ) → worker < 8 → ShowsMark words' worker (put_seat s.seats p w.seat (suc worker)).marks
  pub marked : (place : ℕ) (mark : Mark) → slice_get v.seat.marks place ≡ Some mark
      → slice_get w.seat.marks place ≡ Some mark
  pub marks_low : last_marked w.seat.marks < t.story.epoch
  pub drawn : DrawnNow s.story t.story
  pub tried : EachIsTried t.story (put_seat s.seats p w.seat)
  pub fits : Fits l t.story (put_seat s.seats p w.seat) w
  pub role : w.role ≡ v.role
  pub made : w.made ≡ v.made
  pub mine : (h : Number → ℕ) → owns h w + total h s.story.decided ≡ owns h v + total h t.story.decided
  pub drew : drawn_by w + length s.story.history ≡ drawn_by v + length t.story.history
  pub few : (tries w + length t.story.decided) + length s.story.history
      ≤ (tries v + length s.story.decided) + length t.story.history
  pub room : ((t.story.first_draw + length t.story.history) + total waits views) + waits w < 2 ^ 40 + waits v
  pub deals : Deals l words words' s p views v w
  -- pages
  pub slots : t.table.room ≡ s.table.room
  pub within : length t.resident.pages ≤ l.resident
  pub more : HasMore s.resident t.resident
  pub unpublished : p ≢ 0 → t.resident ≡ s.resident
  pub named : ArePages l.decls t.resident t.table
  pub laid_out : AreLaidOut l.decls t.trees t.table
  pub pages : FitsPages l words' t w
  pub frame : WordsStay l words words' s p

-- What seat p may do at the word i, which becomes f of what it was: acts of the machines, or none.
pub record Stride
    (l : Layout) (words : List ℕ) (views : List View) (s : Shared) (p : ℕ) (v : View) (i : ℕ) (f : ℕ → ℕ)
    (tells : View → ℕ → View → Type 0)
    : Type 0 where
  pub story : Story
  pub table : Table
  pub trees : ℕ → Option Fenced
  pub resident : Published
  pub view : View
  pub sound : IsSound (joint_of l (shared_now s p story table trees resident view))
  pub stays : Stays p (joint_of l s) (joint_of l (shared_now s p story table trees resident view))
  pub trees-stay : TreesStay p s trees
  pub turn : Turn l words (set words i (f (get_or words i 0))) views s
      (shared_now s p story table trees resident view) p v view
  pub tells-so : tells v (get_or words i 0) view

-- ---- all that is made stands in the keeper's view

no_keeper_makes : (worker : ℕ) (role : Role) (made : List ℕ) (due : Bool) (stage : Stage) (mine : List Attempt)
    → HasPart role made due stage mine → sits_by 0 role ≡ 0 → times worker made ≡ 0
no_keeper_makes worker Keeper made due stage mine h none = absurd (omega arith)
no_keeper_makes worker (Worker w) made due stage mine h none = ap (times worker) h.1
no_keeper_makes worker Note made due stage mine h none = ap (times worker) h.nobody
no_keeper_makes worker Spent made due stage mine h none = ap (times worker) h.nobody

-- whoever sits at 0 has made all that is made
abbrev pub MadeByOne : List View → View → Type 0
MadeByOne views u = sits 0 u ≡ 1 → (worker : ℕ) → total (makes worker) views ≡ makes worker u

pub made_by_one : (l : Layout) (s : Shared) (views : List View) (words : List ℕ) → Sound l words views s
    → AllByRecursion (MadeByOne views) views
made_by_one l s views words h =
    each_alone (sits 0) (λ worker. makes worker) views
    (λ worker. all_weaker (Fits l s.story s.seats) (λ u. sits 0 u ≡ 0 → makes worker u ≡ 0)
    (λ u f. no_keeper_makes worker u.role u.made u.due u.seat.stage u.mine f.part) views h.fits)
    h.sums.one_keeper

-- ---- the rule after a step

pub turns : Laws → (l : Layout) (words : List ℕ) (views : List View) (s : Shared) (id : ℕ)
    (v : View) (i : ℕ) (f : ℕ → ℕ) (tells : View → ℕ → View → Type 0) → Sound l words views s
    → get_elem? views id ≡ some v → IsActive v.role
    → (r : Stride l words views s (seat_number v.role) v i f tells)
    → Sound l (set words i (f (get_or words i 0))) (set views id r.view)
    (shared_now s (seat_number v.role) r.story r.table r.trees r.resident r.view)
turns laws l words views s id v i f tells h at active r =
    let p = seat_number v.role in
    let t = r.turn in
    let words' = set words i (f (get_or words i 0)) in
    let new = shared_now s p r.story r.table r.trees r.resident r.view in
    let fv = each_at (Fits l s.story s.seats) views id v h.fits at in
    let mine = fv.own p (is_at v.role active) in
    let few = few_seats v.role active v.made v.due v.seat.stage v.mine fv.part in
    let left = r.stays.story in
    let marked : (place : ℕ) (mark : Mark) → slice_get (s.seats p).marks place ≡ Some mark → slice_get r.view.seat.marks place ≡ Some mark = λ place mark has.
    t.marked place mark (subst (λ (x : Seat). slice_get x.marks place ≡ Some mark) (sym mine.seat) has) in
    let here : sits p v ≡ 1 = sits_here p v.role (is_at v.role active) in
    let sat : (q : ℕ) → sits q r.view ≡ sits q v = λ q. ap (sits_by q) t.role in
    let made : (worker : ℕ) → makes worker r.view ≡ makes worker v = λ worker. ap (times worker) t.made in
    let one : AllByRecursion (MadeByOne views) views = made_by_one l s views words h in
    let all : AllByRecursion (Everything s) views =
    both_hold (Fits l s.story s.seats) (λ u. MadeByOne views u × FitsPages l words s u)
    (Everything s) (λ u x y. (x, y)) views h.fits
    (both_hold (MadeByOne views) (FitsPages l words s) (λ u. MadeByOne views u × FitsPages l words s u)
    (λ u x y. (x, y)) views one h.pages) in
    record {
      joint = r.sound;
      declared = h.declared;
      first = left.grows.first_draw ∙ h.first;
      blank = h.blank;
      valued = t.valued;
      shown = t.shown;
      tried = t.tried;
      others = λ q most.
          ap (λ (x : Seat). x.stage) (put_other s.seats p r.view.seat q (λ e. absurd (omega (arith, few, e))))
          ∙ h.others q most;
      marks = t.marks;
      marked = λ q.
          by_equal q p (λ k. last_marked (put_seat s.seats p r.view.seat k).marks < r.story.epoch)
          (subst (λ (x : Seat). last_marked x.marks < r.story.epoch) (sym (put_same s.seats p r.view.seat p refl)) t.marks_low)
          (λ other. subst (λ (x : Seat). last_marked x.marks < r.story.epoch) (sym (put_other s.seats p r.view.seat q other))
          (let low = h.marked q in let rises = left.grows.epoch in omega arith));
      small = t.small;
      fits = each_other (sits p) (Everything s) (Fits l r.story (put_seat s.seats p r.view.seat))
          (λ u none x. fits_stays l s r.story p r.view.seat u h.joint left t.drawn marked none
          (λ keeper worker unmade e. apart u keeper worker unmade e x.1.0) x.0)
          views id v r.view at (omega (arith, h.sums.once p)) all t.fits;
      sums = record {
        one_keeper = omega (arith, total-set (sits 0) views id v r.view at, sat 0, h.sums.one_keeper);
        made_are = λ worker. omega (
          arith,
          total-set (sits (suc worker)) views id v r.view at,
          total-set (makes worker) views id v r.view at,
          sat (suc worker),
          made worker,
          h.sums.made_are worker,
        );
        once = λ q. omega (arith, total-set (sits q) views id v r.view at, sat q, h.sums.once q);
        mine_are = λ k. omega (arith, total-set (owns k) views id v r.view at, t.mine k, h.sums.mine_are k);
        draws_are = omega (arith, total-set drawn_by views id v r.view at, t.drew, h.sums.draws_are);
        few_open = omega (arith, total-set tries views id v r.view at, t.few, h.sums.few_open);
        room = omega (arith, total-set waits views id v r.view at, t.room, h.sums.room);
      };
      touching = touches_after l words words' views s new id p v r.view few at mine.seat (λ q. refl) h.touching t.deals
          (omega (arith, h.sums.once p)) h.pages;
      room = t.slots ∙ h.room;
      few = h.few;
      within = t.within;
      named = t.named;
      laid_out = t.laid_out;
      roots = λ k. r.stays.pages.roots k ∙ h.roots k;
      pages = each_other (sits p) (Everything s) (FitsPages l words' new)
          (λ u none x. pages_stay laws l words words' s new p u few h.joint r.stays r.trees-stay t.more t.unpublished
          t.frame (λ q other. put_other s.grips p r.view.grip q other) none
          (λ keeper worker unmade e. apart u keeper worker unmade e x.1.0) x.0 x.1.1)
          views id v r.view at (omega (arith, h.sums.once p)) all t.pages;
    }
  where
    Everything : Shared → View → Type 0
    Everything x u = Fits l x.story x.seats u × (MadeByOne views u × FitsPages l words x u)

    apart : (u : View) → u.role ≡ Keeper → (worker : ℕ) → times worker u.made ≡ 0 → suc worker ≡ seat_number v.role
        → MadeByOne views u → ⊥
    apart u keeper worker unmade e alone =
        let none : total (makes worker) views ≡ 0 = alone (ap (sits_by 0) keeper) worker ∙ unmade in
        let here : sits (suc worker) v ≡ 1 =
        subst (λ k. sits k v ≡ 1) (sym e) (sits_here (seat_number v.role) v.role (is_at v.role active)) in
        absurd (omega (arith, h.sums.made_are worker, term_at_most (sits (suc worker)) views id v at))

-- What a view that steps begins with.
pub record Begins (l : Layout) (words : List ℕ) (views : List View) (s : Shared) (id : ℕ) (v : View) : Type 0 where
  pub sound : Sound l words views s
  pub fits : Fits l s.story s.seats v
  pub own : Own l s.story s.seats v (seat_number v.role)
  pub pages : FitsPages l words s v
  pub grip : v.grip ≡ s.grips (seat_number v.role)
  pub few : seat_number v.role < 9
  pub at : get_elem? views id ≡ some v

-- what a step of the table owes, where it is a stride
pub allows_at : Laws → (l : Layout) (slots id : ℕ) (me : Me (Unit {0}) View) (i : ℕ) (f : ℕ → ℕ)
    (tells : View → ℕ → View → Type 0) → IsActive me.0.role
    → ((words : List ℕ) (views : List View) (s : Shared) → Begins l words views s id me.0
    → Stride l words views s (seat_number me.0.role) me.0 i f tells)
    → Allows (λ s. Shows l s.words s.views) slots id me i f (λ n now. (now.1 ≡ me.1) × tells me.0 n now.0)
allows_at laws l slots id me i f tells active go t h _ at below =
    let s : Shared = h.0 in
    let v = me.0 in
    let fv : Fits l s.story s.seats v = each_at (Fits l s.story s.seats) t.views id v h.1.fits at in
    let pv = each_at (FitsPages l t.words s) t.views id v h.1.pages at in
    let b : Begins l t.words t.views s id v = record {
      sound = h.1;
      fits = fv;
      own = fv.own (seat_number v.role) (is_at v.role active);
      pages = pv;
      grip = pv.grip (seat_number v.role) (is_at v.role active);
      few = few_seats v.role active v.made v.due v.seat.stage v.mine fv.part;
      at = at;
    } in
    let r : Stride l t.words t.views s (seat_number v.role) v i f tells = go t.words t.views s b in (
      r.view,
      table.keeps,
      tt,
      (
        shared_now s (seat_number v.role) r.story r.table r.trees r.resident r.view,
        turns laws l t.words t.views s id v i f tells h.1 at active r,
      ),
      (refl, r.tells-so),
    )

-- ---- words

pub unwritten : (words : List ℕ) (i : ℕ) → set words i (get_or words i 0) ≡ words
unwritten words i = set-get_or words i 0

pub record Written (words words' : List ℕ) (i x : ℕ) : Type 0 where
  pub long : length words' ≡ length words
  pub here : get_or words' i 0 ≡ x
  pub others : (j : ℕ) → j ≢ i → get_or words' j 0 ≡ get_or words j 0

pub written : (words : List ℕ) (i x : ℕ) → i < length words → Written words (set words i x) i x
written words i x within = record {
  long = length-set words i x;
  here = get_or-set_same words i x 0 within;
  others = λ j other. get_or-set_other words i j x 0 other;
}

-- no mark and no mark's word changes
pub marks_stay : (words words' : List ℕ) (seats : ℕ → Seat) (p : ℕ) (s t : Seat)
    → ((worker : ℕ) → worker < 8 → ShowsMark words worker (seats (suc worker)).marks) → s ≡ seats p → t.marks ≡ s.marks
    → ((j : ℕ) → 2 ≤ j → j < 10 → get_or words' j 0 ≡ get_or words j 0) → (worker : ℕ) → worker < 8
    → ShowsMark words' worker (put_seat seats p t (suc worker)).marks
marks_stay words words' seats p s t h is same others worker few =
    let was = h worker few in
    let marks : (put_seat seats p t (suc worker)).marks ≡ (seats (suc worker)).marks =
    by_equal (suc worker) p (λ q. (put_seat seats p t q).marks ≡ (seats q).marks)
    (ap (λ (y : Seat). y.marks) (put_same seats p t p refl) ∙ (same ∙ ap (λ (y : Seat). y.marks) is))
    (λ other. ap (λ (y : Seat). y.marks) (put_other seats p t (suc worker) other)) in
    record {
      before = was.before;
      mark = was.mark;
      last = marks ∙ was.last;
      word = others (2 + worker) (omega arith) (omega (arith, few)) ∙ was.word;
      small = was.small;
    }

-- each attempt in progress is still its seat's, where nobody drew or decided, and the stage stays or was none of an
-- attempt in progress
pub tried_goes : (m n : Story) (seats : ℕ → Seat) (p : ℕ) (s t : Seat) → s ≡ seats p → n.history ≡ m.history
    → n.decided ≡ m.decided → n.given_up ≡ m.given_up → (t.stage ≡ s.stage) ⊎ (is_trying s.stage ≡ false)
    → EachIsTried m seats → EachIsTried n (put_seat seats p t)
tried_goes m n seats p s t is history decided given_up stage h i a at now =
    let was = h i a (subst (λ (x : List Attempt). slice_get x i ≡ Some a) history at)
    (subst (λ (x : List Number). is_in_progress x m.given_up a.number ≡ true) decided
    (subst (λ (x : List Number). is_in_progress n.decided x a.number ≡ true) given_up now)) in (
      was.0,
      by_equal a.seat p (λ q. (seats q).stage ≡ Trying i → (put_seat seats p t q).stage ≡ Trying i)
          (λ tried. ap (λ (x : Seat). x.stage) (put_same seats p t p refl) ∙ here stage (ap (λ (x : Seat). x.stage) is ∙ tried))
          (λ other tried. ap (λ (x : Seat). x.stage) (put_other seats p t a.seat other) ∙ tried) was.1,
    )
  where
    here : (t.stage ≡ s.stage) ⊎ (is_trying s.stage ≡ false) → s.stage ≡ Trying i → t.stage ≡ Trying i
    here (inl same) tried = same ∙ tried
    here (inr none) tried = absurd (true≢false (sym (ap is_trying tried) ∙ none))
