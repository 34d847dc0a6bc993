-- Steps that are acts of both machines which leave the pages as they are.
use Rattle.std.proofs.Common.{◌≡◌, ℕ, suc, ◌+◌, ◌<◌, ◌≤◌, ◌^◌, true, List, length, get_or, set, refl, Some}
use Rattle.std.specs.List.{slice_get}
use Rattle.serial_model.specs.declared.number.Number.{Number}
use Rattle.commit_core.specs.declared.seat.Mark.{Mark}
use Rattle.commit_core.specs.declared.story.Story.{Story}
use Rattle.commit_core.specs.CoreState.{last_marked}
use Rattle.drop_core.specs.declared.table.Table.{Table}
use Rattle.engine_rule.specs.declared.event.JointAct.{JointAct}
use Rattle.views.specs.Sums.{total}
use Rattle.engine_pages.specs.declared.layout.Layout.{Layout}
use Rattle.engine_pages.specs.declared.view.View.{View}
use Rattle.engine_pages.specs.Rule.{Shared, AllSmall, WriteValues, EachIsTried, Fits}
use Rattle.engine_pages.specs.Views.{IsActive, drawn_by, owns, seat_number, tries, waits}
use Rattle.engine_pages.specs.Words.{ShowsWords, ShowsMark}
use Rattle.engine_pages.proofs.Facing.{Deals}
use Rattle.engine_pages.proofs.Joint.{Laws, effect_of, may_do, shared_now, joint_act}
use Rattle.engine_pages.proofs.Named.{more_same}
use Rattle.engine_pages.proofs.PagesStay.{WordsStay}
use Rattle.engine_pages.proofs.Seats.{put_seat, DrawnNow}
use Rattle.engine_pages.proofs.SlotSteps.{PagesNow, acted_as, own_pages, trees_same}
use Rattle.engine_pages.proofs.Turns.{Stride, Begins}

module _ (laws : Laws) (l : Layout) (words : List ℕ) (views : List View) (s : Shared) (id : ℕ) (v : View)
    (active : IsActive v.role) (b : Begins l words views s id v) (i : ℕ) (f : ℕ → ℕ) (act : JointAct) (n : Story)
    (w : View) where
  abbrev e : Table
  e = s.table

  abbrev q : ℕ
  q = seat_number v.role

  abbrev words' : List ℕ
  words' = set words i (f (get_or words i 0))

  abbrev new : Shared
  new = shared_now s q n e s.trees s.resident w

  -- The act is allowed, and words and view show what it comes to.
  pub record ActStep : Type 0 where
    pub may : may_do s q act ≡ true
    pub comes : effect_of s q act ≡ record { story = n; seat = w.seat; table = e; grip = w.grip }
    pub role : w.role ≡ v.role
    pub made : w.made ≡ v.made
    pub small : AllSmall l.opening n
    pub valued : WriteValues l.decls n.history
    pub shown : ShowsWords l words' n e s.trees s.resident
    pub marks : (worker : ℕ) → worker < 8 → ShowsMark words' worker (put_seat s.seats q w.seat (suc worker)).marks
    pub marked : (place : ℕ) (mark : Mark) → slice_get v.seat.marks place ≡ Some mark
        → slice_get w.seat.marks place ≡ Some mark
    pub marks_low : last_marked w.seat.marks < n.epoch
    pub drawn : DrawnNow s.story n
    pub tried : EachIsTried n (put_seat s.seats q w.seat)
    pub fits : Fits l n (put_seat s.seats q w.seat) w
    pub mine : (h : Number → ℕ) → owns h w + total h s.story.decided ≡ owns h v + total h n.decided
    pub drew : drawn_by w + length s.story.history ≡ drawn_by v + length n.history
    pub few : (tries w + length n.decided) + length s.story.history
        ≤ (tries v + length s.story.decided) + length n.history
    pub room : ((n.first_draw + length n.history) + total waits views) + waits w < 2 ^ 40 + waits v
    pub now : PagesNow l words' new w
    pub frame : WordsStay l words words' s q
    pub deals : Deals l words words' s q views v w

  pub act_stride : (tells : View → ℕ → View → Type 0) → ActStep → tells v (get_or words i 0) w
      → Stride l words views s q v i f tells
  act_stride tells c tells-so =
      let h = b.sound in
      let done = acted_as l s q (effect_of s q act) n e w c.comes (joint_act laws l s q act b.few c.may h.joint) in
      record {
        story = n;
        table = e;
        trees = s.trees;
        resident = s.resident;
        view = w;
        sound = done.sound;
        stays = done.stays;
        trees-stay = trees_same q s;
        turn = record {
          small = c.small;
          valued = c.valued;
          shown = c.shown;
          marks = c.marks;
          marked = c.marked;
          marks_low = c.marks_low;
          drawn = c.drawn;
          tried = c.tried;
          fits = c.fits;
          role = c.role;
          made = c.made;
          mine = c.mine;
          drew = c.drew;
          few = c.few;
          room = c.room;
          deals = c.deals;
          slots = refl;
          within = h.within;
          more = more_same s.resident;
          unpublished = λ other. refl;
          named = h.named;
          laid_out = h.laid_out;
          pages = own_pages l words words' s n e s.trees s.resident v w active c.role c.made b.pages c.now;
          frame = c.frame;
        };
        tells-so = tells-so;
      }
