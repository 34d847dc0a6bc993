-- What an act of one seat leaves of both machines: they are sound, and what others rely on stays.
use Rattle.std.proofs.Common.{◌≡◌, ℕ, ◌<◌, Bool, true, false, List, [], refl, ap, ◌∙◌, subst, arith, set, inl}
use Rattle.std.proofs.Common.{Option}
use Rattle.std.specs.Option.{option_map_or}
use Rattle.std.proofs.lemmas.List.{append-nil}
use Rattle.commit_core.specs.declared.seat.Seat.{Seat}
use Rattle.commit_core.specs.declared.story.Story.{Story}
use Rattle.commit_core.specs.Opening.{Grows}
use Rattle.commit_core.specs.Sound.{IsSoundStory, IsSoundSeat}
use Rattle.drop_core.specs.declared.table.Table.{Table}
use Rattle.drop_core.specs.declared.grip.Grip.{Grip}
use Rattle.drop_core.specs.Law.{MadeIsOwn}
use Rattle.engine_rule.specs.declared.event.JointAct.{JointAct}
use Rattle.engine_rule.specs.declared.event.JointEvent.{JointEvent}
use Rattle.engine_rule.specs.JointState.{JointState}
use Rattle.engine_rule.specs.Event.{Joined, is_allowed, effect, may_with, may_happen, happened_with, happened, acted, with_joined}
use Rattle.engine_rule.specs.Law.{EachEventKeeps, EachEventLeaves}
use Rattle.engine_rule.specs.Sound.{IsSound, IsSoundKept}
use Rattle.engine_rule.specs.Stays.{StoryStays, Stays}
use Rattle.engine_pages.specs.declared.layout.Layout.{Layout}
use Rattle.engine_pages.specs.declared.view.View.{View}
use Rattle.engine_pages.specs.Pages.{Fenced}
use Rattle.engine_pages.specs.Resident.{Published}
use Rattle.engine_pages.specs.Rule.{Shared, all_seats, joint_of}
use Rattle.views.specs.ByNumber.{put_at}
use Rattle.engine_pages.proofs.EachSeat.{at_seat, put_seats}

-- the theorems of the machines that steps use
pub record Laws : Type 0 where
  pub keeps : EachEventKeeps
  pub leaves : EachEventLeaves
  pub made : MadeIsOwn

-- the state after a step of seat p, which has the view w then
abbrev pub shared_now : Shared → ℕ → Story → Table → (ℕ → Option Fenced) → Published → View → Shared
shared_now s p n e k r w = record {
  story = n;
  seats = put_at s.seats p w.seat;
  table = e;
  grips = put_at s.grips p w.grip;
  trees = k;
  resident = r;
}

-- what all share after an act of seat p
abbrev pub shared_after : Shared → ℕ → Joined → Shared
shared_after s p j = record {
  story = j.story;
  seats = put_at s.seats p j.seat;
  table = j.table;
  grips = put_at s.grips p j.grip;
  trees = s.trees;
  resident = s.resident;
}

-- what an act of seat p comes to
abbrev pub effect_of : Shared → ℕ → JointAct → Joined
effect_of s p act = effect p s.story (s.seats p) s.table (s.grips p) act

-- seat p may do it
abbrev pub may_do : Shared → ℕ → JointAct → Bool
may_do s p act = is_allowed p s.story (s.seats p) s.table (s.grips p) act

joined_after : (l : Layout) (s : Shared) (p : ℕ) (j : Joined) → p < 9
    → with_joined (joint_of l s) p j ≡ joint_of l (shared_after s p j)
joined_after l s p j few =
    ap (λ (x : List Seat). let c : JointState = record { commits = record { opening = l.opening; story = j.story; seats = x }; pages = record { table = j.table; grips = set (all_seats s.grips) p j.grip } } in c)
    (put_seats s.seats p j.seat few)
    ∙ ap (λ (x : List Grip). let c : JointState = record { commits = record { opening = l.opening; story = j.story; seats = all_seats (put_at s.seats p j.seat) }; pages = record { table = j.table; grips = x } } in c)
    (put_seats s.grips p j.grip few)

-- The state after an act of seat p that is allowed is sound, and what others rely on stays.
pub record Acted (l : Layout) (s : Shared) (p : ℕ) (j : Joined) : Type 0 where
  pub sound : IsSound (joint_of l (shared_after s p j))
  pub stays : Stays p (joint_of l s) (joint_of l (shared_after s p j))

pub joint_act : Laws → (l : Layout) (s : Shared) (p : ℕ) (act : JointAct) → p < 9 → may_do s p act ≡ true
    → IsSound (joint_of l s) → Acted l s p (effect_of s p act)
joint_act laws l s p act few may sound =
    let c = joint_of l s in
    let e : JointEvent = record { seat = p; act = act } in
    let seat = at_seat s.seats p few in
    let grip = at_seat s.grips p few in
    let happens : may_happen c e ≡ true =
    ap (λ o. option_map_or (may_with c e) o false) seat
    ∙ (ap (λ o. option_map_or (λ g. is_allowed p s.story (s.seats p) s.table g act) o false) grip ∙ may) in
    let comes : happened c e ≡ joint_of l (shared_after s p (effect_of s p act)) =
    ap (λ o. option_map_or (happened_with c e) o c) seat
    ∙ (ap (λ o. option_map_or (λ g. acted c p (s.seats p) g act) o c) grip
    ∙ joined_after l s p (effect_of s p act) few) in
    record {
      sound = subst IsSound comes (laws.keeps c e happens sound);
      stays = subst (Stays p c) comes (laws.leaves c e happens sound);
    }

-- ---- no act

pub same_grows : (m : Story) → Grows m m
same_grows m = record {
  history = ([], append-nil m.history);
  checks = ([], append-nil m.checks);
  decided = ([], append-nil m.decided);
  given_up = ([], append-nil m.given_up);
  first_draw = refl;
  epoch = omega arith;
}

same_story : (p : ℕ) (d : Table) (m : Story) → StoryStays p d m m
same_story p d m = record {
  grows = same_grows m;
  rise = λ x known. inl refl;
  epoch = λ _. refl;
  held = λ x o known held other. refl;
  dead = λ x known dead. refl;
  homes = λ k o held other. refl;
  checks = λ i a at other w. refl;
}

pub stays_none : (p : ℕ) (c : JointState) → Stays p c c
stays_none p c = record {
  opening = refl;
  story = same_story p c.pages.table c.commits.story;
  pages = record {
    pages = λ q t h at holds known. record {
      page = inl refl;
      dead = λ is. is;
      spans = λ j has. refl;
      known = known;
      led = λ x is. (is, refl);
    };
    roots = λ r. refl;
    snaps = λ n past. refl;
    homes = λ n k past. refl;
    published = omega arith;
  };
  held = record { headers = λ q t other is. (is, refl); pointers = λ q x other live is. refl };
  made = λ q t h other at has. record {
    state = refl;
    times = refl;
    led = refl;
    page = refl;
    header = refl;
    pointers = λ j free. refl;
  };
  records = λ q x h other at has. refl;
  seats = λ q other. refl;
  grips = λ q other. refl;
}

-- ---- the parts of a sound joint state

pub story_sound : (l : Layout) (s : Shared) → IsSound (joint_of l s) → IsSoundStory l.opening s.story
story_sound l s sound = sound.commits.story

pub seat_sound : (l : Layout) (s : Shared) (p : ℕ) → p < 9 → IsSound (joint_of l s)
    → IsSoundSeat l.opening s.story p (s.seats p)
seat_sound l s p few sound = sound.commits.seats p (s.seats p) (at_seat s.seats p few)

pub kept_sound : (l : Layout) (s : Shared) (p : ℕ) → p < 9 → IsSound (joint_of l s)
    → IsSoundKept s.table (s.grips p).holds (s.seats p).kept
kept_sound l s p few sound =
    sound.kept p (s.seats p) (s.grips p) (at_seat s.seats p few) (at_seat s.grips p few)
