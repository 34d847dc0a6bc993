-- What holds under every list of events of both machines.
use Rattle.std.specs.Prelude.{◌≡◌, ℕ, true, false, List, Some, slice_get}
use Rattle.serial_model.specs.declared.key.Key.{Key}
use Rattle.serial_model.specs.declared.number.Number.{Number}
use Rattle.homes.specs.declared.places.Content.{Content}
use Rattle.homes.specs.declared.places.Span.{Span}
use Rattle.commit_core.specs.Opening.{Grows}
use Rattle.commit_core.specs.Places.{stands}
use Rattle.commit_core.specs.Parts.{IsSameOrAbsent}
use Rattle.commit_core.specs.Law.{CommitsAreSerial}
use Rattle.drop_core.specs.declared.grip.Grip.{Grip}
use Rattle.drop_core.specs.Table.{slot_of, has_slot}
use Rattle.drop_core.specs.Event.{is_usable}
use Rattle.drop_core.specs.declared.table.SnapPage.{SnapPage}
use Rattle.drop_core.specs.declared.event.Act.{Act as PageAct}
use Rattle.engine_rule.specs.declared.event.JointAct.{JointAct}
use Rattle.engine_rule.specs.declared.event.JointAct.TheVariants.{AddRecord, AddKey, Turn}
use Rattle.engine_rule.specs.declared.event.JointEvent.{JointEvent}
use Rattle.engine_rule.specs.JointState.{JointState}
use Rattle.engine_rule.specs.Event.{may_happen, happened, run}
use Rattle.engine_rule.specs.Sound.{IsSound, KeptWordsVouch}
use Rattle.engine_rule.specs.Stays.{Stays}
use Rattle.engine_rule.specs.Opening.{opening_joint, CanOpenJoint}

-- each event that may happen keeps both machines sound
abbrev pub EachEventKeeps : Type 0
EachEventKeeps = (c : JointState) (e : JointEvent) → may_happen c e ≡ true → IsSound c → IsSound (happened c e)

-- and leaves alone what other seats rely on
abbrev pub EachEventLeaves : Type 0
EachEventLeaves = (c : JointState) (e : JointEvent) → may_happen c e ≡ true → IsSound c
    → Stays e.seat c (happened c e)

-- each machine starts sound
abbrev pub StartsSound : Type 0
StartsSound = (snaps : List (ℕ × SnapPage)) (published : ℕ) (roots : List (Span × ℕ)) (first : Number) (room seats : ℕ)
    → CanOpenJoint snaps published roots first room → IsSound (opening_joint snaps published roots first room seats)

-- every list of events keeps it so
abbrev pub StaysSound : Type 0
StaysSound = (c : JointState) (events : List JointEvent) → IsSound c → IsSound (run events c)

-- the opening stays, and what was drawn, checked, decided and given up before is so after
abbrev pub OnlyGrows : Type 0
OnlyGrows = (c : JointState) (events : List JointEvent) → IsSound c
    → ((run events c).commits.opening ≡ c.commits.opening) × Grows c.commits.story (run events c).commits.story

-- at every moment the decided attempts, in order of number, are a serial run from what the snapshot pages had
abbrev pub IsSerial : Type 0
IsSerial = (c : JointState) (events : List JointEvent)
    → IsSound c → CommitsAreSerial (run events c).commits.opening (run events c).commits.story

-- what stands at a key
abbrev pub content_now : JointState → Key → Content
content_now c k = (stands c.commits.story.places c.commits.story.homes k).content

-- an act on pages of seat p
abbrev pub turn_of : ℕ → PageAct → JointEvent
turn_of p act = record { seat = p; act = Turn act }

-- it changes no key's content
abbrev pub TurnsChangeNothing : Type 0
TurnsChangeNothing = (c : JointState) (p : ℕ) (act : PageAct) → may_happen c (turn_of p act) ≡ true → (k : Key)
    → IsSameOrAbsent (content_now c k) (content_now (happened c (turn_of p act)) k)

-- an act of seat p on both
abbrev pub joint_of : ℕ → JointAct → JointEvent
joint_of p act = record { seat = p; act = act }

-- nor does a record that is set for a key, or the opening of the header with it
pub record AddsChangeNothing : Type 0 where
  pub record_set : (c : JointState) (p t : ℕ) (q : Key) → IsSound c → may_happen c (joint_of p (AddRecord t q)) ≡ true
      → (k : Key) → content_now (happened c (joint_of p (AddRecord t q))) k ≡ content_now c k
  pub key_added : (c : JointState) (p t : ℕ) (q : Key) → IsSound c → may_happen c (joint_of p (AddKey t q)) ≡ true
      → (k : Key) → content_now (happened c (joint_of p (AddKey t q))) k ≡ content_now c k

-- where a word is now as a seat keeps it, what it vouches for is so now
abbrev pub WordsVouch : Type 0
WordsVouch = (c : JointState) → IsSound c → KeptWordsVouch c

-- a slot that some seat holds is not given, whether its page was evicted or never installed
abbrev pub HeldIsNotGiven : Type 0
HeldIsNotGiven = (c : JointState) (q s : ℕ) (g : Grip) → IsSound c → slice_get c.pages.grips q ≡ Some g
    → has_slot g.holds s ≡ true → is_usable (slot_of c.pages.table s) ≡ false

-- What holds under every list of events of both machines, about the very condition and effect that the joint machine
-- follows: each event keeps both sound, and leaves alone what other seats rely on; machines start sound and stay so,
-- and the history only grows; the decided attempts read serially; no slot is given while a seat holds it; acts on
-- pages, records that are set and headers that are opened change no key's content; and a kept word vouches for what was
-- found.
pub record BothStaySound : Type 0 where
  pub each_event : EachEventKeeps
  pub each_event_leaves : EachEventLeaves
  pub starts : StartsSound
  pub stays : StaysSound
  pub grows : OnlyGrows
  pub serial : IsSerial
  pub held : HeldIsNotGiven
  pub turns : TurnsChangeNothing
  pub adds : AddsChangeNothing
  pub words : WordsVouch
