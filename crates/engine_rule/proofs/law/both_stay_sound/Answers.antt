-- The theorem, from its lemmas.
use Rattle.std.proofs.Common.{◌≡◌, ℕ, ◌<◌, List, [], ◌∷◌, subst, arith, length, zero, suc, refl, Some}
use Rattle.std.specs.List.{slice_get}
use Rattle.lists.specs.Elements.{at_below}
use Rattle.commit_core.specs.Places.{home_of}
use Rattle.drop_core.specs.declared.grip.Grip.{Grip}
use Rattle.engine_rule.specs.JointState.{JointState}
use Rattle.engine_rule.specs.Event.{run}
use Rattle.engine_rule.specs.Sound.{IsSound, KeptWordsVouch}
use Rattle.engine_rule.proofs.AddedContents.{adds_change_nothing}
use Rattle.engine_rule.proofs.Contents.{turns_change_nothing}
use Rattle.engine_rule.proofs.Events.{event_sound, run_sound}
use Rattle.engine_rule.proofs.Growing.{only_grows}
use Rattle.engine_rule.proofs.Laws.{Laws}
use Rattle.engine_rule.proofs.Openings.{starts_sound}
use Rattle.engine_rule.proofs.Staying.{event_stays}
use Rattle.engine_rule.proofs.Vouching.{kept_vouches}
use Rattle.engine_rule.proofs.law.both_stay_sound.Goals as goal

there_is : (grips : List Grip) (i : ℕ) → i < length grips → (h : Grip) × (slice_get grips i ≡ Some h)
there_is [] i less = absurd (omega (arith, less))
there_is (h ∷ more) zero less = (h, refl)
there_is (h ∷ more) (suc i) less = there_is more i (omega (arith, less))

words_vouch : (c : JointState) → IsSound c → KeptWordsVouch c
words_vouch c sound p s at part kept so =
    let h = there_is c.pages.grips p (subst (λ (n : ℕ). p < n) sound.same_seats (at_below c.commits.seats p s at)) in
    kept_vouches c.commits.opening c.commits.story p s sound.commits.story (sound.commits.seats p s at) c.pages.table c.pages.grips h.0 sound.pages.table sound.pages.headers
    (sound.kept p s h.0 at h.1) part kept so

pub returns : goal.returns
returns c =
    let laws : Laws = record {
      commits_keep = c.commits_are_serial.ensures.each_act;
      commits_leave = c.commits_are_serial.ensures.each_act_leaves;
      commits_open = c.commits_are_serial.ensures.opens;
      serial = c.commits_are_serial.ensures.sound_serial;
      fills = c.commits_are_serial.ensures.fills;
      pages_keep = c.pages_stay_sound.ensures.each_act;
      pages_leave = c.pages_stay_sound.ensures.each_act_leaves;
      pages_hold = c.pages_stay_sound.ensures.each_act_leaves_held;
      pages_made = c.pages_stay_sound.ensures.each_act_leaves_made;
      pages_start = c.pages_stay_sound.ensures.starts;
      held = c.pages_stay_sound.ensures.held;
      made = c.pages_stay_sound.ensures.made;
      down = c.pages_stay_sound.ensures.swing;
      chains = c.pages_stay_sound.ensures.chains;
      away = c.pages_stay_sound.ensures.away;
      splits = c.pages_stay_sound.ensures.splits;
    } in
    record {
      each_event = λ state e may sound. event_sound laws state e may sound;
      each_event_leaves = λ state e may sound. event_stays laws state e may sound;
      starts = λ snaps published roots first room seats can. starts_sound snaps published roots first room seats can laws.commits_open laws.pages_start;
      stays = λ state events sound. run_sound laws state events sound;
      grows = only_grows laws;
      serial = λ state events sound. laws.serial (run events state).commits.opening (run events state).commits.story (run_sound laws state events sound).commits.story;
      held = λ state q s g sound at holds. laws.held (home_of state.commits.story.homes) state.pages q s g sound.pages at holds;
      turns = turns_change_nothing;
      adds = adds_change_nothing;
      words = words_vouch;
    }
