-- The theorem, from its lemmas.
use Rattle.commit_core.specs.Event.{run}
use Rattle.commit_core.proofs.Runs.{keeps_act, run_sound, run_grows}
use Rattle.commit_core.proofs.GivenUp.{check_gives_up, told_gives_up, run_over}
use Rattle.commit_core.proofs.SerialLaws.{commits_serial, opening_sound, fresh_core_sound}
use Rattle.commit_core.proofs.FillLaws.{story_filled, seat_filled}
use Rattle.commit_core.proofs.Leaves.{act_leaves}
use Rattle.commit_core.proofs.law.commits_are_serial.Goals as goal

pub returns : goal.returns
returns c = record {
  each_act = keeps_act;
  starts = opening_sound;
  opens = λ opening places homes first passes can. fresh_core_sound opening places homes first can passes;
  stays = λ core events told sound. run_sound events core told sound;
  grows = λ core events. run_grows events core;
  fails = record {
    seen = λ core p s x a sound at tried _ fails. check_gives_up core p s x a sound at tried fails;
    told = λ core p s w a sound at tried _. told_gives_up core p s w a sound at tried;
  };
  given_up = λ core events a told sound given. run_over events core a told sound given;
  serial = λ core events told sound. commits_serial (run events core).opening (run events core).story (run_sound events core told sound).story;
  sound_serial = commits_serial;
  each_act_leaves = act_leaves;
  fills = record { story = λ opening m x content free. story_filled m x content free opening; seat = λ opening m x content p s free. seat_filled m x content free opening p s };
}
