-- The theorem, from its lemmas.
use Rattle.std.proofs.Common.{length}
use Rattle.drop_core.specs.KeyTests.{none-out, none-out_back, same-homes, same-homes_back}
use Rattle.drop_core.proofs.Aways.{taken_away}
use Rattle.drop_core.proofs.ChainDrops.{chain_down}
use Rattle.drop_core.proofs.Holds.{held_not_given}
use Rattle.drop_core.proofs.Openings.{starts_sound}
use Rattle.drop_core.proofs.Making.{leaves_made, made_alone}
use Rattle.drop_core.proofs.Owners.{act_leaves_held}
use Rattle.drop_core.proofs.Runs.{keeps_act, run_sound, enters}
use Rattle.drop_core.proofs.Splits.{comes_of_twin, twins_move_all}
use Rattle.drop_core.proofs.Stays.{act_leaves}
use Rattle.drop_core.proofs.Swings.{installs_up, swings_down}
use Rattle.drop_core.proofs.Ways.{way_home}
use Rattle.drop_core.proofs.law.pages_stay_sound.Goals as goal

pub returns : goal.returns
returns c = record {
  each_act = keeps_act;
  each_act_leaves = act_leaves;
  each_act_leaves_held = λ homes d grips p g act at can sound.
      act_leaves_held homes d grips sound.table p (length grips) g sound.held act can;
  each_act_leaves_made = λ homes d grips p g act at can sound q s h other there made.
      leaves_made homes d grips sound p q s g h at there other made act can;
  starts = starts_sound;
  stays = λ core homes events sound. run_sound events core homes sound;
  held = λ homes core q s g sound at holds. held_not_given core.table core.grips q s g sound.table.holds_counted at holds;
  made = λ homes d grips q s h sound there made. made_alone homes d grips q s h sound there made;
  enters = enters;
  ways = λ homes core x k sound live inside. way_home homes core.table core.grips sound.table sound.ranked x k live inside;
  install = λ homes d grips p s g x can sound. installs_up homes d grips sound p s g x can;
  away = λ homes d grips p g act s can sound is. taken_away homes d grips sound p g act s can is;
  swing = λ homes d grips p n s g x can leads sound. swings_down homes d grips sound p g x n can s leads;
  chains = λ homes d grips p n s g x c can sound hit k there. chain_down homes d grips sound p g x n c can s hit k there;
  splits = record {
    comes = λ homes d grips p g act s can sound now. comes_of_twin homes d grips sound p g act can s now;
    moves = λ homes d grips p g w i can sound less. twins_move_all homes d grips sound p g w can i less;
  };
  tests = record {
    none_out = λ d n span keys. (none-out d n span keys, none-out_back d n span keys);
    same_homes = λ d span m n. (same-homes d span m n, same-homes_back d span m n);
  };
}
