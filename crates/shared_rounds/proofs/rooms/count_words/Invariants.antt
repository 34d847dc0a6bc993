-- The words are those of the lines so far.
use Rattle.std.proofs.Common.{◌≡◌, ◌<◌, ℕ, length}
use Rattle.std.specs.Prelude.{filter_map, get_or, take}
use Rattle.script_grammar.specs.Script.{ops_of_worker}
use Rattle.tx_script.specs.Room.{all_words}
use Rattle.shared_rounds.proofs.rooms.count_words.Given as goal

abbrev pub invariant-loop-index : goal.invariant-loop-index
invariant-loop-index l = record {
  workers : length l.spaces ≡ 8;
  each : (worker : ℕ) → worker < 8
      → get_or l.spaces worker 0 ≡ all_words (filter_map (ops_of_worker worker) (take l.index l.round.lines));
}
