-- Where there is no room for an answer no line is the maintenance thread's.
use Rattle.std.proofs.Common.{◌≡◌, arith, refl, []}
use Rattle.std.proofs.lemmas.Bool.{ltb-false}
use Rattle.std.proofs.lemmas.List.{nil_from_length}
use Rattle.script_grammar.specs.Script.{keeper_lines}
use Rattle.round_engine.proofs.SideSteps.{ran_none}
use Rattle.round_engine.proofs.keeper_side.KeeperSideRunsBesideWorkers.has_work.Goals as goal

pub returns : goal.returns
returns g c none v can =
    let empty = ltb-false 0 c.capacity.result none in
    let lines : keeper_lines c.args.self.now.round.now ≡ [] = nil_from_length (keeper_lines c.args.self.now.round.now)
    (omega (arith, can.0.answer_room, c.capacity.ensures, empty)) in (
      ran_none c.args.self.now.round.now c.args.self.now.lent c.args.self.now.vault.now c.args.self.now.answers.now.items _
          c.args.self.now.end v can.0 lines,
      record { save = refl; store = refl; counted = refl },
      refl,
      refl,
    )
