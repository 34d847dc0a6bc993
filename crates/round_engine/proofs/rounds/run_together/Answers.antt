-- The workers' lines and those of the maintenance thread ran beside each other, on what was lent.
use Rattle.std.proofs.Common.{◌≡◌, ◌≤◌, ◌∙◌, ap, arith, length, refl, subst, sym, []}
use Rattle.script_grammar.specs.Script.{keeper_lines}
use Rattle.worker_logs.specs.Rows.{AreLogsUp}
use Rattle.shared_rounds.specs.First.{AreIdle}
use Rattle.round_engine.specs.Phases.{RunsLines}
use Rattle.round_engine.specs.SideLines.{IsLent}
use Rattle.round_engine.specs.Sides.{SameButGrowing, growing_in}
use Rattle.round_engine.specs.Standing.{RuntimeState}
use Rattle.round_engine.specs.Together.{MayBegin}
use Rattle.round_engine.proofs.LentParts.{lent_bare, over_banks}
use Rattle.round_engine.proofs.MayBegin.{may_run}
use Rattle.round_engine.proofs.Together.{together_ran}
use Rattle.round_engine.proofs.rounds.run_together.Goals as goal

pub run_apart-ran-requires-clause-up : goal.run_apart-ran-requires-clause-up
run_apart-ran-requires-clause-up g c κs within =
    let logs = ap (λ (r : RuntimeState). r.logs) c.runtime.view_is in
    let files : c.lend-growing.result.items ≡ growing_in c.args.runtime.now.side c.args.vault.now =
    c.lend-growing.ensures.growing ∙ ap (λ (r : RuntimeState). growing_in r.side c.args.vault.now) c.runtime.view_is in
    subst (λ l. AreLogsUp g.D.Disk.tells l c.lend-growing.result.items) (sym logs)
    (subst (AreLogsUp g.D.Disk.tells c.args.runtime.now.logs) (sym files) c.requires.up)

pub run_apart-ran-requires-clause-idle : goal.run_apart-ran-requires-clause-idle
run_apart-ran-requires-clause-idle g c κs within =
    subst (λ (r : RuntimeState). AreIdle c.args.round.now r.logs) (sym c.runtime.view_is) c.requires.idle

pub run_apart-ran-requires-clause-beside : goal.run_apart-ran-requires-clause-beside
run_apart-ran-requires-clause-beside g c κs within v may lent is end refusal limited calls =
    let same : c.lend-growing.new.vault.ties.room ≡ c.args.vault.now.ties.room =
    ap (λ t. t.room) c.lend-growing.ensures.vault.ties in
    let room : length (keeper_lines c.args.round.now) ≤ c.lend-growing.new.vault.ties.room =
    omega (arith, same, c.requires.tie_room) in
    let out : SameButGrowing c.args.runtime.now.side c.args.vault.now c.lend-growing.new.vault =
    subst (λ (r : RuntimeState). SameButGrowing r.side c.args.vault.now c.lend-growing.new.vault) c.runtime.view_is
    c.lend-growing.ensures.vault in
    let none : growing_in c.args.runtime.now.side c.lend-growing.new.vault ≡ [] =
    subst (λ (r : RuntimeState). growing_in r.side c.lend-growing.new.vault ≡ []) c.runtime.view_is
    c.lend-growing.ensures.none in
    let begins : MayBegin c.args.runtime.now.stands v =
    subst (λ (r : RuntimeState). MayBegin r.stands v) c.runtime.view_is may in
    let values : IsLent lent c.args.runtime.now.save c.args.runtime.now.store c.args.runtime.now.counted
    c.args.runtime.now.room c.args.runtime.now.side c.args.runtime.now.closed_at =
    subst (λ (r : RuntimeState). IsLent lent r.save r.store r.counted r.room r.side r.closed_at) c.runtime.view_is is in
    may_run c.args.runtime.now lent c.args.vault.now c.lend-growing.new.vault c.args.answers.now.items _ end
    (λ decls w. lent_bare c.args.runtime.now lent values decls w) c.requires.ready out none v begins c.requires.lines room
    c.requires.none c.requires.answer_room refusal limited calls

pub returns-clause-runs : goal.returns-clause-runs
returns-clause-runs g c =
    let ran = c.run_apart-ran in
    let told = ran.ensures.runs in
    let new : RuntimeState = record {
      stands = ran.new.engine;
      save = ran.new.save;
      store = ran.new.store;
      room = c.runtime.inside.room;
      side = c.runtime.inside.side;
      counted = ran.new.counted;
      closed_at = c.runtime.inside.closed_at;
      logs = ran.new.logs.items;
      down = c.runtime.inside.down;
    } in
    let was : RuntimeState = record {
      stands = c.runtime.inside.engine;
      save = c.runtime.inside.save;
      store = c.runtime.inside.store;
      room = c.runtime.inside.room;
      side = c.runtime.inside.side;
      counted = c.runtime.inside.counted;
      closed_at = c.runtime.inside.closed_at;
      logs = c.runtime.inside.logs.items;
      down = c.runtime.inside.down;
    } in
    subst (λ (r : RuntimeState). RunsLines g.D.Disk.tells g.D.Disk.clock g.D.Disk.image_at g.D.Disk.faults c.args.tries
    c.args.round.now r new c.args.vault.now c.give_back.new.vault ran.result.0 ran.new.answers.items ran.result.1.refusal)
    c.runtime.view_is
    (together_ran was new told.0 told.1 c.args.vault.now c.lend-growing.new.vault ran.new.vault c.give_back.new.vault
    ran.new.answers.items ran.result.1 ran.result.0 (λ decls w. lent_bare was told.0 told.2 decls w)
    (λ decls w. lent_bare new told.1 told.3 decls w) refl c.lend-growing.ensures.vault c.give_back.ensures.vault
    ran.ensures.history
    (over_banks c.lend-growing.ensures.growing c.give_back.ensures.growing told.4))

pub returns-clause-limited : goal.returns-clause-limited
returns-clause-limited g c = c.run_apart-ran.ensures.runs.4.beside.did_so.limited

pub returns-clause-calls : goal.returns-clause-calls
returns-clause-calls g c = (c.run_apart-ran.ensures.calls, c.run_apart-ran.ensures.runs.4.beside.did_so.calls)
