-- What is lent to the maintenance thread may be kept on, as the lines of a round begin.
use Rattle.std.proofs.Common.{◌≡◌, ◌∙◌, ◌≤◌, sym, ap, subst, refl, ℕ, List, [], length, Option, None, false, arith}
use Rattle.std.specs.Prelude.{slice_get}
use Rattle.log_writer.specs.Counted.{AlwaysTells}
use Rattle.log_writer.specs.Save.{IsStored}
use Rattle.log_writer.specs.declared.vault.Vault.{Vault}
use Rattle.serial_model.specs.declared.decl.Decl.{Decl}
use Rattle.engine_pages.specs.declared.view.View.{View}
use Rattle.script_grammar.specs.Script.{Round, keeper_lines}
use Rattle.tx_script.specs.Run.{CanRun}
use Rattle.tx_script.specs.declared.answer.Answer.{Answer}
use Rattle.worker_logs.specs.Logs.{LogState}
use Rattle.shared_rounds.specs.Below.{calls_in}
use Rattle.round_engine.specs.Keeping.{CanKeep}
use Rattle.round_engine.specs.SideLines.{CanRunBeside, lent_at}
use Rattle.round_engine.specs.Sides.{SameButGrowing, growing_in}
use Rattle.round_engine.specs.Standing.{HasSnapshot, LogsStand, RuntimeState}
use Rattle.round_engine.specs.Together.{MayBegin}
use Rattle.round_engine.specs.declared.keeper.KeeperEnd.{KeeperEnd}
use Rattle.round_engine.specs.declared.keeper_side.Lent.{Lent}
use Rattle.round_engine.proofs.Numbered.{closed_at, growing_at}
use Rattle.round_engine.proofs.Together.{bare, begun_so}

module _ {D : Type 0} {tells : D → Option (List ℕ)} {clock : D → ℕ} {image_at : D → ℕ → List ℕ → Type 0}
    (r : RuntimeState) (before apart : Vault D) (can : CanKeep tells clock image_at r before)
    (out : SameButGrowing r.side before apart) (none_grows : growing_in r.side apart ≡ []) where
  -- with the growing log files away, what counts of the others is durable
  durable : (logs : List LogState) → AlwaysTells tells → LogsStand tells clock image_at r.side logs r.counted apart
  durable logs always =
      let stand = can.durable always in
      record {
        growing = λ w log bank at there. absurd (let no = ap (λ l. slice_get l w) (sym none_grows)
            ∙ sym (growing_at r.side apart w) ∙ there in cc);
        closed = λ w count bank counts there. stand.closed w count bank counts (closed_at r.side before w
            ∙ ap (λ l. slice_get l w) (sym out.closed) ∙ sym (closed_at r.side apart w) ∙ there);
      }

  -- the runtime of what is lent may be kept on, on this view
  bare_can : (v : View) → MayBegin r.stands v → CanKeep tells clock image_at (bare r v.layout.decls v) apart
  bare_can v may =
      let begun = begun_so r.stands may.shared v v.layout.decls may.stands may.begins refl in
      record {
        files = ap length out.closed ∙ can.files;
        workers = refl;
        up = can.up;
        stored = subst (λ d. IsStored tells clock image_at d r.save.newest) (sym out.save) can.stored;
        closed = record {
          workers = can.closed.workers;
          counted = can.closed.counted;
          before = omega (arith, can.closed.before, begun.1);
        };
        most_pages = can.most_pages;
        sound = can.sound;
        snapshot = subst (HasSnapshot tells (bare r v.layout.decls v)) (sym out.snaps) (record {
          holds = can.snapshot.holds;
          contents = can.snapshot.contents;
          stands = can.snapshot.stands;
          decls = begun.0 ∙ can.snapshot.decls;
          up_to = can.snapshot.up_to;
          earlier = can.snapshot.earlier;
          let_in = can.snapshot.let_in;
          published = (begun.3 ∙ can.snapshot.published.0, begun.4 ∙ can.snapshot.published.1);
        });
        durable = durable (bare r v.layout.decls v).logs;
      }

module _ {D : Type 0} {tells : D → Option (List ℕ)} {clock : D → ℕ} {image_at : D → ℕ → List ℕ → Type 0} {round : Round}
    (r : RuntimeState) (lent : Lent) (before apart : Vault D) (said : List Answer) (room : ℕ) (end : KeeperEnd)
    (lent_is : (decls : List Decl) (v : View) → lent_at decls lent v ≡ bare r decls v)
    (can : CanKeep tells clock image_at r before) (out : SameButGrowing r.side before apart)
    (none_grows : growing_in r.side apart ≡ []) where
  -- The lines of the maintenance thread may be run.
  pub may_run : (v : View) → MayBegin r.stands v → CanRun r.stands.decls round
      → length (keeper_lines round) ≤ apart.ties.room → said ≡ [] → length (keeper_lines round) ≤ room
      → end.refusal ≡ None → end.limited ≡ false → calls_in end.calls ≡ []
      → CanRunBeside tells clock image_at round lent apart said room end v
  may_run v may lines tie_room none answer_room refusal limited calls =
      let begun = begun_so r.stands may.shared v v.layout.decls may.stands may.begins refl in
      record {
        lines = subst (λ ds. CanRun ds round) (sym begun.0) lines;
        made = may.begins.made;
        ready = record {
          apart = ap (λ (x : RuntimeState). growing_in x.side apart) (lent_is v.layout.decls v) ∙ none_grows;
          can = subst (λ x. CanKeep tells clock image_at x apart) (sym (lent_is v.layout.decls v))
              (bare_can r before apart can out none_grows v may);
          decls = refl;
          past = λ some.
              let shut : lent.closed_at ≡ r.closed_at =
              ap (λ (x : RuntimeState). x.closed_at) (lent_is v.layout.decls v) in
              omega (arith, shut, can.closed.before, begun.1, may.begins.past, may.begins.epoch);
          few = may.begins.few;
          claimed = may.begins.claimed;
          rests = may.begins.rests;
          free = may.begins.free;
          declared = may.begins.declared;
        };
        tie_room = tie_room;
        none = none;
        answer_room = answer_room;
        refusal = refusal;
        limited = limited;
        calls = calls;
      }
