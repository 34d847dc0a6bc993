-- That calls are the operations of a transaction, and its commit an attempt of it, as laws that proofs above can cite.
use Rattle.std.proofs.Common.{◌≡◌, inl, inr, ℕ, Bool, true, false, cond, List, [], ◌∷◌, ◌++◌, Option, Some}
use Rattle.std.proofs.Common.{refl, sym, ap, ◌∙◌, subst, append_assoc}
use Rattle.std.specs.Prelude.{option_to_list, IsTrue}
use Rattle.std.specs.List.{find}
use Rattle.std.specs.Option.{option_map}
use Rattle.std.proofs.lemmas.List.{append-nil}
use Rattle.serial_model.specs.declared.key.Key.{Key}
use Rattle.serial_model.specs.declared.decl.Decl.{Decl}
use Rattle.serial_model.specs.declared.number.Change.{Change}
use Rattle.serial_model.specs.declared.op.Op.{Op}
use Rattle.serial_model.specs.declared.op.Op.TheVariants.{Read, Write, Remove, Add, Take, Scan}
use Rattle.serial_model.specs.declared.reply.Reply.{Reply}
use Rattle.serial_model.specs.declared.reply.Verdict.TheVariants.{Done}
use Rattle.serial_model.specs.Keys.{fits}
use Rattle.commit_core.specs.declared.part.Part.{Part}
use Rattle.commit_core.specs.Keys.{same_key, written}
use Rattle.serial_bridge.specs.Transaction.{Sees, SeesRows, Turn, Turns, Continues, Stops, Finished, finished}
use Rattle.serial_bridge.specs.Transaction.{Runs}
use Rattle.tx_sets.specs.declared.writes.Write as writes_of
use Rattle.tx_sets.specs.Entries.{value_of}
use Rattle.engine_pages.specs.declared.layout.Layout.{Layout}
use Rattle.engine_pages.specs.declared.view.View.{View}
use Rattle.page_commit.specs.Committing.{changes_of}
use Rattle.page_commit.specs.Running.{RunsOps, BeginsRun, GoesOnRun, EndsRun, CommitsRun, CommitsEnd}
use Rattle.page_commit.specs.Turning.{PartsStay}

-- ---- a turn over parts is one over more

sees_later : (parts later : List Part) (own : List Change) (k : Key) (value : Option ℕ) → PartsStay parts later
    → Sees parts own k value → Sees later own k value
sees_later parts later own k value keeps (inl written-last) = inl written-last
sees_later parts later own k value keeps (inr read) = inr (read.0, keeps k value read.1)

rows_later : (parts later : List Part) (own : List Change) (storage low high : ℕ) (rows : List (ℕ × ℕ))
    → PartsStay parts later
    → SeesRows parts own storage low high rows → SeesRows later own storage low high rows
rows_later parts later own storage low high rows keeps r = record {
  value_at = r.value_at;
  covered = λ k looked. sees_later parts later own k (r.value_at k) keeps (r.covered k looked);
  given = r.given;
}

turns_later : (decls : List Decl) (parts later : List Part) (own : List Change) (op : Op) (turn : Turn)
    → PartsStay parts later
    → Turns decls parts own op turn → Turns decls later own op turn
turns_later decls parts later own (Read k) turn keeps t = (t.0, sees_later parts later own k t.0 keeps t.1, t.2)
turns_later decls parts later own (Write k v) turn keeps t = t
turns_later decls parts later own (Remove k) turn keeps t = (t.0, sees_later parts later own k t.0 keeps t.1, t.2)
turns_later decls parts later own (Add k v) turn keeps t = (t.0, sees_later parts later own k t.0 keeps t.1, t.2)
turns_later decls parts later own (Take k v) turn keeps t = (t.0, sees_later parts later own k t.0 keeps t.1, t.2)
turns_later decls parts later own (Scan storage low high) turn keeps t =
    (t.0, rows_later parts later own storage low high t.0 keeps t.1, t.2)

goes_later : (decls : List Decl) (parts later : List Part) (ops : List Op) (own : List Change) (replies : List Reply)
    (end : List Change) → PartsStay parts later → RunsOps decls parts ops own replies end
    → RunsOps decls later ops own replies end
goes_later decls parts later [] own replies end keeps g = g
goes_later decls parts later (op ∷ ops) own replies end keeps g = (
  g.0,
  g.1,
  g.2,
  g.3,
  turns_later decls parts later own op (Continues g.1 g.2) keeps g.4,
  goes_later decls parts later ops g.2 g.3 end keeps g.5,
  g.6,
)

-- ---- one operation more

goes_push : (decls : List Decl) (parts : List Part) (ops : List Op) (own : List Change) (replies : List Reply)
    (mid end : List Change) (op : Op) (reply : Option Reply) → RunsOps decls parts ops own replies mid
    → IsTrue (fits decls op) → Turns decls parts mid op (Continues reply end)
    → RunsOps decls parts (ops ++ op ∷ []) own (replies ++ option_to_list reply) end
goes_push decls parts [] own replies mid end op reply g fit t = (
  fit,
  reply,
  end,
  [],
  subst (λ l. Turns decls parts l op (Continues reply end)) g.1 t,
  (refl, refl),
  ap (λ l. l ++ option_to_list reply) g.0 ∙ sym (append-nil (option_to_list reply)),
)
goes_push decls parts (x ∷ ops) own replies mid end op reply g fit t = (
  g.0,
  g.1,
  g.2,
  g.3 ++ option_to_list reply,
  g.4,
  goes_push decls parts ops g.2 g.3 mid end op reply g.5 fit t,
  ap (λ l. l ++ option_to_list reply) g.6 ∙ append_assoc (option_to_list g.1) g.3 (option_to_list reply),
)

-- what is run goes on to an end
runs_on : (decls : List Decl) (parts : List Part) (ops more : List Op) (own : List Change) (replies : List Reply)
    (end : List Change) (f : Finished) → RunsOps decls parts ops own replies end → Runs decls parts more end f
    → Runs decls parts (ops ++ more) own (finished f.verdict (replies ++ f.replies) f.writes)
runs_on decls parts [] more own replies end f g r =
    subst (λ l. Runs decls parts more own (finished f.verdict (l ++ f.replies) f.writes)) (sym g.0)
    (subst (λ l. Runs decls parts more l f) g.1 r)
runs_on decls parts (op ∷ ops) more own replies end f g r =
    let rest : Finished = finished f.verdict (g.3 ++ f.replies) f.writes in (
      g.0,
      (
        Continues g.1 g.2,
        g.4,
        (
          rest,
          runs_on decls parts ops more g.2 g.3 end f g.5 r,
          ap (λ l. finished f.verdict (l ++ f.replies) f.writes) g.6
              ∙ ap (λ l. finished f.verdict l f.writes) (append_assoc (option_to_list g.1) g.3 f.replies),
        ),
      ),
    )

-- ---- the calls

-- a begin
pub begins_run : BeginsRun
begins_run sets v w b = record {
  own = [];
  writes = λ k. sym (ap (value_of k) b.empty.writes);
  runs = (refl, refl);
}

-- an operation more
pub goes_on_run : GoesOnRun
goes_on_run ops replies op reply sets new v w r fit d =
    let t = d.turns r.own r.writes in
    let layout : w.layout ≡ v.layout = ap (λ (y : View). y.layout) d.only.is in record {
      own = t.0;
      writes = t.1;
      runs = subst (λ (l : Layout). RunsOps l.decls w.seat.kept (ops ++ op ∷ []) [] (replies ++ option_to_list reply)
          t.0) (sym layout)
          (goes_push v.layout.decls w.seat.kept ops [] replies r.own t.0 op reply
          (goes_later v.layout.decls v.seat.kept w.seat.kept ops [] replies r.own d.keeps r.runs) fit t.2);
    }

-- one that ends the transaction
pub ends_run : EndsRun
ends_run ops replies op verdict sets new v w r fit d =
    let layout : w.layout ≡ v.layout = ap (λ (y : View). y.layout) d.only.is in
    let stop : Runs v.layout.decls w.seat.kept (op ∷ []) r.own (finished verdict [] []) =
    (fit, (Stops verdict, d.turns r.own r.writes, refl)) in record {
      runs = subst (λ (l : Layout). Runs l.decls w.seat.kept (ops ++ op ∷ []) [] (finished verdict replies []))
          (sym layout)
          (subst (λ l. Runs v.layout.decls w.seat.kept (ops ++ op ∷ []) [] (finished verdict l [])) (append-nil replies)
          (runs_on v.layout.decls w.seat.kept ops (op ∷ []) [] replies r.own (finished verdict [] [])
          (goes_later v.layout.decls v.seat.kept w.seat.kept ops [] replies r.own d.keeps r.runs) stop));
    }

-- ---- the commit

changes_written : (ws : List writes_of.Write) (k : Key) → written k (changes_of ws) ≡ value_of k ws
changes_written [] k = refl
changes_written (w ∷ ws) k = by_test (same_key w.key k) (changes_written ws k)
  where
    by_test : (b : Bool) → written k (changes_of ws) ≡ value_of k ws
        → option_map (λ (c : Change). c.value) (cond b (Some (record { key = w.key; value = w.value }))
        (find (λ (c : Change). same_key c.key k) (changes_of ws)))
        ≡ option_map (λ (x : writes_of.Write). x.value)
        (cond b (Some w) (find (λ (x : writes_of.Write). same_key x.key k) ws))
    by_test true rest = refl
    by_test false rest = rest

-- the commit of what was written
pub commits_run : CommitsRun
commits_run e sets v w r done c =
    let parts = sym c.parts in
    let runs : Runs v.layout.decls v.seat.kept e.ops [] (finished e.verdict e.replies r.own) =
    subst (λ z. Runs v.layout.decls v.seat.kept e.ops [] (finished z e.replies r.own)) (sym done)
    (subst (λ l. Runs v.layout.decls v.seat.kept l [] (finished Done e.replies r.own)) (append-nil e.ops)
    (subst (λ l. Runs v.layout.decls v.seat.kept (e.ops ++ []) [] (finished Done l r.own)) (append-nil e.replies)
    (runs_on v.layout.decls v.seat.kept e.ops [] [] e.replies r.own (finished Done [] r.own) r.runs refl))) in record {
      number = sym c.numbered;
      own = r.own;
      runs = subst (λ l. Runs v.layout.decls l e.ops [] (finished e.verdict e.replies r.own)) parts runs;
      writes = λ k. ap (written k) c.writes ∙ (changes_written sets.writes k ∙ sym (r.writes k));
    }

-- the commit of a transaction that an operation ended
pub commits_end : CommitsEnd
commits_end e v w r c = record {
  number = sym c.numbered;
  own = [];
  runs = subst (λ l. Runs v.layout.decls l e.ops [] (finished e.verdict e.replies [])) (sym c.parts) r.runs;
  writes = λ k. ap (written k) c.writes;
}
