-- A log file that was told full in a round: its worker's lines since the swap, and those that it left out.
use Rattle.std.proofs.Common.{◌≡◌, ◌∙◌, ◌<◌, ◌≤◌, ◌+◌, sym, ap, subst, refl, ℕ, Bool, true, false, cond, arith, List}
use Rattle.std.proofs.Common.{[], ◌∷◌, ◌++◌, length, Option, Some}
use Rattle.std.specs.Prelude.{filter, map, nat_lt}
use Rattle.std.specs.List.{AllByRecursion}
use Rattle.std.proofs.lemmas.Bool.Decides.{nat_tests}
use Rattle.std.proofs.lemmas.List.{length-map}
use Rattle.std.proofs.lemmas.List.Elements.{filter-append}
use Rattle.lists.specs.Each.{all_weaker}
use Rattle.serial_model.specs.History.{Entry}
use Rattle.serial_model.specs.State.{State}
use Rattle.serial_model.specs.declared.decl.Decl.{Decl}
use Rattle.serial_model.specs.declared.number.Commit.{Commit}
use Rattle.log_writer.specs.declared.vault.Vault.{Vault}
use Rattle.tx_script.specs.Run.{LogFull, Ran}
use Rattle.worker_logs.specs.Logs.{LogState, reset_log}
use Rattle.round_engine.specs.RanRound.{LeavesLinesOut}
use Rattle.round_engine.specs.Standing.{RuntimeState, StandsOn}
use Rattle.program_calls.specs.RoundCauses.{FullLeavesUnrun, is_since}
use Rattle.program_calls.proofs.KeptFiles.{growing_file, item_at}
use Rattle.program_calls.proofs.KeptLogged.{LoggedIn}

-- no commit up to an epoch is since it
since_none : (at : ℕ) (cs : List Commit) → AllByRecursion (λ c. c.number.epoch ≤ at) cs → filter (is_since at) cs ≡ []
since_none at [] all = refl
since_none at (c ∷ cs) all =
    let is : nat_lt at c.number.epoch ≡ false = (let within = all.0 in grind (arith, nat_tests)) in
    subst (λ (b : Bool). cond b (c ∷ filter (is_since at) cs) (filter (is_since at) cs) ≡ []) (sym is)
    (since_none at cs all.1)

-- and each later one is
since_all : (at : ℕ) (cs : List Commit) → AllByRecursion (λ c. at < c.number.epoch) cs → filter (is_since at) cs ≡ cs
since_all at [] all = refl
since_all at (c ∷ cs) all =
    let is : nat_lt at c.number.epoch ≡ true = (let later = all.0 in grind (arith, nat_tests)) in
    subst (λ (b : Bool). cond b (c ∷ filter (is_since at) cs) (filter (is_since at) cs) ≡ c ∷ cs) (sym is)
    (ap (λ l. c ∷ l) (since_all at cs all.1))

-- Since the closed log files were closed the growing ones have what was logged.
pub since_closed : {decls : List Decl} {s : State} {ordered : List Entry} {since closed_at : ℕ}
    {older gone commits : ℕ → List Commit} → LoggedIn decls s ordered since closed_at older gone commits
    → (w : ℕ) → w < 8 → filter (is_since closed_at) (older w ++ (gone w ++ commits w)) ≡ commits w
since_closed {since = since} {closed_at = closed_at} {older = older} {gone = gone} {commits = commits} it w below =
    let early : filter (is_since closed_at) (older w) ≡ [] = since_none closed_at (older w)
    (all_weaker (λ (c : Commit). c.number.epoch ≤ since) (λ (c : Commit). c.number.epoch ≤ closed_at)
    (λ c by. (let up = it.since_by in omega (arith, by, up))) (older w) (it.older_by w below)) in
    let then : filter (is_since closed_at) (gone w) ≡ [] = since_none closed_at (gone w) (it.gone_by w below) in
    filter-append (is_since closed_at) (older w) (gone w ++ commits w)
    ∙ ap (λ l. l ++ filter (is_since closed_at) (gone w ++ commits w)) early
    ∙ filter-append (is_since closed_at) (gone w) (commits w)
    ∙ ap (λ l. l ++ filter (is_since closed_at) (commits w)) then
    ∙ since_all closed_at (commits w) (it.here_from w below)

-- the logs as the round's swap found them are eight
pub logs_before : (logs new : List LogState) (swapped : Bool) → new ≡ (cond swapped (map reset_log logs) logs) → length new ≡ 8
    → length logs ≡ 8
logs_before logs new true same eight = sym (length-map logs reset_log) ∙ sym (ap length same) ∙ eight
logs_before logs new false same eight = sym (ap length same) ∙ eight

-- Of a log file that was told full a line is told unrun.
pub full_leaves : {D : Type 0} {tells : D → Option (List ℕ)} {clock : D → ℕ} {image_at : D → ℕ → List ℕ → Type 0}
    {faults : D → ℕ} {ran : Ran} {logged : ℕ → List Commit} {old : RuntimeState} {before : Vault D}
    → StandsOn tells clock image_at old before → LeavesLinesOut tells clock image_at faults ran logged old before
    → FullLeavesUnrun ran
full_leaves {old = old} {before = before} stands out worker size outcomes below told full =
    let log = item_at old.logs worker (let many = stands.workers in omega (arith, many, below)) in
    let file = growing_file old.side before worker stands.whole below in
    (out.each worker outcomes (Some (LogFull size)) log.0 file.bank told full log.1 file.there).filled size refl
