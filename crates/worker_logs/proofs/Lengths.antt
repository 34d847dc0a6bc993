-- The lengths that eight marks count.
use Rattle.std.proofs.Common.{◌≡◌, ◌<◌, ◌∷◌, ℕ, suc, List, [], length, map, get_or, drop, drop-cons}
use Rattle.std.proofs.Common.{sym, ◌∙◌, ap, arith}
use Rattle.std.proofs.lemmas.List.{drop_all}
use Rattle.wire_form.specs.declared.clock.Mark.{Mark}
use Rattle.worker_logs.specs.Logs.{LogState}
use Rattle.worker_logs.specs.Saves.{logs_marks}

-- what the marks of logs count, one log after another
abbrev pub lengths_marked : List LogState → List ℕ
lengths_marked logs = map (λ (m : Mark). m.length) (logs_marks logs)

pub lengths_from : (logs : List LogState) (i : ℕ) (log : LogState) (m : Mark) (rest : List ℕ) → i < length logs
    → log ≡ get_or logs i log → m ≡ log.mark → rest ≡ lengths_marked (drop (suc i) logs)
    → m.length ∷ rest ≡ lengths_marked (drop i logs)
lengths_from logs i log m rest within is mark same =
    ap (λ (n : ℕ). n ∷ rest) (ap (λ (m : Mark). m.length) mark) ∙ ap (λ l. log.mark.length ∷ l) same
    ∙ ap (λ (x : LogState). x.mark.length ∷ lengths_marked (drop (suc i) logs)) is
    ∙ sym (ap lengths_marked (drop-cons logs i log within))

pub lengths_end : (logs : List LogState) → length logs ≡ 8 → [] ≡ lengths_marked (drop 8 logs)
lengths_end logs eight = sym (ap lengths_marked (drop_all 8 logs (omega (arith, eight))))
