-- Why.
use Rattle.page_records.proofs.ends.forget.Given as goal

abbrev pub ghosts-forget_as : goal.ghosts-forget_as
ghosts-forget_as a = record { why = a.why }
