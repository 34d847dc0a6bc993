-- The main theorem, command by command: what a call comes to over its source, its sink and its vault. `top` ensures
-- `Answers` of what its sink holds; the calls below it ensure the same of what is added to be printed.
use Rattle.std.specs.Prelude.{◌≡◌, ℕ, List, Option, true}
use Rattle.log_writer.specs.declared.vault.Vault.{Vault}
use Rattle.joint_crashes.specs.VaultReads.{VaultOnlyReads}
use Rattle.script_grammar.specs.Script.{Bytes}
use Rattle.tx_script.specs.Run.{Ran}
use Rattle.command_line.specs.declared.command.Command.{Command}
use Rattle.command_line.specs.declared.command.Command.TheVariants.{Run, Make}
use Rattle.command_line.specs.declared.command.MakeArguments.{MakeArguments}
use Rattle.command_line.specs.declared.command.RunOptions.{RunOptions}
use Rattle.program_calls.specs.Causes.{AnswersDevices, AnswersFaults, Counts, IsInFull, IsStatus, LeavesVault}
use Rattle.program_calls.specs.Causes.{ReadsDamage, ReadsNoSource, ReadsOnly, RestsAgain}
use Rattle.program_calls.specs.Ending.{TakesAtMost, body_text}
use Rattle.program_calls.specs.InBrief.{CameInBrief}
use Rattle.program_calls.specs.Listings.{IsListing, Listed}
use Rattle.program_calls.specs.Made.{Makes}
use Rattle.program_calls.specs.Main.{Came}
use Rattle.program_calls.specs.Vaults.{Vaults}
use Rattle.program_calls.specs.declared.ending.Ending.{Ending}

-- The source of a call, before it and after it: what it had, where it tells that, what is left of it, and the counts of
-- its faults.
pub record Sources (S : Type 0) : Type 0 where
  pub was : S
  pub is : S
  pub had : Option Bytes
  pub left : Option Bytes
  pub faults : Counts

-- the same by its parts
abbrev pub sources_of : {S : Type 0} → (S → Option Bytes) → (S → ℕ) → S → S → Sources S
sources_of left faults was is = record {
  was = was;
  is = is;
  had = left was;
  left = left is;
  faults = record { before = faults was; after = faults is };
}

-- What is shown of a text and an ending, shown of the rounds that the text tells line by line.
abbrev pub in_lines : Command → (Bytes → Ending → Type 0) → List Ran → Ending → Type 0
in_lines command Shows rans ending = Shows (body_text command rans ending) ending

-- What a call of this command comes to, over this source and this vault, with these counts of the sink's faults and
-- this status; and of its text and its ending this is shown.
pub record Answers {D S : Type 0} (v : Vaults D) (command : Command) (source : Sources S) (sink : Counts) (status : ℕ)
    (Shows : Bytes → Ending → Type 0) : Type 0 where
  -- A run that tells its lines, `make`, and words that ask for nothing: what was run, kept and printed.
  pub in_full : IsInFull command → Came v command source.had source.left (in_lines command Shows)
  -- `run --brief`: the same of its counts and its sum.
  pub in_brief : (options : RunOptions) → command ≡ Run options → options.brief ≡ true
      → CameInBrief v options source.had source.left Shows
  -- `dump`, `snaps` and `snap`: what is told of what the vault keeps.
  pub listed : IsListing command → Listed command v.tells v.faults v.was v.is Shows
  -- `make`: which script, whatever the source tells.
  pub made : (arguments : MakeArguments) → command ≡ Make arguments → Makes arguments Shows
  -- No other status comes of the command;
  pub statuses : IsStatus command status
  -- 3 and 4 only where the source or the sink failed,
  pub faults : AnswersFaults source.faults sink status
  -- and 5 only where a device did, 0 only where none did.
  pub devices : AnswersDevices v.faults v.was v.is status
  -- A source that isn't asked for stays as it is; of another one at most the longest script and one byte are taken.
  pub spared : ReadsNoSource command → source.is ≡ source.was
  pub taken : TakesAtMost source.had source.left
  -- A vault that isn't asked for stays as it is;
  pub untouched : LeavesVault command → v.is ≡ v.was
  -- one that is only told of, or refused, is only read,
  pub reads : ReadsOnly command status → VaultOnlyReads v.tells v.clock v.image_at v.faults v.was v.is
  -- as is one that is damaged, where its devices tell their bytes;
  pub damage : ReadsDamage v.tells v.clock v.image_at v.faults status v.was v.is
  -- and where its save had one image it has one again: the next call may begin.
  pub rests : RestsAgain v.tells v.clock v.image_at status v.was v.is
