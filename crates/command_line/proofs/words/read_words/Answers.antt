use Rattle.std.proofs.Common.{◌≡◌, ◌∙◌, ap, refl, sym, map, List, ℕ, Ok, Bor, inl}
use Rattle.clap.specs.Words.{app_of, fault_of, kind_of, IsAmong}
use Rattle.clap.specs.declared.error.kind.ErrorKind.TheVariants.{OutOfMemory}
use Rattle.command_line.specs.Commands.{program}
use Rattle.command_line.specs.Options.{command_of}
use Rattle.command_line.specs.declared.command.Command.{Command}
use Rattle.command_line.specs.declared.command.Command.TheVariants.{Refused}
use Rattle.command_line.proofs.Plain.{among, answer, fails, refused_numbers, taken}
use Rattle.command_line.proofs.words.read_words.Goals as goal

pub returns-in-Ok : goal.returns-in-Ok
returns-in-Ok c =
    let words = map (λ (w : Bor (List ℕ)). w.now) c.args.words.now in
    let e = c.in-Ok.ensures in
    let is = c.asked.ensures ∙ taken (app_of c.in_ok-program.program) words c.in-Ok.matches c.in_ok-program.ensures e.kinds e.matches in
    let a = answer words c.asked.result is in
    record {
      command = is;
      plain = λ options p. ap (λ (x : Command). Ok x) (a.plain options p);
      plain_dump = λ p. ap (λ (x : Command). Ok x) (a.plain_dump p);
      plain_snaps = λ p. ap (λ (x : Command). Ok x) (a.plain_snaps p);
      plain_snap = λ epoch p. ap (λ (x : Command). Ok x) (a.plain_snap epoch p);
      plain_make = λ arguments p. ap (λ (x : Command). Ok x) (a.plain_make arguments p);
      ranges = λ options h. a.ranges options (cc);
      made_ranges = λ arguments h. a.made_ranges arguments (cc);
      epoch_range = λ epoch h. a.epoch_range epoch (cc);
      refused = λ h.
          let none : c.asked.result ≡ Refused = cc in
          refused_numbers (app_of c.in_ok-program.program) words c.in-Ok.matches c.in_ok-program.ensures e.matches (sym c.asked.ensures ∙ none);
      help = λ h. ap (λ (x : Command). Ok x) (a.help h);
    }

pub returns : goal.returns
returns c =
    let words = map (λ (w : Bor (List ℕ)). w.now) c.args.words.now in
    let kind = kind_of c.in-Err.error in
    let other = λ (e : kind ≡ OutOfMemory). c.in_default.not-OutOfMemory (c.kind.ensures ∙ e) in
    let is_among : IsAmong kind (fault_of program words) = among (app_of c.in_ok-program.program) words kind c.in_ok-program.ensures c.in-Err.ensures.kinds other in
    let is : Refused ≡ command_of words = fails words kind is_among in
    let a = answer words Refused is in
    record {
      command = is;
      plain = λ options p. ap (λ (x : Command). Ok x) (a.plain options p);
      plain_dump = λ p. ap (λ (x : Command). Ok x) (a.plain_dump p);
      plain_snaps = λ p. ap (λ (x : Command). Ok x) (a.plain_snaps p);
      plain_snap = λ epoch p. ap (λ (x : Command). Ok x) (a.plain_snap epoch p);
      plain_make = λ arguments p. ap (λ (x : Command). Ok x) (a.plain_make arguments p);
      ranges = λ options h. a.ranges options (cc);
      made_ranges = λ arguments h. a.made_ranges arguments (cc);
      epoch_range = λ epoch h. a.epoch_range epoch (cc);
      refused = λ h. inl (kind, is_among, other);
      help = λ h. refl;
    }
