use Rattle.std.proofs.Common.{◌≡◌, rules, true, None}
use Rattle.std.specs.List.{list_all}
use Rattle.std.specs.Char.{is_ascii_digit}
use Rattle.decimals.specs.Numbers.{number_of}
use Rattle.decimals.specs.Digits.{AllDigits-all}
use Rattle.decimals.specs.Laws.{exactly_number}
use Rattle.decimals.proofs.read.number_of.Goals as goal

pub digits_number-requires : goal.digits_number-requires
digits_number-requires c =
    let all : list_all is_ascii_digit c.args.bytes.now ≡ true = cc in
    AllDigits-all c.args.bytes.now all

pub returns-then-are_digits-clause-exact : goal.returns-then-are_digits-clause-exact
unfolding number_of
returns-then-are_digits-clause-exact c =
    let is : c.digits_number.result ≡ number_of c.args.bytes.now = search rules in
    exactly_number c.digits_number.result c.args.bytes.now is

pub returns-else-are_digits-clause-exact : goal.returns-else-are_digits-clause-exact
unfolding number_of
returns-else-are_digits-clause-exact c =
    let is : None ≡ number_of c.args.bytes.now = search rules in
    exactly_number None c.args.bytes.now is
