use Rattle.decimals.specs.Digits.{AllDigits-digits_at}
use Rattle.decimals.proofs.read.number_at.Goals as goal

pub digits_number-requires : goal.digits_number-requires
digits_number-requires c = rw (c.split_at.ensures.front, c.digits_len.ensures.value) (AllDigits-digits_at c.args.bytes.now)
