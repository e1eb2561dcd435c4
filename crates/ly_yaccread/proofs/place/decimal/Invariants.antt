use Rattle.ly_yaccread.proofs.PlaceLemmas.{DigitsGoOn}
use Rattle.ly_yaccread.proofs.place.decimal.Given as goal

abbrev pub invariant-loop-digit : goal.invariant-loop-digit
invariant-loop-digit l = DigitsGoOn l.digits l.value l.digit-index
