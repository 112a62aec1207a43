use Rattle.reis_lines.proofs.DigitLaws.{Decoded}
use Rattle.reis_lines.proofs.digits.decode_digits.Given as goal

abbrev pub invariant-bytes : goal.invariant-bytes
invariant-bytes l = Decoded l.digits l.bytes l.i l.greatest
