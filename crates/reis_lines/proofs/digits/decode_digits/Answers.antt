use Rattle.std.proofs.Common.{arith, refl}
use Rattle.reis_lines.proofs.DigitLaws.{one_more, decoded_all}
use Rattle.reis_lines.proofs.digits.decode_digits.Goals as goal

pub bytes-preserved : goal.bytes-preserved
bytes-preserved c =
    one_more c.args.digits.now c.bytes.bytes c.bytes.i c.bytes.greatest _ (omega arith) (omega arith) c.bytes.invariant
    c.digit_value-high.result c.digit_value-low.result c.max.result c.max-greatest.result
    c.digit_value-high.ensures c.digit_value-low.ensures c.max.ensures c.max-greatest.ensures refl

pub returns : goal.returns
returns c = decoded_all c.args.digits.now c.bytes.bytes c.bytes.i c.bytes.greatest (omega arith) (omega arith) c.bytes.invariant
