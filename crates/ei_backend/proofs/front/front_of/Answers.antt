use Rattle.std.proofs.Common.{◌≡◌, rules, arith}
use Rattle.ei_spec.specs.Message.{size_at, of_le4}
use Rattle.ei_backend.proofs.FrontNeeds.{is_needed}
use Rattle.ei_backend.proofs.front.front_of.Goals as goal

pub returns-then-bytes-end-clause-lawful : goal.returns-then-bytes-end-clause-lawful
unfolding of_le4
returns-then-bytes-end-clause-lawful c =
    let is : size_at c.args.bytes.now ≡ c.from_le_bytes-len.result = search rules in
    is_needed _ _ is (omega (arith, c.if-bytes-lt-HEADER_BYTES.false)) (omega (arith, c.if-len-lt16.false)) (omega (arith, c.if-len-gt-MOST_MESSAGE_BYTES.false)) (omega (arith, c.if-bytes-end.true))
