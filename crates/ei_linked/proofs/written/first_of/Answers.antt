use Rattle.std.proofs.Common.{inl, inr, arith}
use Rattle.ei_linked.proofs.FirstMessage.{whole, size_is, length_is, is_first}
use Rattle.ei_linked.proofs.written.first_of.Goals as goal

pub returns-in_err-first_chunk-clause-some : goal.returns-in_err-first_chunk-clause-some
returns-in_err-first_chunk-clause-some c = λ m rest law is.
    let w = whole m rest c.args.bytes.now law is in
    absurd (omega (arith, w.header, c.in_err-first_chunk.ensures.cases))

pub returns-then-length-lt16-clause-some : goal.returns-then-length-lt16-clause-some
returns-then-length-lt16-clause-some c = λ m rest law is.
    let n = length_is m rest c.args.bytes.now c.in_ok-first_chunk.field-0.now c.parse-header.result c.in_ok-first_chunk.ensures.cases.same c.parse-header.ensures.value law is in
    let w = whole m rest c.args.bytes.now law is in
    let s = size_is m rest c.args.bytes.now w in
    elim c.then-length-lt16.either [
      | inl low ↦ absurd (omega (arith, n, s, w.low, low))
      | inr high ↦ absurd (omega (arith, n, s, w.long, high.1))
    ]

pub returns-clause-first : goal.returns-clause-first
returns-clause-first c = λ m rest law is. is_first m rest c.args.bytes.now c.in_ok-first_chunk.field-0.now c.parse-header.result c.in_ok-first_chunk.ensures.cases.same c.parse-header.ensures.value law is
