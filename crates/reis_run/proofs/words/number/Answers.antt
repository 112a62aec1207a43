use Rattle.std.proofs.Common.{◌≡◌, sym, ap, ◌∙◌, true}
use Rattle.reis_run.specs.Words.{is_plain}
use Rattle.reis_run.proofs.WordLaws.{parsed, parsed_over, parsed_none}
use Rattle.reis_run.proofs.words.number.Goals as goal

pub returns-then-n-limit-clause-value : goal.returns-then-n-limit-clause-value
returns-then-n-limit-clause-value c =
    let plain : is_plain c.args.text.now ≡ true = ap is_plain (sym c.as_bytes.ensures.value) ∙ sym c.is_plain.ensures ∙ c.if-not-is_plain.false in
    parsed c.args.text.now _ _ c.parse.result c.parse.ensures.value.0 c.in-Ok.is plain c.if-n-limit.true

pub returns-else-n-limit-clause-value : goal.returns-else-n-limit-clause-value
returns-else-n-limit-clause-value c =
    let plain : is_plain c.args.text.now ≡ true = ap is_plain (sym c.as_bytes.ensures.value) ∙ sym c.is_plain.ensures ∙ c.if-not-is_plain.false in
    parsed_over c.args.text.now _ _ c.parse.result c.parse.ensures.value.0 c.in-Ok.is plain c.if-n-limit.false

pub returns-in-Err-clause-value : goal.returns-in-Err-clause-value
returns-in-Err-clause-value c =
    let plain : is_plain c.args.text.now ≡ true = ap is_plain (sym c.as_bytes.ensures.value) ∙ sym c.is_plain.ensures ∙ c.if-not-is_plain.false in
    parsed_none c.args.text.now _ c.parse.result _ c.parse.ensures.value.0 c.in-Err.is plain c.ranges.limit.fits
