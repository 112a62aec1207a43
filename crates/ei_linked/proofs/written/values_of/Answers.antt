use Rattle.std.proofs.Common.{◌≤◌, length, ◌∷◌, [], ◌++◌, Err, map, ap, refl, ◌∙◌, arith}
use Rattle.std.proofs.lemmas.Result.{err_from_is_err_and}
use Rattle.ei_rows.specs.Parts.{kind_view}
use Rattle.ei_values.specs.Stored.{all_stored}
use Rattle.ei_linked.specs.declared.written.StoreError.{StoreError}
use Rattle.ei_linked.proofs.Reading.{begins, left_is, one_more, err_stops, at_end, left_at_end}
use Rattle.ei_linked.proofs.written.values_of.Goals as goal

pub loop-place-init : goal.loop-place-init
loop-place-init c = λ vs left h. left_is c.args.kinds.now (all_stored (map kind_view c.args.kinds.now) vs) [] c.new-values.result left c.args.stream.now c.args.stream.now c.new-values.ensures refl (begins c.args.kinds.now vs left c.args.stream.now h)

pub returns-in_err-value_of : goal.returns-in_err-value_of
returns-in_err-value_of c = λ vs left h.
    let o = one_more c.args.kinds.now c.loop-place._place _ (all_stored (map kind_view c.args.kinds.now) vs) c.loop-place.values left c.loop-place.stream c.loop-place-test.true (c.loop-place.invariant vs left h) in
    let p = err_from_is_err_and c.from_residual.result c.from_residual.ensures.1 in
    err_stops _ (map kind_view c.args.kinds.now) o.value vs left o.more c.value_of.new.stream c.from_residual.result c.value_of.result c.in_err-value_of.field-0.0 (p.1 ∙ ap (λ (e : StoreError). Err e) p.2) c.in_err-value_of.was (c.value_of.ensures o.value o.more o.one)

pub loop-place-preserved : goal.loop-place-preserved
loop-place-preserved c = λ vs left h.
    let o = one_more c.args.kinds.now c.loop-place._place _ (all_stored (map kind_view c.args.kinds.now) vs) c.loop-place.values left c.loop-place.stream c.loop-place-test.true (c.loop-place.invariant vs left h) in
    let f = c.in_ok-value_of.ensures o.value o.more o.one in
    left_is _ (all_stored (map kind_view c.args.kinds.now) vs) _ c.push.new.self left o.more c.value_of.new.stream (c.in_ok-push.ensures.ok ∙ ap (λ x. c.loop-place.values ++ (x ∷ [])) f.0) f.1 o.goes

pub returns : goal.returns
returns c = λ vs left h.
    let le : length c.args.kinds.now ≤ c.loop-place._place = omega (arith, c.loop-place-test.false) in
    let p = c.loop-place.invariant vs left h in (
      at_end c.args.kinds.now c.loop-place._place (all_stored (map kind_view c.args.kinds.now) vs) c.loop-place.values left c.loop-place.stream le p,
      left_at_end c.args.kinds.now c.loop-place._place (all_stored (map kind_view c.args.kinds.now) vs) c.loop-place.values left c.loop-place.stream le p,
    )
