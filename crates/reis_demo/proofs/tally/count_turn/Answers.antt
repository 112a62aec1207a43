use Rattle.std.proofs.Common.{List, ap, ◌∙◌, ◌+◌, length}
use Rattle.std.specs.Prelude.{count_by}
use Rattle.ei_request.specs.declared.event.EisRequest.{EisRequest}
use Rattle.reis_demo.specs.Summary.{is_input_request}
use Rattle.reis_demo.proofs.Tallying.{turns_behind, counts_more}
use Rattle.reis_demo.proofs.tally.count_turn.Goals as goal

pub returns-clause-turns : goal.returns-clause-turns
returns-clause-turns g c = λ setup pieces times came stands counts. record {
  more = c.turn-answer.new.out.items;
  counts =
      counts_more came c.turn-answer.new.out.items c.args.tally.now c.count.new.self counts
      (c.count.ensures.requests ∙ ap (λ (x : List EisRequest). c.args.tally.now.requests + length x) c.deref.ensures.value)
      (c.count.ensures.inputs ∙ ap (λ (x : List EisRequest). c.args.tally.now.inputs + count_by is_input_request x) c.deref.ensures.value);
  turns = turns_behind setup pieces times c.turn-answer.new.self came _ _ c.requires.none c.turn-answer.result (c.turn-answer.ensures.turns setup pieces times stands);
}
