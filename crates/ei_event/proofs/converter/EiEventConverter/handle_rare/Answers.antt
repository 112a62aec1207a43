use Rattle.std.proofs.Common.{rules, ◌≡◌}
use Rattle.ei_event.specs.Converter.{value_of}
use Rattle.ei_event.proofs.Receipts.{keeps_same}
use Rattle.ei_event.proofs.converter.EiEventConverter.handle_rare.Goals as goal

pub returns-in-Callback-clause-receipts : goal.returns-in-Callback-clause-receipts
returns-in-Callback-clause-receipts g c =
    let id : c.id.result ≡ c.in-Callback.target.id = search rules in
    let value : c.value_of.result ≡ value_of c.in-Callback.event = search rules in
    let waiting : c.self.inside.handlers.waiting ≡ c.args.self.now.waiting = search rules in
    let receipts : c.self.inside.handlers.receipts ≡ c.args.self.now.receipts = search rules in
    rw c.in-Callback.is (keeps_same g.H.Call.may_answer c.self.inside.handlers.waiting c.args.self.now.waiting c.id.result c.in-Callback.target.id
    c.value_of.result (value_of c.in-Callback.event) c.self.inside.handlers.receipts c.args.self.now.receipts c.done.new.self.receipts
    waiting id value receipts c.in_ok-done-in-Callback.ensures.receipt)
