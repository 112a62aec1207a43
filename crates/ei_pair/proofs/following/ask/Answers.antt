-- A client's handshaker was handed an event: it refuses it, hands the connection over, or goes on.
use Rattle.std.proofs.Common.{Option, Some, Ok, ap, subst, ◌∙◌}
use Rattle.std.proofs.lemmas.Result.{err_from_is_err_and}
use Rattle.ei_handshake.specs.declared.client.HandshakeResp.{HandshakeResp}
use Rattle.ei_handshake.specs.Client.{HandlesEvent}
use Rattle.ei_event.specs.Converter.{ConverterView}
use Rattle.ei_pair.proofs.Finishing.{asks_refused, asks_goes_on, asks_done}
use Rattle.ei_pair.proofs.following.ask.Goals as goal

pub returns-in_err-resp : goal.returns-in_err-resp
returns-in_err-resp g c =
    let p = err_from_is_err_and c.from_residual.result c.from_residual.ensures.1 in
    rw (p.1, p.2) (asks_refused _ _ _ _ _ _ _ c.in_err-resp.ensures.handles c.requires.none)

pub returns-in-Some : goal.returns-in-Some
returns-in-Some g c =
    let resp : HandshakeResp = c.in-Some.resp in
    asks_done _ _ _ _ _ resp _
    (subst (λ (o : Option HandshakeResp). HandlesEvent c.args.asks.now c.args.context.now c.args.event (Ok o) c.handle_event.new.self c.handle_event.new.ctx) c.in-Some.is c.in_ok-resp.ensures.handles)
    (c.replace.ensures.after ∙ ap (λ (x : ConverterView g.row.H.Denot). Some x) c.new.ensures)

pub returns-in-None : goal.returns-in-None
returns-in-None g c =
    asks_goes_on _ _ _ _ _ _
    (subst (λ (o : Option HandshakeResp). HandlesEvent c.args.asks.now c.args.context.now c.args.event (Ok o) c.handle_event.new.self c.handle_event.new.ctx) c.in-None.is c.in_ok-resp.ensures.handles)
    c.requires.none
