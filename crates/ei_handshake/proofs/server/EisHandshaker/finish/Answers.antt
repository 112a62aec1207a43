use Rattle.std.proofs.Common.{◌≡◌, true, ap, ◌∙◌, refl}
use Rattle.std.proofs.lemmas.Result.{err_from_is_err_and}
use Rattle.ei_handshake.specs.Handshaker.{HandshakerView, has_required, kept_events, sends}
use Rattle.ei_handshake.proofs.Room.{refuses}
use Rattle.ei_handshake.proofs.server.EisHandshaker.finish.Goals as goal

pub returns-in_err-connection-clause-err : goal.returns-in_err-connection-clause-err
returns-in_err-connection-clause-err c =
    let p = err_from_is_err_and c.from_residual-in_err-connection.result c.from_residual-in_err-connection.ensures.1 in
    let told : c.send_kept.new.ctx ≡ sends c.make_room.new.ctx (kept_events c.args.handshake.now.id c.args.self.now.versions) =
    c.send_kept.ensures.sends ∙ ap (λ (v : HandshakerView). sends c.make_room.new.ctx (kept_events c.args.handshake.now.id v.versions)) c.self.view_is in
    let complete : has_required c.args.self.now.versions ≡ true = cc in
    refuses c.args.ctx.now c.make_room.new.ctx c.send_kept.new.ctx c.args.handshake.now c.args.self.now.versions c.in_ok-make_room.ensures.ok told
    c.args.self.now _ _ c.in_err-connection.field-0.0 _ c.connection.result p.0 _ refl complete refl c.in_err-connection.ensures.sends.err c.in_err-connection.was c.connection.ensures.sends
    c.send_kept.ensures.spare p.1 p.2
