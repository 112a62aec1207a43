use Rattle.std.proofs.Common.{take}
use Rattle.ei_backend.specs.Outside.{with_more}
use Rattle.reis_server.proofs.Handing.{sent_front}
use Rattle.reis_server.proofs.server.Server.sent.Goals as goal

pub invariant_of-self : goal.invariant_of-self
invariant_of-self c =
    let h = c.self.invariant in
    rw c.drop_front.ensures (record {
      setup = h.setup;
      fed = h.fed;
      sent = with_more (take c.args.bytes c.self.inside.replies.bytes) (take c.args.handles c.self.inside.replies.handles) h.sent;
      given = h.given;
      serving = sent_front h.setup h.fed h.sent h.given _ c.args.bytes c.args.handles h.serving;
    })
