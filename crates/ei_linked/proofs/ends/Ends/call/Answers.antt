use Rattle.std.proofs.Common.{◌≡◌, true, false, sym, ap, subst, ◌∙◌}
use Rattle.ei_linked.specs.declared.side.Side.{Side}
use Rattle.ei_linked.specs.declared.side.Side.TheVariants as side
use Rattle.ei_linked.specs.Held.{Held, stored_by}
use Rattle.ei_linked.specs.Stored.{StoredEnd, end_in}
use Rattle.ei_linked.specs.Ends.{EndsView, world_in}
use Rattle.ei_linked.specs.Held.{Keeps}
use Rattle.ei_linked.specs.declared.record.Record.{Record}
use Rattle.ei_linked.specs.Asked.{IsOfRow}
use Rattle.ei_linked.specs.TwoEnds.{WorldView, IsWorld, MayAsk, asked_for, Calls, sends}
use Rattle.ei_linked.proofs.Holding.{keeps_same}
use Rattle.ei_linked.proofs.Kept.{world, ahead, back, world_of, world_back, call_joined, client_calls, server_calls}
use Rattle.ei_linked.proofs.ends.Ends.call.Goals as goal

pub ask-requires : goal.ask-requires
ask-requires g c = record { row = subst (λ (s : Side). IsOfRow (sends s) c.args.target.interface c.args.opcode c.args.values.now) c.in-Client.is c.requires.may.row }

pub returns-in-Client-clause-world : goal.returns-in-Client-clause-world
returns-in-Client-clause-world g c =
    let seen = g.S.HasBackend.seen in
    let v : EndsView g.row.S.Denot = record { client = c.self.inside.client; server = c.self.inside.server; to_client = c.self.inside.to_client; to_server = c.self.inside.to_server; spent = c.self.inside.spent } in
    let w : WorldView = world_in seen v in
    let is : w ≡ world_in seen c.args.self.now = ap (world_in seen) c.self.view_is in
    let whole : w.spent ≡ false = ap (λ (x : WorldView). x.spent) is ∙ c.requires.whole in
    let kept : IsWorld w = subst IsWorld (sym is) c.requires.world in
    let may : MayAsk side.Client w c.args.target.id c.args.target.interface c.args.target.version c.args.opcode c.args.values.now =
    subst (λ (z : WorldView). MayAsk side.Client z c.args.target.id c.args.target.interface c.args.target.version c.args.opcode c.args.values.now) (sym is)
    (subst (λ (s : Side). MayAsk s (world_in seen c.args.self.now) c.args.target.id c.args.target.interface c.args.target.version c.args.opcode c.args.values.now) c.in-Client.is c.requires.may) in
    let m : Record = asked_for side.Client w c.args.target.id c.args.target.interface c.args.target.version c.args.opcode c.args.values.now in
    world_of (stored_by (λ b. b) c.ask.new.self) w.server w.to_client w.to_server w.spent
    (call_joined c.ask.result false w.client (stored_by (λ b. b) c.ask.new.self) (end_in w.server) w.to_server w.to_client m may.met c.ask.ensures.sends c.ask.ensures.sendable (ahead w whole kept))

pub returns-in-Client-clause-calls : goal.returns-in-Client-clause-calls
returns-in-Client-clause-calls g c =
    let seen = g.S.HasBackend.seen in
    let v : EndsView g.row.S.Denot = record { client = c.self.inside.client; server = c.self.inside.server; to_client = c.self.inside.to_client; to_server = c.self.inside.to_server; spent = c.self.inside.spent } in
    let w : WorldView = world_in seen v in
    let is : w ≡ world_in seen c.args.self.now = ap (world_in seen) c.self.view_is in
    let whole : w.spent ≡ false = ap (λ (x : WorldView). x.spent) is ∙ c.requires.whole in
    let kept : IsWorld w = subst IsWorld (sym is) c.requires.world in
    let m : Record = asked_for side.Client w c.args.target.id c.args.target.interface c.args.target.version c.args.opcode c.args.values.now in
    let x : StoredEnd = (stored_by (λ b. b) c.ask.new.self) in
    let h : Calls side.Client m c.ask.result w (world x w.server w.to_client w.to_server w.spent) = client_calls c.ask.result w x m whole kept c.ask.ensures.sends in
    subst (λ (s : Side). Calls s (asked_for s (world_in seen c.args.self.now) c.args.target.id c.args.target.interface c.args.target.version c.args.opcode c.args.values.now) c.ask.result (world_in seen c.args.self.now) (world x w.server w.to_client w.to_server w.spent)) (sym c.in-Client.is)
    (subst (λ (z : WorldView). Calls side.Client (asked_for side.Client z c.args.target.id c.args.target.interface c.args.target.version c.args.opcode c.args.values.now) c.ask.result z (world x w.server w.to_client w.to_server w.spent)) is h)

pub returns-in-Client-clause-keeps : goal.returns-in-Client-clause-keeps
returns-in-Client-clause-keeps g c = keeps_same g.S.HasBackend.seen g.S.HasBackend.with_backend g.met.S.HasBackend.with_seen c.args.self.now.server c.self.inside.server (ap (λ (e : EndsView g.row.S.Denot). e.server) c.self.view_is)

pub ask-requires-in-Server : goal.ask-requires-in-Server
ask-requires-in-Server g c = record { row = subst (λ (s : Side). IsOfRow (sends s) c.args.target.interface c.args.opcode c.args.values.now) c.in-Server.is c.requires.may.row }

pub returns-in-Server-clause-world : goal.returns-in-Server-clause-world
returns-in-Server-clause-world g c =
    let seen = g.S.HasBackend.seen in
    let v : EndsView g.row.S.Denot = record { client = c.self.inside.client; server = c.self.inside.server; to_client = c.self.inside.to_client; to_server = c.self.inside.to_server; spent = c.self.inside.spent } in
    let w : WorldView = world_in seen v in
    let is : w ≡ world_in seen c.args.self.now = ap (world_in seen) c.self.view_is in
    let whole : w.spent ≡ false = ap (λ (x : WorldView). x.spent) is ∙ c.requires.whole in
    let kept : IsWorld w = subst IsWorld (sym is) c.requires.world in
    let may : MayAsk side.Server w c.args.target.id c.args.target.interface c.args.target.version c.args.opcode c.args.values.now =
    subst (λ (z : WorldView). MayAsk side.Server z c.args.target.id c.args.target.interface c.args.target.version c.args.opcode c.args.values.now) (sym is)
    (subst (λ (s : Side). MayAsk s (world_in seen c.args.self.now) c.args.target.id c.args.target.interface c.args.target.version c.args.opcode c.args.values.now) c.in-Server.is c.requires.may) in
    let m : Record = asked_for side.Server w c.args.target.id c.args.target.interface c.args.target.version c.args.opcode c.args.values.now in
    world_back w.client (stored_by seen c.ask-in-Server.new.self) w.to_client w.to_server w.spent
    (call_joined c.ask-in-Server.result true w.server (stored_by seen c.ask-in-Server.new.self) (end_in w.client) w.to_client w.to_server m may.met c.ask-in-Server.ensures.sends c.ask-in-Server.ensures.sendable (back w whole kept))

pub returns-in-Server-clause-calls : goal.returns-in-Server-clause-calls
returns-in-Server-clause-calls g c =
    let seen = g.S.HasBackend.seen in
    let v : EndsView g.row.S.Denot = record { client = c.self.inside.client; server = c.self.inside.server; to_client = c.self.inside.to_client; to_server = c.self.inside.to_server; spent = c.self.inside.spent } in
    let w : WorldView = world_in seen v in
    let is : w ≡ world_in seen c.args.self.now = ap (world_in seen) c.self.view_is in
    let whole : w.spent ≡ false = ap (λ (x : WorldView). x.spent) is ∙ c.requires.whole in
    let kept : IsWorld w = subst IsWorld (sym is) c.requires.world in
    let m : Record = asked_for side.Server w c.args.target.id c.args.target.interface c.args.target.version c.args.opcode c.args.values.now in
    let x : StoredEnd = (stored_by seen c.ask-in-Server.new.self) in
    let h : Calls side.Server m c.ask-in-Server.result w (world w.client x w.to_client w.to_server w.spent) = server_calls c.ask-in-Server.result w x m whole kept c.ask-in-Server.ensures.sends in
    subst (λ (s : Side). Calls s (asked_for s (world_in seen c.args.self.now) c.args.target.id c.args.target.interface c.args.target.version c.args.opcode c.args.values.now) c.ask-in-Server.result (world_in seen c.args.self.now) (world w.client x w.to_client w.to_server w.spent)) (sym c.in-Server.is)
    (subst (λ (z : WorldView). Calls side.Server (asked_for side.Server z c.args.target.id c.args.target.interface c.args.target.version c.args.opcode c.args.values.now) c.ask-in-Server.result z (world w.client x w.to_client w.to_server w.spent)) is h)

pub returns-in-Server-clause-keeps : goal.returns-in-Server-clause-keeps
returns-in-Server-clause-keeps g c = subst (λ (h : Held g.row.S.Denot). Keeps g.S.HasBackend.seen g.S.HasBackend.with_backend h c.ask-in-Server.new.self) (ap (λ (e : EndsView g.row.S.Denot). e.server) c.self.view_is) c.ask-in-Server.ensures.keeps
