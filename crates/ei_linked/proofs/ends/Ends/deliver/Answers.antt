use Rattle.std.proofs.Common.{◌≡◌, ◌≤◌, length, true, false, sym, ap, subst, ◌∙◌}
use Rattle.ei_linked.specs.declared.side.Side.{Side}
use Rattle.ei_linked.specs.declared.side.Side.TheVariants as side
use Rattle.ei_linked.specs.Held.{Held, stored_by}
use Rattle.ei_linked.specs.Stored.{StoredEnd, end_in}
use Rattle.ei_linked.specs.Ends.{EndsView, world_in}
use Rattle.ei_linked.specs.Held.{Keeps}
use Rattle.ei_spec.specs.declared.limits.TheConstants.{MOST_UNREAD_HANDLES}
use Rattle.ei_ends.specs.Agree.{handles_sent}
use Rattle.ei_linked.specs.TwoEnds.{WorldView, IsWorld, end_of, other_side, DeliversAt}
use Rattle.ei_linked.proofs.Holding.{keeps_same}
use Rattle.ei_linked.proofs.Kept.{world, ahead, back, world_of, world_back, deliver_joined, never_closes, client_delivers, server_delivers}
use Rattle.ei_linked.proofs.ends.Ends.deliver.Goals as goal

pub returns-in-Client-clause-world : goal.returns-in-Client-clause-world
returns-in-Client-clause-world g c =
    let seen = g.S.HasBackend.seen in
    let v : EndsView g.row.S.Denot = record { client = c.self.inside.client; server = c.self.inside.server; to_client = c.self.inside.to_client; to_server = c.self.inside.to_server; spent = c.self.inside.spent } in
    let w : WorldView = world_in seen v in
    let is : w ≡ world_in seen c.args.self.now = ap (world_in seen) c.self.view_is in
    let whole : w.spent ≡ false = ap (λ (x : WorldView). x.spent) is ∙ c.requires.whole in
    let kept : IsWorld w = subst IsWorld (sym is) c.requires.world in
    world_back (stored_by (λ b. b) c.deliver.new.self) w.server c.deliver.new.link w.to_server w.spent
    (deliver_joined c.args.n c.deliver.result true (end_in w.server) w.client (stored_by (λ b. b) c.deliver.new.self) w.to_client w.to_server c.deliver.new.link c.requires.most c.deliver.ensures.delivers (back w whole kept))

pub returns-in-Client-clause-delivers : goal.returns-in-Client-clause-delivers
returns-in-Client-clause-delivers g c =
    let seen = g.S.HasBackend.seen in
    let v : EndsView g.row.S.Denot = record { client = c.self.inside.client; server = c.self.inside.server; to_client = c.self.inside.to_client; to_server = c.self.inside.to_server; spent = c.self.inside.spent } in
    let w : WorldView = world_in seen v in
    let is : w ≡ world_in seen c.args.self.now = ap (world_in seen) c.self.view_is in
    let whole : w.spent ≡ false = ap (λ (x : WorldView). x.spent) is ∙ c.requires.whole in
    let kept : IsWorld w = subst IsWorld (sym is) c.requires.world in
    let x : StoredEnd = (stored_by (λ b. b) c.deliver.new.self) in
    let h : DeliversAt side.Client c.args.n c.deliver.result w (world x w.server c.deliver.new.link w.to_server w.spent) = client_delivers c.args.n c.deliver.result w x c.deliver.new.link c.deliver.ensures.delivers in
    subst (λ (s : Side). DeliversAt s c.args.n c.deliver.result (world_in seen c.args.self.now) (world x w.server c.deliver.new.link w.to_server w.spent)) (sym c.in-Client.is)
    (subst (λ (z : WorldView). DeliversAt side.Client c.args.n c.deliver.result z (world x w.server c.deliver.new.link w.to_server w.spent)) is h)

pub returns-in-Client-clause-few : goal.returns-in-Client-clause-few
returns-in-Client-clause-few g c few e =
    let seen = g.S.HasBackend.seen in
    let v : EndsView g.row.S.Denot = record { client = c.self.inside.client; server = c.self.inside.server; to_client = c.self.inside.to_client; to_server = c.self.inside.to_server; spent = c.self.inside.spent } in
    let w : WorldView = world_in seen v in
    let is : w ≡ world_in seen c.args.self.now = ap (world_in seen) c.self.view_is in
    let whole : w.spent ≡ false = ap (λ (x : WorldView). x.spent) is ∙ c.requires.whole in
    let kept : IsWorld w = subst IsWorld (sym is) c.requires.world in
    let here : length (handles_sent (end_of (other_side side.Client) (world_in seen c.args.self.now)).sent) ≤ MOST_UNREAD_HANDLES = subst (λ (s : Side). length (handles_sent (end_of (other_side s) (world_in seen c.args.self.now)).sent) ≤ MOST_UNREAD_HANDLES) c.in-Client.is few in
    let sent : length (handles_sent (end_in w.server).sent) ≤ MOST_UNREAD_HANDLES = subst (λ (z : WorldView). length (handles_sent (end_in z.server).sent) ≤ MOST_UNREAD_HANDLES) (sym is) here in
    never_closes c.args.n c.deliver.result true (end_in w.server) w.client (stored_by (λ b. b) c.deliver.new.self) w.to_client w.to_server c.deliver.new.link c.requires.most c.deliver.ensures.delivers (back w whole kept) sent e

pub returns-in-Client-clause-keeps : goal.returns-in-Client-clause-keeps
returns-in-Client-clause-keeps g c = keeps_same g.S.HasBackend.seen g.S.HasBackend.with_backend g.met.S.HasBackend.with_seen c.args.self.now.server c.self.inside.server (ap (λ (e : EndsView g.row.S.Denot). e.server) c.self.view_is)

pub returns-in-Server-clause-world : goal.returns-in-Server-clause-world
returns-in-Server-clause-world g c =
    let seen = g.S.HasBackend.seen in
    let v : EndsView g.row.S.Denot = record { client = c.self.inside.client; server = c.self.inside.server; to_client = c.self.inside.to_client; to_server = c.self.inside.to_server; spent = c.self.inside.spent } in
    let w : WorldView = world_in seen v in
    let is : w ≡ world_in seen c.args.self.now = ap (world_in seen) c.self.view_is in
    let whole : w.spent ≡ false = ap (λ (x : WorldView). x.spent) is ∙ c.requires.whole in
    let kept : IsWorld w = subst IsWorld (sym is) c.requires.world in
    world_of w.client (stored_by seen c.deliver-in-Server.new.self) w.to_client c.deliver-in-Server.new.link w.spent
    (deliver_joined c.args.n c.deliver-in-Server.result false (end_in w.client) w.server (stored_by seen c.deliver-in-Server.new.self) w.to_server w.to_client c.deliver-in-Server.new.link c.requires.most c.deliver-in-Server.ensures.delivers (ahead w whole kept))

pub returns-in-Server-clause-delivers : goal.returns-in-Server-clause-delivers
returns-in-Server-clause-delivers g c =
    let seen = g.S.HasBackend.seen in
    let v : EndsView g.row.S.Denot = record { client = c.self.inside.client; server = c.self.inside.server; to_client = c.self.inside.to_client; to_server = c.self.inside.to_server; spent = c.self.inside.spent } in
    let w : WorldView = world_in seen v in
    let is : w ≡ world_in seen c.args.self.now = ap (world_in seen) c.self.view_is in
    let whole : w.spent ≡ false = ap (λ (x : WorldView). x.spent) is ∙ c.requires.whole in
    let kept : IsWorld w = subst IsWorld (sym is) c.requires.world in
    let x : StoredEnd = (stored_by seen c.deliver-in-Server.new.self) in
    let h : DeliversAt side.Server c.args.n c.deliver-in-Server.result w (world w.client x w.to_client c.deliver-in-Server.new.link w.spent) = server_delivers c.args.n c.deliver-in-Server.result w x c.deliver-in-Server.new.link c.deliver-in-Server.ensures.delivers in
    subst (λ (s : Side). DeliversAt s c.args.n c.deliver-in-Server.result (world_in seen c.args.self.now) (world w.client x w.to_client c.deliver-in-Server.new.link w.spent)) (sym c.in-Server.is)
    (subst (λ (z : WorldView). DeliversAt side.Server c.args.n c.deliver-in-Server.result z (world w.client x w.to_client c.deliver-in-Server.new.link w.spent)) is h)

pub returns-in-Server-clause-few : goal.returns-in-Server-clause-few
returns-in-Server-clause-few g c few e =
    let seen = g.S.HasBackend.seen in
    let v : EndsView g.row.S.Denot = record { client = c.self.inside.client; server = c.self.inside.server; to_client = c.self.inside.to_client; to_server = c.self.inside.to_server; spent = c.self.inside.spent } in
    let w : WorldView = world_in seen v in
    let is : w ≡ world_in seen c.args.self.now = ap (world_in seen) c.self.view_is in
    let whole : w.spent ≡ false = ap (λ (x : WorldView). x.spent) is ∙ c.requires.whole in
    let kept : IsWorld w = subst IsWorld (sym is) c.requires.world in
    let here : length (handles_sent (end_of (other_side side.Server) (world_in seen c.args.self.now)).sent) ≤ MOST_UNREAD_HANDLES = subst (λ (s : Side). length (handles_sent (end_of (other_side s) (world_in seen c.args.self.now)).sent) ≤ MOST_UNREAD_HANDLES) c.in-Server.is few in
    let sent : length (handles_sent (end_in w.client).sent) ≤ MOST_UNREAD_HANDLES = subst (λ (z : WorldView). length (handles_sent (end_in z.client).sent) ≤ MOST_UNREAD_HANDLES) (sym is) here in
    never_closes c.args.n c.deliver-in-Server.result false (end_in w.client) w.server (stored_by seen c.deliver-in-Server.new.self) w.to_server w.to_client c.deliver-in-Server.new.link c.requires.most c.deliver-in-Server.ensures.delivers (ahead w whole kept) sent e

pub returns-in-Server-clause-keeps : goal.returns-in-Server-clause-keeps
returns-in-Server-clause-keeps g c = subst (λ (h : Held g.row.S.Denot). Keeps g.S.HasBackend.seen g.S.HasBackend.with_backend h c.deliver-in-Server.new.self) (ap (λ (e : EndsView g.row.S.Denot). e.server) c.self.view_is) c.deliver-in-Server.ensures.keeps
