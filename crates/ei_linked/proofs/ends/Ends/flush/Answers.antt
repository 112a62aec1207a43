use Rattle.std.proofs.Common.{◌≡◌, true, false, refl, sym, ap, subst, ◌∙◌}
use Rattle.ei_linked.specs.Held.{Held, stored_by}
use Rattle.ei_linked.specs.Stored.{end_in}
use Rattle.ei_linked.specs.Ends.{EndsView, world_in}
use Rattle.ei_linked.specs.Held.{Keeps}
use Rattle.ei_linked.specs.TwoEnds.{WorldView, IsWorld, flushed_end}
use Rattle.ei_linked.proofs.Holding.{keeps_same, on_ok_stored, on_err_stored, keeps_either}
use Rattle.ei_linked.proofs.Kept.{ahead, back, world_of, world_back, flush_joined}
use Rattle.ei_linked.proofs.ends.Ends.flush.Goals as goal

pub returns-in-Client-clause-world : goal.returns-in-Client-clause-world
returns-in-Client-clause-world g c =
    let seen = g.S.HasBackend.seen in
    let v : EndsView g.row.S.Denot = record { client = c.self.inside.client; server = c.self.inside.server; to_client = c.self.inside.to_client; to_server = c.self.inside.to_server; spent = c.self.inside.spent } in
    let w : WorldView = world_in seen v in
    let is : w ≡ world_in seen c.args.self.now = ap (world_in seen) c.self.view_is in
    let whole : w.spent ≡ false = ap (λ (x : WorldView). x.spent) is ∙ c.requires.whole in
    let kept : IsWorld w = subst IsWorld (sym is) c.requires.world in
    let e = c.flush.ensures in
    world_of (stored_by (λ b. b) c.flush.new.self) w.server w.to_client c.flush.new.link w.spent
    (flush_joined c.flush.result false w.client (stored_by (λ b. b) c.flush.new.self) (end_in w.server) w.to_server w.to_client c.flush.new.link (on_ok_stored (λ b. b) (λ _ b. b) (λ _ _. refl) c.flush.result c.self.inside.client c.flush.new.self (flushed_end w.client) e.ok) e.link (on_err_stored (λ b. b) c.flush.result c.self.inside.client c.flush.new.self e.err) e.link_err (ahead w whole kept))

pub returns-in-Client-clause-keeps : goal.returns-in-Client-clause-keeps
returns-in-Client-clause-keeps g c = keeps_same g.S.HasBackend.seen g.S.HasBackend.with_backend g.met.S.HasBackend.with_seen c.args.self.now.server c.self.inside.server (ap (λ (e : EndsView g.row.S.Denot). e.server) c.self.view_is)

pub returns-in-Server-clause-world : goal.returns-in-Server-clause-world
returns-in-Server-clause-world g c =
    let seen = g.S.HasBackend.seen in
    let v : EndsView g.row.S.Denot = record { client = c.self.inside.client; server = c.self.inside.server; to_client = c.self.inside.to_client; to_server = c.self.inside.to_server; spent = c.self.inside.spent } in
    let w : WorldView = world_in seen v in
    let is : w ≡ world_in seen c.args.self.now = ap (world_in seen) c.self.view_is in
    let whole : w.spent ≡ false = ap (λ (x : WorldView). x.spent) is ∙ c.requires.whole in
    let kept : IsWorld w = subst IsWorld (sym is) c.requires.world in
    let e = c.flush-in-Server.ensures in
    world_back w.client (stored_by seen c.flush-in-Server.new.self) c.flush-in-Server.new.link w.to_server w.spent
    (flush_joined c.flush-in-Server.result true w.server (stored_by seen c.flush-in-Server.new.self) (end_in w.client) w.to_client w.to_server c.flush-in-Server.new.link (on_ok_stored seen g.S.HasBackend.with_backend g.met.S.HasBackend.seen_with c.flush-in-Server.result c.self.inside.server c.flush-in-Server.new.self (flushed_end w.server) e.ok) e.link (on_err_stored seen c.flush-in-Server.result c.self.inside.server c.flush-in-Server.new.self e.err) e.link_err (back w whole kept))

pub returns-in-Server-clause-keeps : goal.returns-in-Server-clause-keeps
returns-in-Server-clause-keeps g c = subst (λ (h : Held g.row.S.Denot). Keeps g.S.HasBackend.seen g.S.HasBackend.with_backend h c.flush-in-Server.new.self) (ap (λ (e : EndsView g.row.S.Denot). e.server) c.self.view_is) (keeps_either g.S.HasBackend.seen g.S.HasBackend.with_backend g.met.S.HasBackend.seen_with g.met.S.HasBackend.with_seen c.flush-in-Server.result c.self.inside.server c.flush-in-Server.new.self (flushed_end (stored_by g.S.HasBackend.seen c.self.inside.server)) c.flush-in-Server.ensures.ok c.flush-in-Server.ensures.err)
