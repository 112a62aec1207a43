use Rattle.std.proofs.Common.{◌≡◌, length, false, refl, sym, ap, subst, ◌∙◌}
use Rattle.ei_linked.specs.declared.side.Side.TheVariants as side
use Rattle.ei_linked.specs.Held.{Held, stored_by}
use Rattle.ei_linked.specs.Stored.{StoredEnd, end_in}
use Rattle.ei_linked.specs.Ends.{EndsView, world_in}
use Rattle.ei_linked.specs.Held.{Keeps}
use Rattle.ei_server.specs.Request.{target_of as request_target, opcode_of as request_code, values_of as request_values}
use Rattle.ei_linked.specs.TwoEnds.{WorldView, IsWorld, read_world, AllDeliveredAt, end_of}
use Rattle.ei_linked.proofs.Kept.{world, ahead, world_of, read_joined, read_is, read_never, read_all, waits_of}
use Rattle.ei_linked.proofs.ReadRows.{reads_rows}
use Rattle.ei_linked.proofs.ends.Ends.read_server.Goals as goal

pub read-requires : goal.read-requires
read-requires g c =
    let seen = g.S.HasBackend.seen in
    let v : EndsView g.row.S.Denot = record { client = c.self.inside.client; server = c.self.inside.server; to_client = c.self.inside.to_client; to_server = c.self.inside.to_server; spent = c.self.inside.spent } in
    let w : WorldView = world_in seen v in
    let is : w ≡ world_in seen c.args.self.now = ap (world_in seen) c.self.view_is in
    let whole : w.spent ≡ false = ap (λ (x : WorldView). x.spent) is ∙ c.requires.whole in
    let kept : IsWorld w = subst IsWorld (sym is) c.requires.world in
    record { events = refl; rows = reads_rows false (end_in w.client) w.server w.to_server w.to_client (ahead w whole kept) }

pub returns-in-Ok-clause-world : goal.returns-in-Ok-clause-world
returns-in-Ok-clause-world g c =
    let seen = g.S.HasBackend.seen in
    let v : EndsView g.row.S.Denot = record { client = c.self.inside.client; server = c.self.inside.server; to_client = c.self.inside.to_client; to_server = c.self.inside.to_server; spent = c.self.inside.spent } in
    let w : WorldView = world_in seen v in
    let is : w ≡ world_in seen c.args.self.now = ap (world_in seen) c.self.view_is in
    let whole : w.spent ≡ false = ap (λ (x : WorldView). x.spent) is ∙ c.requires.whole in
    let kept : IsWorld w = subst IsWorld (sym is) c.requires.world in
    world_of w.client (stored_by seen c.read.new.self) w.to_client w.to_server w.spent
    (read_joined request_target request_code request_values false c.in-Ok.answer (end_in w.client) w.server (stored_by seen c.read.new.self) w.to_server w.to_client c.in-Ok.ensures.ok (ahead w whole kept))

pub returns-in-Ok-clause-never_refused : goal.returns-in-Ok-clause-never_refused
returns-in-Ok-clause-never_refused g c =
    let seen = g.S.HasBackend.seen in
    let v : EndsView g.row.S.Denot = record { client = c.self.inside.client; server = c.self.inside.server; to_client = c.self.inside.to_client; to_server = c.self.inside.to_server; spent = c.self.inside.spent } in
    let w : WorldView = world_in seen v in
    let is : w ≡ world_in seen c.args.self.now = ap (world_in seen) c.self.view_is in
    let whole : w.spent ≡ false = ap (λ (x : WorldView). x.spent) is ∙ c.requires.whole in
    let kept : IsWorld w = subst IsWorld (sym is) c.requires.world in
    read_never request_target request_code request_values false c.in-Ok.answer (end_in w.client) w.server (stored_by seen c.read.new.self) w.to_server w.to_client c.in-Ok.ensures.ok (ahead w whole kept)

pub returns-in-Ok-clause-stores : goal.returns-in-Ok-clause-stores
returns-in-Ok-clause-stores g c =
    let seen = g.S.HasBackend.seen in
    let v : EndsView g.row.S.Denot = record { client = c.self.inside.client; server = c.self.inside.server; to_client = c.self.inside.to_client; to_server = c.self.inside.to_server; spent = c.self.inside.spent } in
    let w : WorldView = world_in seen v in
    let is : w ≡ world_in seen c.args.self.now = ap (world_in seen) c.self.view_is in
    let whole : w.spent ≡ false = ap (λ (x : WorldView). x.spent) is ∙ c.requires.whole in
    let kept : IsWorld w = subst IsWorld (sym is) c.requires.world in
    subst (λ (z : WorldView). world w.client (stored_by seen c.read.new.self) w.to_client w.to_server w.spent ≡ read_world side.Server z) is
    (ap (λ (x : StoredEnd). world w.client x w.to_client w.to_server w.spent) (read_is request_target request_code request_values false c.in-Ok.answer w.server (stored_by seen c.read.new.self) c.in-Ok.ensures.ok))

pub returns-in-Ok-clause-all : goal.returns-in-Ok-clause-all
returns-in-Ok-clause-all g c e all =
    let seen = g.S.HasBackend.seen in
    let v : EndsView g.row.S.Denot = record { client = c.self.inside.client; server = c.self.inside.server; to_client = c.self.inside.to_client; to_server = c.self.inside.to_server; spent = c.self.inside.spent } in
    let w : WorldView = world_in seen v in
    let is : w ≡ world_in seen c.args.self.now = ap (world_in seen) c.self.view_is in
    let whole : w.spent ≡ false = ap (λ (x : WorldView). x.spent) is ∙ c.requires.whole in
    let kept : IsWorld w = subst IsWorld (sym is) c.requires.world in
    let waits = waits_of request_target request_code request_values false c.in-Ok.answer w.server (stored_by seen c.read.new.self) e c.in-Ok.ensures.ok in
    let delivered : AllDeliveredAt side.Server w = subst (λ (z : WorldView). AllDeliveredAt side.Server z) (sym is) all in
    subst (λ (z : WorldView). length (end_of side.Server z).taken ≡ length (end_of side.Client z).sent) is
    (read_all false (end_in w.client) w.server w.to_server w.to_client (seen c.read.new.self.context) waits (ahead w whole kept) delivered)

pub returns-in-Ok-clause-keeps : goal.returns-in-Ok-clause-keeps
returns-in-Ok-clause-keeps g c = subst (λ (h : Held g.row.S.Denot). Keeps g.S.HasBackend.seen g.S.HasBackend.with_backend h c.read.new.self) (ap (λ (e : EndsView g.row.S.Denot). e.server) c.self.view_is) c.read.ensures.keeps
