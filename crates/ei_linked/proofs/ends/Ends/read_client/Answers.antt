use Rattle.std.proofs.Common.{◌≡◌, length, true, false, refl, sym, ap, subst, ◌∙◌}
use Rattle.ei_linked.specs.declared.side.Side.TheVariants as side
use Rattle.ei_linked.specs.Held.{stored_by}
use Rattle.ei_linked.specs.Stored.{StoredEnd, end_in}
use Rattle.ei_linked.specs.Ends.{EndsView, world_in}
use Rattle.ei_client.specs.Event.{target_of as event_target, opcode_of as event_code, values_of as event_values}
use Rattle.ei_linked.specs.TwoEnds.{WorldView, IsWorld, read_world, AllDeliveredAt, end_of}
use Rattle.ei_linked.proofs.Kept.{world, back, world_back, read_joined, read_is, read_never, read_all, waits_of}
use Rattle.ei_linked.proofs.ReadRows.{reads_rows}
use Rattle.ei_linked.proofs.ends.Ends.read_client.Goals as goal

pub read-requires : goal.read-requires
read-requires g c =
    let seen = g.S.HasBackend.seen in
    let v : EndsView g.row.S.Denot = record { client = c.self.inside.client; server = c.self.inside.server; to_client = c.self.inside.to_client; to_server = c.self.inside.to_server; spent = c.self.inside.spent } in
    let w : WorldView = world_in seen v in
    let is : w ≡ world_in seen c.args.self.now = ap (world_in seen) c.self.view_is in
    let whole : w.spent ≡ false = ap (λ (x : WorldView). x.spent) is ∙ c.requires.whole in
    let kept : IsWorld w = subst IsWorld (sym is) c.requires.world in
    record { events = refl; rows = reads_rows true (end_in w.server) w.client w.to_client w.to_server (back w whole kept) }

pub returns-in-Ok-clause-world : goal.returns-in-Ok-clause-world
returns-in-Ok-clause-world g c =
    let seen = g.S.HasBackend.seen in
    let v : EndsView g.row.S.Denot = record { client = c.self.inside.client; server = c.self.inside.server; to_client = c.self.inside.to_client; to_server = c.self.inside.to_server; spent = c.self.inside.spent } in
    let w : WorldView = world_in seen v in
    let is : w ≡ world_in seen c.args.self.now = ap (world_in seen) c.self.view_is in
    let whole : w.spent ≡ false = ap (λ (x : WorldView). x.spent) is ∙ c.requires.whole in
    let kept : IsWorld w = subst IsWorld (sym is) c.requires.world in
    world_back (stored_by (λ b. b) c.read.new.self) w.server w.to_client w.to_server w.spent
    (read_joined event_target event_code event_values true c.in-Ok.answer (end_in w.server) w.client (stored_by (λ b. b) c.read.new.self) w.to_client w.to_server c.in-Ok.ensures.ok (back w whole kept))

pub returns-in-Ok-clause-never_refused : goal.returns-in-Ok-clause-never_refused
returns-in-Ok-clause-never_refused g c =
    let seen = g.S.HasBackend.seen in
    let v : EndsView g.row.S.Denot = record { client = c.self.inside.client; server = c.self.inside.server; to_client = c.self.inside.to_client; to_server = c.self.inside.to_server; spent = c.self.inside.spent } in
    let w : WorldView = world_in seen v in
    let is : w ≡ world_in seen c.args.self.now = ap (world_in seen) c.self.view_is in
    let whole : w.spent ≡ false = ap (λ (x : WorldView). x.spent) is ∙ c.requires.whole in
    let kept : IsWorld w = subst IsWorld (sym is) c.requires.world in
    read_never event_target event_code event_values true c.in-Ok.answer (end_in w.server) w.client (stored_by (λ b. b) c.read.new.self) w.to_client w.to_server c.in-Ok.ensures.ok (back w whole kept)

pub returns-in-Ok-clause-stores : goal.returns-in-Ok-clause-stores
returns-in-Ok-clause-stores g c =
    let seen = g.S.HasBackend.seen in
    let v : EndsView g.row.S.Denot = record { client = c.self.inside.client; server = c.self.inside.server; to_client = c.self.inside.to_client; to_server = c.self.inside.to_server; spent = c.self.inside.spent } in
    let w : WorldView = world_in seen v in
    let is : w ≡ world_in seen c.args.self.now = ap (world_in seen) c.self.view_is in
    let whole : w.spent ≡ false = ap (λ (x : WorldView). x.spent) is ∙ c.requires.whole in
    let kept : IsWorld w = subst IsWorld (sym is) c.requires.world in
    subst (λ (z : WorldView). world (stored_by (λ b. b) c.read.new.self) w.server w.to_client w.to_server w.spent ≡ read_world side.Client z) is
    (ap (λ (x : StoredEnd). world x w.server w.to_client w.to_server w.spent) (read_is event_target event_code event_values true c.in-Ok.answer w.client (stored_by (λ b. b) c.read.new.self) c.in-Ok.ensures.ok))

pub returns-in-Ok-clause-all : goal.returns-in-Ok-clause-all
returns-in-Ok-clause-all g c e all =
    let seen = g.S.HasBackend.seen in
    let v : EndsView g.row.S.Denot = record { client = c.self.inside.client; server = c.self.inside.server; to_client = c.self.inside.to_client; to_server = c.self.inside.to_server; spent = c.self.inside.spent } in
    let w : WorldView = world_in seen v in
    let is : w ≡ world_in seen c.args.self.now = ap (world_in seen) c.self.view_is in
    let whole : w.spent ≡ false = ap (λ (x : WorldView). x.spent) is ∙ c.requires.whole in
    let kept : IsWorld w = subst IsWorld (sym is) c.requires.world in
    let waits = waits_of event_target event_code event_values true c.in-Ok.answer w.client (stored_by (λ b. b) c.read.new.self) e c.in-Ok.ensures.ok in
    let delivered : AllDeliveredAt side.Client w = subst (λ (z : WorldView). AllDeliveredAt side.Client z) (sym is) all in
    subst (λ (z : WorldView). length (end_of side.Client z).taken ≡ length (end_of side.Server z).sent) is
    (read_all true (end_in w.server) w.client w.to_client w.to_server c.read.new.self.context waits (back w whole kept) delivered)
