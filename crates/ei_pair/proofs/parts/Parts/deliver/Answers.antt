-- Bytes come: the pair is as before but for its ends.
use Rattle.ei_pair.specs.Parts.{PartsView, pair_in}
use Rattle.std.proofs.Common.{subst, sym, ap, ◌∙◌}
use Rattle.ei_linked.specs.Ends.{world_in}
use Rattle.ei_linked.specs.TwoEnds.{IsWorld}
use Rattle.ei_pair.specs.ServerEnd.{endpoint_in}
use Rattle.ei_pair.proofs.MovedOn.{came_at, came_kept, came_sound}
use Rattle.ei_pair.proofs.parts.Parts.deliver.Goals as goal

pub deliver-requires : goal.deliver-requires
deliver-requires g c =
    let i = c.self.inside in
    let v : PartsView g.row.H.Denot = record { ends = i.ends; asks = i.asks; tells = i.tells; converter = i.converter; serial = i.initial_serial; steady = i.steady; client_wanted = i.client_wanted; server_wanted = i.server_wanted } in
    record { some = c.requires.some; most = c.requires.most; world = subst (λ (x : PartsView g.row.H.Denot). IsWorld (pair_in x).ends) (sym c.self.view_is) c.requires.sound.kept.pair.world; whole = ap (λ (x : PartsView g.row.H.Denot). x.ends.spent) c.self.view_is ∙ c.requires.whole }

pub returns-clause-delivers : goal.returns-clause-delivers
returns-clause-delivers g c =
    let i = c.self.inside in
    let v : PartsView g.row.H.Denot = record { ends = i.ends; asks = i.asks; tells = i.tells; converter = i.converter; serial = i.initial_serial; steady = i.steady; client_wanted = i.client_wanted; server_wanted = i.server_wanted } in
    came_at v c.args.self.now c.self.view_is c.deliver.new.self c.deliver.ensures.keeps c.args.side c.args.n c.deliver.result c.deliver.ensures.delivers

pub returns-clause-kept : goal.returns-clause-kept
returns-clause-kept g c =
    let i = c.self.inside in
    let v : PartsView g.row.H.Denot = record { ends = i.ends; asks = i.asks; tells = i.tells; converter = i.converter; serial = i.initial_serial; steady = i.steady; client_wanted = i.client_wanted; server_wanted = i.server_wanted } in
    came_kept v c.args.self.now c.self.view_is c.deliver.new.self c.deliver.ensures.keeps

pub returns-clause-sound : goal.returns-clause-sound
returns-clause-sound g c =
    let i = c.self.inside in
    let v : PartsView g.row.H.Denot = record { ends = i.ends; asks = i.asks; tells = i.tells; converter = i.converter; serial = i.initial_serial; steady = i.steady; client_wanted = i.client_wanted; server_wanted = i.server_wanted } in
    came_sound v c.args.self.now c.self.view_is c.deliver.new.self c.deliver.ensures.keeps c.resting.ensures.moves c.requires.sound c.requires.whole c.deliver.ensures.world c.args.side c.args.n c.deliver.result c.deliver.ensures.delivers
    (c.resting.ensures.delivers c.args.side c.args.n c.deliver.result (world_in endpoint_in v.ends) (world_in endpoint_in c.deliver.new.self) c.deliver.ensures.delivers)
