use Rattle.reis_server.proofs.Lending.{never_rose, no_fault, took, ends_so, serves_on, still_on}
use Rattle.reis_server.proofs.server.Server.take.Goals as goal

pub invariant_of-self : goal.invariant_of-self
invariant_of-self c =
    serves_on _ _ c.self.inside.requests.items c.take_newest-newest.ensures.items _ _ _ _ c.self.view_is c.requires.going _ _ _ c.at-clock.ensures.is _ _ _ _ c.put_newest.ensures _ _ _ _ _ _ c.ended_by.ensures c.at-clock.ensures.enough
    (no_fault _ (λ e. never_rose (c.turn-turned.ensures.source.read_fault e)) (λ e. never_rose (c.turn-turned.ensures.sink.write_fault e)))
    _ _ c.of-source.ensures.bytes _ _ c.of-source.ensures.handles c.requires.bytes c.turn-turned.ensures.turns c.self.invariant

pub returns-clause-serves : goal.returns-clause-serves
returns-clause-serves c =
    took _ _ c.self.inside.requests.items c.take_newest-newest.ensures.items _ _ _ _ c.self.view_is c.requires.going _ _ _ c.at-clock.ensures.is _ _ _ _ c.put_newest.ensures _ _ _ _ _ _ c.ended_by.ensures c.at-clock.ensures.enough
    (no_fault _ (λ e. never_rose (c.turn-turned.ensures.source.read_fault e)) (λ e. never_rose (c.turn-turned.ensures.sink.write_fault e)))
    _ _ c.of-source.ensures.bytes _ _ c.of-source.ensures.handles c.requires.bytes c.turn-turned.ensures.turns

pub returns-clause-ends : goal.returns-clause-ends
returns-clause-ends c =
    ends_so _ _ c.self.inside.requests.items c.take_newest-newest.ensures.items _ _ _ _ c.self.view_is c.requires.going _ _ _ c.at-clock.ensures.is _ _ _ _ c.put_newest.ensures _ _ _ _ _ _ c.ended_by.ensures c.at-clock.ensures.enough
    (no_fault _ (λ e. never_rose (c.turn-turned.ensures.source.read_fault e)) (λ e. never_rose (c.turn-turned.ensures.sink.write_fault e)))
    _ _ c.of-source.ensures.bytes _ _ c.of-source.ensures.handles c.requires.bytes c.turn-turned.ensures.turns c.self.invariant

pub turn-turned-requires : goal.turn-turned-requires
turn-turned-requires c = record { going = still_on c.take_newest-newest.new.self.items c.take_newest-newest.result.items c.self.inside.requests.items c.take_newest-newest.ensures.items _ _ _ _ c.self.view_is c.requires.going c.self.invariant }
