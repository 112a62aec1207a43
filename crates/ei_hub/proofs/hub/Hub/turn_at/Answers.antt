use Rattle.std.proofs.Common.{◌≡◌, ◌∙◌, None, length, arith}
use Rattle.std.specs.Prelude.{slice_set}
use Rattle.ei_hub.proofs.Places.{got, set_at, set_length, set_others, there, within_set}
use Rattle.ei_hub.proofs.hub.Hub.turn_at.Goals as goal

pub turn-requires : goal.turn-requires
turn-requires g c =
    let d = there c.args.self.now.clients.items c.args.at c.requires.joined in
    let from = c.index_mut-one.ensures.value ∙ got c.args.self.now.clients.items c.args.at d.0 c.index_mut-one.result.now d.1 in
    record { going = rw from (c.args.self.now.within c.args.at d.0 d.1 (c.requires.going d.0 d.1)).going }

pub invariant_of-self-clause-few : goal.invariant_of-self-clause-few
invariant_of-self-clause-few g c =
    let same : length (slice_set c.args.self.now.clients.items c.args.at c.turn.new.self) ≡ length c.args.self.now.clients.items = set_length c.args.self.now.clients.items c.args.at c.turn.new.self in
    omega (arith, same, c.args.self.now.few)

pub invariant_of-self-clause-within : goal.invariant_of-self-clause-within
invariant_of-self-clause-within g c =
    let d = there c.args.self.now.clients.items c.args.at c.requires.joined in
    let from = c.index_mut-one.ensures.value ∙ got c.args.self.now.clients.items c.args.at d.0 c.index_mut-one.result.now d.1 in
    within_set c.args.self.now.setup.pieces c.args.self.now.clients.items c.args.at c.turn.new.self c.args.self.now.within
    (λ none. c.turn.ensures.within c.args.self.now.setup.pieces (rw from (c.args.self.now.within c.args.at d.0 d.1 (c.requires.going d.0 d.1))) none)

pub returns-clause-others : goal.returns-clause-others
returns-clause-others g c = λ k ne. set_others c.args.self.now.clients.items c.args.at c.turn.new.self k ne

pub returns-clause-alone : goal.returns-clause-alone
returns-clause-alone g c = λ setup start pieces times d e at now alone.
    let from = c.index_mut-one.ensures.value ∙ got c.args.self.now.clients.items c.args.at d c.index_mut-one.result.now at in
    let to = set_at c.args.self.now.clients.items c.args.at c.turn.new.self d e at now in
    let before = rw (← from) at alone in
    rw (← from, ← to) (c.turn.ensures.alone setup start pieces times before)

pub returns-clause-more : goal.returns-clause-more
returns-clause-more g c = λ d e at now none.
    let from = c.index_mut-one.ensures.value ∙ got c.args.self.now.clients.items c.args.at d c.index_mut-one.result.now at in
    let to = set_at c.args.self.now.clients.items c.args.at c.turn.new.self d e at now in
    let ends : c.turn.new.self.end ≡ None = rw to none in
    rw (← from, ← to) (c.turn.ensures.more ends)

pub returns-clause-source : goal.returns-clause-source
returns-clause-source g c = λ d e at now.
    let from = c.index_mut-one.ensures.value ∙ got c.args.self.now.clients.items c.args.at d c.index_mut-one.result.now at in
    let to = set_at c.args.self.now.clients.items c.args.at c.turn.new.self d e at now in
    rw (← from, ← to) c.turn.ensures.source

pub returns-clause-sink : goal.returns-clause-sink
returns-clause-sink g c = λ d e at now.
    let from = c.index_mut-one.ensures.value ∙ got c.args.self.now.clients.items c.args.at d c.index_mut-one.result.now at in
    let to = set_at c.args.self.now.clients.items c.args.at c.turn.new.self d e at now in
    rw (← from, ← to) c.turn.ensures.sink
