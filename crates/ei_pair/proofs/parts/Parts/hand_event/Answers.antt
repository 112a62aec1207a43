-- An event was handed on: what the client sent for it is stored, or the parts are spent.
use Rattle.std.proofs.Common.{◌≡◌, false, sym, ◌∙◌}
use Rattle.std.proofs.lemmas.Bool.{false≢true}
use Rattle.ei_pair.specs.Parts.{PartsView}
use Rattle.ei_pair.proofs.Laws.{ClientLaws, client_laws}
use Rattle.ei_pair.proofs.HeardStored.{heard_hands, heard_world, heard_whole, unheard_spent, unheard_world}
use Rattle.ei_pair.proofs.parts.Parts.hand_event.Goals as goal

pub returns-clause-hands : goal.returns-clause-hands
returns-clause-hands g c = λ whole.
    let laws : ClientLaws g.row.H.Denot = client_laws c.client_sends.ensures.asks c.client_sends.ensures.follows in
    let i = c.self.inside in
    let v : PartsView g.row.H.Denot = record { ends = i.ends; asks = i.asks; tells = i.tells; converter = i.converter; serial = i.initial_serial; steady = i.steady; client_wanted = i.client_wanted; server_wanted = i.server_wanted } in
    let h = c.hear_at-heard in
    heard_hands laws g.H.Call.may_answer v c.args.self.now c.self.view_is c.args.event (g.C.Clock.view c.args.clock.now).left (g.C.Clock.view h.new.clock).left h.result h.new.asks h.new.converter h.new.ends h.ensures.kept h.ensures.hears
    c.client_unsent-before.result c.client_unsent-before.ensures c.store_heard.new.ends c.in_ok-store_heard.ensures.stores c.requires.took

pub returns-clause-memory : goal.returns-clause-memory
returns-clause-memory g c = λ spent.
    let laws : ClientLaws g.row.H.Denot = client_laws c.client_sends.ensures.asks c.client_sends.ensures.follows in
    let i = c.self.inside in
    let v : PartsView g.row.H.Denot = record { ends = i.ends; asks = i.asks; tells = i.tells; converter = i.converter; serial = i.initial_serial; steady = i.steady; client_wanted = i.client_wanted; server_wanted = i.server_wanted } in
    let h = c.hear_at-heard in
    let whole : c.store_heard.new.ends.spent ≡ false = heard_whole laws g.H.Call.may_answer v c.args.self.now c.self.view_is c.args.event (g.C.Clock.view c.args.clock.now).left (g.C.Clock.view h.new.clock).left h.result h.new.asks h.new.converter h.new.ends h.ensures.kept h.ensures.hears
    c.client_unsent-before.result c.client_unsent-before.ensures c.store_heard.new.ends c.in_ok-store_heard.ensures.stores c.requires.took in
    absurd (false≢true (sym whole ∙ spent))

pub returns-clause-spent : goal.returns-clause-spent
returns-clause-spent g c = λ t spent.
    let laws : ClientLaws g.row.H.Denot = client_laws c.client_sends.ensures.asks c.client_sends.ensures.follows in
    let i = c.self.inside in
    let v : PartsView g.row.H.Denot = record { ends = i.ends; asks = i.asks; tells = i.tells; converter = i.converter; serial = i.initial_serial; steady = i.steady; client_wanted = i.client_wanted; server_wanted = i.server_wanted } in
    let h = c.hear_at-heard in
    let whole : c.store_heard.new.ends.spent ≡ false = heard_whole laws g.H.Call.may_answer v c.args.self.now c.self.view_is c.args.event (g.C.Clock.view c.args.clock.now).left (g.C.Clock.view h.new.clock).left h.result h.new.asks h.new.converter h.new.ends h.ensures.kept h.ensures.hears
    c.client_unsent-before.result c.client_unsent-before.ensures c.store_heard.new.ends c.in_ok-store_heard.ensures.stores c.requires.took in
    absurd (false≢true (sym whole ∙ spent))

pub returns-clause-world : goal.returns-clause-world
returns-clause-world g c =
    let laws : ClientLaws g.row.H.Denot = client_laws c.client_sends.ensures.asks c.client_sends.ensures.follows in
    let i = c.self.inside in
    let v : PartsView g.row.H.Denot = record { ends = i.ends; asks = i.asks; tells = i.tells; converter = i.converter; serial = i.initial_serial; steady = i.steady; client_wanted = i.client_wanted; server_wanted = i.server_wanted } in
    let h = c.hear_at-heard in
    heard_world laws g.H.Call.may_answer v c.args.self.now c.self.view_is c.args.event (g.C.Clock.view c.args.clock.now).left (g.C.Clock.view h.new.clock).left h.result h.new.asks h.new.converter h.new.ends h.ensures.kept h.ensures.hears
    c.client_unsent-before.result c.client_unsent-before.ensures c.store_heard.new.ends c.in_ok-store_heard.ensures.stores c.requires.took

-- ---- memory was wanted

pub returns-in_err-store_heard-clause-hands : goal.returns-in_err-store_heard-clause-hands
returns-in_err-store_heard-clause-hands g c = λ whole.
    let laws : ClientLaws g.row.H.Denot = client_laws c.client_sends.ensures.asks c.client_sends.ensures.follows in
    let i = c.self.inside in
    let v : PartsView g.row.H.Denot = record { ends = i.ends; asks = i.asks; tells = i.tells; converter = i.converter; serial = i.initial_serial; steady = i.steady; client_wanted = i.client_wanted; server_wanted = i.server_wanted } in
    let h = c.hear_at-heard in
    let s = unheard_spent laws g.H.Call.may_answer v c.args.self.now c.self.view_is c.args.event (g.C.Clock.view c.args.clock.now).left (g.C.Clock.view h.new.clock).left h.result h.new.asks h.new.converter h.new.ends h.ensures.kept h.ensures.hears
    c.client_unsent-before.result c.client_unsent-before.ensures c.store_heard.new.ends c.in_err-store_heard.ensures.more c.in_err-store_heard.ensures.untakes c.requires.took in
    absurd (false≢true (sym whole ∙ s.lists.spent))

pub returns-in_err-store_heard-clause-spent : goal.returns-in_err-store_heard-clause-spent
returns-in_err-store_heard-clause-spent g c = λ t spent.
    let laws : ClientLaws g.row.H.Denot = client_laws c.client_sends.ensures.asks c.client_sends.ensures.follows in
    let i = c.self.inside in
    let v : PartsView g.row.H.Denot = record { ends = i.ends; asks = i.asks; tells = i.tells; converter = i.converter; serial = i.initial_serial; steady = i.steady; client_wanted = i.client_wanted; server_wanted = i.server_wanted } in
    let h = c.hear_at-heard in
    unheard_spent laws g.H.Call.may_answer v c.args.self.now c.self.view_is c.args.event (g.C.Clock.view c.args.clock.now).left (g.C.Clock.view h.new.clock).left h.result h.new.asks h.new.converter h.new.ends h.ensures.kept h.ensures.hears
    c.client_unsent-before.result c.client_unsent-before.ensures c.store_heard.new.ends c.in_err-store_heard.ensures.more c.in_err-store_heard.ensures.untakes t

pub returns-in_err-store_heard-clause-world : goal.returns-in_err-store_heard-clause-world
returns-in_err-store_heard-clause-world g c =
    let laws : ClientLaws g.row.H.Denot = client_laws c.client_sends.ensures.asks c.client_sends.ensures.follows in
    let i = c.self.inside in
    let v : PartsView g.row.H.Denot = record { ends = i.ends; asks = i.asks; tells = i.tells; converter = i.converter; serial = i.initial_serial; steady = i.steady; client_wanted = i.client_wanted; server_wanted = i.server_wanted } in
    let h = c.hear_at-heard in
    unheard_world laws g.H.Call.may_answer v c.args.self.now c.self.view_is c.args.event (g.C.Clock.view c.args.clock.now).left (g.C.Clock.view h.new.clock).left h.result h.new.asks h.new.converter h.new.ends h.ensures.kept h.ensures.hears
    c.client_unsent-before.result c.client_unsent-before.ensures c.store_heard.new.ends c.in_err-store_heard.ensures.more c.in_err-store_heard.ensures.untakes c.requires.took
