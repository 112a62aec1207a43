-- A client took its next event, or none, or memory was wanted: what that comes to.
use Rattle.std.proofs.Common.{◌≡◌, Bool, true, false, Option, Some, Ok, Err, refl, sym, ap, subst, ◌∙◌}
use Rattle.std.proofs.lemmas.Result.{err_from_is_err_and}
use Rattle.std.proofs.lemmas.Bool.{false≢true}
use Rattle.ei_types.specs.declared.error.Error.TheVariants as error
use Rattle.ei_backend.specs.declared.message.PendingRequestResult.{PendingRequestResult}
use Rattle.ei_backend.specs.declared.message.PendingRequestResult.TheVariants as pending
use Rattle.ei_client.specs.declared.event.Event.{Event}
use Rattle.ei_linked.specs.Ends.{world_in}
use Rattle.ei_promises.specs.Stepping.{ReadsEvent}
use Rattle.ei_pair.specs.ServerEnd.{endpoint_in}
use Rattle.ei_pair.specs.Parts.{PartsView, pair_in}
use Rattle.ei_pair.specs.Stepped.{client_answered}
use Rattle.ei_pair.proofs.TakingAt.{event_wants, event_lost, event_none, event_gone_asking, event_gone_following, event_took, event_steps}
use Rattle.ei_pair.proofs.TookAt.{as_refused, never_ok, none_refused, asks_yet, follows_now, whole_yet, spent_behind}
use Rattle.ei_pair.proofs.parts.Parts.take_event.Goals as goal

-- ---- memory was wanted

pub returns-in_err-pending-clause-steps : goal.returns-in_err-pending-clause-steps
returns-in_err-pending-clause-steps g c = λ whole.
    let i = c.self.inside in
    let v : PartsView g.row.H.Denot = record { ends = i.ends; asks = i.asks; tells = i.tells; converter = i.converter; serial = i.initial_serial; steady = i.steady; client_wanted = i.client_wanted; server_wanted = i.server_wanted } in
    let p = err_from_is_err_and c.from_residual.result c.from_residual.ensures.1 in
    rw (p.1, p.2) (event_wants g.H.Call.may_answer v c.args.self.now c.self.view_is c.read_client.new.self (g.C.Clock.view c.args.clock.now).left (g.C.Clock.view c.args.clock.now).left c.in_err-pending.ensures.server c.requires.sound c.requires.whole c.in_err-pending.ensures.err refl whole)

pub returns-in_err-pending-clause-spent : goal.returns-in_err-pending-clause-spent
returns-in_err-pending-clause-spent g c = λ spent.
    let i = c.self.inside in
    let v : PartsView g.row.H.Denot = record { ends = i.ends; asks = i.asks; tells = i.tells; converter = i.converter; serial = i.initial_serial; steady = i.steady; client_wanted = i.client_wanted; server_wanted = i.server_wanted } in
    event_lost g.H.Call.may_answer v c.args.self.now c.self.view_is c.read_client.new.self (g.C.Clock.view c.args.clock.now).left (g.C.Clock.view c.args.clock.now).left c.in_err-pending.ensures.server c.requires.sound c.requires.whole c.in_err-pending.ensures.err spent

-- ---- nothing is there

pub returns-in_default-clause-steps : goal.returns-in_default-clause-steps
returns-in_default-clause-steps g c = λ whole.
    let i = c.self.inside in
    let v : PartsView g.row.H.Denot = record { ends = i.ends; asks = i.asks; tells = i.tells; converter = i.converter; serial = i.initial_serial; steady = i.steady; client_wanted = i.client_wanted; server_wanted = i.server_wanted } in
    event_none g.H.Call.may_answer v c.args.self.now c.self.view_is c.read_client.new.self (g.C.Clock.view c.args.clock.now).left (g.C.Clock.view c.args.clock.now).left c.in_ok-pending.ensures.server c.requires.sound c.requires.whole c.in_ok-pending.ensures.stores
    (subst (λ (a : Option (PendingRequestResult Event)). ReadsEvent a (pair_in v).ends (world_in endpoint_in c.read_client.new.self)) c.in_default.is c.in_ok-pending.ensures.ok) refl

pub returns-in_default-clause-memory : goal.returns-in_default-clause-memory
returns-in_default-clause-memory g c = λ spent.
    let i = c.self.inside in
    let v : PartsView g.row.H.Denot = record { ends = i.ends; asks = i.asks; tells = i.tells; converter = i.converter; serial = i.initial_serial; steady = i.steady; client_wanted = i.client_wanted; server_wanted = i.server_wanted } in
    let whole : c.read_client.new.self.spent ≡ false = whole_yet v c.args.self.now c.self.view_is c.read_client.new.self c.in_ok-pending.ensures.server c.requires.sound c.requires.whole c.in_ok-pending.ensures.stores in
    absurd (false≢true (sym whole ∙ spent))

pub returns-in_default-clause-spent : goal.returns-in_default-clause-spent
returns-in_default-clause-spent g c = λ spent.
    let i = c.self.inside in
    let v : PartsView g.row.H.Denot = record { ends = i.ends; asks = i.asks; tells = i.tells; converter = i.converter; serial = i.initial_serial; steady = i.steady; client_wanted = i.client_wanted; server_wanted = i.server_wanted } in
    let whole : c.read_client.new.self.spent ≡ false = whole_yet v c.args.self.now c.self.view_is c.read_client.new.self c.in_ok-pending.ensures.server c.requires.sound c.requires.whole c.in_ok-pending.ensures.stores in
    absurd (false≢true (sym whole ∙ spent))

-- ---- an event

pub hand_event-requires : goal.hand_event-requires
hand_event-requires g c =
    let i = c.self.inside in
    let v : PartsView g.row.H.Denot = record { ends = i.ends; asks = i.asks; tells = i.tells; converter = i.converter; serial = i.initial_serial; steady = i.steady; client_wanted = i.client_wanted; server_wanted = i.server_wanted } in
    let found : c.in_ok-pending.field-0 ≡ Some (pending.Request c.in-Request.event) = c.in-Some.is ∙ ap (λ (f : PendingRequestResult Event). Some f) c.in-Request.is in
    record {
      took = event_took g.H.Call.may_answer v c.args.self.now c.self.view_is c.read_client.new.self (g.C.Clock.view c.args.clock.now).left (g.C.Clock.view c.args.clock.now).left c.in_ok-pending.ensures.server c.requires.sound c.requires.whole c.in_ok-pending.ensures.stores c.in-Request.event c.has_reason.ensures c.in_ok-pending.ensures.world
          (subst (λ (a : Option (PendingRequestResult Event)). ReadsEvent a (pair_in v).ends (world_in endpoint_in c.read_client.new.self)) found c.in_ok-pending.ensures.ok);
      serial = ap (λ (x : PartsView g.row.H.Denot). x.serial) c.self.view_is ∙ c.requires.sound.serial ∙ ap (λ (x : PartsView g.row.H.Denot). x.tells.serial) (sym c.self.view_is);
    }

pub returns-in_err-hand_event-in-Request-clause-steps : goal.returns-in_err-hand_event-in-Request-clause-steps
returns-in_err-hand_event-in-Request-clause-steps g c = λ whole.
    let i = c.self.inside in
    let v : PartsView g.row.H.Denot = record { ends = i.ends; asks = i.asks; tells = i.tells; converter = i.converter; serial = i.initial_serial; steady = i.steady; client_wanted = i.client_wanted; server_wanted = i.server_wanted } in
    let found : c.in_ok-pending.field-0 ≡ Some (pending.Request c.in-Request.event) = c.in-Some.is ∙ ap (λ (f : PendingRequestResult Event). Some f) c.in-Request.is in
    let p = err_from_is_err_and c.from_residual-in_err-hand_event-in-Request.result c.from_residual-in_err-hand_event-in-Request.ensures.1 in
    rw (p.1, p.2) (event_steps g.H.Call.may_answer v c.args.self.now c.self.view_is c.read_client.new.self (g.C.Clock.view c.args.clock.now).left (g.C.Clock.view c.hand_event.new.clock).left c.in_ok-pending.ensures.server c.requires.sound c.requires.whole c.in_ok-pending.ensures.stores c.in-Request.event
    (Err c.in_err-hand_event-in-Request.field-0.0) (client_answered (Err c.in_err-hand_event-in-Request.field-0.0) (pair_in c.hand_event.new.self)) c.has_reason.ensures
    (subst (λ (a : Option (PendingRequestResult Event)). ReadsEvent a (pair_in v).ends (world_in endpoint_in c.read_client.new.self)) found c.in_ok-pending.ensures.ok) (c.in_err-hand_event-in-Request.ensures.hands whole))

pub returns-in_err-hand_event-in-Request-clause-memory : goal.returns-in_err-hand_event-in-Request-clause-memory
returns-in_err-hand_event-in-Request-clause-memory g c = λ spent.
    let p = err_from_is_err_and c.from_residual-in_err-hand_event-in-Request.result c.from_residual-in_err-hand_event-in-Request.ensures.1 in
    rw (p.1, p.2) (as_refused {A = Unit {0}} {B = Bool} c.in_err-hand_event-in-Request.field-0.0 error.NoMemory (c.in_err-hand_event-in-Request.ensures.memory spent))

pub returns-in_err-hand_event-in-Request-clause-spent : goal.returns-in_err-hand_event-in-Request-clause-spent
returns-in_err-hand_event-in-Request-clause-spent g c = λ spent.
    let i = c.self.inside in
    let v : PartsView g.row.H.Denot = record { ends = i.ends; asks = i.asks; tells = i.tells; converter = i.converter; serial = i.initial_serial; steady = i.steady; client_wanted = i.client_wanted; server_wanted = i.server_wanted } in
    let found : c.in_ok-pending.field-0 ≡ Some (pending.Request c.in-Request.event) = c.in-Some.is ∙ ap (λ (f : PendingRequestResult Event). Some f) c.in-Request.is in
    spent_behind v c.args.self.now c.self.view_is c.read_client.new.self c.in_ok-pending.ensures.server c.requires.sound c.requires.whole c.in_ok-pending.ensures.stores c.in-Request.event (pair_in c.hand_event.new.self) c.has_reason.ensures c.in_ok-pending.ensures.world
    (subst (λ (a : Option (PendingRequestResult Event)). ReadsEvent a (pair_in v).ends (world_in endpoint_in c.read_client.new.self)) found c.in_ok-pending.ensures.ok) (λ t. c.in_err-hand_event-in-Request.ensures.spent t spent)

pub returns-in_ok-hand_event-in-Request-clause-steps : goal.returns-in_ok-hand_event-in-Request-clause-steps
returns-in_ok-hand_event-in-Request-clause-steps g c = λ whole.
    let i = c.self.inside in
    let v : PartsView g.row.H.Denot = record { ends = i.ends; asks = i.asks; tells = i.tells; converter = i.converter; serial = i.initial_serial; steady = i.steady; client_wanted = i.client_wanted; server_wanted = i.server_wanted } in
    let found : c.in_ok-pending.field-0 ≡ Some (pending.Request c.in-Request.event) = c.in-Some.is ∙ ap (λ (f : PendingRequestResult Event). Some f) c.in-Request.is in
    event_steps g.H.Call.may_answer v c.args.self.now c.self.view_is c.read_client.new.self (g.C.Clock.view c.args.clock.now).left (g.C.Clock.view c.hand_event.new.clock).left c.in_ok-pending.ensures.server c.requires.sound c.requires.whole c.in_ok-pending.ensures.stores c.in-Request.event
    (Ok true) (client_answered (Ok true) (pair_in c.hand_event.new.self)) c.has_reason.ensures
    (subst (λ (a : Option (PendingRequestResult Event)). ReadsEvent a (pair_in v).ends (world_in endpoint_in c.read_client.new.self)) found c.in_ok-pending.ensures.ok) (c.in_ok-hand_event-in-Request.ensures.hands whole)

pub returns-in_ok-hand_event-in-Request-clause-memory : goal.returns-in_ok-hand_event-in-Request-clause-memory
returns-in_ok-hand_event-in-Request-clause-memory g c = λ spent. absurd (never_ok c.in_ok-hand_event-in-Request.field-0 error.NoMemory (c.in_ok-hand_event-in-Request.ensures.memory spent))

pub returns-in_ok-hand_event-in-Request-clause-spent : goal.returns-in_ok-hand_event-in-Request-clause-spent
returns-in_ok-hand_event-in-Request-clause-spent g c = λ spent. absurd (never_ok c.in_ok-hand_event-in-Request.field-0 error.NoMemory (c.in_ok-hand_event-in-Request.ensures.memory spent))

-- ---- a target that isn't there

pub returns-then-is_none-clause-steps : goal.returns-then-is_none-clause-steps
returns-then-is_none-clause-steps g c = λ whole.
    let i = c.self.inside in
    let v : PartsView g.row.H.Denot = record { ends = i.ends; asks = i.asks; tells = i.tells; converter = i.converter; serial = i.initial_serial; steady = i.steady; client_wanted = i.client_wanted; server_wanted = i.server_wanted } in
    let found : c.in_ok-pending.field-0 ≡ Some (pending.InvalidObject c.in-InvalidObject.id) = c.in-Some.is ∙ ap (λ (f : PendingRequestResult Event). Some f) c.in-InvalidObject.is in
    event_gone_asking g.H.Call.may_answer v c.args.self.now c.self.view_is c.read_client.new.self (g.C.Clock.view c.args.clock.now).left (g.C.Clock.view c.args.clock.now).left c.in_ok-pending.ensures.server c.requires.sound c.requires.whole c.in_ok-pending.ensures.stores c.in-InvalidObject.id
    (subst (λ (a : Option (PendingRequestResult Event)). ReadsEvent a (pair_in v).ends (world_in endpoint_in c.read_client.new.self)) found c.in_ok-pending.ensures.ok) refl (asks_yet i.asks i.converter c.is_none.result c.is_none.ensures c.if-is_none.true)

pub returns-then-is_none-clause-memory : goal.returns-then-is_none-clause-memory
returns-then-is_none-clause-memory g c = λ spent.
    let i = c.self.inside in
    let v : PartsView g.row.H.Denot = record { ends = i.ends; asks = i.asks; tells = i.tells; converter = i.converter; serial = i.initial_serial; steady = i.steady; client_wanted = i.client_wanted; server_wanted = i.server_wanted } in
    let whole : c.read_client.new.self.spent ≡ false = whole_yet v c.args.self.now c.self.view_is c.read_client.new.self c.in_ok-pending.ensures.server c.requires.sound c.requires.whole c.in_ok-pending.ensures.stores in
    absurd (false≢true (sym whole ∙ spent))

pub returns-then-is_none-clause-spent : goal.returns-then-is_none-clause-spent
returns-then-is_none-clause-spent g c = λ spent.
    let i = c.self.inside in
    let v : PartsView g.row.H.Denot = record { ends = i.ends; asks = i.asks; tells = i.tells; converter = i.converter; serial = i.initial_serial; steady = i.steady; client_wanted = i.client_wanted; server_wanted = i.server_wanted } in
    let whole : c.read_client.new.self.spent ≡ false = whole_yet v c.args.self.now c.self.view_is c.read_client.new.self c.in_ok-pending.ensures.server c.requires.sound c.requires.whole c.in_ok-pending.ensures.stores in
    absurd (false≢true (sym whole ∙ spent))

pub returns-else-is_none-clause-steps : goal.returns-else-is_none-clause-steps
returns-else-is_none-clause-steps g c = λ whole.
    let i = c.self.inside in
    let v : PartsView g.row.H.Denot = record { ends = i.ends; asks = i.asks; tells = i.tells; converter = i.converter; serial = i.initial_serial; steady = i.steady; client_wanted = i.client_wanted; server_wanted = i.server_wanted } in
    let found : c.in_ok-pending.field-0 ≡ Some (pending.InvalidObject c.in-InvalidObject.id) = c.in-Some.is ∙ ap (λ (f : PendingRequestResult Event). Some f) c.in-InvalidObject.is in
    event_gone_following g.H.Call.may_answer v c.args.self.now c.self.view_is c.read_client.new.self (g.C.Clock.view c.args.clock.now).left (g.C.Clock.view c.args.clock.now).left c.in_ok-pending.ensures.server c.requires.sound c.requires.whole c.in_ok-pending.ensures.stores c.in-InvalidObject.id
    (subst (λ (a : Option (PendingRequestResult Event)). ReadsEvent a (pair_in v).ends (world_in endpoint_in c.read_client.new.self)) found c.in_ok-pending.ensures.ok) refl (follows_now i.asks i.converter c.is_none.result c.is_none.ensures c.if-is_none.false)

pub returns-else-is_none-clause-memory : goal.returns-else-is_none-clause-memory
returns-else-is_none-clause-memory g c = λ spent.
    let i = c.self.inside in
    let v : PartsView g.row.H.Denot = record { ends = i.ends; asks = i.asks; tells = i.tells; converter = i.converter; serial = i.initial_serial; steady = i.steady; client_wanted = i.client_wanted; server_wanted = i.server_wanted } in
    let whole : c.read_client.new.self.spent ≡ false = whole_yet v c.args.self.now c.self.view_is c.read_client.new.self c.in_ok-pending.ensures.server c.requires.sound c.requires.whole c.in_ok-pending.ensures.stores in
    absurd (false≢true (sym whole ∙ spent))

pub returns-else-is_none-clause-spent : goal.returns-else-is_none-clause-spent
returns-else-is_none-clause-spent g c = λ spent.
    let i = c.self.inside in
    let v : PartsView g.row.H.Denot = record { ends = i.ends; asks = i.asks; tells = i.tells; converter = i.converter; serial = i.initial_serial; steady = i.steady; client_wanted = i.client_wanted; server_wanted = i.server_wanted } in
    let whole : c.read_client.new.self.spent ≡ false = whole_yet v c.args.self.now c.self.view_is c.read_client.new.self c.in_ok-pending.ensures.server c.requires.sound c.requires.whole c.in_ok-pending.ensures.stores in
    absurd (false≢true (sym whole ∙ spent))

-- ---- no message is refused

pub unreachable-requires : goal.unreachable-requires
unreachable-requires g c = none_refused c.in_ok-pending.field-0 c.in-Some.pending c.in-ParseError.field-0 c.in-Some.is c.in-ParseError.is c.in_ok-pending.ensures.never_refused
