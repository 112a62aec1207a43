-- The greeting is stored, and the pair is new.
use Rattle.std.proofs.Common.{◌≡◌, true, false, [], ◌∷◌, refl, sym, ap, subst}
use Rattle.std.specs.Option.{ForSome}
use Rattle.std.proofs.lemmas.Result.{IfOk-from_err}
use Rattle.ei_session.specs.Replies.{greeting_to}
use Rattle.ei_backend.specs.Backend.{BackendView}
use Rattle.ei_backend.specs.Table.{found}
use Rattle.ei_linked.specs.Stored.{end_in}
use Rattle.ei_linked.specs.TwoEnds.{new_stored}
use Rattle.ei_handshake.specs.Handshaker.{HandshakerView, sends}
use Rattle.ei_shaking.specs.Messages.{greeting}
use Rattle.ei_promises.specs.Keeping.{HasSentAll}
use Rattle.ei_pair.specs.declared.server_end.ServerEnd.TheVariants as end
use Rattle.ei_pair.proofs.Beginning.{begun, begun_is, has_zero, greets, greets_zero, is_new, begins_world}
use Rattle.ei_pair.proofs.parts.Parts.new.Goals as goal

-- object 0 is the handshake's
pub new-requires-4 : goal.new-requires-4
new-requires-4 g c = has_zero c.in-Ok-new.server c.in-Ok-new.ensures

pub returns-clause-new : goal.returns-clause-new
returns-clause-new g c =
    let b : BackendView = c.new-4.new.ctx in
    let sent : HasSentAll true (greeting ∷ []) (end_in (new_stored false)) b = greets b (greets_zero b
    (subst (λ (s : BackendView). ForSome (found s.table 0) (λ handshake. b ≡ sends s (greeting_to handshake.id ∷ []))) c.in-Ok-new.ensures c.in-Ok-new-2.ensures.greets)) (c.server_messages.ensures.may_begin []) in
    let is : c.in-Ok-joined.ends ≡ begun c.in-Ok.client (end.Shaking b) =
    begun_is c.in-Ok-joined.ensures.fresh c.in-Ok.client b c.in-Ok-joined.ensures.is_fresh (record { bytes = 0; handles = 0 }) refl sent c.in-Ok-joined.ends c.in-Ok-joined.ensures.stores in
    is_new c.args.name.now c.args.context_type c.args.initial_serial c.in-Ok.client b c.in-Ok-joined.ends c.in_ok-asks.asks c.in-Ok-new-2.tells c.in_ok-asks.ensures c.in-Ok-new-2.ensures.fresh c.in-Ok.ensures sent is

pub returns-clause-world : goal.returns-clause-world
returns-clause-world g c =
    let b : BackendView = c.new-4.new.ctx in
    let sent : HasSentAll true (greeting ∷ []) (end_in (new_stored false)) b = greets b (greets_zero b
    (subst (λ (s : BackendView). ForSome (found s.table 0) (λ handshake. b ≡ sends s (greeting_to handshake.id ∷ []))) c.in-Ok-new.ensures c.in-Ok-new-2.ensures.greets)) (c.server_messages.ensures.may_begin []) in
    let is : c.in-Ok-joined.ends ≡ begun c.in-Ok.client (end.Shaking b) =
    begun_is c.in-Ok-joined.ensures.fresh c.in-Ok.client b c.in-Ok-joined.ensures.is_fresh (record { bytes = 0; handles = 0 }) refl sent c.in-Ok-joined.ends c.in-Ok-joined.ensures.stores in
    begins_world c.in-Ok.client b c.in-Ok-joined.ends c.in-Ok.ensures sent is

pub returns-in_err-asks-clause-new : goal.returns-in_err-asks-clause-new
returns-in_err-asks-clause-new g c = IfOk-from_err c.from_residual.result _ c.from_residual.ensures.0

pub returns-in_err-asks-clause-serial : goal.returns-in_err-asks-clause-serial
returns-in_err-asks-clause-serial g c = IfOk-from_err c.from_residual.result _ c.from_residual.ensures.0

pub returns-in_err-asks-clause-world : goal.returns-in_err-asks-clause-world
returns-in_err-asks-clause-world g c = IfOk-from_err c.from_residual.result _ c.from_residual.ensures.0

pub returns-clause-serial : goal.returns-clause-serial
returns-clause-serial g c = sym (ap (λ (h : HandshakerView). h.serial) c.in-Ok-new-2.ensures.fresh)
