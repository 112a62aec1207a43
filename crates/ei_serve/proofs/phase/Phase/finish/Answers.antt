use Rattle.std.proofs.Common.{[], ap, sym, ◌∙◌, Err, refl}
use Rattle.ei_types.specs.declared.error.Error.{Error}
use Rattle.ei_types.specs.declared.error.Error.TheVariants as error
use Rattle.ei_types.specs.declared.error.HandshakeError.TheVariants.{MissingInterface}
use Rattle.ei_serve.specs.declared.phase.Phase.TheVariants.{Over}
use Rattle.ei_serve.specs.Around.{around, no_source}
use Rattle.ei_serve.specs.Standing.{terms_of}
use Rattle.ei_serve.proofs.Lent.{as_err, inner_not, sink_inner}
use Rattle.ei_serve.proofs.ShakingSteps.{completed, finish_inner, may_finish, missing, refused_finish}
use Rattle.ei_serve.proofs.Stepping.{steps_refused, steps_cut_off, goes_finish}
use Rattle.ei_serve.proofs.Handling.{with_times, none_used}
use Rattle.ei_serve.proofs.phase.Phase.finish.Goals as goal

pub returns-in-Ok-connect-clause-steps : goal.returns-in-Ok-connect-clause-steps
returns-in-Ok-connect-clause-steps g c = λ past times rest handles h out readings.
    let s = rw c.in-Handshake.is at h in
    let a = s.1 in
    let k = completed (terms_of c.args.start.terms) past rest handles c.args.handshake.now _ _ a c.in-Ok.resp _ _ c.in-Ok.ensures.ring c.in-Ok.ensures.ok in
    let d = c.in-Ok-connect.ensures.connects past a.m a.after handles a.stands.unfinished a.finish_is k.1 in
    record { m = a.m; after = a.after; front_is = a.front_is; accepted = k.0; used = []; stands = with_times (terms_of c.args.start.terms) _ [] _ _ _ _ (sym (none_used times s.0)) d.0; goes = goes_finish (terms_of c.args.start.terms) past a.m times out readings _ _ a.stands.unfinished a.finish_is d.1 }

pub returns-in-Err-connect-clause-steps : goal.returns-in-Err-connect-clause-steps
returns-in-Err-connect-clause-steps g c = λ past times rest handles h out readings.
    let s = rw c.in-Handshake.is at h in
    let a = s.1 in
    let k = completed (terms_of c.args.start.terms) past rest handles c.args.handshake.now _ _ a c.in-Ok.resp _ _ c.in-Ok.ensures.ring c.in-Ok.ensures.ok in
    let d = c.in-Err-connect.ensures.connects past a.m a.after handles a.stands.unfinished a.finish_is k.1 in
    steps_cut_off (terms_of c.args.start.terms) past times rest handles (Err c.refuse.new.why) Over a.m a.after c.in-Err-connect.error out readings _ _ (ap (λ (e : Error). Err e) c.refuse.ensures) a.stands.unfinished a.front_is k.0 a.finish_is d

pub returns-in-Err-clause-steps : goal.returns-in-Err-clause-steps
returns-in-Err-clause-steps g c = λ past times rest handles h out readings.
    let s = rw c.in-Handshake.is at h in
    steps_refused (terms_of c.args.start.terms) past times rest handles (Err c.refuse-in-Err.new.why) Over c.in-Err.error (around no_source out _ readings) (ap (λ (e : Error). Err e) c.refuse-in-Err.ensures)
    (refused_finish (terms_of c.args.start.terms) past rest handles c.args.handshake.now _ _ s.1 c.in-Err.error _ _ (λ _. may_finish (terms_of c.args.start.terms) past rest handles c.args.handshake.now _ _ s.1 (sym c.has_required.ensures ∙ c.if-not-has_required.false)) c.in-Err.ensures.err)

pub returns-in-Err-clause-sink : goal.returns-in-Err-clause-sink
returns-in-Err-clause-sink g c = sink_inner (Err c.refuse-in-Err.new.why) c.refuse-in-Err.new.why c.in-Err.error refl c.refuse-in-Err.ensures
    (finish_inner c.in-Handshake.handshaker c.in-Handshake.context _ _ c.in-Err.error c.args.handshake.now.id c.in-Err.ensures.err) (g.met.K.Sink.later_refl _)

pub returns-in-Err-clause-no_read_fault : goal.returns-in-Err-clause-no_read_fault
returns-in-Err-clause-no_read_fault g c = λ f.
    inner_not c.refuse-in-Err.new.why c.in-Err.error error.ReadFault c.refuse-in-Err.ensures
    (finish_inner c.in-Handshake.handshaker c.in-Handshake.context _ _ c.in-Err.error c.args.handshake.now.id c.in-Err.ensures.err) (λ w. w) (as_err (Err c.refuse-in-Err.new.why) c.refuse-in-Err.new.why error.ReadFault refl f)

-- a required interface is missing
pub returns-then-not-has_required-clause-steps : goal.returns-then-not-has_required-clause-steps
returns-then-not-has_required-clause-steps g c = λ past times rest handles h out readings.
    let s = rw c.in-Handshake.is at h in
    steps_refused (terms_of c.args.start.terms) past times rest handles (Err c.refuse_handshake.new.why) Over (error.Handshake MissingInterface) (around no_source out _ readings) (ap (λ (e : Error). Err e) c.refuse_handshake.ensures)
    (missing (terms_of c.args.start.terms) past rest handles c.args.handshake.now _ _ s.1 (sym c.has_required.ensures ∙ c.if-not-has_required.true))

pub returns-then-not-has_required-clause-sink : goal.returns-then-not-has_required-clause-sink
returns-then-not-has_required-clause-sink g c = sink_inner (Err c.refuse_handshake.new.why) c.refuse_handshake.new.why (error.Handshake MissingInterface) refl c.refuse_handshake.ensures tt (g.met.K.Sink.later_refl _)
