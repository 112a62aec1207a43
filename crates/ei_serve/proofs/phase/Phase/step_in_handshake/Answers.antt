use Rattle.std.proofs.Common.{[], Err, refl}
use Rattle.ei_serve.specs.declared.phase.Phase.TheVariants.{Over}
use Rattle.ei_serve.specs.Around.{around, no_source}
use Rattle.ei_serve.specs.Standing.{terms_of}
use Rattle.ei_serve.proofs.Going.{goes_none}
use Rattle.ei_serve.proofs.Stepping.{steps_refused, goes_quiet}
use Rattle.ei_serve.proofs.Handling.{none_used}
use Rattle.ei_serve.proofs.phase.Phase.step_in_handshake.Goals as goal

pub returns-in-Ok-Waiting-clause-steps : goal.returns-in-Ok-Waiting-clause-steps
returns-in-Ok-Waiting-clause-steps g c = λ past times rest handles h out readings.
    let s = rw c.in-Handshake.is at h in
    let k = rw c.in-Ok-Waiting.field-0-is at (c.in-Ok-Waiting.ensures.shakes (terms_of c.args.start.terms) past rest handles s.1) in
    record { short = k.0; stands = (s.0, k.1); goes = goes_none (terms_of c.args.start.terms) past times (around no_source out _ readings) }

pub returns-in-Ok-Handled-clause-steps : goal.returns-in-Ok-Handled-clause-steps
returns-in-Ok-Handled-clause-steps g c = λ past times rest handles h out readings.
    let s = rw c.in-Handshake.is at h in
    let k = rw c.in-Ok-Handled.field-0-is at (c.in-Ok-Handled.ensures.shakes (terms_of c.args.start.terms) past rest handles s.1) in
    record { m = k.0; after = k.1; front_is = k.2; accepted = k.3; used = []; stands = (none_used times s.0, k.5); goes = goes_quiet (terms_of c.args.start.terms) past k.0 times (around no_source out _ readings) s.1.unfinished k.4 }

pub returns-in-Ok-Finish-clause-steps : goal.returns-in-Ok-Finish-clause-steps
returns-in-Ok-Finish-clause-steps g c = λ past times rest handles h out readings.
    let s = rw c.in-Handshake.is at h in
    let k = rw c.in-Ok-Finish.field-0-is at (c.in-Ok-Finish.ensures.shakes (terms_of c.args.start.terms) past rest handles s.1) in
    c.finish.ensures.steps past times rest handles (s.0, k) out readings

pub returns-in-Err-clause-steps : goal.returns-in-Err-clause-steps
returns-in-Err-clause-steps g c = λ past times rest handles h out readings.
    let s = rw c.in-Handshake.is at h in
    steps_refused (terms_of c.args.start.terms) past times rest handles (Err c.shake.new.why) Over c.shake.new.why (around no_source out _ readings) refl (c.in-Err.ensures.shakes (terms_of c.args.start.terms) past rest handles s.1)
