use Rattle.std.proofs.Common.{refl}
use Rattle.ei_serve.specs.Standing.{terms_of}
use Rattle.ei_serve.proofs.Lent.{sink_unsent}
use Rattle.ei_serve.proofs.ConversingSeat.{unseated, connects, cuts_off}
use Rattle.ei_serve.proofs.connected.connect.Goals as goal

pub returns-in-Err-clause-connects : goal.returns-in-Err-clause-connects
returns-in-Err-clause-connects g c = λ before finish after handles off is over.
    unseated (terms_of c.args.start.terms) before after handles c.args.resp c.args.context over finish _ c.new-converter.ensures _ c.handle_mut-handle.ensures.value _ _ _ _ _ refl c.from.ensures c.in-Err.ensures.exhausted c.in-Err.ensures.long

pub returns-in-Err-flush-clause-connects : goal.returns-in-Err-flush-clause-connects
returns-in-Err-flush-clause-connects g c = λ before finish after handles off is over.
    cuts_off (terms_of c.args.start.terms) before after handles c.args.resp c.args.context over finish _ c.new-converter.ensures _ c.handle_mut-handle.ensures.value c.args.start.terms.capabilities refl _ c.in-Ok.ensures.ok c.in-Ok.ensures.ring _ c.context_mut.ensures.value off is
    _ _ _ _ _ _ c.in-Err-flush.ensures.flushes.lent.want c.in-Err-flush.ensures.flushes.went refl c.from-in-Err-flush.ensures

pub returns-clause-connects : goal.returns-clause-connects
returns-clause-connects g c = λ before finish after handles off is over.
    connects (terms_of c.args.start.terms) before after handles c.args.resp c.args.context over finish _ c.new-converter.ensures _ c.handle_mut-handle.ensures.value c.args.start.terms.capabilities refl _ c.in-Ok.ensures.ok c.in-Ok.ensures.ring _ c.context_mut.ensures.value off is
    c.flush.new.self _ _ c.in_default.ensures.flushes.stops c.in_default.ensures.kept c.in_default.ensures.flushes.went c.in_default.ensures.flushes.lent.lent.write_wants

pub returns-in-Err-clause-sink : goal.returns-in-Err-clause-sink
returns-in-Err-clause-sink g c =
    sink_unsent _ _ _ refl c.from.ensures (g.met.K.Sink.later_refl _)
