use Rattle.std.proofs.Common.{◌<◌, ◌^◌, ℕ, subst, sym, ap, ◌∙◌}
use Rattle.ei_request.specs.Connection.{ConnectionView}
use Rattle.ei_pair.specs.declared.server_end.ServerEnd.{ServerEnd}
use Rattle.ei_pair.specs.Calls.{MayMake, MayMakeAt}
use Rattle.ei_pair.proofs.Meeting.{answers_so}
use Rattle.ei_pair.proofs.server_calls.make_at.Goals as goal

pub make-requires : goal.make-requires
make-requires c = record { may = subst (λ (h : ConnectionView). MayMake c.args.call h) (sym c.handle_mut.ensures.value) (subst (λ (x : ServerEnd). MayMakeAt c.args.call x) c.in-Talking.is c.requires.may) }

pub returns-clause-answers : goal.returns-clause-answers
returns-clause-answers c =
    let serial : c.handle_mut.result.now.last_serial < 2 ^ 32 = subst (λ (n : ℕ). n < 2 ^ 32) (c.last_serial.ensures ∙ ap (λ (h : ConnectionView). h.last_serial) (c.handle.ensures ∙ sym c.handle_mut.ensures.value)) c.word.ensures in
    answers_so c.args.call c.args.server.now c.in-Talking.converter c.handle_mut.result.now c.make.new.conn c.make.result c.in-Talking.is c.handle_mut.ensures.value c.make.ensures.made c.make.ensures.ok c.make.ensures.err c.make.ensures.exhausted c.make.ensures.long serial
