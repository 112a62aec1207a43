use Rattle.std.proofs.Common.{subst}
use Rattle.ei_promises.specs.declared.calls.ServerCall.{ServerCall}
use Rattle.ei_promises.specs.declared.calls.ServerCall.TheVariants as call
use Rattle.ei_pair.specs.Parts.{pair_in}
use Rattle.ei_pair.specs.Calls.{MeetsAt}
use Rattle.ei_pair.proofs.Meeting.{no_input, may_make_at}
use Rattle.ei_pair.proofs.TellingAt.{as_call}
use Rattle.ei_pair.proofs.parts.Parts.serve.Goals as goal

pub send-requires-clause-may : goal.send-requires-clause-may
send-requires-clause-may g c = subst (λ (s : ServerCall). MeetsAt s (pair_in c.args.self.now).ends (pair_in c.args.self.now).server) c.in-Input.is c.requires.may

pub tell-requires : goal.tell-requires
tell-requires g c = record {
  sound = c.requires.sound;
  whole = c.requires.whole;
  may = may_make_at c.args.call (pair_in c.args.self.now).ends c.args.self.now.tells c.args.self.now.ends.server.context (no_input c.args.call c.in_default.not-Input) c.requires.may;
}

pub returns-in-Input : goal.returns-in-Input
returns-in-Input g c = as_call c.args.call (call.Input c.in-Input.target c.in-Input.opcode c.in-Input.values) c.args.self.now c.send.new.self c.send.result c.in-Input.is c.send.ensures

pub returns-in_default : goal.returns-in_default
returns-in_default g c = c.tell.ensures
