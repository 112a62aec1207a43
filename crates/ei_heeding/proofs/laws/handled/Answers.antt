use Rattle.std.proofs.Common.{ℕ, List, Option, sym, subst}
use Rattle.std.specs.Prelude.{Result, Ok, Err}
use Rattle.ei_types.specs.declared.error.Error.{Error}
use Rattle.ei_types.specs.declared.error.Error.TheVariants as error
use Rattle.ei_input.specs.declared.input_event.InputEvent.{InputEvent}
use Rattle.ei_client.specs.declared.event.Event.{Event}
use Rattle.ei_following.specs.Core.{closed_group, used_by}
use Rattle.ei_reported.specs.Said.{Said}
use Rattle.ei_event.specs.Typed.{said_of}
use Rattle.ei_event.specs.Kept.{KeptView}
use Rattle.ei_event.specs.Core.{core_of}
use Rattle.ei_event.specs.Handles.{after, Handles, Times}
use Rattle.ei_heeding.specs.Heeding.{HeedsOne, HeedsBy, IsHeard}
use Rattle.ei_heeding.proofs.Refused.{closes_nothing}
use Rattle.ei_heeding.proofs.laws.handled.Goals as goal

-- by what was answered
heeded : (start : ℕ) (before : List Said) (readings : List ℕ) (c new : KeptView) (e : Event) (told now : Option (List ℕ)) (result : Result Unit Error) →
    ((time : ℕ) → HeedsOne start before e readings (used_by (closed_group (core_of c) (said_of e)) time) c (after c e time)) →
    Handles c e told now result new → IsHeard result → HeedsBy start before e readings told now c new
heeded start before readings c new e told now (Ok x) took h heard = record {
  time = h.time;
  one = subst (HeedsOne start before e readings (used_by (closed_group (core_of c) (said_of e)) h.time) c) (sym h.ends.1) (took h.time);
  clock = h.clock;
}
heeded start before readings c new e told now (Err (error.Event why)) took h heard = record {
  time = h.time;
  one = subst (HeedsOne start before e readings (used_by (closed_group (core_of c) (said_of e)) h.time) c) (sym h.ends.1) (took h.time);
  clock = subst (λ (inputs : List InputEvent). Times inputs h.time told now) (sym (closes_nothing (core_of c) (said_of e) why h.ends.0)) h.clock;
}
heeded start before readings c new e told now (Err error.UnexpectedHandshakeEvent) took h heard = absurd heard
heeded start before readings c new e told now (Err (error.InvalidInterfaceVersion name version)) took h heard = absurd heard
heeded start before readings c new e told now (Err (error.Request why)) took h heard = absurd heard
heeded start before readings c new e told now (Err (error.Parse why)) took h heard = absurd heard
heeded start before readings c new e told now (Err (error.Handshake why)) took h heard = absurd heard
heeded start before readings c new e told now (Err error.UnexpectedEof) took h heard = absurd heard
heeded start before readings c new e told now (Err error.ReadFault) took h heard = absurd heard
heeded start before readings c new e told now (Err error.WriteFault) took h heard = absurd heard
heeded start before readings c new e told now (Err error.HandleLimit) took h heard = absurd heard
heeded start before readings c new e told now (Err error.IdsExhausted) took h heard = absurd heard
heeded start before readings c new e told now (Err error.MessageTooLong) took h heard = absurd heard
heeded start before readings c new e told now (Err error.PieceLimit) took h heard = absurd heard
heeded start before readings c new e told now (Err error.NoMemory) took h heard = absurd heard

pub returns : goal.returns
returns c = λ start before readings k new e told now result h u handled heard.
    heeded start before readings k new e told now result (λ time. c.events.ensures.took start before readings k e time h u) handled heard
