-- Requests to the interfaces of a device: inputs, and the release of such an interface.
use Rattle.std.proofs.Common.{◌≡◌, ℕ, List, Option, Some, None, Result, Ok, Err, refl}
use Rattle.std.specs.Prelude.{OnOk, OnErr, IfErr, find}
use Rattle.ei_types.specs.declared.error.Error.{Error}
use Rattle.ei_input.specs.declared.input_event.InputEvent.{InputEvent}
use Rattle.ei_request.specs.Typed.{interface_meaning}
use Rattle.ei_request.specs.Held.{has_interface}
use Rattle.ei_request.specs.Converter.{ConverterView}
use Rattle.ei_request.specs.Refusing.{asked_refusal, Tells}
use Rattle.ei_request.specs.Handling.{HandlesTo, obeys}

-- what the call for such a request says, of what is asked
pub record Obeys (old : ConverterView) (id version : ℕ) (asked : Option InputEvent) (result : Result (Unit {0}) Error) (new : ConverterView) : Type 0 where
  pub accepted : OnOk result (asked_refusal version asked (find (has_interface id) old.handle.devices) ≡ None)
  pub ok : OnOk result (new ≡ record old { handle = obeys old.handle id asked })
  pub why : IfErr result (Tells (asked_refusal version asked (find (has_interface id) old.handle.devices)))
  pub err : OnErr result (new ≡ old)

-- what is asked is done, so it is handled
pub obeyed : (old : ConverterView) (id version : ℕ) (asked : Option InputEvent) (result : Result (Unit {0}) Error) (clock : Option (List ℕ)) (new : ConverterView) → Obeys old id version asked result new →
    HandlesTo old id version (interface_meaning asked) clock result clock new
obeyed old id version None (Ok x) clock new o = record { time = 0; accepted = refl; clock = refl; does = o.ok }
obeyed old id version (Some i) (Ok x) clock new o = record { time = 0; accepted = o.accepted; clock = refl; does = o.ok }
obeyed old id version None (Err e) clock new o = record { why = o.why; same = o.err; unread = refl }
obeyed old id version (Some i) (Err e) clock new o = record { why = o.why; same = o.err; unread = refl }
