-- What is done the likely way is done.
use Rattle.std.proofs.Common.{◌≡◌, ℕ, Bool, true, false, List, [], ◌∷◌, Option, Some, None, refl, sym, ap, ◌∙◌}
use Rattle.std.specs.Prelude.{Ok}
use Rattle.std.specs.FinMap.{get}
use Rattle.ei_input.specs.declared.input_event.InputEvent.{InputEvent}
use Rattle.ei_client.specs.declared.event.Event.{Event as Typed}
use Rattle.ei_reported.specs.Said.{Said, Inputs}
use Rattle.ei_following.specs.Core.{refused, closed_group}
use Rattle.ei_event.specs.Typed.{said_of}
use Rattle.ei_event.specs.Core.{core_of}
use Rattle.ei_event.specs.Kept.{DeviceView, KeptView, with_device, added_device, owner, with_input}
use Rattle.ei_event.specs.Handling.{hears_at}
use Rattle.ei_event.specs.Handles.{Asks, after}
use Rattle.ei_event.specs.Converter.{ping_in, callback_in}
use Rattle.ei_event.specs.Likely.{Likely, Bears, HandlesLikely}
use Rattle.ei_event.proofs.Setup.{heard, unheard_memory}

-- no made frame, so no reading
unasked : (xs : List InputEvent) (left : Option (List ℕ)) → xs ≡ [] → Asks xs 0 left left (Ok tt)
unasked [] left e = refl
unasked (x ∷ xs) left e = absurd cc

-- an event that says this, makes no frame and leaves that
pub likely_handles : (old new : KeptView) (e : Typed) (said : Said) (leaves : KeptView) (b : Bool) → said_of e ≡ said →
    closed_group (core_of old) said ≡ [] → ((time : ℕ) → after old e time ≡ leaves) → callback_in e ≡ None → ping_in e ≡ None →
    Likely (refused (core_of old) said) old leaves b new → HandlesLikely old e b new
likely_handles old new e said leaves false says closed left callback ping likely = likely
likely_handles old new e said leaves true says closed left callback ping likely = record {
  handles = λ clock. record {
    time = 0;
    ends = (ap (refused (core_of old)) says ∙ likely.0, likely.1 ∙ sym (left 0));
    clock = unasked (closed_group (core_of old) (said_of e)) clock (ap (closed_group (core_of old)) says ∙ closed);
  };
  no_callback = callback;
  no_ping = ping;
}

-- so one that bears an input
pub input_handles : (old new : KeptView) (e : Typed) (id : ℕ) (i : InputEvent) (b : Bool) → Bears e id i →
    Likely (refused (core_of old) (Inputs id i)) old (hears_at old i (owner old id)) b new → HandlesLikely old e b new
input_handles old new e id i b bears likely =
    likely_handles old new e (Inputs id i) (hears_at old i (owner old id)) b bears.says refl (bears.leaves old) bears.no_callback bears.no_ping likely

-- an input that waits where there is room
pub heard_likely : (c : KeptView) (id device : ℕ) (i : InputEvent) (d new : DeviceView) (b : Bool) → owner c id ≡ Some device →
    added_device (get c.devices device) ≡ Some d → (b ≡ true → new ≡ with_input i d) → (b ≡ false → new ≡ d) →
    Likely (refused (core_of c) (Inputs id i)) c (hears_at c i (owner c id)) b (with_device c device new)
heard_likely c id device i d new true e some done stays = heard c id device i d new e some (done refl)
heard_likely c id device i d new false e some done stays = (unheard_memory c id device d new e some (stays refl)).1
