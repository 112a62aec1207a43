-- What is done the likely way, or else not at all.
use Rattle.std.specs.Prelude.{◌≡◌, ℕ, Bool, true, false, List, Option, None, Ok}
use Rattle.ei_types.specs.declared.error.EventError.{EventError}
use Rattle.ei_input.specs.declared.input_event.InputEvent.{InputEvent}
use Rattle.ei_client.specs.declared.event.Event.{Event as Typed}
use Rattle.ei_reported.specs.Said.{Inputs}
use Rattle.ei_event.specs.Typed.{said_of}
use Rattle.ei_event.specs.Kept.{KeptView}
use Rattle.ei_event.specs.Handles.{Handles, after, after_said}
use Rattle.ei_event.specs.Converter.{ping_in, callback_in}

-- at `true` there is no reason to refuse it, and it leaves that; at `false` all stays
abbrev pub Likely : Option EventError → KeptView → KeptView → Bool → KeptView → Type 0
Likely reason old left true new = (reason ≡ None) × (new ≡ left)
Likely reason old left false new = new ≡ old

-- an event bears this input of the interface of that id
pub record Bears (e : Typed) (id : ℕ) (i : InputEvent) : Type 0 where
  pub says : said_of e ≡ Inputs id i
  pub leaves : (c : KeptView) (time : ℕ) → after c e time ≡ after_said c (Inputs id i) time
  pub no_callback : callback_in e ≡ None
  pub no_ping : ping_in e ≡ None

-- the event is handled, whatever the clock has left: it isn't asked
pub record HandlesNow (old : KeptView) (e : Typed) (new : KeptView) : Type 0 where
  pub handles : (left : Option (List ℕ)) → Handles old e left left (Ok tt) new
  pub no_callback : callback_in e ≡ None
  pub no_ping : ping_in e ≡ None

-- at `true` the event is handled so; at `false` all stays
abbrev pub HandlesLikely : KeptView → Typed → Bool → KeptView → Type 0
HandlesLikely old e true new = HandlesNow old e new
HandlesLikely old e false new = new ≡ old
