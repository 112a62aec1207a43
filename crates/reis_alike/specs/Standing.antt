-- What a connection stands for: the messages that were handled.
use Rattle.std.specs.Prelude.{◌≡◌, ◌≤◌, ◌<◌, ◌^◌, ℕ, false, List, [], codes, is_some}
use Rattle.ei_spec.specs.Message.{Raw}
use Rattle.ei_types.specs.Capability.{all_bits}
use Rattle.ei_backend.specs.Backend.{new_backend}
use Rattle.ei_backend.specs.Endpoint.{endpoint_of}
use Rattle.ei_session.specs.Setup.{Setup}
use Rattle.ei_session.specs.Handshake.{connected}
use Rattle.ei_session.specs.SettledMap.{settled_map}
use Rattle.ei_session.specs.Refusals.{came}
use Rattle.ei_request.specs.Converter.{ConverterView}
use Rattle.ei_standing.specs.Standing.{IsHeld}
use Rattle.ei_serve.specs.Standing.{handshake_table}
use Rattle.reis_eis.specs.declared.phase.Phase.{Phase}
use Rattle.reis_eis.specs.declared.phase.Phase.TheVariants as phase
use Rattle.reis_eis.specs.declared.shaking.Shaking.{Shaking}

-- After these messages it shakes hands. What is unread, and what waits to be written, is left open.
pub record IsShaking (setup : Setup) (past : List Raw) (s : Shaking) : Type 0 where
  pub unfinished : connected past ≡ false
  pub lawful : setup.capabilities ≤ all_bits
  pub in_range : setup.serial < 2 ^ 32
  pub endpoint : endpoint_of s.context ≡ record (endpoint_of (new_backend handshake_table)) {
    unread = s.context.unread;
    handles = s.context.handles;
    unsent = s.context.unsent;
  }
  pub initial_serial : s.initial_serial ≡ setup.serial
  pub serial : s.handshaker.serial ≡ setup.serial
  pub versions : s.handshaker.versions ≡ settled_map past
  pub name : is_some s.handshaker.name ≡ came (codes "name") past
  pub context_type : is_some s.handshaker.context_type ≡ came (codes "context_type") past

-- Behind the handshake: the converter holds what these messages left, with these readings, and no request waits.
pub record IsStanding (setup : Setup) (past : List Raw) (readings : List ℕ) (c : ConverterView) : Type 0 where
  pub held : IsHeld setup past readings c
  pub queue : c.queue ≡ []

-- the phase stands for these messages; during the handshake no reading is used
abbrev pub StandsFor : Setup → List Raw → List ℕ → Phase → Type 0
StandsFor setup past readings (phase.Shaking s) = (readings ≡ []) × IsShaking setup past s
StandsFor setup past readings (phase.Standing c) = IsStanding setup past readings c
StandsFor setup past readings phase.Between = ⊥
