-- A server's handshaker keeps the serial that its connection will bear, whatever it is handed.
use Rattle.std.proofs.Common.{◌≡◌, ℕ, List, Option, Some, None, Result, Ok, Err, refl, ap, ◌∙◌}
use Rattle.ei_types.specs.declared.error.Error.{Error}
use Rattle.ei_types.specs.declared.error.Error.TheVariants as error
use Rattle.ei_types.specs.declared.error.HandshakeError.TheVariants as handshake_error
use Rattle.ei_backend.specs.Backend.{BackendView}
use Rattle.ei_server.specs.declared.request.Request.{Request}
use Rattle.ei_server.specs.declared.request.Request.TheVariants as request
use Rattle.ei_server.specs.declared.handshake.Request.{Request as Asked}
use Rattle.ei_server.specs.declared.handshake.Request.TheVariants as asked
use Rattle.ei_handshake.specs.declared.server.EisHandshakeResp.{EisHandshakeResp}
use Rattle.ei_handshake.specs.Handshaker.{HandshakerView, Handles, HandlesAsked, Finishes, Keeps, RefusesFinish, RefusesOther, told}
use Rattle.ei_pair.specs.declared.server_end.ServerEnd.{ServerEnd}
use Rattle.ei_pair.specs.declared.server_end.ServerEnd.TheVariants as end
use Rattle.ei_pair.specs.Stages.{ObeysEnd}

abbrev SameSerial : HandshakerView → HandshakerView → Type 0
SameSerial h left = left.serial ≡ h.serial

same : (h left : HandshakerView) → left ≡ h → SameSerial h left
same h left e = ap (λ (x : HandshakerView). x.serial) e

told_same : (h : HandshakerView) (m : Asked) → SameSerial h (told h m)
told_same h (asked.HandshakeVersion version) = refl
told_same h (asked.Name name) = refl
told_same h (asked.ContextType kind) = refl
told_same h (asked.InterfaceVersion name version) = refl
told_same h asked.Finish = refl

module _ (h left : HandshakerView) (b ctx : BackendView) where
  keeps_same : (m : Asked) (answer : Result (Option EisHandshakeResp) Error) → Keeps h b m answer left ctx → SameSerial h left
  keeps_same m (Ok None) k = ap (λ (x : HandshakerView). x.serial) k.1 ∙ told_same h m
  keeps_same m (Ok (Some resp)) k = absurd k
  keeps_same m (Err e) k = same h left k.1.handshaker

  refused_same : (id : ℕ) (e : Error) → RefusesFinish e id h b left ctx → SameSerial h left
  refused_same id error.NoMemory k = same h left k.handshaker
  refused_same id (error.Handshake handshake_error.MissingInterface) k = same h left k.1.handshaker
  refused_same id error.IdsExhausted k = same h left k.2.handshaker
  refused_same id e k = absurd k

  finishes_same : (id : ℕ) (answer : Result (Option EisHandshakeResp) Error) → Finishes id h b answer left ctx → SameSerial h left
  finishes_same id (Ok None) k = absurd k
  finishes_same id (Ok (Some resp)) k = ap (λ (x : HandshakerView). x.serial) k.empty
  finishes_same id (Err e) k = refused_same id e k

  asked_same : (id : ℕ) (m : Asked) (answer : Result (Option EisHandshakeResp) Error) → HandlesAsked id h b m answer left ctx → SameSerial h left
  asked_same id asked.Finish answer k = finishes_same id answer k
  asked_same id m answer k = keeps_same m answer k

  other_same : (e : Error) → RefusesOther e h b left ctx → SameSerial h left
  other_same (error.Handshake handshake_error.NonHandshakeEvent) k = same h left k.handshaker
  other_same e k = absurd k

  handles_same : (r : Request) (answer : Result (Option EisHandshakeResp) Error) → Handles h b r answer left ctx → SameSerial h left
  handles_same (request.Handshake proxy m) answer k = asked_same proxy.id m answer k
  handles_same other (Ok answer) k = absurd k
  handles_same other (Err e) k = other_same e k

pub obeys_same : (s : ServerEnd) (h left : HandshakerView) (r : Request) (before after : Option (List ℕ)) (result : Result (Unit {0}) Error) (new : ServerEnd) → ObeysEnd s h r before after result left new → left.serial ≡ h.serial
obeys_same (end.Shaking b) h left r before after result new o = handles_same h left b o.0.ctx r o.0.answer o.0.handles
obeys_same (end.Talking c) h left r before after result new o = same h left o.1
