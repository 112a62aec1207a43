-- What the converter did with a request, at the time of a piece.
use Rattle.std.proofs.Common.{◌≡◌, ℕ, Bool, false, List, [], ◌∷◌, Option, Some, None, Result, Ok, Err, refl, sym, ap, subst, ◌∙◌}
use Rattle.std.specs.Prelude.{OnOk, IfErr}
use Rattle.ei_spec.specs.Interface.{ObjectView}
use Rattle.ei_types.specs.declared.error.Error.{Error}
use Rattle.ei_server.specs.declared.request.Request.{Request}
use Rattle.ei_server.specs.Request.{target_of}
use Rattle.ei_request.specs.Keys.{DeviceKey}
use Rattle.ei_request.specs.Converter.{ConverterView}
use Rattle.ei_request.specs.Handling.{Handles, handled}
use Rattle.ei_request.specs.Refusing.{refusal}
use Rattle.ei_request.specs.Typed.{meaning_of}
use Rattle.reis_eis.specs.Keys.{HasKeys}
use Rattle.reis_eis.specs.Lent.{readings_left}
use Rattle.reis_eis.specs.Handling.{RefusesAsked}
use Rattle.reis_eis.proofs.Handled.{SameHeld, handled_held, keys_after, taken_at}

-- it was taken, with frames of that time
taken_now : (old new : ConverterView) (r : Request) (x : Unit {0}) (now : ℕ) (after : Option (List ℕ)) → Handles old r (Some (now ∷ [])) (Ok x) after new → new ≡ handled old (target_of r).id (meaning_of r) now
taken_now old new r x now after h = taken_at old (target_of r).id (target_of r).version (meaning_of r) now after new h

pub taken : (old new : ConverterView) (r : Request) (answer : Result (Unit {0}) Error) (is_read : Bool) (read now : ℕ) (after : Option (List ℕ)) → is_read ≡ false → read ≡ now →
    Handles old r (Some (readings_left is_read read)) answer after new → OnOk answer (new ≡ handled old (target_of r).id (meaning_of r) now)
taken old new r (Ok x) is_read read now after unread same h =
    let left : readings_left is_read read ≡ now ∷ [] = ap (λ (b : Bool). readings_left b read) unread ∙ ap (λ (n : ℕ). n ∷ []) same in
    taken_now old new r x now after (subst (λ (readings : List ℕ). Handles old r (Some readings) (Ok x) after new) left h)
taken old new r (Err e) is_read read now after unread same h = tt

pub accepted : (old new : ConverterView) (r : Request) (answer : Result (Unit {0}) Error) (before after : Option (List ℕ)) → Handles old r before answer after new →
    OnOk answer (refusal old.handle (target_of r).id (target_of r).version (meaning_of r) ≡ None)
accepted old new r (Ok x) before after h = h.accepted
accepted old new r (Err e) before after h = tt

-- or it was refused
pub refused : (old new : ConverterView) (r : Request) (answer : Result (Unit {0}) Error) (before after : Option (List ℕ)) → Handles old r before answer after new → IfErr answer (λ e. RefusesAsked e old r new)
refused old new r (Ok x) before after h = tt
refused old new r (Err e) before after h = record { why = h.why; same = h.same }

-- what stays
pub stays : (old new : ConverterView) (r : Request) (answer : Result (Unit {0}) Error) (before after : Option (List ℕ)) → Handles old r before answer after new → SameHeld old.handle new.handle
stays old new r (Ok x) before after h =
    subst (λ (c : ConverterView). SameHeld old.handle c.handle) (sym h.does) (handled_held old (target_of r).id (meaning_of r) h.time)
stays old new r (Err e) before after h =
    let none : SameHeld old.handle old.handle = record { unread = refl; seats = refl; devices = refl } in
    subst (λ (c : ConverterView). SameHeld old.handle c.handle) (sym h.same) none

pub keys_stay : (old new : ConverterView) (r : Request) (answer : Result (Unit {0}) Error) (before after : Option (List ℕ)) (seats : List ObjectView) (devices : List DeviceKey) →
    Handles old r before answer after new → HasKeys old.handle seats devices → HasKeys new.handle seats devices
keys_stay old new r answer before after seats devices h keys = keys_after old.handle new.handle seats devices (stays old new r answer before after h) keys
