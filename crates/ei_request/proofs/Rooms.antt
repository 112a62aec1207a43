-- How many bytes messages have.
use Rattle.std.proofs.Common.{◌≡◌, ℕ, ◌+◌, ◌≤◌, leb, List, [], ◌∷◌, length, Option, Some, None, Result, Ok, Err, refl, ap, subst, arith}
use Rattle.std.specs.Prelude.{OnOk, IfOk}
use Rattle.std.proofs.lemmas.Bool.{leb-true}
use Rattle.std.proofs.lemmas.List.{append-nil, length-append}
use Rattle.ei_spec.specs.declared.interface.KnownInterface.{KnownInterface}
use Rattle.ei_spec.specs.Interface.{name_of}
use Rattle.ei_spec.specs.Message.{message, size}
use Rattle.ei_spec.specs.Reading.{or_null}
use Rattle.ei_spec.specs.Value.{Value, Word, Long, Letters, handles_of, written}
use Rattle.ei_spec.proofs.EachInterface.{of_each}
use Rattle.ei_backend.specs.Backend.{BackendView, unsent_of}
use Rattle.ei_backend.specs.Outgoing.{HasRoomFor}
use Rattle.ei_request.specs.Costs.{Fits, plain}
use Rattle.ei_request.specs.declared.costs.TheConstants.{MOST_CAPABILITY_BYTES, MOST_INTERFACE_BYTES, NAME_BYTES, END_BYTES}

-- what holds of an answer that is Ok
pub ok_at : {T E P : Type 0} (r : Result T E) (x : T) → r ≡ Ok x → OnOk r P → P
ok_at (Ok y) x e p = p
ok_at (Err y) x e p = absurd cc

-- and of what it holds
pub held_at : {T E : Type 0} (Q : T → Type 0) (r : Result T E) (x : T) → r ≡ Ok x → IfOk r Q → Q x
held_at Q (Ok y) x e q = let same : y ≡ x = cc in subst Q same q
held_at Q (Err y) x e q = absurd cc

-- the event of an interface
pub few_interface : (one : KnownInterface) (id k v : ℕ) → size (message id 5 (Long k ∷ Letters (name_of one) ∷ Word v ∷ [])) ≤ MOST_INTERFACE_BYTES
few_interface one id k v = leb-true _ _ (of_each (λ (i : KnownInterface). leb (size (message id 5 (Long k ∷ Letters (name_of i) ∷ Word v ∷ []))) MOST_INTERFACE_BYTES) refl one)

-- and of a capability
pub few_capability : (one : KnownInterface) (id k : ℕ) → size (message id 2 (Long k ∷ Letters (name_of one) ∷ [])) ≤ MOST_CAPABILITY_BYTES
few_capability one id k = leb-true _ _ (of_each (λ (i : KnownInterface). leb (size (message id 2 (Long k ∷ Letters (name_of i) ∷ []))) MOST_CAPABILITY_BYTES) refl one)

-- the message of a text
pub text_size : (id opcode : ℕ) (t : List ℕ) → size (message id opcode (Letters t ∷ [])) ≡ NAME_BYTES + length (written (Letters t))
text_size id opcode t = ap (λ (l : List ℕ). NAME_BYTES + length l) (append-nil (written (Letters t)))

-- the end of a connection has a size that neither its serial nor its reason changes
pub end_size : (id serial reason : ℕ) (text : Value) → size (message id 0 (Word serial ∷ Word reason ∷ text ∷ [])) ≡ END_BYTES + length (written text)
end_size id serial reason text = omega (arith, length-append (written text) [])

no_handles : (text : Option (List ℕ)) → handles_of (or_null text) ≡ []
no_handles None = refl
no_handles (Some t) = refl

-- and there is room for it
pub fits_end : (b : BackendView) (id serial reason n : ℕ) (text : Option (List ℕ)) → n ≡ END_BYTES + length (written (or_null text)) → Fits (plain n) b →
    HasRoomFor id 0 (Word serial ∷ Word reason ∷ or_null text ∷ []) (unsent_of b) b.room
fits_end b id serial reason n text is f = record {
  spare_bytes = omega (arith, f.bytes, is, end_size id serial reason (or_null text));
  spare_handles = rw (no_handles text) f.handles;
}
