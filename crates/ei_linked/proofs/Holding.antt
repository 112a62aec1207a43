-- What holds an endpoint, once that has changed.
use Rattle.std.proofs.Common.{◌≡◌, Result, Ok, Err, sym, ap, ◌∙◌}
use Rattle.std.specs.Prelude.{OnOk, OnErr}
use Rattle.ei_backend.specs.Backend.{BackendView}
use Rattle.ei_linked.specs.Stored.{StoredEnd}
use Rattle.ei_linked.specs.Held.{Held, stored_by, held_with, Keeps}

-- the end has the endpoint that was put in
pub stored_with : {C : Type 0} (seen : C → BackendView) (with : C → BackendView → C) → ((x : C) (b : BackendView) → seen (with x b) ≡ b) → (h : Held C) (x : StoredEnd) → stored_by seen (held_with with h x) ≡ x
stored_with seen with law h x = ap (λ (b : BackendView). let s : StoredEnd = record { backend = b; sent = x.sent; taken = x.taken } in s) (law h.context x.backend)

pub stored_is : {C : Type 0} (seen : C → BackendView) (with : C → BackendView → C) → ((x : C) (b : BackendView) → seen (with x b) ≡ b) → (h k : Held C) (x : StoredEnd) → k ≡ held_with with h x → stored_by seen k ≡ x
stored_is {C} seen with law h k x e = ap (λ (o : Held C). stored_by seen o) e ∙ stored_with seen with law h x

-- nothing else has changed
pub keeps_with : {C : Type 0} (seen : C → BackendView) (with : C → BackendView → C) → ((x : C) (b : BackendView) → seen (with x b) ≡ b) → (h k : Held C) (x : StoredEnd) → k ≡ held_with with h x → Keeps seen with h k
keeps_with {C} seen with law h k x e =
    ap (λ (o : Held C). o.context) e ∙ ap (λ (b : BackendView). with h.context b) (sym (law h.context x.backend) ∙ sym (ap (λ (o : Held C). seen o.context) e))

pub keeps_same : {C : Type 0} (seen : C → BackendView) (with : C → BackendView → C) → ((x : C) → with x (seen x) ≡ x) → (h k : Held C) → k ≡ h → Keeps seen with h k
keeps_same {C} seen with law h k e =
    ap (λ (o : Held C). o.context) e ∙ sym (law h.context) ∙ ap (λ (b : BackendView). with h.context b) (sym (ap (λ (o : Held C). seen o.context) e))

-- the same of a call that is refused or not
pub on_ok_stored : {C T E : Type 0} (seen : C → BackendView) (with : C → BackendView → C) → ((x : C) (b : BackendView) → seen (with x b) ≡ b) → (r : Result T E) (h k : Held C) (x : StoredEnd) → OnOk r (k ≡ held_with with h x) → OnOk r (stored_by seen k ≡ x)
on_ok_stored seen with law (Ok t) h k x e = stored_is seen with law h k x e
on_ok_stored seen with law (Err f) h k x e = tt

pub on_err_stored : {C T E : Type 0} (seen : C → BackendView) (r : Result T E) (h k : Held C) → OnErr r (k ≡ h) → OnErr r (stored_by seen k ≡ stored_by seen h)
on_err_stored seen (Ok t) h k e = tt
on_err_stored seen (Err f) h k e = ap (stored_by seen) e

pub keeps_either : {C T E : Type 0} (seen : C → BackendView) (with : C → BackendView → C) → ((x : C) (b : BackendView) → seen (with x b) ≡ b) → ((x : C) → with x (seen x) ≡ x) → (r : Result T E) (h k : Held C) (x : StoredEnd) → OnOk r (k ≡ held_with with h x) → OnErr r (k ≡ h) → Keeps seen with h k
keeps_either seen with law same (Ok t) h k x ok err = keeps_with seen with law h k x ok
keeps_either seen with law same (Err f) h k x ok err = keeps_same seen with same h k err
