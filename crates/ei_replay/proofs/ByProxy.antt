-- What a request of a proxy does, by the id of its object alone.
use Rattle.std.proofs.Common.{◌≡◌, ℕ, List, Option, Some, None, Result, Ok, Err, refl, sym, ap, subst, ◌∙◌}
use Rattle.std.specs.Prelude.{OnOk, if◌then◌else◌}
use Rattle.ei_spec.specs.Interface.{ObjectView}
use Rattle.ei_spec.specs.Rows.{Row}
use Rattle.ei_spec.specs.Value.{Value}
use Rattle.ei_wire.specs.declared.error.SendError.{SendError}
use Rattle.ei_backend.specs.Backend.{BackendView, sent, removed, with_announced, after_row}
use Rattle.ei_backend.specs.Sends.{Sends, SendsText}
use Rattle.ei_playing.specs.Playing.{Call, row_of, call_to}
use Rattle.ei_request.specs.declared.event.EisRequest.{EisRequest}
use Rattle.ei_replay.specs.Asked.{asked_of}
use Rattle.ei_replay.proofs.Target.{id_is}
use Rattle.ei_replay.specs.Sending.{named, after_call}

target_same : (row : Option (ℕ × Row)) (a b : ObjectView) (values : List Value) (x : BackendView) → a.id ≡ b.id → after_row row a values x ≡ after_row row b values x
target_same None a b values x e = refl
target_same (Some r) a b values x e =
    ap (λ (n : ℕ). if r.1.destroys then removed (with_announced r.1.announces values (sent x n r.0 values)) n else with_announced r.1.announces values (sent x n r.0 values)) e

-- it is the call
sent_at : {A E : Type 0} (c : Call) (o : ObjectView) (values : List Value) (old new : BackendView) (r : Result A E) → o.id ≡ c.id → values ≡ c.values →
    OnOk r (new ≡ after_row (row_of c) o values old) → OnOk r (new ≡ after_call c old)
sent_at c o values old new (Err e) is same h = tt
sent_at c o values old new (Ok a) is same h =
    h ∙ ap (λ (l : List Value). after_row (row_of c) o l old) same
    ∙ target_same (row_of c) o (named c.id) c.values old is

-- the call that the item is played as; where the item is known, so are the row and the values
module _ (id : ℕ) (item is_item : EisRequest) (e : item ≡ is_item) where
  call_same : call_to id (asked_of is_item) ≡ call_to id (asked_of item)
  call_same = ap (λ (x : EisRequest). call_to id (asked_of x)) (sym e)

  by_row : {A E : Type 0} (o : ObjectView) (values : List Value) (old new : BackendView) (r : Result A E) → o.id ≡ id → values ≡ (call_to id (asked_of is_item)).values →
      OnOk r (new ≡ after_row (row_of (call_to id (asked_of is_item))) o values old) → OnOk r (new ≡ after_call (call_to id (asked_of item)) old)
  by_row o values old new r is same h =
      subst (λ (c : Call). OnOk r (new ≡ after_call c old)) call_same
      (sent_at (call_to id (asked_of is_item)) o values old new r (is ∙ sym (id_is id (asked_of is_item))) same h)

  pub by_proxy : {A : Type 0} (o : ObjectView) (values : List Value) (old new : BackendView) (r : Result A SendError) → o.id ≡ id → values ≡ (call_to id (asked_of is_item)).values →
      Sends (row_of (call_to id (asked_of is_item))) o values old new r → OnOk r (new ≡ after_call (call_to id (asked_of item)) old)
  by_proxy o values old new r is same h = by_row o values old new r is same h.ok

  -- of a request with a text, too
  pub text_by_proxy : {A : Type 0} (o : ObjectView) (values : List Value) (old new : BackendView) (r : Result A SendError) → o.id ≡ id → values ≡ (call_to id (asked_of is_item)).values →
      SendsText (row_of (call_to id (asked_of is_item))) o values old new r → OnOk r (new ≡ after_call (call_to id (asked_of item)) old)
  text_by_proxy o values old new r is same h = by_row o values old new r is same h.ok
