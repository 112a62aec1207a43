-- The handshaker or the converter of an end handled a message: what becomes of the end.
use Rattle.std.proofs.Common.{◌≡◌, ℕ, List, [], Option, Some, None, Result, Ok, Err, refl, sym, ap, subst, ◌∙◌}
use Rattle.std.specs.Prelude.{OnOk, OnErr}
use Rattle.ei_spec.specs.Interface.{ObjectView}
use Rattle.ei_types.specs.declared.error.Error.{Error}
use Rattle.ei_types.specs.declared.error.Error.TheVariants as error
use Rattle.ei_backend.specs.Backend.{BackendView}
use Rattle.ei_client.specs.declared.event.Event.{Event}
use Rattle.ei_server.specs.declared.request.Request.{Request}
use Rattle.ei_handshake.specs.declared.client.HandshakeResp.{HandshakeResp}
use Rattle.ei_handshake.specs.declared.server.EisHandshakeResp.{EisHandshakeResp}
use Rattle.ei_handshake.specs.Client.{ClientView, HandlesEvent}
use Rattle.ei_handshake.specs.Handshaker.{HandshakerView, Handles, Completes, RefusesFinish, KeepsButFinish}
use Rattle.ei_event.specs.Connection.{connected}
use Rattle.ei_event.specs.Converter.{ConverterView as ClientConverter, new_converter, answered, ping_in, callback_in, Receives, without_called}
use Rattle.ei_event.specs.Handles.{Handles as HandlesTold}
use Rattle.ei_request.specs.Connection.{new_connection}
use Rattle.ei_request.specs.Converter.{ConverterView as ServerConverter}
use Rattle.ei_request.specs.Handling.{Handles as HandlesAsked}
use Rattle.ei_promises.specs.Stepping.{answered_on_event}
use Rattle.ei_pair.specs.declared.server_end.ServerEnd.{ServerEnd}
use Rattle.ei_pair.specs.declared.server_end.ServerEnd.TheVariants as end
use Rattle.ei_pair.specs.Stages.{FinishesEnd, ShakesEnd, ObeysEnd, AsksEnd, HearsEnd}

-- ---- a finish

pub finish_wants : (id : ℕ) (h : HandshakerView) (b : BackendView) (s : ServerEnd) → s ≡ end.Shaking b → FinishesEnd id h b (Err error.NoMemory) h s
finish_wants id h b s is = record { answer = Err error.NoMemory; ctx = b; finishes = record { handshaker = refl; endpoint = refl }; answers = refl; leaves = is }

pub finish_done : (id : ℕ) (h left : HandshakerView) (b ctx : BackendView) (resp : EisHandshakeResp) (serial : ℕ) (s : ServerEnd) → Completes id h b resp left ctx → serial ≡ h.serial →
    s ≡ end.Talking (record { handle = new_connection ctx resp serial; queue = [] }) → FinishesEnd id h b (Ok tt) left s
finish_done id h left b ctx resp serial s done same is = record {
  answer = Ok (Some resp);
  ctx = ctx;
  finishes = done;
  answers = refl;
  leaves = is ∙ ap (λ (n : ℕ). end.Talking (record { handle = new_connection ctx resp n; queue = [] })) same;
}

pub finish_refused : (id : ℕ) (h left : HandshakerView) (b ctx : BackendView) (e : Error) (s : ServerEnd) → RefusesFinish e id h b left ctx → s ≡ end.Shaking ctx → FinishesEnd id h b (Err e) left s
finish_refused id h left b ctx e s refuses is = record { answer = Err e; ctx = ctx; finishes = refuses; answers = refl; leaves = is }

-- ---- a request of the handshake

pub shake_told : (h left : HandshakerView) (b : BackendView) (r : Request) (s : ServerEnd) → KeepsButFinish h r (Ok None) left → s ≡ end.Shaking b → ShakesEnd h b r (Ok tt) left s
shake_told h left b r s keeps is = record { answer = Ok None; ctx = b; handles = keeps b; answers = refl; leaves = is }

pub shake_refused : (h left : HandshakerView) (b : BackendView) (r : Request) (e : Error) (s : ServerEnd) → KeepsButFinish h r (Err e) left → s ≡ end.Shaking b → ShakesEnd h b r (Err e) left s
shake_refused h left b r e s keeps is = record { answer = Err e; ctx = b; handles = keeps b; answers = refl; leaves = is }

pub shake_finishes : (h at left : HandshakerView) (b : BackendView) (r : Request) (proxy : ObjectView) (result : Result (Unit {0}) Error) (s : ServerEnd) → KeepsButFinish h r (Ok (Some proxy)) at → FinishesEnd proxy.id at b result left s → ShakesEnd h b r result left s
shake_finishes h at left b r proxy result s keeps f =
    let g : FinishesEnd proxy.id h b result left s = subst (λ (x : HandshakerView). FinishesEnd proxy.id x b result left s) keeps.1 f in
    record {
      answer = g.answer;
      ctx = g.ctx;
      handles = subst (λ (x : Request). Handles h b x g.answer left g.ctx) (sym keeps.0) g.finishes;
      answers = g.answers;
      leaves = g.leaves;
    }

-- ---- a request at a server's end

pub obeys_talking : (x : ServerEnd) (c left : ServerConverter) (h now : HandshakerView) (r : Request) (before after : Option (List ℕ)) (result : Result (Unit {0}) Error) (s : ServerEnd) → x ≡ end.Talking c → HandlesAsked c r before result after left → s ≡ end.Talking left → now ≡ h →
    ObeysEnd x h r before after result now s
obeys_talking x c left h now r before after result s is handles leaves same =
    subst (λ (y : ServerEnd). ObeysEnd y h r before after result now s) (sym is) (record { left = left; handles = handles; leaves = leaves }, same)

pub obeys_shaking : (x : ServerEnd) (b : BackendView) (h now : HandshakerView) (r : Request) (before after : Option (List ℕ)) (result : Result (Unit {0}) Error) (s : ServerEnd) → x ≡ end.Shaking b → ShakesEnd h b r result now s → after ≡ before → ObeysEnd x h r before after result now s
obeys_shaking x b h now r before after result s is shakes unread = subst (λ (y : ServerEnd). ObeysEnd y h r before after result now s) (sym is) (shakes, unread)

-- ---- an event at a client's end

pub asks_goes_on : {H : Type 0} (h left : ClientView) (b ctx : BackendView) (e : Event) (new : Option (ClientConverter H)) → HandlesEvent h b e (Ok None) left ctx → new ≡ None → AsksEnd h b e (Ok tt) left ctx new
asks_goes_on h left b ctx e new handles is = record { answer = Ok None; handles = handles; answers = refl; leaves = is }

pub asks_refused : {H : Type 0} (h left : ClientView) (b ctx : BackendView) (e : Event) (why : Error) (new : Option (ClientConverter H)) → HandlesEvent h b e (Err why) left ctx → new ≡ None → AsksEnd h b e (Err why) left ctx new
asks_refused h left b ctx e why new handles is = record { answer = Err why; handles = handles; answers = refl; leaves = is }

pub asks_done : {H : Type 0} (h left : ClientView) (b ctx : BackendView) (e : Event) (resp : HandshakeResp) (new : Option (ClientConverter H)) → HandlesEvent h b e (Ok (Some resp)) left ctx → new ≡ Some (new_converter (connected resp)) → AsksEnd h b e (Ok tt) left ctx new
asks_done h left b ctx e resp new handles is = record { answer = Ok (Some resp); handles = handles; answers = refl; leaves = is }

sends_on : (result : Result (Unit {0}) Error) (e : Event) (b ctx : BackendView) → OnOk result (ctx ≡ answered (ping_in e) b) → OnErr result (ctx ≡ b) → ctx ≡ answered_on_event result e b
sends_on (Ok t) e b ctx ok err = ok
sends_on (Err why) e b ctx ok err = err

pub hears_following : {H : Type 0} (may : H → ℕ → ℕ → Type 0) (o : Option (ClientConverter H)) (c left : ClientConverter H) (h now : ClientView) (b ctx : BackendView) (e : Event) (before after : Option (List ℕ)) (result : Result (Unit {0}) Error) (new : Option (ClientConverter H)) →
    o ≡ Some c → HandlesTold c.kept e before after result left.kept → Receives may (callback_in e) result c.waiting c.receipts left.receipts → left.waiting ≡ without_called (callback_in e) result c.waiting →
    OnOk result (ctx ≡ answered (ping_in e) b) → OnErr result (ctx ≡ b) → new ≡ Some left → now ≡ h → HearsEnd may o h b e before after result now ctx new
hears_following {H} may o c left h now b ctx e before after result new is handles receipts handlers ok err leaves same =
    subst (λ (x : Option (ClientConverter H)). HearsEnd may x h b e before after result now ctx new) (sym is)
    (record { left = left; handles = handles; receipts = receipts; handlers = handlers; sends = sends_on result e b ctx ok err; leaves = leaves }, same)

pub hears_asking : {H : Type 0} (may : H → ℕ → ℕ → Type 0) (o : Option (ClientConverter H)) (h now : ClientView) (b ctx : BackendView) (e : Event) (before after : Option (List ℕ)) (result : Result (Unit {0}) Error) (new : Option (ClientConverter H)) →
    o ≡ None → AsksEnd h b e result now ctx new → after ≡ before → HearsEnd may o h b e before after result now ctx new
hears_asking {H} may o h now b ctx e before after result new is asks unread = subst (λ (x : Option (ClientConverter H)). HearsEnd may x h b e before after result now ctx new) (sym is) (asks, unread)
