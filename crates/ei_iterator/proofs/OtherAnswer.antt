-- What two answers that tell the same say of what was lent.
use Rattle.std.proofs.Common.{◌≡◌, ℕ, Bool, inl, inr, List, Option, Some, Result, Ok, Err, refl, ap, sym, subst, ◌∙◌}
use Rattle.std.specs.Prelude.{IsErrOf}
use Rattle.ei_spec.specs.Piece.{Piece}
use Rattle.ei_types.specs.declared.error.Error.{Error}
use Rattle.ei_types.specs.declared.error.Error.TheVariants as error
use Rattle.ei_backend.specs.Lent.{LentSource, LentSink}
use Rattle.ei_backend.specs.Outside.{SourceView, SinkView}
use Rattle.ei_backend.specs.Pieces.{ArePieces}
use Rattle.ei_backend.proofs.Lending.{source_as, sink_as}
use Rattle.ei_backend.specs.Backend.{BackendView}
use Rattle.ei_handshake.specs.declared.client.HandshakeResp.{HandshakeResp}
use Rattle.ei_event.specs.declared.event.EiEvent.{EiEvent}
use Rattle.ei_event.specs.Connection.{connected}
use Rattle.ei_iterator.specs.Iterator.{IteratorView, new_iterator}
use Rattle.ei_iterator.specs.Shaking.{Begins}
use Rattle.ei_iterator.specs.Nexts.{Answered, answered, CameToEnd}

-- ---- the pieces

pub pieces_as : {old new : SourceView} {ended ended_too : Type 0} {told : List Piece} {left : Option (List Piece)} → (ended_too → ended) → ArePieces old new ended told left → ArePieces old new ended_too told left
pieces_as to (inl h) = inl h
pieces_as to (inr h) = inr (record { came = h.came; more = h.more; gave = h.gave; told_is = h.told_is; left_is = h.left_is; ends = λ e. h.ends (to e) })

-- ---- an answer, and what it is made of

abbrev IsNoEnd : Error → Type 0
IsNoEnd error.UnexpectedEof = ⊥
IsNoEnd e = Unit {0}

answered_error : (e why : Error) → IsNoEnd why → answered (Err e) ≡ Some (Err why) → e ≡ why
answered_error error.UnexpectedEof why other h = absurd cc
answered_error (error.Event x) why other h = cc
answered_error (error.Parse x) why other h = cc
answered_error (error.Request x) why other h = cc
answered_error (error.Handshake x) why other h = cc
answered_error (error.InvalidInterfaceVersion x y) why other h = cc
answered_error error.UnexpectedHandshakeEvent why other h = cc
answered_error error.ReadFault why other h = cc
answered_error error.WriteFault why other h = cc
answered_error error.HandleLimit why other h = cc
answered_error error.IdsExhausted why other h = cc
answered_error error.MessageTooLong why other h = cc
answered_error error.PieceLimit why other h = cc
answered_error error.NoMemory why other h = cc

error_from : (t : Result EiEvent Error) (why : Error) → IsNoEnd why → answered t ≡ Some (Err why) → IsErrOf t why
error_from (Ok event) why other h = absurd cc
error_from (Err e) why other h = ap (λ (x : Error). Err x) (answered_error e why other h)

module _ (t : Result EiEvent Error) (result : Answered) (is : result ≡ answered t) where
  pub source_answers : {S : Type 0} {view : S → SourceView} {later : S → S → Type 0} {x y : S} (closed : Bool) → LentSource view later (IsErrOf t error.ReadFault) (CameToEnd closed (answered t)) x y → LentSource view later (result ≡ Some (Err error.ReadFault)) (CameToEnd closed result) x y
  source_answers closed h = source_as (λ e. is ∙ ap answered e) (λ e. error_from t error.ReadFault tt (sym is ∙ e)) (λ e. (e.0, sym is ∙ e.1)) h

  pub sink_answers : {K : Type 0} {view : K → SinkView} {later : K → K → Type 0} {x y : K} → LentSink view later (IsErrOf t error.WriteFault) x y → LentSink view later (result ≡ Some (Err error.WriteFault)) x y
  sink_answers h = sink_as (λ e. is ∙ ap answered e) (λ e. error_from t error.WriteFault tt (sym is ∙ e)) h

-- ---- a handshake, and what begins behind it

err_is : {U : Type 0} {x y : Error} → ◌≡◌ {A = Result U Error} (Err x) (Err y) → x ≡ y
err_is h = cc

-- a refusal of one is one of the other
pub err_as : {T U : Type 0} (a : Result T Error) (b : Result U Error) (e : Error) → a ≡ Err e → b ≡ Err e → (why : Error) → IsErrOf b why → IsErrOf a why
err_as a b e is is' why h = is ∙ ap (λ (x : Error). Err x) (err_is (sym is' ∙ h))

pub no_err : {P T : Type 0} (a : Result T Error) (x : T) → a ≡ Ok x → (why : Error) → IsErrOf a why → P
no_err {T = T} a x is why h = absurd (let no : ◌≡◌ {A = Result T Error} (Ok x) (Err why) = sym is ∙ h in cc)

pub begins_ok : {H : Type 0} (pieces : ℕ) (left : BackendView) (shaken : Result HandshakeResp Error) (resp : HandshakeResp) (iterator : IteratorView H) → shaken ≡ Ok resp → iterator ≡ new_iterator left (connected resp) pieces → Begins pieces left shaken (Ok iterator)
begins_ok pieces left shaken resp iterator is same = subst (λ (r : Result HandshakeResp Error). Begins pieces left r (Ok iterator)) (sym is) same

pub begins_err : {H : Type 0} (pieces : ℕ) (left : BackendView) (shaken : Result HandshakeResp Error) (e : Error) (result : Result (IteratorView H) Error) → shaken ≡ Err e → result ≡ Err e → Begins pieces left shaken result
begins_err {H} pieces left shaken e result is is' = subst (λ (r : Result HandshakeResp Error). Begins pieces left r result) (sym is) (subst (λ (q : Result (IteratorView H) Error). Begins pieces left (Err e) q) (sym is') refl)
