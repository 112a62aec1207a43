-- What an answer says of a sink that was lent on, by what the call that it was lent to answered.
use Rattle.std.proofs.Common.{◌≡◌, Result, Ok, Err, ap, sym, subst, ◌∙◌}
use Rattle.std.specs.Prelude.{IsErrOf}
use Rattle.ei_backend.specs.Outside.{SinkView}
use Rattle.ei_backend.specs.Lent.{LentSink}
use Rattle.ei_backend.proofs.Lending.{sink_as, untouched_sink}
use Rattle.ei_wire.specs.declared.error.SendError.{SendError}
use Rattle.ei_wire.specs.declared.error.SendError.TheVariants as send_error
use Rattle.ei_types.specs.Errors.{error_of_send}
use Rattle.ei_types.specs.declared.error.Error.{Error}
use Rattle.ei_types.specs.declared.error.Error.TheVariants as error
use Rattle.ei_serve.specs.Causes.{IsInner}
use Rattle.ei_serve.proofs.Causes.{err_as, no_risen}

-- the error that comes out is this one where the one that came in is
pub as_err : {U E : Type 0} (r : Result U E) (a e : E) → r ≡ Err a → IsErrOf r e → a ≡ e
as_err r a e same h = cc

-- the error that came in is the one that comes out
pub err_back : {T U E : Type 0} (r : Result U E) (a e : E) → r ≡ Err a → IsErrOf r e → IsErrOf {T = T} (Err a) e
err_back r a e same h = ap (λ (x : _). Err x) (as_err r a e same h)

-- no send answers a sink's fault
sends_no_fault : (f : SendError) → error_of_send f ≡ error.WriteFault → ⊥
sends_no_fault send_error.MessageTooLong h = absurd cc
sends_no_fault send_error.IdsExhausted h = absurd cc
sends_no_fault send_error.NoMemory h = absurd cc

-- the sink isn't touched, where a send failed and its error comes out
pub sink_unsent : {K U : Type 0} {view : K → SinkView} {later : K → K → Type 0} {x : K} (r : Result U Error) (a : Error) (f : SendError) → r ≡ Err a → a ≡ error_of_send f →
    later x x → LentSink view later (IsErrOf r error.WriteFault) x x
sink_unsent r a f same is l = sink_as (λ q. absurd q) (λ q. sends_no_fault f (sym is ∙ as_err r a error.WriteFault same q)) (untouched_sink l)

-- nor where what comes out says nothing of the outside
pub inner_not : (a e fault : Error) → a ≡ e → IsInner e → (IsInner fault → ⊥) → a ≡ fault → ⊥
inner_not a e fault is inner off q = off (subst (λ (x : Error). IsInner x) (sym is ∙ q) inner)

pub sink_inner : {K U : Type 0} {view : K → SinkView} {later : K → K → Type 0} {x : K} (r : Result U Error) (a e : Error) → r ≡ Err a → a ≡ e → IsInner e →
    later x x → LentSink view later (IsErrOf r error.WriteFault) x x
sink_inner r a e same is inner l = sink_as (λ q. absurd q) (λ q. inner_not a e error.WriteFault is inner (λ w. w) (as_err r a error.WriteFault same q)) (untouched_sink l)

-- the call failed, and its error comes out
pub sink_passed : {K T U E : Type 0} {view : K → SinkView} {later : K → K → Type 0} {x y : K} (r : Result U E) (a e : E) → r ≡ Err a →
    LentSink view later (IsErrOf {T = T} (Err a) e) x y → LentSink view later (IsErrOf r e) x y
sink_passed {T = T} {U = U} r a e same h = sink_as (err_as {T = T} r a e same) (err_back {T = T} r a e same) h

-- the call didn't fail
pub sink_unfailed : {K T E : Type 0} {view : K → SinkView} {later : K → K → Type 0} {x y : K} (a : T) (e : E) → LentSink view later (IsErrOf (Ok a) e) x y → LentSink view later ⊥ x y
sink_unfailed a e h = sink_as (no_risen a e) (λ f. absurd f) h

-- nor does the one that it is lent on by
pub sink_ok : {K T E : Type 0} {view : K → SinkView} {later : K → K → Type 0} {x y : K} (a : T) (e : E) → LentSink view later ⊥ x y → LentSink view later (IsErrOf (Ok a) e) x y
sink_ok a e h = sink_as (λ f. absurd f) (no_risen a e) h
