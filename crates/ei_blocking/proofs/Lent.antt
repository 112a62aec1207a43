-- What an answer says of a source and a sink that were lent on, by what the call that they were lent to answered.
use Rattle.std.proofs.Common.{Ok}
use Rattle.std.specs.Prelude.{IsErrOf}
use Rattle.ei_backend.specs.Outside.{SourceView, SinkView}
use Rattle.ei_backend.specs.Lent.{LentSource, LentSink}
use Rattle.ei_backend.proofs.Lending.{source_as, sink_as}

-- no answer is an error as well
pub no_error : {T E P : Type 0} (x : T) (e : E) → IsErrOf {T = T} {E = E} (Ok x) e → P
no_error x e h = absurd cc

-- a sink: the call didn't fail
pub sink_unfailed : {K T E : Type 0} {view : K → SinkView} {later : K → K → Type 0} {x y : K} (a : T) (e : E) → LentSink view later (IsErrOf (Ok a) e) x y → LentSink view later ⊥ x y
sink_unfailed a e h = sink_as (no_error a e) (λ f. absurd f) h

-- a source: it gave a piece
pub source_gave : {S T E : Type 0} {ended : Type 0} {view : S → SourceView} {later : S → S → Type 0} {x y : S} (a : T) (e : E) → LentSource view later (IsErrOf (Ok a) e) ended x y → LentSource view later ⊥ ⊥ x y
source_gave a e h = source_as (no_error a e) (λ f. absurd f) (λ f. absurd f) h
