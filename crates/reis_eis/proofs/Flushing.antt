-- What waits behind a flush to a sink that takes so many bytes.
use Rattle.std.proofs.Common.{subst, ◌≡◌, ℕ, ◌<◌, ◌≤◌, List, [], ◌∷◌, length, take, Option, Some, Result, Ok, Err, refl, sym, ap, ◌∙◌, arith}
use Rattle.std.proofs.Math.Seq.{drop-length}
use Rattle.std.specs.Prelude.{IsErrOf}
use Rattle.std.proofs.lemmas.List.{length-take-le}
use Rattle.ei_spec.specs.declared.handle.Handle.{Handle}
use Rattle.ei_spec.specs.Piece.{Piece}
use Rattle.ei_wire.specs.declared.error.FlushError.{FlushError}
use Rattle.ei_wire.specs.declared.error.FlushError.TheVariants as flush_error
use Rattle.ei_backend.specs.Backend.{unsent_of, with_unsent}
use Rattle.ei_backend.specs.Outside.{Rose, SinkView}
use Rattle.ei_backend.specs.Outgoing.{nothing, unsent_after, StopsAfter, GoesOut, Flushes}
use Rattle.reis_eis.specs.declared.phase.Phase.{Phase}
use Rattle.reis_eis.specs.declared.phase.Phase.TheVariants as phase
use Rattle.reis_eis.specs.Lent.{written_view}
use Rattle.reis_eis.specs.Written.{IsLater}
use Rattle.reis_eis.specs.Words.{IsWhole, shaking_with, with_ctx, unsent_in, context_in}
use Rattle.reis_eis.specs.Starting.{waits_in}
use Rattle.reis_eis.specs.Passing.{FlushesPhase}

all_out_of : (bytes : List ℕ) (handles : List Handle) → (bytes ≡ [] → ◌≡◌ {A = Piece} nothing (record { bytes = bytes; handles = handles })) →
    ◌≡◌ {A = Piece} (unsent_after (length bytes) (record { bytes = bytes; handles = handles })) nothing
all_out_of [] handles same = sym (same refl)
all_out_of (b ∷ bytes) handles same = rw (drop-length bytes) refl

-- all of a piece, where it has a byte or no handle is told
all_out : (old : Piece) → (old.bytes ≡ [] → nothing ≡ old) → unsent_after (length old.bytes) old ≡ nothing
all_out old same = all_out_of old.bytes old.handles same

-- as many bytes went out as the sink takes
module _ (old new : Piece) (n left faults : ℕ) (taken : Piece) (fits : n ≤ length old.bytes) (later : IsLater n 0 nothing left faults taken) where
  out_all : taken.bytes ≡ old.bytes → n ≡ length old.bytes
  out_all e = omega (arith, ap (λ (bytes : List ℕ). length bytes) e, later.count)

  out_some : (k : ℕ) → k < length old.bytes → taken.bytes ≡ take k old.bytes → 0 < faults → n ≡ k
  out_some k short e failed = omega (arith, ap (λ (bytes : List ℕ). length bytes) e, length-take-le k old.bytes (omega arith), later.count, later.failed failed)

  goes_out : (r : Result (Unit {0}) FlushError) → StopsAfter old r new → GoesOut nothing old r new (Some taken) → (IsErrOf r flush_error.WriteFault → Rose 0 faults) →
      (IsErrOf r flush_error.NoMemory → Rose 0 0) → (old.bytes ≡ [] → new ≡ old) → new ≡ unsent_after n old
  goes_out (Ok x) stops goes fault want none =
      let e : taken.bytes ≡ old.bytes = cc in
      stops ∙ sym (all_out old (λ empty. sym stops ∙ none empty)) ∙ ap (λ (k : ℕ). unsent_after k old) (sym (out_all e))
  goes_out (Err flush_error.WriteFault) stops goes fault want none =
      let e : taken.bytes ≡ take goes.0 old.bytes = cc (goes.2) in
      goes.3 ∙ ap (λ (k : ℕ). unsent_after k old) (sym (out_some goes.0 goes.1 e (omega (arith, fault refl))))
  goes_out (Err flush_error.NoMemory) stops goes fault want none = absurd (omega (arith, want refl))

-- the same of a phase
module _ {K : Type 0} (view : K → SinkView) (later : K → K → Type 0) (before after : K) (n left_old faults_old : ℕ) (taken_old : Piece) (left faults : ℕ) (taken : Piece)
    (left_is : left_old ≡ n) (faults_is : faults_old ≡ 0) (taken_is : taken_old ≡ nothing) (is_before : view before ≡ written_view taken_old faults_old)
    (is_after : view after ≡ written_view taken faults) (grew : later before after → IsLater left_old faults_old taken_old left faults taken) where
  from_nothing : view before ≡ written_view nothing 0
  from_nothing = is_before ∙ ap (λ (p : Piece). written_view p faults_old) taken_is ∙ ap (λ (f : ℕ). written_view nothing f) faults_is

  grew_from : later before after → IsLater n 0 nothing left faults taken
  grew_from l =
      subst (λ (k : ℕ). IsLater k 0 nothing left faults taken) left_is
      (subst (λ (f : ℕ). IsLater left_old f nothing left faults taken) faults_is (subst (λ (p : Piece). IsLater left_old faults_old p left faults taken) taken_is (grew l)))

  flushed : (old new : Piece) (r : Result (Unit {0}) FlushError) → n ≤ length old.bytes → Flushes view later r old new before after → new ≡ unsent_after n old
  flushed old new r fits f =
      goes_out old new n left faults taken fits (grew_from f.lent.lent.later_sink) r f.stops
      (subst (λ (o : Option Piece). GoesOut nothing old r new o) (ap (λ (v : SinkView). v.taken) is_after) (f.went.took nothing (ap (λ (v : SinkView). v.taken) from_nothing)))
      (λ e. subst (λ (k : ℕ). Rose 0 k) (ap (λ (v : SinkView). v.faults) is_after) (subst (λ (k : ℕ). Rose k (view after).faults) (ap (λ (v : SinkView). v.faults) from_nothing) (f.lent.lent.write_fault e)))
      (λ e. subst (λ (k : ℕ). Rose 0 k) (ap (λ (v : SinkView). v.wants) is_after) (subst (λ (k : ℕ). Rose k (view after).wants) (ap (λ (v : SinkView). v.wants) from_nothing) (f.lent.want e)))
      (λ e. (f.nothing e).1)

  pub flushed_in : (p q : Phase) (r : Result (Unit {0}) FlushError) → IsWhole p → n ≤ length (unsent_in p).bytes → FlushesPhase view later r p q before after → q ≡ waits_in p (unsent_after n (unsent_in p)) (context_in p)
  flushed_in (phase.Shaking h) q r whole fits f =
      f.is ∙ ap (λ (w : Piece). phase.Shaking (shaking_with h (with_unsent w h.context))) (flushed (unsent_of h.context) (unsent_of f.left) r fits f.flushes)
  flushed_in (phase.Standing c) q r whole fits f =
      f.is ∙ ap (λ (w : Piece). phase.Standing (with_ctx c (with_unsent w c.handle.ctx))) (flushed (unsent_of c.handle.ctx) (unsent_of f.left) r fits f.flushes)
  flushed_in phase.Between q r whole fits f = absurd whole
