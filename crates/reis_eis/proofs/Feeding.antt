-- A piece that was handed in.
use Rattle.std.proofs.Common.{◌≡◌, ℕ, suc, ◌+◌, ◌<◌, ◌≤◌, Bool, true, false, List, [], ◌∷◌, length, Option, Some, None, Ok, Err, refl, sym, ap, subst, ◌∙◌, inl, inr, arith}
use Rattle.std.specs.Prelude.{IsErrOf}
use Rattle.ei_spec.specs.declared.handle.Handle.{Handle}
use Rattle.ei_spec.specs.Piece.{Piece}
use Rattle.ei_spec.specs.declared.limits.TheConstants.{MOST_PIECE_BYTES}
use Rattle.ei_wire.specs.declared.error.ReadError.{ReadError}
use Rattle.ei_wire.specs.declared.error.ReadError.TheVariants as read_error
use Rattle.ei_types.specs.Errors.{error_of_read}
use Rattle.ei_backend.specs.Backend.{BackendView, Reads, ReadsOn, with_piece}
use Rattle.ei_backend.specs.Incoming.{Fits, Overflows, Hands}
use Rattle.ei_backend.specs.Outside.{SourceView}
use Rattle.ei_backend.specs.declared.outside.LastAnswer.{LastAnswer}
use Rattle.reis_eis.specs.declared.ending.Ending.{Ending}
use Rattle.reis_eis.specs.declared.ending.Ending.TheVariants as ending
use Rattle.reis_eis.specs.declared.phase.Phase.{Phase}
use Rattle.reis_eis.specs.declared.phase.Phase.TheVariants as phase
use Rattle.reis_eis.specs.Lent.{lent, lent_view}
use Rattle.reis_eis.specs.Words.{IsWhole, shaking_with, with_ctx}
use Rattle.reis_eis.specs.Passing.{ReadsPhase}
use Rattle.reis_eis.specs.declared.notice.Notice.{Notice}
use Rattle.reis_eis.specs.declared.step.Step.{Step}
use Rattle.reis_eis.specs.Handling.{Steps}
use Rattle.reis_eis.specs.Feeding.{HandlesSome, HandlesAll, TellsBy, LeavesPiece, Feeds}

on_closed : {X : Type 0} (b : Bool) → (b ≡ true → X) → (b ≡ false → X) → X
on_closed true is_so is_not = is_so refl
on_closed false is_so is_not = is_not refl

-- a ring in which there is no place for a piece has to grow
abbrev HasToGrow : BackendView → Type 0
HasToGrow b = b.capacity < length b.unread + MOST_PIECE_BYTES

above : (a b : ℕ) → (a ≤ b → ⊥) → b < a
above a b h = grind arith

has_to_grow : (b : BackendView) → (length b.unread + MOST_PIECE_BYTES ≤ b.capacity → ⊥) → HasToGrow b
has_to_grow b full = above (length b.unread + MOST_PIECE_BYTES) b.capacity full

-- the piece came into the endpoint
record Came (n : ℕ) (piece : Piece) (old new : BackendView) : Type 0 where
  pub fits : Fits n old.handles piece
  pub is : new ≡ with_piece piece old

module _ {S : Type 0} (view : S → SourceView) (later : S → S → Type 0) (before after : S) (b : ℕ) (bytes : List ℕ) (handles : List Handle) (given : List Piece) (last : LastAnswer)
    (is_lent : view before ≡ lent_view (lent (b ∷ bytes) handles) given last) where
  abbrev piece : Piece
  piece = record { bytes = b ∷ bytes; handles = handles }

  left_is : (view before).left ≡ Some (piece ∷ [])
  left_is = ap (λ (v : SourceView). v.left) is_lent

  -- what was handed out is the piece
  handed : (p : Piece) → Hands (view before) p (view after) → p ≡ piece
  handed p h = let f = (h.told (piece ∷ []) left_is).first in cc

  came_on : (n : ℕ) (old new : BackendView) → ReadsOn (view before) (view after) (Ok n) old new → Came n piece old new
  came_on n old new r =
      let same = handed r.0 r.1 in
      record { fits = subst (λ (p : Piece). Fits n old.handles p) same r.2; is = r.3 ∙ ap (λ (p : Piece). with_piece p old) same }

  came : (n : ℕ) (old new : BackendView) → Reads view later (Ok n) old new before after → Came n piece old new
  came n old new r = on_closed old.closed (λ closed. let e = (r.closed closed).0 in cc) (λ opened. came_on n old new (r.reads opened))

  -- or it didn't, and why
  left_on : (e : ReadError) (old new : BackendView) → ReadsOn (view before) (view after) (Err e) old new → (e ≡ read_error.ReadFault → ⊥) → (e ≡ read_error.NoMemory → HasToGrow old) → LeavesPiece e piece old new
  left_on read_error.HandleLimit old new r never full = let same = handed r.0 r.1 in (subst (λ (p : Piece). Overflows old.handles p) same r.2, r.3)
  left_on read_error.UnexpectedEof old new r never full = let none = (r.0.told (piece ∷ []) left_is).0 in cc
  left_on read_error.ReadFault old new r never full = never refl
  left_on read_error.NoMemory old new r never full = (full refl, r.1)

  left_closed : (e : ReadError) (old new : BackendView) → old.closed ≡ true → IsErrOf {T = ℕ} (Err e) read_error.UnexpectedEof → new ≡ old → LeavesPiece e piece old new
  left_closed read_error.UnexpectedEof old new closed eof same = (closed, same)
  left_closed read_error.HandleLimit old new closed eof same = cc
  left_closed read_error.ReadFault old new closed eof same = cc
  left_closed read_error.NoMemory old new closed eof same = cc

  never_failed : (view before).faults ≡ 0 → (view after).faults ≡ 0 → (e : ReadError) (old new : BackendView) → Reads view later (Err e) old new before after → e ≡ read_error.ReadFault → ⊥
  never_failed f g e old new r is = omega (arith, r.lent.read_fault (ap (λ (x : ReadError). Err x) is))

  left : (view after).faults ≡ 0 → (e : ReadError) (old new : BackendView) → Reads view later (Err e) old new before after → LeavesPiece e piece old new
  left g e old new r = on_closed old.closed (λ closed. let x = r.closed closed in left_closed e old new closed x.0 x.1)
      (λ opened. left_on e old new (r.reads opened) (never_failed (ap (λ (v : SourceView). v.faults) is_lent) g e old new r)
      (λ is. has_to_grow old (λ fits. r.room fits (ap (λ (x : ReadError). Err x) is))))

  -- ---- in a phase

  pub fed : (n time : ℕ) (p q last_phase : Phase) (ns now : List Notice) (how : Option Ending) → ReadsPhase view later (Ok n) p q before after → HandlesAll time q ns last_phase now how →
      Feeds piece time (record { phase = p; ending = None; notices = ns }) (record { phase = last_phase; ending = how; notices = now })
  fed n time (phase.Shaking h) q last_phase ns now how r all =
      let x = came n h.context r.read r.reads in
      inl (record { size = n; fits = x.fits; handles = subst (λ (s : Phase). HandlesAll time s ns last_phase now how) (r.is ∙ ap (λ (c : BackendView). phase.Shaking (shaking_with h c)) x.is) all })
  fed n time (phase.Standing c) q last_phase ns now how r all =
      let x = came n c.handle.ctx r.read r.reads in
      inl (record { size = n; fits = x.fits; handles = subst (λ (s : Phase). HandlesAll time s ns last_phase now how) (r.is ∙ ap (λ (w : BackendView). phase.Standing (with_ctx c w)) x.is) all })
  fed n time phase.Between q last_phase ns now how r all = let e = r.0 in cc

  pub unfed : (view after).faults ≡ 0 → (e : ReadError) (time : ℕ) (p q : Phase) (ns : List Notice) → IsWhole p → ReadsPhase view later (Err e) p q before after →
      Feeds piece time (record { phase = p; ending = None; notices = ns }) (record { phase = q; ending = Some (ending.Refused (error_of_read e)); notices = ns })
  unfed g e time (phase.Shaking h) q ns whole r =
      inr (record { why = e; left = r.read; leaves = left g e h.context r.read r.reads; is = rw r.is refl })
  unfed g e time (phase.Standing c) q ns whole r =
      inr (record { why = e; left = r.read; leaves = left g e c.handle.ctx r.read r.reads; is = rw r.is refl })
  unfed g e time phase.Between q ns whole r = absurd whole

-- a piece with a byte, as it was handed in, to a connection that goes on
module _ {S : Type 0} (view : S → SourceView) (later : S → S → Type 0) (before after : S) (handles : List Handle) (given : List Piece) (last : LastAnswer) where
  fed_list : (bytes : List ℕ) → 1 ≤ length bytes → view before ≡ lent_view (lent bytes handles) given last → (n time : ℕ) (p q last_phase : Phase) (ns now : List Notice) (how : Option Ending) → ReadsPhase view later (Ok n) p q before after →
      HandlesAll time q ns last_phase now how → Feeds (record { bytes = bytes; handles = handles }) time (record { phase = p; ending = None; notices = ns }) (record { phase = last_phase; ending = how; notices = now })
  fed_list [] some is n time p q last_phase ns now how r all = absurd (omega (arith, some))
  fed_list (b ∷ bytes) some is n time p q last_phase ns now how r all = fed view later before after b bytes handles given last is n time p q last_phase ns now how r all

  unfed_list : (bytes : List ℕ) → 1 ≤ length bytes → view before ≡ lent_view (lent bytes handles) given last → (view after).faults ≡ 0 → (e : ReadError) (time : ℕ) (p q : Phase) (ns : List Notice) → IsWhole p →
      ReadsPhase view later (Err e) p q before after →
      Feeds (record { bytes = bytes; handles = handles }) time (record { phase = p; ending = None; notices = ns }) (record { phase = q; ending = Some (ending.Refused (error_of_read e)); notices = ns })
  unfed_list [] some is g e time p q ns whole r = absurd (omega (arith, some))
  unfed_list (b ∷ bytes) some is g e time p q ns whole r = unfed view later before after b bytes handles given last is g e time p q ns whole r

module _ {S : Type 0} (view : S → SourceView) (later : S → S → Type 0) (before after : S) (lent_bytes : List ℕ) (lent_handles : List Handle) (given : List Piece) (last : LastAnswer)
    (is_lent : view before ≡ lent_view (lent lent_bytes lent_handles) given last) (bytes : List ℕ) (handles : List Handle) (bytes_are : lent_bytes ≡ bytes) (handles_are : lent_handles ≡ handles)
    (some : 1 ≤ length bytes) (p : Phase) (how_old : Option Ending) (going : how_old ≡ None) where
  is_piece : view before ≡ lent_view (lent bytes handles) given last
  is_piece = is_lent ∙ ap (λ (bs : List ℕ). lent_view (lent bs lent_handles) given last) bytes_are ∙ ap (λ (hs : List Handle). lent_view (lent bytes hs) given last) handles_are

  pub takes_all : (n time : ℕ) (q last_phase : Phase) (ns now : List Notice) (how : Option Ending) → ReadsPhase view later (Ok n) p q before after → HandlesAll time q ns last_phase now how →
      Feeds (record { bytes = bytes; handles = handles }) time (record { phase = p; ending = how_old; notices = ns }) (record { phase = last_phase; ending = how; notices = now })
  takes_all n time q last_phase ns now how r all =
      subst (λ (e : Option Ending). Feeds (record { bytes = bytes; handles = handles }) time (record { phase = p; ending = e; notices = ns }) (record { phase = last_phase; ending = how; notices = now })) (sym going)
      (fed_list view later before after handles given last bytes some is_piece n time p q last_phase ns now how r all)

  pub takes_none : (view after).faults ≡ 0 → (e : ReadError) (time : ℕ) (q : Phase) (ns : List Notice) → IsWhole p → ReadsPhase view later (Err e) p q before after →
      Feeds (record { bytes = bytes; handles = handles }) time (record { phase = p; ending = how_old; notices = ns }) (record { phase = q; ending = Some (ending.Refused (error_of_read e)); notices = ns })
  takes_none g e time q ns whole r =
      subst (λ (o : Option Ending). Feeds (record { bytes = bytes; handles = handles }) time (record { phase = p; ending = o; notices = ns }) (record { phase = q; ending = Some (ending.Refused (error_of_read e)); notices = ns })) (sym going)
      (unfed_list view later before after handles given last bytes some is_piece g e time p q ns whole r)

-- ---- one message after another

-- these were handled, and what they told waits
abbrev pub SomeHandled : ℕ → Phase → List Notice → Phase → List Notice → Type 0
SomeHandled time old waiting new notices = (n : ℕ) × HandlesSome n time old waiting new notices

pub one_more : (time : ℕ) (old : Phase) (waiting : List Notice) (reached new : Phase) (told now : List Notice) (s : Step) → SomeHandled time old waiting reached told → Steps time reached s new → TellsBy s told now → SomeHandled time old waiting new now
one_more time old waiting reached new told now s h steps tells = (suc h.0, record { reached = reached; waiting = told; handled = h.1; by = s; steps = steps; tells = tells })
