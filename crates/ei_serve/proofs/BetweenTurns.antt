-- What a session is between its turns, and how little it holds then.
use Rattle.std.proofs.Common.{◌≡◌, ◌≤◌, ◌<◌, ℕ, List, length, true, false, Result, Ok, Err, inl, inr, refl, sym, ap, ◌∙◌, arith}
use Rattle.std.specs.Prelude.{◌↔◌}
use Rattle.ei_spec.specs.declared.handle.Handle.{Handle}
use Rattle.ei_spec.specs.declared.limits.TheConstants.{MOST_MESSAGE_BYTES}
use Rattle.ei_spec.specs.Message.{Raw}
use Rattle.ei_spec.specs.Piece.{Piece, stream}
use Rattle.ei_session.specs.Setup.{Setup}
use Rattle.ei_backend.specs.Endpoint.{Endpoint}
use Rattle.ei_types.specs.declared.error.Error.{Error}
use Rattle.ei_serve.specs.declared.phase.Phase.{Phase}
use Rattle.ei_serve.specs.declared.phase.Phase.TheVariants as phase
use Rattle.ei_serve.specs.declared.session.Turn.{Turn}
use Rattle.ei_serve.specs.declared.session.Turn.TheVariants as turn
use Rattle.ei_serve.specs.declared.state.SessionState.{SessionState}
use Rattle.ei_serve.specs.Around.{Around}
use Rattle.ei_serve.specs.Standing.{Stands, StandsAt, IsOpenIn, StandsForSome, IsOver, IsSession, HoldsFewBytesIn, HoldsLittle, most_capacity}
use Rattle.ei_serve.specs.Standing.{connection_in, IsClientAfter, unsent_in, unsent_of, capacity_in, capacity_of}
use Rattle.ei_serve.specs.Turning.{Turns, goes_on}
use Rattle.ei_serve.proofs.FewUnread.{unread_few}

-- ---- how little it holds

-- a phase that stands is open
pub open_in : (setup : Setup) (past : List Raw) (times rest : List ℕ) (handles : List Handle) (p : Phase) → StandsAt setup past times rest handles p → IsOpenIn p
open_in setup past times rest handles (phase.Handshake b h) s = ap (λ (e : Endpoint). e.closed) s.1.endpoint
open_in setup past times rest handles (phase.Connected c) s = s.held.opened
open_in setup past times rest handles phase.Over s = absurd s

-- a phase that stands, with few bytes unread
few_at : (setup : Setup) (past : List Raw) (times rest : List ℕ) (handles : List Handle) (p : Phase) → StandsAt setup past times rest handles p → length rest < MOST_MESSAGE_BYTES → HoldsFewBytesIn p
few_at setup past times rest handles (phase.Handshake b h) s few = record {
  opened = ap (λ (e : Endpoint). e.closed) s.1.endpoint;
  unsent = ap (λ (e : Endpoint). e.unsent) s.1.endpoint;
  unread = rw (ap (λ (e : Endpoint). e.unread) s.1.endpoint) few;
  ring = s.1.ring;
}
few_at setup past times rest handles (phase.Connected c) s few = record {
  opened = s.held.opened;
  unsent = s.unsent;
  unread = rw s.unread few;
  ring = s.ring;
}
few_at setup past times rest handles phase.Over s few = absurd s

-- what a phase that stands knows of the client
pub client_at : (setup : Setup) (past : List Raw) (times rest : List ℕ) (handles : List Handle) (p : Phase) → StandsAt setup past times rest handles p → IsClientAfter past (connection_in p)
client_at setup past times rest handles (phase.Handshake b h) s = s.1.unfinished
client_at setup past times rest handles (phase.Connected c) s = (s.held.connected, s.held.name)
client_at setup past times rest handles phase.Over s = absurd s

few_over : (p : Phase) → p ≡ phase.Over → HoldsFewBytesIn p
few_over p e = rw e tt

-- every session holds little
pub holds_little : (s : SessionState) → IsSession s → HoldsLittle s
holds_little s (inl over) = few_over s.phase over
holds_little s (inr r) = few_at r.setup _ r.times _ r.stands.unread s.phase r.stands.phase (unread_few r.setup (stream r.pieces) r.stands.waits)

none_unsent_in : (p : Phase) → HoldsFewBytesIn p → unsent_in p ≡ 0
none_unsent_in (phase.Handshake b h) few = ap length few.unsent
none_unsent_in (phase.Connected c) few = ap length few.unsent
none_unsent_in phase.Over few = refl

-- none of its bytes waits for the sink
pub none_unsent : (s : SessionState) → IsSession s → unsent_of s ≡ 0
none_unsent s is = none_unsent_in s.phase (holds_little s is)

most_in : (p : Phase) → HoldsFewBytesIn p → capacity_in p ≤ most_capacity
most_in (phase.Handshake b h) few = few.ring
most_in (phase.Connected c) few = few.ring
most_in phase.Over few = omega arith

-- and its ring is bounded
pub most_held : (s : SessionState) → IsSession s → capacity_of s ≤ most_capacity
most_held s is = most_in s.phase (holds_little s is)

-- ---- a turn leaves a session

not_over_at : (setup : Setup) (past : List Raw) (times rest : List ℕ) (handles : List Handle) (p : Phase) → StandsAt setup past times rest handles p → p ≡ phase.Over → ⊥
not_over_at setup past times rest handles (phase.Handshake b h) s e = absurd cc
not_over_at setup past times rest handles (phase.Connected c) s e = absurd cc
not_over_at setup past times rest handles phase.Over s e = s

-- what stands isn't over
pub not_over : (setup : Setup) (pieces : List Piece) (times : List ℕ) (s : SessionState) → Stands setup pieces times s → IsOver s → ⊥
not_over setup pieces times s stands = not_over_at setup _ times _ stands.unread s.phase stands.phase

-- a session that isn't over stands for some pieces
pub stands_for_some : (s : SessionState) → IsSession s → (IsOver s → ⊥) → StandsForSome s
stands_for_some s (inl over) going = absurd (going over)
stands_for_some s (inr r) going = r

-- behind `GoOn` it stands for one piece more
some_after : (setup : Setup) (pieces : List Piece) (times : List ℕ) (r : Result Turn Error) (t : SessionState) (x y : Around) → Turns setup pieces times r t x y → goes_on r ≡ true → StandsForSome t
some_after setup pieces times (Ok turn.GoOn) t x y h e = record { setup = setup; pieces = _; times = _; stands = h.stands }
some_after setup pieces times (Ok turn.Disconnect) t x y h e = let g : false ≡ true = e in absurd cc
some_after setup pieces times (Ok turn.End) t x y h e = let g : false ≡ true = e in absurd cc
some_after setup pieces times (Err e) t x y h g = let f : false ≡ true = g in absurd cc

-- so does a session that wasn't over
pub stands_after : (s t : SessionState) (is : IsSession s) (going : IsOver s → ⊥) (r : Result Turn Error) (x y : Around) → ((setup : Setup) (pieces : List Piece) (times : List ℕ) → Stands setup pieces times s → Turns setup pieces times r t x y) → goes_on r ≡ true → StandsForSome t
stands_after s t is going r x y turns e = let b = stands_for_some s is going in some_after b.setup b.pieces b.times r t x y (turns b.setup b.pieces b.times b.stands) e

-- it isn't over then
pub over_exactly : (r : Result Turn Error) (t : SessionState) → goes_on r ≡ true → StandsForSome t → (goes_on r ≡ false) ↔ IsOver t
over_exactly r t e b = (λ f. let g : true ≡ false = sym e ∙ f in absurd cc, λ over. absurd (not_over b.setup b.pieces b.times t b.stands over))
