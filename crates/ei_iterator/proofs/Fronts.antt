-- The message at the front of what is unread, and what reading it leaves as it is.
use Rattle.std.proofs.Common.{◌≡◌, ℕ, true, List, [], ◌∷◌, ◌++◌, length, Option, Some, None, Result, Ok, Err, refl, sym, ap, arith}
use Rattle.std.proofs.lemmas.List.{append-nil}
use Rattle.ei_spec.specs.Interface.{ObjectView}
use Rattle.ei_spec.specs.Message.{Raw, Front, Short, Unlawful, Whole, front}
use Rattle.ei_spec.specs.Reading.{Fault}
use Rattle.ei_spec.specs.Value.{Value}
use Rattle.std.specs.FinMap.{remove}
use Rattle.ei_backend.specs.Table.{found}
use Rattle.ei_backend.specs.Endpoint.{Endpoint}
use Rattle.ei_backend.specs.Backend.{BackendView, Waits, next, said_of, body_read, unsent_of}
use Rattle.ei_event.specs.Converter.{answered}
use Rattle.ei_blocking.specs.Still.{still}
use Rattle.ei_iterator.specs.Turns.{without_ping}
use Rattle.ei_iterator.specs.Around.{pong}

-- ---- reading a message

-- it leaves what is unsent
pub next_unsent : (b : BackendView) → unsent_of (next true b).1 ≡ unsent_of b
next_unsent b = by (front b.unread) refl
  where
    at : (m : Raw) (rest : List ℕ) (o : Option ObjectView) → front b.unread ≡ Whole m rest → found b.table m.id ≡ o → unsent_of (next true b).1 ≡ unsent_of b
    at m rest None e f = rw (e, f) refl
    at m rest (Some target) e f = rw (e, f) refl

    by : (f : Front) → front b.unread ≡ f → unsent_of (next true b).1 ≡ unsent_of b
    by Short e = rw e refl
    by (Unlawful n) e = rw e refl
    by (Whole m rest) e = at m rest (found b.table m.id) e refl

-- and whether the endpoint is closed
pub next_closed : (b : BackendView) → (next true b).1.closed ≡ b.closed
next_closed b = by (front b.unread) refl
  where
    at : (m : Raw) (rest : List ℕ) (o : Option ObjectView) → front b.unread ≡ Whole m rest → found b.table m.id ≡ o → (next true b).1.closed ≡ b.closed
    at m rest None e f = rw (e, f) refl
    at m rest (Some target) e f = rw (e, f) refl

    by : (f : Front) → front b.unread ≡ f → (next true b).1.closed ≡ b.closed
    by Short e = rw e refl
    by (Unlawful n) e = rw e refl
    by (Whole m rest) e = at m rest (found b.table m.id) e refl

said_no_wait : {P : Type 0} (target : ObjectView) (opcode : ℕ) (r : Result (List Value) Fault) → said_of target opcode r ≡ Waits → P
said_no_wait target opcode (Ok values) e = absurd cc
said_no_wait target opcode (Err f) e = absurd cc

-- where no message is whole nothing changes
pub waits_keeps : (b : BackendView) → (next true b).0 ≡ Waits → (next true b).1 ≡ b
waits_keeps b = by (front b.unread) refl
  where
    at : (m : Raw) (rest : List ℕ) (o : Option ObjectView) → front b.unread ≡ Whole m rest → found b.table m.id ≡ o → (next true b).0 ≡ Waits → (next true b).1 ≡ b
    at m rest None e f = rw (e, f) (λ w. absurd cc)
    at m rest (Some target) e f = rw (e, f) (λ w. said_no_wait target m.opcode (body_read true target m.opcode m.body b.handles b.table).said w)

    by : (f : Front) → front b.unread ≡ f → (next true b).0 ≡ Waits → (next true b).1 ≡ b
    by Short e = rw e (λ w. refl)
    by (Unlawful n) e = rw e (λ w. absurd cc)
    by (Whole m rest) e = at m rest (found b.table m.id) e refl

none_at : (bytes : List ℕ) → length bytes ≡ 0 → front bytes ≡ Short
unfolding front
none_at [] e = refl
none_at (x ∷ bytes) e = absurd (omega (arith, e))

-- where nothing is unread no message is whole
pub waits_empty : (b : BackendView) → length b.unread ≡ 0 → (next true b).0 ≡ Waits
waits_empty b e = let short : front b.unread ≡ Short = none_at b.unread e in rw short refl

-- ---- the answer to a ping

-- the endpoint stands as without the ping
pub answered_still : (p : Option ObjectView) (b : BackendView) → still (answered p b) ≡ still (without_ping p b)
answered_still None b = refl
answered_still (Some ping) b = refl

pub answered_unread : (p : Option ObjectView) (b : BackendView) → (answered p b).unread ≡ b.unread
answered_unread None b = refl
answered_unread (Some ping) b = refl

-- what stands without it, by what stands with it
pub without_still : (p : Option ObjectView) (x y : BackendView) → still x ≡ still y → still (without_ping p x) ≡ still (without_ping p y)
without_still None x y e = e
without_still (Some ping) x y e = ap (λ (s : Endpoint). record s { objects = remove s.objects ping.id }) e

-- and the answer is unsent
pub answered_unsent : (p : Option ObjectView) (b : BackendView) → unsent_of (answered p b) ≡ record { bytes = b.unsent ++ pong p; handles = b.unsent_handles }
answered_unsent None b = ap (λ (l : List ℕ). record { bytes = l; handles = b.unsent_handles }) (sym (append-nil b.unsent))
answered_unsent (Some ping) b = ap (λ (hs : List _). record { bytes = b.unsent ++ pong (Some ping); handles = hs }) (append-nil b.unsent_handles)

pub without_closed : (p : Option ObjectView) (b : BackendView) → (without_ping p b).closed ≡ b.closed
without_closed None b = refl
without_closed (Some ping) b = refl
