-- What a session says of the outside.
use Rattle.std.proofs.Common.{◌≡◌, false, ◌≤◌, ℕ, zero, suc, List, [], ◌∷◌, length, take, Some, Result, Ok, Err, refl, ap, subst, ◌∙◌, arith}
use Rattle.std.specs.Prelude.{OnErr, IsErrOf}
use Rattle.std.specs.Option.{ForSome}
use Rattle.std.proofs.lemmas.List.{append-nil}
use Rattle.ei_spec.specs.declared.handle.Handle.{Handle}
use Rattle.ei_spec.specs.Message.{bytes_of}
use Rattle.ei_backend.specs.Outside.{Piece, SinkView, with_more}
use Rattle.ei_backend.specs.Outgoing.{IsPutOf, Went, beside, sent_front}
use Rattle.ei_backend.proofs.GoingOut.{none_put}
use Rattle.ei_wire.specs.declared.error.FlushError.{FlushError}
use Rattle.ei_backend.specs.Table.{found, new_table, first_object, first_server_id}
use Rattle.ei_backend.specs.Backend.{BackendView, new_backend, unsent_of}
use Rattle.ei_handshake.specs.Handshaker.{sends}
use Rattle.ei_session.specs.Replies.{greeting, greeting_to}
use Rattle.ei_serve.specs.Causes.{Greeted, GreetedInPart}
use Rattle.ei_serve.proofs.Standing.{found_first}
use Rattle.ei_serve.proofs.Going.{none_more}

abbrev ok_of : {T : Type 0} (E : Type 0) → T → Result T E
ok_of E x = Ok x

-- the error that comes out is the one that came in
pub err_as : {T U E : Type 0} (r : Result U E) (a e : E) → r ≡ Err a → IsErrOf {T = T} (Err a) e → IsErrOf r e
err_as r a e same h = let g : a ≡ e = cc in same ∙ ap (λ (x : _). Err x) g

-- no answer is an error as well
pub no_risen : {T E P : Type 0} (x : T) (e : E) → ok_of E x ≡ Err e → P
no_risen x e h = absurd cc

-- the greeting, and no handle
abbrev pub the_greeting : Piece
the_greeting = record { bytes = bytes_of greeting; handles = [] }

abbrev piece_of : List ℕ → Piece
piece_of bytes = record { bytes = bytes; handles = [] }

-- a new endpoint that greets has the greeting to send
pub greets : (b new : BackendView) → b ≡ new_backend (new_table false first_server_id) → ForSome (found b.table 0) (λ handshake. new ≡ sends b (greeting_to handshake.id ∷ [])) → unsent_of new ≡ the_greeting
greets b new e h =
    let first : found b.table 0 ≡ Some (first_object false) = ap (λ (x : BackendView). found x.table 0) e ∙ found_first false first_server_id in
    let sent : unsent_of new ≡ unsent_of (sends (new_backend (new_table false first_server_id)) (greeting ∷ [])) = ap unsent_of (h (first_object false) first) ∙ ap (λ (x : BackendView). unsent_of (sends x (greeting ∷ []))) e in
    sent ∙ ap (λ (bytes : List ℕ). piece_of bytes) (append-nil (bytes_of greeting))

-- no handle goes out beside any bytes
no_beside : (n : ℕ) → beside n [] ≡ []
no_beside zero = refl
no_beside (suc n) = refl

front_is : (n : ℕ) (waiting held : Piece) → waiting ≡ the_greeting → sent_front n waiting held ≡ with_more (take n (bytes_of greeting)) [] held
front_is n waiting held e = rw e (ap (λ (handles : List Handle). with_more (take n (bytes_of greeting)) handles held) (no_beside n))

-- what a sink has after the flush of the greeting
pub greeted : (waiting left : Piece) (old new : SinkView) → waiting ≡ the_greeting → Went waiting (Ok tt) left old new → old.wants ≤ new.wants → Greeted old new
greeted waiting left old new w h count = record {
  told = λ held told. h.took held told ∙ ap (λ (x : Piece). Some (with_more x.bytes x.handles held)) w;
  puts = subst (λ (p : Piece). IsPutOf p old.puts new.puts) w h.puts;
  wants = count;
}

-- and where it was refused
pub greeted_in_part : (waiting left : Piece) (e : FlushError) (old new : SinkView) → waiting ≡ the_greeting → Went waiting (Err e) left old new → GreetedInPart old new
greeted_in_part waiting left e old new w h = record {
  told = λ held told.
      let x = h.took held told in
      let few : x.0 ≤ length waiting.bytes = omega (arith, x.1) in
      (x.0, rw (← ap (λ (p : Piece). length p.bytes) w) few, x.2 ∙ ap (λ (p : Piece). Some p) (front_is x.0 waiting held w));
  puts = subst (λ (p : Piece). IsPutOf p old.puts new.puts) w h.puts;
}

-- the sink wasn't lent yet
pub not_greeted : (sink : SinkView) → GreetedInPart sink sink
not_greeted sink = record {
  told = λ held told. (0, omega arith, told ∙ ap (λ (p : Piece). Some p) (none_more held));
  puts = none_put the_greeting sink.puts;
}

pub on_err : {T E : Type 0} (r : Result T E) (P : Type 0) → P → OnErr r P
on_err (Ok x) P p = tt
on_err (Err e) P p = p
