-- A session on its way: what it took, gave and replied since its start.
use Rattle.std.proofs.Common.{◌≡◌, ℕ, zero, suc, ◌+◌, ◌≤◌, List, [], ◌∷◌, ◌++◌, length, take, drop, Option, Some, None, refl}
use Rattle.std.proofs.Common.{ap, sym, subst, ◌∙◌, append_assoc, arith}
use Rattle.std.specs.Prelude.{slice_get}
use Rattle.std.proofs.lemmas.List.{append-nil, length-append, drop-drop}
use Rattle.std.proofs.lemmas.Grind.{flat_map-append}
use Rattle.ei_spec.specs.Message.{Raw, front, bytes_of, all_bytes}
use Rattle.ei_spec.specs.Piece.{Piece, stream, handle_count}
use Rattle.ei_spec.specs.Stream.{Waiting, Reading, reading, read, read_within}
use Rattle.ei_spec.specs.History.{each}
use Rattle.ei_spec.specs.Groups.{frames_made}
use Rattle.ei_session.specs.Setup.{Setup}
use Rattle.ei_session.specs.Requests.{slot, framed}
use Rattle.ei_session.specs.Events.{replies}
use Rattle.ei_session.specs.Refusals.{Refusal as Cause}
use Rattle.ei_session.specs.Served.{reading_of, accepted}
use Rattle.ei_backend.specs.Outside.{SourceView, SinkView, with_more}
use Rattle.ei_backend.specs.Incoming.{Hands}
use Rattle.ei_request.specs.declared.event.EisRequest.{EisRequest}
use Rattle.ei_serve.specs.declared.state.SessionState.{SessionState}
use Rattle.ei_serve.specs.Around.{Around, around, AreDrawn, LeavesReadings}
use Rattle.ei_serve.specs.Standing.{Stands, StandsAt, terms_of}
use Rattle.ei_serve.specs.Steps.{GivesOut, Replies}
use Rattle.ei_serve.specs.Taking.{with_next}
use Rattle.ei_serve.specs.Turning.{GoesOn}
use Rattle.ei_serve.specs.Serving.{Replied}
use Rattle.ei_serve.proofs.Puts.{no_replies, puts_on}
use Rattle.ei_serve.proofs.Going.{gives_none, gives_then, drawn_then, leaves_then, more_more}

-- of the pieces told, the first n were taken, and they are these
pub record Took (told : List Piece) (left : Option (List Piece)) (n : ℕ) (pieces : List Piece) : Type 0 where
  pub within : n ≤ length told
  pub left_is : left ≡ Some (drop n told)
  pub are : take n told ≡ pieces

-- after n turns
pub record Running (setup : Setup) (n : ℕ) (s : SessionState) (old new : Around) : Type 0 where
  pub pieces : List Piece
  pub times : List ℕ
  pub count : length pieces ≡ n
  pub stands : Stands setup pieces times s
  pub took : (told : List Piece) → old.source.left ≡ Some told → Took told new.source.left n pieces
  pub given : new.source.given ≡ old.source.given ++ pieces
  pub asked : new.source.asked ≤ old.source.asked + n
  pub gives : GivesOut setup [] (accepted setup (stream pieces)) [] times old.out new.out
  pub replied : Replied setup (accepted setup (stream pieces)) old.sink new.sink
  pub drawn : AreDrawn times old.readings
  pub leaves : LeavesReadings times old.readings new.readings
  pub frames : length times + frames_made (each (slot setup) []) ≡ frames_made (each (slot setup) (accepted setup (stream pieces)))

-- ---- the pieces told

-- the first piece of those behind n others is the next
front_more : (n : ℕ) (told : List Piece) (piece : Piece) → slice_get (drop n told) 0 ≡ Some piece → (take (n + 1) told ≡ take n told ++ piece ∷ []) × (n + 1 ≤ length told)
front_more zero [] piece e = absurd cc
front_more zero (p ∷ told) piece e = let same : p ≡ piece = cc in (ap (λ (x : Piece). x ∷ []) same, omega arith)
front_more (suc n) [] piece e = absurd cc
front_more (suc n) (p ∷ told) piece e =
    let h = front_more n told piece e in
    let shift : suc n + 1 ≡ suc (n + 1) = omega arith in
    (ap (λ (k : ℕ). take k (p ∷ told)) shift ∙ ap (λ (x : List Piece). p ∷ x) h.0, omega (arith, h.1))

pub took_more : (told : List Piece) (before after : SourceView) (n : ℕ) (pieces : List Piece) (piece : Piece) → Took told before.left n pieces → Hands before piece after → Took told after.left (n + 1) (with_next pieces piece)
took_more told before after n pieces piece t hands =
    let h = hands.told (drop n told) t.left_is in
    let f = front_more n told piece h.first in
    record {
      within = f.1;
      left_is = h.left_is ∙ ap (λ (x : List Piece). Some x) (drop-drop 1 n told);
      are = f.0 ∙ ap (λ (x : List Piece). x ++ piece ∷ []) t.are;
    }

-- ---- the replies

joined_bytes : (a b : List Raw) → all_bytes (a ++ b) ≡ all_bytes a ++ all_bytes b
joined_bytes a b = flat_map-append bytes_of a b

pub replied_then : (setup : Setup) (a b : List Raw) (x y z : SinkView) → ((done : List Raw) × (b ≡ done ++ a)) → Replied setup a x y → Replies setup a b y z → Replied setup b x z
replied_then setup a b x y z behind r s = record {
  told = λ held told.
      let q = s.told (with_more (all_bytes (replies setup a)) [] held) (r.told held told) in
      q.2 ∙ ap (λ (t : Piece). Some t) (more_more (all_bytes (replies setup a)) (all_bytes q.0) held)
      ∙ ap (λ (t : List ℕ). Some (with_more t [] held)) (sym (joined_bytes (replies setup a) q.0) ∙ ap all_bytes (sym q.1));
  puts = puts_on setup a b x.puts y.puts z.puts behind r.puts s.puts;
  wants = omega (arith, r.wants, s.wants);
}

-- ---- one turn more

pub goes_on : (setup : Setup) (n : ℕ) (s t : SessionState) (x y z : Around) (r : Running setup n s x y) → GoesOn setup r.pieces r.times t y z → Running setup (n + 1) t x z
goes_on setup n s t x y z r g = record {
  pieces = with_next r.pieces g.piece;
  times = r.times ++ g.used;
  count = length-append r.pieces (g.piece ∷ []) ∙ ap (λ (k : ℕ). k + 1) r.count;
  stands = g.stands;
  took = λ told e. took_more told y.source z.source n r.pieces g.piece (r.took told e) g.hands;
  given = g.hands.given ∙ ap (λ (l : List Piece). l ++ g.piece ∷ []) r.given ∙ append_assoc x.source.given r.pieces (g.piece ∷ []);
  asked = omega (arith, r.asked, g.hands.asked.once);
  gives = gives_then setup [] (accepted setup (stream r.pieces)) (accepted setup (stream (with_next r.pieces g.piece))) [] r.times g.used x.out y.out z.out g.goes.behind r.gives g.goes.gives;
  replied = replied_then setup (accepted setup (stream r.pieces)) (accepted setup (stream (with_next r.pieces g.piece))) x.sink y.sink z.sink g.goes.behind r.replied g.goes.replies;
  drawn = drawn_then r.times g.used x.readings y.readings r.drawn r.leaves g.goes.drawn;
  leaves = leaves_then r.times g.used x.readings y.readings z.readings r.leaves g.goes.leaves;
  frames = omega (arith, r.frames, g.goes.frames, length-append r.times g.used);
}

-- nothing is read of no pieces
pub nothing_read : (setup : Setup) → reading_of setup (stream []) ≡ reading [] [] Waiting
unfolding reading_of stream read read_within front
nothing_read setup = refl

pub none_accepted : (setup : Setup) → accepted setup (stream []) ≡ []
none_accepted setup = ap (λ (r : Reading Cause). r.past) (nothing_read setup)

-- a sink that told nothing of what it held
abbrev pub untold : SinkView → SinkView
untold sink = record sink { taken = None }

-- anything is behind that
pub untold_replied : (setup : Setup) (messages : List Raw) (sink : SinkView) → Replied setup messages (untold sink) sink
untold_replied setup messages sink = record { told = λ held told. absurd cc; puts = no_replies setup messages sink.puts; wants = omega arith }

-- a session that just started stands for no pieces
pub stands_for_none : (setup : Setup) (s : SessionState) → terms_of s.start.terms ≡ setup → StandsAt setup [] [] [] [] s.phase → s.taken ≡ 0 → Stands setup [] [] s
unfolding handle_count
stands_for_none setup s started phase taken = record {
  started = started;
  goes_on = λ k low high. absurd (omega (arith, low, high));
  waits = ap (λ (r : Reading Cause). r.stop) (nothing_read setup);
  unread = [];
  phase = subst (λ (r : Reading Cause). StandsAt setup r.past [] r.rest [] s.phase) (sym (nothing_read setup)) phase;
  handles = refl;
  taken = taken;
}

pub starts : (setup : Setup) (s : SessionState) (source : SourceView) (out : List EisRequest) (old new : SinkView) (readings : Option (List ℕ)) → Stands setup [] [] s → Replied setup [] old new → Running setup 0 s (around source out old readings) (around source out new readings)
starts setup s source out old new readings stands r = record {
  pieces = [];
  times = [];
  count = refl;
  stands = stands;
  took = λ told e. record { within = omega arith; left_is = e; are = refl };
  given = sym (append-nil source.given);
  asked = omega arith;
  gives = gives_none setup [] (accepted setup (stream [])) [] out (λ given. ap (framed setup given) (none_accepted setup));
  replied = subst (λ (m : List Raw). Replied setup m old new) (sym (none_accepted setup)) r;
  drawn = λ told is. refl;
  leaves = λ told is. is;
  frames = omega (arith, ap (λ (m : List Raw). frames_made (each (slot setup) m)) (none_accepted setup));
}
