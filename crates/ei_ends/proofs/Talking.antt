-- A talk of two ends, by the lists of what they sent and took.
use Rattle.std.proofs.Common.{◌≡◌, ℕ, zero, suc, ◌≤◌, Bool, true, false, List, [], ◌∷◌, ◌++◌, length, inr, refl, sym, ap, subst, ◌∙◌, append-nil, append_assoc}
use Rattle.std.proofs.Common.{arith}
use Rattle.std.specs.Str.{is_utf8, chars}
use lib.Utf8.{encode}
use Rattle.ei_spec.specs.Interface.{known_of}
use Rattle.ei_spec.specs.Message.{bytes_of, header, le8, le4}
use Rattle.ei_spec.specs.Piece.{Piece}
use Rattle.ei_backend.specs.Backend.{unsent_of}
use Rattle.ei_ends.specs.Sent.{Sent, Got, bytes_in, row_of, spelled}
use Rattle.ei_ends.specs.Announced.{announced, destroyed, next_own}
use Rattle.ei_ends.specs.Agree.{after_of, lost, IsTaken, all_got, NeedNoHandles}
use Rattle.ei_ends.specs.Way.{onto, End}
use Rattle.ei_ends.specs.Steps.{after_call, after_calls, flushed, delivered, after_read, after_reads, no_piece, IsPiece}
use Rattle.ei_ends.specs.Joined.{Joined, heard, AreListedCalls}
use Rattle.ei_ends.specs.Worked.{Talk, server_says, client_says, client_writes, silence}
use Rattle.ei_ends.proofs.JoinedSteps.{begins, turned, flush, deliver, read_next, calls_turn}
use Rattle.ei_ends.proofs.ReadingAll.{TakesAll, takes_as_listed, takes_any, are_calls}

-- ---- what several calls leave

unsent_after : (events : Bool) (ms : List Sent) (x : End) → (after_calls events ms x).backend.unsent ≡ x.backend.unsent ++ spelled ms
unsent_after events [] x = sym (append-nil x.backend.unsent)
unsent_after events (m ∷ ms) x = unsent_after events ms (after_call events m x) ∙ append_assoc x.backend.unsent (bytes_in m) (spelled ms)

sent_after : (events : Bool) (ms : List Sent) (x : End) → (after_calls events ms x).sent ≡ onto ms x.sent
sent_after events [] x = refl
sent_after events (m ∷ ms) x = sent_after events ms (after_call events m x)

taken_after : (events : Bool) (ms : List Sent) (x : End) → (after_calls events ms x).taken ≡ x.taken
taken_after events [] x = refl
taken_after events (m ∷ ms) x = taken_after events ms (after_call events m x)

closed_after : (events : Bool) (ms : List Sent) (x : End) → (after_calls events ms x).backend.closed ≡ x.backend.closed
closed_after events [] x = refl
closed_after events (m ∷ ms) x = closed_after events ms (after_call events m x)

-- ---- what is said is taken

reads_keep : (n : ℕ) (events : Bool) (x y : End) (to_y to_x : Piece) → Joined events x y to_y to_x → Joined events x (after_reads n events y) to_y to_x
reads_keep zero events x y to_y to_x j = j
reads_keep (suc n) events x y to_y to_x j = reads_keep n events x (after_read events y) to_y to_x (read_next events x y to_y to_x j)

whole_piece : (p : Piece) → length p.bytes ≤ 1536 → IsPiece p no_piece p
whole_piece p le = record { bytes = sym (append-nil p.bytes); handles = sym (append-nil p.handles); most = le; enough = inr refl }

-- what an end says in one piece is there
given : (events : Bool) (ms : List Sent) (x y : End) → Joined events x y no_piece no_piece → AreListedCalls events ms x.sent x.taken → y.backend.closed ≡ false → x.backend.unsent ≡ [] → length (spelled ms) ≤ 1536 →
    Joined events (flushed (after_calls events ms x)) (delivered (unsent_of (after_calls events ms x).backend) y) no_piece no_piece
given events ms x y j are opened empty short =
    let wrote = after_calls events ms x in
    let p = unsent_of wrote.backend in
    let bytes : wrote.backend.unsent ≡ spelled ms = unsent_after events ms x ∙ ap (λ l. l ++ spelled ms) empty in
    let called = calls_turn events ms x y no_piece no_piece j (are_calls events ms x y no_piece no_piece j are) in
    let sent : Joined events (flushed wrote) y p no_piece = flush events wrote y no_piece no_piece called in
    deliver events (flushed wrote) y p no_piece p no_piece sent opened (whole_piece p (omega (arith, short, ap length bytes)))

-- what an end says in one piece, and the other takes
record Said (events : Bool) (ms : List Sent) (x y : End) : Type 0 where
  joined : Joined events (flushed (after_calls events ms x)) (after_reads (length ms) events (delivered (unsent_of (after_calls events ms x).backend) y)) no_piece no_piece
  takes : TakesAll events (flushed (after_calls events ms x)) (delivered (unsent_of (after_calls events ms x).backend) y) no_piece x.sent ms

said : (events : Bool) (ms : List Sent) (x y : End) → Joined events x y no_piece no_piece → AreListedCalls events ms x.sent x.taken → y.backend.closed ≡ false → x.backend.unsent ≡ [] → length (spelled ms) ≤ 1536 → length x.sent ≡ length y.taken → NeedNoHandles events y.sent x.sent y.taken ms → Said events ms x y
said events ms x y j are opened empty short all none =
    let there = given events ms x y j are opened empty short in
    let wrote = after_calls events ms x in
    record {
      joined = reads_keep (length ms) events (flushed wrote) (delivered (unsent_of wrote.backend) y) no_piece no_piece there;
      takes = takes_as_listed events (flushed wrote) (delivered (unsent_of wrote.backend) y) no_piece no_piece x.sent ms there (record { opened = opened; none = refl; unsent = refl }) (sent_after events ms x) all none;
    }

-- ---- a talk by its lists

pub record IsTalk (t : Talk) (server_sent : List Sent) (server_taken : List Got) (client_sent : List Sent) (client_taken : List Got) (waits : List ℕ) : Type 0 where
  pub joined : Joined true t.server t.client no_piece no_piece
  pub said_server : t.server.sent ≡ server_sent
  pub took_server : t.server.taken ≡ server_taken
  pub said_client : t.client.sent ≡ client_sent
  pub took_client : t.client.taken ≡ client_taken
  pub open_server : t.server.backend.closed ≡ false
  pub open_client : t.client.backend.closed ≡ false
  pub waits_server : t.server.backend.unsent ≡ []
  pub waits_client : t.client.backend.unsent ≡ waits

pub listed : (events : Bool) (ms own sent : List Sent) (gots taken : List Got) → own ≡ sent → gots ≡ taken → AreListedCalls events ms sent taken → AreListedCalls events ms own gots
listed events ms own sent gots taken e f h = subst (λ (l : List Sent). AreListedCalls events ms l gots) (sym e) (subst (λ (g : List Got). AreListedCalls events ms sent g) (sym f) h)

unheld : (events : Bool) (ms o own p past : List Sent) (g gots : List Got) → o ≡ own → p ≡ past → g ≡ gots → NeedNoHandles events own past gots ms → NeedNoHandles events o p g ms
unheld events ms o own p past g gots e f k h = rw (e, f, k) h

pub server_said : (ms : List Sent) (t : Talk) (a c : List Sent) (b d : List Got) (w : List ℕ) → IsTalk t a b c d w → AreListedCalls true ms a b → length (spelled ms) ≤ 1536 → length a ≡ length d → NeedNoHandles true c a d ms →
    IsTalk (server_says ms t) (onto ms a) b c (all_got true c a d ms) w
unfolding server_says
server_said ms t a c b d w h are short all none =
    let s = said true ms t.server t.client h.joined (listed true ms t.server.sent a t.server.taken b h.said_server h.took_server are) h.open_client h.waits_server short (ap length h.said_server ∙ all ∙ ap length (sym h.took_client)) (unheld true ms t.client.sent c t.server.sent a t.client.taken d h.said_client h.said_server h.took_client none) in
    record {
      joined = s.joined;
      said_server = sent_after true ms t.server ∙ ap (onto ms) h.said_server;
      took_server = taken_after true ms t.server ∙ h.took_server;
      said_client = s.takes.sent ∙ h.said_client;
      took_client = s.takes.taken ∙ rw (h.said_client, h.said_server, h.took_client) refl;
      open_server = closed_after true ms t.server ∙ h.open_server;
      open_client = s.takes.closed;
      waits_server = refl;
      waits_client = s.takes.unsent ∙ h.waits_client;
    }

-- one message that the server says
pub record SaidOne (t : Talk) (m : Sent) (a c : List Sent) (d : List Got) : Type 0 where
  pub joined : Joined true (server_says (m ∷ []) t).server (server_says (m ∷ []) t).client no_piece no_piece
  pub sent : (server_says (m ∷ []) t).server.sent ≡ m ∷ a
  pub got : Got
  pub taken : (server_says (m ∷ []) t).client.taken ≡ got ∷ d
  pub is : IsTaken true c a d m got
  pub after : after_of got ≡ length c

taken_as : (m : Sent) (g : Got) (o own p past : List Sent) (q gots : List Got) → o ≡ own → p ≡ past → q ≡ gots → IsTaken true o p q m g → IsTaken true own past gots m g
taken_as m g o own p past q gots e f k h = rw (sym e, sym f, sym k) h

pub server_said_one : (m : Sent) (t : Talk) (a c : List Sent) (b d : List Got) (w : List ℕ) → IsTalk t a b c d w → AreListedCalls true (m ∷ []) a b → length (spelled (m ∷ [])) ≤ 1536 → length a ≡ length d → SaidOne t m a c d
unfolding server_says
server_said_one m t a c b d w h are short all =
    let there = given true (m ∷ []) t.server t.client h.joined (listed true (m ∷ []) t.server.sent a t.server.taken b h.said_server h.took_server are) h.open_client h.waits_server short in
    let wrote = after_calls true (m ∷ []) t.server in
    let y = delivered (unsent_of wrote.backend) t.client in
    let any = takes_any true (flushed wrote) y no_piece no_piece t.server.sent [] m there (record { opened = h.open_client; none = refl; unsent = refl }) refl (ap length h.said_server ∙ all ∙ ap length (sym h.took_client)) in
    record {
      joined = reads_keep 1 true (flushed wrote) y no_piece no_piece there;
      sent = ap (λ (l : List Sent). m ∷ l) h.said_server;
      got = any.got;
      taken = any.taken ∙ ap (λ (l : List Got). any.got ∷ l) h.took_client;
      is = taken_as m any.got t.client.sent c t.server.sent a t.client.taken d h.said_client h.said_server h.took_client any.is;
      after = any.after ∙ ap length h.said_client;
    }

pub client_said : (ms : List Sent) (t : Talk) (a c : List Sent) (b d : List Got) → IsTalk t a b c d [] → AreListedCalls false ms c d → length (spelled ms) ≤ 1536 → length c ≡ length b → NeedNoHandles false a c b ms →
    IsTalk (client_says ms t) a (all_got false a c b ms) (onto ms c) d []
unfolding client_says
client_said ms t a c b d h are short all none =
    let back = turned true t.server t.client no_piece no_piece h.joined in
    let s = said false ms t.client t.server back (listed false ms t.client.sent c t.client.taken d h.said_client h.took_client are) h.open_server h.waits_client short (ap length h.said_client ∙ all ∙ ap length (sym h.took_server)) (unheld false ms t.server.sent a t.client.sent c t.server.taken b h.said_server h.said_client h.took_server none) in
    record {
      joined = turned false _ _ no_piece no_piece s.joined;
      said_server = s.takes.sent ∙ h.said_server;
      took_server = s.takes.taken ∙ rw (h.said_client, h.said_server, h.took_server) refl;
      said_client = sent_after false ms t.client ∙ ap (onto ms) h.said_client;
      took_client = taken_after false ms t.client ∙ h.took_client;
      open_server = s.takes.closed;
      open_client = closed_after false ms t.client ∙ h.open_client;
      waits_server = s.takes.unsent ∙ h.waits_server;
      waits_client = refl;
    }

pub client_wrote : (ms : List Sent) (t : Talk) (a c : List Sent) (b d : List Got) (w : List ℕ) → IsTalk t a b c d w → AreListedCalls false ms c d → IsTalk (client_writes ms t) a b (onto ms c) d (w ++ spelled ms)
unfolding client_writes
client_wrote ms t a c b d w h are =
    let back = turned true t.server t.client no_piece no_piece h.joined in
    let calls = are_calls false ms t.client t.server no_piece no_piece back (listed false ms t.client.sent c t.client.taken d h.said_client h.took_client are) in
    record {
      joined = turned false _ _ no_piece no_piece (calls_turn false ms t.client t.server no_piece no_piece back calls);
      said_server = h.said_server;
      took_server = h.took_server;
      said_client = sent_after false ms t.client ∙ ap (onto ms) h.said_client;
      took_client = taken_after false ms t.client ∙ h.took_client;
      open_server = h.open_server;
      open_client = closed_after false ms t.client ∙ h.open_client;
      waits_server = h.waits_server;
      waits_client = unsent_after false ms t.client ∙ ap (λ l. l ++ spelled ms) h.waits_client;
    }

-- nothing is said
pub is_silence : IsTalk silence [] [] [] [] []
is_silence = record { joined = begins true; said_server = refl; took_server = refl; said_client = refl; took_client = refl; open_server = refl; open_client = refl; waits_server = refl; waits_client = refl }

-- ---- all words opened

unfoldable pub all_open : Unit {0}
unfolding is_utf8 chars encode bytes_of header le8 le4 bytes_in known_of row_of announced heard destroyed next_own lost
all_open = tt
