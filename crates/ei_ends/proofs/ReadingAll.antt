-- What is taken once all was delivered, and what an end may send, by the lists alone.
use Rattle.std.proofs.Common.{◌≡◌, ℕ, ◌+◌, ◌≤◌, Bool, true, false, ◌⊎◌, inl, inr, List, [], ◌∷◌, ◌++◌, length, Option, Some, None, refl, sym, ap, subst, ◌∙◌}
use Rattle.std.proofs.Common.{append-nil, length-append, arith}
use Rattle.ei_spec.specs.Interface.{ObjectView, Known}
use Rattle.ei_spec.specs.Rows.{Row}
use Rattle.ei_spec.specs.Message.{Raw, Front, Short, Unlawful, Whole, front, size}
use Rattle.ei_spec.specs.Piece.{Piece}
use Rattle.ei_backend.specs.Table.{TableView, found, own_end, own_limit}
use Rattle.ei_backend.specs.Backend.{BackendView, Waits, Gone, Message, of_target, of_front, next}
use Rattle.ei_ends.specs.Sent.{other, Sent, Got, Took, Missed, New, new_of, raw_of, bytes_in, handles_in, spelled}
use Rattle.ei_ends.specs.Announced.{counts, next_own}
use Rattle.ei_ends.specs.Agree.{Agree, oldest, next_got, all_got, after_of, IsTaken, NeedNoHandles, afters, dropped}
use Rattle.ei_ends.specs.Way.{onto, HasNextId, End, Cut, Tied}
use Rattle.ei_ends.specs.Steps.{HasId, after_call, with_taken, stored, after_read, after_reads}
use Rattle.ei_ends.specs.Joined.{AllDelivered, Joined, IsCallOf, IsListedCall, AreCalls, AreListedCalls}
use Rattle.ei_ends.proofs.Known.{next_more}
use Rattle.ei_ends.proofs.Agreeing.{twice, agree_length}
use Rattle.ei_ends.proofs.InTime.{bytes_length}
use Rattle.ei_ends.proofs.Flowing.{alike_handles}
use Rattle.ei_ends.proofs.ReadsNext.{Misses, Takes}
use Rattle.ei_ends.proofs.Reading.{reads_whole, reads}
use Rattle.ei_ends.proofs.EqualHandles.{nothing, same_message}
use Rattle.ei_ends.proofs.Knowing.{oldest_onto, onto_length}
use Rattle.ei_ends.proofs.JoinedSteps.{call, same_answer, same_read, past_is}

-- ---- what a read leaves of an endpoint

record Kept (b c : BackendView) : Type 0 where
  closed : c.closed ≡ b.closed
  unsent : c.unsent ≡ b.unsent

target_keeps : (events : Bool) (b : BackendView) (target : Option ObjectView) (m : Raw) (rest : List ℕ) → Kept b (of_target events b target m rest).1
target_keeps events b None m rest = record { closed = refl; unsent = refl }
target_keeps events b (Some target) m rest = record { closed = refl; unsent = refl }

front_keeps : (events : Bool) (b : BackendView) (f : Front) → Kept b (of_front events b f).1
front_keeps events b Short = record { closed = refl; unsent = refl }
front_keeps events b (Unlawful n) = record { closed = refl; unsent = refl }
front_keeps events b (Whole m rest) = target_keeps events b (found b.table m.id) m rest

next_keeps : (events : Bool) (b : BackendView) → Kept b (next events b).1
next_keeps events b = front_keeps events b (front b.unread)

-- ---- one message after another

still_there : (events : Bool) (x y : End) (to_y : Piece) (b : BackendView) (g : Got) → b ≡ (next events y.backend).1 → AllDelivered x y to_y → AllDelivered x (with_taken b g y) to_y
still_there events x y to_y b g is h = record { opened = ap (λ (c : BackendView). c.closed) is ∙ (next_keeps events y.backend).closed ∙ h.opened; none = h.none; unsent = h.unsent }

whole_there : (events : Bool) (x y : End) (to_y to_x rest : Piece) (past ms : List Sent) (cy : Cut) (m : Sent) → Tied events x y to_y to_x (record { past = past; flight = m ∷ ms; rest = rest }) cy → AllDelivered x y to_y → size (raw_of m) ≤ length y.backend.unread
whole_there events x y to_y to_x rest past ms cy m h all =
    let flows = h.there.flows in
    let none : rest.bytes ≡ [] = flows.open_bytes all.opened ∙ ap (λ l. l ++ x.backend.unsent) all.none ∙ all.unsent in
    let unread : y.backend.unread ≡ spelled (m ∷ ms) = sym (append-nil y.backend.unread) ∙ ap (λ l. y.backend.unread ++ l) (sym none) ∙ flows.bytes in
    omega (arith, ap length unread, length-append (bytes_in m) (spelled ms), bytes_length m)

-- what one read takes, and what it leaves
record TakesOne (events : Bool) (x y : End) (to_y to_x : Piece) (past ms : List Sent) (rest : Piece) (cy : Cut) (m : Sent) : Type 0 where
  after : BackendView
  is : after_read events y ≡ with_taken after (next_got events y.sent past y.taken m) y
  there : after ≡ (next events y.backend).1
  tied : Tied events x (with_taken after (next_got events y.sent past y.taken m) y) to_y to_x (record { past = m ∷ past; flight = ms; rest = rest }) cy

cut_is : (past ms flight : List Sent) (rest : Piece) (m k : Sent) → ◌≡◌ {A = List Sent} (m ∷ ms) (k ∷ flight) → (k ≡ m) × (flight ≡ ms)
cut_is past ms flight rest m k e = (cc, cc)

one_missed : (events : Bool) (x y : End) (to_y to_x rest : Piece) (past ms : List Sent) (cy : Cut) (m : Sent) (after : BackendView) → next events y.backend ≡ (Gone m.target, after) →
    Tied events x (with_taken after (Missed m.target (length y.sent)) y) to_y to_x (record { past = m ∷ past; flight = ms; rest = rest }) cy → TakesOne events x y to_y to_x past ms rest cy m
unfolding Agree
one_missed events x y to_y to_x rest past ms cy m after e tied =
    let dropped_is = tied.there.agree.0.1 in
    let got : next_got events y.sent past y.taken m ≡ Missed m.target (length y.sent) = rw dropped_is refl in
    record {
      after = after;
      is = same_answer events y (Gone m.target) after e ∙ ap (λ (g : Got). with_taken after g y) (sym got);
      there = sym (ap (λ p. p.1) e);
      tied = subst (λ (g : Got). Tied events x (with_taken after g y) to_y to_x (record { past = m ∷ past; flight = ms; rest = rest }) cy) (sym got) tied;
    }

one_took : (events : Bool) (x y : End) (to_y to_x rest : Piece) (past ms : List Sent) (cy : Cut) (m : Sent) (after : BackendView) (target : ObjectView) → target ≡ record { id = m.target; interface = Known m.interface; version = m.version; client_side = events } →
    next events y.backend ≡ (Message target m.opcode m.values, after) →
    Tied events x (with_taken after (Took m (length y.sent)) y) to_y to_x (record { past = m ∷ past; flight = ms; rest = rest }) cy → TakesOne events x y to_y to_x past ms rest cy m
unfolding Agree
one_took events x y to_y to_x rest past ms cy m after target is e tied =
    let there_is = tied.there.agree.0.1 in
    let got : next_got events y.sent past y.taken m ≡ Took m (length y.sent) = rw there_is refl in
    let known : target.interface ≡ Known m.interface = ap (λ (o : ObjectView). o.interface) is in
    let read : stored target m.interface m.opcode m.values ≡ m = rw is refl in
    record {
      after = after;
      is = same_answer events y (Message target m.opcode m.values) after e ∙ same_read target target.interface m.interface m.opcode m.values after y known
          ∙ ap (λ (s : Sent). with_taken after (Took s (length y.sent)) y) read ∙ ap (λ (g : Got). with_taken after g y) (sym got);
      there = sym (ap (λ p. p.1) e);
      tied = subst (λ (g : Got). Tied events x (with_taken after g y) to_y to_x (record { past = m ∷ past; flight = ms; rest = rest }) cy) (sym got) tied;
    }

took_plain : (events : Bool) (x y : End) (to_y to_x rest : Piece) (past ms : List Sent) (cy : Cut) (m : Sent) → handles_in m ≡ [] → Takes events x y to_y to_x (record { past = past; flight = m ∷ ms; rest = rest }) cy → TakesOne events x y to_y to_x past ms rest cy m
took_plain events x y to_y to_x rest past ms cy m none take =
    let same = cut_is past ms take.flight rest m take.message take.first in
    let no_handle : handles_in take.message ≡ [] = ap (λ (k : Sent). handles_in k) same.0 ∙ none in
    let read_none : handles_in take.read ≡ [] = nothing (handles_in take.read) (alike_handles take.read.values take.message.values take.alike.values ∙ ap length no_handle) in
    let read : take.read ≡ m = same_message take.message take.read take.alike (read_none ∙ sym no_handle) ∙ same.0 in
    one_took events x y to_y to_x rest past ms cy m take.after take.target (take.target_is ∙ ap (λ (k : Sent). let o : ObjectView = record { id = k.target; interface = Known k.interface; version = k.version; client_side = events } in o) read)
    (take.next_is ∙ ap (λ (k : Sent). (Message take.target k.opcode k.values, take.after)) read)
    (subst (λ (fs : List Sent). Tied events x (with_taken take.after (Took m (length y.sent)) y) to_y to_x (record { past = m ∷ past; flight = fs; rest = rest }) cy) same.1
    (subst (λ (k : Sent). Tied events x (with_taken take.after (Took k (length y.sent)) y) to_y to_x (record { past = m ∷ past; flight = take.flight; rest = rest }) cy) read
    (subst (λ (k : Sent). Tied events x (with_taken take.after (Took take.read (length y.sent)) y) to_y to_x (record { past = k ∷ past; flight = take.flight; rest = rest }) cy) same.0 take.tied)))

not_dropped : (events : Bool) (x y : End) (to_y to_x rest : Piece) (past ms : List Sent) (cy : Cut) (m : Sent) → dropped events y.sent past (afters y.taken) (length y.sent) m.target ≡ true → Takes events x y to_y to_x (record { past = past; flight = m ∷ ms; rest = rest }) cy → ⊥
unfolding Agree
not_dropped events x y to_y to_x rest past ms cy m out take =
    let same = cut_is past ms take.flight rest m take.message take.first in
    let there : dropped events y.sent past (afters y.taken) (length y.sent) take.message.target ≡ false = take.tied.there.agree.0.1 in
    let both : true ≡ false = sym out ∙ ap (λ (k : Sent). dropped events y.sent past (afters y.taken) (length y.sent) k.target) (sym same.0) ∙ there in
    cc

takes_one : (events : Bool) (x y : End) (to_y to_x rest : Piece) (past ms : List Sent) (cy : Cut) (m : Sent) → Tied events x y to_y to_x (record { past = past; flight = m ∷ ms; rest = rest }) cy → AllDelivered x y to_y → (handles_in m ≡ []) ⊎ (dropped events y.sent past (afters y.taken) (length y.sent) m.target ≡ true) → TakesOne events x y to_y to_x past ms rest cy m
takes_one events x y to_y to_x rest past ms cy m h all none = elim (reads_whole events x y to_y to_x (record { past = past; flight = m ∷ ms; rest = rest }) cy m ms h refl (whole_there events x y to_y to_x rest past ms cy m h all)) [
  | inl miss ↦
      let same = cut_is past ms miss.flight rest m miss.message miss.first in
      one_missed events x y to_y to_x rest past ms cy m miss.after (miss.next_is ∙ ap (λ (k : Sent). (Gone k.target, miss.after)) same.0)
      (subst (λ (fs : List Sent). Tied events x (with_taken miss.after (Missed m.target (length y.sent)) y) to_y to_x (record { past = m ∷ past; flight = fs; rest = rest }) cy) same.1
      (subst (λ (k : Sent). Tied events x (with_taken miss.after (Missed k.target (length y.sent)) y) to_y to_x (record { past = k ∷ past; flight = miss.flight; rest = rest }) cy) same.0 miss.tied))
  | inr take ↦ elim none [
    | inl plain ↦ took_plain events x y to_y to_x rest past ms cy m plain take
    | inr out ↦ absurd (not_dropped events x y to_y to_x rest past ms cy m out take)
  ]
]

-- the next message is taken in some way
pub record TakesAny (events : Bool) (y : End) (past : List Sent) (m : Sent) : Type 0 where
  pub got : Got
  pub taken : (after_read events y).taken ≡ got ∷ y.taken
  pub is : IsTaken events y.sent past y.taken m got
  pub after : after_of got ≡ length y.sent

any_at : (events : Bool) (x y : End) (to_y to_x : Piece) (past ms : List Sent) (rest : Piece) (cy : Cut) (m : Sent) → Misses events x y to_y to_x (record { past = past; flight = m ∷ ms; rest = rest }) cy ⊎ Takes events x y to_y to_x (record { past = past; flight = m ∷ ms; rest = rest }) cy → TakesAny events y past m
unfolding Agree
any_at events x y to_y to_x past ms rest cy m (inl miss) =
    let same = cut_is past ms miss.flight rest m miss.message miss.first in
    record {
      got = Missed miss.message.target (length y.sent);
      taken = ap (λ (e : End). e.taken) (same_answer events y (Gone miss.message.target) miss.after miss.next_is);
      is = subst (λ (k : Sent). IsTaken events y.sent past y.taken k (Missed miss.message.target (length y.sent))) same.0 miss.tied.there.agree.0;
      after = refl;
    }
any_at events x y to_y to_x past ms rest cy m (inr take) =
    let same = cut_is past ms take.flight rest m take.message take.first in
    let known : take.target.interface ≡ Known take.read.interface = ap (λ (o : ObjectView). o.interface) take.target_is in
    let read : stored take.target take.read.interface take.read.opcode take.read.values ≡ take.read = rw take.target_is refl in
    record {
      got = Took take.read (length y.sent);
      taken = ap (λ (e : End). e.taken) (same_answer events y (Message take.target take.read.opcode take.read.values) take.after take.next_is ∙ same_read take.target take.target.interface take.read.interface take.read.opcode take.read.values take.after y known)
          ∙ ap (λ (k : Sent). Took k (length y.sent) ∷ y.taken) read;
      is = subst (λ (k : Sent). IsTaken events y.sent past y.taken k (Took take.read (length y.sent))) same.0 take.tied.there.agree.0;
      after = refl;
    }

-- what all reads leave
pub record TakesAll (events : Bool) (x y : End) (to_y : Piece) (past ms : List Sent) : Type 0 where
  pub taken : (after_reads (length ms) events y).taken ≡ all_got events y.sent past y.taken ms
  pub sent : (after_reads (length ms) events y).sent ≡ y.sent
  pub closed : (after_reads (length ms) events y).backend.closed ≡ false
  pub unsent : (after_reads (length ms) events y).backend.unsent ≡ y.backend.unsent

takes_all : (events : Bool) (x y : End) (to_y to_x rest : Piece) (past ms : List Sent) (cy : Cut) → Tied events x y to_y to_x (record { past = past; flight = ms; rest = rest }) cy → AllDelivered x y to_y → NeedNoHandles events y.sent past y.taken ms → TakesAll events x y to_y past ms
takes_all events x y to_y to_x rest past [] cy h all none = record { taken = refl; sent = refl; closed = all.opened; unsent = refl }
takes_all events x y to_y to_x rest past (m ∷ ms) cy h all none =
    let one = takes_one events x y to_y to_x rest past ms cy m h all none.0 in
    let g = next_got events y.sent past y.taken m in
    let z : End = with_taken one.after g y in
    let more = takes_all events x z to_y to_x rest (m ∷ past) ms cy one.tied (still_there events x y to_y one.after g one.there all) none.1 in
    let is : after_reads (length ms) events (after_read events y) ≡ after_reads (length ms) events z = ap (after_reads (length ms) events) one.is in
    record {
      taken = ap (λ (e : End). e.taken) is ∙ more.taken;
      sent = ap (λ (e : End). e.sent) is ∙ more.sent;
      closed = ap (λ (e : End). e.backend.closed) is ∙ more.closed;
      unsent = ap (λ (e : End). e.backend.unsent) is ∙ more.unsent ∙ ap (λ (b : BackendView). b.unsent) one.there ∙ (next_keeps events y.backend).unsent;
    }

-- ---- what is on its way is known

onto_same : (ms flight past before : List Sent) → onto ms past ≡ onto flight before → length ms ≡ length flight → (ms ≡ flight) × (past ≡ before)
onto_same [] [] past before e l = (refl, e)
onto_same [] (f ∷ flight) past before e l = absurd (omega (arith, l))
onto_same (m ∷ ms) [] past before e l = absurd (omega (arith, l))
onto_same (m ∷ ms) (f ∷ flight) past before e l =
    let rest = onto_same ms flight (m ∷ past) (f ∷ before) e (omega (arith, l)) in
    (cc, cc)

cut_same : (events : Bool) (x y : End) (to_y to_x : Piece) (past ms : List Sent) (j : Joined events x y to_y to_x) → x.sent ≡ onto ms past → length past ≡ length y.taken → Tied events x y to_y to_x (record { past = past; flight = ms; rest = j.there.rest }) j.back
cut_same events x y to_y to_x past ms j is long =
    let before : oldest (length y.taken) x.sent ≡ past = ap (λ n. oldest n x.sent) (sym long) ∙ ap (oldest (length past)) is ∙ oldest_onto ms past in
    let past_same : j.there.past ≡ past = sym (past_is events x y to_y to_x j) ∙ before in
    let both : onto ms past ≡ onto j.there.flight j.there.past = sym is ∙ j.tied.there.sent_is in
    let lengths : length ms ≡ length j.there.flight = omega (arith, ap length both, onto_length ms past, onto_length j.there.flight j.there.past, ap length past_same) in
    let flight_same = (onto_same ms j.there.flight past j.there.past both lengths).0 in
    let cut : Cut = record { past = past; flight = ms; rest = j.there.rest } in
    let same : j.there ≡ cut = ap (λ (p : List Sent). let c : Cut = record { past = p; flight = j.there.flight; rest = j.there.rest } in c) past_same ∙ ap (λ (f : List Sent). let c : Cut = record { past = past; flight = f; rest = j.there.rest } in c) (sym flight_same) in
    subst (λ (c : Cut). Tied events x y to_y to_x c j.back) same j.tied

-- once all was delivered, the messages on their way are taken as the lists say
pub takes_as_listed : (events : Bool) (x y : End) (to_y to_x : Piece) (past ms : List Sent) → Joined events x y to_y to_x → AllDelivered x y to_y → x.sent ≡ onto ms past → length past ≡ length y.taken → NeedNoHandles events y.sent past y.taken ms → TakesAll events x y to_y past ms
takes_as_listed events x y to_y to_x past ms j all is long no_handles =
    takes_all events x y to_y to_x j.there.rest past ms j.back (cut_same events x y to_y to_x past ms j is long) all no_handles

pub takes_any : (events : Bool) (x y : End) (to_y to_x : Piece) (past ms : List Sent) (m : Sent) → Joined events x y to_y to_x → AllDelivered x y to_y → x.sent ≡ onto (m ∷ ms) past → length past ≡ length y.taken → TakesAny events y past m
takes_any events x y to_y to_x past ms m j all is long =
    let h = cut_same events x y to_y to_x past (m ∷ ms) j is long in
    let there = whole_there events x y to_y to_x j.there.rest past ms j.back m h all in
    any_at events x y to_y to_x past ms j.there.rest j.back m (reads_whole events x y to_y to_x (record { past = past; flight = m ∷ ms; rest = j.there.rest }) j.back m ms h refl there)

-- where all was taken, no message waits
pub waits_for_more : (events : Bool) (x y : End) (to_y to_x : Piece) → Joined events x y to_y to_x → length y.taken ≡ length x.sent → next events y.backend ≡ (Waits, y.backend)
waits_for_more events x y to_y to_x j all =
    let none : length j.there.flight ≡ 0 = omega (arith, all, agree_length events y.sent j.there.past y.taken j.tied.there.agree, ap length j.tied.there.sent_is, onto_length j.there.flight j.there.past) in
    elim (reads events x y to_y to_x j.there j.back j.tied) [
      | inl w ↦ w
      | inr m ↦ elim m [
        | inl miss ↦ absurd (omega (arith, none, ap length miss.first))
        | inr take ↦ absurd (omega (arith, none, ap length take.first))
      ]
    ]

-- ---- what an end may send, by the lists alone

id_is_left : (o : Option New) (t : TableView) (n limit : ℕ) → t.next_own ≡ n → own_end t ≡ limit → n + counts o ≤ limit → HasId o t
unfolding HasId
id_is_left None t n limit next end le = tt
id_is_left (Some k) t n limit next end le = omega (arith, next, end, le)

next_fresh : (o : Option New) (t : TableView) (n : ℕ) → t.next_own ≡ n → HasNextId n o → HasNextId t.next_own o
next_fresh None t n next h = tt
next_fresh (Some k) t n next h = h ∙ sym next

pub is_call : (events : Bool) (m : Sent) (r : Row) (x y : End) (to_y to_x : Piece) → Joined events x y to_y to_x → IsListedCall events x.sent x.taken m r → IsCallOf events x m r
is_call events m r x y to_y to_x j c =
    let o = j.tied.back.objects in
    let next : x.backend.table.next_own ≡ next_own events x.sent = o.next ∙ ap (λ b. next_own b x.sent) (twice events) in
    let end : own_end x.backend.table ≡ own_limit (other events) = ap own_limit o.client_is in
    record {
      call = c.call;
      target = c.target;
      next = next_fresh (new_of events m) x.backend.table (next_own events x.sent) next c.next;
      left = id_is_left (new_of events m) x.backend.table (next_own events x.sent) (own_limit (other events)) next end (omega (arith, c.left, next_more events m x.sent));
    }

pub are_calls : (events : Bool) (ms : List Sent) (x y : End) (to_y to_x : Piece) → Joined events x y to_y to_x → AreListedCalls events ms x.sent x.taken → AreCalls events ms x
are_calls events [] x y to_y to_x j h = tt
are_calls events (m ∷ ms) x y to_y to_x j h =
    let c = is_call events m h.0 x y to_y to_x j h.1 in
    (h.0, c, are_calls events ms (after_call events m x) y to_y to_x (call events m h.0 x y to_y to_x j c) h.2)
