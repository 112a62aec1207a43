-- What a message says with more handles there: an event of the handshake bears none.
use Rattle.std.proofs.Common.{◌≡◌, ℕ, ◌+◌, Bool, true, false, cond, eqb, List, [], ◌∷◌, ◌++◌, length, Option, Some, None, Result, Ok, Err, refl, sym, ap, ◌∙◌, subst}
use Rattle.std.specs.Result.{result_ok}
use Rattle.std.proofs.lemmas.List.Elements.{All-weaker}
use Rattle.ei_spec.specs.declared.handle.Handle.{Handle}
use Rattle.ei_spec.specs.declared.interface.KnownInterface.TheVariants as known
use Rattle.ei_spec.specs.Value.{Value}
use Rattle.ei_spec.specs.Interface.{Interface, Known, Other, ObjectView}
use Rattle.ei_spec.specs.Rows.{Row, row_at}
use Rattle.ei_spec.specs.Table.{table}
use Rattle.ei_spec.specs.Message.{Raw, all_bytes}
use Rattle.ei_spec.specs.Piece.{Piece}
use Rattle.ei_spec.specs.Reading.{Fault, Unread, ArgumentStop, all_at}
use Rattle.ei_spec.proofs.Handleless.{AreNoHandles, Got, got_of, all_alike}
use Rattle.ei_backend.specs.Table.{TableView, found}
use Rattle.ei_backend.specs.Message.{announce, row_read, message_read}
use Rattle.ei_backend.specs.Backend.{BackendView, outcome}
use Rattle.ei_backend.specs.Outgoing.{HasBytes, IsLeftOf, sent_front, unsent_after}
use Rattle.ei_backend.specs.Outside.{SinkView, with_more}
use Rattle.ei_greeting.specs.Shaking.{Greeter, Objects, shake, shake_to, shake_of, said_ok, outcome_to, with_version, versions_told, answers, answer_to}
use Rattle.ei_blocking.specs.Sending.{to_send, sent_at, IsLeftOfAnswer, PutsAnswers, SentAll, SentFront, sent_bytes}

-- ---- what is read, by the bytes alone

abbrev said_by : Result TableView Fault → Got (List Value) → Option (List Value)
said_by (Err e) g = None
said_by (Ok u) g = cond (eqb (length g.rest) 0) (Some g.value) None

abbrev said_got : Row → TableView → Option (Got (List Value)) → Option (List Value)
said_got r t None = None
said_got r t (Some g) = said_by (announce r.announces r.kinds g.value t) g

by_length : (len : ℕ) (t u : TableView) (values : List Value) (s : Unread) (b : Bool) → eqb (length s.bytes) 0 ≡ b →
    result_ok (outcome len t (Ok (record { values = values; table = u; unread = s }))).said ≡ cond b (Some values) None
by_length len t u values s true e = rw e refl
by_length len t u values s false e = rw e refl

ok_said : (r : Row) (len : ℕ) (t : TableView) (s : Unread) → result_ok (outcome len t (row_read r s t)).said ≡ said_got r t (got_of (all_at r.kinds s))
ok_said r len t s = by (all_at r.kinds s) refl
  where
    announced : (x : List Value × Unread) (u : Result TableView Fault) → announce r.announces r.kinds x.0 t ≡ u → all_at r.kinds s ≡ Ok x →
        result_ok (outcome len t (row_read r s t)).said ≡ said_by u (record { value = x.0; rest = x.1.bytes })
    announced x (Err f) e a = rw (a, e) refl
    announced x (Ok u) e a = rw (a, e) (by_length len t u x.0 x.1 (eqb (length x.1.bytes) 0) refl)

    by : (a : Result (List Value × Unread) ArgumentStop) → all_at r.kinds s ≡ a → result_ok (outcome len t (row_read r s t)).said ≡ said_got r t (got_of a)
    by (Err f) e = rw e refl
    by (Ok x) e = announced x (announce r.announces r.kinds x.0 t) refl e

-- ---- the rows of the handshake bear none

abbrev AllHandleless : List (ℕ × Row) → Type 0
AllHandleless [] = Unit {0}
AllHandleless (x ∷ xs) = AreNoHandles x.1.kinds × AllHandleless xs

chosen_handleless : (b : Bool) (q r : Row) (rest : Option Row) → AreNoHandles q.kinds → (rest ≡ Some r → AreNoHandles r.kinds) → cond b (Some q) rest ≡ Some r → AreNoHandles r.kinds
chosen_handleless true q r rest h ih e = let same : q ≡ r = cc in subst (λ (x : Row). AreNoHandles x.kinds) same h
chosen_handleless false q r rest h ih e = ih e

found_handleless : (opcode : ℕ) (r : Row) (rows : List (ℕ × Row)) → AllHandleless rows → row_at opcode rows ≡ Some r → AreNoHandles r.kinds
found_handleless opcode r [] h e = absurd cc
found_handleless opcode r (x ∷ xs) h e = chosen_handleless (eqb opcode x.0) x.1 r (row_at opcode xs) h.0 (found_handleless opcode r xs h.1) e

handleless : (opcode : ℕ) (r : Row) → row_at opcode (table true known.Handshake) ≡ Some r → AreNoHandles r.kinds
handleless opcode r e = found_handleless opcode r (table true known.Handshake) ((tt, tt), ((tt, (tt, tt)), ((tt, (tt, (tt, tt))), tt))) e

-- what a body says to an object of the handshake, where it can be read
abbrev said_to : ℕ → List ℕ → List Handle → TableView → Option (List Value)
said_to opcode body handles t = result_ok (outcome (16 + length body) t (message_read true (Known known.Handshake) opcode (record { bytes = body; handles = handles; taken = 0 }) t)).said

said_alike : (opcode : ℕ) (body : List ℕ) (hs gs : List Handle) (t : TableView) → said_to opcode body hs t ≡ said_to opcode body gs t
said_alike opcode body hs gs t = by (row_at opcode (table true known.Handshake)) refl
  where
    by : (o : Option Row) → row_at opcode (table true known.Handshake) ≡ o → said_to opcode body hs t ≡ said_to opcode body gs t
    by None e = rw e refl
    by (Some r) e = rw e (ok_said r (16 + length body) t (record { bytes = body; handles = hs; taken = 0 })
        ∙ ap (said_got r t) (all_alike r.kinds (record { bytes = body; handles = hs; taken = 0 }) (record { bytes = body; handles = gs; taken = 0 }) (handleless opcode r e) refl)
        ∙ sym (ok_said r (16 + length body) t (record { bytes = body; handles = gs; taken = 0 })))

-- ---- what is said

-- what can be read says it
said_as : (target : ObjectView) (opcode : ℕ) (a b : Result (List Value) Fault) → result_ok a ≡ result_ok b → said_ok target opcode a ≡ said_ok target opcode b
said_as target opcode (Ok vs) (Ok ws) e = let same : vs ≡ ws = cc in ap (shake_of target.interface opcode) same
said_as target opcode (Ok vs) (Err f) e = absurd cc
said_as target opcode (Err f) (Ok ws) e = absurd cc
said_as target opcode (Err f) (Err g) e = refl

-- no message to another object says anything
of_other : (target : ObjectView) (opcode : ℕ) (k : Interface) → target.interface ≡ k → ((vs : List Value) → shake_of k opcode vs ≡ None) → (a : Result (List Value) Fault) → said_ok target opcode a ≡ None
of_other target opcode k e n (Err f) = refl
of_other target opcode k e n (Ok vs) = ap (λ (i : Interface). shake_of i opcode vs) e ∙ n vs

-- an endpoint with these objects, and any handles
module _ (b c : BackendView) (same : c.table ≡ b.table) where
  to_target : (m : Raw) (target : ObjectView) (k : Interface) → target.interface ≡ k → shake_to c m (Some target) ≡ shake_to b m (Some target)
  to_target m target (Other name) e = of_other target m.opcode (Other name) e (λ vs. refl) (outcome_to c m target).said ∙ sym (of_other target m.opcode (Other name) e (λ vs. refl) (outcome_to b m target).said)
  to_target m target (Known known.Handshake) e = said_as target m.opcode (outcome_to c m target).said (outcome_to b m target).said (rw (e, same) (said_alike m.opcode m.body c.handles b.handles b.table))
  to_target m target (Known k) e = of_other target m.opcode (Known k) e (λ vs. refl) (outcome_to c m target).said ∙ sym (of_other target m.opcode (Known k) e (λ vs. refl) (outcome_to b m target).said)

  to_object : (m : Raw) (o : Option ObjectView) → shake_to c m o ≡ shake_to b m o
  to_object m None = refl
  to_object m (Some target) = to_target m target target.interface refl

  pub shake_more : (objects : Objects) (m : Raw) → shake objects c m ≡ shake objects b m
  unfolding shake
  shake_more objects m = to_object m (objects m.id)

  pub versions_more : (objects : Objects) (past : List Raw) → versions_told objects c past ≡ versions_told objects b past
  unfolding versions_told
  versions_more objects [] = refl
  versions_more objects (m ∷ past) = λ i. with_version (versions_more objects past i) (shake_more objects m i)

  answers_at : (g : Greeter) (objects : Objects) (past : List Raw) → answers g objects c past ≡ answers g objects b past
  unfolding answers
  answers_at g objects [] = refl
  answers_at g objects (m ∷ past) = λ i. answers_at g objects past i ++ answer_to g (objects m.id) (shake_more objects m i)

  pub answers_more : (g : Greeter) (past : List Raw) → answers g (found c.table) c past ≡ answers g (found b.table) b past
  answers_more g past = ap (λ (t : TableView). answers g (found t) c past) same ∙ answers_at g (found b.table) past

  answer_more : (g : Greeter) (m : Raw) → answer_to g (found c.table m.id) (shake (found c.table) c m) ≡ answer_to g (found b.table m.id) (shake (found b.table) b m)
  answer_more g m = ap (λ (t : TableView). answer_to g (found t m.id) (shake (found t) c m)) same ∙ ap (answer_to g (found b.table m.id)) (shake_more (found b.table) m)

-- ---- what is sent

-- an endpoint with these objects and the same unsent, and any handles
module _ (g : Greeter) (b c : BackendView) (same : c.table ≡ b.table) (unsent : c.unsent ≡ b.unsent) (handles : c.unsent_handles ≡ b.unsent_handles) where
  pub to_send_more : (past : List Raw) → to_send g c past ≡ to_send g b past
  to_send_more past = λ i. record { bytes = unsent i ++ all_bytes (answers_more b c same g past i); handles = handles i }

  at_more : (before : List Raw) (m : Raw) → sent_at g c before m ≡ sent_at g b before m
  at_more [] m = λ i. record { bytes = unsent i ++ all_bytes (answer_more b c same g m i); handles = handles i }
  at_more (x ∷ before) m = λ i. record { bytes = all_bytes (answer_more b c same g m i); handles = [] }

  puts_more : (past : List Raw) (x y : Option (List Piece)) → PutsAnswers g b past x y → PutsAnswers g c past x y
  puts_more past x y were puts told = let h = were puts told in record {
    more = h.more;
    grown = h.grown;
    each = All-weaker (IsLeftOfAnswer g b past) (IsLeftOfAnswer g c past)
        (λ put q. record { before = q.before; m = q.m; more = q.more; is_one = q.is_one; left = subst (λ (p : Piece). IsLeftOf p put) (sym (at_more q.before q.m)) q.left }) h.more h.each;
  }

  pub sends_more : (past : List Raw) (x y : SinkView) (now : BackendView) → SentAll g b past x y now → SentAll g c past x y now
  sends_more [] x y now h = (h.0, h.1 ∙ (λ i. record { bytes = sym unsent i; handles = sym handles i }))
  sends_more (m ∷ past) x y now h = record {
    told = λ held is. h.told held is ∙ ap (λ (p : Piece). Some (with_more p.bytes p.handles held)) (sym (to_send_more (m ∷ past)));
    unsent = h.unsent;
    puts = puts_more (m ∷ past) x.puts y.puts h.puts;
    bytes = subst (λ (p : Piece). HasBytes p.bytes p.handles) (sym (to_send_more (m ∷ past))) h.bytes;
  }

  pub front_more : (past : List Raw) (n : ℕ) (x y : SinkView) (now : BackendView) → SentFront g b past n x y now → SentFront g c past n x y now
  front_more past n x y now h = record {
    told = λ held is. h.told held is ∙ ap (λ (p : Piece). Some (sent_front n p held)) (sym (to_send_more past));
    unsent = h.unsent ∙ ap (unsent_after n) (sym (to_send_more past));
    puts = puts_more past x.puts y.puts h.puts;
  }

  pub bytes_more : (past : List Raw) → sent_bytes g c past ≡ sent_bytes g b past
  bytes_more [] = refl
  bytes_more (m ∷ past) = ap (λ (p : Piece). length p.bytes) (to_send_more (m ∷ past))
