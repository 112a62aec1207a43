-- What is accepted is accepted with more handles too: an event of the handshake bears none.
use Rattle.std.proofs.Common.{◌≡◌, ◌+◌, ℕ, Bool, true, false, cond, eqb, List, [], ◌∷◌, ◌++◌, length, Option, Some, None, Result, Ok, Err, refl, sym, ap, ◌∙◌, subst}
use Rattle.std.specs.Result.{result_ok}
use Rattle.ei_spec.specs.declared.handle.Handle.{Handle}
use Rattle.ei_spec.specs.declared.interface.KnownInterface.{KnownInterface}
use Rattle.ei_spec.specs.declared.interface.KnownInterface.TheVariants as known
use Rattle.ei_spec.specs.Value.{Kind, U32, U64, New, Text, Value}
use Rattle.ei_spec.specs.Interface.{Interface, Known, Other, ObjectView}
use Rattle.ei_spec.specs.Rows.{Row, row_at}
use Rattle.ei_spec.specs.Table.{table}
use Rattle.ei_spec.specs.Message.{Raw}
use Rattle.ei_spec.specs.Piece.{Piece}
use Rattle.ei_spec.specs.Reading.{Fault, Unread, ArgumentStop, all_at}
use Rattle.ei_spec.specs.Stream.{Verdict, Accepted, Final, Refused}
use Rattle.ei_spec.proofs.Handleless.{AreNoHandles, Got, got_of, all_alike}
use Rattle.ei_backend.specs.Table.{TableView}
use Rattle.ei_backend.specs.Message.{Parsed, announce, row_read, message_read}
use Rattle.ei_backend.specs.Backend.{BackendView, outcome, body_read}
use Rattle.ei_greeting.specs.Shaking.{Greeter, Trouble, Objects, judge, judge_to, judge_said, judged, is_long, shake_of, outcome_to}

-- ---- what is read, by the bytes alone

abbrev said_by : Result TableView Fault → Got (List Value) → Option (List Value)
said_by (Err e) g = None
said_by (Ok u) g = cond (eqb (length g.rest) 0) (Some g.value) None

abbrev said_got : Row → TableView → Option (Got (List Value)) → Option (List Value)
said_got r t None = None
said_got r t (Some g) = said_by (announce r.announces r.kinds g.value t) g

by_length : (len : ℕ) (t u : TableView) (values : List Value) (s : Unread) (b : Bool) → eqb (length s.bytes) 0 ≡ b →
    result_ok (outcome len t (Ok (record { values = values; table = u; unread = s }))).said ≡ cond b (Some values) None
by_length len t u values s true e = rw e refl
by_length len t u values s false e = rw e refl

ok_said : (r : Row) (len : ℕ) (t : TableView) (s : Unread) → result_ok (outcome len t (row_read r s t)).said ≡ said_got r t (got_of (all_at r.kinds s))
ok_said r len t s = by (all_at r.kinds s) refl
  where
    announced : (x : List Value × Unread) (u : Result TableView Fault) → announce r.announces r.kinds x.0 t ≡ u → all_at r.kinds s ≡ Ok x →
        result_ok (outcome len t (row_read r s t)).said ≡ said_by u (record { value = x.0; rest = x.1.bytes })
    announced x (Err f) e a = rw (a, e) refl
    announced x (Ok u) e a = rw (a, e) (by_length len t u x.0 x.1 (eqb (length x.1.bytes) 0) refl)

    by : (a : Result (List Value × Unread) ArgumentStop) → all_at r.kinds s ≡ a → result_ok (outcome len t (row_read r s t)).said ≡ said_got r t (got_of a)
    by (Err f) e = rw e refl
    by (Ok x) e = announced x (announce r.announces r.kinds x.0 t) refl e

-- ---- the rows of the handshake bear none

abbrev AllHandleless : List (ℕ × Row) → Type 0
AllHandleless [] = Unit {0}
AllHandleless (x ∷ xs) = AreNoHandles x.1.kinds × AllHandleless xs

chosen_handleless : (b : Bool) (q r : Row) (rest : Option Row) → AreNoHandles q.kinds → (rest ≡ Some r → AreNoHandles r.kinds) → cond b (Some q) rest ≡ Some r → AreNoHandles r.kinds
chosen_handleless true q r rest h ih e = let same : q ≡ r = cc in subst (λ (x : Row). AreNoHandles x.kinds) same h
chosen_handleless false q r rest h ih e = ih e

found_handleless : (opcode : ℕ) (r : Row) (rows : List (ℕ × Row)) → AllHandleless rows → row_at opcode rows ≡ Some r → AreNoHandles r.kinds
found_handleless opcode r [] h e = absurd cc
found_handleless opcode r (x ∷ xs) h e = chosen_handleless (eqb opcode x.0) x.1 r (row_at opcode xs) h.0 (found_handleless opcode r xs h.1) e

handleless : (opcode : ℕ) (r : Row) → row_at opcode (table true known.Handshake) ≡ Some r → AreNoHandles r.kinds
handleless opcode r e = found_handleless opcode r (table true known.Handshake) ((tt, tt), ((tt, (tt, tt)), ((tt, (tt, (tt, tt))), tt))) e

-- what a body says to an object of the handshake, where it can be read
abbrev said_to : ℕ → List ℕ → List Handle → TableView → Option (List Value)
said_to opcode body handles t = result_ok (outcome (16 + length body) t (message_read true (Known known.Handshake) opcode (record { bytes = body; handles = handles; taken = 0 }) t)).said

said_alike : (opcode : ℕ) (body : List ℕ) (hs gs : List Handle) (t : TableView) → said_to opcode body hs t ≡ said_to opcode body gs t
said_alike opcode body hs gs t = by (row_at opcode (table true known.Handshake)) refl
  where
    by : (o : Option Row) → row_at opcode (table true known.Handshake) ≡ o → said_to opcode body hs t ≡ said_to opcode body gs t
    by None e = rw e refl
    by (Some r) e = rw e (ok_said r (16 + length body) t (record { bytes = body; handles = hs; taken = 0 })
        ∙ ap (said_got r t) (all_alike r.kinds (record { bytes = body; handles = hs; taken = 0 }) (record { bytes = body; handles = gs; taken = 0 }) (handleless opcode r e) refl)
        ∙ sym (ok_said r (16 + length body) t (record { bytes = body; handles = gs; taken = 0 })))

-- ---- the verdict

-- an event that is accepted was read, and the verdict is that of what it says
accepted_by : (g : Greeter) (target : ObjectView) (opcode : ℕ) (a b : Result (List Value) Fault) → result_ok a ≡ result_ok b → judge_said g target opcode a ≡ Accepted → judge_said g target opcode b ≡ Accepted
accepted_by g target opcode (Err f) b e h = absurd cc
accepted_by g target opcode (Ok vs) (Err f) e h = absurd cc
accepted_by g target opcode (Ok vs) (Ok ws) e h = let same : vs ≡ ws = cc in subst (λ (xs : List Value). judge_said g target opcode (Ok xs) ≡ Accepted) same h

not_other : (g : Greeter) (target : ObjectView) (opcode : ℕ) (a : Result (List Value) Fault) (k : Interface) → target.interface ≡ k → ((vs : List Value) → shake_of k opcode vs ≡ None) → judge_said g target opcode a ≡ Accepted → ⊥
not_other g target opcode (Err f) k e n h = absurd cc
not_other g target opcode (Ok vs) k e n h = let none : shake_of target.interface opcode vs ≡ None = ap (λ (i : Interface). shake_of i opcode vs) e ∙ n vs in
    let refused : judge_said g target opcode (Ok vs) ≡ judged (is_long g target.id) None = ap (judged (is_long g target.id)) none in
    let clash : judged (is_long g target.id) None ≡ Accepted = sym refused ∙ h in absurd cc

to_target : (g : Greeter) (b c : BackendView) (m : Raw) (target : ObjectView) (k : Interface) → target.interface ≡ k → c.table ≡ b.table → judge_to g b m (Some target) ≡ Accepted → judge_to g c m (Some target) ≡ Accepted
to_target g b c m target (Other name) e t h = absurd (not_other g target m.opcode (outcome_to b m target).said (Other name) e (λ vs. refl) h)
to_target g b c m target (Known known.Handshake) e t h = accepted_by g target m.opcode (outcome_to b m target).said (outcome_to c m target).said
    (rw (e, t) (said_alike m.opcode m.body b.handles c.handles b.table)) h
to_target g b c m target (Known k) e t h = absurd (not_other g target m.opcode (outcome_to b m target).said (Known k) e (λ vs. refl) h)

pub accepted_more : (g : Greeter) (objects : Objects) (b c : BackendView) (before : List Raw) (m : Raw) → c.table ≡ b.table → judge g objects b before m ≡ Accepted → judge g objects c before m ≡ Accepted
unfolding judge
accepted_more g objects b c before m t h = by (objects m.id) h
  where
    by : (o : Option ObjectView) → judge_to g b m o ≡ Accepted → judge_to g c m o ≡ Accepted
    by None h = absurd cc
    by (Some target) h = to_target g b c m target target.interface refl t h
