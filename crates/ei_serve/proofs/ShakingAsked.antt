-- What asking for the request at the front answers during the handshake, by cases on the front.
use Rattle.std.proofs.Common.{◌≡◌, ℕ, Bool, true, false, List, Option, Some, None, refl, sym, ap, ◌∙◌, subst, inl, inr}
use Rattle.std.specs.Prelude.{IfSome, IsSome}
use Rattle.ei_spec.specs.declared.interface.KnownInterface.{KnownInterface}
use Rattle.ei_spec.specs.declared.interface.KnownInterface.TheVariants as interfaces
use Rattle.ei_spec.specs.Value.{Value}
use Rattle.ei_spec.specs.Interface.{Known, ObjectView}
use Rattle.ei_spec.specs.Reading.{Fault, HeaderLength}
use Rattle.ei_spec.specs.Message.{Raw, Front, Short, Unlawful, Whole, front}
use Rattle.ei_spec.proofs.Faults.{IsNoHeader}
use Rattle.ei_backend.specs.Table.{found}
use Rattle.ei_backend.specs.Backend.{BackendView, FrontAnswer, Waits, Refused, Gone, Message, next}
use Rattle.ei_session.specs.Arguments.{request_args}
use Rattle.ei_backend.specs.Backend.{Answers}
use Rattle.ei_backend.specs.declared.message.PendingRequestResult.{PendingRequestResult}
use Rattle.ei_backend.specs.declared.message.PendingRequestResult.TheVariants as pending
use Rattle.ei_wire.specs.Gives.{fault_of}
use Rattle.ei_server.specs.declared.request.Request.{Request}
use Rattle.ei_server.specs.Request.{target_of, opcode_of, values_of}
use Rattle.ei_session.specs.Refusals.{Parse}
use Rattle.ei_serve.specs.AtFront.{AllKnown, is_sync, TakesOut, IsGone, bytes_refused, Unreadable, SaysWhy, SaysOfFront}
use Rattle.ei_serve.proofs.Taking.{AnswersSync, next_short, next_unlawful, next_gone, next_taken, next_refused, next_sync}

abbrev answer_of : FrontAnswer × BackendView → FrontAnswer
answer_of p = p.0

abbrev backend_of : FrontAnswer × BackendView → BackendView
backend_of p = p.1

-- what stands at the front, and the answer that it gives
pub data Cases (b : BackendView) : Type 0 where
  IsShort : front b.unread ≡ Short → answer_of (next false b) ≡ Waits → backend_of (next false b) ≡ b → Cases b
  IsUnlawful : (n : ℕ) → front b.unread ≡ Unlawful n → answer_of (next false b) ≡ Refused (HeaderLength n) → Cases b
  IsGoneThere : (m : Raw) → (rest : List ℕ) → front b.unread ≡ Whole m rest → found b.table m.id ≡ None → answer_of (next false b) ≡ Gone m.id → backend_of (next false b) ≡ record b { unread = rest } → Cases b
  IsTaken : (m : Raw) → (rest : List ℕ) → (target : ObjectView) → (interface : KnownInterface) → (vs : List Value) → front b.unread ≡ Whole m rest → found b.table m.id ≡ Some target → target.interface ≡ Known interface → is_sync interface m.opcode ≡ false → request_args interface m ≡ Some vs →
      answer_of (next false b) ≡ Message target m.opcode vs → backend_of (next false b) ≡ record b { unread = rest } → Cases b
  IsRefused : (m : Raw) → (rest : List ℕ) → (target : ObjectView) → (interface : KnownInterface) → front b.unread ≡ Whole m rest → found b.table m.id ≡ Some target → target.interface ≡ Known interface → is_sync interface m.opcode ≡ false → request_args interface m ≡ None →
      (f : Fault) → answer_of (next false b) ≡ Refused f → IsNoHeader f → bytes_refused interface m ≡ Some (Parse f) → Cases b
  IsSync : (m : Raw) → (rest : List ℕ) → (target : ObjectView) → front b.unread ≡ Whole m rest → found b.table m.id ≡ Some target → target.interface ≡ Known interfaces.Connection → is_sync interfaces.Connection m.opcode ≡ true →
      AnswersSync target m.opcode (answer_of (next false b)) → Cases b

with_args : (b : BackendView) (m : Raw) (rest : List ℕ) (target : ObjectView) (interface : KnownInterface) (a : Option (List Value)) → front b.unread ≡ Whole m rest → found b.table m.id ≡ Some target → target.interface ≡ Known interface → is_sync interface m.opcode ≡ false → request_args interface m ≡ a → Cases b
with_args b m rest target interface (Some vs) e f k plain a = let h = next_taken b m rest target interface vs e f k plain a in IsTaken m rest target interface vs e f k plain a h.0 h.1
with_args b m rest target interface None e f k plain a = let h = next_refused b m rest target interface e f k plain a in IsRefused m rest target interface e f k plain a h.0 h.1 h.2 h.3

no_sync : (b : BackendView) (m : Raw) (rest : List ℕ) (target : ObjectView) (interface : KnownInterface) → front b.unread ≡ Whole m rest → found b.table m.id ≡ Some target → target.interface ≡ Known interface → is_sync interface m.opcode ≡ false → Cases b
no_sync b m rest target interface e f k plain = with_args b m rest target interface (request_args interface m) e f k plain refl

to_connection : (b : BackendView) (m : Raw) (rest : List ℕ) (target : ObjectView) (sync : Bool) → front b.unread ≡ Whole m rest → found b.table m.id ≡ Some target → target.interface ≡ Known interfaces.Connection → is_sync interfaces.Connection m.opcode ≡ sync → Cases b
to_connection b m rest target true e f k h = IsSync m rest target e f k h (next_sync b m rest target e f k h)
to_connection b m rest target false e f k h = no_sync b m rest target interfaces.Connection e f k h

to_interface : (b : BackendView) (m : Raw) (rest : List ℕ) (target : ObjectView) (interface : KnownInterface) → front b.unread ≡ Whole m rest → found b.table m.id ≡ Some target → target.interface ≡ Known interface → Cases b
to_interface b m rest target interfaces.Connection e f k = to_connection b m rest target (is_sync interfaces.Connection m.opcode) e f k refl
to_interface b m rest target interface e f k = no_sync b m rest target interface e f k refl

with_target : (b : BackendView) → AllKnown b.table → (m : Raw) (rest : List ℕ) (o : Option ObjectView) → front b.unread ≡ Whole m rest → found b.table m.id ≡ o → Cases b
with_target b known m rest None e f = IsGoneThere m rest e f (ap answer_of (next_gone b m rest e f)) (ap backend_of (next_gone b m rest e f))
with_target b known m rest (Some target) e f = let k = known m.id target f in to_interface b m rest target k.0 e f k.1

with_front : (b : BackendView) → AllKnown b.table → (f : Front) → front b.unread ≡ f → Cases b
with_front b known Short e = IsShort e (ap answer_of (next_short b e)) (ap backend_of (next_short b e))
with_front b known (Unlawful n) e = IsUnlawful n e (ap answer_of (next_unlawful b n e))
with_front b known (Whole m rest) e = with_target b known m rest (found b.table m.id) e refl

pub cases : (b : BackendView) → AllKnown b.table → Cases b
cases b known = with_front b known (front b.unread) refl

-- ---- what each answer says of the front

abbrev pair : FrontAnswer → BackendView → FrontAnswer × BackendView
pair a b = (a, b)

waits_by : (b new : BackendView) → Cases b → next false b ≡ pair Waits new → (front b.unread ≡ Short) × (new ≡ b)
waits_by b new (IsShort e a c) h = (e, sym (ap backend_of h) ∙ c)
waits_by b new (IsUnlawful n e a) h = let g : Waits ≡ Refused (HeaderLength n) = sym (ap answer_of h) ∙ a in absurd cc
waits_by b new (IsGoneThere m rest e f a c) h = let g : Waits ≡ Gone m.id = sym (ap answer_of h) ∙ a in absurd cc
waits_by b new (IsTaken m rest target interface vs e f k plain args a c) h = let g : Waits ≡ Message target m.opcode vs = sym (ap answer_of h) ∙ a in absurd cc
waits_by b new (IsRefused m rest target interface e f k plain args fault a nh why) h = let g : Waits ≡ Refused fault = sym (ap answer_of h) ∙ a in absurd cc
waits_by b new (IsSync m rest target e f k sync a) h = absurd (subst (AnswersSync target m.opcode) (ap answer_of h) a)

pub asks_waits : (b new : BackendView) → AllKnown b.table → next false b ≡ pair Waits new → (front b.unread ≡ Short) × (new ≡ b)
asks_waits b new known h = waits_by b new (cases b known) h

takes_by : (b new : BackendView) (t : ObjectView) (op : ℕ) (vs : List Value) → Cases b → next false b ≡ pair (Message t op vs) new → TakesOut b t op vs new
takes_by b new t op vs (IsShort e a c) h = let g : Message t op vs ≡ Waits = sym (ap answer_of h) ∙ a in absurd cc
takes_by b new t op vs (IsUnlawful n e a) h = let g : Message t op vs ≡ Refused (HeaderLength n) = sym (ap answer_of h) ∙ a in absurd cc
takes_by b new t op vs (IsGoneThere m rest e f a c) h = let g : Message t op vs ≡ Gone m.id = sym (ap answer_of h) ∙ a in absurd cc
takes_by b new t op vs (IsTaken m rest target interface ws e f k plain args a c) h =
    let g : Message t op vs ≡ Message target m.opcode ws = sym (ap answer_of h) ∙ a in
    let same : target ≡ t = cc in
    let same_opcode : op ≡ m.opcode = cc in
    let same_values : ws ≡ vs = cc in
    record {
      m = m;
      rest = rest;
      interface = interface;
      front_is = e;
      target_is = f ∙ ap (λ (o : ObjectView). Some o) same;
      interface_is = sym (ap (λ (o : ObjectView). o.interface) same) ∙ k;
      opcode_is = same_opcode;
      args = λ _. args ∙ ap (λ (v : List Value). Some v) same_values;
      after = λ _. sym (ap backend_of h) ∙ c;
    }
takes_by b new t op vs (IsRefused m rest target interface e f k plain args fault a nh why) h = let g : Message t op vs ≡ Refused fault = sym (ap answer_of h) ∙ a in absurd cc
takes_by b new t op vs (IsSync m rest target e f k sync a) h =
    let is : AnswersSync target m.opcode (Message t op vs) = subst (AnswersSync target m.opcode) (ap answer_of h) a in
    record {
      m = m;
      rest = rest;
      interface = interfaces.Connection;
      front_is = e;
      target_is = f ∙ ap (λ (o : ObjectView). Some o) (sym is.0);
      interface_is = ap (λ (o : ObjectView). o.interface) is.0 ∙ k;
      opcode_is = is.1;
      args = λ plain. let g : true ≡ false = sym sync ∙ plain in absurd cc;
      after = λ plain. let g : true ≡ false = sym sync ∙ plain in absurd cc;
    }

pub asks_takes : (b new : BackendView) (t : ObjectView) (op : ℕ) (vs : List Value) → AllKnown b.table → next false b ≡ pair (Message t op vs) new → TakesOut b t op vs new
asks_takes b new t op vs known h = takes_by b new t op vs (cases b known) h

-- no object has the id
gone_by : (b new : BackendView) (id : ℕ) → Cases b → next false b ≡ pair (Gone id) new → IsGone b id new
gone_by b new id (IsShort e a c) h = let g : Gone id ≡ Waits = sym (ap answer_of h) ∙ a in absurd cc
gone_by b new id (IsUnlawful n e a) h = let g : Gone id ≡ Refused (HeaderLength n) = sym (ap answer_of h) ∙ a in absurd cc
gone_by b new id (IsGoneThere m rest e f a c) h =
    let g : Gone id ≡ Gone m.id = sym (ap answer_of h) ∙ a in
    let same : id ≡ m.id = cc in
    record { m = m; rest = rest; front_is = e; none = f; id_is = same; after = sym (ap backend_of h) ∙ c }
gone_by b new id (IsTaken m rest target interface ws e f k plain args a c) h = let g : Gone id ≡ Message target m.opcode ws = sym (ap answer_of h) ∙ a in absurd cc
gone_by b new id (IsRefused m rest target interface e f k plain args fault a nh why) h = let g : Gone id ≡ Refused fault = sym (ap answer_of h) ∙ a in absurd cc
gone_by b new id (IsSync m rest target e f k sync a) h = absurd (subst (AnswersSync target m.opcode) (ap answer_of h) a)

pub asks_gone : (b new : BackendView) (id : ℕ) → AllKnown b.table → next false b ≡ pair (Gone id) new → IsGone b id new
asks_gone b new id known h = gone_by b new id (cases b known) h

-- ---- a fault

no_header : (b : BackendView) (fault : Fault) → IsNoHeader fault → Unreadable b fault → SaysWhy b (Some fault)
no_header b (HeaderLength n) nh u = absurd nh
no_header b other nh u = u

refused_by : (b new : BackendView) (fault : Fault) → Cases b → next false b ≡ pair (Refused fault) new → SaysWhy b (Some fault)
refused_by b new fault (IsShort e a c) h = let g : Refused fault ≡ Waits = sym (ap answer_of h) ∙ a in absurd cc
refused_by b new fault (IsUnlawful n e a) h =
    let g : Refused fault ≡ Refused (HeaderLength n) = sym (ap answer_of h) ∙ a in
    let same : HeaderLength n ≡ fault = cc in
    rw (← same) e
refused_by b new fault (IsGoneThere m rest e f a c) h = let g : Refused fault ≡ Gone m.id = sym (ap answer_of h) ∙ a in absurd cc
refused_by b new fault (IsTaken m rest target interface ws e f k plain args a c) h = let g : Refused fault ≡ Message target m.opcode ws = sym (ap answer_of h) ∙ a in absurd cc
refused_by b new fault (IsRefused m rest target interface e f k plain args other a nh why) h =
    let g : Refused fault ≡ Refused other = sym (ap answer_of h) ∙ a in
    let same : other ≡ fault = cc in
    no_header b fault (subst IsNoHeader same nh) (record {
      m = m;
      rest = rest;
      target = target;
      interface = interface;
      front_is = e;
      target_is = f;
      interface_is = k;
      unread = inl args;
      why = λ _. why ∙ ap (λ (x : Fault). Some (Parse x)) same;
    })
refused_by b new fault (IsSync m rest target e f k sync a) h =
    let is : AnswersSync target m.opcode (Refused fault) = subst (AnswersSync target m.opcode) (ap answer_of h) a in
    no_header b fault is (record {
      m = m;
      rest = rest;
      target = target;
      interface = interfaces.Connection;
      front_is = e;
      target_is = f;
      interface_is = k;
      unread = inr sync;
      why = λ plain. let g : true ≡ false = sym sync ∙ plain in absurd cc;
    })

pub asks_refused : (b new : BackendView) (fault : Fault) → AllKnown b.table → next false b ≡ pair (Refused fault) new → SaysWhy b (Some fault)
asks_refused b new fault known h = refused_by b new fault (cases b known) h

-- ---- what the endpoint answered

says_why : (b new : BackendView) (o : Option Fault) → AllKnown b.table → IfSome o (λ f. next false b ≡ pair (Refused f) new) × IsSome o → SaysWhy b o
says_why b new None known h = let g : false ≡ true = h.1 in absurd cc
says_why b new (Some fault) known h = asks_refused b new fault known h.0

-- it says that of the front
pub says_of_front : (b new : BackendView) (answer : Option (PendingRequestResult Request)) → AllKnown b.table → Answers target_of opcode_of values_of answer new (next false b) → SaysOfFront b answer new
says_of_front b new None known h = asks_waits b new known h
says_of_front b new (Some (pending.Request r)) known h = asks_takes b new (target_of r) (opcode_of r) (values_of r) known h
says_of_front b new (Some (pending.ParseError e)) known h = says_why b new (fault_of e) known h
says_of_front b new (Some (pending.InvalidObject id)) known h = asks_gone b new id known h
