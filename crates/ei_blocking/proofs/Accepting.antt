-- An event of the handshake that is accepted: the reading goes on behind it, and of the endpoint nothing else changes.
use Rattle.std.proofs.Common.{◌≡◌, ℕ, ◌+◌, Bool, true, false, cond, eqb, List, [], ◌∷◌, length, drop, Option, Some, None, Result, Ok, Err, refl, sym, ap, subst, ◌∙◌}
use Rattle.ei_spec.specs.declared.interface.KnownInterface.TheVariants as known
use Rattle.ei_spec.specs.Interface.{Interface, Known, Other, ObjectView}
use Rattle.ei_spec.specs.Rows.{Row, row_at}
use Rattle.ei_spec.specs.Table.{table}
use Rattle.ei_spec.specs.Value.{Value}
use Rattle.ei_spec.specs.Message.{Raw, Front, Short, Unlawful, Whole, front}
use Rattle.ei_spec.specs.Reading.{Fault, HeaderLength as LengthFault}
use Rattle.ei_spec.specs.Stream.{Accepted, read}
use Rattle.ei_spec.proofs.GoesOn.{read_accepted}
use Rattle.ei_backend.specs.Table.{TableView, found}
use Rattle.ei_backend.specs.Endpoint.{Endpoint}
use Rattle.ei_backend.specs.Backend.{BackendView, BodyOutcome, FrontAnswer, Waits, Gone, Refused, Message, said_of, next}
use Rattle.ei_greeting.specs.Shaking.{Greeter, Shake, shake, shake_of, judge, judged, is_long, outcome_to}
use Rattle.ei_greeting.specs.Opening.{reading_of, stopped_at}
use Rattle.ei_blocking.specs.Still.{still}
use Rattle.ei_blocking.proofs.AnyMemory.{next_same}
use Rattle.ei_blocking.proofs.Kept.{ArePlain, TakesNone, row_takes}

-- ---- it takes no handle

chosen_plain : (b : Bool) (q r : Row) (rest : Option Row) → ArePlain q.kinds → (rest ≡ Some r → ArePlain r.kinds) → cond b (Some q) rest ≡ Some r → ArePlain r.kinds
chosen_plain true q r rest h ih e = let same : q ≡ r = cc in subst (λ (x : Row). ArePlain x.kinds) same h
chosen_plain false q r rest h ih e = ih e

abbrev AllPlain : List (ℕ × Row) → Type 0
AllPlain [] = Unit {0}
AllPlain (x ∷ xs) = ArePlain x.1.kinds × AllPlain xs

found_plain : (opcode : ℕ) (r : Row) (rows : List (ℕ × Row)) → AllPlain rows → row_at opcode rows ≡ Some r → ArePlain r.kinds
found_plain opcode r [] h e = absurd cc
found_plain opcode r (x ∷ xs) h e = chosen_plain (eqb opcode x.0) x.1 r (row_at opcode xs) h.0 (found_plain opcode r xs h.1) e

plain : (opcode : ℕ) (r : Row) → row_at opcode (table true known.Handshake) ≡ Some r → ArePlain r.kinds
plain opcode r e = found_plain opcode r (table true known.Handshake) ((tt, tt), ((tt, (tt, tt)), ((tt, (tt, (tt, tt))), tt))) e

taken_by : (o : BodyOutcome) (values : List Value) → o.said ≡ Ok values → TakesNone o o.said → o.taken ≡ 0
taken_by o values e h = subst (λ (s : Result (List Value) Fault). TakesNone o s) e h

-- an event of the handshake that was read
pub takes_none : (b : BackendView) (m : Raw) (target : ObjectView) (values : List Value) → target.interface ≡ Known known.Handshake → (outcome_to b m target).said ≡ Ok values → (outcome_to b m target).taken ≡ 0
takes_none b m target values i e = by (row_at m.opcode (table true known.Handshake)) refl
  where
    by : (o : Option Row) → row_at m.opcode (table true known.Handshake) ≡ o → (outcome_to b m target).taken ≡ 0
    by None f = rw (i, f) refl
    by (Some r) f =
        let whole : TakesNone (outcome_to b m target) (outcome_to b m target).said = rw (i, f) (row_takes (16 + length m.body) b.table r (record { bytes = m.body; handles = b.handles; taken = 0 }) (plain m.opcode r f) refl) in
        taken_by (outcome_to b m target) values e whole

-- what says anything in the handshake is to its object
pub to_handshake : (i : Interface) (opcode : ℕ) (values : List Value) (said : Shake) → shake_of i opcode values ≡ Some said → i ≡ Known known.Handshake
to_handshake (Known known.Handshake) opcode values said e = refl
to_handshake (Other name) opcode values said e = absurd cc
to_handshake (Known k) opcode values said e = absurd cc

-- ---- the front, once more

-- the message at the front, its target, and what is behind
pub record IsEvent (b : BackendView) (rest : List ℕ) (target : ObjectView) (opcode : ℕ) (values : List Value) : Type 0 where
  pub message : Raw
  pub behind : List ℕ
  pub whole : front rest ≡ Whole message behind
  pub object : found b.table message.id ≡ Some target
  pub code : message.opcode ≡ opcode
  pub said : (outcome_to b message target).said ≡ Ok values
  pub left : (next true (stopped_at b rest)).1 ≡ record b { table = (outcome_to b message target).table; unread = behind; handles = drop (outcome_to b message target).taken b.handles }

-- what is left behind it
abbrev pub behind_event : BackendView → Raw → List ℕ → ObjectView → BackendView
behind_event b m after target = record b { table = (outcome_to b m target).table; unread = after; handles = drop (outcome_to b m target).taken b.handles }

module _ (b : BackendView) (rest : List ℕ) (target : ObjectView) (opcode : ℕ) (values : List Value) where
  read_as : (m : Raw) (after : List ℕ) (t : ObjectView) → front rest ≡ Whole m after → found b.table m.id ≡ Some t → (said : Result (List Value) Fault) → (outcome_to b m t).said ≡ said →
      (next true (stopped_at b rest)).1 ≡ behind_event b m after t → said_of t m.opcode said ≡ Message target opcode values → IsEvent b rest target opcode values
  read_as m after t w f (Err fault) s l e = absurd cc
  read_as m after t w f (Ok vs) s l e =
      let object : t ≡ target = cc in
      let code : m.opcode ≡ opcode = cc in
      let same : vs ≡ values = cc in
      record {
        message = m;
        behind = after;
        whole = w;
        object = f ∙ ap (λ (x : ObjectView). Some x) object;
        code = code;
        said = ap (λ (x : ObjectView). (outcome_to b m x).said) (sym object) ∙ s ∙ ap (λ (x : List Value). Ok x) same;
        left = l ∙ ap (behind_event b m after) object;
      }

  short : front rest ≡ Short → (next true (stopped_at b rest)).0 ≡ Waits
  short w = rw w refl

  unlawful : (n : ℕ) → front rest ≡ Unlawful n → (next true (stopped_at b rest)).0 ≡ Refused (LengthFault n)
  unlawful n w = rw w refl

  gone : (m : Raw) (after : List ℕ) → front rest ≡ Whole m after → found b.table m.id ≡ None → (next true (stopped_at b rest)).0 ≡ Gone m.id
  gone m after w f = rw (w, f) refl

  was_read : (m : Raw) (after : List ℕ) (t : ObjectView) → front rest ≡ Whole m after → found b.table m.id ≡ Some t → (next true (stopped_at b rest)).0 ≡ said_of t m.opcode (outcome_to b m t).said
  was_read m after t w f = rw (w, f) refl

  was_left : (m : Raw) (after : List ℕ) (t : ObjectView) → front rest ≡ Whole m after → found b.table m.id ≡ Some t → (next true (stopped_at b rest)).1 ≡ behind_event b m after t
  was_left m after t w f = rw (w, f) refl

  pub event_at : (next true (stopped_at b rest)).0 ≡ Message target opcode values → IsEvent b rest target opcode values
  event_at e = by (front rest) refl
    where
      to : (m : Raw) (after : List ℕ) (o : Option ObjectView) → front rest ≡ Whole m after → found b.table m.id ≡ o → IsEvent b rest target opcode values
      to m after None w f = absurd (let none : Gone m.id ≡ Message target opcode values = sym (gone m after w f) ∙ e in cc)
      to m after (Some t) w f = read_as m after t w f (outcome_to b m t).said refl (was_left m after t w f) (sym (was_read m after t w f) ∙ e)

      by : (f : Front) → front rest ≡ f → IsEvent b rest target opcode values
      by Short w = absurd (let none : Waits ≡ Message target opcode values = sym (short w) ∙ e in cc)
      by (Unlawful n) w = absurd (let none : Refused (LengthFault n) ≡ Message target opcode values = sym (unlawful n w) ∙ e in cc)
      by (Whole m after) w = to m after (found b.table m.id) w refl

-- ---- the reading goes on behind it

-- the messages with one more, of which this is said, and the endpoint behind it
pub record GoesOn (g : Greeter) (b : BackendView) (past : List Raw) (target : ObjectView) (said : Shake) (left : BackendView) : Type 0 where
  pub message : Raw
  pub object : found b.table message.id ≡ Some target
  pub said_is : shake (found b.table) b message ≡ Some said
  pub goes_on : reading_of g (found b.table) b ≡ read (judge g (found b.table) b) (message ∷ past) left.unread
  pub stands : still left ≡ still (stopped_at b left.unread)

-- an endpoint with the same objects, ids and handles stands as this one, but for what is unread
alike : (b left : BackendView) → left.table.objects ≡ b.table.objects → left.table.next_own ≡ b.table.next_own → left.table.next_peer ≡ b.table.next_peer → left.table.client ≡ b.table.client →
    left.handles ≡ b.handles → left.closed ≡ b.closed → still left ≡ still (stopped_at b left.unread)
alike b left o n p c h d = λ i. record { objects = o i; next_own = n i; next_peer = p i; client = c i; unread = left.unread; handles = h i; unsent = []; unsent_handles = []; closed = d i }

-- it takes no handle, and changes no object
pub stays_behind : (b now left : BackendView) (target : ObjectView) (opcode : ℕ) (values : List Value) (said : Shake) → still now ≡ still (stopped_at b now.unread) → next true now ≡ (Message target opcode values, left) →
    shake_of target.interface opcode values ≡ Some said → left.table ≡ now.table → still left ≡ still (stopped_at b left.unread)
stays_behind b now left target opcode values said at answers says table =
    let same = next_same (stopped_at b now.unread) now at in
    let event = event_at b now.unread target opcode values (sym same.answer ∙ ap (λ (x : FrontAnswer × BackendView). x.0) answers) in
    let m : Raw = event.message in
    let leaves : still left ≡ still (behind_event b m event.behind target) = ap (λ (x : FrontAnswer × BackendView). still x.1) (sym answers) ∙ same.stands ∙ ap still event.left in
    let none : (outcome_to b m target).taken ≡ 0 = takes_none b m target values (to_handshake target.interface opcode values said says) event.said in
    alike b left
    (ap (λ (t : TableView). t.objects) table ∙ ap (λ (x : Endpoint). x.objects) at)
    (ap (λ (t : TableView). t.next_own) table ∙ ap (λ (x : Endpoint). x.next_own) at)
    (ap (λ (t : TableView). t.next_peer) table ∙ ap (λ (x : Endpoint). x.next_peer) at)
    (ap (λ (t : TableView). t.client) table ∙ ap (λ (x : Endpoint). x.client) at)
    (ap (λ (x : Endpoint). x.handles) leaves ∙ ap (λ (n : ℕ). drop n b.handles) none)
    (ap (λ (x : Endpoint). x.closed) leaves)

module _ (g : Greeter) (b : BackendView) (past : List Raw) (now left : BackendView) (target : ObjectView) (opcode : ℕ) (values : List Value) (said : Shake)
    (goes : reading_of g (found b.table) b ≡ read (judge g (found b.table) b) past now.unread) (at : still now ≡ still (stopped_at b now.unread))
    (answers : next true now ≡ (Message target opcode values, left)) (says : shake_of target.interface opcode values ≡ Some said) (accepted : judged (is_long g target.id) (Some said) ≡ Accepted) (table : left.table ≡ now.table) where
  pub goes_behind : GoesOn g b past target said left
  unfolding judge shake
  goes_behind =
      let same = next_same (stopped_at b now.unread) now at in
      let event = event_at b now.unread target opcode values (sym same.answer ∙ ap (λ (x : FrontAnswer × BackendView). x.0) answers) in
      let m : Raw = event.message in
      let leaves : still left ≡ still (behind_event b m event.behind target) = ap (λ (x : FrontAnswer × BackendView). still x.1) (sym answers) ∙ same.stands ∙ ap still event.left in
      let unread : left.unread ≡ event.behind = ap (λ (x : Endpoint). x.unread) leaves in
      let shakes : shake (found b.table) b m ≡ Some said = rw (event.object, event.said, event.code) says in
      let judges : judge g (found b.table) b past m ≡ Accepted = rw (event.object, event.said, event.code, says) accepted in
      record {
        message = m;
        object = event.object;
        said_is = shakes;
        goes_on = goes ∙ read_accepted (judge g (found b.table) b) past now.unread m event.behind event.whole judges ∙ ap (read (judge g (found b.table) b) (m ∷ past)) (sym unread);
        stands = stays_behind b now left target opcode values said at answers says table;
      }
