-- What a client answers where a server begins: the room that it takes, and what is sent within it.
use Rattle.std.proofs.Common.{◌≡◌, ◌<◌, ◌≤◌, ℕ, ◌+◌, Bool, true, false, List, [], ◌∷◌, ◌++◌, length, map, take, get_or, Result, Ok, Err, Option, Some, refl, sym, ap, ◌∙◌, subst, arith}
use Rattle.std.specs.Prelude.{codes, leb, IsOk, if◌then◌else◌}
use Rattle.std.specs.List.{flat_map}
use Rattle.std.proofs.lemmas.Bool.{leb-true, lt-ltb, le-ltb, ltb-false}
use Rattle.std.proofs.lemmas.List.{append-nil, length-append, map-append, take_more, take_all}
use Rattle.ei_spec.specs.declared.interface.KnownInterface.{KnownInterface}
use Rattle.ei_spec.specs.declared.interface.KnownInterface.TheVariants as known
use Rattle.ei_spec.specs.declared.limits.TheConstants.{MOST_MESSAGE_BYTES, SETTLED_INTERFACES}
use Rattle.ei_spec.specs.Interface.{ObjectView, name_of, the_settled}
use Rattle.ei_spec.specs.Rows.{Row, Announces, Nothing, row_named}
use Rattle.ei_spec.specs.Table.{table}
use Rattle.ei_spec.specs.Value.{Value, Word, Letters, written, handles_of}
use Rattle.ei_spec.specs.Message.{Raw, message, size, bytes_of, all_bytes}
use Rattle.ei_spec.proofs.EachInterface.{of_each}
use Rattle.ei_wire.specs.declared.error.SendError.{SendError}
use Rattle.ei_wire.specs.declared.error.SendError.TheVariants as send_error
use Rattle.ei_types.specs.declared.enums.ContextType.{ContextType}
use Rattle.ei_types.specs.Enums.{context_type_number}
use Rattle.ei_types.specs.Settled.{versions}
use Rattle.ei_backend.specs.Outgoing.{HasSpare}
use Rattle.ei_backend.specs.Backend.{BackendView, unsent_of, with_room, after_row, removed, sent, with_announced}
use Rattle.ei_backend.specs.Endpoint.{endpoint_of}
use Rattle.ei_backend.specs.Sends.{Sends, SendsText}
use Rattle.ei_backend.proofs.GoingOut.{message_length}
use Rattle.ei_greeting.specs.Shaking.{Greeter, asking, naming, announcing, greeting, is_long}
use Rattle.ei_handshake.specs.declared.sizes.TheConstants.{MOST_VERSION_BYTES}
use Rattle.ei_handshake.specs.declared.client.TheConstants.{MOST_VERSIONS_BYTES, MOST_GREETING_BYTES}
use Rattle.ei_handshake.specs.Handshaker.{sends}
use Rattle.ei_handshake.specs.Client.{told_version}
use Rattle.ei_handshake.proofs.Sending.{sent_one, sends_more}
use Rattle.ei_handshake.proofs.Room.{less_spare}

-- ---- room

-- the room that a message leaves
pub spent_message : (b new : BackendView) (m : Raw) (k n : ℕ) → new ≡ sends b (m ∷ []) → n + size m ≤ k → HasSpare k 0 (unsent_of b) b.room → HasSpare n 0 (unsent_of new) new.room
spent_message b new m k n is few h = subst (λ (x : BackendView). HasSpare n 0 (unsent_of x) x.room) (sym is) (record {
  spare_bytes = omega (arith, h.spare_bytes, few, length-append b.unsent (all_bytes (m ∷ [])), length-append (bytes_of m) [], message_length m);
  spare_handles = h.spare_handles;
})

-- ---- the name

name_size : (id : ℕ) (name : List ℕ) → size (naming id name) ≡ 16 + length (written (Letters name))
name_size id name = ap (λ (x : List ℕ). 16 + length x) (append-nil (written (Letters name)))

-- a name whose argument has too many bytes
pub long_name : (g : Greeter) (id n : ℕ) → n ≡ length (written (Letters g.name)) → MOST_MESSAGE_BYTES < 16 + n → is_long g id ≡ true
long_name g id n is lt = lt-ltb MOST_MESSAGE_BYTES (size (naming id g.name)) (omega (arith, lt, is, name_size id g.name))

pub short_name : (g : Greeter) (id n : ℕ) → n ≡ length (written (Letters g.name)) → 16 + n ≤ MOST_MESSAGE_BYTES → is_long g id ≡ false
short_name g id n is le = le-ltb MOST_MESSAGE_BYTES (size (naming id g.name)) (omega (arith, le, is, name_size id g.name))

-- a version's request is short
pub told_size : (p : KnownInterface × ℕ) (id : ℕ) → size (told_version id p) ≤ MOST_VERSION_BYTES
told_size p id = leb-true _ MOST_VERSION_BYTES (of_each (λ (k : KnownInterface). leb (size (told_version id (k, p.1))) MOST_VERSION_BYTES) refl p.0)

-- ---- one request

-- a request was sent, and this room is left
pub record WasSent (r : Result (Unit {0}) SendError) (b new : BackendView) (m : Raw) (n : ℕ) : Type 0 where
  pub ok : IsOk r
  pub is : new ≡ sends b (m ∷ [])
  pub spare : HasSpare n 0 (unsent_of new) new.room

module _ (q : ℕ × Row) (target : ObjectView) (values : List Value) (none : flat_map handles_of values ≡ []) (announces : q.1.announces ≡ Nothing) (stays : q.1.destroys ≡ false) where
  -- after a row that announces nothing and destroys nothing
  after_plain : (b : BackendView) → after_row (Some q) target values b ≡ sends b (message target.id q.0 values ∷ [])
  after_plain b =
      ap (λ (d : Bool). if d then removed (with_announced q.1.announces values (sent b target.id q.0 values)) target.id else with_announced q.1.announces values (sent b target.id q.0 values)) stays
      ∙ ap (λ (x : Announces). with_announced x values (sent b target.id q.0 values)) announces
      ∙ sent_one b target.id q.0 values none

  module _ (b new : BackendView) (k n : ℕ) (few : n + size (message target.id q.0 values) ≤ k) (h : HasSpare k 0 (unsent_of b) b.room) where
    fits : HasSpare (size (message target.id q.0 values)) (length (flat_map handles_of values)) (unsent_of b) b.room
    fits = record { spare_bytes = omega (arith, few, h.spare_bytes); spare_handles = omega (arith, h.spare_handles, ap length none) }

    was : (r : Result (Unit {0}) SendError) → IsOk r → new ≡ after_row (Some q) target values b → WasSent r b new (message target.id q.0 values) n
    was r ok e = let is : new ≡ sends b (message target.id q.0 values ∷ []) = e ∙ after_plain b in
        record { ok = ok; is = is; spare = spent_message b new (message target.id q.0 values) k n is few h }

    -- a request without text is sent
    pub plain_is_sent : (r : Result (Unit {0}) SendError) → Sends (Some q) target values b new r → WasSent r b new (message target.id q.0 values) n
    plain_is_sent (Ok x) s = was (Ok x) refl s.ok
    plain_is_sent (Err e) s = absurd (s.room fits (ap Err s.only))

    -- and one with a text that is not too long
    pub text_is_sent : (r : Result (Unit {0}) SendError) → SendsText (Some q) target values b new r → size (message target.id q.0 values) ≤ MOST_MESSAGE_BYTES → WasSent r b new (message target.id q.0 values) n
    text_is_sent (Ok x) s short = was (Ok x) refl s.ok
    text_is_sent (Err send_error.NoMemory) s short = absurd (s.room fits refl)
    text_is_sent (Err send_error.IdsExhausted) s short = absurd (s.not_exhausted refl)
    text_is_sent (Err send_error.MessageTooLong) s short =
        let long : MOST_MESSAGE_BYTES < size (message target.id q.0 values) = s.long.0 refl in
        absurd (omega (arith, long, short))

-- a request's row, by its name
abbrev row : List ℕ → Option (ℕ × Row)
row name = row_named name (table false known.Handshake)

number_size : (id opcode n : ℕ) → size (message id opcode (Word n ∷ [])) ≡ 20
number_size id opcode n = refl

module _ (target : ObjectView) (b new : BackendView) (r : Result (Unit {0}) SendError) (k n : ℕ) (h : HasSpare k 0 (unsent_of b) b.room) where
  pub version_is_sent : Sends (row (codes "handshake_version")) target (Word 1 ∷ []) b new r → n + 20 ≤ k → WasSent r b new (asking target.id (codes "handshake_version") (Word 1 ∷ [])) n
  version_is_sent s few = plain_is_sent _ target (Word 1 ∷ []) refl refl refl b new k n few h r s

  pub kind_is_sent : (kind : ContextType) → Sends (row (codes "context_type")) target (Word (context_type_number kind) ∷ []) b new r → n + 20 ≤ k →
      WasSent r b new (asking target.id (codes "context_type") (Word (context_type_number kind) ∷ [])) n
  kind_is_sent kind s few = plain_is_sent _ target (Word (context_type_number kind) ∷ []) refl refl refl b new k n few h r s

  pub finish_is_sent : Sends (row (codes "finish")) target [] b new r → n + 16 ≤ k → WasSent r b new (asking target.id (codes "finish") []) n
  finish_is_sent s few = plain_is_sent _ target [] refl refl refl b new k n few h r s

  pub name_is_sent : (g : Greeter) → is_long g target.id ≡ false → SendsText (row (codes "name")) target (Letters g.name ∷ []) b new r → n + (16 + length (written (Letters g.name))) ≤ k →
      WasSent r b new (naming target.id g.name) n
  name_is_sent g short s few =
      let size_is = name_size target.id g.name in
      text_is_sent _ target (Letters g.name ∷ []) refl refl refl b new k n (omega (arith, few, size_is)) h r s (ltb-false MOST_MESSAGE_BYTES (size (naming target.id g.name)) short)

  pub told_is_sent : (p : KnownInterface × ℕ) → SendsText (row (codes "interface_version")) target (Letters (name_of p.0) ∷ Word p.1 ∷ []) b new r → n + MOST_VERSION_BYTES ≤ k →
      WasSent r b new (told_version target.id p) n
  told_is_sent p s few =
      let short = told_size p target.id in
      text_is_sent _ target (Letters (name_of p.0) ∷ Word p.1 ∷ []) refl refl refl b new k n (omega (arith, few, short)) h r s (omega (arith, short))

  -- the same, where the name stands elsewhere
  pub version_is_told : (p : KnownInterface × ℕ) (name : List ℕ) → name ≡ name_of p.0 → SendsText (row (codes "interface_version")) target (Letters name ∷ Word p.1 ∷ []) b new r → n + MOST_VERSION_BYTES ≤ k →
      WasSent r b new (told_version target.id p) n
  version_is_told p name is s few = told_is_sent p (subst (λ (x : List ℕ). SendsText (row (codes "interface_version")) target (Letters x ∷ Word p.1 ∷ []) b new r) is s) few

-- ---- the versions

-- the requests of these interfaces
abbrev pub told_versions : ℕ → List (KnownInterface × ℕ) → List Raw
told_versions id pairs = map (told_version id) pairs

pub told_versions_more : (id : ℕ) (pairs : List (KnownInterface × ℕ)) (i : ℕ) (d : KnownInterface × ℕ) → i < length pairs →
    told_versions id (take (i + 1) pairs) ≡ told_versions id (take i pairs) ++ told_version id (get_or pairs i d) ∷ []
told_versions_more id pairs i d lt = ap (told_versions id) (take_more pairs i d lt) ∙ map-append (told_version id) (take i pairs) (get_or pairs i d ∷ [])

-- the room that one leaves
pub spent_told : (b new : BackendView) (id : ℕ) (p : KnownInterface × ℕ) (n : ℕ) → new ≡ sends b (told_version id p ∷ []) → HasSpare (n + MOST_VERSION_BYTES) 0 (unsent_of b) b.room → HasSpare n 0 (unsent_of new) new.room
spent_told b new id p n is h = spent_message b new (told_version id p) (n + MOST_VERSION_BYTES) n is (omega (arith, told_size p id)) h

-- all of them
pub told_versions_whole : (id : ℕ) (pairs : List (KnownInterface × ℕ)) (n : ℕ) → pairs ≡ versions → SETTLED_INTERFACES ≤ n → told_versions id (take n pairs) ≡ map (announcing id) the_settled
told_versions_whole id pairs n is le =
    let all : take n versions ≡ versions = take_all n versions le in
    ap (λ (x : List (KnownInterface × ℕ)). told_versions id (take n x)) is ∙ ap (told_versions id) all

-- ---- all of it

-- what is sent one after another is the greeting
pub greeting_whole : (g : Greeter) (id : ℕ) (b0 b1 b2 b3 b4 b5 : BackendView) →
    b1 ≡ sends b0 (asking id (codes "handshake_version") (Word 1 ∷ []) ∷ []) → b2 ≡ sends b1 (naming id g.name ∷ []) →
    b3 ≡ sends b2 (asking id (codes "context_type") (Word (context_type_number g.kind) ∷ []) ∷ []) → b4 ≡ sends b3 (map (announcing id) the_settled) →
    b5 ≡ sends b4 (asking id (codes "finish") [] ∷ []) → b5 ≡ sends b0 (greeting g id)
unfolding greeting
greeting_whole g id b0 b1 b2 b3 b4 b5 e1 e2 e3 e4 e5 =
    let version : Raw = asking id (codes "handshake_version") (Word 1 ∷ []) in
    let kind : Raw = asking id (codes "context_type") (Word (context_type_number g.kind) ∷ []) in
    let f2 : b2 ≡ sends b0 (version ∷ naming id g.name ∷ []) = e2 ∙ sends_more b0 b1 (version ∷ []) (naming id g.name ∷ []) e1 in
    let f3 : b3 ≡ sends b0 (version ∷ naming id g.name ∷ kind ∷ []) = e3 ∙ sends_more b0 b2 (version ∷ naming id g.name ∷ []) (kind ∷ []) f2 in
    let f4 : b4 ≡ sends b0 (version ∷ naming id g.name ∷ kind ∷ map (announcing id) the_settled) = e4 ∙ sends_more b0 b3 (version ∷ naming id g.name ∷ kind ∷ []) (map (announcing id) the_settled) f3 in
    e5 ∙ sends_more b0 b4 (version ∷ naming id g.name ∷ kind ∷ map (announcing id) the_settled) (asking id (codes "finish") [] ∷ []) f4

-- one request after another, within the room for all
module _ (target : ObjectView) (g : Greeter) (short : is_long g target.id ≡ false) (b0 b1 : BackendView) (r1 : Result (Unit {0}) SendError)
    (h : HasSpare (MOST_GREETING_BYTES + length (written (Letters g.name))) 0 (unsent_of b0) b0.room) (s1 : Sends (row (codes "handshake_version")) target (Word 1 ∷ []) b0 b1 r1) where
  pub first_sent : WasSent r1 b0 b1 (asking target.id (codes "handshake_version") (Word 1 ∷ [])) (624 + length (written (Letters g.name)))
  first_sent = version_is_sent target b0 b1 r1 (MOST_GREETING_BYTES + length (written (Letters g.name))) (624 + length (written (Letters g.name))) h s1 (omega arith)

  module _ (b2 : BackendView) (r2 : Result (Unit {0}) SendError) (name : List ℕ) (name_is : name ≡ g.name) (s2 : SendsText (row (codes "name")) target (Letters name ∷ []) b1 b2 r2) where
    pub name_sent : WasSent r2 b1 b2 (naming target.id g.name) 608
    name_sent = name_is_sent target b1 b2 r2 (624 + length (written (Letters g.name))) 608 first_sent.spare g short
        (subst (λ (x : List ℕ). SendsText (row (codes "name")) target (Letters x ∷ []) b1 b2 r2) name_is s2) (omega arith)

    module _ (b3 : BackendView) (r3 : Result (Unit {0}) SendError) (kind : ContextType) (kind_is : kind ≡ g.kind) (s3 : Sends (row (codes "context_type")) target (Word (context_type_number kind) ∷ []) b2 b3 r3) where
      pub kind_sent : WasSent r3 b2 b3 (asking target.id (codes "context_type") (Word (context_type_number g.kind) ∷ [])) 588
      kind_sent = kind_is_sent target b2 b3 r3 608 588 name_sent.spare g.kind
          (subst (λ (x : ContextType). Sends (row (codes "context_type")) target (Word (context_type_number x) ∷ []) b2 b3 r3) kind_is s3) (omega arith)

      pub room_for_versions : HasSpare MOST_VERSIONS_BYTES 0 (unsent_of b3) b3.room
      room_for_versions = less_spare 588 MOST_VERSIONS_BYTES (unsent_of b3) b3.room kind_sent.spare (omega arith)

      module _ (b4 b5 : BackendView) (r5 : Result (Unit {0}) SendError) (sends4 : b4 ≡ sends b3 (map (announcing target.id) the_settled))
          (spare4 : (n : ℕ) → HasSpare (n + MOST_VERSIONS_BYTES) 0 (unsent_of b3) b3.room → HasSpare n 0 (unsent_of b4) b4.room) (s5 : Sends (row (codes "finish")) target [] b4 b5 r5) where
        pub finish_sent : WasSent r5 b4 b5 (asking target.id (codes "finish") []) 0
        finish_sent = finish_is_sent target b4 b5 r5 16 0 (spare4 16 (less_spare 588 (16 + MOST_VERSIONS_BYTES) (unsent_of b3) b3.room kind_sent.spare (omega arith))) s5 (omega arith)

        pub all_sent : b5 ≡ sends b0 (greeting g target.id)
        all_sent = greeting_whole g target.id b0 b1 b2 b3 b4 b5 first_sent.is name_sent.is kind_sent.is sends4 finish_sent.is

-- with room for it, only what is sent changes
pub roomy : (b : BackendView) (k : ℕ) → HasSpare k 0 (unsent_of (with_room k 0 0 b)) (with_room k 0 0 b).room
roomy b k = record { spare_bytes = omega arith; spare_handles = omega arith }

pub greeted : (b at new : BackendView) (k : ℕ) (messages : List Raw) → at ≡ with_room k 0 0 b → new ≡ sends at messages → endpoint_of new ≡ endpoint_of (sends b messages)
greeted b at new k messages made is = ap endpoint_of (is ∙ ap (λ (x : BackendView). sends x messages) made)

pub greeted_ring : (b at new : BackendView) (k : ℕ) (messages : List Raw) → at ≡ with_room k 0 0 b → new ≡ sends at messages → new.capacity ≡ b.capacity
greeted_ring b at new k messages made is = ap (λ (x : BackendView). x.capacity) (is ∙ ap (λ (x : BackendView). sends x messages) made)
