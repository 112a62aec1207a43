-- What is read without a handle is read so beside handles too, and takes none of them.
use Rattle.std.proofs.Common.{◌≡◌, ℕ, Bool, List, [], ◌∷◌, length, Option, Some, None, Result, Ok, Err, refl, ap, subst}
use Rattle.std.specs.Prelude.{IfSome}
use Rattle.std.specs.Int.{w32, w64, cast_signed}
use Rattle.ei_spec.specs.declared.handle.Handle.{Handle as Descriptor}
use Rattle.ei_spec.specs.Value.{Kind, U32, I32, U64, I64, Float, Text, Nullable, Handle, New, Choice, OpenChoice, Value, Word, Long, Signed, SignedLong, Letters}
use Rattle.ei_spec.specs.Reading.{Fault, ◌>>=◌, Unread, Read, number_at, text_at, some_text, or_null, choice_at, of_bytes, read, ArgumentStop, ◌then◌, stopping, all_at}
use Rattle.ei_spec.specs.Interface.{Interface, Known, Other, ObjectView, short_of}
use Rattle.ei_spec.specs.Rows.{Row, row_at}
use Rattle.ei_spec.specs.Table.{table}
use Rattle.ei_backend.specs.Table.{TableView}
use Rattle.ei_backend.specs.Message.{Parsed, announce, row_read, some_row, message_read, ReadsWhole}
use Rattle.ei_backend.specs.Step.{reading}
use Rattle.ei_backend.specs.Backend.{BackendView, Message, of_outcome, of_target, body_read}
use Rattle.ei_backend.proofs.BodyIs.{says}

-- these bytes, and no handle
abbrev bare : List ℕ → Unread
bare bytes = record { bytes = bytes; handles = []; taken = 0 }

-- these bytes beside handles
abbrev beside : List Descriptor → List ℕ → Unread
beside handles bytes = record { bytes = bytes; handles = handles; taken = 0 }

-- a value was read without a handle, and is read so beside these
abbrev One : List Descriptor → Read → Value × Unread → Type 0
One handles r x = (x.1 ≡ bare x.1.bytes) × (r ≡ Ok (x.0, beside handles x.1.bytes))

-- the same of some values
abbrev Some_of : List Descriptor → Result (List Value × Unread) ArgumentStop → List Value × Unread → Type 0
Some_of handles r x = (x.1 ≡ bare x.1.bytes) × (r ≡ Ok (x.0, beside handles x.1.bytes))

of_bytes_beside : {A : Type 0} (f : A → Value) (bytes : List ℕ) (hs : List Descriptor) (r : Result (A × List ℕ) Fault) (x : Value × Unread) → of_bytes f (bare bytes) r ≡ Ok x → One hs (of_bytes f (beside hs bytes) r) x
of_bytes_beside f bytes hs (Ok y) x e =
    let y_read : Value × Unread = (f y.0, bare y.1) in
    let is : y_read ≡ x = cc in
    (subst (λ (z : Value × Unread). z.1 ≡ bare z.1.bytes) is refl, ap (λ (z : Value × Unread). let r : Read = Ok (z.0, beside hs z.1.bytes) in r) is)
of_bytes_beside f bytes hs (Err g) x e = absurd cc

read_beside : (k : Kind) (bytes : List ℕ) (hs : List Descriptor) (x : Value × Unread) → read k (bare bytes) ≡ Ok x → One hs (read k (beside hs bytes)) x
read_beside U32 bytes hs x e = of_bytes_beside Word bytes hs (number_at w32 bytes) x e
read_beside I32 bytes hs x e = of_bytes_beside (λ n. Signed (cast_signed w32 n)) bytes hs (number_at w32 bytes) x e
read_beside U64 bytes hs x e = of_bytes_beside Long bytes hs (number_at w64 bytes) x e
read_beside I64 bytes hs x e = of_bytes_beside (λ n. SignedLong (cast_signed w64 n)) bytes hs (number_at w64 bytes) x e
read_beside New bytes hs x e = of_bytes_beside Long bytes hs (number_at w64 bytes) x e
read_beside Float bytes hs x e = of_bytes_beside Word bytes hs (number_at w32 bytes) x e
read_beside Text bytes hs x e = of_bytes_beside Letters bytes hs (text_at bytes >>= λ t. some_text t.0 t.1) x e
read_beside Nullable bytes hs x e = of_bytes_beside or_null bytes hs (text_at bytes) x e
read_beside Handle bytes hs x e = absurd cc
read_beside (Choice name values) bytes hs x e = of_bytes_beside Word bytes hs (choice_at name values bytes) x e
read_beside OpenChoice bytes hs x e = of_bytes_beside Word bytes hs (number_at w32 bytes) x e

abbrev list_then : Value → Result (List Value × Unread) ArgumentStop → Result (List Value × Unread) ArgumentStop
list_then v r = r then λ xs. Ok (v ∷ xs.0, xs.1)

all_beside : (ks : List Kind) (bytes : List ℕ) (hs : List Descriptor) (x : List Value × Unread) → all_at ks (bare bytes) ≡ Ok x → Some_of hs (all_at ks (beside hs bytes)) x
all_beside [] bytes hs x e =
    let none : List Value × Unread = ([], bare bytes) in
    let is : none ≡ x = cc in
    (subst (λ (z : List Value × Unread). z.1 ≡ bare z.1.bytes) is refl, ap (λ (z : List Value × Unread). let r : Result (List Value × Unread) ArgumentStop = Ok (z.0, beside hs z.1.bytes) in r) is)
all_beside (k ∷ ks) bytes hs x e = first (λ rest z. all_beside ks rest hs z) (read k (bare bytes)) refl e
  where
    behind : ((rest : List ℕ) (z : List Value × Unread) → all_at ks (bare rest) ≡ Ok z → Some_of hs (all_at ks (beside hs rest)) z) → (y : Value × Unread) → One hs (read k (beside hs bytes)) y → (r : Result (List Value × Unread) ArgumentStop) → all_at ks (bare y.1.bytes) ≡ r → list_then y.0 r ≡ Ok x → Some_of hs (all_at (k ∷ ks) (beside hs bytes)) x
    behind ih y one (Err f) is e = absurd cc
    behind ih y one (Ok z) is e =
        let more = ih y.1.bytes z is in
        let both : List Value × Unread = (y.0 ∷ z.0, z.1) in
        let same : both ≡ x = cc in (
          subst (λ (p : List Value × Unread). p.1 ≡ bare p.1.bytes) same more.0,
          rw (one.1, more.1) (ap (λ (p : List Value × Unread). let r : Result (List Value × Unread) ArgumentStop = Ok (p.0, beside hs p.1.bytes) in r) same),
        )

    first : ((rest : List ℕ) (z : List Value × Unread) → all_at ks (bare rest) ≡ Ok z → Some_of hs (all_at ks (beside hs rest)) z) → (r : Read) → read k (bare bytes) ≡ r → (stopping 0 r then λ y. list_then y.0 (all_at ks y.1)) ≡ Ok x → Some_of hs (all_at (k ∷ ks) (beside hs bytes)) x
    first ih (Err f) is e = absurd cc
    first ih (Ok y) is e =
        let one = read_beside k bytes hs y is in
        behind ih y one (all_at ks (bare y.1.bytes)) refl (subst (λ (s : Unread). list_then y.0 (all_at ks s) ≡ Ok x) one.0 e)

-- the message with these handles beside what is left
abbrev parsed_beside : List Descriptor → Parsed → Result Parsed ArgumentStop
parsed_beside hs p = Ok (record { values = p.values; table = p.table; unread = beside hs p.unread.bytes })

row_beside : (r : Row) (bytes : List ℕ) (hs : List Descriptor) (t : TableView) (p : Parsed) → row_read r (bare bytes) t ≡ Ok p → row_read r (beside hs bytes) t ≡ parsed_beside hs p
row_beside r bytes hs t p e = by (all_at r.kinds (bare bytes)) refl e
  where
    announced : (x : List Value × Unread) → Some_of hs (all_at r.kinds (beside hs bytes)) x → (u : Result TableView Fault) → announce r.announces r.kinds x.0 t ≡ u →
        (stopping x.1.taken u then λ v. let q : Result Parsed ArgumentStop = Ok (record { values = x.0; table = v; unread = x.1 }) in q) ≡ Ok p → row_read r (beside hs bytes) t ≡ parsed_beside hs p
    announced x all (Err f) a e = absurd cc
    announced x all (Ok u) a e =
        let said : Parsed = record { values = x.0; table = u; unread = x.1 } in
        let same : said ≡ p = cc in
        rw (all.1, a) (ap (parsed_beside hs) same)

    by : (r2 : Result (List Value × Unread) ArgumentStop) → all_at r.kinds (bare bytes) ≡ r2 →
        (r2 then λ x. stopping x.1.taken (announce r.announces r.kinds x.0 t) then λ v. let q : Result Parsed ArgumentStop = Ok (record { values = x.0; table = v; unread = x.1 }) in q) ≡ Ok p → row_read r (beside hs bytes) t ≡ parsed_beside hs p
    by (Err f) is e = absurd cc
    by (Ok x) is e = announced x (all_beside r.kinds bytes hs x is) (announce r.announces r.kinds x.0 t) refl e

some_beside : (o : Option Row) (short : List ℕ) (opcode : ℕ) (bytes : List ℕ) (hs : List Descriptor) (t : TableView) (p : Parsed) → some_row o short opcode (bare bytes) t ≡ Ok p → some_row o short opcode (beside hs bytes) t ≡ parsed_beside hs p
some_beside None short opcode bytes hs t p e = absurd cc
some_beside (Some r) short opcode bytes hs t p e = row_beside r bytes hs t p e

message_beside : (events : Bool) (i : Interface) (opcode : ℕ) (bytes : List ℕ) (hs : List Descriptor) (t : TableView) (p : Parsed) → message_read events i opcode (bare bytes) t ≡ Ok p → message_read events i opcode (beside hs bytes) t ≡ parsed_beside hs p
message_beside events (Known k) opcode bytes hs t p e = some_beside (row_at opcode (table events k)) (short_of k) opcode bytes hs t p e
message_beside events (Other name) opcode bytes hs t p e = absurd cc

-- the message is read beside any handles as it is without, and they all stay
pub said_beside : (events : Bool) (target : ObjectView) (opcode : ℕ) (body : List ℕ) (values : List Value) (left : Unread) (hs : List Descriptor) (t : TableView) (all rest : List ℕ) (b : BackendView) →
    ReadsWhole events target.interface opcode values (bare body) left →
    of_outcome (reading all hs t b) target opcode rest (body_read events target opcode body hs t) ≡ (Message target opcode values, reading rest hs t b)
said_beside events target opcode body values left hs t all rest b whole =
    let said : Parsed = record { values = values; table = t; unread = left } in
    says events target opcode body hs t t values (beside hs left.bytes) rest b (message_beside events target.interface opcode body hs t said (whole.read t)) (ap length whole.whole)

-- the same of a typed message, and of the target that was found
module _ {M : Type 0} (target : M → ObjectView) (code : M → ℕ) (values : M → List Value) where
  pub lawful_beside : (result : Option M) (events : Bool) (o : ObjectView) (id opcode : ℕ) (body : List ℕ) (s left : Unread) (t : TableView) (there : Option ObjectView) → s ≡ bare body → Some o ≡ there →
      IfSome result (λ m. ReadsWhole events o.interface opcode (values m) s left) → IfSome result (λ m. (target m ≡ o) × (code m ≡ opcode)) →
      IfSome result (λ m. (all rest : List ℕ) (hs : List Descriptor) (b : BackendView) →
      of_target events (reading all hs t b) there (record { id = id; opcode = opcode; body = body }) rest ≡ (Message (target m) (code m) (values m), reading rest hs t b))
  lawful_beside None events o id opcode body s left t there is found read to = tt
  lawful_beside (Some m) events o id opcode body s left t there is found read to = λ all rest hs b.
      rw (← found, to.0, to.1) (said_beside events o opcode body (values m) left hs t all rest b (subst (λ (u : Unread). ReadsWhole events o.interface opcode (values m) u left) is read))
