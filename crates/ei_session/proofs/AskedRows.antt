-- The arguments of the request of a name are those that the table's row of its opcode has, and they are of the row's kinds.
use Rattle.std.proofs.Common.{◌≡◌, ◌≢◌, ℕ, ◌+◌, ◌≤◌, Bool, true, false, eqb, ◌&&◌, List, [], ◌∷◌, length, Option, Some, None, Result, Ok, Err, refl, sym, ap}
use Rattle.std.proofs.Common.{◌∙◌, ◌⊎◌, inl, inr, arith, subst}
use Rattle.std.specs.Prelude.{map, slice_get}
use Rattle.std.specs.List.{range_with_len}
use Rattle.std.specs.Str.{bytes_eq}
use Rattle.std.specs.Int.{w32, w64, cast_signed}
use Rattle.std.proofs.lemmas.Bool.{eqb-true}
use Rattle.std.proofs.lemmas.Bool.Decides.{nat_tests}
use Rattle.ei_spec.specs.declared.handle.Handle.{Handle as Descriptor}
use Rattle.ei_spec.specs.declared.interface.KnownInterface.{KnownInterface}
use Rattle.ei_spec.specs.Value.{Kind, U32, I32, U64, I64, Float, Text, Nullable, Handle, New, Choice, OpenChoice, Value, Word, Long, Signed, SignedLong}
use Rattle.ei_spec.specs.Value.{Letters}
use Rattle.ei_spec.specs.Reading.{Fault, Unread, Read, number_at, text_at, some_text, or_null, choice_at, of_bytes, of_handle, ◌>>=◌, read}
use Rattle.ei_spec.specs.Reading.{ArgumentStop, stopping}
use Rattle.ei_spec.specs.Reading.{◌then◌, all_at}
use Rattle.ei_spec.specs.Rows.{Row, row_at, row_named}
use Rattle.ei_spec.specs.Table.{table}
use Rattle.ei_spec.specs.Message.{Raw}
use Rattle.ei_spec.proofs.TableLaws.{in_order}
use Rattle.ei_session.specs.Arguments.{whole, body_of, row_args, request_args}
use Rattle.ei_session.specs.Asked.{asked}
use Rattle.ei_session.proofs.Choices.{chosen, some_is, none_some, and_true}

-- ---- rows

-- the row of that opcode stands in the list
abbrev pub At : ℕ → Row → List (ℕ × Row) → Type 0
At n r [] = ⊥
At n r (x ∷ xs) = ((n ≡ x.0) × (r ≡ x.1)) ⊎ At n r xs

pub row_is_at : (n : ℕ) (t : List (ℕ × Row)) (r : Row) → row_at n t ≡ Some r → At n r t
row_is_at n [] r h = absurd (none_some r h)
row_is_at n (x ∷ xs) r h =
    elim (chosen (eqb n x.0) _ _ _ h) [
      | inl a ↦ inl (eqb-true n x.0 a.0, sym (some_is x.1 r a.1))
      | inr b ↦ inr (row_is_at n xs r b.1)
    ]

named_at : (name : List ℕ) (t : List (ℕ × Row)) (x : ℕ × Row) → row_named name t ≡ Some x → At x.0 x.1 t
named_at name [] x h = absurd (none_some x h)
named_at name (y ∷ ys) x h =
    elim (chosen (bytes_eq name y.1.name) _ _ _ h) [
      | inl a ↦ let same = some_is y x a.1 in inl (ap (λ (z : ℕ × Row). z.0) (sym same), ap (λ (z : ℕ × Row). z.1) (sym same))
      | inr b ↦ inr (named_at name ys x b.1)
    ]

-- in a list of rising opcodes, that row is found
found_at : (a n : ℕ) (r : Row) (t : List (ℕ × Row)) → map (λ (x : ℕ × Row). x.0) t ≡ range_with_len a (length t) → At n r t → (row_at n t ≡ Some r) × (a ≤ n)
found_at a n r [] o h = absurd h
found_at a n r (x ∷ xs) o (inl h) =
    let first : x.0 ≡ a = cc in
    let here : eqb n x.0 ≡ true = let e = h.0 in grind (arith, nat_tests) in
    (rw here (ap Some (sym h.1)), omega (arith, first, h.0))
found_at a n r (x ∷ xs) o (inr h) =
    let first : x.0 ≡ a = cc in
    let rest : map (λ (y : ℕ × Row). y.0) xs ≡ range_with_len (a + 1) (length xs) = cc in
    let w = found_at (a + 1) n r xs rest h in
    let other : eqb n x.0 ≡ false = let low = w.1 in grind (arith, nat_tests) in
    (rw other w.0, omega (arith, w.1))

pub named_row : (k : KnownInterface) (name : List ℕ) (n : ℕ) (r : Row) → row_named name (table false k) ≡ Some (n, r) → row_at n (table false k) ≡ Some r
named_row k name n r h = (found_at 0 n r (table false k) (in_order false k) (named_at name (table false k) (n, r) h)).0

-- ---- the arguments by a name

pub asked_row : (k : KnownInterface) (name : List ℕ) (n : ℕ) (r : Row) (m : Raw) → row_named name (table false k) ≡ Some (n, r) → m.opcode ≡ n → asked k name m ≡ request_args k m
unfolding asked request_args
asked_row k name n r m h o =
    let here : eqb m.opcode n ≡ true = grind (arith, nat_tests) in
    let same : row_at m.opcode (table false k) ≡ Some r = ap (λ (x : ℕ). row_at x (table false k)) o ∙ named_row k name n r h in
    rw (h, here, same) refl

pub asked_other : (k : KnownInterface) (name : List ℕ) (n : ℕ) (r : Row) (m : Raw) → row_named name (table false k) ≡ Some (n, r) → m.opcode ≢ n → asked k name m ≡ None
unfolding asked
asked_other k name n r m h far = let other : eqb m.opcode n ≡ false = grind (arith, nat_tests, far) in rw (h, other) refl

pub asked_nothing : (k : KnownInterface) (name : List ℕ) (m : Raw) → row_named name (table false k) ≡ None → asked k name m ≡ None
unfolding asked
asked_nothing k name m h = rw h refl

unread_at : (k : KnownInterface) (name : List ℕ) (m : Raw) (o : Option (ℕ × Row)) → row_named name (table false k) ≡ o → request_args k m ≡ None → asked k name m ≡ None
unread_at k name m None h n = asked_nothing k name m h
unread_at k name m (Some x) h n = by (eqb m.opcode x.0) refl
  where
    by : (b : Bool) → eqb m.opcode x.0 ≡ b → asked k name m ≡ None
    by true e = asked_row k name x.0 x.1 m h (eqb-true m.opcode x.0 e) ∙ n
    by false e = asked_other k name x.0 x.1 m h (let no = e in grind (arith, nat_tests))

-- where nothing reads, nothing is asked
pub unread_asked : (k : KnownInterface) (name : List ℕ) (m : Raw) → request_args k m ≡ None → asked k name m ≡ None
unread_asked k name m n = unread_at k name m (row_named name (table false k)) refl n

-- ---- the shapes of arguments

-- whether the value is held as one of the kind is
abbrev pub is_held_as : Kind → Value → Bool
is_held_as U32 (Word n) = true
is_held_as I32 (Signed z) = true
is_held_as U64 (Long n) = true
is_held_as I64 (SignedLong z) = true
is_held_as Float (Word n) = true
is_held_as Text (Letters t) = true
is_held_as Nullable v = true
is_held_as Handle v = true
is_held_as New (Long n) = true
is_held_as (Choice name values) (Word n) = true
is_held_as OpenChoice (Word n) = true
is_held_as k v = false

abbrev pub are_held_as : List Kind → List Value → Bool
are_held_as [] [] = true
are_held_as (k ∷ ks) (v ∷ vs) = is_held_as k v && are_held_as ks vs
are_held_as ks vs = false

abbrev IsHeld : Kind → Read → Type 0
IsHeld k (Ok x) = is_held_as k x.0 ≡ true
IsHeld k (Err e) = Unit {0}

of_bytes_held : {A : Type 0} (k : Kind) (f : A → Value) (s : Unread) (r : Result (A × List ℕ) Fault) → ((a : A) → is_held_as k (f a) ≡ true) → IsHeld k (of_bytes f s r)
of_bytes_held k f s (Ok x) h = h x.0
of_bytes_held k f s (Err e) h = tt

of_handle_held : (s : Unread) (o : Option Descriptor) → IsHeld Handle (of_handle s o)
of_handle_held s None = tt
of_handle_held s (Some h) = refl

read_held : (k : Kind) (s : Unread) → IsHeld k (read k s)
read_held U32 s = of_bytes_held U32 Word s (number_at w32 s.bytes) (λ a. refl)
read_held I32 s = of_bytes_held I32 (λ n. Signed (cast_signed w32 n)) s (number_at w32 s.bytes) (λ a. refl)
read_held U64 s = of_bytes_held U64 Long s (number_at w64 s.bytes) (λ a. refl)
read_held I64 s = of_bytes_held I64 (λ n. SignedLong (cast_signed w64 n)) s (number_at w64 s.bytes) (λ a. refl)
read_held New s = of_bytes_held New Long s (number_at w64 s.bytes) (λ a. refl)
read_held Float s = of_bytes_held Float Word s (number_at w32 s.bytes) (λ a. refl)
read_held Text s = of_bytes_held Text Letters s (text_at s.bytes >>= λ t. some_text t.0 t.1) (λ a. refl)
read_held Nullable s = of_bytes_held Nullable or_null s (text_at s.bytes) (λ a. refl)
read_held Handle s = of_handle_held s (slice_get s.handles s.taken)
read_held (Choice name values) s = of_bytes_held (Choice name values) Word s (choice_at name values s.bytes) (λ a. refl)
read_held OpenChoice s = of_bytes_held OpenChoice Word s (number_at w32 s.bytes) (λ a. refl)

abbrev AreHeld : List Kind → Result (List Value × Unread) ArgumentStop → Type 0
AreHeld ks (Ok x) = are_held_as ks x.0 ≡ true
AreHeld ks (Err e) = Unit {0}

all_held : (ks : List Kind) (s : Unread) → AreHeld ks (all_at ks s)
all_held [] s = refl
all_held (k ∷ ks) s = by (read k s) (read_held k s) (λ (t : Unread). all_held ks t)
  where
    rest : (v : Value) (r : Result (List Value × Unread) ArgumentStop) → is_held_as k v ≡ true → AreHeld ks r → AreHeld (k ∷ ks) (r then λ xs. Ok (v ∷ xs.0, xs.1))
    rest v (Ok xs) h next = and_true (is_held_as k v) (are_held_as ks xs.0) h next
    rest v (Err e) h next = tt

    by : (r : Read) → IsHeld k r → ((t : Unread) → AreHeld ks (all_at ks t)) → AreHeld (k ∷ ks) (stopping s.taken r then λ x. all_at ks x.1 then λ xs. Ok (x.0 ∷ xs.0, xs.1))
    by (Ok x) h next = rest x.0 (all_at ks x.1) h (next x.1)
    by (Err e) h next = tt

pub whole_left : (r : Result (List Value × Unread) ArgumentStop) (args : List Value) → whole r ≡ Some args → (xs : List Value) × ((u : Unread) × ((r ≡ Ok (xs, u)) × (eqb (length u.bytes) 0 ≡ true)))
unfolding whole
whole_left (Ok x) args h = elim (chosen (eqb (length x.1.bytes) 0) _ _ _ h) [ inl a ↦ (x.0, (x.1, (refl, a.0))) | inr b ↦ absurd (none_some args b.1) ]
whole_left (Err e) args h = absurd (none_some args h)

-- a message that reads: its row, and what is read
pub record ReadsAs (k : KnownInterface) (m : Raw) (values : List Value) : Type 0 where
  pub row : Row
  pub is_row : row_at m.opcode (table false k) ≡ Some row
  pub rest : Unread
  pub reads : all_at row.kinds (body_of m) ≡ Ok (values, rest)
  pub nothing_left : eqb (length rest.bytes) 0 ≡ true
  pub held : are_held_as row.kinds values ≡ true

reads_by : (k : KnownInterface) (m : Raw) (values : List Value) (o : Option Row) → row_at m.opcode (table false k) ≡ o → row_args o m ≡ Some values → ReadsAs k m values
unfolding row_args whole
reads_by k m values None h a = absurd (none_some values a)
reads_by k m values (Some row) h a =
    let w = whole_left (all_at row.kinds (body_of m)) values a in
    let same : w.0 ≡ values = some_is w.0 values (let t : eqb (length w.1.0.bytes) 0 ≡ true = w.1.1.1 in sym (ap whole w.1.1.0 ∙ rw t refl) ∙ a) in
    let is : all_at row.kinds (body_of m) ≡ Ok (values, w.1.0) = w.1.1.0 ∙ ap (λ (xs : List Value). Ok (xs, w.1.0)) same in
    record {
      row = row;
      is_row = h;
      rest = w.1.0;
      reads = is;
      nothing_left = w.1.1.1;
      held = subst (AreHeld row.kinds) is (all_held row.kinds (body_of m));
    }

pub reads_as : (k : KnownInterface) (m : Raw) (values : List Value) → request_args k m ≡ Some values → ReadsAs k m values
unfolding request_args
reads_as k m values h = reads_by k m values (row_at m.opcode (table false k)) refl h
