-- A request to an interface of a device, by its opcode and its arguments: it is the release, or it is an input.
use Rattle.std.proofs.Common.{◌≡◌, ℕ, Bool, true, false, cond, not, ◌&&◌, ◌||◌, eqb, List, [], ◌∷◌, Option, Some, None, refl, sym, ap, ◌∙◌, ◌⊎◌, inl, inr, arith}
use mathlib.Core.Path.{fun_ext}
use Rattle.std.specs.Prelude.{ℤ, is_some, pos, codes}
use Rattle.std.proofs.lemmas.Bool.{eqb-true}
use Rattle.std.proofs.lemmas.Bool.Decides.{nat_tests}
use Rattle.ei_spec.specs.declared.interface.KnownInterface.{KnownInterface}
use Rattle.ei_spec.specs.declared.interface.KnownInterface.TheVariants as known
use Rattle.ei_spec.specs.Value.{Kind, U32, I32, U64, Float, Text, New, Choice, OpenChoice, Value, Word, Long, Signed, Letters, Null}
use Rattle.ei_spec.specs.Rows.{Row, row_at, row_named}
use Rattle.ei_spec.specs.Table.{table}
use Rattle.ei_spec.specs.Message.{Raw}
use Rattle.ei_input.specs.declared.input_event.InputEvent.{InputEvent}
use Rattle.ei_input.specs.Inputs.{input_by}
use Rattle.ei_session.specs.Arguments.{request_args}
use Rattle.ei_session.specs.Asked.{asked, asks}
use Rattle.ei_session.specs.Inputs.{is_of_device, input_to, numbered, input_of}
use Rattle.ei_session.specs.Meaning.{meaning, to_interface}
use Rattle.ei_session.specs.Objects.{is_device}
use Rattle.ei_session.specs.Refusals.{announced_by}
use Rattle.ei_session.specs.Kept.{is_bare}
use Rattle.ei_session.proofs.Choices.{none_some, not_both, and_left, and_right}
use Rattle.ei_spec.proofs.EachInterface.{of_each, of_each_row}
use Rattle.ei_session.proofs.Opcodes.{release_opcode}
use Rattle.ei_session.proofs.AskedRows.{asked_row, asked_other, asked_nothing, unread_asked, are_held_as, is_held_as}

-- ---- tests

nothing_is : {A : Type 0} (o : Option A) → not (is_some o) ≡ true → o ≡ None
nothing_is None h = refl
nothing_is (Some a) h = absurd cc

implied : (a b : Bool) → a ≡ true → (not a || b) ≡ true → b ≡ true
implied true b t h = h
implied false b t h = absurd cc

one_of : (a b : Bool) → (a || b) ≡ true → (a ≡ true) ⊎ (b ≡ true)
one_of true b h = inl refl
one_of false b h = inr h

-- ---- the arguments of the request of a name

numbered_at : (k : KnownInterface) (m : Raw) (values : List Value) (name : List ℕ) (o : Option (ℕ × Row)) → row_named name (table false k) ≡ o → request_args k m ≡ Some values → asked k name m ≡ numbered m.opcode values o
numbered_at k m values name None h a = asked_nothing k name m h
numbered_at k m values name (Some x) h a = by (eqb m.opcode x.0) refl
  where
    by : (b : Bool) → eqb m.opcode x.0 ≡ b → asked k name m ≡ cond b (Some values) None
    by true e = asked_row k name x.0 x.1 m h (eqb-true m.opcode x.0 e) ∙ a
    by false e = asked_other k name x.0 x.1 m h (let no = e in grind (arith, nat_tests))

-- of a message that reads
pub asked_numbered : (k : KnownInterface) (m : Raw) (values : List Value) (name : List ℕ) → request_args k m ≡ Some values → asked k name m ≡ numbered m.opcode values (row_named name (table false k))
asked_numbered k m values name a = numbered_at k m values name (row_named name (table false k)) refl a

-- ---- inputs

pub input_read : (k : KnownInterface) (m : Raw) (values : List Value) → request_args k m ≡ Some values → input_to k m ≡ input_of k m.opcode values
input_read k m values a = ap (input_by k) (fun_ext (λ (name : List ℕ). asked_numbered k m values name a))

pub input_at : (k : KnownInterface) (m : Raw) (n : ℕ) (values : List Value) → m.opcode ≡ n → request_args k m ≡ Some values → input_to k m ≡ input_of k n values
input_at k m n values o a = input_read k m values a ∙ ap (λ (x : ℕ). input_of k x values) o

nothing_called : (k : KnownInterface) → input_by k (λ (name : List ℕ). None) ≡ None
nothing_called k = nothing_is _ (of_each (λ (i : KnownInterface). not (is_some (input_by i (λ (name : List ℕ). None)))) refl k)

pub input_unread : (k : KnownInterface) (m : Raw) → request_args k m ≡ None → input_to k m ≡ None
input_unread k m u = ap (input_by k) (fun_ext (λ (name : List ℕ). unread_asked k name m u)) ∙ nothing_called k

-- no request of opcode 0 is an input
pub no_first_input : (k : KnownInterface) (values : List Value) → input_of k 0 values ≡ None
no_first_input k values = nothing_is _ (of_each (λ (i : KnownInterface). not (is_some (input_of i 0 values))) refl k)

pub later_input : (k : KnownInterface) (n : ℕ) (values : List Value) (i : InputEvent) → input_of k n values ≡ Some i → eqb n 0 ≡ false
later_input k n values i h = by (eqb n 0) refl
  where
    by : (b : Bool) → eqb n 0 ≡ b → b ≡ false
    by true e = absurd (none_some i (sym (ap (λ (x : ℕ). input_of k x values) (eqb-true n 0 e) ∙ no_first_input k values) ∙ h))
    by false e = refl

-- an input is asked of an interface of a device
pub input_of_device : (k : KnownInterface) (n : ℕ) (values : List Value) (i : InputEvent) → input_of k n values ≡ Some i → is_of_device k ≡ true
input_of_device k n values i h = by (is_of_device k) (input_of k n values) h (of_each (λ (x : KnownInterface). is_of_device x || not (is_some (input_of x n values))) refl k)
  where
    by : (b : Bool) (o : Option InputEvent) → o ≡ Some i → (b || not (is_some o)) ≡ true → b ≡ true
    by true o e t = refl
    by false (Some x) e t = absurd cc
    by false None e t = absurd (none_some i e)

pub no_input : (m : Raw) → m.opcode ≡ 0 → (k : KnownInterface) → input_to k m ≡ None
no_input m o k = by (request_args k m) refl
  where
    by : (r : Option (List Value)) → request_args k m ≡ r → input_to k m ≡ None
    by None a = input_unread k m a
    by (Some values) a = input_at k m 0 values o a ∙ no_first_input k values

-- ---- the release

released_row : (k : KnownInterface) (values : List Value) → is_of_device k ≡ true → numbered 0 values (row_named (codes "release") (table false k)) ≡ Some values
released_row k values d = by (row_named (codes "release") (table false k)) (implied (is_of_device k) _ d (of_each (λ (i : KnownInterface). not (is_of_device i) || is_some (numbered 0 values (row_named (codes "release") (table false i)))) refl k))
  where
    at : (b : Bool) → is_some (cond b (Some values) None) ≡ true → cond b (Some values) None ≡ Some values
    at true t = refl
    at false t = absurd cc

    by : (o : Option (ℕ × Row)) → is_some (numbered 0 values o) ≡ true → numbered 0 values o ≡ Some values
    by None t = absurd cc
    by (Some x) t = at (eqb 0 x.0) t

pub asked_release : (k : KnownInterface) (m : Raw) (values : List Value) → is_of_device k ≡ true → m.opcode ≡ 0 → request_args k m ≡ Some values → asked k (codes "release") m ≡ Some values
asked_release k m values d o a = asked_numbered k m values (codes "release") a ∙ ap (λ (n : ℕ). numbered n values (row_named (codes "release") (table false k))) o ∙ released_row k values d

pub no_release : (k : KnownInterface) (m : Raw) (n : ℕ) → m.opcode ≡ n → eqb n 0 ≡ false → asked k (codes "release") m ≡ None
unfolding asks
no_release k m n o f = by (asked k (codes "release") m) refl
  where
    by : (r : Option (List Value)) → asked k (codes "release") m ≡ r → asked k (codes "release") m ≡ None
    by None e = e
    by (Some args) e = let zero_is : m.opcode ≡ 0 = release_opcode k m (ap is_some e) in absurd (not_both (eqb n 0) (let same = sym o ∙ zero_is in grind (arith, nat_tests)) f)

-- ---- what is asked of an interface of a device

pub means_to_interface : (k : KnownInterface) (m : Raw) → is_of_device k ≡ true → meaning k m ≡ to_interface k m
unfolding meaning
means_to_interface known.Handshake m d = absurd cc
means_to_interface known.Connection m d = absurd cc
means_to_interface known.Callback m d = absurd cc
means_to_interface known.Pingpong m d = absurd cc
means_to_interface known.Seat m d = absurd cc
means_to_interface known.Device m d = absurd cc
means_to_interface k m d = refl

-- it is no device, and one that a device can have
pub of_device_is : (k : KnownInterface) → is_of_device k ≡ true → (is_device k ≡ false) × (is_bare k ≡ false)
of_device_is k d = (by (is_device k) (implied (is_of_device k) _ d (of_each (λ (i : KnownInterface). not (is_of_device i) || not (is_device i)) refl k)), by (is_bare k) (implied (is_of_device k) _ d (of_each (λ (i : KnownInterface). not (is_of_device i) || not (is_bare i)) refl k)))
  where
    by : (b : Bool) → not b ≡ true → b ≡ false
    by true t = absurd cc
    by false t = refl

-- it announces nothing
pub announces_nothing : (k : KnownInterface) (n : ℕ) (r : Row) (values : List Value) → is_of_device k ≡ true → row_at n (table false k) ≡ Some r → announced_by r.announces values r ≡ None
announces_nothing k n r values d row = nothing_is _ (implied (is_of_device k) _ d (of_each_row (λ (i : KnownInterface) (j : ℕ) (x : Row). not (is_of_device i) || not (is_some (announced_by x.announces values x))) false refl k n r row))

-- ---- rows by their kinds

word_in : List Value → ℕ
word_in (Word n ∷ vs) = n
word_in vs = 0

long_in : List Value → ℕ
long_in (Long n ∷ vs) = n
long_in vs = 0

signed_in : List Value → ℤ
signed_in (Signed z ∷ vs) = z
signed_in vs = pos 0

letters_in : List Value → List ℕ
letters_in (Letters t ∷ vs) = t
letters_in vs = []

value_in : List Value → Value
value_in (v ∷ vs) = v
value_in [] = Null

others : List Value → List Value
others (v ∷ vs) = vs
others [] = []

-- the first value, as one of the kind is held
abbrev held_as : Kind → List Value → Value
held_as U32 vs = Word (word_in vs)
held_as I32 vs = Signed (signed_in vs)
held_as U64 vs = Long (long_in vs)
held_as Float vs = Word (word_in vs)
held_as Text vs = Letters (letters_in vs)
held_as New vs = Long (long_in vs)
held_as (Choice name values) vs = Word (word_in vs)
held_as OpenChoice vs = Word (word_in vs)
held_as kind vs = value_in vs

-- the values, as those of the kinds are held
abbrev all_held_as : List Kind → List Value → List Value
all_held_as [] vs = []
all_held_as (k ∷ ks) vs = held_as k vs ∷ all_held_as ks (others vs)

held_same : (k : Kind) (v : Value) (vs : List Value) → is_held_as k v ≡ true → held_as k (v ∷ vs) ≡ v
unfolding word_in signed_in long_in value_in letters_in
held_same U32 (Word n) vs h = refl
held_same I32 (Signed z) vs h = refl
held_same U64 (Long n) vs h = refl
held_same Float (Word n) vs h = refl
held_same Text (Letters t) vs h = refl
held_same New (Long n) vs h = refl
held_same (Choice name values) (Word n) vs h = refl
held_same OpenChoice (Word n) vs h = refl
held_same U32 v vs h = absurd cc
held_same I32 v vs h = absurd cc
held_same U64 v vs h = absurd cc
held_same Float v vs h = absurd cc
held_same Text v vs h = absurd cc
held_same New v vs h = absurd cc
held_same (Choice name values) v vs h = absurd cc
held_same OpenChoice v vs h = absurd cc
held_same k v vs h = refl

all_held_same : (ks : List Kind) (vs : List Value) → are_held_as ks vs ≡ true → all_held_as ks vs ≡ vs
unfolding others
all_held_same [] [] h = refl
all_held_same [] (v ∷ vs) h = absurd cc
all_held_same (k ∷ ks) [] h = absurd cc
all_held_same (k ∷ ks) (v ∷ vs) h = rw (held_same k v vs (and_left (is_held_as k v) (are_held_as ks vs) h), all_held_same ks vs (and_right (is_held_as k v) (are_held_as ks vs) h)) refl

abbrev is_bare_row : Row → Bool
is_bare_row r = elim r.kinds [ [] ↦ true | _ ∷ _ ↦ false ]

-- whether a row of an interface of a device is of the release, or of an input
abbrev asks_so : List Value → KnownInterface → ℕ → Row → Bool
asks_so vs k n r = not (is_of_device k) || ((eqb n 0 && is_bare_row r) || is_some (input_of k n (all_held_as r.kinds vs)))

-- of such an interface, a request that reads is the release, or an input
pub data AsksSo (k : KnownInterface) (n : ℕ) (vs : List Value) : Type 0 where
  OfRelease : n ≡ 0 → vs ≡ [] → AsksSo k n vs
  OfInput : (i : InputEvent) → input_of k n vs ≡ Some i → AsksSo k n vs

pub asks_one : (k : KnownInterface) (n : ℕ) (r : Row) (vs : List Value) → is_of_device k ≡ true → row_at n (table false k) ≡ Some r → are_held_as r.kinds vs ≡ true → AsksSo k n vs
asks_one k n r vs d row h =
    elim (one_of _ _ (implied (is_of_device k) _ d (of_each_row (asks_so vs) false refl k n r row))) [
      | inl a ↦ OfRelease (eqb-true n 0 (and_left _ _ a)) (empty r.kinds vs (and_right _ _ a) h)
      | inr b ↦ input (input_of k n (all_held_as r.kinds vs)) b (sym (ap (input_of k n) (all_held_same r.kinds vs h)))
    ]
  where
    empty : (ks : List Kind) (vs : List Value) → elim ks [ [] ↦ true | _ ∷ _ ↦ false ] ≡ true → are_held_as ks vs ≡ true → vs ≡ []
    empty [] [] t g = refl
    empty [] (v ∷ vs) t g = absurd cc
    empty (x ∷ xs) vs t g = absurd cc

    input : (o : Option InputEvent) → is_some o ≡ true → input_of k n vs ≡ o → AsksSo k n vs
    input None t e = absurd cc
    input (Some i) t e = OfInput i e
