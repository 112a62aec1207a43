-- The message of an item is plain and short.
use Rattle.std.proofs.Common.{◌≡◌, ℕ, ◌+◌, ◌<◌, ◌≤◌, ◌^◌, Bool, true, false, ltb, eqb, List, [], ◌∷◌, ◌++◌, length, refl, arith}
use Rattle.std.specs.Prelude.{◌||◌, replicate}
use Rattle.std.specs.Int.{w32, to_le_bytes}
use Rattle.std.proofs.lemmas.Bool.Decides.{nat_tests}
use Rattle.std.proofs.lemmas.List.{length-append, length-replicate}
use Rattle.ei_spec.specs.Value.{Letters, padding, text_bytes}
use Rattle.ei_spec.specs.Message.{IsLawful, message, size}
use Rattle.ei_spec.specs.declared.limits.TheConstants.{MOST_MESSAGE_BYTES}
use Rattle.ei_session.specs.Arguments.{opcode_of}
use Rattle.ei_spec.specs.Groups.{Timed, Framed, Plain as Given}
use Rattle.ei_input.specs.declared.input_event.InputEvent.{InputEvent}
use Rattle.ei_input.specs.declared.input_event.InputEvent.TheVariants as input_event
use Rattle.ei_session.specs.Requests.{Request, Bind, RequestDevice, Ready, DeviceClosed, DeviceStartEmulating, DeviceStopEmulating, Disconnect}
use Rattle.ei_session.proofs.ReadBack.{ArePlain}
use Rattle.ei_record.specs.Replayable.{writes_badly}
use Rattle.ei_playing.specs.Playing.{values_for, call_to, call_of, row_of, message_of, played}
use Rattle.ei_playing.proofs.Asking.{IsShort}

-- ---- texts

second_no : (a b : Bool) → (a || b) ≡ false → b ≡ false
second_no true b e = absurd cc
second_no false b e = e

at_most : (a b : ℕ) → ltb a b ≡ false → b ≤ a
at_most a b e = grind (arith, nat_tests, e)

letters_short : (t : List ℕ) → writes_badly (input_event.TextUtf8 t) ≡ false → length t ≤ 254
letters_short t e = at_most 254 (length t) (second_no (eqb (length t) 0) (ltb 254 (length t)) e)

spelled : (t : List ℕ) → writes_badly (input_event.TextUtf8 t) ≡ false → length t ≤ 4294967294
spelled t e = let s = letters_short t e in omega (arith, s)

input_plain : (i : InputEvent) → writes_badly i ≡ false → ArePlain (values_for i)
input_plain (input_event.PointerMotion dx dy) s = (tt, (tt, tt))
input_plain (input_event.PointerMotionAbsolute dx dy) s = (tt, (tt, tt))
input_plain (input_event.Button button state) s = (tt, (tt, tt))
input_plain (input_event.ScrollDelta dx dy) s = (tt, (tt, tt))
input_plain (input_event.ScrollStop x y) s = (tt, (tt, (tt, tt)))
input_plain (input_event.ScrollCancel x y) s = (tt, (tt, (tt, tt)))
input_plain (input_event.ScrollDiscrete dx dy) s = (tt, (tt, tt))
input_plain (input_event.KeyboardKey key state) s = (tt, (tt, tt))
input_plain (input_event.TouchDown touch x y) s = (tt, (tt, (tt, tt)))
input_plain (input_event.TouchMotion touch x y) s = (tt, (tt, (tt, tt)))
input_plain (input_event.TouchUp touch) s = (tt, tt)
input_plain (input_event.TouchCancel touch) s = (tt, tt)
input_plain (input_event.TextKeysym keysym state) s = (tt, (tt, tt))
input_plain (input_event.TextUtf8 letters) s = (spelled letters s, tt)
input_plain (input_event.GestureSwipe fingers dx dy) s = (tt, (tt, (tt, tt)))
input_plain (input_event.GesturePinch scale) s = (tt, tt)

pub item_plain : (before : List Request) (item : Request) → IsShort item → ArePlain (call_of before item).values
item_plain before (Timed device input time) s = input_plain input s
item_plain before (Framed device serial time) s = (tt, (tt, tt))
item_plain before (Given (Bind seat mask)) s = (tt, tt)
item_plain before (Given (RequestDevice seat mask)) s = (tt, tt)
item_plain before (Given (Ready device)) s = tt
item_plain before (Given (DeviceClosed device)) s = tt
item_plain before (Given (DeviceStartEmulating device serial sequence)) s = (tt, (tt, tt))
item_plain before (Given (DeviceStopEmulating device serial)) s = (tt, tt)
item_plain before (Given Disconnect) s = tt

-- ---- bytes

le4_length : (n : ℕ) → length (to_le_bytes w32 n) ≡ 4
le4_length n = refl

replicate_length : (n : ℕ) → length (replicate {A = ℕ} n 0) ≡ n
replicate_length n = length-replicate {A = ℕ} n 0

padding_fits : (n : ℕ) → n ≤ 255 → n + padding n ≤ 259
padding_fits n le = omega (arith, le)

text_fits : (id opcode : ℕ) (t : List ℕ) → length t ≤ 254 → size (message id opcode (Letters t ∷ [])) ≤ 300
text_fits id opcode t le =
    let n : ℕ = length t + 1 in
    let pads = padding_fits n (omega (arith, le)) in
    let zeros = replicate_length (1 + padding n) in
    omega (arith, pads, zeros, le, length-append (text_bytes t) [], length-append (to_le_bytes w32 n ++ t) (replicate (1 + padding n) 0), length-append (to_le_bytes w32 n) t, le4_length n)

input_fits : (id opcode : ℕ) (i : InputEvent) → writes_badly i ≡ false → size (message id opcode (values_for i)) ≤ 300
input_fits id opcode (input_event.PointerMotion dx dy) s = omega arith
input_fits id opcode (input_event.PointerMotionAbsolute dx dy) s = omega arith
input_fits id opcode (input_event.Button button state) s = omega arith
input_fits id opcode (input_event.ScrollDelta dx dy) s = omega arith
input_fits id opcode (input_event.ScrollStop x y) s = omega arith
input_fits id opcode (input_event.ScrollCancel x y) s = omega arith
input_fits id opcode (input_event.ScrollDiscrete dx dy) s = omega arith
input_fits id opcode (input_event.KeyboardKey key state) s = omega arith
input_fits id opcode (input_event.TouchDown touch x y) s = omega arith
input_fits id opcode (input_event.TouchMotion touch x y) s = omega arith
input_fits id opcode (input_event.TouchUp touch) s = omega arith
input_fits id opcode (input_event.TouchCancel touch) s = omega arith
input_fits id opcode (input_event.TextKeysym keysym state) s = omega arith
input_fits id opcode (input_event.TextUtf8 letters) s = text_fits id opcode letters (letters_short letters s)
input_fits id opcode (input_event.GestureSwipe fingers dx dy) s = omega arith
input_fits id opcode (input_event.GesturePinch scale) s = omega arith

input_opcode : (i : InputEvent) → opcode_of (row_of (call_to 0 (Timed 0 i 0))) ≤ 4
input_opcode (input_event.PointerMotion dx dy) = omega arith
input_opcode (input_event.PointerMotionAbsolute dx dy) = omega arith
input_opcode (input_event.Button button state) = omega arith
input_opcode (input_event.ScrollDelta dx dy) = omega arith
input_opcode (input_event.ScrollStop x y) = omega arith
input_opcode (input_event.ScrollCancel x y) = omega arith
input_opcode (input_event.ScrollDiscrete dx dy) = omega arith
input_opcode (input_event.KeyboardKey key state) = omega arith
input_opcode (input_event.TouchDown touch x y) = omega arith
input_opcode (input_event.TouchMotion touch x y) = omega arith
input_opcode (input_event.TouchUp touch) = omega arith
input_opcode (input_event.TouchCancel touch) = omega arith
input_opcode (input_event.TextKeysym keysym state) = omega arith
input_opcode (input_event.TextUtf8 letters) = omega arith
input_opcode (input_event.GestureSwipe fingers dx dy) = omega arith
input_opcode (input_event.GesturePinch scale) = omega arith

low : (n : ℕ) → n ≤ 4 → n < 2 ^ 32
low n le = omega (arith, le)

-- the message of an item is short, and lawful
short_as : (before : List Request) (item : Request) → IsShort item → size (message_of (call_of before item)) ≤ 300
short_as before (Timed device input time) s = input_fits 0 0 input s
short_as before (Framed device serial time) s = omega arith
short_as before (Given (Bind seat mask)) s = omega arith
short_as before (Given (RequestDevice seat mask)) s = omega arith
short_as before (Given (Ready device)) s = omega arith
short_as before (Given (DeviceClosed device)) s = omega arith
short_as before (Given (DeviceStartEmulating device serial sequence)) s = omega arith
short_as before (Given (DeviceStopEmulating device serial)) s = omega arith
short_as before (Given Disconnect) s = omega arith

opcode_as : (before : List Request) (item : Request) → (message_of (call_of before item)).opcode ≤ 4
opcode_as before (Timed device input time) = input_opcode input
opcode_as before (Framed device serial time) = omega arith
opcode_as before (Given (Bind seat mask)) = omega arith
opcode_as before (Given (RequestDevice seat mask)) = omega arith
opcode_as before (Given (Ready device)) = omega arith
opcode_as before (Given (DeviceClosed device)) = omega arith
opcode_as before (Given (DeviceStartEmulating device serial sequence)) = omega arith
opcode_as before (Given (DeviceStopEmulating device serial)) = omega arith
opcode_as before (Given Disconnect) = omega arith

pub played_short : (before : List Request) (item : Request) → IsShort item → size (played before item) ≤ 300
unfolding played
played_short before item s = short_as before item s

pub played_lawful : (before : List Request) (item : Request) → IsShort item → (played before item).id < 2 ^ 64 → IsLawful (played before item)
unfolding played
played_lawful before item s h = record {
  id = h;
  opcode = low _ (opcode_as before item);
  size = let few = short_as before item s in omega (arith, few);
}
