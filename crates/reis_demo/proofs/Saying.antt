-- What is appended to some bytes, message by message.
use Rattle.std.proofs.Common.{◌≡◌, ℕ, suc, ◌+◌, ◌-◌, ◌/◌, ◌%◌, ◌<◌, ◌≤◌, true, false, List, [], ◌∷◌, ◌++◌, refl, sym, ap, ◌∙◌, arith, append_assoc}
use Rattle.std.proofs.lemmas.List.{append-nil}
use Rattle.std.proofs.lemmas.Grind.{flat_map-append}
use Rattle.ei_spec.specs.Value.{Word}
use Rattle.std.specs.Int.{w32, w64, to_le_bytes}
use Rattle.ei_spec.specs.Message.{Raw, message, header, bytes_of, all_bytes}
use Rattle.ei_session.specs.Worked.{device_id}
use Rattle.ei_session.specs.WorkedWhole.{pointer_id, keyboard_id, scroll_id}
use Rattle.reis_demo.specs.Generated.{button_id, chooser, drawn, drawn_state, after_draws, drawn_input, drawn_inputs, frame_at, group_size}
use Rattle.reis_demo.specs.Generated.{drawn_group, after_group, groups_from, disconnect_message}
use Rattle.reis_demo.specs.Generated.{introduction, objects_announced, capabilities_announced, finish_message, begins_to_send, opening}
use Rattle.reis_demo.specs.Generated.{generated_messages, generated_bytes}
use Rattle.reis_demo.specs.Script.{unsaid}
use Rattle.reis_demo.specs.declared.script.Script.{Script}

-- ---- the opening

-- its parts, one after another
pub opening_parts : all_bytes opening ≡ all_bytes introduction ++ (all_bytes (objects_announced ++ capabilities_announced) ++ all_bytes (finish_message ∷ begins_to_send))
unfolding opening
opening_parts =
    flat_map-append bytes_of introduction (objects_announced ++ (capabilities_announced ++ (finish_message ∷ begins_to_send)))
    ∙ ap (λ (m : List Raw). all_bytes introduction ++ all_bytes m) (sym (append_assoc objects_announced capabilities_announced (finish_message ∷ begins_to_send)))
    ∙ ap (λ (x : List ℕ). all_bytes introduction ++ x) (flat_map-append bytes_of (objects_announced ++ capabilities_announced) (finish_message ∷ begins_to_send))

-- they are said
pub opening_said : (a b c d : List ℕ) → a ≡ [] → b ≡ a ++ all_bytes introduction → c ≡ b ++ all_bytes (objects_announced ++ capabilities_announced) →
    d ≡ c ++ all_bytes (finish_message ∷ begins_to_send) → d ≡ all_bytes opening
opening_said a b c d none first second last =
    let i = all_bytes introduction in
    let o = all_bytes (objects_announced ++ capabilities_announced) in
    let l = all_bytes (finish_message ∷ begins_to_send) in
    let to_b : b ≡ i = first ∙ ap (λ (x : List ℕ). x ++ i) none in
    let to_c : c ≡ i ++ o = second ∙ ap (λ (x : List ℕ). x ++ o) to_b in
    last
    ∙ ap (λ (x : List ℕ). x ++ l) to_c
    ∙ append_assoc i o l
    ∙ sym opening_parts

-- one message behind others
pub more_said : (a b c : List ℕ) (m : Raw) (ms : List Raw) → b ≡ a ++ bytes_of m → c ≡ b ++ all_bytes ms → c ≡ a ++ all_bytes (m ∷ ms)
more_said a b c m ms e f = f ∙ ap (λ (x : List ℕ). x ++ all_bytes ms) e ∙ append_assoc a (bytes_of m) (all_bytes ms)

pub one_said : (b c : List ℕ) (m : Raw) → c ≡ b ++ bytes_of m → c ≡ b ++ all_bytes (m ∷ [])
one_said b c m e = e ∙ ap (λ (x : List ℕ). b ++ x) (sym (append-nil (bytes_of m)))

-- ---- inputs

pub motion_is : (x : ℕ) → (x / 65536) % 4 ≡ 0 → message pointer_id 1 (Word x ∷ Word x ∷ []) ≡ drawn_input (chooser x % 4) x
unfolding drawn_input chooser
motion_is x h = rw h refl

pub button_is : (x s : ℕ) → (x / 65536) % 4 ≡ 1 → s ≡ drawn_state x → message button_id 1 (Word 272 ∷ Word s ∷ []) ≡ drawn_input (chooser x % 4) x
unfolding drawn_input chooser
button_is x s h e = rw (h, e) refl

pub key_is : (x s : ℕ) → (x / 65536) % 4 ≡ 2 → s ≡ drawn_state x → message keyboard_id 1 (Word 30 ∷ Word s ∷ []) ≡ drawn_input (chooser x % 4) x
unfolding drawn_input chooser
key_is x s h e = rw (h, e) refl

pub scroll_is : (x n : ℕ) → (x / 65536) % 4 ≡ 3 → n ≡ 4294967176 → message scroll_id 2 (Word 120 ∷ Word n ∷ []) ≡ drawn_input (chooser x % 4) x
unfolding drawn_input chooser
scroll_is x n h e = rw (h, e) refl

-- the draws that are left after one more
pub next_draw : (count i x y : ℕ) → i < count → y ≡ drawn x → after_draws (count - (i + 1)) y ≡ after_draws (count - i) x
next_draw count i x y lt e =
    let more : count - i ≡ suc (count - (i + 1)) = omega arith in
    ap (after_draws (count - (i + 1))) e ∙ sym (ap (λ (n : ℕ). after_draws n x) more)

pub last_draw : (count i x : ℕ) → count ≤ i → after_draws (count - i) x ≡ x
last_draw count i x le = let none : count - i ≡ 0 = omega arith in ap (λ (n : ℕ). after_draws n x) none

-- and the inputs
pub next_input : (count i x y : ℕ) (items new : List ℕ) → i < count → y ≡ drawn x → new ≡ items ++ bytes_of (drawn_input (chooser y % 4) y) →
    new ++ all_bytes (drawn_inputs (count - (i + 1)) y) ≡ items ++ all_bytes (drawn_inputs (count - i) x)
unfolding drawn_inputs
next_input count i x y items new lt e said =
    let k = count - (i + 1) in
    let more : count - i ≡ suc k = omega arith in
    ap (λ (z : List ℕ). z ++ all_bytes (drawn_inputs k y)) said
    ∙ append_assoc items (bytes_of (drawn_input (chooser y % 4) y)) (all_bytes (drawn_inputs k y))
    ∙ ap (λ (z : ℕ). items ++ (bytes_of (drawn_input (chooser z % 4) z) ++ all_bytes (drawn_inputs k z))) e
    ∙ sym (ap (λ (n : ℕ). items ++ all_bytes (drawn_inputs n x)) more)

pub last_input : (count i x : ℕ) (items : List ℕ) → count ≤ i → items ++ all_bytes (drawn_inputs (count - i) x) ≡ items
unfolding drawn_inputs
last_input count i x items le = let none : count - i ≡ 0 = omega arith in ap (λ (n : ℕ). items ++ all_bytes (drawn_inputs n x)) none ∙ append-nil items

-- a frame, by its three parts
pub frame_said : (a b c d w l : List ℕ) (time : ℕ) → w ≡ to_le_bytes w32 2 → l ≡ to_le_bytes w64 time → b ≡ a ++ header device_id 28 3 → c ≡ b ++ w → d ≡ c ++ l →
    d ≡ a ++ bytes_of (frame_at time)
unfolding bytes_of frame_at
frame_said a b c d w l time ew el first second third =
    third
    ∙ ap (λ (x : List ℕ). x ++ l) (second ∙ ap (λ (x : List ℕ). x ++ w) first)
    ∙ append_assoc (a ++ header device_id 28 3) w l
    ∙ append_assoc a (header device_id 28 3) (w ++ l)
    ∙ ap (λ (x : List ℕ). a ++ (header device_id 28 3 ++ (x ++ l))) ew
    ∙ ap (λ (x : List ℕ). a ++ (header device_id 28 3 ++ (to_le_bytes w32 2 ++ x))) (el ∙ sym (append-nil (to_le_bytes w64 time)))

-- ---- groups

pub group_said : (items inputs new : List ℕ) (time x y size : ℕ) → y ≡ drawn x → size ≡ group_size y → inputs ≡ items ++ all_bytes (drawn_inputs size y) →
    new ≡ inputs ++ bytes_of (frame_at time) → new ≡ items ++ all_bytes (drawn_group time x)
unfolding drawn_group
group_said items inputs new time x y size e s said framed =
    framed
    ∙ ap (λ (z : List ℕ). z ++ bytes_of (frame_at time)) said
    ∙ append_assoc items (all_bytes (drawn_inputs size y)) (bytes_of (frame_at time))
    ∙ ap (λ (n : ℕ). items ++ (all_bytes (drawn_inputs n y) ++ bytes_of (frame_at time))) s
    ∙ ap (λ (z : ℕ). items ++ (all_bytes (drawn_inputs (group_size z) z) ++ bytes_of (frame_at time))) e
    ∙ ap (λ (z : List ℕ). items ++ (all_bytes (drawn_inputs (group_size (drawn x)) (drawn x)) ++ z)) (sym (append-nil (bytes_of (frame_at time))))
    ∙ ap (λ (z : List ℕ). items ++ z) (sym (flat_map-append bytes_of (drawn_inputs (group_size (drawn x)) (drawn x)) (frame_at time ∷ [])))

-- ---- a script

pub all_said : (s : Script) → s.ended ≡ true → unsaid s ≡ []
unfolding unsaid
all_said s e = rw e refl

pub open_unsaid : (s : Script) → s.ended ≡ false → unsaid s ≡ groups_from s.groups s.time s.number ++ (disconnect_message ∷ [])
unfolding unsaid
open_unsaid s e = rw e refl

pub end_said : (s t : Script) (items new : List ℕ) → s.ended ≡ false → s.groups ≡ 0 → t.ended ≡ true → new ≡ items ++ bytes_of disconnect_message →
    new ++ all_bytes (unsaid t) ≡ items ++ all_bytes (unsaid s)
unfolding groups_from
end_said s t items new e none ended said =
    ap (λ (ms : List Raw). new ++ all_bytes ms) (all_said t ended)
    ∙ append-nil new
    ∙ said
    ∙ ap (λ (z : List ℕ). items ++ z) (sym (append-nil (bytes_of disconnect_message)))
    ∙ sym (ap (λ (ms : List Raw). items ++ all_bytes ms) (open_unsaid s e ∙ ap (λ (n : ℕ). groups_from n s.time s.number ++ (disconnect_message ∷ [])) none))

pub next_said : (s t : Script) (items new : List ℕ) → s.ended ≡ false → 0 < s.groups → t.ended ≡ false → t.groups ≡ s.groups - 1 → t.time ≡ s.time + 1 → t.number ≡ after_group s.number →
    new ≡ items ++ all_bytes (drawn_group s.time s.number) → new ++ all_bytes (unsaid t) ≡ items ++ all_bytes (unsaid s)
unfolding groups_from
next_said s t items new e some still g time number said =
    let more : s.groups ≡ suc (s.groups - 1) = omega arith in
    let rest = groups_from (s.groups - 1) (s.time + 1) (after_group s.number) in
    let left : unsaid t ≡ rest ++ (disconnect_message ∷ []) =
    open_unsaid t still
    ∙ ap (λ (n : ℕ). groups_from n t.time t.number ++ (disconnect_message ∷ [])) g
    ∙ ap (λ (n : ℕ). groups_from (s.groups - 1) n t.number ++ (disconnect_message ∷ [])) time
    ∙ ap (λ (n : ℕ). groups_from (s.groups - 1) (s.time + 1) n ++ (disconnect_message ∷ [])) number in
    let all : unsaid s ≡ drawn_group s.time s.number ++ (rest ++ (disconnect_message ∷ [])) =
    open_unsaid s e
    ∙ ap (λ (n : ℕ). groups_from n s.time s.number ++ (disconnect_message ∷ [])) more
    ∙ append_assoc (drawn_group s.time s.number) rest (disconnect_message ∷ []) in
    ap (λ (ms : List Raw). new ++ all_bytes ms) left
    ∙ ap (λ (z : List ℕ). z ++ all_bytes (rest ++ (disconnect_message ∷ []))) said
    ∙ append_assoc items (all_bytes (drawn_group s.time s.number)) (all_bytes (rest ++ (disconnect_message ∷ [])))
    ∙ ap (λ (z : List ℕ). items ++ z) (sym (flat_map-append bytes_of (drawn_group s.time s.number) (rest ++ (disconnect_message ∷ []))))
    ∙ sym (ap (λ (ms : List Raw). items ++ all_bytes ms) all)

-- a fresh script behind the opening
pub fresh_said : (s : Script) (waits : List ℕ) (groups start : ℕ) → waits ≡ all_bytes opening → unsaid s ≡ groups_from groups 1 start ++ (disconnect_message ∷ []) →
    waits ++ all_bytes (unsaid s) ≡ generated_bytes groups start
unfolding generated_messages
fresh_said s waits groups start w u =
    ap (λ (x : List ℕ). x ++ all_bytes (unsaid s)) w
    ∙ ap (λ (ms : List Raw). all_bytes opening ++ all_bytes ms) u
    ∙ sym (flat_map-append bytes_of opening (groups_from groups 1 start ++ (disconnect_message ∷ [])))
