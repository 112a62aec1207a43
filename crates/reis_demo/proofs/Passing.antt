-- The messages of the generated stream pass: none is refused, and the objects that they go to stay. Those of the groups are
-- inputs of the one device, and its frames.
use Rattle.std.proofs.Common.{◌≡◌, ℕ, zero, suc, ◌+◌, ◌%◌, ◌^◌, ◌<◌, ◌≤◌, true, false, List, [], ◌∷◌, ◌++◌, length, Option, Some, None, refl, ap, ◌∙◌, arith}
use Rattle.std.proofs.Common.{append_assoc}
use Rattle.std.specs.Prelude.{pos, negsuc, nat_eq, codes}
use Rattle.std.specs.List.{list_any}
use Rattle.ei_spec.specs.declared.interface.KnownInterface.{KnownInterface}
use Rattle.ei_spec.specs.declared.interface.KnownInterface.TheVariants as known
use Rattle.ei_spec.specs.Value.{Word, Long, Signed, written}
use Rattle.ei_spec.specs.Message.{Raw, IsLawful, bytes_of, all_bytes}
use Rattle.ei_spec.specs.Stream.{Accepted, Final, Waiting, Reading, reading, read, go_on}
use Rattle.ei_spec.specs.Table.{motion_relative, button, key, scroll_discrete, frame}
use Rattle.ei_spec.specs.Groups.{Input as WaitingItem, Frame as FrameItem, Free}
use Rattle.ei_spec.proofs.FrontLaws.{front_again}
use Rattle.ei_spec.proofs.GoesOn as goes_on
use Rattle.ei_input.specs.declared.input_event.InputEvent.TheVariants as input_event
use Rattle.ei_input.specs.Inputs.{floats, button_of, key_of}
use Rattle.ei_session.specs.Setup.{connection_id}
use Rattle.ei_session.specs.Worked.{device_id}
use Rattle.ei_session.specs.WorkedWhole.{pointer_id, keyboard_id, scroll_id}
use Rattle.ei_session.specs.Arguments.{request_args}
use Rattle.ei_session.specs.Asked.{asked, asks}
use Rattle.ei_session.specs.Handshake.{connected}
use Rattle.ei_session.specs.Devices.{exhausts}
use Rattle.ei_session.specs.Objects.{Entry, object}
use Rattle.ei_session.specs.Refusals.{judge}
use Rattle.ei_session.specs.Requests.{Asking, Disconnect as DisconnectRequest, item}
use Rattle.ei_session.specs.Meaning.{Meaning, Inputs, Frames, Disconnects, meaning, Input, Frame, Disconnect}
use Rattle.ei_session.specs.ByMeaning.{refusal_for, disconnects, mask_in, item_for}
use Rattle.ei_session.proofs.AllOpen.{all_open}
use Rattle.ei_session.proofs.FirstObjects.{object_connection, the_connection}
use Rattle.ei_session.proofs.ItemMeans.{item_asked}
use Rattle.ei_session.proofs.JudgedMeans.{judge_asked, exhausts_asked}
use Rattle.ei_session.proofs.KeptByRequests.{plainly_device, stays_connected}
use Rattle.ei_session.proofs.ReadBack.{reads_back}
use Rattle.ei_session.proofs.RowsMean.{asks_means}
use Rattle.reis_demo.specs.Generated.{demo_setup, requested, button_id, chooser, drawn, drawn_state, drawn_input, drawn_inputs, frame_at, group_size}
use Rattle.reis_demo.specs.Generated.{drawn_group, after_group, groups_from, disconnect_message, opening}
use Rattle.reis_demo.specs.Generated.{introduction, announcement, objects_announced, capabilities_announced, finish_message, begins_to_send}

-- ---- the objects that the client sends to

abbrev part : KnownInterface → Entry
part interface = record { interface = interface; version = 1; device = Some device_id }

abbrev the_device : Entry
the_device = record { interface = known.Device; version = 3; device = Some device_id }

-- they are there
pub record IsReady (past : List Raw) : Type 0 where
  pub on : connected past ≡ true
  pub pointer : object past pointer_id ≡ Some (part known.Pointer)
  pub button_there : object past button_id ≡ Some (part known.Button)
  pub keyboard : object past keyboard_id ≡ Some (part known.Keyboard)
  pub scroll : object past scroll_id ≡ Some (part known.Scroll)
  pub device : object past device_id ≡ Some the_device

-- an input of the device, or a frame of it
abbrev pub IsOfGroup : Option Asking → Type 0
IsOfGroup (Some (WaitingItem d x)) = d ≡ device_id
IsOfGroup (Some (FrameItem d serial time)) = d ≡ device_id
IsOfGroup asking = ⊥

-- the message is accepted, gives such an item, and they stay
pub record Passes (past : List Raw) (m : Raw) : Type 0 where
  pub lawful : IsLawful m
  pub accepted : judge demo_setup past m ≡ Accepted
  pub of_group : IsOfGroup (item past m)
  pub ready : IsReady (m ∷ past)

-- what is told of a message that passes
record Harmless (past : List Raw) (m : Raw) (e : Entry) (x : Meaning) : Type 0 where
  there : object past m.id ≡ Some e
  means : meaning e.interface m ≡ Some x
  allowed : refusal_for demo_setup past e x ≡ None
  goes_on : disconnects (Some x) ≡ false
  makes_nothing : mask_in (Some x) ≡ None
  releases_nothing : asks e.interface (codes "release") m ≡ false
  gives_one : IsOfGroup (item_for past m.id (Some device_id) (Some x))

passes_by : (past : List Raw) (m : Raw) (e : Entry) (x : Meaning) → IsReady past → IsLawful m → e.device ≡ Some device_id → Harmless past m e x → Passes past m
passes_by past m e x r lawful of_device h =
    let no_end : exhausts past m ≡ false = exhausts_asked past m e r.on h.there ∙ rw (h.means, h.makes_nothing) refl in
    let keeps = (plainly_device demo_setup past m e device_id h.there of_device h.releases_nothing).keeps in
    record {
      lawful = lawful;
      accepted = judge_asked demo_setup past m e x r.on h.there h.means ∙ rw (h.allowed, h.goes_on, no_end) refl;
      of_group = rw (item_asked past m e h.there, of_device, h.means) h.gives_one;
      ready = record {
        on = stays_connected past m r.on;
        pointer = keeps.same_objects pointer_id ∙ r.pointer;
        button_there = keeps.same_objects button_id ∙ r.button_there;
        keyboard = keeps.same_objects keyboard_id ∙ r.keyboard;
        scroll = keeps.same_objects scroll_id ∙ r.scroll;
        device = keeps.same_objects device_id ∙ r.device;
      };
    }

-- ---- the messages of groups

two_words : (a b : ℕ) → length (written (Word a) ++ (written (Word b) ++ [])) ≡ 8
two_words a b = refl

word_and_long : (a b : ℕ) → length (written (Word a) ++ (written (Long b) ++ [])) ≡ 12
word_and_long a b = refl

two_states : (s : ℕ) → s < 2 → list_any (nat_eq s) (0 ∷ 1 ∷ []) ≡ true
two_states zero h = refl
two_states (suc zero) h = refl
two_states (suc (suc s)) h = absurd (omega arith)

motion_passes : (past : List Raw) (x : ℕ) → x < 2 ^ 32 → IsReady past → Passes past (requested known.Pointer (codes "motion_relative") pointer_id (Word x ∷ Word x ∷ []))
unfolding request_args asks asked
motion_passes past x small r =
    let m = requested known.Pointer (codes "motion_relative") pointer_id (Word x ∷ Word x ∷ []) in
    let args : request_args known.Pointer m ≡ Some (Word x ∷ Word x ∷ []) = reads_back motion_relative pointer_id 1 (Word x ∷ Word x ∷ []) (small, (small, tt)) (tt, (tt, tt)) in
    passes_by past m (part known.Pointer) (Inputs (floats input_event.PointerMotion x x)) r (record { id = omega arith; opcode = omega arith; size = omega (arith, two_words x x) }) refl
    (record { there = r.pointer; means = asks_means m known.Pointer 1 _ _ (Input known.Pointer 1 _ _ refl) refl args; allowed = refl; goes_on = refl; makes_nothing = refl; releases_nothing = refl; gives_one = refl })

button_passes : (past : List Raw) (s : ℕ) → s < 2 → IsReady past → Passes past (requested known.Button (codes "button") button_id (Word 272 ∷ Word s ∷ []))
unfolding request_args asks asked
button_passes past s small r =
    let m = requested known.Button (codes "button") button_id (Word 272 ∷ Word s ∷ []) in
    let args : request_args known.Button m ≡ Some (Word 272 ∷ Word s ∷ []) = reads_back button button_id 1 (Word 272 ∷ Word s ∷ []) (omega arith, ((omega (arith, small), two_states s small), tt)) (tt, (tt, tt)) in
    passes_by past m (part known.Button) (Inputs (input_event.Button 272 (button_of s))) r (record { id = omega arith; opcode = omega arith; size = omega (arith, two_words 272 s) }) refl
    (record { there = r.button_there; means = asks_means m known.Button 1 _ _ (Input known.Button 1 _ _ refl) refl args; allowed = refl; goes_on = refl; makes_nothing = refl; releases_nothing = refl; gives_one = refl })

key_passes : (past : List Raw) (s : ℕ) → s < 2 → IsReady past → Passes past (requested known.Keyboard (codes "key") keyboard_id (Word 30 ∷ Word s ∷ []))
unfolding request_args asks asked
key_passes past s small r =
    let m = requested known.Keyboard (codes "key") keyboard_id (Word 30 ∷ Word s ∷ []) in
    let args : request_args known.Keyboard m ≡ Some (Word 30 ∷ Word s ∷ []) = reads_back key keyboard_id 1 (Word 30 ∷ Word s ∷ []) (omega arith, ((omega (arith, small), two_states s small), tt)) (tt, (tt, tt)) in
    passes_by past m (part known.Keyboard) (Inputs (input_event.KeyboardKey 30 (key_of s))) r (record { id = omega arith; opcode = omega arith; size = omega (arith, two_words 30 s) }) refl
    (record { there = r.keyboard; means = asks_means m known.Keyboard 1 _ _ (Input known.Keyboard 1 _ _ refl) refl args; allowed = refl; goes_on = refl; makes_nothing = refl; releases_nothing = refl; gives_one = refl })

scroll_passes : (past : List Raw) → IsReady past → Passes past (requested known.Scroll (codes "scroll_discrete") scroll_id (Signed (pos 120) ∷ Signed (negsuc 119) ∷ []))
unfolding request_args asks asked
scroll_passes past r =
    let m = requested known.Scroll (codes "scroll_discrete") scroll_id (Signed (pos 120) ∷ Signed (negsuc 119) ∷ []) in
    let args : request_args known.Scroll m ≡ Some (Signed (pos 120) ∷ Signed (negsuc 119) ∷ []) = reads_back scroll_discrete scroll_id 2 (Signed (pos 120) ∷ Signed (negsuc 119) ∷ []) (omega arith, (omega arith, tt)) (tt, (tt, tt)) in
    passes_by past m (part known.Scroll) (Inputs (input_event.ScrollDiscrete (pos 120) (negsuc 119))) r (record { id = omega arith; opcode = omega arith; size = omega arith }) refl
    (record { there = r.scroll; means = asks_means m known.Scroll 2 _ _ (Input known.Scroll 2 _ _ refl) refl args; allowed = refl; goes_on = refl; makes_nothing = refl; releases_nothing = refl; gives_one = refl })

frame_passes : (past : List Raw) (time : ℕ) → time < 2 ^ 64 → IsReady past → Passes past (frame_at time)
unfolding request_args asks asked frame_at
frame_passes past time small r =
    let m = requested known.Device (codes "frame") device_id (Word 2 ∷ Long time ∷ []) in
    let args : request_args known.Device m ≡ Some (Word 2 ∷ Long time ∷ []) = reads_back frame device_id 3 (Word 2 ∷ Long time ∷ []) (omega arith, (small, tt)) (tt, (tt, tt)) in
    passes_by past m the_device (Frames 2 time) r (record { id = omega arith; opcode = omega arith; size = omega (arith, word_and_long 2 time) }) refl
    (record { there = r.device; means = asks_means m known.Device 3 _ _ (Frame 2 time) refl args; allowed = refl; goes_on = refl; makes_nothing = refl; releases_nothing = refl; gives_one = refl })

state_small : (x : ℕ) → drawn_state x < 2
unfolding drawn_state
state_small x = omega arith

drawn_small : (x : ℕ) → drawn x < 2 ^ 32
unfolding drawn
drawn_small x = omega arith

input_passes : (past : List Raw) (kind x : ℕ) → x < 2 ^ 32 → IsReady past → Passes past (drawn_input kind x)
unfolding drawn_input
input_passes past zero x small r = motion_passes past x small r
input_passes past (suc zero) x small r = button_passes past (drawn_state x) (state_small x) r
input_passes past (suc (suc zero)) x small r = key_passes past (drawn_state x) (state_small x) r
input_passes past (suc (suc (suc n))) x small r = scroll_passes past r

-- ---- one message after another

-- the messages, of which the newest stands first, after these have come
abbrev pub onto : List Raw → List Raw → List Raw
onto [] past = past
onto (m ∷ ms) past = onto ms (m ∷ past)

abbrev pub AllPass : List Raw → List Raw → Type 0
AllPass past [] = IsReady past
AllPass past (m ∷ ms) = IsLawful m × (judge demo_setup past m ≡ Accepted) × IsOfGroup (item past m) × AllPass (m ∷ past) ms

then_pass : (a b past : List Raw) → AllPass past a → ((after : List Raw) → IsReady after → AllPass after b) → AllPass past (a ++ b)
then_pass [] b past p next = next past p
then_pass (m ∷ ms) b past p next = (p.0, p.1, p.2, then_pass ms b (m ∷ past) p.3 next)

inputs_pass : (n x : ℕ) (past : List Raw) → IsReady past → AllPass past (drawn_inputs n x)
unfolding drawn_inputs
inputs_pass zero x past r = r
inputs_pass (suc n) x past r =
    let p = input_passes past (chooser (drawn x) % 4) (drawn x) (drawn_small x) r in
    (p.lawful, p.accepted, p.of_group, inputs_pass n (drawn x) _ p.ready)

frame_alone : (time : ℕ) (past : List Raw) → time < 2 ^ 64 → IsReady past → AllPass past (frame_at time ∷ [])
frame_alone time past small r = let p = frame_passes past time small r in (p.lawful, p.accepted, p.of_group, p.ready)

group_pass : (time x : ℕ) (past : List Raw) → time < 2 ^ 64 → IsReady past → AllPass past (drawn_group time x)
unfolding drawn_group
group_pass time x past small r = then_pass (drawn_inputs (group_size (drawn x)) (drawn x)) (frame_at time ∷ []) past (inputs_pass _ _ past r) (λ after a. frame_alone time after small a)

pub groups_pass : (n time x : ℕ) (past : List Raw) → time + n ≤ 2 ^ 64 → IsReady past → AllPass past (groups_from n time x)
unfolding groups_from
groups_pass zero time x past small r = r
groups_pass (suc n) time x past small r =
    then_pass (drawn_group time x) (groups_from n (time + 1) (after_group x)) past (group_pass time x past (omega arith) r) (λ after a. groups_pass n (time + 1) (after_group x) after (omega arith) a)

pub ready_after : (ms past : List Raw) → AllPass past ms → IsReady (onto ms past)
ready_after [] past p = p
ready_after (m ∷ ms) past p = ready_after ms (m ∷ past) p.3

-- messages that pass are read
pub read_over : (ms past : List Raw) (rest : List ℕ) → AllPass past ms → read (judge demo_setup) past (all_bytes ms ++ rest) ≡ read (judge demo_setup) (onto ms past) rest
read_over [] past rest p = refl
read_over (m ∷ ms) past rest p =
    ap (read (judge demo_setup) past) (append_assoc (bytes_of m) (all_bytes ms) rest)
    ∙ goes_on.read_accepted (judge demo_setup) past (bytes_of m ++ (all_bytes ms ++ rest)) m (all_bytes ms ++ rest) (front_again m (all_bytes ms ++ rest) p.0) p.1
    ∙ read_over ms (m ∷ past) rest p.3

-- ---- the opening and the end

opening_read : read (judge demo_setup) [] (all_bytes opening) ≡ reading (onto opening []) [] Waiting
unfolding all_open opening introduction announcement objects_announced capabilities_announced finish_message begins_to_send
opening_read = refl

pub opening_ready : IsReady (onto opening [])
unfolding all_open opening introduction announcement objects_announced capabilities_announced finish_message begins_to_send
opening_ready = record { on = refl; pointer = refl; button_there = refl; keyboard = refl; scroll = refl; device = refl }

pub read_opening : (rest : List ℕ) → read (judge demo_setup) [] (all_bytes opening ++ rest) ≡ read (judge demo_setup) (onto opening []) rest
unfolding go_on
read_opening rest = goes_on.cut (judge demo_setup) [] (all_bytes opening) rest ∙ ap (λ (r : Reading _). go_on (judge demo_setup) r rest) opening_read

pub end_lawful : IsLawful disconnect_message
unfolding disconnect_message
end_lawful = record { id = omega arith; opcode = omega arith; size = omega arith }

end_there : (past : List Raw) → IsReady past → object past connection_id ≡ Some the_connection
end_there past r = object_connection past ∙ rw r.on refl

end_means : meaning known.Connection disconnect_message ≡ Some Disconnects
unfolding disconnect_message request_args
end_means =
    let m = requested known.Connection (codes "disconnect") connection_id [] in
    let args : request_args known.Connection m ≡ Some [] = reads_back _ connection_id 1 [] tt tt in
    asks_means m known.Connection 1 _ _ Disconnect refl args

pub end_judged : (past : List Raw) → IsReady past → judge demo_setup past disconnect_message ≡ Final
unfolding disconnect_message
end_judged past r = judge_asked demo_setup past disconnect_message the_connection Disconnects r.on (end_there past r) end_means

-- the ids last to the end
pub end_lasts : (past : List Raw) → IsReady past → exhausts past disconnect_message ≡ false
unfolding disconnect_message
end_lasts past r = exhausts_asked past disconnect_message the_connection r.on (end_there past r) ∙ rw end_means refl

-- the end gives its request
pub end_gives : (past : List Raw) → IsReady past → item past disconnect_message ≡ Some (Free DisconnectRequest)
unfolding disconnect_message
end_gives past r = item_asked past disconnect_message the_connection (end_there past r) ∙ rw end_means refl
