-- How many bytes the generated stream has.
use Rattle.std.proofs.Common.{◌≡◌, ℕ, zero, suc, ◌+◌, ◌-◌, ◌*◌, ◌%◌, ◌<◌, ◌≤◌, true, false, List, [], ◌∷◌, ◌++◌, length, refl, sym, ap, ◌∙◌, arith}
use Rattle.std.proofs.Common.{length-append}
use Rattle.std.proofs.lemmas.Grind.{flat_map-append}
use Rattle.ei_spec.specs.Message.{Raw, bytes_of, all_bytes}
use Rattle.ei_spec.proofs.Cuts.{size_is}
use Rattle.ei_session.proofs.AllOpen.{all_open}
use Rattle.reis_demo.specs.Script.{unsaid}
use Rattle.reis_demo.specs.declared.script.Script.{Script}
use Rattle.reis_demo.proofs.Saying.{open_unsaid, all_said}
use Rattle.reis_demo.specs.Generated.{drawn, after_draws, chooser, drawn_input, drawn_inputs, frame_at, group_size, drawn_group, after_group}
use Rattle.reis_demo.specs.Generated.{groups_from, disconnect_message}
use Rattle.reis_demo.specs.Generated.{introduction, announcement, objects_announced, capabilities_announced, finish_message, begins_to_send, opening}
use Rattle.reis_demo.specs.Generated.{generated_messages, generated_bytes}

joined_length : (a b : List Raw) → length (all_bytes (a ++ b)) ≡ length (all_bytes a) + length (all_bytes b)
joined_length a b = ap (λ (x : List ℕ). length x) (flat_map-append bytes_of a b) ∙ length-append (all_bytes a) (all_bytes b)

one_length : (m : Raw) (ms : List Raw) → length (all_bytes (m ∷ ms)) ≡ (16 + length m.body) + length (all_bytes ms)
one_length m ms = length-append (bytes_of m) (all_bytes ms) ∙ ap (λ (n : ℕ). n + length (all_bytes ms)) (size_is m)

input_body : (kind x : ℕ) → length (drawn_input kind x).body ≡ 8
unfolding drawn_input
input_body zero x = refl
input_body (suc zero) x = refl
input_body (suc (suc zero)) x = refl
input_body (suc (suc (suc n))) x = refl

frame_body : (time : ℕ) → length (frame_at time).body ≡ 12
unfolding frame_at
frame_body time = refl

-- an input has 24 bytes
pub inputs_length : (n x : ℕ) → length (all_bytes (drawn_inputs n x)) ≡ 24 * n
unfolding drawn_inputs
inputs_length zero x = refl
inputs_length (suc n) x =
    let m = drawn_input (chooser (drawn x) % 4) (drawn x) in
    let body = input_body (chooser (drawn x) % 4) (drawn x) in
    let rest = inputs_length n (drawn x) in
    let all = one_length m (drawn_inputs n (drawn x)) in
    omega (arith, all, body, rest)

-- and a frame 28
pub group_length : (time x : ℕ) → length (all_bytes (drawn_group time x)) ≡ 24 * group_size (drawn x) + 28
unfolding drawn_group
group_length time x =
    let inputs = inputs_length (group_size (drawn x)) (drawn x) in
    let all = joined_length (drawn_inputs (group_size (drawn x)) (drawn x)) (frame_at time ∷ []) in
    let one = one_length (frame_at time) [] in
    let body = frame_body time in
    omega (arith, inputs, all, one, body)

pub size_small : (x : ℕ) → group_size x ≤ 3
unfolding group_size
size_small x = omega arith

-- how many bytes so many groups have, whatever their times
abbrev pub group_bytes : ℕ → ℕ → ℕ
group_bytes zero x = 0
group_bytes (suc n) x = (24 * group_size (drawn x) + 28) + group_bytes n (after_group x)

pub groups_length : (n time x : ℕ) → length (all_bytes (groups_from n time x)) ≡ group_bytes n x
unfolding groups_from
groups_length zero time x = refl
groups_length (suc n) time x =
    joined_length (drawn_group time x) (groups_from n (time + 1) (after_group x))
    ∙ ap (λ (k : ℕ). k + length (all_bytes (groups_from n (time + 1) (after_group x)))) (group_length time x)
    ∙ ap (λ (k : ℕ). (24 * group_size (drawn x) + 28) + k) (groups_length n (time + 1) (after_group x))

-- a group has at most a hundred
pub groups_short : (n x : ℕ) → group_bytes n x ≤ 100 * n
groups_short zero x = omega arith
groups_short (suc n) x = let rest = groups_short n (after_group x) in let few = size_small (drawn x) in omega (arith, rest, few)

opening_length : length (all_bytes opening) ≡ 572
unfolding all_open opening introduction announcement objects_announced capabilities_announced finish_message begins_to_send
opening_length = refl

end_length : length (all_bytes (disconnect_message ∷ [])) ≡ 16
unfolding all_open disconnect_message
end_length = refl

-- the stream of so many groups
pub stream_length : (groups start : ℕ) → length (generated_bytes groups start) ≡ 588 + group_bytes groups start
unfolding generated_messages
stream_length groups start =
    let gs = groups_from groups 1 start in
    let first = joined_length opening (gs ++ (disconnect_message ∷ [])) in
    let then = joined_length gs (disconnect_message ∷ []) in
    let middle = groups_length groups 1 start in
    omega (arith, first, then, middle, opening_length, end_length)

pub stream_short : (groups start : ℕ) → length (generated_bytes groups start) ≤ 588 + 100 * groups
stream_short groups start = let all = stream_length groups start in let few = groups_short groups start in omega (arith, all, few)

-- ---- what a script has left

-- one more group of those that are left
pub next_group : (groups i x first last bytes more all : ℕ) → i < groups → first ≡ drawn x → last ≡ after_draws (group_size first) first → more ≡ 24 * group_size first + 28 →
    bytes + group_bytes (groups - i) x ≡ all → (bytes + more) + group_bytes (groups - (i + 1)) last ≡ all
unfolding after_group
next_group groups i x first last bytes more all lt e l m h =
    let k = groups - (i + 1) in
    let left : groups - i ≡ suc k = omega arith in
    let after : last ≡ after_draws (group_size (drawn x)) (drawn x) = l ∙ ap (λ (y : ℕ). after_draws (group_size y) y) e in
    let this : more ≡ 24 * group_size (drawn x) + 28 = m ∙ ap (λ (y : ℕ). 24 * group_size y + 28) e in
    let split : group_bytes (groups - i) x ≡ (24 * group_size (drawn x) + 28) + group_bytes k (after_draws (group_size (drawn x)) (drawn x)) = ap (λ (n : ℕ). group_bytes n x) left in
    let same : group_bytes k last ≡ group_bytes k (after_draws (group_size (drawn x)) (drawn x)) = ap (group_bytes k) after in
    omega (arith, this, split, same, h)

pub no_group_left : (groups i x : ℕ) → groups ≤ i → group_bytes (groups - i) x ≡ 0
no_group_left groups i x le = let none : groups - i ≡ 0 = omega arith in ap (λ (n : ℕ). group_bytes n x) none

pub left_length : (s : Script) → s.ended ≡ false → length (all_bytes (unsaid s)) ≡ 16 + group_bytes s.groups s.number
left_length s open_still =
    let all = ap (λ (ms : List Raw). length (all_bytes ms)) (open_unsaid s open_still) in
    let parts = joined_length (groups_from s.groups s.time s.number) (disconnect_message ∷ []) in
    let middle = groups_length s.groups s.time s.number in
    omega (arith, all, parts, middle, end_length)

pub none_left : (s : Script) → s.ended ≡ true → 0 ≡ length (all_bytes (unsaid s))
none_left s e = sym (ap (λ (ms : List Raw). length (all_bytes ms)) (all_said s e))
