-- So many groups give at most four requests each: one for each of three inputs, and one for the frame. Before them the
-- binding and the start of the device are given, and behind them the disconnect.
use Rattle.std.proofs.Common.{◌≡◌, ℕ, zero, suc, ◌+◌, ◌*◌, ◌^◌, ◌<◌, ◌≤◌, List, [], ◌∷◌, length, Option, Some, refl, ap, ◌∙◌, arith}
use Rattle.std.proofs.Common.{length-append}
use Rattle.std.proofs.lemmas.List.{length-map}
use Rattle.ei_spec.specs.Message.{Raw}
use Rattle.ei_spec.specs.History.{each}
use Rattle.ei_spec.specs.Groups.{Input as WaitingItem, Frame as FrameItem, Timed, Framed, group, timed, with_frame, gives}
use Rattle.ei_spec.proofs.GroupsLaws.{grouped_more}
use Rattle.ei_input.specs.declared.input_event.InputEvent.{InputEvent}
use Rattle.ei_session.specs.Requests.{Plain, Request, Asking, item, slot, framed}
use Rattle.ei_session.specs.Served.{Outcome}
use Rattle.ei_session.specs.Worked.{device_id}
use Rattle.ei_session.proofs.AllOpen.{all_open}
use Rattle.ei_session.proofs.GivenByItem.{gives_input, gives_frame, gives_free}
use Rattle.ei_session.proofs.WaitingLaws.{group_by}
use Rattle.reis_demo.specs.Generated.{demo_setup, opening, introduction, announcement, objects_announced, capabilities_announced, finish_message, begins_to_send}
use Rattle.reis_demo.specs.Generated.{drawn, drawn_inputs, frame_at, group_size, drawn_group, after_group, groups_from, disconnect_message}
use Rattle.reis_demo.specs.Summary.{demo_requests}
use Rattle.reis_demo.proofs.StreamLength.{size_small}
use Rattle.reis_demo.proofs.Passing.{IsOfGroup, AllPass, onto, groups_pass, ready_after, opening_ready, end_gives}
use Rattle.reis_demo.proofs.Disconnecting.{before_end, all_handled}

-- ---- one more message

-- how many requests came
abbrev came : List Raw → ℕ
came past = length (framed demo_setup [] past)

-- the inputs that wait
abbrev waiting : List Raw → List InputEvent
waiting past = group device_id (each (slot demo_setup) past)

-- both together, which a message of a group raises by one at most
abbrev came_or_wait : List Raw → ℕ
came_or_wait past = came past + length (waiting past)

-- a frame gives one more than wait for it, at most
framed_length : (xs : List InputEvent) (device serial time : ℕ) → length (with_frame {Y = Plain} xs device serial time) ≤ length xs + 1
unfolding with_frame timed
framed_length [] device serial time = omega arith
framed_length (x ∷ xs) device serial time =
    let both = length-append (timed {Y = Plain} device time (x ∷ xs)) (Framed device serial time ∷ []) in
    let inputs = length-map {B = Request} (x ∷ xs) (λ y. Timed device y time) in
    omega (arith, both, inputs)

one_more : (past : List Raw) (m : Raw) → came (m ∷ past) ≡ came past + length (gives [] (each (slot demo_setup) past) (slot demo_setup past m))
unfolding framed each
one_more past m =
    ap (λ (rs : List Request). length rs) (grouped_more [] (each (slot demo_setup) past) (slot demo_setup past m))
    ∙ length-append (framed demo_setup [] past) (gives [] (each (slot demo_setup) past) (slot demo_setup past m))

-- an input waits, and a frame gives those that wait and itself
one_by_item : (past : List Raw) (m : Raw) (o : Option Asking) → item past m ≡ o → IsOfGroup o → came_or_wait (m ∷ past) ≤ came_or_wait past + 1
one_by_item past m (Some (WaitingItem d x)) e ours =
    let more = one_more past m in
    let none = ap (λ (rs : List Request). length rs) (gives_input demo_setup [] past m d x e) in
    let same : item past m ≡ Some (WaitingItem device_id x) = e ∙ ap (λ (n : ℕ). Some (WaitingItem n x)) ours in
    let waits_now = ap (λ (xs : List InputEvent). length xs) (group_by demo_setup past m device_id (Some (WaitingItem device_id x)) same) in
    let longer = length-append (waiting past) (x ∷ []) in
    omega (arith, more, none, waits_now, longer)
one_by_item past m (Some (FrameItem d s t)) e ours =
    let more = one_more past m in
    let same : item past m ≡ Some (FrameItem device_id s t) = e ∙ ap (λ (n : ℕ). Some (FrameItem n s t)) ours in
    let given = ap (λ (rs : List Request). length rs) (gives_frame demo_setup [] past m device_id s t same) in
    let all = framed_length (waiting past) device_id s t in
    let none_waits = ap (λ (xs : List InputEvent). length xs) (group_by demo_setup past m device_id (Some (FrameItem device_id s t)) same) in
    omega (arith, more, given, all, none_waits)
one_by_item past m o e ours = absurd ours

each_adds_one : (ms past : List Raw) → AllPass past ms → came_or_wait (onto ms past) ≤ came_or_wait past + length ms
each_adds_one [] past p = omega arith
each_adds_one (m ∷ ms) past p =
    let now = one_by_item past m (item past m) refl p.2 in
    let later = each_adds_one ms (m ∷ past) p.3 in
    omega (arith, now, later)

-- ---- how many messages there are

inputs_count : (n x : ℕ) → length (drawn_inputs n x) ≡ n
unfolding drawn_inputs
inputs_count zero x = refl
inputs_count (suc n) x = ap suc (inputs_count n (drawn x))

group_count : (time x : ℕ) → length (drawn_group time x) ≤ 4
unfolding drawn_group
group_count time x =
    let all = length-append (drawn_inputs (group_size (drawn x)) (drawn x)) (frame_at time ∷ []) in
    let inputs = inputs_count (group_size (drawn x)) (drawn x) in
    let few = size_small (drawn x) in
    omega (arith, all, inputs, few)

groups_count : (n time x : ℕ) → length (groups_from n time x) ≤ 4 * n
unfolding groups_from
groups_count zero time x = omega arith
groups_count (suc n) time x =
    let all = length-append (drawn_group time x) (groups_from n (time + 1) (after_group x)) in
    let this = group_count time x in
    let rest = groups_count n (time + 1) (after_group x) in
    omega (arith, all, this, rest)

-- ---- all of them

opening_gives : came_or_wait (onto opening []) ≡ 2
unfolding all_open opening introduction announcement objects_announced capabilities_announced finish_message begins_to_send
opening_gives = refl

pub few_requests : (groups start : ℕ) → groups < 2 ^ 32 → length (demo_requests groups start) ≤ 4 * groups + 3
few_requests groups start small =
    let gs = groups_from groups 1 start in
    let past = before_end groups start in
    let pass = groups_pass groups 1 start (onto opening []) (omega (arith, small)) opening_ready in
    let groups_give = each_adds_one gs (onto opening []) pass in
    let count = groups_count groups 1 start in
    let end_item = end_gives past (ready_after gs (onto opening []) pass) in
    let end = one_more past disconnect_message in
    let end_one = ap (λ (rs : List Request). length rs) (gives_free demo_setup [] past disconnect_message _ end_item) in
    let same = ap (λ (o : Outcome). came o.handled) (all_handled groups start small) in
    omega (arith, opening_gives, groups_give, count, end, end_one, same)
