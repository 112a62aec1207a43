-- How many requests there are, and how many of them are inputs: it makes no difference which readings the clock gives, nor
-- how the program keeps them.
use Rattle.std.proofs.Common.{◌≡◌, ℕ, ◌+◌, Bool, true, false, cond, List, [], ◌∷◌, ◌++◌, map, length, Option, Some, None, refl, sym, ap, ◌∙◌}
use Rattle.std.specs.Prelude.{count_by, slice_index}
use Rattle.std.proofs.lemmas.List.{map-append, length-map}
use Rattle.std.proofs.lemmas.List.Sums.{sum_by-cons}
use Rattle.ei_spec.specs.declared.interface.KnownInterface.{KnownInterface}
use Rattle.ei_spec.specs.Message.{Raw}
use Rattle.ei_spec.specs.History.{each, joined}
use Rattle.ei_spec.specs.Groups.{Item, Input as Waiting, Frame, Other, Free, Timed, Framed, Plain, Slot, group, timed, with_frame, frames_made, gives, grouped}
use Rattle.ei_input.specs.declared.input_event.InputEvent.{InputEvent}
use Rattle.ei_input.specs.declared.input_event.InputEvent.TheVariants as input_event
use Rattle.ei_session.specs.Setup.{Setup}
use Rattle.ei_session.specs.Handshake.{version}
use Rattle.ei_session.specs.Requests.{Request, slot, framed, Plain as Asked, Bind, RequestDevice, Ready, DeviceClosed, DeviceStartEmulating}
use Rattle.ei_session.specs.Requests.{DeviceStopEmulating, Disconnect}
use Rattle.ei_standing.specs.Standing.{handed_as, request_in_code}
use Rattle.reis_demo.specs.Summary.{is_input, is_input_request}

-- ---- counts by what the items are

count_first : {A : Type 0} (test : A → Bool) (x : A) (xs : List A) → count_by test (x ∷ xs) ≡ cond (test x) 1 0 + count_by test xs
count_first {A} test x xs = sum_by-cons (λ (y : A). cond (test y) 1 0) x xs

count_map : {A : Type 0} (test : A → Bool) (xs : List A) → count_by test xs ≡ count_by (λ b. b) (map test xs)
count_map test [] = refl
count_map test (x ∷ xs) =
    count_first test x xs
    ∙ ap (λ (n : ℕ). cond (test x) 1 0 + n) (count_map test xs)
    ∙ sym (count_first (λ b. b) (test x) (map test xs))

same_count : {A : Type 0} (test : A → Bool) (xs ys : List A) → map test xs ≡ map test ys → count_by test xs ≡ count_by test ys
same_count test xs ys e = count_map test xs ∙ ap (λ (bs : List Bool). count_by (λ b. b) bs) e ∙ sym (count_map test ys)

same_length : {A : Type 0} (test : A → Bool) (xs ys : List A) → map test xs ≡ map test ys → length xs ≡ length ys
same_length test xs ys e = sym (length-map xs test) ∙ ap (λ (bs : List Bool). length bs) e ∙ length-map ys test

-- ---- other readings

abbrev kinds : List Request → List Bool
kinds rs = map is_input rs

abbrev inputs_and_frame : List InputEvent → List Bool
inputs_and_frame xs = map (λ _. true) xs ++ (false ∷ [])

timed_kinds : (d time serial : ℕ) (xs : List InputEvent) → kinds (timed d time xs ++ (Framed d serial time ∷ [])) ≡ inputs_and_frame xs
unfolding timed
timed_kinds d time serial [] = refl
timed_kinds d time serial (x ∷ xs) = ap (λ (bs : List Bool). true ∷ bs) (timed_kinds d time serial xs)

framed_kinds : (d serial time later : ℕ) (xs : List InputEvent) → kinds (with_frame xs d serial time) ≡ kinds (with_frame xs d serial later)
unfolding with_frame
framed_kinds d serial time later [] = refl
framed_kinds d serial time later (x ∷ xs) = timed_kinds d time serial (x ∷ xs) ∙ sym (timed_kinds d later serial (x ∷ xs))

gives_at : (readings : List ℕ) (before : List (Slot InputEvent Asked)) (o : Option (Item InputEvent Asked)) (serial : ℕ) →
    kinds (gives readings before (record { item = o; serial = serial })) ≡ kinds (gives [] before (record { item = o; serial = serial }))
unfolding gives
gives_at readings before None serial = refl
gives_at readings before (Some (Waiting d x)) serial = refl
gives_at readings before (Some (Frame d s t)) serial = refl
gives_at readings before (Some (Other d y)) serial =
    let w = group d before in
    let time = slice_index readings (frames_made before) in
    let none = slice_index [] (frames_made before) in
    map-append is_input (with_frame w d serial time) (Plain y ∷ [])
    ∙ ap (λ (bs : List Bool). bs ++ (false ∷ [])) (framed_kinds d serial time none w)
    ∙ sym (map-append is_input (with_frame w d serial none) (Plain y ∷ []))
gives_at readings before (Some (Free y)) serial = refl

grouped_kinds : (readings : List ℕ) (slots : List (Slot InputEvent Asked)) → kinds (grouped readings slots) ≡ kinds (grouped [] slots)
unfolding grouped joined
grouped_kinds readings [] = refl
grouped_kinds readings (s ∷ before) =
    map-append is_input (grouped readings before) (gives readings before s)
    ∙ ap (λ (bs : List Bool). bs ++ kinds (gives readings before s)) (grouped_kinds readings before)
    ∙ ap (λ (bs : List Bool). kinds (grouped [] before) ++ bs) (gives_at readings before s.item s.serial)
    ∙ sym (map-append is_input (grouped [] before) (gives [] before s))

same_kinds : (setup : Setup) (readings : List ℕ) (messages : List Raw) → kinds (framed setup readings messages) ≡ kinds (framed setup [] messages)
unfolding framed
same_kinds setup readings messages = grouped_kinds readings (each (slot setup) messages)

-- ---- as the program keeps them

plain_kind : (versions : KnownInterface → ℕ) (y : Asked) → is_input_request (handed_as versions (Plain y)) ≡ false
plain_kind versions (Bind seat mask) = refl
plain_kind versions (RequestDevice seat mask) = refl
plain_kind versions (Ready d) = refl
plain_kind versions (DeviceClosed d) = refl
plain_kind versions (DeviceStartEmulating d serial sequence) = refl
plain_kind versions (DeviceStopEmulating d serial) = refl
plain_kind versions Disconnect = refl

timed_kind : (versions : KnownInterface → ℕ) (d time : ℕ) (x : InputEvent) → is_input_request (handed_as versions (Timed d x time)) ≡ true
timed_kind versions d time (input_event.PointerMotion dx dy) = refl
timed_kind versions d time x = refl

same_kind : (versions : KnownInterface → ℕ) (r : Request) → is_input_request (handed_as versions r) ≡ is_input r
same_kind versions (Timed d x time) = timed_kind versions d time x
same_kind versions (Framed d serial time) = refl
same_kind versions (Plain y) = plain_kind versions y

coded_count : (past : List Raw) (rs : List Request) → count_by is_input_request (map (request_in_code past) rs) ≡ count_by is_input rs
coded_count past [] = refl
coded_count past (r ∷ rs) =
    count_first is_input_request (request_in_code past r) (map (request_in_code past) rs)
    ∙ ap (λ (b : Bool). cond b 1 0 + count_by is_input_request (map (request_in_code past) rs)) (same_kind (version past) r)
    ∙ ap (λ (n : ℕ). cond (is_input r) 1 0 + n) (coded_count past rs)
    ∙ sym (count_first is_input r rs)

-- ---- together

-- as many requests come, whatever the readings are
pub same_number : (setup : Setup) (readings : List ℕ) (messages : List Raw) → length (framed setup readings messages) ≡ length (framed setup [] messages)
same_number setup readings messages = same_length is_input (framed setup readings messages) (framed setup [] messages) (same_kinds setup readings messages)

-- as many requests are kept as the messages give
pub requests_kept : (setup : Setup) (readings : List ℕ) (past messages : List Raw) → length (map (request_in_code past) (framed setup readings messages)) ≡ length (framed setup [] messages)
requests_kept setup readings past messages =
    length-map (framed setup readings messages) (request_in_code past) ∙ same_number setup readings messages

-- and as many of them are inputs
pub inputs_kept : (setup : Setup) (readings : List ℕ) (past messages : List Raw) → count_by is_input_request (map (request_in_code past) (framed setup readings messages)) ≡ count_by is_input (framed setup [] messages)
inputs_kept setup readings past messages =
    coded_count past (framed setup readings messages)
    ∙ same_count is_input (framed setup readings messages) (framed setup [] messages) (same_kinds setup readings messages)
