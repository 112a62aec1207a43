-- The ids of seats and devices, collected one after another.
use Rattle.std.proofs.Common.{◌≡◌, ℕ, ◌+◌, ◌<◌, List, [], ◌∷◌, ◌++◌, length, take, get_or, refl, sym, ap, ◌∙◌, append_assoc}
use Rattle.std.specs.List.{filter}
use Rattle.std.proofs.lemmas.List.{take_more, append-nil}
use Rattle.std.proofs.lemmas.List.Elements.{filter-append}
use Rattle.ei_request.specs.Held.{SeatView, DeviceView, is_of_seat, device_ids, all_device_ids, seat_ids, all_seat_ids}

devices_append : (xs ys : List DeviceView) → all_device_ids (xs ++ ys) ≡ all_device_ids xs ++ all_device_ids ys
devices_append [] ys = refl
devices_append (d ∷ xs) ys = ap (λ (t : List ℕ). device_ids d ++ t) (devices_append xs ys) ∙ sym (append_assoc (device_ids d) (all_device_ids xs) (all_device_ids ys))

seats_append : (devices : List DeviceView) (xs ys : List SeatView) → all_seat_ids devices (xs ++ ys) ≡ all_seat_ids devices xs ++ all_seat_ids devices ys
seats_append devices [] ys = refl
seats_append devices (s ∷ xs) ys =
    ap (λ (t : List ℕ). seat_ids devices s ++ t) (seats_append devices xs ys) ∙ sym (append_assoc (seat_ids devices s) (all_seat_ids devices xs) (all_seat_ids devices ys))

-- of one seat more
pub seats_more : (devices : List DeviceView) (seats : List SeatView) (i : ℕ) (s : SeatView) → i < length seats → s ≡ get_or seats i s →
    all_seat_ids devices (take (i + 1) seats) ≡ all_seat_ids devices (take i seats) ++ seat_ids devices s
seats_more devices seats i s lt is =
    ap (all_seat_ids devices) (take_more seats i s lt) ∙ seats_append devices (take i seats) (get_or seats i s ∷ [])
    ∙ ap (λ (x : SeatView). all_seat_ids devices (take i seats) ++ all_seat_ids devices (x ∷ [])) (sym is)
    ∙ ap (λ (t : List ℕ). all_seat_ids devices (take i seats) ++ t) (append-nil (seat_ids devices s))

-- of one device more
pub devices_more : (seat : ℕ) (ds : List DeviceView) (i : ℕ) (d : DeviceView) → i < length ds → d ≡ get_or ds i d →
    all_device_ids (filter (is_of_seat seat) (take (i + 1) ds)) ≡ all_device_ids (filter (is_of_seat seat) (take i ds)) ++ all_device_ids (filter (is_of_seat seat) (d ∷ []))
devices_more seat ds i d lt is =
    ap (λ (xs : List DeviceView). all_device_ids (filter (is_of_seat seat) xs)) (take_more ds i d lt ∙ ap (λ (x : DeviceView). take i ds ++ x ∷ []) (sym is))
    ∙ ap all_device_ids (filter-append (is_of_seat seat) (take i ds) (d ∷ []))
    ∙ devices_append (filter (is_of_seat seat) (take i ds)) (filter (is_of_seat seat) (d ∷ []))
