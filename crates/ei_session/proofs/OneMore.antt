-- What one more message changes.
use Rattle.std.proofs.Common.{◌≡◌, ℕ, min, false, ◌||◌, List, ◌∷◌, Option, Some, None, refl, ap}
use Rattle.std.specs.Option.{option_map}
use Rattle.ei_spec.specs.declared.interface.KnownInterface.{KnownInterface}
use Rattle.ei_spec.specs.Interface.{name_of, server_version}
use Rattle.ei_spec.specs.Message.{Raw}
use Rattle.ei_spec.proofs.HistoryLaws.{occurs_or, said_now, said_before}
use Rattle.ei_session.specs.Handshake.{is_finish, connected, announced, announces, version_if, settled}

pub connected_more : (before : List Raw) (m : Raw) → connected (m ∷ before) ≡ (is_finish m || connected before)
unfolding connected
connected_more before m = occurs_or (λ _ m. is_finish m) before m

-- ---- versions

-- the version after what a message announces
abbrev pub version_then : KnownInterface → Option ℕ → Option ℕ → Option ℕ
version_then interface (Some v) before = Some (min (server_version interface) v)
version_then interface None before = before

settled_says : (before : List Raw) (m : Raw) (interface : KnownInterface) (said : Option ℕ) → announces (name_of interface) before m ≡ said →
    settled (m ∷ before) interface ≡ version_then interface said (settled before interface)
unfolding settled
settled_says before m interface (Some v) e = ap (option_map (min (server_version interface))) (said_now (announces (name_of interface)) before m v e)
settled_says before m interface None e = ap (option_map (min (server_version interface))) (said_before (announces (name_of interface)) before m e)

pub settled_more : (before : List Raw) (m : Raw) (interface : KnownInterface) → connected before ≡ false →
    settled (m ∷ before) interface ≡ version_then interface (version_if (name_of interface) (announced m)) (settled before interface)
unfolding announces
settled_more before m interface e = settled_says before m interface (version_if (name_of interface) (announced m)) (rw (e, announces) refl)
