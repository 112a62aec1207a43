-- Each device that is kept bears its own id, whatever was told.
use Rattle.std.proofs.Common.{◌≡◌, ℕ, Bool, true, false, cond, eqb, Option, Some, None, Result, Ok, Err, refl, sym, ap, subst, ◌∙◌}
use Rattle.std.specs.Prelude.{IfSome, IfOk, OnOk, OnErr}
use Rattle.std.specs.Ordering.{nat_cmp}
use Rattle.std.specs.Cmp.{nat_cmp_total}
use Rattle.std.specs.FinMap.{get, insert, remove, empty, get-empty, get-retain_keys, same_map, nat_cmp-IsAntisymmetric}
use Rattle.std.proofs.lemmas.Bool.{eqb-true}
use Rattle.reis_eis.specs.declared.phase.Phase.{Phase}
use Rattle.reis_strict.specs.declared.device.KnownDevice.{KnownDevice}
use Rattle.reis_strict.specs.declared.act.Deed.{Deed}
use Rattle.reis_strict.specs.declared.verdict.Verdict.{Verdict}
use Rattle.reis_strict.specs.declared.verdict.Verdict.TheVariants as verdict
use Rattle.reis_strict.specs.Devices.{Devices, AreNamed, behind}
use Rattle.reis_strict.specs.Held.{is_held, held_of}
use Rattle.ei_by_id.specs.ById.{passes, kept}
use Rattle.reis_strict.proofs.Deeds.{deed_id}
use Rattle.reis_strict.proofs.Telling.{inserted, removed_at}

abbrev IsNamed : ℕ → Option KnownDevice → Type 0
IsNamed id o = IfSome o (λ device. device.id ≡ id)

either : (b : Bool) (id : ℕ) (o p : Option KnownDevice) → (b ≡ true → IsNamed id o) → IsNamed id p → IsNamed id (cond b o p)
either true id o p first then = first refl
either false id o p first then = then

pub named_empty : AreNamed empty
named_empty id = rw (get-empty nat_cmp id) tt

pub named_insert : (devices : Devices) (id : ℕ) (v : KnownDevice) → AreNamed devices → v.id ≡ id → AreNamed (insert devices id v)
named_insert devices id v named is d =
    subst (IsNamed d) (sym (inserted devices id d v)) (either (eqb id d) d (Some v) (get devices d) (λ e. is ∙ eqb-true id d e) (named d))

pub named_remove : (devices : Devices) (id : ℕ) → AreNamed devices → AreNamed (remove devices id)
named_remove devices id named d = subst (IsNamed d) (sym (removed_at devices id d)) (either (eqb id d) d None (get devices d) (λ e. tt) (named d))

pub named_at : (devices : Devices) (id : ℕ) (v : KnownDevice) → AreNamed devices → get devices id ≡ Some v → v.id ≡ id
named_at devices id v named found = subst (IsNamed id) found (named id)

-- behind a call that puts a device in, or wants memory for it
pub named_put : {E : Type 0} (devices later : Devices) (id : ℕ) (v : KnownDevice) (r : Result (Unit {0}) E) → AreNamed devices → v.id ≡ id →
    OnOk r (later ≡ insert devices id v) → OnErr r (later ≡ devices) → AreNamed later
named_put devices later id v (Ok done) named is ok err = subst AreNamed (sym ok) (named_insert devices id v named is)
named_put devices later id v (Err e) named is ok err = subst AreNamed (sym err) named

-- a judged deed leaves a device its id
behind_id : (v : Verdict) (act : Deed) (old new : KnownDevice) → new ≡ behind v act old → new.id ≡ old.id
behind_id verdict.Pass act old new e = ap (λ (d : KnownDevice). d.id) e ∙ deed_id act old
behind_id verdict.Drop act old new e = ap (λ (d : KnownDevice). d.id) e
behind_id (verdict.End why) act old new e = ap (λ (d : KnownDevice). d.id) e

pub judged_id : {E : Type 0} (act : Deed) (old new : KnownDevice) (r : Result Verdict E) → IfOk r (λ v. new ≡ behind v act old) → OnErr r (new ≡ old) → new.id ≡ old.id
judged_id act old new (Ok v) done err = behind_id v act old new done
judged_id act old new (Err e) done err = ap (λ (d : KnownDevice). d.id) err

-- ---- those that the connection holds

gets_held : (p : Phase) (devices : Devices) (id : ℕ) → get (held_of p devices) id ≡ cond (is_held p id) (get devices id) None
gets_held p devices id = get-retain_keys devices (is_held p) id (λ x e. ap (is_held p) (sym (nat_cmp-IsAntisymmetric id x e)))

pub named_held : (p : Phase) (devices : Devices) → AreNamed devices → AreNamed (held_of p devices)
named_held p devices named d = subst (IsNamed d) (sym (gets_held p devices d)) (either (is_held p d) d (get devices d) None (λ e. named d) tt)

abbrev pub stays : Phase → KnownDevice → Bool
stays p device = is_held p device.id

gets_kept : (p : Phase) (devices : Devices) (id : ℕ) → get (kept (stays p) devices) id ≡ cond (passes (stays p) (get devices id)) (get devices id) None
gets_kept p devices id =
    get-retain_keys devices (λ d. passes (stays p) (get devices d)) id (λ x e. ap (λ (d : ℕ). passes (stays p) (get devices d)) (sym (nat_cmp-IsAntisymmetric id x e)))

none_either : (b : Bool) → ◌≡◌ {A = Option KnownDevice} None (cond b None None)
none_either true = refl
none_either false = refl

by_value : (p : Phase) (id : ℕ) (o : Option KnownDevice) → IsNamed id o → cond (passes (stays p) o) o None ≡ cond (is_held p id) o None
by_value p id None named = none_either (is_held p id)
by_value p id (Some v) named = ap (λ (d : ℕ). cond (is_held p d) (Some v) None) named

pub kept_held : (p : Phase) (devices : Devices) → AreNamed devices → kept (stays p) devices ≡ held_of p devices
kept_held p devices named = same_map nat_cmp_total nat_cmp-IsAntisymmetric (kept (stays p) devices) (held_of p devices) (λ id.
    gets_kept p devices id ∙ by_value p id (get devices id) (named id) ∙ sym (gets_held p devices id))
