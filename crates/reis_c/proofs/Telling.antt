-- What becomes of the policy beside a connection.
use Rattle.std.proofs.Common.{◌≡◌, ℕ, Bool, true, false, cond, eqb, Option, Some, None, refl, ap, sym, subst, ◌∙◌, inl, inr, arith}
use Rattle.std.specs.Prelude.{◌⊎◌, is_some, IsSome}
use Rattle.std.specs.Cmp.{nat_cmp_total, unsigned_tied}
use Rattle.std.specs.FinMap.{get, insert, get-insert, same_map, nat_cmp-IsAntisymmetric}
use Rattle.std.proofs.lemmas.Bool.Decides.{nat_tests}
use Rattle.ei_request.specs.Connection.{ConnectionView}
use Rattle.reis_eis.specs.declared.call_error.CallError.{CallError}
use Rattle.reis_eis.specs.declared.call_error.CallError.TheVariants as call_error
use Rattle.reis_eis.specs.View.{EisView}
use Rattle.reis_eis.specs.Refusals.{Tells, on_device}
use Rattle.reis_eis.specs.Acting.{ActsOn, IsKept, Resumes, refusal}
use Rattle.reis_strict.specs.declared.device.KnownDevice.{KnownDevice}
use Rattle.reis_strict.specs.declared.device.State.TheVariants as state
use Rattle.reis_strict.specs.View.{StrictView, with_devices}
use Rattle.reis_strict.specs.Devices.{Devices, at_rest, with_resumed, with_reserved, reserved_at}
use Rattle.reis_c.specs.declared.connection.Handed.{Handed}
use Rattle.reis_c.specs.Numbers.{OK, NO_MEMORY}
use Rattle.reis_c.specs.Answers.{refusal_number}
use Rattle.reis_c.specs.Connecting.{DoesAndTells, ResumesAndTells}
use Rattle.reis_c.specs.Policy.{knowing, reserving, HasRoom}
use Rattle.reis_c.proofs.Obliging.{behind, refused, did_ok, did_err}

-- ---- a call that the policy is told of

module _ (reason : ConnectionView → Option CallError) (does : ConnectionView → ConnectionView → Type 0) (told : EisView → Devices → Devices)
    (old new : EisView) (last : Handed) (p q : Option StrictView) where
  pub told_ok : ActsOn does old new → refusal reason old ≡ None → q ≡ knowing (told new) p
      → DoesAndTells reason does told OK (behind old last p) (behind new last q)
  told_ok done accepted is = record {
    acts = did_ok reason does old new last p done accepted;
    tells = λ _. is;
    kept = λ h. absurd (h refl);
  }

  pub told_err : (e : CallError) (answer : ℕ) → answer ≡ refusal_number e → Tells (refusal reason old) e → IsKept old new
      → DoesAndTells reason does told answer (behind old last p) (behind new last p)
  told_err e answer a why kept =
      subst (λ (n : ℕ). DoesAndTells reason does told n (behind old last p) (behind new last p)) (sym a) (record {
        acts = did_err reason does old new last p e why kept;
        tells = λ h. absurd (refused e h);
        kept = λ _. refl;
      })

-- ---- what is known of a device

get_written : (m : Devices) (key k : ℕ) (v : KnownDevice) → get (insert m key v) k ≡ cond (eqb k key) (Some v) (get m k)
get_written m key k v = get-insert nat_cmp_total m key v k ∙ ap (λ (b : Bool). cond b (Some v) (get m k)) (unsigned_tied k key)

last_of : {T : Type 0} (b : Bool) (x y z : T) → cond b x (cond b y z) ≡ cond b x z
last_of true x y z = refl
last_of false x y z = refl

-- what is written last counts
twice : (m : Devices) (id : ℕ) (v w : KnownDevice) → insert (insert m id v) id w ≡ insert m id w
twice m id v w = same_map nat_cmp_total nat_cmp-IsAntisymmetric (insert (insert m id v) id w) (insert m id w) (λ k.
    get_written (insert m id v) id k w ∙ ap (λ (o : Option KnownDevice). cond (eqb k id) (Some w) o) (get_written m id k v)
    ∙ last_of (eqb k id) (Some w) (Some v) (get m k) ∙ sym (get_written m id k w))

resumed_at : (device : ℕ) (o : Option KnownDevice) (devices : Devices) → with_resumed device (reserved_at device o devices) ≡ with_resumed device devices
resumed_at device None devices = twice devices device (at_rest device state.Paused) (at_rest device state.Resumed)
resumed_at device (Some v) devices = refl

resumed_known : (device : ℕ) (p : Option StrictView) → knowing (with_resumed device) (knowing (with_reserved device) p) ≡ knowing (with_resumed device) p
resumed_known device None = refl
resumed_known device (Some s) = ap (λ (d : Devices). Some (with_devices s d)) (resumed_at device (get s.devices device) s.devices)

-- room was made for a device whose resume nothing refused
reserved_of : (why : Option CallError) (device : ℕ) (p : Option StrictView) → why ≡ None → reserving why device p ≡ knowing (with_reserved device) p
reserved_of why device p e = ap (λ (o : Option CallError). reserving o device p) e

itself : (n : ℕ) → eqb n n ≡ true
itself n = grind (arith, nat_tests)

there : (device : ℕ) (o : Option KnownDevice) (devices : Devices) → get devices device ≡ o → IsSome (get (reserved_at device o devices) device)
there device None devices e =
    let v : KnownDevice = at_rest device state.Paused in
    ap is_some (get_written devices device device v ∙ ap (λ (b : Bool). cond b (Some v) (get devices device)) (itself device))
there device (Some v) devices e = ap is_some e

room_known : (device : ℕ) (p : Option StrictView) → HasRoom device (knowing (with_reserved device) p)
room_known device None = tt
room_known device (Some s) = there device (get s.devices device) s.devices refl

pub has_room : (why : Option CallError) (device : ℕ) (p q : Option StrictView) → why ≡ None → q ≡ reserving why device p → HasRoom device q
has_room why device p q e is = subst (HasRoom device) (sym (is ∙ reserved_of why device p e)) (room_known device p)

-- ---- a resume

module _ (device : ℕ) (old : EisView) (last : Handed) (p : Option StrictView) where
  pub resumes : (new : EisView) (q r : Option StrictView) → ActsOn (Resumes device) old new → refusal (on_device device) old ≡ None
      → q ≡ reserving (refusal (on_device device) old) device p → r ≡ knowing (with_resumed device) q → ResumesAndTells device OK (behind old last p) (behind new last r)
  resumes new q r done accepted room is = record {
    acts = did_ok (on_device device) (Resumes device) old new last p done accepted;
    tells = λ _. is ∙ ap (knowing (with_resumed device)) (room ∙ reserved_of (refusal (on_device device) old) device p accepted) ∙ resumed_known device p;
    kept = λ h. absurd (h refl);
  }

  abbrev Left : ℕ → Option StrictView → Type 0
  Left answer q = (q ≡ p) ⊎ ((answer ≡ NO_MEMORY) × (q ≡ knowing (with_reserved device) p))

  -- a refusal that tells a reason made no room
  left_at : (why : Option CallError) (e : CallError) → Tells why e → Left (refusal_number e) (reserving why device p)
  left_at (Some w) e t = inl refl
  left_at None call_error.NoMemory t = inr (refl, refl)
  left_at None call_error.Over t = absurd cc
  left_at None call_error.NotConnected t = absurd cc
  left_at None call_error.Empty t = absurd cc
  left_at None call_error.TooLong t = absurd cc
  left_at None call_error.TooManyHandles t = absurd cc
  left_at None call_error.NotUnsent t = absurd cc
  left_at None call_error.Gone t = absurd cc
  left_at None call_error.WrongRole t = absurd cc
  left_at None call_error.Capabilities t = absurd cc
  left_at None call_error.NoKeyboard t = absurd cc
  left_at None call_error.MessageTooLong t = absurd cc
  left_at None call_error.IdsExhausted t = absurd cc

  pub unresumed : (new : EisView) (q : Option StrictView) (e : CallError) (answer : ℕ) → answer ≡ refusal_number e → Tells (refusal (on_device device) old) e
      → IsKept old new → q ≡ reserving (refusal (on_device device) old) device p → ResumesAndTells device answer (behind old last p) (behind new last q)
  unresumed new q e answer a why kept is =
      subst (λ (n : ℕ). ResumesAndTells device n (behind old last p) (behind new last q)) (sym a) (record {
        acts = did_err (on_device device) (Resumes device) old new last p e why kept;
        tells = λ h. absurd (refused e h);
        kept = λ _. subst (Left (refusal_number e)) (sym is) (left_at (refusal (on_device device) old) e why);
      })
