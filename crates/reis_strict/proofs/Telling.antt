-- What stands for a history stands for it with one thing more.
use Rattle.std.proofs.Common.{◌≡◌, ℕ, Bool, true, false, cond, eqb, List, [], ◌∷◌, Option, Some, None, refl, sym, ap, ◌∙◌, arith}
use Rattle.std.specs.Ordering.{nat_cmp}
use Rattle.std.specs.Cmp.{nat_cmp_total, unsigned_tied}
use Rattle.std.specs.FinMap.{get, insert, remove, empty, get-empty, get-insert, get-remove}
use Rattle.std.proofs.lemmas.Bool.{eqb-true}
use Rattle.std.proofs.lemmas.Bool.Decides.{nat_tests}
use Rattle.ei_types.specs.declared.enums.ContextType.{ContextType}
use Rattle.ei_types.specs.declared.enums.ContextType.TheVariants as role
use Rattle.ei_request.specs.declared.event.EisRequest.{EisRequest}
use Rattle.reis_strict.specs.declared.act.Act.{Act}
use Rattle.reis_strict.specs.declared.act.Kind.{Kind}
use Rattle.reis_strict.specs.declared.device.State.TheVariants as state
use Rattle.reis_strict.specs.declared.device.KnownDevice.{KnownDevice}
use Rattle.reis_strict.specs.declared.verdict.Verdict.{Verdict}
use Rattle.reis_strict.specs.declared.verdict.Verdict.TheVariants as verdict
use Rattle.reis_strict.specs.Acts.{act_of}
use Rattle.reis_strict.specs.Policy.{by_state, judged}
use Rattle.reis_strict.specs.Devices.{Devices, at_rest, is_down_on, after_deed, state_at, down_at, state_in, is_down_in, done_at, with_act, with_resumed, paused_at, with_paused, reserved_at, with_reserved}
use Rattle.reis_strict.specs.History.{Told, WasResumed, WasPaused, WasRemoved, Passed, state_after, down_after, state_behind, down_behind, state_of, is_down, verdict_of}
use Rattle.reis_strict.specs.Standing.{StandsFor}
use Rattle.reis_strict.proofs.Deeds.{rest_down, deed_state, deed_down}

turned : (a b : ℕ) → eqb a b ≡ eqb b a
turned a b = grind (arith, nat_tests)

-- ---- look-ups behind a change

pub inserted : (devices : Devices) (id d : ℕ) (v : KnownDevice) → get (insert devices id v) d ≡ cond (eqb id d) (Some v) (get devices d)
inserted devices id d v = get-insert nat_cmp_total devices id v d ∙ ap (λ (b : Bool). cond b (Some v) (get devices d)) (unsigned_tied d id ∙ turned d id)

pub removed_at : (devices : Devices) (id d : ℕ) → get (remove devices id) d ≡ cond (eqb id d) None (get devices d)
removed_at devices id d = get-remove nat_cmp_total devices id d ∙ ap (λ (b : Bool). cond b None (get devices d)) (unsigned_tied d id ∙ turned d id)

absent_at : (devices : Devices) (id d : ℕ) → get devices id ≡ None → get devices d ≡ cond (eqb id d) None (get devices d)
absent_at devices id d none = by (eqb id d) refl
  where
    by : (b : Bool) → eqb id d ≡ b → get devices d ≡ cond b None (get devices d)
    by true e = ap (λ (n : ℕ). get devices n) (sym (eqb-true id d e)) ∙ none
    by false e = refl

state_cond : (b : Bool) (o p : Option KnownDevice) → state_at (cond b o p) ≡ cond b (state_at o) (state_at p)
state_cond true o p = refl
state_cond false o p = refl

down_cond : (b : Bool) (o p : Option KnownDevice) (k : Kind) (code : ℕ) → down_at (cond b o p) k code ≡ cond b (down_at o k code) (down_at p k code)
down_cond true o p k code = refl
down_cond false o p k code = refl

-- at one device something else is kept, and so the history says of it with one thing more
module _ (devices : Devices) (history : List Told) (stands : StandsFor devices history) where
  changed : (later : Devices) (one : Told) (id : ℕ) (o : Option KnownDevice) → ((d : ℕ) → get later d ≡ cond (eqb id d) o (get devices d)) →
      ((d : ℕ) → state_of d (one ∷ history) ≡ cond (eqb id d) (state_at o) (state_of d history)) →
      ((d : ℕ) (k : Kind) (code : ℕ) → is_down d k code (one ∷ history) ≡ cond (eqb id d) (down_at o k code) (is_down d k code history)) →
      StandsFor later (one ∷ history)
  changed later one id o gets states downs = record {
    states = λ d. ap state_at (gets d) ∙ state_cond (eqb id d) o (get devices d) ∙ ap (cond (eqb id d) (state_at o)) (stands.states d) ∙ sym (states d);
    downs = λ d k code.
        ap (λ (p : Option KnownDevice). down_at p k code) (gets d) ∙ down_cond (eqb id d) o (get devices d) k code ∙ ap (cond (eqb id d) (down_at o k code)) (stands.downs d k code)
        ∙ sym (downs d k code);
  }

  pub resumed : (id : ℕ) → StandsFor (with_resumed id devices) (WasResumed id ∷ history)
  resumed id = changed (with_resumed id devices) (WasResumed id) id (Some (at_rest id state.Resumed)) (λ d. inserted devices id d _) (λ d. refl) (λ d k code.
      ap (λ (b : Bool). cond (eqb id d) b (is_down d k code history)) (sym (rest_down id state.Resumed k code)))

  pub paused : (id : ℕ) → StandsFor (with_paused id devices) (WasPaused id ∷ history)
  paused id = by (get devices id) refl
    where
      by : (o : Option KnownDevice) → get devices id ≡ o → StandsFor (paused_at id o devices) (WasPaused id ∷ history)
      by None none = changed devices (WasPaused id) id None (λ d. absent_at devices id d none) (λ d. refl) (λ d k code. refl)
      by (Some v) found = changed (insert devices id (at_rest id state.Paused)) (WasPaused id) id (Some (at_rest id state.Paused)) (λ d. inserted devices id d _) (λ d. refl) (λ d k code.
          ap (λ (b : Bool). cond (eqb id d) b (is_down d k code history)) (sym (rest_down id state.Paused k code)))

  pub removed : (id : ℕ) → StandsFor (remove devices id) (WasRemoved id ∷ history)
  removed id = changed (remove devices id) (WasRemoved id) id None (λ d. removed_at devices id d) (λ d. refl) (λ d k code. refl)

  -- one that isn't kept counts as paused, and so it does where it is kept as a paused one
  pub reserved : (id : ℕ) → StandsFor (with_reserved id devices) history
  reserved id = by (get devices id) refl
    where
      states : (d : ℕ) (b : Bool) → eqb id d ≡ b → get devices id ≡ None → cond b state.Paused (state_in devices d) ≡ state_in devices d
      states d true e none = sym (ap (λ (n : ℕ). state_in devices n) (sym (eqb-true id d e)) ∙ ap state_at none)
      states d false e none = refl

      downs : (d : ℕ) (k : Kind) (code : ℕ) (b : Bool) → eqb id d ≡ b → get devices id ≡ None →
          cond b (is_down_on (at_rest id state.Paused) k code) (is_down_in devices d k code) ≡ is_down_in devices d k code
      downs d k code true e none =
          rest_down id state.Paused k code
          ∙ sym (ap (λ (n : ℕ). is_down_in devices n k code) (sym (eqb-true id d e)) ∙ ap (λ (o : Option KnownDevice). down_at o k code) none)
      downs d k code false e none = refl

      by : (o : Option KnownDevice) → get devices id ≡ o → StandsFor (reserved_at id o devices) history
      by None none = record {
        states = λ d.
            ap state_at (inserted devices id d (at_rest id state.Paused)) ∙ state_cond (eqb id d) (Some (at_rest id state.Paused)) (get devices d)
            ∙ states d (eqb id d) refl none ∙ stands.states d;
        downs = λ d k code.
            ap (λ (p : Option KnownDevice). down_at p k code) (inserted devices id d (at_rest id state.Paused))
            ∙ down_cond (eqb id d) (Some (at_rest id state.Paused)) (get devices d) k code ∙ downs d k code (eqb id d) refl none ∙ stands.downs d k code;
      }
      by (Some v) found = stands

  -- ---- a request that passed

  -- what becomes of what a request does, by the history
  abbrev judged_by : ContextType → Option Act → Verdict
  judged_by kind act = judged kind act (λ d. state_of d history) (λ d k code. is_down d k code history)

  -- a device that isn't kept passes nothing
  no_pass : (kind : ContextType) (act : Act) → get devices act.device ≡ None → judged_by kind (Some act) ≡ verdict.Pass → Unit {0} → ⊥
  no_pass role.Receiver act none passes _ = cc
  no_pass role.Sender act none passes _ =
      let e : state_of act.device history ≡ state.Paused = sym (stands.states act.device) ∙ ap state_at none in
      absurd (let p : by_state act.deed state.Paused (λ (k : Kind) (code : ℕ). is_down act.device k code history) ≡ verdict.Pass = rw e at passes in cc)

  module _ (request : EisRequest) where
    passed_act : (kind : ContextType) (act : Act) → act_of request ≡ Some act → judged_by kind (Some act) ≡ verdict.Pass → StandsFor (with_act (Some act) devices) (Passed request ∷ history)
    passed_act kind act is passes = by (get devices act.device) refl
      where
        states : (v : KnownDevice) → get devices act.device ≡ Some v → (d : ℕ) (b : Bool) → eqb act.device d ≡ b →
            cond b (state_after act.deed (state_of d history)) (state_of d history) ≡ cond b (after_deed act.deed v).state (state_of d history)
        states v found d true e = ap (state_after act.deed) (sym (stands.states d) ∙ ap (λ (n : ℕ). state_in devices n) (sym (eqb-true act.device d e)) ∙ ap state_at found) ∙ sym (deed_state act.deed v)
        states v found d false e = refl

        downs : (v : KnownDevice) → get devices act.device ≡ Some v → (d : ℕ) (k : Kind) (code : ℕ) (b : Bool) → eqb act.device d ≡ b →
            cond b (down_after k code act.deed (is_down d k code history)) (is_down d k code history) ≡ cond b (is_down_on (after_deed act.deed v) k code) (is_down d k code history)
        downs v found d k code true e =
            ap (down_after k code act.deed) (sym (stands.downs d k code) ∙ ap (λ (n : ℕ). is_down_in devices n k code) (sym (eqb-true act.device d e)) ∙ ap (λ (o : Option KnownDevice). down_at o k code) found)
            ∙ sym (deed_down act.deed v k code)
        downs v found d k code false e = refl

        by : (o : Option KnownDevice) → get devices act.device ≡ o → StandsFor (done_at act o devices) (Passed request ∷ history)
        by None none = absurd (no_pass kind act none passes tt)
        by (Some v) found = changed (insert devices act.device (after_deed act.deed v)) (Passed request) act.device (Some (after_deed act.deed v)) (λ d. inserted devices act.device d _)
            (λ d. ap (λ (a : Option Act). state_behind d a (state_of d history)) is ∙ states v found d (eqb act.device d) refl)
            (λ d k code. ap (λ (a : Option Act). down_behind k code d a (is_down d k code history)) is ∙ downs v found d k code (eqb act.device d) refl)

    passed_as : (kind : ContextType) (o : Option Act) → act_of request ≡ o → judged_by kind o ≡ verdict.Pass → StandsFor (with_act o devices) (Passed request ∷ history)
    passed_as kind None is passes = record {
      states = λ d. stands.states d ∙ sym (ap (λ (a : Option Act). state_behind d a (state_of d history)) is);
      downs = λ d k code. stands.downs d k code ∙ sym (ap (λ (a : Option Act). down_behind k code d a (is_down d k code history)) is);
    }
    passed_as kind (Some act) is passes = passed_act kind act is passes

    pub passed : (kind : ContextType) → verdict_of kind request history ≡ verdict.Pass → StandsFor (with_act (act_of request) devices) (Passed request ∷ history)
    passed kind passes = passed_as kind (act_of request) refl passes

pub first : StandsFor empty []
first = record { states = λ d. ap state_at (get-empty nat_cmp d); downs = λ d k code. ap (λ (o : Option KnownDevice). down_at o k code) (get-empty nat_cmp d) }
