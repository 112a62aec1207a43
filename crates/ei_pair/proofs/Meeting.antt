-- The condition of a server's call, by where the server stands, and how steady the call leaves it.
use Rattle.std.proofs.Common.{◌≡◌, ℕ, ◌<◌, ◌^◌, Bool, true, false, ◌&&◌, List, Some, None, Result, Ok, Err, refl, sym, ap, subst, ◌∙◌}
use Rattle.std.specs.Prelude.{IfOk, OnOk, OnErr, IsErrOf, ◌↔◌}
use Rattle.std.specs.Borrow.{Bor}
use Rattle.ei_spec.specs.Interface.{ObjectView}
use Rattle.ei_wire.specs.declared.error.SendError.{SendError}
use Rattle.ei_wire.specs.declared.error.SendError.TheVariants as send_error
use Rattle.ei_values.specs.declared.value.Value.{Value}
use Rattle.ei_handshake.specs.Handshaker.{HandshakerView}
use Rattle.ei_linked.specs.TwoEnds.{WorldView}
use Rattle.ei_request.specs.Connection.{ConnectionView, Unchanged}
use Rattle.ei_request.specs.Converter.{ConverterView as ServerConverter}
use Rattle.ei_promises.specs.declared.calls.ServerCall.{ServerCall}
use Rattle.ei_promises.specs.declared.calls.ServerCall.TheVariants as call
use Rattle.ei_promises.specs.declared.calls.Made.{Made}
use Rattle.ei_promises.specs.Pair.{ServerStage, Shakes, Serves, connection_in, server_done}
use Rattle.ei_promises.specs.Calling.{MeetsServer, is_steady_call, made_by}
use Rattle.ei_pair.specs.declared.server_end.ServerEnd.{ServerEnd}
use Rattle.ei_pair.specs.declared.server_end.ServerEnd.TheVariants as end
use Rattle.ei_pair.specs.Parts.{server_in}
use Rattle.ei_pair.specs.Calls.{IsNamed, MayMake, Leaves, MayMakeAt, AnswersAt, LacksIdsFor, IsLongFor, MeetsAt, steady_after}

-- ---- the condition

-- of a server whose handshake is done
pub meets_at : (s : ServerCall) (w : WorldView) (t : ServerStage) → server_done t ≡ true → ((c : ServerConverter) → t ≡ Serves c → MeetsServer s w c.handle) → MeetsAt s w t
meets_at s w (Shakes h) done may = absurd cc
meets_at s w (Serves c) done may = may c refl

names_target : (s : ServerCall) (w : WorldView) (c : ConnectionView) → MeetsServer s w c → IsNamed s
names_target (call.Input target opcode values) w c meets = meets.known
names_target s w c meets = tt

pub named_at : (s : ServerCall) (w : WorldView) (t : ServerStage) → MeetsAt s w t → IsNamed s
named_at s w (Shakes h) meets = absurd meets
named_at s w (Serves c) meets = names_target s w c.handle meets

-- no input
abbrev pub IsNoInput : ServerCall → Type 0
IsNoInput (call.Input target opcode values) = ⊥
IsNoInput s = Unit {0}

pub no_input : (s : ServerCall) → ((target : ObjectView) (opcode : ℕ) (values : Bor (List Value)) → s ≡ call.Input target opcode values → ⊥) → IsNoInput s
no_input (call.Input target opcode values) never = never target opcode values refl
no_input s never = tt

meets_makes : (s : ServerCall) (w : WorldView) (c : ConnectionView) → IsNoInput s → MeetsServer s w c → MayMake s c
meets_makes (call.Input target opcode values) w c none meets = none
meets_makes s w c none meets = meets

pub may_make_at : (s : ServerCall) (w : WorldView) (h : HandshakerView) (x : ServerEnd) → IsNoInput s → MeetsAt s w (server_in h x) → MayMakeAt s x
may_make_at s w h (end.Shaking b) none meets = meets
may_make_at s w h (end.Talking c) none meets = meets_makes s w c.handle none meets

-- ---- how steady

pub steady_served : (was : Bool) (s : ServerCall) (t : ServerStage) (h : ConnectionView) → Some h ≡ connection_in t → (was && is_steady_call s h) ≡ steady_after was s t
steady_served was s (Shakes k) h e = absurd cc
steady_served was s (Serves c) h e = let same : h ≡ c.handle = cc in ap (λ (d : ConnectionView). was && is_steady_call s d) same

pub steady_unserved : (was : Bool) (s : ServerCall) (t : ServerStage) → None ≡ connection_in t → was ≡ steady_after was s t
steady_unserved was s (Shakes k) e = refl
steady_unserved was s (Serves c) e = absurd cc

-- ---- the answer of an end that talks

pub answers_at : (s : ServerCall) (c : ServerConverter) (left : ConnectionView) (result : Result Made SendError) → IfOk result (λ m. m ≡ made_by s c.handle) → OnOk result (Leaves s c.handle left) → OnErr result (Unchanged c.handle left) →
    (IsErrOf result send_error.IdsExhausted ↔ LacksIdsFor s c.handle) → (IsErrOf result send_error.MessageTooLong ↔ IsLongFor s c.handle) → c.handle.last_serial < 2 ^ 32 → AnswersAt s (end.Talking c) result (end.Talking (record c { handle = left }))
answers_at s c left (Ok m) is ok err ids long serial = record {
  converter = c;
  was = refl;
  left = left;
  leaves = ok;
  made_is = is;
  ids = λ lacks. let never = ids.1 lacks in absurd cc;
  short = λ too_long. let never = long.1 too_long in absurd cc;
  serial = serial;
  is = refl;
}
answers_at s c left (Err e) is ok err ids long serial = record { converter = c; was = refl; left = left; unchanged = err; is = refl }

-- the same, by what the end was
pub answers_so : (s : ServerCall) (x : ServerEnd) (c : ServerConverter) (h left : ConnectionView) (result : Result Made SendError) → x ≡ end.Talking c → h ≡ c.handle → IfOk result (λ m. m ≡ made_by s h) → OnOk result (Leaves s h left) → OnErr result (Unchanged h left) →
    (IsErrOf result send_error.IdsExhausted ↔ LacksIdsFor s h) → (IsErrOf result send_error.MessageTooLong ↔ IsLongFor s h) → h.last_serial < 2 ^ 32 → AnswersAt s x result (end.Talking (record c { handle = left }))
answers_so s x c h left result is same made ok err ids long serial =
    let F : ConnectionView → Type 0 = λ g. IfOk result (λ m. m ≡ made_by s g) → OnOk result (Leaves s g left) → OnErr result (Unchanged g left) → (IsErrOf result send_error.IdsExhausted ↔ LacksIdsFor s g) → (IsErrOf result send_error.MessageTooLong ↔ IsLongFor s g) → g.last_serial < 2 ^ 32 → AnswersAt s (end.Talking c) result (end.Talking (record c { handle = left })) in
    subst (λ (y : ServerEnd). AnswersAt s y result (end.Talking (record c { handle = left }))) (sym is) (subst F (sym same) (answers_at s c left result) made ok err ids long serial)

-- ---- how steady, by the test

pub steady_then : (was : Bool) (s : ServerCall) (t : ServerStage) (h : ConnectionView) (r : Bool) → was ≡ true → Some h ≡ connection_in t → r ≡ is_steady_call s h → r ≡ steady_after was s t
steady_then was s t h r is e test = test ∙ ap (λ (b : Bool). b && is_steady_call s h) (sym is) ∙ steady_served was s t h e

pub steady_else : (was : Bool) (s : ServerCall) (t : ServerStage) (h : ConnectionView) → was ≡ false → Some h ≡ connection_in t → false ≡ steady_after was s t
steady_else was s t h is e = ap (λ (b : Bool). b && is_steady_call s h) (sym is) ∙ steady_served was s t h e
