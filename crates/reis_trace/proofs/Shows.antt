-- An argument's text is that of its content.
use Rattle.std.proofs.Common.{◌≡◌, ℕ, true, List, [], ◌∷◌, ◌++◌, map, Some, None, refl, ap, ◌∙◌}
use Rattle.std.specs.Prelude.{codes}
use Rattle.ei_wire.specs.ArgText.{arg_text}
use Rattle.ei_wire.specs.declared.arg.Arg.{Arg}
use Rattle.ei_wire.specs.declared.arg.Arg.TheVariants as arg
use Rattle.ei_spec.specs.Interface.{Interface, bytes_of}
use Rattle.ei_spec.specs.Value.{Value}
use Rattle.ei_backend.specs.Shown.{Shown, shown_of_arg, shown}
use Rattle.reis_trace.specs.TraceLine.{comma_before_each, commas, trace_text, shown_text}
use Rattle.reis_trace.specs.Traced.{event_line}

text_is : (a : Arg) → arg_text a ≡ shown_text (shown_of_arg a)
text_is (arg.Uint32 n) = refl
text_is (arg.Int32 z) = refl
text_is (arg.Uint64 n) = refl
text_is (arg.Int64 z) = refl
text_is (arg.Float n) = refl
text_is (arg.Fd h) = refl
text_is (arg.String None) = refl
text_is (arg.String (Some t)) = refl
text_is (arg.NewId n) = refl
text_is (arg.Id n) = refl

behind_are : (args : List Arg) → comma_before_each arg_text args ≡ comma_before_each shown_text (map shown_of_arg args)
behind_are [] = refl
behind_are (a ∷ args) = ap (λ (t : List ℕ). (codes ", " ++ t) ++ comma_before_each arg_text args) (text_is a) ∙ ap (λ (t : List ℕ). (codes ", " ++ shown_text (shown_of_arg a)) ++ t) (behind_are args)

pub texts_are : (args : List Arg) → commas arg_text args ≡ commas shown_text (map shown_of_arg args)
texts_are [] = refl
texts_are (a ∷ args) = ap (λ (t : List ℕ). t ++ comma_before_each arg_text args) (text_is a) ∙ ap (λ (t : List ℕ). shown_text (shown_of_arg a) ++ t) (behind_are args)

-- the line of an event is pushed with its newline
pub event_pushed : (old new line : List ℕ) (args : List Arg) (interface : Interface) (id opcode : ℕ) (values : List Value) → line ≡ trace_text true true (Some (bytes_of interface)) id opcode (commas arg_text args) ++ 10 ∷ [] →
    map shown_of_arg args ≡ shown true interface opcode values → new ≡ old ++ line → new ≡ old ++ event_line interface id opcode values
event_pushed old new line args interface id opcode values is shows pushed =
    let text : commas arg_text args ≡ commas shown_text (shown true interface opcode values) = texts_are args ∙ ap (λ (l : List Shown). commas shown_text l) shows in
    pushed ∙ ap (λ (l : List ℕ). old ++ l) (is ∙ ap (λ (a : List ℕ). trace_text true true (Some (bytes_of interface)) id opcode a ++ 10 ∷ []) text)
