-- A message as a line of text.
use Rattle.std.specs.Prelude.{ℕ, Bool, true, false, List, [], ◌∷◌, ◌++◌, Option, codes, decimal, unwrap_or, option_and_then}
use Rattle.std.specs.Bool.{beq}
use Rattle.std.specs.List.{flat_map}
use Rattle.std.specs.Fmt.{signed_decimal}
use Rattle.ei_wire.specs.ArgText.{number_hex, word_hex, escapes}
use Rattle.ei_backend.specs.Shown.{Shown}
use Rattle.ei_backend.specs.Shown as shown
use Rattle.ei_types.specs.Operations.{operation_name}

-- the arrow before a message that comes in
abbrev pub arrow : Bool → List ℕ
arrow true = codes " -> "
arrow false = []

-- a name, or that there is none
abbrev pub name_shown : Option (List ℕ) → List ℕ
name_shown name = unwrap_or name (codes "UNKNOWN")

-- the texts of arguments, each with a comma and a blank before it
abbrev pub comma_before_each : {A : Type 0} → (A → List ℕ) → List A → List ℕ
comma_before_each text args = flat_map (λ a. codes ", " ++ text a) args

-- the texts of arguments with a comma and a blank between them
abbrev pub commas : {A : Type 0} → (A → List ℕ) → List A → List ℕ
commas text [] = []
commas text (arg ∷ args) = text arg ++ comma_before_each text args

-- the name of a message to an object of the interface: it is an event where it comes to a client or leaves a server
abbrev pub operation : Bool → Bool → Option (List ℕ) → ℕ → Option (List ℕ)
operation client incoming interface opcode = option_and_then (λ name. operation_name (beq client incoming) name opcode) interface

-- the line of a message, without its newline
abbrev pub trace_text : Bool → Bool → Option (List ℕ) → ℕ → ℕ → List ℕ → List ℕ
trace_text client incoming interface id opcode args =
    arrow incoming
    ++ (name_shown interface
    ++ (codes "@"
    ++ (number_hex id
    ++ (codes "."
    ++ (name_shown (operation client incoming interface opcode)
    ++ (codes "("
    ++ (args ++ codes ")")))))))

-- the text of an argument by its content
abbrev pub shown_text : Shown → List ℕ
shown_text (shown.Number n) = decimal n
shown_text (shown.LongNumber n) = decimal n
shown_text (shown.Integer z) = signed_decimal z
shown_text (shown.LongInteger z) = signed_decimal z
shown_text (shown.FloatWord n) = word_hex n
shown_text (shown.Descriptor h) = codes "fd " ++ decimal h.0
shown_text (shown.Text t) = codes "Some(\"" ++ (escapes t ++ codes "\")")
shown_text shown.NoText = codes "None"
shown_text (shown.NewObject n) = codes "new_id " ++ number_hex n
shown_text (shown.Object n) = codes "id " ++ number_hex n
