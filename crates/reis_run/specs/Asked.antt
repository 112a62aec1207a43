-- What the program does at the words that it is started with.
use Rattle.std.specs.Prelude.{◌≡◌, ◌<◌, ◌⊎◌, ℕ, Bool, true, false, List, Option, Some, None, Ok}
use Rattle.ei_backend.specs.Outside.{Piece}
use Rattle.ei_session.specs.Setup.{Setup}
use Rattle.ei_session.specs.Complete.{AreComplete}
use Rattle.ei_serve.specs.Serving.{LeftReadings}
use Rattle.ei_serve.specs.declared.session.Ended.TheVariants as ended
use Rattle.reis_demo.specs.Generated.{demo_setup}
use Rattle.reis_demo.specs.Summary.{demo_session, demo_lines}
use Rattle.reis_lines.specs.InputText.{ForEachText}
use Rattle.reis_lines.specs.Text.{pieces_of, bad_line_of}
use Rattle.reis_run.specs.ProgramOutside.{Outside, IsTextOf, MetLineOf, InputRose, OutputRose}
use Rattle.reis_run.specs.Session.{end_of, IsReport, status_of_end, IsStatus, HasReadCause}
use Rattle.reis_run.specs.Tell.{Report, report_text, traced_text, Tells, Reports}
use Rattle.reis_run.specs.declared.words.Command.{Command}
use Rattle.reis_run.specs.declared.words.Command.TheVariants.{Serve, Trace, Demo}

-- a setup of three numbers
abbrev pub setup_with : ℕ → ℕ → ℕ → Setup
setup_with serial capabilities pieces = record { serial = serial; capabilities = capabilities; pieces = pieces }

-- less than all was told: the output failed, or memory ran out
abbrev pub IsCut : ℕ → Type 0
IsCut result = (result ≡ 4) ⊎ (result ≡ 5)

-- The session over the lines of the input is told by this text of its report, over each text that the input told or gave. The status
-- follows from the text, but for faults; it is 3 only where the input failed or the bytes that it gave have a bad line, whole, and
-- a fault of the input is told by it. Where no line is bad, the pieces make a good end sure and nothing fails, the status is 0 or 5.
pub record Serves (text_of : Report → List ℕ) (setup : Setup) (result : ℕ) (before after : Outside) : Type 0 where
  pub report : Reports (IsReport setup before after) text_of result before.output.taken after.output.taken
  pub status : ForEachText (IsTextOf before after) (λ text left. IsStatus (status_of_end (end_of setup text)) (InputRose before after) result)
  pub cause : HasReadCause result (InputRose before after) (MetLineOf before after)
  pub risen : before.input.faults < after.input.faults → (result ≡ 3) ⊎ IsCut result
  pub complete : ForEachText (IsTextOf before after) (λ text left. bad_line_of text ≡ None → AreComplete setup (pieces_of text) →
      (InputRose before after → ⊥) → (OutputRose before after → ⊥) → (result ≡ 0) ⊎ (result ≡ 5))

-- Six lines of the session over the generated stream are told, which ends with the disconnect.
pub record Demonstrates (groups start result : ℕ) (before after : Outside) : Type 0 where
  pub lines : (held : Piece) → before.output.taken ≡ Some held → Tells 0 (demo_lines groups start (Ok ended.Disconnect)) held result after.output.taken
  pub readings : result ≡ 0 → LeftReadings demo_setup (demo_session groups start).handled before.readings after.readings

-- what the program does at this command; with none it tells the usage line
abbrev pub Runs : List ℕ → Option Command → ℕ → Outside → Outside → Type 0
Runs usage (Some (Serve serial capabilities pieces)) result before after = Serves report_text (setup_with serial capabilities pieces) result before after
Runs usage (Some (Trace serial capabilities pieces)) result before after = Serves traced_text (setup_with serial capabilities pieces) result before after
Runs usage (Some (Demo groups start)) result before after = Demonstrates groups start result before after
Runs usage None result before after = (held : Piece) → before.output.taken ≡ Some held → Tells 2 usage held result after.output.taken

-- the statuses at this command: 2 exactly where there is none and all was told
abbrev pub MayAnswer : Option Command → ℕ → Type 0
MayAnswer None result = (result ≡ 2) ⊎ IsCut result
MayAnswer (Some (Demo groups start)) result = (result ≡ 0) ⊎ IsCut result
MayAnswer (Some command) result = result ≡ 2 → ⊥

-- whether a command reads the input
abbrev pub reads_input : Option Command → Bool
reads_input (Some (Serve serial capabilities pieces)) = true
reads_input (Some (Trace serial capabilities pieces)) = true
reads_input command = false
