use Rattle.std.proofs.Common.{◌≡◌, take}
use Rattle.std.specs.Fmt.{HasWritten, IsPlainFormatter}
use Rattle.ei_wire.specs.ArgText.{arg_text}
use Rattle.reis_trace.specs.TraceLine.{commas}
use Rattle.reis_trace.proofs.Between.{gap}
use Rattle.reis_trace.proofs.line.CommasDisplay.fmt.Given as goal

-- the arguments so far are written, and what comes before the next one is known
abbrev pub invariant-loop-arg : goal.invariant-loop-arg
invariant-loop-arg g l =
    (l.between ≡ gap (take l.arg-index l.arg-items))
    × (IsPlainFormatter l.initial.f → HasWritten g.W.Write.write_str_gives l.initial.f (commas arg_text (take l.arg-index l.arg-items)) l.f)
