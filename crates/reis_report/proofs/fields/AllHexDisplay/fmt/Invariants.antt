use Rattle.std.proofs.Common.{take}
use Rattle.std.specs.Fmt.{HasWritten, IsPlainFormatter}
use Rattle.reis_report.specs.RequestLine.{all_hex}
use Rattle.reis_report.proofs.fields.AllHexDisplay.fmt.Given as goal

-- the bytes so far are written
abbrev pub invariant-loop-byte : goal.invariant-loop-byte
invariant-loop-byte g l =
    IsPlainFormatter l.initial.f → HasWritten g.W.Write.write_str_gives l.initial.f (all_hex (take l.byte-index l.byte-items)) l.f
