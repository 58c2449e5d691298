use Rattle.std.proofs.Common.{◌≡◌, take, string_bytes}
use Rattle.font_names.specs.Strings.{latin_text}
use Rattle.font_names.proofs.strings.decoded_text.Given as goal

-- the text of the bytes so far
abbrev pub invariant-loop-byte : goal.invariant-loop-byte
invariant-loop-byte l = string_bytes l.text ≡ latin_text (take l.byte-index l.bytes)
