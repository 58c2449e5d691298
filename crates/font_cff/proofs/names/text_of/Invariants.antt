use Rattle.std.proofs.Common.{◌≡◌, ◌++◌, drop, string_bytes}
use Rattle.font_cff.specs.Names.{text_of}
use Rattle.font_cff.proofs.names.text_of.Given as goal

-- the text so far and that of the bytes that are left are all
abbrev pub invariant-loop-byte : goal.invariant-loop-byte
invariant-loop-byte l = string_bytes l.text ++ text_of (drop l.byte-index l.bytes) ≡ text_of l.bytes
