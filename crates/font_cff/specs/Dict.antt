-- DICT: operators, each after its operands (TN 5176, 4; OpenType, CFF2 chapter).
use Rattle.std.specs.Prelude.{ℕ, zero, suc, ◌+◌, ◌-◌, ◌*◌, ◌/◌, ◌%◌, ◌==◌, ◌&&◌, ◌||◌, nat_lt, nat_le, not, Bool, true, false, if◌then◌else◌, List, Result, Ok, Err}
use Rattle.font_bytes.specs.declared.fault.TableFault.{TableFault}
use Rattle.font_bytes.specs.declared.fault.TableFault.TheVariants.{Kind}
use Rattle.font_bytes.specs.Results.{and_then}
use Rattle.font_bytes.specs.Words.{need, byte, word, long}
use Rattle.font_charstrings.specs.declared.index.Span.{Span}
use Rattle.font_cff.specs.declared.dict.Dict.{Dict}
use Rattle.font_cff.specs.declared.dict.DictState.{DictState}

-- a DICT without values
unfoldable pub no_values : Dict
no_values = record { charset = 0; charstrings = 0; private_size = 0; private_at = 0; subrs = 0; fonts = 0; selects = 0; store = 0; vsindex = 0; is_cid = false }

-- whether a byte begins a whole number
unfoldable pub is_dict_number : ℕ → Bool
is_dict_number code = nat_le 32 code && nat_le code 254 || code == 28 || code == 29

-- the int16 of some bits, as 32 bits in two's complement
abbrev pub sign_extension : ℕ → ℕ
sign_extension bits = if nat_lt bits 32768 then bits else bits + 4294901760

-- the whole number that begins with a byte at an offset, as 32 bits in two's complement, and its length
unfoldable pub dict_number : List ℕ → ℕ → ℕ → Result (ℕ × ℕ) TableFault
dict_number table at code =
    if nat_le 32 code && nat_le code 246 then Ok ((code + 4294967157) % 4294967296, 1)
    else (if nat_le 247 code && nat_le code 250 then and_then (need table at 2) (λ _. Ok ((code - 247) * 256 + byte table (at + 1) + 108, 2))
    else (if nat_le 251 code && nat_le code 254 then and_then (need table at 2) (λ _. Ok (4294967295 - ((code - 251) * 256 + byte table (at + 1) + 107), 2))
    else (if code == 28 then and_then (need table at 3) (λ _. Ok (sign_extension (word table (at + 1)), 3))
    else and_then (need table at 5) (λ _. Ok (long table (at + 1), 5)))))

-- the values of a DICT with those of one more operator: charset, CharStrings, Private, Subrs, vsindex, vstore, and of two
-- bytes ROS (12 30), FDArray (12 36), FDSelect (12 37)
unfoldable pub with_value : Dict → ℕ → ℕ → ℕ → Dict
with_value d operator before last =
    if operator == 15 then record d { charset = last }
    else (if operator == 17 then record d { charstrings = last }
    else (if operator == 18 then record d { private_size = before; private_at = last }
    else (if operator == 19 then record d { subrs = last }
    else (if operator == 22 then record d { vsindex = last }
    else (if operator == 24 then record d { store = last }
    else (if operator == 286 then record d { is_cid = true }
    else (if operator == 292 then record d { fonts = last }
    else (if operator == 293 then record d { selects = last }
    else d))))))))

-- after an operand
unfoldable pub with_operand : DictState → ℕ → ℕ → DictState
with_operand s operand count = record { dict = s.dict; at = s.at + count; last = operand; before = s.last; is_real = false }

-- after an operator
unfoldable pub after_operator : DictState → ℕ → ℕ → DictState
after_operator s operator count = record { dict = with_value s.dict operator s.before s.last; at = s.at + count; last = 0; before = 0; is_real = false }

-- within a real number, whose value isn't read
unfoldable pub begun_real : DictState → DictState
begun_real s = record { dict = s.dict; at = s.at + 1; last = 0; before = s.last; is_real = true }

-- whether a byte has the nibble that ends a real number
unfoldable pub ends_real : ℕ → Bool
ends_real code = code / 16 == 15 || code % 16 == 15

-- after a byte of a real number
unfoldable pub real_step : DictState → ℕ → DictState
real_step s code = record { dict = s.dict; at = s.at + 1; last = s.last; before = s.before; is_real = not (ends_real code) }

-- an operand, an operator or a byte of a real number
unfoldable pub dict_step : List ℕ → DictState → Result DictState TableFault
dict_step table s = and_then (need table s.at 1) (λ _.
    if s.is_real then Ok (real_step s (byte table s.at))
    else (if is_dict_number (byte table s.at) then and_then (dict_number table s.at (byte table s.at)) (λ n. Ok (with_operand s n.0 n.1))
    else (if byte table s.at == 30 then Ok (begun_real s)
    else (if byte table s.at == 12 then and_then (need table s.at 2) (λ _. Ok (after_operator s (256 + byte table (s.at + 1)) 2))
    else (if nat_le (byte table s.at) 24 then Ok (after_operator s (byte table s.at) 1)
    else Err (Kind s.at))))))

-- n steps, or as many as there are bytes
unfoldable pub dict_runs : List ℕ → ℕ → ℕ → DictState → Result Dict TableFault
dict_runs table end zero s = Ok s.dict
dict_runs table end (suc n) s = if nat_le end s.at then Ok s.dict else and_then (dict_step table s) (dict_runs table end n)

-- before the first byte
unfoldable pub start_of : ℕ → DictState
start_of at = record { dict = no_values; at = at; last = 0; before = 0; is_real = false }

-- the DICT in some bytes
unfoldable pub dict_of : List ℕ → Span → Result Dict TableFault
dict_of table span = dict_runs table span.end (span.end - span.at) (start_of span.at)
