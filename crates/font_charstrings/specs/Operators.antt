-- Operators of charstrings (TN 5177, 4; OpenType, CFF2 chapter) but for calls: the state after one, with the stack of operands.
use Rattle.std.specs.Prelude.{ℕ, ◌+◌, ◌-◌, ◌*◌, ◌/◌, ◌==◌, ◌||◌, nat_lt, nat_le, Bool, not, min, if◌then◌else◌, List, [], ◌∷◌, ◌++◌, length, take, slice_index, Result, Ok, Err}
use Rattle.font_bytes.specs.declared.fault.TableFault.{TableFault}
use Rattle.font_bytes.specs.declared.fault.TableFault.TheVariants.{Kind, TooLarge}
use Rattle.font_bytes.specs.Results.{and_then}
use Rattle.font_bytes.specs.Words.{need, byte, word, long}
use Rattle.font_charstrings.specs.declared.pen.Pen.{Pen}
use Rattle.font_charstrings.specs.declared.operators.Run.{Run}
use Rattle.font_charstrings.specs.Numbers.{number}
use Rattle.font_charstrings.specs.Paths.{pen_after_path, pen_after_flex}

-- some bytes further on
unfoldable pub after_bytes : Run → ℕ → Run
after_bytes r count = record { pen = r.pen; at = r.at + count; end = r.end; stems = r.stems; regions = r.regions; is_done = r.is_done }

-- with another pen
unfoldable pub with_pen : Run → Pen → Run
with_pen r pen = record { pen = pen; at = r.at; end = r.end; stems = r.stems; regions = r.regions; is_done = r.is_done }

-- with another number of stem hints
unfoldable pub with_stems : Run → ℕ → Run
with_stems r stems = record { pen = r.pen; at = r.at; end = r.end; stems = stems; regions = r.regions; is_done = r.is_done }

-- with another number of regions
unfoldable pub with_regions : Run → ℕ → Run
with_regions r regions = record { pen = r.pen; at = r.at; end = r.end; stems = r.stems; regions = regions; is_done = r.is_done }

-- the topmost operand, and those below it
unfoldable pub top_operand : ℕ → List ℕ → Result (ℕ × List ℕ) TableFault
top_operand at stack = if nat_lt 0 (length stack) then Ok (slice_index stack (length stack - 1), take (length stack - 1) stack) else Err (Kind at)

-- a number is pushed; there are at most 513 operands
unfoldable pub number_pushed : List ℕ → Run → ℕ → List ℕ → Result (Run × List ℕ) TableFault
number_pushed table r code stack = and_then (number table r.at code) (λ n.
    if nat_le 513 (length stack) then Err TooLarge else Ok (after_bytes r n.1, stack ++ n.0 ∷ []))

-- a path operator of one byte takes all operands
unfoldable pub path_drawn : Run → ℕ → List ℕ → Result (Run × List ℕ) TableFault
path_drawn r code stack = and_then (pen_after_path code r.at r.pen stack) (λ pen. Ok (with_pen (after_bytes r 1) pen, []))

-- a path operator of two bytes takes all operands
unfoldable pub flex_drawn : Run → ℕ → List ℕ → Result (Run × List ℕ) TableFault
flex_drawn r code stack = and_then (pen_after_flex code r.at r.pen stack) (λ pen. Ok (with_pen (after_bytes r 2) pen, []))

-- the number of stem hints with those of some operands, two for each; a width may be one operand more
unfoldable pub stems_of : ℕ → ℕ → Result ℕ TableFault
stems_of stems operands = if nat_lt 65535 (stems + operands / 2) then Err TooLarge else Ok (stems + operands / 2)

-- hstem, vstem, hstemhm, vstemhm
unfoldable pub stems_hinted : Run → List ℕ → Result (Run × List ℕ) TableFault
stems_hinted r stack = and_then (stems_of r.stems (length stack)) (λ n. Ok (with_stems (after_bytes r 1) n, []))

-- the bytes of a mask with a bit for each stem hint
unfoldable pub mask_bytes : ℕ → ℕ
mask_bytes stems = (stems + 7) / 8

-- hintmask, cntrmask: vertical stem hints may be before the operator, the mask is after it
unfoldable pub mask_passed : List ℕ → Run → List ℕ → Result (Run × List ℕ) TableFault
mask_passed table r stack = and_then (stems_of r.stems (length stack)) (λ n. and_then (need table (r.at + 1) (mask_bytes n)) (λ _.
    Ok (with_stems (after_bytes r (1 + mask_bytes n)) n, [])))

-- the absolute value of an operand
unfoldable pub magnitude : ℕ → ℕ
magnitude operand = if nat_lt operand 2147483648 then operand else 4294967296 - operand

-- whether an operand is below 0
unfoldable pub is_negative : ℕ → Bool
is_negative operand = nat_le 2147483648 operand

-- whether two operands are both below 0 or both not
unfoldable pub has_same_sign : ℕ → ℕ → Bool
has_same_sign a b = if is_negative a then is_negative b else not (is_negative b)

-- the quotient of two operands, to the nearest one, within 31 bits
unfoldable pub quotient_bits : ℕ → ℕ → ℕ
quotient_bits dividend divisor = let q = min ((magnitude dividend * 65536 + magnitude divisor / 2) / magnitude divisor) 2147483647 in
    if has_same_sign dividend divisor || q == 0 then q else 4294967296 - q

-- num1 num2 div
unfoldable pub after_div : Run → List ℕ → Result (Run × List ℕ) TableFault
after_div r stack = and_then (top_operand r.at stack) (λ b. and_then (top_operand r.at b.1) (λ a.
    if b.0 == 0 then Err (Kind r.at) else Ok (after_bytes r 2, a.1 ++ quotient_bits a.0 b.0 ∷ [])))

-- blend: of n values of the default instance and n deltas for each region the values are left
unfoldable pub after_blend : Run → List ℕ → Result (Run × List ℕ) TableFault
after_blend r stack = and_then (top_operand r.at stack) (λ n.
    if nat_lt (length n.1) (n.0 / 65536 + n.0 / 65536 * r.regions) then Err (Kind r.at)
    else Ok (after_bytes r 1, take (length n.1 - n.0 / 65536 * r.regions) n.1))

-- the regionIndexCount of the ItemVariationData with an index; the ItemVariationStore follows a length of two bytes
unfoldable pub regions_at : List ℕ → ℕ → ℕ → Result ℕ TableFault
regions_at table store index = and_then (need table (store + 2) 8) (λ _.
    if nat_le (word table (store + 2 + 6)) index then Err (Kind (store + 2))
    else and_then (need table (store + 2 + 8 + 4 * index) 4) (λ _.
    and_then (need table (store + 2 + long table (store + 2 + 8 + 4 * index)) 6) (λ _.
    Ok (word table (store + 2 + long table (store + 2 + 8 + 4 * index) + 4)))))

-- ivs vsindex
unfoldable pub regions_chosen : List ℕ → ℕ → Run → List ℕ → Result (Run × List ℕ) TableFault
regions_chosen table store r stack = and_then (top_operand r.at stack) (λ n. and_then (regions_at table store (n.0 / 65536)) (λ k.
    Ok (with_regions (after_bytes r 1) k, n.1)))

-- an operator of two bytes: dotsection (0), which does nothing, div (12), and the flexes
unfoldable pub after_escape : List ℕ → Run → List ℕ → Result (Run × List ℕ) TableFault
after_escape table r stack = and_then (need table (r.at + 1) 1) (λ _.
    if byte table (r.at + 1) == 0 then Ok (after_bytes r 2, stack)
    else (if byte table (r.at + 1) == 12 then after_div r stack
    else flex_drawn r (byte table (r.at + 1)) stack))
