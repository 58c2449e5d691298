-- What ligature words tell.
use Rattle.std.proofs.Common.{◌≡◌, ◌+◌, ◌*◌, ◌/◌, ◌%◌, refl, arith, min}
use Rattle.layout_match.specs.Laws.{WordsAreRead, LigatureWordsAreRead}

pub word_read : WordsAreRead
word_read id n x small le =
    let whole : min n 0x0FFF_FFFF ≡ n = omega (arith, le) in
    let number : (id * 0x2000_0000 + n) / 0x2000_0000 ≡ id = omega (arith, le) in
    let base : (id * 0x2000_0000 + n) / 0x1000_0000 % 2 ≡ 0 = omega (arith, le) in
    let component : (id * 0x2000_0000 + n) % 0x1000_0000 ≡ n = omega (arith, le) in
    (rw (whole, number) refl, rw (whole, base, component) refl)

pub ligature_read : LigatureWordsAreRead
ligature_read id n x small le is =
    let whole : min n 0x0FFF_FFFF ≡ n = omega (arith, le) in
    let number : (id * 0x2000_0000 + (0x1000_0000 + n)) / 0x2000_0000 ≡ id = omega (arith, le) in
    let base : (id * 0x2000_0000 + (0x1000_0000 + n)) / 0x1000_0000 % 2 ≡ 1 = omega (arith, le) in
    let component : (id * 0x2000_0000 + (0x1000_0000 + n)) % 0x1000_0000 ≡ n = omega (arith, le) in
    (rw (whole, number) refl, rw (whole, is, base, component) refl, rw (whole, base) refl)
