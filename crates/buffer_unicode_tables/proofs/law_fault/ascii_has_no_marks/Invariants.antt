use Rattle.std.proofs.Common.{ℕ, ◌≡◌, ◌<◌, false}
use Rattle.unicode.specs.GeneralCategory.{general_category}
use Rattle.buffer_unicode.specs.Category.{is_mark_category}
use Rattle.buffer_unicode_tables.proofs.law_fault.ascii_has_no_marks.Given as goal

abbrev pub invariant-loop-code : goal.invariant-loop-code
invariant-loop-code l = (u : ℕ) → u < l.code → is_mark_category (general_category u) ≡ false
