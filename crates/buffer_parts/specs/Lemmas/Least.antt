-- The least number of parts in order stays.
use Rattle.std.proofs.Common.{◌≡◌, ◌≤◌, List, [], ◌∷◌, arith, refl, subst, sym, ◌∙◌}
use Rattle.buffer_glyphs.specs.Parts.{after_part_events}
use Rattle.buffer_glyphs.specs.Order.{IsLeast}
use Rattle.buffer_glyphs.specs.Origins.{Origin, numbers}
use Rattle.buffer_glyphs.specs.Events.{origins_after}
use Rattle.buffer_glyphs.specs.EventParts.{parts_of}
use Rattle.buffer_glyphs.specs.Laws.{KeepsLeast}
use Rattle.buffer_glyphs.specs.Lemmas.Numbers.{Has}
use Rattle.buffer_glyphs.specs.Lemmas.Parts.{keeps_numbers}
use Rattle.buffer_parts.specs.CharacterParts.{part_after}
use Rattle.buffer_parts.specs.Laws.{OriginsKeepLeast}
use Rattle.buffer_parts.specs.Lemmas.CharacterParts.{parts_have_glyphs, parts_are_no_greater}
use Rattle.buffer_parts.specs.Lemmas.Orderly.{orderly_are_parts}
use Rattle.buffer_glyphs.proofs.Least.{no_origins, keeps_least, in_order}

pub orderly_keep_least : OriginsKeepLeast
orderly_keep_least asks level es falls os m mono h giving o l some =
    let same = orderly_are_parts asks level es os mono h (in_order falls (numbers os) o) in
    subst (IsLeast m) (sym same) (keeps_least (parts_of level es) falls (numbers os) m giving o l (λ none. some (no_origins (origins_after asks level es os) (same ∙ none))))
