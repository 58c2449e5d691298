-- Private forms where the font may have them, after the vowels.
use Rattle.std.proofs.Common.{◌≡◌, Bool, true, false, refl, sym, subst}
use Rattle.buffer_unicode_tables.specs.Tables.{Tables}
use Rattle.layout_face.specs.declared.parts.FaceParts.{FaceParts}
use Rattle.buffer_core.specs.Readings.{always, as_it_is}
use Rattle.buffer_core.specs.Steps.{follows_same}
use Rattle.buffer_core.specs.Sides.{Sides, state_of}
use Rattle.buffer_stages.specs.Ready.{IsReady}
use Rattle.buffer_stages.specs.Stages.{IsFollowed}
use Rattle.script_thai.specs.ThaiPrivate.{with_private}
use Rattle.script_thai.specs.Texts.{private_if}

unchanged_followed : (s : Sides) → IsReady s → IsFollowed as_it_is s s
unchanged_followed s ready = record { follows = follows_same (state_of s); settings = refl; ready = ready }

pub private_followed : (b : Bool) (t : Tables) (font : FaceParts) (old new : Sides) → b ≡ true → IsFollowed (always (with_private t font)) old new → IsFollowed (private_if b t font) old new
private_followed b t font old new holds f = let P : Bool → Type 0 = λ c. IsFollowed (private_if c t font) old new in subst P (sym holds) f

pub no_private : (b : Bool) (t : Tables) (font : FaceParts) (s : Sides) → b ≡ false → IsReady s → IsFollowed (private_if b t font) s s
no_private b t font s fails ready = let P : Bool → Type 0 = λ c. IsFollowed (private_if c t font) s s in subst P (sym fails) (unchanged_followed s ready)
