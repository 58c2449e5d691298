-- Glyphs against the items of a rule, one after another.
use Rattle.std.proofs.Common.{ℕ, ◌≡◌, ◌≢◌, ◌+◌, ◌<◌, ◌≤◌, suc, Bool, true, false, ◌&&◌, List, [], ◌∷◌, length, drop, refl, ap, add-one}
use Rattle.std.specs.Prelude.{get_or}
use Rattle.std.proofs.Math.Seq.{drop-cons}
use Rattle.std.proofs.lemmas.List.{drop_all}
use Rattle.layout_face.specs.WouldApplyLookups.{fit}

pub none : (b : Bool) → (b && false) ≡ false
none true = refl
none false = refl

-- more glyphs than items, or fewer, don't fit
pub fit_uneven : {I : Type 0} (fits : I → ℕ → Bool) (items : List I) (glyphs : List ℕ) → length items ≢ length glyphs → fit fits items glyphs ≡ false
fit_uneven fits [] [] h = absurd (h refl)
fit_uneven fits [] (g ∷ gs) h = refl
fit_uneven fits (i ∷ is) [] h = refl
fit_uneven fits (i ∷ is) (g ∷ gs) h = rw (fit_uneven fits is gs (λ e. h (ap suc e))) (none (fits i g))

-- those from one on fit where it does, and those after it
pub fit_next : {I : Type 0} (fits : I → ℕ → Bool) (items : List I) (glyphs : List ℕ) (k : ℕ) (item : I) (glyph : ℕ) → k < length items → k < length glyphs → item ≡ get_or items k item → glyph ≡ get_or glyphs k glyph
    → fit fits (drop k items) (drop k glyphs) ≡ (fits item glyph && fit fits (drop (k + 1) items) (drop (k + 1) glyphs))
fit_next fits items glyphs k item glyph in_items in_glyphs is_item is_glyph =
    rw (drop-cons items k item in_items, drop-cons glyphs k glyph in_glyphs, ← is_item, ← is_glyph, add-one) refl

-- of none all fit
pub fit_end : {I : Type 0} (fits : I → ℕ → Bool) (items : List I) (glyphs : List ℕ) (k : ℕ) → length items ≤ k → length glyphs ≤ k → fit fits (drop k items) (drop k glyphs) ≡ true
fit_end fits items glyphs k a b = rw (drop_all k items a, drop_all k glyphs b) refl
