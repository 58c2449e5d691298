-- What has to hold of the glyphs of a text that is broken into two, for the text to show what its pieces show.
use Rattle.std.specs.Prelude.{ℕ, ◌≡◌, ◌⊎◌, Bool, true, false, List, [], ◌∷◌, length, Ok}
use Rattle.buffer_glyphs.specs.Items.{Item}
use Rattle.buffer_core.specs.Readings.{BufferState, Read, Stage, View, always, as_it_is, state_after, with_events}
use Rattle.buffer_parts.specs.Breaks.Divisible.{IsBreakable, IsSpared, KeepsUnsafe, OnlySpends, StaysBreakable}
use Rattle.buffer_parts.specs.Breaks.Fragments.{AreFragments}
use Rattle.buffer_parts.specs.Breaks.Unsafe.{IsUnsafeAt}
use Rattle.buffer_parts.specs.Counting.{is_left}
use Rattle.layout_offsets.specs.Finishing.{has_attachments}
use Rattle.shape_glyphs.specs.Ignorables.{ignorables_hidden}
use Rattle.shape_glyphs.specs.Selectors.{with_selectors}
use Rattle.shape_pipeline.specs.Chains.{in_order}
use Rattle.shape_pipeline.specs.Glyphs.{glyphs_substituted, glyphs_taken}
use Rattle.shape_pipeline.specs.Positioning.{positions_adjusted}
use Rattle.shape_pipeline.specs.Reading.{positioning_stage}
use Rattle.shape_pipeline.specs.Shaping.{Shaping, postprocessing_stage}
use Rattle.shape_laws.specs.Breaks.Links.{AllLeadInside, AreUnlinked}
use Rattle.shape_laws.specs.Breaks.Texts.{AreUnnumbered}

-- a test of the items of two texts, one after the other
abbrev pub Seam : Type 0
Seam = List Item → List Item → Bool

-- the glyphs of a text are substituted as those of its fragments, and then these pass a test at the break, or it is unsafe
-- to break there
pub record SubstitutesApart (seam : Seam) (p p1 p2 : Shaping) : Type 0 where
  pub divides : (c : ℕ) (whole earlier later : BufferState) (r e l : Read) → IsBreakable whole → AreFragments false c whole earlier later → AreUnnumbered whole.view earlier.view later.view
      → glyphs_substituted p whole.view ≡ Ok r → glyphs_substituted p1 earlier.view ≡ Ok e → glyphs_substituted p2 later.view ≡ Ok l
      → IsSpared whole.level whole.view r → IsSpared earlier.level earlier.view e → IsSpared later.level later.view l
      → IsUnsafeAt c (state_after r whole).origins ⊎ (AreFragments false c (state_after r whole) (state_after e earlier) (state_after l later) × (seam e.view.items l.view.items ≡ true))
  pub breakable : StaysBreakable (glyphs_substituted p)
  pub unsafe : KeepsUnsafe (glyphs_substituted p)
  pub spends : OnlySpends (glyphs_substituted p)
  pub early_spends : OnlySpends (glyphs_substituted p1)
  pub late_spends : OnlySpends (glyphs_substituted p2)

-- no glyph is attached to another, in a text and in its fragments
pub record AreUnattached (whole earlier later : View) : Type 0 where
  pub whole_none : AreUnlinked whole.positions
  pub early_none : AreUnlinked earlier.positions
  pub late_none : AreUnlinked later.positions

-- links lead inside each fragment of a text; and there is none in the text, or in a fragment, where no glyph of it is
-- said to be attached
pub record AreLinkedApart (whole earlier later : View) : Type 0 where
  pub early_inside : AllLeadInside earlier.positions
  pub late_inside : AllLeadInside later.positions
  pub whole_flagged : has_attachments whole.scratch_flags ≡ false → AreUnlinked whole.positions
  pub early_flagged : has_attachments earlier.scratch_flags ≡ false → AreUnlinked earlier.positions
  pub late_flagged : has_attachments later.scratch_flags ≡ false → AreUnlinked later.positions

-- the glyphs of a text without attachments are positioned as those of its fragments, where these pass a test at the break:
-- glyphs are attached to others of their fragment alone, or it is unsafe to break there
pub record PositionsApart (seam : Seam) (p p1 p2 : Shaping) : Type 0 where
  pub divides : (c : ℕ) (whole earlier later : BufferState) (r e l : Read) → IsBreakable whole → AreFragments false c whole earlier later → seam earlier.view.items later.view.items ≡ true → AreUnattached whole.view earlier.view later.view
      → positions_adjusted p whole.view ≡ Ok r → positions_adjusted p1 earlier.view ≡ Ok e → positions_adjusted p2 later.view ≡ Ok l
      → IsSpared whole.level whole.view r → IsSpared earlier.level earlier.view e → IsSpared later.level later.view l
      → IsUnsafeAt c (state_after r whole).origins ⊎ (AreFragments false c (state_after r whole) (state_after e earlier) (state_after l later) × AreLinkedApart r.view e.view l.view)
  pub breakable : StaysBreakable (positions_adjusted p)
  pub unsafe : KeepsUnsafe (positions_adjusted p)
  pub spends : OnlySpends (positions_adjusted p)
  pub early_spends : OnlySpends (positions_adjusted p1)
  pub late_spends : OnlySpends (positions_adjusted p2)

-- glyphs are substituted and positioned apart
pub record GlyphsApart (seam : Seam) (p p1 p2 : Shaping) : Type 0 where
  pub substitutes : SubstitutesApart seam p p1 p2
  pub positions : PositionsApart seam p p1 p2

-- ---- the shaper's last stage

-- the pipeline stages from glyphs on, up to the shaper's last stage
abbrev pub before_end : Shaping → Stage
before_end p = in_order (
    glyphs_taken p ∷
    glyphs_substituted p ∷
    positioning_stage p ∷
    always (with_selectors p.settings.not_found_variation_selector) ∷
    always (ignorables_hidden p.settings.flags p.settings.invisible p.font) ∷
    [])

-- the shaper's last stage leaves a text as it is, which comes to its glyphs at a view; whatever it reads, it gives back no
-- budget of nested lookups
pub record EndsPlainly (p : Shaping) (v : View) : Type 0 where
  pub same : (a r : Read) → before_end p v ≡ Ok a → length a.view.positions ≡ length a.view.items → postprocessing_stage p a.view ≡ Ok r → r ≡ with_events [] a.view
  pub budget : (w : View) (r : Read) → postprocessing_stage p w ≡ Ok r → is_left r.view.max_ops ≡ true → is_left w.max_ops ≡ true

-- a shaper has no last stage
abbrev pub HasNoEnd : Shaping → Type 0
HasNoEnd p = postprocessing_stage p ≡ as_it_is
