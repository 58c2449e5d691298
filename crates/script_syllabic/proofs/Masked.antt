-- The front of a syllable gets a feature.
use Rattle.std.proofs.Common.{ℕ, ◌≡◌, ◌≤◌, ◌<◌, ◌+◌, List, length, refl, ap, subst, ◌∙◌, arith}
use Rattle.std.specs.Prelude.{slice_range}
use Rattle.buffer_glyphs.specs.declared.info.hb_glyph_info_t.{hb_glyph_info_t}
use Rattle.buffer_glyphs.specs.Items.{item_of, strip}
use Rattle.buffer_core.specs.Sides.{Sides, all_glyphs, items_of}
use Rattle.buffer_stages.specs.Rewriting.{within}
use Rattle.buffer_stages.specs.Parts.{items_with_features}
use Rattle.buffer_stages.specs.SyllableBuffers.{IsRewritten}
use Rattle.buffer_stages.specs.Lemmas.Parts.{range_size, rewritten_part}
use Rattle.buffer_stages.specs.Lemmas.Rewritings.{counted}
use Rattle.script_syllabic.specs.Features.{reph_size, rphf_masked}
use Rattle.script_syllabic.specs.Lemmas.Sizes.{reph_within}
use Rattle.buffer_glyphs.specs.Lemmas.Origins.{slice_seen as range_seen}

size_seen : (start end n : ℕ) (gs : List hb_glyph_info_t) (a : Sides) → gs ≡ all_glyphs a → n ≡ reph_size (strip (slice_range gs start end)) → n ≡ reph_size (slice_range (items_of a) start end)
size_seen start end n gs a same e = e ∙ ap (λ hs. reph_size (strip (slice_range hs start end))) same ∙ ap reph_size (range_seen item_of start end (all_glyphs a))

pub front_within : (start end n : ℕ) (gs : List hb_glyph_info_t) (a : Sides) → start < end → end ≤ length (all_glyphs a) → gs ≡ all_glyphs a → n ≡ reph_size (strip (slice_range gs start end)) → start + n ≤ end
front_within start end n gs a lt fits same e =
    let size = range_size start end (items_of a) (omega (arith, lt)) (omega (arith, counted a, fits)) in
    let most = reph_within (slice_range (items_of a) start end) in
    omega (arith, size, most, size_seen start end n gs a same e, lt)

pub mask_rewrites_front : (mask start end n : ℕ) (gs : List hb_glyph_info_t) (a b : Sides) → start < end → end ≤ length (all_glyphs a) → gs ≡ all_glyphs a → n ≡ reph_size (strip (slice_range gs start end))
    → IsRewritten (items_with_features mask (slice_range (items_of a) start (start + n))) start (start + n) a b → IsRewritten (rphf_masked mask (slice_range (items_of a) start end)) start end a b
mask_rewrites_front mask start end n gs a b lt fits same e f =
    let xs = slice_range (items_of a) start end in
    let inside : end ≤ length (items_of a) = omega (arith, counted a, fits) in
    let last = front_within start end n gs a lt fits same e in
    let first : start ≡ start + 0 = omega arith in
    subst (λ m. IsRewritten (within 0 m (items_with_features mask) xs) start end a b) (size_seen start end n gs a same e)
    (rewritten_part (items_with_features mask) start end 0 n start (start + n) a b first refl (omega arith) last inside f)
