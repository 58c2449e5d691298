-- What an attempt that fails does to a buffer.
use Rattle.std.proofs.Common.{ℕ, ◌≡◌, ◌≤◌, ◌+◌, nat_lt, true, false, Bool, if◌then◌else◌, List, [], ◌∷◌, length, take, drop, Some, refl, sym, ap, ◌∙◌, arith}
use Rattle.std.proofs.lemmas.List.{take-map, drop-map}
use Rattle.std.proofs.Math.Seq.{take-append_seam, drop-append_seam}
use Rattle.buffer_glyphs.specs.declared.info.hb_glyph_info_t.{hb_glyph_info_t}
use Rattle.buffer_glyphs.specs.Items.{Item, item_of, strip}
use Rattle.buffer_glyphs.specs.Glyphs.{glyphs_flagged}
use Rattle.buffer_glyphs.specs.Lemmas.Glyphs.{strip_flagged}
use Rattle.buffer_glyphs.specs.Events.{Concat}
use Rattle.buffer_core.specs.Sides.{Sides, all_glyphs, origins_of, origins_by, stage_flags}
use Rattle.buffer_core.specs.Merging.{index_in_all, with_has_glyph_flags, with_glyphs}
use Rattle.buffer_core.proofs.Told.{stage_flags_ignore_glyph_flags}
use Rattle.buffer_core.specs.Marking.{requests_concat, concat_marked, end_in_all, start_in_all, with_flagged}
use Rattle.buffer_stages.specs.Buffers.{cut_of, frame_of, IsPassed, IsStill}

-- glyphs that are the same items are cut alike, also where it is told that there are glyph flags
pub cut_with_glyphs : (any : Bool) (gs : List hb_glyph_info_t) (s : Sides) → strip gs ≡ strip (all_glyphs s) → cut_of (record (with_glyphs gs s) { scratch_flags = with_has_glyph_flags any s.scratch_flags }) ≡ cut_of s
cut_with_glyphs any gs s same =
    let scratch_flags = stage_flags (with_has_glyph_flags any s.scratch_flags) in
    let front : strip (take (length s.behind) gs) ≡ strip s.behind = sym (take-map item_of (length s.behind) gs) ∙ ap (take (length s.behind)) same ∙ take-map item_of (length s.behind) (all_glyphs s) ∙ ap strip (take-append_seam s.behind s.ahead) in
    let rest : strip (drop (length s.behind) gs) ≡ strip s.ahead = sym (drop-map item_of (length s.behind) gs) ∙ ap (drop (length s.behind)) same ∙ drop-map item_of (length s.behind) (all_glyphs s) ∙ ap strip (drop-append_seam s.behind s.ahead) in
    ap (λ (xs : List Item). record (cut_of s) { front = xs; rest = strip (drop (length s.behind) gs); scratch_flags = scratch_flags }) front ∙ ap (λ (xs : List Item). record (cut_of s) { rest = xs; scratch_flags = scratch_flags }) rest ∙ ap (λ (t : ℕ). record (cut_of s) { scratch_flags = t }) (stage_flags_ignore_glyph_flags any s.scratch_flags)
