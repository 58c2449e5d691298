-- What the deletion of a glyph does to the origins of the others.
use Rattle.std.proofs.Common.{◌≡◌, List, ◌∷◌, ◌++◌, length, ap, sym, ◌∙◌}
use Rattle.buffer_glyphs.specs.declared.info.hb_glyph_info_t.{hb_glyph_info_t}
use Rattle.buffer_glyphs.specs.Origins.{origins, origins_deleted}
use Rattle.buffer_glyphs.proofs.DeletedOrigins.{deletion_after_front}
use Rattle.buffer_core.specs.Sides.{Sides, origins_of}
use Rattle.buffer_core.specs.Grouping.{with_current_deleted}

-- the glyph at the cursor deleted is the event without a request
pub current_deleted_origins : (g : hb_glyph_info_t) (back : List hb_glyph_info_t) (s : Sides) → s.ahead ≡ g ∷ back → origins_of (with_current_deleted g back s) ≡ origins_deleted s.level (length s.behind) (origins_of s)
current_deleted_origins g back s at = deletion_after_front s.level s.behind g back ∙ ap (λ hs. origins_deleted s.level (length s.behind) (origins (s.behind ++ hs))) (sym at)
