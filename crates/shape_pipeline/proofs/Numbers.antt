-- What a result has.
use Rattle.std.proofs.Common.{ℕ, ◌≡◌, ◌<◌, ◌==◌, true, false, nat_le, List, [], length, arith, refl, sym, subst, ◌∙◌}
use Rattle.std.specs.Prelude.{All}
use Rattle.buffer_common.specs.declared.direction.Direction.{Direction}
use Rattle.buffer_glyphs.specs.declared.info.hb_glyph_info_t.{hb_glyph_info_t}
use Rattle.std.proofs.lemmas.Bool.{eqb-true, leb-true}
use Rattle.std.proofs.lemmas.List.{nil_from_length}
use Rattle.std.proofs.lemmas.List.Folds.{list_all-map}
use Rattle.std.proofs.lemmas.List.Sums.{AllPass-from_list_all}
use Rattle.buffer_glyphs.specs.Items.{Item, item_of, strip}
use Rattle.buffer_core.specs.Settings.{after_leave}
use Rattle.buffer_core.specs.Sides.{Sides, all_glyphs, items_of, settings_of}
use Rattle.buffer_stages.specs.Buffers.{are_glyphs}
use Rattle.buffer_stages.specs.Ready.{IsReady}
use Rattle.buffer_wrappers.specs.Wrappers.{AreGlyphs, IsGlyph}
use Rattle.shape_pipeline.specs.Results.{IsLeft, IsResultOf}

numbers_of_glyphs : (gs : List hb_glyph_info_t) → are_glyphs (strip gs) ≡ true → All IsGlyph gs
numbers_of_glyphs gs are = λ k d lt.
    leb-true _ 65535 (AllPass-from_list_all (λ (g : hb_glyph_info_t). nat_le g.glyph_id 65535) gs (sym (list_all-map (λ (x : Item). nat_le x.number 65535) item_of gs) ∙ are) k d lt)

pub result_of : (d : Direction) (s new : Sides) → settings_of new ≡ settings_of s → are_glyphs (items_of new) ≡ true → IsReady new → IsLeft d new → IsResultOf s new
result_of d s new settings are ready left = record {
  settings = settings;
  glyphs = numbers_of_glyphs (all_glyphs new) are;
  placed = ready.placed;
  unrefused = ready.unrefused;
  limits = left.limits;
}

-- ---- a text without characters

no_numbers : All IsGlyph []
no_numbers k d lt = absurd (omega (arith, lt))

pub empty_result : (s new : Sides) → new ≡ after_leave s → s.has_refused ≡ false → length s.positions ≡ length (all_glyphs s) → (length (all_glyphs s) == 0) ≡ true → IsResultOf s new
empty_result s new e unrefused placed empty =
    let none : all_glyphs s ≡ [] = nil_from_length (all_glyphs s) (eqb-true (length (all_glyphs s)) 0 empty) in
    subst (IsResultOf s) (sym e) (record {
      settings = refl;
      glyphs = subst (All IsGlyph) (sym none) no_numbers;
      placed = placed;
      unrefused = unrefused;
      limits = refl;
    })
