use Rattle.std.proofs.Common.{◌≡◌, ◌≤◌, ◌==◌, true, length, drop}
use Rattle.std.specs.List.{list_all}
use Rattle.buffer_glyphs.specs.declared.info.hb_glyph_info_t.{hb_glyph_info_t as Glyph}
use Rattle.buffer_glyphs.proofs.deletion.end_run.Given as goal

-- from `at` on all glyphs are of the cluster
abbrev pub invariant-loop-at : goal.invariant-loop-at
invariant-loop-at l = record {
  within : l.at ≤ length l.glyphs;
  all : list_all (λ (k : Glyph). k.cluster == l.cluster) (drop l.at l.glyphs) ≡ true;
}

abbrev pub decreases-loop-at : goal.decreases-loop-at
decreases-loop-at l = l.at
