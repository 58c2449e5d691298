use Rattle.layout_match.proofs.Lemmas.Held.{HoldsFirst, MasksFirst}
use Rattle.layout_match.proofs.text_digest.collect_glyphs.Given as goal

-- the glyphs so far were added, with their masks
abbrev pub invariant-loop-info : goal.invariant-loop-info
invariant-loop-info g l = record {
  glyphs : HoldsFirst (g.D.hb_set_digest_ext.may_contain l.digest) l.info-index l.glyphs;
  features : MasksFirst l.features l.info-index l.glyphs;
}
