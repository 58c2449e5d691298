use Rattle.std.proofs.Common.{ap, ◌∙◌, None, true}
use Rattle.script_joining.specs.Joining.{nearest, types_of_characters}
use Rattle.script_joining.specs.Glyphs.{glyph_joined, glyphs_copied, glyphs_formed}
use Rattle.std.specs.Prelude.{map}
use Rattle.script_joining.proofs.Joined.{joined_between}
use Rattle.script_joining.proofs.masks.join_mongolian.Goals as goal

pub returns : goal.returns
returns c =
    let t = c.args.tables.now in
    joined_between t true c.args.masks.now c.args.buffer.now.pre_context c.args.buffer.now.post_context c.nearest_in_context-before.result c.nearest_in_context-after.result
    c.args.buffer.now c.keep_types.new.buffer c.flag_neighbours.new.buffer c.join.new.glyphs c.requires.flagless
    (c.nearest_in_context-before.ensures ∙ ap (λ us. nearest (types_of_characters t us)) c.pre_context.ensures)
    (c.nearest_in_context-after.ensures ∙ ap (λ us. nearest (types_of_characters t us)) c.post_context.ensures)
    c.keep_types.ensures c.flag_neighbours.ensures
    (c.join.ensures ∙ ap (λ gs. map (glyph_joined c.args.masks.now) (glyphs_copied None (glyphs_formed c.nearest_in_context-before.result c.nearest_in_context-after.result gs))) c.info_slice_mut.ensures.value)
