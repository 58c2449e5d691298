use Rattle.shape_pipeline.proofs.Shaped.{same_characters}
use Rattle.shape_pipeline.proofs.shaping.shape_buffer.Goals as goal

pub shape_here-requires : goal.shape_here-requires
shape_here-requires g c =
    let text = c.requires.text in
    record { unshaped = record { closed = text.closed; unrefused = text.unrefused; characters = same_characters c.args.buffer.now text.characters } }
