use Rattle.std.proofs.Common.{rules}
use Rattle.script_syllabic.specs.Syllables.{without_syllable}
use Rattle.script_syllabic.proofs.clearing.without_syllables.Goals as goal

pub returns : goal.returns
returns c = c.map_glyphs.ensures without_syllable (λ g h r. search rules)
