-- Which graphemes of a text have more than one character is known where no ASCII character is a mark.
use Rattle.shape_parts.proofs.Graphemes.{graphemes_are_known}
use Rattle.shape_laws.specs.Breaks.ChainLaws.{AsciiKnowsGraphemes}

pub ascii_knows_graphemes : AsciiKnowsGraphemes
ascii_knows_graphemes t ascii font flags context v r e = graphemes_are_known t font flags context v r ascii e
