-- The text of tokens.
use Rattle.std.proofs.Common.{◌≡◌, ℕ, List, [], ◌++◌, ap, ◌∙◌}
use Rattle.json.specs.Token.{Token}
use Rattle.layout_face.specs.declared.parts.FaceParts.{FaceParts}
use Rattle.shell_face_print.specs.Face.{font_json, font_text}
use Rattle.json.specs.Print.{print}
use Rattle.serde_json.specs.Data.{Data}
use Rattle.serde_json.specs.Written.{compact_text}
use Rattle.serde_json.proofs.Texts.{print-outline}
use Rattle.shell_print_json.specs.Tokens.{value_tokens}

-- the tokens of a value are printed as its text
pub text_of_value : (d : Data) → print (value_tokens d) ≡ compact_text d
text_of_value d = print-outline d

-- the text of a font's tokens
pub text_of_font : (start tokens : List Token) (f g : FaceParts) (text : List ℕ)
    → text ≡ print tokens → tokens ≡ start ++ value_tokens (font_json g) → start ≡ [] → g ≡ f → text ≡ font_text f
text_of_font start tokens f g text printed grown none same =
    printed ∙ ap print (grown ∙ ap (λ s. s ++ value_tokens (font_json g)) none ∙ ap (λ p. value_tokens (font_json p)) same) ∙ text_of_value (font_json f)
