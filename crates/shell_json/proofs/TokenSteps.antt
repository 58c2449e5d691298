-- Tokens that are a value.
use Rattle.std.proofs.Common.{◌≡◌, ℕ, ◌-◌, ◌<◌, List, [], ◌∷◌, length, Some, option_and_then, ap, ◌∙◌}
use Rattle.json.specs.Token.{Token}
use Rattle.json.specs.Lex.{tokens}
use Rattle.json.specs.Json as json
use Rattle.json.specs.Json.{parse_map, items, members, value}
use Rattle.json.proofs.Grammar.{value-begin_array, value-begin_object}
use Rattle.serde_json.specs.Data.{Data, array, object, Items, Members, no_members}
use Rattle.serde_json.specs.Read.{of_json, of_items, of_members, converted, read}
use Rattle.shell_json.specs.TextValues.{BeginsWith}
use Rattle.shell_json.proofs.Reading.{converted_some, converted-array, converted-object}

pub object_begins : (depth : ℕ) (ts : List Token) (ms : Members) (rest : List Token) → 0 < depth
    → converted (λ js. of_members js no_members) (members (value (depth - 1)) (length ts) ts) ≡ Some (ms, rest) → BeginsWith depth (Token.begin_object ∷ ts) (object ms) rest
object_begins depth ts ms rest some e =
    ap (converted of_json) (value-begin_object depth ts some) ∙ converted-object (members (value (depth - 1)) (length ts) ts) ∙ ap (parse_map object) e

pub array_begins : (depth : ℕ) (ts : List Token) (ds : Items) (rest : List Token) → 0 < depth
    → converted of_items (items (value (depth - 1)) (length ts) ts) ≡ Some (ds, rest) → BeginsWith depth (Token.begin_array ∷ ts) (array ds) rest
array_begins depth ts ds rest some e =
    ap (converted of_json) (value-begin_array depth ts some) ∙ converted-array (items (value (depth - 1)) (length ts) ts) ∙ ap (parse_map array) e

-- a text that is one value and no more
pub last_value : (text : List ℕ) (d : Data) → BeginsWith 127 (tokens text) d [] → read text ≡ Some d
last_value text d e =
    let j = converted_some of_json (value 127 (tokens text)) d [] e in
    ap (λ o. option_and_then of_json (option_and_then (λ p. json.if_last p.0 p.1) o)) j.1 ∙ j.2
