-- JSON values as the tokens of a text.
use Rattle.std.specs.Prelude.{ℕ, List, [], ◌∷◌, Option, Some, None}
use Rattle.json.specs.Token.{Token, key}
use Rattle.json.specs.Tree as Tree
use Rattle.serde_json.specs.Data.{Data, Members}
use Rattle.serde_json.specs.View.{items_of}
use Rattle.serde_json.specs.Written.{outline, items_outline, members_outline}

-- the tokens of a value
abbrev pub value_tokens : Data → List Token
value_tokens d = Tree.json_tokens (outline d)

-- the tokens of the last items of an array, and of its end
abbrev pub items_tokens : List Data → List Token
items_tokens ds = Tree.items_tokens (items_outline (items_of ds))

-- the tokens of the last members of an object, and of its end
abbrev pub members_tokens : Members → List Token
members_tokens ms = Tree.members_tokens (members_outline ms)

-- the tokens of a key and its value
abbrev pub member_tokens : List ℕ → Data → List Token
member_tokens name d = key name ∷ value_tokens d

-- the tokens of a key and its value, none where it has none
abbrev pub optional_tokens : List ℕ → Option Data → List Token
optional_tokens name None = []
optional_tokens name (Some d) = member_tokens name d
